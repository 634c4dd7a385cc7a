-- What typing says of traversal functions at points: their first actuals are names; what they give is taken by views, or
-- returned by such functions; and these return null, names, or what such functions give.
use Rattle.std.proofs.Common.{◌≡◌, refl, sym, ap, ◌∙◌, subst, ◌⊎◌, inl, inr, ℕ, Bool, true, false, List, ◌∷◌, Option, Some, None}
use Rattle.std.proofs.lemmas.Bool.{false≢true, true≢false}
use Rattle.machine.specs.spark_base.declared.position.Pos.{Pos}
use Rattle.machine.specs.type_definitions.declared.table.Shape.{Shape}
use Rattle.machine.specs.type_definitions.declared.table.Shape.TheVariants as shape
use Rattle.machine.specs.type_definitions.Types.{full, shape_of, view_of}
use Rattle.machine.specs.typed_tree.Trees.{TypedTree, Name, Call as CallIn, Component, Designated, Element, NoMore, More}
use Rattle.machine.specs.typed_tree.Trees as typed
use Rattle.machine.specs.flow_paths.Instructions.{Declare, Assign, Call, Hold}
use Rattle.machine.specs.flow_paths.Objects.{Typing, object_at, sub_at, traverses, is_anonymous}
use Rattle.machine.specs.Words.{element_of, component_type}
use Rattle.soundness.specs.TypedLaws.Fine.{Has, Leads}
use Rattle.soundness.proofs.TypedLaws.Sound.{matches}
use Rattle.soundness.proofs.TypedLaws.Agreeing.{agree_access}
use Rattle.soundness.specs.TypedLaws.TypedSteps.Steps.{Taken, ActualsTaken, IsCall}
use Rattle.sound_files.specs.TypedFiles.TypedRuns.Code.{IsName, NamesFirst, ArePassed, WithinSource, IsViewSource, IsTypedUse}
use Rattle.soundness.specs.ViewedSoundness.Holds.{IsNamed, PartsAreNamed}
use Rattle.viewed_steps.specs.Traversals.{GivesView, IsSourceName}

true_is : {A : Type 0} → true ≡ false → A
true_is e = absurd (true≢false e)

abbrev IsTree : TypedTree → TypedTree → Type 0
IsTree a b = a ≡ b

pub shape_there : (z : Shape) → is_anonymous (view_of z) ≡ true → (d : ℕ) × (c : Bool) × (n : Bool) × (z ≡ shape.Access d c n) × (n ≡ false)
shape_there (shape.Access d c false) e = (d, c, false, refl, refl)
shape_there (shape.Access d true true) e = absurd (false≢true e)
shape_there (shape.Access d false true) e = absurd (false≢true e)
shape_there z e = absurd (false≢true e)

module _ (s : Typing) where
  traverses_type : (r : Option ℕ) (t : ℕ) → r ≡ Some t → traverses s.table r ≡ true → is_anonymous (full s.table t) ≡ true
  traverses_type r t is gives = sym (ap (traverses s.table) is) ∙ gives

  -- What one gives, for a place of an access type.
  call_gives : (q : Pos) (n : ℕ) (a : TypedTree) (want : ℕ) → Taken s want (CallIn q n a) → traverses s.table (sub_at s n).result ≡ true → GivesView s n want
  unfolding Has
  call_gives q n a want (inl (t, is, agree)) gives =
      let view = traverses_type (sub_at s n).result t is gives in
      let here = shape_there (shape_of s.table t) view in
      record {
        result = t;
        result_is = is;
        anonymous = view;
        d = here.0;
        c = here.1;
        m = here.2;
        gives = here.3;
        k = here.0;
        e = here.1;
        o = here.2;
        want = agree_access s.table t want here.0 here.1 here.2 agree here.3;
        fits = inl refl;
      }
  call_gives q n a want (inr (t, is, view)) gives = record {
    result = t;
    result_is = is;
    anonymous = traverses_type (sub_at s n).result t is gives;
    d = view.0;
    c = view.2;
    m = view.3;
    gives = view.6;
    k = view.1;
    e = view.4;
    o = view.5;
    want = view.7;
    fits = matches s.table view.0 view.1 view.8;
  }

  -- Where it is the whole source, the place is of an anonymous access type.
  source_view : (q : Pos) (n : ℕ) (a : TypedTree) (want : ℕ) → WithinSource s want (CallIn q n a) → traverses s.table (sub_at s n).result ≡ true → is_anonymous (full s.table want) ≡ true
  source_view q n a want within gives = elim within.2 [
    | inl none ↦ true_is (sym gives ∙ none)
    | inr view ↦ view
  ]

  -- ---- names of such places

  module _ (parts : PartsAreNamed s.table) where
    leads_named : (path : TypedTree) (t u : ℕ) → Leads s t path u → IsNamed s.table t → IsNamed s.table u
    unfolding Leads
    leads_named (Component i rest) t u leads named = leads_named rest (component_type s.table t i) u leads.1 (parts.component t i)
    leads_named (Element index low high rest) t u leads named =
        leads_named rest leads.0 u leads.3 (subst (IsNamed s.table) (ap element_of leads.1) (parts.element t))
    leads_named (Designated rest) t u leads named = leads_named rest leads.0 u leads.4 (parts.designated t leads.0 leads.1 leads.2 leads.3)
    leads_named NoMore t u leads named = subst (IsNamed s.table) leads named
    leads_named path t u leads named = absurd leads

    no_part : (u : ℕ) → IsNamed s.table u → is_anonymous (full s.table u) ≡ true → ⊥
    no_part u named view =
        (let here = shape_there (shape_of s.table u) view in let both : true ≡ false = sym (named here.0 here.1 here.2 here.3) ∙ here.4 in true_is both)

    -- A place of an anonymous access type is an object as a whole.
    whole_place : (path : TypedTree) (t u : ℕ) → Leads s t path u → is_anonymous (full s.table u) ≡ true → (path ≡ NoMore) × (t ≡ u)
    unfolding Leads
    whole_place NoMore t u leads view = (refl, leads)
    whole_place (Component i rest) t u leads view = absurd (no_part u (leads_named rest (component_type s.table t i) u leads.1 (parts.component t i)) view)
    whole_place (Element index low high rest) t u leads view =
        absurd (no_part u (leads_named rest leads.0 u leads.3 (subst (IsNamed s.table) (ap element_of leads.1) (parts.element t))) view)
    whole_place (Designated rest) t u leads view = absurd (no_part u (leads_named rest leads.0 u leads.4 (parts.designated t leads.0 leads.1 leads.2 leads.3)) view)
    whole_place path t u leads view = absurd leads

    -- ---- what takes it

    pub declares_view : (result : Option ℕ) (x : ℕ) (q : Pos) (n : ℕ) (a rest : TypedTree) → IsTypedUse s result (Declare x (More (CallIn q n a) rest))
        → traverses s.table (sub_at s n).result ≡ true → (is_anonymous (full s.table (object_at s x).of) ≡ true) × GivesView s n (object_at s x).of
    declares_view result x q n a rest taking gives =
        (source_view q n a (object_at s x).of taking.1.0 gives, call_gives q n a (object_at s x).of taking.0.1 gives)

    pub assigns_view : (result : Option ℕ) (r : Pos) (x : ℕ) (path : TypedTree) (u : ℕ) (q : Pos) (n : ℕ) (a : TypedTree)
        → IsTypedUse s result (Assign (Name r x path u) (CallIn q n a)) → traverses s.table (sub_at s n).result ≡ true
        → (path ≡ NoMore) × ((object_at s x).of ≡ u) × (is_anonymous (full s.table (object_at s x).of) ≡ true) × GivesView s n (object_at s x).of
    assigns_view result r x path u q n a ((t, place, taken), within) gives =
        let view = source_view q n a u within.0 gives in
        let whole = whole_place path (object_at s x).of u place.0 view in (
          whole.0,
          whole.1,
          ap (λ k. is_anonymous (full s.table k)) whole.1 ∙ view,
          call_gives q n a (object_at s x).of (subst (λ k. Taken s k (CallIn q n a)) (sym place.1 ∙ sym whole.1) taken) gives,
        )

    pub holds_view : (result : Option ℕ) (q : Pos) (n : ℕ) (a rest : TypedTree) → IsTypedUse s result (Hold (More (CallIn q n a) rest)) → traverses s.table (sub_at s n).result ≡ true
        → traverses s.table result ≡ true
    holds_view None q n a rest (returned, within) gives = (let no : More (CallIn q n a) rest ≡ NoMore = returned in cc)
    holds_view (Some t) q n a rest (returned, within) gives = source_view q n a t within.0.0 gives

  -- ---- what is called

  -- The first actual of one is a name.
  first_name : (n : ℕ) (given : Bool) (actuals : TypedTree) → IsCall s given n actuals → ArePassed s n actuals → traverses s.table (sub_at s n).result ≡ true
      → (f : ℕ) (rest : List ℕ) → (sub_at s n).formals ≡ f ∷ rest
      → (q : Pos) × (y : ℕ) × (path : TypedTree) × (u : ℕ) × (more : TypedTree) × (actuals ≡ More (Name q y path u) more)
  first_name n given actuals call passed gives f rest formals = by actuals (subst (λ fs. ActualsTaken s fs actuals) formals call.0) passed.1
    where
      named : (e more : TypedTree) → IsName e → (q : Pos) × (y : ℕ) × (path : TypedTree) × (u : ℕ) × (others : TypedTree) × IsTree (More e more) (More (Name q y path u) others)
      named (Name q y path u) more is = (q, y, path, u, more, refl)
      named e more is = absurd is

      by : (actuals : TypedTree) → ActualsTaken s (f ∷ rest) actuals → NamesFirst s (sub_at s n) actuals
          → (q : Pos) × (y : ℕ) × (path : TypedTree) × (u : ℕ) × (more : TypedTree) × (actuals ≡ More (Name q y path u) more)
      by (More e more) taken first = named e more (first gives)
      by actuals taken first = absurd taken

  pub called_name : (result : Option ℕ) (n : ℕ) (actuals : TypedTree) (r : Option ℕ) → IsTypedUse s result (Call n actuals r) → traverses s.table (sub_at s n).result ≡ true
      → (f : ℕ) (rest : List ℕ) → (sub_at s n).formals ≡ f ∷ rest
      → (q : Pos) × (y : ℕ) × (path : TypedTree) × (u : ℕ) × (more : TypedTree) × (actuals ≡ More (Name q y path u) more)
  called_name result n actuals r taking gives f rest formals = first_name n _ actuals taking.0 taking.1.0 gives f rest formals

  -- ---- what one returns

  pub returns_source : (result : Option ℕ) (e last : TypedTree) (of : ℕ) → IsTypedUse s result (Hold (More e last)) → result ≡ Some of → is_anonymous (full s.table of) ≡ true
      → ((n : ℕ) → traverses s.table (sub_at s n).result ≡ true → (f : ℕ) × (rest : List ℕ) × ((sub_at s n).formals ≡ f ∷ rest))
      → (e ≡ typed.Null) ⊎ ((q : Pos) × (y : ℕ) × (path : TypedTree) × (u : ℕ) × IsSourceName s of e q y path u)
  returns_source None e last of taking is view first = cc
  returns_source (Some t) e last of (returned, within) is view first =
      by e (subst (λ k. Taken s k e) same (head_taken e last t returned)) (subst (λ k. WithinSource s k e) same within.0.0) (within.1 (ap (λ k. is_anonymous (full s.table k)) same ∙ view))
    where
      same : t ≡ of
      same = cc

      head_taken : (e last : TypedTree) (t : ℕ) → ((z : TypedTree) × IsTree (More e last) (More z NoMore) × Taken s t z) → Taken s t e
      head_taken e last t (z, here, taken) = (let one : z ≡ e = cc in subst (Taken s t) one taken)

      by : (e : TypedTree) → Taken s of e → WithinSource s of e → IsViewSource s e
          → (e ≡ typed.Null) ⊎ ((q : Pos) × (y : ℕ) × (path : TypedTree) × (u : ℕ) × IsSourceName s of e q y path u)
      by typed.Null taken inside source = inl refl
      by (Name q y path u) taken inside source = inr (q, y, path, u, inl refl)
      by (CallIn r n a) taken inside source =
          let formal = first n source in
          let name = first_name n true a inside.0 inside.1 source formal.0 formal.1 formal.2 in
          inr (name.0, name.1, name.2, name.3, inr (r, n, name.4, ap (CallIn r n) name.5, call_gives r n a of taken source))
      by e taken inside source = absurd source
