-- What the acts of an instruction move or lend is rooted in an object that the instruction names, whose
-- scope ends at a point; and no act changes an observer itself.
use Rattle.std.proofs.Common.{◌≡◌, refl, sym, ap, ◌∙◌, subst, ◌⊎◌, inl, inr, ℕ, zero, suc, ◌<◌, Bool, true, false, ◌&&◌, ◌||◌, List, [], ◌∷◌, ◌++◌, map, length, get_or, arith, ℤ, Option, Some, None, if◌then◌else◌}
use Rattle.std.proofs.lemmas.Bool.{false≢true, true≢false}
use Rattle.std.specs.Prelude.{is_some}
use Rattle.machine.specs.spark_base.Lists.{Has}
use Rattle.soundness.proofs.Lists.{Has-append_left, Has-append_right, Has-append_cases}
use Rattle.machine.specs.spark_base.declared.position.Pos.{Pos}
use Rattle.machine.specs.place_names.declared.act.Act.{Act}
use Rattle.machine.specs.place_names.declared.act.Act.TheVariants as act
use Rattle.machine.specs.place_names.declared.act.Placed.{Placed}
use Rattle.machine.specs.place_names.declared.act.Mode.{Mode}
use Rattle.machine.specs.place_names.declared.act.Mode.TheVariants as mode
use Rattle.machine.specs.place_names.declared.fact.Fact.{Fact}
use Rattle.machine.specs.place_names.declared.fact.Fact.TheVariants.{Moved}
use Rattle.machine.specs.place_names.declared.selector.Sel.{Sel}
use Rattle.machine.specs.place_names.Facts.{adds, place}
use Rattle.machine.specs.place_names.Names.{Name as PlaceName, extend}
use Rattle.machine.specs.type_definitions.declared.judgement.View.{View}
use Rattle.machine.specs.type_definitions.declared.judgement.View.TheVariants as view
use Rattle.machine.specs.type_definitions.declared.table.Component.{Component as Part}
use Rattle.machine.specs.type_definitions.declared.table.Shape.{Shape}
use Rattle.machine.specs.type_definitions.declared.table.Shape.TheVariants as shape
use Rattle.machine.specs.type_definitions.Types.{is_nil, Table, shape_of, components_of, parts, full, view_of as view_of_shape, is_owning, is_scalar, any_owns, owns_of}
use Rattle.machine.specs.typed_tree.Trees.{TypedTree, Number, Literal, Text, Name, Component, Designated, Element, Call, EndOfFile, Parens, Image, Unary, Binary, Short, IsNull, Aggregate, Alike, New, NoMore, More}
use Rattle.machine.specs.typed_tree.Trees as typed
use Rattle.machine.specs.flow_paths.Instructions.{Instruction, Skip, Declare, Assign, Output, Input, Release, Test, Choose, Start, Next, Evaluate, LeaveLoop, Hold, EndScope, Finish, Fall}
use Rattle.machine.specs.flow_paths.Instructions as instruction
use Rattle.machine.specs.flow_paths.Objects.{Typing, passing_by, is_named_access, object_at, is_formal, is_variable, is_borrower, is_observer, is_borrowing, is_observing, is_anonymous, view_of, traverses}
use Rattle.machine.specs.flow_paths.Names.{Written, name_of, selectors, written, first, source, whole, has_call}
use Rattle.machine.specs.flow_paths.Acts.{acts_in, acts_of, used, placed, naming, observe, reborrow, target_pos, index_acts, source_acts, assigned_to, stored_acts, declared_acts, returned_acts, gives_variable, actual_act, actual_acts}
use Rattle.machine.specs.flow_paths.Views.{changes, lends, holds_loans}
use Rattle.machine.specs.Words.{component_type, element_of, no_component}
use Rattle.machine.specs.Owners.{is_in}
use Rattle.soundness.specs.Typed.{OwnsByShape}
use Rattle.soundness.specs.Sound.{IsNoCall}
use Rattle.soundness.proofs.Passing.{IsRead, AreReads}
use Rattle.soundness.specs.TypedLaws.Needed.{Matches, Stays, Leads, Gives, GivesParts, GivesFirst, Writes, FirstWrites, Source, FirstSource, IsPlace, FirstStays, Returns, IsFine}
use Rattle.soundness.specs.ViewedSoundness.Holds.{IsNamed, PartsAreNamed}
use Rattle.soundness.proofs.ViewedSoundness.Evaluated.{matches_named}
use Rattle.viewed_steps.specs.Sound.{IsCopiedBack, IsKindOfFormal, IsStoredAt}
use Rattle.accepted_runs.specs.ViewedFiles.ViewLaws.Program.{IsPassedTo, ArePassedTo}
use Rattle.viewed_steps.proofs.Read.{scalar_named}
use Rattle.viewed_steps.proofs.Called.{way_to}
use Rattle.viewed_steps.proofs.Views.{given_formal}
use Rattle.settled_types.specs.OrderLaws.ScopeLaws.Code.{roots}
use Rattle.settled_types.specs.OrderLaws.ScopeLaws.Order.{named_in}
use Rattle.accepted_runs.specs.ViewedFiles.ViewLaws.InOrder.{is_list_end, is_call, IsTraversed, NamesSource}

-- ---- types

any_has : (owns : ℕ → Bool) (cs : List Part) (i : ℕ) → i < length cs → owns (get_or cs i no_component).of ≡ true → any_owns owns cs ≡ true
any_has owns [] i less e = absurd (omega (arith, less))
any_has owns (c ∷ cs) zero less e = ap (λ b. b || any_owns owns cs) e
any_has owns (c ∷ cs) (suc i) less e = later (owns c.of) (any_owns owns cs) (any_has owns cs i (omega (arith, less)) e)
  where
    later : (a b : Bool) → b ≡ true → a || b ≡ true
    later true b e = refl
    later false b e = e

component_owns : (owns : ℕ → Bool) (sh : Shape) (i : ℕ) → i < length (components_of sh) → owns (get_or (components_of sh) i no_component).of ≡ true → owns_of owns sh ≡ true
component_owns owns (shape.Fields cs) i less e = any_has owns cs i less e
component_owns owns (shape.Whole a b) i less e = absurd (omega (arith, less))
component_owns owns (shape.Listed l a b) i less e = absurd (omega (arith, less))
component_owns owns (shape.Access d c n) i less e = absurd (omega (arith, less))
component_owns owns (shape.Elements a b el) i less e = absurd (omega (arith, less))
component_owns owns (shape.Same of) i less e = absurd (omega (arith, less))

either : (a b : Bool) → a || b ≡ true → (a ≡ true) ⊎ (b ≡ true)
either true b e = inl refl
either false b e = inr e

or_left : (a b : Bool) → a ≡ true → a || b ≡ true
or_left true b e = refl
or_left false b e = absurd (false≢true e)

or_right : (a b : Bool) → b ≡ true → a || b ≡ true
or_right true b e = refl
or_right false b e = e

both_first : (a b : Bool) → a && b ≡ true → a ≡ true
both_first true b e = refl
both_first false b e = e

both_second : (a b : Bool) → a && b ≡ true → b ≡ true
both_second true b e = e
both_second false b e = absurd (false≢true e)

and_false : (a b : Bool) → b ≡ false → a && b ≡ false
and_false true b e = e
and_false false b e = refl

true_false : (b : Bool) → b ≡ true → b ≡ false → ⊥
true_false true e f = absurd (true≢false f)
true_false false e f = absurd (false≢true e)

shape_named : (sh : Shape) → ((d : ℕ) (c n : Bool) → sh ≡ shape.Access d c n → n ≡ true) → is_anonymous (view_of_shape sh) ≡ false
shape_named (shape.Access d c n) named = ap (λ z. is_anonymous (view_of_shape (shape.Access d c z))) (named d c n refl)
shape_named (shape.Fields cs) named = refl
shape_named (shape.Whole a b) named = refl
shape_named (shape.Listed l a b) named = refl
shape_named (shape.Elements a b el) named = refl
shape_named (shape.Same of) named = refl

pub named_plain : (table : Table) (t : ℕ) → IsNamed table t → is_anonymous (full table t) ≡ false
named_plain table t named = shape_named (shape_of table t) named

-- an access type owns, or is anonymous
pub access_lasts : (owns : ℕ → Bool) (d : ℕ) (c n : Bool) → owns_of owns (shape.Access d c n) || is_anonymous (view_of_shape (shape.Access d c n)) ≡ true
access_lasts owns d c true = refl
access_lasts owns d true false = refl
access_lasts owns d false false = refl

-- an anonymous access type owns nothing
anonymous_shape : (owns : ℕ → Bool) (sh : Shape) → is_anonymous (view_of_shape sh) ≡ true → owns_of owns sh ≡ false
anonymous_shape owns (shape.Access d c true) e = absurd (false≢true e)
anonymous_shape owns (shape.Access d c false) e = refl
anonymous_shape owns (shape.Fields cs) e = absurd (false≢true e)
anonymous_shape owns (shape.Whole a b) e = refl
anonymous_shape owns (shape.Listed l a b) e = refl
anonymous_shape owns (shape.Elements a b el) e = absurd (false≢true e)
anonymous_shape owns (shape.Same of) e = absurd (false≢true e)

scalar_shape : (sh : Shape) → is_scalar (view_of_shape sh) ≡ true → is_anonymous (view_of_shape sh) ≡ true → ⊥
scalar_shape (shape.Access d c n) e f = false≢true e
scalar_shape (shape.Fields cs) e f = false≢true e
scalar_shape (shape.Whole a b) e f = false≢true f
scalar_shape (shape.Listed l a b) e f = false≢true f
scalar_shape (shape.Elements a b el) e f = false≢true e
scalar_shape (shape.Same of) e f = false≢true e

pub no_anonymous : (v : View) → is_scalar v ≡ true → is_anonymous v ≡ false
no_anonymous (view.Access d c n) e = absurd (false≢true e)
no_anonymous view.Fields e = absurd (false≢true e)
no_anonymous (view.Whole low high) e = refl
no_anonymous (view.Listed low high) e = refl
no_anonymous (view.Elements low high of) e = absurd (false≢true e)
no_anonymous _ e = refl

pub observer_anonymous : (s : Typing) (x : ℕ) → is_observer s x ≡ true → is_anonymous (view_of s x) ≡ true
observer_anonymous s x e = or_right (is_borrowing (view_of s x)) (is_observing (view_of s x)) (both_second (is_variable (object_at s x).kind) (is_observing (view_of s x)) e)

borrower_anonymous : (s : Typing) (x : ℕ) → is_borrower s x ≡ true → is_anonymous (view_of s x) ≡ true
borrower_anonymous s x e = or_left (is_borrowing (view_of s x)) (is_observing (view_of s x)) (both_second (is_variable (object_at s x).kind) (is_borrowing (view_of s x)) e)

-- The type of an object whose scope ends at a point of its own.
abbrev pub Lasts : Typing → ℕ → Type 0
Lasts s t = is_owning s.table t || is_anonymous (full s.table t) ≡ true

in_mode : (m : Mode) → (m ≡ mode.In → ⊥) → is_in m ≡ true → ⊥
in_mode mode.In back e = back refl
in_mode mode.Out back e = false≢true e
in_mode mode.InOut back e = false≢true e

-- What is none isn't some, and what is some is one.
none_some : {A B : Type 0} (x : A) → None ≡ Some x → B
none_some x e = absurd (false≢true (ap is_some e))

some_same : {A : Type 0} (x y : A) → Some x ≡ Some y → x ≡ y
some_same x y e = cc

module _ (s : Typing) (own_law : OwnsByShape s.table) (parts_named : PartsAreNamed s.table) where
  -- A part that lasts and isn't anonymous owns.
  part_owns : (t : ℕ) → IsNamed s.table t → Lasts s t → is_owning s.table t ≡ true
  part_owns t named lasts = elim (either (is_owning s.table t) (is_anonymous (full s.table t)) lasts) [
    | inl owns ↦ owns
    | inr anonymous ↦ absurd (true_false (is_anonymous (full s.table t)) anonymous (named_plain s.table t named))
  ]

  element_named : (t e : ℕ) (low high : ℤ) → shape_of s.table t ≡ shape.Elements low high e → IsNamed s.table e
  element_named t e low high is = subst (λ (z : Shape). IsNamed s.table (element_of z)) is (parts_named.element t)

  -- A name of an owning or an anonymous access type is rooted in an object of one.
  pub leads_lasts : (t : ℕ) (steps : TypedTree) (u : ℕ) → Leads s t steps u → Lasts s u → Lasts s t
  unfolding Leads
  leads_lasts t (Component i rest) u leads e =
      or_left (is_owning s.table t) (is_anonymous (full s.table t))
      (own_law t ∙ component_owns (is_owning s.table) (shape_of s.table t) i leads.0
      (part_owns (component_type s.table t i) (parts_named.component t i) (leads_lasts (component_type s.table t i) rest u leads.1 e)))
  leads_lasts t (Element index low high rest) u leads e =
      or_left (is_owning s.table t) (is_anonymous (full s.table t))
      (own_law t ∙ ap (owns_of (is_owning s.table)) leads.1
      ∙ part_owns leads.0 (element_named t leads.0 low high leads.1) (leads_lasts leads.0 rest u leads.3 e))
  leads_lasts t (Designated rest) u leads e =
      ap (λ b. b || is_anonymous (full s.table t)) (own_law t)
      ∙ ap (λ (z : Shape). owns_of (is_owning s.table) z || is_anonymous (view_of_shape z)) leads.3
      ∙ access_lasts (is_owning s.table) leads.0 leads.1 leads.2
  leads_lasts t NoMore u leads e = subst (Lasts s) (sym leads) e
  leads_lasts t _ u leads e = absurd leads

  leads_named : (t : ℕ) (steps : TypedTree) (u : ℕ) → Leads s t steps u → IsNamed s.table t → IsNamed s.table u
  unfolding Leads
  leads_named t (Component i rest) u leads named = leads_named (component_type s.table t i) rest u leads.1 (parts_named.component t i)
  leads_named t (Element index low high rest) u leads named = leads_named leads.0 rest u leads.3 (element_named t leads.0 low high leads.1)
  leads_named t (Designated rest) u leads named = leads_named leads.0 rest u leads.4 (parts_named.designated t leads.0 leads.1 leads.2 leads.3)
  leads_named t NoMore u leads named = subst (IsNamed s.table) leads named
  leads_named t _ u leads named = absurd leads

  unnamed : {A : Type 0} (u : ℕ) → IsNamed s.table u → is_anonymous (full s.table u) ≡ true → A
  unnamed u named anonymous = absurd (true_false (is_anonymous (full s.table u)) anonymous (named_plain s.table u named))

  -- An anonymous type is that of a whole object.
  pub leads_whole : (t : ℕ) (steps : TypedTree) (u : ℕ) → Leads s t steps u → is_anonymous (full s.table u) ≡ true → steps ≡ NoMore
  unfolding Leads
  leads_whole t (Component i rest) u leads e = unnamed u (leads_named (component_type s.table t i) rest u leads.1 (parts_named.component t i)) e
  leads_whole t (Element index low high rest) u leads e =
      unnamed u (leads_named leads.0 rest u leads.3 (element_named t leads.0 low high leads.1)) e
  leads_whole t (Designated rest) u leads e =
      unnamed u (leads_named leads.0 rest u leads.4 (parts_named.designated t leads.0 leads.1 leads.2 leads.3)) e
  leads_whole t NoMore u leads e = refl
  leads_whole t _ u leads e = absurd leads

  pub no_selector : (t : ℕ) (steps : TypedTree) (u : ℕ) → Leads s t steps u → selectors steps ≡ [] → t ≡ u
  unfolding Leads selectors
  no_selector t (Component i rest) u leads e = absurd (false≢true (ap is_nil e))
  no_selector t (Element index low high rest) u leads e = absurd (false≢true (ap is_nil e))
  no_selector t (Designated rest) u leads e = absurd (false≢true (ap is_nil e))
  no_selector t NoMore u leads e = leads
  no_selector t _ u leads e = absurd leads

  -- ---- borrowers and observers

  holds_none : (x : ℕ) → is_anonymous (view_of s x) ≡ false → holds_loans s x ≡ false
  holds_none x plain = by (is_variable (object_at s x).kind) (is_borrowing (view_of s x)) (is_observing (view_of s x)) plain
    where
      by : (v b o : Bool) → b || o ≡ false → (v && b) || (v && o) ≡ false
      by true b o e = e
      by false b o e = refl

  owning_plain : (t : ℕ) → is_owning s.table t ≡ true → is_anonymous (full s.table t) ≡ false
  owning_plain t owns = by (is_anonymous (full s.table t)) refl
    where
      by : (b : Bool) → is_anonymous (full s.table t) ≡ b → b ≡ false
      by true e = absurd (true_false (is_owning s.table t) owns (own_law t ∙ anonymous_shape (is_owning s.table) (shape_of s.table t) e))
      by false e = refl

  pub scalar_plain : (t : ℕ) → is_scalar (full s.table t) ≡ true → is_anonymous (full s.table t) ≡ false
  scalar_plain t scalar = by (is_anonymous (full s.table t)) refl
    where
      by : (b : Bool) → is_anonymous (full s.table t) ≡ b → b ≡ false
      by true e = absurd (scalar_shape (shape_of s.table t) scalar e)
      by false e = refl

  -- ---- acts

  -- A fact is rooted in one of these objects, and the scope of that ends at a point.
  abbrev IsOnOne : List ℕ → Fact → Type 0
  IsOnOne xs f = Has xs (place f).root × Lasts s (object_at s (place f).root).of

  -- The facts that an act adds are so; what it changes is rooted in one of these objects, which is no borrower or observer if it changes it
  -- as a whole; and so is what it lends for writing.
  abbrev pub IsGood : List ℕ → Act → Type 0
  IsGood xs a =
      ((f : Fact) → Has (adds a) f → IsOnOne xs f)
      × ((m : PlaceName) → changes a ≡ Some m → Has xs m.root × (m.sels ≡ [] → holds_loans s m.root ≡ false))
      × ((m : PlaceName) → lends a ≡ Some m → Has xs m.root)

  abbrev pub AreGood : List Placed → List ℕ → Type 0
  AreGood acts xs = (a : Placed) → Has acts a → IsGood xs a.act

  -- An act that adds no fact, and changes and lends nothing.
  abbrev IsQuiet : Act → Type 0
  IsQuiet a = ((f : Fact) → Has (adds a) f → ⊥) × ((m : PlaceName) → changes a ≡ Some m → ⊥) × ((m : PlaceName) → lends a ≡ Some m → ⊥)

  good_quiet : (xs : List ℕ) (a : Act) → IsQuiet a → IsGood xs a
  good_quiet xs a h = ((λ f new. absurd (h.0 f new)), (λ m e. absurd (h.1 m e)), (λ m e. absurd (h.2 m e)))

  good_none : (xs : List ℕ) → AreGood [] xs
  good_none xs a has = absurd has

  good_more : (ps : List Placed) (xs ys : List ℕ) → ((x : ℕ) → Has xs x → Has ys x) → AreGood ps xs → AreGood ps ys
  good_more ps xs ys part h a has = ((λ f new. (let found = (h a has).0 f new in (part (place f).root found.0, found.1))), λ m e. (let changed = (h a has).1 m e in (part m.root changed.0, changed.1)), λ m e. part m.root ((h a has).2 m e))

  good_append : (ps qs : List Placed) (xs : List ℕ) → AreGood ps xs → AreGood qs xs → AreGood (ps ++ qs) xs
  good_append ps qs xs h g a has = elim (Has-append_cases ps qs a has) [ inl l ↦ h a l | inr r ↦ g a r ]

  good_both : (ps qs : List Placed) (xs ys : List ℕ) → AreGood ps xs → AreGood qs ys → AreGood (ps ++ qs) (xs ++ ys)
  good_both ps qs xs ys h g =
      good_append ps qs (xs ++ ys) (good_more ps xs (xs ++ ys) (λ x has. Has-append_left xs ys x has) h)
      (good_more qs ys (xs ++ ys) (λ x has. Has-append_right xs ys x has) g)

  good_one : (p : Placed) (xs : List ℕ) → IsGood xs p.act → AreGood (p ∷ []) xs
  good_one p xs h a (inl e) = subst (λ (z : Placed). IsGood xs z.act) e h
  good_one p xs h a (inr never) = absurd never

  good_end : (ps : List Placed) (p : Placed) (xs : List ℕ) → AreGood ps xs → IsGood xs p.act → AreGood (ps ++ p ∷ []) xs
  good_end ps p xs h g = good_append ps (p ∷ []) xs h (good_one p xs g)

  good_if : (b : Bool) (ps : List Placed) (xs : List ℕ) → AreGood ps xs → AreGood (if b then [] else ps) xs
  good_if true ps xs h = good_none xs
  good_if false ps xs h = h

  good_root : (ps : List Placed) (x : ℕ) (xs : List ℕ) → AreGood ps xs → AreGood ps (x ∷ xs)
  good_root ps x xs h = good_more ps xs (x ∷ xs) (λ y has. inr has) h

  moved_root : (m : PlaceName) (qs : List (List Sel)) (f : Fact) → Has (map (λ q. Moved (extend m q)) qs) f → m.root ≡ (place f).root
  moved_root m [] f has = absurd has
  moved_root m (q ∷ qs) f (inl e) = ap (λ z. (place z).root) e
  moved_root m (q ∷ qs) f (inr has) = moved_root m qs f has

  -- what a whole object changes
  changed_whole : (x : ℕ) (steps : TypedTree) (u : ℕ) (m : PlaceName) → Leads s (object_at s x).of steps u → is_anonymous (full s.table u) ≡ false
      → name_of x steps ≡ m → m.sels ≡ [] → holds_loans s m.root ≡ false
  changed_whole x steps u m leads plain same none =
      let whole : (object_at s x).of ≡ u = no_selector (object_at s x).of steps u leads (ap (λ (z : PlaceName). z.sels) same ∙ none) in
      ap (λ (z : PlaceName). holds_loans s z.root) (sym same) ∙ holds_none x (ap (λ t. is_anonymous (full s.table t)) whole ∙ plain)

  used_good : (x : ℕ) (steps : TypedTree) (t : ℕ) → Leads s (object_at s x).of steps t → IsGood (x ∷ roots steps) (used s (name_of x steps) t)
  used_good x steps t leads = by (is_owning s.table t) refl
    where
      by : (b : Bool) → is_owning s.table t ≡ b → IsGood (x ∷ roots steps) (if b then act.Move (name_of x steps) (parts s.table t) else act.Read (name_of x steps))
      by true owns = (
        λ f moved.
            let root : x ≡ (place f).root = moved_root (name_of x steps) (parts s.table t) f moved in (
              inl root,
              subst (λ z. Lasts s (object_at s z).of) root
                  (leads_lasts (object_at s x).of steps t leads (or_left (is_owning s.table t) (is_anonymous (full s.table t)) owns)),
            ),
        λ m e. (let same : name_of x steps ≡ m = some_same (name_of x steps) m e in (inl (ap (λ (z : PlaceName). z.root) same), λ none. changed_whole x steps t m leads (owning_plain t owns) same none)),
        λ m e. none_some m e,
      )
      by false owns = good_quiet (x ∷ roots steps) (act.Read (name_of x steps)) ((λ name none. none), (λ m e. none_some m e), (λ m e. none_some m e))

  name_good : (p : Pos) (x : ℕ) (steps : TypedTree) (t : ℕ) → Leads s (object_at s x).of steps t → AreGood (acts_in s steps) (roots steps)
      → AreGood (acts_in s steps ++ placed p (used s (name_of x steps) t) ∷ []) (x ∷ roots steps)
  name_good p x steps t leads h =
      good_end (acts_in s steps) (placed p (used s (name_of x steps) t)) (x ∷ roots steps) (good_root (acts_in s steps) x (roots steps) h) (used_good x steps t leads)

  -- ---- expressions

  mutual
    unfolding acts_in Stays Leads roots

    stays_good : (e : TypedTree) → Stays s e → AreGood (acts_in s e) (roots e)
    stays_good (Name p x steps t) stays = name_good p x steps t stays.0 (leads_good (object_at s x).of steps t stays.0)
    stays_good (Parens e) stays = stays_good e stays
    stays_good (Unary op e) stays = stays_good e stays
    stays_good (Binary op a b) stays = good_both (acts_in s a) (acts_in s b) (roots a) (roots b) (stays_good a stays.0) (stays_good b stays.1)
    stays_good (Short op p a q b) stays =
        good_if (has_call b) (acts_in s a ++ acts_in s b) (roots a ++ roots b)
        (good_both (acts_in s a) (acts_in s b) (roots a) (roots b) (stays_good a stays.0) (stays_good b stays.1))
    stays_good (IsNull equal (Name p x steps t)) stays =
        good_end (acts_in s steps) (placed p (act.Look (name_of x steps))) (x ∷ roots steps)
        (good_root (acts_in s steps) x (roots steps) (leads_good (object_at s x).of steps t stays))
        (good_quiet (x ∷ roots steps) (act.Look (name_of x steps)) ((λ name none. none), (λ m e. none_some m e), (λ m e. none_some m e)))
    stays_good (IsNull equal (Call p sub actuals)) stays = good_none (roots actuals)
    stays_good (Number v) stays = good_none []
    stays_good (Literal v) stays = good_none []
    stays_good EndOfFile stays = good_none []
    stays_good typed.Null stays = good_none []
    stays_good (Call p sub actuals) stays = good_none (roots actuals)
    stays_good _ stays = absurd stays

    leads_good : (t : ℕ) (steps : TypedTree) (u : ℕ) → Leads s t steps u → AreGood (acts_in s steps) (roots steps)
    leads_good t (Component i rest) u leads = leads_good (component_type s.table t i) rest u leads.1
    leads_good t (Element index low high rest) u leads =
        good_both (acts_in s index) (acts_in s rest) (roots index) (roots rest) (stays_good index leads.2) (leads_good leads.0 rest u leads.3)
    leads_good t (Designated rest) u leads = leads_good leads.0 rest u leads.4
    leads_good t NoMore u leads = good_none []
    leads_good t _ u leads = absurd leads

  mutual
    unfolding acts_in Gives GivesParts GivesFirst roots

    gives_good : (want : ℕ) (e : TypedTree) → Gives s want e → AreGood (acts_in s e) (roots e)
    gives_good want (Name p x steps t) gives = name_good p x steps t gives.0 (leads_good (object_at s x).of steps t gives.0)
    gives_good want typed.Null gives = good_none []
    gives_good want (Call p sub actuals) gives = good_none (roots actuals)
    gives_good want (Aggregate t es) gives = parts_good t 0 es gives.3
    gives_good want (Alike t e) gives = gives_good _ e gives.3
    gives_good want (New t v) gives = first_good t v gives.5
    gives_good want (Number v) gives = good_none []
    gives_good want (Literal v) gives = good_none []
    gives_good want EndOfFile gives = good_none []
    gives_good want (Parens e) gives = gives_good want e gives
    gives_good want (Unary op e) gives = stays_good e gives.1
    gives_good want (Binary op a b) gives = good_both (acts_in s a) (acts_in s b) (roots a) (roots b) (stays_good a gives.1) (stays_good b gives.2)
    gives_good want (Short op p a q b) gives =
        good_if (has_call b) (acts_in s a ++ acts_in s b) (roots a ++ roots b)
        (good_both (acts_in s a) (acts_in s b) (roots a) (roots b) (stays_good a gives.1) (stays_good b gives.2))
    gives_good want (IsNull equal e) gives = stays_good (IsNull equal e) gives.1
    gives_good want _ gives = absurd gives

    parts_good : (t i : ℕ) (es : TypedTree) → GivesParts s t i es → AreGood (acts_in s es) (roots es)
    parts_good t i (More e rest) gives =
        good_both (acts_in s e) (acts_in s rest) (roots e) (roots rest) (gives_good _ e gives.0) (parts_good t (suc i) rest gives.1)
    parts_good t i NoMore gives = good_none []
    parts_good t i _ gives = absurd gives

    first_good : (t : ℕ) (v : TypedTree) → GivesFirst s t v → AreGood (acts_in s v) (roots v)
    first_good t (More e rest) gives =
        good_both (acts_in s e) (acts_in s rest) (roots e) (roots rest) (gives_good t e gives.1)
        (subst (λ z. AreGood (acts_in s z) (roots z)) (sym gives.0) (good_none []))
    first_good t NoMore gives = good_none []
    first_good t _ gives = absurd gives

  -- a list of one expression
  alone : (e rest : TypedTree) → rest ≡ NoMore → AreGood (acts_in s e) (roots e) → AreGood (acts_in s (More e rest)) (roots (More e rest))
  unfolding acts_in roots
  alone e rest none h =
      good_both (acts_in s e) (acts_in s rest) (roots e) (roots rest) h (subst (λ z. AreGood (acts_in s z) (roots z)) (sym none) (good_none []))

  nothing : AreGood (acts_in s NoMore) (roots NoMore)
  unfolding acts_in roots
  nothing = good_none []

  writes_good : (e : TypedTree) → Writes s e → AreGood (acts_in s e) (roots e)
  unfolding acts_in Writes roots
  writes_good (Text b) writes = good_none []
  writes_good (Image t e) writes = stays_good e writes
  writes_good (Parens e) writes = writes_good e writes
  writes_good (Binary op a b) writes = good_both (acts_in s a) (acts_in s b) (roots a) (roots b) (writes_good a writes.0) (writes_good b writes.1)
  writes_good _ writes = absurd writes

  first_writes : (v : TypedTree) → FirstWrites s v → AreGood (acts_in s v) (roots v)
  first_writes (More e rest) fine = alone e rest fine.0 (writes_good e fine.1)
  first_writes NoMore fine = nothing
  first_writes _ fine = absurd fine

  first_stays : (v : TypedTree) → FirstStays s v → AreGood (acts_in s v) (roots v)
  first_stays (More e rest) fine = alone e rest fine.0 (stays_good e fine.1)
  first_stays NoMore fine = nothing
  first_stays _ fine = absurd fine

  -- ---- sources that are looked at

  abbrev IsIndexed : TypedTree → Type 0
  IsIndexed (Name p x steps t) = Leads s (object_at s x).of steps t
  IsIndexed _ = Unit {0}

  source_indexed : (want : ℕ) (e : TypedTree) → Source s want e → IsIndexed e
  unfolding Gives
  source_indexed want (Name p x steps t) (inl view) = view.1.6
  source_indexed want (Name p x steps t) (inr gives) = gives.0
  source_indexed want _ source = tt

  index_good : (e : TypedTree) → IsIndexed e → AreGood (index_acts s e) (roots e)
  unfolding roots
  index_good (Name p x steps t) leads = good_root (acts_in s steps) x (roots steps) (leads_good (object_at s x).of steps t leads)
  index_good e leads = good_none (roots e)

  naming_good : (w : Option Written) (a : PlaceName → Act) (xs : List ℕ) → ((m : Written) → w ≡ Some m → IsGood xs (a m.name)) → AreGood (naming w a) xs
  naming_good None a xs good = good_none xs
  naming_good (Some w) a xs good = good_one (placed w.pos (a w.name)) xs (good w refl)

  -- The act on a source is good.
  abbrev IsGoodSource : TypedTree → (PlaceName → Act) → Type 0
  IsGoodSource e a = (w : Written) → source e ≡ Some w → IsGood (roots e) (a w.name)

  source_good : (e : TypedTree) (a : PlaceName → Act) → IsGoodSource e a → IsIndexed e → AreGood (source_acts s e a) (roots e)
  source_good e a good indexed = good_append (index_acts s e) (naming (source e) a) (roots e) (index_good e indexed) (naming_good (source e) a (roots e) good)

  first_source : (want : ℕ) (v : TypedTree) (a : PlaceName → Act) → IsGoodSource (first v) a → FirstSource s want v → AreGood (source_acts s (first v) a) (roots v)
  unfolding roots
  first_source want (More e rest) a good fine =
      good_more (source_acts s e a) (roots e) (roots e ++ roots rest) (λ x has. Has-append_left (roots e) (roots rest) x has)
      (source_good e a good (source_indexed want e fine.1))
  first_source want NoMore a good fine = good_none []
  first_source want _ a good fine = absurd fine

  -- What is looked at for a view is rooted in an object whose scope ends at a point.
  pub source_lasts : (want : ℕ) (q : Pos) (y : ℕ) (path : TypedTree) (u : ℕ) → is_anonymous (full s.table want) ≡ true → Source s want (Name q y path u)
      → Lasts s (object_at s y).of
  unfolding Gives
  source_lasts want q y path u anonymous (inl seen) =
      let view = seen.1 in
      leads_lasts (object_at s y).of path u view.6
      (ap (λ b. b || is_anonymous (full s.table u)) (own_law u)
      ∙ ap (λ z. owns_of (is_owning s.table) z || is_anonymous (view_of_shape z)) view.7
      ∙ access_lasts (is_owning s.table) view.0 view.2 view.3)
  source_lasts want q y path u anonymous (inr gives) =
      leads_lasts (object_at s y).of path u gives.0
      (or_right (is_owning s.table u) (is_anonymous (full s.table u)) (elim gives.1 [
        | inl one ↦ ap (λ z. is_anonymous (view_of_shape z)) one ∙ anonymous
        | inr scalars ↦ absurd (true_false (is_anonymous (full s.table want)) anonymous (scalar_plain want scalars.1))
      ]))

  -- an act that lends a place, and changes nothing
  abbrev IsLending : (PlaceName → Act) → Type 0
  IsLending a = (m : PlaceName) (xs : List ℕ) → Has xs m.root → Lasts s (object_at s m.root).of → IsGood xs (a m)

  borrow_lends : (h : ℕ) → IsLending (act.Borrow h)
  borrow_lends h m xs has lasts = (
    λ f new. elim new [
      | inl e ↦ subst (IsOnOne xs) e (has, lasts)
      | inr none ↦ absurd none
    ],
    λ k e. none_some k e,
    λ k e. subst (Has xs) (ap (λ (z : PlaceName). z.root) (some_same m k e)) has,
  )

  observe_lends : (h : ℕ) → IsLending (observe s h)
  observe_lends h m xs has lasts = by (is_observer s m.root)
    where
      by : (b : Bool) → IsGood xs (act.Observe h m b)
      by true = ((λ f none. absurd none), (λ k e. none_some k e), (λ k e. none_some k e))
      by false = (
        λ f new. elim new [
          | inl e ↦ subst (IsOnOne xs) e (has, lasts)
          | inr none ↦ absurd none
        ],
        λ k e. none_some k e,
        λ k e. none_some k e,
      )

  -- A source as a view may have.
  abbrev IsSourced : TypedTree → Type 0
  IsSourced e = (is_call e ≡ false) ⊎ IsTraversed s e

  -- what is called goes through what it is given first
  traversed_good : (e : TypedTree) (a : PlaceName → Act) → IsLending a → IsTraversed s e → IsGoodSource e a
  unfolding roots
  traversed_good e a lends t =
      subst (λ z. IsGoodSource z a) (sym t.is)
      (λ w named. subst (λ (z : Written). IsGood (roots (Call t.pos t.sub (More (Name t.name_pos t.root t.path t.of) t.others))) (a z.name))
      (let same : record { pos = t.name_pos; name = name_of t.root t.path; of = t.of } ≡ w = some_same _ w named in same)
      (lends (name_of t.root t.path) (roots (Call t.pos t.sub (More (Name t.name_pos t.root t.path t.of) t.others))) (inl refl) (leads_lasts (object_at s t.root).of t.path t.of t.leads t.lasts)))

  named_good : (want : ℕ) (e : TypedTree) (a : PlaceName → Act) → IsLending a → is_anonymous (full s.table want) ≡ true → is_call e ≡ false
      → Source s want e → IsGoodSource e a
  unfolding roots
  named_good want (Name p x steps t) a lends anonymous silent fine w is =
      subst (λ (z : Written). IsGood (x ∷ roots steps) (a z.name)) (let same : record { pos = p; name = name_of x steps; of = t } ≡ w = some_same _ w is in same)
      (lends (name_of x steps) (x ∷ roots steps) (inl refl) (source_lasts want p x steps t anonymous fine))
  named_good want (Call p sub actuals) a lends anonymous silent fine w is = absurd (true≢false silent)
  named_good want _ a lends anonymous silent fine w is = none_some w is

  lent_good : (want : ℕ) (e : TypedTree) (a : PlaceName → Act) → IsLending a → is_anonymous (full s.table want) ≡ true → IsSourced e
      → Source s want e → IsGoodSource e a
  lent_good want e a lends anonymous (inr traversed) fine = traversed_good e a lends traversed
  lent_good want e a lends anonymous (inl silent) fine = named_good want e a lends anonymous silent fine

  first_lent : (want : ℕ) (v : TypedTree) (a : PlaceName → Act) → IsLending a → is_anonymous (full s.table want) ≡ true → IsSourced (first v)
      → FirstSource s want v → AreGood (source_acts s (first v) a) (roots v)
  first_lent want (More e rest) a lends anonymous silent fine = first_source want (More e rest) a (lent_good want e a lends anonymous silent fine.1) fine
  first_lent want NoMore a lends anonymous silent fine = first_source want NoMore a (λ w is. none_some w is) fine
  first_lent want _ a lends anonymous silent fine = absurd fine

  give_quiet : (b : Bool) (m : PlaceName) → IsQuiet (act.Give m b)
  give_quiet b m = ((λ name none. none), (λ k e. none_some k e), (λ k e. none_some k e))

  reborrow_quiet : (h : ℕ) (m : PlaceName) → IsQuiet (act.Reborrow h m)
  reborrow_quiet h m = ((λ name none. none), (λ k e. none_some k e), (λ k e. none_some k e))

  reborrow_good : (p : Pos) (h : ℕ) (w : Option Written) (xs : List ℕ) → AreGood (reborrow p h w) xs
  reborrow_good p h None xs = good_none xs
  reborrow_good p h (Some m) xs = good_one (placed p (act.Reborrow h m.name)) xs (good_quiet xs (act.Reborrow h m.name) (reborrow_quiet h m.name))

  -- ---- instructions

  -- What is declared or assigned, of an anonymous access type, is a borrower or an observer.
  module _ (i : Instruction) (local : (x : ℕ) → IsStoredAt i x → is_anonymous (view_of s x) ≡ true → is_variable (object_at s x).kind ≡ true) where
    no_view : (x : ℕ) → IsStoredAt i x → is_borrower s x ≡ false → is_observer s x ≡ false → is_anonymous (view_of s x) ≡ true → ⊥
    no_view x stored no_borrower none anonymous =
        elim (either (is_borrowing (view_of s x)) (is_observing (view_of s x)) anonymous) [
          | inl borrows ↦ true_false (is_borrower s x) (ap (λ b. b && is_borrowing (view_of s x)) (local x stored anonymous) ∙ borrows) no_borrower
          | inr sight ↦ true_false (is_observer s x) (ap (λ b. b && is_observing (view_of s x)) (local x stored anonymous) ∙ sight) none
        ]

    given : (want : ℕ) (e : TypedTree) → (is_anonymous (full s.table want) ≡ true → ⊥) → Source s want e → Gives s want e
    given want e plain (inl view) = absurd (plain view.0)
    given want e plain (inr gives) = gives

    first_given : (want : ℕ) (v : TypedTree) → (is_anonymous (full s.table want) ≡ true → ⊥) → FirstSource s want v → AreGood (acts_in s v) (roots v)
    first_given want (More e rest) plain fine = alone e rest fine.0 (gives_good want e (given want e plain fine.1))
    first_given want NoMore plain fine = nothing
    first_given want _ plain fine = absurd fine

    declared_good : (x : ℕ) (v : TypedTree) → i ≡ Declare x v → (is_anonymous (view_of s x) ≡ true → IsSourced (first v)) → FirstSource s (object_at s x).of v → AreGood (declared_acts s x v) (roots v)
    declared_good x v here silent fine = by (is_borrower s x) (is_observer s x) refl refl
      where
        by : (b c : Bool) → is_borrower s x ≡ b → is_observer s x ≡ c
            → AreGood (if b then source_acts s (first v) (act.Borrow x) else (if c then source_acts s (first v) (observe s x) else acts_in s v)) (roots v)
        by true c e f = first_lent (object_at s x).of v (act.Borrow x) (borrow_lends x) (borrower_anonymous s x e) (silent (borrower_anonymous s x e)) fine
        by false true e f = first_lent (object_at s x).of v (observe s x) (observe_lends x) (observer_anonymous s x f) (silent (observer_anonymous s x f)) fine
        by false false e f = first_given (object_at s x).of v (no_view x (inl (v, here)) e f) fine

    stored_good : (p : Pos) (x : ℕ) (steps : TypedTree) (t u : ℕ) (e : TypedTree) → Leads s (object_at s x).of steps t → Gives s u e
        → ((m : PlaceName) → name_of x steps ≡ m → m.sels ≡ [] → holds_loans s m.root ≡ false)
        → AreGood (stored_acts s (Name p x steps t) e) (roots e ++ roots (Name p x steps t))
    unfolding roots
    stored_good p x steps t u e leads gives plain =
        good_end (acts_in s e ++ acts_in s steps) (placed p (act.Write (name_of x steps))) (roots e ++ (x ∷ roots steps))
        (good_both (acts_in s e) (acts_in s steps) (roots e) (x ∷ roots steps) (gives_good u e gives)
        (good_root (acts_in s steps) x (roots steps) (leads_good (object_at s x).of steps t leads))) (
          (λ name none. absurd none),
          λ m same. (
              let is : name_of x steps ≡ m = some_same (name_of x steps) m same in
              (Has-append_right (roots e) (x ∷ roots steps) m.root (inl (ap (λ (z : PlaceName). z.root) is)), λ none. plain m is none)),
          λ m e. none_some m e,
        )

    in_source : (e target : TypedTree) (ps : List Placed) → AreGood ps (roots e) → AreGood ps (roots e ++ roots target)
    in_source e target ps h = good_more ps (roots e) (roots e ++ roots target) (λ x has. Has-append_left (roots e) (roots target) x has) h

    -- of a part of an object
    part_good : (p : Pos) (x : ℕ) (steps : TypedTree) (t u : ℕ) (e : TypedTree) → (steps ≡ NoMore → ⊥) → (selectors steps ≡ [] → ⊥)
        → Leads s (object_at s x).of steps t → t ≡ u → Source s u e
        → AreGood (stored_acts s (Name p x steps t) e) (roots e ++ roots (Name p x steps t))
    part_good p x steps t u e part some leads same origin =
        stored_good p x steps t u e leads
        (given u e (λ anonymous. part (leads_whole (object_at s x).of steps t leads (ap (λ z. is_anonymous (full s.table z)) same ∙ anonymous))) origin)
        (λ m is none. absurd (some (ap (λ (z : PlaceName). z.sels) is ∙ none)))

    assigned_good : (pos p : Pos) (x : ℕ) (steps : TypedTree) (t u : ℕ) (e : TypedTree) → i ≡ Assign (Name p x steps t) e → Leads s (object_at s x).of steps t → t ≡ u
        → ((y : ℕ) → whole (Name p x steps t) ≡ Some y → is_anonymous (view_of s y) ≡ true → IsSourced e) → Source s u e
        → AreGood (assigned_to s pos (whole (Name p x steps t)) (Name p x steps t) e) (roots e ++ roots (Name p x steps t))
    unfolding Leads selectors
    assigned_good pos p x NoMore t u e here leads same silent origin = by (is_borrower s x) (is_observer s x) refl refl
      where
        target : TypedTree
        target = Name p x NoMore t

        by : (b c : Bool) → is_borrower s x ≡ b → is_observer s x ≡ c
            → AreGood (if b then index_acts s e ++ reborrow (target_pos pos (written (Name p x NoMore t))) x (source e)
            else (if c then source_acts s e (observe s x) else stored_acts s (Name p x NoMore t) e)) (roots e ++ roots (Name p x NoMore t))
        by true c b_is c_is =
            in_source e (Name p x NoMore t) (index_acts s e ++ reborrow (target_pos pos (written (Name p x NoMore t))) x (source e))
            (good_append (index_acts s e) (reborrow (target_pos pos (written (Name p x NoMore t))) x (source e)) (roots e)
            (index_good e (source_indexed u e origin)) (reborrow_good (target_pos pos (written (Name p x NoMore t))) x (source e) (roots e)))
        by false true b_is c_is =
            in_source e (Name p x NoMore t) (source_acts s e (observe s x))
            (source_good e (observe s x) (lent_good u e (observe s x) (observe_lends x)
            (ap (λ z. is_anonymous (full s.table z)) (sym (leads ∙ same)) ∙ observer_anonymous s x c_is) (silent x refl (observer_anonymous s x c_is)) origin) (source_indexed u e origin))
        by false false b_is c_is =
            stored_good p x NoMore t u e leads
            (given u e (λ anonymous. no_view x (inr (p, t, e, here)) b_is c_is (ap (λ z. is_anonymous (full s.table z)) (leads ∙ same) ∙ anonymous)) origin)
            (λ m is none. ap (λ (z : PlaceName). holds_loans s z.root) (sym is) ∙ (λ j. b_is j || c_is j))
    assigned_good pos p x (Component k rest) t u e here leads same silent origin =
        part_good p x (Component k rest) t u e (λ none. false≢true (ap is_list_end none)) (λ none. false≢true (ap is_nil none)) leads same origin
    assigned_good pos p x (Element index low high rest) t u e here leads same silent origin =
        part_good p x (Element index low high rest) t u e (λ none. false≢true (ap is_list_end none)) (λ none. false≢true (ap is_nil none)) leads same origin
    assigned_good pos p x (Designated rest) t u e here leads same silent origin =
        part_good p x (Designated rest) t u e (λ none. false≢true (ap is_list_end none)) (λ none. false≢true (ap is_nil none)) leads same origin
    assigned_good pos p x _ t u e here leads same silent origin = absurd leads

    target_good : (pos : Pos) (target : TypedTree) (u : ℕ) (e : TypedTree) → i ≡ Assign target e → IsPlace s target u
        → ((y : ℕ) → whole target ≡ Some y → is_anonymous (view_of s y) ≡ true → IsSourced e) → Source s u e
        → AreGood (assigned_to s pos (whole target) target e) (roots e ++ roots target)
    target_good pos (Name p x steps t) u e here there silent origin = assigned_good pos p x steps t u e here there.0 there.1 silent origin
    target_good pos _ u e here there silent origin = absurd there

    -- The place of a name, with an act that changes it and moves nothing.
    place_good : (target : TypedTree) (u : ℕ) → IsPlace s target u → is_anonymous (full s.table u) ≡ false → (a : PlaceName → Act)
        → ((m : PlaceName) (f : Fact) → Has (adds (a m)) f → ⊥) → ((m k : PlaceName) → changes (a m) ≡ Some k → m ≡ k) → ((m k : PlaceName) → lends (a m) ≡ Some k → m ≡ k)
        → AreGood (source_acts s target a) (roots target)
    unfolding roots
    place_good (Name p x steps t) u there plain a none of lent =
        good_end (acts_in s steps) (placed p (a (name_of x steps))) (x ∷ roots steps)
        (good_root (acts_in s steps) x (roots steps) (leads_good (object_at s x).of steps t there.0)) (
          (λ f new. absurd (none (name_of x steps) f new)),
          (λ m e. (
              let same : name_of x steps ≡ m = of (name_of x steps) m e in
              (inl (ap (λ (z : PlaceName). z.root) same), λ empty. changed_whole x steps t m there.0 (ap (λ z. is_anonymous (full s.table z)) there.1 ∙ plain) same empty))),
          (λ m e. inl (ap (λ (z : PlaceName). z.root) (lent (name_of x steps) m e))),
        )
    place_good _ u there plain a none of lent = absurd there

    returned_good : (result : Option ℕ) (v : TypedTree) → Returns s result v → AreGood (returned_acts s result v) (roots v)
    returned_good None v fine = subst (λ z. AreGood (acts_in s z) (roots z)) (sym fine) nothing
    returned_good (Some t) v fine = subst (λ z. AreGood (returned_acts s (Some t) z) (roots z)) (sym fine.1) (by (traverses s.table (Some t)) refl)
      where
        by : (b : Bool) → traverses s.table (Some t) ≡ b
            → AreGood (if b then source_acts s fine.0 (λ m. act.Give m (gives_variable s (Some t))) else acts_in s (More fine.0 NoMore)) (roots (More fine.0 NoMore))
        by true e = first_source t (More fine.0 NoMore) (λ m. act.Give m (gives_variable s (Some t)))
            (λ w is. good_quiet (roots fine.0) (act.Give w.name (gives_variable s (Some t))) (give_quiet (gives_variable s (Some t)) w.name)) (refl, fine.2)
        by false e =
            alone fine.0 NoMore refl
            (gives_good t fine.0 (given t fine.0 (λ anonymous. true_false (traverses s.table (Some t)) anonymous e) fine.2))

  pub instruction_good : (i : Instruction) → ((x : ℕ) → IsStoredAt i x → is_anonymous (view_of s x) ≡ true → is_variable (object_at s x).kind ≡ true)
      → (result : Option ℕ) (kept : List ℕ) (pos : Pos) → IsFine s result i → IsNoCall i → NamesSource s i
      → AreGood (acts_of (record { typing = s; result = result; roots = kept }) pos i) (named_in i)
  instruction_good Skip local result kept pos fine no_call names = good_none []
  instruction_good (Declare x v) local result kept pos fine no_call names = declared_good (Declare x v) local x v refl names fine
  instruction_good (Assign target e) local result kept pos fine no_call names =
      target_good (Assign target e) local pos target fine.0 e refl fine.1 names fine.2
  instruction_good (instruction.Call sub actuals temporary) local result kept pos fine no_call names = absurd (no_call sub actuals temporary refl)
  instruction_good (Output text line) local result kept pos fine no_call names = first_writes text fine
  instruction_good (Input target) local result kept pos fine no_call names =
      place_good (Input target) local target fine.0 fine.1 (scalar_plain fine.0 fine.2) (λ m. act.Actual m mode.Out false false) (λ m name none. none)
      (λ m k e. some_same m k e) (λ m k e. none_some k e)
  instruction_good (Release e) local result kept pos fine no_call names =
      place_good (Release e) local e fine.0 fine.2 (ap (λ z. is_anonymous (view_of_shape z)) fine.3) act.Free (λ m name none. none) (λ m k e. some_same m k e) (λ m k e. none_some k e)
  instruction_good (Test e) local result kept pos fine no_call names = stays_good e fine
  instruction_good (Choose e choices) local result kept pos fine no_call names = stays_good e fine
  instruction_good (Start x reversed low high) local result kept pos fine no_call names =
      good_both (acts_in s low) (acts_in s high) (roots low) (roots high) (stays_good low fine.1) (stays_good high fine.2)
  instruction_good (Next x reversed low high) local result kept pos fine no_call names = good_none []
  instruction_good (Evaluate temporary e left) local result kept pos fine no_call names = stays_good e fine
  instruction_good (LeaveLoop e) local result kept pos fine no_call names = first_stays e fine
  instruction_good (Hold v) local result kept pos fine no_call names = returned_good (Hold v) local result v fine
  instruction_good (EndScope x) local result kept pos fine no_call names =
      good_one (placed pos (act.EndScope x (is_borrower s x))) [] (good_quiet [] (act.EndScope x (is_borrower s x)) ((λ name none. none), (λ m e. none_some m e), (λ m e. none_some m e)))
  instruction_good Finish local result kept pos fine no_call names =
      good_one (placed pos (act.Return kept)) [] (good_quiet [] (act.Return kept) ((λ name none. none), (λ m e. none_some m e), (λ m e. none_some m e)))
  instruction_good Fall local result kept pos fine no_call names = good_none []

  -- What reads moves and changes nothing.
  pub reads_good : (acts : List Placed) (xs : List ℕ) → AreReads acts → AreGood acts xs
  reads_good acts xs reads a has = by a (reads a has)
    where
      by : (a : Placed) → IsRead a → IsGood xs a.act
      by a (m, inl e) = subst (IsGood xs) (sym e) (good_quiet xs (act.Read m) ((λ name none. none), (λ k f. none_some k f), (λ k f. none_some k f)))
      by a (m, inr e) = subst (IsGood xs) (sym e) (good_quiet xs (act.Look m) ((λ name none. none), (λ k f. none_some k f), (λ k f. none_some k f)))

  -- A place that is copied back to: nothing is moved, and no observer is changed.
  place_acted : (m : Mode) (owning access : Bool) (p : Pos) (x u t : ℕ) (steps : TypedTree) (xs : List ℕ) → ((k : PlaceName) → adds (act.Actual k m owning access) ≡ [])
      → ((k n : PlaceName) → changes (act.Actual k m owning access) ≡ Some n → k ≡ n) → ((k n : PlaceName) → lends (act.Actual k m owning access) ≡ Some n → ⊥)
      → IsPlace s (Name p x steps t) u → is_anonymous (full s.table u) ≡ false → Has xs x
      → AreGood (placed p (act.Actual (name_of x steps) m owning access) ∷ []) xs
  place_acted m owning access p x u t steps xs none same lent there plain named =
      good_one (placed p (act.Actual (name_of x steps) m owning access)) xs (
        (λ f new. absurd (subst (λ z. Has z f) (none (name_of x steps)) new)),
        (λ n e. (
            let is : name_of x steps ≡ n = same (name_of x steps) n e in
            (subst (Has xs) (ap (λ (z : PlaceName). z.root) is) named, λ empty. changed_whole x steps t n there.0 (ap (λ z. is_anonymous (full s.table z)) there.1 ∙ plain) is empty))),
        (λ n e. absurd (lent (name_of x steps) n e)),
      )

  -- a place of the type of a formal that is copied back to is of no anonymous type
  place_plain : (x u : ℕ) → IsCopiedBack s x → Matches s.table u (object_at s x).of → IsKindOfFormal s x → is_anonymous (full s.table u) ≡ false
  place_plain x u copied matches kind =
      named_plain s.table u (matches_named s.table (object_at s x).of u (flipped u (object_at s x).of matches) (named_kind kind))
    where
      flipped : (a b : ℕ) → Matches s.table a b → Matches s.table b a
      flipped a b (inl e) = inl (sym e)
      flipped a b (inr (e, f)) = inr (f, e)

      named_kind : IsKindOfFormal s x → IsNamed s.table (object_at s x).of
      named_kind (inl scalar) = scalar_named s.table (object_at s x).of scalar
      named_kind (inr (inl (back, own))) = own
      named_kind (inr (inr (inr plain))) = plain.2
      named_kind (inr (inr (inl shown))) =
          absurd (in_mode (object_at s x).mode copied (both_second (is_formal s x) (is_in (object_at s x).mode) (given_formal s x shown)))

  -- what a formal is shown is read, or lent
  shown_good : (owning access : Bool) (e : TypedTree) (xs : List ℕ) → ((y : ℕ) → Has (roots e) y → Has xs y) → AreGood (actual_act (passing_by mode.In owning access) e) xs
  unfolding roots
  shown_good false access e xs named = λ a has. absurd has
  shown_good true access (Name p y steps t) xs named =
      good_one (placed p (act.Actual (name_of y steps) mode.In true access)) xs ((λ f none. absurd none), (λ m e. none_some m e), lent access)
    where
      lent : (access : Bool) (m : PlaceName) → lends (act.Actual (name_of y steps) mode.In true access) ≡ Some m → Has xs m.root
      lent true m e = subst (Has xs) (ap (λ (z : PlaceName). z.root) (some_same (name_of y steps) m e)) (named y (inl refl))
      lent false m e = absurd (false≢true (ap is_some e))
  shown_good true access e xs named = λ a has. absurd has

  -- by the mode
  copied_good : (x : ℕ) (m : Mode) → (object_at s x).mode ≡ m → (owning access : Bool) (e : TypedTree) (xs : List ℕ) → IsKindOfFormal s x → IsPassedTo s x m e
      → ((y : ℕ) → Has (roots e) y → Has xs y) → AreGood (actual_act (passing_by m owning access) e) xs
  unfolding roots
  copied_good x mode.In is owning access e xs kind actual named = shown_good owning access e xs named
  copied_good x mode.Out is owning access (Name p y steps t) xs kind (u, there, matches) named =
      place_acted mode.Out owning access p y u t steps xs (λ k. refl) (λ k n e. some_same k n e) (λ k n e. none_some n e) there
      (place_plain x u (λ back. out_in (sym is ∙ back)) matches kind) (named y (inl refl))
    where
      out_in : mode.Out ≡ mode.In → ⊥
      out_in e = false≢true (ap is_in e)
  copied_good x mode.Out is owning access e xs kind (u, never, matches) named = absurd never
  copied_good x mode.InOut is owning access (Name p y steps t) xs kind (u, there, matches) named =
      place_acted mode.InOut owning access p y u t steps xs (λ k. refl) (λ k n e. some_same k n e) (λ k n e. none_some n e) there
      (place_plain x u (λ back. both_in (sym is ∙ back)) matches kind) (named y (inl refl))
    where
      both_in : mode.InOut ≡ mode.In → ⊥
      both_in e = false≢true (ap is_in e)
  copied_good x mode.InOut is owning access e xs kind (u, never, matches) named = absurd never

  pub copies_good : (procedure : Bool) (formals : List ℕ) (actuals : TypedTree) (xs : List ℕ) → ((x : ℕ) → Has formals x → IsKindOfFormal s x) → ArePassedTo s formals actuals
      → ((y : ℕ) → Has (roots actuals) y → Has xs y) → AreGood (actual_acts (map (way_to s own_law procedure) formals) actuals) xs
  unfolding roots
  copies_good procedure [] actuals xs kinds stay named a has = absurd has
  copies_good procedure (x ∷ formals) (More e rest) xs kinds stay named a has =
      elim (Has-append_cases (actual_act (way_to s own_law procedure x) e) (actual_acts (map (way_to s own_law procedure) formals) rest) a has) [
        | inl mine ↦ copied_good x (object_at s x).mode refl (is_owning s.table (object_at s x).of) (procedure && is_named_access (view_of s x)) e xs
            (kinds x (inl refl)) stay.0 (λ y there. named y (Has-append_left (roots e) (roots rest) y there)) a mine
        | inr others ↦ copies_good procedure formals rest xs (λ y there. kinds y (inr there)) stay.1 (λ y there. named y (Has-append_right (roots e) (roots rest) y there)) a others
      ]
  copies_good procedure (x ∷ formals) actuals xs kinds stay named a has = absurd has
