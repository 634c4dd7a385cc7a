-- Declarations of borrowers and observers and assignments to them, by what typing says of their
-- sources.
use Rattle.soundness.proofs.ViewedSoundness.ViewKinds.{variable_given}
use Rattle.std.proofs.Common.{◌≡◌, refl, sym, ap, ◌∙◌, subst, ◌⊎◌, inl, inr, ℕ, ◌<◌, Bool, true, false, not, ◌&&◌, List, [], ◌∷◌, length, Some}
use Rattle.std.proofs.lemmas.Bool.{false≢true}
use Rattle.machine.specs.spark_base.declared.position.Pos.{Pos}
use Rattle.machine.specs.place_names.declared.fact.Fact.{Fact}
use Rattle.machine.specs.type_definitions.declared.table.Shape.{Shape}
use Rattle.machine.specs.type_definitions.declared.table.Shape.TheVariants as shape
use Rattle.machine.specs.type_definitions.Types.{shape_of, is_scalar, view_of as view_of_shape}
use Rattle.machine.specs.typed_tree.Trees.{TypedTree, Name, Component, Designated, Element, NoMore, More}
use Rattle.machine.specs.typed_tree.declared.object.ObjectKind.{ObjectKind}
use Rattle.machine.specs.typed_tree.declared.object.ObjectKind.TheVariants as object_kind
use Rattle.machine.specs.flow_paths.Objects.{Typing, object_at, is_variable, is_formal_kind, is_anonymous, is_borrowing, is_observing, is_borrower, is_observer, view_of}
use Rattle.machine.specs.flow_paths.Names.{waiting as waits_in}
use Rattle.machine.specs.flow_paths.Scopes.{taken}
use Rattle.machine.specs.flow_paths.Acts.{declared_acts, assigned_to}
use Rattle.machine.specs.Words as machine
use Rattle.machine.specs.States.{Outcome}
use Rattle.machine.specs.Step.{Turn, typing, taken_by, target_pos}
use Rattle.soundness.specs.OwnedWays.Ways.{Way, after, AllowsAll}
use Rattle.soundness.specs.PartOffsets.Parts.{IsSettled}
use Rattle.soundness.specs.Seen.{IsNear, home}
use Rattle.soundness.specs.Typed.{OwnsByShape}
use Rattle.soundness.specs.TypedLaws.Needed.{Leads, Gives, Source}
use Rattle.soundness.proofs.Scalars.{acts}
use Rattle.soundness.proofs.Taking.{Takes}
use Rattle.soundness.specs.OwnedLoans.Views.{Around, Views, Unused}
use Rattle.soundness.specs.ViewedSoundness.Holds.{IsNamed, PartsAreNamed, is_given, Seeing}
use Rattle.soundness.proofs.ViewedSoundness.Outcomes.{IsGood, Leads_on}
use Rattle.soundness.proofs.ViewedSoundness.Lends.{Observes, Declares, Puts, borrower_on, observer_on, observer_again_on, assign_borrower_on, assign_observer_on}
use Rattle.viewed_steps.proofs.Ended.{view_kinds}
use Rattle.viewed_steps.proofs.Views.{AreAccess}

-- ---- types of views

pub view_shape : (sh : Shape) → is_anonymous (view_of_shape sh) ≡ true → (k : ℕ) × (e : Bool) × (o : Bool) × (sh ≡ shape.Access k e o)
view_shape (shape.Access k e o) view = (k, e, o, refl)
view_shape (shape.Whole a b) view = absurd (false≢true view)
view_shape (shape.Listed l a b) view = absurd (false≢true view)
view_shape (shape.Fields cs) view = absurd (false≢true view)
view_shape (shape.Elements a b el) view = absurd (false≢true view)
view_shape (shape.Same of) view = absurd (false≢true view)

pub view_scalar : (sh : Shape) → is_anonymous (view_of_shape sh) ≡ true → is_scalar (view_of_shape sh) ≡ true → ⊥
view_scalar sh view scalar = by_shape (view_shape sh view)
  where
    by_shape : ((k : ℕ) × (e : Bool) × (o : Bool) × (sh ≡ shape.Access k e o)) → ⊥
    by_shape (k, e, o, is) = (let no : false ≡ true = sym (ap (λ z. is_scalar (view_of_shape z)) is) ∙ scalar in absurd (false≢true no))

exclusive : (sh : Shape) → is_observing (view_of_shape sh) ≡ true → is_borrowing (view_of_shape sh) ≡ false
exclusive (shape.Access k true o) sight = constant o
  where
    constant : (o : Bool) → not o && false ≡ false
    constant true = refl
    constant false = refl
exclusive (shape.Access k false true) sight = refl
exclusive (shape.Access k false false) sight = absurd (false≢true sight)
exclusive (shape.Whole a b) sight = absurd (false≢true sight)
exclusive (shape.Listed l a b) sight = absurd (false≢true sight)
exclusive (shape.Fields cs) sight = absurd (false≢true sight)
exclusive (shape.Elements a b el) sight = absurd (false≢true sight)
exclusive (shape.Same of) sight = absurd (false≢true sight)

right_part : (a b : Bool) → a && b ≡ true → b ≡ true
right_part true b e = e
right_part false b e = absurd (false≢true e)

no_and : (a b : Bool) → b ≡ false → a && b ≡ false
no_and true b e = e
no_and false b e = refl

pub observer_only : (s : Typing) (x : ℕ) → is_observer s x ≡ true → is_borrower s x ≡ false
observer_only s x sight =
    no_and (is_variable (object_at s x).kind) (is_borrowing (view_of s x))
    (exclusive (shape_of s.table (object_at s x).of) (right_part (is_variable (object_at s x).kind) (is_observing (view_of s x)) sight))

-- names lead from named types to named ones
pub leads_named : (s : Typing) → PartsAreNamed s.table → (path : TypedTree) (t u : ℕ) → IsNamed s.table t → Leads s t path u → IsNamed s.table u
unfolding Leads
leads_named s parts (Component i rest) t u named (less, lead) = leads_named s parts rest _ u (parts.component t i) lead
leads_named s parts (Element index low high rest) t u named (e, is, stays, lead) =
    leads_named s parts rest e u (subst (IsNamed s.table) (ap machine.element_of is) (parts.element t)) lead
leads_named s parts (Designated rest) t u named (d, c, n, is, lead) = leads_named s parts rest d u (parts.designated t d c n is) lead
leads_named s parts NoMore t u named lead = subst (IsNamed s.table) lead named
leads_named s parts path t u named lead = absurd lead

-- a name of the type of a view names a view as a whole
pub leads_or : (s : Typing) → PartsAreNamed s.table → (path : TypedTree) (t u : ℕ) → Leads s t path u → ((path ≡ NoMore) × (t ≡ u)) ⊎ IsNamed s.table u
unfolding Leads
leads_or s parts NoMore t u lead = inl (refl, lead)
leads_or s parts (Component i rest) t u (less, lead) = inr (leads_named s parts rest _ u (parts.component t i) lead)
leads_or s parts (Element index low high rest) t u (e, is, stays, lead) =
    inr (leads_named s parts rest e u (subst (IsNamed s.table) (ap machine.element_of is) (parts.element t)) lead)
leads_or s parts (Designated rest) t u (d, c, n, is, lead) = inr (leads_named s parts rest d u (parts.designated t d c n is) lead)
leads_or s parts path t u lead = absurd lead

-- a variable is no formal
pub own_there : (s : Typing) (x : ℕ) → is_variable (object_at s x).kind ≡ true → is_given s x ≡ false
own_there s x variable = variable_given s x (no_formal (object_at s x).kind variable)
  where
    no_formal : (k : ObjectKind) → is_variable k ≡ true → is_formal_kind k ≡ false
    no_formal object_kind.Variable e = refl
    no_formal object_kind.TextIo e = refl
    no_formal object_kind.Constant e = refl
    no_formal object_kind.Parameter e = refl
    no_formal object_kind.Temporary e = refl
    no_formal object_kind.Formal e = absurd (false≢true e)

module _ (t : Turn) (sees : ℕ → Bool) (seeing : Seeing (typing t) sees) (settled : IsSettled (typing t).table) (own_law : OwnsByShape (typing t).table) (other : Around (home (typing t) (length t.outer)))
    (alone : (w : Way) → IsNear (length t.outer) w → other.gone w → ⊥) (in_formals : AreAccess (typing t))
    (v : Views) (parts_named : PartsAreNamed (typing t).table) (may : ℕ → ℕ → Type 0)
    (frames : t.state.frames ≡ t.frame ∷ t.outer) (none : taken t.point.instr ≡ 0) where
  abbrev s : Typing
  s = typing t

  abbrev depth : ℕ
  depth = length t.outer

  abbrev Good : List Fact → Type 0
  Good facts = IsGood t sees seeing settled own_law other alone v parts_named may frames none v facts t.state

  abbrev LeadsHere : List Fact → Outcome → Type 0
  LeadsHere facts outcome = Leads_on t sees seeing settled own_law other alone v parts_named may frames none facts outcome

  -- the instructions, with the values that they take
  abbrev Declares_here : List (List machine.Word) → ℕ → TypedTree → Outcome
  Declares_here ws x e = Declares t sees seeing settled own_law other alone v parts_named may frames none ws x e

  abbrev Puts_here : List (List machine.Word) → Pos → ℕ → TypedTree → Outcome
  Puts_here ws r x e =
      Puts t sees seeing settled own_law other alone v parts_named may frames none (target_pos t (Name r x NoMore (object_at s x).of)) r x (object_at s x).of
      (taken_by t (object_at s x).of e (record { memory = t.state.memory; waits = ws }))

  abbrev Observes_here : ℕ → ℕ → ℕ → ℕ → TypedTree → Type 0
  Observes_here x y u d path = Observes t sees seeing settled own_law other alone v parts_named may frames none x y u d path

  abbrev own_here : (x : ℕ) → is_variable (object_at s x).kind ≡ true → is_given s x ≡ false
  own_here = own_there s

  pub observes : (q : Pos) (x y u : ℕ) (path : TypedTree) → is_anonymous (view_of s x) ≡ true → is_variable (object_at s x).kind ≡ true → home s depth x ≡ depth
      → Source s (object_at s x).of (Name q y path u) → (d : ℕ) × Observes_here x y u d path
  unfolding Gives
  observes q x y u path view variable mine (inl (is_view, (d, k, c, n, e, o, lead, source, want, fits))) = (
    d,
    record { k = k; c = c; n = n; e = e; o = o; lead = lead; source = source; view = want; fits = fits; anonymous = view; mine = mine; own = own_here x variable },
  )
  observes q x y u path view variable mine (inr (lead, inl same)) =
      let sh = view_shape (shape_of s.table (object_at s x).of) view in (
        sh.0,
        record { k = sh.0; c = sh.1; n = sh.2; e = sh.1; o = sh.2; lead = lead; source = same ∙ sh.3; view = sh.3; fits = inl refl; anonymous = view; mine = mine; own = own_here x variable },
      )
  observes q x y u path view variable mine (inr (lead, inr scalar)) = absurd (view_scalar (shape_of s.table (object_at s x).of) view scalar.1)

  -- a view is declared
  pub view_declared : (ws : List (List machine.Word)) (q : Pos) (x y u : ℕ) (path : TypedTree) → is_anonymous (view_of s x) ≡ true → is_variable (object_at s x).kind ≡ true
      → home s depth x ≡ depth → Source s (object_at s x).of (Name q y path u) → Takes (waits_in path) ws []
      → (is_observer s x ≡ false → (is_observer s y ≡ false) × (sees x ≡ sees y) × (y < x)) → may x y → (facts : List Fact) → Good facts → Unused (home s depth) other.lent v facts x
      → AllowsAll facts (acts (declared_acts s x (More (Name q y path u) NoMore)))
      → LeadsHere (after (acts (declared_acts s x (More (Name q y path u) NoMore))) facts) (Declares_here ws x (More (Name q y path u) NoMore))
  view_declared ws q x y u path view variable mine source takes older from facts good unused allowed =
      let from_it = observes q x y u path view variable mine source in
      by_kind from_it.0 from_it.1 (is_observer s x) refl (is_observer s y) refl
    where
      by_kind : (d : ℕ) → Observes_here x y u d path → (b : Bool) → is_observer s x ≡ b → (c : Bool) → is_observer s y ≡ c
          → LeadsHere (after (acts (declared_acts s x (More (Name q y path u) NoMore))) facts) (Declares_here ws x (More (Name q y path u) NoMore))
      by_kind d found true e true f =
          observer_again_on t sees seeing settled own_law other alone v parts_named may frames none ws x y u d q path NoMore found (observer_only s x e) e f from takes facts good allowed
      by_kind d found true e false f =
          observer_on t sees seeing settled own_law other alone v parts_named may frames none ws x y u d q path NoMore found (observer_only s x e) e f from takes facts good allowed
      by_kind d found false e c f =
          borrower_on t sees seeing settled own_law other alone v parts_named may frames none ws x y u d q path NoMore found
          (view_kinds (is_variable (object_at s x).kind) (is_borrowing (view_of s x)) (is_observing (view_of s x)) view variable e)
          (older e).0 (older e).1 (older e).2 from takes facts good unused allowed

  -- a view is assigned
  pub view_assigned : (ws : List (List machine.Word)) (pos r q : Pos) (x y u : ℕ) (path : TypedTree) → is_anonymous (view_of s x) ≡ true → is_variable (object_at s x).kind ≡ true
      → home s depth x ≡ depth → Source s (object_at s x).of (Name q y path u) → Takes (waits_in path) ws []
      → (is_observer s x ≡ false → y ≡ x) → may x y → (facts : List Fact) → Good facts
      → AllowsAll facts (acts (assigned_to s pos (Some x) (Name r x NoMore (object_at s x).of) (Name q y path u)))
      → LeadsHere (after (acts (assigned_to s pos (Some x) (Name r x NoMore (object_at s x).of) (Name q y path u))) facts)
      (Puts_here ws r x (Name q y path u))
  view_assigned ws pos r q x y u path view variable mine source takes itself from facts good allowed =
      let from_it = observes q x y u path view variable mine source in
      by_kind from_it.0 from_it.1 (is_observer s x) refl
    where
      by_kind : (d : ℕ) → Observes_here x y u d path → (b : Bool) → is_observer s x ≡ b
          → LeadsHere (after (acts (assigned_to s pos (Some x) (Name r x NoMore (object_at s x).of) (Name q y path u))) facts)
          (Puts_here ws r x (Name q y path u))
      by_kind d found true e =
          assign_observer_on t sees seeing settled own_law other alone v parts_named may frames none ws pos r q x y u d path found (observer_only s x e) e from takes facts good allowed
      by_kind d found false e = at_itself y (itself e) found from allowed
        where
          at_itself : (y : ℕ) → y ≡ x → Observes_here x y u d path → may x y
              → AllowsAll facts (acts (assigned_to s pos (Some x) (Name r x NoMore (object_at s x).of) (Name q y path u)))
              → LeadsHere (after (acts (assigned_to s pos (Some x) (Name r x NoMore (object_at s x).of) (Name q y path u))) facts)
              (Puts_here ws r x (Name q y path u))
          at_itself y same found from allowed =
              subst (λ z. LeadsHere (after (acts (assigned_to s pos (Some x) (Name r x NoMore (object_at s x).of) (Name q z path u))) facts)
              (Puts_here ws r x (Name q z path u))) (sym same)
              (assign_borrower_on t sees seeing settled own_law other alone v parts_named may frames none ws pos r q x u d path
              (subst (λ z. Observes_here x z u d path) same found)
              (view_kinds (is_variable (object_at s x).kind) (is_borrowing (view_of s x)) (is_observing (view_of s x)) view variable e)
              (subst (may x) same from) takes facts good
              (subst (λ z. AllowsAll facts (acts (assigned_to s pos (Some x) (Name r x NoMore (object_at s x).of) (Name q z path u)))) same allowed))
