-- The actuals of typed calls are as they are asked for.
use Rattle.std.proofs.Common.{◌≡◌, refl, sym, ap, subst, ◌⊎◌, inl, inr, ℕ, Bool, true, false, List, [], ◌∷◌, ◌||◌, Some, None}
use Rattle.std.proofs.lemmas.Bool.{true≢false, false≢true}
use Rattle.std.specs.Prelude.{is_some}
use Rattle.machine.specs.spark_base.Lists.{Has as Holds}
use Rattle.machine.specs.place_names.declared.act.Mode.{Mode}
use Rattle.machine.specs.place_names.declared.act.Mode.TheVariants as mode
use Rattle.machine.specs.type_definitions.declared.table.Shape.{Shape}
use Rattle.machine.specs.type_definitions.declared.table.Shape.TheVariants as shape
use Rattle.machine.specs.type_definitions.Types.{shape_of, words, words_of, full, is_scalar, is_owning}
use Rattle.machine.specs.type_definitions.Types as types
use Rattle.machine.specs.type_definitions.Entries.{integer, boolean}
use Rattle.machine.specs.typed_tree.Trees.{TypedTree, Name, More}
use Rattle.machine.specs.typed_tree.Trees as typed
use Rattle.machine.specs.flow_paths.Objects.{Typing, Signature, object_at, sub_at, is_anonymous, view_of, traverses}
use Rattle.machine.specs.flow_paths.Points.{FlowPoint}
use Rattle.machine.specs.flow_paths.Laid.{FlowSub, FlowProgram, flow_typing}
use Rattle.machine.specs.States.{sub_of}
use Rattle.soundness.specs.Typed.{OwnsByShape}
use Rattle.soundness.specs.TypedLaws.Fine.{Has, Agree, counts, lists}
use Rattle.soundness.specs.TypedLaws.Needed.{Matches, Gives, IsPlace}
use Rattle.soundness.proofs.TypedLaws.Sound.{matches, leads, gives}
use Rattle.soundness.specs.TypedLaws.TypedSteps.Steps.{IsViewed, Taken, IsPlaceOf, IsActual, ActualsTaken}
use Rattle.sound_files.specs.TypedFiles.TypedRuns.Code.{IsNamedOwner, NamesOwner, NamesOwners, IsName, NamesFirst, IsTypedUse}
use Rattle.soundness.proofs.Contents.{bool_cases}
use Rattle.soundness.proofs.Passing.{signature_there}
use Rattle.soundness.specs.ViewedSoundness.Holds.{IsNamed}
use Rattle.soundness.proofs.ViewedSoundness.ViewKinds.{access_bundle}
use Rattle.settled_types.proofs.OrderLaws.ReadyLaws.Actuals.{taken_stays}
use Rattle.settled_types.specs.OrderLaws.ScopeLaws.Code.{Once}
use Rattle.machine.specs.flow_paths.Views.{traversed_of}
use Rattle.viewed_steps.specs.Ready.{IsSeen, IsValueTo, is_shown_type}
use Rattle.viewed_steps.proofs.Copies.{no_cell}
use Rattle.accepted_runs.specs.ViewedFiles.ViewLaws.Program.{IsPassedTo, ArePassedTo, PassActuals}

either_one : (a b : Bool) → a || b ≡ true → (a ≡ true) ⊎ (b ≡ true)
either_one true b e = inl refl
either_one false b e = inr e

either_first : (a b : Bool) → a || b ≡ false → a ≡ false
either_first true b e = e
either_first false b e = refl

either_second : (a b : Bool) → a || b ≡ false → b ≡ false
either_second true b e = absurd (true≢false e)
either_second false b e = e

pub named_type : (z : Shape) → is_anonymous (types.view_of z) ≡ false → (d : ℕ) (c n : Bool) → z ≡ shape.Access d c n → n ≡ true
named_type z plain d c true is = refl
named_type z plain d true false is = absurd (true≢false (subst (λ z. is_anonymous (types.view_of z) ≡ false) is plain))
named_type z plain d false false is = absurd (true≢false (subst (λ z. is_anonymous (types.view_of z) ≡ false) is plain))

-- What a formal of an anonymous access type sees is a name.
abbrev NamesView : Typing → ℕ → TypedTree → Type 0
NamesView s x e = is_anonymous (view_of s x) ≡ true → IsName e

abbrev NamesViews : Typing → List ℕ → TypedTree → Type 0
NamesViews s (x ∷ formals) (More e rest) = NamesView s x e × NamesViews s formals rest
NamesViews s formals e = Unit {0}

one_views_named : (x z : ℕ) → Some x ≡ Some z → x ≡ z
one_views_named x z e = cc

module _ (y : Typing) (whole : counts (shape_of y.table integer) ≡ true) (listed : lists (shape_of y.table boolean) ≡ true)
    (word_law : (t : ℕ) → words y.table t ≡ words_of (words y.table) (shape_of y.table t)) where
  -- an actual that is copied back to is a name of what the formal may hold
  named_place : (x t : ℕ) (e : TypedTree) → IsPlaceOf y t e → Agree y.table t (object_at y x).of → (u : ℕ) × IsPlace y e u × Matches y.table u (object_at y x).of
  named_place x t (Name p z path u) place agree =
      (t, (leads y whole listed word_law path (object_at y z).of u place.0, place.1), matches y.table t (object_at y x).of agree)
  named_place x t e place agree = absurd place

  -- what is shown is null, or a name of the formal's type
  shown_seen : (x : ℕ) (e : TypedTree) → IsNamedOwner e → Has y (object_at y x).of e → IsSeen y x e
  unfolding Has
  shown_seen x typed.Null named has = access_bundle y x has
  shown_seen x (Name p z path u) named has = (leads y whole listed word_law path (object_at y z).of u has.0, inl (matches y.table u (object_at y x).of has.1))
  shown_seen x e named has = absurd named

  -- or a name of an access value that designates what the formal's type does
  view_seen : (x : ℕ) (e : TypedTree) → IsName e → Taken y (object_at y x).of e → IsSeen y x e
  unfolding Has
  view_seen x (Name p z path u) named (inl has) = (leads y whole listed word_law path (object_at y z).of u has.0, inl (matches y.table u (object_at y x).of has.1))
  view_seen x (Name p z path u) named (inr (lead, view)) = (
    leads y whole listed word_law path (object_at y z).of u lead,
    inr (view.0, view.2, view.3, view.1, view.4, view.5, view.6, view.7, matches y.table view.0 view.1 view.8),
  )
  view_seen x e named taken = absurd named

  -- what is looked at is for an access type
  viewed_access : (want : ℕ) (e : TypedTree) → IsViewed y want e → (d : ℕ) × (c : Bool) × (n : Bool) × (shape_of y.table want ≡ shape.Access d c n)
  viewed_access want (Name p z path u) (lead, view) = (view.1, view.4, view.5, view.7)
  viewed_access want (typed.Call p sub actuals) (t, is, view) = (view.1, view.4, view.5, view.7)
  viewed_access want (typed.Parens e) view = viewed_access want e view
  viewed_access want e never = absurd never

  module _ (own_law : OwnsByShape y.table) where
    -- what is copied is a value of the formal's type
    copied_gives : (x : ℕ) (e : TypedTree) → IsNamed y.table (object_at y x).of → is_owning y.table (object_at y x).of ≡ false → Taken y (object_at y x).of e → Gives y (object_at y x).of e
    copied_gives x e named none (inl has) = gives y whole listed word_law e (object_at y x).of has
    copied_gives x e named none (inr view) =
        let access = viewed_access (object_at y x).of e view in
        absurd (no_cell y own_law (object_at y x).of access.0 access.1 access.2 access.3 named none)

    copied_value : (x : ℕ) (e : TypedTree) → IsNamed y.table (object_at y x).of → is_owning y.table (object_at y x).of ≡ false → Taken y (object_at y x).of e → IsValueTo y x e
    copied_value x e named none taken = (
      copied_gives x e named none taken,
      elim (bool_cases (is_scalar (full y.table (object_at y x).of))) [
        | inl plain ↦ inl (plain, taken_stays y whole listed word_law (object_at y x).of e plain taken)
        | inr many ↦ inr (many, named)
      ],
    )

    actual_to : (x : ℕ) (e : TypedTree) → NamesOwner y x e → NamesView y x e → IsActual y x e
        → IsPassedTo y x (object_at y x).mode e
    actual_to x e named viewed actual = by_mode (object_at y x).mode refl actual
      where
        owning : Bool
        owning = is_owning y.table (object_at y x).of

        value : Taken y (object_at y x).of e → is_shown_type y x ≡ false → IsValueTo y x e
        value taken none =
            copied_value x e (named_type (shape_of y.table (object_at y x).of) (either_second owning (is_anonymous (view_of y x)) none)) (either_first owning (is_anonymous (view_of y x)) none) taken

        seen : Taken y (object_at y x).of e → (object_at y x).mode ≡ mode.In → is_shown_type y x ≡ true → IsSeen y x e
        seen taken is shown = elim (either_one owning (is_anonymous (view_of y x)) shown) [
          | inl owns ↦ (let found = named is owns in shown_seen x e found.0 found.1)
          | inr view ↦ view_seen x e (viewed view) taken
        ]

        copied : (t : ℕ) → IsPlaceOf y t e → Agree y.table t (object_at y x).of → IsPassedTo y x mode.InOut e
        copied t place agree = (let found = named_place x t e place agree in (found.0, found.1, found.2))

        by_mode : (m : Mode) → (object_at y x).mode ≡ m → IsActual y x e → IsPassedTo y x m e
        by_mode mode.In is g = (value (rw is at g), seen (rw is at g) is)
        by_mode mode.Out is g = (let place = rw is at g in copied place.0 place.1 place.2)
        by_mode mode.InOut is g = (let place = rw is at g in copied place.0 place.1 place.2)

    actuals_to : (formals : List ℕ) (actuals : TypedTree) → NamesOwners y formals actuals → NamesViews y formals actuals → ActualsTaken y formals actuals → ArePassedTo y formals actuals
    actuals_to (x ∷ formals) (More e rest) named viewed (one, others) = (actual_to x e named.0 viewed.0 one, actuals_to formals rest named.1 viewed.1 others)
    actuals_to [] actuals named viewed taken = λ x has. absurd has
    actuals_to (x ∷ formals) actuals named viewed taken = absurd taken

  -- Only the first formal of a traversal function is of an anonymous access type, and what it sees is a name.
  later_named : (formals : List ℕ) (actuals : TypedTree) → ((x : ℕ) → Holds formals x → is_anonymous (view_of y x) ≡ true → ⊥) → NamesViews y formals actuals
  later_named (x ∷ formals) (More e rest) none = ((λ view. absurd (none x (inl refl) view)), later_named formals rest (λ z has. none z (inr has)))
  later_named [] actuals none = tt
  later_named (x ∷ formals) actuals none = tt

  views_named : (b : Bool) (formals : List ℕ) (actuals : TypedTree) → Once formals → ((x : ℕ) → Holds formals x → is_anonymous (view_of y x) ≡ true → traversed_of b formals ≡ Some x)
      → ((e rest : TypedTree) → actuals ≡ More e rest → b ≡ true → IsName e) → NamesViews y formals actuals
  views_named true (x ∷ formals) (More e rest) once firsts first =
      ((λ view. first e rest refl refl), later_named formals rest (λ z has view. once.0 (subst (Holds formals) (sym (one_views_named x z (firsts z (inr has) view))) has)))
  views_named false (x ∷ formals) (More e rest) once firsts first = later_named (x ∷ formals) (More e rest) (λ z has view. (let none : None ≡ Some z = firsts z has view in absurd (false≢true (ap is_some none))))
  views_named b [] actuals once firsts first = tt
  views_named b (x ∷ formals) actuals once firsts first = tt

module _ (program : FlowProgram) where
  abbrev s : Typing
  s = flow_typing program

  -- Of a program whose steps are typed, where formals of anonymous access types are the first ones of traversal functions.
  pub actuals_passed : counts (shape_of program.table integer) ≡ true → lists (shape_of program.table boolean) ≡ true
      → ((t : ℕ) → words program.table t ≡ words_of (words program.table) (shape_of program.table t)) → OwnsByShape program.table
      → ((sub : FlowSub) → Holds program.subs sub → (p : FlowPoint) → Holds sub.points p → IsTypedUse s sub.result p.instr)
      → ((n : ℕ) → Once (sub_at s n).formals)
      → ((n x : ℕ) → Holds (sub_at s n).formals x → is_anonymous (view_of s x) ≡ true → traversed_of (traverses s.table (sub_at s n).result) (sub_at s n).formals ≡ Some x)
      → PassActuals program
  actuals_passed whole listed word_law own_law used once firsts sub has p there n actuals result is known =
      let call = subst (λ i. IsTypedUse (flow_typing program) sub.result i) is (used sub has p there) in
      let same : (sub_at (flow_typing program) n).formals ≡ (sub_of program n).formals = ap (λ (z : Signature). z.formals) (signature_there program.subs n) in
      actuals_to (flow_typing program) whole listed word_law own_law (sub_of program n).formals actuals
      (subst (λ fs. NamesOwners (flow_typing program) fs actuals) same call.1.0.0)
      (subst (λ fs. NamesViews (flow_typing program) fs actuals) same
      (views_named (flow_typing program) whole listed word_law (traverses program.table (sub_at (flow_typing program) n).result) (sub_at (flow_typing program) n).formals actuals (once n) (firsts n)
      (first_named (sub_at (flow_typing program) n) actuals call.1.0.1)))
      (subst (λ fs. ActualsTaken (flow_typing program) fs actuals) same call.0.0)
    where
      first_named : (sub : Signature) (actuals : TypedTree) → NamesFirst (flow_typing program) sub actuals → (e rest : TypedTree) → actuals ≡ More e rest
          → traverses program.table sub.result ≡ true → IsName e
      first_named sub actuals first e rest at gives = (let here = subst (NamesFirst (flow_typing program) sub) at first in here gives)
