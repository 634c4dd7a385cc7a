-- What is known of the objects of views, and of ways that belong to other frames.
use Rattle.soundness.proofs.ViewedSoundness.Given.{IsLow}
use Rattle.std.proofs.Common.{None, ◌≡◌, refl, sym, ap, ◌∙◌, subst, ◌⊎◌, inl, inr, ℕ, ◌<◌, Bool, true, false, not, List, ◌&&◌, ◌||◌, get_or, Some, is_some}
use Rattle.std.proofs.lemmas.Bool.{false≢true, true≢false}
use Rattle.machine.specs.spark_base.Lists.{Has}
use Rattle.machine.specs.type_definitions.declared.table.Shape.{Shape}
use Rattle.machine.specs.type_definitions.declared.table.Shape.TheVariants as shape
use Rattle.machine.specs.type_definitions.Types.{shape_of, full, is_scalar, is_owning, owns_of, view_of as view_of_shape}
use Rattle.machine.specs.type_definitions.declared.judgement.View.{View}
use Rattle.machine.specs.type_definitions.declared.judgement.View.TheVariants as view
use Rattle.machine.specs.place_names.declared.act.Mode.{Mode}
use Rattle.machine.specs.place_names.declared.act.Mode.TheVariants as mode
use Rattle.machine.specs.flow_paths.Objects.{Typing, Place, object_at, is_anonymous, is_formal, is_named_access, is_observer, has_scope_end, view_of, passing, passing_by}
use Rattle.machine.specs.Words.{Cell}
use Rattle.machine.specs.Memory.{Memory, variable_slots, no_slot}
use Rattle.machine.specs.Owners.{is_in, is_in_formal}
use Rattle.soundness.specs.OwnedWays.Ways.{Step, OfVariable, OfHand, OfRoot, Way, Object, Lost, Into, All, Named, base_of}
use Rattle.soundness.proofs.OwnedWays.Dropped.{named_base}
use Rattle.soundness.specs.PartOffsets.Parts.{offset_in}
use Rattle.soundness.specs.Seen.{home, is_view_formal}
use Rattle.soundness.specs.OwnedLoans.Views.{Views, IsForeign}
use Rattle.soundness.proofs.ViewedSoundness.ViewKinds.{bundle_formal, true_false}
use Rattle.soundness.proofs.ViewedSoundness.Outcomes.{named_plain}
use Rattle.soundness.specs.ViewedSoundness.Holds.{PartsHold, is_access, is_bundle, is_view, IsOwners, IsAccess, Holds, is_given}
use Rattle.soundness.specs.Typed.{OwnsByShape}
use Rattle.soundness.proofs.Passing.{plain_type}
use Rattle.viewed_steps.specs.Sound.{Lies, ArePartsLow, IsKindOfFormal}
use Rattle.viewed_steps.specs.Ready.{is_shown_type}

access_of : (sh : Shape) → is_anonymous (view_of_shape sh) ≡ true → (d : ℕ) × (c : Bool) × (n : Bool) × (sh ≡ shape.Access d c n)
access_of (shape.Access d c n) e = (d, c, n, refl)
access_of (shape.Whole a b) e = absurd (false≢true e)
access_of (shape.Listed l a b) e = absurd (false≢true e)
access_of (shape.Fields cs) e = absurd (false≢true e)
access_of (shape.Elements a b el) e = absurd (false≢true e)
access_of (shape.Same of) e = absurd (false≢true e)

-- a way that begins at a variable of the frame is named
pub base_named : (at_home : ℕ → ℕ) (w : Way) (y : ℕ) → base_of w ≡ OfRoot (OfVariable (at_home y) y) → Named at_home w
base_named at_home (Object (OfVariable f x)) y e = (let a : f ≡ at_home y = cc in let b : x ≡ y = cc in a ∙ ap at_home (sym b))
base_named at_home (Object (OfHand h)) y e = cc
base_named at_home (Lost n) y e = cc
base_named at_home (Into w i) y e = base_named at_home w y e
base_named at_home (All w) y e = base_named at_home w y e

-- it begins at no variable of another frame
pub not_elsewhere : (at_home : ℕ → ℕ) (w : Way) → Named at_home w → IsForeign at_home w → ⊥
not_elsewhere at_home (Object (OfVariable f x)) named foreign =
    (let a : f ≡ foreign.0 = cc in let b : x ≡ foreign.1 = cc in foreign.3 (sym a ∙ named ∙ ap at_home b))
not_elsewhere at_home (Object (OfHand h)) named foreign = absurd named
not_elsewhere at_home (Lost n) named foreign = absurd named
not_elsewhere at_home (Into w i) named foreign = not_elsewhere at_home w named foreign
not_elsewhere at_home (All w) named foreign = not_elsewhere at_home w named foreign

-- Views of what belongs to other frames see what belongs to frames below.
abbrev pub AreFar : (ℕ → ℕ) → Views → ℕ → Type 0
AreFar at_home v low =
    ((x : ℕ) (w : Way) → v.way x ≡ Some w → (foreign : IsForeign at_home w) → foreign.0 < low)
    × ((x : ℕ) (p : List Step) (w : Way) → v.part_way x p ≡ Some w → (foreign : IsForeign at_home w) → foreign.0 < low)

-- a way begins where another one does that is named
pub same_named : (at_home : ℕ → ℕ) (w k : Way) → base_of w ≡ base_of k → Named at_home k → Named at_home w
same_named at_home w k is named = base_named at_home w _ (is ∙ named_base at_home k named)

-- or lies where it does
pub same_lies : (s : Typing) (frame : ℕ) (w k : Way) → base_of w ≡ base_of k → Lies s frame k → Lies s frame w
same_lies s frame w k is (inl named) = inl (same_named (home s frame) w k is named)
same_lies s frame w k is (inr (foreign, low, some)) = inr ((foreign.0, foreign.1, is ∙ foreign.2, foreign.3), low, some)

frames_are : (f x g y : ℕ) → OfRoot (OfVariable f x) ≡ OfRoot (OfVariable g y) → f ≡ g
frames_are f x g y e = cc

pub lies_far : (s : Typing) (frame : ℕ) (v : Views) → ((x : ℕ) (w : Way) → v.way x ≡ Some w → Lies s frame w) → ArePartsLow s frame v → AreFar (home s frame) v frame
lies_far s frame v lies low = (λ x w has. one w (lies x w has), λ x p w has. one w (low x p w has).0)
  where
    one : (w : Way) → Lies s frame w → (foreign : IsForeign (home s frame) w) → foreign.0 < frame
    one w (inl named) foreign = absurd (not_elsewhere (home s frame) w named foreign)
    one w (inr (other, less, some)) foreign =
        (let same = frames_are foreign.0 foreign.1 other.0 other.1 (sym foreign.2 ∙ other.2) in subst (λ f. f < frame) (sym same) less)

-- No other objects have ways, and no others parts.
abbrev pub AreOnly : Typing → Views → Type 0
AreOnly s v =
    ((x : ℕ) (w : Way) → v.way x ≡ Some w → is_view s x ≡ true) × ((x : ℕ) (p : List Step) (w : Way) → v.part_way x p ≡ Some w → is_bundle s x ≡ true)

-- What views and parts of formals see is named by the frame or belongs to frames below.
abbrev pub AreLowFormals : Typing → ℕ → Views → Type 0
AreLowFormals s frame v = ((x : ℕ) (w : Way) → v.way x ≡ Some w → IsLow s frame w) × ArePartsLow s frame v

-- ---- objects

second_true : (a b : Bool) → a && b ≡ true → b ≡ true
second_true true b e = e
second_true false b e = absurd (false≢true e)

first_true : (a b : Bool) → a && b ≡ true → a ≡ true
first_true true b e = refl
first_true false b e = absurd (false≢true e)

or_true : (a b : Bool) → b ≡ true → a || b ≡ true
or_true true b e = refl
or_true false b e = e

pub view_cases : (s : Typing) (x : ℕ) → is_view s x ≡ true → (is_anonymous (view_of s x) ≡ true) ⊎ (is_view_formal s x ≡ true)
view_cases s x e = by_kind (is_anonymous (view_of s x)) refl (is_view_formal s x) e
  where
    by_kind : (a : Bool) → is_anonymous (view_of s x) ≡ a → (b : Bool) → a || b ≡ true → (is_anonymous (view_of s x) ≡ true) ⊎ (b ≡ true)
    by_kind true is b e = inl is
    by_kind false is b e = inr e

pub anonymous_view : (s : Typing) (x : ℕ) → is_anonymous (view_of s x) ≡ true → is_view s x ≡ true
anonymous_view s x e = ap (λ b. b || is_view_formal s x) e

pub formal_view : (s : Typing) (x : ℕ) → is_view_formal s x ≡ true → is_view s x ≡ true
formal_view s x e = or_true (is_anonymous (view_of s x)) (is_view_formal s x) e

-- the scope of a view has an end of its own
pub view_ends : (s : Typing) (x : ℕ) → is_view s x ≡ true → has_scope_end s x ≡ true
view_ends s x view = elim (view_cases s x view) [
  | inl anonymous ↦ or_true (is_owning s.table (object_at s x).of) (is_anonymous (view_of s x)) anonymous
  | inr formal ↦ ap (λ b. b || is_anonymous (view_of s x)) (second_true (is_in_formal s x) (is_owning s.table (object_at s x).of) formal)
]

-- no scalar type is an anonymous access type
pub scalar_unseen : (s : Typing) (x : ℕ) → is_scalar (full s.table (object_at s x).of) ≡ true → is_anonymous (view_of s x) ≡ false
scalar_unseen s x scalar = by_shape (shape_of s.table (object_at s x).of) scalar
  where
    by_shape : (sh : Shape) → is_scalar (view_of_shape sh) ≡ true → is_anonymous (view_of_shape sh) ≡ false
    by_shape (shape.Whole a b) e = refl
    by_shape (shape.Listed l a b) e = refl
    by_shape (shape.Access d c n) e = absurd (false≢true e)
    by_shape (shape.Fields cs) e = absurd (false≢true e)
    by_shape (shape.Elements a b el) e = absurd (false≢true e)
    by_shape (shape.Same of) e = absurd (false≢true e)

-- A formal with parts that see is passed as an object of its own, and not as an access value.
pub bundle_owns : (s : Typing) (x : ℕ) → is_bundle s x ≡ true → is_owning s.table (object_at s x).of ≡ true
bundle_owns s x bundle = second_true (is_in_formal s x) (is_owning s.table (object_at s x).of) (bundle_formal s x bundle)

-- it is given
pub bundle_given : (s : Typing) (x : ℕ) → is_bundle s x ≡ true → is_given s x ≡ true
bundle_given s x bundle = ap (λ b. b || (is_in_formal s x && is_anonymous (view_of s x))) (bundle_formal s x bundle)

pub bundle_passing : (s : Typing) (x : ℕ) → is_bundle s x ≡ true → (procedure : Bool) → passing s procedure x ≡ Place mode.In true false
bundle_passing s x bundle procedure =
    (λ j. passing_by (in_mode (object_at s x).mode of_in j) (is_owning s.table (object_at s x).of) (procedure && is_named_access (view_of s x)))
    ∙ (λ j. passing_by mode.In (owns j) (unnamed (view_of s x) bare procedure j))
  where
    formal : is_view_formal s x ≡ true
    formal = bundle_formal s x bundle

    owns : is_owning s.table (object_at s x).of ≡ true
    owns = second_true (is_in_formal s x) (is_owning s.table (object_at s x).of) formal

    of_in : is_in (object_at s x).mode ≡ true
    of_in = second_true (is_formal s x) (is_in (object_at s x).mode) (first_true (is_in_formal s x) (is_owning s.table (object_at s x).of) formal)

    bare : not (is_access (view_of s x)) ≡ true
    bare = second_true (is_view_formal s x) (not (is_access (view_of s x))) bundle

    in_mode : (m : Mode) → is_in m ≡ true → m ≡ mode.In
    in_mode mode.In e = refl
    in_mode mode.Out e = absurd (false≢true e)
    in_mode mode.InOut e = absurd (false≢true e)

    none : (b : Bool) → b && false ≡ false
    none true = refl
    none false = refl

    unnamed : (v : View) → not (is_access v) ≡ true → (b : Bool) → b && is_named_access v ≡ false
    unnamed (view.Access d c n) e b = absurd (false≢true e)
    unnamed v e b = none b

-- None is of an anonymous access type.
abbrev pub AreUnseen : Typing → List ℕ → Type 0
AreUnseen s xs = (x : ℕ) → Has xs x → is_anonymous (view_of s x) ≡ false

-- what a frame was given is of an access type, which owns or is anonymous
pub given_cases : (s : Typing) (x : ℕ) → is_given s x ≡ true → (is_view_formal s x ≡ true) ⊎ (is_anonymous (view_of s x) ≡ true)
given_cases s x given = by_kind (is_view_formal s x) (is_in_formal s x) (is_anonymous (view_of s x)) given
  where
    by_kind : (a b c : Bool) → a || (b && c) ≡ true → (a ≡ true) ⊎ (c ≡ true)
    by_kind true b c e = inl refl
    by_kind false true true e = inr refl
    by_kind false true false e = absurd (false≢true e)
    by_kind false false c e = absurd (false≢true e)

pub given_type : (s : Typing) (x : ℕ) → is_given s x ≡ true → is_shown_type s x ≡ true
given_type s x given = by_kind (is_in_formal s x) (is_owning s.table (object_at s x).of) (is_anonymous (view_of s x)) given
  where
    by_kind : (f o a : Bool) → (f && o) || (f && a) ≡ true → o || a ≡ true
    by_kind true o a e = e
    by_kind false o a e = absurd (false≢true e)

pub given_formal : (s : Typing) (x : ℕ) → is_given s x ≡ true → is_in_formal s x ≡ true
given_formal s x given = by_kind (is_in_formal s x) (is_owning s.table (object_at s x).of) (is_anonymous (view_of s x)) given
  where
    by_kind : (f o a : Bool) → (f && o) || (f && a) ≡ true → f ≡ true
    by_kind true o a e = refl
    by_kind false o a e = absurd (false≢true e)

one_kind : (f o a : Bool) → f ≡ true → o || a ≡ true → (f && o) || (f && a) ≡ true
one_kind true o a e shown = shown
one_kind false o a e shown = e

pub type_given : (s : Typing) (x : ℕ) → is_in_formal s x ≡ true → is_shown_type s x ≡ true → is_given s x ≡ true
type_given s x formal shown = one_kind (is_in_formal s x) (is_owning s.table (object_at s x).of) (is_anonymous (view_of s x)) formal shown

-- an anonymous access type owns nothing
pub unowned_view : (s : Typing) → OwnsByShape s.table → (x : ℕ) → is_anonymous (view_of s x) ≡ true → is_owning s.table (object_at s x).of ≡ false
unowned_view s own_law x anonymous =
    own_law (object_at s x).of ∙ no_owner (is_owning s.table) (shape_of s.table (object_at s x).of) anonymous
  where
    no_owner : (owns : ℕ → Bool) (sh : Shape) → is_anonymous (view_of_shape sh) ≡ true → owns_of owns sh ≡ false
    no_owner owns (shape.Access d true true) e = absurd (false≢true e)
    no_owner owns (shape.Access d false true) e = absurd (false≢true e)
    no_owner owns (shape.Access d c false) e = refl
    no_owner owns (shape.Whole a b) e = absurd (false≢true e)
    no_owner owns (shape.Listed l a b) e = absurd (false≢true e)
    no_owner owns (shape.Fields cs) e = absurd (false≢true e)
    no_owner owns (shape.Elements a b el) e = absurd (false≢true e)
    no_owner owns (shape.Same of) e = absurd (false≢true e)

-- A formal that owns nothing though its type does is of no anonymous type and of no scalar one; and of an access type, if
-- it has no parts that see.
abbrev pub AreAccess : Typing → Type 0
AreAccess s =
    (x : ℕ) → is_view_formal s x ≡ true
    → (is_bundle s x ≡ false → IsAccess s x) × (is_anonymous (view_of s x) ≡ true → ⊥) × (is_scalar (full s.table (object_at s x).of) ≡ true → ⊥)

access_there : (a b : Bool) → a ≡ true → a && not b ≡ false → b ≡ true
access_there true true e bare = refl
access_there true false e bare = sym bare
access_there false b e bare = absurd (false≢true e)

pub formal_access : (s : Typing) → OwnsByShape s.table → AreAccess s
formal_access s own_law x formal = (
  λ bare. by_shape (shape_of s.table (object_at s x).of) (access_there (is_view_formal s x) (is_access (view_of s x)) formal bare),
  λ anonymous. true_false (is_owning s.table (object_at s x).of) owns (unowned_view s own_law x anonymous),
  λ scalar. true_false (is_owning s.table (object_at s x).of) owns (plain_type s own_law (object_at s x).of scalar),
)
  where
    owns : is_owning s.table (object_at s x).of ≡ true
    owns = second_true (is_in_formal s x) (is_owning s.table (object_at s x).of) formal

    by_shape : (sh : Shape) → is_access (view_of_shape sh) ≡ true → (d : ℕ) × (c : Bool) × (n : Bool) × (sh ≡ shape.Access d c n)
    by_shape (shape.Access d c n) e = (d, c, n, refl)
    by_shape (shape.Whole a b) e = absurd (false≢true e)
    by_shape (shape.Listed l a b) e = absurd (false≢true e)
    by_shape (shape.Fields cs) e = absurd (false≢true e)
    by_shape (shape.Elements a b el) e = absurd (false≢true e)
    by_shape (shape.Same of) e = absurd (false≢true e)

module _ (s : Typing) (sees : ℕ → Bool) (in_formals : AreAccess s) where
  pub view_access : (x : ℕ) → is_view s x ≡ true → is_bundle s x ≡ false → IsAccess s x
  view_access x view bare = elim (view_cases s x view) [
    | inl anonymous ↦ access_of (shape_of s.table (object_at s x).of) anonymous
    | inr formal ↦ (in_formals x formal).0 bare
  ]

  -- no object of a scalar type is a view
  pub scalar_no_view : (x : ℕ) → is_scalar (full s.table (object_at s x).of) ≡ true → is_view s x ≡ true → ⊥
  scalar_no_view x scalar view = elim (view_cases s x view) [
    | inl anonymous ↦ true_false (is_anonymous (view_of s x)) anonymous (scalar_unseen s x scalar)
    | inr formal ↦ (in_formals x formal).2 scalar
  ]

  pub scalar_bundle : (x : ℕ) → is_scalar (full s.table (object_at s x).of) ≡ true → is_bundle s x ≡ false
  scalar_bundle x scalar = by_kind (is_bundle s x) refl
    where
      by_kind : (b : Bool) → is_bundle s x ≡ b → is_bundle s x ≡ false
      by_kind false e = e
      by_kind true e = absurd ((in_formals x (bundle_formal s x e)).2 scalar)

  pub many_bundle : (x : ℕ) → is_bundle s x ≡ true → is_scalar (view_of s x) ≡ false
  many_bundle x bundle = by_kind (is_scalar (view_of s x)) refl
    where
      by_kind : (b : Bool) → is_scalar (view_of s x) ≡ b → b ≡ false
      by_kind false e = refl
      by_kind true e = absurd ((in_formals x (bundle_formal s x bundle)).2 e)

  -- what the variables of views have
  pub all_held : (frame : ℕ) (v : Views) (m : Memory)
      → ((x n : ℕ) → is_view s x ≡ true → is_bundle s x ≡ false → (get_or (variable_slots s (home s frame x) x m.variables) 0 no_slot).word ≡ Cell n
      → (w : Way) × (v.way x ≡ Some w) × (v.cell x ≡ n))
      → ((x : ℕ) (w : Way) → v.way x ≡ Some w → is_view s x ≡ true)
      → ((x : ℕ) (w : Way) → v.way x ≡ Some w → IsOwners s w)
      → ((x : ℕ) (w : Way) → v.way x ≡ Some w → sees x ≡ false → is_given s x ≡ false → Named (home s frame) (v.up x))
      → ((x : ℕ) (w : Way) → v.way x ≡ Some w → Named (home s frame) (v.up x) → is_observer s x ≡ false → sees x ≡ false) → PartsHold s sees frame v m → Holds s sees frame v m
  all_held frame v m held only owners own taken parts =
      record { held = held; only = only; owners = owners; access = λ x view bare. view_access x view bare; own = own; taken = taken; parts = parts }

  -- where none of their words is the number of a cell, their parts have no ways
  pub parts_none : (frame : ℕ) (v : Views) (m : Memory)
      → ((x i n : ℕ) → is_bundle s x ≡ true → (get_or (variable_slots s (home s frame x) x m.variables) i no_slot).word ≡ Cell n → ⊥)
      → ((x : ℕ) → is_bundle s x ≡ true → sees x ≡ true) → ((x : ℕ) (p : List Step) → v.part_way x p ≡ None) → PartsHold s sees frame v m
  parts_none frame v m no_words sight none = record {
    held = λ x p d c n k bundle there is at. absurd (no_words x (offset_in s.table (object_at s x).of p) k bundle at);
    only = λ x p w has. absurd (no_way x p w has);
    owners = λ x p w has. absurd (no_way x p w has);
    looks = sight;
  }
    where
      no_way : (x : ℕ) (p : List Step) (w : Way) → v.part_way x p ≡ Some w → ⊥
      no_way x p w has = (let is : Some w ≡ None = sym has ∙ none x p in absurd (true≢false (ap is_some is)))

  -- a formal that is a view is given
  pub kind_given : (x : ℕ) → IsKindOfFormal s x → is_view s x ≡ true → is_given s x ≡ true
  kind_given x kind view = elim (view_cases s x view) [
    | inr formal ↦ ap (λ b. b || (is_in_formal s x && is_anonymous (view_of s x))) formal
    | inl anonymous ↦ by_kind kind anonymous
  ]
    where
      by_kind : IsKindOfFormal s x → is_anonymous (view_of s x) ≡ true → is_given s x ≡ true
      by_kind (inl plain) anonymous = absurd (true_false (is_anonymous (view_of s x)) anonymous (scalar_unseen s x plain))
      by_kind (inr (inl back)) anonymous = absurd (true_false (is_anonymous (view_of s x)) anonymous (named_plain s.table (object_at s x).of back.1))
      by_kind (inr (inr (inl shown))) anonymous = shown
      by_kind (inr (inr (inr plain))) anonymous = absurd (true_false (is_anonymous (view_of s x)) anonymous (named_plain s.table (object_at s x).of plain.2))
