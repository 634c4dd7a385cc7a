-- What a call takes for formals: a scalar value, a scalar place, or another place in a variable of its
-- caller. A formal of mode `in out` has what its actual had; the place of the actual is gone meanwhile, and
-- has no number.
use Rattle.soundness.specs.ViewedSoundness.Holds.{is_bundle, is_view, IsNamed, is_given}
use Rattle.std.proofs.Common.{◌≡◌, refl, sym, ap, ◌∙◌, subst, ◌⊎◌, inl, inr, ℕ, suc, ◌+◌, Bool, true, false, not, List, [], ◌∷◌, ◌++◌, take, drop, length, get_or, arith, if◌then◌else◌, Some}
use Rattle.std.proofs.lemmas.List.{length-map}
use Rattle.std.proofs.lemmas.Bool.{false≢true}
use Rattle.machine.specs.spark_base.Lists.{Has}
use Rattle.machine.specs.spark_base.declared.position.Pos.{Pos}
use Rattle.machine.specs.place_names.declared.fact.Fact.{Fact}
use Rattle.machine.specs.type_definitions.Types.{shape_of, words, full, is_scalar, is_owning}
use Rattle.machine.specs.flow_paths.Objects.{Typing, object_at, is_anonymous, is_package_object, view_of}
use Rattle.machine.specs.Words.{access_offsets}
use Rattle.machine.specs.Memory as memory
use Rattle.machine.specs.Memory.{Slot, Memory, Place, fresh, no_slot, variable_slots, slots_at, slots_of, words_of, gone_at, moved_out, declared}
use Rattle.machine.specs.Words as machine
use Rattle.machine.specs.Calls.{Passed, Value, From, To}
use Rattle.machine.specs.States.{Waiting, Leak}
use Rattle.soundness.specs.OwnedWays.Ways.{Step, OfVariable, OfHand, Loc, OfRoot, OfCell, Reaches, Way, Object, Empty, Held, Under, Past, Named, along, base_of, number_of}
use Rattle.soundness.proofs.OwnedWays.Locations.{same_loc}
use Rattle.soundness.specs.PartOffsets.Parts.{type_in, has_part, IsSettled}
use Rattle.soundness.specs.Seen.{content, word_in, seen, home, is_view_formal, in_hand}
use Rattle.machine.specs.type_definitions.declared.table.Shape.TheVariants as shape
use Rattle.soundness.specs.Typed.{Matches, IsCell, OwnsByShape, Kept, Spot, Points}
use Rattle.soundness.proofs.Memories.{put_other}
use Rattle.soundness.proofs.Moments.{number_part, declared_sound}
use Rattle.soundness.proofs.Steps.{matches_words, plain_end, alike, taken_slots, room}
use Rattle.soundness.proofs.Lasting.{keeps, declared_kept}
use Rattle.soundness.proofs.Stays.{One}
use Rattle.soundness.specs.OwnedLoans.Views.{Views, IsMovedBy, expand}
use Rattle.soundness.proofs.OwnedLoans.Ways.{lifts, lifted_root, part_root}
use Rattle.soundness.proofs.ViewedSoundness.ViewKinds.{both_no, true_false, view_access, not_view}
use Rattle.soundness.proofs.ViewedSoundness.Evaluated.{matches_named}
use Rattle.viewed_steps.specs.Taken.{Lodge, trunk_type, IsPlainPlace, AreCarried, IsInside, IsPassedOn, IsBare, IsApartFrom, IsOwnAt}
use Rattle.viewed_steps.proofs.Between.{base_along, base_under, same_variable, OwnersStand, Begins, as_sound, from_sound}
use Rattle.viewed_steps.proofs.Carried.{inside_begins, inside_low, carried_gone, carried_held_cell, carried_gone_cell, carried_beside_cell, inside_other, inside_at, inside_spot, inside_reached, inside_base, inside_rooted, inside_owns, inside_word, carried_bare, carried_held, carried_beside, carried_off_stays, carried_off}
use Rattle.viewed_steps.proofs.Outs.{Out, HasStill, places_apart, ways_apart}
use Rattle.viewed_steps.proofs.Beside.{put_beside}
use Rattle.viewed_steps.proofs.Declared.{declared_low}
use Rattle.viewed_steps.proofs.Views.{AreAccess, AreFar, base_named, view_cases, AreOnly}
use Rattle.viewed_steps.proofs.Constructors.{is_of_variable_base, is_value_passed}

named_part : (home : ℕ → ℕ) (w : Way) (p : List Step) → Named home w → Named home (along w p)
named_part home w [] n = n
named_part home w (i ∷ p) n = named_part home w p n

pub matches_back : (s : Typing) (t u : ℕ) → Matches s.table t u → Matches s.table u t
matches_back s t u (inl e) = inl (sym e)
matches_back s t u (inr (a, b)) = inr (b, a)

same_object : {f x g y : ℕ} → memory.OfVariable f x ≡ memory.OfVariable g y → x ≡ y
same_object e = cc

module _ (s : Typing) (settled : IsSettled s.table) (depth : ℕ) (k : Place) (to : Way) (inside : IsInside s depth k to) where
  -- its variable is no view, if it is in one
  pub own_plain : IsOwnAt s depth inside.frame inside.object k inside.trunk inside.start → is_view s inside.object ≡ false
  own_plain own = both_no (is_anonymous (view_of s inside.object)) (is_view_formal s inside.object) (by_kind (is_anonymous (view_of s inside.object)) refl) own.4
    where
      by_kind : (b : Bool) → is_anonymous (view_of s inside.object) ≡ b → is_anonymous (view_of s inside.object) ≡ false
      by_kind false e = e
      by_kind true view =
          let access = view_access (shape_of s.table (object_at s inside.object).of) view in
          let none = plain_end s.table settled (object_at s inside.object).of access.0 access.1 inside.steps
          (ap (λ z. has_part s.table (trunk_type s z) inside.steps) (sym own.0) ∙ inside.there) in
          let fits : Matches s.table k.of (object_at s inside.object).of =
          subst (λ p. Matches s.table k.of (type_in s.table (object_at s inside.object).of p)) none
          (subst (λ z. Matches s.table k.of (type_in s.table (trunk_type s z) inside.steps)) own.0 inside.of) in
          absurd (not_view s.table (object_at s inside.object).of view (matches_named s.table k.of (object_at s inside.object).of fits inside.named))

  -- its way is a name of the frame then, that stands for itself
  pub own_named : IsOwnAt s depth inside.frame inside.object k inside.trunk inside.start → Named (home s depth) to
  own_named own =
      subst (Named (home s depth)) (sym inside.way)
      (named_part (home s depth) inside.trunk inside.steps
      (base_named (home s depth) inside.trunk inside.object (inside.root ∙ ap (λ z. OfRoot (OfVariable z inside.object)) own.3)))

  pub own_number : IsOwnAt s depth inside.frame inside.object k inside.trunk inside.start → number_of to ≡ inside.object
  own_number own = ap number_of inside.way ∙ number_part inside.trunk inside.steps ∙ ap number_of own.0

  pub own_itself : IsOwnAt s depth inside.frame inside.object k inside.trunk inside.start → (v : Views)
      → ((x : ℕ) (w : Way) → v.way x ≡ Some w → is_view s x ≡ true)
      → ((x : ℕ) (p : List Step) (w : Way) → v.part_way x p ≡ Some w → is_view s x ≡ true) → expand v to ≡ to
  own_itself own v only parts = elim (lifts v to) [
    | inl itself ↦ itself
    | inr (inr l) ↦ absurd (true_false (is_view s l.object) (parts l.object l.steps l.way l.has) (ap (is_view s) (sym (part_root v to l) ∙ own_number own) ∙ own_plain own))
    | inr (inl l) ↦ absurd (true_false (is_view s l.object) (only l.object l.way l.has) (ap (is_view s) (sym (lifted_root v to l) ∙ own_number own) ∙ own_plain own))
  ]

  -- it isn't in the variable of a view
  pub inside_no_view : (g y : ℕ) → is_view s y ≡ true → k.base ≡ memory.OfVariable g y → ⊥
  inside_no_view g y view is = elim inside.stands [
    | inl own ↦ true_false (is_view s y) view (subst (λ z. is_view s z ≡ false) (same_object (sym own.2 ∙ is)) (own_plain own))
    | inr cell ↦ no_names (sym cell.2 ∙ is)
  ]
    where
      no_names : {n g y : ℕ} → memory.OfCell n ≡ memory.OfVariable g y → ⊥
      no_names e = absurd (false≢true (ap is_of_variable_base e))

-- ---- what is passed

-- An access value designates a cell of its type.
abbrev pub IsTyped : Typing → Memory → ℕ → machine.Word → Type 0
IsTyped s m x z = (d : ℕ) (c n : Bool) (k : ℕ) → shape_of s.table (object_at s x).of ≡ shape.Access d c n → z ≡ machine.Cell k → IsCell s m d k

-- An access value, for a formal that owns nothing and has no parts that see.
abbrev pub IsShownOne : Typing → Memory → ℕ → Passed → Type 0
IsShownOne s m x a = ((is_given s x ≡ true) × (is_bundle s x ≡ false)) × (z : machine.Word) × (a ≡ Value (z ∷ [])) × IsTyped s m x z

-- Words are a value of a type, and what they designate is of the types of its parts.
abbrev pub IsFit : Typing → Memory → ℕ → List machine.Word → Type 0
IsFit s m t ws = (length ws ≡ words s.table t) × Points s m (in_hand (record { of = t; words = ws }))

-- Such a value, for a formal of a type that owns nothing, or for one that has parts which see.
abbrev pub IsKindOfCopy : Typing → ℕ → Type 0
IsKindOfCopy s x = ((is_owning s.table (object_at s x).of ≡ false) × IsNamed s.table (object_at s x).of) ⊎ (is_bundle s x ≡ true)

abbrev pub IsCopiedOne : Typing → Memory → ℕ → Passed → Type 0
IsCopiedOne s m x a = IsKindOfCopy s x × (ws : List machine.Word) × (a ≡ Value ws) × IsFit s m (object_at s x).of ws

-- A scalar value, or a scalar place in a variable or in one of these cells.
abbrev pub IsPlainPassed : Typing → List Lodge → Passed → Type 0
IsPlainPassed s cells (Value ws) = One ws
IsPlainPassed s cells (From k) = IsPlainPlace s cells k
IsPlainPassed s cells (To k) = IsPlainPlace s cells k

-- Such a one, or such an access value, or a copy.
abbrev pub IsPlainOne : Typing → Memory → List Lodge → ℕ → Passed → Type 0
IsPlainOne s m cells x a = ((is_scalar (full s.table (object_at s x).of) ≡ true) × IsPlainPassed s cells a) ⊎ (IsShownOne s m x a ⊎ IsCopiedOne s m x a)

-- These words are passed for a formal.
abbrev pub IsShownTo : List ℕ → List Passed → ℕ → List machine.Word → Type 0
IsShownTo [] passed y ws = ⊥
IsShownTo (x ∷ formals) [] y ws = ⊥
IsShownTo (x ∷ formals) (a ∷ passed) y ws = ((x ≡ y) × (a ≡ Value ws)) ⊎ IsShownTo formals passed y ws

-- A variable has them.
abbrev pub HasWords : Typing → ℕ → ℕ → Memory → List machine.Word → Type 0
HasWords s f x m ws = (i : ℕ) → (get_or (variable_slots s f x m.variables) i no_slot).word ≡ (get_or (fresh ws) i no_slot).word

-- No fact says of the way that it was moved, or of what goes on from it.
abbrev pub IsWhole : Typing → ℕ → Views → List Fact → Way → Type 0
IsWhole s depth v facts to = (w : Way) → Under to w → IsMovedBy (home s depth) v facts w → ⊥

abbrev pub DiffersFrom : ℕ → List ℕ → Type 0
DiffersFrom x formals = (y : ℕ) → Has formals y → y ≡ x → ⊥

-- What is taken isn't moved, or is emptied: it is the first of the places that are.
abbrev pub IsTakenAs : Typing → ℕ → Views → List Fact → Place → Way → Passed → List Out → List Out → Type 0
IsTakenAs s depth v facts k to a outs later =
    ((a ≡ From k) × IsWhole s depth v facts to × (outs ≡ later)) ⊎ ((pos : Pos) × (a ≡ To k) × (outs ≡ record { way = to; place = k; pos = pos } ∷ later))

-- What is passed, with the ways of the places that are taken, and those of them that are emptied.
abbrev pub ArePassedOn : Typing → (ℕ → Bool) → Memory → List Lodge → ℕ → Views → List Fact → List ℕ → List ℕ → List Passed → List Way → List Out → Type 0
ArePassedOn s sees m cells depth v facts scope [] passed ways outs = (ways ≡ []) × (outs ≡ [])
ArePassedOn s sees m cells depth v facts scope (x ∷ formals) [] ways outs = (ways ≡ []) × (outs ≡ [])
ArePassedOn s sees m cells depth v facts scope (x ∷ formals) (a ∷ passed) [] outs = IsPlainOne s m cells x a × ArePassedOn s sees m cells depth v facts scope formals passed [] outs
ArePassedOn s sees m cells depth v facts scope (x ∷ formals) (a ∷ passed) (to ∷ ways) outs =
    (IsPlainOne s m cells x a × ArePassedOn s sees m cells depth v facts scope formals passed (to ∷ ways) outs)
    ⊎ ((k : Place) × (later : List Out) × IsTakenAs s depth v facts k to a outs later × IsPassedOn s sees cells depth v facts scope x k to × IsApartFrom to ways × DiffersFrom x formals
    × ArePassedOn s sees m cells depth v facts scope formals passed ways later)

-- the ways of such places begin at variables of the frame, or at package objects
pub passed_base : (s : Typing) (sees : ℕ → Bool) (m : Memory) (cells : List Lodge) (depth : ℕ) (v : Views) (facts : List Fact) (scope : List ℕ) (formals : List ℕ) (passed : List Passed) (ways : List Way) (outs : List Out)
    → ArePassedOn s sees m cells depth v facts scope formals passed ways outs → (k : Way) → Has ways k → Begins s depth k
passed_base s sees m cells depth v facts scope [] passed ways outs none k has = absurd (subst (λ z. Has z k) none.0 has)
passed_base s sees m cells depth v facts scope (x ∷ formals) [] ways outs none k has = absurd (subst (λ z. Has z k) none.0 has)
passed_base s sees m cells depth v facts scope (x ∷ formals) (a ∷ passed) [] outs are k has = absurd has
passed_base s sees m cells depth v facts scope (x ∷ formals) (a ∷ passed) (to ∷ ways) outs (inl are) k has = passed_base s sees m cells depth v facts scope formals passed (to ∷ ways) outs are.1 k has
passed_base s sees m cells depth v facts scope (x ∷ formals) (a ∷ passed) (to ∷ ways) outs (inr (place, later, how, one, apart, differ, more)) k (inl same) =
    subst (Begins s depth) same (inside_begins s depth place to one.inside)
passed_base s sees m cells depth v facts scope (x ∷ formals) (a ∷ passed) (to ∷ ways) outs (inr (place, later, how, one, apart, differ, more)) k (inr has) =
    passed_base s sees m cells depth v facts scope formals passed ways later more k has

-- A place is passed.
abbrev pub IsOfPlace : Passed → Place → Type 0
IsOfPlace a k = (a ≡ From k) ⊎ (a ≡ To k)

plain_from : (s : Typing) (m : Memory) (cells : List Lodge) (x : ℕ) (a : Passed) → IsPlainOne s m cells x a → (y : ℕ) (k : Place) → x ≡ y → IsOfPlace a k
    → is_scalar (full s.table (object_at s y).of) ≡ false → ⊥
plain_from s m cells x a (inl (plain, at)) y k same is many =
    true_false (is_scalar (full s.table (object_at s y).of)) (subst (λ z. is_scalar (full s.table (object_at s z).of) ≡ true) same plain) many
plain_from s m cells x a (inr (inl (shown, z, at, typed))) y k same is many = no_value (z ∷ []) (subst (λ b. IsOfPlace b k) at is)
  where
    no_value : (ws : List machine.Word) → IsOfPlace (Value ws) k → ⊥
    no_value ws (inl e) = false≢true (ap is_value_passed (sym e))
    no_value ws (inr e) = false≢true (ap is_value_passed (sym e))
plain_from s m cells x a (inr (inr (kind, ws, at, fits))) y k same is many = no_value ws (subst (λ b. IsOfPlace b k) at is)
  where
    no_value : (ws : List machine.Word) → IsOfPlace (Value ws) k → ⊥
    no_value ws (inl e) = false≢true (ap is_value_passed (sym e))
    no_value ws (inr e) = false≢true (ap is_value_passed (sym e))

-- It is passed for a formal.
abbrev pub IsFrom : List ℕ → List Passed → ℕ → Place → Type 0
IsFrom [] passed y k = ⊥
IsFrom (x ∷ formals) [] y k = ⊥
IsFrom (x ∷ formals) (a ∷ passed) y k = ((x ≡ y) × IsOfPlace a k) ⊎ IsFrom formals passed y k

one_place : {a b : Place} → IsOfPlace (From a) b ⊎ IsOfPlace (To a) b → a ≡ b
one_place (inl (inl e)) = cc
one_place (inl (inr e)) = cc
one_place (inr (inl e)) = cc
one_place (inr (inr e)) = cc

-- it is taken, if it isn't scalar
pub from_taken : (s : Typing) (sees : ℕ → Bool) (m : Memory) (cells : List Lodge) (depth : ℕ) (v : Views) (facts : List Fact) (scope : List ℕ) (formals : List ℕ) (passed : List Passed) (ways : List Way) (outs : List Out)
    → ArePassedOn s sees m cells depth v facts scope formals passed ways outs → (y : ℕ) (k : Place) → IsFrom formals passed y k → is_scalar (full s.table (object_at s y).of) ≡ false
    → (to : Way) × Has ways to × IsPassedOn s sees cells depth v facts scope y k to
from_taken s sees m cells depth v facts scope [] passed ways outs are y k from many = absurd from
from_taken s sees m cells depth v facts scope (x ∷ formals) [] ways outs are y k from many = absurd from
from_taken s sees m cells depth v facts scope (x ∷ formals) (a ∷ passed) [] outs are y k (inl (same, is)) many = absurd (plain_from s m cells x a are.0 y k same is many)
from_taken s sees m cells depth v facts scope (x ∷ formals) (a ∷ passed) [] outs are y k (inr later) many = from_taken s sees m cells depth v facts scope formals passed [] outs are.1 y k later many
from_taken s sees m cells depth v facts scope (x ∷ formals) (a ∷ passed) (to ∷ ways) outs (inl are) y k (inl (same, is)) many = absurd (plain_from s m cells x a are.0 y k same is many)
from_taken s sees m cells depth v facts scope (x ∷ formals) (a ∷ passed) (to ∷ ways) outs (inl are) y k (inr later) many =
    from_taken s sees m cells depth v facts scope formals passed (to ∷ ways) outs are.1 y k later many
from_taken s sees m cells depth v facts scope (x ∷ formals) (a ∷ passed) (to ∷ ways) outs (inr (place, later_outs, how, one, apart, differ, more)) y k (inl (same, is)) many =
    (to, inl refl, subst (λ z. IsPassedOn s sees cells depth v facts scope z k to) same (subst (λ z. IsPassedOn s sees cells depth v facts scope x z to) (same_place how) one))
  where
    same_place : IsTakenAs s depth v facts place to a outs later_outs → place ≡ k
    same_place (inl (from, whole, rest)) = one_place (inl (subst (λ b. IsOfPlace b k) from is))
    same_place (inr (pos, goes, rest)) = one_place (inr (subst (λ b. IsOfPlace b k) goes is))
from_taken s sees m cells depth v facts scope (x ∷ formals) (a ∷ passed) (to ∷ ways) outs (inr (place, later_outs, how, one, apart, differ, more)) y k (inr later) many =
    let found = from_taken s sees m cells depth v facts scope formals passed ways later_outs more y k later many in
    (found.0, inr found.1, found.2)

-- two that are taken are one, or are apart
pub passed_pair : (s : Typing) (sees : ℕ → Bool) (m : Memory) (cells : List Lodge) (depth : ℕ) (v : Views) (facts : List Fact) (scope : List ℕ) (formals : List ℕ) (passed : List Passed) (ways : List Way) (outs : List Out)
    → ArePassedOn s sees m cells depth v facts scope formals passed ways outs → (u w : Way) → Has ways u → Has ways w → (u ≡ w) ⊎ ((Under u w → ⊥) × (Under w u → ⊥))
passed_pair s sees m cells depth v facts scope [] passed ways outs are u w has_u has_w = absurd (subst (λ z. Has z u) are.0 has_u)
passed_pair s sees m cells depth v facts scope (x ∷ formals) [] ways outs are u w has_u has_w = absurd (subst (λ z. Has z u) are.0 has_u)
passed_pair s sees m cells depth v facts scope (x ∷ formals) (a ∷ passed) [] outs are u w has_u has_w = absurd has_u
passed_pair s sees m cells depth v facts scope (x ∷ formals) (a ∷ passed) (to ∷ ways) outs (inl are) u w has_u has_w =
    passed_pair s sees m cells depth v facts scope formals passed (to ∷ ways) outs are.1 u w has_u has_w
passed_pair s sees m cells depth v facts scope (x ∷ formals) (a ∷ passed) (to ∷ ways) outs (inr (place, later, how, one, apart, differ, more)) u w (inl first) (inl second) = inl (sym first ∙ second)
passed_pair s sees m cells depth v facts scope (x ∷ formals) (a ∷ passed) (to ∷ ways) outs (inr (place, later, how, one, apart, differ, more)) u w (inl first) (inr has_w) =
    inr (subst (λ z. (Under z w → ⊥) × (Under w z → ⊥)) first (apart w has_w))
passed_pair s sees m cells depth v facts scope (x ∷ formals) (a ∷ passed) (to ∷ ways) outs (inr (place, later, how, one, apart, differ, more)) u w (inr has_u) (inl second) =
    inr (subst (λ z. (Under u z → ⊥) × (Under z u → ⊥)) second ((apart u has_u).1, (apart u has_u).0))
passed_pair s sees m cells depth v facts scope (x ∷ formals) (a ∷ passed) (to ∷ ways) outs (inr (place, later, how, one, apart, differ, more)) u w (inr has_u) (inr has_w) =
    passed_pair s sees m cells depth v facts scope formals passed ways later more u w has_u has_w

-- what is emptied is among them
pub outs_taken : (s : Typing) (sees : ℕ → Bool) (m : Memory) (cells : List Lodge) (depth : ℕ) (v : Views) (facts : List Fact) (scope : List ℕ) (formals : List ℕ) (passed : List Passed) (ways : List Way) (outs : List Out)
    → ArePassedOn s sees m cells depth v facts scope formals passed ways outs → (o : Out) → Has outs o → Has ways o.way
outs_taken s sees m cells depth v facts scope [] passed ways outs none o has = absurd (subst (λ z. Has z o) none.1 has)
outs_taken s sees m cells depth v facts scope (x ∷ formals) [] ways outs none o has = absurd (subst (λ z. Has z o) none.1 has)
outs_taken s sees m cells depth v facts scope (x ∷ formals) (a ∷ passed) [] outs are o has = outs_taken s sees m cells depth v facts scope formals passed [] outs are.1 o has
outs_taken s sees m cells depth v facts scope (x ∷ formals) (a ∷ passed) (to ∷ ways) outs (inl are) o has = outs_taken s sees m cells depth v facts scope formals passed (to ∷ ways) outs are.1 o has
outs_taken s sees m cells depth v facts scope (x ∷ formals) (a ∷ passed) (to ∷ ways) outs (inr (place, later, inl (from, whole, same), one, apart, differ, more)) o has =
    inr (outs_taken s sees m cells depth v facts scope formals passed ways later more o (subst (λ z. Has z o) same has))
outs_taken s sees m cells depth v facts scope (x ∷ formals) (a ∷ passed) (to ∷ ways) outs (inr (place, later, inr (pos, goes, same), one, apart, differ, more)) o has =
    elim (subst (λ z. Has z o) same has) [
      | inl first ↦ inl (ap (λ (z : Out). z.way) first)
      | inr others ↦ inr (outs_taken s sees m cells depth v facts scope formals passed ways later more o others)
    ]

-- Nothing is moved by facts or gone elsewhere in hands, or gone elsewhere in the places that are still to be taken.
pub record IsOpen (moved other : Way → Type 0) (ways : List Way) : Type 0 where
  pub free : (h : ℕ) (w : Way) → Under (Object (OfHand h)) w → moved w ⊎ other w → ⊥
  pub whole : (to : Way) → Has ways to → (w : Way) → Under to w → other w → ⊥

-- The formals that are still to be declared have nothing.
abbrev pub AreBlank : Typing → ℕ → Memory → List ℕ → Type 0
AreBlank s depth m formals =
    (x : ℕ) → Has formals x → (p : List Step) → word_in s.table (content s m [] (OfRoot (OfVariable (suc depth) x))) p ≡ Empty

-- ---- what the formals have then

frames_differ : (f x g y : ℕ) → (f ≡ g → ⊥) → OfVariable f x ≡ OfVariable g y → ⊥
frames_differ f x g y ne e = (let same : f ≡ g = cc in ne same)

hand_base : {h f x : ℕ} → OfRoot (OfHand h) ≡ OfRoot (OfVariable f x) → ⊥
hand_base e = cc

module _ (s : Typing) (sees : ℕ → Bool) (settled : IsSettled s.table) (own_law : OwnsByShape s.table) (in_formals : AreAccess s)
    (hands : List Waiting) (leaks : List Leak) (depth : ℕ) (v : Views) (far : AreFar (home s depth) v depth)
    (only : AreOnly s v) (facts : List Fact) (scope : List ℕ) (cells : List Lodge) where
  pub not_above : (y : ℕ) → home s depth y ≡ suc depth → ⊥
  not_above y e = by_package (is_package_object s y) e
    where
      by_package : (b : Bool) → (if b then 0 else depth) ≡ suc depth → ⊥
      by_package true e = omega (arith, e)
      by_package false e = omega (arith, e)

  abbrev StandIn : (Way → Type 0) → Memory → Type 0
  StandIn other m = OwnersStand (home s depth) v facts other (seen s m hands leaks)

  -- ---- one that is taken

  module _ (other : Way → Type 0) (x : ℕ) (k : Place) (to : Way) (passed : IsPassedOn s sees cells depth v facts scope x k to) (whole : IsWhole s depth v facts to)
      (open_there : IsOpen (IsMovedBy (home s depth) v facts) other (to ∷ []))
      (m : Memory) (typed : Kept s m hands) (stand : StandIn other m)
      (blank : (p : List Step) → word_in s.table (content s m [] (OfRoot (OfVariable (suc depth) x))) p ≡ Empty)
      (there : Reaches (seen s m hands leaks) (passed.inside).trunk (passed.inside).start) where
    abbrev inside : IsInside s depth k to
    inside = passed.inside

    abbrev at : Loc
    at = inside_at s depth k to passed.inside

    abbrev got : Waiting
    got = record { of = k.of; words = words_of s m k }

    abbrev mid : Memory
    mid = moved_out s k m

    abbrev next : Memory
    next = declared (suc depth) x (words_of s m k) (moved_out s k m)

    -- gone elsewhere, or in the place
    abbrev with_it : Way → Type 0
    with_it w = other w ⊎ ((p : List Step) × (w ≡ along to p))

    spot : Spot s m hands k at
    spot = inside_spot s depth k to passed.inside settled m hands leaks typed there

    pub clean : (w : Way) → Under to w → IsMovedBy (home s depth) v facts w ⊎ other w → ⊥
    clean w under (inl moved) = whole w under moved
    clean w under (inr o) = open_there.whole to (inl refl) w under o

    stand_mid : OwnersStand (home s depth) v facts with_it (seen s mid (got ∷ hands) leaks)
    stand_mid =
        carried_off s settled (home s depth) v other with_it m hands leaks facts k at to stand typed spot
        (inside_rooted s depth k to passed.inside) (inside_reached s depth k to passed.inside (seen s m hands leaks) there)
        (inside_owns s depth k to passed.inside settled m hands leaks typed stand.owned there) clean
        (passed.inside).frame (passed.inside).object (inside_base s depth k to passed.inside) (λ w o. inl o) (λ p. inr (p, refl))

    kept_mid : Kept s mid (got ∷ hands)
    kept_mid = (keeps s settled own_law).moved m hands k at spot typed

    abbrev marks : List Slot
    marks = gone_at (access_offsets s.table k.of) (slots_of s m k)

    -- the variable of the place alone is changed
    other_base : (g y : ℕ) → (OfVariable (passed.inside).frame (passed.inside).object ≡ OfVariable g y → ⊥) → variable_slots s g y mid.variables ≡ variable_slots s g y m.variables
    other_base g y ne =
        put_beside s 0 k.base (take k.at (slots_at s m k.base) ++ marks ++ drop (k.at + length marks) (slots_at s m k.base)) m g y
        (inside_other s depth k to passed.inside g y ne)

    long : length got.words ≡ words s.table (object_at s x).of
    long =
        length-map (slots_of s m k) (λ (z : Slot). z.word) ∙ (taken_slots s settled m k (room s settled m hands typed k at spot)).0
        ∙ matches_words s.table settled k.of (object_at s x).of passed.fits

    blank_mid : (p : List Step) → word_in s.table (content s mid (got ∷ hands) (OfRoot (OfVariable (suc depth) x))) p ≡ Empty
    blank_mid p =
        ap (λ z. word_in s.table (record { of = (object_at s x).of; slots = z; owns = not (is_view_formal s x) }) p)
        (other_base (suc depth) x (frames_differ (passed.inside).frame (passed.inside).object (suc depth) x (λ e. (let low = inside_low s depth k to passed.inside in omega (arith, e, low))))) ∙ blank p

    pub stand_next : OwnersStand (home s depth) v facts with_it (seen s next hands leaks)
    stand_next =
        from_sound (home s depth) v facts with_it (seen s next hands leaks)
        (declared_sound s settled (home s depth) (λ w. IsMovedBy (home s depth) v facts w ⊎ with_it w) mid got hands leaks [] (suc depth) x
        (as_sound (home s depth) v facts with_it (seen s mid (got ∷ hands) leaks) stand_mid)
        (λ h w under o. elim o [
          | inl moved ↦ open_there.free h w under (inl moved)
          | inr (inl away) ↦ open_there.free h w under (inr away)
          | inr (inr (p, is)) ↦ hand_base (sym (base_under (Object (OfHand h)) w under) ∙ ap base_of is ∙ base_along to p ∙ inside_base s depth k to passed.inside)
        ]) kept_mid blank_mid passed.owner long (alike s.table settled k.of (object_at s x).of passed.fits))

    pub kept_next : Kept s next hands
    kept_next = declared_kept s settled mid (suc depth) x got hands kept_mid long passed.fits

    bare_mid : (p : List Step) (c : ℕ) → word_in s.table (content s mid [] (passed.inside).start) (p ++ (passed.inside).steps) ≡ Held c → ⊥
    bare_mid p c held =
        carried_bare s settled (home s depth) v other with_it m hands leaks facts k at to stand typed spot
        (inside_rooted s depth k to passed.inside) (inside_reached s depth k to passed.inside (seen s m hands leaks) there)
        (inside_owns s depth k to passed.inside settled m hands leaks typed stand.owned there) clean p c
        (inside_word s depth k to passed.inside mid (got ∷ hands) p ∙ held)

    -- ---- what changed

    new_other : (g y : ℕ) → (OfVariable (suc depth) x ≡ OfVariable g y → ⊥) → variable_slots s g y next.variables ≡ variable_slots s g y mid.variables
    new_other g y ne = put_other s (suc depth) x g y ne (fresh (words_of s m k)) mid.variables

    new_word : (g y : ℕ) → (OfVariable (suc depth) x ≡ OfVariable g y → ⊥) → (p : List Step)
        → word_in s.table (content s next [] (OfRoot (OfVariable g y))) p ≡ word_in s.table (content s mid [] (OfRoot (OfVariable g y))) p
    new_word g y ne p = ap (λ z. word_in s.table (record { of = (object_at s y).of; slots = z; owns = not (is_view_formal s y) }) p) (new_other g y ne)

    held_before : (g y : ℕ) (p : List Step) (c : ℕ) → word_in s.table (content s mid [] (OfRoot (OfVariable g y))) p ≡ Held c
        → word_in s.table (content s m [] (OfRoot (OfVariable g y))) p ≡ Held c
    held_before g y p c held =
        carried_held s settled (home s depth) v other with_it m hands leaks facts k at to stand typed spot
        (inside_rooted s depth k to passed.inside) (inside_reached s depth k to passed.inside (seen s m hands leaks) there)
        (inside_owns s depth k to passed.inside settled m hands leaks typed stand.owned there) clean g y p c held

    pub one_held : (g y : ℕ) (p : List Step) (c : ℕ) → word_in s.table (content s next [] (OfRoot (OfVariable g y))) p ≡ Held c
        → (word_in s.table (content s m [] (OfRoot (OfVariable g y))) p ≡ Held c) ⊎ ((g ≡ suc depth) × (y ≡ x))
    one_held g y p c held = elim (same_loc (OfRoot (OfVariable (suc depth) x)) (OfRoot (OfVariable g y))) [
      | inl e ↦ (let both = same_variable (suc depth) x g y e in inr (sym both.0, sym both.1))
      | inr ne ↦ inl (held_before g y p c (sym (new_word g y (λ e. ne (ap OfRoot e)) p) ∙ held))
    ]

    formal_plain : is_view s x ≡ true → ⊥
    formal_plain view = elim (view_cases s x view) [
      | inl anonymous ↦ not_view s.table (object_at s x).of anonymous (matches_named s.table k.of (object_at s x).of passed.fits (passed.inside).named)
      | inr formal ↦ true_false (is_view_formal s x) formal passed.owner
    ]

    -- what was gone stays so, but in the formal
    pub one_carried : AreCarried s (λ g. g ≡ suc depth → ⊥) cells [] m next
    one_carried = record {
      held = λ g y p c other_frame off held. elim (one_held g y p c held) [ inl before ↦ before | inr mine ↦ absurd (other_frame mine.0) ];
      gone = λ g y p other_frame off gone.
          new_word g y (frames_differ (suc depth) x g y (λ e. other_frame (sym e))) p
          ∙ carried_gone s settled (home s depth) v other with_it m hands leaks facts k at to stand typed spot
          (inside_rooted s depth k to passed.inside) (inside_reached s depth k to passed.inside (seen s m hands leaks) there)
          (inside_owns s depth k to passed.inside settled m hands leaks typed stand.owned there) clean g y p gone;
      in_cells = λ n p c off held.
          carried_held_cell s settled (home s depth) v other with_it m hands leaks facts k at to stand typed spot
          (inside_rooted s depth k to passed.inside) (inside_reached s depth k to passed.inside (seen s m hands leaks) there)
          (inside_owns s depth k to passed.inside settled m hands leaks typed stand.owned there) clean n p c held;
      gone_cells = λ n p off gone.
          carried_gone_cell s settled (home s depth) v other with_it m hands leaks facts k at to stand typed spot
          (inside_rooted s depth k to passed.inside) (inside_reached s depth k to passed.inside (seen s m hands leaks) there)
          (inside_owns s depth k to passed.inside settled m hands leaks typed stand.owned there) clean n p gone;
    }

    pub one_views : (g y i : ℕ) → is_view s y ≡ true
        → (get_or (variable_slots s g y next.variables) i no_slot).word ≡ (get_or (variable_slots s g y m.variables) i no_slot).word
    one_views g y i view =
        ap (λ z. (get_or z i no_slot).word)
        (new_other g y (λ e. formal_plain (subst (λ z. is_view s z ≡ true) (sym (same_variable (suc depth) x g y (ap OfRoot e)).1) view))
        ∙ put_beside s 0 k.base (take k.at (slots_at s m k.base) ++ marks ++ drop (k.at + length marks) (slots_at s m k.base)) m g y
        (inside_no_view s settled depth k to passed.inside g y view))

    pub one_bare : IsBare s depth k to next passed.inside
    one_bare p c held = bare_mid p c (sym (start_word (p ++ (passed.inside).steps)) ∙ held)
      where
        start_word : (q : List Step) → word_in s.table (content s next [] (passed.inside).start) q ≡ word_in s.table (content s mid [] (passed.inside).start) q
        start_word q = elim (passed.inside).stands [
          | inl variable ↦
              subst (λ z. word_in s.table (content s next [] z) q ≡ word_in s.table (content s mid [] z) q) (sym variable.1)
              (new_word (passed.inside).frame (passed.inside).object
              (frames_differ (suc depth) x (passed.inside).frame (passed.inside).object (λ e. (let low = inside_low s depth k to passed.inside in omega (arith, e, low)))) q)
          | inr cell ↦ subst (λ z. word_in s.table (content s next [] z) q ≡ word_in s.table (content s mid [] z) q) (sym cell.1) refl
        ]

    -- a way from another frame that doesn't go on after the place reaches what it reached
    pub one_stays : (w : Way) (g y : ℕ) → base_of w ≡ OfRoot (OfVariable g y) → (g ≡ suc depth → ⊥) → (Past to w → ⊥) → (c : ℕ)
        → Reaches (seen s m hands leaks) w (OfCell c) → Reaches (seen s next hands leaks) w (OfCell c)
    one_stays w g y base other_frame aside c reach =
        declared_low s mid got hands leaks (suc depth) x w g y base (frames_differ (suc depth) x g y (λ e. other_frame (sym e))) c
        (carried_off_stays s settled (home s depth) v other with_it m hands leaks facts k at to stand typed spot
        (inside_rooted s depth k to passed.inside) (inside_reached s depth k to passed.inside (seen s m hands leaks) there)
        (inside_owns s depth k to passed.inside settled m hands leaks typed stand.owned there) clean
        (passed.inside).frame (passed.inside).object (inside_base s depth k to passed.inside) w g y base aside c reach)

    -- what is left to be declared has nothing still
    pub one_blank : (y : ℕ) → (y ≡ x → ⊥) → (p : List Step) → word_in s.table (content s m [] (OfRoot (OfVariable (suc depth) y))) p ≡ Empty
        → word_in s.table (content s next [] (OfRoot (OfVariable (suc depth) y))) p ≡ Empty
    one_blank y off p none =
        new_word (suc depth) y (λ e. off (sym (same_variable (suc depth) x (suc depth) y (ap OfRoot e)).1)) p
        ∙ ap (λ z. word_in s.table (record { of = (object_at s y).of; slots = z; owns = not (is_view_formal s y) }) p)
        (other_base (suc depth) y (frames_differ (passed.inside).frame (passed.inside).object (suc depth) y (λ e. (let low = inside_low s depth k to passed.inside in omega (arith, e, low))))) ∙ none

    -- a place that is apart from it has what it had
    pub one_still : ((c : Lodge) → Has cells c → Reaches (seen s m hands leaks) c.way (OfCell c.cell)) → (z : Way) → (Under to z → ⊥) × (Under z to → ⊥)
        → HasStill s cells depth m next z
    one_still reached_cells z apart = (
      (λ g y q p low is.
          new_word g y (frames_differ (suc depth) x g y (λ e. omega (arith, e, low))) (p ++ q)
          ∙ carried_beside s settled (home s depth) v other with_it m hands leaks facts k at to stand typed spot
          (inside_rooted s depth k to passed.inside) (inside_reached s depth k to passed.inside (seen s m hands leaks) there)
          (inside_owns s depth k to passed.inside settled m hands leaks typed stand.owned there) clean g y (p ++ q)
          (places_apart (seen s m hands leaks) stand.owned to at (inside_reached s depth k to passed.inside (seen s m hands leaks) there) g y q p
          (subst (λ w. (Under to w → ⊥) × (Under w to → ⊥)) is apart))),
      (λ c q p has is.
          carried_beside_cell s settled (home s depth) v other with_it m hands leaks facts k at to stand typed spot
          (inside_rooted s depth k to passed.inside) (inside_reached s depth k to passed.inside (seen s m hands leaks) there)
          (inside_owns s depth k to passed.inside settled m hands leaks typed stand.owned there) clean c.cell (p ++ q)
          (ways_apart (seen s m hands leaks) stand.owned to at (inside_reached s depth k to passed.inside (seen s m hands leaks) there) c.way (OfCell c.cell) (reached_cells c has) q p
          (subst (λ w. (Under to w → ⊥) × (Under w to → ⊥)) is apart))),
    )
