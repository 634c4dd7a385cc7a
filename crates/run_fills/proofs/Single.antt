-- Values of one word: scalars within bounds, and access values that are looked at.
use Rattle.std.proofs.Common.{◌≡◌, ℕ, zero, suc, ◌≤◌, true, false, Bool, ◌&&◌, List, [], ◌∷◌, length, refl, sym, ap, subst, ◌∙◌, arith, ℤ, pos, if◌then◌else◌}
use Rattle.std.specs.Prelude.{unsigned_abs, nat_le}
use Rattle.std.proofs.lemmas.List.{length-map}
use Rattle.run_values.specs.declared.value.Kind.TheVariants as sort
use Rattle.type_definitions.specs.declared.table.Shape.TheVariants as shape
use Rattle.type_definitions.specs.declared.judgement.View.{View}
use Rattle.type_definitions.specs.declared.judgement.View.TheVariants as view
use Rattle.type_definitions.specs.Types.{Table, shape_of, view_of}
use Rattle.machine.specs.Words.{Word, Null, Cell, within_view, are_within, fits_type}
use Rattle.machine.specs.Typed.{Sort, Whole, Position, Pointer, sorts, same_designated}
use Rattle.machine.specs.Memory.{HeapCell}
use Rattle.machine.specs.Evaluate.{Here, Now, Evaluated, Done, followed_by, checked, ConstraintError}
use Rattle.machine.specs.Evaluate as machine
use Rattle.run_codes.specs.Flat.{Flat, Got, Given, Stops, Broken, Made, and_then, reads, access, constraint, is_between, is_word, most_cells}
use Rattle.run_codes.specs.Flat as flat
use Rattle.run_codes.specs.Related.{PointsTo, Stands, IsMarked, IsValue, IsTable, Seen, table, here, now, types, Same, Lying}
use Rattle.run_codes.proofs.Held.{stands_word}
use Rattle.run_codes.proofs.Places.{stopped_on}
use Rattle.run_fills.specs.Filled.{IsWhole, Filled}
use Rattle.run_fills.proofs.Wholes.{unchanged, halts_by, stopped_halts, filled_by, filled_given}

-- ---- one word

-- That of a scalar, or of an access value with no mark.
pub one_value : (table : Table) (made : List ℕ) (st : Sort) (w : Word) (z : ℤ) → Stands table made st w z → IsMarked st false z → IsValue table made (st ∷ []) (w ∷ []) (z ∷ [])
one_value table made st w z stands marked = record { stand = ((stands, marked), tt); words = refl; numbers = refl }

fresh_pointer : (d n : ℕ) → IsMarked (Pointer d) false (pos n)
fresh_pointer d zero = tt
fresh_pointer d (suc n) = refl

pub points_as : (table : Table) (made : List ℕ) (d e n : ℕ) (w : Word) → IsTable table → same_designated table d e ≡ true → PointsTo table made d w n → PointsTo table made e w n
points_as table made d e zero w laws same is = is
points_as table made d e (suc n) w laws same is = (is.0, record { within = is.1.within; sorts = is.1.sorts ∙ laws.same d e same })

-- ---- bounds

null_within : (v : View) → within_view v Null ≡ true
null_within (view.Whole low high) = refl
null_within (view.Listed low high) = refl
null_within (view.Access designated constant named) = refl
null_within view.Fields = refl
null_within view.Hidden = refl
null_within (view.Elements low high element) = refl

cell_within : (v : View) (n : ℕ) → within_view v (Cell n) ≡ true
cell_within (view.Whole low high) n = refl
cell_within (view.Listed low high) n = refl
cell_within (view.Access designated constant named) n = refl
cell_within view.Fields n = refl
cell_within view.Hidden n = refl
cell_within (view.Elements low high element) n = refl

-- An access value is one of each type.
pub pointer_fits : (table : Table) (made : List ℕ) (want d n : ℕ) (w : Word) → PointsTo table made d w n → fits_type table want (w ∷ []) ≡ true
pointer_fits table made want d zero w is = ap (λ x. within_view (view_of (shape_of table want)) x) is ∙ null_within (view_of (shape_of table want))
pointer_fits table made want d (suc n) w is = ap (λ x. within_view (view_of (shape_of table want)) x) is.0 ∙ cell_within (view_of (shape_of table want)) (suc n)

pub whole_fits : (table : Table) (made : List ℕ) (want : ℕ) (low high z : ℤ) (w : Word) → shape_of table want ≡ shape.Whole low high → Stands table made Whole w z
    → fits_type table want (w ∷ []) ≡ is_between low high z
whole_fits table made want low high z w is stands =
    ap (λ s. are_within (view_of s) (w ∷ [])) is ∙ ap (λ x. within_view (view.Whole low high) x) stands.0

pub listed_fits : (table : Table) (made : List ℕ) (want low high : ℕ) (z : ℤ) (w : Word) (literals : List (List ℕ)) → shape_of table want ≡ shape.Listed literals low high → Stands table made Position w z
    → fits_type table want (w ∷ []) ≡ is_between (pos low) (pos high) z
listed_fits table made want low high z w literals is stands =
    ap (λ s. are_within (view_of s) (w ∷ [])) is ∙ ap (λ x. within_view (view.Listed low high) x) stands.0 ∙ between low high (unsigned_abs z)
    ∙ ap (λ x. is_between (pos low) (pos high) x) (sym stands.1)
  where
    between : (low high n : ℕ) → (nat_le low n && nat_le n high) ≡ is_between (pos low) (pos high) (pos n)
    between low high n = grind arith

-- The machine's check.
abbrev test : Bool → List Word → Now → Evaluated (List Word)
test b ws n = if b then Done ws n else machine.Raises ConstraintError n

pub checked_fits : (h : Here) (want : ℕ) (ws : List Word) (n : Now) → fits_type h.typing.table want ws ≡ true → checked h want ws n ≡ Done ws n
checked_fits h want ws n is = ap (λ b. test b ws n) is

-- ---- scalars

-- A word of a scalar sort that is checked on both sides.
pub scalar_filled : (e : Seen) (all : List Lying) → IsWhole e all → (k want : ℕ) (st : Sort) (low high : ℤ) (ev : Evaluated (List Word)) (got : Got ℤ)
    → sorts (table e) want ≡ st ∷ []
    → ((z : ℤ) → IsMarked st false z)
    → ((w : Word) (z : ℤ) → Stands (table e) (types e.memory) st w z → fits_type (table e) want (w ∷ []) ≡ is_between low high z)
    → Same e st k ev got
    → Filled e all k (sorts (table e) want) (followed_by ev (checked (here e) want)) (reads e.flat (and_then got (flat.checked low high)) (λ w. flat.Done (w ∷ []) e.flat))
scalar_filled e all is k want st low high ev (Given z) sort fresh fits same = by (is_between low high z) refl
  where
    ends : followed_by ev (checked (here e) want) ≡ test (is_between low high z) (same.0 ∷ []) (now e k)
    ends = ap (λ x. followed_by x (checked (here e) want)) same.1 ∙ ap (λ b. test b (same.0 ∷ []) (now e k)) (fits same.0 z same.2)

    by : (b : Bool) → is_between low high z ≡ b
        → Filled e all k (sorts (table e) want) (followed_by ev (checked (here e) want)) (reads e.flat (if b then Given z else Stops constraint) (λ w. flat.Done (w ∷ []) e.flat))
    by true sure =
        filled_by e all k (sorts (table e) want) (followed_by ev (checked (here e) want)) (Done (same.0 ∷ []) (now e k)) (flat.Done (z ∷ []) e.flat)
        (ends ∙ ap (λ b. test b (same.0 ∷ []) (now e k)) sure)
        (filled_given e all k (sorts (table e) want) (same.0 ∷ []) (z ∷ []) is
        (subst (λ l. IsValue (table e) (types e.memory) l (same.0 ∷ []) (z ∷ [])) (sym sort) (one_value (table e) (types e.memory) st same.0 z same.2 (fresh z))))
    by false out =
        halts_by e all constraint e.flat (followed_by ev (checked (here e) want)) (machine.Raises ConstraintError (now e k))
        (ends ∙ ap (λ b. test b (same.0 ∷ []) (now e k)) out) (now e k, refl, unchanged e all is)
scalar_filled e all is k want st low high ev (Stops s) sort fresh fits same =
    stopped_halts e all s (followed_by ev (checked (here e) want)) is (stopped_on e.memory s ev (checked (here e) want) same)
scalar_filled e all is k want st low high ev Broken sort fresh fits same = absurd same

pub whole_fresh : (z : ℤ) → IsMarked Whole false z
whole_fresh z = tt

pub position_fresh : (z : ℤ) → IsMarked Position false z
position_fresh z = tt

-- ---- access values

pub few_types : (e : Seen) (all : List Lying) → IsWhole e all → length (types e.memory) ≤ most_cells
few_types e all is = subst (λ l. l ≤ most_cells) (sym (length-map e.memory.cells (λ (c : HeapCell). c.of))) is.related.counted.few

pub pointer_filled : (e : Seen) (all : List Lying) → IsWhole e all → (k want d t : ℕ) (ev : Evaluated (List Word)) (got : Got ℤ)
    → sorts (table e) want ≡ Pointer t ∷ [] → same_designated (table e) d t ≡ true → Same e (Pointer d) k ev got
    → Filled e all k (sorts (table e) want) (followed_by ev (checked (here e) want)) (reads e.flat (and_then got access) (λ w. flat.Done (w ∷ []) e.flat))
pointer_filled e all is k want d t ev (Given z) wants same_type same =
    let n : ℕ = unsigned_abs z in
    let points = points_as (table e) (types e.memory) d t n same.0 is.laws same_type same.2 in
    let word_is : is_word sort.Access z ≡ true = stands_word (table e) (types e.memory) (Pointer d) same.0 z (few_types e all is) same.2 in
    subst (λ g. Filled e all k (sorts (table e) want) (followed_by ev (checked (here e) want)) (reads e.flat g (λ w. flat.Done (w ∷ []) e.flat)))
    (sym (ap (λ b. if b then Given (pos n) else Broken) word_is))
    (filled_by e all k (sorts (table e) want) (followed_by ev (checked (here e) want)) (Done (same.0 ∷ []) (now e k)) (flat.Done (pos n ∷ []) e.flat)
    (ap (λ x. followed_by x (checked (here e) want)) same.1
    ∙ checked_fits (here e) want (same.0 ∷ []) (now e k) (pointer_fits (table e) (types e.memory) want t n same.0 points))
    (filled_given e all k (sorts (table e) want) (same.0 ∷ []) (pos n ∷ []) is
    (subst (λ l. IsValue (table e) (types e.memory) l (same.0 ∷ []) (pos n ∷ [])) (sym wants)
    (one_value (table e) (types e.memory) (Pointer t) same.0 (pos n) points (fresh_pointer t n)))))
pointer_filled e all is k want d t ev (Stops s) sort same_type same =
    stopped_halts e all s (followed_by ev (checked (here e) want)) is (stopped_on e.memory s ev (checked (here e) want) same)
pointer_filled e all is k want d t ev Broken sort same_type same = absurd same
