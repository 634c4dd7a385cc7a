-- The leak checks of a place fail where they fail on the machine.
use Rattle.std.proofs.Common.{◌≡◌, inl, inr, ℕ, zero, suc, ◌+◌, List, [], ◌∷◌, ◌++◌, map, length, take, drop, get_or, refl, sym, ap, subst, ◌∙◌, Some, None, slice_get, ℤ, pos, negsuc, append_assoc}
use Rattle.std.specs.Prelude.{flat_map}
use Rattle.spark_base.specs.Lists.{Has}
use Rattle.spark_base.specs.declared.position.Pos.{Pos}
use Rattle.type_definitions.specs.Types.{Table, parts}
use Rattle.machine.specs.Words.{Cell, offsets, access_offsets}
use Rattle.machine.specs.Typed.{Sort, Pointer, sorts}
use Rattle.machine.specs.Memory.{Slot, no_slot, slots_at}
use Rattle.machine.specs.Evaluate.{Evaluated}
use Rattle.machine.specs.Calls.{failed, failed_at, checks_at}
use Rattle.machine.specs.States.{Leak}
use Rattle.machine.specs.Memory.{Place}
use Rattle.run_codes.specs.Flat.{Given, Spot, and_then}
use Rattle.run_codes.specs.Points.{leak, leaks_in, leaks_at}
use Rattle.run_codes.specs.Related.{SlotStands, AllStand, Seen, table, types, IsPlace, IsThere, Lying}
use Rattle.run_codes.proofs.Places.{some_same}
use Rattle.run_codes.proofs.Held.{is_held}
use Rattle.run_fills.specs.Filled.{IsWhole}
use Rattle.run_fills.proofs.GivenUp.{get_dropped}

-- ---- lists

same_all : {A B : Type 0} (f g : A → List B) (xs : List A) → ((x : A) → Has xs x → f x ≡ g x) → flat_map f xs ≡ flat_map g xs
same_all f g [] each = refl
same_all f g (x ∷ xs) each = ap (λ l. l ++ flat_map f xs) (each x (inl refl)) ∙ ap (λ l. g x ++ l) (same_all f g xs (λ y has. each y (inr has)))

flat_joined : {A B : Type 0} (g : A → List B) (xs ys : List A) → flat_map g (xs ++ ys) ≡ flat_map g xs ++ flat_map g ys
flat_joined g [] ys = refl
flat_joined g (x ∷ xs) ys = ap (λ l. g x ++ l) (flat_joined g xs ys) ∙ sym (append_assoc (g x) (flat_map g xs) (flat_map g ys))

part_by_part : {A B C : Type 0} (g : B → List C) (h : A → List B) (xs : List A) → flat_map g (flat_map h xs) ≡ flat_map (λ l. l) (map (λ x. flat_map g (h x)) xs)
part_by_part g h [] = refl
part_by_part g h (x ∷ xs) = flat_joined g (h x) (flat_map h xs) ∙ ap (λ l. flat_map g (h x) ++ l) (part_by_part g h xs)

-- ---- one check

-- A check fails at the number of a cell that isn't gone.
leak_same : (t : Table) (made : List ℕ) (d : ℕ) (p : Pos) (x : Slot) (z : ℤ) → SlotStands t made (Pointer d) x z → leak p z ≡ failed p x
leak_same t made d p x (pos zero) is = sym (ap (λ w. failed_at p w x.gone) is.0)
leak_same t made d p x (pos (suc n)) is = sym (ap (λ w. failed_at p w x.gone) is.0.0 ∙ ap (λ g. failed_at p (Cell (suc n)) g) is.1)
leak_same t made d p x (negsuc n) is = sym (ap (λ w. failed_at p w x.gone) is.0.0 ∙ ap (λ g. failed_at p (Cell (suc n)) g) is.1)

check_same : (t : Table) (made : List ℕ) (all : List Sort) (o d : ℕ) (p : Pos) (xs : List Slot) (zs : List ℤ) → slice_get all o ≡ Some (Pointer d) → AllStand t made all xs zs
    → leak p (get_or (take (length all) zs) o (pos 0)) ≡ failed p (get_or xs o no_slot)
check_same t made [] o d p xs zs there is = absurd (never there)
  where
    never : {A : Type 0} {a : A} → None ≡ Some a → ⊥
    never x = cc
check_same t made (s ∷ all) o d p [] zs there is = absurd is
check_same t made (s ∷ all) o d p (x ∷ xs) [] there is = absurd is
check_same t made (s ∷ all) zero d p (x ∷ xs) (z ∷ zs) there is = leak_same t made d p x z (subst (λ k. SlotStands t made k x z) (some_same s (Pointer d) there) is.0)
check_same t made (s ∷ all) (suc o) d p (x ∷ xs) (z ∷ zs) there is = check_same t made all o d p xs zs there is.1

-- ---- all checks of a place

pub leaks_same : (e : Seen) (all : List Lying) → IsWhole e all → (k t : ℕ) (w : Spot) (zs : List ℤ) (ev : Evaluated Place) (is : IsPlace e k t w zs ev) → IsThere e t w zs → (p : Pos)
    → leaks_at (table e) e.flat w t p ≡ Given (flat_map (λ leaks. leaks) (checks_at e.site.typing p e.memory is.p))
leaks_same e all whole k t w zs ev is there p =
    let held = is_held e whole.related.counted.few k t w zs ev is there in
    let us : List ℤ = take (length (sorts (table e) t)) zs in
    let slots : List Slot = slots_at e.site.typing e.memory is.p.base in
    let check : ℕ → List Leak = λ o. failed p (get_or slots (is.p.at + o) no_slot) in
    let each : leaks_in p us (access_offsets (table e) t) ≡ flat_map check (access_offsets (table e) t) =
    same_all (λ o. leak p (get_or us o (pos 0))) check (access_offsets (table e) t)
    (λ o has. let access = whole.laws.accesses t o has in
    check_same (table e) (types e.memory) (sorts (table e) t) o access.0 p (drop is.p.at slots) zs access.1 is.stand
    ∙ ap (failed p) (get_dropped is.p.at o (is.p.at + o) slots no_slot refl)) in
    ap (λ g. and_then g (λ us. Given (leaks_in p us (access_offsets (table e) t)))) held.words
    ∙ ap (λ l. Given l) (each ∙ part_by_part check (offsets (table e) t) (parts (table e) t)
    ∙ ap (λ u. flat_map (λ leaks. leaks) (map (λ part. flat_map check (offsets (table e) u part)) (parts (table e) u))) (sym is.of))
