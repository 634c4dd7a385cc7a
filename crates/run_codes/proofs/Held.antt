-- What stands at a spot is the value that the machine finds there.
use Rattle.std.proofs.Common.{◌≡◌, ℕ, zero, suc, ◌+◌, ◌<◌, ◌≤◌, true, false, ◌&&◌, List, [], ◌∷◌, map, length, take, drop, refl, sym, ap, subst, ◌∙◌, arith, ℤ, pos, negsuc, nat_lt, if◌then◌else◌}
use Rattle.std.specs.Prelude.{unsigned_abs, int_le, nat_le}
use Rattle.std.proofs.lemmas.List.{length-map}
use Rattle.kept_cells.specs.run_values.declared.value.Value.{Value}
use Rattle.kept_cells.specs.run_values.declared.value.Kind.{Kind}
use Rattle.kept_cells.specs.run_values.declared.value.Kind.TheVariants as sort
use Rattle.kept_cells.specs.Cells.{Cell as StoredCell}
use Rattle.machine.specs.type_definitions.Types.{Table, words}
use Rattle.machine.specs.Words.{Word}
use Rattle.machine.specs.Typed.{Sort, Whole, Position, Pointer, sorts}
use Rattle.machine.specs.Memory.{Slot, HeapCell, Place, fresh, slots_at, words_of}
use Rattle.machine.specs.Evaluate.{Evaluated, Touched, heap_words}
use Rattle.run_codes.specs.Flat.{Given, Stops, Broken, Traps, and_then, kind_of, kinds, same_kind, is_word, have_kinds, are_in, front, front_of_cell, words_at, all_fresh, as_fresh, held, touched, most_cells, most_offsets, Spot, InStack, InCell, words_in}
use Rattle.run_codes.specs.Related.{PointsTo, Stands, SlotStands, AllStand, AllKinds, IsValue, Seen, table, types, IsPlace, IsThere}
use Rattle.run_codes.proofs.Parts.{many}

-- ---- words of kinds

number_small : (table : Table) (made : List ℕ) (d n : ℕ) (w : Word) → length made ≤ most_cells → PointsTo table made d w n → nat_le n most_cells ≡ true
number_small table made d zero w few is = refl
number_small table made d (suc n) w few is = small n (length made) few is.1.within
  where
    small : (n l : ℕ) → l ≤ most_cells → n < l → nat_le (suc n) most_cells ≡ true
    small n l few within = grind arith

above : (n : ℕ) → int_le (pos 0) (pos n) ≡ true
above n = grind arith

pub stands_word : (table : Table) (made : List ℕ) (s : Sort) (w : Word) (z : ℤ) → length made ≤ most_cells → Stands table made s w z → is_word (kind_of s) z ≡ true
stands_word table made Whole w z few is = is.1
stands_word table made Position w z few is =
    ap (λ b. b && int_le (pos 0) z) is.2 ∙ ap (λ y. int_le (pos 0) y) is.1 ∙ above (unsigned_abs z)
stands_word table made (Pointer d) w z few is = number_small table made d (unsigned_abs z) w few is

-- ---- the words at the front

pub front_there : (table : Table) (made : List ℕ) (all : List Sort) (xs : List Slot) (zs : List ℤ) → length made ≤ most_cells → AllStand table made all xs zs
    → front (map kind_of all) zs ≡ Given (take (length all) zs)
front_there table made [] xs zs few is = refl
front_there table made (s ∷ all) [] zs few is = absurd is
front_there table made (s ∷ all) (x ∷ xs) [] few is = absurd is
front_there table made (s ∷ all) (x ∷ xs) (z ∷ zs) few is =
    ap (λ b. if b then and_then (front (map kind_of all) zs) (λ more. Given (z ∷ more)) else Broken) (stands_word table made s x.word z few is.0.0)
    ∙ ap (λ g. and_then g (λ more. Given (z ∷ more))) (front_there table made all xs zs few is.1)

fresh_stands : (table : Table) (made : List ℕ) (s : Sort) (x : Slot) (z : ℤ) → SlotStands table made s x z
    → SlotStands table made s (record { word = x.word; gone = false }) (as_fresh (kind_of s) z)
fresh_stands table made Whole x z is = (is.0, tt)
fresh_stands table made Position x z is = (is.0, tt)
fresh_stands table made (Pointer d) x (pos zero) is = (is.0, tt)
fresh_stands table made (Pointer d) x (pos (suc n)) is = (is.0, refl)
fresh_stands table made (Pointer d) x (negsuc n) is = (is.0, refl)

abbrev pub slot_words : List Slot → List Word
slot_words xs = map (λ (slot : Slot). slot.word) xs

value_stand : (table : Table) (made : List ℕ) (all : List Sort) (xs : List Slot) (zs : List ℤ) → AllStand table made all xs zs
    → AllStand table made all (fresh (slot_words (take (length all) xs))) (all_fresh (map kind_of all) (take (length all) zs))
value_stand table made [] xs zs is = tt
value_stand table made (s ∷ all) [] zs is = absurd is
value_stand table made (s ∷ all) (x ∷ xs) [] is = absurd is
value_stand table made (s ∷ all) (x ∷ xs) (z ∷ zs) is = (fresh_stands table made s x z is.0, value_stand table made all xs zs is.1)

value_words : (table : Table) (made : List ℕ) (all : List Sort) (xs : List Slot) (zs : List ℤ) → AllStand table made all xs zs
    → length (slot_words (take (length all) xs)) ≡ length all
value_words table made [] xs zs is = refl
value_words table made (s ∷ all) [] zs is = absurd is
value_words table made (s ∷ all) (x ∷ xs) [] is = absurd is
value_words table made (s ∷ all) (x ∷ xs) (z ∷ zs) is = ap suc (value_words table made all xs zs is.1)

value_numbers : (table : Table) (made : List ℕ) (all : List Sort) (xs : List Slot) (zs : List ℤ) → AllStand table made all xs zs
    → length (all_fresh (map kind_of all) (take (length all) zs)) ≡ length all
value_numbers table made [] xs zs is = refl
value_numbers table made (s ∷ all) [] zs is = absurd is
value_numbers table made (s ∷ all) (x ∷ xs) [] is = absurd is
value_numbers table made (s ∷ all) (x ∷ xs) (z ∷ zs) is = ap suc (value_numbers table made all xs zs is.1)

pub held_value : (table : Table) (made : List ℕ) (all : List Sort) (xs : List Slot) (zs : List ℤ) → AllStand table made all xs zs
    → IsValue table made all (slot_words (take (length all) xs)) (all_fresh (map kind_of all) (take (length all) zs))
held_value table made all xs zs is =
    record { stand = value_stand table made all xs zs is; words = value_words table made all xs zs is; numbers = value_numbers table made all xs zs is }

-- ---- the words of a cell

kind_same : (k : Kind) → same_kind k k ≡ true
kind_same sort.Int = refl
kind_same sort.Enum = refl
kind_same sort.Access = refl

pub kinds_there : (all : List Sort) (vs : List Value) → AllKinds all vs → have_kinds (map kind_of all) vs ≡ true
kinds_there [] vs is = refl
kinds_there (s ∷ all) [] is = absurd is
kinds_there (s ∷ all) (v ∷ vs) is =
    ap (λ k. same_kind k (kind_of s) && have_kinds (map kind_of all) vs) is.0 ∙ ap (λ b. b && have_kinds (map kind_of all) vs) (kind_same (kind_of s))
    ∙ kinds_there all vs is.1

pub in_cell_there : (all : List Sort) (o : ℕ) (c : StoredCell) → length c.words ≤ heap_words → o + length all ≤ length c.words → AllKinds all (drop o c.words)
    → are_in o (map kind_of all) c ≡ true
in_cell_there all o c small inside is =
    let long : length (map kind_of all) ≡ length all = length-map all kind_of in
    let bound : nat_lt (o + length (map kind_of all)) most_offsets ≡ true = few (o + length (map kind_of all)) (omega (arith, long, inside, small)) in
    ap (λ b. b && have_kinds (map kind_of all) (drop o c.words)) bound ∙ kinds_there all (drop o c.words) is
  where
    few : (n : ℕ) → n ≤ heap_words → nat_lt n most_offsets ≡ true
    few n is = grind arith

-- ---- the value at a spot

-- All its words, marks of what is gone among them, and the value.
pub record IsHeld (e : Seen) (t : ℕ) (w : Spot) (p : Place) (zs : List ℤ) : Type 0 where
  pub words : words_at e.flat w (kinds (table e) t) ≡ Given (take (length (sorts (table e) t)) zs)
  pub value : held e.flat w (kinds (table e) t) ≡ Given (all_fresh (kinds (table e) t) (take (length (sorts (table e) t)) zs))
  pub is : IsValue (table e) (types e.memory) (sorts (table e) t) (words_of e.site.typing e.memory p) (all_fresh (kinds (table e) t) (take (length (sorts (table e) t)) zs))

spot_words : (e : Seen) → length e.memory.cells ≤ most_cells → (t : ℕ) (w : Spot) (xs : List Slot) (zs : List ℤ) → IsThere e t w zs
    → AllStand (table e) (types e.memory) (sorts (table e) t) xs zs → words_at e.flat w (kinds (table e) t) ≡ Given (take (length (sorts (table e) t)) zs)
spot_words e few t (InStack n) xs zs there stand =
    let some : length (types e.memory) ≤ most_cells = subst (λ l. l ≤ most_cells) (sym (length-map e.memory.cells (λ (c : HeapCell). c.of))) few in
    ap (λ l. front (kinds (table e) t) l) (sym there) ∙ front_there (table e) (types e.memory) (sorts (table e) t) xs zs some stand
spot_words e few t (InCell n o) xs zs there stand =
    let some : length (types e.memory) ≤ most_cells = subst (λ l. l ≤ most_cells) (sym (length-map e.memory.cells (λ (c : HeapCell). c.of))) few in
    ap (λ g. touched g (front_of_cell o (kinds (table e) t))) there.there
    ∙ ap (λ b. if b then Stops (Traps Touched) else front_of_cell o (kinds (table e) t) there.c) there.live
    ∙ ap (λ b. if b then front (kinds (table e) t) (drop o (words_in there.c.words)) else Broken) (in_cell_there (sorts (table e) t) o there.c there.small there.inside there.kinds)
    ∙ ap (λ l. front (kinds (table e) t) l) (sym there.words)
    ∙ front_there (table e) (types e.memory) (sorts (table e) t) xs zs some stand

pub is_held : (e : Seen) → length e.memory.cells ≤ most_cells → (k t : ℕ) (w : Spot) (zs : List ℤ) (ev : Evaluated Place) (is : IsPlace e k t w zs ev) → IsThere e t w zs → IsHeld e t w is.p zs
is_held e few k t w zs ev is there =
    let slots : List Slot = drop is.p.at (slots_at e.site.typing e.memory is.p.base) in
    let all = spot_words e few t w slots zs there is.stand in
    let size : words (table e) is.p.of ≡ length (sorts (table e) t) = ap (words (table e)) is.of ∙ sym (many (table e) t) in
    record {
      words = all;
      value = ap (λ g. and_then g (λ l. Given (all_fresh (kinds (table e) t) l))) all;
      is = subst (λ n. IsValue (table e) (types e.memory) (sorts (table e) t) (slot_words (take n slots)) (all_fresh (kinds (table e) t) (take (length (sorts (table e) t)) zs))) (sym size)
          (held_value (table e) (types e.memory) (sorts (table e) t) slots zs is.stand);
    }
