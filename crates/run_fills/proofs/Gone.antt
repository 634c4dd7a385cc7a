-- What is moved out of a cell is gone on both sides.
use Rattle.std.proofs.Common.{◌≡◌, ℕ, zero, suc, ◌+◌, ◌-◌, ◌≤◌, true, false, Bool, List, [], ◌∷◌, ◌++◌, length, take, drop, refl, sym, ap, subst, ◌∙◌, arith, Some, None, slice_get, ℤ, pos, negsuc, nat_lt, if◌then◌else◌}
use Rattle.std.proofs.lemmas.List.{length-map}
use Rattle.run_values.specs.declared.value.Value.{Value}
use Rattle.run_values.specs.declared.value.Value.TheVariants as value
use Rattle.run_values.specs.declared.value.Kind.TheVariants as sort
use Rattle.run_values.specs.Values.{kind}
use Rattle.kept_cells.specs.Cells.{Cell as StoredCell}
use Rattle.type_definitions.specs.Types.{Table}
use Rattle.machine.specs.Typed.{Sort, Pointer, sorts}
use Rattle.machine.specs.Memory.{Slot, HeapCell, at_number, gone_at}
use Rattle.run_codes.specs.Flat.{word_of, words_in, value_gone, values_gone, as_gone, all_gone, gone_from, kind_of}
use Rattle.run_codes.specs.Related.{AllStand, AllKinds, CellStands, IsSplit}
use Rattle.run_codes.proofs.Parts.{first_stand, second_stand, first_kinds, second_kinds, split_inside, words-drop}
use Rattle.run_codes.proofs.Places.{some_same}
use Rattle.run_codes.proofs.Stores.{splice, split_replaced}
use Rattle.run_codes.proofs.Cells.{split_kinds, words_spliced, splice_long}
use Rattle.run_codes.proofs.Moves.{Accesses, has_first, has_later, all_gone_stand, number_long, gone_long, taken_stand, taken_slots}

-- ---- values that are gone

cell_kind : (h : ℕ) (b : Bool) → kind (if b then value.Cell (h + gone_from) else value.Cell h) ≡ sort.Access
cell_kind h true = refl
cell_kind h false = refl

gone_kind : (v : Value) → kind (value_gone v) ≡ kind v
gone_kind (value.Int v) = refl
gone_kind (value.Enum n) = refl
gone_kind value.Null = refl
gone_kind (value.Cell h) = cell_kind h (nat_lt h gone_from)

-- A handle further on.
far : (h : ℕ) → nat_lt (h + gone_from) gone_from ≡ false
far h = grind arith

back : (h : ℕ) → h + gone_from - gone_from ≡ h
back h = omega arith

cell_gone : (h : ℕ) → word_of (value_gone (value.Cell h)) ≡ as_gone (word_of (value.Cell h))
cell_gone h = by (nat_lt h gone_from) refl
  where
    by : (b : Bool) → nat_lt h gone_from ≡ b
        → word_of (if b then value.Cell (h + gone_from) else value.Cell h) ≡ as_gone (if b then pos (suc h) else negsuc (h - gone_from))
    by true is = ap (λ b. if b then pos (suc (h + gone_from)) else negsuc (h + gone_from - gone_from)) (far h) ∙ ap (λ j. negsuc j) (back h)
    by false is = ap (λ b. if b then pos (suc h) else negsuc (h - gone_from)) is

no_int : (v : ℤ) → kind (value.Int v) ≡ sort.Access → ⊥
no_int v is = cc

no_enum : (n : ℕ) → kind (value.Enum n) ≡ sort.Access → ⊥
no_enum n is = cc

gone_word : (v : Value) → kind v ≡ sort.Access → word_of (value_gone v) ≡ as_gone (word_of v)
gone_word (value.Int v) is = absurd (no_int v is)
gone_word (value.Enum n) is = absurd (no_enum n is)
gone_word value.Null is = refl
gone_word (value.Cell h) is = cell_gone h

one_gone_kinds : (all : List Sort) (o : ℕ) (vs : List Value) → AllKinds all vs → AllKinds all (at_number o value_gone vs)
one_gone_kinds [] o vs is = tt
one_gone_kinds (s ∷ all) o [] is = absurd is
one_gone_kinds (s ∷ all) zero (v ∷ vs) is = (gone_kind v ∙ is.0, is.1)
one_gone_kinds (s ∷ all) (suc o) (v ∷ vs) is = (is.0, one_gone_kinds all o vs is.1)

one_gone_words : (all : List Sort) (o d : ℕ) (vs : List Value) → slice_get all o ≡ Some (Pointer d) → AllKinds all vs
    → words_in (at_number o value_gone vs) ≡ at_number o as_gone (words_in vs)
one_gone_words [] o d vs there is = absurd (never there)
  where
    never : {A : Type 0} {a : A} → None ≡ Some a → ⊥
    never x = cc
one_gone_words (s ∷ all) o d [] there is = absurd is
one_gone_words (s ∷ all) zero d (v ∷ vs) there is = ap (λ w. w ∷ words_in vs) (gone_word v (is.0 ∙ ap kind_of (some_same s (Pointer d) there)))
one_gone_words (s ∷ all) (suc o) d (v ∷ vs) there is = ap (λ l. word_of v ∷ l) (one_gone_words all o d vs there is.1)

gone_kinds : (all : List Sort) (offsets : List ℕ) (vs : List Value) → AllKinds all vs → AllKinds all (values_gone offsets vs)
gone_kinds all [] vs is = is
gone_kinds all (o ∷ rest) vs is = gone_kinds all rest (at_number o value_gone vs) (one_gone_kinds all o vs is)

gone_words : (all : List Sort) (offsets : List ℕ) (vs : List Value) → Accesses all offsets → AllKinds all vs → words_in (values_gone offsets vs) ≡ all_gone offsets (words_in vs)
gone_words all [] vs access is = refl
gone_words all (o ∷ rest) vs access is =
    let first = access o (has_first o rest) in
    gone_words all rest (at_number o value_gone vs) (λ k has. access k (has_later o k rest has)) (one_gone_kinds all o vs is)
    ∙ ap (all_gone rest) (one_gone_words all o first.0 vs first.1 is)

values_gone_long : (offsets : List ℕ) (vs : List Value) → length (values_gone offsets vs) ≡ length vs
values_gone_long [] vs = refl
values_gone_long (o ∷ rest) vs = values_gone_long rest (at_number o value_gone vs) ∙ number_long o value_gone vs

-- ---- a part of a cell

taken_kinds : (all : List Sort) (vs : List Value) → AllKinds all vs → AllKinds all (take (length all) vs)
taken_kinds [] vs is = tt
taken_kinds (s ∷ all) [] is = absurd is
taken_kinds (s ∷ all) (v ∷ vs) is = (is.0, taken_kinds all vs is.1)

taken_values : (all : List Sort) (vs : List Value) → AllKinds all vs → length (take (length all) vs) ≡ length all
taken_values [] vs is = refl
taken_values (s ∷ all) [] is = absurd is
taken_values (s ∷ all) (v ∷ vs) is = ap suc (taken_values all vs is.1)

words_taken : (n : ℕ) (vs : List Value) → words_in (take n vs) ≡ take n (words_in vs)
words_taken zero vs = refl
words_taken (suc n) [] = refl
words_taken (suc n) (v ∷ vs) = ap (λ l. word_of v ∷ l) (words_taken n vs)

pub part_stand : (table : Table) (made : List ℕ) (all part : List Sort) (at : ℕ) (xs : List Slot) (zs : List ℤ) → IsSplit all at part → AllStand table made all xs zs
    → AllStand table made part (drop at xs) (drop at zs)
part_stand table made all part at xs zs split is =
    subst (λ n. AllStand table made part (drop n xs) (drop n zs)) split.long
    (first_stand table made part split.rest (drop (length split.front) xs) (drop (length split.front) zs)
    (second_stand table made split.front (part ++ split.rest) xs zs (subst (λ l. AllStand table made l xs zs) split.is is)))

part_kinds : (all part : List Sort) (at : ℕ) (vs : List Value) → IsSplit all at part → AllKinds all vs → AllKinds part (drop at vs)
part_kinds all part at vs split is =
    subst (λ n. AllKinds part (drop n vs)) split.long
    (first_kinds part split.rest (drop (length split.front) vs)
    (second_kinds split.front (part ++ split.rest) vs (subst (λ l. AllKinds l vs) split.is is)))

pub gone_in_cell : (table : Table) (made : List ℕ) (c : HeapCell) (k : StoredCell) (part : List Sort) (at : ℕ) (offsets : List ℕ)
    → IsSplit (sorts table c.of) at part → Accesses part offsets → CellStands table made c k
    → CellStands table made (record c { slots = splice at (gone_at offsets (take (length part) (drop at c.slots))) c.slots })
    (record k { words = splice at (values_gone offsets (take (length part) (drop at k.words))) k.words })
gone_in_cell table made c k part at offsets split access is =
    let ys : List Slot = gone_at offsets (take (length part) (drop at c.slots)) in
    let vs : List Value = take (length part) (drop at k.words) in
    let us : List Value = values_gone offsets vs in
    let old = part_stand table made (sorts table c.of) part at c.slots (words_in k.words) split is.words in
    let all_kinds = part_kinds (sorts table c.of) part at k.words split is.kinds in
    let kinds = taken_kinds part (drop at k.words) all_kinds in
    let new = all_gone_stand table made part offsets (take (length part) (drop at c.slots)) (take (length part) (drop at (words_in k.words))) access
    (taken_stand table made part (drop at c.slots) (drop at (words_in k.words)) old) in
    let vs_words : words_in vs ≡ take (length part) (drop at (words_in k.words)) =
    words_taken (length part) (drop at k.words) ∙ ap (take (length part)) (sym (words-drop at k.words)) in
    let us_words : words_in us ≡ all_gone offsets (take (length part) (drop at (words_in k.words))) = gone_words part offsets vs access kinds ∙ ap (all_gone offsets) vs_words in
    let stand : AllStand table made part ys (words_in us) = subst (λ l. AllStand table made part ys l) (sym us_words) new in
    let long_ys = gone_long offsets (take (length part) (drop at c.slots)) ∙ taken_slots table made part (drop at c.slots) (drop at (words_in k.words)) old in
    let long_us : length us ≡ length part = values_gone_long offsets vs ∙ taken_values part (drop at k.words) all_kinds in
    let inside = split_inside (sorts table c.of) part at split in
    let fits : at + length us ≤ length k.words = omega (arith, inside, long_us, is.room) in
    let fits_slots : at + length ys ≤ length c.slots = omega (arith, inside, long_ys, is.room, is.size) in
    let words_are : words_in (splice at us k.words) ≡ splice at (words_in us) (words_in k.words) = words_spliced at us k.words (omega (arith, fits)) in
    let long : length (splice at us k.words) ≡ length k.words = splice_long at us k.words fits in
    record {
      words = subst (λ l. AllStand table made (sorts table c.of) (splice at ys c.slots) l) (sym words_are)
          (split_replaced table made (sorts table c.of) part at c.slots ys (words_in k.words) (words_in us) split long_ys (length-map us word_of ∙ long_us) is.words stand);
      kinds = split_kinds (sorts table c.of) part at k.words us split long_us is.kinds (gone_kinds part offsets vs kinds);
      size = splice_long at ys c.slots fits_slots ∙ is.size ∙ sym long;
      room = long ∙ is.room;
      small = omega (arith, long, is.small);
      freed = is.freed;
    }
