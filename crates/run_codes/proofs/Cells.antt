-- A store into a cell keeps what stands for the machine's memory.
use Rattle.std.proofs.Common.{◌≡◌, ℕ, zero, suc, ◌+◌, ◌-◌, ◌<◌, ◌≤◌, true, false, List, [], ◌∷◌, ◌++◌, map, length, drop, get_or, refl, sym, ap, subst, ◌∙◌, arith, Some, slice_get, ℤ, pos, negsuc, nat_lt, if◌then◌else◌}
use Rattle.std.specs.Prelude.{◌==◌}
use Rattle.std.proofs.lemmas.List.{length-map}
use Rattle.kept_cells.specs.run_values.declared.value.Value.{Value}
use Rattle.kept_cells.specs.run_values.declared.value.Kind.TheVariants as sort
use Rattle.kept_cells.specs.run_values.Values.{kind}
use Rattle.kept_cells.specs.Cells.{Cell as StoredCell, changed}
use Rattle.machine.specs.type_definitions.Types.{Table}
use Rattle.machine.specs.Words.{Word}
use Rattle.machine.specs.Typed.{Sort, Whole, Position, Pointer}
use Rattle.machine.specs.Memory.{HeapCell, no_cell, at_number, fresh}
use Rattle.run_codes.specs.Flat.{kind_of, word_of, words_in, value_of, access_value, values, gone_from, most_cells}
use Rattle.run_codes.specs.Related.{SlotStands, AllStand, AllKinds, IsSplit}
use Rattle.run_codes.proofs.Stores.{splice}

-- ---- values and their words

small_number : (n l : ℕ) → l ≤ most_cells → n < l → nat_lt n gone_from ≡ true
small_number n l few within = grind arith

pointer_word : (table : Table) (made : List ℕ) (d : ℕ) (w : Word) (z : ℤ) → length made ≤ most_cells
    → SlotStands table made (Pointer d) (record { word = w; gone = false }) z → word_of (access_value z) ≡ z
pointer_word table made d w (pos zero) few is = refl
pointer_word table made d w (pos (suc n)) few is = ap (λ b. if b then pos (suc n) else negsuc (n - gone_from)) (small_number n (length made) few is.0.1.within)
pointer_word table made d w (negsuc n) few is = absurd (never is.1)
  where
    never : false ≡ true → ⊥
    never x = cc

value_word : (table : Table) (made : List ℕ) (s : Sort) (w : Word) (z : ℤ) → length made ≤ most_cells
    → SlotStands table made s (record { word = w; gone = false }) z → word_of (value_of (kind_of s) z) ≡ z
value_word table made Whole w z few is = refl
value_word table made Position w z few is = sym is.0.1
value_word table made (Pointer d) w z few is = pointer_word table made d w z few is

pub values_words : (table : Table) (made : List ℕ) (all : List Sort) (ws : List Word) (zs : List ℤ) → length made ≤ most_cells → length zs ≡ length all
    → AllStand table made all (fresh ws) zs → words_in (values (map kind_of all) zs) ≡ zs
values_words table made [] ws [] few long is = refl
values_words table made [] ws (z ∷ zs) few long is = absurd (omega (arith, long))
values_words table made (s ∷ all) [] zs few long is = absurd is
values_words table made (s ∷ all) (w ∷ ws) [] few long is = absurd is
values_words table made (s ∷ all) (w ∷ ws) (z ∷ zs) few long is =
    ap (λ y. y ∷ words_in (values (map kind_of all) zs)) (value_word table made s w z few is.0)
    ∙ ap (λ l. z ∷ l) (values_words table made all ws zs few (omega (arith, long)) is.1)

access_kind : (z : ℤ) → kind (access_value z) ≡ sort.Access
access_kind (pos zero) = refl
access_kind (pos (suc n)) = refl
access_kind (negsuc n) = refl

value_kind : (s : Sort) (z : ℤ) → kind (value_of (kind_of s) z) ≡ kind_of s
value_kind Whole z = refl
value_kind Position z = refl
value_kind (Pointer d) z = access_kind z

pub values_kinds : (all : List Sort) (zs : List ℤ) → length zs ≡ length all → AllKinds all (values (map kind_of all) zs)
values_kinds [] zs long = tt
values_kinds (s ∷ all) [] long = absurd (omega (arith, long))
values_kinds (s ∷ all) (z ∷ zs) long = (value_kind s z, values_kinds all zs (omega (arith, long)))

pub values_long : (all : List Sort) (zs : List ℤ) → length zs ≡ length all → length (values (map kind_of all) zs) ≡ length all
values_long [] zs long = refl
values_long (s ∷ all) [] long = absurd (omega (arith, long))
values_long (s ∷ all) (z ∷ zs) long = ap suc (values_long all zs (omega (arith, long)))

-- ---- kinds of which some are replaced

front_kinds : (part rest : List Sort) (vs us : List Value) → length us ≡ length part → AllKinds (part ++ rest) vs → AllKinds part us
    → AllKinds (part ++ rest) (us ++ drop (length us) vs)
front_kinds [] rest vs [] long is new = is
front_kinds [] rest vs (u ∷ us) long is new = absurd (omega (arith, long))
front_kinds (s ∷ part) rest vs [] long is new = absurd new
front_kinds (s ∷ part) rest [] (u ∷ us) long is new = absurd is
front_kinds (s ∷ part) rest (v ∷ vs) (u ∷ us) long is new = (new.0, front_kinds part rest vs us (omega (arith, long)) is.1 new.1)

part_kinds : (front part rest : List Sort) (vs us : List Value) → length us ≡ length part → AllKinds (front ++ (part ++ rest)) vs → AllKinds part us
    → AllKinds (front ++ (part ++ rest)) (splice (length front) us vs)
part_kinds [] part rest vs us long is new = front_kinds part rest vs us long is new
part_kinds (s ∷ front) part rest [] us long is new = absurd is
part_kinds (s ∷ front) part rest (v ∷ vs) us long is new = (is.0, part_kinds front part rest vs us long is.1 new)

pub split_kinds : (all part : List Sort) (at : ℕ) (vs us : List Value) → IsSplit all at part → length us ≡ length part → AllKinds all vs → AllKinds part us
    → AllKinds all (splice at us vs)
split_kinds all part at vs us split long is new =
    subst (λ n. AllKinds all (splice n us vs)) split.long
    (subst (λ l. AllKinds l (splice (length split.front) us vs)) (sym split.is)
    (part_kinds split.front part split.rest vs us long (subst (λ l. AllKinds l vs) split.is is) new))

-- ---- words of values of which some are replaced

words_after : (us vs : List Value) → words_in (us ++ drop (length us) vs) ≡ words_in us ++ drop (length us) (words_in vs)
words_after us vs = joined us (drop (length us) vs) ∙ ap (λ l. words_in us ++ l) (dropped (length us) vs)
  where
    joined : (us vs : List Value) → words_in (us ++ vs) ≡ words_in us ++ words_in vs
    joined [] vs = refl
    joined (u ∷ us) vs = ap (λ l. word_of u ∷ l) (joined us vs)

    dropped : (n : ℕ) (vs : List Value) → words_in (drop n vs) ≡ drop n (words_in vs)
    dropped zero vs = refl
    dropped (suc n) [] = refl
    dropped (suc n) (v ∷ vs) = dropped n vs

pub words_spliced : (n : ℕ) (us vs : List Value) → n ≤ length vs → words_in (splice n us vs) ≡ splice n (words_in us) (words_in vs)
words_spliced zero us vs le = words_after us vs ∙ ap (λ k. words_in us ++ drop k (words_in vs)) (sym (length-map us word_of))
words_spliced (suc n) us [] le = absurd (omega (arith, le))
words_spliced (suc n) us (v ∷ vs) le = ap (λ l. word_of v ∷ l) (words_spliced n us vs (omega (arith, le)))

-- As many stand there as before.
pub splice_long : {A : Type 0} (n : ℕ) (new all : List A) → n + length new ≤ length all → length (splice n new all) ≡ length all
splice_long zero new all le = front_long new all (omega (arith, le))
  where
    front_long : {A : Type 0} (new all : List A) → length new ≤ length all → length (new ++ drop (length new) all) ≡ length all
    front_long [] all le = refl
    front_long (x ∷ new) [] le = absurd (omega (arith, le))
    front_long (x ∷ new) (y ∷ all) le = ap suc (front_long new all (omega (arith, le)))
splice_long (suc n) new [] le = absurd (omega (arith, le))
splice_long (suc n) new (x ∷ all) le = ap suc (splice_long n new all (omega (arith, le)))

-- ---- one cell is changed

pub number_same : (n : ℕ) (g : HeapCell → HeapCell) (cells : List HeapCell) → n < length cells → get_or (at_number n g cells) n no_cell ≡ g (get_or cells n no_cell)
number_same n g [] lt = absurd (omega (arith, lt))
number_same zero g (c ∷ cells) lt = refl
number_same (suc n) g (c ∷ cells) lt = number_same n g cells (omega (arith, lt))

pub number_other : (n k : ℕ) (g : HeapCell → HeapCell) (cells : List HeapCell) → (n == k) ≡ false → get_or (at_number n g cells) k no_cell ≡ get_or cells k no_cell
number_other n k g [] other = refl
number_other zero zero g (c ∷ cells) other = absurd (never other)
  where
    never : true ≡ false → ⊥
    never x = cc
number_other zero (suc k) g (c ∷ cells) other = refl
number_other (suc n) zero g (c ∷ cells) other = refl
number_other (suc n) (suc k) g (c ∷ cells) other = number_other n k g cells (less n k other)
  where
    less : (n k : ℕ) → (suc n == suc k) ≡ false → (n == k) ≡ false
    less n k is = grind arith

pub number_long : (n : ℕ) (g : HeapCell → HeapCell) (cells : List HeapCell) → length (at_number n g cells) ≡ length cells
number_long n g [] = refl
number_long zero g (c ∷ cells) = refl
number_long (suc n) g (c ∷ cells) = ap suc (number_long n g cells)

pub number_types : (n : ℕ) (g : HeapCell → HeapCell) (cells : List HeapCell) → ((c : HeapCell) → (g c).of ≡ c.of)
    → map (λ (c : HeapCell). c.of) (at_number n g cells) ≡ map (λ (c : HeapCell). c.of) cells
number_types n g [] keeps = refl
number_types zero g (c ∷ cells) keeps = ap (λ t. t ∷ map (λ (c : HeapCell). c.of) cells) (keeps c)
number_types (suc n) g (c ∷ cells) keeps = ap (λ l. c.of ∷ l) (number_types n g cells keeps)

pub stored_same : (n : ℕ) (g : StoredCell → StoredCell) (cells : List StoredCell) (c : StoredCell) → slice_get cells n ≡ Some c → slice_get (changed g cells n) n ≡ Some (g c)
stored_same n g [] c is = cc
stored_same zero g (x ∷ cells) c is = ap (λ y. Some (g y)) (same x c is)
  where
    same : (x c : StoredCell) → Some x ≡ Some c → x ≡ c
    same x c is = cc
stored_same (suc n) g (x ∷ cells) c is = stored_same n g cells c is

pub stored_other : (n k : ℕ) (g : StoredCell → StoredCell) (cells : List StoredCell) → (n == k) ≡ false → slice_get (changed g cells n) k ≡ slice_get cells k
stored_other n k g [] other = refl
stored_other zero zero g (c ∷ cells) other = absurd (never other)
  where
    never : true ≡ false → ⊥
    never x = cc
stored_other zero (suc k) g (c ∷ cells) other = refl
stored_other (suc n) zero g (c ∷ cells) other = refl
stored_other (suc n) (suc k) g (c ∷ cells) other = stored_other n k g cells (less n k other)
  where
    less : (n k : ℕ) → (suc n == suc k) ≡ false → (n == k) ≡ false
    less n k is = grind arith

pub stored_long : (n : ℕ) (g : StoredCell → StoredCell) (cells : List StoredCell) → length (changed g cells n) ≡ length cells
stored_long n g [] = refl
stored_long zero g (c ∷ cells) = refl
stored_long (suc n) g (c ∷ cells) = ap suc (stored_long n g cells)
