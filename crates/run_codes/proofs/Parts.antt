-- Parts of what stands for other words.
use Rattle.std.proofs.Common.{◌≡◌, ℕ, zero, suc, ◌+◌, ◌*◌, ◌<◌, ◌≤◌, List, [], ◌∷◌, ◌++◌, map, flat_map, length, get_or, take, drop, sum, refl, sym, ap, subst, ◌∙◌, arith, length-append, append-nil, Some, slice_get, ℤ}
use Rattle.std.proofs.lemmas.List.{drop-drop}
use Rattle.std.proofs.lemmas.List.Sums.{sum_by-cons}
use Rattle.kept_cells.specs.run_values.declared.value.Value.{Value}
use Rattle.machine.specs.type_definitions.declared.table.Component.{Component}
use Rattle.machine.specs.type_definitions.declared.table.Shape.{Shape}
use Rattle.machine.specs.type_definitions.declared.table.Shape.TheVariants as shape
use Rattle.machine.specs.type_definitions.Types.{Table, shape_found, span, words, words_of, words_within}
use Rattle.machine.specs.Words.{no_component}
use Rattle.machine.specs.Typed.{Sort, sorts, sorts_of, sorts_within, repeated_sorts}
use Rattle.machine.specs.Memory.{Slot}
use Rattle.run_codes.specs.Flat.{words_in}
use Rattle.run_codes.specs.Related.{AllStand, AllKinds, IsSplit}

-- ---- sorts

-- A type has as many sorts as words.
flat_long : (f : ℕ → List Sort) (w : ℕ → ℕ) → ((t : ℕ) → length (f t) ≡ w t) → (cs : List Component)
    → length (flat_map (λ (c : Component). f c.of) cs) ≡ sum (map (λ (c : Component). w c.of) cs)
flat_long f w each [] = refl
flat_long f w each (c ∷ cs) =
    let both : length (f c.of ++ flat_map (λ (c : Component). f c.of) cs) ≡ length (f c.of) + length (flat_map (λ (c : Component). f c.of) cs) =
    length-append (f c.of) (flat_map (λ (c : Component). f c.of) cs) in
    let all : sum (w c.of ∷ map (λ (c : Component). w c.of) cs) ≡ w c.of + sum (map (λ (c : Component). w c.of) cs) =
    sum_by-cons (λ k. k) (w c.of) (map (λ (c : Component). w c.of) cs) in
    omega (arith, each c.of, flat_long f w each cs, both, all)

none_of : (n : ℕ) → 0 * n ≡ 0
none_of n = grind arith

pub repeated_long : (n : ℕ) (l : List Sort) → length (repeated_sorts n l) ≡ n * length l
repeated_long zero l = sym (none_of (length l))
repeated_long (suc n) l =
    let both = length-append l (repeated_sorts n l) in
    let more : suc n * length l ≡ length l + n * length l = grind arith in
    both ∙ ap (λ k. length l + k) (repeated_long n l) ∙ sym more

sorts_long : (f : ℕ → List Sort) (w : ℕ → ℕ) → ((t : ℕ) → length (f t) ≡ w t) → (sh : Shape) → length (sorts_of f sh) ≡ words_of w sh
sorts_long f w each (shape.Whole low high) = refl
sorts_long f w each (shape.Listed l low high) = refl
sorts_long f w each (shape.Access d c n) = refl
sorts_long f w each (shape.Fields cs) = flat_long f w each cs
sorts_long f w each (shape.Elements low high e) = repeated_long (span low high) (f e) ∙ ap (λ z. span low high * z) (each e)
sorts_long f w each (shape.Same of) = each of

within_long : (n : ℕ) (table : Table) (t : ℕ) → length (sorts_within n table t) ≡ words_within n table t
unfolding sorts_within words_within
within_long zero table t = refl
within_long (suc n) table t = sorts_long (sorts_within n table) (words_within n table) (within_long n table) (shape_found (slice_get table t))

pub many : (table : Table) (t : ℕ) → length (sorts table t) ≡ words table t
unfolding sorts words
many table t = within_long (length table) table t

-- ---- the front, and what comes after it

pub first_stand : (table : Table) (made : List ℕ) (a b : List Sort) (xs : List Slot) (zs : List ℤ) → AllStand table made (a ++ b) xs zs → AllStand table made a xs zs
first_stand table made [] b xs zs all = tt
first_stand table made (s ∷ a) b [] zs all = absurd all
first_stand table made (s ∷ a) b (x ∷ xs) [] all = absurd all
first_stand table made (s ∷ a) b (x ∷ xs) (z ∷ zs) all = (all.0, first_stand table made a b xs zs all.1)

pub second_stand : (table : Table) (made : List ℕ) (a b : List Sort) (xs : List Slot) (zs : List ℤ) → AllStand table made (a ++ b) xs zs
    → AllStand table made b (drop (length a) xs) (drop (length a) zs)
second_stand table made [] b xs zs all = all
second_stand table made (s ∷ a) b [] zs all = absurd all
second_stand table made (s ∷ a) b (x ∷ xs) [] all = absurd all
second_stand table made (s ∷ a) b (x ∷ xs) (z ∷ zs) all = second_stand table made a b xs zs all.1

pub first_kinds : (a b : List Sort) (vs : List Value) → AllKinds (a ++ b) vs → AllKinds a vs
first_kinds [] b vs all = tt
first_kinds (s ∷ a) b [] all = absurd all
first_kinds (s ∷ a) b (v ∷ vs) all = (all.0, first_kinds a b vs all.1)

pub second_kinds : (a b : List Sort) (vs : List Value) → AllKinds (a ++ b) vs → AllKinds b (drop (length a) vs)
second_kinds [] b vs all = all
second_kinds (s ∷ a) b [] all = absurd all
second_kinds (s ∷ a) b (v ∷ vs) all = second_kinds a b vs all.1

pub stand_on : (table : Table) (made : List ℕ) (all : List Sort) (n b k : ℕ) (xs : List Slot) (zs : List ℤ) → k ≡ n + b
    → AllStand table made all (drop b (drop n xs)) (drop b (drop n zs)) → AllStand table made all (drop k xs) (drop k zs)
stand_on table made all n b k xs zs is given =
    subst (λ j. AllStand table made all (drop j xs) (drop j zs)) (sym is)
    (subst (λ l. AllStand table made all l (drop (n + b) zs)) (drop-drop b n xs)
    (subst (λ l. AllStand table made all (drop b (drop n xs)) l) (drop-drop b n zs) given))

pub kinds_on : (all : List Sort) (n b k : ℕ) (vs : List Value) → k ≡ n + b → AllKinds all (drop b (drop n vs)) → AllKinds all (drop k vs)
kinds_on all n b k vs is given =
    subst (λ j. AllKinds all (drop j vs)) (sym is) (subst (λ l. AllKinds all l) (drop-drop b n vs) given)

-- ---- the components of a record

abbrev pub all_sorts : Table → List Component → List Sort
all_sorts table cs = flat_map (λ (c : Component). sorts table c.of) cs

abbrev pub before : Table → ℕ → List Component → ℕ
before table i cs = sum (map (λ (c : Component). words table c.of) (take i cs))

before_more : (table : Table) (i : ℕ) (c : Component) (cs : List Component) → before table (suc i) (c ∷ cs) ≡ words table c.of + before table i cs
before_more table i c cs = sum_by-cons (λ k. k) (words table c.of) (map (λ (d : Component). words table d.of) (take i cs))

pub component_stands : (table : Table) (made : List ℕ) (cs : List Component) (i : ℕ) (xs : List Slot) (zs : List ℤ) → i < length cs
    → AllStand table made (all_sorts table cs) xs zs
    → AllStand table made (sorts table (get_or cs i no_component).of) (drop (before table i cs) xs) (drop (before table i cs) zs)
component_stands table made [] i xs zs within all = absurd (omega (arith, within))
component_stands table made (c ∷ cs) zero xs zs within all = first_stand table made (sorts table c.of) (all_sorts table cs) xs zs all
component_stands table made (c ∷ cs) (suc i) xs zs within all =
    let n : ℕ = words table c.of in
    let behind : AllStand table made (all_sorts table cs) (drop n xs) (drop n zs) =
    subst (λ k. AllStand table made (all_sorts table cs) (drop k xs) (drop k zs)) (many table c.of)
    (second_stand table made (sorts table c.of) (all_sorts table cs) xs zs all) in
    stand_on table made (sorts table (get_or cs i no_component).of) n (before table i cs) (before table (suc i) (c ∷ cs)) xs zs (before_more table i c cs)
    (component_stands table made cs i (drop n xs) (drop n zs) (omega (arith, within)) behind)

pub component_kinds : (table : Table) (cs : List Component) (i : ℕ) (vs : List Value) → i < length cs → AllKinds (all_sorts table cs) vs
    → AllKinds (sorts table (get_or cs i no_component).of) (drop (before table i cs) vs)
component_kinds table [] i vs within all = absurd (omega (arith, within))
component_kinds table (c ∷ cs) zero vs within all = first_kinds (sorts table c.of) (all_sorts table cs) vs all
component_kinds table (c ∷ cs) (suc i) vs within all =
    let n : ℕ = words table c.of in
    let behind : AllKinds (all_sorts table cs) (drop n vs) =
    subst (λ k. AllKinds (all_sorts table cs) (drop k vs)) (many table c.of) (second_kinds (sorts table c.of) (all_sorts table cs) vs all) in
    kinds_on (sorts table (get_or cs i no_component).of) n (before table i cs) (before table (suc i) (c ∷ cs)) vs (before_more table i c cs)
    (component_kinds table cs i (drop n vs) (omega (arith, within)) behind)

-- A component lies within its record.
pub component_inside : (table : Table) (cs : List Component) (i : ℕ) → i < length cs
    → before table i cs + length (sorts table (get_or cs i no_component).of) ≤ length (all_sorts table cs)
component_inside table [] i within = absurd (omega (arith, within))
component_inside table (c ∷ cs) zero within = omega (arith, length-append (sorts table c.of) (all_sorts table cs))
component_inside table (c ∷ cs) (suc i) within =
    let rest = component_inside table cs i (omega (arith, within)) in
    let all = length-append (sorts table c.of) (all_sorts table cs) in
    omega (arith, rest, all, before_more table i c cs, many table c.of)

-- ---- parts among other sorts

regroup : (a b c d e : List Sort) → a ++ ((b ++ (c ++ d)) ++ e) ≡ (a ++ b) ++ (c ++ (d ++ e))
regroup [] [] [] d e = refl
regroup [] [] (x ∷ c) d e = ap (λ l. x ∷ l) (regroup [] [] c d e)
regroup [] (x ∷ b) c d e = ap (λ l. x ∷ l) (regroup [] b c d e)
regroup (x ∷ a) b c d e = ap (λ l. x ∷ l) (regroup a b c d e)

grouped : (a b c d : List Sort) → a ++ (b ++ (c ++ d)) ≡ (a ++ b) ++ (c ++ d)
grouped [] b c d = refl
grouped (x ∷ a) b c d = ap (λ l. x ∷ l) (grouped a b c d)

pub join_split : (all part more : List Sort) (n k : ℕ) → IsSplit all n part → IsSplit part k more → IsSplit all (n + k) more
join_split all part more n k a b = record {
  front = a.front ++ b.front;
  rest = b.rest ++ a.rest;
  is = a.is ∙ ap (λ l. a.front ++ (l ++ a.rest)) b.is ∙ regroup a.front b.front more b.rest a.rest;
  long = length-append a.front b.front ∙ ap (λ i. i + length b.front) a.long ∙ ap (λ i. n + i) b.long;
}

pub whole_split : (all : List Sort) → IsSplit all 0 all
whole_split all = record { front = []; rest = []; is = sym (append-nil all); long = refl }

pub split_inside : (all part : List Sort) (n : ℕ) → IsSplit all n part → n + length part ≤ length all
split_inside all part n s =
    let whole = ap (λ (l : List Sort). length l) s.is ∙ length-append s.front (part ++ s.rest) in
    let rest = length-append part s.rest in
    omega (arith, whole, rest, s.long)

pub component_split : (table : Table) (cs : List Component) (i : ℕ) → i < length cs
    → IsSplit (all_sorts table cs) (before table i cs) (sorts table (get_or cs i no_component).of)
component_split table [] i within = absurd (omega (arith, within))
component_split table (c ∷ cs) zero within = record { front = []; rest = all_sorts table cs; is = refl; long = refl }
component_split table (c ∷ cs) (suc i) within =
    let s = component_split table cs i (omega (arith, within)) in
    record {
      front = sorts table c.of ++ s.front;
      rest = s.rest;
      is = ap (λ l. sorts table c.of ++ l) s.is ∙ grouped (sorts table c.of) s.front (sorts table (get_or cs i no_component).of) s.rest;
      long = length-append (sorts table c.of) s.front ∙ ap (λ k. k + length s.front) (many table c.of) ∙ ap (λ k. words table c.of + k) s.long ∙ sym (before_more table i c cs);
    }

-- ---- the elements of an array

next_offset : (i size : ℕ) → suc i * size ≡ size + i * size
next_offset i size = grind arith

pub element_stands : (table : Table) (made : List ℕ) (count : ℕ) (all : List Sort) (size i : ℕ) (xs : List Slot) (zs : List ℤ) → length all ≡ size → i < count
    → AllStand table made (repeated_sorts count all) xs zs → AllStand table made all (drop (i * size) xs) (drop (i * size) zs)
element_stands table made zero all size i xs zs long within stand = absurd (omega (arith, within))
element_stands table made (suc n) all size zero xs zs long within stand =
    subst (λ k. AllStand table made all (drop k xs) (drop k zs)) (sym (none_of size)) (first_stand table made all (repeated_sorts n all) xs zs stand)
element_stands table made (suc n) all size (suc i) xs zs long within stand =
    let rest : AllStand table made (repeated_sorts n all) (drop size xs) (drop size zs) =
    subst (λ k. AllStand table made (repeated_sorts n all) (drop k xs) (drop k zs)) long (second_stand table made all (repeated_sorts n all) xs zs stand) in
    stand_on table made all size (i * size) (suc i * size) xs zs (next_offset i size)
    (element_stands table made n all size i (drop size xs) (drop size zs) long (omega (arith, within)) rest)

pub element_kinds : (count : ℕ) (all : List Sort) (size i : ℕ) (vs : List Value) → length all ≡ size → i < count
    → AllKinds (repeated_sorts count all) vs → AllKinds all (drop (i * size) vs)
element_kinds zero all size i vs long within stand = absurd (omega (arith, within))
element_kinds (suc n) all size zero vs long within stand =
    subst (λ k. AllKinds all (drop k vs)) (sym (none_of size)) (first_kinds all (repeated_sorts n all) vs stand)
element_kinds (suc n) all size (suc i) vs long within stand =
    let rest : AllKinds (repeated_sorts n all) (drop size vs) =
    subst (λ k. AllKinds (repeated_sorts n all) (drop k vs)) long (second_kinds all (repeated_sorts n all) vs stand) in
    kinds_on all size (i * size) (suc i * size) vs (next_offset i size) (element_kinds n all size i (drop size vs) long (omega (arith, within)) rest)

pub element_inside : (i count size : ℕ) → i < count → i * size + size ≤ count * size
element_inside i zero size within = absurd (omega (arith, within))
element_inside zero (suc n) size within = let more = next_offset n size in let none = none_of size in omega (arith, more, none)
element_inside (suc i) (suc n) size within =
    let rest = element_inside i n size (omega (arith, within)) in
    let a = next_offset i size in let b = next_offset n size in omega (arith, rest, a, b)

pub element_split : (count : ℕ) (all : List Sort) (size i : ℕ) → length all ≡ size → i < count → IsSplit (repeated_sorts count all) (i * size) all
element_split zero all size i long within = absurd (omega (arith, within))
element_split (suc n) all size zero long within = record { front = []; rest = repeated_sorts n all; is = refl; long = sym (none_of size) }
element_split (suc n) all size (suc i) long within =
    let s = element_split n all size i long (omega (arith, within)) in
    record {
      front = all ++ s.front;
      rest = s.rest;
      is = ap (λ l. all ++ l) s.is ∙ grouped all s.front all s.rest;
      long = length-append all s.front ∙ ap (λ k. k + length s.front) long ∙ ap (λ k. size + k) s.long ∙ sym (next_offset i size);
    }

-- ---- the first word

pub first_word : (n : ℕ) (zs rest : List ℤ) (z : ℤ) → drop n zs ≡ z ∷ rest → slice_get zs n ≡ Some z
first_word zero [] rest z is = cc
first_word (suc n) [] rest z is = cc
first_word zero (y ∷ zs) rest z is = cc
first_word (suc n) (y ∷ zs) rest z is = first_word n zs rest z is

pub first_value : (n : ℕ) (vs rest : List Value) (v : Value) → drop n vs ≡ v ∷ rest → slice_get vs n ≡ Some v
first_value zero [] rest v is = cc
first_value (suc n) [] rest v is = cc
first_value zero (y ∷ vs) rest v is = cc
first_value (suc n) (y ∷ vs) rest v is = first_value n vs rest v is

pub words-drop : (n : ℕ) (vs : List Value) → drop n (words_in vs) ≡ words_in (drop n vs)
words-drop zero vs = refl
words-drop (suc n) [] = refl
words-drop (suc n) (v ∷ vs) = words-drop n vs
