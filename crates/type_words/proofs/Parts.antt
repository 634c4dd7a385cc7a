-- Words of types, by what they are made of.
use Rattle.std.proofs.Common.{◌≡◌, ℕ, zero, suc, ◌+◌, ◌-◌, ◌*◌, ◌<◌, ◌≤◌, List, [], ◌∷◌, ◌++◌, map, flat_map, length, get_or, drop, sum, refl, sym, ap, subst, ◌∙◌, arith, length-append, append-nil, append_assoc, None, Option, slice_get, ℤ}
use Rattle.std.proofs.lemmas.List.{map-append, drop_more}
use Rattle.std.proofs.lemmas.List.Sums.{sum_by-cons}
use Rattle.place_names.specs.declared.selector.Sel.{Sel}
use Rattle.place_names.specs.declared.selector.Sel.TheVariants.{Field, Elem}
use Rattle.type_definitions.specs.declared.table.Component.{Component}
use Rattle.type_definitions.specs.declared.table.Info.{Info}
use Rattle.type_definitions.specs.declared.table.Shape.{Shape}
use Rattle.type_definitions.specs.declared.table.Shape.TheVariants as shape
use Rattle.type_definitions.specs.Types.{Table, shape_found, span, words, words_of, words_within}
use Rattle.run_values.specs.declared.value.Kind.{Kind}
use Rattle.machine.specs.Words.{Word, default_of, default_within, offsets, in_each}
use Rattle.machine.specs.Words as machine
use Rattle.machine.specs.Typed.{Sort, sorts_of, sorts_within, repeated_sorts}
use Rattle.run_codes.specs.Flat.{kind_of, untagged, repeated}
use Rattle.type_words.specs.Parts.{fields_kinds, repeated_kinds, shape_kinds, fields_words, shape_words, offsets_from, all_offsets}

-- ---- types without words

sum_more : (x : ℕ) (xs : List ℕ) → sum (x ∷ xs) ≡ x + sum xs
sum_more x xs = sum_by-cons (λ k. k) x xs

module _ (w v : ℕ → ℕ) (le : (t : ℕ) → w t ≤ v t) where
  fields_le : (cs : List Component) → sum (map (λ (c : Component). w c.of) cs) ≤ sum (map (λ (c : Component). v c.of) cs)
  fields_le [] = omega arith
  fields_le (c ∷ cs) =
      omega (arith, le c.of, fields_le cs, sum_more (w c.of) (map (λ (c : Component). w c.of) cs), sum_more (v c.of) (map (λ (c : Component). v c.of) cs))

  times_le : (n a b : ℕ) → a ≤ b → n * a ≤ n * b
  times_le zero a b is = omega arith
  times_le (suc n) a b is = omega (arith, is, times_le n a b is, more n a, more n b)
    where
      more : (n a : ℕ) → suc n * a ≡ a + n * a
      more n a = grind arith

  words_le : (sh : Shape) → words_of w sh ≤ words_of v sh
  words_le (shape.Whole low high) = omega arith
  words_le (shape.Listed l low high) = omega arith
  words_le (shape.Access d c n) = omega arith
  words_le (shape.Fields cs) = fields_le cs
  words_le (shape.Elements low high e) = times_le (span low high) (w e) (v e) (le e)
  words_le (shape.Same of) = le of

within_le : (n : ℕ) (table : Table) (t : ℕ) → words_within n table t ≤ words_within (suc n) table t
unfolding words_within
within_le zero table t = omega arith
within_le (suc n) table t = words_le (words_within n table) (words_within (suc n) table) (within_le n table) (shape_found (slice_get table t))

within_more : (k n m : ℕ) (table : Table) (t : ℕ) → m ≡ k + n → words_within n table t ≤ words_within m table t
within_more zero n m table t is =
    let e : n ≡ m = omega (arith, is) in subst (λ j. words_within n table t ≤ words_within j table t) e (omega arith)
within_more (suc k) n zero table t is = absurd (omega (arith, is))
within_more (suc k) n (suc m) table t is =
    let first : words_within n table t ≤ words_within m table t = within_more k n m table t (omega (arith, is)) in
    let after : words_within m table t ≤ words_within (suc m) table t = within_le m table t in
    omega (arith, first, after)

pub none_within : (n : ℕ) (table : Table) (t : ℕ) → n ≤ length table → words table t ≡ 0 → words_within n table t ≡ 0
unfolding words
none_within n table t le is =
    let more : words_within n table t ≤ words_within (length table) table t = within_more (length table - n) n (length table) table t (omega (arith, le)) in
    omega (arith, more, is)

sum_none : (x : ℕ) (xs : List ℕ) → sum (x ∷ xs) ≡ 0 → (x ≡ 0) × (sum xs ≡ 0)
sum_none x xs is = (omega (arith, is, sum_more x xs), omega (arith, is, sum_more x xs))

times_none : (n a : ℕ) → suc n * a ≡ 0 → a ≡ 0
times_none n a is = omega (arith, is, more n a)
  where
    more : (n a : ℕ) → suc n * a ≡ a + n * a
    more n a = grind arith

module _ (w : ℕ → ℕ) (f : ℕ → List Sort) (none : (t : ℕ) → w t ≡ 0 → f t ≡ []) where
  no_fields : (cs : List Component) → sum (map (λ (c : Component). w c.of) cs) ≡ 0 → flat_map (λ (c : Component). f c.of) cs ≡ []
  no_fields [] is = refl
  no_fields (c ∷ cs) is =
      let s = sum_none (w c.of) (map (λ (c : Component). w c.of) cs) is in
      ap (λ l. l ++ flat_map (λ (c : Component). f c.of) cs) (none c.of s.0) ∙ no_fields cs s.1

  no_repeated : (n : ℕ) → repeated_sorts n [] ≡ []
  no_repeated zero = refl
  no_repeated (suc n) = no_repeated n

  no_elements : (n e : ℕ) → n * w e ≡ 0 → repeated_sorts n (f e) ≡ []
  no_elements zero e is = refl
  no_elements (suc n) e is = ap (repeated_sorts (suc n)) (none e (times_none n (w e) is)) ∙ no_repeated (suc n)

  no_sorts : (sh : Shape) → words_of w sh ≡ 0 → sorts_of f sh ≡ []
  no_sorts (shape.Whole low high) is = absurd (omega (arith, is))
  no_sorts (shape.Listed l low high) is = absurd (omega (arith, is))
  no_sorts (shape.Access d c n) is = absurd (omega (arith, is))
  no_sorts (shape.Fields cs) is = no_fields cs is
  no_sorts (shape.Elements low high e) is = no_elements (span low high) e is
  no_sorts (shape.Same of) is = none of is

no_sorts_within : (n : ℕ) (table : Table) (t : ℕ) → words_within n table t ≡ 0 → sorts_within n table t ≡ []
unfolding words_within sorts_within
no_sorts_within zero table t is = refl
no_sorts_within (suc n) table t is = no_sorts (words_within n table) (sorts_within n table) (no_sorts_within n table) (shape_found (slice_get table t)) is

module _ (w : ℕ → ℕ) (f : ℕ → List Word) (none : (t : ℕ) → w t ≡ 0 → f t ≡ []) where
  no_parts : (cs : List Component) → sum (map (λ (c : Component). w c.of) cs) ≡ 0 → flat_map (λ (c : Component). f c.of) cs ≡ []
  no_parts [] is = refl
  no_parts (c ∷ cs) is =
      let s = sum_none (w c.of) (map (λ (c : Component). w c.of) cs) is in
      ap (λ l. l ++ flat_map (λ (c : Component). f c.of) cs) (none c.of s.0) ∙ no_parts cs s.1

  none_repeated : (n : ℕ) → machine.repeated n [] ≡ []
  none_repeated zero = refl
  none_repeated (suc n) = none_repeated n

  no_words : (n e : ℕ) → n * w e ≡ 0 → machine.repeated n (f e) ≡ []
  no_words zero e is = refl
  no_words (suc n) e is = ap (machine.repeated (suc n)) (none e (times_none n (w e) is)) ∙ none_repeated (suc n)

  no_defaults : (t : ℕ) (sh : Shape) → words_of w sh ≡ 0 → default_of f t sh ≡ []
  no_defaults t (shape.Whole low high) is = absurd (omega (arith, is))
  no_defaults t (shape.Listed l low high) is = absurd (omega (arith, is))
  no_defaults t (shape.Access d c n) is = absurd (omega (arith, is))
  no_defaults t (shape.Fields cs) is = no_parts cs is
  no_defaults t (shape.Elements low high e) is = no_words (span low high) e is
  no_defaults t (shape.Same of) is = none of is

no_defaults_within : (n : ℕ) (table : Table) (t : ℕ) → words_within n table t ≡ 0 → default_within n table t ≡ []
unfolding words_within default_within
no_defaults_within zero table t is = refl
no_defaults_within (suc n) table t is =
    no_defaults (words_within n table) (default_within n table) (no_defaults_within n table) t (shape_found (slice_get table t)) is

-- Nothing is added where there are no words.
pub no_kinds : (n : ℕ) (table : Table) (t : ℕ) (old : List Kind) → n ≤ length table → words table t ≡ 0 → old ≡ old ++ map kind_of (sorts_within n table t)
no_kinds n table t old le is =
    sym (append-nil old) ∙ ap (λ l. old ++ map kind_of l) (sym (no_sorts_within n table t (none_within n table t le is)))

pub no_default : (n : ℕ) (table : Table) (t : ℕ) (old : List ℤ) → n ≤ length table → words table t ≡ 0 → old ≡ old ++ map untagged (default_within n table t)
no_default n table t old le is =
    sym (append-nil old) ∙ ap (λ l. old ++ map untagged l) (sym (no_defaults_within n table t (none_within n table t le is)))

pub no_repeated_kinds : (n count : ℕ) (table : Table) (t : ℕ) (old : List Kind) → n ≤ length table → words table t ≡ 0
    → old ≡ old ++ repeated_kinds count (map kind_of (sorts_within n table t))
no_repeated_kinds n count table t old le is =
    sym (append-nil old)
    ∙ ap (λ l. old ++ l) (sym (ap (λ l. repeated_kinds count (map kind_of l)) (no_sorts_within n table t (none_within n table t le is)) ∙ nothing count))
  where
    nothing : (n : ℕ) → repeated_kinds n [] ≡ []
    nothing zero = refl
    nothing (suc n) = nothing n

pub no_repeated_words : (n count : ℕ) (table : Table) (t : ℕ) (old : List ℤ) → n ≤ length table → words table t ≡ 0
    → old ≡ old ++ repeated count (map untagged (default_within n table t))
no_repeated_words n count table t old le is =
    sym (append-nil old)
    ∙ ap (λ l. old ++ l) (sym (ap (λ l. repeated count (map untagged l)) (no_defaults_within n table t (none_within n table t le is)) ∙ nothing count))
  where
    nothing : (n : ℕ) → repeated n [] ≡ []
    nothing zero = refl
    nothing (suc n) = nothing n

-- ---- by the definition

kinds_fields : (f : ℕ → List Sort) (cs : List Component) → map kind_of (flat_map (λ (c : Component). f c.of) cs) ≡ fields_kinds f cs
kinds_fields f [] = refl
kinds_fields f (c ∷ cs) =
    map-append kind_of (f c.of) (flat_map (λ (c : Component). f c.of) cs) ∙ ap (λ l. map kind_of (f c.of) ++ l) (kinds_fields f cs)

kinds_repeated : (n : ℕ) (l : List Sort) → map kind_of (repeated_sorts n l) ≡ repeated_kinds n (map kind_of l)
kinds_repeated zero l = refl
kinds_repeated (suc n) l = map-append kind_of l (repeated_sorts n l) ∙ ap (λ k. map kind_of l ++ k) (kinds_repeated n l)

kinds_shape : (f : ℕ → List Sort) (sh : Shape) → map kind_of (sorts_of f sh) ≡ shape_kinds f sh
kinds_shape f (shape.Whole low high) = refl
kinds_shape f (shape.Listed l low high) = refl
kinds_shape f (shape.Access d c n) = refl
kinds_shape f (shape.Fields cs) = kinds_fields f cs
kinds_shape f (shape.Elements low high e) = kinds_repeated (span low high) (f e)
kinds_shape f (shape.Same of) = refl

pub kinds_step : (n : ℕ) (table : Table) (t : ℕ) → 0 < n → map kind_of (sorts_within n table t) ≡ shape_kinds (sorts_within (n - 1) table) (shape_found (slice_get table t))
unfolding sorts_within
kinds_step zero table t lt = absurd (omega (arith, lt))
kinds_step (suc n) table t lt =
    kinds_shape (sorts_within n table) (shape_found (slice_get table t))
    ∙ ap (λ k. shape_kinds (sorts_within k table) (shape_found (slice_get table t))) (less n)
  where
    less : (n : ℕ) → n ≡ suc n - 1
    less n = omega arith

words_fields : (f : ℕ → List Word) (cs : List Component) → map untagged (flat_map (λ (c : Component). f c.of) cs) ≡ fields_words f cs
words_fields f [] = refl
words_fields f (c ∷ cs) =
    map-append untagged (f c.of) (flat_map (λ (c : Component). f c.of) cs) ∙ ap (λ l. map untagged (f c.of) ++ l) (words_fields f cs)

words_repeated : (n : ℕ) (l : List Word) → map untagged (machine.repeated n l) ≡ repeated n (map untagged l)
words_repeated zero l = refl
words_repeated (suc n) l = map-append untagged l (machine.repeated n l) ∙ ap (λ k. map untagged l ++ k) (words_repeated n l)

words_shape : (f : ℕ → List Word) (t : ℕ) (sh : Shape) → map untagged (default_of f t sh) ≡ shape_words f t sh
words_shape f t (shape.Whole low high) = refl
words_shape f t (shape.Listed l low high) = refl
words_shape f t (shape.Access d c n) = refl
words_shape f t (shape.Fields cs) = words_fields f cs
words_shape f t (shape.Elements low high e) = words_repeated (span low high) (f e)
words_shape f t (shape.Same of) = refl

pub words_step : (n : ℕ) (table : Table) (t : ℕ) → 0 < n
    → map untagged (default_within n table t) ≡ shape_words (default_within (n - 1) table) t (shape_found (slice_get table t))
unfolding default_within
words_step zero table t lt = absurd (omega (arith, lt))
words_step (suc n) table t lt =
    words_shape (default_within n table) t (shape_found (slice_get table t))
    ∙ ap (λ k. shape_words (default_within k table) t (shape_found (slice_get table t))) (less n)
  where
    less : (n : ℕ) → n ≡ suc n - 1
    less n = omega arith

-- ---- offsets

map_shift : (a b : ℕ) (os : List ℕ) → map (λ o. a + o) (map (λ o. b + o) os) ≡ map (λ o. (a + b) + o) os
map_shift a b [] = refl
map_shift a b (o ∷ os) = ap (λ n. n ∷ map (λ o. a + o) (map (λ o. b + o) os)) (sum_of a b o) ∙ ap (λ l. (a + b + o) ∷ l) (map_shift a b os)
  where
    sum_of : (a b o : ℕ) → a + (b + o) ≡ a + b + o
    sum_of a b o = omega arith

each_shift : (a n size at : ℕ) (os : List ℕ) → map (λ o. a + o) (in_each n size at os) ≡ in_each n size (a + at) os
each_shift a zero size at os = refl
each_shift a (suc n) size at os =
    map-append (λ o. a + o) (map (λ o. at + o) os) (in_each n size (at + size) os)
    ∙ ap (λ l. l ++ map (λ o. a + o) (in_each n size (at + size) os)) (map_shift a at os)
    ∙ ap (λ l. map (λ o. (a + at) + o) os ++ l) (each_shift a n size (at + size) os ∙ ap (λ k. in_each n size k os) (sum_of a at size))
  where
    sum_of : (a b o : ℕ) → a + (b + o) ≡ a + b + o
    sum_of a b o = omega arith

pub each_none : (n size at : ℕ) → in_each n size at [] ≡ []
each_none zero size at = refl
each_none (suc n) size at = each_none n size (at + size)

pub field_offsets : (table : Table) (t i at before : ℕ) (rest : List Sel) → before ≡ machine.words_before table t i
    → offsets_from table (at + before) (machine.component_type table t i) rest ≡ offsets_from table at t (Field i ∷ rest)
unfolding offsets
field_offsets table t i at before rest is =
    ap (λ k. offsets_from table (at + k) (machine.component_type table t i) rest) is
    ∙ sym (map_shift at (machine.words_before table t i) (offsets table (machine.component_type table t i) rest))

pub elements_offsets : (table : Table) (t at : ℕ) (rest : List Sel)
    → in_each (machine.element_count table t) (words table (machine.element_type table t)) at (offsets table (machine.element_type table t) rest)
    ≡ offsets_from table at t (Elem ∷ rest)
unfolding offsets
elements_offsets table t at rest =
    let n : ℕ = machine.element_count table t in
    let size : ℕ = words table (machine.element_type table t) in
    let os : List ℕ = offsets table (machine.element_type table t) rest in
    ap (λ k. in_each n size k os) (none at) ∙ sym (each_shift at n size 0 os)
  where
    none : (at : ℕ) → at ≡ at + 0
    none at = omega arith

pub each_next : (old os : List ℕ) (count i size at : ℕ) → i < count
    → (old ++ map (λ o. at + o) os) ++ in_each (count - (i + 1)) size (at + size) os ≡ old ++ in_each (count - i) size at os
each_next old os count i size at lt =
    append_assoc old (map (λ o. at + o) os) (in_each (count - (i + 1)) size (at + size) os)
    ∙ ap (λ n. old ++ in_each n size at os) (sym (next count i lt))
  where
    next : (count i : ℕ) → i < count → count - i ≡ suc (count - (i + 1))
    next count i lt = omega arith

pub each_early : (old items os : List ℕ) (n count size at first : ℕ) → items ++ in_each n size at os ≡ old ++ in_each count size first os
    → length (items ++ map (λ o. at + o) os) ≡ length old → length old ≤ length items
    → items ++ map (λ o. at + o) os ≡ old ++ in_each count size first os
each_early old items [] n count size at first is long le = ap (λ l. items ++ l) (sym (each_none n size at)) ∙ is
each_early old items (o ∷ os) n count size at first is long le =
    absurd (omega (arith, long, le, length-append items ((at + o) ∷ map (λ o. at + o) os)))

pub each_end : (old os : List ℕ) (count i size at : ℕ) → count ≤ i → old ++ in_each (count - i) size at os ≡ old
each_end old os count i size at le = ap (λ n. old ++ in_each n size at os) (none count i le) ∙ append-nil old
  where
    none : (count i : ℕ) → count ≤ i → count - i ≡ 0
    none count i le = omega arith

pub from_zero : (os : List ℕ) → map (λ o. 0 + o) os ≡ os
from_zero [] = refl
from_zero (o ∷ os) = ap (λ n. n ∷ map (λ o. 0 + o) os) (none o) ∙ ap (λ l. o ∷ l) (from_zero os)
  where
    none : (o : ℕ) → 0 + o ≡ o
    none o = omega arith

-- ---- steps of loops

pub fields_kinds_next : (f : ℕ → List Sort) (cs : List Component) (c : Component) (i : ℕ) (old : List Kind) → i < length cs → c ≡ get_or cs i c
    → (old ++ map kind_of (f c.of)) ++ fields_kinds f (drop (i + 1) cs) ≡ old ++ fields_kinds f (drop i cs)
fields_kinds_next f cs c i old lt is =
    append_assoc old (map kind_of (f c.of)) (fields_kinds f (drop (i + 1) cs))
    ∙ ap (λ l. old ++ l) (sym (ap (fields_kinds f) (drop_more cs i c lt) ∙ ap (λ (d : Component). map kind_of (f d.of) ++ fields_kinds f (drop (i + 1) cs)) (sym is)))

pub fields_words_next : (f : ℕ → List Word) (cs : List Component) (c : Component) (i : ℕ) (old : List ℤ) → i < length cs → c ≡ get_or cs i c
    → (old ++ map untagged (f c.of)) ++ fields_words f (drop (i + 1) cs) ≡ old ++ fields_words f (drop i cs)
fields_words_next f cs c i old lt is =
    append_assoc old (map untagged (f c.of)) (fields_words f (drop (i + 1) cs))
    ∙ ap (λ l. old ++ l) (sym (ap (fields_words f) (drop_more cs i c lt) ∙ ap (λ (d : Component). map untagged (f d.of) ++ fields_words f (drop (i + 1) cs)) (sym is)))

pub parts_next : (table : Table) (t i : ℕ) (parts : List (List Sel)) (part : List Sel) (old : List ℕ) → i < length parts → part ≡ get_or parts i part
    → (old ++ offsets_from table 0 t part) ++ all_offsets table t (drop (i + 1) parts) ≡ old ++ all_offsets table t (drop i parts)
parts_next table t i parts part old lt is =
    ap (λ l. (old ++ l) ++ all_offsets table t (drop (i + 1) parts)) (from_zero (offsets table t part))
    ∙ append_assoc old (offsets table t part) (all_offsets table t (drop (i + 1) parts))
    ∙ ap (λ l. old ++ l) (sym (ap (all_offsets table t) (drop_more parts i part lt) ∙ ap (λ p. offsets table t p ++ all_offsets table t (drop (i + 1) parts)) (sym is)))

-- ---- what isn't in the table

pub nothing_kinds : (f : ℕ → List Sort) (x : Option Info) (old : List Kind) → x ≡ None → old ≡ old ++ shape_kinds f (shape_found x)
nothing_kinds f x old is = sym (append-nil old) ∙ ap (λ (y : Option Info). old ++ shape_kinds f (shape_found y)) (sym is)

pub nothing_words : (f : ℕ → List Word) (t : ℕ) (x : Option Info) (old : List ℤ) → x ≡ None → old ≡ old ++ shape_words f t (shape_found x)
nothing_words f t x old is = sym (append-nil old) ∙ ap (λ (y : Option Info). old ++ shape_words f t (shape_found y)) (sym is)
