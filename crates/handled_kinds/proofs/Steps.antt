-- Steps of names lead to places with the kinds of their types.
use Rattle.std.proofs.Common.{◌≡◌, refl, sym, ap, ◌∙◌, subst, ℕ, zero, ◌+◌, ◌*◌, ◌<◌, arith, Bool, true, false, ◌&&◌, nat_lt, List, [], ◌∷◌, map, drop, length, get_or, Some, None, ℤ, pos, if◌then◌else◌}
use Rattle.std.specs.Prelude.{unsigned_abs, ◌-ℤ◌}
use Rattle.std.specs.Ordering.{int_eq}
use Rattle.std.proofs.lemmas.Bool.Decides.{nat_tests}
use Rattle.type_definitions.specs.declared.table.Shape.{Shape}
use Rattle.type_definitions.specs.declared.table.Shape.TheVariants as shape
use Rattle.type_definitions.specs.Types.{Table, shape_of, components_of, span, words}
use Rattle.run_values.specs.declared.value.Kind.{Kind}
use Rattle.run_values.specs.declared.value.Kind.TheVariants as sort
use Rattle.machine.specs.Words.{no_component, component_type, words_before, element_type}
use Rattle.machine.specs.Words as machine
use Rattle.machine.specs.Typed.{sorts, repeated_sorts, is_record, field_count, has_bounds, designates}
use Rattle.run_codes.specs.Codes.{Code, Number, Scaled, Place, InFrame, InPackages, Behind}
use Rattle.run_codes.specs.Flat.{Flat, Given, Stops, Broken, and_then, constraint, offset, is_between, kind_of, scaled, kinds, word}
use Rattle.run_codes.specs.Lowered.{Placed, option_map, no_index, load, moved_by, joined, indexed_by, component_of, element_of, designated_of}
use Rattle.run_codes.specs.Related.{IsTable, IsSplit}
use Rattle.run_codes.proofs.Parts.{all_sorts, before, component_split, element_split, many}
use Rattle.run_codes.proofs.Indexes.{element_within}
use Rattle.run_codes.proofs.Places.{if_some, some_same, given_same, given_on}
use Rattle.handled_runs.specs.Looks.{IsFront, Looks}
use Rattle.handled_kinds.specs.Kinds.{PlaceKinds}
use Rattle.handled_kinds.proofs.Parts.{split_front, front_first, drop_on}

both_true : (a b : Bool) → a && b ≡ true → (a ≡ true) × (b ≡ true)
both_true true b e = (refl, e)
both_true false b e = cc

false_true : {A : Type 0} → false ≡ true → A
false_true e = absurd (no e)
  where
    no : false ≡ true → ⊥
    no e = cc

int_same : (a b : ℤ) → int_eq a b ≡ true → a ≡ b
int_same a b e = grind arith

is_below : (i n : ℕ) → nat_lt i n ≡ true → i < n
is_below i n e = grind (arith, nat_tests)

module _ (table : Table) (laws : IsTable table) (m : Flat) (here taken : List Kind) where
  abbrev pub At : Place → ℕ → Type 0
  At = PlaceKinds table m here taken

  abbrev pub Reads : Code → Kind → Type 0
  Reads = Looks m here taken

  pub no_reads : Reads no_index sort.Int
  unfolding Looks
  no_reads = tt

  -- ---- further on, by a fixed number of words

  front_on : (t u : ℕ) (n k j : ℕ) → IsSplit (sorts table t) n (sorts table u) → j ≡ k + n → IsFront (kinds table t) (drop k here) → IsFront (kinds table u) (drop j here)
  front_on t u n k j split is front = subst (IsFront (kinds table u)) (sym (drop_on here k n j is)) (split_front (sorts table t) (sorts table u) n (drop k here) split front)

  pub moved_at : (p : Place) (t u n : ℕ) → IsSplit (sorts table t) n (sorts table u) → At p t → At (moved_by n p) u
  moved_at (InFrame at i) t u n split is =
      (is.0, λ o e. front_on t u n (m.base + at + unsigned_abs o) (m.base + (at + n) + unsigned_abs o) split (omega arith) (is.1 o e))
  moved_at (InPackages at i) t u n split is =
      (is.0, λ o e. front_on t u n (at + unsigned_abs o) (at + n + unsigned_abs o) split (omega arith) (is.1 o e))
  moved_at (Behind p at i) t u n split is = is

  -- ---- by an index

  -- Both offsets are given where their sum is.
  pub joined_parts : (i j : Code) (o : ℤ) → word m (joined i j) ≡ Given o → (x : ℤ) × (y : ℤ) × (word m i ≡ Given x) × (word m j ≡ Given y) × (unsigned_abs o ≡ unsigned_abs x + unsigned_abs y)
  unfolding word
  joined_parts (Number (pos zero)) j o e = (pos 0, o, refl, e, omega arith)
  joined_parts i j o e =
      let first = given_on (word m i) (λ x. and_then (word m j) (λ y. offset (unsigned_abs x + unsigned_abs y))) o e in
      let second = given_on (word m j) (λ y. offset (unsigned_abs first.0 + unsigned_abs y)) o first.2 in
      (first.0, second.0, first.1, second.1, offset_is (unsigned_abs first.0 + unsigned_abs second.0) o second.2)
    where
      offset_is : (n : ℕ) (o : ℤ) → offset n ≡ Given o → unsigned_abs o ≡ n
      offset_is n o e = by (nat_lt n 4294967296) e
        where
          by : (b : Bool) → (if b then Given (pos n) else Broken) ≡ Given o → unsigned_abs o ≡ n
          by true f = ap unsigned_abs (sym (given_same (pos n) o f))
          by false f = cc

  joined_reads : (i j : Code) → Reads i sort.Int → Reads j sort.Int → Reads (joined i j) sort.Int
  unfolding Looks
  joined_reads (Number (pos zero)) j first second = second
  joined_reads i j first second = (tt, first, second)

  scaled_is : (low high : ℤ) (size : ℕ) (i : Code) (y : ℤ) → word m (Scaled i low high size) ≡ Given y → (w : ℤ) × (is_between low high w ≡ true) × (unsigned_abs y ≡ unsigned_abs (w -ℤ low) * size)
  unfolding word
  scaled_is low high size i y e =
      let from = given_on (word m i) (scaled low high size) y e in
      let fits = by (is_between low high from.0) (unsigned_abs (from.0 -ℤ low) * size) from.2 in
      (from.0, fits.0, fits.1)
    where
      by : (b : Bool) (n : ℕ) → (if b then offset n else Stops constraint) ≡ Given y → (b ≡ true) × (unsigned_abs y ≡ n)
      by true n f = (refl, at (nat_lt n 4294967296) f)
        where
          at : (c : Bool) → (if c then Given (pos n) else Broken) ≡ Given y → unsigned_abs y ≡ n
          at true g = ap unsigned_abs (sym (given_same (pos n) y g))
          at false g = cc
      by false n f = cc

  module _ (t element : ℕ) (low high : ℤ) (is : shape_of table t ≡ shape.Elements low high element) (i : Code) (reads : Reads i sort.Int) where
    abbrev size : ℕ
    size = words table (element_type table t)

    abbrev step : Code
    step = Scaled i low high size

    step_reads : Reads step sort.Int
    unfolding Looks
    step_reads = (tt, reads)

    element_is : element_type table t ≡ element
    element_is = ap machine.element_of is

    -- an element of the array at the offset that is given
    split_at : (y : ℤ) → word m step ≡ Given y → IsSplit (sorts table t) (unsigned_abs y) (sorts table (element_type table t))
    split_at y e =
        let from = scaled_is low high size i y e in
        let within = element_within low high from.0 from.1 in
        let all : sorts table t ≡ repeated_sorts (span low high) (sorts table (element_type table t))
        = laws.elements t element low high is ∙ ap (λ u. repeated_sorts (span low high) (sorts table u)) (sym element_is) in
        subst (λ l. IsSplit l (unsigned_abs y) (sorts table (element_type table t))) (sym all)
        (subst (λ n. IsSplit (repeated_sorts (span low high) (sorts table (element_type table t))) n (sorts table (element_type table t))) (sym from.2)
        (element_split (span low high) (sorts table (element_type table t)) size (unsigned_abs (from.0 -ℤ low)) (many table (element_type table t)) within))

    pub indexed_at : (p : Place) → At p t → At (indexed_by step p) (element_type table t)
    indexed_at (InFrame at j) at_place = (
      joined_reads j step at_place.0 step_reads,
      λ o e. (let parts = joined_parts j step o e in
          let sum = parts.4 in
          front_on t (element_type table t) (unsigned_abs parts.1) (m.base + at + unsigned_abs parts.0) (m.base + at + unsigned_abs o) (split_at parts.1 parts.3) (omega (arith, sum)) (at_place.1 parts.0 parts.2)),
    )
    indexed_at (InPackages at j) at_place = (
      joined_reads j step at_place.0 step_reads,
      λ o e. (let parts = joined_parts j step o e in
          let sum = parts.4 in
          front_on t (element_type table t) (unsigned_abs parts.1) (at + unsigned_abs parts.0) (at + unsigned_abs o) (split_at parts.1 parts.3) (omega (arith, sum)) (at_place.1 parts.0 parts.2)),
    )
    indexed_at (Behind p at j) at_place = (joined_reads j step at_place.0 step_reads, at_place.1)

  -- ---- the word of a place

  pub load_reads : (p : Place) (t : ℕ) (k : Kind) → kinds table t ≡ k ∷ [] → At p t → Reads (load k p) k
  unfolding Looks
  load_reads (InFrame at i) t k one is =
      (is.0, λ o e. front_first here (m.base + at + unsigned_abs o) k (subst (λ ks. IsFront ks (drop (m.base + at + unsigned_abs o) here)) one (is.1 o e)))
  load_reads (InPackages at i) t k one is = (is.0, λ o e. front_first here (at + unsigned_abs o) k (subst (λ ks. IsFront ks (drop (at + unsigned_abs o) here)) one (is.1 o e)))
  load_reads (Behind p at i) t k one is = (refl, is.0, is.1)

  -- ---- the steps

  pub component_at : (i : ℕ) (p q : Placed) → component_of table i p ≡ Some q → At p.place p.of → At q.place q.of
  component_at i p q is at =
      let new : Placed = record { place = moved_by (words_before table p.of i) p.place; of = component_type table p.of i } in
      let sure = if_some (is_record (shape_of table p.of) && nat_lt i (field_count (shape_of table p.of))) (Some new) q is in
      let fits = both_true (is_record (shape_of table p.of)) (nat_lt i (field_count (shape_of table p.of))) sure.0 in
      subst (λ (r : Placed). At r.place r.of) (some_same new q sure.1)
      (moved_at p.place p.of (component_type table p.of i) (words_before table p.of i) (by (shape_of table p.of) refl fits.0 fits.1) at)
    where
      by : (sh : Shape) → shape_of table p.of ≡ sh → is_record sh ≡ true → nat_lt i (field_count sh) ≡ true → IsSplit (sorts table p.of) (words_before table p.of i) (sorts table (component_type table p.of i))
      by (shape.Fields components) shape_is fits lt =
          let part = component_split table components i (is_below i (length components) lt) in
          let type : component_type table p.of i ≡ (get_or components i no_component).of = ap (λ sh. (get_or (components_of sh) i no_component).of) shape_is in
          let offset_is : words_before table p.of i ≡ before table i components = ap (λ sh. before table i (components_of sh)) shape_is in
          subst (λ l. IsSplit l (words_before table p.of i) (sorts table (component_type table p.of i))) (sym (laws.fields p.of components shape_is))
          (subst (λ n. IsSplit (all_sorts table components) n (sorts table (component_type table p.of i))) (sym offset_is)
          (subst (λ u. IsSplit (all_sorts table components) (before table i components) (sorts table u)) (sym type) part))
      by (shape.Whole low high) shape_is fits lt = false_true fits
      by (shape.Listed literals low high) shape_is fits lt = false_true fits
      by (shape.Access d constant named) shape_is fits lt = false_true fits
      by (shape.Elements low high element) shape_is fits lt = false_true fits
      by (shape.Same of) shape_is fits lt = false_true fits

  pub element_at : (i : Code) (low high : ℤ) (p q : Placed) → element_of table i low high p ≡ Some q → Reads i sort.Int → At p.place p.of → At q.place q.of
  element_at i low high p q is reads at =
      let new : Placed = record { place = indexed_by (Scaled i low high (words table (element_type table p.of))) p.place; of = element_type table p.of } in
      let sure = if_some (has_bounds low high (shape_of table p.of)) (Some new) q is in
      subst (λ (r : Placed). At r.place r.of) (some_same new q sure.1) (by (shape_of table p.of) refl sure.0)
    where
      by : (sh : Shape) → shape_of table p.of ≡ sh → has_bounds low high sh ≡ true → At (indexed_by (Scaled i low high (words table (element_type table p.of))) p.place) (element_type table p.of)
      by (shape.Elements first last element) shape_is fits =
          let b = both_true (int_eq low first) (int_eq high last) fits in
          indexed_at p.of element low high
          (shape_is ∙ ap (λ x. shape.Elements x last element) (sym (int_same low first b.0)) ∙ ap (λ x. shape.Elements low x element) (sym (int_same high last b.1))) i reads p.place at
      by (shape.Whole a b) shape_is fits = false_true fits
      by (shape.Listed literals a b) shape_is fits = false_true fits
      by (shape.Access d constant named) shape_is fits = false_true fits
      by (shape.Fields components) shape_is fits = false_true fits
      by (shape.Same of) shape_is fits = false_true fits

  pub designated_at : (p q : Placed) → designated_of table p ≡ Some q → At p.place p.of → At q.place q.of
  designated_at p q is at = by (shape_of table p.of) refl is
    where
      never : {A : Type 0} → None ≡ Some q → A
      never e = absurd (no e)
        where
          no : None ≡ Some q → ⊥
          no e = cc

      by : (sh : Shape) → shape_of table p.of ≡ sh → option_map (λ d. record { place = Behind (load sort.Access p.place) 0 no_index; of = d }) (designates sh) ≡ Some q → At q.place q.of
      by (shape.Access d constant named) shape_is e =
          let one : kinds table p.of ≡ sort.Access ∷ [] = ap (map kind_of) (laws.access p.of d constant named shape_is) in
          subst (λ (r : Placed). At r.place r.of) (some_same (record { place = Behind (load sort.Access p.place) 0 no_index; of = d }) q e) (no_reads, load_reads p.place p.of sort.Access one at)
      by (shape.Whole low high) shape_is e = never e
      by (shape.Listed literals low high) shape_is e = never e
      by (shape.Fields components) shape_is e = never e
      by (shape.Elements low high element) shape_is e = never e
      by (shape.Same of) shape_is e = never e
