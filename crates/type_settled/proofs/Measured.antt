-- What is measured of a type is measured of its parts.
use Rattle.std.proofs.Common.{◌≡◌, ℕ, zero, suc, ◌+◌, ◌*◌, ◌≤◌, Bool, true, false, ◌||◌, List, [], ◌∷◌, ◌++◌, map, refl, sym, ap, ◌∙◌, arith, length, min, max, sum, Option, Some, None, length-append, nat_eq, if◌then◌else◌}
use Rattle.std.specs.Prelude.{slice_get}
use Rattle.std.proofs.lemmas.Grind.{common_steps}
use Rattle.std.proofs.lemmas.Option.{slice_get_past}
use Rattle.std.proofs.lemmas.List.Sums.{sum_by-cons}
use Rattle.place_names.specs.declared.selector.Sel.{Sel}
use Rattle.place_names.specs.declared.selector.Sel.TheVariants.{Field, Elem}
use Rattle.type_definitions.specs.declared.table.Component.{Component}
use Rattle.type_definitions.specs.declared.table.Shape.{Shape}
use Rattle.type_definitions.specs.declared.table.Shape.TheVariants as shape
use Rattle.type_definitions.specs.declared.table.Info.{Info}
use Rattle.type_definitions.specs.Types.{Table, info, info_found, shape_found, span, words_of, words_within, numbered, parts_of, parts_within}
use Rattle.type_definitions.specs.Declarations.{any_of, holds_shape, holds_parent}
use Rattle.type_settled.specs.declared.measure.Measure.{Measure}
use Rattle.type_settled.specs.Measures.{reach, some_below, measured, nothing, deeper, component_of, joined, fields_of, shape_measure, parent_unsound, info_measure, part_of}

pub same_measure : (a b : Measure) → a.words ≡ b.words → a.parts ≡ b.parts → a.reach ≡ b.reach → a.unsound ≡ b.unsound → a ≡ b
same_measure a b w p r u = λ i. record { words = w i; parts = p i; reach = r i; unsound = u i }

zero_left : (n : ℕ) → 0 + n ≡ n
zero_left n = omega arith

zero_right : (n : ℕ) → n ≡ n + 0
zero_right n = omega arith

zero_max : (n : ℕ) → max 0 n ≡ n
zero_max n = omega arith

max_zero : (n : ℕ) → n ≡ max n 0
max_zero n = omega arith

-- ---- words

small_product : (n w : ℕ) → w ≤ 65537 → min 65537 (n * min 65537 w) ≡ min 65537 (n * w)
small_product n w le = let e : min 65537 w ≡ w = omega (arith, le) in rw e refl

large_product : (n m w : ℕ) → n ≡ m + 1 → 65537 ≤ w → min 65537 (n * min 65537 w) ≡ min 65537 (n * w)
large_product n m w is le =
    let e : min 65537 w ≡ 65537 = omega (arith, le) in
    rw e (rw is (omega (arith, le)))

product_capped : (n w : ℕ) → min 65537 (n * min 65537 w) ≡ min 65537 (n * w)
product_capped zero w = omega arith
product_capped (suc n) w = grind (arith, small_product (suc n) w, large_product (suc n) n w)

sum_capped : (a b n w : ℕ) → a ≡ min 65537 n → b ≡ min 65537 w → min 65537 (a + b) ≡ min 65537 (n + w)
sum_capped a b n w e d = omega (arith, e, d)

module _ (part : ℕ → Measure) (w : ℕ → ℕ) (same : (t : ℕ) → (part t).words ≡ min 65537 (w t)) where
  words_fields : (all : Measure) (n : ℕ) (cs : List Component) → all.words ≡ min 65537 n
      → (fields_of part all cs).words ≡ min 65537 (n + sum (map (λ c. w c.of) cs))
  words_fields all n [] is = is ∙ ap (λ k. min 65537 k) (zero_right n)
  words_fields all n (c ∷ rest) is =
      let more : min 65537 (all.words + (part c.of).words) ≡ min 65537 (n + w c.of) =
      sum_capped all.words (part c.of).words n (w c.of) is (same c.of) in
      let cons : sum (w c.of ∷ map (λ c. w c.of) rest) ≡ w c.of + sum (map (λ c. w c.of) rest) =
      sum_by-cons (λ k. k) (w c.of) (map (λ c. w c.of) rest) in
      let last : (n + w c.of) + sum (map (λ c. w c.of) rest) ≡ n + sum (w c.of ∷ map (λ c. w c.of) rest) =
      omega (arith, cons) in
      words_fields (joined all (component_of (part c.of))) (n + w c.of) rest more ∙ ap (λ k. min 65537 k) last

  words_shape : (s : Shape) → (shape_measure part s).words ≡ min 65537 (words_of w s)
  words_shape (shape.Whole low high) = refl
  words_shape (shape.Listed literals low high) = refl
  words_shape (shape.Access t constant named) = refl
  words_shape (shape.Fields cs) = words_fields nothing 0 cs refl ∙ ap (λ k. min 65537 k) (zero_left (sum (map (λ c. w c.of) cs)))
  words_shape (shape.Elements low high t) = rw (same t) (product_capped (span low high) (w t))
  words_shape (shape.Same t) = same t

-- ---- access parts

sum_few : (a b n k : ℕ) → a ≡ min 65 n → b ≡ min 65 k → min 65 (a + b) ≡ min 65 (n + k)
sum_few a b n k e d = omega (arith, e, d)

length_map : (f : List Sel → List Sel) (qs : List (List Sel)) → length (map f qs) ≡ length qs
length_map f [] = refl
length_map f (q ∷ rest) = ap suc (length_map f rest)

module _ (part : ℕ → Measure) (parts : ℕ → List (List Sel)) (same : (t : ℕ) → (part t).parts ≡ min 65 (length (parts t))) where
  parts_fields : (all : Measure) (n i : ℕ) (cs : List Component) → all.parts ≡ min 65 n
      → (fields_of part all cs).parts ≡ min 65 (n + length (numbered i parts cs))
  parts_fields all n i [] is = is ∙ ap (λ k. min 65 k) (zero_right n)
  parts_fields all n i (c ∷ rest) is =
      let here : length (map (λ q. Field i ∷ q) (parts c.of)) ≡ length (parts c.of) = length_map (λ q. Field i ∷ q) (parts c.of) in
      let more : min 65 (all.parts + (part c.of).parts) ≡ min 65 (n + length (parts c.of)) =
      sum_few all.parts (part c.of).parts n (length (parts c.of)) is (same c.of) in
      let behind : length (map (λ q. Field i ∷ q) (parts c.of) ++ numbered (i + 1) parts rest)
      ≡ length (map (λ q. Field i ∷ q) (parts c.of)) + length (numbered (i + 1) parts rest) =
      length-append (map (λ q. Field i ∷ q) (parts c.of)) (numbered (i + 1) parts rest) in
      let last : (n + length (parts c.of)) + length (numbered (i + 1) parts rest)
      ≡ n + length (map (λ q. Field i ∷ q) (parts c.of) ++ numbered (i + 1) parts rest) =
      omega (arith, here, behind) in
      parts_fields (joined all (component_of (part c.of))) (n + length (parts c.of)) (i + 1) rest more ∙ ap (λ k. min 65 k) last

  parts_shape : (s : Shape) → (shape_measure part s).parts ≡ min 65 (length (parts_of parts s))
  parts_shape (shape.Whole low high) = refl
  parts_shape (shape.Listed literals low high) = refl
  parts_shape (shape.Access t constant true) = refl
  parts_shape (shape.Access t constant false) = refl
  parts_shape (shape.Fields cs) = parts_fields nothing 0 0 cs refl ∙ ap (λ k. min 65 k) (zero_left (length (numbered 0 parts cs)))
  parts_shape (shape.Elements low high t) = same t ∙ ap (λ k. min 65 k) (sym (length_map (λ q. Elem ∷ q) (parts t)))
  parts_shape (shape.Same t) = same t

-- ---- their selectors

farther : (r : ℕ) → deeper (min 18 r) ≡ min 18 (if nat_eq r 0 then 0 else r + 1)
farther r = grind arith

pub reach_map : (s : Sel) (qs : List (List Sel)) → reach (map (λ q. s ∷ q) qs) ≡ (if nat_eq (reach qs) 0 then 0 else reach qs + 1)
reach_map s [] = refl
reach_map s (q ∷ rest) = grind (arith, common_steps, reach_map s rest)

pub reach_append : (qs rs : List (List Sel)) → reach (qs ++ rs) ≡ max (reach qs) (reach rs)
reach_append [] rs = omega arith
reach_append (q ∷ rest) rs = grind (arith, reach_append rest rs)

-- With a selector in front of each.
reach_front : (s : Sel) (qs : List (List Sel)) → deeper (min 18 (reach qs)) ≡ min 18 (reach (map (λ q. s ∷ q) qs))
reach_front s qs = farther (reach qs) ∙ ap (λ k. min 18 k) (sym (reach_map s qs))

max_capped : (a b n k : ℕ) → a ≡ min 18 n → b ≡ min 18 k → max a b ≡ min 18 (max n k)
max_capped a b n k e d = omega (arith, e, d)

module _ (part : ℕ → Measure) (parts : ℕ → List (List Sel)) (same : (t : ℕ) → (part t).reach ≡ min 18 (reach (parts t))) where
  reach_fields : (all : Measure) (n i : ℕ) (cs : List Component) → all.reach ≡ min 18 n
      → (fields_of part all cs).reach ≡ min 18 (max n (reach (numbered i parts cs)))
  reach_fields all n i [] is = is ∙ ap (λ k. min 18 k) (max_zero n)
  reach_fields all n i (c ∷ rest) is =
      let here : deeper (part c.of).reach ≡ min 18 (reach (map (λ q. Field i ∷ q) (parts c.of))) =
      rw (same c.of) (reach_front (Field i) (parts c.of)) in
      let more : max all.reach (deeper (part c.of).reach) ≡ min 18 (max n (reach (map (λ q. Field i ∷ q) (parts c.of)))) =
      max_capped all.reach (deeper (part c.of).reach) n (reach (map (λ q. Field i ∷ q) (parts c.of))) is here in
      let behind : reach (map (λ q. Field i ∷ q) (parts c.of) ++ numbered (i + 1) parts rest)
      ≡ max (reach (map (λ q. Field i ∷ q) (parts c.of))) (reach (numbered (i + 1) parts rest)) =
      reach_append (map (λ q. Field i ∷ q) (parts c.of)) (numbered (i + 1) parts rest) in
      let last : max (max n (reach (map (λ q. Field i ∷ q) (parts c.of)))) (reach (numbered (i + 1) parts rest))
      ≡ max n (reach (map (λ q. Field i ∷ q) (parts c.of) ++ numbered (i + 1) parts rest)) =
      omega (arith, behind) in
      reach_fields (joined all (component_of (part c.of))) (max n (reach (map (λ q. Field i ∷ q) (parts c.of)))) (i + 1) rest more
      ∙ ap (λ k. min 18 k) last

  reach_shape : (s : Shape) → (shape_measure part s).reach ≡ min 18 (reach (parts_of parts s))
  reach_shape (shape.Whole low high) = refl
  reach_shape (shape.Listed literals low high) = refl
  reach_shape (shape.Access t constant true) = refl
  reach_shape (shape.Access t constant false) = refl
  reach_shape (shape.Fields cs) = reach_fields nothing 0 0 cs refl ∙ ap (λ k. min 18 k) (zero_max (reach (numbered 0 parts cs)))
  reach_shape (shape.Elements low high t) = rw (same t) (reach_front Elem (parts t))
  reach_shape (shape.Same t) = same t

-- ---- unsound types

or_assoc : (a b c : Bool) → (a || b) || c ≡ a || (b || c)
or_assoc true b c = refl
or_assoc false b c = refl

or_false : (a : Bool) → a || false ≡ a
or_false true = refl
or_false false = refl

module _ (part : ℕ → Measure) (has : ℕ → Bool) (same : (t : ℕ) → (part t).unsound ≡ has t) where
  unsound_fields : (all : Measure) (cs : List Component) → (fields_of part all cs).unsound ≡ all.unsound || any_of has cs
  unsound_fields all [] = sym (or_false all.unsound)
  unsound_fields all (c ∷ rest) =
      unsound_fields (joined all (component_of (part c.of))) rest
      ∙ ap (λ u. (all.unsound || u) || any_of has rest) (same c.of) ∙ or_assoc all.unsound (has c.of) (any_of has rest)

  unsound_shape : (s : Shape) → (shape_measure part s).unsound ≡ holds_shape has s
  unsound_shape (shape.Whole low high) = refl
  unsound_shape (shape.Listed literals low high) = refl
  unsound_shape (shape.Access t constant named) = refl
  unsound_shape (shape.Fields cs) = unsound_fields nothing cs
  unsound_shape (shape.Elements low high t) = same t
  unsound_shape (shape.Same t) = same t

  unsound_parent : (p : Option ℕ) → parent_unsound part p ≡ holds_parent has p
  unsound_parent None = refl
  unsound_parent (Some t) = same t

-- ---- all of it

pub shape_info : (o : Option Info) → (info_found o).shape ≡ shape_found o
shape_info None = refl
shape_info (Some i) = refl

pub measured_step : (is : ℕ → Bool) (n : ℕ) (table : Table) (t : ℕ)
    → info_measure (part_of is (measured is n table)) (info table t) ≡ measured is (suc n) table t
unfolding words_within parts_within some_below
measured_step is n table t =
    let part : ℕ → Measure = part_of is (measured is n table) in
    let s : Shape = shape_found (slice_get table t) in
    let has : ℕ → Bool = λ u. is u || some_below n is table u in
    let i : Info = info table t in
    let e : i.shape ≡ s = shape_info (slice_get table t) in
    same_measure (info_measure part i) (measured is (suc n) table t)
    (ap (λ s. (shape_measure part s).words) e ∙ words_shape part (words_within n table) (λ u. refl) s)
    (ap (λ s. (shape_measure part s).parts) e ∙ parts_shape part (parts_within n table) (λ u. refl) s)
    (ap (λ s. (shape_measure part s).reach) e ∙ reach_shape part (parts_within n table) (λ u. refl) s)
    (ap (λ u. u || parent_unsound part i.parent) (unsound_shape part has (λ u. refl) i.shape)
    ∙ ap (λ u. holds_shape has i.shape || u) (unsound_parent part has (λ u. refl) i.parent))

pub measured_zero : (is : ℕ → Bool) (table : Table) (t : ℕ) → measured is zero table t ≡ nothing
unfolding words_within parts_within some_below
measured_zero is table t = refl

-- Beyond the table there is nothing.
pub measured_past : (is : ℕ → Bool) (n : ℕ) (table : Table) (t : ℕ) → length table ≤ t → measured is n table t ≡ nothing
measured_past is zero table t past = measured_zero is table t
measured_past is (suc n) table t past =
    let none : slice_get table t ≡ None = slice_get_past table t past in
    sym (measured_step is n table t) ∙ ap (λ o. info_measure (part_of is (measured is n table)) (info_found o)) none
