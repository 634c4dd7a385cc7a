-- A type that is within the limits is so at each depth.
use Rattle.std.proofs.Common.{◌≡◌, ℕ, zero, suc, ◌+◌, ◌-◌, ◌≤◌, List, [], ◌∷◌, ◌++◌, map, sum, max, length, IsTrue, refl, sym, ap, ◌∙◌, arith, length-append, nat_eq, if◌then◌else◌}
use Rattle.std.specs.Prelude.{slice_get, nat_le}
use Rattle.std.proofs.Math.Nat.{mul-le-mul_left}
use Rattle.std.proofs.lemmas.List.Sums.{sum_by-cons}
use Rattle.place_names.specs.declared.selector.Sel.{Sel}
use Rattle.place_names.specs.declared.selector.Sel.TheVariants.{Field, Elem}
use Rattle.type_definitions.specs.declared.table.Component.{Component}
use Rattle.type_definitions.specs.declared.table.Shape.{Shape}
use Rattle.type_definitions.specs.declared.table.Shape.TheVariants as shape
use Rattle.type_definitions.specs.Types.{Table, shape_found, span, words, words_of, words_within, numbered, parts, parts_of, parts_within}
use Rattle.type_definitions.specs.Whole.{all_short}
use Rattle.type_settled.specs.Measures.{reach}
use Rattle.type_settled.proofs.Capped.{short_reach}
use Rattle.type_settled.proofs.Measured.{reach_map, reach_append}
use Rattle.type_sizes.specs.Limits.{IsWithin}

add_le : (a b c d : ℕ) → a ≤ b → c ≤ d → a + c ≤ b + d
add_le a b c d p q = omega (arith, p, q)

-- ---- of larger parts more is made

module _ (f g : ℕ → ℕ) (more : (t : ℕ) → f t ≤ g t) where
  words_fields : (cs : List Component) → sum (map (λ c. f c.of) cs) ≤ sum (map (λ c. g c.of) cs)
  words_fields [] = omega arith
  words_fields (c ∷ rest) =
      let a : sum (f c.of ∷ map (λ c. f c.of) rest) ≡ f c.of + sum (map (λ c. f c.of) rest) =
      sum_by-cons (λ k. k) (f c.of) (map (λ c. f c.of) rest) in
      let b : sum (g c.of ∷ map (λ c. g c.of) rest) ≡ g c.of + sum (map (λ c. g c.of) rest) =
      sum_by-cons (λ k. k) (g c.of) (map (λ c. g c.of) rest) in
      let le : f c.of + sum (map (λ c. f c.of) rest) ≤ g c.of + sum (map (λ c. g c.of) rest) =
      add_le (f c.of) (g c.of) (sum (map (λ c. f c.of) rest)) (sum (map (λ c. g c.of) rest)) (more c.of) (words_fields rest) in
      omega (arith, a, b, le)

  words_more : (s : Shape) → words_of f s ≤ words_of g s
  words_more (shape.Whole low high) = omega arith
  words_more (shape.Listed literals low high) = omega arith
  words_more (shape.Access t constant named) = omega arith
  words_more (shape.Fields cs) = words_fields cs
  words_more (shape.Elements low high t) = mul-le-mul_left (span low high) (more t)
  words_more (shape.Same t) = more t

length_map : (f : List Sel → List Sel) (qs : List (List Sel)) → length (map f qs) ≡ length qs
length_map f [] = refl
length_map f (q ∷ rest) = ap suc (length_map f rest)

module _ (f g : ℕ → List (List Sel)) (more : (t : ℕ) → length (f t) ≤ length (g t)) where
  count_fields : (i : ℕ) (cs : List Component) → length (numbered i f cs) ≤ length (numbered i g cs)
  count_fields i [] = omega arith
  count_fields i (c ∷ rest) =
      let a : length (map (λ q. Field i ∷ q) (f c.of) ++ numbered (i + 1) f rest)
      ≡ length (map (λ q. Field i ∷ q) (f c.of)) + length (numbered (i + 1) f rest) =
      length-append (map (λ q. Field i ∷ q) (f c.of)) (numbered (i + 1) f rest) in
      let b : length (map (λ q. Field i ∷ q) (g c.of) ++ numbered (i + 1) g rest)
      ≡ length (map (λ q. Field i ∷ q) (g c.of)) + length (numbered (i + 1) g rest) =
      length-append (map (λ q. Field i ∷ q) (g c.of)) (numbered (i + 1) g rest) in
      let p : length (map (λ q. Field i ∷ q) (f c.of)) ≡ length (f c.of) = length_map (λ q. Field i ∷ q) (f c.of) in
      let q : length (map (λ q. Field i ∷ q) (g c.of)) ≡ length (g c.of) = length_map (λ q. Field i ∷ q) (g c.of) in
      let le : length (f c.of) ≤ length (g c.of) = more c.of in
      let below : length (numbered (i + 1) f rest) ≤ length (numbered (i + 1) g rest) = count_fields (i + 1) rest in
      omega (arith, a, b, p, q, le, below)

  count_more : (s : Shape) → length (parts_of f s) ≤ length (parts_of g s)
  count_more (shape.Whole low high) = omega arith
  count_more (shape.Listed literals low high) = omega arith
  count_more (shape.Access t constant named) = omega arith
  count_more (shape.Fields cs) = count_fields 0 cs
  count_more (shape.Elements low high t) =
      let a : length (map (λ q. Elem ∷ q) (f t)) ≡ length (f t) = length_map (λ q. Elem ∷ q) (f t) in
      let b : length (map (λ q. Elem ∷ q) (g t)) ≡ length (g t) = length_map (λ q. Elem ∷ q) (g t) in
      let le : length (f t) ≤ length (g t) = more t in
      omega (arith, a, b, le)
  count_more (shape.Same t) = more t

farther : (a b : ℕ) → a ≤ b → (if nat_eq a 0 then 0 else a + 1) ≤ (if nat_eq b 0 then 0 else b + 1)
farther a b le = grind arith

reach_front : (s : Sel) (qs rs : List (List Sel)) → reach qs ≤ reach rs → reach (map (λ q. s ∷ q) qs) ≤ reach (map (λ q. s ∷ q) rs)
reach_front s qs rs le = rw (reach_map s qs) (rw (reach_map s rs) (farther (reach qs) (reach rs) le))

max_le : (a b c d : ℕ) → a ≤ b → c ≤ d → max a c ≤ max b d
max_le a b c d p q = omega (arith, p, q)

module _ (f g : ℕ → List (List Sel)) (more : (t : ℕ) → reach (f t) ≤ reach (g t)) where
  reach_fields : (i : ℕ) (cs : List Component) → reach (numbered i f cs) ≤ reach (numbered i g cs)
  reach_fields i [] = omega arith
  reach_fields i (c ∷ rest) =
      rw (reach_append (map (λ q. Field i ∷ q) (f c.of)) (numbered (i + 1) f rest))
      (rw (reach_append (map (λ q. Field i ∷ q) (g c.of)) (numbered (i + 1) g rest))
      (max_le (reach (map (λ q. Field i ∷ q) (f c.of))) (reach (map (λ q. Field i ∷ q) (g c.of))) (reach (numbered (i + 1) f rest))
      (reach (numbered (i + 1) g rest)) (reach_front (Field i) (f c.of) (g c.of) (more c.of)) (reach_fields (i + 1) rest)))

  reach_more : (s : Shape) → reach (parts_of f s) ≤ reach (parts_of g s)
  reach_more (shape.Whole low high) = omega arith
  reach_more (shape.Listed literals low high) = omega arith
  reach_more (shape.Access t constant named) = omega arith
  reach_more (shape.Fields cs) = reach_fields 0 cs
  reach_more (shape.Elements low high t) = reach_front Elem (f t) (g t) (more t)
  reach_more (shape.Same t) = more t

-- ---- at a greater depth more is there

words_next : (n : ℕ) (table : Table) (t : ℕ) → words_within n table t ≤ words_within (suc n) table t
unfolding words_within
words_next zero table t = omega arith
words_next (suc n) table t =
    words_more (words_within n table) (words_within (suc n) table) (words_next n table) (shape_found (slice_get table t))

count_next : (n : ℕ) (table : Table) (t : ℕ) → length (parts_within n table t) ≤ length (parts_within (suc n) table t)
unfolding parts_within
count_next zero table t = omega arith
count_next (suc n) table t =
    count_more (parts_within n table) (parts_within (suc n) table) (count_next n table) (shape_found (slice_get table t))

reach_next : (n : ℕ) (table : Table) (t : ℕ) → reach (parts_within n table t) ≤ reach (parts_within (suc n) table t)
unfolding parts_within
reach_next zero table t = omega arith
reach_next (suc n) table t =
    reach_more (parts_within n table) (parts_within (suc n) table) (reach_next n table) (shape_found (slice_get table t))

-- What grows with each step is largest at the last one.
climbs : (f : ℕ → ℕ) → ((n : ℕ) → f n ≤ f (suc n)) → (n k : ℕ) → f n ≤ f (k + n)
climbs f up n zero = let e : 0 + n ≡ n = omega arith in rw e (omega arith)
climbs f up n (suc k) =
    let e : suc k + n ≡ suc (k + n) = omega arith in
    let below : f n ≤ f (k + n) = climbs f up n k in
    let next : f (k + n) ≤ f (suc (k + n)) = up (k + n) in
    rw e (omega (arith, below, next))

up_to : (f : ℕ → ℕ) → ((n : ℕ) → f n ≤ f (suc n)) → (n m : ℕ) → n ≤ m → f n ≤ f m
up_to f up n m le =
    let e : (m - n) + n ≡ m = omega (arith, le) in
    let climb : f n ≤ f ((m - n) + n) = climbs f up n (m - n) in
    rw e at climb

pub words_up : (table : Table) (t n m : ℕ) → n ≤ m → words_within n table t ≤ words_within m table t
words_up table t = up_to (λ n. words_within n table t) (λ n. words_next n table t)

pub count_up : (table : Table) (t n m : ℕ) → n ≤ m → length (parts_within n table t) ≤ length (parts_within m table t)
count_up table t = up_to (λ n. length (parts_within n table t)) (λ n. count_next n table t)

pub reach_up : (table : Table) (t n m : ℕ) → n ≤ m → reach (parts_within n table t) ≤ reach (parts_within m table t)
reach_up table t = up_to (λ n. reach (parts_within n table t)) (λ n. reach_next n table t)

-- ---- within the limits

near : (a b : ℕ) → a ≤ b → IsTrue (nat_le b 17) → IsTrue (nat_le a 17)
near a b le h = grind arith

le_trans : (a b c : ℕ) → a ≤ b → b ≤ c → a ≤ c
le_trans a b c p q = omega (arith, p, q)

pub few_words_at : (table : Table) (t n : ℕ) → IsWithin table t → n ≤ length table → words_within n table t ≤ 65536
unfolding words
few_words_at table t n is le =
    le_trans (words_within n table t) (words_within (length table) table t) 65536 (words_up table t n (length table) le) is.few_words

pub few_parts_at : (table : Table) (t n : ℕ) → IsWithin table t → n ≤ length table → length (parts_within n table t) ≤ 64
unfolding parts
few_parts_at table t n is le =
    le_trans (length (parts_within n table t)) (length (parts_within (length table) table t)) 64 (count_up table t n (length table) le)
    is.few_parts

pub short_parts_at : (table : Table) (t n : ℕ) → IsWithin table t → n ≤ length table → IsTrue (all_short (parts_within n table t))
unfolding parts
short_parts_at table t n is le =
    short_reach (parts_within n table t)
    ∙ near (reach (parts_within n table t)) (reach (parts_within (length table) table t)) (reach_up table t n (length table) le)
    (sym (short_reach (parts_within (length table) table t)) ∙ is.short_parts)
