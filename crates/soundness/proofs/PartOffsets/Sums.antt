-- Sums over the first components.
use Rattle.std.proofs.Common.{◌≡◌, ℕ, zero, suc, ◌+◌, ◌*◌, ◌<◌, ◌≤◌, List, [], ◌∷◌, map, sum, take, length, get_or, arith, suc-mul, mul-le-mul_right}
use Rattle.std.proofs.lemmas.List.Sums.{sum_by-cons}

pub sum_cons : (a : ℕ) (xs : List ℕ) → sum (a ∷ xs) ≡ a + sum xs
sum_cons a xs = sum_by-cons (λ k. k) a xs

module _ {A : Type 0} (f : A → ℕ) (d : A) where
  pub sum_next : (cs : List A) (i : ℕ) → i < length cs → sum (map f (take i cs)) + f (get_or cs i d) ≡ sum (map f (take (suc i) cs))
  sum_next [] i lt = absurd (omega (arith, lt))
  sum_next (c ∷ rest) zero lt = let a = sum_cons (f c) [] in omega (arith, a)
  sum_next (c ∷ rest) (suc i) lt =
      let a = sum_cons (f c) (map f (take i rest)) in
      let b = sum_cons (f c) (map f (take (suc i) rest)) in
      let less : i < length rest = omega (arith, lt) in
      let up = sum_next rest i less in
      omega (arith, a, b, up)

  pub sum_more : (cs : List A) (i j : ℕ) → i ≤ j → sum (map f (take i cs)) ≤ sum (map f (take j cs))
  sum_more [] zero zero le = omega arith
  sum_more [] zero (suc j) le = omega arith
  sum_more [] (suc i) zero le = omega arith
  sum_more [] (suc i) (suc j) le = omega arith
  sum_more (c ∷ rest) zero j le = omega arith
  sum_more (c ∷ rest) (suc i) zero le = absurd (omega (arith, le))
  sum_more (c ∷ rest) (suc i) (suc j) le =
      let a = sum_cons (f c) (map f (take i rest)) in
      let b = sum_cons (f c) (map f (take j rest)) in
      let less : i ≤ j = omega (arith, le) in
      let up = sum_more rest i j less in
      omega (arith, a, b, up)

  pub sum_all : (cs : List A) (i : ℕ) → sum (map f (take i cs)) ≤ sum (map f cs)
  sum_all [] zero = omega arith
  sum_all [] (suc i) = omega arith
  sum_all (c ∷ rest) zero = omega arith
  sum_all (c ∷ rest) (suc i) =
      let a = sum_cons (f c) (map f (take i rest)) in
      let b = sum_cons (f c) (map f rest) in
      let up = sum_all rest i in
      omega (arith, a, b, up)

-- the n-th of m runs ends before the m-th begins
pub run_before : (n m w : ℕ) → n < m → n * w + w ≤ m * w
run_before n m w lt =
    let a : suc n * w ≤ m * w = mul-le-mul_right w (omega (arith, lt)) in
    let b : suc n * w ≡ n * w + w = suc-mul n w in
    omega (arith, a, b)
