-- What is stored in an object leaves words that lie in no object as they are.
use Rattle.std.proofs.Common.{◌≡◌, ◌⊎◌, inl, inr, ℕ, zero, suc, ◌+◌, ◌≤◌, List, [], ◌∷◌, length, take, drop, refl, ap, ◌∙◌, arith, ℤ}
use Rattle.spark_base.specs.Lists.{Has}
use Rattle.flow_paths.specs.Objects.{Typing}
use Rattle.run_codes.specs.Flat.{spliced}
use Rattle.run_codes.specs.Related.{Lying, lying_sorts}
use Rattle.run_codes.proofs.Stores.{splice, spliced_is, splice_after}
use Rattle.run_fills.specs.Filled.{IsOutside}

before_kept : {A : Type 0} (c k n : ℕ) (new all : List A) → c + k ≤ n → n ≤ length all → take k (drop c (splice n new all)) ≡ take k (drop c all)
before_kept zero zero n new all le inside = refl
before_kept zero (suc k) zero new all le inside = absurd (omega (arith, le))
before_kept zero (suc k) (suc n) new [] le inside = absurd (omega (arith, inside))
before_kept zero (suc k) (suc n) new (x ∷ all) le inside = ap (λ l. x ∷ l) (before_kept zero k n new all (omega (arith, le)) (omega (arith, inside)))
before_kept (suc c) k zero new all le inside = absurd (omega (arith, le))
before_kept (suc c) k (suc n) new [] le inside = absurd (omega (arith, inside))
before_kept (suc c) k (suc n) new (x ∷ all) le inside = before_kept c k n new all (omega (arith, le)) (omega (arith, inside))

-- So many words that lie apart from what is stored.
pub block_kept : (c k n : ℕ) (new all : List ℤ) → n + length new ≤ length all → ((c + k ≤ n) ⊎ (n + length new ≤ c)) → take k (drop c (spliced n new all)) ≡ take k (drop c all)
block_kept c k n new all inside apart =
    ap (λ l. take k (drop c l)) (spliced_is n new all) ∙ elim apart [
      | inl before ↦ before_kept c k n new all before (omega (arith, inside))
      | inr after ↦ ap (take k) (splice_after n c new all after (omega (arith, inside)))
    ]

-- Those that lie in no object.
pub object_outside : (s : Typing) (all : List Lying) (l : Lying) (n a : ℕ) (new stack : List ℤ) (c k : ℕ) → Has all l → n ≡ l.at + a → a + length new ≤ length (lying_sorts s l)
    → l.at + length (lying_sorts s l) ≤ length stack → IsOutside s all c k → take k (drop c (spliced n new stack)) ≡ take k (drop c stack)
object_outside s all l n a new stack c k has at inside within out =
    block_kept c k n new stack (omega (arith, at, inside, within)) (elim (out l has) [
      | inl object_first ↦ inr (omega (arith, object_first, inside, at))
      | inr block_first ↦ inl (omega (arith, block_first, at))
    ])
