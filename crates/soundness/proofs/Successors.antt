-- What instructions without calls take, the successors of points, and facts where nothing is moved.
use Rattle.std.proofs.Common.{◌≡◌, refl, ◌⊎◌, inl, inr, ℕ, zero, suc, ◌<◌, Bool, true, false, not, ◌&&◌, List, [], ◌∷◌, length, arith, Option, Some, None}
use Rattle.std.specs.Prelude.{filter}
use Rattle.std.proofs.lemmas.Bool.{false≢true}
use Rattle.machine.specs.spark_base.Lists.{Has}
use Rattle.spark_base.proofs.Lists.{Has-append_cases, Has-filter}
use Rattle.machine.specs.place_names.declared.act.Act.{Act}
use Rattle.machine.specs.place_names.declared.fact.Fact.{Fact}
use Rattle.machine.specs.place_names.declared.fact.Fact.TheVariants.{Moved}
use Rattle.machine.specs.place_names.Facts.{adds, removes, effect}
use Rattle.machine.specs.place_names.Names.{Name as PlaceName}
use Rattle.machine.specs.typed_tree.Trees.{TypedTree}
use Rattle.machine.specs.flow_paths.Instructions.{Instruction, Call, Finish}
use Rattle.machine.specs.Step.{Turn, successor}
use Rattle.soundness.specs.OwnedWays.Ways.{after}
use Rattle.soundness.specs.Sound.{IsNoCall}

-- ---- texts without calls take nothing that waits

pub not_true : (b : Bool) → not b ≡ true → b ≡ false
not_true true e = absurd (false≢true e)
not_true false e = refl

pub both_not : (a b : Bool) → not a && not b ≡ true → (a ≡ false) × (b ≡ false)
both_not true b e = absurd (false≢true e)
both_not false true e = absurd (false≢true e)
both_not false false e = (refl, refl)

pub finish_or : (i : Instruction) → (i ≡ Finish) ⊎ (i ≡ Finish → ⊥)
finish_or Finish = inl refl
finish_or i = inr (λ e. cc)

-- ---- successors

pub below_one : 0 < 1
below_one = omega arith

pub below_two : 1 < 2
below_two = omega arith

module _ (t : Turn) where
  abbrev with_next : List ℕ → Turn
  with_next next = record t { point = record t.point { next = next } }

  successor_in : (next : List ℕ) (k : ℕ) → k < length next → (n : ℕ) × (successor (with_next next) k ≡ Some n) × Has next n
  successor_in [] k less = absurd (omega (arith, less))
  successor_in (n ∷ rest) zero less = (n, refl, inl refl)
  successor_in (n ∷ rest) (suc k) less = (let later = successor_in rest k (omega (arith, less)) in (later.0, later.1, inr later.2))

  pub successor_there : (k : ℕ) → k < length t.point.next → (n : ℕ) × (successor t k ≡ Some n) × Has t.point.next n
  successor_there k less = successor_in t.point.next k less

  -- the k-th successor is one of them, or there is none
  successor_or : (next : List ℕ) (k : ℕ) → ((n : ℕ) × (successor (with_next next) k ≡ Some n) × Has next n) ⊎ (successor (with_next next) k ≡ None)
  successor_or [] k = inr refl
  successor_or (n ∷ rest) zero = inl (n, refl, inl refl)
  successor_or (n ∷ rest) (suc k) = elim (successor_or rest k) [
    | inl found ↦ inl (found.0, found.1, inr found.2)
    | inr none ↦ inr none
  ]

  pub successor_cases : (k : ℕ) → ((n : ℕ) × (successor t k ≡ Some n) × Has t.point.next n) ⊎ (successor t k ≡ None)
  successor_cases k = successor_or t.point.next k

-- ---- facts where nothing is moved

pub unmoved_after : (more : List Act) (facts : List Fact) → ((name : PlaceName) → Has facts (Moved name) → ⊥)
    → ((a : Act) → Has more a → (name : PlaceName) → Has (adds a) (Moved name) → ⊥) → (name : PlaceName) → Has (after more facts) (Moved name) → ⊥
unmoved_after [] facts none each name has = none name has
unmoved_after (a ∷ more) facts none each name has =
    unmoved_after more (effect a facts)
    (λ other there. elim (Has-append_cases (filter (λ f. not (removes a f)) facts) (adds a) (Moved other) there) [
      | inl old ↦ none other (Has-filter (λ f. not (removes a f)) facts (Moved other) old).0
      | inr new ↦ each a (inl refl) other new
    ]) (λ b has. each b (inr has)) name has

-- ---- calls

pub call_or : (i : Instruction) → ((n : ℕ) × (actuals : TypedTree) × (result : Option ℕ) × (i ≡ Call n actuals result)) ⊎ IsNoCall i
call_or (Call n actuals result) = inl (n, actuals, result, refl)
call_or i = inr (λ n actuals result e. cc)
