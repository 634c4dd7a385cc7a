-- What the calls change of the cells.
use Rattle.std.proofs.Common.{◌≡◌, ℕ, ◌+◌, ◌==◌, true, false, if◌then◌else◌, None, Some, List, [], ◌∷◌, length, refl, arith}
use Rattle.std.proofs.lemmas.Bool.Decides.{nat_tests}
use Rattle.run_values.specs.declared.value.Value.{Value}
use Rattle.slot_heap.specs.Heaps.{Cell, words_at, changed, without, live_count}
use Rattle.slot_heap.specs.Runs.{IsOnce}

pub words_at-changed_same : (f : List Value → List Value) (cells : List Cell) (h : ℕ) (ws : List Value) → words_at cells h ≡ Some ws → words_at (changed f cells h) h ≡ Some (f ws)
words_at-changed_same f [] h ws is = grind (arith)
words_at-changed_same f (c ∷ cells) h ws is =
    let others = words_at-changed_same f cells h ws in
    grind (arith, nat_tests)

pub words_at-changed_other : (f : List Value → List Value) (cells : List Cell) (h g : ℕ) → (g ≡ h → ⊥) → words_at (changed f cells h) g ≡ words_at cells g
words_at-changed_other f [] h g other = refl
words_at-changed_other f (c ∷ cells) h g other =
    let others = words_at-changed_other f cells h g other in
    grind (arith, nat_tests)

pub words_at-without_other : (cells : List Cell) (h g : ℕ) → (g ≡ h → ⊥) → words_at (without cells h) g ≡ words_at cells g
words_at-without_other [] h g other = refl
words_at-without_other (c ∷ cells) h g other =
    let others = words_at-without_other cells h g other in
    grind (arith, nat_tests)

pub words_at-without_same : (cells : List Cell) (h : ℕ) → IsOnce cells → words_at (without cells h) h ≡ None
words_at-without_same [] h once = refl
words_at-without_same (c ∷ cells) h once =
    let others = words_at-without_same cells h once.1 in
    let first = once.0 in
    grind (arith, nat_tests)

-- What isn't live stays so.
pub words_at-changed_none : (f : List Value → List Value) (cells : List Cell) (h g : ℕ) → words_at cells g ≡ None → words_at (changed f cells h) g ≡ None
words_at-changed_none f [] h g dead = refl
words_at-changed_none f (c ∷ cells) h g dead =
    let others = words_at-changed_none f cells h g in
    grind (arith, nat_tests)

pub words_at-without_none : (cells : List Cell) (h g : ℕ) → words_at cells g ≡ None → words_at (without cells h) g ≡ None
words_at-without_none [] h g dead = refl
words_at-without_none (c ∷ cells) h g dead =
    let others = words_at-without_none cells h g in
    grind (arith, nat_tests)

pub IsOnce-changed : (f : List Value → List Value) (cells : List Cell) (h : ℕ) → IsOnce cells → IsOnce (changed f cells h)
IsOnce-changed f [] h once = once
IsOnce-changed f (c ∷ cells) h once =
    elim (c.handle == h) as (λ (b : _). IsOnce (if b then record c { words = f c.words } ∷ cells else c ∷ changed f cells h)) [
      | true ↦ once
      | false ↦ (words_at-changed_none f cells h c.handle once.0, IsOnce-changed f cells h once.1)
    ]

pub IsOnce-without : (cells : List Cell) (h : ℕ) → IsOnce cells → IsOnce (without cells h)
IsOnce-without [] h once = once
IsOnce-without (c ∷ cells) h once =
    elim (c.handle == h) as (λ (b : _). IsOnce (if b then cells else c ∷ without cells h)) [
      | true ↦ once.1
      | false ↦ (words_at-without_none cells h c.handle once.0, IsOnce-without cells h once.1)
    ]

pub live_count-changed : (f : List Value → List Value) (n : ℕ) (cells : List Cell) (h : ℕ) → ((ws : List Value) → length (f ws) ≡ length ws) → live_count n (changed f cells h) ≡ live_count n cells
live_count-changed f n [] h same = refl
live_count-changed f n (c ∷ cells) h same =
    let here = same c.words in
    let others = live_count-changed f n cells h same in
    grind (arith, nat_tests)

-- A cell counts once, at its size.
pub live_count-without_same : (cells : List Cell) (h : ℕ) (ws : List Value) → words_at cells h ≡ Some ws → live_count (length ws) cells ≡ live_count (length ws) (without cells h) + 1
live_count-without_same [] h ws is = grind (arith)
live_count-without_same (c ∷ cells) h ws is =
    let others = live_count-without_same cells h ws in
    grind (arith, nat_tests)

pub live_count-without_other : (cells : List Cell) (h : ℕ) (ws : List Value) (n : ℕ) → words_at cells h ≡ Some ws → (n ≡ length ws → ⊥) → live_count n cells ≡ live_count n (without cells h)
live_count-without_other [] h ws n is other = grind (arith)
live_count-without_other (c ∷ cells) h ws n is other =
    let others = live_count-without_other cells h ws n in
    grind (arith, nat_tests)
