-- How contents change in one step of an evaluation or an instruction.
use Rattle.std.specs.Prelude.{◌≡◌, ◌⊎◌, ℕ, ◌+◌, ◌<◌, ◌≤◌, ◌==◌, Bool, true, false, List, ◌++◌, length, get_or}
use Rattle.std.specs.List.{list_any}
use Rattle.machine.specs.spark_base.declared.position.Pos.{Pos}
use Rattle.machine.specs.type_definitions.Types.{Table, words}
use Rattle.machine.specs.flow_paths.Objects.{Typing}
use Rattle.machine.specs.Words.{access_offsets}
use Rattle.machine.specs.Memory.{Slot, Memory, Place, fresh, no_slot, slots_at}
use Rattle.machine.specs.Calls.{checked_at}
use Rattle.machine.specs.States.{Waiting, Leak}
use Rattle.machine.specs.Owners.{no_value}
use Rattle.soundness.specs.OwnedWays.Ways.{Step, OfHand, Loc, OfRoot, Held}
use Rattle.soundness.specs.PartOffsets.Parts.{type_in, offset_in, has_part, is_leaf}
use Rattle.soundness.specs.Seen.{Content, in_hand, word_in, trunk, steps_in}

-- The words that own stand at the same places in both types. (Types with one definition are alike,
-- and so are types that own nothing.)
pub record Alike (table : Table) (t u : ℕ) : Type 0 where
  pub leaf : (p : List Step) → is_leaf table t p ≡ is_leaf table u p
  pub at : (p : List Step) → is_leaf table t p ≡ true → offset_in table t p ≡ offset_in table u p

-- Other slots stand at an offset.
pub record Put (c d : Content) (at : ℕ) (slots : List Slot) : Type 0 where
  pub of : d.of ≡ c.of
  pub owns : d.owns ≡ c.owns
  pub outside : (o : ℕ) → (o < at) ⊎ (at + length slots ≤ o) → get_or d.slots o no_slot ≡ get_or c.slots o no_slot
  pub inside : (i : ℕ) → i < length slots → get_or d.slots (at + i) no_slot ≡ get_or slots i no_slot

-- What failed of the leak checks of a place, part by part.
abbrev pub leaks_at : Typing → Pos → Memory → Place → List Leak
leaks_at s p m k = checked_at p k.at (slots_at s m k.base) (access_offsets s.table k.of)

abbrev pub is_leaked : List Leak → ℕ → Bool
is_leaked leaks n = list_any (λ (leak : Leak). leak.number == n) leaks

-- The leak checks of a place fail for just the numbers that it owns.
pub record Checks (table : Table) (c : Content) (q : List Step) (leaks leaks' : List Leak) : Type 0 where
  pub keeps : (n : ℕ) → is_leaked leaks n ≡ true → is_leaked leaks' n ≡ true
  pub checks : (p : List Step) (n : ℕ) → word_in table c (p ++ q) ≡ Held n → is_leaked leaks' n ≡ true
  pub only : (n : ℕ) → is_leaked leaks' n ≡ true → (is_leaked leaks n ≡ true) ⊎ ((p : List Step) × (word_in table c (p ++ q) ≡ Held n))

abbrev pub hand : ℕ → Loc
hand h = OfRoot (OfHand h)

-- A value goes from a hand to a place.
pub record Stores (table : Table) (a b : Loc → Content) (h : ℕ) (v : Waiting) (to : Loc) : Type 0 where
  pub before : a (hand h) ≡ in_hand v
  pub behind : b (hand h) ≡ in_hand no_value
  pub other : (k : Loc) → trunk k ≡ k → (k ≡ trunk to → ⊥) → (k ≡ hand h → ⊥) → b k ≡ a k
  pub put : Put (a (trunk to)) (b (trunk to)) (offset_in table (a (trunk to)).of (steps_in to)) (fresh v.words)
  pub there : has_part table (a (trunk to)).of (steps_in to) ≡ true
  pub owns : (a (trunk to)).owns ≡ true
  pub fits : length v.words ≡ words table (type_in table (a (trunk to)).of (steps_in to))
  pub alike : Alike table v.of (type_in table (a (trunk to)).of (steps_in to))
  pub apart : trunk to ≡ hand h → ⊥

-- What a place has goes to a hand that had nothing, and the words of the place that own are gone.
pub record Takes (table : Table) (a b : Loc → Content) (h : ℕ) (v : Waiting) (from : Loc) : Type 0 where
  pub before : a (hand h) ≡ in_hand no_value
  pub behind : b (hand h) ≡ in_hand v
  pub other : (k : Loc) → trunk k ≡ k → (k ≡ trunk from → ⊥) → (k ≡ hand h → ⊥) → b k ≡ a k
  pub of : (b (trunk from)).of ≡ (a (trunk from)).of
  pub owns : (b (trunk from)).owns ≡ (a (trunk from)).owns
  pub there : has_part table (a (trunk from)).of (steps_in from) ≡ true
  pub live : (a (trunk from)).owns ≡ true
  pub outside : (p : List Step) → is_leaf table (a (trunk from)).of p ≡ true → ((r : List Step) → p ≡ r ++ steps_in from → ⊥)
      → get_or (b (trunk from)).slots (offset_in table (a (trunk from)).of p) no_slot
      ≡ get_or (a (trunk from)).slots (offset_in table (a (trunk from)).of p) no_slot
  pub goes : (p : List Step) → is_leaf table (a (trunk from)).of (p ++ steps_in from) ≡ true
      → (get_or (b (trunk from)).slots (offset_in table (a (trunk from)).of (p ++ steps_in from)) no_slot).gone ≡ true
  pub was : (p : List Step) → is_leaf table (a (trunk from)).of (p ++ steps_in from) ≡ true
      → (get_or (a (trunk from)).slots (offset_in table (a (trunk from)).of (p ++ steps_in from)) no_slot).gone ≡ false
  pub comes : (p : List Step) → is_leaf table (a (trunk from)).of (p ++ steps_in from) ≡ true
      → get_or (fresh v.words) (offset_in table (type_in table (a (trunk from)).of (steps_in from)) p) no_slot
      ≡ record { word = (get_or (a (trunk from)).slots (offset_in table (a (trunk from)).of (p ++ steps_in from)) no_slot).word; gone = false }
  pub alike : Alike table v.of (type_in table (a (trunk from)).of (steps_in from))
  pub apart : trunk from ≡ hand h → ⊥
