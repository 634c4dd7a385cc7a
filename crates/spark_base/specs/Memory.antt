-- The outside in memory (docs/TOOL.md, "The outside").
use Rattle.std.specs.Prelude.{◌≡◌, ℕ, ◌+◌, ◌-◌, ◌^◌, min, Bool, false, if◌then◌else◌, ◌==◌, nat_lt, List, Option, None, Some}
use Rattle.std.specs.List.{list_any}
use Rattle.spark_base.specs.declared.memory.FaultPlan.{FaultPlan}

-- The number of a call fits 64 bits, or no list has it.
abbrev pub number_after : Option ℕ → Option ℕ
number_after None = None
number_after (Some number) = if nat_lt number (2 ^ 64 - 1) then Some (number + 1) else None

abbrev pub is_listed : List ℕ → Option ℕ → Bool
is_listed fails None = false
is_listed fails (Some number) = list_any (λ listed. listed == number) fails

-- Whether the next call fails: its number is in the list.
abbrev pub fails_now : FaultPlan → Bool
fails_now plan = is_listed plan.fails.items plan.next

-- No call was made yet.
pub record IsFresh (plan : FaultPlan) (fails : List ℕ) : Type 0 where
  pub list : plan.fails.items ≡ fails
  pub number : plan.next ≡ Some 0
  pub count : plan.faults ≡ 0

-- One call was made.
pub record Counts (old new : FaultPlan) : Type 0 where
  pub list : new.fails.items ≡ old.fails.items
  pub number : new.next ≡ number_after old.next
  pub count : new.faults ≡ (if fails_now old then min (old.faults + 1) (2 ^ 64 - 1) else old.faults)
