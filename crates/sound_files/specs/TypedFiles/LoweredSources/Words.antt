-- Positions that are words.
use Rattle.std.specs.Prelude.{◌≤◌, ℕ, List}
use Rattle.machine.specs.spark_base.Lists.{Has}
use Rattle.run_codes.specs.Lowered.{max_position}

abbrev pub IsWord : ℕ → Type 0
IsWord n = n ≤ max_position

abbrev pub AreWords : List ℕ → Type 0
AreWords ns = (n : ℕ) → Has ns n → IsWord n
