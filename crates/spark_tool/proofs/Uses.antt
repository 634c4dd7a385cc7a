-- The commands that a store is used for.
use Rattle.std.proofs.Common.{◌≡◌, refl, true, false, Option, None, Some}
use Rattle.command_words.specs.Words.{Command, Check, Run, Leaks, Make, Selftest}
use Rattle.answered_runs.specs.tool_answers.Commands.{runs, uses_store}

-- it is for one that runs a program on the input
pub run_uses : (command : Option Command) → runs command ≡ true → uses_store command ≡ true
run_uses None is = absurd (cc)
run_uses (Some (Check names)) is = absurd (cc)
run_uses (Some (Run names budget stats)) is = refl
run_uses (Some (Leaks names)) is = absurd (cc)
run_uses (Some (Make n)) is = absurd (cc)
run_uses (Some (Selftest n)) is = absurd (cc)

pub not_run : (command : Option Command) → runs command ≡ true → runs command ≡ false → ⊥
not_run command is other = cc

pub not_used : (command : Option Command) → uses_store command ≡ true → uses_store command ≡ false → ⊥
not_used command is other = cc
