-- What a run of an accepted program writes and answers (docs/TOOL.md, "Order of work").
use Rattle.std.specs.Prelude.{ℕ, Bool, List, [], ◌∷◌, ◌++◌, length, nat_le, codes, if◌then◌else◌}
use Rattle.spark_base.specs.declared.limits.TheConstants.{INPUT_BYTES}
use Rattle.spark_base.specs.Lists.{Has}
use Rattle.flow_paths.specs.Laid.{FlowProgram}
use Rattle.machine.specs.Run.{Run, run}
use Rattle.run_results.specs.Lines.{leak_lines}
use Rattle.run_command.specs.Answers.{Answer}
use Rattle.run_command.specs.Counts.{stats_line}
use Rattle.run_command.specs.Endings.{ending_line, ending_status}

-- What comes after the lines of leaks: that of the ending, and that of the counts where it is asked for.
abbrev pub last_lines : List (List ℕ) → ℕ → Bool → Run → List ℕ
last_lines files budget stats r = ending_line files budget r.ending ++ stats_line stats r

-- The output; and the lines of failed leak checks, followed by these.
abbrev pub told : List (List ℕ) → ℕ → Bool → Run → Answer
told files budget stats r = record {
  out = r.output;
  err = leak_lines files r.leaks ++ last_lines files budget stats r;
  status = ending_status r.leaked r.ending;
}

abbrev pub too_large_line : List ℕ
too_large_line = codes "input too large" ++ 10 ∷ []

-- The input is larger than it may be, and nothing is run.
abbrev pub too_large : Answer
too_large = record { out = []; err = too_large_line; status = 10 }

-- A run on all of the input.
abbrev pub run_answer : List (List ℕ) → FlowProgram → List ℕ → ℕ → Bool → Answer
run_answer files program input budget stats =
    if nat_le (length input) INPUT_BYTES then told files budget stats (run program input budget) else too_large

-- The statuses of a run that ended.
abbrev pub IsEnded : ℕ → Type 0
IsEnded status = Has (0 ∷ 3 ∷ 4 ∷ 5 ∷ []) status
