-- What is said of the run of what `run` is given.
use Rattle.std.specs.Prelude.{◌≡◌, ℕ, Bool, true, List, Some, is_some}
use Rattle.spark_base.specs.declared.limits.TheConstants.{SOURCE_BYTES}
use Rattle.flow_paths.specs.Laid.{FlowProgram}
use Rattle.command_words.specs.Words.{Run}
use Rattle.tool_answers.specs.Commands.{command_of}
use Rattle.tool_answers.specs.Reading.{sources}
use Rattle.tool_answers.specs.Product.{Checks, Passes as Found}
use Rattle.accepted_runs.specs.Headline.{IsSoundRun}

-- The program that `run` is given runs soundly: that of the named files, where nothing is reported of it and it has a main
-- procedure.
abbrev pub IsRunSoundly : List (List ℕ × List ℕ) → List ℕ → List (List ℕ) → Type 0
IsRunSoundly stored input words =
    (names : List (List ℕ)) (budget : ℕ) (stats : Bool) (program : FlowProgram) → command_of words ≡ Some (Run names budget stats)
    → Checks names (sources stored 0 SOURCE_BYTES names) (Found program) → is_some program.main ≡ true → IsSoundRun program input
