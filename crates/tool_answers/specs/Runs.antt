-- The run that a command makes, if it makes one (docs/TOOL.md, "Order of work").
use Rattle.std.specs.Prelude.{◌≡◌, ℕ, Bool, false, List, [], Option, None, Some, is_some, if◌then◌else◌}
use Rattle.spark_base.specs.declared.limits.TheConstants.{SOURCE_BYTES, STEPS}
use Rattle.command_words.specs.Words.{Command, Run, Selftest}
use Rattle.self_test.specs.run_command.Stores.{Running, run_made}
use Rattle.tool_answers.specs.Commands.{uses_store}
use Rattle.tool_answers.specs.Reading.{sources}
use Rattle.tool_answers.specs.Product.{Finding, Ends, Rejects, Passes, Checks, made_names, made_source}

-- That of the program that is found.
abbrev pub run_found : ℕ → List ℕ → Finding → Option Running
run_found budget input (Ends answer) = None
run_found budget input (Rejects main lines) = None
run_found budget input (Passes program) = if is_some program.main then run_made program input budget else None

-- The run that is made for a command, over the files of a store and an input.
pub data Makes (stored : List (List ℕ × List ℕ)) (input : List ℕ) : Option Command → Option Running → Type 0 where
  -- run FILE..
  run : (names : List (List ℕ)) (budget : ℕ) (stats : Bool) (finding : Finding) → Checks names (sources stored 0 SOURCE_BYTES names) finding
      → Makes stored input (Some (Run names budget stats)) (run_found budget input finding)
  -- selftest N
  selftest : (n : ℕ) (finding : Finding) → Checks made_names (made_source n) finding → Makes stored input (Some (Selftest n)) (run_found STEPS [] finding)
  -- every other command, and words that give none
  none : (command : Option Command) → uses_store command ≡ false → Makes stored input command None
