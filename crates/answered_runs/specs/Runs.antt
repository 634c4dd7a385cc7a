-- What `run` rests on.
use Rattle.std.specs.Prelude.{◌≡◌, ℕ, Bool, List}
use Rattle.spark_base.specs.declared.limits.TheConstants.{SOURCE_BYTES}
use Rattle.tool_answers.specs.run_command.Answers.{Answer}
use Rattle.tool_answers.specs.Reading.{sources}
use Rattle.tool_answers.specs.Product.{Finding, Checks, run_answer_of}

-- What is found of the named files gives the answer to `run`.
pub record RunsOn (stored : List (List ℕ × List ℕ)) (input : List ℕ) (names : List (List ℕ)) (budget : ℕ) (stats : Bool) (answer : Answer) : Type 0 where
  pub finding : Finding
  pub checks : Checks names (sources stored 0 SOURCE_BYTES names) finding
  pub answered : answer ≡ run_answer_of names budget stats input finding
