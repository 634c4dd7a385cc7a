-- The runs of what `check` accepts give the same over a heap that uses its slots again.
use Rattle.std.proofs.Common.{◌≡◌, ℕ, List, Some}
use Rattle.spark_base.specs.declared.limits.TheConstants.{SOURCE_BYTES}
use Rattle.laid_program.specs.declared.laid.Laid.{Laid}
use Rattle.laid_program.specs.Programs.{program_of as laid_out}
use Rattle.program_check.specs.Sources.{flow_of}
use Rattle.command_words.specs.Words.{Check}
use Rattle.tool_answers.specs.run_command.Answers.{Answer}
use Rattle.tool_answers.specs.Commands.{command_of}
use Rattle.tool_answers.specs.Reading.{sources}
use Rattle.tool_answers.specs.Product.{Product}
use Rattle.accepted_runs.specs.Mains.{HasMain}
use Rattle.accepted_runs.specs.AcceptedRecycled.Runs.{RunsAreRecycled}
use Rattle.accepted_runs.proofs.AcceptedRecycled.Main.{passed_recycled}
use Rattle.answered_runs.proofs.Passing.{Passed, product_passed}

-- If the tool answers a check with status 0, and the program has a main procedure, its runs give the same.
pub accepted_recycled : (stored : List (List ℕ × List ℕ)) (input : List ℕ) (words names : List (List ℕ)) (answer : Answer)
    → command_of words ≡ Some (Check names) → Product stored input words answer → answer.status ≡ 0
    → (is : Passed (sources stored 0 SOURCE_BYTES names)) × (HasMain is.trees → (laid : Laid) → flow_of is.trees ≡ laid_out laid → RunsAreRecycled (flow_of is.trees))
accepted_recycled stored input words names answer command product zero =
    let is : Passed (sources stored 0 SOURCE_BYTES names) = product_passed stored input words names answer command product zero in
    (is, passed_recycled is.texts is.trees is.effects is.passes)
