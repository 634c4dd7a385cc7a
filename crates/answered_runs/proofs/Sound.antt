-- The runs of programs that `check` accepts are sound, no leak check fails in them that the leak plan excuses, and with null
-- in moved places they give the same.
use Rattle.std.proofs.Common.{◌≡◌, ℕ, List, Some}
use Rattle.spark_base.specs.declared.limits.TheConstants.{SOURCE_BYTES}
use Rattle.command_words.specs.Words.{Check}
use Rattle.tool_answers.specs.run_command.Answers.{Answer}
use Rattle.tool_answers.specs.Commands.{command_of}
use Rattle.tool_answers.specs.Reading.{sources}
use Rattle.tool_answers.specs.Product.{Product}
use Rattle.accepted_runs.specs.Mains.{HasMain}
use Rattle.accepted_runs.proofs.Runs.{RunsAreSound, RunsHold, RunsAreWithNull}
use Rattle.accepted_runs.proofs.Views.{passed_sound}
use Rattle.accepted_runs.proofs.ViewFacts.{passed_hold}
use Rattle.accepted_runs.proofs.ViewNulls.{passed_with_null}
use Rattle.answered_runs.proofs.Passing.{Passed, product_passed}

-- If the tool answers a check with status 0, and the program has a main procedure, its runs are sound.
pub accepted_sound : (stored : List (List ℕ × List ℕ)) (input : List ℕ) (words names : List (List ℕ)) (answer : Answer)
    → command_of words ≡ Some (Check names) → Product stored input words answer → answer.status ≡ 0
    → (is : Passed (sources stored 0 SOURCE_BYTES names)) × (HasMain is.trees → RunsAreSound is.trees)
accepted_sound stored input words names answer command product zero =
    let is : Passed (sources stored 0 SOURCE_BYTES names) = product_passed stored input words names answer command product zero in
    (is, passed_sound is.texts is.trees is.effects is.passes)

-- If the tool answers a check with status 0, and the program has a main procedure, no leak check fails in its runs that is
-- excused.
pub accepted_hold : (stored : List (List ℕ × List ℕ)) (input : List ℕ) (words names : List (List ℕ)) (answer : Answer)
    → command_of words ≡ Some (Check names) → Product stored input words answer → answer.status ≡ 0
    → (is : Passed (sources stored 0 SOURCE_BYTES names)) × (HasMain is.trees → RunsHold is.trees is.effects)
accepted_hold stored input words names answer command product zero =
    let is : Passed (sources stored 0 SOURCE_BYTES names) = product_passed stored input words names answer command product zero in
    (is, passed_hold is.texts is.trees is.effects is.passes)

-- If the tool answers a check with status 0, and the program has a main procedure, its runs give the same
-- with null in moved places.
pub accepted_with_null : (stored : List (List ℕ × List ℕ)) (input : List ℕ) (words names : List (List ℕ)) (answer : Answer)
    → command_of words ≡ Some (Check names) → Product stored input words answer → answer.status ≡ 0
    → (is : Passed (sources stored 0 SOURCE_BYTES names)) × (HasMain is.trees → RunsAreWithNull is.trees)
accepted_with_null stored input words names answer command product zero =
    let is : Passed (sources stored 0 SOURCE_BYTES names) = product_passed stored input words names answer command product zero in
    (is, passed_with_null is.texts is.trees is.effects is.passes)
