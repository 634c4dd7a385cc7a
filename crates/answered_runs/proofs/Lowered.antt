-- What `check` accepts is lowered; so is what `run` runs, and it passes the tests before a run.
use Rattle.std.proofs.Common.{◌≡◌, ℕ, Bool, List, Option, Some, None, refl, subst}
use Rattle.spark_base.specs.declared.limits.TheConstants.{SOURCE_BYTES}
use Rattle.laid_program.specs.declared.laid.Laid.{Laid}
use Rattle.laid_program.specs.Programs.{program_of}
use Rattle.program_check.specs.Sources.{flow_of}
use Rattle.run_codes.specs.Programs.{lowered_program}
use Rattle.command_words.specs.Words.{Command, Check, Run, Leaks, Make, Selftest}
use Rattle.tool_answers.specs.run_command.Answers.{Answer}
use Rattle.tool_answers.specs.Commands.{command_of}
use Rattle.tool_answers.specs.Reading.{Sources, sources}
use Rattle.tool_answers.specs.Product.{Finding, Passes as Found, Checks, Answers, Product, usage, check, run, leaks, make, selftest}
use Rattle.accepted_runs.specs.AcceptedLowered.Runs.{IsRunnable}
use Rattle.accepted_runs.proofs.AcceptedLowered.Main.{passed_lowered}
use Rattle.accepted_runs.proofs.AcceptedLowered.Runnable.{passed_runnable}
use Rattle.answered_runs.specs.Runs.{RunsOn}
use Rattle.answered_runs.proofs.Passing.{Passed, IsOf, product_passed, found_passed}

-- If the tool answers a check with status 0, the named files are there, their texts pass, and their
-- program is lowered.
pub accepted_lowered : (stored : List (List ℕ × List ℕ)) (input : List ℕ) (words names : List (List ℕ)) (answer : Answer)
    → command_of words ≡ Some (Check names) → Product stored input words answer → answer.status ≡ 0
    → (is : Passed (sources stored 0 SOURCE_BYTES names)) × (lowered_program (flow_of is.trees) ≡ None → ⊥)
accepted_lowered stored input words names answer command product zero =
    let is : Passed (sources stored 0 SOURCE_BYTES names) = product_passed stored input words names answer command product zero in
    (is, passed_lowered is.texts is.trees is.effects is.passes)

-- ---- what `run` runs

-- However a program of which nothing is reported is laid out in rows, it can be run.
pub found_runnable : (names : List (List ℕ)) (found : Sources) (finding : Finding) → Checks names found finding → (laid : Laid) → finding ≡ Found (program_of laid)
    → IsRunnable laid
found_runnable names found finding checks laid e =
    let is : IsOf found (program_of laid) = found_passed names found finding checks (program_of laid) e in
    passed_runnable is.0.texts is.0.trees is.0.effects is.0.passes laid is.1

-- ---- what `run` answers

abbrev RunsIf : List (List ℕ × List ℕ) → List ℕ → Option Command → Answer → Type 0
RunsIf stored input (Some (Run names budget stats)) answer = RunsOn stored input names budget stats answer
RunsIf stored input (Some (Check names)) answer = Unit {0}
RunsIf stored input (Some (Leaks names)) answer = Unit {0}
RunsIf stored input (Some (Make n)) answer = Unit {0}
RunsIf stored input (Some (Selftest n)) answer = Unit {0}
RunsIf stored input None answer = Unit {0}

answers_on : (stored : List (List ℕ × List ℕ)) (input : List ℕ) (command : Option Command) (answer : Answer) → Answers stored input command answer
    → RunsIf stored input command answer
answers_on stored input _ _ usage = tt
answers_on stored input _ _ (check names finding checks) = tt
answers_on stored input _ _ (run names budget stats finding checks untrapped) = record { finding = finding; checks = checks; answered = refl }
answers_on stored input _ _ (leaks names finding answer checks lists) = tt
answers_on stored input _ _ (make n) = tt
answers_on stored input _ _ (selftest n finding checks) = tt

-- What `run` answers rests on what is found of the files: a program of which nothing is reported can be run.
pub run_runnable : (stored : List (List ℕ × List ℕ)) (input : List ℕ) (words names : List (List ℕ)) (budget : ℕ) (stats : Bool) (answer : Answer)
    → command_of words ≡ Some (Run names budget stats) → Product stored input words answer
    → (on : RunsOn stored input names budget stats answer) × ((laid : Laid) → on.finding ≡ Found (program_of laid) → IsRunnable laid)
run_runnable stored input words names budget stats answer command product =
    let on : RunsOn stored input names budget stats answer = subst (λ (c : Option Command). RunsIf stored input c answer) command (answers_on stored input (command_of words) answer product) in
    (on, found_runnable names (sources stored 0 SOURCE_BYTES names) on.finding on.checks)
