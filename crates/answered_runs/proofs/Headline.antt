-- The program that `run` is given runs soundly.
use Rattle.std.proofs.Common.{◌≡◌, ℕ, true, List, refl, subst, is_some}
use Rattle.spark_base.specs.declared.limits.TheConstants.{SOURCE_BYTES}
use Rattle.flow_paths.specs.Laid.{FlowProgram}
use Rattle.tool_answers.specs.Reading.{Sources, sources}
use Rattle.tool_answers.specs.Product.{Finding, Ends, Rejects, Passes as Found, Checks, IsUntrapped}
use Rattle.accepted_runs.specs.Headline.{IsSoundRun}
use Rattle.accepted_runs.proofs.Headline.{passed_run}
use Rattle.accepted_runs.proofs.Endings.{sound_untrapped}
use Rattle.accepted_runs.proofs.Kept.{has_main}
use Rattle.answered_runs.specs.Headline.{IsRunSoundly}
use Rattle.answered_runs.proofs.Passing.{IsOf, found_passed}

-- A program that is found, where nothing is reported of it.
found_soundly : (names : List (List ℕ)) (found : Sources) (input : List ℕ) (program : FlowProgram) → Checks names found (Found program)
    → is_some program.main ≡ true → IsSoundRun program input
found_soundly names found input program checks some =
    let of : IsOf found program = found_passed names found (Found program) checks program refl in
    subst (λ (p : FlowProgram). IsSoundRun p input) of.1
    (passed_run of.0.texts of.0.trees of.0.effects of.0.passes (has_main program of.0.trees of.1 some) input)

pub run_soundly : (stored : List (List ℕ × List ℕ)) (input : List ℕ) (words : List (List ℕ)) → IsRunSoundly stored input words
run_soundly stored input words names budget stats program command checks =
    found_soundly names (sources stored 0 SOURCE_BYTES names) input program checks

-- So its run doesn't end in a trap.
pub found_untrapped : (names : List (List ℕ)) (found : Sources) (budget : ℕ) (input : List ℕ) (finding : Finding) → Checks names found finding
    → IsUntrapped budget input finding
found_untrapped names found budget input (Ends answer) checks = tt
found_untrapped names found budget input (Rejects main lines) checks = tt
found_untrapped names found budget input (Found program) checks =
    λ some. sound_untrapped program input budget (found_soundly names found input program checks some)
