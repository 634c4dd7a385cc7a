-- One run is made for the words and the files, or none is.
use Rattle.std.proofs.Common.{◌≡◌, ◌∙◌, refl, sym, ap, ℕ, false, List, [], Option, None, Some}
use Rattle.spark_base.specs.declared.limits.TheConstants.{SOURCE_BYTES, STEPS}
use Rattle.command_words.specs.Words.{Command, Check, Run, Leaks, Make, Selftest}
use Rattle.answered_runs.specs.run_command.Stores.{Running}
use Rattle.answered_runs.specs.tool_answers.Commands.{command_of, uses_store}
use Rattle.answered_runs.specs.tool_answers.Reading.{Sources, sources}
use Rattle.answered_runs.specs.tool_answers.Product.{Finding, Checks, made_names, made_source}
use Rattle.answered_runs.specs.tool_answers.Runs as runs_made
use Rattle.answered_runs.specs.tool_answers.Runs.{Makes, run_found}
use Rattle.spark_tool.proofs.OneAnswer.{checks_once}

abbrev RunOf : List (List ℕ × List ℕ) → List ℕ → Option Command → Option Running → Type 0
RunOf stored input (Some (Run names budget stats)) ran =
    (found : Finding) × Checks names (sources stored 0 SOURCE_BYTES names) found × (ran ≡ run_found budget input found)
RunOf stored input (Some (Selftest n)) ran = (found : Finding) × Checks made_names (made_source n) found × (ran ≡ run_found STEPS [] found)
RunOf stored input None ran = ran ≡ None
RunOf stored input (Some (Check names)) ran = ran ≡ None
RunOf stored input (Some (Leaks names)) ran = ran ≡ None
RunOf stored input (Some (Make n)) ran = ran ≡ None

no_run : (stored : List (List ℕ × List ℕ)) (input : List ℕ) (command : Option Command) → uses_store command ≡ false → RunOf stored input command None
no_run stored input None idle = refl
no_run stored input (Some (Check names)) idle = refl
no_run stored input (Some (Run names budget stats)) idle = cc
no_run stored input (Some (Leaks names)) idle = refl
no_run stored input (Some (Make n)) idle = refl
no_run stored input (Some (Selftest n)) idle = cc

run_of : (stored : List (List ℕ × List ℕ)) (input : List ℕ) (command : Option Command) (ran : Option Running) → Makes stored input command ran
    → RunOf stored input command ran
run_of stored input _ _ (runs_made.run names budget stats found checks) = (found, checks, refl)
run_of stored input _ _ (runs_made.selftest n found checks) = (found, checks, refl)
run_of stored input _ _ (runs_made.none command idle) = no_run stored input command idle

found_once : (names : List (List ℕ)) (found : Sources) (f : Finding → Option Running) (a b : Option Running)
    → (x : Finding) × Checks names found x × (a ≡ f x) → (x : Finding) × Checks names found x × (b ≡ f x) → a ≡ b
found_once names found f a b one two = one.2 ∙ ap f (checks_once names found one.0 two.0 one.1 two.1) ∙ sym two.2

run_once : (stored : List (List ℕ × List ℕ)) (input : List ℕ) (command : Option Command) (a b : Option Running) → RunOf stored input command a
    → RunOf stored input command b → a ≡ b
run_once stored input None a b one two = one ∙ sym two
run_once stored input (Some (Check names)) a b one two = one ∙ sym two
run_once stored input (Some (Run names budget stats)) a b one two =
    found_once names (sources stored 0 SOURCE_BYTES names) (run_found budget input) a b one two
run_once stored input (Some (Leaks names)) a b one two = one ∙ sym two
run_once stored input (Some (Make n)) a b one two = one ∙ sym two
run_once stored input (Some (Selftest n)) a b one two = found_once made_names (made_source n) (run_found STEPS []) a b one two

pub one_run : (stored : List (List ℕ × List ℕ)) (input : List ℕ) (words : List (List ℕ)) (a b : Option Running) → Makes stored input (command_of words) a
    → Makes stored input (command_of words) b → a ≡ b
one_run stored input words a b one two =
    run_once stored input (command_of words) a b (run_of stored input (command_of words) a one) (run_of stored input (command_of words) b two)
