-- What a command gives to the store, and what it does.
use Rattle.std.proofs.Common.{◌≡◌, ◌⊎◌, ◌∙◌, inl, inr, refl, ℕ, Bool, false, ap, subst, sym, List, [], All, Option, None, Some, Result, Ok, Err, IfSome, IfOk, IsSomeAnd}
use Rattle.spark_base.specs.declared.limits.TheConstants.{SOURCE_BYTES, STEPS}
use Rattle.spark_base.specs.Lists.{Has}
use Rattle.spark_base.proofs.Lists.{All-has_itself}
use Rattle.flow_paths.specs.declared.report.Effects.{Effects}
use Rattle.flow_paths.specs.declared.report.LeakLine.{LeakLine}
use Rattle.flow_paths.specs.Laid.{FlowProgram}
use Rattle.leak_checks.specs.Plan.{LeakPlan}
use Rattle.program_check.specs.Sources.{printed_in}
use Rattle.rule_reports.specs.Lines.{leak_plan_lines}
use Rattle.command_words.specs.Words.{Command, Check, Run, Leaks, Make, Selftest, Fits}
use Rattle.answered_runs.specs.run_command.Answers.{Answer}
use Rattle.answered_runs.specs.run_command.Stores.{Running}
use Rattle.spark_tool.specs.declared.finding.Outcome.{Outcome}
use Rattle.spark_tool.specs.declared.finding.Outcome.TheVariants as outcome
use Rattle.spark_tool.specs.declared.stop.Stop.{Stop}
use Rattle.spark_tool.specs.Answers.{answer_for, run_for}
use Rattle.answered_runs.specs.tool_answers.Product.{Finding, Ends, Passes, Lists, ends, planned, listed, Answers, usage, check, check_answer, leaks, run, run_answer_of, make, made, Checks, missing, misused, unread, fixed_answer, selftest, made_names, made_source, test_answer}
use Rattle.answered_runs.specs.tool_answers.Reading.{Sources, Missing, sources}
use Rattle.answered_runs.specs.tool_answers.Commands.{runs, uses_store}
use Rattle.answered_runs.specs.tool_answers.Runs as runs_made
use Rattle.answered_runs.specs.tool_answers.Runs.{Makes, run_found}
use Rattle.answered_runs.proofs.Headline.{found_untrapped}
use Rattle.spark_tool.specs.Refusals.{Gives, IsFor, MakesFor}
use Rattle.spark_tool.proofs.Uses.{run_uses, not_used}

-- each file of a command is an operand, and may be opened
pub may_be_opened : (operands names : List (List ℕ)) → names ≡ operands → All (Has operands) names
may_be_opened operands names same = subst (λ (words : List (List ℕ)). All (Has words) names) same (All-has_itself names)

pub fits_check : (operands names : List (List ℕ)) (command : Command) → command ≡ Check names → Fits operands command → names ≡ operands
fits_check operands names command is fits = (subst (Fits operands) is fits).0

pub fits_leaks : (operands names : List (List ℕ)) (command : Command) → command ≡ Leaks names → Fits operands command → names ≡ operands
fits_leaks operands names command is fits = (subst (Fits operands) is fits).0

pub fits_run : (operands names : List (List ℕ)) (budget : ℕ) (stats : Bool) (command : Command) → command ≡ Run names budget stats → Fits operands command
    → names ≡ operands
fits_run operands names budget stats command is fits = (subst (Fits operands) is fits).0

-- what is found of files, by what was read
pub gathered_checks : (stored : Option (List (List ℕ × List ℕ))) (names : List (List ℕ)) (found : Sources) (finding : Finding)
    → IfSome stored (λ files. sources files 0 SOURCE_BYTES names ≡ found) → Checks names found finding
    → IfSome stored (λ files. Checks names (sources files 0 SOURCE_BYTES names) finding)
gathered_checks None names found finding is checks = tt
gathered_checks (Some files) names found finding is checks = subst (λ (s : Sources). Checks names s finding) (sym is) checks

-- ---- what a command does, by what is found of its files

pub check_gives : (stored : Option (List (List ℕ × List ℕ))) (names : List (List ℕ)) (finding : Finding) (done : Outcome)
    → IfSome stored (λ files. Checks names (sources files 0 SOURCE_BYTES names) finding)
    → ((input : List ℕ) → answer_for input done ≡ check_answer finding) → IfSome stored (λ files. Gives files (Some (Check names)) done)
check_gives None names finding done checks is = tt
check_gives (Some files) names finding done checks is =
    λ input. subst (λ (a : Answer). Answers files input (Some (Check names)) a) (sym (is input)) (check names finding checks)

pub run_gives : (stored : Option (List (List ℕ × List ℕ))) (names : List (List ℕ)) (budget : ℕ) (stats : Bool) (finding : Finding) (done : Outcome)
    → IfSome stored (λ files. Checks names (sources files 0 SOURCE_BYTES names) finding)
    → ((input : List ℕ) → answer_for input done ≡ run_answer_of names budget stats input finding)
    → IfSome stored (λ files. Gives files (Some (Run names budget stats)) done)
run_gives None names budget stats finding done checks is = tt
run_gives (Some files) names budget stats finding done checks is =
    λ input. subst (λ (a : Answer). Answers files input (Some (Run names budget stats)) a) (sym (is input))
    (run names budget stats finding checks (found_untrapped names (sources files 0 SOURCE_BYTES names) budget input finding checks))

pub list_gives : (stored : Option (List (List ℕ × List ℕ))) (names : List (List ℕ)) (finding : Finding) (done : Outcome)
    → IfSome stored (λ files. Checks names (sources files 0 SOURCE_BYTES names) finding)
    → ((input : List ℕ) → Lists names finding (answer_for input done)) → IfSome stored (λ files. Gives files (Some (Leaks names)) done)
list_gives None names finding done checks lists = tt
list_gives (Some files) names finding done checks lists = λ input. leaks names finding (answer_for input done) checks (lists input)

-- the lines of the plan of a program that passes
pub plan_lists : (names : List (List ℕ)) (program : FlowProgram) (lines : List ℕ) (answer : Answer)
    → (plan : List LeakLine) × ((effects : Effects) → LeakPlan program effects plan) × (lines ≡ leak_plan_lines names (printed_in program) plan)
    → answer ≡ listed lines → Lists names (Passes program) answer
plan_lists names program lines answer of is =
    subst (λ (a : Answer). Lists names (Passes program) a) (sym (is ∙ ap listed of.2)) (planned program of.0 of.1)

-- the same of a command that is this one
pub gives_as : (stored : Option (List (List ℕ × List ℕ))) (command other : Option Command) (result : Result Outcome Stop) → command ≡ other
    → IfOk result (λ done. IfSome stored (λ files. Gives files other done)) → IfOk result (λ done. IfSome stored (λ files. Gives files command done))
gives_as stored command other result same gives =
    subst (λ (c : Option Command). IfOk result (λ done. IfSome stored (λ files. Gives files c done))) (sym same) gives

pub only_as : (command : Option Command) (result : Result Outcome Stop) → runs command ≡ false
    → IfOk result (λ done. (c : Option Command) → runs c ≡ false → IsFor c done) → IfOk result (IsFor command)
only_as command (Ok done) idle only = only command idle
only_as command (Err stop) idle only = tt

-- ---- where a named file isn't there

check_unread : (stored : Option (List (List ℕ × List ℕ))) (command : Option Command) (names : List (List ℕ)) → command ≡ Some (Check names)
    → IsSomeAnd stored (λ files. sources files 0 SOURCE_BYTES names ≡ Missing) → IsSomeAnd stored (λ files. (input : List ℕ) → Answers files input command unread)
check_unread None command names same gone = absurd gone
check_unread (Some files) command names same gone =
    λ input. subst (λ (c : Option Command). Answers files input c unread) (sym same)
    (check names (Ends unread) (subst (λ (s : Sources). Checks names s (Ends unread)) (sym gone) missing))

run_unread : (stored : Option (List (List ℕ × List ℕ))) (command : Option Command) (names : List (List ℕ)) (budget : ℕ) (stats : Bool)
    → command ≡ Some (Run names budget stats) → IsSomeAnd stored (λ files. sources files 0 SOURCE_BYTES names ≡ Missing)
    → IsSomeAnd stored (λ files. (input : List ℕ) → Answers files input command unread)
run_unread None command names budget stats same gone = absurd gone
run_unread (Some files) command names budget stats same gone =
    λ input. subst (λ (c : Option Command). Answers files input c unread) (sym same)
    (run names budget stats (Ends unread) (subst (λ (s : Sources). Checks names s (Ends unread)) (sym gone) missing) tt)

pub check_fault : {Rose : Type 0} (stored : Option (List (List ℕ × List ℕ))) (command : Option Command) (names : List (List ℕ)) → command ≡ Some (Check names)
    → Rose ⊎ IsSomeAnd stored (λ files. sources files 0 SOURCE_BYTES names ≡ Missing)
    → Rose ⊎ IsSomeAnd stored (λ files. (input : List ℕ) → Answers files input command unread)
check_fault stored command names same found = elim found [ inl rose ↦ inl rose | inr gone ↦ inr (check_unread stored command names same gone) ]

leaks_unread : (stored : Option (List (List ℕ × List ℕ))) (command : Option Command) (names : List (List ℕ)) → command ≡ Some (Leaks names)
    → IsSomeAnd stored (λ files. sources files 0 SOURCE_BYTES names ≡ Missing) → IsSomeAnd stored (λ files. (input : List ℕ) → Answers files input command unread)
leaks_unread None command names same gone = absurd gone
leaks_unread (Some files) command names same gone =
    λ input. subst (λ (c : Option Command). Answers files input c unread) (sym same)
    (leaks names (Ends unread) unread (subst (λ (s : Sources). Checks names s (Ends unread)) (sym gone) missing) (ends unread))

pub leaks_fault : {Rose : Type 0} (stored : Option (List (List ℕ × List ℕ))) (command : Option Command) (names : List (List ℕ)) → command ≡ Some (Leaks names)
    → Rose ⊎ IsSomeAnd stored (λ files. sources files 0 SOURCE_BYTES names ≡ Missing)
    → Rose ⊎ IsSomeAnd stored (λ files. (input : List ℕ) → Answers files input command unread)
leaks_fault stored command names same found = elim found [ inl rose ↦ inl rose | inr gone ↦ inr (leaks_unread stored command names same gone) ]

pub run_fault : {Rose : Type 0} (stored : Option (List (List ℕ × List ℕ))) (command : Option Command) (names : List (List ℕ)) (budget : ℕ) (stats : Bool)
    → command ≡ Some (Run names budget stats) → Rose ⊎ IsSomeAnd stored (λ files. sources files 0 SOURCE_BYTES names ≡ Missing)
    → Rose ⊎ IsSomeAnd stored (λ files. (input : List ℕ) → Answers files input command unread)
run_fault stored command names budget stats same found =
    elim found [ inl rose ↦ inl rose | inr gone ↦ inr (run_unread stored command names budget stats same gone) ]

-- ---- where no file is read

pub usage_gives : (stored : Option (List (List ℕ × List ℕ))) (command : Option Command) (answer : Answer) → command ≡ None → answer ≡ misused
    → IfSome stored (λ files. (input : List ℕ) → Answers files input command answer)
usage_gives None command answer none is = tt
usage_gives (Some files) command answer none is =
    λ input. subst (λ (c : Option Command). Answers files input c answer) (sym none) (subst (λ (a : Answer). Answers files input None a) (sym is) usage)

pub made_gives : (stored : Option (List (List ℕ × List ℕ))) (command : Option Command) (n : ℕ) (answer : Answer) → command ≡ Some (Make n)
    → answer ≡ made n → IfSome stored (λ files. (input : List ℕ) → Answers files input command answer)
made_gives None command n answer asked is = tt
made_gives (Some files) command n answer asked is =
    λ input. subst (λ (c : Option Command). Answers files input c answer) (sym asked)
    (subst (λ (a : Answer). Answers files input (Some (Make n)) a) (sym is) (make n))

pub made_fixed : (command : Option Command) (n : ℕ) (answer : Answer) → command ≡ Some (Make n) → answer ≡ made n
    → IfSome (fixed_answer command) (λ told. answer ≡ told)
made_fixed command n answer asked is = subst (λ (c : Option Command). IfSome (fixed_answer c) (λ told. answer ≡ told)) (sym asked) is

-- ---- the program that is made, as the one source

-- what is found of it, what is answered to that, and what is run
abbrev pub IsTested : ℕ → Outcome → Type 0
IsTested n done =
    (finding : Finding) × (Checks made_names (made_source n) finding × ((input : List ℕ) → answer_for input done ≡ test_answer n finding)
    × ((input : List ℕ) → run_for input done ≡ run_found STEPS [] finding))

pub test_gives : (stored : Option (List (List ℕ × List ℕ))) (command : Option Command) (n : ℕ) (result : Result Outcome Stop) → command ≡ Some (Selftest n)
    → IfOk result (IsTested n) → IfOk result (λ done. IfSome stored (λ files. Gives files command done))
test_gives stored command n (Err stop) asked is = tt
test_gives None command n (Ok done) asked is = tt
test_gives (Some files) command n (Ok done) asked is =
    λ input. subst (λ (c : Option Command). Answers files input c (answer_for input done)) (sym asked)
    (subst (λ (a : Answer). Answers files input (Some (Selftest n)) a) (sym (is.1.1 input)) (selftest n is.0 is.1.0))

-- where the names of the files and what was read are those of it
pub test_checks : (names : List (List ℕ)) (n : ℕ) (found : Sources) (finding : Finding) → names ≡ made_names → found ≡ made_source n
    → Checks names found finding → Checks made_names (made_source n) finding
test_checks names n found finding named is checks =
    subst (λ (s : Sources). Checks made_names s finding) is (subst (λ (ns : List (List ℕ)). Checks ns found finding) named checks)

-- what was found of it, what is answered to that, and what is run
pub test_found : (n : ℕ) (names : List (List ℕ)) (found : Sources) (finding : Finding) (done : Outcome) → names ≡ made_names
    → found ≡ made_source n → Checks names found finding → ((input : List ℕ) → answer_for input done ≡ test_answer n finding)
    → ((input : List ℕ) → run_for input done ≡ run_found STEPS [] finding) → IsTested n done
test_found n names found finding done named is checks answers ran =
    (finding, (test_checks names n found finding named is checks, answers, ran))

-- ---- the run that is made

pub run_makes : (stored : Option (List (List ℕ × List ℕ))) (names : List (List ℕ)) (budget : ℕ) (stats : Bool) (finding : Finding) (done : Outcome)
    → IfSome stored (λ files. Checks names (sources files 0 SOURCE_BYTES names) finding)
    → ((input : List ℕ) → run_for input done ≡ run_found budget input finding) → IfSome stored (λ files. MakesFor files (Some (Run names budget stats)) done)
run_makes None names budget stats finding done checks is = tt
run_makes (Some files) names budget stats finding done checks is =
    λ input. subst (λ (r : Option Running). Makes files input (Some (Run names budget stats)) r) (sym (is input)) (runs_made.run names budget stats finding checks)

pub test_makes : (stored : Option (List (List ℕ × List ℕ))) (command : Option Command) (n : ℕ) (result : Result Outcome Stop) → command ≡ Some (Selftest n)
    → IfOk result (IsTested n) → IfOk result (λ done. IfSome stored (λ files. MakesFor files command done))
test_makes stored command n (Err stop) asked is = tt
test_makes None command n (Ok done) asked is = tt
test_makes (Some files) command n (Ok done) asked is =
    λ input. subst (λ (c : Option Command). Makes files input c (run_for input done)) (sym asked)
    (subst (λ (r : Option Running). Makes files input (Some (Selftest n)) r) (sym (is.1.2 input)) (runs_made.selftest n is.0 is.1.0))

-- none is made for another command
no_run : (command : Option Command) (done : Outcome) → uses_store command ≡ false → IsFor command done → (input : List ℕ) → run_for input done ≡ None
no_run command (outcome.Answers answer) idle is input = refl
no_run command (outcome.Runs program budget stats) idle is input = absurd (not_used command (run_uses command is) idle)
no_run command (outcome.Tests program n) idle is input = absurd (not_used command is.1 idle)

pub none_makes : (stored : Option (List (List ℕ × List ℕ))) (command : Option Command) (done : Outcome) → uses_store command ≡ false
    → ((input : List ℕ) → run_for input done ≡ None) → IfSome stored (λ files. MakesFor files command done)
none_makes None command done idle is = tt
none_makes (Some files) command done idle is = λ input. subst (λ (r : Option Running). Makes files input command r) (sym (is input)) (runs_made.none command idle)

pub idle_makes : (stored : Option (List (List ℕ × List ℕ))) (command : Option Command) (result : Result Outcome Stop) → uses_store command ≡ false
    → IfOk result (IsFor command) → IfOk result (λ done. IfSome stored (λ files. MakesFor files command done))
idle_makes stored command (Err stop) idle is = tt
idle_makes stored command (Ok done) idle is = none_makes stored command done idle (no_run command done idle is)

-- the same of a command that is this one
pub makes_as : (stored : Option (List (List ℕ × List ℕ))) (command other : Option Command) (result : Result Outcome Stop) → command ≡ other
    → IfOk result (λ done. IfSome stored (λ files. MakesFor files other done)) → IfOk result (λ done. IfSome stored (λ files. MakesFor files command done))
makes_as stored command other result same makes =
    subst (λ (c : Option Command). IfOk result (λ done. IfSome stored (λ files. MakesFor files c done))) (sym same) makes
