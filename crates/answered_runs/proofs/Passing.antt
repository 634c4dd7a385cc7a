-- What is answered with status 0 passes.
use Rattle.std.proofs.Common.{◌≡◌, ℕ, suc, List, [], ◌∷◌, Option, None, Some, refl, arith, subst}
use Rattle.spark_base.specs.declared.limits.TheConstants.{SOURCE_BYTES}
use Rattle.place_names.specs.Reports.{Report}
use Rattle.ada_tree.specs.declared.unit.SourceUnit.{SourceUnit}
use Rattle.flow_paths.specs.declared.report.Effects.{Effects}
use Rattle.flow_paths.specs.Laid.{FlowProgram}
use Rattle.flow_paths.specs.Reports.{AreReports}
use Rattle.program_check.specs.Sources.{flow_of}
use Rattle.command_words.specs.Words.{Command, Check, Run, Leaks, Make, Selftest}
use Rattle.tool_answers.specs.run_command.Answers.{Answer}
use Rattle.tool_answers.specs.Commands.{command_of}
use Rattle.tool_answers.specs.Reading.{Sources, Texts, sources}
use Rattle.tool_answers.specs.Product.{Finding, Passes as Found, check_answer, judged, Checks, missing, too_large, lexical, syntactic, unresolved, mistyped, beyond, checked, Answers, Product, usage, check, run, leaks, make, selftest}
use Rattle.accepted_runs.specs.Passed.{Passes}

-- Such texts, with what their program is.
pub record Passed (found : Sources) : Type 0 where
  pub texts : List (List ℕ)
  pub are : found ≡ Texts texts
  pub trees : List (List SourceUnit)
  pub effects : Effects
  pub passes : Passes texts trees effects

differs : (k : ℕ) → suc k ≡ 0 → ⊥
differs k e = omega (arith, e)

none_left : (names : List (List ℕ)) (trees : List (List SourceUnit)) (effects : Effects) (reports : List Report)
    → (check_answer (judged names (flow_of trees) reports)).status ≡ 0 → AreReports (flow_of trees) effects reports
    → AreReports (flow_of trees) effects []
none_left names trees effects [] is_zero are = are
none_left names trees effects (report ∷ more) is_zero are = absurd (differs 0 is_zero)

pub passed : (names : List (List ℕ)) (found : Sources) (finding : Finding) → Checks names found finding → (check_answer finding).status ≡ 0 → Passed found
passed names found answer missing is_zero = absurd (differs 6 is_zero)
passed names found answer (too_large file) is_zero = absurd (differs 1 is_zero)
passed names found answer (lexical texts fault pos code cut is) is_zero = absurd (differs 1 is_zero)
passed names found answer (syntactic texts cuts code pos cut first) is_zero = absurd (differs 1 is_zero)
passed names found answer (unresolved texts cuts trees broken pos cut parsed fault) is_zero = absurd (differs 1 is_zero)
passed names found answer (mistyped texts cuts trees broken pos code cut parsed named fault is) is_zero = absurd (differs 1 is_zero)
passed names found answer (beyond texts cuts trees fault cut parsed named typed over) is_zero = absurd (differs 1 is_zero)
passed names found answer (checked texts cuts trees effects reports cut parsed named typed within effects_are are) is_zero = record {
  texts = texts;
  are = refl;
  trees = trees;
  effects = effects;
  passes = record {
    cuts = cuts;
    cut = cut;
    parsed = parsed;
    named = named;
    typed = typed;
    within = within;
    effects_are = effects_are;
    none = none_left names trees effects reports is_zero are;
  };
}

-- ---- the program that is found is that of texts that pass

-- the texts, and that their program is this one
abbrev pub IsOf : Sources → FlowProgram → Type 0
IsOf found program = (is : Passed found) × (flow_of is.trees ≡ program)

same_program : (one other : FlowProgram) → Found one ≡ Found other → one ≡ other
same_program one other e = cc

pub found_passed : (names : List (List ℕ)) (found : Sources) (finding : Finding) → Checks names found finding → (program : FlowProgram) → finding ≡ Found program
    → IsOf found program
found_passed names found finding missing program e = cc
found_passed names found finding (too_large file) program e = cc
found_passed names found finding (lexical texts fault pos code cut is) program e = cc
found_passed names found finding (syntactic texts cuts code pos cut first) program e = cc
found_passed names found finding (unresolved texts cuts trees broken pos cut parsed fault) program e = cc
found_passed names found finding (mistyped texts cuts trees broken pos code cut parsed named fault is) program e = cc
found_passed names found finding (beyond texts cuts trees fault cut parsed named typed over) program e = cc
found_passed names found finding (checked texts cuts trees effects reports cut parsed named typed within effects_are are) program e = by reports are e
  where
    by : (reports : List Report) → AreReports (flow_of trees) effects reports → judged names (flow_of trees) reports ≡ Found program → IsOf found program
    by [] are e =
        let passes : Passes texts trees effects = record {
          cuts = cuts;
          cut = cut;
          parsed = parsed;
          named = named;
          typed = typed;
          within = within;
          effects_are = effects_are;
          none = are;
        } in
        (record { texts = texts; are = refl; trees = trees; effects = effects; passes = passes }, same_program (flow_of trees) program e)
    by (report ∷ more) are e = cc

-- What a check gives where it is answered with status 0.
abbrev PassesIf : List (List ℕ × List ℕ) → Option Command → Answer → Type 0
PassesIf stored (Some (Check names)) answer = answer.status ≡ 0 → Passed (sources stored 0 SOURCE_BYTES names)
PassesIf stored (Some (Run names steps stats)) answer = Unit {0}
PassesIf stored (Some (Leaks names)) answer = Unit {0}
PassesIf stored (Some (Make n)) answer = Unit {0}
PassesIf stored (Some (Selftest n)) answer = Unit {0}
PassesIf stored None answer = Unit {0}

answers_passed : (stored : List (List ℕ × List ℕ)) (input : List ℕ) (command : Option Command) (answer : Answer) → Answers stored input command answer
    → PassesIf stored command answer
answers_passed stored input _ _ usage = tt
answers_passed stored input _ _ (check names finding checks) = λ is_zero. passed names (sources stored 0 SOURCE_BYTES names) finding checks is_zero
answers_passed stored input _ _ (run names budget stats finding checks untrapped) = tt
answers_passed stored input _ _ (leaks names finding answer checks lists) = tt
answers_passed stored input _ _ (make n) = tt
answers_passed stored input _ _ (selftest n finding checks) = tt

-- A check that the tool answers with status 0 is one of files that pass.
pub product_passed : (stored : List (List ℕ × List ℕ)) (input : List ℕ) (words names : List (List ℕ)) (answer : Answer)
    → command_of words ≡ Some (Check names) → Product stored input words answer → answer.status ≡ 0 → Passed (sources stored 0 SOURCE_BYTES names)
product_passed stored input words names answer command product =
    subst (λ (c : Option Command). PassesIf stored c answer) command (answers_passed stored input (command_of words) answer product)
