use Rattle.std.proofs.Common.{◌∙◌, refl, sym, ap, List, ℕ, Some, map, string_bytes}
use Rattle.spark_base.specs.Words.{operands}
use Rattle.command_words.specs.Words.{Check, Run, Leaks, command_in}
use Rattle.spark_tool.specs.declared.finding.Outcome.TheVariants as outcome
use Rattle.spark_tool.specs.Answers.{answer_of}
use Rattle.answered_runs.specs.tool_answers.Commands.{runs, there, uses_store}
use Rattle.spark_tool.proofs.CommandWords.{may_be_opened, fits_check, fits_run, fits_leaks, check_fault, run_fault, leaks_fault, made_gives, made_fixed, test_gives, idle_makes, none_makes, only_as, makes_as, test_makes}
use Rattle.spark_tool.proofs.command.command_outcome.Goals as goal

pub check_command-requires-clause-operands : goal.check_command-requires-clause-operands
check_command-requires-clause-operands g c =
    let words : List (List ℕ) = operands (g.F.FileStore.words c.args.files.now) in
    may_be_opened words (map string_bytes c.deref.result.now)
    (fits_check words (map string_bytes c.deref.result.now) (command_in c.args.command.now)
    (ap command_in c.in-Check.is ∙ ap (λ items. Check (map string_bytes items)) (sym c.deref.ensures.value)) c.requires)

pub run_command-requires-clause-operands : goal.run_command-requires-clause-operands
run_command-requires-clause-operands g c =
    let words : List (List ℕ) = operands (g.F.FileStore.words c.args.files.now) in
    may_be_opened words (map string_bytes c.deref-in-Run.result.now)
    (fits_run words (map string_bytes c.deref-in-Run.result.now) c.in-Run.steps c.in-Run.stats (command_in c.args.command.now)
    (ap command_in c.in-Run.is ∙ ap (λ items. Run (map string_bytes items) c.in-Run.steps c.in-Run.stats) (sym c.deref-in-Run.ensures.value)) c.requires)

pub returns-in-Check-clause-fault : goal.returns-in-Check-clause-fault
returns-in-Check-clause-fault g c stopped =
    check_fault (g.F.FileStore.stored c.args.files.now) (there (command_in c.args.command.now)) (map string_bytes c.deref.result.now)
    (ap (λ command. there (command_in command)) c.in-Check.is ∙ ap (λ items. there (Check (map string_bytes items))) (sym c.deref.ensures.value))
    (c.check_command.ensures.fault stopped)

pub returns-in-Run-clause-fault : goal.returns-in-Run-clause-fault
returns-in-Run-clause-fault g c stopped =
    run_fault (g.F.FileStore.stored c.args.files.now) (there (command_in c.args.command.now)) (map string_bytes c.deref-in-Run.result.now)
    c.in-Run.steps c.in-Run.stats
    (ap (λ command. there (command_in command)) c.in-Run.is
    ∙ ap (λ items. there (Run (map string_bytes items) c.in-Run.steps c.in-Run.stats)) (sym c.deref-in-Run.ensures.value))
    (c.run_command.ensures.fault stopped)

pub list_command-requires-clause-operands : goal.list_command-requires-clause-operands
list_command-requires-clause-operands g c =
    let words : List (List ℕ) = operands (g.F.FileStore.words c.args.files.now) in
    may_be_opened words (map string_bytes c.deref-in-Leaks.result.now)
    (fits_leaks words (map string_bytes c.deref-in-Leaks.result.now) (command_in c.args.command.now)
    (ap command_in c.in-Leaks.is ∙ ap (λ items. Leaks (map string_bytes items)) (sym c.deref-in-Leaks.ensures.value)) c.requires)

pub returns-in-Leaks-clause-fault : goal.returns-in-Leaks-clause-fault
returns-in-Leaks-clause-fault g c stopped =
    leaks_fault (g.F.FileStore.stored c.args.files.now) (there (command_in c.args.command.now)) (map string_bytes c.deref-in-Leaks.result.now)
    (ap (λ command. there (command_in command)) c.in-Leaks.is ∙ ap (λ items. there (Leaks (map string_bytes items))) (sym c.deref-in-Leaks.ensures.value))
    (c.list_command.ensures.fault stopped)

pub returns-in_ok-made_answer-in-Make-clause-gives : goal.returns-in_ok-made_answer-in-Make-clause-gives
returns-in_ok-made_answer-in-Make-clause-gives g c =
    made_gives (g.F.FileStore.stored c.args.files.now) (there (command_in c.args.command.now)) c.in-Make.n (answer_of c.in_ok-made_answer-in-Make.field-0)
    (ap (λ command. there (command_in command)) c.in-Make.is) c.in_ok-made_answer-in-Make.ensures

pub returns-in_ok-made_answer-in-Make-clause-fixed : goal.returns-in_ok-made_answer-in-Make-clause-fixed
returns-in_ok-made_answer-in-Make-clause-fixed g c =
    made_fixed (there (command_in c.args.command.now)) c.in-Make.n (answer_of c.in_ok-made_answer-in-Make.field-0)
    (ap (λ command. there (command_in command)) c.in-Make.is) c.in_ok-made_answer-in-Make.ensures

pub returns-in-Selftest-clause-gives : goal.returns-in-Selftest-clause-gives
returns-in-Selftest-clause-gives g c =
    test_gives (g.F.FileStore.stored c.args.files.now) (there (command_in c.args.command.now)) c.in-Selftest.n c.selftest.result
    (ap (λ command. there (command_in command)) c.in-Selftest.is) c.selftest.ensures.gives

-- ---- the run that is made

pub returns-in-Check-clause-makes : goal.returns-in-Check-clause-makes
returns-in-Check-clause-makes g c =
    let same = ap (λ command. there (command_in command)) c.in-Check.is in
    idle_makes (g.F.FileStore.stored c.args.files.now) (there (command_in c.args.command.now)) c.check_command.result (ap uses_store same)
    (only_as (there (command_in c.args.command.now)) c.check_command.result (ap runs same) c.check_command.ensures.only)

pub returns-in-Leaks-clause-makes : goal.returns-in-Leaks-clause-makes
returns-in-Leaks-clause-makes g c =
    let same = ap (λ command. there (command_in command)) c.in-Leaks.is in
    idle_makes (g.F.FileStore.stored c.args.files.now) (there (command_in c.args.command.now)) c.list_command.result (ap uses_store same)
    (only_as (there (command_in c.args.command.now)) c.list_command.result (ap runs same) c.list_command.ensures.only)

pub returns-in-Run-clause-makes : goal.returns-in-Run-clause-makes
returns-in-Run-clause-makes g c =
    makes_as (g.F.FileStore.stored c.args.files.now) (there (command_in c.args.command.now))
    (Some (Run (map string_bytes c.deref-in-Run.result.now) c.in-Run.steps c.in-Run.stats)) c.run_command.result
    (ap (λ command. there (command_in command)) c.in-Run.is
    ∙ ap (λ items. there (Run (map string_bytes items) c.in-Run.steps c.in-Run.stats)) (sym c.deref-in-Run.ensures.value))
    c.run_command.ensures.makes

pub returns-in_ok-made_answer-in-Make-clause-makes : goal.returns-in_ok-made_answer-in-Make-clause-makes
returns-in_ok-made_answer-in-Make-clause-makes g c =
    none_makes (g.F.FileStore.stored c.args.files.now) (there (command_in c.args.command.now)) (outcome.Answers c.in_ok-made_answer-in-Make.field-0)
    (ap (λ command. uses_store (there (command_in command))) c.in-Make.is)
    (λ input. refl)

pub returns-in-Selftest-clause-makes : goal.returns-in-Selftest-clause-makes
returns-in-Selftest-clause-makes g c =
    test_makes (g.F.FileStore.stored c.args.files.now) (there (command_in c.args.command.now)) c.in-Selftest.n c.selftest.result
    (ap (λ command. there (command_in command)) c.in-Selftest.is) c.selftest.ensures.gives
