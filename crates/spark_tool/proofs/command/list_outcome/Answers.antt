use Rattle.std.proofs.Common.{sym, subst, map, string_bytes}
use Rattle.laid_program.specs.Programs.{program_of}
use Rattle.answered_runs.specs.run_command.Answers.{Answer}
use Rattle.spark_tool.specs.declared.finding.Finding.{Finding}
use Rattle.spark_tool.specs.Answers.{answer_of, finding_of}
use Rattle.answered_runs.specs.tool_answers.Product.{Rejects, Lists, ends, rejects}
use Rattle.spark_tool.proofs.CommandWords.{plan_lists}
use Rattle.spark_tool.proofs.command.list_outcome.Goals as goal

pub returns-in-Ends-clause-answer : goal.returns-in-Ends-clause-answer
returns-in-Ends-clause-answer c input =
    subst (λ (f : Finding). Lists (map string_bytes c.args.names.now) (finding_of f) (answer_of c.in-Ends.answer)) (sym c.in-Ends.is)
    (ends (answer_of c.in-Ends.answer))

pub returns-in-Rejects-clause-answer : goal.returns-in-Rejects-clause-answer
returns-in-Rejects-clause-answer c input =
    subst (λ (f : Finding). Lists (map string_bytes c.args.names.now) (finding_of f) (answer_of c.rejected_answer.result)) (sym c.in-Rejects.is)
    (subst (λ (a : Answer). Lists (map string_bytes c.args.names.now) (Rejects c.in-Rejects.field-0 c.in-Rejects.lines.items) a)
    (sym c.rejected_answer.ensures) (rejects c.in-Rejects.field-0 c.in-Rejects.lines.items))

pub returns-in_ok-lines-in-Passes-clause-answer : goal.returns-in_ok-lines-in-Passes-clause-answer
returns-in_ok-lines-in-Passes-clause-answer c input =
    subst (λ (f : Finding). Lists (map string_bytes c.args.names.now) (finding_of f) (answer_of c.listed_answer.result)) (sym c.in-Passes.is)
    (plan_lists (map string_bytes c.args.names.now) (program_of c.in-Passes.program.laid) c.in_ok-lines-in-Passes.lines.items
    (answer_of c.listed_answer.result) c.in_ok-lines-in-Passes.ensures c.listed_answer.ensures)
