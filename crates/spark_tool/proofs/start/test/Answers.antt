use Rattle.std.proofs.Common.{rules, ◌≡◌, subst, OnErr}
use Rattle.std.proofs.KnownBytes.{Keeps-refl}
use Rattle.laid_program.specs.Programs.{program_of}
use Rattle.answered_runs.specs.run_command.Answers.{Answer, TellsFront}
use Rattle.answered_runs.specs.self_test.Summaries.{test_line}
use Rattle.answered_runs.specs.tool_answers.Product.{tested}
use Rattle.spark_tool.specs.Answers.{answer_of}
use Rattle.spark_tool.proofs.Complete.{front_kept}
use Rattle.spark_tool.proofs.start.test.Goals as goal

pub returns-in-Ok-clause-front : goal.returns-in-Ok-clause-front
returns-in-Ok-clause-front g c =
    let line : answer_of c.tested_answer.result ≡ tested (test_line c.args.number (program_of c.args.program.laid)) = search rules in
    subst (λ (a : Answer). OnErr c.write_answer.result (TellsFront a (g.K.Sink.written c.args.out.now) (g.K.Sink.written c.write_answer.new.out)
    (g.K.Sink.written c.args.err.now) (g.K.Sink.written c.write_answer.new.err))) line c.write_answer.ensures.front

pub returns-in-Err-clause-front : goal.returns-in-Err-clause-front
returns-in-Err-clause-front g c = (
  front_kept (g.K.Sink.written c.args.out.now) (g.K.Sink.written c.args.out.now) _ (Keeps-refl (g.K.Sink.written c.args.out.now)),
  front_kept (g.K.Sink.written c.args.err.now) (g.K.Sink.written c.args.err.now) _ (Keeps-refl (g.K.Sink.written c.args.err.now)),
)
