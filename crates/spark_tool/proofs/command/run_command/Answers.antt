use Rattle.std.proofs.Common.{map, string_bytes}
use Rattle.spark_tool.specs.Answers.{finding_of}
use Rattle.spark_tool.proofs.CommandWords.{run_gives, run_makes}
use Rattle.spark_tool.proofs.command.run_command.Goals as goal

pub returns-in_ok-run_outcome-in-Ok-clause-gives : goal.returns-in_ok-run_outcome-in-Ok-clause-gives
returns-in_ok-run_outcome-in-Ok-clause-gives g c =
    run_gives (g.F.FileStore.stored c.args.files.now) (map string_bytes c.args.names.now) c.args.steps c.args.stats (finding_of c.in-Ok.finding)
    c.in_ok-run_outcome-in-Ok.field-0 c.in-Ok.ensures.finding c.in_ok-run_outcome-in-Ok.ensures.answer

pub returns-in_ok-run_outcome-in-Ok-clause-makes : goal.returns-in_ok-run_outcome-in-Ok-clause-makes
returns-in_ok-run_outcome-in-Ok-clause-makes g c =
    run_makes (g.F.FileStore.stored c.args.files.now) (map string_bytes c.args.names.now) c.args.steps c.args.stats (finding_of c.in-Ok.finding)
    c.in_ok-run_outcome-in-Ok.field-0 c.in-Ok.ensures.finding c.in_ok-run_outcome-in-Ok.ensures.run
