use Rattle.std.proofs.Common.{map, string_bytes}
use Rattle.spark_tool.specs.Answers.{finding_of}
use Rattle.spark_tool.proofs.CommandWords.{list_gives}
use Rattle.spark_tool.proofs.command.list_command.Goals as goal

pub returns-in_ok-list_outcome-in-Ok-clause-gives : goal.returns-in_ok-list_outcome-in-Ok-clause-gives
returns-in_ok-list_outcome-in-Ok-clause-gives g c =
    list_gives (g.F.FileStore.stored c.args.files.now) (map string_bytes c.args.names.now) (finding_of c.in-Ok.finding) c.in_ok-list_outcome-in-Ok.field-0
    c.in-Ok.ensures.finding c.in_ok-list_outcome-in-Ok.ensures.answer
