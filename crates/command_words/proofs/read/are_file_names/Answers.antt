use Rattle.std.proofs.Common.{arith}
use Rattle.std.proofs.lemmas.Grind.{common_steps}
use Rattle.command_words.proofs.Texts.{are_file_names-map}
use Rattle.command_words.proofs.read.are_file_names.Goals as goal

pub returns-then-names-le-FILES : goal.returns-then-names-le-FILES
returns-then-names-le-FILES c = let e = are_file_names-map c.args.names.now in rw e (grind (arith, common_steps))
