use Rattle.std.proofs.Common.{take}
use Rattle.run_command.proofs.Taken.{read_out}
use Rattle.run_command.proofs.input.read_input.Goals as goal

pub returns-then-count-eq0-clause-at_end : goal.returns-then-count-eq0-clause-at_end
returns-then-count-eq0-clause-at_end g c =
    read_out (g.S.Source.left c.args.input.now) (g.S.Source.left c.pieces.input) (g.S.Source.left c.read.new.self) c.pieces.text.items
    (take c.in-Ok.count c.read.new.buf) c.pieces.invariant.taken (c.in-Ok.ensures.end c.if-count-eq0.true) c.in-Ok.ensures.bytes
