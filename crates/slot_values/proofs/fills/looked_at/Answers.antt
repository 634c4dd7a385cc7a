use Rattle.code_rows.specs.Rows.{code_at}
use Rattle.slot_values.proofs.Scalars.{looked_word}
use Rattle.slot_values.proofs.fills.looked_at.Goals as goal

pub operand-requires-clause-whole : goal.operand-requires-clause-whole
operand-requires-clause-whole g c = looked_word g.R.Store.Means c.args.memory.now c.args.table.now (code_at c.args.nodes.now c.args.value) c.requires.whole
