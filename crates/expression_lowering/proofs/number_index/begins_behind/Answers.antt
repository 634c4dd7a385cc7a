use Rattle.std.proofs.Common.{◌∙◌, sym, arith}
use Rattle.name_events.specs.declared.declaration.Identified.{Identified}
use Rattle.expression_lowering.proofs.NumberIndexes.{begins_with, is_lt-Less}
use Rattle.expression_lowering.proofs.number_index.begins_behind.Goals as goal

pub returns-else-to-all : goal.returns-else-to-all
returns-else-to-all c told =
    let d : Identified = record { pos = record { file = 0; line = 0; column = 0 }; number = 0 } in
    let here = sym c.cmp.ensures ∙ is_lt-Less _ (sym told ∙ c.is_lt.ensures) in
    begins_with c.args.all.now c.requires.order c.args.pos c.args.to d (omega (arith, c.requires.within, c.if-to-all.false)) here
