use Rattle.std.proofs.Common.{◌-◌, ◌∙◌, sym, arith}
use Rattle.name_events.specs.declared.declaration.Identified.{Identified}
use Rattle.expression_lowering.proofs.NumberIndexes.{ends_with, is_lt-Less}
use Rattle.expression_lowering.proofs.number_index.ends_before.Goals as goal

pub returns-else-from-eq0 : goal.returns-else-from-eq0
returns-else-from-eq0 c told =
    let d : Identified = record { pos = record { file = 0; line = 0; column = 0 }; number = 0 } in
    let here = sym c.cmp.ensures ∙ is_lt-Less _ (sym told ∙ c.is_lt.ensures) in
    ends_with c.args.all.now c.requires.order c.args.pos (c.args.from - 1) c.args.from d
    (omega (arith, c.requires.within, c.if-from-eq0.false)) (omega arith) here
