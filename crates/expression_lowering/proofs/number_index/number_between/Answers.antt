use Rattle.std.proofs.Common.{◌+◌, ◌-◌, ◌/◌, ◌<◌, ◌∙◌, get_or, length, sym, arith}
use Rattle.name_events.specs.declared.declaration.Identified.{Identified}
use Rattle.expression_lowering.proofs.NumberIndexes.{begins_with, ends_with, found_at, none_between, position_cmp-ahead}
use Rattle.expression_lowering.proofs.number_index.number_between.Goals as goal

pub halves-preserved-in-Less : goal.halves-preserved-in-Less
halves-preserved-in-Less c =
    let d : Identified = record { pos = record { file = 0; line = 0; column = 0 }; number = 0 } in
    let middle = c.halves.low + (c.halves.high - c.halves.low) / 2 in
    let within : middle < length c.args.all.now = omega (arith, c.halves-test.true, c.halves.invariant.0) in (
      c.halves.invariant.0,
      λ before. ends_with c.args.all.now c.requires.order c.args.pos middle (middle + 1) d within (omega arith) (sym c.cmp.ensures ∙ c.in-Less.is),
      c.halves.invariant.2,
    )

pub halves-preserved : goal.halves-preserved
halves-preserved c =
    let d : Identified = record { pos = record { file = 0; line = 0; column = 0 }; number = 0 } in
    let middle = c.halves.low + (c.halves.high - c.halves.low) / 2 in
    let within : middle < length c.args.all.now = omega (arith, c.halves-test.true, c.halves.invariant.0) in (
      omega (arith, within),
      c.halves.invariant.1,
      λ behind. begins_with c.args.all.now c.requires.order c.args.pos middle d within (position_cmp-ahead (get_or c.args.all.now middle d).pos c.args.pos (sym c.cmp.ensures ∙ c.in-Greater.is)),
    )

pub returns-in-Equal-clause-found : goal.returns-in-Equal-clause-found
returns-in-Equal-clause-found c =
    let d : Identified = record { pos = record { file = 0; line = 0; column = 0 }; number = 0 } in
    let middle = c.halves.low + (c.halves.high - c.halves.low) / 2 in
    let within : middle < length c.args.all.now = omega (arith, c.halves-test.true, c.halves.invariant.0) in
    found_at c.args.all.now c.requires.order c.args.pos middle d within (sym c.cmp.ensures ∙ c.in-Equal.is)

pub returns-in-Equal-clause-around : goal.returns-in-Equal-clause-around
returns-in-Equal-clause-around c before behind =
    let d : Identified = record { pos = record { file = 0; line = 0; column = 0 }; number = 0 } in
    let middle = c.halves.low + (c.halves.high - c.halves.low) / 2 in
    let within : middle < length c.args.all.now = omega (arith, c.halves-test.true, c.halves.invariant.0) in
    sym (found_at c.args.all.now c.requires.order c.args.pos middle d within (sym c.cmp.ensures ∙ c.in-Equal.is))

pub returns-clause-around : goal.returns-clause-around
returns-clause-around c before behind =
    sym (none_between c.args.all.now c.args.pos c.halves.low c.halves.high
    (c.halves.invariant.1 before) (c.halves.invariant.2 behind) (omega (arith, c.halves-test.false)))
