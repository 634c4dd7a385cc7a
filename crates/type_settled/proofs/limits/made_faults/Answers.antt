use Rattle.std.proofs.Common.{ap, sym, ◌∙◌, [], if◌then◌else◌}
use Rattle.type_definitions.specs.Faults.{noted}
use Rattle.type_definitions.specs.Whole.{size_faults}
use Rattle.type_settled.specs.Measures.{marked}
use Rattle.type_settled.proofs.limits.made_faults.Goals as goal
use Rattle.type_settled.proofs.Capped.{words_measured, parts_measured, reach_measured}
use Rattle.type_settled.proofs.Unsound.{looked_measured, made_noted}

pub size_faults-requires-clause-words : goal.size_faults-requires-clause-words
size_faults-requires-clause-words c =
    words_measured (marked c.args.unsound.now) c.args.table.now c.args.m.number c.measure_in-measure.result
    (looked_measured c.args.unsound.now c.args.table.now c.args.measures.now c.args.m c.measure_in-measure.result c.requires
    (sym c.skips.ensures ∙ c.if-skips.false) c.measure_in-measure.ensures)

pub size_faults-requires-clause-parts : goal.size_faults-requires-clause-parts
size_faults-requires-clause-parts c =
    parts_measured (marked c.args.unsound.now) c.args.table.now c.args.m.number c.measure_in-measure.result
    (looked_measured c.args.unsound.now c.args.table.now c.args.measures.now c.args.m c.measure_in-measure.result c.requires
    (sym c.skips.ensures ∙ c.if-skips.false) c.measure_in-measure.ensures)

pub size_faults-requires-clause-reach : goal.size_faults-requires-clause-reach
size_faults-requires-clause-reach c =
    reach_measured (marked c.args.unsound.now) c.args.table.now c.args.m.number c.measure_in-measure.result
    (looked_measured c.args.unsound.now c.args.table.now c.args.measures.now c.args.m c.measure_in-measure.result c.requires
    (sym c.skips.ensures ∙ c.if-skips.false) c.measure_in-measure.ensures)

pub returns-then-skips : goal.returns-then-skips
returns-then-skips c all same =
    let skipped = sym c.skips.ensures ∙ c.if-skips.true in
    sym (made_noted c.args.found all c.args.unsound.now c.args.table.now c.args.measures.now c.args.m c.measure_in-measure.result c.requires same c.measure_in-measure.ensures
    ∙ ap (λ b. noted c.args.found (if b then [] else size_faults c.args.table.now c.args.m.pos c.args.m.number)) skipped)

pub returns : goal.returns
returns c all same =
    let looked = sym c.skips.ensures ∙ c.if-skips.false in
    c.size_faults.ensures
    ∙ sym (made_noted c.args.found all c.args.unsound.now c.args.table.now c.args.measures.now c.args.m c.measure_in-measure.result c.requires same c.measure_in-measure.ensures
    ∙ ap (λ b. noted c.args.found (if b then [] else size_faults c.args.table.now c.args.m.pos c.args.m.number)) looked)
