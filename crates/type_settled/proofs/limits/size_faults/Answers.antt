use Rattle.std.proofs.Common.{ap, ◌∙◌}
use Rattle.type_definitions.specs.Faults.{noted, demand}
use Rattle.type_settled.proofs.limits.size_faults.Goals as goal
use Rattle.type_settled.proofs.Capped.{sizes_noted}

pub returns : goal.returns
returns c =
    let short = c.demand-parts.ensures ∙ ap (λ b. noted c.demand-words.result (demand 2 c.args.pos b)) c.has_short_parts.ensures in
    let last = c.demand.ensures ∙ ap (λ b. noted c.demand-parts.result (demand 3 c.args.pos b)) c.has_elements.ensures in
    sizes_noted c.args.found c.demand-words.result c.demand-parts.result c.demand.result c.args.measure c.args.table.now c.args.pos c.args.t
    c.requires.words c.requires.parts c.requires.reach c.demand-words.ensures short last
