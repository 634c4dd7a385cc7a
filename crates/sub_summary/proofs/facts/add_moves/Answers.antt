use Rattle.std.proofs.Common.{◌∙◌, ap, List}
use Rattle.place_names.specs.declared.fact.Fact.{Fact}
use Rattle.place_names.specs.declared.fact.Fact.TheVariants.{Moved}
use Rattle.place_names.specs.Names.{Name, extend}
use Rattle.sub_summary.specs.FactLists.{with_fact}
use Rattle.sub_summary.proofs.FactLists.{moves_step, shallow_part}
use Rattle.sub_summary.proofs.facts.add_moves.Goals as goal

pub add_part-requires : goal.add_part-requires
add_part-requires c =
    shallow_part c.args.name.now c.args.parts.now c.parts.part-index c.part-item.result c.parts-test.true c.part-item.is c.requires

pub parts-preserved : goal.parts-preserved
parts-preserved c =
    let m : Name = c.args.name.now in
    c.in_ok-next.ensures
    ∙ ap (λ (l : List Fact). with_fact l (Moved (extend m c.part-item.result))) c.parts.invariant
    ∙ moves_step c.args.found.now m c.args.parts.now c.parts.part-index c.part-item.result c.parts-test.true c.part-item.is
