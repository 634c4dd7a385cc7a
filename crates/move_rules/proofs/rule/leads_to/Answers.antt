use Rattle.std.proofs.Common.{◌∙◌, ◌&&◌, length, leb}
use Rattle.move_rules.proofs.Above.{leads_to-overlaps}
use Rattle.move_rules.proofs.rule.leads_to.Goals as goal

pub returns : goal.returns
returns c =
    let name = c.args.name.now in
    let place = c.args.place.now in
    c.both.ensures
    ∙ (λ t. c.overlaps.ensures t && leb (length (c.sels.ensures.value t)) (length (c.sels-2.ensures.value t)))
    ∙ leads_to-overlaps name place
