use Rattle.std.proofs.Common.{◌∙◌, ◌&&◌, ◌||◌, sym, ap, length, nat_lt}
use Rattle.place_names.specs.Names.{Name}
use Rattle.place_names.proofs.Rules.{any_breaks_O2}
use Rattle.move_rules.proofs.rule.breaks_write.Goals as goal

pub returns : goal.returns
returns c =
    let fact = c.args.fact.now in
    let name = c.args.name.now in
    let front = c.sels.ensures.value ∙ ap (λ (n : Name). n.sels) c.place.ensures in
    let above = c.both-is_above.ensures
    ∙ (λ t. c.breaks_look.ensures t && nat_lt (length (front t)) (length (c.sels-2.ensures.value t)))
    ∙ sym (any_breaks_O2 name fact) in
    c.either.ensures ∙ (λ t. above t || c.is_lent.ensures t)
