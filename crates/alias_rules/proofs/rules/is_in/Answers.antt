use Rattle.std.proofs.Common.{◌∙◌}
use Rattle.alias_rules.proofs.Ascending.{in_by_halves}
use Rattle.alias_rules.proofs.rules.is_in.Goals as goal

pub returns-then-ordered : goal.returns-then-ordered
returns-then-ordered c =
    c.is_ok.ensures.value ∙ in_by_halves c.args.list.now c.args.g _ (c.requires c.if-ordered.true) c.binary_search.ensures.position
