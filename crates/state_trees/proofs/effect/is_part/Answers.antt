use Rattle.std.proofs.Common.{◌≡◌, ◌∙◌, sym, ne_eqb, false, ◌==◌}
use Rattle.state_trees.proofs.Parts.{none_elsewhere}
use Rattle.state_trees.proofs.effect.is_part.Goals as goal

pub returns-else-root : goal.returns-else-root
returns-else-root c =
    let name = c.args.name.now in
    let whole = c.args.whole.now in
    let other : (name.root == whole.root) ≡ false =
    ne_eqb name.root whole.root (λ e. c.if-root.false (c.root.ensures ∙ e ∙ sym c.root-2.ensures)) in
    ne_eqb c.root.result c.root-2.result c.if-root.false ∙ none_elsewhere name whole c.args.parts.now other
