use Rattle.std.proofs.Common.{◌∙◌, ap, [], ◌∷◌, ◌++◌}
use Rattle.traversal_funcs.specs.Lendings.{held}
use Rattle.traversal_funcs.proofs.Held.{held_more}
use Rattle.traversal_funcs.proofs.holders.add.Goals as goal

pub returns : goal.returns
returns c = λ all was.
    held_more c.args.made.now.entries c.swap_remove.new.self.entries c.insert.new.self.entries c.args.lending c.push.new.self all
    (c.in_ok-push.ensures.ok ∙ ap (λ l. l ++ c.args.lending.holder ∷ []) (c.taken-list.ensures ∙ ap held c.swap_remove.ensures.value))
    (λ x e. c.swap_remove.ensures.updates.2 x e) (λ x. c.in_ok-insert.ensures.updates.0 x) was
