use Rattle.std.proofs.Common.{◌∙◌, sym}
use Rattle.call_effects.proofs.Chains.{listed_object}
use Rattle.call_effects.proofs.lists.list_object.Goals as goal

pub returns-in_ok-spread-clause-listed : goal.returns-in_ok-spread-clause-listed
returns-in_ok-spread-clause-listed c =
    listed_object c.args.laid.now c.args.g c.in-Ok.object c.args.callers.now c.args.users.now c.args.lists.now.items c.spread.new.lists.items
    c.in-Ok.ensures.1 c.requires.callers (sym c.is_global.ensures ∙ c.if-is_global.true) c.in_ok-spread.ensures.spreading c.in_ok-spread.ensures.searched
