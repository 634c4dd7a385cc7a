use Rattle.std.proofs.Common.{sym}
use Rattle.name_resolve.proofs.HolderLists.{holder_left, holder_noted}
use Rattle.name_resolve.proofs.declarations.note_holder.Goals as goal

pub returns-in_ok-add : goal.returns-in_ok-add
returns-in_ok-add c old new puts s =
    holder_noted old new c.args.holders.now c.add.new.self c.args.symbol c.args.declaration puts c.in_ok-add.ensures s

pub returns-else-is_visible : goal.returns-else-is_visible
returns-else-is_visible c old new puts s =
    holder_left old new c.args.holders.now c.args.symbol c.args.declaration (sym c.if-is_visible.ensures) puts s
