use Rattle.call_effects.proofs.Filed.{filed_zero, filed_unless}
use Rattle.call_effects.proofs.uses.file_text.Goals as goal

pub returns-in_ok-file : goal.returns-in_ok-file
returns-in_ok-file c = filed_zero c.args.p c.args.uses c.args.users.now.items c.file.new.rows.items c.if-uses.true c.in_ok-file.ensures

pub returns-else-uses : goal.returns-else-uses
returns-else-uses c = filed_unless c.args.p c.args.uses c.args.users.now.items c.if-uses.false
