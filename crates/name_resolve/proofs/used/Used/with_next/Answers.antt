use Rattle.std.proofs.Common.{sym}
use Rattle.name_resolve.proofs.Holders.{one_unused}
use Rattle.name_resolve.proofs.used.Used.with_next.Goals as goal

pub returns-then-is_used : goal.returns-then-is_used
returns-then-is_used c regions s = c.with_one.ensures _ regions (sym c.if-is_used.ensures) s

pub returns-else-is_used : goal.returns-else-is_used
returns-else-is_used c regions s = one_unused _ regions c.args.region c.args.so_far (sym c.if-is_used.ensures) s
