use Rattle.std.proofs.Common.{◌≡◌, Bool, Err, Result, rules, sym, subst}
use Rattle.code_rows.specs.declared.stop.Stop.{Stop}
use Rattle.slot_memory.specs.Answers.{LentOn}
use Rattle.slot_frames.specs.Parts.{own_returns}
use Rattle.slot_finished.proofs.Left.{finish_done, finish_lent, stopped_lent}
use Rattle.slot_finished.proofs.ends.finish.Goals as goal

pub returns-clause-finished : goal.returns-clause-finished
returns-clause-finished g c =
    finish_done g.R.Store.Means c.args.memory.now c.args.table.now (own_returns c.args.frames.now) c.in_ok-copy_own.field-0 c.copy_own.new.memory c.leave.new.memory
    c.args.frames.now c.leave.new.frames c.leave.result c.in_ok-copy_own.ensures.copied c.in_ok-copy_own.ensures.elsewhere c.leave.ensures.left

pub returns-clause-lent : goal.returns-clause-lent
returns-clause-lent g c =
    finish_lent c.args.memory.now c.copy_own.new.memory c.leave.new.memory c.args.frames.now c.leave.new.frames c.leave.result c.in_ok-copy_own.ensures.elsewhere c.leave.ensures.left

pub returns-in_err-copy_own-clause-lent : goal.returns-in_err-copy_own-clause-lent
returns-in_err-copy_own-clause-lent g c =
    let err : c.from_residual.result ≡ Err c.in_err-copy_own.field-0.0 = search rules in
    let P : Result Bool Stop → Type 0 = λ r. LentOn r c.args.memory.now c.copy_own.new.memory in
    subst P (sym err) (stopped_lent c.args.memory.now c.copy_own.new.memory c.in_err-copy_own.field-0.0 c.in_err-copy_own.ensures.elsewhere)
