use Rattle.std.proofs.Common.{◌≡◌, ◌-◌, Ok, Err, List, length, sym, subst, rules, Result}
use Rattle.run_codes.specs.Points.{Return}
use Rattle.code_rows.specs.declared.stop.Stop.{Stop}
use Rattle.slot_frames.specs.Frames.{return_of}
use Rattle.slot_frames.specs.Parts.{own_returns}
use Rattle.slot_returns.specs.Backs.{CanCopy, CopiesAll}
use Rattle.slot_returns.proofs.Rounds.{all_can, all_halted, all_stored, none_copied, one_can, one_alone}
use Rattle.slot_finished.proofs.Backs.{none_own, one_own}
use Rattle.slot_finished.proofs.ends.copy_own.Goals as goal

pub returns-then-count-eq0-clause-copied : goal.returns-then-count-eq0-clause-copied
returns-then-count-eq0-clause-copied g c =
    let none : length c.args.frames.now.returns - c.frame-first.result.returns ≡ 0 = search rules in
    let P : List Return → Type 0 = λ l. CopiesAll g.R.Store.Means c.args.memory.now c.args.table.now l (Ok (tt {0})) c.args.memory.now in
    subst P (sym (none_own c.args.frames.now c.frame-first.result c.frame-first.ensures none)) (none_copied g.R.Store.Means c.args.memory.now c.args.table.now (tt {0}))

pub copy_one-requires : goal.copy_one-requires
copy_one-requires g c =
    let one : length c.args.frames.now.returns - c.frame-first.result.returns ≡ 1 = search rules in
    let P : List Return → Type 0 = λ l. CanCopy g.R.Store.Means c.args.memory.now c.args.table.now l in
    one_can g.R.Store.Means c.args.memory.now c.args.table.now (return_of c.back.result)
    (subst P (one_own c.args.frames.now c.frame-first.result c.back.result c.frame-first.ensures c.back.ensures one) c.requires)

pub returns-then-count-eq1-clause-copied : goal.returns-then-count-eq1-clause-copied
returns-then-count-eq1-clause-copied g c =
    let one : length c.args.frames.now.returns - c.frame-first.result.returns ≡ 1 = search rules in
    let P : List Return → Type 0 = λ l. CopiesAll g.R.Store.Means c.args.memory.now c.args.table.now l c.copy_one.result c.copy_one.new.memory in
    subst P (sym (one_own c.args.frames.now c.frame-first.result c.back.result c.frame-first.ensures c.back.ensures one))
    (one_alone g.R.Store.Means c.args.memory.now c.args.table.now (return_of c.back.result) c.copy_one.result c.copy_one.new.memory c.copy_one.ensures.copied)

pub returns-in_err-check_own-clause-copied : goal.returns-in_err-check_own-clause-copied
returns-in_err-check_own-clause-copied g c =
    let all : List Return = own_returns c.args.frames.now in
    let err : c.from_residual.result ≡ Err c.in_err-check_own.field-0.0 = search rules in
    let Q : Result (Unit {0}) Stop → Type 0 = λ r. CopiesAll g.R.Store.Means c.args.memory.now c.args.table.now all r c.args.memory.now in
    subst Q (sym err) (all_halted g.R.Store.Means c.args.memory.now c.args.table.now all c.in_err-check_own.field-0.0 c.in_err-check_own.ensures)

pub store_own-requires : goal.store_own-requires
store_own-requires g c = all_can g.R.Store.Means c.args.memory.now c.args.table.now (own_returns c.args.frames.now) c.requires c.in_ok-check_own.ensures

pub returns-clause-copied : goal.returns-clause-copied
returns-clause-copied g c =
    all_stored g.R.Store.Means c.args.memory.now c.args.table.now (own_returns c.args.frames.now) c.store_own.result c.store_own.new.memory c.store_own.ensures.stored c.store_own.ensures.memory
