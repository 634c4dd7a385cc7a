use Rattle.std.proofs.Common.{◌≡◌, ◌+◌, ◌≤◌, Err, List, length, sym, subst, rules, Result}
use Rattle.run_codes.specs.Points.{Return}
use Rattle.code_rows.specs.declared.stop.Stop.{Stop}
use Rattle.slot_frames.specs.Frames.{return_of}
use Rattle.slot_frames.specs.Parts.{own_returns}
use Rattle.slot_returns.specs.Backs.{ChecksAll}
use Rattle.slot_returns.proofs.Rounds.{Tried, tried_first, tried_can, tried_next, tried_stops, tried_end}
use Rattle.slot_finished.proofs.Backs.{returns_from, own_from, returns_next, returns_end}
use Rattle.slot_finished.proofs.ends.check_own.Goals as goal

pub formals-init : goal.formals-init
formals-init g c =
    let all : List Return = own_returns c.args.frames.now in
    let P : List Return → Type 0 = λ l. Tried c.args.memory.now c.args.table.now all l in
    subst P (own_from c.args.frames.now c.frame-i.result c.frame-i.ensures) (tried_first g.R.Store.Means c.args.memory.now c.args.table.now all)

pub check_one-requires : goal.check_one-requires
check_one-requires g c =
    let left = returns_next c.args.frames.now c.formals.i c.back.result c.back.ensures in
    let all : List Return = own_returns c.args.frames.now in
    let P : List Return → Type 0 = λ l. Tried c.args.memory.now c.args.table.now all l in
    tried_can g.R.Store.Means c.args.memory.now c.args.table.now all (return_of c.back.result) (returns_from c.args.frames.now (c.formals.i + 1))
    (subst P left c.formals.invariant) c.requires

pub returns-in_err-check_one : goal.returns-in_err-check_one
returns-in_err-check_one g c =
    let left = returns_next c.args.frames.now c.formals.i c.back.result c.back.ensures in
    let all : List Return = own_returns c.args.frames.now in
    let P : List Return → Type 0 = λ l. Tried c.args.memory.now c.args.table.now all l in
    let err : c.from_residual.result ≡ Err c.in_err-check_one.field-0.0 = search rules in
    let Q : Result (Unit {0}) Stop → Type 0 = λ r. ChecksAll c.args.memory.now c.args.table.now all r in
    subst Q (sym err)
    (tried_stops g.R.Store.Means c.args.memory.now c.args.table.now all (return_of c.back.result) (returns_from c.args.frames.now (c.formals.i + 1))
    (subst P left c.formals.invariant) c.in_err-check_one.field-0.0 c.in_err-check_one.ensures)

pub formals-preserved : goal.formals-preserved
formals-preserved g c =
    let left = returns_next c.args.frames.now c.formals.i c.back.result c.back.ensures in
    let all : List Return = own_returns c.args.frames.now in
    let P : List Return → Type 0 = λ l. Tried c.args.memory.now c.args.table.now all l in
    tried_next g.R.Store.Means c.args.memory.now c.args.table.now all (return_of c.back.result) (returns_from c.args.frames.now (c.formals.i + 1))
    (subst P left c.formals.invariant) c.in_ok-check_one.ensures

pub returns : goal.returns
returns g c =
    let all : List Return = own_returns c.args.frames.now in
    let P : List Return → Type 0 = λ l. Tried c.args.memory.now c.args.table.now all l in
    let past : length c.args.frames.now.returns ≤ c.formals.i = search rules in
    tried_end g.R.Store.Means c.args.memory.now c.args.table.now all (subst P (returns_end c.args.frames.now c.formals.i past) c.formals.invariant)
