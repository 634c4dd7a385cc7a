use Rattle.std.proofs.Common.{◌≡◌, ◌++◌, List, map, subst, rules, ℤ}
use Rattle.run_codes.specs.Points.{template}
use Rattle.code_rows.specs.Points.{sub_of}
use Rattle.slot_memory.specs.Memory.{Changes}
use Rattle.slot_calls.specs.Calls.{passed_of}
use Rattle.slot_formals.specs.Formals.{placed}
use Rattle.slot_formals.proofs.Filling.{pushed_is, fill_changes}
use Rattle.slot_formals.proofs.calls.fill_frame.Goals as goal

pub returns-clause-placed : goal.returns-clause-placed
returns-clause-placed g c =
    let pushed : c.push_rooms.new.memory ≡ record c.args.memory.now { stack = c.args.memory.now.stack ++ template c.args.table.now (sub_of c.args.codes.now c.args.sub) } = pushed_is c.args.table.now c.args.codes.now c.args.sub c.rooms-rooms.result.now c.args.memory.now c.push_rooms.new.memory c.rooms-rooms.ensures c.in_ok-push_rooms.ensures.pushed in
    let formals : c.deref.result.now ≡ (sub_of c.args.codes.now c.args.sub).formals = search rules in
    fill_changes g.R.Store.Means c.args.table.now (sub_of c.args.codes.now c.args.sub) (map (passed_of c.args.hand.now) c.args.passes.now) c.args.memory.now c.push_rooms.new.memory c.deref.result.now c.top-base.result
    pushed formals c.top-base.ensures c.pass_formals.new.memory
    (subst (λ (zs : List ℤ). Changes g.R.Store.Means c.push_rooms.new.memory (placed c.args.table.now c.top-base.result c.deref.result.now (map (passed_of zs) c.args.passes.now)) c.pass_formals.new.memory)
    c.in_ok-push_rooms.ensures.hand c.in_ok-pass_formals.ensures.placed)
