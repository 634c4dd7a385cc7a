use Rattle.std.proofs.Common.{◌≡◌, List, map, sym, subst, ◌∙◌, rules, ℤ}
use Rattle.run_codes.specs.Flat.{Given, and_then}
use Rattle.code_rows.specs.Points.{sub_of}
use Rattle.handled_runs.specs.Changes.{settled}
use Rattle.handled_steps.specs.Steps.{out_leaks}
use Rattle.run_results.specs.Results.{leaks_of}
use Rattle.slot_memory.specs.Memory.{Changes}
use Rattle.slot_calls.specs.Calls.{passed_of}
use Rattle.slot_formals.specs.Formals.{all_moved, placed_in, checked_then, Tells}
use Rattle.slot_formals.specs.Leads.{Gives}
use Rattle.slot_formals.proofs.Leading.{gives_first}
use Rattle.slot_formals.proofs.Beginning.{first_settles, checks, last_settles, begins}
use Rattle.slot_formals.proofs.calls.begin_frame.Goals as goal

pub fill_frame-requires-clause-whole : goal.fill_frame-requires-clause-whole
fill_frame-requires-clause-whole g c =
    gives_first g.R.Store.Means c.args.memory.now (placed_in c.args.table.now (sub_of c.args.codes.now c.args.sub) (map (passed_of c.args.hand.now) c.args.passes.now))
    (λ s n. and_then (settled n) (checked_then c.args.table.now (sub_of c.args.codes.now c.args.sub).formals (map (passed_of c.args.hand.now) c.args.passes.now))) c.requires.whole

pub settle-requires : goal.settle-requires
settle-requires g c = first_settles g.R.Store.Means c.args.table.now (sub_of c.args.codes.now c.args.sub) (map (passed_of c.args.hand.now) c.args.passes.now) c.args.memory.now c.fill_frame.new.memory c.in_ok-base.ensures.placed c.requires.whole

pub check_outs-requires : goal.check_outs-requires
check_outs-requires g c =
    subst (λ (zs : List ℤ). Gives g.R.Store.Means c.settle.new.self (λ s. out_leaks c.args.table.now s (map (passed_of zs) c.args.passes.now))) (sym c.in_ok-base.ensures.hand)
    (checks g.R.Store.Means c.args.table.now (sub_of c.args.codes.now c.args.sub) (map (passed_of c.args.hand.now) c.args.passes.now) c.args.memory.now c.fill_frame.new.memory c.in_ok-base.ensures.placed c.settle.new.self c.settle.ensures.settled c.requires.whole)

pub settle-requires-2 : goal.settle-requires-2
settle-requires-2 g c =
    let same : c.deref.result.now ≡ (sub_of c.args.codes.now c.args.sub).formals = search rules in
    let told : Tells g.R.Store.Means c.settle.new.self c.args.table.now (map (passed_of c.args.hand.now) c.args.passes.now) (leaks_of c.args.found.now.items) (leaks_of c.check_outs.new.leaks.items) =
    subst (λ (zs : List ℤ). Tells g.R.Store.Means c.settle.new.self c.args.table.now (map (passed_of zs) c.args.passes.now) (leaks_of c.args.found.now.items) (leaks_of c.check_outs.new.leaks.items))
    c.in_ok-base.ensures.hand c.in_ok-check_outs.ensures.leaks in
    let moved : Changes g.R.Store.Means c.settle.new.self (λ s. Given (all_moved c.args.table.now c.deref.result.now (map (passed_of c.args.hand.now) c.args.passes.now) s)) c.note_moves.new.memory =
    subst (λ (zs : List ℤ). Changes g.R.Store.Means c.settle.new.self (λ s. Given (all_moved c.args.table.now c.deref.result.now (map (passed_of zs) c.args.passes.now) s)) c.note_moves.new.memory)
    (c.check_outs.ensures.hand ∙ c.in_ok-base.ensures.hand) c.in_ok-note_moves.ensures.moved in
    last_settles g.R.Store.Means c.args.table.now (sub_of c.args.codes.now c.args.sub) (map (passed_of c.args.hand.now) c.args.passes.now) c.args.memory.now c.fill_frame.new.memory c.in_ok-base.ensures.placed c.settle.new.self c.settle.ensures.settled
    c.deref.result.now same (leaks_of c.args.found.now.items) (leaks_of c.check_outs.new.leaks.items) told c.note_moves.new.memory moved
    c.requires.whole

pub returns-clause-begun : goal.returns-clause-begun
returns-clause-begun g c =
    let same : c.deref.result.now ≡ (sub_of c.args.codes.now c.args.sub).formals = search rules in
    let told : Tells g.R.Store.Means c.settle.new.self c.args.table.now (map (passed_of c.args.hand.now) c.args.passes.now) (leaks_of c.args.found.now.items) (leaks_of c.check_outs.new.leaks.items) =
    subst (λ (zs : List ℤ). Tells g.R.Store.Means c.settle.new.self c.args.table.now (map (passed_of zs) c.args.passes.now) (leaks_of c.args.found.now.items) (leaks_of c.check_outs.new.leaks.items))
    c.in_ok-base.ensures.hand c.in_ok-check_outs.ensures.leaks in
    let moved : Changes g.R.Store.Means c.settle.new.self (λ s. Given (all_moved c.args.table.now c.deref.result.now (map (passed_of c.args.hand.now) c.args.passes.now) s)) c.note_moves.new.memory =
    subst (λ (zs : List ℤ). Changes g.R.Store.Means c.settle.new.self (λ s. Given (all_moved c.args.table.now c.deref.result.now (map (passed_of zs) c.args.passes.now) s)) c.note_moves.new.memory)
    (c.check_outs.ensures.hand ∙ c.in_ok-base.ensures.hand) c.in_ok-note_moves.ensures.moved in
    begins g.R.Store.Means c.args.table.now (sub_of c.args.codes.now c.args.sub) (map (passed_of c.args.hand.now) c.args.passes.now) c.args.memory.now c.fill_frame.new.memory c.in_ok-base.ensures.placed c.settle.new.self c.settle.ensures.settled
    c.deref.result.now same (leaks_of c.args.found.now.items) (leaks_of c.check_outs.new.leaks.items) told c.note_moves.new.memory moved
    c.settle-2.new.self c.settle-2.ensures.settled
