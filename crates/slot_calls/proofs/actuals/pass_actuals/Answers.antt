use Rattle.std.proofs.Common.{◌≡◌, ◌<◌, ◌≤◌, ◌+◌, ◌++◌, ◌∷◌, [], List, length, map, drop, refl, sym, subst, ◌∙◌, rules}
use Rattle.code_rows.specs.Points.{actual_of}
use Rattle.slot_calls.specs.declared.actuals.Pass.{Pass}
use Rattle.slot_calls.specs.Calls.{passed_of, AreWithin}
use Rattle.slot_calls.proofs.Passing.{Follows, follows_first, row_passable, rows_passable, rows_next, rows_stop, rows_done}
use Rattle.slot_calls.proofs.actuals.pass_actuals.Goals as goal

pub pass_actual-requires-clause-whole : goal.pass_actual-requires-clause-whole
pass_actual-requires-clause-whole g c =
    let below : c.actuals.i < length c.args.actuals.now = search rules in
    row_passable g.R.Store.Means c.args.table.now c.args.rows.now c.args.actuals.now c.actuals.i _ below c.actuals.memory c.actuals.invariant.1

pub actuals-preserved : goal.actuals-preserved
actuals-preserved g c =
    let below : c.actuals.i < length c.args.actuals.now = search rules in
    let on = rows_next g.R.Store.Means c.args.table.now c.args.rows.now c.args.actuals.now c.actuals.i _ below c.args.memory.now c.actuals.memory
    (map (actual_of c.args.rows.now) c.args.actuals.now) c.actuals.passes.items c.actuals.hand c.actuals.invariant.0 c.in-Ok.pass c.pass_actual.new.hand c.pass_actual.new.memory
    c.actuals.invariant.1 c.actuals.invariant.2 c.in-Ok.ensures.passed in
    let able = rows_passable g.R.Store.Means c.args.table.now c.args.rows.now c.args.actuals.now c.actuals.i _ below c.actuals.memory c.pass_actual.new.memory c.in-Ok.pass
    c.actuals.hand c.pass_actual.new.hand c.actuals.invariant.1 c.in-Ok.ensures.passed in
    let more : c.push_pass.new.passes.items ≡ c.actuals.passes.items ++ c.in-Ok.pass ∷ [] = search rules in (
      subst (λ (ps : List Pass). Follows g.R.Store.Means c.args.memory.now c.args.table.now (map (actual_of c.args.rows.now) c.args.actuals.now)
          (map (passed_of c.pass_actual.new.hand) ps) (map (actual_of c.args.rows.now) (drop (c.actuals.i + 1) c.args.actuals.now)) c.pass_actual.new.memory) (sym more) on.0,
      able,
      subst (λ (ps : List Pass). AreWithin (length c.pass_actual.new.hand) ps) (sym more) on.1,
      c.in-Ok.ensures.elsewhere ∙ c.actuals.invariant.3,
    )

pub actuals-init : goal.actuals-init
actuals-init g c = (
  subst (λ (ps : List Pass). Follows g.R.Store.Means c.args.memory.now c.args.table.now (map (actual_of c.args.rows.now) c.args.actuals.now) (map (passed_of c.args.hand.now) ps)
      (map (actual_of c.args.rows.now) c.args.actuals.now) c.args.memory.now) (sym c.requires.none)
      (follows_first g.R.Store.Means c.args.memory.now c.args.table.now (map (actual_of c.args.rows.now) c.args.actuals.now)),
  c.requires.whole,
  subst (λ (ps : List Pass). AreWithin (length c.args.hand.now) ps) (sym c.requires.none) tt,
  refl,
)

pub returns-in-Err-clause-passed : goal.returns-in-Err-clause-passed
returns-in-Err-clause-passed g c =
    let below : c.actuals.i < length c.args.actuals.now = search rules in
    rows_stop g.R.Store.Means c.args.table.now c.args.rows.now c.args.actuals.now c.actuals.i _ below c.args.memory.now c.actuals.memory
    (map (actual_of c.args.rows.now) c.args.actuals.now) c.actuals.passes.items c.actuals.hand c.actuals.invariant.0 c.in-Err.stop c.pass_actual.new.hand
    (map (passed_of c.pass_actual.new.hand) c.actuals.passes.items) c.pass_actual.new.memory c.in-Err.ensures.passed

pub returns-clause-passed : goal.returns-clause-passed
returns-clause-passed g c =
    let le : length c.args.actuals.now ≤ c.actuals.i = search rules in
    rows_done g.R.Store.Means c.args.table.now c.args.rows.now c.args.actuals.now c.actuals.i tt c.args.memory.now c.actuals.memory
    (map (actual_of c.args.rows.now) c.args.actuals.now) (map (passed_of c.actuals.hand) c.actuals.passes.items) le c.actuals.invariant.0
