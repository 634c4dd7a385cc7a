use Rattle.std.proofs.Common.{rules, ◌≡◌, ◌+◌, slice_range, sym, subst, IsTrue}
use Rattle.std.specs.List.{list_all}
use Rattle.code_rows.specs.Points.{is_actual_there}
use Rattle.slot_called.proofs.Tested.{sound_actuals}
use Rattle.slot_called.proofs.passes.pass_all.Goals as goal

pub pass_actuals-requires-clause-there : goal.pass_actuals-requires-clause-there
pass_actuals-requires-clause-there g c =
    let is : c.deref.result.now ≡ c.args.rows.now.actuals.items = search rules in
    subst (λ xs. IsTrue (list_all (is_actual_there c.args.rows.now) (slice_range xs c.args.actuals.first (c.args.actuals.first + c.args.actuals.count))))
    (sym is) (sound_actuals c.args.rows.now c.args.actuals c.requires.sound)
