use Rattle.std.proofs.Common.{sym, subst}
use Rattle.code_rows.specs.declared.point.Does.{Does}
use Rattle.run_results.specs.Results.{leaks_of}
use Rattle.slot_goings.specs.Changes.{ValuesChange, Changing}
use Rattle.slot_goings.proofs.values.change_values.Goals as goal

pub returns-in-Assign-clause-left : goal.returns-in-Assign-clause-left
returns-in-Assign-clause-left g c =
    let P : Does → Type 0 = λ d. Changing g.R.Store.Means c.args.memory.now (ValuesChange c.args.table.now c.args.rows.now c.args.point d) c.assign_value.result
    (leaks_of c.assign_value.new.found.items) c.assign_value.new.memory in
    subst P (sym c.in-Assign.is) c.assign_value.ensures.left

pub returns-in-Release-clause-left : goal.returns-in-Release-clause-left
returns-in-Release-clause-left g c =
    let P : Does → Type 0 = λ d. Changing g.R.Store.Means c.args.memory.now (ValuesChange c.args.table.now c.args.rows.now c.args.point d) c.release_place.result
    (leaks_of c.release_place.new.found.items) c.release_place.new.memory in
    subst P (sym c.in-Release.is) c.release_place.ensures.left
