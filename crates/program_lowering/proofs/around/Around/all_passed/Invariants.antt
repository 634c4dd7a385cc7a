use Rattle.std.proofs.Common.{◌≡◌, map, drop, Some}
use Rattle.spark_base.specs.declared.position.Pos.{Pos}
use Rattle.program_typing.specs.Passings.{passing_of}
use Rattle.run_codes.specs.Programs.{append_all, actuals}
use Rattle.run_lowering.specs.Sites.{site}
use Rattle.code_rows.specs.Points.{AreSound, RowsGrew}
use Rattle.program_lowering.specs.Arounds.{tree, actuals_in}
use Rattle.program_lowering.proofs.around.Around.all_passed.Given as goal

abbrev pub invariant-formals : goal.invariant-formals
invariant-formals l =
    AreSound l.rows
    × RowsGrew l.initial.rows l.rows
    × ((p : Pos) → append_all (Some (actuals_in l.initial.rows)) (actuals (site l.self.site) p 0 (map passing_of l.fn.ways) l.formals (tree l.self l.list))
    ≡ append_all (Some (actuals_in l.rows)) (actuals (site l.self.site) p l.taken (map passing_of l.ways) (drop l.formal-index l.formals) (tree l.self l.at)))
