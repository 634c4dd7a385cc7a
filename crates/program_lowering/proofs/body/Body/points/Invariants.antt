use Rattle.std.proofs.Common.{◌≡◌, drop, Some}
use Rattle.run_codes.specs.Programs.{append_all, all_points}
use Rattle.code_rows.specs.Points.{program_of, IsWhole}
use Rattle.program_lowering.specs.Bodies.{body, points_in}
use Rattle.program_lowering.proofs.body.Body.points.Given as goal

abbrev pub invariant-points : goal.invariant-points
invariant-points l =
    IsWhole l.codes
    × (append_all (Some (program_of l.initial.codes).points) (all_points (body l.self) (points_in l.self l.points))
    ≡ append_all (Some (program_of l.codes).points) (all_points (body l.self) (points_in l.self (drop l.point-index l.points))))
    × ((program_of l.codes).subs ≡ (program_of l.initial.codes).subs)
    × (l.codes.main ≡ l.initial.codes.main)
