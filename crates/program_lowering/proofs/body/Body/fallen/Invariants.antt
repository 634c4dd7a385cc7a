use Rattle.std.proofs.Common.{◌≡◌, ◌++◌, map, drop}
use Rattle.run_codes.specs.Programs as programs
use Rattle.code_rows.specs.Points.{program_of, IsWhole}
use Rattle.program_lowering.specs.Bodies.{points_in}
use Rattle.program_lowering.proofs.body.Body.fallen.Given as goal

abbrev pub invariant-points : goal.invariant-points
invariant-points l =
    IsWhole l.codes
    × ((program_of l.codes).points ++ map programs.fallen (points_in l.self (drop l.point-index l.points))
    ≡ (program_of l.initial.codes).points ++ map programs.fallen (points_in l.self l.points))
    × ((program_of l.codes).subs ≡ (program_of l.initial.codes).subs)
    × (l.codes.main ≡ l.initial.codes.main)
