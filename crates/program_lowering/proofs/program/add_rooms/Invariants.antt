use Rattle.std.proofs.Common.{◌≡◌, ◌++◌, map, drop}
use Rattle.program_typing.specs.Typings.{typing}
use Rattle.run_lowering.specs.Offsets.{kept_in}
use Rattle.code_rows.specs.Points.{program_of, IsWhole}
use Rattle.program_lowering.specs.Subs.{rooms_in}
use Rattle.program_lowering.proofs.program.add_rooms.Given as goal

abbrev pub invariant-kept : goal.invariant-kept
invariant-kept l =
    IsWhole l.codes
    × (program_of l.codes ≡ program_of l.initial.codes)
    × (l.codes.rooms.items ++ rooms_in (typing l.typing) (map kept_in (drop l.one-index l.kept))
    ≡ l.initial.codes.rooms.items ++ rooms_in (typing l.typing) (map kept_in l.kept))
