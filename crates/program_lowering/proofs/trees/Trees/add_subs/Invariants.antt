use Rattle.std.proofs.Common.{◌≡◌, ◌++◌, true, map, drop, length, Some}
use Rattle.flow_paths.specs.Stands.{flow_sub_of}
use Rattle.program_typing.specs.Typings.{typing}
use Rattle.run_codes.specs.Programs.{append_all, points_from, sub_rows}
use Rattle.run_lowering.specs.Offsets.{kept_in}
use Rattle.run_lowering.specs.Frames.{HasRooms}
use Rattle.code_rows.specs.Points.{program_of, IsWhole}
use Rattle.program_lowering.proofs.trees.Trees.add_subs.Given as goal

abbrev pub invariant-subs : goal.invariant-subs
invariant-subs l =
    IsWhole l.codes
    × HasRooms l.frame
    × (points_from (typing l.self.typing) (map kept_in l.packages.kept.items) 0 true (map (flow_sub_of l.self.rows.now) l.subs)
    ≡ append_all (Some (program_of l.codes).points) (points_from (typing l.self.typing) (map kept_in l.packages.kept.items) (length (program_of l.codes).points) l.is_first (map (flow_sub_of l.self.rows.now) (drop l.sub-index l.subs))))
    × (sub_rows (typing l.self.typing) 0 (map (flow_sub_of l.self.rows.now) l.subs)
    ≡ (program_of l.codes).subs ++ sub_rows (typing l.self.typing) (length (program_of l.codes).points) (map (flow_sub_of l.self.rows.now) (drop l.sub-index l.subs)))
    × (l.codes.main ≡ l.initial.codes.main)
