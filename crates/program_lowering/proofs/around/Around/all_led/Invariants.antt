use Rattle.std.proofs.Common.{◌≡◌, map, drop, Some}
use Rattle.typed_tree.specs.Nodes.{typed_code_at}
use Rattle.run_codes.specs.Programs.{append_all, alternatives}
use Rattle.code_rows.specs.Points.{AreSound, RowsGrew}
use Rattle.program_lowering.specs.Arounds.{around, point_in, choices_in}
use Rattle.program_lowering.proofs.around.Around.all_led.Given as goal

abbrev pub invariant-lists : goal.invariant-lists
invariant-lists l =
    AreSound l.rows
    × RowsGrew l.initial.rows l.rows
    × (l.k ≡ l.list-index)
    × (append_all (Some (choices_in l.initial.rows)) (alternatives (around l.self) (point_in l.self l.p) 0 (map (typed_code_at l.self.code.now) l.lists))
    ≡ append_all (Some (choices_in l.rows)) (alternatives (around l.self) (point_in l.self l.p) l.list-index (map (typed_code_at l.self.code.now) (drop l.list-index l.lists))))
