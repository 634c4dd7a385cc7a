use Rattle.std.proofs.Common.{◌≡◌, ◌++◌}
use Rattle.typed_tree.specs.Nodes.{typed_code_at}
use Rattle.run_codes.specs.Programs.{choices_of}
use Rattle.code_rows.specs.Points.{AreSound, RowsGrew}
use Rattle.program_lowering.specs.Arounds.{choices_in}
use Rattle.program_lowering.proofs.choices.alternative.Given as goal

abbrev pub invariant-choices : goal.invariant-choices
invariant-choices l =
    AreSound l.rows
    × RowsGrew l.initial.rows l.rows
    × (choices_in l.initial.rows ++ choices_of l.next (typed_code_at l.code l.list) ≡ choices_in l.rows ++ choices_of l.next (typed_code_at l.code l.at))

abbrev pub decreases-choices : goal.decreases-choices
decreases-choices l = l.at
