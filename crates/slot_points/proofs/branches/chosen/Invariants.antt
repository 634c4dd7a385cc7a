use Rattle.std.proofs.Common.{◌≡◌, map, drop}
use Rattle.run_codes.specs.Points.{chosen}
use Rattle.code_rows.specs.Points.{choice_of}
use Rattle.slot_points.proofs.branches.chosen.Given as goal

abbrev pub invariant-choices : goal.invariant-choices
invariant-choices l = chosen l.word (map choice_of (drop l.choice-index l.choices)) ≡ chosen l.word (map choice_of l.choices)
