use Rattle.std.proofs.Common.{◌≡◌, take, false}
use Rattle.std.specs.List.{list_any}
use Rattle.std.specs.Cmp.Lexicographic.{pointwise}
use Rattle.place_names.specs.Names.{is_equal}
use Rattle.state_trees.proofs.effect.part_with.Given as goal

abbrev pub invariant-parts : goal.invariant-parts
invariant-parts l = list_any (λ part. pointwise is_equal part l.steps) (take l.i l.parts) ≡ false
