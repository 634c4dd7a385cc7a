use Rattle.std.proofs.Common.{take}
use Rattle.std.specs.List.{list_any}
use Rattle.call_effects.specs.Uses.{laid_calls}
use Rattle.call_effects.specs.Rows.{IsFiled}
use Rattle.call_effects.proofs.uses.file_calls.Given as goal

abbrev pub invariant-points : goal.invariant-points
invariant-points l = IsFiled l.p (λ g. list_any (laid_calls g) (take l.point-index l.points)) l.initial.callers.items l.callers.items
