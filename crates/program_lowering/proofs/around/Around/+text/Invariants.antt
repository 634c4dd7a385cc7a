use Rattle.std.specs.Prelude.{◌+◌, ◌*◌, max}
use Rattle.program_lowering.proofs.around.Around.+text.Given as goal

abbrev pub decreases-text : goal.decreases-text
decreases-text l = 2 * l.n + 1

abbrev pub decreases-joined : goal.decreases-joined
decreases-joined l = 2 * (max l.left l.right) + 2
