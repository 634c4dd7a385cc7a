use Rattle.std.specs.Prelude.{◌+◌, ◌*◌, max}
use Rattle.slot_words.proofs.quick.+quick.Given as goal

abbrev pub decreases-quick : goal.decreases-quick
decreases-quick g l = 3 * l.n + 2

abbrev pub decreases-deep : goal.decreases-deep
decreases-deep g l = 3 * l.n + 1

abbrev pub decreases-binary : goal.decreases-binary
decreases-binary g l = 3 * (max l.left l.right) + 3

abbrev pub decreases-with_number : goal.decreases-with_number
decreases-with_number g l = 3 * l.left + 3

abbrev pub decreases-element : goal.decreases-element
decreases-element g l = 3 * l.index + 3

abbrev pub decreases-local_at : goal.decreases-local_at
decreases-local_at g l = 3 * l.index + 3
