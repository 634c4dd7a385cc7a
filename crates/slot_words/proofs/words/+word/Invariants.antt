use Rattle.std.specs.Prelude.{◌+◌, ◌*◌, max}
use Rattle.slot_words.proofs.words.+word.Given as goal

abbrev pub decreases-word : goal.decreases-word
decreases-word g l = 3 * l.n + 1

abbrev pub decreases-operand : goal.decreases-operand
decreases-operand g l = 3 * l.n + 2

abbrev pub decreases-names : goal.decreases-names
decreases-names g l = 3 * l.n + 1

abbrev pub decreases-local_at : goal.decreases-local_at
decreases-local_at g l = 3 * l.index + 3

abbrev pub decreases-global_at : goal.decreases-global_at
decreases-global_at g l = 3 * l.index + 3

abbrev pub decreases-via : goal.decreases-via
decreases-via g l = 3 * l.pointer + 3

abbrev pub decreases-via_at : goal.decreases-via_at
decreases-via_at g l = 3 * (max l.pointer l.index) + 3

abbrev pub decreases-binary : goal.decreases-binary
decreases-binary g l = 3 * (max l.left l.right) + 3

abbrev pub decreases-with_number : goal.decreases-with_number
decreases-with_number g l = 3 * l.left + 3

abbrev pub decreases-unary : goal.decreases-unary
decreases-unary g l = 3 * l.operand + 3

abbrev pub decreases-short : goal.decreases-short
decreases-short g l = 3 * (max l.left l.right) + 3

abbrev pub decreases-is_null : goal.decreases-is_null
decreases-is_null g l = 3 * l.pointer + 3

abbrev pub decreases-element : goal.decreases-element
decreases-element g l = 3 * l.index + 3

abbrev pub decreases-sum : goal.decreases-sum
decreases-sum g l = 3 * (max l.left l.right) + 3
