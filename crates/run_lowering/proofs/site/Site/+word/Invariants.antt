use Rattle.std.specs.Prelude.{◌+◌, ◌*◌, max}
use Rattle.run_lowering.proofs.site.Site.+word.Given as goal

abbrev pub decreases-word : goal.decreases-word
decreases-word l = 4 * l.n + 3

abbrev pub decreases-unary_word : goal.decreases-unary_word
decreases-unary_word l = 4 * l.operand + 4

abbrev pub decreases-binary_word : goal.decreases-binary_word
decreases-binary_word l = 4 * (max l.left l.right) + 4

abbrev pub decreases-short_word : goal.decreases-short_word
decreases-short_word l = 4 * l.n + 2

abbrev pub decreases-name_word : goal.decreases-name_word
decreases-name_word l = 4 * l.n + 2

abbrev pub decreases-place : goal.decreases-place
decreases-place l = 4 * l.n + 1

abbrev pub decreases-led : goal.decreases-led
decreases-led l = 4 * l.steps + 1

abbrev pub decreases-indexed : goal.decreases-indexed
decreases-indexed l = 4 * l.index + 4
