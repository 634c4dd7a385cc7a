use Rattle.std.proofs.Common.{◌≡◌, ◌+◌, ◌*◌, ◌++◌, drop}
use Rattle.machine.specs.Words.{default_within}
use Rattle.type_words.specs.Parts.{fields_words}
use Rattle.type_words.proofs.defaults.+defaults.Given as goal

abbrev pub decreases-push_within : goal.decreases-push_within
decreases-push_within l = 4 * l.room

abbrev pub decreases-push_found : goal.decreases-push_found
decreases-push_found l = 4 * l.room + 3

abbrev pub decreases-push_shape : goal.decreases-push_shape
decreases-push_shape l = 4 * l.room + 2

abbrev pub decreases-push_fields : goal.decreases-push_fields
decreases-push_fields l = 4 * l.room + 1

abbrev pub decreases-push_elements : goal.decreases-push_elements
decreases-push_elements l = 4 * l.room + 1

abbrev pub invariant-push_fields-components : goal.invariant-push_fields-components
invariant-push_fields-components l =
    l.words.items ++ fields_words (default_within l.room l.table) (drop l.component-index l.components)
    ≡ l.initial.words.items ++ fields_words (default_within l.room l.table) l.components
