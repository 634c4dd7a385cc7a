use Rattle.std.proofs.Common.{◌+◌, ◌-◌, vec_len}
use Rattle.expression_types.specs.IndexLists.{HasNoNew}
use Rattle.expression_types.proofs.index_lists.make_room.Given as goal

abbrev pub invariant-numbers : goal.invariant-numbers
invariant-numbers l = HasNoNew l.initial.indexes.items l.indexes.items

abbrev pub decreases-numbers : goal.decreases-numbers
decreases-numbers l = l.number + 1 - vec_len l.indexes
