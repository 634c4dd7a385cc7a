use Rattle.std.proofs.Common.{◌≡◌, ◌≤◌, ◌+◌, ◌-◌, ◌*◌, ◌++◌, length}
use Rattle.type_definitions.specs.Types.{words}
use Rattle.machine.specs.Words.{in_each, offsets}
use Rattle.type_words.proofs.offsets.+offsets.Given as goal

abbrev pub decreases-push_part : goal.decreases-push_part
decreases-push_part l = 2 * length l.part.now

abbrev pub decreases-push_field : goal.decreases-push_field
decreases-push_field l = 2 * length l.rest.now + 1

abbrev pub decreases-push_elements : goal.decreases-push_elements
decreases-push_elements l = 2 * length l.rest.now + 1

abbrev pub invariant-push_elements-elements : goal.invariant-push_elements-elements
invariant-push_elements-elements l = record {
  done : l.offsets.items ++ in_each (l.count - l._element) (words l.table l.element) l.at (offsets l.table l.element l.rest)
      ≡ l.initial.offsets.items ++ in_each l.count (words l.table l.element) l.initial.at (offsets l.table l.element l.rest);
  more : length l.initial.offsets.items ≤ length l.offsets.items;
  none : l.none ≡ length l.initial.offsets.items;
}
