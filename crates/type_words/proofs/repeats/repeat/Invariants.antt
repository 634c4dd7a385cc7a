use Rattle.std.proofs.Common.{◌≡◌, ◌≤◌, ◌-◌, ◌++◌, length, drop}
use Rattle.type_words.specs.Parts.{copies}
use Rattle.type_words.proofs.Copies.{Begins}
use Rattle.type_words.proofs.repeats.repeat.Given as goal

abbrev pub invariant-times : goal.invariant-times
invariant-times g l = record {
  done : l.items.items ++ copies (l.times - l._time) (drop l.first l.initial.items.items) ≡ l.initial.items.items ++ copies l.times (drop l.first l.initial.items.items);
  front : Begins l.initial.items.items l.items.items;
  more : length l.initial.items.items ≤ length l.items.items;
  end : l.end ≡ length l.initial.items.items;
}
