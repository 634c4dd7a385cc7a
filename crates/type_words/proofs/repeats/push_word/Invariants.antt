use Rattle.std.proofs.Common.{◌≡◌, ◌-◌, ◌++◌, replicate}
use Rattle.type_words.proofs.repeats.push_word.Given as goal

abbrev pub invariant-left : goal.invariant-left
invariant-left l = record {
  done : l.words.items ++ replicate l.left l.word ≡ l.initial.words.items ++ replicate l.times l.word;
}

abbrev pub decreases-left : goal.decreases-left
decreases-left l = l.left - 64
