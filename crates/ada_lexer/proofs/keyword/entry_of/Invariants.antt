use Rattle.std.proofs.Common.{◌≡◌, length, map}
use Rattle.ada_lexer.specs.ReservedWords.{entry_of}
use Rattle.ada_lexer.proofs.keyword.entry_of.Given as goal

abbrev pub invariant-entries : goal.invariant-entries
invariant-entries l =
    entry_of (map (λ entry. (entry.0.now, entry.1)) l.table) l.word
    ≡ entry_of (map (λ entry. (entry.0.now, entry.1)) l.initial.table) l.word

abbrev pub decreases-entries : goal.decreases-entries
decreases-entries l = length l.table
