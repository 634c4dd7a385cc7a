use Rattle.std.proofs.Common.{◌≡◌, ◌≤◌, List, length, take, reverse, Some}
use Rattle.name_events.specs.Declarations.{Name, innermost}
use Rattle.name_resolve.specs.Tables.{searched, symbol_of}
use Rattle.name_resolve.proofs.table.Table.innermost_at.Given as goal

abbrev pub invariant-frames : goal.invariant-frames
invariant-frames l =
    (l.left ≤ length l.around)
    × ((words : List Name) (word : Name) → symbol_of words word ≡ Some l.symbol
    → innermost (searched words l.self) (reverse l.around) word ≡ innermost (searched words l.self) (reverse (take l.left l.around)) word)

abbrev pub decreases-frames : goal.decreases-frames
decreases-frames l = l.left
