use Rattle.std.proofs.Common.{◌≡◌, ◌++◌, drop}
use Rattle.handled_runs.specs.Leaks.{leaks_in}
use Rattle.run_results.specs.Results.{leaks_of}
use Rattle.slot_memory.specs.Memory.{Ghosts, Stands}
use Rattle.slot_hand.proofs.words.push_leaks.Given as goal

abbrev pub invariant-offsets : goal.invariant-offsets
invariant-offsets g l =
    (s : Ghosts) → Stands g.R.Store.Means l.memory s
    → leaks_of l.leaks.items ++ leaks_in s.numbers l.pos l.words (drop l.i l.offsets) ≡ leaks_of l.initial.leaks.items ++ leaks_in s.numbers l.pos l.words l.offsets
