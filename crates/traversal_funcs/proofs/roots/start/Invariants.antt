use Rattle.std.proofs.Common.{take}
use Rattle.program_typing.specs.Typings.{typing}
use Rattle.traversal_funcs.specs.Searches.{Spread, starts_of}
use Rattle.traversal_funcs.proofs.roots.start.Given as goal

abbrev pub invariant-lendings : goal.invariant-lendings
invariant-lendings l =
    Spread (starts_of (typing l.known) l.question (take l.lending-index l.lendings)) l.initial.found.keys l.initial.work.items l.found.keys l.work.items
