use Rattle.std.proofs.Common.{take}
use Rattle.traversal_funcs.specs.Searches.{Spread}
use Rattle.traversal_funcs.proofs.roots.spread.Given as goal

abbrev pub invariant-holders : goal.invariant-holders
invariant-holders l = Spread (take l.holder-index l.holders) l.initial.found.keys l.initial.work.items l.found.keys l.work.items
