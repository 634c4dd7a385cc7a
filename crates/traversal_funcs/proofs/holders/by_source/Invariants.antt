use Rattle.std.proofs.Common.{take}
use Rattle.traversal_funcs.specs.Lendings.{AreHolders}
use Rattle.traversal_funcs.proofs.holders.by_source.Given as goal

abbrev pub invariant-lendings : goal.invariant-lendings
invariant-lendings l = AreHolders l.made.entries (take l.lending-index l.lendings)
