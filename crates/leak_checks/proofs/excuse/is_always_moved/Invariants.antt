use Rattle.std.proofs.Common.{◌≡◌, drop}
use Rattle.place_names.specs.declared.fact.Fact.TheVariants.{Moved}
use Rattle.leak_checks.specs.Lines.{none_lacks, always_moved}
use Rattle.leak_checks.proofs.excuse.is_always_moved.Given as goal

abbrev pub invariant-numbers : goal.invariant-numbers
invariant-numbers l = none_lacks (drop l.i l.tree.facts) (drop l.i l.tree.lacks) (Moved l.name) ≡ always_moved l.tree l.name
