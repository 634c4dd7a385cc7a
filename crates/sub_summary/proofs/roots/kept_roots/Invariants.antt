use Rattle.std.proofs.Common.{◌≡◌, take, []}
use Rattle.program_typing.specs.Typings.{typing}
use Rattle.sub_summary.specs.FactLists.{with_roots}
use Rattle.sub_summary.proofs.roots.kept_roots.Given as goal

abbrev pub invariant-facts : goal.invariant-facts
invariant-facts l = l.roots.keys ≡ with_roots (typing l.program) [] (take l.fact-index l.facts)
