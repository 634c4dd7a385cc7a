use Rattle.std.proofs.Common.{◌≡◌, map, take}
use Rattle.place_names.specs.Names as names
use Rattle.place_names.specs.declared.fact.Fact.TheVariants as fact
use Rattle.sub_summary.specs.FactLists.{with_facts}
use Rattle.sub_summary.proofs.facts.add_moves.Given as goal

abbrev pub invariant-parts : goal.invariant-parts
invariant-parts l =
    l.found ≡ with_facts l.initial.found (map (λ q. fact.Moved (names.extend l.name q)) (take l.part-index l.parts))
