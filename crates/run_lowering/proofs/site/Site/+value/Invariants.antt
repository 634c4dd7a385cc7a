use Rattle.std.proofs.Common.{◌≤◌, ◌+◌, ◌*◌, IsTrue}
use Rattle.code_rows.specs.Values.{are_within, AllGrew}
use Rattle.run_lowering.specs.Sites.{site, tree}
use Rattle.run_lowering.specs.Aggregates.{Gathers}
use Rattle.run_lowering.proofs.site.Site.+value.Given as goal

abbrev pub decreases-value : goal.decreases-value
decreases-value l = 4 * l.n + 3

abbrev pub decreases-part_values : goal.decreases-part_values
decreases-part_values l = 4 * l.list + 5

abbrev pub decreases-aggregate : goal.decreases-aggregate
decreases-aggregate l = 4 * l.list + 6

abbrev pub decreases-alike : goal.decreases-alike
decreases-alike l = 4 * l.n + 4

abbrev pub decreases-made : goal.decreases-made
decreases-made l = 4 * l.list + 6

abbrev pub decreases-first_value : goal.decreases-first_value
decreases-first_value l = 4 * l.list + 5

abbrev pub invariant-part_values-parts : goal.invariant-part_values-parts
invariant-part_values-parts l = record {
  gathers : Gathers (site l.self) l.nodes l.fills l.k l.of (tree l.self l.list) l.values.items l.taken (tree l.self l.at);
  grew : AllGrew l.initial.nodes l.initial.fills l.nodes l.fills;
  all : IsTrue (are_within l.nodes l.fills);
  below : l.at ≤ l.list;
}

abbrev pub decreases-part_values-parts : goal.decreases-part_values-parts
decreases-part_values-parts l = l.at
