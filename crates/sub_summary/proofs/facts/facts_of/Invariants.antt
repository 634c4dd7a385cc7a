use Rattle.std.proofs.Common.{◌≡◌, ◌≤◌, flat_map, take, length, []}
use Rattle.spark_base.specs.declared.limits.TheConstants.{FACTS}
use Rattle.place_names.specs.Facts.{adds}
use Rattle.sub_summary.specs.FactLists.{with_facts}
use Rattle.sub_summary.specs.Gathered.{acts_of}
use Rattle.sub_summary.proofs.facts.facts_of.Given as goal

abbrev pub invariant-points : goal.invariant-points
invariant-points l =
    (l.found ≡ with_facts [] (flat_map adds (flat_map acts_of (take l.point-index l.points)))) × (length l.found ≤ FACTS)
