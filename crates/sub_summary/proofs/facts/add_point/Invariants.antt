use Rattle.std.proofs.Common.{◌≡◌, ◌≤◌, flat_map, take, length}
use Rattle.spark_base.specs.declared.limits.TheConstants.{FACTS}
use Rattle.place_names.specs.declared.act.Placed.{Placed}
use Rattle.place_names.specs.Facts.{adds}
use Rattle.sub_summary.specs.FactLists.{with_facts}
use Rattle.sub_summary.proofs.facts.add_point.Given as goal

abbrev pub invariant-acts : goal.invariant-acts
invariant-acts l =
    (l.found ≡ with_facts l.initial.found (flat_map (λ (a : Placed). adds a.act) (take l.placed-index l.acts)))
    × (length l.found ≤ FACTS)
