use Rattle.std.proofs.Common.{◌≡◌, ◌++◌, drop}
use Rattle.std.specs.Prelude.{filter}
use Rattle.bare_points.specs.Spans.{ends_of}
use Rattle.bare_points.proofs.own_objects.owned.Given as goal

abbrev pub invariant-found : goal.invariant-found
invariant-found l =
    l.made.items ++ filter (ends_of l.ends) (drop l.x-index l.x-items) ≡ filter (ends_of l.ends) l.x-items
