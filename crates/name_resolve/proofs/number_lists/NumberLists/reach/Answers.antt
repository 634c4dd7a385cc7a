use Rattle.std.proofs.Common.{◌∙◌}
use Rattle.std.proofs.lemmas.List.{map-append}
use Rattle.name_resolve.proofs.Lists.{listed_pushed}
use Rattle.name_resolve.proofs.number_lists.NumberLists.reach.Goals as goal

pub turns-preserved : goal.turns-preserved
turns-preserved c r =
    rw (c.in_ok-push.ensures.items, map-append, c.new.ensures.items) (listed_pushed _ r ∙ c.turns.invariant r)
