use Rattle.std.proofs.Common.{◌≡◌, take, false}
use Rattle.std.specs.List.{list_any}
use Rattle.place_names.specs.Facts as facts
use Rattle.sub_summary.proofs.facts.number_of.Given as goal

abbrev pub invariant-found : goal.invariant-found
invariant-found l = list_any (λ f. facts.is_same_fact f l.fact) (take l.i l.found) ≡ false
