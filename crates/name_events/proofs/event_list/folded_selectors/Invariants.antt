use Rattle.std.proofs.Common.{◌≡◌, ◌++◌}
use Rattle.std.specs.Prelude.{drop}
use Rattle.name_events.specs.ExpressionOutline.{leading}
use Rattle.name_events.proofs.event_list.folded_selectors.Given as goal

abbrev pub invariant-turns : goal.invariant-turns
invariant-turns l = l.made ++ leading (drop l.suffix-index l.suffixes) ≡ leading l.suffixes
