use Rattle.std.proofs.Common.{◌≡◌, List, drop}
use Rattle.std.specs.List.{list_any}
use Rattle.place_names.specs.declared.selector.Sel.{Sel}
use Rattle.place_names.specs.Names.{extend}
use Rattle.flow_paths.specs.Limits.{is_deep}
use Rattle.flow_acts.proofs.depths.has_deep_part.Given as goal

abbrev pub invariant-parts : goal.invariant-parts
invariant-parts l =
    list_any (λ (q : List Sel). is_deep (extend l.name q)) (drop l.part-index l.parts)
    ≡ list_any (λ (q : List Sel). is_deep (extend l.name q)) l.parts
