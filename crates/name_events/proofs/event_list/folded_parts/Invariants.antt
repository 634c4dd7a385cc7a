use Rattle.std.proofs.Common.{◌≡◌, map}
use Rattle.std.specs.Prelude.{take}
use Rattle.name_events.specs.ExpressionOutline.{folded_identifier, part_name}
use Rattle.name_events.proofs.event_list.folded_parts.Given as goal

abbrev pub invariant-turns : goal.invariant-turns
invariant-turns l = l.made ≡ map (λ p. folded_identifier (part_name p)) (take l.part-index l.parts)
