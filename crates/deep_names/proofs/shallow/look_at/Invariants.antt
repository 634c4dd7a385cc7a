use Rattle.std.proofs.Common.{◌≡◌, drop}
use Rattle.std.specs.List.{list_any}
use Rattle.deep_names.specs.Found.{is_past}
use Rattle.deep_names.proofs.shallow.look_at.Given as goal

abbrev pub invariant-parts : goal.invariant-parts
invariant-parts l = list_any (is_past 0) (drop l.part-index l.parts) ≡ list_any (is_past 0) l.parts
