use Rattle.std.proofs.Common.{◌≡◌, true, drop}
use Rattle.name_events.specs.Known.{Known}
use Rattle.name_resolve.specs.Awaited.{are_completed}
use Rattle.name_resolve.specs.Stands.{Stands}
use Rattle.name_resolve.proofs.one_pass.completions.Given as goal

abbrev pub invariant-turns : goal.invariant-turns
invariant-turns l =
    (whole : Known) → Stands l.behind whole
    → are_completed (drop l.declaration-index l.awaited) whole ≡ true → are_completed l.awaited whole ≡ true
