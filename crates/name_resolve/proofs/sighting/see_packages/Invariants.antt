use Rattle.std.proofs.Common.{◌≡◌, drop}
use Rattle.name_events.specs.Declarations.{Name}
use Rattle.name_events.specs.Known.{Known, visible_members}
use Rattle.name_resolve.specs.Sightings.{sighted_all}
use Rattle.name_resolve.specs.Tables.{symbol_of}
use Rattle.name_resolve.specs.Stands.{DeclarationsStand}
use Rattle.name_resolve.proofs.sighting.see_packages.Given as goal

abbrev pub invariant-turns : goal.invariant-turns
invariant-turns l =
    (now : Known) (w : Name) → DeclarationsStand l.declarations now → l.symbol ≡ symbol_of l.declarations.words w
    → sighted_all l.fn.so_far (visible_members now l.numbers w) ≡ sighted_all l.seen (visible_members now (drop l.number-index l.numbers) w)
