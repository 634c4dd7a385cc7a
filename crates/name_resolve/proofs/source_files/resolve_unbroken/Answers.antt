use Rattle.std.proofs.Common.{ap, ◌∙◌, map}
use Rattle.name_events.specs.KnownBehind.{known_at_first}
use Rattle.name_resolve.specs.Infos.{info}
use Rattle.name_resolve.specs.OfEvents.{known_of_events}
use Rattle.name_resolve.proofs.Files.{infos_are}
use Rattle.name_resolve.proofs.source_files.resolve_unbroken.Goals as goal

pub returns-clause-fault : goal.returns-clause-fault
returns-clause-fault c = c.in_ok-pass.ensures.fault known_at_first c.in_ok-first.ensures

pub returns-clause-decls : goal.returns-clause-decls
returns-clause-decls c =
    c.in_ok-decls.ensures.ok
    ∙ ap (map info) (c.deref.ensures.value ∙ (c.in_ok-pass.ensures.behind known_at_first c.in_ok-first.ensures).declarations.all)
    ∙ infos_are (known_of_events c.args.events.now).declared

pub returns-clause-denotes : goal.returns-clause-denotes
returns-clause-denotes c = c.in_ok-pass.ensures.denotes known_at_first c.in_ok-first.ensures

pub returns-clause-identified : goal.returns-clause-identified
returns-clause-identified c = c.in_ok-pass.ensures.identified known_at_first c.in_ok-first.ensures
