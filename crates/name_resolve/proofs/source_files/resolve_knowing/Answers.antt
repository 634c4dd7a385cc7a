use Rattle.std.proofs.Common.{sym, subst, ap, ◌∙◌, map}
use Rattle.name_events.specs.KnownBehind.{known_at_first}
use Rattle.name_resolve.specs.Infos.{info}
use Rattle.name_resolve.specs.Judges.{Says}
use Rattle.name_resolve.specs.OfEvents.{fault_of_events, known_of_events}
use Rattle.name_resolve.proofs.Files.{infos_are}
use Rattle.name_resolve.proofs.Occurrences.{handed_on, memory_says}
use Rattle.name_resolve.proofs.source_files.resolve_knowing.Goals as goal

pub returns-in_err-known-clause-fault : goal.returns-in_err-known-clause-fault
returns-in_err-known-clause-fault c =
    memory_says _ c.from_residual-in_err-known.result (fault_of_events c.args.events.now)
    c.from_residual-in_err-known.ensures.0 c.from_residual-in_err-known.ensures.1

pub returns-in_err-found-clause-fault : goal.returns-in_err-found-clause-fault
returns-in_err-found-clause-fault c =
    handed_on _ c.from_residual-in_err-found.result _ c.in_err-found.field-0.0 (fault_of_events c.args.events.now)
    c.from_residual-in_err-found.ensures.0 c.from_residual-in_err-found.ensures.1 (λ r h. h)
    (c.in_err-found.ensures.fault (known_of_events c.args.events.now) known_at_first
    (c.in_ok-whole.ensures known_at_first c.in_ok-first.ensures) c.in_ok-known.ensures)

pub returns-in_err-decls-clause-fault : goal.returns-in_err-decls-clause-fault
returns-in_err-decls-clause-fault c =
    handed_on _ c.from_residual-in_err-decls.result _ c.in_err-decls.field-0.0 (fault_of_events c.args.events.now)
    c.from_residual-in_err-decls.ensures.0 c.from_residual-in_err-decls.ensures.1 (λ r h. h)
    (subst (λ r. Says r (fault_of_events c.args.events.now)) (sym c.in_err-decls.ensures.memory) tt)

pub returns-clause-fault : goal.returns-clause-fault
returns-clause-fault c =
    c.in_ok-found.ensures.fault (known_of_events c.args.events.now) known_at_first
    (c.in_ok-whole.ensures known_at_first c.in_ok-first.ensures) c.in_ok-known.ensures

pub returns-clause-decls : goal.returns-clause-decls
returns-clause-decls c =
    c.in_ok-decls.ensures.ok
    ∙ ap (map info) (c.deref.ensures.value ∙ (c.in_ok-whole.ensures known_at_first c.in_ok-first.ensures).declarations.all)
    ∙ infos_are (known_of_events c.args.events.now).declared

pub returns-clause-denotes : goal.returns-clause-denotes
returns-clause-denotes c =
    c.in_ok-found.ensures.denotes (known_of_events c.args.events.now) known_at_first
    (c.in_ok-whole.ensures known_at_first c.in_ok-first.ensures) c.in_ok-known.ensures

pub returns-clause-identified : goal.returns-clause-identified
returns-clause-identified c =
    c.in_ok-found.ensures.identified (known_of_events c.args.events.now) known_at_first
    (c.in_ok-whole.ensures known_at_first c.in_ok-first.ensures) c.in_ok-known.ensures
