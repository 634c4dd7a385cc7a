use Rattle.std.proofs.Common.{subst, sym, ap, ◌∙◌, take, [], arith}
use Rattle.name_events.specs.KnownBehind.{known_behind, known_behind_all}
use Rattle.name_resolve.specs.Stands.{Stands}
use Rattle.name_resolve.proofs.Lists.{take_whole, taken_next}
use Rattle.name_resolve.proofs.Occurrences.{fold_push}
use Rattle.name_resolve.proofs.source_files.learned.Goals as goal

pub turns-preserved : goal.turns-preserved
turns-preserved c now s =
    subst (Stands c.learn.new.self)
    (sym (fold_push known_behind now (take c.turns.event-index c.args.events.now) c.event-item.result)
    ∙ ap (known_behind_all now) (taken_next [] c.args.events.now c.turns.event-index c.event-item.result c.turns-test.true c.event-item.is))
    (c.in_ok-learn.ensures (known_behind_all now (take c.turns.event-index c.args.events.now)) (c.turns.invariant now s))

pub returns : goal.returns
returns c now s =
    subst (λ xs. Stands c.turns.known (known_behind_all now xs))
    (take_whole c.args.events.now c.turns.event-index (omega (arith, c.turns-test.false)))
    (c.turns.invariant now s)
