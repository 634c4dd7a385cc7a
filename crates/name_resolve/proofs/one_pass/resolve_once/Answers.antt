use Rattle.std.proofs.Common.{◌≡◌, true, subst, sym, ap, ◌∙◌, take, drop, [], ◌∷◌, ◌+◌, arith}
use Rattle.std.proofs.lemmas.List.{drop_more}
use Rattle.std.proofs.Math.ListN.{drop_of_length-le}
use Rattle.name_events.specs.KnownBehind.{known_behind, known_behind_all}
use Rattle.name_resolve.specs.Awaited.{are_completed}
use Rattle.name_resolve.specs.Stands.{Stands}
use Rattle.name_resolve.proofs.Lists.{take_whole, taken_next}
use Rattle.name_resolve.proofs.Occurrences.{Goes, all_found, fold_push, goes_on}
use Rattle.name_resolve.proofs.one_pass.resolve_once.Goals as goal

pub turns-preserved : goal.turns-preserved
turns-preserved c =
    let events = c.args.events.now in
    let at = c.turns.event-index in
    let event = c.event-item.result in
    let rest = drop (at + 1) events in
    let more : drop at events ≡ event ∷ rest = drop_more events at event c.turns-test.true ∙ ap (λ x. x ∷ rest) (sym c.event-item.is) in (
      λ now s.
          subst (Stands c.learn.new.self)
          (sym (fold_push known_behind now (take at events) event)
          ∙ ap (known_behind_all now) (taken_next [] events at event c.turns-test.true c.event-item.is))
          (c.in_ok-learn.ensures (known_behind_all now (take at events)) (c.turns.invariant.0 now s)),
      goes_on (λ behind. are_completed c.turns.awaited.items behind ≡ true) (λ behind. are_completed c.look_up.new.awaited.items behind ≡ true)
          c.args.known c.turns.known c.learn.new.self events event rest c.turns.found c.look_up.new.found
          c.in_ok-look_up.ensures.more
          (subst (λ xs. Goes (λ behind. are_completed c.turns.awaited.items behind ≡ true) c.args.known c.turns.known events xs c.turns.found) more c.turns.invariant.1)
          c.in_ok-look_up.ensures.fault c.in_ok-look_up.ensures.denotes c.in_ok-look_up.ensures.identified c.in_ok-learn.ensures,
    )

pub returns-clause-behind : goal.returns-clause-behind
returns-clause-behind c n s =
    subst (λ xs. Stands c.turns.known (known_behind_all n xs))
    (take_whole c.args.events.now c.turns.event-index (omega (arith, c.turns-test.false)))
    (c.turns.invariant.0 n s)

pub returns-clause-fault : goal.returns-clause-fault
returns-clause-fault c n s =
    let events = c.args.events.now in
    let behind = known_behind_all n events in
    let stands = subst (λ xs. Stands c.turns.known (known_behind_all n xs)) (take_whole events c.turns.event-index (omega (arith, c.turns-test.false))) (c.turns.invariant.0 n s) in
    let done = subst (λ awaited. are_completed awaited behind ≡ true) c.deref.ensures.value (c.in_ok-completions.ensures behind stands) in
    (all_found behind n c.turns.known events (drop c.turns.event-index events) c.turns.found (drop_of_length-le events {i = c.turns.event-index} (omega (arith, c.turns-test.false)))
    (c.turns.invariant.1 behind n done s)).fault

pub returns-clause-denotes : goal.returns-clause-denotes
returns-clause-denotes c n s =
    let events = c.args.events.now in
    let behind = known_behind_all n events in
    let stands = subst (λ xs. Stands c.turns.known (known_behind_all n xs)) (take_whole events c.turns.event-index (omega (arith, c.turns-test.false))) (c.turns.invariant.0 n s) in
    let done = subst (λ awaited. are_completed awaited behind ≡ true) c.deref.ensures.value (c.in_ok-completions.ensures behind stands) in
    (all_found behind n c.turns.known events (drop c.turns.event-index events) c.turns.found (drop_of_length-le events {i = c.turns.event-index} (omega (arith, c.turns-test.false)))
    (c.turns.invariant.1 behind n done s)).denotes

pub returns-clause-identified : goal.returns-clause-identified
returns-clause-identified c n s =
    let events = c.args.events.now in
    let behind = known_behind_all n events in
    let stands = subst (λ xs. Stands c.turns.known (known_behind_all n xs)) (take_whole events c.turns.event-index (omega (arith, c.turns-test.false))) (c.turns.invariant.0 n s) in
    let done = subst (λ awaited. are_completed awaited behind ≡ true) c.deref.ensures.value (c.in_ok-completions.ensures behind stands) in
    (all_found behind n c.turns.known events (drop c.turns.event-index events) c.turns.found (drop_of_length-le events {i = c.turns.event-index} (omega (arith, c.turns-test.false)))
    (c.turns.invariant.1 behind n done s)).identified
