use Rattle.std.proofs.Common.{◌≡◌, subst, sym, ap, ◌∙◌, drop, ◌∷◌, ◌+◌, arith}
use Rattle.std.proofs.lemmas.List.{drop_more}
use Rattle.std.proofs.Math.ListN.{drop_of_length-le}
use Rattle.name_events.specs.Faults.{first_fault}
use Rattle.name_resolve.specs.Stands.{Stands}
use Rattle.name_resolve.proofs.Occurrences.{Goes, all_found, goes_on, breaks_off, handed_on, memory_says}
use Rattle.name_resolve.proofs.source_files.resolve_events.Goals as goal

pub turns-preserved : goal.turns-preserved
turns-preserved c =
    let rest = drop (c.turns.event-index + 1) c.args.events.now in
    let more : drop c.turns.event-index c.args.events.now ≡ c.event-item.result ∷ rest =
    drop_more c.args.events.now c.turns.event-index c.event-item.result c.turns-test.true ∙ ap (λ x. x ∷ rest) (sym c.event-item.is) in
    goes_on (Stands c.args.whole.now) (Stands c.args.whole.now) c.args.known c.turns.known c.learn.new.self c.args.events.now c.event-item.result rest c.turns.found c.visit.new.found
    (λ behind stands. stands)
    (subst (λ xs. Goes (Stands c.args.whole.now) c.args.known c.turns.known c.args.events.now xs c.turns.found) more c.turns.invariant)
    c.in_ok-visit.ensures.fault c.in_ok-visit.ensures.denotes c.in_ok-visit.ensures.identified c.in_ok-learn.ensures

pub returns-in_err-visit-clause-fault : goal.returns-in_err-visit-clause-fault
returns-in_err-visit-clause-fault c behind now sb s =
    let rest = drop (c.turns.event-index + 1) c.args.events.now in
    let more : drop c.turns.event-index c.args.events.now ≡ c.event-item.result ∷ rest =
    drop_more c.args.events.now c.turns.event-index c.event-item.result c.turns-test.true ∙ ap (λ x. x ∷ rest) (sym c.event-item.is) in
    handed_on _ c.from_residual.result _ c.in_err-visit.field-0.0 (first_fault behind now c.args.events.now)
    c.from_residual.ensures.0 c.from_residual.ensures.1 (λ r h. h)
    (breaks_off c.args.whole.now c.args.known c.turns.known c.args.events.now c.event-item.result rest c.turns.found c.in_err-visit.field-0.0
    (subst (λ xs. Goes (Stands c.args.whole.now) c.args.known c.turns.known c.args.events.now xs c.turns.found) more c.turns.invariant)
    c.in_err-visit.ensures.fault behind now sb s)

pub returns-clause-fault : goal.returns-clause-fault
returns-clause-fault c behind now sb s =
    (all_found behind now c.turns.known c.args.events.now (drop c.turns.event-index c.args.events.now) c.turns.found
    (drop_of_length-le c.args.events.now {i = c.turns.event-index} (omega (arith, c.turns-test.false))) (c.turns.invariant behind now sb s)).fault

pub returns-clause-denotes : goal.returns-clause-denotes
returns-clause-denotes c behind now sb s =
    (all_found behind now c.turns.known c.args.events.now (drop c.turns.event-index c.args.events.now) c.turns.found
    (drop_of_length-le c.args.events.now {i = c.turns.event-index} (omega (arith, c.turns-test.false))) (c.turns.invariant behind now sb s)).denotes

pub returns-clause-identified : goal.returns-clause-identified
returns-clause-identified c behind now sb s =
    (all_found behind now c.turns.known c.args.events.now (drop c.turns.event-index c.args.events.now) c.turns.found
    (drop_of_length-le c.args.events.now {i = c.turns.event-index} (omega (arith, c.turns-test.false))) (c.turns.invariant behind now sb s)).identified

pub returns-in_err-learn-clause-fault : goal.returns-in_err-learn-clause-fault
returns-in_err-learn-clause-fault c behind now sb s =
    memory_says _ c.from_residual-in_err-learn.result (first_fault behind now c.args.events.now)
    c.from_residual-in_err-learn.ensures.0 c.from_residual-in_err-learn.ensures.1
