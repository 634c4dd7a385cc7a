use Rattle.std.proofs.Common.{map, refl, sym, ap, ◌∙◌, ◌+◌, arith, get_or}
use Rattle.type_settled.specs.Measures.{part_in, info_measure, marked, nothing}
use Rattle.type_settled.proofs.rounds.rounds.Goals as goal
use Rattle.type_settled.proofs.RoundSteps.{round_last, round_step}

pub rounds-preserved : goal.rounds-preserved
rounds-preserved c =
    let is = c.in_ok-next.ensures ∙ ap (λ vs. map (info_measure (part_in c.args.unsound.now vs)) c.args.table.now) c.deref.ensures.value in
    round_step c.args.unsound.now c.args.table.now c.rounds.values.items c.in_ok-next.next.items c.rounds._round _ c.rounds.invariant is refl

pub returns-then-are_same : goal.returns-then-are_same
returns-then-are_same c =
    let is = c.in_ok-next.ensures ∙ ap (λ vs. map (info_measure (part_in c.args.unsound.now vs)) c.args.table.now) c.deref.ensures.value in
    let next = round_step c.args.unsound.now c.args.table.now c.rounds.values.items c.in_ok-next.next.items c.rounds._round (c.rounds._round + 1)
    c.rounds.invariant is refl in
    let same = c.are_same.ensures c.if-are_same.true in
    round_last (marked c.args.unsound.now) c.args.table.now c.rounds.values.items c.in_ok-next.next.items c.rounds._round (c.rounds._round + 1)
    c.rounds.invariant next refl
    (λ t. ap (λ vs. get_or vs t nothing) (sym c.deref-in-rounds.ensures.value) ∙ same t
    ∙ ap (λ vs. get_or vs t nothing) c.deref-in-rounds-2.ensures.value)
    (omega (arith, c.rounds-test.true))
