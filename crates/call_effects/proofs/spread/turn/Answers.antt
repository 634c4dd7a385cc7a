use Rattle.std.proofs.Common.{◌<◌, ◌∙◌, subst, refl, inl, inr, ℕ, length, get_or, arith}
use Rattle.spark_base.specs.Lists.{Has}
use Rattle.call_effects.proofs.Filed.{row_is}
use Rattle.call_effects.proofs.Spreading.{get_has, came, spreading_none, spreading_on, reached_room, turn_starts, turn_more, turn_done}
use Rattle.call_effects.proofs.spread.turn.Goals as goal

pub callers-init : goal.callers-init
callers-init c =
    let next = row_is c.args.callers.now c.args.q c.as_slice-row.result.now c.index-callers-q.result c.requires.place (c.as_slice-row.ensures ∙ c.index-callers-q.is) in (
      spreading_none c.args.g c.args.lists.now.items c.args.work.now.items c.requires.upto (λ a h. c.requires.works a (inr h)),
      refl,
      λ uses s. turn_starts c.args.callers.now uses c.args.g c.args.q c.as_slice-row.result.now c.args.lists.now.items c.args.work.now.items next s,
    )

pub reach-requires-clause-within : goal.reach-requires-clause-within
reach-requires-clause-within c =
    let p : ℕ = get_or c.as_slice-row.result.now c.callers.p-index 0 in
    let next = row_is c.args.callers.now c.args.q c.as_slice-row.result.now c.index-callers-q.result c.requires.place (c.as_slice-row.ensures ∙ c.index-callers-q.is) in
    let below = c.requires.within c.args.q p (subst (λ r. Has r p) next (get_has c.as_slice-row.result.now c.callers.p-index 0 c.callers-test.true)) in
    let count = c.callers.invariant.0.adds.count in
    omega (arith, c.callers.lists.ok.0, c.args.lists.now.ok.0, below, count)

pub callers-preserved : goal.callers-preserved
callers-preserved c =
    let p : ℕ = get_or c.as_slice-row.result.now c.callers.p-index 0 in
    let next = row_is c.args.callers.now c.args.q c.as_slice-row.result.now c.index-callers-q.result c.requires.place (c.as_slice-row.ensures ∙ c.index-callers-q.is) in
    let below = c.requires.within c.args.q p (subst (λ r. Has r p) next (get_has c.as_slice-row.result.now c.callers.p-index 0 c.callers-test.true)) in
    let count = c.callers.invariant.0.adds.count in
    let within : p < length c.callers.lists.items = omega (arith, c.callers.lists.ok.0, c.args.lists.now.ok.0, below, count) in
    let one = came c.args.g p c.callers.lists.items c.reach.new.lists.items c.callers.work.items c.reach.new.work.items within c.callers.invariant.0.upto
    c.in_ok-reach.ensures in (
      spreading_on c.args.g p c.args.lists.now.items c.callers.lists.items c.reach.new.lists.items c.callers.work.items c.reach.new.work.items c.callers.invariant.0 one,
      (let room = reached_room c.args.g p c.callers.lists.items c.reach.new.lists.items c.callers.work.items c.reach.new.work.items within c.in_ok-reach.ensures in
          omega (arith, c.callers.work.ok.0, c.reach.new.work.ok.0, room, c.callers.invariant.1)),
      λ uses s. turn_more c.args.callers.now uses c.args.g c.args.q p c.callers.p-index c.as_slice-row.result.now c.args.lists.now.items c.callers.lists.items
          c.reach.new.lists.items c.callers.work.items c.reach.new.work.items c.callers-test.true refl (c.requires.works c.args.q (inl refl)) one
          (c.callers.invariant.2 uses s),
    )

pub returns-clause-searched : goal.returns-clause-searched
returns-clause-searched c uses s =
    turn_done c.args.callers.now uses c.args.g c.args.q c.callers.p-index c.as_slice-row.result.now c.args.lists.now.items c.callers.lists.items
    c.callers.work.items c.callers-test.false (c.callers.invariant.2 uses s)
