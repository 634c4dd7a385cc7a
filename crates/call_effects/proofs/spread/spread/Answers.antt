use Rattle.std.proofs.Common.{◌≡◌, ◌+◌, subst, ap, [], ◌∷◌, length, length-append, arith}
use Rattle.label_flow.proofs.Worklist.{search_order}
use Rattle.flow_paths.specs.Effects.{is_in}
use Rattle.call_effects.specs.Spreads.{found, SearchedFor, Spreading}
use Rattle.call_effects.proofs.Filed.{row_there}
use Rattle.call_effects.proofs.Spreading.{started_search, flow_by, taken, found_taken, spreading_none, spreading_after, none_left}
use Rattle.call_effects.proofs.spread.spread.Goals as goal

pub turns-init : goal.turns-init
turns-init c = (
  started_search c.args.callers.now c.args.g c.args.users.now c.start.new.lists.items c.start.new.work.items c.in_ok-start.ensures.started,
  spreading_none c.args.g c.start.new.lists.items c.start.new.work.items c.in_ok-start.ensures.spreading.upto c.in_ok-start.ensures.spreading.works,
)

pub turn-requires-clause-place : goal.turn-requires-clause-place
turn-requires-clause-place c =
    let t = taken c.turns.work.items c.pop.new.self.items c.in-Some.q c.in-Some.ensures.items in
    let there = row_there c.turns.lists.items c.in-Some.q c.args.g (c.turns.invariant.1.works c.in-Some.q t.here) in
    let count = c.turns.invariant.1.adds.count in
    let count' = c.in_ok-start.ensures.spreading.adds.count in
    omega (arith, c.args.lists.now.ok.0, c.requires.places, there, count, count')

pub turn-requires-clause-works : goal.turn-requires-clause-works
turn-requires-clause-works c =
    found_taken c.args.g c.turns.lists.items c.turns.work.items c.pop.new.self.items c.in-Some.q
    (taken c.turns.work.items c.pop.new.self.items c.in-Some.q c.in-Some.ensures.items) c.turns.invariant.1.works

pub turns-smaller : goal.turns-smaller
turns-smaller c =
    let room = c.in_ok-turn.ensures.room in
    let one : length c.turns.work.items ≡ length c.pop.new.self.items + 1 =
    (let e = ap length c.in-Some.ensures.items in let n = length-append c.pop.new.self.items (c.in-Some.q ∷ []) in omega arith) in
    omega (arith, c.turns.work.ok.0, c.pop.new.self.ok.0, room, one)

pub turns-preserved : goal.turns-preserved
turns-preserved c =
    let t = taken c.turns.work.items c.pop.new.self.items c.in-Some.q c.in-Some.ensures.items in
    let searched = search_order (flow_by c.args.callers.now c.args.users.now) (found c.args.g c.turns.lists.items) c.turns.work.items
    (c.in-Some.q ∷ c.pop.new.self.items) t.all c.turns.invariant.0 in (
      c.in_ok-turn.ensures.searched (λ a. is_in a c.args.users.now) searched,
      spreading_after c.args.g c.start.new.lists.items c.turns.lists.items c.turn.new.lists.items c.turns.work.items c.turn.new.work.items
          c.turns.invariant.1 c.in_ok-turn.ensures.spreading,
    )

pub returns-clause-searched : goal.returns-clause-searched
returns-clause-searched c =
    let none = none_left c.turns.work.items (omega (arith, c.turns.work.ok.0, c.in_default.ensures.cases.0)) in
    subst (λ w. SearchedFor c.args.callers.now (λ a. is_in a c.args.users.now) c.args.g c.turns.lists.items w) none c.turns.invariant.0

pub returns-clause-spreading : goal.returns-clause-spreading
returns-clause-spreading c =
    let none = none_left c.turns.work.items (omega (arith, c.turns.work.ok.0, c.in_default.ensures.cases.0)) in
    subst (λ w. Spreading c.args.g c.args.lists.now.items c.turns.lists.items w) none
    (spreading_after c.args.g c.args.lists.now.items c.start.new.lists.items c.turns.lists.items c.start.new.work.items c.turns.work.items
    c.in_ok-start.ensures.spreading c.turns.invariant.1)
