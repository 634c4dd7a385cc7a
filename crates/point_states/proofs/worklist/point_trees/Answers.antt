use Rattle.std.proofs.Common.{◌≡◌, ◌<◌, ◌*◌, sym, ap, subst, inl, inr, ℕ, List, length, vec_len, Option, ◌∙◌, arith}
use Rattle.spark_base.specs.Lists.{Has}
use Rattle.state_trees.specs.FactStates.{FactState}
use Rattle.point_states.specs.PointTrees.{path_points_of}
use Rattle.point_states.specs.Labels.{SearchedOn}
use Rattle.point_states.specs.Debts.{most, costs_of, owed}
use Rattle.point_states.proofs.Carried.{points_counted}
use Rattle.point_states.proofs.Debt.{owed_taken, cost_is, total_is, costs_counted, ones, one_each, ones_counted}
use Rattle.point_states.proofs.Started.{started, started_over, started_some, start_debt, first_work, none_left, taken, some_points}
use Rattle.point_states.proofs.Exact.{exact}
use Rattle.point_states.proofs.worklist.point_trees.Goals as goal

pub turns-init : goal.turns-init
turns-init g c =
    let points = path_points_of c.args.points.now in
    let facts = c.args.facts.now in
    let trees : List (Option FactState) = c.in_ok-trees.trees.items in
    let costs = costs_of points in
    let begun = c.in_ok-trees.ensures in
    let first = first_work c.insert.new.self.keys c.new-work.result.keys c.new-work.ensures.empty c.in_ok-insert.ensures.keys in
    let size = begun.sized in
    let some = started_some (length c.args.points.now) facts trees begun in (
      subst (λ w. SearchedOn points facts trees w) (sym first) (started points facts trees (length c.args.points.now) begun),
      started_over facts trees (length c.args.points.now) begun,
      omega (arith, size, c.in_ok-trees.trees.ok.0),
      λ a h. elim (subst (λ w. Has w a) first h) [ inl e ↦ subst (λ x. x < length c.args.points.now) e some | inr none ↦ absurd none ],
      (
          let owes = start_debt costs (length c.args.points.now) facts trees begun in
          let all = ap (λ n. n * most (length facts)) (total_is points) in
          let work = ap (owed costs) first in
          omega arith),
    )

pub turn-requires-clause-searched : goal.turn-requires-clause-searched
turn-requires-clause-searched g c =
    subst (λ w. SearchedOn (path_points_of c.args.points.now) c.args.facts.now c.turns.trees.items w) c.in-Some.ensures.removal c.turns.invariant.0

pub turn-requires-clause-place : goal.turn-requires-clause-place
turn-requires-clause-place g c =
    (taken (length c.args.points.now) c.turns.work.keys c.pop_first.new.self.keys c.in-Some.p c.in-Some.ensures.removal c.turns.invariant.3).place

pub turn-requires-clause-places : goal.turn-requires-clause-places
turn-requires-clause-places g c =
    (taken (length c.args.points.now) c.turns.work.keys c.pop_first.new.self.keys c.in-Some.p c.in-Some.ensures.removal c.turns.invariant.3).places

pub turns-smaller : goal.turns-smaller
turns-smaller g c =
    let costs : List ℕ = ones c.args.points.now in
    let t = taken (length c.args.points.now) c.turns.work.keys c.pop_first.new.self.keys c.in-Some.p c.in-Some.ensures.removal c.turns.invariant.3 in
    let pays = c.in_ok-turn.ensures.turned.pays costs (ones_counted c.args.points.now) in
    let was = owed_taken costs c.turns.work.keys c.pop_first.new.self.keys c.in-Some.p c.in-Some.ensures.removal in
    let one = one_each c.args.points.now c.in-Some.p t.place in
    omega arith

pub turns-preserved : goal.turns-preserved
turns-preserved g c =
    let points = path_points_of c.args.points.now in
    let costs : List ℕ = costs_of points in
    let pays = c.in_ok-turn.ensures.turned.pays costs (costs_counted points ∙ points_counted c.args.points.now) in
    let ticks = c.in_ok-turn.ensures.ticks in
    let was = owed_taken costs c.turns.work.keys c.pop_first.new.self.keys c.in-Some.p c.in-Some.ensures.removal in
    let cost = cost_is points c.in-Some.p in
    let before = c.turns.invariant.4 in
    let turned = c.in_ok-turn.ensures.turned in
    (turned.searched, turned.over, omega (arith, c.turn.new.trees.ok.0, turned.sized), turned.places, omega arith)

-- the iteration that failed was owed, too
pub returns-in_err-turn-clause-cost : goal.returns-in_err-turn-clause-cost
returns-in_err-turn-clause-cost g c =
    let points = path_points_of c.args.points.now in
    let costs : List ℕ = costs_of points in
    let ticks = c.turn.ensures.ticks in
    let was = owed_taken costs c.turns.work.keys c.pop_first.new.self.keys c.in-Some.p c.in-Some.ensures.removal in
    let cost = cost_is points c.in-Some.p in
    let before = c.turns.invariant.4 in
    omega arith

pub returns-clause-exact : goal.returns-clause-exact
returns-clause-exact g c =
    let points = path_points_of c.args.points.now in
    let facts = c.args.facts.now in
    let none = none_left c.turns.work.keys c.in_default.ensures.variant.1 in
    let some = started_some (length c.args.points.now) facts c.in_ok-trees.trees.items c.in_ok-trees.ensures in
    let size = points_counted c.args.points.now in
    let count : vec_len c.turns.trees ≡ length c.args.points.now = c.turns.invariant.2 in
    exact points facts c.turns.trees.items (some_points points (omega (arith, size, some))) (omega (arith, c.turns.trees.ok.0, size, count)) c.turns.invariant.1
    (subst (λ w. SearchedOn points facts c.turns.trees.items w) none c.turns.invariant.0)
