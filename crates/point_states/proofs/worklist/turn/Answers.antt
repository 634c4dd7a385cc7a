use Rattle.std.proofs.Common.{◌≡◌, ◌<◌, sym, ap, subst, ℕ, List, length, Option, arith}
use Rattle.state_trees.specs.FactStates.{FactState}
use Rattle.point_states.specs.PointTrees.{path_points_of}
use Rattle.point_states.specs.Carries.{AreOver}
use Rattle.point_states.proofs.Carried.{next_is, next_within}
use Rattle.point_states.proofs.Turned.{IsBehind, behind, turn_starts, turned_along, turn_done}
use Rattle.point_states.proofs.worklist.turn.Goals as goal

pub pass_on-requires-clause-within : goal.pass_on-requires-clause-within
pass_on-requires-clause-within g c =
    let next = next_is c.args.points.now c.args.p c.index-points-p-2.result c.as_slice-2.result.now c.requires.place c.as_slice-2.ensures in
    λ q h. subst (λ n. q < n) (sym c.requires.count) (next_within c.args.points.now c.args.p c.as_slice-2.result.now c.requires.edges next q h)

pub pass_on-requires-clause-over : goal.pass_on-requires-clause-over
pass_on-requires-clause-over g c =
    let trees : List (Option FactState) = c.args.trees.now.items in
    let place : c.args.p < length trees = omega (arith, c.args.trees.now.ok.0, c.requires.place, c.requires.count) in
    let s : IsBehind (path_points_of c.args.points.now) c.args.facts.now c.args.p trees c.apply_all.new.tree =
    behind c.args.points.now c.args.facts.now c.args.p c.index-points-p.result c.as_slice.result.now trees c.index.result.now c.in-Some.tree
    c.in_ok-state-in-Some.state c.apply_all.new.tree c.requires.place place c.requires.over c.index.ensures c.in-Some.is
    c.in_ok-state-in-Some.ensures c.as_slice.ensures c.in_ok-apply_all.ensures in
    subst (λ l. AreOver l trees) (sym s.listed) c.requires.over

pub returns-in_err-pass_on-clause-ticks : goal.returns-in_err-pass_on-clause-ticks
returns-in_err-pass_on-clause-ticks g c =
    let next = ap length (next_is c.args.points.now c.args.p c.index-points-p-2.result c.as_slice-2.result.now c.requires.place c.as_slice-2.ensures) in
    let ticks = c.pass_on.ensures.ticks in
    omega arith

pub returns-clause-turned : goal.returns-clause-turned
returns-clause-turned g c =
    let points = path_points_of c.args.points.now in
    let facts = c.args.facts.now in
    let p : ℕ = c.args.p in
    let count : ℕ = length c.args.points.now in
    let trees : List (Option FactState) = c.args.trees.now.items in
    let work : List ℕ = c.args.work.now.keys in
    let size : length trees ≡ count = omega (arith, c.args.trees.now.ok.0, c.requires.count) in
    let place : p < length trees = omega (arith, size, c.requires.place) in
    let s : IsBehind points facts p trees c.apply_all.new.tree =
    behind c.args.points.now facts p c.index-points-p.result c.as_slice.result.now trees c.index.result.now c.in-Some.tree
    c.in_ok-state-in-Some.state c.apply_all.new.tree c.requires.place place c.requires.over c.index.ensures c.in-Some.is
    c.in_ok-state-in-Some.ensures c.as_slice.ensures c.in_ok-apply_all.ensures in
    let next = next_is c.args.points.now p c.index-points-p-2.result c.as_slice-2.result.now c.requires.place c.as_slice-2.ensures in
    let begins = turn_starts c.args.points.now facts p trees work c.as_slice-2.result.now c.requires.edges c.requires.searched c.requires.over
    size c.requires.places next in
    turn_done points facts p count trees work c.pass_on.new.trees.items c.pass_on.new.work.keys
    (turned_along points facts p count trees work c.as_slice-2.result.now c.apply_all.new.tree trees c.pass_on.new.trees.items work
    c.pass_on.new.work.keys s begins c.in_ok-pass_on.ensures.carried)

pub returns-clause-ticks : goal.returns-clause-ticks
returns-clause-ticks g c =
    let next = ap length (next_is c.args.points.now c.args.p c.index-points-p-2.result c.as_slice-2.result.now c.requires.place c.as_slice-2.ensures) in
    let ticks = c.in_ok-pass_on.ensures.ticks in
    omega arith
