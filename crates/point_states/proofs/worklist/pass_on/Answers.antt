use Rattle.std.proofs.Common.{◌≡◌, ◌<◌, ◌+◌, sym, subst, ◌∷◌, [], ◌++◌, ℕ, List, length, drop, get_or, vec_len, Option, arith}
use Rattle.state_trees.specs.FactStates.{FactState}
use Rattle.point_states.specs.Carries.{CarriedTo, CarriedAlong}
use Rattle.point_states.proofs.Carried.{carried_over, carried_count}
use Rattle.point_states.proofs.Turned.{one_of_front, front_within, last_within}
use Rattle.point_states.proofs.worklist.pass_on.Goals as goal

pub carry-requires-clause-within : goal.carry-requires-clause-within
carry-requires-clause-within g c =
    let q : ℕ = get_or c.in-Some.front.now c.edges.q-index 0 in
    let count : vec_len c.edges.trees ≡ vec_len c.args.trees.now = c.edges.invariant.2 in
    let parts = (c.in-Some.ensures.cases).0 in
    subst (λ n. q < n) (sym count)
    (front_within (vec_len c.args.trees.now) c.args.next.now c.in-Some.front.now c.in-Some.last.now c.edges.q-index parts c.requires.within c.edges-test.true)

pub edges-preserved : goal.edges-preserved
edges-preserved g c =
    let i : ℕ = c.edges.q-index in
    let q : ℕ = get_or c.in-Some.front.now i 0 in
    let rest : List ℕ = drop (i + 1) c.in-Some.front.now ++ c.in-Some.last.now ∷ [] in
    let s : FactState = c.args.state in
    let old : List (Option FactState) = c.edges.trees.items in
    let new : List (Option FactState) = c.carry.new.trees.items in
    let work : List ℕ = c.edges.work.keys in
    let work' : List ℕ = c.carry.new.work.keys in
    let count : vec_len c.edges.trees ≡ vec_len c.args.trees.now = c.edges.invariant.2 in
    let parts = (c.in-Some.ensures.cases).0 in
    let below = front_within (vec_len c.args.trees.now) c.args.next.now c.in-Some.front.now c.in-Some.last.now i parts c.requires.within c.edges-test.true in
    let within : q < length old = omega (arith, c.edges.trees.ok.0, count, below) in
    let carry : CarriedTo q s old work new work' = subst (λ x. CarriedTo q x old work new work') c.in_ok-copy.ensures c.in_ok-carry.ensures.carried in
    let size = carried_count q s old new work work' carry in (
      λ last behind along. c.edges.invariant.0 last behind (subst (λ l. CarriedAlong l s old work last behind)
          (sym (one_of_front c.in-Some.front.now c.in-Some.last.now i c.edges-test.true)) (new, work', carry, along)),
      carried_over q s old new work work' within c.requires.kept c.edges.invariant.1 carry,
      omega (arith, c.carry.new.trees.ok.0, c.edges.trees.ok.0, size, count),
      (let n = c.edges.invariant.3 in let one = c.in_ok-carry.ensures.one in omega arith),
    )

pub carry-requires-2-clause-within : goal.carry-requires-2-clause-within
carry-requires-2-clause-within g c =
    let q : ℕ = c.in-Some.last.now in
    let count : vec_len c.edges.trees ≡ vec_len c.args.trees.now = c.edges.invariant.2 in
    let parts = (c.in-Some.ensures.cases).0 in
    subst (λ n. q < n) (sym count) (last_within (vec_len c.args.trees.now) c.args.next.now c.in-Some.front.now q parts c.requires.within)
