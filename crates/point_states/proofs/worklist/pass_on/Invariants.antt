use Rattle.std.proofs.Common.{◌≡◌, ◌+◌, ◌++◌, ◌∷◌, [], ℕ, List, drop, vec_len, Option}
use Rattle.state_trees.specs.FactStates.{FactState}
use Rattle.point_states.specs.Carries.{CarriedAlong, AreOver}
use Rattle.point_states.proofs.worklist.pass_on.Given as goal

-- with the carries that are still to come, the state has been carried along all
abbrev pub invariant-edges : goal.invariant-edges
invariant-edges g l =
    ((new : List (Option FactState)) (work : List ℕ) → CarriedAlong (drop l.q-index l.front ++ l.last ∷ []) l.fn.state l.trees.items l.work.keys new work
    → CarriedAlong l.next l.fn.state l.initial.trees.items l.initial.work.keys new work)
    × AreOver l.fn.state.facts l.trees.items
    × (vec_len l.trees ≡ vec_len l.initial.trees)
    × (l.steps ≡ l.initial.steps + l.q-index)
