-- Where a declaration goes on, and which variables may own cells then, in a frame in which nothing
-- waits.
use Rattle.std.proofs.Common.{◌≡◌, refl, ap, ◌∙◌, ℕ, zero, suc, true, List, [], drop, length}
use Rattle.machine.specs.typed_tree.Trees.{TypedTree}
use Rattle.machine.specs.flow_paths.Scopes.{is_within, taken}
use Rattle.machine.specs.States.{Waiting, State, Outcome, Goes, Ends}
use Rattle.machine.specs.Step.{Turn, typing, waiting, led, successor}
use Rattle.machine.specs.Step as steps
use Rattle.soundness.proofs.Scoped.{Inside}
use Rattle.soundness.proofs.Onward as onward
pub use Rattle.soundness.proofs.Onward.{Each}

abbrev no_hands : List Waiting
no_hands = []

drop_empty : (n : ℕ) → drop n no_hands ≡ no_hands
drop_empty zero = refl
drop_empty (suc n) = refl

abbrev NoneLeft : List Waiting → Type 0
NoneLeft waits = waits ≡ []

module _ (t : Turn) (plain : t.frame.waits ≡ []) (older : ℕ → ℕ → Type 0) (scope scope' : List ℕ)
    (within : Inside (typing t) older t.state.memory (length t.outer) scope) where
  -- After the last package object the main procedure begins.
  pub record Declares (state : State) : Type 0 where
    pub frames : state.frames ≡ led t (record t.frame { waits = [] }) (successor t 0)
    pub inside : Inside (typing t) older state.memory (length t.outer) scope'

  none_left : NoneLeft (waiting t)
  none_left = ap (drop (taken t.point.instr)) plain ∙ drop_empty (taken t.point.instr)

  declares_so : (outcome : Outcome) → Each (onward.Declares t NoneLeft none_left older scope scope' within) outcome → Each Declares outcome
  declares_so (Goes state) on = record {
    frames = on.frames ∙ ap (λ z. led t (record t.frame { waits = z }) (successor t 0)) none_left;
    inside = on.inside;
  }
  declares_so (Ends how state) on = tt

  module _ (more : (x : ℕ) → is_within x scope ≡ true → is_within x scope' ≡ true) where
    pub declare_on : (x : ℕ) (v : TypedTree) → is_within x scope' ≡ true → Each Declares (steps.declare t x v)
    declare_on x v there = declares_so (steps.declare t x v) (onward.declare_on t NoneLeft none_left older scope scope' within more x v there)
