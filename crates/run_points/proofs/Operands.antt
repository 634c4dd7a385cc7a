-- Operands of short circuits: their values wait.
use Rattle.std.proofs.Common.{◌≡◌, ℕ, ◌+◌, true, false, Bool, not, List, [], ◌∷◌, drop, refl, sym, subst, ◌∙◌, Option, Some, None, ℤ, if◌then◌else◌}
use Rattle.std.specs.Prelude.{option_and_then}
use Rattle.typed_tree.specs.declared.node.ShortCircuit.{ShortCircuit}
use Rattle.typed_tree.specs.declared.node.ShortCircuit.TheVariants as short
use Rattle.typed_tree.specs.Trees.{TypedTree}
use Rattle.flow_paths.specs.Names.{waiting}
use Rattle.flow_paths.specs.Laid.{flow_typing}
use Rattle.machine.specs.Words.{Word}
use Rattle.machine.specs.Typed.{Position}
use Rattle.machine.specs.Evaluate.{value, decides}
use Rattle.machine.specs.States.{Waiting}
use Rattle.machine.specs.States as machine
use Rattle.machine.specs.Step as machine_step
use Rattle.machine.specs.Step.{truth_waiting}
use Rattle.run_codes.specs.Codes.{Does, EvaluateLeft, EvaluateRight}
use Rattle.run_codes.specs.Flat.{word, is_zero}
use Rattle.run_codes.specs.Flat as flat
use Rattle.run_codes.specs.Lowered.{option_map}
use Rattle.run_codes.specs.Programs.{going, condition, operand, is_or_else}
use Rattle.run_codes.specs.Points.{Held, Goes, start, after, truth_held}
use Rattle.run_codes.specs.Points as points
use Rattle.run_codes.specs.Related.{Stands, IsValue, types}
use Rattle.run_codes.proofs.Places.{some_same}
use Rattle.run_codes.proofs.Operators.{decides_same}
use Rattle.run_codes.proofs.Expressions.{and_then_some}
use Rattle.run_points.specs.Outcomes.{IsAlike}
use Rattle.run_points.specs.States.{Laid, HeldStands, WaitsStand, StateStands, MainBegins}
use Rattle.run_points.specs.Turns.{Turns, turn, flat_turn, around, seen, TurnStands}
use Rattle.run_points.proofs.Waits.{rest_stand}
use Rattle.run_points.proofs.Goes.{after_stands, unchanged}
use Rattle.run_points.proofs.Ends.{word_alike, waits_on}
use Rattle.run_points.proofs.Tests.{mapped, condition_same, DoneAlike}

-- A truth that waits.
truth_stands : (b : Turns) (laid : Laid) → TurnStands b laid → (w : Word) (z : ℤ) → Stands (flow_typing b.program).table (types b.memory) Position w z
    → HeldStands (flow_typing b.program).table (types b.memory) (truth_waiting (w ∷ [])) (truth_held z)
truth_stands b laid is w z stands = record {
  of = refl;
  value =
      subst (λ l. IsValue (flow_typing b.program).table (types b.memory) l (w ∷ []) (z ∷ [])) (sym is.truth)
      (record { stand = ((stands, tt), tt); words = refl; numbers = refl });
}

-- The step goes on with these values waiting.
pub waits_alike : (b : Turns) (laid : Laid) → TurnStands b laid → MainBegins b.program b.lowered → (d : Does) (k : ℕ) (n : Option ℕ) → going (around b) b.point k ≡ Some n
    → (ws : List Waiting) (hs : List Held) → WaitsStand (flow_typing b.program).table (types b.memory) ws hs
    → IsAlike (StateStands b.program) (machine.Goes (machine_step.behind (turn b) ws b.memory k)) (Goes (after (flat_turn b d) hs (seen b).flat n))
waits_alike b laid is begins d k n goes ws hs waits =
    after_stands b laid is begins d k n goes ws hs waits b.frame.loops b.memory (seen b).flat (unchanged b laid is) is.frame.loops is.frame.bounds

pub left_alike : (b : Turns) (laid : Laid) → TurnStands b laid → MainBegins b.program b.lowered → (e : TypedTree) (op : ShortCircuit) (d : Does)
    → operand (around b) b.point e (Some op) ≡ Some d → DoneAlike b (machine_step.operand (turn b) e (Some op)) d
left_alike b laid is begins e op d lowers =
    let c = and_then_some (λ c. option_and_then (λ n. option_map (EvaluateLeft c (is_or_else op) n) (going (around b) b.point 1)) (going (around b) b.point 0)) (condition (around b) e) d lowers in
    let n = and_then_some (λ n. option_map (EvaluateLeft c.0 (is_or_else op) n) (going (around b) b.point 1)) (going (around b) b.point 0) d c.2 in
    let m = mapped (EvaluateLeft c.0 (is_or_else op) n.0) (going (around b) b.point 1) d n.2 in
    let x : Does = EvaluateLeft c.0 (is_or_else op) n.0 m.0 in
    subst (λ x. DoneAlike b (machine_step.operand (turn b) e (Some op)) x) m.2
    (word_alike b laid is x Position (0 + waiting e) (value (machine_step.here (turn b)) e (machine_step.start (turn b))) (word (seen b).flat c.0)
    (λ ws mem. machine.Goes (machine_step.behind (turn b) (truth_waiting ws ∷ machine_step.waiting (turn b)) mem (if decides op ws then 1 else 0)))
    (λ w. Goes (after (flat_turn b x) (truth_held w ∷ points.waiting (flat_turn b x)) (seen b).flat
    (if is_zero w then (if is_or_else op then n.0 else m.0) else (if is_or_else op then m.0 else n.0))))
    (condition_same b laid is e c.0 c.1)
    (λ w z stands. subst (λ t. IsAlike (StateStands b.program)
    (machine.Goes (machine_step.behind (turn b) (truth_waiting (w ∷ []) ∷ machine_step.waiting (turn b)) b.memory (if t then 1 else 0)))
    (Goes (after (flat_turn b x) (truth_held z ∷ points.waiting (flat_turn b x)) (seen b).flat
    (if is_zero z then (if is_or_else op then n.0 else m.0) else (if is_or_else op then m.0 else n.0)))))
    (sym (decides_same (seen b) op w z stands ∙ decided_is op z))
    (by x n.0 m.0 n.1 m.1 (truth_waiting (w ∷ []) ∷ machine_step.waiting (turn b)) (truth_held z ∷ points.waiting (flat_turn b x))
    (truth_stands b laid is w z stands, waits_on b laid is x) op (is_zero z))))
  where
    decided : ShortCircuit → Bool → Bool
    decided short.AndThen lacks = lacks
    decided short.OrElse lacks = not lacks

    decided_is : (op : ShortCircuit) (z : ℤ) → flat.decides op z ≡ decided op (is_zero z)
    decided_is short.AndThen z = refl
    decided_is short.OrElse z = refl

    by : (x : Does) (n m : Option ℕ) → going (around b) b.point 0 ≡ Some n → going (around b) b.point 1 ≡ Some m
        → (ws : List Waiting) (hs : List Held) → WaitsStand (flow_typing b.program).table (types b.memory) ws hs → (op : ShortCircuit) (lacks : Bool)
        → IsAlike (StateStands b.program) (machine.Goes (machine_step.behind (turn b) ws b.memory (if decided op lacks then 1 else 0)))
        (Goes (after (flat_turn b x) hs (seen b).flat (if lacks then (if is_or_else op then n else m) else (if is_or_else op then m else n))))
    by x n m first second ws hs waits short.AndThen true = waits_alike b laid is begins x 1 m second ws hs waits
    by x n m first second ws hs waits short.AndThen false = waits_alike b laid is begins x 0 n first ws hs waits
    by x n m first second ws hs waits short.OrElse true = waits_alike b laid is begins x 0 n first ws hs waits
    by x n m first second ws hs waits short.OrElse false = waits_alike b laid is begins x 1 m second ws hs waits

pub right_alike : (b : Turns) (laid : Laid) → TurnStands b laid → MainBegins b.program b.lowered → (e : TypedTree) (d : Does)
    → operand (around b) b.point e None ≡ Some d → DoneAlike b (machine_step.operand (turn b) e None) d
right_alike b laid is begins e d lowers =
    let c = and_then_some (λ c. option_and_then (λ n. Some (EvaluateRight c n)) (going (around b) b.point 0)) (condition (around b) e) d lowers in
    let n = and_then_some (λ n. Some (EvaluateRight c.0 n)) (going (around b) b.point 0) d c.2 in
    let x : Does = EvaluateRight c.0 n.0 in
    subst (λ x. DoneAlike b (machine_step.operand (turn b) e None) x) (some_same x d n.2)
    (word_alike b laid is x Position (0 + waiting e) (value (machine_step.here (turn b)) e (machine_step.start (turn b))) (word (seen b).flat c.0)
    (λ ws mem. machine.Goes (machine_step.behind (turn b) (truth_waiting ws ∷ drop 1 (machine_step.waiting (turn b))) mem 0))
    (λ w. Goes (after (flat_turn b x) (truth_held w ∷ drop 1 (points.waiting (flat_turn b x))) (seen b).flat n.0))
    (condition_same b laid is e c.0 c.1)
    (λ w z stands. waits_alike b laid is begins x 0 n.0 n.1 (truth_waiting (w ∷ []) ∷ drop 1 (machine_step.waiting (turn b))) (truth_held z ∷ drop 1 (points.waiting (flat_turn b x))) (
      truth_stands b laid is w z stands,
      rest_stand (flow_typing b.program).table (types b.memory) 1 (machine_step.waiting (turn b)) (points.waiting (flat_turn b x)) (waits_on b laid is x),
    )))
