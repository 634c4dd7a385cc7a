-- Points that only read: what goes on, tests, operands, choices, and the end of a function.
use Rattle.std.proofs.Common.{◌≡◌, ℕ, ◌+◌, true, false, Bool, not, List, ◌++◌, refl, sym, subst, Option, Some, None, if◌then◌else◌}
use Rattle.std.specs.Prelude.{option_and_then}
use Rattle.typed_tree.specs.Trees.{TypedTree}
use Rattle.flow_paths.specs.Names.{waiting}
use Rattle.machine.specs.Typed.{Sort, Whole, Position, Pointer}
use Rattle.machine.specs.Evaluate.{AsValue, ProgramError, value, is_true}
use Rattle.machine.specs.States as machine
use Rattle.machine.specs.Step as machine_step
use Rattle.run_codes.specs.Codes.{Code, Does, Go, Test, Fall}
use Rattle.run_codes.specs.Flat.{word, is_zero}
use Rattle.run_codes.specs.Lowered.{Lowered, option_map, lowered}
use Rattle.run_codes.specs.Programs.{append_all, going, truth_code, condition, tested, gone_on}
use Rattle.run_codes.specs.Points.{done, goes}
use Rattle.run_codes.specs.Related.{Same}
use Rattle.run_codes.proofs.Places.{impossible, some_same}
use Rattle.run_codes.proofs.Operators.{truth_is}
use Rattle.run_codes.proofs.Expressions.{and_then_some, simulates}
use Rattle.run_points.specs.Outcomes.{IsAlike}
use Rattle.run_points.specs.States.{Laid, StateStands, MainBegins}
use Rattle.run_points.specs.Turns.{Turns, turn, flat_turn, around, seen, TurnStands}
use Rattle.run_points.proofs.Waits.{is_seen}
use Rattle.run_points.proofs.Ends.{raised_alike, word_alike, start_is, goes_on}

-- ---- what the lowering gives

pub mapped : {A B : Type 0} (f : A → B) (o : Option A) (y : B) → option_map f o ≡ Some y → (a : A) × (o ≡ Some a) × (f a ≡ y)
mapped f None y is = impossible y is
mapped f (Some a) y is = (a, refl, some_same (f a) y is)

pub both_there : {A : Type 0} (x y : Option (List A)) (all : List A) → append_all x y ≡ Some all
    → (a : List A) × (x ≡ Some a) × ((b : List A) × (y ≡ Some b) × (a ++ b ≡ all))
both_there (Some a) (Some b) all is = (a, refl, (b, refl, some_same (a ++ b) all is))
both_there None y all is = impossible all is
both_there (Some a) None all is = impossible all is

truth_code_is : (c : Code) (s : Sort) (d : Code) → truth_code (record { code = c; sort = s }) ≡ Some d → (s ≡ Position) × (c ≡ d)
truth_code_is c Position d is = (refl, some_same c d is)
truth_code_is c Whole d is = impossible d is
truth_code_is c (Pointer t) d is = impossible d is

-- A value that is evaluated first.
pub value_same : (b : Turns) (laid : Laid) → TurnStands b laid → (e : TypedTree) (l : Lowered) → lowered (around b).site 0 AsValue e ≡ Some l
    → Same (seen b) l.sort (0 + waiting e) (value (machine_step.here (turn b)) e (machine_step.start (turn b))) (word (seen b).flat l.code)
value_same b laid is e l lowers =
    subst (λ n. Same (seen b) l.sort (0 + waiting e) (value (machine_step.here (turn b)) e n) (word (seen b).flat l.code)) (sym (start_is b laid is))
    (simulates (seen b) (is_seen b laid is) e 0 AsValue l lowers)

pub condition_same : (b : Turns) (laid : Laid) → TurnStands b laid → (e : TypedTree) (c : Code) → condition (around b) e ≡ Some c
    → Same (seen b) Position (0 + waiting e) (value (machine_step.here (turn b)) e (machine_step.start (turn b))) (word (seen b).flat c)
condition_same b laid is e c lowers =
    let l = and_then_some truth_code (lowered (around b).site 0 AsValue e) c lowers in
    let sure = truth_code_is l.0.code l.0.sort c l.2 in
    subst (λ s. Same (seen b) s (0 + waiting e) (value (machine_step.here (turn b)) e (machine_step.start (turn b))) (word (seen b).flat c)) sure.0
    (subst (λ z. Same (seen b) l.0.sort (0 + waiting e) (value (machine_step.here (turn b)) e (machine_step.start (turn b))) (word (seen b).flat z)) sure.1
    (value_same b laid is e l.0 l.1))

-- ---- points

abbrev pub DoneAlike : Turns → machine.Outcome → Does → Type 0
DoneAlike b out d = IsAlike (StateStands b.program) out (done (flat_turn b d) d)

pub go_alike : (b : Turns) (laid : Laid) → TurnStands b laid → MainBegins b.program b.lowered → (d : Does) → gone_on (around b) b.point ≡ Some d
    → DoneAlike b (machine_step.goes (turn b) b.memory 0) d
go_alike b laid is begins d lowers =
    let n = and_then_some (λ n. Some (Go n)) (going (around b) b.point 0) d lowers in
    subst (λ x. DoneAlike b (machine_step.goes (turn b) b.memory 0) x) (some_same (Go n.0) d n.2) (goes_on b laid is begins (Go n.0) 0 n.0 n.1)

pub fall_alike : (b : Turns) (laid : Laid) → TurnStands b laid → DoneAlike b (machine_step.raised (turn b) ProgramError b.memory) Fall
fall_alike b laid is = raised_alike b laid is Fall ProgramError

pub test_alike : (b : Turns) (laid : Laid) → TurnStands b laid → MainBegins b.program b.lowered → (e : TypedTree) (d : Does) → tested (around b) b.point e ≡ Some d
    → DoneAlike b (machine_step.test (turn b) e 0 1) d
test_alike b laid is begins e d lowers =
    let c = and_then_some (λ c. option_and_then (λ n. option_map (Test c n) (going (around b) b.point 1)) (going (around b) b.point 0)) (condition (around b) e) d lowers in
    let n = and_then_some (λ n. option_map (Test c.0 n) (going (around b) b.point 1)) (going (around b) b.point 0) d c.2 in
    let m = mapped (Test c.0 n.0) (going (around b) b.point 1) d n.2 in
    subst (λ x. DoneAlike b (machine_step.test (turn b) e 0 1) x) m.2
    (word_alike b laid is (Test c.0 n.0 m.0) Position (0 + waiting e) (value (machine_step.here (turn b)) e (machine_step.start (turn b))) (word (seen b).flat c.0)
    (λ ws mem. machine_step.goes (turn b) mem (if is_true ws then 0 else 1)) (λ w. goes (flat_turn b (Test c.0 n.0 m.0)) (seen b).flat (if is_zero w then m.0 else n.0))
    (condition_same b laid is e c.0 c.1)
    (λ w z stands. subst (λ t. IsAlike (StateStands b.program) (machine_step.goes (turn b) b.memory (if t then 0 else 1)) (goes (flat_turn b (Test c.0 n.0 m.0)) (seen b).flat (if is_zero z then m.0 else n.0)))
    (sym (truth_is (seen b) w z stands)) (by (Test c.0 n.0 m.0) n.0 m.0 n.1 m.1 (is_zero z))))
  where
    by : (x : Does) (holds fails : Option ℕ) → going (around b) b.point 0 ≡ Some holds → going (around b) b.point 1 ≡ Some fails → (lacks : Bool)
        → IsAlike (StateStands b.program) (machine_step.goes (turn b) b.memory (if not lacks then 0 else 1)) (goes (flat_turn b x) (seen b).flat (if lacks then fails else holds))
    by x holds fails first second true = goes_on b laid is begins x 1 fails second
    by x holds fails first second false = goes_on b laid is begins x 0 holds first
