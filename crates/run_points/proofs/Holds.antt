-- The result of a function waits in the frame of its caller, on both sides.
use Rattle.std.proofs.Common.{◌≡◌, inl, inr, ℕ, suc, ◌+◌, ◌<◌, List, [], ◌∷◌, length, get_or, refl, sym, subst, Option, Some, None, ℤ}
use Rattle.std.specs.Prelude.{option_and_then}
use Rattle.typed_tree.specs.Trees.{TypedTree, More}
use Rattle.flow_paths.specs.Names.{waiting}
use Rattle.flow_paths.specs.Laid.{FlowProgram, flow_typing}
use Rattle.flow_paths.specs.Instructions.{Hold}
use Rattle.machine.specs.Words.{Word}
use Rattle.machine.specs.Typed.{sorts}
use Rattle.machine.specs.Memory.{Memory}
use Rattle.machine.specs.Evaluate.{Evaluated, Done}
use Rattle.machine.specs.States.{Waiting, sub_of}
use Rattle.machine.specs.States as machine
use Rattle.machine.specs.Step as machine_step
use Rattle.machine.specs.Step.{successor, taken_by}
use Rattle.run_codes.specs.Codes.{Does, Fill}
use Rattle.run_codes.specs.Codes as codes
use Rattle.run_codes.specs.Flat.{Flat, filled}
use Rattle.run_codes.specs.Lowered.{value}
use Rattle.run_codes.specs.Programs.{going, on_going, use_for, held_result}
use Rattle.run_codes.specs.Points.{Held, Frame, State, Outcome, given_to, on_made, done}
use Rattle.run_codes.specs.Points as points
use Rattle.run_codes.specs.Related.{IsValue, types}
use Rattle.run_codes.proofs.Places.{impossible, some_same}
use Rattle.run_codes.proofs.Expressions.{and_then_some}
use Rattle.run_fills.specs.Filled.{Later}
use Rattle.run_points.specs.Outcomes.{IsAlike}
use Rattle.run_points.specs.States.{Laid, HeldStands, FramesStand, AreUndeclared, MemoryStands, StateStands, MainBegins, LoopsApart}
use Rattle.run_points.specs.Turns.{Turns, state, turn, flat_state, flat_turn, around, seen, TurnStands, DoesAlike}
use Rattle.run_points.proofs.Goes.{way}
use Rattle.run_points.proofs.Tests.{go_alike}
use Rattle.run_points.proofs.Halts.{filled_alike, done_after}
use Rattle.run_points.proofs.Taken.{taken_filled, taken_low}
use Rattle.run_points.proofs.Calls.{caller_stands}

-- ---- the frames

abbrev machine_given : Waiting → List machine.Frame → List machine.Frame
machine_given v [] = []
machine_given v (f ∷ rest) = record f { waits = v ∷ f.waits } ∷ rest

given_long : (v : Waiting) (fs : List machine.Frame) → length (machine_given v fs) ≡ length fs
given_long v [] = refl
given_long v (f ∷ fs) = refl

-- The innermost of some frames has one more value that waits.
given_stands : (program : FlowProgram) (laid : Laid) (made : List ℕ) (stack : List ℤ) (v : Waiting) (h : Held) → HeldStands (flow_typing program).table made v h → (f : machine.Frame) (g : Frame) (fs : List machine.Frame) (gs : List Frame)
    → FramesStand program laid made stack (f ∷ fs) (g ∷ gs) → FramesStand program laid made stack (f ∷ machine_given v fs) (g ∷ given_to h gs)
given_stands program laid made stack v h stands f g [] [] is = is
given_stands program laid made stack v h stands f g (x ∷ fs) (y ∷ gs) is = (
  is.0,
  (
    record {
      next = is.1.0.next;
      within = is.1.0.within;
      words = is.1.0.words;
      few = is.1.0.few;
      waits = (stands, is.1.0.waits);
      sited = is.1.0.sited;
      lying = is.1.0.lying;
      looping = is.1.0.looping;
      first = is.1.0.first;
      turning = is.1.0.turning;
      loops = is.1.0.loops;
      bounds = is.1.0.bounds;
      returns = is.1.0.returns;
      below = is.1.0.below;
      loops_below = is.1.0.loops_below;
    },
    is.1.1,
  ),
)
given_stands program laid made stack v h stands f g [] (y ∷ gs) is = absurd is.1
given_stands program laid made stack v h stands f g (x ∷ fs) [] is = absurd is.1

-- ---- the state

first_next : (t : machine_step.Turn) (next : List ℕ) (i : ℕ) → successor (record t { point = record t.point { next = next } }) 0 ≡ Some i → get_or next 0 0 ≡ i
first_next t [] i is = impossible i is
first_next t (n ∷ next) i is = some_same n i is

hold_stands : (b : Turns) (laid : Laid) → TurnStands b laid → (d : Does) (of : ℕ) (ws : List Word) (zs : List ℤ) (m : Memory) (f : Flat) → Later (seen b) laid.objects m f
    → AreUndeclared (flow_typing b.program) (suc (length b.outer)) m → IsValue (flow_typing b.program).table (types m) (sorts (flow_typing b.program).table of) ws zs → (i : ℕ) → i < (around b).count
    → StateStands b.program
    (record (machine_step.counted (state b)) { frames = record b.frame { waits = machine_step.waiting (turn b); next = i } ∷ machine_given (record { of = of; words = ws }) b.outer; memory = m })
    (record (points.counted (flat_state b)) {
      frames = record b.flat_frame { waits = points.waiting (flat_turn b d); next = (around b).first + i } ∷ given_to (record { of = of; words = zs }) b.flat_outer;
      memory = f;
    })
hold_stands b laid is d of ws zs m f later undeclared value i within = record {
  laid = laid;
  memory = subst (λ n. MemoryStands b.program laid (suc n) m f) (sym (given_long (record { of = of; words = ws }) b.outer)) (record {
    related = later.whole.related;
    apart = later.whole.apart;
    loops_apart = subst (λ n. LoopsApart (flow_typing b.program) laid.objects laid.loops n) (sym later.long) is.memory.loops_apart;
    undeclared = undeclared;
    low = is.memory.low;
    loops_low = is.memory.loops_low;
  });
  frames = given_stands b.program laid (types m) f.stack (record { of = of; words = ws }) (record { of = of; words = zs }) (record { of = refl; value = value })
      (record b.frame { waits = machine_step.waiting (turn b); next = i }) (record b.flat_frame { waits = points.waiting (flat_turn b d); next = (around b).first + i }) b.outer b.flat_outer
      (caller_stands b laid is m f later d i within);
  runs = within;
  at = refl;
  output = refl;
  leaks = refl;
  steps = refl;
}

-- ---- the step

abbrev machine_holds : Turns → ℕ → ℕ → List Word → Memory → machine.Outcome
machine_holds b of i ws m = machine.Goes (record (machine_step.counted (state b)) {
  frames = record b.frame { waits = machine_step.waiting (turn b); next = i } ∷ machine_given (record { of = of; words = ws }) b.outer;
  memory = m;
})

abbrev flat_holds : Turns → Does → ℕ → ℕ → List ℤ → Flat → Outcome
flat_holds b d of n zs f = points.Goes (points.counted (record (flat_state b) {
  memory = f;
  frames = record b.flat_frame { waits = points.waiting (flat_turn b d); next = n } ∷ given_to (record { of = of; words = zs }) b.flat_outer;
}))

hold_by : (b : Turns) (laid : Laid) → TurnStands b laid → (e : TypedTree) (of : ℕ) (v : Fill) (n : ℕ) → value (around b).site 0 (use_for (flow_typing b.program).table of) of e ≡ Some v
    → going (around b) b.point 0 ≡ Some (Some n)
    → IsAlike (StateStands b.program) (machine_step.evaluated (turn b) (taken_by (turn b) of e (machine_step.start (turn b))) (machine_holds b of (get_or b.point.next 0 0)))
    (on_made (flat_turn b (codes.Hold v of (Some n))) (filled (flow_typing b.program).table v (seen b).flat) (flat_holds b (codes.Hold v of (Some n)) of n))
hold_by b laid is e of v n lowers leads = elim (way b 0 (Some n) leads) [
  | inl on ↦
      subst (λ j. Holds j n) (sym (first_next (turn b) b.point.next on.0 on.1))
      (subst (λ j. Holds on.0 j) (sym (some_same n ((around b).first + on.0) on.2)) (goes on.0 on.3))
  | inr out ↦ impossible n (sym out.1)
]
  where
    d : Does
    d = codes.Hold v of (Some n)

    ev : Evaluated (List Word)
    ev = taken_by (turn b) of e (machine_step.start (turn b))

    Holds : ℕ → ℕ → Type 0
    Holds i j =
        IsAlike (StateStands b.program) (machine_step.evaluated (turn b) ev (machine_holds b of i)) (on_made (flat_turn b d) (filled (flow_typing b.program).table v (seen b).flat) (flat_holds b d of j))

    goes : (i : ℕ) → i < (around b).count → Holds i ((around b).first + i)
    goes i within =
        subst (λ x. IsAlike (StateStands b.program) (machine_step.evaluated (turn b) x (machine_holds b of i)) (on_made (flat_turn b d) (filled (flow_typing b.program).table v (seen b).flat) (flat_holds b d of ((around b).first + i))))
        (done_after ev)
        (filled_alike b laid is d (0 + waiting e) (sorts (flow_typing b.program).table of) ev (filled (flow_typing b.program).table v (seen b).flat) (λ ws n. Done ws n) (machine_holds b of i)
        (flat_holds b d of ((around b).first + i)) (taken_low b laid is of e) (taken_filled b laid is of e v lowers)
        (λ ws zs m f later undeclared value. hold_stands b laid is d of ws zs m f later undeclared value i within))

-- ---- the instruction

abbrev held_does : ℕ → Fill → Option ℕ → Option Does
held_does of v None = None
held_does of v (Some n) = Some (codes.Hold v of (Some n))

held_alike : (b : Turns) (laid : Laid) → TurnStands b laid → (e rest : TypedTree) (of : ℕ) (d : Does)
    → option_and_then (λ v. on_going (around b) b.point (held_does of v)) (value (around b).site 0 (use_for (flow_typing b.program).table of) of e) ≡ Some d
    → IsAlike (StateStands b.program) (machine_step.evaluated (turn b) (taken_by (turn b) of e (machine_step.start (turn b))) (machine_holds b of (get_or b.point.next 0 0))) (done (flat_turn b d) d)
held_alike b laid is e rest of d lowers =
    let v = and_then_some (λ v. on_going (around b) b.point (held_does of v)) (value (around b).site 0 (use_for (flow_typing b.program).table of) of e) d lowers in
    let n = and_then_some (held_does of v.0) (going (around b) b.point 0) d v.2 in
    by v.0 v.1 n.0 n.1 n.2
  where
    by : (v : Fill) → value (around b).site 0 (use_for (flow_typing b.program).table of) of e ≡ Some v → (n : Option ℕ) → going (around b) b.point 0 ≡ Some n → held_does of v n ≡ Some d
        → IsAlike (StateStands b.program) (machine_step.evaluated (turn b) (taken_by (turn b) of e (machine_step.start (turn b))) (machine_holds b of (get_or b.point.next 0 0))) (done (flat_turn b d) d)
    by v filled_by None leads is_hold = impossible d is_hold
    by v filled_by (Some n) leads is_hold =
        subst (λ d. IsAlike (StateStands b.program) (machine_step.evaluated (turn b) (taken_by (turn b) of e (machine_step.start (turn b))) (machine_holds b of (get_or b.point.next 0 0))) (done (flat_turn b d) d))
        (some_same (codes.Hold v of (Some n)) d is_hold) (hold_by b laid is e of v n filled_by leads)

abbrev machine_held : Turns → TypedTree → Option ℕ → machine.Outcome
machine_held b (More e rest) (Some of) = machine_step.evaluated (turn b) (taken_by (turn b) of e (machine_step.start (turn b))) (machine_holds b of (get_or b.point.next 0 0))
machine_held b _ _ = machine_step.goes (turn b) b.memory 0

pub hold_alike : (b : Turns) (laid : Laid) → TurnStands b laid → MainBegins b.program b.lowered → (v : TypedTree) → DoesAlike b (Hold v)
hold_alike b laid is begins v d lowers = by v (sub_of b.program b.frame.sub).result lowers
  where
    by : (v : TypedTree) (result : Option ℕ) → held_result (around b) b.point v result ≡ Some d → IsAlike (StateStands b.program) (machine_held b v result) (done (flat_turn b d) d)
    by (More e rest) (Some of) lowers = held_alike b laid is e rest of d lowers
    by (More e rest) None lowers = go_alike b laid is begins d lowers
    by _ result lowers = go_alike b laid is begins d lowers
