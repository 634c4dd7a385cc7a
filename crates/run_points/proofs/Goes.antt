-- A step that goes on leaves states that stand for each other.
use Rattle.std.proofs.Common.{◌≡◌, ◌⊎◌, inl, inr, ℕ, zero, suc, ◌+◌, ◌<◌, ◌≤◌, false, List, [], ◌∷◌, length, take, drop, refl, sym, ap, subst, ◌∙◌, Option, Some, None, arith, slice_get, nat_lt, ℤ, if◌then◌else◌, append-nil}
use Rattle.std.specs.Prelude.{◌==◌}
use Rattle.spark_base.specs.Lists.{Has}
use Rattle.flow_paths.specs.Laid.{FlowProgram, flow_typing}
use Rattle.machine.specs.Memory.{Memory}
use Rattle.machine.specs.States.{Waiting, Loop}
use Rattle.machine.specs.States as machine
use Rattle.machine.specs.Step as machine_step
use Rattle.machine.specs.Step.{successor, loop_of}
use Rattle.run_codes.specs.Codes.{Does, Finish}
use Rattle.run_codes.specs.Flat.{Flat}
use Rattle.run_codes.specs.Programs.{Around, going}
use Rattle.run_codes.specs.Points.{Held, Frame, State, Turn, start, counted, after}
use Rattle.run_codes.specs.Related.{types, lying_sorts}
use Rattle.run_codes.proofs.Places.{if_some, some_same, below}
use Rattle.run_points.specs.States.{Laid, LoopAt, LoopsStand, AreBounded, WaitsStand, FrameStands, FramesStand, StateStands, MainBegins, main_begun}
use Rattle.run_points.specs.Turns.{Turns, state, turn, flat_state, flat_turn, around, TurnStands, IsKept}
use Rattle.run_points.proofs.Waits.{at_start}
use Rattle.run_points.proofs.More.{frames_more}

-- ---- successors

abbrev leads_to : Around → Option ℕ → Option (Option ℕ)
leads_to a None = if a.is_first then Some None else None
leads_to a (Some n) = if nat_lt n a.count then Some (Some (a.first + n)) else None

-- The k-th one is in the subprogram, or there is none, and the main procedure may begin.
abbrev pub Way : Around → Option ℕ → Option ℕ → Type 0
Way a o n = ((i : ℕ) × (o ≡ Some i) × (n ≡ Some (a.first + i)) × (i < a.count)) ⊎ ((o ≡ None) × (n ≡ None))

way_of : (a : Around) (o n : Option ℕ) → leads_to a o ≡ Some n → Way a o n
way_of a None n is = let sure = if_some a.is_first (Some None) n is in inr (refl, sym (some_same None n sure.1))
way_of a (Some i) n is =
    let sure = if_some (nat_lt i a.count) (Some (Some (a.first + i))) n is in
    inl (i, refl, sym (some_same (Some (a.first + i)) n sure.1), below i a.count sure.0)

successor_in : (t : machine_step.Turn) (next : List ℕ) (k : ℕ) → successor (record t { point = record t.point { next = next } }) k ≡ slice_get next k
successor_in t [] k = refl
successor_in t (n ∷ next) zero = refl
successor_in t (n ∷ next) (suc k) = successor_in t next k

pub way : (b : Turns) (k : ℕ) (n : Option ℕ) → going (around b) b.point k ≡ Some n → Way (around b) (successor (turn b) k) n
way b k n is =
    subst (λ o. Way (around b) o n) (sym (successor_in (turn b) b.point.next k)) (way_of (around b) (slice_get b.point.next k) n is)

-- ---- frames

-- Words of loops in frames below one are as before.
pub frames_kept : (program : FlowProgram) (laid : Laid) (made : List ℕ) (stack other : List ℤ) (d : ℕ) (fs : List machine.Frame) (gs : List Frame)
    → length fs ≤ d → ((c : LoopAt) → Has laid.loops c → (c.frame == d) ≡ false → take 3 (drop c.at other) ≡ take 3 (drop c.at stack))
    → FramesStand program laid made stack fs gs → FramesStand program laid made other fs gs
frames_kept program laid made stack other d [] [] low same is = tt
frames_kept program laid made stack other d (f ∷ fs) (g ∷ gs) low same is = (
  record {
    next = is.0.next;
    within = is.0.within;
    words = is.0.words;
    few = is.0.few;
    waits = is.0.waits;
    sited = is.0.sited;
    lying = is.0.lying;
    looping = is.0.looping;
    first = is.0.first;
    turning = is.0.turning;
    loops = λ c has of. same c has (apart c.frame (length fs) d of low) ∙ is.0.loops c has of;
    bounds = is.0.bounds;
    returns = is.0.returns;
    below = is.0.below;
    loops_below = is.0.loops_below;
  },
  frames_kept program laid made stack other d fs gs (omega (arith, low)) same is.1,
)
  where
    apart : (a l d : ℕ) → a ≡ l → suc l ≤ d → (a == d) ≡ false
    apart a l d is low = grind arith
frames_kept program laid made stack other d [] (g ∷ gs) low same is = absurd is
frames_kept program laid made stack other d (f ∷ fs) [] low same is = absurd is

-- ---- states

pub counted_stands : (program : FlowProgram) (s : machine.State) (g : State) → StateStands program s g → StateStands program (machine_step.counted s) (counted g)
counted_stands program s g is = record {
  laid = is.laid;
  memory = is.memory;
  frames = is.frames;
  runs = is.runs;
  at = is.at;
  output = is.output;
  leaks = is.leaks;
  steps = ap suc is.steps;
}

abbrev flat_begun : Turn → Frame → Flat → List Frame → State
flat_begun t f m [] = main_begun t.table t.program (record t.state { memory = m }) f t.program.main
flat_begun t f m (g ∷ outer) = record t.state { memory = m; frames = f ∷ g ∷ outer }

begun_stands : (program : FlowProgram) (t : Turn) (s : machine.State) (f : machine.Frame) (h : Frame) (m : Flat) (outer : List machine.Frame) (flat_outer : List Frame)
    → t.table ≡ (flow_typing program).table → MainBegins program t.program
    → StateStands program (record s { frames = f ∷ outer }) (record t.state { memory = m; frames = h ∷ flat_outer })
    → StateStands program (record s { frames = machine_step.begun program f outer }) (flat_begun t h m flat_outer)
begun_stands program t s f h m [] [] table begins is =
    subst (λ l. StateStands program (record s { frames = machine_step.begun program f [] }) (main_begun l t.program (record t.state { memory = m }) h t.program.main)) (sym table)
    (begins s (record t.state { memory = m }) f h is)
begun_stands program t s f h m (x ∷ outer) (y ∷ flat_outer) table begins is = is
begun_stands program t s f h m [] (y ∷ flat_outer) table begins is = absurd is.frames.1
begun_stands program t s f h m (x ∷ outer) [] table begins is = absurd is.frames.1

-- ---- the state after the step

-- The frame that ran, at a point, with these values waiting and these loops.
frame_after : (b : Turns) (laid : Laid) → TurnStands b laid → (ws : List Waiting) (hs : List Held) → WaitsStand (flow_typing b.program).table (types b.memory) ws hs
    → (loops : List Loop) (f : Flat) → LoopsStand laid.loops (length b.outer) f.stack loops → AreBounded (flow_typing b.program) loops → (i n : ℕ)
    → n ≡ (around b).first + i → i < (around b).count
    → FrameStands b.program laid (types b.memory) f.stack (length b.outer) (record b.frame { waits = ws; loops = loops; next = i }) (record b.flat_frame { waits = hs; next = n })
frame_after b laid is ws hs waits loops f turning bounds i n next within = record {
  next = next;
  within = inl within;
  words = is.frame.words;
  few = is.frame.few;
  waits = waits;
  sited = is.frame.sited;
  lying = is.frame.lying;
  looping = is.frame.looping;
  first = is.frame.first;
  turning = is.frame.turning;
  loops = turning;
  bounds = bounds;
  returns = is.frame.returns;
  below = is.frame.below;
  loops_below = is.frame.loops_below;
}

state_after : (b : Turns) (laid : Laid) → TurnStands b laid → (ws : List Waiting) (hs : List Held) → WaitsStand (flow_typing b.program).table (types b.memory) ws hs
    → (loops : List Loop) (m : Memory) (f : Flat) → IsKept b laid m f → LoopsStand laid.loops (length b.outer) f.stack loops → AreBounded (flow_typing b.program) loops → (i n : ℕ)
    → n ≡ (around b).first + i → i < (around b).count
    → StateStands b.program (record (state b) { frames = record b.frame { waits = ws; loops = loops; next = i } ∷ b.outer; memory = m })
    (record (flat_state b) { memory = f; frames = record b.flat_frame { waits = hs; next = n } ∷ b.flat_outer })
state_after b laid is ws hs waits loops m f kept turning bounds i n next within =
    let d : ℕ = length b.outer in
    let frames : FramesStand b.program laid (types b.memory) f.stack (record b.frame { waits = ws; loops = loops; next = i } ∷ b.outer) (record b.flat_frame { waits = hs; next = n } ∷ b.flat_outer) = (
      frame_after b laid is ws hs waits loops f turning bounds i n next within,
      frames_kept b.program laid (types b.memory) b.flat.stack f.stack d b.outer b.flat_outer (same d) kept.loops is.outer,
    ) in
    record {
      laid = laid;
      memory = record {
        related = kept.related;
        apart = record { within = λ l has. subst (λ k. l.at + length (lying_sorts (flow_typing b.program) l) ≤ k) (sym kept.long) (is.memory.apart.within l has); apart = is.memory.apart.apart };
        loops_apart = record {
          within = λ c has. subst (λ k. c.at + 3 ≤ k) (sym kept.long) (is.memory.loops_apart.within c has);
          objects = is.memory.loops_apart.objects;
          apart = is.memory.loops_apart.apart;
        };
        undeclared = kept.undeclared;
        low = is.memory.low;
        loops_low = is.memory.loops_low;
      };
      frames =
          subst (λ made. FramesStand b.program laid made f.stack (record b.frame { waits = ws; loops = loops; next = i } ∷ b.outer) (record b.flat_frame { waits = hs; next = n } ∷ b.flat_outer))
          (sym kept.made)
          (frames_more b.program laid (types b.memory) kept.more f.stack (record b.frame { waits = ws; loops = loops; next = i } ∷ b.outer) (record b.flat_frame { waits = hs; next = n } ∷ b.flat_outer) frames);
      runs = within;
      at = refl;
      output = refl;
      leaks = refl;
      steps = refl;
    }
  where
    same : (d : ℕ) → d ≤ d
    same d = omega arith

-- The step goes to the k-th successor.
pub after_stands : (b : Turns) (laid : Laid) → TurnStands b laid → MainBegins b.program b.lowered → (d : Does) (k : ℕ) (n : Option ℕ) → going (around b) b.point k ≡ Some n
    → (ws : List Waiting) (hs : List Held) → WaitsStand (flow_typing b.program).table (types b.memory) ws hs
    → (loops : List Loop) (m : Memory) (f : Flat) → IsKept b laid m f → LoopsStand laid.loops (length b.outer) f.stack loops → AreBounded (flow_typing b.program) loops
    → StateStands b.program
    (machine_step.counted (record (state b) { frames = machine_step.led (turn b) (record b.frame { waits = ws; loops = loops }) (successor (turn b) k); memory = m }))
    (after (flat_turn b d) hs f n)
after_stands b laid is begins d k n goes ws hs waits loops m f kept turning bounds = elim (way b k n goes) [
  | inl on ↦ subst (λ o. After o n) (sym on.1) (subst (λ z. After (Some on.0) z) (sym on.2) (at_point on.0 on.3))
  | inr out ↦ subst (λ o. After o n) (sym out.0) (subst (λ z. After None z) (sym out.1) outside)
]
  where
    After : Option ℕ → Option ℕ → Type 0
    After o n = StateStands b.program
        (machine_step.counted (record (state b) { frames = machine_step.led (turn b) (record b.frame { waits = ws; loops = loops }) o; memory = m }))
        (after (flat_turn b d) hs f n)

    at_point : (i : ℕ) → i < (around b).count → After (Some i) (Some ((around b).first + i))
    at_point i within =
        counted_stands b.program (record (state b) { frames = record b.frame { waits = ws; loops = loops; next = i } ∷ b.outer; memory = m })
        (record (flat_state b) { memory = f; frames = record b.flat_frame { waits = hs; next = (around b).first + i } ∷ b.flat_outer })
        (state_after b laid is ws hs waits loops m f kept turning bounds i ((around b).first + i) refl within)

    outside : After None None
    outside = counted_stands b.program
        (record (state b) { frames = machine_step.begun b.program (record b.frame { waits = ws; loops = loops }) b.outer; memory = m })
        (flat_begun (flat_turn b d) (record b.flat_frame { waits = hs }) f b.flat_outer)
        (begun_stands b.program (flat_turn b d) (record (state b) { memory = m }) (record b.frame { waits = ws; loops = loops }) (record b.flat_frame { waits = hs }) f b.outer b.flat_outer
        refl begins (state_after b laid is ws hs waits loops m f kept turning bounds b.frame.next b.flat_frame.next is.frame.next is.runs))

-- ---- nothing is changed

pub unchanged : (b : Turns) (laid : Laid) → TurnStands b laid → IsKept b laid b.memory (start (flat_turn b Finish))
unchanged b laid is = record {
  related = at_start b laid is;
  more = [];
  made = sym (append-nil (types b.memory));
  long = refl;
  undeclared = is.memory.undeclared;
  loops = λ c has other. refl;
}
