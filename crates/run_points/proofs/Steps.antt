-- A step of what is lowered is a step of the machine, and a run is its run.
use Rattle.std.proofs.Common.{◌≡◌, ℕ, ◌+◌, true, false, Bool, List, [], ◌∷◌, ◌++◌, length, get_or, refl, sym, ap, subst, ◌∙◌, Option, Some, None, slice_get, if◌then◌else◌}
use Rattle.std.proofs.lemmas.List.{length-append}
use Rattle.type_definitions.specs.Entries.{boolean}
use Rattle.typed_tree.specs.Trees.{TypedTree, Name, Component as IntoComponent, Designated, Element, Call, Parens, Image, Unary, Binary, Short, IsNull, Aggregate, Alike, New, More}
use Rattle.flow_paths.specs.Instructions.{Instruction, Skip, Declare, Assign, Output, Input, Release, Test, Choose, Start, Next, Evaluate, LeaveLoop, Hold, EndScope, Finish, Fall}
use Rattle.flow_paths.specs.Instructions as instruction
use Rattle.flow_paths.specs.Objects.{Typing}
use Rattle.flow_paths.specs.Names.{has_call, waiting}
use Rattle.flow_paths.specs.Scopes as scopes
use Rattle.flow_paths.specs.Points.{FlowPoint}
use Rattle.flow_paths.specs.Laid.{FlowProgram, flow_typing}
use Rattle.machine.specs.States.{Leak, sub_of, stack_words, frame_words, frame_at_start}
use Rattle.machine.specs.States as machine
use Rattle.machine.specs.Step as machine_step
use Rattle.machine.specs.Run as machine_run
use Rattle.machine.specs.Run.{no_point}
use Rattle.run_codes.specs.Codes.{Does, Point}
use Rattle.run_codes.specs.Codes as codes
use Rattle.run_codes.specs.Programs.{Program, does, with_takes, taken_types, point_takes}
use Rattle.run_codes.specs.Points.{Frame, State, Outcome, Wants, Fails, done, are_taken, turned, stepped, step, run_of, run_given, is_declaring}
use Rattle.run_codes.proofs.Places.{some_same}
use Rattle.run_points.specs.Outcomes.{IsSeenAlike, IsAlike, GivesAlike}
use Rattle.run_points.specs.States.{Laid, StateStands, MainBegins}
use Rattle.run_points.specs.Turns.{Turns, turn, flat_turn, around, around_sub, TurnStands, IsLowered, HasTypes, DoesAlike}
use Rattle.run_points.specs.Frames.{IsCallable, HasFrames}
use Rattle.run_points.proofs.Sizes.{sizes_same}
use Rattle.run_points.proofs.Runs.{run_alike, given_alike}
use Rattle.run_points.proofs.Tests.{mapped, go_alike, fall_alike, test_alike}
use Rattle.run_points.proofs.Operands.{left_alike, right_alike}
use Rattle.run_points.proofs.Choices.{choose_alike}
use Rattle.run_points.proofs.Scopes.{end_scope_alike}
use Rattle.run_points.proofs.Releases.{release_alike}
use Rattle.run_points.proofs.Holds.{hold_alike}
use Rattle.run_points.proofs.Calls.{call_alike}
use Rattle.run_points.proofs.Finishes.{finish_alike}
use Rattle.run_points.proofs.Begins.{main_begins, small_main, starts_alike}
use Rattle.run_points.proofs.Texts.{output_alike}
use Rattle.run_points.proofs.Declares.{declare_alike}
use Rattle.run_points.proofs.Assigns.{assign_alike}
use Rattle.run_points.proofs.Inputs.{input_alike}
use Rattle.run_points.proofs.Loops.{start_alike}
use Rattle.run_points.proofs.NextTurns.{next_alike}

-- ---- how many values are taken

two_taken : (s : Typing) (a b : TypedTree) → waiting a ≡ length (taken_types s a) → waiting b ≡ length (taken_types s b)
    → waiting a + waiting b ≡ length (taken_types s a ++ taken_types s b)
two_taken s a b x y = ap (λ n. n + waiting b) x ∙ ap (λ n. length (taken_types s a) + n) y ∙ sym (length-append (taken_types s a) (taken_types s b))

short_taken : (s : Typing) (a b : TypedTree) (calls : Bool) → waiting a ≡ length (taken_types s a) → waiting b ≡ length (taken_types s b)
    → (if calls then 1 else waiting a + waiting b) ≡ length (if calls then boolean ∷ [] else taken_types s a ++ taken_types s b)
short_taken s a b true x y = refl
short_taken s a b false x y = two_taken s a b x y

types_taken : (s : Typing) (e : TypedTree) → waiting e ≡ length (taken_types s e)
unfolding taken_types waiting
types_taken s (Call p sub actuals) = refl
types_taken s (Name p x steps t) = types_taken s steps
types_taken s (IntoComponent i rest) = types_taken s rest
types_taken s (Designated rest) = types_taken s rest
types_taken s (Element index low high rest) = two_taken s index rest (types_taken s index) (types_taken s rest)
types_taken s (Image t e) = types_taken s e
types_taken s (Parens e) = types_taken s e
types_taken s (Unary op e) = types_taken s e
types_taken s (Binary op a b) = two_taken s a b (types_taken s a) (types_taken s b)
types_taken s (Short op p a q b) = short_taken s a b (has_call b) (types_taken s a) (types_taken s b)
types_taken s (IsNull equal e) = types_taken s e
types_taken s (Aggregate t es) = types_taken s es
types_taken s (Alike t e) = types_taken s e
types_taken s (New t v) = types_taken s v
types_taken s (More e rest) = two_taken s e rest (types_taken s e) (types_taken s rest)
types_taken s _ = refl

pub many_taken : (s : Typing) (i : Instruction) → scopes.taken i ≡ length (point_takes s i)
many_taken s Skip = refl
many_taken s (Declare x v) = types_taken s v
many_taken s (Assign target e) = two_taken s e target (types_taken s e) (types_taken s target)
many_taken s (instruction.Call sub e result) = types_taken s e
many_taken s (Output text line) = types_taken s text
many_taken s (Input target) = types_taken s target
many_taken s (Release e) = types_taken s e
many_taken s (Test e) = types_taken s e
many_taken s (Choose e choices) = types_taken s e
many_taken s (Start x reversed low high) = two_taken s low high (types_taken s low) (types_taken s high)
many_taken s (Next x reversed low high) = refl
many_taken s (Evaluate t e left) = types_taken s e
many_taken s (LeaveLoop e) = types_taken s e
many_taken s (Hold v) = types_taken s v
many_taken s (EndScope x) = refl
many_taken s Finish = refl
many_taken s Fall = refl

-- ---- all instructions

leave_alike : (b : Turns) (laid : Laid) → TurnStands b laid → MainBegins b.program b.lowered → (e : TypedTree) → DoesAlike b (LeaveLoop e)
leave_alike b laid is begins (More e rest) d lowers = test_alike b laid is begins e d lowers
leave_alike b laid is begins _ d lowers = go_alike b laid is begins d lowers

-- What is called may be called.
abbrev MayCall : FlowProgram → Instruction → Type 0
MayCall program i = (sub : ℕ) (e : TypedTree) (result : Option ℕ) → i ≡ instruction.Call sub e result → IsCallable program sub

turn_alike : (b : Turns) (laid : Laid) → TurnStands b laid → IsLowered b.program b.lowered → MainBegins b.program b.lowered → (i : Instruction) → b.point.instr ≡ i → MayCall b.program i → DoesAlike b i
turn_alike b laid is lowered begins Skip here calls d lowers = go_alike b laid is begins d lowers
turn_alike b laid is lowered begins (Output text line) here calls d lowers = output_alike b laid is begins text line d lowers
turn_alike b laid is lowered begins (Test e) here calls d lowers = test_alike b laid is begins e d lowers
turn_alike b laid is lowered begins (Choose e choices) here calls d lowers = choose_alike b laid is begins e choices d lowers
turn_alike b laid is lowered begins (Evaluate t e (Some op)) here calls d lowers = left_alike b laid is begins e op d lowers
turn_alike b laid is lowered begins (Evaluate t e None) here calls d lowers = right_alike b laid is begins e d lowers
turn_alike b laid is lowered begins (LeaveLoop e) here calls d lowers = leave_alike b laid is begins e d lowers
turn_alike b laid is lowered begins Fall here calls d lowers = subst (λ x. IsAlike (StateStands b.program) (machine_step.turn (turn b) Fall) (done (flat_turn b x) x)) (some_same codes.Fall d lowers) (fall_alike b laid is)
turn_alike b laid is lowered begins (Declare x v) here calls d lowers = declare_alike b laid is begins x v d lowers
turn_alike b laid is lowered begins (Assign target e) here calls d lowers = assign_alike b laid is begins target e d lowers
turn_alike b laid is lowered begins (instruction.Call sub e result) here calls d lowers = call_alike b laid is lowered sub (calls sub e result refl) e result d lowers
turn_alike b laid is lowered begins (Input target) here calls d lowers = input_alike b laid is begins target d lowers
turn_alike b laid is lowered begins (Release e) here calls d lowers = release_alike b laid is begins e d lowers
turn_alike b laid is lowered begins (Start x reversed low high) here calls d lowers = start_alike b laid is begins x reversed low high d lowers
turn_alike b laid is lowered begins (Next x reversed low high) here calls d lowers = next_alike b laid is begins x reversed low high here d lowers
turn_alike b laid is lowered begins (Hold v) here calls d lowers = hold_alike b laid is begins v d lowers
turn_alike b laid is lowered begins (EndScope x) here calls d lowers = end_scope_alike b laid is begins x d lowers
turn_alike b laid is lowered begins Finish here calls d lowers = finish_alike b laid is d lowers

-- ---- the step

pub stands_seen : (program : FlowProgram) (s : machine.State) (g : State) → StateStands program s g → IsSeenAlike s g
stands_seen program s g is = record {
  output = is.output;
  leaks = is.leaks;
  steps = is.steps;
  made = is.memory.related.counted.made;
  freed = is.memory.related.counted.freed;
  sizes = sizes_same (flow_typing program) is.laid.objects s.memory g.memory is.memory.related;
}

-- What is shared of both states.
abbrev with_shared : State → List Frame → ℕ → List ℕ → List Leak → ℕ → State
with_shared g gs at output leaks steps = record g { frames = gs; at = at; output = output; leaks = leaks; steps = steps }

frames_alike : (program : FlowProgram) (p : Program) (input : List ℕ) → HasTypes program → IsLowered program p → HasFrames program → MainBegins program p
    → (s : machine.State) (g : State) (fs : List machine.Frame) (gs : List Frame) → StateStands program (record s { frames = fs }) (record g { frames = gs })
    → IsAlike (StateStands program) (machine_run.stepped program input (record s { frames = fs }) fs)
    (stepped (flow_typing program).table p input (with_shared g gs s.at s.output s.leaks s.steps) gs)
frames_alike program p input has lowered frames begins s g [] [] is =
    (refl, record { output = refl; leaks = refl; steps = refl; made = is.memory.related.counted.made; freed = is.memory.related.counted.freed; sizes = sizes_same (flow_typing program) is.laid.objects s.memory g.memory is.memory.related })
frames_alike program p input has lowered frames begins s g [] (h ∷ gs) is = absurd is.frames
frames_alike program p input has lowered frames begins s g (f ∷ fs) [] is = absurd is.frames
frames_alike program p input has lowered frames begins s g (f ∷ fs) (h ∷ gs) is =
    let q = lowered.points f.sub f.next is.runs is.frames.0.few in
    let d = mapped (λ d. record { takes = takes; does = d; pos = fp.pos }) (does (with_takes (around_sub program f.sub) takes) fp fp.instr) q.0 q.2 in
    let there : slice_get p.points h.next ≡ Some (record { takes = takes; does = d.0; pos = fp.pos }) =
    ap (λ n. slice_get p.points n) is.frames.0.next ∙ q.1 ∙ ap (λ x. Some x) (sym d.2) in
    subst (λ o. IsAlike (StateStands program) (machine_step.turn (turn b) fp.instr) (of_point o)) (sym there)
    (by d.0 d.1 (are_taken (flat_turn b codes.Finish)) refl)
  where
    fp : FlowPoint
    fp = get_or (sub_of program f.sub).points f.next no_point

    takes : List ℕ
    takes = point_takes (flow_typing program) fp.instr

    b : Turns
    b = record {
      program = program;
      lowered = p;
      input = input;
      point = fp;
      takes = takes;
      at = s.at;
      output = s.output;
      leaks = s.leaks;
      steps = s.steps;
      memory = s.memory;
      checks = s.checks;
      frame = f;
      outer = fs;
      flat = g.memory;
      flat_frame = h;
      flat_outer = gs;
    }

    of_point : Option Point → Outcome
    of_point None = Fails
    of_point (Some x) =
        turned (record { table = (flow_typing program).table; program = p; input = input; point = x; state = with_shared g (h ∷ gs) s.at s.output s.leaks s.steps; frame = h; outer = gs })

    taken_stands : are_taken (flat_turn b codes.Finish) ≡ true → TurnStands b is.laid
    taken_stands taken = record {
      laws = has.laws;
      parts = has.parts;
      truth = has.truth;
      memory = is.memory;
      frame = is.frames.0;
      runs = is.runs;
      outer = is.frames.1;
      many = many_taken (flow_typing program) fp.instr;
      taken = taken;
    }

    by : (d : Does) → does (around b) fp fp.instr ≡ Some d → (taken : Bool) → are_taken (flat_turn b codes.Finish) ≡ taken
        → IsAlike (StateStands program) (machine_step.turn (turn b) fp.instr) (if taken then done (flat_turn b d) d else Wants)
    by d lowers false none = tt
    by d lowers true taken =
        turn_alike b is.laid (taken_stands taken) lowered begins fp.instr refl (λ sub e result called. frames.calls f.sub f.next sub e result is.runs called) d lowers

-- A step from states that stand for each other.
pub step_alike : (program : FlowProgram) (p : Program) (input : List ℕ) → HasTypes program → IsLowered program p → HasFrames program → MainBegins program p
    → (s : machine.State) (g : State) → StateStands program s g
    → IsAlike (StateStands program) (machine_run.step program input s) (step (flow_typing program).table p input g)
step_alike program p input has lowered frames begins s g is =
    shared s.at s.output s.leaks s.steps is.at is.output is.leaks is.steps
    (frames_alike program p input has lowered frames begins s g s.frames g.frames is)
  where
    to : ℕ → List ℕ → List Leak → ℕ → Type 0
    to at output leaks steps =
        IsAlike (StateStands program) (machine_run.step program input s) (stepped (flow_typing program).table p input (with_shared g g.frames at output leaks steps) g.frames)

    shared : (a : ℕ) (o : List ℕ) (l : List Leak) (n : ℕ) → g.at ≡ a → g.output ≡ o → g.leaks ≡ l → g.steps ≡ n → to a o l n → to g.at g.output g.leaks g.steps
    shared a o l n at output leaks steps is =
        subst (λ a. to a g.output g.leaks g.steps) (sym at) (subst (λ o. to a o g.leaks g.steps) (sym output)
        (subst (λ l. to a o l g.steps) (sym leaks) (subst (λ n. to a o l n) (sym steps) is)))

-- ---- the run

-- What a run gives is what the machine's run gives.
pub run_gives : (program : FlowProgram) (p : Program) (input : List ℕ) → HasTypes program → IsLowered program p → HasFrames program → (main n : ℕ) → program.main ≡ Some main
    → GivesAlike (machine_run.ended (machine_run.run_of program main input n))
    (run_given (run_of (flow_typing program).table p (is_declaring program) (sub_of program main).pos main input n))
run_gives program p input has lowered frames main n is =
    given_alike (StateStands program) (stands_seen program) (machine_run.run_of program main input n)
    (run_of (flow_typing program).table p (is_declaring program) (sub_of program main).pos main input n)
    (run_alike (StateStands program) program p input main n
    (λ fits. step_alike program p input has lowered frames (main_begins program p has lowered frames (small_main program main is fits)))
    (stands_seen program) lowered.subs (λ fits. starts_alike program p has lowered frames main is fits))
