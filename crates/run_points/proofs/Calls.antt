-- A call enters a frame on both sides alike, or both raise where the stack is full.
use Rattle.std.proofs.Common.{◌≡◌, inl, inr, ℕ, zero, suc, ◌+◌, ◌<◌, ◌≤◌, true, false, Bool, List, [], ◌∷◌, ◌++◌, map, length, get_or, sum, refl, sym, ap, subst, ◌∙◌, arith, Option, Some, None, ℤ, nat_lt, if◌then◌else◌}
use Rattle.std.specs.Prelude.{flat_map, nat_le}
use Rattle.std.proofs.lemmas.List.Sums.{sum_by-cons}
use Rattle.typed_tree.specs.Trees.{TypedTree}
use Rattle.flow_paths.specs.Objects.{Typing, Signature, Passing, sub_at, passings}
use Rattle.flow_paths.specs.Names.{waiting}
use Rattle.flow_paths.specs.Laid.{FlowSub, FlowProgram, flow_typing}
use Rattle.flow_paths.specs.Instructions as instruction
use Rattle.machine.specs.Memory.{Memory}
use Rattle.machine.specs.Evaluate.{Here, Evaluated, StorageError}
use Rattle.machine.specs.Calls.{all_passed, out_checks}
use Rattle.machine.specs.Calls as machine_calls
use Rattle.machine.specs.States.{Waiting, Leak, sub_of, stack_words, frame_words, frame_at_start}
use Rattle.machine.specs.States as machine
use Rattle.machine.specs.Step as machine_step
use Rattle.machine.specs.Step.{successor}
use Rattle.run_codes.specs.Codes.{Actual, Does, Finish}
use Rattle.run_codes.specs.Codes as codes
use Rattle.run_codes.specs.Flat.{Flat, Raises, Given, Made, Failed}
use Rattle.run_codes.specs.Flat as flat
use Rattle.run_codes.specs.Lowered.{Kept}
use Rattle.run_codes.specs.Programs.{objects_of, going, actuals, on_next}
use Rattle.run_codes.specs.Points.{Frame, State, Outcome, Passed, halted, on_made, on_got, frame_of, frames_words, with_frame, out_leaks, with_formals, returns_of, after, done}
use Rattle.run_codes.specs.Codes.{Sub}
use Rattle.run_codes.specs.Points as points
use Rattle.run_codes.specs.Related.{types, now, IsSited, Lying}
use Rattle.run_codes.proofs.Places.{impossible, some_same}
use Rattle.run_codes.proofs.Expressions.{and_then_some}
use Rattle.run_fills.specs.Filled.{IsWhole, at, Later}
use Rattle.run_fills.proofs.Wholes.{unchanged}
use Rattle.run_points.specs.Outcomes.{IsAlike}
use Rattle.run_points.specs.States.{LoopsApart, Laid, FrameStands, FramesStand, AreUndeclared, MemoryStands, StateStands, IsLow, lyings}
use Rattle.run_points.specs.Turns.{Turns, state, turn, flat_state, flat_turn, around, seen, TurnStands, IsLowered, HasTypes, DoesAlike}
use Rattle.run_points.specs.Frames.{IsCallable}
use Rattle.run_points.proofs.More.{frames_more}
use Rattle.run_points.proofs.Goes.{way, frames_kept}
use Rattle.run_points.proofs.Ends.{start_is, waits_on}
use Rattle.run_points.proofs.Tests.{DoneAlike}
use Rattle.run_points.proofs.Halts.{is_whole, raised_later}
use Rattle.run_points.proofs.Storing.{loops_later}
use Rattle.run_points.proofs.Leaking.{leaking_stands}
use Rattle.run_points.proofs.Keeping.{Keeps}
use Rattle.run_points.proofs.Flags.{FreesNone, frees_none, Anywhere, keeps_flags, keeps_undeclared}
use Rattle.run_points.proofs.Rooms.{offset_there}
use Rattle.run_points.proofs.Templates.{room_template, are_rooms, template_is, words_are, formals_are}
use Rattle.run_points.proofs.Entered.{in_left, with_room, memory_entered, frames_entered, frame_entered, sited_entered}
use Rattle.run_points.proofs.Offsets.{are_formals}
use Rattle.run_points.proofs.Passing.{formal_type, AllStandPassed, AllPass}
use Rattle.run_points.proofs.Actuals.{all_keep, all_pass}
use Rattle.run_points.proofs.Formals.{IsDeclaring, formal_lying, IsDeclared, formals_declared}
use Rattle.run_points.proofs.Called.{stopping_alike, out_same, returns_stand}

-- ---- what was passed

-- After the actuals: the memories of both sides, and what they were passed as.
pub record IsPassed (b : Turns) (laid : Laid) (sub : ℕ) (tree : TypedTree) (m : Memory) (f : Flat) (ps : List machine_calls.Passed) (qs : List Passed) : Type 0 where
  pub later : Later (seen b) laid.objects m f
  pub flags : FreesNone b.memory m
  pub undeclared : AreUndeclared (flow_typing b.program) (suc (length b.outer)) m
  pub stand : AllStandPassed (seen b) b.point.pos (types m) (sub_of b.program sub).formals tree ps qs

-- ---- the words of all frames

outer_words : (program : FlowProgram) (laid : Laid) (made : List ℕ) (stack : List ℤ) (fs : List machine.Frame) (gs : List Frame) → FramesStand program laid made stack fs gs
    → map (λ (f : machine.Frame). (sub_of program f.sub).words) fs ≡ map (λ (f : Frame). f.words) gs
outer_words program laid made stack [] [] is = refl
outer_words program laid made stack (f ∷ fs) (g ∷ gs) is =
    ap (λ n. n ∷ map (λ (f : machine.Frame). (sub_of program f.sub).words) fs) (sym is.0.words) ∙ ap (λ l. g.words ∷ l) (outer_words program laid made stack fs gs is.1)
outer_words program laid made stack [] (g ∷ gs) is = absurd is
outer_words program laid made stack (f ∷ fs) [] is = absurd is

all_words : (b : Turns) (laid : Laid) → TurnStands b laid → IsLowered b.program b.lowered → (sub : ℕ) (rs : List machine.Return) (ws : List Waiting) (i : ℕ) (f : Flat)
    → frame_words b.program (frame_at_start sub rs ∷ record b.frame { waits = ws; next = i } ∷ b.outer) ≡ frames_words (frame_of f (points.sub_at b.lowered sub) [] ∷ b.flat_frame ∷ b.flat_outer)
all_words b laid is lowers sub rs ws i f =
    ap (λ n. sum (n ∷ (sub_of b.program b.frame.sub).words ∷ map (λ (f : machine.Frame). (sub_of b.program f.sub).words) b.outer)) (sym (words_are b.program b.lowered lowers sub))
    ∙ ap (λ n. sum ((points.sub_at b.lowered sub).words ∷ n ∷ map (λ (f : machine.Frame). (sub_of b.program f.sub).words) b.outer)) (sym is.frame.words)
    ∙ ap (λ l. sum ((points.sub_at b.lowered sub).words ∷ b.flat_frame.words ∷ l)) (outer_words b.program laid (types b.memory) b.flat.stack b.outer b.flat_outer is.outer)

-- The frame that enters is small, where all are.
few_words : (w : ℕ) (rest : List ℕ) (n : ℕ) → nat_le (sum (w ∷ rest)) n ≡ true → nat_lt n w ≡ false
few_words w rest n fits = by (sum rest) (subst (λ k. nat_le k n ≡ true) (sum_by-cons (λ k. k) w rest) fits)
  where
    by : (r : ℕ) → nat_le (w + r) n ≡ true → nat_lt n w ≡ false
    by r fits = grind arith

-- ---- the frame enters

-- What stood while the point was evaluated, stands where the frame enters.
passed_memory : (b : Turns) (laid : Laid) → TurnStands b laid → (sub : ℕ) (tree : TypedTree) (m : Memory) (f : Flat) (ps : List machine_calls.Passed) (qs : List Passed) → IsPassed b laid sub tree m f ps qs
    → MemoryStands b.program laid (suc (length b.outer)) m f
passed_memory b laid is sub tree m f ps qs passed = record {
  related = passed.later.whole.related;
  apart = passed.later.whole.apart;
  loops_apart = subst (λ n. LoopsApart (flow_typing b.program) laid.objects laid.loops n) (sym passed.later.long) is.memory.loops_apart;
  undeclared = passed.undeclared;
  low = is.memory.low;
  loops_low = is.memory.loops_low;
}

abbrev entered_laid : Turns → Laid → ℕ → Flat → Laid
entered_laid b laid sub f = with_room (flow_typing b.program) laid (suc (length b.outer)) (length f.stack) (objects_of (sub_of b.program sub))

abbrev entered_flat : Turns → ℕ → Flat → Flat
entered_flat b sub f = record f { stack = f.stack ++ room_template (flow_typing b.program) (objects_of (sub_of b.program sub)) }

types_of : (b : Turns) (laid : Laid) → TurnStands b laid → HasTypes b.program
types_of b laid is = record { laws = is.laws; parts = is.parts; truth = is.truth }

entered_memory : (b : Turns) (laid : Laid) → TurnStands b laid → (sub : ℕ) → IsCallable b.program sub → (tree : TypedTree) (m : Memory) (f : Flat) (ps : List machine_calls.Passed) (qs : List Passed)
    → IsPassed b laid sub tree m f ps qs → MemoryStands b.program (entered_laid b laid sub f) (suc (suc (length b.outer))) m (entered_flat b sub f)
entered_memory b laid is sub callable tree m f ps qs passed =
    memory_entered b.program laid (suc (length b.outer)) m f (objects_of (sub_of b.program sub)) (types_of b laid is) (are_rooms (sub_of b.program sub) callable.formals) (passed_memory b laid is sub tree m f ps qs passed)

same : (n : ℕ) → n ≤ n
same n = omega arith

last : (n : ℕ) → n < suc n
last n = omega arith

-- The formals have their values.
declares : (b : Turns) (laid : Laid) → TurnStands b laid → (sub : ℕ) → IsCallable b.program sub → (tree : TypedTree) (m : Memory) (f : Flat) (ps : List machine_calls.Passed) (qs : List Passed)
    → IsPassed b laid sub tree m f ps qs
    → IsDeclared (seen b) (entered_laid b laid sub f).objects (suc (length b.outer)) m (entered_flat b sub f)
    (machine_calls.with_formals (flow_typing b.program) (suc (length b.outer)) (sub_of b.program sub).formals ps m)
    (with_formals (flow_typing b.program).table (length f.stack) (map (λ x. formal_type (seen b) x) (sub_of b.program sub).formals) qs (entered_flat b sub f))
declares b laid is sub callable tree m f ps qs passed =
    let s : Typing = flow_typing b.program in
    let d : ℕ = suc (length b.outer) in
    let kept : List Kept = objects_of (sub_of b.program sub) in
    let base : ℕ = length f.stack in
    let all : List Lying = (entered_laid b laid sub f).objects in
    let g : Flat = entered_flat b sub f in
    let memory = entered_memory b laid is sub callable tree m f ps qs passed in
    let whole : IsWhole (at (seen b) m g) all = record {
      laws = is.laws;
      parts = is.parts;
      related = memory.related;
      apart = memory.apart;
      sited = sited_entered (seen b).site (seen b).frame f.base (lyings s d base kept) laid.objects passed.later.whole.sited;
      waits = passed.later.whole.waits;
    } in
    let start : IsDeclaring (seen b) all d m g m g = record { later = unchanged (at (seen b) m g) all whole; flags = passed.flags; undeclared = memory.undeclared } in
    formals_declared (seen b) all d base kept m g m g passed.later.base (last (length b.outer))
    (λ x o there. in_left (lyings s d base kept) laid.objects (formal_lying d x (base + o)) (offset_there s d base 0 base kept x o (none base) there))
    start b.point.pos (sub_of b.program sub).formals tree ps qs callable.formals (λ x has. passed.undeclared d x (same d)) 0 base (none base) (are_formals s (sub_of b.program sub) callable.formals) passed.stand
  where
    none : (n : ℕ) → n ≡ n + 0
    none n = omega arith

-- ---- frames

-- The caller goes on at its next point.
pub caller_stands : (b : Turns) (laid : Laid) → TurnStands b laid → (m : Memory) (f : Flat) → Later (seen b) laid.objects m f → (d : Does) (i : ℕ) → i < (around b).count
    → FramesStand b.program laid (types m) f.stack (record b.frame { waits = machine_step.waiting (turn b); next = i } ∷ b.outer)
    (record b.flat_frame { waits = points.waiting (flat_turn b d); next = (around b).first + i } ∷ b.flat_outer)
caller_stands b laid is m f later d i within =
    subst (λ made. FramesStand b.program laid made f.stack fs gs) (sym later.grown) (frames_more b.program laid (types b.memory) later.more f.stack fs gs (first, rest))
  where
    fs : List machine.Frame
    fs = record b.frame { waits = machine_step.waiting (turn b); next = i } ∷ b.outer

    gs : List Frame
    gs = record b.flat_frame { waits = points.waiting (flat_turn b d); next = (around b).first + i } ∷ b.flat_outer

    first : FrameStands b.program laid (types b.memory) f.stack (length b.outer) (record b.frame { waits = machine_step.waiting (turn b); next = i }) (record b.flat_frame { waits = points.waiting (flat_turn b d); next = (around b).first + i })
    first = record {
      next = refl;
      within = inl within;
      words = is.frame.words;
      few = is.frame.few;
      waits = waits_on b laid is d;
      sited = is.frame.sited;
      lying = is.frame.lying;
      looping = is.frame.looping;
      first = is.frame.first;
      turning = is.frame.turning;
      loops = λ c has of. loops_later b laid is m f later c has ∙ is.frame.loops c has of;
      bounds = is.frame.bounds;
      returns = is.frame.returns;
      below = is.frame.below;
      loops_below = is.frame.loops_below;
    }

    rest : FramesStand b.program laid (types b.memory) f.stack b.outer b.flat_outer
    rest = frames_kept b.program laid (types b.memory) b.flat.stack f.stack (length b.outer) b.outer b.flat_outer (same (length b.outer)) (λ c has other. loops_later b laid is m f later c has) is.outer

-- The rows of a subprogram that is lowered.
abbrev row : Turns → ℕ → Sub
row b sub = points.sub_at b.lowered sub

abbrev formal_types : Turns → ℕ → List ℕ
formal_types b sub = map (λ x. formal_type (seen b) x) (sub_of b.program sub).formals

callee_stands : (b : Turns) (laid : Laid) → TurnStands b laid → IsLowered b.program b.lowered → (sub : ℕ) → IsCallable b.program sub → nat_lt stack_words (sub_of b.program sub).words ≡ false
    → (tree : TypedTree) (m : Memory) (f : Flat) (ps : List machine_calls.Passed) (qs : List Passed) → IsPassed b laid sub tree m f ps qs
    → FrameStands b.program (entered_laid b laid sub f) (types m) (entered_flat b sub f).stack (suc (length b.outer)) (frame_at_start sub (machine_calls.returns_of (sub_of b.program sub).formals ps))
    (frame_of f (row b sub) (returns_of (flow_typing b.program).table 0 (formal_types b sub) qs))
callee_stands b laid is lowers sub callable few tree m f ps qs passed =
    let memory = passed_memory b laid is sub tree m f ps qs passed in
    let kept : List Kept = objects_of (sub_of b.program sub) in
    let d : ℕ = suc (length b.outer) in
    frame_entered b.program b.lowered laid (types m) f d sub (machine_calls.returns_of (sub_of b.program sub).formals ps) (returns_of (flow_typing b.program).table 0 (formal_types b sub) qs)
    (types_of b laid is) lowers callable few memory.low memory.apart.within (λ c there. (memory.loops_low c there, memory.loops_apart.within c there)) is.frame.sited.packages
    (returns_stand (seen b) kept (objects_of (sub_of b.program 0)) laid.objects (lyings (flow_typing b.program) d (length f.stack) kept) d (last (length b.outer))
    (subst (λ n. IsSited (seen b).site (seen b).frame n laid.objects) passed.later.base passed.later.whole.sited) (types m) b.point.pos (sub_of b.program sub).formals tree ps qs callable.own 0
    (are_formals (flow_typing b.program) (sub_of b.program sub) callable.formals) passed.stand)

-- ---- the state after the call

abbrev machine_entered : Turns → ℕ → List machine_calls.Passed → Memory → ℕ → machine.State
machine_entered b sub ps m i = record (machine_step.counted (state b)) {
  frames = frame_at_start sub (machine_calls.returns_of (sub_of b.program sub).formals ps) ∷ record b.frame { waits = machine_step.waiting (turn b); next = i } ∷ b.outer;
  memory = machine_calls.with_formals (flow_typing b.program) (suc (length b.outer)) (sub_of b.program sub).formals ps m;
}

abbrev flat_entered : Turns → Does → ℕ → List Passed → Flat → ℕ → Flat → State
flat_entered b d sub qs f i h = record (points.counted (flat_state b)) {
  frames = frame_of f (row b sub) (returns_of (flow_typing b.program).table 0 (formal_types b sub) qs)
      ∷ record b.flat_frame { waits = points.waiting (flat_turn b d); next = (around b).first + i } ∷ b.flat_outer;
  memory = h;
}

call_stands : (b : Turns) (laid : Laid) (is : TurnStands b laid) → IsLowered b.program b.lowered → (d : Does) (sub : ℕ) (callable : IsCallable b.program sub) → nat_lt stack_words (sub_of b.program sub).words ≡ false
    → (tree : TypedTree) (m : Memory) (f : Flat) (ps : List machine_calls.Passed) (qs : List Passed) (passed : IsPassed b laid sub tree m f ps qs) (i : ℕ) → i < (around b).count
    → StateStands b.program (machine_entered b sub ps m i) (flat_entered b d sub qs f i (declares b laid is sub callable tree m f ps qs passed).after)
call_stands b laid is lowers d sub callable few tree m f ps qs passed i within =
    let s : Typing = flow_typing b.program in
    let new : Laid = entered_laid b laid sub f in
    let g : Flat = entered_flat b sub f in
    let memory = entered_memory b laid is sub callable tree m f ps qs passed in
    let done = declares b laid is sub callable tree m f ps qs passed in
    let h : Flat = done.after in
    let later = done.is.later in
    let before = passed_memory b laid is sub tree m f ps qs passed in
    let fs : List machine.Frame = (machine_entered b sub ps m i).frames in
    let gs : List Frame = (flat_entered b d sub qs f i h).frames in
    let frames : FramesStand b.program new (types m) g.stack fs gs = (
      callee_stands b laid is lowers sub callable few tree m f ps qs passed,
      frames_entered b.program laid (types m) f.stack (room_template s (objects_of (sub_of b.program sub))) (suc (length b.outer)) (objects_of (sub_of b.program sub))
          (record b.frame { waits = machine_step.waiting (turn b); next = i } ∷ b.outer) (record b.flat_frame { waits = points.waiting (flat_turn b d); next = (around b).first + i } ∷ b.flat_outer)
          (same (suc (length b.outer))) before.loops_apart (caller_stands b laid is m f passed.later d i within),
    ) in
    let kept : FramesStand b.program new (types m) h.stack fs gs =
    frames_kept b.program new (types m) g.stack h.stack (length fs) fs gs (same (length fs))
    (λ c has other. later.elsewhere c.at 3 (λ l there. memory.loops_apart.objects l c there has)) frames in
    record {
      laid = new;
      memory = record {
        related = later.whole.related;
        apart = later.whole.apart;
        loops_apart = subst (λ n. LoopsApart s new.objects new.loops n) (sym later.long) memory.loops_apart;
        undeclared = done.is.undeclared;
        low = memory.low;
        loops_low = memory.loops_low;
      };
      frames = subst (λ made. FramesStand b.program new made h.stack fs gs) (sym later.grown) (frames_more b.program new (types m) later.more h.stack fs gs kept);
      runs = callable.points;
      at = refl;
      output = refl;
      leaks = refl;
      steps = refl;
    }

-- ---- the step

-- What both sides do once the actuals are passed, where a point follows.
abbrev machine_enters : Turns → ℕ → TypedTree → List machine_calls.Passed → Memory → Option ℕ → machine.Outcome
machine_enters b sub tree ps m o =
    let frames : List machine.Frame = frame_at_start sub (machine_calls.returns_of (sub_of b.program sub).formals ps) ∷ machine_step.led (turn b) (record b.frame { waits = machine_step.waiting (turn b) }) o in
    if nat_le (frame_words b.program frames) stack_words
    then machine_step.leaking_goes (out_checks (flow_typing b.program) b.point.pos m ps tree)
    (machine.Goes (record (machine_step.counted (state b)) {
      frames = frames;
      memory = machine_calls.with_formals (flow_typing b.program) (suc (length b.outer)) (sub_of b.program sub).formals ps m;
    }))
    else machine_step.raised (turn b) StorageError m

enters_alike : (b : Turns) (laid : Laid) → TurnStands b laid → IsLowered b.program b.lowered → (d : Does) (sub : ℕ) → IsCallable b.program sub → (tree : TypedTree) (m : Memory) (f : Flat)
    (ps : List machine_calls.Passed) (qs : List Passed) → IsPassed b laid sub tree m f ps qs → (i : ℕ) → i < (around b).count
    → IsAlike (StateStands b.program) (machine_enters b sub tree ps m (Some i)) (points.entered (flat_turn b d) (row b sub) qs f (Some ((around b).first + i)))
enters_alike b laid is lowers d sub callable tree m f ps qs passed i within =
    subst (λ n. IsAlike (StateStands b.program)
    (if nat_le n stack_words then machine_step.leaking_goes checks (machine.Goes (machine_entered b sub ps m i)) else machine_step.raised (turn b) StorageError m)
    (points.entered (flat_turn b d) (row b sub) qs f (Some ((around b).first + i))))
    (sym (all_words b laid is lowers sub (machine_calls.returns_of (sub_of b.program sub).formals ps) (machine_step.waiting (turn b)) i f))
    (by (nat_le total stack_words) refl)
  where
    checks : List (List Leak)
    checks = out_checks (flow_typing b.program) b.point.pos m ps tree

    total : ℕ
    total = frames_words (frame_of f (row b sub) [] ∷ b.flat_frame ∷ b.flat_outer)

    begins : List ℕ → List Leak → Flat → State
    begins formals leaks h =
        let s : State = points.leaking leaks (after (flat_turn b d) (points.waiting (flat_turn b d)) h (Some ((around b).first + i))) in
        record s { frames = frame_of f (row b sub) (returns_of (flow_typing b.program).table 0 formals qs) ∷ s.frames }

    enters : List ℕ → List ℤ → Outcome
    enters formals words =
        on_got (flat_turn b d) f (out_leaks (flow_typing b.program).table f qs)
        (λ leaks. on_got (flat_turn b d) f (with_formals (flow_typing b.program).table (length f.stack) formals qs (record f { stack = f.stack ++ words })) (λ h. points.Goes (begins formals leaks h)))

    by : (fits : Bool) → nat_le total stack_words ≡ fits
        → IsAlike (StateStands b.program)
        (if fits then machine_step.leaking_goes checks (machine.Goes (machine_entered b sub ps m i)) else machine_step.raised (turn b) StorageError m)
        (if fits then enters (row b sub).formals (points.template (flow_typing b.program).table (row b sub)) else halted (flat_turn b d) (Raises StorageError) f)
    by false full = raised_later b laid is d StorageError m f passed.later
    by true fits =
        let few : nat_lt stack_words (sub_of b.program sub).words ≡ false =
        subst (λ w. nat_lt stack_words w ≡ false) (words_are b.program b.lowered lowers sub)
        (few_words (row b sub).words (b.flat_frame.words ∷ map (λ (f : Frame). f.words) b.flat_outer) stack_words fits) in
        let done = declares b laid is sub callable tree m f ps qs passed in
        let leaks : List Leak = flat_map (λ (l : List Leak). l) checks in
        subst (λ formals. IsAlike (StateStands b.program) (machine_step.leaking_goes checks (machine.Goes (machine_entered b sub ps m i)))
        (enters formals (points.template (flow_typing b.program).table (row b sub)))) (sym (formals_are b.program b.lowered lowers sub))
        (subst (λ words. IsAlike (StateStands b.program) (machine_step.leaking_goes checks (machine.Goes (machine_entered b sub ps m i))) (enters (formal_types b sub) words))
        (sym (template_is b.program b.lowered lowers sub))
        (subst (λ y. IsAlike (StateStands b.program) (machine_step.leaking_goes checks (machine.Goes (machine_entered b sub ps m i)))
        (on_got (flat_turn b d) f y
        (λ leaks. on_got (flat_turn b d) f (with_formals (flow_typing b.program).table (length f.stack) (formal_types b sub) qs (entered_flat b sub f)) (λ h. points.Goes (begins (formal_types b sub) leaks h)))))
        (sym (out_same (seen b) laid.objects m f passed.later.base passed.later.whole passed.flags b.point.pos (sub_of b.program sub).formals tree ps qs passed.stand))
        (subst (λ y. IsAlike (StateStands b.program) (machine_step.leaking_goes checks (machine.Goes (machine_entered b sub ps m i)))
        (on_got (flat_turn b d) f y (λ h. points.Goes (begins (formal_types b sub) leaks h)))) (sym done.gives)
        (leaking_stands b.program (machine_entered b sub ps m i) (flat_entered b d sub qs f i done.after) checks leaks refl
        (call_stands b laid is lowers d sub callable few tree m f ps qs passed i within)))))

sub_formals : (subs : List FlowSub) (n : ℕ)
    → (get_or {A = Signature} (map (λ (sub : FlowSub). record { formals = sub.formals; result = sub.result }) subs) n (record { formals = []; result = None })).formals ≡ (get_or subs n machine.no_sub).formals
sub_formals [] n = refl
sub_formals (sub ∷ rest) zero = refl
sub_formals (sub ∷ rest) (suc n) = sub_formals rest n

-- What is evaluated before the frame enters.
passed_alike : (b : Turns) (laid : Laid) → TurnStands b laid → IsLowered b.program b.lowered → (d : Does) (sub : ℕ) → IsCallable b.program sub → (tree : TypedTree) (i : ℕ) → i < (around b).count
    → (j : ℕ) (ev : Evaluated (List machine_calls.Passed)) (made : Made (List Passed)) → AllPass (seen b) laid.objects b.point.pos b.memory j (sub_of b.program sub).formals tree ev made
    → Keeps (FreesNone b.memory) ev → Keeps (AreUndeclared (flow_typing b.program) (suc (length b.outer))) ev
    → IsAlike (StateStands b.program) (machine_step.evaluated (turn b) ev (λ ps m. machine_enters b sub tree ps m (Some i)))
    (on_made (flat_turn b d) made (λ qs f. points.entered (flat_turn b d) (row b sub) qs f (Some ((around b).first + i))))
passed_alike b laid is lowers d sub callable tree i within j ev (flat.Done qs f) pass flags undeclared =
    let m : Memory = pass.1 in
    subst (λ v. IsAlike (StateStands b.program) (machine_step.evaluated (turn b) v (λ ps m. machine_enters b sub tree ps m (Some i)))
    (points.entered (flat_turn b d) (row b sub) qs f (Some ((around b).first + i)))) (sym pass.2)
    (enters_alike b laid is lowers d sub callable tree m f pass.0 qs
    (record {
      later = pass.3;
      flags = subst (λ v. Keeps (FreesNone b.memory) v) pass.2 flags;
      undeclared = subst (λ v. Keeps (AreUndeclared (flow_typing b.program) (suc (length b.outer))) v) pass.2 undeclared;
      stand = pass.5;
    }) i within)
passed_alike b laid is lowers d sub callable tree i within j ev (flat.Halted stop f) pass flags undeclared =
    stopping_alike b laid is d stop f ev (λ ps m. machine_enters b sub tree ps m (Some i)) pass
passed_alike b laid is lowers d sub callable tree i within j ev Failed pass flags undeclared = absurd pass

call_by : (b : Turns) (laid : Laid) → TurnStands b laid → IsLowered b.program b.lowered → (sub : ℕ) → IsCallable b.program sub → (tree : TypedTree) (all : List Actual) (n : ℕ)
    → actuals (around b).site b.point.pos 0 (passings (flow_typing b.program) (sub_at (flow_typing b.program) sub)) (sub_of b.program sub).formals tree ≡ Some all
    → going (around b) b.point 0 ≡ Some (Some n) → DoneAlike b (machine_step.call (turn b) sub tree) (codes.Call sub all (Some n))
call_by b laid is lowers sub callable tree all n given leads =
    let h : Here = machine_step.here (turn b) in
    let d : Does = codes.Call sub all (Some n) in
    let ways : List Passing = passings (flow_typing b.program) (sub_at (flow_typing b.program) sub) in
    let formals : List ℕ = (sub_of b.program sub).formals in
    let pass = all_pass (seen b) laid.objects b.point.pos b.memory (seen b).flat (unchanged (seen b) laid.objects (is_whole b laid is)) (frees_none b.memory) ways formals tree 0 all given in
    let flags = all_keep h Anywhere (FreesNone b.memory) (keeps_flags h b.memory) ways formals tree (now (seen b) 0) (frees_none b.memory) in
    let undeclared = all_keep h (IsLow (suc (length b.outer))) (AreUndeclared (flow_typing b.program) (suc (length b.outer))) (keeps_undeclared h (suc (length b.outer)) (last (length b.outer)))
    ways formals tree (now (seen b) 0) is.memory.undeclared in
    elim (way b 0 (Some n) leads) [
      | inl on ↦
          subst (λ o. Enters d (all_passed h ways formals tree (machine_step.start (turn b))) o (Some n)) (sym on.1)
          (subst (λ z. Enters d (all_passed h ways formals tree (machine_step.start (turn b))) (Some on.0) z) (sym on.2)
          (subst (λ t. Enters d (all_passed h ways formals tree t) (Some on.0) (Some ((around b).first + on.0))) (sym (start_is b laid is))
          (passed_alike b laid is lowers d sub callable tree on.0 on.3 (0 + waiting tree) (all_passed h ways formals tree (now (seen b) 0)) (points.all_passed (flow_typing b.program).table all (seen b).flat) pass flags undeclared)))
      | inr out ↦ impossible n (sym out.1)
    ]
  where
    Enters : Does → Evaluated (List machine_calls.Passed) → Option ℕ → Option ℕ → Type 0
    Enters d ev o z =
        IsAlike (StateStands b.program) (machine_step.evaluated (turn b) ev (λ ps m. machine_enters b sub tree ps m o))
        (on_made (flat_turn b d) (points.all_passed (flow_typing b.program).table all (seen b).flat) (λ qs f. points.entered (flat_turn b d) (row b sub) qs f z))

abbrev next_is : (Option ℕ → Option Does) → Option ℕ → Option Does
next_is f None = None
next_is f (Some n) = f (Some n)

pub call_alike : (b : Turns) (laid : Laid) → TurnStands b laid → IsLowered b.program b.lowered → (sub : ℕ) → IsCallable b.program sub → (e : TypedTree) (result : Option ℕ) → DoesAlike b (instruction.Call sub e result)
call_alike b laid is lowers sub callable e result d lower =
    let s : Typing = flow_typing b.program in
    let ps = and_then_some (λ all. on_next (around b) b.point (λ n. Some (codes.Call sub all n))) (actuals (around b).site b.point.pos 0 (passings s (sub_at s sub)) (sub_at s sub).formals e) d lower in
    let n = and_then_some (next_is (λ n. Some (codes.Call sub ps.0 n))) (going (around b) b.point 0) d ps.2 in
    by ps.0 (subst (λ formals. actuals (around b).site b.point.pos 0 (passings s (sub_at s sub)) formals e ≡ Some ps.0) (sub_formals b.program.subs sub) ps.1) n.0 n.1 n.2
  where
    by : (all : List Actual) → actuals (around b).site b.point.pos 0 (passings (flow_typing b.program) (sub_at (flow_typing b.program) sub)) (sub_of b.program sub).formals e ≡ Some all
        → (n : Option ℕ) → going (around b) b.point 0 ≡ Some n → next_is (λ n. Some (codes.Call sub all n)) n ≡ Some d → DoneAlike b (machine_step.call (turn b) sub e) d
    by all given None leads is_call = impossible d is_call
    by all given (Some n) leads is_call =
        subst (λ d. DoneAlike b (machine_step.call (turn b) sub e) d) (some_same (codes.Call sub all (Some n)) d is_call) (call_by b laid is lowers sub callable e all n given leads)
