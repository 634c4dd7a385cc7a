-- The main procedure begins, and so does the run.
use Rattle.std.proofs.Common.{◌≡◌, inl, inr, ℕ, suc, ◌+◌, ◌≤◌, ◌<◌, true, false, Bool, List, [], ◌∷◌, ◌++◌, length, get_or, sum, refl, sym, ap, subst, ◌∙◌, arith, Option, Some, None, ℤ, nat_lt, if◌then◌else◌}
use Rattle.std.specs.Prelude.{nat_le}
use Rattle.spark_base.specs.Lists.{Has}
use Rattle.type_definitions.specs.Types.{Table}
use Rattle.flow_paths.specs.Objects.{Typing}
use Rattle.flow_paths.specs.Points.{FlowPoint}
use Rattle.flow_paths.specs.Laid.{FlowSub, FlowProgram, flow_typing}
use Rattle.machine.specs.States.{sub_of, stack_words, frame_words, frame_at_start}
use Rattle.machine.specs.States as machine
use Rattle.machine.specs.Step.{main_frame}
use Rattle.machine.specs.Run.{empty_memory, frames_at_start}
use Rattle.machine.specs.Run as machine_run
use Rattle.run_codes.specs.Flat.{Flat, most_cells}
use Rattle.run_codes.specs.Lowered.{Kept, offset_of}
use Rattle.run_codes.specs.Programs.{Program, objects_of, is_loop, sub_rows}
use Rattle.run_codes.specs.Points.{Frame, State, with_frame, frame_of, no_memory, state_at_start, is_declaring, sub_at, no_sub}
use Rattle.run_codes.specs.Related.{types}
use Rattle.run_codes.proofs.Places.{if_some, some_same}
use Rattle.run_points.specs.States.{first_point, Laid, site_of, FrameStands, MemoryStands, StateStands, main_begun, MainBegins, lyings, loops_from}
use Rattle.run_points.specs.Turns.{IsLowered, HasTypes}
use Rattle.run_points.specs.Frames.{IsCallable, HasFrames, IsSmall}
use Rattle.run_points.proofs.Rooms.{offset_there, loop_there}
use Rattle.run_points.proofs.Templates.{room_template, room_loops, are_rooms, are_one_word, template_is, words_are}
use Rattle.run_points.proofs.Entered.{in_left, in_either, with_room, memory_entered, frames_entered, frame_entered}

-- ---- the main procedure

none_below : (n : ℕ) → n < 0 → ⊥
none_below n lt = omega (arith, lt)

-- The first frame alone stands, and the main procedure enters.
main_enters : (program : FlowProgram) (p : Program) → HasTypes program → IsLowered program p → (n : ℕ) → IsCallable program n → nat_lt stack_words (sub_of program n).words ≡ false
    → (s : machine.State) (g : State) (f : machine.Frame) (h : Frame) (laid : Laid) → MemoryStands program laid 1 s.memory g.memory
    → FrameStands program laid (types s.memory) g.memory.stack 0 f h → g.at ≡ s.at → g.output ≡ s.output → g.leaks ≡ s.leaks → g.steps ≡ s.steps
    → StateStands program (record s { frames = frame_at_start n [] ∷ f ∷ [] })
    (record g { memory = with_frame (flow_typing program).table (sub_at p n) g.memory; frames = frame_of g.memory (sub_at p n) [] ∷ h ∷ [] })
main_enters program p has lowers n callable few s g f h laid memory frame at output leaks steps =
    subst (λ words. StateStands program (record s { frames = frame_at_start n [] ∷ f ∷ [] })
    (record g { memory = record g.memory { stack = g.memory.stack ++ words }; frames = frame_of g.memory (sub_at p n) [] ∷ h ∷ [] })) (sym (template_is program p lowers n))
    (record {
      laid = with_room (flow_typing program) laid 1 (length g.memory.stack) all;
      memory = memory_entered program laid 1 s.memory g.memory all has (are_rooms (sub_of program n) callable.formals) memory;
      frames = (
        frame_entered program p laid (types s.memory) g.memory 1 n [] [] has lowers callable few memory.low memory.apart.within (λ c there. (memory.loops_low c there, memory.loops_apart.within c there)) frame.sited.packages tt,
        frames_entered program laid (types s.memory) g.memory.stack (room_template (flow_typing program) all) 1 all (f ∷ []) (h ∷ []) (same 1) memory.loops_apart (frame, tt),
      );
      runs = callable.points;
      at = at;
      output = output;
      leaks = leaks;
      steps = steps;
    })
  where
    all : List Kept
    all = objects_of (sub_of program n)

    same : (n : ℕ) → n ≤ n
    same n = omega arith

abbrev mains : Option ℕ → List machine.Frame
mains None = []
mains (Some n) = frame_at_start n [] ∷ []

pub main_begins : (program : FlowProgram) (p : Program) → HasTypes program → IsLowered program p → HasFrames program → IsSmall program → MainBegins program p
main_begins program p has lowers frames small s g f h is =
    subst (λ o. StateStands program (record s { frames = main_frame program ++ f ∷ [] }) (main_begun (flow_typing program).table p g h o)) (sym lowers.main) (by program.main refl)
  where
    by : (o : Option ℕ) → program.main ≡ o → StateStands program (record s { frames = mains o ++ f ∷ [] }) (main_begun (flow_typing program).table p g h o)
    by None none = is
    by (Some n) main =
        main_enters program p has lowers n (frames.main n main) (small n main) s g f h is.laid is.memory is.frames.0 is.at is.output is.leaks is.steps

-- ---- the first frame

abbrev no_laid : Laid
no_laid = record { objects = []; loops = [] }

nothing_stands : (program : FlowProgram) → MemoryStands program no_laid 0 empty_memory no_memory
nothing_stands program = record {
  related = record {
    objects = λ l there. absurd there;
    cells = λ n lt. absurd (none_below n lt);
    counted = record { made = refl; few = low most_cells; live = refl; freed = refl };
  };
  apart = record { within = λ l there. absurd there; apart = λ l k there other. absurd there };
  loops_apart = record { within = λ c there. absurd there; objects = λ l c there loop. absurd there; apart = λ b c there other. absurd there };
  undeclared = λ frame x high. refl;
  low = λ l there. absurd there;
  loops_low = λ c there. absurd there;
}
  where
    low : (n : ℕ) → 0 ≤ n
    low n = omega arith

-- The package objects lie from the bottom of the stack on.
abbrev first_laid : FlowProgram → Laid
first_laid program = with_room (flow_typing program) no_laid 0 0 (objects_of (sub_of program 0))

abbrev first_memory : FlowProgram → Flat
first_memory program = record no_memory { stack = [] ++ room_template (flow_typing program) (objects_of (sub_of program 0)) }

first_stands : (program : FlowProgram) → HasTypes program → HasFrames program → MemoryStands program (first_laid program) 1 empty_memory (first_memory program)
first_stands program has frames = memory_entered program no_laid 0 empty_memory no_memory (objects_of (sub_of program 0)) has (are_rooms (sub_of program 0) frames.packages) (nothing_stands program)

no_offset : (s : Typing) (subs : List FlowSub) → (get_or (sub_rows s 0 subs) 0 no_sub).first ≡ 0
no_offset s [] = refl
no_offset s (sub ∷ rest) = refl

no_first : (subs : List FlowSub) → first_point subs 0 + 0 ≡ 0
no_first [] = refl
no_first (sub ∷ rest) = refl

first_frame : (program : FlowProgram) (p : Program) → HasTypes program → IsLowered program p → nat_lt stack_words (sub_of program 0).words ≡ false
    → FrameStands program (first_laid program) (types empty_memory) (first_memory program).stack 0 (frame_at_start 0 []) (frame_of no_memory (sub_at p 0) [])
first_frame program p has lowers few = record {
  next = ap (λ rows. (get_or rows 0 no_sub).first) lowers.subs ∙ no_offset s program.subs ∙ sym (no_first program.subs);
  within = inr refl;
  words = words_are program p lowers 0;
  few = few;
  waits = tt;
  sited = record {
    own = λ x at there own. in_left (lyings s 0 0 all) [] (record { frame = 0; object = x; at = 0 + at }) (offset_there s 0 0 0 0 all x at refl there);
    packages = λ x at there own.
        in_left (lyings s 0 0 all) [] (record { frame = 0; object = x; at = at })
        (subst (λ n. Has (lyings s 0 0 all) (record { frame = 0; object = x; at = n })) (none at) (offset_there s 0 0 0 0 all x at refl there));
  };
  lying = λ l has of. elim (in_either (lyings s 0 0 all) [] l has) [
    | inl new ↦ new
    | inr old ↦ absurd old
  ];
  looping = λ c has of. elim (in_either (loops_from s 0 0 all) [] c has) [
    | inl new ↦ new
    | inr old ↦ absurd old
  ];
  first = λ zero. (refl, refl);
  turning = λ x at there. (
      let sure = if_some (is_loop x all) (offset_of (site_of program 0 []) x) at there in
      in_left (loops_from s 0 0 all) [] (record { frame = 0; parameter = x; at = 0 + (at + 1) })
      (loop_there s 0 0 0 0 all x at refl (are_one_word program p has.laws lowers 0 few) sure.0 sure.1));
  loops = λ c there of. elim (in_either (loops_from s 0 0 all) [] c there) [
    | inl new ↦ room_loops s has.parts 0 all [] 0 refl c new
    | inr old ↦ absurd old
  ];
  bounds = tt;
  returns = tt;
  below = λ l there less. absurd (none_below l.frame less);
  loops_below = λ c there less. absurd (none_below c.frame less);
}
  where
    s : Typing
    s = flow_typing program

    all : List Kept
    all = objects_of (sub_of program 0)

    none : (n : ℕ) → 0 + n ≡ n
    none n = omega arith

-- ---- the first state

two : (a b : ℕ) → sum (a ∷ b ∷ []) ≡ a + b
two a b = omega arith

small : (a b n : ℕ) → nat_le (sum (a ∷ b ∷ [])) n ≡ true → (nat_lt n a ≡ false) × (nat_lt n b ≡ false)
small a b n fits = by (subst (λ k. nat_le k n ≡ true) (two a b) fits)
  where
    by : nat_le (a + b) n ≡ true → (nat_lt n a ≡ false) × (nat_lt n b ≡ false)
    by fits = (one a b n fits, other a b n fits)
      where
        one : (a b n : ℕ) → nat_le (a + b) n ≡ true → nat_lt n a ≡ false
        one a b n fits = grind arith

        other : (a b n : ℕ) → nat_le (a + b) n ≡ true → nat_lt n b ≡ false
        other a b n fits = grind arith

-- Both have room for the frames of the package objects and of the main procedure.
pub small_main : (program : FlowProgram) (main : ℕ) → program.main ≡ Some main → nat_le (frame_words program (frame_at_start main [] ∷ frame_at_start 0 [] ∷ [])) stack_words ≡ true → IsSmall program
small_main program main is fits n other =
    subst (λ k. nat_lt stack_words (sub_of program k).words ≡ false) (some_same main n (sym is ∙ other)) (small (sub_of program main).words (sub_of program 0).words stack_words fits).0

pub starts_alike : (program : FlowProgram) (p : Program) → HasTypes program → IsLowered program p → HasFrames program → (main : ℕ) → program.main ≡ Some main
    → nat_le (frame_words program (frame_at_start main [] ∷ frame_at_start 0 [] ∷ [])) stack_words ≡ true
    → StateStands program (machine_run.state_at_start program) (state_at_start (flow_typing program).table p (is_declaring program))
starts_alike program p has lowers frames main is fits =
    subst (λ words. StateStands program (machine_run.state_at_start program) (started words (is_declaring program))) (sym (template_is program p lowers 0))
    (by (sub_of program 0).points refl)
  where
    table : Table
    table = (flow_typing program).table

    few : (nat_lt stack_words (sub_of program main).words ≡ false) × (nat_lt stack_words (sub_of program 0).words ≡ false)
    few = small (sub_of program main).words (sub_of program 0).words stack_words fits

    begun : Flat → Option ℕ → State
    begun m None = record { memory = m; frames = frame_of no_memory (sub_at p 0) [] ∷ []; at = 0; output = []; leaks = []; steps = 0 }
    begun m (Some n) = record {
      memory = with_frame table (sub_at p n) m;
      frames = frame_of m (sub_at p n) [] ∷ frame_of no_memory (sub_at p 0) [] ∷ [];
      at = 0;
      output = [];
      leaks = [];
      steps = 0;
    }

    started : List ℤ → Bool → State
    started words declares = if declares then begun (record no_memory { stack = [] ++ words }) None else begun (record no_memory { stack = [] ++ words }) p.main

    machine_state : List machine.Frame → machine.State
    machine_state fs = record { frames = fs; memory = empty_memory; at = 0; output = []; leaks = []; checks = []; steps = 0 }

    by : (points : List FlowPoint) → (sub_of program 0).points ≡ points
        → StateStands program (machine_state (frames_at_start program points)) (started (room_template (flow_typing program) (objects_of (sub_of program 0))) (nat_lt 0 (length points)))
    by (x ∷ rest) points =
        subst (λ b. StateStands program (machine_state (frame_at_start 0 [] ∷ [])) (started (room_template (flow_typing program) (objects_of (sub_of program 0))) b)) (sym (positive (length rest)))
        (record {
          laid = first_laid program;
          memory = first_stands program has frames;
          frames = (first_frame program p has lowers few.1, tt);
          runs = subst (λ (l : List FlowPoint). 0 < length l) (sym points) (some (length rest));
          at = refl;
          output = refl;
          leaks = refl;
          steps = refl;
        })
      where
        some : (n : ℕ) → 0 < suc n
        some n = omega arith

        positive : (n : ℕ) → nat_lt 0 (suc n) ≡ true
        positive n = grind arith
    by [] points =
        subst (λ o. StateStands program (machine_state (mains o ++ frame_at_start 0 [] ∷ [])) (begun (first_memory program) p.main)) (sym is)
        (subst (λ o. StateStands program (machine_state (frame_at_start main [] ∷ frame_at_start 0 [] ∷ [])) (begun (first_memory program) o)) (sym (lowers.main ∙ is))
        (main_enters program p has lowers main (frames.main main is) few.0 (machine_state []) (begun (first_memory program) None) (frame_at_start 0 []) (frame_of no_memory (sub_at p 0) []) (first_laid program)
        (first_stands program has frames) (first_frame program p has lowers few.1) refl refl refl refl))
