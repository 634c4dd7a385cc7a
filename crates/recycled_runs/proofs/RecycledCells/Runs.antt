-- The law: as a run ends, the heap has the cells of the machine's last state.
use Rattle.std.proofs.Common.{◌≡◌, refl, sym, ap, ◌∙◌, subst, ℕ, zero, suc, Bool, true, false, nat_le, List, [], ◌∷◌, ◌++◌, length, None, Option, Some, ℤ, if◌then◌else◌}
use Rattle.std.proofs.lemmas.Bool.{false≢true}
use Rattle.std.specs.Prelude.{is_some}
use Rattle.machine.specs.type_definitions.Types.{Table}
use Rattle.kept_cells.specs.run_values.declared.value.Kind.{Kind}
use Rattle.machine.specs.flow_paths.Laid.{FlowProgram, flow_typing}
use Rattle.machine.specs.Memory.{Memory, OfCell}
use Rattle.machine.specs.Evaluate.{StorageError}
use Rattle.machine.specs.States.{Ending, Normal, Raised, Spent, Trapped, sub_of, state_of, frame_words, stack_words, frame_at_start}
use Rattle.machine.specs.States as machine
use Rattle.machine.specs.Run.{ended, then_on, within, empty_memory}
use Rattle.machine.specs.Run as machine_run
use Rattle.numbered_cells.specs.slot_heap.Heaps.{no_heap}
use Rattle.soundness.specs.PartOffsets.Parts.{IsSettled}
use Rattle.recycled_runs.specs.ViewedFacts.NullPlaces.Cleared.{cleared_state}
use Rattle.recycled_runs.specs.ViewedFacts.NullPlaces.Agrees.{Agrees, SameState}
use Rattle.recycled_runs.proofs.ViewedFacts.NullPlaces.Memories.{itself, agrees_right}
use Rattle.recycled_runs.proofs.ViewedFacts.NullPlaces.Only.{OnlyOwners}
use Rattle.recycled_runs.proofs.ViewedFacts.NullPlaces.Instructions.{SameStepBy}
use Rattle.recycled_runs.proofs.ViewedFacts.NullPlaces.Runs.{GoesOn}
use Rattle.run_codes.specs.Codes.{Point}
use Rattle.run_codes.specs.Points.{Frame, State, Return}
use Rattle.run_codes.specs.Points as points
use Rattle.run_codes.specs.Programs.{Program}
use Rattle.run_codes.specs.Related.{types, Lying}
use Rattle.run_codes.specs.Lowered.{Site}
use Rattle.run_points.specs.Outcomes.{IsAlike}
use Rattle.run_points.specs.States.{StateStands, FramesStand, WaitsStand, ReturnsStand, Laid, MainBegins}
use Rattle.run_points.specs.Turns.{IsLowered, HasTypes}
use Rattle.run_points.specs.Frames.{HasFrames}
use Rattle.run_points.proofs.Begins.{main_begins, small_main, starts_alike}
use Rattle.run_points.proofs.Steps as run_steps
use Rattle.handled_runs.specs.Looks.{IsClear}
use Rattle.handled_steps.specs.States as handled
use Rattle.handled_steps.specs.Steps.{Within, Then}
use Rattle.handled_steps.specs.Alike.{Paired, FrameAlike, ReturnAlike, StatesAlike, OutcomesAlike}
use Rattle.handled_steps.specs.Backs.{LookBack}
use Rattle.handled_steps.specs.Clear.{cleared}
use Rattle.handled_steps.specs.Looks.{LooksStep, turn_of, taken_kinds, step_kinds}
use Rattle.handled_steps.specs.Runs.{NeverTraps, RunsWithin, RunOf, state_at_start, first_kinds}
use Rattle.handled_steps.proofs.Cleared.{cleared_alike}
use Rattle.handled_steps.proofs.Runs.{start_alike, start_back}
use Rattle.handled_steps.proofs.Steps as handled_steps
use Rattle.handled_steps.proofs.Tables.{have_pointers}
use Rattle.handled_kinds.specs.Stacks.{subs_of, IsStacked}
use Rattle.handled_kinds.proofs.Runs.{state_looks}
use Rattle.recycled_runs.proofs.Subs.{step_stacked}
use Rattle.recycled_runs.proofs.Nulls.{clears}
use Rattle.recycled_runs.proofs.Keeps.{IsNull, null_cleared, null_empty}
use Rattle.recycled_runs.proofs.Clear.{NoneGone, cleared_kept, clear_start}
use Rattle.recycled_runs.proofs.Runs.{LeaksLive}
use Rattle.recycled_runs.proofs.Starts.{start_only, start_words, start_none, starts_stacked}
use Rattle.recycled_runs.specs.RecycledCells.Cells.{HasCells, LeavesCells}
use Rattle.recycled_runs.proofs.RecycledCells.Ended.{CopiesNone, StepLeaves, step_leaves}
use Rattle.recycled_runs.proofs.RecycledCells.Kept.{Leaves}
use Rattle.recycled_runs.proofs.RecycledCells.Kept as kept
use Rattle.recycled_runs.proofs.RecycledCells.Standing.{has_cells, agree_cells, left_cells}
use Rattle.soundness.proofs.Parted.{not_empty}
use Rattle.viewed_steps.proofs.Parted.{list_first}

-- ---- what is copied back

no_returns : (c : Site) (all : List Lying) (d : ℕ) (made : List ℕ) (rs : List machine.Return) (qs : List Return) → rs ≡ [] → ReturnsStand c all d made rs qs → qs ≡ []
no_returns c all d made [] [] none is = refl
no_returns c all d made [] (q ∷ qs) none is = absurd is
no_returns c all d made (r ∷ rs) qs none is = absurd (not_empty none)

none_paired : {A : Type 0} (R : A → A → Type 0) (xs ys : List A) → xs ≡ [] → Paired R xs ys → ys ≡ []
none_paired R [] [] none is = refl
none_paired R [] (y ∷ ys) none is = absurd is
none_paired R (x ∷ xs) ys none is = absurd (not_empty none)

copies_none : (program : FlowProgram) (laid : Laid) (made : List ℕ) (stack : List ℤ) (table : Table) (handles : List ℕ) (fs : List machine.Frame) (gs bs : List Frame)
    → FramesStand program laid made stack fs gs → Paired (FrameAlike table handles) gs bs → CopiesNone fs → kept.CopiesNone bs
copies_none program laid made stack table handles fs gs [] stand alike none = tt
copies_none program laid made stack table handles fs gs (b ∷ []) stand alike none = tt
copies_none program laid made stack table handles fs [] (b ∷ c ∷ []) stand alike none = absurd alike
copies_none program laid made stack table handles fs (g ∷ []) (b ∷ c ∷ []) stand alike none = absurd alike.1
copies_none program laid made stack table handles [] (g ∷ h ∷ []) (b ∷ c ∷ []) stand alike none = absurd stand
copies_none program laid made stack table handles (f ∷ []) (g ∷ h ∷ []) (b ∷ c ∷ []) stand alike none = absurd stand.1
copies_none program laid made stack table handles (f ∷ k ∷ []) (g ∷ h ∷ []) (b ∷ c ∷ []) stand alike none =
    none_paired (ReturnAlike handles) g.returns b.returns (no_returns _ _ _ _ f.returns g.returns none stand.0.returns) alike.0.returns
copies_none program laid made stack table handles (f ∷ k ∷ j ∷ fs) (g ∷ h ∷ []) (b ∷ c ∷ []) stand alike none = absurd stand.1.1
copies_none program laid made stack table handles fs (g ∷ h ∷ i ∷ gs) (b ∷ c ∷ []) stand alike none = absurd alike.1.1
copies_none program laid made stack table handles fs gs (b ∷ c ∷ d ∷ bs) stand alike none = tt

-- ---- runs of states of which steps keep what is known

module _ (program : FlowProgram) (p : Program) (input : List ℕ) (has : HasTypes program) (settled : IsSettled (flow_typing program).table) (lowered : IsLowered program p) (frames : HasFrames program) (small : MainBegins program p)
    (sound : machine.State → Type 0) (steps : (s : machine.State) → sound s → GoesOn sound (machine_run.step program input s))
    (same : (s : machine.State) → sound s → OnlyOwners (flow_typing program) s.memory → (n : Memory) → Agrees s.memory n
    → SameStepBy (flow_typing program) (machine_run.step program input s) (machine_run.step program input (record s { memory = n })))
    (live : LeaksLive program p input sound) (plain : (s : machine.State) → sound s → CopiesNone s.frames) where
  abbrev table : Table
  table = (flow_typing program).table

  -- A state of the machine, the same with null where it moved, and those over numbers and over handles.
  record InStep (handles : List ℕ) (here : List Kind) (s t : machine.State) (g : State) (b : handled.State) : Type 0 where
    pub good : sound s
    pub only : OnlyOwners (flow_typing program) s.memory
    pub agrees : SameState s t
    pub null : IsNull (flow_typing program) t.memory
    pub stands : StateStands program t g
    pub stacked : IsStacked table p (subs_of t) g.frames here
    pub none : NoneGone here g.memory
    pub alike : StatesAlike table handles here g b
    pub back : LookBack table here g.frames

  has_before : (handles : List ℕ) (here : List Kind) (s t : machine.State) (g : State) (b : handled.State) → InStep handles here s t g b → HasCells s.memory.cells b.memory.heap
  has_before handles here s t g b is =
      agree_cells s.memory.cells t.memory.cells b.memory.heap is.agrees.1.cells
      (has_cells table handles t.memory g.memory b.memory.heap is.stands.memory.related.cells is.stands.memory.related.counted.made (λ n o. is.null (OfCell (suc n)) o) is.alike.memory.cells)

  none_back : (handles : List ℕ) (here : List Kind) (s t : machine.State) (g : State) (b : handled.State) → InStep handles here s t g b → kept.CopiesNone b.frames
  none_back handles here s t g b is =
      copies_none program is.stands.laid (types t.memory) g.memory.stack table handles t.frames g.frames b.frames is.stands.frames is.alike.frames
      (subst CopiesNone (ap (λ (x : machine.State). x.frames) (sym is.agrees.0)) (plain s is.good))

  abbrev Many : ℕ → Type 0
  Many n =
      (handles : List ℕ) (here : List Kind) (s t : machine.State) (g : State) (b : handled.State) → InStep handles here s t g b
      → (r : handled.Outcome) → Within n table p input b r → NeverTraps (ended (within n program input s)).ending → LeavesCells (state_of (within n program input s)) r

  -- ---- where both end

  ends_leave : (n : ℕ) (s : machine.State) (b : handled.State) → HasCells s.memory.cells b.memory.heap → (e : Ending) (s1 : machine.State) (o r : handled.Outcome) → StepLeaves s (machine.Ends e s1)
      → Leaves b.memory.heap.cells o → ((b1 : handled.State) → o ≡ handled.Goes b1 → ⊥) → Then (Within n table p input) o r → LeavesCells s1 r
  ends_leave n s b before e s1 (handled.Goes b1) r left stays never so = absurd (never b1 refl)
  ends_leave n s b before e s1 (handled.Ends d b1) r left stays never so =
      subst (LeavesCells s1) (sym so)
      (subst (λ cells. HasCells cells b1.memory.heap) (sym left.1) (left_cells s.memory.cells left.0 b.memory.heap b1.memory.heap stays before))
  ends_leave n s b before e s1 handled.Wants r left stays never so = subst (LeavesCells s1) (sym so) tt
  ends_leave n s b before e s1 handled.Fails r left stays never so = subst (LeavesCells s1) (sym so) tt

  -- ---- a step

  module _ (n : ℕ) (many : Many n) (handles : List ℕ) (here : List Kind) (s t : machine.State) (g : State) (b : handled.State) (in_step : InStep handles here s t g b) (r : handled.Outcome) where
    abbrev now : List Kind
    now = step_kinds table p input g here g.frames

    long : length here ≡ length g.memory.stack
    long = in_step.alike.memory.known

    on_both : (s1 t1 : machine.State) (g1 : State) (b1 : handled.State) (handles : List ℕ) → machine_run.step program input t ≡ machine.Goes t1 → points.step table p input g ≡ points.Goes g1
        → sound s1 → SameState s1 t1 × OnlyOwners (flow_typing program) s1.memory → StateStands program t1 g1 → StatesAlike table handles now g1 b1 → LookBack table now g1.frames
        → InStep handles now s1 (cleared_state t1) (cleared now g1) b1
    on_both s1 t1 g1 b1 handles went goes good same_by stands alike back =
        let stacked = step_stacked program p lowered input t g here in_step.stands in_step.stacked long t1 g1 went goes stands alike.memory.known in
        record {
          good = good;
          only = same_by.1;
          agrees = ((ap cleared_state same_by.0.0), agrees_right s1.memory t1.memory same_by.0.1);
          null = null_cleared (flow_typing program) t1.memory;
          stands = clears program p lowered.subs has.laws settled s1 t1 g1 now same_by.1 same_by.0 stands stacked alike.memory.known;
          stacked = stacked;
          none = cleared_kept now g1.memory;
          alike = cleared_alike table handles now g1 b1 alike;
          back = back;
        }

    before : HasCells s.memory.cells b.memory.heap
    before = has_before handles here s t g b in_step

    -- Where the machine's run ends, so does that over handles.
    both_end : (e f : Ending) (s1 t1 : machine.State) (xg : points.Outcome) (o : handled.Outcome) → e ≡ f → IsAlike (StateStands program) (machine.Ends f t1) xg → OutcomesAlike table handles now xg o
        → NeverTraps e → (b1 : handled.State) → o ≡ handled.Goes b1 → ⊥
    both_end e f s1 t1 (points.Goes g1) o one stands is never b1 same_o = absurd stands
    both_end e f s1 t1 (points.Ends Normal g1) o one stands is never b1 same_o = subst (OutcomesAlike table handles now (points.Ends Normal g1)) same_o is
    both_end e f s1 t1 (points.Ends (Raised x at) g1) o one stands is never b1 same_o = subst (OutcomesAlike table handles now (points.Ends (Raised x at) g1)) same_o is
    both_end e f s1 t1 (points.Ends Spent g1) o one stands is never b1 same_o = subst (OutcomesAlike table handles now (points.Ends Spent g1)) same_o is
    both_end e f s1 t1 (points.Ends (Trapped x at) g1) o one stands is never b1 same_o = never x at (one ∙ sym stands.0)
    both_end e f s1 t1 points.Wants o one stands is never b1 same_o = (let no : handled.Goes b1 ≡ handled.Wants = sym same_o ∙ is in cc)
    both_end e f s1 t1 points.Fails o one stands is never b1 same_o = absurd stands

    by : (xs xt : machine.Outcome) (xg : points.Outcome) (o : handled.Outcome) → machine_run.step program input t ≡ xt → points.step table p input g ≡ xg
        → GoesOn sound xs → SameStepBy (flow_typing program) xs xt → IsAlike (StateStands program) xt xg → OutcomesAlike table handles now xg o → StepLeaves s xs → Leaves b.memory.heap.cells o → Then (Within n table p input) o r
        → NeverTraps (ended (then_on xs (within n program input))).ending → LeavesCells (state_of (then_on xs (within n program input))) r
    by (machine.Goes s1) (machine.Goes t1) (points.Goes g1) (handled.Goes b1) went goes good same_by stands is left stays so never =
        many (handles ++ is.0) now s1 (cleared_state t1) (cleared now g1) b1 (on_both s1 t1 g1 b1 (handles ++ is.0) went goes good same_by stands is.1 is.2) r so never
    by (machine.Goes s1) (machine.Goes t1) (points.Goes g1) (handled.Ends d b1) went goes good same_by stands is left stays so never = absurd is
    by (machine.Goes s1) (machine.Goes t1) (points.Goes g1) handled.Wants went goes good same_by stands is left stays so never = subst (LeavesCells (state_of (within n program input s1))) (sym so) tt
    by (machine.Goes s1) (machine.Goes t1) (points.Goes g1) handled.Fails went goes good same_by stands is left stays so never = absurd is
    by (machine.Goes s1) (machine.Goes t1) (points.Ends k g1) o went goes good same_by stands is left stays so never = absurd stands
    by (machine.Goes s1) (machine.Goes t1) points.Wants o went goes good same_by stands is left stays so never =
        subst (LeavesCells (state_of (within n program input s1))) (sym (subst (λ x. Then (Within n table p input) x r) is so)) tt
    by (machine.Goes s1) (machine.Goes t1) points.Fails o went goes good same_by stands is left stays so never = absurd stands
    by (machine.Goes s1) (machine.Ends f t1) xg o went goes good same_by stands is left stays so never = absurd same_by
    by (machine.Ends e s1) (machine.Goes t1) xg o went goes good same_by stands is left stays so never = absurd same_by
    by (machine.Ends e s1) (machine.Ends f t1) xg o went goes good same_by stands is left stays so never =
        ends_leave n s b before e s1 o r left stays (both_end e f s1 t1 xg o same_by.0 stands is never) so

    starts_clear : (fs : List machine.Frame) (gs : List Frame) → FramesStand program in_step.stands.laid (types t.memory) g.memory.stack fs gs → (f : Frame) (outer : List Frame) (q : Point) → gs ≡ f ∷ outer
        → IsClear here (taken_kinds (turn_of table p input g f outer q)) (points.start (turn_of table p input g f outer q))
    starts_clear [] [] stand f outer q is = absurd (not_empty (sym is))
    starts_clear [] (h ∷ gs) stand f outer q is = absurd stand
    starts_clear (m ∷ fs) [] stand f outer q is = absurd stand
    starts_clear (m ∷ fs) (h ∷ gs) stand f outer q is =
        clear_start table p input g f outer q here (types t.memory) m.waits (subst (λ (x : Frame). WaitsStand table (types t.memory) m.waits x.waits) (list_first is) stand.0.waits) in_step.none

    looks : LooksStep table p input g here g.frames
    looks =
        state_looks program p lowered has.laws has.truth input t g here in_step.stands in_step.stacked
        (λ f outer q is next. (starts_clear t.frames g.frames in_step.stands.frames f outer q is, live s t g in_step.good in_step.agrees in_step.null in_step.stands here in_step.stacked in_step.none long f outer q is next))

    step_same : SameStepBy (flow_typing program) (machine_run.step program input s) (machine_run.step program input t)
    step_same =
        subst (λ x. SameStepBy (flow_typing program) (machine_run.step program input s) (machine_run.step program input x)) (sym in_step.agrees.0)
        (same s in_step.good in_step.only t.memory in_step.agrees.1)

    step_gives : Within (suc n) table p input b r → NeverTraps (ended (within (suc n) program input s)).ending → LeavesCells (state_of (within (suc n) program input s)) r
    unfolding Within within
    step_gives (o, stepped, so) never =
        by (machine_run.step program input s) (machine_run.step program input t) (points.step table p input g) o refl refl (steps s in_step.good) step_same
        (run_steps.step_alike program p input has lowered frames small t g in_step.stands)
        (handled_steps.step_alike table (have_pointers table has.laws) p input handles here g b in_step.alike o in_step.back looks stepped)
        (step_leaves program input s (plain s in_step.good)) (kept.step_leaves table p input b b.frames (none_back handles here s t g b in_step) o stepped) so never

  many_leave : (n : ℕ) → Many n
  unfolding Within within
  many_leave zero handles here s t g b in_step r so never = subst (LeavesCells s) (sym so) (has_before handles here s t g b in_step)
  many_leave (suc n) handles here s t g b in_step r so never = step_gives n (many_leave n) handles here s t g b in_step r so never

-- ---- the start

none_some : {A : Type 0} (a : A) → None ≡ Some a → ⊥
none_some a is = false≢true (ap is_some is)

none_has : HasCells [] no_heap
none_has = record {
  handle = λ n. 0;
  live = λ n c there. absurd (none_some c there.0);
  once = λ n k c d one two. absurd (none_some c one.0);
  back = λ h vs is. absurd (none_some vs is);
}

start_heap : (known : Table) (p : Program) (declares : Bool) → (state_at_start known p declares).memory.heap ≡ no_heap
start_heap known p true = refl
start_heap known p false = by p.main
  where
    by : (main : Option ℕ) → (state_at_start known (record p { main = main }) false).memory.heap ≡ no_heap
    by None = refl
    by (Some main) = refl

-- ---- whole runs

module _ (program : FlowProgram) (p : Program) (input : List ℕ) (has : HasTypes program) (settled : IsSettled (flow_typing program).table) (lowered : IsLowered program p) (frames : HasFrames program)
    (sound : machine.State → Type 0) (begins : sound (machine_run.state_at_start program)) (steps : (s : machine.State) → sound s → GoesOn sound (machine_run.step program input s))
    (same : (s : machine.State) → sound s → OnlyOwners (flow_typing program) s.memory → (n : Memory) → Agrees s.memory n
    → SameStepBy (flow_typing program) (machine_run.step program input s) (machine_run.step program input (record s { memory = n })))
    (live : LeaksLive program p input sound) (plain : (s : machine.State) → sound s → CopiesNone s.frames) where
  abbrev all : Table
  all = (flow_typing program).table

  abbrev declares : Bool
  declares = points.is_declaring program

  -- Where steps keep what is known, a run that never traps leaves the machine's cells.
  pub leaves : (main n : ℕ) → program.main ≡ Some main → (r : handled.Outcome) → RunOf all p declares (sub_of program main).pos main input n r
      → NeverTraps (machine_run.run program input n).ending → LeavesCells (machine_run.moment program input n) r
  unfolding machine_run.run machine_run.moment
  leaves main n is r so never =
      subst Same (sym (ap machine_run.main_of is))
      (by (nat_le words stack_words) refl (subst (λ k. RunsWithin (nat_le k stack_words) all p declares (sub_of program main).pos input n r) (start_words program p lowered.subs main) so))
      never
    where
      words : ℕ
      words = frame_words program (frame_at_start main [] ∷ frame_at_start 0 [] ∷ [])

      Same : ℕ → Type 0
      Same main = NeverTraps (ended (machine_run.run_of program main input n)).ending → LeavesCells (state_of (machine_run.run_of program main input n)) r

      first : machine.State
      first = machine_run.state_at_start program

      by : (b : Bool) → nat_le words stack_words ≡ b → RunsWithin b all p declares (sub_of program main).pos input n r
          → NeverTraps (ended (if b then within n program input first else machine.Ends (Raised StorageError (sub_of program main).pos) first)).ending
          → LeavesCells (state_of (if b then within n program input first else machine.Ends (Raised StorageError (sub_of program main).pos) first)) r
      by true fits so never =
          many_leave program p input has settled lowered frames (main_begins program p has lowered frames (small_main program main is fits)) sound steps same live plain n [] (first_kinds all p declares) first first
          (points.state_at_start all p declares) (state_at_start all p declares)
          (record {
            good = begins;
            only = start_only program;
            agrees = (refl, itself empty_memory);
            null = null_empty (flow_typing program) empty_memory refl refl;
            stands = starts_alike program p has lowered frames main is fits;
            stacked = starts_stacked program p lowered.main;
            none = start_none all p declares;
            alike = start_alike all p declares;
            back = start_back all p declares;
          }) r so never
      by false fits so never = subst (LeavesCells first) (sym so) (subst (HasCells []) (sym (start_heap all p declares)) none_has)
