-- The law: a run over a heap that uses its slots again gives what the machine's run gives.
use Rattle.std.proofs.Common.{◌≡◌, refl, sym, ap, ◌∙◌, subst, inl, inr, ◌⊎◌, ℕ, zero, suc, ◌≤◌, Bool, true, false, nat_le, List, [], ◌∷◌, ◌++◌, drop, length, slice_get, Some, if◌then◌else◌}
use Rattle.machine.specs.type_definitions.Types.{Table}
use Rattle.kept_cells.specs.run_values.declared.value.Kind.{Kind}
use Rattle.machine.specs.flow_paths.Laid.{FlowProgram, flow_typing}
use Rattle.machine.specs.Memory.{Memory}
use Rattle.machine.specs.Evaluate.{StorageError}
use Rattle.machine.specs.States.{Ending, Normal, Raised, Spent, Trapped, sub_of, frame_words, stack_words, frame_at_start}
use Rattle.machine.specs.States as machine
use Rattle.machine.specs.Run.{Run, ended, run_with, then_on, within, empty_memory}
use Rattle.machine.specs.Run as machine_run
use Rattle.soundness.specs.PartOffsets.Parts.{IsSettled}
use Rattle.recycled_runs.specs.ViewedFacts.NullPlaces.Cleared.{cleared_state}
use Rattle.recycled_runs.specs.ViewedFacts.NullPlaces.Agrees.{Agrees, SameState}
use Rattle.recycled_runs.proofs.ViewedFacts.NullPlaces.Memories.{itself, agrees_right, count_agree, freed_count}
use Rattle.recycled_runs.proofs.ViewedFacts.NullPlaces.Only.{OnlyOwners}
use Rattle.recycled_runs.proofs.ViewedFacts.NullPlaces.Instructions.{SameStepBy}
use Rattle.recycled_runs.proofs.ViewedFacts.NullPlaces.Runs.{GoesOn}
use Rattle.run_codes.specs.Codes.{Point}
use Rattle.run_codes.specs.Points.{Frame, State, ran_of}
use Rattle.run_codes.specs.Points as points
use Rattle.run_codes.specs.Programs.{Program}
use Rattle.run_points.specs.Outcomes.{IsSeenAlike, IsAlike}
use Rattle.run_codes.specs.Related.{types}
use Rattle.run_points.specs.States.{StateStands, FramesStand, WaitsStand, MainBegins}
use Rattle.run_points.specs.Turns.{IsLowered, HasTypes}
use Rattle.run_points.specs.Frames.{HasFrames}
use Rattle.run_points.proofs.Begins.{main_begins, small_main, starts_alike}
use Rattle.run_points.proofs.Runs.{given_alike}
use Rattle.run_points.proofs.Steps.{stands_seen}
use Rattle.run_points.proofs.Steps as run_steps
use Rattle.handled_runs.specs.Looks.{IsClear}
use Rattle.handled_steps.specs.States as handled
use Rattle.handled_steps.specs.Steps.{Within, Then}
use Rattle.handled_steps.specs.Alike.{StatesAlike, EndsAlike, OutcomesAlike}
use Rattle.handled_steps.specs.Backs.{LookBack}
use Rattle.handled_steps.specs.Clear.{cleared}
use Rattle.handled_steps.specs.Looks.{LooksStep, turn_of, taken_kinds, step_kinds}
use Rattle.handled_steps.specs.Rises.{AreUnder, RisesTo}
use Rattle.handled_steps.proofs.Rises.{step_rises}
use Rattle.numbered_cells.specs.Peaks.{peak_of}
use Rattle.numbered_cells.specs.slot_heap.Heaps.{live_count}
use Rattle.kept_cells.specs.Cells.{Cell}
use Rattle.std.proofs.lemmas.List.{length-map}
use Rattle.handled_steps.specs.Runs.{NeverTraps, RunsWithin, RunOf, given, ran_with, state_at_start, first_kinds}
use Rattle.handled_steps.proofs.Cleared.{cleared_alike}
use Rattle.handled_steps.proofs.Runs.{start_alike, start_back, ran_same}
use Rattle.handled_steps.proofs.Steps as handled_steps
use Rattle.handled_steps.proofs.Tables.{have_pointers}
use Rattle.handled_kinds.specs.Stacks.{subs_of, IsStacked}
use Rattle.handled_kinds.specs.Turns.{LeaksThere}
use Rattle.handled_kinds.proofs.Runs.{state_looks}
use Rattle.recycled_runs.proofs.Subs.{step_stacked}
use Rattle.recycled_runs.proofs.Nulls.{clears}
use Rattle.recycled_runs.proofs.Keeps.{IsNull, null_cleared, null_empty}
use Rattle.recycled_runs.proofs.Clear.{NoneGone, cleared_kept, clear_start}
use Rattle.recycled_runs.proofs.Tops.{marks, count}
use Rattle.recycled_runs.proofs.Rising.{TopsBy, HasRoom, machine_tops, SamePeaks, counts_same, still_under, ends_alike}
use Rattle.recycled_runs.proofs.Rising.{goes_same as peaks_same}
use Rattle.recycled_runs.proofs.Starts.{start_peaks, start_under, start_only, start_words, start_seen, start_none, starts_stacked}
use Rattle.soundness.proofs.Parted.{not_empty}
use Rattle.viewed_steps.proofs.Parted.{list_first}

-- ---- what runs of the machine give

run_same : (e : Ending) (a b : machine.State) → SameState a b → run_with e b ≡ run_with e a
run_same e a b same =
    ap (run_with e) same.0
    ∙ (λ j. record (run_with e a) {
      made = sym (count_agree a.memory b.memory same.1) j;
      freed = sym (freed_count a.memory b.memory same.1) j;
      peaks = sym same.1.peaks j;
    })

module _ (table : Table) where
  ends_same : (handles : List ℕ) (ks : List Kind) (e f k : Ending) (s t : machine.State) (g : State) (b : handled.State) → e ≡ f → SameState s t → k ≡ f → IsSeenAlike t g
      → StatesAlike table handles ks g b → Some (ran_with k b) ≡ Some (ran_of (run_with e s))
  ends_same handles ks e f k s t g b one agrees two seen alike =
      ap Some (ran_same table handles ks k g b alike
      ∙ (given_alike (λ t g. IsSeenAlike t g) (λ t g is. is) (machine.Ends f t) (points.Ends k g) (two, seen)
      ∙ ap ran_of (run_same f s t agrees ∙ ap (λ x. run_with x s) (sym one))))

-- The greatest counts of live cells of each size are those of the machine's run.
abbrev pub HasRunPeaks : Run → handled.Outcome → Type 0
HasRunPeaks x (handled.Goes b) = Unit {0}
HasRunPeaks x (handled.Ends e b) = (n : ℕ) → peak_of n x.peaks ≡ peak_of n b.memory.peaks
HasRunPeaks x handled.Wants = Unit {0}
HasRunPeaks x handled.Fails = Unit {0}

-- The same, or memory is out.
abbrev pub GivesSame : Run → handled.Outcome → Type 0
GivesSame x r = ((given r ≡ Some (ran_of x)) × HasRunPeaks x r) ⊎ (r ≡ handled.Wants)

-- ---- runs of states of which steps keep what is known

-- What leak checks of steps from sound states tell of is there. Nothing is gone as a step begins.
abbrev pub LeaksLive : FlowProgram → Program → List ℕ → (machine.State → Type 0) → Type 0
LeaksLive program p input sound =
    (s t : machine.State) (g : State) → sound s → SameState s t → IsNull (flow_typing program) t.memory → StateStands program t g
    → (here : List Kind) → IsStacked (flow_typing program).table p (subs_of t) g.frames here → NoneGone here g.memory → length here ≡ length g.memory.stack → (f : Frame) (outer : List Frame) (q : Point) → g.frames ≡ f ∷ outer
    → slice_get p.points f.next ≡ Some q → points.are_taken (turn_of (flow_typing program).table p input g f outer q) ≡ true
    → LeaksThere (turn_of (flow_typing program).table p input g f outer q) q.does

module _ (program : FlowProgram) (p : Program) (input : List ℕ) (has : HasTypes program) (settled : IsSettled (flow_typing program).table) (lowered : IsLowered program p) (frames : HasFrames program) (small : MainBegins program p)
    (sound : machine.State → Type 0) (steps : (s : machine.State) → sound s → GoesOn sound (machine_run.step program input s))
    (same : (s : machine.State) → sound s → OnlyOwners (flow_typing program) s.memory → (n : Memory) → Agrees s.memory n
    → SameStepBy (flow_typing program) (machine_run.step program input s) (machine_run.step program input (record s { memory = n })))
    (live : LeaksLive program p input sound) where
  abbrev table : Table
  table = (flow_typing program).table

  -- A state of the machine, the same with null where it moved, and those over numbers and over handles.
  record InStep (handles : List ℕ) (here : List Kind) (s t : machine.State) (g : State) (b : handled.State) : Type 0 where
    pub good : sound s
    pub only : OnlyOwners (flow_typing program) s.memory
    pub agrees : SameState s t
    pub null : IsNull (flow_typing program) t.memory
    pub stands : StateStands program t g
    pub stacked : IsStacked table p (subs_of t) g.frames here
    pub none : NoneGone here g.memory
    pub alike : StatesAlike table handles here g b
    pub back : LookBack table here g.frames
    pub peaks : SamePeaks t.memory b.memory
    pub under : AreUnder b.memory

  abbrev Many : ℕ → Type 0
  Many n =
      (handles : List ℕ) (here : List Kind) (s t : machine.State) (g : State) (b : handled.State) → InStep handles here s t g b
      → (r : handled.Outcome) → Within n table p input b r → NeverTraps (ended (within n program input s)).ending → GivesSame (ended (within n program input s)) r

  -- ---- where both end

  -- What is known of the greatest counts before a step.
  record Before (t : machine.State) (g : State) (b : handled.State) : Type 0 where
    pub peaks : SamePeaks t.memory b.memory
    pub counts : (n : ℕ) → count n (marks t.memory.cells) ≡ live_count n b.memory.heap.cells
    pub sizes : length t.memory.cells ≡ length b.memory.sizes

  ends_gives : (n : ℕ) (handles : List ℕ) (old : machine.State) (first : State) (before : handled.State) → Before old first before → (e f k : Ending) (s t : machine.State) (g : State) (o r : handled.Outcome) → e ≡ f → SameState s t → k ≡ f
      → IsSeenAlike t g → TopsBy table old.memory (machine.Ends f t) → RisesTo before.memory o → EndsAlike table handles k g o → Then (Within n table p input) o r → GivesSame (run_with e s) r
  ends_gives n handles old first before was e f k s t g (handled.Goes b) r one agrees two seen tops rises is so = absurd is
  ends_gives n handles old first before was e f k s t g (handled.Ends d b) r one agrees two seen tops rises is so =
      inl (
        ap given so ∙ (ap (λ x. Some (ran_with x b)) is.0 ∙ ends_same table (handles ++ is.1.1.0) is.1.0 e f k s t g b one agrees two seen is.1.1.1),
        subst (HasRunPeaks (run_with e s)) (sym so)
            (λ n. ap (peak_of n) agrees.1.peaks ∙ ends_alike old.memory before.memory d t b was.peaks was.counts
            (ap (drop (length old.memory.cells)) (sym seen.sizes ∙ sym is.1.1.1.memory.made.1) ∙ ap (λ k. drop k b.memory.sizes) was.sizes) tops rises n),
      )
  ends_gives n handles old first before was e f k s t g handled.Wants r one agrees two seen tops rises is so = inr so
  ends_gives n handles old first before was e f k s t g handled.Fails r one agrees two seen tops rises is so = absurd is

  -- ---- a step

  -- what both lead to
  module _ (n : ℕ) (many : Many n) (handles : List ℕ) (here : List Kind) (s t : machine.State) (g : State) (b : handled.State) (in_step : InStep handles here s t g b) (r : handled.Outcome) where
    abbrev now : List Kind
    now = step_kinds table p input g here g.frames

    before : length here ≡ length g.memory.stack
    before = in_step.alike.memory.known

    on_both : (s1 t1 : machine.State) (g1 : State) (b1 : handled.State) (handles : List ℕ) → machine_run.step program input t ≡ machine.Goes t1 → points.step table p input g ≡ points.Goes g1
        → sound s1 → SameState s1 t1 × OnlyOwners (flow_typing program) s1.memory → StateStands program t1 g1 → StatesAlike table handles now g1 b1 → LookBack table now g1.frames
        → SamePeaks t1.memory b1.memory → AreUnder b1.memory → InStep handles now s1 (cleared_state t1) (cleared now g1) b1
    on_both s1 t1 g1 b1 handles went goes good same_by stands alike back peaks under =
        let stacked = step_stacked program p lowered input t g here in_step.stands in_step.stacked before t1 g1 went goes stands alike.memory.known in
        record {
          good = good;
          only = same_by.1;
          agrees = ((ap cleared_state same_by.0.0), agrees_right s1.memory t1.memory same_by.0.1);
          null = null_cleared (flow_typing program) t1.memory;
          stands = clears program p lowered.subs has.laws settled s1 t1 g1 now same_by.1 same_by.0 stands stacked alike.memory.known;
          stacked = stacked;
          none = cleared_kept now g1.memory;
          alike = cleared_alike table handles now g1 b1 alike;
          back = back;
          peaks = peaks;
          under = under;
        }

    counts : (n : ℕ) → count n (marks t.memory.cells) ≡ live_count n b.memory.heap.cells
    counts = counts_same program table handles here t g b in_step.stands in_step.alike

    was : Before t g b
    was = record {
      peaks = in_step.peaks;
      counts = counts;
      sizes = sym (ap (λ (l : List ℕ). length l) in_step.alike.memory.made.1 ∙ (length-map g.memory.cells (λ (c : Cell). length c.words) ∙ in_step.stands.memory.related.counted.made));
    }

    tops : HasRoom (points.step table p input g) → TopsBy table t.memory (machine_run.step program input t)
    tops room = machine_tops program p input has lowered t g in_step.stands (λ n. subst (λ k. k ≤ peak_of n t.memory.peaks) (sym (counts n)) (subst (λ k. live_count n b.memory.heap.cells ≤ k) (sym (in_step.peaks n)) (in_step.under n))) room

    goes_room : (g1 : State) → HasRoom (points.Goes g1)
    goes_room g1 same = cc

    ends_room : (e : Ending) (g1 : State) → HasRoom (points.Ends e g1)
    ends_room e g1 same = cc

    by : (xs xt : machine.Outcome) (xg : points.Outcome) (o : handled.Outcome) → machine_run.step program input t ≡ xt → points.step table p input g ≡ xg
        → GoesOn sound xs → SameStepBy (flow_typing program) xs xt → IsAlike (StateStands program) xt xg → OutcomesAlike table handles now xg o → (HasRoom xg → TopsBy table t.memory xt) → RisesTo b.memory o → Then (Within n table p input) o r
        → NeverTraps (ended (then_on xs (within n program input))).ending → GivesSame (ended (then_on xs (within n program input))) r
    by (machine.Goes s1) (machine.Goes t1) (points.Goes g1) (handled.Goes b1) went goes good same_by stands is top rises so never =
        many (handles ++ is.0) now s1 (cleared_state t1) (cleared now g1) b1 (on_both s1 t1 g1 b1 (handles ++ is.0) went goes good same_by stands is.1 is.2
        (peaks_same program table (handles ++ is.0) now t.memory b.memory t1 g1 b1 in_step.peaks stands is.1 (top (goes_room g1)) rises) (still_under b.memory b1 rises)) r so never
    by (machine.Goes s1) (machine.Goes t1) (points.Goes g1) (handled.Ends e b1) went goes good same_by stands is top rises so never = absurd is
    by (machine.Goes s1) (machine.Goes t1) (points.Goes g1) handled.Wants went goes good same_by stands is top rises so never = inr so
    by (machine.Goes s1) (machine.Goes t1) (points.Goes g1) handled.Fails went goes good same_by stands is top rises so never = absurd is
    by (machine.Ends e s1) (machine.Ends f t1) (points.Ends Normal g1) o went goes good same_by stands is top rises so never =
        ends_gives n handles t g b was e f Normal s1 t1 g1 o r same_by.0 same_by.1 stands.0 stands.1 (top (ends_room Normal g1)) rises is so
    by (machine.Ends e s1) (machine.Ends f t1) (points.Ends (Raised x at) g1) o went goes good same_by stands is top rises so never =
        ends_gives n handles t g b was e f (Raised x at) s1 t1 g1 o r same_by.0 same_by.1 stands.0 stands.1 (top (ends_room (Raised x at) g1)) rises is so
    by (machine.Ends e s1) (machine.Ends f t1) (points.Ends Spent g1) o went goes good same_by stands is top rises so never =
        ends_gives n handles t g b was e f Spent s1 t1 g1 o r same_by.0 same_by.1 stands.0 stands.1 (top (ends_room Spent g1)) rises is so
    by (machine.Ends e s1) (machine.Ends f t1) (points.Ends (Trapped x at) g1) o went goes good same_by stands is top rises so never = absurd (never x at (same_by.0 ∙ sym stands.0))
    by (machine.Goes s1) (machine.Ends f t1) xg o went goes good same_by stands is top rises so never = absurd same_by
    by (machine.Ends e s1) (machine.Goes t1) xg o went goes good same_by stands is top rises so never = absurd same_by
    by (machine.Goes s1) (machine.Goes t1) (points.Ends k g1) o went goes good same_by stands is top rises so never = absurd stands
    by (machine.Ends e s1) (machine.Ends f t1) (points.Goes g1) o went goes good same_by stands is top rises so never = absurd stands
    by xs xt points.Wants o went goes good same_by stands is top rises so never = inr (subst (λ x. Then (Within n table p input) x r) is so)
    by xs xt points.Fails o went goes good same_by stands is top rises so never = absurd stands

    starts_clear : (fs : List machine.Frame) (gs : List Frame) → FramesStand program in_step.stands.laid (types t.memory) g.memory.stack fs gs → (f : Frame) (outer : List Frame) (q : Point) → gs ≡ f ∷ outer
        → IsClear here (taken_kinds (turn_of table p input g f outer q)) (points.start (turn_of table p input g f outer q))
    starts_clear [] [] stand f outer q is = absurd (not_empty (sym is))
    starts_clear [] (h ∷ gs) stand f outer q is = absurd stand
    starts_clear (m ∷ fs) [] stand f outer q is = absurd stand
    starts_clear (m ∷ fs) (h ∷ gs) stand f outer q is =
        clear_start table p input g f outer q here (types t.memory) m.waits (subst (λ (x : Frame). WaitsStand table (types t.memory) m.waits x.waits) (list_first is) stand.0.waits) in_step.none

    looks : LooksStep table p input g here g.frames
    looks =
        state_looks program p lowered has.laws has.truth input t g here in_step.stands in_step.stacked
        (λ f outer q is next. (starts_clear t.frames g.frames in_step.stands.frames f outer q is, live s t g in_step.good in_step.agrees in_step.null in_step.stands here in_step.stacked in_step.none before f outer q is next))

    step_same : SameStepBy (flow_typing program) (machine_run.step program input s) (machine_run.step program input t)
    step_same =
        subst (λ x. SameStepBy (flow_typing program) (machine_run.step program input s) (machine_run.step program input x)) (sym in_step.agrees.0)
        (same s in_step.good in_step.only t.memory in_step.agrees.1)

    step_gives : Within (suc n) table p input b r → NeverTraps (ended (within (suc n) program input s)).ending → GivesSame (ended (within (suc n) program input s)) r
    unfolding Within within
    step_gives (o, stepped, so) never =
        by (machine_run.step program input s) (machine_run.step program input t) (points.step table p input g) o refl refl (steps s in_step.good) step_same
        (run_steps.step_alike program p input has lowered frames small t g in_step.stands)
        (handled_steps.step_alike table (have_pointers table has.laws) p input handles here g b in_step.alike o in_step.back looks stepped) tops (step_rises table p input b b.frames o in_step.under stepped) so never

  many_give : (n : ℕ) → Many n
  unfolding Within within
  many_give zero handles here s t g b in_step r so never =
      inl (
        ap given so ∙ ends_same table handles here Spent Spent Spent s t g b refl in_step.agrees refl (stands_seen program t g in_step.stands) in_step.alike,
        subst (HasRunPeaks (run_with Spent s)) (sym so) (λ n. ap (peak_of n) in_step.agrees.1.peaks ∙ in_step.peaks n),
      )
  many_give (suc n) handles here s t g b in_step r so never = step_gives n (many_give n) handles here s t g b in_step r so never

-- ---- whole runs

module _ (program : FlowProgram) (p : Program) (input : List ℕ) (has : HasTypes program) (settled : IsSettled (flow_typing program).table) (lowered : IsLowered program p) (frames : HasFrames program)
    (sound : machine.State → Type 0) (begins : sound (machine_run.state_at_start program)) (steps : (s : machine.State) → sound s → GoesOn sound (machine_run.step program input s))
    (same : (s : machine.State) → sound s → OnlyOwners (flow_typing program) s.memory → (n : Memory) → Agrees s.memory n
    → SameStepBy (flow_typing program) (machine_run.step program input s) (machine_run.step program input (record s { memory = n })))
    (live : LeaksLive program p input sound) where
  abbrev all : Table
  all = (flow_typing program).table

  abbrev declares : Bool
  declares = points.is_declaring program

  -- Where steps keep what is known, a run that never traps gives over handles what it gives over the machine, or memory is out.
  pub recycled : (main n : ℕ) → program.main ≡ Some main → (r : handled.Outcome) → RunOf all p declares (sub_of program main).pos main input n r
      → NeverTraps (machine_run.run program input n).ending → GivesSame (machine_run.run program input n) r
  unfolding machine_run.run
  recycled main n is r so never =
      subst Same (sym (ap machine_run.main_of is))
      (by (nat_le words stack_words) refl (subst (λ k. RunsWithin (nat_le k stack_words) all p declares (sub_of program main).pos input n r) (start_words program p lowered.subs main) so))
      never
    where
      words : ℕ
      words = frame_words program (frame_at_start main [] ∷ frame_at_start 0 [] ∷ [])

      Same : ℕ → Type 0
      Same main = NeverTraps (ended (machine_run.run_of program main input n)).ending → GivesSame (ended (machine_run.run_of program main input n)) r

      first : machine.State
      first = machine_run.state_at_start program

      by : (b : Bool) → nat_le words stack_words ≡ b → RunsWithin b all p declares (sub_of program main).pos input n r
          → NeverTraps (ended (if b then within n program input first else machine.Ends (Raised StorageError (sub_of program main).pos) first)).ending
          → GivesSame (ended (if b then within n program input first else machine.Ends (Raised StorageError (sub_of program main).pos) first)) r
      by true fits so never =
          many_give program p input has settled lowered frames (main_begins program p has lowered frames (small_main program main is fits)) sound steps same live n [] (first_kinds all p declares) first first
          (points.state_at_start all p declares) (state_at_start all p declares)
          (record {
            good = begins;
            only = start_only program;
            agrees = (refl, itself empty_memory);
            null = null_empty (flow_typing program) empty_memory refl refl;
            stands = starts_alike program p has lowered frames main is fits;
            stacked = starts_stacked program p lowered.main;
            none = start_none all p declares;
            alike = start_alike all p declares;
            back = start_back all p declares;
            peaks = λ n. ap (peak_of n) (sym (start_peaks all p declares));
            under = λ n. start_under all p declares n;
          }) r so never
      by false fits so never =
          inl (
            ap given so ∙ ends_same all [] (first_kinds all p declares) (Raised StorageError (sub_of program main).pos) (Raised StorageError (sub_of program main).pos) (Raised StorageError (sub_of program main).pos) first first
                (points.state_at_start all p declares) (state_at_start all p declares) refl (refl, itself empty_memory) refl (start_seen program p declares) (start_alike all p declares),
            subst (HasRunPeaks (run_with (Raised StorageError (sub_of program main).pos) first)) (sym so) (λ n. ap (peak_of n) (sym (start_peaks all p declares))),
          )
