-- The greatest counts of the machine are those over slots.
use Rattle.std.proofs.Common.{◌≡◌, refl, sym, ap, ◌∙◌, subst, ℕ, suc, ◌+◌, ◌≤◌, ◌<◌, ◌==◌, arith, Bool, true, false, not, ◌&&◌, List, [], ◌∷◌, map, drop, length, get_or, slice_get, Option, Some, None, if◌then◌else◌}
use Rattle.std.proofs.lemmas.Bool.Decides.{nat_tests}
use Rattle.machine.specs.type_definitions.Types.{Table}
use Rattle.kept_cells.specs.run_values.declared.value.Kind.{Kind}
use Rattle.machine.specs.flow_paths.Points.{FlowPoint}
use Rattle.machine.specs.flow_paths.Laid.{FlowProgram, flow_typing}
use Rattle.machine.specs.Memory.{Memory, HeapCell, no_cell, cell_words}
use Rattle.machine.specs.States.{sub_of}
use Rattle.machine.specs.States as machine
use Rattle.machine.specs.Step as machine_step
use Rattle.machine.specs.Run.{no_point, step}
use Rattle.machine.specs.Run as machine_run
use Rattle.kept_cells.specs.Cells.{Cell}
use Rattle.numbered_cells.specs.slot_heap.Heaps.{live_count, slot_count}
use Rattle.numbered_cells.specs.Peaks.{peak_of}
use Rattle.numbered_cells.specs.Follows.{there_count}
use Rattle.run_codes.specs.Codes.{Does, Point}
use Rattle.run_codes.specs.Codes as codes
use Rattle.run_codes.specs.Points.{Frame, State, Outcome, Wants, Fails, done, are_taken, turned, stepped}
use Rattle.run_codes.specs.Points as points
use Rattle.run_codes.specs.Programs.{Program, does, with_takes, point_takes}
use Rattle.run_points.specs.States.{StateStands}
use Rattle.run_points.specs.Turns.{Turns, turn, flat_turn, around, around_sub, TurnStands, IsLowered, HasTypes}
use Rattle.run_points.proofs.Tests.{mapped}
use Rattle.run_points.proofs.Steps.{many_taken}
use Rattle.handled_runs.specs.Slots.{Slots}
use Rattle.handled_steps.specs.Alike.{StatesAlike}
use Rattle.handled_steps.specs.States as handled
use Rattle.handled_steps.specs.Rises.{top, AreUnder, RisesTo}
use Rattle.recycled_runs.proofs.Tops.{marks, count, AreTyped, Rises, EndsRisen, have_typed}
use Rattle.recycled_runs.proofs.TopSteps.{Tops, turn_tops}
use Rattle.recycled_runs.proofs.TopStores.{stores_at}
use Rattle.soundness.proofs.Parted.{some_same}

-- ---- counts

abbrev IsSame : List HeapCell → List Cell → ℕ → Type 0
IsSame cs ks n = (k : Cell) × (slice_get ks n ≡ Some k) × (length (get_or cs n no_cell).slots ≡ length k.words) × ((get_or cs n no_cell).freed ≡ k.freed)

each_there : (n : ℕ) (cs : List HeapCell) (ks : List Cell) → length ks ≡ length cs → ((i : ℕ) → i < length cs → IsSame cs ks i) → count n (marks cs) ≡ there_count n ks
each_there n [] [] same each = refl
each_there n [] (k ∷ ks) same each = absurd (omega (arith, same))
each_there n (c ∷ cs) [] same each = absurd (omega (arith, same))
each_there n (c ∷ cs) (k ∷ ks) same each =
    let first = each 0 (omega arith) in
    let here : k ≡ first.0 = some_same first.1 in
    let size : cell_words c ≡ length k.words = first.2 ∙ ap (λ (x : Cell). length x.words) (sym here) in
    let flag : c.freed ≡ k.freed = first.3 ∙ ap (λ (x : Cell). x.freed) (sym here) in
    let rest = each_there n cs ks (omega (arith, same)) (λ i less. each (suc i) (omega (arith, less))) in
    ap (λ w. if not c.freed && (w == n) then suc (count n (marks cs)) else count n (marks cs)) size
    ∙ (ap (λ b. if not b && (length k.words == n) then suc (count n (marks cs)) else count n (marks cs)) flag
    ∙ by k.freed (length k.words == n) rest)
  where
    by : (b d : Bool) → count n (marks cs) ≡ there_count n ks → (if not b && d then suc (count n (marks cs)) else count n (marks cs)) ≡ (if b then 0 else (if d then 1 else 0)) + there_count n ks
    by true d rest = omega (arith, rest)
    by false true rest = omega (arith, rest)
    by false false rest = omega (arith, rest)

-- The cells of the machine that are live, and those over slots.
pub counts_same : (program : FlowProgram) (table : Table) (handles : List ℕ) (here : List Kind) (t : machine.State) (g : State) (b : handled.State) → StateStands program t g → StatesAlike table handles here g b
    → (n : ℕ) → count n (marks t.memory.cells) ≡ live_count n b.memory.heap.cells
counts_same program table handles here t g b stands alike n =
    each_there n t.memory.cells g.memory.cells stands.memory.related.counted.made (λ i less. let at = stands.memory.related.cells i less in (at.0, at.1, at.2.size, at.2.freed))
    ∙ sym (alike.memory.cells.counts n)

-- ---- a step of the machine

-- As in TopSteps, where the state is that before the step.
abbrev pub TopsBy : Table → Memory → machine.Outcome → Type 0
TopsBy table before (machine.Goes s) = AreTyped table s.memory → Rises before s.memory
TopsBy table before (machine.Ends e s) = EndsRisen before s.memory

-- Where the step over numbers doesn't want memory.
abbrev pub HasRoom : points.Outcome → Type 0
HasRoom o = o ≡ Wants → ⊥

module _ (program : FlowProgram) (p : Program) (input : List ℕ) (has : HasTypes program) (lowered : IsLowered program p) where
  abbrev table : Table
  table = (flow_typing program).table

  tops_by : (t : machine_step.Turn) (under : _) (typed : _) (o : machine.Outcome) → Tops t under typed o → TopsBy (flow_typing t.program).table t.state.memory o
  tops_by t under typed (machine.Goes s) is = is
  tops_by t under typed (machine.Ends e s) is = is

  abbrev with_shared : State → machine.State → List Frame → State
  with_shared g t gs = record g { frames = gs; at = t.at; output = t.output; leaks = t.leaks; steps = t.steps }

  frames_top : (t : machine.State) (g : State) (fs : List machine.Frame) (gs : List Frame) → StateStands program (record t { frames = fs }) (record g { frames = gs })
      → ((n : ℕ) → count n (marks t.memory.cells) ≤ peak_of n t.memory.peaks) → HasRoom (stepped table p input (with_shared g t gs) gs) → TopsBy table t.memory (machine_run.stepped program input (record t { frames = fs }) fs)
  frames_top t g [] gs is under room = λ n. ended n (drop_all t.memory.cells)
    where
      drop_all : (cells : List HeapCell) → drop (length cells) (map cell_words cells) ≡ []
      drop_all [] = refl
      drop_all (c ∷ cells) = drop_all cells

      same : (a b : ℕ) → b ≤ a → a ≡ top a (b + 0)
      same a b less = grind (arith, nat_tests)

      ended : (n : ℕ) → drop (length t.memory.cells) (map cell_words t.memory.cells) ≡ [] → peak_of n t.memory.peaks ≡ top (peak_of n t.memory.peaks) (count n (marks t.memory.cells) + slot_count n (drop (length t.memory.cells) (map cell_words t.memory.cells)))
      ended n none =
          same (peak_of n t.memory.peaks) (count n (marks t.memory.cells)) (under n)
          ∙ ap (λ l. top (peak_of n t.memory.peaks) (count n (marks t.memory.cells) + slot_count n l)) (sym none)
  frames_top t g (f ∷ fs) [] is under room = absurd is.frames
  frames_top t g (f ∷ fs) (h ∷ gs) is under room =
      let q = lowered.points f.sub f.next is.runs is.frames.0.few in
      let d = mapped (λ d. record { takes = takes; does = d; pos = fp.pos }) (does (with_takes (around_sub program f.sub) takes) fp fp.instr) q.0 q.2 in
      let there : slice_get p.points h.next ≡ Some (record { takes = takes; does = d.0; pos = fp.pos }) =
      ap (λ n. slice_get p.points n) is.frames.0.next ∙ q.1 ∙ ap (λ x. Some x) (sym d.2) in
      by d.0 d.1 (are_taken (flat_turn b codes.Finish)) refl (subst (λ o. HasRoom (of_point o)) there room)
    where
      fp : FlowPoint
      fp = get_or (sub_of program f.sub).points f.next no_point

      takes : List ℕ
      takes = point_takes (flow_typing program) fp.instr

      b : Turns
      b = record {
        program = program;
        lowered = p;
        input = input;
        point = fp;
        takes = takes;
        at = t.at;
        output = t.output;
        leaks = t.leaks;
        steps = t.steps;
        memory = t.memory;
        checks = t.checks;
        frame = f;
        outer = fs;
        flat = g.memory;
        flat_frame = h;
        flat_outer = gs;
      }

      of_point : Option Point → Outcome
      of_point None = Fails
      of_point (Some x) = turned (record { table = table; program = p; input = input; point = x; state = with_shared g t (h ∷ gs); frame = h; outer = gs })

      taken_stands : are_taken (flat_turn b codes.Finish) ≡ true → TurnStands b is.laid
      taken_stands taken = record {
        laws = has.laws;
        parts = has.parts;
        truth = has.truth;
        memory = is.memory;
        frame = is.frames.0;
        runs = is.runs;
        outer = is.frames.1;
        many = many_taken (flow_typing program) fp.instr;
        taken = taken;
      }

      typed : AreTyped table t.memory
      typed = have_typed table t.memory g.memory is.memory.related.cells

      by : (d : Does) → does (around b) fp fp.instr ≡ Some d → (taken : Bool) → are_taken (flat_turn b codes.Finish) ≡ taken
          → HasRoom (if taken then done (flat_turn b d) d else Wants) → TopsBy table t.memory (machine_step.turn (turn b) fp.instr)
      by d lowers false none room = absurd (room refl)
      by d lowers true taken room =
          tops_by (turn b) under typed (machine_step.turn (turn b) fp.instr)
          (turn_tops (turn b) under typed fp.instr (stores_at b is.laid (taken_stands taken) under typed fp.instr d lowers room))

  pub machine_tops : (t : machine.State) (g : State) → StateStands program t g → ((n : ℕ) → count n (marks t.memory.cells) ≤ peak_of n t.memory.peaks) → HasRoom (points.step table p input g)
      → TopsBy table t.memory (machine_run.step program input t)
  machine_tops t g is under room = frames_top t g t.frames g.frames is under (subst (λ (x : State). HasRoom (stepped table p input x g.frames)) shared room)
    where
      shared : g ≡ with_shared g t g.frames
      shared j = record g { at = is.at j; output = is.output j; leaks = is.leaks j; steps = is.steps j }

-- ---- both

-- The greatest counts of each size are the same.
abbrev pub SamePeaks : Memory → Slots → Type 0
SamePeaks m s = (n : ℕ) → peak_of n m.peaks ≡ peak_of n s.peaks

least : (a b : ℕ) → b ≤ top a b
least a b = grind (arith, nat_tests)

-- Over slots no count is greater than what it was at most.
pub still_under : (before : Slots) (b : handled.State) → RisesTo before (handled.Goes b) → AreUnder b.memory
still_under before b rises n = subst (λ k. live_count n b.memory.heap.cells ≤ k) (sym (rises n)) (least (peak_of n before.peaks) (live_count n b.memory.heap.cells))

pub goes_same : (program : FlowProgram) (table : Table) (handles : List ℕ) (here : List Kind) (before : Memory) (slots : Slots) (t : machine.State) (g : State) (b : handled.State) → SamePeaks before slots
    → StateStands program t g → StatesAlike table handles here g b → TopsBy (flow_typing program).table before (machine.Goes t) → RisesTo slots (handled.Goes b) → SamePeaks t.memory b.memory
goes_same program table handles here before slots t g b same stands alike tops rises n =
    tops (have_typed (flow_typing program).table t.memory g.memory stands.memory.related.cells) n
    ∙ (ap (λ k. top k (count n (marks t.memory.cells))) (same n)
    ∙ (ap (top (peak_of n slots.peaks)) (counts_same program table handles here t g b stands alike n) ∙ sym (rises n)))

-- At the end of the run, with what the step made.
pub ends_alike : (old : Memory) (slots : Slots) (e : machine.Ending) (s : machine.State) (b : handled.State) → SamePeaks old slots
    → ((n : ℕ) → count n (marks old.cells) ≡ live_count n slots.heap.cells) → drop (length old.cells) (map cell_words s.memory.cells) ≡ drop (length slots.sizes) b.memory.sizes
    → EndsRisen old s.memory → RisesTo slots (handled.Ends e b) → SamePeaks s.memory b.memory
ends_alike old slots e s b same counts sizes tops rises n =
    tops n
    ∙ (ap (λ k. top k (count n (marks old.cells) + slot_count n (drop (length old.cells) (map cell_words s.memory.cells)))) (same n)
    ∙ (ap (top (peak_of n slots.peaks)) (ap (λ k. k + slot_count n (drop (length old.cells) (map cell_words s.memory.cells))) (counts n) ∙ ap (λ l. live_count n slots.heap.cells + slot_count n l) sizes)
    ∙ sym (rises n)))
