-- A step that stops ends both runs alike; and one that only reads goes on where the machine's does.
use Rattle.std.proofs.Common.{◌≡◌, ℕ, ◌+◌, ◌-◌, List, [], ◌∷◌, ◌++◌, map, filter, reverse, length, take, drop, refl, sym, ap, subst, ◌∙◌, Option, Some, arith, append-nil, ℤ}
use Rattle.std.proofs.Math.Seq.{drop-length}
use Rattle.machine.specs.Words.{Word}
use Rattle.flow_paths.specs.Laid.{flow_typing}
use Rattle.machine.specs.Typed.{Sort}
use Rattle.machine.specs.Memory.{Memory, HeapCell}
use Rattle.machine.specs.Memory as machine_memory
use Rattle.machine.specs.Evaluate.{Exception, Trap, Evaluated}
use Rattle.machine.specs.States.{Raised, Trapped}
use Rattle.machine.specs.States as machine
use Rattle.machine.specs.Step as machine_step
use Rattle.kept_cells.specs.Cells.{Cell}
use Rattle.run_codes.specs.Codes.{Does, Finish}
use Rattle.run_codes.specs.Flat.{Flat, Got, Given, Stops, Broken, Stop, Raises, Traps}
use Rattle.run_codes.specs.Flat as flat
use Rattle.run_codes.specs.Points.{Outcome, start, waiting, counted, given_up, as_freed, halted, on_got, goes}
use Rattle.run_codes.specs.Programs.{going}
use Rattle.run_codes.specs.Related.{Stands, Stopped, Same, types, now}
use Rattle.run_points.specs.Outcomes.{IsSeenAlike, IsAlike}
use Rattle.run_points.specs.States.{Laid, LoopsStand, WaitsStand, StateStands, MainBegins}
use Rattle.run_points.specs.Turns.{Turns, state, turn, flat_state, flat_turn, around, seen, TurnStands, IsKept}
use Rattle.run_points.proofs.Sizes.{sizes_same}
use Rattle.run_points.proofs.Waits.{rest_stand}
use Rattle.run_points.proofs.Goes.{after_stands, unchanged}

-- ---- the memory before the step

cells_kept : {A : Type 0} (all : List A) (g : A → A) → all ++ map g (drop (length all) all) ≡ all
cells_kept all g = ap (λ l. all ++ map g l) (drop-length all) ∙ append-nil all

none_made : (a l : ℕ) → a + (l - l) ≡ a
none_made a l = omega arith

-- Nothing was made.
seen_before : (b : Turns) (laid : Laid) → TurnStands b laid
    → IsSeenAlike (machine_step.counted (record (state b) { memory = machine_memory.given_up b.memory b.memory }))
    (counted (record (flat_state b) { memory = given_up b.flat (start (flat_turn b Finish)) }))
seen_before b laid is = record {
  output = refl;
  leaks = refl;
  steps = refl;
  made =
      ap (λ (l : List Cell). length l) (cells_kept b.flat.cells as_freed) ∙ is.memory.related.counted.made
      ∙ sym (ap (λ (l : List HeapCell). length l) (cells_kept b.memory.cells machine_memory.as_freed));
  freed =
      none_made b.flat.freed (length b.flat.cells) ∙ is.memory.related.counted.freed
      ∙ sym (ap (λ l. length (filter (λ (c : HeapCell). c.freed) l)) (cells_kept b.memory.cells machine_memory.as_freed));
  sizes =
      ap (map (λ (c : Cell). length c.words)) (cells_kept b.flat.cells as_freed)
      ∙ (sizes_same (flow_typing b.program) laid.objects b.memory b.flat is.memory.related ∙ sym (ap (map machine_memory.cell_words) (cells_kept b.memory.cells machine_memory.as_freed)));
}

pub raised_alike : (b : Turns) (laid : Laid) → TurnStands b laid → (d : Does) (e : Exception)
    → IsAlike (StateStands b.program) (machine_step.raised (turn b) e b.memory) (halted (flat_turn b d) (Raises e) (start (flat_turn b Finish)))
raised_alike b laid is d e = (refl, seen_before b laid is)

pub trapped_alike : (b : Turns) (laid : Laid) → TurnStands b laid → (d : Does) (t : Trap)
    → IsAlike (StateStands b.program) (machine_step.trapped (turn b) t b.memory) (halted (flat_turn b d) (Traps t) (start (flat_turn b Finish)))
trapped_alike b laid is d t = (refl, seen_before b laid is)

pub stopped_alike : {A : Type 0} (b : Turns) (laid : Laid) → TurnStands b laid → (d : Does) (stop : Stop) (ev : Evaluated A) (f : A → Memory → machine.Outcome)
    → Stopped b.memory stop ev → IsAlike (StateStands b.program) (machine_step.evaluated (turn b) ev f) (halted (flat_turn b d) stop (start (flat_turn b Finish)))
stopped_alike b laid is d (Raises e) ev f stops =
    subst (λ v. IsAlike (StateStands b.program) (machine_step.evaluated (turn b) v f) (halted (flat_turn b d) (Raises e) (start (flat_turn b Finish)))) (sym stops.1)
    (subst (λ m. IsAlike (StateStands b.program) (machine_step.raised (turn b) e m) (halted (flat_turn b d) (Raises e) (start (flat_turn b Finish)))) (sym stops.2)
    (raised_alike b laid is d e))
stopped_alike b laid is d (Traps t) ev f stops =
    subst (λ v. IsAlike (StateStands b.program) (machine_step.evaluated (turn b) v f) (halted (flat_turn b d) (Traps t) (start (flat_turn b Finish)))) (sym stops.1)
    (subst (λ m. IsAlike (StateStands b.program) (machine_step.trapped (turn b) t m) (halted (flat_turn b d) (Traps t) (start (flat_turn b Finish)))) (sym stops.2)
    (trapped_alike b laid is d t))
stopped_alike b laid is d flat.Memory ev f stops = absurd stops

-- ---- words

-- A word is evaluated, and the step goes on with it.
pub word_alike : (b : Turns) (laid : Laid) → TurnStands b laid → (d : Does) (s : Sort) (k : ℕ) (ev : Evaluated (List Word)) (got : Got ℤ)
    → (f : List Word → Memory → machine.Outcome) (g : ℤ → Outcome) → Same (seen b) s k ev got
    → ((w : Word) (z : ℤ) → Stands (flow_typing b.program).table (types b.memory) s w z → IsAlike (StateStands b.program) (f (w ∷ []) b.memory) (g z))
    → IsAlike (StateStands b.program) (machine_step.evaluated (turn b) ev f) (on_got (flat_turn b d) (start (flat_turn b Finish)) got g)
word_alike b laid is d s k ev (Given z) f g same on =
    subst (λ v. IsAlike (StateStands b.program) (machine_step.evaluated (turn b) v f) (g z)) (sym same.1) (on same.0 z same.2)
word_alike b laid is d s k ev (Stops stop) f g same on = stopped_alike b laid is d stop ev f same
word_alike b laid is d s k ev Broken f g same on = absurd same

-- ---- what goes on

-- The machine's evaluation begins where that of the executor does.
pub start_is : (b : Turns) (laid : Laid) → TurnStands b laid → machine_step.start (turn b) ≡ now (seen b) 0
start_is b laid is = ap (λ n. record { memory = b.memory; waits = map (λ (v : machine.Waiting). v.words) (reverse (take n b.frame.waits)) }) is.many

pub waits_on : (b : Turns) (laid : Laid) → TurnStands b laid → (d : Does)
    → WaitsStand (flow_typing b.program).table (types b.memory) (machine_step.waiting (turn b)) (waiting (flat_turn b d))
waits_on b laid is d =
    subst (λ n. WaitsStand (flow_typing b.program).table (types b.memory) (drop n b.frame.waits) (waiting (flat_turn b d))) (sym is.many)
    (rest_stand (flow_typing b.program).table (types b.memory) (length b.takes) b.frame.waits b.flat_frame.waits is.frame.waits)

pub goes_alike : (b : Turns) (laid : Laid) → TurnStands b laid → MainBegins b.program b.lowered → (d : Does) (k : ℕ) (n : Option ℕ) → going (around b) b.point k ≡ Some n
    → (m : Memory) (f : Flat) → IsKept b laid m f → LoopsStand laid.loops (length b.outer) f.stack b.frame.loops
    → IsAlike (StateStands b.program) (machine_step.goes (turn b) m k) (goes (flat_turn b d) f n)
goes_alike b laid is begins d k n goes m f kept turning =
    after_stands b laid is begins d k n goes (machine_step.waiting (turn b)) (waiting (flat_turn b d)) (waits_on b laid is d) b.frame.loops m f kept turning is.frame.bounds

-- Nothing changed.
pub goes_on : (b : Turns) (laid : Laid) → TurnStands b laid → MainBegins b.program b.lowered → (d : Does) (k : ℕ) (n : Option ℕ) → going (around b) b.point k ≡ Some n
    → IsAlike (StateStands b.program) (machine_step.goes (turn b) b.memory k) (goes (flat_turn b d) (start (flat_turn b Finish)) n)
goes_on b laid is begins d k n goes =
    goes_alike b laid is begins d k n goes b.memory (start (flat_turn b Finish)) (unchanged b laid is) is.frame.loops
