-- How a run ends.
use Rattle.std.proofs.Common.{◌≡◌, ◌≢◌, ◌<◌, ℕ, ◌+◌, ◌-◌, IsSomeAnd, List, refl, sym, ap, subst, ◌∙◌, arith}
use Rattle.spark_base.specs.declared.position.Pos.{Pos}
use Rattle.code_rows.specs.declared.stop.Stop.{Stop}
use Rattle.code_rows.specs.declared.stop.Stop.TheVariants as stop
use Rattle.code_rows.specs.Stops.{stop_of}
use Rattle.run_results.specs.declared.ran.Ending.{Ending}
use Rattle.run_results.specs.declared.ran.Ending.TheVariants as ending
use Rattle.run_results.specs.Results.{ending_of}
use Rattle.run_codes.specs.Codes.{Point}
use Rattle.slot_heap.specs.Heaps.{Cell, Heap}
use Rattle.handled_runs.specs.Slots.{Slots}
use Rattle.handled_steps.specs.States.{Outcome, Ends, Turn, counted, given_up, halted}
use Rattle.made_cells.specs.Since.{Since, cells_to}
use Rattle.made_cells.proofs.Freed.{left_to, live_since}
use Rattle.slot_memory.specs.Cells.{Cells}
use Rattle.slot_memory.specs.Memory.{Ghosts}
use Rattle.slot_memory.specs.Given.{AreLive, CanGive, IsGivenUp}
use Rattle.slot_runs.specs.Turns.{Setting}
use Rattle.slot_turns.specs.declared.halt.Halt.{Halt}
use Rattle.slot_turns.specs.declared.overs.Over.{Over}
use Rattle.slot_turns.specs.Betweens.{Between}
use Rattle.slot_turns.specs.Steps.{turn_at, DoneAt, IsEnded, Halts}
use Rattle.slot_turns.specs.Overs.{EndsBy, IsCounted, IsOver}

-- The main procedure ends.
pub ended_over : {R : Type 0} (Means : R → Heap → Type 0) (May : Outcome → Type 0) (new : Between R) (over : Over) → IsEnded Means May new
    → over.ending ≡ ending.Normal → over.made ≡ new.kept.heap.made → over.freed ≡ new.kept.heap.freed → IsOver Means May over new
ended_over Means May new over is normal made freed = record {
  state = is.state;
  comes = subst (λ (e : Ending). May (Ends (ending_of e) is.state)) (sym normal) is.comes;
  output = is.output;
  leaks = is.leaks;
  made = is.made ∙ sym made;
  freed = is.freed ∙ sym freed;
  means = subst (Means new.kept.heap.store) (sym is.heap) is.stands.memory.cells.means;
}

-- What is counted before a step.
pub counted_freed : (freed made were with : ℕ) → were ≡ made → with ≡ freed + (made - were) → with ≡ freed
counted_freed freed made were with same is = omega (arith, same, is)

pub not_memory : (s : Stop) (p : Pos) (end : Ending) → EndsBy s p end → s ≢ stop.Memory
not_memory (stop.Raises e) p end is = λ same. absurd (cc)
not_memory stop.Memory p end is = λ same. is

ends_by : (t : Turn) (s : Stop) (end : Ending) (m : Slots) → EndsBy s t.point.pos end
    → halted t (stop_of s) m ≡ Ends (ending_of end) (counted (record t.state { memory = given_up t.state.memory m }))
ends_by t (stop.Raises e) end m is = ap (λ (x : Ending). Ends (ending_of x) (counted (record t.state { memory = given_up t.state.memory m }))) (sym is)
ends_by t _ end m is = absurd is

-- What was made since is live.
since_live : (before s : Slots) (made : ℕ) → made ≡ before.made → Since before s → AreLive made s.heap s.numbers
since_live before s made same is h more =
    let has = live_since before s is h (subst (λ n. n < s.numbers h) same more) in
    subst (λ x. IsSomeAnd x (λ ws. ws ≡ ws)) (sym has.1) (refl {a = has.0})

-- Where the point stops, the cells that it made can be given up.
pub can_give : {R : Type 0} (Means : R → Heap → Type 0) (t : Turn) (May : Outcome → Type 0) (h : Halt) (old new : Between R) (made : ℕ) → made ≡ t.state.memory.made
    → Halts Means t May h old new → CanGive Means new.kept.heap made
can_give Means t May h old new made same is = record {
  heap = is.memory.heap;
  numbers = is.memory.numbers;
  keep = is.stands.cells;
  live = since_live t.state.memory is.memory made same is.since;
}

-- Those of before are left then.
given_means : {R : Type 0} (Means : R → Heap → Type 0) (t : Turn) (May : Outcome → Type 0) (h : Halt) (old last : Between R) (cells : Cells R) (made : ℕ) → made ≡ t.state.memory.made
    → (is : Halts Means t May h old last) → IsGivenUp Means last.kept.heap made cells → Means cells.store (given_up t.state.memory is.memory).heap
given_means Means t May h old last cells made same is given =
    let left : cells_to made is.memory.numbers is.memory.heap.cells ≡ t.state.memory.heap.cells =
    ap (λ n. cells_to n is.memory.numbers is.memory.heap.cells) same ∙ left_to t.state.memory is.memory is.since in
    subst (λ (cs : List Cell). Means cells.store (record is.memory.heap { cells = cs })) left
    (given.keep is.memory.heap is.memory.numbers is.stands.cells (since_live t.state.memory is.memory made same is.since)).means

-- The point raises, and the cells that it made are given up.
pub halts_over : {R : Type 0} (Means : R → Heap → Type 0) (c : Setting) (p : Point) (pos : Pos) (old last new : Between R) (g : Ghosts) (h : Halt) (made freed : ℕ) (over : Over) → pos ≡ p.pos
    → (h.stop ≢ stop.Memory → Halts Means (turn_at c p old g) (DoneAt c p old g) h old last) → IsGivenUp Means last.kept.heap made new.kept.heap → new.output ≡ last.output → new.leaks ≡ last.leaks
    → made ≡ old.kept.heap.made → freed ≡ old.kept.heap.freed → IsCounted h pos made freed over
    → IsOver Means (DoneAt c p old g) over new
halts_over Means c p pos old last new g h made freed over at halts given output leaks made_is freed_is counted_is =
    let t : Turn = turn_at c p old g in
    let is = halts (not_memory h.stop pos over.ending counted_is.ending) in
    let end : EndsBy h.stop p.pos over.ending = subst (λ x. EndsBy h.stop x over.ending) at counted_is.ending in
    let more : is.memory.made - old.kept.heap.made ≡ h.made - made = ap (λ n. n - old.kept.heap.made) is.made ∙ ap (λ n. h.made - n) (sym made_is) in
    record {
      state = counted (record t.state { memory = given_up t.state.memory is.memory });
      comes = subst (DoneAt c p old g) (ends_by t h.stop over.ending is.memory end) is.comes;
      output = sym (output ∙ is.output);
      leaks = sym (leaks ∙ is.leaks);
      made = is.made ∙ sym counted_is.made;
      freed = ap (λ n. old.kept.heap.freed + n) more ∙ ap (λ n. n + (h.made - made)) (sym freed_is) ∙ sym counted_is.freed;
      means = given_means Means t (DoneAt c p old g) h old last new.kept.heap made made_is is given;
    }
