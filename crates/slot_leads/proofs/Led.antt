-- What a step comes to where the run goes on.
use Rattle.std.proofs.Common.{◌≡◌, ◌≤◌, ℕ, List, [], ◌++◌, length, sym, ap, subst, ◌∙◌, Option, Some, None}
use Rattle.type_definitions.specs.Types.{Table}
use Rattle.machine.specs.States.{Leak}
use Rattle.run_codes.specs.Codes.{Point}
use Rattle.run_codes.specs.Programs.{Program}
use Rattle.slot_heap.specs.Heaps.{Heap}
use Rattle.handled_steps.specs.States.{Goes, after, waiting, leaking}
use Rattle.slot_memory.specs.Memory.{Kept, Ghosts, Stands, Elsewhere, elsewhere, slots}
use Rattle.slot_frames.specs.Stacks.{Stacked}
use Rattle.slot_frames.specs.Frames.{AreLatest}
use Rattle.slot_runs.specs.Turns.{Setting}
use Rattle.slot_stages.specs.Stages.{state_of, IsStage}
use Rattle.slot_stages.specs.Leads.{LeadsTo}
use Rattle.slot_stages.proofs.Leads.{IsLed, led_stage, led_on, leaking_on}
use Rattle.slot_turns.specs.Betweens.{Between, stage_of, IsBetween, StandAt}
use Rattle.slot_turns.specs.Steps.{turn_at, DoneAt, GoesOn}

-- The cells stay where the run goes on.
pub led_stands : {R : Type 0} (Means : R → Heap → Type 0) (table : Table) (program : Program) (k : ℕ) (m : Kept R) (s : Stacked) (g : Ghosts) → Stands Means m g
    → (next : Option ℕ) (q : Kept R) (t : Stacked) → LeadsTo table program k next m s q t → Stands Means q g
led_stands Means table program k m s g is (Some n) q t to = subst (λ x. Stands Means x g) (sym to.0) (record { cells = is.cells; moves = is.moves })
led_stands Means table program k m s g is None q t to = subst (λ x. Stands Means x g) (sym to.memory) (record { cells = is.cells; moves = is.moves })

-- The input is read as far.
led_read : {R : Type 0} (table : Table) (program : Program) (k : ℕ) (m : Kept R) (s : Stacked) (next : Option ℕ) (q : Kept R) (t : Stacked) → LeadsTo table program k next m s q t
    → q.read ≡ m.read
led_read {R} table program k m s (Some n) q t to = ap (λ (x : Kept R). x.read) to.0
led_read {R} table program k m s None q t to = ap (λ (x : Kept R). x.read) to.memory

led_input : {R : Type 0} (table : Table) (program : Program) (k : ℕ) (m : Kept R) (s : Stacked) (next : Option ℕ) (q : Kept R) (t : Stacked) → LeadsTo table program k next m s q t
    → q.input ≡ m.input
led_input {R} table program k m s (Some n) q t to = ap (λ (x : Kept R). x.input) to.0
led_input {R} table program k m s None q t to = ap (λ (x : Kept R). x.input) to.memory

module _ {R : Type 0} (Means : R → Heap → Type 0) (c : Setting) (p : Point) (k : ℕ) (old : Between R) (was : Ghosts) (between : IsBetween old) (stood : StandAt Means old was)
    (latest : AreLatest old.stacked p.takes k) (m : Kept R) (g : Ghosts) (stands : Stands Means m g) (settled : g.moves ≡ []) (same : elsewhere m ≡ elsewhere old.kept)
    (next : Option ℕ) (new : Between R) (to : LeadsTo c.table c.program k next m old.stacked new.kept new.stacked) where
  led : IsLed c.table c.program p (stage_of old was) next m g new.kept new.stacked
  led =
      let is : IsStage (stage_of old was) = record { stacked = between.stacked; base = between.base; settled = stood.settled } in
      led_on c.table c.program p (stage_of old was) k m g is latest (ap (λ (e : Elsewhere). e.waits) same) (ap (λ (e : Elsewhere). e.read) same) (ap (λ (e : Elsewhere). e.base) same) settled
      next new.kept new.stacked to

  now : StandAt Means new g
  now = record { memory = led_stands Means c.table c.program k m old.stacked g stands next new.kept new.stacked to; settled = settled }

  -- What is kept.
  pub led_bytes : new.kept.input ≡ old.kept.input
  led_bytes = led_input c.table c.program k m old.stacked next new.kept new.stacked to ∙ ap (λ (e : Elsewhere). e.input) same

  pub led_between : IsBetween new
  led_between =
      let read : new.kept.read ≡ old.kept.read = led_read c.table c.program k m old.stacked next new.kept new.stacked to ∙ ap (λ (e : Elsewhere). e.read) same in
      let far : old.kept.read ≤ length new.kept.input = subst (λ (is : List ℕ). old.kept.read ≤ length is) (sym led_bytes) between.read in
      record { stacked = led.1.stacked; base = led.1.base; read = subst (λ n. n ≤ length new.kept.input) (sym read) far }

  -- It goes on there.
  pub led_goes : new.output ≡ old.output → new.leaks ≡ old.leaks
      → DoneAt c p old was (Goes (after (turn_at c p old was) (waiting (turn_at c p old was)) (slots m g) next)) → GoesOn Means (DoneAt c p old was) new
  led_goes output leaks done = record {
    state = after (turn_at c p old was) (waiting (turn_at c p old was)) (slots m g) next;
    comes = done;
    ghosts = g;
    stands = now;
    same = led.0
        ∙ ap (λ os. state_of (record (led_stage (stage_of old was) new.kept g new.stacked) { output = os })) (sym output)
        ∙ ap (λ ls. state_of (record (led_stage (stage_of old was) new.kept g new.stacked) { output = new.output; leaks = ls })) (sym leaks);
  }

  -- It goes on there with leaks.
  pub led_telling : (leaks : List Leak) → new.output ≡ old.output → new.leaks ≡ old.leaks ++ leaks
      → DoneAt c p old was (Goes (leaking leaks (after (turn_at c p old was) (waiting (turn_at c p old was)) (slots m g) next))) → GoesOn Means (DoneAt c p old was) new
  led_telling leaks output told done =
      let t = after (turn_at c p old was) (waiting (turn_at c p old was)) (slots m g) next in
      let r = led_stage (stage_of old was) new.kept g new.stacked in
      record {
        state = leaking leaks t;
        comes = done;
        ghosts = g;
        stands = now;
        same = leaking_on r t leaks led.0
            ∙ ap (λ os. state_of (record r { output = os; leaks = old.leaks ++ leaks })) (sym output)
            ∙ ap (λ ls. state_of (record r { output = new.output; leaks = ls })) (sym told);
      }
