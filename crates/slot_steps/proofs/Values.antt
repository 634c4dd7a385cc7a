-- The step of a point that may have leak checks.
use Rattle.std.proofs.Common.{◌≡◌, ◌≢◌, ◌≤◌, ◌++◌, ℕ, false, List, length, sym, ap, subst, ◌∙◌, Result, Ok, Err}
use Rattle.std.specs.Prelude.{OnOk, IfErr}
use Rattle.type_definitions.specs.Types.{Table}
use Rattle.machine.specs.States.{Leak}
use Rattle.slot_heap.specs.Heaps.{Heap}
use Rattle.code_rows.specs.declared.point.Point.{Point as PointRow}
use Rattle.code_rows.specs.declared.codes.Codes.{Codes}
use Rattle.code_rows.specs.declared.stop.Stop.{Stop}
use Rattle.code_rows.specs.declared.stop.Stop.TheVariants as stop
use Rattle.code_rows.specs.Stops.{stop_of}
use Rattle.code_rows.specs.Points.{next_of, point_of, program_of}
use Rattle.run_codes.specs.Codes.{Point}
use Rattle.run_results.specs.Results.{leaks_of}
use Rattle.handled_runs.specs.Slots.{Slots}
use Rattle.handled_steps.specs.States.{Outcome, Turn}
use Rattle.handled_steps.specs.States as states
use Rattle.slot_memory.specs.Memory.{Kept, Ghosts, slots, elsewhere}
use Rattle.slot_frames.specs.Stacks.{Stacked}
use Rattle.slot_frames.specs.Frames.{word_at}
use Rattle.slot_runs.specs.Turns.{Setting, NeverFails, is_failing}
use Rattle.slot_stages.specs.Leads.{LeadsTo}
use Rattle.slot_entries.specs.Entries.{stacked_words}
use Rattle.slot_turns.specs.declared.halt.Halt.{Halt}
use Rattle.slot_turns.specs.Betweens.{StandAt}
use Rattle.slot_turns.specs.Steps.{turn_at, DoneAt}
use Rattle.slot_turns.proofs.Made.{since_here, none_yet}
use Rattle.slot_goings.specs.declared.groups.Group.TheVariants as group
use Rattle.slot_goings.specs.Groups.{group_of}
use Rattle.slot_goings.specs.Changes.{Change, Leads, Halts, Fails, ValuesChange, CanChange, Changing}
use Rattle.slot_goings.proofs.ValuesCome.{leading, values_come}
use Rattle.slot_goings.proofs.Moves.{leads_settled, values_settled}
use Rattle.slot_tells.specs.slot_parts.declared.parts.Parts.{Parts}
use Rattle.slot_tells.specs.slot_parts.Stages.{between_of, setting_of, IsAt}
use Rattle.slot_tells.specs.slot_parts.Steps.{StepsOf, as_going}
use Rattle.slot_tells.specs.slot_parts.Goes.{IsLed}
use Rattle.slot_tells.specs.slot_parts.Ways.{MayTell, MayHalt}
use Rattle.slot_tells.proofs.slot_parts.Sights.{start_now, taken_below, below_by}
use Rattle.slot_tells.proofs.slot_parts.Leads.{leads_by, tells_by}
use Rattle.slot_steps.proofs.Changed.{change_since}
use Rattle.slot_steps.proofs.Held.{shown_made}

module _ {R : Type 0} (Means : R → Heap → Type 0) (codes : Codes) (table : Table) (point : PointRow) (k : ℕ) (old : Parts R) (at : IsAt Means codes table point k old)
    (is : group_of point.does ≡ group.Values) where
  abbrev c : Setting
  c = setting_of codes table old.memory.input

  abbrev p : Point
  p = point_of codes point

  abbrev Comes : Slots → Change → Type 0
  Comes = ValuesChange table codes.rows point.pos point.does

  module _ (g : Ghosts) (stands : StandAt Means (between_of old) g) where
    abbrev t : Turn
    t = turn_at c p (between_of old) g

    abbrev May : Outcome → Type 0
    May = DoneAt c p (between_of old) g

    comes : (r : Change) → Comes (slots old.memory g) r → May (leading t r)
    comes r there =
        values_come t codes.rows point.does r is (subst (λ s. Comes s r) (sym (start_now Means codes table point k old at g stands)) there)

    fine_at : NeverFails May → Comes (slots old.memory g) Fails → ⊥
    fine_at fine there = never (fine states.Fails (comes Fails there))
      where
        never : is_failing states.Fails ≡ false → ⊥
        never is = cc

    pub values_tell : NeverFails May → (n : ℕ) (leaks : List Leak) (m : Kept R) → Changing Means old.memory Comes (Ok n) leaks m → MayTell Means t May m (next_of n) leaks
    values_tell fine n leaks m changing =
        let d = changing.changes g stands.memory (fine_at fine) in
        record {
          after = d.after;
          shows = d.shows;
          settled =
              leads_settled d.after n leaks (values_settled table codes.rows point.pos point.does (slots old.memory g) (Leads d.after n leaks) stands.settled d.comes);
          comes = comes (Leads d.after n leaks) d.comes;
        }

    pub values_halt : NeverFails May → (x : Stop) (made : ℕ) (leaks : List Leak) (m : Kept R) → Changing Means old.memory Comes (Err x) leaks m → made ≡ m.heap.made
        → x ≢ stop.Memory → MayHalt Means t May m (record { stop = x; made = made })
    values_halt fine x made leaks m changing counted other =
        let d = changing.changes g stands.memory (fine_at fine) other in
        record {
          after = d.after;
          comes = comes (Halts (stop_of x) d.after) d.comes;
          made = shown_made Means m d.after d.shows ∙ sym counted;
          shows = d.shows;
          since =
              since_here Means c p (between_of old) g d.after
              (change_since table codes.rows point.pos (slots old.memory g) (none_yet Means c p (between_of old) g stands) point.does (stop_of x) d.after d.comes);
        }

  -- What it asks for.
  pub values_can : CanChange Means old.memory Comes
  values_can = record {
    ghosts = at.can.ghosts;
    stands = at.can.stands.memory;
    whole = fine_at at.can.ghosts at.can.stands at.can.fine;
  }

  -- ---- after it, the leaks are told and the run goes on

  pub waits_told : (mid told : Parts R) → told ≡ record mid { leaks = told.leaks } → mid.frames ≡ old.frames → elsewhere mid.memory ≡ elsewhere old.memory
      → word_at told.frames.waits k (length told.memory.waits) ≤ length told.memory.waits
  waits_told mid told rest frames same =
      let P : Parts R → Type 0 = λ q. word_at q.frames.waits k (length q.memory.waits) ≤ length q.memory.waits in
      let Q : Stacked → Type 0 = λ s. word_at s.waits k (length mid.memory.waits) ≤ length mid.memory.waits in
      subst P (sym rest) (subst Q (sym frames) (below_by old.frames k old.memory mid.memory same (taken_below Means codes table point k old at)))

  pub words_told : (mid told : Parts R) → told ≡ record mid { leaks = told.leaks } → mid.frames ≡ old.frames → mid.words ≡ old.words → told.words ≡ stacked_words told.frames
  words_told mid told rest frames words =
      let P : Parts R → Type 0 = λ q. q.words ≡ stacked_words q.frames in
      subst P (sym rest) (words ∙ (at.words ∙ ap stacked_words (sym frames)))

  pub values_steps : {U : Type 0} (next : ℕ) (mid told new : Parts R) (r : Result U Halt) → elsewhere mid.memory ≡ elsewhere old.memory → mid.frames ≡ old.frames → mid.output.items ≡ old.output.items
      → mid.leaks.items ≡ old.leaks.items → Changing Means old.memory Comes (Ok next) (leaks_of mid.found.items) mid.memory
      → leaks_of told.leaks.items ≡ leaks_of mid.leaks.items ++ leaks_of mid.found.items → told ≡ record mid { leaks = told.leaks }
      → OnOk r (IsLed table (program_of codes) k (next_of next) told new) → IfErr r (λ h. h.stop ≡ stop.Memory) → StepsOf Means codes table point (as_going r) old new
  values_steps next mid told new r same frames output leaks changing tells rest led memory =
      leads_by Means codes table point k old at r new (IsLed table (program_of codes) k (next_of next) told new) led memory
      (λ led.
      let P : Parts R → Type 0 = λ q. LeadsTo table (program_of codes) k (next_of next) q.memory q.frames new.memory new.frames in
      let Q : Stacked → Type 0 = λ s. LeadsTo table (program_of codes) k (next_of next) mid.memory s new.memory new.frames in
      let to = subst Q frames (subst P rest led.to) in
      tells_by Means codes table point k old at mid.memory same (next_of next) new to led.words (led.output ∙ (ap (λ (q : Parts R). q.output.items) rest ∙ output))
      (leaks_of mid.found.items) (ap leaks_of led.leaks ∙ (tells ∙ ap (λ l. leaks_of l ++ leaks_of mid.found.items) leaks))
      (λ g stands fine. values_tell g stands fine next (leaks_of mid.found.items) mid.memory changing))
