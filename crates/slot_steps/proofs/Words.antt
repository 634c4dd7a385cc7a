-- The step of a point that stores one word at most.
use Rattle.std.proofs.Common.{◌≡◌, ◌≢◌, ℕ, true, false, refl, sym, ap, subst, ◌∙◌, Ok, Err}
use Rattle.type_definitions.specs.Types.{Table}
use Rattle.slot_heap.specs.Heaps.{Heap}
use Rattle.code_rows.specs.declared.point.Point.{Point as PointRow}
use Rattle.code_rows.specs.declared.codes.Codes.{Codes}
use Rattle.code_rows.specs.declared.stop.Stop.{Stop}
use Rattle.code_rows.specs.declared.stop.Stop.TheVariants as stop
use Rattle.code_rows.specs.Points.{next_of, point_of}
use Rattle.run_codes.specs.Codes.{Point}
use Rattle.run_codes.specs.Flat.{Got, Given, Stops, Broken, is_broken}
use Rattle.handled_runs.specs.Slots.{Slots}
use Rattle.handled_steps.specs.States.{Outcome, Turn, on_got}
use Rattle.slot_memory.specs.Memory.{Kept, Ghosts, Shows, slots}
use Rattle.slot_runs.specs.Turns.{Setting, NeverFails, is_failing}
use Rattle.slot_turns.specs.Betweens.{StandAt}
use Rattle.slot_turns.specs.Steps.{turn_at, DoneAt}
use Rattle.slot_turns.proofs.Made.{none_here}
use Rattle.slot_points.specs.Changing.{With, Whole, Done}
use Rattle.slot_goings.specs.declared.groups.Group.TheVariants as group
use Rattle.slot_goings.specs.Groups.{group_of}
use Rattle.slot_goings.specs.Changes.{words_changed}
use Rattle.slot_goings.proofs.WordsCome.{led_on, words_come}
use Rattle.slot_goings.proofs.Moves.{words_kept}
use Rattle.slot_tells.specs.slot_parts.declared.parts.Parts.{Parts}
use Rattle.slot_tells.specs.slot_parts.Stages.{between_of, setting_of, IsAt}
use Rattle.slot_tells.specs.slot_parts.Ways.{MayGo, MayHalt}
use Rattle.slot_tells.proofs.slot_parts.Sights.{sound_at, start_now}

-- What doesn't fail isn't broken.
pub got_fine : {A : Type 0} (t : Turn) (s : Slots) (g : Got A) (f : A → Outcome) → is_failing (on_got t s g f) ≡ false → is_broken g ≡ false
got_fine t s (Given a) f fine = refl
got_fine t s (Stops x) f fine = refl
got_fine t s Broken f fine = absurd (let never : true ≡ false = fine in cc)

module _ {R : Type 0} (Means : R → Heap → Type 0) (codes : Codes) (table : Table) (point : PointRow) (k : ℕ) (old : Parts R) (at : IsAt Means codes table point k old)
    (is : group_of point.does ≡ group.Words) where
  abbrev c : Setting
  c = setting_of codes table old.memory.input

  abbrev p : Point
  p = point_of codes point

  abbrev changed : Slots → Got (With ℕ)
  changed s = words_changed codes.rows point.does s

  module _ (g : Ghosts) (stands : StandAt Means (between_of old) g) where
    abbrev t : Turn
    t = turn_at c p (between_of old) g

    abbrev May : Outcome → Type 0
    May = DoneAt c p (between_of old) g

    comes : May (on_got t (slots old.memory g) (changed (slots old.memory g)) (led_on t))
    comes =
        subst (λ s. May (on_got t s (changed s) (led_on t))) (start_now Means codes table point k old at g stands)
        (words_come t codes.rows point.does (sound_at Means codes table point k old at) is)

    fine_at : NeverFails May → is_broken (changed (slots old.memory g)) ≡ false
    fine_at fine =
        got_fine t (slots old.memory g) (changed (slots old.memory g)) (led_on t) (fine (on_got t (slots old.memory g) (changed (slots old.memory g)) (led_on t)) comes)

    pub words_go : NeverFails May → (n : ℕ) (m : Kept R) → Done Means old.memory changed (Ok n) m → MayGo Means t May m (next_of n)
    words_go fine n m done =
        let d = done.done g stands.memory (fine_at fine) in
        record {
          after = d.after;
          shows = d.shows;
          settled = words_kept (slots old.memory g) codes.rows point.does (record { memory = d.after; answer = n }) d.is ∙ stands.settled;
          comes = subst (λ x. May (on_got t (slots old.memory g) x (led_on t))) d.is comes;
        }

    pub words_halt : NeverFails May → (x : Stop) (made : ℕ) (m : Kept R) → Done {A = ℕ} Means old.memory changed (Err x) m → made ≡ m.heap.made → x ≢ stop.Memory
        → MayHalt Means t May m (record { stop = x; made = made })
    words_halt fine x made m done counted other =
        let d = done.done g stands.memory (fine_at fine) other in
        record {
          after = slots old.memory g;
          comes = subst (λ x. May (on_got t (slots old.memory g) x (led_on t))) d.stops comes;
          made = ap (λ (q : Kept R). q.heap.made) (sym d.same) ∙ sym counted;
          shows = subst (λ q. Shows Means q (slots old.memory g)) (sym d.same) (stands.memory, refl);
          since = none_here Means c p (between_of old) g stands;
        }

  -- What it asks for.
  pub words_whole : Whole Means old.memory changed
  words_whole = record {
    ghosts = at.can.ghosts;
    stands = at.can.stands.memory;
    whole = fine_at at.can.ghosts at.can.stands at.can.fine;
  }
