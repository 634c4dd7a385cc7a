-- What is kept where a value waits.
use Rattle.std.proofs.Common.{◌≡◌, ℕ, List, [], ◌∷◌, length, drop, refl, sym, ◌∙◌, ap, Some, ℤ}
use Rattle.type_definitions.specs.Types.{Table}
use Rattle.run_codes.specs.Codes.{Point}
use Rattle.run_codes.specs.Programs.{Program}
use Rattle.run_codes.specs.Points.{Held, Frame, given_to}
use Rattle.handled_steps.specs.States.{after}
use Rattle.slot_memory.specs.Memory.{Kept, Ghosts, slots}
use Rattle.slot_frames.specs.Frames.{frames_of, AreLatest}
use Rattle.slot_frames.specs.Parts.{own, own_returns, outside}
use Rattle.slot_frames.proofs.Nested.{runs, waits_more, held_outside}
use Rattle.slot_runs.specs.Turns.{bare}
use Rattle.slot_stages.specs.Stages.{Stage, state_of, IsStage, turn_of, without, at_point, with_wait, leaving_waits}
use Rattle.slot_stages.proofs.Goes.{cut_is, cut_runs, at_next, next_is}

-- One more value waits in the first frame.
abbrev with_first : Held → List Frame → List Frame
with_first h [] = []
with_first h (f ∷ fs) = record f { waits = h ∷ f.waits } ∷ fs

abbrev value : ℕ → List ℤ → Held
value of words = record { of = of; words = words }

wait_runs : {R : Type 0} (r : Stage R) (of : ℕ) (words : List ℤ) → IsStage r
    → frames_of (with_wait r of words).stacked (with_wait r of words).kept.waits ≡ with_first (value of words) (frames_of r.stacked r.kept.waits)
wait_runs r of words is =
    (waits_more r.stacked r.kept.waits words (record { of = of; first = length r.kept.waits }) is.stacked refl).0
    ∙ ap (with_first (value of words)) (sym (runs r.stacked r.kept.waits))

pub wait_is : {R : Type 0} (r : Stage R) (of : ℕ) (words : List ℤ) → IsStage r → IsStage (with_wait r of words)
wait_is r of words is = record {
  stacked = (waits_more r.stacked r.kept.waits words (record { of = of; first = length r.kept.waits }) is.stacked refl).1;
  base = is.base;
  settled = is.settled;
}

-- The step goes on at a point, and a value waits after those that the point left.
pub waits_on : {R : Type 0} (table : Table) (program : Program) (p : Point) (r : Stage R) (types : List ℕ) (k n of : ℕ) (words : List ℤ) (m : Kept R) (g : Ghosts)
    → IsStage r → AreLatest r.stacked types k → m.waits ≡ r.kept.waits → m.read ≡ r.kept.read → m.base ≡ r.kept.base → g.moves ≡ []
    → bare (after (turn_of table program p r) (value of words ∷ drop (length types) (own r.stacked r.kept.waits)) (slots m g) (Some n))
    ≡ state_of (at_point (with_wait (without r k m g) of words) n)
waits_on table program p r types k n of words m g is latest waits read base settled =
    ap (λ at. record (bare (after (turn_of table program p r) (value of words ∷ drop (length types) (own r.stacked r.kept.waits)) (slots m g) (Some n))) { at = at }) (sym read)
    ∙ ap (λ fs. record (state_of r) { memory = (bare (after (turn_of table program p r) [] (slots m g) (Some n))).memory; at = m.read; frames = fs })
    (ap (λ fs. at_next n (with_first (value of words) fs)) (sym (cut_runs r types k m g is latest waits))
    ∙ ap (at_next n) (sym (wait_runs (without r k m g) of words (cut_is r types k m g is latest waits base settled)))
    ∙ next_is (with_wait (without r k m g) of words).stacked (with_wait (without r k m g) of words).kept.waits n)

-- The result waits in the frame of the caller, where none waits in the one that runs.
pub held_on : {R : Type 0} (r : Stage R) (n of : ℕ) (words : List ℤ) → IsStage r → r.stacked.frame.waits ≡ length r.stacked.waits
    → (record { base = r.stacked.frame.base; next = n; words = r.stacked.frame.words; waits = []; returns = own_returns r.stacked } ∷ given_to (value of words) (outside r.stacked r.kept.waits)
    ≡ (state_of (at_point (leaving_waits (with_wait r of words)) n)).frames)
    × IsStage (leaving_waits (with_wait r of words))
held_on r n of words is none =
    let h = held_outside r.stacked r.kept.waits words (record { of = of; first = length r.kept.waits }) is.stacked refl none in
    let s = leaving_waits (with_wait r of words) in
    (ap (at_next n) (sym h.0) ∙ next_is s.stacked s.kept.waits n, record { stacked = h.1; base = is.base; settled = is.settled })
