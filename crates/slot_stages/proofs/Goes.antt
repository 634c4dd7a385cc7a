-- What is kept where a step goes on.
use Rattle.std.proofs.Common.{◌≡◌, ℕ, List, [], ◌∷◌, length, take, drop, refl, sym, ◌∙◌, ap, subst, Some, ℤ}
use Rattle.type_definitions.specs.Types.{Table}
use Rattle.run_codes.specs.Codes.{Point}
use Rattle.run_codes.specs.Programs.{Program}
use Rattle.run_codes.specs.Points.{Frame}
use Rattle.handled_steps.specs.States.{State, waiting, after}
use Rattle.slot_memory.specs.Memory.{Kept, Ghosts, slots}
use Rattle.slot_frames.specs.Stacks.{Stacked}
use Rattle.slot_frames.specs.Frames.{word_at, frames_of, IsStacked, AreLatest}
use Rattle.slot_frames.specs.Parts.{own, outside}
use Rattle.slot_frames.proofs.Nested.{taken_gone}
use Rattle.slot_runs.specs.Turns.{bare}
use Rattle.slot_stages.specs.Stages.{Stage, state_of, IsStage, running, turn_of, without, at_point}

-- Without the values that the point takes.
pub cut_is : {R : Type 0} (r : Stage R) (types : List ℕ) (k : ℕ) (m : Kept R) (g : Ghosts) → IsStage r → AreLatest r.stacked types k → m.waits ≡ r.kept.waits → m.base ≡ r.kept.base
    → g.moves ≡ [] → IsStage (without r k m g)
cut_is r types k m g is latest waits base settled = record {
  stacked = subst (λ zs. IsStacked (record r.stacked { waits = take k r.stacked.waits }) (take (word_at r.stacked.waits k (length zs)) zs)) (sym waits) (taken_gone r.stacked r.kept.waits types k is.stacked latest).1;
  base = base ∙ is.base;
  settled = settled;
}

pub cut_runs : {R : Type 0} (r : Stage R) (types : List ℕ) (k : ℕ) (m : Kept R) (g : Ghosts) → IsStage r → AreLatest r.stacked types k → m.waits ≡ r.kept.waits
    → frames_of (without r k m g).stacked (without r k m g).kept.waits ≡ record (running r) { waits = drop (length types) (own r.stacked r.kept.waits) } ∷ outside r.stacked r.kept.waits
cut_runs r types k m g is latest waits =
    ap (λ zs. frames_of (record r.stacked { waits = take k r.stacked.waits }) (take (word_at r.stacked.waits k (length zs)) zs)) waits
    ∙ (taken_gone r.stacked r.kept.waits types k is.stacked latest).0

-- The first frame goes on at a point.
abbrev pub at_next : ℕ → List Frame → List Frame
at_next n [] = []
at_next n (f ∷ fs) = record f { next = n } ∷ fs

pub next_is : (s : Stacked) (zs : List ℤ) (n : ℕ) → at_next n (frames_of s zs) ≡ frames_of (record s { frame = record s.frame { next = n } }) zs
next_is s zs n = refl

-- The step goes on at a point, with another memory.
pub goes_on : {R : Type 0} (table : Table) (program : Program) (p : Point) (r : Stage R) (k n : ℕ) (m : Kept R) (g : Ghosts) → IsStage r → AreLatest r.stacked p.takes k
    → m.waits ≡ r.kept.waits → m.read ≡ r.kept.read
    → bare (after (turn_of table program p r) (waiting (turn_of table program p r)) (slots m g) (Some n)) ≡ state_of (at_point (without r k m g) n)
goes_on table program p r k n m g is latest waits read =
    let cut = without r k m g in
    let front : (f : Frame) → State =
    λ f. record (bare (after (turn_of table program p r) (waiting (turn_of table program p r)) (slots m g) (Some n))) { frames = f ∷ outside r.stacked r.kept.waits; at = m.read } in
    ap (λ at. record (bare (after (turn_of table program p r) (waiting (turn_of table program p r)) (slots m g) (Some n))) { at = at }) (sym read)
    ∙ ap (λ fs. record (front (running r)) { frames = fs })
    (ap (at_next n) (sym (cut_runs r p.takes k m g is latest waits)) ∙ next_is cut.stacked cut.kept.waits n)

-- The frame that runs lies where it lay.
pub at_is : {R : Type 0} (r : Stage R) (n : ℕ) → IsStage r → IsStage (at_point r n)
at_is r n is = record { stacked = record { laid = is.stacked.laid; nested = is.stacked.nested }; base = is.base; settled = is.settled }
