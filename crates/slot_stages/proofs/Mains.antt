-- Where the main procedure begins, and where it ends.
use Rattle.std.proofs.Common.{◌≡◌, ℕ, List, [], ◌∷◌, ◌-◌, map, length, take, drop, refl, sym, ◌∙◌, ap, Option, Some, None}
use Rattle.std.specs.Prelude.{reverse}
use Rattle.type_definitions.specs.Types.{Table}
use Rattle.machine.specs.States.{Normal}
use Rattle.run_codes.specs.Codes.{Point, Sub}
use Rattle.run_codes.specs.Programs.{Program}
use Rattle.run_codes.specs.Points.{sub_at}
use Rattle.run_codes.specs.Points as points
use Rattle.handled_runs.specs.Slots.{Slots}
use Rattle.handled_steps.specs.States.{State, Outcome, Ends, start, counted, after, waiting, with_frame as with_template, frame_of}
use Rattle.handled_steps.specs.Steps.{copied_back, returned, finish}
use Rattle.slot_memory.specs.Memory.{Kept, Ghosts, slots}
use Rattle.slot_frames.specs.declared.rows.Frame.{Frame}
use Rattle.slot_frames.specs.Frames.{return_of, frames_in, AreLatest}
use Rattle.slot_frames.specs.Parts.{all_held, own_returns, outside}
use Rattle.slot_runs.specs.Pasts.{plain_memory}
use Rattle.slot_runs.specs.Turns.{bare}
use Rattle.slot_stages.specs.Stages.{Stage, state_of, IsStage, running, turn_of, without, with_frame, without_frame}
use Rattle.slot_stages.proofs.Goes.{cut_is, cut_runs}
use Rattle.slot_stages.proofs.Frames.{enters, leaves}
use Rattle.slot_stages.proofs.Calls.{cut_kept, cut, finish_is}

-- ---- the beginning

-- No frame waits.
alone : {R : Type 0} (r : Stage R) → r.stacked.outer ≡ [] → outside r.stacked r.kept.waits ≡ []
unfolding outside
alone r none =
    let hs = all_held r.stacked r.kept.waits in
    ap (λ fs. frames_in (drop (length hs - r.stacked.frame.waits) hs) (take r.stacked.frame.returns (map return_of r.stacked.returns)) (reverse fs)) none

-- The frame of the main procedure, above the memory m, with another memory, q, that has it.
abbrev pub main_frame : {R : Type 0} → Stage R → ℕ → Kept R → Sub → Frame
main_frame r k m sub =
    record { base = length m.stack; next = sub.first; words = sub.words; waits = length (take k r.stacked.waits); returns = length r.stacked.returns }

abbrev pub main_stage : {R : Type 0} → Stage R → ℕ → Kept R → Kept R → Ghosts → Sub → Stage R
main_stage r k m q g sub = with_frame (without r k q g) (main_frame r k m sub) []

abbrev at : {R : Type 0} → Stage R → Slots → List points.Frame → ℕ → State
at r m fs read = record { memory = plain_memory m; frames = fs; at = read; output = r.output; leaks = r.leaks; steps = 0 }

-- It begins where no point follows and no frame waits.
pub main_on : {R : Type 0} (table : Table) (program : Program) (p : Point) (r : Stage R) (k main : ℕ) (m q : Kept R) (h g : Ghosts) → IsStage r → AreLatest r.stacked p.takes k
    → r.stacked.outer ≡ [] → program.main ≡ Some main → q.waits ≡ r.kept.waits → q.read ≡ r.kept.read → q.base ≡ r.kept.base → g.moves ≡ []
    → plain_memory (slots q g) ≡ plain_memory (with_template table (sub_at program main) (slots m h))
    → bare (after (turn_of table program p r) (waiting (turn_of table program p r)) (slots m h) None) ≡ state_of (main_stage r k m q g (sub_at program main))
main_on table program p r k main m q h g is latest none has waits read base settled grown =
    let t = turn_of table program p r in
    let old : points.Frame = record (running r) { waits = waiting t } in
    let new : points.Frame = frame_of (slots m h) (sub_at program main) [] in
    let led : List points.Frame → Option ℕ → State = λ fs n. bare (after (record t { outer = fs; program = record program { main = n } }) (waiting t) (slots m h) None) in
    let with_memory : Slots → State = λ x. record (at r (slots m h) (new ∷ old ∷ []) r.kept.read) { memory = x } in
    ap (λ fs. led fs program.main) (alone r none)
    ∙ ap (led []) has
    ∙ ap with_memory (sym grown)
    ∙ ap (at r (slots q g) (new ∷ old ∷ [])) (sym read)
    ∙ ap (λ fs. at r (slots q g) (new ∷ fs) q.read) (sym (cut_runs r p.takes k q g is latest waits ∙ ap (λ fs. old ∷ fs) (alone r none)))
    ∙ ap (λ fs. at r (slots q g) fs q.read) (sym (enters (without r k q g) (main_frame r k m (sub_at program main)) [] (cut_is r p.takes k q g is latest waits base settled) refl refl).0)

-- ---- the end

-- The state that the end of the main procedure leaves.
abbrev pub ended : {R : Type 0} → Stage R → Frame → Kept R → Ghosts → State
ended r f q h =
    counted (record (state_of r) { memory = cut r.stacked.frame.base (slots q h); frames = (state_of (without_frame r f [] (cut_kept r.stacked.frame.base q) h)).frames })

-- One frame waits: the run ends.
pub finishes_main : {R : Type 0} (table : Table) (program : Program) (p : Point) (r : Stage R) (q : Kept R) (h : Ghosts) (f : Frame) → IsStage r
    → r.stacked.outer ≡ f ∷ [] → q.waits ≡ r.kept.waits → h.moves ≡ []
    → ((k : Slots → Outcome) → copied_back (turn_of table program p r) (own_returns r.stacked) (start (turn_of table program p r)) k ≡ k (slots q h))
    → finish (turn_of table program p r) ≡ Ends Normal (ended r f q h)
finishes_main table program p r q h f is outer waits settled copied =
    finish_is table program p r (slots q h) copied
    ∙ ap (λ fs. returned (turn_of table program p r) fs (cut r.stacked.frame.base (slots q h))) (sym (leaves r f [] (cut_kept r.stacked.frame.base q) h is outer waits settled).0)
