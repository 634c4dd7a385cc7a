-- What is kept where a frame is entered or left.
use Rattle.std.proofs.Common.{◌≡◌, List, [], ◌∷◌, ◌++◌, map, length, take, refl, sym, ◌∙◌, ap, subst}
use Rattle.slot_memory.specs.Memory.{Kept, Ghosts}
use Rattle.slot_frames.specs.declared.rows.Frame.{Frame}
use Rattle.slot_frames.specs.declared.rows.Return.{Return}
use Rattle.slot_frames.specs.Stacks.{Stacked}
use Rattle.slot_frames.specs.Frames.{word_at, frames_of, return_of, IsStacked}
use Rattle.slot_frames.specs.Parts.{outside}
use Rattle.slot_frames.proofs.Nested.{entered, left}
use Rattle.slot_stages.specs.Stages.{Stage, state_of, IsStage, with_frame, without_frame}

-- Another frame runs.
pub enters : {R : Type 0} (r : Stage R) (f : Frame) (returns : List Return) → IsStage r → f.waits ≡ length r.stacked.waits → f.returns ≡ length r.stacked.returns
    → ((state_of (with_frame r f returns)).frames
    ≡ record { base = f.base; next = f.next; words = f.words; waits = []; returns = map return_of returns } ∷ (state_of r).frames)
    × IsStage (with_frame r f returns)
enters r f returns is waits count =
    let e = entered r.stacked r.kept.waits f returns is.stacked waits count in
    (e.0, record { stacked = e.1; base = refl; settled = is.settled })

abbrev rest : {R : Type 0} → Stage R → Frame → List Frame → Stacked
rest r f outer = record { frame = f; outer = outer; waits = take r.stacked.frame.waits r.stacked.waits; returns = take r.stacked.frame.returns r.stacked.returns }

-- The frame that runs ends.
pub leaves : {R : Type 0} (r : Stage R) (f : Frame) (outer : List Frame) (m : Kept R) (g : Ghosts) → IsStage r → r.stacked.outer ≡ outer ++ f ∷ [] → m.waits ≡ r.kept.waits
    → g.moves ≡ [] → ((state_of (without_frame r f outer m g)).frames ≡ outside r.stacked r.kept.waits) × IsStage (without_frame r f outer m g)
leaves r f outer m g is all waits settled =
    let e = left r.stacked r.kept.waits f outer is.stacked all in (
      ap (λ zs. frames_of (rest r f outer) (take (word_at r.stacked.waits r.stacked.frame.waits (length zs)) zs)) waits ∙ e.0,
      record {
        stacked = subst (λ zs. IsStacked (rest r f outer) (take (word_at r.stacked.waits r.stacked.frame.waits (length zs)) zs)) (sym waits) e.1;
        base = refl;
        settled = settled;
      },
    )
