-- What is kept before the first step.
use Rattle.std.proofs.Common.{◌≡◌, ℕ, true, false, List, [], ◌∷◌, length, sym, ◌∙◌, ap, Option, Some, arith}
use Rattle.type_definitions.specs.Types.{Table}
use Rattle.run_codes.specs.Codes.{Sub}
use Rattle.run_codes.specs.Programs.{Program}
use Rattle.run_codes.specs.Points.{template, sub_at}
use Rattle.handled_runs.specs.Slots.{Slots}
use Rattle.handled_steps.specs.States.{State, with_frame as with_template}
use Rattle.handled_steps.specs.Runs.{no_memory, state_at_start}
use Rattle.slot_memory.specs.Memory.{Kept, Ghosts, slots}
use Rattle.slot_frames.specs.declared.rows.Frame.{Frame}
use Rattle.slot_runs.specs.Pasts.{plain_memory}
use Rattle.slot_stages.specs.Stages.{Stage, state_of, IsStage}

-- Frames in which no value waits, and nothing was told.
abbrev pub first_stage : {R : Type 0} → Kept R → Ghosts → Frame → List Frame → Stage R
first_stage m g f outer = record { kept = m; ghosts = g; stacked = record { frame = f; outer = outer; waits = []; returns = [] }; output = []; leaks = [] }

abbrev pub first_frame : ℕ → Sub → Frame
first_frame base sub = record { base = base; next = sub.first; words = sub.words; waits = 0; returns = 0 }

-- The frame that runs is that of the memory.
pub first_is : {R : Type 0} (m : Kept R) (g : Ghosts) (base : ℕ) (sub : Sub) → length m.waits ≡ 0 → m.base ≡ base → g.moves ≡ [] → IsStage (first_stage m g (first_frame base sub) [])
first_is m g base sub none same settled = record { stacked = record { laid = none; nested = (omega arith, omega arith, tt) }; base = same; settled = settled }

pub first_above : {R : Type 0} (m : Kept R) (g : Ghosts) (base : ℕ) (sub packages : Sub) → length m.waits ≡ 0 → m.base ≡ base → g.moves ≡ []
    → IsStage (first_stage m g (first_frame base sub) (first_frame 0 packages ∷ []))
first_above m g base sub packages none same settled =
    record { stacked = record { laid = none; nested = (omega arith, omega arith, (omega arith, omega arith, tt)) }; base = same; settled = settled }

abbrev with_memory : State → Slots → ℕ → State
with_memory s m read = record s { memory = m; at = read }

-- The package objects are declared first, in their frame.
pub starts_packages : {R : Type 0} (table : Table) (program : Program) (m : Kept R) (g : Ghosts) → m.read ≡ 0
    → plain_memory (slots m g) ≡ plain_memory (with_template table (sub_at program 0) no_memory)
    → state_of (first_stage m g (first_frame 0 (sub_at program 0)) []) ≡ state_at_start table program true
starts_packages table program m g read memory =
    ap (λ n. with_memory (state_at_start table program true) (plain_memory (slots m g)) n) read
    ∙ ap (λ x. with_memory (state_at_start table program true) x 0) memory

-- Without any, the main procedure begins at once, above their frame.
pub starts_main : {R : Type 0} (table : Table) (program : Program) (main : ℕ) (m : Kept R) (g : Ghosts) → program.main ≡ Some main → m.read ≡ 0
    → plain_memory (slots m g) ≡ plain_memory (with_template table (sub_at program main) (with_template table (sub_at program 0) no_memory))
    → state_of (first_stage m g (first_frame (length (template table (sub_at program 0))) (sub_at program main)) (first_frame 0 (sub_at program 0) ∷ []))
    ≡ state_at_start table program false
starts_main table program main m g has read memory =
    let with_main : Option ℕ → State = λ o. state_at_start table (record program { main = o }) false in
    ap (λ n. with_memory (with_main (Some main)) (plain_memory (slots m g)) n) read
    ∙ ap (λ x. with_memory (with_main (Some main)) x 0) memory
    ∙ ap with_main (sym has)
