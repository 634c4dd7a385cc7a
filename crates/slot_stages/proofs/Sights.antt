-- What a step sees of what is kept: the values that its point takes, and the memory that it is evaluated by.
use Rattle.std.proofs.Common.{◌≡◌, ℕ, true, ◌&&◌, ◌==◌, List, [], ◌∷◌, length, drop, refl, sym, ◌∙◌, ap, arith}
use Rattle.std.specs.Cmp.Lexicographic.{pointwise}
use Rattle.type_definitions.specs.Types.{Table}
use Rattle.run_codes.specs.Codes.{Point}
use Rattle.run_codes.specs.Programs.{Program}
use Rattle.handled_steps.specs.States.{start, are_taken}
use Rattle.slot_memory.specs.Memory.{slots}
use Rattle.slot_frames.specs.Frames.{word_at, AreLatest}
use Rattle.slot_frames.specs.Parts.{outside}
use Rattle.slot_frames.proofs.Nested.{runs, taken_types, taken_words}
use Rattle.slot_stages.specs.Stages.{Stage, state_of, IsStage, running, turn_of}

same_number : (n : ℕ) → (n == n) ≡ true
same_number n = grind arith

same_types : (ts : List ℕ) → pointwise (λ a b. a == b) ts ts ≡ true
same_types [] = refl
same_types (t ∷ ts) = ap (λ b. b && pointwise (λ a b. a == b) ts ts) (same_number t) ∙ same_types ts

-- The frame that runs stands first.
pub frames_are : {R : Type 0} (r : Stage R) → (state_of r).frames ≡ running r ∷ outside r.stacked r.kept.waits
frames_are r = runs r.stacked r.kept.waits

-- The values that the point takes are there.
pub are_there : {R : Type 0} (table : Table) (program : Program) (p : Point) (r : Stage R) (k : ℕ) → AreLatest r.stacked p.takes k
    → are_taken (turn_of table program p r) ≡ true
are_there table program p r k is = ap (pointwise (λ a b. a == b) p.takes) (taken_types r.stacked r.kept.waits p.takes k is) ∙ same_types p.takes

-- The memory that the point is evaluated by is that of the run, with the words of these values.
pub start_is : {R : Type 0} (table : Table) (program : Program) (p : Point) (r : Stage R) (k : ℕ) → IsStage r → AreLatest r.stacked p.takes k
    → start (turn_of table program p r) ≡ slots (record r.kept { taken = word_at r.stacked.waits k (length r.kept.waits) }) r.ghosts
start_is table program p r k is latest =
    ap (λ ws. record (slots r.kept r.ghosts) { base = r.stacked.frame.base; waits = ws; moves = [] }) (taken_words r.stacked r.kept.waits p.takes k is.stacked latest)
    ∙ ap (λ n. record (slots r.kept r.ghosts) { base = n; waits = drop (word_at r.stacked.waits k (length r.kept.waits)) r.kept.waits; moves = [] }) (sym is.base)
    ∙ ap (λ ms. record (slots r.kept r.ghosts) { waits = drop (word_at r.stacked.waits k (length r.kept.waits)) r.kept.waits; moves = ms }) (sym is.settled)
