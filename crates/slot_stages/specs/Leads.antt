-- Where a run goes on after a point.
use Rattle.std.specs.Prelude.{◌≡◌, ℕ, [], ◌∷◌, ◌++◌, length, take, Option, Some, None}
use Rattle.type_definitions.specs.Types.{Table}
use Rattle.run_codes.specs.Codes.{Sub}
use Rattle.run_codes.specs.Points.{sub_at, template}
use Rattle.run_codes.specs.Programs.{Program}
use Rattle.slot_memory.specs.Memory.{Kept}
use Rattle.slot_frames.specs.Stacks.{Stacked}
use Rattle.slot_frames.specs.Frames.{word_at}

-- The values that wait from the number k on are gone.
abbrev pub without_taken : {R : Type 0} → Stacked → ℕ → Kept R → Kept R
without_taken s k m =
    let first : ℕ = word_at s.waits k (length m.waits) in
    record m { waits = take first m.waits; taken = first }

-- The frame that runs goes on at a point.
abbrev pub at_next : Stacked → ℕ → ℕ → Stacked
at_next s k n = record s { waits = take k s.waits; frame = record s.frame { next = n } }

-- The frame of a subprogram begins, and runs.
abbrev pub with_template : {R : Type 0} → Table → Sub → Kept R → Kept R
with_template table sub m = record m { stack = m.stack ++ template table sub; base = length m.stack }

abbrev pub with_main : Sub → Stacked → ℕ → Stacked
with_main sub s base = record s {
  frame = record { base = base; next = sub.first; words = sub.words; waits = length s.waits; returns = length s.returns };
  outer = s.outer ++ s.frame ∷ [];
}

-- The main procedure begins, where no frame waits.
pub record BeginsMain {R : Type 0} (table : Table) (program : Program) (k : ℕ) (m : Kept R) (s : Stacked) (q : Kept R) (t : Stacked) : Type 0 where
  pub main : ℕ
  pub has : program.main ≡ Some main
  pub alone : s.outer ≡ []
  pub memory : q ≡ with_template table (sub_at program main) (without_taken s k m)
  pub frames : t ≡ with_main (sub_at program main) (record s { waits = take k s.waits }) (length m.stack)

-- The run goes on at the next point; where none follows, the main procedure begins.
abbrev pub LeadsTo : {R : Type 0} → Table → Program → ℕ → Option ℕ → Kept R → Stacked → Kept R → Stacked → Type 0
LeadsTo table program k (Some n) m s q t = (q ≡ without_taken s k m) × (t ≡ at_next s k n)
LeadsTo table program k None m s q t = BeginsMain table program k m s q t
