-- The main procedure begins.
use Rattle.std.specs.Prelude.{◌≡◌, ℕ, length, Some}
use Rattle.type_definitions.specs.Types.{Table}
use Rattle.run_codes.specs.Programs.{Program}
use Rattle.run_codes.specs.Points.{sub_at}
use Rattle.slot_memory.specs.Memory.{Kept}
use Rattle.slot_frames.specs.Stacks.{Stacked}
use Rattle.slot_stages.specs.Leads.{with_template, with_main}

-- Its frame comes above those that are there, and runs.
pub record MainBegins {R : Type 0} (table : Table) (program : Program) (m : Kept R) (s : Stacked) (q : Kept R) (t : Stacked) : Type 0 where
  pub main : ℕ
  pub has : program.main ≡ Some main
  pub memory : q ≡ with_template table (sub_at program main) m
  pub frames : t ≡ with_main (sub_at program main) s (length m.stack)
