-- What only sees, of a program: nothing is changed through names that are rooted in it.
use Rattle.std.specs.Prelude.{ℕ, zero, suc, Bool, false, ◌&&◌, ◌||◌, ◌==◌, List, flat_map}
use Rattle.std.specs.List.{list_any}
use Rattle.machine.specs.place_names.declared.act.Act.{Act}
use Rattle.machine.specs.place_names.declared.act.Act.TheVariants.{Borrow}
use Rattle.machine.specs.flow_paths.Objects.{Typing, is_borrower}
use Rattle.machine.specs.flow_paths.Laid.{FlowProgram, flow_typing}
use Rattle.machine.specs.flow_paths.Views.{sub_acts}
use Rattle.soundness.specs.ViewedSoundness.Holds.{sees_only}

-- An object is declared as a borrower of what is as asked.
abbrev pub borrows_from : (ℕ → Bool) → ℕ → Act → Bool
borrows_from test x (Borrow h m) = h == x && test m.root
borrows_from test x _ = false

-- Observers and formals that nothing is changed through; and borrowers of these, by so many steps.
unfoldable pub sees_within : ℕ → Typing → List Act → ℕ → Bool
sees_within zero s acts x = sees_only s x
sees_within (suc steps) s acts x = sees_only s x || (is_borrower s x && list_any (borrows_from (sees_within steps s acts) x) acts)

abbrev pub program_acts : FlowProgram → List Act
program_acts program = flat_map sub_acts program.subs

-- A borrower has a greater number than what it is declared from, so its number of steps is enough.
unfoldable pub sees_in : FlowProgram → ℕ → Bool
sees_in program x = sees_within x (flow_typing program) (program_acts program) x
