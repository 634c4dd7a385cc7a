-- What is asked of a typed program, subprogram by subprogram, so that what its steps name has room.
use Rattle.std.specs.Prelude.{◌≡◌, ◌<◌, ◌≤◌, ℕ, true, false, List, [], ◌∷◌, length}
use Rattle.machine.specs.spark_base.Lists.{Has}
use Rattle.machine.specs.type_definitions.Types.{Table}
use Rattle.machine.specs.typed_tree.Programs.{TypedSub, TypedProgram}
use Rattle.machine.specs.flow_paths.Objects.{Typing, is_package_object}
use Rattle.machine.specs.flow_paths.Laid.{typing_of, declared_within}
use Rattle.settled_types.specs.OrderLaws.ScopeLaws.Code.{Once, objects_of, body_seen}
use Rattle.settled_types.specs.OrderLaws.ReadyLaws.InOrder.{declares_only}
use Rattle.settled_types.specs.OrderLaws.Placed.{is_placed}
use Rattle.run_codes.specs.Lowered.{max_position}
use Rattle.settled_types.specs.OrderLaws.PackageValues.Calls.{calls_nothing}
use Rattle.sound_files.specs.TypedFiles.LoweredFiles.Code.{code_literals}

-- Of each subprogram: declarations stand where they may, its names are in scope or are objects of
-- packages, and its literals are words. Objects have numbers of their own.
pub record IsArrangedSub (s : Typing) (sub : TypedSub) : Type 0 where
  pub placed : is_placed sub.body ≡ true
  pub seen : body_seen (is_package_object s) sub ≡ true
  pub once : Once (objects_of sub)
  pub within : (x : ℕ) → Has (objects_of sub) x → x < length s.objects
  pub words : (n : ℕ) → Has (code_literals sub.body) n → n ≤ max_position

-- The first subprogram declares the objects of packages, and does nothing else; what others declare
-- belongs to no package.
pub record IsArranged (table : Table) (program : TypedProgram) : Type 0 where
  pub first : TypedSub
  pub rest : List TypedSub
  pub subs : program.subs ≡ first ∷ rest
  pub declares : declares_only first.body ≡ true
  pub no_formals : first.formals ≡ []
  pub no_calls : calls_nothing first.body ≡ true
  pub package_declared : (x : ℕ) → is_package_object (typing_of table program) x ≡ true → Has (declared_within first.body) x
  pub of_package : (x : ℕ) → Has (declared_within first.body) x → is_package_object (typing_of table program) x ≡ true
  pub elaborated : IsArrangedSub (typing_of table program) first
  pub local : (sub : TypedSub) → Has rest sub → IsArrangedSub (typing_of table program) sub
  pub own : (sub : TypedSub) → Has rest sub → (x : ℕ) → Has (objects_of sub) x → is_package_object (typing_of table program) x ≡ false
