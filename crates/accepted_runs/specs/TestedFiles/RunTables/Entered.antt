-- What frames that enter ask of a typed program.
use Rattle.std.specs.Prelude.{◌≡◌, ◌<◌, ℕ, suc, false, List, ◌∷◌, length, Some}
use Rattle.machine.specs.spark_base.Lists.{Has}
use Rattle.machine.specs.type_definitions.Types.{Table}
use Rattle.machine.specs.typed_tree.Programs.{TypedSub, TypedProgram}
use Rattle.machine.specs.flow_paths.Objects.{is_package_object}
use Rattle.machine.specs.flow_paths.Laid.{typing_of}
use Rattle.settled_types.specs.OrderLaws.ScopeLaws.Code.{Once}
use Rattle.settled_types.specs.OrderLaws.ReadyLaws.InOrder.{IsSub}

-- The formals of each subprogram are different objects, none of packages, and the main procedure has a body.
pub record CanEnter (table : Table) (program : TypedProgram) : Type 0 where
  -- the first subprogram declares the package objects
  pub first : TypedSub
  pub rest : List TypedSub
  pub subs : program.subs ≡ first ∷ rest
  pub packages : Once first.formals
  pub once : (sub : TypedSub) → Has rest sub → Once sub.formals
  pub within : (sub : TypedSub) → Has rest sub → (x : ℕ) → Has sub.formals x → x < length program.objects
  pub own : (sub : TypedSub) → Has rest sub → (x : ℕ) → Has sub.formals x → is_package_object (typing_of table program) x ≡ false
  pub main : (n : ℕ) → program.main ≡ Some n → (k : ℕ) × (sub : TypedSub) × (n ≡ suc k) × IsSub rest k sub
