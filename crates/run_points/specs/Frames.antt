-- What frames that enter ask of a program.
use Rattle.std.specs.Prelude.{◌≡◌, ◌<◌, ℕ, false, ◌==◌, List, [], ◌∷◌, length, get_or, nat_lt, Option, Some}
use Rattle.std.specs.List.{list_any}
use Rattle.spark_base.specs.Lists.{Has}
use Rattle.typed_tree.specs.Trees.{TypedTree}
use Rattle.flow_paths.specs.Objects.{is_package_object}
use Rattle.flow_paths.specs.Instructions.{Call}
use Rattle.flow_paths.specs.Laid.{FlowProgram, flow_typing}
use Rattle.machine.specs.States.{sub_of, stack_words}
use Rattle.machine.specs.Run.{no_point}

-- No two are one.
abbrev pub AreDifferent : List ℕ → Type 0
AreDifferent [] = Unit {0}
AreDifferent (x ∷ rest) = (list_any (λ y. y == x) rest ≡ false) × AreDifferent rest

-- A subprogram that may be called: it has a point, it isn't that of the package objects, and its formals are
-- different objects, none of packages.
pub record IsCallable (program : FlowProgram) (n : ℕ) : Type 0 where
  pub points : 0 < length (sub_of program n).points
  pub other : (n == 0) ≡ false
  pub formals : AreDifferent (sub_of program n).formals
  pub own : (x : ℕ) → Has (sub_of program n).formals x → is_package_object (flow_typing program) x ≡ false

-- The main procedure may be called, and so may what is called.
pub record HasFrames (program : FlowProgram) : Type 0 where
  pub packages : AreDifferent (sub_of program 0).formals
  pub main : (n : ℕ) → program.main ≡ Some n → IsCallable program n
  pub calls : (n k sub : ℕ) (e : TypedTree) (result : Option ℕ) → k < length (sub_of program n).points → (get_or (sub_of program n).points k no_point).instr ≡ Call sub e result
      → IsCallable program sub

-- The main procedure has not more words than all frames may have.
abbrev pub IsSmall : FlowProgram → Type 0
IsSmall program = (n : ℕ) → program.main ≡ Some n → nat_lt stack_words (sub_of program n).words ≡ false
