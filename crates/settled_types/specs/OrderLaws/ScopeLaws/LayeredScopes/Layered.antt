-- Code in which older objects stand around younger ones.
use Rattle.std.specs.Prelude.{ℕ, Bool, true, not, ◌&&◌, ◌==◌, List, ◌∷◌, ◌++◌, reverse, nat_lt}
use Rattle.std.specs.List.{list_all}
use Rattle.machine.specs.typed_tree.Trees.{TypedCode}
use Rattle.machine.specs.typed_tree.Trees as typed
use Rattle.machine.specs.typed_tree.Programs.{TypedSub}
use Rattle.machine.specs.flow_paths.Instructions.{Instruction}
use Rattle.machine.specs.flow_paths.Instructions as instruction
use Rattle.machine.specs.flow_paths.Objects.{Typing, is_observer}
use Rattle.machine.specs.flow_paths.Views.{encloses, scope_of}
use Rattle.machine.specs.flow_paths.Layout.{declared}

-- Object y was declared before x, in a scope that encloses that of x.
abbrev pub is_older : Typing → List ℕ → ℕ → ℕ → Bool
is_older s scopes x y = nat_lt y x && encloses scopes (scope_of s y) (scope_of s x)

-- Objects all of which have this scope, and objects among which no observer has it.
abbrev pub are_of_scope : Typing → ℕ → List ℕ → Bool
are_of_scope s n xs = list_all (λ x. scope_of s x == n) xs

abbrev pub are_apart : Typing → ℕ → List ℕ → Bool
are_apart s n xs = list_all (λ x. not (is_observer s x && (scope_of s x == n))) xs

-- Where an object is declared, all that are in scope are older. The objects of a block have its
-- scope, which no observer around it has. Declarations and assignments fit, as they are asked to.
-- The list has what is in scope before the code.
unfoldable mutual
  pub is_layered : Typing → (ℕ → ℕ → Bool) → (Instruction → Bool) → List ℕ → TypedCode → Bool
  is_layered s older fits scope (typed.Declare p x v) = list_all (older x) scope && fits (instruction.Declare x v)
  is_layered s older fits scope (typed.Assign p target e) = fits (instruction.Assign target e)
  is_layered s older fits scope (typed.If branches otherwise) = is_each_layered s older fits scope branches && is_layered s older fits scope otherwise
  is_layered s older fits scope (typed.Branch p e stmts) = is_layered s older fits scope stmts
  is_layered s older fits scope (typed.Case p e whens) = is_each_layered s older fits scope whens
  is_layered s older fits scope (typed.When choices stmts) = is_layered s older fits scope stmts
  is_layered s older fits scope (typed.Loop stmts) = is_layered s older fits scope stmts
  is_layered s older fits scope (typed.While p e stmts) = is_layered s older fits scope stmts
  is_layered s older fits scope (typed.For p x reversed low high stmts) = list_all (older x) scope && is_layered s older fits (x ∷ scope) stmts
  is_layered s older fits scope (typed.Block n stmts end) =
      are_of_scope s n (declared stmts) && (are_apart s n scope && is_layered s older fits scope stmts)
  is_layered s older fits scope (typed.More a rest) = is_layered s older fits scope a && is_layered s older fits (reverse (declared a) ++ scope) rest
  is_layered s older fits scope _ = true

  -- Branches and alternatives, each for itself.
  pub is_each_layered : Typing → (ℕ → ℕ → Bool) → (Instruction → Bool) → List ℕ → TypedCode → Bool
  is_each_layered s older fits scope (typed.More a rest) = is_layered s older fits scope a && is_each_layered s older fits scope rest
  is_each_layered s older fits scope _ = true

-- The declarations and statements of a block or a body with this scope.
abbrev pub is_region : Typing → (ℕ → ℕ → Bool) → (Instruction → Bool) → ℕ → List ℕ → TypedCode → Bool
is_region s older fits n scope stmts =
    are_of_scope s n (declared stmts) && (are_apart s n scope && is_layered s older fits scope stmts)

-- The body of a subprogram with this scope. Its formals stand around it.
abbrev pub is_body_layered : Typing → (ℕ → ℕ → Bool) → (Instruction → Bool) → ℕ → TypedSub → Bool
is_body_layered s older fits n sub = is_region s older fits n (reverse sub.formals) sub.body
