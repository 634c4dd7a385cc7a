-- The subprograms of a typed program, as they stand in rows.
use Rattle.std.specs.Prelude.{◌≡◌, ℕ, List, map}
use Rattle.typed_tree.specs.Nodes.{TypedNodes, typed_code_at}
use Rattle.typed_tree.specs.Programs.{TypedSub, TypedProgram}
use Rattle.flow_paths.specs.Objects.{Typing}
use Rattle.flow_paths.specs.Laid.{typing_of}

-- A program has these bodies, by their numbers, in the order of its subprograms; and a layout goes
-- by what is known of it.
pub record IsProgram (rows : TypedNodes) (s : Typing) (bodies : List ℕ) (program : TypedProgram) : Type 0 where
  pub code : map (λ (sub : TypedSub). sub.body) program.subs ≡ map (typed_code_at rows) bodies
  pub known : typing_of s.table program ≡ s
