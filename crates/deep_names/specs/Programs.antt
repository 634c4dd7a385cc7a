-- The first names with too many selectors in the points of subprograms.
use Rattle.std.specs.Prelude.{ℕ, List, [], ◌∷◌, Option, None}
use Rattle.spark_base.specs.declared.position.Pos.{Pos}
use Rattle.typed_tree.specs.Trees.{TypedCode}
use Rattle.typed_tree.specs.Programs.{TypedSub}
use Rattle.flow_paths.specs.Objects.{Typing, Signature}
use Rattle.deep_names.specs.Found.{earlier_of}
use Rattle.deep_names.specs.Statements.{code_deep}

abbrev pub subs_deep : Typing → List TypedSub → Option Pos
subs_deep s [] = None
subs_deep s (sub ∷ rest) = earlier_of (code_deep s sub.result sub.body) (subs_deep s rest)

-- The same of bodies by their numbers, whose subprograms have these signatures.
abbrev pub bodies_deep : Typing → (ℕ → TypedCode) → List Signature → List ℕ → Option Pos
bodies_deep s code (sub ∷ subs) (b ∷ bodies) = earlier_of (code_deep s sub.result (code b)) (bodies_deep s code subs bodies)
bodies_deep s code _ _ = None
