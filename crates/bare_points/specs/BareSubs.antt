-- The points of a subprogram, without acts and leak checks (`numbered_points/specs/Programs.antt`).
use Rattle.std.specs.Prelude.{ℕ, ◌+◌, Bool, List, [], ◌∷◌, ◌++◌, if◌then◌else◌}
use Rattle.spark_base.specs.declared.position.Pos.{Pos}
use Rattle.typed_tree.specs.Trees.{TypedCode}
use Rattle.flow_paths.specs.Instructions as instruction
use Rattle.numbered_points.specs.Extents.{Ways, size}
use Rattle.bare_points.specs.Bare.{Bare, bare, Laying}
use Rattle.bare_points.specs.Spans.{owned, code_span}
use Rattle.bare_points.specs.BareLaid.{bare_closed, bare_laid}

abbrev pub around_body : Laying → TypedCode → Ways
around_body g body = record { leave = []; in_loop = []; in_all = owned g.ends body }

abbrev pub bare_body_size : Laying → TypedCode → ℕ
bare_body_size g body = size (code_span g.ends body) (around_body g body)

abbrev pub bare_body : Laying → TypedCode → ℕ → List ℕ → List Bare
bare_body g body t k = bare_laid g body 0 t (around_body g body) k

-- Those after the body, the first with the number n. The end of a function raises Program_Error.
abbrev pub bare_end : Laying → TypedCode → Pos → Bool → ℕ → List Bare
bare_end g body end function n =
    if function then bare end instruction.Fall [] ∷ [] else bare_closed end (owned g.ends body) n

-- A subprogram with this body and the position of its end.
abbrev pub bare_sub : Laying → TypedCode → Pos → Bool → ℕ → List Bare
bare_sub g body end function t =
    bare_body g body t (bare_body_size g body ∷ []) ++ bare_end g body end function (bare_body_size g body)

-- What declares the package objects.
abbrev pub bare_package : Laying → TypedCode → List Bare
bare_package g body = bare_body g body 0 []

-- How many points are after the body of one that declares so many objects whose scopes end.
abbrev pub end_size : Bool → ℕ → ℕ
end_size function objects = if function then 1 else objects + 1
