-- How each actual is passed.
use Rattle.std.specs.Prelude.{ℕ, Bool, false, List, [], ◌∷◌, Option, Some, None, if◌then◌else◌}
use Rattle.flow_paths.specs.Objects.{Typing, Passing, ByValue, Traversed, passing}

-- One that a traversal may go through.
abbrev pub way : Typing → Bool → Bool → ℕ → Passing
way s traversed procedure x = if traversed then Traversed else passing s procedure x

-- Those of some formals, the first of which a traversal may go through.
abbrev pub ways_of : Typing → Bool → Bool → List ℕ → List Passing
ways_of s traversed procedure [] = []
ways_of s traversed procedure (x ∷ rest) = way s traversed procedure x ∷ ways_of s false procedure rest

-- That of a formal that is found; else it is by value.
abbrev pub way_found : Typing → Bool → Bool → Option ℕ → Passing
way_found s traversed procedure None = ByValue
way_found s traversed procedure (Some x) = way s traversed procedure x
