-- The entries in the heads of examples (docs/CONTRIBUTING.md, "Add an example").
use Rattle.std.specs.Prelude.{◌≡◌, ◌⊎◌, ℕ, List, [], ◌∷◌, ◌++◌}

-- The entry is the key alone, with an empty value; or it is the key, a blank and the value. A blank
-- is 32.
abbrev pub HasValue : List ℕ → List ℕ → List ℕ → Type 0
HasValue entry key value = ((value ≡ []) × (entry ≡ key)) ⊎ (entry ≡ key ++ (32 ∷ value))
