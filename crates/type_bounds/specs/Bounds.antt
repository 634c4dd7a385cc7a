-- One word alone between two others.
use Rattle.std.specs.Prelude.{Bool, true, List, [], ◌∷◌, ℤ}
use Rattle.run_codes.specs.Flat.{is_between}

abbrev pub one_between : ℤ → ℤ → List ℤ → Bool
one_between low high (w ∷ []) = is_between low high w
one_between low high _ = true
