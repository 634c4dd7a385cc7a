-- Reading the files (docs/TOOL.md, "Order of work").
use Rattle.std.specs.Prelude.{ℕ, ◌+◌, ◌-◌, nat_le, if◌then◌else◌, List, [], ◌∷◌, length}
use Rattle.std.specs.Option.{option_map_or}
use Rattle.spark_base.specs.Outside.{file_bytes}

-- The texts of the files in order; or the number of the first file with a byte past the room that
-- all share; or a file isn't there.
pub data Sources : Type 0 where
  Texts : List (List ℕ) → Sources
  TooLarge : ℕ → Sources
  Missing : Sources

abbrev pub with_text : List ℕ → Sources → Sources
with_text text (Texts texts) = Texts (text ∷ texts)
with_text text (TooLarge file) = TooLarge file
with_text text Missing = Missing

-- The files are read in order, and the first that ends the reading decides. `file` is the number of
-- the first name, and `room` is for the bytes of all.
abbrev pub sources : List (List ℕ × List ℕ) → ℕ → ℕ → List (List ℕ) → Sources
sources stored file room [] = Texts []
sources stored file room (name ∷ names) =
    option_map_or (λ text. if nat_le (length text) room then with_text text (sources stored (file + 1) (room - length text) names) else TooLarge file)
    (file_bytes stored name) Missing
