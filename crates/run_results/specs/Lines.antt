-- The lines of failed leak checks (docs/RUN.md).
use Rattle.std.specs.Prelude.{ℕ, List, [], ◌∷◌, ◌++◌, flat_map, codes}
use Rattle.std.specs.Fmt.{decimal}
use Rattle.spark_base.specs.Positions.{position_text}
use Rattle.machine.specs.States.{Leak}

-- What stands after the position. A line feed ends it.
unfoldable pub leak_text : ℕ → List ℕ
leak_text number = codes ": leak of cell " ++ decimal number ++ 10 ∷ []

-- POS: leak of cell N
abbrev pub leak_line : List (List ℕ) → Leak → List ℕ
leak_line files l = position_text files l.pos ++ leak_text l.number

-- In the order in which they came.
abbrev pub leak_lines : List (List ℕ) → List Leak → List ℕ
leak_lines files leaks = flat_map (leak_line files) leaks
