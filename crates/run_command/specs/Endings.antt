-- The lines and the statuses of how a run ends (docs/TOOL.md, "Lines" and "Statuses").
use Rattle.std.specs.Prelude.{ℕ, ◌==◌, List, [], ◌∷◌, ◌++◌, codes, if◌then◌else◌}
use Rattle.std.specs.Fmt.{decimal}
use Rattle.spark_base.specs.declared.position.Pos.{Pos}
use Rattle.spark_base.specs.Positions.{position_text}
use Rattle.machine.specs.Evaluate.{Exception, ConstraintError, ProgramError, StorageError, DataError, EndError}
use Rattle.machine.specs.States.{Ending, Normal, Raised, Spent, Trapped}

abbrev pub exception_name : Exception → List ℕ
exception_name ConstraintError = codes "Constraint_Error"
exception_name ProgramError = codes "Program_Error"
exception_name StorageError = codes "Storage_Error"
exception_name DataError = codes "Data_Error"
exception_name EndError = codes "End_Error"

-- POS: TEXT
abbrev pub line_at : List (List ℕ) → Pos → List ℕ → List ℕ
line_at files pos text = position_text files pos ++ codes ": " ++ text ++ 10 ∷ []

-- The line of an ending, with the budget. A normal ending has none; nor has a trap, which no accepted program meets.
abbrev pub ending_line : List (List ℕ) → ℕ → Ending → List ℕ
ending_line files budget Normal = []
ending_line files budget (Raised exception pos) = line_at files pos (codes "raised " ++ exception_name exception)
ending_line files budget Spent = codes "steps spent: " ++ decimal budget ++ 10 ∷ []
ending_line files budget (Trapped trap pos) = []

-- The status of an ending after so many leak checks that failed. A trap has none of its own.
abbrev pub ending_status : ℕ → Ending → ℕ
ending_status leaked Normal = if leaked == 0 then 0 else 5
ending_status leaked (Raised exception pos) = 3
ending_status leaked Spent = 4
ending_status leaked (Trapped trap pos) = 0
