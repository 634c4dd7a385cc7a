-- What the code reads of the files (docs/TOOL.md, "Order of work").
use Rattle.std.specs.Prelude.{◌≡◌, ◌<◌, ◌≤◌, ℕ, List, map, length, Option, Some, MatchOption, Vec, All}
use Rattle.std.specs.declared.alloc.Global.{Global}
use Rattle.spark_base.specs.declared.limits.TheConstants.{SOURCE_BYTES}
use Rattle.spark_base.specs.Outside.{file_bytes}
use Rattle.answered_runs.specs.tool_answers.Reading.{Sources, Texts, TooLarge}
use Rattle.spark_tool.specs.declared.reading.Gathered.{Gathered}
use Rattle.spark_tool.specs.declared.reading.Gathered.TheVariants as found

-- What the code found, as the definition has it.
abbrev pub sources_of : Gathered → Sources
sources_of (found.All texts) = Texts (map (λ text. text.items) texts.items)
sources_of (found.TooLarge file) = TooLarge file

-- All bytes of a text, or nothing where it has more than there is room for.
abbrev pub IsWithin : List ℕ → ℕ → Option (Vec ℕ Global) → Type 0
IsWithin bytes room found = MatchOption found (room < length bytes) (λ text. (text.items ≡ bytes) × (length bytes ≤ room))

-- The file is there, and its bytes were read.
abbrev pub ReadsFile : List (List ℕ × List ℕ) → List ℕ → ℕ → Option (Vec ℕ Global) → Type 0
ReadsFile stored name room found = (bytes : List ℕ) × (file_bytes stored name ≡ Some bytes) × IsWithin bytes room found

-- Each of n files was read, and none is too large; or one of them has the byte past the limit.
abbrev pub IsWhole : ℕ → Gathered → Type 0
IsWhole n (found.All texts) = (length texts.items ≡ n) × All (λ text. length text.items ≤ SOURCE_BYTES) texts.items
IsWhole n (found.TooLarge file) = file < n
