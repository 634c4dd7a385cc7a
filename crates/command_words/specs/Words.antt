-- The commands and their words (docs/TOOL.md, "Words").
use Rattle.std.specs.Prelude.{◌≡◌, ◌≤◌, ℕ, Bool, not, ◌&&◌, ◌==◌, nat_le, nat_lt, if◌then◌else◌, List, [], ◌∷◌, length, map, filter, take, drop, Option, None, Some, option_and_then, codes, string_bytes, Result, Ok, Err}
use Rattle.std.specs.List.{list_all, list_any}
use Rattle.std.specs.Option.{option_map}
use Rattle.std.specs.Char.{is_ascii_digit}
use Rattle.std.specs.Str.{bytes_eq}
use Rattle.std.specs.Str.Parse.{digits_value}
use Rattle.spark_base.specs.declared.limits.TheConstants.{FILES}
use Rattle.spark_base.specs.Words.{is_option, operands}
use Rattle.command_words.specs.declared.command.Command as held
use Rattle.command_words.specs.declared.command.Command.TheVariants as held_command
use Rattle.command_words.specs.declared.command.WordFault.{WordFault}
use Rattle.command_words.specs.declared.command.WordFault.TheVariants as fault

-- A command with names as bytes.
pub data Command : Type 0 where
  Check : List (List ℕ) → Command
  -- the files, the budget of steps, and whether the counts of the run are asked for
  Run : List (List ℕ) → ℕ → Bool → Command
  Leaks : List (List ℕ) → Command
  Make : ℕ → Command
  Selftest : ℕ → Command

-- The words after the first that begin with a hyphen.
abbrev pub options : List (List ℕ) → List (List ℕ)
options words = filter is_option (drop 1 words)

abbrev pub is_named : List ℕ → Bool
is_named name = not (length name == 0)

-- From 1 to 64 file names, none of which is empty.
abbrev pub are_file_names : List (List ℕ) → Bool
are_file_names names = not (length names == 0) && nat_le (length names) FILES && list_all is_named names

-- The value of one or more digits. Zeros may lead.
abbrev pub number_in : List ℕ → Option ℕ
number_in text = if nat_lt 0 (length text) && list_all is_ascii_digit text then Some (digits_value 10 text) else None

abbrev pub between : ℕ → ℕ → ℕ → Option ℕ
between low high n = if nat_le low n && nat_le n high then Some n else None

-- That of digits, at most so many, where it lies between two bounds.
abbrev pub number_of : ℕ → ℕ → ℕ → List ℕ → Option ℕ
number_of most low high text = if nat_le (length text) most then option_and_then (between low high) (number_in text) else None

-- How many steps a run may take at most.
abbrev pub most_steps : ℕ
most_steps = 4294967296

-- The budget that an option gives: --steps=D with 1 to 10 digits.
abbrev pub steps_of : List ℕ → Option ℕ
steps_of word = if bytes_eq (take 8 word) (codes "--steps=") then number_of 10 0 most_steps (drop 8 word) else None

-- The option that asks for the counts of a run.
abbrev pub is_stats : List ℕ → Bool
is_stats word = bytes_eq word (codes "--stats")

-- The budget that the options of a run give. Each option stands once at most.
abbrev pub budget_of : List (List ℕ) → Option ℕ
budget_of [] = Some most_steps
budget_of (word ∷ []) = if is_stats word then Some most_steps else steps_of word
budget_of (word ∷ other ∷ []) = if is_stats word then steps_of other else if is_stats other then steps_of word else None
budget_of _ = None

-- Files and no option.
abbrev pub plain_files : List (List ℕ) → List (List ℕ) → Option (List (List ℕ))
plain_files options operands = if length options == 0 && are_file_names operands then Some operands else None

-- Files, a budget, and whether counts are asked for.
abbrev pub run_of : Option ℕ → Bool → List (List ℕ) → Option Command
run_of None stats files = None
run_of (Some steps) stats files = if are_file_names files then Some (Run files steps stats) else None

-- One number from 1 to 10000, and no option.
abbrev pub count_of : List (List ℕ) → List (List ℕ) → Option ℕ
count_of [] (word ∷ []) = number_of 5 1 10000 word
count_of _ _ = None

-- What a command's word asks for, with options and operands.
abbrev pub asked : List ℕ → List (List ℕ) → List (List ℕ) → Option Command
asked word options operands =
    if bytes_eq word (codes "check") then option_map Check (plain_files options operands)
    else if bytes_eq word (codes "run") then run_of (budget_of options) (list_any is_stats options) operands
    else if bytes_eq word (codes "leaks") then option_map Leaks (plain_files options operands)
    else if bytes_eq word (codes "make") then option_map Make (count_of options operands)
    else if bytes_eq word (codes "selftest") then option_map Selftest (count_of options operands)
    else None

-- The command that the words give. Every other list of words is a usage fault.
abbrev pub command_of : List (List ℕ) → Option Command
command_of [] = None
command_of (word ∷ rest) = asked word (options (word ∷ rest)) (operands (word ∷ rest))

-- The operands are the files of a command that names files, and there are few. The budget of a run
-- is within the limit.
abbrev pub Fits : List (List ℕ) → Command → Type 0
Fits operands (Check names) = (names ≡ operands) × (length names ≤ FILES)
Fits operands (Run names steps stats) = (names ≡ operands) × (length names ≤ FILES) × (steps ≤ most_steps)
Fits operands (Leaks names) = (names ≡ operands) × (length names ≤ FILES)
Fits operands (Make n) = Unit {0}
Fits operands (Selftest n) = Unit {0}

-- The command that a program holds.
abbrev pub command_in : held.Command → Command
command_in (held_command.Check names) = Check (map string_bytes names.items)
command_in (held_command.Run names steps stats) = Run (map string_bytes names.items) steps stats
command_in (held_command.Leaks names) = Leaks (map string_bytes names.items)
command_in (held_command.Make n) = Make n
command_in (held_command.Selftest n) = Selftest n

-- The words give the command, or none; or there is no memory.
abbrev pub IsReadAs : List (List ℕ) → Result held.Command WordFault → Type 0
IsReadAs words (Ok command) = command_of words ≡ Some (command_in command)
IsReadAs words (Err fault.Usage) = command_of words ≡ None
IsReadAs words (Err fault.Memory) = Unit {0}
