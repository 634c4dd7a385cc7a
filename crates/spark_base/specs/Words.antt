-- The words of a command line (docs/TOOL.md, "Words").
use Rattle.std.specs.Prelude.{ℕ, Bool, not, List, drop, filter, slice_index, ◌==◌}

-- A word that begins with a hyphen is an option. A hyphen is 45.
abbrev pub is_option : List ℕ → Bool
is_option word = slice_index word 0 == 45

-- The operands are the words after the first that are no options.
abbrev pub operands : List (List ℕ) → List (List ℕ)
operands words = filter (λ word. not (is_option word)) (drop 1 words)
