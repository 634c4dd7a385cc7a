-- The tokens of all files (docs/TOOL.md, "Order of work").
use Rattle.std.specs.Prelude.{ℕ, ◌+◌, ◌-◌, List, [], ◌∷◌, length, Result, Ok, Err}
use Rattle.ada_lexer.specs.declared.refusal.LexRefusal.{LexRefusal}
use Rattle.ada_lexer.specs.Tokens.{Cut, CutResult, tokens}

-- The tokens of each file in order, or the first fault.
abbrev pub AllTokens : Type 0
AllTokens = Result (List (List Cut)) LexRefusal

-- These tokens, and then those of the files that follow.
abbrev pub with_tokens : List Cut → AllTokens → AllTokens
with_tokens cuts (Ok others) = Ok (cuts ∷ others)
with_tokens cuts (Err fault) = Err fault

-- A fault ends the cut. Else the files that follow have the room that is left; the end of a file
-- takes none.
abbrev pub then_files : CutResult → ℕ → (ℕ → AllTokens) → AllTokens
then_files (Ok cuts) room behind = with_tokens cuts (behind (room - (length cuts - 1)))
then_files (Err fault) room behind = Err fault

-- The files share the room for tokens. `file` is the number of the first one.
abbrev pub all_tokens : ℕ → ℕ → List (List ℕ) → AllTokens
all_tokens file room [] = Ok []
all_tokens file room (text ∷ texts) = then_files (tokens file text room) room (λ left. all_tokens (file + 1) left texts)
