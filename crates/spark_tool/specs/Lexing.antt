-- The tokens of all files, as the program holds them (docs/TOOL.md, "Order of work").
use Rattle.std.specs.Prelude.{ℕ, ◌<◌, List, map, Vec}
use Rattle.std.specs.declared.alloc.Global.{Global}
use Rattle.ada_lexer.specs.declared.token.Token.{Token}
use Rattle.ada_lexer.specs.declared.refusal.LexRefusal.{LexRefusal}
use Rattle.ada_lexer.specs.declared.refusal.LexRefusal.TheVariants.{BadByte, BadIdentifier, BadNumber, OpenString, TooMany, Memory}
use Rattle.ada_lexer.specs.Tokens.{Cut, cut_of}

-- The texts that a program holds.
abbrev pub texts_of : List (Vec ℕ Global) → List (List ℕ)
texts_of texts = map (λ text. text.items) texts

-- The tokens that a program holds.
abbrev pub cuts_of : List (Vec Token Global) → List (List Cut)
cuts_of found = map (λ file. map cut_of file.items) found

-- The position that a fault names is one of the first n files.
abbrev pub IsAmong : ℕ → LexRefusal → Type 0
IsAmong n (BadByte pos) = pos.file < n
IsAmong n (BadIdentifier pos) = pos.file < n
IsAmong n (BadNumber pos) = pos.file < n
IsAmong n (OpenString pos) = pos.file < n
IsAmong n (TooMany pos) = pos.file < n
IsAmong n Memory = Unit {0}
