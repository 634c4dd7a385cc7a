-- What a token is to the limits by its kind, and which tokens a construct encloses
-- (docs/LANGUAGE.md, "Grammar").
use Rattle.std.specs.Prelude.{◌≡◌, ℕ, suc, Bool, true, false, List, [], ◌∷◌, ◌++◌}
use Rattle.ada_lexer.specs.declared.token.Reserved.{Reserved}
use Rattle.ada_lexer.specs.declared.token.Reserved.TheVariants as w
use Rattle.ada_lexer.specs.declared.token.Symbol.{Symbol}
use Rattle.ada_lexer.specs.declared.token.Symbol.TheVariants as s
use Rattle.token_reading.specs.declared.side.Side.{Side}
use Rattle.token_reading.specs.Spelled.{Spelled, Word, Delimiter}
use Rattle.token_reading.specs.Weights.{WeighedToken, plain, opens, operates}

-- The word opens a construct, unless it follows "end", is the "loop" of a "while" or a "for",
-- the "begin" of a subprogram or of a block with "declare", or the "procedure" of an instance. No
-- other word opens one.
abbrev pub opens_word : Reserved → Bool
opens_word w.KwBegin = true
opens_word w.KwCase = true
opens_word w.KwDeclare = true
opens_word w.KwFor = true
opens_word w.KwFunction = true
opens_word w.KwIf = true
opens_word w.KwLoop = true
opens_word w.KwPackage = true
opens_word w.KwProcedure = true
opens_word w.KwRecord = true
opens_word w.KwWhile = true
opens_word _ = false

-- The word is an operator, or the first word of one. No other word is.
abbrev pub operator_word : Reserved → Bool
operator_word w.KwAbs = true
operator_word w.KwAnd = true
operator_word w.KwMod = true
operator_word w.KwNot = true
operator_word w.KwOr = true
operator_word w.KwRem = true
operator_word w.KwXor = true
operator_word _ = false

abbrev pub operator_symbol : Symbol → Bool
operator_symbol s.Ampersand = true
operator_symbol s.Star = true
operator_symbol s.Plus = true
operator_symbol s.Minus = true
operator_symbol s.Slash = true
operator_symbol s.Less = true
operator_symbol s.Equal = true
operator_symbol s.Greater = true
operator_symbol s.NotEqual = true
operator_symbol s.GreaterEqual = true
operator_symbol s.LessEqual = true
operator_symbol _ = false

abbrev pub is_operator : Spelled → Bool
is_operator (Word word pos) = operator_word word
is_operator (Delimiter symbol pos) = operator_symbol symbol
is_operator _ = false

-- The second token closes the construct that the first one opens: ")" a "(", "end" each other
-- construct, and ";" a subprogram that is only declared.
abbrev pub closes : Spelled → Spelled → Bool
closes (Delimiter s.LeftParenthesis pos) (Delimiter s.RightParenthesis end) = true
closes (Word w.KwProcedure pos) (Delimiter s.Semicolon end) = true
closes (Word w.KwFunction pos) (Delimiter s.Semicolon end) = true
closes (Word word pos) (Word w.KwEnd end) = opens_word word
closes _ _ = false

-- The token closes a construct wherever it stands.
abbrev pub always_closes : Spelled → Bool
always_closes (Word w.KwEnd pos) = true
always_closes (Delimiter s.RightParenthesis pos) = true
always_closes _ = false

-- The token opens a construct wherever it stands.
abbrev pub always_opens : Spelled → Bool
always_opens (Word w.KwDeclare pos) = true
always_opens (Word w.KwFor pos) = true
always_opens (Word w.KwFunction pos) = true
always_opens (Word w.KwPackage pos) = true
always_opens (Word w.KwWhile pos) = true
always_opens (Delimiter s.LeftParenthesis pos) = true
always_opens _ = false

-- Tokens in a row, with so many constructs open around them. A construct reaches from the token
-- that opens it to the one that closes it, and what stands between them has one construct more
-- around it. Each operator counts as one, and no other token does. proofs/Nesting.antt has it of
-- the spelling of each source.
pub data Nested : ℕ → List WeighedToken → Type 0 where
  nothing : (d : ℕ) → Nested d []
  rests : (d : ℕ) (side : Side) (t : Spelled) (behind : List WeighedToken) → is_operator t ≡ false → always_closes t ≡ false
      → always_opens t ≡ false → Nested d behind → Nested d (plain side t ∷ behind)
  operates_one : (d : ℕ) (t : Spelled) (behind : List WeighedToken) → is_operator t ≡ true → Nested d behind
      → Nested d (operates t ∷ behind)
  encloses : (d : ℕ) (side : Side) (t : Spelled) (inner : List WeighedToken) (end_side : Side) (end : Spelled) (behind : List WeighedToken)
      → closes t end ≡ true → Nested (suc d) inner → Nested d behind
      → Nested d (opens side d t ∷ (inner ++ (plain end_side end ∷ behind)))
