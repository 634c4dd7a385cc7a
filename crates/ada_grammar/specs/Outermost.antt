-- Where the outermost expressions of a source stand. The operators within each are counted
-- (docs/TOOL.md, "Limits").
use Rattle.std.specs.Prelude.{◌≡◌, ℕ, suc, Bool, true, false, if◌then◌else◌, List, [], ◌∷◌, ◌++◌}
use Rattle.ada_lexer.specs.declared.token.Reserved.TheVariants as w
use Rattle.ada_lexer.specs.declared.token.Symbol.TheVariants as s
use Rattle.spark_base.specs.declared.position.Pos.{Pos}
use Rattle.ada_tree.specs.declared.expression.Expr.{Expr}
use Rattle.ada_tree.specs.Spelling.{expr_spelling}
use Rattle.token_reading.specs.Spelled.{Spelled, Word, Delimiter}
use Rattle.token_reading.specs.Weights.{WeighedToken}
use Rattle.token_reading.specs.Reading.{Each}
use Rattle.ada_grammar.specs.Nesting.{is_operator}

-- The token is part of no expression: the count ends at it.
abbrev pub IsOutside : WeighedToken → Type 0
IsOutside m = (k : ℕ) → m.weight.step k ≡ 0

-- The token is part of an expression: the count goes on through it, and an operator is one more.
abbrev pub IsPart : WeighedToken → Type 0
IsPart m = (k : ℕ) → m.weight.step k ≡ (if is_operator m.token then suc k else k)

-- An outermost expression begins after each of these tokens, but for the "if" and the "case"
-- after "end".
abbrev pub always_leads : Spelled → Bool
always_leads (Word w.KwCase pos) = true
always_leads (Word w.KwElsif pos) = true
always_leads (Word w.KwIf pos) = true
always_leads (Word w.KwReverse pos) = true
always_leads (Word w.KwWhile pos) = true
always_leads (Delimiter s.Becomes pos) = true
always_leads (Delimiter s.DoubleDot pos) = true
always_leads _ = false

-- One may begin after each of these, and after no other token.
abbrev pub leads : Spelled → Bool
leads (Word w.KwIn pos) = true
leads (Word w.KwRange pos) = true
leads (Word w.KwReturn pos) = true
leads (Word w.KwWhen pos) = true
leads (Delimiter s.Arrow pos) = true
leads (Delimiter s.Bar pos) = true
leads (Delimiter s.Comma pos) = true
leads (Delimiter s.LeftParenthesis pos) = true
leads t = always_leads t

-- Tokens in a row: those that are part of no expression, and after some of these a whole outermost
-- expression, each token of which is part of it. So a token that is part of neither stands between
-- two outermost expressions. A mark or a name that stands for a range, and the identifier before
-- the "=>" of an actual, are such expressions too. proofs/Outermost.antt has it of the spelling of
-- each source.
pub data Outermost : List WeighedToken → Type 0 where
  nothing : Outermost []
  outside : (m : WeighedToken) (behind : List WeighedToken) → IsOutside m → always_leads m.token ≡ false → Outermost behind
      → Outermost (m ∷ behind)
  behind_end : (end m : WeighedToken) (pos : Pos) (behind : List WeighedToken) → IsOutside end → end.token ≡ Word w.KwEnd pos
      → IsOutside m → Outermost behind → Outermost (end ∷ m ∷ behind)
  leads_to : (m : WeighedToken) (d : ℕ) (tree : Expr) (behind : List WeighedToken) → IsOutside m → leads m.token ≡ true
      → Each IsPart (expr_spelling d tree) → Outermost behind → Outermost (m ∷ (expr_spelling d tree ++ behind))
