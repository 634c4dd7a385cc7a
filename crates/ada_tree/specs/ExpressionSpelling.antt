-- The tokens that an expression, a name, a range and a choice are spelled by, one case for each
-- alternative of the grammar, in its order (docs/LANGUAGE.md, "Grammar"). What a token carries, and
-- what `d` counts, Spelling.antt says.
use Rattle.std.specs.Prelude.{ℕ, suc, List, [], ◌∷◌, ◌++◌, Option, None, Some}
use Rattle.std.specs.List.{flat_map}
use Rattle.spark_base.specs.declared.position.Pos.{Pos}
use Rattle.ada_lexer.specs.declared.token.Reserved.{Reserved}
use Rattle.ada_lexer.specs.declared.token.Reserved.TheVariants as w
use Rattle.ada_lexer.specs.declared.token.Symbol.{Symbol}
use Rattle.ada_lexer.specs.declared.token.Symbol.TheVariants as s
use Rattle.ada_tree.specs.declared.operator.Sign.{Sign}
use Rattle.ada_tree.specs.declared.operator.Sign.TheVariants as sign
use Rattle.ada_tree.specs.declared.operator.RelationalOperator.{RelationalOperator}
use Rattle.ada_tree.specs.declared.operator.RelationalOperator.TheVariants as relational
use Rattle.ada_tree.specs.declared.operator.AddingOperator.{AddingOperator}
use Rattle.ada_tree.specs.declared.operator.AddingOperator.TheVariants as adding
use Rattle.ada_tree.specs.declared.operator.MultiplyingOperator.{MultiplyingOperator}
use Rattle.ada_tree.specs.declared.operator.MultiplyingOperator.TheVariants as multiplying
use Rattle.ada_tree.specs.declared.identifier.Identifier.{Identifier}
use Rattle.ada_tree.specs.declared.identifier.NextIdentifier.{NextIdentifier}
use Rattle.ada_tree.specs.declared.identifier.NextIdentifier.TheVariants as next_id
use Rattle.ada_tree.specs.declared.identifier.Dotted.{Dotted}
use Rattle.ada_tree.specs.declared.identifier.NextPart.{NextPart}
use Rattle.ada_tree.specs.declared.identifier.NextPart.TheVariants as next_part
use Rattle.ada_tree.specs.declared.identifier.NextDotted.{NextDotted}
use Rattle.ada_tree.specs.declared.identifier.NextDotted.TheVariants as next_dotted
use Rattle.ada_tree.specs.declared.expression.Aggregate.{Aggregate, Row_of-Arg, end_of-Arg, more_of-Arg, Row_of-NextArg, end_of-NextArg, more_of-NextArg, Row_of-Expr, end_of-Expr, more_of-Expr}
use Rattle.ada_tree.specs.declared.expression.Aggregate.TheVariants as aggregate
use Rattle.ada_tree.specs.declared.expression.Arg.{Arg}
use Rattle.ada_tree.specs.declared.expression.Arg.TheVariants as arg
use Rattle.ada_tree.specs.declared.expression.NextArg.{NextArg}
use Rattle.ada_tree.specs.declared.expression.NextArg.TheVariants as next_arg
use Rattle.ada_tree.specs.declared.expression.Expr.{Expr, Row_of-Rel, end_of-Rel, more_of-Rel, Row_of-Operand, end_of-Operand, more_of-Operand, Row_of-ShortOperand, end_of-ShortOperand, more_of-ShortOperand}
use Rattle.ada_tree.specs.declared.expression.Expr.TheVariants as expr
use Rattle.ada_tree.specs.declared.expression.Operand.{Operand}
use Rattle.ada_tree.specs.declared.expression.Operand.TheVariants as operand
use Rattle.ada_tree.specs.declared.expression.ShortOperand.{ShortOperand}
use Rattle.ada_tree.specs.declared.expression.ShortOperand.TheVariants as short_operand
use Rattle.ada_tree.specs.declared.expression.Rel.{Rel, Row_of-Sum, end_of-Sum, more_of-Sum}
use Rattle.ada_tree.specs.declared.expression.Rel.TheVariants as rel
use Rattle.ada_tree.specs.declared.expression.Sum.{Sum, Row_of-NextTerm, end_of-NextTerm, more_of-NextTerm}
use Rattle.ada_tree.specs.declared.expression.Sum.TheVariants as sum
use Rattle.ada_tree.specs.declared.expression.NextTerm.{NextTerm}
use Rattle.ada_tree.specs.declared.expression.NextTerm.TheVariants as next_term
use Rattle.ada_tree.specs.declared.expression.Term.{Term, Row_of-NextFactor, end_of-NextFactor, more_of-NextFactor}
use Rattle.ada_tree.specs.declared.expression.Term.TheVariants as term
use Rattle.ada_tree.specs.declared.expression.NextFactor.{NextFactor}
use Rattle.ada_tree.specs.declared.expression.NextFactor.TheVariants as next_factor
use Rattle.ada_tree.specs.declared.expression.Factor.{Factor}
use Rattle.ada_tree.specs.declared.expression.Factor.TheVariants as factor
use Rattle.ada_tree.specs.declared.expression.Primary.{Primary, Row_of-Name, end_of-Name, more_of-Name, Row_of-Aggregate, end_of-Aggregate, more_of-Aggregate}
use Rattle.ada_tree.specs.declared.expression.Primary.TheVariants as primary
use Rattle.ada_tree.specs.declared.expression.Name.{Name, Row_of-Suffix, end_of-Suffix, more_of-Suffix}
use Rattle.ada_tree.specs.declared.expression.Name.TheVariants as name
use Rattle.ada_tree.specs.declared.expression.Suffix.{Suffix}
use Rattle.ada_tree.specs.declared.expression.Suffix.TheVariants as suffix
use Rattle.ada_tree.specs.declared.range.Range.{Range}
use Rattle.ada_tree.specs.declared.range.Range.TheVariants as range
use Rattle.ada_tree.specs.declared.range.Choice.{Choice}
use Rattle.ada_tree.specs.declared.range.Choice.TheVariants as choice
use Rattle.ada_tree.specs.declared.range.NextChoice.{NextChoice}
use Rattle.ada_tree.specs.declared.range.NextChoice.TheVariants as next_choice
use Rattle.token_reading.specs.Spelled.{Spelled, Word, Ident, Number, Str, Delimiter}
use Rattle.token_reading.specs.declared.side.Side.{Side}
use Rattle.token_reading.specs.declared.side.Side.TheVariants.{Apart, Within}
use Rattle.token_reading.specs.Weights.{WeighedToken, plain, opens, operates}

-- ---- tokens, optional parts, identifiers

abbrev pub word : Side → Reserved → Pos → WeighedToken
word side v pos = plain side (Word v pos)

abbrev pub symbol : Side → Symbol → Pos → WeighedToken
symbol side v pos = plain side (Delimiter v pos)

abbrev pub id_mark : Side → Identifier → WeighedToken
id_mark side id = plain side (Ident id.pos id.text)

-- A part that may be left out.
abbrev pub optional : {A : Type 0} → (A → List WeighedToken) → Option A → List WeighedToken
optional spelling None = []
optional spelling (Some part) = spelling part

-- A reserved word that may be left out.
abbrev pub optional_word : Reserved → Option Pos → List WeighedToken
optional_word v = optional (λ pos. word Apart v pos ∷ [])

-- [id]
abbrev pub optional_id : Option Identifier → List WeighedToken
optional_id = optional (λ id. id_mark Apart id ∷ [])

-- "," id
unfoldable pub next_identifier_spelling : NextIdentifier → List WeighedToken
next_identifier_spelling (next_id.FurtherIdentifier pos id) = symbol Apart s.Comma pos ∷ id_mark Apart id ∷ []

-- "." id
unfoldable pub next_part_spelling : Side → NextPart → List WeighedToken
next_part_spelling side (next_part.FurtherPart pos id) = symbol side s.Dot pos ∷ id_mark side id ∷ []

-- dotted = id {"." id}, and mark = dotted
unfoldable pub dotted_spelling : Side → Dotted → List WeighedToken
dotted_spelling side dotted = id_mark side dotted.first ∷ flat_map (next_part_spelling side) dotted.rest

-- "," dotted
unfoldable pub next_dotted_spelling : NextDotted → List WeighedToken
next_dotted_spelling (next_dotted.FurtherDotted pos dotted) = symbol Apart s.Comma pos ∷ dotted_spelling Apart dotted

-- ---- operators

unfoldable pub relational_symbol : RelationalOperator → Symbol
relational_symbol relational.Equal = s.Equal
relational_symbol relational.NotEqual = s.NotEqual
relational_symbol relational.Less = s.Less
relational_symbol relational.LessEqual = s.LessEqual
relational_symbol relational.Greater = s.Greater
relational_symbol relational.GreaterEqual = s.GreaterEqual

unfoldable pub sign_symbol : Sign → Symbol
sign_symbol sign.Plus = s.Plus
sign_symbol sign.Minus = s.Minus

unfoldable pub adding_symbol : AddingOperator → Symbol
adding_symbol adding.Add = s.Plus
adding_symbol adding.Subtract = s.Minus
adding_symbol adding.Concatenate = s.Ampersand

unfoldable pub multiplying_token : MultiplyingOperator → Pos → Spelled
multiplying_token multiplying.Multiply pos = Delimiter s.Star pos
multiplying_token multiplying.Divide pos = Delimiter s.Slash pos
multiplying_token multiplying.Modulo pos = Word w.KwMod pos
multiplying_token multiplying.Remainder pos = Word w.KwRem pos

-- ---- expressions and names

unfoldable mutual
  -- name = id {"." id | "." "all" | "(" args ")" | "'" (id | "range")}, on either side of an
  -- expression's border
  pub name_spelling : Side → ℕ → Name → List WeighedToken
  name_spelling side d (name.Prefixed' pos first _ rest) = id_mark side first ∷ suffixes_spelling side d rest

  pub suffixes_spelling : {n : _} → Side → ℕ → Row_of-Suffix n → List WeighedToken
  suffixes_spelling side d end_of-Suffix = []
  suffixes_spelling side d (more_of-Suffix part rest) = suffix_spelling side d part ++ suffixes_spelling side d rest

  pub suffix_spelling : Side → ℕ → Suffix → List WeighedToken
  -- "." id
  suffix_spelling side d (suffix.Selected pos selector) = symbol side s.Dot pos ∷ id_mark side selector ∷ []
  -- "." "all"
  suffix_spelling side d (suffix.Dereferenced pos all) = symbol side s.Dot pos ∷ word side w.KwAll all ∷ []
  -- "(" arg {"," arg} ")"
  suffix_spelling side d (suffix.Applied' pos _ first _ rest right_paren) =
      opens side d (Delimiter s.LeftParenthesis pos)
      ∷ (arg_box side (suc d) first ++ (next_args_spelling side (suc d) rest ++ (symbol side s.RightParenthesis right_paren ∷ [])))
  -- "'" id
  suffix_spelling side d (suffix.Attribute pos attribute) = symbol side s.Apostrophe pos ∷ id_mark side attribute ∷ []
  -- "'" "range"
  suffix_spelling side d (suffix.RangeAttribute pos range) = symbol side s.Apostrophe pos ∷ word side w.KwRange range ∷ []

  pub arg_box : {n : _} → Side → ℕ → Row_of-Arg n → List WeighedToken
  arg_box side d end_of-Arg = []
  arg_box side d (more_of-Arg part rest) = arg_spelling side d part

  -- args = arg {"," arg}
  pub next_args_spelling : {n : _} → Side → ℕ → Row_of-NextArg n → List WeighedToken
  next_args_spelling side d end_of-NextArg = []
  next_args_spelling side d (more_of-NextArg part rest) = next_arg_spelling side d part ++ next_args_spelling side d rest

  pub next_arg_spelling : Side → ℕ → NextArg → List WeighedToken
  next_arg_spelling side d (next_arg.FurtherArg' pos _ part) = symbol side s.Comma pos ∷ arg_box side d part

  pub arg_spelling : Side → ℕ → Arg → List WeighedToken
  -- arg = expr
  arg_spelling side d (arg.Positional' pos _ value) = expr_box d value
  -- arg = id "=>" expr; by itself the identifier would be an expression, so it counts as one
  arg_spelling side d (arg.Association' pos id arrow _ value) =
      id_mark Within id ∷ symbol side s.Arrow arrow ∷ expr_box d value

  pub expr_box : {n : _} → ℕ → Row_of-Expr n → List WeighedToken
  expr_box d end_of-Expr = []
  expr_box d (more_of-Expr part rest) = expr_spelling d part

  pub expr_spelling : ℕ → Expr → List WeighedToken
  -- expr = rel
  expr_spelling d (expr.LoneRelation' pos _ relation) = rel_box d relation
  -- expr = rel "and" rel {"and" rel}
  expr_spelling d (expr.And' pos _ first and _ second _ rest) =
      rel_box d first ++ (operates (Word w.KwAnd and) ∷ (rel_box d second ++ operands_spelling d w.KwAnd rest))
  -- expr = rel "or" rel {"or" rel}
  expr_spelling d (expr.Or' pos _ first or _ second _ rest) =
      rel_box d first ++ (operates (Word w.KwOr or) ∷ (rel_box d second ++ operands_spelling d w.KwOr rest))
  -- expr = rel "xor" rel {"xor" rel}
  expr_spelling d (expr.Xor' pos _ first xor _ second _ rest) =
      rel_box d first ++ (operates (Word w.KwXor xor) ∷ (rel_box d second ++ operands_spelling d w.KwXor rest))
  -- expr = rel "and" "then" rel {"and" "then" rel}
  expr_spelling d (expr.AndThen' pos _ first and then _ second _ rest) =
      rel_box d first ++ (operates (Word w.KwAnd and) ∷ word Within w.KwThen then
      ∷ (rel_box d second ++ short_operands_spelling d w.KwAnd w.KwThen rest))
  -- expr = rel "or" "else" rel {"or" "else" rel}
  expr_spelling d (expr.OrElse' pos _ first or otherwise _ second _ rest) =
      rel_box d first ++ (operates (Word w.KwOr or) ∷ word Within w.KwElse otherwise
      ∷ (rel_box d second ++ short_operands_spelling d w.KwOr w.KwElse rest))

  pub operands_spelling : {n : _} → ℕ → Reserved → Row_of-Operand n → List WeighedToken
  operands_spelling d v end_of-Operand = []
  operands_spelling d v (more_of-Operand part rest) = operand_spelling d v part ++ operands_spelling d v rest

  pub operand_spelling : ℕ → Reserved → Operand → List WeighedToken
  operand_spelling d v (operand.FurtherOperand' pos _ relation) = operates (Word v pos) ∷ rel_box d relation

  pub short_operands_spelling : {n : _} → ℕ → Reserved → Reserved → Row_of-ShortOperand n → List WeighedToken
  short_operands_spelling d v u end_of-ShortOperand = []
  short_operands_spelling d v u (more_of-ShortOperand part rest) =
      short_operand_spelling d v u part ++ short_operands_spelling d v u rest

  pub short_operand_spelling : ℕ → Reserved → Reserved → ShortOperand → List WeighedToken
  short_operand_spelling d v u (short_operand.FurtherShortOperand' pos second_word _ relation) =
      operates (Word v pos) ∷ word Within u second_word ∷ rel_box d relation

  pub rel_box : {n : _} → ℕ → Row_of-Rel n → List WeighedToken
  rel_box d end_of-Rel = []
  rel_box d (more_of-Rel part rest) = rel_spelling d part

  pub rel_spelling : ℕ → Rel → List WeighedToken
  -- rel = sum
  rel_spelling d (rel.LoneSum pos operand) = sum_spelling d operand
  -- rel = sum ("=" | "/=" | "<" | "<=" | ">" | ">=") sum
  rel_spelling d (rel.Compared' pos _ left operator operator_pos _ right) =
      sum_box d left ++ (operates (Delimiter (relational_symbol operator) operator_pos) ∷ sum_box d right)

  pub sum_box : {n : _} → ℕ → Row_of-Sum n → List WeighedToken
  sum_box d end_of-Sum = []
  sum_box d (more_of-Sum part rest) = sum_spelling d part

  pub sum_spelling : ℕ → Sum → List WeighedToken
  -- sum = term {("+" | "-" | "&") term}
  sum_spelling d (sum.Unsigned' pos first _ rest) = term_spelling d first ++ next_terms_spelling d rest
  -- sum = ("+" | "-") term {("+" | "-" | "&") term}
  sum_spelling d (sum.Signed' pos sign first _ rest) =
      operates (Delimiter (sign_symbol sign) pos) ∷ (term_spelling d first ++ next_terms_spelling d rest)

  pub next_terms_spelling : {n : _} → ℕ → Row_of-NextTerm n → List WeighedToken
  next_terms_spelling d end_of-NextTerm = []
  next_terms_spelling d (more_of-NextTerm part rest) = next_term_spelling d part ++ next_terms_spelling d rest

  pub next_term_spelling : ℕ → NextTerm → List WeighedToken
  next_term_spelling d (next_term.FurtherTerm pos operator part) =
      operates (Delimiter (adding_symbol operator) pos) ∷ term_spelling d part

  -- term = factor {("*" | "/" | "mod" | "rem") factor}
  pub term_spelling : ℕ → Term → List WeighedToken
  term_spelling d (term.Product' pos first _ rest) = factor_spelling d first ++ next_factors_spelling d rest

  pub next_factors_spelling : {n : _} → ℕ → Row_of-NextFactor n → List WeighedToken
  next_factors_spelling d end_of-NextFactor = []
  next_factors_spelling d (more_of-NextFactor part rest) = next_factor_spelling d part ++ next_factors_spelling d rest

  pub next_factor_spelling : ℕ → NextFactor → List WeighedToken
  next_factor_spelling d (next_factor.FurtherFactor pos operator part) =
      operates (multiplying_token operator pos) ∷ factor_spelling d part

  pub factor_spelling : ℕ → Factor → List WeighedToken
  -- factor = primary
  factor_spelling d (factor.LonePrimary pos operand) = primary_spelling d operand
  -- factor = "abs" primary
  factor_spelling d (factor.Abs pos operand) = operates (Word w.KwAbs pos) ∷ primary_spelling d operand
  -- factor = "not" primary
  factor_spelling d (factor.Not pos operand) = operates (Word w.KwNot pos) ∷ primary_spelling d operand

  pub primary_spelling : ℕ → Primary → List WeighedToken
  -- primary = number
  primary_spelling d (primary.Number pos number) = plain Within (Number number pos) ∷ []
  -- primary = string
  primary_spelling d (primary.Text pos text) = plain Within (Str pos text) ∷ []
  -- primary = "null"
  primary_spelling d (primary.Null pos) = word Within w.KwNull pos ∷ []
  -- primary = name
  primary_spelling d (primary.Named' pos _ part) = name_box d part
  -- primary = "(" expr ")"
  primary_spelling d (primary.Parenthesized' pos _ part right_paren) =
      opens Within d (Delimiter s.LeftParenthesis pos)
      ∷ (expr_box (suc d) part ++ (symbol Within s.RightParenthesis right_paren ∷ []))
  -- primary = aggregate
  primary_spelling d (primary.Aggregated' pos _ part) = aggregate_box d part
  -- primary = "new" mark
  primary_spelling d (primary.Allocated pos mark) = word Within w.KwNew pos ∷ dotted_spelling Within mark
  -- primary = "new" mark "'" aggregate
  primary_spelling d (primary.AllocatedAggregate' pos mark apostrophe _ part) =
      word Within w.KwNew pos ∷ (dotted_spelling Within mark ++ (symbol Within s.Apostrophe apostrophe ∷ aggregate_box d part))
  -- primary = "new" mark "'" "(" expr ")"
  primary_spelling d (primary.AllocatedValue' pos mark apostrophe left_paren _ value right_paren) =
      word Within w.KwNew pos ∷ (dotted_spelling Within mark ++ (symbol Within s.Apostrophe apostrophe
      ∷ opens Within d (Delimiter s.LeftParenthesis left_paren)
      ∷ (expr_box (suc d) value ++ (symbol Within s.RightParenthesis right_paren ∷ []))))

  -- a name that is part of an expression
  pub name_box : {n : _} → ℕ → Row_of-Name n → List WeighedToken
  name_box d end_of-Name = []
  name_box d (more_of-Name part rest) = name_spelling Within d part

  pub aggregate_box : {n : _} → ℕ → Row_of-Aggregate n → List WeighedToken
  aggregate_box d end_of-Aggregate = []
  aggregate_box d (more_of-Aggregate part rest) = aggregate_spelling d part

  pub aggregate_spelling : ℕ → Aggregate → List WeighedToken
  -- aggregate = "(" arg "," arg {"," arg} ")"
  aggregate_spelling d (aggregate.Several' pos _ first comma _ second _ rest right_paren) =
      opens Within d (Delimiter s.LeftParenthesis pos)
      ∷ (arg_box Within (suc d) first ++ (symbol Within s.Comma comma ∷ (arg_box Within (suc d) second
      ++ (next_args_spelling Within (suc d) rest ++ (symbol Within s.RightParenthesis right_paren ∷ [])))))
  -- aggregate = "(" id "=>" expr ")"
  aggregate_spelling d (aggregate.Single' pos id arrow _ value right_paren) =
      opens Within d (Delimiter s.LeftParenthesis pos) ∷ id_mark Within id ∷ symbol Within s.Arrow arrow
      ∷ (expr_box (suc d) value ++ (symbol Within s.RightParenthesis right_paren ∷ []))
  -- aggregate = "(" "others" "=>" expr ")"
  aggregate_spelling d (aggregate.Others' pos others arrow _ value right_paren) =
      opens Within d (Delimiter s.LeftParenthesis pos) ∷ word Within w.KwOthers others ∷ symbol Within s.Arrow arrow
      ∷ (expr_box (suc d) value ++ (symbol Within s.RightParenthesis right_paren ∷ []))

-- ---- ranges and choices

-- "range" expr ".." expr
abbrev pub constraint_spelling : ℕ → Pos → Expr → Pos → Expr → List WeighedToken
constraint_spelling d range low dots high =
    word Apart w.KwRange range ∷ (expr_spelling d low ++ (symbol Apart s.DoubleDot dots ∷ expr_spelling d high))

unfoldable pub range_spelling : ℕ → Range → List WeighedToken
-- range = expr ".." expr
range_spelling d (range.Bounds pos low dots high) = expr_spelling d low ++ (symbol Apart s.DoubleDot dots ∷ expr_spelling d high)
-- range = mark
range_spelling d (range.Marked pos mark) = dotted_spelling Within mark
-- range = mark "range" expr ".." expr
range_spelling d (range.Constrained pos mark of_range low dots high) =
    dotted_spelling Within mark ++ constraint_spelling d of_range low dots high
-- range = name "'" "range"
range_spelling d (range.RangeOf pos prefix apostrophe of_range) =
    name_spelling Within d prefix ++ (symbol Within s.Apostrophe apostrophe ∷ word Within w.KwRange of_range ∷ [])

unfoldable pub choice_spelling : ℕ → Choice → List WeighedToken
-- choice = expr
choice_spelling d (choice.Value pos value) = expr_spelling d value
-- choice = expr ".." expr
choice_spelling d (choice.Interval pos low dots high) =
    expr_spelling d low ++ (symbol Apart s.DoubleDot dots ∷ expr_spelling d high)
-- choice = "others"
choice_spelling d (choice.Others pos) = word Apart w.KwOthers pos ∷ []

-- "|" choice
unfoldable pub next_choice_spelling : ℕ → NextChoice → List WeighedToken
next_choice_spelling d (next_choice.Bar pos part) = symbol Apart s.Bar pos ∷ choice_spelling d part
