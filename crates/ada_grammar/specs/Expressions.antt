-- The readers of names and expressions, in the order of the grammar (docs/LANGUAGE.md, "Grammar").
--
-- `d` is how many constructs are open around the part, as in its spelling. A reader that ends in
-- `_in` is over a reader of the expressions that stand one construct further in.
use Rattle.std.specs.Prelude.{ℕ, zero, suc, ◌-◌, List, [], ◌∷◌, Option, Some, None, ◌⊎◌, option_and_then}
use Rattle.std.proofs.Common.{inl, inr}
use Rattle.spark_base.specs.declared.position.Pos.{Pos}
use Rattle.spark_base.specs.declared.limits.TheConstants.{NESTING}
use Rattle.ada_lexer.specs.declared.token.Reserved.{Reserved}
use Rattle.ada_lexer.specs.declared.token.Reserved.TheVariants as w
use Rattle.ada_lexer.specs.declared.token.Symbol.TheVariants as s
use Rattle.ada_tree.specs.declared.operator.Sign.{Sign}
use Rattle.ada_tree.specs.declared.operator.Sign.TheVariants as sign
use Rattle.ada_tree.specs.declared.operator.RelationalOperator.{RelationalOperator}
use Rattle.ada_tree.specs.declared.operator.RelationalOperator.TheVariants as relational
use Rattle.ada_tree.specs.declared.operator.AddingOperator.{AddingOperator}
use Rattle.ada_tree.specs.declared.operator.AddingOperator.TheVariants as adding
use Rattle.ada_tree.specs.declared.operator.MultiplyingOperator.{MultiplyingOperator}
use Rattle.ada_tree.specs.declared.operator.MultiplyingOperator.TheVariants as multiplying
use Rattle.ada_tree.specs.declared.identifier.Identifier.{Identifier}
use Rattle.ada_tree.specs.declared.identifier.Dotted.{Dotted}
use Rattle.ada_tree.specs.declared.identifier.NextPart.{NextPart}
use Rattle.ada_tree.specs.declared.identifier.NextPart.TheVariants as next_part_of
use Rattle.ada_tree.specs.declared.identifier.NextDotted.{NextDotted}
use Rattle.ada_tree.specs.declared.identifier.NextDotted.TheVariants as next_dotted_of
use Rattle.ada_tree.specs.declared.expression.Aggregate.TheVariants as of_aggregate
use Rattle.ada_tree.specs.declared.expression.Arg.{Arg}
use Rattle.ada_tree.specs.declared.expression.Arg.TheVariants as of_arg
use Rattle.ada_tree.specs.declared.expression.NextArg.{NextArg}
use Rattle.ada_tree.specs.declared.expression.NextArg.TheVariants as of_next_arg
use Rattle.ada_tree.specs.declared.expression.Expr.{Expr}
use Rattle.ada_tree.specs.declared.expression.Expr.TheVariants as of_expr
use Rattle.ada_tree.specs.declared.expression.Operand.{Operand}
use Rattle.ada_tree.specs.declared.expression.Operand.TheVariants as of_operand
use Rattle.ada_tree.specs.declared.expression.ShortOperand.{ShortOperand}
use Rattle.ada_tree.specs.declared.expression.ShortOperand.TheVariants as of_short_operand
use Rattle.ada_tree.specs.declared.expression.Rel.{Rel}
use Rattle.ada_tree.specs.declared.expression.Rel.TheVariants as of_rel
use Rattle.ada_tree.specs.declared.expression.Sum.{Sum}
use Rattle.ada_tree.specs.declared.expression.Sum.TheVariants as of_sum
use Rattle.ada_tree.specs.declared.expression.NextTerm.{NextTerm}
use Rattle.ada_tree.specs.declared.expression.NextTerm.TheVariants as of_next_term
use Rattle.ada_tree.specs.declared.expression.Term.{Term}
use Rattle.ada_tree.specs.declared.expression.Term.TheVariants as of_term
use Rattle.ada_tree.specs.declared.expression.NextFactor.{NextFactor}
use Rattle.ada_tree.specs.declared.expression.NextFactor.TheVariants as of_next_factor
use Rattle.ada_tree.specs.declared.expression.Factor.{Factor}
use Rattle.ada_tree.specs.declared.expression.Factor.TheVariants as of_factor
use Rattle.ada_tree.specs.declared.expression.Primary.{Primary}
use Rattle.ada_tree.specs.declared.expression.Primary.TheVariants as of_primary
use Rattle.ada_tree.specs.declared.expression.Name.{Name}
use Rattle.ada_tree.specs.declared.expression.Name.TheVariants as of_name
use Rattle.ada_tree.specs.declared.expression.Suffix.{Suffix}
use Rattle.ada_tree.specs.declared.expression.Suffix.TheVariants as of_suffix
use Rattle.ada_tree.specs.Lone.{lone_name, sole_identifier}
use Rattle.token_reading.specs.declared.side.Side.{Side}
use Rattle.token_reading.specs.declared.side.Side.TheVariants.{Apart, Within}
use Rattle.token_reading.specs.Reading.{Refused, OverLimit, Fails, Reader, PositionedText, of_word, of_symbol, of_ident, of_number, of_string, word, operator_word, symbol, opens_symbol, operator_symbol, ident, string, number, to, seq_on, seq, nothing, choose, optional, many, here}

-- ---- identifiers, and names that are made of identifiers alone

abbrev pub make_identifier : PositionedText → Identifier
make_identifier x = record { pos = x.0; text = x.1 }

-- id
unfoldable pub identifier : Side → Reader Identifier
identifier side = to make_identifier (ident side)

abbrev pub identifier_first : List ℕ
identifier_first = of_ident ∷ []

abbrev pub make_next_part : Pos × Identifier → NextPart
make_next_part x = next_part_of.FurtherPart x.0 x.1

-- "." id
unfoldable pub next_part : Side → Reader NextPart
next_part side = to make_next_part (seq (symbol side s.Dot) (identifier side))

abbrev pub next_parts : Side → Reader (List NextPart)
next_parts side = many (of_symbol s.Dot ∷ []) (next_part side)

abbrev pub make_dotted : Identifier × List NextPart → Dotted
make_dotted x = record { pos = x.0.pos; first = x.0; rest = x.1 }

-- dotted = id {"." id}, and mark = dotted
unfoldable pub dotted : Side → Reader Dotted
dotted side = to make_dotted (seq (identifier side) (next_parts side))

abbrev pub dotted_first : List ℕ
dotted_first = of_ident ∷ []

abbrev pub dotted_last : List ℕ
dotted_last = of_symbol s.Dot ∷ []

abbrev pub make_next_dotted : Pos × Dotted → NextDotted
make_next_dotted x = next_dotted_of.FurtherDotted x.0 x.1

-- "," dotted
unfoldable pub next_dotted : Reader NextDotted
next_dotted = to make_next_dotted (seq (symbol Apart s.Comma) (dotted Apart))

abbrev pub next_dotteds : Reader (List NextDotted)
next_dotteds = many (of_symbol s.Comma ∷ []) next_dotted

-- ---- args

-- No token may stand there.
abbrev pub refused : {A : Type 0} → Reader A
refused k ts = Fails Refused ts

-- The identifier that an expression is, where it is one alone.
abbrev pub lone_identifier : Expr → Option Identifier
lone_identifier x = option_and_then sole_identifier (lone_name x)

-- The name of the formal or component, "=>" and the expression after it.
abbrev pub Given : Type 0
Given = Identifier × (Pos × Expr)

-- "=>" expr, only after a lone identifier
abbrev pub given_in : Side → Reader Expr → Option Identifier → Reader Given
given_in side inner (Some id) = to (λ x. (id, x)) (seq (symbol side s.Arrow) inner)
given_in side inner None = refused

abbrev pub make_arg : (Pos × Expr) × Option Given → Arg
make_arg ((pos, x), None) = of_arg.Positional pos x
make_arg ((pos, x), Some (id, (arrow, value))) = of_arg.Association pos id arrow value

-- arg = [id "=>"] expr; the identifier is first read as an expression
unfoldable pub arg_in : Side → Reader Expr → Reader Arg
arg_in side inner =
    to make_arg (seq_on (seq here inner) (λ x. optional (of_symbol s.Arrow ∷ []) (given_in side inner (lone_identifier x.1))))

abbrev pub make_next_arg : Pos × Arg → NextArg
make_next_arg x = of_next_arg.FurtherArg x.0 x.1

-- "," arg
unfoldable pub next_arg_in : Side → Reader Expr → Reader NextArg
next_arg_in side inner = to make_next_arg (seq (symbol side s.Comma) (arg_in side inner))

abbrev pub next_args_in : Side → Reader Expr → Reader (List NextArg)
next_args_in side inner = many (of_symbol s.Comma ∷ []) (next_arg_in side inner)

-- args ")", after "("
abbrev pub args_in : Side → Reader Expr → Reader (Arg × (List NextArg × Pos))
args_in side inner = seq (arg_in side inner) (seq (next_args_in side inner) (symbol side s.RightParenthesis))

-- ---- names

-- What may follow a name as its suffix: after "." an identifier or "all", after "'" an
-- identifier or "range", or args.
abbrev pub SuffixParts : Type 0
SuffixParts = (Pos × (Pos ⊎ Identifier)) ⊎ ((Pos × (Pos ⊎ Identifier)) ⊎ (Pos × (Arg × (List NextArg × Pos))))

abbrev pub make_suffix : SuffixParts → Suffix
make_suffix (inl (dot, inl all)) = of_suffix.Dereferenced dot all
make_suffix (inl (dot, inr selector)) = of_suffix.Selected dot selector
make_suffix (inr (inl (apostrophe, inl range))) = of_suffix.RangeAttribute apostrophe range
make_suffix (inr (inl (apostrophe, inr attribute))) = of_suffix.Attribute apostrophe attribute
make_suffix (inr (inr (left, (first, (rest, right))))) = of_suffix.Applied left first rest right

-- "." id | "." "all" | "(" args ")" | "'" (id | "range")
unfoldable pub suffix_in : Side → ℕ → Reader Expr → Reader Suffix
suffix_in side d inner =
    to make_suffix
    (choose (of_symbol s.Dot ∷ []) (seq (symbol side s.Dot) (choose (of_word w.KwAll ∷ []) (word side w.KwAll) (identifier side)))
    (choose (of_symbol s.Apostrophe ∷ [])
    (seq (symbol side s.Apostrophe) (choose (of_word w.KwRange ∷ []) (word side w.KwRange) (identifier side)))
    (seq (opens_symbol side s.LeftParenthesis d) (args_in side inner))))

abbrev pub suffix_first : List ℕ
suffix_first = of_symbol s.Dot ∷ of_symbol s.Apostrophe ∷ of_symbol s.LeftParenthesis ∷ []

abbrev pub suffixes_in : Side → ℕ → Reader Expr → Reader (List Suffix)
suffixes_in side d inner = many suffix_first (suffix_in side d inner)

abbrev pub make_name : Identifier × List Suffix → Name
make_name x = of_name.Prefixed x.0.pos x.0 x.1

-- name = id {"." id | "." "all" | "(" args ")" | "'" (id | "range")}
unfoldable pub name_in : Side → ℕ → Reader Expr → Reader Name
name_in side d inner = to make_name (seq (identifier side) (suffixes_in side d inner))

abbrev pub name_first : List ℕ
name_first = of_ident ∷ []

abbrev pub name_last : List ℕ
name_last = suffix_first

-- ---- primaries

-- After "(": "others" "=>" expr ")", or an arg and then ")" or further ones.
abbrev pub InnerParts : Type 0
InnerParts = (Pos × (Pos × (Expr × Pos))) ⊎ (Arg × ((Pos × (Arg × (List NextArg × Pos))) ⊎ Pos))

-- One arg in parentheses is an expression in them, or an aggregate of one component.
abbrev pub make_single : Pos → Pos → Arg → Primary
make_single left right (of_arg.Positional' _ _ value) = of_primary.Parenthesized' left _ value right
make_single left right (of_arg.Association' _ id arrow _ value) = of_primary.Aggregated left (of_aggregate.Single' left id arrow _ value right)

abbrev pub make_parenthesized : Pos × InnerParts → Primary
make_parenthesized (left, inl (others, (arrow, (value, right)))) = of_primary.Aggregated left (of_aggregate.Others left others arrow value right)
make_parenthesized (left, inr (first, inl (comma, (second, (rest, right))))) =
    of_primary.Aggregated left (of_aggregate.Several left first comma second rest right)
make_parenthesized (left, inr (first, inr right)) = make_single left right first

-- "others" "=>" expr ")", after "("
abbrev pub others_in : Reader Expr → Reader (Pos × (Pos × (Expr × Pos)))
others_in inner = seq (word Within w.KwOthers) (seq (symbol Within s.Arrow) (seq inner (symbol Within s.RightParenthesis)))

-- "(" expr ")" | aggregate
unfoldable pub parenthesized_in : ℕ → Reader Expr → Reader Primary
parenthesized_in d inner =
    to make_parenthesized (seq (opens_symbol Within s.LeftParenthesis d)
    (choose (of_word w.KwOthers ∷ []) (others_in inner)
    (seq (arg_in Within inner) (choose (of_symbol s.Comma ∷ []) (seq (symbol Within s.Comma) (args_in Within inner))
    (symbol Within s.RightParenthesis)))))

abbrev pub AllocatorParts : Type 0
AllocatorParts = Pos × (Dotted × Option (Pos × Primary))

-- What stands in parentheses after "new" mark "'".
abbrev pub make_qualified : Pos → Dotted → Pos → Primary → Primary
make_qualified new mark apostrophe (of_primary.Parenthesized' left _ value right) =
    of_primary.AllocatedValue' new mark apostrophe left _ value right
make_qualified new mark apostrophe (of_primary.Aggregated' _ _ part) = of_primary.AllocatedAggregate' new mark apostrophe _ part
make_qualified new mark apostrophe part = part

abbrev pub make_allocator : AllocatorParts → Primary
make_allocator (new, (mark, None)) = of_primary.Allocated new mark
make_allocator (new, (mark, Some x)) = make_qualified new mark x.0 x.1

-- "new" mark ["'" (aggregate | "(" expr ")")]
unfoldable pub allocator_in : ℕ → Reader Expr → Reader Primary
allocator_in d inner =
    to make_allocator (seq (word Within w.KwNew) (seq (dotted Within)
    (optional (of_symbol s.Apostrophe ∷ []) (seq (symbol Within s.Apostrophe) (parenthesized_in d inner)))))

abbrev pub PrimaryParts : Type 0
PrimaryParts = (Pos × ℕ) ⊎ (PositionedText ⊎ (Pos ⊎ (Primary ⊎ (Primary ⊎ (Pos × Name)))))

abbrev pub make_primary : PrimaryParts → Primary
make_primary (inl x) = of_primary.Number x.0 x.1
make_primary (inr (inl x)) = of_primary.Text x.0 x.1
make_primary (inr (inr (inl pos))) = of_primary.Null pos
make_primary (inr (inr (inr (inl part)))) = part
make_primary (inr (inr (inr (inr (inl part))))) = part
make_primary (inr (inr (inr (inr (inr x))))) = of_primary.Named x.0 x.1

-- primary = number | string | "null" | "new" mark ["'" (aggregate | "(" expr ")")]
--     | "(" expr ")" | aggregate | name
unfoldable pub primary_in : ℕ → Reader Expr → Reader Primary
primary_in d inner =
    to make_primary (choose (of_number ∷ []) number (choose (of_string ∷ []) string
    (choose (of_word w.KwNull ∷ []) (word Within w.KwNull) (choose (of_word w.KwNew ∷ []) (allocator_in d inner)
    (choose (of_symbol s.LeftParenthesis ∷ []) (parenthesized_in d inner) (seq here (name_in Within d inner)))))))

abbrev pub primary_first : List ℕ
primary_first =
    of_number ∷ of_string ∷ of_word w.KwNull ∷ of_word w.KwNew ∷ of_symbol s.LeftParenthesis ∷ of_ident ∷ []

-- ---- operators

abbrev pub make_multiplying : Pos ⊎ (Pos ⊎ (Pos ⊎ Pos)) → MultiplyingOperator × Pos
make_multiplying (inl pos) = (multiplying.Multiply, pos)
make_multiplying (inr (inl pos)) = (multiplying.Divide, pos)
make_multiplying (inr (inr (inl pos))) = (multiplying.Modulo, pos)
make_multiplying (inr (inr (inr pos))) = (multiplying.Remainder, pos)

-- "*" | "/" | "mod" | "rem"
unfoldable pub multiplying_operator : Reader (MultiplyingOperator × Pos)
multiplying_operator =
    to make_multiplying (choose (of_symbol s.Star ∷ []) (operator_symbol s.Star) (choose (of_symbol s.Slash ∷ []) (operator_symbol s.Slash)
    (choose (of_word w.KwMod ∷ []) (operator_word w.KwMod) (operator_word w.KwRem))))

abbrev pub multiplying_first : List ℕ
multiplying_first = of_symbol s.Star ∷ of_symbol s.Slash ∷ of_word w.KwMod ∷ of_word w.KwRem ∷ []

abbrev pub make_adding : Pos ⊎ (Pos ⊎ Pos) → AddingOperator × Pos
make_adding (inl pos) = (adding.Add, pos)
make_adding (inr (inl pos)) = (adding.Subtract, pos)
make_adding (inr (inr pos)) = (adding.Concatenate, pos)

-- "+" | "-" | "&"
unfoldable pub adding_operator : Reader (AddingOperator × Pos)
adding_operator =
    to make_adding (choose (of_symbol s.Plus ∷ []) (operator_symbol s.Plus)
    (choose (of_symbol s.Minus ∷ []) (operator_symbol s.Minus) (operator_symbol s.Ampersand)))

abbrev pub adding_first : List ℕ
adding_first = of_symbol s.Plus ∷ of_symbol s.Minus ∷ of_symbol s.Ampersand ∷ []

abbrev pub make_sign : Pos ⊎ Pos → Sign × Pos
make_sign (inl pos) = (sign.Plus, pos)
make_sign (inr pos) = (sign.Minus, pos)

-- "+" | "-" before the first term
unfoldable pub sign_operator : Reader (Sign × Pos)
sign_operator = to make_sign (choose (of_symbol s.Plus ∷ []) (operator_symbol s.Plus) (operator_symbol s.Minus))

abbrev pub sign_first : List ℕ
sign_first = of_symbol s.Plus ∷ of_symbol s.Minus ∷ []

abbrev pub make_relational : Pos ⊎ (Pos ⊎ (Pos ⊎ (Pos ⊎ (Pos ⊎ Pos)))) → RelationalOperator × Pos
make_relational (inl pos) = (relational.Equal, pos)
make_relational (inr (inl pos)) = (relational.NotEqual, pos)
make_relational (inr (inr (inl pos))) = (relational.Less, pos)
make_relational (inr (inr (inr (inl pos)))) = (relational.LessEqual, pos)
make_relational (inr (inr (inr (inr (inl pos))))) = (relational.Greater, pos)
make_relational (inr (inr (inr (inr (inr pos))))) = (relational.GreaterEqual, pos)

-- "=" | "/=" | "<" | "<=" | ">" | ">="
unfoldable pub relational_operator : Reader (RelationalOperator × Pos)
relational_operator =
    to make_relational (choose (of_symbol s.Equal ∷ []) (operator_symbol s.Equal)
    (choose (of_symbol s.NotEqual ∷ []) (operator_symbol s.NotEqual) (choose (of_symbol s.Less ∷ []) (operator_symbol s.Less)
    (choose (of_symbol s.LessEqual ∷ []) (operator_symbol s.LessEqual)
    (choose (of_symbol s.Greater ∷ []) (operator_symbol s.Greater) (operator_symbol s.GreaterEqual))))))

abbrev pub relational_first : List ℕ
relational_first =
    of_symbol s.Equal ∷ of_symbol s.NotEqual ∷ of_symbol s.Less ∷ of_symbol s.LessEqual ∷ of_symbol s.Greater ∷ of_symbol s.GreaterEqual ∷ []

-- ---- expressions

abbrev pub make_factor : (Pos × Primary) ⊎ ((Pos × Primary) ⊎ (Pos × Primary)) → Factor
make_factor (inl x) = of_factor.Abs x.0 x.1
make_factor (inr (inl x)) = of_factor.Not x.0 x.1
make_factor (inr (inr x)) = of_factor.LonePrimary x.0 x.1

-- factor = "abs" primary | "not" primary | primary
unfoldable pub factor_in : ℕ → Reader Expr → Reader Factor
factor_in d inner =
    to make_factor (choose (of_word w.KwAbs ∷ []) (seq (operator_word w.KwAbs) (primary_in d inner))
    (choose (of_word w.KwNot ∷ []) (seq (operator_word w.KwNot) (primary_in d inner)) (seq here (primary_in d inner))))

abbrev pub factor_first : List ℕ
factor_first = of_word w.KwAbs ∷ of_word w.KwNot ∷ primary_first

abbrev pub make_next_factor : (MultiplyingOperator × Pos) × Factor → NextFactor
make_next_factor ((operator, pos), x) = of_next_factor.FurtherFactor pos operator x

-- ("*" | "/" | "mod" | "rem") factor
unfoldable pub next_factor_in : ℕ → Reader Expr → Reader NextFactor
next_factor_in d inner = to make_next_factor (seq multiplying_operator (factor_in d inner))

abbrev pub next_factors_in : ℕ → Reader Expr → Reader (List NextFactor)
next_factors_in d inner = many multiplying_first (next_factor_in d inner)

abbrev pub make_term : (Pos × Factor) × List NextFactor → Term
make_term ((pos, first), rest) = of_term.Product pos first rest

-- term = factor {("*" | "/" | "mod" | "rem") factor}
unfoldable pub term_in : ℕ → Reader Expr → Reader Term
term_in d inner = to make_term (seq (seq here (factor_in d inner)) (next_factors_in d inner))

abbrev pub term_last : List ℕ
term_last =
    of_symbol s.Star ∷ of_symbol s.Slash ∷ of_word w.KwMod ∷ of_word w.KwRem ∷ name_last

abbrev pub make_next_term : (AddingOperator × Pos) × Term → NextTerm
make_next_term ((operator, pos), x) = of_next_term.FurtherTerm pos operator x

-- ("+" | "-" | "&") term
unfoldable pub next_term_in : ℕ → Reader Expr → Reader NextTerm
next_term_in d inner = to make_next_term (seq adding_operator (term_in d inner))

abbrev pub next_terms_in : ℕ → Reader Expr → Reader (List NextTerm)
next_terms_in d inner = many adding_first (next_term_in d inner)

abbrev pub SumParts : Type 0
SumParts = ((Sign × Pos) × (Term × List NextTerm)) ⊎ ((Pos × Term) × List NextTerm)

abbrev pub make_sum : SumParts → Sum
make_sum (inl ((sign, pos), (first, rest))) = of_sum.Signed pos sign first rest
make_sum (inr ((pos, first), rest)) = of_sum.Unsigned pos first rest

-- sum = ["+" | "-"] term {("+" | "-" | "&") term}
unfoldable pub sum_in : ℕ → Reader Expr → Reader Sum
sum_in d inner =
    to make_sum (choose sign_first (seq sign_operator (seq (term_in d inner) (next_terms_in d inner)))
    (seq (seq here (term_in d inner)) (next_terms_in d inner)))

abbrev pub sum_first : List ℕ
sum_first = of_symbol s.Plus ∷ of_symbol s.Minus ∷ factor_first

abbrev pub sum_last : List ℕ
sum_last = of_symbol s.Plus ∷ of_symbol s.Minus ∷ of_symbol s.Ampersand ∷ term_last

abbrev pub make_rel : (Pos × Sum) × Option ((RelationalOperator × Pos) × Sum) → Rel
make_rel ((pos, left), None) = of_rel.LoneSum pos left
make_rel ((pos, left), Some ((operator, at), right)) = of_rel.Compared pos left operator at right

-- rel = sum [("=" | "/=" | "<" | "<=" | ">" | ">=") sum]
unfoldable pub rel_in : ℕ → Reader Expr → Reader Rel
rel_in d inner = to make_rel (seq (seq here (sum_in d inner)) (optional relational_first (seq relational_operator (sum_in d inner))))

abbrev pub rel_last : List ℕ
rel_last =
    of_symbol s.Equal ∷ of_symbol s.NotEqual ∷ of_symbol s.Less ∷ of_symbol s.LessEqual ∷ of_symbol s.Greater ∷ of_symbol s.GreaterEqual
    ∷ sum_last

abbrev pub make_next_operand : Pos × Rel → Operand
make_next_operand x = of_operand.FurtherOperand x.0 x.1

-- ("and" | "or" | "xor") rel
unfoldable pub next_operand_in : ℕ → Reader Expr → Reserved → Reader Operand
next_operand_in d inner v = to make_next_operand (seq (operator_word v) (rel_in d inner))

abbrev pub next_operands_in : ℕ → Reader Expr → Reserved → Reader (List Operand)
next_operands_in d inner v = many (of_word v ∷ []) (next_operand_in d inner v)

abbrev pub make_next_short_operand : Pos × (Pos × Rel) → ShortOperand
make_next_short_operand (pos, (second_word, x)) = of_short_operand.FurtherShortOperand pos second_word x

-- ("and" "then" | "or" "else") rel
unfoldable pub next_short_operand_in : ℕ → Reader Expr → Reserved → Reserved → Reader ShortOperand
next_short_operand_in d inner v u = to make_next_short_operand (seq (operator_word v) (seq (word Within u) (rel_in d inner)))

abbrev pub next_short_operands_in : ℕ → Reader Expr → Reserved → Reserved → Reader (List ShortOperand)
next_short_operands_in d inner v u = many (of_word v ∷ []) (next_short_operand_in d inner v u)

-- After a first "and" or "or": its second word and the operands of the short form, or the operands
-- of the long one.
abbrev pub Chain : Type 0
Chain = (Pos × (Rel × List ShortOperand)) ⊎ (Rel × List Operand)

unfoldable pub chain_in : ℕ → Reader Expr → Reserved → Reserved → Reader Chain
chain_in d inner v u =
    choose (of_word u ∷ []) (seq (word Within u) (seq (rel_in d inner) (next_short_operands_in d inner v u)))
    (seq (rel_in d inner) (next_operands_in d inner v))

abbrev pub Behind : Type 0
Behind = (Pos × Chain) ⊎ ((Pos × Chain) ⊎ ((Pos × (Rel × List Operand)) ⊎ Unit {0}))

abbrev pub make_expr : (Pos × Rel) × Behind → Expr
make_expr ((pos, first), inl (and, inl (other, (second, rest)))) = of_expr.AndThen pos first and other second rest
make_expr ((pos, first), inl (and, inr (second, rest))) = of_expr.And pos first and second rest
make_expr ((pos, first), inr (inl (or, inl (other, (second, rest))))) = of_expr.OrElse pos first or other second rest
make_expr ((pos, first), inr (inl (or, inr (second, rest)))) = of_expr.Or pos first or second rest
make_expr ((pos, first), inr (inr (inl (xor, (second, rest))))) = of_expr.Xor pos first xor second rest
make_expr ((pos, first), inr (inr (inr u))) = of_expr.LoneRelation pos first

-- expr = rel {"and" rel} | rel {"or" rel} | rel {"xor" rel}
--     | rel {"and" "then" rel} | rel {"or" "else" rel}
unfoldable pub expr_in : ℕ → Reader Expr → Reader Expr
expr_in d inner =
    to make_expr (seq (seq here (rel_in d inner))
    (choose (of_word w.KwAnd ∷ []) (seq (operator_word w.KwAnd) (chain_in d inner w.KwAnd w.KwThen))
    (choose (of_word w.KwOr ∷ []) (seq (operator_word w.KwOr) (chain_in d inner w.KwOr w.KwElse))
    (choose (of_word w.KwXor ∷ []) (seq (operator_word w.KwXor) (seq (rel_in d inner) (next_operands_in d inner w.KwXor))) nothing))))

-- The kinds of tokens that an expression begins with.
abbrev pub expr_first : List ℕ
expr_first =
    of_symbol s.Plus ∷ of_symbol s.Minus ∷ of_word w.KwAbs ∷ of_word w.KwNot ∷ of_number ∷ of_string ∷ of_word w.KwNull ∷ of_word w.KwNew
    ∷ of_symbol s.LeftParenthesis ∷ of_ident ∷ []

-- The kinds of tokens that may continue an expression.
abbrev pub expr_last : List ℕ
expr_last =
    of_word w.KwAnd ∷ of_word w.KwOr ∷ of_word w.KwXor ∷ of_symbol s.Equal ∷ of_symbol s.NotEqual ∷ of_symbol s.Less ∷ of_symbol s.LessEqual
    ∷ of_symbol s.Greater ∷ of_symbol s.GreaterEqual ∷ of_symbol s.Plus ∷ of_symbol s.Minus ∷ of_symbol s.Ampersand ∷ of_symbol s.Star
    ∷ of_symbol s.Slash ∷ of_word w.KwMod ∷ of_word w.KwRem ∷ of_symbol s.Dot ∷ of_symbol s.Apostrophe ∷ of_symbol s.LeftParenthesis ∷ []

abbrev pub arg_last : List ℕ
arg_last = of_symbol s.Arrow ∷ expr_last

-- ---- the levels of nesting

-- How many more constructs may be open.
abbrev pub levels : ℕ → ℕ
levels d = NESTING - d

-- An expression around which `d` constructs are open, where it and what stands further in have so
-- many levels. One that has no level is not reached: what would open it exceeds the limit.
unfoldable pub expr_of : ℕ → ℕ → Reader Expr
expr_of zero d = λ k ts. Fails OverLimit ts
expr_of (suc left) d = expr_in d (expr_of left (suc d))

-- An expression around which so many constructs are open.
unfoldable pub expr : ℕ → Reader Expr
expr d = expr_of (suc NESTING - d) d

-- A name around which so many constructs are open, on either side of an expression's border.
unfoldable pub name_at : Side → ℕ → Reader Name
name_at side d = name_in side d (expr (suc d))

-- An arg in parentheses, around which so many constructs are open with them.
unfoldable pub arg_at : Side → ℕ → Reader Arg
arg_at side d = arg_in side (expr d)

unfoldable pub next_arg_at : Side → ℕ → Reader NextArg
next_arg_at side d = next_arg_in side (expr d)

abbrev pub next_args_at : Side → ℕ → Reader (List NextArg)
next_args_at side d = many (of_symbol s.Comma ∷ []) (next_arg_at side d)
