-- The spelling of each form of expression and name, with boxes as what they hold and lists as
-- lists.
use Rattle.std.proofs.Common.{◌≡◌, refl, ap, ◌∙◌, ℕ, suc, List, [], ◌∷◌, ◌++◌}
use denote.Hole.Carrier.{hidden}
use Rattle.std.specs.List.{flat_map}
use Rattle.spark_base.specs.declared.position.Pos.{Pos}
use Rattle.ada_lexer.specs.declared.token.Reserved.{Reserved}
use Rattle.ada_lexer.specs.declared.token.Reserved.TheVariants as w
use Rattle.ada_lexer.specs.declared.token.Symbol.TheVariants as s
use Rattle.ada_tree.specs.declared.operator.Sign.{Sign}
use Rattle.ada_tree.specs.declared.operator.RelationalOperator.{RelationalOperator}
use Rattle.ada_tree.specs.declared.operator.AddingOperator.{AddingOperator}
use Rattle.ada_tree.specs.declared.operator.MultiplyingOperator.{MultiplyingOperator}
use Rattle.ada_tree.specs.declared.identifier.Identifier.{Identifier}
use Rattle.ada_tree.specs.declared.identifier.Dotted.{Dotted}
use Rattle.ada_tree.specs.declared.expression.Aggregate.{Aggregate, Row_of-NextArg, end_of-NextArg, more_of-NextArg, items-the_row-NextArg, items_hidden-the_row-NextArg-1}
use Rattle.ada_tree.specs.declared.expression.Aggregate.TheVariants as aggregate
use Rattle.ada_tree.specs.declared.expression.Arg.{Arg}
use Rattle.ada_tree.specs.declared.expression.Arg.TheVariants as arg
use Rattle.ada_tree.specs.declared.expression.NextArg.{NextArg}
use Rattle.ada_tree.specs.declared.expression.NextArg.TheVariants as next_arg
use Rattle.ada_tree.specs.declared.expression.Expr.{Expr, Row_of-Operand, end_of-Operand, more_of-Operand, items-the_row-Operand, items_hidden-the_row-Operand-4, Row_of-ShortOperand, end_of-ShortOperand, more_of-ShortOperand, items-the_row-ShortOperand, items_hidden-the_row-ShortOperand-5}
use Rattle.ada_tree.specs.declared.expression.Expr.TheVariants as expr
use Rattle.ada_tree.specs.declared.expression.Operand.{Operand}
use Rattle.ada_tree.specs.declared.expression.Operand.TheVariants as operand
use Rattle.ada_tree.specs.declared.expression.ShortOperand.{ShortOperand}
use Rattle.ada_tree.specs.declared.expression.ShortOperand.TheVariants as short_operand
use Rattle.ada_tree.specs.declared.expression.Rel.{Rel}
use Rattle.ada_tree.specs.declared.expression.Rel.TheVariants as rel
use Rattle.ada_tree.specs.declared.expression.Sum.{Sum, Row_of-NextTerm, end_of-NextTerm, more_of-NextTerm, items-the_row-NextTerm, items_hidden-the_row-NextTerm-10}
use Rattle.ada_tree.specs.declared.expression.Sum.TheVariants as sum
use Rattle.ada_tree.specs.declared.expression.NextTerm.{NextTerm}
use Rattle.ada_tree.specs.declared.expression.NextTerm.TheVariants as next_term
use Rattle.ada_tree.specs.declared.expression.Term.{Term, Row_of-NextFactor, end_of-NextFactor, more_of-NextFactor, items-the_row-NextFactor, items_hidden-the_row-NextFactor-11}
use Rattle.ada_tree.specs.declared.expression.Term.TheVariants as term
use Rattle.ada_tree.specs.declared.expression.NextFactor.{NextFactor}
use Rattle.ada_tree.specs.declared.expression.NextFactor.TheVariants as next_factor
use Rattle.ada_tree.specs.declared.expression.Factor.{Factor}
use Rattle.ada_tree.specs.declared.expression.Factor.TheVariants as factor
use Rattle.ada_tree.specs.declared.expression.Primary.{Primary}
use Rattle.ada_tree.specs.declared.expression.Primary.TheVariants as primary
use Rattle.ada_tree.specs.declared.expression.Name.{Name, Row_of-Suffix, end_of-Suffix, more_of-Suffix, items-the_row-Suffix, items_hidden-the_row-Suffix-6}
use Rattle.ada_tree.specs.declared.expression.Name.TheVariants as name
use Rattle.ada_tree.specs.declared.expression.Suffix.{Suffix}
use Rattle.ada_tree.specs.declared.expression.Suffix.TheVariants as suffix
use Rattle.token_reading.specs.Spelled.{Word, Number, Str, Delimiter}
use Rattle.token_reading.specs.declared.side.Side.{Side}
use Rattle.token_reading.specs.declared.side.Side.TheVariants.{Within}
use Rattle.token_reading.specs.Weights.{plain, opens, operates}
use Rattle.ada_tree.specs.Spelling.{word, symbol, id_mark, dotted_spelling, relational_symbol, sign_symbol, adding_symbol, multiplying_token, aggregate_box, aggregate_spelling, arg_box, arg_spelling, expr_box, expr_spelling, factor_spelling, name_box, name_spelling, next_arg_spelling, next_args_spelling, next_factor_spelling, next_factors_spelling, next_term_spelling, next_terms_spelling, operand_spelling, operands_spelling, primary_spelling, rel_box, rel_spelling, short_operand_spelling, short_operands_spelling, suffix_spelling, suffixes_spelling, sum_box, sum_spelling, term_spelling}
use Rattle.ada_tree.specs.declared.expression.Aggregate.TheBlock.{shape-the_row-Arg-0, hidden-the_row-Arg-0, shape-the_row-Expr-2, hidden-the_row-Expr-2, shape-the_row-Rel-3, hidden-the_row-Rel-3, shape-the_row-Name-7, hidden-the_row-Name-7, shape-the_row-Aggregate-8, hidden-the_row-Aggregate-8, shape-the_row-Sum-9, hidden-the_row-Sum-9, hidden-the_row-NextArg-1, hidden-the_row-Operand-4, hidden-the_row-ShortOperand-5, hidden-the_row-Suffix-6, hidden-the_row-NextTerm-10, hidden-the_row-NextFactor-11}

-- ---- lists

next_args_row : {n : _} (side : Side) (d : ℕ) (row : Row_of-NextArg n)
    → next_args_spelling side d row ≡ flat_map (next_arg_spelling side d) (items-the_row-NextArg n row)
unfolding next_args_spelling
next_args_row side d end_of-NextArg = refl
next_args_row side d (more_of-NextArg part rest) = ap (λ spelling. next_arg_spelling side d part ++ spelling) (next_args_row side d rest)

next_args_listed : (side : Side) (d : ℕ) (parts : List NextArg)
    → next_args_spelling side d (hidden-the_row-NextArg-1 parts) ≡ flat_map (next_arg_spelling side d) parts
next_args_listed side d parts =
    next_args_row side d (hidden-the_row-NextArg-1 parts) ∙ ap (flat_map (next_arg_spelling side d))
    (items_hidden-the_row-NextArg-1 parts)

operands_row : {n : _} (d : ℕ) (v : Reserved) (row : Row_of-Operand n)
    → operands_spelling d v row ≡ flat_map (operand_spelling d v) (items-the_row-Operand n row)
unfolding operands_spelling
operands_row d v end_of-Operand = refl
operands_row d v (more_of-Operand part rest) = ap (λ spelling. operand_spelling d v part ++ spelling) (operands_row d v rest)

operands_listed : (d : ℕ) (v : Reserved) (parts : List Operand)
    → operands_spelling d v (hidden-the_row-Operand-4 parts) ≡ flat_map (operand_spelling d v) parts
operands_listed d v parts =
    operands_row d v (hidden-the_row-Operand-4 parts) ∙ ap (flat_map (operand_spelling d v)) (items_hidden-the_row-Operand-4 parts)

short_operands_row : {n : _} (d : ℕ) (v u : Reserved) (row : Row_of-ShortOperand n)
    → short_operands_spelling d v u row ≡ flat_map (short_operand_spelling d v u) (items-the_row-ShortOperand n row)
unfolding short_operands_spelling
short_operands_row d v u end_of-ShortOperand = refl
short_operands_row d v u (more_of-ShortOperand part rest) = ap (λ spelling. short_operand_spelling d v u part
    ++ spelling) (short_operands_row d v u rest)

short_operands_listed : (d : ℕ) (v u : Reserved) (parts : List ShortOperand)
    → short_operands_spelling d v u (hidden-the_row-ShortOperand-5 parts) ≡ flat_map (short_operand_spelling d v u) parts
short_operands_listed d v u parts =
    short_operands_row d v u (hidden-the_row-ShortOperand-5 parts) ∙ ap (flat_map (short_operand_spelling d v u))
    (items_hidden-the_row-ShortOperand-5 parts)

suffixes_row : {n : _} (side : Side) (d : ℕ) (row : Row_of-Suffix n)
    → suffixes_spelling side d row ≡ flat_map (suffix_spelling side d) (items-the_row-Suffix n row)
unfolding suffixes_spelling
suffixes_row side d end_of-Suffix = refl
suffixes_row side d (more_of-Suffix part rest) = ap (λ spelling. suffix_spelling side d part ++ spelling) (suffixes_row side d rest)

suffixes_listed : (side : Side) (d : ℕ) (parts : List Suffix)
    → suffixes_spelling side d (hidden-the_row-Suffix-6 parts) ≡ flat_map (suffix_spelling side d) parts
suffixes_listed side d parts =
    suffixes_row side d (hidden-the_row-Suffix-6 parts) ∙ ap (flat_map (suffix_spelling side d))
    (items_hidden-the_row-Suffix-6 parts)

next_terms_row : {n : _} (d : ℕ) (row : Row_of-NextTerm n)
    → next_terms_spelling d row ≡ flat_map (next_term_spelling d) (items-the_row-NextTerm n row)
unfolding next_terms_spelling
next_terms_row d end_of-NextTerm = refl
next_terms_row d (more_of-NextTerm part rest) = ap (λ spelling. next_term_spelling d part ++ spelling) (next_terms_row d rest)

next_terms_listed : (d : ℕ) (parts : List NextTerm)
    → next_terms_spelling d (hidden-the_row-NextTerm-10 parts) ≡ flat_map (next_term_spelling d) parts
next_terms_listed d parts =
    next_terms_row d (hidden-the_row-NextTerm-10 parts) ∙ ap (flat_map (next_term_spelling d))
    (items_hidden-the_row-NextTerm-10 parts)

next_factors_row : {n : _} (d : ℕ) (row : Row_of-NextFactor n)
    → next_factors_spelling d row ≡ flat_map (next_factor_spelling d) (items-the_row-NextFactor n row)
unfolding next_factors_spelling
next_factors_row d end_of-NextFactor = refl
next_factors_row d (more_of-NextFactor part rest) = ap (λ spelling. next_factor_spelling d part ++ spelling) (next_factors_row d rest)

next_factors_listed : (d : ℕ) (parts : List NextFactor)
    → next_factors_spelling d (hidden-the_row-NextFactor-11 parts) ≡ flat_map (next_factor_spelling d) parts
next_factors_listed d parts =
    next_factors_row d (hidden-the_row-NextFactor-11 parts) ∙ ap (flat_map (next_factor_spelling d))
    (items_hidden-the_row-NextFactor-11 parts)

-- ---- the alternatives

pub name-Prefixed : (side : Side) (d : ℕ) (pos : Pos) (first : Identifier) (rest : List Suffix)
    → name_spelling side d (name.Prefixed pos first rest)
    ≡ id_mark side first ∷ flat_map (suffix_spelling side d) rest
unfolding name_spelling
name-Prefixed side d pos first rest = ap (λ spelling. id_mark side first ∷ spelling) (suffixes_listed side d rest)

-- "." id
pub suffix-Selected : (side : Side) (d : ℕ) (pos : Pos) (selector : Identifier)
    → suffix_spelling side d (suffix.Selected pos selector)
    ≡ symbol side s.Dot pos ∷ id_mark side selector ∷ []
unfolding suffix_spelling
suffix-Selected side d pos selector = refl

-- "." "all"
pub suffix-Dereferenced : (side : Side) (d : ℕ) (pos : Pos) (all : Pos)
    → suffix_spelling side d (suffix.Dereferenced pos all)
    ≡ symbol side s.Dot pos ∷ word side w.KwAll all ∷ []
unfolding suffix_spelling
suffix-Dereferenced side d pos all = refl

-- "(" arg {"," arg} ")"
pub suffix-Applied : (side : Side) (d : ℕ) (pos : Pos) (first : Arg) (rest : List NextArg) (right_paren : Pos)
    → suffix_spelling side d (suffix.Applied pos first rest right_paren)
    ≡ opens side d (Delimiter s.LeftParenthesis pos) ∷ (arg_spelling side (suc d) first
    ++ (flat_map (next_arg_spelling side (suc d)) rest ++ (symbol side s.RightParenthesis right_paren ∷ [])))
unfolding suffix_spelling arg_box hidden-the_row-Arg-0 shape-the_row-Arg-0 hidden
suffix-Applied side d pos first rest right_paren = ap (λ spelling. opens side d (Delimiter s.LeftParenthesis pos)
    ∷ (arg_spelling side (suc d) first ++ (spelling
    ++ (symbol side s.RightParenthesis right_paren ∷ [])))) (next_args_listed side (suc d) rest)

-- "'" id
pub suffix-Attribute : (side : Side) (d : ℕ) (pos : Pos) (attribute : Identifier)
    → suffix_spelling side d (suffix.Attribute pos attribute)
    ≡ symbol side s.Apostrophe pos ∷ id_mark side attribute ∷ []
unfolding suffix_spelling
suffix-Attribute side d pos attribute = refl

-- "'" "range"
pub suffix-RangeAttribute : (side : Side) (d : ℕ) (pos : Pos) (range : Pos)
    → suffix_spelling side d (suffix.RangeAttribute pos range)
    ≡ symbol side s.Apostrophe pos ∷ word side w.KwRange range ∷ []
unfolding suffix_spelling
suffix-RangeAttribute side d pos range = refl

pub next_arg-FurtherArg : (side : Side) (d : ℕ) (pos : Pos) (part : Arg)
    → next_arg_spelling side d (next_arg.FurtherArg pos part)
    ≡ symbol side s.Comma pos ∷ arg_spelling side d part
unfolding next_arg_spelling arg_box hidden-the_row-Arg-0 shape-the_row-Arg-0 hidden
next_arg-FurtherArg side d pos part = refl

-- arg = expr
pub arg-Positional : (side : Side) (d : ℕ) (pos : Pos) (value : Expr)
    → arg_spelling side d (arg.Positional pos value)
    ≡ expr_spelling d value
unfolding arg_spelling expr_box hidden-the_row-Expr-2 shape-the_row-Expr-2 hidden
arg-Positional side d pos value = refl

-- arg = id "=>" expr
pub arg-Association : (side : Side) (d : ℕ) (pos : Pos) (id : Identifier) (arrow : Pos) (value : Expr)
    → arg_spelling side d (arg.Association pos id arrow value)
    ≡ id_mark Within id ∷ symbol side s.Arrow arrow ∷ expr_spelling d value
unfolding arg_spelling expr_box hidden-the_row-Expr-2 shape-the_row-Expr-2 hidden
arg-Association side d pos id arrow value = refl

-- expr = rel
pub expr-LoneRelation : (d : ℕ) (pos : Pos) (relation : Rel)
    → expr_spelling d (expr.LoneRelation pos relation)
    ≡ rel_spelling d relation
unfolding expr_spelling rel_box hidden-the_row-Rel-3 shape-the_row-Rel-3 hidden
expr-LoneRelation d pos relation = refl

-- expr = rel "and" rel {"and" rel}
pub expr-And : (d : ℕ) (pos : Pos) (first : Rel) (and : Pos) (second : Rel) (rest : List Operand)
    → expr_spelling d (expr.And pos first and second rest)
    ≡ rel_spelling d first ++ (operates (Word w.KwAnd and) ∷ (rel_spelling d second ++ flat_map (operand_spelling d w.KwAnd) rest))
unfolding expr_spelling rel_box hidden-the_row-Rel-3 shape-the_row-Rel-3 hidden
expr-And d pos first and second rest = ap (λ spelling. rel_spelling d first ++ (operates (Word w.KwAnd and) ∷ (rel_spelling d second
    ++ spelling))) (operands_listed d w.KwAnd rest)

-- expr = rel "or" rel {"or" rel}
pub expr-Or : (d : ℕ) (pos : Pos) (first : Rel) (or : Pos) (second : Rel) (rest : List Operand)
    → expr_spelling d (expr.Or pos first or second rest)
    ≡ rel_spelling d first ++ (operates (Word w.KwOr or) ∷ (rel_spelling d second ++ flat_map (operand_spelling d w.KwOr) rest))
unfolding expr_spelling rel_box hidden-the_row-Rel-3 shape-the_row-Rel-3 hidden
expr-Or d pos first or second rest = ap (λ spelling. rel_spelling d first ++ (operates (Word w.KwOr or) ∷ (rel_spelling d second
    ++ spelling))) (operands_listed d w.KwOr rest)

-- expr = rel "xor" rel {"xor" rel}
pub expr-Xor : (d : ℕ) (pos : Pos) (first : Rel) (xor : Pos) (second : Rel) (rest : List Operand)
    → expr_spelling d (expr.Xor pos first xor second rest)
    ≡ rel_spelling d first ++ (operates (Word w.KwXor xor) ∷ (rel_spelling d second ++ flat_map (operand_spelling d w.KwXor) rest))
unfolding expr_spelling rel_box hidden-the_row-Rel-3 shape-the_row-Rel-3 hidden
expr-Xor d pos first xor second rest = ap (λ spelling. rel_spelling d first ++ (operates (Word w.KwXor xor) ∷ (rel_spelling d second
    ++ spelling))) (operands_listed d w.KwXor rest)

-- expr = rel "and" "then" rel {"and" "then" rel}
pub expr-AndThen : (d : ℕ) (pos : Pos) (first : Rel) (and : Pos) (then : Pos) (second : Rel) (rest : List ShortOperand)
    → expr_spelling d (expr.AndThen pos first and then second rest)
    ≡ rel_spelling d first ++ (operates (Word w.KwAnd and) ∷ word Within w.KwThen then ∷ (rel_spelling d second
    ++ flat_map (short_operand_spelling d w.KwAnd w.KwThen) rest))
unfolding expr_spelling rel_box hidden-the_row-Rel-3 shape-the_row-Rel-3 hidden
expr-AndThen d pos first and then second rest = ap (λ spelling. rel_spelling d first
    ++ (operates (Word w.KwAnd and) ∷ word Within w.KwThen then ∷ (rel_spelling d second
    ++ spelling))) (short_operands_listed d w.KwAnd w.KwThen rest)

-- expr = rel "or" "else" rel {"or" "else" rel}
pub expr-OrElse : (d : ℕ) (pos : Pos) (first : Rel) (or : Pos) (otherwise : Pos) (second : Rel) (rest : List ShortOperand)
    → expr_spelling d (expr.OrElse pos first or otherwise second rest)
    ≡ rel_spelling d first ++ (operates (Word w.KwOr or) ∷ word Within w.KwElse otherwise ∷ (rel_spelling d second
    ++ flat_map (short_operand_spelling d w.KwOr w.KwElse) rest))
unfolding expr_spelling rel_box hidden-the_row-Rel-3 shape-the_row-Rel-3 hidden
expr-OrElse d pos first or otherwise second rest = ap (λ spelling. rel_spelling d first
    ++ (operates (Word w.KwOr or) ∷ word Within w.KwElse otherwise ∷ (rel_spelling d second
    ++ spelling))) (short_operands_listed d w.KwOr w.KwElse rest)

pub operand-FurtherOperand : (d : ℕ) (v : Reserved) (pos : Pos) (relation : Rel)
    → operand_spelling d v (operand.FurtherOperand pos relation)
    ≡ operates (Word v pos) ∷ rel_spelling d relation
unfolding operand_spelling rel_box hidden-the_row-Rel-3 shape-the_row-Rel-3 hidden
operand-FurtherOperand d v pos relation = refl

pub short_operand-FurtherShortOperand : (d : ℕ) (v : Reserved) (u : Reserved) (pos : Pos) (second_word : Pos) (relation : Rel)
    → short_operand_spelling d v u (short_operand.FurtherShortOperand pos second_word relation)
    ≡ operates (Word v pos) ∷ word Within u second_word ∷ rel_spelling d relation
unfolding short_operand_spelling rel_box hidden-the_row-Rel-3 shape-the_row-Rel-3 hidden
short_operand-FurtherShortOperand d v u pos second_word relation = refl

-- rel = sum
pub rel-LoneSum : (d : ℕ) (pos : Pos) (operand : Sum)
    → rel_spelling d (rel.LoneSum pos operand)
    ≡ sum_spelling d operand
unfolding rel_spelling
rel-LoneSum d pos operand = refl

-- rel = sum ("=" | "/=" | "<" | "<=" | ">" | ">=") sum
pub rel-Compared : (d : ℕ) (pos : Pos) (left : Sum) (operator : RelationalOperator) (operator_pos : Pos) (right : Sum)
    → rel_spelling d (rel.Compared pos left operator operator_pos right)
    ≡ sum_spelling d left ++ (operates (Delimiter (relational_symbol operator) operator_pos) ∷ sum_spelling d right)
unfolding rel_spelling sum_box hidden-the_row-Sum-9 shape-the_row-Sum-9 hidden
rel-Compared d pos left operator operator_pos right = refl

-- sum = term {("+" | "-" | "&") term}
pub sum-Unsigned : (d : ℕ) (pos : Pos) (first : Term) (rest : List NextTerm)
    → sum_spelling d (sum.Unsigned pos first rest)
    ≡ term_spelling d first ++ flat_map (next_term_spelling d) rest
unfolding sum_spelling
sum-Unsigned d pos first rest = ap (λ spelling. term_spelling d first ++ spelling) (next_terms_listed d rest)

-- sum = ("+" | "-") term {("+" | "-" | "&") term}
pub sum-Signed : (d : ℕ) (pos : Pos) (sign : Sign) (first : Term) (rest : List NextTerm)
    → sum_spelling d (sum.Signed pos sign first rest)
    ≡ operates (Delimiter (sign_symbol sign) pos) ∷ (term_spelling d first ++ flat_map (next_term_spelling d) rest)
unfolding sum_spelling
sum-Signed d pos sign first rest = ap (λ spelling. operates (Delimiter (sign_symbol sign) pos) ∷ (term_spelling d first
    ++ spelling)) (next_terms_listed d rest)

pub next_term-FurtherTerm : (d : ℕ) (pos : Pos) (operator : AddingOperator) (part : Term)
    → next_term_spelling d (next_term.FurtherTerm pos operator part)
    ≡ operates (Delimiter (adding_symbol operator) pos) ∷ term_spelling d part
unfolding next_term_spelling
next_term-FurtherTerm d pos operator part = refl

pub term-Product : (d : ℕ) (pos : Pos) (first : Factor) (rest : List NextFactor)
    → term_spelling d (term.Product pos first rest)
    ≡ factor_spelling d first ++ flat_map (next_factor_spelling d) rest
unfolding term_spelling
term-Product d pos first rest = ap (λ spelling. factor_spelling d first ++ spelling) (next_factors_listed d rest)

pub next_factor-FurtherFactor : (d : ℕ) (pos : Pos) (operator : MultiplyingOperator) (part : Factor)
    → next_factor_spelling d (next_factor.FurtherFactor pos operator part)
    ≡ operates (multiplying_token operator pos) ∷ factor_spelling d part
unfolding next_factor_spelling
next_factor-FurtherFactor d pos operator part = refl

-- factor = primary
pub factor-LonePrimary : (d : ℕ) (pos : Pos) (operand : Primary)
    → factor_spelling d (factor.LonePrimary pos operand)
    ≡ primary_spelling d operand
unfolding factor_spelling
factor-LonePrimary d pos operand = refl

-- factor = "abs" primary
pub factor-Abs : (d : ℕ) (pos : Pos) (operand : Primary)
    → factor_spelling d (factor.Abs pos operand)
    ≡ operates (Word w.KwAbs pos) ∷ primary_spelling d operand
unfolding factor_spelling
factor-Abs d pos operand = refl

-- factor = "not" primary
pub factor-Not : (d : ℕ) (pos : Pos) (operand : Primary)
    → factor_spelling d (factor.Not pos operand)
    ≡ operates (Word w.KwNot pos) ∷ primary_spelling d operand
unfolding factor_spelling
factor-Not d pos operand = refl

-- primary = number
pub primary-Number : (d : ℕ) (pos : Pos) (number : ℕ)
    → primary_spelling d (primary.Number pos number)
    ≡ plain Within (Number number pos) ∷ []
unfolding primary_spelling
primary-Number d pos number = refl

-- primary = string
pub primary-Text : (d : ℕ) (pos : Pos) (text : List ℕ)
    → primary_spelling d (primary.Text pos text)
    ≡ plain Within (Str pos text) ∷ []
unfolding primary_spelling
primary-Text d pos text = refl

-- primary = "null"
pub primary-Null : (d : ℕ) (pos : Pos)
    → primary_spelling d (primary.Null pos)
    ≡ word Within w.KwNull pos ∷ []
unfolding primary_spelling
primary-Null d pos = refl

-- primary = name
pub primary-Named : (d : ℕ) (pos : Pos) (part : Name)
    → primary_spelling d (primary.Named pos part)
    ≡ name_spelling Within d part
unfolding primary_spelling name_box hidden-the_row-Name-7 shape-the_row-Name-7 hidden
primary-Named d pos part = refl

-- primary = "(" expr ")"
pub primary-Parenthesized : (d : ℕ) (pos : Pos) (part : Expr) (right_paren : Pos)
    → primary_spelling d (primary.Parenthesized pos part right_paren)
    ≡ opens Within d (Delimiter s.LeftParenthesis pos) ∷ (expr_spelling (suc d) part
    ++ (symbol Within s.RightParenthesis right_paren ∷ []))
unfolding primary_spelling expr_box hidden-the_row-Expr-2 shape-the_row-Expr-2 hidden
primary-Parenthesized d pos part right_paren = refl

-- primary = aggregate
pub primary-Aggregated : (d : ℕ) (pos : Pos) (part : Aggregate)
    → primary_spelling d (primary.Aggregated pos part)
    ≡ aggregate_spelling d part
unfolding primary_spelling aggregate_box hidden-the_row-Aggregate-8 shape-the_row-Aggregate-8 hidden
primary-Aggregated d pos part = refl

-- primary = "new" mark
pub primary-Allocated : (d : ℕ) (pos : Pos) (mark : Dotted)
    → primary_spelling d (primary.Allocated pos mark)
    ≡ word Within w.KwNew pos ∷ dotted_spelling Within mark
unfolding primary_spelling
primary-Allocated d pos mark = refl

-- primary = "new" mark "'" aggregate
pub primary-AllocatedAggregate : (d : ℕ) (pos : Pos) (mark : Dotted) (apostrophe : Pos) (part : Aggregate)
    → primary_spelling d (primary.AllocatedAggregate pos mark apostrophe part)
    ≡ word Within w.KwNew pos ∷ (dotted_spelling Within mark ++ (symbol Within s.Apostrophe apostrophe ∷ aggregate_spelling d part))
unfolding primary_spelling aggregate_box hidden-the_row-Aggregate-8 shape-the_row-Aggregate-8 hidden
primary-AllocatedAggregate d pos mark apostrophe part = refl

-- primary = "new" mark "'" "(" expr ")"
pub primary-AllocatedValue : (d : ℕ) (pos : Pos) (mark : Dotted) (apostrophe : Pos) (left_paren : Pos) (value : Expr)
    (right_paren : Pos)
    → primary_spelling d (primary.AllocatedValue pos mark apostrophe left_paren value right_paren)
    ≡ word Within w.KwNew pos ∷ (dotted_spelling Within mark
    ++ (symbol Within s.Apostrophe apostrophe ∷ opens Within d (Delimiter s.LeftParenthesis left_paren)
    ∷ (expr_spelling (suc d) value ++ (symbol Within s.RightParenthesis right_paren ∷ []))))
unfolding primary_spelling expr_box hidden-the_row-Expr-2 shape-the_row-Expr-2 hidden
primary-AllocatedValue d pos mark apostrophe left_paren value right_paren = refl

-- aggregate = "(" arg "," arg {"," arg} ")"
pub aggregate-Several : (d : ℕ) (pos : Pos) (first : Arg) (comma : Pos) (second : Arg) (rest : List NextArg) (right_paren : Pos)
    → aggregate_spelling d (aggregate.Several pos first comma second rest right_paren)
    ≡ opens Within d (Delimiter s.LeftParenthesis pos) ∷ (arg_spelling Within (suc d) first
    ++ (symbol Within s.Comma comma ∷ (arg_spelling Within (suc d) second ++ (flat_map (next_arg_spelling Within (suc d)) rest
    ++ (symbol Within s.RightParenthesis right_paren ∷ [])))))
unfolding aggregate_spelling arg_box hidden-the_row-Arg-0 shape-the_row-Arg-0 hidden
aggregate-Several d pos first comma second rest right_paren = ap (λ spelling. opens Within d (Delimiter s.LeftParenthesis pos)
    ∷ (arg_spelling Within (suc d) first ++ (symbol Within s.Comma comma ∷ (arg_spelling Within (suc d) second ++ (spelling
    ++ (symbol Within s.RightParenthesis right_paren ∷ [])))))) (next_args_listed Within (suc d) rest)

-- aggregate = "(" id "=>" expr ")"
pub aggregate-Single : (d : ℕ) (pos : Pos) (id : Identifier) (arrow : Pos) (value : Expr) (right_paren : Pos)
    → aggregate_spelling d (aggregate.Single pos id arrow value right_paren)
    ≡ opens Within d (Delimiter s.LeftParenthesis pos) ∷ id_mark Within id ∷ symbol Within s.Arrow arrow
    ∷ (expr_spelling (suc d) value ++ (symbol Within s.RightParenthesis right_paren ∷ []))
unfolding aggregate_spelling expr_box hidden-the_row-Expr-2 shape-the_row-Expr-2 hidden
aggregate-Single d pos id arrow value right_paren = refl

-- aggregate = "(" "others" "=>" expr ")"
pub aggregate-Others : (d : ℕ) (pos : Pos) (others : Pos) (arrow : Pos) (value : Expr) (right_paren : Pos)
    → aggregate_spelling d (aggregate.Others pos others arrow value right_paren)
    ≡ opens Within d (Delimiter s.LeftParenthesis pos) ∷ word Within w.KwOthers others ∷ symbol Within s.Arrow arrow
    ∷ (expr_spelling (suc d) value ++ (symbol Within s.RightParenthesis right_paren ∷ []))
unfolding aggregate_spelling expr_box hidden-the_row-Expr-2 shape-the_row-Expr-2 hidden
aggregate-Others d pos others arrow value right_paren = refl
