-- The positions of the parts of each form of expression and name, with boxes as what they hold and
-- lists as lists.
use Rattle.std.proofs.Common.{◌≡◌, refl, ap, ℕ, suc, List}
use denote.Hole.Carrier.{hidden}
use Rattle.spark_base.specs.declared.position.Pos.{Pos}
use Rattle.ada_tree.specs.declared.operator.Sign.{Sign}
use Rattle.ada_tree.specs.declared.operator.RelationalOperator.{RelationalOperator}
use Rattle.ada_tree.specs.declared.operator.AddingOperator.{AddingOperator}
use Rattle.ada_tree.specs.declared.operator.MultiplyingOperator.{MultiplyingOperator}
use Rattle.ada_tree.specs.declared.identifier.Identifier.{Identifier}
use Rattle.ada_tree.specs.declared.identifier.Dotted.{Dotted}
use Rattle.ada_tree.specs.declared.expression.Aggregate.{Aggregate}
use Rattle.ada_tree.specs.declared.expression.Aggregate.TheVariants as aggregate
use Rattle.ada_tree.specs.declared.expression.Arg.{Arg}
use Rattle.ada_tree.specs.declared.expression.Arg.TheVariants as arg
use Rattle.ada_tree.specs.declared.expression.NextArg.{NextArg}
use Rattle.ada_tree.specs.declared.expression.NextArg.TheVariants as next_arg
use Rattle.ada_tree.specs.declared.expression.Expr.{Expr}
use Rattle.ada_tree.specs.declared.expression.Expr.TheVariants as expr
use Rattle.ada_tree.specs.declared.expression.Operand.{Operand}
use Rattle.ada_tree.specs.declared.expression.Operand.TheVariants as operand
use Rattle.ada_tree.specs.declared.expression.ShortOperand.{ShortOperand}
use Rattle.ada_tree.specs.declared.expression.ShortOperand.TheVariants as short_operand
use Rattle.ada_tree.specs.declared.expression.Rel.{Rel}
use Rattle.ada_tree.specs.declared.expression.Rel.TheVariants as rel
use Rattle.ada_tree.specs.declared.expression.Sum.{Sum}
use Rattle.ada_tree.specs.declared.expression.Sum.TheVariants as sum
use Rattle.ada_tree.specs.declared.expression.NextTerm.{NextTerm}
use Rattle.ada_tree.specs.declared.expression.NextTerm.TheVariants as next_term
use Rattle.ada_tree.specs.declared.expression.Term.{Term}
use Rattle.ada_tree.specs.declared.expression.Term.TheVariants as term
use Rattle.ada_tree.specs.declared.expression.NextFactor.{NextFactor}
use Rattle.ada_tree.specs.declared.expression.NextFactor.TheVariants as next_factor
use Rattle.ada_tree.specs.declared.expression.Factor.{Factor}
use Rattle.ada_tree.specs.declared.expression.Factor.TheVariants as factor
use Rattle.ada_tree.specs.declared.expression.Primary.{Primary}
use Rattle.ada_tree.specs.declared.expression.Primary.TheVariants as primary
use Rattle.ada_tree.specs.declared.expression.Name.{Name}
use Rattle.ada_tree.specs.declared.expression.Name.TheVariants as name
use Rattle.ada_tree.specs.declared.expression.Suffix.{Suffix}
use Rattle.ada_tree.specs.declared.expression.Suffix.TheVariants as suffix
use Rattle.ada_tree.specs.declared.expression.Aggregate.TheBlock.{hidden-the_row-Aggregate-8, hidden-the_row-Arg-0, hidden-the_row-Expr-2, hidden-the_row-Name-7, hidden-the_row-Rel-3, hidden-the_row-Sum-9, shape-the_row-Aggregate-8, shape-the_row-Arg-0, shape-the_row-Expr-2, shape-the_row-Name-7, shape-the_row-Rel-3, shape-the_row-Sum-9}
use Rattle.token_reading.specs.declared.side.Side.TheVariants.{Within}
use Rattle.token_reading.specs.Reading.{Each}
use Rattle.ada_tree.specs.Spelling.{aggregate_box, aggregate_spelling, expr_box, expr_spelling, factor_spelling, name_box, name_spelling, primary_spelling, rel_box, rel_spelling, sum_box, sum_spelling, term_spelling}
use Rattle.ada_tree.specs.WellPlaced.{StartsAt, AggregateBoxPlaced, AggregatePlaced, ArgBoxPlaced, ArgPlaced, DottedPlaced, ExprBoxPlaced, ExprPlaced, FactorPlaced, NameBoxPlaced, NamePlaced, NextArgPlaced, NextFactorPlaced, NextTermPlaced, OperandPlaced, PrimaryPlaced, RelBoxPlaced, RelPlaced, ShortOperandPlaced, SuffixPlaced, SumBoxPlaced, SumPlaced, TermPlaced}
use Rattle.ada_grammar.proofs.Placed.{next_arg-placed, next_factor-placed, next_term-placed, operand-placed, short_operand-placed, suffix-placed}

pub name-Prefixed-placed : (d : ℕ) (pos : Pos) (first : Identifier) (rest : List Suffix)
    → NamePlaced d (name.Prefixed pos first rest)
    ≡ ((first.pos ≡ pos) × Each (SuffixPlaced d) rest)
unfolding NamePlaced
name-Prefixed-placed d pos first rest = ap (λ P. (first.pos ≡ pos) × P) (suffix-placed d rest)

-- "." id
pub suffix-Selected-placed : (d : ℕ) (pos : Pos) (selector : Identifier)
    → SuffixPlaced d (suffix.Selected pos selector)
    ≡ Unit {0}
unfolding SuffixPlaced
suffix-Selected-placed d pos selector = refl

-- "." "all"
pub suffix-Dereferenced-placed : (d : ℕ) (pos : Pos) (all : Pos)
    → SuffixPlaced d (suffix.Dereferenced pos all)
    ≡ Unit {0}
unfolding SuffixPlaced
suffix-Dereferenced-placed d pos all = refl

-- "(" arg {"," arg} ")"
pub suffix-Applied-placed : (d : ℕ) (pos : Pos) (first : Arg) (rest : List NextArg) (right_paren : Pos)
    → SuffixPlaced d (suffix.Applied pos first rest right_paren)
    ≡ (ArgPlaced (suc d) first × Each (NextArgPlaced (suc d)) rest)
unfolding SuffixPlaced ArgBoxPlaced hidden-the_row-Arg-0 shape-the_row-Arg-0 hidden
suffix-Applied-placed d pos first rest right_paren = ap (λ P. ArgPlaced (suc d) first
    × P) (next_arg-placed (suc d) rest)

-- "'" id
pub suffix-Attribute-placed : (d : ℕ) (pos : Pos) (attribute : Identifier)
    → SuffixPlaced d (suffix.Attribute pos attribute)
    ≡ Unit {0}
unfolding SuffixPlaced
suffix-Attribute-placed d pos attribute = refl

-- "'" "range"
pub suffix-RangeAttribute-placed : (d : ℕ) (pos : Pos) (range : Pos)
    → SuffixPlaced d (suffix.RangeAttribute pos range)
    ≡ Unit {0}
unfolding SuffixPlaced
suffix-RangeAttribute-placed d pos range = refl

pub next_arg-FurtherArg-placed : (d : ℕ) (pos : Pos) (part : Arg)
    → NextArgPlaced d (next_arg.FurtherArg pos part)
    ≡ ArgPlaced d part
unfolding NextArgPlaced ArgBoxPlaced hidden-the_row-Arg-0 shape-the_row-Arg-0 hidden
next_arg-FurtherArg-placed d pos part = refl

-- arg = expr
pub arg-Positional-placed : (d : ℕ) (pos : Pos) (value : Expr)
    → ArgPlaced d (arg.Positional pos value)
    ≡ (StartsAt pos (expr_spelling d value) × ExprPlaced d value)
unfolding ArgPlaced expr_box ExprBoxPlaced hidden-the_row-Expr-2 shape-the_row-Expr-2 hidden
arg-Positional-placed d pos value = refl

-- arg = id "=>" expr
pub arg-Association-placed : (d : ℕ) (pos : Pos) (id : Identifier) (arrow : Pos) (value : Expr)
    → ArgPlaced d (arg.Association pos id arrow value)
    ≡ ((id.pos ≡ pos) × ExprPlaced d value)
unfolding ArgPlaced ExprBoxPlaced hidden-the_row-Expr-2 shape-the_row-Expr-2 hidden
arg-Association-placed d pos id arrow value = refl

-- expr = rel
pub expr-LoneRelation-placed : (d : ℕ) (pos : Pos) (relation : Rel)
    → ExprPlaced d (expr.LoneRelation pos relation)
    ≡ (StartsAt pos (rel_spelling d relation) × RelPlaced d relation)
unfolding ExprPlaced rel_box RelBoxPlaced hidden-the_row-Rel-3 shape-the_row-Rel-3 hidden
expr-LoneRelation-placed d pos relation = refl

-- expr = rel "and" rel {"and" rel}
pub expr-And-placed : (d : ℕ) (pos : Pos) (first : Rel) (and : Pos) (second : Rel) (rest : List Operand)
    → ExprPlaced d (expr.And pos first and second rest)
    ≡ (StartsAt pos (rel_spelling d first) × RelPlaced d first × RelPlaced d second × Each (OperandPlaced d) rest)
unfolding ExprPlaced rel_box RelBoxPlaced hidden-the_row-Rel-3 shape-the_row-Rel-3 hidden
expr-And-placed d pos first and second rest = ap (λ P. StartsAt pos (rel_spelling d first) × RelPlaced d first
    × RelPlaced d second × P) (operand-placed d rest)

-- expr = rel "or" rel {"or" rel}
pub expr-Or-placed : (d : ℕ) (pos : Pos) (first : Rel) (or : Pos) (second : Rel) (rest : List Operand)
    → ExprPlaced d (expr.Or pos first or second rest)
    ≡ (StartsAt pos (rel_spelling d first) × RelPlaced d first × RelPlaced d second × Each (OperandPlaced d) rest)
unfolding ExprPlaced rel_box RelBoxPlaced hidden-the_row-Rel-3 shape-the_row-Rel-3 hidden
expr-Or-placed d pos first or second rest = ap (λ P. StartsAt pos (rel_spelling d first) × RelPlaced d first
    × RelPlaced d second × P) (operand-placed d rest)

-- expr = rel "xor" rel {"xor" rel}
pub expr-Xor-placed : (d : ℕ) (pos : Pos) (first : Rel) (xor : Pos) (second : Rel) (rest : List Operand)
    → ExprPlaced d (expr.Xor pos first xor second rest)
    ≡ (StartsAt pos (rel_spelling d first) × RelPlaced d first × RelPlaced d second × Each (OperandPlaced d) rest)
unfolding ExprPlaced rel_box RelBoxPlaced hidden-the_row-Rel-3 shape-the_row-Rel-3 hidden
expr-Xor-placed d pos first xor second rest = ap (λ P. StartsAt pos (rel_spelling d first) × RelPlaced d first
    × RelPlaced d second × P) (operand-placed d rest)

-- expr = rel "and" "then" rel {"and" "then" rel}
pub expr-AndThen-placed : (d : ℕ) (pos : Pos) (first : Rel) (and : Pos) (then : Pos) (second : Rel)
    (rest : List ShortOperand)
    → ExprPlaced d (expr.AndThen pos first and then second rest)
    ≡ (StartsAt pos (rel_spelling d first) × RelPlaced d first × RelPlaced d second × Each (ShortOperandPlaced d) rest)
unfolding ExprPlaced rel_box RelBoxPlaced hidden-the_row-Rel-3 shape-the_row-Rel-3 hidden
expr-AndThen-placed d pos first and then second rest = ap (λ P. StartsAt pos (rel_spelling d first) × RelPlaced d first
    × RelPlaced d second × P) (short_operand-placed d rest)

-- expr = rel "or" "else" rel {"or" "else" rel}
pub expr-OrElse-placed : (d : ℕ) (pos : Pos) (first : Rel) (or : Pos) (otherwise : Pos) (second : Rel)
    (rest : List ShortOperand)
    → ExprPlaced d (expr.OrElse pos first or otherwise second rest)
    ≡ (StartsAt pos (rel_spelling d first) × RelPlaced d first × RelPlaced d second × Each (ShortOperandPlaced d) rest)
unfolding ExprPlaced rel_box RelBoxPlaced hidden-the_row-Rel-3 shape-the_row-Rel-3 hidden
expr-OrElse-placed d pos first or otherwise second rest = ap (λ P. StartsAt pos (rel_spelling d first) × RelPlaced d first
    × RelPlaced d second × P) (short_operand-placed d rest)

pub operand-FurtherOperand-placed : (d : ℕ) (pos : Pos) (relation : Rel)
    → OperandPlaced d (operand.FurtherOperand pos relation)
    ≡ RelPlaced d relation
unfolding OperandPlaced RelBoxPlaced hidden-the_row-Rel-3 shape-the_row-Rel-3 hidden
operand-FurtherOperand-placed d pos relation = refl

pub short_operand-FurtherShortOperand-placed : (d : ℕ) (pos : Pos) (second_word : Pos) (relation : Rel)
    → ShortOperandPlaced d (short_operand.FurtherShortOperand pos second_word relation)
    ≡ RelPlaced d relation
unfolding ShortOperandPlaced RelBoxPlaced hidden-the_row-Rel-3 shape-the_row-Rel-3 hidden
short_operand-FurtherShortOperand-placed d pos second_word relation = refl

-- rel = sum
pub rel-LoneSum-placed : (d : ℕ) (pos : Pos) (operand : Sum)
    → RelPlaced d (rel.LoneSum pos operand)
    ≡ (StartsAt pos (sum_spelling d operand) × SumPlaced d operand)
unfolding RelPlaced
rel-LoneSum-placed d pos operand = refl

-- rel = sum ("=" | "/=" | "<" | "<=" | ">" | ">=") sum
pub rel-Compared-placed : (d : ℕ) (pos : Pos) (left : Sum) (operator : RelationalOperator) (operator_pos : Pos)
    (right : Sum)
    → RelPlaced d (rel.Compared pos left operator operator_pos right)
    ≡ (StartsAt pos (sum_spelling d left) × SumPlaced d left × SumPlaced d right)
unfolding RelPlaced sum_box SumBoxPlaced hidden-the_row-Sum-9 shape-the_row-Sum-9 hidden
rel-Compared-placed d pos left operator operator_pos right = refl

-- sum = term {("+" | "-" | "&") term}
pub sum-Unsigned-placed : (d : ℕ) (pos : Pos) (first : Term) (rest : List NextTerm)
    → SumPlaced d (sum.Unsigned pos first rest)
    ≡ (StartsAt pos (term_spelling d first) × TermPlaced d first × Each (NextTermPlaced d) rest)
unfolding SumPlaced
sum-Unsigned-placed d pos first rest = ap (λ P. StartsAt pos (term_spelling d first) × TermPlaced d first
    × P) (next_term-placed d rest)

-- sum = ("+" | "-") term {("+" | "-" | "&") term}
pub sum-Signed-placed : (d : ℕ) (pos : Pos) (sign : Sign) (first : Term) (rest : List NextTerm)
    → SumPlaced d (sum.Signed pos sign first rest)
    ≡ (TermPlaced d first × Each (NextTermPlaced d) rest)
unfolding SumPlaced
sum-Signed-placed d pos sign first rest = ap (λ P. TermPlaced d first × P) (next_term-placed d rest)

pub next_term-FurtherTerm-placed : (d : ℕ) (pos : Pos) (operator : AddingOperator) (part : Term)
    → NextTermPlaced d (next_term.FurtherTerm pos operator part)
    ≡ TermPlaced d part
unfolding NextTermPlaced
next_term-FurtherTerm-placed d pos operator part = refl

pub term-Product-placed : (d : ℕ) (pos : Pos) (first : Factor) (rest : List NextFactor)
    → TermPlaced d (term.Product pos first rest)
    ≡ (StartsAt pos (factor_spelling d first) × FactorPlaced d first × Each (NextFactorPlaced d) rest)
unfolding TermPlaced
term-Product-placed d pos first rest = ap (λ P. StartsAt pos (factor_spelling d first) × FactorPlaced d first
    × P) (next_factor-placed d rest)

pub next_factor-FurtherFactor-placed : (d : ℕ) (pos : Pos) (operator : MultiplyingOperator) (part : Factor)
    → NextFactorPlaced d (next_factor.FurtherFactor pos operator part)
    ≡ FactorPlaced d part
unfolding NextFactorPlaced
next_factor-FurtherFactor-placed d pos operator part = refl

-- factor = primary
pub factor-LonePrimary-placed : (d : ℕ) (pos : Pos) (operand : Primary)
    → FactorPlaced d (factor.LonePrimary pos operand)
    ≡ (StartsAt pos (primary_spelling d operand) × PrimaryPlaced d operand)
unfolding FactorPlaced
factor-LonePrimary-placed d pos operand = refl

-- factor = "abs" primary
pub factor-Abs-placed : (d : ℕ) (pos : Pos) (operand : Primary)
    → FactorPlaced d (factor.Abs pos operand)
    ≡ PrimaryPlaced d operand
unfolding FactorPlaced
factor-Abs-placed d pos operand = refl

-- factor = "not" primary
pub factor-Not-placed : (d : ℕ) (pos : Pos) (operand : Primary)
    → FactorPlaced d (factor.Not pos operand)
    ≡ PrimaryPlaced d operand
unfolding FactorPlaced
factor-Not-placed d pos operand = refl

-- primary = number
pub primary-Number-placed : (d : ℕ) (pos : Pos) (number : ℕ)
    → PrimaryPlaced d (primary.Number pos number)
    ≡ Unit {0}
unfolding PrimaryPlaced
primary-Number-placed d pos number = refl

-- primary = string
pub primary-Text-placed : (d : ℕ) (pos : Pos) (text : List ℕ)
    → PrimaryPlaced d (primary.Text pos text)
    ≡ Unit {0}
unfolding PrimaryPlaced
primary-Text-placed d pos text = refl

-- primary = "null"
pub primary-Null-placed : (d : ℕ) (pos : Pos)
    → PrimaryPlaced d (primary.Null pos)
    ≡ Unit {0}
unfolding PrimaryPlaced
primary-Null-placed d pos = refl

-- primary = name
pub primary-Named-placed : (d : ℕ) (pos : Pos) (part : Name)
    → PrimaryPlaced d (primary.Named pos part)
    ≡ (StartsAt pos (name_spelling Within d part) × NamePlaced d part)
unfolding PrimaryPlaced name_box NameBoxPlaced hidden-the_row-Name-7 shape-the_row-Name-7 hidden
primary-Named-placed d pos part = refl

-- primary = "(" expr ")"
pub primary-Parenthesized-placed : (d : ℕ) (pos : Pos) (part : Expr) (right_paren : Pos)
    → PrimaryPlaced d (primary.Parenthesized pos part right_paren)
    ≡ ExprPlaced (suc d) part
unfolding PrimaryPlaced ExprBoxPlaced hidden-the_row-Expr-2 shape-the_row-Expr-2 hidden
primary-Parenthesized-placed d pos part right_paren = refl

-- primary = aggregate
pub primary-Aggregated-placed : (d : ℕ) (pos : Pos) (part : Aggregate)
    → PrimaryPlaced d (primary.Aggregated pos part)
    ≡ (StartsAt pos (aggregate_spelling d part) × AggregatePlaced d part)
unfolding PrimaryPlaced aggregate_box AggregateBoxPlaced hidden-the_row-Aggregate-8 shape-the_row-Aggregate-8 hidden
primary-Aggregated-placed d pos part = refl

-- primary = "new" mark
pub primary-Allocated-placed : (d : ℕ) (pos : Pos) (mark : Dotted)
    → PrimaryPlaced d (primary.Allocated pos mark)
    ≡ DottedPlaced mark
unfolding PrimaryPlaced
primary-Allocated-placed d pos mark = refl

-- primary = "new" mark "'" aggregate
pub primary-AllocatedAggregate-placed : (d : ℕ) (pos : Pos) (mark : Dotted) (apostrophe : Pos) (part : Aggregate)
    → PrimaryPlaced d (primary.AllocatedAggregate pos mark apostrophe part)
    ≡ (DottedPlaced mark × AggregatePlaced d part)
unfolding PrimaryPlaced AggregateBoxPlaced hidden-the_row-Aggregate-8 shape-the_row-Aggregate-8 hidden
primary-AllocatedAggregate-placed d pos mark apostrophe part = refl

-- primary = "new" mark "'" "(" expr ")"
pub primary-AllocatedValue-placed : (d : ℕ) (pos : Pos) (mark : Dotted) (apostrophe : Pos) (left_paren : Pos)
    (value : Expr) (right_paren : Pos)
    → PrimaryPlaced d (primary.AllocatedValue pos mark apostrophe left_paren value right_paren)
    ≡ (DottedPlaced mark × ExprPlaced (suc d) value)
unfolding PrimaryPlaced ExprBoxPlaced hidden-the_row-Expr-2 shape-the_row-Expr-2 hidden
primary-AllocatedValue-placed d pos mark apostrophe left_paren value right_paren = refl

-- aggregate = "(" arg "," arg {"," arg} ")"
pub aggregate-Several-placed : (d : ℕ) (pos : Pos) (first : Arg) (comma : Pos) (second : Arg) (rest : List NextArg)
    (right_paren : Pos)
    → AggregatePlaced d (aggregate.Several pos first comma second rest right_paren)
    ≡ (ArgPlaced (suc d) first × ArgPlaced (suc d) second × Each (NextArgPlaced (suc d)) rest)
unfolding AggregatePlaced ArgBoxPlaced hidden-the_row-Arg-0 shape-the_row-Arg-0 hidden
aggregate-Several-placed d pos first comma second rest right_paren = ap (λ P. ArgPlaced (suc d) first
    × ArgPlaced (suc d) second × P) (next_arg-placed (suc d) rest)

-- aggregate = "(" id "=>" expr ")"
pub aggregate-Single-placed : (d : ℕ) (pos : Pos) (id : Identifier) (arrow : Pos) (value : Expr) (right_paren : Pos)
    → AggregatePlaced d (aggregate.Single pos id arrow value right_paren)
    ≡ ExprPlaced (suc d) value
unfolding AggregatePlaced ExprBoxPlaced hidden-the_row-Expr-2 shape-the_row-Expr-2 hidden
aggregate-Single-placed d pos id arrow value right_paren = refl

-- aggregate = "(" "others" "=>" expr ")"
pub aggregate-Others-placed : (d : ℕ) (pos : Pos) (others : Pos) (arrow : Pos) (value : Expr) (right_paren : Pos)
    → AggregatePlaced d (aggregate.Others pos others arrow value right_paren)
    ≡ ExprPlaced (suc d) value
unfolding AggregatePlaced ExprBoxPlaced hidden-the_row-Expr-2 shape-the_row-Expr-2 hidden
aggregate-Others-placed d pos others arrow value right_paren = refl
