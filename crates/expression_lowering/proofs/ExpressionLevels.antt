-- What each alternative of expressions and names stands for, with boxes as what they hold and lists
-- as lists.
use Rattle.std.proofs.Common.{◌≡◌, refl, ap, ◌∙◌, ℕ, List, ◌∷◌, map, None, Some}
use denote.Hole.Carrier.{hidden}
use Rattle.spark_base.specs.declared.position.Pos.{Pos}
use Rattle.ada_tree.specs.declared.operator.Sign.{Sign}
use Rattle.ada_tree.specs.declared.operator.RelationalOperator.{RelationalOperator}
use Rattle.ada_tree.specs.declared.operator.AddingOperator.{AddingOperator}
use Rattle.ada_tree.specs.declared.operator.MultiplyingOperator.{MultiplyingOperator}
use Rattle.ada_tree.specs.declared.identifier.Identifier.{Identifier}
use Rattle.ada_tree.specs.declared.identifier.Dotted.{Dotted}
use Rattle.ada_tree.specs.declared.expression.Aggregate.{Aggregate, Row_of-NextArg, end_of-NextArg, more_of-NextArg, items-the_row-NextArg, items_hidden-the_row-NextArg-1}
use Rattle.ada_tree.specs.declared.expression.Expr.{Expr, Row_of-Operand, end_of-Operand, more_of-Operand, items-the_row-Operand, items_hidden-the_row-Operand-4, Row_of-ShortOperand, end_of-ShortOperand, more_of-ShortOperand, items-the_row-ShortOperand, items_hidden-the_row-ShortOperand-5}
use Rattle.ada_tree.specs.declared.expression.Sum.{Sum, Row_of-NextTerm, end_of-NextTerm, more_of-NextTerm, items-the_row-NextTerm, items_hidden-the_row-NextTerm-10}
use Rattle.ada_tree.specs.declared.expression.Term.{Term, Row_of-NextFactor, end_of-NextFactor, more_of-NextFactor, items-the_row-NextFactor, items_hidden-the_row-NextFactor-11}
use Rattle.ada_tree.specs.declared.expression.Name.{Name, Row_of-Suffix, end_of-Suffix, more_of-Suffix, items-the_row-Suffix, items_hidden-the_row-Suffix-6}
use Rattle.ada_tree.specs.declared.expression.Aggregate.TheVariants as aggregate
use Rattle.ada_tree.specs.declared.expression.Arg.{Arg}
use Rattle.ada_tree.specs.declared.expression.Arg.TheVariants as arg
use Rattle.ada_tree.specs.declared.expression.NextArg.{NextArg}
use Rattle.ada_tree.specs.declared.expression.NextArg.TheVariants as next_arg
use Rattle.ada_tree.specs.declared.expression.Expr.TheVariants as expr
use Rattle.ada_tree.specs.declared.expression.Operand.{Operand}
use Rattle.ada_tree.specs.declared.expression.Operand.TheVariants as operand
use Rattle.ada_tree.specs.declared.expression.ShortOperand.{ShortOperand}
use Rattle.ada_tree.specs.declared.expression.ShortOperand.TheVariants as short_operand
use Rattle.ada_tree.specs.declared.expression.Rel.{Rel}
use Rattle.ada_tree.specs.declared.expression.Rel.TheVariants as rel
use Rattle.ada_tree.specs.declared.expression.Sum.TheVariants as sum
use Rattle.ada_tree.specs.declared.expression.NextTerm.{NextTerm}
use Rattle.ada_tree.specs.declared.expression.NextTerm.TheVariants as next_term
use Rattle.ada_tree.specs.declared.expression.Term.TheVariants as term
use Rattle.ada_tree.specs.declared.expression.NextFactor.{NextFactor}
use Rattle.ada_tree.specs.declared.expression.NextFactor.TheVariants as next_factor
use Rattle.ada_tree.specs.declared.expression.Factor.{Factor}
use Rattle.ada_tree.specs.declared.expression.Factor.TheVariants as factor
use Rattle.ada_tree.specs.declared.expression.Primary.{Primary}
use Rattle.ada_tree.specs.declared.expression.Primary.TheVariants as primary
use Rattle.ada_tree.specs.declared.expression.Name.TheVariants as name
use Rattle.ada_tree.specs.declared.expression.Suffix.{Suffix}
use Rattle.ada_tree.specs.declared.expression.Suffix.TheVariants as suffix
use Rattle.ada_tree.specs.declared.expression.Aggregate.TheBlock.{shape-the_row-Arg-0, hidden-the_row-Arg-0, shape-the_row-Expr-2, hidden-the_row-Expr-2, shape-the_row-Rel-3, hidden-the_row-Rel-3, shape-the_row-Name-7, hidden-the_row-Name-7, shape-the_row-Aggregate-8, hidden-the_row-Aggregate-8, shape-the_row-Sum-9, hidden-the_row-Sum-9, hidden-the_row-NextArg-1, hidden-the_row-Operand-4, hidden-the_row-ShortOperand-5, hidden-the_row-Suffix-6, hidden-the_row-NextTerm-10, hidden-the_row-NextFactor-11}
use Rattle.resolved_tree.specs.declared.operator.Operator.{Operator}
use Rattle.resolved_tree.specs.declared.operator.Operator.TheVariants as op
use Rattle.resolved_tree.specs.declared.operator.UnaryOperator.TheVariants as unary
use Rattle.resolved_tree.specs.declared.operator.Attribute.TheVariants as attribute
use Rattle.resolved_tree.specs.Trees.{Tree}
use Rattle.resolved_tree.specs.Trees as t
use Rattle.expression_lowering.specs.LoweredExpressions.{Numbers, mark_of, sign_operator, relational_operator, adding_operator, multiplying_operator, attribute_of, chained, selected_number, before_others, selected_numbers, leading_numbers, named, lowered_name, lowered_suffixes, lowered_suffix, box_before, args_row, next_arg_before, arg_before, lowered_expr_box, lowered_expr, operands_row, lowered_operand, short_operands_row, lowered_short_operand, lowered_rel_box, lowered_rel, lowered_sum_box, lowered_sum, terms_row, lowered_next_term, lowered_term, factors_row, lowered_next_factor, lowered_factor, lowered_primary, lowered_name_box, lowered_aggregate_box, lowered_aggregate, further_args, lowered_args}

lowered_suffixes_items : {n : _} (numbers : Numbers) (row : Row_of-Suffix n) → lowered_suffixes numbers row ≡ map (lowered_suffix numbers) (items-the_row-Suffix n row)
unfolding lowered_suffixes
lowered_suffixes_items numbers end_of-Suffix = refl
lowered_suffixes_items numbers (more_of-Suffix part rest) = ap (λ ts. lowered_suffix numbers part ∷ ts) (lowered_suffixes_items numbers rest)

lowered_suffixes_listed : (numbers : Numbers) (parts : List Suffix) → lowered_suffixes numbers (hidden-the_row-Suffix-6 parts) ≡ map (lowered_suffix numbers) parts
lowered_suffixes_listed numbers parts = lowered_suffixes_items numbers (hidden-the_row-Suffix-6 parts) ∙ ap (map (lowered_suffix numbers)) (items_hidden-the_row-Suffix-6 parts)

operands_row_items : {n : _} (numbers : Numbers) (by : Operator) (row : Row_of-Operand n) → operands_row numbers by row ≡ map (lowered_operand numbers by) (items-the_row-Operand n row)
unfolding operands_row
operands_row_items numbers by end_of-Operand = refl
operands_row_items numbers by (more_of-Operand part rest) = ap (λ ts. lowered_operand numbers by part ∷ ts) (operands_row_items numbers by rest)

operands_row_listed : (numbers : Numbers) (by : Operator) (parts : List Operand) → operands_row numbers by (hidden-the_row-Operand-4 parts) ≡ map (lowered_operand numbers by) parts
operands_row_listed numbers by parts = operands_row_items numbers by (hidden-the_row-Operand-4 parts) ∙ ap (map (lowered_operand numbers by)) (items_hidden-the_row-Operand-4 parts)

short_operands_row_items : {n : _} (numbers : Numbers) (by : Operator) (row : Row_of-ShortOperand n) → short_operands_row numbers by row ≡ map (lowered_short_operand numbers by) (items-the_row-ShortOperand n row)
unfolding short_operands_row
short_operands_row_items numbers by end_of-ShortOperand = refl
short_operands_row_items numbers by (more_of-ShortOperand part rest) = ap (λ ts. lowered_short_operand numbers by part ∷ ts) (short_operands_row_items numbers by rest)

short_operands_row_listed : (numbers : Numbers) (by : Operator) (parts : List ShortOperand) → short_operands_row numbers by (hidden-the_row-ShortOperand-5 parts) ≡ map (lowered_short_operand numbers by) parts
short_operands_row_listed numbers by parts = short_operands_row_items numbers by (hidden-the_row-ShortOperand-5 parts) ∙ ap (map (lowered_short_operand numbers by)) (items_hidden-the_row-ShortOperand-5 parts)

terms_row_items : {n : _} (numbers : Numbers) (row : Row_of-NextTerm n) → terms_row numbers row ≡ map (lowered_next_term numbers) (items-the_row-NextTerm n row)
unfolding terms_row
terms_row_items numbers end_of-NextTerm = refl
terms_row_items numbers (more_of-NextTerm part rest) = ap (λ ts. lowered_next_term numbers part ∷ ts) (terms_row_items numbers rest)

terms_row_listed : (numbers : Numbers) (parts : List NextTerm) → terms_row numbers (hidden-the_row-NextTerm-10 parts) ≡ map (lowered_next_term numbers) parts
terms_row_listed numbers parts = terms_row_items numbers (hidden-the_row-NextTerm-10 parts) ∙ ap (map (lowered_next_term numbers)) (items_hidden-the_row-NextTerm-10 parts)

factors_row_items : {n : _} (numbers : Numbers) (row : Row_of-NextFactor n) → factors_row numbers row ≡ map (lowered_next_factor numbers) (items-the_row-NextFactor n row)
unfolding factors_row
factors_row_items numbers end_of-NextFactor = refl
factors_row_items numbers (more_of-NextFactor part rest) = ap (λ ts. lowered_next_factor numbers part ∷ ts) (factors_row_items numbers rest)

factors_row_listed : (numbers : Numbers) (parts : List NextFactor) → factors_row numbers (hidden-the_row-NextFactor-11 parts) ≡ map (lowered_next_factor numbers) parts
factors_row_listed numbers parts = factors_row_items numbers (hidden-the_row-NextFactor-11 parts) ∙ ap (map (lowered_next_factor numbers)) (items_hidden-the_row-NextFactor-11 parts)

args_row_items : {n : _} (numbers : Numbers) (row : Row_of-NextArg n) → args_row numbers row ≡ further_args numbers (items-the_row-NextArg n row)
unfolding args_row
args_row_items numbers end_of-NextArg = refl
args_row_items numbers (more_of-NextArg part rest) = ap (λ others. next_arg_before numbers others part) (args_row_items numbers rest)

args_row_listed : (numbers : Numbers) (parts : List NextArg) → args_row numbers (hidden-the_row-NextArg-1 parts) ≡ further_args numbers parts
args_row_listed numbers parts = args_row_items numbers (hidden-the_row-NextArg-1 parts) ∙ ap (further_args numbers) (items_hidden-the_row-NextArg-1 parts)

selected_numbers_items : {n : _} (numbers : Numbers) (row : Row_of-Suffix n) → selected_numbers numbers row ≡ leading_numbers numbers (items-the_row-Suffix n row)
unfolding selected_numbers
selected_numbers_items numbers end_of-Suffix = refl
selected_numbers_items numbers (more_of-Suffix part rest) = ap (before_others (selected_number numbers part)) (selected_numbers_items numbers rest)

selected_numbers_listed : (numbers : Numbers) (parts : List Suffix) → selected_numbers numbers (hidden-the_row-Suffix-6 parts) ≡ leading_numbers numbers parts
selected_numbers_listed numbers parts = selected_numbers_items numbers (hidden-the_row-Suffix-6 parts) ∙ ap (leading_numbers numbers) (items_hidden-the_row-Suffix-6 parts)

pub name-Prefixed : (numbers : Numbers) (pos : Pos) (first : Identifier) (rest : List Suffix) → lowered_name numbers (name.Prefixed pos first rest) ≡ named numbers pos first (leading_numbers numbers rest) (map (lowered_suffix numbers) rest)
unfolding lowered_name
name-Prefixed numbers pos first rest = ap (λ ns. named numbers pos first ns (lowered_suffixes numbers (hidden-the_row-Suffix-6 rest))) (selected_numbers_listed numbers rest)
    ∙ ap (named numbers pos first (leading_numbers numbers rest)) (lowered_suffixes_listed numbers rest)

pub suffix-Selected : (numbers : Numbers) (pos : Pos) (selector : Identifier) → lowered_suffix numbers (suffix.Selected pos selector) ≡ t.Selected selector.text
unfolding lowered_suffix
suffix-Selected numbers pos selector = refl

pub suffix-Dereferenced : (numbers : Numbers) (pos : Pos) (all : Pos) → lowered_suffix numbers (suffix.Dereferenced pos all) ≡ t.All
unfolding lowered_suffix
suffix-Dereferenced numbers pos all = refl

pub suffix-Applied : (numbers : Numbers) (pos : Pos) (first : Arg) (rest : List NextArg) (right_paren : Pos) → lowered_suffix numbers (suffix.Applied pos first rest right_paren) ≡ t.Applied (lowered_args numbers first rest)
unfolding lowered_suffix box_before hidden-the_row-Arg-0 shape-the_row-Arg-0 hidden
suffix-Applied numbers pos first rest right_paren = ap (λ others. t.Applied (arg_before numbers others first)) (args_row_listed numbers rest)

pub suffix-Attribute : (numbers : Numbers) (pos : Pos) (id : Identifier) → lowered_suffix numbers (suffix.Attribute pos id) ≡ t.Attr (attribute_of id)
unfolding lowered_suffix
suffix-Attribute numbers pos id = refl

pub suffix-RangeAttribute : (numbers : Numbers) (pos : Pos) (range : Pos) → lowered_suffix numbers (suffix.RangeAttribute pos range) ≡ t.Attr attribute.Range
unfolding lowered_suffix
suffix-RangeAttribute numbers pos range = refl

pub next_arg-FurtherArg : (numbers : Numbers) (others : Tree) (pos : Pos) (part : Arg) → next_arg_before numbers others (next_arg.FurtherArg pos part) ≡ arg_before numbers others part
unfolding next_arg_before box_before hidden-the_row-Arg-0 shape-the_row-Arg-0 hidden
next_arg-FurtherArg numbers others pos part = refl

pub arg-Positional : (numbers : Numbers) (others : Tree) (pos : Pos) (value : Expr) → arg_before numbers others (arg.Positional pos value) ≡ t.Argument None (lowered_expr numbers value) others
unfolding arg_before lowered_expr_box hidden-the_row-Expr-2 shape-the_row-Expr-2 hidden
arg-Positional numbers others pos value = refl

pub arg-Association : (numbers : Numbers) (others : Tree) (pos : Pos) (id : Identifier) (arrow : Pos) (value : Expr) → arg_before numbers others (arg.Association pos id arrow value) ≡ t.Argument (Some id.text) (lowered_expr numbers value) others
unfolding arg_before lowered_expr_box hidden-the_row-Expr-2 shape-the_row-Expr-2 hidden
arg-Association numbers others pos id arrow value = refl

pub expr-LoneRelation : (numbers : Numbers) (pos : Pos) (relation : Rel) → lowered_expr numbers (expr.LoneRelation pos relation) ≡ lowered_rel numbers relation
unfolding lowered_expr lowered_rel_box hidden-the_row-Rel-3 shape-the_row-Rel-3 hidden
expr-LoneRelation numbers pos relation = refl

pub expr-And : (numbers : Numbers) (pos : Pos) (first : Rel) (operator : Pos) (second : Rel) (rest : List Operand) → lowered_expr numbers (expr.And pos first operator second rest) ≡ chained pos (t.Binary pos op.And (lowered_rel numbers first) (lowered_rel numbers second)) (map (lowered_operand numbers op.And) rest)
unfolding lowered_expr lowered_rel_box hidden-the_row-Rel-3 shape-the_row-Rel-3 hidden
expr-And numbers pos first operator second rest = ap (chained pos (t.Binary pos op.And (lowered_rel numbers first) (lowered_rel numbers second))) (operands_row_listed numbers op.And rest)

pub expr-Or : (numbers : Numbers) (pos : Pos) (first : Rel) (operator : Pos) (second : Rel) (rest : List Operand) → lowered_expr numbers (expr.Or pos first operator second rest) ≡ chained pos (t.Binary pos op.Or (lowered_rel numbers first) (lowered_rel numbers second)) (map (lowered_operand numbers op.Or) rest)
unfolding lowered_expr lowered_rel_box hidden-the_row-Rel-3 shape-the_row-Rel-3 hidden
expr-Or numbers pos first operator second rest = ap (chained pos (t.Binary pos op.Or (lowered_rel numbers first) (lowered_rel numbers second))) (operands_row_listed numbers op.Or rest)

pub expr-Xor : (numbers : Numbers) (pos : Pos) (first : Rel) (operator : Pos) (second : Rel) (rest : List Operand) → lowered_expr numbers (expr.Xor pos first operator second rest) ≡ chained pos (t.Binary pos op.Xor (lowered_rel numbers first) (lowered_rel numbers second)) (map (lowered_operand numbers op.Xor) rest)
unfolding lowered_expr lowered_rel_box hidden-the_row-Rel-3 shape-the_row-Rel-3 hidden
expr-Xor numbers pos first operator second rest = ap (chained pos (t.Binary pos op.Xor (lowered_rel numbers first) (lowered_rel numbers second))) (operands_row_listed numbers op.Xor rest)

pub expr-AndThen : (numbers : Numbers) (pos : Pos) (first : Rel) (operator : Pos) (behind : Pos) (second : Rel) (rest : List ShortOperand) → lowered_expr numbers (expr.AndThen pos first operator behind second rest) ≡ chained pos (t.Binary pos op.AndThen (lowered_rel numbers first) (lowered_rel numbers second)) (map (lowered_short_operand numbers op.AndThen) rest)
unfolding lowered_expr lowered_rel_box hidden-the_row-Rel-3 shape-the_row-Rel-3 hidden
expr-AndThen numbers pos first operator behind second rest = ap (chained pos (t.Binary pos op.AndThen (lowered_rel numbers first) (lowered_rel numbers second))) (short_operands_row_listed numbers op.AndThen rest)

pub expr-OrElse : (numbers : Numbers) (pos : Pos) (first : Rel) (operator : Pos) (behind : Pos) (second : Rel) (rest : List ShortOperand) → lowered_expr numbers (expr.OrElse pos first operator behind second rest) ≡ chained pos (t.Binary pos op.OrElse (lowered_rel numbers first) (lowered_rel numbers second)) (map (lowered_short_operand numbers op.OrElse) rest)
unfolding lowered_expr lowered_rel_box hidden-the_row-Rel-3 shape-the_row-Rel-3 hidden
expr-OrElse numbers pos first operator behind second rest = ap (chained pos (t.Binary pos op.OrElse (lowered_rel numbers first) (lowered_rel numbers second))) (short_operands_row_listed numbers op.OrElse rest)

pub operand-FurtherOperand : (numbers : Numbers) (by : Operator) (pos : Pos) (relation : Rel) → lowered_operand numbers by (operand.FurtherOperand pos relation) ≡ (by, lowered_rel numbers relation)
unfolding lowered_operand lowered_rel_box hidden-the_row-Rel-3 shape-the_row-Rel-3 hidden
operand-FurtherOperand numbers by pos relation = refl

pub short_operand-FurtherShortOperand : (numbers : Numbers) (by : Operator) (pos : Pos) (second_word : Pos) (relation : Rel) → lowered_short_operand numbers by (short_operand.FurtherShortOperand pos second_word relation) ≡ (by, lowered_rel numbers relation)
unfolding lowered_short_operand lowered_rel_box hidden-the_row-Rel-3 shape-the_row-Rel-3 hidden
short_operand-FurtherShortOperand numbers by pos second_word relation = refl

pub rel-LoneSum : (numbers : Numbers) (pos : Pos) (operand : Sum) → lowered_rel numbers (rel.LoneSum pos operand) ≡ lowered_sum numbers operand
unfolding lowered_rel
rel-LoneSum numbers pos operand = refl

pub rel-Compared : (numbers : Numbers) (pos : Pos) (left : Sum) (operator : RelationalOperator) (operator_pos : Pos) (right : Sum) → lowered_rel numbers (rel.Compared pos left operator operator_pos right) ≡ t.Binary pos (relational_operator operator) (lowered_sum numbers left) (lowered_sum numbers right)
unfolding lowered_rel lowered_sum_box hidden-the_row-Sum-9 shape-the_row-Sum-9 hidden
rel-Compared numbers pos left operator operator_pos right = refl

pub sum-Unsigned : (numbers : Numbers) (pos : Pos) (first : Term) (rest : List NextTerm) → lowered_sum numbers (sum.Unsigned pos first rest) ≡ chained pos (lowered_term numbers first) (map (lowered_next_term numbers) rest)
unfolding lowered_sum
sum-Unsigned numbers pos first rest = ap (chained pos (lowered_term numbers first)) (terms_row_listed numbers rest)

pub sum-Signed : (numbers : Numbers) (pos : Pos) (sign : Sign) (first : Term) (rest : List NextTerm) → lowered_sum numbers (sum.Signed pos sign first rest) ≡ chained pos (t.Unary pos (sign_operator sign) (lowered_term numbers first)) (map (lowered_next_term numbers) rest)
unfolding lowered_sum
sum-Signed numbers pos sign first rest = ap (chained pos (t.Unary pos (sign_operator sign) (lowered_term numbers first))) (terms_row_listed numbers rest)

pub next_term-FurtherTerm : (numbers : Numbers) (pos : Pos) (operator : AddingOperator) (part : Term) → lowered_next_term numbers (next_term.FurtherTerm pos operator part) ≡ (adding_operator operator, lowered_term numbers part)
unfolding lowered_next_term
next_term-FurtherTerm numbers pos operator part = refl

pub term-Product : (numbers : Numbers) (pos : Pos) (first : Factor) (rest : List NextFactor) → lowered_term numbers (term.Product pos first rest) ≡ chained pos (lowered_factor numbers first) (map (lowered_next_factor numbers) rest)
unfolding lowered_term
term-Product numbers pos first rest = ap (chained pos (lowered_factor numbers first)) (factors_row_listed numbers rest)

pub next_factor-FurtherFactor : (numbers : Numbers) (pos : Pos) (operator : MultiplyingOperator) (part : Factor) → lowered_next_factor numbers (next_factor.FurtherFactor pos operator part) ≡ (multiplying_operator operator, lowered_factor numbers part)
unfolding lowered_next_factor
next_factor-FurtherFactor numbers pos operator part = refl

pub factor-LonePrimary : (numbers : Numbers) (pos : Pos) (operand : Primary) → lowered_factor numbers (factor.LonePrimary pos operand) ≡ lowered_primary numbers operand
unfolding lowered_factor
factor-LonePrimary numbers pos operand = refl

pub factor-Abs : (numbers : Numbers) (pos : Pos) (operand : Primary) → lowered_factor numbers (factor.Abs pos operand) ≡ t.Unary pos unary.Abs (lowered_primary numbers operand)
unfolding lowered_factor
factor-Abs numbers pos operand = refl

pub factor-Not : (numbers : Numbers) (pos : Pos) (operand : Primary) → lowered_factor numbers (factor.Not pos operand) ≡ t.Unary pos unary.Not (lowered_primary numbers operand)
unfolding lowered_factor
factor-Not numbers pos operand = refl

pub primary-Number : (numbers : Numbers) (pos : Pos) (value : ℕ) → lowered_primary numbers (primary.Number pos value) ≡ t.Number pos value
unfolding lowered_primary
primary-Number numbers pos value = refl

pub primary-Text : (numbers : Numbers) (pos : Pos) (text : List ℕ) → lowered_primary numbers (primary.Text pos text) ≡ t.Text pos text
unfolding lowered_primary
primary-Text numbers pos text = refl

pub primary-Null : (numbers : Numbers) (pos : Pos) → lowered_primary numbers (primary.Null pos) ≡ t.Null pos
unfolding lowered_primary
primary-Null numbers pos = refl

pub primary-Named : (numbers : Numbers) (pos : Pos) (part : Name) → lowered_primary numbers (primary.Named pos part) ≡ lowered_name numbers part
unfolding lowered_primary lowered_name_box hidden-the_row-Name-7 shape-the_row-Name-7 hidden
primary-Named numbers pos part = refl

pub primary-Parenthesized : (numbers : Numbers) (pos : Pos) (part : Expr) (right_paren : Pos) → lowered_primary numbers (primary.Parenthesized pos part right_paren) ≡ t.Parens pos (lowered_expr numbers part)
unfolding lowered_primary lowered_expr_box hidden-the_row-Expr-2 shape-the_row-Expr-2 hidden
primary-Parenthesized numbers pos part right_paren = refl

pub primary-Aggregated : (numbers : Numbers) (pos : Pos) (part : Aggregate) → lowered_primary numbers (primary.Aggregated pos part) ≡ lowered_aggregate numbers part
unfolding lowered_primary lowered_aggregate_box hidden-the_row-Aggregate-8 shape-the_row-Aggregate-8 hidden
primary-Aggregated numbers pos part = refl

pub primary-Allocated : (numbers : Numbers) (pos : Pos) (mark : Dotted) → lowered_primary numbers (primary.Allocated pos mark) ≡ t.New pos (mark_of numbers mark) t.NoMore
unfolding lowered_primary
primary-Allocated numbers pos mark = refl

pub primary-AllocatedAggregate : (numbers : Numbers) (pos : Pos) (mark : Dotted) (apostrophe : Pos) (part : Aggregate) → lowered_primary numbers (primary.AllocatedAggregate pos mark apostrophe part) ≡ t.New pos (mark_of numbers mark) (t.Argument None (lowered_aggregate numbers part) t.NoMore)
unfolding lowered_primary lowered_aggregate_box hidden-the_row-Aggregate-8 shape-the_row-Aggregate-8 hidden
primary-AllocatedAggregate numbers pos mark apostrophe part = refl

pub primary-AllocatedValue : (numbers : Numbers) (pos : Pos) (mark : Dotted) (apostrophe : Pos) (left_paren : Pos) (value : Expr) (right_paren : Pos) → lowered_primary numbers (primary.AllocatedValue pos mark apostrophe left_paren value right_paren) ≡ t.New pos (mark_of numbers mark) (t.Argument None (lowered_expr numbers value) t.NoMore)
unfolding lowered_primary lowered_expr_box hidden-the_row-Expr-2 shape-the_row-Expr-2 hidden
primary-AllocatedValue numbers pos mark apostrophe left_paren value right_paren = refl

pub aggregate-Several : (numbers : Numbers) (pos : Pos) (first : Arg) (comma : Pos) (second : Arg) (rest : List NextArg) (right_paren : Pos) → lowered_aggregate numbers (aggregate.Several pos first comma second rest right_paren) ≡ t.Aggregate pos (arg_before numbers (lowered_args numbers second rest) first)
unfolding lowered_aggregate box_before hidden-the_row-Arg-0 shape-the_row-Arg-0 hidden
aggregate-Several numbers pos first comma second rest right_paren = ap (λ others. t.Aggregate pos (arg_before numbers (arg_before numbers others second) first)) (args_row_listed numbers rest)

pub aggregate-Single : (numbers : Numbers) (pos : Pos) (id : Identifier) (arrow : Pos) (value : Expr) (right_paren : Pos) → lowered_aggregate numbers (aggregate.Single pos id arrow value right_paren) ≡ t.Aggregate pos (t.Argument (Some id.text) (lowered_expr numbers value) t.NoMore)
unfolding lowered_aggregate lowered_expr_box hidden-the_row-Expr-2 shape-the_row-Expr-2 hidden
aggregate-Single numbers pos id arrow value right_paren = refl

pub aggregate-Others : (numbers : Numbers) (pos : Pos) (others : Pos) (arrow : Pos) (value : Expr) (right_paren : Pos) → lowered_aggregate numbers (aggregate.Others pos others arrow value right_paren) ≡ t.Others pos (lowered_expr numbers value)
unfolding lowered_aggregate lowered_expr_box hidden-the_row-Expr-2 shape-the_row-Expr-2 hidden
aggregate-Others numbers pos others arrow value right_paren = refl

pub ruleset expression_levels = (name-Prefixed, suffix-Selected, suffix-Dereferenced, suffix-Applied, suffix-Attribute, suffix-RangeAttribute, next_arg-FurtherArg, arg-Positional, arg-Association, expr-LoneRelation, expr-And, expr-Or, expr-Xor, expr-AndThen, expr-OrElse, operand-FurtherOperand, short_operand-FurtherShortOperand, rel-LoneSum, rel-Compared, sum-Unsigned, sum-Signed, next_term-FurtherTerm, term-Product, next_factor-FurtherFactor, factor-LonePrimary, factor-Abs, factor-Not, primary-Number, primary-Text, primary-Null, primary-Named, primary-Parenthesized, primary-Aggregated, primary-Allocated, primary-AllocatedAggregate, primary-AllocatedValue, aggregate-Several, aggregate-Single, aggregate-Others)
