-- Each expression and name is of one of the forms of the grammar.
use Rattle.std.proofs.Common.{sym, subst, ℕ, List}
use Rattle.spark_base.specs.declared.position.Pos.{Pos}
use Rattle.ada_tree.specs.declared.identifier.Identifier.{Identifier}
use Rattle.ada_tree.specs.declared.identifier.Dotted.{Dotted}
use Rattle.ada_tree.specs.declared.operator.Sign.{Sign}
use Rattle.ada_tree.specs.declared.operator.RelationalOperator.{RelationalOperator}
use Rattle.ada_tree.specs.declared.operator.AddingOperator.{AddingOperator}
use Rattle.ada_tree.specs.declared.operator.MultiplyingOperator.{MultiplyingOperator}
use Rattle.ada_tree.specs.declared.expression.Aggregate.{Aggregate, roll-Aggregate, out-Aggregate, roll-out-Aggregate}
use Rattle.ada_tree.specs.declared.expression.Aggregate.TheVariants as of_aggregate
use Rattle.ada_tree.specs.declared.expression.Arg.{Arg, roll-Arg, out-Arg, roll-out-Arg}
use Rattle.ada_tree.specs.declared.expression.Arg.TheVariants as of_arg
use Rattle.ada_tree.specs.declared.expression.Expr.{Expr, roll-Expr, out-Expr, roll-out-Expr}
use Rattle.ada_tree.specs.declared.expression.Expr.TheVariants as of_expr
use Rattle.ada_tree.specs.declared.expression.Factor.{Factor, roll-Factor, out-Factor, roll-out-Factor}
use Rattle.ada_tree.specs.declared.expression.Factor.TheVariants as of_factor
use Rattle.ada_tree.specs.declared.expression.Name.{Name, roll-Name, out-Name, roll-out-Name}
use Rattle.ada_tree.specs.declared.expression.Name.TheVariants as of_name
use Rattle.ada_tree.specs.declared.expression.NextArg.{NextArg, roll-NextArg, out-NextArg, roll-out-NextArg}
use Rattle.ada_tree.specs.declared.expression.NextArg.TheVariants as of_next_arg
use Rattle.ada_tree.specs.declared.expression.NextFactor.{NextFactor, roll-NextFactor, out-NextFactor, roll-out-NextFactor}
use Rattle.ada_tree.specs.declared.expression.NextFactor.TheVariants as of_next_factor
use Rattle.ada_tree.specs.declared.expression.NextTerm.{NextTerm, roll-NextTerm, out-NextTerm, roll-out-NextTerm}
use Rattle.ada_tree.specs.declared.expression.NextTerm.TheVariants as of_next_term
use Rattle.ada_tree.specs.declared.expression.Operand.{Operand, roll-Operand, out-Operand, roll-out-Operand}
use Rattle.ada_tree.specs.declared.expression.Operand.TheVariants as of_operand
use Rattle.ada_tree.specs.declared.expression.Primary.{Primary, roll-Primary, out-Primary, roll-out-Primary}
use Rattle.ada_tree.specs.declared.expression.Primary.TheVariants as of_primary
use Rattle.ada_tree.specs.declared.expression.Rel.{Rel, roll-Rel, out-Rel, roll-out-Rel}
use Rattle.ada_tree.specs.declared.expression.Rel.TheVariants as of_rel
use Rattle.ada_tree.specs.declared.expression.ShortOperand.{ShortOperand, roll-ShortOperand, out-ShortOperand, roll-out-ShortOperand}
use Rattle.ada_tree.specs.declared.expression.ShortOperand.TheVariants as of_short_operand
use Rattle.ada_tree.specs.declared.expression.Suffix.{Suffix, roll-Suffix, out-Suffix, roll-out-Suffix}
use Rattle.ada_tree.specs.declared.expression.Suffix.TheVariants as of_suffix
use Rattle.ada_tree.specs.declared.expression.Sum.{Sum, roll-Sum, out-Sum, roll-out-Sum}
use Rattle.ada_tree.specs.declared.expression.Sum.TheVariants as of_sum
use Rattle.ada_tree.specs.declared.expression.Term.{Term, roll-Term, out-Term, roll-out-Term}
use Rattle.ada_tree.specs.declared.expression.Term.TheVariants as of_term
use Rattle.ada_tree.specs.declared.expression.Aggregate.TheOpen as layer

-- ---- Aggregate

aggregate_layer : (P : Aggregate → Type 0)
    → ((pos : Pos) (first : Arg) (comma : Pos) (second : Arg) (rest : List NextArg) (right_paren : Pos)
    → P (of_aggregate.Several pos first comma second rest right_paren))
    → ((pos : Pos) (name : Identifier) (arrow : Pos) (value : Expr) (right_paren : Pos)
    → P (of_aggregate.Single pos name arrow value right_paren))
    → ((pos : Pos) (others : Pos) (arrow : Pos) (value : Expr) (right_paren : Pos)
    → P (of_aggregate.Others pos others arrow value right_paren))
    → (l : layer.Aggregate-F Aggregate Arg Expr Factor Name NextArg NextFactor NextTerm Operand Primary Rel ShortOperand Suffix
    Sum Term) → P (roll-Aggregate l)
aggregate_layer P on_several on_single on_others (layer.Several pos first comma second rest right_paren) = subst P (sym
    (of_aggregate.rolls-Several pos first comma second rest right_paren)) (on_several pos first comma second rest right_paren)
aggregate_layer P on_several on_single on_others (layer.Single pos name arrow value right_paren) = subst P (sym
    (of_aggregate.rolls-Single pos name arrow value right_paren)) (on_single pos name arrow value right_paren)
aggregate_layer P on_several on_single on_others (layer.Others pos others arrow value right_paren) = subst P (sym
    (of_aggregate.rolls-Others pos others arrow value right_paren)) (on_others pos others arrow value right_paren)

-- What holds of each form holds of each tree.
pub aggregate_form : (P : Aggregate → Type 0)
    → ((pos : Pos) (first : Arg) (comma : Pos) (second : Arg) (rest : List NextArg) (right_paren : Pos)
    → P (of_aggregate.Several pos first comma second rest right_paren))
    → ((pos : Pos) (name : Identifier) (arrow : Pos) (value : Expr) (right_paren : Pos)
    → P (of_aggregate.Single pos name arrow value right_paren))
    → ((pos : Pos) (others : Pos) (arrow : Pos) (value : Expr) (right_paren : Pos)
    → P (of_aggregate.Others pos others arrow value right_paren))
    → (tree : Aggregate) → P tree
aggregate_form P on_several on_single on_others tree = subst P (roll-out-Aggregate tree)
    (aggregate_layer P on_several on_single on_others (out-Aggregate tree))

-- ---- Arg

arg_layer : (P : Arg → Type 0)
    → ((pos : Pos) (value : Expr) → P (of_arg.Positional pos value))
    → ((pos : Pos) (name : Identifier) (arrow : Pos) (value : Expr) → P (of_arg.Association pos name arrow value))
    → (l : layer.Arg-F Aggregate Arg Expr Factor Name NextArg NextFactor NextTerm Operand Primary Rel ShortOperand Suffix Sum
    Term) → P (roll-Arg l)
arg_layer P on_positional on_association (layer.Positional pos value) = subst P (sym (of_arg.rolls-Positional pos value))
    (on_positional pos value)
arg_layer P on_positional on_association (layer.Association pos name arrow value) = subst P (sym
    (of_arg.rolls-Association pos name arrow value)) (on_association pos name arrow value)

-- What holds of each form holds of each tree.
pub arg_form : (P : Arg → Type 0)
    → ((pos : Pos) (value : Expr) → P (of_arg.Positional pos value))
    → ((pos : Pos) (name : Identifier) (arrow : Pos) (value : Expr) → P (of_arg.Association pos name arrow value))
    → (tree : Arg) → P tree
arg_form P on_positional on_association tree = subst P (roll-out-Arg tree) (arg_layer P on_positional on_association
    (out-Arg tree))

-- ---- Expr

expr_layer : (P : Expr → Type 0)
    → ((pos : Pos) (relation : Rel) → P (of_expr.LoneRelation pos relation))
    → ((pos : Pos) (first : Rel) (and : Pos) (second : Rel) (rest : List Operand) → P (of_expr.And pos first and second rest))
    → ((pos : Pos) (first : Rel) (or : Pos) (second : Rel) (rest : List Operand) → P (of_expr.Or pos first or second rest))
    → ((pos : Pos) (first : Rel) (xor : Pos) (second : Rel) (rest : List Operand) → P (of_expr.Xor pos first xor second rest))
    → ((pos : Pos) (first : Rel) (and : Pos) (then : Pos) (second : Rel) (rest : List ShortOperand)
    → P (of_expr.AndThen pos first and then second rest))
    → ((pos : Pos) (first : Rel) (or : Pos) (otherwise : Pos) (second : Rel) (rest : List ShortOperand)
    → P (of_expr.OrElse pos first or otherwise second rest))
    → (l : layer.Expr-F Aggregate Arg Expr Factor Name NextArg NextFactor NextTerm Operand Primary Rel ShortOperand Suffix Sum
    Term) → P (roll-Expr l)
expr_layer P on_lone_relation on_and on_or on_xor on_and_then on_or_else (layer.LoneRelation pos relation) = subst P (sym
    (of_expr.rolls-LoneRelation pos relation)) (on_lone_relation pos relation)
expr_layer P on_lone_relation on_and on_or on_xor on_and_then on_or_else (layer.And pos first and second rest) = subst P (sym
    (of_expr.rolls-And pos first and second rest)) (on_and pos first and second rest)
expr_layer P on_lone_relation on_and on_or on_xor on_and_then on_or_else (layer.Or pos first or second rest) = subst P (sym
    (of_expr.rolls-Or pos first or second rest)) (on_or pos first or second rest)
expr_layer P on_lone_relation on_and on_or on_xor on_and_then on_or_else (layer.Xor pos first xor second rest) = subst P (sym
    (of_expr.rolls-Xor pos first xor second rest)) (on_xor pos first xor second rest)
expr_layer P on_lone_relation on_and on_or on_xor on_and_then on_or_else (layer.AndThen pos first and then second rest) = subst P (sym
    (of_expr.rolls-AndThen pos first and then second rest)) (on_and_then pos first and then second rest)
expr_layer P on_lone_relation on_and on_or on_xor on_and_then on_or_else (layer.OrElse pos first or otherwise second rest) = subst P (sym
    (of_expr.rolls-OrElse pos first or otherwise second rest)) (on_or_else pos first or otherwise second rest)

-- What holds of each form holds of each tree.
pub expr_form : (P : Expr → Type 0)
    → ((pos : Pos) (relation : Rel) → P (of_expr.LoneRelation pos relation))
    → ((pos : Pos) (first : Rel) (and : Pos) (second : Rel) (rest : List Operand) → P (of_expr.And pos first and second rest))
    → ((pos : Pos) (first : Rel) (or : Pos) (second : Rel) (rest : List Operand) → P (of_expr.Or pos first or second rest))
    → ((pos : Pos) (first : Rel) (xor : Pos) (second : Rel) (rest : List Operand) → P (of_expr.Xor pos first xor second rest))
    → ((pos : Pos) (first : Rel) (and : Pos) (then : Pos) (second : Rel) (rest : List ShortOperand)
    → P (of_expr.AndThen pos first and then second rest))
    → ((pos : Pos) (first : Rel) (or : Pos) (otherwise : Pos) (second : Rel) (rest : List ShortOperand)
    → P (of_expr.OrElse pos first or otherwise second rest))
    → (tree : Expr) → P tree
expr_form P on_lone_relation on_and on_or on_xor on_and_then on_or_else tree = subst P (roll-out-Expr tree)
    (expr_layer P on_lone_relation on_and on_or on_xor on_and_then on_or_else (out-Expr tree))

-- ---- Factor

factor_layer : (P : Factor → Type 0)
    → ((pos : Pos) (primary : Primary) → P (of_factor.LonePrimary pos primary))
    → ((pos : Pos) (primary : Primary) → P (of_factor.Abs pos primary))
    → ((pos : Pos) (primary : Primary) → P (of_factor.Not pos primary))
    → (l : layer.Factor-F Aggregate Arg Expr Factor Name NextArg NextFactor NextTerm Operand Primary Rel ShortOperand Suffix Sum
    Term) → P (roll-Factor l)
factor_layer P on_lone_primary on_abs on_not (layer.LonePrimary pos primary) = subst P (sym (of_factor.rolls-LonePrimary pos primary))
    (on_lone_primary pos primary)
factor_layer P on_lone_primary on_abs on_not (layer.Abs pos primary) = subst P (sym (of_factor.rolls-Abs pos primary))
    (on_abs pos primary)
factor_layer P on_lone_primary on_abs on_not (layer.Not pos primary) = subst P (sym (of_factor.rolls-Not pos primary))
    (on_not pos primary)

-- What holds of each form holds of each tree.
pub factor_form : (P : Factor → Type 0)
    → ((pos : Pos) (primary : Primary) → P (of_factor.LonePrimary pos primary))
    → ((pos : Pos) (primary : Primary) → P (of_factor.Abs pos primary))
    → ((pos : Pos) (primary : Primary) → P (of_factor.Not pos primary))
    → (tree : Factor) → P tree
factor_form P on_lone_primary on_abs on_not tree = subst P (roll-out-Factor tree) (factor_layer P on_lone_primary on_abs on_not
    (out-Factor tree))

-- ---- Name

name_layer : (P : Name → Type 0)
    → ((pos : Pos) (first : Identifier) (rest : List Suffix) → P (of_name.Prefixed pos first rest))
    → (l : layer.Name-F Aggregate Arg Expr Factor Name NextArg NextFactor NextTerm Operand Primary Rel ShortOperand Suffix Sum
    Term) → P (roll-Name l)
name_layer P on_prefixed (layer.Prefixed pos first rest) = subst P (sym (of_name.rolls-Prefixed pos first rest))
    (on_prefixed pos first rest)

-- What holds of each form holds of each tree.
pub name_form : (P : Name → Type 0)
    → ((pos : Pos) (first : Identifier) (rest : List Suffix) → P (of_name.Prefixed pos first rest))
    → (tree : Name) → P tree
name_form P on_prefixed tree = subst P (roll-out-Name tree) (name_layer P on_prefixed (out-Name tree))

-- ---- NextArg

next_arg_layer : (P : NextArg → Type 0)
    → ((pos : Pos) (arg : Arg) → P (of_next_arg.FurtherArg pos arg))
    → (l : layer.NextArg-F Aggregate Arg Expr Factor Name NextArg NextFactor NextTerm Operand Primary Rel ShortOperand Suffix Sum
    Term) → P (roll-NextArg l)
next_arg_layer P on_further_arg (layer.FurtherArg pos arg) = subst P (sym (of_next_arg.rolls-FurtherArg pos arg))
    (on_further_arg pos arg)

-- What holds of each form holds of each tree.
pub next_arg_form : (P : NextArg → Type 0)
    → ((pos : Pos) (arg : Arg) → P (of_next_arg.FurtherArg pos arg))
    → (tree : NextArg) → P tree
next_arg_form P on_further_arg tree = subst P (roll-out-NextArg tree) (next_arg_layer P on_further_arg (out-NextArg tree))

-- ---- NextFactor

next_factor_layer : (P : NextFactor → Type 0)
    → ((pos : Pos) (operator : MultiplyingOperator) (factor : Factor) → P (of_next_factor.FurtherFactor pos operator factor))
    → (l : layer.NextFactor-F Aggregate Arg Expr Factor Name NextArg NextFactor NextTerm Operand Primary Rel ShortOperand Suffix
    Sum Term) → P (roll-NextFactor l)
next_factor_layer P on_further_factor (layer.FurtherFactor pos operator factor) = subst P (sym
    (of_next_factor.rolls-FurtherFactor pos operator factor)) (on_further_factor pos operator factor)

-- What holds of each form holds of each tree.
pub next_factor_form : (P : NextFactor → Type 0)
    → ((pos : Pos) (operator : MultiplyingOperator) (factor : Factor) → P (of_next_factor.FurtherFactor pos operator factor))
    → (tree : NextFactor) → P tree
next_factor_form P on_further_factor tree = subst P (roll-out-NextFactor tree) (next_factor_layer P on_further_factor
    (out-NextFactor tree))

-- ---- NextTerm

next_term_layer : (P : NextTerm → Type 0)
    → ((pos : Pos) (operator : AddingOperator) (term : Term) → P (of_next_term.FurtherTerm pos operator term))
    → (l : layer.NextTerm-F Aggregate Arg Expr Factor Name NextArg NextFactor NextTerm Operand Primary Rel ShortOperand Suffix
    Sum Term) → P (roll-NextTerm l)
next_term_layer P on_further_term (layer.FurtherTerm pos operator term) = subst P (sym (of_next_term.rolls-FurtherTerm pos operator term))
    (on_further_term pos operator term)

-- What holds of each form holds of each tree.
pub next_term_form : (P : NextTerm → Type 0)
    → ((pos : Pos) (operator : AddingOperator) (term : Term) → P (of_next_term.FurtherTerm pos operator term))
    → (tree : NextTerm) → P tree
next_term_form P on_further_term tree = subst P (roll-out-NextTerm tree) (next_term_layer P on_further_term (out-NextTerm tree))

-- ---- Operand

operand_layer : (P : Operand → Type 0)
    → ((pos : Pos) (operand : Rel) → P (of_operand.FurtherOperand pos operand))
    → (l : layer.Operand-F Aggregate Arg Expr Factor Name NextArg NextFactor NextTerm Operand Primary Rel ShortOperand Suffix Sum
    Term) → P (roll-Operand l)
operand_layer P on_further_operand (layer.FurtherOperand pos operand) = subst P (sym (of_operand.rolls-FurtherOperand pos operand)) (on_further_operand pos operand)

-- What holds of each form holds of each tree.
pub operand_form : (P : Operand → Type 0)
    → ((pos : Pos) (operand : Rel) → P (of_operand.FurtherOperand pos operand))
    → (tree : Operand) → P tree
operand_form P on_further_operand tree = subst P (roll-out-Operand tree) (operand_layer P on_further_operand (out-Operand tree))

-- ---- Primary

primary_layer : (P : Primary → Type 0)
    → ((pos : Pos) (number : ℕ) → P (of_primary.Number pos number))
    → ((pos : Pos) (text : List ℕ) → P (of_primary.Text pos text))
    → ((pos : Pos) → P (of_primary.Null pos))
    → ((pos : Pos) (name : Name) → P (of_primary.Named pos name))
    → ((pos : Pos) (expression : Expr) (right_paren : Pos) → P (of_primary.Parenthesized pos expression right_paren))
    → ((pos : Pos) (aggregate : Aggregate) → P (of_primary.Aggregated pos aggregate))
    → ((pos : Pos) (mark : Dotted) → P (of_primary.Allocated pos mark))
    → ((pos : Pos) (mark : Dotted) (apostrophe : Pos) (aggregate : Aggregate)
    → P (of_primary.AllocatedAggregate pos mark apostrophe aggregate))
    → ((pos : Pos) (mark : Dotted) (apostrophe : Pos) (left_paren : Pos) (value : Expr) (right_paren : Pos)
    → P (of_primary.AllocatedValue pos mark apostrophe left_paren value right_paren))
    → (l : layer.Primary-F Aggregate Arg Expr Factor Name NextArg NextFactor NextTerm Operand Primary Rel ShortOperand Suffix Sum
    Term) → P (roll-Primary l)
primary_layer P on_number on_text on_null on_named on_parenthesized on_aggregated on_allocated on_allocated_aggregate
    on_allocated_value (layer.Number pos number) = subst P (sym (of_primary.rolls-Number pos number)) (on_number pos number)
primary_layer P on_number on_text on_null on_named on_parenthesized on_aggregated on_allocated on_allocated_aggregate
    on_allocated_value (layer.Text pos text) = subst P (sym (of_primary.rolls-Text pos text)) (on_text pos text)
primary_layer P on_number on_text on_null on_named on_parenthesized on_aggregated on_allocated on_allocated_aggregate
    on_allocated_value (layer.Null pos) = subst P (sym (of_primary.rolls-Null pos)) (on_null pos)
primary_layer P on_number on_text on_null on_named on_parenthesized on_aggregated on_allocated on_allocated_aggregate
    on_allocated_value (layer.Named pos name) = subst P (sym (of_primary.rolls-Named pos name)) (on_named pos name)
primary_layer P on_number on_text on_null on_named on_parenthesized on_aggregated on_allocated on_allocated_aggregate
    on_allocated_value (layer.Parenthesized pos expression right_paren) = subst P (sym
    (of_primary.rolls-Parenthesized pos expression right_paren)) (on_parenthesized pos expression right_paren)
primary_layer P on_number on_text on_null on_named on_parenthesized on_aggregated on_allocated on_allocated_aggregate
    on_allocated_value (layer.Aggregated pos aggregate) = subst P (sym (of_primary.rolls-Aggregated pos aggregate))
    (on_aggregated pos aggregate)
primary_layer P on_number on_text on_null on_named on_parenthesized on_aggregated on_allocated on_allocated_aggregate
    on_allocated_value (layer.Allocated pos mark) = subst P (sym (of_primary.rolls-Allocated pos mark)) (on_allocated pos mark)
primary_layer P on_number on_text on_null on_named on_parenthesized on_aggregated on_allocated on_allocated_aggregate
    on_allocated_value (layer.AllocatedAggregate pos mark apostrophe aggregate) = subst P (sym
    (of_primary.rolls-AllocatedAggregate pos mark apostrophe aggregate)) (on_allocated_aggregate pos mark apostrophe aggregate)
primary_layer P on_number on_text on_null on_named on_parenthesized on_aggregated on_allocated on_allocated_aggregate
    on_allocated_value (layer.AllocatedValue pos mark apostrophe left_paren value right_paren) = subst P (sym
    (of_primary.rolls-AllocatedValue pos mark apostrophe left_paren value right_paren))
    (on_allocated_value pos mark apostrophe left_paren value right_paren)

-- What holds of each form holds of each tree.
pub primary_form : (P : Primary → Type 0)
    → ((pos : Pos) (number : ℕ) → P (of_primary.Number pos number))
    → ((pos : Pos) (text : List ℕ) → P (of_primary.Text pos text))
    → ((pos : Pos) → P (of_primary.Null pos))
    → ((pos : Pos) (name : Name) → P (of_primary.Named pos name))
    → ((pos : Pos) (expression : Expr) (right_paren : Pos) → P (of_primary.Parenthesized pos expression right_paren))
    → ((pos : Pos) (aggregate : Aggregate) → P (of_primary.Aggregated pos aggregate))
    → ((pos : Pos) (mark : Dotted) → P (of_primary.Allocated pos mark))
    → ((pos : Pos) (mark : Dotted) (apostrophe : Pos) (aggregate : Aggregate)
    → P (of_primary.AllocatedAggregate pos mark apostrophe aggregate))
    → ((pos : Pos) (mark : Dotted) (apostrophe : Pos) (left_paren : Pos) (value : Expr) (right_paren : Pos)
    → P (of_primary.AllocatedValue pos mark apostrophe left_paren value right_paren))
    → (tree : Primary) → P tree
primary_form P on_number on_text on_null on_named on_parenthesized on_aggregated on_allocated on_allocated_aggregate
    on_allocated_value tree = subst P (roll-out-Primary tree)
    (primary_layer P on_number on_text on_null on_named on_parenthesized on_aggregated on_allocated on_allocated_aggregate
    on_allocated_value (out-Primary tree))

-- ---- Rel

rel_layer : (P : Rel → Type 0)
    → ((pos : Pos) (sum : Sum) → P (of_rel.LoneSum pos sum))
    → ((pos : Pos) (left : Sum) (operator : RelationalOperator) (operator_pos : Pos) (right : Sum)
    → P (of_rel.Compared pos left operator operator_pos right))
    → (l : layer.Rel-F Aggregate Arg Expr Factor Name NextArg NextFactor NextTerm Operand Primary Rel ShortOperand Suffix Sum
    Term) → P (roll-Rel l)
rel_layer P on_lone_sum on_compared (layer.LoneSum pos sum) = subst P (sym (of_rel.rolls-LoneSum pos sum)) (on_lone_sum pos sum)
rel_layer P on_lone_sum on_compared (layer.Compared pos left operator operator_pos right) = subst P (sym
    (of_rel.rolls-Compared pos left operator operator_pos right)) (on_compared pos left operator operator_pos right)

-- What holds of each form holds of each tree.
pub rel_form : (P : Rel → Type 0)
    → ((pos : Pos) (sum : Sum) → P (of_rel.LoneSum pos sum))
    → ((pos : Pos) (left : Sum) (operator : RelationalOperator) (operator_pos : Pos) (right : Sum)
    → P (of_rel.Compared pos left operator operator_pos right))
    → (tree : Rel) → P tree
rel_form P on_lone_sum on_compared tree = subst P (roll-out-Rel tree) (rel_layer P on_lone_sum on_compared (out-Rel tree))

-- ---- ShortOperand

short_operand_layer : (P : ShortOperand → Type 0)
    → ((pos : Pos) (second_word : Pos) (operand : Rel) → P (of_short_operand.FurtherShortOperand pos second_word operand))
    → (l : layer.ShortOperand-F Aggregate Arg Expr Factor Name NextArg NextFactor NextTerm Operand Primary Rel ShortOperand
    Suffix Sum Term) → P (roll-ShortOperand l)
short_operand_layer P on_further_short_operand (layer.FurtherShortOperand pos second_word operand) = subst P (sym
    (of_short_operand.rolls-FurtherShortOperand pos second_word operand)) (on_further_short_operand pos second_word operand)

-- What holds of each form holds of each tree.
pub short_operand_form : (P : ShortOperand → Type 0)
    → ((pos : Pos) (second_word : Pos) (operand : Rel) → P (of_short_operand.FurtherShortOperand pos second_word operand))
    → (tree : ShortOperand) → P tree
short_operand_form P on_further_short_operand tree = subst P (roll-out-ShortOperand tree) (short_operand_layer P on_further_short_operand
    (out-ShortOperand tree))

-- ---- Suffix

suffix_layer : (P : Suffix → Type 0)
    → ((pos : Pos) (selector : Identifier) → P (of_suffix.Selected pos selector))
    → ((pos : Pos) (all : Pos) → P (of_suffix.Dereferenced pos all))
    → ((pos : Pos) (first : Arg) (rest : List NextArg) (right_paren : Pos) → P (of_suffix.Applied pos first rest right_paren))
    → ((pos : Pos) (attribute : Identifier) → P (of_suffix.Attribute pos attribute))
    → ((pos : Pos) (range : Pos) → P (of_suffix.RangeAttribute pos range))
    → (l : layer.Suffix-F Aggregate Arg Expr Factor Name NextArg NextFactor NextTerm Operand Primary Rel ShortOperand Suffix Sum
    Term) → P (roll-Suffix l)
suffix_layer P on_selected on_dereferenced on_applied on_attribute on_range_attribute (layer.Selected pos selector) = subst P
    (sym (of_suffix.rolls-Selected pos selector)) (on_selected pos selector)
suffix_layer P on_selected on_dereferenced on_applied on_attribute on_range_attribute (layer.Dereferenced pos all) = subst P
    (sym (of_suffix.rolls-Dereferenced pos all)) (on_dereferenced pos all)
suffix_layer P on_selected on_dereferenced on_applied on_attribute on_range_attribute
    (layer.Applied pos first rest right_paren) = subst P (sym (of_suffix.rolls-Applied pos first rest right_paren))
    (on_applied pos first rest right_paren)
suffix_layer P on_selected on_dereferenced on_applied on_attribute on_range_attribute (layer.Attribute pos attribute) = subst P
    (sym (of_suffix.rolls-Attribute pos attribute)) (on_attribute pos attribute)
suffix_layer P on_selected on_dereferenced on_applied on_attribute on_range_attribute (layer.RangeAttribute pos range) = subst P
    (sym (of_suffix.rolls-RangeAttribute pos range)) (on_range_attribute pos range)

-- What holds of each form holds of each tree.
pub suffix_form : (P : Suffix → Type 0)
    → ((pos : Pos) (selector : Identifier) → P (of_suffix.Selected pos selector))
    → ((pos : Pos) (all : Pos) → P (of_suffix.Dereferenced pos all))
    → ((pos : Pos) (first : Arg) (rest : List NextArg) (right_paren : Pos) → P (of_suffix.Applied pos first rest right_paren))
    → ((pos : Pos) (attribute : Identifier) → P (of_suffix.Attribute pos attribute))
    → ((pos : Pos) (range : Pos) → P (of_suffix.RangeAttribute pos range))
    → (tree : Suffix) → P tree
suffix_form P on_selected on_dereferenced on_applied on_attribute on_range_attribute tree = subst P (roll-out-Suffix tree)
    (suffix_layer P on_selected on_dereferenced on_applied on_attribute on_range_attribute (out-Suffix tree))

-- ---- Sum

sum_layer : (P : Sum → Type 0)
    → ((pos : Pos) (first : Term) (rest : List NextTerm) → P (of_sum.Unsigned pos first rest))
    → ((pos : Pos) (sign : Sign) (first : Term) (rest : List NextTerm) → P (of_sum.Signed pos sign first rest))
    → (l : layer.Sum-F Aggregate Arg Expr Factor Name NextArg NextFactor NextTerm Operand Primary Rel ShortOperand Suffix Sum
    Term) → P (roll-Sum l)
sum_layer P on_unsigned on_signed (layer.Unsigned pos first rest) = subst P (sym (of_sum.rolls-Unsigned pos first rest))
    (on_unsigned pos first rest)
sum_layer P on_unsigned on_signed (layer.Signed pos sign first rest) = subst P (sym (of_sum.rolls-Signed pos sign first rest))
    (on_signed pos sign first rest)

-- What holds of each form holds of each tree.
pub sum_form : (P : Sum → Type 0)
    → ((pos : Pos) (first : Term) (rest : List NextTerm) → P (of_sum.Unsigned pos first rest))
    → ((pos : Pos) (sign : Sign) (first : Term) (rest : List NextTerm) → P (of_sum.Signed pos sign first rest))
    → (tree : Sum) → P tree
sum_form P on_unsigned on_signed tree = subst P (roll-out-Sum tree) (sum_layer P on_unsigned on_signed (out-Sum tree))

-- ---- Term

term_layer : (P : Term → Type 0)
    → ((pos : Pos) (first : Factor) (rest : List NextFactor) → P (of_term.Product pos first rest))
    → (l : layer.Term-F Aggregate Arg Expr Factor Name NextArg NextFactor NextTerm Operand Primary Rel ShortOperand Suffix Sum
    Term) → P (roll-Term l)
term_layer P on_product (layer.Product pos first rest) = subst P (sym (of_term.rolls-Product pos first rest))
    (on_product pos first rest)

-- What holds of each form holds of each tree.
pub term_form : (P : Term → Type 0)
    → ((pos : Pos) (first : Factor) (rest : List NextFactor) → P (of_term.Product pos first rest))
    → (tree : Term) → P tree
term_form P on_product tree = subst P (roll-out-Term tree) (term_layer P on_product (out-Term tree))
