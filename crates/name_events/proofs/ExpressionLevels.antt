-- What each alternative of expressions and names does with names, with boxes as what they hold and
-- lists as lists.
use Rattle.std.proofs.Common.{◌≡◌, refl, ap, ◌∙◌, ℕ, List, [], ◌∷◌, ◌++◌}
use denote.Hole.Carrier.{hidden}
use Rattle.std.specs.List.{flat_map}
use Rattle.spark_base.specs.declared.position.Pos.{Pos}
use Rattle.ada_tree.specs.declared.operator.Sign.{Sign}
use Rattle.ada_tree.specs.declared.operator.RelationalOperator.{RelationalOperator}
use Rattle.ada_tree.specs.declared.operator.AddingOperator.{AddingOperator}
use Rattle.ada_tree.specs.declared.operator.MultiplyingOperator.{MultiplyingOperator}
use Rattle.ada_tree.specs.declared.identifier.Identifier.{Identifier}
use Rattle.ada_tree.specs.declared.identifier.Dotted.{Dotted}
use Rattle.ada_tree.specs.declared.expression.Aggregate.{Aggregate, Row_of-NextArg, end_of-NextArg, more_of-NextArg, items-the_row-NextArg, items_hidden-the_row-NextArg-1}
use Rattle.ada_tree.specs.declared.expression.Expr.{Expr, Row_of-Operand, end_of-Operand, more_of-Operand, items-the_row-Operand, items_hidden-the_row-Operand-4, Row_of-ShortOperand, end_of-ShortOperand, more_of-ShortOperand, items-the_row-ShortOperand, items_hidden-the_row-ShortOperand-5}
use Rattle.ada_tree.specs.declared.expression.Sum.{Sum, Row_of-NextTerm, end_of-NextTerm, more_of-NextTerm, items-the_row-NextTerm, items_hidden-the_row-NextTerm-10}
use Rattle.ada_tree.specs.declared.expression.Term.{Term, Row_of-NextFactor, end_of-NextFactor, more_of-NextFactor, items-the_row-NextFactor, items_hidden-the_row-NextFactor-11}
use Rattle.ada_tree.specs.declared.expression.Name.{Name, Row_of-Suffix, end_of-Suffix, more_of-Suffix, items-the_row-Suffix, items_hidden-the_row-Suffix-6}
use Rattle.ada_tree.specs.declared.expression.Aggregate.TheVariants as aggregate
use Rattle.ada_tree.specs.declared.expression.Arg.{Arg}
use Rattle.ada_tree.specs.declared.expression.Arg.TheVariants as arg
use Rattle.ada_tree.specs.declared.expression.NextArg.{NextArg}
use Rattle.ada_tree.specs.declared.expression.NextArg.TheVariants as next_arg
use Rattle.ada_tree.specs.declared.expression.Expr.TheVariants as expr
use Rattle.ada_tree.specs.declared.expression.Operand.{Operand}
use Rattle.ada_tree.specs.declared.expression.Operand.TheVariants as operand
use Rattle.ada_tree.specs.declared.expression.ShortOperand.{ShortOperand}
use Rattle.ada_tree.specs.declared.expression.ShortOperand.TheVariants as short_operand
use Rattle.ada_tree.specs.declared.expression.Rel.{Rel}
use Rattle.ada_tree.specs.declared.expression.Rel.TheVariants as rel
use Rattle.ada_tree.specs.declared.expression.Sum.TheVariants as sum
use Rattle.ada_tree.specs.declared.expression.NextTerm.{NextTerm}
use Rattle.ada_tree.specs.declared.expression.NextTerm.TheVariants as next_term
use Rattle.ada_tree.specs.declared.expression.Term.TheVariants as term
use Rattle.ada_tree.specs.declared.expression.NextFactor.{NextFactor}
use Rattle.ada_tree.specs.declared.expression.NextFactor.TheVariants as next_factor
use Rattle.ada_tree.specs.declared.expression.Factor.{Factor}
use Rattle.ada_tree.specs.declared.expression.Factor.TheVariants as factor
use Rattle.ada_tree.specs.declared.expression.Primary.{Primary}
use Rattle.ada_tree.specs.declared.expression.Primary.TheVariants as primary
use Rattle.ada_tree.specs.declared.expression.Name.TheVariants as name
use Rattle.ada_tree.specs.declared.expression.Suffix.{Suffix}
use Rattle.ada_tree.specs.declared.expression.Suffix.TheVariants as suffix
use Rattle.ada_tree.specs.declared.expression.Aggregate.TheBlock.{shape-the_row-Arg-0, hidden-the_row-Arg-0, shape-the_row-Expr-2, hidden-the_row-Expr-2, shape-the_row-Rel-3, hidden-the_row-Rel-3, shape-the_row-Name-7, hidden-the_row-Name-7, shape-the_row-Aggregate-8, hidden-the_row-Aggregate-8, shape-the_row-Sum-9, hidden-the_row-Sum-9, hidden-the_row-NextArg-1, hidden-the_row-Operand-4, hidden-the_row-ShortOperand-5, hidden-the_row-Suffix-6, hidden-the_row-NextTerm-10, hidden-the_row-NextFactor-11}
use Rattle.name_events.specs.declared.event.Event.TheVariants as e
use Rattle.name_events.specs.declared.event.Clause.TheVariants as clause
use Rattle.name_events.specs.ExpressionOutline.{named, mention, selector, before_others, selectors, leading, aggregate_box_events, aggregate_events, arg_box_events, arg_events, expr_box_events, expr_events, factor_events, name_box_events, name_events, next_arg_events, next_args_events, next_factor_events, next_factors_events, next_term_events, next_terms_events, operand_events, operands_events, primary_events, rel_box_events, rel_events, short_operand_events, short_operands_events, suffix_events, suffixes_events, sum_box_events, sum_events, term_events}

next_args_row : {n : _} (row : Row_of-NextArg n) → next_args_events row ≡ flat_map next_arg_events (items-the_row-NextArg n row)
unfolding next_args_events
next_args_row end_of-NextArg = refl
next_args_row (more_of-NextArg part rest) = ap (λ es. next_arg_events part ++ es) (next_args_row rest)

next_args_listed : (parts : List NextArg) → next_args_events (hidden-the_row-NextArg-1 parts) ≡ flat_map next_arg_events parts
next_args_listed parts = next_args_row (hidden-the_row-NextArg-1 parts) ∙ ap (flat_map next_arg_events) (items_hidden-the_row-NextArg-1 parts)

operands_row : {n : _} (row : Row_of-Operand n) → operands_events row ≡ flat_map operand_events (items-the_row-Operand n row)
unfolding operands_events
operands_row end_of-Operand = refl
operands_row (more_of-Operand part rest) = ap (λ es. operand_events part ++ es) (operands_row rest)

operands_listed : (parts : List Operand) → operands_events (hidden-the_row-Operand-4 parts) ≡ flat_map operand_events parts
operands_listed parts = operands_row (hidden-the_row-Operand-4 parts) ∙ ap (flat_map operand_events) (items_hidden-the_row-Operand-4 parts)

short_operands_row : {n : _} (row : Row_of-ShortOperand n) → short_operands_events row ≡ flat_map short_operand_events (items-the_row-ShortOperand n row)
unfolding short_operands_events
short_operands_row end_of-ShortOperand = refl
short_operands_row (more_of-ShortOperand part rest) = ap (λ es. short_operand_events part ++ es) (short_operands_row rest)

short_operands_listed : (parts : List ShortOperand) → short_operands_events (hidden-the_row-ShortOperand-5 parts) ≡ flat_map short_operand_events parts
short_operands_listed parts = short_operands_row (hidden-the_row-ShortOperand-5 parts) ∙ ap (flat_map short_operand_events) (items_hidden-the_row-ShortOperand-5 parts)

suffixes_row : {n : _} (row : Row_of-Suffix n) → suffixes_events row ≡ flat_map suffix_events (items-the_row-Suffix n row)
unfolding suffixes_events
suffixes_row end_of-Suffix = refl
suffixes_row (more_of-Suffix part rest) = ap (λ es. suffix_events part ++ es) (suffixes_row rest)

suffixes_listed : (parts : List Suffix) → suffixes_events (hidden-the_row-Suffix-6 parts) ≡ flat_map suffix_events parts
suffixes_listed parts = suffixes_row (hidden-the_row-Suffix-6 parts) ∙ ap (flat_map suffix_events) (items_hidden-the_row-Suffix-6 parts)

next_terms_row : {n : _} (row : Row_of-NextTerm n) → next_terms_events row ≡ flat_map next_term_events (items-the_row-NextTerm n row)
unfolding next_terms_events
next_terms_row end_of-NextTerm = refl
next_terms_row (more_of-NextTerm part rest) = ap (λ es. next_term_events part ++ es) (next_terms_row rest)

next_terms_listed : (parts : List NextTerm) → next_terms_events (hidden-the_row-NextTerm-10 parts) ≡ flat_map next_term_events parts
next_terms_listed parts = next_terms_row (hidden-the_row-NextTerm-10 parts) ∙ ap (flat_map next_term_events) (items_hidden-the_row-NextTerm-10 parts)

next_factors_row : {n : _} (row : Row_of-NextFactor n) → next_factors_events row ≡ flat_map next_factor_events (items-the_row-NextFactor n row)
unfolding next_factors_events
next_factors_row end_of-NextFactor = refl
next_factors_row (more_of-NextFactor part rest) = ap (λ es. next_factor_events part ++ es) (next_factors_row rest)

next_factors_listed : (parts : List NextFactor) → next_factors_events (hidden-the_row-NextFactor-11 parts) ≡ flat_map next_factor_events parts
next_factors_listed parts = next_factors_row (hidden-the_row-NextFactor-11 parts) ∙ ap (flat_map next_factor_events) (items_hidden-the_row-NextFactor-11 parts)

leading_row : {n : _} (row : Row_of-Suffix n) → selectors row ≡ leading (items-the_row-Suffix n row)
unfolding selectors
leading_row end_of-Suffix = refl
leading_row (more_of-Suffix part rest) = ap (before_others (selector part)) (leading_row rest)

leading_listed : (parts : List Suffix) → selectors (hidden-the_row-Suffix-6 parts) ≡ leading parts
leading_listed parts = leading_row (hidden-the_row-Suffix-6 parts) ∙ ap leading (items_hidden-the_row-Suffix-6 parts)

pub name-Prefixed : (pos : Pos) (first : Identifier) (rest : List Suffix) → name_events (name.Prefixed pos first rest) ≡ e.Mentions clause.Elsewhere (named first (leading rest)) ∷ flat_map suffix_events rest
unfolding name_events
name-Prefixed pos first rest = ap (λ selectors. e.Mentions clause.Elsewhere (named first selectors) ∷ suffixes_events (hidden-the_row-Suffix-6 rest)) (leading_listed rest)
    ∙ ap (λ es. e.Mentions clause.Elsewhere (named first (leading rest)) ∷ es) (suffixes_listed rest)

pub suffix-Selected : (pos : Pos) (selector : Identifier) → suffix_events (suffix.Selected pos selector) ≡ []
unfolding suffix_events
suffix-Selected pos selector = refl

pub suffix-Dereferenced : (pos : Pos) (all : Pos) → suffix_events (suffix.Dereferenced pos all) ≡ []
unfolding suffix_events
suffix-Dereferenced pos all = refl

pub suffix-Applied : (pos : Pos) (first : Arg) (rest : List NextArg) (right_paren : Pos) → suffix_events (suffix.Applied pos first rest right_paren) ≡ arg_events first ++ flat_map next_arg_events rest
unfolding suffix_events arg_box_events hidden-the_row-Arg-0 shape-the_row-Arg-0 hidden
suffix-Applied pos first rest right_paren = ap (λ es. arg_events first ++ es) (next_args_listed rest)

pub suffix-Attribute : (pos : Pos) (attribute : Identifier) → suffix_events (suffix.Attribute pos attribute) ≡ []
unfolding suffix_events
suffix-Attribute pos attribute = refl

pub suffix-RangeAttribute : (pos : Pos) (range : Pos) → suffix_events (suffix.RangeAttribute pos range) ≡ []
unfolding suffix_events
suffix-RangeAttribute pos range = refl

pub next_arg-FurtherArg : (pos : Pos) (part : Arg) → next_arg_events (next_arg.FurtherArg pos part) ≡ arg_events part
unfolding next_arg_events arg_box_events hidden-the_row-Arg-0 shape-the_row-Arg-0 hidden
next_arg-FurtherArg pos part = refl

pub arg-Positional : (pos : Pos) (value : Expr) → arg_events (arg.Positional pos value) ≡ expr_events value
unfolding arg_events expr_box_events hidden-the_row-Expr-2 shape-the_row-Expr-2 hidden
arg-Positional pos value = refl

pub arg-Association : (pos : Pos) (id : Identifier) (arrow : Pos) (value : Expr) → arg_events (arg.Association pos id arrow value) ≡ expr_events value
unfolding arg_events expr_box_events hidden-the_row-Expr-2 shape-the_row-Expr-2 hidden
arg-Association pos id arrow value = refl

pub expr-LoneRelation : (pos : Pos) (relation : Rel) → expr_events (expr.LoneRelation pos relation) ≡ rel_events relation
unfolding expr_events rel_box_events hidden-the_row-Rel-3 shape-the_row-Rel-3 hidden
expr-LoneRelation pos relation = refl

pub expr-And : (pos : Pos) (first : Rel) (operator : Pos) (second : Rel) (rest : List Operand) → expr_events (expr.And pos first operator second rest) ≡ rel_events first ++ (rel_events second ++ flat_map operand_events rest)
unfolding expr_events rel_box_events hidden-the_row-Rel-3 shape-the_row-Rel-3 hidden
expr-And pos first operator second rest = ap (λ es. rel_events first ++ (rel_events second ++ es)) (operands_listed rest)

pub expr-Or : (pos : Pos) (first : Rel) (operator : Pos) (second : Rel) (rest : List Operand) → expr_events (expr.Or pos first operator second rest) ≡ rel_events first ++ (rel_events second ++ flat_map operand_events rest)
unfolding expr_events rel_box_events hidden-the_row-Rel-3 shape-the_row-Rel-3 hidden
expr-Or pos first operator second rest = ap (λ es. rel_events first ++ (rel_events second ++ es)) (operands_listed rest)

pub expr-Xor : (pos : Pos) (first : Rel) (operator : Pos) (second : Rel) (rest : List Operand) → expr_events (expr.Xor pos first operator second rest) ≡ rel_events first ++ (rel_events second ++ flat_map operand_events rest)
unfolding expr_events rel_box_events hidden-the_row-Rel-3 shape-the_row-Rel-3 hidden
expr-Xor pos first operator second rest = ap (λ es. rel_events first ++ (rel_events second ++ es)) (operands_listed rest)

pub expr-AndThen : (pos : Pos) (first : Rel) (operator : Pos) (behind : Pos) (second : Rel) (rest : List ShortOperand) → expr_events (expr.AndThen pos first operator behind second rest) ≡ rel_events first ++ (rel_events second ++ flat_map short_operand_events rest)
unfolding expr_events rel_box_events hidden-the_row-Rel-3 shape-the_row-Rel-3 hidden
expr-AndThen pos first operator behind second rest = ap (λ es. rel_events first ++ (rel_events second ++ es)) (short_operands_listed rest)

pub expr-OrElse : (pos : Pos) (first : Rel) (operator : Pos) (behind : Pos) (second : Rel) (rest : List ShortOperand) → expr_events (expr.OrElse pos first operator behind second rest) ≡ rel_events first ++ (rel_events second ++ flat_map short_operand_events rest)
unfolding expr_events rel_box_events hidden-the_row-Rel-3 shape-the_row-Rel-3 hidden
expr-OrElse pos first operator behind second rest = ap (λ es. rel_events first ++ (rel_events second ++ es)) (short_operands_listed rest)

pub operand-FurtherOperand : (pos : Pos) (relation : Rel) → operand_events (operand.FurtherOperand pos relation) ≡ rel_events relation
unfolding operand_events rel_box_events hidden-the_row-Rel-3 shape-the_row-Rel-3 hidden
operand-FurtherOperand pos relation = refl

pub short_operand-FurtherShortOperand : (pos : Pos) (second_word : Pos) (relation : Rel) → short_operand_events (short_operand.FurtherShortOperand pos second_word relation) ≡ rel_events relation
unfolding short_operand_events rel_box_events hidden-the_row-Rel-3 shape-the_row-Rel-3 hidden
short_operand-FurtherShortOperand pos second_word relation = refl

pub rel-LoneSum : (pos : Pos) (operand : Sum) → rel_events (rel.LoneSum pos operand) ≡ sum_events operand
unfolding rel_events
rel-LoneSum pos operand = refl

pub rel-Compared : (pos : Pos) (left : Sum) (operator : RelationalOperator) (operator_pos : Pos) (right : Sum) → rel_events (rel.Compared pos left operator operator_pos right) ≡ sum_events left ++ sum_events right
unfolding rel_events sum_box_events hidden-the_row-Sum-9 shape-the_row-Sum-9 hidden
rel-Compared pos left operator operator_pos right = refl

pub sum-Unsigned : (pos : Pos) (first : Term) (rest : List NextTerm) → sum_events (sum.Unsigned pos first rest) ≡ term_events first ++ flat_map next_term_events rest
unfolding sum_events
sum-Unsigned pos first rest = ap (λ es. term_events first ++ es) (next_terms_listed rest)

pub sum-Signed : (pos : Pos) (sign : Sign) (first : Term) (rest : List NextTerm) → sum_events (sum.Signed pos sign first rest) ≡ term_events first ++ flat_map next_term_events rest
unfolding sum_events
sum-Signed pos sign first rest = ap (λ es. term_events first ++ es) (next_terms_listed rest)

pub next_term-FurtherTerm : (pos : Pos) (operator : AddingOperator) (part : Term) → next_term_events (next_term.FurtherTerm pos operator part) ≡ term_events part
unfolding next_term_events
next_term-FurtherTerm pos operator part = refl

pub term-Product : (pos : Pos) (first : Factor) (rest : List NextFactor) → term_events (term.Product pos first rest) ≡ factor_events first ++ flat_map next_factor_events rest
unfolding term_events
term-Product pos first rest = ap (λ es. factor_events first ++ es) (next_factors_listed rest)

pub next_factor-FurtherFactor : (pos : Pos) (operator : MultiplyingOperator) (part : Factor) → next_factor_events (next_factor.FurtherFactor pos operator part) ≡ factor_events part
unfolding next_factor_events
next_factor-FurtherFactor pos operator part = refl

pub factor-LonePrimary : (pos : Pos) (operand : Primary) → factor_events (factor.LonePrimary pos operand) ≡ primary_events operand
unfolding factor_events
factor-LonePrimary pos operand = refl

pub factor-Abs : (pos : Pos) (operand : Primary) → factor_events (factor.Abs pos operand) ≡ primary_events operand
unfolding factor_events
factor-Abs pos operand = refl

pub factor-Not : (pos : Pos) (operand : Primary) → factor_events (factor.Not pos operand) ≡ primary_events operand
unfolding factor_events
factor-Not pos operand = refl

pub primary-Number : (pos : Pos) (number : ℕ) → primary_events (primary.Number pos number) ≡ []
unfolding primary_events
primary-Number pos number = refl

pub primary-Text : (pos : Pos) (text : List ℕ) → primary_events (primary.Text pos text) ≡ []
unfolding primary_events
primary-Text pos text = refl

pub primary-Null : (pos : Pos) → primary_events (primary.Null pos) ≡ []
unfolding primary_events
primary-Null pos = refl

pub primary-Named : (pos : Pos) (part : Name) → primary_events (primary.Named pos part) ≡ name_events part
unfolding primary_events name_box_events hidden-the_row-Name-7 shape-the_row-Name-7 hidden
primary-Named pos part = refl

pub primary-Parenthesized : (pos : Pos) (part : Expr) (right_paren : Pos) → primary_events (primary.Parenthesized pos part right_paren) ≡ expr_events part
unfolding primary_events expr_box_events hidden-the_row-Expr-2 shape-the_row-Expr-2 hidden
primary-Parenthesized pos part right_paren = refl

pub primary-Aggregated : (pos : Pos) (part : Aggregate) → primary_events (primary.Aggregated pos part) ≡ aggregate_events part
unfolding primary_events aggregate_box_events hidden-the_row-Aggregate-8 shape-the_row-Aggregate-8 hidden
primary-Aggregated pos part = refl

pub primary-Allocated : (pos : Pos) (mark : Dotted) → primary_events (primary.Allocated pos mark) ≡ mention clause.Elsewhere mark ∷ []
unfolding primary_events
primary-Allocated pos mark = refl

pub primary-AllocatedAggregate : (pos : Pos) (mark : Dotted) (apostrophe : Pos) (part : Aggregate) → primary_events (primary.AllocatedAggregate pos mark apostrophe part) ≡ mention clause.Elsewhere mark ∷ aggregate_events part
unfolding primary_events aggregate_box_events hidden-the_row-Aggregate-8 shape-the_row-Aggregate-8 hidden
primary-AllocatedAggregate pos mark apostrophe part = refl

pub primary-AllocatedValue : (pos : Pos) (mark : Dotted) (apostrophe : Pos) (left_paren : Pos) (value : Expr) (right_paren : Pos) → primary_events (primary.AllocatedValue pos mark apostrophe left_paren value right_paren) ≡ mention clause.Elsewhere mark ∷ expr_events value
unfolding primary_events expr_box_events hidden-the_row-Expr-2 shape-the_row-Expr-2 hidden
primary-AllocatedValue pos mark apostrophe left_paren value right_paren = refl

pub aggregate-Several : (pos : Pos) (first : Arg) (comma : Pos) (second : Arg) (rest : List NextArg) (right_paren : Pos) → aggregate_events (aggregate.Several pos first comma second rest right_paren) ≡ arg_events first ++ (arg_events second ++ flat_map next_arg_events rest)
unfolding aggregate_events arg_box_events hidden-the_row-Arg-0 shape-the_row-Arg-0 hidden
aggregate-Several pos first comma second rest right_paren = ap (λ es. arg_events first ++ (arg_events second ++ es)) (next_args_listed rest)

pub aggregate-Single : (pos : Pos) (id : Identifier) (arrow : Pos) (value : Expr) (right_paren : Pos) → aggregate_events (aggregate.Single pos id arrow value right_paren) ≡ expr_events value
unfolding aggregate_events expr_box_events hidden-the_row-Expr-2 shape-the_row-Expr-2 hidden
aggregate-Single pos id arrow value right_paren = refl

pub aggregate-Others : (pos : Pos) (others : Pos) (arrow : Pos) (value : Expr) (right_paren : Pos) → aggregate_events (aggregate.Others pos others arrow value right_paren) ≡ expr_events value
unfolding aggregate_events expr_box_events hidden-the_row-Expr-2 shape-the_row-Expr-2 hidden
aggregate-Others pos others arrow value right_paren = refl

pub ruleset expression_levels = (name-Prefixed, suffix-Selected, suffix-Dereferenced, suffix-Applied, suffix-Attribute, suffix-RangeAttribute, next_arg-FurtherArg, arg-Positional, arg-Association, expr-LoneRelation, expr-And, expr-Or, expr-Xor, expr-AndThen, expr-OrElse, operand-FurtherOperand, short_operand-FurtherShortOperand, rel-LoneSum, rel-Compared, sum-Unsigned, sum-Signed, next_term-FurtherTerm, term-Product, next_factor-FurtherFactor, factor-LonePrimary, factor-Abs, factor-Not, primary-Number, primary-Text, primary-Null, primary-Named, primary-Parenthesized, primary-Aggregated, primary-Allocated, primary-AllocatedAggregate, primary-AllocatedValue, aggregate-Several, aggregate-Single, aggregate-Others)
