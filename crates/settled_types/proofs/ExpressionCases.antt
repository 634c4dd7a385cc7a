-- A law on parsed expressions and their parts, by its forms.
use mathlib.Core.Former.{Count}
use Rattle.ada_tree.specs.declared.expression.Aggregate.{Aggregate, Row_of-Arg, end_of-Arg, more_of-Arg, Row_of-NextArg, end_of-NextArg, more_of-NextArg, Row_of-Expr, end_of-Expr, more_of-Expr}
use Rattle.ada_tree.specs.declared.expression.Aggregate.TheVariants as aggregate
use Rattle.ada_tree.specs.declared.expression.Arg.{Arg}
use Rattle.ada_tree.specs.declared.expression.Arg.TheVariants as arg
use Rattle.ada_tree.specs.declared.expression.NextArg.{NextArg}
use Rattle.ada_tree.specs.declared.expression.NextArg.TheVariants as next_arg
use Rattle.ada_tree.specs.declared.expression.Expr.{Expr, Row_of-Rel, end_of-Rel, more_of-Rel, Row_of-Operand, end_of-Operand, more_of-Operand, Row_of-ShortOperand, end_of-ShortOperand, more_of-ShortOperand}
use Rattle.ada_tree.specs.declared.expression.Expr.TheVariants as expr
use Rattle.ada_tree.specs.declared.expression.Operand.{Operand}
use Rattle.ada_tree.specs.declared.expression.Operand.TheVariants as operand
use Rattle.ada_tree.specs.declared.expression.ShortOperand.{ShortOperand}
use Rattle.ada_tree.specs.declared.expression.ShortOperand.TheVariants as short_operand
use Rattle.ada_tree.specs.declared.expression.Rel.{Rel, Row_of-Sum, end_of-Sum, more_of-Sum}
use Rattle.ada_tree.specs.declared.expression.Rel.TheVariants as rel
use Rattle.ada_tree.specs.declared.expression.Sum.{Sum, Row_of-NextTerm, end_of-NextTerm, more_of-NextTerm}
use Rattle.ada_tree.specs.declared.expression.Sum.TheVariants as sum
use Rattle.ada_tree.specs.declared.expression.NextTerm.{NextTerm}
use Rattle.ada_tree.specs.declared.expression.NextTerm.TheVariants as next_term
use Rattle.ada_tree.specs.declared.expression.Term.{Term, Row_of-NextFactor, end_of-NextFactor, more_of-NextFactor}
use Rattle.ada_tree.specs.declared.expression.Term.TheVariants as term
use Rattle.ada_tree.specs.declared.expression.NextFactor.{NextFactor}
use Rattle.ada_tree.specs.declared.expression.NextFactor.TheVariants as next_factor
use Rattle.ada_tree.specs.declared.expression.Factor.{Factor}
use Rattle.ada_tree.specs.declared.expression.Factor.TheVariants as factor
use Rattle.ada_tree.specs.declared.expression.Primary.{Primary, Row_of-Name, end_of-Name, more_of-Name, Row_of-Aggregate, end_of-Aggregate, more_of-Aggregate}
use Rattle.ada_tree.specs.declared.expression.Primary.TheVariants as primary
use Rattle.ada_tree.specs.declared.expression.Name.{Name, Row_of-Suffix, end_of-Suffix, more_of-Suffix}
use Rattle.ada_tree.specs.declared.expression.Name.TheVariants as name
use Rattle.ada_tree.specs.declared.expression.Suffix.{Suffix}
use Rattle.ada_tree.specs.declared.expression.Suffix.TheVariants as suffix

-- What is said of each part.
pub record Sayings : Type 1 where
  pub of_name : Name → Type 0
  pub of_suffixes : (n : Count) → Row_of-Suffix n → Type 0
  pub of_suffix : Suffix → Type 0
  pub of_arg_box : (n : Count) → Row_of-Arg n → Type 0
  pub of_next_args : (n : Count) → Row_of-NextArg n → Type 0
  pub of_next_arg : NextArg → Type 0
  pub of_arg : Arg → Type 0
  pub of_expr_box : (n : Count) → Row_of-Expr n → Type 0
  pub of_expr : Expr → Type 0
  pub of_operands : (n : Count) → Row_of-Operand n → Type 0
  pub of_operand : Operand → Type 0
  pub of_short_operands : (n : Count) → Row_of-ShortOperand n → Type 0
  pub of_short_operand : ShortOperand → Type 0
  pub of_rel_box : (n : Count) → Row_of-Rel n → Type 0
  pub of_rel : Rel → Type 0
  pub of_sum_box : (n : Count) → Row_of-Sum n → Type 0
  pub of_sum : Sum → Type 0
  pub of_next_terms : (n : Count) → Row_of-NextTerm n → Type 0
  pub of_next_term : NextTerm → Type 0
  pub of_term : Term → Type 0
  pub of_next_factors : (n : Count) → Row_of-NextFactor n → Type 0
  pub of_next_factor : NextFactor → Type 0
  pub of_factor : Factor → Type 0
  pub of_primary : Primary → Type 0
  pub of_name_box : (n : Count) → Row_of-Name n → Type 0
  pub of_aggregate_box : (n : Count) → Row_of-Aggregate n → Type 0
  pub of_aggregate : Aggregate → Type 0

pub record ExpressionLaws (says : Sayings) : Type 0 where
  pub name_prefixed : (pos : _) (first : _) (n : _) (rest : _) → says.of_suffixes _ rest → says.of_name (name.Prefixed' pos first n rest)
  pub suffixes_end : says.of_suffixes _ end_of-Suffix
  pub suffixes_more : (m : Count) (part : _) (rest : Row_of-Suffix m) → says.of_suffix part → says.of_suffixes _ rest → says.of_suffixes _ (more_of-Suffix part rest)
  pub suffix_applied : (pos : _) (n : _) (first : _) (n2 : _) (rest : _) (right_paren : _) → says.of_arg_box _ first → says.of_next_args _ rest → says.of_suffix (suffix.Applied' pos n first n2 rest right_paren)
  pub suffix_selected : (pos : _) (id_word : _) → says.of_suffix (suffix.Selected pos id_word)
  pub suffix_dereferenced : (pos : _) (all_word : _) → says.of_suffix (suffix.Dereferenced pos all_word)
  pub suffix_attribute : (pos : _) (id_word : _) → says.of_suffix (suffix.Attribute pos id_word)
  pub suffix_range_attribute : (pos : _) (range_word : _) → says.of_suffix (suffix.RangeAttribute pos range_word)
  pub arg_box_end : says.of_arg_box _ end_of-Arg
  pub arg_box_more : (m : Count) (part : _) (rest : Row_of-Arg m) → says.of_arg part → says.of_arg_box _ (more_of-Arg part rest)
  pub next_args_end : says.of_next_args _ end_of-NextArg
  pub next_args_more : (m : Count) (part : _) (rest : Row_of-NextArg m) → says.of_next_arg part → says.of_next_args _ rest → says.of_next_args _ (more_of-NextArg part rest)
  pub next_arg_further_arg : (pos : _) (n : _) (part : _) → says.of_arg_box _ part → says.of_next_arg (next_arg.FurtherArg' pos n part)
  pub arg_positional : (pos : _) (n : _) (value : _) → says.of_expr_box _ value → says.of_arg (arg.Positional' pos n value)
  pub arg_association : (pos : _) (id_word : _) (arrow_word : _) (n : _) (value : _) → says.of_expr_box _ value → says.of_arg (arg.Association' pos id_word arrow_word n value)
  pub expr_box_end : says.of_expr_box _ end_of-Expr
  pub expr_box_more : (m : Count) (part : _) (rest : Row_of-Expr m) → says.of_expr part → says.of_expr_box _ (more_of-Expr part rest)
  pub expr_lone_relation : (pos : _) (n : _) (relation : _) → says.of_rel_box _ relation → says.of_expr (expr.LoneRelation' pos n relation)
  pub expr_and : (pos : _) (n : _) (first : _) (and_word : _) (n2 : _) (second : _) (n3 : _) (rest : _) → says.of_rel_box _ first → says.of_rel_box _ second → says.of_operands _ rest → says.of_expr (expr.And' pos n first and_word n2 second n3 rest)
  pub expr_or : (pos : _) (n : _) (first : _) (or_word : _) (n2 : _) (second : _) (n3 : _) (rest : _) → says.of_rel_box _ first → says.of_rel_box _ second → says.of_operands _ rest → says.of_expr (expr.Or' pos n first or_word n2 second n3 rest)
  pub expr_xor : (pos : _) (n : _) (first : _) (xor_word : _) (n2 : _) (second : _) (n3 : _) (rest : _) → says.of_rel_box _ first → says.of_rel_box _ second → says.of_operands _ rest → says.of_expr (expr.Xor' pos n first xor_word n2 second n3 rest)
  pub expr_and_then : (pos : _) (n : _) (first : _) (and_word : _) (then_word : _) (n2 : _) (second : _) (n3 : _) (rest : _) → says.of_rel_box _ first → says.of_rel_box _ second → says.of_short_operands _ rest → says.of_expr (expr.AndThen' pos n first and_word then_word n2 second n3 rest)
  pub expr_or_else : (pos : _) (n : _) (first : _) (or_word : _) (otherwise_word : _) (n2 : _) (second : _) (n3 : _) (rest : _) → says.of_rel_box _ first → says.of_rel_box _ second → says.of_short_operands _ rest → says.of_expr (expr.OrElse' pos n first or_word otherwise_word n2 second n3 rest)
  pub operands_end : says.of_operands _ end_of-Operand
  pub operands_more : (m : Count) (part : _) (rest : Row_of-Operand m) → says.of_operand part → says.of_operands _ rest → says.of_operands _ (more_of-Operand part rest)
  pub operand_further_operand : (pos : _) (n : _) (relation : _) → says.of_rel_box _ relation → says.of_operand (operand.FurtherOperand' pos n relation)
  pub short_operands_end : says.of_short_operands _ end_of-ShortOperand
  pub short_operands_more : (m : Count) (part : _) (rest : Row_of-ShortOperand m) → says.of_short_operand part → says.of_short_operands _ rest → says.of_short_operands _ (more_of-ShortOperand part rest)
  pub short_operand_further_short_operand : (pos : _) (second_word : _) (n : _) (relation : _) → says.of_rel_box _ relation → says.of_short_operand (short_operand.FurtherShortOperand' pos second_word n relation)
  pub rel_box_end : says.of_rel_box _ end_of-Rel
  pub rel_box_more : (m : Count) (part : _) (rest : Row_of-Rel m) → says.of_rel part → says.of_rel_box _ (more_of-Rel part rest)
  pub rel_lone_sum : (pos : _) (operand : _) → says.of_sum operand → says.of_rel (rel.LoneSum pos operand)
  pub rel_compared : (pos : _) (n : _) (left : _) (operator : _) (operator_pos : _) (n2 : _) (right : _) → says.of_sum_box _ left → says.of_sum_box _ right → says.of_rel (rel.Compared' pos n left operator operator_pos n2 right)
  pub sum_box_end : says.of_sum_box _ end_of-Sum
  pub sum_box_more : (m : Count) (part : _) (rest : Row_of-Sum m) → says.of_sum part → says.of_sum_box _ (more_of-Sum part rest)
  pub sum_unsigned : (pos : _) (first : _) (n : _) (rest : _) → says.of_term first → says.of_next_terms _ rest → says.of_sum (sum.Unsigned' pos first n rest)
  pub sum_signed : (pos : _) (sign : _) (first : _) (n : _) (rest : _) → says.of_term first → says.of_next_terms _ rest → says.of_sum (sum.Signed' pos sign first n rest)
  pub next_terms_end : says.of_next_terms _ end_of-NextTerm
  pub next_terms_more : (m : Count) (part : _) (rest : Row_of-NextTerm m) → says.of_next_term part → says.of_next_terms _ rest → says.of_next_terms _ (more_of-NextTerm part rest)
  pub next_term_further_term : (pos : _) (operator : _) (part : _) → says.of_term part → says.of_next_term (next_term.FurtherTerm pos operator part)
  pub term_product : (pos : _) (first : _) (n : _) (rest : _) → says.of_factor first → says.of_next_factors _ rest → says.of_term (term.Product' pos first n rest)
  pub next_factors_end : says.of_next_factors _ end_of-NextFactor
  pub next_factors_more : (m : Count) (part : _) (rest : Row_of-NextFactor m) → says.of_next_factor part → says.of_next_factors _ rest → says.of_next_factors _ (more_of-NextFactor part rest)
  pub next_factor_further_factor : (pos : _) (operator : _) (part : _) → says.of_factor part → says.of_next_factor (next_factor.FurtherFactor pos operator part)
  pub factor_lone_primary : (pos : _) (operand : _) → says.of_primary operand → says.of_factor (factor.LonePrimary pos operand)
  pub factor_abs : (pos : _) (operand : _) → says.of_primary operand → says.of_factor (factor.Abs pos operand)
  pub factor_not : (pos : _) (operand : _) → says.of_primary operand → says.of_factor (factor.Not pos operand)
  pub primary_named : (pos : _) (n : _) (part : _) → says.of_name_box _ part → says.of_primary (primary.Named' pos n part)
  pub primary_parenthesized : (pos : _) (n : _) (part : _) (right_paren : _) → says.of_expr_box _ part → says.of_primary (primary.Parenthesized' pos n part right_paren)
  pub primary_aggregated : (pos : _) (n : _) (part : _) → says.of_aggregate_box _ part → says.of_primary (primary.Aggregated' pos n part)
  pub primary_allocated : (pos : _) (mark : _) → says.of_primary (primary.Allocated pos mark)
  pub primary_allocated_aggregate : (pos : _) (mark : _) (apostrophe : _) (n : _) (part : _) → says.of_aggregate_box _ part → says.of_primary (primary.AllocatedAggregate' pos mark apostrophe n part)
  pub primary_allocated_value : (pos : _) (mark : _) (apostrophe : _) (left_paren : _) (n : _) (value : _) (right_paren : _) → says.of_expr_box _ value → says.of_primary (primary.AllocatedValue' pos mark apostrophe left_paren n value right_paren)
  pub primary_number : (pos : _) (value : _) → says.of_primary (primary.Number pos value)
  pub primary_text : (pos : _) (text : _) → says.of_primary (primary.Text pos text)
  pub primary_null : (pos : _) → says.of_primary (primary.Null pos)
  pub name_box_end : says.of_name_box _ end_of-Name
  pub name_box_more : (m : Count) (part : _) (rest : Row_of-Name m) → says.of_name part → says.of_name_box _ (more_of-Name part rest)
  pub aggregate_box_end : says.of_aggregate_box _ end_of-Aggregate
  pub aggregate_box_more : (m : Count) (part : _) (rest : Row_of-Aggregate m) → says.of_aggregate part → says.of_aggregate_box _ (more_of-Aggregate part rest)
  pub aggregate_several : (pos : _) (n : _) (first : _) (comma : _) (n2 : _) (second : _) (n3 : _) (rest : _) (right_paren : _) → says.of_arg_box _ first → says.of_arg_box _ second → says.of_next_args _ rest → says.of_aggregate (aggregate.Several' pos n first comma n2 second n3 rest right_paren)
  pub aggregate_single : (pos : _) (id_word : _) (arrow_word : _) (n : _) (value : _) (right_paren : _) → says.of_expr_box _ value → says.of_aggregate (aggregate.Single' pos id_word arrow_word n value right_paren)
  pub aggregate_others : (pos : _) (others_word : _) (arrow_word : _) (n : _) (value : _) (right_paren : _) → says.of_expr_box _ value → says.of_aggregate (aggregate.Others' pos others_word arrow_word n value right_paren)

module _ {says : Sayings} (laws : ExpressionLaws says) where
  mutual
    pub on_name : (x : Name) → says.of_name x
    on_name (name.Prefixed' pos first n rest) = laws.name_prefixed pos first n rest (on_suffixes rest)

    pub on_suffixes : {n : _} (row : Row_of-Suffix n) → says.of_suffixes n row
    on_suffixes end_of-Suffix = laws.suffixes_end
    on_suffixes (more_of-Suffix part rest) = laws.suffixes_more _ part rest (on_suffix part) (on_suffixes rest)

    pub on_suffix : (x : Suffix) → says.of_suffix x
    on_suffix (suffix.Applied' pos n first n2 rest right_paren) = laws.suffix_applied pos n first n2 rest right_paren (on_arg_box first) (on_next_args rest)
    on_suffix (suffix.Selected pos id_word) = laws.suffix_selected pos id_word
    on_suffix (suffix.Dereferenced pos all_word) = laws.suffix_dereferenced pos all_word
    on_suffix (suffix.Attribute pos id_word) = laws.suffix_attribute pos id_word
    on_suffix (suffix.RangeAttribute pos range_word) = laws.suffix_range_attribute pos range_word

    pub on_arg_box : {n : _} (row : Row_of-Arg n) → says.of_arg_box n row
    on_arg_box end_of-Arg = laws.arg_box_end
    on_arg_box (more_of-Arg part rest) = laws.arg_box_more _ part rest (on_arg part)

    pub on_next_args : {n : _} (row : Row_of-NextArg n) → says.of_next_args n row
    on_next_args end_of-NextArg = laws.next_args_end
    on_next_args (more_of-NextArg part rest) = laws.next_args_more _ part rest (on_next_arg part) (on_next_args rest)

    pub on_next_arg : (x : NextArg) → says.of_next_arg x
    on_next_arg (next_arg.FurtherArg' pos n part) = laws.next_arg_further_arg pos n part (on_arg_box part)

    pub on_arg : (x : Arg) → says.of_arg x
    on_arg (arg.Positional' pos n value) = laws.arg_positional pos n value (on_expr_box value)
    on_arg (arg.Association' pos id_word arrow_word n value) = laws.arg_association pos id_word arrow_word n value (on_expr_box value)

    pub on_expr_box : {n : _} (row : Row_of-Expr n) → says.of_expr_box n row
    on_expr_box end_of-Expr = laws.expr_box_end
    on_expr_box (more_of-Expr part rest) = laws.expr_box_more _ part rest (on_expr part)

    pub on_expr : (x : Expr) → says.of_expr x
    on_expr (expr.LoneRelation' pos n relation) = laws.expr_lone_relation pos n relation (on_rel_box relation)
    on_expr (expr.And' pos n first and_word n2 second n3 rest) = laws.expr_and pos n first and_word n2 second n3 rest (on_rel_box first) (on_rel_box second) (on_operands rest)
    on_expr (expr.Or' pos n first or_word n2 second n3 rest) = laws.expr_or pos n first or_word n2 second n3 rest (on_rel_box first) (on_rel_box second) (on_operands rest)
    on_expr (expr.Xor' pos n first xor_word n2 second n3 rest) = laws.expr_xor pos n first xor_word n2 second n3 rest (on_rel_box first) (on_rel_box second) (on_operands rest)
    on_expr (expr.AndThen' pos n first and_word then_word n2 second n3 rest) = laws.expr_and_then pos n first and_word then_word n2 second n3 rest (on_rel_box first) (on_rel_box second) (on_short_operands rest)
    on_expr (expr.OrElse' pos n first or_word otherwise_word n2 second n3 rest) = laws.expr_or_else pos n first or_word otherwise_word n2 second n3 rest (on_rel_box first) (on_rel_box second) (on_short_operands rest)

    pub on_operands : {n : _} (row : Row_of-Operand n) → says.of_operands n row
    on_operands end_of-Operand = laws.operands_end
    on_operands (more_of-Operand part rest) = laws.operands_more _ part rest (on_operand part) (on_operands rest)

    pub on_operand : (x : Operand) → says.of_operand x
    on_operand (operand.FurtherOperand' pos n relation) = laws.operand_further_operand pos n relation (on_rel_box relation)

    pub on_short_operands : {n : _} (row : Row_of-ShortOperand n) → says.of_short_operands n row
    on_short_operands end_of-ShortOperand = laws.short_operands_end
    on_short_operands (more_of-ShortOperand part rest) = laws.short_operands_more _ part rest (on_short_operand part) (on_short_operands rest)

    pub on_short_operand : (x : ShortOperand) → says.of_short_operand x
    on_short_operand (short_operand.FurtherShortOperand' pos second_word n relation) = laws.short_operand_further_short_operand pos second_word n relation (on_rel_box relation)

    pub on_rel_box : {n : _} (row : Row_of-Rel n) → says.of_rel_box n row
    on_rel_box end_of-Rel = laws.rel_box_end
    on_rel_box (more_of-Rel part rest) = laws.rel_box_more _ part rest (on_rel part)

    pub on_rel : (x : Rel) → says.of_rel x
    on_rel (rel.LoneSum pos operand) = laws.rel_lone_sum pos operand (on_sum operand)
    on_rel (rel.Compared' pos n left operator operator_pos n2 right) = laws.rel_compared pos n left operator operator_pos n2 right (on_sum_box left) (on_sum_box right)

    pub on_sum_box : {n : _} (row : Row_of-Sum n) → says.of_sum_box n row
    on_sum_box end_of-Sum = laws.sum_box_end
    on_sum_box (more_of-Sum part rest) = laws.sum_box_more _ part rest (on_sum part)

    pub on_sum : (x : Sum) → says.of_sum x
    on_sum (sum.Unsigned' pos first n rest) = laws.sum_unsigned pos first n rest (on_term first) (on_next_terms rest)
    on_sum (sum.Signed' pos sign first n rest) = laws.sum_signed pos sign first n rest (on_term first) (on_next_terms rest)

    pub on_next_terms : {n : _} (row : Row_of-NextTerm n) → says.of_next_terms n row
    on_next_terms end_of-NextTerm = laws.next_terms_end
    on_next_terms (more_of-NextTerm part rest) = laws.next_terms_more _ part rest (on_next_term part) (on_next_terms rest)

    pub on_next_term : (x : NextTerm) → says.of_next_term x
    on_next_term (next_term.FurtherTerm pos operator part) = laws.next_term_further_term pos operator part (on_term part)

    pub on_term : (x : Term) → says.of_term x
    on_term (term.Product' pos first n rest) = laws.term_product pos first n rest (on_factor first) (on_next_factors rest)

    pub on_next_factors : {n : _} (row : Row_of-NextFactor n) → says.of_next_factors n row
    on_next_factors end_of-NextFactor = laws.next_factors_end
    on_next_factors (more_of-NextFactor part rest) = laws.next_factors_more _ part rest (on_next_factor part) (on_next_factors rest)

    pub on_next_factor : (x : NextFactor) → says.of_next_factor x
    on_next_factor (next_factor.FurtherFactor pos operator part) = laws.next_factor_further_factor pos operator part (on_factor part)

    pub on_factor : (x : Factor) → says.of_factor x
    on_factor (factor.LonePrimary pos operand) = laws.factor_lone_primary pos operand (on_primary operand)
    on_factor (factor.Abs pos operand) = laws.factor_abs pos operand (on_primary operand)
    on_factor (factor.Not pos operand) = laws.factor_not pos operand (on_primary operand)

    pub on_primary : (x : Primary) → says.of_primary x
    on_primary (primary.Named' pos n part) = laws.primary_named pos n part (on_name_box part)
    on_primary (primary.Parenthesized' pos n part right_paren) = laws.primary_parenthesized pos n part right_paren (on_expr_box part)
    on_primary (primary.Aggregated' pos n part) = laws.primary_aggregated pos n part (on_aggregate_box part)
    on_primary (primary.Allocated pos mark) = laws.primary_allocated pos mark
    on_primary (primary.AllocatedAggregate' pos mark apostrophe n part) = laws.primary_allocated_aggregate pos mark apostrophe n part (on_aggregate_box part)
    on_primary (primary.AllocatedValue' pos mark apostrophe left_paren n value right_paren) = laws.primary_allocated_value pos mark apostrophe left_paren n value right_paren (on_expr_box value)
    on_primary (primary.Number pos value) = laws.primary_number pos value
    on_primary (primary.Text pos text) = laws.primary_text pos text
    on_primary (primary.Null pos) = laws.primary_null pos

    pub on_name_box : {n : _} (row : Row_of-Name n) → says.of_name_box n row
    on_name_box end_of-Name = laws.name_box_end
    on_name_box (more_of-Name part rest) = laws.name_box_more _ part rest (on_name part)

    pub on_aggregate_box : {n : _} (row : Row_of-Aggregate n) → says.of_aggregate_box n row
    on_aggregate_box end_of-Aggregate = laws.aggregate_box_end
    on_aggregate_box (more_of-Aggregate part rest) = laws.aggregate_box_more _ part rest (on_aggregate part)

    pub on_aggregate : (x : Aggregate) → says.of_aggregate x
    on_aggregate (aggregate.Several' pos n first comma n2 second n3 rest right_paren) = laws.aggregate_several pos n first comma n2 second n3 rest right_paren (on_arg_box first) (on_arg_box second) (on_next_args rest)
    on_aggregate (aggregate.Single' pos id_word arrow_word n value right_paren) = laws.aggregate_single pos id_word arrow_word n value right_paren (on_expr_box value)
    on_aggregate (aggregate.Others' pos others_word arrow_word n value right_paren) = laws.aggregate_others pos others_word arrow_word n value right_paren (on_expr_box value)
