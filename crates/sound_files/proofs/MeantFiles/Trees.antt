-- Expressions of trees are as the grammar has them, where each number denotes what is declared.
use Rattle.std.proofs.Common.{ℕ, zero, suc, List, [], ◌∷◌, length}
use Rattle.std.specs.Prelude.{drop}
use Rattle.ada_tree.specs.declared.expression.Aggregate.{Aggregate, Row_of-Arg, more_of-Arg, Row_of-NextArg, end_of-NextArg, more_of-NextArg, Row_of-Expr, more_of-Expr}
use Rattle.ada_tree.specs.declared.expression.Aggregate.TheVariants as aggregate
use Rattle.ada_tree.specs.declared.expression.Arg.{Arg}
use Rattle.ada_tree.specs.declared.expression.Arg.TheVariants as arg
use Rattle.ada_tree.specs.declared.expression.NextArg.{NextArg}
use Rattle.ada_tree.specs.declared.expression.NextArg.TheVariants as next_arg
use Rattle.ada_tree.specs.declared.expression.Expr.{Expr, Row_of-Rel, more_of-Rel, Row_of-Operand, end_of-Operand, more_of-Operand, Row_of-ShortOperand, end_of-ShortOperand, more_of-ShortOperand}
use Rattle.ada_tree.specs.declared.expression.Expr.TheVariants as expr
use Rattle.ada_tree.specs.declared.expression.Operand.{Operand}
use Rattle.ada_tree.specs.declared.expression.Operand.TheVariants as operand
use Rattle.ada_tree.specs.declared.expression.ShortOperand.{ShortOperand}
use Rattle.ada_tree.specs.declared.expression.ShortOperand.TheVariants as short_operand
use Rattle.ada_tree.specs.declared.expression.Rel.{Rel, Row_of-Sum, more_of-Sum}
use Rattle.ada_tree.specs.declared.expression.Rel.TheVariants as rel
use Rattle.ada_tree.specs.declared.expression.Sum.{Sum, Row_of-NextTerm, end_of-NextTerm, more_of-NextTerm}
use Rattle.ada_tree.specs.declared.expression.Sum.TheVariants as sum
use Rattle.ada_tree.specs.declared.expression.NextTerm.{NextTerm}
use Rattle.ada_tree.specs.declared.expression.NextTerm.TheVariants as next_term
use Rattle.ada_tree.specs.declared.expression.Term.{Term, Row_of-NextFactor, end_of-NextFactor, more_of-NextFactor}
use Rattle.ada_tree.specs.declared.expression.Term.TheVariants as term
use Rattle.ada_tree.specs.declared.expression.NextFactor.{NextFactor}
use Rattle.ada_tree.specs.declared.expression.NextFactor.TheVariants as next_factor
use Rattle.ada_tree.specs.declared.expression.Factor.{Factor}
use Rattle.ada_tree.specs.declared.expression.Factor.TheVariants as factor
use Rattle.ada_tree.specs.declared.expression.Primary.{Primary, Row_of-Name, more_of-Name, Row_of-Aggregate, more_of-Aggregate}
use Rattle.ada_tree.specs.declared.expression.Primary.TheVariants as primary
use Rattle.ada_tree.specs.declared.expression.Name.{Name, Row_of-Suffix, end_of-Suffix, more_of-Suffix}
use Rattle.ada_tree.specs.declared.expression.Name.TheVariants as name
use Rattle.ada_tree.specs.declared.expression.Suffix.{Suffix}
use Rattle.ada_tree.specs.declared.expression.Suffix.TheVariants as suffix
use Rattle.machine.specs.spark_base.declared.position.Pos.{Pos}
use Rattle.machine.specs.resolved_tree.declared.operator.Operator.{Operator}
use Rattle.machine.specs.resolved_tree.Trees.{Tree, list_of}
use Rattle.machine.specs.resolved_tree.Trees as t
use Rattle.machine.specs.typed_tree.Expressions.{Site}
use Rattle.machine.specs.flow_paths.Objects.{Typing}
use Rattle.expression_lowering.specs.LoweredExpressions.{Numbers, chained, lowered_name, lowered_suffixes, lowered_suffix, box_before, args_row, next_arg_before, arg_before, lowered_expr_box, lowered_expr, operands_row, lowered_operand, short_operands_row, lowered_short_operand, lowered_rel_box, lowered_rel, lowered_sum_box, lowered_sum, terms_row, lowered_next_term, lowered_term, factors_row, lowered_next_factor, lowered_factor, lowered_primary, lowered_name_box, lowered_aggregate_box, lowered_aggregate, selected_numbers}
use Rattle.soundness.specs.TypedLaws.Fine.{Denotes, IsMeant, AreSuffixes, IsSuffix, AreArguments}

module _ (numbers : Numbers) (s : Site) (y : Typing) (all : (d : ℕ) → Denotes s y d) where
  -- ---- lists

  abbrev EachSuffix : List Tree → Type 0
  EachSuffix [] = Unit {0}
  EachSuffix (x ∷ xs) = IsSuffix s y x × EachSuffix xs

  dropped : (k : ℕ) (xs : List Tree) → EachSuffix xs → EachSuffix (drop k xs)
  dropped zero xs are = are
  dropped (suc k) [] are = are
  dropped (suc k) (x ∷ xs) are = dropped k xs are.1

  as_one : (xs : List Tree) → EachSuffix xs → AreSuffixes s y (list_of xs)
  unfolding AreSuffixes
  as_one [] are = tt
  as_one (x ∷ xs) are = (are.0, as_one xs are.1)

  abbrev EachOperand : List (Operator × Tree) → Type 0
  EachOperand [] = Unit {0}
  EachOperand (x ∷ xs) = IsMeant s y x.1 × EachOperand xs

  chain : (pos : Pos) (left : Tree) (xs : List (Operator × Tree)) → IsMeant s y left → EachOperand xs → IsMeant s y (chained pos left xs)
  unfolding IsMeant
  chain pos left [] first are = first
  chain pos left (x ∷ xs) first are = chain pos (t.Binary pos x.0 left x.1) xs (first, are.0) are.1

  -- ---- expressions

  mutual
    unfolding IsMeant AreSuffixes IsSuffix AreArguments lowered_name lowered_suffixes lowered_suffix box_before args_row next_arg_before arg_before lowered_expr_box lowered_expr operands_row lowered_operand short_operands_row lowered_short_operand lowered_rel_box lowered_rel lowered_sum_box lowered_sum terms_row lowered_next_term lowered_term factors_row lowered_next_factor lowered_factor lowered_primary lowered_name_box lowered_aggregate_box lowered_aggregate

    pub name_meant : (n : Name) → IsMeant s y (lowered_name numbers n)
    name_meant (name.Prefixed' pos first _ rest) = (
      all _,
      as_one (drop (length (selected_numbers numbers rest)) (lowered_suffixes numbers rest))
          (dropped (length (selected_numbers numbers rest)) (lowered_suffixes numbers rest) (suffixes_meant rest)),
    )

    suffixes_meant : {n : _} (row : Row_of-Suffix n) → EachSuffix (lowered_suffixes numbers row)
    suffixes_meant end_of-Suffix = tt
    suffixes_meant (more_of-Suffix part rest) = (suffix_meant part, suffixes_meant rest)

    suffix_meant : (x : Suffix) → IsSuffix s y (lowered_suffix numbers x)
    suffix_meant (suffix.Selected pos selector) = tt
    suffix_meant (suffix.Dereferenced pos all_word) = tt
    suffix_meant (suffix.Applied' pos _ first _ rest right_paren) = arg_box_meant (args_row numbers rest) first (args_meant rest)
    suffix_meant (suffix.Attribute pos id) = tt
    suffix_meant (suffix.RangeAttribute pos range) = tt

    arg_box_meant : (others : Tree) (row : Row_of-Arg 1) → AreArguments s y others → AreArguments s y (box_before numbers others row)
    arg_box_meant others (more_of-Arg part rest) are = arg_meant others part are

    args_meant : {n : _} (row : Row_of-NextArg n) → AreArguments s y (args_row numbers row)
    args_meant end_of-NextArg = tt
    args_meant (more_of-NextArg part rest) = next_arg_meant (args_row numbers rest) part (args_meant rest)

    pub next_arg_meant : (others : Tree) (a : NextArg) → AreArguments s y others → AreArguments s y (next_arg_before numbers others a)
    next_arg_meant others (next_arg.FurtherArg' pos _ part) are = arg_box_meant others part are

    pub arg_meant : (others : Tree) (a : Arg) → AreArguments s y others → AreArguments s y (arg_before numbers others a)
    arg_meant others (arg.Positional' pos _ value) are = (expr_box_meant value, are)
    arg_meant others (arg.Association' pos id arrow _ value) are = (expr_box_meant value, are)

    expr_box_meant : (row : Row_of-Expr 1) → IsMeant s y (lowered_expr_box numbers row)
    expr_box_meant (more_of-Expr part rest) = expr_meant part

    pub expr_meant : (x : Expr) → IsMeant s y (lowered_expr numbers x)
    expr_meant (expr.LoneRelation' pos _ relation) = rel_box_meant relation
    expr_meant (expr.And' pos _ first and _ second _ rest) = chain pos _ _ (rel_box_meant first, rel_box_meant second) (operands_meant _ rest)
    expr_meant (expr.Or' pos _ first or _ second _ rest) = chain pos _ _ (rel_box_meant first, rel_box_meant second) (operands_meant _ rest)
    expr_meant (expr.Xor' pos _ first xor _ second _ rest) = chain pos _ _ (rel_box_meant first, rel_box_meant second) (operands_meant _ rest)
    expr_meant (expr.AndThen' pos _ first and then_word _ second _ rest) =
        chain pos _ _ (rel_box_meant first, rel_box_meant second) (short_operands_meant _ rest)
    expr_meant (expr.OrElse' pos _ first or otherwise _ second _ rest) =
        chain pos _ _ (rel_box_meant first, rel_box_meant second) (short_operands_meant _ rest)

    operands_meant : {n : _} (by : Operator) (row : Row_of-Operand n) → EachOperand (operands_row numbers by row)
    operands_meant by end_of-Operand = tt
    operands_meant by (more_of-Operand part rest) = (operand_meant by part, operands_meant by rest)

    operand_meant : (by : Operator) (o : Operand) → IsMeant s y (lowered_operand numbers by o).1
    operand_meant by (operand.FurtherOperand' pos _ relation) = rel_box_meant relation

    short_operands_meant : {n : _} (by : Operator) (row : Row_of-ShortOperand n) → EachOperand (short_operands_row numbers by row)
    short_operands_meant by end_of-ShortOperand = tt
    short_operands_meant by (more_of-ShortOperand part rest) = (short_operand_meant by part, short_operands_meant by rest)

    short_operand_meant : (by : Operator) (o : ShortOperand) → IsMeant s y (lowered_short_operand numbers by o).1
    short_operand_meant by (short_operand.FurtherShortOperand' pos second_word _ relation) = rel_box_meant relation

    rel_box_meant : (row : Row_of-Rel 1) → IsMeant s y (lowered_rel_box numbers row)
    rel_box_meant (more_of-Rel part rest) = rel_meant part

    rel_meant : (r : Rel) → IsMeant s y (lowered_rel numbers r)
    rel_meant (rel.LoneSum pos operand) = sum_meant operand
    rel_meant (rel.Compared' pos _ left operator operator_pos _ right) = (sum_box_meant left, sum_box_meant right)

    sum_box_meant : (row : Row_of-Sum 1) → IsMeant s y (lowered_sum_box numbers row)
    sum_box_meant (more_of-Sum part rest) = sum_meant part

    sum_meant : (x : Sum) → IsMeant s y (lowered_sum numbers x)
    sum_meant (sum.Unsigned' pos first _ rest) = chain pos _ _ (term_meant first) (terms_meant rest)
    sum_meant (sum.Signed' pos sign first _ rest) = chain pos _ _ (term_meant first) (terms_meant rest)

    terms_meant : {n : _} (row : Row_of-NextTerm n) → EachOperand (terms_row numbers row)
    terms_meant end_of-NextTerm = tt
    terms_meant (more_of-NextTerm part rest) = (next_term_meant part, terms_meant rest)

    next_term_meant : (x : NextTerm) → IsMeant s y (lowered_next_term numbers x).1
    next_term_meant (next_term.FurtherTerm pos operator part) = term_meant part

    term_meant : (x : Term) → IsMeant s y (lowered_term numbers x)
    term_meant (term.Product' pos first _ rest) = chain pos _ _ (factor_meant first) (factors_meant rest)

    factors_meant : {n : _} (row : Row_of-NextFactor n) → EachOperand (factors_row numbers row)
    factors_meant end_of-NextFactor = tt
    factors_meant (more_of-NextFactor part rest) = (next_factor_meant part, factors_meant rest)

    next_factor_meant : (f : NextFactor) → IsMeant s y (lowered_next_factor numbers f).1
    next_factor_meant (next_factor.FurtherFactor pos operator part) = factor_meant part

    factor_meant : (f : Factor) → IsMeant s y (lowered_factor numbers f)
    factor_meant (factor.LonePrimary pos operand) = primary_meant operand
    factor_meant (factor.Abs pos operand) = primary_meant operand
    factor_meant (factor.Not pos operand) = primary_meant operand

    primary_meant : (p : Primary) → IsMeant s y (lowered_primary numbers p)
    primary_meant (primary.Number pos value) = tt
    primary_meant (primary.Text pos text) = tt
    primary_meant (primary.Null pos) = tt
    primary_meant (primary.Named' pos _ part) = name_box_meant part
    primary_meant (primary.Parenthesized' pos _ part right_paren) = expr_box_meant part
    primary_meant (primary.Aggregated' pos _ part) = aggregate_box_meant part
    primary_meant (primary.Allocated pos mark) = (tt, tt)
    primary_meant (primary.AllocatedAggregate' pos mark apostrophe _ part) = (tt, (aggregate_box_meant part, tt))
    primary_meant (primary.AllocatedValue' pos mark apostrophe left_paren _ value right_paren) = (tt, (expr_box_meant value, tt))

    name_box_meant : (row : Row_of-Name 1) → IsMeant s y (lowered_name_box numbers row)
    name_box_meant (more_of-Name part rest) = name_meant part

    aggregate_box_meant : (row : Row_of-Aggregate 1) → IsMeant s y (lowered_aggregate_box numbers row)
    aggregate_box_meant (more_of-Aggregate part rest) = aggregate_meant part

    aggregate_meant : (a : Aggregate) → IsMeant s y (lowered_aggregate numbers a)
    aggregate_meant (aggregate.Several' pos _ first comma _ second _ rest right_paren) =
        arg_box_meant (box_before numbers (args_row numbers rest) second) first (arg_box_meant (args_row numbers rest) second (args_meant rest))
    aggregate_meant (aggregate.Single' pos id arrow _ value right_paren) = (expr_box_meant value, tt)
    aggregate_meant (aggregate.Others' pos others arrow _ value right_paren) = expr_box_meant value
