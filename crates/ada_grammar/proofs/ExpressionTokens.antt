-- Each token of an expression is part of it: the count of operators goes on through it, and each
-- operator is one more.
use Rattle.std.proofs.Common.{◌≡◌, refl, ℕ, suc, List, [], ◌∷◌, ◌++◌}
use Rattle.std.specs.Prelude.{Bool, true, false, if◌then◌else◌}
use Rattle.std.proofs.lemmas.Bool.{true≢false, false≢true}
use Rattle.std.specs.List.{flat_map}
use Rattle.ada_lexer.specs.declared.token.Reserved.{Reserved}
use Rattle.ada_lexer.specs.declared.token.Reserved.TheVariants as w
use Rattle.ada_tree.specs.declared.identifier.Dotted.{Dotted}
use Rattle.ada_tree.specs.declared.identifier.NextPart.{NextPart}
use Rattle.ada_tree.specs.declared.identifier.NextPart.TheVariants as next_part
use Rattle.ada_tree.specs.declared.expression.Aggregate.{Aggregate, Row_of-Arg, end_of-Arg, more_of-Arg, Row_of-NextArg, end_of-NextArg, more_of-NextArg, Row_of-Expr, end_of-Expr, more_of-Expr}
use Rattle.ada_tree.specs.declared.expression.Aggregate.TheVariants as aggregate
use Rattle.ada_tree.specs.declared.expression.Arg.{Arg}
use Rattle.ada_tree.specs.declared.expression.Arg.TheVariants as arg
use Rattle.ada_tree.specs.declared.expression.NextArg.{NextArg}
use Rattle.ada_tree.specs.declared.expression.NextArg.TheVariants as next_arg
use Rattle.ada_tree.specs.declared.expression.Expr.{Expr, Row_of-Rel, end_of-Rel, more_of-Rel, Row_of-Operand, end_of-Operand, more_of-Operand, Row_of-ShortOperand, end_of-ShortOperand, more_of-ShortOperand}
use Rattle.ada_tree.specs.declared.expression.Expr.TheVariants as expr
use Rattle.ada_tree.specs.declared.expression.Operand.{Operand}
use Rattle.ada_tree.specs.declared.expression.Operand.TheVariants as operand
use Rattle.ada_tree.specs.declared.expression.ShortOperand.{ShortOperand}
use Rattle.ada_tree.specs.declared.expression.ShortOperand.TheVariants as short_operand
use Rattle.ada_tree.specs.declared.expression.Rel.{Rel, Row_of-Sum, end_of-Sum, more_of-Sum}
use Rattle.ada_tree.specs.declared.expression.Rel.TheVariants as rel
use Rattle.ada_tree.specs.declared.expression.Sum.{Sum, Row_of-NextTerm, end_of-NextTerm, more_of-NextTerm}
use Rattle.ada_tree.specs.declared.expression.Sum.TheVariants as sum
use Rattle.ada_tree.specs.declared.expression.NextTerm.{NextTerm}
use Rattle.ada_tree.specs.declared.expression.NextTerm.TheVariants as next_term
use Rattle.ada_tree.specs.declared.expression.Term.{Term, Row_of-NextFactor, end_of-NextFactor, more_of-NextFactor}
use Rattle.ada_tree.specs.declared.expression.Term.TheVariants as term
use Rattle.ada_tree.specs.declared.expression.NextFactor.{NextFactor}
use Rattle.ada_tree.specs.declared.expression.NextFactor.TheVariants as next_factor
use Rattle.ada_tree.specs.declared.expression.Factor.{Factor}
use Rattle.ada_tree.specs.declared.expression.Factor.TheVariants as factor
use Rattle.ada_tree.specs.declared.expression.Primary.{Primary, Row_of-Name, end_of-Name, more_of-Name, Row_of-Aggregate, end_of-Aggregate, more_of-Aggregate}
use Rattle.ada_tree.specs.declared.expression.Primary.TheVariants as primary
use Rattle.ada_tree.specs.declared.expression.Name.{Name, Row_of-Suffix, end_of-Suffix, more_of-Suffix}
use Rattle.ada_tree.specs.declared.expression.Name.TheVariants as name
use Rattle.ada_tree.specs.declared.expression.Suffix.{Suffix}
use Rattle.ada_tree.specs.declared.expression.Suffix.TheVariants as suffix
use Rattle.token_reading.specs.Spelled.{Spelled}
use Rattle.token_reading.specs.declared.side.Side.TheVariants.{Within}
use Rattle.token_reading.specs.Weights.{WeighedToken, plain, opens, operates}
use Rattle.token_reading.specs.Reading.{Each}
use Rattle.ada_grammar.specs.Nesting.{operator_word, is_operator}
use Rattle.ada_grammar.specs.Outermost.{IsPart}
use Rattle.ada_tree.specs.Spelling.{aggregate_box, aggregate_spelling, arg_box, arg_spelling, dotted_spelling, expr_box, expr_spelling, factor_spelling, name_box, name_spelling, next_arg_spelling, next_args_spelling, next_factor_spelling, next_factors_spelling, next_part_spelling, next_term_spelling, next_terms_spelling, operand_spelling, operands_spelling, primary_spelling, rel_box, rel_spelling, short_operand_spelling, short_operands_spelling, suffix_spelling, suffixes_spelling, sum_box, sum_spelling, term_spelling}
use Rattle.ada_grammar.proofs.ExpressionNesting.{relational_operates, sign_operates, adding_operates, multiplying_operates}

-- Each of these tokens is part of an expression.
pub record Whole (ms : List WeighedToken) : Type 0 where
  pub it : Each IsPart ms

one_more : (is : Bool) (k next : ℕ) → is ≡ true → next ≡ suc k → next ≡ (if is then suc k else k)
one_more true k next operator step = step
one_more false k next operator step = absurd (false≢true operator)

no_more : (is : Bool) (k : ℕ) → is ≡ false → k ≡ (if is then suc k else k)
no_more true k other = absurd (true≢false other)
no_more false k other = refl

ended : Whole []
ended = record { it = tt }

-- A token within an expression, in front of others.
kept : {t : Spelled} {ms : List WeighedToken} → is_operator t ≡ false → Whole ms → Whole (plain Within t ∷ ms)
kept {t} other more = record { it = (λ k. no_more (is_operator t) k other, more.it) }

opened : (d : ℕ) {t : Spelled} {ms : List WeighedToken} → is_operator t ≡ false → Whole ms → Whole (opens Within d t ∷ ms)
opened d {t} other more = record { it = (λ k. no_more (is_operator t) k other, more.it) }

operated : {t : Spelled} {ms : List WeighedToken} → is_operator t ≡ true → Whole ms → Whole (operates t ∷ ms)
operated {t} operator more = record { it = (λ k. one_more (is_operator t) k (suc k) operator refl, more.it) }

each_joined : (a b : List WeighedToken) → Each IsPart a → Each IsPart b → Each IsPart (a ++ b)
each_joined [] b front back = back
each_joined (m ∷ a) b front back = (front.0, each_joined a b front.1 back)

joined : {a b : List WeighedToken} → Whole a → Whole b → Whole (a ++ b)
joined {a} {b} front back = record { it = each_joined a b front.it back.it }

next_parts_whole : (parts : List NextPart) → Whole (flat_map (next_part_spelling Within) parts)
unfolding next_part_spelling
next_parts_whole [] = ended
next_parts_whole (next_part.FurtherPart pos id ∷ rest) = kept refl (kept refl (next_parts_whole rest))

dotted_whole : (tree : Dotted) → Whole (dotted_spelling Within tree)
unfolding dotted_spelling
dotted_whole dotted = kept refl (next_parts_whole dotted.rest)

-- ---- expressions and names

mutual
  unfolding name_spelling

  pub name_whole : (d : ℕ) (tree : Name) → Whole (name_spelling Within d tree)
  name_whole d (name.Prefixed' pos first _ rest) = kept refl (suffixes_whole d rest)

  suffixes_whole : {n : _} (d : ℕ) (row : Row_of-Suffix n) → Whole (suffixes_spelling Within d row)
  suffixes_whole d end_of-Suffix = ended
  suffixes_whole d (more_of-Suffix part rest) = joined (suffix_whole d part) (suffixes_whole d rest)

  suffix_whole : (d : ℕ) (tree : Suffix) → Whole (suffix_spelling Within d tree)
  suffix_whole d (suffix.Selected pos selector) = kept refl (kept refl ended)
  suffix_whole d (suffix.Dereferenced pos all) = kept refl (kept refl ended)
  suffix_whole d (suffix.Applied' pos _ first _ rest right_paren) =
      opened d refl (joined (arg_box_whole (suc d) first) (joined (next_args_whole (suc d) rest)
      (kept refl ended)))
  suffix_whole d (suffix.Attribute pos attribute) = kept refl (kept refl ended)
  suffix_whole d (suffix.RangeAttribute pos range) = kept refl (kept refl ended)

  arg_box_whole : {n : _} (d : ℕ) (row : Row_of-Arg n) → Whole (arg_box Within d row)
  arg_box_whole d end_of-Arg = ended
  arg_box_whole d (more_of-Arg part rest) = arg_whole d part

  next_args_whole : {n : _} (d : ℕ) (row : Row_of-NextArg n) → Whole (next_args_spelling Within d row)
  next_args_whole d end_of-NextArg = ended
  next_args_whole d (more_of-NextArg part rest) = joined (next_arg_whole d part) (next_args_whole d rest)

  pub next_arg_whole : (d : ℕ) (tree : NextArg) → Whole (next_arg_spelling Within d tree)
  next_arg_whole d (next_arg.FurtherArg' pos _ part) = kept refl (arg_box_whole d part)

  pub arg_whole : (d : ℕ) (tree : Arg) → Whole (arg_spelling Within d tree)
  arg_whole d (arg.Positional' pos _ value) = expr_box_whole d value
  arg_whole d (arg.Association' pos id arrow _ value) = kept refl (kept refl (expr_box_whole d value))

  expr_box_whole : {n : _} (d : ℕ) (row : Row_of-Expr n) → Whole (expr_box d row)
  expr_box_whole d end_of-Expr = ended
  expr_box_whole d (more_of-Expr part rest) = expr_whole d part

  pub expr_whole : (d : ℕ) (tree : Expr) → Whole (expr_spelling d tree)
  expr_whole d (expr.LoneRelation' pos _ relation) = rel_box_whole d relation
  expr_whole d (expr.And' pos _ first and _ second _ rest) =
      joined (rel_box_whole d first) (operated refl (joined (rel_box_whole d second)
      (operands_whole d w.KwAnd refl rest)))
  expr_whole d (expr.Or' pos _ first or _ second _ rest) =
      joined (rel_box_whole d first) (operated refl (joined (rel_box_whole d second) (operands_whole d w.KwOr refl rest)))
  expr_whole d (expr.Xor' pos _ first xor _ second _ rest) =
      joined (rel_box_whole d first) (operated refl (joined (rel_box_whole d second)
      (operands_whole d w.KwXor refl rest)))
  expr_whole d (expr.AndThen' pos _ first and then_word _ second _ rest) =
      joined (rel_box_whole d first) (operated refl (kept refl (joined (rel_box_whole d second)
      (short_operands_whole d w.KwAnd w.KwThen refl refl rest))))
  expr_whole d (expr.OrElse' pos _ first or otherwise _ second _ rest) =
      joined (rel_box_whole d first) (operated refl (kept refl (joined (rel_box_whole d second)
      (short_operands_whole d w.KwOr w.KwElse refl refl rest))))

  operands_whole : {n : _} (d : ℕ) (v : Reserved) → operator_word v ≡ true → (row : Row_of-Operand n)
      → Whole (operands_spelling d v row)
  operands_whole d v operator end_of-Operand = ended
  operands_whole d v operator (more_of-Operand part rest) =
      joined (operand_whole d v operator part) (operands_whole d v operator rest)

  operand_whole : (d : ℕ) (v : Reserved) → operator_word v ≡ true → (tree : Operand) → Whole (operand_spelling d v tree)
  operand_whole d v operator (operand.FurtherOperand' pos _ relation) = operated operator (rel_box_whole d relation)

  short_operands_whole : {n : _} (d : ℕ) (v : Reserved) (u : Reserved) → operator_word v ≡ true
      → operator_word u ≡ false → (row : Row_of-ShortOperand n)
      → Whole (short_operands_spelling d v u row)
  short_operands_whole d v u operator rest_word end_of-ShortOperand = ended
  short_operands_whole d v u operator rest_word (more_of-ShortOperand part rest) =
      joined (short_operand_whole d v u operator rest_word part) (short_operands_whole d v u operator rest_word rest)

  short_operand_whole : (d : ℕ) (v : Reserved) (u : Reserved) → operator_word v ≡ true
      → operator_word u ≡ false → (tree : ShortOperand) → Whole (short_operand_spelling d v u tree)
  short_operand_whole d v u operator rest_word (short_operand.FurtherShortOperand' pos second_word _ relation) =
      operated operator (kept rest_word (rel_box_whole d relation))

  rel_box_whole : {n : _} (d : ℕ) (row : Row_of-Rel n) → Whole (rel_box d row)
  rel_box_whole d end_of-Rel = ended
  rel_box_whole d (more_of-Rel part rest) = rel_whole d part

  rel_whole : (d : ℕ) (tree : Rel) → Whole (rel_spelling d tree)
  rel_whole d (rel.LoneSum pos operand) = sum_whole d operand
  rel_whole d (rel.Compared' pos _ left operator operator_pos _ right) =
      joined (sum_box_whole d left) (operated (relational_operates operator) (sum_box_whole d right))

  sum_box_whole : {n : _} (d : ℕ) (row : Row_of-Sum n) → Whole (sum_box d row)
  sum_box_whole d end_of-Sum = ended
  sum_box_whole d (more_of-Sum part rest) = sum_whole d part

  sum_whole : (d : ℕ) (tree : Sum) → Whole (sum_spelling d tree)
  sum_whole d (sum.Unsigned' pos first _ rest) = joined (term_whole d first) (next_terms_whole d rest)
  sum_whole d (sum.Signed' pos sign first _ rest) =
      operated (sign_operates sign) (joined (term_whole d first) (next_terms_whole d rest))

  next_terms_whole : {n : _} (d : ℕ) (row : Row_of-NextTerm n) → Whole (next_terms_spelling d row)
  next_terms_whole d end_of-NextTerm = ended
  next_terms_whole d (more_of-NextTerm part rest) = joined (next_term_whole d part) (next_terms_whole d rest)

  next_term_whole : (d : ℕ) (tree : NextTerm) → Whole (next_term_spelling d tree)
  next_term_whole d (next_term.FurtherTerm pos operator part) = operated (adding_operates operator) (term_whole d part)

  term_whole : (d : ℕ) (tree : Term) → Whole (term_spelling d tree)
  term_whole d (term.Product' pos first _ rest) = joined (factor_whole d first) (next_factors_whole d rest)

  next_factors_whole : {n : _} (d : ℕ) (row : Row_of-NextFactor n) → Whole (next_factors_spelling d row)
  next_factors_whole d end_of-NextFactor = ended
  next_factors_whole d (more_of-NextFactor part rest) = joined (next_factor_whole d part) (next_factors_whole d rest)

  next_factor_whole : (d : ℕ) (tree : NextFactor) → Whole (next_factor_spelling d tree)
  next_factor_whole d (next_factor.FurtherFactor pos operator part) =
      operated (multiplying_operates operator pos) (factor_whole d part)

  factor_whole : (d : ℕ) (tree : Factor) → Whole (factor_spelling d tree)
  factor_whole d (factor.LonePrimary pos operand) = primary_whole d operand
  factor_whole d (factor.Abs pos operand) = operated refl (primary_whole d operand)
  factor_whole d (factor.Not pos operand) = operated refl (primary_whole d operand)

  primary_whole : (d : ℕ) (tree : Primary) → Whole (primary_spelling d tree)
  primary_whole d (primary.Number pos number) = kept refl ended
  primary_whole d (primary.Text pos text) = kept refl ended
  primary_whole d (primary.Null pos) = kept refl ended
  primary_whole d (primary.Named' pos _ part) = name_box_whole d part
  primary_whole d (primary.Parenthesized' pos _ part right_paren) =
      opened d refl (joined (expr_box_whole (suc d) part) (kept refl ended))
  primary_whole d (primary.Aggregated' pos _ part) = aggregate_box_whole d part
  primary_whole d (primary.Allocated pos mark) = kept refl (dotted_whole mark)
  primary_whole d (primary.AllocatedAggregate' pos mark apostrophe _ part) =
      kept refl (joined (dotted_whole mark) (kept refl (aggregate_box_whole d part)))
  primary_whole d (primary.AllocatedValue' pos mark apostrophe left_paren _ value right_paren) =
      kept refl (joined (dotted_whole mark) (kept refl (opened d refl (joined
      (expr_box_whole (suc d) value) (kept refl ended)))))

  name_box_whole : {n : _} (d : ℕ) (row : Row_of-Name n) → Whole (name_box d row)
  name_box_whole d end_of-Name = ended
  name_box_whole d (more_of-Name part rest) = name_whole d part

  aggregate_box_whole : {n : _} (d : ℕ) (row : Row_of-Aggregate n) → Whole (aggregate_box d row)
  aggregate_box_whole d end_of-Aggregate = ended
  aggregate_box_whole d (more_of-Aggregate part rest) = aggregate_whole d part

  aggregate_whole : (d : ℕ) (tree : Aggregate) → Whole (aggregate_spelling d tree)
  aggregate_whole d (aggregate.Several' pos _ first comma _ second _ rest right_paren) =
      opened d refl (joined (arg_box_whole (suc d) first) (kept refl (joined
      (arg_box_whole (suc d) second) (joined (next_args_whole (suc d) rest)
      (kept refl ended)))))
  aggregate_whole d (aggregate.Single' pos id arrow _ value right_paren) =
      opened d refl (kept refl (kept refl (joined (expr_box_whole (suc d) value)
      (kept refl ended))))
  aggregate_whole d (aggregate.Others' pos others arrow _ value right_paren) =
      opened d refl (kept refl (kept refl (joined (expr_box_whole (suc d) value)
      (kept refl ended))))
