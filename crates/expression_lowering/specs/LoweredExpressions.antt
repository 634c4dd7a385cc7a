-- What expressions, names, ranges and choices stand for: trees whose identifiers are declarations,
-- without the levels of the grammar (docs/LANGUAGE.md, "Names" and "Types"; Ada 2012, 4.1 to 4.8):
-- one case for each alternative of the grammar.
--
-- `numbers` has the declaration of each identifier that uses, makes or completes one, by its
-- position.
use Rattle.std.specs.Prelude.{ℕ, if◌then◌else◌, List, [], ◌∷◌, map, drop, length, codes, unwrap_or, Option, None, Some}
use Rattle.std.specs.Str.{str_eq_ignore_ascii_case}
use Rattle.spark_base.specs.declared.position.Pos.{Pos}
use Rattle.ada_tree.specs.declared.operator.Sign.{Sign}
use Rattle.ada_tree.specs.declared.operator.Sign.TheVariants as sign
use Rattle.ada_tree.specs.declared.operator.RelationalOperator.{RelationalOperator}
use Rattle.ada_tree.specs.declared.operator.RelationalOperator.TheVariants as relational
use Rattle.ada_tree.specs.declared.operator.AddingOperator.{AddingOperator}
use Rattle.ada_tree.specs.declared.operator.AddingOperator.TheVariants as adding
use Rattle.ada_tree.specs.declared.operator.MultiplyingOperator.{MultiplyingOperator}
use Rattle.ada_tree.specs.declared.operator.MultiplyingOperator.TheVariants as multiplying
use Rattle.ada_tree.specs.declared.identifier.Identifier.{Identifier}
use Rattle.ada_tree.specs.declared.identifier.Dotted.{Dotted}
use Rattle.ada_tree.specs.declared.identifier.NextPart.{NextPart}
use Rattle.ada_tree.specs.declared.expression.Aggregate.{Aggregate, Row_of-Arg, end_of-Arg, more_of-Arg, Row_of-NextArg, end_of-NextArg, more_of-NextArg, Row_of-Expr, end_of-Expr, more_of-Expr}
use Rattle.ada_tree.specs.declared.expression.Aggregate.TheVariants as aggregate
use Rattle.ada_tree.specs.declared.expression.Arg.{Arg}
use Rattle.ada_tree.specs.declared.expression.Arg.TheVariants as arg
use Rattle.ada_tree.specs.declared.expression.NextArg.{NextArg}
use Rattle.ada_tree.specs.declared.expression.NextArg.TheVariants as next_arg
use Rattle.ada_tree.specs.declared.expression.Expr.{Expr, Row_of-Rel, end_of-Rel, more_of-Rel, Row_of-Operand, end_of-Operand, more_of-Operand, Row_of-ShortOperand, end_of-ShortOperand, more_of-ShortOperand}
use Rattle.ada_tree.specs.declared.expression.Expr.TheVariants as expr
use Rattle.ada_tree.specs.declared.expression.Operand.{Operand}
use Rattle.ada_tree.specs.declared.expression.Operand.TheVariants as operand
use Rattle.ada_tree.specs.declared.expression.ShortOperand.{ShortOperand}
use Rattle.ada_tree.specs.declared.expression.ShortOperand.TheVariants as short_operand
use Rattle.ada_tree.specs.declared.expression.Rel.{Rel, Row_of-Sum, end_of-Sum, more_of-Sum}
use Rattle.ada_tree.specs.declared.expression.Rel.TheVariants as rel
use Rattle.ada_tree.specs.declared.expression.Sum.{Sum, Row_of-NextTerm, end_of-NextTerm, more_of-NextTerm}
use Rattle.ada_tree.specs.declared.expression.Sum.TheVariants as sum
use Rattle.ada_tree.specs.declared.expression.NextTerm.{NextTerm}
use Rattle.ada_tree.specs.declared.expression.NextTerm.TheVariants as next_term
use Rattle.ada_tree.specs.declared.expression.Term.{Term, Row_of-NextFactor, end_of-NextFactor, more_of-NextFactor}
use Rattle.ada_tree.specs.declared.expression.Term.TheVariants as term
use Rattle.ada_tree.specs.declared.expression.NextFactor.{NextFactor}
use Rattle.ada_tree.specs.declared.expression.NextFactor.TheVariants as next_factor
use Rattle.ada_tree.specs.declared.expression.Factor.{Factor}
use Rattle.ada_tree.specs.declared.expression.Factor.TheVariants as factor
use Rattle.ada_tree.specs.declared.expression.Primary.{Primary, Row_of-Name, end_of-Name, more_of-Name, Row_of-Aggregate, end_of-Aggregate, more_of-Aggregate}
use Rattle.ada_tree.specs.declared.expression.Primary.TheVariants as primary
use Rattle.ada_tree.specs.declared.expression.Name.{Name, Row_of-Suffix, end_of-Suffix, more_of-Suffix}
use Rattle.ada_tree.specs.declared.expression.Name.TheVariants as name
use Rattle.ada_tree.specs.declared.expression.Suffix.{Suffix}
use Rattle.ada_tree.specs.declared.expression.Suffix.TheVariants as suffix
use Rattle.ada_tree.specs.declared.range.Range.{Range}
use Rattle.ada_tree.specs.declared.range.Range.TheVariants as range
use Rattle.ada_tree.specs.declared.range.Choice.{Choice}
use Rattle.ada_tree.specs.declared.range.Choice.TheVariants as choice
use Rattle.ada_tree.specs.declared.range.NextChoice.{NextChoice}
use Rattle.ada_tree.specs.declared.range.NextChoice.TheVariants as next_choice
use Rattle.name_events.specs.ExpressionOutline.{part_name}
use Rattle.resolved_tree.specs.declared.operator.Operator.{Operator}
use Rattle.resolved_tree.specs.declared.operator.Operator.TheVariants as op
use Rattle.resolved_tree.specs.declared.operator.UnaryOperator.{UnaryOperator}
use Rattle.resolved_tree.specs.declared.operator.UnaryOperator.TheVariants as unary
use Rattle.resolved_tree.specs.declared.operator.Attribute.{Attribute}
use Rattle.resolved_tree.specs.declared.operator.Attribute.TheVariants as attribute
use Rattle.resolved_tree.specs.declared.node.Mark.{Mark}
use Rattle.resolved_tree.specs.Trees.{Tree, Code, list_of, code_list}
use Rattle.resolved_tree.specs.Trees as t
use Rattle.name_events.specs.declared.declaration.Identified.{Identified}
use Rattle.name_events.specs.Identified.{number_at}

abbrev pub Numbers : Type 0
Numbers = List Identified

-- ---- identifiers

-- The number of the declaration that an identifier uses, makes or completes. In a program without a
-- fault of names each such identifier has one.
abbrev pub number_of : Numbers → Identifier → ℕ
number_of numbers id = unwrap_or (number_at numbers id.pos) 0

-- The declaration of the last of these identifiers, where each has one. The ones in front of it are
-- packages then.
abbrev pub last_part : Numbers → Option ℕ → List NextPart → Option ℕ
last_part numbers None rest = None
last_part numbers (Some d) [] = Some d
last_part numbers (Some d) (part ∷ rest) = last_part numbers (number_at numbers (part_name part).pos) rest

-- mark = dotted = id {"." id}
abbrev pub mark_of : Numbers → Dotted → Mark
mark_of numbers dotted = record {
  pos = dotted.pos;
  decl = last_part numbers (Some (number_of numbers dotted.first)) dotted.rest;
}

-- ---- operators and attributes

abbrev pub sign_operator : Sign → UnaryOperator
sign_operator sign.Plus = unary.Plus
sign_operator sign.Minus = unary.Minus

abbrev pub relational_operator : RelationalOperator → Operator
relational_operator relational.Equal = op.Equal
relational_operator relational.NotEqual = op.NotEqual
relational_operator relational.Less = op.Less
relational_operator relational.LessEqual = op.LessEqual
relational_operator relational.Greater = op.Greater
relational_operator relational.GreaterEqual = op.GreaterEqual

abbrev pub adding_operator : AddingOperator → Operator
adding_operator adding.Add = op.Add
adding_operator adding.Subtract = op.Subtract
adding_operator adding.Concatenate = op.Concatenate

abbrev pub multiplying_operator : MultiplyingOperator → Operator
multiplying_operator multiplying.Multiply = op.Multiply
multiplying_operator multiplying.Divide = op.Divide
multiplying_operator multiplying.Modulo = op.Modulo
multiplying_operator multiplying.Remainder = op.Remainder

-- The attribute that an identifier after an apostrophe spells, in any letter case.
abbrev pub attribute_of : Identifier → Attribute
attribute_of id =
    if str_eq_ignore_ascii_case id.text (codes "first") then attribute.First
    else if str_eq_ignore_ascii_case id.text (codes "last") then attribute.Last
    else if str_eq_ignore_ascii_case id.text (codes "length") then attribute.Length
    else if str_eq_ignore_ascii_case id.text (codes "image") then attribute.Image
    else attribute.Other

-- The operator of a chain of relations.
unfoldable pub chain_operator : Expr → Operator
chain_operator (expr.LoneRelation' pos _ relation) = op.And
chain_operator (expr.And' pos _ first and _ second _ rest) = op.And
chain_operator (expr.Or' pos _ first or _ second _ rest) = op.Or
chain_operator (expr.Xor' pos _ first xor _ second _ rest) = op.Xor
chain_operator (expr.AndThen' pos _ first and then_word _ second _ rest) = op.AndThen
chain_operator (expr.OrElse' pos _ first or otherwise _ second _ rest) = op.OrElse

-- Operands after the first one, which group to the left. What an operator makes begins where its
-- left operand does.
abbrev pub chained : Pos → Tree → List (Operator × Tree) → Tree
chained pos left [] = left
chained pos left (next ∷ rest) = chained pos (t.Binary pos next.0 left next.1) rest

-- ---- names

-- The declaration of "." id, if it has one. What stands before it is a package then.
unfoldable pub selected_number : Numbers → Suffix → Option ℕ
selected_number numbers (suffix.Selected pos id) = number_at numbers id.pos
selected_number numbers _ = None

abbrev pub before_others : Option ℕ → List ℕ → List ℕ
before_others None others = []
before_others (Some d) others = d ∷ others

-- The declarations of the identifiers that follow the first one of a name, up to what has none.
unfoldable pub selected_numbers : {n : _} → Numbers → Row_of-Suffix n → List ℕ
selected_numbers numbers end_of-Suffix = []
selected_numbers numbers (more_of-Suffix part rest) = before_others (selected_number numbers part) (selected_numbers numbers rest)

-- The same of a list.
abbrev pub leading_numbers : Numbers → List Suffix → List ℕ
leading_numbers numbers [] = []
leading_numbers numbers (part ∷ rest) = before_others (selected_number numbers part) (leading_numbers numbers rest)

abbrev pub last_of : ℕ → List ℕ → ℕ
last_of d [] = d
last_of d (e ∷ rest) = last_of e rest

-- A name, from the declarations of its leading identifiers and from what each part after the first
-- one stands for.
abbrev pub named : Numbers → Pos → Identifier → List ℕ → List Tree → Tree
named numbers pos first leading behind =
    t.Named pos (last_of (number_of numbers first) leading) (list_of (drop (length leading) behind))

-- ---- expressions

unfoldable mutual
  -- name = id {"." id | "." "all" | "(" args ")" | "'" (id | "range")}
  pub lowered_name : Numbers → Name → Tree
  lowered_name numbers (name.Prefixed' pos first _ rest) =
      named numbers pos first (selected_numbers numbers rest) (lowered_suffixes numbers rest)

  pub lowered_suffixes : {n : _} → Numbers → Row_of-Suffix n → List Tree
  lowered_suffixes numbers end_of-Suffix = []
  lowered_suffixes numbers (more_of-Suffix part rest) = lowered_suffix numbers part ∷ lowered_suffixes numbers rest

  pub lowered_suffix : Numbers → Suffix → Tree
  lowered_suffix numbers (suffix.Selected pos selector) = t.Selected selector.text
  lowered_suffix numbers (suffix.Dereferenced pos all) = t.All
  lowered_suffix numbers (suffix.Applied' pos _ first _ rest right_paren) =
      t.Applied (box_before numbers (args_row numbers rest) first)
  lowered_suffix numbers (suffix.Attribute pos id) = t.Attr (attribute_of id)
  lowered_suffix numbers (suffix.RangeAttribute pos range) = t.Attr attribute.Range

  pub box_before : {n : _} → Numbers → Tree → Row_of-Arg n → Tree
  box_before numbers others end_of-Arg = others
  box_before numbers others (more_of-Arg part rest) = arg_before numbers others part

  pub args_row : {n : _} → Numbers → Row_of-NextArg n → Tree
  args_row numbers end_of-NextArg = t.NoMore
  args_row numbers (more_of-NextArg part rest) = next_arg_before numbers (args_row numbers rest) part

  pub next_arg_before : Numbers → Tree → NextArg → Tree
  next_arg_before numbers others (next_arg.FurtherArg' pos _ part) = box_before numbers others part

  -- arg = [id "=>"] expr, before others
  pub arg_before : Numbers → Tree → Arg → Tree
  arg_before numbers others (arg.Positional' pos _ value) = t.Argument None (lowered_expr_box numbers value) others
  arg_before numbers others (arg.Association' pos id arrow _ value) =
      t.Argument (Some id.text) (lowered_expr_box numbers value) others

  pub lowered_expr_box : {n : _} → Numbers → Row_of-Expr n → Tree
  lowered_expr_box numbers end_of-Expr = t.NoMore
  lowered_expr_box numbers (more_of-Expr part rest) = lowered_expr numbers part

  -- expr = rel {"and" rel} | rel {"or" rel} | ..
  pub lowered_expr : Numbers → Expr → Tree
  lowered_expr numbers (expr.LoneRelation' pos _ relation) = lowered_rel_box numbers relation
  lowered_expr numbers (expr.And' pos _ first and _ second _ rest) =
      chained pos (t.Binary pos op.And (lowered_rel_box numbers first) (lowered_rel_box numbers second)) (operands_row numbers op.And rest)
  lowered_expr numbers (expr.Or' pos _ first or _ second _ rest) =
      chained pos (t.Binary pos op.Or (lowered_rel_box numbers first) (lowered_rel_box numbers second)) (operands_row numbers op.Or rest)
  lowered_expr numbers (expr.Xor' pos _ first xor _ second _ rest) =
      chained pos (t.Binary pos op.Xor (lowered_rel_box numbers first) (lowered_rel_box numbers second)) (operands_row numbers op.Xor rest)
  lowered_expr numbers (expr.AndThen' pos _ first and then_word _ second _ rest) =
      chained pos (t.Binary pos op.AndThen (lowered_rel_box numbers first) (lowered_rel_box numbers second)) (short_operands_row numbers op.AndThen rest)
  lowered_expr numbers (expr.OrElse' pos _ first or otherwise _ second _ rest) =
      chained pos (t.Binary pos op.OrElse (lowered_rel_box numbers first) (lowered_rel_box numbers second)) (short_operands_row numbers op.OrElse rest)

  pub operands_row : {n : _} → Numbers → Operator → Row_of-Operand n → List (Operator × Tree)
  operands_row numbers by end_of-Operand = []
  operands_row numbers by (more_of-Operand part rest) = lowered_operand numbers by part ∷ operands_row numbers by rest

  pub lowered_operand : Numbers → Operator → Operand → Operator × Tree
  lowered_operand numbers by (operand.FurtherOperand' pos _ relation) = (by, lowered_rel_box numbers relation)

  pub short_operands_row : {n : _} → Numbers → Operator → Row_of-ShortOperand n → List (Operator × Tree)
  short_operands_row numbers by end_of-ShortOperand = []
  short_operands_row numbers by (more_of-ShortOperand part rest) =
      lowered_short_operand numbers by part ∷ short_operands_row numbers by rest

  pub lowered_short_operand : Numbers → Operator → ShortOperand → Operator × Tree
  lowered_short_operand numbers by (short_operand.FurtherShortOperand' pos second_word _ relation) =
      (by, lowered_rel_box numbers relation)

  pub lowered_rel_box : {n : _} → Numbers → Row_of-Rel n → Tree
  lowered_rel_box numbers end_of-Rel = t.NoMore
  lowered_rel_box numbers (more_of-Rel part rest) = lowered_rel numbers part

  -- rel = sum [("=" | "/=" | "<" | "<=" | ">" | ">=") sum]
  pub lowered_rel : Numbers → Rel → Tree
  lowered_rel numbers (rel.LoneSum pos operand) = lowered_sum numbers operand
  lowered_rel numbers (rel.Compared' pos _ left operator operator_pos _ right) =
      t.Binary pos (relational_operator operator) (lowered_sum_box numbers left) (lowered_sum_box numbers right)

  pub lowered_sum_box : {n : _} → Numbers → Row_of-Sum n → Tree
  lowered_sum_box numbers end_of-Sum = t.NoMore
  lowered_sum_box numbers (more_of-Sum part rest) = lowered_sum numbers part

  -- sum = ["+" | "-"] term {("+" | "-" | "&") term}: the sign belongs to the first term
  pub lowered_sum : Numbers → Sum → Tree
  lowered_sum numbers (sum.Unsigned' pos first _ rest) =
      chained pos (lowered_term numbers first) (terms_row numbers rest)
  lowered_sum numbers (sum.Signed' pos sign first _ rest) =
      chained pos (t.Unary pos (sign_operator sign) (lowered_term numbers first)) (terms_row numbers rest)

  pub terms_row : {n : _} → Numbers → Row_of-NextTerm n → List (Operator × Tree)
  terms_row numbers end_of-NextTerm = []
  terms_row numbers (more_of-NextTerm part rest) = lowered_next_term numbers part ∷ terms_row numbers rest

  pub lowered_next_term : Numbers → NextTerm → Operator × Tree
  lowered_next_term numbers (next_term.FurtherTerm pos operator part) =
      (adding_operator operator, lowered_term numbers part)

  -- term = factor {("*" | "/" | "mod" | "rem") factor}
  pub lowered_term : Numbers → Term → Tree
  lowered_term numbers (term.Product' pos first _ rest) =
      chained pos (lowered_factor numbers first) (factors_row numbers rest)

  pub factors_row : {n : _} → Numbers → Row_of-NextFactor n → List (Operator × Tree)
  factors_row numbers end_of-NextFactor = []
  factors_row numbers (more_of-NextFactor part rest) = lowered_next_factor numbers part ∷ factors_row numbers rest

  pub lowered_next_factor : Numbers → NextFactor → Operator × Tree
  lowered_next_factor numbers (next_factor.FurtherFactor pos operator part) =
      (multiplying_operator operator, lowered_factor numbers part)

  -- factor = primary | "abs" primary | "not" primary
  pub lowered_factor : Numbers → Factor → Tree
  lowered_factor numbers (factor.LonePrimary pos operand) = lowered_primary numbers operand
  lowered_factor numbers (factor.Abs pos operand) = t.Unary pos unary.Abs (lowered_primary numbers operand)
  lowered_factor numbers (factor.Not pos operand) = t.Unary pos unary.Not (lowered_primary numbers operand)

  -- primary = number | string | "null" | name | "(" expr ")" | aggregate | "new" mark ["'"
  -- (aggregate | "(" expr ")")]
  pub lowered_primary : Numbers → Primary → Tree
  lowered_primary numbers (primary.Number pos value) = t.Number pos value
  lowered_primary numbers (primary.Text pos text) = t.Text pos text
  lowered_primary numbers (primary.Null pos) = t.Null pos
  lowered_primary numbers (primary.Named' pos _ part) = lowered_name_box numbers part
  lowered_primary numbers (primary.Parenthesized' pos _ part right_paren) = t.Parens pos (lowered_expr_box numbers part)
  lowered_primary numbers (primary.Aggregated' pos _ part) = lowered_aggregate_box numbers part
  lowered_primary numbers (primary.Allocated pos mark) = t.New pos (mark_of numbers mark) t.NoMore
  lowered_primary numbers (primary.AllocatedAggregate' pos mark apostrophe _ part) =
      t.New pos (mark_of numbers mark) (t.Argument None (lowered_aggregate_box numbers part) t.NoMore)
  lowered_primary numbers (primary.AllocatedValue' pos mark apostrophe left_paren _ value right_paren) =
      t.New pos (mark_of numbers mark) (t.Argument None (lowered_expr_box numbers value) t.NoMore)

  pub lowered_name_box : {n : _} → Numbers → Row_of-Name n → Tree
  lowered_name_box numbers end_of-Name = t.NoMore
  lowered_name_box numbers (more_of-Name part rest) = lowered_name numbers part

  pub lowered_aggregate_box : {n : _} → Numbers → Row_of-Aggregate n → Tree
  lowered_aggregate_box numbers end_of-Aggregate = t.NoMore
  lowered_aggregate_box numbers (more_of-Aggregate part rest) = lowered_aggregate numbers part

  -- aggregate = "(" arg "," arg {"," arg} ")" | "(" id "=>" expr ")" | "(" "others" "=>" expr ")"
  pub lowered_aggregate : Numbers → Aggregate → Tree
  lowered_aggregate numbers (aggregate.Several' pos _ first comma _ second _ rest right_paren) =
      t.Aggregate pos (box_before numbers (box_before numbers (args_row numbers rest) second) first)
  lowered_aggregate numbers (aggregate.Single' pos id arrow _ value right_paren) =
      t.Aggregate pos (t.Argument (Some id.text) (lowered_expr_box numbers value) t.NoMore)
  lowered_aggregate numbers (aggregate.Others' pos others arrow _ value right_paren) =
      t.Others pos (lowered_expr_box numbers value)

-- {"," arg}
abbrev pub further_args : Numbers → List NextArg → Tree
further_args numbers [] = t.NoMore
further_args numbers (part ∷ rest) = next_arg_before numbers (further_args numbers rest) part

-- arg {"," arg}
abbrev pub lowered_args : Numbers → Arg → List NextArg → Tree
lowered_args numbers first rest = arg_before numbers (further_args numbers rest) first

-- ---- ranges and choices

-- range = expr ".." expr | mark ["range" expr ".." expr] | name "'" "range"
unfoldable pub lowered_range : Numbers → Range → Code
lowered_range numbers (range.Bounds pos low dots high) = t.Bounds (lowered_expr numbers low) (lowered_expr numbers high)
lowered_range numbers (range.Marked pos mark) = t.Marked (mark_of numbers mark)
lowered_range numbers (range.Constrained pos mark of_range low dots high) =
    t.Constrained (mark_of numbers mark) (lowered_expr numbers low) (lowered_expr numbers high)
lowered_range numbers (range.RangeOf pos prefix apostrophe of_range) = t.RangeOf (lowered_name numbers prefix)

-- choice = expr [".." expr] | "others"
unfoldable pub lowered_choice : Numbers → Choice → Code
lowered_choice numbers (choice.Value pos value) = t.Value (lowered_expr numbers value)
lowered_choice numbers (choice.Interval pos low dots high) = t.Interval (lowered_expr numbers low) (lowered_expr numbers high)
lowered_choice numbers (choice.Others pos) = t.OthersChoice pos

-- "|" choice
unfoldable pub lowered_next_choice : Numbers → NextChoice → Code
lowered_next_choice numbers (next_choice.Bar pos part) = lowered_choice numbers part

-- choice {"|" choice}
abbrev pub lowered_choices : Numbers → Choice → List NextChoice → Code
lowered_choices numbers first rest = t.More (lowered_choice numbers first) (code_list (map (lowered_next_choice numbers) rest))
