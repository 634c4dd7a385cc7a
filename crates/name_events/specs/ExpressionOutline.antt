-- What identifiers, names, expressions, ranges and choices do with names, in the order of their
-- tokens (docs/LANGUAGE.md, "Names"): one case for each alternative of the grammar.
use Rattle.std.specs.Prelude.{ℕ, List, [], ◌∷◌, ◌++◌, map, Option, None, Some}
use Rattle.std.specs.Char.{to_ascii_lowercase}
use Rattle.ada_tree.specs.declared.identifier.Identifier.{Identifier}
use Rattle.ada_tree.specs.declared.identifier.NextIdentifier.{NextIdentifier}
use Rattle.ada_tree.specs.declared.identifier.NextIdentifier.TheVariants as next_id
use Rattle.ada_tree.specs.declared.identifier.Dotted.{Dotted}
use Rattle.ada_tree.specs.declared.identifier.NextPart.{NextPart}
use Rattle.ada_tree.specs.declared.identifier.NextPart.TheVariants as next_part
use Rattle.ada_tree.specs.declared.identifier.NextDotted.{NextDotted}
use Rattle.ada_tree.specs.declared.identifier.NextDotted.TheVariants as next_dotted
use Rattle.ada_tree.specs.declared.expression.Aggregate.{Aggregate, Row_of-Arg, end_of-Arg, more_of-Arg, Row_of-NextArg, end_of-NextArg, more_of-NextArg, Row_of-Expr, end_of-Expr, more_of-Expr}
use Rattle.ada_tree.specs.declared.expression.Aggregate.TheVariants as aggregate
use Rattle.ada_tree.specs.declared.expression.Arg.{Arg}
use Rattle.ada_tree.specs.declared.expression.Arg.TheVariants as arg
use Rattle.ada_tree.specs.declared.expression.NextArg.{NextArg}
use Rattle.ada_tree.specs.declared.expression.NextArg.TheVariants as next_arg
use Rattle.ada_tree.specs.declared.expression.Expr.{Expr, Row_of-Rel, end_of-Rel, more_of-Rel, Row_of-Operand, end_of-Operand, more_of-Operand, Row_of-ShortOperand, end_of-ShortOperand, more_of-ShortOperand}
use Rattle.ada_tree.specs.declared.expression.Expr.TheVariants as expr
use Rattle.ada_tree.specs.declared.expression.Operand.{Operand}
use Rattle.ada_tree.specs.declared.expression.Operand.TheVariants as operand
use Rattle.ada_tree.specs.declared.expression.ShortOperand.{ShortOperand}
use Rattle.ada_tree.specs.declared.expression.ShortOperand.TheVariants as short_operand
use Rattle.ada_tree.specs.declared.expression.Rel.{Rel, Row_of-Sum, end_of-Sum, more_of-Sum}
use Rattle.ada_tree.specs.declared.expression.Rel.TheVariants as rel
use Rattle.ada_tree.specs.declared.expression.Sum.{Sum, Row_of-NextTerm, end_of-NextTerm, more_of-NextTerm}
use Rattle.ada_tree.specs.declared.expression.Sum.TheVariants as sum
use Rattle.ada_tree.specs.declared.expression.NextTerm.{NextTerm}
use Rattle.ada_tree.specs.declared.expression.NextTerm.TheVariants as next_term
use Rattle.ada_tree.specs.declared.expression.Term.{Term, Row_of-NextFactor, end_of-NextFactor, more_of-NextFactor}
use Rattle.ada_tree.specs.declared.expression.Term.TheVariants as term
use Rattle.ada_tree.specs.declared.expression.NextFactor.{NextFactor}
use Rattle.ada_tree.specs.declared.expression.NextFactor.TheVariants as next_factor
use Rattle.ada_tree.specs.declared.expression.Factor.{Factor}
use Rattle.ada_tree.specs.declared.expression.Factor.TheVariants as factor
use Rattle.ada_tree.specs.declared.expression.Primary.{Primary, Row_of-Name, end_of-Name, more_of-Name, Row_of-Aggregate, end_of-Aggregate, more_of-Aggregate}
use Rattle.ada_tree.specs.declared.expression.Primary.TheVariants as primary
use Rattle.ada_tree.specs.declared.expression.Name.{Name, Row_of-Suffix, end_of-Suffix, more_of-Suffix}
use Rattle.ada_tree.specs.declared.expression.Name.TheVariants as name
use Rattle.ada_tree.specs.declared.expression.Suffix.{Suffix}
use Rattle.ada_tree.specs.declared.expression.Suffix.TheVariants as suffix
use Rattle.ada_tree.specs.declared.range.Range.{Range}
use Rattle.ada_tree.specs.declared.range.Range.TheVariants as range
use Rattle.ada_tree.specs.declared.range.Choice.{Choice}
use Rattle.ada_tree.specs.declared.range.Choice.TheVariants as choice
use Rattle.ada_tree.specs.declared.range.NextChoice.{NextChoice}
use Rattle.ada_tree.specs.declared.range.NextChoice.TheVariants as next_choice
use Rattle.name_events.specs.declared.event.Event.{Event}
use Rattle.name_events.specs.declared.event.Event.TheVariants as e
use Rattle.name_events.specs.declared.event.FoldedIdentifier.{FoldedIdentifier}
use Rattle.name_events.specs.declared.event.FoldedName.{FoldedName}
use Rattle.name_events.specs.declared.declaration.DeclarationForm.{DeclarationForm}
use Rattle.name_events.specs.declared.event.Clause.{Clause}
use Rattle.name_events.specs.declared.event.Clause.TheVariants as clause

abbrev pub Events : Type 0
Events = List Event

-- ---- identifiers

-- The bytes of an identifier in lower case.
abbrev pub folded : Identifier → List ℕ
folded id = map to_ascii_lowercase id.text

abbrev pub folded_identifier : Identifier → FoldedIdentifier
folded_identifier id = record { pos = id.pos; name = folded id }

-- "," id
unfoldable pub next_name : NextIdentifier → Identifier
next_name (next_id.FurtherIdentifier pos id) = id

-- "." id
unfoldable pub part_name : NextPart → Identifier
part_name (next_part.FurtherPart pos id) = id

-- "," dotted
unfoldable pub next_dotted_name : NextDotted → Dotted
next_dotted_name (next_dotted.FurtherDotted pos dotted) = dotted

abbrev pub declares : DeclarationForm → Identifier → Event
declares declared_as id = e.Declares declared_as (folded_identifier id)

-- id {"," id}
abbrev pub declares_all : DeclarationForm → Identifier → List NextIdentifier → Events
declares_all declared_as first rest = map (declares declared_as) (first ∷ map next_name rest)

-- dotted = id {"." id}
abbrev pub folded_dotted : Dotted → FoldedName
folded_dotted dotted = record {
  first = folded_identifier dotted.first;
  rest = map (λ p. folded_identifier (part_name p)) dotted.rest;
}

abbrev pub mention : Clause → Dotted → Event
mention c dotted = e.Mentions c (folded_dotted dotted)

-- dotted {"," dotted}
abbrev pub mentions : Clause → Dotted → List NextDotted → Events
mentions c first rest = map (mention c) (first ∷ map next_dotted_name rest)

abbrev pub each_of : {A : Type 0} → (A → Events) → Option A → Events
each_of f None = []
each_of f (Some x) = f x

-- ---- names and expressions

-- "." id, as a part of a name
unfoldable pub selector : Suffix → Option FoldedIdentifier
selector (suffix.Selected pos id) = Some (folded_identifier id)
selector _ = None

abbrev pub before_others : Option FoldedIdentifier → List FoldedIdentifier → List FoldedIdentifier
before_others None others = []
before_others (Some s) others = s ∷ others

-- The identifiers that follow the first one of a name after dots, up to the first part of another
-- form.
unfoldable pub selectors : {n : _} → Row_of-Suffix n → List FoldedIdentifier
selectors end_of-Suffix = []
selectors (more_of-Suffix part rest) = before_others (selector part) (selectors rest)

-- The same of a list.
abbrev pub leading : List Suffix → List FoldedIdentifier
leading [] = []
leading (part ∷ rest) = before_others (selector part) (leading rest)

abbrev pub named : Identifier → List FoldedIdentifier → FoldedName
named first behind = record { first = folded_identifier first; rest = behind }

unfoldable mutual
  -- name = id {"." id | "." "all" | "(" args ")" | "'" (id | "range")}
  pub name_events : Name → Events
  name_events (name.Prefixed' pos first _ rest) = e.Mentions clause.Elsewhere (named first (selectors rest)) ∷ suffixes_events rest

  pub suffixes_events : {n : _} → Row_of-Suffix n → Events
  suffixes_events end_of-Suffix = []
  suffixes_events (more_of-Suffix part rest) = suffix_events part ++ suffixes_events rest

  pub suffix_events : Suffix → Events
  suffix_events (suffix.Applied' pos _ first _ rest right_paren) = arg_box_events first ++ next_args_events rest
  suffix_events _ = []

  pub arg_box_events : {n : _} → Row_of-Arg n → Events
  arg_box_events end_of-Arg = []
  arg_box_events (more_of-Arg part rest) = arg_events part

  pub next_args_events : {n : _} → Row_of-NextArg n → Events
  next_args_events end_of-NextArg = []
  next_args_events (more_of-NextArg part rest) = next_arg_events part ++ next_args_events rest

  pub next_arg_events : NextArg → Events
  next_arg_events (next_arg.FurtherArg' pos _ part) = arg_box_events part

  -- arg = [id "=>"] expr: the identifier before "=>" is no occurrence
  pub arg_events : Arg → Events
  arg_events (arg.Positional' pos _ value) = expr_box_events value
  arg_events (arg.Association' pos id arrow _ value) = expr_box_events value

  pub expr_box_events : {n : _} → Row_of-Expr n → Events
  expr_box_events end_of-Expr = []
  expr_box_events (more_of-Expr part rest) = expr_events part

  -- expr = rel {"and" rel} | rel {"or" rel} | ..
  pub expr_events : Expr → Events
  expr_events (expr.LoneRelation' pos _ relation) = rel_box_events relation
  expr_events (expr.And' pos _ first and _ second _ rest) =
      rel_box_events first ++ (rel_box_events second ++ operands_events rest)
  expr_events (expr.Or' pos _ first or _ second _ rest) =
      rel_box_events first ++ (rel_box_events second ++ operands_events rest)
  expr_events (expr.Xor' pos _ first xor _ second _ rest) =
      rel_box_events first ++ (rel_box_events second ++ operands_events rest)
  expr_events (expr.AndThen' pos _ first and then_word _ second _ rest) =
      rel_box_events first ++ (rel_box_events second ++ short_operands_events rest)
  expr_events (expr.OrElse' pos _ first or otherwise _ second _ rest) =
      rel_box_events first ++ (rel_box_events second ++ short_operands_events rest)

  pub operands_events : {n : _} → Row_of-Operand n → Events
  operands_events end_of-Operand = []
  operands_events (more_of-Operand part rest) = operand_events part ++ operands_events rest

  pub operand_events : Operand → Events
  operand_events (operand.FurtherOperand' pos _ relation) = rel_box_events relation

  pub short_operands_events : {n : _} → Row_of-ShortOperand n → Events
  short_operands_events end_of-ShortOperand = []
  short_operands_events (more_of-ShortOperand part rest) = short_operand_events part ++ short_operands_events rest

  pub short_operand_events : ShortOperand → Events
  short_operand_events (short_operand.FurtherShortOperand' pos second_word _ relation) = rel_box_events relation

  pub rel_box_events : {n : _} → Row_of-Rel n → Events
  rel_box_events end_of-Rel = []
  rel_box_events (more_of-Rel part rest) = rel_events part

  -- rel = sum [("=" | "/=" | "<" | "<=" | ">" | ">=") sum]
  pub rel_events : Rel → Events
  rel_events (rel.LoneSum pos operand) = sum_events operand
  rel_events (rel.Compared' pos _ left operator operator_pos _ right) = sum_box_events left ++ sum_box_events right

  pub sum_box_events : {n : _} → Row_of-Sum n → Events
  sum_box_events end_of-Sum = []
  sum_box_events (more_of-Sum part rest) = sum_events part

  -- sum = ["+" | "-"] term {("+" | "-" | "&") term}
  pub sum_events : Sum → Events
  sum_events (sum.Unsigned' pos first _ rest) = term_events first ++ next_terms_events rest
  sum_events (sum.Signed' pos sign first _ rest) = term_events first ++ next_terms_events rest

  pub next_terms_events : {n : _} → Row_of-NextTerm n → Events
  next_terms_events end_of-NextTerm = []
  next_terms_events (more_of-NextTerm part rest) = next_term_events part ++ next_terms_events rest

  pub next_term_events : NextTerm → Events
  next_term_events (next_term.FurtherTerm pos operator part) = term_events part

  -- term = factor {("*" | "/" | "mod" | "rem") factor}
  pub term_events : Term → Events
  term_events (term.Product' pos first _ rest) = factor_events first ++ next_factors_events rest

  pub next_factors_events : {n : _} → Row_of-NextFactor n → Events
  next_factors_events end_of-NextFactor = []
  next_factors_events (more_of-NextFactor part rest) = next_factor_events part ++ next_factors_events rest

  pub next_factor_events : NextFactor → Events
  next_factor_events (next_factor.FurtherFactor pos operator part) = factor_events part

  -- factor = primary | "abs" primary | "not" primary
  pub factor_events : Factor → Events
  factor_events (factor.LonePrimary pos operand) = primary_events operand
  factor_events (factor.Abs pos operand) = primary_events operand
  factor_events (factor.Not pos operand) = primary_events operand

  -- primary = number | string | "null" | name | "(" expr ")" | aggregate | "new" mark ["'"
  -- (aggregate | "(" expr ")")]
  pub primary_events : Primary → Events
  primary_events (primary.Named' pos _ part) = name_box_events part
  primary_events (primary.Parenthesized' pos _ part right_paren) = expr_box_events part
  primary_events (primary.Aggregated' pos _ part) = aggregate_box_events part
  primary_events (primary.Allocated pos mark) = mention clause.Elsewhere mark ∷ []
  primary_events (primary.AllocatedAggregate' pos mark apostrophe _ part) = mention clause.Elsewhere mark ∷ aggregate_box_events part
  primary_events (primary.AllocatedValue' pos mark apostrophe left_paren _ value right_paren) =
      mention clause.Elsewhere mark ∷ expr_box_events value
  primary_events _ = []

  pub name_box_events : {n : _} → Row_of-Name n → Events
  name_box_events end_of-Name = []
  name_box_events (more_of-Name part rest) = name_events part

  pub aggregate_box_events : {n : _} → Row_of-Aggregate n → Events
  aggregate_box_events end_of-Aggregate = []
  aggregate_box_events (more_of-Aggregate part rest) = aggregate_events part

  -- aggregate = "(" arg "," arg {"," arg} ")" | "(" id "=>" expr ")" | "(" "others" "=>" expr ")"
  pub aggregate_events : Aggregate → Events
  aggregate_events (aggregate.Several' pos _ first comma _ second _ rest right_paren) =
      arg_box_events first ++ (arg_box_events second ++ next_args_events rest)
  aggregate_events (aggregate.Single' pos id arrow _ value right_paren) = expr_box_events value
  aggregate_events (aggregate.Others' pos others arrow _ value right_paren) = expr_box_events value

-- ---- ranges and choices

-- range = expr ".." expr | mark ["range" expr ".." expr] | name "'" "range"
unfoldable pub range_events : Range → Events
range_events (range.Bounds pos low dots high) = expr_events low ++ expr_events high
range_events (range.Marked pos mark) = mention clause.Elsewhere mark ∷ []
range_events (range.Constrained pos mark of_range low dots high) =
    mention clause.Elsewhere mark ∷ (expr_events low ++ expr_events high)
range_events (range.RangeOf pos prefix apostrophe of_range) = name_events prefix

-- choice = expr [".." expr] | "others"
unfoldable pub choice_events : Choice → Events
choice_events (choice.Value pos value) = expr_events value
choice_events (choice.Interval pos low dots high) = expr_events low ++ expr_events high
choice_events (choice.Others pos) = []

-- "|" choice
unfoldable pub next_choice_events : NextChoice → Events
next_choice_events (next_choice.Bar pos part) = choice_events part
