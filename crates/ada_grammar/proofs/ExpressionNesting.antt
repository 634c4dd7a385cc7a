-- The tokens of an expression, a name, a range and a choice are nested: each construct has a token
-- that closes it, and so many constructs are open around each part as it is spelled with.
use Rattle.std.proofs.Common.{◌≡◌, refl, sym, ap, subst, ◌∙◌, ℕ, suc, List, [], ◌∷◌, ◌++◌, append_assoc}
use Rattle.std.specs.Prelude.{Option, Some, None, Bool, true, false, ◌||◌}
use Rattle.std.proofs.lemmas.Bool.{true≢false}
use Rattle.std.specs.List.{flat_map}
use Rattle.spark_base.specs.declared.position.Pos.{Pos}
use Rattle.ada_lexer.specs.declared.token.Reserved.{Reserved}
use Rattle.ada_lexer.specs.declared.token.Reserved.TheVariants as w
use Rattle.ada_tree.specs.declared.operator.Sign.{Sign}
use Rattle.ada_tree.specs.declared.operator.Sign.TheVariants as sign
use Rattle.ada_tree.specs.declared.operator.RelationalOperator.{RelationalOperator}
use Rattle.ada_tree.specs.declared.operator.RelationalOperator.TheVariants as relational
use Rattle.ada_tree.specs.declared.operator.AddingOperator.{AddingOperator}
use Rattle.ada_tree.specs.declared.operator.AddingOperator.TheVariants as adding
use Rattle.ada_tree.specs.declared.operator.MultiplyingOperator.{MultiplyingOperator}
use Rattle.ada_tree.specs.declared.operator.MultiplyingOperator.TheVariants as multiplying
use Rattle.ada_tree.specs.declared.identifier.Identifier.{Identifier}
use Rattle.ada_tree.specs.declared.identifier.NextIdentifier.{NextIdentifier}
use Rattle.ada_tree.specs.declared.identifier.NextIdentifier.TheVariants as next_id
use Rattle.ada_tree.specs.declared.identifier.Dotted.{Dotted}
use Rattle.ada_tree.specs.declared.identifier.NextPart.{NextPart}
use Rattle.ada_tree.specs.declared.identifier.NextPart.TheVariants as next_part
use Rattle.ada_tree.specs.declared.identifier.NextDotted.{NextDotted}
use Rattle.ada_tree.specs.declared.identifier.NextDotted.TheVariants as next_dotted
use Rattle.ada_tree.specs.declared.expression.Aggregate.{Aggregate, Row_of-Arg, end_of-Arg, more_of-Arg, Row_of-NextArg, end_of-NextArg, more_of-NextArg, Row_of-Expr, end_of-Expr, more_of-Expr}
use Rattle.ada_tree.specs.declared.expression.Aggregate.TheVariants as aggregate
use Rattle.ada_tree.specs.declared.expression.Arg.{Arg}
use Rattle.ada_tree.specs.declared.expression.Arg.TheVariants as arg
use Rattle.ada_tree.specs.declared.expression.NextArg.{NextArg}
use Rattle.ada_tree.specs.declared.expression.NextArg.TheVariants as next_arg
use Rattle.ada_tree.specs.declared.expression.Expr.{Expr, Row_of-Rel, end_of-Rel, more_of-Rel, Row_of-Operand, end_of-Operand, more_of-Operand, Row_of-ShortOperand, end_of-ShortOperand, more_of-ShortOperand}
use Rattle.ada_tree.specs.declared.expression.Expr.TheVariants as expr
use Rattle.ada_tree.specs.declared.expression.Operand.{Operand}
use Rattle.ada_tree.specs.declared.expression.Operand.TheVariants as operand
use Rattle.ada_tree.specs.declared.expression.ShortOperand.{ShortOperand}
use Rattle.ada_tree.specs.declared.expression.ShortOperand.TheVariants as short_operand
use Rattle.ada_tree.specs.declared.expression.Rel.{Rel, Row_of-Sum, end_of-Sum, more_of-Sum}
use Rattle.ada_tree.specs.declared.expression.Rel.TheVariants as rel
use Rattle.ada_tree.specs.declared.expression.Sum.{Sum, Row_of-NextTerm, end_of-NextTerm, more_of-NextTerm}
use Rattle.ada_tree.specs.declared.expression.Sum.TheVariants as sum
use Rattle.ada_tree.specs.declared.expression.NextTerm.{NextTerm}
use Rattle.ada_tree.specs.declared.expression.NextTerm.TheVariants as next_term
use Rattle.ada_tree.specs.declared.expression.Term.{Term, Row_of-NextFactor, end_of-NextFactor, more_of-NextFactor}
use Rattle.ada_tree.specs.declared.expression.Term.TheVariants as term
use Rattle.ada_tree.specs.declared.expression.NextFactor.{NextFactor}
use Rattle.ada_tree.specs.declared.expression.NextFactor.TheVariants as next_factor
use Rattle.ada_tree.specs.declared.expression.Factor.{Factor}
use Rattle.ada_tree.specs.declared.expression.Factor.TheVariants as factor
use Rattle.ada_tree.specs.declared.expression.Primary.{Primary, Row_of-Name, end_of-Name, more_of-Name, Row_of-Aggregate, end_of-Aggregate, more_of-Aggregate}
use Rattle.ada_tree.specs.declared.expression.Primary.TheVariants as primary
use Rattle.ada_tree.specs.declared.expression.Name.{Name, Row_of-Suffix, end_of-Suffix, more_of-Suffix}
use Rattle.ada_tree.specs.declared.expression.Name.TheVariants as name
use Rattle.ada_tree.specs.declared.expression.Suffix.{Suffix}
use Rattle.ada_tree.specs.declared.expression.Suffix.TheVariants as suffix
use Rattle.ada_tree.specs.declared.range.Range.{Range}
use Rattle.ada_tree.specs.declared.range.Range.TheVariants as range
use Rattle.ada_tree.specs.declared.range.Choice.{Choice}
use Rattle.ada_tree.specs.declared.range.Choice.TheVariants as choice
use Rattle.ada_tree.specs.declared.range.NextChoice.{NextChoice}
use Rattle.ada_tree.specs.declared.range.NextChoice.TheVariants as next_choice
use Rattle.token_reading.specs.Spelled.{Spelled, Word}
use Rattle.token_reading.specs.declared.side.Side.{Side}
use Rattle.token_reading.specs.declared.side.Side.TheVariants.{Apart, Within}
use Rattle.token_reading.specs.Weights.{WeighedToken, plain, opens, operates}
use Rattle.ada_grammar.specs.Nesting.{operator_word, operator_symbol, is_operator, always_closes, always_opens, closes, Nested, nothing, rests, operates_one, encloses}
use Rattle.ada_tree.specs.Spelling.{optional, optional_word, optional_id, relational_symbol, sign_symbol, adding_symbol, multiplying_token, aggregate_box, aggregate_spelling, arg_box, arg_spelling, choice_spelling, constraint_spelling, dotted_spelling, expr_box, expr_spelling, factor_spelling, name_box, name_spelling, next_arg_spelling, next_args_spelling, next_choice_spelling, next_dotted_spelling, next_factor_spelling, next_factors_spelling, next_identifier_spelling, next_part_spelling, next_term_spelling, next_terms_spelling, operand_spelling, operands_spelling, primary_spelling, range_spelling, rel_box, rel_spelling, short_operand_spelling, short_operands_spelling, suffix_spelling, suffixes_spelling, sum_box, sum_spelling, term_spelling}

-- ---- spelling in a row

-- These tokens are nested, with so many constructs open around them.
pub record Nest (d : ℕ) (ms : List WeighedToken) : Type 0 where
  pub it : Nested d ms

-- The token is an operator, or closes a construct wherever it stands.
abbrev pub never_rests : Spelled → Bool
never_rests t = is_operator t || (always_closes t || always_opens t)

neither : (a b : Bool) → (a || b) ≡ false → (a ≡ false) × (b ≡ false)
neither true b is = absurd (true≢false is)
neither false b is = (refl, is)

nested_joined : {d : ℕ} {a : List WeighedToken} → Nested d a → (b : List WeighedToken) → Nested d b → Nested d (a ++ b)
nested_joined (nothing d) b back = back
nested_joined (rests d side t behind is never out more) b back = rests d side t (behind ++ b) is never out (nested_joined more b back)
nested_joined (operates_one d t behind is more) b back = operates_one d t (behind ++ b) is (nested_joined more b back)
nested_joined (encloses d side t inner end_side end behind closed within more) b back =
    subst (λ ms. Nested d (opens side d t ∷ ms)) (sym (append_assoc inner (plain end_side end ∷ behind) b))
    (encloses d side t inner end_side end (behind ++ b) closed within (nested_joined more b back))

pub ended : {d : ℕ} → Nest d []
ended {d} = record { it = nothing d }

-- A token at rest, in front of others.
pub at_rest : {d : ℕ} (side : Side) {t : Spelled} {ms : List WeighedToken} → never_rests t ≡ false → Nest d ms
    → Nest d (plain side t ∷ ms)
at_rest {d} side {t} {ms} is more =
    let kind = neither (is_operator t) (always_closes t || always_opens t) is in
    let bounds = neither (always_closes t) (always_opens t) kind.1 in
    record { it = rests d side t ms kind.0 bounds.0 bounds.1 more.it }

-- An operator.
at_operator : {d : ℕ} {t : Spelled} {ms : List WeighedToken} → is_operator t ≡ true → Nest d ms → Nest d (operates t ∷ ms)
at_operator {d} {t} {ms} is more = record { it = operates_one d t ms is more.it }

-- One part, then another.
pub joined : {d : ℕ} {a b : List WeighedToken} → Nest d a → Nest d b → Nest d (a ++ b)
joined {d} {a} {b} front back = record { it = nested_joined front.it b back.it }

-- Parts in a row.
pub each_nested : {A : Type 0} {d : ℕ} {spelling : A → List WeighedToken} → ((part : A) → Nest d (spelling part)) → (parts : List A)
    → Nest d (flat_map spelling parts)
each_nested law [] = ended
each_nested law (part ∷ rest) = joined (law part) (each_nested law rest)

-- A part that may be left out.
pub optional_nested : {A : Type 0} {d : ℕ} {spelling : A → List WeighedToken} → ((part : A) → Nest d (spelling part)) → (part : Option A)
    → Nest d (optional spelling part)
optional_nested law None = ended
optional_nested law (Some part) = law part

pub optional_word_nested : {d : ℕ} (v : Reserved) → ((pos : Pos) → never_rests (Word v pos) ≡ false) → (pos : Option Pos)
    → Nest d (optional_word v pos)
optional_word_nested v is = optional_nested (λ pos. at_rest Apart (is pos) ended)

pub optional_id_nested : {d : ℕ} (id : Option Identifier) → Nest d (optional_id id)
optional_id_nested = optional_nested (λ id. at_rest Apart refl ended)

-- ---- the inside of a construct, and what follows it

-- The tokens after the one that opens a construct: those within it, the one that closes it, and
-- others.
pub record Inside (t : Spelled) (d : ℕ) (tail : List WeighedToken) : Type 0 where
  pub inner : List WeighedToken
  pub end_side : Side
  pub end : Spelled
  pub behind : List WeighedToken
  pub split : tail ≡ inner ++ (plain end_side end ∷ behind)
  pub closing : closes t end ≡ true
  pub within : Nested (suc d) inner
  pub after : Nested d behind

-- The token that closes the construct, in front of others.
pub closed : {t : Spelled} {d : ℕ} (side : Side) {end : Spelled} {behind : List WeighedToken} → closes t end ≡ true → Nest d behind
    → Inside t d (plain side end ∷ behind)
closed {t} {d} side {end} {behind} closing more = record {
  inner = [];
  end_side = side;
  end = end;
  behind = behind;
  split = refl;
  closing = closing;
  within = nothing (suc d);
  after = more.it;
}

-- A part of the construct, in front of others.
pub inside_joined : {t : Spelled} {d : ℕ} {part tail : List WeighedToken} → Nest (suc d) part → Inside t d tail
    → Inside t d (part ++ tail)
inside_joined {t} {d} {part} {tail} front more = record {
  inner = part ++ more.inner;
  end_side = more.end_side;
  end = more.end;
  behind = more.behind;
  split = ap (λ ms. part ++ ms) more.split ∙ sym (append_assoc part more.inner (plain more.end_side more.end ∷ more.behind));
  closing = more.closing;
  within = nested_joined front.it more.inner more.within;
  after = more.after;
}

-- A token at rest within the construct, in front of others.
pub inside_rest : {t : Spelled} {d : ℕ} (side : Side) {u : Spelled} {tail : List WeighedToken} → never_rests u ≡ false → Inside t d tail
    → Inside t d (plain side u ∷ tail)
inside_rest side {u} is more = inside_joined {part = plain side u ∷ []} (at_rest side is ended) more

-- The token that opens the construct, in front of it.
pub at_opener : {d : ℕ} (side : Side) {t : Spelled} {tail : List WeighedToken} → Inside t d tail → Nest d (opens side d t ∷ tail)
at_opener {d} side {t} {tail} more = record {
  it = subst (λ ms. Nested d (opens side d t ∷ ms)) (sym more.split)
      (encloses d side t more.inner more.end_side more.end more.behind more.closing more.within more.after);
}

-- ---- identifiers

pub next_identifier_nested : {d : ℕ} (tree : NextIdentifier) → Nest d (next_identifier_spelling tree)
unfolding next_identifier_spelling
next_identifier_nested (next_id.FurtherIdentifier pos id) = at_rest Apart refl (at_rest Apart refl ended)

next_part_nested : {d : ℕ} (side : Side) (tree : NextPart) → Nest d (next_part_spelling side tree)
unfolding next_part_spelling
next_part_nested side (next_part.FurtherPart pos id) = at_rest side refl (at_rest side refl ended)

pub dotted_nested : {d : ℕ} (side : Side) (tree : Dotted) → Nest d (dotted_spelling side tree)
unfolding dotted_spelling
dotted_nested side dotted = at_rest side refl (each_nested (next_part_nested side) dotted.rest)

pub next_dotted_nested : {d : ℕ} (tree : NextDotted) → Nest d (next_dotted_spelling tree)
unfolding next_dotted_spelling
next_dotted_nested (next_dotted.FurtherDotted pos dotted) = at_rest Apart refl (dotted_nested Apart dotted)

-- ---- operators

pub relational_operates : (operator : RelationalOperator) → operator_symbol (relational_symbol operator) ≡ true
unfolding relational_symbol
relational_operates relational.Equal = refl
relational_operates relational.NotEqual = refl
relational_operates relational.Less = refl
relational_operates relational.LessEqual = refl
relational_operates relational.Greater = refl
relational_operates relational.GreaterEqual = refl

pub sign_operates : (sign : Sign) → operator_symbol (sign_symbol sign) ≡ true
unfolding sign_symbol
sign_operates sign.Plus = refl
sign_operates sign.Minus = refl

pub adding_operates : (operator : AddingOperator) → operator_symbol (adding_symbol operator) ≡ true
unfolding adding_symbol
adding_operates adding.Add = refl
adding_operates adding.Subtract = refl
adding_operates adding.Concatenate = refl

pub multiplying_operates : (operator : MultiplyingOperator) (pos : Pos) → is_operator (multiplying_token operator pos) ≡ true
unfolding multiplying_token
multiplying_operates multiplying.Multiply pos = refl
multiplying_operates multiplying.Divide pos = refl
multiplying_operates multiplying.Modulo pos = refl
multiplying_operates multiplying.Remainder pos = refl

-- ---- expressions and names

mutual
  unfolding name_spelling

  pub name_nested : (side : Side) (d : ℕ) (tree : Name) → Nest d (name_spelling side d tree)
  name_nested side d (name.Prefixed' pos first _ rest) = at_rest side refl (suffixes_nested side d rest)

  suffixes_nested : {n : _} (side : Side) (d : ℕ) (row : Row_of-Suffix n) → Nest d (suffixes_spelling side d row)
  suffixes_nested side d end_of-Suffix = ended
  suffixes_nested side d (more_of-Suffix part rest) = joined (suffix_nested side d part) (suffixes_nested side d rest)

  suffix_nested : (side : Side) (d : ℕ) (tree : Suffix) → Nest d (suffix_spelling side d tree)
  suffix_nested side d (suffix.Selected pos selector) = at_rest side refl (at_rest side refl ended)
  suffix_nested side d (suffix.Dereferenced pos all) = at_rest side refl (at_rest side refl ended)
  suffix_nested side d (suffix.Applied' pos _ first _ rest right_paren) =
      at_opener side (inside_joined (arg_box_nested side (suc d) first) (inside_joined (next_args_nested side (suc d) rest)
      (closed side refl ended)))
  suffix_nested side d (suffix.Attribute pos attribute) = at_rest side refl (at_rest side refl ended)
  suffix_nested side d (suffix.RangeAttribute pos range) = at_rest side refl (at_rest side refl ended)

  arg_box_nested : {n : _} (side : Side) (d : ℕ) (row : Row_of-Arg n) → Nest d (arg_box side d row)
  arg_box_nested side d end_of-Arg = ended
  arg_box_nested side d (more_of-Arg part rest) = arg_nested side d part

  next_args_nested : {n : _} (side : Side) (d : ℕ) (row : Row_of-NextArg n) → Nest d (next_args_spelling side d row)
  next_args_nested side d end_of-NextArg = ended
  next_args_nested side d (more_of-NextArg part rest) = joined (next_arg_nested side d part) (next_args_nested side d rest)

  pub next_arg_nested : (side : Side) (d : ℕ) (tree : NextArg) → Nest d (next_arg_spelling side d tree)
  next_arg_nested side d (next_arg.FurtherArg' pos _ part) = at_rest side refl (arg_box_nested side d part)

  pub arg_nested : (side : Side) (d : ℕ) (tree : Arg) → Nest d (arg_spelling side d tree)
  arg_nested side d (arg.Positional' pos _ value) = expr_box_nested d value
  arg_nested side d (arg.Association' pos id arrow _ value) = at_rest Within refl (at_rest side refl (expr_box_nested d value))

  expr_box_nested : {n : _} (d : ℕ) (row : Row_of-Expr n) → Nest d (expr_box d row)
  expr_box_nested d end_of-Expr = ended
  expr_box_nested d (more_of-Expr part rest) = expr_nested d part

  pub expr_nested : (d : ℕ) (tree : Expr) → Nest d (expr_spelling d tree)
  expr_nested d (expr.LoneRelation' pos _ relation) = rel_box_nested d relation
  expr_nested d (expr.And' pos _ first and _ second _ rest) =
      joined (rel_box_nested d first) (at_operator refl (joined (rel_box_nested d second)
      (operands_nested d w.KwAnd refl rest)))
  expr_nested d (expr.Or' pos _ first or _ second _ rest) =
      joined (rel_box_nested d first) (at_operator refl (joined (rel_box_nested d second) (operands_nested d w.KwOr refl rest)))
  expr_nested d (expr.Xor' pos _ first xor _ second _ rest) =
      joined (rel_box_nested d first) (at_operator refl (joined (rel_box_nested d second)
      (operands_nested d w.KwXor refl rest)))
  expr_nested d (expr.AndThen' pos _ first and then _ second _ rest) =
      joined (rel_box_nested d first) (at_operator refl (at_rest Within refl (joined (rel_box_nested d second)
      (short_operands_nested d w.KwAnd w.KwThen refl (λ pos. refl) rest))))
  expr_nested d (expr.OrElse' pos _ first or otherwise _ second _ rest) =
      joined (rel_box_nested d first) (at_operator refl (at_rest Within refl (joined (rel_box_nested d second)
      (short_operands_nested d w.KwOr w.KwElse refl (λ pos. refl) rest))))

  operands_nested : {n : _} (d : ℕ) (v : Reserved) → operator_word v ≡ true → (row : Row_of-Operand n)
      → Nest d (operands_spelling d v row)
  operands_nested d v operator end_of-Operand = ended
  operands_nested d v operator (more_of-Operand part rest) =
      joined (operand_nested d v operator part) (operands_nested d v operator rest)

  operand_nested : (d : ℕ) (v : Reserved) → operator_word v ≡ true → (tree : Operand) → Nest d (operand_spelling d v tree)
  operand_nested d v operator (operand.FurtherOperand' pos _ relation) = at_operator operator (rel_box_nested d relation)

  short_operands_nested : {n : _} (d : ℕ) (v : Reserved) (u : Reserved) → operator_word v ≡ true
      → ((pos : Pos) → never_rests (Word u pos) ≡ false) → (row : Row_of-ShortOperand n)
      → Nest d (short_operands_spelling d v u row)
  short_operands_nested d v u operator rest_word end_of-ShortOperand = ended
  short_operands_nested d v u operator rest_word (more_of-ShortOperand part rest) =
      joined (short_operand_nested d v u operator rest_word part) (short_operands_nested d v u operator rest_word rest)

  short_operand_nested : (d : ℕ) (v : Reserved) (u : Reserved) → operator_word v ≡ true
      → ((pos : Pos) → never_rests (Word u pos) ≡ false) → (tree : ShortOperand) → Nest d (short_operand_spelling d v u tree)
  short_operand_nested d v u operator rest_word (short_operand.FurtherShortOperand' pos second_word _ relation) =
      at_operator operator (at_rest Within (rest_word second_word) (rel_box_nested d relation))

  rel_box_nested : {n : _} (d : ℕ) (row : Row_of-Rel n) → Nest d (rel_box d row)
  rel_box_nested d end_of-Rel = ended
  rel_box_nested d (more_of-Rel part rest) = rel_nested d part

  rel_nested : (d : ℕ) (tree : Rel) → Nest d (rel_spelling d tree)
  rel_nested d (rel.LoneSum pos operand) = sum_nested d operand
  rel_nested d (rel.Compared' pos _ left operator operator_pos _ right) =
      joined (sum_box_nested d left) (at_operator (relational_operates operator) (sum_box_nested d right))

  sum_box_nested : {n : _} (d : ℕ) (row : Row_of-Sum n) → Nest d (sum_box d row)
  sum_box_nested d end_of-Sum = ended
  sum_box_nested d (more_of-Sum part rest) = sum_nested d part

  sum_nested : (d : ℕ) (tree : Sum) → Nest d (sum_spelling d tree)
  sum_nested d (sum.Unsigned' pos first _ rest) = joined (term_nested d first) (next_terms_nested d rest)
  sum_nested d (sum.Signed' pos sign first _ rest) =
      at_operator (sign_operates sign) (joined (term_nested d first) (next_terms_nested d rest))

  next_terms_nested : {n : _} (d : ℕ) (row : Row_of-NextTerm n) → Nest d (next_terms_spelling d row)
  next_terms_nested d end_of-NextTerm = ended
  next_terms_nested d (more_of-NextTerm part rest) = joined (next_term_nested d part) (next_terms_nested d rest)

  next_term_nested : (d : ℕ) (tree : NextTerm) → Nest d (next_term_spelling d tree)
  next_term_nested d (next_term.FurtherTerm pos operator part) = at_operator (adding_operates operator) (term_nested d part)

  term_nested : (d : ℕ) (tree : Term) → Nest d (term_spelling d tree)
  term_nested d (term.Product' pos first _ rest) = joined (factor_nested d first) (next_factors_nested d rest)

  next_factors_nested : {n : _} (d : ℕ) (row : Row_of-NextFactor n) → Nest d (next_factors_spelling d row)
  next_factors_nested d end_of-NextFactor = ended
  next_factors_nested d (more_of-NextFactor part rest) = joined (next_factor_nested d part) (next_factors_nested d rest)

  next_factor_nested : (d : ℕ) (tree : NextFactor) → Nest d (next_factor_spelling d tree)
  next_factor_nested d (next_factor.FurtherFactor pos operator part) =
      at_operator (multiplying_operates operator pos) (factor_nested d part)

  factor_nested : (d : ℕ) (tree : Factor) → Nest d (factor_spelling d tree)
  factor_nested d (factor.LonePrimary pos operand) = primary_nested d operand
  factor_nested d (factor.Abs pos operand) = at_operator refl (primary_nested d operand)
  factor_nested d (factor.Not pos operand) = at_operator refl (primary_nested d operand)

  primary_nested : (d : ℕ) (tree : Primary) → Nest d (primary_spelling d tree)
  primary_nested d (primary.Number pos number) = at_rest Within refl ended
  primary_nested d (primary.Text pos text) = at_rest Within refl ended
  primary_nested d (primary.Null pos) = at_rest Within refl ended
  primary_nested d (primary.Named' pos _ part) = name_box_nested d part
  primary_nested d (primary.Parenthesized' pos _ part right_paren) =
      at_opener Within (inside_joined (expr_box_nested (suc d) part) (closed Within refl ended))
  primary_nested d (primary.Aggregated' pos _ part) = aggregate_box_nested d part
  primary_nested d (primary.Allocated pos mark) = at_rest Within refl (dotted_nested Within mark)
  primary_nested d (primary.AllocatedAggregate' pos mark apostrophe _ part) =
      at_rest Within refl (joined (dotted_nested Within mark) (at_rest Within refl (aggregate_box_nested d part)))
  primary_nested d (primary.AllocatedValue' pos mark apostrophe left_paren _ value right_paren) =
      at_rest Within refl (joined (dotted_nested Within mark) (at_rest Within refl (at_opener Within (inside_joined
      (expr_box_nested (suc d) value) (closed Within refl ended)))))

  name_box_nested : {n : _} (d : ℕ) (row : Row_of-Name n) → Nest d (name_box d row)
  name_box_nested d end_of-Name = ended
  name_box_nested d (more_of-Name part rest) = name_nested Within d part

  aggregate_box_nested : {n : _} (d : ℕ) (row : Row_of-Aggregate n) → Nest d (aggregate_box d row)
  aggregate_box_nested d end_of-Aggregate = ended
  aggregate_box_nested d (more_of-Aggregate part rest) = aggregate_nested d part

  aggregate_nested : (d : ℕ) (tree : Aggregate) → Nest d (aggregate_spelling d tree)
  aggregate_nested d (aggregate.Several' pos _ first comma _ second _ rest right_paren) =
      at_opener Within (inside_joined (arg_box_nested Within (suc d) first) (inside_rest Within refl (inside_joined
      (arg_box_nested Within (suc d) second) (inside_joined (next_args_nested Within (suc d) rest)
      (closed Within refl ended)))))
  aggregate_nested d (aggregate.Single' pos id arrow _ value right_paren) =
      at_opener Within (inside_rest Within refl (inside_rest Within refl (inside_joined (expr_box_nested (suc d) value)
      (closed Within refl ended))))
  aggregate_nested d (aggregate.Others' pos others arrow _ value right_paren) =
      at_opener Within (inside_rest Within refl (inside_rest Within refl (inside_joined (expr_box_nested (suc d) value)
      (closed Within refl ended))))

-- ---- ranges and choices

pub constraint_nested : (d : ℕ) (range : Pos) (low : Expr) (dots : Pos) (high : Expr)
    → Nest d (constraint_spelling d range low dots high)
constraint_nested d range low dots high =
    at_rest Apart refl (joined (expr_nested d low) (at_rest Apart refl (expr_nested d high)))

pub range_nested : (d : ℕ) (tree : Range) → Nest d (range_spelling d tree)
unfolding range_spelling
range_nested d (range.Bounds pos low dots high) = joined (expr_nested d low) (at_rest Apart refl (expr_nested d high))
range_nested d (range.Marked pos mark) = dotted_nested Within mark
range_nested d (range.Constrained pos mark of_range low dots high) =
    joined (dotted_nested Within mark) (constraint_nested d of_range low dots high)
range_nested d (range.RangeOf pos prefix apostrophe of_range) =
    joined (name_nested Within d prefix) (at_rest Within refl (at_rest Within refl ended))

pub choice_nested : (d : ℕ) (tree : Choice) → Nest d (choice_spelling d tree)
unfolding choice_spelling
choice_nested d (choice.Value pos value) = expr_nested d value
choice_nested d (choice.Interval pos low dots high) = joined (expr_nested d low) (at_rest Apart refl (expr_nested d high))
choice_nested d (choice.Others pos) = at_rest Apart refl ended

pub next_choice_nested : (d : ℕ) (tree : NextChoice) → Nest d (next_choice_spelling d tree)
unfolding next_choice_spelling
next_choice_nested d (next_choice.Bar pos part) = at_rest Apart refl (choice_nested d part)
