-- Small trees that are well placed at any depth: `null` as an expression and as a statement, and
-- what is made of them.
use Rattle.std.proofs.Common.{◌≡◌, refl, sym, ◌∙◌, subst, ℕ, List, [], ◌∷◌}
use Rattle.std.proofs.Math.Path.{transport⁻¹}
use Rattle.ada_lexer.specs.declared.token.Reserved.TheVariants as w
use Rattle.token_reading.specs.declared.side.Side.TheVariants.{Within}
use Rattle.token_reading.specs.Weights.{WeighedToken}
use Rattle.token_reading.proofs.Tokens.{some_position}
use Rattle.ada_tree.specs.declared.expression.Expr.{Expr}
use Rattle.ada_tree.specs.declared.expression.Expr.TheVariants as of_expr
use Rattle.ada_tree.specs.declared.expression.Rel.{Rel}
use Rattle.ada_tree.specs.declared.expression.Rel.TheVariants as of_rel
use Rattle.ada_tree.specs.declared.expression.Sum.{Sum}
use Rattle.ada_tree.specs.declared.expression.Sum.TheVariants as of_sum
use Rattle.ada_tree.specs.declared.expression.Term.{Term}
use Rattle.ada_tree.specs.declared.expression.Term.TheVariants as of_term
use Rattle.ada_tree.specs.declared.expression.Factor.{Factor}
use Rattle.ada_tree.specs.declared.expression.Factor.TheVariants as of_factor
use Rattle.ada_tree.specs.declared.expression.Primary.{Primary}
use Rattle.ada_tree.specs.declared.expression.Primary.TheVariants as of_primary
use Rattle.ada_tree.specs.declared.identifier.Identifier.{Identifier}
use Rattle.ada_tree.specs.declared.range.Range.{Range}
use Rattle.ada_tree.specs.declared.range.Range.TheVariants as of_range
use Rattle.ada_tree.specs.declared.range.Choice.{Choice}
use Rattle.ada_tree.specs.declared.range.Choice.TheVariants as of_choice
use Rattle.ada_tree.specs.declared.statement.Stmts.{Stmts}
use Rattle.ada_tree.specs.declared.statement.Stmts.TheVariants as of_stmts
use Rattle.ada_tree.specs.declared.statement.Stmt.{Stmt}
use Rattle.ada_tree.specs.declared.statement.Stmt.TheVariants as of_stmt
use Rattle.ada_tree.specs.declared.statement.When.{When}
use Rattle.ada_tree.specs.declared.statement.When.TheVariants as of_when
use Rattle.ada_tree.specs.Spelling.{word, dotted_spelling, rel_spelling, sum_spelling, term_spelling, factor_spelling, primary_spelling}
use Rattle.ada_tree.specs.WellPlaced.{DottedPlaced, StartsAt, ExprPlaced, RelPlaced, SumPlaced, TermPlaced, FactorPlaced, RangePlaced, ChoicePlaced, StmtsPlaced, WhenPlaced}
use Rattle.ada_tree.specs.FixedNames.{StmtsNamed, WhenNamed}
use Rattle.ada_grammar.proofs.Levels.{rel-LoneSum, sum-Unsigned, term-Product, factor-LonePrimary, primary-Null}
use Rattle.ada_grammar.proofs.PlacedLevels.{expr-LoneRelation-placed, rel-LoneSum-placed, sum-Unsigned-placed, term-Product-placed, factor-LonePrimary-placed, primary-Null-placed}
use Rattle.ada_grammar.proofs.StatementLevels.{stmt-Null}
use Rattle.ada_grammar.proofs.StatementPlacedLevels.{stmts-Sequence-placed, stmt-Null-placed, alternative-Alternative-placed}
use Rattle.ada_grammar.proofs.StatementNamedLevels.{stmts-Sequence-named, stmt-Null-named, alternative-Alternative-named}

-- ---- an expression

abbrev null_spelling : List WeighedToken
null_spelling = word Within w.KwNull some_position ∷ []

at_null : (spelling : List WeighedToken) → spelling ≡ null_spelling → StartsAt some_position spelling
at_null spelling e = subst (StartsAt some_position) (sym e) refl

abbrev some_primary : Primary
some_primary = of_primary.Null some_position

abbrev some_factor : Factor
some_factor = of_factor.LonePrimary some_position some_primary

abbrev some_term : Term
some_term = of_term.Product some_position some_factor []

abbrev some_sum : Sum
some_sum = of_sum.Unsigned some_position some_term []

abbrev some_rel : Rel
some_rel = of_rel.LoneSum some_position some_sum

pub some_expr : Expr
some_expr = of_expr.LoneRelation some_position some_rel

primary_spelled : (d : ℕ) → primary_spelling d some_primary ≡ null_spelling
primary_spelled d = primary-Null d some_position

factor_spelled : (d : ℕ) → factor_spelling d some_factor ≡ null_spelling
factor_spelled d = factor-LonePrimary d some_position some_primary ∙ primary_spelled d

term_spelled : (d : ℕ) → term_spelling d some_term ≡ null_spelling
term_spelled d = rw (term-Product d some_position some_factor []) (rw (factor_spelled d) refl)

sum_spelled : (d : ℕ) → sum_spelling d some_sum ≡ null_spelling
sum_spelled d = rw (sum-Unsigned d some_position some_term []) (rw (term_spelled d) refl)

rel_spelled : (d : ℕ) → rel_spelling d some_rel ≡ null_spelling
rel_spelled d = rel-LoneSum d some_position some_sum ∙ sum_spelled d

factor_placed : (d : ℕ) → FactorPlaced d some_factor
factor_placed d =
    transport⁻¹ (factor-LonePrimary-placed d some_position some_primary)
    (at_null (primary_spelling d some_primary) (primary_spelled d), transport⁻¹ (primary-Null-placed d some_position) tt)

term_placed : (d : ℕ) → TermPlaced d some_term
term_placed d =
    transport⁻¹ (term-Product-placed d some_position some_factor [])
    (at_null (factor_spelling d some_factor) (factor_spelled d), factor_placed d, tt)

sum_placed : (d : ℕ) → SumPlaced d some_sum
sum_placed d =
    transport⁻¹ (sum-Unsigned-placed d some_position some_term []) (at_null (term_spelling d some_term) (term_spelled d), term_placed d, tt)

rel_placed : (d : ℕ) → RelPlaced d some_rel
rel_placed d = transport⁻¹ (rel-LoneSum-placed d some_position some_sum) (at_null (sum_spelling d some_sum) (sum_spelled d), sum_placed d)

pub some_expr_placed : (d : ℕ) → ExprPlaced d some_expr
unfolding some_expr
some_expr_placed d = transport⁻¹ (expr-LoneRelation-placed d some_position some_rel) (at_null (rel_spelling d some_rel) (rel_spelled d), rel_placed d)

-- ---- a range and a choice

abbrev pub some_identifier : Identifier
some_identifier = record { pos = some_position; text = [] }

pub some_range : Range
some_range = of_range.Marked some_position (record { pos = some_position; first = some_identifier; rest = [] })

pub some_range_placed : (d : ℕ) → RangePlaced d some_range
unfolding some_range RangePlaced DottedPlaced dotted_spelling
some_range_placed d = (refl, refl)

pub some_choice : Choice
some_choice = of_choice.Others some_position

pub some_choice_placed : (d : ℕ) → ChoicePlaced d some_choice
unfolding some_choice ChoicePlaced
some_choice_placed d = tt

-- ---- statements

abbrev some_stmt : Stmt
some_stmt = of_stmt.Null some_position some_position

pub some_stmts : Stmts
some_stmts = of_stmts.Sequence some_position some_stmt []

pub some_stmts_good : (d : ℕ) → StmtsPlaced d some_stmts × StmtsNamed some_stmts
unfolding some_stmts
some_stmts_good d = (
  transport⁻¹ (stmts-Sequence-placed d some_position some_stmt [])
      (subst (StartsAt some_position) (sym (stmt-Null d some_position some_position)) refl, transport⁻¹ (stmt-Null-placed d some_position some_position) tt, tt),
  transport⁻¹ (stmts-Sequence-named some_position some_stmt []) (transport⁻¹ (stmt-Null-named some_position some_position) tt, tt),
)

pub some_when : When
some_when = of_when.Alternative some_position some_choice [] some_position some_stmts

pub some_when_good : (d : ℕ) → WhenPlaced d some_when × WhenNamed some_when
unfolding some_when
some_when_good d = (
  transport⁻¹ (alternative-Alternative-placed d some_position some_choice [] some_position some_stmts)
      (some_choice_placed d, tt, (some_stmts_good d).0),
  transport⁻¹ (alternative-Alternative-named some_position some_choice [] some_position some_stmts) (some_stmts_good d).1,
)
