-- The positions of the parts in a list, with the list as a list.
use Rattle.std.proofs.Common.{◌≡◌, refl, ap, ◌∙◌, ℕ, List}
use Rattle.ada_tree.specs.declared.expression.NextArg.{NextArg}
use Rattle.ada_tree.specs.declared.expression.Aggregate.{Row_of-NextArg, end_of-NextArg, more_of-NextArg, items-the_row-NextArg, items_hidden-the_row-NextArg-1}
use Rattle.ada_tree.specs.declared.expression.Operand.{Operand}
use Rattle.ada_tree.specs.declared.expression.Expr.{Row_of-Operand, end_of-Operand, more_of-Operand, items-the_row-Operand, items_hidden-the_row-Operand-4}
use Rattle.ada_tree.specs.declared.expression.ShortOperand.{ShortOperand}
use Rattle.ada_tree.specs.declared.expression.Expr.{Row_of-ShortOperand, end_of-ShortOperand, more_of-ShortOperand, items-the_row-ShortOperand, items_hidden-the_row-ShortOperand-5}
use Rattle.ada_tree.specs.declared.expression.Suffix.{Suffix}
use Rattle.ada_tree.specs.declared.expression.Name.{Row_of-Suffix, end_of-Suffix, more_of-Suffix, items-the_row-Suffix, items_hidden-the_row-Suffix-6}
use Rattle.ada_tree.specs.declared.expression.NextTerm.{NextTerm}
use Rattle.ada_tree.specs.declared.expression.Sum.{Row_of-NextTerm, end_of-NextTerm, more_of-NextTerm, items-the_row-NextTerm, items_hidden-the_row-NextTerm-10}
use Rattle.ada_tree.specs.declared.expression.NextFactor.{NextFactor}
use Rattle.ada_tree.specs.declared.expression.Term.{Row_of-NextFactor, end_of-NextFactor, more_of-NextFactor, items-the_row-NextFactor, items_hidden-the_row-NextFactor-11}
use Rattle.ada_tree.specs.declared.statement.Elsif.{Elsif}
use Rattle.ada_tree.specs.declared.statement.Stmt.{Row_of-Elsif, end_of-Elsif, more_of-Elsif, items-the_row-Elsif, items_hidden-the_row-Elsif-1}
use Rattle.ada_tree.specs.declared.statement.When.{When}
use Rattle.ada_tree.specs.declared.statement.Stmt.{Row_of-When, end_of-When, more_of-When, items-the_row-When, items_hidden-the_row-When-3}
use Rattle.ada_tree.specs.declared.statement.Stmt.{Stmt}
use Rattle.ada_tree.specs.declared.statement.Stmts.{Row_of-Stmt, end_of-Stmt, more_of-Stmt, items-the_row-Stmt, items_hidden-the_row-Stmt-5}
use Rattle.ada_tree.specs.declared.expression.Aggregate.TheBlock.{hidden-the_row-NextArg-1, hidden-the_row-Operand-4, hidden-the_row-ShortOperand-5, hidden-the_row-Suffix-6, hidden-the_row-NextTerm-10, hidden-the_row-NextFactor-11}
use Rattle.ada_tree.specs.declared.statement.Elsif.TheBlock.{hidden-the_row-Elsif-1, hidden-the_row-When-3, hidden-the_row-Stmt-5}
use Rattle.token_reading.specs.Reading.{Each}
use Rattle.ada_tree.specs.WellPlaced.{NextArgsPlaced, NextArgPlaced, OperandsPlaced, OperandPlaced, ShortOperandsPlaced, ShortOperandPlaced, SuffixesPlaced, SuffixPlaced, NextTermsPlaced, NextTermPlaced, NextFactorsPlaced, NextFactorPlaced, ElsifsPlaced, ElsifPlaced, WhensPlaced, WhenPlaced, EachStmtPlaced, StmtPlaced}

next_arg-row : {n : _} (d : ℕ) (row : Row_of-NextArg n) → NextArgsPlaced d row ≡ Each (NextArgPlaced d) (items-the_row-NextArg n row)
unfolding NextArgsPlaced
next_arg-row d end_of-NextArg = refl
next_arg-row d (more_of-NextArg part rest) = ap (λ P. NextArgPlaced d part × P) (next_arg-row d rest)

pub next_arg-placed : (d : ℕ) (parts : List NextArg) → NextArgsPlaced d (hidden-the_row-NextArg-1 parts) ≡ Each (NextArgPlaced d) parts
next_arg-placed d parts =
    next_arg-row d (hidden-the_row-NextArg-1 parts) ∙ ap (Each (NextArgPlaced d)) (items_hidden-the_row-NextArg-1 parts)

operand-row : {n : _} (d : ℕ) (row : Row_of-Operand n) → OperandsPlaced d row ≡ Each (OperandPlaced d) (items-the_row-Operand n row)
unfolding OperandsPlaced
operand-row d end_of-Operand = refl
operand-row d (more_of-Operand part rest) = ap (λ P. OperandPlaced d part × P) (operand-row d rest)

pub operand-placed : (d : ℕ) (parts : List Operand) → OperandsPlaced d (hidden-the_row-Operand-4 parts) ≡ Each (OperandPlaced d) parts
operand-placed d parts =
    operand-row d (hidden-the_row-Operand-4 parts) ∙ ap (Each (OperandPlaced d)) (items_hidden-the_row-Operand-4 parts)

short_operand-row : {n : _} (d : ℕ) (row : Row_of-ShortOperand n) → ShortOperandsPlaced d row ≡ Each (ShortOperandPlaced d) (items-the_row-ShortOperand n row)
unfolding ShortOperandsPlaced
short_operand-row d end_of-ShortOperand = refl
short_operand-row d (more_of-ShortOperand part rest) = ap (λ P. ShortOperandPlaced d part × P) (short_operand-row d rest)

pub short_operand-placed : (d : ℕ) (parts : List ShortOperand) → ShortOperandsPlaced d (hidden-the_row-ShortOperand-5 parts) ≡ Each (ShortOperandPlaced d) parts
short_operand-placed d parts =
    short_operand-row d (hidden-the_row-ShortOperand-5 parts) ∙ ap (Each (ShortOperandPlaced d)) (items_hidden-the_row-ShortOperand-5 parts)

suffix-row : {n : _} (d : ℕ) (row : Row_of-Suffix n) → SuffixesPlaced d row ≡ Each (SuffixPlaced d) (items-the_row-Suffix n row)
unfolding SuffixesPlaced
suffix-row d end_of-Suffix = refl
suffix-row d (more_of-Suffix part rest) = ap (λ P. SuffixPlaced d part × P) (suffix-row d rest)

pub suffix-placed : (d : ℕ) (parts : List Suffix) → SuffixesPlaced d (hidden-the_row-Suffix-6 parts) ≡ Each (SuffixPlaced d) parts
suffix-placed d parts =
    suffix-row d (hidden-the_row-Suffix-6 parts) ∙ ap (Each (SuffixPlaced d)) (items_hidden-the_row-Suffix-6 parts)

next_term-row : {n : _} (d : ℕ) (row : Row_of-NextTerm n) → NextTermsPlaced d row ≡ Each (NextTermPlaced d) (items-the_row-NextTerm n row)
unfolding NextTermsPlaced
next_term-row d end_of-NextTerm = refl
next_term-row d (more_of-NextTerm part rest) = ap (λ P. NextTermPlaced d part × P) (next_term-row d rest)

pub next_term-placed : (d : ℕ) (parts : List NextTerm) → NextTermsPlaced d (hidden-the_row-NextTerm-10 parts) ≡ Each (NextTermPlaced d) parts
next_term-placed d parts =
    next_term-row d (hidden-the_row-NextTerm-10 parts) ∙ ap (Each (NextTermPlaced d)) (items_hidden-the_row-NextTerm-10 parts)

next_factor-row : {n : _} (d : ℕ) (row : Row_of-NextFactor n) → NextFactorsPlaced d row ≡ Each (NextFactorPlaced d) (items-the_row-NextFactor n row)
unfolding NextFactorsPlaced
next_factor-row d end_of-NextFactor = refl
next_factor-row d (more_of-NextFactor part rest) = ap (λ P. NextFactorPlaced d part × P) (next_factor-row d rest)

pub next_factor-placed : (d : ℕ) (parts : List NextFactor) → NextFactorsPlaced d (hidden-the_row-NextFactor-11 parts) ≡ Each (NextFactorPlaced d) parts
next_factor-placed d parts =
    next_factor-row d (hidden-the_row-NextFactor-11 parts) ∙ ap (Each (NextFactorPlaced d)) (items_hidden-the_row-NextFactor-11 parts)

elsif-row : {n : _} (d : ℕ) (row : Row_of-Elsif n) → ElsifsPlaced d row ≡ Each (ElsifPlaced d) (items-the_row-Elsif n row)
unfolding ElsifsPlaced
elsif-row d end_of-Elsif = refl
elsif-row d (more_of-Elsif part rest) = ap (λ P. ElsifPlaced d part × P) (elsif-row d rest)

pub elsif-placed : (d : ℕ) (parts : List Elsif) → ElsifsPlaced d (hidden-the_row-Elsif-1 parts) ≡ Each (ElsifPlaced d) parts
elsif-placed d parts =
    elsif-row d (hidden-the_row-Elsif-1 parts) ∙ ap (Each (ElsifPlaced d)) (items_hidden-the_row-Elsif-1 parts)

when-row : {n : _} (d : ℕ) (row : Row_of-When n) → WhensPlaced d row ≡ Each (WhenPlaced d) (items-the_row-When n row)
unfolding WhensPlaced
when-row d end_of-When = refl
when-row d (more_of-When part rest) = ap (λ P. WhenPlaced d part × P) (when-row d rest)

pub when-placed : (d : ℕ) (parts : List When) → WhensPlaced d (hidden-the_row-When-3 parts) ≡ Each (WhenPlaced d) parts
when-placed d parts =
    when-row d (hidden-the_row-When-3 parts) ∙ ap (Each (WhenPlaced d)) (items_hidden-the_row-When-3 parts)

stmt-row : {n : _} (d : ℕ) (row : Row_of-Stmt n) → EachStmtPlaced d row ≡ Each (StmtPlaced d) (items-the_row-Stmt n row)
unfolding EachStmtPlaced
stmt-row d end_of-Stmt = refl
stmt-row d (more_of-Stmt part rest) = ap (λ P. StmtPlaced d part × P) (stmt-row d rest)

pub stmt-placed : (d : ℕ) (parts : List Stmt) → EachStmtPlaced d (hidden-the_row-Stmt-5 parts) ≡ Each (StmtPlaced d) parts
stmt-placed d parts =
    stmt-row d (hidden-the_row-Stmt-5 parts) ∙ ap (Each (StmtPlaced d)) (items_hidden-the_row-Stmt-5 parts)
