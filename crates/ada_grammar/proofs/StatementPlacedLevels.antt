-- The positions of the parts of each form of statement, with boxes as what they hold and lists as
-- lists.
use Rattle.std.proofs.Common.{◌≡◌, refl, ap, ℕ, suc, List}
use Rattle.std.specs.Prelude.{Option}
use denote.Hole.Carrier.{hidden}
use Rattle.spark_base.specs.declared.position.Pos.{Pos}
use Rattle.ada_tree.specs.declared.identifier.Identifier.{Identifier}
use Rattle.ada_tree.specs.declared.expression.Expr.{Expr}
use Rattle.ada_tree.specs.declared.expression.Name.{Name}
use Rattle.ada_tree.specs.declared.range.Range.{Range}
use Rattle.ada_tree.specs.declared.range.Choice.{Choice}
use Rattle.ada_tree.specs.declared.range.NextChoice.{NextChoice}
use Rattle.ada_tree.specs.declared.declaration.Item.{Item}
use Rattle.ada_tree.specs.declared.statement.Stmts.{Stmts}
use Rattle.ada_tree.specs.declared.statement.Stmts.TheVariants as stmts
use Rattle.ada_tree.specs.declared.statement.Stmt.{Stmt}
use Rattle.ada_tree.specs.declared.statement.Stmt.TheVariants as stmt
use Rattle.ada_tree.specs.declared.statement.Elsif.{Elsif}
use Rattle.ada_tree.specs.declared.statement.Elsif.TheVariants as branch
use Rattle.ada_tree.specs.declared.statement.When.{When}
use Rattle.ada_tree.specs.declared.statement.When.TheVariants as alternative
use Rattle.ada_tree.specs.declared.statement.Elsif.TheBlock.{hidden-the_row-Stmt-4, hidden-the_row-Stmts-0, hidden-the_row-When-2, shape-the_row-Stmt-4, shape-the_row-Stmts-0, shape-the_row-When-2}
use Rattle.token_reading.specs.declared.side.Side.TheVariants.{Apart}
use Rattle.token_reading.specs.Reading.{Each}
use Rattle.ada_tree.specs.Spelling.{name_spelling, stmt_box, stmt_spelling}
use Rattle.ada_tree.specs.WellPlaced.{StartsAt, ChoicePlaced, ElsifPlaced, ExprPlaced, ItemPlaced, NamePlaced, NextChoicePlaced, RangePlaced, StmtBoxPlaced, StmtPlaced, StmtsBoxPlaced, StmtsPlaced, WhenBoxPlaced, WhenPlaced}
use Rattle.ada_grammar.proofs.Placed.{elsif-placed, stmt-placed, when-placed}

pub stmts-Sequence-placed : (d : ℕ) (pos : Pos) (first : Stmt) (rest : List Stmt)
    → StmtsPlaced d (stmts.Sequence pos first rest)
    ≡ (StartsAt pos (stmt_spelling d first) × StmtPlaced d first × Each (StmtPlaced d) rest)
unfolding StmtsPlaced stmt_box StmtBoxPlaced hidden-the_row-Stmt-4 shape-the_row-Stmt-4 hidden
stmts-Sequence-placed d pos first rest = ap (λ P. StartsAt pos (stmt_spelling d first) × StmtPlaced d first
    × P) (stmt-placed d rest)

-- stmt = "null" ";"
pub stmt-Null-placed : (d : ℕ) (pos : Pos) (semicolon : Pos)
    → StmtPlaced d (stmt.Null pos semicolon)
    ≡ Unit {0}
unfolding StmtPlaced
stmt-Null-placed d pos semicolon = refl

-- stmt = name ":=" expr ";"
pub stmt-Assign-placed : (d : ℕ) (pos : Pos) (target : Name) (becomes : Pos) (value : Expr) (semicolon : Pos)
    → StmtPlaced d (stmt.Assign pos target becomes value semicolon)
    ≡ (StartsAt pos (name_spelling Apart d target) × NamePlaced d target × ExprPlaced d value)
unfolding StmtPlaced
stmt-Assign-placed d pos target becomes value semicolon = refl

-- stmt = name ";"
pub stmt-Call-placed : (d : ℕ) (pos : Pos) (called : Name) (semicolon : Pos)
    → StmtPlaced d (stmt.Call pos called semicolon)
    ≡ (StartsAt pos (name_spelling Apart d called) × NamePlaced d called)
unfolding StmtPlaced
stmt-Call-placed d pos called semicolon = refl

-- stmt = "exit" ";"
pub stmt-Exit-placed : (d : ℕ) (pos : Pos) (semicolon : Pos)
    → StmtPlaced d (stmt.Exit pos semicolon)
    ≡ Unit {0}
unfolding StmtPlaced
stmt-Exit-placed d pos semicolon = refl

-- stmt = "exit" "when" expr ";"
pub stmt-ExitWhen-placed : (d : ℕ) (pos : Pos) (when : Pos) (condition : Expr) (semicolon : Pos)
    → StmtPlaced d (stmt.ExitWhen pos when condition semicolon)
    ≡ ExprPlaced d condition
unfolding StmtPlaced
stmt-ExitWhen-placed d pos when condition semicolon = refl

-- stmt = "return" ";"
pub stmt-Return-placed : (d : ℕ) (pos : Pos) (semicolon : Pos)
    → StmtPlaced d (stmt.Return pos semicolon)
    ≡ Unit {0}
unfolding StmtPlaced
stmt-Return-placed d pos semicolon = refl

-- stmt = "return" expr ";"
pub stmt-ReturnValue-placed : (d : ℕ) (pos : Pos) (value : Expr) (semicolon : Pos)
    → StmtPlaced d (stmt.ReturnValue pos value semicolon)
    ≡ ExprPlaced d value
unfolding StmtPlaced
stmt-ReturnValue-placed d pos value semicolon = refl

-- stmt = "if" expr "then" stmts {"elsif" expr "then" stmts} "end" "if" ";"
pub stmt-If-placed : (d : ℕ) (pos : Pos) (condition : Expr) (then : Pos) (body : Stmts) (elsifs : List Elsif)
    (end : Pos) (end_if : Pos) (semicolon : Pos)
    → StmtPlaced d (stmt.If pos condition then body elsifs end end_if semicolon)
    ≡ (ExprPlaced (suc d) condition × StmtsPlaced (suc d) body × Each (ElsifPlaced (suc d)) elsifs)
unfolding StmtPlaced StmtsBoxPlaced hidden-the_row-Stmts-0 shape-the_row-Stmts-0 hidden
stmt-If-placed d pos condition then body elsifs end end_if semicolon = ap (λ P. ExprPlaced (suc d) condition
    × StmtsPlaced (suc d) body × P) (elsif-placed (suc d) elsifs)

-- stmt = "if" expr "then" stmts {"elsif" expr "then" stmts} "else" stmts "end" "if" ";"
pub stmt-IfElse-placed : (d : ℕ) (pos : Pos) (condition : Expr) (then : Pos) (body : Stmts) (elsifs : List Elsif)
    (otherwise : Pos) (otherwise_body : Stmts) (end : Pos) (end_if : Pos) (semicolon : Pos)
    → StmtPlaced d (stmt.IfElse pos condition then body elsifs otherwise otherwise_body end end_if semicolon)
    ≡ (ExprPlaced (suc d) condition × StmtsPlaced (suc d) body × Each (ElsifPlaced (suc d)) elsifs
    × StmtsPlaced (suc d) otherwise_body)
unfolding StmtPlaced StmtsBoxPlaced hidden-the_row-Stmts-0 shape-the_row-Stmts-0 hidden
stmt-IfElse-placed d pos condition then body elsifs otherwise otherwise_body end end_if semicolon = ap
    (λ P. ExprPlaced (suc d) condition × StmtsPlaced (suc d) body × P
    × StmtsPlaced (suc d) otherwise_body) (elsif-placed (suc d) elsifs)

-- stmt = "case" expr "is" when {when} "end" "case" ";"
pub stmt-Case-placed : (d : ℕ) (pos : Pos) (selector : Expr) (is : Pos) (first : When) (rest : List When) (end : Pos)
    (end_case : Pos) (semicolon : Pos)
    → StmtPlaced d (stmt.Case pos selector is first rest end end_case semicolon)
    ≡ (ExprPlaced (suc d) selector × WhenPlaced (suc d) first × Each (WhenPlaced (suc d)) rest)
unfolding StmtPlaced WhenBoxPlaced hidden-the_row-When-2 shape-the_row-When-2 hidden
stmt-Case-placed d pos selector is first rest end end_case semicolon = ap (λ P. ExprPlaced (suc d) selector
    × WhenPlaced (suc d) first × P) (when-placed (suc d) rest)

-- stmt = "loop" stmts "end" "loop" ";"
pub stmt-Loop-placed : (d : ℕ) (pos : Pos) (body : Stmts) (end : Pos) (end_loop : Pos) (semicolon : Pos)
    → StmtPlaced d (stmt.Loop pos body end end_loop semicolon)
    ≡ StmtsPlaced (suc d) body
unfolding StmtPlaced StmtsBoxPlaced hidden-the_row-Stmts-0 shape-the_row-Stmts-0 hidden
stmt-Loop-placed d pos body end end_loop semicolon = refl

-- stmt = "while" expr "loop" stmts "end" "loop" ";"
pub stmt-While-placed : (d : ℕ) (pos : Pos) (condition : Expr) (loop_word : Pos) (body : Stmts) (end : Pos)
    (end_loop : Pos) (semicolon : Pos)
    → StmtPlaced d (stmt.While pos condition loop_word body end end_loop semicolon)
    ≡ (ExprPlaced (suc d) condition × StmtsPlaced (suc d) body)
unfolding StmtPlaced StmtsBoxPlaced hidden-the_row-Stmts-0 shape-the_row-Stmts-0 hidden
stmt-While-placed d pos condition loop_word body end end_loop semicolon = refl

-- stmt = "for" id "in" ["reverse"] range "loop" stmts "end" "loop" ";"
pub stmt-For-placed : (d : ℕ) (pos : Pos) (parameter : Identifier) (in_word : Pos) (reverse : Option Pos) (over : Range)
    (loop_word : Pos) (body : Stmts) (end : Pos) (end_loop : Pos) (semicolon : Pos)
    → StmtPlaced d (stmt.For pos parameter in_word reverse over loop_word body end end_loop semicolon)
    ≡ (RangePlaced (suc d) over × StmtsPlaced (suc d) body)
unfolding StmtPlaced StmtsBoxPlaced hidden-the_row-Stmts-0 shape-the_row-Stmts-0 hidden
stmt-For-placed d pos parameter in_word reverse over loop_word body end end_loop semicolon = refl

-- stmt = "begin" stmts "end" ";"
pub stmt-Block-placed : (d : ℕ) (pos : Pos) (body : Stmts) (end : Pos) (semicolon : Pos)
    → StmtPlaced d (stmt.Block pos body end semicolon)
    ≡ StmtsPlaced (suc d) body
unfolding StmtPlaced StmtsBoxPlaced hidden-the_row-Stmts-0 shape-the_row-Stmts-0 hidden
stmt-Block-placed d pos body end semicolon = refl

-- stmt = "declare" {item} "begin" stmts "end" ";"
pub stmt-DeclareBlock-placed : (d : ℕ) (pos : Pos) (items : List Item) (begin : Pos) (body : Stmts) (end : Pos)
    (semicolon : Pos)
    → StmtPlaced d (stmt.DeclareBlock pos items begin body end semicolon)
    ≡ (Each (ItemPlaced (suc d)) items × StmtsPlaced (suc d) body)
unfolding StmtPlaced StmtsBoxPlaced hidden-the_row-Stmts-0 shape-the_row-Stmts-0 hidden
stmt-DeclareBlock-placed d pos items begin body end semicolon = refl

pub branch-Branch-placed : (d : ℕ) (pos : Pos) (condition : Expr) (then : Pos) (body : Stmts)
    → ElsifPlaced d (branch.Branch pos condition then body)
    ≡ (ExprPlaced d condition × StmtsPlaced d body)
unfolding ElsifPlaced StmtsBoxPlaced hidden-the_row-Stmts-0 shape-the_row-Stmts-0 hidden
branch-Branch-placed d pos condition then body = refl

pub alternative-Alternative-placed : (d : ℕ) (pos : Pos) (first : Choice) (rest : List NextChoice) (arrow : Pos)
    (body : Stmts)
    → WhenPlaced d (alternative.Alternative pos first rest arrow body)
    ≡ (ChoicePlaced d first × Each (NextChoicePlaced d) rest × StmtsPlaced d body)
unfolding WhenPlaced StmtsBoxPlaced hidden-the_row-Stmts-0 shape-the_row-Stmts-0 hidden
alternative-Alternative-placed d pos first rest arrow body = refl
