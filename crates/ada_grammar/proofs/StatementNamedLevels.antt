-- The fixed names in each form of statement, with boxes as what they hold and lists as lists.
use Rattle.std.proofs.Common.{◌≡◌, refl, ap, ◌∙◌, List}
use Rattle.std.specs.Prelude.{Option}
use denote.Hole.Carrier.{hidden}
use Rattle.spark_base.specs.declared.position.Pos.{Pos}
use Rattle.ada_tree.specs.declared.identifier.Identifier.{Identifier}
use Rattle.ada_tree.specs.declared.expression.Expr.{Expr}
use Rattle.ada_tree.specs.declared.expression.Name.{Name}
use Rattle.ada_tree.specs.declared.range.Range.{Range}
use Rattle.ada_tree.specs.declared.range.Choice.{Choice}
use Rattle.ada_tree.specs.declared.range.NextChoice.{NextChoice}
use Rattle.ada_tree.specs.declared.declaration.Item.{Item}
use Rattle.ada_tree.specs.declared.statement.Stmts.{Stmts, Row_of-Stmt, end_of-Stmt, more_of-Stmt, items-the_row-Stmt, items_hidden-the_row-Stmt-5}
use Rattle.ada_tree.specs.declared.statement.Stmts.TheVariants as stmts
use Rattle.ada_tree.specs.declared.statement.Stmt.{Stmt, Row_of-Elsif, end_of-Elsif, more_of-Elsif, items-the_row-Elsif, items_hidden-the_row-Elsif-1, Row_of-When, end_of-When, more_of-When, items-the_row-When, items_hidden-the_row-When-3}
use Rattle.ada_tree.specs.declared.statement.Stmt.TheVariants as stmt
use Rattle.ada_tree.specs.declared.statement.Elsif.{Elsif}
use Rattle.ada_tree.specs.declared.statement.Elsif.TheVariants as branch
use Rattle.ada_tree.specs.declared.statement.When.{When}
use Rattle.ada_tree.specs.declared.statement.When.TheVariants as alternative
use Rattle.ada_tree.specs.declared.statement.Elsif.TheBlock.{hidden-the_row-Elsif-1, hidden-the_row-Stmt-4, hidden-the_row-Stmt-5, hidden-the_row-Stmts-0, hidden-the_row-When-2, hidden-the_row-When-3, shape-the_row-Stmt-4, shape-the_row-Stmts-0, shape-the_row-When-2}
use Rattle.token_reading.specs.Reading.{Each}
use Rattle.ada_tree.specs.FixedNames.{EachStmtNamed, ElsifNamed, ElsifsNamed, ItemNamed, StmtBoxNamed, StmtNamed, StmtsBoxNamed, StmtsNamed, WhenBoxNamed, WhenNamed, WhensNamed}

-- ---- lists

elsif-row : {n : _} (row : Row_of-Elsif n) → ElsifsNamed row ≡ Each ElsifNamed (items-the_row-Elsif n row)
unfolding ElsifsNamed
elsif-row end_of-Elsif = refl
elsif-row (more_of-Elsif part rest) = ap (λ P. ElsifNamed part × P) (elsif-row rest)

pub elsif-named : (parts : List Elsif) → ElsifsNamed (hidden-the_row-Elsif-1 parts) ≡ Each ElsifNamed parts
elsif-named parts = elsif-row (hidden-the_row-Elsif-1 parts) ∙ ap (Each ElsifNamed) (items_hidden-the_row-Elsif-1 parts)

when-row : {n : _} (row : Row_of-When n) → WhensNamed row ≡ Each WhenNamed (items-the_row-When n row)
unfolding WhensNamed
when-row end_of-When = refl
when-row (more_of-When part rest) = ap (λ P. WhenNamed part × P) (when-row rest)

pub when-named : (parts : List When) → WhensNamed (hidden-the_row-When-3 parts) ≡ Each WhenNamed parts
when-named parts = when-row (hidden-the_row-When-3 parts) ∙ ap (Each WhenNamed) (items_hidden-the_row-When-3 parts)

stmt-row : {n : _} (row : Row_of-Stmt n) → EachStmtNamed row ≡ Each StmtNamed (items-the_row-Stmt n row)
unfolding EachStmtNamed
stmt-row end_of-Stmt = refl
stmt-row (more_of-Stmt part rest) = ap (λ P. StmtNamed part × P) (stmt-row rest)

pub stmt-named : (parts : List Stmt) → EachStmtNamed (hidden-the_row-Stmt-5 parts) ≡ Each StmtNamed parts
stmt-named parts = stmt-row (hidden-the_row-Stmt-5 parts) ∙ ap (Each StmtNamed) (items_hidden-the_row-Stmt-5 parts)

-- ---- the alternatives

pub stmts-Sequence-named : (pos : Pos) (first : Stmt) (rest : List Stmt)
    → StmtsNamed (stmts.Sequence pos first rest)
    ≡ (StmtNamed first × Each StmtNamed rest)
unfolding StmtsNamed StmtBoxNamed hidden-the_row-Stmt-4 shape-the_row-Stmt-4 hidden
stmts-Sequence-named pos first rest = ap (λ P. StmtNamed first × P) (stmt-named rest)

-- stmt = "null" ";"
pub stmt-Null-named : (pos : Pos) (semicolon : Pos)
    → StmtNamed (stmt.Null pos semicolon)
    ≡ Unit {0}
unfolding StmtNamed
stmt-Null-named pos semicolon = refl

-- stmt = name ":=" expr ";"
pub stmt-Assign-named : (pos : Pos) (target : Name) (becomes : Pos) (value : Expr) (semicolon : Pos)
    → StmtNamed (stmt.Assign pos target becomes value semicolon)
    ≡ Unit {0}
unfolding StmtNamed
stmt-Assign-named pos target becomes value semicolon = refl

-- stmt = name ";"
pub stmt-Call-named : (pos : Pos) (called : Name) (semicolon : Pos)
    → StmtNamed (stmt.Call pos called semicolon)
    ≡ Unit {0}
unfolding StmtNamed
stmt-Call-named pos called semicolon = refl

-- stmt = "exit" ";"
pub stmt-Exit-named : (pos : Pos) (semicolon : Pos)
    → StmtNamed (stmt.Exit pos semicolon)
    ≡ Unit {0}
unfolding StmtNamed
stmt-Exit-named pos semicolon = refl

-- stmt = "exit" "when" expr ";"
pub stmt-ExitWhen-named : (pos : Pos) (when : Pos) (condition : Expr) (semicolon : Pos)
    → StmtNamed (stmt.ExitWhen pos when condition semicolon)
    ≡ Unit {0}
unfolding StmtNamed
stmt-ExitWhen-named pos when condition semicolon = refl

-- stmt = "return" ";"
pub stmt-Return-named : (pos : Pos) (semicolon : Pos)
    → StmtNamed (stmt.Return pos semicolon)
    ≡ Unit {0}
unfolding StmtNamed
stmt-Return-named pos semicolon = refl

-- stmt = "return" expr ";"
pub stmt-ReturnValue-named : (pos : Pos) (value : Expr) (semicolon : Pos)
    → StmtNamed (stmt.ReturnValue pos value semicolon)
    ≡ Unit {0}
unfolding StmtNamed
stmt-ReturnValue-named pos value semicolon = refl

-- stmt = "if" expr "then" stmts {"elsif" expr "then" stmts} "end" "if" ";"
pub stmt-If-named : (pos : Pos) (condition : Expr) (then : Pos) (body : Stmts) (elsifs : List Elsif) (end : Pos)
    (end_if : Pos) (semicolon : Pos)
    → StmtNamed (stmt.If pos condition then body elsifs end end_if semicolon)
    ≡ (StmtsNamed body × Each ElsifNamed elsifs)
unfolding StmtNamed StmtsBoxNamed hidden-the_row-Stmts-0 shape-the_row-Stmts-0 hidden
stmt-If-named pos condition then body elsifs end end_if semicolon = ap (λ P. StmtsNamed body × P) (elsif-named elsifs)

-- stmt = "if" expr "then" stmts {"elsif" expr "then" stmts} "else" stmts "end" "if" ";"
pub stmt-IfElse-named : (pos : Pos) (condition : Expr) (then : Pos) (body : Stmts) (elsifs : List Elsif)
    (otherwise : Pos) (otherwise_body : Stmts) (end : Pos) (end_if : Pos) (semicolon : Pos)
    → StmtNamed (stmt.IfElse pos condition then body elsifs otherwise otherwise_body end end_if semicolon)
    ≡ (StmtsNamed body × Each ElsifNamed elsifs × StmtsNamed otherwise_body)
unfolding StmtNamed StmtsBoxNamed hidden-the_row-Stmts-0 shape-the_row-Stmts-0 hidden
stmt-IfElse-named pos condition then body elsifs otherwise otherwise_body end end_if semicolon = ap
    (λ P. StmtsNamed body × P × StmtsNamed otherwise_body) (elsif-named elsifs)

-- stmt = "case" expr "is" when {when} "end" "case" ";"
pub stmt-Case-named : (pos : Pos) (selector : Expr) (is : Pos) (first : When) (rest : List When) (end : Pos)
    (end_case : Pos) (semicolon : Pos)
    → StmtNamed (stmt.Case pos selector is first rest end end_case semicolon)
    ≡ (WhenNamed first × Each WhenNamed rest)
unfolding StmtNamed WhenBoxNamed hidden-the_row-When-2 shape-the_row-When-2 hidden
stmt-Case-named pos selector is first rest end end_case semicolon = ap (λ P. WhenNamed first × P) (when-named rest)

-- stmt = "loop" stmts "end" "loop" ";"
pub stmt-Loop-named : (pos : Pos) (body : Stmts) (end : Pos) (end_loop : Pos) (semicolon : Pos)
    → StmtNamed (stmt.Loop pos body end end_loop semicolon)
    ≡ StmtsNamed body
unfolding StmtNamed StmtsBoxNamed hidden-the_row-Stmts-0 shape-the_row-Stmts-0 hidden
stmt-Loop-named pos body end end_loop semicolon = refl

-- stmt = "while" expr "loop" stmts "end" "loop" ";"
pub stmt-While-named : (pos : Pos) (condition : Expr) (loop_word : Pos) (body : Stmts) (end : Pos) (end_loop : Pos)
    (semicolon : Pos)
    → StmtNamed (stmt.While pos condition loop_word body end end_loop semicolon)
    ≡ StmtsNamed body
unfolding StmtNamed StmtsBoxNamed hidden-the_row-Stmts-0 shape-the_row-Stmts-0 hidden
stmt-While-named pos condition loop_word body end end_loop semicolon = refl

-- stmt = "for" id "in" ["reverse"] range "loop" stmts "end" "loop" ";"
pub stmt-For-named : (pos : Pos) (parameter : Identifier) (in_word : Pos) (reverse : Option Pos) (over : Range)
    (loop_word : Pos) (body : Stmts) (end : Pos) (end_loop : Pos) (semicolon : Pos)
    → StmtNamed (stmt.For pos parameter in_word reverse over loop_word body end end_loop semicolon)
    ≡ StmtsNamed body
unfolding StmtNamed StmtsBoxNamed hidden-the_row-Stmts-0 shape-the_row-Stmts-0 hidden
stmt-For-named pos parameter in_word reverse over loop_word body end end_loop semicolon = refl

-- stmt = "begin" stmts "end" ";"
pub stmt-Block-named : (pos : Pos) (body : Stmts) (end : Pos) (semicolon : Pos)
    → StmtNamed (stmt.Block pos body end semicolon)
    ≡ StmtsNamed body
unfolding StmtNamed StmtsBoxNamed hidden-the_row-Stmts-0 shape-the_row-Stmts-0 hidden
stmt-Block-named pos body end semicolon = refl

-- stmt = "declare" {item} "begin" stmts "end" ";"
pub stmt-DeclareBlock-named : (pos : Pos) (items : List Item) (begin : Pos) (body : Stmts) (end : Pos) (semicolon : Pos)
    → StmtNamed (stmt.DeclareBlock pos items begin body end semicolon)
    ≡ (Each ItemNamed items × StmtsNamed body)
unfolding StmtNamed StmtsBoxNamed hidden-the_row-Stmts-0 shape-the_row-Stmts-0 hidden
stmt-DeclareBlock-named pos items begin body end semicolon = refl

pub branch-Branch-named : (pos : Pos) (condition : Expr) (then : Pos) (body : Stmts)
    → ElsifNamed (branch.Branch pos condition then body)
    ≡ StmtsNamed body
unfolding ElsifNamed StmtsBoxNamed hidden-the_row-Stmts-0 shape-the_row-Stmts-0 hidden
branch-Branch-named pos condition then body = refl

pub alternative-Alternative-named : (pos : Pos) (first : Choice) (rest : List NextChoice) (arrow : Pos) (body : Stmts)
    → WhenNamed (alternative.Alternative pos first rest arrow body)
    ≡ StmtsNamed body
unfolding WhenNamed StmtsBoxNamed hidden-the_row-Stmts-0 shape-the_row-Stmts-0 hidden
alternative-Alternative-named pos first rest arrow body = refl
