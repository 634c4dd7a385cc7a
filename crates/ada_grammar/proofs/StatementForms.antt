-- Each statement is of one of the forms of the grammar.
use Rattle.std.proofs.Common.{sym, subst, List}
use Rattle.std.specs.Prelude.{Option}
use Rattle.spark_base.specs.declared.position.Pos.{Pos}
use Rattle.ada_tree.specs.declared.identifier.Identifier.{Identifier}
use Rattle.ada_tree.specs.declared.expression.Expr.{Expr}
use Rattle.ada_tree.specs.declared.expression.Name.{Name}
use Rattle.ada_tree.specs.declared.range.Range.{Range}
use Rattle.ada_tree.specs.declared.range.Choice.{Choice}
use Rattle.ada_tree.specs.declared.range.NextChoice.{NextChoice}
use Rattle.ada_tree.specs.declared.declaration.Item.{Item}
use Rattle.ada_tree.specs.declared.statement.Elsif.{Elsif, roll-Elsif, out-Elsif, roll-out-Elsif}
use Rattle.ada_tree.specs.declared.statement.Elsif.TheVariants as of_elsif
use Rattle.ada_tree.specs.declared.statement.Stmt.{Stmt, roll-Stmt, out-Stmt, roll-out-Stmt}
use Rattle.ada_tree.specs.declared.statement.Stmt.TheVariants as of_stmt
use Rattle.ada_tree.specs.declared.statement.Stmts.{Stmts, roll-Stmts, out-Stmts, roll-out-Stmts}
use Rattle.ada_tree.specs.declared.statement.Stmts.TheVariants as of_stmts
use Rattle.ada_tree.specs.declared.statement.When.{When, roll-When, out-When, roll-out-When}
use Rattle.ada_tree.specs.declared.statement.When.TheVariants as of_when
use Rattle.ada_tree.specs.declared.statement.Elsif.TheOpen as layer

-- ---- Elsif

elsif_layer : (P : Elsif → Type 0)
    → ((pos : Pos) (condition : Expr) (then : Pos) (stmts : Stmts) → P (of_elsif.Branch pos condition then stmts))
    → (l : layer.Elsif-F Elsif Stmt Stmts When) → P (roll-Elsif l)
elsif_layer P on_branch (layer.Branch pos condition then stmts) = subst P (sym (of_elsif.rolls-Branch pos condition then stmts))
    (on_branch pos condition then stmts)

-- What holds of each form holds of each tree.
pub elsif_form : (P : Elsif → Type 0)
    → ((pos : Pos) (condition : Expr) (then : Pos) (stmts : Stmts) → P (of_elsif.Branch pos condition then stmts))
    → (tree : Elsif) → P tree
elsif_form P on_branch tree = subst P (roll-out-Elsif tree) (elsif_layer P on_branch (out-Elsif tree))

-- ---- Stmt

stmt_layer : (P : Stmt → Type 0)
    → ((pos : Pos) (semicolon : Pos) → P (of_stmt.Null pos semicolon))
    → ((pos : Pos) (target : Name) (becomes : Pos) (value : Expr) (semicolon : Pos)
    → P (of_stmt.Assign pos target becomes value semicolon))
    → ((pos : Pos) (name : Name) (semicolon : Pos) → P (of_stmt.Call pos name semicolon))
    → ((pos : Pos) (semicolon : Pos) → P (of_stmt.Exit pos semicolon))
    → ((pos : Pos) (when : Pos) (condition : Expr) (semicolon : Pos) → P (of_stmt.ExitWhen pos when condition semicolon))
    → ((pos : Pos) (semicolon : Pos) → P (of_stmt.Return pos semicolon))
    → ((pos : Pos) (value : Expr) (semicolon : Pos) → P (of_stmt.ReturnValue pos value semicolon))
    → ((pos : Pos) (condition : Expr) (then : Pos) (stmts : Stmts) (elsifs : List Elsif) (end : Pos) (end_if : Pos)
    (semicolon : Pos) → P (of_stmt.If pos condition then stmts elsifs end end_if semicolon))
    → ((pos : Pos) (condition : Expr) (then : Pos) (stmts : Stmts) (elsifs : List Elsif) (otherwise : Pos)
    (otherwise_stmts : Stmts) (end : Pos) (end_if : Pos) (semicolon : Pos)
    → P (of_stmt.IfElse pos condition then stmts elsifs otherwise otherwise_stmts end end_if semicolon))
    → ((pos : Pos) (selector : Expr) (is : Pos) (first : When) (rest : List When) (end : Pos) (end_case : Pos)
    (semicolon : Pos) → P (of_stmt.Case pos selector is first rest end end_case semicolon))
    → ((pos : Pos) (stmts : Stmts) (end : Pos) (end_loop : Pos) (semicolon : Pos)
    → P (of_stmt.Loop pos stmts end end_loop semicolon))
    → ((pos : Pos) (condition : Expr) (loop_word : Pos) (stmts : Stmts) (end : Pos) (end_loop : Pos) (semicolon : Pos)
    → P (of_stmt.While pos condition loop_word stmts end end_loop semicolon))
    → ((pos : Pos) (parameter : Identifier) (in_word : Pos) (reverse : Option Pos) (range : Range) (loop_word : Pos)
    (stmts : Stmts) (end : Pos) (end_loop : Pos) (semicolon : Pos)
    → P (of_stmt.For pos parameter in_word reverse range loop_word stmts end end_loop semicolon))
    → ((pos : Pos) (stmts : Stmts) (end : Pos) (semicolon : Pos) → P (of_stmt.Block pos stmts end semicolon))
    → ((pos : Pos) (items : List Item) (begin : Pos) (stmts : Stmts) (end : Pos) (semicolon : Pos)
    → P (of_stmt.DeclareBlock pos items begin stmts end semicolon))
    → (l : layer.Stmt-F Elsif Stmt Stmts When) → P (roll-Stmt l)
stmt_layer P on_null on_assign on_call on_exit on_exit_when on_return on_return_value on_if on_if_else on_case on_loop on_while
    on_for on_block on_declare_block (layer.Null pos semicolon) = subst P (sym (of_stmt.rolls-Null pos semicolon))
    (on_null pos semicolon)
stmt_layer P on_null on_assign on_call on_exit on_exit_when on_return on_return_value on_if on_if_else on_case on_loop on_while
    on_for on_block on_declare_block (layer.Assign pos target becomes value semicolon) = subst P (sym
    (of_stmt.rolls-Assign pos target becomes value semicolon)) (on_assign pos target becomes value semicolon)
stmt_layer P on_null on_assign on_call on_exit on_exit_when on_return on_return_value on_if on_if_else on_case on_loop on_while
    on_for on_block on_declare_block (layer.Call pos name semicolon) = subst P (sym (of_stmt.rolls-Call pos name semicolon))
    (on_call pos name semicolon)
stmt_layer P on_null on_assign on_call on_exit on_exit_when on_return on_return_value on_if on_if_else on_case on_loop on_while
    on_for on_block on_declare_block (layer.Exit pos semicolon) = subst P (sym (of_stmt.rolls-Exit pos semicolon))
    (on_exit pos semicolon)
stmt_layer P on_null on_assign on_call on_exit on_exit_when on_return on_return_value on_if on_if_else on_case on_loop on_while
    on_for on_block on_declare_block (layer.ExitWhen pos when condition semicolon) = subst P (sym
    (of_stmt.rolls-ExitWhen pos when condition semicolon)) (on_exit_when pos when condition semicolon)
stmt_layer P on_null on_assign on_call on_exit on_exit_when on_return on_return_value on_if on_if_else on_case on_loop on_while
    on_for on_block on_declare_block (layer.Return pos semicolon) = subst P (sym (of_stmt.rolls-Return pos semicolon))
    (on_return pos semicolon)
stmt_layer P on_null on_assign on_call on_exit on_exit_when on_return on_return_value on_if on_if_else on_case on_loop on_while
    on_for on_block on_declare_block (layer.ReturnValue pos value semicolon) = subst P (sym
    (of_stmt.rolls-ReturnValue pos value semicolon)) (on_return_value pos value semicolon)
stmt_layer P on_null on_assign on_call on_exit on_exit_when on_return on_return_value on_if on_if_else on_case on_loop on_while
    on_for on_block on_declare_block (layer.If pos condition then stmts elsifs end end_if semicolon) = subst P (sym
    (of_stmt.rolls-If pos condition then stmts elsifs end end_if semicolon))
    (on_if pos condition then stmts elsifs end end_if semicolon)
stmt_layer P on_null on_assign on_call on_exit on_exit_when on_return on_return_value on_if on_if_else on_case on_loop on_while
    on_for on_block on_declare_block
    (layer.IfElse pos condition then stmts elsifs otherwise otherwise_stmts end end_if semicolon) = subst P (sym
    (of_stmt.rolls-IfElse pos condition then stmts elsifs otherwise otherwise_stmts end end_if semicolon))
    (on_if_else pos condition then stmts elsifs otherwise otherwise_stmts end end_if semicolon)
stmt_layer P on_null on_assign on_call on_exit on_exit_when on_return on_return_value on_if on_if_else on_case on_loop on_while
    on_for on_block on_declare_block (layer.Case pos selector is first rest end end_case semicolon) = subst P (sym
    (of_stmt.rolls-Case pos selector is first rest end end_case semicolon))
    (on_case pos selector is first rest end end_case semicolon)
stmt_layer P on_null on_assign on_call on_exit on_exit_when on_return on_return_value on_if on_if_else on_case on_loop on_while
    on_for on_block on_declare_block (layer.Loop pos stmts end end_loop semicolon) = subst P (sym
    (of_stmt.rolls-Loop pos stmts end end_loop semicolon)) (on_loop pos stmts end end_loop semicolon)
stmt_layer P on_null on_assign on_call on_exit on_exit_when on_return on_return_value on_if on_if_else on_case on_loop on_while
    on_for on_block on_declare_block (layer.While pos condition loop_word stmts end end_loop semicolon) = subst P (sym
    (of_stmt.rolls-While pos condition loop_word stmts end end_loop semicolon))
    (on_while pos condition loop_word stmts end end_loop semicolon)
stmt_layer P on_null on_assign on_call on_exit on_exit_when on_return on_return_value on_if on_if_else on_case on_loop on_while
    on_for on_block on_declare_block
    (layer.For pos parameter in_word reverse range loop_word stmts end end_loop semicolon) = subst P (sym
    (of_stmt.rolls-For pos parameter in_word reverse range loop_word stmts end end_loop semicolon))
    (on_for pos parameter in_word reverse range loop_word stmts end end_loop semicolon)
stmt_layer P on_null on_assign on_call on_exit on_exit_when on_return on_return_value on_if on_if_else on_case on_loop on_while
    on_for on_block on_declare_block (layer.Block pos stmts end semicolon) = subst P (sym
    (of_stmt.rolls-Block pos stmts end semicolon)) (on_block pos stmts end semicolon)
stmt_layer P on_null on_assign on_call on_exit on_exit_when on_return on_return_value on_if on_if_else on_case on_loop on_while
    on_for on_block on_declare_block (layer.DeclareBlock pos items begin stmts end semicolon) = subst P (sym
    (of_stmt.rolls-DeclareBlock pos items begin stmts end semicolon)) (on_declare_block pos items begin stmts end semicolon)

-- What holds of each form holds of each tree.
pub stmt_form : (P : Stmt → Type 0)
    → ((pos : Pos) (semicolon : Pos) → P (of_stmt.Null pos semicolon))
    → ((pos : Pos) (target : Name) (becomes : Pos) (value : Expr) (semicolon : Pos)
    → P (of_stmt.Assign pos target becomes value semicolon))
    → ((pos : Pos) (name : Name) (semicolon : Pos) → P (of_stmt.Call pos name semicolon))
    → ((pos : Pos) (semicolon : Pos) → P (of_stmt.Exit pos semicolon))
    → ((pos : Pos) (when : Pos) (condition : Expr) (semicolon : Pos) → P (of_stmt.ExitWhen pos when condition semicolon))
    → ((pos : Pos) (semicolon : Pos) → P (of_stmt.Return pos semicolon))
    → ((pos : Pos) (value : Expr) (semicolon : Pos) → P (of_stmt.ReturnValue pos value semicolon))
    → ((pos : Pos) (condition : Expr) (then : Pos) (stmts : Stmts) (elsifs : List Elsif) (end : Pos) (end_if : Pos)
    (semicolon : Pos) → P (of_stmt.If pos condition then stmts elsifs end end_if semicolon))
    → ((pos : Pos) (condition : Expr) (then : Pos) (stmts : Stmts) (elsifs : List Elsif) (otherwise : Pos)
    (otherwise_stmts : Stmts) (end : Pos) (end_if : Pos) (semicolon : Pos)
    → P (of_stmt.IfElse pos condition then stmts elsifs otherwise otherwise_stmts end end_if semicolon))
    → ((pos : Pos) (selector : Expr) (is : Pos) (first : When) (rest : List When) (end : Pos) (end_case : Pos)
    (semicolon : Pos) → P (of_stmt.Case pos selector is first rest end end_case semicolon))
    → ((pos : Pos) (stmts : Stmts) (end : Pos) (end_loop : Pos) (semicolon : Pos)
    → P (of_stmt.Loop pos stmts end end_loop semicolon))
    → ((pos : Pos) (condition : Expr) (loop_word : Pos) (stmts : Stmts) (end : Pos) (end_loop : Pos) (semicolon : Pos)
    → P (of_stmt.While pos condition loop_word stmts end end_loop semicolon))
    → ((pos : Pos) (parameter : Identifier) (in_word : Pos) (reverse : Option Pos) (range : Range) (loop_word : Pos)
    (stmts : Stmts) (end : Pos) (end_loop : Pos) (semicolon : Pos)
    → P (of_stmt.For pos parameter in_word reverse range loop_word stmts end end_loop semicolon))
    → ((pos : Pos) (stmts : Stmts) (end : Pos) (semicolon : Pos) → P (of_stmt.Block pos stmts end semicolon))
    → ((pos : Pos) (items : List Item) (begin : Pos) (stmts : Stmts) (end : Pos) (semicolon : Pos)
    → P (of_stmt.DeclareBlock pos items begin stmts end semicolon))
    → (tree : Stmt) → P tree
stmt_form P on_null on_assign on_call on_exit on_exit_when on_return on_return_value on_if on_if_else on_case on_loop on_while
    on_for on_block on_declare_block tree = subst P (roll-out-Stmt tree)
    (stmt_layer P on_null on_assign on_call on_exit on_exit_when on_return on_return_value on_if on_if_else on_case on_loop
    on_while on_for on_block on_declare_block (out-Stmt tree))

-- ---- Stmts

stmts_layer : (P : Stmts → Type 0)
    → ((pos : Pos) (first : Stmt) (rest : List Stmt) → P (of_stmts.Sequence pos first rest))
    → (l : layer.Stmts-F Elsif Stmt Stmts When) → P (roll-Stmts l)
stmts_layer P on_sequence (layer.Sequence pos first rest) = subst P (sym (of_stmts.rolls-Sequence pos first rest))
    (on_sequence pos first rest)

-- What holds of each form holds of each tree.
pub stmts_form : (P : Stmts → Type 0)
    → ((pos : Pos) (first : Stmt) (rest : List Stmt) → P (of_stmts.Sequence pos first rest))
    → (tree : Stmts) → P tree
stmts_form P on_sequence tree = subst P (roll-out-Stmts tree) (stmts_layer P on_sequence (out-Stmts tree))

-- ---- When

when_layer : (P : When → Type 0)
    → ((pos : Pos) (first : Choice) (rest : List NextChoice) (arrow : Pos) (stmts : Stmts)
    → P (of_when.Alternative pos first rest arrow stmts))
    → (l : layer.When-F Elsif Stmt Stmts When) → P (roll-When l)
when_layer P on_alternative (layer.Alternative pos first rest arrow stmts) = subst P (sym
    (of_when.rolls-Alternative pos first rest arrow stmts)) (on_alternative pos first rest arrow stmts)

-- What holds of each form holds of each tree.
pub when_form : (P : When → Type 0)
    → ((pos : Pos) (first : Choice) (rest : List NextChoice) (arrow : Pos) (stmts : Stmts)
    → P (of_when.Alternative pos first rest arrow stmts))
    → (tree : When) → P tree
when_form P on_alternative tree = subst P (roll-out-When tree) (when_layer P on_alternative (out-When tree))
