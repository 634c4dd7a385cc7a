-- What each alternative of statements stands for, with boxes as what they hold and lists as lists.
use Rattle.std.proofs.Common.{◌≡◌, refl, ap, ◌∙◌, List, ◌∷◌, map, Option, is_some}
use denote.Hole.Carrier.{hidden}
use Rattle.spark_base.specs.declared.position.Pos.{Pos}
use Rattle.ada_tree.specs.declared.identifier.Identifier.{Identifier}
use Rattle.ada_tree.specs.declared.expression.Expr.{Expr}
use Rattle.ada_tree.specs.declared.expression.Name.{Name}
use Rattle.ada_tree.specs.declared.range.Range.{Range}
use Rattle.ada_tree.specs.declared.range.Choice.{Choice}
use Rattle.ada_tree.specs.declared.range.NextChoice.{NextChoice}
use Rattle.ada_tree.specs.declared.declaration.Item.{Item}
use Rattle.ada_tree.specs.declared.statement.Stmts.{Stmts, Row_of-Stmt, end_of-Stmt, more_of-Stmt, items-the_row-Stmt, items_hidden-the_row-Stmt-5}
use Rattle.ada_tree.specs.declared.statement.Stmts.TheVariants as stmts
use Rattle.ada_tree.specs.declared.statement.Stmt.{Stmt, Row_of-Elsif, end_of-Elsif, more_of-Elsif, items-the_row-Elsif, items_hidden-the_row-Elsif-1, Row_of-When, end_of-When, more_of-When, items-the_row-When, items_hidden-the_row-When-3}
use Rattle.ada_tree.specs.declared.statement.Stmt.TheVariants as stmt
use Rattle.ada_tree.specs.declared.statement.Elsif.{Elsif}
use Rattle.ada_tree.specs.declared.statement.Elsif.TheVariants as branch
use Rattle.ada_tree.specs.declared.statement.When.{When}
use Rattle.ada_tree.specs.declared.statement.When.TheVariants as alternative
use Rattle.ada_tree.specs.declared.statement.Elsif.TheBlock.{shape-the_row-Stmts-0, hidden-the_row-Stmts-0, hidden-the_row-Elsif-1, shape-the_row-When-2, hidden-the_row-When-2, hidden-the_row-When-3, shape-the_row-Stmt-4, hidden-the_row-Stmt-4, hidden-the_row-Stmt-5}
use Rattle.resolved_tree.specs.Trees.{Code, code_list}
use Rattle.resolved_tree.specs.Trees as t
use Rattle.expression_lowering.specs.LoweredExpressions.{Numbers, lowered_choices, lowered_expr, lowered_range}
use Rattle.tree_lowering.specs.Lowered.{declared, lowered_items, lowered_simple, lowered_stmts, lowered_stmts_box, lowered_stmt_box, stmts_row, lowered_stmt, elsifs_row, lowered_elsif, lowered_when_box, whens_row, lowered_when}

stmts_row_items : {n : _} (numbers : Numbers) (row : Row_of-Stmt n) → stmts_row numbers row ≡ map (lowered_stmt numbers) (items-the_row-Stmt n row)
unfolding stmts_row
stmts_row_items numbers end_of-Stmt = refl
stmts_row_items numbers (more_of-Stmt part rest) = ap (λ cs. lowered_stmt numbers part ∷ cs) (stmts_row_items numbers rest)

stmts_row_listed : (numbers : Numbers) (parts : List Stmt) → stmts_row numbers (hidden-the_row-Stmt-5 parts) ≡ map (lowered_stmt numbers) parts
stmts_row_listed numbers parts = stmts_row_items numbers (hidden-the_row-Stmt-5 parts) ∙ ap (map (lowered_stmt numbers)) (items_hidden-the_row-Stmt-5 parts)

elsifs_row_items : {n : _} (numbers : Numbers) (row : Row_of-Elsif n) → elsifs_row numbers row ≡ map (lowered_elsif numbers) (items-the_row-Elsif n row)
unfolding elsifs_row
elsifs_row_items numbers end_of-Elsif = refl
elsifs_row_items numbers (more_of-Elsif part rest) = ap (λ cs. lowered_elsif numbers part ∷ cs) (elsifs_row_items numbers rest)

elsifs_row_listed : (numbers : Numbers) (parts : List Elsif) → elsifs_row numbers (hidden-the_row-Elsif-1 parts) ≡ map (lowered_elsif numbers) parts
elsifs_row_listed numbers parts = elsifs_row_items numbers (hidden-the_row-Elsif-1 parts) ∙ ap (map (lowered_elsif numbers)) (items_hidden-the_row-Elsif-1 parts)

whens_row_items : {n : _} (numbers : Numbers) (row : Row_of-When n) → whens_row numbers row ≡ map (lowered_when numbers) (items-the_row-When n row)
unfolding whens_row
whens_row_items numbers end_of-When = refl
whens_row_items numbers (more_of-When part rest) = ap (λ cs. lowered_when numbers part ∷ cs) (whens_row_items numbers rest)

whens_row_listed : (numbers : Numbers) (parts : List When) → whens_row numbers (hidden-the_row-When-3 parts) ≡ map (lowered_when numbers) parts
whens_row_listed numbers parts = whens_row_items numbers (hidden-the_row-When-3 parts) ∙ ap (map (lowered_when numbers)) (items_hidden-the_row-When-3 parts)

pub stmts-Sequence : (numbers : Numbers) (pos : Pos) (first : Stmt) (rest : List Stmt) → lowered_stmts numbers (stmts.Sequence pos first rest) ≡ t.More (lowered_stmt numbers first) (code_list (map (lowered_stmt numbers) rest))
unfolding lowered_stmts lowered_stmt_box hidden-the_row-Stmt-4 shape-the_row-Stmt-4 hidden
stmts-Sequence numbers pos first rest = ap (λ cs. t.More (lowered_stmt numbers first) (code_list cs)) (stmts_row_listed numbers rest)

pub stmt-Null : (numbers : Numbers) (pos : Pos) (semicolon : Pos) → lowered_stmt numbers (stmt.Null pos semicolon) ≡ lowered_simple numbers (stmt.Null pos semicolon)
unfolding lowered_stmt
stmt-Null numbers pos semicolon = refl

pub stmt-Assign : (numbers : Numbers) (pos : Pos) (target : Name) (becomes : Pos) (value : Expr) (semicolon : Pos) → lowered_stmt numbers (stmt.Assign pos target becomes value semicolon) ≡ lowered_simple numbers (stmt.Assign pos target becomes value semicolon)
unfolding lowered_stmt
stmt-Assign numbers pos target becomes value semicolon = refl

pub stmt-Call : (numbers : Numbers) (pos : Pos) (callee : Name) (semicolon : Pos) → lowered_stmt numbers (stmt.Call pos callee semicolon) ≡ lowered_simple numbers (stmt.Call pos callee semicolon)
unfolding lowered_stmt
stmt-Call numbers pos callee semicolon = refl

pub stmt-Exit : (numbers : Numbers) (pos : Pos) (semicolon : Pos) → lowered_stmt numbers (stmt.Exit pos semicolon) ≡ lowered_simple numbers (stmt.Exit pos semicolon)
unfolding lowered_stmt
stmt-Exit numbers pos semicolon = refl

pub stmt-ExitWhen : (numbers : Numbers) (pos : Pos) (when : Pos) (condition : Expr) (semicolon : Pos) → lowered_stmt numbers (stmt.ExitWhen pos when condition semicolon) ≡ lowered_simple numbers (stmt.ExitWhen pos when condition semicolon)
unfolding lowered_stmt
stmt-ExitWhen numbers pos when condition semicolon = refl

pub stmt-Return : (numbers : Numbers) (pos : Pos) (semicolon : Pos) → lowered_stmt numbers (stmt.Return pos semicolon) ≡ lowered_simple numbers (stmt.Return pos semicolon)
unfolding lowered_stmt
stmt-Return numbers pos semicolon = refl

pub stmt-ReturnValue : (numbers : Numbers) (pos : Pos) (value : Expr) (semicolon : Pos) → lowered_stmt numbers (stmt.ReturnValue pos value semicolon) ≡ lowered_simple numbers (stmt.ReturnValue pos value semicolon)
unfolding lowered_stmt
stmt-ReturnValue numbers pos value semicolon = refl

pub stmt-If : (numbers : Numbers) (pos : Pos) (condition : Expr) (then_word : Pos) (body : Stmts) (elsifs : List Elsif) (end : Pos) (end_if : Pos) (semicolon : Pos) → lowered_stmt numbers (stmt.If pos condition then_word body elsifs end end_if semicolon) ≡ t.If pos (t.More (t.Branch pos (lowered_expr numbers condition) (lowered_stmts numbers body)) (code_list (map (lowered_elsif numbers) elsifs))) t.NoMore
unfolding lowered_stmt lowered_stmts_box hidden-the_row-Stmts-0 shape-the_row-Stmts-0 hidden
stmt-If numbers pos condition then_word body elsifs end end_if semicolon = ap (λ cs. t.If pos (t.More (t.Branch pos (lowered_expr numbers condition) (lowered_stmts numbers body)) (code_list cs)) t.NoMore) (elsifs_row_listed numbers elsifs)

pub stmt-IfElse : (numbers : Numbers) (pos : Pos) (condition : Expr) (then_word : Pos) (body : Stmts) (elsifs : List Elsif) (otherwise : Pos) (other : Stmts) (end : Pos) (end_if : Pos) (semicolon : Pos) → lowered_stmt numbers (stmt.IfElse pos condition then_word body elsifs otherwise other end end_if semicolon) ≡ t.If pos (t.More (t.Branch pos (lowered_expr numbers condition) (lowered_stmts numbers body)) (code_list (map (lowered_elsif numbers) elsifs))) (lowered_stmts numbers other)
unfolding lowered_stmt lowered_stmts_box hidden-the_row-Stmts-0 shape-the_row-Stmts-0 hidden
stmt-IfElse numbers pos condition then_word body elsifs otherwise other end end_if semicolon = ap (λ cs. t.If pos (t.More (t.Branch pos (lowered_expr numbers condition) (lowered_stmts numbers body)) (code_list cs)) (lowered_stmts numbers other)) (elsifs_row_listed numbers elsifs)

pub stmt-Case : (numbers : Numbers) (pos : Pos) (selecting : Expr) (is : Pos) (first : When) (rest : List When) (end : Pos) (end_case : Pos) (semicolon : Pos) → lowered_stmt numbers (stmt.Case pos selecting is first rest end end_case semicolon) ≡ t.Case pos (lowered_expr numbers selecting) (t.More (lowered_when numbers first) (code_list (map (lowered_when numbers) rest)))
unfolding lowered_stmt lowered_when_box hidden-the_row-When-2 shape-the_row-When-2 hidden
stmt-Case numbers pos selecting is first rest end end_case semicolon = ap (λ cs. t.Case pos (lowered_expr numbers selecting) (t.More (lowered_when numbers first) (code_list cs))) (whens_row_listed numbers rest)

pub stmt-Loop : (numbers : Numbers) (pos : Pos) (body : Stmts) (end : Pos) (end_loop : Pos) (semicolon : Pos) → lowered_stmt numbers (stmt.Loop pos body end end_loop semicolon) ≡ t.Loop pos (lowered_stmts numbers body)
unfolding lowered_stmt lowered_stmts_box hidden-the_row-Stmts-0 shape-the_row-Stmts-0 hidden
stmt-Loop numbers pos body end end_loop semicolon = refl

pub stmt-While : (numbers : Numbers) (pos : Pos) (condition : Expr) (loop_word : Pos) (body : Stmts) (end : Pos) (end_loop : Pos) (semicolon : Pos) → lowered_stmt numbers (stmt.While pos condition loop_word body end end_loop semicolon) ≡ t.While pos (lowered_expr numbers condition) (lowered_stmts numbers body)
unfolding lowered_stmt lowered_stmts_box hidden-the_row-Stmts-0 shape-the_row-Stmts-0 hidden
stmt-While numbers pos condition loop_word body end end_loop semicolon = refl

pub stmt-For : (numbers : Numbers) (pos : Pos) (parameter : Identifier) (in_word : Pos) (reverse : Option Pos) (steps : Range) (loop_word : Pos) (body : Stmts) (end : Pos) (end_loop : Pos) (semicolon : Pos) → lowered_stmt numbers (stmt.For pos parameter in_word reverse steps loop_word body end end_loop semicolon) ≡ t.For pos (declared numbers parameter) (is_some reverse) (lowered_range numbers steps) (lowered_stmts numbers body)
unfolding lowered_stmt lowered_stmts_box hidden-the_row-Stmts-0 shape-the_row-Stmts-0 hidden
stmt-For numbers pos parameter in_word reverse steps loop_word body end end_loop semicolon = refl

pub stmt-Block : (numbers : Numbers) (pos : Pos) (body : Stmts) (end : Pos) (semicolon : Pos) → lowered_stmt numbers (stmt.Block pos body end semicolon) ≡ t.Block pos t.NoMore (lowered_stmts numbers body) end
unfolding lowered_stmt lowered_stmts_box hidden-the_row-Stmts-0 shape-the_row-Stmts-0 hidden
stmt-Block numbers pos body end semicolon = refl

pub stmt-DeclareBlock : (numbers : Numbers) (pos : Pos) (items : List Item) (begin : Pos) (body : Stmts) (end : Pos) (semicolon : Pos) → lowered_stmt numbers (stmt.DeclareBlock pos items begin body end semicolon) ≡ t.Block pos (lowered_items numbers items) (lowered_stmts numbers body) end
unfolding lowered_stmt lowered_stmts_box hidden-the_row-Stmts-0 shape-the_row-Stmts-0 hidden
stmt-DeclareBlock numbers pos items begin body end semicolon = refl

pub branch-Branch : (numbers : Numbers) (pos : Pos) (condition : Expr) (then_word : Pos) (body : Stmts) → lowered_elsif numbers (branch.Branch pos condition then_word body) ≡ t.Branch pos (lowered_expr numbers condition) (lowered_stmts numbers body)
unfolding lowered_elsif lowered_stmts_box hidden-the_row-Stmts-0 shape-the_row-Stmts-0 hidden
branch-Branch numbers pos condition then_word body = refl

pub alternative-Alternative : (numbers : Numbers) (pos : Pos) (first : Choice) (rest : List NextChoice) (arrow : Pos) (body : Stmts) → lowered_when numbers (alternative.Alternative pos first rest arrow body) ≡ t.When (lowered_choices numbers first rest) (lowered_stmts numbers body)
unfolding lowered_when lowered_stmts_box hidden-the_row-Stmts-0 shape-the_row-Stmts-0 hidden
alternative-Alternative numbers pos first rest arrow body = refl

pub ruleset statement_levels = (stmts-Sequence, stmt-Null, stmt-Assign, stmt-Call, stmt-Exit, stmt-ExitWhen, stmt-Return, stmt-ReturnValue, stmt-If, stmt-IfElse, stmt-Case, stmt-Loop, stmt-While, stmt-For, stmt-Block, stmt-DeclareBlock, branch-Branch, alternative-Alternative)
