-- What each alternative of statements does with names, with boxes as what they hold and lists as
-- lists.
use Rattle.std.proofs.Common.{◌≡◌, refl, ap, ◌∙◌, List, [], ◌∷◌, ◌++◌, Option}
use denote.Hole.Carrier.{hidden}
use Rattle.std.specs.List.{flat_map}
use Rattle.spark_base.specs.declared.position.Pos.{Pos}
use Rattle.ada_tree.specs.declared.identifier.Identifier.{Identifier}
use Rattle.ada_tree.specs.declared.expression.Expr.{Expr}
use Rattle.ada_tree.specs.declared.expression.Name.{Name}
use Rattle.ada_tree.specs.declared.range.Range.{Range}
use Rattle.ada_tree.specs.declared.range.Choice.{Choice}
use Rattle.ada_tree.specs.declared.range.NextChoice.{NextChoice}
use Rattle.ada_tree.specs.declared.declaration.Item.{Item}
use Rattle.ada_tree.specs.declared.statement.Stmts.{Stmts, Row_of-Stmt, end_of-Stmt, more_of-Stmt, items-the_row-Stmt, items_hidden-the_row-Stmt-5}
use Rattle.ada_tree.specs.declared.statement.Stmts.TheVariants as stmts
use Rattle.ada_tree.specs.declared.statement.Stmt.{Stmt, Row_of-Elsif, end_of-Elsif, more_of-Elsif, items-the_row-Elsif, items_hidden-the_row-Elsif-1, Row_of-When, end_of-When, more_of-When, items-the_row-When, items_hidden-the_row-When-3}
use Rattle.ada_tree.specs.declared.statement.Stmt.TheVariants as stmt
use Rattle.ada_tree.specs.declared.statement.Elsif.{Elsif}
use Rattle.ada_tree.specs.declared.statement.Elsif.TheVariants as branch
use Rattle.ada_tree.specs.declared.statement.When.{When}
use Rattle.ada_tree.specs.declared.statement.When.TheVariants as alternative
use Rattle.ada_tree.specs.declared.statement.Elsif.TheBlock.{shape-the_row-Stmts-0, hidden-the_row-Stmts-0, hidden-the_row-Elsif-1, shape-the_row-When-2, hidden-the_row-When-2, hidden-the_row-When-3, shape-the_row-Stmt-4, hidden-the_row-Stmt-4, hidden-the_row-Stmt-5}
use Rattle.name_events.specs.declared.event.Event.TheVariants as e
use Rattle.name_events.specs.ExpressionOutline.{expr_events, choice_events, next_choice_events}
use Rattle.name_events.specs.Outline.{block_events, parameter_events, simple_events, stmts_events, stmts_box_events, stmt_box_events, stmt_list_events, stmt_events, elsifs_events, elsif_events, when_box_events, whens_events, when_events}

stmt_list_row : {n : _} (row : Row_of-Stmt n) → stmt_list_events row ≡ flat_map stmt_events (items-the_row-Stmt n row)
unfolding stmt_list_events
stmt_list_row end_of-Stmt = refl
stmt_list_row (more_of-Stmt part rest) = ap (λ es. stmt_events part ++ es) (stmt_list_row rest)

stmt_list_listed : (parts : List Stmt) → stmt_list_events (hidden-the_row-Stmt-5 parts) ≡ flat_map stmt_events parts
stmt_list_listed parts = stmt_list_row (hidden-the_row-Stmt-5 parts) ∙ ap (flat_map stmt_events) (items_hidden-the_row-Stmt-5 parts)

elsifs_row : {n : _} (row : Row_of-Elsif n) → elsifs_events row ≡ flat_map elsif_events (items-the_row-Elsif n row)
unfolding elsifs_events
elsifs_row end_of-Elsif = refl
elsifs_row (more_of-Elsif part rest) = ap (λ es. elsif_events part ++ es) (elsifs_row rest)

elsifs_listed : (parts : List Elsif) → elsifs_events (hidden-the_row-Elsif-1 parts) ≡ flat_map elsif_events parts
elsifs_listed parts = elsifs_row (hidden-the_row-Elsif-1 parts) ∙ ap (flat_map elsif_events) (items_hidden-the_row-Elsif-1 parts)

whens_row : {n : _} (row : Row_of-When n) → whens_events row ≡ flat_map when_events (items-the_row-When n row)
unfolding whens_events
whens_row end_of-When = refl
whens_row (more_of-When part rest) = ap (λ es. when_events part ++ es) (whens_row rest)

whens_listed : (parts : List When) → whens_events (hidden-the_row-When-3 parts) ≡ flat_map when_events parts
whens_listed parts = whens_row (hidden-the_row-When-3 parts) ∙ ap (flat_map when_events) (items_hidden-the_row-When-3 parts)

pub stmts-Sequence : (pos : Pos) (first : Stmt) (rest : List Stmt) → stmts_events (stmts.Sequence pos first rest) ≡ stmt_events first ++ flat_map stmt_events rest
unfolding stmts_events stmt_box_events hidden-the_row-Stmt-4 shape-the_row-Stmt-4 hidden
stmts-Sequence pos first rest = ap (λ es. stmt_events first ++ es) (stmt_list_listed rest)

pub stmt-Null : (pos : Pos) (semicolon : Pos) → stmt_events (stmt.Null pos semicolon) ≡ simple_events (stmt.Null pos semicolon)
unfolding stmt_events
stmt-Null pos semicolon = refl

pub stmt-Assign : (pos : Pos) (target : Name) (becomes : Pos) (value : Expr) (semicolon : Pos) → stmt_events (stmt.Assign pos target becomes value semicolon) ≡ simple_events (stmt.Assign pos target becomes value semicolon)
unfolding stmt_events
stmt-Assign pos target becomes value semicolon = refl

pub stmt-Call : (pos : Pos) (callee : Name) (semicolon : Pos) → stmt_events (stmt.Call pos callee semicolon) ≡ simple_events (stmt.Call pos callee semicolon)
unfolding stmt_events
stmt-Call pos callee semicolon = refl

pub stmt-Exit : (pos : Pos) (semicolon : Pos) → stmt_events (stmt.Exit pos semicolon) ≡ simple_events (stmt.Exit pos semicolon)
unfolding stmt_events
stmt-Exit pos semicolon = refl

pub stmt-ExitWhen : (pos : Pos) (when : Pos) (condition : Expr) (semicolon : Pos) → stmt_events (stmt.ExitWhen pos when condition semicolon) ≡ simple_events (stmt.ExitWhen pos when condition semicolon)
unfolding stmt_events
stmt-ExitWhen pos when condition semicolon = refl

pub stmt-Return : (pos : Pos) (semicolon : Pos) → stmt_events (stmt.Return pos semicolon) ≡ simple_events (stmt.Return pos semicolon)
unfolding stmt_events
stmt-Return pos semicolon = refl

pub stmt-ReturnValue : (pos : Pos) (value : Expr) (semicolon : Pos) → stmt_events (stmt.ReturnValue pos value semicolon) ≡ simple_events (stmt.ReturnValue pos value semicolon)
unfolding stmt_events
stmt-ReturnValue pos value semicolon = refl

pub stmt-If : (pos : Pos) (condition : Expr) (then_word : Pos) (body : Stmts) (elsifs : List Elsif) (end : Pos) (end_if : Pos) (semicolon : Pos) → stmt_events (stmt.If pos condition then_word body elsifs end end_if semicolon) ≡ expr_events condition ++ (stmts_events body ++ flat_map elsif_events elsifs)
unfolding stmt_events stmts_box_events hidden-the_row-Stmts-0 shape-the_row-Stmts-0 hidden
stmt-If pos condition then_word body elsifs end end_if semicolon = ap (λ es. expr_events condition ++ (stmts_events body ++ es)) (elsifs_listed elsifs)

pub stmt-IfElse : (pos : Pos) (condition : Expr) (then_word : Pos) (body : Stmts) (elsifs : List Elsif) (otherwise : Pos) (other : Stmts) (end : Pos) (end_if : Pos) (semicolon : Pos) → stmt_events (stmt.IfElse pos condition then_word body elsifs otherwise other end end_if semicolon) ≡ expr_events condition ++ (stmts_events body ++ (flat_map elsif_events elsifs ++ stmts_events other))
unfolding stmt_events stmts_box_events hidden-the_row-Stmts-0 shape-the_row-Stmts-0 hidden
stmt-IfElse pos condition then_word body elsifs otherwise other end end_if semicolon = ap (λ es. expr_events condition ++ (stmts_events body ++ (es ++ stmts_events other))) (elsifs_listed elsifs)

pub stmt-Case : (pos : Pos) (selecting : Expr) (is : Pos) (first : When) (rest : List When) (end : Pos) (end_case : Pos) (semicolon : Pos) → stmt_events (stmt.Case pos selecting is first rest end end_case semicolon) ≡ expr_events selecting ++ (when_events first ++ flat_map when_events rest)
unfolding stmt_events when_box_events hidden-the_row-When-2 shape-the_row-When-2 hidden
stmt-Case pos selecting is first rest end end_case semicolon = ap (λ es. expr_events selecting ++ (when_events first ++ es)) (whens_listed rest)

pub stmt-Loop : (pos : Pos) (body : Stmts) (end : Pos) (end_loop : Pos) (semicolon : Pos) → stmt_events (stmt.Loop pos body end end_loop semicolon) ≡ stmts_events body
unfolding stmt_events stmts_box_events hidden-the_row-Stmts-0 shape-the_row-Stmts-0 hidden
stmt-Loop pos body end end_loop semicolon = refl

pub stmt-While : (pos : Pos) (condition : Expr) (loop_word : Pos) (body : Stmts) (end : Pos) (end_loop : Pos) (semicolon : Pos) → stmt_events (stmt.While pos condition loop_word body end end_loop semicolon) ≡ expr_events condition ++ stmts_events body
unfolding stmt_events stmts_box_events hidden-the_row-Stmts-0 shape-the_row-Stmts-0 hidden
stmt-While pos condition loop_word body end end_loop semicolon = refl

pub stmt-For : (pos : Pos) (parameter : Identifier) (in_word : Pos) (reverse : Option Pos) (steps : Range) (loop_word : Pos) (body : Stmts) (end : Pos) (end_loop : Pos) (semicolon : Pos) → stmt_events (stmt.For pos parameter in_word reverse steps loop_word body end end_loop semicolon) ≡ parameter_events parameter steps ++ (stmts_events body ++ e.RegionCloses ∷ [])
unfolding stmt_events stmts_box_events hidden-the_row-Stmts-0 shape-the_row-Stmts-0 hidden
stmt-For pos parameter in_word reverse steps loop_word body end end_loop semicolon = refl

pub stmt-Block : (pos : Pos) (body : Stmts) (end : Pos) (semicolon : Pos) → stmt_events (stmt.Block pos body end semicolon) ≡ e.RegionOpens ∷ (stmts_events body ++ e.RegionCloses ∷ [])
unfolding stmt_events stmts_box_events hidden-the_row-Stmts-0 shape-the_row-Stmts-0 hidden
stmt-Block pos body end semicolon = refl

pub stmt-DeclareBlock : (pos : Pos) (items : List Item) (begin : Pos) (body : Stmts) (end : Pos) (semicolon : Pos) → stmt_events (stmt.DeclareBlock pos items begin body end semicolon) ≡ block_events items ++ (stmts_events body ++ e.RegionCloses ∷ [])
unfolding stmt_events stmts_box_events hidden-the_row-Stmts-0 shape-the_row-Stmts-0 hidden
stmt-DeclareBlock pos items begin body end semicolon = refl

pub branch-Branch : (pos : Pos) (condition : Expr) (then_word : Pos) (body : Stmts) → elsif_events (branch.Branch pos condition then_word body) ≡ expr_events condition ++ stmts_events body
unfolding elsif_events stmts_box_events hidden-the_row-Stmts-0 shape-the_row-Stmts-0 hidden
branch-Branch pos condition then_word body = refl

pub alternative-Alternative : (pos : Pos) (first : Choice) (rest : List NextChoice) (arrow : Pos) (body : Stmts) → when_events (alternative.Alternative pos first rest arrow body) ≡ choice_events first ++ (flat_map next_choice_events rest ++ stmts_events body)
unfolding when_events stmts_box_events hidden-the_row-Stmts-0 shape-the_row-Stmts-0 hidden
alternative-Alternative pos first rest arrow body = refl

pub ruleset statement_levels = (stmts-Sequence, stmt-Null, stmt-Assign, stmt-Call, stmt-Exit, stmt-ExitWhen, stmt-Return, stmt-ReturnValue, stmt-If, stmt-IfElse, stmt-Case, stmt-Loop, stmt-While, stmt-For, stmt-Block, stmt-DeclareBlock, branch-Branch, alternative-Alternative)
