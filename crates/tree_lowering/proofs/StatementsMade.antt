-- What statements are made of, where their parts were read through boxes.
use Rattle.std.proofs.Common.{◌≡◌, ap, sym, ◌∙◌, List, map}
use Rattle.spark_base.specs.declared.position.Pos.{Pos}
use Rattle.ada_tree.specs.declared.expression.Expr.{Expr}
use Rattle.ada_tree.specs.declared.range.Choice.{Choice}
use Rattle.ada_tree.specs.declared.range.NextChoice.{NextChoice}
use Rattle.ada_tree.specs.declared.statement.Stmts.{Stmts}
use Rattle.ada_tree.specs.declared.statement.Stmt.{Stmt}
use Rattle.ada_tree.specs.declared.statement.Stmt.TheVariants as stmt
use Rattle.ada_tree.specs.declared.statement.Elsif.{Elsif}
use Rattle.ada_tree.specs.declared.statement.When.{When}
use Rattle.ada_tree.specs.declared.statement.When.TheVariants as alternative
use Rattle.resolved_tree.specs.Trees.{Tree, Code, NoMore, More, code_list}
use Rattle.resolved_tree.specs.Trees as t
use Rattle.expression_lowering.specs.LoweredExpressions.{Numbers, lowered_choices, lowered_expr}
use Rattle.tree_lowering.specs.Lowered.{lowered_elsif, lowered_stmt, lowered_stmts, lowered_when}
use Rattle.tree_lowering.proofs.StatementLevels.{stmt-If, stmt-IfElse, stmt-Case, alternative-Alternative}

-- The branches of an `if`.
branches_of : Numbers → Pos → Expr → Stmts → List Elsif → Code
branches_of numbers pos condition body elsifs =
    More (t.Branch pos (lowered_expr numbers condition) (lowered_stmts numbers body)) (code_list (map (lowered_elsif numbers) elsifs))

same_branches : (numbers : Numbers) (pos : Pos) (condition read_condition : Expr) (body read_body : Stmts) (elsifs read : List Elsif) (branches rest : Code)
    → branches ≡ More (t.Branch pos (lowered_expr numbers read_condition) (lowered_stmts numbers read_body)) rest
    → rest ≡ code_list (map (lowered_elsif numbers) read) → read_condition ≡ condition → read_body ≡ body → read ≡ elsifs
    → branches ≡ branches_of numbers pos condition body elsifs
unfolding branches_of
same_branches numbers pos condition read_condition body read_body elsifs read branches rest is is_rest same_condition same_body same =
    is ∙ (λ j. More (t.Branch pos (lowered_expr numbers (same_condition j)) (lowered_stmts numbers (same_body j)))
    ((is_rest ∙ ap (λ es. code_list (map (lowered_elsif numbers) es)) same) j))

pub if_made : (numbers : Numbers) (tree : Stmt) (pos : Pos) (condition read_condition : Expr) (then_word : Pos) (body read_body : Stmts)
    (elsifs read : List Elsif) (end end_if semicolon : Pos) (branches otherwise rest : Code)
    → tree ≡ stmt.If pos condition then_word body elsifs end end_if semicolon
    → branches ≡ More (t.Branch pos (lowered_expr numbers read_condition) (lowered_stmts numbers read_body)) rest
    → rest ≡ code_list (map (lowered_elsif numbers) read) → otherwise ≡ NoMore
    → read_condition ≡ condition → read_body ≡ body → read ≡ elsifs
    → t.If pos branches otherwise ≡ lowered_stmt numbers tree
unfolding branches_of
if_made numbers tree pos condition read_condition then_word body read_body elsifs read end end_if semicolon branches otherwise rest
    is is_branches is_rest is_otherwise same_condition same_body same =
    let branched : branches ≡ branches_of numbers pos condition body elsifs =
    same_branches numbers pos condition read_condition body read_body elsifs read branches rest is_branches is_rest same_condition same_body same in
    let made : t.If pos branches otherwise ≡ t.If pos (branches_of numbers pos condition body elsifs) NoMore =
    λ j. t.If pos (branched j) (is_otherwise j) in
    made ∙ sym (ap (lowered_stmt numbers) is ∙ stmt-If numbers pos condition then_word body elsifs end end_if semicolon)

pub if_else_made : (numbers : Numbers) (tree : Stmt) (pos : Pos) (condition read_condition : Expr) (then_word : Pos) (body read_body : Stmts)
    (elsifs read : List Elsif) (else_word : Pos) (other read_other : Stmts) (end end_if semicolon : Pos) (branches otherwise rest : Code)
    → tree ≡ stmt.IfElse pos condition then_word body elsifs else_word other end end_if semicolon
    → branches ≡ More (t.Branch pos (lowered_expr numbers read_condition) (lowered_stmts numbers read_body)) rest
    → rest ≡ code_list (map (lowered_elsif numbers) read) → otherwise ≡ lowered_stmts numbers read_other
    → read_condition ≡ condition → read_body ≡ body → read ≡ elsifs → read_other ≡ other
    → t.If pos branches otherwise ≡ lowered_stmt numbers tree
unfolding branches_of
if_else_made numbers tree pos condition read_condition then_word body read_body elsifs read else_word other read_other end end_if semicolon
    branches otherwise rest is is_branches is_rest is_otherwise same_condition same_body same same_other =
    let branched : branches ≡ branches_of numbers pos condition body elsifs =
    same_branches numbers pos condition read_condition body read_body elsifs read branches rest is_branches is_rest same_condition same_body same in
    let others : otherwise ≡ lowered_stmts numbers other = is_otherwise ∙ ap (lowered_stmts numbers) same_other in
    let made : t.If pos branches otherwise ≡ t.If pos (branches_of numbers pos condition body elsifs) (lowered_stmts numbers other) =
    λ j. t.If pos (branched j) (others j) in
    made ∙ sym (ap (lowered_stmt numbers) is ∙ stmt-IfElse numbers pos condition then_word body elsifs else_word other end end_if semicolon)

pub case_made : (numbers : Numbers) (tree : Stmt) (pos : Pos) (selecting read_selecting : Expr) (is_word : Pos) (first read_first : When)
    (rest read : List When) (end end_case semicolon : Pos) (selector : Tree) (alternatives others : Code)
    → tree ≡ stmt.Case pos selecting is_word first rest end end_case semicolon
    → selector ≡ lowered_expr numbers read_selecting → alternatives ≡ More (lowered_when numbers read_first) others
    → others ≡ code_list (map (lowered_when numbers) read) → read_selecting ≡ selecting → read_first ≡ first → read ≡ rest
    → t.Case pos selector alternatives ≡ lowered_stmt numbers tree
case_made numbers tree pos selecting read_selecting is_word first read_first rest read end end_case semicolon selector alternatives others
    is is_selector is_alternatives is_others same_selecting same_first same =
    let selected : selector ≡ lowered_expr numbers selecting = is_selector ∙ ap (lowered_expr numbers) same_selecting in
    let behind : others ≡ code_list (map (lowered_when numbers) rest) =
    is_others ∙ ap (λ ws. code_list (map (lowered_when numbers) ws)) same in
    let listed : More (lowered_when numbers read_first) others ≡ More (lowered_when numbers first) (code_list (map (lowered_when numbers) rest)) =
    λ j. More (lowered_when numbers (same_first j)) (behind j) in
    let made : t.Case pos selector alternatives
    ≡ t.Case pos (lowered_expr numbers selecting) (More (lowered_when numbers first) (code_list (map (lowered_when numbers) rest))) =
    λ j. t.Case pos (selected j) ((is_alternatives ∙ listed) j) in
    made ∙ sym (ap (lowered_stmt numbers) is ∙ stmt-Case numbers pos selecting is_word first rest end end_case semicolon)

pub when_made : (numbers : Numbers) (tree : When) (pos : Pos) (first : Choice) (rest : List NextChoice) (arrow : Pos) (body : Stmts)
    (made choices stmts behind others : Code)
    → tree ≡ alternative.Alternative pos first rest arrow body → made ≡ t.When choices stmts
    → choices ≡ lowered_choices numbers first rest → stmts ≡ lowered_stmts numbers body → behind ≡ others
    → ◌≡◌ {A = Code} (More made behind) (More (lowered_when numbers tree) others)
when_made numbers tree pos first rest arrow body made choices stmts behind others is is_made is_choices is_stmts is_behind =
    let parts : t.When choices stmts ≡ t.When (lowered_choices numbers first rest) (lowered_stmts numbers body) =
    λ j. t.When (is_choices j) (is_stmts j) in
    let whole : made ≡ lowered_when numbers tree =
    is_made ∙ parts ∙ sym (ap (lowered_when numbers) is ∙ alternative-Alternative numbers pos first rest arrow body) in
    λ j. More (whole j) (is_behind j)
