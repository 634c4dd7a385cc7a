-- The spelling of each form of statement, with boxes as what they hold and lists as lists.
use Rattle.std.proofs.Common.{◌≡◌, refl, ap, ◌∙◌, ℕ, suc, List, [], ◌∷◌, ◌++◌}
use Rattle.std.specs.Prelude.{Option}
use denote.Hole.Carrier.{hidden}
use Rattle.std.specs.List.{flat_map}
use Rattle.spark_base.specs.declared.position.Pos.{Pos}
use Rattle.ada_lexer.specs.declared.token.Reserved.TheVariants as w
use Rattle.ada_lexer.specs.declared.token.Symbol.TheVariants as s
use Rattle.ada_tree.specs.declared.identifier.Identifier.{Identifier}
use Rattle.ada_tree.specs.declared.expression.Expr.{Expr}
use Rattle.ada_tree.specs.declared.expression.Name.{Name}
use Rattle.ada_tree.specs.declared.range.Range.{Range}
use Rattle.ada_tree.specs.declared.range.Choice.{Choice}
use Rattle.ada_tree.specs.declared.range.NextChoice.{NextChoice}
use Rattle.ada_tree.specs.declared.declaration.Item.{Item}
use Rattle.ada_tree.specs.declared.statement.Stmts.{Stmts, Row_of-Stmt, end_of-Stmt, more_of-Stmt, items-the_row-Stmt, items_hidden-the_row-Stmt-5}
use Rattle.ada_tree.specs.declared.statement.Stmts.TheVariants as stmts
use Rattle.ada_tree.specs.declared.statement.Stmt.{Stmt, Row_of-Elsif, end_of-Elsif, more_of-Elsif, items-the_row-Elsif, items_hidden-the_row-Elsif-1, Row_of-When, end_of-When, more_of-When, items-the_row-When, items_hidden-the_row-When-3}
use Rattle.ada_tree.specs.declared.statement.Stmt.TheVariants as stmt
use Rattle.ada_tree.specs.declared.statement.Elsif.{Elsif}
use Rattle.ada_tree.specs.declared.statement.Elsif.TheVariants as branch
use Rattle.ada_tree.specs.declared.statement.When.{When}
use Rattle.ada_tree.specs.declared.statement.When.TheVariants as alternative
use Rattle.ada_tree.specs.declared.statement.Elsif.TheBlock.{shape-the_row-Stmts-0, hidden-the_row-Stmts-0, hidden-the_row-Elsif-1, shape-the_row-When-2, hidden-the_row-When-2, hidden-the_row-When-3, shape-the_row-Stmt-4, hidden-the_row-Stmt-4, hidden-the_row-Stmt-5}
use Rattle.token_reading.specs.Spelled.{Word}
use Rattle.token_reading.specs.declared.side.Side.TheVariants.{Apart}
use Rattle.token_reading.specs.Weights.{opens}
use Rattle.ada_tree.specs.Spelling.{word, symbol, id_mark, optional_word, end_spelling, name_spelling, expr_spelling, range_spelling, choice_spelling, next_choice_spelling, item_spelling, stmts_box, stmts_spelling, stmt_box, next_stmts_spelling, stmt_spelling, elsifs_spelling, elsif_spelling, when_box, next_whens_spelling, when_spelling}

-- ---- lists

elsifs_row : {n : _} (d : ℕ) (row : Row_of-Elsif n) → elsifs_spelling d row ≡ flat_map (elsif_spelling d) (items-the_row-Elsif n row)
unfolding elsifs_spelling
elsifs_row d end_of-Elsif = refl
elsifs_row d (more_of-Elsif part rest) = ap (λ spelling. elsif_spelling d part ++ spelling) (elsifs_row d rest)

elsifs_listed : (d : ℕ) (parts : List Elsif) → elsifs_spelling d (hidden-the_row-Elsif-1 parts) ≡ flat_map (elsif_spelling d) parts
elsifs_listed d parts = elsifs_row d (hidden-the_row-Elsif-1 parts) ∙ ap (flat_map (elsif_spelling d))
    (items_hidden-the_row-Elsif-1 parts)

next_whens_row : {n : _} (d : ℕ) (row : Row_of-When n)
    → next_whens_spelling d row ≡ flat_map (when_spelling d) (items-the_row-When n row)
unfolding next_whens_spelling
next_whens_row d end_of-When = refl
next_whens_row d (more_of-When part rest) = ap (λ spelling. when_spelling d part ++ spelling) (next_whens_row d rest)

next_whens_listed : (d : ℕ) (parts : List When) → next_whens_spelling d (hidden-the_row-When-3 parts) ≡ flat_map (when_spelling d) parts
next_whens_listed d parts = next_whens_row d (hidden-the_row-When-3 parts) ∙ ap (flat_map (when_spelling d))
    (items_hidden-the_row-When-3 parts)

next_stmts_row : {n : _} (d : ℕ) (row : Row_of-Stmt n)
    → next_stmts_spelling d row ≡ flat_map (stmt_spelling d) (items-the_row-Stmt n row)
unfolding next_stmts_spelling
next_stmts_row d end_of-Stmt = refl
next_stmts_row d (more_of-Stmt part rest) = ap (λ spelling. stmt_spelling d part ++ spelling) (next_stmts_row d rest)

next_stmts_listed : (d : ℕ) (parts : List Stmt) → next_stmts_spelling d (hidden-the_row-Stmt-5 parts) ≡ flat_map (stmt_spelling d) parts
next_stmts_listed d parts = next_stmts_row d (hidden-the_row-Stmt-5 parts) ∙ ap (flat_map (stmt_spelling d))
    (items_hidden-the_row-Stmt-5 parts)

-- ---- the alternatives

pub stmts-Sequence : (d : ℕ) (pos : Pos) (first : Stmt) (rest : List Stmt)
    → stmts_spelling d (stmts.Sequence pos first rest)
    ≡ stmt_spelling d first ++ flat_map (stmt_spelling d) rest
unfolding stmts_spelling stmt_box hidden-the_row-Stmt-4 shape-the_row-Stmt-4 hidden
stmts-Sequence d pos first rest = ap (λ spelling. stmt_spelling d first ++ spelling) (next_stmts_listed d rest)

-- stmt = "null" ";"
pub stmt-Null : (d : ℕ) (pos : Pos) (semicolon : Pos)
    → stmt_spelling d (stmt.Null pos semicolon)
    ≡ word Apart w.KwNull pos ∷ symbol Apart s.Semicolon semicolon ∷ []
unfolding stmt_spelling
stmt-Null d pos semicolon = refl

-- stmt = name ":=" expr ";"
pub stmt-Assign : (d : ℕ) (pos : Pos) (target : Name) (becomes : Pos) (value : Expr) (semicolon : Pos)
    → stmt_spelling d (stmt.Assign pos target becomes value semicolon)
    ≡ name_spelling Apart d target ++ (symbol Apart s.Becomes becomes ∷ (expr_spelling d value
    ++ (symbol Apart s.Semicolon semicolon ∷ [])))
unfolding stmt_spelling
stmt-Assign d pos target becomes value semicolon = refl

-- stmt = name ";"
pub stmt-Call : (d : ℕ) (pos : Pos) (called : Name) (semicolon : Pos)
    → stmt_spelling d (stmt.Call pos called semicolon)
    ≡ name_spelling Apart d called ++ (symbol Apart s.Semicolon semicolon ∷ [])
unfolding stmt_spelling
stmt-Call d pos called semicolon = refl

-- stmt = "exit" ";"
pub stmt-Exit : (d : ℕ) (pos : Pos) (semicolon : Pos)
    → stmt_spelling d (stmt.Exit pos semicolon)
    ≡ word Apart w.KwExit pos ∷ symbol Apart s.Semicolon semicolon ∷ []
unfolding stmt_spelling
stmt-Exit d pos semicolon = refl

-- stmt = "exit" "when" expr ";"
pub stmt-ExitWhen : (d : ℕ) (pos : Pos) (when : Pos) (condition : Expr) (semicolon : Pos)
    → stmt_spelling d (stmt.ExitWhen pos when condition semicolon)
    ≡ word Apart w.KwExit pos ∷ word Apart w.KwWhen when ∷ (expr_spelling d condition ++ (symbol Apart s.Semicolon semicolon ∷ []))
unfolding stmt_spelling
stmt-ExitWhen d pos when condition semicolon = refl

-- stmt = "return" ";"
pub stmt-Return : (d : ℕ) (pos : Pos) (semicolon : Pos)
    → stmt_spelling d (stmt.Return pos semicolon)
    ≡ word Apart w.KwReturn pos ∷ symbol Apart s.Semicolon semicolon ∷ []
unfolding stmt_spelling
stmt-Return d pos semicolon = refl

-- stmt = "return" expr ";"
pub stmt-ReturnValue : (d : ℕ) (pos : Pos) (value : Expr) (semicolon : Pos)
    → stmt_spelling d (stmt.ReturnValue pos value semicolon)
    ≡ word Apart w.KwReturn pos ∷ (expr_spelling d value ++ (symbol Apart s.Semicolon semicolon ∷ []))
unfolding stmt_spelling
stmt-ReturnValue d pos value semicolon = refl

-- stmt = "if" expr "then" stmts {"elsif" expr "then" stmts} "end" "if" ";"
pub stmt-If : (d : ℕ) (pos : Pos) (condition : Expr) (then : Pos) (body : Stmts) (elsifs : List Elsif) (end : Pos)
    (end_if : Pos) (semicolon : Pos)
    → stmt_spelling d (stmt.If pos condition then body elsifs end end_if semicolon)
    ≡ opens Apart d (Word w.KwIf pos) ∷ (expr_spelling (suc d) condition ++ (word Apart w.KwThen then ∷ (stmts_spelling (suc d) body
    ++ (flat_map (elsif_spelling (suc d)) elsifs ++ end_spelling w.KwIf end end_if semicolon))))
unfolding stmt_spelling stmts_box hidden-the_row-Stmts-0 shape-the_row-Stmts-0 hidden
stmt-If d pos condition then body elsifs end end_if semicolon = ap (λ spelling. opens Apart d (Word w.KwIf pos)
    ∷ (expr_spelling (suc d) condition ++ (word Apart w.KwThen then ∷ (stmts_spelling (suc d) body ++ (spelling
    ++ end_spelling w.KwIf end end_if semicolon))))) (elsifs_listed (suc d) elsifs)

-- stmt = "if" expr "then" stmts {"elsif" expr "then" stmts} "else" stmts "end" "if" ";"
pub stmt-IfElse : (d : ℕ) (pos : Pos) (condition : Expr) (then : Pos) (body : Stmts) (elsifs : List Elsif) (otherwise : Pos)
    (otherwise_body : Stmts) (end : Pos) (end_if : Pos) (semicolon : Pos)
    → stmt_spelling d (stmt.IfElse pos condition then body elsifs otherwise otherwise_body end end_if semicolon)
    ≡ opens Apart d (Word w.KwIf pos) ∷ (expr_spelling (suc d) condition ++ (word Apart w.KwThen then ∷ (stmts_spelling (suc d) body
    ++ (flat_map (elsif_spelling (suc d)) elsifs ++ (word Apart w.KwElse otherwise ∷ (stmts_spelling (suc d) otherwise_body
    ++ end_spelling w.KwIf end end_if semicolon))))))
unfolding stmt_spelling stmts_box hidden-the_row-Stmts-0 shape-the_row-Stmts-0 hidden
stmt-IfElse d pos condition then body elsifs otherwise otherwise_body end end_if semicolon = ap (λ spelling. opens Apart d
    (Word w.KwIf pos) ∷ (expr_spelling (suc d) condition ++ (word Apart w.KwThen then ∷ (stmts_spelling (suc d) body ++ (spelling
    ++ (word Apart w.KwElse otherwise ∷ (stmts_spelling (suc d) otherwise_body
    ++ end_spelling w.KwIf end end_if semicolon))))))) (elsifs_listed (suc d) elsifs)

-- stmt = "case" expr "is" when {when} "end" "case" ";"
pub stmt-Case : (d : ℕ) (pos : Pos) (selector : Expr) (is : Pos) (first : When) (rest : List When) (end : Pos) (end_case : Pos)
    (semicolon : Pos)
    → stmt_spelling d (stmt.Case pos selector is first rest end end_case semicolon)
    ≡ opens Apart d (Word w.KwCase pos) ∷ (expr_spelling (suc d) selector ++ (word Apart w.KwIs is ∷ (when_spelling (suc d) first
    ++ (flat_map (when_spelling (suc d)) rest ++ end_spelling w.KwCase end end_case semicolon))))
unfolding stmt_spelling when_box hidden-the_row-When-2 shape-the_row-When-2 hidden
stmt-Case d pos selector is first rest end end_case semicolon = ap (λ spelling. opens Apart d (Word w.KwCase pos)
    ∷ (expr_spelling (suc d) selector ++ (word Apart w.KwIs is ∷ (when_spelling (suc d) first ++ (spelling
    ++ end_spelling w.KwCase end end_case semicolon))))) (next_whens_listed (suc d) rest)

-- stmt = "loop" stmts "end" "loop" ";"
pub stmt-Loop : (d : ℕ) (pos : Pos) (body : Stmts) (end : Pos) (end_loop : Pos) (semicolon : Pos)
    → stmt_spelling d (stmt.Loop pos body end end_loop semicolon)
    ≡ opens Apart d (Word w.KwLoop pos) ∷ (stmts_spelling (suc d) body ++ end_spelling w.KwLoop end end_loop semicolon)
unfolding stmt_spelling stmts_box hidden-the_row-Stmts-0 shape-the_row-Stmts-0 hidden
stmt-Loop d pos body end end_loop semicolon = refl

-- stmt = "while" expr "loop" stmts "end" "loop" ";"
pub stmt-While : (d : ℕ) (pos : Pos) (condition : Expr) (loop_word : Pos) (body : Stmts) (end : Pos) (end_loop : Pos)
    (semicolon : Pos)
    → stmt_spelling d (stmt.While pos condition loop_word body end end_loop semicolon)
    ≡ opens Apart d (Word w.KwWhile pos) ∷ (expr_spelling (suc d) condition
    ++ (word Apart w.KwLoop loop_word ∷ (stmts_spelling (suc d) body ++ end_spelling w.KwLoop end end_loop semicolon)))
unfolding stmt_spelling stmts_box hidden-the_row-Stmts-0 shape-the_row-Stmts-0 hidden
stmt-While d pos condition loop_word body end end_loop semicolon = refl

-- stmt = "for" id "in" ["reverse"] range "loop" stmts "end" "loop" ";"
pub stmt-For : (d : ℕ) (pos : Pos) (parameter : Identifier) (in_word : Pos) (reverse : Option Pos) (over : Range)
    (loop_word : Pos) (body : Stmts) (end : Pos) (end_loop : Pos) (semicolon : Pos)
    → stmt_spelling d (stmt.For pos parameter in_word reverse over loop_word body end end_loop semicolon)
    ≡ opens Apart d (Word w.KwFor pos) ∷ id_mark Apart parameter ∷ word Apart w.KwIn in_word
    ∷ (optional_word w.KwReverse reverse ++ (range_spelling (suc d) over
    ++ (word Apart w.KwLoop loop_word ∷ (stmts_spelling (suc d) body ++ end_spelling w.KwLoop end end_loop semicolon))))
unfolding stmt_spelling stmts_box hidden-the_row-Stmts-0 shape-the_row-Stmts-0 hidden
stmt-For d pos parameter in_word reverse over loop_word body end end_loop semicolon = refl

-- stmt = "begin" stmts "end" ";"
pub stmt-Block : (d : ℕ) (pos : Pos) (body : Stmts) (end : Pos) (semicolon : Pos)
    → stmt_spelling d (stmt.Block pos body end semicolon)
    ≡ opens Apart d (Word w.KwBegin pos) ∷ (stmts_spelling (suc d) body
    ++ (word Apart w.KwEnd end ∷ symbol Apart s.Semicolon semicolon ∷ []))
unfolding stmt_spelling stmts_box hidden-the_row-Stmts-0 shape-the_row-Stmts-0 hidden
stmt-Block d pos body end semicolon = refl

-- stmt = "declare" {item} "begin" stmts "end" ";"
pub stmt-DeclareBlock : (d : ℕ) (pos : Pos) (items : List Item) (begin : Pos) (body : Stmts) (end : Pos) (semicolon : Pos)
    → stmt_spelling d (stmt.DeclareBlock pos items begin body end semicolon)
    ≡ opens Apart d (Word w.KwDeclare pos) ∷ (flat_map (item_spelling (suc d)) items
    ++ (word Apart w.KwBegin begin ∷ (stmts_spelling (suc d) body
    ++ (word Apart w.KwEnd end ∷ symbol Apart s.Semicolon semicolon ∷ []))))
unfolding stmt_spelling stmts_box hidden-the_row-Stmts-0 shape-the_row-Stmts-0 hidden
stmt-DeclareBlock d pos items begin body end semicolon = refl

pub branch-Branch : (d : ℕ) (pos : Pos) (condition : Expr) (then : Pos) (body : Stmts)
    → elsif_spelling d (branch.Branch pos condition then body)
    ≡ word Apart w.KwElsif pos ∷ (expr_spelling d condition ++ (word Apart w.KwThen then ∷ stmts_spelling d body))
unfolding elsif_spelling stmts_box hidden-the_row-Stmts-0 shape-the_row-Stmts-0 hidden
branch-Branch d pos condition then body = refl

pub alternative-Alternative : (d : ℕ) (pos : Pos) (first : Choice) (rest : List NextChoice) (arrow : Pos) (body : Stmts)
    → when_spelling d (alternative.Alternative pos first rest arrow body)
    ≡ word Apart w.KwWhen pos ∷ (choice_spelling d first ++ (flat_map (next_choice_spelling d) rest
    ++ (symbol Apart s.Arrow arrow ∷ stmts_spelling d body)))
unfolding when_spelling stmts_box hidden-the_row-Stmts-0 shape-the_row-Stmts-0 hidden
alternative-Alternative d pos first rest arrow body = refl
