-- Readers of statements, in the order of the grammar (docs/LANGUAGE.md, "Grammar"). `d` is how many
-- constructs are open around the part.
--
-- Statements contain statements. A form that does takes the reader of those one level further in,
-- `inner`, which are read at suc d: so only `stmts_of` is recursive, by the levels that are left.
use Rattle.std.specs.Prelude.{ℕ, zero, suc, List, [], ◌∷◌, Option, Some, None, ◌⊎◌}
use Rattle.std.proofs.Common.{inl, inr}
use Rattle.spark_base.specs.declared.position.Pos.{Pos}
use Rattle.ada_lexer.specs.declared.token.Reserved.{Reserved}
use Rattle.ada_lexer.specs.declared.token.Reserved.TheVariants as w
use Rattle.ada_lexer.specs.declared.token.Symbol.TheVariants as s
use Rattle.ada_tree.specs.declared.identifier.Identifier.{Identifier}
use Rattle.ada_tree.specs.declared.expression.Expr.{Expr}
use Rattle.ada_tree.specs.declared.expression.Name.{Name}
use Rattle.ada_tree.specs.declared.range.Range.{Range}
use Rattle.ada_tree.specs.declared.range.Choice.{Choice}
use Rattle.ada_tree.specs.declared.range.NextChoice.{NextChoice}
use Rattle.ada_tree.specs.declared.declaration.Item.{Item}
use Rattle.ada_tree.specs.declared.statement.Stmts.{Stmts}
use Rattle.ada_tree.specs.declared.statement.Stmts.TheVariants as of_stmts
use Rattle.ada_tree.specs.declared.statement.Stmt.{Stmt}
use Rattle.ada_tree.specs.declared.statement.Stmt.TheVariants as of_stmt
use Rattle.ada_tree.specs.declared.statement.Elsif.{Elsif}
use Rattle.ada_tree.specs.declared.statement.Elsif.TheVariants as of_elsif
use Rattle.ada_tree.specs.declared.statement.When.{When}
use Rattle.ada_tree.specs.declared.statement.When.TheVariants as of_when
use Rattle.token_reading.specs.declared.side.Side.TheVariants.{Apart}
use Rattle.token_reading.specs.Reading.{Reader, Fails, OverLimit, of_word, of_symbol, of_ident, word, symbol, opens_word, to, seq, choose, either, optional, many, placed}
use Rattle.ada_grammar.specs.Expressions.{levels, expr, name_at, identifier}
use Rattle.ada_grammar.specs.Items.{range, choice, next_choices, items}

-- ---- tokens that statements have in common

abbrev pub semicolon : Reader Pos
semicolon = symbol Apart s.Semicolon

-- "end", the word that opened the construct, ";"
abbrev pub Ending : Type 0
Ending = Pos × (Pos × Pos)

unfoldable pub ending : Reserved → Reader Ending
ending v = seq (word Apart w.KwEnd) (seq (word Apart v) semicolon)

-- "end" ";"
abbrev pub BlockEnding : Type 0
BlockEnding = Pos × Pos

unfoldable pub block_ending : Reader BlockEnding
block_ending = seq (word Apart w.KwEnd) semicolon

-- ---- statements that open nothing

-- stmt = "null" ";"
abbrev pub make_null : Pos × Pos → Stmt
make_null x = of_stmt.Null x.0 x.1

unfoldable pub null_stmt : Reader Stmt
null_stmt = to make_null (seq (word Apart w.KwNull) semicolon)

-- ":=" expr ";"
abbrev pub Source : Type 0
Source = Pos × (Expr × Pos)

unfoldable pub source : ℕ → Reader Source
source d = seq (symbol Apart s.Becomes) (seq (expr d) semicolon)

-- stmt = name ":=" expr ";" | name ";"
abbrev pub make_named_by : Pos → Name → Source ⊎ Pos → Stmt
make_named_by pos name (inl x) = of_stmt.Assign pos name x.0 x.1.0 x.1.1
make_named_by pos name (inr semicolon) = of_stmt.Call pos name semicolon

abbrev pub make_named : Pos → Name × (Source ⊎ Pos) → Stmt
make_named pos x = make_named_by pos x.0 x.1

unfoldable pub named_stmt : ℕ → Reader Stmt
named_stmt d = placed make_named (seq (name_at Apart d) (choose (of_symbol s.Becomes ∷ []) (source d) semicolon))

-- "when" expr
abbrev pub Condition : Type 0
Condition = Pos × Expr

unfoldable pub exit_condition : ℕ → Reader Condition
exit_condition d = seq (word Apart w.KwWhen) (expr d)

-- stmt = "exit" ["when" expr] ";"
abbrev pub make_exit_by : Pos → Option Condition → Pos → Stmt
make_exit_by pos (Some x) semicolon = of_stmt.ExitWhen pos x.0 x.1 semicolon
make_exit_by pos None semicolon = of_stmt.Exit pos semicolon

abbrev pub make_exit : Pos × (Option Condition × Pos) → Stmt
make_exit x = make_exit_by x.0 x.1.0 x.1.1

unfoldable pub exit_stmt : ℕ → Reader Stmt
exit_stmt d = to make_exit (seq (word Apart w.KwExit) (seq (optional (of_word w.KwWhen ∷ []) (exit_condition d)) semicolon))

-- stmt = "return" [expr] ";"
abbrev pub make_return_by : Pos → Pos ⊎ (Expr × Pos) → Stmt
make_return_by pos (inl semicolon) = of_stmt.Return pos semicolon
make_return_by pos (inr x) = of_stmt.ReturnValue pos x.0 x.1

abbrev pub make_return : Pos × (Pos ⊎ (Expr × Pos)) → Stmt
make_return x = make_return_by x.0 x.1

unfoldable pub return_stmt : ℕ → Reader Stmt
return_stmt d = to make_return (seq (word Apart w.KwReturn) (choose (of_symbol s.Semicolon ∷ []) semicolon (seq (expr d) semicolon)))

-- ---- statements that open a construct, over the reader of the statements within

-- "elsif" expr "then" stmts, where the if is among the open constructs
abbrev pub make_elsif : Pos × (Expr × (Pos × Stmts)) → Elsif
make_elsif x = of_elsif.Branch x.0 x.1.0 x.1.1.0 x.1.1.1

unfoldable pub elsif_in : ℕ → Reader Stmts → Reader Elsif
elsif_in d inner = to make_elsif (seq (word Apart w.KwElsif) (seq (expr d) (seq (word Apart w.KwThen) inner)))

unfoldable pub elsifs_in : ℕ → Reader Stmts → Reader (List Elsif)
elsifs_in d inner = many (of_word w.KwElsif ∷ []) (elsif_in d inner)

-- ["else" stmts]
abbrev pub Otherwise : Type 0
Otherwise = Option (Pos × Stmts)

unfoldable pub otherwise_in : Reader Stmts → Reader Otherwise
otherwise_in inner = optional (of_word w.KwElse ∷ []) (seq (word Apart w.KwElse) inner)

-- stmt = "if" expr "then" stmts {"elsif" expr "then" stmts} ["else" stmts] "end" "if" ";"
abbrev pub make_if_by : Pos → Expr → Pos → Stmts → List Elsif → Otherwise → Ending → Stmt
make_if_by pos condition then body elsifs (Some x) end = of_stmt.IfElse pos condition then body elsifs x.0 x.1 end.0 end.1.0 end.1.1
make_if_by pos condition then body elsifs None end = of_stmt.If pos condition then body elsifs end.0 end.1.0 end.1.1

abbrev pub make_if : Pos × (Expr × (Pos × (Stmts × (List Elsif × (Otherwise × Ending))))) → Stmt
make_if x = make_if_by x.0 x.1.0 x.1.1.0 x.1.1.1.0 x.1.1.1.1.0 x.1.1.1.1.1.0 x.1.1.1.1.1.1

unfoldable pub if_in : ℕ → Reader Stmts → Reader Stmt
if_in d inner =
    to make_if (seq (opens_word w.KwIf d) (seq (expr (suc d)) (seq (word Apart w.KwThen) (seq inner
    (seq (elsifs_in (suc d) inner) (seq (otherwise_in inner) (ending w.KwIf)))))))

-- when = "when" choice {"|" choice} "=>" stmts, where the case is among the open constructs
abbrev pub make_when : Pos × (Choice × (List NextChoice × (Pos × Stmts))) → When
make_when x = of_when.Alternative x.0 x.1.0 x.1.1.0 x.1.1.1.0 x.1.1.1.1

unfoldable pub when_in : ℕ → Reader Stmts → Reader When
when_in d inner =
    to make_when (seq (word Apart w.KwWhen) (seq (choice d) (seq (next_choices d) (seq (symbol Apart s.Arrow) inner))))

unfoldable pub next_whens_in : ℕ → Reader Stmts → Reader (List When)
next_whens_in d inner = many (of_word w.KwWhen ∷ []) (when_in d inner)

-- stmt = "case" expr "is" when {when} "end" "case" ";"
abbrev pub make_case : Pos × (Expr × (Pos × (When × (List When × Ending)))) → Stmt
make_case x = of_stmt.Case x.0 x.1.0 x.1.1.0 x.1.1.1.0 x.1.1.1.1.0 x.1.1.1.1.1.0 x.1.1.1.1.1.1.0 x.1.1.1.1.1.1.1

unfoldable pub case_in : ℕ → Reader Stmts → Reader Stmt
case_in d inner =
    to make_case (seq (opens_word w.KwCase d) (seq (expr (suc d)) (seq (word Apart w.KwIs) (seq (when_in (suc d) inner)
    (seq (next_whens_in (suc d) inner) (ending w.KwCase))))))

-- stmt = "loop" stmts "end" "loop" ";"
abbrev pub make_loop : Pos × (Stmts × Ending) → Stmt
make_loop x = of_stmt.Loop x.0 x.1.0 x.1.1.0 x.1.1.1.0 x.1.1.1.1

unfoldable pub loop_in : ℕ → Reader Stmts → Reader Stmt
loop_in d inner = to make_loop (seq (opens_word w.KwLoop d) (seq inner (ending w.KwLoop)))

-- "loop" stmts "end" "loop" ";", of a loop that opened before
abbrev pub LoopBody : Type 0
LoopBody = Pos × (Stmts × Ending)

unfoldable pub loop_body_in : Reader Stmts → Reader LoopBody
loop_body_in inner = seq (word Apart w.KwLoop) (seq inner (ending w.KwLoop))

-- stmt = "while" expr "loop" stmts "end" "loop" ";"
abbrev pub make_while_by : Pos → Expr → LoopBody → Stmt
make_while_by pos condition x = of_stmt.While pos condition x.0 x.1.0 x.1.1.0 x.1.1.1.0 x.1.1.1.1

abbrev pub make_while : Pos × (Expr × LoopBody) → Stmt
make_while x = make_while_by x.0 x.1.0 x.1.1

unfoldable pub while_in : ℕ → Reader Stmts → Reader Stmt
while_in d inner = to make_while (seq (opens_word w.KwWhile d) (seq (expr (suc d)) (loop_body_in inner)))

-- stmt = "for" id "in" ["reverse"] range "loop" stmts "end" "loop" ";"
abbrev pub make_for_by : Pos → Identifier → Pos → Option Pos → Range → LoopBody → Stmt
make_for_by pos parameter in_word reverse over x =
    of_stmt.For pos parameter in_word reverse over x.0 x.1.0 x.1.1.0 x.1.1.1.0 x.1.1.1.1

abbrev pub make_for : Pos × (Identifier × (Pos × (Option Pos × (Range × LoopBody)))) → Stmt
make_for x = make_for_by x.0 x.1.0 x.1.1.0 x.1.1.1.0 x.1.1.1.1.0 x.1.1.1.1.1

unfoldable pub for_in : ℕ → Reader Stmts → Reader Stmt
for_in d inner =
    to make_for (seq (opens_word w.KwFor d) (seq (identifier Apart) (seq (word Apart w.KwIn)
    (seq (optional (of_word w.KwReverse ∷ []) (word Apart w.KwReverse)) (seq (range (suc d)) (loop_body_in inner))))))

-- stmt = "begin" stmts "end" ";"
abbrev pub make_block : Pos × (Stmts × BlockEnding) → Stmt
make_block x = of_stmt.Block x.0 x.1.0 x.1.1.0 x.1.1.1

unfoldable pub block_in : ℕ → Reader Stmts → Reader Stmt
block_in d inner = to make_block (seq (opens_word w.KwBegin d) (seq inner block_ending))

-- stmt = "declare" {item} "begin" stmts "end" ";"
abbrev pub make_declare_block : Pos × (List Item × (Pos × (Stmts × BlockEnding))) → Stmt
make_declare_block x = of_stmt.DeclareBlock x.0 x.1.0 x.1.1.0 x.1.1.1.0 x.1.1.1.1.0 x.1.1.1.1.1

unfoldable pub declare_in : ℕ → Reader Stmts → Reader Stmt
declare_in d inner =
    to make_declare_block (seq (opens_word w.KwDeclare d) (seq (items (suc d)) (seq (word Apart w.KwBegin) (seq inner block_ending))))

-- ---- all statements

-- what a statement begins with
abbrev pub stmt_first : List ℕ
stmt_first =
    of_word w.KwNull ∷ of_word w.KwExit ∷ of_word w.KwReturn ∷ of_word w.KwIf ∷ of_word w.KwCase ∷ of_word w.KwLoop ∷ of_word w.KwWhile
    ∷ of_word w.KwFor ∷ of_word w.KwBegin ∷ of_word w.KwDeclare ∷ of_ident ∷ []

-- the kinds of tokens that may continue statements in a row
abbrev pub stmts_last : List ℕ
stmts_last = stmt_first

-- the loops and blocks, else a statement that begins with a name
unfoldable pub block_or_named_in : ℕ → Reader Stmts → Reader Stmt
block_or_named_in d inner =
    either (of_word w.KwLoop ∷ []) (loop_in d inner)
    (either (of_word w.KwWhile ∷ []) (while_in d inner)
    (either (of_word w.KwFor ∷ []) (for_in d inner)
    (either (of_word w.KwBegin ∷ []) (block_in d inner)
    (either (of_word w.KwDeclare ∷ []) (declare_in d inner) (named_stmt d)))))

unfoldable pub stmt_in : ℕ → Reader Stmts → Reader Stmt
stmt_in d inner =
    either (of_word w.KwNull ∷ []) null_stmt
    (either (of_word w.KwExit ∷ []) (exit_stmt d)
    (either (of_word w.KwReturn ∷ []) (return_stmt d)
    (either (of_word w.KwIf ∷ []) (if_in d inner)
    (either (of_word w.KwCase ∷ []) (case_in d inner) (block_or_named_in d inner)))))

unfoldable pub next_stmts_in : ℕ → Reader Stmts → Reader (List Stmt)
next_stmts_in d inner = many stmt_first (stmt_in d inner)

-- stmts = stmt {stmt}
abbrev pub make_stmts : Pos → Stmt × List Stmt → Stmts
make_stmts pos x = of_stmts.Sequence pos x.0 x.1

unfoldable pub stmts_in : ℕ → Reader Stmts → Reader Stmts
stmts_in d inner = placed make_stmts (seq (stmt_in d inner) (next_stmts_in d inner))

-- where no level is left, nothing can be read within a statement
abbrev pub no_stmts : Reader Stmts
no_stmts k ts = Fails OverLimit ts

-- with so many levels left
unfoldable pub stmts_of : ℕ → ℕ → Reader Stmts
stmts_of zero d = stmts_in d no_stmts
stmts_of (suc left) d = stmts_in d (stmts_of left (suc d))

unfoldable pub stmts : ℕ → Reader Stmts
stmts d = stmts_of (levels d) d

-- the statements within a statement
abbrev pub inner_of : ℕ → ℕ → Reader Stmts
inner_of zero d = no_stmts
inner_of (suc left) d = stmts_of left (suc d)

unfoldable pub inner_stmts : ℕ → Reader Stmts
inner_stmts d = inner_of (levels d) d

unfoldable pub stmt : ℕ → Reader Stmt
stmt d = stmt_in d (inner_stmts d)

-- the parts of an if and of a case, which are among the open constructs
unfoldable pub elsif : ℕ → Reader Elsif
elsif d = elsif_in d (stmts d)

unfoldable pub when : ℕ → Reader When
when d = when_in d (stmts d)
