-- The laws of the statements that open no construct.
use Rattle.std.proofs.Common.{◌≡◌, refl, ℕ, ◌≤◌, false, List, [], ◌∷◌, Option, Some, None, ◌⊎◌, inl, inr}
use Rattle.spark_base.specs.declared.position.Pos.{Pos}
use Rattle.spark_base.specs.declared.limits.TheConstants.{NESTING}
use Rattle.ada_lexer.specs.declared.token.Reserved.{Reserved}
use Rattle.ada_lexer.specs.declared.token.Reserved.TheVariants as w
use Rattle.ada_lexer.specs.declared.token.Symbol.TheVariants as s
use Rattle.token_reading.specs.declared.side.Side.TheVariants.{Apart}
use Rattle.token_reading.specs.Spelled.{Word, Delimiter}
use Rattle.token_reading.specs.Weights.{WeighedToken, plain, bare}
use Rattle.token_reading.specs.Reading.{of_word, of_symbol, StartsAt}
use Rattle.token_reading.proofs.Law.{Law}
use Rattle.token_reading.proofs.Tokens.{Any, law_word, law_symbol}
use Rattle.token_reading.proofs.Seq.{Both, joined, law_seq}
use Rattle.token_reading.proofs.Choice.{Either, of_either, Maybe, maybe_spelled, law_choose, law_optional}
use Rattle.token_reading.proofs.Positions.{law_placed}
use Rattle.ada_tree.specs.declared.expression.Expr.{Expr}
use Rattle.ada_tree.specs.declared.expression.Name.{Name}
use Rattle.ada_tree.specs.declared.statement.Stmt.{Stmt}
use Rattle.ada_tree.specs.Spelling.{name_spelling, expr_spelling, stmt_spelling}
use Rattle.ada_tree.specs.WellPlaced.{NamePlaced, ExprPlaced}
use Rattle.ada_grammar.proofs.StatementLevels.{stmt-Null, stmt-Assign, stmt-Call, stmt-Exit, stmt-ExitWhen, stmt-Return, stmt-ReturnValue}
use Rattle.ada_grammar.specs.Expressions.{name_first}
use Rattle.ada_grammar.specs.Statements.{semicolon, Ending, ending, BlockEnding, block_ending, make_null, null_stmt, Source, source, make_named, named_stmt, Condition, exit_condition, make_exit, exit_stmt, make_return, return_stmt}
use Rattle.ada_grammar.proofs.ExpressionLaws.{law_expr, law_name}
use Rattle.ada_grammar.proofs.StatementParts.{MadeOf, law_made_of}

-- ---- tokens

abbrev pub word_spelling : Reserved → Pos → List WeighedToken
word_spelling v pos = plain Apart (Word v pos) ∷ []

abbrev pub semicolon_spelling : Pos → List WeighedToken
semicolon_spelling pos = plain Apart (Delimiter s.Semicolon pos) ∷ []

pub law_semicolon : Law semicolon Any semicolon_spelling (of_symbol s.Semicolon ∷ []) [] false
law_semicolon = law_symbol Apart s.Semicolon

abbrev pub ending_spelling : Reserved → Ending → List WeighedToken
ending_spelling v = joined (word_spelling w.KwEnd) (joined (word_spelling v) semicolon_spelling)

abbrev pub AnyEnding : Ending → Type 0
AnyEnding = Both Any (Both Any Any)

pub law_ending : (v : Reserved) → Law (ending v) AnyEnding (ending_spelling v) (of_word w.KwEnd ∷ []) [] false
unfolding ending
law_ending v = law_seq (law_word Apart w.KwEnd) (law_seq (law_word Apart v) law_semicolon refl) refl

abbrev pub block_ending_spelling : BlockEnding → List WeighedToken
block_ending_spelling = joined (word_spelling w.KwEnd) semicolon_spelling

abbrev pub AnyBlockEnding : BlockEnding → Type 0
AnyBlockEnding = Both Any Any

pub law_block_ending : Law block_ending AnyBlockEnding block_ending_spelling (of_word w.KwEnd ∷ []) [] false
unfolding block_ending
law_block_ending = law_seq (law_word Apart w.KwEnd) law_semicolon refl

-- ---- "null" ";"

abbrev pub NullParts : Pos × Pos → Type 0
NullParts = Both Any Any

pub law_null_stmt : (d : ℕ) → Law null_stmt (MadeOf make_null NullParts) (stmt_spelling d) (of_word w.KwNull ∷ []) [] false
unfolding null_stmt
law_null_stmt d =
    law_made_of make_null (stmt_spelling d) (law_seq (law_word Apart w.KwNull) law_semicolon refl) (λ x. stmt-Null d x.0 x.1)

-- ---- name ":=" expr ";" | name ";"

abbrev pub SourceParts : ℕ → Source → Type 0
SourceParts d = Both Any (Both (ExprPlaced d) Any)

abbrev pub source_spelling : ℕ → Source → List WeighedToken
source_spelling d = joined (λ pos. plain Apart (Delimiter s.Becomes pos) ∷ []) (joined (expr_spelling d) semicolon_spelling)

law_source : (d : ℕ) → d ≤ NESTING → Law (source d) (SourceParts d) (source_spelling d) (of_symbol s.Becomes ∷ []) [] false
unfolding source
law_source d h = law_seq (law_symbol Apart s.Becomes) (law_seq (law_expr d h) law_semicolon refl) refl

abbrev named_spelling : ℕ → Name × (Source ⊎ Pos) → List WeighedToken
named_spelling d = joined (name_spelling Apart d) (of_either (source_spelling d) semicolon_spelling)

abbrev pub NamedParts : ℕ → Pos × (Name × (Source ⊎ Pos)) → Type 0
NamedParts d x = Both (NamePlaced d) (Either (SourceParts d) Any) x.1 × StartsAt x.0 (bare (named_spelling d x.1))

abbrev pub make_named_of : Pos × (Name × (Source ⊎ Pos)) → Stmt
make_named_of x = make_named x.0 x.1

spelled_named : (d : ℕ) (x : Pos × (Name × (Source ⊎ Pos))) → stmt_spelling d (make_named_of x) ≡ named_spelling d x.1
spelled_named d (pos, (name, inl x)) = stmt-Assign d pos name x.0 x.1.0 x.1.1
spelled_named d (pos, (name, inr x)) = stmt-Call d pos name x

pub law_named_stmt : (d : ℕ) → d ≤ NESTING
    → Law (named_stmt d) (MadeOf make_named_of (NamedParts d)) (stmt_spelling d) name_first [] false
unfolding named_stmt
law_named_stmt d h =
    law_made_of make_named_of (stmt_spelling d)
    (law_placed (law_seq (law_name Apart d h) (law_choose (of_symbol s.Becomes ∷ []) (law_source d h) law_semicolon refl refl) refl) refl)
    (spelled_named d)

-- ---- "exit" ["when" expr] ";"

abbrev pub ConditionParts : ℕ → Condition → Type 0
ConditionParts d = Both Any (ExprPlaced d)

abbrev condition_spelling : ℕ → Condition → List WeighedToken
condition_spelling d = joined (word_spelling w.KwWhen) (expr_spelling d)

abbrev pub ExitParts : ℕ → Pos × (Option Condition × Pos) → Type 0
ExitParts d = Both Any (Both (Maybe (ConditionParts d)) Any)

abbrev exit_spelling : ℕ → Pos × (Option Condition × Pos) → List WeighedToken
exit_spelling d = joined (word_spelling w.KwExit) (joined (maybe_spelled (condition_spelling d)) semicolon_spelling)

spelled_exit : (d : ℕ) (x : Pos × (Option Condition × Pos)) → stmt_spelling d (make_exit x) ≡ exit_spelling d x
spelled_exit d (pos, (Some x, semicolon)) = stmt-ExitWhen d pos x.0 x.1 semicolon
spelled_exit d (pos, (None, semicolon)) = stmt-Exit d pos semicolon

pub law_exit_stmt : (d : ℕ) → d ≤ NESTING
    → Law (exit_stmt d) (MadeOf make_exit (ExitParts d)) (stmt_spelling d) (of_word w.KwExit ∷ []) [] false
unfolding exit_stmt exit_condition
law_exit_stmt d h =
    law_made_of make_exit (stmt_spelling d)
    (law_seq (law_word Apart w.KwExit)
    (law_seq (law_optional (of_word w.KwWhen ∷ []) (law_seq (law_word Apart w.KwWhen) (law_expr d h) refl) refl) law_semicolon refl) refl)
    (spelled_exit d)

-- ---- "return" [expr] ";"

abbrev pub ReturnParts : ℕ → Pos × (Pos ⊎ (Expr × Pos)) → Type 0
ReturnParts d = Both Any (Either Any (Both (ExprPlaced d) Any))

abbrev return_spelling : ℕ → Pos × (Pos ⊎ (Expr × Pos)) → List WeighedToken
return_spelling d = joined (word_spelling w.KwReturn) (of_either semicolon_spelling (joined (expr_spelling d) semicolon_spelling))

spelled_return : (d : ℕ) (x : Pos × (Pos ⊎ (Expr × Pos))) → stmt_spelling d (make_return x) ≡ return_spelling d x
spelled_return d (pos, inl semicolon) = stmt-Return d pos semicolon
spelled_return d (pos, inr x) = stmt-ReturnValue d pos x.0 x.1

pub law_return_stmt : (d : ℕ) → d ≤ NESTING
    → Law (return_stmt d) (MadeOf make_return (ReturnParts d)) (stmt_spelling d) (of_word w.KwReturn ∷ []) [] false
unfolding return_stmt
law_return_stmt d h =
    law_made_of make_return (stmt_spelling d)
    (law_seq (law_word Apart w.KwReturn)
    (law_choose (of_symbol s.Semicolon ∷ []) law_semicolon (law_seq (law_expr d h) law_semicolon refl) refl refl) refl)
    (spelled_return d)
