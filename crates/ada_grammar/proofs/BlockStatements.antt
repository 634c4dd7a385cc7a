-- The laws of loops and blocks, over the law of the statements within them, which is there where a
-- level is left.
use Rattle.std.proofs.Common.{◌≡◌, refl, ℕ, suc, false, List, [], ◌∷◌, Option, Some, None}
use lib.Dec.{leb}
use Rattle.spark_base.specs.declared.position.Pos.{Pos}
use Rattle.spark_base.specs.declared.limits.TheConstants.{NESTING}
use Rattle.ada_lexer.specs.declared.token.Reserved.TheVariants as w
use Rattle.token_reading.specs.declared.side.Side.TheVariants.{Apart}
use Rattle.token_reading.specs.Weights.{WeighedToken}
use Rattle.token_reading.specs.Reading.{Reader, of_word, Each}
use Rattle.token_reading.proofs.Law.{Law}
use Rattle.token_reading.proofs.Tokens.{Any, some_position, law_word}
use Rattle.token_reading.proofs.Seq.{Both, joined, law_seq}
use Rattle.token_reading.proofs.Choice.{Maybe, maybe_spelled, law_optional}
use Rattle.token_reading.proofs.Many.{law_each}
use Rattle.token_reading.proofs.Nesting.{law_opened_word}
use Rattle.ada_tree.specs.declared.identifier.Identifier.{Identifier}
use Rattle.ada_tree.specs.declared.expression.Expr.{Expr}
use Rattle.ada_tree.specs.declared.range.Range.{Range}
use Rattle.ada_tree.specs.declared.declaration.Item.{Item}
use Rattle.ada_tree.specs.declared.statement.Stmts.{Stmts}
use Rattle.ada_tree.specs.Spelling.{id_mark, range_spelling, stmts_spelling, stmt_spelling}
use Rattle.ada_tree.specs.WellPlaced.{ExprPlaced, RangePlaced, ItemPlaced}
use Rattle.ada_tree.specs.FixedNames.{ItemNamed}
use Rattle.ada_grammar.proofs.StatementLevels.{stmt-Loop, stmt-While, stmt-For, stmt-Block, stmt-DeclareBlock}
use Rattle.ada_grammar.specs.Items.{item_first}
use Rattle.ada_grammar.specs.Statements.{Ending, BlockEnding, LoopBody, make_loop, loop_in, loop_body_in, make_while, while_in, make_for, for_in, make_block, block_in, make_declare_block, declare_in}
use Rattle.ada_grammar.proofs.ExpressionNames.{law_identifier}
use Rattle.ada_grammar.proofs.ExpressionLaws.{law_expr}
use Rattle.ada_grammar.proofs.Range.{law_range}
use Rattle.ada_grammar.proofs.Item.{law_item}
use Rattle.ada_grammar.proofs.StatementParts.{MadeOf, law_made_of, opened_within}
use Rattle.ada_grammar.proofs.SmallTrees.{some_expr, some_expr_placed, some_identifier, some_range, some_range_placed, some_stmts, some_stmts_good}
use Rattle.ada_grammar.proofs.SimpleStatements.{word_spelling, ending_spelling, AnyEnding, law_ending, AnyBlockEnding, law_block_ending}
use Rattle.ada_grammar.proofs.BranchStatements.{opens_spelling, GoodStmts, InnerLaw}

-- ---- "loop" stmts "end" "loop" ";"

abbrev pub GoodLoop : ℕ → Pos × (Stmts × Ending) → Type 0
GoodLoop d = Both Any (Both (GoodStmts (suc d)) AnyEnding)

pub law_loop_in : (d : ℕ) (inner : Reader Stmts) → (leb NESTING d ≡ false → InnerLaw (suc d) inner)
    → Law (loop_in d inner) (MadeOf make_loop (GoodLoop d)) (stmt_spelling d) (of_word w.KwLoop ∷ []) [] false
unfolding loop_in
law_loop_in d inner L =
    law_made_of make_loop (stmt_spelling d)
    (law_opened_word (some_stmts, (some_position, (some_position, some_position))) (some_stmts_good (suc d), (tt, (tt, tt))) w.KwLoop d
    (λ left. law_seq (L left) (law_ending w.KwLoop) refl))
    (λ x. stmt-Loop d x.0 x.1.0 x.1.1.0 x.1.1.1.0 x.1.1.1.1)

abbrev GoodBody : ℕ → LoopBody → Type 0
GoodBody d = Both Any (Both (GoodStmts d) AnyEnding)

abbrev body_spelling : ℕ → LoopBody → List WeighedToken
body_spelling d = joined (word_spelling w.KwLoop) (joined (stmts_spelling d) (ending_spelling w.KwLoop))

law_loop_body_in : (d : ℕ) (inner : Reader Stmts) → InnerLaw d inner
    → Law (loop_body_in inner) (GoodBody d) (body_spelling d) (of_word w.KwLoop ∷ []) [] false
unfolding loop_body_in
law_loop_body_in d inner L = law_seq (law_word Apart w.KwLoop) (law_seq L (law_ending w.KwLoop) refl) refl

-- ---- "while" expr "loop" stmts "end" "loop" ";"

abbrev pub GoodWhile : ℕ → Pos × (Expr × LoopBody) → Type 0
GoodWhile d = Both Any (Both (ExprPlaced (suc d)) (GoodBody (suc d)))

pub law_while_in : (d : ℕ) (inner : Reader Stmts) → (leb NESTING d ≡ false → InnerLaw (suc d) inner)
    → Law (while_in d inner) (MadeOf make_while (GoodWhile d)) (stmt_spelling d) (of_word w.KwWhile ∷ []) [] false
unfolding while_in
law_while_in d inner L =
    law_made_of make_while (stmt_spelling d)
    (law_opened_word (some_expr, (some_position, (some_stmts, (some_position, (some_position, some_position)))))
    (some_expr_placed (suc d), (tt, (some_stmts_good (suc d), (tt, (tt, tt))))) w.KwWhile d
    (λ left. law_seq (law_expr (suc d) (opened_within d left)) (law_loop_body_in (suc d) inner (L left)) refl))
    (λ x. stmt-While d x.0 x.1.0 x.1.1.0 x.1.1.1.0 x.1.1.1.1.0 x.1.1.1.1.1.0 x.1.1.1.1.1.1)

-- ---- "for" id "in" ["reverse"] range "loop" stmts "end" "loop" ";"

abbrev ForParts : Type 0
ForParts = Pos × (Identifier × (Pos × (Option Pos × (Range × LoopBody))))

abbrev pub GoodFor : ℕ → ForParts → Type 0
GoodFor d = Both Any (Both Any (Both Any (Both (Maybe Any) (Both (RangePlaced (suc d)) (GoodBody (suc d))))))

abbrev for_spelling : ℕ → ForParts → List WeighedToken
for_spelling d =
    joined (opens_spelling w.KwFor d) (joined (λ id. id_mark Apart id ∷ []) (joined (word_spelling w.KwIn)
    (joined (maybe_spelled (word_spelling w.KwReverse)) (joined (range_spelling (suc d)) (body_spelling (suc d))))))

spelled_for : (d : ℕ) (x : ForParts) → stmt_spelling d (make_for x) ≡ for_spelling d x
spelled_for d (pos, (parameter, (in_word, (None, (over, x))))) =
    stmt-For d pos parameter in_word None over x.0 x.1.0 x.1.1.0 x.1.1.1.0 x.1.1.1.1
spelled_for d (pos, (parameter, (in_word, (Some reverse, (over, x))))) =
    stmt-For d pos parameter in_word (Some reverse) over x.0 x.1.0 x.1.1.0 x.1.1.1.0 x.1.1.1.1

pub law_for_in : (d : ℕ) (inner : Reader Stmts) → (leb NESTING d ≡ false → InnerLaw (suc d) inner)
    → Law (for_in d inner) (MadeOf make_for (GoodFor d)) (stmt_spelling d) (of_word w.KwFor ∷ []) [] false
unfolding for_in
law_for_in d inner L =
    law_made_of make_for (stmt_spelling d)
    (law_opened_word
    (some_identifier, (some_position, (None, (some_range, (some_position, (some_stmts, (some_position, (some_position, some_position))))))))
    (tt, (tt, (tt, (some_range_placed (suc d), (tt, (some_stmts_good (suc d), (tt, (tt, tt)))))))) w.KwFor d
    (λ left. law_seq (law_identifier Apart) (law_seq (law_word Apart w.KwIn)
    (law_seq (law_optional (of_word w.KwReverse ∷ []) (law_word Apart w.KwReverse) refl)
    (law_seq (law_range (suc d) (opened_within d left)) (law_loop_body_in (suc d) inner (L left)) refl) refl) refl) refl))
    (spelled_for d)

-- ---- "begin" stmts "end" ";"

abbrev pub GoodBlock : ℕ → Pos × (Stmts × BlockEnding) → Type 0
GoodBlock d = Both Any (Both (GoodStmts (suc d)) AnyBlockEnding)

pub law_block_in : (d : ℕ) (inner : Reader Stmts) → (leb NESTING d ≡ false → InnerLaw (suc d) inner)
    → Law (block_in d inner) (MadeOf make_block (GoodBlock d)) (stmt_spelling d) (of_word w.KwBegin ∷ []) [] false
unfolding block_in
law_block_in d inner L =
    law_made_of make_block (stmt_spelling d)
    (law_opened_word (some_stmts, (some_position, some_position)) (some_stmts_good (suc d), (tt, tt)) w.KwBegin d
    (λ left. law_seq (L left) law_block_ending refl))
    (λ x. stmt-Block d x.0 x.1.0 x.1.1.0 x.1.1.1)

-- ---- "declare" {item} "begin" stmts "end" ";"

abbrev DeclareParts : Type 0
DeclareParts = Pos × (List Item × (Pos × (Stmts × BlockEnding)))

abbrev pub GoodDeclare : ℕ → DeclareParts → Type 0
GoodDeclare d =
    Both Any (Both (Each (λ x. ItemPlaced (suc d) x × ItemNamed x)) (Both Any (Both (GoodStmts (suc d)) AnyBlockEnding)))

pub law_declare_in : (d : ℕ) (inner : Reader Stmts) → (leb NESTING d ≡ false → InnerLaw (suc d) inner)
    → Law (declare_in d inner) (MadeOf make_declare_block (GoodDeclare d)) (stmt_spelling d) (of_word w.KwDeclare ∷ []) [] false
unfolding declare_in
law_declare_in d inner L =
    law_made_of make_declare_block (stmt_spelling d)
    (law_opened_word ([], (some_position, (some_stmts, (some_position, some_position)))) (tt, (tt, (some_stmts_good (suc d), (tt, tt)))) w.KwDeclare d
    (λ left. law_seq (law_each item_first (law_item (suc d) (opened_within d left)) refl refl)
    (law_seq (law_word Apart w.KwBegin) (law_seq (L left) law_block_ending refl) refl) refl))
    (λ x. stmt-DeclareBlock d x.0 x.1.0 x.1.1.0 x.1.1.1.0 x.1.1.1.1.0 x.1.1.1.1.1)
