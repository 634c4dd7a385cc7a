-- The laws of `if` and `case`, over the law of the statements within them, which is there where a
-- level is left.
use Rattle.std.proofs.Common.{◌≡◌, refl, ℕ, suc, ◌≤◌, true, false, List, [], ◌∷◌, Some, None}
use Rattle.std.proofs.Math.Path.{transport, transport⁻¹}
use Rattle.std.specs.List.{flat_map}
use lib.Dec.{leb}
use Rattle.spark_base.specs.declared.position.Pos.{Pos}
use Rattle.spark_base.specs.declared.limits.TheConstants.{NESTING}
use Rattle.ada_lexer.specs.declared.token.Reserved.{Reserved}
use Rattle.ada_lexer.specs.declared.token.Reserved.TheVariants as w
use Rattle.ada_lexer.specs.declared.token.Symbol.TheVariants as s
use Rattle.token_reading.specs.declared.side.Side.TheVariants.{Apart}
use Rattle.token_reading.specs.Spelled.{Word}
use Rattle.token_reading.specs.Weights.{WeighedToken, opens}
use Rattle.token_reading.specs.Reading.{Reader, of_word, of_symbol, Each}
use Rattle.token_reading.proofs.Law.{Law}
use Rattle.token_reading.proofs.Tokens.{Any, some_position, law_word, law_symbol}
use Rattle.token_reading.proofs.Seq.{Both, joined, law_seq}
use Rattle.token_reading.proofs.Made.{law_to, law_wider}
use Rattle.token_reading.proofs.Choice.{Maybe, maybe_spelled, law_optional}
use Rattle.token_reading.proofs.Many.{law_each}
use Rattle.token_reading.proofs.Nesting.{law_opened_word}
use Rattle.ada_tree.specs.declared.expression.Expr.{Expr}
use Rattle.ada_tree.specs.declared.range.Choice.{Choice}
use Rattle.ada_tree.specs.declared.range.NextChoice.{NextChoice}
use Rattle.ada_tree.specs.declared.statement.Stmts.{Stmts}
use Rattle.ada_tree.specs.declared.statement.Elsif.{Elsif}
use Rattle.ada_tree.specs.declared.statement.When.{When}
use Rattle.ada_tree.specs.Spelling.{expr_spelling, stmts_spelling, stmt_spelling, elsif_spelling, when_spelling}
use Rattle.ada_tree.specs.WellPlaced.{ExprPlaced, ChoicePlaced, NextChoicePlaced, StmtsPlaced, ElsifPlaced, WhenPlaced}
use Rattle.ada_tree.specs.FixedNames.{StmtsNamed, ElsifNamed, WhenNamed}
use Rattle.ada_grammar.proofs.StatementForms.{elsif_form, when_form}
use Rattle.ada_grammar.proofs.StatementLevels.{stmt-If, stmt-IfElse, stmt-Case, branch-Branch, alternative-Alternative}
use Rattle.ada_grammar.proofs.StatementPlacedLevels.{branch-Branch-placed, alternative-Alternative-placed}
use Rattle.ada_grammar.proofs.StatementNamedLevels.{branch-Branch-named, alternative-Alternative-named}
use Rattle.ada_grammar.specs.Statements.{Ending, Otherwise, make_elsif, elsif_in, elsifs_in, otherwise_in, make_if, if_in, make_when, when_in, next_whens_in, make_case, case_in, stmt_first, stmts_last}
use Rattle.ada_grammar.proofs.ExpressionLaws.{law_expr}
use Rattle.ada_grammar.proofs.Range.{law_choice, law_next_choice}
use Rattle.ada_grammar.proofs.StatementParts.{MadeOf, law_made_of, opened_within}
use Rattle.ada_grammar.proofs.SmallTrees.{some_expr, some_expr_placed, some_stmts, some_stmts_good, some_when, some_when_good}
use Rattle.ada_grammar.proofs.SimpleStatements.{word_spelling, ending_spelling, AnyEnding, law_ending}

abbrev pub opens_spelling : Reserved → ℕ → Pos → List WeighedToken
opens_spelling v d pos = opens Apart d (Word v pos) ∷ []

abbrev pub GoodStmts : ℕ → Stmts → Type 0
GoodStmts d x = StmtsPlaced d x × StmtsNamed x

abbrev pub GoodElsif : ℕ → Elsif → Type 0
GoodElsif d x = ElsifPlaced d x × ElsifNamed x

abbrev pub GoodWhen : ℕ → When → Type 0
GoodWhen d x = WhenPlaced d x × WhenNamed x

-- The law of a reader of statements where so many constructs are open.
abbrev pub InnerLaw : ℕ → Reader Stmts → Type 0
InnerLaw d inner = Law inner (GoodStmts d) (stmts_spelling d) stmt_first stmts_last false

-- ---- "elsif" expr "then" stmts

abbrev ElsifParts : ℕ → Pos × (Expr × (Pos × Stmts)) → Type 0
ElsifParts d = Both Any (Both (ExprPlaced d) (Both Any (GoodStmts d)))

good_elsif : (d : ℕ) (x : Pos × (Expr × (Pos × Stmts))) → ElsifParts d x → GoodElsif d (make_elsif x)
good_elsif d x good = (
  transport⁻¹ (branch-Branch-placed d x.0 x.1.0 x.1.1.0 x.1.1.1) (good.1.0, good.1.1.1.0),
  transport⁻¹ (branch-Branch-named x.0 x.1.0 x.1.1.0 x.1.1.1) good.1.1.1.1,
)

onto_elsif : (d : ℕ) (b : Elsif) → GoodElsif d b → MadeOf make_elsif (ElsifParts d) b
onto_elsif d =
    elsif_form (λ b. GoodElsif d b → MadeOf make_elsif (ElsifParts d) b)
    (λ pos condition then body good.
    let placed = transport (branch-Branch-placed d pos condition then body) good.0 in
    let named = transport (branch-Branch-named pos condition then body) good.1 in
    ((pos, (condition, (then, body))), ((tt, (placed.0, (tt, (placed.1, named)))), refl)))

pub law_elsif_in : (d : ℕ) → d ≤ NESTING → (inner : Reader Stmts) → InnerLaw d inner
    → Law (elsif_in d inner) (GoodElsif d) (elsif_spelling d) (of_word w.KwElsif ∷ []) stmts_last false
unfolding elsif_in
law_elsif_in d h inner L =
    law_to make_elsif (GoodElsif d) (elsif_spelling d)
    (law_seq (law_word Apart w.KwElsif) (law_seq (law_expr d h) (law_seq (law_word Apart w.KwThen) L refl) refl) refl)
    (good_elsif d) (λ x good. branch-Branch d x.0 x.1.0 x.1.1.0 x.1.1.1) (onto_elsif d)

-- ---- "if" expr "then" stmts {"elsif" expr "then" stmts} ["else" stmts] "end" "if" ";"

abbrev IfParts : Type 0
IfParts = Pos × (Expr × (Pos × (Stmts × (List Elsif × (Otherwise × Ending)))))

abbrev otherwise_spelling : ℕ → Otherwise → List WeighedToken
otherwise_spelling d = maybe_spelled (joined (word_spelling w.KwElse) (stmts_spelling d))

abbrev GoodOtherwise : ℕ → Otherwise → Type 0
GoodOtherwise d = Maybe (Both Any (GoodStmts d))

abbrev GoodRestOfIf : ℕ → Expr × (Pos × (Stmts × (List Elsif × (Otherwise × Ending)))) → Type 0
GoodRestOfIf d =
    Both (ExprPlaced d) (Both Any (Both (GoodStmts d) (Both (Each (GoodElsif d)) (Both (GoodOtherwise d) AnyEnding))))

abbrev pub GoodIf : ℕ → IfParts → Type 0
GoodIf d = Both Any (GoodRestOfIf (suc d))

abbrev if_spelling : ℕ → IfParts → List WeighedToken
if_spelling d =
    joined (opens_spelling w.KwIf d) (joined (expr_spelling (suc d)) (joined (word_spelling w.KwThen) (joined (stmts_spelling (suc d))
    (joined (flat_map (elsif_spelling (suc d))) (joined (otherwise_spelling (suc d)) (ending_spelling w.KwIf))))))

spelled_if : (d : ℕ) (x : IfParts) → stmt_spelling d (make_if x) ≡ if_spelling d x
spelled_if d (pos, (condition, (then, (body, (elsifs, (None, end)))))) =
    stmt-If d pos condition then body elsifs end.0 end.1.0 end.1.1
spelled_if d (pos, (condition, (then, (body, (elsifs, (Some x, end)))))) =
    stmt-IfElse d pos condition then body elsifs x.0 x.1 end.0 end.1.0 end.1.1

law_elsifs_in : (d : ℕ) → d ≤ NESTING → (inner : Reader Stmts) → InnerLaw d inner
    → Law (elsifs_in d inner) (Each (GoodElsif d)) (flat_map (elsif_spelling d)) (of_word w.KwElsif ∷ []) (of_word w.KwElsif ∷ stmts_last) true
unfolding elsifs_in
law_elsifs_in d h inner L = law_each (of_word w.KwElsif ∷ []) (law_elsif_in d h inner L) refl refl

law_otherwise_in : (d : ℕ) (inner : Reader Stmts) → InnerLaw d inner
    → Law (otherwise_in inner) (GoodOtherwise d) (otherwise_spelling d) (of_word w.KwElse ∷ []) (of_word w.KwElse ∷ stmts_last) true
unfolding otherwise_in
law_otherwise_in d inner L = law_wider (of_word w.KwElse ∷ []) (of_word w.KwElse ∷ stmts_last)
    (law_optional (of_word w.KwElse ∷ []) (law_seq (law_word Apart w.KwElse) L refl) refl) refl refl

pub law_if_in : (d : ℕ) (inner : Reader Stmts) → (leb NESTING d ≡ false → InnerLaw (suc d) inner)
    → Law (if_in d inner) (MadeOf make_if (GoodIf d)) (stmt_spelling d) (of_word w.KwIf ∷ []) [] false
unfolding if_in
law_if_in d inner L =
    law_made_of make_if (stmt_spelling d)
    (law_opened_word (some_expr, (some_position, (some_stmts, ([], (None, (some_position, (some_position, some_position)))))))
    (some_expr_placed (suc d), (tt, (some_stmts_good (suc d), (tt, (tt, (tt, (tt, tt)))))))
    w.KwIf d
    (λ left. law_seq (law_expr (suc d) (opened_within d left)) (law_seq (law_word Apart w.KwThen) (law_seq (L left)
    (law_seq (law_elsifs_in (suc d) (opened_within d left) inner (L left))
    (law_seq (law_otherwise_in (suc d) inner (L left)) (law_ending w.KwIf) refl) refl) refl) refl) refl))
    (spelled_if d)

-- ---- "when" choice {"|" choice} "=>" stmts

abbrev WhenParts : Type 0
WhenParts = Pos × (Choice × (List NextChoice × (Pos × Stmts)))

abbrev GoodWhenParts : ℕ → WhenParts → Type 0
GoodWhenParts d = Both Any (Both (ChoicePlaced d) (Both (Each (NextChoicePlaced d)) (Both Any (GoodStmts d))))

good_when : (d : ℕ) (x : WhenParts) → GoodWhenParts d x → GoodWhen d (make_when x)
good_when d x good = (
  transport⁻¹ (alternative-Alternative-placed d x.0 x.1.0 x.1.1.0 x.1.1.1.0 x.1.1.1.1) (good.1.0, good.1.1.0, good.1.1.1.1.0),
  transport⁻¹ (alternative-Alternative-named x.0 x.1.0 x.1.1.0 x.1.1.1.0 x.1.1.1.1) good.1.1.1.1.1,
)

onto_when : (d : ℕ) (b : When) → GoodWhen d b → MadeOf make_when (GoodWhenParts d) b
onto_when d =
    when_form (λ b. GoodWhen d b → MadeOf make_when (GoodWhenParts d) b)
    (λ pos first rest arrow body good.
    let placed = transport (alternative-Alternative-placed d pos first rest arrow body) good.0 in
    let named = transport (alternative-Alternative-named pos first rest arrow body) good.1 in
    ((pos, (first, (rest, (arrow, body)))), ((tt, (placed.0, (placed.1, (tt, (placed.2, named))))), refl)))

pub law_when_in : (d : ℕ) → d ≤ NESTING → (inner : Reader Stmts) → InnerLaw d inner
    → Law (when_in d inner) (GoodWhen d) (when_spelling d) (of_word w.KwWhen ∷ []) stmts_last false
unfolding when_in
law_when_in d h inner L =
    law_to make_when (GoodWhen d) (when_spelling d)
    (law_seq (law_word Apart w.KwWhen) (law_seq (law_choice d h)
    (law_seq (law_each (of_symbol s.Bar ∷ []) (law_next_choice d h) refl refl) (law_seq (law_symbol Apart s.Arrow) L refl) refl) refl) refl)
    (good_when d) (λ x good. alternative-Alternative d x.0 x.1.0 x.1.1.0 x.1.1.1.0 x.1.1.1.1) (onto_when d)

-- ---- "case" expr "is" when {when} "end" "case" ";"

abbrev CaseParts : Type 0
CaseParts = Pos × (Expr × (Pos × (When × (List When × Ending))))

abbrev pub GoodCase : ℕ → CaseParts → Type 0
GoodCase d =
    Both Any (Both (ExprPlaced (suc d)) (Both Any (Both (GoodWhen (suc d)) (Both (Each (GoodWhen (suc d))) AnyEnding))))

law_next_whens_in : (d : ℕ) → d ≤ NESTING → (inner : Reader Stmts) → InnerLaw d inner
    → Law (next_whens_in d inner) (Each (GoodWhen d)) (flat_map (when_spelling d)) (of_word w.KwWhen ∷ []) (of_word w.KwWhen ∷ stmts_last) true
unfolding next_whens_in
law_next_whens_in d h inner L = law_each (of_word w.KwWhen ∷ []) (law_when_in d h inner L) refl refl

pub law_case_in : (d : ℕ) (inner : Reader Stmts) → (leb NESTING d ≡ false → InnerLaw (suc d) inner)
    → Law (case_in d inner) (MadeOf make_case (GoodCase d)) (stmt_spelling d) (of_word w.KwCase ∷ []) [] false
unfolding case_in
law_case_in d inner L =
    law_made_of make_case (stmt_spelling d)
    (law_opened_word (some_expr, (some_position, (some_when, ([], (some_position, (some_position, some_position))))))
    (some_expr_placed (suc d), (tt, (some_when_good (suc d), (tt, (tt, (tt, tt))))))
    w.KwCase d
    (λ left. law_seq (law_expr (suc d) (opened_within d left)) (law_seq (law_word Apart w.KwIs)
    (law_seq (law_when_in (suc d) (opened_within d left) inner (L left))
    (law_seq (law_next_whens_in (suc d) (opened_within d left) inner (L left)) (law_ending w.KwCase) refl) refl) refl) refl))
    (λ x. stmt-Case d x.0 x.1.0 x.1.1.0 x.1.1.1.0 x.1.1.1.1.0 x.1.1.1.1.1.0 x.1.1.1.1.1.1.0 x.1.1.1.1.1.1.1)
