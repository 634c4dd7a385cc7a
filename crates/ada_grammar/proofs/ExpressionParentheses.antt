-- The law of the reader of what stands in parentheses, over a reader of the expressions in them.
use Rattle.std.proofs.Common.{◌≡◌, refl, sym, ap, ◌∙◌, subst, ℕ, suc, false, List, [], ◌∷◌, ◌++◌, inl, inr}
use Rattle.spark_base.specs.declared.position.Pos.{Pos}
use Rattle.ada_lexer.specs.declared.token.Reserved.TheVariants as w
use Rattle.ada_lexer.specs.declared.token.Symbol.TheVariants as s
use Rattle.ada_tree.specs.declared.identifier.Identifier.{Identifier}
use Rattle.ada_tree.specs.declared.expression.Aggregate.{Aggregate}
use Rattle.ada_tree.specs.declared.expression.Aggregate.TheVariants as of_aggregate
use Rattle.ada_tree.specs.declared.expression.Aggregate.TheBlock.{shape-the_row-Expr-2, hidden-the_row-Expr-2}
use Rattle.ada_tree.specs.declared.expression.Arg.{Arg}
use Rattle.ada_tree.specs.declared.expression.Arg.TheVariants as of_arg
use Rattle.ada_tree.specs.declared.expression.Expr.{Expr}
use Rattle.ada_tree.specs.declared.expression.Primary.{Primary}
use Rattle.ada_tree.specs.declared.expression.Primary.TheVariants as of_primary
use Rattle.ada_tree.specs.Positions.{expr_position, aggregate_position}
use Rattle.ada_tree.specs.Spelling.{symbol, arg_spelling, expr_spelling, rel_spelling, primary_spelling, aggregate_spelling}
use Rattle.ada_tree.specs.WellPlaced.{StartsAt, ArgPlaced, ExprPlaced, PrimaryPlaced, AggregatePlaced}
use Rattle.ada_grammar.proofs.Levels.{arg-Positional, arg-Association, expr-LoneRelation, expr-And, expr-Or, expr-Xor, expr-AndThen, expr-OrElse, primary-Parenthesized, primary-Aggregated, aggregate-Several, aggregate-Single, aggregate-Others}
use Rattle.ada_grammar.proofs.PlacedLevels.{arg-Positional-placed, arg-Association-placed, expr-LoneRelation-placed, expr-And-placed, expr-Or-placed, expr-Xor-placed, expr-AndThen-placed, expr-OrElse-placed, primary-Parenthesized-placed, primary-Aggregated-placed, aggregate-Several-placed, aggregate-Single-placed, aggregate-Others-placed}
use Rattle.ada_tree.proofs.Forms.{arg_form, expr_form, primary_form, aggregate_form}
use denote.Hole.Carrier.{hidden}
use Rattle.token_reading.specs.declared.side.Side.TheVariants.{Within}
use Rattle.token_reading.specs.Spelled.{Word, Delimiter}
use Rattle.token_reading.specs.Weights.{WeighedToken, plain, opens}
use Rattle.token_reading.specs.Reading.{Reader, of_word, of_symbol}
use Rattle.token_reading.proofs.Law.{Law}
use Rattle.token_reading.proofs.Tokens.{Any, some_position, some_same, law_word, law_symbol}
use Rattle.token_reading.proofs.Seq.{Both, joined, law_seq}
use Rattle.token_reading.proofs.Made.{law_to}
use Rattle.token_reading.proofs.Choice.{Either, of_either, law_choose}
use Rattle.token_reading.proofs.Nesting.{law_opened_symbol}
use Rattle.ada_grammar.specs.Expressions.{InnerParts, make_single, make_parenthesized, parenthesized_in}
use Rattle.ada_grammar.proofs.ExpressionArgs.{holds, gives, law_arg_in, law_next_args_in, some_arg, some_arg_placed}
use Rattle.ada_grammar.proofs.ExpressionSuffixes.{InnerLaw, GoodArgs, args_spelling}

-- ---- where parts begin

starts_more : (pos : Pos) (ms ns : List WeighedToken) → StartsAt pos ms → StartsAt pos (ms ++ ns)
starts_more pos [] ns starts = absurd starts
starts_more pos (m ∷ ms) ns starts = starts

starts_same : (pos : Pos) (ms ns : List WeighedToken) → ms ≡ ns → StartsAt pos ns → StartsAt pos ms
starts_same pos ms ns e starts = subst (λ ks. StartsAt pos ks) (sym e) starts

-- An expression begins at its position.
pub expr_starts : (d : ℕ) (x : Expr) → ExprPlaced d x → StartsAt (expr_position x) (expr_spelling d x)
expr_starts d =
    expr_form (λ x. ExprPlaced d x → StartsAt (expr_position x) (expr_spelling d x))
    (λ pos relation placed. starts_same pos _ _ (expr-LoneRelation d pos relation) (gives (expr-LoneRelation-placed d pos relation) placed).0)
    (λ pos first and second rest placed.
    starts_same pos _ _ (expr-And d pos first and second rest)
    (starts_more pos (rel_spelling d first) _ (gives (expr-And-placed d pos first and second rest) placed).0))
    (λ pos first or second rest placed.
    starts_same pos _ _ (expr-Or d pos first or second rest)
    (starts_more pos (rel_spelling d first) _ (gives (expr-Or-placed d pos first or second rest) placed).0))
    (λ pos first xor second rest placed.
    starts_same pos _ _ (expr-Xor d pos first xor second rest)
    (starts_more pos (rel_spelling d first) _ (gives (expr-Xor-placed d pos first xor second rest) placed).0))
    (λ pos first and other second rest placed.
    starts_same pos _ _ (expr-AndThen d pos first and other second rest)
    (starts_more pos (rel_spelling d first) _ (gives (expr-AndThen-placed d pos first and other second rest) placed).0))
    (λ pos first or other second rest placed.
    starts_same pos _ _ (expr-OrElse d pos first or other second rest)
    (starts_more pos (rel_spelling d first) _ (gives (expr-OrElse-placed d pos first or other second rest) placed).0))

-- An aggregate begins at its position.
pub aggregate_starts : (d : ℕ) (x : Aggregate) → StartsAt (aggregate_position x) (aggregate_spelling d x)
aggregate_starts d =
    aggregate_form (λ x. StartsAt (aggregate_position x) (aggregate_spelling d x))
    (λ pos first comma second rest right. starts_same pos _ _ (aggregate-Several d pos first comma second rest right) refl)
    (λ pos id arrow value right. starts_same pos _ _ (aggregate-Single d pos id arrow value right) refl)
    (λ pos others arrow value right. starts_same pos _ _ (aggregate-Others d pos others arrow value right) refl)

starts_once : (p q : Pos) (ms : List WeighedToken) → StartsAt p ms → StartsAt q ms → p ≡ q
starts_once p q [] at as_well = absurd at
starts_once p q (m ∷ ms) at as_well = some_same p q (sym at ∙ as_well)

-- ---- what stands in parentheses

unfoldable pub InParentheses : Primary → Type 0
InParentheses (of_primary.Parenthesized' _ _ _ _) = Unit {0}
InParentheses (of_primary.Aggregated' _ _ _) = Unit {0}
InParentheses _ = ⊥

abbrev pub GoodParenthesized : ℕ → Primary → Type 0
GoodParenthesized d x = PrimaryPlaced d x × InParentheses x

single_positional : (left right pos : Pos) (value : Expr) → make_single left right (of_arg.Positional pos value) ≡ of_primary.Parenthesized left value right
unfolding hidden-the_row-Expr-2 shape-the_row-Expr-2 hidden
single_positional left right pos value = refl

single_association : (left right pos : Pos) (id : Identifier) (arrow : Pos) (value : Expr)
    → make_single left right (of_arg.Association pos id arrow value) ≡ of_primary.Aggregated left (of_aggregate.Single left id arrow value right)
unfolding hidden-the_row-Expr-2 shape-the_row-Expr-2 hidden
single_association left right pos id arrow value = refl

pub good_aggregated : (d : ℕ) (x : Aggregate) → AggregatePlaced d x → GoodParenthesized d (of_primary.Aggregated (aggregate_position x) x)
unfolding InParentheses
good_aggregated d x placed = (holds (primary-Aggregated-placed d (aggregate_position x) x) (aggregate_starts d x, placed), tt)

pub good_parentheses : (d : ℕ) (left : Pos) (x : Expr) (right : Pos) → ExprPlaced (suc d) x → GoodParenthesized d (of_primary.Parenthesized left x right)
unfolding InParentheses
good_parentheses d left x right placed = (holds (primary-Parenthesized-placed d left x right) placed, tt)

good_single : (d : ℕ) (left right : Pos) (a : Arg) → ArgPlaced (suc d) a → GoodParenthesized d (make_single left right a)
good_single d left right =
    arg_form (λ a. ArgPlaced (suc d) a → GoodParenthesized d (make_single left right a))
    (λ pos value placed.
    subst (λ x. GoodParenthesized d x) (sym (single_positional left right pos value))
    (good_parentheses d left value right (gives (arg-Positional-placed (suc d) pos value) placed).1))
    (λ pos id arrow value placed.
    subst (λ x. GoodParenthesized d x) (sym (single_association left right pos id arrow value))
    (good_aggregated d (of_aggregate.Single left id arrow value right)
    (holds (aggregate-Single-placed d left id arrow value right) (gives (arg-Association-placed (suc d) pos id arrow value) placed).1)))

spelled_single : (d : ℕ) (left right : Pos) (a : Arg) → primary_spelling d (make_single left right a)
    ≡ opens Within d (Delimiter s.LeftParenthesis left) ∷ (arg_spelling Within (suc d) a ++ (symbol Within s.RightParenthesis right ∷ []))
spelled_single d left right =
    arg_form (λ a. primary_spelling d (make_single left right a)
    ≡ opens Within d (Delimiter s.LeftParenthesis left) ∷ (arg_spelling Within (suc d) a ++ (symbol Within s.RightParenthesis right ∷ [])))
    (λ pos value.
    ap (primary_spelling d) (single_positional left right pos value) ∙ primary-Parenthesized d left value right
    ∙ ap (λ ms. opens Within d (Delimiter s.LeftParenthesis left) ∷ (ms ++ (symbol Within s.RightParenthesis right ∷ [])))
    (sym (arg-Positional Within (suc d) pos value)))
    (λ pos id arrow value.
    ap (primary_spelling d) (single_association left right pos id arrow value)
    ∙ primary-Aggregated d left (of_aggregate.Single left id arrow value right) ∙ aggregate-Single d left id arrow value right
    ∙ ap (λ ms. opens Within d (Delimiter s.LeftParenthesis left) ∷ (ms ++ (symbol Within s.RightParenthesis right ∷ [])))
    (sym (arg-Association Within (suc d) pos id arrow value)))

abbrev GoodInner : ℕ → InnerParts → Type 0
GoodInner d = Either (Both Any (Both Any (Both (ExprPlaced d) Any))) (Both (ArgPlaced d) (Either (Both Any (GoodArgs d)) Any))

abbrev others_spelling : ℕ → Pos × (Pos × (Expr × Pos)) → List WeighedToken
others_spelling d =
    joined (λ p. plain Within (Word w.KwOthers p) ∷ []) (joined (λ p. plain Within (Delimiter s.Arrow p) ∷ [])
    (joined (expr_spelling d) (λ p. plain Within (Delimiter s.RightParenthesis p) ∷ [])))

abbrev inner_spelling : ℕ → InnerParts → List WeighedToken
inner_spelling d =
    of_either (others_spelling d) (joined (arg_spelling Within d)
    (of_either (joined (λ p. plain Within (Delimiter s.Comma p) ∷ []) (args_spelling Within d)) (λ p. plain Within (Delimiter s.RightParenthesis p) ∷ [])))

abbrev GoodParts : ℕ → Pos × InnerParts → Type 0
GoodParts d = Both Any (GoodInner (suc d))

abbrev parts_spelling : ℕ → Pos × InnerParts → List WeighedToken
parts_spelling d = joined (λ p. opens Within d (Delimiter s.LeftParenthesis p) ∷ []) (inner_spelling (suc d))

good_parenthesized : (d : ℕ) (x : Pos × InnerParts) → GoodParts d x → GoodParenthesized d (make_parenthesized x)
good_parenthesized d (left, inl (others, (arrow, (value, right)))) good =
    good_aggregated d (of_aggregate.Others left others arrow value right) (holds (aggregate-Others-placed d left others arrow value right) good.1.1.1.0)
good_parenthesized d (left, inr (first, inl (comma, (second, (rest, right))))) good =
    good_aggregated d (of_aggregate.Several left first comma second rest right)
    (holds (aggregate-Several-placed d left first comma second rest right) (good.1.0, good.1.1.1.0, good.1.1.1.1.0))
good_parenthesized d (left, inr (first, inr right)) good = good_single d left right first good.1.0

spelled_parenthesized : (d : ℕ) (x : Pos × InnerParts) → primary_spelling d (make_parenthesized x) ≡ parts_spelling d x
spelled_parenthesized d (left, inl (others, (arrow, (value, right)))) =
    primary-Aggregated d left (of_aggregate.Others left others arrow value right) ∙ aggregate-Others d left others arrow value right
spelled_parenthesized d (left, inr (first, inl (comma, (second, (rest, right))))) =
    primary-Aggregated d left (of_aggregate.Several left first comma second rest right) ∙ aggregate-Several d left first comma second rest right
spelled_parenthesized d (left, inr (first, inr right)) = spelled_single d left right first

abbrev OntoParts : ℕ → Primary → Type 0
OntoParts d a = (x : Pos × InnerParts) × (GoodParts d x × (make_parenthesized x ≡ a))

onto_parentheses : (d : ℕ) (left : Pos) (value : Expr) (right : Pos) → ExprPlaced (suc d) value → OntoParts d (of_primary.Parenthesized left value right)
onto_parentheses d left value right placed =
    let pos : Pos = expr_position value in (
      (left, inr (of_arg.Positional pos value, inr right)),
      ((tt, (holds (arg-Positional-placed (suc d) pos value) (expr_starts (suc d) value placed, placed), tt)), single_positional left right pos value),
    )

onto_own : (d : ℕ) (x : Aggregate) → AggregatePlaced d x → OntoParts d (of_primary.Aggregated (aggregate_position x) x)
onto_own d =
    aggregate_form (λ x. AggregatePlaced d x → OntoParts d (of_primary.Aggregated (aggregate_position x) x))
    (λ pos first comma second rest right placed.
    let parts = gives (aggregate-Several-placed d pos first comma second rest right) placed in
    ((pos, inr (first, inl (comma, (second, (rest, right))))), ((tt, (parts.0, (tt, (parts.1, (parts.2, tt))))), refl)))
    (λ pos id arrow value right placed. (
      (pos, inr (of_arg.Association id.pos id arrow value, inr right)),
      (
        (tt, (holds (arg-Association-placed (suc d) id.pos id arrow value) (refl, gives (aggregate-Single-placed d pos id arrow value right) placed), tt)),
        single_association pos right id.pos id arrow value,
      ),
    ))
    (λ pos others arrow value right placed. (
      (pos, inl (others, (arrow, (value, right)))),
      ((tt, (tt, (tt, (gives (aggregate-Others-placed d pos others arrow value right) placed, tt)))), refl),
    ))

onto_aggregated : (d : ℕ) (pos : Pos) (x : Aggregate) → PrimaryPlaced d (of_primary.Aggregated pos x) → OntoParts d (of_primary.Aggregated pos x)
onto_aggregated d pos x placed =
    let parts = gives (primary-Aggregated-placed d pos x) placed in
    let same : aggregate_position x ≡ pos = starts_once (aggregate_position x) pos (aggregate_spelling d x) (aggregate_starts d x) parts.0 in
    subst (λ p. OntoParts d (of_primary.Aggregated p x)) same (onto_own d x parts.1)

onto_parenthesized : (d : ℕ) (a : Primary) → GoodParenthesized d a → OntoParts d a
unfolding InParentheses
onto_parenthesized d =
    primary_form (λ a. GoodParenthesized d a → OntoParts d a)
    (λ pos number good. absurd good.1) (λ pos text good. absurd good.1) (λ pos good. absurd good.1) (λ pos part good. absurd good.1)
    (λ pos value right good. onto_parentheses d pos value right (gives (primary-Parenthesized-placed d pos value right) good.0))
    (λ pos part good. onto_aggregated d pos part good.0)
    (λ pos mark good. absurd good.1) (λ pos mark tick part good. absurd good.1) (λ pos mark tick left value right good. absurd good.1)

pub law_parenthesized_in : (d : ℕ) (inner : Reader Expr) → InnerLaw d inner
    → Law (parenthesized_in d inner) (GoodParenthesized d) (primary_spelling d) (of_symbol s.LeftParenthesis ∷ []) [] false
unfolding parenthesized_in
law_parenthesized_in d inner L =
    law_to make_parenthesized (GoodParenthesized d) (primary_spelling d)
    (law_opened_symbol (inr (some_arg, inr some_position)) (some_arg_placed (suc d), tt) Within s.LeftParenthesis d
    (λ e. law_choose (of_word w.KwOthers ∷ [])
    (law_seq (law_word Within w.KwOthers) (law_seq (law_symbol Within s.Arrow) (law_seq (L e) (law_symbol Within s.RightParenthesis) refl) refl) refl)
    (law_seq (law_arg_in Within (suc d) inner (L e)) (law_choose (of_symbol s.Comma ∷ [])
    (law_seq (law_symbol Within s.Comma) (law_seq (law_arg_in Within (suc d) inner (L e))
    (law_seq (law_next_args_in Within (suc d) inner (L e)) (law_symbol Within s.RightParenthesis) refl) refl) refl)
    (law_symbol Within s.RightParenthesis) refl refl) refl) refl refl))
    (good_parenthesized d) (λ x good. spelled_parenthesized d x) (onto_parenthesized d)
