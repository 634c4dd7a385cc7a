-- The laws of the readers of factors, terms, sums and relations, over a reader of the expressions
-- in their parentheses.
use Rattle.std.proofs.Common.{◌≡◌, refl, sym, ◌∙◌, ℕ, false, List, [], ◌∷◌, Option, Some, None, ◌⊎◌, inl, inr}
use Rattle.std.specs.List.{flat_map}
use Rattle.std.proofs.lemmas.List.{append-nil}
use Rattle.spark_base.specs.declared.position.Pos.{Pos}
use Rattle.ada_lexer.specs.declared.token.Reserved.TheVariants as w
use Rattle.ada_tree.specs.declared.operator.RelationalOperator.{RelationalOperator}
use Rattle.ada_tree.specs.declared.operator.AddingOperator.{AddingOperator}
use Rattle.ada_tree.specs.declared.operator.MultiplyingOperator.{MultiplyingOperator}
use Rattle.ada_tree.specs.declared.expression.Expr.{Expr}
use Rattle.ada_tree.specs.declared.expression.Rel.{Rel}
use Rattle.ada_tree.specs.declared.expression.Sum.{Sum}
use Rattle.ada_tree.specs.declared.expression.NextTerm.{NextTerm}
use Rattle.ada_tree.specs.declared.expression.Term.{Term}
use Rattle.ada_tree.specs.declared.expression.NextFactor.{NextFactor}
use Rattle.ada_tree.specs.declared.expression.Factor.{Factor}
use Rattle.ada_tree.specs.declared.expression.Primary.{Primary}
use Rattle.ada_tree.specs.Spelling.{primary_spelling, factor_spelling, next_factor_spelling, term_spelling, next_term_spelling, sum_spelling, rel_spelling}
use Rattle.ada_tree.specs.WellPlaced.{StartsAt, PrimaryPlaced, FactorPlaced, NextFactorPlaced, TermPlaced, NextTermPlaced, SumPlaced, RelPlaced}
use Rattle.ada_grammar.proofs.Levels.{factor-LonePrimary, factor-Abs, factor-Not, next_factor-FurtherFactor, term-Product, next_term-FurtherTerm, sum-Unsigned, sum-Signed, rel-LoneSum, rel-Compared}
use Rattle.ada_grammar.proofs.PlacedLevels.{factor-LonePrimary-placed, factor-Abs-placed, factor-Not-placed, next_factor-FurtherFactor-placed, term-Product-placed, next_term-FurtherTerm-placed, sum-Unsigned-placed, sum-Signed-placed, rel-LoneSum-placed, rel-Compared-placed}
use Rattle.ada_tree.proofs.Forms.{factor_form, next_factor_form, term_form, next_term_form, sum_form, rel_form}
use Rattle.token_reading.specs.Spelled.{Word}
use Rattle.token_reading.specs.Weights.{WeighedToken, operates}
use Rattle.token_reading.specs.Reading.{Reader, of_word, Each}
use Rattle.token_reading.proofs.Law.{Law}
use Rattle.token_reading.proofs.Tokens.{Any, law_operator_word}
use Rattle.token_reading.proofs.Seq.{Both, joined, law_seq}
use Rattle.token_reading.proofs.Made.{law_to, law_wider}
use Rattle.token_reading.proofs.Choice.{Either, of_either, Maybe, maybe_spelled, law_choose, law_optional}
use Rattle.token_reading.proofs.Many.{law_each}
use Rattle.token_reading.proofs.Positions.{law_placed}
use Rattle.ada_grammar.specs.Expressions.{name_last, make_factor, factor_in, factor_first, make_next_factor, next_factor_in, multiplying_first, make_term, term_in, term_last, make_next_term, next_term_in, adding_first, SumParts, make_sum, sum_in, sign_first, sum_first, sum_last, make_rel, rel_in, relational_first, rel_last}
use Rattle.ada_grammar.proofs.ExpressionOperators.{law_multiplying, law_adding, signed_spelling, law_sign, relational_spelling, law_relational}
use Rattle.ada_grammar.proofs.ExpressionArgs.{holds, gives}
use Rattle.ada_grammar.proofs.ExpressionSuffixes.{InnerLaw}
use Rattle.ada_grammar.proofs.ExpressionPrimaries.{law_primary_in}

-- A part that is good, with the position where it begins.
abbrev pub GoodAt : {A : Type 0} → (A → Type 0) → (A → List WeighedToken) → Pos × A → Type 0
GoodAt good spelling x = good x.1 × StartsAt x.0 (spelling x.1)

-- ---- factors

abbrev FactorParts : Type 0
FactorParts = (Pos × Primary) ⊎ ((Pos × Primary) ⊎ (Pos × Primary))

abbrev GoodFactor : ℕ → FactorParts → Type 0
GoodFactor d = Either (Both Any (PrimaryPlaced d)) (Either (Both Any (PrimaryPlaced d)) (GoodAt (PrimaryPlaced d) (primary_spelling d)))

abbrev factor_parts_spelling : ℕ → FactorParts → List WeighedToken
factor_parts_spelling d =
    of_either (joined (λ p. operates (Word w.KwAbs p) ∷ []) (primary_spelling d))
    (of_either (joined (λ p. operates (Word w.KwNot p) ∷ []) (primary_spelling d)) (λ x. primary_spelling d x.1))

good_factor : (d : ℕ) (x : FactorParts) → GoodFactor d x → FactorPlaced d (make_factor x)
good_factor d (inl x) good = holds (factor-Abs-placed d x.0 x.1) good.1
good_factor d (inr (inl x)) good = holds (factor-Not-placed d x.0 x.1) good.1
good_factor d (inr (inr x)) good = holds (factor-LonePrimary-placed d x.0 x.1) (good.1, good.0)

spelled_factor : (d : ℕ) (x : FactorParts) → factor_spelling d (make_factor x) ≡ factor_parts_spelling d x
spelled_factor d (inl x) = factor-Abs d x.0 x.1
spelled_factor d (inr (inl x)) = factor-Not d x.0 x.1
spelled_factor d (inr (inr x)) = factor-LonePrimary d x.0 x.1

onto_factor : (d : ℕ) (a : Factor) → FactorPlaced d a → (x : FactorParts) × (GoodFactor d x × (make_factor x ≡ a))
onto_factor d =
    factor_form (λ a. FactorPlaced d a → (x : FactorParts) × (GoodFactor d x × (make_factor x ≡ a)))
    (λ pos part placed.
    let parts = gives (factor-LonePrimary-placed d pos part) placed in
    (inr (inr (pos, part)), ((parts.1, parts.0), refl)))
    (λ pos part placed. (inl (pos, part), ((tt, gives (factor-Abs-placed d pos part) placed), refl)))
    (λ pos part placed. (inr (inl (pos, part)), ((tt, gives (factor-Not-placed d pos part) placed), refl)))

pub law_factor_in : (d : ℕ) (inner : Reader Expr) → InnerLaw d inner
    → Law (factor_in d inner) (FactorPlaced d) (factor_spelling d) factor_first name_last false
unfolding factor_in
law_factor_in d inner L =
    let part = law_primary_in d inner L in
    law_wider factor_first name_last
    (law_to make_factor (FactorPlaced d) (factor_spelling d)
    (law_choose (of_word w.KwAbs ∷ []) (law_seq (law_operator_word w.KwAbs) part refl)
    (law_choose (of_word w.KwNot ∷ []) (law_seq (law_operator_word w.KwNot) part refl) (law_placed part refl) refl refl) refl refl)
    (good_factor d) (λ x good. spelled_factor d x) (onto_factor d)) refl refl

-- ---- terms

abbrev NextFactorParts : Type 0
NextFactorParts = (MultiplyingOperator × Pos) × Factor

onto_next_factor : (d : ℕ) (a : NextFactor) → NextFactorPlaced d a
    → (x : NextFactorParts) × (Both Any (FactorPlaced d) x × (make_next_factor x ≡ a))
onto_next_factor d =
    next_factor_form (λ a. NextFactorPlaced d a → (x : NextFactorParts) × (Both Any (FactorPlaced d) x × (make_next_factor x ≡ a)))
    (λ pos operator part placed.
    (((operator, pos), part), ((tt, gives (next_factor-FurtherFactor-placed d pos operator part) placed), refl)))

pub law_next_factor_in : (d : ℕ) (inner : Reader Expr) → InnerLaw d inner
    → Law (next_factor_in d inner) (NextFactorPlaced d) (next_factor_spelling d) multiplying_first name_last false
unfolding next_factor_in
law_next_factor_in d inner L =
    law_to make_next_factor (NextFactorPlaced d) (next_factor_spelling d) (law_seq law_multiplying (law_factor_in d inner L) refl)
    (λ x good. holds (next_factor-FurtherFactor-placed d x.0.1 x.0.0 x.1) good.1) (λ x good. next_factor-FurtherFactor d x.0.1 x.0.0 x.1)
    (onto_next_factor d)

abbrev TermParts : Type 0
TermParts = (Pos × Factor) × List NextFactor

abbrev GoodTerm : ℕ → TermParts → Type 0
GoodTerm d = Both (GoodAt (FactorPlaced d) (factor_spelling d)) (Each (NextFactorPlaced d))

onto_term : (d : ℕ) (a : Term) → TermPlaced d a → (x : TermParts) × (GoodTerm d x × (make_term x ≡ a))
onto_term d =
    term_form (λ a. TermPlaced d a → (x : TermParts) × (GoodTerm d x × (make_term x ≡ a)))
    (λ pos first rest placed.
    let parts = gives (term-Product-placed d pos first rest) placed in
    (((pos, first), rest), (((parts.1, parts.0), parts.2), refl)))

pub law_term_in : (d : ℕ) (inner : Reader Expr) → InnerLaw d inner
    → Law (term_in d inner) (TermPlaced d) (term_spelling d) factor_first term_last false
unfolding term_in
law_term_in d inner L =
    law_wider factor_first term_last
    (law_to make_term (TermPlaced d) (term_spelling d)
    (law_seq (law_placed (law_factor_in d inner L) refl) (law_each multiplying_first (law_next_factor_in d inner L) refl refl) refl)
    (λ x good. holds (term-Product-placed d x.0.0 x.0.1 x.1) (good.0.1, good.0.0, good.1)) (λ x good. term-Product d x.0.0 x.0.1 x.1)
    (onto_term d)) refl refl

-- ---- sums

abbrev NextTermParts : Type 0
NextTermParts = (AddingOperator × Pos) × Term

onto_next_term : (d : ℕ) (a : NextTerm) → NextTermPlaced d a → (x : NextTermParts) × (Both Any (TermPlaced d) x × (make_next_term x ≡ a))
onto_next_term d =
    next_term_form (λ a. NextTermPlaced d a → (x : NextTermParts) × (Both Any (TermPlaced d) x × (make_next_term x ≡ a)))
    (λ pos operator part placed. (((operator, pos), part), ((tt, gives (next_term-FurtherTerm-placed d pos operator part) placed), refl)))

pub law_next_term_in : (d : ℕ) (inner : Reader Expr) → InnerLaw d inner
    → Law (next_term_in d inner) (NextTermPlaced d) (next_term_spelling d) adding_first term_last false
unfolding next_term_in
law_next_term_in d inner L =
    law_to make_next_term (NextTermPlaced d) (next_term_spelling d) (law_seq law_adding (law_term_in d inner L) refl)
    (λ x good. holds (next_term-FurtherTerm-placed d x.0.1 x.0.0 x.1) good.1) (λ x good. next_term-FurtherTerm d x.0.1 x.0.0 x.1) (onto_next_term d)

abbrev GoodSum : ℕ → SumParts → Type 0
GoodSum d =
    Either (Both Any (Both (TermPlaced d) (Each (NextTermPlaced d)))) (Both (GoodAt (TermPlaced d) (term_spelling d)) (Each (NextTermPlaced d)))

abbrev sum_parts_spelling : ℕ → SumParts → List WeighedToken
sum_parts_spelling d =
    of_either (joined signed_spelling (joined (term_spelling d) (flat_map (next_term_spelling d))))
    (joined (λ x. term_spelling d x.1) (flat_map (next_term_spelling d)))

good_sum : (d : ℕ) (x : SumParts) → GoodSum d x → SumPlaced d (make_sum x)
good_sum d (inl ((sign, pos), (first, rest))) good = holds (sum-Signed-placed d pos sign first rest) (good.1.0, good.1.1)
good_sum d (inr ((pos, first), rest)) good = holds (sum-Unsigned-placed d pos first rest) (good.0.1, good.0.0, good.1)

spelled_sum : (d : ℕ) (x : SumParts) → sum_spelling d (make_sum x) ≡ sum_parts_spelling d x
spelled_sum d (inl ((sign, pos), (first, rest))) = sum-Signed d pos sign first rest
spelled_sum d (inr ((pos, first), rest)) = sum-Unsigned d pos first rest

onto_sum : (d : ℕ) (a : Sum) → SumPlaced d a → (x : SumParts) × (GoodSum d x × (make_sum x ≡ a))
onto_sum d =
    sum_form (λ a. SumPlaced d a → (x : SumParts) × (GoodSum d x × (make_sum x ≡ a)))
    (λ pos first rest placed.
    let parts = gives (sum-Unsigned-placed d pos first rest) placed in
    (inr ((pos, first), rest), (((parts.1, parts.0), parts.2), refl)))
    (λ pos sign first rest placed.
    let parts = gives (sum-Signed-placed d pos sign first rest) placed in
    (inl ((sign, pos), (first, rest)), ((tt, (parts.0, parts.1)), refl)))

pub law_sum_in : (d : ℕ) (inner : Reader Expr) → InnerLaw d inner
    → Law (sum_in d inner) (SumPlaced d) (sum_spelling d) sum_first sum_last false
unfolding sum_in
law_sum_in d inner L =
    let part = law_term_in d inner L in
    let rest = law_each adding_first (law_next_term_in d inner L) refl refl in
    law_wider sum_first sum_last
    (law_to make_sum (SumPlaced d) (sum_spelling d)
    (law_choose sign_first (law_seq law_sign (law_seq part rest refl) refl) (law_seq (law_placed part refl) rest refl) refl refl)
    (good_sum d) (λ x good. spelled_sum d x) (onto_sum d)) refl refl

-- ---- relations

abbrev RelParts : Type 0
RelParts = (Pos × Sum) × Option ((RelationalOperator × Pos) × Sum)

abbrev GoodRel : ℕ → RelParts → Type 0
GoodRel d = Both (GoodAt (SumPlaced d) (sum_spelling d)) (Maybe (Both Any (SumPlaced d)))

abbrev rel_parts_spelling : ℕ → RelParts → List WeighedToken
rel_parts_spelling d = joined (λ x. sum_spelling d x.1) (maybe_spelled (joined relational_spelling (sum_spelling d)))

good_rel : (d : ℕ) (x : RelParts) → GoodRel d x → RelPlaced d (make_rel x)
good_rel d ((pos, left), None) good = holds (rel-LoneSum-placed d pos left) (good.0.1, good.0.0)
good_rel d ((pos, left), Some ((operator, at), right)) good =
    holds (rel-Compared-placed d pos left operator at right) (good.0.1, good.0.0, good.1.1)

spelled_rel : (d : ℕ) (x : RelParts) → rel_spelling d (make_rel x) ≡ rel_parts_spelling d x
spelled_rel d ((pos, left), None) = rel-LoneSum d pos left ∙ sym (append-nil (sum_spelling d left))
spelled_rel d ((pos, left), Some ((operator, at), right)) = rel-Compared d pos left operator at right

onto_rel : (d : ℕ) (a : Rel) → RelPlaced d a → (x : RelParts) × (GoodRel d x × (make_rel x ≡ a))
onto_rel d =
    rel_form (λ a. RelPlaced d a → (x : RelParts) × (GoodRel d x × (make_rel x ≡ a)))
    (λ pos part placed.
    let parts = gives (rel-LoneSum-placed d pos part) placed in
    (((pos, part), None), (((parts.1, parts.0), tt), refl)))
    (λ pos left operator at right placed.
    let parts = gives (rel-Compared-placed d pos left operator at right) placed in
    (((pos, left), Some ((operator, at), right)), (((parts.1, parts.0), (tt, parts.2)), refl)))

pub law_rel_in : (d : ℕ) (inner : Reader Expr) → InnerLaw d inner
    → Law (rel_in d inner) (RelPlaced d) (rel_spelling d) sum_first rel_last false
unfolding rel_in
law_rel_in d inner L =
    let part = law_sum_in d inner L in
    law_wider sum_first rel_last
    (law_to make_rel (RelPlaced d) (rel_spelling d)
    (law_seq (law_placed part refl) (law_optional relational_first (law_seq law_relational part refl) refl) refl)
    (good_rel d) (λ x good. spelled_rel d x) (onto_rel d)) refl refl
