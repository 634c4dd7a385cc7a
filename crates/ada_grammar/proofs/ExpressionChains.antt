-- The law of the reader of expressions, over a reader of the expressions in their parentheses.
use Rattle.std.proofs.Common.{◌≡◌, refl, sym, ap, ◌∙◌, ℕ, true, false, ◌&&◌, List, [], ◌∷◌, ◌++◌, inl, inr}
use Rattle.std.specs.List.{flat_map}
use Rattle.std.proofs.lemmas.List.{append-nil}
use Rattle.spark_base.specs.declared.position.Pos.{Pos}
use Rattle.ada_lexer.specs.declared.token.Reserved.{Reserved}
use Rattle.ada_lexer.specs.declared.token.Reserved.TheVariants as w
use Rattle.ada_tree.specs.declared.expression.Expr.{Expr}
use Rattle.ada_tree.specs.declared.expression.Operand.{Operand}
use Rattle.ada_tree.specs.declared.expression.ShortOperand.{ShortOperand}
use Rattle.ada_tree.specs.declared.expression.Rel.{Rel}
use Rattle.ada_tree.specs.Spelling.{rel_spelling, operand_spelling, short_operand_spelling, expr_spelling}
use Rattle.ada_tree.specs.WellPlaced.{RelPlaced, OperandPlaced, ShortOperandPlaced, ExprPlaced}
use Rattle.ada_grammar.proofs.Levels.{operand-FurtherOperand, short_operand-FurtherShortOperand, expr-LoneRelation, expr-And, expr-Or, expr-Xor, expr-AndThen, expr-OrElse}
use Rattle.ada_grammar.proofs.PlacedLevels.{operand-FurtherOperand-placed, short_operand-FurtherShortOperand-placed, expr-LoneRelation-placed, expr-And-placed, expr-Or-placed, expr-Xor-placed, expr-AndThen-placed, expr-OrElse-placed}
use Rattle.ada_tree.proofs.Forms.{operand_form, short_operand_form, expr_form}
use Rattle.token_reading.specs.declared.side.Side.TheVariants.{Within}
use Rattle.token_reading.specs.Spelled.{Word}
use Rattle.token_reading.specs.Weights.{WeighedToken, plain, operates}
use Rattle.token_reading.specs.Reading.{Reader, of_word, seq, Each}
use Rattle.token_reading.proofs.Sets.{apart, within, is_in-own}
use Rattle.token_reading.proofs.Law.{Law}
use Rattle.token_reading.proofs.Tokens.{Any, law_word, law_operator_word}
use Rattle.token_reading.proofs.Seq.{Both, joined, law_seq}
use Rattle.token_reading.proofs.Made.{law_to, law_nothing, law_wider}
use Rattle.token_reading.proofs.Choice.{Either, of_either, law_choose}
use Rattle.token_reading.proofs.Many.{law_each}
use Rattle.token_reading.proofs.Positions.{law_placed}
use Rattle.ada_grammar.specs.Expressions.{sum_first, rel_in, rel_last, make_next_operand, next_operand_in, next_operands_in, make_next_short_operand, next_short_operand_in, Chain, chain_in, Behind, make_expr, expr_in, expr_first, expr_last}
use Rattle.ada_grammar.proofs.ExpressionArgs.{holds, gives, ExprLaw}
use Rattle.ada_grammar.proofs.ExpressionSuffixes.{InnerLaw}
use Rattle.ada_grammar.proofs.ExpressionTerms.{GoodAt, law_rel_in}

-- ---- further operands

onto_next_operand : (d : ℕ) (a : Operand) → OperandPlaced d a → (x : Pos × Rel) × (Both Any (RelPlaced d) x × (make_next_operand x ≡ a))
onto_next_operand d =
    operand_form (λ a. OperandPlaced d a → (x : Pos × Rel) × (Both Any (RelPlaced d) x × (make_next_operand x ≡ a)))
    (λ pos part placed. ((pos, part), ((tt, gives (operand-FurtherOperand-placed d pos part) placed), refl)))

pub law_next_operand_in : (d : ℕ) (inner : Reader Expr) → InnerLaw d inner → (v : Reserved)
    → Law (next_operand_in d inner v) (OperandPlaced d) (operand_spelling d v) (of_word v ∷ []) rel_last false
unfolding next_operand_in
law_next_operand_in d inner L v =
    law_to make_next_operand (OperandPlaced d) (operand_spelling d v) (law_seq (law_operator_word v) (law_rel_in d inner L) refl)
    (λ x good. holds (operand-FurtherOperand-placed d x.0 x.1) good.1) (λ x good. operand-FurtherOperand d v x.0 x.1) (onto_next_operand d)

onto_next_short_operand : (d : ℕ) (a : ShortOperand) → ShortOperandPlaced d a
    → (x : Pos × (Pos × Rel)) × (Both Any (Both Any (RelPlaced d)) x × (make_next_short_operand x ≡ a))
onto_next_short_operand d =
    short_operand_form (λ a. ShortOperandPlaced d a → (x : Pos × (Pos × Rel)) × (Both Any (Both Any (RelPlaced d)) x × (make_next_short_operand x ≡ a)))
    (λ pos second part placed. ((pos, (second, part)), ((tt, (tt, gives (short_operand-FurtherShortOperand-placed d pos second part) placed)), refl)))

good_next_short_operand : (d : ℕ) (x : Pos × (Pos × Rel)) → Both Any (Both Any (RelPlaced d)) x → ShortOperandPlaced d (make_next_short_operand x)
good_next_short_operand d (pos, (second, part)) good = holds (short_operand-FurtherShortOperand-placed d pos second part) good.1.1

spelled_next_short_operand : (d : ℕ) (v u : Reserved) (x : Pos × (Pos × Rel)) → short_operand_spelling d v u (make_next_short_operand x)
    ≡ joined (λ p. operates (Word v p) ∷ []) (joined (λ p. plain Within (Word u p) ∷ []) (rel_spelling d)) x
spelled_next_short_operand d v u (pos, (second, part)) = short_operand-FurtherShortOperand d v u pos second part

pub law_next_short_operand_in : (d : ℕ) (inner : Reader Expr) → InnerLaw d inner → (v u : Reserved)
    → Law (next_short_operand_in d inner v u) (ShortOperandPlaced d) (short_operand_spelling d v u) (of_word v ∷ []) rel_last false
unfolding next_short_operand_in
law_next_short_operand_in d inner L v u =
    law_to make_next_short_operand (ShortOperandPlaced d) (short_operand_spelling d v u)
    (law_seq (law_operator_word v) (law_seq (law_word Within u) (law_rel_in d inner L) refl) refl)
    (good_next_short_operand d) (λ x good. spelled_next_short_operand d v u x) (onto_next_short_operand d)

pub own_word : (v : Reserved) → within (of_word v ∷ []) (of_word v ∷ []) ≡ true
own_word v = ap (λ b. b && true) (is_in-own (of_word v))

-- ---- chains

abbrev GoodLong : ℕ → Rel × List Operand → Type 0
GoodLong d = Both (RelPlaced d) (Each (OperandPlaced d))

abbrev GoodChain : ℕ → Chain → Type 0
GoodChain d = Either (Both Any (Both (RelPlaced d) (Each (ShortOperandPlaced d)))) (GoodLong d)

abbrev long_spelling : ℕ → Reserved → Rel × List Operand → List WeighedToken
long_spelling d v = joined (rel_spelling d) (flat_map (operand_spelling d v))

abbrev chain_spelling : ℕ → Reserved → Reserved → Chain → List WeighedToken
chain_spelling d v u =
    of_either (joined (λ p. plain Within (Word u p) ∷ []) (joined (rel_spelling d) (flat_map (short_operand_spelling d v u)))) (long_spelling d v)

abbrev long_last : Reserved → List ℕ
long_last v = rel_last ++ (of_word v ∷ rel_last)

law_long : (d : ℕ) (inner : Reader Expr) → InnerLaw d inner → (v : Reserved) → apart rel_last (of_word v ∷ []) ≡ true
    → Law (seq (rel_in d inner) (next_operands_in d inner v)) (GoodLong d) (long_spelling d v) sum_first (long_last v) false
law_long d inner L v side =
    law_seq (law_rel_in d inner L) (law_each (of_word v ∷ []) (law_next_operand_in d inner L v) (own_word v) side) side

law_chain : (d : ℕ) (inner : Reader Expr) → InnerLaw d inner → (v u : Reserved) → apart rel_last (of_word v ∷ []) ≡ true
    → apart (of_word u ∷ []) sum_first ≡ true
    → Law (chain_in d inner v u) (GoodChain d) (chain_spelling d v u) (of_word u ∷ sum_first)
    (long_last v ++ long_last v) false
unfolding chain_in
law_chain d inner L v u side other =
    law_choose (of_word u ∷ [])
    (law_seq (law_word Within u)
    (law_seq (law_rel_in d inner L) (law_each (of_word v ∷ []) (law_next_short_operand_in d inner L v u) (own_word v) side) side) refl)
    (law_long d inner L v side) (own_word u) other

-- ---- expressions

abbrev ExprParts : Type 0
ExprParts = (Pos × Rel) × Behind

abbrev GoodBehind : ℕ → Behind → Type 0
GoodBehind d = Either (Both Any (GoodChain d)) (Either (Both Any (GoodChain d)) (Either (Both Any (GoodLong d)) Any))

abbrev behind_spelling : ℕ → Behind → List WeighedToken
behind_spelling d =
    of_either (joined (λ p. operates (Word w.KwAnd p) ∷ []) (chain_spelling d w.KwAnd w.KwThen))
    (of_either (joined (λ p. operates (Word w.KwOr p) ∷ []) (chain_spelling d w.KwOr w.KwElse))
    (of_either (joined (λ p. operates (Word w.KwXor p) ∷ []) (long_spelling d w.KwXor)) (λ u. [])))

abbrev GoodExpr : ℕ → ExprParts → Type 0
GoodExpr d = Both (GoodAt (RelPlaced d) (rel_spelling d)) (GoodBehind d)

abbrev expr_parts_spelling : ℕ → ExprParts → List WeighedToken
expr_parts_spelling d = joined (λ x. rel_spelling d x.1) (behind_spelling d)

good_expr : (d : ℕ) (x : ExprParts) → GoodExpr d x → ExprPlaced d (make_expr x)
good_expr d ((pos, first), inl (and, inl (other, (second, rest)))) good =
    holds (expr-AndThen-placed d pos first and other second rest) (good.0.1, good.0.0, good.1.1.1.0, good.1.1.1.1)
good_expr d ((pos, first), inl (and, inr (second, rest))) good =
    holds (expr-And-placed d pos first and second rest) (good.0.1, good.0.0, good.1.1.0, good.1.1.1)
good_expr d ((pos, first), inr (inl (or, inl (other, (second, rest))))) good =
    holds (expr-OrElse-placed d pos first or other second rest) (good.0.1, good.0.0, good.1.1.1.0, good.1.1.1.1)
good_expr d ((pos, first), inr (inl (or, inr (second, rest)))) good =
    holds (expr-Or-placed d pos first or second rest) (good.0.1, good.0.0, good.1.1.0, good.1.1.1)
good_expr d ((pos, first), inr (inr (inl (xor, (second, rest))))) good =
    holds (expr-Xor-placed d pos first xor second rest) (good.0.1, good.0.0, good.1.1.0, good.1.1.1)
good_expr d ((pos, first), inr (inr (inr u))) good = holds (expr-LoneRelation-placed d pos first) (good.0.1, good.0.0)

spelled_expr : (d : ℕ) (x : ExprParts) → expr_spelling d (make_expr x) ≡ expr_parts_spelling d x
spelled_expr d ((pos, first), inl (and, inl (other, (second, rest)))) = expr-AndThen d pos first and other second rest
spelled_expr d ((pos, first), inl (and, inr (second, rest))) = expr-And d pos first and second rest
spelled_expr d ((pos, first), inr (inl (or, inl (other, (second, rest))))) = expr-OrElse d pos first or other second rest
spelled_expr d ((pos, first), inr (inl (or, inr (second, rest)))) = expr-Or d pos first or second rest
spelled_expr d ((pos, first), inr (inr (inl (xor, (second, rest))))) = expr-Xor d pos first xor second rest
spelled_expr d ((pos, first), inr (inr (inr u))) = expr-LoneRelation d pos first ∙ sym (append-nil (rel_spelling d first))

onto_expr : (d : ℕ) (a : Expr) → ExprPlaced d a → (x : ExprParts) × (GoodExpr d x × (make_expr x ≡ a))
onto_expr d =
    expr_form (λ a. ExprPlaced d a → (x : ExprParts) × (GoodExpr d x × (make_expr x ≡ a)))
    (λ pos first placed.
    let parts = gives (expr-LoneRelation-placed d pos first) placed in
    (((pos, first), inr (inr (inr tt))), (((parts.1, parts.0), tt), refl)))
    (λ pos first and second rest placed.
    let parts = gives (expr-And-placed d pos first and second rest) placed in
    (((pos, first), inl (and, inr (second, rest))), (((parts.1, parts.0), (tt, (parts.2, parts.3))), refl)))
    (λ pos first or second rest placed.
    let parts = gives (expr-Or-placed d pos first or second rest) placed in
    (((pos, first), inr (inl (or, inr (second, rest)))), (((parts.1, parts.0), (tt, (parts.2, parts.3))), refl)))
    (λ pos first xor second rest placed.
    let parts = gives (expr-Xor-placed d pos first xor second rest) placed in
    (((pos, first), inr (inr (inl (xor, (second, rest))))), (((parts.1, parts.0), (tt, (parts.2, parts.3))), refl)))
    (λ pos first and other second rest placed.
    let parts = gives (expr-AndThen-placed d pos first and other second rest) placed in
    (((pos, first), inl (and, inl (other, (second, rest)))), (((parts.1, parts.0), (tt, (tt, (parts.2, parts.3)))), refl)))
    (λ pos first or other second rest placed.
    let parts = gives (expr-OrElse-placed d pos first or other second rest) placed in
    (((pos, first), inr (inl (or, inl (other, (second, rest))))), (((parts.1, parts.0), (tt, (tt, (parts.2, parts.3)))), refl)))

pub law_expr_in : (d : ℕ) (inner : Reader Expr) → InnerLaw d inner → ExprLaw d (expr_in d inner)
unfolding expr_in
law_expr_in d inner L =
    law_wider expr_first expr_last
    (law_to make_expr (ExprPlaced d) (expr_spelling d)
    (law_seq (law_placed (law_rel_in d inner L) refl)
    (law_choose (of_word w.KwAnd ∷ []) (law_seq (law_operator_word w.KwAnd) (law_chain d inner L w.KwAnd w.KwThen refl refl) refl)
    (law_choose (of_word w.KwOr ∷ []) (law_seq (law_operator_word w.KwOr) (law_chain d inner L w.KwOr w.KwElse refl refl) refl)
    (law_choose (of_word w.KwXor ∷ []) (law_seq (law_operator_word w.KwXor) (law_long d inner L w.KwXor refl) refl) law_nothing refl refl)
    refl refl) refl refl) refl)
    (good_expr d) (λ x good. spelled_expr d x) (onto_expr d)) refl refl
