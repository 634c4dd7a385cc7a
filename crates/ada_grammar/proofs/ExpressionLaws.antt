-- The laws of the readers of expressions, names and args around which so many constructs are open.
use Rattle.std.proofs.Common.{◌≡◌, sym, subst, ℕ, zero, suc, ◌+◌, ◌-◌, ◌≤◌, ◌<◌, false, [], ◌∷◌, leb-false, arith}
use Rattle.spark_base.specs.declared.limits.TheConstants.{NESTING}
use Rattle.ada_lexer.specs.declared.token.Symbol.TheVariants as s
use Rattle.ada_tree.specs.Spelling.{name_spelling, arg_spelling, next_arg_spelling}
use Rattle.ada_tree.specs.WellPlaced.{NamePlaced, ArgPlaced, NextArgPlaced}
use Rattle.token_reading.specs.declared.side.Side.{Side}
use Rattle.token_reading.specs.Reading.{of_symbol}
use Rattle.token_reading.proofs.Law.{Law}
use Rattle.ada_grammar.specs.Expressions.{expr_of, expr, name_at, arg_at, next_arg_at, name_first, name_last, expr_first, arg_last}
use Rattle.ada_grammar.proofs.ExpressionArgs.{ExprLaw, law_arg_in, law_next_arg_in}
use Rattle.ada_grammar.proofs.ExpressionSuffixes.{InnerLaw, law_name_in}
use Rattle.ada_grammar.proofs.ExpressionChains.{law_expr_in}

-- Where as many constructs are open as may be, none is opened.
law_expr_of : (left d : ℕ) → left + d ≡ NESTING → ExprLaw d (expr_of (suc left) d)
unfolding expr_of
law_expr_of zero d all =
    law_expr_in d (expr_of zero (suc d)) (λ some_left. let more : d < NESTING = leb-false NESTING d some_left in absurd (omega (arith, all, more)))
law_expr_of (suc left) d all = law_expr_in d (expr_of (suc left) (suc d)) (λ some_left. law_expr_of left (suc d) (omega (arith, all)))

pub law_expr : (d : ℕ) → d ≤ NESTING → ExprLaw d (expr d)
unfolding expr
law_expr d allowed =
    let turns : suc NESTING - d ≡ suc (NESTING - d) = omega (arith, allowed) in
    subst (λ n. ExprLaw d (expr_of n d)) (sym turns) (law_expr_of (NESTING - d) d (omega (arith, allowed)))

-- The law of the expressions in the parentheses of a part.
pub law_inner : (d : ℕ) → InnerLaw d (expr (suc d))
law_inner d some_left = let more : d < NESTING = leb-false NESTING d some_left in law_expr (suc d) (omega (arith, more))

pub law_name : (side : Side) (d : ℕ) → d ≤ NESTING → Law (name_at side d) (NamePlaced d) (name_spelling side d) name_first name_last false
unfolding name_at
law_name side d allowed = law_name_in side d (expr (suc d)) (law_inner d)

pub law_arg : (side : Side) (d : ℕ) → d ≤ NESTING → Law (arg_at side d) (ArgPlaced d) (arg_spelling side d) expr_first arg_last false
unfolding arg_at
law_arg side d allowed = law_arg_in side d (expr d) (law_expr d allowed)

pub law_next_arg : (side : Side) (d : ℕ) → d ≤ NESTING
    → Law (next_arg_at side d) (NextArgPlaced d) (next_arg_spelling side d) (of_symbol s.Comma ∷ []) arg_last false
unfolding next_arg_at
law_next_arg side d allowed = law_next_arg_in side d (expr d) (law_expr d allowed)
