-- Expressions by their operators: small sources, and the trees that are spelled by their tokens.
use Rattle.std.proofs.Common.{refl, [], ◌∷◌}
use Rattle.ada_tree.specs.declared.expression.Expr.TheVariants as expr
use Rattle.ada_tree.specs.declared.expression.Operand.TheVariants as operand
use Rattle.ada_tree.specs.declared.expression.ShortOperand.TheVariants as short_operand
use Rattle.ada_tree.specs.declared.expression.Rel.TheVariants as rel
use Rattle.ada_tree.specs.declared.expression.Sum.TheVariants as sum
use Rattle.ada_tree.specs.declared.expression.NextTerm.TheVariants as next_term
use Rattle.ada_tree.specs.declared.expression.Term.TheVariants as term
use Rattle.ada_tree.specs.declared.expression.NextFactor.TheVariants as next_factor
use Rattle.ada_tree.specs.declared.expression.Factor.TheVariants as factor
use Rattle.ada_tree.specs.declared.expression.Primary.TheVariants as primary
use Rattle.ada_tree.specs.declared.operator.Sign.TheVariants as sign
use Rattle.ada_tree.specs.declared.operator.RelationalOperator.TheVariants as relational
use Rattle.ada_tree.specs.declared.operator.AddingOperator.TheVariants as adding
use Rattle.ada_tree.specs.declared.operator.MultiplyingOperator.TheVariants as multiplying
use Rattle.ada_grammar.proofs.SmallSources.{computes, IsTextOf, source_of, at, rel_of, sum_of, term_of, factor_of, object, with_value}

-- expr = rel "and" rel
and_of_two : IsTextOf "procedure P is begin X := A and B; end;"
    (with_value (expr.And (at 27) (rel_of 27 (object 27 "A")) (at 29) (rel_of 33 (object 33 "B")) []) 34)
unfolding computes
and_of_two = source_of (search) (search) refl

-- expr = rel "and" rel {"and" rel}
and_of_several : IsTextOf "procedure P is begin X := A and B and C and D; end;"
    (with_value (expr.And (at 27) (rel_of 27 (object 27 "A")) (at 29) (rel_of 33 (object 33 "B")) (operand.FurtherOperand (at 35)
    (rel_of 39 (object 39 "C")) ∷ operand.FurtherOperand (at 41) (rel_of 45 (object 45 "D")) ∷ [])) 46)
unfolding computes
and_of_several = source_of (search) (search) refl

-- expr = rel "or" rel
or_of_two : IsTextOf "procedure P is begin X := A or B; end;"
    (with_value (expr.Or (at 27) (rel_of 27 (object 27 "A")) (at 29) (rel_of 32 (object 32 "B")) []) 33)
unfolding computes
or_of_two = source_of (search) (search) refl

-- expr = rel "or" rel {"or" rel}
or_of_several : IsTextOf "procedure P is begin X := A or B or C; end;"
    (with_value (expr.Or (at 27) (rel_of 27 (object 27 "A")) (at 29) (rel_of 32 (object 32 "B")) (operand.FurtherOperand (at 34)
    (rel_of 37 (object 37 "C")) ∷ [])) 38)
unfolding computes
or_of_several = source_of (search) (search) refl

-- expr = rel "xor" rel
xor_of_two : IsTextOf "procedure P is begin X := A xor B; end;"
    (with_value (expr.Xor (at 27) (rel_of 27 (object 27 "A")) (at 29) (rel_of 33 (object 33 "B")) []) 34)
unfolding computes
xor_of_two = source_of (search) (search) refl

-- expr = rel "xor" rel {"xor" rel}
xor_of_several : IsTextOf "procedure P is begin X := A xor B xor C; end;"
    (with_value (expr.Xor (at 27) (rel_of 27 (object 27 "A")) (at 29) (rel_of 33 (object 33 "B")) (operand.FurtherOperand (at 35)
    (rel_of 39 (object 39 "C")) ∷ [])) 40)
unfolding computes
xor_of_several = source_of (search) (search) refl

-- expr = rel "and" "then" rel
and_then_of_two : IsTextOf "procedure P is begin X := A and then B; end;"
    (with_value (expr.AndThen (at 27) (rel_of 27 (object 27 "A")) (at 29) (at 33) (rel_of 38 (object 38 "B")) []) 39)
unfolding computes
and_then_of_two = source_of (search) (search) refl

-- expr = rel "and" "then" rel {"and" "then" rel}
and_then_of_several : IsTextOf "procedure P is begin X := A and then B and then C; end;"
    (with_value (expr.AndThen (at 27) (rel_of 27 (object 27 "A")) (at 29) (at 33) (rel_of 38 (object 38 "B"))
    (short_operand.FurtherShortOperand (at 40) (at 44) (rel_of 49 (object 49 "C")) ∷ [])) 50)
unfolding computes
and_then_of_several = source_of (search) (search) refl

-- expr = rel "or" "else" rel
or_else_of_two : IsTextOf "procedure P is begin X := A or else B; end;"
    (with_value (expr.OrElse (at 27) (rel_of 27 (object 27 "A")) (at 29) (at 32) (rel_of 37 (object 37 "B")) []) 38)
unfolding computes
or_else_of_two = source_of (search) (search) refl

-- expr = rel "or" "else" rel {"or" "else" rel}
or_else_of_several : IsTextOf "procedure P is begin X := A or else B or else C; end;"
    (with_value (expr.OrElse (at 27) (rel_of 27 (object 27 "A")) (at 29) (at 32) (rel_of 37 (object 37 "B"))
    (short_operand.FurtherShortOperand (at 39) (at 42) (rel_of 47 (object 47 "C")) ∷ [])) 48)
unfolding computes
or_else_of_several = source_of (search) (search) refl

-- rel = sum "=" sum
equal : IsTextOf "procedure P is begin X := A = 1; end;"
    (with_value (expr.LoneRelation (at 27) (rel.Compared (at 27) (sum_of 27 (object 27 "A")) relational.Equal (at 29) (sum_of 31
    (primary.Number (at 31) 1)))) 32)
unfolding computes
equal = source_of (search) (search) refl

-- rel = sum "/=" sum
not_equal : IsTextOf "procedure P is begin X := A /= 1; end;"
    (with_value (expr.LoneRelation (at 27) (rel.Compared (at 27) (sum_of 27 (object 27 "A")) relational.NotEqual (at 29) (sum_of 32
    (primary.Number (at 32) 1)))) 33)
unfolding computes
not_equal = source_of (search) (search) refl

-- rel = sum "<" sum
less : IsTextOf "procedure P is begin X := A < 1; end;"
    (with_value (expr.LoneRelation (at 27) (rel.Compared (at 27) (sum_of 27 (object 27 "A")) relational.Less (at 29) (sum_of 31
    (primary.Number (at 31) 1)))) 32)
unfolding computes
less = source_of (search) (search) refl

-- rel = sum "<=" sum
less_or_equal : IsTextOf "procedure P is begin X := A <= 1; end;"
    (with_value (expr.LoneRelation (at 27) (rel.Compared (at 27) (sum_of 27 (object 27 "A")) relational.LessEqual (at 29) (sum_of 32
    (primary.Number (at 32) 1)))) 33)
unfolding computes
less_or_equal = source_of (search) (search) refl

-- rel = sum ">" sum
greater : IsTextOf "procedure P is begin X := A > 1; end;"
    (with_value (expr.LoneRelation (at 27) (rel.Compared (at 27) (sum_of 27 (object 27 "A")) relational.Greater (at 29) (sum_of 31
    (primary.Number (at 31) 1)))) 32)
unfolding computes
greater = source_of (search) (search) refl

-- rel = sum ">=" sum
greater_or_equal : IsTextOf "procedure P is begin X := A >= 1; end;"
    (with_value (expr.LoneRelation (at 27) (rel.Compared (at 27) (sum_of 27 (object 27 "A")) relational.GreaterEqual (at 29) (sum_of 32
    (primary.Number (at 32) 1)))) 33)
unfolding computes
greater_or_equal = source_of (search) (search) refl

-- rel = sum "<" sum, with sums of terms
sums_compared : IsTextOf "procedure P is begin X := A + 1 < - B; end;"
    (with_value (expr.LoneRelation (at 27) (rel.Compared (at 27) (sum.Unsigned (at 27) (term_of 27 (object 27 "A")) (next_term.FurtherTerm
    (at 29) adding.Add (term_of 31 (primary.Number (at 31) 1)) ∷ [])) relational.Less (at 33) (sum.Signed (at 35) sign.Minus
    (term_of 37 (object 37 "B")) []))) 38)
unfolding computes
sums_compared = source_of (search) (search) refl

-- sum = term "+" term
sum_of_two : IsTextOf "procedure P is begin X := 1 + 2; end;"
    (with_value (expr.LoneRelation (at 27) (rel.LoneSum (at 27) (sum.Unsigned (at 27) (term_of 27 (primary.Number (at 27) 1))
    (next_term.FurtherTerm (at 29) adding.Add (term_of 31 (primary.Number (at 31) 2)) ∷ [])))) 32)
unfolding computes
sum_of_two = source_of (search) (search) refl

-- sum = term {("+" | "-" | "&") term}
sum_of_several : IsTextOf "procedure P is begin X := 1 + 2 - A & B; end;"
    (with_value (expr.LoneRelation (at 27) (rel.LoneSum (at 27) (sum.Unsigned (at 27) (term_of 27 (primary.Number (at 27) 1))
    (next_term.FurtherTerm (at 29) adding.Add (term_of 31 (primary.Number (at 31) 2)) ∷ next_term.FurtherTerm (at 33) adding.Subtract
    (term_of 35 (object 35 "A")) ∷ next_term.FurtherTerm (at 37) adding.Concatenate (term_of 39 (object 39 "B")) ∷ [])))) 40)
unfolding computes
sum_of_several = source_of (search) (search) refl

-- sum = "-" term
minus : IsTextOf "procedure P is begin X := -1; end;"
    (with_value (expr.LoneRelation (at 27) (rel.LoneSum (at 27) (sum.Signed (at 27) sign.Minus (term_of 28 (primary.Number (at 28) 1))
    []))) 29)
unfolding computes
minus = source_of (search) (search) refl

-- sum = "+" term {("+" | "-" | "&") term}
plus : IsTextOf "procedure P is begin X := + A - B; end;"
    (with_value (expr.LoneRelation (at 27) (rel.LoneSum (at 27) (sum.Signed (at 27) sign.Plus (term_of 29 (object 29 "A")) (next_term.FurtherTerm
    (at 31) adding.Subtract (term_of 33 (object 33 "B")) ∷ [])))) 34)
unfolding computes
plus = source_of (search) (search) refl

-- term = factor "*" factor
product : IsTextOf "procedure P is begin X := 2 * A; end;"
    (with_value (expr.LoneRelation (at 27) (rel.LoneSum (at 27) (sum.Unsigned (at 27) (term.Product (at 27) (factor_of 27 (primary.Number
    (at 27) 2)) (next_factor.FurtherFactor (at 29) multiplying.Multiply (factor_of 31 (object 31 "A")) ∷ [])) []))) 32)
unfolding computes
product = source_of (search) (search) refl

-- term = factor {("*" | "/" | "mod" | "rem") factor}
product_of_several : IsTextOf "procedure P is begin X := 1 * A / B mod C rem D; end;"
    (with_value (expr.LoneRelation (at 27) (rel.LoneSum (at 27) (sum.Unsigned (at 27) (term.Product (at 27) (factor_of 27 (primary.Number
    (at 27) 1)) (next_factor.FurtherFactor (at 29) multiplying.Multiply (factor_of 31 (object 31 "A")) ∷ next_factor.FurtherFactor
    (at 33) multiplying.Divide (factor_of 35 (object 35 "B")) ∷ next_factor.FurtherFactor (at 37) multiplying.Modulo
    (factor_of 41 (object 41 "C")) ∷ next_factor.FurtherFactor (at 43) multiplying.Remainder (factor_of 47 (object 47 "D")) ∷ []))
    []))) 48)
unfolding computes
product_of_several = source_of (search) (search) refl

-- factor = "abs" primary
absolute_value : IsTextOf "procedure P is begin X := abs A; end;"
    (with_value (expr.LoneRelation (at 27) (rel.LoneSum (at 27) (sum.Unsigned (at 27) (term.Product (at 27) (factor.Abs (at 27)
    (object 31 "A")) []) []))) 32)
unfolding computes
absolute_value = source_of (search) (search) refl

-- factor = "not" primary
negation : IsTextOf "procedure P is begin X := not A; end;"
    (with_value (expr.LoneRelation (at 27) (rel.LoneSum (at 27) (sum.Unsigned (at 27) (term.Product (at 27) (factor.Not (at 27)
    (object 31 "A")) []) []))) 32)
unfolding computes
negation = source_of (search) (search) refl

-- expr, rel, sum, term and factor in each other
all_levels : IsTextOf "procedure P is begin X := not A and (B + 2 * abs C < 9 or D); end;"
    (with_value (expr.And (at 27) (rel.LoneSum (at 27) (sum.Unsigned (at 27) (term.Product (at 27) (factor.Not (at 27)
    (object 31 "A")) []) [])) (at 33) (rel_of 37 (primary.Parenthesized (at 37) (expr.Or (at 38) (rel.Compared (at 38)
    (sum.Unsigned (at 38) (term_of 38 (object 38 "B")) (next_term.FurtherTerm (at 40) adding.Add (term.Product (at 42) (factor_of 42
    (primary.Number (at 42) 2)) (next_factor.FurtherFactor (at 44) multiplying.Multiply (factor.Abs (at 46) (object 50 "C")) ∷ []))
    ∷ [])) relational.Less (at 52) (sum_of 54 (primary.Number (at 54) 9))) (at 56) (rel_of 59 (object 59 "D")) []) (at 60))) [])
    61)
unfolding computes
all_levels = source_of (search) (search) refl
