-- An expression is read as its form over the expressions one construct further in, up to the limit
-- of nesting.
use Rattle.std.proofs.Common.{◌≡◌, ap, ℕ, suc, ◌-◌, ◌≤◌, ◌<◌, List, arith}
use Rattle.spark_base.specs.declared.limits.TheConstants.{NESTING}
use Rattle.token_reading.specs.Spelled.{Spelled}
use Rattle.token_reading.specs.Reading.{OverLimit, Fails}
use Rattle.ada_grammar.specs.Expressions.{expr_in, expr_of, expr}

pub expr_level : (d : ℕ) → d ≤ NESTING → expr d ≡ expr_in d (expr (suc d))
unfolding expr expr_of
expr_level d allowed =
    let turns : suc NESTING - d ≡ suc (suc NESTING - suc d) = omega (arith, allowed) in
    ap (λ n. expr_of n d) turns

pub expr_too_deep : (d : ℕ) → NESTING < d → (k : ℕ) (ts : List Spelled) → expr d k ts ≡ Fails OverLimit ts
unfolding expr expr_of
expr_too_deep d more k ts = let none : suc NESTING - d ≡ 0 = omega (arith, more) in ap (λ n. expr_of n d k ts) none
