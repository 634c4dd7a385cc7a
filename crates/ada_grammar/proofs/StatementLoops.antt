-- What the loops and the recursion of a parser of statements rest on: each part takes a token, and
-- the statements within a statement are those with one more construct open.
use Rattle.std.proofs.Common.{◌≡◌, refl, ℕ, zero, suc, ◌-◌, ◌<◌, ◌≤◌, [], ◌∷◌, arith}
use Rattle.std.proofs.lemmas.Bool.{lt-leb}
use Rattle.spark_base.specs.declared.limits.TheConstants.{NESTING}
use Rattle.ada_lexer.specs.declared.token.Reserved.TheVariants as w
use Rattle.token_reading.specs.Reading.{of_word}
use Rattle.token_reading.proofs.Many.{shorter}
use Rattle.token_reading.proofs.Loop.{Shortens}
use Rattle.ada_grammar.specs.Statements.{elsif_in, when_in, stmt_in, stmts_in, stmts_of, inner_of, inner_stmts, stmts, stmt, stmt_first}
use Rattle.ada_grammar.proofs.BranchStatements.{InnerLaw, law_elsif_in, law_when_in}
use Rattle.ada_grammar.proofs.Statements.{law_inner_of, law_stmt}

pub inner_is : (d : ℕ) → d < NESTING → inner_stmts d ≡ stmts (suc d)
unfolding inner_stmts stmts
inner_is d below = rw (one_more d below) refl
  where
    one_more : (d : ℕ) → d < NESTING → NESTING - d ≡ suc (NESTING - suc d)
    one_more d below = omega arith

stmts_by : (left d : ℕ) → stmts_of left d ≡ stmts_in d (inner_of left d)
unfolding stmts_of
stmts_by zero d = refl
stmts_by (suc left) d = refl

pub stmts_are : (d : ℕ) → stmts d ≡ stmts_in d (inner_stmts d)
unfolding stmts inner_stmts
stmts_are d = stmts_by (NESTING - d) d

law_inner : (d : ℕ) → d < NESTING → InnerLaw (suc d) (inner_stmts d)
unfolding inner_stmts
law_inner d below = law_inner_of (NESTING - d) d (omega arith) (lt-leb NESTING d below)

pub elsif_shortens : (d : ℕ) → d < NESTING → Shortens (elsif_in (suc d) (inner_stmts d))
elsif_shortens d below =
    shorter (of_word w.KwElsif ∷ []) (law_elsif_in (suc d) (omega arith) (inner_stmts d) (law_inner d below)) refl refl

pub when_shortens : (d : ℕ) → d < NESTING → Shortens (when_in (suc d) (inner_stmts d))
when_shortens d below =
    shorter (of_word w.KwWhen ∷ []) (law_when_in (suc d) (omega arith) (inner_stmts d) (law_inner d below)) refl refl

pub stmt_shortens : (d : ℕ) → d ≤ NESTING → Shortens (stmt_in d (inner_stmts d))
unfolding stmt
stmt_shortens d within = shorter stmt_first (law_stmt d within) refl refl
