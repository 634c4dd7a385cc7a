-- Small sources, and trees that are off by one column, one token, one position or one name. None is
-- the tree of its text, so the modules of small sources tell such trees apart.
use Rattle.std.proofs.Common.{◌≡◌, ℕ, zero, suc, List, [], ◌∷◌, Option, Some, None, ap, arith}
use Rattle.std.specs.Prelude.{length, map}
use Rattle.spark_base.specs.declared.position.Pos.{Pos}
use Rattle.token_reading.specs.Spelled.{Spelled, Ident}
use Rattle.token_reading.specs.Reading.{code, position}
use Rattle.ada_tree.specs.declared.expression.Expr.TheVariants as expr
use Rattle.ada_tree.specs.declared.statement.Stmt.TheVariants as stmt
use Rattle.ada_tree.specs.declared.statement.Stmts.TheVariants as stmts
use Rattle.ada_tree.specs.declared.declaration.Item.TheVariants as item
use Rattle.ada_grammar.proofs.SmallSources.{computes, IsTextOf, at, id, rel_of, object, procedure_of, with_item, with_stmt, with_value}

abbrev column_of : Option Pos → ℕ
column_of None = 0
column_of (Some pos) = pos.column

abbrev columns : List Spelled → List ℕ
columns ts = map (λ t. column_of (position t)) ts

abbrev nth : ℕ → List ℕ → ℕ
nth n [] = 0
nth zero (x ∷ xs) = x
nth (suc n) (x ∷ xs) = nth n xs

abbrev first_of_text : Spelled → ℕ
first_of_text (Ident pos text) = nth 0 text
first_of_text _ = 0

-- What one number tells of two lists tells them apart.
differ : {a b : List Spelled} (f : List Spelled → ℕ) → (f a ≡ f b → ⊥) → a ≡ b → ⊥
differ f apart e = apart (ap f e)

-- ";" stands a column further right.
semicolon_moved : IsTextOf "procedure P is begin null; end;" (with_stmt (stmt.Null (at 22) (at 27)) 28) → ⊥
unfolding computes
semicolon_moved h = differ (λ ts. nth 5 (columns ts)) (λ e. omega arith) h.spelled

-- "or" is spelled, where the text has "xor", at the same columns.
other_operator : IsTextOf "procedure P is begin X := A xor B; end;" (with_value (expr.Or (at 27) (rel_of 27 (object 27 "A"))
    (at 29) (rel_of 33 (object 33 "B")) []) 34) → ⊥
unfolding computes
other_operator h = differ (λ ts. nth 7 (map code ts)) (λ e. omega arith) h.spelled

-- A token more is spelled than the text has.
token_too_many : IsTextOf "procedure P is begin exit; end;" (with_stmt (stmt.ExitWhen (at 22) (at 27)
    (expr.LoneRelation (at 27) (rel_of 27 (object 27 "B"))) (at 26)) 28) → ⊥
unfolding computes
token_too_many h = differ length (λ e. omega arith) h.spelled

-- The text of an identifier is in another letter case.
other_text : IsTextOf "procedure P is type T; begin null; end;" (with_item (item.IncompleteType (at 16) (id 21 "t") (at 22)) 24) → ⊥
unfolding computes
other_text h = differ (λ ts. nth 4 (map first_of_text ts)) (λ e. omega arith) h.spelled

-- The sequence keeps another position than that of its first statement.
other_position : IsTextOf "procedure P is begin null; end;"
    (procedure_of [] 16 (stmts.Sequence (at 23) (stmt.Null (at 22) (at 26)) []) 28) → ⊥
unfolding computes
other_position h = let e : ◌≡◌ {A = ℕ} 22 23 = ap column_of h.fits.placed.0.2.3.0 in omega arith
