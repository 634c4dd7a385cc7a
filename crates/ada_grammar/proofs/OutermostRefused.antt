-- Tokens in a row that no source has, since one is counted in the wrong outermost expression or in
-- none. So the law in Outermost.antt tells how each such token is counted.
use Rattle.std.proofs.Common.{◌≡◌, refl, sym, ap, subst, ◌∙◌, ℕ, List, [], ◌∷◌, ◌++◌, arith}
use Rattle.std.proofs.lemmas.Bool.{true≢false, false≢true}
use Rattle.std.specs.Prelude.{Bool, true, false, if◌then◌else◌}
use Rattle.spark_base.specs.declared.position.Pos.{Pos}
use Rattle.ada_lexer.specs.declared.token.Reserved.TheVariants as w
use Rattle.ada_lexer.specs.declared.token.Symbol.TheVariants as s
use Rattle.ada_tree.specs.declared.expression.Aggregate.{Aggregate}
use Rattle.ada_tree.specs.declared.expression.Expr.{Expr}
use Rattle.ada_tree.specs.declared.expression.Rel.{Rel}
use Rattle.ada_tree.specs.declared.expression.Sum.{Sum}
use Rattle.ada_tree.specs.declared.expression.Term.{Term}
use Rattle.ada_tree.specs.declared.expression.Factor.{Factor}
use Rattle.ada_tree.specs.declared.expression.Primary.{Primary}
use Rattle.ada_tree.specs.declared.expression.Name.{Name}
use Rattle.token_reading.specs.Spelled.{Word, Delimiter, Ident, Number}
use Rattle.token_reading.specs.declared.side.Side.TheVariants.{Apart, Within}
use Rattle.token_reading.specs.Weights.{WeighedToken, plain, opens, operates}
use Rattle.token_reading.specs.Reading.{Each}
use Rattle.ada_tree.specs.Spelling.{expr_spelling, rel_spelling, sum_spelling, term_spelling, factor_spelling, primary_spelling, aggregate_spelling, name_spelling}
use Rattle.ada_tree.proofs.Forms.{aggregate_form, expr_form, rel_form, sum_form, term_form, factor_form, primary_form, name_form}
use Rattle.ada_grammar.specs.Nesting.{is_operator}
use Rattle.ada_grammar.specs.Outermost.{IsOutside, IsPart, always_leads, leads, Outermost, nothing, outside, behind_end, leads_to}
use Rattle.ada_grammar.proofs.Levels as level

-- ---- an expression has a token

record Begun (ms : List WeighedToken) : Type 0 where
  first : WeighedToken
  rest : List WeighedToken
  split : ms ≡ first ∷ rest

begun_by : (m : WeighedToken) (rest : List WeighedToken) → Begun (m ∷ rest)
begun_by m rest = record { first = m; rest = rest; split = refl }

begun_as : {a b : List WeighedToken} → a ≡ b → Begun b → Begun a
begun_as same begun = subst Begun (sym same) begun

begun_before : {a : List WeighedToken} (b : List WeighedToken) → Begun a → Begun (a ++ b)
begun_before b begun = record { first = begun.first; rest = begun.rest ++ b; split = ap (λ ms. ms ++ b) begun.split }

name_begun : (d : ℕ) (tree : Name) → Begun (name_spelling Within d tree)
name_begun d = name_form (λ t. Begun (name_spelling Within d t)) (λ pos first rest. begun_as (level.name-Prefixed Within d pos first rest) (begun_by _ _))

aggregate_begun : (d : ℕ) (tree : Aggregate) → Begun (aggregate_spelling d tree)
aggregate_begun d = aggregate_form (λ t. Begun (aggregate_spelling d t))
    (λ pos first comma second rest end. begun_as (level.aggregate-Several d pos first comma second rest end) (begun_by _ _))
    (λ pos id arrow value end. begun_as (level.aggregate-Single d pos id arrow value end) (begun_by _ _))
    (λ pos others arrow value end. begun_as (level.aggregate-Others d pos others arrow value end) (begun_by _ _))

primary_begun : (d : ℕ) (tree : Primary) → Begun (primary_spelling d tree)
primary_begun d = primary_form (λ t. Begun (primary_spelling d t))
    (λ pos number. begun_as (level.primary-Number d pos number) (begun_by _ _))
    (λ pos text. begun_as (level.primary-Text d pos text) (begun_by _ _))
    (λ pos. begun_as (level.primary-Null d pos) (begun_by _ _))
    (λ pos part. begun_as (level.primary-Named d pos part) (name_begun d part))
    (λ pos part end. begun_as (level.primary-Parenthesized d pos part end) (begun_by _ _))
    (λ pos part. begun_as (level.primary-Aggregated d pos part) (aggregate_begun d part))
    (λ pos mark. begun_as (level.primary-Allocated d pos mark) (begun_by _ _))
    (λ pos mark apostrophe part. begun_as (level.primary-AllocatedAggregate d pos mark apostrophe part) (begun_by _ _))
    (λ pos mark apostrophe start value end. begun_as (level.primary-AllocatedValue d pos mark apostrophe start value end) (begun_by _ _))

factor_begun : (d : ℕ) (tree : Factor) → Begun (factor_spelling d tree)
factor_begun d = factor_form (λ t. Begun (factor_spelling d t))
    (λ pos operand. begun_as (level.factor-LonePrimary d pos operand) (primary_begun d operand))
    (λ pos operand. begun_as (level.factor-Abs d pos operand) (begun_by _ _))
    (λ pos operand. begun_as (level.factor-Not d pos operand) (begun_by _ _))

term_begun : (d : ℕ) (tree : Term) → Begun (term_spelling d tree)
term_begun d = term_form (λ t. Begun (term_spelling d t))
    (λ pos first rest. begun_as (level.term-Product d pos first rest) (begun_before _ (factor_begun d first)))

sum_begun : (d : ℕ) (tree : Sum) → Begun (sum_spelling d tree)
sum_begun d = sum_form (λ t. Begun (sum_spelling d t))
    (λ pos first rest. begun_as (level.sum-Unsigned d pos first rest) (begun_before _ (term_begun d first)))
    (λ pos sign first rest. begun_as (level.sum-Signed d pos sign first rest) (begun_by _ _))

rel_begun : (d : ℕ) (tree : Rel) → Begun (rel_spelling d tree)
rel_begun d = rel_form (λ t. Begun (rel_spelling d t))
    (λ pos operand. begun_as (level.rel-LoneSum d pos operand) (sum_begun d operand))
    (λ pos left operator at right. begun_as (level.rel-Compared d pos left operator at right) (begun_before _ (sum_begun d left)))

expr_begun : (d : ℕ) (tree : Expr) → Begun (expr_spelling d tree)
expr_begun d = expr_form (λ t. Begun (expr_spelling d t))
    (λ pos relation. begun_as (level.expr-LoneRelation d pos relation) (rel_begun d relation))
    (λ pos first at second rest. begun_as (level.expr-And d pos first at second rest) (begun_before _ (rel_begun d first)))
    (λ pos first at second rest. begun_as (level.expr-Or d pos first at second rest) (begun_before _ (rel_begun d first)))
    (λ pos first at second rest. begun_as (level.expr-Xor d pos first at second rest) (begun_before _ (rel_begun d first)))
    (λ pos first at by second rest. begun_as (level.expr-AndThen d pos first at by second rest) (begun_before _ (rel_begun d first)))
    (λ pos first at by second rest. begun_as (level.expr-OrElse d pos first at by second rest) (begun_before _ (rel_begun d first)))

-- ---- the first of such tokens

-- No token is both part of an expression and outside.
either : (is : Bool) (next : ℕ) → next ≡ 0 → next ≡ (if is then 2 else 1) → ⊥
either true next none some = let e : ◌≡◌ {A = ℕ} 0 2 = sym none ∙ some in omega arith
either false next none some = let e : ◌≡◌ {A = ℕ} 0 1 = sym none ∙ some in omega arith

never_both : (m : WeighedToken) → IsOutside m → IsPart m → ⊥
never_both m out part = either (is_operator m.token) (m.weight.step 1) (out 1) (part 1)

data Front (m : WeighedToken) (ms : List WeighedToken) : Type 0 where
  front_outside : always_leads m.token ≡ false → Outermost ms → Front m ms
  front_end : (pos : Pos) (n : WeighedToken) (behind : List WeighedToken) → m.token ≡ Word w.KwEnd pos → IsOutside n
      → ms ≡ n ∷ behind → Front m ms
  front_leads : leads m.token ≡ true → (n : WeighedToken) (behind : List WeighedToken) → IsPart n → ms ≡ n ∷ behind → Front m ms

abbrev FrontOf : List WeighedToken → Type 0
FrontOf [] = Unit {0}
FrontOf (m ∷ ms) = IsOutside m × Front m ms

first_part : (ms : List WeighedToken) (begun : Begun ms) → Each IsPart ms → IsPart begun.first
first_part ms begun whole = (subst (Each IsPart) begun.split whole).0

front : {ms : List WeighedToken} → Outermost ms → FrontOf ms
front nothing = tt
front (outside m behind out other more) = (out, front_outside other more)
front (behind_end end m pos behind out is apart more) = (out, front_end pos m behind is apart refl)
front (leads_to m d tree behind out lead whole more) =
    let begun = expr_begun d tree in (
      out,
      front_leads lead begun.first (begun.rest ++ behind) (first_part (expr_spelling d tree) begun whole)
          (ap (λ ms. ms ++ behind) begun.split),
    )

same_first : (m n : WeighedToken) (ms ns : List WeighedToken) → m ∷ ms ≡ n ∷ ns → m ≡ n
same_first m n ms ns same = cc

-- A part of an expression follows no token that leads to none.
part_behind : (m n : WeighedToken) (ms : List WeighedToken) → leads m.token ≡ false → IsPart n → FrontOf (m ∷ (n ∷ ms))
    → (Outermost (n ∷ ms) → ⊥) → ⊥
part_behind m n ms none part (out, front_outside other more) never = never more
part_behind m n ms none part (out, front_end pos x behind is apart split) never =
    never_both n (subst IsOutside (sym (same_first n x ms behind split)) apart) part
part_behind m n ms none part (out, front_leads lead x behind first split) never = true≢false (sym lead ∙ none)

part_first : (m : WeighedToken) (ms : List WeighedToken) → IsPart m → Outermost (m ∷ ms) → ⊥
part_first m ms part it = never_both m (front it).0 part

-- No token outside follows one that always leads to an expression.
outside_behind : (m n : WeighedToken) (ms : List WeighedToken) → always_leads m.token ≡ true → IsOutside n → FrontOf (m ∷ (n ∷ ms)) → ⊥
outside_behind m n ms always apart (out, front_outside other more) = true≢false (sym always ∙ other)
outside_behind m n ms always apart (out, front_end pos x behind is also split) =
    false≢true (sym (ap always_leads is) ∙ always)
outside_behind m n ms always apart (out, front_leads lead x behind first split) =
    never_both n apart (subst IsPart (sym (same_first n x ms behind split)) first)

-- ---- what no source has

-- The ";" of "null;" as part of an expression.
semicolon_within : (pos end : Pos) (ms : List WeighedToken)
    → Outermost (plain Apart (Word w.KwNull pos) ∷ plain Within (Delimiter s.Semicolon end) ∷ ms) → ⊥
semicolon_within pos end ms it = part_behind _ _ ms refl (λ k. refl) (front it) (part_first _ ms (λ k. refl))

-- The "(" of a call that is a statement as part of an expression.
parenthesis_within : (d : ℕ) (pos start : Pos) (text : List ℕ) (ms : List WeighedToken)
    → Outermost (plain Apart (Ident pos text) ∷ opens Within d (Delimiter s.LeftParenthesis start) ∷ ms) → ⊥
parenthesis_within d pos start text ms it = part_behind _ _ ms refl (λ k. refl) (front it) (part_first _ ms (λ k. refl))

-- An operand that is part of no expression, before its operator.
operand_apart : (pos at : Pos) (text : List ℕ) (ms : List WeighedToken)
    → Outermost (plain Apart (Ident pos text) ∷ operates (Delimiter s.Plus at) ∷ ms) → ⊥
operand_apart pos at text ms it = part_behind _ _ ms refl (λ k. refl) (front it) (part_first _ ms (λ k. refl))

-- A value that is part of no expression, after ":=".
value_apart : (pos at : Pos) (number : ℕ) (ms : List WeighedToken)
    → Outermost (plain Apart (Delimiter s.Becomes pos) ∷ plain Apart (Number number at) ∷ ms) → ⊥
value_apart pos at number ms it = outside_behind _ _ ms refl (λ k. refl) (front it)

-- A condition whose first token is part of no expression.
condition_apart : (d : ℕ) (pos at : Pos) (text : List ℕ) (ms : List WeighedToken)
    → Outermost (opens Apart d (Word w.KwIf pos) ∷ plain Apart (Ident at text) ∷ ms) → ⊥
condition_apart d pos at text ms it = outside_behind _ _ ms refl (λ k. refl) (front it)
