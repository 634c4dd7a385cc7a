-- An expression that is a name alone is spelled as the name, and a well placed one is the
-- expression of its name.
use Rattle.std.proofs.Common.{◌≡◌, refl, sym, ap, subst, ◌∙◌, ℕ, List, []}
use Rattle.std.proofs.lemmas.List.{append-nil}
use Rattle.std.proofs.lemmas.Option.{none-some, same_Some}
use Rattle.std.specs.Prelude.{Option, Some, ◌∷◌}
use denote.Hole.Carrier.{hidden}
use Rattle.spark_base.specs.declared.position.Pos.{Pos}
use Rattle.ada_tree.specs.declared.expression.Aggregate.TheBlock.{shape-the_row-Rel-3, hidden-the_row-Rel-3, shape-the_row-Name-7, hidden-the_row-Name-7}
use Rattle.ada_tree.specs.declared.expression.Expr.{Expr}
use Rattle.ada_tree.specs.declared.expression.Expr.TheVariants as expr
use Rattle.ada_tree.specs.declared.expression.Rel.{Rel}
use Rattle.ada_tree.specs.declared.expression.Rel.TheVariants as rel
use Rattle.ada_tree.specs.declared.expression.Sum.{Sum}
use Rattle.ada_tree.specs.declared.expression.Sum.TheVariants as sum
use Rattle.ada_tree.specs.declared.expression.Term.{Term}
use Rattle.ada_tree.specs.declared.expression.Term.TheVariants as term
use Rattle.ada_tree.specs.declared.expression.Factor.{Factor}
use Rattle.ada_tree.specs.declared.expression.Factor.TheVariants as factor
use Rattle.ada_tree.specs.declared.expression.Primary.{Primary}
use Rattle.ada_tree.specs.declared.expression.Primary.TheVariants as primary
use Rattle.ada_tree.specs.declared.expression.Name.{Name}
use Rattle.token_reading.specs.Weights.{WeighedToken}
use Rattle.token_reading.specs.declared.side.Side.{Side}
use Rattle.token_reading.specs.declared.side.Side.TheVariants.{Within}
use Rattle.ada_tree.specs.Positions.{name_position}
use Rattle.ada_tree.specs.Spelling.{name_spelling, name_box, primary_spelling, factor_spelling, term_spelling, sum_spelling, rel_spelling, rel_box, expr_spelling}
use Rattle.ada_tree.specs.WellPlaced.{StartsAt, NamePlaced, NameBoxPlaced, PrimaryPlaced, FactorPlaced, TermPlaced, SumPlaced, RelPlaced, RelBoxPlaced, ExprPlaced}
use Rattle.ada_tree.specs.Lone.{unfollowed, name_of_box, primary_name, factor_name, term_name, sum_name, rel_name, lone_name, expr_of_name}
use Rattle.ada_tree.proofs.Forms.{name_form, primary_form, factor_form, term_form, sum_form, rel_form, expr_form}
use Rattle.ada_grammar.proofs.Levels.{primary-Named, factor-LonePrimary, term-Product, sum-Unsigned, rel-LoneSum, expr-LoneRelation}
use Rattle.ada_grammar.proofs.Placed.{next_factor-placed, next_term-placed}
use Rattle.ada_tree.proofs.LoneLevels.{primary_name-Named, factor_name-LonePrimary, factor_name-Abs, factor_name-Not, term_name-Product, sum_name-Unsigned, sum_name-Signed, rel_name-LoneSum, rel_name-Compared, lone_name-LoneRelation}

-- ---- the parts of the expression of a name

abbrev named : Name → Primary
named n = primary.Named (name_position n) n

abbrev plain_factor : Name → Factor
plain_factor n = factor.LonePrimary (name_position n) (named n)

abbrev sole_term : Name → Term
sole_term n = term.Product (name_position n) (plain_factor n) []

abbrev unsigned_sum : Name → Sum
unsigned_sum n = sum.Unsigned (name_position n) (sole_term n) []

abbrev sole_rel : Name → Rel
sole_rel n = rel.LoneSum (name_position n) (unsigned_sum n)

-- ---- its spelling

factor_spelling-name : (d : ℕ) (n : Name) → factor_spelling d (plain_factor n) ≡ name_spelling Within d n
factor_spelling-name d n = factor-LonePrimary d (name_position n) (named n) ∙ primary-Named d (name_position n) n

term_spelling-name : (d : ℕ) (n : Name) → term_spelling d (sole_term n) ≡ name_spelling Within d n
term_spelling-name d n =
    term-Product d (name_position n) (plain_factor n) [] ∙ append-nil (factor_spelling d (plain_factor n)) ∙ factor_spelling-name d n

sum_spelling-name : (d : ℕ) (n : Name) → sum_spelling d (unsigned_sum n) ≡ name_spelling Within d n
sum_spelling-name d n =
    sum-Unsigned d (name_position n) (sole_term n) [] ∙ append-nil (term_spelling d (sole_term n)) ∙ term_spelling-name d n

rel_spelling-name : (d : ℕ) (n : Name) → rel_spelling d (sole_rel n) ≡ name_spelling Within d n
rel_spelling-name d n = rel-LoneSum d (name_position n) (unsigned_sum n) ∙ sum_spelling-name d n

pub expr_of_name-spelling : (d : ℕ) (n : Name) → expr_spelling d (expr_of_name n) ≡ name_spelling Within d n
unfolding expr_of_name
expr_of_name-spelling d n = expr-LoneRelation d (name_position n) (sole_rel n) ∙ rel_spelling-name d n

-- ---- its name and its position

pub lone_name-expr_of_name : (n : Name) → lone_name (expr_of_name n) ≡ Some n
unfolding expr_of_name
lone_name-expr_of_name n =
    lone_name-LoneRelation (name_position n) (sole_rel n) ∙ rel_name-LoneSum (name_position n) (unsigned_sum n)
    ∙ sum_name-Unsigned (name_position n) (sole_term n) [] ∙ term_name-Product (name_position n) (plain_factor n) []
    ∙ factor_name-LonePrimary (name_position n) (named n) ∙ primary_name-Named (name_position n) n

-- ---- where it is placed

-- A well placed name starts at its position.
pub name_starts : (side : Side) (d : ℕ) (n : Name) → NamePlaced d n → StartsAt (name_position n) (name_spelling side d n)
unfolding name_spelling NamePlaced
name_starts side d = name_form (λ n. NamePlaced d n → StartsAt (name_position n) (name_spelling side d n))
    (λ pos first rest placed. ap Some placed.0)

-- And nowhere else.
pub name_starts_at : (side : Side) (d : ℕ) (pos : Pos) (n : Name) → NamePlaced d n → StartsAt pos (name_spelling side d n)
    → pos ≡ name_position n
unfolding name_spelling NamePlaced
name_starts_at side d pos = name_form (λ n. NamePlaced d n → StartsAt pos (name_spelling side d n) → pos ≡ name_position n)
    (λ position first rest placed starts. sym (same_Some first.pos pos starts) ∙ placed.0)

-- What is spelled as the name starts where the name does.
spelled_starts : (d : ℕ) (n : Name) {spelling : List WeighedToken} → spelling ≡ name_spelling Within d n → NamePlaced d n
    → StartsAt (name_position n) spelling
spelled_starts d n same placed = subst (StartsAt (name_position n)) (sym same) (name_starts Within d n placed)

primary_placed : (d : ℕ) (n : Name) → NamePlaced d n → PrimaryPlaced d (named n)
unfolding PrimaryPlaced name_box NameBoxPlaced hidden-the_row-Name-7 shape-the_row-Name-7 hidden
primary_placed d n placed = (name_starts Within d n placed, placed)

factor_placed : (d : ℕ) (n : Name) → NamePlaced d n → FactorPlaced d (plain_factor n)
unfolding FactorPlaced
factor_placed d n placed =
    (spelled_starts d n (primary-Named d (name_position n) n) placed, primary_placed d n placed)

term_placed : (d : ℕ) (n : Name) → NamePlaced d n → TermPlaced d (sole_term n)
unfolding TermPlaced
term_placed d n placed = (
  spelled_starts d n (factor_spelling-name d n) placed,
  factor_placed d n placed,
  subst (λ P. P) (sym (next_factor-placed d [])) tt,
)

sum_placed : (d : ℕ) (n : Name) → NamePlaced d n → SumPlaced d (unsigned_sum n)
unfolding SumPlaced
sum_placed d n placed = (
  spelled_starts d n (term_spelling-name d n) placed,
  term_placed d n placed,
  subst (λ P. P) (sym (next_term-placed d [])) tt,
)

rel_placed : (d : ℕ) (n : Name) → NamePlaced d n → RelPlaced d (sole_rel n)
unfolding RelPlaced
rel_placed d n placed = (spelled_starts d n (sum_spelling-name d n) placed, sum_placed d n placed)

pub expr_of_name-placed : (d : ℕ) (n : Name) → NamePlaced d n → ExprPlaced d (expr_of_name n)
unfolding expr_of_name ExprPlaced rel_box RelBoxPlaced hidden-the_row-Rel-3 shape-the_row-Rel-3 hidden
expr_of_name-placed d n placed = (spelled_starts d n (rel_spelling-name d n) placed, rel_placed d n placed)

-- ---- a well placed expression that is a name alone is the expression of its name

unfollowed_is : {A B : Type 0} (found : Option A) (rest : List B) (x : A) → unfollowed found rest ≡ Some x
    → (found ≡ Some x) × (rest ≡ [])
unfollowed_is found [] x is = (is, refl)
unfollowed_is found (_ ∷ _) x is = absurd (none-some x is)

-- A part at this position that is spelled as the name: the position is the name's.
placed_as_name : {A : Type 0} (spelling : A → List WeighedToken) (part whole : A) (d : ℕ) (n : Name) (pos : Pos) → part ≡ whole
    → spelling whole ≡ name_spelling Within d n → NamePlaced d n → StartsAt pos (spelling part) → pos ≡ name_position n
placed_as_name spelling part whole d n pos same spelled placed starts =
    name_starts_at Within d pos n placed (subst (StartsAt pos) (ap spelling same ∙ spelled) starts)

primary_is : (d : ℕ) (tree : Primary) (n : Name) → PrimaryPlaced d tree → primary_name tree ≡ Some n
    → NamePlaced d n × (tree ≡ named n)
unfolding PrimaryPlaced name_box NameBoxPlaced primary_name name_of_box hidden-the_row-Name-7 shape-the_row-Name-7 hidden
primary_is d = primary_form
    (λ t. (n : Name) → PrimaryPlaced d t → primary_name t ≡ Some n → NamePlaced d n × (t ≡ named n))
    (λ _ _ n _ is. absurd (none-some n is)) (λ _ _ n _ is. absurd (none-some n is)) (λ _ n _ is. absurd (none-some n is))
    (λ pos part n placed is.
    let same : part ≡ n = same_Some part n is in
    let there : NamePlaced d n = subst (NamePlaced d) same placed.1 in
    let at : pos ≡ name_position n = placed_as_name (name_spelling Within d) part n d n pos same refl there placed.0 in
    (there, ap (λ p. primary.Named p part) at ∙ ap (primary.Named (name_position n)) same))
    (λ _ _ _ n _ is. absurd (none-some n is)) (λ _ _ n _ is. absurd (none-some n is)) (λ _ _ n _ is. absurd (none-some n is))
    (λ _ _ _ _ n _ is. absurd (none-some n is)) (λ _ _ _ _ _ _ n _ is. absurd (none-some n is))

factor_is : (d : ℕ) (tree : Factor) (n : Name) → FactorPlaced d tree → factor_name tree ≡ Some n
    → NamePlaced d n × (tree ≡ plain_factor n)
unfolding FactorPlaced
factor_is d = factor_form
    (λ t. (n : Name) → FactorPlaced d t → factor_name t ≡ Some n → NamePlaced d n × (t ≡ plain_factor n))
    (λ pos part n placed is.
    let below : NamePlaced d n × (part ≡ named n) = primary_is d part n placed.1 (sym (factor_name-LonePrimary pos part) ∙ is) in
    let at : pos ≡ name_position n = placed_as_name (primary_spelling d) part (named n) d n pos below.1
    (primary-Named d (name_position n) n) below.0 placed.0 in
    (below.0, ap (λ p. factor.LonePrimary p part) at ∙ ap (factor.LonePrimary (name_position n)) below.1))
    (λ pos part n _ is. absurd (none-some n (sym (factor_name-Abs pos part) ∙ is)))
    (λ pos part n _ is. absurd (none-some n (sym (factor_name-Not pos part) ∙ is)))

term_is : (d : ℕ) (tree : Term) (n : Name) → TermPlaced d tree → term_name tree ≡ Some n
    → NamePlaced d n × (tree ≡ sole_term n)
unfolding TermPlaced
term_is d = term_form
    (λ t. (n : Name) → TermPlaced d t → term_name t ≡ Some n → NamePlaced d n × (t ≡ sole_term n))
    (λ pos part rest n placed is.
    let alone : (factor_name part ≡ Some n) × (rest ≡ []) =
    unfollowed_is (factor_name part) rest n (sym (term_name-Product pos part rest) ∙ is) in
    let below : NamePlaced d n × (part ≡ plain_factor n) = factor_is d part n placed.1 alone.0 in
    let at : pos ≡ name_position n = placed_as_name (factor_spelling d) part (plain_factor n) d n pos below.1
    (factor_spelling-name d n) below.0 placed.0 in (
      below.0,
      ap (λ p. term.Product p part rest) at ∙ ap (λ f. term.Product (name_position n) f rest) below.1
          ∙ ap (term.Product (name_position n) (plain_factor n)) alone.1,
    ))

sum_is : (d : ℕ) (tree : Sum) (n : Name) → SumPlaced d tree → sum_name tree ≡ Some n
    → NamePlaced d n × (tree ≡ unsigned_sum n)
unfolding SumPlaced
sum_is d = sum_form
    (λ t. (n : Name) → SumPlaced d t → sum_name t ≡ Some n → NamePlaced d n × (t ≡ unsigned_sum n))
    (λ pos part rest n placed is.
    let alone : (term_name part ≡ Some n) × (rest ≡ []) =
    unfollowed_is (term_name part) rest n (sym (sum_name-Unsigned pos part rest) ∙ is) in
    let below : NamePlaced d n × (part ≡ sole_term n) = term_is d part n placed.1 alone.0 in
    let at : pos ≡ name_position n = placed_as_name (term_spelling d) part (sole_term n) d n pos below.1
    (term_spelling-name d n) below.0 placed.0 in (
      below.0,
      ap (λ p. sum.Unsigned p part rest) at ∙ ap (λ t. sum.Unsigned (name_position n) t rest) below.1
          ∙ ap (sum.Unsigned (name_position n) (sole_term n)) alone.1,
    ))
    (λ pos sign part rest n _ is. absurd (none-some n (sym (sum_name-Signed pos sign part rest) ∙ is)))

rel_is : (d : ℕ) (tree : Rel) (n : Name) → RelPlaced d tree → rel_name tree ≡ Some n
    → NamePlaced d n × (tree ≡ sole_rel n)
unfolding RelPlaced
rel_is d = rel_form
    (λ t. (n : Name) → RelPlaced d t → rel_name t ≡ Some n → NamePlaced d n × (t ≡ sole_rel n))
    (λ pos part n placed is.
    let below : NamePlaced d n × (part ≡ unsigned_sum n) = sum_is d part n placed.1 (sym (rel_name-LoneSum pos part) ∙ is) in
    let at : pos ≡ name_position n = placed_as_name (sum_spelling d) part (unsigned_sum n) d n pos below.1
    (sum_spelling-name d n) below.0 placed.0 in
    (below.0, ap (λ p. rel.LoneSum p part) at ∙ ap (rel.LoneSum (name_position n)) below.1))
    (λ pos left operator operator_pos right n _ is.
    absurd (none-some n (sym (rel_name-Compared pos left operator operator_pos right) ∙ is)))

pub lone_name_is : (d : ℕ) (tree : Expr) (n : Name) → ExprPlaced d tree → lone_name tree ≡ Some n
    → NamePlaced d n × (tree ≡ expr_of_name n)
unfolding expr_of_name lone_name ExprPlaced rel_box RelBoxPlaced hidden-the_row-Rel-3 shape-the_row-Rel-3 hidden
lone_name_is d = expr_form
    (λ t. (n : Name) → ExprPlaced d t → lone_name t ≡ Some n → NamePlaced d n × (t ≡ expr_of_name n))
    (λ pos part n placed is.
    let below : NamePlaced d n × (part ≡ sole_rel n) = rel_is d part n placed.1 (sym (lone_name-LoneRelation pos part) ∙ is) in
    let at : pos ≡ name_position n = placed_as_name (rel_spelling d) part (sole_rel n) d n pos below.1
    (rel_spelling-name d n) below.0 placed.0 in
    (below.0, ap (λ p. expr.LoneRelation p part) at ∙ ap (expr.LoneRelation (name_position n)) below.1))
    (λ _ _ _ _ _ n _ is. absurd (none-some n is)) (λ _ _ _ _ _ n _ is. absurd (none-some n is))
    (λ _ _ _ _ _ n _ is. absurd (none-some n is)) (λ _ _ _ _ _ _ n _ is. absurd (none-some n is))
    (λ _ _ _ _ _ _ n _ is. absurd (none-some n is))
