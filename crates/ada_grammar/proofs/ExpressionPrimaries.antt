-- The laws of the readers of allocators and primaries, over a reader of the expressions in their
-- parentheses.
use Rattle.std.proofs.Common.{◌≡◌, refl, sym, ap, ◌∙◌, subst, ℕ, suc, false, List, [], ◌∷◌, ◌++◌, Some, None, inl, inr}
use Rattle.std.proofs.lemmas.List.{append-nil}
use Rattle.spark_base.specs.declared.position.Pos.{Pos}
use Rattle.ada_lexer.specs.declared.token.Reserved.TheVariants as w
use Rattle.ada_lexer.specs.declared.token.Symbol.TheVariants as s
use Rattle.ada_tree.specs.declared.identifier.Dotted.{Dotted}
use Rattle.ada_tree.specs.declared.expression.Aggregate.{Aggregate}
use Rattle.ada_tree.specs.declared.expression.Aggregate.TheBlock.{shape-the_row-Expr-2, hidden-the_row-Expr-2, shape-the_row-Aggregate-8, hidden-the_row-Aggregate-8}
use Rattle.ada_tree.specs.declared.expression.Expr.{Expr}
use Rattle.ada_tree.specs.declared.expression.Primary.{Primary}
use Rattle.ada_tree.specs.declared.expression.Primary.TheVariants as of_primary
use Rattle.ada_tree.specs.declared.expression.Name.{Name}
use Rattle.ada_tree.specs.Positions.{aggregate_position}
use Rattle.ada_tree.specs.Spelling.{word, symbol, dotted_spelling, name_spelling, primary_spelling}
use Rattle.ada_tree.specs.WellPlaced.{StartsAt, DottedPlaced, NamePlaced, ExprPlaced, PrimaryPlaced, AggregatePlaced}
use Rattle.ada_grammar.proofs.Levels.{primary-Number, primary-Text, primary-Null, primary-Named, primary-Parenthesized, primary-Aggregated, primary-Allocated, primary-AllocatedAggregate, primary-AllocatedValue}
use Rattle.ada_grammar.proofs.PlacedLevels.{primary-Number-placed, primary-Text-placed, primary-Null-placed, primary-Named-placed, primary-Parenthesized-placed, primary-Aggregated-placed, primary-Allocated-placed, primary-AllocatedAggregate-placed, primary-AllocatedValue-placed}
use Rattle.ada_tree.proofs.Forms.{primary_form}
use denote.Hole.Carrier.{hidden}
use Rattle.token_reading.specs.declared.side.Side.TheVariants.{Within}
use Rattle.token_reading.specs.Spelled.{Word, Delimiter}
use Rattle.token_reading.specs.Weights.{WeighedToken, plain}
use Rattle.token_reading.specs.Reading.{Reader, of_word, of_symbol, of_number, of_string}
use Rattle.token_reading.proofs.Law.{Law}
use Rattle.token_reading.proofs.Tokens.{Any, number_token, string_token, law_word, law_symbol, law_number, law_string}
use Rattle.token_reading.proofs.Seq.{Both, joined, law_seq}
use Rattle.token_reading.proofs.Made.{law_to, law_wider}
use Rattle.token_reading.proofs.Choice.{Either, of_either, Maybe, maybe_spelled, law_choose, law_optional}
use Rattle.token_reading.proofs.Positions.{law_placed}
use Rattle.ada_grammar.specs.Expressions.{name_last, AllocatorParts, make_qualified, make_allocator, allocator_in, PrimaryParts, make_primary, primary_in, primary_first}
use Rattle.ada_grammar.proofs.ExpressionNames.{law_dotted}
use Rattle.ada_grammar.proofs.ExpressionArgs.{holds, gives}
use Rattle.ada_grammar.proofs.ExpressionSuffixes.{InnerLaw, law_name_in}
use Rattle.ada_grammar.proofs.ExpressionParentheses.{InParentheses, GoodParenthesized, good_aggregated, good_parentheses, law_parenthesized_in}

-- ---- allocators

unfoldable pub IsAllocator : Primary → Type 0
IsAllocator (of_primary.Allocated _ _) = Unit {0}
IsAllocator (of_primary.AllocatedAggregate' _ _ _ _ _) = Unit {0}
IsAllocator (of_primary.AllocatedValue' _ _ _ _ _ _ _) = Unit {0}
IsAllocator _ = ⊥

abbrev pub GoodAllocator : ℕ → Primary → Type 0
GoodAllocator d x = PrimaryPlaced d x × IsAllocator x

qualified_value : (new : Pos) (mark : Dotted) (tick left : Pos) (value : Expr) (right : Pos)
    → make_qualified new mark tick (of_primary.Parenthesized left value right) ≡ of_primary.AllocatedValue new mark tick left value right
unfolding hidden-the_row-Expr-2 shape-the_row-Expr-2 hidden
qualified_value new mark tick left value right = refl

qualified_aggregate : (new : Pos) (mark : Dotted) (tick pos : Pos) (x : Aggregate)
    → make_qualified new mark tick (of_primary.Aggregated pos x) ≡ of_primary.AllocatedAggregate new mark tick x
unfolding hidden-the_row-Aggregate-8 shape-the_row-Aggregate-8 hidden
qualified_aggregate new mark tick pos x = refl

good_value : (d : ℕ) (new : Pos) (mark : Dotted) (tick left : Pos) (value : Expr) (right : Pos) → DottedPlaced mark → ExprPlaced (suc d) value
    → GoodAllocator d (of_primary.AllocatedValue new mark tick left value right)
unfolding IsAllocator
good_value d new mark tick left value right marked placed = (holds (primary-AllocatedValue-placed d new mark tick left value right) (marked, placed), tt)

good_aggregate : (d : ℕ) (new : Pos) (mark : Dotted) (tick : Pos) (x : Aggregate) → DottedPlaced mark → AggregatePlaced d x
    → GoodAllocator d (of_primary.AllocatedAggregate new mark tick x)
unfolding IsAllocator
good_aggregate d new mark tick x marked placed = (holds (primary-AllocatedAggregate-placed d new mark tick x) (marked, placed), tt)

good_plain : (d : ℕ) (new : Pos) (mark : Dotted) → DottedPlaced mark → GoodAllocator d (of_primary.Allocated new mark)
unfolding IsAllocator
good_plain d new mark marked = (holds (primary-Allocated-placed d new mark) marked, tt)

good_qualified : (d : ℕ) (new : Pos) (mark : Dotted) (tick : Pos) → DottedPlaced mark → (x : Primary) → GoodParenthesized d x
    → GoodAllocator d (make_qualified new mark tick x)
unfolding InParentheses
good_qualified d new mark tick marked =
    primary_form (λ x. GoodParenthesized d x → GoodAllocator d (make_qualified new mark tick x))
    (λ pos number good. absurd good.1) (λ pos text good. absurd good.1) (λ pos good. absurd good.1) (λ pos part good. absurd good.1)
    (λ pos value right good.
    subst (λ x. GoodAllocator d x) (sym (qualified_value new mark tick pos value right))
    (good_value d new mark tick pos value right marked (gives (primary-Parenthesized-placed d pos value right) good.0)))
    (λ pos part good.
    subst (λ x. GoodAllocator d x) (sym (qualified_aggregate new mark tick pos part))
    (good_aggregate d new mark tick part marked (gives (primary-Aggregated-placed d pos part) good.0).1))
    (λ pos it good. absurd good.1) (λ pos it at part good. absurd good.1) (λ pos it at left value right good. absurd good.1)

abbrev new_spelling : ℕ → Pos → Dotted → List WeighedToken → List WeighedToken
new_spelling d new mark more = word Within w.KwNew new ∷ (dotted_spelling Within mark ++ more)

spelled_qualified : (d : ℕ) (new : Pos) (mark : Dotted) (tick : Pos) (x : Primary) → GoodParenthesized d x
    → primary_spelling d (make_qualified new mark tick x) ≡ new_spelling d new mark (symbol Within s.Apostrophe tick ∷ primary_spelling d x)
unfolding InParentheses
spelled_qualified d new mark tick =
    primary_form (λ x. GoodParenthesized d x
    → primary_spelling d (make_qualified new mark tick x) ≡ new_spelling d new mark (symbol Within s.Apostrophe tick ∷ primary_spelling d x))
    (λ pos number good. absurd good.1) (λ pos text good. absurd good.1) (λ pos good. absurd good.1) (λ pos part good. absurd good.1)
    (λ pos value right good.
    ap (primary_spelling d) (qualified_value new mark tick pos value right) ∙ primary-AllocatedValue d new mark tick pos value right
    ∙ ap (λ ms. new_spelling d new mark (symbol Within s.Apostrophe tick ∷ ms)) (sym (primary-Parenthesized d pos value right)))
    (λ pos part good.
    ap (primary_spelling d) (qualified_aggregate new mark tick pos part) ∙ primary-AllocatedAggregate d new mark tick part
    ∙ ap (λ ms. new_spelling d new mark (symbol Within s.Apostrophe tick ∷ ms)) (sym (primary-Aggregated d pos part)))
    (λ pos it good. absurd good.1) (λ pos it at part good. absurd good.1) (λ pos it at left value right good. absurd good.1)

abbrev GoodAllocatorParts : ℕ → AllocatorParts → Type 0
GoodAllocatorParts d = Both Any (Both DottedPlaced (Maybe (Both Any (GoodParenthesized d))))

abbrev allocator_spelling : ℕ → AllocatorParts → List WeighedToken
allocator_spelling d =
    joined (λ p. plain Within (Word w.KwNew p) ∷ []) (joined (dotted_spelling Within)
    (maybe_spelled (joined (λ p. plain Within (Delimiter s.Apostrophe p) ∷ []) (primary_spelling d))))

good_allocator : (d : ℕ) (x : AllocatorParts) → GoodAllocatorParts d x → GoodAllocator d (make_allocator x)
good_allocator d (new, (mark, None)) good = good_plain d new mark good.1.0
good_allocator d (new, (mark, Some x)) good = good_qualified d new mark x.0 good.1.0 x.1 good.1.1.1

spelled_allocator : (d : ℕ) (x : AllocatorParts) → GoodAllocatorParts d x → primary_spelling d (make_allocator x) ≡ allocator_spelling d x
spelled_allocator d (new, (mark, None)) good =
    primary-Allocated d new mark ∙ ap (λ ms. word Within w.KwNew new ∷ ms) (sym (append-nil (dotted_spelling Within mark)))
spelled_allocator d (new, (mark, Some x)) good = spelled_qualified d new mark x.0 x.1 good.1.1.1

abbrev OntoAllocator : ℕ → Primary → Type 0
OntoAllocator d a = (x : AllocatorParts) × (GoodAllocatorParts d x × (make_allocator x ≡ a))

onto_allocator : (d : ℕ) (a : Primary) → GoodAllocator d a → OntoAllocator d a
unfolding IsAllocator
onto_allocator d =
    primary_form (λ a. GoodAllocator d a → OntoAllocator d a)
    (λ pos number good. absurd good.1) (λ pos text good. absurd good.1) (λ pos good. absurd good.1) (λ pos part good. absurd good.1)
    (λ pos value right good. absurd good.1) (λ pos part good. absurd good.1)
    (λ pos mark good. ((pos, (mark, None)), ((tt, (gives (primary-Allocated-placed d pos mark) good.0, tt)), refl)))
    (λ pos mark tick part good.
    let parts = gives (primary-AllocatedAggregate-placed d pos mark tick part) good.0 in
    let own : Primary = of_primary.Aggregated (aggregate_position part) part in (
      (pos, (mark, Some (tick, own))),
      ((tt, (parts.0, (tt, good_aggregated d part parts.1))), qualified_aggregate pos mark tick (aggregate_position part) part),
    ))
    (λ pos mark tick left value right good.
    let parts = gives (primary-AllocatedValue-placed d pos mark tick left value right) good.0 in (
      (pos, (mark, Some (tick, of_primary.Parenthesized left value right))),
      ((tt, (parts.0, (tt, good_parentheses d left value right parts.1))), qualified_value pos mark tick left value right),
    ))

abbrev allocator_last : List ℕ
allocator_last = of_symbol s.Apostrophe ∷ of_symbol s.Dot ∷ []

pub law_allocator_in : (d : ℕ) (inner : Reader Expr) → InnerLaw d inner
    → Law (allocator_in d inner) (GoodAllocator d) (primary_spelling d) (of_word w.KwNew ∷ []) allocator_last false
unfolding allocator_in
law_allocator_in d inner L =
    law_wider (of_word w.KwNew ∷ []) allocator_last
    (law_to make_allocator (GoodAllocator d) (primary_spelling d)
    (law_seq (law_word Within w.KwNew) (law_seq (law_dotted Within)
    (law_optional (of_symbol s.Apostrophe ∷ []) (law_seq (law_symbol Within s.Apostrophe) (law_parenthesized_in d inner L) refl) refl) refl) refl)
    (good_allocator d) (spelled_allocator d) (onto_allocator d)) refl refl

-- ---- primaries

abbrev GoodNamed : ℕ → Pos × Name → Type 0
GoodNamed d x = NamePlaced d x.1 × StartsAt x.0 (name_spelling Within d x.1)

abbrev GoodPrimary : ℕ → PrimaryParts → Type 0
GoodPrimary d = Either Any (Either Any (Either Any (Either (GoodAllocator d) (Either (GoodParenthesized d) (GoodNamed d)))))

abbrev primary_parts_spelling : ℕ → PrimaryParts → List WeighedToken
primary_parts_spelling d =
    of_either (λ x. plain Within (number_token x) ∷ []) (of_either (λ x. plain Within (string_token x) ∷ [])
    (of_either (λ p. plain Within (Word w.KwNull p) ∷ []) (of_either (primary_spelling d) (of_either (primary_spelling d) (λ x. name_spelling Within d x.1)))))

good_primary : (d : ℕ) (x : PrimaryParts) → GoodPrimary d x → PrimaryPlaced d (make_primary x)
good_primary d (inl x) good = holds (primary-Number-placed d x.0 x.1) tt
good_primary d (inr (inl x)) good = holds (primary-Text-placed d x.0 x.1) tt
good_primary d (inr (inr (inl pos))) good = holds (primary-Null-placed d pos) tt
good_primary d (inr (inr (inr (inl part)))) good = good.0
good_primary d (inr (inr (inr (inr (inl part))))) good = good.0
good_primary d (inr (inr (inr (inr (inr x))))) good = holds (primary-Named-placed d x.0 x.1) (good.1, good.0)

spelled_primary : (d : ℕ) (x : PrimaryParts) → primary_spelling d (make_primary x) ≡ primary_parts_spelling d x
spelled_primary d (inl x) = primary-Number d x.0 x.1
spelled_primary d (inr (inl x)) = primary-Text d x.0 x.1
spelled_primary d (inr (inr (inl pos))) = primary-Null d pos
spelled_primary d (inr (inr (inr (inl part)))) = refl
spelled_primary d (inr (inr (inr (inr (inl part))))) = refl
spelled_primary d (inr (inr (inr (inr (inr x))))) = primary-Named d x.0 x.1

onto_primary : (d : ℕ) (a : Primary) → PrimaryPlaced d a → (x : PrimaryParts) × (GoodPrimary d x × (make_primary x ≡ a))
unfolding InParentheses IsAllocator
onto_primary d =
    primary_form (λ a. PrimaryPlaced d a → (x : PrimaryParts) × (GoodPrimary d x × (make_primary x ≡ a)))
    (λ pos number placed. (inl (pos, number), (tt, refl))) (λ pos text placed. (inr (inl (pos, text)), (tt, refl)))
    (λ pos placed. (inr (inr (inl pos)), (tt, refl)))
    (λ pos part placed.
    let parts = gives (primary-Named-placed d pos part) placed in
    (inr (inr (inr (inr (inr (pos, part))))), ((parts.1, parts.0), refl)))
    (λ pos value right placed. (inr (inr (inr (inr (inl (of_primary.Parenthesized pos value right))))), ((placed, tt), refl)))
    (λ pos part placed. (inr (inr (inr (inr (inl (of_primary.Aggregated pos part))))), ((placed, tt), refl)))
    (λ pos mark placed. (inr (inr (inr (inl (of_primary.Allocated pos mark)))), ((placed, tt), refl)))
    (λ pos mark tick part placed. (inr (inr (inr (inl (of_primary.AllocatedAggregate pos mark tick part)))), ((placed, tt), refl)))
    (λ pos mark tick left value right placed.
    (inr (inr (inr (inl (of_primary.AllocatedValue pos mark tick left value right)))), ((placed, tt), refl)))

pub law_primary_in : (d : ℕ) (inner : Reader Expr) → InnerLaw d inner
    → Law (primary_in d inner) (PrimaryPlaced d) (primary_spelling d) primary_first name_last false
unfolding primary_in
law_primary_in d inner L =
    law_wider primary_first name_last
    (law_to make_primary (PrimaryPlaced d) (primary_spelling d)
    (law_choose (of_number ∷ []) law_number (law_choose (of_string ∷ []) law_string
    (law_choose (of_word w.KwNull ∷ []) (law_word Within w.KwNull) (law_choose (of_word w.KwNew ∷ []) (law_allocator_in d inner L)
    (law_choose (of_symbol s.LeftParenthesis ∷ []) (law_parenthesized_in d inner L) (law_placed (law_name_in Within d inner L) refl)
    refl refl) refl refl) refl refl) refl refl) refl refl)
    (good_primary d) (λ x good. spelled_primary d x) (onto_primary d)) refl refl
