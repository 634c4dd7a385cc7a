-- The laws of ranges and choices. A range is read as an expression first; after it ".." stands, or
-- the expression is a mark or a name with "'" "range" at its end.
use Rattle.std.proofs.Common.{◌≡◌, ◌≤◌, refl, sym, ap, ◌∙◌, subst, ℕ, Bool, true, false, List, [], ◌∷◌, ◌++◌, Option, Some, None, Result, Ok, Err, ◌⊎◌, inl, inr}
use Rattle.std.specs.Prelude.{ok_or, if◌then◌else◌}
use Rattle.std.specs.Option.{is_some}
use Rattle.std.proofs.lemmas.List.{append-nil}
use Rattle.spark_base.specs.declared.position.Pos.{Pos}
use Rattle.spark_base.specs.declared.limits.TheConstants.{NESTING}
use Rattle.ada_lexer.specs.declared.token.Reserved.TheVariants as w
use Rattle.ada_lexer.specs.declared.token.Symbol.{Symbol}
use Rattle.ada_lexer.specs.declared.token.Symbol.TheVariants as s
use Rattle.token_reading.specs.declared.side.Side.{Side}
use Rattle.token_reading.specs.declared.side.Side.TheVariants.{Apart, Within}
use Rattle.token_reading.specs.Spelled.{Spelled}
use Rattle.token_reading.specs.Weights.{WeighedToken, bare, resting}
use Rattle.token_reading.specs.Reading.{Outcome, Refused, Got, Fails, Reader, of_word, of_symbol, symbol, symbol_position, taken, starts, and_then, to, seq, seq_on, chain, nothing, either, choose, here}
use Rattle.token_reading.proofs.FirstKinds.{is_symbol}
use Rattle.token_reading.proofs.Sets.{Leads}
use Rattle.token_reading.proofs.Law.{Law}
use Rattle.token_reading.proofs.Tokens.{Any, law_word, law_symbol}
use Rattle.token_reading.proofs.Seq.{Both, joined, law_seq_on, law_seq}
use Rattle.token_reading.proofs.Made.{law_to, law_nothing, law_same, law_wider, law_may}
use Rattle.token_reading.proofs.Choice.{Either, cases, of_either, Maybe, maybe_spelled, law_choose, law_optional}
use Rattle.token_reading.proofs.Positions.{law_placed}
use Rattle.token_reading.proofs.Fronts.{Same, of_pair, either_choice, chain_seq_on, chain_seq}
use Rattle.ada_tree.specs.declared.identifier.Dotted.{Dotted}
use Rattle.ada_tree.specs.declared.expression.Expr.{Expr}
use Rattle.ada_tree.specs.declared.expression.Name.{Name}
use Rattle.ada_tree.specs.declared.expression.Name.TheVariants as name_tree
use Rattle.ada_tree.specs.declared.range.Range.{Range}
use Rattle.ada_tree.specs.declared.range.Range.TheVariants as range_tree
use Rattle.ada_tree.specs.declared.range.Choice.{Choice}
use Rattle.ada_tree.specs.declared.range.Choice.TheVariants as choice_tree
use Rattle.ada_tree.specs.declared.range.NextChoice.{NextChoice}
use Rattle.ada_tree.specs.declared.range.NextChoice.TheVariants as next_choice_tree
use Rattle.ada_tree.specs.Spelling as spelling
use Rattle.ada_tree.specs.Spelling.{dotted_spelling, expr_spelling, name_spelling, constraint_spelling, range_spelling, choice_spelling, next_choice_spelling}
use Rattle.ada_tree.specs.WellPlaced.{StartsAt, DottedPlaced, ExprPlaced, NamePlaced, RangePlaced, ChoicePlaced, NextChoicePlaced}
use Rattle.ada_tree.specs.Lone.{lone_name, expr_of_name, dotted_name, dotted_or_name, name_of_dotted, range_prefix, name_with_range}
use Rattle.ada_grammar.specs.Expressions.{refused, expr, expr_first, expr_last, name_first}
use Rattle.ada_grammar.specs.Items.{to_high, constraint, make_constrained, marked_range, attribute_range, mark_or_attribute, named_range, make_bounds, range, make_choice, choice, choice_first, next_choice}
use Rattle.ada_grammar.proofs.LoneExpressions.{lone_name-expr_of_name, expr_of_name-spelling, expr_of_name-placed, lone_name_is}
use Rattle.ada_grammar.proofs.LoneNames.{dotted_name-name_of_dotted, name_of_dotted-spelling, name_of_dotted-placed, dotted_name_placed, range_prefix-name_with_range, name_with_range-spelling, name_with_range-placed, range_prefix_placed, dotted_name-name_with_range}
use Rattle.ada_grammar.proofs.ExpressionLaws.{law_expr}

-- ---- the first token of a part

pub starts_front : (first : List ℕ) (pos : Pos) (ms ns : List WeighedToken) → Leads false first (bare ms) → StartsAt pos (ms ++ ns) → StartsAt pos ms
starts_front first pos [] ns leads at = absurd (cc)
starts_front first pos (m ∷ ms) ns leads at = at

pub starts_whole : (pos : Pos) (ms ns : List WeighedToken) → StartsAt pos ms → StartsAt pos (ms ++ ns)
starts_whole pos [] ns at = absurd at
starts_whole pos (m ∷ ms) ns at = at

name_leads : (side : Side) (d : ℕ) (n : Name) → Leads false name_first (bare (name_spelling side d n))
unfolding name_spelling
name_leads side d (name_tree.Prefixed' pos first _ rest) = refl

-- ---- what is read, made twice

made_same : {A B : Type 0} (f g : A → B) → ((a : A) → f a ≡ g a) → (p : Reader A) → Same (to f p) (to g p)
made_same {A} f g e p k ts = of_outcome (p k ts)
  where
    of_outcome : (o : Outcome A) → and_then o (λ a j rest. Got (f a) j rest) ≡ and_then o (λ a j rest. Got (g a) j rest)
    of_outcome (Got a j rest) = ap (λ b. Got b j rest) (e a)
    of_outcome (Fails c rest) = refl

made_twice : {A B C : Type 0} (f : A → B) (g : B → C) (p : Reader A) → Same (to g (to f p)) (to (λ a. g (f a)) p)
made_twice {A} f g p k ts = of_outcome (p k ts)
  where
    of_outcome : (o : Outcome A) → and_then (and_then o (λ a j rest. Got (f a) j rest)) (λ b j rest. Got (g b) j rest)
        ≡ and_then o (λ a j rest. Got (g (f a)) j rest)
    of_outcome (Got a j rest) = refl
    of_outcome (Fails c rest) = refl

-- ---- a delimiter that doesn't stand there

none_there : {A : Type 0} (o : Option A) → is_some o ≡ false → o ≡ None
none_there None e = refl
none_there (Some a) e = absurd (cc)

refused_symbol : (side : Side) (v : Symbol) (k : ℕ) (ts : List Spelled) → starts (of_symbol v ∷ []) ts ≡ false → symbol side v k ts ≡ Fails Refused ts
refused_symbol side v k [] e = refl
refused_symbol side v k (t ∷ ts) e =
    ap (λ o. taken (resting side) o k t ts) (none_there (symbol_position v t) (sym (is_symbol v t) ∙ e))

-- ---- what the first expression of a range is

data Shape : Type 0 where
  OfMark : Dotted → Shape
  OfAttribute : Name × Pos × Pos → Shape
  OfOther : Shape

abbrev shape_of_prefix : Option (Name × Pos × Pos) → Shape
shape_of_prefix (Some x) = OfAttribute x
shape_of_prefix None = OfOther

abbrev shape_of_name : Result Dotted Name → Shape
shape_of_name (Ok mark) = OfMark mark
shape_of_name (Err prefix) = shape_of_prefix (range_prefix prefix)

abbrev shape_of_lone : Option Name → Shape
shape_of_lone (Some prefix) = shape_of_name (dotted_or_name prefix)
shape_of_lone None = OfOther

abbrev shape : Expr → Shape
shape x = shape_of_lone (lone_name x)

abbrev Tells : ℕ → Expr → Shape → Type 0
Tells d x (OfMark mark) = DottedPlaced mark × (x ≡ expr_of_name (name_of_dotted mark))
Tells d x (OfAttribute y) = NamePlaced d y.0 × (x ≡ expr_of_name (name_with_range y.0 y.1 y.2))
Tells d x OfOther = Unit {0}

tells : (d : ℕ) (x : Expr) → ExprPlaced d x → Tells d x (shape x)
tells d x placed = of_lone (lone_name x) refl
  where
    of_prefix : (n : Name) → NamePlaced d n → x ≡ expr_of_name n → (o : Option (Name × Pos × Pos)) → range_prefix n ≡ o → Tells d x (shape_of_prefix o)
    of_prefix n named is (Some (prefix, apostrophe, range)) e =
        let only = range_prefix_placed d n prefix apostrophe range named e in (only.0, is ∙ ap expr_of_name only.1)
    of_prefix n named is None e = tt

    of_name : (n : Name) → NamePlaced d n → x ≡ expr_of_name n → (o : Option Dotted) → dotted_name n ≡ o → Tells d x (shape_of_name (ok_or o n))
    of_name n named is (Some mark) e = let only = dotted_name_placed d n mark named e in (only.0, is ∙ ap expr_of_name only.1)
    of_name n named is None e = of_prefix n named is (range_prefix n) refl

    of_lone : (o : Option Name) → lone_name x ≡ o → Tells d x (shape_of_lone o)
    of_lone (Some n) e = let only = lone_name_is d x n placed e in of_name n only.0 only.1 (dotted_name n) refl
    of_lone None e = tt

shape_of_mark : (mark : Dotted) → shape (expr_of_name (name_of_dotted mark)) ≡ OfMark mark
shape_of_mark mark =
    ap shape_of_lone (lone_name-expr_of_name (name_of_dotted mark))
    ∙ ap (λ o. shape_of_name (ok_or o (name_of_dotted mark))) (dotted_name-name_of_dotted mark)

shape_of_attribute : (n : Name) (apostrophe range : Pos)
    → shape (expr_of_name (name_with_range n apostrophe range)) ≡ OfAttribute (n, apostrophe, range)
shape_of_attribute n apostrophe range =
    let whole = name_with_range n apostrophe range in
    ap shape_of_lone (lone_name-expr_of_name whole)
    ∙ ap (λ o. shape_of_name (ok_or o whole)) (dotted_name-name_with_range n apostrophe range)
    ∙ ap shape_of_prefix (range_prefix-name_with_range n apostrophe range)

spelling_of_mark : (d : ℕ) (x : Expr) (mark : Dotted) → x ≡ expr_of_name (name_of_dotted mark) → expr_spelling d x ≡ dotted_spelling Within mark
spelling_of_mark d x mark e = ap (expr_spelling d) e ∙ expr_of_name-spelling d (name_of_dotted mark) ∙ name_of_dotted-spelling Within d mark

abbrev attribute_spelling : Pos → Pos → List WeighedToken
attribute_spelling apostrophe range = spelling.symbol Within s.Apostrophe apostrophe ∷ spelling.word Within w.KwRange range ∷ []

spelling_of_attribute : (d : ℕ) (x : Expr) (n : Name) (apostrophe range : Pos) → x ≡ expr_of_name (name_with_range n apostrophe range)
    → expr_spelling d x ≡ name_spelling Within d n ++ attribute_spelling apostrophe range
spelling_of_attribute d x n apostrophe range e =
    ap (expr_spelling d) e ∙ expr_of_name-spelling d (name_with_range n apostrophe range) ∙ name_with_range-spelling Within d n apostrophe range

-- ---- what follows the first expression

abbrev pub High : Type 0
High = Pos × Expr

abbrev pub Constraint : Type 0
Constraint = Pos × (Expr × High)

abbrev Behind : Type 0
Behind = High ⊎ (Constraint ⊎ Unit {0})

abbrev no_constraint : High ⊎ Unit {0} → Behind
no_constraint (inl x) = inl x
no_constraint (inr u) = inr (inr u)

abbrev behind : ℕ → Shape → Reader Behind
behind d (OfMark mark) = choose (of_symbol s.DoubleDot ∷ []) (to_high d) (choose (of_word w.KwRange ∷ []) (constraint d) nothing)
behind d (OfAttribute y) = to no_constraint (choose (of_symbol s.DoubleDot ∷ []) (to_high d) nothing)
behind d OfOther = to inl (to_high d)

abbrev pub GoodHigh : ℕ → High → Type 0
GoodHigh d = Both Any (ExprPlaced d)

abbrev pub GoodConstraint : ℕ → Constraint → Type 0
GoodConstraint d = Both Any (Both (ExprPlaced d) (GoodHigh d))

abbrev IsEnd : Constraint ⊎ Unit {0} → Type 0
IsEnd (inl x) = ⊥
IsEnd (inr u) = Unit {0}

abbrev GoodEnd : ℕ → Shape → Constraint ⊎ Unit {0} → Type 0
GoodEnd d (OfMark mark) = Either (GoodConstraint d) Any
GoodEnd d (OfAttribute y) = IsEnd
GoodEnd d OfOther = λ x. ⊥

abbrev GoodBehind : ℕ → Shape → Behind → Type 0
GoodBehind d shape = Either (GoodHigh d) (GoodEnd d shape)

abbrev high_spelling : ℕ → High → List WeighedToken
high_spelling d = joined (λ p. spelling.symbol Apart s.DoubleDot p ∷ []) (expr_spelling d)

abbrev behind_spelling : ℕ → Behind → List WeighedToken
behind_spelling d =
    of_either (high_spelling d) (of_either (joined (λ p. spelling.word Apart w.KwRange p ∷ []) (joined (expr_spelling d) (high_spelling d))) (λ u. []))

abbrev behind_first : List ℕ
behind_first = of_symbol s.DoubleDot ∷ of_word w.KwRange ∷ []

abbrev pub range_last : List ℕ
range_last = of_symbol s.DoubleDot ∷ of_word w.KwRange ∷ expr_last

abbrev ExprLaw : ℕ → Type 0
ExprLaw d = Law (expr d) (ExprPlaced d) (expr_spelling d) expr_first expr_last false

-- ".." expr
law_high : (d : ℕ) → ExprLaw d → Law (to_high d) (GoodHigh d) (high_spelling d) (of_symbol s.DoubleDot ∷ []) expr_last false
law_high d L = law_seq (law_symbol Apart s.DoubleDot) L refl

-- "range" expr ".." expr
pub law_constraint : (d : ℕ) → d ≤ NESTING
    → Law (constraint d) (Both Any (Both (ExprPlaced d) (Both Any (ExprPlaced d)))) (λ x. constraint_spelling d x.0 x.1.0 x.1.1.0 x.1.1.1)
    (of_word w.KwRange ∷ []) expr_last false
law_constraint d h = let L = law_expr d h in law_seq (law_word Apart w.KwRange) (law_seq L (law_high d L) refl) refl

law_behind : (d : ℕ) → d ≤ NESTING → (shape : Shape) → Law (behind d shape) (GoodBehind d shape) (behind_spelling d) behind_first range_last true
law_behind d h (OfMark mark) =
    law_wider behind_first range_last
    (law_choose (of_symbol s.DoubleDot ∷ []) (law_high d (law_expr d h)) (law_choose (of_word w.KwRange ∷ []) (law_constraint d h) law_nothing refl refl) refl refl)
    refl refl
law_behind d h (OfAttribute y) =
    law_wider behind_first range_last
    (law_to no_constraint (GoodBehind d (OfAttribute y)) (behind_spelling d)
    (law_choose (of_symbol s.DoubleDot ∷ []) (law_high d (law_expr d h)) law_nothing refl refl) makes spells onto) refl refl
  where
    makes : (x : High ⊎ Unit {0}) → Either (GoodHigh d) Any x → GoodBehind d (OfAttribute y) (no_constraint x)
    makes (inl x) good = good
    makes (inr u) good = tt

    spells : (x : High ⊎ Unit {0}) → Either (GoodHigh d) Any x → behind_spelling d (no_constraint x) ≡ of_either (high_spelling d) (λ u. []) x
    spells (inl x) good = refl
    spells (inr u) good = refl

    onto : (b : Behind) → GoodBehind d (OfAttribute y) b → (x : High ⊎ Unit {0}) × (Either (GoodHigh d) Any x × (no_constraint x ≡ b))
    onto (inl x) good = (inl x, (good, refl))
    onto (inr (inl x)) good = absurd good
    onto (inr (inr u)) good = (inr u, (tt, refl))
law_behind d h OfOther =
    law_wider behind_first range_last
    (law_may (law_to inl (GoodBehind d OfOther) (behind_spelling d) (law_high d (law_expr d h)) (λ x good. good) (λ x good. refl) onto)) refl refl
  where
    onto : (b : Behind) → GoodBehind d OfOther b → (x : High) × (GoodHigh d x × (inl x ≡ b))
    onto (inl x) good = (x, (good, refl))
    onto (inr x) good = absurd good

-- ---- ranges

abbrev make_end : Pos → Expr → Shape → Constraint ⊎ Unit {0} → Range
make_end pos low (OfMark mark) = cases (make_constrained pos mark) (λ u. range_tree.Marked pos mark)
make_end pos low (OfAttribute y) = λ x. range_tree.RangeOf pos y.0 y.1 y.2
make_end pos low OfOther = λ x. range_tree.Bounds pos low pos low

abbrev make_behind : Pos → Expr → Shape → Behind → Range
make_behind pos low shape = cases (make_bounds pos low) (make_end pos low shape)

abbrev RangeParts : Type 0
RangeParts = Pos × (Expr × Behind)

abbrev make_range : RangeParts → Range
make_range = of_pair (λ pos. of_pair (λ low. make_behind pos low (shape low)))

abbrev GoodRange : ℕ → RangeParts → Type 0
GoodRange d x = (ExprPlaced d x.1.0 × GoodBehind d (shape x.1.0) x.1.1) × StartsAt x.0 (expr_spelling d x.1.0 ++ behind_spelling d x.1.1)

good_behind : (d : ℕ) (pos : Pos) (low : Expr) (shape : Shape) → Tells d low shape → ExprPlaced d low → StartsAt pos (expr_spelling d low)
    → (x : Behind) → GoodBehind d shape x → RangePlaced d (make_behind pos low shape x)
unfolding RangePlaced
good_behind d pos low shape is placed at (inl x) good = (at, placed, good.1)
good_behind d pos low (OfMark mark) is placed at (inr (inl x)) good =
    (subst (StartsAt pos) (spelling_of_mark d low mark is.1) at, is.0, good.1.0, good.1.1.1)
good_behind d pos low (OfMark mark) is placed at (inr (inr u)) good = (subst (StartsAt pos) (spelling_of_mark d low mark is.1) at, is.0)
good_behind d pos low (OfAttribute y) is placed at (inr (inl x)) good = absurd good
good_behind d pos low (OfAttribute y) is placed at (inr (inr u)) good = (
  starts_front name_first pos (name_spelling Within d y.0) (attribute_spelling y.1 y.2) (name_leads Within d y.0)
      (subst (StartsAt pos) (spelling_of_attribute d low y.0 y.1 y.2 is.1) at),
  is.0,
)
good_behind d pos low OfOther is placed at (inr x) good = absurd good

good_range : (d : ℕ) → ExprLaw d → (x : RangeParts) → GoodRange d x → RangePlaced d (make_range x)
good_range d L x good =
    good_behind d x.0 x.1.0 (shape x.1.0) (tells d x.1.0 good.0.0) good.0.0
    (starts_front expr_first x.0 (expr_spelling d x.1.0) (behind_spelling d x.1.1) (L.leads x.1.0 good.0.0) good.1) x.1.1 good.0.1

spelled_behind : (d : ℕ) (pos : Pos) (low : Expr) (shape : Shape) → Tells d low shape → (x : Behind) → GoodBehind d shape x
    → range_spelling d (make_behind pos low shape x) ≡ expr_spelling d low ++ behind_spelling d x
unfolding range_spelling
spelled_behind d pos low shape is (inl x) good = refl
spelled_behind d pos low (OfMark mark) is (inr (inl x)) good =
    sym (ap (λ ms. ms ++ constraint_spelling d x.0 x.1.0 x.1.1.0 x.1.1.1) (spelling_of_mark d low mark is.1))
spelled_behind d pos low (OfMark mark) is (inr (inr u)) good = sym (append-nil (expr_spelling d low) ∙ spelling_of_mark d low mark is.1)
spelled_behind d pos low (OfAttribute y) is (inr (inl x)) good = absurd good
spelled_behind d pos low (OfAttribute y) is (inr (inr u)) good =
    sym (append-nil (expr_spelling d low) ∙ spelling_of_attribute d low y.0 y.1 y.2 is.1)
spelled_behind d pos low OfOther is (inr x) good = absurd good

onto_mark : (d : ℕ) (pos : Pos) (mark : Dotted) (end : Constraint ⊎ Unit {0}) → StartsAt pos (dotted_spelling Within mark) → DottedPlaced mark
    → GoodEnd d (OfMark mark) end → (x : RangeParts) × (GoodRange d x × (make_range x ≡ make_end pos (expr_of_name (name_of_dotted mark)) (OfMark mark) end))
onto_mark d pos mark end at placed good =
    let low = expr_of_name (name_of_dotted mark) in (
      (pos, (low, inr end)),
      (
        (
          (
            expr_of_name-placed d (name_of_dotted mark) (name_of_dotted-placed d mark placed),
            subst (λ q. GoodEnd d q end) (sym (shape_of_mark mark)) good,
          ),
          starts_whole pos (expr_spelling d low) (behind_spelling d (inr end)) (subst (StartsAt pos) (sym (spelling_of_mark d low mark refl)) at),
        ),
        ap (λ q. make_end pos low q end) (shape_of_mark mark),
      ),
    )

onto_range : (d : ℕ) (a : Range) → RangePlaced d a → (x : RangeParts) × (GoodRange d x × (make_range x ≡ a))
unfolding RangePlaced
onto_range d (range_tree.Bounds pos low dots high) good = (
  (pos, (low, inl (dots, high))),
  (
    (
      (good.1, (tt, good.2)),
      starts_whole pos (expr_spelling d low) (behind_spelling d (inl (dots, high))) good.0,
    ),
    refl,
  ),
)
onto_range d (range_tree.Marked pos mark) good = onto_mark d pos mark (inr tt) good.0 good.1 tt
onto_range d (range_tree.Constrained pos mark of_range low dots high) good =
    onto_mark d pos mark (inl (of_range, (low, (dots, high)))) good.0 good.1 (tt, (good.2, (tt, good.3)))
onto_range d (range_tree.RangeOf pos prefix apostrophe of_range) good =
    let whole = name_with_range prefix apostrophe of_range in
    let low = expr_of_name whole in
    let same = shape_of_attribute prefix apostrophe of_range in (
      (pos, (low, inr (inr tt))),
      (
        (
          (
            expr_of_name-placed d whole (name_with_range-placed d prefix apostrophe of_range good.1),
            subst (λ q. GoodEnd d q (inr tt)) (sym same) tt,
          ),
          starts_whole pos (expr_spelling d low) [] (subst (StartsAt pos) (sym (spelling_of_attribute d low prefix apostrophe of_range refl))
              (starts_whole pos (name_spelling Within d prefix) (attribute_spelling apostrophe of_range) good.0)),
        ),
        ap (λ q. make_end pos low q (inr tt)) same,
      ),
    )

-- ---- the reader of ranges hands on what it has read

abbrev high_or : ℕ → Pos → Expr → Reader Range → Reader Range
high_or d pos low other = either (of_symbol s.DoubleDot ∷ []) (to (make_bounds pos low) (to_high d)) other

same_mark : (d : ℕ) (pos : Pos) (low : Expr) (mark : Dotted)
    → Same (high_or d pos low (marked_range d pos mark)) (to (make_behind pos low (OfMark mark)) (behind d (OfMark mark)))
unfolding marked_range
same_mark d pos low mark =
    either_choice (of_symbol s.DoubleDot ∷ []) (make_bounds pos low) (make_end pos low (OfMark mark)) (to_high d)
    (choose (of_word w.KwRange ∷ []) (constraint d) nothing) (to (make_bounds pos low) (to_high d)) (marked_range d pos mark) (λ k ts. refl)
    (either_choice (of_word w.KwRange ∷ []) (make_constrained pos mark) (λ u. range_tree.Marked pos mark) (constraint d) nothing
    (to (make_constrained pos mark) (constraint d)) (to (λ u. range_tree.Marked pos mark) nothing) (λ k ts. refl) (λ k ts. refl))

same_attribute : (d : ℕ) (pos : Pos) (low : Expr) (y : Name × Pos × Pos)
    → Same (high_or d pos low (attribute_range pos (Some y))) (to (make_behind pos low (OfAttribute y)) (behind d (OfAttribute y)))
same_attribute d pos low y k ts =
    either_choice (of_symbol s.DoubleDot ∷ []) (make_bounds pos low) (λ u. range_tree.RangeOf pos y.0 y.1 y.2) (to_high d) nothing
    (to (make_bounds pos low) (to_high d)) (attribute_range pos (Some y)) (λ i us. refl) (λ i us. refl) k ts
    ∙ made_same (cases (make_bounds pos low) (λ u. range_tree.RangeOf pos y.0 y.1 y.2)) (λ x. make_behind pos low (OfAttribute y) (no_constraint x))
    pointwise (choose (of_symbol s.DoubleDot ∷ []) (to_high d) nothing) k ts
    ∙ sym (made_twice no_constraint (make_behind pos low (OfAttribute y)) (choose (of_symbol s.DoubleDot ∷ []) (to_high d) nothing) k ts)
  where
    pointwise : (x : High ⊎ Unit {0}) → cases (make_bounds pos low) (λ u. range_tree.RangeOf pos y.0 y.1 y.2) x
        ≡ make_behind pos low (OfAttribute y) (no_constraint x)
    pointwise (inl x) = refl
    pointwise (inr u) = refl

same_other : (d : ℕ) (pos : Pos) (low : Expr) → Same (high_or d pos low refused) (to (make_behind pos low OfOther) (behind d OfOther))
same_other d pos low k ts = of_test (starts (of_symbol s.DoubleDot ∷ []) ts) refl
  where
    of_test : (r : Bool) → starts (of_symbol s.DoubleDot ∷ []) ts ≡ r
        → (if r then to (make_bounds pos low) (to_high d) k ts else Fails Refused ts) ≡ to (make_behind pos low OfOther) (behind d OfOther) k ts
    of_test true e = sym (made_twice inl (make_behind pos low OfOther) (to_high d) k ts)
    of_test false e =
        sym (ap (λ o. and_then (and_then (and_then o (λ a j more. and_then (expr d j more) (λ b i rest. Got (a, b) i rest)))
        (λ a j rest. Got (inl a) j rest)) (λ a j rest. Got (make_behind pos low OfOther a) j rest)) (refused_symbol Apart s.DoubleDot k ts e))

same_behind : (d : ℕ) (pos : Pos) (low : Expr)
    → Same (high_or d pos low (named_range d pos (lone_name low))) (to (make_behind pos low (shape low)) (behind d (shape low)))
same_behind d pos low = of_lone (lone_name low)
  where
    of_prefix : (o : Option (Name × Pos × Pos))
        → Same (high_or d pos low (attribute_range pos o)) (to (make_behind pos low (shape_of_prefix o)) (behind d (shape_of_prefix o)))
    of_prefix (Some y) = same_attribute d pos low y
    of_prefix None = same_other d pos low

    of_name : (o : Result Dotted Name)
        → Same (high_or d pos low (mark_or_attribute d pos o)) (to (make_behind pos low (shape_of_name o)) (behind d (shape_of_name o)))
    of_name (Ok mark) = same_mark d pos low mark
    of_name (Err prefix) = of_prefix (range_prefix prefix)

    of_lone : (o : Option Name)
        → Same (high_or d pos low (named_range d pos o)) (to (make_behind pos low (shape_of_lone o)) (behind d (shape_of_lone o)))
    of_lone (Some prefix) = of_name (dotted_or_name prefix)
    of_lone None = same_other d pos low

same_range : (d : ℕ) → Same (range d) (to make_range (seq here (seq_on (expr d) (λ low. behind d (shape low)))))
unfolding range
same_range d =
    chain_seq (λ pos. of_pair (λ low. make_behind pos low (shape low))) here (seq_on (expr d) (λ low. behind d (shape low)))
    (λ pos. chain (expr d) (λ low. high_or d pos low (named_range d pos (lone_name low))))
    (λ pos. chain_seq_on (λ low. make_behind pos low (shape low)) (expr d) (λ low. behind d (shape low))
    (λ low. high_or d pos low (named_range d pos (lone_name low))) (λ low. same_behind d pos low))

-- range = expr ".." expr | mark ["range" expr ".." expr] | name "'" "range"
pub law_range : (d : ℕ) → d ≤ NESTING → Law (range d) (RangePlaced d) (range_spelling d) expr_first range_last false
law_range d h =
    let L = law_expr d h in
    law_wider expr_first range_last
    (law_same (range d)
    (law_to make_range (RangePlaced d) (range_spelling d)
    (law_placed (law_seq_on L (λ low placed. law_behind d h (shape low)) refl) refl)
    (good_range d L) (λ x good. spelled_behind d x.0 x.1.0 (shape x.1.0) (tells d x.1.0 good.0.0) x.1.1 good.0.1) (onto_range d))
    (same_range d)) refl refl

-- ---- choices

abbrev ChoiceParts : Type 0
ChoiceParts = Pos ⊎ ((Pos × Expr) × Option High)

abbrev GoodChoice : ℕ → ChoiceParts → Type 0
GoodChoice d = Either Any (Both (λ x. ExprPlaced d x.1 × StartsAt x.0 (expr_spelling d x.1)) (Maybe (GoodHigh d)))

good_choice : (d : ℕ) (x : ChoiceParts) → GoodChoice d x → ChoicePlaced d (make_choice x)
unfolding ChoicePlaced
good_choice d (inl pos) good = tt
good_choice d (inr (x, None)) good = (good.0.1, good.0.0)
good_choice d (inr (x, Some high)) good = (good.0.1, good.0.0, good.1.1)

spelled_choice : (d : ℕ) (x : ChoiceParts) → choice_spelling d (make_choice x)
    ≡ of_either (λ p. spelling.word Apart w.KwOthers p ∷ []) (joined (λ y. expr_spelling d y.1) (maybe_spelled (high_spelling d))) x
unfolding choice_spelling
spelled_choice d (inl pos) = refl
spelled_choice d (inr (x, None)) = sym (append-nil (expr_spelling d x.1))
spelled_choice d (inr (x, Some high)) = refl

onto_choice : (d : ℕ) (a : Choice) → ChoicePlaced d a → (x : ChoiceParts) × (GoodChoice d x × (make_choice x ≡ a))
unfolding ChoicePlaced
onto_choice d (choice_tree.Value pos value) good = (inr ((pos, value), None), (((good.1, good.0), tt), refl))
onto_choice d (choice_tree.Interval pos low dots high) good =
    (inr ((pos, low), Some (dots, high)), (((good.1, good.0), (tt, good.2)), refl))
onto_choice d (choice_tree.Others pos) good = (inl pos, (tt, refl))

abbrev pub choice_last : List ℕ
choice_last = of_symbol s.DoubleDot ∷ expr_last

-- choice = expr [".." expr] | "others"
pub law_choice : (d : ℕ) → d ≤ NESTING → Law (choice d) (ChoicePlaced d) (choice_spelling d) choice_first choice_last false
unfolding choice
law_choice d h =
    let L = law_expr d h in
    law_wider choice_first choice_last
    (law_to make_choice (ChoicePlaced d) (choice_spelling d)
    (law_choose (of_word w.KwOthers ∷ []) (law_word Apart w.KwOthers)
    (law_seq (law_placed L refl) (law_optional (of_symbol s.DoubleDot ∷ []) (law_high d L) refl) refl) refl refl)
    (good_choice d) (λ x good. spelled_choice d x) (onto_choice d)) refl refl

-- "|" choice
pub law_next_choice : (d : ℕ) → d ≤ NESTING
    → Law (next_choice d) (NextChoicePlaced d) (next_choice_spelling d) (of_symbol s.Bar ∷ []) choice_last false
unfolding next_choice next_choice_spelling NextChoicePlaced
law_next_choice d h =
    law_to (λ x. next_choice_tree.Bar x.0 x.1) (NextChoicePlaced d) (next_choice_spelling d)
    (law_seq (law_symbol Apart s.Bar) (law_choice d h) refl) (λ x good. good.1) (λ x good. refl) onto
  where
    onto : (a : NextChoice) → NextChoicePlaced d a → (x : Pos × Choice) × (Both Any (ChoicePlaced d) x × (next_choice_tree.Bar x.0 x.1 ≡ a))
    onto (next_choice_tree.Bar pos part) good = ((pos, part), ((tt, good), refl))
