-- Operators, and comparisons with null.
use Rattle.std.proofs.Common.{◌≡◌, refl, sym, ap, ◌∙◌, subst, inl, inr, ℕ, Bool, true, false, ◌&&◌, ◌||◌, nat_eq, List, [], ◌++◌, if◌then◌else◌}
use Rattle.std.proofs.lemmas.Bool.{eqb-true, false≢true, true≢false}
use Rattle.machine.specs.spark_base.declared.position.Pos.{Pos}
use Rattle.machine.specs.resolved_tree.declared.operator.Operator.{Operator}
use Rattle.machine.specs.resolved_tree.declared.operator.Operator.TheVariants as operator
use Rattle.machine.specs.resolved_tree.Trees.{Tree, Named, Binary, position}
use Rattle.machine.specs.type_definitions.Types.{meant_type}
use Rattle.machine.specs.type_definitions.declared.judgement.Fault.{Fault}
use Rattle.machine.specs.typed_tree.declared.node.ShortCircuit.{ShortCircuit}
use Rattle.machine.specs.typed_tree.declared.node.ShortCircuit.TheVariants as short
use Rattle.machine.specs.type_definitions.declared.judgement.Reading.{Reading}
use Rattle.machine.specs.type_definitions.declared.judgement.Reading.TheVariants as reading
use Rattle.machine.specs.type_definitions.declared.judgement.Own.{Own}
use Rattle.machine.specs.type_definitions.declared.judgement.Own.TheVariants as own
use Rattle.machine.specs.type_definitions.declared.judgement.Where.TheVariants as stands
use Rattle.machine.specs.type_definitions.Types.{is_scalar, is_untyped, base, shape_of, full}
use Rattle.machine.specs.type_definitions.Entries.{integer, boolean}
use Rattle.machine.specs.type_definitions.Faults.{demand}
use Rattle.machine.specs.type_definitions.Names.{seen, reading_of}
use Rattle.machine.specs.type_definitions.Expressions.{own_of, own_type, inside, around, operand_type, is_arithmetic, is_logical, is_join, operator_gives, compares, scalar_own, one_type, is_access, is_null, is_access_name, is_access_place, is_demanding, is_string}
use Rattle.machine.specs.typed_tree.Trees.{TypedTree}
use Rattle.machine.specs.typed_tree.Trees as typed
use Rattle.machine.specs.typed_tree.declared.object.Object.{Object}
use Rattle.machine.specs.typed_tree.Expressions.{Site, typed_expression, compared}
use Rattle.machine.specs.flow_paths.Objects.{Signature}
use Rattle.soundness.specs.TypedLaws.Fine.{is_plain, Has, Pointed, Laws, operator_type}
use Rattle.soundness.proofs.TypedLaws.Agreeing.{of_known, nil_left, nil_right, holds, either_left, either_right, retyped}
use Rattle.soundness.proofs.TypedLaws.Readings.{seen_scalar, is_off}
use Rattle.soundness.proofs.TypedLaws.Steps.{typing, seen_access}
use Rattle.soundness.proofs.TypedLaws.Cases.{Typed, Good, placed, from_own, operand_made, shape_view, is_access_view}
use Rattle.machine.specs.typed_tree.Expressions.{typed_name}
use Rattle.soundness.specs.TypedLaws.Fine.{is_plain, Takes}
use Rattle.machine.specs.type_definitions.Statements.{type_or_integer}

abbrev is_typed : Own → Bool
is_typed (own.Of t) = true
is_typed o = false

gives_type : (op : Operator) (t : ℕ) → operator_gives op ≡ own.Of t → operator_type op ≡ t
gives_type op t e = by (is_join op) (is_arithmetic op) e
  where
    by : (j a : Bool) → (if j then own.Text else if a then own.Of integer else own.Of boolean) ≡ own.Of t → (if a then integer else boolean) ≡ t
    by true a f = absurd (false≢true (ap is_typed f))
    by false true f = ap type_or_integer f
    by false false f = ap type_or_integer f

never_unknown : (op : Operator) → operator_gives op ≡ own.Unknown → ⊥
never_unknown op e = by (is_join op) (is_arithmetic op) e
  where
    by : (j a : Bool) → (if j then own.Text else if a then own.Of integer else own.Of boolean) ≡ own.Unknown → ⊥
    by true a f = false≢true (ap is_off f)
    by false true f = false≢true (ap is_off f)
    by false false f = false≢true (ap is_off f)

never_demanding : (op : Operator) → operator_gives op ≡ own.Demanding → ⊥
never_demanding op e = by (is_join op) (is_arithmetic op) e
  where
    by : (j a : Bool) → (if j then own.Text else if a then own.Of integer else own.Of boolean) ≡ own.Demanding → ⊥
    by true a f = false≢true (ap is_demanding f)
    by false true f = false≢true (ap is_demanding f)
    by false false f = false≢true (ap is_demanding f)

three : (x y z : Bool) → x && y && z ≡ true → (x ≡ true) × (y ≡ true) × (z ≡ true)
three true true true e = (refl, refl, refl)
three true true false e = absurd (false≢true e)
three true false z e = absurd (false≢true e)
three false y z e = absurd (false≢true e)

module _ (s : Site) (objects : List Object) (subs : List Signature) (made : ℕ → Type 0) (laws : Laws s.context.known made) where
  abbrev Has_ : ℕ → TypedTree → Type 0
  Has_ t e = Typed s objects subs made laws t e

  abbrev Good_ : Tree → Type 0
  Good_ e = Good s objects subs made laws e

  abbrev within : Operator → Tree → List Fault
  within op e = inside s.context false (operand_type op) e

  abbrev of : Operator → Tree → TypedTree
  of op e = typed_expression s (operand_type op) e

  -- both operands have the type of the operator
  both_placed : (t : ℕ) (a b : Tree) → made t → Good_ a → Good_ b
      → (around s.context stands.Elsewhere t a ++ around s.context stands.Elsewhere t b) ++ (inside s.context false t a ++ inside s.context false t b) ≡ []
      → Has_ t (typed_expression s t a) × Has_ t (typed_expression s t b)
  both_placed t a b m ga gb none =
      let first = nil_left (around s.context stands.Elsewhere t a ++ around s.context stands.Elsewhere t b) _ none in
      let more = nil_right (around s.context stands.Elsewhere t a ++ around s.context stands.Elsewhere t b) _ none in (
        placed s objects subs made laws a stands.Elsewhere t ga m (nil_left (around s.context stands.Elsewhere t a) _ first) (nil_left (inside s.context false t a) _ more),
        placed s objects subs made laws b stands.Elsewhere t gb m (nil_right (around s.context stands.Elsewhere t a) _ first) (nil_right (inside s.context false t a) _ more),
      )

  scalar_operand : (op : Operator) → is_scalar (full s.context.known.table (operand_type op)) ≡ true
  scalar_operand op = shape_view (shape_of s.context.known.table (operand_type op)) (operand_made s objects subs made laws op).1

  plain : (op : Operator) (a b : Tree) (t : ℕ) → Good_ a → Good_ b → is_plain op ≡ true → Takes (is_arithmetic op || is_logical op) (operand_type op) (operand_type op)
      → operator_gives op ≡ own.Of t
      → (around s.context stands.Elsewhere (operand_type op) a ++ around s.context stands.Elsewhere (operand_type op) b) ++ (within op a ++ within op b) ≡ []
      → made t × Has_ t (typed.Binary op (of op a) (of op b))
  unfolding Has
  plain op a b t ga gb join takes gives none =
      let same = gives_type op t gives in
      let m = (operand_made s objects subs made laws op).0 in
      let both = both_placed (operand_type op) a b m ga gb none in
      (subst made same m, (join, inl (ap (meant_type s.context.known.table) same), operand_type op, takes, scalar_operand op, both.0, both.1))

  short_has : (op : Operator) (kind : ShortCircuit) (p q : Pos) (a b : Tree) (t : ℕ) → Good_ a → Good_ b → operand_type op ≡ boolean → operator_gives op ≡ own.Of t
      → (around s.context stands.Elsewhere (operand_type op) a ++ around s.context stands.Elsewhere (operand_type op) b) ++ (within op a ++ within op b) ≡ []
      → made t × Has_ t (typed.Short kind p (of op a) q (of op b))
  unfolding Has
  short_has op kind p q a b t ga gb is gives none =
      let same = gives_type op t gives in
      let m = (operand_made s objects subs made laws op).0 in
      let both = both_placed (operand_type op) a b m ga gb none in
      (subst made same m, (inl (ap (meant_type s.context.known.table) (sym is ∙ same)), subst (λ z. Has_ z (of op a)) is both.0, subst (λ z. Has_ z (of op b)) is both.1))

  -- an operand of a comparison
  record Compared (want : ℕ) (e : Tree) : Type 0 where
    t : ℕ
    is : own_type s.context e ≡ own.Of t
    is_made : made t
    scalar : is_scalar (full s.context.known.table t) ≡ true
    has : Has_ t (typed_expression s want e)

  scalar_full : (t : ℕ) → is_scalar (seen s.context t) ≡ true → is_scalar (full s.context.known.table t) ≡ true
  scalar_full t e = elim (seen_scalar s.context t e) [
    | inl h ↦ shape_view (shape_of s.context.known.table t) (either_left _ _ h)
    | inr h ↦ shape_view (shape_of s.context.known.table t) (either_right _ _ h)
  ]

  operand : (want : ℕ) (e : Tree) → Good_ e → scalar_own s.context (own_type s.context e) ≡ true → inside s.context false want e ≡ [] → Compared want e
  operand want e good scalar none = by (own_type s.context e) refl
    where
      by : (o : Own) → own_type s.context e ≡ o → Compared want e
      by own.Unknown is = absurd (good.by_known want is none)
      by own.Demanding is = absurd (false≢true (subst (λ z. scalar_own s.context z ≡ true) is scalar))
      by own.Text is = absurd (false≢true (subst (λ z. scalar_own s.context z ≡ true) is scalar))
      by (own.Of t) is =
          let f : scalar_own s.context (own.Of t) ≡ true = subst (λ z. scalar_own s.context z ≡ true) is scalar in
          let has = good.by_own want t is none in
          let scalar = of_known (is_untyped s.context.known.table t) (is_scalar (seen s.context t)) (laws.certain t has.0) f in
          record { t = t; is = is; is_made = has.0; scalar = scalar_full t scalar; has = has.1 }

  compared_has : (op : Operator) (a b : Tree) (t : ℕ) → Good_ a → Good_ b → is_plain op ≡ true → is_arithmetic op || is_logical op ≡ false → operator_gives op ≡ own.Of t
      → scalar_own s.context (own_type s.context a) && scalar_own s.context (own_type s.context b) && one_type s.context.known (own_type s.context a) (own_type s.context b) ≡ true
      → within op a ++ within op b ≡ [] → made t × Has_ t (typed.Binary op (of op a) (of op b))
  unfolding Has
  compared_has op a b t ga gb join kind gives test none =
      let tests = three (scalar_own s.context (own_type s.context a)) (scalar_own s.context (own_type s.context b)) (one_type s.context.known (own_type s.context a) (own_type s.context b)) test in
      let left = operand (operand_type op) a ga tests.0 (nil_left (within op a) _ none) in
      let right = operand (operand_type op) b gb tests.1 (nil_right (within op a) _ none) in
      let one : one_type s.context.known (own.Of left.t) (own.Of right.t) ≡ true =
      subst (λ z. one_type s.context.known z (own.Of right.t) ≡ true) left.is (subst (λ z. one_type s.context.known (own_type s.context a) z ≡ true) right.is tests.2) in
      let bases = nat_eq (base s.context.known.table left.t) (base s.context.known.table right.t) in
      let first = of_known (is_untyped s.context.known.table left.t) (is_untyped s.context.known.table right.t || bases) (laws.certain left.t left.is_made) one in
      let last = of_known (is_untyped s.context.known.table right.t) bases (laws.certain right.t right.is_made) first in
      let base_same = eqb-true (base s.context.known.table left.t) (base s.context.known.table right.t) last in
      let agree = laws.same right.t left.t right.is_made left.is_made (sym base_same) in
      let same = gives_type op t gives in (
        subst made same (operand_made s objects subs made laws op).0,
        (
          join,
          inl (ap (meant_type s.context.known.table) same),
          left.t,
          subst (λ z. Takes z (operand_type op) left.t) (sym kind) tt,
          left.scalar,
          left.has,
          retyped (typing s objects subs made laws) laws.owns (of op b) right.t left.t agree right.has,
        ),
      )

  -- ---- comparisons with null

  pointed_name : (p : Pos) (d : ℕ) (r : Reading) (steps actuals imaged : TypedTree)
      → ((t : ℕ) → own_of s.context.known r ≡ own.Of t → made t × Has_ t (typed_name s p d r steps actuals imaged))
      → (own_of s.context.known r ≡ own.Unknown → ⊥) → is_access_place s.context r ≡ true → Pointed (typing s objects subs made laws) (typed_name s p d r steps actuals imaged)
  unfolding Has
  pointed_name p d (reading.Place t) steps actuals imaged on off is =
      let has = on t refl in
      let found = is_access_view (seen s.context t)
      (of_known (is_untyped s.context.known.table t) (is_access (seen s.context t)) (laws.certain t has.0) is) in
      (has.1.0, found.0, found.1, found.2, seen_access s.context t found.0 found.1 found.2 found.3)
  pointed_name p d reading.Off steps actuals imaged on off is = absurd (off refl)
  pointed_name p d r steps actuals imaged on off is = absurd (false≢true is)

  pointed : (want : ℕ) (e : Tree) → Good_ e → is_access_name s.context e ≡ true → inside s.context false want e ≡ [] → Pointed (typing s objects subs made laws) (typed_expression s want e)
  unfolding own_type typed_expression
  pointed want (Named p d rest) good is none =
      pointed_name p d (reading_of s.context d rest) _ _ _ (λ t h. good.by_own want t h none) (λ h. good.by_known want h none) is
  pointed want e good is none = absurd (false≢true is)

  null_compared : (op : Operator) (equal : Bool) (a b : Tree) (t : ℕ) → Good_ a → Good_ b → is_plain op ≡ true → is_arithmetic op || is_logical op ≡ false
      → operator_gives op ≡ own.Of t → operator_type op ≡ boolean
      → (if is_null a then is_access_name s.context b else if is_null b then is_access_name s.context a
      else scalar_own s.context (own_type s.context a) && scalar_own s.context (own_type s.context b) && one_type s.context.known (own_type s.context a) (own_type s.context b)) ≡ true
      → within op a ++ within op b ≡ [] → made t × Has_ t (compared op equal (is_null a) (is_null b) (of op a) (of op b))
  unfolding Has
  null_compared op equal a b t ga gb join kind gives is test none = by (is_null a) (is_null b) test
    where
      same : boolean ≡ t
      same = sym is ∙ gives_type op t gives

      by : (x z : Bool) → (if x then is_access_name s.context b else if z then is_access_name s.context a
          else scalar_own s.context (own_type s.context a) && scalar_own s.context (own_type s.context b) && one_type s.context.known (own_type s.context a) (own_type s.context b)) ≡ true
          → made t × Has_ t (compared op equal x z (of op a) (of op b))
      by true z h = (subst made same laws.booleans, (inl (ap (meant_type s.context.known.table) same), pointed (operand_type op) b gb h (nil_right (within op a) _ none)))
      by false true h = (subst made same laws.booleans, (inl (ap (meant_type s.context.known.table) same), pointed (operand_type op) a ga h (nil_left (within op a) _ none)))
      by false false h = compared_has op a b t ga gb join kind gives h none

  -- ---- all operators

  binary_own : (p : Pos) (op : Operator) (a b : Tree) → Good_ a → Good_ b → (want t : ℕ) → own_type s.context (Binary p op a b) ≡ own.Of t
      → inside s.context false want (Binary p op a b) ≡ [] → made t × Has_ t (typed_expression s want (Binary p op a b))
  unfolding own_type inside typed_expression compares
  binary_own p operator.Add a b ga gb want t is none = plain operator.Add a b t ga gb refl refl is none
  binary_own p operator.Subtract a b ga gb want t is none = plain operator.Subtract a b t ga gb refl refl is none
  binary_own p operator.Multiply a b ga gb want t is none = plain operator.Multiply a b t ga gb refl refl is none
  binary_own p operator.Divide a b ga gb want t is none = plain operator.Divide a b t ga gb refl refl is none
  binary_own p operator.Modulo a b ga gb want t is none = plain operator.Modulo a b t ga gb refl refl is none
  binary_own p operator.Remainder a b ga gb want t is none = plain operator.Remainder a b t ga gb refl refl is none
  binary_own p operator.And a b ga gb want t is none = plain operator.And a b t ga gb refl refl is none
  binary_own p operator.Or a b ga gb want t is none = plain operator.Or a b t ga gb refl refl is none
  binary_own p operator.Xor a b ga gb want t is none = plain operator.Xor a b t ga gb refl refl is none
  binary_own p operator.AndThen a b ga gb want t is none = short_has operator.AndThen short.AndThen (position a) (position b) a b t ga gb refl is none
  binary_own p operator.OrElse a b ga gb want t is none = short_has operator.OrElse short.OrElse (position a) (position b) a b t ga gb refl is none
  binary_own p operator.Less a b ga gb want t is none = compared_has operator.Less a b t ga gb refl refl is (holds 1 p _ (nil_left _ _ none)) (nil_right (demand 1 p (compares s.context operator.Less a b)) _ none)
  binary_own p operator.LessEqual a b ga gb want t is none = compared_has operator.LessEqual a b t ga gb refl refl is (holds 1 p _ (nil_left _ _ none)) (nil_right (demand 1 p (compares s.context operator.LessEqual a b)) _ none)
  binary_own p operator.Greater a b ga gb want t is none = compared_has operator.Greater a b t ga gb refl refl is (holds 1 p _ (nil_left _ _ none)) (nil_right (demand 1 p (compares s.context operator.Greater a b)) _ none)
  binary_own p operator.GreaterEqual a b ga gb want t is none = compared_has operator.GreaterEqual a b t ga gb refl refl is (holds 1 p _ (nil_left _ _ none)) (nil_right (demand 1 p (compares s.context operator.GreaterEqual a b)) _ none)
  binary_own p operator.Equal a b ga gb want t is none = null_compared operator.Equal true a b t ga gb refl refl is refl (holds 1 p _ (nil_left _ _ none)) (nil_right (demand 1 p (compares s.context operator.Equal a b)) _ none)
  binary_own p operator.NotEqual a b ga gb want t is none = null_compared operator.NotEqual false a b t ga gb refl refl is refl (holds 1 p _ (nil_left _ _ none)) (nil_right (demand 1 p (compares s.context operator.NotEqual a b)) _ none)
  binary_own p operator.Concatenate a b ga gb want t is none = absurd (true≢false (ap is_string is))

  pub binary_good : (p : Pos) (op : Operator) (a b : Tree) → Good_ a → Good_ b → Good_ (Binary p op a b)
  unfolding own_type
  binary_good p op a b ga gb = record {
    by_place = λ want m fit none plain. from_own s objects subs made laws (Binary p op a b) (never_demanding op) (λ w z f. never_unknown op z) (binary_own p op a b ga gb) want m fit none;
    by_own = binary_own p op a b ga gb;
    by_known = λ w z f. never_unknown op z;
  }
