-- Each form of expression has the type that its place takes, where its parts have.
use Rattle.std.proofs.Common.{◌≡◌, refl, sym, ap, ◌∙◌, subst, inl, ℕ, Bool, true, false, not, nat_eq, ◌&&◌, ◌||◌, List, [], ◌++◌, pos, negsuc, Option, Some, None, if◌then◌else◌}
use Rattle.std.proofs.lemmas.Bool.{eqb-true, false≢true, true≢false}
use Rattle.machine.specs.spark_base.declared.position.Pos.{Pos}
use Rattle.machine.specs.resolved_tree.declared.operator.UnaryOperator.{UnaryOperator}
use Rattle.machine.specs.resolved_tree.declared.operator.UnaryOperator.TheVariants as unary
use Rattle.machine.specs.resolved_tree.declared.operator.Operator.{Operator}
use Rattle.machine.specs.resolved_tree.Trees.{Tree, Number, Text, Null, Named, Parens, Unary, position}
use Rattle.machine.specs.type_definitions.declared.table.Entry.{Entry}
use Rattle.machine.specs.type_definitions.declared.table.Entry.TheVariants as entry
use Rattle.machine.specs.type_definitions.declared.table.Known.{Known}
use Rattle.machine.specs.type_definitions.declared.table.Shape.{Shape}
use Rattle.machine.specs.type_definitions.declared.table.Shape.TheVariants as shape
use Rattle.machine.specs.type_definitions.declared.judgement.View.{View}
use Rattle.machine.specs.type_definitions.declared.judgement.View.TheVariants as view
use Rattle.machine.specs.type_definitions.declared.judgement.Reading.{Reading}
use Rattle.machine.specs.type_definitions.declared.judgement.Reading.TheVariants as reading
use Rattle.machine.specs.type_definitions.declared.judgement.Own.{Own}
use Rattle.machine.specs.type_definitions.declared.judgement.Own.TheVariants as own
use Rattle.machine.specs.type_definitions.declared.judgement.Where.{Where}
use Rattle.machine.specs.type_definitions.declared.judgement.Where.TheVariants as stands
use Rattle.machine.specs.type_definitions.Types.{Table, is_owning, is_scalar, is_same, is_untyped, same_bounds, base, full, shape_of, view_of}
use Rattle.machine.specs.type_definitions.Entries.{entry_of, integer, boolean, is_type, denotes_type, type_of_mark, type_of_entry}
use Rattle.machine.specs.type_definitions.Faults.{demand}
use Rattle.machine.specs.type_definitions.Statics.{is_alone}
use Rattle.machine.specs.type_definitions.Names.{Context, seen, reading_of}
use Rattle.machine.specs.type_definitions.Expressions.{Given, own_of, own_type, fits, suits, inside, around, is_parens, allowed, is_of, is_access, own_owning, unary_type, operand_type, is_arithmetic, designated, reading_faults, given_names, call_arguments, is_demanding, is_string}
use Rattle.machine.specs.typed_tree.Trees.{TypedTree}
use Rattle.machine.specs.typed_tree.Trees as typed
use Rattle.machine.specs.typed_tree.declared.object.Object.{Object}
use Rattle.machine.specs.typed_tree.Expressions.{Site, typed_expression}
use Rattle.machine.specs.flow_paths.Objects.{Signature}
use Rattle.soundness.specs.TypedLaws.Fine.{counts, lists, Has, Laws, Denotes}
use Rattle.soundness.proofs.TypedLaws.Agreeing.{of_known, and_left, whole_number, nil_left, nil_right, holds, either_left, either_right, not_true, retyped, is_free}
use Rattle.soundness.proofs.TypedLaws.Steps.{typing, seen_access}
use Rattle.soundness.proofs.TypedLaws.Named.{Fine, AreFineSuffixes, named_has}
use Rattle.soundness.proofs.TypedLaws.Readings.{is_off}
use Rattle.machine.specs.type_definitions.Statements.{type_or_integer}

-- ---- what faults say

allowed_plain : (c : Context) (at : Where) (e : Tree) → allowed c at e ≡ true → is_parens e ≡ false
allowed_plain c at (Parens p e) is = absurd (false≢true is)
allowed_plain c at e is = refl

owning_plain : (c : Context) (at : Where) (e : Tree) (b : Bool) → not b || allowed c at e ≡ true → b ≡ true → is_parens e ≡ false
owning_plain c at e true h is = allowed_plain c at e h
owning_plain c at e false h is = absurd (false≢true is)

pub allowed_when : (b a : Bool) → not b || a ≡ true → b ≡ true → a ≡ true
allowed_when true a h e = h
allowed_when false a h e = absurd (false≢true e)

pub alone_type : (op : UnaryOperator) (e : Tree) → is_alone op e ≡ true → unary_type op ≡ integer
alone_type unary.Minus e h = refl
alone_type op e h = absurd (false≢true h)

pub is_access_view : (w : View) → is_access w ≡ true → (d : ℕ) × (k : Bool) × (n : Bool) × (w ≡ view.Access d k n)
is_access_view (view.Access d k n) e = (d, k, n, refl)
is_access_view w e = absurd (false≢true e)

pub not_demanding : (k : Known) (r : Reading) → own_of k r ≡ own.Demanding → ⊥
not_demanding k (reading.Place t) e = false≢true (ap is_demanding e)
not_demanding k (reading.Value t v) e = false≢true (ap is_demanding e)
not_demanding k (reading.Call f) e = false≢true (ap is_demanding e)
not_demanding k (reading.Image t) e = false≢true (ap is_demanding e)
not_demanding k reading.EndOfFile e = false≢true (ap is_demanding e)
not_demanding k reading.Off e = false≢true (ap is_demanding e)

pub not_off : (c : Context) (p : Pos) (d : ℕ) (loose : Bool) (given : List Given) (r : Reading) → own_of c.known r ≡ own.Unknown → reading_faults c p d loose given r ≡ [] → ⊥
not_off c p d loose given reading.Off e none = false≢true (ap is_free none)
not_off c p d loose given (reading.Place t) e none = false≢true (ap is_off e)
not_off c p d loose given (reading.Value t v) e none = false≢true (ap is_off e)
not_off c p d loose given (reading.Call f) e none = false≢true (ap is_off e)
not_off c p d loose given (reading.Image t) e none = false≢true (ap is_off e)
not_off c p d loose given reading.EndOfFile e none = false≢true (ap is_off e)

pub shape_view : (z : Shape) → counts z || lists z ≡ true → is_scalar (view_of z) ≡ true
shape_view (shape.Whole a b) e = refl
shape_view (shape.Listed k a b) e = refl
shape_view z e = absurd (false≢true e)

pub mark_denotes : (k : Known) (o : Option ℕ) → denotes_type k o ≡ true → (d : ℕ) × (o ≡ Some d) × (entry_of k d ≡ entry.Type)
mark_denotes k None e = absurd (false≢true e)
mark_denotes k (Some d) e = (d, refl, by (entry_of k d) e)
  where
    by : (z : Entry) → is_type z ≡ true → z ≡ entry.Type
    by entry.Type h = refl
    by z h = absurd (false≢true h)

pub marked_is : (k : Known) (o : Option ℕ) (d : ℕ) → o ≡ Some d → entry_of k d ≡ entry.Type → type_of_mark k o ≡ d
marked_is k o d e f = ap (type_of_mark k) e ∙ ap (type_of_entry d) f

pub designated_is : (z : Shape) (d : ℕ) (k n : Bool) → z ≡ shape.Access d k n → designated (view_of z) ≡ d
designated_is z d k n e = ap (λ x. designated (view_of x)) e

module _ (s : Site) (objects : List Object) (subs : List Signature) (made : ℕ → Type 0) (laws : Laws s.context.known made) where
  abbrev pub Typed : ℕ → TypedTree → Type 0
  Typed want e = Has (typing s objects subs made laws) want e

  abbrev pub Good : Tree → Type 0
  Good e = Fine s objects subs made laws e

  abbrev pub table : Table
  table = s.context.known.table

  pub unary_made : (op : UnaryOperator) → made (unary_type op) × (counts (shape_of table (unary_type op)) || lists (shape_of table (unary_type op)) ≡ true)
  unary_made unary.Not = (laws.booleans, either_right _ _ laws.listed)
  unary_made op = (laws.integers, either_left _ _ laws.whole)

  pub operand_made : (op : Operator) → made (operand_type op) × (counts (shape_of table (operand_type op)) || lists (shape_of table (operand_type op)) ≡ true)
  operand_made op = by (is_arithmetic op)
    where
      by : (b : Bool) → made (if b then integer else boolean) × (counts (shape_of table (if b then integer else boolean)) || lists (shape_of table (if b then integer else boolean)) ≡ true)
      by true = (laws.integers, either_left _ _ laws.whole)
      by false = (laws.booleans, either_right _ _ laws.listed)

  -- An expression at its place breaks no sentence: it has the type that is demanded.
  pub placed : (e : Tree) (at : Where) (want : ℕ) → Good e → made want → around s.context at want e ≡ [] → inside s.context false want e ≡ []
      → Typed want (typed_expression s want e)
  placed e at want good m none within =
      let suit = holds 1 (position e) (suits s.context want e) (nil_left (demand 1 (position e) (suits s.context want e)) _ none) in
      let fit = of_known (is_untyped table want) (fits s.context want e) (laws.certain want m) suit in
      let rule = holds 5 (position e) (not (is_owning table want) || allowed s.context at e) (nil_right (demand 1 (position e) (suits s.context want e)) _ none) in
      good.by_place want m fit within (owning_plain s.context at e (is_owning table want) rule)

  -- One that has a type of its own.
  pub from_own : (e : Tree) → (own_type s.context e ≡ own.Demanding → ⊥)
      → ((want : ℕ) → own_type s.context e ≡ own.Unknown → inside s.context false want e ≡ [] → ⊥)
      → ((want t : ℕ) → own_type s.context e ≡ own.Of t → inside s.context false want e ≡ [] → made t × Typed t (typed_expression s want e))
      → (want : ℕ) → made want → is_of s.context.known want (own_type s.context e) ≡ true → inside s.context false want e ≡ [] → Typed want (typed_expression s want e)
  from_own e never off on want m fit none = by (own_type s.context e) refl
    where
      by : (o : Own) → own_type s.context e ≡ o → Typed want (typed_expression s want e)
      by own.Unknown is = absurd (off want is none)
      by own.Demanding is = absurd (never is)
      by own.Text is = absurd (false≢true (subst (λ z. is_of s.context.known want z ≡ true) is fit))
      by (own.Of t) is =
          let f : is_of s.context.known want (own.Of t) ≡ true = subst (λ z. is_of s.context.known want z ≡ true) is fit in
          let has = on want t is none in
          retyped (typing s objects subs made laws) laws.owns (typed_expression s want e) t want
          (laws.same t want has.0 m
          (eqb-true (base table t) (base table want)
          (of_known (is_untyped table t) (nat_eq (base table t) (base table want)) (laws.certain t has.0) f))) has.1

  -- Types that are the same have one base.
  pub one_base : (t u : ℕ) → made t → made u → is_same table t u ≡ true → base table t ≡ base table u
  one_base t u m n same =
      let bases = nat_eq (base table t) (base table u) && same_bounds (full table t) (full table u) in
      let first = of_known (is_untyped table t) (is_untyped table u || bases) (laws.certain t m) same in
      let last = of_known (is_untyped table u) bases (laws.certain u n) first in
      eqb-true (base table t) (base table u) (and_left (nat_eq (base table t) (base table u)) _ last)

  number_own : (p : Pos) (n want t : ℕ) → own_type s.context (Number p n) ≡ own.Of t → made t × Typed t (typed_expression s want (Number p n))
  unfolding own_type typed_expression Has
  number_own p n want t is =
      let same : integer ≡ t = ap type_or_integer is in
      (subst made same laws.integers, (subst (λ z. counts (shape_of table z) ≡ true) same laws.whole, whole_number (pos n)))

  pub number_good : (p : Pos) (n : ℕ) → Good (Number p n)
  unfolding own_type
  number_good p n = record {
    by_place = λ want m fit none plain. from_own (Number p n) (λ z. false≢true (ap is_demanding z)) (λ w z f. false≢true (ap is_off z)) (λ w t z f. number_own p n w t z) want m fit none;
    by_own = λ want t is none. number_own p n want t is;
    by_known = λ w z f. false≢true (ap is_off z);
  }

  pub text_good : (p : Pos) (v : List ℕ) → Good (Text p v)
  unfolding own_type
  text_good p v = record { by_place = λ want m fit none plain. absurd (false≢true fit); by_own = λ want t is none. absurd (true≢false (ap is_string is)); by_known = λ w z f. false≢true (ap is_off z) }

  pub null_good : (p : Pos) → Good (Null p)
  unfolding own_type typed_expression Has
  null_good p = record {
    by_place = λ want m fit none plain. (
        let found = is_access_view (seen s.context want) fit in
        (found.0, found.1, found.2, seen_access s.context want found.0 found.1 found.2 found.3));
    by_own = λ want t is none. absurd (true≢false (ap is_demanding is));
    by_known = λ w z f. false≢true (ap is_off z);
  }

  pub named_off : (p : Pos) (d : ℕ) (rest : Tree) (want : ℕ) → own_type s.context (Named p d rest) ≡ own.Unknown → inside s.context false want (Named p d rest) ≡ [] → ⊥
  unfolding own_type inside
  named_off p d rest want is none = not_off s.context p d false (given_names (call_arguments rest)) (reading_of s.context d rest) is (nil_left _ _ none)

  pub named_own : (p : Pos) (d : ℕ) (rest : Tree) → Denotes s (typing s objects subs made laws) d → AreFineSuffixes s objects subs made laws rest
      → (want t : ℕ) → own_type s.context (Named p d rest) ≡ own.Of t → inside s.context false want (Named p d rest) ≡ [] → made t × Typed t (typed_expression s want (Named p d rest))
  unfolding own_type inside typed_expression
  named_own p d rest denotes fine want t is none = named_has s objects subs made laws p d t rest (reading_of s.context d rest) _ _ denotes fine refl is
      (nil_right (reading_faults s.context p d false (given_names (call_arguments rest)) (reading_of s.context d rest)) _ none)

  pub named_good : (p : Pos) (d : ℕ) (rest : Tree) → Denotes s (typing s objects subs made laws) d → AreFineSuffixes s objects subs made laws rest → Good (Named p d rest)
  unfolding own_type
  named_good p d rest denotes fine = record {
    by_place = λ want m fit none plain. from_own (Named p d rest) (not_demanding s.context.known (reading_of s.context d rest)) (named_off p d rest) (named_own p d rest denotes fine) want m fit none;
    by_own = named_own p d rest denotes fine;
    by_known = named_off p d rest;
  }

  bad : (b : Bool) → b ≡ true → b ≡ false → ⊥
  bad true e f = absurd (true≢false f)
  bad false e f = absurd (false≢true e)

  not_owning : (b : Bool) → (b ≡ true → true ≡ false) → b ≡ false
  not_owning true f = absurd (true≢false (f refl))
  not_owning false f = refl

  pub parens_good : (p : Pos) (e : Tree) → Good e → Good (Parens p e)
  unfolding own_type inside typed_expression Has
  parens_good p e good = record {
    by_place = λ want m fit none plain. (
        let owns = not_owning (is_owning table want) plain in
        (owns, good.by_place want m fit (nil_right _ _ none) (λ z. absurd (bad (is_owning table want) z owns))));
    by_own = λ want t is none. (
        let has = good.by_own want t is (nil_right _ _ none) in
        let rule = holds 5 p (not (own_owning s.context.known (own_type s.context e))) (nil_left _ _ (nil_left _ (inside s.context false want e) none)) in
        let f : not (is_owning table t) ≡ true = subst (λ z. not (own_owning s.context.known z) ≡ true) is rule in
        (has.0, (not_true (is_owning table t) f, has.1)));
    by_known = λ want is none. good.by_known want is (nil_right _ _ none);
  }

  unary_own : (p : Pos) (op : UnaryOperator) (e : Tree) → Good e → (want t : ℕ) → own_type s.context (Unary p op e) ≡ own.Of t
      → inside s.context false want (Unary p op e) ≡ [] → made t × Typed t (typed_expression s want (Unary p op e))
  unfolding own_type inside typed_expression Has
  unary_own p op e good want t is none =
      let same : unary_type op ≡ t = ap type_or_integer is in
      (subst made same (unary_made op).0, subst (λ z. Typed z (typed_expression s want (Unary p op e))) same (by (is_alone op e) refl none))
    where
      by : (b : Bool) → is_alone op e ≡ b
          → (if b then [] else around s.context stands.Elsewhere (unary_type op) e ++ inside s.context false (unary_type op) e) ≡ []
          → Typed (unary_type op) (if b then typed.Number (negsuc 2147483647) else typed.Unary op (typed_expression s (unary_type op) e))
      by true alone x = (subst (λ z. counts (shape_of table z) ≡ true) (sym (alone_type op e alone)) laws.whole, refl)
      by false alone x = (inl refl, placed e stands.Elsewhere (unary_type op) good (unary_made op).0 (nil_left _ _ x) (nil_right _ _ x))

  pub unary_good : (p : Pos) (op : UnaryOperator) (e : Tree) → Good e → Good (Unary p op e)
  unfolding own_type
  unary_good p op e good = record {
    by_place = λ want m fit none plain. from_own (Unary p op e) (λ z. false≢true (ap is_demanding z)) (λ w z f. false≢true (ap is_off z)) (unary_own p op e good) want m fit none;
    by_own = unary_own p op e good;
    by_known = λ w z f. false≢true (ap is_off z);
  }
