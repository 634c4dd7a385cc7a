-- Sources of assignments, of objects and of results, those of anonymous access types among them.
use Rattle.std.proofs.Common.{◌≡◌, refl, sym, ap, ◌∙◌, subst, inl, ℕ, Bool, true, false, not, ◌&&◌, List, [], ◌++◌, nat_eq, ℤ, negsuc, if◌then◌else◌}
use Rattle.std.proofs.lemmas.Bool.{false≢true, true≢false}
use Rattle.machine.specs.spark_base.declared.position.Pos.{Pos}
use Rattle.machine.specs.resolved_tree.declared.operator.Operator.{Operator}
use Rattle.machine.specs.resolved_tree.declared.operator.Operator.TheVariants as operator
use Rattle.machine.specs.resolved_tree.Trees.{Tree, Null, Named, Unary, Binary, position}
use Rattle.machine.specs.type_definitions.declared.table.Entry.{Entry}
use Rattle.machine.specs.type_definitions.declared.table.Shape.{Shape}
use Rattle.machine.specs.type_definitions.declared.table.Shape.TheVariants as shape
use Rattle.machine.specs.type_definitions.declared.judgement.View.{View}
use Rattle.machine.specs.type_definitions.declared.judgement.View.TheVariants as view
use Rattle.machine.specs.type_definitions.declared.judgement.Reading.{Reading}
use Rattle.machine.specs.type_definitions.declared.judgement.Reading.TheVariants as reading
use Rattle.machine.specs.type_definitions.declared.judgement.Where.TheVariants as stands
use Rattle.machine.specs.type_definitions.Types.{Table, full, shape_of, view_of}
use Rattle.machine.specs.type_definitions.Entries.{entry_of, integer}
use Rattle.machine.specs.type_definitions.Faults.{demand, K2}
use Rattle.machine.specs.type_definitions.Statics.{is_alone}
use Rattle.machine.specs.type_definitions.Gathered.{natural_of}
use Rattle.machine.specs.type_definitions.Names.{Context, reading_of, is_end}
use Rattle.machine.specs.type_definitions.Expressions.{own_of, own_type, inside, reading_faults, given_names, call_arguments, is_anonymous, is_variable, is_null, behind, way_of, unary_type, faults}
use Rattle.machine.specs.type_definitions.Statements.{source_faults, source_name, source_fits, formal_source, return_source, designates, is_name, is_formal, is_object_entry, target_faults, assign_faults, target_reading}
use Rattle.machine.specs.typed_tree.Trees.{TypedTree, Name}
use Rattle.machine.specs.typed_tree.Trees as typed
use Rattle.machine.specs.typed_tree.declared.object.Object.{Object}
use Rattle.machine.specs.typed_tree.Expressions.{Site, typed_expression, typed_name, operands, value_of_type, number, object_type, typed_steps, typed_actuals, typed_imaged, called_function}
use Rattle.machine.specs.typed_tree.Statements.{type_read}
use Rattle.machine.specs.flow_paths.Objects.{Typing, Signature, object_at}
use Rattle.machine.specs.flow_paths.Objects as flow
use Rattle.soundness.specs.TypedLaws.Fine.{Laws, IsMeant}
use Rattle.soundness.specs.TypedLaws.Fine as fine
use Rattle.soundness.specs.TypedLaws.Needed.{IsPlace, IsView, Source}
use Rattle.soundness.proofs.TypedLaws.Agreeing.{holds, nil_left, nil_right, is_free}
use Rattle.soundness.proofs.TypedLaws.Assigns as assigns
use Rattle.soundness.proofs.TypedLaws.Sound.{leads, matches}
use Rattle.soundness.proofs.TypedLaws.TypedPoints.Flags.{flagged, at_flags, typed_same, meant_same, reading_same}
use Rattle.soundness.proofs.TypedLaws.TypedPoints.Values.{source_at}

-- ---- what isn't looked at

abbrev is_named : TypedTree → Bool
is_named (Name p x steps t) = true
is_named e = false

unnamed_view : (y : Typing) (want : ℕ) (e : TypedTree) → is_named e ≡ false → IsView y want e
unnamed_view y want (Name p x steps t) plain = absurd (true≢false plain)
unnamed_view y want e plain = tt

value_unnamed : (t : ℕ) (v : ℤ) → is_named (value_of_type t v) ≡ false
value_unnamed t v = by (nat_eq t integer)
  where
    by : (b : Bool) → is_named (if b then number v else typed.Literal (natural_of v)) ≡ false
    by true = refl
    by false = refl

operands_unnamed : (op : Operator) (p q : Pos) (l r : Bool) (a b : TypedTree) → is_named (operands op p q l r a b) ≡ false
operands_unnamed operator.Equal p q true r a b = refl
operands_unnamed operator.Equal p q false true a b = refl
operands_unnamed operator.Equal p q false false a b = refl
operands_unnamed operator.NotEqual p q true r a b = refl
operands_unnamed operator.NotEqual p q false true a b = refl
operands_unnamed operator.NotEqual p q false false a b = refl
operands_unnamed op p q l r a b = refl

other_unnamed : (s : Site) (want : ℕ) (e : Tree) → is_name e ≡ false → is_named (typed_expression s want e) ≡ false
unfolding typed_expression
other_unnamed s want (Named p d rest) plain = absurd (true≢false plain)
other_unnamed s want (Unary p op e) plain = by (is_alone op e)
  where
    by : (b : Bool) → is_named (if b then typed.Number (negsuc 2147483647) else typed.Unary op (typed_expression s (unary_type op) e)) ≡ false
    by true = refl
    by false = refl
other_unnamed s want (Binary p op a b) plain = operands_unnamed op (position a) (position b) (is_null a) (is_null b) _ _
other_unnamed s want e plain = refl

-- ---- anonymous access types

pub one_anonymous : (w : View) → is_anonymous w ≡ true → flow.is_anonymous w ≡ true
one_anonymous (view.Access d true false) e = refl
one_anonymous (view.Access d false false) e = refl
one_anonymous (view.Access d true true) e = absurd (false≢true e)
one_anonymous (view.Access d false true) e = absurd (false≢true e)
one_anonymous w e = absurd (false≢true e)

pub anonymous_shape : (z : Shape) → is_anonymous (view_of z) ≡ true → (to : ℕ) × (constant : Bool) × (named : Bool) × (z ≡ shape.Access to constant named)
anonymous_shape (shape.Access to constant named) e = (to, constant, named, refl)
anonymous_shape z e = absurd (false≢true e)

abbrev is_place : Reading → Bool
is_place (reading.Place t) = true
is_place r = false

name_source : (known : Context) (want : ℕ) (p : Pos) (r : Reading) (t : ℕ) → r ≡ reading.Place t → source_name known want p r ≡ [] → designates known want (own_of known.known r) ≡ true
name_source c want p (reading.Place u) t is none =
    holds 1 p (designates c want (own_of c.known (reading.Place u))) (nil_left (demand 1 p (designates c want (own_of c.known (reading.Place u)))) _ none)
name_source c want p r t is none = absurd (false≢true (ap is_place is))

module _ (s : Site) (objects : List Object) (subs : List Signature) (made : ℕ → Type 0) (laws : Laws s.context.known made) where
  abbrev y : Typing
  y = record { table = s.context.known.table; objects = objects; subs = subs }

  abbrev table : Table
  table = s.context.known.table

  pub place : (e : TypedTree) (t : ℕ) → assigns.IsPlace y e t → IsPlace y e t
  place (Name p x steps u) t h = (leads y laws.whole laws.listed laws.word_law steps (object_at y x).of u h.0, h.1)
  place e t h = absurd h

  viewed : (e : TypedTree) (t want to of : ℕ) (constant named k n : Bool) → assigns.IsPlace y e t → shape_of table want ≡ shape.Access to constant named
      → shape_of table t ≡ shape.Access of k n → fine.Agree table of to → IsView y want e
  viewed (Name p x steps u) t want to of constant named k n h w v agree =
      (of, to, k, n, constant, named, leads y laws.whole laws.listed laws.word_law steps (object_at y x).of u h.0, ap (shape_of table) h.1 ∙ v, w, matches table of to agree)
  viewed e t want to of constant named k n h w v agree = absurd h

  module _ (looped starts : Bool) where
    abbrev c : Context
    c = flagged looped starts s.context

    abbrev z : Site
    z = at_flags looped starts s

    -- A name that is looked at.
    named_view : (p : Pos) (d want to : ℕ) (constant named : Bool) (rest : Tree) → IsMeant s y (Named p d rest) → made want → shape_of table want ≡ shape.Access to constant named
        → ((t : ℕ) → reading_of c d rest ≡ reading.Place t → designates c want (own_of c.known (reading_of c d rest)) ≡ true)
        → inside c true integer (Named p d rest) ≡ [] → IsView y want (typed_expression s want (Named p d rest))
    unfolding typed_expression
    named_view p d want to constant named rest meant m defined fits loose = subst (IsView y want) (typed_same looped starts s want (Named p d rest)) (by (reading_of c d rest) refl)
      where
        by : (r : Reading) → reading_of c d rest ≡ r
            → IsView y want (typed_name z p d (reading_of c d rest) (typed_steps z (object_type (entry_of s.context.known d)) rest)
            (typed_actuals z (called_function (reading_of c d rest)) rest) (typed_imaged z rest))
        by (reading.Place t) is =
            let found = assigns.source_view z objects subs made laws p d t want to constant named rest (meant_same looped starts s y (Named p d rest) meant) m defined is (fits t is) loose in
            viewed (typed_expression z want (Named p d rest)) t want to found.1 constant named found.2 found.3 found.0 defined found.4 found.5
        by (reading.Value t v) is = rw is (unnamed_view y want (value_of_type t v) (value_unnamed t v))
        by r is = rw is tt

    abbrev IsViewed : ℕ → Tree → Type 0
    IsViewed want e = IsView y want (typed_expression s want e)

    -- What an object or result of an anonymous access type takes.
    pub source_viewed : (e : Tree) (want : ℕ) → IsMeant s y e → made want → is_anonymous (full table want) ≡ true → source_faults c want e ≡ [] → IsViewed want e
    source_viewed (Named p d rest) want meant m anonymous none =
        let defined = anonymous_shape (shape_of table want) anonymous in
        named_view p d want defined.0 defined.1 defined.2 rest meant m defined.3
        (λ t is. name_source c want p (reading_of c d rest) t is (nil_left (source_name c want p (reading_of c d rest)) _ none))
        (nil_right (source_name c want p (reading_of c d rest)) (inside c true integer (Named p d rest)) none)
    source_viewed e want meant m anonymous none = unnamed_view y want (typed_expression s want e) (other_unnamed s want e refl)

    pub return_viewed : (e : Tree) (want : ℕ) → IsMeant s y e → made want → is_anonymous (full table want) ≡ true → return_source c want e ≡ [] → IsViewed want e
    return_viewed (Null p) want meant m anonymous none = unnamed_view y want (typed_expression s want (Null p)) (other_unnamed s want (Null p) refl)
    return_viewed e want meant m anonymous none = source_viewed e want meant m anonymous none

    formal_viewed : (e : Tree) (want : ℕ) → IsMeant s y e → made want → is_anonymous (full table want) ≡ true → formal_source c want e ≡ [] → IsViewed want e
    unfolding own_type inside
    formal_viewed (Named p d rest) want meant m anonymous none =
        let defined = anonymous_shape (shape_of table want) anonymous in
        named_view p d want defined.0 defined.1 defined.2 rest meant m defined.3
        (λ t is. holds 1 p (source_fits c want (Named p d rest)) (nil_left (demand 1 p (source_fits c want (Named p d rest))) _ none))
        (nil_right (demand 1 p (source_fits c want (Named p d rest))) (inside c true integer (Named p d rest)) none)
    formal_viewed e want meant m anonymous none = unnamed_view y want (typed_expression s want e) (other_unnamed s want e refl)

    -- ---- assignments

    -- A target is read as a place.
    target_read : (p : Pos) (d : ℕ) (rest : Tree) → target_faults c (Named p d rest) ≡ [] → (t : ℕ) × (reading_of c d rest ≡ reading.Place t)
    unfolding inside
    target_read p d rest none = by (is_object_entry (entry_of s.context.known d)) (reading_of c d rest) refl none
      where
        by : (b : Bool) (r : Reading) → reading_of c d rest ≡ r
            → (if b then demand 2 p (is_variable (entry_of s.context.known d) r) ++ (reading_faults c p d false (given_names (call_arguments rest)) r ++ behind c (way_of s.context.known d (entry_of s.context.known d)) rest)
            else K2 p ++ behind c (way_of s.context.known d (entry_of s.context.known d)) rest) ≡ []
            → (t : ℕ) × (reading_of c d rest ≡ reading.Place t)
        by true (reading.Place t) is h = (t, is)
        by true r is h = absurd (false≢true (ap is_free h))
        by false r is h = absurd (false≢true (ap is_free h))

    source_assigned : (whole_target : Bool) (root : Entry) (e : Tree) (t : ℕ) → IsMeant s y e → made t
        → (if not (whole_target && is_anonymous (full table t)) then faults c stands.Stored t e else if is_formal root then formal_source c t e else source_faults c t e) ≡ []
        → Source y t (typed_expression s t e)
    source_assigned true root e t meant m none = by (is_anonymous (full table t)) refl none
      where
        by : (b : Bool) → is_anonymous (full table t) ≡ b → (if not b then faults c stands.Stored t e else if is_formal root then formal_source c t e else source_faults c t e) ≡ []
            → Source y t (typed_expression s t e)
        by false is h = source_at s objects subs made laws looped starts e t meant m h
        by true is h = inl (one_anonymous (full table t) is, under (is_formal root) h)
          where
            under : (f : Bool) → (if f then formal_source c t e else source_faults c t e) ≡ [] → IsViewed t e
            under true g = formal_viewed e t meant m is g
            under false g = source_viewed e t meant m is g
    source_assigned false root e t meant m none = source_at s objects subs made laws looped starts e t meant m none

    abbrev pub IsAssigned : Tree → Tree → Type 0
    IsAssigned target e =
        (t : ℕ) × IsPlace y (typed_expression s integer target) t × Source y t (typed_expression s (type_read (target_reading s.context target)) e)

    pub assigned_fine : (target e : Tree) → IsMeant s y target → IsMeant s y e → target_faults c target ≡ [] → assign_faults c target e ≡ [] → IsAssigned target e
    assigned_fine (Named p d rest) e meant value none source =
        let read = target_read p d rest none in
        let t = read.0 in
        let here : reading_of s.context d rest ≡ reading.Place t = sym (reading_same looped starts s.context d rest) ∙ read.1 in
        let at = assigns.target_placed z objects subs made laws p d t rest (meant_same looped starts s y (Named p d rest) meant) none read.1 in
        let takes = source_assigned (is_end rest) (entry_of s.context.known d) e t value at.0 (rw read.1 at source) in (
          t,
          subst (λ x. IsPlace y x t) (typed_same looped starts s integer (Named p d rest)) (place (typed_expression z integer (Named p d rest)) t at.1),
          subst (λ r. Source y t (typed_expression s (type_read r) e)) (sym here) takes,
        )
    assigned_fine target e meant value none source = absurd (false≢true (ap is_free none))
