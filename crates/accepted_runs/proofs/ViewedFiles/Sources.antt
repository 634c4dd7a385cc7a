-- Objects of anonymous access types are variables of subprograms, with names or calls as sources, where typing finds
-- no fault.
use Rattle.std.proofs.Common.{◌≡◌, refl, sym, ap, ◌∙◌, subst, ◌⊎◌, inl, inr, ℕ, Bool, true, false, not, ◌&&◌, ◌||◌, List, [], ◌∷◌, ◌++◌, map, Option, Some, None, is_some, ℤ, if◌then◌else◌}
use Rattle.std.specs.Prelude.{flat_map}
use Rattle.std.specs.List.{AllByRecursion}
use Rattle.std.proofs.lemmas.Bool.{true≢false, false≢true}
use Rattle.machine.specs.spark_base.declared.position.Pos.{Pos}
use Rattle.machine.specs.place_names.declared.act.Mode.{Mode}
use Rattle.machine.specs.place_names.declared.act.Mode.TheVariants as mode
use Rattle.machine.specs.resolved_tree.declared.node.Mark.{Mark}
use Rattle.machine.specs.resolved_tree.declared.operator.Attribute.{Attribute}
use Rattle.machine.specs.resolved_tree.declared.operator.Attribute.TheVariants as attribute
use Rattle.machine.specs.resolved_tree.Trees.{Tree, Named, Selected, All, Applied, Attr, NoMore, More, position, Code, Plain, Anonymous, Formals, Front, code_items}
use Rattle.machine.specs.type_definitions.declared.table.Entry.{Entry}
use Rattle.machine.specs.type_definitions.declared.table.Entry.TheVariants as entry
use Rattle.machine.specs.type_definitions.declared.table.Kind.TheVariants as kind
use Rattle.machine.specs.type_definitions.declared.table.ObjectInfo.{ObjectInfo}
use Rattle.machine.specs.type_definitions.declared.table.Known.{Known}
use Rattle.machine.specs.type_definitions.declared.table.Profile.{Profile}
use Rattle.machine.specs.type_definitions.declared.table.Shape.{Shape}
use Rattle.machine.specs.type_definitions.declared.table.Shape.TheVariants as shape
use Rattle.machine.specs.type_definitions.declared.judgement.Fault.{Fault}
use Rattle.machine.specs.type_definitions.declared.judgement.View.{View}
use Rattle.machine.specs.type_definitions.declared.judgement.View.TheVariants as view
use Rattle.machine.specs.type_definitions.declared.judgement.Next.{Next}
use Rattle.machine.specs.type_definitions.declared.judgement.Next.TheVariants.{Goes, Gives, Stops}
use Rattle.machine.specs.type_definitions.declared.judgement.Reading.{Reading}
use Rattle.machine.specs.type_definitions.declared.judgement.Reading.TheVariants as reading
use Rattle.machine.specs.type_definitions.declared.judgement.Where.TheVariants as stands
use Rattle.machine.specs.type_definitions.Types.{Table, full, shape_of, view_of, untyped, is_untyped, is_owning, is_scalar, is_nil}
use Rattle.machine.specs.type_definitions.Entries.{entry_of, integer, marked, denotes_type}
use Rattle.machine.specs.type_definitions.Faults.{demand, K2, K6}
use Rattle.machine.specs.type_definitions.Names.{Context, extent, seen, step, along, led_on, ended, reached, through, indexed, is_index, array_value, array_attribute, of_entry, reading_of, is_end}
use Rattle.machine.specs.type_definitions.Expressions.{faults, inside, behind, way_of, reading_faults, given_names, call_arguments, own_of, next_type, is_variable, is_anonymous, is_traversal, profile_of, result_type, is_in}
use Rattle.machine.specs.type_definitions.Statements.{source_faults, source_name, source_fits, formal_source, designates, is_source, keeps_constant, is_object_entry, is_formal, is_formal_kind, target_faults, assign_faults, assigned}
use Rattle.machine.specs.type_definitions.Gathered.{indicated, is_anonymous_indication, declared_number, declared_pos, indicates_type, profile_from}
use Rattle.machine.specs.type_definitions.Declarations.{indication_faults, is_single, first_pos, first_number, in_package, starting, has_one, initial_faults, object_faults, formal_faults, group_faults, formals_group, formals_faults, front_faults, result_faults, is_traversable}
use Rattle.machine.specs.typed_tree.Trees.{TypedTree, TypedCode, NoMore as nothing_more}
use Rattle.machine.specs.typed_tree.Trees as typed
use Rattle.machine.specs.typed_tree.declared.object.Object.{Object}
use Rattle.machine.specs.typed_tree.Expressions.{Site, object_number, sub_number, typed_expression, typed_name, typed_steps, typed_step, typed_actuals, typed_imaged, typed_optional, typed_first, called_function, object_type, designating, element}
use Rattle.machine.specs.typed_tree.Statements.{typed_object, typed_assign, type_read}
use Rattle.machine.specs.typed_tree.Programs.{DeclaredObject, Home, object_of, formals_of, front_formals, kind_of, entry_kind}
use Rattle.machine.specs.flow_paths.Instructions.{Declare}
use Rattle.machine.specs.flow_paths.Objects.{Typing, Signature, object_at, sub_at, is_variable as is_variable_object}
use Rattle.machine.specs.flow_paths.Objects as flow
use Rattle.machine.specs.flow_paths.Names.{first, whole, whole_object}
use Rattle.soundness.specs.TypedLaws.Fine.{Laws, IsMeant, Denotes, AreSuffixes, counts}
use Rattle.soundness.proofs.TypedLaws.Agreeing.{holds, nil_left, nil_right}
use Rattle.soundness.proofs.TypedLaws.Readings.{call_of}
use Rattle.soundness.specs.TypedLaws.TypedPoints.Meant.{AreDeclared, AreNumbers, IsMeantOptional}
use Rattle.soundness.proofs.TypedLaws.TypedPoints.Flags.{flagged, reading_same}
use Rattle.sound_files.specs.SeenFiles.Uses.{Uses}
use Rattle.sound_files.specs.MeantFiles.Typed.{AreIndicated, AreOf, IsGroupTyped, AreGroupsTyped, IsFrontTyped, AreIntegers}
use Rattle.settled_types.proofs.OrderLaws.ScopeLaws.Lists.{all_both, and_first, and_second}
use Rattle.accepted_runs.specs.ViewedFiles.ViewLaws.InOrder.{gives_view, is_name_of, is_one_name_of, is_any, stores_name}
use Rattle.accepted_runs.specs.ViewedFiles.Sources.{has_source, all_fit}

or_left : (a b : Bool) → a ≡ true → a || b ≡ true
or_left true b e = refl
or_left false b e = absurd (false≢true e)

not_false : (b : Bool) → b ≡ false → not b ≡ true
not_false true e = sym e
not_false false e = refl

true_false : (b : Bool) → b ≡ true → b ≡ false → ⊥
true_false true e f = absurd (true≢false f)
true_false false e f = absurd (false≢true e)

pub counts_plain : (z : Shape) → counts z ≡ true → flow.is_anonymous (view_of z) ≡ false
counts_plain (shape.Whole low high) e = refl
counts_plain z e = absurd (false≢true e)

pub scalar_plain : (w : View) → is_scalar w ≡ true → flow.is_anonymous w ≡ false
scalar_plain (view.Whole low high) e = refl
scalar_plain (view.Listed low high) e = refl
scalar_plain w e = absurd (false≢true e)

-- An object of an anonymous access type is a variable, and of no package; or it is a formal.
abbrev pub IsLocalView : Table → DeclaredObject → Type 0
IsLocalView table o =
    flow.is_anonymous (full table o.object.of) ≡ true
    → ((flow.is_formal_kind o.object.kind ≡ true) × (o.object.mode ≡ mode.In)) ⊎ ((is_variable_object o.object.kind ≡ true) × (o.object.«package» ≡ None))

-- What is declared is no view.
abbrev pub DeclaresPlain : Typing → TypedCode → Type 0
DeclaresPlain s (typed.Declare p x v) = flow.is_anonymous (flow.view_of s x) ≡ false
DeclaresPlain s c = Unit {0}

view_anonymous : (w : View) → is_anonymous w ≡ true → flow.is_anonymous w ≡ true
view_anonymous (view.Access d k true) e = absurd (false≢true e)
view_anonymous (view.Access d true false) e = refl
view_anonymous (view.Access d false false) e = refl
view_anonymous w e = absurd (false≢true e)

no_source : (a b : Bool) → a ≡ false → a && b ≡ true → ⊥
no_source true b e f = absurd (true≢false e)
no_source false b e f = absurd (false≢true f)

by_listed_source : (a b : Bool) → a || b ≡ true → (a && true) || b ≡ true
by_listed_source true b h = refl
by_listed_source false true h = refl
by_listed_source false false h = h

anonymous_test : (a b d e : Bool) → not true || (a && (not b && (not d && e))) ≡ true → (b ≡ false) × (d ≡ false) × (e ≡ true)
anonymous_test true false false true h = (refl, refl, refl)
anonymous_test true false false false h = absurd (false≢true h)
anonymous_test true false true e h = absurd (false≢true h)
anonymous_test true true d e h = absurd (false≢true h)
anonymous_test false b d e h = absurd (false≢true h)

in_mode : (m : Mode) → is_in m ≡ true → m ≡ mode.In
in_mode mode.In e = refl
in_mode mode.Out e = absurd (false≢true e)
in_mode mode.InOut e = absurd (false≢true e)

reached_mode_of : (a b c : Bool) → not true || a ≡ true → b ≡ true → not (a && b) || c ≡ true → c ≡ true
reached_mode_of true true c e g h = h
reached_mode_of true false c e g h = absurd (false≢true g)
reached_mode_of false b c e g h = absurd (false≢true e)

both_first : (a b : Bool) → a && b ≡ true → a ≡ true
both_first true b e = refl
both_first false b e = e

no_end : (b : Bool) (v : ℤ) (u : ℕ) → ended b v ≡ reading.Place u → ⊥
no_end true v u e = cc
no_end false v u e = cc

abbrev is_goes : Next → Bool
is_goes (Goes w) = true
is_goes n = false

-- What is neither a name nor a call is no source.
never_source : (p : Pos) (b : Bool) (more : List Fault) → demand 1 p b ++ (K6 p ++ more) ≡ [] → ⊥
never_source p b more h = false≢true (ap is_nil (nil_left (K6 p) more (nil_right (demand 1 p b) (K6 p ++ more) h)))

goes_on : (on : ℕ → Reading) (rest : Tree) (u : ℕ) (n : Next) → led_on on rest n ≡ reading.Place u → (w : ℕ) × (n ≡ Goes w)
goes_on on rest u (Goes w) e = (w, refl)
goes_on on rest u (Gives v) e = absurd (no_end (is_end rest) v u e)
goes_on on rest u Stops e = cc

other_anonymous : (w : View) → flow.is_anonymous w ≡ true → is_anonymous w ≡ true
other_anonymous (view.Access d k true) e = absurd (false≢true e)
other_anonymous (view.Access d k false) e = refl
other_anonymous w e = absurd (false≢true e)

one_place : (t u : ℕ) → reading.Place t ≡ reading.Place u → t ≡ u
one_place t u e = cc

named : (a f b c : Bool) → a ≡ false → ((not a || f) || b) || c ≡ true
named true f b c e = absurd (true≢false e)
named false f b c e = refl

passed : (a f b c : Bool) → f ≡ true → ((not a || f) || b) || c ≡ true
passed true true b c e = refl
passed false true b c e = refl
passed a false b c e = absurd (false≢true e)

module _ (s : Site) (objects : List Object) (subs : List Signature) (made : ℕ → Type 0) (laws : Laws s.context.known made) where
  abbrev y : Typing
  y = record { table = s.context.known.table; objects = objects; subs = subs }

  abbrev known : Known
  known = s.context.known

  abbrev table : Table
  table = s.context.known.table

  abbrev pub AreMarksPlain : Type 0
  AreMarksPlain = (m : Mark) → flow.is_anonymous (full table (marked known m)) ≡ false

  -- If this is known as a formal, the object is one.
  abbrev pub IsRootFormal : ℕ → Type 0
  IsRootFormal d = (o : ObjectInfo) → entry_of known d ≡ entry.Object o → is_formal_kind o.kind ≡ true → flow.is_formal y (object_number s d) ≡ true

  pub integer_plain : flow.is_anonymous (full table integer) ≡ false
  integer_plain = counts_plain (shape_of table integer) laws.whole

  abbrev Fits : List TypedCode → Type 0
  Fits cs = AllByRecursion (λ c. all_fit (has_source y) c ≡ true) cs

  -- ---- sources

  -- A name, or a call of a traversal function.
  abbrev IsNameOrCall : TypedTree → Type 0
  IsNameOrCall e = is_name_of is_any e || gives_view y e ≡ true

  read_entry : (c : Context) (d : ℕ) (rest : Tree) → reading_of c d rest ≡ of_entry c d (entry_of c.known d) rest
  unfolding reading_of
  read_entry c d rest = refl

  -- A function with an anonymous result by what is known of it has one by the text.
  traversal : (d f : ℕ) → (f ≡ d) × (t : ℕ) × ((profile_of (entry_of known d)).result ≡ Some t) → Denotes s y d → is_traversal known (profile_of (entry_of known f)) ≡ true
      → flow.traverses table (sub_at y (sub_number s f)).result ≡ true
  traversal d f (same, t, result) denotes traverses =
      ap (λ n. flow.traverses table (sub_at y (sub_number s n)).result) same ∙ ap (flow.traverses table) (denotes.1 t result)
      ∙ view_anonymous (full table t)
      (and_second (is_some (Some t)) (is_anonymous (full table t))
      (sym (ap (λ (r : Option ℕ). is_some r && is_anonymous (full table (result_type r))) result)
      ∙ sym (ap (λ n. is_traversal known (profile_of (entry_of known n))) same) ∙ traverses))

  source_fit : (looped starts : Bool) (want given : ℕ) (e : Tree) → IsMeant s y e → source_faults (flagged looped starts s.context) want e ≡ [] → IsNameOrCall (typed_expression s given e)
  unfolding typed_expression inside IsMeant
  source_fit looped starts want given (Named p d rest) meant none =
      let c : Context = flagged looped starts s.context in
      let steps : TypedTree = typed_steps s (object_type (entry_of known d)) rest in
      let r : Reading = reading_of c d rest in
      let loose = nil_right (source_name c want p r) (inside c true integer (Named p d rest)) none in
      subst (λ z. IsNameOrCall (typed_name s p d z steps (typed_actuals s (called_function z) rest) (typed_imaged s rest))) (reading_same looped starts s.context d rest)
      (by steps (typed_actuals s (called_function r) rest) (typed_imaged s rest) r refl (nil_left (source_name c want p r) (inside c true integer (Named p d rest)) none)
      (nil_left (reading_faults c p d true (given_names (call_arguments rest)) r) (behind c (way_of known d (entry_of known d)) rest) loose))
    where
      c : Context
      c = flagged looped starts s.context

      by : (steps actuals imaged : TypedTree) (r : Reading) → reading_of (flagged looped starts s.context) d rest ≡ r → source_name c want p r ≡ [] → reading_faults c p d true (given_names (call_arguments rest)) r ≡ []
          → IsNameOrCall (typed_name s p d r steps actuals imaged)
      by steps actuals imaged reading.Off is a b = absurd (false≢true (ap is_nil b))
      by steps actuals imaged (reading.Place t) is a b = refl
      by steps actuals imaged (reading.Call f) is a b =
          traversal d f (call_of (flagged looped starts s.context) d f (entry_of known d) rest (sym (read_entry (flagged looped starts s.context) d rest) ∙ is)) meant.0
          (and_first (is_traversal c.known (profile_of (entry_of c.known f))) _
          (holds 6 p (is_source c.known (reading.Call f) && keeps_constant c.known want (own_of c.known (reading.Call f)))
          (nil_right (demand 1 p (designates c want (own_of c.known (reading.Call f)))) _ a)))
      by steps actuals imaged (reading.Value t v) is a b =
          absurd (no_source false (keeps_constant c.known want (own_of c.known (reading.Value t v))) refl
          (holds 6 p (is_source c.known (reading.Value t v) && keeps_constant c.known want (own_of c.known (reading.Value t v)))
          (nil_right (demand 1 p (designates c want (own_of c.known (reading.Value t v)))) _ a)))
      by steps actuals imaged (reading.Image t) is a b =
          absurd (no_source false (keeps_constant c.known want (own_of c.known (reading.Image t))) refl
          (holds 6 p (is_source c.known (reading.Image t) && keeps_constant c.known want (own_of c.known (reading.Image t)))
          (nil_right (demand 1 p (designates c want (own_of c.known (reading.Image t)))) _ a)))
      by steps actuals imaged reading.EndOfFile is a b =
          absurd (no_source false (keeps_constant c.known want (own_of c.known reading.EndOfFile)) refl
          (holds 6 p (is_source c.known reading.EndOfFile && keeps_constant c.known want (own_of c.known reading.EndOfFile))
          (nil_right (demand 1 p (designates c want (own_of c.known reading.EndOfFile))) _ a)))
  source_fit looped starts want given e meant none =
      absurd (never_source (position e) (source_fits (flagged looped starts s.context) want e) (inside (flagged looped starts s.context) false want e) none)

  -- ---- declarations

  named_source : (x : ℕ) (v : TypedTree) → flow.is_anonymous (full table (object_at y x).of) ≡ false → has_source y (Declare x v) ≡ true
  named_source x v plain = or_left (not (flow.is_anonymous (full table (object_at y x).of))) (is_one_name_of is_any v || gives_view y (first v)) (not_false (flow.is_anonymous (full table (object_at y x).of)) plain)

  each_named : (ids i : Code) (v : TypedTree) → AreDeclared s y made i ids → ((d : ℕ) → flow.is_anonymous (full table (indicated known d i)) ≡ false)
      → Fits (map (typed_object s v) (code_items ids))
  unfolding all_fit
  each_named (More d rest) i v h plain = (
    named_source (object_number s (declared_number d)) v (ap (λ t. flow.is_anonymous (full table t)) h.0 ∙ plain (declared_number d)),
    each_named rest i v h.2 plain,
  )
  each_named ids i v h plain = tt

  pub numbers_fit : (ids : Code) (v : TypedTree) → AreNumbers s y ids → Fits (map (typed_object s v) (code_items ids))
  unfolding all_fit
  numbers_fit (More d rest) v h = (named_source (object_number s (declared_number d)) v (ap (λ t. flow.is_anonymous (full table t)) h.0 ∙ integer_plain), numbers_fit rest v h.1)
  numbers_fit ids v h = tt

  each_declared : (ids i : Code) (v : TypedTree) → AreDeclared s y made i ids → ((d : ℕ) → flow.is_anonymous (full table (indicated known d i)) ≡ false)
      → AllByRecursion (DeclaresPlain y) (map (typed_object s v) (code_items ids))
  each_declared (More d rest) i v h plain =
      (ap (λ t. flow.is_anonymous (full table t)) h.0 ∙ plain (declared_number d), each_declared rest i v h.2 plain)
  each_declared ids i v h plain = tt

  pub numbers_plain : (ids : Code) (v : TypedTree) → AreNumbers s y ids → AllByRecursion (DeclaresPlain y) (map (typed_object s v) (code_items ids))
  numbers_plain (More d rest) v h = (ap (λ t. flow.is_anonymous (full table t)) h.0 ∙ integer_plain, numbers_plain rest v h.1)
  numbers_plain ids v h = tt

  each_sourced : (v : TypedTree) → is_one_name_of is_any v || gives_view y (first v) ≡ true → (ids : List Code) → Fits (map (typed_object s v) ids)
  unfolding all_fit
  each_sourced v source [] = tt
  each_sourced v source (d ∷ ids) = (right (not (flow.is_anonymous (full table (object_at y (object_number s (declared_number d))).of))) source, each_sourced v source ids)
    where
      right : (a : Bool) → is_one_name_of is_any v || gives_view y (first v) ≡ true → a || (is_one_name_of is_any v || gives_view y (first v)) ≡ true
      right true e = refl
      right false e = e

  listed_source : (e : TypedTree) → IsNameOrCall e → is_one_name_of is_any (typed.More e nothing_more) || gives_view y (first (typed.More e nothing_more)) ≡ true
  listed_source e h = by_listed_source (is_name_of is_any e) (gives_view y e) h

  module _ (looped : Bool) (marks : AreMarksPlain) where
    abbrev c : Context
    c = flagged looped s.context.starts s.context

    test_of : (ids i : Code) (constant : Bool) (v : Tree) → object_faults c ids constant i v ≡ []
        → not (is_anonymous_indication i) || (is_single ids && (not (in_package c) && (not constant && has_one v))) ≡ true
    test_of ids i constant v none =
        holds 6 (first_pos ids) (not (is_anonymous_indication i) || (is_single ids && (not (in_package c) && (not constant && has_one v))))
        (nil_left _ _ (nil_right (indication_faults known i) _ none))

    initial_of : (ids i : Code) (constant : Bool) (v : Tree) → object_faults c ids constant i v ≡ []
        → initial_faults (starting c) (is_anonymous_indication i) (indicated known (first_number ids) i) v ≡ []
    initial_of ids i constant v none =
        nil_right (demand 5 (first_pos ids) (not (constant && is_owning known.table (indicated known (first_number ids) i)))) _
        (nil_right (demand 6 (first_pos ids) (not (is_anonymous_indication i) || (is_single ids && (not (in_package c) && (not constant && has_one v))))) _
        (nil_right (indication_faults known i) _ none))

    first_source : (v : Tree) (t : ℕ) → IsMeantOptional s y v → has_one v ≡ true → initial_faults (starting c) true t v ≡ []
        → is_one_name_of is_any (typed_optional s t v) || gives_view y (first (typed_optional s t v)) ≡ true
    first_source (More e rest) t meant one none = listed_source (typed_expression s t e) (source_fit looped (in_package s.context) t t e meant none)
    first_source v t meant one none = absurd (false≢true one)

    pub objects_fit : (ids i : Code) (constant : Bool) (v : Tree) → AreDeclared s y made i ids → IsMeantOptional s y v → object_faults c ids constant i v ≡ []
        → Fits (map (typed_object s (typed_optional s (indicated known (first_number ids) i) v)) (code_items ids))
    objects_fit ids (Plain m) constant v h meant none = each_named ids (Plain m) (typed_optional s (marked known m) v) h (λ d. marks m)
    objects_fit ids (Anonymous p k m) constant v h meant none =
        let test = anonymous_test (is_single ids) (in_package c) constant (has_one v) (test_of ids (Anonymous p k m) constant v none) in
        each_sourced (typed_optional s (first_number ids) v) (first_source v (first_number ids) meant test.2 (initial_of ids (Anonymous p k m) constant v none)) (code_items ids)
    objects_fit ids i constant v h meant none = each_named ids i (typed_optional s integer v) h (λ d. integer_plain)

    -- What a package declares is no view.
    pub objects_plain : (ids i : Code) (constant : Bool) (v : Tree) (value : TypedTree) → in_package s.context ≡ true → AreDeclared s y made i ids → object_faults c ids constant i v ≡ []
        → AllByRecursion (DeclaresPlain y) (map (typed_object s value) (code_items ids))
    objects_plain ids (Plain m) constant v value shared h none = each_declared ids (Plain m) value h (λ d. marks m)
    objects_plain ids (Anonymous p k m) constant v value shared h none =
        absurd (true_false (in_package s.context) shared (anonymous_test (is_single ids) (in_package c) constant (has_one v) (test_of ids (Anonymous p k m) constant v none)).0)
    objects_plain ids i constant v value shared h none = each_declared ids i value h (λ d. integer_plain)

    -- ---- what is known of objects

    module _ (h : Home) (same : h.known ≡ known) (outside : in_package s.context ≡ false → h.identifier ≡ None) where
      abbrev AreLocalViews : List DeclaredObject → Type 0
      AreLocalViews os = AllByRecursion (IsLocalView table) os

      type_of : (n t : ℕ) (o : ObjectInfo) → entry_of known n ≡ entry.Object o → o.of ≡ t → object_type (entry_of h.known n) ≡ t
      type_of n t o is of = ap (λ (k : Known). object_type (entry_of k n)) same ∙ ap object_type is ∙ of

      pub plain_object : (a n t : ℕ) (how : Mode) (d : Code) (o : ObjectInfo) → declared_number d ≡ n → entry_of known n ≡ entry.Object o → o.of ≡ t
          → flow.is_anonymous (full table t) ≡ false → IsLocalView table (object_of h a how d)
      plain_object a n t how d o number is of plain anonymous =
          absurd (true_false (flow.is_anonymous (full table t))
          (sym (ap (λ z. flow.is_anonymous (full table z)) (ap (λ m. object_type (entry_of h.known m)) number ∙ type_of n t o is of)) ∙ anonymous) plain)

      each_plain : (a : ℕ) (constant : Bool) (i ids : Code) → AreIndicated known made constant i ids → ((d : ℕ) → flow.is_anonymous (full table (indicated known d i)) ≡ false)
          → AreLocalViews (map (object_of h a mode.In) (code_items ids))
      each_plain a constant i (More d rest) are plain = (
        plain_object a (declared_number d) (indicated known (declared_number d) i) mode.In d are.0.0 refl are.0.1 are.0.2 (plain (declared_number d)),
        each_plain a constant i rest are.2 plain,
      )
      each_plain a constant i ids are plain = tt

      pub numbers_local : (a : ℕ) (ids : Code) → AreIntegers known ids → AreLocalViews (map (object_of h a mode.In) (code_items ids))
      numbers_local a (More d rest) are = (plain_object a (declared_number d) integer mode.In d are.0.0 refl are.0.1 are.0.2 integer_plain, numbers_local a rest are.1)
      numbers_local a ids are = tt

      each_variable : (a : ℕ) (i ids : Code) → h.identifier ≡ None → AreIndicated known made false i ids → AreLocalViews (map (object_of h a mode.In) (code_items ids))
      each_variable a i (More d rest) none are = (
        λ anonymous. inr (ap is_variable_object (ap (λ (k : Known). entry_kind (entry_of k (declared_number d))) same ∙ ap entry_kind are.0.1 ∙ ap kind_of are.0.3), none),
        each_variable a i rest none are.2,
      )
      each_variable a i ids none are = tt

      pub objects_local : (a : ℕ) (ids i : Code) (constant : Bool) (v : Tree) → AreIndicated known made constant i ids → object_faults c ids constant i v ≡ []
          → AreLocalViews (map (object_of h a mode.In) (code_items ids))
      objects_local a ids (Plain m) constant v are none = each_plain a constant (Plain m) ids are (λ d. marks m)
      objects_local a ids (Anonymous p k m) constant v are none =
          let test = anonymous_test (is_single ids) (in_package c) constant (has_one v) (test_of ids (Anonymous p k m) constant v none) in
          each_variable a (Anonymous p k m) ids (outside test.0) (subst (λ b. AreIndicated known made b (Anonymous p k m) ids) test.1 are)
      objects_local a ids i constant v are none = each_plain a constant i ids are (λ d. integer_plain)

  -- ---- formals

  module _ (marks : AreMarksPlain) (h : Home) (same : h.known ≡ known) where
    -- one of an anonymous access type is traversed, so it is of mode `in`
    mode_of : (f : Bool) (r : Option ℕ) (traversed : Bool) (how : Mode) (of d : Code) → indication_faults known of ≡ [] → formal_faults s.context f r traversed how of d ≡ []
        → flow.is_anonymous (full table (indicated known (declared_number d) of)) ≡ true → how ≡ mode.In
    mode_of f r traversed how (Anonymous p k m) d none faults view =
        let late = nil_right (demand 3 (declared_pos d) (not f || is_in how)) _ faults in
        let through = holds 6 (declared_pos d) (not true || traversed) (nil_left _ _ late) in
        let last = holds 6 (declared_pos d) (not (traversed && indicates_type known (Anonymous p k m)) || is_traversable s.context r how (indicated known (declared_number d) (Anonymous p k m)))
        (nil_right (demand 6 (declared_pos d) (not true || traversed)) _ late) in
        let denotes : indicates_type known (Anonymous p k m) ≡ true = holds 1 m.pos (denotes_type known m.decl) (nil_left _ _ none) in
        in_mode how (both_first (is_in how) _ (reached_mode_of traversed (indicates_type known (Anonymous p k m)) _ through denotes last))
    mode_of f r traversed how (Plain m) d none faults view = absurd (true_false (flow.is_anonymous (full table (marked known m))) view (marks m))
    mode_of f r traversed how of d none faults view = absurd (true_false (flow.is_anonymous (full table integer)) view integer_plain)

    formal_known : (f : Bool) (r : Option ℕ) (traversed : Bool) (a : ℕ) (how : Mode) (of d : Code) (o : ObjectInfo) → entry_of known (declared_number d) ≡ entry.Object o
        → o.of ≡ indicated known (declared_number d) of → o.kind ≡ kind.Formal → indication_faults known of ≡ [] → formal_faults s.context f r traversed how of d ≡ []
        → IsLocalView table (object_of h a how d)
    formal_known f r traversed a how of d o is typed formal none faults anonymous = inl (
      ap flow.is_formal_kind (ap (λ (k : Known). entry_kind (entry_of k (declared_number d))) same ∙ ap entry_kind is ∙ ap kind_of formal),
      mode_of f r traversed how of d none faults
          (sym (ap (λ t. flow.is_anonymous (full table t)) (ap (λ (k : Known). object_type (entry_of k (declared_number d))) same ∙ ap object_type is ∙ typed)) ∙ anonymous),
    )

    each_formal : (f : Bool) (r : Option ℕ) (traversed : Bool) (a : ℕ) (how : Mode) (of ids : Code) → AreOf known of ids → indication_faults known of ≡ []
        → group_faults s.context f r traversed how of ids ≡ [] → AllByRecursion (IsLocalView table) (map (object_of h a how) (code_items ids))
    each_formal f r traversed a how of (More d rest) are none faults = (
      formal_known f r traversed a how of d are.0.0 are.0.1 are.0.2 are.0.3 none (nil_left (formal_faults s.context f r traversed how of d) _ faults),
      each_formal f r false a how of rest are.1 none (nil_right (formal_faults s.context f r traversed how of d) _ faults),
    )
    each_formal f r traversed a how of ids are none faults = tt

    group_local : (f : Bool) (r : Option ℕ) (traversed : Bool) (a : ℕ) (g : Code) → IsGroupTyped known g → formals_group s.context f r traversed g ≡ []
        → AllByRecursion (IsLocalView table) (formals_of h a g)
    group_local f r traversed a (Formals ids m of) are group =
        each_formal f r traversed a m of ids are (nil_left (indication_faults known of) _ group) (nil_right (indication_faults known of) _ group)
    group_local f r traversed a g are group = tt

    groups_local : (f : Bool) (r : Option ℕ) (traversed : Bool) (a : ℕ) (formals : Code) → AreGroupsTyped known formals → formals_faults s.context f r traversed formals ≡ []
        → AllByRecursion (IsLocalView table) (flat_map (formals_of h a) (code_items formals))
    groups_local f r traversed a (More group rest) are faults =
        all_both (IsLocalView table) (formals_of h a group) (flat_map (formals_of h a) (code_items rest))
        (group_local f r traversed a group are.0 (nil_left (formals_group s.context f r traversed group) _ faults))
        (groups_local f r false a rest are.1 (nil_right (formals_group s.context f r traversed group) _ faults))
    groups_local f r traversed a formals are faults = tt

    pub front_local : (a : ℕ) (front : Code) → IsFrontTyped known front → front_faults s.context front ≡ []
        → AllByRecursion (IsLocalView table) (flat_map (formals_of h a) (front_formals front))
    front_local a (Front d formals result) are faults =
        let q : Profile = profile_from known (declared_number d) formals result in
        groups_local (is_some q.result) q.result (is_traversal known q) a formals are
        (nil_left (formals_faults s.context (is_some q.result) q.result (is_traversal known q) formals) _ (nil_right (result_faults known result) _ faults))
    front_local a front are faults = tt

  -- ---- assignments

  stops : (t w : ℕ) → is_untyped table t ≡ false → reached table t Stops ≡ Goes w → ⊥
  stops t w typed e = by (is_untyped table t) typed e
    where
      by : (b : Bool) → b ≡ false → (if b then Goes untyped else Stops) ≡ Goes w → ⊥
      by true f g = absurd (true≢false f)
      by false f g = absurd (false≢true (ap is_goes g))

  gives : (t w : ℕ) (v : ℤ) → is_untyped table t ≡ false → reached table t (Gives v) ≡ Goes w → ⊥
  gives t w v typed e = by (is_untyped table t) typed e
    where
      by : (b : Bool) → b ≡ false → (if b then Goes untyped else Gives v) ≡ Goes w → ⊥
      by true f g = absurd (true≢false f)
      by false f g = absurd (false≢true (ap is_goes g))

  -- the index of an array
  index_part : (x t w : ℕ) (b : Bool) (index steps : TypedTree) (v : View) → is_untyped table t ≡ false
      → reached table (through v t) (indexed b (seen s.context (through v t))) ≡ Goes w
      → whole_object x (designating v (element (seen s.context (through v t)) index steps)) ≡ None
  index_part x t w b index steps (view.Access d k n) typed e = refl
  index_part x t w b index steps v typed e = by (seen s.context t) b e
    where
      by : (z : View) (b : Bool) → reached table t (indexed b z) ≡ Goes w → whole_object x (element z index steps) ≡ None
      by (view.Elements low high of) b f = refl
      by z true f = absurd (stops t w typed f)
      by z false f = absurd (stops t w typed f)

  attribute_part : (t w : ℕ) (a : Attribute) (v : View) → is_untyped table t ≡ false → reached table t (array_attribute a v) ≡ Goes w → ⊥
  attribute_part t w a (view.Elements low high of) typed e = by a e
    where
      by : (a : Attribute) → reached table t (array_value a low high) ≡ Goes w → ⊥
      by attribute.First f = gives t w low typed f
      by attribute.Last f = gives t w high typed f
      by attribute.Length f = gives t w (extent low high) typed f
      by a f = stops t w typed f
  attribute_part t w a v typed e = stops t w typed e

  -- A name of a part isn't one of a whole object.
  part_named : (t u : ℕ) (a rest : Tree) → made t → along s.context t (More a rest) ≡ reading.Place u → (x : ℕ) → whole_object x (typed_steps s t (More a rest)) ≡ None
  unfolding along step typed_steps typed_step
  part_named t u a rest m is x = by a (goes_on (λ z. along s.context z rest) rest u (step s.context a t) is)
    where
      typed_type : is_untyped table t ≡ false
      typed_type = laws.certain t m

      by : (a : Tree) → (w : ℕ) × (step s.context a t ≡ Goes w) → whole_object x (typed_step s t a (typed_steps s (next_type (step s.context a t)) rest)) ≡ None
      by (Selected word) goes = selected (seen s.context t) _ _
        where
          selected : (v : View) (n : ℕ) (steps : TypedTree) → whole_object x (designating v (typed.Component n steps)) ≡ None
          selected (view.Access d k n) i steps = refl
          selected v i steps = refl
      by All goes = refl
      by (Applied args) goes = index_part x t goes.0 (is_index args) (typed_first s integer args) _ (seen s.context t) typed_type goes.1
      by (Attr a) goes = absurd (attribute_part t goes.0 a (seen s.context t) typed_type goes.1)
      by e goes = absurd (false≢true (ap is_goes goes.1))

  whole_named : (p : Pos) (d t : ℕ) (rest : Tree) → reading_of s.context d rest ≡ reading.Place t
      → whole (typed_expression s integer (Named p d rest)) ≡ whole_object (object_number s d) (typed_steps s (object_type (entry_of known d)) rest)
  unfolding typed_expression
  whole_named p d t rest is =
      ap (λ r. whole (typed_name s p d r (typed_steps s (object_type (entry_of known d)) rest) (typed_actuals s (called_function r) rest) (typed_imaged s rest))) is

  read_along : (d : ℕ) (o : ObjectInfo) (rest : Tree) → entry_of known d ≡ entry.Object o → reading_of s.context d rest ≡ along s.context o.of rest
  unfolding reading_of
  read_along d o rest is = ap (λ e. of_entry s.context d e rest) is

  module _ (looped starts : Bool) where
    abbrev z : Context
    z = flagged looped starts s.context

    -- A target is the name of an object.
    target_read : (p : Pos) (d : ℕ) (rest : Tree) → target_faults z (Named p d rest) ≡ []
        → (o : ObjectInfo) × (t : ℕ) × (entry_of known d ≡ entry.Object o) × (reading_of s.context d rest ≡ reading.Place t)
    unfolding inside
    target_read p d rest none =
        let found = by (entry_of known d) (reading_of z d rest) none in
        (found.0, found.1, found.2, sym (reading_same looped starts s.context d rest) ∙ found.3)
      where
        by : (e : Entry) (r : Reading)
            → (if is_object_entry e then demand 2 p (is_variable e r) ++ (reading_faults z p d false (given_names (call_arguments rest)) r ++ behind z (way_of known d e) rest)
            else K2 p ++ behind z (way_of known d e) rest) ≡ []
            → (o : ObjectInfo) × (t : ℕ) × (e ≡ entry.Object o) × (r ≡ reading.Place t)
        by (entry.Object o) (reading.Place t) h = (o, t, refl, refl)
        by (entry.Object o) r h = absurd (false≢true (ap is_nil h))
        by e r h = absurd (false≢true (ap is_nil h))

    abbrev IsStored : Tree → Tree → Type 0
    IsStored target e = all_fit (has_source y) (typed_assign s target e) ≡ true

    object_stored : (p : Pos) (d t : ℕ) (o : ObjectInfo) (value : TypedTree) (e : Tree) → IsRootFormal d → Denotes s y d → entry_of known d ≡ entry.Object o → o.of ≡ t
        → ((want : ℕ) → source_faults z want e ≡ [] → IsNameOrCall value) → assigned z true (entry_of known d) e (reading.Place t) ≡ []
        → stores_name y (Some (object_number s d)) value || gives_view y value ≡ true
    object_stored p d t o value e root denotes is of source none = by (flow.is_anonymous (full table t)) refl
      where
        object_is : flow.is_anonymous (full table (object_at y (object_number s d)).of) ≡ flow.is_anonymous (full table t)
        object_is = ap (λ u. flow.is_anonymous (full table u)) (denotes.0 o is ∙ of)

        either : (a f b c : Bool) → b || c ≡ true → ((not a || f) || b) || c ≡ true
        either true true b c e = refl
        either true false b c e = e
        either false f b c e = refl

        Stored : Type 0
        Stored = stores_name y (Some (object_number s d)) value || gives_view y value ≡ true

        within : (f : Bool) → is_formal_kind o.kind ≡ f → (if f then formal_source z t e else source_faults z t e) ≡ [] → Stored
        within true formal h =
            passed (flow.is_anonymous (full table (object_at y (object_number s d)).of)) (flow.is_formal y (object_number s d)) (is_name_of is_any value) (gives_view y value) (root o is formal)
        within false other h =
            either (flow.is_anonymous (full table (object_at y (object_number s d)).of)) (flow.is_formal y (object_number s d)) (is_name_of is_any value) (gives_view y value) (source t h)

        known_formal : is_formal (entry_of known d) ≡ is_formal_kind o.kind
        known_formal = ap is_formal is

        unfolded : (a f : Bool) → is_anonymous (full table t) ≡ a → is_formal (entry_of known d) ≡ f → a ≡ true
            → (if not (true && a) then faults z stands.Stored t e else if f then formal_source z t e else source_faults z t e) ≡ []
            → (if f then formal_source z t e else source_faults z t e) ≡ []
        unfolded true f h g view k = k
        unfolded false f h g view k = absurd (false≢true view)

        by : (b : Bool) → flow.is_anonymous (full table t) ≡ b → Stored
        by false plain =
            named (flow.is_anonymous (full table (object_at y (object_number s d)).of)) (flow.is_formal y (object_number s d)) (is_name_of is_any value) (gives_view y value) (object_is ∙ plain)
        by true view =
            within (is_formal (entry_of known d)) (sym known_formal)
            (unfolded (is_anonymous (full table t)) (is_formal (entry_of known d)) refl refl (other_anonymous (full table t) view) none)

    pub assign_fit : (target e : Tree) → Uses IsRootFormal target → IsMeant s y target → IsMeant s y e → target_faults z target ≡ [] → assign_faults z target e ≡ [] → IsStored target e
    unfolding all_fit Uses IsMeant typed_steps along AreSuffixes
    assign_fit (Named p d rest) e uses meant value_meant none stored =
        let read = target_read p d rest none in
        let value : TypedTree = typed_expression s (type_read (reading_of s.context d rest)) e in
        subst (λ w. stores_name y w value || gives_view y value ≡ true) (sym (whole_named p d read.1 rest read.3))
        (by rest read.0 read.1 value meant.1 read.2 read.3 (subst (λ r. assigned z (is_end rest) (entry_of known d) e r ≡ []) (reading_same looped starts s.context d rest ∙ read.3) stored)
        (λ want h. source_fit looped starts want (type_read (reading_of s.context d rest)) e value_meant h))
      where
        by : (rest : Tree) (o : ObjectInfo) (t : ℕ) (value : TypedTree) → AreSuffixes s y rest → entry_of known d ≡ entry.Object o → reading_of s.context d rest ≡ reading.Place t
            → assigned z (is_end rest) (entry_of known d) e (reading.Place t) ≡ [] → ((want : ℕ) → source_faults z want e ≡ [] → IsNameOrCall value)
            → stores_name y (whole_object (object_number s d) (typed_steps s (object_type (entry_of known d)) rest)) value || gives_view y value ≡ true
        by NoMore o t value suffixes is place h source =
            object_stored p d t o value e uses.0 meant.0 is (one_place o.of t (sym (read_along d o NoMore is) ∙ place)) source h
        by (More a more) o t value suffixes is place h source =
            subst (λ w. stores_name y w value || gives_view y value ≡ true)
            (sym (ap (λ k. whole_object (object_number s d) (typed_steps s k (More a more))) (ap object_type is)
            ∙ part_named o.of t a more (laws.object d o is) (sym (read_along d o (More a more) is) ∙ place) (object_number s d)))
            refl
        by other o t value suffixes is place h source = absurd suffixes
    assign_fit target e uses meant value_meant none stored = absurd (false≢true (ap is_nil none))
