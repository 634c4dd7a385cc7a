-- Aggregates and allocators.
use Rattle.std.proofs.Common.{◌≡◌, refl, sym, ap, ◌∙◌, subst, ◌⊎◌, inl, inr, ℕ, suc, ◌+◌, ◌<◌, Bool, true, false, not, ◌&&◌, ◌||◌, List, [], ◌∷◌, ◌++◌, map, length, get_or, nat_eq, ℤ, Some, None, if◌then◌else◌, arith}
use Rattle.std.proofs.lemmas.Bool.{eqb-true, false≢true, true≢false}
use Rattle.machine.specs.spark_base.declared.position.Pos.{Pos}
use Rattle.machine.specs.resolved_tree.declared.node.Mark.{Mark}
use Rattle.machine.specs.resolved_tree.Trees.{Tree, Number, Text, Null, Named, Parens, Unary, Binary, Aggregate, Others, New, Argument, NoMore, position}
use Rattle.machine.specs.type_definitions.declared.table.Component.{Component}
use Rattle.machine.specs.type_definitions.declared.table.Shape.{Shape}
use Rattle.machine.specs.type_definitions.declared.table.Shape.TheVariants as shape
use Rattle.machine.specs.type_definitions.declared.judgement.View.{View}
use Rattle.machine.specs.type_definitions.declared.judgement.View.TheVariants as view
use Rattle.machine.specs.type_definitions.declared.judgement.Own.TheVariants as own
use Rattle.machine.specs.type_definitions.declared.judgement.Where.TheVariants as stands
use Rattle.machine.specs.type_definitions.declared.judgement.Role.TheVariants as role
use Rattle.machine.specs.type_definitions.Types.{is_owning, is_untyped, is_bounded, base, shape_of, fields, view_of, full, is_same, span}
use Rattle.machine.specs.type_definitions.Entries.{integer, boolean, denotes_type, marked, is_complete, same_word}
use Rattle.machine.specs.type_definitions.Faults.{demand}
use Rattle.machine.specs.type_definitions.Names.{seen, reading_of}
use Rattle.machine.specs.type_definitions.Expressions.{own_type, fits, suits, aggregates, parts_role, repeats, repeated_type, inside, around, arguments, allowed, is_of, is_access, unary_type, is_arithmetic, is_join, designated, given_names, element_type, fits_others, fits_aggregate, is_composite, mark_faults, all_by_position, is_demanding}
use Rattle.machine.specs.typed_tree.Trees.{TypedTree, typed_list}
use Rattle.machine.specs.typed_tree.Trees as typed
use Rattle.machine.specs.typed_tree.declared.object.Object.{Object}
use Rattle.machine.specs.typed_tree.Expressions.{Site, typed_expression, typed_values}
use Rattle.machine.specs.flow_paths.Objects.{Signature}
use Rattle.machine.specs.Typed.{tree_count, field_count, is_record, is_array}
use Rattle.soundness.specs.TypedLaws.Fine.{counts, lists, Has, HasParts, HasFirst, Laws, IsOptional}
use Rattle.soundness.proofs.TypedLaws.Agreeing.{of_known, nil_left, nil_right, holds, and_left, and_right, either_left, either_right, agree_owns, scalar_owns}
use Rattle.soundness.proofs.TypedLaws.Steps.{typing, seen_access, seen_elements}
use Rattle.soundness.proofs.TypedLaws.Named.{AreFine}
use Rattle.soundness.proofs.TypedLaws.Cases.{Typed, Good, placed, one_base, unary_made, is_access_view, allowed_when, mark_denotes, marked_is}
use Rattle.machine.specs.type_definitions.Expressions.{part, is_object, count_of, each_once, by_name, no_component, part_type as part_at}
use Rattle.machine.specs.Words.{component_type}
use Rattle.machine.specs.type_definitions.Types.{components_of}
use Rattle.machine.specs.typed_tree.Expressions.{named_value}
use Rattle.soundness.proofs.TypedLaws.Steps.{seen_full}
use Rattle.machine.specs.Evaluate.{part_type}
use Rattle.soundness.specs.TypedLaws.Fine.{IsMeant}

abbrev is_fields : View → Bool
is_fields view.Fields = true
is_fields v = false

is_elements : (w : View) → is_composite w ≡ true → fits_others w ≡ true → (low : ℤ) × (high : ℤ) × (el : ℕ) × (w ≡ view.Elements low high el)
is_elements (view.Elements low high el) e f = (low, high, el, refl)
is_elements view.Fields e f = absurd (false≢true f)
is_elements w e f = absurd (false≢true e)

not_hidden : (w : View) → is_composite w ≡ true → w ≡ view.Hidden → ⊥
not_hidden view.Fields e f = true≢false (ap is_composite f)
not_hidden (view.Elements low high el) e f = true≢false (ap is_composite f)
not_hidden w e f = false≢true e

composite : (z : Shape) → ((of : ℕ) → z ≡ shape.Same of → ⊥) → is_composite (view_of z) ≡ true → is_record z || is_array z ≡ true
composite (shape.Fields cs) plain e = refl
composite (shape.Elements low high el) plain e = refl
composite (shape.Same of) plain e = absurd (plain of refl)
composite z plain e = absurd (false≢true e)

module _ (s : Site) (objects : List Object) (subs : List Signature) (made : ℕ → Type 0) (laws : Laws s.context.known made) where
  abbrev Has_ : ℕ → TypedTree → Type 0
  Has_ t e = Typed s objects subs made laws t e

  abbrev Good_ : Tree → Type 0
  Good_ e = Good s objects subs made laws e

  -- ---- others

  based_owns : (t u : ℕ) → made t → made u
      → is_untyped s.context.known.table t || nat_eq (base s.context.known.table t) (base s.context.known.table u) ≡ true
      → counts (shape_of s.context.known.table t) || lists (shape_of s.context.known.table t) ≡ true → is_owning s.context.known.table u ≡ true → ⊥
  based_owns t u mt mu e scalar owns =
      let bases = nat_eq (base s.context.known.table t) (base s.context.known.table u) in
      let one = of_known (is_untyped s.context.known.table t) bases (laws.certain t mt) e in
      let agree = laws.same t u mt mu (eqb-true (base s.context.known.table t) (base s.context.known.table u) one) in
      let none = scalar_owns s.context.known.table t laws.owns scalar in
      let same = agree_owns s.context.known.table t u laws.owns agree in
      true≢false (sym owns ∙ sym same ∙ none)

  -- of what owns nothing stands after others but null
  others_null : (e : Tree) (t want : ℕ) → IsMeant s (typing s objects subs made laws) e → made t → fits s.context t e ≡ true → allowed s.context stands.AfterOthers e ≡ true
      → is_owning s.context.known.table t ≡ true → typed_expression s want e ≡ typed.Null
  unfolding typed_expression own_type IsMeant
  others_null (Null p) t want meant m fit free owns = refl
  others_null (Number p n) t want meant m fit free owns = absurd (based_owns integer t laws.integers m fit (either_left _ _ laws.whole) owns)
  others_null (Unary p op e) t want meant m fit free owns =
      let law = unary_made s objects subs made laws op in absurd (based_owns (unary_type op) t law.0 m fit law.1 owns)
  others_null (Binary p op a b) t want meant m fit free owns = absurd (by (is_join op) (is_arithmetic op) fit)
    where
      by : (j k : Bool) → is_of s.context.known t (if j then own.Text else if k then own.Of integer else own.Of boolean) ≡ true → ⊥
      by true k f = absurd (false≢true f)
      by false true f = based_owns integer t laws.integers m f (either_left _ _ laws.whole) owns
      by false false f = based_owns boolean t laws.booleans m f (either_right _ _ laws.listed) owns
  others_null (Named p d rest) t want meant m fit free owns = absurd (by (is_object (reading_of s.context d rest)) free)
    where
      by : (b : Bool) → (if b then false else false) ≡ true → ⊥
      by true f = absurd (false≢true f)
      by false f = absurd (false≢true f)
  others_null (Text p v) t want meant m fit free owns = absurd (false≢true fit)
  others_null (Parens p e) t want meant m fit free owns = absurd (false≢true free)
  others_null (Aggregate p args) t want meant m fit free owns = absurd (false≢true free)
  others_null (Others p e) t want meant m fit free owns = absurd (false≢true free)
  others_null (New p k v) t want meant m fit free owns = absurd (false≢true free)
  others_null e t want meant m fit free owns = absurd meant

  owned : (e : Tree) (b : Bool) (t want : ℕ) → is_owning s.context.known.table t ≡ b → IsMeant s (typing s objects subs made laws) e → made t → fits s.context t e ≡ true
      → not b || allowed s.context stands.AfterOthers e ≡ true → (is_owning s.context.known.table t ≡ false) ⊎ (typed_expression s want e ≡ typed.Null)
  owned e true t want is meant m fit rule = inr (others_null e t want meant m fit rule is)
  owned e false t want is meant m fit rule = inl is

  others_has : (p : Pos) (e : Tree) → IsMeant s (typing s objects subs made laws) e → Good_ e → (want : ℕ) → made want → fits s.context want (Others p e) ≡ true
      → inside s.context false want (Others p e) ≡ [] → Has_ want (typed_expression s want (Others p e))
  unfolding inside typed_expression Has
  others_has p e meant good want m fit none =
      let known = laws.certain want m in
      let rule = of_known (is_untyped s.context.known.table want) (fits_others (seen s.context want)) known
      (holds 4 p (repeats s.context want) (nil_left (demand 4 p (repeats s.context want)) _ none)) in
      let found = is_elements (seen s.context want) fit rule in
      let defined = seen_elements s.context want found.0 found.1 found.2 found.3 in
      let of : element_type (seen s.context want) ≡ found.2 = ap element_type found.3 in
      let part : repeated_type s.context want ≡ element_type (seen s.context want) =
      ap (λ b. if b then want else element_type (seen s.context want)) known in
      let more = subst (λ z. around s.context stands.AfterOthers z e ++ inside s.context false z e ≡ []) part
      (nil_right (demand 4 p (repeats s.context want)) _ none) in
      by (element_type (seen s.context want)) found.2 of found.0 found.1 defined more (laws.element want found.2 found.0 found.1 m defined)
    where
      by : (t u : ℕ) → t ≡ u → (low high : ℤ) → shape_of s.context.known.table want ≡ shape.Elements low high u
          → around s.context stands.AfterOthers t e ++ inside s.context false t e ≡ [] → made u → Has_ want (typed.Alike want (typed_expression s t e))
      by t u same low high defined none m =
          let mt : made t = subst made (sym same) m in
          let around_none = nil_left (around s.context stands.AfterOthers t e) _ none in
          let suit = holds 1 (position e) (suits s.context t e) (nil_left (demand 1 (position e) (suits s.context t e)) _ around_none) in
          let fit = of_known (is_untyped s.context.known.table t) (fits s.context t e) (laws.certain t mt) suit in
          let rule = holds 5 (position e) (not (is_owning s.context.known.table t) || allowed s.context stands.AfterOthers e)
          (nil_right (demand 1 (position e) (suits s.context t e)) _ around_none) in
          let has = placed s objects subs made laws e stands.AfterOthers t good mt around_none (nil_right (around s.context stands.AfterOthers t e) _ none) in (
            inl refl,
            low,
            high,
            t,
            subst (λ z. shape_of s.context.known.table want ≡ shape.Elements low high z) (sym same) defined,
            owned e (is_owning s.context.known.table t) t t refl meant mt fit rule,
            has,
          )

  -- ---- allocators

  first_has : (v : Tree) → IsOptional v → AreFine s objects subs made laws v → (t : ℕ) → made t → arguments s.context (role.Allocated t) 0 v ≡ []
      → HasFirst (typing s objects subs made laws) t (typed_list (typed_values s (role.Allocated t) 0 v))
  unfolding arguments typed_values HasFirst
  first_has NoMore one fine t m none = tt
  first_has (Argument w e NoMore) one fine t m none =
      let more = nil_right (around s.context stands.Stored t e) _ none in
      (refl, placed s objects subs made laws e stands.Stored t fine.0 m (nil_left (around s.context stands.Stored t e) _ none) (nil_left (inside s.context false t e) _ more))
  first_has e one fine t m none = absurd one

  new_has : (p : Pos) (k : Mark) (v : Tree) → IsOptional v → AreFine s objects subs made laws v → (want : ℕ) → made want → fits s.context want (New p k v) ≡ true
      → inside s.context false want (New p k v) ≡ [] → Has_ want (typed_expression s want (New p k v))
  unfolding inside typed_expression Has
  new_has p k v one fine want m fit none =
      let t = marked s.context.known k in
      let mark = nil_left (mark_faults s.context.known k) _ none in
      let denotes = and_left (denotes_type s.context.known k.decl) _ (holds 1 k.pos (denotes_type s.context.known k.decl && is_complete s.context.known t k.pos) (nil_left _ _ mark)) in
      let meant = mark_denotes s.context.known k.decl denotes in
      let mt : made t = subst made (sym (marked_is s.context.known k.decl meant.0 meant.1 meant.2)) (laws.typed meant.0 meant.2) in
      let found = is_access_view (seen s.context want) (and_left (is_access (seen s.context want)) _ fit) in
      let defined = seen_access s.context want found.0 found.1 found.2 found.3 in
      let one_type = allowed_when (denotes_type s.context.known k.decl) (is_same s.context.known.table t (designated (full s.context.known.table want)))
      (and_right (is_access (seen s.context want)) _ fit) denotes in
      let to : designated (full s.context.known.table want) ≡ found.0 = ap (λ z. designated (view_of z)) defined in
      let md = laws.target want found.0 found.1 found.2 m defined in
      let bases = one_base s objects subs made laws t (designated (full s.context.known.table want)) mt (subst made (sym to) md) one_type in
      let same : base s.context.known.table found.0 ≡ base s.context.known.table t = ap (base s.context.known.table) (sym to) ∙ sym bases in
      (found.0, found.1, found.2, defined, laws.same found.0 t md mt same, first_has v one fine t mt (nil_right (mark_faults s.context.known k) _ none))

  -- ---- components and elements

  -- The types that an aggregate demands of its parts, by position.
  abbrev ArePlaced : ℕ → Type 0
  ArePlaced want = (j : ℕ) → (part s.context want j None ≡ part_type (shape_of s.context.known.table want) j) × made (part s.context want j None)

  parts_has : (args : Tree) (i want : ℕ) → AreFine s objects subs made laws args → all_by_position (given_names args) ≡ true → ArePlaced want
      → arguments s.context (role.Parts want) i args ≡ [] → HasParts (typing s objects subs made laws) want i (typed_list (typed_values s (role.Parts want) i args))
  unfolding arguments typed_values HasParts
  parts_has (Argument None e rest) i want fine by are none =
      let t = part s.context want i None in
      let more = nil_right (around s.context stands.Stored t e) _ none in
      let one = placed s objects subs made laws e stands.Stored t fine.0 (are i).1 (nil_left (around s.context stands.Stored t e) _ none) (nil_left (inside s.context false t e) _ more) in
      let next : i + 1 ≡ suc i = omega arith in (
        subst (λ z. Has_ z (typed_expression s t e)) (are i).0 one,
        subst (λ z. HasParts (typing s objects subs made laws) want z (typed_list (typed_values s (role.Parts want) (i + 1) rest))) next
            (parts_has rest (i + 1) want fine.1 by are (nil_right (inside s.context false t e) _ more)),
      )
  parts_has (Argument (Some w) e rest) i want fine by are none = absurd (false≢true by)
  parts_has args i want fine by are none = tt

  -- The value that is given by a name.
  value_has : (args : Tree) (i want t : ℕ) (w : List ℕ) → AreFine s objects subs made laws args → made t
      → ((j : ℕ) (v : List ℕ) → same_word w v ≡ true → part s.context want j (Some v) ≡ t) → (count_of w (given_names args) ≡ 0 → ⊥)
      → arguments s.context (role.Parts want) i args ≡ [] → Has_ t (named_value w (given_names args) (typed_values s (role.Parts want) i args))
  unfolding arguments typed_values
  value_has (Argument None e rest) i want t w fine m are there none =
      let u = part s.context want i None in
      let more = nil_right (around s.context stands.Stored u e) _ none in
      value_has rest (i + 1) want t w fine.1 m are there (nil_right (inside s.context false u e) _ more)
  value_has (Argument (Some v) e rest) i want t w fine m are there none =
      let u = part s.context want i (Some v) in
      let more = nil_right (around s.context stands.Stored u e) _ none in
      by (same_word w v) refl (nil_left (around s.context stands.Stored u e) _ none) (nil_left (inside s.context false u e) _ more)
      (λ gone. value_has rest (i + 1) want t w fine.1 m are gone (nil_right (inside s.context false u e) _ more))
    where
      by : (b : Bool) → same_word w v ≡ b → around s.context stands.Stored (part s.context want i (Some v)) e ≡ [] → inside s.context false (part s.context want i (Some v)) e ≡ []
          → ((count_of w (given_names rest) ≡ 0 → ⊥) → Has_ t (named_value w (given_names rest) (typed_values s (role.Parts want) (i + 1) rest)))
          → Has_ t (if same_word w v then typed_expression s (part s.context want i (Some v)) e else named_value w (given_names rest) (typed_values s (role.Parts want) (i + 1) rest))
      by true is here inner on =
          let same = are i v is in
          rw is (subst (λ z. Has_ z (typed_expression s (part s.context want i (Some v)) e)) same
          (placed s objects subs made laws e stands.Stored (part s.context want i (Some v)) fine.0 (subst made (sym same) m) here inner))
      by false is here inner on = rw is (on (λ zero. there (rw is zero)))
  value_has args i want t w fine m are there none = absurd (there refl)

  list_count : (vs : List TypedTree) → tree_count (typed_list vs) ≡ length vs
  list_count [] = refl
  list_count (v ∷ vs) = ap suc (list_count vs)

  values_count : (args : Tree) (i want : ℕ) → length (typed_values s (role.Parts want) i args) ≡ length (given_names args)
  unfolding typed_values
  values_count (Argument w e rest) i want = ap suc (values_count rest (i + 1) want)
  values_count args i want = refl

  map_count : {A B : Type 0} (f : A → B) (xs : List A) → length (map f xs) ≡ length xs
  map_count f [] = refl
  map_count f (x ∷ xs) = ap suc (map_count f xs)

  fields_count : (z : Shape) → view_of z ≡ view.Fields → field_count z ≡ length (components_of z)
  fields_count (shape.Fields cs) e = refl
  fields_count (shape.Same t) e = refl
  fields_count z e = absurd (false≢true (ap is_fields e))

  field_part : (z : Shape) (j : ℕ) → view_of z ≡ view.Fields → (get_or (components_of z) j no_component).of ≡ part_type z j
  field_part (shape.Fields cs) j e = refl
  field_part (shape.Same t) j e = refl
  field_part z j e = absurd (false≢true (ap is_fields e))

  field_placed : (want : ℕ) → made want → seen s.context want ≡ view.Fields → ArePlaced want
  field_placed want m is j =
      let at : part s.context want j None ≡ component_type s.context.known.table want j = ap (λ z. part_at z (fields s.context.known.table want) j None) is in (
        at ∙ field_part (shape_of s.context.known.table want) j (seen_full s.context want view.Fields is (λ e. true≢false (ap is_fields e))),
        subst made (sym at) (laws.component want j m),
      )

  element_placed : (want el : ℕ) (low high : ℤ) → made want → seen s.context want ≡ view.Elements low high el → ArePlaced want
  element_placed want el low high m is j =
      let at : part s.context want j None ≡ el = ap (λ z. part_at z (fields s.context.known.table want) j None) is in
      let defined = seen_elements s.context want low high el is in
      let same : part_type (shape_of s.context.known.table want) j ≡ el = ap (λ z. part_type z j) defined in
      (at ∙ sym same, subst made (sym at) (laws.element want el low high m defined))

  not_zero : (n : ℕ) → nat_eq n 1 ≡ true → n ≡ 0 → ⊥
  not_zero n e f = let g = eqb-true n 1 e in omega (arith, g, f)

  -- Components by name, in the order in which they are declared.
  names_have : (args : Tree) (want k : ℕ) (cs : List Component) → AreFine s objects subs made laws args → made want
      → each_once (map (λ (c : Component). c.name) cs) (given_names args) ≡ true
      → ((j i : ℕ) (v : List ℕ) → j < length cs → same_word (get_or cs j no_component).name v ≡ true
      → (part s.context want i (Some v) ≡ part_type (shape_of s.context.known.table want) (k + j)) × made (part_type (shape_of s.context.known.table want) (k + j)))
      → ((j : ℕ) → j < length cs → made (part_type (shape_of s.context.known.table want) (k + j)))
      → arguments s.context (role.Parts want) 0 args ≡ []
      → HasParts (typing s objects subs made laws) want k
      (typed_list (map (λ w. named_value w (given_names args) (typed_values s (role.Parts want) 0 args)) (map (λ (c : Component). c.name) cs)))
  unfolding HasParts
  names_have args want k [] fine m once are types none = tt
  names_have args want k (c ∷ cs) fine m once are types none =
      let zero : k + 0 ≡ k = omega arith in
      let here : (j : ℕ) (v : List ℕ) → same_word c.name v ≡ true → part s.context want j (Some v) ≡ part_type (shape_of s.context.known.table want) k =
      λ j v is. subst (λ z. part s.context want j (Some v) ≡ part_type (shape_of s.context.known.table want) z) zero (are 0 j v (omega arith) is).0 in
      let of : made (part_type (shape_of s.context.known.table want) k) = subst (λ z. made (part_type (shape_of s.context.known.table want) z)) zero (types 0 (omega arith)) in (
        value_has args 0 want (part_type (shape_of s.context.known.table want) k) c.name fine of here
            (not_zero (count_of c.name (given_names args)) (and_left _ _ once)) none,
        names_have args want (suc k) cs fine m (and_right (nat_eq (count_of c.name (given_names args)) 1) _ once)
            (λ j i v less is. (
            let next : k + suc j ≡ suc k + j = omega arith in
            let found = are (suc j) i v (omega (arith, less)) is in (
              subst (λ z. part s.context want i (Some v) ≡ part_type (shape_of s.context.known.table want) z) next found.0,
              subst (λ z. made (part_type (shape_of s.context.known.table want) z)) next found.1,
            )))
            (λ j less. (
            let next : k + suc j ≡ suc k + j = omega arith in
            subst (λ z. made (part_type (shape_of s.context.known.table want) z)) next (types (suc j) (omega (arith, less))))) none,
      )

  -- ---- aggregates

  abbrev IsWhole : ℕ → TypedTree → Type 0
  IsWhole want es = (tree_count es ≡ field_count (shape_of s.context.known.table want)) × HasParts (typing s objects subs made laws) want 0 es

  abbrev ordered : ℕ → Tree → Bool → TypedTree
  ordered want args b = typed_list (if b then typed_values s (role.Parts want) 0 args
      else map (λ w. named_value w (given_names args) (typed_values s (role.Parts want) 0 args)) (map (λ (k : Component). k.name) (fields s.context.known.table want)))

  record_whole : (args : Tree) (want : ℕ) → AreFine s objects subs made laws args → made want → seen s.context want ≡ view.Fields → (b : Bool) → all_by_position (given_names args) ≡ b
      → length (given_names args) ≡ length (map (λ (c : Component). c.name) (fields s.context.known.table want))
      → b || each_once (map (λ (c : Component). c.name) (fields s.context.known.table want)) (given_names args) ≡ true
      → arguments s.context (role.Parts want) 0 args ≡ [] → IsWhole want (ordered want args b)
  record_whole args want fine m is true by count once none = (
    list_count (typed_values s (role.Parts want) 0 args) ∙ values_count args 0 want ∙ count ∙ map_count (λ (c : Component). c.name) (fields s.context.known.table want)
        ∙ sym (fields_count (shape_of s.context.known.table want) (seen_full s.context want view.Fields is (λ e. true≢false (ap is_fields e)))),
    parts_has args 0 want fine by (field_placed want m is) none,
  )
  record_whole args want fine m is false by count once none =
      let cs = fields s.context.known.table want in
      let full_is = seen_full s.context want view.Fields is (λ e. true≢false (ap is_fields e)) in (
        list_count (map (λ w. named_value w (given_names args) (typed_values s (role.Parts want) 0 args)) (map (λ (k : Component). k.name) cs))
            ∙ map_count (λ w. named_value w (given_names args) (typed_values s (role.Parts want) 0 args)) (map (λ (k : Component). k.name) cs)
            ∙ map_count (λ (c : Component). c.name) cs ∙ sym (fields_count (shape_of s.context.known.table want) full_is),
        names_have args want 0 cs fine m once
            (λ j i v less word. (
            let zero : j ≡ 0 + j = omega arith in
            let found = laws.names want j v less word in
            let at : part s.context want i (Some v) ≡ (by_name (λ (c : Component). c.name) no_component v cs).of = ap (λ z. part_at z cs i (Some v)) is in
            let typing_is : part s.context want i (Some v) ≡ part_type (shape_of s.context.known.table want) j =
            at ∙ ap (λ (z : Component). z.of) found ∙ field_part (shape_of s.context.known.table want) j full_is in (
              subst (λ z. part s.context want i (Some v) ≡ part_type (shape_of s.context.known.table want) z) zero typing_is,
              subst (λ z. made (part_type (shape_of s.context.known.table want) z)) zero
                  (subst made (field_part (shape_of s.context.known.table want) j full_is) (laws.component want j m)),
            )))
            (λ j less. (
            let zero : j ≡ 0 + j = omega arith in
            subst (λ z. made (part_type (shape_of s.context.known.table want) z)) zero
            (subst made (field_part (shape_of s.context.known.table want) j full_is) (laws.component want j m)))) none,
      )

  array_whole : (args : Tree) (want el : ℕ) (low high : ℤ) → AreFine s objects subs made laws args → made want → seen s.context want ≡ view.Elements low high el
      → all_by_position (given_names args) ≡ true → length (given_names args) ≡ span low high
      → arguments s.context (role.Parts want) 0 args ≡ [] → IsWhole want (ordered want args true)
  array_whole args want el low high fine m is by count none =
      let defined = seen_elements s.context want low high el is in (
        list_count (typed_values s (role.Parts want) 0 args) ∙ values_count args 0 want ∙ count ∙ sym (ap field_count defined),
        parts_has args 0 want fine by (element_placed want el low high m is) none,
      )

  whole : (args : Tree) (want : ℕ) (w : View) (b : Bool) → b ≡ true → AreFine s objects subs made laws args → made want → seen s.context want ≡ w → is_composite w ≡ true
      → fits_aggregate b w (fields s.context.known.table want) (given_names args) ≡ true → arguments s.context (role.Parts want) 0 args ≡ []
      → IsWhole want (ordered want args (all_by_position (given_names args)))
  whole args want view.Fields b known fine m is composite fit none =
      let names = map (λ (c : Component). c.name) (fields s.context.known.table want) in
      record_whole args want fine m is (all_by_position (given_names args)) refl
      (eqb-true (length (given_names args)) (length names) (and_left (nat_eq (length (given_names args)) (length names)) _ fit))
      (and_right (nat_eq (length (given_names args)) (length names)) _ fit) none
  whole args want (view.Elements low high el) b known fine m is composite fit none =
      let by = and_left (all_by_position (given_names args)) _ fit in
      subst (λ z. IsWhole want (ordered want args z)) (sym by)
      (array_whole args want el low high fine m is by
      (eqb-true (length (given_names args)) (span low high)
      (allowed_when b (nat_eq (length (given_names args)) (span low high)) (and_right (all_by_position (given_names args)) _ fit) known)) none)
  whole args want w b known fine m is composite fit none = absurd (false≢true composite)

  aggregate_has : (p : Pos) (args : Tree) → AreFine s objects subs made laws args → (want : ℕ) → made want → fits s.context want (Aggregate p args) ≡ true
      → inside s.context false want (Aggregate p args) ≡ [] → Has_ want (typed_expression s want (Aggregate p args))
  unfolding inside typed_expression Has
  aggregate_has p args fine want m fit none =
      let bounded = is_bounded s.context.known.table want in
      let known = laws.certain want m in
      let rule = of_known (is_untyped s.context.known.table want)
      (fits_aggregate bounded (seen s.context want) (fields s.context.known.table want) (given_names args)) known
      (holds 4 p (aggregates s.context want (given_names args)) (nil_left _ _ none)) in
      let parts : parts_role s.context want ≡ role.Parts want = ap (λ b. if b then role.Every want else role.Parts want) known in
      let found = whole args want (seen s.context want) bounded (laws.bounded want m) fine m refl fit rule
      (subst (λ z. arguments s.context z 0 args ≡ []) parts (nil_right (demand 4 p (aggregates s.context want (given_names args))) _ none)) in (
        inl refl,
        found.0,
        found.1,
        composite (shape_of s.context.known.table want) (laws.plain want)
            (subst (λ z. is_composite z ≡ true) (sym (seen_full s.context want (seen s.context want) refl (not_hidden (seen s.context want) fit))) fit),
      )

  -- ---- these have the types of their places alone

  demanding : (e : Tree) → own_type s.context e ≡ own.Demanding
      → ((want : ℕ) → made want → fits s.context want e ≡ true → inside s.context false want e ≡ [] → Has_ want (typed_expression s want e)) → Good_ e
  demanding e is has = record {
    by_place = λ want m fit none plain. has want m fit none;
    by_own = λ want t at none. absurd (true≢false (ap is_demanding (sym is ∙ at)));
    by_known = λ want at none. true≢false (ap is_demanding (sym is ∙ at));
  }

  pub others_good : (p : Pos) (e : Tree) → IsMeant s (typing s objects subs made laws) e → Good_ e → Good_ (Others p e)
  unfolding own_type
  others_good p e meant good = demanding (Others p e) refl (others_has p e meant good)

  pub new_good : (p : Pos) (k : Mark) (v : Tree) → IsOptional v → AreFine s objects subs made laws v → Good_ (New p k v)
  unfolding own_type
  new_good p k v one fine = demanding (New p k v) refl (new_has p k v one fine)

  pub aggregate_good : (p : Pos) (args : Tree) → AreFine s objects subs made laws args → Good_ (Aggregate p args)
  unfolding own_type
  aggregate_good p args fine = demanding (Aggregate p args) refl (aggregate_has p args fine)
