-- Actuals: each is a value for its formal, or a place of its type.
use Rattle.std.proofs.Common.{◌≡◌, ◌⊎◌, refl, sym, ap, ◌∙◌, subst, inl, inr, ℕ, zero, suc, ◌+◌, ◌<◌, Bool, true, false, not, ◌||◌, List, [], ◌∷◌, ◌++◌, map, length, get_or, nat_eq, Some, None, if◌then◌else◌, arith}
use Rattle.std.specs.Prelude.{is_some}
use Rattle.std.proofs.lemmas.Bool.{eqb-true, false≢true, true≢false}
use Rattle.machine.specs.spark_base.declared.position.Pos.{Pos}
use Rattle.machine.specs.place_names.declared.act.Mode.{Mode}
use Rattle.machine.specs.place_names.declared.act.Mode.TheVariants as mode
use Rattle.machine.specs.resolved_tree.Trees.{Tree, Named, Argument, position}
use Rattle.machine.specs.type_definitions.declared.table.FormalInfo.{FormalInfo}
use Rattle.machine.specs.type_definitions.declared.table.Shape.TheVariants as shape
use Rattle.machine.specs.type_definitions.declared.judgement.Fault.{Fault}
use Rattle.machine.specs.type_definitions.declared.judgement.Own.TheVariants as own
use Rattle.machine.specs.type_definitions.declared.judgement.Reading.{Reading}
use Rattle.machine.specs.type_definitions.declared.judgement.Reading.TheVariants as reading
use Rattle.machine.specs.type_definitions.declared.judgement.Where.TheVariants as stands
use Rattle.machine.specs.type_definitions.declared.judgement.Role.TheVariants as role
use Rattle.machine.specs.type_definitions.Types.{Table, base, full, is_untyped, shape_of}
use Rattle.machine.specs.type_definitions.Entries.{entry_of, same_word}
use Rattle.machine.specs.type_definitions.Faults.{demand}
use Rattle.machine.specs.type_definitions.Names.{Context, reading_of}
use Rattle.machine.specs.type_definitions.Names.{seen}
use Rattle.machine.specs.type_definitions.Expressions.{own_of, around, inside, reading_faults, call_arguments, around_variable, around_formal, around_traversed, traversed_anonymous, traversed_name, traversed_value, traverses, is_of, is_variable, is_in, suits, allowed, is_access, is_anonymous, is_object_name, designated, arguments, formal, no_formal, formal_names, profile_of, associates, all_by_position, each_once, count_of, given_names}
use Rattle.machine.specs.typed_tree.Trees.{TypedTree, Name, typed_list}
use Rattle.machine.specs.typed_tree.Trees as typed
use Rattle.machine.specs.typed_tree.declared.object.Object.{Object}
use Rattle.machine.specs.typed_tree.Expressions.{Site, sub_number, typed_expression, typed_values, named_value, arguments_given}
use Rattle.machine.specs.flow_paths.Objects.{Typing, Signature, object_at, sub_at}
use Rattle.machine.specs.flow_paths.Objects as flow
use Rattle.machine.specs.type_definitions.Types.{is_owning}
use Rattle.soundness.specs.TypedLaws.Fine.{Agree, Has, Laws, IsMeant, AreArguments}
use Rattle.soundness.proofs.TypedLaws.Agreeing.{of_known, holds, nil_left, nil_right, and_left, and_right, agree_trans, agree_access, agree_owns, retyped, is_free}
use Rattle.soundness.proofs.TypedLaws.Assigns as assigns
use Rattle.soundness.proofs.TypedLaws.Main.{has_type}
use Rattle.machine.specs.type_definitions.declared.table.Shape.{Shape}
use Rattle.machine.specs.typed_tree.Trees.{NoMore}
use Rattle.machine.specs.type_definitions.Types.{is_same, view_of}
use Rattle.machine.specs.type_definitions.Faults.{K6}
use Rattle.machine.specs.type_definitions.declared.judgement.Own.{Own}
use Rattle.machine.specs.type_definitions.Expressions.{own_owning, reading_access, traversed_fits, behind, way_of, is_object}
use Rattle.machine.specs.Typed.{same_kind}
use Rattle.soundness.proofs.TypedLaws.Steps.{seen_access}
use Rattle.soundness.proofs.TypedLaws.Named.{named_has}
use Rattle.soundness.proofs.TypedLaws.Cases.{is_access_view, one_base}
use Rattle.soundness.proofs.TypedLaws.Main.{fine_suffixes}
use Rattle.soundness.proofs.TypedLaws.TypedPoints.Sources.{anonymous_shape}
use Rattle.soundness.specs.TypedLaws.TypedSteps.Steps.{IsViewed, Views}
use Rattle.soundness.specs.TypedLaws.TypedSteps.Steps.{Taken, IsPlaceOf, IsActual, ActualsTaken, IsCall}
use Rattle.sound_files.specs.TypedFiles.TypedRuns.Code.{IsName, IsNamedOwner, NamesOwner, NamesOwners, NamesFirst, ArePassed}
use Rattle.sound_files.specs.TypedFiles.TypedRuns.Formals.{AreSameViews, IsFormal, AreFormals, formals_of, IsProfiled}
use Rattle.sound_files.proofs.TypedFiles.TypedRuns.Owners.{anonymous_apart, owner_named, object_named}

refused : (p : Pos) (b : Bool) → demand 1 p b ++ demand 2 p false ≡ [] → ⊥
refused p true e = false≢true (ap is_free e)
refused p false e = false≢true (ap is_free e)

other_refused : (a b : List Fault) (p : Pos) → (a ++ demand 2 p false) ++ b ≡ [] → ⊥
other_refused a b p e = let f = nil_right a (demand 2 p false) (nil_left (a ++ demand 2 p false) b e) in false≢true (ap is_free f)

two_refused : (a : List Fault) (p : Pos) → a ++ demand 2 p false ≡ [] → ⊥
two_refused a p e = let f = nil_right a (demand 2 p false) e in false≢true (ap is_free f)

not_zero : (n : ℕ) → nat_eq n 1 ≡ true → n ≡ 0 → ⊥
not_zero n e f = let g = eqb-true n 1 e in omega (arith, g, f)

map_count : {A B : Type 0} (f : A → B) (xs : List A) → length (map f xs) ≡ length xs
map_count f [] = refl
map_count f (x ∷ xs) = ap suc (map_count f xs)

pub agree_back : (table : Table) (t u : ℕ) → Agree table t u → Agree table u t
agree_back table t u (inl e) = inl (sym e)
agree_back table t u (inr e) = inr (kind_back (shape_of table t) (shape_of table u) e)
  where
    kind_back : (a b : Shape) → same_kind a b ≡ true → same_kind b a ≡ true
    kind_back (shape.Whole u v) (shape.Whole w x) e = refl
    kind_back (shape.Listed k u v) (shape.Listed l w x) e = refl
    kind_back (shape.Whole u v) b e = absurd (false≢true e)
    kind_back (shape.Listed k u v) b e = absurd (false≢true e)
    kind_back a b e = absurd (false≢true e)

abbrev is_nought : ℕ → Bool
is_nought zero = true
is_nought (suc n) = false

module _ (s : Site) (objects : List Object) (subs : List Signature) (made : ℕ → Type 0) (laws : Laws s.context.known made) where
  abbrev y : Typing
  y = record { table = s.context.known.table; objects = objects; subs = subs }

  abbrev table : Table
  table = s.context.known.table

  abbrev c : Context
  c = s.context

  pub place : (e : TypedTree) (t : ℕ) → assigns.IsPlace y e t → IsPlaceOf y t e
  place (Name p x steps u) t h = h
  place e t h = absurd h

  -- A variable that is demanded.
  pub variable_placed : (e : Tree) (t : ℕ) → IsMeant s y e → made t → around_variable c t e ++ inside c false t e ≡ []
      → (u : ℕ) × IsPlaceOf y u (typed_expression s t e) × Agree table t u
  unfolding inside
  variable_placed (Named p d rest) t meant m none = by (reading_of c d rest) refl (nil_left _ (inside c false t (Named p d rest)) none)
      (nil_right (around_variable c t (Named p d rest)) (inside c false t (Named p d rest)) none)
    where
      by : (r : Reading) → reading_of c d rest ≡ r
          → demand 1 p (is_of c.known t (own_of c.known r)) ++ demand 2 p (is_variable (entry_of c.known d) r) ≡ [] → inside c false t (Named p d rest) ≡ []
          → (u : ℕ) × IsPlaceOf y u (typed_expression s t (Named p d rest)) × Agree table t u
      by (reading.Place u) is around within =
          let found = assigns.named_placed s objects subs made laws p d u t rest meant within is in
          let of = holds 1 p (is_of c.known t (own.Of u)) (nil_left (demand 1 p (is_of c.known t (own.Of u))) _ around) in
          let one = eqb-true (base table u) (base table t) (of_known (is_untyped table u) (nat_eq (base table u) (base table t)) (laws.certain u found.0) of) in
          (u, place (typed_expression s t (Named p d rest)) u found.1, laws.same t u m found.0 (sym one))
      by reading.Off is around within = (
          let f = nil_left (reading_faults c p d false (given_names (call_arguments rest)) (reading_of c d rest)) _ within in
          let g : reading_faults c p d false (given_names (call_arguments rest)) reading.Off ≡ [] = rw is at f in absurd (false≢true (ap is_free g)))
      by (reading.Value u v) is around within = absurd (refused p (is_of c.known t (own.Of u)) around)
      by (reading.Call f) is around within = absurd (refused p (is_of c.known t (own_of c.known (reading.Call f))) around)
      by (reading.Image u) is around within = absurd (refused p false around)
      by reading.EndOfFile is around within = absurd (refused p (is_of c.known t (own_of c.known reading.EndOfFile)) around)
  variable_placed e t meant m none = absurd (other_refused (around c stands.Actual t e) (inside c false t e) (position e) none)

  off_read : (p : Pos) (d want : ℕ) (rest : Tree) → reading_of c d rest ≡ reading.Off → inside c true want (Named p d rest) ≡ [] → ⊥
  unfolding inside
  off_read p d want rest is within =
      let f = nil_left (reading_faults c p d true (given_names (call_arguments rest)) (reading_of c d rest)) _ within in
      let g : reading_faults c p d true (given_names (call_arguments rest)) reading.Off ≡ [] = rw is at f in false≢true (ap is_free g)

  pub tight : (e : Tree) (want : ℕ) → is_object_name c e ≡ true → inside c true want e ≡ [] → inside c false want e ≡ []
  unfolding inside
  tight (Named p d rest) want is within = by (reading_of c d rest) is within
    where
      more : List Fault
      more = behind c (way_of c.known d (entry_of c.known d)) rest

      by : (r : Reading) → is_object r ≡ true → reading_faults c p d true (given_names (call_arguments rest)) r ++ more ≡ []
          → reading_faults c p d false (given_names (call_arguments rest)) r ++ more ≡ []
      by (reading.Place t) o h = h
      by r o h = absurd (false≢true o)
  tight e want is within = absurd (false≢true is)

  variable_object : (e : Tree) (t : ℕ) → around_variable c t e ≡ [] → inside c true t e ≡ [] → is_object_name c e ≡ true
  variable_object (Named p d rest) t demands within = by (reading_of c d rest) refl demands
    where
      by : (r : Reading) → reading_of c d rest ≡ r
          → demand 1 p (is_of c.known t (own_of c.known r)) ++ demand 2 p (is_variable (entry_of c.known d) r) ≡ [] → is_object r ≡ true
      by (reading.Place u) is h = refl
      by reading.Off is h = absurd (off_read p d t rest is within)
      by (reading.Value u v) is h = absurd (refused p (is_of c.known t (own.Of u)) h)
      by (reading.Call f) is h = absurd (refused p (is_of c.known t (own_of c.known (reading.Call f))) h)
      by (reading.Image u) is h = absurd (refused p false h)
      by reading.EndOfFile is h = absurd (refused p (is_of c.known t (own_of c.known reading.EndOfFile)) h)
  variable_object e t demands within = absurd (two_refused (around c stands.Actual t e) (position e) demands)

  -- A variable is no call.
  variable_at : (e : Tree) (t : ℕ) (loose : Bool) → IsMeant s y e → made t → around_variable c t e ≡ [] → inside c loose t e ≡ []
      → (u : ℕ) × IsPlaceOf y u (typed_expression s t e) × Agree table t u
  variable_at e t true meant m demands within =
      variable_placed e t meant m (ap (λ xs. xs ++ inside c false t e) demands ∙ tight e t (variable_object e t demands within) within)
  variable_at e t false meant m demands within = variable_placed e t meant m (ap (λ xs. xs ++ inside c false t e) demands ∙ within)

  known_faults : (b : Bool) (xs : List Fault) → b ≡ false → (if b then [] else xs) ≡ [] → xs ≡ []
  known_faults false xs e h = h
  known_faults true xs e h = absurd (true≢false e)

  -- ---- what a traversal goes through

  -- A name of an object that designates what its formal does.
  traversed_place : (p : Pos) (d t want to : ℕ) (constant named : Bool) (rest : Tree) → IsMeant s y (Named p d rest) → made want
      → shape_of table want ≡ shape.Access to constant named → reading_of c d rest ≡ reading.Place t
      → (if is_untyped table t then [] else demand 1 p (is_access (seen c t)) ++ demand 6 p (traverses c want t)) ≡ []
      → inside c true want (Named p d rest) ≡ [] → IsViewed y want (typed_expression s want (Named p d rest))
  unfolding inside typed_expression IsMeant Has
  traversed_place p d t want to constant named rest meant m defined is around within =
      let back = nil_right (reading_faults c p d true (given_names (call_arguments rest)) (reading_of c d rest)) _ within in
      let has = named_has s objects subs made laws p d t rest (reading.Place t) NoMore NoMore meant.0 (fine_suffixes s objects subs made laws rest meant.1) is refl back in
      let plain : demand 1 p (is_access (seen c t)) ++ demand 6 p (traverses c want t) ≡ [] = known_faults (is_untyped table t) (demand 1 p (is_access (seen c t)) ++ demand 6 p (traverses c want t)) (laws.certain t has.0) around in
      let found = is_access_view (seen c t) (holds 1 p (is_access (seen c t)) (nil_left _ (demand 6 p (traverses c want t)) plain)) in
      let defined_as = seen_access c t found.0 found.1 found.2 found.3 in
      let same = and_left (is_same table (designated (full table t)) (designated (full table want))) _ (holds 6 p (traverses c want t) (nil_right (demand 1 p (is_access (seen c t))) _ plain)) in
      let left : designated (full table t) ≡ found.0 = ap (λ z. designated (view_of z)) defined_as in
      let right : designated (full table want) ≡ to = ap (λ z. designated (view_of z)) defined in
      let from_made = laws.target t found.0 found.1 found.2 has.0 defined_as in
      let to_made = laws.target want to constant named m defined in
      let bases = one_base s objects subs made laws (designated (full table t)) (designated (full table want)) (subst made (sym left) from_made) (subst made (sym right) to_made) same in
      let one : base table found.0 ≡ base table to = ap (base table) (sym left) ∙ bases ∙ ap (base table) right in
      rw is (has.1.0, (found.0, to, found.1, found.2, constant, named, defined_as, defined, laws.same found.0 to from_made to_made one))

  no_name : (p : Pos) (o : Own) → traversed_value c p o ≡ [] → ⊥
  no_name p o e =
      let f = nil_right (demand 5 p (not (own_owning c.known o))) (K6 p) (nil_right (demand 1 p (reading_access c o)) _ e) in
      false≢true (ap is_free f)

  -- where the formal is of an anonymous access type
  anonymous_viewed : (e : Tree) (want : ℕ) → IsMeant s y e → made want → is_anonymous (full table want) ≡ true → traversed_anonymous c want e ≡ [] → inside c true want e ≡ []
      → IsViewed y want (typed_expression s want e)
  anonymous_viewed (Named p d rest) want meant m anonymous h within = on (reading_of c d rest) refl h
    where
      on : (r : Reading) → reading_of c d rest ≡ r → traversed_name c want p r ≡ [] → IsViewed y want (typed_expression s want (Named p d rest))
      on (reading.Place t) is g =
          let defined = anonymous_shape (shape_of table want) anonymous in
          traversed_place p d t want defined.0 defined.1 defined.2 rest meant m defined.3 is g within
      on reading.Off is g = absurd (off_read p d want rest is within)
      on (reading.Value u v) is g = absurd (no_name p (own_of c.known (reading.Value u v)) g)
      on (reading.Call f) is g = absurd (no_name p (own_of c.known (reading.Call f)) g)
      on (reading.Image u) is g = absurd (no_name p (own_of c.known (reading.Image u)) g)
      on reading.EndOfFile is g = absurd (no_name p (own_of c.known reading.EndOfFile) g)
  anonymous_viewed e want meant m anonymous h within =
      absurd (let f = nil_right (demand 1 (position e) (traversed_fits c want e)) (K6 (position e)) h in false≢true (ap is_free f))

  traversed : (e : Tree) (want : ℕ) → IsMeant s y e → made want → around_traversed c want e ≡ [] → inside c true want e ≡ [] → Taken y want (typed_expression s want e)
  traversed e want meant m demands within = by (is_anonymous (full table want)) refl demands
    where
      by : (b : Bool) → is_anonymous (full table want) ≡ b
          → (if b then traversed_anonymous c want e else around c stands.Actual want e ++ demand 6 (position e) (is_object_name c e)) ≡ [] → Taken y want (typed_expression s want e)
      by true is h = inr (anonymous_viewed e want meant m is h within)
      by false is h = inl (has_type s objects subs made laws e stands.Actual want meant m (nil_left (around c stands.Actual want e) _ h) (tight e want (holds 6 (position e) (is_object_name c e) (nil_right (around c stands.Actual want e) _ h)) within))

  anonymous_object : (e : Tree) (want : ℕ) → traversed_anonymous c want e ≡ [] → inside c true want e ≡ [] → is_object_name c e ≡ true
  anonymous_object (Named p d rest) want h within = on (reading_of c d rest) refl h
    where
      on : (r : Reading) → reading_of c d rest ≡ r → traversed_name c want p r ≡ [] → is_object r ≡ true
      on (reading.Place t) is g = refl
      on reading.Off is g = absurd (off_read p d want rest is within)
      on (reading.Value u v) is g = absurd (no_name p (own_of c.known (reading.Value u v)) g)
      on (reading.Call f) is g = absurd (no_name p (own_of c.known (reading.Call f)) g)
      on (reading.Image u) is g = absurd (no_name p (own_of c.known (reading.Image u)) g)
      on reading.EndOfFile is g = absurd (no_name p (own_of c.known reading.EndOfFile) g)
  anonymous_object e want h within = absurd (let f = nil_right (demand 1 (position e) (traversed_fits c want e)) (K6 (position e)) h in false≢true (ap is_free f))

  traversed_object : (e : Tree) (want : ℕ) → around_traversed c want e ≡ [] → inside c true want e ≡ [] → is_object_name c e ≡ true
  traversed_object e want demands within = by (is_anonymous (full table want)) demands
    where
      by : (b : Bool) → (if b then traversed_anonymous c want e else around c stands.Actual want e ++ demand 6 (position e) (is_object_name c e)) ≡ [] → is_object_name c e ≡ true
      by true h = anonymous_object e want h within
      by false h = holds 6 (position e) (is_object_name c e) (nil_right (around c stands.Actual want e) _ h)

  -- ---- types of formals

  target : (z w : Shape) (d k : ℕ) (c n e m : Bool) → z ≡ w → z ≡ shape.Access d c n → w ≡ shape.Access k e m → d ≡ k
  target z w d k c n e m same is at =
      let one : shape.Access d c n ≡ shape.Access k e m = sym is ∙ same ∙ at in ap (λ s. designated (view_of s)) one

  views_as : (of t u : ℕ) → AreSameViews table t u → Views y t of → Views y u of
  views_as of t u same h =
      let one : h.1 ≡ same.0 = target (shape_of table t) (shape_of table t) h.1 same.0 h.4 h.5 same.2 same.3 refl h.7 same.6 in
      (h.0, same.1, h.2, h.3, same.4, same.5, h.6, same.7, agree_trans table h.0 h.1 same.1 h.8 (subst (λ z. Agree table z same.1) (sym one) same.8))

  -- What is looked at for one type is looked at for another one that designates the same.
  viewed_as : (e : TypedTree) (t u : ℕ) → AreSameViews table t u → IsViewed y t e → IsViewed y u e
  viewed_as (Name p x steps of) t u same h = (h.0, views_as of t u same h.1)
  viewed_as (typed.Call p sub actuals) t u same h = (h.0, h.1, views_as h.0 t u same h.2)
  viewed_as (typed.Parens e) t u same h = viewed_as e t u same h
  viewed_as e t u same h = absurd h

  -- ---- one actual

  -- Two types that agree are access types alike.
  agreeing_views : (t u : ℕ) → Agree table t u → (e : TypedTree) → IsViewed y t e → IsViewed y u e
  agreeing_views t u agree (Name p x steps of) h =
      let v = h.1 in (h.0, (v.0, v.1, v.2, v.3, v.4, v.5, v.6, agree_access table t u v.1 v.4 v.5 agree v.7, v.8))
  agreeing_views t u agree (typed.Call p sub actuals) h =
      let v = h.2 in (h.0, h.1, (v.0, v.1, v.2, v.3, v.4, v.5, v.6, agree_access table t u v.1 v.4 v.5 agree v.7, v.8))
  agreeing_views t u agree (typed.Parens e) h = agreeing_views t u agree e h
  agreeing_views t u agree e h = absurd h

  retaken : (e : TypedTree) (t u : ℕ) → Agree table t u → Taken y t e → Taken y u e
  retaken e t u agree (inl has) = inl (retyped y laws.owns e t u agree has)
  retaken e t u agree (inr viewed) = inr (agreeing_views t u agree e viewed)

  -- The object of a formal takes what the formal takes.
  actual_given : (f : FormalInfo) (x : ℕ) (e : Tree) → IsFormal y x f → made f.of → IsMeant s y e
      → around_formal c f e ≡ [] → inside c f.traversed f.of e ≡ [] → IsActual y x (typed_expression s f.of e)
  actual_given f x e is m meant demands within = by f.mode refl is.0 demands
    where
      o : ℕ
      o = (object_at y x).of

      Formed : Type 0
      Formed =
          Agree table f.of o ⊎ ((f.traversed ≡ true) × (f.mode ≡ mode.In) × (is_anonymous (full table f.of) ≡ true) × (is_anonymous (full table o) ≡ true) × AreSameViews table f.of o)

      plain : (b : Bool) → (if b then around_traversed c f.of e else around c stands.Actual f.of e) ≡ [] → inside c b f.of e ≡ [] → Taken y f.of (typed_expression s f.of e)
      plain true g w = traversed e f.of meant m g w
      plain false g w = inl (has_type s objects subs made laws e stands.Actual f.of meant m g w)

      value : Formed → (if f.traversed then around_traversed c f.of e else around c stands.Actual f.of e) ≡ [] → Taken y o (typed_expression s f.of e)
      value (inl agree) h = retaken (typed_expression s f.of e) f.of o agree (plain f.traversed h within)
      value (inr v) h =
          let g : around_traversed c f.of e ≡ [] = subst (λ b. (if b then around_traversed c f.of e else around c stands.Actual f.of e) ≡ []) v.0 h in
          let k : traversed_anonymous c f.of e ≡ []
          = subst (λ b. (if b then traversed_anonymous c f.of e else around c stands.Actual f.of e ++ demand 6 (position e) (is_object_name c e)) ≡ []) v.2 g in
          inr (viewed_as (typed_expression s f.of e) f.of o v.4 (anonymous_viewed e f.of meant m v.2 k (subst (λ b. inside c b f.of e ≡ []) v.0 within)))

      placed : (k : Mode) → f.mode ≡ k → (k ≡ mode.In → ⊥) → Formed → around_variable c f.of e ≡ [] → (u : ℕ) × IsPlaceOf y u (typed_expression s f.of e) × Agree table u o
      placed k has other (inl agree) h =
          let found = variable_at e f.of f.traversed meant m h within in
          (found.0, found.1, agree_trans table found.0 f.of o (agree_back table f.of found.0 found.2) agree)
      placed k has other (inr v) h = absurd (other (sym has ∙ v.1))

      by : (k : Mode) → f.mode ≡ k → (object_at y x).mode ≡ k
          → (if not (is_in k) then around_variable c f.of e else if f.traversed then around_traversed c f.of e else around c stands.Actual f.of e) ≡ []
          → IsActual y x (typed_expression s f.of e)
      by mode.In has k h = rw k (value is.1 h)
      by mode.Out has k h = rw k (placed mode.Out has (λ e. false≢true (ap is_in e)) is.1 h)
      by mode.InOut has k h = rw k (placed mode.InOut has (λ e. false≢true (ap is_in e)) is.1 h)

  -- One that owns is null, or a name of its type.
  owner_given : (f : FormalInfo) (x : ℕ) (e : Tree) → IsFormal y x f → made f.of → IsMeant s y e
      → around_formal c f e ≡ [] → inside c f.traversed f.of e ≡ [] → NamesOwner y x (typed_expression s f.of e)
  owner_given f x e is m meant demands within of_in owns = elim is.1 [
    | inr v ↦ absurd (anonymous_apart s objects subs made laws (object_at y x).of v.3 owns)
    | inl agree ↦ by agree (agree_owns table f.of (object_at y x).of laws.owns agree ∙ owns) f.traversed within (plain f.mode is.0 demands)
  ]
    where
      IsOwner : Type 0
      IsOwner = IsNamedOwner (typed_expression s f.of e) × Has y (object_at y x).of (typed_expression s f.of e)

      plain : (k : Mode) → (object_at y x).mode ≡ k
          → (if not (is_in k) then around_variable c f.of e else if f.traversed then around_traversed c f.of e else around c stands.Actual f.of e) ≡ []
          → (if f.traversed then around_traversed c f.of e else around c stands.Actual f.of e) ≡ []
      plain mode.In at h = h
      plain mode.Out at h = absurd (true≢false (ap is_in (sym of_in ∙ at)))
      plain mode.InOut at h = absurd (true≢false (ap is_in (sym of_in ∙ at)))

      allowed_there : (a b : Bool) → a ≡ true → not a || b ≡ true → b ≡ true
      allowed_there true b is h = h
      allowed_there false b is h = absurd (false≢true is)

      had : Agree table f.of (object_at y x).of → is_owning table f.of ≡ true → around c stands.Actual f.of e ≡ [] → inside c false f.of e ≡ [] → IsOwner
      had agree owner h w =
          let has = has_type s objects subs made laws e stands.Actual f.of meant m h w in (
            owner_named s objects subs made laws e f.of has owner
                (allowed_there (is_owning table f.of) (allowed c stands.Actual e) owner
                (holds 5 (position e) (not (is_owning table f.of) || allowed c stands.Actual e) (nil_right (demand 1 (position e) (suits c f.of e)) _ h))),
            retyped y laws.owns (typed_expression s f.of e) f.of (object_at y x).of agree has,
          )

      by : Agree table f.of (object_at y x).of → is_owning table f.of ≡ true → (b : Bool) → inside c b f.of e ≡ []
          → (if b then around_traversed c f.of e else around c stands.Actual f.of e) ≡ [] → IsOwner
      by agree owner false w h = had agree owner h w
      by agree owner true w h = through (is_anonymous (full table f.of)) refl h
        where
          through : (a : Bool) → is_anonymous (full table f.of) ≡ a
              → (if a then traversed_anonymous c f.of e else around c stands.Actual f.of e ++ demand 6 (position e) (is_object_name c e)) ≡ [] → IsOwner
          through true view k = absurd (anonymous_apart s objects subs made laws f.of view owner)
          through false view k =
              had agree owner (nil_left (around c stands.Actual f.of e) _ k)
              (tight e f.of (holds 6 (position e) (is_object_name c e) (nil_right (around c stands.Actual f.of e) _ k)) w)

  -- what is traversed is a name of an object
  pub traversed_named : (f : FormalInfo) (e : Tree) → f.traversed ≡ true → around_formal c f e ≡ [] → inside c true f.of e ≡ [] → is_object_name c e ≡ true
  traversed_named f e traversed demands within = by f.mode (rw traversed at demands) within
    where
      by : (k : Mode) → (if not (is_in k) then around_variable c f.of e else around_traversed c f.of e) ≡ [] → inside c true f.of e ≡ [] → is_object_name c e ≡ true
      by mode.In h w = traversed_object e f.of h w
      by mode.Out h w = variable_object e f.of h w
      by mode.InOut h w = variable_object e f.of h w

  first_given : (f : FormalInfo) (e : Tree) → around_formal c f e ≡ [] → inside c f.traversed f.of e ≡ [] → f.traversed ≡ true → IsName (typed_expression s f.of e)
  first_given f e demands within traversed =
      object_named s objects subs made laws e f.of (traversed_named f e traversed demands (subst (λ b. inside c b f.of e ≡ []) traversed within))

  -- ---- all actuals of a call

  -- What is known of an actual, its formal, and the formal of the profile.
  abbrev IsGiven : ℕ → FormalInfo → TypedTree → Type 0
  IsGiven x k e = IsActual y x e × NamesOwner y x e × (k.traversed ≡ true → IsName e)

  one_given : (f : FormalInfo) (x : ℕ) (e : Tree) → IsFormal y x f → made f.of → IsMeant s y e → around_formal c f e ≡ [] → inside c f.traversed f.of e ≡ []
      → IsGiven x f (typed_expression s f.of e)
  one_given f x e is m meant demands within =
      (actual_given f x e is m meant demands within, owner_given f x e is m meant demands within, first_given f e demands within)

  abbrev AreGiven : List ℕ → List FormalInfo → TypedTree → Type 0
  AreGiven (x ∷ xs) (k ∷ ks) (typed.More e rest) = IsGiven x k e × AreGiven xs ks rest
  AreGiven [] [] NoMore = Unit {0}
  AreGiven xs ks e = ⊥

  all_taken : (xs : List ℕ) (ks : List FormalInfo) (e : TypedTree) → AreGiven xs ks e → ActualsTaken y xs e
  all_taken (x ∷ xs) (k ∷ ks) (typed.More e rest) given = (given.0.0, all_taken xs ks rest given.1)
  all_taken [] [] NoMore given = tt
  all_taken xs ks e given = absurd given

  all_named : (xs : List ℕ) (ks : List FormalInfo) (e : TypedTree) → AreGiven xs ks e → NamesOwners y xs e
  all_named (x ∷ xs) (k ∷ ks) (typed.More e rest) given = (given.0.1, all_named xs ks rest given.1)
  all_named [] [] NoMore given = tt
  all_named xs ks e given = absurd given

  first_named : (sub : Signature) (xs : List ℕ) (ks : List FormalInfo) (e : TypedTree)
      → (flow.traverses y.table sub.result ≡ true → (f : FormalInfo) (rest : List FormalInfo) → ks ≡ f ∷ rest → f.traversed ≡ true) → AreGiven xs ks e → NamesFirst y sub e
  first_named sub (x ∷ xs) (k ∷ ks) (typed.More e rest) first given = (λ through. given.0.2 (first through k ks refl))
  first_named sub [] [] NoMore first given = tt
  first_named sub xs ks e first given = absurd given

  module _ (f : ℕ) (profiled : IsProfiled s.context.known s.bodies y made f) where
    abbrev fs : List FormalInfo
    fs = formals_of s.context.known f

    abbrev values : ℕ → Tree → List TypedTree
    values i args = typed_values s (role.Actuals f) i args

    -- By position, from the i-th on.
    by_position : (args : Tree) (i : ℕ) (xs : List ℕ) (rest : List FormalInfo) → AreFormals y xs rest → ((j : ℕ) → get_or fs (i + j) no_formal ≡ get_or rest j no_formal)
        → length (given_names args) ≡ length rest → all_by_position (given_names args) ≡ true → AreArguments s y args → arguments c (role.Actuals f) i args ≡ []
        → AreGiven xs rest (typed_list (values i args))
    unfolding arguments typed_values AreArguments
    by_position (Argument None e more) i (x ∷ xs) (k ∷ rest) are same count all meant none =
        let info = formal c f i None in
        let here : info ≡ k = ap (λ n. get_or fs n no_formal) (let z : i ≡ i + 0 = omega arith in z) ∙ same 0 in
        let later = nil_right (around_formal c info e) _ none in (
          subst (λ (z : FormalInfo). IsGiven x z (typed_expression s info.of e)) here
              (one_given info x e (subst (IsFormal y x) (sym here) are.0) (profiled.types i) meant.0
              (nil_left (around_formal c info e) _ none) (nil_left (inside c info.traversed info.of e) _ later)),
          by_position more (i + 1) xs rest are.1 (λ j. ap (λ n. get_or fs n no_formal) (let z : i + 1 + j ≡ i + suc j = omega arith in z) ∙ same (suc j))
              (let n = count in omega (arith, n)) all meant.1 (nil_right (inside c info.traversed info.of e) _ later),
        )
    by_position (Argument (Some w) e more) i xs rest are same count all meant none = absurd (false≢true all)
    by_position (Argument None e more) i [] [] are same count all meant none = absurd (false≢true (ap is_nought count))
    by_position (Argument None e more) i (x ∷ xs) [] are same count all meant none = absurd are
    by_position (Argument None e more) i [] (k ∷ rest) are same count all meant none = absurd are
    by_position args i [] [] are same count all meant none = tt
    by_position args i (x ∷ xs) [] are same count all meant none = absurd are
    by_position args i [] (k ∷ rest) are same count all meant none = absurd are
    by_position args i (x ∷ xs) (k ∷ rest) are same count all meant none = absurd (true≢false (ap is_nought count))

    -- The value that is given by a name.
    value_given : (args : Tree) (i x : ℕ) (k : FormalInfo) (w : List ℕ) → IsFormal y x k → made k.of
        → ((v : List ℕ) → same_word w v ≡ true → formal c f 0 (Some v) ≡ k) → (count_of w (given_names args) ≡ 0 → ⊥) → AreArguments s y args
        → arguments c (role.Actuals f) i args ≡ [] → IsGiven x k (named_value w (given_names args) (values i args))
    unfolding arguments typed_values AreArguments
    value_given (Argument None e more) i x k w is m here there meant none =
        let info = formal c f i None in
        value_given more (i + 1) x k w is m here there meant.1 (nil_right (inside c info.traversed info.of e) _ (nil_right (around_formal c info e) _ none))
    value_given (Argument (Some v) e more) i x k w is m here there meant none =
        let info = formal c f i (Some v) in
        let later = nil_right (around_formal c info e) _ none in
        by (same_word w v) refl (nil_left (around_formal c info e) _ none) (nil_left (inside c info.traversed info.of e) _ later)
        (λ gone. value_given more (i + 1) x k w is m here gone meant.1 (nil_right (inside c info.traversed info.of e) _ later))
      where
        by : (b : Bool) → same_word w v ≡ b → around_formal c (formal c f i (Some v)) e ≡ [] → inside c (formal c f i (Some v)).traversed (formal c f i (Some v)).of e ≡ []
            → ((count_of w (given_names more) ≡ 0 → ⊥) → IsGiven x k (named_value w (given_names more) (values (i + 1) more)))
            → IsGiven x k (if same_word w v then typed_expression s (formal c f i (Some v)).of e else named_value w (given_names more) (values (i + 1) more))
        by true same around within on =
            let one : formal c f i (Some v) ≡ k = here v same in
            rw same (subst (λ (z : FormalInfo). IsGiven x z (typed_expression s (formal c f i (Some v)).of e)) one
            (one_given (formal c f i (Some v)) x e (subst (IsFormal y x) (sym one) is) (subst made (ap (λ (z : FormalInfo). z.of) (sym one)) m) meant.0 around within))
        by false same around within on = rw same (on (λ zero. there (rw same zero)))
    value_given args i x k w is m here there meant none = absurd (there refl)

    -- By name, in the order in which the formals are declared.
    by_names : (args : Tree) (n : ℕ) (xs : List ℕ) (rest : List FormalInfo) → AreFormals y xs rest → ((j : ℕ) → get_or fs (n + j) no_formal ≡ get_or rest j no_formal)
        → n + length rest ≡ length fs → each_once (map (λ (k : FormalInfo). k.name) rest) (given_names args) ≡ true → AreArguments s y args
        → arguments c (role.Actuals f) 0 args ≡ []
        → AreGiven xs rest (typed_list (map (λ w. named_value w (given_names args) (values 0 args)) (map (λ (k : FormalInfo). k.name) rest)))
    by_names args n [] [] are same count once meant none = tt
    by_names args n (x ∷ xs) (k ∷ rest) are same count once meant none =
        let at : get_or fs n no_formal ≡ k = ap (λ z. get_or fs z no_formal) (let z : n ≡ n + 0 = omega arith in z) ∙ same 0 in
        let within : n < length fs = (let z = count in omega (arith, z)) in (
          value_given args 0 x k k.name are.0 (subst made (ap (λ (z : FormalInfo). z.of) at) (profiled.types n))
              (λ v is. profiled.names n v within (subst (λ (z : FormalInfo). same_word z.name v ≡ true) (sym at) is) ∙ at)
              (not_zero (count_of k.name (given_names args)) (and_left _ _ once)) meant none,
          by_names args (suc n) xs rest are.1 (λ j. ap (λ z. get_or fs z no_formal) (let z : suc n + j ≡ n + suc j = omega arith in z) ∙ same (suc j))
              (let z = count in omega (arith, z)) (and_right (nat_eq (count_of k.name (given_names args)) 1) _ once) meant none,
        )
    by_names args n (x ∷ xs) [] are same count once meant none = absurd are
    by_names args n [] (k ∷ rest) are same count once meant none = absurd are

    -- The law: actuals that break no sentence are as the formals ask.
    pub call_given : (given : Bool) → is_some (profile_of (entry_of s.context.known f)).result ≡ given → (args : Tree) → AreArguments s y args → arguments c (role.Actuals f) 0 args ≡ [] → associates (formal_names (profile_of (entry_of s.context.known f))) (given_names args) ≡ true
        → IsCall y given (sub_number s f) (arguments_given c (role.Actuals f) args (values 0 args)) × ArePassed y (sub_number s f) (arguments_given c (role.Actuals f) args (values 0 args))
    call_given given gives args meant none fit =
        let are = by (all_by_position (given_names args)) refl (and_right (nat_eq (length (given_names args)) (length (formal_names (profile_of (entry_of s.context.known f))))) _ fit) in
        let es : TypedTree = arguments_given c (role.Actuals f) args (values 0 args) in
        let xs : List ℕ = (sub_at y (sub_number s f)).formals in (
          (all_taken xs fs es are, profiled.through, ap is_some profiled.result ∙ gives),
          (all_named xs fs es are, first_named (sub_at y (sub_number s f)) xs fs es profiled.first are),
        )
      where
        count : length (given_names args) ≡ length fs
        count =
            eqb-true (length (given_names args)) (length (formal_names (profile_of (entry_of s.context.known f)))) (and_left _ _ fit)
            ∙ map_count (λ (k : FormalInfo). k.name) fs

        by : (b : Bool) → all_by_position (given_names args) ≡ b → b || each_once (formal_names (profile_of (entry_of s.context.known f))) (given_names args) ≡ true
            → AreGiven (sub_at y (sub_number s f)).formals fs (typed_list (if b then values 0 args
            else map (λ w. named_value w (given_names args) (values 0 args)) (formal_names (profile_of (entry_of s.context.known f)))))
        by true all h = by_position args 0 (sub_at y (sub_number s f)).formals fs profiled.formals (λ j. ap (λ n. get_or fs n no_formal) (let z : 0 + j ≡ j = omega arith in z)) count all meant none
        by false all h =
            by_names args 0 (sub_at y (sub_number s f)).formals fs profiled.formals (λ j. ap (λ n. get_or fs n no_formal) (let z : 0 + j ≡ j = omega arith in z))
            (let z : 0 + length fs ≡ length fs = omega arith in z) h meant none
