-- The laws: anonymous access types have rows of their own, where their numbers are their own, and formals of such
-- types are traversed.
use Rattle.std.proofs.Common.{◌≡◌, ◌⊎◌, inl, inr, refl, sym, ap, ◌∙◌, subst, ℕ, ◌<◌, Bool, true, false, not, ◌&&◌, ◌||◌, List, [], ◌∷◌, ◌++◌, flat_map, arith, Option, Some, None, true≢false, IsTrue}
use Rattle.std.specs.Prelude.{slice_get, is_some}
use Rattle.std.specs.List.{AllByRecursion}
use Rattle.std.proofs.lemmas.Bool.{cases_lt, false≢true}
use Rattle.machine.specs.spark_base.Lists.{Has}
use Rattle.machine.specs.spark_base.declared.position.Pos.{Pos}
use Rattle.machine.specs.place_names.declared.act.Mode.{Mode}
use Rattle.machine.specs.place_names.declared.act.Mode.TheVariants as mode
use Rattle.machine.specs.resolved_tree.declared.node.Mark.{Mark}
use Rattle.machine.specs.resolved_tree.Trees.{More, NoMore, Code, Plain, Anonymous, Formals, Front, Program}
use Rattle.machine.specs.type_definitions.declared.judgement.Fault.{Fault}
use Rattle.machine.specs.type_definitions.declared.table.Entry.{Entry}
use Rattle.machine.specs.type_definitions.declared.table.Entry.TheVariants as entry
use Rattle.machine.specs.type_definitions.declared.table.FormalInfo.{FormalInfo}
use Rattle.machine.specs.type_definitions.declared.table.Info.{Info}
use Rattle.machine.specs.type_definitions.declared.table.Known.{Known}
use Rattle.machine.specs.type_definitions.declared.table.Profile.{Profile}
use Rattle.machine.specs.type_definitions.declared.table.Shape.{Shape}
use Rattle.machine.specs.type_definitions.declared.table.Shape.TheVariants as shape
use Rattle.machine.specs.type_definitions.Types.{Table, base, full, shape_of, shape_found, meant_type_found, view_of, same_as}
use Rattle.machine.specs.type_definitions.Faults.{demand}
use Rattle.machine.specs.type_definitions.Entries.{entry_of, integer, denotes_type, marked}
use Rattle.machine.specs.type_definitions.Names.{Context}
use Rattle.machine.specs.type_definitions.Expressions.{is_anonymous, is_in, is_traversal, profile_of}
use Rattle.machine.specs.type_definitions.Gathered.{declared_number, declared_pos, indicated, indicates_type, is_anonymous_indication, anonymous_result, formal_group, formal_infos, result_indicated, profile_from, profile, front_number}
use Rattle.machine.specs.type_definitions.Declarations.{indication_faults, is_traversable, formal_faults, group_faults, formals_group, formals_faults, result_faults, has_none, front_faults, front_pos, same_access, same_result, same_formals, agrees}
use Rattle.machine.specs.type_definitions.Whole.{known_of, type_fault}
use Rattle.type_sizes.specs.Formed.{all_formed}
use Rattle.settled_types.specs.Wholes.{written}
use Rattle.settled_types.specs.Orderly.{Past, at_start, IsOrderly}
use Rattle.settled_types.specs.Stamped.{AllOpen}
use Rattle.settled_types.proofs.Faultless.{program_open}
use Rattle.settled_types.proofs.Main.{end}
use Rattle.soundness.proofs.TypedLaws.Agreeing.{of_known, nil_left, nil_right, holds, and_left, and_right}
use Rattle.settled_types.specs.GatheredLaws.Made.{indicated_numbers, result_numbers}
use Rattle.settled_types.specs.GatheredLaws.DefinitionKinds.{kind}
use Rattle.settled_types.specs.GatheredLaws.Views.{named_numbers, front_result, AreViewsApart, IsViewRow, AreViews}
use Rattle.settled_types.specs.GatheredLaws.Based.{IsOne, Agrees}
use Rattle.settled_types.specs.GatheredLaws.Faultless.{IsFaultless}
use Rattle.settled_types.proofs.GatheredLaws.Bounded.{ArePredefined, own_low}
use Rattle.settled_types.proofs.GatheredLaws.Declared.{units_declare}
use Rattle.settled_types.proofs.GatheredLaws.Agreed.{IsOwn, based, agrees as all_agree}
use Rattle.settled_types.proofs.GatheredLaws.Faultless.{program_faultless}
use Rattle.settled_types.proofs.GatheredLaws.Main.{are_types}
use Rattle.settled_types.specs.NamedFiles.Formals.{HasFirst, IsFrontApart}
use Rattle.settled_types.specs.AnonymousTypes.Fronts.{AllFronts, IsFrontFaultless, IsBodyFaultless}
use Rattle.settled_types.specs.AnonymousTypes.Shown.{IsProfile, IsProfileEntry, IsUnnamed, AreShown}
use Rattle.settled_types.proofs.AnonymousTypes.Fronts.{program_fronts, units_bodied}
use Rattle.settled_types.proofs.AnonymousTypes.Shown.{marked_named, all_shown}

some_same : (a b : ℕ) → Some a ≡ Some b → a ≡ b
some_same a b e = cc

mode_in : (m : Mode) → is_in m ≡ true → m ≡ mode.In
mode_in mode.In e = refl
mode_in mode.Out e = absurd (false≢true e)
mode_in mode.InOut e = absurd (false≢true e)

-- The row of a number without a name where that is an anonymous access type.
unnamed_view : (t : ℕ) (o : Option Info) → shape_found o ≡ shape.Fields [] → meant_type_found t o ≡ t
unnamed_view t None e = refl
unnamed_view t (Some i) e = ap (same_as t) e

module _ (p : Program) (formed : IsTrue (all_formed p.units)) (are : IsOrderly p) (none : type_fault p ≡ None) (apart : AreViewsApart p.units) where
  abbrev known : Known
  known = known_of p

  abbrev table : Table
  table = (known_of p).table

  opens : AllOpen (known_of p) p.units
  opens = program_open p formed none

  faultless : (u : Code) → Has p.units u → IsFaultless (known_of p) u
  faultless = program_faultless p formed none

  -- ---- types with names

  abbrev Named : ℕ → Type 0
  Named t = (t < 5) ⊎ Has (flat_map named_numbers p.units) t

  abbrev last : Past
  last = end p are opens

  one : (t : ℕ) → Named t → IsOne last.awaited last.defined t
  one t (inl less) = inl less
  one t (inr has) = units_declare p.units at_start t has

  predefined : ArePredefined table
  predefined = (are_types p are).predefined

  own_shape : (t : ℕ) → IsOne last.awaited last.defined t → base table t ≡ t → IsOwn (written table t) ⊎ (t < 5)
  own_shape t is own = elim (cases_lt t 5) [
    | inl less ↦ inr less
    | inr more ↦ inl ((based p are opens apart faultless).own t is more own).0
  ]

  -- it is no anonymous access type
  named_type : (t d : ℕ) (c n : Bool) → IsOne last.awaited last.defined t → shape_of table t ≡ shape.Access d c n → n ≡ true
  named_type t d c n is means = by (all_agree p are opens apart faultless t is)
    where
      b : ℕ
      b = base table t

      owned : written table b ≡ shape.Access d c n → IsOwn (written table b) ⊎ (b < 5) → n ≡ true
      owned at (inl own) = let o : IsOwn (shape.Access d c n) = subst IsOwn at own in o.1
      owned at (inr less) =
          let k = own_low table predefined b less ((based p are opens apart faultless).bases t is) in
          let two = ap kind at in absurd (omega (arith, k, two))

      by : Agrees table t → n ≡ true
      by (inr like) = let k = like.1 in let two = ap kind means in absurd (omega (arith, k, two))
      by (inl same) =
          owned (ap (written table) (sym same) ∙ means)
          (own_shape b ((based p are opens apart faultless).based t is) ((based p are opens apart faultless).bases t is))

  named_plain : (t : ℕ) → Named t → is_anonymous (full table t) ≡ false
  named_plain t name = by (shape_of table t) refl
    where
      by : (z : Shape) → shape_of table t ≡ z → is_anonymous (view_of z) ≡ false
      by (shape.Access d c n) is = ap not (named_type t d c n (one t name) is)
      by (shape.Whole low high) is = refl
      by (shape.Listed literals low high) is = refl
      by (shape.Fields components) is = refl
      by (shape.Elements low high of) is = refl
      by (shape.Same of) is = refl

  -- ---- what is known of profiles

  as_front : (front : Code) → IsBodyFaultless known front → IsFrontFaultless known front
  as_front front body = (body.0, body.1, nil_left (front_faults body.0 front) (demand 3 (front_pos front) (agrees (body.0).known front)) body.2)

  shown : AreShown Named (IsFrontFaultless known) known
  shown = all_shown Named (IsFrontFaultless known) (IsBodyFaultless known) as_front (λ t less. inl less) p (λ d has. inr has) (program_fronts p formed none)

  abbrev AreNamed : Known → Type 0
  AreNamed k = (m : Mark) → Named (marked k m)

  marks : AreNamed known
  marks m = marked_named Named (IsFrontFaultless known) (IsBodyFaultless known) as_front (λ t less. inl less) known m shown

  -- No mark denotes an anonymous access type.
  pub mark_plain : (m : Mark) → is_anonymous (full table (marked known m)) ≡ false
  mark_plain m = named_plain (marked known m) (marks m)

  pub integer_plain : is_anonymous (full table integer) ≡ false
  integer_plain = named_plain integer (inl (omega arith))

  told : (d : ℕ) (q : Profile) → entry_of known d ≡ entry.Subprogram q → IsProfile Named (IsFrontFaultless known) d q
  told d q is = subst (IsProfileEntry Named (IsFrontFaultless known) d) is (shown.profiles d)

  never : (t u : ℕ) → Named t → t ≡ u → is_anonymous (full table u) ≡ true → ⊥
  never t u name same is = true≢false (sym is ∙ subst (λ v. is_anonymous (full table v) ≡ false) same (named_plain t name))

  -- a result of an anonymous access type
  own_result : (k : Known) → AreNamed k → (n t : ℕ) (result : Code) → result_indicated k n result ≡ Some t → is_anonymous (full table t) ≡ true
      → (t ≡ n) × (anonymous_result result ≡ true)
  own_result k named n t (More (Plain m) rest) is anonymous = absurd (never (marked k m) t (named m) (some_same (marked k m) t is) anonymous)
  own_result k named n t (More (Anonymous at constant m) rest) is anonymous = (sym (some_same n t is), refl)
  own_result k named n t (More i rest) is anonymous = absurd (never integer t (inl (omega arith)) (some_same integer t is) anonymous)
  own_result k named n t result is anonymous = absurd (false≢true (ap is_some is))

  own_profile : (d t : ℕ) (k : Known) (front : Code) → AreNamed k → front_number front ≡ d → (profile k front).result ≡ Some t → is_anonymous (full table t) ≡ true → t ≡ d
  own_profile d t k (Front x formals result) named number is anonymous = (own_result k named (declared_number x) t result is anonymous).0 ∙ number
  own_profile d t k front named number is anonymous = absurd (false≢true (ap is_some is))

  -- The anonymous type of a subprogram's result has the number of the subprogram.
  pub result_own : (d t : ℕ) (q : Profile) → entry_of known d ≡ entry.Subprogram q → q.result ≡ Some t → is_anonymous (full table t) ≡ true → t ≡ d
  result_own d t q is result anonymous =
      let front = told d q is in
      own_profile d t front.known front.code front.marks front.number (ap (λ (x : Profile). x.result) (sym front.same) ∙ result) anonymous

  -- ---- the results of bodies

  anonymous_row : (t : ℕ) → is_anonymous (full table t) ≡ true → IsViewRow table t
  anonymous_row t is = by (shown.rows t (λ name. never t t name refl is))
    where
      by : IsUnnamed t (slice_get table t) → IsViewRow table t
      by (inr row) = row
      by (inl fields) =
          let own : meant_type_found t (slice_get table t) ≡ t = unnamed_view t (slice_get table t) fields in
          let plain : is_anonymous (full table t) ≡ false = ap (λ u. is_anonymous (view_of (shape_found (slice_get table u)))) own ∙ ap (λ z. is_anonymous (view_of z)) fields in
          absurd (true≢false (sym is ∙ plain))

  -- The declaration has such a result if the body has.
  declared_view : (n : ℕ) (at : Pos) (constant : Bool) (m : Mark) (rest : Code) (e : Entry) → entry_of known n ≡ e → denotes_type known m.decl ≡ true
      → same_result known (profile_of e).result (More (Anonymous at constant m) rest) ≡ true → is_anonymous (full table n) ≡ true
  declared_view n at constant m rest (entry.Subprogram q) is denotes same = by q.result refl same
    where
      by : (r : Option ℕ) → q.result ≡ r → same_result known r (More (Anonymous at constant m) rest) ≡ true → is_anonymous (full table n) ≡ true
      by None result h = absurd (true≢false (sym h))
      by (Some u) result h =
          let access : same_access table u constant (marked known m) ≡ true
          = of_known (not (denotes_type known m.decl)) (same_access table u constant (marked known m)) (ap not denotes) h in
          let anonymous : is_anonymous (full table u) ≡ true = and_left (is_anonymous (full table u)) _ access in
          subst (λ v. is_anonymous (full table v) ≡ true) (result_own n u q is result anonymous) anonymous
  declared_view n at constant m rest e is denotes same = absurd (true≢false (sym same))

  abbrev IsSameResult : ℕ → Code → Type 0
  IsSameResult n result = same_result known (profile_of (entry_of known n)).result result ≡ true

  indicated_view : (n t : ℕ) (i rest : Code) → Has (indicated_numbers i (n ∷ [])) t → indication_faults known i ≡ [] → IsSameResult n (More i rest)
      → is_anonymous (full table t) ≡ true
  indicated_view n t (Anonymous at constant m) rest has none same = elim has [
    | inl is ↦ subst (λ v. is_anonymous (full table v) ≡ true) is
        (declared_view n at constant m rest (entry_of known n) refl (holds 1 m.pos (denotes_type known m.decl) (nil_left (demand 1 m.pos (denotes_type known m.decl)) _ none)) same)
    | inr never ↦ absurd never
  ]
  indicated_view n t i rest has none same = absurd has

  result_view : (n t : ℕ) (result : Code) → Has (result_numbers n result) t → result_faults known result ≡ [] → IsSameResult n result → is_anonymous (full table t) ≡ true
  result_view n t (More i rest) has none same = indicated_view n t i rest has none same
  result_view n t result has none same = absurd has

  body_view : (t : ℕ) (front : Code) → IsBodyFaultless known front → Has (front_result front) t → is_anonymous (full table t) ≡ true
  body_view t (Front d formals result) body has =
      let front : Code = Front d formals result in
      let c : Context = body.0 in
      let free : front_faults c front ≡ [] = nil_left (front_faults c front) (demand 3 (front_pos front) (agrees c.known front)) body.2 in
      let agreed : agrees c.known front ≡ true
      = holds 3 (front_pos front) (agrees c.known front) (nil_right (front_faults c front) (demand 3 (front_pos front) (agrees c.known front)) body.2) in
      result_view (declared_number d) t result has (subst (λ k. result_faults k result ≡ []) body.1 (nil_left (result_faults c.known result) _ free))
      (and_right (same_formals table (profile_of (entry_of known (declared_number d))).formals (formal_infos known (anonymous_result result) formals)) _
      (subst (λ k. agrees k front ≡ true) body.1 agreed))
  body_view t front body has = absurd has

  -- The law: the anonymous types of results of bodies are those of their declarations.
  pub are_views : AreViews p.units table
  are_views = record {
    apart = apart;
    results = λ t has.
        let found = units_bodied (IsFrontFaultless known) (IsBodyFaultless known) p.units t (program_fronts p formed none) has in
        anonymous_row t (body_view t found.0 found.1 found.2);
  }

  -- ---- formals

  -- A formal of an anonymous access type is traversed, and of mode `in`.
  abbrev pub IsThrough : FormalInfo → Type 0
  IsThrough f = is_anonymous (full table f.of) ≡ true → (f.traversed ≡ true) × (f.mode ≡ mode.In)

  abbrev pub AllThrough : List FormalInfo → Type 0
  AllThrough fs = AllByRecursion IsThrough fs

  both_through : (fs gs : List FormalInfo) → AllThrough fs → AllThrough gs → AllThrough (fs ++ gs)
  both_through [] gs h g = g
  both_through (f ∷ fs) gs h g = (h.0, both_through fs gs h.1 g)

  one_through : (k : Known) → AreNamed k → (n : ℕ) (is_function first traversed : Bool) → (traversed ≡ true → (first ≡ true) × (is_function ≡ true))
      → (m : Mode) (of : Code) (at : Pos) → demand 3 at (not is_function || is_in m) ≡ [] → demand 6 at (not (is_anonymous_indication of) || traversed) ≡ []
      → is_anonymous (full table (indicated k n of)) ≡ true → (first ≡ true) × (m ≡ mode.In)
  one_through k named n is_function first traversed tells m (Plain mark) at mode_free free anonymous =
      absurd (never (marked k mark) (marked k mark) (named mark) refl anonymous)
  one_through k named n is_function first traversed tells m (Anonymous q constant mark) at mode_free free anonymous =
      let t = tells (holds 6 at traversed free) in
      (t.0, mode_in m (of_known (not is_function) (is_in m) (ap not t.1) (holds 3 at (not is_function || is_in m) mode_free)))
  one_through k named n is_function first traversed tells m of at mode_free free anonymous = absurd (never integer integer (inl (omega arith)) refl anonymous)

  names_through : (k : Known) → AreNamed k → (c : Context) (is_function : Bool) (result : Option ℕ) (first traversed : Bool)
      → (traversed ≡ true → (first ≡ true) × (is_function ≡ true)) → (m : Mode) (of names : Code) → group_faults c is_function result traversed m of names ≡ []
      → AllThrough (formal_group k first m of names)
  names_through k named c is_function result first traversed tells m of (More d rest) none =
      let here : formal_faults c is_function result traversed m of d ≡ [] = nil_left (formal_faults c is_function result traversed m of d) _ none in
      let mode_free : List Fault = demand 3 (declared_pos d) (not is_function || is_in m) in
      let free : List Fault = demand 6 (declared_pos d) (not (is_anonymous_indication of) || traversed) in
      let late : List Fault = demand 6 (declared_pos d) (not (traversed && indicates_type c.known of) || is_traversable c result m (indicated c.known (declared_number d) of)) in (
        one_through k named (declared_number d) is_function first traversed tells m of (declared_pos d) (nil_left mode_free (free ++ late) here)
            (nil_left free late (nil_right mode_free (free ++ late) here)),
        names_through k named c is_function result false false (λ e. absurd (true≢false (sym e))) m of rest (nil_right (formal_faults c is_function result traversed m of d) _ none),
      )
  names_through k named c is_function result first traversed tells m of names none = tt

  groups_through : (k : Known) → AreNamed k → (c : Context) (is_function : Bool) (result : Option ℕ) (first traversed : Bool)
      → (traversed ≡ true → (first ≡ true) × (is_function ≡ true)) → (formals : Code) → formals_faults c is_function result traversed formals ≡ []
      → AllThrough (formal_infos k first formals)
  groups_through k named c is_function result first traversed tells (More (Formals names m of) rest) none =
      let here : formals_group c is_function result traversed (Formals names m of) ≡ [] = nil_left (formals_group c is_function result traversed (Formals names m of)) _ none in
      both_through (formal_group k first m of names) (formal_infos k false rest)
      (names_through k named c is_function result first traversed tells m of names (nil_right (indication_faults c.known of) _ here))
      (groups_through k named c is_function result false false (λ e. absurd (true≢false (sym e))) rest (nil_right (formals_group c is_function result traversed (Formals names m of)) _ none))
  groups_through k named c is_function result first traversed tells (More group rest) none =
      groups_through k named c is_function result false false (λ e. absurd (true≢false (sym e))) rest none
  groups_through k named c is_function result first traversed tells formals none = tt

  -- a traversal function has an anonymous result
  abbrev Tells : Code → Code → Code → Known → Type 0
  Tells d formals result k =
      is_traversal k (profile_from k (declared_number d) formals result) ≡ true
      → (anonymous_result result ≡ true) × (is_some (profile_from k (declared_number d) formals result).result ≡ true)

  tells : (d formals result : Code) → Tells d formals result known
  tells d formals (More i rest) is = ((own_result known marks (declared_number d) (indicated known (declared_number d) i) (More i rest) refl is).1, refl)
  tells d formals result is = absurd (true≢false (sym is))

  front_through : (k : Known) → AreNamed k → (front : Code) → IsFrontFaultless known front → AllThrough (profile k front).formals
  front_through k named (Front d formals result) front =
      let c : Context = front.0 in
      let q : Profile = profile_from c.known (declared_number d) formals result in
      let middle : List Fault = formals_faults c (is_some q.result) q.result (is_traversal c.known q) formals in
      let end_faults : List Fault = demand 6 (declared_pos d) (not (is_traversal c.known q && has_none formals)) in
      groups_through k named c (is_some q.result) q.result (anonymous_result result) (is_traversal c.known q) (subst (Tells d formals result) (sym front.1) (tells d formals result)) formals
      (nil_left middle end_faults (nil_right (result_faults c.known result) (middle ++ end_faults) front.2))
  front_through k named code front = tt

  -- The law: so it is with the formals of each subprogram that is known.
  pub formals_through : (d : ℕ) (q : Profile) → entry_of known d ≡ entry.Subprogram q → AllThrough q.formals
  formals_through d q is =
      let front = told d q is in
      subst (λ (x : Profile). AllThrough x.formals) (sym front.same) (front_through front.known front.marks front.code front.told)

  -- ---- first formals

  module _ (fronts : (u : Code) → Has p.units u → AllFronts IsFrontApart IsFrontApart u) where
    profiles : AreShown Named IsFrontApart known
    profiles = all_shown Named IsFrontApart IsFrontApart (λ front apart. apart) (λ t less. inl less) p (λ d has. inr has) fronts

    first_info : (k : Known) (formals : Code) → HasFirst formals → (f : FormalInfo) (rest : List FormalInfo) → formal_infos k true formals ≡ f ∷ rest → f.traversed ≡ true
    first_info k (More (Formals (More d ids) m of) more) first f rest e = sym (ap (λ (z : FormalInfo). z.traversed) (heads _ f _ rest e))
      where
        heads : (x y : FormalInfo) (xs ys : List FormalInfo) → x ∷ xs ≡ y ∷ ys → x ≡ y
        heads x y xs ys e = cc
    first_info k NoMore first f rest e = cc
    first_info k formals first f rest e = absurd first

    profile_first : (k : Known) → AreNamed k → (t : ℕ) (code : Code) → IsFrontApart code → (profile k code).result ≡ Some t → is_anonymous (full table t) ≡ true
        → (f : FormalInfo) (rest : List FormalInfo) → (profile k code).formals ≡ f ∷ rest → f.traversed ≡ true
    profile_first k named t (Front x formals result) apart is anonymous f rest list =
        first_info k formals apart.1 f rest
        (subst (λ b. formal_infos k b formals ≡ f ∷ rest) (own_result k named (declared_number x) t result is anonymous).1 list)
    profile_first k named t code apart is anonymous f rest list = absurd apart

    -- The law: a traversal goes through the first formal.
    pub first_traversed : (d t : ℕ) (q : Profile) → entry_of known d ≡ entry.Subprogram q → q.result ≡ Some t → is_anonymous (full table t) ≡ true
        → (f : FormalInfo) (rest : List FormalInfo) → q.formals ≡ f ∷ rest → f.traversed ≡ true
    first_traversed d t q is result anonymous f rest list =
        let front = subst (IsProfileEntry Named IsFrontApart d) is (profiles.profiles d) in
        profile_first front.known front.marks t front.code front.told (ap (λ (x : Profile). x.result) (sym front.same) ∙ result) anonymous f rest
        (ap (λ (x : Profile). x.formals) (sym front.same) ∙ list)
