-- Objects and formals have the types that are indicated for them.
use Rattle.std.proofs.Common.{◌≡◌, ◌⊎◌, inl, inr, ℕ, zero, suc, ◌<◌, ◌≤◌, Bool, true, false, List, [], ◌∷◌, ◌++◌, flat_map, set, get_or, length, append_assoc, refl, sym, ap, ◌∙◌, arith, subst, Option, Some, None, true≢false, if◌then◌else◌}
use Rattle.std.specs.Prelude.{slice_get}
use Rattle.std.proofs.lemmas.Bool.{cases_eq, false≢true}
use Rattle.machine.specs.spark_base.Lists.{Has}
use Rattle.soundness.proofs.Lists.{Has-append_cases, Has-append_left, Has-append_right}
use Rattle.machine.specs.resolved_tree.declared.node.Mark.{Mark}
use Rattle.machine.specs.resolved_tree.Trees.{More, Code, Plain, Anonymous, Bounds, Marked, Constrained, Objects, Numbers, Formals, Front, SubBody, Package, PackageBody, If, Branch, Case, When, Loop, While, For, Block}
use Rattle.name_events.specs.declared.declaration.DeclarationForm.{DeclarationForm}
use Rattle.name_events.specs.declared.declaration.DeclarationForm.TheVariants as form
use Rattle.name_events.specs.declared.declaration.DeclKind.{DeclKind}
use Rattle.name_events.specs.declared.declaration.DeclKind.TheVariants as kinds
use Rattle.name_events.specs.Denotes.{kind_of}
use Rattle.name_events.specs.Declarations.{is_body_form}
use Rattle.machine.specs.type_definitions.declared.table.InitialValue.{InitialValue}
use Rattle.machine.specs.type_definitions.declared.table.ObjectInfo.{ObjectInfo}
use Rattle.machine.specs.type_definitions.declared.table.Known.{Known}
use Rattle.machine.specs.type_definitions.declared.table.Kind.TheVariants as kind
use Rattle.machine.specs.type_definitions.declared.table.Entry.{Entry}
use Rattle.machine.specs.type_definitions.declared.table.Entry.TheVariants as entry
use Rattle.machine.specs.type_definitions.declared.table.Info.{Info}
use Rattle.machine.specs.type_definitions.declared.table.Shape.TheVariants as shape
use Rattle.machine.specs.type_definitions.Types.{Table, untyped, shape_of, shape_found, meant_type_found}
use Rattle.machine.specs.type_definitions.Entries.{entry_of, integer, is_type, type_of_entry, type_of_mark, marked}
use Rattle.machine.specs.type_definitions.Names.{Context}
use Rattle.machine.specs.type_definitions.Gathered.{gather, each, with_entry, with_indication, own_info, with_object, object_info, constant_value, indicated, with_number, number_info, initial_value, with_formal, with_formal_group, with_formals, with_result, with_front, with_body_front, profile, front_number, is_subprogram, plain_object, parameter_type, in_subprogram, in_visible, in_hidden, declared_number}
use Rattle.machine.specs.type_definitions.Whole.{gather_units}
use Rattle.settled_types.specs.GatheredLaws.Made.{indicated_numbers, all_numbers, front_numbers, type_numbers}
use Rattle.soundness.specs.TypedLaws.TypedPoints.Meant.{IsIndicated}
use Rattle.sound_files.specs.MeantFiles.Declarations.{Declarations, each_as, group_declarations, formal_declarations, front_declarations, body_form, declarations, last_from, IsLow, IsLowIndication, IsLowRange, IsLowGroup, AreLowGroups, IsLowFront, AreLow, AllLow}
use Rattle.sound_files.specs.MeantFiles.Counted.{is_completing, Counts}
use Rattle.sound_files.specs.MeantFiles.Typed.{IsParameterOf, AreIndicated, AreIntegers, AreOf, IsGroupTyped, AreGroupsTyped, IsFrontTyped, AreTyped}
use Rattle.sound_files.proofs.MeantFiles.Lists.{entry_there, entry_other, row_there, row_within, at_most, below_or}
use Rattle.sound_files.proofs.MeantFiles.Given.{counts_has, counts_grow, is_type_kind, kind_class, entry_class, is_put, IsRight, Given, Opened, Goes, goes_both, first_placed, opened, put, put_open, all_given, class_right, indication_given, result_given, indication_open, group_given, body_class, body_given}
use Rattle.sound_files.proofs.MeantFiles.Ranges.{AreFirst, bounds_same}
use Rattle.sound_files.proofs.MeantFiles.Rows.{objects_stay as rows_stay, row_stays}
use Rattle.sound_files.proofs.MeantFiles.Stays.{Without, Quiet, stays, objects_stay, numbers_stay, names_stay, groups_stay}
use Rattle.settled_types.specs.SteadyTypes.Alike.{AreAlike}
use Rattle.settled_types.specs.SteadyTypes.Steady.{IsSteady, AreSteady}

abbrev is_nought : ℕ → Bool
is_nought zero = true
is_nought (suc n) = false

none_between : (k n j : ℕ) → k ≡ j → k ≤ n → n < j → ⊥
none_between k n j same more less = omega (arith, same, more, less)

at_end : (k n j : ℕ) → k ≡ j → n < k → n < j
at_end k n j same less = omega (arith, same, less)

module _ (kind_at : ℕ → DeclKind) (limit : ℕ) where
  -- ---- types

  type_kind : (k : DeclKind) → kind_class k ≡ 0 → is_type_kind k ≡ true
  type_kind kinds.TypeName is = refl
  type_kind _ is = absurd (false≢true (ap is_nought is))

  pub other_kind : (k : DeclKind) (n : ℕ) → kind_class k ≡ suc n → is_type_kind k ≡ false
  other_kind kinds.TypeName n is = absurd (true≢false (ap is_nought is))
  other_kind _ n is = refl

  is_as : (n : ℕ) (e : Entry) → IsRight kind_at n e → is_put e ≡ true → is_type e ≡ is_type_kind (kind_at n)
  is_as n entry.Nothing right put = absurd (true≢false (sym put))
  is_as n entry.Type right put = sym (type_kind (kind_at n) right)
  is_as n entry.Package right put = sym (other_kind (kind_at n) 2 right)
  is_as n (entry.Object o) right put = sym (other_kind (kind_at n) 0 right)
  is_as n (entry.Literal t i) right put = sym (other_kind (kind_at n) 2 right)
  is_as n (entry.Subprogram p) right put = sym (other_kind (kind_at n) 1 right)
  is_as n (entry.Instance t) right put = sym (other_kind (kind_at n) 2 right)
  is_as n (entry.Predefined p) right put = sym (other_kind (kind_at n) 2 right)

  is_none : (n : ℕ) (e : Entry) → IsRight kind_at n e → is_type_kind (kind_at n) ≡ false → is_type e ≡ false
  is_none n entry.Type right never = absurd (true≢false (sym (type_kind (kind_at n) right) ∙ never))
  is_none n entry.Nothing right never = refl
  is_none n entry.Package right never = refl
  is_none n (entry.Object o) right never = refl
  is_none n (entry.Literal t i) right never = refl
  is_none n (entry.Subprogram p) right never = refl
  is_none n (entry.Instance t) right never = refl
  is_none n (entry.Predefined p) right never = refl

  -- A number that stands before here, or is none of a type.
  abbrev IsSure : ℕ → ℕ → Type 0
  IsSure k n = (n < k) ⊎ ((15 ≤ n) × (is_type_kind (kind_at n) ≡ false))

  -- A number that is left free is that of no type.
  abbrev IsHole : ℕ → Type 0
  IsHole h = 15 ≤ h → is_type_kind (kind_at h) ≡ false

  none_open : (xs : List Entry) (k : ℕ) → Given kind_at limit xs k → Opened kind_at limit xs 0 k
  none_open xs k given = record {
    low = given.low;
    right = given.right;
    covered = λ n more less other. given.covered n more less;
    fresh = given.fresh;
    long = given.long;
  }

  none_hole : IsHole 0
  none_hole high = absurd (omega (arith, high))

  same_type : (xs ys : List Entry) (h k n : ℕ) → IsHole h → k ≤ limit → Opened kind_at limit xs h k → Given kind_at limit ys limit → IsSure k n
      → is_type (get_or xs n entry.Nothing) ≡ is_type (get_or ys n entry.Nothing)
  same_type xs ys h k n hole within here there (inr never) =
      is_none n (get_or xs n entry.Nothing) (here.right n never.0) never.1 ∙ sym (is_none n (get_or ys n entry.Nothing) (there.right n never.0) never.1)
  same_type xs ys h k n hole within here there (inl less) = elim (below_or 15 n) [
    | inl low ↦ ap is_type (here.low n low ∙ sym (there.low n low))
    | inr high ↦ elim (cases_eq n h) [
      | inl same ↦
          (let never : is_type_kind (kind_at n) ≡ false = ap (λ m. is_type_kind (kind_at m)) same ∙ hole (omega (arith, high, same)) in
          is_none n (get_or xs n entry.Nothing) (here.right n high) never ∙ sym (is_none n (get_or ys n entry.Nothing) (there.right n high) never))
      | inr other ↦
          is_as n (get_or xs n entry.Nothing) (here.right n high) (here.covered n high less other)
          ∙ sym (is_as n (get_or ys n entry.Nothing) (there.right n high) (there.covered n high (omega (arith, less, within))))
    ]
  ]

  type_or : (d : ℕ) (e : Entry) → type_of_entry d e ≡ (if is_type e then d else untyped)
  type_or d entry.Type = refl
  type_or d _ = refl

  mark_open : (m : Mark) (h k : ℕ) (c known : Known) → IsHole h → k ≤ limit → Opened kind_at limit c.entries h k → Given kind_at limit known.entries limit
      → ((n : ℕ) → m.decl ≡ Some n → IsSure k n) → marked c m ≡ marked known m
  mark_open m h k c known hole within here there sure = by m.decl (λ n is. same_type c.entries known.entries h k n hole within here there (sure n is))
    where
      by : (o : Option ℕ) → ((n : ℕ) → o ≡ Some n → is_type (entry_of c n) ≡ is_type (entry_of known n)) → type_of_mark c o ≡ type_of_mark known o
      by None same = refl
      by (Some d) same =
          type_or d (entry_of c d) ∙ (ap (λ b. if b then d else untyped) (same d refl) ∙ sym (type_or d (entry_of known d)))

  mark_same : (m : Mark) (k : ℕ) (c known : Known) → k ≤ limit → Given kind_at limit c.entries k → Given kind_at limit known.entries limit
      → ((n : ℕ) → m.decl ≡ Some n → IsSure k n) → marked c m ≡ marked known m
  mark_same m k c known within here there sure = mark_open m 0 k c known none_hole within (none_open c.entries k here) there sure

  -- ---- what stays

  is_sub : (n : ℕ) (x : Entry) → IsRight kind_at n x → is_put x ≡ true → kind_class (kind_at n) ≡ 2 → is_subprogram x ≡ true
  is_sub n (entry.Subprogram p) right put two = refl
  is_sub n entry.Nothing right put two = absurd (true≢false (sym put))
  is_sub n entry.Type right put two = absurd (let a = sym right ∙ two in omega (arith, a))
  is_sub n entry.Package right put two = absurd (let a = sym right ∙ two in omega (arith, a))
  is_sub n (entry.Object o) right put two = absurd (let a = sym right ∙ two in omega (arith, a))
  is_sub n (entry.Literal t i) right put two = absurd (let a = sym right ∙ two in omega (arith, a))
  is_sub n (entry.Instance t) right put two = absurd (let a = sym right ∙ two in omega (arith, a))
  is_sub n (entry.Predefined p) right put two = absurd (let a = sym right ∙ two in omega (arith, a))

  -- What stands before, and is no type, isn't declared again but by a body.
  pub calm : (k : ℕ) (L : Declarations) (j n : ℕ) (x : Entry) → Goes kind_at limit k L j → n < k → is_type_kind (kind_at n) ≡ false → IsRight kind_at n x → is_put x ≡ true → Quiet n x L
  calm k L j n x goes less never right put new has = elim (counts_has k L j new n goes.0 has) [
    | inl more ↦ absurd (omega (arith, less, more))
    | inr late ↦ by new late (goes.1 new n has)
  ]
    where
      by : (new : DeclarationForm) → is_completing new ≡ true → kind_of new ≡ kind_at n → (is_body_form new ≡ true) × (is_subprogram x ≡ true)
      by form.FullType late same = absurd (true≢false (ap is_type_kind same ∙ never))
      by form.ProcedureBody late same = (refl, is_sub n x right put (ap kind_class (sym same)))
      by form.FunctionBody late same = (refl, is_sub n x right put (ap kind_class (sym same)))
      by _ late same = absurd (true≢false (sym late))

  -- What stands before and is an object isn't declared again.
  pub alone : (k : ℕ) (L : Declarations) (j n : ℕ) → Goes kind_at limit k L j → n < k → kind_class (kind_at n) ≡ 1 → Without n L
  alone k L j n goes less object new has = elim (counts_has k L j new n goes.0 has) [
    | inl more ↦ absurd (omega (arith, less, more))
    | inr late ↦ by new late (goes.1 new n has)
  ]
    where
      by : (new : DeclarationForm) → is_completing new ≡ true → kind_of new ≡ kind_at n → ⊥
      by form.FullType late same = let a = ap kind_class same ∙ object in omega (arith, a)
      by form.ProcedureBody late same = let a = ap kind_class same ∙ object in omega (arith, a)
      by form.FunctionBody late same = let a = ap kind_class same ∙ object in omega (arith, a)
      by _ late same = true≢false (sym late)

  pub object_form : (k : ℕ) (d : ℕ) (L : Declarations) (j : ℕ) (new : DeclarationForm) → is_completing new ≡ false → Goes kind_at limit k ((new, d) ∷ L) j
      → (d ≡ k) × Goes kind_at limit (suc k) L j × (kind_of new ≡ kind_at d) × (suc k ≤ j)
  object_form k d L j new never goes = elim goes.0 [
    | inl next ↦
        (let high = goes.2 in (
          next.0,
          (next.1, (λ made n has. goes.1 made n (inr has)), omega (arith, high), goes.3),
          goes.1 new d (inl refl),
          counts_grow (suc k) L j next.1,
        ))
    | inr late ↦ absurd (true≢false (sym late.2 ∙ never))
  ]

  -- What is declared up to here, but for types, is as it is known at last, and so are the rows of objects.
  abbrev Agrees : Known → ℕ → Known → Type 0
  Agrees known j c =
      (n : ℕ) → 15 ≤ n → n < j
      → (is_type_kind (kind_at n) ≡ false → entry_of known n ≡ entry_of c n) × (kind_class (kind_at n) ≡ 1 → slice_get known.table n ≡ slice_get c.table n)

  no_type_kind : (new : DeclarationForm) (d : ℕ) → is_type_kind (kind_of new) ≡ false → kind_of new ≡ kind_at d → is_type_kind (kind_at d) ≡ false
  no_type_kind new d is same = ap is_type_kind (sym same) ∙ is

  each_kinds : (new : DeclarationForm) → is_completing new ≡ false → is_type_kind (kind_of new) ≡ false → (ids : Code) (k j : ℕ) → Goes kind_at limit k (each_as new ids) j
      → (n : ℕ) → k ≤ n → n < j → is_type_kind (kind_at n) ≡ false
  each_kinds new never plain (More d rest) k j goes n more less =
      let f = object_form k (declared_number d) (each_as new rest) j new never goes in
      elim (at_most k n more) [
        | inl same ↦ ap (λ m. is_type_kind (kind_at m)) (sym same ∙ sym f.0) ∙ (ap is_type_kind (sym f.2) ∙ plain)
        | inr over ↦ each_kinds new never plain rest (suc k) j f.1 n over less
      ]
  each_kinds new never plain ids k j goes n more less = absurd (none_between k n j goes.0 more less)

  last_low : (new : DeclarationForm) → is_completing new ≡ false → (n : ℕ) (ids : Code) (k j : ℕ) → n < k → Goes kind_at limit k (each_as new ids) j → last_from n ids < j
  last_low new never n (More d rest) k j less goes =
      let f = object_form k (declared_number d) (each_as new rest) j new never goes in
      last_low new never (declared_number d) rest (suc k) j (let a = f.0 in omega (arith, a)) f.1
  last_low new never n ids k j less goes = at_end k n j goes.0 less

  sure_later : (k m n : ℕ) → k ≤ m → IsSure k n → IsSure m n
  sure_later k m n more (inl less) = inl (omega (arith, more, less))
  sure_later k m n more (inr never) = inr never

  -- A mark that denotes nothing after the last of some identifiers.
  each_sure : (new : DeclarationForm) → is_completing new ≡ false → is_type_kind (kind_of new) ≡ false → (ids : Code) (k j : ℕ) (m : Mark)
      → Goes kind_at limit k (each_as new ids) j → IsLow (last_from 0 ids) m → (n : ℕ) → m.decl ≡ Some n → IsSure k n
  each_sure new never plain ids k j m goes low n is =
      let high = goes.2 in
      let last = last_low new never 0 ids k j (omega (arith, high)) goes in
      let under = low n is in
      elim (below_or k n) [
        | inl less ↦ inl less
        | inr more ↦ inr (omega (arith, high, more), each_kinds new never plain ids k j goes n more (omega (arith, under, last)))
      ]

  indicated_open : (new : DeclarationForm) → is_completing new ≡ false → is_type_kind (kind_of new) ≡ false → (d : ℕ) (i ids : Code) (h k m j : ℕ) (c known : Known) → IsHole h
      → IsLowIndication (last_from 0 ids) i → Goes kind_at limit k (each_as new ids) j
      → k ≤ m → m ≤ limit → Opened kind_at limit c.entries h m → Given kind_at limit known.entries limit → indicated c d i ≡ indicated known d i
  indicated_open new never plain d (Plain mark) ids h k m j c known hole low goes more within here there =
      mark_open mark h m c known hole within here there (λ n is. sure_later k m n more (each_sure new never plain ids k j mark goes low n is))
  indicated_open new never plain d (Anonymous p constant mark) ids h k m j c known hole low goes more within here there = refl
  indicated_open new never plain d _ ids h k m j c known hole low goes more within here there = refl

  indicated_same : (d : ℕ) (i ids : Code) (k m j : ℕ) (c known : Known) → IsLowIndication (last_from 0 ids) i → Goes kind_at limit k (each_as form.Object ids) j
      → k ≤ m → m ≤ limit → Given kind_at limit c.entries m → Given kind_at limit known.entries limit → indicated c d i ≡ indicated known d i
  indicated_same d i ids k m j c known low goes more within here there =
      indicated_open form.Object refl refl d i ids 0 k m j c known none_hole low goes more within (none_open c.entries m here) there

  -- one object more
  pub more_given : (new : DeclarationForm) (d k j : ℕ) (L : Declarations) (x : Entry) (xs : List Entry) → Goes kind_at limit k ((new, d) ∷ L) j
      → is_completing new ≡ false → kind_class (kind_of new) ≡ entry_class x → is_put x ≡ true → Given kind_at limit xs k → Given kind_at limit (set xs d x) (suc k)
  more_given new d k j L x xs goes never class is given =
      let f = object_form k d L j new never goes in
      let grows = f.3 in
      let within = goes.3 in
      put kind_at limit xs k d (suc k) x goes.2 (omega (arith, grows, within)) (inl (f.0, refl)) (class_right kind_at limit new d x class f.2) is given

  -- what is put stays till the end
  there_still : (new : DeclarationForm) (d k j : ℕ) (L : Declarations) (x : Entry) (xs : List Entry) → Goes kind_at limit k ((new, d) ∷ L) j → is_completing new ≡ false
      → Given kind_at limit xs k → get_or (set xs d x) d entry.Nothing ≡ x
  there_still new d k j L x xs goes never given =
      let f = object_form k d L j new never goes in
      let at = f.0 in
      let grows = f.3 in
      let within = goes.3 in
      let long = given.long in
      entry_there xs d x entry.Nothing (omega (arith, at, grows, within, long))

  -- The row of an anonymous access type is that of its object.
  viewed : (made : ℕ → Type 0) (i : Code) (n : ℕ) (c : Context) (known : Known) → n < length known.table → slice_get known.table n ≡ slice_get (with_indication n i c).known.table n
      → ((m : ℕ) → Has (indicated_numbers i (n ∷ [])) m → made m) → IsIndicated known made n i
  viewed made (Anonymous p constant m) n c known less same is = (is n (inl refl), marked c.known m, shown (row_there c.known.table n row))
    where
      row : Info
      row = own_info (shape.Access (marked c.known m) constant false) n

      shown : (slice_get (set c.known.table n row) n ≡ Some row) ⊎ (slice_get (set c.known.table n row) n ≡ None)
          → shape_of known.table n ≡ shape.Access (marked c.known m) constant false
      shown (inl there) =
          let here : slice_get known.table n ≡ Some row = same ∙ there in
          ap (λ t. shape_found (slice_get known.table t)) (ap (meant_type_found n) here) ∙ ap shape_found here
      shown (inr none) = absurd (row_within known.table n less (same ∙ none))
  viewed made _ n c known less same is = tt

  more_numbers : (i : Code) (n : ℕ) (ns : List ℕ) (made : ℕ → Type 0) → ((m : ℕ) → Has (indicated_numbers i (n ∷ ns)) m → made m)
      → ((m : ℕ) → Has (indicated_numbers i (n ∷ [])) m → made m) × ((m : ℕ) → Has (indicated_numbers i ns) m → made m)
  more_numbers (Anonymous p constant mark) n ns made all =
      ((λ m has. elim has [ inl same ↦ all m (inl same) | inr never ↦ absurd never ]), (λ m has. all m (inr has)))
  more_numbers _ n ns made all = ((λ m has. absurd has), (λ m has. absurd has))

  objects_typed : (made : ℕ → Type 0) (constant : Bool) (i : Code) (v : InitialValue) (ids : Code) (c : Context) (known : Known) (k j : ℕ)
      → ((m : ℕ) (e : Context) → k ≤ m → m ≤ limit → Given kind_at limit e.known.entries m → (d : ℕ) → indicated e.known d i ≡ indicated known d i)
      → ((m : ℕ) → Has (indicated_numbers i (all_numbers ids)) m → made m) → limit ≤ length known.table
      → Goes kind_at limit k (each_as form.Object ids) j → Given kind_at limit c.known.entries k
      → Agrees known j (each (with_object constant i v) ids c).known → AreIndicated known made constant i ids
  objects_typed made constant i v (More d rest) c known k j same are long goes given agrees =
      let n : ℕ = declared_number d in
      let L : Declarations = each_as form.Object rest in
      let inner : Context = with_indication n i c in
      let x : Entry = entry.Object (object_info c constant (indicated c.known n i) v) in
      let f = object_form k n L j form.Object refl goes in
      let at = f.0 in
      let grows = f.3 in
      let within = goes.3 in
      let high = goes.2 in
      let is : is_type_kind (kind_at n) ≡ false = no_type_kind form.Object n refl f.2 in
      let object : kind_class (kind_at n) ≡ 1 = ap kind_class (sym f.2) in
      let now : Given kind_at limit inner.known.entries k = indication_given kind_at limit n i c k given in
      let stay = objects_stay n x constant i v rest (with_object constant i v d c)
      (calm (suc k) L j n x f.1 (omega (arith, at)) is (class_right kind_at limit form.Object n x refl f.2) refl)
      (there_still form.Object n k j L x inner.known.entries goes refl now) in
      let row = rows_stay n constant i v rest (with_object constant i v d c) (alone (suc k) L j n f.1 (omega (arith, at)) object) in
      let last = agrees n (omega (arith, at, high)) (omega (arith, at, grows)) in
      let numbers = more_numbers i n (all_numbers rest) made are in (
        (object_info c constant (indicated c.known n i) v, last.0 is ∙ stay, same k c (omega arith) (omega (arith, grows, within)) given n, refl),
        viewed made i n c known (omega (arith, at, grows, within, long)) (last.1 object ∙ row) numbers.0,
        objects_typed made constant i v rest (with_object constant i v d c) known (suc k) j (λ m e more. same m e (omega (arith, more))) numbers.1 long f.1
            (more_given form.Object n k j L x inner.known.entries goes refl refl refl now) agrees,
      )
  objects_typed made constant i v ids c known k j same are long goes given agrees = tt

  numbers_typed : (v : InitialValue) (ids : Code) (c : Context) (known : Known) (k j : ℕ) → Goes kind_at limit k (each_as form.Object ids) j
      → Given kind_at limit c.known.entries k → Agrees known j (each (with_number v) ids c).known → AreIntegers known ids
  numbers_typed v (More d rest) c known k j goes given agrees =
      let n : ℕ = declared_number d in
      let L : Declarations = each_as form.Object rest in
      let x : Entry = entry.Object (number_info c v) in
      let f = object_form k n L j form.Object refl goes in
      let at = f.0 in
      let grows = f.3 in
      let high = goes.2 in
      let is : is_type_kind (kind_at n) ≡ false = no_type_kind form.Object n refl f.2 in
      let stay = numbers_stay n x v rest (with_number v d c)
      (calm (suc k) L j n x f.1 (omega (arith, at)) is (class_right kind_at limit form.Object n x refl f.2) refl)
      (there_still form.Object n k j L x c.known.entries goes refl given) in (
        (number_info c v, (agrees n (omega (arith, at, high)) (omega (arith, at, grows))).0 is ∙ stay, refl, refl),
        numbers_typed v rest (with_number v d c) known (suc k) j f.1 (more_given form.Object n k j L x c.known.entries goes refl refl refl given) agrees,
      )
  numbers_typed v ids c known k j goes given agrees = tt

  -- ---- formals

  -- What these numbers are at last.
  abbrev Ends : Known → List ℕ → Known → Type 0
  Ends known ns c = (n : ℕ) → Has ns n → entry_of known n ≡ entry_of c n

  names_typed : (h : ℕ) (of ids : Code) (c : Context) (known : Known) (k : ℕ) (L : Declarations) (j : ℕ)
      → ((m : ℕ) (e : Context) → k ≤ m → m ≤ limit → Opened kind_at limit e.known.entries h m → (d : ℕ) → indicated e.known d of ≡ indicated known d of)
      → Goes kind_at limit k (each_as form.Formal ids ++ L) j → Opened kind_at limit c.known.entries h k → Ends known (all_numbers ids) (each (with_formal of) ids c).known
      → AreOf known of ids
  names_typed h of (More d rest) c known k L j same goes free ends =
      let n : ℕ = declared_number d in
      let K : Declarations = each_as form.Formal rest in
      let inner : Context = with_indication n of c in
      let x : Entry = entry.Object (plain_object (indicated c.known n of) kind.Formal) in
      let f = object_form k n (K ++ L) j form.Formal refl goes in
      let at = f.0 in
      let grows = f.3 in
      let within = goes.3 in
      let is : is_type_kind (kind_at n) ≡ false = no_type_kind form.Formal n refl f.2 in
      let right : IsRight kind_at n x = class_right kind_at limit form.Formal n x refl f.2 in
      let now : Opened kind_at limit inner.known.entries h k = indication_open kind_at limit n of c h k free in
      let long = now.long in
      let s = goes_both kind_at limit (suc k) K L j f.1 in
      let there : get_or (set inner.known.entries n x) n entry.Nothing ≡ x = entry_there inner.known.entries n x entry.Nothing (omega (arith, at, grows, within, long)) in
      let stay = names_stay n x of rest (with_formal of d c) (calm (suc k) K s.0 n x s.1 (omega (arith, at)) is right refl) there in (
        (plain_object (indicated c.known n of) kind.Formal, ends n (inl refl) ∙ stay, same k c (omega arith) (omega (arith, grows, within)) free n, refl),
        names_typed h of rest (with_formal of d c) known (suc k) L j (λ m e more. same m e (omega (arith, more))) f.1
            (put_open kind_at limit inner.known.entries h k n (suc k) x goes.2 (omega (arith, grows, within)) (inl (f.0, refl)) right refl now) (λ m has. ends m (inr has)),
      )
  names_typed h of ids c known k L j same goes free ends = tt

  group_typed : (h : ℕ) (group : Code) (c : Context) (known : Known) (k : ℕ) (L : Declarations) (j : ℕ) → IsHole h → Given kind_at limit known.entries limit → IsLowGroup group
      → Goes kind_at limit k (group_declarations group ++ L) j → Opened kind_at limit c.known.entries h k
      → ((new : DeclarationForm) (n : ℕ) → Has (group_declarations group) (new, n) → entry_of known n ≡ entry_of (with_formal_group group c).known n)
      → IsGroupTyped known group
  group_typed h (Formals names m of) c known k L j hole there low goes free ends =
      let s = goes_both kind_at limit k (each_as form.Formal names) L j goes in
      names_typed h of names c known k L j
      (λ m e more within here d. indicated_open form.Formal refl refl d of names h k m s.0 e.known known hole low s.1 more within here there) goes free
      (λ n has. ends form.Formal n (listed names n has))
    where
      listed : (ids : Code) (n : ℕ) → Has (all_numbers ids) n → Has (each_as form.Formal ids) (form.Formal, n)
      listed (More d rest) n (inl same) = inl (ap (λ m. (form.Formal, m)) same)
      listed (More d rest) n (inr has) = inr (listed rest n has)
      listed ids n has = absurd has
  group_typed h group c known k L j hole there low goes free ends = tt

  formal_class : (ids : Code) (new : DeclarationForm) (n : ℕ) → Has (each_as form.Formal ids) (new, n) → kind_class (kind_of new) ≡ 1
  formal_class (More d rest) new n (inl same) = ap (λ (x : DeclarationForm × ℕ). kind_class (kind_of x.0)) (sym same)
  formal_class (More d rest) new n (inr has) = formal_class rest new n has
  formal_class ids new n has = absurd has

  group_class : (group : Code) (new : DeclarationForm) (n : ℕ) → Has (group_declarations group) (new, n) → kind_class (kind_of new) ≡ 1
  group_class (Formals ids m of) new n has = formal_class ids new n has
  group_class group new n has = absurd has

  groups_class : (formals : Code) (new : DeclarationForm) (n : ℕ) → Has (formal_declarations formals) (new, n) → kind_class (kind_of new) ≡ 1
  groups_class (More group rest) new n has = elim (Has-append_cases (group_declarations group) (formal_declarations rest) (new, n) has) [
    | inl here ↦ group_class group new n here
    | inr later ↦ groups_class rest new n later
  ]
  groups_class formals new n has = absurd has

  front_class : (front : Code) (new : DeclarationForm) (n : ℕ) → Has (front_declarations front) (new, n) → kind_class (kind_of new) ≡ 1
  front_class (Front d formals result) new n has = groups_class formals new n has
  front_class front new n has = absurd has

  -- What these declare is known so at last.
  abbrev Lasts : Known → Declarations → Known → Type 0
  Lasts known L c = (new : DeclarationForm) (n : ℕ) → Has L (new, n) → entry_of known n ≡ entry_of c n

  groups_typed : (h : ℕ) (formals : Code) (c : Context) (known : Known) (k : ℕ) (L : Declarations) (j : ℕ) → IsHole h → Given kind_at limit known.entries limit → AreLowGroups formals
      → Goes kind_at limit k (formal_declarations formals ++ L) j → Opened kind_at limit c.known.entries h k
      → Lasts known (formal_declarations formals) (each with_formal_group formals c).known → AreGroupsTyped known formals
  groups_typed h (More group rest) c known k L j hole there low goes free lasts =
      let M : Declarations = group_declarations group in
      let K : Declarations = formal_declarations rest in
      let middle : Context = with_formal_group group c in
      let whole = subst (λ ds. Goes kind_at limit k ds j) (append_assoc M K L) goes in
      let f = group_given kind_at limit h group c k (K ++ L) j whole free in
      let s = goes_both kind_at limit f.to K L j f.goes in (
        group_typed h group c known k (K ++ L) j hole there low.0 whole free
            (λ new n has.
            lasts new n (Has-append_left M K (new, n) has)
            ∙ groups_stay n (entry_of middle.known n) rest middle
            (λ made is. absurd (alone f.to K s.0 n s.1 (f.below new n has)
            (ap kind_class (sym (whole.1 new n (Has-append_left M (K ++ L) (new, n) has))) ∙ group_class group new n has) made is)) refl),
        groups_typed h rest middle known f.to L j hole there low.1 f.goes f.free (λ new n has. lasts new n (Has-append_right M K (new, n) has)),
      )
  groups_typed h formals c known k L j hole there low goes free lasts = tt

  body_typed : (front : Code) (c : Context) (known : Known) (k : ℕ) (L : Declarations) (j : ℕ) → IsLowFront front
      → Goes kind_at limit k ((body_form front, front_number front) ∷ (front_declarations front ++ L)) j → Given kind_at limit c.known.entries k
      → Given kind_at limit known.entries limit → Lasts known (front_declarations front) (with_body_front front c).known → IsFrontTyped known front
  body_typed (Front d formals result) c known k L j low goes given there lasts = by (is_subprogram (entry_of c.known (declared_number d))) lasts
    where
      h : ℕ
      h = declared_number d

      front : Code
      front = Front d formals result

      two : kind_class (kind_at h) ≡ 2
      two = ap kind_class (sym (goes.1 (body_form front) h (inl refl))) ∙ body_class kind_at limit front

      hole : IsHole h
      hole high = other_kind (kind_at h) 1 two

      other : (new : DeclarationForm) (n : ℕ) → Has (formal_declarations formals) (new, n) → n ≡ h → ⊥
      other new n has same =
          let one : kind_class (kind_at n) ≡ 1
          = ap kind_class (sym (goes.1 new n (inr (Has-append_left (formal_declarations formals) L (new, n) has)))) ∙ groups_class formals new n has in
          let both : kind_class (kind_at n) ≡ 2 = ap (λ m. kind_class (kind_at m)) same ∙ two in
          omega (arith, one, both)

      start : (e : Context) → Given kind_at limit e.known.entries k → Lasts known (formal_declarations formals) (each with_formal_group formals e).known → AreGroupsTyped known formals
      start e now lasts =
          let f = first_placed kind_at limit k (body_form front) h (formal_declarations formals ++ L) j goes in
          groups_typed h formals e known f.0 L j hole there low f.2 (opened kind_at limit e.known.entries h k f.0 f.1 now) lasts

      by : (b : Bool) → Lasts known (formal_declarations formals) (if b then with_formals front c else with_front front c).known → AreGroupsTyped known formals
      by true lasts = start c given lasts
      by false lasts =
          let first : Context = with_result h result c in
          let inner : Context = each with_formal_group formals first in
          start first (result_given kind_at limit h result c k given)
          (λ new n has. lasts new n has
          ∙ entry_other inner.known.entries h n (entry.Subprogram (profile inner.known front)) entry.Nothing (other new n has))
  body_typed front c known k L j low goes given there lasts = tt

  -- ---- rows of predefined types

  counts_high : (k : ℕ) (L : Declarations) (j : ℕ) (new : DeclarationForm) (n : ℕ) → Counts k L j → 15 ≤ k → Has L (new, n) → 15 ≤ n
  counts_high k [] j new n counts high has = absurd has
  counts_high k (x ∷ L) j new n (inl next) high (inl same) =
      let a = next.0 in let b = ap (λ (x : DeclarationForm × ℕ). x.1) same in omega (arith, a, b, high)
  counts_high k (x ∷ L) j new n (inl next) high (inr has) = counts_high (suc k) L j new n next.1 (omega (arith, high)) has
  counts_high k (x ∷ L) j new n (inr late) high (inl same) =
      let a = late.0 in let b = ap (λ (x : DeclarationForm × ℕ). x.1) same in omega (arith, a, b)
  counts_high k (x ∷ L) j new n (inr late) high (inr has) = counts_high k L j new n late.3 high has

  firsts_after : (code : Code) (c : Context) (k j : ℕ) → Goes kind_at limit k (declarations code) j → AreFirst c.known.table
      → AreFirst (gather code c).known.table
  firsts_after code c k j goes firsts t less =
      row_stays t code c (λ new has. let high = counts_high k (declarations code) j new t goes.0 goes.2 has in absurd (omega (arith, high, less))) ∙ firsts t less

  -- ---- parameters of loops

  parameter_same : (d : ℕ) (m : Mark) (k : ℕ) (c known : Known) → k ≤ limit → d ≡ k → 15 ≤ k → is_type_kind (kind_at d) ≡ false → IsLow d m
      → Given kind_at limit c.entries k → Given kind_at limit known.entries limit → marked c m ≡ marked known m
  parameter_same d m k c known within at high never low here there =
      mark_same m k c known within here there (λ n is. let under = low n is in elim (below_or k n) [
        | inl less ↦ inl less
        | inr more ↦ inr (omega (arith, high, more), subst (λ l. is_type_kind (kind_at l) ≡ false) (equal d n (omega (arith, at, more)) under) never)
      ])
    where
      equal : (d n : ℕ) → d ≤ n → n ≤ d → d ≡ n
      equal d n a b = omega (arith, a, b)

  -- what a name before a loop denotes is known, or it is the parameter, which isn't known yet
  names_known : (d k : ℕ) (x : Entry) (c known : Known) → k ≤ limit → d ≡ k → Given kind_at limit c.entries k → Given kind_at limit known.entries limit → Agrees known k c
      → entry_of known d ≡ x → (n : ℕ) → n ≤ d → (entry_of c n ≡ entry_of known n) ⊎ ((entry_of c n ≡ entry.Nothing) × (entry_of known n ≡ x))
  names_known d k x c known within at here there agrees is n under = elim (below_or 15 n) [
    | inl low ↦ inl (here.low n low ∙ sym (there.low n low))
    | inr high ↦
        elim (below_or k n) [
          | inr more ↦ inr (here.fresh n high more, ap (entry_of known) (equal n d under (omega (arith, at, more))) ∙ is)
          | inl less ↦ inl (both (is_type_kind (kind_at n)) refl high less)
        ]
  ]
    where
      equal : (a b : ℕ) → a ≤ b → b ≤ a → a ≡ b
      equal a b le ge = omega (arith, le, ge)

      type_of : (e : Entry) → is_type e ≡ true → e ≡ entry.Type
      type_of entry.Type is = refl
      type_of _ is = absurd (true≢false (sym is))

      both : (b : Bool) → is_type_kind (kind_at n) ≡ b → 15 ≤ n → n < k → entry_of c n ≡ entry_of known n
      both true is high less =
          type_of (entry_of c n) (is_as n (entry_of c n) (here.right n high) (here.covered n high less) ∙ is)
          ∙ sym (type_of (entry_of known n) (is_as n (entry_of known n) (there.right n high) (there.covered n high (omega (arith, less, within))) ∙ is))
      both false is high less = sym ((agrees n high less).0 is)

  parameter_typed : (d range : Code) (k j : ℕ) (L : Declarations) (c outer : Context) → Goes kind_at limit k ((form.LoopParameter, declared_number d) ∷ L) j
      → Given kind_at limit c.known.entries k → Given kind_at limit outer.known.entries limit → IsLowRange (declared_number d) range → Agrees outer.known k c.known
      → AreAlike c.known.table outer.known.table → c.within ≡ outer.within → AreFirst outer.known.table
      → entry_of outer.known (declared_number d) ≡ entry.Object (plain_object (parameter_type c range) kind.Parameter) → IsParameterOf outer d range
  parameter_typed d range k j L c outer goes given ends low agrees alike same lasts is =
      let f = object_form k (declared_number d) L j form.LoopParameter refl goes in
      let within = goes.3 in
      let grows = f.3 in
      by range (omega (arith, within, grows)) f.0 (ap is_type_kind (sym f.2)) low is
    where
      by : (range : Code) → k ≤ limit → declared_number d ≡ k → is_type_kind (kind_at (declared_number d)) ≡ false → IsLowRange (declared_number d) range
          → entry_of outer.known (declared_number d) ≡ entry.Object (plain_object (parameter_type c range) kind.Parameter) → IsParameterOf outer d range
      by (Bounds low high) within at never under is =
          let o : ObjectInfo = plain_object (parameter_type c (Bounds low high)) kind.Parameter in (
            o,
            is,
            bounds_same c outer alike same lasts (declared_number d) o low high refl
                (names_known (declared_number d) k (entry.Object o) c.known outer.known within at given ends agrees is) under,
            refl,
          )
      by (Marked m) within at never under is =
          (plain_object (marked c.known m) kind.Parameter, is, parameter_same (declared_number d) m k c.known outer.known within at goes.2 never under given ends, refl)
      by (Constrained m low high) within at never under is =
          (plain_object (marked c.known m) kind.Parameter, is, parameter_same (declared_number d) m k c.known outer.known within at goes.2 never under given ends, refl)
      by _ within at never under is = (plain_object integer kind.Parameter, is, refl, refl)

  -- ---- all of the code

  agrees_before : (known : Known) (y : Code) (c : Context) (m j : ℕ) → Goes kind_at limit m (declarations y) j → Given kind_at limit c.known.entries m
      → Agrees known j (gather y c).known → Agrees known m c.known
  agrees_before known y c m j goes given agrees n high less =
      let last = agrees n high (let a = counts_grow m (declarations y) j goes.0 in omega (arith, a, less)) in (
        λ never.
            last.0 never
            ∙ stays n (entry_of c.known n) y c (calm m (declarations y) j n (entry_of c.known n) goes less never (given.right n high) (given.covered n high less)) refl,
        λ object. last.1 object ∙ row_stays n y c (alone m (declarations y) j n goes less object),
      )

  abbrev AllMade : (ℕ → Type 0) → List ℕ → Type 0
  AllMade made ns = (m : ℕ) → Has ns m → made m

  made_left : (made : ℕ → Type 0) (ns ms : List ℕ) → AllMade made (ns ++ ms) → AllMade made ns
  made_left made ns ms all m has = all m (Has-append_left ns ms m has)

  made_right : (made : ℕ → Type 0) (ns ms : List ℕ) → AllMade made (ns ++ ms) → AllMade made ms
  made_right made ns ms all m has = all m (Has-append_right ns ms m has)

  typed_all : (made : ℕ → Type 0) (T : Table) (code : Code) (outer c : Context) (k j : ℕ) → AllMade made (type_numbers code) → limit ≤ length outer.known.table → AreLow code → IsSteady T outer.within code c → AreAlike T outer.known.table
      → Goes kind_at limit k (declarations code) j → Given kind_at limit c.known.entries k → Given kind_at limit outer.known.entries limit → AreFirst outer.known.table
      → Agrees outer.known j (gather code c).known → AreTyped made outer code
  unfolding gather type_numbers AreLow IsSteady AreTyped
  typed_all made T (Objects ids constant i v) outer c k j are long low steady alike goes given ends lasts agrees =
      objects_typed made constant i (constant_value c constant v) ids c outer.known k j
      (λ m e more within there d. indicated_same d i ids k m j e.known outer.known low goes more within there ends) are long goes given agrees
  typed_all made T (Numbers ids e) outer c k j are long low steady alike goes given ends lasts agrees = numbers_typed (initial_value c e) ids c outer.known k j goes given agrees
  typed_all made T (SubBody front items stmts end) outer c k j are long low steady alike goes given ends lasts agrees =
      let inner : Context = in_subprogram front (with_body_front front c) in
      let L : Declarations = declarations items ++ declarations stmts in
      let M : List ℕ = type_numbers items ++ type_numbers stmts in
      let more = made_right made (front_numbers front) M are in
      let f = body_given kind_at limit front c k L j goes given in
      let s = goes_both kind_at limit f.0 (declarations items) (declarations stmts) j f.1 in
      let middle = all_given kind_at limit items inner f.0 s.0 s.1 f.2 in
      let before = agrees_before outer.known stmts (gather items inner) s.0 j s.2 middle agrees in
      let first = agrees_before outer.known items inner f.0 s.0 s.1 f.2 before in (
        body_typed front c outer.known k L j low.0 goes given ends
            (λ new n has.
            let one : kind_class (kind_at n) ≡ 1
            = ap kind_class (sym (goes.1 new n (inr (Has-append_left (front_declarations front) L (new, n) has)))) ∙ front_class front new n has in
            (first n (counts_high k ((body_form front, front_number front) ∷ (front_declarations front ++ L)) j new n goes.0 goes.2
            (inr (Has-append_left (front_declarations front) L (new, n) has))) (f.3 new n has)).0 (other_kind (kind_at n) 0 one)),
        typed_all made T items (in_subprogram front outer) inner f.0 s.0 (made_left made (type_numbers items) (type_numbers stmts) more) long low.1 steady.0 alike s.1 f.2 ends lasts before,
        typed_all made T stmts (in_subprogram front outer) (gather items inner) s.0 j (made_right made (type_numbers items) (type_numbers stmts) more) long low.2 steady.1 alike s.2 middle ends lasts agrees,
      )
  typed_all made T (Package d visible hidden) outer c k j are long low steady alike goes given ends lasts agrees =
      let n : ℕ = declared_number d in
      let start : Context = in_visible n (with_entry n entry.Package c) in
      let second : Context = in_hidden n (gather visible start) in
      let f = object_form k n (declarations visible ++ declarations hidden) j form.Package refl goes in
      let now = more_given form.Package n k j (declarations visible ++ declarations hidden) entry.Package c.known.entries goes refl refl refl given in
      let s = goes_both kind_at limit (suc k) (declarations visible) (declarations hidden) j f.1 in
      let middle = all_given kind_at limit visible start (suc k) s.0 s.1 now in (
        typed_all made T visible (in_visible n outer) start (suc k) s.0 (made_left made (type_numbers visible) (type_numbers hidden) are) long low.0 steady.0 alike s.1 now ends lasts (agrees_before outer.known hidden second s.0 j s.2 middle agrees),
        typed_all made T hidden (in_hidden n outer) second s.0 j (made_right made (type_numbers visible) (type_numbers hidden) are) long low.1 steady.1 alike s.2 middle ends lasts agrees,
      )
  typed_all made T (PackageBody d parts) outer c k j are long low steady alike goes given ends lasts agrees =
      typed_all made T parts (in_hidden (declared_number d) outer) (in_hidden (declared_number d) c) k j are long low steady alike goes given ends lasts agrees
  typed_all made T (If p x y) outer c k j are long low steady alike goes given ends lasts agrees =
      let s = goes_both kind_at limit k (declarations x) (declarations y) j goes in
      let middle = all_given kind_at limit x c k s.0 s.1 given in (
        typed_all made T x outer c k s.0 (made_left made (type_numbers x) (type_numbers y) are) long low.0 steady.0 alike s.1 given ends lasts (agrees_before outer.known y (gather x c) s.0 j s.2 middle agrees),
        typed_all made T y outer (gather x c) s.0 j (made_right made (type_numbers x) (type_numbers y) are) long low.1 steady.1 alike s.2 middle ends lasts agrees,
      )
  typed_all made T (Branch p e x) outer c k j are long low steady alike goes given ends lasts agrees = typed_all made T x outer c k j are long low steady alike goes given ends lasts agrees
  typed_all made T (Case p e x) outer c k j are long low steady alike goes given ends lasts agrees = typed_all made T x outer c k j are long low steady alike goes given ends lasts agrees
  typed_all made T (When choices x) outer c k j are long low steady alike goes given ends lasts agrees = typed_all made T x outer c k j are long low steady alike goes given ends lasts agrees
  typed_all made T (Loop p x) outer c k j are long low steady alike goes given ends lasts agrees = typed_all made T x outer c k j are long low steady alike goes given ends lasts agrees
  typed_all made T (While p e x) outer c k j are long low steady alike goes given ends lasts agrees = typed_all made T x outer c k j are long low steady alike goes given ends lasts agrees
  typed_all made T (For p d reversed range x) outer c k j are long low steady alike goes given ends lasts agrees =
      let n : ℕ = declared_number d in
      let o : Entry = entry.Object (plain_object (parameter_type c range) kind.Parameter) in
      let inner : Context = with_entry n o c in
      let f = object_form k n (declarations x) j form.LoopParameter refl goes in
      let at = f.0 in
      let grows = f.3 in
      let high = goes.2 in
      let is : is_type_kind (kind_at n) ≡ false = no_type_kind form.LoopParameter n refl f.2 in
      let known : entry_of outer.known n ≡ o
      = (agrees n (omega (arith, at, high)) (omega (arith, at, grows))).0 is
      ∙ stays n o x inner (calm (suc k) (declarations x) j n o f.1 (omega (arith, at)) is (class_right kind_at limit form.LoopParameter n o refl f.2) refl)
      (there_still form.LoopParameter n k j (declarations x) o c.known.entries goes refl given) in (
        parameter_typed d range k j (declarations x) c outer goes given ends low.0 (agrees_before outer.known (For p d reversed range x) c k j goes given agrees)
            (λ t. sym (steady.0.0 t) ∙ alike t) steady.0.1 lasts known,
        typed_all made T x outer inner (suc k) j are long low.1 steady.1 alike f.1
            (more_given form.LoopParameter n k j (declarations x) o c.known.entries goes refl refl refl given) ends lasts agrees,
      )
  typed_all made T (Block p x y end) outer c k j are long low steady alike goes given ends lasts agrees =
      let s = goes_both kind_at limit k (declarations x) (declarations y) j goes in
      let middle = all_given kind_at limit x c k s.0 s.1 given in (
        typed_all made T x outer c k s.0 (made_left made (type_numbers x) (type_numbers y) are) long low.0 steady.0 alike s.1 given ends lasts (agrees_before outer.known y (gather x c) s.0 j s.2 middle agrees),
        typed_all made T y outer (gather x c) s.0 j (made_right made (type_numbers x) (type_numbers y) are) long low.1 steady.1 alike s.2 middle ends lasts agrees,
      )
  typed_all made T (More x y) outer c k j are long low steady alike goes given ends lasts agrees =
      let s = goes_both kind_at limit k (declarations x) (declarations y) j goes in
      let middle = all_given kind_at limit x c k s.0 s.1 given in (
        typed_all made T x outer c k s.0 (made_left made (type_numbers x) (type_numbers y) are) long low.0 steady.0 alike s.1 given ends lasts (agrees_before outer.known y (gather x c) s.0 j s.2 middle agrees),
        typed_all made T y outer (gather x c) s.0 j (made_right made (type_numbers x) (type_numbers y) are) long low.1 steady.1 alike s.2 middle ends lasts agrees,
      )
  typed_all made T code outer c k j are long low steady alike goes given ends lasts agrees = tt

  -- ---- units

  abbrev All : (Code → Type 0) → List Code → Type 0
  All P units = (u : Code) → Has units u → P u

  pub units_given : (units : List Code) (c : Context) (k j : ℕ) → Goes kind_at limit k (flat_map declarations units) j
      → Given kind_at limit c.known.entries k → Given kind_at limit (gather_units units c).known.entries j
  units_given [] c k j goes given = subst (λ n. Given kind_at limit c.known.entries n) goes.0 given
  units_given (u ∷ rest) c k j goes given =
      let s = goes_both kind_at limit k (declarations u) (flat_map declarations rest) j goes in
      units_given rest (gather u c) s.0 j s.2 (all_given kind_at limit u c k s.0 s.1 given)

  units_before : (known : Known) (units : List Code) (c : Context) (m j : ℕ) → Goes kind_at limit m (flat_map declarations units) j
      → Given kind_at limit c.known.entries m → Agrees known j (gather_units units c).known → Agrees known m c.known
  units_before known [] c m j goes given agrees n high less = agrees n high (let a = goes.0 in omega (arith, a, less))
  units_before known (u ∷ rest) c m j goes given agrees n high less =
      let s = goes_both kind_at limit m (declarations u) (flat_map declarations rest) j goes in
      agrees_before known u c m s.0 s.1 given
      (units_before known rest (gather u c) s.0 j s.2 (all_given kind_at limit u c m s.0 s.1 given) agrees) n high less

  pub units_first : (units : List Code) (c : Context) (k j : ℕ) → Goes kind_at limit k (flat_map declarations units) j
      → AreFirst c.known.table → AreFirst (gather_units units c).known.table
  units_first [] c k j goes firsts = firsts
  units_first (u ∷ rest) c k j goes firsts =
      let s = goes_both kind_at limit k (declarations u) (flat_map declarations rest) j goes in
      units_first rest (gather u c) s.0 j s.2 (firsts_after u c k s.0 s.1 firsts)

  pub units_typed : (made : ℕ → Type 0) (T : Table) (units : List Code) (outer c : Context) (k j : ℕ) → outer.within ≡ None
      → ((m : ℕ) → Has (flat_map type_numbers units) m → made m) → limit ≤ length outer.known.table → AllLow units
      → AreSteady T units c → AreAlike T outer.known.table → Goes kind_at limit k (flat_map declarations units) j → Given kind_at limit c.known.entries k
      → Given kind_at limit outer.known.entries limit → AreFirst outer.known.table → Agrees outer.known j (gather_units units c).known → All (AreTyped made outer) units
  units_typed made T [] outer c k j out are long low steady alike goes given ends lasts agrees u has = absurd has
  units_typed made T (u ∷ rest) outer c k j out are long low steady alike goes given ends lasts agrees v has =
      let s = goes_both kind_at limit k (declarations u) (flat_map declarations rest) j goes in
      let middle = all_given kind_at limit u c k s.0 s.1 given in elim has [
        | inl same ↦
            subst (AreTyped made outer) same
            (typed_all made T u outer c k s.0 (made_left made (type_numbers u) (flat_map type_numbers rest) are) long low.0
            (subst (λ w. IsSteady T w u c) (sym out) steady.0) alike s.1 given ends lasts (units_before outer.known rest (gather u c) s.0 j s.2 middle agrees))
        | inr more ↦
            units_typed made T rest outer (gather u c) s.0 j out (made_right made (type_numbers u) (flat_map type_numbers rest) are) long low.1 steady.1 alike s.2 middle
            ends lasts agrees v more
      ]
