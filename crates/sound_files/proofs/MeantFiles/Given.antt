-- What is known of declarations at a place of the text: each that stands before has its kind.
use Rattle.std.proofs.Common.{◌≡◌, ◌⊎◌, inl, inr, ℕ, suc, ◌+◌, ◌<◌, ◌≤◌, Bool, true, false, List, [], ◌∷◌, ◌++◌, length, set, get_or, refl, sym, ap, ◌∙◌, arith, subst, true≢false, append_assoc, if◌then◌else◌}
use Rattle.std.proofs.lemmas.Bool.{cases_eq}
use Rattle.machine.specs.spark_base.Lists.{Has}
use Rattle.soundness.proofs.Lists.{Has-append_cases, Has-append_left, Has-append_right}
use Rattle.machine.specs.resolved_tree.Trees.{More, Code, Enumeration, Incomplete, Private, TypeDecl, Subtype, ConstrainedSubtype, Objects, Numbers, Instance, Formals, Front, SubDecl, SubBody, Package, PackageBody, If, Branch, Case, When, Loop, While, For, Block}
use Rattle.name_events.specs.declared.declaration.DeclarationForm.{DeclarationForm}
use Rattle.name_events.specs.declared.declaration.DeclarationForm.TheVariants as form
use Rattle.name_events.specs.declared.declaration.DeclKind.{DeclKind}
use Rattle.name_events.specs.declared.declaration.DeclKind.TheVariants as kinds
use Rattle.name_events.specs.Denotes.{kind_of}
use Rattle.machine.specs.type_definitions.declared.table.InitialValue.{InitialValue}
use Rattle.machine.specs.type_definitions.declared.table.Kind.TheVariants as kind
use Rattle.machine.specs.type_definitions.declared.table.Entry.{Entry}
use Rattle.machine.specs.type_definitions.declared.table.Entry.TheVariants as entry
use Rattle.machine.specs.type_definitions.Entries.{entry_of}
use Rattle.machine.specs.type_definitions.Names.{Context}
use Rattle.machine.specs.type_definitions.Gathered.{gather, each, with_entry, with_type, with_indication, full_info, with_literals, with_definition, with_object, object_info, constant_value, indicated, with_number, number_info, initial_value, with_formal, with_formal_group, with_formals, with_result, with_front, with_body_front, profile, is_subprogram, front_number, plain_object, parameter_type, in_subprogram, in_visible, in_hidden, instance_type, declared_number}
use Rattle.machine.specs.type_definitions.Whole.{predefined_entries}
use Rattle.settled_types.proofs.Cases.{indication_end, on_access, on_more, result_end}
use Rattle.sound_files.proofs.MeantFiles.Lists.{entry_put, entry_there, entry_other, set_long, append_nothing, at_most}
use Rattle.sound_files.specs.MeantFiles.Declarations.{Declarations, each_as, literals_of, group_declarations, formal_declarations, front_declarations, body_form, form_of_result, declarations}
use Rattle.sound_files.specs.MeantFiles.Counted.{is_completing, Counts}

-- ---- numbers that are counted

pub counts_grow : (k : ℕ) (L : Declarations) (j : ℕ) → Counts k L j → k ≤ j
counts_grow k [] j is = omega (arith, is)
counts_grow k (x ∷ L) j (inl new) = let more = counts_grow (suc k) L j new.1 in omega (arith, more)
counts_grow k (x ∷ L) j (inr late) = counts_grow k L j late.3

counts_both : (k : ℕ) (L K : Declarations) (j : ℕ) → Counts k (L ++ K) j → (m : ℕ) × Counts k L m × Counts m K j
counts_both k [] K j counts = (k, refl, counts)
counts_both k (x ∷ L) K j (inl new) = let s = counts_both (suc k) L K j new.1 in (s.0, inl (new.0, s.1), s.2)
counts_both k (x ∷ L) K j (inr late) = let s = counts_both k L K j late.3 in (s.0, inr (late.0, late.1, late.2, s.1), s.2)

-- What is counted later has a later number, or completes another declaration.
pub counts_has : (k : ℕ) (L : Declarations) (j : ℕ) (new : DeclarationForm) (n : ℕ) → Counts k L j → Has L (new, n) → (k ≤ n) ⊎ (is_completing new ≡ true)
counts_has k [] j new n counts has = absurd has
counts_has k (x ∷ L) j new n (inl next) (inl same) = let a = next.0 in let b = ap (λ (x : DeclarationForm × ℕ). x.1) same in inl (omega (arith, a, b))
counts_has k (x ∷ L) j new n (inl next) (inr has) = elim (counts_has (suc k) L j new n next.1 has) [
  | inl more ↦ inl (omega (arith, more))
  | inr late ↦ inr late
]
counts_has k (x ∷ L) j new n (inr late) (inl same) = inr (ap (λ (x : DeclarationForm × ℕ). is_completing x.0) (sym same) ∙ late.2)
counts_has k (x ∷ L) j new n (inr late) (inr has) = counts_has k L j new n late.3 has

-- ---- kinds

abbrev pub is_type_kind : DeclKind → Bool
is_type_kind kinds.TypeName = true
is_type_kind _ = false

-- Types are 0, objects 1, subprograms 2, others 3.
abbrev pub kind_class : DeclKind → ℕ
kind_class kinds.TypeName = 0
kind_class kinds.Object = 1
kind_class kinds.Formal = 1
kind_class kinds.Parameter = 1
kind_class kinds.Subprogram = 2
kind_class _ = 3

abbrev pub entry_class : Entry → ℕ
entry_class entry.Type = 0
entry_class (entry.Object o) = 1
entry_class (entry.Subprogram p) = 2
entry_class _ = 3

abbrev pub is_put : Entry → Bool
is_put entry.Nothing = false
is_put _ = true

itself : (k : ℕ) → k ≤ k
itself k = omega arith

module _ (kind_at : ℕ → DeclKind) where
  -- An entry is one of a type where its number is that of a type, and so it is with objects and subprograms.
  abbrev pub IsRight : ℕ → Entry → Type 0
  IsRight n entry.Nothing = Unit {0}
  IsRight n x = kind_class (kind_at n) ≡ entry_class x

  abbrev pub AreKinds : Declarations → Type 0
  AreKinds all = (new : DeclarationForm) (n : ℕ) → Has all (new, n) → kind_of new ≡ kind_at n

  pub record Given (limit : ℕ) (xs : List Entry) (k : ℕ) : Type 0 where
    pub low : (n : ℕ) → n < 15 → get_or xs n entry.Nothing ≡ get_or predefined_entries n entry.Nothing
    pub right : (n : ℕ) → 15 ≤ n → IsRight n (get_or xs n entry.Nothing)
    pub covered : (n : ℕ) → 15 ≤ n → n < k → is_put (get_or xs n entry.Nothing) ≡ true
    pub fresh : (n : ℕ) → 15 ≤ n → k ≤ n → get_or xs n entry.Nothing ≡ entry.Nothing
    pub long : limit ≤ length xs

  -- What is declared here has the next number, or an earlier one.
  abbrev pub Places : ℕ → ℕ → ℕ → Type 0
  Places k d j = ((d ≡ k) × (j ≡ suc k)) ⊎ ((15 ≤ d) × (d < k) × (j ≡ k))

  pub put : (limit : ℕ) (xs : List Entry) (k d j : ℕ) (x : Entry) → 15 ≤ k → j ≤ limit → Places k d j → IsRight d x → is_put x ≡ true → Given limit xs k → Given limit (set xs d x) j
  put limit xs k d j x high within at right is given =
      let late : 15 ≤ d = elim at [ inl next ↦ (let a = next.0 in omega (arith, a, high)) | inr old ↦ old.0 ] in record {
        low = λ n less. entry_other xs d n x entry.Nothing (λ same. omega (arith, same, less, late)) ∙ given.low n less;
        right = λ n more. entry_put IsRight xs d n x entry.Nothing right (given.right n more);
        covered = λ n more less. by n more less (elim at [
          | inl next ↦ (let a = next.0 in let b = next.1 in elim (at_most n d (omega (arith, a, b, less))) [
            | inl same ↦ inl same
            | inr under ↦ inr (omega (arith, under, a))
          ])
          | inr old ↦ (let b = old.2 in inr (omega (arith, b, less)))
        ]);
        fresh = λ n more over.
            entry_other xs d n x entry.Nothing (λ same. elim at [
              | inl next ↦ (let a = next.0 in let b = next.1 in omega (arith, a, b, over, same))
              | inr old ↦ (let a = old.1 in let b = old.2 in omega (arith, a, b, over, same))
            ])
            ∙ given.fresh n more (elim at [
              | inl next ↦ (let b = next.1 in omega (arith, b, over))
              | inr old ↦ (let b = old.2 in omega (arith, b, over))
            ]);
        long = let a = set_long xs d x in let b = given.long in omega (arith, a, b);
      }
    where
      by : (n : ℕ) → 15 ≤ n → n < j → (n ≡ d) ⊎ (n < k) → is_put (get_or (set xs d x) n entry.Nothing) ≡ true
      by n more less (inl same) =
          ap is_put (ap (λ m. get_or (set xs d x) m entry.Nothing) same ∙ entry_there xs d x entry.Nothing (let a = given.long in omega (arith, a, within, same, less))) ∙ is
      by n more less (inr low) = entry_put (λ m e. is_put e ≡ true) xs d n x entry.Nothing is (given.covered n more low)

  -- The same while the formals of the subprogram with the number `h` are declared, before itself.
  pub record Opened (limit : ℕ) (xs : List Entry) (h k : ℕ) : Type 0 where
    pub low : (n : ℕ) → n < 15 → get_or xs n entry.Nothing ≡ get_or predefined_entries n entry.Nothing
    pub right : (n : ℕ) → 15 ≤ n → IsRight n (get_or xs n entry.Nothing)
    pub covered : (n : ℕ) → 15 ≤ n → n < k → (n ≡ h → ⊥) → is_put (get_or xs n entry.Nothing) ≡ true
    pub fresh : (n : ℕ) → 15 ≤ n → k ≤ n → get_or xs n entry.Nothing ≡ entry.Nothing
    pub long : limit ≤ length xs

  -- the subprogram's number is taken
  pub opened : (limit : ℕ) (xs : List Entry) (h k j : ℕ) → Places k h j → Given limit xs k → Opened limit xs h j
  opened limit xs h k j at given = record {
    low = given.low;
    right = given.right;
    covered = λ n more less other. given.covered n more (elim at [
      | inl next ↦ (let a = next.0 in let b = next.1 in elim (at_most n k (omega (arith, b, less))) [
        | inl same ↦ absurd (other (same ∙ sym a))
        | inr under ↦ under
      ])
      | inr old ↦ (let b = old.2 in omega (arith, b, less))
    ]);
    fresh = λ n more over. given.fresh n more (elim at [
      | inl next ↦ (let b = next.1 in omega (arith, b, over))
      | inr old ↦ (let b = old.2 in omega (arith, b, over))
    ]);
    long = given.long;
  }

  pub put_open : (limit : ℕ) (xs : List Entry) (h k d j : ℕ) (x : Entry) → 15 ≤ k → j ≤ limit → Places k d j → IsRight d x → is_put x ≡ true → Opened limit xs h k
      → Opened limit (set xs d x) h j
  put_open limit xs h k d j x high within at right is free =
      let late : 15 ≤ d = elim at [ inl next ↦ (let a = next.0 in omega (arith, a, high)) | inr old ↦ old.0 ] in record {
        low = λ n less. entry_other xs d n x entry.Nothing (λ same. omega (arith, same, less, late)) ∙ free.low n less;
        right = λ n more. entry_put IsRight xs d n x entry.Nothing right (free.right n more);
        covered = λ n more less other. by n more less other (elim at [
          | inl next ↦ (let a = next.0 in let b = next.1 in elim (at_most n d (omega (arith, a, b, less))) [
            | inl same ↦ inl same
            | inr under ↦ inr (omega (arith, under, a))
          ])
          | inr old ↦ (let b = old.2 in inr (omega (arith, b, less)))
        ]);
        fresh = λ n more over.
            entry_other xs d n x entry.Nothing (λ same. elim at [
              | inl next ↦ (let a = next.0 in let b = next.1 in omega (arith, a, b, over, same))
              | inr old ↦ (let a = old.1 in let b = old.2 in omega (arith, a, b, over, same))
            ])
            ∙ free.fresh n more (elim at [
              | inl next ↦ (let b = next.1 in omega (arith, b, over))
              | inr old ↦ (let b = old.2 in omega (arith, b, over))
            ]);
        long = let a = set_long xs d x in let b = free.long in omega (arith, a, b);
      }
    where
      by : (n : ℕ) → 15 ≤ n → n < j → (n ≡ h → ⊥) → (n ≡ d) ⊎ (n < k) → is_put (get_or (set xs d x) n entry.Nothing) ≡ true
      by n more less other (inl same) =
          ap is_put (ap (λ m. get_or (set xs d x) m entry.Nothing) same ∙ entry_there xs d x entry.Nothing (let a = free.long in omega (arith, a, within, same, less))) ∙ is
      by n more less other (inr low) = entry_put (λ m e. is_put e ≡ true) xs d n x entry.Nothing is (free.covered n more low other)

  -- it is declared already
  closed : (limit : ℕ) (xs : List Entry) (h k : ℕ) → is_put (get_or xs h entry.Nothing) ≡ true → Opened limit xs h k → Given limit xs k
  closed limit xs h k is free = record {
    low = free.low;
    right = free.right;
    covered = λ n more less. elim (cases_eq n h) [
      | inl same ↦ ap (λ m. is_put (get_or xs m entry.Nothing)) same ∙ is
      | inr other ↦ free.covered n more less other
    ];
    fresh = free.fresh;
    long = free.long;
  }

  -- or it is declared now
  put_closed : (limit : ℕ) (xs : List Entry) (h k : ℕ) (x : Entry) → 15 ≤ h → h < k → k ≤ limit → IsRight h x → is_put x ≡ true → Opened limit xs h k
      → Given limit (set xs h x) k
  put_closed limit xs h k x high less within right is free =
      let here : Opened limit (set xs h x) h k = record {
        low = λ n small. entry_other xs h n x entry.Nothing (λ same. omega (arith, same, small, high)) ∙ free.low n small;
        right = λ n more. entry_put IsRight xs h n x entry.Nothing right (free.right n more);
        covered = λ n more small other. entry_put (λ m e. is_put e ≡ true) xs h n x entry.Nothing is (free.covered n more small other);
        fresh = λ n more over. entry_other xs h n x entry.Nothing (λ same. omega (arith, same, over, less)) ∙ free.fresh n more over;
        long = let a = set_long xs h x in let b = free.long in omega (arith, a, b);
      } in
      let long = free.long in
      closed limit (set xs h x) h k (ap is_put (entry_there xs h x entry.Nothing (omega (arith, less, within, long))) ∙ is) here

  -- What code declares is counted and has its kinds.
  abbrev pub Goes : ℕ → ℕ → Declarations → ℕ → Type 0
  Goes limit k all j = Counts k all j × AreKinds all × (15 ≤ k) × (j ≤ limit)

  pub goes_both : (limit k : ℕ) (L K : Declarations) (j : ℕ) → Goes limit k (L ++ K) j → (m : ℕ) × Goes limit k L m × Goes limit m K j
  goes_both limit k L K j goes =
      let s = counts_both k L K j goes.0 in
      let first = counts_grow k L s.0 s.1 in
      let second = counts_grow s.0 K j s.2 in
      let high = goes.2 in
      let within = goes.3 in (
        s.0,
        (s.1, (λ new n has. goes.1 new n (Has-append_left L K (new, n) has)), high, omega (arith, second, within)),
        (s.2, (λ new n has. goes.1 new n (Has-append_right L K (new, n) has)), omega (arith, high, first), within),
      )

  -- the first of a list
  pub first_placed : (limit k : ℕ) (new : DeclarationForm) (d : ℕ) (L : Declarations) (j : ℕ) → Goes limit k ((new, d) ∷ L) j
      → (m : ℕ) × Places k d m × Goes limit m L j × (kind_of new ≡ kind_at d) × (m ≤ limit)
  first_placed limit k new d L j goes =
      let high = goes.2 in
      let within = goes.3 in
      let rest : AreKinds L = λ made n has. goes.1 made n (inr has) in
      elim goes.0 [
        | inl next ↦
            (let grows = counts_grow (suc k) L j next.1 in
            (suc k, inl (next.0, refl), (next.1, rest, omega (arith, high), within), goes.1 new d (inl refl), omega (arith, grows, within)))
        | inr late ↦
            (let grows = counts_grow k L j late.3 in
            (k, inr (late.0, late.1, refl), (late.3, rest, high, within), goes.1 new d (inl refl), omega (arith, grows, within)))
      ]

  module _ (limit : ℕ) where
    abbrev pub At : Context → ℕ → Type 0
    At c k = Given limit c.known.entries k

    -- one that is put, and what follows
    one : (k : ℕ) (new : DeclarationForm) (d : ℕ) (L : Declarations) (j : ℕ) (x : Entry) (c : Context) (T : Type 0) → Goes limit k ((new, d) ∷ L) j
        → (kind_of new ≡ kind_at d → IsRight d x) → is_put x ≡ true → At c k → ((m : ℕ) → Goes limit m L j → At (with_entry d x c) m → T) → T
    one k new d L j x c T goes right is given on =
        let f = first_placed limit k new d L j goes in
        on f.0 f.2 (put limit c.known.entries k d f.0 x goes.2 f.4 f.1 (right f.3) is given)

    done : (k j : ℕ) (c : Context) → Goes limit k [] j → At c k → At c j
    done k j c goes given = subst (λ n. At c n) goes.0 given

    pub class_right : (new : DeclarationForm) (d : ℕ) (x : Entry) → kind_class (kind_of new) ≡ entry_class x → kind_of new ≡ kind_at d → IsRight d x
    class_right new d entry.Nothing is same = tt
    class_right new d entry.Type is same = ap kind_class (sym same) ∙ is
    class_right new d entry.Package is same = ap kind_class (sym same) ∙ is
    class_right new d (entry.Object o) is same = ap kind_class (sym same) ∙ is
    class_right new d (entry.Literal t n) is same = ap kind_class (sym same) ∙ is
    class_right new d (entry.Subprogram p) is same = ap kind_class (sym same) ∙ is
    class_right new d (entry.Instance t) is same = ap kind_class (sym same) ∙ is
    class_right new d (entry.Predefined p) is same = ap kind_class (sym same) ∙ is

    literals_given : (t n : ℕ) (ids : Code) (c : Context) (k j : ℕ) → Goes limit k (each_as form.Literal ids) j → At c k → At (with_literals t n ids c) j
    literals_given t n (More d rest) c k j goes given =
        one k form.Literal (declared_number d) (each_as form.Literal rest) j (entry.Literal t n) c (At (with_literals t n (More d rest) c) j) goes
        (class_right form.Literal (declared_number d) (entry.Literal t n) refl) refl given
        (λ m on now. literals_given t (n + 1) rest (with_entry (declared_number d) (entry.Literal t n) c) m j on now)
    literals_given t n ids c k j goes given = done k j c goes given

    definition_given : (t : ℕ) (def : Code) (c : Context) (k j : ℕ) → Goes limit k (literals_of def) j → At c k → At (with_definition t def c) j
    definition_given t (Enumeration literals) c k j goes given = literals_given t 0 literals c k j goes given
    definition_given t def c k j goes given = done k j c goes given

    pub indication_given : (d : ℕ) (i : Code) (c : Context) (k : ℕ) → At c k → At (with_indication d i c) k
    indication_given d = on_access (λ i. (c : Context) → (k : ℕ) → At c k → At (with_indication d i c) k)
        (λ p constant m c k given.
        given)
        (λ i other c k given. rw (indication_end d i c other) (given))

    objects_given : (constant : Bool) (i : Code) (v : InitialValue) (ids : Code) (c : Context) (k j : ℕ) → Goes limit k (each_as form.Object ids) j → At c k
        → At (each (with_object constant i v) ids c) j
    objects_given constant i v (More d rest) c k j goes given =
        let n : ℕ = declared_number d in
        let inner : Context = with_indication n i c in
        let x : Entry = entry.Object (object_info c constant (indicated c.known n i) v) in
        one k form.Object n (each_as form.Object rest) j x inner (At (each (with_object constant i v) (More d rest) c) j) goes
        (class_right form.Object n x refl) refl (indication_given n i c k given)
        (λ m on now. objects_given constant i v rest (with_object constant i v d c) m j on now)
    objects_given constant i v ids c k j goes given = done k j c goes given

    numbers_given : (v : InitialValue) (ids : Code) (c : Context) (k j : ℕ) → Goes limit k (each_as form.Object ids) j → At c k → At (each (with_number v) ids c) j
    numbers_given v (More d rest) c k j goes given =
        let n : ℕ = declared_number d in
        let x : Entry = entry.Object (number_info c v) in
        one k form.Object n (each_as form.Object rest) j x c (At (each (with_number v) (More d rest) c) j) goes
        (class_right form.Object n x refl) refl given (λ m on now. numbers_given v rest (with_number v d c) m j on now)
    numbers_given v ids c k j goes given = done k j c goes given

    pub result_given : (d : ℕ) (result : Code) (c : Context) (k : ℕ) → At c k → At (with_result d result c) k
    result_given d = on_more (λ result. (c : Context) → (k : ℕ) → At c k → At (with_result d result c) k)
        (λ i rest _ c k given.
        indication_given d i c k given)
        (λ result other c k given. rw (result_end d result c other) (given))

    -- the numbers of these are less
    abbrev pub Below : Declarations → ℕ → Type 0
    Below front m = (new : DeclarationForm) (n : ℕ) → Has front (new, n) → n < m

    abbrev pub Open : Context → ℕ → ℕ → Type 0
    Open c h k = Opened limit c.known.entries h k

    -- some formals more
    pub record Formed (front : Declarations) (h k : ℕ) (L : Declarations) (j : ℕ) (c e : Context) : Type 0 where
      pub to : ℕ
      pub below : (new : DeclarationForm) (n : ℕ) → Has front (new, n) → n < to
      pub more : k ≤ to
      pub goes : Goes limit to L j
      pub free : Open e h to
      pub kept : is_put (entry_of c.known h) ≡ true → is_put (entry_of e.known h) ≡ true

    pub indication_open : (d : ℕ) (i : Code) (c : Context) (h k : ℕ) → Open c h k → Open (with_indication d i c) h k
    indication_open d = on_access (λ i. (c : Context) → (h : ℕ) → (k : ℕ) → Open c h k → Open (with_indication d i c) h k)
        (λ p constant m c h k free.
        free)
        (λ i other c h k free. rw (indication_end d i c other) (free))

    indication_kept : (d : ℕ) (i : Code) (c : Context) (h : ℕ) → is_put (entry_of c.known h) ≡ true → is_put (entry_of (with_indication d i c).known h) ≡ true
    indication_kept d = on_access (λ i. (c : Context) → (h : ℕ) → is_put (entry_of c.known h) ≡ true → is_put (entry_of (with_indication d i c).known h) ≡ true)
        (λ p constant m c h is.
        is)
        (λ i other c h is. rw (indication_end d i c other) (is))

    pub names_given : (h : ℕ) (of ids : Code) (c : Context) (k : ℕ) (L : Declarations) (j : ℕ) → Goes limit k (each_as form.Formal ids ++ L) j → Open c h k
        → Formed (each_as form.Formal ids) h k L j c (each (with_formal of) ids c)
    names_given h of (More d rest) c k L j goes free =
        let n : ℕ = declared_number d in
        let inner : Context = with_indication n of c in
        let x : Entry = entry.Object (plain_object (indicated c.known n of) kind.Formal) in
        let f = first_placed limit k form.Formal n (each_as form.Formal rest ++ L) j goes in
        let now = put_open limit inner.known.entries h k n f.0 x goes.2 f.4 f.1 (class_right form.Formal n x refl f.3) refl (indication_open n of c h k free) in
        let g = names_given h of rest (with_formal of d c) f.0 L j f.2 now in
        let first : k ≤ f.0 = elim f.1 [ inl next ↦ (let a = next.1 in omega (arith, a)) | inr old ↦ (let a = old.2 in omega (arith, a)) ] in
        let on = g.more in record {
          to = g.to;
          below = λ new m has. elim has [
            | inl same ↦
                (let a = ap (λ (x : DeclarationForm × ℕ). x.1) same in
                elim f.1 [
                  | inl next ↦ (let b = next.0 in let e = next.1 in omega (arith, a, b, e, on))
                  | inr old ↦ (let b = old.1 in let e = old.2 in omega (arith, a, b, e, on))
                ])
            | inr later ↦ g.below new m later
          ];
          more = omega (arith, first, on);
          goes = g.goes;
          free = g.free;
          kept = λ is. g.kept (entry_put (λ m e. is_put e ≡ true) inner.known.entries n h x entry.Nothing refl (indication_kept n of c h is));
        }
    names_given h of ids c k L j goes free = record { to = k; below = λ new m has. absurd has; more = itself k; goes = goes; free = free; kept = λ is. is }

    pub group_given : (h : ℕ) (group : Code) (c : Context) (k : ℕ) (L : Declarations) (j : ℕ) → Goes limit k (group_declarations group ++ L) j → Open c h k
        → Formed (group_declarations group) h k L j c (with_formal_group group c)
    group_given h (Formals names m of) c k L j goes free = names_given h of names c k L j goes free
    group_given h group c k L j goes free = record { to = k; below = λ new m has. absurd has; more = itself k; goes = goes; free = free; kept = λ is. is }

    pub groups_given : (h : ℕ) (formals : Code) (c : Context) (k : ℕ) (L : Declarations) (j : ℕ) → Goes limit k (formal_declarations formals ++ L) j → Open c h k
        → Formed (formal_declarations formals) h k L j c (each with_formal_group formals c)
    groups_given h (More group rest) c k L j goes free =
        let f = group_given h group c k (formal_declarations rest ++ L) j
        (subst (λ ds. Goes limit k ds j) (append_assoc (group_declarations group) (formal_declarations rest) L) goes) free in
        let g = groups_given h rest (with_formal_group group c) f.to L j f.goes f.free in
        let first = f.more in
        let on = g.more in record {
          to = g.to;
          below = λ new m has. elim (Has-append_cases (group_declarations group) (formal_declarations rest) (new, m) has) [
            | inl here ↦ (let less = f.below new m here in omega (arith, less, on))
            | inr later ↦ g.below new m later
          ];
          more = omega (arith, first, on);
          goes = g.goes;
          free = g.free;
          kept = λ is. g.kept (f.kept is);
        }
    groups_given h formals c k L j goes free = record { to = k; below = λ new m has. absurd has; more = itself k; goes = goes; free = free; kept = λ is. is }

    no_front : (k : ℕ) (new : DeclarationForm) (L : Declarations) (j : ℕ) → Goes limit k ((new, 0) ∷ L) j → ⊥
    no_front k new L j goes =
        let f = first_placed limit k new 0 L j goes in
        let high = goes.2 in elim f.1 [
          | inl next ↦ (let a = next.0 in absurd (omega (arith, a, high)))
          | inr late ↦ (let a = late.0 in absurd (omega (arith, a)))
        ]

    front_given : (new : DeclarationForm) (front : Code) (c : Context) (k : ℕ) (L : Declarations) (j : ℕ) → kind_class (kind_of new) ≡ 2
        → Goes limit k ((new, front_number front) ∷ (front_declarations front ++ L)) j → At c k
        → (m : ℕ) × Goes limit m L j × At (with_front front c) m × Below (front_declarations front) m
    front_given new (Front d formals result) c k L j class goes given =
        let n : ℕ = declared_number d in
        let first : Context = with_result n result c in
        let inner : Context = each with_formal_group formals first in
        let x : Entry = entry.Subprogram (profile inner.known (Front d formals result)) in
        let f = first_placed limit k new n (formal_declarations formals ++ L) j goes in
        let g = groups_given n formals first f.0 L j f.2 (opened limit first.known.entries n k f.0 f.1 (result_given n result c k given)) in
        let high = goes.2 in
        let more = g.more in
        let grows = counts_grow g.to L j g.goes.0 in
        let within = goes.3 in
        let low : 15 ≤ n = elim f.1 [ inl next ↦ (let a = next.0 in omega (arith, a, high)) | inr old ↦ old.0 ] in
        let less : n < f.0 = elim f.1 [ inl next ↦ (let a = next.0 in let b = next.1 in omega (arith, a, b)) | inr old ↦ (let a = old.1 in let b = old.2 in omega (arith, a, b)) ] in
        (g.to, g.goes, put_closed limit inner.known.entries n g.to x low (omega (arith, less, more)) (omega (arith, grows, within)) (class_right new n x class f.3) refl g.free, g.below)
    front_given new front c k L j class goes given = absurd (no_front k new (front_declarations front ++ L) j goes)

    -- of a subprogram that is declared already
    formals_given : (new : DeclarationForm) (front : Code) (c : Context) (k : ℕ) (L : Declarations) (j : ℕ) → is_put (entry_of c.known (front_number front)) ≡ true
        → Goes limit k ((new, front_number front) ∷ (front_declarations front ++ L)) j → At c k
        → (m : ℕ) × Goes limit m L j × At (with_formals front c) m × Below (front_declarations front) m
    formals_given new (Front d formals result) c k L j is goes given =
        let n : ℕ = declared_number d in
        let f = first_placed limit k new n (formal_declarations formals ++ L) j goes in
        let g = groups_given n formals c f.0 L j f.2 (opened limit c.known.entries n k f.0 f.1 given) in
        (g.to, g.goes, closed limit (each with_formal_group formals c).known.entries n g.to (g.kept is) g.free, g.below)
    formals_given new front c k L j is goes given = absurd (no_front k new (front_declarations front ++ L) j goes)

    sub_put : (e : Entry) → is_subprogram e ≡ true → is_put e ≡ true
    sub_put (entry.Subprogram p) is = refl
    sub_put _ is = absurd (true≢false (sym is))

    pub body_class : (front : Code) → kind_class (kind_of (body_form front)) ≡ 2
    body_class (Front d formals result) = by result
      where
        by : (result : Code) → kind_class (kind_of (form_of_result result)) ≡ 2
        by (More i rest) = refl
        by _ = refl
    body_class _ = refl

    pub body_given : (front : Code) (c : Context) (k : ℕ) (L : Declarations) (j : ℕ)
        → Goes limit k ((body_form front, front_number front) ∷ (front_declarations front ++ L)) j → At c k
        → (m : ℕ) × Goes limit m L j × At (with_body_front front c) m × Below (front_declarations front) m
    body_given front c k L j goes given = by (is_subprogram (entry_of c.known (front_number front))) refl
      where
        by : (b : Bool) → is_subprogram (entry_of c.known (front_number front)) ≡ b
            → (m : ℕ) × Goes limit m L j × At (if b then with_formals front c else with_front front c) m × Below (front_declarations front) m
        by true is = formals_given (body_form front) front c k L j (sub_put (entry_of c.known (front_number front)) is) goes given
        by false is = front_given (body_form front) front c k L j (body_class front) goes given

    two_given : (x y : Code) (c : Context) (k j : ℕ) → Goes limit k (declarations x ++ declarations y) j
        → ((m : ℕ) → Goes limit k (declarations x) m → At (gather x c) m) → ((m : ℕ) → Goes limit m (declarations y) j → At (gather x c) m → At (gather y (gather x c)) j)
        → At (gather y (gather x c)) j
    two_given x y c k j goes first second = let s = goes_both limit k (declarations x) (declarations y) j goes in second s.0 s.2 (first s.0 s.1)

    pub all_given : (code : Code) (c : Context) (k j : ℕ) → Goes limit k (declarations code) j → At c k → At (gather code c) j
    unfolding gather
    all_given (Incomplete d) c k j goes given =
        one k form.IncompleteType (declared_number d) [] j entry.Type c (At (gather (Incomplete d) c) j) goes (class_right form.IncompleteType (declared_number d) entry.Type refl) refl given
        (λ m on now. done m j (with_entry (declared_number d) entry.Type c) on now)
    all_given (Private d) c k j goes given =
        one k form.PrivateType (declared_number d) [] j entry.Type c (At (gather (Private d) c) j) goes (class_right form.PrivateType (declared_number d) entry.Type refl) refl given
        (λ m on now. done m j (with_entry (declared_number d) entry.Type c) on now)
    all_given (TypeDecl d def end) c k j goes given =
        let n : ℕ = declared_number d in
        one k form.FullType n (literals_of def) j entry.Type c (At (gather (TypeDecl d def end) c) j) goes (class_right form.FullType n entry.Type refl) refl given
        (λ m on now. definition_given n def (with_type n (full_info c n def end) c) m j on now)
    all_given (Subtype d m) c k j goes given =
        one k form.Subtype (declared_number d) [] j entry.Type c (At (gather (Subtype d m) c) j) goes (class_right form.Subtype (declared_number d) entry.Type refl) refl given
        (λ m on now. done m j (with_entry (declared_number d) entry.Type c) on now)
    all_given (ConstrainedSubtype d m low high) c k j goes given =
        one k form.Subtype (declared_number d) [] j entry.Type c (At (gather (ConstrainedSubtype d m low high) c) j) goes (class_right form.Subtype (declared_number d) entry.Type refl) refl given
        (λ m on now. done m j (with_entry (declared_number d) entry.Type c) on now)
    all_given (Objects ids constant i v) c k j goes given = objects_given constant i (constant_value c constant v) ids c k j goes given
    all_given (Numbers ids e) c k j goes given = numbers_given (initial_value c e) ids c k j goes given
    all_given (Instance d m args) c k j goes given =
        let x : Entry = entry.Instance (instance_type args) in
        one k form.Instance (declared_number d) [] j x c (At (gather (Instance d m args) c) j) goes (class_right form.Instance (declared_number d) x refl) refl given
        (λ m on now. done m j (with_entry (declared_number d) x c) on now)
    all_given (SubDecl front) c k j goes given =
        let f = front_given form.SubprogramDeclaration front c k [] j refl
        (subst (λ L. Goes limit k ((form.SubprogramDeclaration, front_number front) ∷ L) j) (sym (append_nothing (front_declarations front))) goes) given in
        done f.0 j (with_front front c) f.1 f.2
    all_given (SubBody front items stmts end) c k j goes given =
        let inner : Context = in_subprogram front (with_body_front front c) in
        let f = body_given front c k (declarations items ++ declarations stmts) j goes given in
        two_given items stmts inner f.0 j f.1 (λ m on. all_given items inner f.0 m on f.2) (λ m on now. all_given stmts (gather items inner) m j on now)
    all_given (Package d visible hidden) c k j goes given =
        let n : ℕ = declared_number d in
        let start : Context = in_visible n (with_entry n entry.Package c) in
        one k form.Package n (declarations visible ++ declarations hidden) j entry.Package c (At (gather (Package d visible hidden) c) j) goes
        (class_right form.Package n entry.Package refl) refl given
        (λ m on now. let s = goes_both limit m (declarations visible) (declarations hidden) j on in
        all_given hidden (in_hidden n (gather visible start)) s.0 j s.2 (all_given visible start m s.0 s.1 now))
    all_given (PackageBody d parts) c k j goes given = all_given parts (in_hidden (declared_number d) c) k j goes given
    all_given (If at x y) c k j goes given =
        two_given x y c k j goes (λ m on. all_given x c k m on given) (λ m on now. all_given y (gather x c) m j on now)
    all_given (Branch at e x) c k j goes given = all_given x c k j goes given
    all_given (Case at e x) c k j goes given = all_given x c k j goes given
    all_given (When choices x) c k j goes given = all_given x c k j goes given
    all_given (Loop at x) c k j goes given = all_given x c k j goes given
    all_given (While at e x) c k j goes given = all_given x c k j goes given
    all_given (For at d reversed range x) c k j goes given =
        let o : Entry = entry.Object (plain_object (parameter_type c range) kind.Parameter) in
        one k form.LoopParameter (declared_number d) (declarations x) j o c (At (gather (For at d reversed range x) c) j) goes
        (class_right form.LoopParameter (declared_number d) o refl) refl given
        (λ m on now. all_given x (with_entry (declared_number d) o c) m j on now)
    all_given (Block at x y end) c k j goes given =
        two_given x y c k j goes (λ m on. all_given x c k m on given) (λ m on now. all_given y (gather x c) m j on now)
    all_given (More x y) c k j goes given =
        two_given x y c k j goes (λ m on. all_given x c k m on given) (λ m on now. all_given y (gather x c) m j on now)
    all_given code c k j goes given = done k j c goes given
