-- What is known of a number stays, where code doesn't declare it, or where it is that of a subprogram whose body
-- this is.
use Rattle.std.proofs.Common.{◌≡◌, inl, inr, ℕ, ◌+◌, Bool, true, false, [], ◌∷◌, ◌++◌, refl, sym, ap, ◌∙◌, true≢false, if◌then◌else◌}
use Rattle.machine.specs.spark_base.Lists.{Has}
use Rattle.soundness.proofs.Lists.{Has-append_left, Has-append_right}
use Rattle.machine.specs.resolved_tree.Trees.{More, Code, Incomplete, Private, TypeDecl, Subtype, ConstrainedSubtype, Objects, Numbers, Instance, Front, SubDecl, SubBody, Package, PackageBody, If, Branch, Case, When, Loop, While, For, Block}
use Rattle.name_events.specs.declared.declaration.DeclarationForm.{DeclarationForm}
use Rattle.name_events.specs.declared.declaration.DeclarationForm.TheVariants as form
use Rattle.name_events.specs.Declarations.{is_body_form}
use Rattle.machine.specs.type_definitions.declared.table.InitialValue.{InitialValue}
use Rattle.machine.specs.type_definitions.declared.table.Kind.TheVariants as kind
use Rattle.machine.specs.type_definitions.declared.table.Entry.{Entry}
use Rattle.machine.specs.type_definitions.declared.table.Entry.TheVariants as entry
use Rattle.machine.specs.type_definitions.Entries.{entry_of}
use Rattle.machine.specs.type_definitions.Names.{Context}
use Rattle.machine.specs.type_definitions.Gathered.{gather, each, with_entry, with_type, with_indication, full_info, with_literals, with_definition, with_object, object_info, constant_value, indicated, with_number, number_info, initial_value, with_formal, with_formal_group, with_formals, with_result, with_front, with_body_front, profile, is_subprogram, front_number, plain_object, parameter_type, in_subprogram, in_visible, in_hidden, instance_type, declared_number}
use Rattle.settled_types.proofs.Cases.{definition_end, each_end, formals_end, front_end, group_end, indication_end, on_access, on_enumeration, on_front, on_group, on_more, result_end}
use Rattle.sound_files.specs.MeantFiles.Declarations.{Declarations, each_as, literals_of, group_declarations, formal_declarations, front_declarations, body_form, declarations}
use Rattle.sound_files.proofs.MeantFiles.Lists.{entry_other}

module _ (n : ℕ) where
  abbrev pub Without : Declarations → Type 0
  Without all = (new : DeclarationForm) → Has all (new, n) → ⊥

  -- `e` is what is known of it
  module _ (e : Entry) where
    -- Bodies alone declare it, of a subprogram that is known.
    abbrev pub Quiet : Declarations → Type 0
    Quiet all = (new : DeclarationForm) → Has all (new, n) → (is_body_form new ≡ true) × (is_subprogram e ≡ true)

    abbrev Is : Context → Type 0
    Is c = entry_of c.known n ≡ e

    left : (L K : Declarations) → Quiet (L ++ K) → Quiet L
    left L K quiet new has = quiet new (Has-append_left L K (new, n) has)

    right : (L K : Declarations) → Quiet (L ++ K) → Quiet K
    right L K quiet new has = quiet new (Has-append_right L K (new, n) has)

    rest : (x : DeclarationForm × ℕ) (L : Declarations) → Quiet (x ∷ L) → Quiet L
    rest x L quiet new has = quiet new (inr has)

    other : (new : DeclarationForm) (d : ℕ) (L : Declarations) → is_body_form new ≡ false → Quiet ((new, d) ∷ L) → n ≡ d → ⊥
    other new d L none quiet same = true≢false (sym (quiet new (inl (ap (λ m. (new, m)) (sym same)))).0 ∙ none)

    put : (new : DeclarationForm) (d : ℕ) (L : Declarations) (x : Entry) (c : Context) → is_body_form new ≡ false → Quiet ((new, d) ∷ L) → Is c → Is (with_entry d x c)
    put new d L x c none quiet is = entry_other c.known.entries d n x entry.Nothing (other new d L none quiet) ∙ is

    literals_stay : (t i : ℕ) (ids : Code) (c : Context) → Quiet (each_as form.Literal ids) → Is c → Is (with_literals t i ids c)
    literals_stay t i (More d more) c quiet is =
        literals_stay t (i + 1) more (with_entry (declared_number d) (entry.Literal t i) c) (rest (form.Literal, declared_number d) (each_as form.Literal more) quiet)
        (put form.Literal (declared_number d) (each_as form.Literal more) (entry.Literal t i) c refl quiet is)
    literals_stay t i ids c quiet is = is

    definition_stays : (t : ℕ) (def : Code) (c : Context) → Quiet (literals_of def) → Is c → Is (with_definition t def c)
    definition_stays t = on_enumeration (λ def. (c : Context) → Quiet (literals_of def) → Is c → Is (with_definition t def c))
        (λ literals c quiet is.
        literals_stay t 0 literals c quiet is)
        (λ def other c quiet is. rw (definition_end t def c other) (is))

    indication_stays : (d : ℕ) (i : Code) (c : Context) → Is c → Is (with_indication d i c)
    indication_stays d = on_access (λ i. (c : Context) → Is c → Is (with_indication d i c))
        (λ p constant m c is.
        is)
        (λ i other c is. rw (indication_end d i c other) (is))

    pub objects_stay : (constant : Bool) (i : Code) (v : InitialValue) (ids : Code) (c : Context) → Quiet (each_as form.Object ids) → Is c → Is (each (with_object constant i v) ids c)
    objects_stay constant i v = on_more (λ ids. (c : Context) → Quiet (each_as form.Object ids) → Is c → Is (each (with_object constant i v) ids c))
        (λ d more next c quiet is.
        let m : ℕ = declared_number d in
        next (with_object constant i v d c) (rest (form.Object, m) (each_as form.Object more) quiet)
        (put form.Object m (each_as form.Object more) (entry.Object (object_info c constant (indicated c.known m i) v)) (with_indication m i c) refl quiet
        (indication_stays m i c is)))
        (λ ids other c quiet is. rw (each_end (with_object constant i v) ids c other) (is))

    pub numbers_stay : (v : InitialValue) (ids : Code) (c : Context) → Quiet (each_as form.Object ids) → Is c → Is (each (with_number v) ids c)
    numbers_stay v = on_more (λ ids. (c : Context) → Quiet (each_as form.Object ids) → Is c → Is (each (with_number v) ids c))
        (λ d more next c quiet is.
        let m : ℕ = declared_number d in
        next (with_number v d c) (rest (form.Object, m) (each_as form.Object more) quiet)
        (put form.Object m (each_as form.Object more) (entry.Object (number_info c v)) c refl quiet is))
        (λ ids other c quiet is. rw (each_end (with_number v) ids c other) (is))

    result_stays : (d : ℕ) (result : Code) (c : Context) → Is c → Is (with_result d result c)
    result_stays d = on_more (λ result. (c : Context) → Is c → Is (with_result d result c))
        (λ i more _ c is.
        indication_stays d i c is)
        (λ result other c is. rw (result_end d result c other) (is))

    pub names_stay : (of ids : Code) (c : Context) → Quiet (each_as form.Formal ids) → Is c → Is (each (with_formal of) ids c)
    names_stay of = on_more (λ ids. (c : Context) → Quiet (each_as form.Formal ids) → Is c → Is (each (with_formal of) ids c))
        (λ d more next c quiet is.
        let m : ℕ = declared_number d in
        next (with_formal of d c) (rest (form.Formal, m) (each_as form.Formal more) quiet)
        (put form.Formal m (each_as form.Formal more) (entry.Object (plain_object (indicated c.known m of) kind.Formal)) (with_indication m of c) refl quiet
        (indication_stays m of c is)))
        (λ ids other c quiet is. rw (each_end (with_formal of) ids c other) (is))

    pub group_stays : (group : Code) (c : Context) → Quiet (group_declarations group) → Is c → Is (with_formal_group group c)
    group_stays = on_group (λ group. (c : Context) → Quiet (group_declarations group) → Is c → Is (with_formal_group group c))
        (λ names m of c quiet is.
        names_stay of names c quiet is)
        (λ group other c quiet is. rw (group_end group c other) (is))

    pub groups_stay : (formals : Code) (c : Context) → Quiet (formal_declarations formals) → Is c → Is (each with_formal_group formals c)
    groups_stay = on_more (λ formals. (c : Context) → Quiet (formal_declarations formals) → Is c → Is (each with_formal_group formals c))
        (λ group more next c quiet is.
        next (with_formal_group group c) (right (group_declarations group) (formal_declarations more) quiet)
        (group_stays group c (left (group_declarations group) (formal_declarations more) quiet) is))
        (λ formals other c quiet is. rw (each_end with_formal_group formals c other) (is))

    front_stays : (front : Code) (c : Context) → Quiet (front_declarations front) → (n ≡ front_number front → ⊥) → Is c → Is (with_front front c)
    front_stays = on_front (λ front. (c : Context) → Quiet (front_declarations front) → (n ≡ front_number front → ⊥) → Is c → Is (with_front front c))
        (λ d formals result c quiet never is.
        let m : ℕ = declared_number d in
        let inner : Context = each with_formal_group formals (with_result m result c) in
        entry_other inner.known.entries m n (entry.Subprogram (profile inner.known (Front d formals result))) entry.Nothing never
        ∙ groups_stay formals (with_result m result c) quiet (result_stays m result c is))
        (λ front other c quiet never is. rw (front_end front c other) (is))

    formals_stay : (front : Code) (c : Context) → Quiet (front_declarations front) → Is c → Is (with_formals front c)
    formals_stay = on_front (λ front. (c : Context) → Quiet (front_declarations front) → Is c → Is (with_formals front c))
        (λ d formals result c quiet is.
        groups_stay formals c quiet is)
        (λ front other c quiet is. rw (formals_end front c other) (is))

    pub body_stays : (front : Code) (L : Declarations) (c : Context) → Quiet ((body_form front, front_number front) ∷ (front_declarations front ++ L)) → Is c
        → Is (with_body_front front c)
    body_stays front L c quiet is = by (is_subprogram (entry_of c.known (front_number front))) refl
      where
        formals : Quiet (front_declarations front)
        formals = left (front_declarations front) L (rest (body_form front, front_number front) (front_declarations front ++ L) quiet)

        by : (b : Bool) → is_subprogram (entry_of c.known (front_number front)) ≡ b → Is (if b then with_formals front c else with_front front c)
        by true known = formals_stay front c formals is
        by false known =
            front_stays front c formals
            (λ same. true≢false (sym (quiet (body_form front) (inl (ap (λ m. (body_form front, m)) (sym same)))).1
            ∙ (ap is_subprogram (sym is) ∙ (ap (λ m. is_subprogram (entry_of c.known m)) same ∙ known)))) is

    pub stays : (code : Code) (c : Context) → Quiet (declarations code) → Is c → Is (gather code c)
    unfolding gather
    stays (Incomplete d) c quiet is = put form.IncompleteType (declared_number d) [] entry.Type c refl quiet is
    stays (Private d) c quiet is = put form.PrivateType (declared_number d) [] entry.Type c refl quiet is
    stays (TypeDecl d def end) c quiet is =
        let m : ℕ = declared_number d in
        definition_stays m def (with_type m (full_info c m def end) c) (rest (form.FullType, m) (literals_of def) quiet)
        (put form.FullType m (literals_of def) entry.Type c refl quiet is)
    stays (Subtype d m) c quiet is = put form.Subtype (declared_number d) [] entry.Type c refl quiet is
    stays (ConstrainedSubtype d m low high) c quiet is = put form.Subtype (declared_number d) [] entry.Type c refl quiet is
    stays (Objects ids constant i v) c quiet is = objects_stay constant i (constant_value c constant v) ids c quiet is
    stays (Numbers ids v) c quiet is = numbers_stay (initial_value c v) ids c quiet is
    stays (Instance d m args) c quiet is = put form.Instance (declared_number d) [] (entry.Instance (instance_type args)) c refl quiet is
    stays (SubDecl front) c quiet is = front_stays front c (rest (form.SubprogramDeclaration, front_number front) (front_declarations front) quiet)
        (other form.SubprogramDeclaration (front_number front) (front_declarations front) refl quiet) is
    stays (SubBody front items stmts end) c quiet is =
        let inner : Context = in_subprogram front (with_body_front front c) in
        let L : Declarations = declarations items ++ declarations stmts in
        let more : Quiet L = right (front_declarations front) L (rest (body_form front, front_number front) (front_declarations front ++ L) quiet) in
        stays stmts (gather items inner) (right (declarations items) (declarations stmts) more)
        (stays items inner (left (declarations items) (declarations stmts) more) (body_stays front L c quiet is))
    stays (Package d visible hidden) c quiet is =
        let m : ℕ = declared_number d in
        let start : Context = in_visible m (with_entry m entry.Package c) in
        let L : Declarations = declarations visible ++ declarations hidden in
        let more : Quiet L = rest (form.Package, m) L quiet in
        stays hidden (in_hidden m (gather visible start)) (right (declarations visible) (declarations hidden) more)
        (stays visible start (left (declarations visible) (declarations hidden) more) (put form.Package m L entry.Package c refl quiet is))
    stays (PackageBody d parts) c quiet is = stays parts (in_hidden (declared_number d) c) quiet is
    stays (If at x y) c quiet is =
        stays y (gather x c) (right (declarations x) (declarations y) quiet) (stays x c (left (declarations x) (declarations y) quiet) is)
    stays (Branch at v x) c quiet is = stays x c quiet is
    stays (Case at v x) c quiet is = stays x c quiet is
    stays (When choices x) c quiet is = stays x c quiet is
    stays (Loop at x) c quiet is = stays x c quiet is
    stays (While at v x) c quiet is = stays x c quiet is
    stays (For at d reversed range x) c quiet is =
        let o : Entry = entry.Object (plain_object (parameter_type c range) kind.Parameter) in
        stays x (with_entry (declared_number d) o c) (rest (form.LoopParameter, declared_number d) (declarations x) quiet)
        (put form.LoopParameter (declared_number d) (declarations x) o c refl quiet is)
    stays (Block at x y end) c quiet is =
        stays y (gather x c) (right (declarations x) (declarations y) quiet) (stays x c (left (declarations x) (declarations y) quiet) is)
    stays (More x y) c quiet is =
        stays y (gather x c) (right (declarations x) (declarations y) quiet) (stays x c (left (declarations x) (declarations y) quiet) is)
    stays code c quiet is = is
