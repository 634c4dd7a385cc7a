-- The row of a number stays where code doesn't declare it, or where it is that of a subprogram whose body this is.
use Rattle.std.proofs.Common.{◌≡◌, inl, inr, ℕ, ◌+◌, Bool, true, false, [], ◌∷◌, ◌++◌, refl, sym, ap, ◌∙◌, Some, not, ◌||◌, true≢false, if◌then◌else◌}
use Rattle.std.specs.Prelude.{slice_get}
use Rattle.soundness.proofs.Lists.{Has-append_cases, Has-append_left, Has-append_right}
use Rattle.machine.specs.resolved_tree.Trees.{More, Code, Incomplete, Private, TypeDecl, Subtype, ConstrainedSubtype, Objects, Numbers, Instance, Formals, Front, SubDecl, SubBody, Package, PackageBody, If, Branch, Case, When, Loop, While, For, Block}
use Rattle.name_events.specs.declared.declaration.DeclarationForm.{DeclarationForm}
use Rattle.name_events.specs.declared.declaration.DeclarationForm.TheVariants as form
use Rattle.name_events.specs.Declarations.{is_body_form}
use Rattle.machine.specs.type_definitions.declared.table.InitialValue.{InitialValue}
use Rattle.machine.specs.type_definitions.declared.table.Info.{Info}
use Rattle.machine.specs.type_definitions.declared.table.Kind.TheVariants as kind
use Rattle.machine.specs.type_definitions.declared.table.Shape.TheVariants as shape
use Rattle.machine.specs.type_definitions.declared.table.Entry.{Entry}
use Rattle.machine.specs.type_definitions.declared.table.Entry.TheVariants as entry
use Rattle.machine.specs.type_definitions.Types.{info, full, base}
use Rattle.machine.specs.type_definitions.Entries.{entry_of, marked}
use Rattle.machine.specs.type_definitions.Names.{Context}
use Rattle.machine.specs.type_definitions.Gathered.{gather, each, with_entry, with_type, own_info, with_indication, awaited_info, full_info, subtype_info, meant_by, constrained_shape, bound_pair, is_asked, are_static_bounds, with_literals, with_definition, with_object, constant_value, with_number, initial_value, with_formal, with_formal_group, with_formals, with_result, with_front, with_body_front, is_subprogram, front_number, plain_object, parameter_type, in_subprogram, in_visible, in_hidden, declared_number, declared_pos}
use Rattle.settled_types.proofs.Cases.{definition_end, each_end, formals_end, front_end, group_end, indication_end, on_access, on_enumeration, on_front, on_group, on_more, result_end}
use Rattle.sound_files.specs.MeantFiles.Declarations.{Declarations, each_as, literals_of, group_declarations, formal_declarations, front_declarations, body_form, declarations}
use Rattle.sound_files.proofs.MeantFiles.Lists.{entry_other, row_other}
use Rattle.sound_files.proofs.MeantFiles.Stays.{Without, Quiet, body_stays, stays}

module _ (n : ℕ) where
  abbrev Same : Context → Context → Type 0
  Same after c = slice_get after.known.table n ≡ slice_get c.known.table n

  left : (L K : Declarations) → Without n (L ++ K) → Without n L
  left L K never new has = never new (Has-append_left L K (new, n) has)

  right : (L K : Declarations) → Without n (L ++ K) → Without n K
  right L K never new has = never new (Has-append_right L K (new, n) has)

  rest : (x : DeclarationForm × ℕ) (L : Declarations) → Without n (x ∷ L) → Without n L
  rest x L never new has = never new (inr has)

  literals_stay : (t i : ℕ) (ids : Code) (c : Context) → Same (with_literals t i ids c) c
  literals_stay t i (More d more) c = literals_stay t (i + 1) more (with_entry (declared_number d) (entry.Literal t i) c)
  literals_stay t i ids c = refl

  definition_stays : (t : ℕ) (def : Code) (c : Context) → Same (with_definition t def c) c
  definition_stays t = on_enumeration (λ def. (c : Context) → Same (with_definition t def c) c)
      (λ literals c.
      literals_stay t 0 literals c)
      (λ def other c. rw (definition_end t def c other) (refl))

  -- another number
  away : (new : DeclarationForm) (d : ℕ) (L : Declarations) → Without n ((new, d) ∷ L) → n ≡ d → ⊥
  away new d L never same = never new (inl (ap (λ m. (new, m)) (sym same)))

  indication_stays : (d : ℕ) (i : Code) (c : Context) → (n ≡ d → ⊥) → Same (with_indication d i c) c
  indication_stays d = on_access (λ i. (c : Context) → (n ≡ d → ⊥) → Same (with_indication d i c) c)
      (λ p constant m c other.
      row_other c.known.table d n (own_info (shape.Access (marked c.known m) constant false) d) other)
      (λ i another c other. rw (indication_end d i c another) (refl))

  pub objects_stay : (constant : Bool) (i : Code) (v : InitialValue) (ids : Code) (c : Context) → Without n (each_as form.Object ids) → Same (each (with_object constant i v) ids c) c
  objects_stay constant i v = on_more (λ ids. (c : Context) → Without n (each_as form.Object ids) → Same (each (with_object constant i v) ids c) c)
      (λ d more next c never.
      next (with_object constant i v d c) (rest (form.Object, declared_number d) (each_as form.Object more) never)
      ∙ indication_stays (declared_number d) i c (away form.Object (declared_number d) (each_as form.Object more) never))
      (λ ids other c never. rw (each_end (with_object constant i v) ids c other) (refl))

  numbers_stay : (v : InitialValue) (ids : Code) (c : Context) → Same (each (with_number v) ids c) c
  numbers_stay v = on_more (λ ids. (c : Context) → Same (each (with_number v) ids c) c)
      (λ d more next c.
      next (with_number v d c))
      (λ ids other c. rw (each_end (with_number v) ids c other) (refl))

  pub names_stay : (of ids : Code) (c : Context) → Without n (each_as form.Formal ids) → Same (each (with_formal of) ids c) c
  names_stay of = on_more (λ ids. (c : Context) → Without n (each_as form.Formal ids) → Same (each (with_formal of) ids c) c)
      (λ d more next c never.
      next (with_formal of d c) (rest (form.Formal, declared_number d) (each_as form.Formal more) never)
      ∙ indication_stays (declared_number d) of c (away form.Formal (declared_number d) (each_as form.Formal more) never))
      (λ ids other c never. rw (each_end (with_formal of) ids c other) (refl))

  group_stays : (group : Code) (c : Context) → Without n (group_declarations group) → Same (with_formal_group group c) c
  group_stays = on_group (λ group. (c : Context) → Without n (group_declarations group) → Same (with_formal_group group c) c)
      (λ names m of c never.
      names_stay of names c never)
      (λ group other c never. rw (group_end group c other) (refl))

  pub groups_stay : (formals : Code) (c : Context) → Without n (formal_declarations formals) → Same (each with_formal_group formals c) c
  groups_stay = on_more (λ formals. (c : Context) → Without n (formal_declarations formals) → Same (each with_formal_group formals c) c)
      (λ group more next c never.
      next (with_formal_group group c) (right (group_declarations group) (formal_declarations more) never)
      ∙ group_stays group c (left (group_declarations group) (formal_declarations more) never))
      (λ formals other c never. rw (each_end with_formal_group formals c other) (refl))

  result_stays : (d : ℕ) (result : Code) (c : Context) → (n ≡ d → ⊥) → Same (with_result d result c) c
  result_stays d = on_more (λ result. (c : Context) → (n ≡ d → ⊥) → Same (with_result d result c) c)
      (λ i more _ c other.
      indication_stays d i c other)
      (λ result another c other. rw (result_end d result c another) (refl))

  front_stays : (front : Code) (c : Context) → (n ≡ front_number front → ⊥) → Without n (front_declarations front) → Same (with_front front c) c
  front_stays = on_front (λ front. (c : Context) → (n ≡ front_number front → ⊥) → Without n (front_declarations front) → Same (with_front front c) c)
      (λ d formals result c other never.
      groups_stay formals (with_result (declared_number d) result c) never ∙ result_stays (declared_number d) result c other)
      (λ front another c other never. rw (front_end front c another) (refl))

  formals_stay : (front : Code) (c : Context) → Without n (front_declarations front) → Same (with_formals front c) c
  formals_stay = on_front (λ front. (c : Context) → Without n (front_declarations front) → Same (with_formals front c) c)
      (λ d formals result c never.
      groups_stay formals c never)
      (λ front other c never. rw (formals_end front c other) (refl))

  -- ---- where bodies alone declare it, of a subprogram that is known

  away_from : (e : Entry) (new : DeclarationForm) (d : ℕ) (L : Declarations) → is_body_form new ≡ false → Quiet n e ((new, d) ∷ L) → n ≡ d → ⊥
  away_from e new d L none quiet same = true≢false (sym (quiet new (inl (ap (λ m. (new, m)) (sym same)))).0 ∙ none)

  quiet_left : (e : Entry) (L K : Declarations) → Quiet n e (L ++ K) → Quiet n e L
  quiet_left e L K quiet new has = quiet new (Has-append_left L K (new, n) has)

  quiet_right : (e : Entry) (L K : Declarations) → Quiet n e (L ++ K) → Quiet n e K
  quiet_right e L K quiet new has = quiet new (Has-append_right L K (new, n) has)

  quiet_rest : (e : Entry) (x : DeclarationForm × ℕ) (L : Declarations) → Quiet n e (x ∷ L) → Quiet n e L
  quiet_rest e x L quiet new has = quiet new (inr has)

  without_each : (e : Entry) (new : DeclarationForm) → is_body_form new ≡ false → (ids : Code) → Quiet n e (each_as new ids) → Without n (each_as new ids)
  without_each e new none (More d more) quiet made (inl same) =
      away_from e new (declared_number d) (each_as new more) none quiet (sym (ap (λ (x : DeclarationForm × ℕ). x.1) same))
  without_each e new none (More d more) quiet made (inr has) =
      without_each e new none more (quiet_rest e (new, declared_number d) (each_as new more) quiet) made has
  without_each e new none ids quiet made has = absurd has

  without_group : (e : Entry) (group : Code) → Quiet n e (group_declarations group) → Without n (group_declarations group)
  without_group e (Formals names m of) quiet = without_each e form.Formal refl names quiet
  without_group e group quiet = λ made has. absurd has

  without_groups : (e : Entry) (formals : Code) → Quiet n e (formal_declarations formals) → Without n (formal_declarations formals)
  without_groups e (More group more) quiet made has = elim (Has-append_cases (group_declarations group) (formal_declarations more) (made, n) has) [
    | inl here ↦ without_group e group (quiet_left e (group_declarations group) (formal_declarations more) quiet) made here
    | inr later ↦ without_groups e more (quiet_right e (group_declarations group) (formal_declarations more) quiet) made later
  ]
  without_groups e formals quiet made has = absurd has

  without_front : (e : Entry) (front : Code) → Quiet n e (front_declarations front) → Without n (front_declarations front)
  without_front e (Front d formals result) quiet = without_groups e formals quiet
  without_front e front quiet = λ made has. absurd has

  put_away : (e : Entry) (new : DeclarationForm) (d : ℕ) (L : Declarations) (i : Info) (c : Context) → is_body_form new ≡ false → Quiet n e ((new, d) ∷ L)
      → Same (with_type d i c) c
  put_away e new d L i c none quiet = row_other c.known.table d n i (away_from e new d L none quiet)

  row_of_body : (e : Entry) (front : Code) (L : Declarations) (c : Context) → Quiet n e ((body_form front, front_number front) ∷ (front_declarations front ++ L))
      → entry_of c.known n ≡ e → Same (with_body_front front c) c
  row_of_body e front L c quiet is = by (is_subprogram (entry_of c.known (front_number front))) refl
    where
      formals : Without n (front_declarations front)
      formals = without_front e front
          (quiet_left e (front_declarations front) L (quiet_rest e (body_form front, front_number front) (front_declarations front ++ L) quiet))

      by : (b : Bool) → is_subprogram (entry_of c.known (front_number front)) ≡ b → Same (if b then with_formals front c else with_front front c) c
      by true known = formals_stay front c formals
      by false known =
          front_stays front c
          (λ same. true≢false (sym (quiet (body_form front) (inl (ap (λ m. (body_form front, m)) (sym same)))).1
          ∙ (ap is_subprogram (sym is) ∙ (ap (λ m. is_subprogram (entry_of c.known m)) same ∙ known)))) formals

  row_two : (e : Entry) (x y : Code) (c : Context) → Quiet n e (declarations x ++ declarations y) → entry_of c.known n ≡ e
      → (Quiet n e (declarations x) → entry_of c.known n ≡ e → Same (gather x c) c)
      → (Quiet n e (declarations y) → entry_of (gather x c).known n ≡ e → Same (gather y (gather x c)) (gather x c)) → Same (gather y (gather x c)) c
  row_two e x y c quiet is first second =
      let one = quiet_left e (declarations x) (declarations y) quiet in
      second (quiet_right e (declarations x) (declarations y) quiet) (stays n e x c one is) ∙ first one is

  pub row_kept : (e : Entry) (code : Code) (c : Context) → Quiet n e (declarations code) → entry_of c.known n ≡ e → Same (gather code c) c
  unfolding gather
  row_kept e (Incomplete d) c quiet is =
      put_away e form.IncompleteType (declared_number d) [] (record (awaited_info c (declared_number d)) { completed = Some (declared_pos d) }) c refl quiet
  row_kept e (Private d) c quiet is =
      put_away e form.PrivateType (declared_number d) [] (record (awaited_info c (declared_number d)) { seen_in = c.home }) c refl quiet
  row_kept e (TypeDecl d def end) c quiet is =
      let m : ℕ = declared_number d in
      definition_stays m def (with_type m (full_info c m def end) c) ∙ put_away e form.FullType m (literals_of def) (full_info c m def end) c refl quiet
  row_kept e (Subtype d m) c quiet is =
      let t : ℕ = marked c.known m in
      put_away e form.Subtype (declared_number d) [] (subtype_info c.known t (shape.Same (meant_by (info c.known.table t).shape t)) true) c refl quiet
  row_kept e (ConstrainedSubtype d m low high) c quiet is =
      let t : ℕ = marked c.known m in
      put_away e form.Subtype (declared_number d) []
      (subtype_info c.known t (constrained_shape (full c.known.table t) (bound_pair c (base c.known.table t) low high))
      (not (is_asked c) || are_static_bounds c (base c.known.table t) low high)) c refl quiet
  row_kept e (Objects ids constant i v) c quiet is = objects_stay constant i (constant_value c constant v) ids c (without_each e form.Object refl ids quiet)
  row_kept e (Numbers ids v) c quiet is = numbers_stay (initial_value c v) ids c
  row_kept e (Instance d m args) c quiet is = refl
  row_kept e (SubDecl front) c quiet is =
      front_stays front c (away_from e form.SubprogramDeclaration (front_number front) (front_declarations front) refl quiet)
      (without_front e front (quiet_rest e (form.SubprogramDeclaration, front_number front) (front_declarations front) quiet))
  row_kept e (SubBody front items stmts end) c quiet is =
      let inner : Context = in_subprogram front (with_body_front front c) in
      let I : Declarations = declarations items in
      let S : Declarations = declarations stmts in
      let more : Quiet n e (I ++ S)
      = quiet_right e (front_declarations front) (I ++ S) (quiet_rest e (body_form front, front_number front) (front_declarations front ++ (I ++ S)) quiet) in
      let first : entry_of inner.known n ≡ e = body_stays n e front (I ++ S) c quiet is in
      row_kept e stmts (gather items inner) (quiet_right e I S more) (stays n e items inner (quiet_left e I S more) first)
      ∙ (row_kept e items inner (quiet_left e I S more) first ∙ row_of_body e front (I ++ S) c quiet is)
  row_kept e (Package d visible hidden) c quiet is =
      let m : ℕ = declared_number d in
      let start : Context = in_visible m (with_entry m entry.Package c) in
      let V : Declarations = declarations visible in
      let H : Declarations = declarations hidden in
      let more : Quiet n e (V ++ H) = quiet_rest e (form.Package, m) (V ++ H) quiet in
      let first : entry_of start.known n ≡ e
      = entry_other c.known.entries m n entry.Package entry.Nothing (away_from e form.Package m (V ++ H) refl quiet) ∙ is in
      row_kept e hidden (in_hidden m (gather visible start)) (quiet_right e V H more) (stays n e visible start (quiet_left e V H more) first)
      ∙ row_kept e visible start (quiet_left e V H more) first
  row_kept e (PackageBody d parts) c quiet is = row_kept e parts (in_hidden (declared_number d) c) quiet is
  row_kept e (If at x y) c quiet is = row_two e x y c quiet is (row_kept e x c) (row_kept e y (gather x c))
  row_kept e (Branch at v x) c quiet is = row_kept e x c quiet is
  row_kept e (Case at v x) c quiet is = row_kept e x c quiet is
  row_kept e (When choices x) c quiet is = row_kept e x c quiet is
  row_kept e (Loop at x) c quiet is = row_kept e x c quiet is
  row_kept e (While at v x) c quiet is = row_kept e x c quiet is
  row_kept e (For at d reversed range x) c quiet is =
      let m : ℕ = declared_number d in
      let o : Entry = entry.Object (plain_object (parameter_type c range) kind.Parameter) in
      row_kept e x (with_entry m o c) (quiet_rest e (form.LoopParameter, m) (declarations x) quiet)
      (entry_other c.known.entries m n o entry.Nothing (away_from e form.LoopParameter m (declarations x) refl quiet) ∙ is)
  row_kept e (Block at x y end) c quiet is = row_two e x y c quiet is (row_kept e x c) (row_kept e y (gather x c))
  row_kept e (More x y) c quiet is = row_two e x y c quiet is (row_kept e x c) (row_kept e y (gather x c))
  row_kept e code c quiet is = refl

  -- So it is where code doesn't declare it.
  pub row_stays : (code : Code) (c : Context) → Without n (declarations code) → Same (gather code c) c
  row_stays code c never = row_kept (entry_of c.known n) code c (λ new has. absurd (never new has)) refl
