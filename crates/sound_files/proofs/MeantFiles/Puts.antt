-- What is known to be a subprogram is declared as one.
use Rattle.std.proofs.Common.{◌≡◌, inl, inr, ℕ, zero, suc, ◌+◌, ◌-◌, Bool, true, false, List, [], ◌∷◌, ◌++◌, flat_map, get_or, replicate, refl, subst, Some, if◌then◌else◌, ap}
use Rattle.std.proofs.lemmas.Bool.{false≢true}
use Rattle.std.specs.Prelude.{is_some}
use Rattle.machine.specs.spark_base.Lists.{Has}
use Rattle.soundness.proofs.Lists.{Has-append_left, Has-append_right}
use Rattle.machine.specs.resolved_tree.Trees.{More, Code, Incomplete, Private, TypeDecl, Subtype, ConstrainedSubtype, Objects, Numbers, Instance, Front, SubDecl, SubBody, Package, PackageBody, If, Branch, Case, When, Loop, While, For, Block, Program}
use Rattle.machine.specs.type_definitions.declared.table.InitialValue.{InitialValue}
use Rattle.machine.specs.type_definitions.declared.table.Known.{Known}
use Rattle.machine.specs.type_definitions.declared.table.Kind.TheVariants as kind
use Rattle.machine.specs.type_definitions.declared.table.Profile.{Profile}
use Rattle.machine.specs.type_definitions.declared.table.Entry.{Entry}
use Rattle.machine.specs.type_definitions.declared.table.Entry.TheVariants as entry
use Rattle.machine.specs.type_definitions.Entries.{entry_of}
use Rattle.machine.specs.type_definitions.Expressions.{profile_of}
use Rattle.machine.specs.type_definitions.Names.{Context}
use Rattle.machine.specs.type_definitions.Gathered.{gather, each, with_entry, with_type, with_indication, full_info, with_literals, with_definition, with_object, object_info, constant_value, indicated, with_number, number_info, initial_value, with_formal, with_formal_group, with_formals, with_result, with_front, with_body_front, profile, is_subprogram, front_number, plain_object, parameter_type, in_subprogram, in_visible, in_hidden, instance_type, declared_number}
use Rattle.machine.specs.type_definitions.Whole.{predefined_entries, at_first, outside, gather_units, known_from, known_of}
use Rattle.settled_types.proofs.Cases.{definition_end, each_end, formals_end, front_end, group_end, indication_end, on_access, on_enumeration, on_front, on_group, on_more, result_end}
use Rattle.sound_files.proofs.MeantFiles.Lists.{entry_put}
use Rattle.sound_files.specs.CalledSubs.Called.{sub_numbers}

-- ---- entries

module _ (sub : ℕ → Type 0) where
  abbrev SaidOf : ℕ → Entry → Type 0
  SaidOf d (entry.Subprogram p) = sub d
  SaidOf d e = Unit {0}

  abbrev AreSaid : Context → Type 0
  AreSaid c = (d : ℕ) → SaidOf d (entry_of c.known d)

  -- All of these numbers are such.
  abbrev All : List ℕ → Type 0
  All ns = (n : ℕ) → Has ns n → sub n

  all_left : (ns ms : List ℕ) → All (ns ++ ms) → All ns
  all_left ns ms all n has = all n (Has-append_left ns ms n has)

  all_right : (ns ms : List ℕ) → All (ns ++ ms) → All ms
  all_right ns ms all n has = all n (Has-append_right ns ms n has)

  put : (d : ℕ) (e : Entry) (c : Context) → SaidOf d e → AreSaid c → AreSaid (with_entry d e c)
  put d e c new are = λ t. entry_put SaidOf c.known.entries d t e entry.Nothing new (are t)

  literals_said : (t n : ℕ) (ids : Code) (c : Context) → AreSaid c → AreSaid (with_literals t n ids c)
  literals_said t n (More d rest) c are =
      literals_said t (n + 1) rest (with_entry (declared_number d) (entry.Literal t n) c) (put (declared_number d) (entry.Literal t n) c tt are)
  literals_said t n ids c are = are

  definition_said : (t : ℕ) (def : Code) (c : Context) → AreSaid c → AreSaid (with_definition t def c)
  definition_said t = on_enumeration (λ def. (c : Context) → AreSaid c → AreSaid (with_definition t def c))
      (λ literals c are.
      literals_said t 0 literals c are)
      (λ def other c are. rw (definition_end t def c other) (are))

  indication_said : (d : ℕ) (i : Code) (c : Context) → AreSaid c → AreSaid (with_indication d i c)
  indication_said d = on_access (λ i. (c : Context) → AreSaid c → AreSaid (with_indication d i c))
      (λ p constant m c are.
      are)
      (λ i other c are. rw (indication_end d i c other) (are))

  objects_said : (constant : Bool) (i : Code) (v : InitialValue) (ids : Code) (c : Context) → AreSaid c → AreSaid (each (with_object constant i v) ids c)
  objects_said constant i v = on_more (λ ids. (c : Context) → AreSaid c → AreSaid (each (with_object constant i v) ids c))
      (λ d rest next c are.
      next (with_object constant i v d c)
      (put (declared_number d) (entry.Object (object_info c constant (indicated c.known (declared_number d) i) v)) (with_indication (declared_number d) i c) tt
      (indication_said (declared_number d) i c are)))
      (λ ids other c are. rw (each_end (with_object constant i v) ids c other) (are))

  numbers_said : (v : InitialValue) (ids : Code) (c : Context) → AreSaid c → AreSaid (each (with_number v) ids c)
  numbers_said v = on_more (λ ids. (c : Context) → AreSaid c → AreSaid (each (with_number v) ids c))
      (λ d rest next c are.
      next (with_number v d c) (put (declared_number d) (entry.Object (number_info c v)) c tt are))
      (λ ids other c are. rw (each_end (with_number v) ids c other) (are))

  names_said : (of ids : Code) (c : Context) → AreSaid c → AreSaid (each (with_formal of) ids c)
  names_said of = on_more (λ ids. (c : Context) → AreSaid c → AreSaid (each (with_formal of) ids c))
      (λ d rest next c are.
      next (with_formal of d c)
      (put (declared_number d) (entry.Object (plain_object (indicated c.known (declared_number d) of) kind.Formal)) (with_indication (declared_number d) of c) tt
      (indication_said (declared_number d) of c are)))
      (λ ids other c are. rw (each_end (with_formal of) ids c other) (are))

  group_said : (group : Code) (c : Context) → AreSaid c → AreSaid (with_formal_group group c)
  group_said = on_group (λ group. (c : Context) → AreSaid c → AreSaid (with_formal_group group c))
      (λ names m of c are.
      names_said of names c are)
      (λ group other c are. rw (group_end group c other) (are))

  groups_said : (formals : Code) (c : Context) → AreSaid c → AreSaid (each with_formal_group formals c)
  groups_said = on_more (λ formals. (c : Context) → AreSaid c → AreSaid (each with_formal_group formals c))
      (λ group rest next c are.
      next (with_formal_group group c) (group_said group c are))
      (λ formals other c are. rw (each_end with_formal_group formals c other) (are))

  result_said : (d : ℕ) (result : Code) (c : Context) → AreSaid c → AreSaid (with_result d result c)
  result_said d = on_more (λ result. (c : Context) → AreSaid c → AreSaid (with_result d result c))
      (λ i rest _ c are.
      indication_said d i c are)
      (λ result other c are. rw (result_end d result c other) (are))

  front_said : (front : Code) (c : Context) → sub (front_number front) → AreSaid c → AreSaid (with_front front c)
  front_said = on_front (λ front. (c : Context) → sub (front_number front) → AreSaid c → AreSaid (with_front front c))
      (λ d formals result c is are.
      let n : ℕ = declared_number d in
      let inner : Context = each with_formal_group formals (with_result n result c) in
      put n (entry.Subprogram (profile inner.known (Front d formals result))) inner is
      (groups_said formals (with_result n result c) (result_said n result c are)))
      (λ front other c is are. rw (front_end front c other) (are))

  formals_said : (front : Code) (c : Context) → AreSaid c → AreSaid (with_formals front c)
  formals_said = on_front (λ front. (c : Context) → AreSaid c → AreSaid (with_formals front c))
      (λ d formals result c are.
      groups_said formals c are)
      (λ front other c are. rw (formals_end front c other) (are))

  body_said : (front : Code) (c : Context) → sub (front_number front) → AreSaid c → AreSaid (with_body_front front c)
  body_said front c is are = by (is_subprogram (entry_of c.known (front_number front)))
    where
      by : (b : Bool) → AreSaid (if b then with_formals front c else with_front front c)
      by true = formals_said front c are
      by false = front_said front c is are

  two_said : (x y : Code) (c : Context) → All (sub_numbers x ++ sub_numbers y) → (All (sub_numbers x) → AreSaid (gather x c))
      → ((d : Context) → All (sub_numbers y) → AreSaid d → AreSaid (gather y d)) → AreSaid (gather y (gather x c))
  two_said x y c ss first second =
      second (gather x c) (all_right (sub_numbers x) (sub_numbers y) ss) (first (all_left (sub_numbers x) (sub_numbers y) ss))

  all_said : (code : Code) (c : Context) → All (sub_numbers code) → AreSaid c → AreSaid (gather code c)
  unfolding gather
  all_said (Incomplete d) c ss are = put (declared_number d) entry.Type c tt are
  all_said (Private d) c ss are = put (declared_number d) entry.Type c tt are
  all_said (TypeDecl d def end) c ss are =
      let n : ℕ = declared_number d in
      definition_said n def (with_type n (full_info c n def end) c) (put n entry.Type c tt are)
  all_said (Subtype d m) c ss are = put (declared_number d) entry.Type c tt are
  all_said (ConstrainedSubtype d m low high) c ss are = put (declared_number d) entry.Type c tt are
  all_said (Objects ids constant i v) c ss are = objects_said constant i (constant_value c constant v) ids c are
  all_said (Numbers ids e) c ss are = numbers_said (initial_value c e) ids c are
  all_said (Instance d m args) c ss are = put (declared_number d) (entry.Instance (instance_type args)) c tt are
  all_said (SubDecl front) c ss are = front_said front c (ss (front_number front) (inl refl)) are
  all_said (SubBody front items stmts end) c ss are =
      let inner : Context = in_subprogram front (with_body_front front c) in
      two_said items stmts inner (λ n has. ss n (inr has))
      (λ fss. all_said items inner fss (body_said front c (ss (front_number front) (inl refl)) are)) (all_said stmts)
  all_said (Package d visible hidden) c ss are =
      let n : ℕ = declared_number d in
      let start : Context = in_visible n (with_entry n entry.Package c) in
      all_said hidden (in_hidden n (gather visible start)) (all_right (sub_numbers visible) (sub_numbers hidden) ss)
      (all_said visible start (all_left (sub_numbers visible) (sub_numbers hidden) ss) (put n entry.Package c tt are))
  all_said (PackageBody d parts) c ss are = all_said parts (in_hidden (declared_number d) c) ss are
  all_said (If at x y) c ss are = two_said x y c ss (λ ss. all_said x c ss are) (all_said y)
  all_said (Branch at e x) c ss are = all_said x c ss are
  all_said (Case at e x) c ss are = all_said x c ss are
  all_said (When choices x) c ss are = all_said x c ss are
  all_said (Loop at x) c ss are = all_said x c ss are
  all_said (While at e x) c ss are = all_said x c ss are
  all_said (For at d reversed range x) c ss are =
      all_said x (with_entry (declared_number d) (entry.Object (plain_object (parameter_type c range) kind.Parameter)) c) ss
      (put (declared_number d) (entry.Object (plain_object (parameter_type c range) kind.Parameter)) c tt are)
  all_said (Block at x y end) c ss are = two_said x y c ss (λ ss. all_said x c ss are) (all_said y)
  all_said (More x y) c ss are = two_said x y c ss (λ ss. all_said x c ss are) (all_said y)
  all_said code c ss are = are

  units_said : (units : List Code) (c : Context) → All (flat_map sub_numbers units) → AreSaid c → AreSaid (gather_units units c)
  units_said [] c ss are = are
  units_said (u ∷ rest) c ss are =
      units_said rest (gather u c) (all_right (sub_numbers u) (flat_map sub_numbers rest) ss)
      (all_said u c (all_left (sub_numbers u) (flat_map sub_numbers rest) ss) are)

  nothing_said : (n d e : ℕ) → SaidOf e (get_or (replicate n entry.Nothing) d entry.Nothing)
  nothing_said zero d e = tt
  nothing_said (suc n) zero e = tt
  nothing_said (suc n) (suc d) e = nothing_said n d e

  abbrev AreBare : List Entry → Type 0
  AreBare [] = Unit {0}
  AreBare (x ∷ xs) = ((e : ℕ) → SaidOf e x) × AreBare xs

  rows_said : (xs : List Entry) (n d e : ℕ) → AreBare xs → SaidOf e (get_or (xs ++ replicate n entry.Nothing) d entry.Nothing)
  rows_said [] n d e all = nothing_said n d e
  rows_said (x ∷ xs) n zero e all = all.0 e
  rows_said (x ∷ xs) n (suc d) e all = rows_said xs n d e all.1

  none_at : (e : ℕ) → Unit {0}
  none_at e = tt

  first_said : AreBare predefined_entries
  first_said = (none_at, (none_at, (none_at, (none_at, (none_at, (none_at, (none_at, (none_at, (none_at, (none_at, (none_at, (none_at, (none_at, (none_at, (none_at, tt)))))))))))))))

  known_said : (p : Program) → All (flat_map sub_numbers p.units) → (d : ℕ) → SaidOf d (entry_of (known_of p) d)
  unfolding known_of
  known_said p ss =
      let first : Known = known_from p (at_first false p.count).table in
      units_said p.units (outside (record (at_first false p.count) { table = first.table })) ss (λ d. rows_said predefined_entries (p.count - 15) d d first_said)

-- ---- of programs

module _ (p : Program) where
  abbrev IsSub : ℕ → Type 0
  IsSub = Has (flat_map sub_numbers p.units)

  said : (d : ℕ) → SaidOf IsSub d (entry_of (known_of p) d)
  said = known_said IsSub p (λ n has. has)

  pub subprogram_declared : (d : ℕ) (profile : Profile) → entry_of (known_of p) d ≡ entry.Subprogram profile → Has (flat_map sub_numbers p.units) d
  subprogram_declared d profile is = subst (SaidOf IsSub d) is (said d)

  pub function_declared : (d t : ℕ) → (profile_of (entry_of (known_of p) d)).result ≡ Some t → Has (flat_map sub_numbers p.units) d
  function_declared d t is = by (entry_of (known_of p) d) is (said d)
    where
      by : (e : Entry) → (profile_of e).result ≡ Some t → SaidOf IsSub d e → IsSub d
      by (entry.Subprogram p) is said = said
      by entry.Nothing is said = absurd (false≢true (ap is_some is))
      by entry.Package is said = absurd (false≢true (ap is_some is))
      by entry.Type is said = absurd (false≢true (ap is_some is))
      by (entry.Object o) is said = absurd (false≢true (ap is_some is))
      by (entry.Literal t n) is said = absurd (false≢true (ap is_some is))
      by (entry.Instance t) is said = absurd (false≢true (ap is_some is))
      by (entry.Predefined w) is said = absurd (false≢true (ap is_some is))
