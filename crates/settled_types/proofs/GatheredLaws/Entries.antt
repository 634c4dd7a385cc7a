-- What is known of literals and instances is what the code says.
use Rattle.std.proofs.Common.{ℕ, zero, suc, ◌+◌, Bool, true, false, List, [], ◌∷◌, set, get_or, if◌then◌else◌}
use Rattle.machine.specs.resolved_tree.Trees.{More, Code, Incomplete, Private, TypeDecl, Subtype, ConstrainedSubtype, Objects, Numbers, Instance, Front, SubDecl, SubBody, Package, PackageBody, If, Branch, Case, When, Loop, While, For, Block}
use Rattle.machine.specs.type_definitions.declared.table.Info.{Info}
use Rattle.machine.specs.type_definitions.declared.table.InitialValue.{InitialValue}
use Rattle.machine.specs.type_definitions.declared.table.Entry.{Entry}
use Rattle.machine.specs.type_definitions.declared.table.Entry.TheVariants as entry
use Rattle.machine.specs.type_definitions.declared.table.Kind.TheVariants as kind
use Rattle.machine.specs.type_definitions.Entries.{entry_of}
use Rattle.machine.specs.type_definitions.Names.{Context}
use Rattle.machine.specs.type_definitions.Gathered.{gather, each, with_entry, with_type, with_indication, full_info, with_literals, with_definition, with_object, object_info, constant_value, indicated, with_number, number_info, initial_value, with_formal, with_formal_group, with_formals, with_result, with_front, with_body_front, profile, is_subprogram, front_number, plain_object, parameter_type, in_subprogram, in_visible, in_hidden, instance_type, declared_number}
use Rattle.settled_types.proofs.Cases.{definition_end, each_end, formals_end, front_end, group_end, indication_end, on_access, on_enumeration, on_front, on_group, on_more, result_end}
use Rattle.settled_types.specs.GatheredLaws.Says.{Says, SaysDefined, SaysAll}

entry_put : {A : Type 0} (xs : List A) (d t : ℕ) (x fallback : A) (Q : A → Type 0) → Q x → Q (get_or xs t fallback) → Q (get_or (set xs d x) t fallback)
entry_put [] d t x fallback Q new old = old
entry_put (y ∷ xs) zero zero x fallback Q new old = new
entry_put (y ∷ xs) zero (suc t) x fallback Q new old = old
entry_put (y ∷ xs) (suc d) zero x fallback Q new old = old
entry_put (y ∷ xs) (suc d) (suc t) x fallback Q new old = entry_put xs d t x fallback Q new old

module _ (literal instance : ℕ → Type 0) where
  abbrev pub AreSaid : Context → Type 0
  AreSaid c = (d : ℕ) → Says literal instance (entry_of c.known d)

  put : (d : ℕ) (e : Entry) (c : Context) → Says literal instance e → AreSaid c → AreSaid (with_entry d e c)
  put d e c new are = λ t. entry_put c.known.entries d t e entry.Nothing (Says literal instance) new (are t)

  type_said : (d : ℕ) (i : Info) (c : Context) → AreSaid c → AreSaid (with_type d i c)
  type_said d i c are = put d entry.Type c tt are

  literals_said : (t n : ℕ) (ids : Code) (c : Context) → literal t → AreSaid c → AreSaid (with_literals t n ids c)
  literals_said t n (More d rest) c is are =
      literals_said t (n + 1) rest (with_entry (declared_number d) (entry.Literal t n) c) is (put (declared_number d) (entry.Literal t n) c is are)
  literals_said t n ids c is are = are

  definition_said : (t : ℕ) (def : Code) (c : Context) → SaysDefined literal t def → AreSaid c → AreSaid (with_definition t def c)
  definition_said t = on_enumeration (λ def. (c : Context) → SaysDefined literal t def → AreSaid c → AreSaid (with_definition t def c))
      (λ literals c is are.
      literals_said t 0 literals c is are)
      (λ def other c is are. rw (definition_end t def c other) (are))

  indication_said : (d : ℕ) (i : Code) (c : Context) → AreSaid c → AreSaid (with_indication d i c)
  indication_said d = on_access (λ i. (c : Context) → AreSaid c → AreSaid (with_indication d i c))
      (λ p constant m c are.
      are)
      (λ i other c are. rw (indication_end d i c other) (are))

  each_said : (f : Code → Context → Context) → ((a : Code) (c : Context) → AreSaid c → AreSaid (f a c)) → (ids : Code) (c : Context)
      → AreSaid c → AreSaid (each f ids c)
  each_said f one = on_more (λ ids. (c : Context) → AreSaid c → AreSaid (each f ids c))
      (λ a rest next c are.
      next (f a c) (one a c are))
      (λ ids other c are. rw (each_end f ids c other) (are))

  object_said : (constant : Bool) (i : Code) (v : InitialValue) (d : Code) (c : Context) → AreSaid c → AreSaid (with_object constant i v d c)
  object_said constant i v d c are =
      put (declared_number d) (entry.Object (object_info c constant (indicated c.known (declared_number d) i) v)) (with_indication (declared_number d) i c) tt
      (indication_said (declared_number d) i c are)

  formal_said : (of d : Code) (c : Context) → AreSaid c → AreSaid (with_formal of d c)
  formal_said of d c are =
      put (declared_number d) (entry.Object (plain_object (indicated c.known (declared_number d) of) kind.Formal)) (with_indication (declared_number d) of c) tt
      (indication_said (declared_number d) of c are)

  group_said : (group : Code) (c : Context) → AreSaid c → AreSaid (with_formal_group group c)
  group_said = on_group (λ group. (c : Context) → AreSaid c → AreSaid (with_formal_group group c))
      (λ names m of c are.
      each_said (with_formal of) (formal_said of) names c are)
      (λ group other c are. rw (group_end group c other) (are))

  result_said : (d : ℕ) (result : Code) (c : Context) → AreSaid c → AreSaid (with_result d result c)
  result_said d = on_more (λ result. (c : Context) → AreSaid c → AreSaid (with_result d result c))
      (λ i rest _ c are.
      indication_said d i c are)
      (λ result other c are. rw (result_end d result c other) (are))

  front_said : (front : Code) (c : Context) → AreSaid c → AreSaid (with_front front c)
  front_said = on_front (λ front. (c : Context) → AreSaid c → AreSaid (with_front front c))
      (λ d formals result c are.
      let n : ℕ = declared_number d in
      let inner : Context = each with_formal_group formals (with_result n result c) in
      put n (entry.Subprogram (profile inner.known (Front d formals result))) inner tt
      (each_said with_formal_group group_said formals (with_result n result c) (result_said n result c are)))
      (λ front other c are. rw (front_end front c other) (are))

  formals_said : (front : Code) (c : Context) → AreSaid c → AreSaid (with_formals front c)
  formals_said = on_front (λ front. (c : Context) → AreSaid c → AreSaid (with_formals front c))
      (λ d formals result c are.
      each_said with_formal_group group_said formals c are)
      (λ front other c are. rw (formals_end front c other) (are))

  body_said : (front : Code) (c : Context) → AreSaid c → AreSaid (with_body_front front c)
  body_said front c are = by (is_subprogram (entry_of c.known (front_number front)))
    where
      by : (b : Bool) → AreSaid (if b then with_formals front c else with_front front c)
      by true = formals_said front c are
      by false = front_said front c are

  pub all_said : (code : Code) (c : Context) → SaysAll literal instance code → AreSaid c → AreSaid (gather code c)
  unfolding gather SaysAll
  all_said (Incomplete d) c says are = put (declared_number d) entry.Type c tt are
  all_said (Private d) c says are = put (declared_number d) entry.Type c tt are
  all_said (TypeDecl d def end) c says are =
      let n : ℕ = declared_number d in
      definition_said n def (with_type n (full_info c n def end) c) says (type_said n (full_info c n def end) c are)
  all_said (Subtype d m) c says are = put (declared_number d) entry.Type c tt are
  all_said (ConstrainedSubtype d m low high) c says are = put (declared_number d) entry.Type c tt are
  all_said (Objects ids constant i v) c says are =
      each_said (with_object constant i (constant_value c constant v)) (object_said constant i (constant_value c constant v)) ids c are
  all_said (Numbers ids e) c says are =
      each_said (with_number (initial_value c e)) (λ d k more. put (declared_number d) (entry.Object (number_info k (initial_value c e))) k tt more) ids c are
  all_said (Instance d m args) c says are = put (declared_number d) (entry.Instance (instance_type args)) c says are
  all_said (SubDecl front) c says are = front_said front c are
  all_said (SubBody front items stmts end) c says are =
      let inner : Context = in_subprogram front (with_body_front front c) in
      all_said stmts (gather items inner) says.1 (all_said items inner says.0 (body_said front c are))
  all_said (Package d visible hidden) c says are =
      let n : ℕ = declared_number d in
      let start : Context = in_visible n (with_entry n entry.Package c) in
      all_said hidden (in_hidden n (gather visible start)) says.1 (all_said visible start says.0 (put n entry.Package c tt are))
  all_said (PackageBody d parts) c says are = all_said parts (in_hidden (declared_number d) c) says are
  all_said (If at x y) c says are = all_said y (gather x c) says.1 (all_said x c says.0 are)
  all_said (Branch at e x) c says are = all_said x c says are
  all_said (Case at e x) c says are = all_said x c says are
  all_said (When choices x) c says are = all_said x c says are
  all_said (Loop at x) c says are = all_said x c says are
  all_said (While at e x) c says are = all_said x c says are
  all_said (For at d reversed range x) c says are =
      all_said x (with_entry (declared_number d) (entry.Object (plain_object (parameter_type c range) kind.Parameter)) c) says
      (put (declared_number d) (entry.Object (plain_object (parameter_type c range) kind.Parameter)) c tt are)
  all_said (Block at x y end) c says are = all_said y (gather x c) says.1 (all_said x c says.0 are)
  all_said (More x y) c says are = all_said y (gather x c) says.1 (all_said x c says.0 are)
  all_said code c says are = are
