-- What is known as a subprogram is declared as one.
use Rattle.std.proofs.Common.{◌≡◌, inl, inr, ℕ, zero, suc, ◌+◌, ◌-◌, Bool, true, false, List, [], ◌∷◌, ◌++◌, set, get_or, replicate, refl, sym, ◌∙◌, true≢false, if◌then◌else◌}
use Rattle.std.specs.Prelude.{flat_map}
use Rattle.std.specs.List.{AllByRecursion}
use Rattle.machine.specs.spark_base.Lists.{Has}
use Rattle.soundness.proofs.Lists.{Has-append_left, Has-append_right}
use Rattle.machine.specs.resolved_tree.Trees.{More, Code, Incomplete, Private, TypeDecl, Subtype, ConstrainedSubtype, Objects, Numbers, Instance, Front, SubDecl, SubBody, Package, PackageBody, If, Branch, Case, When, Loop, While, For, Block, Program}
use Rattle.machine.specs.type_definitions.declared.table.InitialValue.{InitialValue}
use Rattle.machine.specs.type_definitions.declared.table.Known.{Known}
use Rattle.machine.specs.type_definitions.declared.table.Kind.TheVariants as kind
use Rattle.machine.specs.type_definitions.declared.table.Entry.{Entry}
use Rattle.machine.specs.type_definitions.declared.table.Entry.TheVariants as entry
use Rattle.machine.specs.type_definitions.Entries.{entry_of}
use Rattle.machine.specs.type_definitions.Names.{Context}
use Rattle.machine.specs.type_definitions.Gathered.{gather, each, with_entry, with_type, with_indication, full_info, with_literals, with_definition, with_object, object_info, constant_value, indicated, with_number, number_info, initial_value, with_formal, with_formal_group, with_formals, with_result, with_front, with_body_front, profile, is_subprogram, front_number, plain_object, parameter_type, in_subprogram, in_visible, in_hidden, instance_type, declared_number}
use Rattle.machine.specs.type_definitions.Whole.{predefined_entries, at_first, outside, gather_units, known_from, known_of}
use Rattle.settled_types.proofs.Cases.{definition_end, each_end, formals_end, front_end, group_end, indication_end, on_access, on_enumeration, on_front, on_group, on_more, result_end}
use Rattle.sound_files.specs.CalledSubs.Called.{is_subprogram_entry, sub_numbers}

entry_put : (P : ℕ → Type 0) (xs : List Entry) (d : ℕ) (x : Entry) → (is_subprogram_entry x ≡ true → P d)
    → ((t : ℕ) → is_subprogram_entry (get_or xs t entry.Nothing) ≡ true → P t) → (t : ℕ) → is_subprogram_entry (get_or (set xs d x) t entry.Nothing) ≡ true → P t
entry_put P [] d x new old t is = old t is
entry_put P (y ∷ xs) zero x new old zero is = new is
entry_put P (y ∷ xs) zero x new old (suc t) is = old (suc t) is
entry_put P (y ∷ xs) (suc d) x new old zero is = old zero is
entry_put P (y ∷ xs) (suc d) x new old (suc t) is = entry_put (λ n. P (suc n)) xs d x new (λ t is. old (suc t) is) t is

-- Each subprogram that is known is as asked.
abbrev Keeps : (ℕ → Type 0) → Context → Type 0
Keeps asked c = (d : ℕ) → is_subprogram_entry (entry_of c.known d) ≡ true → asked d

abbrev Are : (ℕ → Type 0) → List ℕ → Type 0
Are asked xs = (d : ℕ) → Has xs d → asked d

module _ (asked : ℕ → Type 0) where
  left : (xs ys : List ℕ) → Are asked (xs ++ ys) → Are asked xs
  left xs ys are = λ d has. are d (Has-append_left xs ys d has)

  right : (xs ys : List ℕ) → Are asked (xs ++ ys) → Are asked ys
  right xs ys are = λ d has. are d (Has-append_right xs ys d has)

  put : (d : ℕ) (x : Entry) (c : Context) → (is_subprogram_entry x ≡ true → asked d) → Keeps asked c → Keeps asked (with_entry d x c)
  put d x c new old = λ t is. entry_put asked c.known.entries d x new old t is

  other : {d : ℕ} → false ≡ true → asked d
  other e = absurd (true≢false (sym e))

  literals_keep : (t n : ℕ) (ids : Code) (c : Context) → Keeps asked c → Keeps asked (with_literals t n ids c)
  literals_keep t n (More d rest) c keeps =
      literals_keep t (n + 1) rest (with_entry (declared_number d) (entry.Literal t n) c) (put (declared_number d) (entry.Literal t n) c other keeps)
  literals_keep t n ids c keeps = keeps

  definition_keeps : (t : ℕ) (def : Code) (c : Context) → Keeps asked c → Keeps asked (with_definition t def c)
  definition_keeps t = on_enumeration (λ def. (c : Context) → Keeps asked c → Keeps asked (with_definition t def c))
      (λ literals c keeps.
      literals_keep t 0 literals c keeps)
      (λ def other c keeps. rw (definition_end t def c other) (keeps))

  indication_keeps : (d : ℕ) (i : Code) (c : Context) → Keeps asked c → Keeps asked (with_indication d i c)
  indication_keeps d = on_access (λ i. (c : Context) → Keeps asked c → Keeps asked (with_indication d i c))
      (λ p constant m c keeps.
      keeps)
      (λ i other c keeps. rw (indication_end d i c other) (keeps))

  each_keeps : (f : Code → Context → Context) → ((a : Code) (c : Context) → Keeps asked c → Keeps asked (f a c)) → (ids : Code) (c : Context)
      → Keeps asked c → Keeps asked (each f ids c)
  each_keeps f one = on_more (λ ids. (c : Context) → Keeps asked c → Keeps asked (each f ids c))
      (λ a rest next c keeps.
      next (f a c) (one a c keeps))
      (λ ids other c keeps. rw (each_end f ids c other) (keeps))

  object_keeps : (constant : Bool) (i : Code) (v : InitialValue) (d : Code) (c : Context) → Keeps asked c → Keeps asked (with_object constant i v d c)
  object_keeps constant i v d c keeps =
      put (declared_number d) (entry.Object (object_info c constant (indicated c.known (declared_number d) i) v)) (with_indication (declared_number d) i c)
      other (indication_keeps (declared_number d) i c keeps)

  result_keeps : (d : ℕ) (result : Code) (c : Context) → Keeps asked c → Keeps asked (with_result d result c)
  result_keeps d = on_more (λ result. (c : Context) → Keeps asked c → Keeps asked (with_result d result c))
      (λ i rest _ c keeps.
      indication_keeps d i c keeps)
      (λ result other c keeps. rw (result_end d result c other) (keeps))

  formal_keeps : (of d : Code) (c : Context) → Keeps asked c → Keeps asked (with_formal of d c)
  formal_keeps of d c keeps =
      put (declared_number d) (entry.Object (plain_object (indicated c.known (declared_number d) of) kind.Formal)) (with_indication (declared_number d) of c)
      other (indication_keeps (declared_number d) of c keeps)

  group_keeps : (g : Code) (c : Context) → Keeps asked c → Keeps asked (with_formal_group g c)
  group_keeps = on_group (λ g. (c : Context) → Keeps asked c → Keeps asked (with_formal_group g c))
      (λ ids m of c keeps.
      each_keeps (with_formal of) (λ d c keeps. formal_keeps of d c keeps) ids c keeps)
      (λ g other c keeps. rw (group_end g c other) (keeps))

  groups_keep : (formals : Code) (c : Context) → Keeps asked c → Keeps asked (each with_formal_group formals c)
  groups_keep formals c keeps = each_keeps with_formal_group (λ g c keeps. group_keeps g c keeps) formals c keeps

  front_keeps : (front : Code) (c : Context) → asked (front_number front) → Keeps asked c → Keeps asked (with_front front c)
  front_keeps = on_front (λ front. (c : Context) → asked (front_number front) → Keeps asked c → Keeps asked (with_front front c))
      (λ d formals result c is keeps.
      let n : ℕ = declared_number d in
      let inner : Context = each with_formal_group formals (with_result n result c) in
      put n (entry.Subprogram (profile inner.known (Front d formals result))) inner (λ e. is)
      (groups_keep formals (with_result n result c) (result_keeps n result c keeps)))
      (λ front other c is keeps. rw (front_end front c other) (keeps))

  formals_keep : (front : Code) (c : Context) → Keeps asked c → Keeps asked (with_formals front c)
  formals_keep = on_front (λ front. (c : Context) → Keeps asked c → Keeps asked (with_formals front c))
      (λ d formals result c keeps.
      groups_keep formals c keeps)
      (λ front other c keeps. rw (formals_end front c other) (keeps))

  body_keeps : (front : Code) (c : Context) → asked (front_number front) → Keeps asked c → Keeps asked (with_body_front front c)
  body_keeps front c is keeps = by (is_subprogram (entry_of c.known (front_number front)))
    where
      by : (b : Bool) → Keeps asked (if b then with_formals front c else with_front front c)
      by true = formals_keep front c keeps
      by false = front_keeps front c is keeps

  code_keeps : (code : Code) (c : Context) → Are asked (sub_numbers code) → Keeps asked c → Keeps asked (gather code c)
  unfolding gather
  code_keeps (Incomplete d) c are keeps = put (declared_number d) entry.Type c other keeps
  code_keeps (Private d) c are keeps = put (declared_number d) entry.Type c other keeps
  code_keeps (TypeDecl d def end) c are keeps =
      let n : ℕ = declared_number d in
      definition_keeps n def (with_type n (full_info c n def end) c) (put n entry.Type c other keeps)
  code_keeps (Subtype d m) c are keeps = put (declared_number d) entry.Type c other keeps
  code_keeps (ConstrainedSubtype d m low high) c are keeps = put (declared_number d) entry.Type c other keeps
  code_keeps (Objects ids constant i v) c are keeps =
      each_keeps (with_object constant i (constant_value c constant v)) (λ d k more. object_keeps constant i (constant_value c constant v) d k more) ids c keeps
  code_keeps (Numbers ids e) c are keeps =
      each_keeps (with_number (initial_value c e)) (λ d k more. put (declared_number d) (entry.Object (number_info k (initial_value c e))) k other more) ids c keeps
  code_keeps (Instance d m args) c are keeps = put (declared_number d) (entry.Instance (instance_type args)) c other keeps
  code_keeps (SubDecl front) c are keeps = front_keeps front c (are (front_number front) (inl refl)) keeps
  code_keeps (SubBody front items stmts end) c are keeps =
      let inner : Context = in_subprogram front (with_body_front front c) in
      let more : Are asked (sub_numbers items ++ sub_numbers stmts) = λ d has. are d (inr has) in
      code_keeps stmts (gather items inner) (right (sub_numbers items) (sub_numbers stmts) more)
      (code_keeps items inner (left (sub_numbers items) (sub_numbers stmts) more) (body_keeps front c (are (front_number front) (inl refl)) keeps))
  code_keeps (Package d visible hidden) c are keeps =
      let n : ℕ = declared_number d in
      let start : Context = in_visible n (with_entry n entry.Package c) in
      code_keeps hidden (in_hidden n (gather visible start)) (right (sub_numbers visible) (sub_numbers hidden) are)
      (code_keeps visible start (left (sub_numbers visible) (sub_numbers hidden) are) (put n entry.Package c other keeps))
  code_keeps (PackageBody d parts) c are keeps = code_keeps parts (in_hidden (declared_number d) c) are keeps
  code_keeps (If p x y) c are keeps =
      code_keeps y (gather x c) (right (sub_numbers x) (sub_numbers y) are) (code_keeps x c (left (sub_numbers x) (sub_numbers y) are) keeps)
  code_keeps (Branch p e x) c are keeps = code_keeps x c are keeps
  code_keeps (Case p e x) c are keeps = code_keeps x c are keeps
  code_keeps (When choices x) c are keeps = code_keeps x c are keeps
  code_keeps (Loop p x) c are keeps = code_keeps x c are keeps
  code_keeps (While p e x) c are keeps = code_keeps x c are keeps
  code_keeps (For p d reversed range x) c are keeps =
      let n : ℕ = declared_number d in
      code_keeps x (with_entry n (entry.Object (plain_object (parameter_type c range) kind.Parameter)) c) are
      (put n (entry.Object (plain_object (parameter_type c range) kind.Parameter)) c other keeps)
  code_keeps (Block p x y end) c are keeps =
      code_keeps y (gather x c) (right (sub_numbers x) (sub_numbers y) are) (code_keeps x c (left (sub_numbers x) (sub_numbers y) are) keeps)
  code_keeps (More x y) c are keeps =
      code_keeps y (gather x c) (right (sub_numbers x) (sub_numbers y) are) (code_keeps x c (left (sub_numbers x) (sub_numbers y) are) keeps)
  code_keeps code c are keeps = keeps

  units_keep : (units : List Code) (c : Context) → Are asked (flat_map sub_numbers units) → Keeps asked c → Keeps asked (gather_units units c)
  units_keep [] c are keeps = keeps
  units_keep (u ∷ rest) c are keeps =
      units_keep rest (gather u c) (right (sub_numbers u) (flat_map sub_numbers rest) are) (code_keeps u c (left (sub_numbers u) (flat_map sub_numbers rest) are) keeps)

-- ---- at first

abbrev IsNone : Entry → Type 0
IsNone e = is_subprogram_entry e ≡ false

none_at : (n d : ℕ) → IsNone (get_or (replicate n entry.Nothing) d entry.Nothing)
none_at zero d = refl
none_at (suc n) zero = refl
none_at (suc n) (suc d) = none_at n d

rows_none : (xs : List Entry) (n d : ℕ) → AllByRecursion IsNone xs → IsNone (get_or (xs ++ replicate n entry.Nothing) d entry.Nothing)
rows_none [] n d all = none_at n d
rows_none (x ∷ xs) n zero all = all.0
rows_none (x ∷ xs) n (suc d) all = rows_none xs n d all.1

first_none : AllByRecursion IsNone predefined_entries
first_none = (refl, (refl, (refl, (refl, (refl, (refl, (refl, (refl, (refl, (refl, (refl, (refl, (refl, (refl, (refl, tt)))))))))))))))

pub known_declared : (p : Program) (d : ℕ) → is_subprogram_entry (entry_of (known_of p) d) ≡ true → Has (flat_map sub_numbers p.units) d
unfolding known_of
known_declared p =
    let asked : ℕ → Type 0 = λ d. Has (flat_map sub_numbers p.units) d in
    let first : Known = known_from p (at_first false p.count).table in
    units_keep asked p.units (outside (record (at_first false p.count) { table = first.table })) (λ d has. has)
    (λ d is. absurd (true≢false (sym is ∙ rows_none predefined_entries (p.count - 15) d first_none)))
