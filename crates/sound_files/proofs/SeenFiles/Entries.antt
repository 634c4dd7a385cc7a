-- What is known to be an object is declared as one.
use Rattle.std.proofs.Common.{◌≡◌, inl, inr, ℕ, zero, suc, ◌+◌, ◌-◌, Bool, true, false, List, [], ◌∷◌, ◌++◌, set, get_or, replicate, refl, sym, ◌∙◌, true≢false, if◌then◌else◌}
use Rattle.std.specs.List.{AllByRecursion}
use Rattle.soundness.proofs.Lists.{Has-append_left, Has-append_right}
use Rattle.machine.specs.resolved_tree.Trees.{NoMore, More, Code, Incomplete, Private, TypeDecl, Subtype, ConstrainedSubtype, Objects, Numbers, Instance, Front, SubDecl, SubBody, Package, PackageBody, If, Branch, Case, When, Loop, While, For, Block, Program}
use Rattle.machine.specs.type_definitions.declared.table.InitialValue.{InitialValue}
use Rattle.machine.specs.type_definitions.declared.table.Known.{Known}
use Rattle.machine.specs.type_definitions.declared.table.Kind.TheVariants as kind
use Rattle.machine.specs.type_definitions.declared.table.Entry.{Entry}
use Rattle.machine.specs.type_definitions.declared.table.Entry.TheVariants as entry
use Rattle.machine.specs.type_definitions.Entries.{entry_of}
use Rattle.machine.specs.type_definitions.Names.{Context}
use Rattle.machine.specs.type_definitions.Gathered.{gather, each, with_entry, with_type, with_indication, full_info, with_literals, with_definition, with_object, object_info, constant_value, indicated, with_number, number_info, initial_value, with_formal, with_formal_group, with_formals, with_result, with_front, with_body_front, profile, is_subprogram, front_number, plain_object, parameter_type, in_subprogram, in_visible, in_hidden, instance_type, declared_number}
use Rattle.machine.specs.type_definitions.Whole.{predefined_entries, at_first, outside, gather_units, known_from, known_of}
use Rattle.settled_types.proofs.Cases.{definition_end, each_end, formals_end, front_end, group_end, indication_end, on_access, on_enumeration, on_front, on_group, on_more, result_end}
use Rattle.sound_files.specs.SeenFiles.Fits.{all_numbers, group_numbers, formal_numbers, front_numbers, scope_after, unit_scope, AreObjects, Fits, AreFitting, IsFitting, UnitFits, AllFit}

abbrev pub is_object_entry : Entry → Bool
is_object_entry (entry.Object o) = true
is_object_entry _ = false

entry_put : (P : ℕ → Type 0) (xs : List Entry) (d : ℕ) (x : Entry) → (is_object_entry x ≡ true → P d)
    → ((t : ℕ) → is_object_entry (get_or xs t entry.Nothing) ≡ true → P t) → (t : ℕ) → is_object_entry (get_or (set xs d x) t entry.Nothing) ≡ true → P t
entry_put P [] d x new old t is = old t is
entry_put P (y ∷ xs) zero x new old zero is = new is
entry_put P (y ∷ xs) zero x new old (suc t) is = old (suc t) is
entry_put P (y ∷ xs) (suc d) x new old zero is = old zero is
entry_put P (y ∷ xs) (suc d) x new old (suc t) is = entry_put (λ n. P (suc n)) xs d x new (λ t is. old (suc t) is) t is

-- Each object that is known is as told.
abbrev Keeps : (ℕ → Type 0) → Context → Type 0
Keeps object c = (d : ℕ) → is_object_entry (entry_of c.known d) ≡ true → object d

module _ (object : ℕ → Type 0) where
  put : (d : ℕ) (x : Entry) (c : Context) → (is_object_entry x ≡ true → object d) → Keeps object c → Keeps object (with_entry d x c)
  put d x c new old = λ t is. entry_put object c.known.entries d x new old t is

  other : {d : ℕ} → false ≡ true → object d
  other e = absurd (true≢false (sym e))

  literals_keep : (t n : ℕ) (ids : Code) (c : Context) → Keeps object c → Keeps object (with_literals t n ids c)
  literals_keep t n (More d rest) c keeps =
      literals_keep t (n + 1) rest (with_entry (declared_number d) (entry.Literal t n) c) (put (declared_number d) (entry.Literal t n) c other keeps)
  literals_keep t n ids c keeps = keeps

  definition_keeps : (t : ℕ) (def : Code) (c : Context) → Keeps object c → Keeps object (with_definition t def c)
  definition_keeps t = on_enumeration (λ def. (c : Context) → Keeps object c → Keeps object (with_definition t def c))
      (λ literals c keeps.
      literals_keep t 0 literals c keeps)
      (λ def other c keeps. rw (definition_end t def c other) (keeps))

  indication_keeps : (d : ℕ) (i : Code) (c : Context) → Keeps object c → Keeps object (with_indication d i c)
  indication_keeps d = on_access (λ i. (c : Context) → Keeps object c → Keeps object (with_indication d i c))
      (λ p constant m c keeps.
      keeps)
      (λ i other c keeps. rw (indication_end d i c other) (keeps))

  each_keeps : (f : Code → Context → Context) → ((a : Code) (c : Context) → object (declared_number a) → Keeps object c → Keeps object (f a c)) → (ids : Code)
      (c : Context) → AreObjects object (all_numbers ids) → Keeps object c → Keeps object (each f ids c)
  each_keeps f one = on_more (λ ids. (c : Context) → AreObjects object (all_numbers ids) → Keeps object c → Keeps object (each f ids c))
      (λ a rest next c are keeps.
      next (f a c) (λ n has. are n (inr has)) (one a c (are (declared_number a) (inl refl)) keeps))
      (λ ids other c are keeps. rw (each_end f ids c other) (keeps))

  object_keeps : (constant : Bool) (i : Code) (v : InitialValue) (d : Code) (c : Context) → object (declared_number d) → Keeps object c
      → Keeps object (with_object constant i v d c)
  object_keeps constant i v d c is keeps =
      put (declared_number d) (entry.Object (object_info c constant (indicated c.known (declared_number d) i) v)) (with_indication (declared_number d) i c)
      (λ e. is) (indication_keeps (declared_number d) i c keeps)

  result_keeps : (d : ℕ) (result : Code) (c : Context) → Keeps object c → Keeps object (with_result d result c)
  result_keeps d = on_more (λ result. (c : Context) → Keeps object c → Keeps object (with_result d result c))
      (λ i rest _ c keeps.
      indication_keeps d i c keeps)
      (λ result other c keeps. rw (result_end d result c other) (keeps))

  formal_keeps : (of d : Code) (c : Context) → object (declared_number d) → Keeps object c → Keeps object (with_formal of d c)
  formal_keeps of d c is keeps =
      put (declared_number d) (entry.Object (plain_object (indicated c.known (declared_number d) of) kind.Formal)) (with_indication (declared_number d) of c)
      (λ e. is) (indication_keeps (declared_number d) of c keeps)

  group_keeps : (g : Code) (c : Context) → AreObjects object (group_numbers g) → Keeps object c → Keeps object (with_formal_group g c)
  group_keeps = on_group (λ g. (c : Context) → AreObjects object (group_numbers g) → Keeps object c → Keeps object (with_formal_group g c))
      (λ ids m of c are keeps.
      each_keeps (with_formal of) (λ d c is keeps. formal_keeps of d c is keeps) ids c are keeps)
      (λ g other c are keeps. rw (group_end g c other) (keeps))

  groups_keep : (formals : Code) (c : Context) → AreObjects object (formal_numbers formals) → Keeps object c → Keeps object (each with_formal_group formals c)
  groups_keep = on_more (λ formals. (c : Context) → AreObjects object (formal_numbers formals) → Keeps object c → Keeps object (each with_formal_group formals c))
      (λ g rest next c are keeps.
      next (with_formal_group g c) (λ n has. are n (Has-append_right (group_numbers g) (formal_numbers rest) n has))
      (group_keeps g c (λ n has. are n (Has-append_left (group_numbers g) (formal_numbers rest) n has)) keeps))
      (λ formals other c are keeps. rw (each_end with_formal_group formals c other) (keeps))

  front_keeps : (front : Code) (c : Context) → AreObjects object (front_numbers front) → Keeps object c → Keeps object (with_front front c)
  front_keeps = on_front (λ front. (c : Context) → AreObjects object (front_numbers front) → Keeps object c → Keeps object (with_front front c))
      (λ d formals result c are keeps.
      let n : ℕ = declared_number d in
      let inner : Context = each with_formal_group formals (with_result n result c) in
      put n (entry.Subprogram (profile inner.known (Front d formals result))) inner other
      (groups_keep formals (with_result n result c) are (result_keeps n result c keeps)))
      (λ front another c are keeps. rw (front_end front c another) (keeps))

  formals_keep : (front : Code) (c : Context) → AreObjects object (front_numbers front) → Keeps object c → Keeps object (with_formals front c)
  formals_keep = on_front (λ front. (c : Context) → AreObjects object (front_numbers front) → Keeps object c → Keeps object (with_formals front c))
      (λ d formals result c are keeps.
      groups_keep formals c are keeps)
      (λ front other c are keeps. rw (formals_end front c other) (keeps))

  body_keeps : (front : Code) (c : Context) → AreObjects object (front_numbers front) → Keeps object c → Keeps object (with_body_front front c)
  body_keeps front c are keeps = by (is_subprogram (entry_of c.known (front_number front)))
    where
      by : (b : Bool) → Keeps object (if b then with_formals front c else with_front front c)
      by true = formals_keep front c are keeps
      by false = front_keeps front c are keeps

  mutual
    unfolding gather Fits AreFitting IsFitting

    code_keeps : (code : Code) (scope : List ℕ) (c : Context) → Fits object scope code → Keeps object c → Keeps object (gather code c)
    code_keeps (Incomplete d) scope c fits keeps = put (declared_number d) entry.Type c other keeps
    code_keeps (Private d) scope c fits keeps = put (declared_number d) entry.Type c other keeps
    code_keeps (TypeDecl d def end) scope c fits keeps =
        let n : ℕ = declared_number d in
        definition_keeps n def (with_type n (full_info c n def end) c) (put n entry.Type c other keeps)
    code_keeps (Subtype d m) scope c fits keeps = put (declared_number d) entry.Type c other keeps
    code_keeps (ConstrainedSubtype d m low high) scope c fits keeps = put (declared_number d) entry.Type c other keeps
    code_keeps (Objects ids constant i v) scope c fits keeps =
        each_keeps (with_object constant i (constant_value c constant v)) (λ d k is more. object_keeps constant i (constant_value c constant v) d k is more) ids c
        fits.0 keeps
    code_keeps (Numbers ids e) scope c fits keeps =
        each_keeps (with_number (initial_value c e))
        (λ d k is more. put (declared_number d) (entry.Object (number_info k (initial_value c e))) k (λ e. is) more) ids c fits.0 keeps
    code_keeps (Instance d m args) scope c fits keeps = put (declared_number d) (entry.Instance (instance_type args)) c other keeps
    code_keeps (SubDecl front) scope c fits keeps = front_keeps front c fits keeps
    code_keeps (SubBody front items stmts end) scope c fits keeps =
        let inner : Context = in_subprogram front (with_body_front front c) in
        let s : List ℕ = front_numbers front ++ scope in
        code_keeps stmts (scope_after items s) (gather items inner) fits.1.1 (code_keeps items s inner fits.1.0 (body_keeps front c fits.0 keeps))
    code_keeps (Package d visible hidden) scope c fits keeps = absurd fits
    code_keeps (PackageBody d parts) scope c fits keeps = absurd fits
    code_keeps (If p x y) scope c fits keeps = code_keeps y scope (gather x c) fits.1 (branches_keep x scope c fits.0 keeps)
    code_keeps (Branch p e x) scope c fits keeps = code_keeps x scope c fits.1 keeps
    code_keeps (Case p e x) scope c fits keeps = branches_keep x scope c fits.1 keeps
    code_keeps (When choices x) scope c fits keeps = code_keeps x scope c fits keeps
    code_keeps (Loop p x) scope c fits keeps = code_keeps x scope c fits keeps
    code_keeps (While p e x) scope c fits keeps = code_keeps x scope c fits.1 keeps
    code_keeps (For p d reversed range x) scope c fits keeps =
        let n : ℕ = declared_number d in
        code_keeps x (n ∷ scope) (with_entry n (entry.Object (plain_object (parameter_type c range) kind.Parameter)) c) fits.1.1
        (put n (entry.Object (plain_object (parameter_type c range) kind.Parameter)) c (λ e. fits.0) keeps)
    code_keeps (Block p x y end) scope c fits keeps = code_keeps y (scope_after x scope) (gather x c) fits.1 (code_keeps x scope c fits.0 keeps)
    code_keeps (More x y) scope c fits keeps = code_keeps y (scope_after x scope) (gather x c) fits.1 (code_keeps x scope c fits.0 keeps)
    code_keeps code scope c fits keeps = keeps

    branches_keep : (code : Code) (scope : List ℕ) (c : Context) → AreFitting object scope code → Keeps object c → Keeps object (gather code c)
    branches_keep (More a rest) scope c fits keeps = branches_keep rest scope (gather a c) fits.1 (branch_keeps a scope c fits.0 keeps)
    branches_keep NoMore scope c fits keeps = keeps
    branches_keep code scope c fits keeps = absurd fits

    branch_keeps : (code : Code) (scope : List ℕ) (c : Context) → IsFitting object scope code → Keeps object c → Keeps object (gather code c)
    branch_keeps (Branch p e x) scope c fits keeps = code_keeps x scope c fits.1 keeps
    branch_keeps (When choices x) scope c fits keeps = code_keeps x scope c fits keeps
    branch_keeps NoMore scope c fits keeps = keeps
    branch_keeps code scope c fits keeps = absurd fits

  unit_keeps : (u : Code) (scope : List ℕ) (c : Context) → UnitFits object scope u → Keeps object c → Keeps object (gather u c)
  unfolding gather UnitFits
  unit_keeps (Package d visible hidden) scope c fits keeps =
      let n : ℕ = declared_number d in
      let start : Context = in_visible n (with_entry n entry.Package c) in
      code_keeps hidden (scope_after visible scope) (in_hidden n (gather visible start)) fits.1
      (code_keeps visible scope start fits.0 (put n entry.Package c other keeps))
  unit_keeps (PackageBody d parts) scope c fits keeps = code_keeps parts scope (in_hidden (declared_number d) c) fits keeps
  unit_keeps (SubBody front items stmts end) scope c fits keeps = code_keeps (SubBody front items stmts end) scope c fits keeps
  unit_keeps code scope c fits keeps = absurd fits

  units_keep : (units : List Code) (scope : List ℕ) (c : Context) → AllFit object scope units → Keeps object c → Keeps object (gather_units units c)
  units_keep [] scope c fits keeps = keeps
  units_keep (u ∷ rest) scope c fits keeps = units_keep rest (unit_scope u scope) (gather u c) fits.1 (unit_keeps u scope c fits.0 keeps)

-- ---- at first

abbrev IsNone : Entry → Type 0
IsNone e = is_object_entry e ≡ false

none_at : (n d : ℕ) → IsNone (get_or (replicate n entry.Nothing) d entry.Nothing)
none_at zero d = refl
none_at (suc n) zero = refl
none_at (suc n) (suc d) = none_at n d

rows_none : (xs : List Entry) (n d : ℕ) → AllByRecursion IsNone xs → IsNone (get_or (xs ++ replicate n entry.Nothing) d entry.Nothing)
rows_none [] n d all = none_at n d
rows_none (x ∷ xs) n zero all = all.0
rows_none (x ∷ xs) n (suc d) all = rows_none xs n d all.1

first_none : AllByRecursion IsNone predefined_entries
first_none = (refl, (refl, (refl, (refl, (refl, (refl, (refl, (refl, (refl, (refl, (refl, (refl, (refl, (refl, (refl, tt)))))))))))))))

pub known_keeps : (object : ℕ → Type 0) (p : Program) → AllFit object [] p.units → (d : ℕ) → is_object_entry (entry_of (known_of p) d) ≡ true → object d
unfolding known_of
known_keeps object p fits =
    let first : Known = known_from p (at_first false p.count).table in
    units_keep object p.units [] (outside (record (at_first false p.count) { table = first.table })) fits
    (λ d is. absurd (true≢false (sym is ∙ rows_none predefined_entries (p.count - 15) d first_none)))
