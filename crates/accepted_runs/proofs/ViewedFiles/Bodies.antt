-- The bodies of a program: their objects and scopes have the numbers of their places in the text, and what they name
-- is their own or was declared before them.
use Rattle.std.proofs.Common.{◌≡◌, refl, sym, ap, ◌∙◌, inl, inr, ℕ, suc, ◌+◌, ◌≤◌, true, false, ◌&&◌, ◌||◌, nat_lt, lt-ltb, nat_eq, List, [], ◌∷◌, ◌++◌, map, length, arith}
use Rattle.std.specs.List.{position_or_len}
use Rattle.std.proofs.lemmas.Bool.{false≢true, ltb-true}
use Rattle.std.proofs.lemmas.List.{length-append}
use Rattle.machine.specs.spark_base.declared.position.Pos.{Pos}
use Rattle.machine.specs.spark_base.Lists.{Has}
use Rattle.soundness.proofs.Lists.{Has-append_cases}
use Rattle.machine.specs.place_names.declared.act.Mode.TheVariants as mode
use Rattle.machine.specs.resolved_tree.Trees.{Code, Incomplete, Private, TypeDecl, Subtype, ConstrainedSubtype, Objects, Numbers, Instance, SubDecl, SubBody, Package, PackageBody, NoMore, code_items}
use Rattle.machine.specs.type_definitions.Entries.{entry_of}
use Rattle.machine.specs.type_definitions.Gathered.{in_hidden, declared_number, declared_text}
use Rattle.machine.specs.typed_tree.Expressions.{Site, object_number}
use Rattle.machine.specs.typed_tree.Statements.{scope_count}
use Rattle.machine.specs.typed_tree.Programs.{TypedSub, DeclaredObject, Home, objects_in, object_of, in_package, package_text, scopes_in, subs_in, placed, over_units}
use Rattle.machine.specs.flow_paths.Objects.{Typing}
use Rattle.settled_types.proofs.OrderLaws.ScopeLaws.Lists.{and_first, and_second}
use Rattle.sound_files.specs.SeenFiles.Fits.{all_numbers, scope_after, unit_scope, Fits, UnitFits, AllFit}
use Rattle.sound_files.proofs.SeenFiles.Entries.{is_object_entry}
use Rattle.sound_files.proofs.SeenFiles.Typed.{units_seen}
use Rattle.settled_types.specs.OrderLaws.Written.{is_declaration, are_declarations, are_statements, is_body, are_parts, is_procedure, is_unit}
use Rattle.accepted_runs.specs.ViewedFiles.Places.{AreAt, AreAround}
use Rattle.accepted_runs.specs.ViewedFiles.Laid.{IsLaidBody}
use Rattle.settled_types.proofs.OrderLaws.Grammar.{on_declarations, on_parts}
use Rattle.accepted_runs.proofs.ViewedFiles.Layers.{at_left, at_right, around_both}

-- Objects that are known are as told.
abbrev pub IsKnown : Site → (ℕ → Type 0) → Type 0
IsKnown z object = (d : ℕ) → is_object_entry (entry_of z.context.known d) ≡ true → object d

module _ (units : List Code) (s : Site) (own : Typing) (scopes : List ℕ) (object : ℕ → Type 0) where
  abbrev At : ℕ → List DeclaredObject → Type 0
  At k os = AreAt s own k os

  -- All of these declarations have lesser numbers.
  abbrev Before : ℕ → List ℕ → Type 0
  Before k scope = (d : ℕ) → Has scope d → nat_lt (object_number s d) k ≡ true

  before_more : (k j : ℕ) (scope : List ℕ) → k ≤ j → Before k scope → Before j scope
  before_more k j scope more h d has = (let less = ltb-true (object_number s d) k (h d has) in lt-ltb (object_number s d) j (omega (arith, less, more)))

  ids_before : (h : Home) (a k : ℕ) (ids : List Code) (d : ℕ) → At k (map (object_of h a mode.In) ids) → Has (map declared_number ids) d
      → nat_lt (object_number s d) (k + length (map (object_of h a mode.In) ids)) ≡ true
  ids_before h a k [] d at has = absurd has
  ids_before h a k (i ∷ ids) d at (inl same) =
      (let is = at.0 in let here : object_number s d ≡ k = ap (object_number s) (sym same) ∙ is in
      lt-ltb (object_number s d) (k + length (map (object_of h a mode.In) (i ∷ ids))) (omega (arith, here)))
  ids_before h a k (i ∷ ids) d at (inr has) =
      (let less = ltb-true (object_number s d) (suc k + length (map (object_of h a mode.In) ids)) (ids_before h a (suc k) ids d at.2 has) in
      lt-ltb (object_number s d) (k + length (map (object_of h a mode.In) (i ∷ ids))) (omega (arith, less)))

  objects_before : (h : Home) (a k : ℕ) (ids : Code) (scope : List ℕ) → At k (map (object_of h a mode.In) (code_items ids)) → Before k scope
      → Before (k + length (map (object_of h a mode.In) (code_items ids))) (all_numbers ids ++ scope)
  objects_before h a k ids scope at before d has = elim (Has-append_cases (all_numbers ids) scope d has) [
    | inl here ↦ ids_before h a k (code_items ids) d at here
    | inr old ↦ before_more k (k + length (map (object_of h a mode.In) (code_items ids))) scope (omega arith) before d old
  ]

  nothing_before : (k : ℕ) (os : List DeclaredObject) (scope : List ℕ) → Before k scope → Before (k + length os) scope
  nothing_before k os scope before = before_more k (k + length os) scope (omega arith) before

  -- If what code declares has the numbers from k on, all in scope after it have lesser ones than what comes next.
  abbrev IsBefore : Home → (a n k : ℕ) → Code → List ℕ → Type 0
  IsBefore h a n k c scope = At k (objects_in units h a n c) → Before k scope → Before (k + length (objects_in units h a n c)) (scope_after c scope)

  part_before : (h : Home) (a n k : ℕ) (c : Code) (scope : List ℕ) → is_declaration c || is_body c ≡ true → IsBefore h a n k c scope
  unfolding objects_in scope_after
  part_before h a n k (Objects ids constant i v) scope e = λ at before. objects_before h a k ids scope at before
  part_before h a n k (Numbers ids v) scope e = λ at before. objects_before h a k ids scope at before
  part_before h a n k (SubBody front items stmts end) scope e = λ at before. nothing_before k (objects_in units h a n (SubBody front items stmts end)) scope before
  part_before h a n k (Incomplete d) scope e = λ at before. nothing_before k [] scope before
  part_before h a n k (Private d) scope e = λ at before. nothing_before k [] scope before
  part_before h a n k (TypeDecl d def end) scope e = λ at before. nothing_before k [] scope before
  part_before h a n k (Subtype d m) scope e = λ at before. nothing_before k [] scope before
  part_before h a n k (ConstrainedSubtype d m low high) scope e = λ at before. nothing_before k [] scope before
  part_before h a n k (Instance d m args) scope e = λ at before. nothing_before k [] scope before
  part_before h a n k (SubDecl front) scope e = λ at before. nothing_before k [] scope before
  part_before h a n k NoMore scope e = λ at before. nothing_before k [] scope before
  part_before h a n k _ scope e = absurd (false≢true e)

  -- what two codes have, one after the other
  further : (k : ℕ) (os us : List DeclaredObject) (scope : List ℕ) → Before (k + length os + length us) scope → Before (k + length (os ++ us)) scope
  further k os us scope before = before_more (k + length os + length us) (k + length (os ++ us)) scope (let long = length-append os us in omega (arith, long)) before

  parts_before : (h : Home) (a n k : ℕ) (c : Code) (scope : List ℕ) → are_parts c ≡ true → IsBefore h a n k c scope
  unfolding objects_in scope_after
  parts_before h a n k c scope e =
      on_parts (λ c. (n k : ℕ) (scope : List ℕ) → IsBefore h a n k c scope)
      (λ c rest one later n k scope at before.
      let os : List DeclaredObject = objects_in units h a n c in
      let us : List DeclaredObject = objects_in units h a (n + scope_count c) rest in
      further k os us (scope_after rest (scope_after c scope))
      (later (n + scope_count c) (k + length os) (scope_after c scope) (at_right s own k os us at) (part_before h a n k c scope one (at_left s own k os us at) before)))
      (λ n k scope at before. nothing_before k [] scope before) c e n k scope

  one_part : (c : Code) → is_declaration c ≡ true → is_declaration c || is_body c ≡ true
  one_part c e = ap (λ b. b || is_body c) e

  declarations_before : (h : Home) (a n k : ℕ) (c : Code) (scope : List ℕ) → are_declarations c ≡ true → IsBefore h a n k c scope
  unfolding objects_in scope_after
  declarations_before h a n k c scope e =
      on_declarations (λ c. (n k : ℕ) (scope : List ℕ) → IsBefore h a n k c scope)
      (λ c rest one later n k scope at before.
      let os : List DeclaredObject = objects_in units h a n c in
      let us : List DeclaredObject = objects_in units h a (n + scope_count c) rest in
      further k os us (scope_after rest (scope_after c scope))
      (later (n + scope_count c) (k + length os) (scope_after c scope) (at_right s own k os us at) (part_before h a n k c scope (one_part c one) (at_left s own k os us at) before)))
      (λ n k scope at before. nothing_before k [] scope before) c e n k scope

  abbrev IsUnitBefore : Home → (n k : ℕ) → Code → List ℕ → Type 0
  IsUnitBefore h n k u scope = At k (objects_in units h 0 n u) → Before k scope → Before (k + length (objects_in units h 0 n u)) (unit_scope u scope)

  unit_before : (h : Home) (n k : ℕ) (u : Code) (scope : List ℕ) → is_unit u ≡ true → IsUnitBefore h n k u scope
  unfolding objects_in unit_scope
  unit_before h n k (Package d visible hidden) scope e =
      λ at before.
      let inner : Home = in_package (declared_text d) h in
      let os : List DeclaredObject = objects_in units inner 0 n visible in
      let us : List DeclaredObject = objects_in units inner 0 (n + scope_count visible) hidden in
      further k os us (scope_after hidden (scope_after visible scope))
      (declarations_before inner 0 (n + scope_count visible) (k + length os) hidden (scope_after visible scope) (and_second (are_declarations visible) (are_declarations hidden) e) (at_right s own k os us at)
      (declarations_before inner 0 n k visible scope (and_first (are_declarations visible) (are_declarations hidden) e) (at_left s own k os us at) before))
  unit_before h n k (PackageBody d parts) scope e = λ at before. parts_before (in_package (package_text units (declared_number d)) h) 0 n k parts scope e at before
  unit_before h n k (SubBody front items stmts end) scope e = λ at before. nothing_before k (objects_in units h 0 n (SubBody front items stmts end)) scope before
  unit_before h n k _ scope e = absurd (false≢true e)

  -- ---- bodies

  abbrev IsLaid : TypedSub → Type 0
  IsLaid sub = IsLaidBody units s own scopes sub

  body_laid : (z : Site) → IsKnown z object → z.objects ≡ s.objects → (h : Home) (a n k : ℕ) (front items stmts : Code) (end : Pos) (scope : List ℕ) → a ≤ n
      → are_declarations items && are_statements false stmts ≡ true → At k (objects_in units h a n (SubBody front items stmts end))
      → AreAround scopes n (scopes_in a n (SubBody front items stmts end)) → Before k scope → Fits object scope (SubBody front items stmts end)
      → (sub : TypedSub) → Has (subs_in z n (SubBody front items stmts end)) sub → IsLaid sub
  unfolding subs_in unit_scope UnitFits
  body_laid z known same h a n k front items stmts end scope less e at around before fits sub (inr never) = absurd never
  body_laid z known same h a n k front items stmts end scope less e at around before fits sub (inl is) = record {
    site = z;
    same = same;
    level = n;
    front = front;
    items = items;
    stmts = stmts;
    end = end;
    is = is;
    declarations = and_first (are_declarations items) (are_statements false stmts) e;
    statements = and_second (are_declarations items) (are_statements false stmts) e;
    home = h;
    around = a;
    within = less;
    first = k;
    objects = at;
    inner = around;
    seen = units_seen (λ y. nat_lt y k) z object known n (SubBody front items stmts end ∷ []) scope
        (λ d has. ap (λ xs. nat_lt (position_or_len (nat_eq d) xs + 1) k) same ∙ before d has) (fits, tt) sub (inl is);
  }

  -- The bodies in code are laid, if its objects and scopes have their numbers, and what it names is known.
  abbrev HasLaid : Site → Home → (a n k : ℕ) → Code → List ℕ → Type 0
  HasLaid z h a n k c scope = At k (objects_in units h a n c) → AreAround scopes n (scopes_in a n c) → Before k scope → Fits object scope c
      → (sub : TypedSub) → Has (subs_in z n c) sub → IsLaid sub

  part_laid : (z : Site) → IsKnown z object → z.objects ≡ s.objects → (h : Home) (a n k : ℕ) (c : Code) (scope : List ℕ) → a ≤ n → is_declaration c || is_body c ≡ true → HasLaid z h a n k c scope
  unfolding subs_in
  part_laid z known same h a n k (SubBody front items stmts end) scope less e =
      λ at around before fits sub has. body_laid z known same h a n k front items stmts end scope less e at around before fits sub has
  part_laid z known same h a n k (Objects ids constant i v) scope less e = λ at around before fits sub has. absurd has
  part_laid z known same h a n k (Numbers ids v) scope less e = λ at around before fits sub has. absurd has
  part_laid z known same h a n k (Incomplete d) scope less e = λ at around before fits sub has. absurd has
  part_laid z known same h a n k (Private d) scope less e = λ at around before fits sub has. absurd has
  part_laid z known same h a n k (TypeDecl d def end) scope less e = λ at around before fits sub has. absurd has
  part_laid z known same h a n k (Subtype d m) scope less e = λ at around before fits sub has. absurd has
  part_laid z known same h a n k (ConstrainedSubtype d m low high) scope less e = λ at around before fits sub has. absurd has
  part_laid z known same h a n k (Instance d m args) scope less e = λ at around before fits sub has. absurd has
  part_laid z known same h a n k (SubDecl front) scope less e = λ at around before fits sub has. absurd has
  part_laid z known same h a n k NoMore scope less e = λ at around before fits sub has. absurd has
  part_laid z known same h a n k _ scope less e = absurd (false≢true e)

  parts_laid : (z : Site) → IsKnown z object → z.objects ≡ s.objects → (h : Home) (a n k : ℕ) (c : Code) (scope : List ℕ) → a ≤ n → are_parts c ≡ true → HasLaid z h a n k c scope
  unfolding subs_in objects_in scopes_in Fits
  parts_laid z known same h a n k c scope less e =
      on_parts (λ c. (n k : ℕ) (scope : List ℕ) → a ≤ n → HasLaid z h a n k c scope)
      (λ c rest one later n k scope less at around before fits sub has.
      let m : ℕ = n + scope_count c in
      let os : List DeclaredObject = objects_in units h a n c in
      let us : List DeclaredObject = objects_in units h a m rest in
      let both = around_both scopes n a n c (scopes_in a m rest) less around in
      elim (Has-append_cases (subs_in z n c) (subs_in z m rest) sub has) [
        | inl here ↦ part_laid z known same h a n k c scope less one (at_left s own k os us at) both.0 before fits.0 sub here
        | inr there ↦ later m (k + length os) (scope_after c scope) (omega (arith, less)) (at_right s own k os us at) both.1 (part_before h a n k c scope one (at_left s own k os us at) before) fits.1 sub there
      ])
      (λ n k scope less at around before fits sub has. absurd has) c e n k scope less

  abbrev HasUnitLaid : Home → (n k : ℕ) → Code → List ℕ → Type 0
  HasUnitLaid h n k u scope = At k (objects_in units h 0 n u) → AreAround scopes n (scopes_in 0 n u) → Before k scope → UnitFits object scope u
      → (sub : TypedSub) → Has (subs_in s n u) sub → IsLaid sub

  unit_laid : IsKnown s object → (h : Home) (n k : ℕ) (u : Code) (scope : List ℕ) → is_unit u ≡ true → HasUnitLaid h n k u scope
  unfolding subs_in objects_in scopes_in UnitFits
  unit_laid known h n k (SubBody front items stmts end) scope e =
      λ at around before fits sub has.
      body_laid s known refl h 0 n k front items stmts end scope (omega arith) (and_second (is_procedure front) (are_declarations items && are_statements false stmts) e) at around before fits sub has
  unit_laid known h n k (Package d visible hidden) scope e = λ at around before fits sub has. absurd has
  unit_laid known h n k (PackageBody d parts) scope e =
      λ at around before fits sub has.
      parts_laid (placed (in_hidden (declared_number d)) s) known refl (in_package (package_text units (declared_number d)) h) 0 n k parts scope (omega arith) e at around before fits sub has
  unit_laid known h n k _ scope e = absurd (false≢true e)

  pub units_laid : IsKnown s object → (h : Home) (n k : ℕ) (us : List Code) (scope : List ℕ) → ((u : Code) → Has us u → is_unit u ≡ true)
      → At k (over_units (objects_in units h 0) n us) → AreAround scopes n (over_units (scopes_in 0) n us) → Before k scope → AllFit object scope us
      → (sub : TypedSub) → Has (over_units (subs_in s) n us) sub → IsLaid sub
  units_laid known h n k [] scope written at around before fits sub has = absurd has
  units_laid known h n k (u ∷ us) scope written at around before fits sub has =
      let m : ℕ = n + scope_count u in
      let os : List DeclaredObject = objects_in units h 0 n u in
      let vs : List DeclaredObject = over_units (objects_in units h 0) m us in
      let both = around_both scopes n 0 n u (over_units (scopes_in 0) m us) (omega arith) around in
      elim (Has-append_cases (subs_in s n u) (over_units (subs_in s) m us) sub has) [
        | inl here ↦ unit_laid known h n k u scope (written u (inl refl)) (at_left s own k os vs at) both.0 before fits.0 sub here
        | inr later ↦ units_laid known h m (k + length os) us (unit_scope u scope) (λ v there. written v (inr there)) (at_right s own k os vs at) both.1
            (unit_before h n k u scope (written u (inl refl)) (at_left s own k os vs at) before) fits.1 sub later
      ]
