-- Package objects are known as such, where each declaration of an object has a number of its own.
use Rattle.std.proofs.Common.{◌≡◌, ◌⊎◌, inl, inr, ℕ, suc, ◌+◌, Bool, true, false, not, ◌&&◌, List, [], ◌∷◌, ◌++◌, map, get_or, cond, nat_eq, refl, sym, ap, ◌∙◌, subst, arith, Some, None, is_some, eqb-true, eq-eqb, true≢false}
use Rattle.std.specs.List.{position_or_len}
use Rattle.machine.specs.spark_base.Lists.{Has}
use Rattle.soundness.proofs.Lists.{Has-append_cases, Has-append_left, Has-append_right, Has-map, Has-map_from}
use Rattle.machine.specs.place_names.declared.act.Mode.TheVariants as mode
use Rattle.machine.specs.resolved_tree.Trees.{Code, Objects, Numbers, Package, PackageBody, More, Program, code_items}
use Rattle.machine.specs.type_definitions.declared.table.Kind.{Kind}
use Rattle.machine.specs.type_definitions.declared.table.Kind.TheVariants as kind
use Rattle.machine.specs.type_definitions.declared.table.Entry.{Entry}
use Rattle.machine.specs.type_definitions.declared.table.Entry.TheVariants as entry
use Rattle.machine.specs.type_definitions.declared.table.Known.{Known}
use Rattle.machine.specs.type_definitions.Entries.{entry_of}
use Rattle.machine.specs.type_definitions.Gathered.{declared_number, declared_text}
use Rattle.machine.specs.type_definitions.Whole.{known_of}
use Rattle.machine.specs.typed_tree.declared.object.Object.{Object}
use Rattle.machine.specs.typed_tree.Expressions.{object_number}
use Rattle.machine.specs.typed_tree.Statements.{scope_count}
use Rattle.machine.specs.typed_tree.Programs.{kind_of, entry_kind, DeclaredObject, Home, object_of, package_text, objects_in, over_units, program_objects, text_io, site_of, typed_program}
use Rattle.machine.specs.flow_paths.Objects.{is_state, is_package_object}
use Rattle.settled_types.specs.OrderLaws.ScopeLaws.Code.{Once}
use Rattle.settled_types.specs.OrderLaws.Orderly.{typing_in}
use Rattle.sound_files.specs.SeenFiles.Fits.{all_numbers, scope_after, unit_scope, units_scope}

-- It is one of a package.
abbrev IsPublic : Object → Type 0
IsPublic x = (is_some x.«package» && not (is_state x.kind)) ≡ true

kind_public : (k : Kind) → not (is_state (kind_of k)) ≡ true
kind_public kind.Variable = refl
kind_public kind.Constant = refl
kind_public kind.Formal = refl
kind_public kind.Parameter = refl

entry_public : (e : Entry) → not (is_state (entry_kind e)) ≡ true
entry_public (entry.Object o) = kind_public o.kind
entry_public _ = refl

abbrev Found : List DeclaredObject → ℕ → Type 0
Found os d = (o : DeclaredObject) × Has os o × (o.number ≡ d) × IsPublic o.object

found_left : (xs ys : List DeclaredObject) (d : ℕ) → Found xs d → Found (xs ++ ys) d
found_left xs ys d f = (f.0, Has-append_left xs ys f.0 f.1, f.2, f.3)

found_right : (xs ys : List DeclaredObject) (d : ℕ) → Found ys d → Found (xs ++ ys) d
found_right xs ys d f = (f.0, Has-append_right xs ys f.0 f.1, f.2, f.3)

module _ (known : Known) (units : List Code) where
  abbrev home : List ℕ → Home
  home text = record { known = known; identifier = Some text }

  ids_found : (text : List ℕ) (a : ℕ) (ids : Code) (d : ℕ) → Has (all_numbers ids) d → Found (map (object_of (home text) a mode.In) (code_items ids)) d
  ids_found text a ids d has =
      let from = Has-map_from declared_number (code_items ids) d has in (
        object_of (home text) a mode.In from.0,
        Has-map (object_of (home text) a mode.In) (code_items ids) from.0 from.1,
        from.2,
        entry_public (entry_of known (declared_number from.0)),
      )

  level_found : (text : List ℕ) (a n : ℕ) (code : Code) (scope : List ℕ) (d : ℕ) → Has (scope_after code scope) d
      → Has scope d ⊎ Found (objects_in units (home text) a n code) d
  unfolding scope_after objects_in
  level_found text a n (Objects ids constant i v) scope d has = elim (Has-append_cases (all_numbers ids) scope d has) [
    | inl here ↦ inr (ids_found text a ids d here)
    | inr old ↦ inl old
  ]
  level_found text a n (Numbers ids e) scope d has = elim (Has-append_cases (all_numbers ids) scope d has) [
    | inl here ↦ inr (ids_found text a ids d here)
    | inr old ↦ inl old
  ]
  level_found text a n (More x rest) scope d has =
      let xs : List DeclaredObject = objects_in units (home text) a n x in
      let ys : List DeclaredObject = objects_in units (home text) a (n + scope_count x) rest in
      elim (level_found text a (n + scope_count x) rest (scope_after x scope) d has) [
        | inl before ↦ elim (level_found text a n x scope d before) [ inl old ↦ inl old | inr here ↦ inr (found_left xs ys d here) ]
        | inr later ↦ inr (found_right xs ys d later)
      ]
  level_found text a n code scope d has = inl has

  abbrev no_home : Home
  no_home = record { known = known; identifier = None }

  unit_found : (n : ℕ) (u : Code) (scope : List ℕ) (d : ℕ) → Has (unit_scope u scope) d → Has scope d ⊎ Found (objects_in units no_home 0 n u) d
  unfolding unit_scope objects_in
  unit_found n (Package x visible hidden) scope d has =
      let text : List ℕ = declared_text x in
      let xs : List DeclaredObject = objects_in units (home text) 0 n visible in
      let ys : List DeclaredObject = objects_in units (home text) 0 (n + scope_count visible) hidden in
      elim (level_found text 0 (n + scope_count visible) hidden (scope_after visible scope) d has) [
        | inl before ↦ elim (level_found text 0 n visible scope d before) [ inl old ↦ inl old | inr here ↦ inr (found_left xs ys d here) ]
        | inr later ↦ inr (found_right xs ys d later)
      ]
  unit_found n (PackageBody x parts) scope d has = level_found (package_text units (declared_number x)) 0 n parts scope d has
  unit_found n u scope d has = inl has

  units_found : (n : ℕ) (us : List Code) (scope : List ℕ) (d : ℕ) → Has (units_scope us scope) d
      → Has scope d ⊎ Found (over_units (objects_in units no_home 0) n us) d
  units_found n [] scope d has = inl has
  units_found n (u ∷ rest) scope d has =
      let xs : List DeclaredObject = objects_in units no_home 0 n u in
      let ys : List DeclaredObject = over_units (objects_in units no_home 0) (n + scope_count u) rest in
      elim (units_found (n + scope_count u) rest (unit_scope u scope) d has) [
        | inl before ↦ elim (unit_found n u scope d before) [ inl old ↦ inl old | inr here ↦ inr (found_left xs ys d here) ]
        | inr later ↦ inr (found_right xs ys d later)
      ]

-- ---- by number

abbrev numbers_of : List DeclaredObject → List ℕ
numbers_of os = map (λ (o : DeclaredObject). o.number) os

abbrev objects_of : List DeclaredObject → List Object
objects_of os = map (λ (o : DeclaredObject). o.object) os

at_number : (os : List DeclaredObject) (o : DeclaredObject) → Once (numbers_of os) → Has os o
    → get_or (objects_of os) (position_or_len (nat_eq o.number) (numbers_of os)) text_io ≡ o.object
at_number [] o once has = absurd has
at_number (x ∷ os) o once has = by (nat_eq o.number x.number) refl (λ more. at_number os o once.1 more)
  where
    by : (b : Bool) → nat_eq o.number x.number ≡ b
        → (Has os o → get_or (objects_of os) (position_or_len (nat_eq o.number) (numbers_of os)) text_io ≡ o.object)
        → get_or (x.object ∷ objects_of os) (cond (not b) (1 + position_or_len (nat_eq o.number) (numbers_of os)) 0) text_io ≡ o.object
    by true is on = elim has [
      | inl same ↦ ap (λ (o : DeclaredObject). o.object) same
      | inr more ↦ absurd (once.0 (subst (Has (numbers_of os)) (eqb-true o.number x.number is) (Has-map (λ (o : DeclaredObject). o.number) os o more)))
    ]
    by false is on =
        let next : suc (position_or_len (nat_eq o.number) (numbers_of os)) ≡ 1 + position_or_len (nat_eq o.number) (numbers_of os) = omega arith in
        subst (λ i. get_or (x.object ∷ objects_of os) i text_io ≡ o.object) next (on (elim has [
          | inl same ↦ absurd (differs (ap (λ (o : DeclaredObject). o.number) (sym same)))
          | inr more ↦ more
        ]))
      where
        differs : o.number ≡ x.number → ⊥
        differs same = true≢false (sym (eq-eqb o.number x.number same) ∙ is)

-- What stays in scope after the units of a program are objects of packages.
pub scope_public : (p : Program) → Once (numbers_of (program_objects (known_of p) p.units)) → (d : ℕ) → Has (units_scope p.units []) d
    → is_package_object (typing_in p) (object_number (site_of (known_of p) p.units) d) ≡ true
unfolding typed_program
scope_public p once d has = elim (units_found (known_of p) p.units 1 p.units [] d has) [
  | inl never ↦ absurd never
  | inr found ↦
      (let os : List DeclaredObject = program_objects (known_of p) p.units in
      let i : ℕ = position_or_len (nat_eq d) (numbers_of os) in
      let at : get_or (objects_of os) i text_io ≡ found.0.object
      = subst (λ n. get_or (objects_of os) (position_or_len (nat_eq n) (numbers_of os)) text_io ≡ found.0.object) found.2 (at_number os found.0 once found.1) in
      let next : suc i ≡ i + 1 = omega arith in
      subst (λ k. IsPublic (get_or (text_io ∷ objects_of os) k text_io)) next (subst IsPublic (sym at) found.3))
]
