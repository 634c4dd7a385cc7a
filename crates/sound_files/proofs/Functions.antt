-- The formals of functions are of mode `in`.
use Rattle.std.proofs.Common.{◌≡◌, refl, sym, ap, ◌∙◌, subst, inl, inr, ℕ, suc, ◌+◌, Bool, true, false, not, ◌&&◌, List, [], ◌∷◌, ◌++◌, map, flat_map, get_or, nat_eq, arith, Option, Some, None, is_some}
use Rattle.std.specs.List.{position_or_len}
use Rattle.std.proofs.lemmas.Bool.{false≢true}
use Rattle.machine.specs.spark_base.Lists.{Has}
use Rattle.soundness.proofs.Lists.{Has-append_cases, Has-append_left, Has-append_right}
use Rattle.machine.specs.place_names.declared.act.Mode.{Mode}
use Rattle.machine.specs.place_names.declared.act.Mode.TheVariants as mode
use Rattle.machine.specs.resolved_tree.Trees.{Code, More, Formals, Front, SubBody, PackageBody, Program, code_items}
use Rattle.machine.specs.type_definitions.declared.table.Known.{Known}
use Rattle.machine.specs.type_definitions.declared.judgement.Fault.{Fault}
use Rattle.machine.specs.type_definitions.Faults.{demand}
use Rattle.machine.specs.type_definitions.Names.{Context}
use Rattle.machine.specs.type_definitions.Entries.{entry_of}
use Rattle.machine.specs.type_definitions.Expressions.{is_in, is_traversal, profile_of}
use Rattle.machine.specs.type_definitions.Gathered.{front_number, declared_number, declared_pos, in_hidden, profile_from, anonymous_result, formal_infos, result_indicated}
use Rattle.machine.specs.type_definitions.Declarations.{group_faults, formals_group, formals_faults, result_faults, has_none, front_faults, body_faults, code_faults, in_body, same_formals, same_result, agrees}
use Rattle.machine.specs.type_definitions.Whole.{outside, known_of}
use Rattle.machine.specs.typed_tree.declared.object.Object.{Object}
use Rattle.machine.specs.typed_tree.Expressions.{Site, object_number}
use Rattle.machine.specs.typed_tree.Statements.{scope_count}
use Rattle.machine.specs.typed_tree.Programs.{TypedSub, DeclaredObject, Home, object_of, objects_of, formals_of, objects_in, program_objects, text_io, local, in_package, package_text, front_formals, formal_numbers, placed, subs_in, over_units, site_of, typed_program}
use Rattle.machine.specs.flow_paths.Objects.{object_at}
use Rattle.settled_types.proofs.OrderLaws.ScopeLaws.Lists.{and_second}
use Rattle.settled_types.specs.OrderLaws.ScopeLaws.Code.{Once}
use Rattle.settled_types.specs.OrderLaws.Orderly.{typing_in, bodies_of}
use Rattle.settled_types.proofs.OrderLaws.Mains.{nothing_left, nothing_right, demanded}
use Rattle.settled_types.proofs.OrderLaws.Parts.{object_there}
use Rattle.sound_files.proofs.Mains.{front_agrees}

-- It is one of these objects, of mode `in`.
abbrev Taken : Site → List DeclaredObject → ℕ → Type 0
Taken s os x = (o : DeclaredObject) × (x ≡ object_number s o.number) × Has os o × (o.object.mode ≡ mode.In)

left : (s : Site) (os more : List DeclaredObject) (x : ℕ) → Taken s os x → Taken s (os ++ more) x
left s os more x f = (f.0, f.1, Has-append_left os more f.0 f.2, f.3)

right : (s : Site) (os more : List DeclaredObject) (x : ℕ) → Taken s more x → Taken s (os ++ more) x
right s os more x f = (f.0, f.1, Has-append_right os more f.0 f.2, f.3)

in_mode : (m : Mode) → is_in m ≡ true → m ≡ mode.In
in_mode mode.In e = refl
in_mode mode.Out e = absurd (false≢true e)
in_mode mode.InOut e = absurd (false≢true e)

-- ---- the formals of a body

module _ (s : Site) (h : Home) (a : ℕ) (c : Context) (r : Option ℕ) where
  ids_taken : (traversed : Bool) (m : Mode) (of ids : Code) (x : ℕ) → group_faults c true r traversed m of ids ≡ []
      → Has (map (λ d. object_number s (declared_number d)) (code_items ids)) x → Taken s (objects_of h a m ids) x
  ids_taken traversed m of (More d rest) x none (inl same) =
      (object_of h a m d, sym same, inl refl, in_mode m (demanded 3 _ (is_in m) (nothing_left _ _ (nothing_left _ (group_faults c true r false m of rest) none))))
  ids_taken traversed m of (More d rest) x none (inr has) =
      let later = ids_taken false m of rest x (nothing_right _ (group_faults c true r false m of rest) none) has in
      (later.0, later.1, inr later.2, later.3)
  ids_taken traversed m of ids x none has = absurd has

  group_taken : (traversed : Bool) (group : Code) (x : ℕ) → formals_group c true r traversed group ≡ [] → Has (formal_numbers s group) x → Taken s (formals_of h a group) x
  group_taken traversed (Formals ids m of) x none has = ids_taken traversed m of ids x (nothing_right _ (group_faults c true r traversed m of ids) none) has
  group_taken traversed group x none has = absurd has

  groups_taken : (traversed : Bool) (formals : Code) (x : ℕ) → formals_faults c true r traversed formals ≡ []
      → Has (flat_map (formal_numbers s) (code_items formals)) x → Taken s (flat_map (formals_of h a) (code_items formals)) x
  groups_taken traversed (More group rest) x none has =
      elim (Has-append_cases (formal_numbers s group) (flat_map (formal_numbers s) (code_items rest)) x has) [
        | inl here ↦
            left s (formals_of h a group) (flat_map (formals_of h a) (code_items rest)) x
            (group_taken traversed group x (nothing_left (formals_group c true r traversed group) (formals_faults c true r false rest) none) here)
        | inr more ↦
            right s (formals_of h a group) (flat_map (formals_of h a) (code_items rest)) x
            (groups_taken false rest x (nothing_right (formals_group c true r traversed group) (formals_faults c true r false rest) none) more)
      ]
  groups_taken traversed formals x none has = absurd has

has_result : (known : Known) (d t : ℕ) (result : Code) → same_result known (Some t) result ≡ true → is_some (result_indicated known d result) ≡ true
has_result known d t (More i rest) e = refl
has_result known d t result e = absurd (false≢true e)

front_taken : (s : Site) (h : Home) (a : ℕ) (c : Context) (front : Code) (t x : ℕ) → front_faults c front ≡ [] → agrees c.known front ≡ true
    → (profile_of (entry_of c.known (front_number front))).result ≡ Some t → Has (flat_map (formal_numbers s) (front_formals front)) x
    → Taken s (flat_map (formals_of h a) (front_formals front)) x
front_taken s h a c (Front d formals result) t x none agree is has =
    let p = profile_of (entry_of c.known (declared_number d)) in
    let same = and_second (same_formals c.known.table p.formals (formal_infos c.known (anonymous_result result) formals)) (same_result c.known p.result result) agree in
    let given = has_result c.known (declared_number d) t result (subst (λ r. same_result c.known r result ≡ true) is same) in
    let r : Option ℕ = result_indicated c.known (declared_number d) result in
    let w : Bool = is_traversal c.known (profile_from c.known (declared_number d) formals result) in
    let last : List Fault = demand 6 (declared_pos d) (not (w && has_none formals)) in
    groups_taken s h a c r w formals x
    (subst (λ b. formals_faults c b r w formals ≡ []) given
    (nothing_left (formals_faults c (is_some r) r w formals) last (nothing_right (result_faults c.known result) (formals_faults c (is_some r) r w formals ++ last) none))) has
front_taken s h a c front t x none agree is has = absurd has

-- ---- all bodies

sub_taken : (units : List Code) (h : Home) (a n : ℕ) (s : Site) (u : Code) (sub : TypedSub) (t x : ℕ) → code_faults s.context u ≡ [] → Has (subs_in s n u) sub
    → sub.result ≡ Some t → Has sub.formals x → Taken s (objects_in units h a n u) x
unfolding subs_in objects_in code_faults
sub_taken units h a n s (SubBody front items stmts end) sub t x none (inl same) is has =
    let formals : List DeclaredObject = flat_map (formals_of (local h) n) (front_formals front) in
    let inner : List DeclaredObject = objects_in units (local h) n (n + 1) items in
    let later : List DeclaredObject = objects_in units (local h) n (n + 1 + scope_count items) stmts in
    let faults = nothing_left (body_faults s.context front) (code_faults (in_body front s.context) items ++ code_faults (in_body front s.context) stmts) none in
    left s (formals ++ inner) later x
    (left s formals inner x
    (front_taken s (local h) n s.context front t x (nothing_left (front_faults s.context front) _ faults) (front_agrees s.context front items stmts end none)
    (ap (λ (z : TypedSub). z.result) same ∙ is) (subst (λ (z : TypedSub). Has z.formals x) (sym same) has)))
sub_taken units h a n s (SubBody front items stmts end) sub t x none (inr never) is has = absurd never
sub_taken units h a n s (PackageBody d parts) sub t x none among is has =
    sub_taken units (in_package (package_text units (declared_number d)) h) a n (placed (in_hidden (declared_number d)) s) parts sub t x none among is has
sub_taken units h a n s (More b rest) sub t x none among is has = elim (Has-append_cases (subs_in s n b) (subs_in s (n + scope_count b) rest) sub among) [
  | inl here ↦
      left s (objects_in units h a n b) (objects_in units h a (n + scope_count b) rest) x
      (sub_taken units h a n s b sub t x (nothing_left (code_faults s.context b) (code_faults s.context rest) none) here is has)
  | inr more ↦
      right s (objects_in units h a n b) (objects_in units h a (n + scope_count b) rest) x
      (sub_taken units h a (n + scope_count b) s rest sub t x (nothing_right (code_faults s.context b) (code_faults s.context rest) none) more is has)
]
sub_taken units h a n s u sub t x none among is has = absurd among

units_taken : (all : List Code) (h : Home) (a n : ℕ) (s : Site) (units : List Code) (sub : TypedSub) (t x : ℕ) → ((u : Code) → Has units u → code_faults s.context u ≡ [])
    → Has (over_units (subs_in s) n units) sub → sub.result ≡ Some t → Has sub.formals x → Taken s (over_units (objects_in all h a) n units) x
units_taken all h a n s [] sub t x none among is has = absurd among
units_taken all h a n s (u ∷ rest) sub t x none among is has = elim (Has-append_cases (subs_in s n u) (over_units (subs_in s) (n + scope_count u) rest) sub among) [
  | inl here ↦ left s (objects_in all h a n u) (over_units (objects_in all h a) (n + scope_count u) rest) x (sub_taken all h a n s u sub t x (none u (inl refl)) here is has)
  | inr more ↦
      right s (objects_in all h a n u) (over_units (objects_in all h a) (n + scope_count u) rest) x
      (units_taken all h a (n + scope_count u) s rest sub t x (λ v has. none v (inr has)) more is has)
]

-- ---- the program

-- Formals of functions are of mode `in`.
abbrev pub FunctionsTakeIn : Program → Type 0
FunctionsTakeIn p = (sub : TypedSub) → Has (bodies_of p) sub → (t : ℕ) → sub.result ≡ Some t → (x : ℕ) → Has sub.formals x → (object_at (typing_in p) x).mode ≡ mode.In

module _ (p : Program) (none : (u : Code) → Has p.units u → code_faults (outside (known_of p)) u ≡ [])
    (once : Once (map (λ (o : DeclaredObject). o.number) (program_objects (known_of p) p.units))) where
  abbrev site : Site
  site = site_of (known_of p) p.units

  abbrev objects : List DeclaredObject
  objects = program_objects (known_of p) p.units

  object_is : (o : DeclaredObject) → Has objects o → object_at (typing_in p) (object_number site o.number) ≡ o.object
  unfolding typed_program
  object_is o has =
      let at : ℕ = position_or_len (nat_eq o.number) (map (λ (z : DeclaredObject). z.number) objects) in
      let next : suc at ≡ at + 1 = omega arith in
      subst (λ i. get_or (text_io ∷ map (λ (z : DeclaredObject). z.object) objects) i text_io ≡ o.object) next (object_there objects o once has)

  -- They are.
  pub functions_in : FunctionsTakeIn p
  functions_in sub among t is x has =
      let found = units_taken p.units (record { known = known_of p; identifier = None }) 0 1 site p.units sub t x none among is has in
      ap (λ y. (object_at (typing_in p) y).mode) found.1 ∙ ap (λ (z : Object). z.mode) (object_is found.0 found.2) ∙ found.3
