-- What the package objects are declared with calls no function of the program.
use Rattle.std.proofs.Common.{◌≡◌, refl, sym, ap, ◌∙◌, inl, inr, ℕ, ◌+◌, Bool, true, false, not, ◌&&◌, ◌||◌, List, [], ◌∷◌, ◌++◌, map, None}
use Rattle.std.specs.Prelude.{is_none}
use Rattle.std.specs.List.{AllByRecursion}
use Rattle.std.proofs.lemmas.Bool.{false≢true}
use Rattle.machine.specs.spark_base.Lists.{Has}
use Rattle.machine.specs.resolved_tree.Trees.{Tree, Code, Incomplete, Private, TypeDecl, Subtype, ConstrainedSubtype, Objects, Numbers, Instance, SubDecl, SubBody, Package, PackageBody, NoMore, More, code_items}
use Rattle.machine.specs.resolved_tree.Trees as resolved
use Rattle.machine.specs.type_definitions.declared.judgement.Fault.{Fault}
use Rattle.machine.specs.type_definitions.declared.judgement.Where.TheVariants as stands
use Rattle.machine.specs.type_definitions.declared.table.Known.{Known}
use Rattle.machine.specs.type_definitions.Types.{is_owning}
use Rattle.machine.specs.type_definitions.Entries.{integer}
use Rattle.machine.specs.type_definitions.Faults.{demand}
use Rattle.machine.specs.type_definitions.Expressions.{around, inside}
use Rattle.machine.specs.type_definitions.Statements.{static_faults}
use Rattle.machine.specs.type_definitions.Declarations.{code_faults, starting, in_package, first_pos, is_single, has_one, initial_faults, objects_faults, indication_faults}
use Rattle.machine.specs.type_definitions.Gathered.{is_anonymous_indication, in_visible, in_hidden, declared_number}
use Rattle.machine.specs.type_definitions.Whole.{outside}
use Rattle.machine.specs.typed_tree.Trees.{TypedTree, TypedCode, typed_code_list}
use Rattle.machine.specs.typed_tree.Trees as typed
use Rattle.machine.specs.typed_tree.Expressions.{Site, typed_expression, typed_optional}
use Rattle.machine.specs.typed_tree.Statements.{scope_count, statements, typed_object}
use Rattle.machine.specs.typed_tree.Programs.{site_of, placed, elaborated, elaboration, over_units}
use Rattle.machine.specs.flow_paths.Names.{has_call}
use Rattle.settled_types.proofs.OrderLaws.ScopeLaws.Lists.{and_first, and_second, both_true, all_both}
use Rattle.settled_types.specs.OrderLaws.Written.{is_declaration, are_declarations, is_body, are_parts, is_unit}
use Rattle.settled_types.proofs.OrderLaws.Mains.{nothing_left, nothing_right, demanded}
use Rattle.settled_types.specs.OrderLaws.PackageValues.Calls.{calls_nothing}
use Rattle.settled_types.proofs.OrderLaws.PackageValues.Still.{expression_still}

abbrev CallsNone : TypedCode → Type 0
CallsNone c = calls_nothing c ≡ true

list_calls : (cs : List TypedCode) → AllByRecursion CallsNone cs → CallsNone (typed_code_list cs)
unfolding calls_nothing
list_calls [] h = refl
list_calls (c ∷ cs) h = both_true (calls_nothing c) (calls_nothing (typed_code_list cs)) h.0 (list_calls cs h.1)

each_calls : (s : Site) (v : TypedTree) → has_call v ≡ false → (ids : List Code) → AllByRecursion CallsNone (map (typed_object s v) ids)
unfolding calls_nothing
each_calls s v h [] = tt
each_calls s v h (d ∷ ids) = (ap not h, each_calls s v h ids)

named_indication : (a x y z : Bool) → y ≡ true → not a || (x && (not y && z)) ≡ true → a ≡ false
named_indication false x y z e h = refl
named_indication true true true z e h = absurd (false≢true h)
named_indication true true false z e h = absurd (false≢true e)
named_indication true false y z e h = absurd (false≢true h)

-- code of a package
module _ (s : Site) (packaged : s.context.sub ≡ None) where
  started : in_package s.context ≡ true
  started = ap is_none packaged

  none_there : (e : Tree) (want : ℕ) → inside (starting s.context) false want e ≡ [] → (given : ℕ) → has_call (typed_expression s given e) ≡ false
  none_there e want faults given = expression_still s s.context.in_loop (in_package s.context) started e given want false faults

  one_none : (e : TypedTree) → has_call e ≡ false → has_call (typed.More e typed.NoMore) ≡ false
  unfolding has_call
  one_none e h = ap (λ b. b || false) h

  optional_none : (v : Tree) (want given : ℕ) → initial_faults (starting s.context) false want v ≡ [] → has_call (typed_optional s given v) ≡ false
  unfolding has_call
  optional_none (resolved.More e rest) want given faults =
      one_none (typed_expression s given e)
      (none_there e want (nothing_right (around (starting s.context) stands.Stored want e) (inside (starting s.context) false want e) faults) given)
  optional_none _ want given faults = refl

  objects_none : (ids : Code) (constant : Bool) (i : Code) (v : Tree) (want given : ℕ) → objects_faults s.context ids constant i v want ≡ []
      → has_call (typed_optional s given v) ≡ false
  objects_none ids constant i v want given faults =
      let test : Bool = not (is_anonymous_indication i) || (is_single ids && (not (in_package s.context) && (not constant && has_one v))) in
      let last : List Fault = initial_faults (starting s.context) (is_anonymous_indication i) want v in
      let five : List Fault = demand 5 (first_pos ids) (not (constant && is_owning s.context.known.table want)) in
      let six = nothing_right (indication_faults s.context.known i) (demand 6 (first_pos ids) test ++ (five ++ last)) faults in
      let named = named_indication (is_anonymous_indication i) (is_single ids) (in_package s.context) (not constant && has_one v) started
      (demanded 6 (first_pos ids) test (nothing_left (demand 6 (first_pos ids) test) (five ++ last) six)) in
      optional_none v want given
      (sym (ap (λ z. initial_faults (starting s.context) z want v) named) ∙ nothing_right five last (nothing_right (demand 6 (first_pos ids) test) (five ++ last) six))

  declaration_none : (n : ℕ) (c : Code) → is_declaration c ≡ true → code_faults s.context c ≡ [] → AllByRecursion CallsNone (statements s n c)
  unfolding statements code_faults
  declaration_none n (Objects ids constant i v) e faults = each_calls s _ (objects_none ids constant i v _ _ faults) (code_items ids)
  declaration_none n (Numbers ids v) e faults =
      each_calls s _ (one_none (typed_expression s integer v)
      (none_there v integer (nothing_right (around (starting s.context) stands.Elsewhere integer v) (inside (starting s.context) false integer v)
      (nothing_left (around (starting s.context) stands.Elsewhere integer v ++ inside (starting s.context) false integer v) (static_faults (starting s.context) v) faults)) integer))
      (code_items ids)
  declaration_none n (Incomplete d) e faults = tt
  declaration_none n (Private d) e faults = tt
  declaration_none n (TypeDecl d def end) e faults = tt
  declaration_none n (Subtype d m) e faults = tt
  declaration_none n (ConstrainedSubtype d m low high) e faults = tt
  declaration_none n (Instance d m args) e faults = tt
  declaration_none n (SubDecl front) e faults = tt
  declaration_none n NoMore e faults = tt
  declaration_none n _ e faults = absurd (false≢true e)

  declarations_none : (n : ℕ) (c : Code) → are_declarations c ≡ true → code_faults s.context c ≡ [] → AllByRecursion CallsNone (statements s n c)
  unfolding statements code_faults are_declarations
  declarations_none n (More a rest) e faults =
      all_both CallsNone (statements s n a) (statements s (n + scope_count a) rest)
      (declaration_none n a (and_first (is_declaration a) (are_declarations rest) e) (nothing_left (code_faults s.context a) (code_faults s.context rest) faults))
      (declarations_none (n + scope_count a) rest (and_second (is_declaration a) (are_declarations rest) e)
      (nothing_right (code_faults s.context a) (code_faults s.context rest) faults))
  declarations_none n NoMore e faults = tt
  declarations_none n _ e faults = absurd (false≢true e)

  part_none : (n : ℕ) (c : Code) → is_declaration c || is_body c ≡ true → code_faults s.context c ≡ [] → AllByRecursion CallsNone (statements s n c)
  unfolding statements
  part_none n (SubBody front items stmts end) e faults = tt
  part_none n (Objects ids constant i v) e faults = declaration_none n (Objects ids constant i v) refl faults
  part_none n (Numbers ids v) e faults = declaration_none n (Numbers ids v) refl faults
  part_none n (Incomplete d) e faults = tt
  part_none n (Private d) e faults = tt
  part_none n (TypeDecl d def end) e faults = tt
  part_none n (Subtype d m) e faults = tt
  part_none n (ConstrainedSubtype d m low high) e faults = tt
  part_none n (Instance d m args) e faults = tt
  part_none n (SubDecl front) e faults = tt
  part_none n NoMore e faults = tt
  part_none n _ e faults = absurd (false≢true e)

  parts_none : (n : ℕ) (c : Code) → are_parts c ≡ true → code_faults s.context c ≡ [] → AllByRecursion CallsNone (statements s n c)
  unfolding statements code_faults are_parts
  parts_none n (More a rest) e faults =
      all_both CallsNone (statements s n a) (statements s (n + scope_count a) rest)
      (part_none n a (and_first (is_declaration a || is_body a) (are_parts rest) e) (nothing_left (code_faults s.context a) (code_faults s.context rest) faults))
      (parts_none (n + scope_count a) rest (and_second (is_declaration a || is_body a) (are_parts rest) e)
      (nothing_right (code_faults s.context a) (code_faults s.context rest) faults))
  parts_none n NoMore e faults = tt
  parts_none n _ e faults = absurd (false≢true e)

-- ---- units

module _ (known : Known) (units : List Code) where
  unit_none : (n : ℕ) (u : Code) → is_unit u ≡ true → code_faults (outside known) u ≡ [] → AllByRecursion CallsNone (elaborated (site_of known units) n u)
  unfolding code_faults
  unit_none n (Package d visible hidden) e faults =
      let first : Site = placed (in_visible (declared_number d)) (site_of known units) in
      let second : Site = placed (in_hidden (declared_number d)) (site_of known units) in
      all_both CallsNone (statements first n visible) (statements second (n + scope_count visible) hidden)
      (declarations_none first refl n visible (and_first (are_declarations visible) (are_declarations hidden) e)
      (nothing_left (code_faults first.context visible) (code_faults second.context hidden) faults))
      (declarations_none second refl (n + scope_count visible) hidden (and_second (are_declarations visible) (are_declarations hidden) e)
      (nothing_right (code_faults first.context visible) (code_faults second.context hidden) faults))
  unit_none n (PackageBody d parts) e faults = parts_none (placed (in_hidden (declared_number d)) (site_of known units)) refl n parts e faults
  unit_none n _ e faults = tt

  units_none : (n : ℕ) (us : List Code) → ((u : Code) → Has us u → is_unit u ≡ true) → ((u : Code) → Has us u → code_faults (outside known) u ≡ [])
      → AllByRecursion CallsNone (over_units (elaborated (site_of known units)) n us)
  units_none n [] written faults = tt
  units_none n (u ∷ us) written faults =
      all_both CallsNone (elaborated (site_of known units) n u) (over_units (elaborated (site_of known units)) (n + scope_count u) us)
      (unit_none n u (written u (inl refl)) (faults u (inl refl)))
      (units_none (n + scope_count u) us (λ v has. written v (inr has)) (λ v has. faults v (inr has)))

  -- No initial value of a package object calls a function of the program.
  pub package_values : ((u : Code) → Has units u → is_unit u ≡ true) → ((u : Code) → Has units u → code_faults (outside known) u ≡ [])
      → calls_nothing (elaboration (site_of known units) units).body ≡ true
  package_values written faults = list_calls (over_units (elaborated (site_of known units)) 1 units) (units_none 1 units written faults)
