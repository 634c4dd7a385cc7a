-- The subprogram of the package objects declares them one by one, and each has a number of its own.
use Rattle.std.proofs.Common.{◌≡◌, refl, inl, inr, ℕ, ◌+◌, true, ◌||◌, List, [], ◌∷◌, ◌++◌}
use Rattle.std.specs.List.{AllByRecursion}
use Rattle.std.proofs.lemmas.Bool.{false≢true}
use Rattle.machine.specs.spark_base.Lists.{Has}
use Rattle.machine.specs.resolved_tree.Trees.{Code, Incomplete, Private, TypeDecl, Subtype, ConstrainedSubtype, Objects, Numbers, Instance, SubDecl, SubBody, Package, PackageBody, NoMore, More}
use Rattle.machine.specs.type_definitions.Gathered.{in_visible, in_hidden, declared_number, declared_text}
use Rattle.machine.specs.typed_tree.Trees.{TypedCode, typed_code_list}
use Rattle.machine.specs.typed_tree.Trees as typed
use Rattle.machine.specs.typed_tree.Expressions.{Site}
use Rattle.machine.specs.typed_tree.Statements.{scope_count, statements}
use Rattle.machine.specs.typed_tree.Programs.{DeclaredObject, Home, objects_in, in_package, package_text, placed, elaborated, over_units}
use Rattle.machine.specs.flow_paths.Laid.{declared_within}
use Rattle.settled_types.proofs.OrderLaws.ScopeLaws.Lists.{and_first, and_second, both_true, all_both}
use Rattle.settled_types.specs.OrderLaws.ReadyLaws.InOrder.{declares_only}
use Rattle.settled_types.specs.OrderLaws.Written.{is_declaration, are_declarations, is_body, are_parts, is_unit}
use Rattle.settled_types.specs.OrderLaws.Placed.{is_placed, parameters}
use Rattle.settled_types.proofs.OrderLaws.Bodies.{IsDeclare, one_declares, all_declare}
use Rattle.settled_types.proofs.OrderLaws.Numbers.{numbers, declared_in, two, one_declaration, declarations_same}
use Rattle.settled_types.proofs.OrderLaws.Parts.{IsPart, part_whole, part_none, part_both}

-- ---- declarations alone

part_declares : (s : Site) (n : ℕ) (c : Code) → is_declaration c || is_body c ≡ true → AllByRecursion IsDeclare (statements s n c)
unfolding statements
part_declares s n (SubBody front items stmts end) e = tt
part_declares s n (Objects ids constant i v) e = one_declares s n (Objects ids constant i v) refl
part_declares s n (Numbers ids v) e = one_declares s n (Numbers ids v) refl
part_declares s n (Incomplete d) e = tt
part_declares s n (Private d) e = tt
part_declares s n (TypeDecl d def end) e = tt
part_declares s n (Subtype d mark) e = tt
part_declares s n (ConstrainedSubtype d mark low high) e = tt
part_declares s n (Instance d mark args) e = tt
part_declares s n (SubDecl front) e = tt
part_declares s n NoMore e = tt
part_declares s n _ e = absurd (false≢true e)

parts_declare : (s : Site) (n : ℕ) (c : Code) → are_parts c ≡ true → AllByRecursion IsDeclare (statements s n c)
unfolding statements are_parts
parts_declare s n (More c rest) e =
    all_both IsDeclare (statements s n c) (statements s (n + scope_count c) rest)
    (part_declares s n c (and_first (is_declaration c || is_body c) (are_parts rest) e))
    (parts_declare s (n + scope_count c) rest (and_second (is_declaration c || is_body c) (are_parts rest) e))
parts_declare s n NoMore e = tt
parts_declare s n _ e = absurd (false≢true e)

unit_declares : (s : Site) (n : ℕ) (u : Code) → is_unit u ≡ true → AllByRecursion IsDeclare (elaborated s n u)
unit_declares s n (Package d visible hidden) e =
    all_both IsDeclare (statements (placed (in_visible (declared_number d)) s) n visible) (statements (placed (in_hidden (declared_number d)) s) (n + scope_count visible) hidden)
    (all_declare (placed (in_visible (declared_number d)) s) n visible (and_first (are_declarations visible) (are_declarations hidden) e))
    (all_declare (placed (in_hidden (declared_number d)) s) (n + scope_count visible) hidden (and_second (are_declarations visible) (are_declarations hidden) e))
unit_declares s n (PackageBody d parts) e = parts_declare (placed (in_hidden (declared_number d)) s) n parts e
unit_declares s n _ e = tt

pub units_declare : (s : Site) (n : ℕ) (us : List Code) → ((u : Code) → Has us u → is_unit u ≡ true) → AllByRecursion IsDeclare (over_units (elaborated s) n us)
units_declare s n [] written = tt
units_declare s n (u ∷ us) written =
    all_both IsDeclare (elaborated s n u) (over_units (elaborated s) (n + scope_count u) us) (unit_declares s n u (written u (inl refl)))
    (units_declare s (n + scope_count u) us (λ v has. written v (inr has)))

pub declares_alone : (cs : List TypedCode) → AllByRecursion IsDeclare cs → declares_only (typed_code_list cs) ≡ true
unfolding declares_only
declares_alone [] h = refl
declares_alone (typed.Declare p x v ∷ cs) h = declares_alone cs h.1
declares_alone (_ ∷ cs) h = absurd (false≢true h.0)

pub declares_placed : (cs : List TypedCode) → AllByRecursion IsDeclare cs → is_placed (typed_code_list cs) ≡ true
unfolding is_placed
declares_placed [] h = refl
declares_placed (typed.Declare p x v ∷ cs) h = both_true (is_placed (typed_code_list cs)) true (declares_placed cs h.1) refl
declares_placed (_ ∷ cs) h = absurd (false≢true h.0)

pub no_parameters : (cs : List TypedCode) → AllByRecursion IsDeclare cs → (x : ℕ) → Has (parameters (typed_code_list cs)) x → ⊥
unfolding parameters
no_parameters [] h x has = has
no_parameters (typed.Declare p y v ∷ cs) h x has = no_parameters cs h.1 x has
no_parameters (_ ∷ cs) h x has = absurd (false≢true h.0)

-- ---- their numbers

module _ (units : List Code) where
  -- What is declared is what some of the objects of the code are.
  abbrev IsSome : Site → List TypedCode → List DeclaredObject → Type 0
  IsSome s cs all = (os : List DeclaredObject) × (declared_in s cs ≡ numbers s os) × IsPart os all

  some_both : (s : Site) (cs ds : List TypedCode) (all more : List DeclaredObject) → IsSome s cs all → IsSome s ds more → IsSome s (cs ++ ds) (all ++ more)
  some_both s cs ds all more h g = (h.0 ++ g.0, two s cs ds h.0 g.0 h.1 g.1, part_both h.0 all g.0 more h.2 g.2)

  none_declared : (s : Site) (all : List DeclaredObject) → IsSome s [] all
  unfolding declared_within
  none_declared s all = ([], refl, part_none all)

  part_some : (s : Site) (h : Home) (a n m : ℕ) (c : Code) → is_declaration c || is_body c ≡ true → IsSome s (statements s n c) (objects_in units h a m c)
  unfolding statements objects_in declared_within
  part_some s h a n m (SubBody front items stmts end) e = ([], refl, part_none (objects_in units h a m (SubBody front items stmts end)))
  part_some s h a n m (Objects ids constant i v) e =
      (objects_in units h a m (Objects ids constant i v), one_declaration s units h a n m (Objects ids constant i v) refl, part_whole (objects_in units h a m (Objects ids constant i v)))
  part_some s h a n m (Numbers ids v) e =
      (objects_in units h a m (Numbers ids v), one_declaration s units h a n m (Numbers ids v) refl, part_whole (objects_in units h a m (Numbers ids v)))
  part_some s h a n m (Incomplete d) e = ([], refl, refl)
  part_some s h a n m (Private d) e = ([], refl, refl)
  part_some s h a n m (TypeDecl d def end) e = ([], refl, refl)
  part_some s h a n m (Subtype d mark) e = ([], refl, refl)
  part_some s h a n m (ConstrainedSubtype d mark low high) e = ([], refl, refl)
  part_some s h a n m (Instance d mark args) e = ([], refl, refl)
  part_some s h a n m (SubDecl front) e = ([], refl, refl)
  part_some s h a n m NoMore e = ([], refl, refl)
  part_some s h a n m _ e = absurd (false≢true e)

  parts_some : (s : Site) (h : Home) (a n m : ℕ) (c : Code) → are_parts c ≡ true → IsSome s (statements s n c) (objects_in units h a m c)
  unfolding statements objects_in are_parts declared_within
  parts_some s h a n m (More c rest) e =
      some_both s (statements s n c) (statements s (n + scope_count c) rest) (objects_in units h a m c) (objects_in units h a (m + scope_count c) rest)
      (part_some s h a n m c (and_first (is_declaration c || is_body c) (are_parts rest) e))
      (parts_some s h a (n + scope_count c) (m + scope_count c) rest (and_second (is_declaration c || is_body c) (are_parts rest) e))
  parts_some s h a n m NoMore e = ([], refl, refl)
  parts_some s h a n m _ e = absurd (false≢true e)

  declarations_some : (s : Site) (h : Home) (a n m : ℕ) (c : Code) → are_declarations c ≡ true → IsSome s (statements s n c) (objects_in units h a m c)
  declarations_some s h a n m c e = (objects_in units h a m c, declarations_same s units h a n m c e, part_whole (objects_in units h a m c))

  unit_some : (s : Site) (h : Home) (a n : ℕ) (u : Code) → is_unit u ≡ true → IsSome s (elaborated s n u) (objects_in units h a n u)
  unfolding objects_in
  unit_some s h a n (Package d visible hidden) e =
      some_both s (statements (placed (in_visible (declared_number d)) s) n visible) (statements (placed (in_hidden (declared_number d)) s) (n + scope_count visible) hidden)
      (objects_in units (in_package (declared_text d) h) a n visible) (objects_in units (in_package (declared_text d) h) a (n + scope_count visible) hidden)
      (declarations_some (placed (in_visible (declared_number d)) s) (in_package (declared_text d) h) a n n visible (and_first (are_declarations visible) (are_declarations hidden) e))
      (declarations_some (placed (in_hidden (declared_number d)) s) (in_package (declared_text d) h) a (n + scope_count visible) (n + scope_count visible) hidden
      (and_second (are_declarations visible) (are_declarations hidden) e))
  unit_some s h a n (PackageBody d parts) e = parts_some (placed (in_hidden (declared_number d)) s) (in_package (package_text units (declared_number d)) h) a n n parts e
  unit_some s h a n (SubBody front items stmts end) e = none_declared s (objects_in units h a n (SubBody front items stmts end))
  unit_some s h a n _ e = absurd (false≢true e)

  pub units_some : (s : Site) (h : Home) (n : ℕ) (us : List Code) → ((u : Code) → Has us u → is_unit u ≡ true)
      → IsSome s (over_units (elaborated s) n us) (over_units (objects_in units h 0) n us)
  units_some s h n [] written = none_declared s []
  units_some s h n (u ∷ us) written =
      some_both s (elaborated s n u) (over_units (elaborated s) (n + scope_count u) us) (objects_in units h 0 n u) (over_units (objects_in units h 0) (n + scope_count u) us)
      (unit_some s h 0 n u (written u (inl refl))) (units_some s h (n + scope_count u) us (λ v has. written v (inr has)))
