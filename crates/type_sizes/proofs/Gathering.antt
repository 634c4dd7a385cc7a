-- What each type of a program is: made by a declaration of a full type, or small.
use Rattle.std.proofs.Common.{◌≡◌, ◌⊎◌, inl, inr, refl, sym, ap, ◌∙◌, arith, ℕ, zero, suc, ◌+◌, ◌<◌, ◌≤◌, Bool, true, false, ◌&&◌, ◌||◌, List, [], ◌∷◌, ◌++◌, length, get_or, set, nat_eq, IsTrue, if◌then◌else◌, ℤ}
use Rattle.std.proofs.lemmas.Bool.{cases_eq, cases_lt}
use Rattle.std.proofs.lemmas.List.{get_or-set_same, get_or-set_other, get_or_past, length-set}
use Rattle.resolved_tree.specs.Trees.{Code, Anonymous, Enumeration, Incomplete, Private, TypeDecl, Subtype, ConstrainedSubtype, Objects, Numbers, Instance, Formals, Front, SubDecl, SubBody, Package, PackageBody, If, Branch, Case, When, Loop, While, For, Block, More}
use Rattle.type_definitions.specs.declared.table.Shape.{Shape}
use Rattle.type_definitions.specs.declared.table.Shape.TheVariants as shape
use Rattle.type_definitions.specs.declared.table.Info.{Info}
use Rattle.type_definitions.specs.declared.table.Made.{Made}
use Rattle.type_definitions.specs.declared.judgement.View.{View}
use Rattle.type_definitions.specs.declared.judgement.View.TheVariants as view
use Rattle.type_definitions.specs.Types.{Table, info, no_type, full as view_at, base}
use Rattle.type_definitions.specs.Entries.{entry_of, marked}
use Rattle.type_definitions.specs.Names.{Context}
use Rattle.type_definitions.specs.Gathered.{awaited_info, gather, each, with_type, with_indication, with_definition, with_literals, initial_value, constant_value, with_object, with_number, with_formal, with_formal_group, with_formals, with_result, with_front, with_body_front, own_info, full_info, constrained_shape, bound_pair, is_subprogram, front_number, declared_number, in_visible, in_hidden, in_subprogram}
use Rattle.type_definitions.specs.Whole.{made}

or_true : (a : Bool) → IsTrue (a || true)
or_true true = refl
or_true false = refl

or_left : (a b : Bool) → IsTrue a → IsTrue (a || b)
or_left a b p = grind arith

or_right : (a b : Bool) → IsTrue b → IsTrue (a || b)
or_right a b p = grind arith

-- ---- full types

-- A declaration of a full type makes the type with this number.
abbrev pub full_in : List Made → ℕ → Bool
full_in [] t = false
full_in (m ∷ rest) t = m.full && nat_eq m.number t || full_in rest t

pub full_first : (a b : List Made) (t : ℕ) → IsTrue (full_in a t) → IsTrue (full_in (a ++ b) t)
full_first [] b t is = cc
full_first (m ∷ rest) b t is =
    elim (or_cases (m.full && nat_eq m.number t) (full_in rest t) is) [
      | inl p ↦ or_left (m.full && nat_eq m.number t) (full_in (rest ++ b) t) p
      | inr q ↦ or_right (m.full && nat_eq m.number t) (full_in (rest ++ b) t) (full_first rest b t q)
    ] where
      or_cases : (a b : Bool) → IsTrue (a || b) → IsTrue a ⊎ IsTrue b
      or_cases true b p = inl refl
      or_cases false b p = inr p

pub full_second : (a b : List Made) (t : ℕ) → IsTrue (full_in b t) → IsTrue (full_in (a ++ b) t)
full_second [] b t is = is
full_second (m ∷ rest) b t is = or_right (m.full && nat_eq m.number t) (full_in (rest ++ b) t) (full_second rest b t is)

same_number : (n : ℕ) → nat_eq n n ≡ true
same_number n = grind arith

-- ---- small types

-- Made of nothing, or of one other type.
abbrev pub is_small : Shape → Bool
is_small (shape.Whole low high) = true
is_small (shape.Listed literals low high) = true
is_small (shape.Access t constant named) = true
is_small (shape.Fields []) = true
is_small (shape.Fields (c ∷ rest)) = false
is_small (shape.Elements low high t) = false
is_small (shape.Same t) = true

found : (table : Table) (t : ℕ) → get_or table t no_type ≡ info table t
found [] t = refl
found (i ∷ rest) zero = refl
found (i ∷ rest) (suc t) = found rest t

module _ (full_type : ℕ → Bool) where
  -- Each type is a full one or small.
  abbrev pub Covered : Table → Type 0
  Covered table = (t : ℕ) → IsTrue (full_type t || is_small (get_or table t no_type).shape)

  set_here : (table : Table) (d : ℕ) (i : Info) (t : ℕ) → Covered table → IsTrue (full_type d || is_small i.shape)
      → (t ≡ d) ⊎ (t ≡ d → ⊥) → (d < length table) ⊎ (length table ≤ d)
      → IsTrue (full_type t || is_small (get_or (set table d i) t no_type).shape)
  set_here table d i t covered small (inl e) (inl lt) =
      let at : get_or (set table d i) d no_type ≡ i = get_or-set_same table d i no_type lt in
      rw e (ap (λ i. full_type d || is_small i.shape) at ∙ small)
  set_here table d i t covered small (inl e) (inr past) =
      let over : length (set table d i) ≤ d = omega (arith, past, length-set table d i) in
      let at : get_or (set table d i) d no_type ≡ no_type = get_or_past (set table d i) d no_type over in
      rw e (ap (λ i. full_type d || is_small i.shape) at ∙ or_true (full_type d))
  set_here table d i t covered small (inr ne) lt =
      ap (λ i. full_type t || is_small i.shape) (get_or-set_other table d t i no_type ne) ∙ covered t

  set_covered : (table : Table) (d : ℕ) (i : Info) → Covered table → IsTrue (full_type d || is_small i.shape) → Covered (set table d i)
  set_covered table d i covered small t = set_here table d i t covered small (cases_eq t d) (cases_lt d (length table))

  -- What each of a list keeps, all of them keep.
  each_covered : (f : Code → Context → Context) → ((a : Code) (c : Context) → Covered c.known.table → Covered (f a c).known.table)
      → (code : Code) (c : Context) → Covered c.known.table → Covered (each f code c).known.table
  each_covered f keeps (More a rest) c covered = each_covered f keeps rest (f a c) (keeps a c covered)
  each_covered f keeps _ c covered = covered

  indication_covered : (d : ℕ) (i : Code) (c : Context) → Covered c.known.table → Covered (with_indication d i c).known.table
  indication_covered d (Anonymous p constant m) c covered =
      set_covered c.known.table d (own_info (shape.Access (marked c.known m) constant false) d) covered (or_true (full_type d))
  indication_covered d _ c covered = covered

  -- A type whose full type is declared later has the shape that it has already.
  awaited_covered : (d : ℕ) (c : Context) → Covered c.known.table → IsTrue (full_type d || is_small (awaited_info c d).shape)
  awaited_covered d c covered = ap (λ i. full_type d || is_small i.shape) (sym (found c.known.table d)) ∙ covered d

  literals_covered : (t n : ℕ) (literals : Code) (c : Context) → Covered c.known.table → Covered (with_literals t n literals c).known.table
  literals_covered t n (More d rest) c covered = literals_covered t (n + 1) rest _ covered
  literals_covered t n _ c covered = covered

  definition_covered : (t : ℕ) (def : Code) (c : Context) → Covered c.known.table → Covered (with_definition t def c).known.table
  definition_covered t (Enumeration literals) c covered = literals_covered t 0 literals c covered
  definition_covered t _ c covered = covered

  formal_group_covered : (a : Code) (c : Context) → Covered c.known.table → Covered (with_formal_group a c).known.table
  formal_group_covered (Formals names mode of) c covered =
      each_covered (with_formal of) (λ d c covered. indication_covered (declared_number d) of c covered) names c covered
  formal_group_covered _ c covered = covered

  result_covered : (d : ℕ) (result : Code) (c : Context) → Covered c.known.table → Covered (with_result d result c).known.table
  result_covered d (More i rest) c covered = indication_covered d i c covered
  result_covered d _ c covered = covered

  front_covered : (front : Code) (c : Context) → Covered c.known.table → Covered (with_front front c).known.table
  front_covered (Front d formals result) c covered =
      each_covered with_formal_group formal_group_covered formals (with_result (declared_number d) result c)
      (result_covered (declared_number d) result c covered)
  front_covered _ c covered = covered

  formals_covered : (front : Code) (c : Context) → Covered c.known.table → Covered (with_formals front c).known.table
  formals_covered (Front d formals result) c covered = each_covered with_formal_group formal_group_covered formals c covered
  formals_covered _ c covered = covered

  body_covered : (front : Code) (c : Context) (declared : Bool) → Covered c.known.table
      → Covered (if declared then with_formals front c else with_front front c).known.table
  body_covered front c true covered = formals_covered front c covered
  body_covered front c false covered = front_covered front c covered

  constrained_small : (v : View) (b : ℤ × ℤ) → IsTrue (is_small (constrained_shape v b))
  constrained_small view.Hidden b = refl
  constrained_small (view.Whole low high) b = refl
  constrained_small (view.Listed low high) b = refl
  constrained_small (view.Access t constant named) b = refl
  constrained_small view.Fields b = refl
  constrained_small (view.Elements low high t) b = refl

  -- Code keeps it, where each declaration of a full type makes one that is asked for.
  pub code_covered : (code : Code) (c other : Context) → ((t : ℕ) → IsTrue (full_in (made other code) t) → IsTrue (full_type t))
      → Covered c.known.table → Covered (gather code c).known.table
  unfolding gather made
  code_covered (Incomplete d) c other full covered =
      set_covered c.known.table (declared_number d) _ covered (awaited_covered (declared_number d) c covered)
  code_covered (Private d) c other full covered =
      set_covered c.known.table (declared_number d) _ covered (awaited_covered (declared_number d) c covered)
  code_covered (TypeDecl d def end) c other full covered =
      let made_so : IsTrue (nat_eq (declared_number d) (declared_number d) || false) =
      or_left (nat_eq (declared_number d) (declared_number d)) false (same_number (declared_number d)) in
      definition_covered (declared_number d) def (with_type (declared_number d) (full_info c (declared_number d) def end) c)
      (set_covered c.known.table (declared_number d) (full_info c (declared_number d) def end) covered
      (or_left (full_type (declared_number d)) (is_small (full_info c (declared_number d) def end).shape) (full (declared_number d) made_so)))
  code_covered (Subtype d m) c other full covered =
      set_covered c.known.table (declared_number d) _ covered (or_true (full_type (declared_number d)))
  code_covered (ConstrainedSubtype d m low high) c other full covered =
      set_covered c.known.table (declared_number d) _ covered
      (or_right (full_type (declared_number d)) _
      (constrained_small (view_at c.known.table (marked c.known m)) (bound_pair c (base c.known.table (marked c.known m)) low high)))
  code_covered (Objects ids constant i v) c other full covered =
      each_covered (with_object constant i (constant_value c constant v))
      (λ d c covered. indication_covered (declared_number d) i c covered) ids c covered
  code_covered (Numbers ids e) c other full covered =
      each_covered (with_number (initial_value c e)) (λ d c covered. covered) ids c covered
  code_covered (Instance d m args) c other full covered = covered
  code_covered (SubDecl front) c other full covered = front_covered front c covered
  code_covered (SubBody front items stmts end) c other full covered =
      let start : Context = in_subprogram front (with_body_front front c) in
      code_covered stmts (gather items start) other
      (λ t is. full t (full_second (made other items) (made other stmts) t is))
      (code_covered items start other (λ t is. full t (full_first (made other items) (made other stmts) t is))
      (body_covered front c (is_subprogram (entry_of c.known (front_number front))) covered))
  code_covered (Package d visible hidden) c other full covered =
      code_covered hidden _ (in_hidden (declared_number d) other)
      (λ t is. full t (full_second (made (in_visible (declared_number d) other) visible) (made (in_hidden (declared_number d) other) hidden) t is))
      (code_covered visible _ (in_visible (declared_number d) other)
      (λ t is. full t (full_first (made (in_visible (declared_number d) other) visible) (made (in_hidden (declared_number d) other) hidden) t is))
      covered)
  code_covered (PackageBody d parts) c other full covered =
      code_covered parts (in_hidden (declared_number d) c) (in_hidden (declared_number d) other) full covered
  code_covered (If p branches otherwise) c other full covered =
      code_covered otherwise (gather branches c) other (λ t is. full t (full_second (made other branches) (made other otherwise) t is))
      (code_covered branches c other (λ t is. full t (full_first (made other branches) (made other otherwise) t is)) covered)
  code_covered (Branch p e stmts) c other full covered = code_covered stmts c other full covered
  code_covered (Case p e whens) c other full covered = code_covered whens c other full covered
  code_covered (When choices stmts) c other full covered = code_covered stmts c other full covered
  code_covered (Loop p stmts) c other full covered = code_covered stmts c other full covered
  code_covered (While p e stmts) c other full covered = code_covered stmts c other full covered
  code_covered (For p d reversed range stmts) c other full covered = code_covered stmts _ other full covered
  code_covered (Block p items stmts end) c other full covered =
      code_covered stmts (gather items c) other (λ t is. full t (full_second (made other items) (made other stmts) t is))
      (code_covered items c other (λ t is. full t (full_first (made other items) (made other stmts) t is)) covered)
  code_covered (More a rest) c other full covered =
      code_covered rest (gather a c) other (λ t is. full t (full_second (made other a) (made other rest) t is))
      (code_covered a c other (λ t is. full t (full_first (made other a) (made other rest) t is)) covered)
  code_covered _ c other full covered = covered
