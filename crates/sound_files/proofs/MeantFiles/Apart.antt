-- Anonymous access types have other numbers than types with names: their declarations are of other kinds.
use Rattle.std.proofs.Common.{◌≡◌, inl, inr, ℕ, ◌≤◌, List, [], ◌∷◌, ◌++◌, flat_map, refl, sym, ap, ◌∙◌, arith}
use Rattle.machine.specs.spark_base.Lists.{Has}
use Rattle.soundness.proofs.Lists.{Has-append_cases, Has-append_left, Has-append_right}
use Rattle.machine.specs.resolved_tree.Trees.{More, Code, Anonymous, Incomplete, Private, TypeDecl, Subtype, ConstrainedSubtype, Objects, Formals, Front, SubDecl, SubBody, Package, PackageBody, If, Branch, Case, When, Loop, While, For, Block, code_items}
use Rattle.name_events.specs.declared.declaration.DeclarationForm.{DeclarationForm}
use Rattle.name_events.specs.declared.declaration.DeclarationForm.TheVariants as form
use Rattle.name_events.specs.declared.declaration.DeclKind.{DeclKind}
use Rattle.name_events.specs.Denotes.{kind_of}
use Rattle.machine.specs.type_definitions.Gathered.{declared_number, front_number}
use Rattle.settled_types.specs.GatheredLaws.Made.{indicated_numbers, all_numbers, group_numbers, result_numbers, front_numbers}
use Rattle.settled_types.specs.GatheredLaws.Views.{named_numbers, view_numbers, AreViewsApart}
use Rattle.sound_files.specs.MeantFiles.Declarations.{Declarations, each_as, literals_of, group_declarations, formal_declarations, front_declarations, body_form, form_of_result, declarations}
use Rattle.sound_files.proofs.MeantFiles.Given.{kind_class, AreKinds}

-- What is declared under this number isn't a type, or it is one.
abbrev IsOther : Declarations → ℕ → Type 0
IsOther L d = (new : DeclarationForm) × Has L (new, d) × (kind_class (kind_of new) ≡ 0 → ⊥)

abbrev IsType : Declarations → ℕ → Type 0
IsType L d = (new : DeclarationForm) × Has L (new, d) × (kind_class (kind_of new) ≡ 0)

other_left : (L K : Declarations) (d : ℕ) → IsOther L d → IsOther (L ++ K) d
other_left L K d x = (x.0, Has-append_left L K (x.0, d) x.1, x.2)

other_right : (L K : Declarations) (d : ℕ) → IsOther K d → IsOther (L ++ K) d
other_right L K d x = (x.0, Has-append_right L K (x.0, d) x.1, x.2)

type_left : (L K : Declarations) (d : ℕ) → IsType L d → IsType (L ++ K) d
type_left L K d x = (x.0, Has-append_left L K (x.0, d) x.1, x.2)

type_right : (L K : Declarations) (d : ℕ) → IsType K d → IsType (L ++ K) d
type_right L K d x = (x.0, Has-append_right L K (x.0, d) x.1, x.2)

-- ---- anonymous access types

indicated_all : (i : Code) (ns : List ℕ) (d : ℕ) → Has (indicated_numbers i ns) d → Has ns d
indicated_all (Anonymous p constant m) ns d has = has
indicated_all i ns d has = absurd has

each_listed : (new : DeclarationForm) (ids : Code) (d : ℕ) → Has (all_numbers ids) d → Has (each_as new ids) (new, d)
each_listed new (More x rest) d (inl same) = inl (ap (λ n. (new, n)) same)
each_listed new (More x rest) d (inr has) = inr (each_listed new rest d has)
each_listed new ids d has = absurd has

no_type : (new : DeclarationForm) (n : ℕ) → kind_class (kind_of new) ≡ n → 1 ≤ n → kind_class (kind_of new) ≡ 0 → ⊥
no_type new n is more none = omega (arith, is, more, none)

group_other : (group : Code) (d : ℕ) → Has (group_numbers group) d → IsOther (group_declarations group) d
group_other (Formals ids m of) d has =
    (form.Formal, each_listed form.Formal ids d (indicated_all of (all_numbers ids) d has), no_type form.Formal 1 refl (omega arith))
group_other group d has = absurd has

groups_other : (formals : Code) (d : ℕ) → Has (flat_map group_numbers (code_items formals)) d → IsOther (formal_declarations formals) d
groups_other (More group rest) d has = elim (Has-append_cases (group_numbers group) (flat_map group_numbers (code_items rest)) d has) [
  | inl here ↦ other_left (group_declarations group) (formal_declarations rest) d (group_other group d here)
  | inr more ↦ other_right (group_declarations group) (formal_declarations rest) d (groups_other rest d more)
]
groups_other formals d has = absurd has

result_same : (n : ℕ) (result : Code) (d : ℕ) → Has (result_numbers n result) d → n ≡ d
result_same n (More i rest) d has = elim (indicated_all i (n ∷ []) d has) [ inl same ↦ same | inr never ↦ absurd never ]
result_same n result d has = absurd has

-- that of a result is the number of its subprogram
front_other : (new : DeclarationForm) → kind_class (kind_of new) ≡ 2 → (front : Code) (number : ℕ) (d : ℕ) → Has (front_numbers front) d
    → ((x : Code) (formals result : Code) → front ≡ Front x formals result → number ≡ declared_number x) → IsOther ((new, number) ∷ front_declarations front) d
front_other new is (Front x formals result) number d has at =
    elim (Has-append_cases (result_numbers (declared_number x) result) (flat_map group_numbers (code_items formals)) d has) [
      | inl here ↦ (new, inl (ap (λ n. (new, n)) (at x formals result refl ∙ result_same (declared_number x) result d here)), no_type new 2 is (omega arith))
      | inr more ↦ (let f = groups_other formals d more in (f.0, inr f.1, f.2))
    ]
front_other new is front number d has at = absurd has

subprogram_form : (front : Code) → kind_class (kind_of (body_form front)) ≡ 2
subprogram_form (Front d formals result) = by result
  where
    by : (result : Code) → kind_class (kind_of (form_of_result result)) ≡ 2
    by (More i rest) = refl
    by _ = refl
subprogram_form _ = refl

view_two : (x y : Code) (d : ℕ) → Has (view_numbers x ++ view_numbers y) d → (Has (view_numbers x) d → IsOther (declarations x) d) → (Has (view_numbers y) d → IsOther (declarations y) d)
    → IsOther (declarations x ++ declarations y) d
view_two x y d has first second = elim (Has-append_cases (view_numbers x) (view_numbers y) d has) [
  | inl here ↦ other_left (declarations x) (declarations y) d (first here)
  | inr more ↦ other_right (declarations x) (declarations y) d (second more)
]

view : (code : Code) (d : ℕ) → Has (view_numbers code) d → IsOther (declarations code) d
unfolding view_numbers
view (Objects ids constant i v) d has =
    (form.Object, each_listed form.Object ids d (indicated_all i (all_numbers ids) d has), no_type form.Object 1 refl (omega arith))
view (SubDecl front) d has =
    front_other form.SubprogramDeclaration refl front (front_number front) d has (λ x formals result same. ap front_number same)
view (SubBody front items stmts end) d has =
    let K : Declarations = front_declarations front in
    let L : Declarations = declarations items ++ declarations stmts in
    elim (Has-append_cases (front_numbers front) (view_numbers items ++ view_numbers stmts) d has) [
      | inl here ↦
          other_left ((body_form front, front_number front) ∷ K) L d
          (front_other (body_form front) (subprogram_form front) front (front_number front) d here (λ x formals result same. ap front_number same))
      | inr more ↦ other_right ((body_form front, front_number front) ∷ K) L d (view_two items stmts d more (view items d) (view stmts d))
    ]
view (Package x visible hidden) d has =
    let f = view_two visible hidden d has (view visible d) (view hidden d) in (f.0, inr f.1, f.2)
view (PackageBody x parts) d has = view parts d has
view (If p x y) d has = view_two x y d has (view x d) (view y d)
view (Branch p e x) d has = view x d has
view (Case p e x) d has = view x d has
view (When choices x) d has = view x d has
view (Loop p x) d has = view x d has
view (While p e x) d has = view x d has
view (For p n reversed range x) d has = let f = view x d has in (f.0, inr f.1, f.2)
view (Block p x y end) d has = view_two x y d has (view x d) (view y d)
view (More x y) d has = view_two x y d has (view x d) (view y d)
view code d has = absurd has

view_units : (units : List Code) (d : ℕ) → Has (flat_map view_numbers units) d → IsOther (flat_map declarations units) d
view_units [] d has = absurd has
view_units (u ∷ rest) d has = elim (Has-append_cases (view_numbers u) (flat_map view_numbers rest) d has) [
  | inl here ↦ other_left (declarations u) (flat_map declarations rest) d (view u d here)
  | inr more ↦ other_right (declarations u) (flat_map declarations rest) d (view_units rest d more)
]

-- ---- types with names

first_listed : (new : DeclarationForm) (n : ℕ) (L : Declarations) (d : ℕ) → Has (n ∷ []) d → Has ((new, n) ∷ L) (new, d)
first_listed new n L d (inl same) = inl (ap (λ m. (new, m)) same)
first_listed new n L d (inr never) = absurd never

one_listed : (new : DeclarationForm) (n d : ℕ) → Has (n ∷ []) d → Has {A = DeclarationForm × ℕ} ((new, n) ∷ []) (new, d)
one_listed new n d has = first_listed new n [] d has

name_two : (x y : Code) (d : ℕ) → Has (named_numbers x ++ named_numbers y) d → (Has (named_numbers x) d → IsType (declarations x) d) → (Has (named_numbers y) d → IsType (declarations y) d)
    → IsType (declarations x ++ declarations y) d
name_two x y d has first second = elim (Has-append_cases (named_numbers x) (named_numbers y) d has) [
  | inl here ↦ type_left (declarations x) (declarations y) d (first here)
  | inr more ↦ type_right (declarations x) (declarations y) d (second more)
]

name : (code : Code) (d : ℕ) → Has (named_numbers code) d → IsType (declarations code) d
unfolding named_numbers
name (Incomplete x) d has = (form.IncompleteType, one_listed form.IncompleteType (declared_number x) d has, refl)
name (Private x) d has = (form.PrivateType, one_listed form.PrivateType (declared_number x) d has, refl)
name (TypeDecl x def end) d has = (form.FullType, first_listed form.FullType (declared_number x) (literals_of def) d has, refl)
name (Subtype x m) d has = (form.Subtype, one_listed form.Subtype (declared_number x) d has, refl)
name (ConstrainedSubtype x m low high) d has = (form.Subtype, one_listed form.Subtype (declared_number x) d has, refl)
name (SubBody front items stmts end) d has =
    let K : Declarations = front_declarations front in
    let L : Declarations = declarations items ++ declarations stmts in
    type_right ((body_form front, front_number front) ∷ K) L d (name_two items stmts d has (name items d) (name stmts d))
name (Package x visible hidden) d has =
    let f = name_two visible hidden d has (name visible d) (name hidden d) in (f.0, inr f.1, f.2)
name (PackageBody x parts) d has = name parts d has
name (If p x y) d has = name_two x y d has (name x d) (name y d)
name (Branch p e x) d has = name x d has
name (Case p e x) d has = name x d has
name (When choices x) d has = name x d has
name (Loop p x) d has = name x d has
name (While p e x) d has = name x d has
name (For p n reversed range x) d has = let f = name x d has in (f.0, inr f.1, f.2)
name (Block p x y end) d has = name_two x y d has (name x d) (name y d)
name (More x y) d has = name_two x y d has (name x d) (name y d)
name code d has = absurd has

name_units : (units : List Code) (d : ℕ) → Has (flat_map named_numbers units) d → IsType (flat_map declarations units) d
name_units [] d has = absurd has
name_units (u ∷ rest) d has = elim (Has-append_cases (named_numbers u) (flat_map named_numbers rest) d has) [
  | inl here ↦ type_left (declarations u) (flat_map declarations rest) d (name u d here)
  | inr more ↦ type_right (declarations u) (flat_map declarations rest) d (name_units rest d more)
]

-- The law.
pub views_apart : (kind_at : ℕ → DeclKind) (units : List Code) → AreKinds kind_at (flat_map declarations units) → AreViewsApart units
views_apart kind_at units kinds d view_has name_has =
    let v = view_units units d view_has in
    let n = name_units units d name_has in
    v.2 (ap kind_class (kinds v.0 d v.1 ∙ sym (kinds n.0 d n.1)) ∙ n.2)
