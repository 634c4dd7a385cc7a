-- The types with names that code declares stand before its end; code without anonymous access types has none.
use Rattle.std.proofs.Common.{◌≡◌, ◌⊎◌, inl, inr, ℕ, true, List, [], ◌∷◌, ◌++◌, flat_map}
use Rattle.machine.specs.spark_base.Lists.{Has}
use Rattle.spark_base.proofs.Lists.{Has-append_cases, Has-append_left, Has-append_right}
use Rattle.machine.specs.resolved_tree.Trees.{More, Code, Anonymous, Incomplete, Private, TypeDecl, Subtype, ConstrainedSubtype, Objects, Formals, Front, SubDecl, SubBody, Package, PackageBody, If, Branch, Case, When, Loop, While, For, Block, code_items}
use Rattle.machine.specs.type_definitions.Gathered.{declared_number}
use Rattle.settled_types.specs.Orderly.{Past, within, past_after, past_units}
use Rattle.settled_types.specs.Stamped.{IsType}
use Rattle.settled_types.specs.GatheredLaws.Made.{indicated_numbers, all_numbers, group_numbers, result_numbers, front_numbers, type_numbers}
use Rattle.settled_types.specs.GatheredLaws.Views.{named_numbers, view_numbers, formal_numbers, own_numbers, front_result, body_results}
use Rattle.settled_types.specs.GatheredLaws.Named.{IsPlain, IsPlainGroup, ArePlainGroups, IsPlainResult, IsPlainFront}

-- what is declared before stays
grows : (code : Code) (p : Past) (t : ℕ) → IsType p t → IsType (past_after code p) t
unfolding past_after
grows (Incomplete d) p t is = elim is [ inl low ↦ inl low | inr is ↦ elim is [ inl w ↦ inr (inl (inr w)) | inr e ↦ inr (inr e) ] ]
grows (Private d) p t is = elim is [ inl low ↦ inl low | inr is ↦ elim is [ inl w ↦ inr (inl (inr w)) | inr e ↦ inr (inr e) ] ]
grows (TypeDecl d def end) p t is = elim is [ inl low ↦ inl low | inr is ↦ elim is [ inl w ↦ inr (inl w) | inr e ↦ inr (inr (inr e)) ] ]
grows (Subtype d m) p t is = elim is [ inl low ↦ inl low | inr is ↦ elim is [ inl w ↦ inr (inl w) | inr e ↦ inr (inr (inr e)) ] ]
grows (ConstrainedSubtype d m low high) p t is = elim is [ inl low ↦ inl low | inr is ↦ elim is [ inl w ↦ inr (inl w) | inr e ↦ inr (inr (inr e)) ] ]
grows (SubBody front items stmts end) p t is = grows stmts (past_after items p) t (grows items p t is)
grows (Package d visible hidden) p t is = grows hidden (within true (past_after visible (within true p))) t (grows visible (within true p) t is)
grows (PackageBody d parts) p t is = grows parts (within true p) t is
grows (If at x y) p t is = grows y (past_after x p) t (grows x p t is)
grows (Branch at e x) p t is = grows x p t is
grows (Case at e x) p t is = grows x p t is
grows (When choices x) p t is = grows x p t is
grows (Loop at x) p t is = grows x p t is
grows (While at e x) p t is = grows x p t is
grows (For at d reversed range x) p t is = grows x p t is
grows (Block at x y end) p t is = grows y (past_after x p) t (grows x p t is)
grows (More x y) p t is = grows y (past_after x p) t (grows x p t is)
grows code p t is = is

none_indicated : (i : Code) (numbers : List ℕ) (t : ℕ) → IsPlain i → Has (indicated_numbers i numbers) t → ⊥
none_indicated (Anonymous p constant m) numbers t plain has = plain
none_indicated i numbers t plain has = has

none_grouped : (group : Code) (t : ℕ) → IsPlainGroup group → Has (group_numbers group) t → ⊥
none_grouped (Formals ids m of) t plain has = none_indicated of (all_numbers ids) t plain has
none_grouped group t plain has = has

none_listed : (groups : Code) (t : ℕ) → ArePlainGroups groups → Has (flat_map group_numbers (code_items groups)) t → ⊥
none_listed (More group rest) t plain has = elim (Has-append_cases (group_numbers group) (flat_map group_numbers (code_items rest)) t has) [
  | inl here ↦ none_grouped group t plain.0 here
  | inr more ↦ none_listed rest t plain.1 more
]
none_listed groups t plain has = has

none_given : (d : ℕ) (result : Code) (t : ℕ) → IsPlainResult result → Has (result_numbers d result) t → ⊥
none_given d (More i rest) t plain has = none_indicated i (d ∷ []) t plain has
none_given d result t plain has = has

none_front : (front : Code) (t : ℕ) → IsPlainFront front → Has (front_numbers front) t → ⊥
none_front (Front d formals result) t plain has =
    elim (Has-append_cases (result_numbers (declared_number d) result) (flat_map group_numbers (code_items formals)) t has) [
      | inl here ↦ none_given (declared_number d) result t plain.1 here
      | inr more ↦ none_listed formals t plain.0 more
    ]
none_front front t plain has = has

first_of : (n t : ℕ) → Has (n ∷ []) t → n ≡ t
first_of n t (inl same) = same
first_of n t (inr none) = absurd none

-- each type has a name, or is an anonymous access type
either : (x y : Code) (t : ℕ) → Has (type_numbers x ++ type_numbers y) t
    → (Has (type_numbers x) t → Has (named_numbers x) t ⊎ (Has (own_numbers x) t ⊎ Has (body_results x) t))
    → (Has (type_numbers y) t → Has (named_numbers y) t ⊎ (Has (own_numbers y) t ⊎ Has (body_results y) t))
    → Has (named_numbers x ++ named_numbers y) t ⊎ (Has (own_numbers x ++ own_numbers y) t ⊎ Has (body_results x ++ body_results y) t)
either x y t has first second = elim (Has-append_cases (type_numbers x) (type_numbers y) t has) [
  | inl here ↦ elim (first here) [
    | inl name ↦ inl (Has-append_left (named_numbers x) (named_numbers y) t name)
    | inr view ↦ elim view [
      | inl own ↦ inr (inl (Has-append_left (own_numbers x) (own_numbers y) t own))
      | inr result ↦ inr (inr (Has-append_left (body_results x) (body_results y) t result))
    ]
  ]
  | inr more ↦ elim (second more) [
    | inl name ↦ inl (Has-append_right (named_numbers x) (named_numbers y) t name)
    | inr view ↦ elim view [
      | inl own ↦ inr (inl (Has-append_right (own_numbers x) (own_numbers y) t own))
      | inr result ↦ inr (inr (Has-append_right (body_results x) (body_results y) t result))
    ]
  ]
]

-- the result of a front, and its formals
front_either : (front : Code) (t : ℕ) → Has (front_numbers front) t → Has (front_result front) t ⊎ Has (formal_numbers front) t
front_either (Front d formals result) t has = Has-append_cases (result_numbers (declared_number d) result) (flat_map group_numbers (code_items formals)) t has
front_either front t has = absurd has

told : (code : Code) (t : ℕ) → Has (type_numbers code) t → Has (named_numbers code) t ⊎ (Has (own_numbers code) t ⊎ Has (body_results code) t)
unfolding type_numbers named_numbers own_numbers body_results
told (Incomplete d) t has = inl has
told (Private d) t has = inl has
told (TypeDecl d def end) t has = inl has
told (Subtype d m) t has = inl has
told (ConstrainedSubtype d m low high) t has = inl has
told (Objects ids constant i v) t has = inr (inl has)
told (SubDecl front) t has = inr (inl has)
told (SubBody front items stmts end) t has =
    let own : List ℕ = own_numbers items ++ own_numbers stmts in
    let results : List ℕ = body_results items ++ body_results stmts in
    elim (Has-append_cases (front_numbers front) (type_numbers items ++ type_numbers stmts) t has) [
      | inl here ↦ elim (front_either front t here) [
        | inl result ↦ inr (inr (Has-append_left (front_result front) results t result))
        | inr formal ↦ inr (inl (Has-append_left (formal_numbers front) own t formal))
      ]
      | inr more ↦ elim (either items stmts t more (told items t) (told stmts t)) [
        | inl name ↦ inl name
        | inr view ↦ elim view [
          | inl inner ↦ inr (inl (Has-append_right (formal_numbers front) own t inner))
          | inr inner ↦ inr (inr (Has-append_right (front_result front) results t inner))
        ]
      ]
    ]
told (Package d visible hidden) t has = either visible hidden t has (told visible t) (told hidden t)
told (PackageBody d parts) t has = told parts t has
told (If at x y) t has = either x y t has (told x t) (told y t)
told (Branch at e x) t has = told x t has
told (Case at e x) t has = told x t has
told (When choices x) t has = told x t has
told (Loop at x) t has = told x t has
told (While at e x) t has = told x t has
told (For at d reversed range x) t has = told x t has
told (Block at x y end) t has = either x y t has (told x t) (told y t)
told (More x y) t has = either x y t has (told x t) (told y t)
told code t has = absurd has

pub units_told : (units : List Code) (t : ℕ) → Has (flat_map type_numbers units) t
    → Has (flat_map named_numbers units) t ⊎ (Has (flat_map own_numbers units) t ⊎ Has (flat_map body_results units) t)
units_told [] t has = absurd has
units_told (u ∷ rest) t has = elim (Has-append_cases (type_numbers u) (flat_map type_numbers rest) t has) [
  | inl here ↦ elim (told u t here) [
    | inl name ↦ inl (Has-append_left (named_numbers u) (flat_map named_numbers rest) t name)
    | inr view ↦ elim view [
      | inl own ↦ inr (inl (Has-append_left (own_numbers u) (flat_map own_numbers rest) t own))
      | inr result ↦ inr (inr (Has-append_left (body_results u) (flat_map body_results rest) t result))
    ]
  ]
  | inr more ↦ elim (units_told rest t more) [
    | inl name ↦ inl (Has-append_right (named_numbers u) (flat_map named_numbers rest) t name)
    | inr view ↦ elim view [
      | inl own ↦ inr (inl (Has-append_right (own_numbers u) (flat_map own_numbers rest) t own))
      | inr result ↦ inr (inr (Has-append_right (body_results u) (flat_map body_results rest) t result))
    ]
  ]
]

own_two : (x y : Code) (t : ℕ) → Has (own_numbers x ++ own_numbers y) t → (Has (own_numbers x) t → Has (view_numbers x) t) → (Has (own_numbers y) t → Has (view_numbers y) t)
    → Has (view_numbers x ++ view_numbers y) t
own_two x y t has first second = elim (Has-append_cases (own_numbers x) (own_numbers y) t has) [
  | inl here ↦ Has-append_left (view_numbers x) (view_numbers y) t (first here)
  | inr more ↦ Has-append_right (view_numbers x) (view_numbers y) t (second more)
]

formal_front : (front : Code) (t : ℕ) → Has (formal_numbers front) t → Has (front_numbers front) t
formal_front (Front d formals result) t has = Has-append_right (result_numbers (declared_number d) result) (flat_map group_numbers (code_items formals)) t has
formal_front front t has = absurd has

-- objects, formals and results of declarations are anonymous access types too
own_viewed : (code : Code) (t : ℕ) → Has (own_numbers code) t → Has (view_numbers code) t
unfolding own_numbers view_numbers
own_viewed (Objects ids constant i v) t has = has
own_viewed (SubDecl front) t has = has
own_viewed (SubBody front items stmts end) t has = elim (Has-append_cases (formal_numbers front) (own_numbers items ++ own_numbers stmts) t has) [
  | inl here ↦ Has-append_left (front_numbers front) (view_numbers items ++ view_numbers stmts) t (formal_front front t here)
  | inr more ↦ Has-append_right (front_numbers front) (view_numbers items ++ view_numbers stmts) t (own_two items stmts t more (own_viewed items t) (own_viewed stmts t))
]
own_viewed (Package d visible hidden) t has = own_two visible hidden t has (own_viewed visible t) (own_viewed hidden t)
own_viewed (PackageBody d parts) t has = own_viewed parts t has
own_viewed (If at x y) t has = own_two x y t has (own_viewed x t) (own_viewed y t)
own_viewed (Branch at e x) t has = own_viewed x t has
own_viewed (Case at e x) t has = own_viewed x t has
own_viewed (When choices x) t has = own_viewed x t has
own_viewed (Loop at x) t has = own_viewed x t has
own_viewed (While at e x) t has = own_viewed x t has
own_viewed (For at d reversed range x) t has = own_viewed x t has
own_viewed (Block at x y end) t has = own_two x y t has (own_viewed x t) (own_viewed y t)
own_viewed (More x y) t has = own_two x y t has (own_viewed x t) (own_viewed y t)
own_viewed code t has = has

pub units_own_viewed : (units : List Code) (t : ℕ) → Has (flat_map own_numbers units) t → Has (flat_map view_numbers units) t
units_own_viewed [] t has = has
units_own_viewed (u ∷ rest) t has = elim (Has-append_cases (own_numbers u) (flat_map own_numbers rest) t has) [
  | inl here ↦ Has-append_left (view_numbers u) (flat_map view_numbers rest) t (own_viewed u t here)
  | inr more ↦ Has-append_right (view_numbers u) (flat_map view_numbers rest) t (units_own_viewed rest t more)
]

declares : (code : Code) (p : Past) (t : ℕ) → Has (named_numbers code) t → IsType (past_after code p) t
unfolding past_after named_numbers
declares (Incomplete d) p t has = inr (inl (inl (first_of (declared_number d) t has)))
declares (Private d) p t has = inr (inl (inl (first_of (declared_number d) t has)))
declares (TypeDecl d def end) p t has = inr (inr (inl (first_of (declared_number d) t has)))
declares (Subtype d m) p t has = inr (inr (inl (first_of (declared_number d) t has)))
declares (ConstrainedSubtype d m low high) p t has = inr (inr (inl (first_of (declared_number d) t has)))
declares (SubBody front items stmts end) p t has = elim (Has-append_cases (named_numbers items) (named_numbers stmts) t has) [
  | inl here ↦ grows stmts (past_after items p) t (declares items p t here)
  | inr more ↦ declares stmts (past_after items p) t more
]
declares (Package d visible hidden) p t has = elim (Has-append_cases (named_numbers visible) (named_numbers hidden) t has) [
  | inl here ↦ grows hidden (within true (past_after visible (within true p))) t (declares visible (within true p) t here)
  | inr more ↦ declares hidden (within true (past_after visible (within true p))) t more
]
declares (PackageBody d parts) p t has = declares parts (within true p) t has
declares (If at x y) p t has = elim (Has-append_cases (named_numbers x) (named_numbers y) t has) [
  | inl here ↦ grows y (past_after x p) t (declares x p t here)
  | inr more ↦ declares y (past_after x p) t more
]
declares (Branch at e x) p t has = declares x p t has
declares (Case at e x) p t has = declares x p t has
declares (When choices x) p t has = declares x p t has
declares (Loop at x) p t has = declares x p t has
declares (While at e x) p t has = declares x p t has
declares (For at d reversed range x) p t has = declares x p t has
declares (Block at x y end) p t has = elim (Has-append_cases (named_numbers x) (named_numbers y) t has) [
  | inl here ↦ grows y (past_after x p) t (declares x p t here)
  | inr more ↦ declares y (past_after x p) t more
]
declares (More x y) p t has = elim (Has-append_cases (named_numbers x) (named_numbers y) t has) [
  | inl here ↦ grows y (past_after x p) t (declares x p t here)
  | inr more ↦ declares y (past_after x p) t more
]
declares code p t has = absurd has

units_grow : (units : List Code) (p : Past) (t : ℕ) → IsType p t → IsType (past_units units p) t
units_grow [] p t is = is
units_grow (u ∷ rest) p t is = units_grow rest (past_after u p) t (grows u p t is)

pub units_declare : (units : List Code) (p : Past) (t : ℕ) → Has (flat_map named_numbers units) t → IsType (past_units units p) t
units_declare [] p t has = absurd has
units_declare (u ∷ rest) p t has = elim (Has-append_cases (named_numbers u) (flat_map named_numbers rest) t has) [
  | inl here ↦ units_grow rest (past_after u p) t (declares u p t here)
  | inr more ↦ units_declare rest (past_after u p) t more
]

-- ---- code without anonymous access types
