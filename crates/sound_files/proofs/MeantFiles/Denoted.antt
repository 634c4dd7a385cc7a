-- What names of code denote is as asked, where objects in scope and objects that the code declares are.
use Rattle.std.proofs.Common.{ℕ, List, [], ◌∷◌, ◌++◌, flat_map, inl, inr, refl, subst}
use Rattle.machine.specs.spark_base.Lists.{Has}
use Rattle.soundness.proofs.Lists.{Has-append_cases, Has-append_left, Has-append_right}
use Rattle.machine.specs.resolved_tree.Trees.{Tree, Named, Parens, Unary, Binary, Aggregate, Others, New, Applied, Argument, NoMore, More, Code, Bounds, Constrained, Objects, Numbers, SubBody, Package, PackageBody, Assign, Call, Exit, Return, If, Branch, Case, When, Loop, While, For, Block}
use Rattle.machine.specs.type_definitions.Gathered.{declared_number}
use Rattle.sound_files.specs.SeenFiles.Uses.{Uses}
use Rattle.sound_files.specs.SeenFiles.Fits.{all_numbers, front_numbers, scope_after, unit_scope, IsKept, AreObjects, RangeFits, Fits, AreFitting, IsFitting, UnitFits, AllFit}
use Rattle.sound_files.specs.MeantFiles.Denoted.{RangeDenoted, AreDenoted}
use Rattle.sound_files.proofs.MeantFiles.Objects.{object_numbers}

uses_all : (asked wanted : ℕ → Type 0) → ((n : ℕ) → asked n → wanted n) → (e : Tree) → Uses asked e → Uses wanted e
unfolding Uses
uses_all asked wanted to (Named p d rest) u = (to d u.0, uses_all asked wanted to rest u.1)
uses_all asked wanted to (Parens p e) u = uses_all asked wanted to e u
uses_all asked wanted to (Unary p op e) u = uses_all asked wanted to e u
uses_all asked wanted to (Binary p op a b) u = (uses_all asked wanted to a u.0, uses_all asked wanted to b u.1)
uses_all asked wanted to (Aggregate p args) u = uses_all asked wanted to args u
uses_all asked wanted to (Others p e) u = uses_all asked wanted to e u
uses_all asked wanted to (New p m v) u = uses_all asked wanted to v u
uses_all asked wanted to (Applied args) u = uses_all asked wanted to args u
uses_all asked wanted to (Argument w e rest) u = (uses_all asked wanted to e u.0, uses_all asked wanted to rest u.1)
uses_all asked wanted to (More a rest) u = (uses_all asked wanted to a u.0, uses_all asked wanted to rest u.1)
uses_all asked wanted to e u = tt

-- `all` has the numbers of the objects of the program, and `object` holds of the numbers of objects.
module _ (object asked : ℕ → Type 0) (all : List ℕ) (known : (n : ℕ) → (object n → Has all n) → asked n) where
  abbrev Within : List ℕ → Type 0
  Within ns = (n : ℕ) → Has ns n → Has all n

  left : (ns ms : List ℕ) → Within (ns ++ ms) → Within ns
  left ns ms within n has = within n (Has-append_left ns ms n has)

  right : (ns ms : List ℕ) → Within (ns ++ ms) → Within ms
  right ns ms within n has = within n (Has-append_right ns ms n has)

  both : (ns ms : List ℕ) → Within ns → Within ms → Within (ns ++ ms)
  both ns ms first second n has = elim (Has-append_cases ns ms n has) [ inl here ↦ first n here | inr more ↦ second n more ]

  scope_within : (code : Code) (scope : List ℕ) → Within scope → Within (object_numbers code) → Within (scope_after code scope)
  unfolding scope_after
  scope_within (Objects ids constant i v) scope within declared = both (all_numbers ids) scope declared within
  scope_within (Numbers ids e) scope within declared = both (all_numbers ids) scope declared within
  scope_within (More a rest) scope within declared =
      scope_within rest (scope_after a scope) (scope_within a scope within (left (object_numbers a) (object_numbers rest) declared))
      (right (object_numbers a) (object_numbers rest) declared)
  scope_within code scope within declared = within

  uses : (scope : List ℕ) → Within scope → (e : Tree) → Uses (IsKept object scope) e → Uses asked e
  uses scope within e = uses_all (IsKept object scope) asked (λ n kept. known n (λ is. within n (kept is))) e

  objects : (ns : List ℕ) → Within ns → AreObjects asked ns
  objects ns within n has = known n (λ is. within n has)

  range_denoted : (range : Code) (scope : List ℕ) → Within scope → RangeFits object scope range → RangeDenoted asked range
  range_denoted (Bounds low high) scope within fits = (uses scope within low fits.0, uses scope within high fits.1)
  range_denoted (Constrained m low high) scope within fits = (uses scope within low fits.0, uses scope within high fits.1)
  range_denoted range scope within fits = tt

  mutual
    unfolding Fits AreFitting IsFitting AreDenoted

    denoted : (code : Code) (scope : List ℕ) → Within scope → Within (object_numbers code) → Fits object scope code → AreDenoted asked code
    denoted (Objects ids constant i v) scope within declared fits = (objects (all_numbers ids) declared, uses scope within v fits.1)
    denoted (Numbers ids e) scope within declared fits = (objects (all_numbers ids) declared, uses scope within e fits.1)
    denoted (SubBody front items stmts end) scope within declared fits =
        let inner : List ℕ = front_numbers front ++ scope in
        let more = right (front_numbers front) (object_numbers items ++ object_numbers stmts) declared in
        let here = both (front_numbers front) scope (left (front_numbers front) (object_numbers items ++ object_numbers stmts) declared) within in
        let first = left (object_numbers items) (object_numbers stmts) more in (
          denoted items inner here first fits.1.0,
          denoted stmts (scope_after items inner) (scope_within items inner here first) (right (object_numbers items) (object_numbers stmts) more) fits.1.1,
        )
    denoted (Package d visible hidden) scope within declared fits = absurd fits
    denoted (PackageBody d parts) scope within declared fits = absurd fits
    denoted (Assign target e) scope within declared fits = (uses scope within target fits.0, uses scope within e fits.1)
    denoted (Call name) scope within declared fits = uses scope within name fits
    denoted (Exit p when) scope within declared fits = uses scope within when fits
    denoted (Return p v) scope within declared fits = uses scope within v fits
    denoted (If p branches otherwise) scope within declared fits = (
      fitting branches scope within (left (object_numbers branches) (object_numbers otherwise) declared) fits.0,
      denoted otherwise scope within (right (object_numbers branches) (object_numbers otherwise) declared) fits.1,
    )
    denoted (Branch p e stmts) scope within declared fits = (uses scope within e fits.0, denoted stmts scope within declared fits.1)
    denoted (Case p e whens) scope within declared fits = (uses scope within e fits.0, fitting whens scope within declared fits.1)
    denoted (When choices stmts) scope within declared fits = denoted stmts scope within declared fits
    denoted (Loop p stmts) scope within declared fits = denoted stmts scope within declared fits
    denoted (While p e stmts) scope within declared fits = (uses scope within e fits.0, denoted stmts scope within declared fits.1)
    denoted (For p d reversed range stmts) scope within declared fits =
        let inner : List ℕ = declared_number d ∷ scope in (
          known (declared_number d) (λ is. declared (declared_number d) (inl refl)),
          range_denoted range scope within fits.1.0,
          denoted stmts inner (λ n has. elim has [ inl same ↦ declared n (inl same) | inr old ↦ within n old ]) (λ n has. declared n (inr has)) fits.1.1,
        )
    denoted (Block p items stmts end) scope within declared fits =
        let first = left (object_numbers items) (object_numbers stmts) declared in (
          denoted items scope within first fits.0,
          denoted stmts (scope_after items scope) (scope_within items scope within first) (right (object_numbers items) (object_numbers stmts) declared) fits.1,
        )
    denoted (More a rest) scope within declared fits =
        let first = left (object_numbers a) (object_numbers rest) declared in (
          denoted a scope within first fits.0,
          denoted rest (scope_after a scope) (scope_within a scope within first) (right (object_numbers a) (object_numbers rest) declared) fits.1,
        )
    denoted code scope within declared fits = tt

    fitting : (code : Code) (scope : List ℕ) → Within scope → Within (object_numbers code) → AreFitting object scope code → AreDenoted asked code
    fitting (More a rest) scope within declared fits = (
      one_fitting a scope within (left (object_numbers a) (object_numbers rest) declared) fits.0,
      fitting rest scope within (right (object_numbers a) (object_numbers rest) declared) fits.1,
    )
    fitting NoMore scope within declared fits = tt
    fitting code scope within declared fits = absurd fits

    one_fitting : (code : Code) (scope : List ℕ) → Within scope → Within (object_numbers code) → IsFitting object scope code → AreDenoted asked code
    one_fitting (Branch p e stmts) scope within declared fits = (uses scope within e fits.0, denoted stmts scope within declared fits.1)
    one_fitting (When choices stmts) scope within declared fits = denoted stmts scope within declared fits
    one_fitting NoMore scope within declared fits = tt
    one_fitting code scope within declared fits = absurd fits

  unit_denoted : (u : Code) (scope : List ℕ) → Within scope → Within (object_numbers u) → UnitFits object scope u → AreDenoted asked u
  unfolding UnitFits AreDenoted
  unit_denoted (Package d visible hidden) scope within declared fits =
      let first = left (object_numbers visible) (object_numbers hidden) declared in (
        denoted visible scope within first fits.0,
        denoted hidden (scope_after visible scope) (scope_within visible scope within first) (right (object_numbers visible) (object_numbers hidden) declared) fits.1,
      )
  unit_denoted (PackageBody d parts) scope within declared fits = denoted parts scope within declared fits
  unit_denoted (SubBody front items stmts end) scope within declared fits = denoted (SubBody front items stmts end) scope within declared fits
  unit_denoted u scope within declared fits = absurd fits

  unit_within : (u : Code) (scope : List ℕ) → Within scope → Within (object_numbers u) → Within (unit_scope u scope)
  unfolding unit_scope
  unit_within (Package d visible hidden) scope within declared =
      scope_within hidden (scope_after visible scope) (scope_within visible scope within (left (object_numbers visible) (object_numbers hidden) declared))
      (right (object_numbers visible) (object_numbers hidden) declared)
  unit_within (PackageBody d parts) scope within declared = scope_within parts scope within declared
  unit_within u scope within declared = within

  pub units_denoted : (units : List Code) (scope : List ℕ) → Within scope → Within (flat_map object_numbers units) → AllFit object scope units
      → (u : Code) → Has units u → AreDenoted asked u
  units_denoted [] scope within declared fits u has = absurd has
  units_denoted (v ∷ rest) scope within declared fits u has =
      let first = left (object_numbers v) (flat_map object_numbers rest) declared in elim has [
        | inl same ↦ subst (AreDenoted asked) same (unit_denoted v scope within first fits.0)
        | inr more ↦ units_denoted rest (unit_scope v scope) (unit_within v scope within first) (right (object_numbers v) (flat_map object_numbers rest) declared) fits.1 u more
      ]
