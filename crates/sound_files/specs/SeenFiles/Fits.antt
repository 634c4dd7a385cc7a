-- Resolved code in which names of objects denote what is in scope.
use Rattle.std.specs.Prelude.{ℕ, List, [], ◌∷◌, ◌++◌, map, flat_map}
use Rattle.machine.specs.spark_base.Lists.{Has}
use Rattle.machine.specs.resolved_tree.Trees.{Code, Bounds, Constrained, RangeOf, Objects, Numbers, Formals, Front, SubDecl, SubBody, Package, PackageBody, Assign, Call, Exit, Return, If, Branch, Case, When, Loop, While, For, Block, NoMore, More, code_items}
use Rattle.machine.specs.type_definitions.Gathered.{declared_number}
use Rattle.sound_files.specs.SeenFiles.Uses.{Uses}

-- The numbers of a list of identifiers, and those of the formals of a subprogram.
abbrev pub all_numbers : Code → List ℕ
all_numbers ids = map declared_number (code_items ids)

abbrev pub group_numbers : Code → List ℕ
group_numbers (Formals ids m of) = all_numbers ids
group_numbers _ = []

abbrev pub formal_numbers : Code → List ℕ
formal_numbers formals = flat_map group_numbers (code_items formals)

abbrev pub front_numbers : Code → List ℕ
front_numbers (Front d formals result) = formal_numbers formals
front_numbers _ = []

-- The objects in scope after code: those that it declares itself, not in inner blocks, and those before.
unfoldable pub scope_after : Code → List ℕ → List ℕ
scope_after (Objects ids constant i v) scope = all_numbers ids ++ scope
scope_after (Numbers ids e) scope = all_numbers ids ++ scope
scope_after (More a rest) scope = scope_after rest (scope_after a scope)
scope_after _ scope = scope

-- Those after a unit: the objects of packages stay.
unfoldable pub unit_scope : Code → List ℕ → List ℕ
unit_scope (Package d visible hidden) scope = scope_after hidden (scope_after visible scope)
unit_scope (PackageBody d parts) scope = scope_after parts scope
unit_scope _ scope = scope

-- A declaration is in scope, if it is one of an object.
abbrev pub IsKept : (ℕ → Type 0) → List ℕ → ℕ → Type 0
IsKept object scope n = object n → Has scope n

abbrev pub AreObjects : (ℕ → Type 0) → List ℕ → Type 0
AreObjects object ns = (n : ℕ) → Has ns n → object n

abbrev pub RangeFits : (ℕ → Type 0) → List ℕ → Code → Type 0
RangeFits object scope (Bounds low high) = Uses (IsKept object scope) low × Uses (IsKept object scope) high
RangeFits object scope (Constrained m low high) = Uses (IsKept object scope) low × Uses (IsKept object scope) high
RangeFits object scope (RangeOf e) = Uses (IsKept object scope) e
RangeFits object scope range = Unit {0}

-- What is told to be an object is one, and what code names is in scope where it stands, if it is one.
unfoldable mutual
  pub Fits : (ℕ → Type 0) → List ℕ → Code → Type 0
  Fits object scope (Objects ids constant i v) = AreObjects object (all_numbers ids) × Uses (IsKept object scope) v
  Fits object scope (Numbers ids e) = AreObjects object (all_numbers ids) × Uses (IsKept object scope) e
  Fits object scope (SubDecl front) = AreObjects object (front_numbers front)
  Fits object scope (SubBody front items stmts end) =
      AreObjects object (front_numbers front)
      × (Fits object (front_numbers front ++ scope) items × Fits object (scope_after items (front_numbers front ++ scope)) stmts)
  Fits object scope (Package d visible hidden) = ⊥
  Fits object scope (PackageBody d parts) = ⊥
  Fits object scope (Assign target e) = Uses (IsKept object scope) target × Uses (IsKept object scope) e
  Fits object scope (Call name) = Uses (IsKept object scope) name
  Fits object scope (Exit p when) = Uses (IsKept object scope) when
  Fits object scope (Return p v) = Uses (IsKept object scope) v
  Fits object scope (If p branches otherwise) = AreFitting object scope branches × Fits object scope otherwise
  Fits object scope (Branch p e stmts) = Uses (IsKept object scope) e × Fits object scope stmts
  Fits object scope (Case p e whens) = Uses (IsKept object scope) e × AreFitting object scope whens
  Fits object scope (When choices stmts) = Fits object scope stmts
  Fits object scope (Loop p stmts) = Fits object scope stmts
  Fits object scope (While p e stmts) = Uses (IsKept object scope) e × Fits object scope stmts
  Fits object scope (For p d reversed range stmts) =
      object (declared_number d) × (RangeFits object scope range × Fits object (declared_number d ∷ scope) stmts)
  Fits object scope (Block p items stmts end) = Fits object scope items × Fits object (scope_after items scope) stmts
  Fits object scope (More a rest) = Fits object scope a × Fits object (scope_after a scope) rest
  Fits object scope code = Unit {0}

  -- Branches and alternatives, each for itself.
  pub AreFitting : (ℕ → Type 0) → List ℕ → Code → Type 0
  AreFitting object scope (More a rest) = IsFitting object scope a × AreFitting object scope rest
  AreFitting object scope NoMore = Unit {0}
  AreFitting object scope code = ⊥

  pub IsFitting : (ℕ → Type 0) → List ℕ → Code → Type 0
  IsFitting object scope (Branch p e stmts) = Uses (IsKept object scope) e × Fits object scope stmts
  IsFitting object scope (When choices stmts) = Fits object scope stmts
  IsFitting object scope NoMore = Unit {0}
  IsFitting object scope code = ⊥

-- A unit is a package, its body, or a library procedure.
unfoldable pub UnitFits : (ℕ → Type 0) → List ℕ → Code → Type 0
UnitFits object scope (Package d visible hidden) = Fits object scope visible × Fits object (scope_after visible scope) hidden
UnitFits object scope (PackageBody d parts) = Fits object scope parts
UnitFits object scope (SubBody front items stmts end) = Fits object scope (SubBody front items stmts end)
UnitFits object scope code = ⊥

-- The units of a program, one after the other.
abbrev pub AllFit : (ℕ → Type 0) → List ℕ → List Code → Type 0
AllFit object scope [] = Unit {0}
AllFit object scope (u ∷ rest) = UnitFits object scope u × AllFit object (unit_scope u scope) rest

abbrev pub units_scope : List Code → List ℕ → List ℕ
units_scope [] scope = scope
units_scope (u ∷ rest) scope = units_scope rest (unit_scope u scope)
