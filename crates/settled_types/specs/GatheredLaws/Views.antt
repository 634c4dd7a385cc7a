-- The numbers of types with names, and those of anonymous access types.
use Rattle.std.specs.Prelude.{◌≡◌, ℕ, Bool, false, List, [], ◌∷◌, ◌++◌, flat_map}
use Rattle.machine.specs.spark_base.Lists.{Has}
use Rattle.machine.specs.resolved_tree.Trees.{More, Code, Incomplete, Private, TypeDecl, Subtype, ConstrainedSubtype, Objects, Front, SubDecl, SubBody, Package, PackageBody, If, Branch, Case, When, Loop, While, For, Block, code_items}
use Rattle.machine.specs.type_definitions.declared.table.Shape.TheVariants as shape
use Rattle.machine.specs.type_definitions.Types.{Table, base}
use Rattle.machine.specs.type_definitions.Gathered.{declared_number}
use Rattle.settled_types.specs.Wholes.{written}
use Rattle.settled_types.specs.GatheredLaws.Made.{indicated_numbers, all_numbers, group_numbers, result_numbers, front_numbers}

unfoldable pub named_numbers : Code → List ℕ
named_numbers (Incomplete d) = declared_number d ∷ []
named_numbers (Private d) = declared_number d ∷ []
named_numbers (TypeDecl d def end) = declared_number d ∷ []
named_numbers (Subtype d m) = declared_number d ∷ []
named_numbers (ConstrainedSubtype d m low high) = declared_number d ∷ []
named_numbers (SubBody front items stmts end) = named_numbers items ++ named_numbers stmts
named_numbers (Package d visible hidden) = named_numbers visible ++ named_numbers hidden
named_numbers (PackageBody d parts) = named_numbers parts
named_numbers (If p branches otherwise) = named_numbers branches ++ named_numbers otherwise
named_numbers (Branch p e stmts) = named_numbers stmts
named_numbers (Case p e whens) = named_numbers whens
named_numbers (When choices stmts) = named_numbers stmts
named_numbers (Loop p stmts) = named_numbers stmts
named_numbers (While p e stmts) = named_numbers stmts
named_numbers (For p d reversed range stmts) = named_numbers stmts
named_numbers (Block p items stmts end) = named_numbers items ++ named_numbers stmts
named_numbers (More a rest) = named_numbers a ++ named_numbers rest
named_numbers code = []

unfoldable pub view_numbers : Code → List ℕ
view_numbers (Objects ids constant i v) = indicated_numbers i (all_numbers ids)
view_numbers (SubDecl front) = front_numbers front
view_numbers (SubBody front items stmts end) = front_numbers front ++ (view_numbers items ++ view_numbers stmts)
view_numbers (Package d visible hidden) = view_numbers visible ++ view_numbers hidden
view_numbers (PackageBody d parts) = view_numbers parts
view_numbers (If p branches otherwise) = view_numbers branches ++ view_numbers otherwise
view_numbers (Branch p e stmts) = view_numbers stmts
view_numbers (Case p e whens) = view_numbers whens
view_numbers (When choices stmts) = view_numbers stmts
view_numbers (Loop p stmts) = view_numbers stmts
view_numbers (While p e stmts) = view_numbers stmts
view_numbers (For p d reversed range stmts) = view_numbers stmts
view_numbers (Block p items stmts end) = view_numbers items ++ view_numbers stmts
view_numbers (More a rest) = view_numbers a ++ view_numbers rest
view_numbers code = []

-- Those of objects, of formals and of the results of declarations. That of the result of a body belongs to the
-- declaration, where that stands apart.
abbrev pub formal_numbers : Code → List ℕ
formal_numbers (Front d formals result) = flat_map group_numbers (code_items formals)
formal_numbers front = []

unfoldable pub own_numbers : Code → List ℕ
own_numbers (Objects ids constant i v) = indicated_numbers i (all_numbers ids)
own_numbers (SubDecl front) = front_numbers front
own_numbers (SubBody front items stmts end) = formal_numbers front ++ (own_numbers items ++ own_numbers stmts)
own_numbers (Package d visible hidden) = own_numbers visible ++ own_numbers hidden
own_numbers (PackageBody d parts) = own_numbers parts
own_numbers (If p branches otherwise) = own_numbers branches ++ own_numbers otherwise
own_numbers (Branch p e stmts) = own_numbers stmts
own_numbers (Case p e whens) = own_numbers whens
own_numbers (When choices stmts) = own_numbers stmts
own_numbers (Loop p stmts) = own_numbers stmts
own_numbers (While p e stmts) = own_numbers stmts
own_numbers (For p d reversed range stmts) = own_numbers stmts
own_numbers (Block p items stmts end) = own_numbers items ++ own_numbers stmts
own_numbers (More a rest) = own_numbers a ++ own_numbers rest
own_numbers code = []

abbrev pub front_result : Code → List ℕ
front_result (Front d formals result) = result_numbers (declared_number d) result
front_result front = []

unfoldable pub body_results : Code → List ℕ
body_results (SubBody front items stmts end) = front_result front ++ (body_results items ++ body_results stmts)
body_results (Package d visible hidden) = body_results visible ++ body_results hidden
body_results (PackageBody d parts) = body_results parts
body_results (If p branches otherwise) = body_results branches ++ body_results otherwise
body_results (Branch p e stmts) = body_results stmts
body_results (Case p e whens) = body_results whens
body_results (When choices stmts) = body_results stmts
body_results (Loop p stmts) = body_results stmts
body_results (While p e stmts) = body_results stmts
body_results (For p d reversed range stmts) = body_results stmts
body_results (Block p items stmts end) = body_results items ++ body_results stmts
body_results (More a rest) = body_results a ++ body_results rest
body_results code = []

-- No anonymous access type has the number of a type with a name.
abbrev pub AreViewsApart : List Code → Type 0
AreViewsApart units = (d : ℕ) → Has (flat_map view_numbers units) d → Has (flat_map named_numbers units) d → ⊥

-- The row of an anonymous access type: it is based on nothing else.
abbrev pub IsViewRow : Table → ℕ → Type 0
IsViewRow table t = (base table t ≡ t) × (to : ℕ) × (constant : Bool) × (written table t ≡ shape.Access to constant false)

-- What is asked of the anonymous access types of a program, by the numbers in its text and by the table that is known
-- of it.
pub record AreViews (units : List Code) (table : Table) : Type 0 where
  pub apart : AreViewsApart units
  -- the result of a body has the type of its declaration
  pub results : (t : ℕ) → Has (flat_map body_results units) t → IsViewRow table t
