-- A table says of anonymous access types what they are where they are declared: of those of objects, of formals and of
-- results.
use Rattle.std.specs.Prelude.{◌≡◌, ℕ, Bool, true, false, List, [], ◌∷◌, Some, None, slice_get}
use Rattle.machine.specs.resolved_tree.Trees.{More, Code, Anonymous, Objects, Formals, Front, SubDecl, SubBody, Package, PackageBody, If, Branch, Case, When, Loop, While, For, Block}
use Rattle.machine.specs.type_definitions.declared.table.InitialValue.{InitialValue}
use Rattle.machine.specs.type_definitions.declared.table.Shape.TheVariants as shape
use Rattle.machine.specs.type_definitions.Types.{Table}
use Rattle.machine.specs.type_definitions.Entries.{entry_of, marked}
use Rattle.machine.specs.type_definitions.Names.{Context}
use Rattle.machine.specs.type_definitions.Gathered.{gather, with_object, with_formal, with_formal_group, with_result, constant_value, is_subprogram, front_number, in_hidden, declared_number}
use Rattle.settled_types.specs.SteadyTypes.Alike.{outlined}
use Rattle.settled_types.specs.SteadyTypes.Steady.{in_body, in_package, in_loop}

abbrev pub IsKeptAt : Table → ℕ → Code → Context → Type 0
IsKeptAt table n (Anonymous p constant m) c = outlined (slice_get table n) ≡ Some (shape.Access (marked c.known m) constant false, n, None)
IsKeptAt table n i c = Unit {0}

abbrev pub AreKeptAt : Table → Bool → Code → InitialValue → Code → Context → Type 0
AreKeptAt table constant i v (More d rest) c = IsKeptAt table (declared_number d) i c × AreKeptAt table constant i v rest (with_object constant i v d c)
AreKeptAt table constant i v ids c = Unit {0}

abbrev pub AreKeptNames : Table → Code → Code → Context → Type 0
AreKeptNames table of (More d rest) c = IsKeptAt table (declared_number d) of c × AreKeptNames table of rest (with_formal of d c)
AreKeptNames table of ids c = Unit {0}

abbrev pub IsKeptGroup : Table → Code → Context → Type 0
IsKeptGroup table (Formals names m of) c = AreKeptNames table of names c
IsKeptGroup table group c = Unit {0}

abbrev pub AreKeptGroups : Table → Code → Context → Type 0
AreKeptGroups table (More group rest) c = IsKeptGroup table group c × AreKeptGroups table rest (with_formal_group group c)
AreKeptGroups table formals c = Unit {0}

abbrev pub IsKeptResult : Table → ℕ → Code → Context → Type 0
IsKeptResult table d (More i rest) c = IsKeptAt table d i c
IsKeptResult table d result c = Unit {0}

abbrev pub IsKeptFront : Table → Code → Context → Type 0
IsKeptFront table (Front d formals result) c =
    IsKeptResult table (declared_number d) result c × AreKeptGroups table formals (with_result (declared_number d) result c)
IsKeptFront table front c = Unit {0}

abbrev pub AreKeptFormals : Table → Code → Context → Type 0
AreKeptFormals table (Front d formals result) c = AreKeptGroups table formals c
AreKeptFormals table front c = Unit {0}

-- Of a body whose declaration stands apart, its formals alone.
abbrev pub IsKeptBodyAs : Bool → Table → Code → Context → Type 0
IsKeptBodyAs true table front c = AreKeptFormals table front c
IsKeptBodyAs false table front c = IsKeptFront table front c

abbrev pub IsKeptBody : Table → Code → Context → Type 0
IsKeptBody table front c = IsKeptBodyAs (is_subprogram (entry_of c.known (front_number front))) table front c

unfoldable pub IsKept : Table → Code → Context → Type 0
IsKept table (Objects ids constant i v) c = AreKeptAt table constant i (constant_value c constant v) ids c
IsKept table (SubDecl front) c = IsKeptFront table front c
IsKept table (SubBody front items stmts end) c =
    IsKeptBody table front c × IsKept table items (in_body front c) × IsKept table stmts (gather items (in_body front c))
IsKept table (Package d visible hidden) c =
    IsKept table visible (in_package d c) × IsKept table hidden (in_hidden (declared_number d) (gather visible (in_package d c)))
IsKept table (PackageBody d parts) c = IsKept table parts (in_hidden (declared_number d) c)
IsKept table (If p branches otherwise) c = IsKept table branches c × IsKept table otherwise (gather branches c)
IsKept table (Branch p e stmts) c = IsKept table stmts c
IsKept table (Case p e whens) c = IsKept table whens c
IsKept table (When choices stmts) c = IsKept table stmts c
IsKept table (Loop p stmts) c = IsKept table stmts c
IsKept table (While p e stmts) c = IsKept table stmts c
IsKept table (For p d reversed range stmts) c = IsKept table stmts (in_loop d range c)
IsKept table (Block p items stmts end) c = IsKept table items c × IsKept table stmts (gather items c)
IsKept table (More a rest) c = IsKept table a c × IsKept table rest (gather a c)
IsKept table code c = Unit {0}

-- So it is in units, one after the other.
abbrev pub AreKept : Table → List Code → Context → Type 0
AreKept table [] c = Unit {0}
AreKept table (u ∷ rest) c = IsKept table u c × AreKept table rest (gather u c)
