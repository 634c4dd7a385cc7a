-- What kinds of types definitions make.
use Rattle.std.specs.Prelude.{◌≡◌, ℕ}
use Rattle.machine.specs.resolved_tree.Trees.{More, Code, Enumeration, TypeDecl, SubBody, Package, PackageBody, If, Branch, Case, When, Loop, While, For, Block}
use Rattle.machine.specs.type_definitions.declared.table.Shape.{Shape}
use Rattle.machine.specs.type_definitions.declared.table.Shape.TheVariants as shape
use Rattle.machine.specs.type_definitions.Types.{Table}
use Rattle.machine.specs.type_definitions.Gathered.{declared_number}
use Rattle.settled_types.specs.Wholes.{written}

-- Ranges of Integer are 0, enumerations 1, names of another type 3.
abbrev pub kind : Shape → ℕ
kind (shape.Whole low high) = 0
kind (shape.Listed literals low high) = 1
kind (shape.Same of) = 3
kind _ = 2

abbrev pub kind_defined : Code → ℕ
kind_defined (Enumeration literals) = 1
kind_defined _ = 2

-- Each full type in the code has the kind of its definition.
unfoldable pub Kinds : Table → Code → Type 0
Kinds table (TypeDecl d def end) = kind (written table (declared_number d)) ≡ kind_defined def
Kinds table (SubBody front items stmts end) = Kinds table items × Kinds table stmts
Kinds table (Package d visible hidden) = Kinds table visible × Kinds table hidden
Kinds table (PackageBody d parts) = Kinds table parts
Kinds table (If p branches otherwise) = Kinds table branches × Kinds table otherwise
Kinds table (Branch p e stmts) = Kinds table stmts
Kinds table (Case p e whens) = Kinds table whens
Kinds table (When choices stmts) = Kinds table stmts
Kinds table (Loop p stmts) = Kinds table stmts
Kinds table (While p e stmts) = Kinds table stmts
Kinds table (For p d reversed range stmts) = Kinds table stmts
Kinds table (Block p items stmts end) = Kinds table items × Kinds table stmts
Kinds table (More a rest) = Kinds table a × Kinds table rest
Kinds table code = Unit {0}
