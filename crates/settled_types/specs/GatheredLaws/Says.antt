-- What is said of the types of literals and of instances.
use Rattle.std.specs.Prelude.{ℕ}
use Rattle.machine.specs.resolved_tree.Trees.{More, Code, Enumeration, TypeDecl, Instance, SubBody, Package, PackageBody, If, Branch, Case, When, Loop, While, For, Block}
use Rattle.machine.specs.type_definitions.declared.table.Entry.{Entry}
use Rattle.machine.specs.type_definitions.declared.table.Entry.TheVariants as entry
use Rattle.machine.specs.type_definitions.Gathered.{declared_number, instance_type}

abbrev pub Says : (ℕ → Type 0) → (ℕ → Type 0) → Entry → Type 0
Says literal instance (entry.Literal t n) = literal t
Says literal instance (entry.Instance t) = instance t
Says literal instance e = Unit {0}

abbrev pub SaysDefined : (ℕ → Type 0) → ℕ → Code → Type 0
SaysDefined literal d (Enumeration literals) = literal d
SaysDefined literal d def = Unit {0}

-- The types of the literals and instances that code declares.
unfoldable pub SaysAll : (ℕ → Type 0) → (ℕ → Type 0) → Code → Type 0
SaysAll literal instance (TypeDecl d def end) = SaysDefined literal (declared_number d) def
SaysAll literal instance (Instance d m args) = instance (instance_type args)
SaysAll literal instance (SubBody front items stmts end) = SaysAll literal instance items × SaysAll literal instance stmts
SaysAll literal instance (Package d visible hidden) = SaysAll literal instance visible × SaysAll literal instance hidden
SaysAll literal instance (PackageBody d parts) = SaysAll literal instance parts
SaysAll literal instance (If p branches otherwise) = SaysAll literal instance branches × SaysAll literal instance otherwise
SaysAll literal instance (Branch p e stmts) = SaysAll literal instance stmts
SaysAll literal instance (Case p e whens) = SaysAll literal instance whens
SaysAll literal instance (When choices stmts) = SaysAll literal instance stmts
SaysAll literal instance (Loop p stmts) = SaysAll literal instance stmts
SaysAll literal instance (While p e stmts) = SaysAll literal instance stmts
SaysAll literal instance (For p d reversed range stmts) = SaysAll literal instance stmts
SaysAll literal instance (Block p items stmts end) = SaysAll literal instance items × SaysAll literal instance stmts
SaysAll literal instance (More a rest) = SaysAll literal instance a × SaysAll literal instance rest
SaysAll literal instance code = Unit {0}
