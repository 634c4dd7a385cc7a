-- What typing says of subtypes with bounds and of instances, where it finds no fault.
use Rattle.std.specs.Prelude.{◌≡◌, true}
use Rattle.machine.specs.resolved_tree.Trees.{More, Code, ConstrainedSubtype, Instance, SubBody, Package, PackageBody, If, Branch, Case, When, Loop, While, For, Block}
use Rattle.machine.specs.type_definitions.declared.table.Known.{Known}
use Rattle.machine.specs.type_definitions.Types.{full, is_scalar}
use Rattle.machine.specs.type_definitions.Entries.{marked}
use Rattle.machine.specs.type_definitions.Gathered.{instance_type}
use Rattle.machine.specs.type_definitions.Declarations.{is_named_access, all_types}

-- Bounds are of a scalar type; the actuals of an instance are types, and what it frees is designated by a
-- named access type.
unfoldable pub IsFaultless : Known → Code → Type 0
IsFaultless known (ConstrainedSubtype d m low high) = is_scalar (full known.table (marked known m)) ≡ true
IsFaultless known (Instance d m args) =
    (all_types known args ≡ true) × (is_named_access (full known.table (instance_type args)) ≡ true)
IsFaultless known (SubBody front items stmts end) = IsFaultless known items × IsFaultless known stmts
IsFaultless known (Package d visible hidden) = IsFaultless known visible × IsFaultless known hidden
IsFaultless known (PackageBody d parts) = IsFaultless known parts
IsFaultless known (If p branches otherwise) = IsFaultless known branches × IsFaultless known otherwise
IsFaultless known (Branch p e stmts) = IsFaultless known stmts
IsFaultless known (Case p e whens) = IsFaultless known whens
IsFaultless known (When choices stmts) = IsFaultless known stmts
IsFaultless known (Loop p stmts) = IsFaultless known stmts
IsFaultless known (While p e stmts) = IsFaultless known stmts
IsFaultless known (For p d reversed range stmts) = IsFaultless known stmts
IsFaultless known (Block p items stmts end) = IsFaultless known items × IsFaultless known stmts
IsFaultless known (More a rest) = IsFaultless known a × IsFaultless known rest
IsFaultless known code = Unit {0}
