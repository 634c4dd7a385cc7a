-- What is asked of code beside that it breaks no sentence: it is code of the grammar, and its
-- identifiers denote what the program declares.
use Rattle.std.specs.Prelude.{◌≡◌, ℕ, false, List}
use Rattle.machine.specs.spark_base.Lists.{Has}
use Rattle.machine.specs.resolved_tree.Trees.{Tree, NoMore, More, Code, Anonymous, Bounds, Marked, Constrained, RangeOf, Objects, Numbers, Assign, Call, Exit, Return, If, Branch, Case, When, Loop, While, For, Block, SubBody, Package, PackageBody}
use Rattle.machine.specs.type_definitions.declared.table.Known.{Known}
use Rattle.machine.specs.type_definitions.declared.table.Shape.TheVariants as shape
use Rattle.machine.specs.type_definitions.Types.{shape_of}
use Rattle.machine.specs.type_definitions.Entries.{integer}
use Rattle.machine.specs.type_definitions.Gathered.{indicated, parameter_type, declared_number, in_subprogram, in_visible, in_hidden}
use Rattle.machine.specs.typed_tree.Expressions.{Site, object_number}
use Rattle.machine.specs.typed_tree.Programs.{placed, site_of, typed_program}
use Rattle.machine.specs.flow_paths.Laid.{typing_of}
use Rattle.machine.specs.flow_paths.Objects.{Typing, object_at}
use Rattle.soundness.specs.TypedLaws.Fine.{IsMeant}

-- No expression or one.
abbrev pub IsMeantOptional : Site → Typing → Tree → Type 0
IsMeantOptional s y (More e rest) = IsMeant s y e
IsMeantOptional s y NoMore = Unit {0}
IsMeantOptional s y e = ⊥

-- An anonymous type is that of its object. `made` says of which numbers stand for types.
abbrev pub IsIndicated : Known → (ℕ → Type 0) → ℕ → Code → Type 0
IsIndicated known made d (Anonymous p constant m) = made d × (to : ℕ) × (shape_of known.table d ≡ shape.Access to constant false)
IsIndicated known made d i = Unit {0}

-- Objects have the type that is indicated.
abbrev pub AreDeclared : Site → Typing → (ℕ → Type 0) → Code → Code → Type 0
AreDeclared s y made i (More d rest) =
    ((object_at y (object_number s (declared_number d))).of ≡ indicated s.context.known (declared_number d) i)
    × IsIndicated s.context.known made (declared_number d) i × AreDeclared s y made i rest
AreDeclared s y made i ids = Unit {0}

abbrev pub AreNumbers : Site → Typing → Code → Type 0
AreNumbers s y (More d rest) = ((object_at y (object_number s (declared_number d))).of ≡ integer) × AreNumbers s y rest
AreNumbers s y ids = Unit {0}

-- The parameter of a loop has the type of its range: where that is given by its bounds, the type that the lower one
-- is based on.
abbrev pub IsParameter : Site → Typing → Code → Code → Type 0
IsParameter s y d range = (object_at y (object_number s (declared_number d))).of ≡ parameter_type s.context range

-- The ranges of the grammar.
abbrev pub IsMeantRange : Site → Typing → Code → Type 0
IsMeantRange s y (Bounds low high) = IsMeant s y low × IsMeant s y high
IsMeantRange s y (Marked m) = Unit {0}
IsMeantRange s y (Constrained m low high) = IsMeant s y low × IsMeant s y high
IsMeantRange s y (RangeOf e) = Unit {0}
IsMeantRange s y range = ⊥

unfoldable mutual
  pub IsMeantCode : Site → Typing → (ℕ → Type 0) → Code → Type 0
  IsMeantCode s y made (Objects ids constant i v) = AreDeclared s y made i ids × IsMeantOptional s y v
  IsMeantCode s y made (Numbers ids e) = AreNumbers s y ids × IsMeant s y e
  IsMeantCode s y made (Assign target e) = IsMeant s y target × IsMeant s y e
  IsMeantCode s y made (Call name) = IsMeant s y name
  IsMeantCode s y made (Exit p when) = IsMeantOptional s y when
  IsMeantCode s y made (Return p v) = IsMeantOptional s y v
  IsMeantCode s y made (If p branches otherwise) = IsMeantCode s y made branches × IsMeantCode s y made otherwise
  IsMeantCode s y made (Branch p e stmts) = IsMeant s y e × IsMeantCode s y made stmts
  IsMeantCode s y made (Case p e whens) = IsMeant s y e × AreAlternatives s y made whens
  IsMeantCode s y made (When choices stmts) = ⊥
  IsMeantCode s y made (Loop p stmts) = IsMeantCode s y made stmts
  IsMeantCode s y made (While p e stmts) = IsMeant s y e × IsMeantCode s y made stmts
  IsMeantCode s y made (For p d reversed range stmts) = IsMeantRange s y range × IsParameter s y d range × IsMeantCode s y made stmts
  IsMeantCode s y made (Block p items stmts end) = IsMeantCode s y made items × IsMeantCode s y made stmts
  IsMeantCode s y made (More a rest) = IsMeantCode s y made a × IsMeantCode s y made rest
  IsMeantCode s y made code = Unit {0}

  -- The items of a `case` are alternatives.
  pub AreAlternatives : Site → Typing → (ℕ → Type 0) → Code → Type 0
  AreAlternatives s y made (More (When choices stmts) rest) = IsMeantCode s y made stmts × AreAlternatives s y made rest
  AreAlternatives s y made NoMore = Unit {0}
  AreAlternatives s y made code = ⊥

-- ---- all of a program

-- The bodies of subprograms.
unfoldable pub AreMeantBodies : Site → Typing → (ℕ → Type 0) → Code → Type 0
AreMeantBodies s y made (SubBody front items stmts end) =
    IsMeantCode (placed (in_subprogram front) s) y made items × IsMeantCode (placed (in_subprogram front) s) y made stmts
AreMeantBodies s y made (PackageBody d parts) = AreMeantBodies (placed (in_hidden (declared_number d)) s) y made parts
AreMeantBodies s y made (More a rest) = AreMeantBodies s y made a × AreMeantBodies s y made rest
AreMeantBodies s y made code = Unit {0}

-- The declarations of package objects.
abbrev pub AreMeantObjects : Site → Typing → (ℕ → Type 0) → Code → Type 0
AreMeantObjects s y made (Package d visible hidden) =
    IsMeantCode (placed (in_visible (declared_number d)) s) y made visible × IsMeantCode (placed (in_hidden (declared_number d)) s) y made hidden
AreMeantObjects s y made (PackageBody d parts) = IsMeantCode (placed (in_hidden (declared_number d)) s) y made parts
AreMeantObjects s y made code = Unit {0}

-- What the typed program that units mean knows of its parts.
abbrev pub typing_meant : Known → List Code → Typing
typing_meant known units = typing_of known.table (typed_program known units)

abbrev pub AreMeantUnits : Known → (ℕ → Type 0) → List Code → Type 0
AreMeantUnits known made units =
    (u : Code) → Has units u
    → AreMeantBodies (site_of known units) (typing_meant known units) made u × AreMeantObjects (site_of known units) (typing_meant known units) made u
