-- The order in which a program declares. Each type has a number that no type before it has, but where a
-- full type completes a private type of a package, or an incomplete one. The latter ends after all marks
-- of definitions up to there: nothing is made of a type that isn't complete.
use Rattle.std.specs.Prelude.{◌≡◌, ◌⊎◌, ◌<◌, ◌≤◌, ℕ, Bool, true, false, List, [], ◌∷◌, nat_eq, if◌then◌else◌}
use Rattle.machine.specs.spark_base.declared.position.Pos.{Pos}
use Rattle.machine.specs.spark_base.Lists.{Has}
use Rattle.machine.specs.resolved_tree.Trees.{More, Code, Enumeration, Record, Components, Array, Incomplete, Private, TypeDecl, Subtype, ConstrainedSubtype, Objects, Numbers, Instance, Formals, Front, SubDecl, SubBody, Package, PackageBody, If, Branch, Case, When, Loop, While, For, Block, Program}
use Rattle.machine.specs.type_definitions.Types.{untyped}
use Rattle.machine.specs.type_definitions.Faults.{is_before}
use Rattle.machine.specs.type_definitions.Gathered.{declared_number}

-- ---- what stands before a place in the text

-- The numbers of the types that are declared to be completed later; those private types of packages and
-- those incomplete types that aren't completed so far; the numbers of the types and subtypes that are
-- defined, and the positions of the marks of what these are made of; and whether this is in a package.
pub record Past : Type 0 where
  pub awaited : List ℕ
  pub private : List ℕ
  pub incomplete : List ℕ
  pub defined : List ℕ
  pub marks : List Pos
  pub in_package : Bool

-- Of the predefined types one is made of another one.
abbrev pub at_start : Past
at_start = record { awaited = []; private = []; incomplete = []; defined = untyped ∷ []; marks = []; in_package = false }

abbrev pub with_incomplete : ℕ → Past → Past
with_incomplete d past = record past { awaited = d ∷ past.awaited; incomplete = d ∷ past.incomplete }

abbrev pub with_private : ℕ → Past → Past
with_private d past = record past {
  awaited = d ∷ past.awaited;
  private = if past.in_package then d ∷ past.private else past.private;
}

abbrev pub without : ℕ → List ℕ → List ℕ
without d [] = []
without d (x ∷ rest) = if nat_eq x d then without d rest else x ∷ without d rest

abbrev pub with_defined : ℕ → List Pos → Past → Past
with_defined d marks past = record past {
  private = without d past.private;
  incomplete = without d past.incomplete;
  defined = d ∷ past.defined;
  marks = marks;
}

abbrev pub within : Bool → Past → Past
within in_package past = record past { in_package = in_package }

abbrev pub group_marks : Code → List Pos → List Pos
group_marks (Components names m) ps = m.pos ∷ ps
group_marks _ ps = ps

abbrev pub list_marks : Code → List Pos → List Pos
list_marks (More group rest) ps = list_marks rest (group_marks group ps)
list_marks _ ps = ps

abbrev pub definition_marks : Code → List Pos → List Pos
definition_marks (Record components) ps = list_marks components ps
definition_marks (Array range m) ps = m.pos ∷ ps
definition_marks _ ps = ps

unfoldable pub past_after : Code → Past → Past
past_after (Incomplete d) past = with_incomplete (declared_number d) past
past_after (Private d) past = with_private (declared_number d) past
past_after (TypeDecl d def end) past = with_defined (declared_number d) (definition_marks def past.marks) past
past_after (Subtype d m) past = with_defined (declared_number d) (m.pos ∷ past.marks) past
past_after (ConstrainedSubtype d m low high) past = with_defined (declared_number d) (m.pos ∷ past.marks) past
past_after (SubBody front items stmts end) past = past_after stmts (past_after items past)
past_after (Package d visible hidden) past = within false (past_after hidden (within true (past_after visible (within true past))))
past_after (PackageBody d parts) past = within false (past_after parts (within true past))
past_after (If p branches otherwise) past = past_after otherwise (past_after branches past)
past_after (Branch p e stmts) past = past_after stmts past
past_after (Case p e whens) past = past_after whens past
past_after (When choices stmts) past = past_after stmts past
past_after (Loop p stmts) past = past_after stmts past
past_after (While p e stmts) past = past_after stmts past
past_after (For p d reversed range stmts) past = past_after stmts past
past_after (Block p items stmts end) past = past_after stmts (past_after items past)
past_after (More a rest) past = past_after rest (past_after a past)
past_after _ past = past

-- ---- numbers

-- A number of a declaration of the program that no type has so far. (Those of what is predefined are
-- below 15.)
abbrev pub IsNew : ℕ → ℕ → Past → Type 0
IsNew count d past = (15 ≤ d) × (d < count) × (Has past.awaited d → ⊥) × (Has past.defined d → ⊥)

abbrev pub NewOne : ℕ → Code → Past → Type 0
NewOne count d past = IsNew count (declared_number d) past

-- Each of a list of identifiers.
abbrev pub AllNew : ℕ → Code → Past → Type 0
AllNew count (More d rest) past = NewOne count d past × AllNew count rest past
AllNew count _ past = Unit {0}

abbrev pub NewLiterals : ℕ → Code → Past → Type 0
NewLiterals count (Enumeration literals) past = AllNew count literals past
NewLiterals count _ past = Unit {0}

abbrev pub NewGroup : ℕ → Code → Past → Type 0
NewGroup count (Formals names m of) past = AllNew count names past
NewGroup count _ past = Unit {0}

abbrev pub NewFormals : ℕ → Code → Past → Type 0
NewFormals count (More group rest) past = NewGroup count group past × NewFormals count rest past
NewFormals count _ past = Unit {0}

-- The number of a body is that of its declaration, where it has one.
abbrev pub NewFront : ℕ → Code → Past → Type 0
NewFront count (Front d formals result) past = NewOne count d past × NewFormals count formals past
NewFront count _ past = Unit {0}

-- ---- all of the code

-- A full type is new, or completes a private type, or an incomplete one, where none of these marks
-- stands after its end.
abbrev pub Completes : ℕ → Pos → List Pos → ℕ → Past → Type 0
Completes count end marks d past =
    (15 ≤ d) × (d < count)
    × (IsNew count d past
    ⊎ (Has past.private d ⊎ (Has past.incomplete d × ((at : Pos) → Has marks at → is_before end at ≡ false))))

-- A program with so many declarations.
unfoldable pub Orderly : ℕ → Past → Code → Type 0
Orderly count past (Incomplete d) = NewOne count d past
Orderly count past (Private d) = NewOne count d past
Orderly count past (TypeDecl d def end) =
    Completes count end (definition_marks def past.marks) (declared_number d) past
    × NewLiterals count def (with_defined (declared_number d) (definition_marks def past.marks) past)
Orderly count past (Subtype d m) = NewOne count d past
Orderly count past (ConstrainedSubtype d m low high) = NewOne count d past
Orderly count past (Objects ids constant i v) = AllNew count ids past
Orderly count past (Numbers ids e) = AllNew count ids past
Orderly count past (Instance d m args) = NewOne count d past
Orderly count past (SubDecl front) = NewFront count front past
Orderly count past (SubBody front items stmts end) =
    NewFront count front past × (Orderly count past items × Orderly count (past_after items past) stmts)
Orderly count past (Package d visible hidden) =
    NewOne count d past
    × (Orderly count (within true past) visible × Orderly count (within true (past_after visible (within true past))) hidden)
Orderly count past (PackageBody d parts) = Orderly count (within true past) parts
Orderly count past (If p branches otherwise) =
    Orderly count past branches × Orderly count (past_after branches past) otherwise
Orderly count past (Branch p e stmts) = Orderly count past stmts
Orderly count past (Case p e whens) = Orderly count past whens
Orderly count past (When choices stmts) = Orderly count past stmts
Orderly count past (Loop p stmts) = Orderly count past stmts
Orderly count past (While p e stmts) = Orderly count past stmts
Orderly count past (For p d reversed range stmts) = NewOne count d past × Orderly count past stmts
Orderly count past (Block p items stmts end) = Orderly count past items × Orderly count (past_after items past) stmts
Orderly count past (More a rest) = Orderly count past a × Orderly count (past_after a past) rest
Orderly count past _ = Unit {0}

abbrev pub AllOrderly : ℕ → Past → List Code → Type 0
AllOrderly count past [] = Unit {0}
AllOrderly count past (u ∷ rest) = Orderly count past u × AllOrderly count (past_after u past) rest

-- What stands before the end of these units.
abbrev pub past_units : List Code → Past → Past
past_units [] past = past
past_units (u ∷ rest) past = past_units rest (past_after u past)

-- A program whose declarations are in order.
abbrev pub IsOrderly : Program → Type 0
IsOrderly p = AllOrderly p.count at_start p.units
