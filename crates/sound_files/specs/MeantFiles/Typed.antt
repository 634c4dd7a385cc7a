-- What is known of declared objects and formals: they are objects of the types that are indicated for them, and of
-- their kinds.
use Rattle.std.specs.Prelude.{◌≡◌, ℕ, Bool}
use Rattle.machine.specs.resolved_tree.Trees.{Code, Objects, Numbers, Formals, Front, SubBody, Package, PackageBody, If, Branch, Case, When, Loop, While, For, Block, More}
use Rattle.machine.specs.type_definitions.declared.table.ObjectInfo.{ObjectInfo}
use Rattle.machine.specs.type_definitions.declared.table.Kind.{Kind}
use Rattle.machine.specs.type_definitions.declared.table.Kind.TheVariants as kind
use Rattle.machine.specs.type_definitions.declared.table.Entry.TheVariants as entry
use Rattle.machine.specs.type_definitions.declared.table.Known.{Known}
use Rattle.machine.specs.type_definitions.Entries.{entry_of, integer}
use Rattle.machine.specs.type_definitions.Names.{Context}
use Rattle.machine.specs.type_definitions.Gathered.{indicated, object_kind, parameter_type, declared_number, in_subprogram, in_visible, in_hidden}
use Rattle.soundness.specs.TypedLaws.TypedPoints.Meant.{IsIndicated}

-- What this number declares is an object of this type and this kind.
abbrev pub IsOf : Known → ℕ → ℕ → Kind → Type 0
IsOf known d t k = (o : ObjectInfo) × (entry_of known d ≡ entry.Object o) × (o.of ≡ t) × (o.kind ≡ k)

-- Each of a list of identifiers has the type that is indicated for it; an anonymous type is that of its object.
-- `made` says of which numbers stand for types.
abbrev pub AreIndicated : Known → (ℕ → Type 0) → Bool → Code → Code → Type 0
AreIndicated known made constant i (More d rest) =
    IsOf known (declared_number d) (indicated known (declared_number d) i) (object_kind constant) × IsIndicated known made (declared_number d) i
    × AreIndicated known made constant i rest
AreIndicated known made constant i ids = Unit {0}

-- So has each formal.
abbrev pub AreOf : Known → Code → Code → Type 0
AreOf known of (More d rest) = IsOf known (declared_number d) (indicated known (declared_number d) of) kind.Formal × AreOf known of rest
AreOf known of ids = Unit {0}

abbrev pub IsGroupTyped : Known → Code → Type 0
IsGroupTyped known (Formals ids m of) = AreOf known of ids
IsGroupTyped known group = Unit {0}

abbrev pub AreGroupsTyped : Known → Code → Type 0
AreGroupsTyped known (More group rest) = IsGroupTyped known group × AreGroupsTyped known rest
AreGroupsTyped known formals = Unit {0}

abbrev pub IsFrontTyped : Known → Code → Type 0
IsFrontTyped known (Front d formals result) = AreGroupsTyped known formals
IsFrontTyped known front = Unit {0}

abbrev pub AreIntegers : Known → Code → Type 0
AreIntegers known (More d rest) = IsOf known (declared_number d) integer kind.Constant × AreIntegers known rest
AreIntegers known ids = Unit {0}

-- The parameter of a loop has the type of its range: where that is given by its bounds, the type that the lower one
-- is based on.
abbrev pub IsParameterOf : Context → Code → Code → Type 0
IsParameterOf c d range = IsOf c.known (declared_number d) (parameter_type c range) kind.Parameter

-- So it is in all of the code.
unfoldable pub AreTyped : (ℕ → Type 0) → Context → Code → Type 0
AreTyped made c (Objects ids constant i v) = AreIndicated c.known made constant i ids
AreTyped made c (Numbers ids e) = AreIntegers c.known ids
AreTyped made c (SubBody front items stmts end) =
    IsFrontTyped c.known front × AreTyped made (in_subprogram front c) items × AreTyped made (in_subprogram front c) stmts
AreTyped made c (Package d visible hidden) = AreTyped made (in_visible (declared_number d) c) visible × AreTyped made (in_hidden (declared_number d) c) hidden
AreTyped made c (PackageBody d parts) = AreTyped made (in_hidden (declared_number d) c) parts
AreTyped made c (If p branches otherwise) = AreTyped made c branches × AreTyped made c otherwise
AreTyped made c (Branch p e stmts) = AreTyped made c stmts
AreTyped made c (Case p e whens) = AreTyped made c whens
AreTyped made c (When choices stmts) = AreTyped made c stmts
AreTyped made c (Loop p stmts) = AreTyped made c stmts
AreTyped made c (While p e stmts) = AreTyped made c stmts
AreTyped made c (For p d reversed range stmts) = IsParameterOf c d range × AreTyped made c stmts
AreTyped made c (Block p items stmts end) = AreTyped made c items × AreTyped made c stmts
AreTyped made c (More a rest) = AreTyped made c a × AreTyped made c rest
AreTyped made c code = Unit {0}
