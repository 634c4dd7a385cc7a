-- Subprograms whose formals have names of their own, and whose fronts are as the grammar has them.
use Rattle.std.specs.Prelude.{ℕ, List, [], ◌++◌}
use Rattle.machine.specs.resolved_tree.Trees.{NoMore, More, Code, Plain, Anonymous, Formals, Front, SubDecl, SubBody, Package, PackageBody}
use Rattle.machine.specs.type_definitions.Gathered.{texts}
use Rattle.settled_types.specs.GatheredLaws.Components.{AreWordsApart}

abbrev pub group_texts : Code → List (List ℕ)
group_texts (Formals ids m of) = texts ids
group_texts group = []

abbrev pub formal_texts : Code → List (List ℕ)
formal_texts (More group rest) = group_texts group ++ formal_texts rest
formal_texts formals = []

-- There are no formals, or there is a first one.
abbrev pub HasFirst : Code → Type 0
HasFirst (More (Formals (More d ids) m of) rest) = Unit {0}
HasFirst NoMore = Unit {0}
HasFirst formals = ⊥

-- There is no result, or its type is indicated.
abbrev pub IsResult : Code → Type 0
IsResult (More (Plain m) rest) = Unit {0}
IsResult (More (Anonymous p constant m) rest) = Unit {0}
IsResult NoMore = Unit {0}
IsResult result = ⊥

abbrev pub IsFrontApart : Code → Type 0
IsFrontApart (Front d formals result) = AreWordsApart (formal_texts formals) × HasFirst formals × IsResult result
IsFrontApart front = ⊥

-- Subprograms stand in packages, or are units.
unfoldable pub AreFormalsApart : Code → Type 0
AreFormalsApart (SubDecl front) = IsFrontApart front
AreFormalsApart (SubBody front items stmts end) = IsFrontApart front
AreFormalsApart (Package d visible hidden) = AreFormalsApart visible × AreFormalsApart hidden
AreFormalsApart (PackageBody d parts) = AreFormalsApart parts
AreFormalsApart (More a rest) = AreFormalsApart a × AreFormalsApart rest
AreFormalsApart code = Unit {0}
