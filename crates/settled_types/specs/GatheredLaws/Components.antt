-- Records whose components have names of their own.
use Rattle.std.specs.Prelude.{◌≡◌, ℕ, false, List, [], ◌∷◌, ◌++◌, map}
use Rattle.machine.specs.spark_base.Lists.{Has}
use Rattle.machine.specs.resolved_tree.Trees.{More, Code, Record, Components, TypeDecl, SubBody, Package, PackageBody, If, Branch, Case, When, Loop, While, For, Block}
use Rattle.machine.specs.type_definitions.declared.table.Component.{Component}
use Rattle.machine.specs.type_definitions.declared.table.Shape.{Shape}
use Rattle.machine.specs.type_definitions.declared.table.Shape.TheVariants as shape
use Rattle.machine.specs.type_definitions.Entries.{same_word}
use Rattle.machine.specs.type_definitions.Gathered.{texts}

-- No two of these are one word, in any case of letters.
abbrev pub AreWordsApart : List (List ℕ) → Type 0
AreWordsApart [] = Unit {0}
AreWordsApart (w ∷ rest) = ((v : List ℕ) → Has rest v → same_word w v ≡ false) × AreWordsApart rest

abbrev pub group_texts : Code → List (List ℕ)
group_texts (Components names m) = texts names
group_texts _ = []

abbrev pub list_texts : Code → List (List ℕ)
list_texts (More group rest) = group_texts group ++ list_texts rest
list_texts _ = []

abbrev pub IsRecordApart : Code → Type 0
IsRecordApart (Record components) = AreWordsApart (list_texts components)
IsRecordApart _ = Unit {0}

-- So it is in each record that code defines.
unfoldable pub AreRecordsApart : Code → Type 0
AreRecordsApart (TypeDecl d def end) = IsRecordApart def
AreRecordsApart (SubBody front items stmts end) = AreRecordsApart items × AreRecordsApart stmts
AreRecordsApart (Package d visible hidden) = AreRecordsApart visible × AreRecordsApart hidden
AreRecordsApart (PackageBody d parts) = AreRecordsApart parts
AreRecordsApart (If p branches otherwise) = AreRecordsApart branches × AreRecordsApart otherwise
AreRecordsApart (Branch p e stmts) = AreRecordsApart stmts
AreRecordsApart (Case p e whens) = AreRecordsApart whens
AreRecordsApart (When choices stmts) = AreRecordsApart stmts
AreRecordsApart (Loop p stmts) = AreRecordsApart stmts
AreRecordsApart (While p e stmts) = AreRecordsApart stmts
AreRecordsApart (For p d reversed range stmts) = AreRecordsApart stmts
AreRecordsApart (Block p items stmts end) = AreRecordsApart items × AreRecordsApart stmts
AreRecordsApart (More a rest) = AreRecordsApart a × AreRecordsApart rest
AreRecordsApart code = Unit {0}

-- And so it is in the definition of a type.
abbrev pub IsShapeApart : Shape → Type 0
IsShapeApart (shape.Fields cs) = AreWordsApart (map (λ (c : Component). c.name) cs)
IsShapeApart _ = Unit {0}
