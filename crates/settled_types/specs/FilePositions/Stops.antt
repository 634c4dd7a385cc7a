-- The marks of definitions and the ends of full types, in the order of the text.
use Rattle.std.specs.Prelude.{List, [], ◌∷◌, ◌++◌}
use Rattle.std.specs.List.{flat_map}
use Rattle.machine.specs.spark_base.declared.position.Pos.{Pos}
use Rattle.machine.specs.resolved_tree.Trees.{More, Code, Record, Components, Array, TypeDecl, Subtype, ConstrainedSubtype, SubBody, Package, PackageBody, If, Branch, Case, When, Loop, While, For, Block}

abbrev pub group_stops : Code → List Pos
group_stops (Components names m) = m.pos ∷ []
group_stops _ = []

abbrev pub list_stops : Code → List Pos
list_stops (More group rest) = group_stops group ++ list_stops rest
list_stops _ = []

abbrev pub definition_stops : Code → List Pos
definition_stops (Record components) = list_stops components
definition_stops (Array range m) = m.pos ∷ []
definition_stops _ = []

unfoldable pub stops : Code → List Pos
stops (TypeDecl d def end) = definition_stops def ++ (end ∷ [])
stops (Subtype d m) = m.pos ∷ []
stops (ConstrainedSubtype d m low high) = m.pos ∷ []
stops (SubBody front items stmts end) = stops items ++ stops stmts
stops (Package d visible hidden) = stops visible ++ stops hidden
stops (PackageBody d parts) = stops parts
stops (If p branches otherwise) = stops branches ++ stops otherwise
stops (Branch p e stmts) = stops stmts
stops (Case p e whens) = stops whens
stops (When choices stmts) = stops stmts
stops (Loop p stmts) = stops stmts
stops (While p e stmts) = stops stmts
stops (For p d reversed range stmts) = stops stmts
stops (Block p items stmts end) = stops items ++ stops stmts
stops (More a rest) = stops a ++ stops rest
stops _ = []

abbrev pub all_stops : List Code → List Pos
all_stops units = flat_map stops units
