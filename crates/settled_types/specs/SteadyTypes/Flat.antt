-- Code without packages in it.
use Rattle.machine.specs.resolved_tree.Trees.{More, Code, SubBody, Package, PackageBody, If, Branch, Case, When, Loop, While, For, Block}

unfoldable pub IsFlat : Code → Type 0
IsFlat (SubBody front items stmts end) = IsFlat items × IsFlat stmts
IsFlat (Package d visible hidden) = ⊥
IsFlat (PackageBody d parts) = ⊥
IsFlat (If p branches otherwise) = IsFlat branches × IsFlat otherwise
IsFlat (Branch p e stmts) = IsFlat stmts
IsFlat (Case p e whens) = IsFlat whens
IsFlat (When choices stmts) = IsFlat stmts
IsFlat (Loop p stmts) = IsFlat stmts
IsFlat (While p e stmts) = IsFlat stmts
IsFlat (For p d reversed range stmts) = IsFlat stmts
IsFlat (Block p items stmts end) = IsFlat items × IsFlat stmts
IsFlat (More a rest) = IsFlat a × IsFlat rest
IsFlat code = Unit {0}

-- A unit is a package, or its body, or it is flat.
abbrev pub IsFlatUnit : Code → Type 0
IsFlatUnit (Package d visible hidden) = IsFlat visible × IsFlat hidden
IsFlatUnit (PackageBody d parts) = IsFlat parts
IsFlatUnit u = IsFlat u
