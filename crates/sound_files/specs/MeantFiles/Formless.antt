-- Code in which no subprogram has formals.
use Rattle.std.specs.Prelude.{◌≡◌}
use Rattle.machine.specs.resolved_tree.Trees.{Code, NoMore, More, Front, SubDecl, SubBody, Package, PackageBody, If, Branch, Case, When, Loop, While, For, Block}

abbrev pub IsFormlessFront : Code → Type 0
IsFormlessFront (Front d formals result) = formals ≡ NoMore
IsFormlessFront _ = Unit {0}

unfoldable pub IsFormless : Code → Type 0
IsFormless (SubDecl front) = IsFormlessFront front
IsFormless (SubBody front items stmts end) = IsFormlessFront front × IsFormless items × IsFormless stmts
IsFormless (Package d visible hidden) = IsFormless visible × IsFormless hidden
IsFormless (PackageBody d parts) = IsFormless parts
IsFormless (If p branches otherwise) = IsFormless branches × IsFormless otherwise
IsFormless (Branch p e stmts) = IsFormless stmts
IsFormless (Case p e whens) = IsFormless whens
IsFormless (When choices stmts) = IsFormless stmts
IsFormless (Loop p stmts) = IsFormless stmts
IsFormless (While p e stmts) = IsFormless stmts
IsFormless (For p d reversed range stmts) = IsFormless stmts
IsFormless (Block p items stmts end) = IsFormless items × IsFormless stmts
IsFormless (More a rest) = IsFormless a × IsFormless rest
IsFormless code = Unit {0}
