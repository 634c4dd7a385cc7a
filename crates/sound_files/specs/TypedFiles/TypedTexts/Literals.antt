-- How many literals of enumerations code declares.
use Rattle.std.specs.Prelude.{ℕ, ◌+◌}
use Rattle.machine.specs.resolved_tree.Trees.{More, Code, Enumeration, TypeDecl, SubBody, Package, PackageBody, If, Branch, Case, When, Loop, While, For, Block}

abbrev pub id_count : Code → ℕ
id_count (More d rest) = 1 + id_count rest
id_count ids = 0

abbrev pub defined_count : Code → ℕ
defined_count (Enumeration literals) = id_count literals
defined_count def = 0

unfoldable pub literal_count : Code → ℕ
literal_count (TypeDecl d def end) = defined_count def
literal_count (SubBody front items stmts end) = literal_count items + literal_count stmts
literal_count (Package d visible hidden) = literal_count visible + literal_count hidden
literal_count (PackageBody d parts) = literal_count parts
literal_count (If p branches otherwise) = literal_count branches + literal_count otherwise
literal_count (Branch p e stmts) = literal_count stmts
literal_count (Case p e whens) = literal_count whens
literal_count (When choices stmts) = literal_count stmts
literal_count (Loop p stmts) = literal_count stmts
literal_count (While p e stmts) = literal_count stmts
literal_count (For p d reversed range stmts) = literal_count stmts
literal_count (Block p items stmts end) = literal_count items + literal_count stmts
literal_count (More a rest) = literal_count a + literal_count rest
literal_count code = 0
