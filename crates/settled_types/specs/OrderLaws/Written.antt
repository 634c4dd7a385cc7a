-- Resolved code as the grammar has it: declarations stand in declarative parts and statements after them,
-- bodies stand in package bodies, and each exit in a loop.
use Rattle.std.specs.Prelude.{Bool, true, false, ◌&&◌, ◌||◌}
use Rattle.machine.specs.resolved_tree.Trees.{Code, Incomplete, Private, TypeDecl, Subtype, ConstrainedSubtype, Objects, Numbers, Instance, Front, SubDecl, SubBody, Package, PackageBody, Skip, Assign, Call, Exit, Return, If, Branch, Case, When, Loop, While, For, Block, NoMore, More}

-- A declaration that is no body; or nothing.
abbrev pub is_declaration : Code → Bool
is_declaration (Incomplete d) = true
is_declaration (Private d) = true
is_declaration (TypeDecl d def end) = true
is_declaration (Subtype d m) = true
is_declaration (ConstrainedSubtype d m low high) = true
is_declaration (Objects ids constant i v) = true
is_declaration (Numbers ids e) = true
is_declaration (Instance d m args) = true
is_declaration (SubDecl front) = true
is_declaration NoMore = true
is_declaration _ = false

unfoldable pub are_declarations : Code → Bool
are_declarations (More a rest) = is_declaration a && are_declarations rest
are_declarations NoMore = true
are_declarations _ = false

-- Statements; the first argument says whether a loop stands around them.
unfoldable mutual
  pub are_statements : Bool → Code → Bool
  are_statements looped (More a rest) = is_statement looped a && are_statements looped rest
  are_statements looped NoMore = true
  are_statements looped _ = false

  pub is_statement : Bool → Code → Bool
  is_statement looped (Skip p) = true
  is_statement looped (Assign target e) = true
  is_statement looped (Call name) = true
  is_statement looped (Exit p when) = looped
  is_statement looped (Return p v) = true
  is_statement looped (If p branches otherwise) = are_branches looped branches && are_statements looped otherwise
  is_statement looped (Case p e whens) = are_alternatives looped whens
  is_statement looped (Loop p stmts) = are_statements true stmts
  is_statement looped (While p e stmts) = are_statements true stmts
  is_statement looped (For p d reversed range stmts) = are_statements true stmts
  is_statement looped (Block p items stmts end) = are_declarations items && are_statements looped stmts
  is_statement looped NoMore = true
  is_statement looped _ = false

  pub are_branches : Bool → Code → Bool
  are_branches looped (More a rest) = is_branch looped a && are_branches looped rest
  are_branches looped NoMore = true
  are_branches looped _ = false

  pub is_branch : Bool → Code → Bool
  is_branch looped (Branch p e stmts) = are_statements looped stmts
  is_branch looped NoMore = true
  is_branch looped _ = false

  pub are_alternatives : Bool → Code → Bool
  are_alternatives looped (More a rest) = is_alternative looped a && are_alternatives looped rest
  are_alternatives looped NoMore = true
  are_alternatives looped _ = false

  pub is_alternative : Bool → Code → Bool
  is_alternative looped (When choices stmts) = are_statements looped stmts
  is_alternative looped NoMore = true
  is_alternative looped _ = false

abbrev pub is_body : Code → Bool
is_body (SubBody front items stmts end) = are_declarations items && are_statements false stmts
is_body _ = false

-- The parts of the body of a package.
unfoldable pub are_parts : Code → Bool
are_parts (More a rest) = (is_declaration a || is_body a) && are_parts rest
are_parts NoMore = true
are_parts _ = false

-- A unit is a package, its body, or a library procedure.
abbrev pub is_procedure : Code → Bool
is_procedure (Front d formals NoMore) = true
is_procedure _ = false

abbrev pub is_unit : Code → Bool
is_unit (SubBody front items stmts end) = is_procedure front && (are_declarations items && are_statements false stmts)
is_unit (Package d visible hidden) = are_declarations visible && are_declarations hidden
is_unit (PackageBody d parts) = are_parts parts
is_unit _ = false
