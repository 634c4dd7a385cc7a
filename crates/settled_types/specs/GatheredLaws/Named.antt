-- Code without anonymous access types.
use Rattle.machine.specs.resolved_tree.Trees.{More, Code, Anonymous, Objects, Formals, Front, SubDecl, SubBody, Package, PackageBody, If, Branch, Case, When, Loop, While, For, Block}

abbrev pub IsPlain : Code → Type 0
IsPlain (Anonymous p constant m) = ⊥
IsPlain _ = Unit {0}

abbrev pub IsPlainGroup : Code → Type 0
IsPlainGroup (Formals names m of) = IsPlain of
IsPlainGroup _ = Unit {0}

abbrev pub ArePlainGroups : Code → Type 0
ArePlainGroups (More group rest) = IsPlainGroup group × ArePlainGroups rest
ArePlainGroups _ = Unit {0}

abbrev pub IsPlainResult : Code → Type 0
IsPlainResult (More i rest) = IsPlain i
IsPlainResult _ = Unit {0}

abbrev pub IsPlainFront : Code → Type 0
IsPlainFront (Front d formals result) = ArePlainGroups formals × IsPlainResult result
IsPlainFront _ = Unit {0}

unfoldable pub IsNamed : Code → Type 0
IsNamed (Objects ids constant i v) = IsPlain i
IsNamed (SubDecl front) = IsPlainFront front
IsNamed (SubBody front items stmts end) = IsPlainFront front × IsNamed items × IsNamed stmts
IsNamed (Package d visible hidden) = IsNamed visible × IsNamed hidden
IsNamed (PackageBody d parts) = IsNamed parts
IsNamed (If p branches otherwise) = IsNamed branches × IsNamed otherwise
IsNamed (Branch p e stmts) = IsNamed stmts
IsNamed (Case p e whens) = IsNamed whens
IsNamed (When choices stmts) = IsNamed stmts
IsNamed (Loop p stmts) = IsNamed stmts
IsNamed (While p e stmts) = IsNamed stmts
IsNamed (For p d reversed range stmts) = IsNamed stmts
IsNamed (Block p items stmts end) = IsNamed items × IsNamed stmts
IsNamed (More a rest) = IsNamed a × IsNamed rest
IsNamed code = Unit {0}
