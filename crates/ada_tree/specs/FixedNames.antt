-- Where the grammar has SPARK_Mode and On, the identifiers are spelled so, in any letter case
-- (docs/LANGUAGE.md, "Grammar"; Ada 2012, 2.3(5)).
use Rattle.std.specs.Prelude.{◌≡◌, ℕ, List, map, codes}
use Rattle.std.specs.Char.{to_ascii_lowercase}
use Rattle.ada_tree.specs.declared.identifier.Identifier.{Identifier}
use Rattle.ada_tree.specs.declared.declaration.Item.{Item}
use Rattle.ada_tree.specs.declared.declaration.Item.TheVariants as item
use Rattle.ada_tree.specs.declared.declaration.PragmaOn.{PragmaOn}
use Rattle.ada_tree.specs.declared.declaration.PragmaClause.{PragmaClause}
use Rattle.ada_tree.specs.declared.statement.Stmts.{Stmts, Row_of-Stmt, end_of-Stmt, more_of-Stmt}
use Rattle.ada_tree.specs.declared.statement.Stmts.TheVariants as stmts
use Rattle.ada_tree.specs.declared.statement.Stmt.{Stmt, Row_of-Stmts, end_of-Stmts, more_of-Stmts, Row_of-Elsif, end_of-Elsif, more_of-Elsif, Row_of-When, end_of-When, more_of-When}
use Rattle.ada_tree.specs.declared.statement.Stmt.TheVariants as stmt
use Rattle.ada_tree.specs.declared.statement.Elsif.{Elsif}
use Rattle.ada_tree.specs.declared.statement.Elsif.TheVariants as branch
use Rattle.ada_tree.specs.declared.statement.When.{When}
use Rattle.ada_tree.specs.declared.statement.When.TheVariants as alternative
use Rattle.ada_tree.specs.declared.subprogram.ModeOn.{ModeOn}
use Rattle.ada_tree.specs.declared.subprogram.SparkMode.{SparkMode}
use Rattle.ada_tree.specs.declared.subprogram.Decl.{Decl}
use Rattle.ada_tree.specs.declared.subprogram.Decl.TheVariants as decl
use Rattle.ada_tree.specs.declared.unit.SourceUnit.{SourceUnit}
use Rattle.ada_tree.specs.declared.unit.SourceUnit.TheVariants as unit
use Rattle.ada_tree.specs.declared.unit.Context.{Context}
use Rattle.ada_tree.specs.declared.unit.Context.TheVariants as context
use Rattle.ada_tree.specs.declared.unit.Package.{Package}
use Rattle.ada_tree.specs.declared.unit.PrivatePart.{PrivatePart}
use Rattle.ada_tree.specs.declared.unit.PackageBody.{PackageBody}
use Rattle.ada_tree.specs.declared.unit.BodyPart.{BodyPart}
use Rattle.ada_tree.specs.declared.unit.BodyPart.TheVariants as part
use Rattle.ada_tree.specs.declared.unit.SubprogramBody.{SubprogramBody}
use Rattle.token_reading.specs.Reading.{Each}
use Rattle.ada_tree.specs.WellPlaced.{EachSome}

-- The identifier has this spelling, which is in lower case.
abbrev pub IsCalled : List ℕ → Identifier → Type 0
IsCalled name id = map to_ascii_lowercase id.text ≡ name

abbrev pub mode_name : List ℕ
mode_name = codes "spark_mode"

abbrev pub on_name : List ℕ
on_name = codes "on"

unfoldable pub PragmaOnNamed : PragmaOn → Type 0
PragmaOnNamed argument = IsCalled on_name argument.on

unfoldable pub PragmaNamed : PragmaClause → Type 0
PragmaNamed clause = IsCalled mode_name clause.name × EachSome PragmaOnNamed clause.argument

unfoldable pub ModeOnNamed : ModeOn → Type 0
ModeOnNamed value = IsCalled on_name value.on

unfoldable pub ModeNamed : SparkMode → Type 0
ModeNamed mode = IsCalled mode_name mode.name × EachSome ModeOnNamed mode.value

unfoldable pub ItemNamed : Item → Type 0
ItemNamed (item.Pragma pos clause) = PragmaNamed clause
ItemNamed _ = Unit {0}

unfoldable mutual
  pub StmtsBoxNamed : {n : _} → Row_of-Stmts n → Type 0
  StmtsBoxNamed end_of-Stmts = Unit {0}
  StmtsBoxNamed (more_of-Stmts part rest) = StmtsNamed part

  pub StmtsNamed : Stmts → Type 0
  StmtsNamed (stmts.Sequence' pos _ first _ rest) = StmtBoxNamed first × EachStmtNamed rest

  pub StmtBoxNamed : {n : _} → Row_of-Stmt n → Type 0
  StmtBoxNamed end_of-Stmt = Unit {0}
  StmtBoxNamed (more_of-Stmt part rest) = StmtNamed part

  pub EachStmtNamed : {n : _} → Row_of-Stmt n → Type 0
  EachStmtNamed end_of-Stmt = Unit {0}
  EachStmtNamed (more_of-Stmt part rest) = StmtNamed part × EachStmtNamed rest

  pub StmtNamed : Stmt → Type 0
  StmtNamed (stmt.If' pos condition then _ body _ elsifs end end_if semicolon) = StmtsBoxNamed body × ElsifsNamed elsifs
  StmtNamed (stmt.IfElse' pos condition then _ body _ elsifs otherwise _ otherwise_body end end_if semicolon) =
      StmtsBoxNamed body × ElsifsNamed elsifs × StmtsBoxNamed otherwise_body
  StmtNamed (stmt.Case' pos selector is _ first _ rest end end_case semicolon) = WhenBoxNamed first × WhensNamed rest
  StmtNamed (stmt.Loop' pos _ body end end_loop semicolon) = StmtsBoxNamed body
  StmtNamed (stmt.While' pos condition loop_word _ body end end_loop semicolon) = StmtsBoxNamed body
  StmtNamed (stmt.For' pos parameter in_word reverse over loop_word _ body end end_loop semicolon) = StmtsBoxNamed body
  StmtNamed (stmt.Block' pos _ body end semicolon) = StmtsBoxNamed body
  StmtNamed (stmt.DeclareBlock' pos items begin _ body end semicolon) = Each ItemNamed items × StmtsBoxNamed body
  StmtNamed _ = Unit {0}

  pub ElsifsNamed : {n : _} → Row_of-Elsif n → Type 0
  ElsifsNamed end_of-Elsif = Unit {0}
  ElsifsNamed (more_of-Elsif part rest) = ElsifNamed part × ElsifsNamed rest

  pub ElsifNamed : Elsif → Type 0
  ElsifNamed (branch.Branch' pos condition then _ body) = StmtsBoxNamed body

  pub WhenBoxNamed : {n : _} → Row_of-When n → Type 0
  WhenBoxNamed end_of-When = Unit {0}
  WhenBoxNamed (more_of-When part rest) = WhenNamed part

  pub WhensNamed : {n : _} → Row_of-When n → Type 0
  WhensNamed end_of-When = Unit {0}
  WhensNamed (more_of-When part rest) = WhenNamed part × WhensNamed rest

  pub WhenNamed : When → Type 0
  WhenNamed (alternative.Alternative' pos first rest arrow _ body) = StmtsBoxNamed body

unfoldable pub DeclNamed : Decl → Type 0
DeclNamed (decl.OfItem pos declared) = ItemNamed declared
DeclNamed (decl.Subprogram pos spec mode semicolon) = EachSome ModeNamed mode

unfoldable pub SubprogramNamed : SubprogramBody → Type 0
SubprogramNamed body = EachSome ModeNamed body.mode × Each ItemNamed body.items × StmtsNamed body.stmts

unfoldable pub BodyPartNamed : BodyPart → Type 0
BodyPartNamed (part.Declared pos declared) = DeclNamed declared
BodyPartNamed (part.Completed pos body) = SubprogramNamed body

unfoldable pub PrivateNamed : PrivatePart → Type 0
PrivateNamed part = Each DeclNamed part.decls

unfoldable pub PackageNamed : Package → Type 0
PackageNamed whole = EachSome ModeNamed whole.mode × Each DeclNamed whole.visible × EachSome PrivateNamed whole.private

unfoldable pub PackageBodyNamed : PackageBody → Type 0
PackageBodyNamed whole = EachSome ModeNamed whole.mode × Each BodyPartNamed whole.parts

unfoldable pub ContextNamed : Context → Type 0
ContextNamed (context.Pragma pos clause) = PragmaNamed clause
ContextNamed _ = Unit {0}

unfoldable pub UnitNamed : SourceUnit → Type 0
UnitNamed (unit.OfPackage pos clauses whole) = Each ContextNamed clauses × PackageNamed whole
UnitNamed (unit.OfBody pos clauses body) = Each ContextNamed clauses × PackageBodyNamed body
UnitNamed (unit.OfSubprogram pos clauses body) = Each ContextNamed clauses × SubprogramNamed body

abbrev pub FixedNames : List SourceUnit → Type 0
FixedNames = Each UnitNamed
