-- What the trees of whole sources are written with: the parts of a tree that recur, by the line and
-- column of each token. tools/tree_terms.py writes such trees.
use Rattle.std.proofs.Common.{◌≡◌, ℕ, List, [], ◌∷◌}
use Rattle.std.specs.Prelude.{codes, Option, Some}
use Prim.Native.String.{String}
use Rattle.spark_base.specs.declared.position.Pos.{Pos}
use Rattle.ada_tree.specs.declared.identifier.Identifier.{Identifier}
use Rattle.ada_tree.specs.declared.identifier.NextIdentifier.{NextIdentifier}
use Rattle.ada_tree.specs.declared.identifier.NextIdentifier.TheVariants as next_id
use Rattle.ada_tree.specs.declared.identifier.Dotted.{Dotted}
use Rattle.ada_tree.specs.declared.identifier.NextPart.{NextPart}
use Rattle.ada_tree.specs.declared.identifier.NextPart.TheVariants as next_part
use Rattle.ada_tree.specs.declared.identifier.NextDotted.{NextDotted}
use Rattle.ada_tree.specs.declared.expression.Expr.{Expr}
use Rattle.ada_tree.specs.declared.expression.Expr.TheVariants as expr
use Rattle.ada_tree.specs.declared.expression.Rel.{Rel}
use Rattle.ada_tree.specs.declared.expression.Rel.TheVariants as rel
use Rattle.ada_tree.specs.declared.expression.Sum.{Sum}
use Rattle.ada_tree.specs.declared.expression.Sum.TheVariants as sum
use Rattle.ada_tree.specs.declared.expression.Term.{Term}
use Rattle.ada_tree.specs.declared.expression.Term.TheVariants as term
use Rattle.ada_tree.specs.declared.expression.Factor.{Factor}
use Rattle.ada_tree.specs.declared.expression.Factor.TheVariants as factor
use Rattle.ada_tree.specs.declared.expression.Primary.{Primary}
use Rattle.ada_tree.specs.declared.expression.Primary.TheVariants as primary
use Rattle.ada_tree.specs.declared.expression.Name.{Name}
use Rattle.ada_tree.specs.declared.expression.Name.TheVariants as name
use Rattle.ada_tree.specs.declared.expression.Suffix.{Suffix}
use Rattle.ada_tree.specs.declared.expression.Arg.{Arg}
use Rattle.ada_tree.specs.declared.expression.Arg.TheVariants as arg
use Rattle.ada_tree.specs.declared.range.Range.{Range}
use Rattle.ada_tree.specs.declared.range.Range.TheVariants as range
use Rattle.ada_tree.specs.declared.declaration.Component.{Component}
use Rattle.ada_tree.specs.declared.declaration.Component.TheVariants as component
use Rattle.ada_tree.specs.declared.declaration.Indication.{Indication}
use Rattle.ada_tree.specs.declared.declaration.Indication.TheVariants as indication
use Rattle.ada_tree.specs.declared.declaration.Item.{Item}
use Rattle.ada_tree.specs.declared.declaration.Item.TheVariants as item
use Rattle.ada_tree.specs.declared.declaration.UseClause.{UseClause}
use Rattle.ada_tree.specs.declared.declaration.PragmaClause.{PragmaClause}
use Rattle.ada_tree.specs.declared.declaration.PragmaOn.{PragmaOn}
use Rattle.ada_tree.specs.declared.statement.Stmts.{Stmts}
use Rattle.ada_tree.specs.declared.statement.Stmts.TheVariants as stmts
use Rattle.ada_tree.specs.declared.statement.Stmt.{Stmt}
use Rattle.ada_tree.specs.declared.statement.Stmt.TheVariants as stmt
use Rattle.ada_tree.specs.declared.subprogram.Subspec.{Subspec}
use Rattle.ada_tree.specs.declared.subprogram.Formals.{Formals}
use Rattle.ada_tree.specs.declared.subprogram.Formal.{Formal}
use Rattle.ada_tree.specs.declared.subprogram.Formal.TheVariants as formal
use Rattle.ada_tree.specs.declared.subprogram.NextFormal.{NextFormal}
use Rattle.ada_tree.specs.declared.subprogram.Decl.{Decl}
use Rattle.ada_tree.specs.declared.subprogram.SparkMode.{SparkMode}
use Rattle.ada_tree.specs.declared.subprogram.ModeOn.{ModeOn}
use Rattle.ada_tree.specs.declared.unit.Context.{Context}
use Rattle.ada_tree.specs.declared.unit.Context.TheVariants as context
use Rattle.ada_tree.specs.declared.unit.Package.{Package}
use Rattle.ada_tree.specs.declared.unit.PrivatePart.{PrivatePart}
use Rattle.ada_tree.specs.declared.unit.PackageBody.{PackageBody}
use Rattle.ada_tree.specs.declared.unit.BodyPart.{BodyPart}
use Rattle.ada_tree.specs.declared.unit.SubprogramBody.{SubprogramBody}
use Rattle.ada_tree.specs.declared.unit.SourceUnit.{SourceUnit}
use Rattle.name_events.specs.declared.declaration.NameRule.{NameRule}
use Rattle.name_events.specs.Faults.{name_fault}

-- The first rule that these files break is this one, at this position.
abbrev pub IsFirstBrokenOf : NameRule → Pos → List (List SourceUnit) → Type 0
IsFirstBrokenOf rule pos files = name_fault files ≡ Some (rule, pos)

-- ---- positions

-- A line and a column of the first file.
abbrev pub at : ℕ → ℕ → Pos
at line column = record { file = 0; line = line; column = column }

-- The same of the files after it.
abbrev pub at1 : ℕ → ℕ → Pos
at1 line column = record { file = 1; line = line; column = column }

abbrev pub at2 : ℕ → ℕ → Pos
at2 line column = record { file = 2; line = line; column = column }

abbrev pub at3 : ℕ → ℕ → Pos
at3 line column = record { file = 3; line = line; column = column }

abbrev pub at4 : ℕ → ℕ → Pos
at4 line column = record { file = 4; line = line; column = column }

-- ---- identifiers and names

abbrev pub id : Pos → String → Identifier
id pos text = record { pos = pos; text = codes text }

abbrev pub dotted_of : Identifier → List NextPart → Dotted
dotted_of first rest = record { pos = first.pos; first = first; rest = rest }

-- A dotted name of one identifier.
abbrev pub mark : Pos → String → Dotted
mark pos text = dotted_of (id pos text) []

-- A dotted name of two identifiers.
abbrev pub selected : Pos → String → Pos → Pos → String → Dotted
selected pos text dot second selector = dotted_of (id pos text) (next_part.FurtherPart dot (id second selector) ∷ [])

abbrev pub prefixed : Pos → String → List Suffix → Name
prefixed pos text suffixes = name.Prefixed pos (id pos text) suffixes

abbrev pub name_of : Pos → String → Name
name_of pos text = prefixed pos text []

abbrev pub named : Pos → String → List Suffix → Primary
named pos text suffixes = primary.Named pos (prefixed pos text suffixes)

abbrev pub object : Pos → String → Primary
object pos text = named pos text []

abbrev pub next_id_of : Pos → Pos → String → NextIdentifier
next_id_of comma pos text = next_id.FurtherIdentifier comma (id pos text)

-- ---- a primary alone, at each level of an expression

abbrev pub factor_of : Pos → Primary → Factor
factor_of pos part = factor.LonePrimary pos part

abbrev pub term_of : Pos → Primary → Term
term_of pos part = term.Product pos (factor_of pos part) []

abbrev pub sum_of : Pos → Primary → Sum
sum_of pos part = sum.Unsigned pos (term_of pos part) []

abbrev pub rel_of : Pos → Primary → Rel
rel_of pos part = rel.LoneSum pos (sum_of pos part)

abbrev pub expr_of : Pos → Primary → Expr
expr_of pos part = expr.LoneRelation pos (rel_of pos part)

abbrev pub actual_of : Pos → Primary → Arg
actual_of pos part = arg.Positional pos (expr_of pos part)

abbrev pub association_of : Identifier → Pos → Expr → Arg
association_of name arrow value = arg.Association name.pos name arrow value

-- ---- ranges and declarations, which begin where their first part does

abbrev pub indication_of : Dotted → Indication
indication_of mark = indication.Mark mark.pos mark

abbrev pub marked_of : Dotted → Range
marked_of mark = range.Marked mark.pos mark

abbrev pub constrained_of : Dotted → Pos → Expr → Pos → Expr → Range
constrained_of mark range_word low dots high = range.Constrained mark.pos mark range_word low dots high

abbrev pub fields_of : Identifier → List NextIdentifier → Pos → Dotted → Pos → Component
fields_of first rest colon mark semicolon = component.Fields first.pos first rest colon mark semicolon

abbrev pub objects_of : Identifier → List NextIdentifier → Pos → Option Pos → Indication → Pos → Item
objects_of first rest colon constant of semicolon = item.Objects first.pos first rest colon constant of semicolon

abbrev pub initialized_of : Identifier → List NextIdentifier → Pos → Option Pos → Indication → Pos → Expr → Pos → Item
initialized_of first rest colon constant of becomes value semicolon =
    item.InitializedObjects first.pos first rest colon constant of becomes value semicolon

abbrev pub numbers_of : Identifier → List NextIdentifier → Pos → Pos → Pos → Expr → Pos → Item
numbers_of first rest colon constant becomes value semicolon =
    item.Numbers first.pos first rest colon constant becomes value semicolon

abbrev pub use_item : UseClause → Item
use_item clause = item.Use clause.pos clause

abbrev pub pragma_item : PragmaClause → Item
pragma_item clause = item.Pragma clause.pos clause

abbrev pub moded_of : Identifier → List NextIdentifier → Pos → Option Pos → Option Pos → Dotted → Formal
moded_of first rest colon in_word out_word mark = formal.Moded first.pos first rest colon in_word out_word mark

abbrev pub anonymous_of : Identifier → List NextIdentifier → Pos → Pos → Option Pos → Dotted → Formal
anonymous_of first rest colon access constant designated =
    formal.Anonymous first.pos first rest colon access constant designated

-- ---- statements, clauses and formals

abbrev pub assign_of : Pos → String → List Suffix → Pos → Expr → Pos → Stmt
assign_of pos text suffixes becomes value semicolon =
    stmt.Assign pos (prefixed pos text suffixes) becomes value semicolon

abbrev pub call_of : Pos → String → List Suffix → Pos → Stmt
call_of pos text suffixes semicolon = stmt.Call pos (prefixed pos text suffixes) semicolon

-- One statement.
abbrev pub sole : Pos → Stmt → Stmts
sole pos part = stmts.Sequence pos part []

abbrev pub use_of : Pos → Option Pos → Dotted → List NextDotted → Pos → UseClause
use_of pos type_word first rest semicolon =
    record { pos = pos; type_word = type_word; first = first; rest = rest; semicolon = semicolon }

abbrev pub pragma_on : Pos → Identifier → Pos → PragmaOn
pragma_on pos on right_paren = record { pos = pos; on = on; right_paren = right_paren }

abbrev pub pragma_of : Pos → Identifier → Option PragmaOn → Pos → PragmaClause
pragma_of pos name argument semicolon = record { pos = pos; name = name; argument = argument; semicolon = semicolon }

abbrev pub mode_on : Pos → Identifier → ModeOn
mode_on pos on = record { pos = pos; on = on }

abbrev pub mode_of : Pos → Identifier → Option ModeOn → SparkMode
mode_of pos name value = record { pos = pos; name = name; value = value }

abbrev pub formals_of : Pos → Formal → List NextFormal → Pos → Formals
formals_of pos first rest right_paren = record { pos = pos; first = first; rest = rest; right_paren = right_paren }

abbrev pub use_context : UseClause → Context
use_context clause = context.Use clause.pos clause

abbrev pub pragma_context : PragmaClause → Context
pragma_context clause = context.Pragma clause.pos clause

-- ---- units, by their parts in the order of the text

abbrev pub private_part : Pos → List Decl → PrivatePart
private_part pos decls = record { pos = pos; decls = decls }

abbrev pub package_of : Pos → Identifier → Option SparkMode → Pos → List Decl → Option PrivatePart → Pos → Option Identifier → Pos → Package
package_of pos name mode is visible private end closing semicolon = record {
  pos = pos;
  name = name;
  mode = mode;
  is = is;
  visible = visible;
  private = private;
  end = end;
  closing = closing;
  semicolon = semicolon;
}

abbrev pub package_body_of : Pos → Pos → Identifier → Option SparkMode → Pos → List BodyPart → Pos → Option Identifier → Pos → PackageBody
package_body_of pos body name mode is parts end closing semicolon = record {
  pos = pos;
  body = body;
  name = name;
  mode = mode;
  is = is;
  parts = parts;
  end = end;
  closing = closing;
  semicolon = semicolon;
}

abbrev pub subprogram_of : Pos → Subspec → Option SparkMode → Pos → List Item → Pos → Stmts → Pos → Option Identifier → Pos → SubprogramBody
subprogram_of pos spec mode is items begin body end closing semicolon = record {
  pos = pos;
  spec = spec;
  mode = mode;
  is = is;
  items = items;
  begin = begin;
  stmts = body;
  end = end;
  closing = closing;
  semicolon = semicolon;
}
