-- The position that a tree keeps as that of its first token: the field before its parts.
use Rattle.spark_base.specs.declared.position.Pos.{Pos}
use Rattle.ada_tree.specs.declared.expression.Expr.{Expr}
use Rattle.ada_tree.specs.declared.expression.Expr.TheVariants as expr
use Rattle.ada_tree.specs.declared.expression.Rel.{Rel}
use Rattle.ada_tree.specs.declared.expression.Rel.TheVariants as rel
use Rattle.ada_tree.specs.declared.expression.Sum.{Sum}
use Rattle.ada_tree.specs.declared.expression.Sum.TheVariants as sum
use Rattle.ada_tree.specs.declared.expression.Term.{Term}
use Rattle.ada_tree.specs.declared.expression.Term.TheVariants as term
use Rattle.ada_tree.specs.declared.expression.Factor.{Factor}
use Rattle.ada_tree.specs.declared.expression.Factor.TheVariants as factor
use Rattle.ada_tree.specs.declared.expression.Primary.{Primary}
use Rattle.ada_tree.specs.declared.expression.Primary.TheVariants as primary
use Rattle.ada_tree.specs.declared.expression.Aggregate.{Aggregate}
use Rattle.ada_tree.specs.declared.expression.Aggregate.TheVariants as aggregate
use Rattle.ada_tree.specs.declared.expression.Arg.{Arg}
use Rattle.ada_tree.specs.declared.expression.Arg.TheVariants as arg
use Rattle.ada_tree.specs.declared.expression.Name.{Name}
use Rattle.ada_tree.specs.declared.expression.Name.TheVariants as name
use Rattle.ada_tree.specs.declared.range.Range.{Range}
use Rattle.ada_tree.specs.declared.range.Range.TheVariants as range
use Rattle.ada_tree.specs.declared.range.Choice.{Choice}
use Rattle.ada_tree.specs.declared.range.Choice.TheVariants as choice
use Rattle.ada_tree.specs.declared.declaration.Indication.{Indication}
use Rattle.ada_tree.specs.declared.declaration.Indication.TheVariants as indication
use Rattle.ada_tree.specs.declared.declaration.Item.{Item}
use Rattle.ada_tree.specs.declared.declaration.Item.TheVariants as item
use Rattle.ada_tree.specs.declared.statement.Stmts.{Stmts}
use Rattle.ada_tree.specs.declared.statement.Stmts.TheVariants as stmts
use Rattle.ada_tree.specs.declared.statement.Stmt.{Stmt}
use Rattle.ada_tree.specs.declared.statement.Stmt.TheVariants as stmt
use Rattle.ada_tree.specs.declared.subprogram.Subspec.{Subspec}
use Rattle.ada_tree.specs.declared.subprogram.Subspec.TheVariants as subspec
use Rattle.ada_tree.specs.declared.subprogram.Decl.{Decl}
use Rattle.ada_tree.specs.declared.subprogram.Decl.TheVariants as decl
use Rattle.ada_tree.specs.declared.unit.BodyPart.{BodyPart}
use Rattle.ada_tree.specs.declared.unit.BodyPart.TheVariants as body_part
use Rattle.ada_tree.specs.declared.unit.Context.{Context}
use Rattle.ada_tree.specs.declared.unit.Context.TheVariants as context
use Rattle.ada_tree.specs.declared.unit.SourceUnit.{SourceUnit}
use Rattle.ada_tree.specs.declared.unit.SourceUnit.TheVariants as source_unit

abbrev pub expr_position : Expr → Pos
expr_position (expr.LoneRelation' pos _ _) = pos
expr_position (expr.And' pos _ _ _ _ _ _ _) = pos
expr_position (expr.Or' pos _ _ _ _ _ _ _) = pos
expr_position (expr.Xor' pos _ _ _ _ _ _ _) = pos
expr_position (expr.AndThen' pos _ _ _ _ _ _ _ _) = pos
expr_position (expr.OrElse' pos _ _ _ _ _ _ _ _) = pos

abbrev pub rel_position : Rel → Pos
rel_position (rel.LoneSum pos _) = pos
rel_position (rel.Compared' pos _ _ _ _ _ _) = pos

abbrev pub sum_position : Sum → Pos
sum_position (sum.Unsigned' pos _ _ _) = pos
sum_position (sum.Signed' pos _ _ _ _) = pos

abbrev pub term_position : Term → Pos
term_position (term.Product' pos _ _ _) = pos

abbrev pub factor_position : Factor → Pos
factor_position (factor.LonePrimary pos _) = pos
factor_position (factor.Abs pos _) = pos
factor_position (factor.Not pos _) = pos

abbrev pub primary_position : Primary → Pos
primary_position (primary.Number pos _) = pos
primary_position (primary.Text pos _) = pos
primary_position (primary.Null pos) = pos
primary_position (primary.Named' pos _ _) = pos
primary_position (primary.Parenthesized' pos _ _ _) = pos
primary_position (primary.Aggregated' pos _ _) = pos
primary_position (primary.Allocated pos _) = pos
primary_position (primary.AllocatedAggregate' pos _ _ _ _) = pos
primary_position (primary.AllocatedValue' pos _ _ _ _ _ _) = pos

abbrev pub aggregate_position : Aggregate → Pos
aggregate_position (aggregate.Several' pos _ _ _ _ _ _ _ _) = pos
aggregate_position (aggregate.Single' pos _ _ _ _ _) = pos
aggregate_position (aggregate.Others' pos _ _ _ _ _) = pos

abbrev pub arg_position : Arg → Pos
arg_position (arg.Positional' pos _ _) = pos
arg_position (arg.Association' pos _ _ _ _) = pos

abbrev pub name_position : Name → Pos
name_position (name.Prefixed' pos _ _ _) = pos

abbrev pub range_position : Range → Pos
range_position (range.Bounds pos _ _ _) = pos
range_position (range.Marked pos _) = pos
range_position (range.Constrained pos _ _ _ _ _) = pos
range_position (range.RangeOf pos _ _ _) = pos

abbrev pub choice_position : Choice → Pos
choice_position (choice.Value pos _) = pos
choice_position (choice.Interval pos _ _ _) = pos
choice_position (choice.Others pos) = pos

abbrev pub indication_position : Indication → Pos
indication_position (indication.Mark pos _) = pos
indication_position (indication.Anonymous pos _ _) = pos

abbrev pub item_position : Item → Pos
item_position (item.IncompleteType pos _ _) = pos
item_position (item.PrivateType pos _ _ _ _) = pos
item_position (item.EnumerationType pos _ _ _ _ _ _ _) = pos
item_position (item.RecordType pos _ _ _ _ _ _ _ _) = pos
item_position (item.ArrayType pos _ _ _ _ _ _ _ _ _) = pos
item_position (item.AccessType pos _ _ _ _ _) = pos
item_position (item.Subtype pos _ _ _ _) = pos
item_position (item.ConstrainedSubtype pos _ _ _ _ _ _ _ _) = pos
item_position (item.Objects pos _ _ _ _ _ _) = pos
item_position (item.InitializedObjects pos _ _ _ _ _ _ _ _) = pos
item_position (item.Numbers pos _ _ _ _ _ _ _) = pos
item_position (item.Instance pos _ _ _ _ _ _ _ _ _) = pos
item_position (item.Use pos _) = pos
item_position (item.Pragma pos _) = pos

abbrev pub stmts_position : Stmts → Pos
stmts_position (stmts.Sequence' pos _ _ _ _) = pos

abbrev pub stmt_position : Stmt → Pos
stmt_position (stmt.Null pos _) = pos
stmt_position (stmt.Assign pos _ _ _ _) = pos
stmt_position (stmt.Call pos _ _) = pos
stmt_position (stmt.Exit pos _) = pos
stmt_position (stmt.ExitWhen pos _ _ _) = pos
stmt_position (stmt.Return pos _) = pos
stmt_position (stmt.ReturnValue pos _ _) = pos
stmt_position (stmt.If' pos _ _ _ _ _ _ _ _ _) = pos
stmt_position (stmt.IfElse' pos _ _ _ _ _ _ _ _ _ _ _ _) = pos
stmt_position (stmt.Case' pos _ _ _ _ _ _ _ _ _) = pos
stmt_position (stmt.Loop' pos _ _ _ _ _) = pos
stmt_position (stmt.While' pos _ _ _ _ _ _ _) = pos
stmt_position (stmt.For' pos _ _ _ _ _ _ _ _ _ _) = pos
stmt_position (stmt.Block' pos _ _ _ _) = pos
stmt_position (stmt.DeclareBlock' pos _ _ _ _ _ _) = pos

abbrev pub subspec_position : Subspec → Pos
subspec_position (subspec.Procedure pos _ _) = pos
subspec_position (subspec.Function pos _ _ _ _) = pos

abbrev pub decl_position : Decl → Pos
decl_position (decl.OfItem pos _) = pos
decl_position (decl.Subprogram pos _ _ _) = pos

abbrev pub body_part_position : BodyPart → Pos
body_part_position (body_part.Declared pos _) = pos
body_part_position (body_part.Completed pos _) = pos

abbrev pub context_position : Context → Pos
context_position (context.With pos _ _ _) = pos
context_position (context.Use pos _) = pos
context_position (context.Pragma pos _) = pos

abbrev pub source_unit_position : SourceUnit → Pos
source_unit_position (source_unit.OfPackage pos _ _) = pos
source_unit_position (source_unit.OfBody pos _ _) = pos
source_unit_position (source_unit.OfSubprogram pos _ _) = pos
