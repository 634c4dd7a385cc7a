-- The position of each part of a tree is that of its first token (docs/LANGUAGE.md, "Grammar").
--
-- Where a part begins with a token of its own, its position is the position of that token by the
-- spelling. What is left to say is the position of each part that begins with another part. `d` is
-- how many constructs are open around the part, as in the spelling.
use Rattle.std.specs.Prelude.{◌≡◌, ℕ, suc, List, ◌++◌, Option, Some, None}
use Rattle.std.specs.List.{flat_map}
use Rattle.spark_base.specs.declared.position.Pos.{Pos}
use Rattle.ada_tree.specs.declared.identifier.Dotted.{Dotted}
use Rattle.ada_tree.specs.declared.identifier.NextDotted.{NextDotted}
use Rattle.ada_tree.specs.declared.identifier.NextDotted.TheVariants as next_dotted
use Rattle.ada_tree.specs.declared.expression.Aggregate.{Aggregate, Row_of-Arg, end_of-Arg, more_of-Arg, Row_of-NextArg, end_of-NextArg, more_of-NextArg, Row_of-Expr, end_of-Expr, more_of-Expr}
use Rattle.ada_tree.specs.declared.expression.Aggregate.TheVariants as aggregate
use Rattle.ada_tree.specs.declared.expression.Arg.{Arg}
use Rattle.ada_tree.specs.declared.expression.Arg.TheVariants as arg
use Rattle.ada_tree.specs.declared.expression.NextArg.{NextArg}
use Rattle.ada_tree.specs.declared.expression.NextArg.TheVariants as next_arg
use Rattle.ada_tree.specs.declared.expression.Expr.{Expr, Row_of-Rel, end_of-Rel, more_of-Rel, Row_of-Operand, end_of-Operand, more_of-Operand, Row_of-ShortOperand, end_of-ShortOperand, more_of-ShortOperand}
use Rattle.ada_tree.specs.declared.expression.Expr.TheVariants as expr
use Rattle.ada_tree.specs.declared.expression.Operand.{Operand}
use Rattle.ada_tree.specs.declared.expression.Operand.TheVariants as operand
use Rattle.ada_tree.specs.declared.expression.ShortOperand.{ShortOperand}
use Rattle.ada_tree.specs.declared.expression.ShortOperand.TheVariants as short_operand
use Rattle.ada_tree.specs.declared.expression.Rel.{Rel, Row_of-Sum, end_of-Sum, more_of-Sum}
use Rattle.ada_tree.specs.declared.expression.Rel.TheVariants as rel
use Rattle.ada_tree.specs.declared.expression.Sum.{Sum, Row_of-NextTerm, end_of-NextTerm, more_of-NextTerm}
use Rattle.ada_tree.specs.declared.expression.Sum.TheVariants as sum
use Rattle.ada_tree.specs.declared.expression.NextTerm.{NextTerm}
use Rattle.ada_tree.specs.declared.expression.NextTerm.TheVariants as next_term
use Rattle.ada_tree.specs.declared.expression.Term.{Term, Row_of-NextFactor, end_of-NextFactor, more_of-NextFactor}
use Rattle.ada_tree.specs.declared.expression.Term.TheVariants as term
use Rattle.ada_tree.specs.declared.expression.NextFactor.{NextFactor}
use Rattle.ada_tree.specs.declared.expression.NextFactor.TheVariants as next_factor
use Rattle.ada_tree.specs.declared.expression.Factor.{Factor}
use Rattle.ada_tree.specs.declared.expression.Factor.TheVariants as factor
use Rattle.ada_tree.specs.declared.expression.Primary.{Primary, Row_of-Name, end_of-Name, more_of-Name, Row_of-Aggregate, end_of-Aggregate, more_of-Aggregate}
use Rattle.ada_tree.specs.declared.expression.Primary.TheVariants as primary
use Rattle.ada_tree.specs.declared.expression.Name.{Name, Row_of-Suffix, end_of-Suffix, more_of-Suffix}
use Rattle.ada_tree.specs.declared.expression.Name.TheVariants as name
use Rattle.ada_tree.specs.declared.expression.Suffix.{Suffix}
use Rattle.ada_tree.specs.declared.expression.Suffix.TheVariants as suffix
use Rattle.ada_tree.specs.declared.range.Range.{Range}
use Rattle.ada_tree.specs.declared.range.Range.TheVariants as range
use Rattle.ada_tree.specs.declared.range.Choice.{Choice}
use Rattle.ada_tree.specs.declared.range.Choice.TheVariants as choice
use Rattle.ada_tree.specs.declared.range.NextChoice.{NextChoice}
use Rattle.ada_tree.specs.declared.range.NextChoice.TheVariants as next_choice
use Rattle.ada_tree.specs.declared.declaration.Component.{Component}
use Rattle.ada_tree.specs.declared.declaration.Component.TheVariants as component
use Rattle.ada_tree.specs.declared.declaration.Indication.{Indication}
use Rattle.ada_tree.specs.declared.declaration.Indication.TheVariants as indication
use Rattle.ada_tree.specs.declared.declaration.Item.{Item}
use Rattle.ada_tree.specs.declared.declaration.Item.TheVariants as item
use Rattle.ada_tree.specs.declared.declaration.UseClause.{UseClause}
use Rattle.ada_tree.specs.declared.statement.Stmts.{Stmts, Row_of-Stmt, end_of-Stmt, more_of-Stmt}
use Rattle.ada_tree.specs.declared.statement.Stmts.TheVariants as stmts
use Rattle.ada_tree.specs.declared.statement.Stmt.{Stmt, Row_of-Stmts, end_of-Stmts, more_of-Stmts, Row_of-Elsif, end_of-Elsif, more_of-Elsif, Row_of-When, end_of-When, more_of-When}
use Rattle.ada_tree.specs.declared.statement.Stmt.TheVariants as stmt
use Rattle.ada_tree.specs.declared.statement.Elsif.{Elsif}
use Rattle.ada_tree.specs.declared.statement.Elsif.TheVariants as branch
use Rattle.ada_tree.specs.declared.statement.When.{When}
use Rattle.ada_tree.specs.declared.statement.When.TheVariants as alternative
use Rattle.ada_tree.specs.declared.subprogram.Subspec.{Subspec}
use Rattle.ada_tree.specs.declared.subprogram.Subspec.TheVariants as subspec
use Rattle.ada_tree.specs.declared.subprogram.Formals.{Formals}
use Rattle.ada_tree.specs.declared.subprogram.NextFormal.{NextFormal}
use Rattle.ada_tree.specs.declared.subprogram.NextFormal.TheVariants as next_formal
use Rattle.ada_tree.specs.declared.subprogram.Formal.{Formal}
use Rattle.ada_tree.specs.declared.subprogram.Formal.TheVariants as formal
use Rattle.ada_tree.specs.declared.subprogram.Decl.{Decl}
use Rattle.ada_tree.specs.declared.subprogram.Decl.TheVariants as decl
use Rattle.ada_tree.specs.declared.unit.SourceUnit.{SourceUnit}
use Rattle.ada_tree.specs.declared.unit.SourceUnit.TheVariants as unit
use Rattle.ada_tree.specs.declared.unit.Context.{Context}
use Rattle.ada_tree.specs.declared.unit.Context.TheVariants as context
use Rattle.ada_tree.specs.declared.unit.Package.{Package}
use Rattle.ada_tree.specs.declared.unit.PrivatePart.{PrivatePart}
use Rattle.ada_tree.specs.declared.unit.PackageBody.{PackageBody}
use Rattle.ada_tree.specs.declared.unit.BodyPart.{BodyPart}
use Rattle.ada_tree.specs.declared.unit.BodyPart.TheVariants as part
use Rattle.ada_tree.specs.declared.unit.SubprogramBody.{SubprogramBody}
use Rattle.token_reading.specs.declared.side.Side.TheVariants.{Apart, Within}
use Rattle.token_reading.specs.Weights.{WeighedToken, bare}
use Rattle.token_reading.specs.Reading as reading
use Rattle.token_reading.specs.Reading.{Each}
use Rattle.ada_tree.specs.Spelling.{dotted_spelling, name_box, name_spelling, expr_box, expr_spelling, rel_box, sum_box, sum_spelling, term_spelling, factor_spelling, primary_spelling, aggregate_box, item_spelling, stmt_box, subspec_spelling, decl_spelling, subprogram_spelling, context_spelling, package_spelling, package_body_spelling}

-- The fact holds of the part, where there is one.
abbrev pub EachSome : {A : Type 0} → (A → Type 0) → Option A → Type 0
EachSome P None = Unit {0}
EachSome P (Some x) = P x

-- The first of the tokens stands there.
abbrev pub StartsAt : Pos → List WeighedToken → Type 0
StartsAt pos spelling = reading.StartsAt pos (bare spelling)

unfoldable pub DottedPlaced : Dotted → Type 0
DottedPlaced dotted = dotted.first.pos ≡ dotted.pos

unfoldable pub NextDottedPlaced : NextDotted → Type 0
NextDottedPlaced (next_dotted.FurtherDotted pos dotted) = DottedPlaced dotted

-- ---- expressions and names

unfoldable mutual
  pub NamePlaced : ℕ → Name → Type 0
  NamePlaced d (name.Prefixed' pos first _ rest) = (first.pos ≡ pos) × SuffixesPlaced d rest

  pub SuffixesPlaced : {n : _} → ℕ → Row_of-Suffix n → Type 0
  SuffixesPlaced d end_of-Suffix = Unit {0}
  SuffixesPlaced d (more_of-Suffix part rest) = SuffixPlaced d part × SuffixesPlaced d rest

  pub SuffixPlaced : ℕ → Suffix → Type 0
  SuffixPlaced d (suffix.Applied' pos _ first _ rest right_paren) = ArgBoxPlaced (suc d) first × NextArgsPlaced (suc d) rest
  SuffixPlaced d _ = Unit {0}

  pub ArgBoxPlaced : {n : _} → ℕ → Row_of-Arg n → Type 0
  ArgBoxPlaced d end_of-Arg = Unit {0}
  ArgBoxPlaced d (more_of-Arg part rest) = ArgPlaced d part

  pub NextArgsPlaced : {n : _} → ℕ → Row_of-NextArg n → Type 0
  NextArgsPlaced d end_of-NextArg = Unit {0}
  NextArgsPlaced d (more_of-NextArg part rest) = NextArgPlaced d part × NextArgsPlaced d rest

  pub NextArgPlaced : ℕ → NextArg → Type 0
  NextArgPlaced d (next_arg.FurtherArg' pos _ part) = ArgBoxPlaced d part

  pub ArgPlaced : ℕ → Arg → Type 0
  ArgPlaced d (arg.Positional' pos _ value) = StartsAt pos (expr_box d value) × ExprBoxPlaced d value
  ArgPlaced d (arg.Association' pos id arrow _ value) = (id.pos ≡ pos) × ExprBoxPlaced d value

  pub ExprBoxPlaced : {n : _} → ℕ → Row_of-Expr n → Type 0
  ExprBoxPlaced d end_of-Expr = Unit {0}
  ExprBoxPlaced d (more_of-Expr part rest) = ExprPlaced d part

  pub ExprPlaced : ℕ → Expr → Type 0
  ExprPlaced d (expr.LoneRelation' pos _ relation) = StartsAt pos (rel_box d relation) × RelBoxPlaced d relation
  ExprPlaced d (expr.And' pos _ first and _ second _ rest) =
      StartsAt pos (rel_box d first) × RelBoxPlaced d first × RelBoxPlaced d second × OperandsPlaced d rest
  ExprPlaced d (expr.Or' pos _ first or _ second _ rest) =
      StartsAt pos (rel_box d first) × RelBoxPlaced d first × RelBoxPlaced d second × OperandsPlaced d rest
  ExprPlaced d (expr.Xor' pos _ first xor _ second _ rest) =
      StartsAt pos (rel_box d first) × RelBoxPlaced d first × RelBoxPlaced d second × OperandsPlaced d rest
  ExprPlaced d (expr.AndThen' pos _ first and then _ second _ rest) =
      StartsAt pos (rel_box d first) × RelBoxPlaced d first × RelBoxPlaced d second × ShortOperandsPlaced d rest
  ExprPlaced d (expr.OrElse' pos _ first or otherwise _ second _ rest) =
      StartsAt pos (rel_box d first) × RelBoxPlaced d first × RelBoxPlaced d second × ShortOperandsPlaced d rest

  pub OperandsPlaced : {n : _} → ℕ → Row_of-Operand n → Type 0
  OperandsPlaced d end_of-Operand = Unit {0}
  OperandsPlaced d (more_of-Operand part rest) = OperandPlaced d part × OperandsPlaced d rest

  pub OperandPlaced : ℕ → Operand → Type 0
  OperandPlaced d (operand.FurtherOperand' pos _ relation) = RelBoxPlaced d relation

  pub ShortOperandsPlaced : {n : _} → ℕ → Row_of-ShortOperand n → Type 0
  ShortOperandsPlaced d end_of-ShortOperand = Unit {0}
  ShortOperandsPlaced d (more_of-ShortOperand part rest) = ShortOperandPlaced d part × ShortOperandsPlaced d rest

  pub ShortOperandPlaced : ℕ → ShortOperand → Type 0
  ShortOperandPlaced d (short_operand.FurtherShortOperand' pos second_word _ relation) = RelBoxPlaced d relation

  pub RelBoxPlaced : {n : _} → ℕ → Row_of-Rel n → Type 0
  RelBoxPlaced d end_of-Rel = Unit {0}
  RelBoxPlaced d (more_of-Rel part rest) = RelPlaced d part

  pub RelPlaced : ℕ → Rel → Type 0
  RelPlaced d (rel.LoneSum pos operand) = StartsAt pos (sum_spelling d operand) × SumPlaced d operand
  RelPlaced d (rel.Compared' pos _ left operator operator_pos _ right) =
      StartsAt pos (sum_box d left) × SumBoxPlaced d left × SumBoxPlaced d right

  pub SumBoxPlaced : {n : _} → ℕ → Row_of-Sum n → Type 0
  SumBoxPlaced d end_of-Sum = Unit {0}
  SumBoxPlaced d (more_of-Sum part rest) = SumPlaced d part

  pub SumPlaced : ℕ → Sum → Type 0
  SumPlaced d (sum.Unsigned' pos first _ rest) = StartsAt pos (term_spelling d first) × TermPlaced d first × NextTermsPlaced d rest
  SumPlaced d (sum.Signed' pos sign first _ rest) = TermPlaced d first × NextTermsPlaced d rest

  pub NextTermsPlaced : {n : _} → ℕ → Row_of-NextTerm n → Type 0
  NextTermsPlaced d end_of-NextTerm = Unit {0}
  NextTermsPlaced d (more_of-NextTerm part rest) = NextTermPlaced d part × NextTermsPlaced d rest

  pub NextTermPlaced : ℕ → NextTerm → Type 0
  NextTermPlaced d (next_term.FurtherTerm pos operator part) = TermPlaced d part

  pub TermPlaced : ℕ → Term → Type 0
  TermPlaced d (term.Product' pos first _ rest) =
      StartsAt pos (factor_spelling d first) × FactorPlaced d first × NextFactorsPlaced d rest

  pub NextFactorsPlaced : {n : _} → ℕ → Row_of-NextFactor n → Type 0
  NextFactorsPlaced d end_of-NextFactor = Unit {0}
  NextFactorsPlaced d (more_of-NextFactor part rest) = NextFactorPlaced d part × NextFactorsPlaced d rest

  pub NextFactorPlaced : ℕ → NextFactor → Type 0
  NextFactorPlaced d (next_factor.FurtherFactor pos operator part) = FactorPlaced d part

  pub FactorPlaced : ℕ → Factor → Type 0
  FactorPlaced d (factor.LonePrimary pos operand) = StartsAt pos (primary_spelling d operand) × PrimaryPlaced d operand
  FactorPlaced d (factor.Abs pos operand) = PrimaryPlaced d operand
  FactorPlaced d (factor.Not pos operand) = PrimaryPlaced d operand

  pub PrimaryPlaced : ℕ → Primary → Type 0
  PrimaryPlaced d (primary.Named' pos _ part) = StartsAt pos (name_box d part) × NameBoxPlaced d part
  PrimaryPlaced d (primary.Parenthesized' pos _ part right_paren) = ExprBoxPlaced (suc d) part
  PrimaryPlaced d (primary.Aggregated' pos _ part) = StartsAt pos (aggregate_box d part) × AggregateBoxPlaced d part
  PrimaryPlaced d (primary.Allocated pos mark) = DottedPlaced mark
  PrimaryPlaced d (primary.AllocatedAggregate' pos mark apostrophe _ part) = DottedPlaced mark × AggregateBoxPlaced d part
  PrimaryPlaced d (primary.AllocatedValue' pos mark apostrophe left_paren _ value right_paren) =
      DottedPlaced mark × ExprBoxPlaced (suc d) value
  PrimaryPlaced d _ = Unit {0}

  pub NameBoxPlaced : {n : _} → ℕ → Row_of-Name n → Type 0
  NameBoxPlaced d end_of-Name = Unit {0}
  NameBoxPlaced d (more_of-Name part rest) = NamePlaced d part

  pub AggregateBoxPlaced : {n : _} → ℕ → Row_of-Aggregate n → Type 0
  AggregateBoxPlaced d end_of-Aggregate = Unit {0}
  AggregateBoxPlaced d (more_of-Aggregate part rest) = AggregatePlaced d part

  pub AggregatePlaced : ℕ → Aggregate → Type 0
  AggregatePlaced d (aggregate.Several' pos _ first comma _ second _ rest right_paren) =
      ArgBoxPlaced (suc d) first × ArgBoxPlaced (suc d) second × NextArgsPlaced (suc d) rest
  AggregatePlaced d (aggregate.Single' pos id arrow _ value right_paren) = ExprBoxPlaced (suc d) value
  AggregatePlaced d (aggregate.Others' pos others arrow _ value right_paren) = ExprBoxPlaced (suc d) value

-- ---- ranges and choices

unfoldable pub RangePlaced : ℕ → Range → Type 0
RangePlaced d (range.Bounds pos low dots high) = StartsAt pos (expr_spelling d low) × ExprPlaced d low × ExprPlaced d high
RangePlaced d (range.Marked pos mark) = StartsAt pos (dotted_spelling Within mark) × DottedPlaced mark
RangePlaced d (range.Constrained pos mark of_range low dots high) =
    StartsAt pos (dotted_spelling Within mark) × DottedPlaced mark × ExprPlaced d low × ExprPlaced d high
RangePlaced d (range.RangeOf pos prefix apostrophe of_range) = StartsAt pos (name_spelling Within d prefix) × NamePlaced d prefix

unfoldable pub ChoicePlaced : ℕ → Choice → Type 0
ChoicePlaced d (choice.Value pos value) = StartsAt pos (expr_spelling d value) × ExprPlaced d value
ChoicePlaced d (choice.Interval pos low dots high) = StartsAt pos (expr_spelling d low) × ExprPlaced d low × ExprPlaced d high
ChoicePlaced d (choice.Others pos) = Unit {0}

unfoldable pub NextChoicePlaced : ℕ → NextChoice → Type 0
NextChoicePlaced d (next_choice.Bar pos part) = ChoicePlaced d part

-- ---- items

unfoldable pub IndicationPlaced : Indication → Type 0
IndicationPlaced (indication.Mark pos mark) = StartsAt pos (dotted_spelling Apart mark) × DottedPlaced mark
IndicationPlaced (indication.Anonymous pos constant designated) = DottedPlaced designated

unfoldable pub ComponentPlaced : Component → Type 0
ComponentPlaced (component.Fields pos first rest colon mark semicolon) = (first.pos ≡ pos) × DottedPlaced mark

unfoldable pub UsePlaced : UseClause → Type 0
UsePlaced clause = DottedPlaced clause.first × Each NextDottedPlaced clause.rest

unfoldable pub ItemPlaced : ℕ → Item → Type 0
ItemPlaced d (item.RecordType pos id is record_word first rest end end_record semicolon) =
    ComponentPlaced first × Each ComponentPlaced rest
ItemPlaced d (item.ArrayType pos id is array left_paren index right_paren of_word element semicolon) =
    RangePlaced (suc d) index × DottedPlaced element
ItemPlaced d (item.AccessType pos id is access designated semicolon) = DottedPlaced designated
ItemPlaced d (item.Subtype pos id is mark semicolon) = DottedPlaced mark
ItemPlaced d (item.ConstrainedSubtype pos id is mark of_range low dots high semicolon) =
    DottedPlaced mark × ExprPlaced d low × ExprPlaced d high
ItemPlaced d (item.Objects pos first rest colon constant indicated semicolon) = (first.pos ≡ pos) × IndicationPlaced indicated
ItemPlaced d (item.InitializedObjects pos first rest colon constant indicated becomes value semicolon) =
    (first.pos ≡ pos) × IndicationPlaced indicated × ExprPlaced d value
ItemPlaced d (item.Numbers pos first rest colon constant becomes value semicolon) = (first.pos ≡ pos) × ExprPlaced d value
ItemPlaced d (item.Instance pos id is new generic left_paren first rest right_paren semicolon) =
    DottedPlaced generic × ArgPlaced (suc d) first × Each (NextArgPlaced (suc d)) rest
ItemPlaced d (item.Use pos clause) = (clause.pos ≡ pos) × UsePlaced clause
ItemPlaced d (item.Pragma pos clause) = clause.pos ≡ pos
ItemPlaced d _ = Unit {0}

-- ---- statements

unfoldable mutual
  pub StmtsBoxPlaced : {n : _} → ℕ → Row_of-Stmts n → Type 0
  StmtsBoxPlaced d end_of-Stmts = Unit {0}
  StmtsBoxPlaced d (more_of-Stmts part rest) = StmtsPlaced d part

  pub StmtsPlaced : ℕ → Stmts → Type 0
  StmtsPlaced d (stmts.Sequence' pos _ first _ rest) =
      StartsAt pos (stmt_box d first) × StmtBoxPlaced d first × EachStmtPlaced d rest

  pub StmtBoxPlaced : {n : _} → ℕ → Row_of-Stmt n → Type 0
  StmtBoxPlaced d end_of-Stmt = Unit {0}
  StmtBoxPlaced d (more_of-Stmt part rest) = StmtPlaced d part

  pub EachStmtPlaced : {n : _} → ℕ → Row_of-Stmt n → Type 0
  EachStmtPlaced d end_of-Stmt = Unit {0}
  EachStmtPlaced d (more_of-Stmt part rest) = StmtPlaced d part × EachStmtPlaced d rest

  pub StmtPlaced : ℕ → Stmt → Type 0
  StmtPlaced d (stmt.Assign pos target becomes value semicolon) =
      StartsAt pos (name_spelling Apart d target) × NamePlaced d target × ExprPlaced d value
  StmtPlaced d (stmt.Call pos called semicolon) = StartsAt pos (name_spelling Apart d called) × NamePlaced d called
  StmtPlaced d (stmt.ExitWhen pos when condition semicolon) = ExprPlaced d condition
  StmtPlaced d (stmt.ReturnValue pos value semicolon) = ExprPlaced d value
  StmtPlaced d (stmt.If' pos condition then _ body _ elsifs end end_if semicolon) =
      ExprPlaced (suc d) condition × StmtsBoxPlaced (suc d) body × ElsifsPlaced (suc d) elsifs
  StmtPlaced d (stmt.IfElse' pos condition then _ body _ elsifs otherwise _ otherwise_body end end_if semicolon) =
      ExprPlaced (suc d) condition × StmtsBoxPlaced (suc d) body × ElsifsPlaced (suc d) elsifs
      × StmtsBoxPlaced (suc d) otherwise_body
  StmtPlaced d (stmt.Case' pos selector is _ first _ rest end end_case semicolon) =
      ExprPlaced (suc d) selector × WhenBoxPlaced (suc d) first × WhensPlaced (suc d) rest
  StmtPlaced d (stmt.Loop' pos _ body end end_loop semicolon) = StmtsBoxPlaced (suc d) body
  StmtPlaced d (stmt.While' pos condition loop_word _ body end end_loop semicolon) = ExprPlaced (suc d) condition
      × StmtsBoxPlaced (suc d) body
  StmtPlaced d (stmt.For' pos parameter in_word reverse over loop_word _ body end end_loop semicolon) =
      RangePlaced (suc d) over × StmtsBoxPlaced (suc d) body
  StmtPlaced d (stmt.Block' pos _ body end semicolon) = StmtsBoxPlaced (suc d) body
  StmtPlaced d (stmt.DeclareBlock' pos items begin _ body end semicolon) = Each (ItemPlaced (suc d)) items
      × StmtsBoxPlaced (suc d) body
  StmtPlaced d _ = Unit {0}

  pub ElsifsPlaced : {n : _} → ℕ → Row_of-Elsif n → Type 0
  ElsifsPlaced d end_of-Elsif = Unit {0}
  ElsifsPlaced d (more_of-Elsif part rest) = ElsifPlaced d part × ElsifsPlaced d rest

  pub ElsifPlaced : ℕ → Elsif → Type 0
  ElsifPlaced d (branch.Branch' pos condition then _ body) = ExprPlaced d condition × StmtsBoxPlaced d body

  pub WhenBoxPlaced : {n : _} → ℕ → Row_of-When n → Type 0
  WhenBoxPlaced d end_of-When = Unit {0}
  WhenBoxPlaced d (more_of-When part rest) = WhenPlaced d part

  pub WhensPlaced : {n : _} → ℕ → Row_of-When n → Type 0
  WhensPlaced d end_of-When = Unit {0}
  WhensPlaced d (more_of-When part rest) = WhenPlaced d part × WhensPlaced d rest

  pub WhenPlaced : ℕ → When → Type 0
  WhenPlaced d (alternative.Alternative' pos first rest arrow _ body) =
      ChoicePlaced d first × Each (NextChoicePlaced d) rest × StmtsBoxPlaced d body

-- ---- subprograms, declarations and units

unfoldable pub FormalPlaced : Formal → Type 0
FormalPlaced (formal.Moded pos first rest colon in_word out_word mark) = (first.pos ≡ pos) × DottedPlaced mark
FormalPlaced (formal.Anonymous pos first rest colon access constant designated) = (first.pos ≡ pos) × DottedPlaced designated

unfoldable pub NextFormalPlaced : NextFormal → Type 0
NextFormalPlaced (next_formal.Semicolon pos declared) = FormalPlaced declared

unfoldable pub FormalsPlaced : Formals → Type 0
FormalsPlaced formals = FormalPlaced formals.first × Each NextFormalPlaced formals.rest

unfoldable pub SubspecPlaced : Subspec → Type 0
SubspecPlaced (subspec.Procedure pos id formals) = EachSome FormalsPlaced formals
SubspecPlaced (subspec.Function pos id formals return_word result) = EachSome FormalsPlaced formals × IndicationPlaced result

unfoldable pub DeclPlaced : ℕ → Decl → Type 0
DeclPlaced d (decl.OfItem pos declared) = StartsAt pos (item_spelling d declared) × ItemPlaced d declared
DeclPlaced d (decl.Subprogram pos spec mode semicolon) = StartsAt pos (subspec_spelling d spec) × SubspecPlaced spec

unfoldable pub SubprogramPlaced : ℕ → SubprogramBody → Type 0
SubprogramPlaced d body =
    StartsAt body.pos (subspec_spelling d body.spec) × SubspecPlaced body.spec × Each (ItemPlaced (suc d)) body.items
    × StmtsPlaced (suc d) body.stmts

unfoldable pub BodyPartPlaced : ℕ → BodyPart → Type 0
BodyPartPlaced d (part.Declared pos declared) = StartsAt pos (decl_spelling d declared) × DeclPlaced d declared
BodyPartPlaced d (part.Completed pos body) = StartsAt pos (subprogram_spelling d body) × SubprogramPlaced d body

unfoldable pub PrivatePlaced : ℕ → PrivatePart → Type 0
PrivatePlaced d part = Each (DeclPlaced d) part.decls

unfoldable pub PackagePlaced : ℕ → Package → Type 0
PackagePlaced d whole = Each (DeclPlaced (suc d)) whole.visible × EachSome (PrivatePlaced (suc d)) whole.private

unfoldable pub PackageBodyPlaced : ℕ → PackageBody → Type 0
PackageBodyPlaced d whole = Each (BodyPartPlaced (suc d)) whole.parts

unfoldable pub ContextPlaced : Context → Type 0
ContextPlaced (context.With pos first rest semicolon) = DottedPlaced first × Each NextDottedPlaced rest
ContextPlaced (context.Use pos clause) = (clause.pos ≡ pos) × UsePlaced clause
ContextPlaced (context.Pragma pos clause) = clause.pos ≡ pos

unfoldable pub UnitPlaced : SourceUnit → Type 0
UnitPlaced (unit.OfPackage pos clauses whole) =
    StartsAt pos (flat_map context_spelling clauses ++ package_spelling 0 whole) × Each ContextPlaced clauses × PackagePlaced 0 whole
UnitPlaced (unit.OfBody pos clauses body) =
    StartsAt pos (flat_map context_spelling clauses
    ++ package_body_spelling 0 body) × Each ContextPlaced clauses × PackageBodyPlaced 0 body
UnitPlaced (unit.OfSubprogram pos clauses body) =
    StartsAt pos (flat_map context_spelling clauses
    ++ subprogram_spelling 0 body) × Each ContextPlaced clauses × SubprogramPlaced 0 body

abbrev pub WellPlaced : List SourceUnit → Type 0
WellPlaced = Each UnitPlaced
