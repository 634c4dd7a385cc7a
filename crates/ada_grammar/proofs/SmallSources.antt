-- What is compared in the modules of small sources: a text that is cut into tokens, and a tree that
-- is built by hand.
--
-- Each of these modules has a text for each alternative of its productions (docs/LANGUAGE.md,
-- "Grammar"), above it the production with the parts that stand there. The tree is written with the
-- column of each of its tokens.
use Rattle.std.proofs.Common.{◌≡◌, refl, ℕ, ◌+◌, List, [], ◌∷◌}
use Rattle.std.specs.Prelude.{map, codes, Option, None, Ok, Err}
use Prim.Native.String.{String}
use denote.Hole.Carrier.{hidden}
use Rattle.spark_base.specs.declared.position.Pos.{Pos}
use Rattle.ada_lexer.specs.Tokens.{CutResult, tokens}
use Rattle.ada_lexer.specs.Pieces.{first_piece}
use Rattle.ada_lexer.specs.Identifiers.{identifier}
use Rattle.ada_lexer.specs.ReservedWords.{reserved, reserved_words}
use Rattle.ada_lexer.specs.Numbers.{number}
use Rattle.ada_lexer.specs.Strings.{string}
use Rattle.ada_lexer.specs.Delimiters.{delimiter}
use Rattle.ada_lexer.specs.Positions.{behind}
use Rattle.token_reading.specs.Spelled.{Spelled, told_as}
use Rattle.token_reading.specs.Sources.{file_of}
use Rattle.ada_tree.specs.declared.identifier.Identifier.{Identifier}
use Rattle.ada_tree.specs.declared.identifier.Dotted.{Dotted}
use Rattle.ada_tree.specs.declared.identifier.NextPart.{NextPart}
use Rattle.ada_tree.specs.declared.identifier.NextPart.TheVariants as next_part
use Rattle.ada_tree.specs.declared.identifier.NextDotted.{NextDotted}
use Rattle.ada_tree.specs.declared.expression.Expr.{Expr}
use Rattle.ada_tree.specs.declared.expression.Expr.TheVariants as expr
use Rattle.ada_tree.specs.declared.expression.Rel.{Rel}
use Rattle.ada_tree.specs.declared.expression.Rel.TheVariants as rel
use Rattle.ada_tree.specs.declared.expression.Sum.{Sum}
use Rattle.ada_tree.specs.declared.expression.Sum.TheVariants as sum
use Rattle.ada_tree.specs.declared.expression.Term.{Term}
use Rattle.ada_tree.specs.declared.expression.Term.TheVariants as term
use Rattle.ada_tree.specs.declared.expression.Factor.{Factor}
use Rattle.ada_tree.specs.declared.expression.Factor.TheVariants as factor
use Rattle.ada_tree.specs.declared.expression.Primary.{Primary}
use Rattle.ada_tree.specs.declared.expression.Primary.TheVariants as primary
use Rattle.ada_tree.specs.declared.expression.Name.{Name}
use Rattle.ada_tree.specs.declared.expression.Name.TheVariants as name
use Rattle.ada_tree.specs.declared.declaration.Item.{Item}
use Rattle.ada_tree.specs.declared.declaration.UseClause.{UseClause}
use Rattle.ada_tree.specs.declared.declaration.PragmaClause.{PragmaClause}
use Rattle.ada_tree.specs.declared.declaration.PragmaOn.{PragmaOn}
use Rattle.ada_tree.specs.declared.statement.Stmts.{Stmts}
use Rattle.ada_tree.specs.declared.statement.Stmts.TheVariants as stmts
use Rattle.ada_tree.specs.declared.statement.Stmt.{Stmt}
use Rattle.ada_tree.specs.declared.statement.Stmt.TheVariants as stmt
use Rattle.ada_tree.specs.declared.subprogram.Subspec.{Subspec}
use Rattle.ada_tree.specs.declared.subprogram.Subspec.TheVariants as subspec
use Rattle.ada_tree.specs.declared.subprogram.Formals.{Formals}
use Rattle.ada_tree.specs.declared.subprogram.Formal.{Formal}
use Rattle.ada_tree.specs.declared.subprogram.NextFormal.{NextFormal}
use Rattle.ada_tree.specs.declared.subprogram.Decl.{Decl}
use Rattle.ada_tree.specs.declared.subprogram.SparkMode.{SparkMode}
use Rattle.ada_tree.specs.declared.subprogram.ModeOn.{ModeOn}
use Rattle.ada_tree.specs.declared.unit.Package.{Package}
use Rattle.ada_tree.specs.declared.unit.PrivatePart.{PrivatePart}
use Rattle.ada_tree.specs.declared.unit.PackageBody.{PackageBody}
use Rattle.ada_tree.specs.declared.unit.BodyPart.{BodyPart}
use Rattle.ada_tree.specs.declared.unit.SubprogramBody.{SubprogramBody}
use Rattle.ada_tree.specs.declared.unit.SourceUnit.{SourceUnit}
use Rattle.ada_tree.specs.declared.unit.SourceUnit.TheVariants as unit
use Rattle.ada_tree.specs.declared.expression.Aggregate.TheBlock.{
  shape-the_row-Arg-0,
  hidden-the_row-Arg-0,
  shape-the_row-Expr-2,
  hidden-the_row-Expr-2,
  shape-the_row-Rel-3,
  hidden-the_row-Rel-3,
  shape-the_row-Name-7,
  hidden-the_row-Name-7,
  shape-the_row-Aggregate-8,
  hidden-the_row-Aggregate-8,
  shape-the_row-Sum-9,
  hidden-the_row-Sum-9,
  hidden-the_row-NextArg-1,
  hidden-the_row-Operand-4,
  hidden-the_row-ShortOperand-5,
  hidden-the_row-Suffix-6,
  hidden-the_row-NextTerm-10,
  hidden-the_row-NextFactor-11,
}
use Rattle.ada_tree.specs.declared.statement.Elsif.TheBlock.{
  shape-the_row-Stmts-0,
  hidden-the_row-Stmts-0,
  hidden-the_row-Elsif-1,
  shape-the_row-When-2,
  hidden-the_row-When-2,
  hidden-the_row-When-3,
  shape-the_row-Stmt-4,
  hidden-the_row-Stmt-4,
  hidden-the_row-Stmt-5,
}
use Rattle.ada_tree.specs.Spelling.{
  next_identifier_spelling,
  next_part_spelling,
  dotted_spelling,
  next_dotted_spelling,
  relational_symbol,
  sign_symbol,
  adding_symbol,
  multiplying_token,
  name_spelling,
  suffixes_spelling,
  suffix_spelling,
  arg_box,
  next_args_spelling,
  next_arg_spelling,
  arg_spelling,
  expr_box,
  expr_spelling,
  operands_spelling,
  operand_spelling,
  short_operands_spelling,
  short_operand_spelling,
  rel_box,
  rel_spelling,
  sum_box,
  sum_spelling,
  next_terms_spelling,
  next_term_spelling,
  term_spelling,
  next_factors_spelling,
  next_factor_spelling,
  factor_spelling,
  primary_spelling,
  name_box,
  aggregate_box,
  aggregate_spelling,
  range_spelling,
  choice_spelling,
  next_choice_spelling,
  indication_spelling,
  component_spelling,
  use_spelling,
  pragma_on_spelling,
  pragma_spelling,
  item_spelling,
  stmts_box,
  stmts_spelling,
  stmt_box,
  next_stmts_spelling,
  stmt_spelling,
  elsifs_spelling,
  elsif_spelling,
  when_box,
  next_whens_spelling,
  when_spelling,
  mode_on_spelling,
  mode_spelling,
  formal_spelling,
  next_formal_spelling,
  formals_spelling,
  subspec_spelling,
  decl_spelling,
  subprogram_spelling,
  body_part_spelling,
  private_spelling,
  package_spelling,
  package_body_spelling,
  context_spelling,
  unit_spelling,
  source_spelling,
}
use Rattle.ada_tree.specs.WellPlaced.{
  DottedPlaced,
  NextDottedPlaced,
  NamePlaced,
  SuffixesPlaced,
  SuffixPlaced,
  ArgBoxPlaced,
  NextArgsPlaced,
  NextArgPlaced,
  ArgPlaced,
  ExprBoxPlaced,
  ExprPlaced,
  OperandsPlaced,
  OperandPlaced,
  ShortOperandsPlaced,
  ShortOperandPlaced,
  RelBoxPlaced,
  RelPlaced,
  SumBoxPlaced,
  SumPlaced,
  NextTermsPlaced,
  NextTermPlaced,
  TermPlaced,
  NextFactorsPlaced,
  NextFactorPlaced,
  FactorPlaced,
  PrimaryPlaced,
  NameBoxPlaced,
  AggregateBoxPlaced,
  AggregatePlaced,
  RangePlaced,
  ChoicePlaced,
  NextChoicePlaced,
  IndicationPlaced,
  ComponentPlaced,
  UsePlaced,
  ItemPlaced,
  StmtsBoxPlaced,
  StmtsPlaced,
  StmtBoxPlaced,
  EachStmtPlaced,
  StmtPlaced,
  ElsifsPlaced,
  ElsifPlaced,
  WhenBoxPlaced,
  WhensPlaced,
  WhenPlaced,
  FormalPlaced,
  NextFormalPlaced,
  FormalsPlaced,
  SubspecPlaced,
  DeclPlaced,
  SubprogramPlaced,
  BodyPartPlaced,
  PrivatePlaced,
  PackagePlaced,
  PackageBodyPlaced,
  ContextPlaced,
  UnitPlaced,
  WellPlaced,
}
use Rattle.ada_tree.specs.FixedNames.{
  PragmaOnNamed,
  PragmaNamed,
  ModeOnNamed,
  ModeNamed,
  ItemNamed,
  StmtsBoxNamed,
  StmtsNamed,
  StmtBoxNamed,
  EachStmtNamed,
  StmtNamed,
  ElsifsNamed,
  ElsifNamed,
  WhenBoxNamed,
  WhensNamed,
  WhenNamed,
  DeclNamed,
  SubprogramNamed,
  BodyPartNamed,
  PrivateNamed,
  PackageNamed,
  PackageBodyNamed,
  ContextNamed,
  UnitNamed,
  FixedNames,
}
use Rattle.ada_tree.specs.Refusals.{IsSpelledBy}

-- ---- what is compared

-- The tokens that a text was cut into are what the units are spelled by, and the units are a
-- source: each part has its position, and the fixed names stand where the grammar has them.
abbrev pub IsSourceOf : CutResult → List SourceUnit → Type 0
IsSourceOf (Ok cuts) units = IsSpelledBy (map (λ cut. told_as cut.kind cut.pos cut.text) cuts) units
IsSourceOf (Err fault) units = ⊥

-- The same of the tokens of a text, which is file 0.
abbrev pub IsTextOf : String → List SourceUnit → Type 0
IsTextOf text = IsSourceOf (tokens 0 (codes text) 1000)

pub source_of : {ts : List Spelled} {first : SourceUnit} {rest : List SourceUnit} → WellPlaced (first ∷ rest)
    → FixedNames (first ∷ rest) → file_of (source_spelling (first ∷ rest)) ≡ ts → IsSpelledBy ts (first ∷ rest)
source_of placed named spelled =
    record { fits = record { some = (_, _, refl); placed = placed; named = named }; spelled = spelled }

-- The definitions that are computed where a lemma names this one: those of the lexer, of the rows
-- of a tree, of the spelling, and of what makes units a source.
unfoldable pub computes : Type 0
unfolding tokens first_piece identifier reserved reserved_words number string delimiter behind hidden shape-the_row-Arg-0
    hidden-the_row-Arg-0 shape-the_row-Expr-2 hidden-the_row-Expr-2 shape-the_row-Rel-3 hidden-the_row-Rel-3
    shape-the_row-Name-7 hidden-the_row-Name-7 shape-the_row-Aggregate-8 hidden-the_row-Aggregate-8
    shape-the_row-Sum-9 hidden-the_row-Sum-9 hidden-the_row-NextArg-1 hidden-the_row-Operand-4 hidden-the_row-ShortOperand-5
    hidden-the_row-Suffix-6 hidden-the_row-NextTerm-10 hidden-the_row-NextFactor-11 shape-the_row-Stmts-0
    hidden-the_row-Stmts-0 hidden-the_row-Elsif-1 shape-the_row-When-2 hidden-the_row-When-2 hidden-the_row-When-3
    shape-the_row-Stmt-4 hidden-the_row-Stmt-4 hidden-the_row-Stmt-5 next_identifier_spelling next_part_spelling dotted_spelling
    next_dotted_spelling relational_symbol sign_symbol adding_symbol multiplying_token name_spelling suffixes_spelling suffix_spelling
    arg_box next_args_spelling next_arg_spelling arg_spelling expr_box expr_spelling operands_spelling operand_spelling short_operands_spelling
    short_operand_spelling rel_box rel_spelling sum_box sum_spelling next_terms_spelling next_term_spelling term_spelling
    next_factors_spelling next_factor_spelling factor_spelling primary_spelling name_box aggregate_box
    aggregate_spelling range_spelling choice_spelling next_choice_spelling indication_spelling component_spelling use_spelling pragma_on_spelling
    pragma_spelling item_spelling stmts_box stmts_spelling stmt_box next_stmts_spelling stmt_spelling elsifs_spelling elsif_spelling when_box
    next_whens_spelling when_spelling mode_on_spelling mode_spelling formal_spelling next_formal_spelling formals_spelling subspec_spelling decl_spelling
    subprogram_spelling body_part_spelling private_spelling package_spelling package_body_spelling context_spelling unit_spelling DottedPlaced
    NextDottedPlaced NamePlaced SuffixesPlaced SuffixPlaced ArgBoxPlaced NextArgsPlaced NextArgPlaced ArgPlaced ExprBoxPlaced
    ExprPlaced OperandsPlaced OperandPlaced ShortOperandsPlaced ShortOperandPlaced RelBoxPlaced RelPlaced SumBoxPlaced
    SumPlaced NextTermsPlaced NextTermPlaced TermPlaced NextFactorsPlaced NextFactorPlaced
    FactorPlaced PrimaryPlaced NameBoxPlaced AggregateBoxPlaced AggregatePlaced RangePlaced ChoicePlaced
    NextChoicePlaced IndicationPlaced ComponentPlaced UsePlaced ItemPlaced StmtsBoxPlaced StmtsPlaced StmtBoxPlaced
    EachStmtPlaced StmtPlaced ElsifsPlaced ElsifPlaced WhenBoxPlaced WhensPlaced WhenPlaced FormalPlaced NextFormalPlaced
    FormalsPlaced SubspecPlaced DeclPlaced SubprogramPlaced BodyPartPlaced PrivatePlaced PackagePlaced PackageBodyPlaced
    ContextPlaced UnitPlaced PragmaOnNamed PragmaNamed ModeOnNamed ModeNamed ItemNamed StmtsBoxNamed StmtsNamed StmtBoxNamed
    EachStmtNamed StmtNamed ElsifsNamed ElsifNamed WhenBoxNamed WhensNamed WhenNamed DeclNamed SubprogramNamed BodyPartNamed
    PrivateNamed PackageNamed PackageBodyNamed ContextNamed UnitNamed
computes = Unit {0}

-- ---- the parts of a tree, by their columns in the only line

abbrev pub at : ℕ → Pos
at column = record { file = 0; line = 1; column = column }

abbrev pub id : ℕ → String → Identifier
id column text = record { pos = at column; text = codes text }

abbrev pub dotted_of : Identifier → List NextPart → Dotted
dotted_of first rest = record { pos = first.pos; first = first; rest = rest }

-- A dotted name of one identifier.
abbrev pub mark : ℕ → String → Dotted
mark column text = dotted_of (id column text) []

-- A dotted name of two identifiers.
abbrev pub selected : ℕ → String → ℕ → ℕ → String → Dotted
selected column text dot second selector = dotted_of (id column text) (next_part.FurtherPart (at dot) (id second selector) ∷ [])

abbrev pub name_of : ℕ → String → Name
name_of column text = name.Prefixed (at column) (id column text) []

abbrev pub object : ℕ → String → Primary
object column text = primary.Named (at column) (name_of column text)

-- A primary alone, at each level of an expression.
abbrev pub factor_of : ℕ → Primary → Factor
factor_of column part = factor.LonePrimary (at column) part

abbrev pub term_of : ℕ → Primary → Term
term_of column part = term.Product (at column) (factor_of column part) []

abbrev pub sum_of : ℕ → Primary → Sum
sum_of column part = sum.Unsigned (at column) (term_of column part) []

abbrev pub rel_of : ℕ → Primary → Rel
rel_of column part = rel.LoneSum (at column) (sum_of column part)

abbrev pub expr_of : ℕ → Primary → Expr
expr_of column part = expr.LoneRelation (at column) (rel_of column part)

-- One statement.
abbrev pub sole : ℕ → Stmt → Stmts
sole column part = stmts.Sequence (at column) part []

-- "null;"
abbrev pub null_at : ℕ → Stmts
null_at column = sole column (stmt.Null (at column) (at (column + 4)))

abbrev pub use_of : ℕ → Option Pos → Dotted → List NextDotted → ℕ → UseClause
use_of pos type_word first rest semicolon =
    record { pos = at pos; type_word = type_word; first = first; rest = rest; semicolon = at semicolon }

abbrev pub pragma_on : ℕ → Identifier → ℕ → PragmaOn
pragma_on pos on right_paren = record { pos = at pos; on = on; right_paren = at right_paren }

abbrev pub pragma_of : ℕ → Identifier → Option PragmaOn → ℕ → PragmaClause
pragma_of pos name argument semicolon = record { pos = at pos; name = name; argument = argument; semicolon = at semicolon }

abbrev pub mode_on : ℕ → Identifier → ModeOn
mode_on pos on = record { pos = at pos; on = on }

abbrev pub mode_of : ℕ → Identifier → Option ModeOn → SparkMode
mode_of pos name value = record { pos = at pos; name = name; value = value }

abbrev pub formals_of : ℕ → Formal → List NextFormal → ℕ → Formals
formals_of pos first rest right_paren = record { pos = at pos; first = first; rest = rest; right_paren = at right_paren }

-- ---- units, by their parts in the order of the text

abbrev pub private_part : ℕ → List Decl → PrivatePart
private_part pos decls = record { pos = at pos; decls = decls }

abbrev pub package_of : ℕ → Identifier → Option SparkMode → ℕ → List Decl → Option PrivatePart → ℕ → Option Identifier → ℕ → Package
package_of pos name mode is visible private end closing semicolon = record {
  pos = at pos;
  name = name;
  mode = mode;
  is = at is;
  visible = visible;
  private = private;
  end = at end;
  closing = closing;
  semicolon = at semicolon;
}

abbrev pub package_body_of : ℕ → ℕ → Identifier → Option SparkMode → ℕ → List BodyPart → ℕ → Option Identifier → ℕ → PackageBody
package_body_of pos body name mode is parts end closing semicolon = record {
  pos = at pos;
  body = at body;
  name = name;
  mode = mode;
  is = at is;
  parts = parts;
  end = at end;
  closing = closing;
  semicolon = at semicolon;
}

abbrev pub subprogram_of : ℕ → Subspec → Option SparkMode → ℕ → List Item → ℕ → Stmts → ℕ → Option Identifier → ℕ → SubprogramBody
subprogram_of pos spec mode is items begin body end closing semicolon = record {
  pos = at pos;
  spec = spec;
  mode = mode;
  is = at is;
  items = items;
  begin = at begin;
  stmts = body;
  end = at end;
  closing = closing;
  semicolon = at semicolon;
}

-- ---- sources

-- "procedure P is", the items, "begin" at its column, the statements, "end" at its column, and ";"
abbrev pub procedure_of : List Item → ℕ → Stmts → ℕ → List SourceUnit
procedure_of items begin body end =
    unit.OfSubprogram (at 1) [] (subprogram_of 1 (subspec.Procedure (at 1) (id 11 "P") None) None 13 items begin body end None
    (end + 3)) ∷ []

-- "procedure P is", the item, and "begin null; end;" at its column
abbrev pub with_item : Item → ℕ → List SourceUnit
with_item part begin = procedure_of (part ∷ []) begin (null_at (begin + 6)) (begin + 12)

-- "procedure P is begin", the statement, and "end;" at its column
abbrev pub with_stmt : Stmt → ℕ → List SourceUnit
with_stmt part end = procedure_of [] 16 (sole 22 part) end

-- "procedure P is begin X :=", the expression, and "; end;" at its column
abbrev pub with_value : Expr → ℕ → List SourceUnit
with_value value semicolon =
    with_stmt (stmt.Assign (at 22) (name_of 22 "X") (at 24) value (at semicolon)) (semicolon + 2)
