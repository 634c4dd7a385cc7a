-- What items, statements, subprograms and units do with names, in the order of their tokens
-- (docs/LANGUAGE.md, "Names"): one case for each alternative of the grammar.
use Rattle.std.specs.Prelude.{ℕ, List, [], ◌∷◌, ◌++◌, map, Option, None, Some}
use Rattle.std.specs.List.{flat_map}
use Rattle.spark_base.specs.declared.position.Pos.{Pos}
use Rattle.ada_tree.specs.declared.identifier.Identifier.{Identifier}
use Rattle.ada_tree.specs.declared.identifier.Dotted.{Dotted}
use Rattle.ada_tree.specs.declared.range.Range.{Range}
use Rattle.ada_tree.specs.declared.declaration.Component.{Component}
use Rattle.ada_tree.specs.declared.declaration.Component.TheVariants as component
use Rattle.ada_tree.specs.declared.declaration.Indication.{Indication}
use Rattle.ada_tree.specs.declared.declaration.Indication.TheVariants as indication
use Rattle.ada_tree.specs.declared.declaration.Item.{Item}
use Rattle.ada_tree.specs.declared.declaration.Item.TheVariants as item
use Rattle.ada_tree.specs.declared.declaration.UseClause.{UseClause}
use Rattle.ada_tree.specs.declared.statement.Stmts.{Stmts, Row_of-Stmt, end_of-Stmt, more_of-Stmt}
use Rattle.ada_tree.specs.declared.statement.Stmts.TheVariants as stmts
use Rattle.ada_tree.specs.declared.statement.Stmt.{Stmt, Row_of-Stmts, end_of-Stmts, more_of-Stmts, Row_of-Elsif, end_of-Elsif, more_of-Elsif, Row_of-When, end_of-When, more_of-When}
use Rattle.ada_tree.specs.declared.statement.Stmt.TheVariants as stmt
use Rattle.ada_tree.specs.declared.statement.Elsif.{Elsif}
use Rattle.ada_tree.specs.declared.statement.Elsif.TheVariants as branch
use Rattle.ada_tree.specs.declared.statement.When.{When}
use Rattle.ada_tree.specs.declared.statement.When.TheVariants as alternative
use Rattle.ada_tree.specs.declared.subprogram.Subspec.{Subspec}
use Rattle.ada_tree.specs.declared.subprogram.Subspec.TheVariants as subspec
use Rattle.ada_tree.specs.declared.subprogram.Formals.{Formals}
use Rattle.ada_tree.specs.declared.subprogram.NextFormal.{NextFormal}
use Rattle.ada_tree.specs.declared.subprogram.NextFormal.TheVariants as next_formal
use Rattle.ada_tree.specs.declared.subprogram.Formal.{Formal}
use Rattle.ada_tree.specs.declared.subprogram.Formal.TheVariants as formal
use Rattle.ada_tree.specs.declared.subprogram.Decl.{Decl}
use Rattle.ada_tree.specs.declared.subprogram.Decl.TheVariants as decl
use Rattle.ada_tree.specs.declared.unit.SourceUnit.{SourceUnit}
use Rattle.ada_tree.specs.declared.unit.SourceUnit.TheVariants as unit
use Rattle.ada_tree.specs.declared.unit.Context.{Context}
use Rattle.ada_tree.specs.declared.unit.Context.TheVariants as context
use Rattle.ada_tree.specs.declared.unit.Package.{Package}
use Rattle.ada_tree.specs.declared.unit.PrivatePart.{PrivatePart}
use Rattle.ada_tree.specs.declared.unit.PackageBody.{PackageBody}
use Rattle.ada_tree.specs.declared.unit.BodyPart.{BodyPart}
use Rattle.ada_tree.specs.declared.unit.BodyPart.TheVariants as part
use Rattle.ada_tree.specs.declared.unit.SubprogramBody.{SubprogramBody}
use Rattle.name_events.specs.declared.event.Event.{Event}
use Rattle.name_events.specs.declared.event.Event.TheVariants as e
use Rattle.name_events.specs.declared.declaration.DeclarationForm.{DeclarationForm}
use Rattle.name_events.specs.declared.declaration.DeclarationForm.TheVariants as form
use Rattle.name_events.specs.declared.event.Clause.{Clause}
use Rattle.name_events.specs.declared.event.Clause.TheVariants as clause
use Rattle.name_events.specs.ExpressionOutline.{Events, folded, folded_identifier, folded_dotted, next_name, next_dotted_name, declares, declares_all, mention, mentions, each_of, name_events, arg_events, next_arg_events, expr_events, range_events, choice_events, next_choice_events}

-- ---- items

-- mark | "access" ["constant"] mark
unfoldable pub indication_events : Indication → Events
indication_events (indication.Mark pos mark) = mention clause.Elsewhere mark ∷ []
indication_events (indication.Anonymous pos access_constant designated) = mention clause.Elsewhere designated ∷ []

-- comp = id {"," id} ":" mark ";"
unfoldable pub component_events : Component → Events
component_events (component.Fields pos first rest colon mark semicolon) =
    map (λ id. e.DeclaresComponent (folded_identifier id)) (first ∷ map next_name rest) ++ mention clause.Elsewhere mark ∷ []

abbrev pub clause_of : Option Pos → Clause
clause_of None = clause.Use
clause_of (Some type_word) = clause.UseType

-- usecl = "use" ["type"] dotted {"," dotted} ";": it counts after its ";".
abbrev pub use_events : UseClause → Events
use_events c = mentions (clause_of c.type_word) c.first c.rest ++ e.UseClauseEnds ∷ []

-- subtype = "subtype" id "is" mark ["range" expr ".." expr] ";": it ends with its ";".
unfoldable pub subtype_events : Item → Events
subtype_events (item.Subtype pos id is mark semicolon) =
    declares form.Subtype id ∷ (mention clause.Elsewhere mark ∷ (e.DeclarationsEnd ∷ []))
subtype_events (item.ConstrainedSubtype pos id is mark of_range low dots high semicolon) =
    declares form.Subtype id ∷ (mention clause.Elsewhere mark ∷ (expr_events low ++ (expr_events high ++ e.DeclarationsEnd ∷ [])))
subtype_events _ = []

-- type: it ends with its ";".
unfoldable pub type_events : Item → Events
type_events (item.IncompleteType pos id semicolon) = declares form.IncompleteType id ∷ e.DeclarationsEnd ∷ []
type_events (item.PrivateType pos id is private semicolon) = declares form.PrivateType id ∷ e.DeclarationsEnd ∷ []
type_events (item.EnumerationType pos id is left_paren first rest right_paren semicolon) =
    declares form.FullType id ∷ (declares_all form.Literal first rest ++ e.DeclarationsEnd ∷ [])
type_events (item.RecordType pos id is record_word first rest end end_record semicolon) =
    declares form.FullType id ∷ (e.RecordBegins ∷ (flat_map component_events (first ∷ rest) ++ e.DeclarationsEnd ∷ []))
type_events (item.ArrayType pos id is array left_paren index right_paren of element semicolon) =
    declares form.FullType id ∷ (range_events index ++ (mention clause.Elsewhere element ∷ (e.DeclarationsEnd ∷ [])))
type_events (item.AccessType pos id is access designated semicolon) =
    declares form.FullType id ∷ (mention clause.Elsewhere designated ∷ (e.DeclarationsEnd ∷ []))
type_events declared = subtype_events declared

-- item = type | subtype | object | instance | usecl | pragma: each declaration ends with its ";".
unfoldable pub item_events : Item → Events
item_events (item.Objects pos first rest colon is_constant of semicolon) =
    declares_all form.Object first rest ++ (indication_events of ++ e.DeclarationsEnd ∷ [])
item_events (item.InitializedObjects pos first rest colon is_constant of becomes value semicolon) =
    declares_all form.Object first rest ++ (indication_events of ++ (expr_events value ++ e.DeclarationsEnd ∷ []))
item_events (item.Numbers pos first rest colon is_constant becomes value semicolon) =
    declares_all form.Object first rest ++ (expr_events value ++ e.DeclarationsEnd ∷ [])
item_events (item.Instance pos id is new generic left_paren first rest right_paren semicolon) =
    declares form.Instance id
    ∷ (mention clause.Elsewhere generic ∷ (arg_events first ++ (flat_map next_arg_events rest ++ e.DeclarationsEnd ∷ [])))
item_events (item.Use pos c) = use_events c
item_events (item.Pragma pos c) = []
item_events declared = type_events declared

-- ---- statements

-- stmt = "null" ";" | name ":=" expr ";" | name ";" | "exit" ["when" expr] ";" | "return" [expr]
-- ";"
unfoldable pub simple_events : Stmt → Events
simple_events (stmt.Assign pos target becomes value semicolon) = name_events target ++ expr_events value
simple_events (stmt.Call pos callee semicolon) = name_events callee
simple_events (stmt.ExitWhen pos when condition semicolon) = expr_events condition
simple_events (stmt.ReturnValue pos value semicolon) = expr_events value
simple_events _ = []

-- "for" id "in" ["reverse"] range: the region of the loop begins, and its parameter ends with the
-- range.
abbrev pub parameter_events : Identifier → Range → Events
parameter_events parameter steps =
    e.RegionOpens ∷ (declares form.LoopParameter parameter ∷ (range_events steps ++ e.DeclarationsEnd ∷ []))

-- "declare" {item} "begin": the region of the block begins.
abbrev pub block_events : List Item → Events
block_events items = e.RegionOpens ∷ flat_map item_events items

unfoldable mutual
  -- stmts = stmt {stmt}
  pub stmts_events : Stmts → Events
  stmts_events (stmts.Sequence' pos _ first _ rest) = stmt_box_events first ++ stmt_list_events rest

  pub stmt_box_events : {n : _} → Row_of-Stmt n → Events
  stmt_box_events end_of-Stmt = []
  stmt_box_events (more_of-Stmt part rest) = stmt_events part

  pub stmt_list_events : {n : _} → Row_of-Stmt n → Events
  stmt_list_events end_of-Stmt = []
  stmt_list_events (more_of-Stmt part rest) = stmt_events part ++ stmt_list_events rest

  pub stmt_events : Stmt → Events
  -- "if" expr "then" stmts {"elsif" expr "then" stmts} ["else" stmts] "end" "if" ";"
  stmt_events (stmt.If' pos condition then_word _ body _ elsifs end end_if semicolon) =
      expr_events condition ++ (stmts_box_events body ++ elsifs_events elsifs)
  stmt_events (stmt.IfElse' pos condition then_word _ body _ elsifs otherwise _ other end end_if semicolon) =
      expr_events condition ++ (stmts_box_events body ++ (elsifs_events elsifs ++ stmts_box_events other))
  -- "case" expr "is" when {when} "end" "case" ";"
  stmt_events (stmt.Case' pos selecting is _ first _ rest end end_case semicolon) =
      expr_events selecting ++ (when_box_events first ++ whens_events rest)
  -- ["while" expr | "for" id "in" ["reverse"] range] "loop" stmts "end" "loop" ";"
  stmt_events (stmt.Loop' pos _ body end end_loop semicolon) = stmts_box_events body
  stmt_events (stmt.While' pos condition loop_word _ body end end_loop semicolon) = expr_events condition ++ stmts_box_events body
  stmt_events (stmt.For' pos parameter in_word reverse steps loop_word _ body end end_loop semicolon) =
      parameter_events parameter steps ++ (stmts_box_events body ++ e.RegionCloses ∷ [])
  -- ["declare" {item}] "begin" stmts "end" ";"
  stmt_events (stmt.Block' pos _ body end semicolon) = e.RegionOpens ∷ (stmts_box_events body ++ e.RegionCloses ∷ [])
  stmt_events (stmt.DeclareBlock' pos items begin _ body end semicolon) =
      block_events items ++ (stmts_box_events body ++ e.RegionCloses ∷ [])
  stmt_events simple = simple_events simple

  pub stmts_box_events : {n : _} → Row_of-Stmts n → Events
  stmts_box_events end_of-Stmts = []
  stmts_box_events (more_of-Stmts part rest) = stmts_events part

  pub elsifs_events : {n : _} → Row_of-Elsif n → Events
  elsifs_events end_of-Elsif = []
  elsifs_events (more_of-Elsif part rest) = elsif_events part ++ elsifs_events rest

  pub elsif_events : Elsif → Events
  elsif_events (branch.Branch' pos condition then_word _ body) = expr_events condition ++ stmts_box_events body

  pub when_box_events : {n : _} → Row_of-When n → Events
  when_box_events end_of-When = []
  when_box_events (more_of-When part rest) = when_events part

  pub whens_events : {n : _} → Row_of-When n → Events
  whens_events end_of-When = []
  whens_events (more_of-When part rest) = when_events part ++ whens_events rest

  -- when = "when" choice {"|" choice} "=>" stmts
  pub when_events : When → Events
  when_events (alternative.Alternative' pos first rest arrow _ body) =
      choice_events first ++ (flat_map next_choice_events rest ++ stmts_box_events body)

-- ---- subprograms

-- formal = id {"," id} ":" (["in"] ["out"] mark | "access" ["constant"] mark): its declarations end
-- with it.
unfoldable pub formal_events : Formal → Events
formal_events (formal.Moded pos first rest colon in_word out_word mark) =
    declares_all form.Formal first rest ++ (mention clause.Elsewhere mark ∷ (e.DeclarationsEnd ∷ []))
formal_events (formal.Anonymous pos first rest colon access access_constant designated) =
    declares_all form.Formal first rest ++ (mention clause.Elsewhere designated ∷ (e.DeclarationsEnd ∷ []))

-- ";" formal
unfoldable pub next_formal_events : NextFormal → Events
next_formal_events (next_formal.Semicolon pos part) = formal_events part

-- formals = "(" formal {";" formal} ")"
abbrev pub formals_events : Formals → Events
formals_events f = formal_events f.first ++ flat_map next_formal_events f.rest

-- subspec = "procedure" id [formals] | "function" id [formals] "return" (mark | anon): the region
-- of the subprogram begins after its identifier, and its declaration ends with the subspec.
unfoldable pub subspec_events : DeclarationForm → Subspec → Events
subspec_events declared_as (subspec.Procedure pos id formals) =
    declares declared_as id ∷ (e.RegionOpens ∷ (each_of formals_events formals ++ e.OuterDeclarationsEnd ∷ []))
subspec_events declared_as (subspec.Function pos id formals return_word result) =
    declares declared_as id ∷ (e.RegionOpens ∷ (each_of formals_events formals ++ (indication_events result ++ e.OuterDeclarationsEnd ∷ [])))

unfoldable pub body_form : Subspec → DeclarationForm
body_form (subspec.Procedure pos id formals) = form.ProcedureBody
body_form (subspec.Function pos id formals return_word result) = form.FunctionBody

unfoldable pub subspec_name : Subspec → Identifier
subspec_name (subspec.Procedure pos id formals) = id
subspec_name (subspec.Function pos id formals return_word result) = id

-- [id] after "end"
abbrev pub closing_events : Identifier → Option Identifier → Events
closing_events of = each_of (λ id. e.EndsWithName (folded_identifier id) (folded of) ∷ [])

-- subbody = subspec mode "is" {item} "begin" stmts "end" [id] ";"
unfoldable pub subprogram_events : SubprogramBody → Events
subprogram_events body =
    subspec_events (body_form body.spec) body.spec ++ (flat_map item_events body.items ++ (stmts_events body.stmts
    ++ (e.RegionCloses ∷ closing_events (subspec_name body.spec) body.closing)))

-- decl = item | subspec mode ";"
unfoldable pub decl_events : Decl → Events
decl_events (decl.OfItem pos declared) = item_events declared
decl_events (decl.Subprogram pos spec mode semicolon) = subspec_events form.SubprogramDeclaration spec ++ e.RegionCloses ∷ []

-- decl | subbody
unfoldable pub body_part_events : BodyPart → Events
body_part_events (part.Declared pos declared) = decl_events declared
body_part_events (part.Completed pos body) = subprogram_events body

-- ---- units

-- "private" {decl}
abbrev pub private_events : PrivatePart → Events
private_events p = e.PrivatePartBegins ∷ flat_map decl_events p.decls

-- package = "package" id mode "is" {decl} ["private" {decl}] "end" [id] ";": its declaration ends
-- with its identifier.
abbrev pub package_events : Package → Events
package_events p =
    declares form.Package p.name ∷ (e.DeclarationsEnd ∷ (e.RegionOpens ∷ (flat_map decl_events p.visible
    ++ (each_of private_events p.private ++ (e.RegionCloses ∷ closing_events p.name p.closing)))))

-- packbody = "package" "body" id mode "is" {decl | subbody} "end" [id] ";"
abbrev pub package_body_events : PackageBody → Events
package_body_events b =
    e.PackageBodyOpens (folded_identifier b.name)
    ∷ (flat_map body_part_events b.parts ++ (e.RegionCloses ∷ closing_events b.name b.closing))

-- A dotted name in a "with", which counts in the whole unit.
abbrev pub has_with : Dotted → Event
has_with dotted = e.UnitHasWith (folded_dotted dotted)

unfoldable pub with_events : Context → Events
with_events (context.With pos first rest semicolon) = map has_with (first ∷ map next_dotted_name rest)
with_events _ = []

-- context = "with" dotted {"," dotted} ";" | usecl | pragma
unfoldable pub context_events : Context → Events
context_events (context.With pos first rest semicolon) = mentions clause.With first rest
context_events (context.Use pos c) = use_events c
context_events (context.Pragma pos c) = []

-- The beginning of a unit, which is the body of a package of this name, or none.
abbrev pub unit_front : Option (List ℕ) → List Context → Events
unit_front body_of clauses = e.UnitBegins body_of ∷ (flat_map with_events clauses ++ flat_map context_events clauses)

-- unit = {context} (package | packbody | subbody)
unfoldable pub unit_events : SourceUnit → Events
unit_events (unit.OfPackage pos clauses whole) = unit_front None clauses ++ package_events whole
unit_events (unit.OfBody pos clauses body) = unit_front (Some (folded body.name)) clauses ++ package_body_events body
unit_events (unit.OfSubprogram pos clauses body) = unit_front None clauses ++ subprogram_events body

-- The units of the files, in their order.
unfoldable pub source_events : List (List SourceUnit) → Events
source_events files = flat_map (flat_map unit_events) files
