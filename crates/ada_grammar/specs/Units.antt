-- Readers of subprograms, of the declarations of packages and of units (docs/LANGUAGE.md,
-- "Grammar").
--
-- Subprograms and packages stand with none or one construct open around them, so each depth is
-- given here, and "procedure", "function" and "package" never exceed the limit. A reader that takes
-- a position, an identifier or a tree continues what is read already, as the function does that has
-- these.
use Rattle.std.specs.Prelude.{ℕ, List, [], ◌∷◌, Option, Some, None, ◌⊎◌}
use Rattle.std.proofs.Common.{inl, inr}
use Rattle.spark_base.specs.declared.position.Pos.{Pos}
use Rattle.ada_lexer.specs.declared.token.Reserved.TheVariants as w
use Rattle.ada_lexer.specs.declared.token.Symbol.TheVariants as s
use Rattle.token_reading.specs.declared.side.Side.TheVariants.{Apart}
use Rattle.token_reading.specs.Reading.{Reader, of_word, of_symbol, of_ident, word, symbol, opens_symbol, chain, to, seq, either, choose, optional, many, some, here, placed}
use Rattle.ada_tree.specs.declared.identifier.Identifier.{Identifier}
use Rattle.ada_tree.specs.declared.identifier.NextIdentifier.{NextIdentifier}
use Rattle.ada_tree.specs.declared.identifier.Dotted.{Dotted}
use Rattle.ada_tree.specs.declared.identifier.NextDotted.{NextDotted}
use Rattle.ada_tree.specs.declared.declaration.Indication.{Indication}
use Rattle.ada_tree.specs.declared.declaration.Item.{Item}
use Rattle.ada_tree.specs.declared.statement.Stmts.{Stmts}
use Rattle.ada_tree.specs.declared.subprogram.ModeOn.{ModeOn}
use Rattle.ada_tree.specs.declared.subprogram.SparkMode.{SparkMode}
use Rattle.ada_tree.specs.declared.subprogram.Formal.{Formal}
use Rattle.ada_tree.specs.declared.subprogram.Formal.TheVariants as formal_tree
use Rattle.ada_tree.specs.declared.subprogram.NextFormal.{NextFormal}
use Rattle.ada_tree.specs.declared.subprogram.NextFormal.TheVariants as next_formal_tree
use Rattle.ada_tree.specs.declared.subprogram.Formals.{Formals}
use Rattle.ada_tree.specs.declared.subprogram.Subspec.{Subspec}
use Rattle.ada_tree.specs.declared.subprogram.Subspec.TheVariants as subspec_tree
use Rattle.ada_tree.specs.declared.subprogram.Decl.{Decl}
use Rattle.ada_tree.specs.declared.subprogram.Decl.TheVariants as decl_tree
use Rattle.ada_tree.specs.declared.unit.SubprogramBody.{SubprogramBody}
use Rattle.ada_tree.specs.declared.unit.BodyPart.{BodyPart}
use Rattle.ada_tree.specs.declared.unit.BodyPart.TheVariants as part_tree
use Rattle.ada_tree.specs.declared.unit.PrivatePart.{PrivatePart}
use Rattle.ada_tree.specs.declared.unit.Package.{Package}
use Rattle.ada_tree.specs.declared.unit.PackageBody.{PackageBody}
use Rattle.ada_tree.specs.declared.unit.Context.{Context}
use Rattle.ada_tree.specs.declared.unit.Context.TheVariants as context_tree
use Rattle.ada_tree.specs.declared.unit.SourceUnit.{SourceUnit}
use Rattle.ada_tree.specs.declared.unit.SourceUnit.TheVariants as unit_tree
use Rattle.ada_tree.specs.FixedNames.{mode_name, on_name}
use Rattle.ada_grammar.specs.Expressions.{identifier, dotted, next_dotteds}
use Rattle.ada_grammar.specs.Items.{next_identifiers, called, optional_constant, indication, use_clause, pragma, instance_of, plain_item, item_first, items}
use Rattle.ada_grammar.specs.Statements.{semicolon, stmts}

-- ---- modes

abbrev pub make_mode_on : Pos × Identifier → ModeOn
make_mode_on x = record { pos = x.0; on = x.1 }

-- "=>" On
unfoldable pub mode_on : Reader ModeOn
mode_on = to make_mode_on (seq (symbol Apart s.Arrow) (called on_name))

abbrev pub make_mode : Pos × (Identifier × Option ModeOn) → SparkMode
make_mode x = record { pos = x.0; name = x.1.0; value = x.1.1 }

-- ["=>" On]
abbrev pub optional_mode_on : Reader (Option ModeOn)
optional_mode_on = optional (of_symbol s.Arrow ∷ []) mode_on

-- "with" SPARK_Mode ["=>" On]
unfoldable pub spark_mode : Reader SparkMode
spark_mode = to make_mode (seq (word Apart w.KwWith) (seq (called mode_name) optional_mode_on))

-- mode = ["with" SPARK_Mode ["=>" On]]
unfoldable pub mode : Reader (Option SparkMode)
mode = optional (of_word w.KwWith ∷ []) spark_mode

-- ---- formals

-- "access" ["constant"] mark
abbrev pub AnonymousParts : Type 0
AnonymousParts = Pos × (Option Pos × Dotted)

-- ["in"] ["out"] mark
abbrev pub ModedParts : Type 0
ModedParts = Option Pos × (Option Pos × Dotted)

abbrev pub make_formal_by : Identifier → List NextIdentifier → Pos → AnonymousParts ⊎ ModedParts → Formal
make_formal_by first rest colon (inl x) = formal_tree.Anonymous first.pos first rest colon x.0 x.1.0 x.1.1
make_formal_by first rest colon (inr x) = formal_tree.Moded first.pos first rest colon x.0 x.1.0 x.1.1

abbrev pub make_formal : Identifier × (List NextIdentifier × (Pos × (AnonymousParts ⊎ ModedParts))) → Formal
make_formal x = make_formal_by x.0 x.1.0 x.1.1.0 x.1.1.1

-- formal = id {"," id} ":" (["in"] ["out"] mark | anon)
unfoldable pub formal : Reader Formal
formal =
    to make_formal (seq (identifier Apart) (seq next_identifiers (seq (symbol Apart s.Colon) (choose (of_word w.KwAccess ∷ [])
    (seq (word Apart w.KwAccess) (seq optional_constant (dotted Apart)))
    (seq (optional (of_word w.KwIn ∷ []) (word Apart w.KwIn)) (seq (optional (of_word w.KwOut ∷ []) (word Apart w.KwOut)) (dotted Apart)))))))

abbrev pub make_next_formal : Pos × Formal → NextFormal
make_next_formal x = next_formal_tree.Semicolon x.0 x.1

-- ";" formal
unfoldable pub next_formal : Reader NextFormal
next_formal = to make_next_formal (seq semicolon formal)

-- {";" formal}
abbrev pub next_formals : Reader (List NextFormal)
next_formals = many (of_symbol s.Semicolon ∷ []) next_formal

abbrev pub make_formals : Pos × (Formal × (List NextFormal × Pos)) → Formals
make_formals x = record { pos = x.0; first = x.1.0; rest = x.1.1.0; right_paren = x.1.1.1 }

-- formals = "(" formal {";" formal} ")"
unfoldable pub formals : ℕ → Reader Formals
formals d =
    to make_formals (seq (opens_symbol Apart s.LeftParenthesis d) (seq formal (seq next_formals (symbol Apart s.RightParenthesis))))

-- [formals]
abbrev pub optional_formals : ℕ → Reader (Option Formals)
optional_formals d = optional (of_symbol s.LeftParenthesis ∷ []) (formals d)

-- ---- fronts and bodies of subprograms, where `d` is the depth of what they enclose

abbrev pub make_procedure : Pos → Identifier × Option Formals → Subspec
make_procedure pos x = subspec_tree.Procedure pos x.0 x.1

-- subspec = "procedure" id [formals], after "procedure"
unfoldable pub procedure_spec : ℕ → Pos → Reader Subspec
procedure_spec d pos = to (make_procedure pos) (seq (identifier Apart) (optional_formals d))

abbrev pub FunctionParts : Type 0
FunctionParts = Identifier × (Option Formals × (Pos × Indication))

-- id [formals] "return" (mark | anon)
abbrev pub function_parts : ℕ → Reader FunctionParts
function_parts d = seq (identifier Apart) (seq (optional_formals d) (seq (word Apart w.KwReturn) indication))

abbrev pub make_function : Pos → FunctionParts → Subspec
make_function pos x = subspec_tree.Function pos x.0 x.1.0 x.1.1.0 x.1.1.1

-- subspec = "function" id [formals] "return" (mark | anon), after "function"
unfoldable pub function_spec : ℕ → Pos → Reader Subspec
function_spec d pos = to (make_function pos) (function_parts d)

-- [id]
abbrev pub closing_name : Reader (Option Identifier)
closing_name = optional (of_ident ∷ []) (identifier Apart)

-- "end" [id] ";"
abbrev pub ClosingParts : Type 0
ClosingParts = Pos × (Option Identifier × Pos)

abbrev pub closing : Reader ClosingParts
closing = seq (word Apart w.KwEnd) (seq closing_name semicolon)

abbrev pub SubprogramParts : Type 0
SubprogramParts = List Item × (Pos × (Stmts × ClosingParts))

-- {item} "begin" stmts "end" [id] ";"
abbrev pub subprogram_parts : ℕ → Reader SubprogramParts
subprogram_parts d = seq (items d) (seq (word Apart w.KwBegin) (seq (stmts d) closing))

abbrev pub make_body : Pos → Subspec → Option SparkMode → Pos → SubprogramParts → SubprogramBody
make_body pos spec mode is x = record {
  pos = pos;
  spec = spec;
  mode = mode;
  is = is;
  items = x.0;
  begin = x.1.0;
  stmts = x.1.1.0;
  end = x.1.1.1.0;
  closing = x.1.1.1.1.0;
  semicolon = x.1.1.1.1.1;
}

-- subbody = subspec mode "is" {item} "begin" stmts "end" [id] ";", after "is"
unfoldable pub body_behind : ℕ → Pos → Subspec → Option SparkMode → Pos → Reader SubprogramBody
body_behind d pos spec mode is = to (make_body pos spec mode is) (subprogram_parts d)

-- ---- declarations of a package, which is the one open construct around them

-- decl = item, which is no instance
unfoldable pub plain_decl : Reader Decl
plain_decl = placed decl_tree.OfItem (plain_item 1)

abbrev pub make_declared : Pos → Subspec → Option SparkMode × Pos → Decl
make_declared pos spec x = decl_tree.Subprogram pos spec x.0 x.1

-- decl = subspec mode ";", after the subspec
unfoldable pub decl_behind : Pos → Subspec → Reader Decl
decl_behind pos spec = to (make_declared pos spec) (seq mode semicolon)

-- decl = instance, after "is"
unfoldable pub instance_decl : Pos → Identifier → Pos → Reader Decl
instance_decl pos id is = to (decl_tree.OfItem pos) (instance_of 1 pos id is)

-- a decl that begins with "procedure", after the identifier
unfoldable pub named_decl : Pos → Identifier → Reader Decl
named_decl pos id =
    either (of_word w.KwIs ∷ []) (chain (word Apart w.KwIs) (λ is. instance_decl pos id is))
    (chain (optional_formals 2) (λ formals. decl_behind pos (subspec_tree.Procedure pos id formals)))

-- decl = item | subspec mode ";"
unfoldable pub decl : Reader Decl
decl =
    either (of_word w.KwProcedure ∷ []) (chain (word Apart w.KwProcedure) (λ pos. chain (identifier Apart) (λ id. named_decl pos id)))
    (either (of_word w.KwFunction ∷ []) (chain (word Apart w.KwFunction) (λ pos. chain (function_spec 2 pos) (λ spec. decl_behind pos spec)))
    plain_decl)

abbrev pub decl_first : List ℕ
decl_first = of_word w.KwFunction ∷ item_first

-- {decl}
abbrev pub decls : Reader (List Decl)
decls = many decl_first decl

-- ---- parts of a package body, which is the one open construct around them

-- a part that is an item and no instance
unfoldable pub plain_part : Reader BodyPart
plain_part = placed (λ pos declared. part_tree.Declared pos (decl_tree.OfItem pos declared)) (plain_item 1)

-- a part that is a body, after "is"
unfoldable pub completed_part : Pos → Subspec → Option SparkMode → Pos → Reader BodyPart
completed_part pos spec mode is = to (part_tree.Completed pos) (body_behind 2 pos spec mode is)

-- decl = subspec mode ";" | subbody, after the mode
unfoldable pub part_ending : Pos → Subspec → Option SparkMode → Reader BodyPart
part_ending pos spec mode =
    either (of_word w.KwIs ∷ []) (chain (word Apart w.KwIs) (λ is. completed_part pos spec mode is))
    (to (λ semicolon. part_tree.Declared pos (decl_tree.Subprogram pos spec mode semicolon)) semicolon)

-- decl = subspec mode ";" | subbody, after the subspec
unfoldable pub part_behind : Pos → Subspec → Reader BodyPart
part_behind pos spec = chain mode (λ mode. part_ending pos spec mode)

-- a part that begins with "procedure" id "is": an instance or a body, after "is"
unfoldable pub instance_or_body : Pos → Identifier → Pos → Reader BodyPart
instance_or_body pos id is =
    either (of_word w.KwNew ∷ []) (to (part_tree.Declared pos) (instance_decl pos id is))
    (completed_part pos (subspec_tree.Procedure pos id None) None is)

-- decl = subspec mode ";" | subbody, after "procedure" id, where no "is" follows
unfoldable pub procedure_part : Pos → Identifier → Reader BodyPart
procedure_part pos id =
    either (of_symbol s.LeftParenthesis ∷ []) (chain (formals 2) (λ formals. part_behind pos (subspec_tree.Procedure pos id (Some formals))))
    (either (of_word w.KwWith ∷ []) (chain spark_mode (λ mode. part_ending pos (subspec_tree.Procedure pos id None) (Some mode)))
    (to (λ semicolon. part_tree.Declared pos (decl_tree.Subprogram pos (subspec_tree.Procedure pos id None) None semicolon)) semicolon))

-- a part that begins with "procedure", after the identifier
unfoldable pub named_part : Pos → Identifier → Reader BodyPart
named_part pos id =
    either (of_word w.KwIs ∷ []) (chain (word Apart w.KwIs) (λ is. instance_or_body pos id is)) (procedure_part pos id)

-- decl | subbody
unfoldable pub body_part : Reader BodyPart
body_part =
    either (of_word w.KwProcedure ∷ []) (chain (word Apart w.KwProcedure) (λ pos. chain (identifier Apart) (λ id. named_part pos id)))
    (either (of_word w.KwFunction ∷ []) (chain (word Apart w.KwFunction) (λ pos. chain (function_spec 2 pos) (λ spec. part_behind pos spec)))
    plain_part)

-- {decl | subbody}
abbrev pub body_parts : Reader (List BodyPart)
body_parts = many decl_first body_part

-- ---- packages and their bodies, after "package"

abbrev pub make_private : Pos × List Decl → PrivatePart
make_private x = record { pos = x.0; decls = x.1 }

-- "private" {decl}
unfoldable pub private_part : Reader PrivatePart
private_part = to make_private (seq (word Apart w.KwPrivate) decls)

-- ["private" {decl}]
abbrev pub optional_private : Reader (Option PrivatePart)
optional_private = optional (of_word w.KwPrivate ∷ []) private_part

-- {decl} ["private" {decl}] "end" [id] ";"
abbrev pub DeclParts : Type 0
DeclParts = List Decl × (Option PrivatePart × ClosingParts)

abbrev pub decl_parts : Reader DeclParts
decl_parts = seq decls (seq optional_private closing)

abbrev pub PackageParts : Type 0
PackageParts = Identifier × (Option SparkMode × (Pos × DeclParts))

-- id mode "is" {decl} ["private" {decl}] "end" [id] ";"
abbrev pub package_parts : Reader PackageParts
package_parts = seq (identifier Apart) (seq mode (seq (word Apart w.KwIs) decl_parts))

abbrev pub make_package : Pos → PackageParts → Package
make_package pos x = record {
  pos = pos;
  name = x.0;
  mode = x.1.0;
  is = x.1.1.0;
  visible = x.1.1.1.0;
  private = x.1.1.1.1.0;
  end = x.1.1.1.1.1.0;
  closing = x.1.1.1.1.1.1.0;
  semicolon = x.1.1.1.1.1.1.1;
}

-- package = "package" id mode "is" {decl} ["private" {decl}] "end" [id] ";", after "package"
unfoldable pub package_behind : Pos → Reader Package
package_behind pos = to (make_package pos) package_parts

-- {decl | subbody} "end" [id] ";"
abbrev pub PackageBodyEnd : Type 0
PackageBodyEnd = List BodyPart × ClosingParts

abbrev pub package_body_end : Reader PackageBodyEnd
package_body_end = seq body_parts closing

abbrev pub PackageBodyParts : Type 0
PackageBodyParts = Pos × (Identifier × (Option SparkMode × (Pos × PackageBodyEnd)))

-- "body" id mode "is" {decl | subbody} "end" [id] ";"
abbrev pub package_body_parts : Reader PackageBodyParts
package_body_parts =
    seq (word Apart w.KwBody) (seq (identifier Apart) (seq mode (seq (word Apart w.KwIs) package_body_end)))

abbrev pub make_package_body : Pos → PackageBodyParts → PackageBody
make_package_body pos x = record {
  pos = pos;
  body = x.0;
  name = x.1.0;
  mode = x.1.1.0;
  is = x.1.1.1.0;
  parts = x.1.1.1.1.0;
  end = x.1.1.1.1.1.0;
  closing = x.1.1.1.1.1.1.0;
  semicolon = x.1.1.1.1.1.1.1;
}

-- packbody = "package" "body" id mode "is" {decl | subbody} "end" [id] ";", after "package"
unfoldable pub package_body_behind : Pos → Reader PackageBody
package_body_behind pos = to (make_package_body pos) package_body_parts

-- ---- units

abbrev pub make_with : Pos × (Dotted × (List NextDotted × Pos)) → Context
make_with x = context_tree.With x.0 x.1.0 x.1.1.0 x.1.1.1

-- context = "with" dotted {"," dotted} ";"
unfoldable pub with_clause : Reader Context
with_clause = to make_with (seq (word Apart w.KwWith) (seq (dotted Apart) (seq next_dotteds semicolon)))

-- context = "with" dotted {"," dotted} ";" | usecl | pragma
unfoldable pub context : Reader Context
context =
    either (of_word w.KwWith ∷ []) with_clause
    (either (of_word w.KwUse ∷ []) (to (λ clause. context_tree.Use clause.pos clause) use_clause)
    (to (λ clause. context_tree.Pragma clause.pos clause) (pragma 0)))

abbrev pub context_first : List ℕ
context_first = of_word w.KwWith ∷ of_word w.KwUse ∷ of_word w.KwPragma ∷ []

-- {context}
abbrev pub contexts : Reader (List Context)
contexts = many context_first context

-- subbody = subspec mode "is" {item} "begin" stmts "end" [id] ";", after the subspec, with no
-- construct open around it
unfoldable pub subprogram_behind : Pos → Subspec → Reader SubprogramBody
subprogram_behind pos spec = chain mode (λ mode. chain (word Apart w.KwIs) (λ is. body_behind 1 pos spec mode is))

-- subbody = subspec mode "is" {item} "begin" stmts "end" [id] ";", with no construct open around it
unfoldable pub subprogram_body : Reader SubprogramBody
subprogram_body =
    either (of_word w.KwProcedure ∷ []) (chain (word Apart w.KwProcedure) (λ pos. chain (procedure_spec 1 pos) (λ spec. subprogram_behind pos spec)))
    (chain (word Apart w.KwFunction) (λ pos. chain (function_spec 1 pos) (λ spec. subprogram_behind pos spec)))

-- unit = {context} (package | packbody), after "package"
unfoldable pub package_unit : Pos → List Context → Pos → Reader SourceUnit
package_unit pos clauses at =
    either (of_word w.KwBody ∷ []) (to (unit_tree.OfBody pos clauses) (package_body_behind at)) (to (unit_tree.OfPackage pos clauses) (package_behind at))

-- unit = {context} (package | packbody | subbody), after the clauses
unfoldable pub unit_behind : Pos → List Context → Reader SourceUnit
unit_behind pos clauses =
    either (of_word w.KwPackage ∷ []) (chain (word Apart w.KwPackage) (λ at. package_unit pos clauses at))
    (to (unit_tree.OfSubprogram pos clauses) subprogram_body)

-- unit = {context} (package | packbody | subbody)
unfoldable pub unit : Reader SourceUnit
unit = chain here (λ pos. chain contexts (λ clauses. unit_behind pos clauses))

abbrev pub unit_first : List ℕ
unit_first =
    of_word w.KwWith ∷ of_word w.KwUse ∷ of_word w.KwPragma ∷ of_word w.KwPackage ∷ of_word w.KwProcedure ∷ of_word w.KwFunction ∷ []

-- unit {unit}
unfoldable pub source : Reader (List SourceUnit)
source = some unit_first unit
