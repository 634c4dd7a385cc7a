-- The tokens that a tree is spelled by, one case for each alternative of the grammar, in its order
-- (docs/LANGUAGE.md, "Grammar").
--
-- Each token carries what it is to the limits. `d` is how many constructs are open around the part:
-- a package opens at "package", a subprogram at "procedure" or "function", a block at "declare" or
-- else at "begin", a loop at "while", "for" or else at "loop", an if at "if", a case at "case", a
-- record at "record", a parenthesis at "(". An instance opens none.
--
-- Expressions, names, ranges and choices are spelled in ExpressionSpelling.antt.
use Rattle.std.specs.Prelude.{ℕ, suc, List, [], ◌∷◌, ◌++◌, Option}
use Rattle.std.specs.List.{flat_map}
use Rattle.spark_base.specs.declared.position.Pos.{Pos}
use Rattle.ada_lexer.specs.declared.token.Reserved.{Reserved}
use Rattle.ada_lexer.specs.declared.token.Reserved.TheVariants as w
use Rattle.ada_lexer.specs.declared.token.Symbol.TheVariants as s
use Rattle.ada_tree.specs.declared.identifier.Identifier.{Identifier}
use Rattle.ada_tree.specs.declared.identifier.NextIdentifier.{NextIdentifier}
use Rattle.ada_tree.specs.declared.identifier.Dotted.{Dotted}
use Rattle.ada_tree.specs.declared.declaration.Component.{Component}
use Rattle.ada_tree.specs.declared.declaration.Component.TheVariants as component
use Rattle.ada_tree.specs.declared.declaration.Indication.{Indication}
use Rattle.ada_tree.specs.declared.declaration.Indication.TheVariants as indication
use Rattle.ada_tree.specs.declared.declaration.Item.{Item}
use Rattle.ada_tree.specs.declared.declaration.Item.TheVariants as item
use Rattle.ada_tree.specs.declared.declaration.UseClause.{UseClause}
use Rattle.ada_tree.specs.declared.declaration.PragmaOn.{PragmaOn}
use Rattle.ada_tree.specs.declared.declaration.PragmaClause.{PragmaClause}
use Rattle.ada_tree.specs.declared.statement.Stmts.{Stmts, Row_of-Stmt, end_of-Stmt, more_of-Stmt}
use Rattle.ada_tree.specs.declared.statement.Stmts.TheVariants as stmts
use Rattle.ada_tree.specs.declared.statement.Stmt.{Stmt, Row_of-Stmts, end_of-Stmts, more_of-Stmts, Row_of-Elsif, end_of-Elsif, more_of-Elsif, Row_of-When, end_of-When, more_of-When}
use Rattle.ada_tree.specs.declared.statement.Stmt.TheVariants as stmt
use Rattle.ada_tree.specs.declared.statement.Elsif.{Elsif}
use Rattle.ada_tree.specs.declared.statement.Elsif.TheVariants as branch
use Rattle.ada_tree.specs.declared.statement.When.{When}
use Rattle.ada_tree.specs.declared.statement.When.TheVariants as alternative
use Rattle.ada_tree.specs.declared.subprogram.ModeOn.{ModeOn}
use Rattle.ada_tree.specs.declared.subprogram.SparkMode.{SparkMode}
use Rattle.ada_tree.specs.declared.subprogram.Subspec.{Subspec}
use Rattle.ada_tree.specs.declared.subprogram.Subspec.TheVariants as subspec
use Rattle.ada_tree.specs.declared.subprogram.Formals.{Formals}
use Rattle.ada_tree.specs.declared.subprogram.NextFormal.{NextFormal}
use Rattle.ada_tree.specs.declared.subprogram.NextFormal.TheVariants as next_formal
use Rattle.ada_tree.specs.declared.subprogram.Formal.{Formal}
use Rattle.ada_tree.specs.declared.subprogram.Formal.TheVariants as formal
use Rattle.ada_tree.specs.declared.subprogram.Decl.{Decl}
use Rattle.ada_tree.specs.declared.subprogram.Decl.TheVariants as decl
use Rattle.ada_tree.specs.declared.unit.SourceUnit.{SourceUnit}
use Rattle.ada_tree.specs.declared.unit.SourceUnit.TheVariants as unit
use Rattle.ada_tree.specs.declared.unit.Context.{Context}
use Rattle.ada_tree.specs.declared.unit.Context.TheVariants as context
use Rattle.ada_tree.specs.declared.unit.Package.{Package}
use Rattle.ada_tree.specs.declared.unit.PrivatePart.{PrivatePart}
use Rattle.ada_tree.specs.declared.unit.PackageBody.{PackageBody}
use Rattle.ada_tree.specs.declared.unit.BodyPart.{BodyPart}
use Rattle.ada_tree.specs.declared.unit.BodyPart.TheVariants as part
use Rattle.ada_tree.specs.declared.unit.SubprogramBody.{SubprogramBody}
use Rattle.token_reading.specs.Spelled.{Spelled, Word, Delimiter}
use Rattle.token_reading.specs.declared.side.Side.TheVariants.{Apart}
use Rattle.token_reading.specs.Weights.{WeighedToken, opens}
use Rattle.token_reading.specs.Sources.{file_of}
pub use Rattle.ada_tree.specs.ExpressionSpelling.{word, symbol, id_mark, optional, optional_word, optional_id}
pub use Rattle.ada_tree.specs.ExpressionSpelling.{constraint_spelling}
unfoldable pub use Rattle.ada_tree.specs.ExpressionSpelling.{next_identifier_spelling, next_part_spelling, dotted_spelling}
unfoldable pub use Rattle.ada_tree.specs.ExpressionSpelling.{next_dotted_spelling, relational_symbol, sign_symbol}
unfoldable pub use Rattle.ada_tree.specs.ExpressionSpelling.{adding_symbol, multiplying_token, name_spelling, suffixes_spelling}
unfoldable pub use Rattle.ada_tree.specs.ExpressionSpelling.{suffix_spelling, arg_box, next_args_spelling, next_arg_spelling}
unfoldable pub use Rattle.ada_tree.specs.ExpressionSpelling.{arg_spelling, expr_box, expr_spelling, operands_spelling}
unfoldable pub use Rattle.ada_tree.specs.ExpressionSpelling.{operand_spelling, short_operands_spelling, short_operand_spelling}
unfoldable pub use Rattle.ada_tree.specs.ExpressionSpelling.{rel_box, rel_spelling, sum_box, sum_spelling, next_terms_spelling}
unfoldable pub use Rattle.ada_tree.specs.ExpressionSpelling.{next_term_spelling, term_spelling, next_factors_spelling}
unfoldable pub use Rattle.ada_tree.specs.ExpressionSpelling.{next_factor_spelling, factor_spelling}
unfoldable pub use Rattle.ada_tree.specs.ExpressionSpelling.{primary_spelling, name_box, aggregate_box, aggregate_spelling}
unfoldable pub use Rattle.ada_tree.specs.ExpressionSpelling.{range_spelling, choice_spelling, next_choice_spelling}

-- ---- items

-- id {"," id} ":"
abbrev pub defining_spelling : Identifier → List NextIdentifier → Pos → List WeighedToken → List WeighedToken
defining_spelling first rest colon behind =
    id_mark Apart first ∷ (flat_map next_identifier_spelling rest ++ (symbol Apart s.Colon colon ∷ behind))

-- anon = "access" ["constant"] mark
abbrev pub anonymous_spelling : Pos → Option Pos → Dotted → List WeighedToken
anonymous_spelling access constant designated =
    word Apart w.KwAccess access ∷ (optional_word w.KwConstant constant ++ dotted_spelling Apart designated)

unfoldable pub indication_spelling : Indication → List WeighedToken
-- mark
indication_spelling (indication.Mark pos mark) = dotted_spelling Apart mark
-- anon
indication_spelling (indication.Anonymous pos constant designated) = anonymous_spelling pos constant designated

-- comp = id {"," id} ":" mark ";"
unfoldable pub component_spelling : Component → List WeighedToken
component_spelling (component.Fields pos first rest colon mark semicolon) =
    defining_spelling first rest colon (dotted_spelling Apart mark ++ (symbol Apart s.Semicolon semicolon ∷ []))

-- usecl = "use" ["type"] dotted {"," dotted} ";"
unfoldable pub use_spelling : UseClause → List WeighedToken
use_spelling clause =
    word Apart w.KwUse clause.pos ∷ (optional_word w.KwType clause.type_word ++ (dotted_spelling Apart clause.first
    ++ (flat_map next_dotted_spelling clause.rest ++ (symbol Apart s.Semicolon clause.semicolon ∷ []))))

-- "(" On ")"
unfoldable pub pragma_on_spelling : ℕ → PragmaOn → List WeighedToken
pragma_on_spelling d argument =
    opens Apart d (Delimiter s.LeftParenthesis argument.pos) ∷ id_mark Apart argument.on
    ∷ symbol Apart s.RightParenthesis argument.right_paren ∷ []

-- pragma = "pragma" SPARK_Mode ["(" On ")"] ";"
unfoldable pub pragma_spelling : ℕ → PragmaClause → List WeighedToken
pragma_spelling d clause =
    word Apart w.KwPragma clause.pos ∷ id_mark Apart clause.name
    ∷ (optional (pragma_on_spelling d) clause.argument ++ (symbol Apart s.Semicolon clause.semicolon ∷ []))

unfoldable pub item_spelling : ℕ → Item → List WeighedToken
-- type = "type" id ";"
item_spelling d (item.IncompleteType pos id semicolon) =
    word Apart w.KwType pos ∷ id_mark Apart id ∷ symbol Apart s.Semicolon semicolon ∷ []
-- type = "type" id "is" "private" ";"
item_spelling d (item.PrivateType pos id is private semicolon) =
    word Apart w.KwType pos ∷ id_mark Apart id ∷ word Apart w.KwIs is ∷ word Apart w.KwPrivate private
    ∷ symbol Apart s.Semicolon semicolon ∷ []
-- type = "type" id "is" "(" id {"," id} ")" ";"
item_spelling d (item.EnumerationType pos id is left_paren first rest right_paren semicolon) =
    word Apart w.KwType pos ∷ id_mark Apart id ∷ word Apart w.KwIs is ∷ opens Apart d (Delimiter s.LeftParenthesis left_paren)
    ∷ id_mark Apart first ∷ (flat_map next_identifier_spelling rest
    ++ (symbol Apart s.RightParenthesis right_paren ∷ symbol Apart s.Semicolon semicolon ∷ []))
-- type = "type" id "is" "record" comp {comp} "end" "record" ";"
item_spelling d (item.RecordType pos id is record_word first rest end end_record semicolon) =
    word Apart w.KwType pos ∷ id_mark Apart id ∷ word Apart w.KwIs is ∷ opens Apart d (Word w.KwRecord record_word)
    ∷ (component_spelling first ++ (flat_map component_spelling rest
    ++ (word Apart w.KwEnd end ∷ word Apart w.KwRecord end_record ∷ symbol Apart s.Semicolon semicolon ∷ [])))
-- type = "type" id "is" "array" "(" range ")" "of" mark ";"
item_spelling d (item.ArrayType pos id is array left_paren index right_paren of_word element semicolon) =
    word Apart w.KwType pos ∷ id_mark Apart id ∷ word Apart w.KwIs is ∷ word Apart w.KwArray array
    ∷ opens Apart d (Delimiter s.LeftParenthesis left_paren) ∷ (range_spelling (suc d) index
    ++ (symbol Apart s.RightParenthesis right_paren ∷ word Apart w.KwOf of_word
    ∷ (dotted_spelling Apart element ++ (symbol Apart s.Semicolon semicolon ∷ []))))
-- type = "type" id "is" "access" mark ";"
item_spelling d (item.AccessType pos id is access designated semicolon) =
    word Apart w.KwType pos ∷ id_mark Apart id ∷ word Apart w.KwIs is ∷ word Apart w.KwAccess access
    ∷ (dotted_spelling Apart designated ++ (symbol Apart s.Semicolon semicolon ∷ []))
-- subtype = "subtype" id "is" mark ";"
item_spelling d (item.Subtype pos id is mark semicolon) =
    word Apart w.KwSubtype pos ∷ id_mark Apart id ∷ word Apart w.KwIs is
    ∷ (dotted_spelling Apart mark ++ (symbol Apart s.Semicolon semicolon ∷ []))
-- subtype = "subtype" id "is" mark "range" expr ".." expr ";"
item_spelling d (item.ConstrainedSubtype pos id is mark of_range low dots high semicolon) =
    word Apart w.KwSubtype pos ∷ id_mark Apart id ∷ word Apart w.KwIs is
    ∷ (dotted_spelling Apart mark ++ (constraint_spelling d of_range low dots high ++ (symbol Apart s.Semicolon semicolon ∷ [])))
-- object = id {"," id} ":" ["constant"] (mark | anon) ";"
item_spelling d (item.Objects pos first rest colon constant indicated semicolon) =
    defining_spelling first rest colon (optional_word w.KwConstant constant
    ++ (indication_spelling indicated ++ (symbol Apart s.Semicolon semicolon ∷ [])))
-- object = id {"," id} ":" ["constant"] (mark | anon) ":=" expr ";"
item_spelling d (item.InitializedObjects pos first rest colon constant indicated becomes value semicolon) =
    defining_spelling first rest colon (optional_word w.KwConstant constant ++ (indication_spelling indicated
    ++ (symbol Apart s.Becomes becomes ∷ (expr_spelling d value ++ (symbol Apart s.Semicolon semicolon ∷ [])))))
-- object = id {"," id} ":" "constant" ":=" expr ";"
item_spelling d (item.Numbers pos first rest colon constant becomes value semicolon) =
    defining_spelling first rest colon (word Apart w.KwConstant constant ∷ symbol Apart s.Becomes becomes
    ∷ (expr_spelling d value ++ (symbol Apart s.Semicolon semicolon ∷ [])))
-- instance = "procedure" id "is" "new" dotted "(" args ")" ";"
item_spelling d (item.Instance pos id is new generic left_paren first rest right_paren semicolon) =
    word Apart w.KwProcedure pos ∷ id_mark Apart id ∷ word Apart w.KwIs is ∷ word Apart w.KwNew new
    ∷ (dotted_spelling Apart generic ++ (opens Apart d (Delimiter s.LeftParenthesis left_paren)
    ∷ (arg_spelling Apart (suc d) first ++ (flat_map (next_arg_spelling Apart (suc d)) rest
    ++ (symbol Apart s.RightParenthesis right_paren ∷ symbol Apart s.Semicolon semicolon ∷ [])))))
-- item = usecl
item_spelling d (item.Use pos clause) = use_spelling clause
-- item = pragma
item_spelling d (item.Pragma pos clause) = pragma_spelling d clause

-- ---- statements

-- "end" "if" ";", and so of the other constructs
abbrev pub end_spelling : Reserved → Pos → Pos → Pos → List WeighedToken
end_spelling v end end_word semicolon =
    word Apart w.KwEnd end ∷ word Apart v end_word ∷ symbol Apart s.Semicolon semicolon ∷ []

unfoldable mutual
  pub stmts_box : {n : _} → ℕ → Row_of-Stmts n → List WeighedToken
  stmts_box d end_of-Stmts = []
  stmts_box d (more_of-Stmts part rest) = stmts_spelling d part

  -- stmts = stmt {stmt}
  pub stmts_spelling : ℕ → Stmts → List WeighedToken
  stmts_spelling d (stmts.Sequence' pos _ first _ rest) = stmt_box d first ++ next_stmts_spelling d rest

  pub stmt_box : {n : _} → ℕ → Row_of-Stmt n → List WeighedToken
  stmt_box d end_of-Stmt = []
  stmt_box d (more_of-Stmt part rest) = stmt_spelling d part

  pub next_stmts_spelling : {n : _} → ℕ → Row_of-Stmt n → List WeighedToken
  next_stmts_spelling d end_of-Stmt = []
  next_stmts_spelling d (more_of-Stmt part rest) = stmt_spelling d part ++ next_stmts_spelling d rest

  pub stmt_spelling : ℕ → Stmt → List WeighedToken
  -- stmt = "null" ";"
  stmt_spelling d (stmt.Null pos semicolon) = word Apart w.KwNull pos ∷ symbol Apart s.Semicolon semicolon ∷ []
  -- stmt = name ":=" expr ";"
  stmt_spelling d (stmt.Assign pos target becomes value semicolon) =
      name_spelling Apart d target ++ (symbol Apart s.Becomes becomes ∷ (expr_spelling d value
      ++ (symbol Apart s.Semicolon semicolon ∷ [])))
  -- stmt = name ";"
  stmt_spelling d (stmt.Call pos called semicolon) = name_spelling Apart d called ++ (symbol Apart s.Semicolon semicolon ∷ [])
  -- stmt = "exit" ";"
  stmt_spelling d (stmt.Exit pos semicolon) = word Apart w.KwExit pos ∷ symbol Apart s.Semicolon semicolon ∷ []
  -- stmt = "exit" "when" expr ";"
  stmt_spelling d (stmt.ExitWhen pos when condition semicolon) =
      word Apart w.KwExit pos ∷ word Apart w.KwWhen when ∷ (expr_spelling d condition ++ (symbol Apart s.Semicolon semicolon ∷ []))
  -- stmt = "return" ";"
  stmt_spelling d (stmt.Return pos semicolon) = word Apart w.KwReturn pos ∷ symbol Apart s.Semicolon semicolon ∷ []
  -- stmt = "return" expr ";"
  stmt_spelling d (stmt.ReturnValue pos value semicolon) =
      word Apart w.KwReturn pos ∷ (expr_spelling d value ++ (symbol Apart s.Semicolon semicolon ∷ []))
  -- stmt = "if" expr "then" stmts {"elsif" expr "then" stmts} "end" "if" ";"
  stmt_spelling d (stmt.If' pos condition then _ body _ elsifs end end_if semicolon) =
      opens Apart d (Word w.KwIf pos) ∷ (expr_spelling (suc d) condition ++ (word Apart w.KwThen then
      ∷ (stmts_box (suc d) body ++ (elsifs_spelling (suc d) elsifs ++ end_spelling w.KwIf end end_if semicolon))))
  -- stmt = "if" expr "then" stmts {"elsif" expr "then" stmts} "else" stmts "end" "if" ";"
  stmt_spelling d (stmt.IfElse' pos condition then _ body _ elsifs otherwise _ otherwise_body end end_if semicolon) =
      opens Apart d (Word w.KwIf pos) ∷ (expr_spelling (suc d) condition ++ (word Apart w.KwThen then
      ∷ (stmts_box (suc d) body ++ (elsifs_spelling (suc d) elsifs ++ (word Apart w.KwElse otherwise
      ∷ (stmts_box (suc d) otherwise_body ++ end_spelling w.KwIf end end_if semicolon))))))
  -- stmt = "case" expr "is" when {when} "end" "case" ";"
  stmt_spelling d (stmt.Case' pos selector is _ first _ rest end end_case semicolon) =
      opens Apart d (Word w.KwCase pos) ∷ (expr_spelling (suc d) selector ++ (word Apart w.KwIs is
      ∷ (when_box (suc d) first ++ (next_whens_spelling (suc d) rest ++ end_spelling w.KwCase end end_case semicolon))))
  -- stmt = "loop" stmts "end" "loop" ";"
  stmt_spelling d (stmt.Loop' pos _ body end end_loop semicolon) =
      opens Apart d (Word w.KwLoop pos) ∷ (stmts_box (suc d) body ++ end_spelling w.KwLoop end end_loop semicolon)
  -- stmt = "while" expr "loop" stmts "end" "loop" ";"
  stmt_spelling d (stmt.While' pos condition loop_word _ body end end_loop semicolon) =
      opens Apart d (Word w.KwWhile pos) ∷ (expr_spelling (suc d) condition ++ (word Apart w.KwLoop loop_word
      ∷ (stmts_box (suc d) body ++ end_spelling w.KwLoop end end_loop semicolon)))
  -- stmt = "for" id "in" ["reverse"] range "loop" stmts "end" "loop" ";"
  stmt_spelling d (stmt.For' pos parameter in_word reverse over loop_word _ body end end_loop semicolon) =
      opens Apart d (Word w.KwFor pos) ∷ id_mark Apart parameter ∷ word Apart w.KwIn in_word
      ∷ (optional_word w.KwReverse reverse ++ (range_spelling (suc d) over ++ (word Apart w.KwLoop loop_word
      ∷ (stmts_box (suc d) body ++ end_spelling w.KwLoop end end_loop semicolon))))
  -- stmt = "begin" stmts "end" ";"
  stmt_spelling d (stmt.Block' pos _ body end semicolon) =
      opens Apart d (Word w.KwBegin pos) ∷ (stmts_box (suc d) body
      ++ (word Apart w.KwEnd end ∷ symbol Apart s.Semicolon semicolon ∷ []))
  -- stmt = "declare" {item} "begin" stmts "end" ";"
  stmt_spelling d (stmt.DeclareBlock' pos items begin _ body end semicolon) =
      opens Apart d (Word w.KwDeclare pos) ∷ (flat_map (item_spelling (suc d)) items ++ (word Apart w.KwBegin begin
      ∷ (stmts_box (suc d) body ++ (word Apart w.KwEnd end ∷ symbol Apart s.Semicolon semicolon ∷ []))))

  pub elsifs_spelling : {n : _} → ℕ → Row_of-Elsif n → List WeighedToken
  elsifs_spelling d end_of-Elsif = []
  elsifs_spelling d (more_of-Elsif part rest) = elsif_spelling d part ++ elsifs_spelling d rest

  -- "elsif" expr "then" stmts
  pub elsif_spelling : ℕ → Elsif → List WeighedToken
  elsif_spelling d (branch.Branch' pos condition then _ body) =
      word Apart w.KwElsif pos ∷ (expr_spelling d condition ++ (word Apart w.KwThen then ∷ stmts_box d body))

  pub when_box : {n : _} → ℕ → Row_of-When n → List WeighedToken
  when_box d end_of-When = []
  when_box d (more_of-When part rest) = when_spelling d part

  pub next_whens_spelling : {n : _} → ℕ → Row_of-When n → List WeighedToken
  next_whens_spelling d end_of-When = []
  next_whens_spelling d (more_of-When part rest) = when_spelling d part ++ next_whens_spelling d rest

  -- when = "when" choice {"|" choice} "=>" stmts
  pub when_spelling : ℕ → When → List WeighedToken
  when_spelling d (alternative.Alternative' pos first rest arrow _ body) =
      word Apart w.KwWhen pos ∷ (choice_spelling d first ++ (flat_map (next_choice_spelling d) rest
      ++ (symbol Apart s.Arrow arrow ∷ stmts_box d body)))

-- ---- subprograms and declarations

-- "=>" On
unfoldable pub mode_on_spelling : ModeOn → List WeighedToken
mode_on_spelling value = symbol Apart s.Arrow value.pos ∷ id_mark Apart value.on ∷ []

-- mode = ["with" SPARK_Mode ["=>" On]], where it isn't empty
unfoldable pub mode_spelling : SparkMode → List WeighedToken
mode_spelling mode = word Apart w.KwWith mode.pos ∷ id_mark Apart mode.name ∷ optional mode_on_spelling mode.value

unfoldable pub formal_spelling : Formal → List WeighedToken
-- formal = id {"," id} ":" ["in"] ["out"] mark
formal_spelling (formal.Moded pos first rest colon in_word out_word mark) =
    defining_spelling first rest colon
    (optional_word w.KwIn in_word ++ (optional_word w.KwOut out_word ++ dotted_spelling Apart mark))
-- formal = id {"," id} ":" anon
formal_spelling (formal.Anonymous pos first rest colon access constant designated) =
    defining_spelling first rest colon (anonymous_spelling access constant designated)

-- ";" formal
unfoldable pub next_formal_spelling : NextFormal → List WeighedToken
next_formal_spelling (next_formal.Semicolon pos declared) = symbol Apart s.Semicolon pos ∷ formal_spelling declared

-- formals = "(" formal {";" formal} ")"
unfoldable pub formals_spelling : ℕ → Formals → List WeighedToken
formals_spelling d formals =
    opens Apart d (Delimiter s.LeftParenthesis formals.pos) ∷ (formal_spelling formals.first
    ++ (flat_map next_formal_spelling formals.rest ++ (symbol Apart s.RightParenthesis formals.right_paren ∷ [])))

unfoldable pub subspec_spelling : ℕ → Subspec → List WeighedToken
-- subspec = "procedure" id [formals]
subspec_spelling d (subspec.Procedure pos id formals) =
    opens Apart d (Word w.KwProcedure pos) ∷ id_mark Apart id ∷ optional (formals_spelling (suc d)) formals
-- subspec = "function" id [formals] "return" (mark | anon)
subspec_spelling d (subspec.Function pos id formals return_word result) =
    opens Apart d (Word w.KwFunction pos) ∷ id_mark Apart id ∷ (optional (formals_spelling (suc d)) formals
    ++ (word Apart w.KwReturn return_word ∷ indication_spelling result))

unfoldable pub decl_spelling : ℕ → Decl → List WeighedToken
-- decl = item
decl_spelling d (decl.OfItem pos declared) = item_spelling d declared
-- decl = subspec mode ";"
decl_spelling d (decl.Subprogram pos spec mode semicolon) =
    subspec_spelling d spec ++ (optional mode_spelling mode ++ (symbol Apart s.Semicolon semicolon ∷ []))

-- ---- units

-- subbody = subspec mode "is" {item} "begin" stmts "end" [id] ";"
unfoldable pub subprogram_spelling : ℕ → SubprogramBody → List WeighedToken
subprogram_spelling d body =
    subspec_spelling d body.spec ++ (optional mode_spelling body.mode ++ (word Apart w.KwIs body.is
    ∷ (flat_map (item_spelling (suc d)) body.items ++ (word Apart w.KwBegin body.begin ∷ (stmts_spelling (suc d) body.stmts
    ++ (word Apart w.KwEnd body.end ∷ (optional_id body.closing ++ (symbol Apart s.Semicolon body.semicolon ∷ []))))))))

unfoldable pub body_part_spelling : ℕ → BodyPart → List WeighedToken
-- decl
body_part_spelling d (part.Declared pos declared) = decl_spelling d declared
-- subbody
body_part_spelling d (part.Completed pos body) = subprogram_spelling d body

-- "private" {decl}
unfoldable pub private_spelling : ℕ → PrivatePart → List WeighedToken
private_spelling d private = word Apart w.KwPrivate private.pos ∷ flat_map (decl_spelling d) private.decls

-- package = "package" id mode "is" {decl} ["private" {decl}] "end" [id] ";"
unfoldable pub package_spelling : ℕ → Package → List WeighedToken
package_spelling d whole =
    opens Apart d (Word w.KwPackage whole.pos) ∷ id_mark Apart whole.name ∷ (optional mode_spelling whole.mode
    ++ (word Apart w.KwIs whole.is ∷ (flat_map (decl_spelling (suc d)) whole.visible
    ++ (optional (private_spelling (suc d)) whole.private ++ (word Apart w.KwEnd whole.end
    ∷ (optional_id whole.closing ++ (symbol Apart s.Semicolon whole.semicolon ∷ [])))))))

-- packbody = "package" "body" id mode "is" {decl | subbody} "end" [id] ";"
unfoldable pub package_body_spelling : ℕ → PackageBody → List WeighedToken
package_body_spelling d whole =
    opens Apart d (Word w.KwPackage whole.pos) ∷ word Apart w.KwBody whole.body ∷ id_mark Apart whole.name
    ∷ (optional mode_spelling whole.mode ++ (word Apart w.KwIs whole.is ∷ (flat_map (body_part_spelling (suc d)) whole.parts
    ++ (word Apart w.KwEnd whole.end ∷ (optional_id whole.closing ++ (symbol Apart s.Semicolon whole.semicolon ∷ []))))))

unfoldable pub context_spelling : Context → List WeighedToken
-- context = "with" dotted {"," dotted} ";"
context_spelling (context.With pos first rest semicolon) =
    word Apart w.KwWith pos ∷ (dotted_spelling Apart first
    ++ (flat_map next_dotted_spelling rest ++ (symbol Apart s.Semicolon semicolon ∷ [])))
-- context = usecl
context_spelling (context.Use pos clause) = use_spelling clause
-- context = pragma
context_spelling (context.Pragma pos clause) = pragma_spelling 0 clause

unfoldable pub unit_spelling : SourceUnit → List WeighedToken
-- unit = {context} package
unit_spelling (unit.OfPackage pos clauses whole) = flat_map context_spelling clauses ++ package_spelling 0 whole
-- unit = {context} packbody
unit_spelling (unit.OfBody pos clauses body) = flat_map context_spelling clauses ++ package_body_spelling 0 body
-- unit = {context} subbody
unit_spelling (unit.OfSubprogram pos clauses body) = flat_map context_spelling clauses ++ subprogram_spelling 0 body

-- unit {unit}
abbrev pub source_spelling : List SourceUnit → List WeighedToken
source_spelling units = flat_map unit_spelling units

-- source = unit {unit} EndOfFile: the tokens that the units of a file are spelled by.
abbrev pub Spelling : List SourceUnit → List Spelled
Spelling units = file_of (source_spelling units)
