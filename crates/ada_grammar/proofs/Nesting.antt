-- The tokens of each source are nested: each construct has a token that closes it and counts by how
-- many are open around it, and each operator counts as one. At the end, some tokens that aren't
-- nested.
use Rattle.std.proofs.Common.{◌≡◌, refl, sym, ◌∙◌, ℕ, suc, List, [], ◌∷◌, ◌++◌, arith}
use Rattle.std.specs.Prelude.{Option, Bool, true, false}
use Rattle.std.proofs.lemmas.Bool.{true≢false, false≢true}
use lib.Dec.{leb}
use Rattle.spark_base.specs.declared.limits.TheConstants.{NESTING}
use Rattle.ada_lexer.specs.declared.token.Reserved.TheVariants as w
use Rattle.ada_lexer.specs.declared.token.Symbol.TheVariants as s
use Rattle.spark_base.specs.declared.position.Pos.{Pos}
use Rattle.ada_lexer.specs.declared.token.Reserved.{Reserved}
use Rattle.ada_tree.specs.declared.identifier.Identifier.{Identifier}
use Rattle.ada_tree.specs.declared.identifier.NextIdentifier.{NextIdentifier}
use Rattle.ada_tree.specs.declared.identifier.Dotted.{Dotted}
use Rattle.ada_tree.specs.declared.declaration.Component.{Component}
use Rattle.ada_tree.specs.declared.declaration.Component.TheVariants as component
use Rattle.ada_tree.specs.declared.declaration.Indication.{Indication}
use Rattle.ada_tree.specs.declared.declaration.Indication.TheVariants as indication
use Rattle.ada_tree.specs.declared.declaration.Item.{Item}
use Rattle.ada_tree.specs.declared.declaration.Item.TheVariants as item
use Rattle.ada_tree.specs.declared.declaration.UseClause.{UseClause}
use Rattle.ada_tree.specs.declared.declaration.PragmaOn.{PragmaOn}
use Rattle.ada_tree.specs.declared.declaration.PragmaClause.{PragmaClause}
use Rattle.ada_tree.specs.declared.statement.Stmts.{Stmts, Row_of-Stmt, end_of-Stmt, more_of-Stmt}
use Rattle.ada_tree.specs.declared.statement.Stmts.TheVariants as stmts
use Rattle.ada_tree.specs.declared.statement.Stmt.{Stmt, Row_of-Stmts, end_of-Stmts, more_of-Stmts, Row_of-Elsif, end_of-Elsif, more_of-Elsif, Row_of-When, end_of-When, more_of-When}
use Rattle.ada_tree.specs.declared.statement.Stmt.TheVariants as stmt
use Rattle.ada_tree.specs.declared.statement.Elsif.{Elsif}
use Rattle.ada_tree.specs.declared.statement.Elsif.TheVariants as branch
use Rattle.ada_tree.specs.declared.statement.When.{When}
use Rattle.ada_tree.specs.declared.statement.When.TheVariants as alternative
use Rattle.ada_tree.specs.declared.subprogram.ModeOn.{ModeOn}
use Rattle.ada_tree.specs.declared.subprogram.SparkMode.{SparkMode}
use Rattle.ada_tree.specs.declared.subprogram.Subspec.{Subspec}
use Rattle.ada_tree.specs.declared.subprogram.Subspec.TheVariants as subspec
use Rattle.ada_tree.specs.declared.subprogram.Formals.{Formals}
use Rattle.ada_tree.specs.declared.subprogram.NextFormal.{NextFormal}
use Rattle.ada_tree.specs.declared.subprogram.NextFormal.TheVariants as next_formal
use Rattle.ada_tree.specs.declared.subprogram.Formal.{Formal}
use Rattle.ada_tree.specs.declared.subprogram.Formal.TheVariants as formal
use Rattle.ada_tree.specs.declared.subprogram.Decl.{Decl}
use Rattle.ada_tree.specs.declared.subprogram.Decl.TheVariants as decl
use Rattle.ada_tree.specs.declared.unit.SourceUnit.{SourceUnit}
use Rattle.ada_tree.specs.declared.unit.SourceUnit.TheVariants as unit
use Rattle.ada_tree.specs.declared.unit.Context.{Context}
use Rattle.ada_tree.specs.declared.unit.Context.TheVariants as context
use Rattle.ada_tree.specs.declared.unit.Package.{Package}
use Rattle.ada_tree.specs.declared.unit.PrivatePart.{PrivatePart}
use Rattle.ada_tree.specs.declared.unit.PackageBody.{PackageBody}
use Rattle.ada_tree.specs.declared.unit.BodyPart.{BodyPart}
use Rattle.ada_tree.specs.declared.unit.BodyPart.TheVariants as part
use Rattle.ada_tree.specs.declared.unit.SubprogramBody.{SubprogramBody}
use Rattle.token_reading.specs.Spelled.{Spelled, Word, Delimiter}
use Rattle.token_reading.specs.declared.side.Side.{Side}
use Rattle.token_reading.specs.declared.side.Side.TheVariants.{Apart, Within}
use Rattle.token_reading.specs.Weights.{WeighedToken, plain, opens, operates}
use Rattle.token_reading.specs.Weights as of_side
use Rattle.ada_grammar.specs.Nesting.{is_operator, always_closes, always_opens, closes, Nested, nothing, rests, operates_one, encloses}
use Rattle.ada_tree.specs.Spelling.{anonymous_spelling, body_part_spelling, component_spelling, context_spelling, decl_spelling, defining_spelling, elsif_spelling, elsifs_spelling, end_spelling, formal_spelling, formals_spelling, indication_spelling, item_spelling, mode_spelling, mode_on_spelling, next_formal_spelling, next_stmts_spelling, next_whens_spelling, package_body_spelling, package_spelling, pragma_spelling, pragma_on_spelling, private_spelling, source_spelling, stmt_box, stmt_spelling, stmts_box, stmts_spelling, subprogram_spelling, subspec_spelling, unit_spelling, use_spelling, when_box, when_spelling}
use Rattle.ada_grammar.proofs.ExpressionNesting.{Nest, Inside, never_rests, ended, at_rest, at_opener, joined, closed, inside_rest, inside_joined, arg_nested, choice_nested, constraint_nested, dotted_nested, each_nested, expr_nested, name_nested, next_arg_nested, next_choice_nested, next_dotted_nested, next_identifier_nested, optional_nested, optional_id_nested, optional_word_nested, range_nested}

-- ---- items

defining_nested : {d : ℕ} (first : Identifier) (rest : List NextIdentifier) (colon : Pos) {behind : List WeighedToken} → Nest d behind
    → Nest d (defining_spelling first rest colon behind)
defining_nested first rest colon behind =
    at_rest Apart refl (joined (each_nested next_identifier_nested rest) (at_rest Apart refl behind))

anonymous_nested : {d : ℕ} (access : Pos) (constant : Option Pos) (designated : Dotted)
    → Nest d (anonymous_spelling access constant designated)
anonymous_nested access constant designated =
    at_rest Apart refl (joined (optional_word_nested w.KwConstant (λ pos. refl) constant) (dotted_nested Apart designated))

indication_nested : {d : ℕ} (tree : Indication) → Nest d (indication_spelling tree)
unfolding indication_spelling
indication_nested (indication.Mark pos mark) = dotted_nested Apart mark
indication_nested (indication.Anonymous pos constant designated) = anonymous_nested pos constant designated

component_nested : {d : ℕ} (tree : Component) → Nest d (component_spelling tree)
unfolding component_spelling
component_nested (component.Fields pos first rest colon mark semicolon) =
    defining_nested first rest colon (joined (dotted_nested Apart mark) (at_rest Apart refl ended))

use_nested : {d : ℕ} (tree : UseClause) → Nest d (use_spelling tree)
unfolding use_spelling
use_nested clause =
    at_rest Apart refl (joined (optional_word_nested w.KwType (λ pos. refl) clause.type_word) (joined
    (dotted_nested Apart clause.first) (joined (each_nested next_dotted_nested clause.rest) (at_rest Apart refl ended))))

pragma_on_nested : (d : ℕ) (tree : PragmaOn) → Nest d (pragma_on_spelling d tree)
unfolding pragma_on_spelling
pragma_on_nested d argument = at_opener Apart (inside_rest Apart refl (closed Apart refl ended))

pragma_nested : (d : ℕ) (tree : PragmaClause) → Nest d (pragma_spelling d tree)
unfolding pragma_spelling
pragma_nested d clause =
    at_rest Apart refl (at_rest Apart refl (joined (optional_nested (pragma_on_nested d) clause.argument)
    (at_rest Apart refl ended)))

item_nested : (d : ℕ) (tree : Item) → Nest d (item_spelling d tree)
unfolding item_spelling
item_nested d (item.IncompleteType pos id semicolon) = at_rest Apart refl (at_rest Apart refl (at_rest Apart refl ended))
item_nested d (item.PrivateType pos id is private semicolon) =
    at_rest Apart refl (at_rest Apart refl (at_rest Apart refl (at_rest Apart refl (at_rest Apart refl ended))))
item_nested d (item.EnumerationType pos id is left_paren first rest right_paren semicolon) =
    at_rest Apart refl (at_rest Apart refl (at_rest Apart refl (at_opener Apart (inside_rest Apart refl (inside_joined
    (each_nested next_identifier_nested rest) (closed Apart refl (at_rest Apart refl ended)))))))
item_nested d (item.RecordType pos id is record_word first rest end end_record semicolon) =
    at_rest Apart refl (at_rest Apart refl (at_rest Apart refl (at_opener Apart (inside_joined (component_nested first)
    (inside_joined (each_nested component_nested rest) (closed Apart refl (at_rest Apart refl (at_rest Apart refl ended))))))))
item_nested d (item.ArrayType pos id is array left_paren index right_paren of_word element semicolon) =
    at_rest Apart refl (at_rest Apart refl (at_rest Apart refl (at_rest Apart refl (at_opener Apart (inside_joined
    (range_nested (suc d) index) (closed Apart refl (at_rest Apart refl (joined (dotted_nested Apart element)
    (at_rest Apart refl ended)))))))))
item_nested d (item.AccessType pos id is access designated semicolon) =
    at_rest Apart refl (at_rest Apart refl (at_rest Apart refl (at_rest Apart refl (joined (dotted_nested Apart designated)
    (at_rest Apart refl ended)))))
item_nested d (item.Subtype pos id is mark semicolon) =
    at_rest Apart refl (at_rest Apart refl (at_rest Apart refl (joined (dotted_nested Apart mark) (at_rest Apart refl ended))))
item_nested d (item.ConstrainedSubtype pos id is mark of_range low dots high semicolon) =
    at_rest Apart refl (at_rest Apart refl (at_rest Apart refl (joined (dotted_nested Apart mark) (joined
    (constraint_nested d of_range low dots high) (at_rest Apart refl ended)))))
item_nested d (item.Objects pos first rest colon constant indicated semicolon) =
    defining_nested first rest colon (joined (optional_word_nested w.KwConstant (λ pos. refl) constant) (joined
    (indication_nested indicated) (at_rest Apart refl ended)))
item_nested d (item.InitializedObjects pos first rest colon constant indicated becomes value semicolon) =
    defining_nested first rest colon (joined (optional_word_nested w.KwConstant (λ pos. refl) constant) (joined
    (indication_nested indicated) (at_rest Apart refl (joined (expr_nested d value) (at_rest Apart refl ended)))))
item_nested d (item.Numbers pos first rest colon constant becomes value semicolon) =
    defining_nested first rest colon (at_rest Apart refl (at_rest Apart refl (joined (expr_nested d value)
    (at_rest Apart refl ended))))
item_nested d (item.Instance pos id is new generic left_paren first rest right_paren semicolon) =
    at_rest Apart refl (at_rest Apart refl (at_rest Apart refl (at_rest Apart refl (joined (dotted_nested Apart generic)
    (at_opener Apart (inside_joined (arg_nested Apart (suc d) first) (inside_joined (each_nested (next_arg_nested Apart
    (suc d)) rest) (closed Apart refl (at_rest Apart refl ended)))))))))
item_nested d (item.Use pos clause) = use_nested clause
item_nested d (item.Pragma pos clause) = pragma_nested d clause

-- ---- statements

end_nested : {t : Spelled} {d : ℕ} {v : Reserved} (end end_word semicolon : Pos) → closes t (Word w.KwEnd end) ≡ true
    → never_rests (Word v end_word) ≡ false → Inside t d (end_spelling v end end_word semicolon)
end_nested end end_word semicolon closing is = closed Apart closing (at_rest Apart is (at_rest Apart refl ended))

mutual
  unfolding stmts_box

  stmts_box_nested : {n : _} (d : ℕ) (row : Row_of-Stmts n) → Nest d (stmts_box d row)
  stmts_box_nested d end_of-Stmts = ended
  stmts_box_nested d (more_of-Stmts part rest) = stmts_nested d part

  stmts_nested : (d : ℕ) (tree : Stmts) → Nest d (stmts_spelling d tree)
  stmts_nested d (stmts.Sequence' pos _ first _ rest) = joined (stmt_box_nested d first) (next_stmts_nested d rest)

  stmt_box_nested : {n : _} (d : ℕ) (row : Row_of-Stmt n) → Nest d (stmt_box d row)
  stmt_box_nested d end_of-Stmt = ended
  stmt_box_nested d (more_of-Stmt part rest) = stmt_nested d part

  next_stmts_nested : {n : _} (d : ℕ) (row : Row_of-Stmt n) → Nest d (next_stmts_spelling d row)
  next_stmts_nested d end_of-Stmt = ended
  next_stmts_nested d (more_of-Stmt part rest) = joined (stmt_nested d part) (next_stmts_nested d rest)

  stmt_nested : (d : ℕ) (tree : Stmt) → Nest d (stmt_spelling d tree)
  stmt_nested d (stmt.Null pos semicolon) = at_rest Apart refl (at_rest Apart refl ended)
  stmt_nested d (stmt.Assign pos target becomes value semicolon) =
      joined (name_nested Apart d target) (at_rest Apart refl (joined (expr_nested d value) (at_rest Apart refl ended)))
  stmt_nested d (stmt.Call pos called semicolon) = joined (name_nested Apart d called) (at_rest Apart refl ended)
  stmt_nested d (stmt.Exit pos semicolon) = at_rest Apart refl (at_rest Apart refl ended)
  stmt_nested d (stmt.ExitWhen pos when condition semicolon) =
      at_rest Apart refl (at_rest Apart refl (joined (expr_nested d condition) (at_rest Apart refl ended)))
  stmt_nested d (stmt.Return pos semicolon) = at_rest Apart refl (at_rest Apart refl ended)
  stmt_nested d (stmt.ReturnValue pos value semicolon) =
      at_rest Apart refl (joined (expr_nested d value) (at_rest Apart refl ended))
  stmt_nested d (stmt.If' pos condition then _ body _ elsifs end end_if semicolon) =
      at_opener Apart (inside_joined (expr_nested (suc d) condition) (inside_rest Apart refl (inside_joined (stmts_box_nested
      (suc d) body) (inside_joined (elsifs_nested (suc d) elsifs) (end_nested end end_if semicolon refl refl)))))
  stmt_nested d (stmt.IfElse' pos condition then _ body _ elsifs otherwise _ otherwise_body end end_if semicolon) =
      at_opener Apart (inside_joined (expr_nested (suc d) condition) (inside_rest Apart refl (inside_joined (stmts_box_nested
      (suc d) body) (inside_joined (elsifs_nested (suc d) elsifs) (inside_rest Apart refl (inside_joined
      (stmts_box_nested (suc d) otherwise_body) (end_nested end end_if semicolon refl refl)))))))
  stmt_nested d (stmt.Case' pos selector is _ first _ rest end end_case semicolon) =
      at_opener Apart (inside_joined (expr_nested (suc d) selector) (inside_rest Apart refl (inside_joined (when_box_nested
      (suc d) first) (inside_joined (next_whens_nested (suc d) rest) (end_nested end end_case semicolon refl refl)))))
  stmt_nested d (stmt.Loop' pos _ body end end_loop semicolon) =
      at_opener Apart (inside_joined (stmts_box_nested (suc d) body) (end_nested end end_loop semicolon refl refl))
  stmt_nested d (stmt.While' pos condition loop_word _ body end end_loop semicolon) =
      at_opener Apart (inside_joined (expr_nested (suc d) condition) (inside_rest Apart refl (inside_joined (stmts_box_nested
      (suc d) body) (end_nested end end_loop semicolon refl refl))))
  stmt_nested d (stmt.For' pos parameter in_word reverse over loop_word _ body end end_loop semicolon) =
      at_opener Apart (inside_rest Apart refl (inside_rest Apart refl (inside_joined
      (optional_word_nested w.KwReverse (λ pos. refl) reverse) (inside_joined (range_nested (suc d) over)
      (inside_rest Apart refl (inside_joined (stmts_box_nested (suc d) body) (end_nested end end_loop semicolon refl refl)))))))
  stmt_nested d (stmt.Block' pos _ body end semicolon) =
      at_opener Apart (inside_joined (stmts_box_nested (suc d) body) (closed Apart refl (at_rest Apart refl ended)))
  stmt_nested d (stmt.DeclareBlock' pos items begin _ body end semicolon) =
      at_opener Apart (inside_joined (each_nested (item_nested (suc d)) items) (inside_rest Apart refl (inside_joined
      (stmts_box_nested (suc d) body) (closed Apart refl (at_rest Apart refl ended)))))

  elsifs_nested : {n : _} (d : ℕ) (row : Row_of-Elsif n) → Nest d (elsifs_spelling d row)
  elsifs_nested d end_of-Elsif = ended
  elsifs_nested d (more_of-Elsif part rest) = joined (elsif_nested d part) (elsifs_nested d rest)

  elsif_nested : (d : ℕ) (tree : Elsif) → Nest d (elsif_spelling d tree)
  elsif_nested d (branch.Branch' pos condition then _ body) =
      at_rest Apart refl (joined (expr_nested d condition) (at_rest Apart refl (stmts_box_nested d body)))

  when_box_nested : {n : _} (d : ℕ) (row : Row_of-When n) → Nest d (when_box d row)
  when_box_nested d end_of-When = ended
  when_box_nested d (more_of-When part rest) = when_nested d part

  next_whens_nested : {n : _} (d : ℕ) (row : Row_of-When n) → Nest d (next_whens_spelling d row)
  next_whens_nested d end_of-When = ended
  next_whens_nested d (more_of-When part rest) = joined (when_nested d part) (next_whens_nested d rest)

  when_nested : (d : ℕ) (tree : When) → Nest d (when_spelling d tree)
  when_nested d (alternative.Alternative' pos first rest arrow _ body) =
      at_rest Apart refl (joined (choice_nested d first) (joined (each_nested (next_choice_nested d) rest) (at_rest Apart refl
      (stmts_box_nested d body))))

-- ---- subprograms and declarations

mode_on_nested : {d : ℕ} (tree : ModeOn) → Nest d (mode_on_spelling tree)
unfolding mode_on_spelling
mode_on_nested value = at_rest Apart refl (at_rest Apart refl ended)

mode_nested : {d : ℕ} (tree : SparkMode) → Nest d (mode_spelling tree)
unfolding mode_spelling
mode_nested mode = at_rest Apart refl (at_rest Apart refl (optional_nested mode_on_nested mode.value))

formal_nested : {d : ℕ} (tree : Formal) → Nest d (formal_spelling tree)
unfolding formal_spelling
formal_nested (formal.Moded pos first rest colon in_word out_word mark) =
    defining_nested first rest colon (joined (optional_word_nested w.KwIn (λ pos. refl) in_word) (joined
    (optional_word_nested w.KwOut (λ pos. refl) out_word) (dotted_nested Apart mark)))
formal_nested (formal.Anonymous pos first rest colon access constant designated) =
    defining_nested first rest colon (anonymous_nested access constant designated)

next_formal_nested : {d : ℕ} (tree : NextFormal) → Nest d (next_formal_spelling tree)
unfolding next_formal_spelling
next_formal_nested (next_formal.Semicolon pos declared) = at_rest Apart refl (formal_nested declared)

formals_nested : (d : ℕ) (tree : Formals) → Nest d (formals_spelling d tree)
unfolding formals_spelling
formals_nested d formals =
    at_opener Apart (inside_joined (formal_nested formals.first) (inside_joined (each_nested next_formal_nested formals.rest)
    (closed Apart refl ended)))

-- The token that opens the subprogram.
abbrev subspec_opener : Subspec → Spelled
subspec_opener (subspec.Procedure pos id formals) = Word w.KwProcedure pos
subspec_opener (subspec.Function pos id formals return_word result) = Word w.KwFunction pos

closed_by_end : (tree : Subspec) (end : Pos) → closes (subspec_opener tree) (Word w.KwEnd end) ≡ true
closed_by_end (subspec.Procedure pos id formals) end = refl
closed_by_end (subspec.Function pos id formals return_word result) end = refl

closed_by_semicolon : (tree : Subspec) (end : Pos) → closes (subspec_opener tree) (Delimiter s.Semicolon end) ≡ true
closed_by_semicolon (subspec.Procedure pos id formals) end = refl
closed_by_semicolon (subspec.Function pos id formals return_word result) end = refl

-- A subprogram reaches to its body's "end", or else to the ";" after it.
subspec_nested : (d : ℕ) (tree : Subspec) {tail : List WeighedToken} → Inside (subspec_opener tree) d tail
    → Nest d (subspec_spelling d tree ++ tail)
unfolding subspec_spelling
subspec_nested d (subspec.Procedure pos id formals) tail =
    at_opener Apart (inside_rest Apart refl (inside_joined (optional_nested (formals_nested (suc d)) formals) tail))
subspec_nested d (subspec.Function pos id formals return_word result) tail =
    at_opener Apart (inside_rest Apart refl (inside_joined (joined (optional_nested (formals_nested (suc d)) formals)
    (at_rest Apart refl (indication_nested result))) tail))

decl_nested : (d : ℕ) (tree : Decl) → Nest d (decl_spelling d tree)
unfolding decl_spelling
decl_nested d (decl.OfItem pos declared) = item_nested d declared
decl_nested d (decl.Subprogram pos spec mode semicolon) =
    subspec_nested d spec (inside_joined (optional_nested mode_nested mode)
    (closed Apart (closed_by_semicolon spec semicolon) ended))

-- ---- units

subprogram_nested : (d : ℕ) (tree : SubprogramBody) → Nest d (subprogram_spelling d tree)
unfolding subprogram_spelling
subprogram_nested d body =
    subspec_nested d body.spec (inside_joined (optional_nested mode_nested body.mode) (inside_rest Apart refl (inside_joined
    (each_nested (item_nested (suc d)) body.items) (inside_rest Apart refl (inside_joined (stmts_nested (suc d) body.stmts)
    (closed Apart (closed_by_end body.spec body.end) (joined (optional_id_nested body.closing) (at_rest Apart refl ended))))))))

body_part_nested : (d : ℕ) (tree : BodyPart) → Nest d (body_part_spelling d tree)
unfolding body_part_spelling
body_part_nested d (part.Declared pos declared) = decl_nested d declared
body_part_nested d (part.Completed pos body) = subprogram_nested d body

private_nested : (d : ℕ) (tree : PrivatePart) → Nest d (private_spelling d tree)
unfolding private_spelling
private_nested d private = at_rest Apart refl (each_nested (decl_nested d) private.decls)

package_nested : (d : ℕ) (tree : Package) → Nest d (package_spelling d tree)
unfolding package_spelling
package_nested d whole =
    at_opener Apart (inside_rest Apart refl (inside_joined (optional_nested mode_nested whole.mode)
    (inside_rest Apart refl (inside_joined (each_nested (decl_nested (suc d)) whole.visible) (inside_joined
    (optional_nested (private_nested (suc d)) whole.private) (closed Apart refl (joined (optional_id_nested whole.closing)
    (at_rest Apart refl ended))))))))

package_body_nested : (d : ℕ) (tree : PackageBody) → Nest d (package_body_spelling d tree)
unfolding package_body_spelling
package_body_nested d whole =
    at_opener Apart (inside_rest Apart refl (inside_rest Apart refl (inside_joined (optional_nested mode_nested whole.mode)
    (inside_rest Apart refl (inside_joined (each_nested (body_part_nested (suc d)) whole.parts) (closed Apart refl (joined
    (optional_id_nested whole.closing) (at_rest Apart refl ended))))))))

context_nested : (tree : Context) → Nest 0 (context_spelling tree)
unfolding context_spelling
context_nested (context.With pos first rest semicolon) =
    at_rest Apart refl (joined (dotted_nested Apart first) (joined (each_nested next_dotted_nested rest)
    (at_rest Apart refl ended)))
context_nested (context.Use pos clause) = use_nested clause
context_nested (context.Pragma pos clause) = pragma_nested 0 clause

unit_nested : (tree : SourceUnit) → Nest 0 (unit_spelling tree)
unfolding unit_spelling
unit_nested (unit.OfPackage pos clauses whole) = joined (each_nested context_nested clauses) (package_nested 0 whole)
unit_nested (unit.OfBody pos clauses body) = joined (each_nested context_nested clauses) (package_body_nested 0 body)
unit_nested (unit.OfSubprogram pos clauses body) = joined (each_nested context_nested clauses) (subprogram_nested 0 body)

-- ---- sources

-- The tokens of each source are nested.
pub nested : (units : List SourceUnit) → Nested 0 (source_spelling units)
nested units = (each_nested unit_nested units).it

-- ---- what isn't nested

rests_at_zero : (side : Side) → of_side.rests side 0 ≡ 0
rests_at_zero Apart = refl
rests_at_zero Within = refl

abbrev is_empty : List WeighedToken → Bool
is_empty [] = true
is_empty (m ∷ ms) = false

some_behind : (inner : List WeighedToken) (m : WeighedToken) (behind : List WeighedToken) → is_empty (inner ++ (m ∷ behind)) ≡ false
some_behind [] m behind = refl
some_behind (n ∷ inner) m behind = refl

-- The first of nested tokens, by what it is and how it counts.
data Front (d : ℕ) (m : WeighedToken) (ms : List WeighedToken) : Type 0 where
  front_rests : is_operator m.token ≡ false → always_closes m.token ≡ false → always_opens m.token ≡ false
      → m.weight.exceeds 0 ≡ false → m.weight.step 0 ≡ 0
      → Front d m ms
  front_operates : is_operator m.token ≡ true → m.weight.step 0 ≡ 1 → Front d m ms
  front_opens : (end : Spelled) → closes m.token end ≡ true → m.weight.exceeds 0 ≡ leb NESTING d → m.weight.step 0 ≡ 0
      → is_empty ms ≡ false → Front d m ms

abbrev FrontOf : ℕ → List WeighedToken → Type 0
FrontOf d [] = Unit {0}
FrontOf d (m ∷ ms) = Front d m ms

front : {d : ℕ} {ms : List WeighedToken} → Nested d ms → FrontOf d ms
front (nothing d) = tt
front (rests d side t behind is never out more) = front_rests is never out refl (rests_at_zero side)
front (operates_one d t behind is more) = front_operates is refl
front (encloses d side t inner end_side end behind closing within more) =
    front_opens end closing refl (rests_at_zero side) (some_behind inner (plain end_side end) behind)

-- The first token closes no construct from further out.
closer_first : {d : ℕ} {m : WeighedToken} {ms : List WeighedToken} → Front d m ms → always_closes m.token ≡ true → is_operator m.token ≡ false
    → ((end : Spelled) → closes m.token end ≡ false) → ⊥
closer_first (front_rests is never out within_limits none) always other opens = true≢false (sym always ∙ never)
closer_first (front_operates is one) always other opens = true≢false (sym is ∙ other)
closer_first (front_opens end closing exceeds none some) always other opens = true≢false (sym closing ∙ opens end)

-- A ")" that closes no "(".
unmatched_parenthesis : (d : ℕ) (side : Side) (pos : Pos) (ms : List WeighedToken)
    → Nested d (plain side (Delimiter s.RightParenthesis pos) ∷ ms) → ⊥
unmatched_parenthesis d side pos ms it = closer_first (front it) refl refl (λ end. refl)

end_opens_none : (pos : Pos) (end : Spelled) → closes (Word w.KwEnd pos) end ≡ false
end_opens_none pos (Word w.KwEnd at) = refl
end_opens_none pos (Word v at) = refl
end_opens_none pos (Delimiter v at) = refl
end_opens_none pos end = refl

-- An "end" that closes none of the constructs.
unmatched_end : (d : ℕ) (side : Side) (pos : Pos) (ms : List WeighedToken) → Nested d (plain side (Word w.KwEnd pos) ∷ ms) → ⊥
unmatched_end d side pos ms it = closer_first (front it) refl refl (end_opens_none pos)

operator_first : {d : ℕ} {m : WeighedToken} {ms : List WeighedToken} → Front d m ms → is_operator m.token ≡ true
    → ((end : Spelled) → closes m.token end ≡ false) → m.weight.step 0 ≡ 1
operator_first (front_rests is never out within_limits none) operator opens = absurd (false≢true (sym is ∙ operator))
operator_first (front_operates is one) operator opens = one
operator_first (front_opens end closing exceeds none some) operator opens = absurd (true≢false (sym closing ∙ opens end))

-- A "+" that is none of the operators.
plus_at_rest : (d : ℕ) (pos : Pos) (ms : List WeighedToken) → Nested d (plain Within (Delimiter s.Plus pos) ∷ ms) → ⊥
plus_at_rest d pos ms it = let e : ◌≡◌ {A = ℕ} 0 1 = operator_first (front it) refl (λ end. refl) in omega arith

other_first : {d : ℕ} {m : WeighedToken} {ms : List WeighedToken} → Front d m ms → is_operator m.token ≡ false → m.weight.step 0 ≡ 0
other_first (front_rests is never out within_limits none) other = none
other_first (front_operates is one) other = absurd (true≢false (sym is ∙ other))
other_first (front_opens end closing exceeds none some) other = none

-- A "," that is one.
comma_as_operator : (d : ℕ) (pos : Pos) (ms : List WeighedToken) → Nested d (operates (Delimiter s.Comma pos) ∷ ms) → ⊥
comma_as_operator d pos ms it = let e : ◌≡◌ {A = ℕ} 1 0 = other_first (front it) refl in omega arith

-- A token that opens a construct beyond the limit does so where so many are open, and others
-- follow it.
exceeds_first : {d : ℕ} {m : WeighedToken} {ms : List WeighedToken} → Front d m ms → m.weight.exceeds 0 ≡ true → is_operator m.token ≡ false
    → (leb NESTING d ≡ true) × (is_empty ms ≡ false)
exceeds_first (front_rests is never out within_limits none) exceeds other = absurd (true≢false (sym exceeds ∙ within_limits))
exceeds_first (front_operates is one) exceeds other = absurd (true≢false (sym is ∙ other))
exceeds_first (front_opens end closing depth none some) exceeds other = (sym depth ∙ exceeds, some)

-- A "(" that exceeds the limit where there is room for one more construct.
too_deep_with_room : (d e : ℕ) → leb NESTING d ≡ false → leb NESTING e ≡ true → (side : Side) (pos : Pos) (ms : List WeighedToken)
    → Nested d (opens side e (Delimiter s.LeftParenthesis pos) ∷ ms) → ⊥
too_deep_with_room d e room full side pos ms it = true≢false (sym (exceeds_first (front it) full refl).0 ∙ room)

-- A "(" that exceeds the limit, and that none closes. Within the limit it weighs what a token at
-- rest does.
unclosed_parenthesis : (d : ℕ) → leb NESTING d ≡ true → (side : Side) (pos : Pos)
    → Nested d (opens side d (Delimiter s.LeftParenthesis pos) ∷ []) → ⊥
unclosed_parenthesis d full side pos it = true≢false (exceeds_first (front it) full refl).1

opener_first : {d : ℕ} {m : WeighedToken} {ms : List WeighedToken} → Front d m ms → always_opens m.token ≡ true → is_operator m.token ≡ false
    → is_empty ms ≡ false
opener_first (front_rests is never out within_limits none) always other = absurd (true≢false (sym always ∙ out))
opener_first (front_operates is one) always other = absurd (true≢false (sym is ∙ other))
opener_first (front_opens end closing depth none some) always other = some

opener_alone : (d e : ℕ) (side : Side) (pos : Pos) → Nested d (opens side e (Delimiter s.LeftParenthesis pos) ∷ []) → ⊥
opener_alone d e side pos it = true≢false (opener_first (front it) refl refl)

while_alone : (d e : ℕ) (side : Side) (pos : Pos) → Nested d (plain side (Word w.KwWhile pos) ∷ []) → ⊥
while_alone d e side pos it = true≢false (opener_first (front it) refl refl)
