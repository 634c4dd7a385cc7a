-- The outermost expressions of each source: within one no token ends the count of operators, and
-- between two of them a token does. At the end, some tokens for which that doesn't hold.
use Rattle.std.proofs.Common.{refl, ℕ, suc, List, ◌∷◌, ◌++◌}
use Rattle.std.specs.Prelude.{Option, Some, None}
use Rattle.spark_base.specs.declared.position.Pos.{Pos}
use Rattle.ada_lexer.specs.declared.token.Reserved.{Reserved}
use Rattle.ada_lexer.specs.declared.token.Reserved.TheVariants as w
use Rattle.ada_tree.specs.declared.identifier.Identifier.{Identifier}
use Rattle.ada_tree.specs.declared.identifier.NextIdentifier.{NextIdentifier}
use Rattle.ada_tree.specs.declared.identifier.Dotted.{Dotted}
use Rattle.ada_tree.specs.declared.declaration.Component.{Component}
use Rattle.ada_tree.specs.declared.declaration.Component.TheVariants as component
use Rattle.ada_tree.specs.declared.declaration.Indication.{Indication}
use Rattle.ada_tree.specs.declared.declaration.Indication.TheVariants as indication
use Rattle.ada_tree.specs.declared.declaration.Item.{Item}
use Rattle.ada_tree.specs.declared.declaration.Item.TheVariants as item
use Rattle.ada_tree.specs.declared.declaration.UseClause.{UseClause}
use Rattle.ada_tree.specs.declared.declaration.PragmaOn.{PragmaOn}
use Rattle.ada_tree.specs.declared.declaration.PragmaClause.{PragmaClause}
use Rattle.ada_tree.specs.declared.statement.Stmts.{Stmts, Row_of-Stmt, end_of-Stmt, more_of-Stmt}
use Rattle.ada_tree.specs.declared.statement.Stmts.TheVariants as stmts
use Rattle.ada_tree.specs.declared.statement.Stmt.{Stmt, Row_of-Stmts, end_of-Stmts, more_of-Stmts, Row_of-Elsif, end_of-Elsif, more_of-Elsif, Row_of-When, end_of-When, more_of-When}
use Rattle.ada_tree.specs.declared.statement.Stmt.TheVariants as stmt
use Rattle.ada_tree.specs.declared.statement.Elsif.{Elsif}
use Rattle.ada_tree.specs.declared.statement.Elsif.TheVariants as branch
use Rattle.ada_tree.specs.declared.statement.When.{When}
use Rattle.ada_tree.specs.declared.statement.When.TheVariants as alternative
use Rattle.ada_tree.specs.declared.subprogram.ModeOn.{ModeOn}
use Rattle.ada_tree.specs.declared.subprogram.SparkMode.{SparkMode}
use Rattle.ada_tree.specs.declared.subprogram.Subspec.{Subspec}
use Rattle.ada_tree.specs.declared.subprogram.Subspec.TheVariants as subspec
use Rattle.ada_tree.specs.declared.subprogram.Formals.{Formals}
use Rattle.ada_tree.specs.declared.subprogram.NextFormal.{NextFormal}
use Rattle.ada_tree.specs.declared.subprogram.NextFormal.TheVariants as next_formal
use Rattle.ada_tree.specs.declared.subprogram.Formal.{Formal}
use Rattle.ada_tree.specs.declared.subprogram.Formal.TheVariants as formal
use Rattle.ada_tree.specs.declared.subprogram.Decl.{Decl}
use Rattle.ada_tree.specs.declared.subprogram.Decl.TheVariants as decl
use Rattle.ada_tree.specs.declared.unit.SourceUnit.{SourceUnit}
use Rattle.ada_tree.specs.declared.unit.SourceUnit.TheVariants as unit
use Rattle.ada_tree.specs.declared.unit.Context.{Context}
use Rattle.ada_tree.specs.declared.unit.Context.TheVariants as context
use Rattle.ada_tree.specs.declared.unit.Package.{Package}
use Rattle.ada_tree.specs.declared.unit.PrivatePart.{PrivatePart}
use Rattle.ada_tree.specs.declared.unit.PackageBody.{PackageBody}
use Rattle.ada_tree.specs.declared.unit.BodyPart.{BodyPart}
use Rattle.ada_tree.specs.declared.unit.BodyPart.TheVariants as part
use Rattle.ada_tree.specs.declared.unit.SubprogramBody.{SubprogramBody}
use Rattle.ada_tree.specs.declared.range.Range.{Range}
use Rattle.token_reading.specs.declared.side.Side.TheVariants.{Apart}
use Rattle.token_reading.specs.Weights.{WeighedToken}
use Rattle.ada_grammar.specs.Outermost.{Outermost}
use Rattle.ada_tree.specs.Spelling.{word, optional_word, range_spelling, anonymous_spelling, body_part_spelling, component_spelling, context_spelling, decl_spelling, defining_spelling, elsif_spelling, elsifs_spelling, end_spelling, formal_spelling, formals_spelling, indication_spelling, item_spelling, mode_spelling, mode_on_spelling, next_formal_spelling, next_stmts_spelling, next_whens_spelling, package_body_spelling, package_spelling, pragma_spelling, pragma_on_spelling, private_spelling, source_spelling, stmt_box, stmt_spelling, stmts_box, stmts_spelling, subprogram_spelling, subspec_spelling, unit_spelling, use_spelling, when_box, when_spelling}
use Rattle.ada_grammar.proofs.LedExpressions.{Row, ended, joined, apart, opener, closing, each_row, optional_row, optional_word_row, optional_id_row, led_expr, led_range, leads_on, opener_leads, follows_on, opener_follows, next_identifier_row, dotted_row, next_dotted_row, name_row, next_arg_row, arg_follows, constraint_row, choice_follows, next_choice_row}

-- ---- items

defining_row : (first : Identifier) (rest : List NextIdentifier) (colon : Pos) {behind : List WeighedToken} → Row behind
    → Row (defining_spelling first rest colon behind)
defining_row first rest colon behind =
    apart refl (joined (each_row next_identifier_row rest) (apart refl behind))

anonymous_row : (access : Pos) (constant : Option Pos) (designated : Dotted)
    → Row (anonymous_spelling access constant designated)
anonymous_row access constant designated =
    apart refl (joined (optional_word_row w.KwConstant (λ pos. refl) constant) (dotted_row designated))

indication_row : (tree : Indication) → Row (indication_spelling tree)
unfolding indication_spelling
indication_row (indication.Mark pos mark) = dotted_row mark
indication_row (indication.Anonymous pos constant designated) = anonymous_row pos constant designated

component_row : (tree : Component) → Row (component_spelling tree)
unfolding component_spelling
component_row (component.Fields pos first rest colon mark semicolon) =
    defining_row first rest colon (joined (dotted_row mark) (apart refl ended))

use_row : (tree : UseClause) → Row (use_spelling tree)
unfolding use_spelling
use_row clause =
    apart refl (joined (optional_word_row w.KwType (λ pos. refl) clause.type_word) (joined
    (dotted_row clause.first) (joined (each_row next_dotted_row clause.rest) (apart refl ended))))

pragma_on_row : (d : ℕ) (tree : PragmaOn) → Row (pragma_on_spelling d tree)
unfolding pragma_on_spelling
pragma_on_row d argument = opener d refl (apart refl (apart refl ended))

pragma_row : (d : ℕ) (tree : PragmaClause) → Row (pragma_spelling d tree)
unfolding pragma_spelling
pragma_row d clause =
    apart refl (apart refl (joined (optional_row (pragma_on_row d) clause.argument)
    (apart refl ended)))

item_row : (d : ℕ) (tree : Item) → Row (item_spelling d tree)
unfolding item_spelling
item_row d (item.IncompleteType pos id semicolon) = apart refl (apart refl (apart refl ended))
item_row d (item.PrivateType pos id is private semicolon) =
    apart refl (apart refl (apart refl (apart refl (apart refl ended))))
item_row d (item.EnumerationType pos id is left_paren first rest right_paren semicolon) =
    apart refl (apart refl (apart refl (opener d refl (apart refl (joined
    (each_row next_identifier_row rest) (apart refl (apart refl ended)))))))
item_row d (item.RecordType pos id is record_word first rest end end_record semicolon) =
    apart refl (apart refl (apart refl (opener d refl (joined (component_row first)
    (joined (each_row component_row rest) (apart refl (apart refl (apart refl ended))))))))
item_row d (item.ArrayType pos id is array left_paren index right_paren of_word element semicolon) =
    apart refl (apart refl (apart refl (apart refl (opener_leads d refl
    (led_range (suc d) index) (apart refl (apart refl (joined (dotted_row element)
    (apart refl ended))))))))
item_row d (item.AccessType pos id is access designated semicolon) =
    apart refl (apart refl (apart refl (apart refl (joined (dotted_row designated)
    (apart refl ended)))))
item_row d (item.Subtype pos id is mark semicolon) =
    apart refl (apart refl (apart refl (joined (dotted_row mark) (apart refl ended))))
item_row d (item.ConstrainedSubtype pos id is mark of_range low dots high semicolon) =
    apart refl (apart refl (apart refl (joined (dotted_row mark) (joined
    (constraint_row d of_range low dots high) (apart refl ended)))))
item_row d (item.Objects pos first rest colon constant indicated semicolon) =
    defining_row first rest colon (joined (optional_word_row w.KwConstant (λ pos. refl) constant) (joined
    (indication_row indicated) (apart refl ended)))
item_row d (item.InitializedObjects pos first rest colon constant indicated becomes value semicolon) =
    defining_row first rest colon (joined (optional_word_row w.KwConstant (λ pos. refl) constant) (joined
    (indication_row indicated) (leads_on refl (led_expr d value) (apart refl ended))))
item_row d (item.Numbers pos first rest colon constant becomes value semicolon) =
    defining_row first rest colon (apart refl (leads_on refl (led_expr d value)
    (apart refl ended)))
item_row d (item.Instance pos id is new generic left_paren first rest right_paren semicolon) =
    apart refl (apart refl (apart refl (apart refl (joined (dotted_row generic)
    (opener_follows d refl refl (arg_follows (suc d) first) (joined (each_row (next_arg_row (suc d)) rest) (apart refl (apart refl ended))))))))
item_row d (item.Use pos clause) = use_row clause
item_row d (item.Pragma pos clause) = pragma_row d clause

-- ---- statements

end_row : {v : Reserved} (end end_word semicolon : Pos) → Row (end_spelling v end end_word semicolon)
end_row end end_word semicolon = closing (apart refl ended)

-- "in" ["reverse"] range
over_row : (d : ℕ) (in_word : Pos) (reverse : Option Pos) (over : Range) {tail : List WeighedToken} → Row tail
    → Row (word Apart w.KwIn in_word ∷ (optional_word w.KwReverse reverse ++ (range_spelling d over ++ tail)))
over_row d in_word None over tail = leads_on refl (led_range d over) tail
over_row d in_word (Some reverse) over tail = apart refl (leads_on refl (led_range d over) tail)

mutual
  unfolding stmts_box

  stmts_box_row : {n : _} (d : ℕ) (row : Row_of-Stmts n) → Row (stmts_box d row)
  stmts_box_row d end_of-Stmts = ended
  stmts_box_row d (more_of-Stmts part rest) = stmts_row d part

  stmts_row : (d : ℕ) (tree : Stmts) → Row (stmts_spelling d tree)
  stmts_row d (stmts.Sequence' pos _ first _ rest) = joined (stmt_box_row d first) (next_stmts_row d rest)

  stmt_box_row : {n : _} (d : ℕ) (row : Row_of-Stmt n) → Row (stmt_box d row)
  stmt_box_row d end_of-Stmt = ended
  stmt_box_row d (more_of-Stmt part rest) = stmt_row d part

  next_stmts_row : {n : _} (d : ℕ) (row : Row_of-Stmt n) → Row (next_stmts_spelling d row)
  next_stmts_row d end_of-Stmt = ended
  next_stmts_row d (more_of-Stmt part rest) = joined (stmt_row d part) (next_stmts_row d rest)

  stmt_row : (d : ℕ) (tree : Stmt) → Row (stmt_spelling d tree)
  stmt_row d (stmt.Null pos semicolon) = apart refl (apart refl ended)
  stmt_row d (stmt.Assign pos target becomes value semicolon) =
      joined (name_row d target) (leads_on refl (led_expr d value) (apart refl ended))
  stmt_row d (stmt.Call pos called semicolon) = joined (name_row d called) (apart refl ended)
  stmt_row d (stmt.Exit pos semicolon) = apart refl (apart refl ended)
  stmt_row d (stmt.ExitWhen pos when condition semicolon) =
      apart refl (leads_on refl (led_expr d condition) (apart refl ended))
  stmt_row d (stmt.Return pos semicolon) = apart refl (apart refl ended)
  stmt_row d (stmt.ReturnValue pos value semicolon) =
      leads_on refl (led_expr d value) (apart refl ended)
  stmt_row d (stmt.If' pos condition then _ body _ elsifs end end_if semicolon) =
      opener_leads d refl (led_expr (suc d) condition) (apart refl (joined (stmts_box_row
      (suc d) body) (joined (elsifs_row (suc d) elsifs) (end_row end end_if semicolon))))
  stmt_row d (stmt.IfElse' pos condition then _ body _ elsifs otherwise _ otherwise_body end end_if semicolon) =
      opener_leads d refl (led_expr (suc d) condition) (apart refl (joined (stmts_box_row
      (suc d) body) (joined (elsifs_row (suc d) elsifs) (apart refl (joined
      (stmts_box_row (suc d) otherwise_body) (end_row end end_if semicolon))))))
  stmt_row d (stmt.Case' pos selector is _ first _ rest end end_case semicolon) =
      opener_leads d refl (led_expr (suc d) selector) (apart refl (joined (when_box_row
      (suc d) first) (joined (next_whens_row (suc d) rest) (end_row end end_case semicolon))))
  stmt_row d (stmt.Loop' pos _ body end end_loop semicolon) =
      opener d refl (joined (stmts_box_row (suc d) body) (end_row end end_loop semicolon))
  stmt_row d (stmt.While' pos condition loop_word _ body end end_loop semicolon) =
      opener_leads d refl (led_expr (suc d) condition) (apart refl (joined (stmts_box_row
      (suc d) body) (end_row end end_loop semicolon)))
  stmt_row d (stmt.For' pos parameter in_word reverse over loop_word _ body end end_loop semicolon) =
      opener d refl (apart refl (over_row (suc d) in_word reverse over
      (apart refl (joined (stmts_box_row (suc d) body) (end_row end end_loop semicolon)))))
  stmt_row d (stmt.Block' pos _ body end semicolon) =
      opener d refl (joined (stmts_box_row (suc d) body) (apart refl (apart refl ended)))
  stmt_row d (stmt.DeclareBlock' pos items begin _ body end semicolon) =
      opener d refl (joined (each_row (item_row (suc d)) items) (apart refl (joined
      (stmts_box_row (suc d) body) (apart refl (apart refl ended)))))

  elsifs_row : {n : _} (d : ℕ) (row : Row_of-Elsif n) → Row (elsifs_spelling d row)
  elsifs_row d end_of-Elsif = ended
  elsifs_row d (more_of-Elsif part rest) = joined (elsif_row d part) (elsifs_row d rest)

  elsif_row : (d : ℕ) (tree : Elsif) → Row (elsif_spelling d tree)
  elsif_row d (branch.Branch' pos condition then _ body) =
      leads_on refl (led_expr d condition) (apart refl (stmts_box_row d body))

  when_box_row : {n : _} (d : ℕ) (row : Row_of-When n) → Row (when_box d row)
  when_box_row d end_of-When = ended
  when_box_row d (more_of-When part rest) = when_row d part

  next_whens_row : {n : _} (d : ℕ) (row : Row_of-When n) → Row (next_whens_spelling d row)
  next_whens_row d end_of-When = ended
  next_whens_row d (more_of-When part rest) = joined (when_row d part) (next_whens_row d rest)

  when_row : (d : ℕ) (tree : When) → Row (when_spelling d tree)
  when_row d (alternative.Alternative' pos first rest arrow _ body) =
      follows_on refl refl (choice_follows d first) (joined (each_row (next_choice_row d) rest) (apart refl
      (stmts_box_row d body)))

-- ---- subprograms and declarations

mode_on_row : (tree : ModeOn) → Row (mode_on_spelling tree)
unfolding mode_on_spelling
mode_on_row value = apart refl (apart refl ended)

mode_row : (tree : SparkMode) → Row (mode_spelling tree)
unfolding mode_spelling
mode_row mode = apart refl (apart refl (optional_row mode_on_row mode.value))

formal_row : (tree : Formal) → Row (formal_spelling tree)
unfolding formal_spelling
formal_row (formal.Moded pos first rest colon in_word out_word mark) =
    defining_row first rest colon (joined (optional_word_row w.KwIn (λ pos. refl) in_word) (joined
    (optional_word_row w.KwOut (λ pos. refl) out_word) (dotted_row mark)))
formal_row (formal.Anonymous pos first rest colon access constant designated) =
    defining_row first rest colon (anonymous_row access constant designated)

next_formal_row : (tree : NextFormal) → Row (next_formal_spelling tree)
unfolding next_formal_spelling
next_formal_row (next_formal.Semicolon pos declared) = apart refl (formal_row declared)

formals_row : (d : ℕ) (tree : Formals) → Row (formals_spelling d tree)
unfolding formals_spelling
formals_row d formals =
    opener d refl (joined (formal_row formals.first) (joined (each_row next_formal_row formals.rest)
    (apart refl ended)))

subspec_row : (d : ℕ) (tree : Subspec) → Row (subspec_spelling d tree)
unfolding subspec_spelling
subspec_row d (subspec.Procedure pos id formals) = opener d refl (apart refl (optional_row (formals_row (suc d)) formals))
subspec_row d (subspec.Function pos id formals return_word result) =
    opener d refl (apart refl (joined (optional_row (formals_row (suc d)) formals) (apart refl (indication_row result))))

decl_row : (d : ℕ) (tree : Decl) → Row (decl_spelling d tree)
unfolding decl_spelling
decl_row d (decl.OfItem pos declared) = item_row d declared
decl_row d (decl.Subprogram pos spec mode semicolon) =
    joined (subspec_row d spec) (joined (optional_row mode_row mode) (apart refl ended))

-- ---- units

subprogram_row : (d : ℕ) (tree : SubprogramBody) → Row (subprogram_spelling d tree)
unfolding subprogram_spelling
subprogram_row d body =
    joined (subspec_row d body.spec) (joined (optional_row mode_row body.mode) (apart refl (joined
    (each_row (item_row (suc d)) body.items) (apart refl (joined (stmts_row (suc d) body.stmts)
    (apart refl (joined (optional_id_row body.closing) (apart refl ended))))))))

body_part_row : (d : ℕ) (tree : BodyPart) → Row (body_part_spelling d tree)
unfolding body_part_spelling
body_part_row d (part.Declared pos declared) = decl_row d declared
body_part_row d (part.Completed pos body) = subprogram_row d body

private_row : (d : ℕ) (tree : PrivatePart) → Row (private_spelling d tree)
unfolding private_spelling
private_row d private = apart refl (each_row (decl_row d) private.decls)

package_row : (d : ℕ) (tree : Package) → Row (package_spelling d tree)
unfolding package_spelling
package_row d whole =
    opener d refl (apart refl (joined (optional_row mode_row whole.mode)
    (apart refl (joined (each_row (decl_row (suc d)) whole.visible) (joined
    (optional_row (private_row (suc d)) whole.private) (apart refl (joined (optional_id_row whole.closing)
    (apart refl ended))))))))

package_body_row : (d : ℕ) (tree : PackageBody) → Row (package_body_spelling d tree)
unfolding package_body_spelling
package_body_row d whole =
    opener d refl (apart refl (apart refl (joined (optional_row mode_row whole.mode)
    (apart refl (joined (each_row (body_part_row (suc d)) whole.parts) (apart refl (joined
    (optional_id_row whole.closing) (apart refl ended))))))))

context_row : (tree : Context) → Row (context_spelling tree)
unfolding context_spelling
context_row (context.With pos first rest semicolon) =
    apart refl (joined (dotted_row first) (joined (each_row next_dotted_row rest)
    (apart refl ended)))
context_row (context.Use pos clause) = use_row clause
context_row (context.Pragma pos clause) = pragma_row 0 clause

unit_row : (tree : SourceUnit) → Row (unit_spelling tree)
unfolding unit_spelling
unit_row (unit.OfPackage pos clauses whole) = joined (each_row context_row clauses) (package_row 0 whole)
unit_row (unit.OfBody pos clauses body) = joined (each_row context_row clauses) (package_body_row 0 body)
unit_row (unit.OfSubprogram pos clauses body) = joined (each_row context_row clauses) (subprogram_row 0 body)

-- ---- sources

-- In each source no token within an outermost expression ends the count of operators, and one
-- between two of them does.
pub outermost : (units : List SourceUnit) → Outermost (source_spelling units)
outermost units = (each_row unit_row units).it
