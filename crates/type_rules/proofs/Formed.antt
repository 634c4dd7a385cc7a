-- In the code of files each alternative stands in a `case`, and nothing else there.
use Rattle.std.proofs.Common.{refl, arith, Bool, true, ◌&&◌, List, [], ◌∷◌, ◌++◌, map, IsTrue, Option, None, Some}
use Rattle.std.specs.List.{flat_map}
use Rattle.ada_tree.specs.declared.declaration.Item.{Item}
use Rattle.ada_tree.specs.declared.declaration.Item.TheVariants as item
use Rattle.ada_tree.specs.declared.statement.Stmts.{Stmts, Row_of-Stmt, end_of-Stmt, more_of-Stmt}
use Rattle.ada_tree.specs.declared.statement.Stmts.TheVariants as stmts
use Rattle.ada_tree.specs.declared.statement.Stmt.{Stmt, Row_of-Stmts, end_of-Stmts, more_of-Stmts, Row_of-Elsif, end_of-Elsif, more_of-Elsif, Row_of-When, end_of-When, more_of-When}
use Rattle.ada_tree.specs.declared.statement.Stmt.TheVariants as stmt
use Rattle.ada_tree.specs.declared.statement.Elsif.{Elsif}
use Rattle.ada_tree.specs.declared.statement.Elsif.TheVariants as branch
use Rattle.ada_tree.specs.declared.statement.When.{When}
use Rattle.ada_tree.specs.declared.statement.When.TheVariants as alternative
use Rattle.ada_tree.specs.declared.subprogram.Decl.{Decl}
use Rattle.ada_tree.specs.declared.subprogram.Decl.TheVariants as decl
use Rattle.ada_tree.specs.declared.unit.SourceUnit.{SourceUnit}
use Rattle.ada_tree.specs.declared.unit.SourceUnit.TheVariants as unit
use Rattle.ada_tree.specs.declared.unit.PrivatePart.{PrivatePart}
use Rattle.ada_tree.specs.declared.unit.BodyPart.{BodyPart}
use Rattle.ada_tree.specs.declared.unit.BodyPart.TheVariants as part
use Rattle.ada_tree.specs.declared.unit.SubprogramBody.{SubprogramBody}
use Rattle.resolved_tree.specs.Trees.{Code, code_list}
use Rattle.expression_lowering.specs.LoweredExpressions.{Numbers}
use Rattle.tree_lowering.specs.Lowered.{lowered_subtype, lowered_type, lowered_declaration, item_before, before_all, lowered_items, lowered_simple, lowered_stmts, lowered_stmt_box, stmts_row, lowered_stmt, lowered_stmts_box, elsifs_row, lowered_elsif, lowered_when_box, whens_row, lowered_when, lowered_subprogram, decl_before, part_before, lowered_decls, lowered_private, lowered_package, lowered_package_body, lowered_unit, lowered_files}
use Rattle.type_sizes.specs.Formed.{is_formed, are_alternatives, is_alternative, all_formed}

both : (a b : Bool) → IsTrue a → IsTrue b → IsTrue (a && b)
both a b p q = grind arith

and_first : (a b : Bool) → IsTrue (a && b) → IsTrue a
and_first a b p = grind arith

and_second : (a b : Bool) → IsTrue (a && b) → IsTrue b
and_second a b p = grind arith

-- ---- lists

list_formed : (codes : List Code) → IsTrue (all_formed codes) → IsTrue (is_formed (code_list codes))
unfolding is_formed
list_formed [] formed = refl
list_formed (a ∷ rest) formed =
    both (is_formed a) (is_formed (code_list rest)) (and_first (is_formed a) (all_formed rest) formed)
    (list_formed rest (and_second (is_formed a) (all_formed rest) formed))

abbrev all_alternatives : List Code → Bool
all_alternatives [] = true
all_alternatives (a ∷ rest) = is_alternative a && all_alternatives rest

list_alternatives : (codes : List Code) → IsTrue (all_alternatives codes) → IsTrue (are_alternatives (code_list codes))
unfolding are_alternatives
list_alternatives [] are = refl
list_alternatives (a ∷ rest) are =
    both (is_alternative a) (are_alternatives (code_list rest)) (and_first (is_alternative a) (all_alternatives rest) are)
    (list_alternatives rest (and_second (is_alternative a) (all_alternatives rest) are))

before_formed : {A : Type 0} (before : Code → A → Code)
    → ((others : Code) (a : A) → IsTrue (is_formed others) → IsTrue (is_formed (before others a))) → (parts : List A)
    → IsTrue (is_formed (before_all before parts))
unfolding is_formed
before_formed before keeps [] = refl
before_formed before keeps (a ∷ rest) = keeps (before_all before rest) a (before_formed before keeps rest)

-- ---- items

module _ (numbers : Numbers) where
  subtype_formed : (i : Item) → IsTrue (is_formed (lowered_subtype numbers i))
  unfolding is_formed lowered_subtype
  subtype_formed (item.Subtype pos id is mark semicolon) = refl
  subtype_formed (item.ConstrainedSubtype pos id is mark of_range low dots high semicolon) = refl
  subtype_formed _ = refl

  type_formed : (i : Item) → IsTrue (is_formed (lowered_type numbers i))
  unfolding is_formed lowered_type
  type_formed (item.IncompleteType pos id semicolon) = refl
  type_formed (item.PrivateType pos id is private semicolon) = refl
  type_formed (item.EnumerationType pos id is left_paren first rest right_paren semicolon) = refl
  type_formed (item.RecordType pos id is record_word first rest end end_record semicolon) = refl
  type_formed (item.ArrayType pos id is array left_paren index right_paren of element semicolon) = refl
  type_formed (item.AccessType pos id is access designated semicolon) = refl
  type_formed other = subtype_formed other

  declaration_formed : (i : Item) → IsTrue (is_formed (lowered_declaration numbers i))
  unfolding is_formed lowered_declaration
  declaration_formed (item.Objects pos first rest colon is_constant of semicolon) = refl
  declaration_formed (item.InitializedObjects pos first rest colon is_constant of becomes value semicolon) = refl
  declaration_formed (item.Numbers pos first rest colon is_constant becomes value semicolon) = refl
  declaration_formed (item.Instance pos id is new generic left_paren first rest right_paren semicolon) = refl
  declaration_formed other = type_formed other

  item_formed : (others : Code) (i : Item) → IsTrue (is_formed others) → IsTrue (is_formed (item_before numbers others i))
  unfolding is_formed item_before
  item_formed others (item.Use pos clause) formed = formed
  item_formed others (item.Pragma pos clause) formed = formed
  item_formed others declaration formed =
      both (is_formed (lowered_declaration numbers declaration)) (is_formed others) (declaration_formed declaration) formed

  items_formed : (items : List Item) → IsTrue (is_formed (lowered_items numbers items))
  items_formed items = before_formed (item_before numbers) item_formed items

  -- ---- statements

  simple_formed : (s : Stmt) → IsTrue (is_formed (lowered_simple numbers s))
  unfolding is_formed lowered_simple
  simple_formed (stmt.Null pos semicolon) = refl
  simple_formed (stmt.Assign pos target becomes value semicolon) = refl
  simple_formed (stmt.Call pos callee semicolon) = refl
  simple_formed (stmt.Exit pos semicolon) = refl
  simple_formed (stmt.ExitWhen pos when condition semicolon) = refl
  simple_formed (stmt.Return pos semicolon) = refl
  simple_formed (stmt.ReturnValue pos value semicolon) = refl
  simple_formed _ = refl

  mutual
    unfolding is_formed are_alternatives is_alternative lowered_stmts lowered_stmt_box stmts_row lowered_stmt lowered_stmts_box elsifs_row lowered_elsif lowered_when_box whens_row lowered_when

    stmts_formed : (tree : Stmts) → IsTrue (is_formed (lowered_stmts numbers tree))
    stmts_formed (stmts.Sequence' pos _ first _ rest) =
        both (is_formed (lowered_stmt_box numbers first)) (is_formed (code_list (stmts_row numbers rest))) (stmt_box_formed first)
        (list_formed (stmts_row numbers rest) (row_formed rest))

    stmt_box_formed : {n : _} (row : Row_of-Stmt n) → IsTrue (is_formed (lowered_stmt_box numbers row))
    stmt_box_formed end_of-Stmt = refl
    stmt_box_formed (more_of-Stmt part rest) = stmt_formed part

    row_formed : {n : _} (row : Row_of-Stmt n) → IsTrue (all_formed (stmts_row numbers row))
    row_formed end_of-Stmt = refl
    row_formed (more_of-Stmt part rest) =
        both (is_formed (lowered_stmt numbers part)) (all_formed (stmts_row numbers rest)) (stmt_formed part) (row_formed rest)

    stmt_formed : (tree : Stmt) → IsTrue (is_formed (lowered_stmt numbers tree))
    stmt_formed (stmt.If' pos condition then_word _ body _ elsifs end end_if semicolon) =
        both (is_formed (lowered_stmts_box numbers body) && is_formed (code_list (elsifs_row numbers elsifs))) true
        (both (is_formed (lowered_stmts_box numbers body)) (is_formed (code_list (elsifs_row numbers elsifs))) (stmts_box_formed body)
        (list_formed (elsifs_row numbers elsifs) (elsifs_formed elsifs))) refl
    stmt_formed (stmt.IfElse' pos condition then_word _ body _ elsifs otherwise _ other end end_if semicolon) =
        both (is_formed (lowered_stmts_box numbers body) && is_formed (code_list (elsifs_row numbers elsifs)))
        (is_formed (lowered_stmts_box numbers other))
        (both (is_formed (lowered_stmts_box numbers body)) (is_formed (code_list (elsifs_row numbers elsifs))) (stmts_box_formed body)
        (list_formed (elsifs_row numbers elsifs) (elsifs_formed elsifs))) (stmts_box_formed other)
    stmt_formed (stmt.Case' pos selecting is _ first _ rest end end_case semicolon) =
        both (is_alternative (lowered_when_box numbers first)) (are_alternatives (code_list (whens_row numbers rest))) (when_box_formed first)
        (list_alternatives (whens_row numbers rest) (whens_formed rest))
    stmt_formed (stmt.Loop' pos _ body end end_loop semicolon) = stmts_box_formed body
    stmt_formed (stmt.While' pos condition loop_word _ body end end_loop semicolon) = stmts_box_formed body
    stmt_formed (stmt.For' pos parameter in_word reverse steps loop_word _ body end end_loop semicolon) = stmts_box_formed body
    stmt_formed (stmt.Block' pos _ body end semicolon) = stmts_box_formed body
    stmt_formed (stmt.DeclareBlock' pos items begin _ body end semicolon) =
        both (is_formed (lowered_items numbers items)) (is_formed (lowered_stmts_box numbers body)) (items_formed items) (stmts_box_formed body)
    stmt_formed simple = simple_formed simple

    stmts_box_formed : {n : _} (row : Row_of-Stmts n) → IsTrue (is_formed (lowered_stmts_box numbers row))
    stmts_box_formed end_of-Stmts = refl
    stmts_box_formed (more_of-Stmts part rest) = stmts_formed part

    elsifs_formed : {n : _} (row : Row_of-Elsif n) → IsTrue (all_formed (elsifs_row numbers row))
    elsifs_formed end_of-Elsif = refl
    elsifs_formed (more_of-Elsif part rest) =
        both (is_formed (lowered_elsif numbers part)) (all_formed (elsifs_row numbers rest)) (elsif_formed part) (elsifs_formed rest)

    elsif_formed : (tree : Elsif) → IsTrue (is_formed (lowered_elsif numbers tree))
    elsif_formed (branch.Branch' pos condition then_word _ body) = stmts_box_formed body

    when_box_formed : {n : _} (row : Row_of-When n) → IsTrue (is_alternative (lowered_when_box numbers row))
    when_box_formed end_of-When = refl
    when_box_formed (more_of-When part rest) = when_formed part

    whens_formed : {n : _} (row : Row_of-When n) → IsTrue (all_alternatives (whens_row numbers row))
    whens_formed end_of-When = refl
    whens_formed (more_of-When part rest) =
        both (is_alternative (lowered_when numbers part)) (all_alternatives (whens_row numbers rest)) (when_formed part) (whens_formed rest)

    when_formed : (tree : When) → IsTrue (is_alternative (lowered_when numbers tree))
    when_formed (alternative.Alternative' pos first rest arrow _ body) = stmts_box_formed body

  -- ---- units

  subprogram_formed : (body : SubprogramBody) → IsTrue (is_formed (lowered_subprogram numbers body))
  unfolding is_formed lowered_subprogram
  subprogram_formed body =
      both (is_formed (lowered_items numbers body.items)) (is_formed (lowered_stmts numbers body.stmts)) (items_formed body.items)
      (stmts_formed body.stmts)

  decl_formed : (others : Code) (d : Decl) → IsTrue (is_formed others) → IsTrue (is_formed (decl_before numbers others d))
  unfolding is_formed decl_before
  decl_formed others (decl.OfItem pos declaration) formed = item_formed others declaration formed
  decl_formed others (decl.Subprogram pos spec mode semicolon) formed = formed

  part_formed : (others : Code) (p : BodyPart) → IsTrue (is_formed others) → IsTrue (is_formed (part_before numbers others p))
  unfolding is_formed part_before
  part_formed others (part.Declared pos declaration) formed = decl_formed others declaration formed
  part_formed others (part.Completed pos body) formed =
      both (is_formed (lowered_subprogram numbers body)) (is_formed others) (subprogram_formed body) formed

  decls_formed : (decls : List Decl) → IsTrue (is_formed (lowered_decls numbers decls))
  decls_formed decls = before_formed (decl_before numbers) decl_formed decls

  private_formed : (p : Option PrivatePart) → IsTrue (is_formed (lowered_private numbers p))
  unfolding is_formed
  private_formed None = refl
  private_formed (Some p) = decls_formed p.decls

  unit_formed : (u : SourceUnit) → IsTrue (is_formed (lowered_unit numbers u))
  unfolding is_formed lowered_unit lowered_package lowered_package_body
  unit_formed (unit.OfPackage pos clauses whole) =
      both (is_formed (lowered_decls numbers whole.visible)) (is_formed (lowered_private numbers whole.private)) (decls_formed whole.visible)
      (private_formed whole.private)
  unit_formed (unit.OfBody pos clauses body) = before_formed (part_before numbers) part_formed body.parts
  unit_formed (unit.OfSubprogram pos clauses body) = subprogram_formed body

  file_formed : (units : List SourceUnit) (others : List Code) → IsTrue (all_formed others)
      → IsTrue (all_formed (map (lowered_unit numbers) units ++ others))
  file_formed [] others formed = formed
  file_formed (u ∷ rest) others formed =
      both (is_formed (lowered_unit numbers u)) (all_formed (map (lowered_unit numbers) rest ++ others)) (unit_formed u)
      (file_formed rest others formed)

  pub files_formed : (files : List (List SourceUnit)) → IsTrue (all_formed (lowered_files numbers files))
  unfolding lowered_files
  files_formed [] = refl
  files_formed (f ∷ rest) = file_formed f (flat_map (map (lowered_unit numbers)) rest) (files_formed rest)
