-- The fronts of subprograms in the code of files are as the grammar has them: they stand in packages and units alone.
use Rattle.std.proofs.Common.{sym, subst, inl, inr, List, [], ◌∷◌, map, Option, None, Some}
use Rattle.std.specs.Prelude.{flat_map}
use Rattle.std.specs.List.{AllByRecursion}
use Rattle.machine.specs.spark_base.Lists.{Has}
use Rattle.soundness.proofs.Lists.{Has-append_cases}
use Rattle.ada_tree.specs.declared.declaration.Item.{Item}
use Rattle.ada_tree.specs.declared.declaration.Item.TheVariants as item
use Rattle.ada_tree.specs.declared.statement.Stmts.{Stmts}
use Rattle.ada_tree.specs.declared.statement.Stmt.{Stmt}
use Rattle.ada_tree.specs.declared.statement.Stmt.TheVariants as stmt
use Rattle.ada_tree.specs.declared.subprogram.Decl.{Decl}
use Rattle.ada_tree.specs.declared.subprogram.Decl.TheVariants as decl
use Rattle.ada_tree.specs.declared.unit.SourceUnit.{SourceUnit}
use Rattle.ada_tree.specs.declared.unit.SourceUnit.TheVariants as unit
use Rattle.ada_tree.specs.declared.unit.PrivatePart.{PrivatePart}
use Rattle.ada_tree.specs.declared.unit.BodyPart.{BodyPart}
use Rattle.ada_tree.specs.declared.unit.BodyPart.TheVariants as part
use Rattle.ada_tree.specs.declared.unit.SubprogramBody.{SubprogramBody}
use Rattle.machine.specs.resolved_tree.Trees.{Code, code_list}
use Rattle.expression_lowering.specs.LoweredExpressions.{Numbers}
use Rattle.tree_lowering.specs.Lowered.{lowered_subtype, lowered_type, lowered_declaration, item_before, before_all, lowered_items, lowered_simple, lowered_stmts, lowered_stmt_box, stmts_row, lowered_stmt, lowered_stmts_box, elsifs_row, lowered_elsif, lowered_when_box, whens_row, lowered_when, lowered_subprogram, decl_before, part_before, lowered_decls, lowered_private, lowered_package, lowered_package_body, lowered_unit, lowered_files}
use Rattle.settled_types.proofs.StatementCases.{StatementLaws, on_statements}
use Rattle.settled_types.specs.NamedFiles.Formals.{IsFrontApart, AreFormalsApart}
use Rattle.settled_types.specs.AnonymousTypes.Fronts.{AllFronts}

abbrev All : Code → Type 0
All = AllFronts IsFrontApart IsFrontApart

listed : (codes : List Code) → AllByRecursion All codes → All (code_list codes)
unfolding AllFronts
listed [] all = tt
listed (a ∷ rest) all = (all.0, listed rest all.1)

module _ (numbers : Numbers) where
  -- ---- declarations

  subtype_fronts : (i : Item) → All (lowered_subtype numbers i)
  unfolding lowered_subtype AllFronts
  subtype_fronts (item.Subtype pos id is mark semicolon) = tt
  subtype_fronts (item.ConstrainedSubtype pos id is mark of_range low dots high semicolon) = tt
  subtype_fronts _ = tt

  type_fronts : (i : Item) → All (lowered_type numbers i)
  unfolding lowered_type AllFronts
  type_fronts (item.IncompleteType pos id semicolon) = tt
  type_fronts (item.PrivateType pos id is private semicolon) = tt
  type_fronts (item.EnumerationType pos id is left_paren first rest right_paren semicolon) = tt
  type_fronts (item.RecordType pos id is record_word first rest end end_record semicolon) = tt
  type_fronts (item.ArrayType pos id is array left_paren index right_paren of element semicolon) = tt
  type_fronts (item.AccessType pos id is access designated semicolon) = tt
  type_fronts other = subtype_fronts other

  declaration_fronts : (i : Item) → All (lowered_declaration numbers i)
  unfolding lowered_declaration AllFronts
  declaration_fronts (item.Objects pos first rest colon is_constant of semicolon) = tt
  declaration_fronts (item.InitializedObjects pos first rest colon is_constant of becomes value semicolon) = tt
  declaration_fronts (item.Numbers pos first rest colon is_constant becomes value semicolon) = tt
  declaration_fronts (item.Instance pos id is new generic left_paren first rest right_paren semicolon) = tt
  declaration_fronts other = type_fronts other

  item_fronts : (others : Code) (i : Item) → All others → All (item_before numbers others i)
  unfolding item_before AllFronts
  item_fronts others (item.Use pos clause) all = all
  item_fronts others (item.Pragma pos clause) all = all
  item_fronts others declaration all = (declaration_fronts declaration, all)

  items_fronts : (items : List Item) → All (lowered_items numbers items)
  unfolding AllFronts
  items_fronts [] = tt
  items_fronts (i ∷ rest) = item_fronts (lowered_items numbers rest) i (items_fronts rest)

  -- ---- statements

  simple_fronts : (s : Stmt) → All (lowered_simple numbers s)
  unfolding lowered_simple AllFronts
  simple_fronts (stmt.Null pos semicolon) = tt
  simple_fronts (stmt.Assign pos target becomes value semicolon) = tt
  simple_fronts (stmt.Call pos callee semicolon) = tt
  simple_fronts (stmt.Exit pos semicolon) = tt
  simple_fronts (stmt.ExitWhen pos when condition semicolon) = tt
  simple_fronts (stmt.Return pos semicolon) = tt
  simple_fronts (stmt.ReturnValue pos value semicolon) = tt
  simple_fronts _ = tt

  stmts_fronts_laws : StatementLaws (record {
    of_statements = λ tree. All (lowered_stmts numbers tree);
    of_statement_box = λ n row. All (lowered_stmt_box numbers row);
    of_statement_row = λ n row. AllByRecursion All (stmts_row numbers row);
    of_statement = λ tree. All (lowered_stmt numbers tree);
    of_statements_box = λ n row. All (lowered_stmts_box numbers row);
    of_branches = λ n row. AllByRecursion All (elsifs_row numbers row);
    of_branch = λ tree. All (lowered_elsif numbers tree);
    of_alternative_box = λ n row. All (lowered_when_box numbers row);
    of_alternatives = λ n row. AllByRecursion All (whens_row numbers row);
    of_alternative = λ tree. All (lowered_when numbers tree);
  })
  unfolding lowered_stmts lowered_stmt_box stmts_row lowered_stmt lowered_stmts_box elsifs_row lowered_elsif lowered_when_box whens_row lowered_when AllFronts
  stmts_fronts_laws = record {
    statements_sequence = λ pos _ first _ rest by_first by_rest. (by_first, listed (stmts_row numbers rest) (by_rest));
    statement_box_end = tt;
    statement_box_more = λ _ part rest by_part. by_part;
    statement_row_end = tt;
    statement_row_more = λ _ part rest by_part by_rest. (by_part, by_rest);
    statement_null = λ pos semicolon. simple_fronts (stmt.Null pos semicolon);
    statement_assign = λ pos target becomes value semicolon. simple_fronts (stmt.Assign pos target becomes value semicolon);
    statement_call = λ pos called semicolon. simple_fronts (stmt.Call pos called semicolon);
    statement_exit = λ pos semicolon. simple_fronts (stmt.Exit pos semicolon);
    statement_exit_when = λ pos when_word condition semicolon. simple_fronts (stmt.ExitWhen pos when_word condition semicolon);
    statement_return = λ pos semicolon. simple_fronts (stmt.Return pos semicolon);
    statement_return_value = λ pos value semicolon. simple_fronts (stmt.ReturnValue pos value semicolon);
    statement_if = λ pos condition then_word _ body _ elsifs end end_if semicolon by_body by_elsifs. ((by_body, listed (elsifs_row numbers elsifs) (by_elsifs)), tt);
    statement_if_else = λ pos condition then_word _ body _ elsifs otherwise _ other end end_if semicolon by_body by_elsifs by_other. ((by_body, listed (elsifs_row numbers elsifs) (by_elsifs)), by_other);
    statement_case = λ pos selecting is _ first _ rest end end_case semicolon by_first by_rest. (by_first, listed (whens_row numbers rest) (by_rest));
    statement_loop = λ pos _ body end end_loop semicolon by_body. by_body;
    statement_while = λ pos condition loop_word _ body end end_loop semicolon by_body. by_body;
    statement_for = λ pos parameter in_word reverse steps loop_word _ body end end_loop semicolon by_body. by_body;
    statement_block = λ pos _ body end semicolon by_body. (tt, by_body);
    statement_declare_block = λ pos items begin _ body end semicolon by_body. (items_fronts items, by_body);
    statements_box_end = tt;
    statements_box_more = λ _ part rest by_part. by_part;
    branches_end = tt;
    branches_more = λ _ part rest by_part by_rest. (by_part, by_rest);
    branch_branch = λ pos condition then_word _ body by_body. by_body;
    alternative_box_end = tt;
    alternative_box_more = λ _ part rest by_part. by_part;
    alternatives_end = tt;
    alternatives_more = λ _ part rest by_part by_rest. (by_part, by_rest);
    alternative_alternative = λ pos first rest arrow _ body by_body. by_body;
  }

  stmts_fronts : (tree : Stmts) → All (lowered_stmts numbers tree)
  stmts_fronts = on_statements stmts_fronts_laws

  -- ---- units

  subprogram_fronts : (b : SubprogramBody) → AreFormalsApart (lowered_subprogram numbers b) → All (lowered_subprogram numbers b)
  unfolding AreFormalsApart lowered_subprogram AllFronts
  subprogram_fronts b apart = (apart, items_fronts b.items, stmts_fronts b.stmts)

  decl_fronts : (others : Code) (d : Decl) → (AreFormalsApart others → All others) → AreFormalsApart (decl_before numbers others d) → All (decl_before numbers others d)
  unfolding AreFormalsApart decl_before item_before AllFronts
  decl_fronts others (decl.OfItem pos (item.Use at clause)) more apart = more apart
  decl_fronts others (decl.OfItem pos (item.Pragma at clause)) more apart = more apart
  decl_fronts others (decl.OfItem pos declaration) more apart = (declaration_fronts declaration, more apart.1)
  decl_fronts others (decl.Subprogram pos spec mode semicolon) more apart = (apart.0, more apart.1)

  decls_fronts : (ds : List Decl) → AreFormalsApart (lowered_decls numbers ds) → All (lowered_decls numbers ds)
  unfolding AllFronts
  decls_fronts [] apart = tt
  decls_fronts (d ∷ rest) apart = decl_fronts (lowered_decls numbers rest) d (decls_fronts rest) apart

  private_fronts : (p : Option PrivatePart) → AreFormalsApart (lowered_private numbers p) → All (lowered_private numbers p)
  unfolding AllFronts
  private_fronts None apart = tt
  private_fronts (Some p) apart = decls_fronts p.decls apart

  part_fronts : (others : Code) (x : BodyPart) → (AreFormalsApart others → All others) → AreFormalsApart (part_before numbers others x) → All (part_before numbers others x)
  unfolding AreFormalsApart part_before AllFronts
  part_fronts others (part.Declared pos declared) more apart = decl_fronts others declared more apart
  part_fronts others (part.Completed pos body) more apart = (subprogram_fronts body apart.0, more apart.1)

  parts_fronts : (xs : List BodyPart) → AreFormalsApart (before_all (part_before numbers) xs) → All (before_all (part_before numbers) xs)
  unfolding AllFronts
  parts_fronts [] apart = tt
  parts_fronts (x ∷ rest) apart = part_fronts (before_all (part_before numbers) rest) x (parts_fronts rest) apart

  unit_fronts : (u : SourceUnit) → AreFormalsApart (lowered_unit numbers u) → All (lowered_unit numbers u)
  unfolding AreFormalsApart lowered_unit lowered_package lowered_package_body AllFronts
  unit_fronts (unit.OfPackage pos clauses p) apart = (decls_fronts p.visible apart.0, private_fronts p.private apart.1)
  unit_fronts (unit.OfBody pos clauses b) apart = parts_fronts b.parts apart
  unit_fronts (unit.OfSubprogram pos clauses body) apart = subprogram_fronts body apart

  units_fronts : (us : List SourceUnit) (u : Code) → Has (map (lowered_unit numbers) us) u → AreFormalsApart u → All u
  units_fronts [] u has apart = absurd has
  units_fronts (v ∷ rest) u (inl same) apart = subst All same (unit_fronts v (subst AreFormalsApart (sym same) apart))
  units_fronts (v ∷ rest) u (inr more) apart = units_fronts rest u more apart

  -- The fronts of the code of files.
  pub files_fronts : (files : List (List SourceUnit)) (u : Code) → Has (lowered_files numbers files) u → AreFormalsApart u → All u
  unfolding lowered_files
  files_fronts [] u has apart = absurd has
  files_fronts (us ∷ rest) u has apart = elim (Has-append_cases (map (lowered_unit numbers) us) (flat_map (map (lowered_unit numbers)) rest) u has) [
    | inl here ↦ units_fronts us u here apart
    | inr more ↦ files_fronts rest u more apart
  ]
