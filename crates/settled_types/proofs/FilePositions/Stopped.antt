-- The marks of definitions and the ends of full types stand in the order of the tokens.
use Rattle.std.proofs.Common.{ℕ, suc, inl, refl, sym, List, [], ◌∷◌, ◌++◌, map, Option, Some, None, subst, append_assoc}
use Rattle.std.specs.List.{flat_map}
use Rattle.std.proofs.lemmas.List.{append-nil}
use Rattle.std.proofs.lemmas.List.Concat.{flat_map-append}
use Rattle.machine.specs.spark_base.declared.position.Pos.{Pos}
use Rattle.ada_lexer.specs.declared.token.Symbol.TheVariants as s
use Rattle.token_reading.specs.Weights.{WeighedToken}
use Rattle.token_reading.specs.Reading.{Each}
use Rattle.token_reading.specs.declared.side.Side.{Side}
use Rattle.token_reading.specs.declared.side.Side.TheVariants.{Apart}
use Rattle.ada_tree.specs.declared.identifier.Dotted.{Dotted}
use Rattle.ada_tree.specs.declared.declaration.Item.{Item}
use Rattle.ada_tree.specs.declared.declaration.Item.TheVariants as item
use Rattle.ada_tree.specs.declared.declaration.Component.{Component}
use Rattle.ada_tree.specs.declared.declaration.Component.TheVariants as component
use Rattle.ada_tree.specs.declared.statement.Stmts.{Stmts}
use Rattle.ada_tree.specs.declared.statement.Stmt.{Stmt}
use Rattle.ada_tree.specs.declared.statement.Stmt.TheVariants as stmt
use Rattle.ada_tree.specs.declared.subprogram.Decl.{Decl}
use Rattle.ada_tree.specs.declared.subprogram.Decl.TheVariants as decl
use Rattle.ada_tree.specs.declared.unit.SourceUnit.{SourceUnit}
use Rattle.ada_tree.specs.declared.unit.SourceUnit.TheVariants as unit
use Rattle.ada_tree.specs.declared.unit.Package.{Package}
use Rattle.ada_tree.specs.declared.unit.PrivatePart.{PrivatePart}
use Rattle.ada_tree.specs.declared.unit.PackageBody.{PackageBody}
use Rattle.ada_tree.specs.declared.unit.BodyPart.{BodyPart}
use Rattle.ada_tree.specs.declared.unit.BodyPart.TheVariants as part
use Rattle.ada_tree.specs.declared.unit.SubprogramBody.{SubprogramBody}
use Rattle.ada_tree.specs.Spelling.{symbol, optional, dotted_spelling, component_spelling, item_spelling, stmts_box, stmts_spelling, stmt_box, next_stmts_spelling, stmt_spelling, elsifs_spelling, elsif_spelling, when_box, next_whens_spelling, when_spelling, decl_spelling, subprogram_spelling, body_part_spelling, private_spelling, package_spelling, package_body_spelling, unit_spelling, source_spelling}
use Rattle.ada_tree.specs.WellPlaced.{EachSome, DottedPlaced, ComponentPlaced, ItemPlaced, StmtsBoxPlaced, StmtsPlaced, StmtBoxPlaced, EachStmtPlaced, StmtPlaced, ElsifsPlaced, ElsifPlaced, WhenBoxPlaced, WhensPlaced, WhenPlaced, DeclPlaced, SubprogramPlaced, BodyPartPlaced, PrivatePlaced, PackagePlaced, PackageBodyPlaced, UnitPlaced, WellPlaced}
use Rattle.machine.specs.resolved_tree.Trees.{Code, code_list}
use Rattle.expression_lowering.specs.LoweredExpressions.{Numbers}
use Rattle.tree_lowering.specs.Lowered.{lowered_component, lowered_subtype, lowered_type, lowered_declaration, item_before, before_all, lowered_items, lowered_simple, lowered_stmts, lowered_stmt_box, stmts_row, lowered_stmt, lowered_stmts_box, elsifs_row, lowered_elsif, lowered_when_box, whens_row, lowered_when, lowered_subprogram, decl_before, part_before, lowered_decls, lowered_private, lowered_package, lowered_package_body, lowered_unit}
use Rattle.settled_types.proofs.StatementCases.{StatementLaws, on_statements}
use Rattle.settled_types.specs.FilePositions.Order.{IsLeftOf, token_position, spelled_positions}
use Rattle.settled_types.specs.FilePositions.Stops.{group_stops, list_stops, stops, all_stops}
use Rattle.settled_types.proofs.FilePositions.Rows.{left_behind, left_both}

-- these positions are of tokens of the spelling, in its order
record Stands (ps : List Pos) (ms : List WeighedToken) : Type 0 where
  pub in_order : IsLeftOf ps (spelled_positions ms)

none : {ms : List WeighedToken} → Stands [] ms
none = record { in_order = tt }

both : {ps qs : List Pos} {ms ns : List WeighedToken} → Stands ps ms → Stands qs ns → Stands (ps ++ qs) (ms ++ ns)
both {ps = ps} {qs = qs} {ms = ms} {ns = ns} a b = record {
  in_order = rw (flat_map-append (λ (m : WeighedToken). token_position m.token) ms ns)
      (left_both ps qs (spelled_positions ms) (spelled_positions ns) a.in_order b.in_order);
}

grouped : (ps qs rs : List Pos) {ms : List WeighedToken} → Stands (ps ++ (qs ++ rs)) ms → Stands ((ps ++ qs) ++ rs) ms
grouped ps qs rs {ms = ms} a = subst (λ all. Stands all ms) (sym (append_assoc ps qs rs)) a

past : (m : WeighedToken) {ps : List Pos} {ns : List WeighedToken} → Stands ps ns → Stands ps (m ∷ ns)
past m {ps = ps} {ns = ns} a = record { in_order = left_behind ps (token_position m.token) (spelled_positions ns) a.in_order }

after : (ms : List WeighedToken) {ps : List Pos} {ns : List WeighedToken} → Stands ps ns → Stands ps (ms ++ ns)
after ms a = both (none {ms = ms}) a

-- tokens at the end
ahead : (ns : List WeighedToken) {ps : List Pos} {ms : List WeighedToken} → Stands ps ms → Stands ps (ms ++ ns)
ahead ns {ps = ps} {ms = ms} a = subst (λ all. Stands all (ms ++ ns)) (append-nil ps) (both a (none {ms = ns}))

marked : (side : Side) (dotted : Dotted) → DottedPlaced dotted → Stands (dotted.pos ∷ []) (dotted_spelling side dotted)
unfolding DottedPlaced dotted_spelling
marked side dotted placed = record { in_order = inl (placed, tt) }

ends : (semicolon : Pos) → Stands (semicolon ∷ []) (symbol Apart s.Semicolon semicolon ∷ [])
ends semicolon = record { in_order = inl (refl, tt) }

module _ (numbers : Numbers) where
  -- ---- items

  component_stands : (c : Component) → ComponentPlaced c → Stands (group_stops (lowered_component numbers c)) (component_spelling c)
  unfolding ComponentPlaced lowered_component component_spelling
  component_stands (component.Fields pos first rest colon mark semicolon) placed =
      past _ (after _ (past _ (ahead _ (marked _ mark placed.1))))

  components_stand : (cs : List Component) → Each ComponentPlaced cs
      → Stands (list_stops (code_list (map (lowered_component numbers) cs))) (flat_map component_spelling cs)
  components_stand [] placed = none
  components_stand (c ∷ rest) placed = both (component_stands c placed.0) (components_stand rest placed.1)

  declaration_stands : (d : ℕ) (i : Item) → ItemPlaced d i → Stands (stops (lowered_declaration numbers i)) (item_spelling d i)
  unfolding ItemPlaced stops lowered_declaration lowered_type lowered_subtype item_spelling
  declaration_stands d (item.EnumerationType pos id is left_paren first rest right_paren semicolon) placed =
      past _ (past _ (past _ (past _ (past _ (after _ (past _ (ends semicolon)))))))
  declaration_stands d (item.RecordType pos id is record_word first rest end end_record semicolon) placed =
      past _ (past _ (past _ (past _
      (grouped (group_stops (lowered_component numbers first)) (list_stops (code_list (map (lowered_component numbers) rest))) (semicolon ∷ [])
      (both (component_stands first placed.0) (both (components_stand rest placed.1) (past _ (past _ (ends semicolon)))))))))
  declaration_stands d (item.ArrayType pos id is array left_paren index right_paren of_word element semicolon) placed =
      past _ (past _ (past _ (past _ (past _ (after _ (past _ (past _ (both (marked _ element placed.1) (ends semicolon)))))))))
  declaration_stands d (item.AccessType pos id is access designated semicolon) placed =
      past _ (past _ (past _ (past _ (after _ (ends semicolon)))))
  declaration_stands d (item.Subtype pos id is mark semicolon) placed = past _ (past _ (past _ (ahead _ (marked _ mark placed))))
  declaration_stands d (item.ConstrainedSubtype pos id is mark of_range low dots high semicolon) placed =
      past _ (past _ (past _ (ahead _ (marked _ mark placed.0))))
  declaration_stands d other placed = none

  item_stands : (d : ℕ) (others : Code) (i : Item) (ms : List WeighedToken) → ItemPlaced d i → Stands (stops others) ms
      → Stands (stops (item_before numbers others i)) (item_spelling d i ++ ms)
  unfolding stops item_before
  item_stands d others (item.Use pos clause) ms placed rest = after _ rest
  item_stands d others (item.Pragma pos clause) ms placed rest = after _ rest
  item_stands d others declaration ms placed rest = both (declaration_stands d declaration placed) rest

  items_stand : (d : ℕ) (items : List Item) → Each (ItemPlaced d) items → Stands (stops (lowered_items numbers items)) (flat_map (item_spelling d) items)
  unfolding stops
  items_stand d [] placed = none
  items_stand d (i ∷ rest) placed =
      item_stands d (lowered_items numbers rest) i (flat_map (item_spelling d) rest) placed.0 (items_stand d rest placed.1)

  -- ---- statements

  simple_stands : (d : ℕ) (x : Stmt) → Stands (stops (lowered_simple numbers x)) (stmt_spelling d x)
  unfolding stops lowered_simple
  simple_stands d (stmt.Null pos semicolon) = none
  simple_stands d (stmt.Assign pos target becomes value semicolon) = none
  simple_stands d (stmt.Call pos callee semicolon) = none
  simple_stands d (stmt.Exit pos semicolon) = none
  simple_stands d (stmt.ExitWhen pos when condition semicolon) = none
  simple_stands d (stmt.Return pos semicolon) = none
  simple_stands d (stmt.ReturnValue pos value semicolon) = none
  simple_stands d other = none

  stmts_stand_laws : StatementLaws (record {
    of_statements = λ x. (d : ℕ) → StmtsPlaced d x → Stands (stops (lowered_stmts numbers x)) (stmts_spelling d x);
    of_statement_box = λ n row. (d : ℕ) → StmtBoxPlaced d row → Stands (stops (lowered_stmt_box numbers row)) (stmt_box d row);
    of_statement_row = λ n row. (d : ℕ) → EachStmtPlaced d row → Stands (stops (code_list (stmts_row numbers row))) (next_stmts_spelling d row);
    of_statement = λ x. (d : ℕ) → StmtPlaced d x → Stands (stops (lowered_stmt numbers x)) (stmt_spelling d x);
    of_statements_box = λ n row. (d : ℕ) → StmtsBoxPlaced d row → Stands (stops (lowered_stmts_box numbers row)) (stmts_box d row);
    of_branches = λ n row. (d : ℕ) → ElsifsPlaced d row → Stands (stops (code_list (elsifs_row numbers row))) (elsifs_spelling d row);
    of_branch = λ x. (d : ℕ) → ElsifPlaced d x → Stands (stops (lowered_elsif numbers x)) (elsif_spelling d x);
    of_alternative_box = λ n row. (d : ℕ) → WhenBoxPlaced d row → Stands (stops (lowered_when_box numbers row)) (when_box d row);
    of_alternatives = λ n row. (d : ℕ) → WhensPlaced d row → Stands (stops (code_list (whens_row numbers row))) (next_whens_spelling d row);
    of_alternative = λ x. (d : ℕ) → WhenPlaced d x → Stands (stops (lowered_when numbers x)) (when_spelling d x);
  })
  unfolding stops lowered_stmts lowered_stmt_box stmts_row lowered_stmt lowered_stmts_box elsifs_row lowered_elsif lowered_when_box whens_row lowered_when stmts_box stmts_spelling stmt_box next_stmts_spelling stmt_spelling elsifs_spelling elsif_spelling when_box next_whens_spelling when_spelling StmtsBoxPlaced StmtsPlaced StmtBoxPlaced EachStmtPlaced StmtPlaced ElsifsPlaced ElsifPlaced WhenBoxPlaced WhensPlaced WhenPlaced
  stmts_stand_laws = record {
    statements_sequence = λ pos _ first _ rest by_first by_rest d placed. both (by_first d placed.1) (by_rest d placed.2);
    statement_box_end = λ d placed. none;
    statement_box_more = λ _ part rest by_part d placed. by_part d placed;
    statement_row_end = λ d placed. none;
    statement_row_more = λ _ part rest by_part by_rest d placed. both (by_part d placed.0) (by_rest d placed.1);
    statement_null = λ pos semicolon d placed. simple_stands d (stmt.Null pos semicolon);
    statement_assign = λ pos target becomes value semicolon d placed. simple_stands d (stmt.Assign pos target becomes value semicolon);
    statement_call = λ pos called semicolon d placed. simple_stands d (stmt.Call pos called semicolon);
    statement_exit = λ pos semicolon d placed. simple_stands d (stmt.Exit pos semicolon);
    statement_exit_when = λ pos when_word condition semicolon d placed. simple_stands d (stmt.ExitWhen pos when_word condition semicolon);
    statement_return = λ pos semicolon d placed. simple_stands d (stmt.Return pos semicolon);
    statement_return_value = λ pos value semicolon d placed. simple_stands d (stmt.ReturnValue pos value semicolon);
    statement_if = λ pos condition then_word _ body _ elsifs end end_if semicolon by_body by_elsifs d placed. past _ (after _ (past _ (grouped (stops (lowered_stmts_box numbers body)) (stops (code_list (elsifs_row numbers elsifs))) []
        (both (by_body (suc d) placed.1) (both (by_elsifs (suc d) placed.2) none)))));
    statement_if_else = λ pos condition then_word _ body _ elsifs otherwise _ other end end_if semicolon by_body by_elsifs by_other d placed. past _ (after _ (past _ (grouped (stops (lowered_stmts_box numbers body)) (stops (code_list (elsifs_row numbers elsifs))) (stops (lowered_stmts_box numbers other))
        (both (by_body (suc d) placed.1) (both (by_elsifs (suc d) placed.2)
        (past _ (ahead _ (by_other (suc d) placed.3))))))));
    statement_case = λ pos selecting is _ first _ rest end end_case semicolon by_first by_rest d placed. past _ (after _ (past _ (both (by_first (suc d) placed.1) (ahead _ (by_rest (suc d) placed.2)))));
    statement_loop = λ pos _ body end end_loop semicolon by_body d placed. past _ (ahead _ (by_body (suc d) placed));
    statement_while = λ pos condition loop_word _ body end end_loop semicolon by_body d placed. past _ (after _ (past _ (ahead _ (by_body (suc d) placed.1))));
    statement_for = λ pos parameter in_word reverse steps loop_word _ body end end_loop semicolon by_body d placed. past _ (past _ (past _ (after _ (after _ (past _ (ahead _ (by_body (suc d) placed.1)))))));
    statement_block = λ pos _ body end semicolon by_body d placed. past _ (ahead _ (by_body (suc d) placed));
    statement_declare_block = λ pos items begin _ body end semicolon by_body d placed. past _ (both (items_stand (suc d) items placed.0) (past _ (ahead _ (by_body (suc d) placed.1))));
    statements_box_end = λ d placed. none;
    statements_box_more = λ _ part rest by_part d placed. by_part d placed;
    branches_end = λ d placed. none;
    branches_more = λ _ part rest by_part by_rest d placed. both (by_part d placed.0) (by_rest d placed.1);
    branch_branch = λ pos condition then_word _ body by_body d placed. past _ (after _ (past _ (by_body d placed.1)));
    alternative_box_end = λ d placed. none;
    alternative_box_more = λ _ part rest by_part d placed. by_part d placed;
    alternatives_end = λ d placed. none;
    alternatives_more = λ _ part rest by_part by_rest d placed. both (by_part d placed.0) (by_rest d placed.1);
    alternative_alternative = λ pos first rest arrow _ body by_body d placed. past _ (after _ (after _ (past _ (by_body d placed.2))));
  }

  stmts_stand : (d : ℕ) (x : Stmts) → StmtsPlaced d x → Stands (stops (lowered_stmts numbers x)) (stmts_spelling d x)
  stmts_stand d x = on_statements stmts_stand_laws x d

  -- ---- units

  subprogram_stands : (d : ℕ) (b : SubprogramBody) → SubprogramPlaced d b → Stands (stops (lowered_subprogram numbers b)) (subprogram_spelling d b)
  unfolding stops lowered_subprogram subprogram_spelling SubprogramPlaced
  subprogram_stands d b placed =
      after _ (after _ (past _ (both (items_stand (suc d) b.items placed.2) (past _ (ahead _ (stmts_stand (suc d) b.stmts placed.3))))))

  decl_stands : (d : ℕ) (others : Code) (x : Decl) (ms : List WeighedToken) → DeclPlaced d x → Stands (stops others) ms
      → Stands (stops (decl_before numbers others x)) (decl_spelling d x ++ ms)
  unfolding stops decl_before decl_spelling DeclPlaced
  decl_stands d others (decl.OfItem pos declared) ms placed rest = item_stands d others declared ms placed.1 rest
  decl_stands d others (decl.Subprogram pos spec mode semicolon) ms placed rest = after _ rest

  decls_stand : (d : ℕ) (xs : List Decl) → Each (DeclPlaced d) xs → Stands (stops (lowered_decls numbers xs)) (flat_map (decl_spelling d) xs)
  unfolding stops
  decls_stand d [] placed = none
  decls_stand d (x ∷ rest) placed =
      decl_stands d (lowered_decls numbers rest) x (flat_map (decl_spelling d) rest) placed.0 (decls_stand d rest placed.1)

  part_stands : (d : ℕ) (others : Code) (x : BodyPart) (ms : List WeighedToken) → BodyPartPlaced d x → Stands (stops others) ms
      → Stands (stops (part_before numbers others x)) (body_part_spelling d x ++ ms)
  unfolding stops part_before body_part_spelling BodyPartPlaced
  part_stands d others (part.Declared pos declared) ms placed rest = decl_stands d others declared ms placed.1 rest
  part_stands d others (part.Completed pos body) ms placed rest = both (subprogram_stands d body placed.1) rest

  parts_stand : (d : ℕ) (xs : List BodyPart) → Each (BodyPartPlaced d) xs
      → Stands (stops (before_all (part_before numbers) xs)) (flat_map (body_part_spelling d) xs)
  unfolding stops
  parts_stand d [] placed = none
  parts_stand d (x ∷ rest) placed =
      part_stands d (before_all (part_before numbers) rest) x (flat_map (body_part_spelling d) rest) placed.0 (parts_stand d rest placed.1)

  private_stands : (d : ℕ) (o : Option PrivatePart) → EachSome (PrivatePlaced d) o → Stands (stops (lowered_private numbers o)) (optional (private_spelling d) o)
  unfolding stops private_spelling PrivatePlaced
  private_stands d None placed = none
  private_stands d (Some x) placed = past _ (decls_stand d x.decls placed)

  package_stands : (d : ℕ) (p : Package) → PackagePlaced d p → Stands (stops (lowered_package numbers p)) (package_spelling d p)
  unfolding stops lowered_package package_spelling PackagePlaced
  package_stands d p placed =
      past _ (past _ (after _ (past _ (both (decls_stand (suc d) p.visible placed.0) (ahead _ (private_stands (suc d) p.private placed.1))))))

  package_body_stands : (d : ℕ) (b : PackageBody) → PackageBodyPlaced d b → Stands (stops (lowered_package_body numbers b)) (package_body_spelling d b)
  unfolding stops lowered_package_body package_body_spelling PackageBodyPlaced
  package_body_stands d b placed = past _ (past _ (past _ (after _ (past _ (ahead _ (parts_stand (suc d) b.parts placed))))))

  unit_stands : (u : SourceUnit) → UnitPlaced u → Stands (stops (lowered_unit numbers u)) (unit_spelling u)
  unfolding lowered_unit unit_spelling UnitPlaced
  unit_stands (unit.OfPackage pos clauses whole) placed = after _ (package_stands 0 whole placed.2)
  unit_stands (unit.OfBody pos clauses body) placed = after _ (package_body_stands 0 body placed.2)
  unit_stands (unit.OfSubprogram pos clauses body) placed = after _ (subprogram_stands 0 body placed.2)

  units_stand : (units : List SourceUnit) → Each UnitPlaced units → Stands (all_stops (map (lowered_unit numbers) units)) (source_spelling units)
  units_stand [] placed = none
  units_stand (u ∷ rest) placed = both (unit_stands u placed.0) (units_stand rest placed.1)

  -- The marks and ends of a file.
  pub file_stops : (units : List SourceUnit) → WellPlaced units → IsLeftOf (all_stops (map (lowered_unit numbers) units)) (spelled_positions (source_spelling units))
  file_stops units placed = (units_stand units placed).in_order
