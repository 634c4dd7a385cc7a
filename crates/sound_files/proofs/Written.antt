-- The units of files are as the grammar has them. Where they break no sentence, each exit stands in a loop.
use Rattle.std.proofs.Common.{◌≡◌, refl, sym, subst, inl, inr, arith, ℕ, Bool, true, false, ◌&&◌, ◌||◌, List, [], ◌∷◌, ◌++◌, map, Option, None, Some}
use Rattle.std.specs.Prelude.{flat_map}
use Rattle.std.specs.List.{AllByRecursion}
use Rattle.machine.specs.spark_base.Lists.{Has}
use Rattle.soundness.proofs.Lists.{Has-append_cases}
use Rattle.ada_tree.specs.declared.declaration.Item.{Item}
use Rattle.ada_tree.specs.declared.declaration.Item.TheVariants as item
use Rattle.ada_tree.specs.declared.statement.Stmts.{Stmts}
use Rattle.ada_tree.specs.declared.statement.Stmt.{Stmt}
use Rattle.ada_tree.specs.declared.statement.Stmt.TheVariants as stmt
use Rattle.ada_tree.specs.declared.subprogram.Decl.{Decl}
use Rattle.ada_tree.specs.declared.subprogram.Decl.TheVariants as decl
use Rattle.ada_tree.specs.declared.subprogram.Subspec.{Subspec}
use Rattle.ada_tree.specs.declared.subprogram.Subspec.TheVariants as subspec
use Rattle.ada_tree.specs.declared.unit.SourceUnit.{SourceUnit}
use Rattle.ada_tree.specs.declared.unit.SourceUnit.TheVariants as unit
use Rattle.ada_tree.specs.declared.unit.PrivatePart.{PrivatePart}
use Rattle.ada_tree.specs.declared.unit.BodyPart.{BodyPart}
use Rattle.ada_tree.specs.declared.unit.BodyPart.TheVariants as part
use Rattle.ada_tree.specs.declared.unit.SubprogramBody.{SubprogramBody}
use Rattle.machine.specs.resolved_tree.Trees.{Code, code_list, NoMore, Exit, If, Branch, Case, When as Alternative, Block, More, SubDecl}
use Rattle.expression_lowering.specs.LoweredExpressions.{Numbers}
use Rattle.tree_lowering.specs.Lowered.{declared, lowered_subtype, lowered_type, lowered_declaration, item_before, before_all, lowered_items, lowered_simple, lowered_stmts, lowered_stmt_box, stmts_row, lowered_stmt, lowered_stmts_box, elsifs_row, lowered_elsif, lowered_when_box, whens_row, lowered_when, lowered_subspec, lowered_subprogram, decl_before, part_before, lowered_decls, lowered_private, lowered_package, lowered_package_body, lowered_unit, lowered_files}
use Rattle.machine.specs.type_definitions.declared.judgement.Where.TheVariants as stands
use Rattle.machine.specs.type_definitions.Entries.{boolean}
use Rattle.machine.specs.type_definitions.Faults.{demand}
use Rattle.machine.specs.type_definitions.Names.{Context}
use Rattle.machine.specs.type_definitions.Expressions.{faults, own_type}
use Rattle.machine.specs.type_definitions.Statements.{condition, coverage, type_or_integer, is_one_choice}
use Rattle.machine.specs.type_definitions.Gathered.{declared_number, in_hidden}
use Rattle.machine.specs.type_definitions.Declarations.{code_faults, alternatives_faults, alternative_faults, body_faults, in_body, choices_of, choices_faults, selector_faults, is_last}
use Rattle.machine.specs.resolved_tree.Trees.{code_items}
use Rattle.settled_types.proofs.StatementCases.{StatementLaws, on_statements}
use Rattle.settled_types.specs.NamedFiles.Library.{is_procedure_spec, is_no_function}
use Rattle.settled_types.specs.OrderLaws.Written.{is_declaration, are_declarations, are_statements, is_statement, are_branches, is_branch, are_alternatives, is_alternative, is_body, are_parts, is_procedure, is_unit}
use Rattle.settled_types.proofs.OrderLaws.Mains.{nothing_left, nothing_right, demanded}

both : (a b : Bool) → a ≡ true → b ≡ true → a && b ≡ true
both a b p q = grind (arith, p, q)

first : (a b : Bool) → a && b ≡ true → a ≡ true
first a b p = grind (arith, p)

second : (a b : Bool) → a && b ≡ true → b ≡ true
second a b p = grind (arith, p)

left : (a b : Bool) → a ≡ true → a || b ≡ true
left a b p = grind (arith, p)

-- ---- with each exit as if in a loop

abbrev all_statements : List Code → Bool
all_statements [] = true
all_statements (a ∷ rest) = is_statement true a && all_statements rest

abbrev all_branches : List Code → Bool
all_branches [] = true
all_branches (a ∷ rest) = is_branch true a && all_branches rest

abbrev all_alternatives : List Code → Bool
all_alternatives [] = true
all_alternatives (a ∷ rest) = is_alternative true a && all_alternatives rest

list_statements : (codes : List Code) → all_statements codes ≡ true → are_statements true (code_list codes) ≡ true
unfolding are_statements
list_statements [] are = refl
list_statements (a ∷ rest) are =
    both (is_statement true a) (are_statements true (code_list rest)) (first (is_statement true a) (all_statements rest) are)
    (list_statements rest (second (is_statement true a) (all_statements rest) are))

list_branches : (codes : List Code) → all_branches codes ≡ true → are_branches true (code_list codes) ≡ true
unfolding are_branches
list_branches [] are = refl
list_branches (a ∷ rest) are =
    both (is_branch true a) (are_branches true (code_list rest)) (first (is_branch true a) (all_branches rest) are)
    (list_branches rest (second (is_branch true a) (all_branches rest) are))

list_alternatives : (codes : List Code) → all_alternatives codes ≡ true → are_alternatives true (code_list codes) ≡ true
unfolding are_alternatives
list_alternatives [] are = refl
list_alternatives (a ∷ rest) are =
    both (is_alternative true a) (are_alternatives true (code_list rest)) (first (is_alternative true a) (all_alternatives rest) are)
    (list_alternatives rest (second (is_alternative true a) (all_alternatives rest) are))

module _ (numbers : Numbers) where
  -- ---- declarations

  subtype_written : (i : Item) → is_declaration (lowered_subtype numbers i) ≡ true
  unfolding lowered_subtype
  subtype_written (item.Subtype pos id is mark semicolon) = refl
  subtype_written (item.ConstrainedSubtype pos id is mark of_range low dots high semicolon) = refl
  subtype_written _ = refl

  type_written : (i : Item) → is_declaration (lowered_type numbers i) ≡ true
  unfolding lowered_type
  type_written (item.IncompleteType pos id semicolon) = refl
  type_written (item.PrivateType pos id is private semicolon) = refl
  type_written (item.EnumerationType pos id is left_paren first rest right_paren semicolon) = refl
  type_written (item.RecordType pos id is record_word first rest end end_record semicolon) = refl
  type_written (item.ArrayType pos id is array left_paren index right_paren of element semicolon) = refl
  type_written (item.AccessType pos id is access designated semicolon) = refl
  type_written other = subtype_written other

  declaration_written : (i : Item) → is_declaration (lowered_declaration numbers i) ≡ true
  unfolding lowered_declaration
  declaration_written (item.Objects pos first rest colon is_constant of semicolon) = refl
  declaration_written (item.InitializedObjects pos first rest colon is_constant of becomes value semicolon) = refl
  declaration_written (item.Numbers pos first rest colon is_constant becomes value semicolon) = refl
  declaration_written (item.Instance pos id is new generic left_paren first rest right_paren semicolon) = refl
  declaration_written other = type_written other

  item_written : (others : Code) (i : Item) → are_declarations others ≡ true → are_declarations (item_before numbers others i) ≡ true
  unfolding are_declarations item_before
  item_written others (item.Use pos clause) are = are
  item_written others (item.Pragma pos clause) are = are
  item_written others declaration are =
      both (is_declaration (lowered_declaration numbers declaration)) (are_declarations others) (declaration_written declaration) are

  items_written : (items : List Item) → are_declarations (lowered_items numbers items) ≡ true
  unfolding are_declarations
  items_written [] = refl
  items_written (i ∷ rest) = item_written (lowered_items numbers rest) i (items_written rest)

  decl_written : (others : Code) (d : Decl) → are_declarations others ≡ true → are_declarations (decl_before numbers others d) ≡ true
  unfolding are_declarations decl_before
  decl_written others (decl.OfItem pos declaration) are = item_written others declaration are
  decl_written others (decl.Subprogram pos spec mode semicolon) are = are

  decls_written : (decls : List Decl) → are_declarations (lowered_decls numbers decls) ≡ true
  unfolding are_declarations
  decls_written [] = refl
  decls_written (d ∷ rest) = decl_written (lowered_decls numbers rest) d (decls_written rest)

  private_written : (p : Option PrivatePart) → are_declarations (lowered_private numbers p) ≡ true
  unfolding are_declarations
  private_written None = refl
  private_written (Some p) = decls_written p.decls

  no_items : are_declarations NoMore ≡ true
  unfolding are_declarations
  no_items = refl

  -- ---- statements

  simple_written : (s : Stmt) → is_statement true (lowered_simple numbers s) ≡ true
  unfolding is_statement lowered_simple
  simple_written (stmt.Null pos semicolon) = refl
  simple_written (stmt.Assign pos target becomes value semicolon) = refl
  simple_written (stmt.Call pos callee semicolon) = refl
  simple_written (stmt.Exit pos semicolon) = refl
  simple_written (stmt.ExitWhen pos when condition semicolon) = refl
  simple_written (stmt.Return pos semicolon) = refl
  simple_written (stmt.ReturnValue pos value semicolon) = refl
  simple_written _ = refl

  stmts_written_laws : StatementLaws (record {
    of_statements = λ tree. are_statements true (lowered_stmts numbers tree) ≡ true;
    of_statement_box = λ n row. is_statement true (lowered_stmt_box numbers row) ≡ true;
    of_statement_row = λ n row. all_statements (stmts_row numbers row) ≡ true;
    of_statement = λ tree. is_statement true (lowered_stmt numbers tree) ≡ true;
    of_statements_box = λ n row. are_statements true (lowered_stmts_box numbers row) ≡ true;
    of_branches = λ n row. all_branches (elsifs_row numbers row) ≡ true;
    of_branch = λ tree. is_branch true (lowered_elsif numbers tree) ≡ true;
    of_alternative_box = λ n row. is_alternative true (lowered_when_box numbers row) ≡ true;
    of_alternatives = λ n row. all_alternatives (whens_row numbers row) ≡ true;
    of_alternative = λ tree. is_alternative true (lowered_when numbers tree) ≡ true;
  })
  unfolding are_statements is_statement are_branches is_branch are_alternatives is_alternative lowered_stmts lowered_stmt_box stmts_row lowered_stmt lowered_stmts_box elsifs_row lowered_elsif lowered_when_box whens_row lowered_when
  stmts_written_laws = record {
    statements_sequence = λ pos _ first _ rest by_first by_rest. both (is_statement true (lowered_stmt_box numbers first)) (are_statements true (code_list (stmts_row numbers rest))) (by_first)
        (list_statements (stmts_row numbers rest) (by_rest));
    statement_box_end = refl;
    statement_box_more = λ _ part rest by_part. by_part;
    statement_row_end = refl;
    statement_row_more = λ _ part rest by_part by_rest. both (is_statement true (lowered_stmt numbers part)) (all_statements (stmts_row numbers rest)) (by_part) (by_rest);
    statement_null = λ pos semicolon. simple_written (stmt.Null pos semicolon);
    statement_assign = λ pos target becomes value semicolon. simple_written (stmt.Assign pos target becomes value semicolon);
    statement_call = λ pos called semicolon. simple_written (stmt.Call pos called semicolon);
    statement_exit = λ pos semicolon. simple_written (stmt.Exit pos semicolon);
    statement_exit_when = λ pos when_word condition semicolon. simple_written (stmt.ExitWhen pos when_word condition semicolon);
    statement_return = λ pos semicolon. simple_written (stmt.Return pos semicolon);
    statement_return_value = λ pos value semicolon. simple_written (stmt.ReturnValue pos value semicolon);
    statement_if = λ pos condition then_word _ body _ elsifs end end_if semicolon by_body by_elsifs. both (are_statements true (lowered_stmts_box numbers body) && are_branches true (code_list (elsifs_row numbers elsifs))) true
        (both (are_statements true (lowered_stmts_box numbers body)) (are_branches true (code_list (elsifs_row numbers elsifs))) (by_body)
        (list_branches (elsifs_row numbers elsifs) (by_elsifs))) refl;
    statement_if_else = λ pos condition then_word _ body _ elsifs otherwise _ other end end_if semicolon by_body by_elsifs by_other. both (are_statements true (lowered_stmts_box numbers body) && are_branches true (code_list (elsifs_row numbers elsifs)))
        (are_statements true (lowered_stmts_box numbers other))
        (both (are_statements true (lowered_stmts_box numbers body)) (are_branches true (code_list (elsifs_row numbers elsifs))) (by_body)
        (list_branches (elsifs_row numbers elsifs) (by_elsifs))) (by_other);
    statement_case = λ pos selecting is _ first _ rest end end_case semicolon by_first by_rest. both (is_alternative true (lowered_when_box numbers first)) (are_alternatives true (code_list (whens_row numbers rest))) (by_first)
        (list_alternatives (whens_row numbers rest) (by_rest));
    statement_loop = λ pos _ body end end_loop semicolon by_body. by_body;
    statement_while = λ pos condition loop_word _ body end end_loop semicolon by_body. by_body;
    statement_for = λ pos parameter in_word reverse steps loop_word _ body end end_loop semicolon by_body. by_body;
    statement_block = λ pos _ body end semicolon by_body. both (are_declarations NoMore) (are_statements true (lowered_stmts_box numbers body)) no_items (by_body);
    statement_declare_block = λ pos items begin _ body end semicolon by_body. both (are_declarations (lowered_items numbers items)) (are_statements true (lowered_stmts_box numbers body)) (items_written items) (by_body);
    statements_box_end = refl;
    statements_box_more = λ _ part rest by_part. by_part;
    branches_end = refl;
    branches_more = λ _ part rest by_part by_rest. both (is_branch true (lowered_elsif numbers part)) (all_branches (elsifs_row numbers rest)) (by_part) (by_rest);
    branch_branch = λ pos condition then_word _ body by_body. by_body;
    alternative_box_end = refl;
    alternative_box_more = λ _ part rest by_part. by_part;
    alternatives_end = refl;
    alternatives_more = λ _ part rest by_part by_rest. both (is_alternative true (lowered_when numbers part)) (all_alternatives (whens_row numbers rest)) (by_part) (by_rest);
    alternative_alternative = λ pos first rest arrow _ body by_body. by_body;
  }

  stmts_written : (tree : Stmts) → are_statements true (lowered_stmts numbers tree) ≡ true
  stmts_written = on_statements stmts_written_laws

-- ---- each exit stands in a loop

module _ (looped : Bool) where
  mutual
    unfolding are_statements is_statement are_branches is_branch are_alternatives is_alternative code_faults alternatives_faults alternative_faults

    statements_in : (c : Context) → (c.in_loop ≡ true → looped ≡ true) → (code : Code) → are_statements true code ≡ true → code_faults c code ≡ []
        → are_statements looped code ≡ true
    statements_in c loop (More a rest) are none =
        both (is_statement looped a) (are_statements looped rest)
        (statement_in c loop a (first (is_statement true a) (are_statements true rest) are) (nothing_left (code_faults c a) (code_faults c rest) none))
        (statements_in c loop rest (second (is_statement true a) (are_statements true rest) are) (nothing_right (code_faults c a) (code_faults c rest) none))
    statements_in c loop code are none = are

    statement_in : (c : Context) → (c.in_loop ≡ true → looped ≡ true) → (code : Code) → is_statement true code ≡ true → code_faults c code ≡ []
        → is_statement looped code ≡ true
    statement_in c loop (Exit p when) is none = loop (demanded 3 p c.in_loop (nothing_left (demand 3 p c.in_loop) (condition c when) none))
    statement_in c loop (If p branches otherwise) is none =
        both (are_branches looped branches) (are_statements looped otherwise)
        (branches_in c loop branches (first (are_branches true branches) (are_statements true otherwise) is) (nothing_left (code_faults c branches) (code_faults c otherwise) none))
        (statements_in c loop otherwise (second (are_branches true branches) (are_statements true otherwise) is) (nothing_right (code_faults c branches) (code_faults c otherwise) none))
    statement_in c loop (Case p x whens) is none =
        let t : ℕ = type_or_integer (own_type c x) in
        alternatives_in c loop t whens is
        (nothing_right (coverage c p x (choices_of whens)) (alternatives_faults c t whens)
        (nothing_right (selector_faults c x) (coverage c p x (choices_of whens) ++ alternatives_faults c t whens) none))
    statement_in c loop (Block p items stmts end) is none =
        both (are_declarations items) (are_statements looped stmts) (first (are_declarations items) (are_statements true stmts) is)
        (statements_in c loop stmts (second (are_declarations items) (are_statements true stmts) is) (nothing_right (code_faults c items) (code_faults c stmts) none))
    statement_in c loop code is none = is

    branches_in : (c : Context) → (c.in_loop ≡ true → looped ≡ true) → (code : Code) → are_branches true code ≡ true → code_faults c code ≡ []
        → are_branches looped code ≡ true
    branches_in c loop (More a rest) are none =
        both (is_branch looped a) (are_branches looped rest)
        (branch_in c loop a (first (is_branch true a) (are_branches true rest) are) (nothing_left (code_faults c a) (code_faults c rest) none))
        (branches_in c loop rest (second (is_branch true a) (are_branches true rest) are) (nothing_right (code_faults c a) (code_faults c rest) none))
    branches_in c loop code are none = are

    branch_in : (c : Context) → (c.in_loop ≡ true → looped ≡ true) → (code : Code) → is_branch true code ≡ true → code_faults c code ≡ []
        → is_branch looped code ≡ true
    branch_in c loop (Branch p e stmts) is none =
        statements_in c loop stmts is (nothing_right (faults c stands.Elsewhere boolean e) (code_faults c stmts) none)
    branch_in c loop code is none = is

    alternatives_in : (c : Context) → (c.in_loop ≡ true → looped ≡ true) → (t : ℕ) (code : Code) → are_alternatives true code ≡ true
        → alternatives_faults c t code ≡ [] → are_alternatives looped code ≡ true
    alternatives_in c loop t (More a rest) are none =
        both (is_alternative looped a) (are_alternatives looped rest)
        (alternative_in c loop t (is_last rest) a (first (is_alternative true a) (are_alternatives true rest) are)
        (nothing_left (alternative_faults c t (is_last rest) a) (alternatives_faults c t rest) none))
        (alternatives_in c loop t rest (second (is_alternative true a) (are_alternatives true rest) are)
        (nothing_right (alternative_faults c t (is_last rest) a) (alternatives_faults c t rest) none))
    alternatives_in c loop t code are none = are

    alternative_in : (c : Context) → (c.in_loop ≡ true → looped ≡ true) → (t : ℕ) (last : Bool) (code : Code) → is_alternative true code ≡ true
        → alternative_faults c t last code ≡ [] → is_alternative looped code ≡ true
    alternative_in c loop t last (Alternative choices stmts) is none =
        statements_in c loop stmts is (nothing_right (choices_faults c t (is_one_choice (code_items choices) && last) choices) (code_faults c stmts) none)
    alternative_in c loop t last code is none = is

-- ---- units

module _ (numbers : Numbers) where
  body_in : (c : Context) (body : SubprogramBody) → code_faults c (lowered_subprogram numbers body) ≡ []
      → are_declarations (lowered_items numbers body.items) && are_statements false (lowered_stmts numbers body.stmts) ≡ true
  unfolding code_faults lowered_subprogram
  body_in c body none =
      let front : Code = lowered_subspec numbers body.spec in
      let items : Code = lowered_items numbers body.items in
      let stmts : Code = lowered_stmts numbers body.stmts in
      let inner : Context = in_body front c in
      both (are_declarations items) (are_statements false stmts) (items_written numbers body.items)
      (statements_in false inner (λ e. e) stmts (stmts_written numbers body.stmts)
      (nothing_right (code_faults inner items) (code_faults inner stmts)
      (nothing_right (body_faults c front) (code_faults inner items ++ code_faults inner stmts) none)))

  item_part : (c : Context) (others : Code) (i : Item) → (code_faults c others ≡ [] → are_parts others ≡ true)
      → code_faults c (item_before numbers others i) ≡ [] → are_parts (item_before numbers others i) ≡ true
  unfolding code_faults item_before are_parts
  item_part c others (item.Use pos clause) keeps none = keeps none
  item_part c others (item.Pragma pos clause) keeps none = keeps none
  item_part c others declaration keeps none =
      let d : Code = lowered_declaration numbers declaration in
      both (is_declaration d || is_body d) (are_parts others) (left (is_declaration d) (is_body d) (declaration_written numbers declaration))
      (keeps (nothing_right (code_faults c d) (code_faults c others) none))

  decl_part : (c : Context) (others : Code) (d : Decl) → (code_faults c others ≡ [] → are_parts others ≡ true)
      → code_faults c (decl_before numbers others d) ≡ [] → are_parts (decl_before numbers others d) ≡ true
  unfolding code_faults decl_before are_parts
  decl_part c others (decl.OfItem pos declaration) keeps none = item_part c others declaration keeps none
  decl_part c others (decl.Subprogram pos spec mode semicolon) keeps none =
      keeps (nothing_right (code_faults c (SubDecl (lowered_subspec numbers spec))) (code_faults c others) none)

  body_part : (c : Context) (body : SubprogramBody) → code_faults c (lowered_subprogram numbers body) ≡ []
      → is_declaration (lowered_subprogram numbers body) || is_body (lowered_subprogram numbers body) ≡ true
  unfolding lowered_subprogram
  body_part c body none = body_in c body none

  part_part : (c : Context) (others : Code) (p : BodyPart) → (code_faults c others ≡ [] → are_parts others ≡ true)
      → code_faults c (part_before numbers others p) ≡ [] → are_parts (part_before numbers others p) ≡ true
  unfolding code_faults part_before are_parts
  part_part c others (part.Declared pos declaration) keeps none = decl_part c others declaration keeps none
  part_part c others (part.Completed pos body) keeps none =
      let b : Code = lowered_subprogram numbers body in
      both (is_declaration b || is_body b) (are_parts others) (body_part c body (nothing_left (code_faults c b) (code_faults c others) none))
      (keeps (nothing_right (code_faults c b) (code_faults c others) none))

  parts_in : (c : Context) (parts : List BodyPart) → code_faults c (before_all (part_before numbers) parts) ≡ []
      → are_parts (before_all (part_before numbers) parts) ≡ true
  unfolding are_parts
  parts_in c [] none = refl
  parts_in c (p ∷ rest) none = part_part c (before_all (part_before numbers) rest) p (parts_in c rest) none

  procedure_written : (spec : Subspec) → is_procedure_spec spec ≡ true → is_procedure (lowered_subspec numbers spec) ≡ true
  unfolding lowered_subspec
  procedure_written (subspec.Procedure pos id formals) is = refl
  procedure_written (subspec.Function pos id formals return_word result) is = is

  subprogram_written : (c : Context) (body : SubprogramBody) → is_procedure_spec body.spec ≡ true
      → code_faults c (lowered_subprogram numbers body) ≡ [] → is_unit (lowered_subprogram numbers body) ≡ true
  unfolding lowered_subprogram
  subprogram_written c body is none =
      both (is_procedure (lowered_subspec numbers body.spec))
      (are_declarations (lowered_items numbers body.items) && are_statements false (lowered_stmts numbers body.stmts))
      (procedure_written body.spec is) (body_in c body none)

  unit_written : (c : Context) (u : SourceUnit) → is_no_function u ≡ true → code_faults c (lowered_unit numbers u) ≡ []
      → is_unit (lowered_unit numbers u) ≡ true
  unfolding code_faults lowered_unit lowered_package lowered_package_body
  unit_written c (unit.OfPackage pos clauses whole) is none =
      both (are_declarations (lowered_decls numbers whole.visible)) (are_declarations (lowered_private numbers whole.private))
      (decls_written numbers whole.visible) (private_written numbers whole.private)
  unit_written c (unit.OfBody pos clauses body) is none = parts_in (in_hidden (declared_number (declared numbers body.name)) c) body.parts none
  unit_written c (unit.OfSubprogram pos clauses body) is none = subprogram_written c body is none

  file_written : (c : Context) (units : List SourceUnit) → AllByRecursion (λ u. is_no_function u ≡ true) units → (u : Code)
      → Has (map (lowered_unit numbers) units) u → code_faults c u ≡ [] → is_unit u ≡ true
  file_written c [] are u has none = absurd has
  file_written c (v ∷ units) are u (inl is) none =
      subst (λ z. is_unit z ≡ true) is (unit_written c v are.0 (subst (λ z. code_faults c z ≡ []) (sym is) none))
  file_written c (v ∷ units) are u (inr has) none = file_written c units are.1 u has none

  pub files_written : (c : Context) (files : List (List SourceUnit)) → AllByRecursion (AllByRecursion (λ u. is_no_function u ≡ true)) files → (u : Code)
      → Has (lowered_files numbers files) u → code_faults c u ≡ [] → is_unit u ≡ true
  unfolding lowered_files
  files_written c [] are u has none = absurd has
  files_written c (f ∷ files) are u has none =
      elim (Has-append_cases (map (lowered_unit numbers) f) (flat_map (map (lowered_unit numbers)) files) u has) [
        | inl here ↦ file_written c f are.0 u here none
        | inr later ↦ files_written c files are.1 u later none
      ]
