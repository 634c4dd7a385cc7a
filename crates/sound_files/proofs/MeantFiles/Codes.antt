-- Items, statements and units of files are meant, where their names denote what the program declares, and their
-- objects have the types that are indicated.
use Rattle.std.specs.Prelude.{is_some}
use Rattle.std.proofs.Common.{◌≡◌, refl, ◌∙◌, inl, inr, ℕ, Bool, List, [], ◌∷◌, map, flat_map, Option, Some, None, sym, subst}
use Rattle.machine.specs.spark_base.Lists.{Has}
use Rattle.soundness.proofs.Lists.{Has-append_cases, Has-map_from}
use Rattle.ada_tree.specs.declared.declaration.Item.{Item}
use Rattle.ada_tree.specs.declared.declaration.Item.TheVariants as item
use Rattle.ada_tree.specs.declared.statement.Stmts.{Stmts, Row_of-Stmt, end_of-Stmt, more_of-Stmt}
use Rattle.ada_tree.specs.declared.statement.Stmts.TheVariants as stmts
use Rattle.ada_tree.specs.declared.statement.Stmt.{Stmt, Row_of-Stmts, more_of-Stmts, Row_of-Elsif, end_of-Elsif, more_of-Elsif, Row_of-When, end_of-When, more_of-When}
use Rattle.ada_tree.specs.declared.statement.Stmt.TheVariants as stmt
use Rattle.ada_tree.specs.declared.statement.Elsif.{Elsif}
use Rattle.ada_tree.specs.declared.statement.Elsif.TheVariants as branch
use Rattle.ada_tree.specs.declared.statement.When.{When}
use Rattle.ada_tree.specs.declared.statement.When.TheVariants as alternative
use Rattle.ada_tree.specs.declared.subprogram.Decl.{Decl}
use Rattle.ada_tree.specs.declared.subprogram.Decl.TheVariants as decl
use Rattle.ada_tree.specs.declared.unit.SourceUnit.{SourceUnit}
use Rattle.ada_tree.specs.declared.unit.SourceUnit.TheVariants as unit
use Rattle.ada_tree.specs.declared.unit.PrivatePart.{PrivatePart}
use Rattle.ada_tree.specs.declared.unit.BodyPart.{BodyPart}
use Rattle.ada_tree.specs.declared.unit.BodyPart.TheVariants as part
use Rattle.ada_tree.specs.declared.unit.SubprogramBody.{SubprogramBody}
use Rattle.ada_tree.specs.declared.expression.Expr.{Expr}
use Rattle.ada_tree.specs.declared.expression.Name.{Name}
use Rattle.ada_tree.specs.declared.range.Range.{Range}
use Rattle.ada_tree.specs.declared.range.Range.TheVariants as range
use Rattle.machine.specs.resolved_tree.Trees.{Tree, Code, More, code_list}
use Rattle.machine.specs.resolved_tree.Trees as t
use Rattle.machine.specs.type_definitions.Gathered.{declared_number, in_subprogram, in_visible, in_hidden}
use Rattle.machine.specs.typed_tree.Expressions.{Site}
use Rattle.machine.specs.typed_tree.Programs.{placed}
use Rattle.machine.specs.flow_paths.Objects.{Typing}
use Rattle.expression_lowering.specs.LoweredExpressions.{Numbers, lowered_expr, lowered_name, lowered_range}
use Rattle.tree_lowering.specs.Lowered as tree
use Rattle.tree_lowering.specs.Lowered.{declared_all, lowered_indication, lowered_subtype, lowered_type, lowered_declaration, item_before, before_all, lowered_items, lowered_simple, lowered_stmts, lowered_stmt_box, stmts_row, lowered_stmt, lowered_stmts_box, elsifs_row, lowered_elsif, lowered_when_box, whens_row, lowered_when, lowered_subspec, lowered_subprogram, decl_before, part_before, lowered_decls, lowered_private, lowered_package, lowered_package_body, lowered_unit, lowered_files}
use Rattle.soundness.specs.TypedLaws.Fine.{Denotes, IsMeant, AreSuffixes, IsSuffix, AreArguments}
use Rattle.soundness.specs.TypedLaws.TypedPoints.Meant.{AreDeclared, AreNumbers, IsParameter, IsMeantRange, IsMeantCode, AreAlternatives, AreMeantBodies, AreMeantObjects}
use Rattle.sound_files.specs.SeenFiles.Uses.{Uses}
use Rattle.sound_files.specs.SeenFiles.Fits.{all_numbers, AreObjects}
use Rattle.sound_files.specs.MeantFiles.Denoted.{RangeDenoted, AreDenoted}
use Rattle.sound_files.specs.MeantFiles.Typed.{IsParameterOf, AreIndicated, AreIntegers, AreTyped}
use Rattle.sound_files.proofs.MeantFiles.Trees as trees

-- ---- trees

-- A tree of the grammar is meant, if each of its names denotes what the program declares.
module _ (s bare : Site) (y : Typing) where
  mutual
    unfolding IsMeant AreSuffixes IsSuffix AreArguments Uses

    tree_meant : (e : Tree) → IsMeant bare y e → Uses (Denotes s y) e → IsMeant s y e
    tree_meant (t.Number p n) is uses = tt
    tree_meant (t.Text p w) is uses = tt
    tree_meant (t.Null p) is uses = tt
    tree_meant (t.Named p d rest) is uses = (uses.0, suffixes_meant rest is.1 uses.1)
    tree_meant (t.Parens p e) is uses = tree_meant e is uses
    tree_meant (t.Unary p op e) is uses = tree_meant e is uses
    tree_meant (t.Binary p op a b) is uses = (tree_meant a is.0 uses.0, tree_meant b is.1 uses.1)
    tree_meant (t.Aggregate p args) is uses = arguments_meant args is uses
    tree_meant (t.Others p e) is uses = tree_meant e is uses
    tree_meant (t.New p m v) is uses = (is.0, arguments_meant v is.1 uses)
    tree_meant e is uses = absurd is

    suffixes_meant : (e : Tree) → AreSuffixes bare y e → Uses (Denotes s y) e → AreSuffixes s y e
    suffixes_meant (t.More a rest) are uses = (suffix_meant a are.0 uses.0, suffixes_meant rest are.1 uses.1)
    suffixes_meant t.NoMore are uses = tt
    suffixes_meant e are uses = absurd are

    suffix_meant : (e : Tree) → IsSuffix bare y e → Uses (Denotes s y) e → IsSuffix s y e
    suffix_meant (t.Selected w) is uses = tt
    suffix_meant t.All is uses = tt
    suffix_meant (t.Applied args) is uses = arguments_meant args is uses
    suffix_meant (t.Attr a) is uses = tt
    suffix_meant e is uses = absurd is

    arguments_meant : (e : Tree) → AreArguments bare y e → Uses (Denotes s y) e → AreArguments s y e
    arguments_meant (t.Argument w e rest) are uses = (tree_meant e are.0 uses.0, arguments_meant rest are.1 uses.1)
    arguments_meant t.NoMore are uses = tt
    arguments_meant e are uses = absurd are

-- Where nothing is known, each number denotes what is declared.
abbrev knowing_nothing : Site → Site
knowing_nothing s = record s { context = record s.context { known = record s.context.known { entries = [] } } }

nothing_denotes : (s : Site) (y : Typing) (d : ℕ) → Denotes (knowing_nothing s) y d
nothing_denotes s y d = ((λ o is. cc), (λ n is. cc))

module _ (numbers : Numbers) (y : Typing) (made : ℕ → Type 0) where
  module _ (s : Site) where
    abbrev Known : Code → Type 0
    Known code = AreDenoted (Denotes s y) code

    abbrev Meant : Code → Type 0
    Meant code = Known code → AreTyped made s.context code → IsMeantCode s y made code

    expr_meant : (x : Expr) → Uses (Denotes s y) (lowered_expr numbers x) → IsMeant s y (lowered_expr numbers x)
    expr_meant x = tree_meant s (knowing_nothing s) y (lowered_expr numbers x) (trees.expr_meant numbers (knowing_nothing s) y (nothing_denotes s y) x)

    name_meant : (x : Name) → Uses (Denotes s y) (lowered_name numbers x) → IsMeant s y (lowered_name numbers x)
    name_meant x = tree_meant s (knowing_nothing s) y (lowered_name numbers x) (trees.name_meant numbers (knowing_nothing s) y (nothing_denotes s y) x)

    two : (a b : Code) → Meant a → Meant b → Meant (More a b)
    unfolding AreDenoted AreTyped IsMeantCode
    two a b f g known typed = (f known.0 typed.0, g known.1 typed.1)

    nothing : Meant t.NoMore
    unfolding IsMeantCode
    nothing known typed = tt

    -- ---- items

    declared : (constant : Bool) (i ids : Code) → AreObjects (Denotes s y) (all_numbers ids) → AreIndicated s.context.known made constant i ids → AreDeclared s y made i ids
    declared constant i (More d rest) all are =
        let o = are.0 in
        ((all (declared_number d) (inl refl)).0 o.0 o.1 ∙ o.2, are.1, declared constant i rest (λ n has. all n (inr has)) are.2)
    declared constant i _ all are = tt

    integers : (ids : Code) → AreObjects (Denotes s y) (all_numbers ids) → AreIntegers s.context.known ids → AreNumbers s y ids
    integers (More d rest) all are =
        let o = are.0 in ((all (declared_number d) (inl refl)).0 o.0 o.1 ∙ o.2, integers rest (λ n has. all n (inr has)) are.1)
    integers _ all are = tt

    range_meant : (r : Range) → RangeDenoted (Denotes s y) (lowered_range numbers r) → IsMeantRange s y (lowered_range numbers r)
    unfolding lowered_range
    range_meant (range.Bounds pos low dots high) known = (expr_meant low known.0, expr_meant high known.1)
    range_meant (range.Marked pos mark) known = tt
    range_meant (range.Constrained pos mark of_range low dots high) known = (expr_meant low known.0, expr_meant high known.1)
    range_meant (range.RangeOf pos prefix apostrophe of_range) known = tt

    parameter_meant : (d : Code) (r : Range) → Denotes s y (declared_number d) → IsParameterOf s.context d (lowered_range numbers r)
        → IsParameter s y d (lowered_range numbers r)
    parameter_meant d r is o = is.0 o.0 o.1 ∙ o.2

    subtype_meant : (i : Item) → Meant (lowered_subtype numbers i)
    unfolding lowered_subtype IsMeantCode
    subtype_meant (item.Subtype pos id is mark semicolon) known typed = tt
    subtype_meant (item.ConstrainedSubtype pos id is mark of_range low dots high semicolon) known typed = tt
    subtype_meant _ known typed = tt

    type_meant : (i : Item) → Meant (lowered_type numbers i)
    unfolding lowered_type IsMeantCode
    type_meant (item.IncompleteType pos id semicolon) known typed = tt
    type_meant (item.PrivateType pos id is private semicolon) known typed = tt
    type_meant (item.EnumerationType pos id is left_paren first rest right_paren semicolon) known typed = tt
    type_meant (item.RecordType pos id is record_word first rest end end_record semicolon) known typed = tt
    type_meant (item.ArrayType pos id is array left_paren index right_paren of element semicolon) known typed = tt
    type_meant (item.AccessType pos id is access designated semicolon) known typed = tt
    type_meant other known typed = subtype_meant other known typed

    declaration_meant : (i : Item) → Meant (lowered_declaration numbers i)
    unfolding lowered_declaration IsMeantCode AreDenoted Uses AreTyped
    declaration_meant (item.Objects pos first rest colon is_constant of semicolon) known typed =
        (declared (is_some is_constant) (lowered_indication numbers of) (declared_all numbers first rest) known.0 typed, tt)
    declaration_meant (item.InitializedObjects pos first rest colon is_constant of becomes value semicolon) known typed =
        (declared (is_some is_constant) (lowered_indication numbers of) (declared_all numbers first rest) known.0 typed, expr_meant value known.1.0)
    declaration_meant (item.Numbers pos first rest colon is_constant becomes value semicolon) known typed =
        (integers (declared_all numbers first rest) known.0 typed, expr_meant value known.1)
    declaration_meant (item.Instance pos id is new generic left_paren first rest right_paren semicolon) known typed = tt
    declaration_meant other known typed = type_meant other known typed

    item_meant : (others : Code) (i : Item) → Meant others → Meant (item_before numbers others i)
    unfolding item_before
    item_meant others (item.Use pos clause) f = f
    item_meant others (item.Pragma pos clause) f = f
    item_meant others declaration f = two (lowered_declaration numbers declaration) others (declaration_meant declaration) f

    pub items_meant : (items : List Item) → Meant (lowered_items numbers items)
    items_meant [] = nothing
    items_meant (i ∷ rest) = item_meant (lowered_items numbers rest) i (items_meant rest)

    decl_meant : (others : Code) (d : Decl) → Meant others → Meant (decl_before numbers others d)
    unfolding decl_before AreDenoted AreTyped IsMeantCode
    decl_meant others (decl.OfItem pos declaration) f = item_meant others declaration f
    decl_meant others (decl.Subprogram pos spec mode semicolon) f = λ known typed. (tt, f known.1 typed.1)

    pub decls_meant : (decls : List Decl) → Meant (lowered_decls numbers decls)
    decls_meant [] = nothing
    decls_meant (d ∷ rest) = decl_meant (lowered_decls numbers rest) d (decls_meant rest)

    pub private_meant : (p : Option PrivatePart) → Meant (lowered_private numbers p)
    private_meant None = nothing
    private_meant (Some p) = decls_meant p.decls

    part_meant : (others : Code) (p : BodyPart) → Meant others → Meant (part_before numbers others p)
    unfolding part_before lowered_subprogram AreDenoted AreTyped IsMeantCode
    part_meant others (part.Declared pos declaration) f = decl_meant others declaration f
    part_meant others (part.Completed pos body) f = λ known typed. (tt, f known.1 typed.1)

    pub parts_meant : (parts : List BodyPart) → Meant (before_all (part_before numbers) parts)
    parts_meant [] = nothing
    parts_meant (p ∷ rest) = part_meant (before_all (part_before numbers) rest) p (parts_meant rest)

    -- ---- statements

    simple_meant : (x : Stmt) → Meant (lowered_simple numbers x)
    unfolding lowered_simple AreDenoted Uses IsMeantCode
    simple_meant (stmt.Null pos semicolon) known typed = tt
    simple_meant (stmt.Assign pos target becomes value semicolon) known typed = (name_meant target known.0, expr_meant value known.1)
    simple_meant (stmt.Call pos callee semicolon) known typed = name_meant callee known
    simple_meant (stmt.Exit pos semicolon) known typed = tt
    simple_meant (stmt.ExitWhen pos when condition semicolon) known typed = expr_meant condition known.0
    simple_meant (stmt.Return pos semicolon) known typed = tt
    simple_meant (stmt.ReturnValue pos value semicolon) known typed = expr_meant value known.0
    simple_meant _ known typed = tt

    abbrev Chosen : Code → Type 0
    Chosen code = Known code → AreTyped made s.context code → AreAlternatives s y made code

    mutual
      unfolding AreDenoted AreTyped IsMeantCode AreAlternatives lowered_stmts lowered_stmt_box stmts_row lowered_stmt lowered_stmts_box elsifs_row lowered_elsif lowered_when_box whens_row lowered_when

      pub stmts_meant : (tree : Stmts) → Meant (lowered_stmts numbers tree)
      stmts_meant (stmts.Sequence' pos _ first _ rest) known typed = (stmt_box_meant first known.0 typed.0, row_meant rest known.1 typed.1)

      stmt_box_meant : (row : Row_of-Stmt 1) → Meant (lowered_stmt_box numbers row)
      stmt_box_meant (more_of-Stmt part rest) = stmt_meant part

      row_meant : {n : _} (row : Row_of-Stmt n) → Meant (code_list (stmts_row numbers row))
      row_meant end_of-Stmt known typed = tt
      row_meant (more_of-Stmt part rest) known typed = (stmt_meant part known.0 typed.0, row_meant rest known.1 typed.1)

      stmt_meant : (tree : Stmt) → Meant (lowered_stmt numbers tree)
      stmt_meant (stmt.If' pos condition then_word _ body _ elsifs end end_if semicolon) known typed =
          (((expr_meant condition known.0.0.0, stmts_box_meant body known.0.0.1 typed.0.0), elsifs_meant elsifs known.0.1 typed.0.1), tt)
      stmt_meant (stmt.IfElse' pos condition then_word _ body _ elsifs otherwise _ other end end_if semicolon) known typed =
          (((expr_meant condition known.0.0.0, stmts_box_meant body known.0.0.1 typed.0.0), elsifs_meant elsifs known.0.1 typed.0.1), stmts_box_meant other known.1 typed.1)
      stmt_meant (stmt.Case' pos selecting is _ first _ rest end end_case semicolon) known typed =
          (expr_meant selecting known.0, when_box_meant (code_list (whens_row numbers rest)) first (whens_meant rest) known.1 typed)
      stmt_meant (stmt.Loop' pos _ body end end_loop semicolon) known typed = stmts_box_meant body known typed
      stmt_meant (stmt.While' pos condition loop_word _ body end end_loop semicolon) known typed = (expr_meant condition known.0, stmts_box_meant body known.1 typed)
      stmt_meant (stmt.For' pos parameter in_word reverse steps loop_word _ body end end_loop semicolon) known typed =
          (range_meant steps known.1, parameter_meant (tree.declared numbers parameter) steps known.0 typed.0, stmts_box_meant body known.2 typed.1)
      stmt_meant (stmt.Block' pos _ body end semicolon) known typed = (tt, stmts_box_meant body known.1 typed.1)
      stmt_meant (stmt.DeclareBlock' pos items begin _ body end semicolon) known typed =
          (items_meant items known.0 typed.0, stmts_box_meant body known.1 typed.1)
      stmt_meant simple known typed = simple_meant simple known typed

      stmts_box_meant : (row : Row_of-Stmts 1) → Meant (lowered_stmts_box numbers row)
      stmts_box_meant (more_of-Stmts part rest) = stmts_meant part

      elsifs_meant : {n : _} (row : Row_of-Elsif n) → Meant (code_list (elsifs_row numbers row))
      elsifs_meant end_of-Elsif known typed = tt
      elsifs_meant (more_of-Elsif part rest) known typed = (elsif_meant part known.0 typed.0, elsifs_meant rest known.1 typed.1)

      elsif_meant : (tree : Elsif) → Meant (lowered_elsif numbers tree)
      elsif_meant (branch.Branch' pos condition then_word _ body) known typed = (expr_meant condition known.0, stmts_box_meant body known.1 typed)

      when_box_meant : (others : Code) (row : Row_of-When 1) → Chosen others → Chosen (More (lowered_when_box numbers row) others)
      when_box_meant others (more_of-When part rest) f = when_meant others part f

      whens_meant : {n : _} (row : Row_of-When n) → Chosen (code_list (whens_row numbers row))
      whens_meant end_of-When = λ known typed. tt
      whens_meant (more_of-When part rest) = when_meant (code_list (whens_row numbers rest)) part (whens_meant rest)

      when_meant : (others : Code) (tree : When) → Chosen others → Chosen (More (lowered_when numbers tree) others)
      when_meant others (alternative.Alternative' pos first rest arrow _ body) f known typed =
          (stmts_box_meant body known.0 typed.0, f known.1 typed.1)

  -- ---- bodies

  module _ (s : Site) where
    abbrev Bodied : Code → Type 0
    Bodied code = AreDenoted (Denotes s y) code → AreTyped made s.context code → AreMeantBodies s y made code

    subprogram_bodied : (body : SubprogramBody) → Bodied (lowered_subprogram numbers body)
    unfolding lowered_subprogram AreDenoted AreTyped AreMeantBodies
    subprogram_bodied body known typed =
        let front : Code = lowered_subspec numbers body.spec in
        let inner : Site = placed (in_subprogram front) s in
        (items_meant inner body.items known.0 typed.1, stmts_meant inner body.stmts known.1 typed.2)

    subtype_bodied : (i : Item) → AreMeantBodies s y made (lowered_subtype numbers i)
    unfolding lowered_subtype AreMeantBodies
    subtype_bodied (item.Subtype pos id is mark semicolon) = tt
    subtype_bodied (item.ConstrainedSubtype pos id is mark of_range low dots high semicolon) = tt
    subtype_bodied _ = tt

    type_bodied : (i : Item) → AreMeantBodies s y made (lowered_type numbers i)
    unfolding lowered_type AreMeantBodies
    type_bodied (item.IncompleteType pos id semicolon) = tt
    type_bodied (item.PrivateType pos id is private semicolon) = tt
    type_bodied (item.EnumerationType pos id is left_paren first rest right_paren semicolon) = tt
    type_bodied (item.RecordType pos id is record_word first rest end end_record semicolon) = tt
    type_bodied (item.ArrayType pos id is array left_paren index right_paren of element semicolon) = tt
    type_bodied (item.AccessType pos id is access designated semicolon) = tt
    type_bodied other = subtype_bodied other

    declaration_bodied : (i : Item) → AreMeantBodies s y made (lowered_declaration numbers i)
    unfolding lowered_declaration AreMeantBodies
    declaration_bodied (item.Objects pos first rest colon is_constant of semicolon) = tt
    declaration_bodied (item.InitializedObjects pos first rest colon is_constant of becomes value semicolon) = tt
    declaration_bodied (item.Numbers pos first rest colon is_constant becomes value semicolon) = tt
    declaration_bodied (item.Instance pos id is new generic left_paren first rest right_paren semicolon) = tt
    declaration_bodied other = type_bodied other

    item_bodied : (others : Code) (i : Item) → Bodied others → Bodied (item_before numbers others i)
    unfolding item_before AreDenoted AreTyped AreMeantBodies
    item_bodied others (item.Use pos clause) f = f
    item_bodied others (item.Pragma pos clause) f = f
    item_bodied others declaration f = λ known typed. (declaration_bodied declaration, f known.1 typed.1)

    decl_bodied : (others : Code) (d : Decl) → Bodied others → Bodied (decl_before numbers others d)
    unfolding decl_before AreDenoted AreTyped AreMeantBodies
    decl_bodied others (decl.OfItem pos declaration) f = item_bodied others declaration f
    decl_bodied others (decl.Subprogram pos spec mode semicolon) f = λ known typed. (tt, f known.1 typed.1)

    part_bodied : (others : Code) (p : BodyPart) → Bodied others → Bodied (part_before numbers others p)
    unfolding part_before AreDenoted AreTyped AreMeantBodies
    part_bodied others (part.Declared pos declaration) f = decl_bodied others declaration f
    part_bodied others (part.Completed pos body) f = λ known typed. (subprogram_bodied body known.0 typed.0, f known.1 typed.1)

    parts_bodied : (parts : List BodyPart) → Bodied (before_all (part_before numbers) parts)
    unfolding AreMeantBodies
    parts_bodied [] known typed = tt
    parts_bodied (p ∷ rest) known typed = part_bodied (before_all (part_before numbers) rest) p (parts_bodied rest) known typed

  -- ---- units

  unit_meant : (s : Site) (u : SourceUnit) → AreDenoted (Denotes s y) (lowered_unit numbers u) → AreTyped made s.context (lowered_unit numbers u)
      → AreMeantBodies s y made (lowered_unit numbers u) × AreMeantObjects s y made (lowered_unit numbers u)
  unfolding lowered_unit lowered_package lowered_package_body lowered_subprogram AreDenoted AreTyped AreMeantBodies
  unit_meant s (unit.OfPackage pos clauses whole) known typed =
      (tt, (decls_meant (placed (in_visible _) s) whole.visible known.0 typed.0, private_meant (placed (in_hidden _) s) whole.private known.1 typed.1))
  unit_meant s (unit.OfBody pos clauses body) known typed =
      (parts_bodied (placed (in_hidden _) s) body.parts known typed, parts_meant (placed (in_hidden _) s) body.parts known typed)
  unit_meant s (unit.OfSubprogram pos clauses body) known typed = (subprogram_bodied s body known typed, tt)

  pub files_meant : (s : Site) (files : List (List SourceUnit))
      → ((u : Code) → Has (lowered_files numbers files) u → AreDenoted (Denotes s y) u) → ((u : Code) → Has (lowered_files numbers files) u → AreTyped made s.context u)
      → (u : Code) → Has (lowered_files numbers files) u → AreMeantBodies s y made u × AreMeantObjects s y made u
  unfolding lowered_files
  files_meant s files known typed u has = let f = found files u has in
      subst (λ (v : Code). AreMeantBodies s y made v × AreMeantObjects s y made v) f.1
      (unit_meant s f.0 (subst (AreDenoted (Denotes s y)) (sym f.1) (known u has)) (subst (AreTyped made s.context) (sym f.1) (typed u has)))
    where
      found : (files : List (List SourceUnit)) (u : Code) → Has (lowered_files numbers files) u → (x : SourceUnit) × (lowered_unit numbers x ≡ u)
      found [] u has = absurd has
      found (f ∷ files) u has = elim (Has-append_cases (map (lowered_unit numbers) f) (flat_map (map (lowered_unit numbers)) files) u has) [
        | inl here ↦ let x = Has-map_from (lowered_unit numbers) f u here in (x.0, x.2)
        | inr more ↦ found files u more
      ]
