-- In the code of files each declaration of an object has a number of its own: numbers are given in the order of
-- the text.
use Rattle.std.proofs.Common.{◌≡◌, inl, inr, ℕ, suc, ◌<◌, ◌≤◌, Bool, false, not, ◌&&◌, List, [], ◌∷◌, ◌++◌, map, flat_map, length, refl, sym, ap, ◌∙◌, arith, Option, Some, None, subst, append_assoc, length-append, if◌then◌else◌}
use Rattle.machine.specs.spark_base.Lists.{Has}
use Rattle.soundness.proofs.Lists.{Has-append_cases}
use Rattle.ada_tree.specs.declared.identifier.Identifier.{Identifier}
use Rattle.ada_tree.specs.declared.identifier.NextIdentifier.{NextIdentifier}
use Rattle.ada_tree.specs.declared.identifier.NextIdentifier.TheVariants as next_id
use Rattle.ada_tree.specs.declared.declaration.Item.{Item}
use Rattle.ada_tree.specs.declared.declaration.Item.TheVariants as item
use Rattle.ada_tree.specs.declared.statement.Stmts.{Stmts}
use Rattle.ada_tree.specs.declared.statement.Stmt.{Stmt}
use Rattle.ada_tree.specs.declared.statement.Stmt.TheVariants as stmt
use Rattle.ada_tree.specs.declared.subprogram.Subspec.{Subspec}
use Rattle.ada_tree.specs.declared.subprogram.Subspec.TheVariants as subspec
use Rattle.ada_tree.specs.declared.subprogram.Formals.{Formals}
use Rattle.ada_tree.specs.declared.subprogram.NextFormal.{NextFormal}
use Rattle.ada_tree.specs.declared.subprogram.NextFormal.TheVariants as next_formal
use Rattle.ada_tree.specs.declared.subprogram.Formal.{Formal}
use Rattle.ada_tree.specs.declared.subprogram.Formal.TheVariants as formal
use Rattle.ada_tree.specs.declared.subprogram.Decl.{Decl}
use Rattle.ada_tree.specs.declared.subprogram.Decl.TheVariants as decl
use Rattle.ada_tree.specs.declared.unit.SourceUnit.{SourceUnit}
use Rattle.ada_tree.specs.declared.unit.SourceUnit.TheVariants as unit
use Rattle.ada_tree.specs.declared.unit.Package.{Package}
use Rattle.ada_tree.specs.declared.unit.PrivatePart.{PrivatePart}
use Rattle.ada_tree.specs.declared.unit.PackageBody.{PackageBody}
use Rattle.ada_tree.specs.declared.unit.BodyPart.{BodyPart}
use Rattle.ada_tree.specs.declared.unit.BodyPart.TheVariants as part
use Rattle.ada_tree.specs.declared.unit.SubprogramBody.{SubprogramBody}
use Rattle.name_events.specs.declared.event.Event.{Event}
use Rattle.name_events.specs.declared.event.Event.TheVariants as e
use Rattle.name_events.specs.declared.event.FoldedIdentifier.{FoldedIdentifier}
use Rattle.name_events.specs.declared.event.Clause.TheVariants as clause
use Rattle.name_events.specs.declared.declaration.DeclarationForm.{DeclarationForm}
use Rattle.name_events.specs.declared.declaration.DeclarationForm.TheVariants as form
use Rattle.name_events.specs.declared.declaration.RegionPart.{RegionPart}
use Rattle.name_events.specs.declared.declaration.Declaration.{Declaration}
use Rattle.name_events.specs.declared.declaration.Identified.{Identified}
use Rattle.name_events.specs.Declarations.{Name, has_number}
use Rattle.name_events.specs.Known.{Known, here, part_here}
use Rattle.name_events.specs.Completions.{completed_by, completes_form, may_complete, if_completes, awaiting}
use Rattle.name_events.specs.KnownBehind.{known_behind, known_behind_all, known_at_first, behind_declaration, new_entry}
use Rattle.name_events.specs.Denotes.{decl_infos}
use Rattle.name_events.specs.Identified.{identified, completed_or_next}
use Rattle.name_events.specs.ExpressionOutline.{declares, declares_all, next_name, folded, folded_identifier, mention, each_of, expr_events, range_events, choice_events, next_choice_events}
use Rattle.name_events.specs.Outline.{indication_events, item_events, parameter_events, block_events, stmts_events, stmt_box_events, stmt_list_events, stmt_events, stmts_box_events, elsifs_events, elsif_events, when_box_events, whens_events, when_events, formal_events, next_formal_events, formals_events, subspec_events, body_form, subspec_name, closing_events, subprogram_events, decl_events, body_part_events, private_events, package_events, package_body_events, unit_front, unit_events, source_events}
use Rattle.machine.specs.resolved_tree.Trees.{Code, code_list, code_items}
use Rattle.expression_lowering.specs.LoweredExpressions.{number_of}
use Rattle.tree_lowering.specs.Lowered.{declared_next, declared_all, lowered_subtype, lowered_type, lowered_declaration, item_before, before_all, lowered_items, lowered_simple, lowered_stmts, lowered_stmt_box, stmts_row, lowered_stmt, lowered_stmts_box, elsifs_row, lowered_elsif, lowered_when_box, whens_row, lowered_when, lowered_formal, lowered_next_formal, lowered_formals, lowered_subspec, lowered_subprogram, decl_before, part_before, lowered_decls, lowered_private, lowered_package, lowered_package_body, lowered_unit, lowered_files}
use Rattle.typing_steps.specs.Programs.{program_of}
use Rattle.machine.specs.type_definitions.declared.table.Known.{Known as TypesKnown}
use Rattle.machine.specs.typed_tree.Programs.{DeclaredObject, program_objects}
use Rattle.settled_types.proofs.StatementCases.{StatementLaws, on_statements}
use Rattle.settled_types.specs.OrderlyFiles.Apart.{AreApart}
use Rattle.settled_types.specs.OrderlyFiles.Numbered.{AreNumbered}
use Rattle.settled_types.proofs.OrderlyFiles.Declares.{numbered_both, behind_both}
use Rattle.settled_types.proofs.OrderlyFiles.Main.{longer_all, files_numbered}
use Rattle.settled_types.specs.OrderLaws.ScopeLaws.Code.{Once}
use Rattle.sound_files.specs.SeenFiles.Fits.{all_numbers, group_numbers, front_numbers}
use Rattle.sound_files.proofs.MeantFiles.Objects.{object_numbers, units_same}

-- ---- lists of numbers

-- They lie from the low one on below the high one, and none stands twice.
abbrev IsRun : ℕ → List ℕ → ℕ → Type 0
IsRun low ns high = Once ns × ((n : ℕ) → Has ns n → (low ≤ n) × (n < high))

once_both : (xs ys : List ℕ) → Once xs → Once ys → ((n : ℕ) → Has xs n → Has ys n → ⊥) → Once (xs ++ ys)
once_both [] ys a b apart = b
once_both (x ∷ xs) ys a b apart = (
  λ has. elim (Has-append_cases xs ys x has) [ inl here ↦ a.0 here | inr there ↦ apart x (inl refl) there ],
  once_both xs ys a.1 b (λ n here there. apart n (inr here) there),
)

run_both : (low : ℕ) (ns : List ℕ) (middle : ℕ) (ms : List ℕ) (high : ℕ) → IsRun low ns middle → low ≤ middle → middle ≤ high → IsRun middle ms high
    → IsRun low (ns ++ ms) high
run_both low ns middle ms high a up on b = (
  once_both ns ms a.0 b.0 (λ n here there. let p = (a.1 n here).1 in let q = (b.1 n there).0 in omega (arith, p, q)),
  λ n has. elim (Has-append_cases ns ms n has) [
    | inl here ↦ let p = a.1 n here in let q = p.1 in (p.0, omega (arith, q, on))
    | inr there ↦ let p = b.1 n there in let q = p.0 in (omega (arith, q, up), p.1)
  ],
)

run_one : (low n high : ℕ) → n ≡ low → high ≡ suc low → IsRun low (n ∷ []) high
run_one low n high is up = (
  (λ has. has, tt),
  λ m has. elim has [
    | inl same ↦ (omega (arith, same, is), omega (arith, same, is, up))
    | inr never ↦ absurd never
  ],
)

run_on : (low : ℕ) (ns : List ℕ) (middle high : ℕ) → IsRun low ns middle → middle ≤ high → IsRun low ns high
run_on low ns middle high a on = (a.0, λ n has. let p = a.1 n has in let q = p.1 in (p.0, omega (arith, q, on)))

append_nothing : (ns : List ℕ) → ns ++ [] ≡ ns
append_nothing [] = refl
append_nothing (n ∷ ns) = ap (λ ms. n ∷ ms) (append_nothing ns)

-- ---- what declares an object completes nothing

nothing_completed : (now : Known) (new : DeclarationForm) (w : Name) → ((old : DeclarationForm) (a b : RegionPart) → completes_form old a new b ≡ false)
    → completed_by now new w ≡ None
nothing_completed now new w never = by (awaiting now.declared (here now) w)
  where
    not_so : (a b c : Bool) → b ≡ false → a && (b && c) ≡ false
    not_so a b c e = grind (arith, e)

    by : (found : Option Declaration) → if_completes now new found ≡ None
    by None = refl
    by (Some d) =
        ap (λ b. if b then Some d else None)
        (not_so (may_complete now) (completes_form d.form d.part new (part_here now)) (not (has_number d.number now.completed))
        (never d.form d.part (part_here now)))

no_object : (old : DeclarationForm) (a b : RegionPart) → completes_form old a form.Object b ≡ false
no_object form.IncompleteType a b = refl
no_object form.PrivateType a b = refl
no_object form.SubprogramDeclaration a b = refl
no_object _ a b = refl

no_formal : (old : DeclarationForm) (a b : RegionPart) → completes_form old a form.Formal b ≡ false
no_formal form.IncompleteType a b = refl
no_formal form.PrivateType a b = refl
no_formal form.SubprogramDeclaration a b = refl
no_formal _ a b = refl

no_parameter : (old : DeclarationForm) (a b : RegionPart) → completes_form old a form.LoopParameter b ≡ false
no_parameter form.IncompleteType a b = refl
no_parameter form.PrivateType a b = refl
no_parameter form.SubprogramDeclaration a b = refl
no_parameter _ a b = refl

one_more : (now : Known) (new : DeclarationForm) (id : FoldedIdentifier) → length (behind_declaration now new id None).declared ≡ suc (length now.declared)
one_more now form.Package id = let a = length-append now.declared (new_entry now form.Package id ∷ []) in omega (arith, a)
one_more now new id = let a = length-append now.declared (new_entry now new id ∷ []) in omega (arith, a)

module _ (count : ℕ) (numbers : List Identified) where
  -- These events give new numbers to these objects.
  abbrev Fresh : List Event → List ℕ → Type 0
  Fresh xs ns = (now : Known) → AreNumbered count numbers now xs → IsRun (length now.declared) ns (length (known_behind_all now xs).declared)

  none : (xs : List Event) → Fresh xs []
  none xs now are = (tt, λ n has. absurd has)

  both : (xs ys : List Event) (ns ms : List ℕ) → Fresh xs ns → Fresh ys ms → Fresh (xs ++ ys) (ns ++ ms)
  both xs ys ns ms f g now are =
      let split = numbered_both count numbers xs ys now are in
      let middle : Known = known_behind_all now xs in
      subst (λ (k : Known). IsRun (length now.declared) (ns ++ ms) (length k.declared)) (sym (behind_both xs ys now))
      (run_both (length now.declared) ns (length middle.declared) ms (length (known_behind_all middle ys).declared) (f now split.0) (longer_all xs now)
      (longer_all ys middle) (g middle split.1))

  before : (xs ys : List Event) (ns : List ℕ) → Fresh xs ns → Fresh (xs ++ ys) ns
  before xs ys ns f now are =
      let split = numbered_both count numbers xs ys now are in
      let middle : Known = known_behind_all now xs in
      subst (λ (k : Known). IsRun (length now.declared) ns (length k.declared)) (sym (behind_both xs ys now))
      (run_on (length now.declared) ns (length middle.declared) (length (known_behind_all middle ys).declared) (f now split.0) (longer_all ys middle))

  after : (xs ys : List Event) (ns : List ℕ) → Fresh ys ns → Fresh (xs ++ ys) ns
  after xs ys ns f = both xs ys [] ns (none xs) f

  one : (new : DeclarationForm) → ((old : DeclarationForm) (a b : RegionPart) → completes_form old a new b ≡ false) → (id : Identifier)
      → Fresh (declares new id ∷ []) (number_of numbers id ∷ [])
  unfolding known_behind
  one new never id now are =
      let w : FoldedIdentifier = folded_identifier id in
      let nothing : completed_by now new w.name ≡ None = nothing_completed now new w.name never in
      let number : number_of numbers id ≡ length now.declared = are.0.0 ∙ ap (completed_or_next now) nothing in
      let grown : length (known_behind now (declares new id)).declared ≡ suc (length now.declared) =
      ap (λ found. length (behind_declaration now new w found).declared) nothing ∙ one_more now new w in
      run_one (length now.declared) (number_of numbers id) (length (known_behind now (declares new id)).declared) number grown

  many : (new : DeclarationForm) → ((old : DeclarationForm) (a b : RegionPart) → completes_form old a new b ≡ false) → (rest : List NextIdentifier)
      → Fresh (map (declares new) (map next_name rest)) (all_numbers (code_list (map (declared_next numbers) rest)))
  unfolding next_name declared_next
  many new never [] = none []
  many new never (next_id.FurtherIdentifier pos id ∷ rest) =
      both (declares new id ∷ []) (map (declares new) (map next_name rest)) (number_of numbers id ∷ []) (all_numbers (code_list (map (declared_next numbers) rest)))
      (one new never id) (many new never rest)

  all : (new : DeclarationForm) → ((old : DeclarationForm) (a b : RegionPart) → completes_form old a new b ≡ false) → (first : Identifier)
      (rest : List NextIdentifier) → Fresh (declares_all new first rest) (all_numbers (declared_all numbers first rest))
  all new never first rest =
      both (declares new first ∷ []) (map (declares new) (map next_name rest)) (number_of numbers first ∷ [])
      (all_numbers (code_list (map (declared_next numbers) rest))) (one new never first) (many new never rest)

  -- ---- items

  subtype_none : (i : Item) → object_numbers (lowered_subtype numbers i) ≡ []
  unfolding lowered_subtype
  subtype_none (item.Subtype pos id is mark semicolon) = refl
  subtype_none (item.ConstrainedSubtype pos id is mark of_range low dots high semicolon) = refl
  subtype_none _ = refl

  type_none : (i : Item) → object_numbers (lowered_type numbers i) ≡ []
  unfolding lowered_type
  type_none (item.IncompleteType pos id semicolon) = refl
  type_none (item.PrivateType pos id is private semicolon) = refl
  type_none (item.EnumerationType pos id is left_paren first rest right_paren semicolon) = refl
  type_none (item.RecordType pos id is record_word first rest end end_record semicolon) = refl
  type_none (item.ArrayType pos id is array left_paren index right_paren of element semicolon) = refl
  type_none (item.AccessType pos id is access designated semicolon) = refl
  type_none other = subtype_none other

  declaration_fresh : (i : Item) → Fresh (item_events i) (object_numbers (lowered_declaration numbers i))
  unfolding item_events lowered_declaration
  declaration_fresh (item.Objects pos first rest colon is_constant of semicolon) =
      before (declares_all form.Object first rest) (indication_events of ++ e.DeclarationsEnd ∷ []) (all_numbers (declared_all numbers first rest))
      (all form.Object no_object first rest)
  declaration_fresh (item.InitializedObjects pos first rest colon is_constant of becomes value semicolon) =
      before (declares_all form.Object first rest) (indication_events of ++ (expr_events value ++ e.DeclarationsEnd ∷ []))
      (all_numbers (declared_all numbers first rest)) (all form.Object no_object first rest)
  declaration_fresh (item.Numbers pos first rest colon is_constant becomes value semicolon) =
      before (declares_all form.Object first rest) (expr_events value ++ e.DeclarationsEnd ∷ []) (all_numbers (declared_all numbers first rest))
      (all form.Object no_object first rest)
  declaration_fresh (item.Instance pos id is new generic left_paren first rest right_paren semicolon) =
      none (item_events (item.Instance pos id is new generic left_paren first rest right_paren semicolon))
  declaration_fresh other = subst (Fresh (item_events other)) (sym (type_none other)) (none (item_events other))

  item_then : (xs : List Event) (others : Code) (i : Item) → Fresh xs (object_numbers others)
      → Fresh (item_events i ++ xs) (object_numbers (item_before numbers others i))
  unfolding item_before
  item_then xs others (item.Use pos clause) f = after (item_events (item.Use pos clause)) xs (object_numbers others) f
  item_then xs others (item.Pragma pos clause) f = after (item_events (item.Pragma pos clause)) xs (object_numbers others) f
  item_then xs others declaration f =
      both (item_events declaration) xs (object_numbers (lowered_declaration numbers declaration)) (object_numbers others) (declaration_fresh declaration) f

  items_fresh : (items : List Item) → Fresh (flat_map item_events items) (object_numbers (lowered_items numbers items))
  items_fresh [] = none []
  items_fresh (i ∷ rest) = item_then (flat_map item_events rest) (lowered_items numbers rest) i (items_fresh rest)

  -- ---- statements

  simple_none : (s : Stmt) → object_numbers (lowered_simple numbers s) ≡ []
  unfolding lowered_simple
  simple_none (stmt.Null pos semicolon) = refl
  simple_none (stmt.Assign pos target becomes value semicolon) = refl
  simple_none (stmt.Call pos callee semicolon) = refl
  simple_none (stmt.Exit pos semicolon) = refl
  simple_none (stmt.ExitWhen pos when condition semicolon) = refl
  simple_none (stmt.Return pos semicolon) = refl
  simple_none (stmt.ReturnValue pos value semicolon) = refl
  simple_none _ = refl

  stmts_fresh_laws : StatementLaws (record {
    of_statements = λ tree. Fresh (stmts_events tree) (object_numbers (lowered_stmts numbers tree));
    of_statement_box = λ n row. Fresh (stmt_box_events row) (object_numbers (lowered_stmt_box numbers row));
    of_statement_row = λ n row. Fresh (stmt_list_events row) (object_numbers (code_list (stmts_row numbers row)));
    of_statement = λ tree. Fresh (stmt_events tree) (object_numbers (lowered_stmt numbers tree));
    of_statements_box = λ n row. Fresh (stmts_box_events row) (object_numbers (lowered_stmts_box numbers row));
    of_branches = λ n row. Fresh (elsifs_events row) (object_numbers (code_list (elsifs_row numbers row)));
    of_branch = λ tree. Fresh (elsif_events tree) (object_numbers (lowered_elsif numbers tree));
    of_alternative_box = λ n row. Fresh (when_box_events row) (object_numbers (lowered_when_box numbers row));
    of_alternatives = λ n row. Fresh (whens_events row) (object_numbers (code_list (whens_row numbers row)));
    of_alternative = λ tree. Fresh (when_events tree) (object_numbers (lowered_when numbers tree));
  })
  unfolding lowered_stmts lowered_stmt_box stmts_row lowered_stmt lowered_stmts_box elsifs_row lowered_elsif lowered_when_box whens_row lowered_when stmts_events stmt_box_events stmt_list_events stmt_events stmts_box_events elsifs_events elsif_events when_box_events whens_events when_events
  stmts_fresh_laws = record {
    statements_sequence = λ pos _ first _ rest by_first by_rest. both (stmt_box_events first) (stmt_list_events rest) (object_numbers (lowered_stmt_box numbers first)) (object_numbers (code_list (stmts_row numbers rest)))
        (by_first) (by_rest);
    statement_box_end = none [];
    statement_box_more = λ _ part rest by_part. by_part;
    statement_row_end = none [];
    statement_row_more = λ _ part rest by_part by_rest. both (stmt_events part) (stmt_list_events rest) (object_numbers (lowered_stmt numbers part)) (object_numbers (code_list (stmts_row numbers rest)))
        (by_part) (by_rest);
    statement_null = λ pos semicolon. subst (Fresh (stmt_events (stmt.Null pos semicolon))) (sym (simple_none (stmt.Null pos semicolon))) (none (stmt_events (stmt.Null pos semicolon)));
    statement_assign = λ pos target becomes value semicolon. subst (Fresh (stmt_events (stmt.Assign pos target becomes value semicolon))) (sym (simple_none (stmt.Assign pos target becomes value semicolon))) (none (stmt_events (stmt.Assign pos target becomes value semicolon)));
    statement_call = λ pos called semicolon. subst (Fresh (stmt_events (stmt.Call pos called semicolon))) (sym (simple_none (stmt.Call pos called semicolon))) (none (stmt_events (stmt.Call pos called semicolon)));
    statement_exit = λ pos semicolon. subst (Fresh (stmt_events (stmt.Exit pos semicolon))) (sym (simple_none (stmt.Exit pos semicolon))) (none (stmt_events (stmt.Exit pos semicolon)));
    statement_exit_when = λ pos when_word condition semicolon. subst (Fresh (stmt_events (stmt.ExitWhen pos when_word condition semicolon))) (sym (simple_none (stmt.ExitWhen pos when_word condition semicolon))) (none (stmt_events (stmt.ExitWhen pos when_word condition semicolon)));
    statement_return = λ pos semicolon. subst (Fresh (stmt_events (stmt.Return pos semicolon))) (sym (simple_none (stmt.Return pos semicolon))) (none (stmt_events (stmt.Return pos semicolon)));
    statement_return_value = λ pos value semicolon. subst (Fresh (stmt_events (stmt.ReturnValue pos value semicolon))) (sym (simple_none (stmt.ReturnValue pos value semicolon))) (none (stmt_events (stmt.ReturnValue pos value semicolon)));
    statement_if = λ pos condition then_word _ body _ elsifs end end_if semicolon by_body by_elsifs. let ns : List ℕ = object_numbers (lowered_stmts_box numbers body) in
        let ms : List ℕ = object_numbers (code_list (elsifs_row numbers elsifs)) in
        let xs : List Event = stmts_box_events body ++ elsifs_events elsifs in
        after (expr_events condition) xs ((ns ++ ms) ++ [])
        (subst (Fresh xs) (sym (append_nothing (ns ++ ms))) (both (stmts_box_events body) (elsifs_events elsifs) ns ms (by_body) (by_elsifs)));
    statement_if_else = λ pos condition then_word _ body _ elsifs otherwise _ other end end_if semicolon by_body by_elsifs by_other. let ns : List ℕ = object_numbers (lowered_stmts_box numbers body) in
        let ms : List ℕ = object_numbers (code_list (elsifs_row numbers elsifs)) in
        let os : List ℕ = object_numbers (lowered_stmts_box numbers other) in
        let ys : List Event = elsifs_events elsifs ++ stmts_box_events other in
        let xs : List Event = stmts_box_events body ++ ys in
        after (expr_events condition) xs ((ns ++ ms) ++ os)
        (subst (Fresh xs) (sym (append_assoc ns ms os))
        (both (stmts_box_events body) ys ns (ms ++ os) (by_body)
        (both (elsifs_events elsifs) (stmts_box_events other) ms os (by_elsifs) (by_other))));
    statement_case = λ pos selecting is _ first _ rest end end_case semicolon by_first by_rest. let ns : List ℕ = object_numbers (lowered_when_box numbers first) in
        let ms : List ℕ = object_numbers (code_list (whens_row numbers rest)) in
        after (expr_events selecting) (when_box_events first ++ whens_events rest) (ns ++ ms)
        (both (when_box_events first) (whens_events rest) ns ms (by_first) (by_rest));
    statement_loop = λ pos _ body end end_loop semicolon by_body. by_body;
    statement_while = λ pos condition loop_word _ body end end_loop semicolon by_body. after (expr_events condition) (stmts_box_events body) (object_numbers (lowered_stmts_box numbers body)) (by_body);
    statement_for = λ pos parameter in_word reverse steps loop_word _ body end end_loop semicolon by_body. let ns : List ℕ = object_numbers (lowered_stmts_box numbers body) in
        both (parameter_events parameter steps) (stmts_box_events body ++ e.RegionCloses ∷ []) (number_of numbers parameter ∷ []) ns
        (after (e.RegionOpens ∷ []) (declares form.LoopParameter parameter ∷ (range_events steps ++ e.DeclarationsEnd ∷ [])) (number_of numbers parameter ∷ [])
        (before (declares form.LoopParameter parameter ∷ []) (range_events steps ++ e.DeclarationsEnd ∷ []) (number_of numbers parameter ∷ [])
        (one form.LoopParameter no_parameter parameter)))
        (before (stmts_box_events body) (e.RegionCloses ∷ []) ns (by_body));
    statement_block = λ pos _ body end semicolon by_body. let ns : List ℕ = object_numbers (lowered_stmts_box numbers body) in
        after (e.RegionOpens ∷ []) (stmts_box_events body ++ e.RegionCloses ∷ []) ns (before (stmts_box_events body) (e.RegionCloses ∷ []) ns (by_body));
    statement_declare_block = λ pos items begin _ body end semicolon by_body. let ns : List ℕ = object_numbers (lowered_stmts_box numbers body) in
        both (block_events items) (stmts_box_events body ++ e.RegionCloses ∷ []) (object_numbers (lowered_items numbers items)) ns
        (after (e.RegionOpens ∷ []) (flat_map item_events items) (object_numbers (lowered_items numbers items)) (items_fresh items))
        (before (stmts_box_events body) (e.RegionCloses ∷ []) ns (by_body));
    statements_box_end = none [];
    statements_box_more = λ _ part rest by_part. by_part;
    branches_end = none [];
    branches_more = λ _ part rest by_part by_rest. both (elsif_events part) (elsifs_events rest) (object_numbers (lowered_elsif numbers part)) (object_numbers (code_list (elsifs_row numbers rest)))
        (by_part) (by_rest);
    branch_branch = λ pos condition then_word _ body by_body. after (expr_events condition) (stmts_box_events body) (object_numbers (lowered_stmts_box numbers body)) (by_body);
    alternative_box_end = none [];
    alternative_box_more = λ _ part rest by_part. by_part;
    alternatives_end = none [];
    alternatives_more = λ _ part rest by_part by_rest. both (when_events part) (whens_events rest) (object_numbers (lowered_when numbers part)) (object_numbers (code_list (whens_row numbers rest)))
        (by_part) (by_rest);
    alternative_alternative = λ pos first rest arrow _ body by_body. let ns : List ℕ = object_numbers (lowered_stmts_box numbers body) in
        after (choice_events first) (flat_map next_choice_events rest ++ stmts_box_events body) ns
        (after (flat_map next_choice_events rest) (stmts_box_events body) ns (by_body));
  }

  stmts_fresh : (tree : Stmts) → Fresh (stmts_events tree) (object_numbers (lowered_stmts numbers tree))
  stmts_fresh = on_statements stmts_fresh_laws

  -- ---- subprograms

  formal_fresh : (f : Formal) → Fresh (formal_events f) (group_numbers (lowered_formal numbers f))
  unfolding formal_events lowered_formal
  formal_fresh (formal.Moded pos first rest colon in_word out_word mark) =
      before (declares_all form.Formal first rest) (mention clause.Elsewhere mark ∷ (e.DeclarationsEnd ∷ [])) (all_numbers (declared_all numbers first rest))
      (all form.Formal no_formal first rest)
  formal_fresh (formal.Anonymous pos first rest colon access access_constant designated) =
      before (declares_all form.Formal first rest) (mention clause.Elsewhere designated ∷ (e.DeclarationsEnd ∷ []))
      (all_numbers (declared_all numbers first rest)) (all form.Formal no_formal first rest)

  more_formals : (rest : List NextFormal)
      → Fresh (flat_map next_formal_events rest) (flat_map group_numbers (code_items (code_list (map (lowered_next_formal numbers) rest))))
  unfolding next_formal_events lowered_next_formal
  more_formals [] = none []
  more_formals (next_formal.Semicolon pos part ∷ rest) =
      both (formal_events part) (flat_map next_formal_events rest) (group_numbers (lowered_formal numbers part))
      (flat_map group_numbers (code_items (code_list (map (lowered_next_formal numbers) rest)))) (formal_fresh part) (more_formals rest)

  formals_fresh : (f : Option Formals) → Fresh (each_of formals_events f) (flat_map group_numbers (code_items (lowered_formals numbers f)))
  formals_fresh None = none []
  formals_fresh (Some f) =
      both (formal_events f.first) (flat_map next_formal_events f.rest) (group_numbers (lowered_formal numbers f.first))
      (flat_map group_numbers (code_items (code_list (map (lowered_next_formal numbers) f.rest)))) (formal_fresh f.first) (more_formals f.rest)

  subspec_fresh : (new : DeclarationForm) (spec : Subspec) → Fresh (subspec_events new spec) (front_numbers (lowered_subspec numbers spec))
  unfolding subspec_events lowered_subspec
  subspec_fresh new (subspec.Procedure pos id formals) =
      let ns : List ℕ = flat_map group_numbers (code_items (lowered_formals numbers formals)) in
      after (declares new id ∷ (e.RegionOpens ∷ [])) (each_of formals_events formals ++ e.OuterDeclarationsEnd ∷ []) ns
      (before (each_of formals_events formals) (e.OuterDeclarationsEnd ∷ []) ns (formals_fresh formals))
  subspec_fresh new (subspec.Function pos id formals return_word result) =
      let ns : List ℕ = flat_map group_numbers (code_items (lowered_formals numbers formals)) in
      after (declares new id ∷ (e.RegionOpens ∷ [])) (each_of formals_events formals ++ (indication_events result ++ e.OuterDeclarationsEnd ∷ [])) ns
      (before (each_of formals_events formals) (indication_events result ++ e.OuterDeclarationsEnd ∷ []) ns (formals_fresh formals))

  subprogram_fresh : (body : SubprogramBody) → Fresh (subprogram_events body) (object_numbers (lowered_subprogram numbers body))
  unfolding subprogram_events lowered_subprogram
  subprogram_fresh body =
      let front : List Event = subspec_events (body_form body.spec) body.spec in
      let items : List Event = flat_map item_events body.items in
      let stmts : List Event = stmts_events body.stmts in
      let closing : List Event = e.RegionCloses ∷ closing_events (subspec_name body.spec) body.closing in
      let ns : List ℕ = object_numbers (lowered_items numbers body.items) in
      let ms : List ℕ = object_numbers (lowered_stmts numbers body.stmts) in
      both front (items ++ (stmts ++ closing)) (front_numbers (lowered_subspec numbers body.spec)) (ns ++ ms) (subspec_fresh (body_form body.spec) body.spec)
      (both items (stmts ++ closing) ns ms (items_fresh body.items) (before stmts closing ms (stmts_fresh body.stmts)))

  decl_then : (xs : List Event) (others : Code) (d : Decl) → Fresh xs (object_numbers others)
      → Fresh (decl_events d ++ xs) (object_numbers (decl_before numbers others d))
  unfolding decl_events decl_before
  decl_then xs others (decl.OfItem pos declaration) f = item_then xs others declaration f
  decl_then xs others (decl.Subprogram pos spec mode semicolon) f =
      after (subspec_events form.SubprogramDeclaration spec ++ e.RegionCloses ∷ []) xs (object_numbers others) f

  part_then : (xs : List Event) (others : Code) (p : BodyPart) → Fresh xs (object_numbers others)
      → Fresh (body_part_events p ++ xs) (object_numbers (part_before numbers others p))
  unfolding body_part_events part_before
  part_then xs others (part.Declared pos declaration) f = decl_then xs others declaration f
  part_then xs others (part.Completed pos body) f =
      both (subprogram_events body) xs (object_numbers (lowered_subprogram numbers body)) (object_numbers others) (subprogram_fresh body) f

  decls_fresh : (decls : List Decl) → Fresh (flat_map decl_events decls) (object_numbers (lowered_decls numbers decls))
  decls_fresh [] = none []
  decls_fresh (d ∷ rest) = decl_then (flat_map decl_events rest) (lowered_decls numbers rest) d (decls_fresh rest)

  parts_fresh : (parts : List BodyPart) → Fresh (flat_map body_part_events parts) (object_numbers (before_all (part_before numbers) parts))
  parts_fresh [] = none []
  parts_fresh (p ∷ rest) = part_then (flat_map body_part_events rest) (before_all (part_before numbers) rest) p (parts_fresh rest)

  -- ---- units

  private_fresh : (p : Option PrivatePart) → Fresh (each_of private_events p) (object_numbers (lowered_private numbers p))
  private_fresh None = none []
  private_fresh (Some p) =
      after (e.PrivatePartBegins ∷ []) (flat_map decl_events p.decls) (object_numbers (lowered_decls numbers p.decls)) (decls_fresh p.decls)

  package_fresh : (whole : Package) → Fresh (package_events whole) (object_numbers (lowered_package numbers whole))
  unfolding lowered_package
  package_fresh whole =
      let ns : List ℕ = object_numbers (lowered_decls numbers whole.visible) in
      let ms : List ℕ = object_numbers (lowered_private numbers whole.private) in
      let visible : List Event = flat_map decl_events whole.visible in
      let hidden : List Event = each_of private_events whole.private in
      let closing : List Event = e.RegionCloses ∷ closing_events whole.name whole.closing in
      after (declares form.Package whole.name ∷ (e.DeclarationsEnd ∷ (e.RegionOpens ∷ []))) (visible ++ (hidden ++ closing)) (ns ++ ms)
      (both visible (hidden ++ closing) ns ms (decls_fresh whole.visible) (before hidden closing ms (private_fresh whole.private)))

  package_body_fresh : (body : PackageBody) → Fresh (package_body_events body) (object_numbers (lowered_package_body numbers body))
  unfolding lowered_package_body
  package_body_fresh body =
      let ns : List ℕ = object_numbers (before_all (part_before numbers) body.parts) in
      let parts : List Event = flat_map body_part_events body.parts in
      let closing : List Event = e.RegionCloses ∷ closing_events body.name body.closing in
      after (e.PackageBodyOpens (folded_identifier body.name) ∷ []) (parts ++ closing) ns (before parts closing ns (parts_fresh body.parts))

  unit_fresh : (u : SourceUnit) → Fresh (unit_events u) (object_numbers (lowered_unit numbers u))
  unfolding unit_events lowered_unit
  unit_fresh (unit.OfPackage pos clauses whole) =
      after (unit_front None clauses) (package_events whole) (object_numbers (lowered_package numbers whole)) (package_fresh whole)
  unit_fresh (unit.OfBody pos clauses body) =
      after (unit_front (Some (folded body.name)) clauses) (package_body_events body) (object_numbers (lowered_package_body numbers body)) (package_body_fresh body)
  unit_fresh (unit.OfSubprogram pos clauses body) =
      after (unit_front None clauses) (subprogram_events body) (object_numbers (lowered_subprogram numbers body)) (subprogram_fresh body)

  file_fresh : (units : List SourceUnit) (zs : List Event) (others : List Code) → Fresh zs (flat_map object_numbers others)
      → Fresh (flat_map unit_events units ++ zs) (flat_map object_numbers (map (lowered_unit numbers) units ++ others))
  file_fresh [] zs others f = f
  file_fresh (u ∷ units) zs others f =
      let ns : List ℕ = object_numbers (lowered_unit numbers u) ++ flat_map object_numbers (map (lowered_unit numbers) units ++ others) in
      subst (λ xs. Fresh xs ns) (sym (append_assoc (unit_events u) (flat_map unit_events units) zs))
      (both (unit_events u) (flat_map unit_events units ++ zs) (object_numbers (lowered_unit numbers u))
      (flat_map object_numbers (map (lowered_unit numbers) units ++ others)) (unit_fresh u) (file_fresh units zs others f))

  files_fresh : (files : List (List SourceUnit)) → Fresh (source_events files) (flat_map object_numbers (lowered_files numbers files))
  unfolding source_events lowered_files
  files_fresh [] = none []
  files_fresh (f ∷ files) =
      file_fresh f (flat_map (flat_map unit_events) files) (flat_map (map (lowered_unit numbers)) files) (files_fresh files)

-- Each declaration of an object in files whose identifiers stand apart has a number of its own.
pub files_once : (files : List (List SourceUnit)) → AreApart (identified files) → (known : TypesKnown)
    → Once (map (λ (o : DeclaredObject). o.number) (program_objects known (program_of files).units))
files_once files apart known =
    let units : List Code = lowered_files (identified files) files in
    subst Once (sym (units_same units (record { known = known; identifier = None }) 1 units))
    (files_fresh (length (decl_infos files)) (identified files) files known_at_first (files_numbered files apart)).0
