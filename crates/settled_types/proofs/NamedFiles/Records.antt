-- The components of each record in files that break no rule of names have names of their own.
use Rattle.std.proofs.Common.{◌≡◌, inl, inr, ℕ, Bool, true, false, List, [], ◌∷◌, ◌++◌, map, refl, sym, ap, ◌∙◌, subst, Option, Some, None, if◌then◌else◌}
use Rattle.std.specs.List.{flat_map}
use Rattle.std.proofs.lemmas.Bool.{true≢false}
use Rattle.std.specs.Prelude.{is_some}
use Rattle.machine.specs.spark_base.Lists.{Has}
use Rattle.spark_base.proofs.Lists.{Has-append_cases}
use Rattle.ada_tree.specs.declared.identifier.Identifier.{Identifier}
use Rattle.ada_tree.specs.declared.identifier.NextIdentifier.{NextIdentifier}
use Rattle.ada_tree.specs.declared.identifier.NextIdentifier.TheVariants as next_id
use Rattle.ada_tree.specs.declared.declaration.Component.{Component}
use Rattle.ada_tree.specs.declared.declaration.Component.TheVariants as component
use Rattle.ada_tree.specs.declared.declaration.Item.{Item}
use Rattle.ada_tree.specs.declared.declaration.Item.TheVariants as item
use Rattle.ada_tree.specs.declared.statement.Stmts.{Stmts}
use Rattle.ada_tree.specs.declared.statement.Stmt.{Stmt}
use Rattle.ada_tree.specs.declared.statement.Stmt.TheVariants as stmt
use Rattle.ada_tree.specs.declared.subprogram.Decl.{Decl}
use Rattle.ada_tree.specs.declared.subprogram.Decl.TheVariants as decl
use Rattle.ada_tree.specs.declared.unit.SourceUnit.{SourceUnit}
use Rattle.ada_tree.specs.declared.unit.SourceUnit.TheVariants as unit
use Rattle.ada_tree.specs.declared.unit.Package.{Package}
use Rattle.ada_tree.specs.declared.unit.PrivatePart.{PrivatePart}
use Rattle.ada_tree.specs.declared.unit.PackageBody.{PackageBody}
use Rattle.ada_tree.specs.declared.unit.BodyPart.{BodyPart}
use Rattle.ada_tree.specs.declared.unit.BodyPart.TheVariants as part
use Rattle.ada_tree.specs.declared.unit.SubprogramBody.{SubprogramBody}
use Rattle.name_events.specs.declared.event.Event.{Event}
use Rattle.name_events.specs.declared.event.Event.TheVariants as e
use Rattle.name_events.specs.declared.event.Clause.TheVariants as clause
use Rattle.name_events.specs.declared.declaration.DeclarationForm.TheVariants as form
use Rattle.name_events.specs.declared.declaration.NameRule.TheVariants.{Twice}
use Rattle.name_events.specs.Declarations.{has_name}
use Rattle.name_events.specs.ExpressionOutline.{folded, folded_identifier, declares, mention, expr_events, next_name, each_of, choice_events, next_choice_events}
use Rattle.name_events.specs.Outline.{component_events, subtype_events, type_events, item_events, parameter_events, stmts_events, stmt_box_events, stmt_list_events, stmt_events, stmts_box_events, elsifs_events, elsif_events, when_box_events, whens_events, when_events, subspec_events, body_form, subspec_name, closing_events, subprogram_events, decl_events, body_part_events, private_events, package_events, package_body_events, unit_front, unit_events, source_events}
use Rattle.name_events.specs.Known.{Known}
use Rattle.name_events.specs.KnownBehind.{known_behind, known_behind_all, known_at_first}
use Rattle.name_events.specs.Faults.{Fault, fault, component_fault, name_fault}
use Rattle.name_events.specs.Denotes.{Files, known_of}
use Rattle.machine.specs.resolved_tree.Trees.{Code, code_list}
use Rattle.machine.specs.type_definitions.Gathered.{texts}
use Rattle.expression_lowering.specs.LoweredExpressions.{Numbers}
use Rattle.tree_lowering.specs.Lowered.{component_next, lowered_component, lowered_subtype, lowered_type, lowered_declaration, item_before, before_all, lowered_items, lowered_simple, lowered_stmts, lowered_stmt_box, stmts_row, lowered_stmt, lowered_stmts_box, elsifs_row, lowered_elsif, lowered_when_box, whens_row, lowered_when, lowered_subprogram, decl_before, part_before, lowered_decls, lowered_private, lowered_package, lowered_package_body, lowered_unit, lowered_files}
use Rattle.settled_types.proofs.StatementCases.{StatementLaws, on_statements}
use Rattle.settled_types.specs.GatheredLaws.Components.{group_texts, list_texts, AreRecordsApart}
use Rattle.settled_types.proofs.NamedFiles.Faults.{BreaksNone, one_none, rest_none, first_none, second_none}
use Rattle.settled_types.proofs.NamedFiles.Words.{lower, AreFresh, added_all, fresh_both, fresh_apart}

-- ---- the components of one record

abbrev texts_of : List Identifier → List (List ℕ)
texts_of ids = map (λ (id : Identifier). id.text) ids

abbrev components_declared : List Identifier → List Event
components_declared ids = map (λ id. e.DeclaresComponent (folded_identifier id)) ids

next_texts : (rest : List NextIdentifier) → texts (code_list (map component_next rest)) ≡ texts_of (map next_name rest)
unfolding component_next next_name
next_texts [] = refl
next_texts (next_id.FurtherIdentifier pos id ∷ rest) = ap (λ ws. id.text ∷ ws) (next_texts rest)

new_one : (now : Known) (id : Identifier) → component_fault now (folded_identifier id) ≡ None → has_name (lower id.text) now.components ≡ false
new_one now id none =
    let second : Fault = (Twice, id.pos) in
    by second (has_name (lower id.text) now.components) none
  where
    by : (x : Fault) (b : Bool) → (if b then Some x else None) ≡ None → b ≡ false
    by x true none = absurd (true≢false (ap is_some none))
    by x false none = refl

module _ (whole : Known) where
  ids_fresh : (ids : List Identifier) (now : Known) → BreaksNone whole now (components_declared ids) → AreFresh now.components (texts_of ids)
  unfolding fault known_behind
  ids_fresh [] now none = tt
  ids_fresh (id ∷ rest) now none = (
    new_one now id (one_none whole (e.DeclaresComponent (folded_identifier id)) (components_declared rest) now none),
    ids_fresh rest (known_behind now (e.DeclaresComponent (folded_identifier id)))
        (rest_none whole (e.DeclaresComponent (folded_identifier id)) (components_declared rest) now none),
  )

  ids_added : (ids : List Identifier) (now : Known) (ys : List Event) → (known_behind_all now (components_declared ids ++ ys)).components
      ≡ (known_behind_all (known_behind_all now (components_declared ids)) ys).components
  ids_added [] now ys = refl
  ids_added (id ∷ rest) now ys = ids_added rest (known_behind now (e.DeclaresComponent (folded_identifier id))) ys

  ids_known : (ids : List Identifier) (now : Known) → (known_behind_all now (components_declared ids)).components ≡ added_all now.components (texts_of ids)
  unfolding known_behind
  ids_known [] now = refl
  ids_known (id ∷ rest) now = ids_known rest (known_behind now (e.DeclaresComponent (folded_identifier id)))

  module _ (numbers : Numbers) where
    group_fresh : (c : Component) (now : Known) → BreaksNone whole now (component_events c) → AreFresh now.components (group_texts (lowered_component numbers c))
    unfolding component_events lowered_component
    group_fresh (component.Fields pos first rest colon mark semicolon) now none =
        let ids : List Identifier = first ∷ map next_name rest in
        subst (AreFresh now.components) (ap (λ ws. first.text ∷ ws) (sym (next_texts rest)))
        (ids_fresh ids now (first_none whole (components_declared ids) (mention clause.Elsewhere mark ∷ []) now none))

    group_known : (c : Component) (now : Known) → (known_behind_all now (component_events c)).components ≡ added_all now.components (group_texts (lowered_component numbers c))
    unfolding component_events lowered_component known_behind
    group_known (component.Fields pos first rest colon mark semicolon) now =
        let ids : List Identifier = first ∷ map next_name rest in
        ids_added ids now (mention clause.Elsewhere mark ∷ []) ∙ ids_known ids now
        ∙ ap (added_all now.components) (ap (λ ws. first.text ∷ ws) (sym (next_texts rest)))

    list_fresh : (cs : List Component) (now : Known) → BreaksNone whole now (flat_map component_events cs)
        → AreFresh now.components (list_texts (code_list (map (lowered_component numbers) cs)))
    list_fresh [] now none = tt
    list_fresh (c ∷ rest) now none =
        fresh_both now.components (group_texts (lowered_component numbers c)) (list_texts (code_list (map (lowered_component numbers) rest)))
        (group_fresh c now (first_none whole (component_events c) (flat_map component_events rest) now none))
        (subst (λ names. AreFresh names (list_texts (code_list (map (lowered_component numbers) rest)))) (group_known c now)
        (list_fresh rest (known_behind_all now (component_events c)) (second_none whole (component_events c) (flat_map component_events rest) now none)))

    -- ---- items

    item_apart : (i : Item) (now : Known) → BreaksNone whole now (item_events i) → AreRecordsApart (lowered_declaration numbers i)
    unfolding item_events type_events subtype_events lowered_declaration lowered_type lowered_subtype AreRecordsApart known_behind
    item_apart (item.RecordType pos id is record_word first rest end end_record semicolon) now none =
        let groups : List Event = flat_map component_events (first ∷ rest) in
        let more : List Event = groups ++ e.DeclarationsEnd ∷ [] in
        let after : Known = known_behind now (declares form.FullType id) in
        let begun : Known = known_behind after e.RecordBegins in
        let rest_of : BreaksNone whole begun more
        = rest_none whole e.RecordBegins more after (rest_none whole (declares form.FullType id) (e.RecordBegins ∷ more) now none) in
        fresh_apart [] (list_texts (code_list (map (lowered_component numbers) (first ∷ rest))))
        (list_fresh (first ∷ rest) begun (first_none whole groups (e.DeclarationsEnd ∷ []) begun rest_of))
    item_apart i now none = tt

    item_part : (i : Item) (others : Code) (now : Known) → BreaksNone whole now (item_events i) → AreRecordsApart others → AreRecordsApart (item_before numbers others i)
    unfolding item_before AreRecordsApart
    item_part (item.Use pos c) others now none rest = rest
    item_part (item.Pragma pos c) others now none rest = rest
    item_part i others now none rest = (item_apart i now none, rest)

    items_apart : (items : List Item) (now : Known) → BreaksNone whole now (flat_map item_events items) → AreRecordsApart (lowered_items numbers items)
    unfolding AreRecordsApart
    items_apart [] now none = tt
    items_apart (i ∷ rest) now none =
        item_part i (lowered_items numbers rest) now (first_none whole (item_events i) (flat_map item_events rest) now none)
        (items_apart rest (known_behind_all now (item_events i)) (second_none whole (item_events i) (flat_map item_events rest) now none))

    -- ---- statements

    simple_apart : (s : Stmt) → AreRecordsApart (lowered_simple numbers s)
    unfolding AreRecordsApart lowered_simple
    simple_apart (stmt.Null pos semicolon) = tt
    simple_apart (stmt.Assign pos target becomes value semicolon) = tt
    simple_apart (stmt.Call pos callee semicolon) = tt
    simple_apart (stmt.Exit pos semicolon) = tt
    simple_apart (stmt.ExitWhen pos when condition semicolon) = tt
    simple_apart (stmt.Return pos semicolon) = tt
    simple_apart (stmt.ReturnValue pos value semicolon) = tt
    simple_apart other = tt

    -- events of an expression and then others
    after_first : (xs ys : List Event) (now : Known) → BreaksNone whole now (xs ++ ys) → BreaksNone whole (known_behind_all now xs) ys
    after_first xs ys now none = second_none whole xs ys now none

    stmts_apart_laws : StatementLaws (record {
      of_statements = λ s. (now : Known) → BreaksNone whole now (stmts_events s) → AreRecordsApart (lowered_stmts numbers s);
      of_statement_box = λ n row. (now : Known) → BreaksNone whole now (stmt_box_events row) → AreRecordsApart (lowered_stmt_box numbers row);
      of_statement_row = λ n row. (now : Known) → BreaksNone whole now (stmt_list_events row) → AreRecordsApart (code_list (stmts_row numbers row));
      of_statement = λ s. (now : Known) → BreaksNone whole now (stmt_events s) → AreRecordsApart (lowered_stmt numbers s);
      of_statements_box = λ n row. (now : Known) → BreaksNone whole now (stmts_box_events row) → AreRecordsApart (lowered_stmts_box numbers row);
      of_branches = λ n row. (now : Known) → BreaksNone whole now (elsifs_events row) → AreRecordsApart (code_list (elsifs_row numbers row));
      of_branch = λ b. (now : Known) → BreaksNone whole now (elsif_events b) → AreRecordsApart (lowered_elsif numbers b);
      of_alternative_box = λ n row. (now : Known) → BreaksNone whole now (when_box_events row) → AreRecordsApart (lowered_when_box numbers row);
      of_alternatives = λ n row. (now : Known) → BreaksNone whole now (whens_events row) → AreRecordsApart (code_list (whens_row numbers row));
      of_alternative = λ w. (now : Known) → BreaksNone whole now (when_events w) → AreRecordsApart (lowered_when numbers w);
    })
    unfolding AreRecordsApart lowered_stmts lowered_stmt_box stmts_row lowered_stmt lowered_stmts_box elsifs_row lowered_elsif lowered_when_box whens_row lowered_when stmts_events stmt_box_events stmt_list_events stmt_events stmts_box_events elsifs_events elsif_events when_box_events whens_events when_events
    stmts_apart_laws = record {
      statements_sequence = λ pos _ first _ rest by_first by_rest now none. (
        by_first now (first_none whole (stmt_box_events first) (stmt_list_events rest) now none),
        by_rest (known_behind_all now (stmt_box_events first)) (after_first (stmt_box_events first) (stmt_list_events rest) now none),
      );
      statement_box_end = λ now none. tt;
      statement_box_more = λ _ part rest by_part now none. by_part now none;
      statement_row_end = λ now none. tt;
      statement_row_more = λ _ part rest by_part by_rest now none. (
        by_part now (first_none whole (stmt_events part) (stmt_list_events rest) now none),
        by_rest (known_behind_all now (stmt_events part)) (after_first (stmt_events part) (stmt_list_events rest) now none),
      );
      statement_null = λ pos semicolon now none. simple_apart (stmt.Null pos semicolon);
      statement_assign = λ pos target becomes value semicolon now none. simple_apart (stmt.Assign pos target becomes value semicolon);
      statement_call = λ pos called semicolon now none. simple_apart (stmt.Call pos called semicolon);
      statement_exit = λ pos semicolon now none. simple_apart (stmt.Exit pos semicolon);
      statement_exit_when = λ pos when_word condition semicolon now none. simple_apart (stmt.ExitWhen pos when_word condition semicolon);
      statement_return = λ pos semicolon now none. simple_apart (stmt.Return pos semicolon);
      statement_return_value = λ pos value semicolon now none. simple_apart (stmt.ReturnValue pos value semicolon);
      statement_if = λ pos condition then_word _ body _ elsifs end end_if semicolon by_body by_elsifs now none. let inner : Known = known_behind_all now (expr_events condition) in
          let parts : BreaksNone whole inner (stmts_box_events body ++ elsifs_events elsifs) = after_first (expr_events condition) (stmts_box_events body ++ elsifs_events elsifs) now none in (
            (
              by_body inner (first_none whole (stmts_box_events body) (elsifs_events elsifs) inner parts),
              by_elsifs (known_behind_all inner (stmts_box_events body)) (after_first (stmts_box_events body) (elsifs_events elsifs) inner parts),
            ),
            tt,
          );
      statement_if_else = λ pos condition then_word _ body _ elsifs otherwise _ other end end_if semicolon by_body by_elsifs by_other now none. let inner : Known = known_behind_all now (expr_events condition) in
          let last : List Event = elsifs_events elsifs ++ stmts_box_events other in
          let parts : BreaksNone whole inner (stmts_box_events body ++ last) = after_first (expr_events condition) (stmts_box_events body ++ last) now none in
          let middle : Known = known_behind_all inner (stmts_box_events body) in
          let lasts : BreaksNone whole middle last = after_first (stmts_box_events body) last inner parts in (
            (
              by_body inner (first_none whole (stmts_box_events body) last inner parts),
              by_elsifs middle (first_none whole (elsifs_events elsifs) (stmts_box_events other) middle lasts),
            ),
            by_other (known_behind_all middle (elsifs_events elsifs)) (after_first (elsifs_events elsifs) (stmts_box_events other) middle lasts),
          );
      statement_case = λ pos selecting is _ first _ rest end end_case semicolon by_first by_rest now none. let inner : Known = known_behind_all now (expr_events selecting) in
          let parts : BreaksNone whole inner (when_box_events first ++ whens_events rest) = after_first (expr_events selecting) (when_box_events first ++ whens_events rest) now none in (
            by_first inner (first_none whole (when_box_events first) (whens_events rest) inner parts),
            by_rest (known_behind_all inner (when_box_events first)) (after_first (when_box_events first) (whens_events rest) inner parts),
          );
      statement_loop = λ pos _ body end end_loop semicolon by_body now none. by_body now none;
      statement_while = λ pos condition loop_word _ body end end_loop semicolon by_body now none. by_body (known_behind_all now (expr_events condition)) (after_first (expr_events condition) (stmts_box_events body) now none);
      statement_for = λ pos parameter in_word reverse steps loop_word _ body end end_loop semicolon by_body now none. let front : List Event = parameter_events parameter steps in
          let inner : Known = known_behind_all now front in
          by_body inner
          (first_none whole (stmts_box_events body) (e.RegionCloses ∷ []) inner (after_first front (stmts_box_events body ++ e.RegionCloses ∷ []) now none));
      statement_block = λ pos _ body end semicolon by_body now none. let inner : Known = known_behind now e.RegionOpens in
          (tt, by_body inner (first_none whole (stmts_box_events body) (e.RegionCloses ∷ []) inner (rest_none whole e.RegionOpens (stmts_box_events body ++ e.RegionCloses ∷ []) now none)));
      statement_declare_block = λ pos items begin _ body end semicolon by_body now none. let declared : List Event = flat_map item_events items in
          let more : List Event = stmts_box_events body ++ e.RegionCloses ∷ [] in
          let inner : Known = known_behind now e.RegionOpens in
          let parts : BreaksNone whole inner (declared ++ more) = rest_none whole e.RegionOpens (declared ++ more) now none in
          let middle : Known = known_behind_all inner declared in (
            items_apart items inner (first_none whole declared more inner parts),
            by_body middle (first_none whole (stmts_box_events body) (e.RegionCloses ∷ []) middle (after_first declared more inner parts)),
          );
      statements_box_end = λ now none. tt;
      statements_box_more = λ _ part rest by_part now none. by_part now none;
      branches_end = λ now none. tt;
      branches_more = λ _ part rest by_part by_rest now none. (
        by_part now (first_none whole (elsif_events part) (elsifs_events rest) now none),
        by_rest (known_behind_all now (elsif_events part)) (after_first (elsif_events part) (elsifs_events rest) now none),
      );
      branch_branch = λ pos condition then_word _ body by_body now none. by_body (known_behind_all now (expr_events condition)) (after_first (expr_events condition) (stmts_box_events body) now none);
      alternative_box_end = λ now none. tt;
      alternative_box_more = λ _ part rest by_part now none. by_part now none;
      alternatives_end = λ now none. tt;
      alternatives_more = λ _ part rest by_part by_rest now none. (
        by_part now (first_none whole (when_events part) (whens_events rest) now none),
        by_rest (known_behind_all now (when_events part)) (after_first (when_events part) (whens_events rest) now none),
      );
      alternative_alternative = λ pos first rest arrow _ body by_body now none. let more : List Event = flat_map next_choice_events rest ++ stmts_box_events body in
          let inner : Known = known_behind_all now (choice_events first) in
          by_body (known_behind_all inner (flat_map next_choice_events rest))
          (after_first (flat_map next_choice_events rest) (stmts_box_events body) inner (after_first (choice_events first) more now none));
    }

    stmts_apart : (s : Stmts) (now : Known) → BreaksNone whole now (stmts_events s) → AreRecordsApart (lowered_stmts numbers s)
    stmts_apart = on_statements stmts_apart_laws

    -- ---- units

    subprogram_apart : (b : SubprogramBody) (now : Known) → BreaksNone whole now (subprogram_events b) → AreRecordsApart (lowered_subprogram numbers b)
    unfolding AreRecordsApart lowered_subprogram subprogram_events
    subprogram_apart b now none =
        let front : List Event = subspec_events (body_form b.spec) b.spec in
        let declared : List Event = flat_map item_events b.items in
        let last : List Event = e.RegionCloses ∷ closing_events (subspec_name b.spec) b.closing in
        let inner : Known = known_behind_all now front in
        let parts : BreaksNone whole inner (declared ++ (stmts_events b.stmts ++ last)) = second_none whole front (declared ++ (stmts_events b.stmts ++ last)) now none in
        let middle : Known = known_behind_all inner declared in (
          items_apart b.items inner (first_none whole declared (stmts_events b.stmts ++ last) inner parts),
          stmts_apart b.stmts middle (first_none whole (stmts_events b.stmts) last middle (second_none whole declared (stmts_events b.stmts ++ last) inner parts)),
        )

    decl_part : (d : Decl) (others : Code) (now : Known) → BreaksNone whole now (decl_events d) → AreRecordsApart others → AreRecordsApart (decl_before numbers others d)
    unfolding AreRecordsApart decl_before decl_events
    decl_part (decl.OfItem pos declared) others now none rest = item_part declared others now none rest
    decl_part (decl.Subprogram pos spec mode semicolon) others now none rest = (tt, rest)

    decls_apart : (ds : List Decl) (now : Known) → BreaksNone whole now (flat_map decl_events ds) → AreRecordsApart (lowered_decls numbers ds)
    unfolding AreRecordsApart
    decls_apart [] now none = tt
    decls_apart (d ∷ rest) now none =
        decl_part d (lowered_decls numbers rest) now (first_none whole (decl_events d) (flat_map decl_events rest) now none)
        (decls_apart rest (known_behind_all now (decl_events d)) (second_none whole (decl_events d) (flat_map decl_events rest) now none))

    body_part : (x : BodyPart) (others : Code) (now : Known) → BreaksNone whole now (body_part_events x) → AreRecordsApart others → AreRecordsApart (part_before numbers others x)
    unfolding AreRecordsApart part_before body_part_events
    body_part (part.Declared pos declared) others now none rest = decl_part declared others now none rest
    body_part (part.Completed pos body) others now none rest = (subprogram_apart body now none, rest)

    parts_apart : (xs : List BodyPart) (now : Known) → BreaksNone whole now (flat_map body_part_events xs) → AreRecordsApart (before_all (part_before numbers) xs)
    unfolding AreRecordsApart
    parts_apart [] now none = tt
    parts_apart (x ∷ rest) now none =
        body_part x (before_all (part_before numbers) rest) now (first_none whole (body_part_events x) (flat_map body_part_events rest) now none)
        (parts_apart rest (known_behind_all now (body_part_events x)) (second_none whole (body_part_events x) (flat_map body_part_events rest) now none))

    private_apart : (o : Option PrivatePart) (now : Known) → BreaksNone whole now (each_of private_events o) → AreRecordsApart (lowered_private numbers o)
    unfolding AreRecordsApart
    private_apart None now none = tt
    private_apart (Some p) now none = decls_apart p.decls (known_behind now e.PrivatePartBegins) (rest_none whole e.PrivatePartBegins (flat_map decl_events p.decls) now none)

    package_apart : (p : Package) (now : Known) → BreaksNone whole now (package_events p) → AreRecordsApart (lowered_package numbers p)
    unfolding AreRecordsApart lowered_package
    package_apart p now none =
        let visible : List Event = flat_map decl_events p.visible in
        let hidden : List Event = each_of private_events p.private in
        let last : List Event = e.RegionCloses ∷ closing_events p.name p.closing in
        let more : List Event = visible ++ (hidden ++ last) in
        let one : Known = known_behind now (declares form.Package p.name) in
        let two : Known = known_behind one e.DeclarationsEnd in
        let inner : Known = known_behind two e.RegionOpens in
        let parts : BreaksNone whole inner more
        = rest_none whole e.RegionOpens more two (rest_none whole e.DeclarationsEnd (e.RegionOpens ∷ more) one
        (rest_none whole (declares form.Package p.name) (e.DeclarationsEnd ∷ (e.RegionOpens ∷ more)) now none)) in
        let middle : Known = known_behind_all inner visible in (
          decls_apart p.visible inner (first_none whole visible (hidden ++ last) inner parts),
          private_apart p.private middle (first_none whole hidden last middle (second_none whole visible (hidden ++ last) inner parts)),
        )

    package_body_apart : (b : PackageBody) (now : Known) → BreaksNone whole now (package_body_events b) → AreRecordsApart (lowered_package_body numbers b)
    unfolding AreRecordsApart lowered_package_body
    package_body_apart b now none =
        let declared : List Event = flat_map body_part_events b.parts in
        let last : List Event = e.RegionCloses ∷ closing_events b.name b.closing in
        let begins : Event = e.PackageBodyOpens (folded_identifier b.name) in
        parts_apart b.parts (known_behind now begins)
        (first_none whole declared last (known_behind now begins) (rest_none whole begins (declared ++ last) now none))

    unit_apart : (u : SourceUnit) (now : Known) → BreaksNone whole now (unit_events u) → AreRecordsApart (lowered_unit numbers u)
    unfolding lowered_unit unit_events
    unit_apart (unit.OfPackage pos clauses p) now none =
        package_apart p (known_behind_all now (unit_front None clauses)) (second_none whole (unit_front None clauses) (package_events p) now none)
    unit_apart (unit.OfBody pos clauses body) now none =
        package_body_apart body (known_behind_all now (unit_front (Some (folded body.name)) clauses))
        (second_none whole (unit_front (Some (folded body.name)) clauses) (package_body_events body) now none)
    unit_apart (unit.OfSubprogram pos clauses body) now none =
        subprogram_apart body (known_behind_all now (unit_front None clauses)) (second_none whole (unit_front None clauses) (subprogram_events body) now none)

    units_apart : (us : List SourceUnit) (now : Known) → BreaksNone whole now (flat_map unit_events us) → (u : Code) → Has (map (lowered_unit numbers) us) u → AreRecordsApart u
    units_apart [] now none u has = absurd has
    units_apart (v ∷ rest) now none u has = elim has [
      | inl same ↦ subst AreRecordsApart same (unit_apart v now (first_none whole (unit_events v) (flat_map unit_events rest) now none))
      | inr more ↦ units_apart rest (known_behind_all now (unit_events v)) (second_none whole (unit_events v) (flat_map unit_events rest) now none) u more
    ]

    files_apart : (files : List (List SourceUnit)) (now : Known) → BreaksNone whole now (source_events files) → (u : Code) → Has (lowered_files numbers files) u → AreRecordsApart u
    unfolding source_events lowered_files
    files_apart [] now none u has = absurd has
    files_apart (us ∷ rest) now none u has = elim (Has-append_cases (map (lowered_unit numbers) us) (flat_map (map (lowered_unit numbers)) rest) u has) [
      | inl here ↦ units_apart us now (first_none whole (flat_map unit_events us) (flat_map (flat_map unit_events) rest) now none) u here
      | inr more ↦ files_apart rest (known_behind_all now (flat_map unit_events us)) (second_none whole (flat_map unit_events us) (flat_map (flat_map unit_events) rest) now none) u more
    ]

-- The code of files that break no rule of names.
pub records_apart : (numbers : Numbers) (files : Files) → name_fault files ≡ None → (u : Code) → Has (lowered_files numbers files) u → AreRecordsApart u
unfolding name_fault
records_apart numbers files none = files_apart (known_of files) numbers files known_at_first none
