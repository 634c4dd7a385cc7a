-- What items, statements and subprograms do with names is steady.
use Rattle.std.proofs.Common.{◌≡◌, Bool, true, false, ◌&&◌, List, [], ◌∷◌, ◌++◌, map, refl, subst, append_assoc, Option, Some, None}
use Rattle.std.specs.List.{flat_map}
use Rattle.ada_tree.specs.declared.identifier.Identifier.{Identifier}
use Rattle.ada_tree.specs.declared.declaration.Component.{Component}
use Rattle.ada_tree.specs.declared.declaration.Component.TheVariants as component
use Rattle.ada_tree.specs.declared.declaration.Indication.{Indication}
use Rattle.ada_tree.specs.declared.declaration.Indication.TheVariants as indication
use Rattle.ada_tree.specs.declared.declaration.Item.{Item}
use Rattle.ada_tree.specs.declared.declaration.Item.TheVariants as item
use Rattle.ada_tree.specs.declared.statement.Stmts.{Stmts}
use Rattle.ada_tree.specs.declared.statement.Stmt.{Stmt}
use Rattle.ada_tree.specs.declared.statement.Stmt.TheVariants as stmt
use Rattle.ada_tree.specs.declared.subprogram.Subspec.{Subspec}
use Rattle.ada_tree.specs.declared.subprogram.Subspec.TheVariants as subspec
use Rattle.ada_tree.specs.declared.subprogram.Formals.{Formals}
use Rattle.ada_tree.specs.declared.subprogram.NextFormal.{NextFormal}
use Rattle.ada_tree.specs.declared.subprogram.NextFormal.TheVariants as next_formal
use Rattle.ada_tree.specs.declared.subprogram.Formal.{Formal}
use Rattle.ada_tree.specs.declared.subprogram.Formal.TheVariants as formal
use Rattle.name_events.specs.declared.event.Event.{Event}
use Rattle.name_events.specs.declared.event.Event.TheVariants as e
use Rattle.name_events.specs.declared.event.Clause.TheVariants as clause
use Rattle.name_events.specs.declared.declaration.DeclarationForm.{DeclarationForm}
use Rattle.name_events.specs.declared.declaration.DeclarationForm.TheVariants as form
use Rattle.name_events.specs.ExpressionOutline.{declares, declares_all, mention, next_name, name_events, arg_events, next_arg_events, expr_events, range_events, choice_events, next_choice_events, each_of, folded_identifier}
use Rattle.name_events.specs.Outline.{component_events, subtype_events, type_events, item_events, use_events, indication_events, simple_events, stmts_events, stmt_box_events, stmt_list_events, stmt_events, stmts_box_events, elsifs_events, elsif_events, when_box_events, whens_events, when_events, formal_events, next_formal_events, formals_events}
use Rattle.settled_types.proofs.StatementCases.{StatementLaws, on_statements}
use Rattle.settled_types.specs.OrderlyFiles.Numbered.{is_flat, all_flat}
use Rattle.settled_types.proofs.OrderlyFiles.Mentions.{mild_flat, name_mild, arg_mild, next_arg_mild, mild_each, expr_mild, range_mild, choice_mild, next_choice_mild}
use Rattle.settled_types.proofs.OrderlyFiles.Statements.{use_mild}
use Rattle.settled_types.proofs.NamedFiles.Regions.{Steady, steady_none, steady_both, steady_flat, steady_region, steady_each}

-- ---- flat lists

flat_both : (xs ys : List Event) → all_flat xs ≡ true → all_flat ys ≡ true → all_flat (xs ++ ys) ≡ true
flat_both [] ys a b = b
flat_both (x ∷ xs) ys a b = by (λ a. flat_both xs ys a b) (is_flat x) a
  where
    by : (all_flat xs ≡ true → all_flat (xs ++ ys) ≡ true) → (f : Bool) → f && all_flat xs ≡ true → f && all_flat (xs ++ ys) ≡ true
    by on true a = on a
    by on false a = a

declared_flat : (new : DeclarationForm) (ids : List Identifier) → all_flat (map (declares new) ids) ≡ true
declared_flat new [] = refl
declared_flat new (id ∷ rest) = declared_flat new rest

components_flat : (ids : List Identifier) → all_flat (map (λ id. e.DeclaresComponent (folded_identifier id)) ids) ≡ true
components_flat [] = refl
components_flat (id ∷ rest) = components_flat rest

component_flat : (c : Component) → all_flat (component_events c) ≡ true
unfolding component_events
component_flat (component.Fields pos first rest colon mark semicolon) =
    flat_both (map (λ id. e.DeclaresComponent (folded_identifier id)) (first ∷ map next_name rest)) (mention clause.Elsewhere mark ∷ [])
    (components_flat (first ∷ map next_name rest)) refl

each_flat : {A : Type 0} (f : A → List Event) → ((x : A) → all_flat (f x) ≡ true) → (xs : List A) → all_flat (flat_map f xs) ≡ true
each_flat f one [] = refl
each_flat f one (x ∷ rest) = flat_both (f x) (flat_map f rest) (one x) (each_flat f one rest)

indication_flat : (i : Indication) → all_flat (indication_events i) ≡ true
unfolding indication_events
indication_flat (indication.Mark pos mark) = refl
indication_flat (indication.Anonymous pos constant designated) = refl

ends_flat : (xs : List Event) → all_flat xs ≡ true → all_flat (xs ++ e.DeclarationsEnd ∷ []) ≡ true
ends_flat xs a = flat_both xs (e.DeclarationsEnd ∷ []) a refl

item_flat : (i : Item) → all_flat (item_events i) ≡ true
unfolding item_events type_events subtype_events
item_flat (item.IncompleteType pos id semicolon) = refl
item_flat (item.PrivateType pos id is private semicolon) = refl
item_flat (item.EnumerationType pos id is left_paren first rest right_paren semicolon) =
    ends_flat (declares_all form.Literal first rest) (declared_flat form.Literal (first ∷ map next_name rest))
item_flat (item.RecordType pos id is record_word first rest end end_record semicolon) =
    ends_flat (flat_map component_events (first ∷ rest)) (each_flat component_events component_flat (first ∷ rest))
item_flat (item.ArrayType pos id is array left_paren index right_paren of element semicolon) =
    flat_both (range_events index) (mention clause.Elsewhere element ∷ (e.DeclarationsEnd ∷ [])) (mild_flat (range_events index) (range_mild index)) refl
item_flat (item.AccessType pos id is access designated semicolon) = refl
item_flat (item.Subtype pos id is mark semicolon) = refl
item_flat (item.ConstrainedSubtype pos id is mark of_range low dots high semicolon) =
    flat_both (expr_events low) (expr_events high ++ e.DeclarationsEnd ∷ []) (mild_flat (expr_events low) (expr_mild low))
    (ends_flat (expr_events high) (mild_flat (expr_events high) (expr_mild high)))
item_flat (item.Objects pos first rest colon constant indicated semicolon) =
    flat_both (declares_all form.Object first rest) (indication_events indicated ++ e.DeclarationsEnd ∷ []) (declared_flat form.Object (first ∷ map next_name rest))
    (ends_flat (indication_events indicated) (indication_flat indicated))
item_flat (item.InitializedObjects pos first rest colon constant indicated becomes value semicolon) =
    flat_both (declares_all form.Object first rest) (indication_events indicated ++ (expr_events value ++ e.DeclarationsEnd ∷ []))
    (declared_flat form.Object (first ∷ map next_name rest))
    (flat_both (indication_events indicated) (expr_events value ++ e.DeclarationsEnd ∷ []) (indication_flat indicated)
    (ends_flat (expr_events value) (mild_flat (expr_events value) (expr_mild value))))
item_flat (item.Numbers pos first rest colon constant becomes value semicolon) =
    flat_both (declares_all form.Object first rest) (expr_events value ++ e.DeclarationsEnd ∷ []) (declared_flat form.Object (first ∷ map next_name rest))
    (ends_flat (expr_events value) (mild_flat (expr_events value) (expr_mild value)))
item_flat (item.Instance pos id is new generic left_paren first rest right_paren semicolon) =
    flat_both (arg_events first) (flat_map next_arg_events rest ++ e.DeclarationsEnd ∷ []) (mild_flat (arg_events first) (arg_mild first))
    (ends_flat (flat_map next_arg_events rest) (mild_flat (flat_map next_arg_events rest) (mild_each next_arg_events next_arg_mild rest)))
item_flat (item.Use pos c) = mild_flat (use_events c) (use_mild c)
item_flat (item.Pragma pos c) = refl

pub items_steady : (items : List Item) → Steady (flat_map item_events items)
items_steady items = steady_each item_events (λ i. steady_flat (item_events i) (item_flat i)) items

pub item_steady : (i : Item) → Steady (item_events i)
item_steady i = steady_flat (item_events i) (item_flat i)

-- ---- formals

formal_flat : (f : Formal) → all_flat (formal_events f) ≡ true
unfolding formal_events
formal_flat (formal.Moded pos first rest colon in_word out_word mark) =
    flat_both (declares_all form.Formal first rest) (mention clause.Elsewhere mark ∷ (e.DeclarationsEnd ∷ [])) (declared_flat form.Formal (first ∷ map next_name rest)) refl
formal_flat (formal.Anonymous pos first rest colon access constant designated) =
    flat_both (declares_all form.Formal first rest) (mention clause.Elsewhere designated ∷ (e.DeclarationsEnd ∷ [])) (declared_flat form.Formal (first ∷ map next_name rest)) refl

next_formal_flat : (f : NextFormal) → all_flat (next_formal_events f) ≡ true
unfolding next_formal_events
next_formal_flat (next_formal.Semicolon pos part) = formal_flat part

formals_flat : (o : Option Formals) → all_flat (each_of formals_events o) ≡ true
formals_flat None = refl
formals_flat (Some f) = flat_both (formal_events f.first) (flat_map next_formal_events f.rest) (formal_flat f.first) (each_flat next_formal_events next_formal_flat f.rest)

-- what stands in the region of a subprogram before its items
abbrev pub profile_events : Subspec → List Event
profile_events (subspec.Procedure pos id formals) = each_of formals_events formals ++ e.OuterDeclarationsEnd ∷ []
profile_events (subspec.Function pos id formals return_word result) = each_of formals_events formals ++ (indication_events result ++ e.OuterDeclarationsEnd ∷ [])

pub profile_steady : (s : Subspec) → Steady (profile_events s)
profile_steady (subspec.Procedure pos id formals) =
    steady_flat (each_of formals_events formals ++ e.OuterDeclarationsEnd ∷ [])
    (flat_both (each_of formals_events formals) (e.OuterDeclarationsEnd ∷ []) (formals_flat formals) refl)
profile_steady (subspec.Function pos id formals return_word result) =
    steady_flat (each_of formals_events formals ++ (indication_events result ++ e.OuterDeclarationsEnd ∷ []))
    (flat_both (each_of formals_events formals) (indication_events result ++ e.OuterDeclarationsEnd ∷ []) (formals_flat formals)
    (flat_both (indication_events result) (e.OuterDeclarationsEnd ∷ []) (indication_flat result) refl))

-- ---- statements

expr_steady : (x : _) → Steady (expr_events x)
expr_steady x = steady_flat (expr_events x) (mild_flat (expr_events x) (expr_mild x))

name_steady : (x : _) → Steady (name_events x)
name_steady x = steady_flat (name_events x) (mild_flat (name_events x) (name_mild x))

simple_steady : (s : Stmt) → Steady (simple_events s)
unfolding simple_events
simple_steady (stmt.Assign pos target becomes value semicolon) = steady_both (name_events target) (expr_events value) (name_steady target) (expr_steady value)
simple_steady (stmt.Call pos callee semicolon) = name_steady callee
simple_steady (stmt.ExitWhen pos when condition semicolon) = expr_steady condition
simple_steady (stmt.ReturnValue pos value semicolon) = expr_steady value
simple_steady other = steady_none

-- the region of a loop or a block
around_steady : (xs ys : List Event) → Steady xs → Steady ys → Steady ((e.RegionOpens ∷ xs) ++ (ys ++ e.RegionCloses ∷ []))
around_steady xs ys one two =
    subst (λ zs. Steady (e.RegionOpens ∷ zs)) (append_assoc xs ys (e.RegionCloses ∷ [])) (steady_region (xs ++ ys) (steady_both xs ys one two))

stmts_steady_laws : StatementLaws (record {
  of_statements = λ s. Steady (stmts_events s);
  of_statement_box = λ n row. Steady (stmt_box_events row);
  of_statement_row = λ n row. Steady (stmt_list_events row);
  of_statement = λ s. Steady (stmt_events s);
  of_statements_box = λ n row. Steady (stmts_box_events row);
  of_branches = λ n row. Steady (elsifs_events row);
  of_branch = λ b. Steady (elsif_events b);
  of_alternative_box = λ n row. Steady (when_box_events row);
  of_alternatives = λ n row. Steady (whens_events row);
  of_alternative = λ w. Steady (when_events w);
})
unfolding stmts_events stmt_box_events stmt_list_events stmt_events stmts_box_events elsifs_events elsif_events when_box_events whens_events when_events
stmts_steady_laws = record {
  statements_sequence = λ pos _ first _ rest by_first by_rest. steady_both (stmt_box_events first) (stmt_list_events rest) (by_first) (by_rest);
  statement_box_end = steady_none;
  statement_box_more = λ _ part rest by_part. by_part;
  statement_row_end = steady_none;
  statement_row_more = λ _ part rest by_part by_rest. steady_both (stmt_events part) (stmt_list_events rest) (by_part) (by_rest);
  statement_null = λ pos semicolon. simple_steady (stmt.Null pos semicolon);
  statement_assign = λ pos target becomes value semicolon. simple_steady (stmt.Assign pos target becomes value semicolon);
  statement_call = λ pos called semicolon. simple_steady (stmt.Call pos called semicolon);
  statement_exit = λ pos semicolon. simple_steady (stmt.Exit pos semicolon);
  statement_exit_when = λ pos when_word condition semicolon. simple_steady (stmt.ExitWhen pos when_word condition semicolon);
  statement_return = λ pos semicolon. simple_steady (stmt.Return pos semicolon);
  statement_return_value = λ pos value semicolon. simple_steady (stmt.ReturnValue pos value semicolon);
  statement_if = λ pos condition then_word _ body _ elsifs end end_if semicolon by_body by_elsifs. steady_both (expr_events condition) (stmts_box_events body ++ elsifs_events elsifs) (expr_steady condition)
      (steady_both (stmts_box_events body) (elsifs_events elsifs) (by_body) (by_elsifs));
  statement_if_else = λ pos condition then_word _ body _ elsifs otherwise _ other end end_if semicolon by_body by_elsifs by_other. steady_both (expr_events condition) (stmts_box_events body ++ (elsifs_events elsifs ++ stmts_box_events other)) (expr_steady condition)
      (steady_both (stmts_box_events body) (elsifs_events elsifs ++ stmts_box_events other) (by_body)
      (steady_both (elsifs_events elsifs) (stmts_box_events other) (by_elsifs) (by_other)));
  statement_case = λ pos selecting is _ first _ rest end end_case semicolon by_first by_rest. steady_both (expr_events selecting) (when_box_events first ++ whens_events rest) (expr_steady selecting)
      (steady_both (when_box_events first) (whens_events rest) (by_first) (by_rest));
  statement_loop = λ pos _ body end end_loop semicolon by_body. by_body;
  statement_while = λ pos condition loop_word _ body end end_loop semicolon by_body. steady_both (expr_events condition) (stmts_box_events body) (expr_steady condition) (by_body);
  statement_for = λ pos parameter in_word reverse steps loop_word _ body end end_loop semicolon by_body. around_steady (declares form.LoopParameter parameter ∷ (range_events steps ++ e.DeclarationsEnd ∷ [])) (stmts_box_events body)
      (steady_flat (declares form.LoopParameter parameter ∷ (range_events steps ++ e.DeclarationsEnd ∷ []))
      (ends_flat (range_events steps) (mild_flat (range_events steps) (range_mild steps)))) (by_body);
  statement_block = λ pos _ body end semicolon by_body. steady_region (stmts_box_events body) (by_body);
  statement_declare_block = λ pos items begin _ body end semicolon by_body. around_steady (flat_map item_events items) (stmts_box_events body) (items_steady items) (by_body);
  statements_box_end = steady_none;
  statements_box_more = λ _ part rest by_part. by_part;
  branches_end = steady_none;
  branches_more = λ _ part rest by_part by_rest. steady_both (elsif_events part) (elsifs_events rest) (by_part) (by_rest);
  branch_branch = λ pos condition then_word _ body by_body. steady_both (expr_events condition) (stmts_box_events body) (expr_steady condition) (by_body);
  alternative_box_end = steady_none;
  alternative_box_more = λ _ part rest by_part. by_part;
  alternatives_end = steady_none;
  alternatives_more = λ _ part rest by_part by_rest. steady_both (when_events part) (whens_events rest) (by_part) (by_rest);
  alternative_alternative = λ pos first rest arrow _ body by_body. steady_both (choice_events first) (flat_map next_choice_events rest ++ stmts_box_events body)
      (steady_flat (choice_events first) (mild_flat (choice_events first) (choice_mild first)))
      (steady_both (flat_map next_choice_events rest) (stmts_box_events body)
      (steady_flat (flat_map next_choice_events rest) (mild_flat (flat_map next_choice_events rest) (mild_each next_choice_events next_choice_mild rest)))
      (by_body));
}

pub stmts_steady : (s : Stmts) → Steady (stmts_events s)
stmts_steady = on_statements stmts_steady_laws
