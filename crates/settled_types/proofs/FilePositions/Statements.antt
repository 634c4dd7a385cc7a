-- The identifiers of items and statements stand in the order of their events.
use Rattle.std.proofs.Common.{ℕ, suc, refl, List, [], ◌∷◌, ◌++◌, map}
use Rattle.std.specs.List.{flat_map}
use Rattle.token_reading.specs.Weights.{WeighedToken}
use Rattle.token_reading.specs.declared.side.Side.TheVariants.{Apart}
use Rattle.ada_tree.specs.declared.declaration.Item.{Item}
use Rattle.ada_tree.specs.declared.declaration.Item.TheVariants as item
use Rattle.ada_tree.specs.declared.declaration.UseClause.{UseClause}
use Rattle.ada_tree.specs.declared.identifier.NextDotted.{NextDotted}
use Rattle.ada_tree.specs.declared.identifier.NextDotted.TheVariants as next_dotted
use Rattle.ada_tree.specs.declared.declaration.Component.{Component}
use Rattle.ada_tree.specs.declared.declaration.Component.TheVariants as component
use Rattle.ada_tree.specs.declared.declaration.Indication.{Indication}
use Rattle.ada_tree.specs.declared.declaration.Indication.TheVariants as indication
use Rattle.ada_tree.specs.declared.statement.Stmts.{Stmts}
use Rattle.ada_tree.specs.Spelling.{optional_word, next_dotted_spelling, next_arg_spelling, next_choice_spelling, indication_spelling, component_spelling, use_spelling, item_spelling, stmts_box, stmts_spelling, stmt_box, next_stmts_spelling, stmt_spelling, elsifs_spelling, elsif_spelling, when_box, next_whens_spelling, when_spelling}
use Rattle.name_events.specs.declared.event.Event.TheVariants as e
use Rattle.name_events.specs.declared.event.Clause.{Clause}
use Rattle.name_events.specs.ExpressionOutline.{mention, next_dotted_name, next_arg_events, expr_events, range_events, next_choice_events}
use Rattle.name_events.specs.Outline.{indication_events, component_events, use_events, subtype_events, type_events, item_events, simple_events, stmts_events, stmt_box_events, stmt_list_events, stmt_events, stmts_box_events, elsifs_events, elsif_events, when_box_events, whens_events, when_events}
use Rattle.settled_types.proofs.StatementCases.{StatementLaws, on_statements}
use Rattle.settled_types.specs.FilePositions.Order.{Follows}
use Rattle.settled_types.proofs.FilePositions.Rows.{none, both, grouped, ungrouped, past, behind, ahead, each, silent, declared, all_declared, defined, dotted_follows, mentioned, components_follow}
use Rattle.settled_types.proofs.FilePositions.Expressions.{name_follows, next_arg_follows, arg_follows, expr_follows, range_follows, choice_follows, next_choice_follows}

-- the end of a declaration
ends : {ms : List WeighedToken} → Follows (e.DeclarationsEnd ∷ []) ms
ends = silent e.DeclarationsEnd refl none

pub indication_follows : (i : Indication) → Follows (indication_events i) (indication_spelling i)
unfolding indication_events indication_spelling
indication_follows (indication.Mark pos mark) = dotted_follows _ _ mark
indication_follows (indication.Anonymous pos constant designated) = past _ (behind (optional_word _ constant) (dotted_follows _ _ designated))

component_follows : (c : Component) → Follows (component_events c) (component_spelling c)
unfolding component_events component_spelling
component_follows (component.Fields pos first rest colon mark semicolon) =
    both (components_follow first rest) (past _ (mentioned _ _ mark none))

pub next_dotteds : (c : Clause) (rest : List NextDotted) → Follows (map (mention c) (map next_dotted_name rest)) (flat_map next_dotted_spelling rest)
unfolding next_dotted_name next_dotted_spelling
next_dotteds c [] = none
next_dotteds c (next_dotted.FurtherDotted pos dotted ∷ rest) = past _ (mentioned c _ dotted (next_dotteds c rest))

pub use_follows : (c : UseClause) → Follows (use_events c) (use_spelling c)
unfolding use_spelling
use_follows c =
    past _ (behind (optional_word _ c.type_word) (mentioned _ _ c.first (both (next_dotteds _ c.rest) (silent e.UseClauseEnds refl none))))

pub item_follows : (d : ℕ) (i : Item) → Follows (item_events i) (item_spelling d i)
unfolding item_events type_events subtype_events item_spelling
item_follows d (item.IncompleteType pos id semicolon) = past _ (declared _ Apart id ends)
item_follows d (item.PrivateType pos id is private semicolon) = past _ (declared _ Apart id ends)
item_follows d (item.EnumerationType pos id is left_paren first rest right_paren semicolon) =
    past _ (declared _ Apart id (past _ (past _ (both (all_declared _ first rest) ends))))
item_follows d (item.RecordType pos id is record_word first rest end end_record semicolon) =
    past _ (declared _ Apart id (past _ (past _ (silent e.RecordBegins refl
    (grouped (component_events first) (flat_map component_events rest) (e.DeclarationsEnd ∷ [])
    (both (component_follows first) (both (each component_events component_spelling component_follows rest) ends)))))))
item_follows d (item.ArrayType pos id is array left_paren index right_paren of element semicolon) =
    past _ (declared _ Apart id (past _ (past _ (past _ (both (range_follows (suc d) index) (past _ (past _ (mentioned _ _ element ends))))))))
item_follows d (item.AccessType pos id is access designated semicolon) =
    past _ (declared _ Apart id (past _ (past _ (mentioned _ _ designated ends))))
item_follows d (item.Subtype pos id is mark semicolon) = past _ (declared _ Apart id (past _ (mentioned _ _ mark ends)))
item_follows d (item.ConstrainedSubtype pos id is mark of_range low dots high semicolon) =
    past _ (declared _ Apart id (past _ (mentioned _ _ mark (past _
    (ungrouped (expr_events low) (expr_events high) (e.DeclarationsEnd ∷ [])
    (both (both (expr_follows d low) (past _ (expr_follows d high))) ends))))))
item_follows d (item.Objects pos first rest colon constant indicated semicolon) =
    defined _ first rest colon (behind (optional_word _ constant) (both (indication_follows indicated) ends))
item_follows d (item.InitializedObjects pos first rest colon constant indicated becomes value semicolon) =
    defined _ first rest colon (behind (optional_word _ constant) (both (indication_follows indicated) (past _ (both (expr_follows d value) ends))))
item_follows d (item.Numbers pos first rest colon constant becomes value semicolon) =
    defined _ first rest colon (past _ (past _ (both (expr_follows d value) ends)))
item_follows d (item.Instance pos id is new generic left_paren first rest right_paren semicolon) =
    past _ (declared _ Apart id (past _ (past _ (mentioned _ _ generic (past _ (both (arg_follows Apart (suc d) first)
    (both (each next_arg_events (next_arg_spelling Apart (suc d)) (next_arg_follows Apart (suc d)) rest) ends)))))))
item_follows d (item.Use pos clause) = use_follows clause
item_follows d (item.Pragma pos clause) = none

pub items_follow : (d : ℕ) (items : List Item) → Follows (flat_map item_events items) (flat_map (item_spelling d) items)
items_follow d items = each item_events (item_spelling d) (item_follows d) items

closes : {ms : List WeighedToken} → Follows (e.RegionCloses ∷ []) ms
closes = silent e.RegionCloses refl none

stmts_follow_laws : StatementLaws (record {
  of_statements = λ s. (d : ℕ) → Follows (stmts_events s) (stmts_spelling d s);
  of_statement_box = λ n row. (d : ℕ) → Follows (stmt_box_events row) (stmt_box d row);
  of_statement_row = λ n row. (d : ℕ) → Follows (stmt_list_events row) (next_stmts_spelling d row);
  of_statement = λ s. (d : ℕ) → Follows (stmt_events s) (stmt_spelling d s);
  of_statements_box = λ n row. (d : ℕ) → Follows (stmts_box_events row) (stmts_box d row);
  of_branches = λ n row. (d : ℕ) → Follows (elsifs_events row) (elsifs_spelling d row);
  of_branch = λ b. (d : ℕ) → Follows (elsif_events b) (elsif_spelling d b);
  of_alternative_box = λ n row. (d : ℕ) → Follows (when_box_events row) (when_box d row);
  of_alternatives = λ n row. (d : ℕ) → Follows (whens_events row) (next_whens_spelling d row);
  of_alternative = λ w. (d : ℕ) → Follows (when_events w) (when_spelling d w);
})
unfolding simple_events stmts_events stmt_box_events stmt_list_events stmt_events stmts_box_events elsifs_events elsif_events when_box_events whens_events when_events stmts_box stmts_spelling stmt_box next_stmts_spelling stmt_spelling elsifs_spelling elsif_spelling when_box next_whens_spelling when_spelling
stmts_follow_laws = record {
  statements_sequence = λ pos _ first _ rest by_first by_rest d. both (by_first d) (by_rest d);
  statement_box_end = λ d. none;
  statement_box_more = λ _ part rest by_part d. by_part d;
  statement_row_end = λ d. none;
  statement_row_more = λ _ part rest by_part by_rest d. both (by_part d) (by_rest d);
  statement_null = λ pos semicolon d. none;
  statement_assign = λ pos target becomes value semicolon d. both (name_follows Apart d target) (past _ (ahead _ (expr_follows d value)));
  statement_call = λ pos called semicolon d. ahead _ (name_follows Apart d called);
  statement_exit = λ pos semicolon d. none;
  statement_exit_when = λ pos when condition semicolon d. past _ (past _ (ahead _ (expr_follows d condition)));
  statement_return = λ pos semicolon d. none;
  statement_return_value = λ pos value semicolon d. past _ (ahead _ (expr_follows d value));
  statement_if = λ pos condition then _ body _ elsifs end end_if semicolon by_body by_elsifs d. past _ (both (expr_follows (suc d) condition) (past _ (both (by_body (suc d)) (ahead _ (by_elsifs (suc d))))));
  statement_if_else = λ pos condition then _ body _ elsifs otherwise _ otherwise_body end end_if semicolon by_body by_elsifs by_otherwise_body d. past _ (both (expr_follows (suc d) condition) (past _ (both (by_body (suc d)) (both (by_elsifs (suc d))
      (past _ (ahead _ (by_otherwise_body (suc d))))))));
  statement_case = λ pos selector is _ first _ rest end end_case semicolon by_first by_rest d. past _ (both (expr_follows (suc d) selector) (past _ (both (by_first (suc d)) (ahead _ (by_rest (suc d))))));
  statement_loop = λ pos _ body end end_loop semicolon by_body d. past _ (ahead _ (by_body (suc d)));
  statement_while = λ pos condition loop_word _ body end end_loop semicolon by_body d. past _ (both (expr_follows (suc d) condition) (past _ (ahead _ (by_body (suc d)))));
  statement_for = λ pos parameter in_word reverse over loop_word _ body end end_loop semicolon by_body d. past _ (silent e.RegionOpens refl (declared _ Apart parameter (past _ (behind (optional_word _ reverse)
      (grouped (range_events over) (e.DeclarationsEnd ∷ []) (stmts_box_events body ++ (e.RegionCloses ∷ []))
      (both (range_follows (suc d) over) (past _ (silent e.DeclarationsEnd refl (both (by_body (suc d)) closes)))))))));
  statement_block = λ pos _ body end semicolon by_body d. past _ (silent e.RegionOpens refl (both (by_body (suc d)) closes));
  statement_declare_block = λ pos items begin _ body end semicolon by_body d. past _ (silent e.RegionOpens refl (both (items_follow (suc d) items) (past _ (both (by_body (suc d)) closes))));
  statements_box_end = λ d. none;
  statements_box_more = λ _ part rest by_part d. by_part d;
  branches_end = λ d. none;
  branches_more = λ _ part rest by_part by_rest d. both (by_part d) (by_rest d);
  branch_branch = λ pos condition then _ body by_body d. past _ (both (expr_follows d condition) (past _ (by_body d)));
  alternative_box_end = λ d. none;
  alternative_box_more = λ _ part rest by_part d. by_part d;
  alternatives_end = λ d. none;
  alternatives_more = λ _ part rest by_part by_rest d. both (by_part d) (by_rest d);
  alternative_alternative = λ pos first rest arrow _ body by_body d. past _ (both (choice_follows d first) (both (each next_choice_events (next_choice_spelling d) (next_choice_follows d) rest)
      (past _ (by_body d))));
}

pub stmts_follow : (d : ℕ) (s : Stmts) → Follows (stmts_events s) (stmts_spelling d s)
stmts_follow d s = on_statements stmts_follow_laws s d
