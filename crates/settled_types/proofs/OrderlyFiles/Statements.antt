-- The code of statements is in order.
use Rattle.std.proofs.Common.{◌≡◌, ℕ, true, false, List, [], ◌∷◌, ◌++◌, drop, map, refl, sym, ap, ◌∙◌, subst, append_assoc}
use Rattle.std.specs.List.{flat_map}
use Rattle.machine.specs.spark_base.declared.position.Pos.{Pos}
use Rattle.ada_tree.specs.declared.declaration.Item.{Item}
use Rattle.ada_tree.specs.declared.declaration.Item.TheVariants as item
use Rattle.ada_tree.specs.declared.declaration.UseClause.{UseClause}
use Rattle.ada_tree.specs.declared.identifier.Dotted.{Dotted}
use Rattle.ada_tree.specs.declared.statement.Stmts.{Stmts}
use Rattle.ada_tree.specs.declared.statement.Stmt.{Stmt}
use Rattle.ada_tree.specs.declared.statement.Stmt.TheVariants as stmt
use Rattle.machine.specs.resolved_tree.Trees.{Code, code_list}
use Rattle.name_events.specs.declared.event.Event.{Event}
use Rattle.name_events.specs.declared.event.Event.TheVariants as e
use Rattle.name_events.specs.declared.event.Clause.{Clause}
use Rattle.name_events.specs.declared.declaration.DeclarationForm.TheVariants as form
use Rattle.name_events.specs.declared.declaration.RegionPart.TheVariants as part
use Rattle.name_events.specs.ExpressionOutline.{declares, mention, mentions, next_dotted_name, name_events, expr_events, range_events, choice_events, next_choice_events}
use Rattle.name_events.specs.Outline.{clause_of, use_events, item_events, simple_events, stmts_events, stmt_box_events, stmt_list_events, stmt_events, stmts_box_events, elsifs_events, elsif_events, when_box_events, whens_events, when_events}
use Rattle.name_events.specs.Known.{Known, part_here, part_of}
use Rattle.name_events.specs.KnownBehind.{known_behind, known_behind_all}
use Rattle.expression_lowering.specs.LoweredExpressions.{Numbers, number_of}
use Rattle.tree_lowering.specs.Lowered.{lowered_declaration, item_before, lowered_items, lowered_simple, lowered_stmts, lowered_stmt_box, stmts_row, lowered_stmt, lowered_stmts_box, elsifs_row, lowered_elsif, lowered_when_box, whens_row, lowered_when}
use Rattle.settled_types.proofs.StatementCases.{StatementLaws, on_statements}
use Rattle.settled_types.specs.Orderly.{Past, past_after, IsNew, Orderly}
use Rattle.settled_types.specs.OrderlyFiles.Regions.{AreRegions, AreTypes}
use Rattle.settled_types.specs.OrderlyFiles.Numbered.{AreNumbered, are_mild, AreNewAt}
use Rattle.settled_types.specs.OrderlyFiles.Ended.{AreEnded}
use Rattle.settled_types.proofs.OrderlyFiles.Steps.{regions_behind, quiet_behind, types_later}
use Rattle.settled_types.proofs.OrderlyFiles.Declares.{quiet_all, new_all, numbered_both, behind_both, flat_all}
use Rattle.settled_types.proofs.OrderlyFiles.Mentions.{mild_both, mild_quiet, mild_flat, mild_each, name_mild, expr_mild, range_mild, choice_mild, next_choice_mild}
use Rattle.settled_types.proofs.OrderlyFiles.Items.{is_clause, item_result}

-- ---- one after the other

-- No private part is open.
abbrev pub IsShown : Known → Type 0
IsShown now = part_here now ≡ part.Private → ⊥

pub record IsRun (orderly : Type 0) (now after : Known) (past : Past) : Type 0 where
  pub is : orderly
  pub regions : AreRegions after
  pub types : AreTypes after past
  pub around : after.open_regions ≡ now.open_regions

shown_later : (now after : Known) → after.open_regions ≡ now.open_regions → IsShown now → IsShown after
shown_later now after same shown hidden = shown (ap part_of (sym same) ∙ hidden)

pub use_mild : (c : UseClause) → are_mild (use_events c) ≡ true
use_mild c =
    mild_both (mentions (clause_of c.type_word) c.first c.rest) (e.UseClauseEnds ∷ []) (each (clause_of c.type_word) (c.first ∷ map next_dotted_name c.rest))
    refl
  where
    each : (k : Clause) (ds : List Dotted) → are_mild (map (mention k) ds) ≡ true
    each k [] = refl
    each k (d ∷ rest) = each k rest

module _ (count : ℕ) (numbers : Numbers) where
  -- What these events do, where no private part is open.
  abbrev pub Goes : Type 0 → Past → Past → List Event → Type 0
  Goes orderly past past_then events =
      (now : Known) → AreRegions now → AreTypes now past → IsShown now → AreNumbered count numbers now events
      → IsRun orderly now (known_behind_all now events) past_then

  pub goes_then : (one two : Type 0) (p q r : Past) (xs ys : List Event) → Goes one p q xs → Goes two q r ys → Goes (one × two) p r (xs ++ ys)
  goes_then one two p q r xs ys first second now regions are shown numbered =
      let n = numbered_both count numbers xs ys now numbered in
      let middle : Known = known_behind_all now xs in
      let a = first now regions are shown n.0 in
      let b = second middle a.regions a.types (shown_later now middle a.around shown) n.1 in
      subst (λ after. IsRun (one × two) now after r) (sym (behind_both xs ys now))
      (record { is = (a.is, b.is); regions = b.regions; types = b.types; around = b.around ∙ a.around })

  pub goes_so : (one two : Type 0) (p q : Past) (xs : List Event) → (one → two) → Goes one p q xs → Goes two p q xs
  goes_so one two p q xs f goes now regions are shown numbered =
      let a = goes now regions are shown numbered in
      record { is = f a.is; regions = a.regions; types = a.types; around = a.around }

  pub goes_mild : (one : Type 0) (p : Past) (xs : List Event) → are_mild xs ≡ true → (AreNewAt count numbers p xs → one) → Goes one p p xs
  goes_mild one p xs mild new now regions are shown numbered =
      let quiet = mild_quiet xs mild in
      let q = quiet_all xs now quiet regions in
      record {
        is = new (new_all count numbers xs now p quiet regions are numbered);
        regions = q.0;
        types = types_later now (known_behind_all now xs) p q.1 are;
        around = flat_all xs now (mild_flat xs mild);
      }

  pub goes_after : (one : Type 0) (p q : Past) (xs ys : List Event) → are_mild xs ≡ true → Goes one p q ys → Goes one p q (xs ++ ys)
  goes_after one p q xs ys mild goes =
      goes_so (Unit {0} × one) one p q (xs ++ ys) (λ o. o.1)
      (goes_then (Unit {0}) one p p q xs ys (goes_mild (Unit {0}) p xs mild (λ new. tt)) goes)

  -- A region that opens and closes.
  pub goes_region : (one : Type 0) (p q : Past) (xs : List Event) → Goes one p q xs → Goes one p q (e.RegionOpens ∷ (xs ++ e.RegionCloses ∷ []))
  unfolding known_behind
  goes_region one p q xs goes now regions are shown numbered =
      let inner : Known = known_behind now e.RegionOpens in
      let n = numbered_both count numbers xs (e.RegionCloses ∷ []) inner numbered.1 in
      let a = goes inner (regions_behind now e.RegionOpens refl regions) (types_later now inner p (quiet_behind now e.RegionOpens refl) are)
      (λ hidden. visible hidden) n.0 in
      let middle : Known = known_behind_all inner xs in
      subst (λ after. IsRun one now after q) (sym (behind_both xs (e.RegionCloses ∷ []) inner))
      (record {
        is = a.is;
        regions = regions_behind middle e.RegionCloses refl a.regions;
        types = types_later middle (known_behind middle e.RegionCloses) q (quiet_behind middle e.RegionCloses refl) a.types;
        around = ap (drop 1) a.around;
      })
    where
      visible : part.Visible ≡ part.Private → ⊥
      visible same = cc

  pub goes_regions : (one two : Type 0) (p q r : Past) (xs ys : List Event) → Goes one p q xs → Goes two q r ys
      → Goes (one × two) p r (e.RegionOpens ∷ (xs ++ (ys ++ e.RegionCloses ∷ [])))
  goes_regions one two p q r xs ys first second =
      subst (λ zs. Goes (one × two) p r (e.RegionOpens ∷ zs)) (append_assoc xs ys (e.RegionCloses ∷ []))
      (goes_region (one × two) p r (xs ++ ys) (goes_then one two p q r xs ys first second))

  -- ---- items

  pub item_goes : (i : Item) (past : Past) → is_clause i ≡ false → AreEnded past (lowered_declaration numbers i)
      → Goes (Orderly count past (lowered_declaration numbers i)) past (past_after (lowered_declaration numbers i) past) (item_events i)
  item_goes i past plain ended now regions are shown numbered =
      let r = item_result count numbers i now past regions are (λ hidden. absurd (shown hidden)) numbered plain ended in
      record { is = r.orderly; regions = r.regions; types = r.types; around = r.around }

  pub items_go : (items : List Item) (past : Past) → AreEnded past (lowered_items numbers items)
      → Goes (Orderly count past (lowered_items numbers items)) past (past_after (lowered_items numbers items) past) (flat_map item_events items)
  unfolding item_before item_events Orderly past_after AreEnded
  items_go [] past ended = goes_mild (Unit {0}) past [] refl (λ new. tt)
  items_go (item.Use pos c ∷ rest) past ended =
      let code : Code = lowered_items numbers rest in
      goes_after (Orderly count past code) past (past_after code past) (item_events (item.Use pos c)) (flat_map item_events rest) (clause pos c)
      (items_go rest past ended)
    where
      clause : (pos : Pos) (c : UseClause) → are_mild (item_events (item.Use pos c)) ≡ true
      clause pos c = use_mild c
  items_go (item.Pragma pos c ∷ rest) past ended =
      let code : Code = lowered_items numbers rest in
      goes_after (Orderly count past code) past (past_after code past) (item_events (item.Pragma pos c)) (flat_map item_events rest) (clause pos)
      (items_go rest past ended)
    where
      clause : (pos : Pos) → are_mild (item_events (item.Pragma pos c)) ≡ true
      clause pos = refl
  items_go (i ∷ rest) past ended =
      let one : Code = lowered_declaration numbers i in
      let code : Code = lowered_items numbers rest in
      goes_then (Orderly count past one) (Orderly count (past_after one past) code) past (past_after one past) (past_after code (past_after one past))
      (item_events i) (flat_map item_events rest) (item_goes i past refl ended.0) (items_go rest (past_after one past) ended.1)

  -- ---- statements

  simple_mild : (s : Stmt) → are_mild (simple_events s) ≡ true
  unfolding simple_events
  simple_mild (stmt.Assign pos target becomes value semicolon) = mild_both (name_events target) (expr_events value) (name_mild target) (expr_mild value)
  simple_mild (stmt.Call pos callee semicolon) = name_mild callee
  simple_mild (stmt.ExitWhen pos when condition semicolon) = expr_mild condition
  simple_mild (stmt.ReturnValue pos value semicolon) = expr_mild value
  simple_mild _ = refl

  none_goes : (p : Past) (xs : List Event) → are_mild xs ≡ true → Goes (Unit {0}) p p xs
  none_goes p xs mild = goes_mild (Unit {0}) p xs mild (λ new. tt)

  simple_goes : (s : Stmt) (past : Past)
      → Goes (Orderly count past (lowered_simple numbers s)) past (past_after (lowered_simple numbers s) past) (simple_events s)
  unfolding lowered_simple Orderly past_after
  simple_goes (stmt.Null pos semicolon) past = none_goes past (simple_events (stmt.Null pos semicolon)) (simple_mild (stmt.Null pos semicolon))
  simple_goes (stmt.Assign pos target becomes value semicolon) past =
      let s : Stmt = stmt.Assign pos target becomes value semicolon in
      none_goes past (simple_events s) (simple_mild s)
  simple_goes (stmt.Call pos callee semicolon) past = let s : Stmt = stmt.Call pos callee semicolon in none_goes past (simple_events s) (simple_mild s)
  simple_goes (stmt.Exit pos semicolon) past = let s : Stmt = stmt.Exit pos semicolon in none_goes past (simple_events s) (simple_mild s)
  simple_goes (stmt.ExitWhen pos when condition semicolon) past =
      let s : Stmt = stmt.ExitWhen pos when condition semicolon in
      none_goes past (simple_events s) (simple_mild s)
  simple_goes (stmt.Return pos semicolon) past = let s : Stmt = stmt.Return pos semicolon in none_goes past (simple_events s) (simple_mild s)
  simple_goes (stmt.ReturnValue pos value semicolon) past =
      let s : Stmt = stmt.ReturnValue pos value semicolon in
      none_goes past (simple_events s) (simple_mild s)
  simple_goes s past = none_goes past (simple_events s) (simple_mild s)

  stmts_go_laws : StatementLaws (record {
    of_statements = λ tree. (past : Past) → AreEnded past (lowered_stmts numbers tree) → Goes (Orderly count past (lowered_stmts numbers tree)) past (past_after (lowered_stmts numbers tree) past) (stmts_events tree);
    of_statement_box = λ n row. (past : Past) → AreEnded past (lowered_stmt_box numbers row) → Goes (Orderly count past (lowered_stmt_box numbers row)) past (past_after (lowered_stmt_box numbers row) past) (stmt_box_events row);
    of_statement_row = λ n row. (past : Past) → AreEnded past (code_list (stmts_row numbers row)) → Goes (Orderly count past (code_list (stmts_row numbers row))) past (past_after (code_list (stmts_row numbers row)) past) (stmt_list_events row);
    of_statement = λ tree. (past : Past) → AreEnded past (lowered_stmt numbers tree) → Goes (Orderly count past (lowered_stmt numbers tree)) past (past_after (lowered_stmt numbers tree) past) (stmt_events tree);
    of_statements_box = λ n row. (past : Past) → AreEnded past (lowered_stmts_box numbers row) → Goes (Orderly count past (lowered_stmts_box numbers row)) past (past_after (lowered_stmts_box numbers row) past) (stmts_box_events row);
    of_branches = λ n row. (past : Past) → AreEnded past (code_list (elsifs_row numbers row)) → Goes (Orderly count past (code_list (elsifs_row numbers row))) past (past_after (code_list (elsifs_row numbers row)) past) (elsifs_events row);
    of_branch = λ tree. (past : Past) → AreEnded past (lowered_elsif numbers tree) → Goes (Orderly count past (lowered_elsif numbers tree)) past (past_after (lowered_elsif numbers tree) past) (elsif_events tree);
    of_alternative_box = λ n row. (past : Past) → AreEnded past (lowered_when_box numbers row) → Goes (Orderly count past (lowered_when_box numbers row)) past (past_after (lowered_when_box numbers row) past) (when_box_events row);
    of_alternatives = λ n row. (past : Past) → AreEnded past (code_list (whens_row numbers row)) → Goes (Orderly count past (code_list (whens_row numbers row))) past (past_after (code_list (whens_row numbers row)) past) (whens_events row);
    of_alternative = λ tree. (past : Past) → AreEnded past (lowered_when numbers tree) → Goes (Orderly count past (lowered_when numbers tree)) past (past_after (lowered_when numbers tree) past) (when_events tree);
  })
  unfolding lowered_stmts lowered_stmt_box stmts_row lowered_stmt lowered_stmts_box elsifs_row lowered_elsif lowered_when_box whens_row lowered_when stmts_events stmt_box_events stmt_list_events stmt_events stmts_box_events elsifs_events elsif_events when_box_events whens_events when_events Orderly past_after AreEnded
  stmts_go_laws = record {
    statements_sequence = λ pos _ first _ rest by_first by_rest past ended. let a : Code = lowered_stmt_box numbers first in
        let b : Code = code_list (stmts_row numbers rest) in
        let q : Past = past_after a past in
        goes_then (Orderly count past a) (Orderly count q b) past q (past_after b q) (stmt_box_events first) (stmt_list_events rest)
        (by_first past ended.0) (by_rest q ended.1);
    statement_box_end = λ past ended. none_goes past [] refl;
    statement_box_more = λ _ part rest by_part past ended. by_part past ended;
    statement_row_end = λ past ended. none_goes past [] refl;
    statement_row_more = λ _ part rest by_part by_rest past ended. let a : Code = lowered_stmt numbers part in
        let b : Code = code_list (stmts_row numbers rest) in
        let q : Past = past_after a past in
        goes_then (Orderly count past a) (Orderly count q b) past q (past_after b q) (stmt_events part) (stmt_list_events rest)
        (by_part past ended.0) (by_rest q ended.1);
    statement_null = λ pos semicolon past ended. simple_goes (stmt.Null pos semicolon) past;
    statement_assign = λ pos target becomes value semicolon past ended. simple_goes (stmt.Assign pos target becomes value semicolon) past;
    statement_call = λ pos called semicolon past ended. simple_goes (stmt.Call pos called semicolon) past;
    statement_exit = λ pos semicolon past ended. simple_goes (stmt.Exit pos semicolon) past;
    statement_exit_when = λ pos when_word condition semicolon past ended. simple_goes (stmt.ExitWhen pos when_word condition semicolon) past;
    statement_return = λ pos semicolon past ended. simple_goes (stmt.Return pos semicolon) past;
    statement_return_value = λ pos value semicolon past ended. simple_goes (stmt.ReturnValue pos value semicolon) past;
    statement_if = λ pos condition then_word _ body _ elsifs end end_if semicolon by_body by_elsifs past ended. let a : Code = lowered_stmts_box numbers body in
        let b : Code = code_list (elsifs_row numbers elsifs) in
        let q : Past = past_after a past in
        let r : Past = past_after b q in
        let two : Type 0 = Orderly count past a × Orderly count q b in
        let xs : List Event = stmts_box_events body ++ elsifs_events elsifs in
        goes_after (two × Unit {0}) past r (expr_events condition) xs (expr_mild condition)
        (goes_so two (two × Unit {0}) past r xs (λ o. (o, tt))
        (goes_then (Orderly count past a) (Orderly count q b) past q r (stmts_box_events body) (elsifs_events elsifs) (by_body past ended.0.0)
        (by_elsifs q ended.0.1)));
    statement_if_else = λ pos condition then_word _ body _ elsifs otherwise _ other end end_if semicolon by_body by_elsifs by_other past ended. let a : Code = lowered_stmts_box numbers body in
        let b : Code = code_list (elsifs_row numbers elsifs) in
        let c : Code = lowered_stmts_box numbers other in
        let q : Past = past_after a past in
        let r : Past = past_after b q in
        let s : Past = past_after c r in
        let ys : List Event = elsifs_events elsifs ++ stmts_box_events other in
        let xs : List Event = stmts_box_events body ++ ys in
        let three : Type 0 = Orderly count past a × Orderly count q b in
        goes_after (three × Orderly count r c) past s (expr_events condition) xs (expr_mild condition)
        (goes_so (Orderly count past a × (Orderly count q b × Orderly count r c)) (three × Orderly count r c) past s xs (λ o. ((o.0, o.1.0), o.1.1))
        (goes_then (Orderly count past a) (Orderly count q b × Orderly count r c) past q s (stmts_box_events body) ys (by_body past ended.0.0)
        (goes_then (Orderly count q b) (Orderly count r c) q r s (elsifs_events elsifs) (stmts_box_events other) (by_elsifs q ended.0.1)
        (by_other r ended.1))));
    statement_case = λ pos selecting is _ first _ rest end end_case semicolon by_first by_rest past ended. let a : Code = lowered_when_box numbers first in
        let b : Code = code_list (whens_row numbers rest) in
        let q : Past = past_after a past in
        let r : Past = past_after b q in
        goes_after (Orderly count past a × Orderly count q b) past r (expr_events selecting) (when_box_events first ++ whens_events rest) (expr_mild selecting)
        (goes_then (Orderly count past a) (Orderly count q b) past q r (when_box_events first) (whens_events rest) (by_first past ended.0)
        (by_rest q ended.1));
    statement_loop = λ pos _ body end end_loop semicolon by_body past ended. by_body past ended;
    statement_while = λ pos condition loop_word _ body end end_loop semicolon by_body past ended. let a : Code = lowered_stmts_box numbers body in
        goes_after (Orderly count past a) past (past_after a past) (expr_events condition) (stmts_box_events body) (expr_mild condition)
        (by_body past ended);
    statement_for = λ pos parameter in_word reverse steps loop_word _ body end end_loop semicolon by_body past ended. let a : Code = lowered_stmts_box numbers body in
        let xs : List Event = declares form.LoopParameter parameter ∷ (range_events steps ++ e.DeclarationsEnd ∷ []) in
        goes_regions (IsNew count (number_of numbers parameter) past) (Orderly count past a) past past (past_after a past) xs (stmts_box_events body)
        (goes_mild (IsNew count (number_of numbers parameter) past) past xs (mild_both (range_events steps) (e.DeclarationsEnd ∷ []) (range_mild steps) refl)
        (λ new. new.0)) (by_body past ended);
    statement_block = λ pos _ body end semicolon by_body past ended. let a : Code = lowered_stmts_box numbers body in
        let xs : List Event = stmts_box_events body in
        goes_so (Orderly count past a) (Unit {0} × Orderly count past a) past (past_after a past) (e.RegionOpens ∷ (xs ++ e.RegionCloses ∷ [])) (λ o. (tt, o))
        (goes_region (Orderly count past a) past (past_after a past) xs (by_body past ended.1));
    statement_declare_block = λ pos items begin _ body end semicolon by_body past ended. let a : Code = lowered_items numbers items in
        let b : Code = lowered_stmts_box numbers body in
        let q : Past = past_after a past in
        goes_regions (Orderly count past a) (Orderly count q b) past q (past_after b q) (flat_map item_events items) (stmts_box_events body)
        (items_go items past ended.0) (by_body q ended.1);
    statements_box_end = λ past ended. none_goes past [] refl;
    statements_box_more = λ _ part rest by_part past ended. by_part past ended;
    branches_end = λ past ended. none_goes past [] refl;
    branches_more = λ _ part rest by_part by_rest past ended. let a : Code = lowered_elsif numbers part in
        let b : Code = code_list (elsifs_row numbers rest) in
        let q : Past = past_after a past in
        goes_then (Orderly count past a) (Orderly count q b) past q (past_after b q) (elsif_events part) (elsifs_events rest)
        (by_part past ended.0) (by_rest q ended.1);
    branch_branch = λ pos condition then_word _ body by_body past ended. let a : Code = lowered_stmts_box numbers body in
        goes_after (Orderly count past a) past (past_after a past) (expr_events condition) (stmts_box_events body) (expr_mild condition)
        (by_body past ended);
    alternative_box_end = λ past ended. none_goes past [] refl;
    alternative_box_more = λ _ part rest by_part past ended. by_part past ended;
    alternatives_end = λ past ended. none_goes past [] refl;
    alternatives_more = λ _ part rest by_part by_rest past ended. let a : Code = lowered_when numbers part in
        let b : Code = code_list (whens_row numbers rest) in
        let q : Past = past_after a past in
        goes_then (Orderly count past a) (Orderly count q b) past q (past_after b q) (when_events part) (whens_events rest)
        (by_part past ended.0) (by_rest q ended.1);
    alternative_alternative = λ pos first rest arrow _ body by_body past ended. let a : Code = lowered_stmts_box numbers body in
        let xs : List Event = flat_map next_choice_events rest ++ stmts_box_events body in
        goes_after (Orderly count past a) past (past_after a past) (choice_events first) xs (choice_mild first)
        (goes_after (Orderly count past a) past (past_after a past) (flat_map next_choice_events rest) (stmts_box_events body)
        (mild_each next_choice_events next_choice_mild rest) (by_body past ended));
  }

  pub stmts_go : (tree : Stmts) (past : Past) → AreEnded past (lowered_stmts numbers tree)
      → Goes (Orderly count past (lowered_stmts numbers tree)) past (past_after (lowered_stmts numbers tree) past) (stmts_events tree)
  stmts_go = on_statements stmts_go_laws
