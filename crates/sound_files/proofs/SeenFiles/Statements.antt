-- In items and statements what names denote of objects is in scope.
use Rattle.std.proofs.Common.{◌≡◌, inl, inr, ℕ, true, List, [], ◌∷◌, ◌++◌, map, refl, sym, subst, append_assoc}
use Rattle.std.specs.List.{flat_map}
use Rattle.machine.specs.spark_base.declared.position.Pos.{Pos}
use Rattle.machine.specs.spark_base.Lists.{Has}
use Rattle.soundness.proofs.Lists.{Has-append_cases, Has-append_left, Has-append_right}
use Rattle.ada_tree.specs.declared.identifier.Identifier.{Identifier}
use Rattle.ada_tree.specs.declared.identifier.NextIdentifier.{NextIdentifier}
use Rattle.ada_tree.specs.declared.identifier.NextIdentifier.TheVariants as next_id
use Rattle.ada_tree.specs.declared.declaration.Item.{Item}
use Rattle.ada_tree.specs.declared.declaration.Item.TheVariants as item
use Rattle.ada_tree.specs.declared.declaration.Component.{Component}
use Rattle.ada_tree.specs.declared.declaration.Component.TheVariants as component
use Rattle.ada_tree.specs.declared.declaration.Indication.{Indication}
use Rattle.ada_tree.specs.declared.declaration.Indication.TheVariants as indication
use Rattle.ada_tree.specs.declared.declaration.UseClause.{UseClause}
use Rattle.ada_tree.specs.declared.identifier.Dotted.{Dotted}
use Rattle.ada_tree.specs.declared.statement.Stmts.{Stmts, Row_of-Stmt, end_of-Stmt, more_of-Stmt}
use Rattle.ada_tree.specs.declared.statement.Stmt.{Stmt}
use Rattle.ada_tree.specs.declared.statement.Stmt.TheVariants as stmt
use Rattle.ada_tree.specs.declared.expression.Expr.{Expr}
use Rattle.ada_tree.specs.declared.expression.Arg.{Arg}
use Rattle.ada_tree.specs.declared.expression.NextArg.{NextArg}
use Rattle.ada_tree.specs.declared.range.Range.{Range}
use Rattle.name_events.specs.declared.event.Event.{Event}
use Rattle.name_events.specs.declared.event.Event.TheVariants as e
use Rattle.name_events.specs.declared.event.Clause.{Clause}
use Rattle.name_events.specs.declared.event.Clause.TheVariants as clause
use Rattle.name_events.specs.declared.declaration.DeclarationForm.{DeclarationForm}
use Rattle.name_events.specs.declared.declaration.DeclarationForm.TheVariants as form
use Rattle.name_events.specs.ExpressionOutline.{declares, declares_all, next_name, folded_identifier, mention, mentions, next_dotted_name, name_events, expr_events, range_events, choice_events, next_choice_events, arg_events, next_arg_events}
use Rattle.name_events.specs.Outline.{indication_events, component_events, clause_of, use_events, subtype_events, type_events, item_events, simple_events, stmts_events, stmt_box_events, stmt_list_events, stmt_events, stmts_box_events, elsifs_events, elsif_events, when_box_events, whens_events, when_events}
use Rattle.name_events.specs.Known.{Known}
use Rattle.machine.specs.resolved_tree.Trees.{Code, code_list}
use Rattle.machine.specs.resolved_tree.Trees as t
use Rattle.expression_lowering.specs.LoweredExpressions.{Numbers, number_of, lowered_name, lowered_expr, lowered_range}
use Rattle.tree_lowering.specs.Lowered.{declared_next, declared_all, lowered_subtype, lowered_type, lowered_declaration, item_before, lowered_items, lowered_simple, lowered_stmts, lowered_stmt_box, stmts_row, lowered_stmt, lowered_stmts_box, elsifs_row, lowered_elsif, lowered_when_box, whens_row, lowered_when}
use Rattle.settled_types.proofs.StatementCases.{StatementLaws, on_statements}
use Rattle.sound_files.specs.SeenFiles.Uses.{Uses, AreAllowed}
use Rattle.sound_files.specs.SeenFiles.Fits.{all_numbers, scope_after, IsKept, AreObjects, RangeFits, Fits, AreFitting, IsFitting}
use Rattle.sound_files.specs.SeenFiles.Reached.{is_object_form, IsObjectIn}
use Rattle.sound_files.proofs.SeenFiles.Expressions.{Speaks, says_so, speaks_both, name_speaks, expr_speaks, arg_speaks, next_arg_speaks, choice_speaks, next_choices_speak, range_speaks}
use Rattle.sound_files.proofs.SeenFiles.Runs.{all_calm, calm_both, calm_each, mention_calm, Goes, goes_then, goes_so, goes_more, goes_nothing, goes_first, goes_second, goes_speaks, goes_calm, goes_declares, goes_ends, goes_region, goes_regions}

-- ---- lists of numbers

append_nothing : (ns ms : List ℕ) (n : ℕ) → Has ((ns ++ []) ++ ms) n → Has (ns ++ ms) n
append_nothing [] ms n has = has
append_nothing (x ∷ ns) ms n (inl same) = inl same
append_nothing (x ∷ ns) ms n (inr has) = inr (append_nothing ns ms n has)

moved_front : (x : ℕ) (ns ms : List ℕ) (n : ℕ) → Has (ns ++ (x ∷ ms)) n → Has (x ∷ (ns ++ ms)) n
moved_front x ns ms n has = elim (Has-append_cases ns (x ∷ ms) n has) [
  | inl here ↦ inr (Has-append_left ns ms n here)
  | inr (inl same) ↦ inl same
  | inr (inr later) ↦ inr (Has-append_right ns ms n later)
]

-- ---- events of types and clauses

pub use_calm : (c : UseClause) → all_calm (use_events c) ≡ true
use_calm c =
    calm_both (mentions (clause_of c.type_word) c.first c.rest) (e.UseClauseEnds ∷ []) (each (clause_of c.type_word) (c.first ∷ map next_dotted_name c.rest))
    refl
  where
    each : (k : Clause) (ds : List Dotted) → all_calm (map (mention k) ds) ≡ true
    each k [] = refl
    each k (d ∷ rest) = each k rest

component_calm : (c : Component) → all_calm (component_events c) ≡ true
unfolding component_events
component_calm (component.Fields pos first rest colon mark semicolon) =
    calm_both (map (λ id. e.DeclaresComponent (folded_identifier id)) (first ∷ map next_name rest)) (mention clause.Elsewhere mark ∷ [])
    (each (first ∷ map next_name rest)) refl
  where
    each : (ids : List Identifier) → all_calm (map (λ id. e.DeclaresComponent (folded_identifier id)) ids) ≡ true
    each [] = refl
    each (id ∷ rest) = each rest

literals_calm : (ids : List Identifier) → all_calm (map (declares form.Literal) ids) ≡ true
literals_calm [] = refl
literals_calm (id ∷ rest) = literals_calm rest

module _ (numbers : Numbers) (whole : Known) where
  abbrev pub Fit : List ℕ → Code → Type 0
  Fit s code = Fits (IsObjectIn whole) s code

  pub indication_speaks : (s : List ℕ) (i : Indication) → Speaks numbers (IsKept (IsObjectIn whole) s) (indication_events i) (Unit {0})
  unfolding indication_events AreAllowed
  indication_speaks s (indication.Mark pos mark) = (refl, λ a. tt)
  indication_speaks s (indication.Anonymous pos access_constant designated) = (refl, λ a. tt)

  expr_calm : (x : Expr) → all_calm (expr_events x) ≡ true
  expr_calm x = mention_calm (expr_events x) (expr_speaks numbers (λ n. Unit {0}) x).0

  range_calm : (r : Range) → all_calm (range_events r) ≡ true
  range_calm r = mention_calm (range_events r) (range_speaks numbers (λ n. Unit {0}) [] r).0

  arg_calm : (a : Arg) → all_calm (arg_events a) ≡ true
  arg_calm a = mention_calm (arg_events a) (arg_speaks numbers (λ n. Unit {0}) t.NoMore a).0

  next_arg_calm : (a : NextArg) → all_calm (next_arg_events a) ≡ true
  next_arg_calm a = mention_calm (next_arg_events a) (next_arg_speaks numbers (λ n. Unit {0}) t.NoMore a).0

  -- ---- declarations of objects

  many : (new : DeclarationForm) → is_object_form new ≡ true → (rest : List NextIdentifier) (s w : List ℕ)
      → Goes numbers whole (AreObjects (IsObjectIn whole) (all_numbers (code_list (map (declared_next numbers) rest)))) s w s
      (all_numbers (code_list (map (declared_next numbers) rest)) ++ w) (map (declares new) (map next_name rest))
  unfolding next_name declared_next
  many new is [] s w = goes_so numbers whole (Unit {0}) (AreObjects (IsObjectIn whole) []) s w s w [] (λ u n has. absurd has) (goes_nothing numbers whole s w)
  many new is (next_id.FurtherIdentifier pos id ∷ rest) s w =
      let n : ℕ = number_of numbers id in
      let ns : List ℕ = all_numbers (code_list (map (declared_next numbers) rest)) in
      let xs : List Event = map (declares new) (map next_name rest) in
      goes_so numbers whole (IsObjectIn whole n × AreObjects (IsObjectIn whole) ns) (AreObjects (IsObjectIn whole) (n ∷ ns)) s w s (n ∷ (ns ++ w))
      (declares new id ∷ xs) (λ p m has. joined n ns p.0 p.1 m has)
      (goes_more numbers whole (IsObjectIn whole n × AreObjects (IsObjectIn whole) ns) s w s (ns ++ (n ∷ w)) s (n ∷ (ns ++ w)) (declares new id ∷ xs)
      (λ m has. has) (λ m has. moved_front n ns w m has)
      (goes_then numbers whole (IsObjectIn whole n) (AreObjects (IsObjectIn whole) ns) s w s (n ∷ w) s (ns ++ (n ∷ w)) (declares new id ∷ []) xs
      (goes_declares numbers whole new is id s w) (many new is rest s (n ∷ w))))
    where
      joined : (n : ℕ) (ns : List ℕ) → IsObjectIn whole n → AreObjects (IsObjectIn whole) ns → AreObjects (IsObjectIn whole) (n ∷ ns)
      joined n ns one more m (inl same) = subst (IsObjectIn whole) same one
      joined n ns one more m (inr has) = more m has

  all_declared : (new : DeclarationForm) → is_object_form new ≡ true → (first : Identifier) (rest : List NextIdentifier) (s w : List ℕ)
      → Goes numbers whole (AreObjects (IsObjectIn whole) (all_numbers (declared_all numbers first rest))) s w s
      (all_numbers (declared_all numbers first rest) ++ w) (declares_all new first rest)
  unfolding next_name declared_next
  all_declared new is first rest s w = many new is (next_id.FurtherIdentifier first.pos first ∷ rest) s w

  -- Objects are in scope after their declaration, and not in it.
  pub objects_go : (one : Type 0) (new : DeclarationForm) → is_object_form new ≡ true → (first : Identifier) (rest : List NextIdentifier) (s : List ℕ)
      (xs : List Event) → Speaks numbers (IsKept (IsObjectIn whole) s) xs one
      → Goes numbers whole (AreObjects (IsObjectIn whole) (all_numbers (declared_all numbers first rest)) × one) s []
      (all_numbers (declared_all numbers first rest) ++ s) [] (declares_all new first rest ++ (xs ++ e.DeclarationsEnd ∷ []))
  objects_go one new is first rest s xs speaks =
      let ns : List ℕ = all_numbers (declared_all numbers first rest) in
      let objects : Type 0 = AreObjects (IsObjectIn whole) ns in
      let ys : List Event = declares_all new first rest in
      let end : List Event = e.DeclarationsEnd ∷ [] in
      goes_more numbers whole (objects × one) s [] ((ns ++ []) ++ s) [] (ns ++ s) [] (ys ++ (xs ++ end)) (λ n has. append_nothing ns s n has) (λ n has. has)
      (goes_then numbers whole objects one s [] s (ns ++ []) ((ns ++ []) ++ s) [] ys (xs ++ end) (all_declared new is first rest s [])
      (goes_first numbers whole one s (ns ++ []) s (ns ++ []) ((ns ++ []) ++ s) [] xs end (goes_speaks numbers whole one s (ns ++ []) xs speaks)
      (goes_ends numbers whole s (ns ++ []))))

  -- ---- items

  pub declaration_fits : (i : Item) (s : List ℕ) → Goes numbers whole (Fit s (lowered_declaration numbers i)) s [] (scope_after (lowered_declaration numbers i) s) []
      (item_events i)
  unfolding item_events type_events subtype_events lowered_declaration lowered_type lowered_subtype Fits scope_after Uses
  declaration_fits (item.Objects pos first rest colon is_constant of semicolon) s =
      objects_go (Unit {0}) form.Object refl first rest s (indication_events of) (indication_speaks s of)
  declaration_fits (item.InitializedObjects pos first rest colon is_constant of becomes value semicolon) s =
      let asked : ℕ → Type 0 = IsKept (IsObjectIn whole) s in
      let xs : List Event = indication_events of in
      let ys : List Event = expr_events value in
      let one : Type 0 = Uses asked (lowered_expr numbers value) × Unit {0} in
      let ns : List ℕ = all_numbers (declared_all numbers first rest) in
      subst (λ zs. Goes numbers whole (AreObjects (IsObjectIn whole) ns × one) s [] (ns ++ s) [] (declares_all form.Object first rest ++ zs))
      (append_assoc xs ys (e.DeclarationsEnd ∷ []))
      (objects_go one form.Object refl first rest s (xs ++ ys)
      (says_so numbers asked (xs ++ ys) (Unit {0} × Uses asked (lowered_expr numbers value)) one (λ p. (p.1, tt))
      (speaks_both numbers asked xs ys (Unit {0}) (Uses asked (lowered_expr numbers value)) (indication_speaks s of) (expr_speaks numbers asked value))))
  declaration_fits (item.Numbers pos first rest colon is_constant becomes value semicolon) s =
      let asked : ℕ → Type 0 = IsKept (IsObjectIn whole) s in
      objects_go (Uses asked (lowered_expr numbers value)) form.Object refl first rest s (expr_events value) (expr_speaks numbers asked value)
  declaration_fits (item.Instance pos id is new generic left_paren first rest right_paren semicolon) s =
      goes_calm numbers whole s (item_events (item.Instance pos id is new generic left_paren first rest right_paren semicolon))
      (calm_both (arg_events first) (flat_map next_arg_events rest ++ e.DeclarationsEnd ∷ []) (arg_calm first)
      (calm_both (flat_map next_arg_events rest) (e.DeclarationsEnd ∷ []) (calm_each next_arg_events next_arg_calm rest) refl))
  declaration_fits (item.Use pos c) s = goes_calm numbers whole s (use_events c) (use_calm c)
  declaration_fits (item.Pragma pos c) s = goes_calm numbers whole s [] refl
  declaration_fits (item.IncompleteType pos id semicolon) s = goes_calm numbers whole s (declares form.IncompleteType id ∷ e.DeclarationsEnd ∷ []) refl
  declaration_fits (item.PrivateType pos id is private semicolon) s = goes_calm numbers whole s (declares form.PrivateType id ∷ e.DeclarationsEnd ∷ []) refl
  declaration_fits (item.EnumerationType pos id is left_paren first rest right_paren semicolon) s =
      goes_calm numbers whole s (declares form.FullType id ∷ (declares_all form.Literal first rest ++ e.DeclarationsEnd ∷ []))
      (calm_both (declares_all form.Literal first rest) (e.DeclarationsEnd ∷ []) (literals_calm (first ∷ map next_name rest)) refl)
  declaration_fits (item.RecordType pos id is record_word first rest end end_record semicolon) s =
      goes_calm numbers whole s (declares form.FullType id ∷ (e.RecordBegins ∷ (flat_map component_events (first ∷ rest) ++ e.DeclarationsEnd ∷ [])))
      (calm_both (flat_map component_events (first ∷ rest)) (e.DeclarationsEnd ∷ []) (calm_each component_events component_calm (first ∷ rest)) refl)
  declaration_fits (item.ArrayType pos id is array left_paren index right_paren of element semicolon) s =
      goes_calm numbers whole s (declares form.FullType id ∷ (range_events index ++ (mention clause.Elsewhere element ∷ (e.DeclarationsEnd ∷ []))))
      (calm_both (range_events index) (mention clause.Elsewhere element ∷ (e.DeclarationsEnd ∷ [])) (range_calm index) refl)
  declaration_fits (item.AccessType pos id is access designated semicolon) s =
      goes_calm numbers whole s (declares form.FullType id ∷ (mention clause.Elsewhere designated ∷ (e.DeclarationsEnd ∷ []))) refl
  declaration_fits (item.Subtype pos id is mark semicolon) s =
      goes_calm numbers whole s (declares form.Subtype id ∷ (mention clause.Elsewhere mark ∷ (e.DeclarationsEnd ∷ []))) refl
  declaration_fits (item.ConstrainedSubtype pos id is mark of_range low dots high semicolon) s =
      goes_calm numbers whole s (declares form.Subtype id ∷ (mention clause.Elsewhere mark ∷ (expr_events low ++ (expr_events high ++ e.DeclarationsEnd ∷ []))))
      (calm_both (expr_events low) (expr_events high ++ e.DeclarationsEnd ∷ []) (expr_calm low)
      (calm_both (expr_events high) (e.DeclarationsEnd ∷ []) (expr_calm high) refl))

  -- What follows fits whatever is in scope.
  abbrev pub Follows : List Event → Code → Type 0
  Follows xs code = (s : List ℕ) → Goes numbers whole (Fit s code) s [] (scope_after code s) [] xs

  pub nothing_follows : Follows [] t.NoMore
  unfolding Fits scope_after
  nothing_follows s = goes_nothing numbers whole s []

  pub item_then : (xs : List Event) (others : Code) (i : Item) → Follows xs others → Follows (item_events i ++ xs) (item_before numbers others i)
  unfolding item_before item_events Fits scope_after
  item_then xs others (item.Use pos c) follows s =
      goes_second numbers whole (Fit s others) s [] s [] (scope_after others s) [] (item_events (item.Use pos c)) xs
      (goes_calm numbers whole s (item_events (item.Use pos c)) (clause_calm pos c)) (follows s)
    where
      clause_calm : (pos : Pos) (c : UseClause) → all_calm (item_events (item.Use pos c)) ≡ true
      clause_calm pos c = use_calm c
  item_then xs others (item.Pragma pos c) follows s =
      goes_second numbers whole (Fit s others) s [] s [] (scope_after others s) [] (item_events (item.Pragma pos c)) xs
      (goes_calm numbers whole s (item_events (item.Pragma pos c)) clause_calm) (follows s)
    where
      clause_calm : all_calm (item_events (item.Pragma pos c)) ≡ true
      clause_calm = refl
  item_then xs others i follows s =
      let a : Code = lowered_declaration numbers i in
      let t : List ℕ = scope_after a s in
      goes_then numbers whole (Fit s a) (Fit t others) s [] t [] (scope_after others t) [] (item_events i) xs (declaration_fits i s) (follows t)

  pub items_fit : (items : List Item) → Follows (flat_map item_events items) (lowered_items numbers items)
  items_fit [] = nothing_follows
  items_fit (i ∷ rest) = item_then (flat_map item_events rest) (lowered_items numbers rest) i (items_fit rest)

  -- ---- statements

  simple_fits : (tree : Stmt) (s : List ℕ) → Goes numbers whole (Fit s (lowered_simple numbers tree)) s [] s [] (simple_events tree)
  unfolding simple_events lowered_simple Fits Uses
  simple_fits (stmt.Null pos semicolon) s = goes_nothing numbers whole s []
  simple_fits (stmt.Assign pos target becomes value semicolon) s =
      let asked : ℕ → Type 0 = IsKept (IsObjectIn whole) s in
      let one : Type 0 = Uses asked (lowered_name numbers target) in
      let two : Type 0 = Uses asked (lowered_expr numbers value) in
      goes_speaks numbers whole (one × two) s [] (name_events target ++ expr_events value)
      (speaks_both numbers asked (name_events target) (expr_events value) one two (name_speaks numbers asked target) (expr_speaks numbers asked value))
  simple_fits (stmt.Call pos callee semicolon) s =
      let asked : ℕ → Type 0 = IsKept (IsObjectIn whole) s in
      goes_speaks numbers whole (Uses asked (lowered_name numbers callee)) s [] (name_events callee) (name_speaks numbers asked callee)
  simple_fits (stmt.Exit pos semicolon) s = goes_nothing numbers whole s []
  simple_fits (stmt.ExitWhen pos when condition semicolon) s =
      let asked : ℕ → Type 0 = IsKept (IsObjectIn whole) s in
      let one : Type 0 = Uses asked (lowered_expr numbers condition) in
      goes_so numbers whole one (one × Unit {0}) s [] s [] (expr_events condition) (λ u. (u, tt))
      (goes_speaks numbers whole one s [] (expr_events condition) (expr_speaks numbers asked condition))
  simple_fits (stmt.Return pos semicolon) s = goes_nothing numbers whole s []
  simple_fits (stmt.ReturnValue pos value semicolon) s =
      let asked : ℕ → Type 0 = IsKept (IsObjectIn whole) s in
      let one : Type 0 = Uses asked (lowered_expr numbers value) in
      goes_so numbers whole one (one × Unit {0}) s [] s [] (expr_events value) (λ u. (u, tt))
      (goes_speaks numbers whole one s [] (expr_events value) (expr_speaks numbers asked value))
  simple_fits _ s = goes_nothing numbers whole s []

  simple_scope : (tree : Stmt) (s : List ℕ) → scope_after (lowered_simple numbers tree) s ≡ s
  unfolding lowered_simple scope_after
  simple_scope (stmt.Null pos semicolon) s = refl
  simple_scope (stmt.Assign pos target becomes value semicolon) s = refl
  simple_scope (stmt.Call pos callee semicolon) s = refl
  simple_scope (stmt.Exit pos semicolon) s = refl
  simple_scope (stmt.ExitWhen pos when condition semicolon) s = refl
  simple_scope (stmt.Return pos semicolon) s = refl
  simple_scope (stmt.ReturnValue pos value semicolon) s = refl
  simple_scope _ s = refl

  stmt_scope : (tree : Stmt) (s : List ℕ) → scope_after (lowered_stmt numbers tree) s ≡ s
  unfolding lowered_stmt scope_after
  stmt_scope (stmt.If' pos condition then_word _ body _ elsifs end end_if semicolon) s = refl
  stmt_scope (stmt.IfElse' pos condition then_word _ body _ elsifs otherwise _ other end end_if semicolon) s = refl
  stmt_scope (stmt.Case' pos selecting is _ first _ rest end end_case semicolon) s = refl
  stmt_scope (stmt.Loop' pos _ body end end_loop semicolon) s = refl
  stmt_scope (stmt.While' pos condition loop_word _ body end end_loop semicolon) s = refl
  stmt_scope (stmt.For' pos parameter in_word reverse steps loop_word _ body end end_loop semicolon) s = refl
  stmt_scope (stmt.Block' pos _ body end semicolon) s = refl
  stmt_scope (stmt.DeclareBlock' pos items begin _ body end semicolon) s = refl
  stmt_scope simple s = simple_scope simple s

  box_scope : {n : _} (row : Row_of-Stmt n) (s : List ℕ) → scope_after (lowered_stmt_box numbers row) s ≡ s
  unfolding lowered_stmt_box scope_after
  box_scope end_of-Stmt s = refl
  box_scope (more_of-Stmt part rest) s = stmt_scope part s

  -- statements leave what is in scope
  abbrev Stays : List ℕ → Type 0 → List Event → Type 0
  Stays s one xs = Goes numbers whole one s [] s [] xs

  stay_both : (s : List ℕ) (one two : Type 0) (xs ys : List Event) → Stays s one xs → Stays s two ys → Stays s (one × two) (xs ++ ys)
  stay_both s one two xs ys a b = goes_then numbers whole one two s [] s [] s [] xs ys a b

  stay_so : (s : List ℕ) (one two : Type 0) (xs : List Event) → (one → two) → Stays s one xs → Stays s two xs
  stay_so s one two xs f a = goes_so numbers whole one two s [] s [] xs f a

  condition_stays : (s : List ℕ) (x : Expr) → Stays s (Uses (IsKept (IsObjectIn whole) s) (lowered_expr numbers x)) (expr_events x)
  condition_stays s x =
      goes_speaks numbers whole (Uses (IsKept (IsObjectIn whole) s) (lowered_expr numbers x)) s [] (expr_events x)
      (expr_speaks numbers (IsKept (IsObjectIn whole) s) x)

  -- the beginning of a `for` loop
  parameter_goes : (s : List ℕ) (parameter : Identifier) (steps : Range)
      → Goes numbers whole (IsObjectIn whole (number_of numbers parameter) × RangeFits (IsObjectIn whole) s (lowered_range numbers steps)) s []
      (number_of numbers parameter ∷ s) [] (declares form.LoopParameter parameter ∷ (range_events steps ++ e.DeclarationsEnd ∷ []))
  parameter_goes s parameter steps =
      let n : ℕ = number_of numbers parameter in
      let one : Type 0 = IsObjectIn whole n in
      let two : Type 0 = RangeFits (IsObjectIn whole) s (lowered_range numbers steps) in
      let xs : List Event = range_events steps in
      let end : List Event = e.DeclarationsEnd ∷ [] in
      goes_then numbers whole one two s [] s (n ∷ []) (n ∷ s) [] (declares form.LoopParameter parameter ∷ []) (xs ++ end)
      (goes_declares numbers whole form.LoopParameter refl parameter s [])
      (goes_first numbers whole two s (n ∷ []) s (n ∷ []) (n ∷ s) [] xs end
      (goes_speaks numbers whole two s (n ∷ []) xs (range_speaks numbers (IsObjectIn whole) s steps)) (goes_ends numbers whole s (n ∷ [])))

  stmts_fit_laws : StatementLaws (record {
    of_statements = λ tree. (s : List ℕ) → Stays s (Fit s (lowered_stmts numbers tree)) (stmts_events tree);
    of_statement_box = λ n row. (s : List ℕ) → Stays s (Fit s (lowered_stmt_box numbers row)) (stmt_box_events row);
    of_statement_row = λ n row. (s : List ℕ) → Stays s (Fit s (code_list (stmts_row numbers row))) (stmt_list_events row);
    of_statement = λ tree. (s : List ℕ) → Stays s (Fit s (lowered_stmt numbers tree)) (stmt_events tree);
    of_statements_box = λ n row. (s : List ℕ) → Stays s (Fit s (lowered_stmts_box numbers row)) (stmts_box_events row);
    of_branches = λ n row. (s : List ℕ) → Stays s (AreFitting (IsObjectIn whole) s (code_list (elsifs_row numbers row))) (elsifs_events row);
    of_branch = λ tree. (s : List ℕ) → Stays s (IsFitting (IsObjectIn whole) s (lowered_elsif numbers tree)) (elsif_events tree);
    of_alternative_box = λ n row. (s : List ℕ) → Stays s (IsFitting (IsObjectIn whole) s (lowered_when_box numbers row)) (when_box_events row);
    of_alternatives = λ n row. (s : List ℕ) → Stays s (AreFitting (IsObjectIn whole) s (code_list (whens_row numbers row))) (whens_events row);
    of_alternative = λ tree. (s : List ℕ) → Stays s (IsFitting (IsObjectIn whole) s (lowered_when numbers tree)) (when_events tree);
  })
  unfolding lowered_stmts lowered_stmt_box stmts_row lowered_stmt lowered_stmts_box elsifs_row lowered_elsif lowered_when_box whens_row lowered_when stmts_events stmt_box_events stmt_list_events stmt_events stmts_box_events elsifs_events elsif_events when_box_events whens_events when_events Fits AreFitting IsFitting scope_after
  stmts_fit_laws = record {
    statements_sequence = λ pos _ first _ rest by_first by_rest s. let a : Code = lowered_stmt_box numbers first in
        let b : Code = code_list (stmts_row numbers rest) in
        stay_so s (Fit s a × Fit s b) (Fit s a × Fit (scope_after a s) b) (stmt_box_events first ++ stmt_list_events rest)
        (λ p. (p.0, subst (λ t. Fit t b) (sym (box_scope first s)) p.1))
        (stay_both s (Fit s a) (Fit s b) (stmt_box_events first) (stmt_list_events rest) (by_first s) (by_rest s));
    statement_box_end = λ s. goes_nothing numbers whole s [];
    statement_box_more = λ _ part rest by_part s. by_part s;
    statement_row_end = λ s. goes_nothing numbers whole s [];
    statement_row_more = λ _ part rest by_part by_rest s. let a : Code = lowered_stmt numbers part in
        let b : Code = code_list (stmts_row numbers rest) in
        stay_so s (Fit s a × Fit s b) (Fit s a × Fit (scope_after a s) b) (stmt_events part ++ stmt_list_events rest)
        (λ p. (p.0, subst (λ t. Fit t b) (sym (stmt_scope part s)) p.1))
        (stay_both s (Fit s a) (Fit s b) (stmt_events part) (stmt_list_events rest) (by_part s) (by_rest s));
    statement_null = λ pos semicolon s. simple_fits (stmt.Null pos semicolon) s;
    statement_assign = λ pos target becomes value semicolon s. simple_fits (stmt.Assign pos target becomes value semicolon) s;
    statement_call = λ pos called semicolon s. simple_fits (stmt.Call pos called semicolon) s;
    statement_exit = λ pos semicolon s. simple_fits (stmt.Exit pos semicolon) s;
    statement_exit_when = λ pos when_word condition semicolon s. simple_fits (stmt.ExitWhen pos when_word condition semicolon) s;
    statement_return = λ pos semicolon s. simple_fits (stmt.Return pos semicolon) s;
    statement_return_value = λ pos value semicolon s. simple_fits (stmt.ReturnValue pos value semicolon) s;
    statement_if = λ pos condition then_word _ body _ elsifs end end_if semicolon by_body by_elsifs s. let one : Type 0 = Uses (IsKept (IsObjectIn whole) s) (lowered_expr numbers condition) in
        let two : Type 0 = Fit s (lowered_stmts_box numbers body) in
        let three : Type 0 = AreFitting (IsObjectIn whole) s (code_list (elsifs_row numbers elsifs)) in
        stay_so s (one × (two × three)) (((one × two) × three) × Unit {0}) (expr_events condition ++ (stmts_box_events body ++ elsifs_events elsifs))
        (λ p. (((p.0, p.1.0), p.1.1), tt))
        (stay_both s one (two × three) (expr_events condition) (stmts_box_events body ++ elsifs_events elsifs) (condition_stays s condition)
        (stay_both s two three (stmts_box_events body) (elsifs_events elsifs) (by_body s) (by_elsifs s)));
    statement_if_else = λ pos condition then_word _ body _ elsifs otherwise _ other end end_if semicolon by_body by_elsifs by_other s. let one : Type 0 = Uses (IsKept (IsObjectIn whole) s) (lowered_expr numbers condition) in
        let two : Type 0 = Fit s (lowered_stmts_box numbers body) in
        let three : Type 0 = AreFitting (IsObjectIn whole) s (code_list (elsifs_row numbers elsifs)) in
        let four : Type 0 = Fit s (lowered_stmts_box numbers other) in
        let ys : List Event = elsifs_events elsifs ++ stmts_box_events other in
        stay_so s (one × (two × (three × four))) (((one × two) × three) × four) (expr_events condition ++ (stmts_box_events body ++ ys))
        (λ p. (((p.0, p.1.0), p.1.1.0), p.1.1.1))
        (stay_both s one (two × (three × four)) (expr_events condition) (stmts_box_events body ++ ys) (condition_stays s condition)
        (stay_both s two (three × four) (stmts_box_events body) ys (by_body s)
        (stay_both s three four (elsifs_events elsifs) (stmts_box_events other) (by_elsifs s) (by_other s))));
    statement_case = λ pos selecting is _ first _ rest end end_case semicolon by_first by_rest s. let one : Type 0 = Uses (IsKept (IsObjectIn whole) s) (lowered_expr numbers selecting) in
        let two : Type 0 = IsFitting (IsObjectIn whole) s (lowered_when_box numbers first) in
        let three : Type 0 = AreFitting (IsObjectIn whole) s (code_list (whens_row numbers rest)) in
        stay_both s one (two × three) (expr_events selecting) (when_box_events first ++ whens_events rest) (condition_stays s selecting)
        (stay_both s two three (when_box_events first) (whens_events rest) (by_first s) (by_rest s));
    statement_loop = λ pos _ body end end_loop semicolon by_body s. by_body s;
    statement_while = λ pos condition loop_word _ body end end_loop semicolon by_body s. stay_both s (Uses (IsKept (IsObjectIn whole) s) (lowered_expr numbers condition)) (Fit s (lowered_stmts_box numbers body)) (expr_events condition)
        (stmts_box_events body) (condition_stays s condition) (by_body s);
    statement_for = λ pos parameter in_word reverse steps loop_word _ body end end_loop semicolon by_body s. let n : ℕ = number_of numbers parameter in
        let one : Type 0 = IsObjectIn whole n in
        let two : Type 0 = RangeFits (IsObjectIn whole) s (lowered_range numbers steps) in
        let three : Type 0 = Fit (n ∷ s) (lowered_stmts_box numbers body) in
        let xs : List Event = declares form.LoopParameter parameter ∷ (range_events steps ++ e.DeclarationsEnd ∷ []) in
        let ys : List Event = stmts_box_events body in
        stay_so s ((one × two) × three) (one × (two × three)) (e.RegionOpens ∷ (xs ++ (ys ++ e.RegionCloses ∷ []))) (λ p. (p.0.0, (p.0.1, p.1)))
        (goes_regions numbers whole (one × two) three s (n ∷ s) (n ∷ s) xs ys (parameter_goes s parameter steps) (by_body (n ∷ s)));
    statement_block = λ pos _ body end semicolon by_body s. let one : Type 0 = Fit s (lowered_stmts_box numbers body) in
        stay_so s one (Unit {0} × one) (e.RegionOpens ∷ (stmts_box_events body ++ e.RegionCloses ∷ [])) (λ p. (tt, p))
        (goes_region numbers whole one s s (stmts_box_events body) (by_body s));
    statement_declare_block = λ pos items begin _ body end semicolon by_body s. let a : Code = lowered_items numbers items in
        let t : List ℕ = scope_after a s in
        goes_regions numbers whole (Fit s a) (Fit t (lowered_stmts_box numbers body)) s t t (flat_map item_events items) (stmts_box_events body)
        (items_fit items s) (by_body t);
    statements_box_end = λ s. goes_nothing numbers whole s [];
    statements_box_more = λ _ part rest by_part s. by_part s;
    branches_end = λ s. goes_nothing numbers whole s [];
    branches_more = λ _ part rest by_part by_rest s. stay_both s (IsFitting (IsObjectIn whole) s (lowered_elsif numbers part)) (AreFitting (IsObjectIn whole) s (code_list (elsifs_row numbers rest)))
        (elsif_events part) (elsifs_events rest) (by_part s) (by_rest s);
    branch_branch = λ pos condition then_word _ body by_body s. stay_both s (Uses (IsKept (IsObjectIn whole) s) (lowered_expr numbers condition)) (Fit s (lowered_stmts_box numbers body)) (expr_events condition)
        (stmts_box_events body) (condition_stays s condition) (by_body s);
    alternative_box_end = λ s. goes_nothing numbers whole s [];
    alternative_box_more = λ _ part rest by_part s. by_part s;
    alternatives_end = λ s. goes_nothing numbers whole s [];
    alternatives_more = λ _ part rest by_part by_rest s. stay_both s (IsFitting (IsObjectIn whole) s (lowered_when numbers part)) (AreFitting (IsObjectIn whole) s (code_list (whens_row numbers rest)))
        (when_events part) (whens_events rest) (by_part s) (by_rest s);
    alternative_alternative = λ pos first rest arrow _ body by_body s. let asked : ℕ → Type 0 = IsKept (IsObjectIn whole) s in
        let one : Type 0 = Fit s (lowered_stmts_box numbers body) in
        let xs : List Event = choice_events first in
        let ys : List Event = flat_map next_choice_events rest in
        stay_so s (Unit {0} × (Unit {0} × one)) one (xs ++ (ys ++ stmts_box_events body)) (λ p. p.1.1)
        (stay_both s (Unit {0}) (Unit {0} × one) xs (ys ++ stmts_box_events body) (goes_speaks numbers whole (Unit {0}) s [] xs (choice_speaks numbers asked first))
        (stay_both s (Unit {0}) one ys (stmts_box_events body) (goes_speaks numbers whole (Unit {0}) s [] ys (next_choices_speak numbers asked rest))
        (by_body s)));
  }

  pub stmts_fit : (tree : Stmts) (s : List ℕ) → Stays s (Fit s (lowered_stmts numbers tree)) (stmts_events tree)
  stmts_fit = on_statements stmts_fit_laws
