-- The events of files declare what their code declares, in one order; each body stands where bodies are looked
-- for; and marks of objects and of parameters of loops denote nothing that is declared after these.
use Rattle.std.proofs.Common.{◌≡◌, inl, inr, ℕ, suc, ◌<◌, ◌≤◌, false, List, [], ◌∷◌, ◌++◌, map, flat_map, length, refl, sym, ap, ◌∙◌, arith, Option, Some, None, subst, append_assoc, length-append, unwrap_or, true≢false, true}
use Rattle.std.proofs.lemmas.Bool.{false≢true}
use Rattle.std.specs.Prelude.{is_some}
use Rattle.machine.specs.spark_base.Lists.{Has}
use Rattle.soundness.proofs.Lists.{Has-append_cases, Has-append_left, Has-append_right}
use Rattle.machine.specs.spark_base.declared.position.Pos.{Pos}
use Rattle.ada_tree.specs.declared.identifier.Identifier.{Identifier}
use Rattle.ada_tree.specs.declared.identifier.NextIdentifier.{NextIdentifier}
use Rattle.ada_tree.specs.declared.identifier.NextIdentifier.TheVariants as next_id
use Rattle.ada_tree.specs.declared.declaration.Item.{Item}
use Rattle.ada_tree.specs.declared.declaration.Item.TheVariants as item
use Rattle.ada_tree.specs.declared.statement.Stmts.{Stmts}
use Rattle.ada_tree.specs.declared.statement.Stmt.{Stmt}
use Rattle.ada_tree.specs.declared.statement.Stmt.TheVariants as stmt
use Rattle.ada_tree.specs.declared.subprogram.Subspec.{Subspec}
use Rattle.ada_tree.specs.declared.subprogram.Subspec.TheVariants as subspec
use Rattle.ada_tree.specs.declared.subprogram.Formals.{Formals}
use Rattle.ada_tree.specs.declared.subprogram.NextFormal.{NextFormal}
use Rattle.ada_tree.specs.declared.subprogram.NextFormal.TheVariants as next_formal
use Rattle.ada_tree.specs.declared.subprogram.Formal.{Formal}
use Rattle.ada_tree.specs.declared.subprogram.Formal.TheVariants as formal
use Rattle.ada_tree.specs.declared.subprogram.Decl.{Decl}
use Rattle.ada_tree.specs.declared.subprogram.Decl.TheVariants as decl
use Rattle.ada_tree.specs.declared.unit.SourceUnit.{SourceUnit}
use Rattle.ada_tree.specs.declared.unit.SourceUnit.TheVariants as unit
use Rattle.ada_tree.specs.declared.unit.Package.{Package}
use Rattle.ada_tree.specs.declared.unit.PrivatePart.{PrivatePart}
use Rattle.ada_tree.specs.declared.unit.PackageBody.{PackageBody}
use Rattle.ada_tree.specs.declared.unit.BodyPart.{BodyPart}
use Rattle.ada_tree.specs.declared.unit.BodyPart.TheVariants as part
use Rattle.ada_tree.specs.declared.unit.SubprogramBody.{SubprogramBody}
use Rattle.ada_tree.specs.declared.identifier.Dotted.{Dotted}
use Rattle.ada_tree.specs.declared.identifier.NextPart.{NextPart}
use Rattle.ada_tree.specs.declared.declaration.Component.{Component}
use Rattle.ada_tree.specs.declared.declaration.Component.TheVariants as component
use Rattle.ada_tree.specs.declared.declaration.Indication.{Indication}
use Rattle.ada_tree.specs.declared.declaration.Indication.TheVariants as indication
use Rattle.ada_tree.specs.declared.declaration.UseClause.{UseClause}
use Rattle.ada_tree.specs.declared.range.Range.{Range}
use Rattle.ada_tree.specs.declared.range.Range.TheVariants as range
use Rattle.ada_tree.specs.declared.unit.Context.{Context}
use Rattle.ada_tree.specs.declared.unit.Context.TheVariants as context
use Rattle.name_events.specs.declared.event.Event.{Event}
use Rattle.name_events.specs.declared.event.Event.TheVariants as e
use Rattle.name_events.specs.declared.event.FoldedIdentifier.{FoldedIdentifier}
use Rattle.name_events.specs.declared.event.Clause.{Clause}
use Rattle.name_events.specs.declared.event.Clause.TheVariants as clause
use Rattle.name_events.specs.declared.declaration.DeclarationForm.{DeclarationForm}
use Rattle.name_events.specs.declared.declaration.DeclarationForm.TheVariants as form
use Rattle.name_events.specs.Declarations.{is_body_form}
use Rattle.name_events.specs.Known.{Known, here}
use Rattle.name_events.specs.Completions.{completed_by}
use Rattle.name_events.specs.KnownBehind.{known_behind, known_behind_all, behind_declaration, new_entry}
use Rattle.name_events.specs.Identified.{number_at, completed_or_next}
use Rattle.name_events.specs.ExpressionOutline.{declares, declares_all, next_name, next_dotted_name, part_name, folded, folded_identifier, mention, mentions, each_of, name_events, arg_events, next_arg_events, expr_events, range_events, choice_events, next_choice_events}
use Rattle.name_events.specs.Outline.{indication_events, component_events, use_events, clause_of, subtype_events, type_events, item_events, simple_events, parameter_events, stmts_events, stmt_box_events, stmt_list_events, stmt_events, stmts_box_events, elsifs_events, elsif_events, when_box_events, whens_events, when_events, formal_events, next_formal_events, formals_events, subspec_events, subspec_name, closing_events, subprogram_events, decl_events, body_part_events, private_events, package_events, package_body_events, has_with, with_events, context_events, unit_front, unit_events, source_events}
use Rattle.name_events.specs.Outline as outline
use Rattle.machine.specs.resolved_tree.Trees.{Code, code_list}
use Rattle.expression_lowering.specs.LoweredExpressions.{Numbers, number_of, last_part, mark_of, before_others, last_of, lowered_range}
use Rattle.sound_files.specs.SeenFiles.Uses.{numbers_along, name_number, AreAllowed}
use Rattle.sound_files.proofs.SeenFiles.Expressions.{both_so, all_mention, expr_speaks}
use Rattle.name_events.specs.Laws.{is_mention}
use Rattle.tree_lowering.specs.Lowered.{declared_next, declared_all, lowered_indication, lowered_subtype, lowered_type, lowered_declaration, item_before, before_all, lowered_items, lowered_simple, lowered_stmts, lowered_stmt_box, stmts_row, lowered_stmt, lowered_stmts_box, elsifs_row, lowered_elsif, lowered_when_box, whens_row, lowered_when, lowered_formal, lowered_next_formal, lowered_formals, lowered_subspec, lowered_subprogram, decl_before, part_before, lowered_decls, lowered_private, lowered_package, lowered_package_body, lowered_unit, lowered_files}
use Rattle.machine.specs.type_definitions.Gathered.{front_number}
use Rattle.machine.specs.typed_tree.Programs.{bodies_in}
use Rattle.settled_types.proofs.StatementCases.{StatementLaws, on_statements}
use Rattle.sound_files.specs.MeantFiles.Declarations.{Declarations, each_as, group_declarations, formal_declarations, front_declarations, body_form, declarations, declared_by, HasBodies, last_from, IsLow, IsLowIndication, IsLowRange, IsLowGroup, AreLowGroups, IsLowFront, AreLow, AllLow}
use Rattle.sound_files.specs.MeantFiles.Followed.{IsFollowed, AreFollowed}
use Rattle.settled_types.proofs.OrderlyFiles.Steps.{completes_nothing}
use Rattle.sound_files.proofs.MeantFiles.Lists.{append_nothing}
use Rattle.sound_files.proofs.MeantFiles.Silent.{declared_both, silent_both, silent_each, name_silent, arg_silent, next_arg_silent, expr_silent, range_silent, choice_silent, next_choice_silent}

-- ---- one more declaration

one_more : (now : Known) (new : DeclarationForm) (id : FoldedIdentifier) → length (behind_declaration now new id None).declared ≡ suc (length now.declared)
one_more now form.Package id = let a = length-append now.declared (new_entry now form.Package id ∷ []) in omega (arith, a)
one_more now new id = let a = length-append now.declared (new_entry now new id ∷ []) in omega (arith, a)

module _ (numbers : Numbers) where
  followed_both : (xs ys : List Event) (now : Known) → AreFollowed numbers now (xs ++ ys)
      → AreFollowed numbers now xs × AreFollowed numbers (known_behind_all now xs) ys
  followed_both [] ys now are = (tt, are)
  followed_both (x ∷ xs) ys now are = let s = followed_both xs ys (known_behind now x) are.1 in ((are.0, s.0), s.1)

  -- ---- marks

  -- how many declarations there are after one that completes nothing
  one_long : (new : DeclarationForm) (id : Identifier) (now : Known) → completed_by now new (folded_identifier id).name ≡ None
      → IsFollowed numbers now (declares new id) → length (known_behind now (declares new id)).declared ≡ suc (number_of numbers id)
  unfolding known_behind
  one_long new id now nothing is =
      let w : FoldedIdentifier = folded_identifier id in
      let number : number_of numbers id ≡ length now.declared = is ∙ ap (completed_or_next now) nothing in
      ap (λ found. length (behind_declaration now new w found).declared) nothing ∙ (one_more now new w ∙ ap suc (sym number))

  -- a form of declarations that complete nothing
  abbrev IsFirst : DeclarationForm → Type 0
  IsFirst new = (now : Known) (w : List ℕ) → completed_by now new w ≡ None

  rest_long : (new : DeclarationForm) → IsFirst new → (n : ℕ) (rest : List NextIdentifier) (now : Known)
      → AreFollowed numbers now (map (declares new) (map next_name rest)) → length now.declared ≡ suc n
      → length (known_behind_all now (map (declares new) (map next_name rest))).declared ≡ suc (last_from n (code_list (map (declared_next numbers) rest)))
  unfolding next_name declared_next
  rest_long new first n [] now are long = long
  rest_long new first n (next_id.FurtherIdentifier pos id ∷ rest) now are long =
      rest_long new first (number_of numbers id) rest (known_behind now (declares new id)) are.1 (one_long new id now (first now (folded_identifier id).name) are.0)

  all_long : (new : DeclarationForm) → IsFirst new → (id : Identifier) (rest : List NextIdentifier) (now : Known) → AreFollowed numbers now (declares_all new id rest)
      → length (known_behind_all now (declares_all new id rest)).declared ≡ suc (last_from 0 (declared_all numbers id rest))
  all_long new first id rest now are =
      rest_long new first (number_of numbers id) rest (known_behind now (declares new id)) are.1 (one_long new id now (first now (folded_identifier id).name) are.0)

  object_first : IsFirst form.Object
  object_first now w = completes_nothing now form.Object w refl

  formal_first : IsFirst form.Formal
  formal_first now w = completes_nothing now form.Formal w refl

  below : (count last n : ℕ) → count ≡ suc last → n < count → n ≤ last
  below count last n same less = omega (arith, same, less)

  part_same : (k : ℕ) (rest : List NextPart) (n : ℕ) → last_part numbers (Some k) rest ≡ Some n
      → last_of k (numbers_along numbers (map (λ (part : NextPart). folded_identifier (part_name part)) rest)) ≡ n
  part_same k [] n is = ap (λ o. unwrap_or o 0) is
  part_same k (part ∷ rest) n is = by (number_at numbers (part_name part).pos) is (λ m e. part_same m rest n e)
    where
      never : (rest : List NextPart) → last_part numbers None rest ≡ Some n → ⊥
      never [] is = false≢true (ap is_some is)
      never (part ∷ rest) is = false≢true (ap is_some is)

      by : (o : Option ℕ) → last_part numbers o rest ≡ Some n
          → ((m : ℕ) → last_part numbers (Some m) rest ≡ Some n
          → last_of m (numbers_along numbers (map (λ (part : NextPart). folded_identifier (part_name part)) rest)) ≡ n)
          → last_of k (before_others o (numbers_along numbers (map (λ (part : NextPart). folded_identifier (part_name part)) rest))) ≡ n
      by None is on = absurd (never rest is)
      by (Some m) is on = on m is

  mark_low : (c : Clause) (mark : Dotted) (last : ℕ) (now : Known) → length now.declared ≡ suc last → IsFollowed numbers now (mention c mark)
      → IsLow last (mark_of numbers mark)
  mark_low c mark last now long is n at =
      below (length now.declared) last n long (subst (λ m. m < length now.declared) (part_same (number_of numbers mark.first) mark.rest n at) is)

  -- names in an expression
  mentions_low : (last : ℕ) (xs : List Event) (now : Known) → length now.declared ≡ suc last → all_mention xs ≡ true → AreFollowed numbers now xs
      → AreAllowed numbers (λ n. n ≤ last) xs
  unfolding known_behind AreAllowed
  mentions_low last [] now long all are = tt
  mentions_low last (e.Mentions c name ∷ rest) now long all are =
      (below (length now.declared) last (name_number numbers name) long are.0, mentions_low last rest (known_behind now (e.Mentions c name)) long all are.1)
  mentions_low last (event ∷ rest) now long all are = absurd (true≢false (sym (both_so (is_mention event) (all_mention rest) all).0))

  -- ---- one after the other

  record Goes (xs : List Event) (all : Declarations) (Low : Type 0) (bodies : List ℕ) : Type 0 where
    pub declared : declared_by numbers xs ≡ all
    pub bodied : HasBodies all bodies
    pub low : (now : Known) → AreFollowed numbers now xs → Low

  none : {xs : List Event} → declared_by numbers xs ≡ [] → Goes xs [] (Unit {0}) []
  none silent = record { declared = silent; bodied = λ new n has is. absurd has; low = λ now are. tt }

  both : {xs ys : List Event} {all more : Declarations} {A B : Type 0} {bs cs : List ℕ} → Goes xs all A bs → Goes ys more B cs
      → Goes (xs ++ ys) (all ++ more) (A × B) (bs ++ cs)
  both {xs} {ys} {all} {more} {A} {B} {bs} {cs} f g = record {
    declared = declared_both numbers xs ys ∙ (ap (λ zs. zs ++ declared_by numbers ys) f.declared ∙ ap (λ zs. all ++ zs) g.declared);
    bodied = λ new n has is. elim (Has-append_cases all more (new, n) has) [
      | inl here ↦ Has-append_left bs cs n (f.bodied new n here is)
      | inr there ↦ Has-append_right bs cs n (g.bodied new n there is)
    ];
    low = λ now are. let s = followed_both xs ys now are in (f.low now s.0, g.low (known_behind_all now xs) s.1);
  }

  after : (xs : List Event) {ys : List Event} {all : Declarations} {A : Type 0} {bs : List ℕ} → declared_by numbers xs ≡ [] → Goes ys all A bs
      → Goes (xs ++ ys) all A bs
  after xs {ys} {all} {A} {bs} silent g = record {
    declared = declared_both numbers xs ys ∙ (ap (λ zs. zs ++ declared_by numbers ys) silent ∙ g.declared);
    bodied = g.bodied;
    low = λ now are. let s = followed_both xs ys now are in g.low (known_behind_all now xs) s.1;
  }

  before : {xs : List Event} (ys : List Event) {all : Declarations} {A : Type 0} {bs : List ℕ} → declared_by numbers ys ≡ [] → Goes xs all A bs
      → Goes (xs ++ ys) all A bs
  before {xs} ys {all} {A} {bs} silent f = record {
    declared = declared_both numbers xs ys ∙ (ap (λ zs. zs ++ declared_by numbers ys) f.declared ∙ (ap (λ zs. all ++ zs) silent ∙ append_nothing all));
    bodied = f.bodied;
    low = λ now are. let s = followed_both xs ys now are in f.low now s.0;
  }

  change : {xs : List Event} {all more : Declarations} {A B : Type 0} {bs : List ℕ} → all ≡ more → (A → B) → Goes xs all A bs → Goes xs more B bs
  change {xs} {all} {more} {A} {B} {bs} same to f = record {
    declared = f.declared ∙ same;
    bodied = subst (λ ds. HasBodies ds bs) same f.bodied;
    low = λ now are. to (f.low now are);
  }

  wider : {xs : List Event} {all : Declarations} {A : Type 0} {bs : List ℕ} (cs : List ℕ) → ((n : ℕ) → Has bs n → Has cs n) → Goes xs all A bs → Goes xs all A cs
  wider cs to f = record { declared = f.declared; bodied = λ new n has is. to n (f.bodied new n has is); low = f.low }

  -- ---- identifiers

  no_body : (new : DeclarationForm) (n : ℕ) → is_body_form new ≡ false → HasBodies ((new, n) ∷ []) []
  no_body new n never form m has is = elim has [
    | inl same ↦ absurd (true≢false (sym is ∙ (sym (ap (λ (x : DeclarationForm × ℕ). is_body_form x.0) same) ∙ never)))
    | inr none ↦ none
  ]

  one : (new : DeclarationForm) (id : Identifier) → is_body_form new ≡ false → Goes (declares new id ∷ []) ((new, number_of numbers id) ∷ []) (Unit {0}) []
  one new id never = record { declared = refl; bodied = no_body new (number_of numbers id) never; low = λ now are. tt }

  many : (new : DeclarationForm) (rest : List NextIdentifier) → is_body_form new ≡ false
      → Goes (map (declares new) (map next_name rest)) (each_as new (code_list (map (declared_next numbers) rest))) (Unit {0}) []
  unfolding next_name declared_next
  many new [] never = none refl
  many new (next_id.FurtherIdentifier pos id ∷ rest) never = change refl (λ a. tt) (both (one new id never) (many new rest never))

  all_as : (new : DeclarationForm) (first : Identifier) (rest : List NextIdentifier) → is_body_form new ≡ false
      → Goes (declares_all new first rest) (each_as new (declared_all numbers first rest)) (Unit {0}) []
  all_as new first rest never = change refl (λ a. tt) (both (one new first never) (many new rest never))

  -- ---- items

  indication_silent : (i : Indication) → declared_by numbers (indication_events i) ≡ []
  unfolding indication_events
  indication_silent (indication.Mark pos mark) = refl
  indication_silent (indication.Anonymous pos access_constant designated) = refl

  components_silent : (ids : List Identifier) → declared_by numbers (map (λ id. e.DeclaresComponent (folded_identifier id)) ids) ≡ []
  components_silent [] = refl
  components_silent (id ∷ ids) = components_silent ids

  component_silent : (c : Component) → declared_by numbers (component_events c) ≡ []
  unfolding component_events
  component_silent (component.Fields pos first rest colon mark semicolon) =
      silent_both numbers (map (λ id. e.DeclaresComponent (folded_identifier id)) (first ∷ map next_name rest)) (mention clause.Elsewhere mark ∷ [])
      (components_silent (first ∷ map next_name rest)) refl

  ends : (xs : List Event) → declared_by numbers xs ≡ [] → declared_by numbers (xs ++ e.DeclarationsEnd ∷ []) ≡ []
  ends xs silent = silent_both numbers xs (e.DeclarationsEnd ∷ []) silent refl

  objects_low : (first : Identifier) (rest : List NextIdentifier) (of : Indication) (zs : List Event) (now : Known)
      → AreFollowed numbers now (declares_all form.Object first rest ++ (indication_events of ++ zs))
      → IsLowIndication (last_from 0 (declared_all numbers first rest)) (lowered_indication numbers of)
  unfolding indication_events lowered_indication
  objects_low first rest (indication.Mark pos mark) zs now are =
      let s = followed_both (declares_all form.Object first rest) (mention clause.Elsewhere mark ∷ zs) now are in
      mark_low clause.Elsewhere mark (last_from 0 (declared_all numbers first rest)) (known_behind_all now (declares_all form.Object first rest))
      (all_long form.Object object_first first rest now s.0) s.1.0
  objects_low first rest (indication.Anonymous pos access_constant designated) zs now are = tt

  objects_go : (first : Identifier) (rest : List NextIdentifier) (of : Indication) (zs : List Event) → declared_by numbers zs ≡ []
      → Goes (declares_all form.Object first rest ++ (indication_events of ++ zs)) (each_as form.Object (declared_all numbers first rest))
      (IsLowIndication (last_from 0 (declared_all numbers first rest)) (lowered_indication numbers of)) []
  objects_go first rest of zs silent =
      let bare = before (indication_events of ++ zs) (silent_both numbers (indication_events of) zs (indication_silent of) silent) (all_as form.Object first rest refl) in
      record { declared = bare.declared; bodied = bare.bodied; low = objects_low first rest of zs }

  mentions_silent : (c : Clause) (ds : List Dotted) → declared_by numbers (map (mention c) ds) ≡ []
  mentions_silent c [] = refl
  mentions_silent c (d ∷ ds) = mentions_silent c ds

  use_silent : (c : UseClause) → declared_by numbers (use_events c) ≡ []
  use_silent c =
      silent_both numbers (mentions (clause_of c.type_word) c.first c.rest) (e.UseClauseEnds ∷ []) (mentions_silent (clause_of c.type_word) (c.first ∷ map next_dotted_name c.rest)) refl

  abbrev Walks : List Event → Code → Type 0
  Walks xs code = Goes xs (declarations code) (AreLow code) []

  subtype_go : (i : Item) → Walks (subtype_events i) (lowered_subtype numbers i)
  unfolding subtype_events lowered_subtype AreLow
  subtype_go (item.Subtype pos id is mark semicolon) =
      before (mention clause.Elsewhere mark ∷ (e.DeclarationsEnd ∷ [])) refl (one form.Subtype id refl)
  subtype_go (item.ConstrainedSubtype pos id is mark of_range low dots high semicolon) =
      before (mention clause.Elsewhere mark ∷ (expr_events low ++ (expr_events high ++ e.DeclarationsEnd ∷ [])))
      (silent_both numbers (expr_events low) (expr_events high ++ e.DeclarationsEnd ∷ []) (expr_silent numbers low) (ends (expr_events high) (expr_silent numbers high)))
      (one form.Subtype id refl)
  subtype_go _ = none refl

  type_go : (i : Item) → Walks (type_events i) (lowered_type numbers i)
  unfolding type_events lowered_type AreLow
  type_go (item.IncompleteType pos id semicolon) = before (e.DeclarationsEnd ∷ []) refl (one form.IncompleteType id refl)
  type_go (item.PrivateType pos id is private semicolon) = before (e.DeclarationsEnd ∷ []) refl (one form.PrivateType id refl)
  type_go (item.EnumerationType pos id is left_paren first rest right_paren semicolon) =
      change refl (λ a. tt) (both (one form.FullType id refl) (before (e.DeclarationsEnd ∷ []) refl (all_as form.Literal first rest refl)))
  type_go (item.RecordType pos id is record_word first rest end end_record semicolon) =
      before (e.RecordBegins ∷ (flat_map component_events (first ∷ rest) ++ e.DeclarationsEnd ∷ []))
      (ends (flat_map component_events (first ∷ rest)) (silent_each numbers component_events component_silent (first ∷ rest))) (one form.FullType id refl)
  type_go (item.ArrayType pos id is array left_paren index right_paren of element semicolon) =
      before (range_events index ++ (mention clause.Elsewhere element ∷ (e.DeclarationsEnd ∷ [])))
      (silent_both numbers (range_events index) (mention clause.Elsewhere element ∷ (e.DeclarationsEnd ∷ [])) (range_silent numbers index) refl) (one form.FullType id refl)
  type_go (item.AccessType pos id is access designated semicolon) =
      before (mention clause.Elsewhere designated ∷ (e.DeclarationsEnd ∷ [])) refl (one form.FullType id refl)
  type_go other = subtype_go other

  declaration_go : (i : Item) → Walks (item_events i) (lowered_declaration numbers i)
  unfolding item_events lowered_declaration lowered_type lowered_subtype AreLow
  declaration_go (item.Objects pos first rest colon is_constant of semicolon) = objects_go first rest of (e.DeclarationsEnd ∷ []) refl
  declaration_go (item.InitializedObjects pos first rest colon is_constant of becomes value semicolon) =
      objects_go first rest of (expr_events value ++ e.DeclarationsEnd ∷ []) (ends (expr_events value) (expr_silent numbers value))
  declaration_go (item.Numbers pos first rest colon is_constant becomes value semicolon) =
      before (expr_events value ++ e.DeclarationsEnd ∷ []) (ends (expr_events value) (expr_silent numbers value)) (all_as form.Object first rest refl)
  declaration_go (item.Instance pos id is new generic left_paren first rest right_paren semicolon) =
      before (mention clause.Elsewhere generic ∷ (arg_events first ++ (flat_map next_arg_events rest ++ e.DeclarationsEnd ∷ [])))
      (silent_both numbers (arg_events first) (flat_map next_arg_events rest ++ e.DeclarationsEnd ∷ []) (arg_silent numbers first)
      (ends (flat_map next_arg_events rest) (silent_each numbers next_arg_events (next_arg_silent numbers) rest))) (one form.Instance id refl)
  declaration_go (item.Use pos c) = none (use_silent c)
  declaration_go (item.Pragma pos c) = none refl
  declaration_go other = type_go other

  use_item_silent : (pos : Pos) (c : UseClause) → declared_by numbers (item_events (item.Use pos c)) ≡ []
  unfolding item_events
  use_item_silent pos c = use_silent c

  item_then : {xs : List Event} (others : Code) {bs : List ℕ} (i : Item) → Goes xs (declarations others) (AreLow others) bs
      → Goes (item_events i ++ xs) (declarations (item_before numbers others i)) (AreLow (item_before numbers others i)) bs
  unfolding item_before AreLow item_events
  item_then others (item.Use pos clause) f = after (item_events (item.Use pos clause)) (use_item_silent pos clause) f
  item_then others (item.Pragma pos clause) f = after (item_events (item.Pragma pos clause)) refl f
  item_then others declaration f = both (declaration_go declaration) f

  items_go : (items : List Item) → Walks (flat_map item_events items) (lowered_items numbers items)
  unfolding AreLow
  items_go [] = none refl
  items_go (i ∷ rest) = item_then (lowered_items numbers rest) i (items_go rest)

  -- ---- statements

  simple_go : (s : Stmt) → Walks (simple_events s) (lowered_simple numbers s)
  unfolding simple_events lowered_simple AreLow
  simple_go (stmt.Null pos semicolon) = none refl
  simple_go (stmt.Assign pos target becomes value semicolon) =
      none (silent_both numbers (name_events target) (expr_events value) (name_silent numbers target) (expr_silent numbers value))
  simple_go (stmt.Call pos callee semicolon) = none (name_silent numbers callee)
  simple_go (stmt.Exit pos semicolon) = none refl
  simple_go (stmt.ExitWhen pos when condition semicolon) = none (expr_silent numbers condition)
  simple_go (stmt.Return pos semicolon) = none refl
  simple_go (stmt.ReturnValue pos value semicolon) = none (expr_silent numbers value)
  simple_go _ = none refl

  range_ends : (r : Range) → declared_by numbers (range_events r ++ e.DeclarationsEnd ∷ []) ≡ []
  range_ends r = ends (range_events r) (range_silent numbers r)

  parameter_low : (parameter : Identifier) (steps : Range) (now : Known) → AreFollowed numbers now (parameter_events parameter steps)
      → IsLowRange (number_of numbers parameter) (lowered_range numbers steps)
  unfolding range_events lowered_range
  parameter_low parameter (range.Bounds pos low dots high) now are =
      let last : ℕ = number_of numbers parameter in
      let inner : Known = known_behind (known_behind now e.RegionOpens) (declares form.LoopParameter parameter) in
      let speaks = expr_speaks numbers (λ n. n ≤ last) low in
      let first = followed_both (expr_events low ++ expr_events high) (e.DeclarationsEnd ∷ []) inner are.1.1 in
      speaks.1 (mentions_low last (expr_events low) inner
      (one_long form.LoopParameter parameter (known_behind now e.RegionOpens)
      (completes_nothing (known_behind now e.RegionOpens) form.LoopParameter (folded_identifier parameter).name refl) are.1.0)
      speaks.0 (followed_both (expr_events low) (expr_events high) inner first.0).0)
  parameter_low parameter (range.Marked pos mark) now are =
      mark_low clause.Elsewhere mark (number_of numbers parameter) (known_behind (known_behind now e.RegionOpens) (declares form.LoopParameter parameter))
      (one_long form.LoopParameter parameter (known_behind now e.RegionOpens)
      (completes_nothing (known_behind now e.RegionOpens) form.LoopParameter (folded_identifier parameter).name refl) are.1.0) are.1.1.0
  parameter_low parameter (range.Constrained pos mark of_range low dots high) now are =
      mark_low clause.Elsewhere mark (number_of numbers parameter) (known_behind (known_behind now e.RegionOpens) (declares form.LoopParameter parameter))
      (one_long form.LoopParameter parameter (known_behind now e.RegionOpens)
      (completes_nothing (known_behind now e.RegionOpens) form.LoopParameter (folded_identifier parameter).name refl) are.1.0) are.1.1.0
  parameter_low parameter (range.RangeOf pos prefix apostrophe of_range) now are = tt

  parameter_go : (parameter : Identifier) (steps : Range)
      → Goes (parameter_events parameter steps) ((form.LoopParameter, number_of numbers parameter) ∷ []) (IsLowRange (number_of numbers parameter) (lowered_range numbers steps)) []
  parameter_go parameter steps = record {
    declared = ap (λ zs. (form.LoopParameter, number_of numbers parameter) ∷ zs) (range_ends steps);
    bodied = no_body form.LoopParameter (number_of numbers parameter) refl;
    low = parameter_low parameter steps;
  }

  stmts_go_laws : StatementLaws (record {
    of_statements = λ tree. Walks (stmts_events tree) (lowered_stmts numbers tree);
    of_statement_box = λ n row. Walks (stmt_box_events row) (lowered_stmt_box numbers row);
    of_statement_row = λ n row. Walks (stmt_list_events row) (code_list (stmts_row numbers row));
    of_statement = λ tree. Walks (stmt_events tree) (lowered_stmt numbers tree);
    of_statements_box = λ n row. Walks (stmts_box_events row) (lowered_stmts_box numbers row);
    of_branches = λ n row. Walks (elsifs_events row) (code_list (elsifs_row numbers row));
    of_branch = λ tree. Walks (elsif_events tree) (lowered_elsif numbers tree);
    of_alternative_box = λ n row. Walks (when_box_events row) (lowered_when_box numbers row);
    of_alternatives = λ n row. Walks (whens_events row) (code_list (whens_row numbers row));
    of_alternative = λ tree. Walks (when_events tree) (lowered_when numbers tree);
  })
  unfolding AreLow lowered_stmts lowered_stmt_box stmts_row lowered_stmt lowered_stmts_box elsifs_row lowered_elsif lowered_when_box whens_row lowered_when stmts_events stmt_box_events stmt_list_events stmt_events stmts_box_events elsifs_events elsif_events when_box_events whens_events when_events
  stmts_go_laws = record {
    statements_sequence = λ pos _ first _ rest by_first by_rest. both (by_first) (by_rest);
    statement_box_end = none refl;
    statement_box_more = λ _ part rest by_part. by_part;
    statement_row_end = none refl;
    statement_row_more = λ _ part rest by_part by_rest. both (by_part) (by_rest);
    statement_null = λ pos semicolon. simple_go (stmt.Null pos semicolon);
    statement_assign = λ pos target becomes value semicolon. simple_go (stmt.Assign pos target becomes value semicolon);
    statement_call = λ pos called semicolon. simple_go (stmt.Call pos called semicolon);
    statement_exit = λ pos semicolon. simple_go (stmt.Exit pos semicolon);
    statement_exit_when = λ pos when_word condition semicolon. simple_go (stmt.ExitWhen pos when_word condition semicolon);
    statement_return = λ pos semicolon. simple_go (stmt.Return pos semicolon);
    statement_return_value = λ pos value semicolon. simple_go (stmt.ReturnValue pos value semicolon);
    statement_if = λ pos condition then_word _ body _ elsifs end end_if semicolon by_body by_elsifs. after (expr_events condition) (expr_silent numbers condition)
        (change (sym (append_nothing (declarations (lowered_stmts_box numbers body) ++ declarations (code_list (elsifs_row numbers elsifs))))) (λ a. (a, tt))
        (both (by_body) (by_elsifs)));
    statement_if_else = λ pos condition then_word _ body _ elsifs otherwise _ other end end_if semicolon by_body by_elsifs by_other. after (expr_events condition) (expr_silent numbers condition)
        (change (sym (append_assoc (declarations (lowered_stmts_box numbers body)) (declarations (code_list (elsifs_row numbers elsifs))) (declarations (lowered_stmts_box numbers other))))
        (λ a. ((a.0, a.1.0), a.1.1)) (both (by_body) (both (by_elsifs) (by_other))));
    statement_case = λ pos selecting is _ first _ rest end end_case semicolon by_first by_rest. after (expr_events selecting) (expr_silent numbers selecting) (both (by_first) (by_rest));
    statement_loop = λ pos _ body end end_loop semicolon by_body. by_body;
    statement_while = λ pos condition loop_word _ body end end_loop semicolon by_body. after (expr_events condition) (expr_silent numbers condition) (by_body);
    statement_for = λ pos parameter in_word reverse steps loop_word _ body end end_loop semicolon by_body. both (parameter_go parameter steps) (before (e.RegionCloses ∷ []) refl (by_body));
    statement_block = λ pos _ body end semicolon by_body. after (e.RegionOpens ∷ []) refl (before (e.RegionCloses ∷ []) refl (change refl (λ a. (tt, a)) (by_body)));
    statement_declare_block = λ pos items begin _ body end semicolon by_body. both (after (e.RegionOpens ∷ []) refl (items_go items)) (before (e.RegionCloses ∷ []) refl (by_body));
    statements_box_end = none refl;
    statements_box_more = λ _ part rest by_part. by_part;
    branches_end = none refl;
    branches_more = λ _ part rest by_part by_rest. both (by_part) (by_rest);
    branch_branch = λ pos condition then_word _ body by_body. after (expr_events condition) (expr_silent numbers condition) (by_body);
    alternative_box_end = none refl;
    alternative_box_more = λ _ part rest by_part. by_part;
    alternatives_end = none refl;
    alternatives_more = λ _ part rest by_part by_rest. both (by_part) (by_rest);
    alternative_alternative = λ pos first rest arrow _ body by_body. after (choice_events first) (choice_silent numbers first)
        (after (flat_map next_choice_events rest) (silent_each numbers next_choice_events (next_choice_silent numbers) rest) (by_body));
  }

  stmts_go : (tree : Stmts) → Walks (stmts_events tree) (lowered_stmts numbers tree)
  stmts_go = on_statements stmts_go_laws

  -- ---- subprograms

  formal_low : (first : Identifier) (rest : List NextIdentifier) (mark : Dotted) (now : Known)
      → AreFollowed numbers now (declares_all form.Formal first rest ++ (mention clause.Elsewhere mark ∷ (e.DeclarationsEnd ∷ [])))
      → IsLow (last_from 0 (declared_all numbers first rest)) (mark_of numbers mark)
  formal_low first rest mark now are =
      let s = followed_both (declares_all form.Formal first rest) (mention clause.Elsewhere mark ∷ (e.DeclarationsEnd ∷ [])) now are in
      mark_low clause.Elsewhere mark (last_from 0 (declared_all numbers first rest)) (known_behind_all now (declares_all form.Formal first rest))
      (all_long form.Formal formal_first first rest now s.0) s.1.0

  formal_go : (f : Formal) → Goes (formal_events f) (group_declarations (lowered_formal numbers f)) (IsLowGroup (lowered_formal numbers f)) []
  unfolding formal_events lowered_formal
  formal_go (formal.Moded pos first rest colon in_word out_word mark) =
      let bare = before (mention clause.Elsewhere mark ∷ (e.DeclarationsEnd ∷ [])) refl (all_as form.Formal first rest refl) in
      record { declared = bare.declared; bodied = bare.bodied; low = formal_low first rest mark }
  formal_go (formal.Anonymous pos first rest colon access access_constant designated) =
      change refl (λ a. tt) (before (mention clause.Elsewhere designated ∷ (e.DeclarationsEnd ∷ [])) refl (all_as form.Formal first rest refl))

  more_formals : (rest : List NextFormal)
      → Goes (flat_map next_formal_events rest) (formal_declarations (code_list (map (lowered_next_formal numbers) rest)))
      (AreLowGroups (code_list (map (lowered_next_formal numbers) rest))) []
  unfolding next_formal_events lowered_next_formal
  more_formals [] = none refl
  more_formals (next_formal.Semicolon pos part ∷ rest) = both (formal_go part) (more_formals rest)

  formals_go : (f : Option Formals) → Goes (each_of formals_events f) (formal_declarations (lowered_formals numbers f)) (AreLowGroups (lowered_formals numbers f)) []
  formals_go None = none refl
  formals_go (Some f) = both (formal_go f.first) (more_formals f.rest)

  subspec_go : (new : DeclarationForm) (spec : Subspec) (bs : List ℕ) → HasBodies ((new, front_number (lowered_subspec numbers spec)) ∷ []) bs
      → Goes (subspec_events new spec) ((new, front_number (lowered_subspec numbers spec)) ∷ front_declarations (lowered_subspec numbers spec))
      (IsLowFront (lowered_subspec numbers spec)) bs
  unfolding subspec_events lowered_subspec
  subspec_go new (subspec.Procedure pos id formals) bs bodied =
      let first : Goes (declares new id ∷ []) ((new, number_of numbers id) ∷ []) (Unit {0}) bs = record { declared = refl; bodied = bodied; low = λ now are. tt } in
      wider bs (λ n has. elim (Has-append_cases bs [] n has) [ inl here ↦ here | inr never ↦ absurd never ])
      (change refl (λ a. a.1) (both first (after (e.RegionOpens ∷ []) refl (before (e.OuterDeclarationsEnd ∷ []) refl (formals_go formals)))))
  subspec_go new (subspec.Function pos id formals return_word result) bs bodied =
      let first : Goes (declares new id ∷ []) ((new, number_of numbers id) ∷ []) (Unit {0}) bs = record { declared = refl; bodied = bodied; low = λ now are. tt } in
      wider bs (λ n has. elim (Has-append_cases bs [] n has) [ inl here ↦ here | inr never ↦ absurd never ])
      (change refl (λ a. a.1) (both first (after (e.RegionOpens ∷ []) refl (before (indication_events result ++ e.OuterDeclarationsEnd ∷ [])
      (silent_both numbers (indication_events result) (e.OuterDeclarationsEnd ∷ []) (indication_silent result) refl) (formals_go formals)))))

  same_form : (spec : Subspec) → outline.body_form spec ≡ body_form (lowered_subspec numbers spec)
  unfolding outline.body_form lowered_subspec
  same_form (subspec.Procedure pos id formals) = refl
  same_form (subspec.Function pos id formals return_word result) = refl

  closing_silent : (of : Identifier) (closing : Option Identifier) → declared_by numbers (e.RegionCloses ∷ closing_events of closing) ≡ []
  closing_silent of None = refl
  closing_silent of (Some id) = refl

  subprogram_go : (body : SubprogramBody) → Goes (subprogram_events body) (declarations (lowered_subprogram numbers body)) (AreLow (lowered_subprogram numbers body)) (bodies_in (lowered_subprogram numbers body))
  unfolding subprogram_events lowered_subprogram AreLow bodies_in
  subprogram_go body =
      let front : Code = lowered_subspec numbers body.spec in
      let n : ℕ = front_number front in
      let closing : List Event = e.RegionCloses ∷ closing_events (subspec_name body.spec) body.closing in
      let tail : Declarations = front_declarations front ++ (declarations (lowered_items numbers body.items) ++ declarations (lowered_stmts numbers body.stmts)) in
      change (ap (λ new. (new, n) ∷ tail) (same_form body.spec)) (λ a. (a.0, a.1.0, a.1.1))
      (both (subspec_go (outline.body_form body.spec) body.spec (n ∷ []) (λ new m has is. elim has [ inl same ↦ inl (ap (λ (x : DeclarationForm × ℕ). x.1) same) | inr never ↦ absurd never ]))
      (both (items_go body.items) (before closing (closing_silent (subspec_name body.spec) body.closing) (stmts_go body.stmts))))

  -- ---- units

  item_bodies : (others : Code) (i : Item) (n : ℕ) → Has (bodies_in others) n → Has (bodies_in (item_before numbers others i)) n
  unfolding item_before bodies_in
  item_bodies others (item.Use pos clause) n has = has
  item_bodies others (item.Pragma pos clause) n has = has
  item_bodies others declaration n has = Has-append_right (bodies_in (lowered_declaration numbers declaration)) (bodies_in others) n has

  decl_bodies : (others : Code) (d : Decl) (n : ℕ) → Has (bodies_in others) n → Has (bodies_in (decl_before numbers others d)) n
  unfolding decl_before bodies_in
  decl_bodies others (decl.OfItem pos declaration) n has = item_bodies others declaration n has
  decl_bodies others (decl.Subprogram pos spec mode semicolon) n has = has

  decl_then : {xs : List Event} (others : Code) {bs : List ℕ} (d : Decl) → Goes xs (declarations others) (AreLow others) bs
      → Goes (decl_events d ++ xs) (declarations (decl_before numbers others d)) (AreLow (decl_before numbers others d)) bs
  unfolding decl_events decl_before AreLow
  decl_then others (decl.OfItem pos declaration) f = item_then others declaration f
  decl_then others (decl.Subprogram pos spec mode semicolon) f =
      change refl (λ a. (tt, a.1)) (both (before (e.RegionCloses ∷ []) refl (subspec_go form.SubprogramDeclaration spec [] (no_body form.SubprogramDeclaration (front_number (lowered_subspec numbers spec)) refl))) f)

  decls_go : (decls : List Decl) → Walks (flat_map decl_events decls) (lowered_decls numbers decls)
  unfolding AreLow
  decls_go [] = none refl
  decls_go (d ∷ rest) = decl_then (lowered_decls numbers rest) d (decls_go rest)

  abbrev Holds : List Event → Code → Type 0
  Holds xs code = Goes xs (declarations code) (AreLow code) (bodies_in code)

  part_then : {xs : List Event} (others : Code) (p : BodyPart) → Holds xs others → Holds (body_part_events p ++ xs) (part_before numbers others p)
  unfolding body_part_events part_before AreLow bodies_in
  part_then others (part.Declared pos declaration) f = wider (bodies_in (decl_before numbers others declaration)) (decl_bodies others declaration) (decl_then others declaration f)
  part_then others (part.Completed pos body) f = both (subprogram_go body) f

  parts_go : (parts : List BodyPart) → Holds (flat_map body_part_events parts) (before_all (part_before numbers) parts)
  unfolding AreLow bodies_in
  parts_go [] = none refl
  parts_go (p ∷ rest) = part_then (before_all (part_before numbers) rest) p (parts_go rest)

  private_go : (p : Option PrivatePart) → Walks (each_of private_events p) (lowered_private numbers p)
  unfolding AreLow
  private_go None = none refl
  private_go (Some p) = after (e.PrivatePartBegins ∷ []) refl (decls_go p.decls)

  package_go : (whole : Package) → Holds (package_events whole) (lowered_package numbers whole)
  unfolding lowered_package AreLow bodies_in
  package_go whole =
      let closing : List Event = e.RegionCloses ∷ closing_events whole.name whole.closing in
      change refl (λ a. a.1)
      (both (one form.Package whole.name refl) (after (e.DeclarationsEnd ∷ (e.RegionOpens ∷ [])) refl
      (both (decls_go whole.visible) (before closing (closing_silent whole.name whole.closing) (private_go whole.private)))))

  package_body_go : (body : PackageBody) → Holds (package_body_events body) (lowered_package_body numbers body)
  unfolding lowered_package_body AreLow bodies_in
  package_body_go body =
      let closing : List Event = e.RegionCloses ∷ closing_events body.name body.closing in
      after (e.PackageBodyOpens (folded_identifier body.name) ∷ []) refl (before closing (closing_silent body.name body.closing) (parts_go body.parts))

  withs_silent : (ds : List Dotted) → declared_by numbers (map has_with ds) ≡ []
  withs_silent [] = refl
  withs_silent (d ∷ ds) = withs_silent ds

  with_silent : (c : Context) → declared_by numbers (with_events c) ≡ []
  unfolding with_events
  with_silent (context.With pos first rest semicolon) = withs_silent (first ∷ map next_dotted_name rest)
  with_silent _ = refl

  context_silent : (c : Context) → declared_by numbers (context_events c) ≡ []
  unfolding context_events
  context_silent (context.With pos first rest semicolon) = mentions_silent clause.With (first ∷ map next_dotted_name rest)
  context_silent (context.Use pos c) = use_silent c
  context_silent (context.Pragma pos c) = refl

  front_silent : (body_of : Option (List ℕ)) (clauses : List Context) → declared_by numbers (unit_front body_of clauses) ≡ []
  front_silent body_of clauses =
      silent_both numbers (flat_map with_events clauses) (flat_map context_events clauses) (silent_each numbers with_events with_silent clauses)
      (silent_each numbers context_events context_silent clauses)

  unit_go : (u : SourceUnit) → Holds (unit_events u) (lowered_unit numbers u)
  unfolding unit_events lowered_unit
  unit_go (unit.OfPackage pos clauses whole) = after (unit_front None clauses) (front_silent None clauses) (package_go whole)
  unit_go (unit.OfBody pos clauses body) = after (unit_front (Some (folded body.name)) clauses) (front_silent (Some (folded body.name)) clauses) (package_body_go body)
  unit_go (unit.OfSubprogram pos clauses body) = after (unit_front None clauses) (front_silent None clauses) (subprogram_go body)

  abbrev AllHold : List Event → List Code → Type 0
  AllHold xs units = Goes xs (flat_map declarations units) (AllLow units) (flat_map bodies_in units)

  file_goes : (units : List SourceUnit) (zs : List Event) (others : List Code) → AllHold zs others
      → AllHold (flat_map unit_events units ++ zs) (map (lowered_unit numbers) units ++ others)
  file_goes [] zs others f = f
  file_goes (u ∷ units) zs others f =
      subst (λ xs. AllHold xs (lowered_unit numbers u ∷ (map (lowered_unit numbers) units ++ others))) (sym (append_assoc (unit_events u) (flat_map unit_events units) zs))
      (both (unit_go u) (file_goes units zs others f))

  files_go : (files : List (List SourceUnit)) → AllHold (source_events files) (lowered_files numbers files)
  unfolding source_events lowered_files
  files_go [] = none refl
  files_go (f ∷ files) = file_goes f (flat_map (flat_map unit_events) files) (flat_map (map (lowered_unit numbers)) files) (files_go files)

  pub files_declared : (files : List (List SourceUnit)) → declared_by numbers (source_events files) ≡ flat_map declarations (lowered_files numbers files)
  files_declared files = let f = files_go files in f.declared

  pub files_bodied : (files : List (List SourceUnit)) → HasBodies (flat_map declarations (lowered_files numbers files)) (flat_map bodies_in (lowered_files numbers files))
  files_bodied files = let f = files_go files in f.bodied

  pub files_low : (files : List (List SourceUnit)) (now : Known) → AreFollowed numbers now (source_events files) → AllLow (lowered_files numbers files)
  files_low files = let f = files_go files in f.low
