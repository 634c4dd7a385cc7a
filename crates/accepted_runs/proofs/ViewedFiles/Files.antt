-- Borrowers and observers of files that break no rule are in order, and the runs of their program are sound where
-- nothing is reported, if it is of the class.
use Rattle.std.proofs.Common.{◌≡◌, refl, sym, ap, ◌∙◌, subst, ◌⊎◌, inl, inr, ℕ, suc, Bool, true, false, not, ◌&&◌, ◌||◌, List, [], ◌∷◌, get_or, Some, None}
use Rattle.std.proofs.lemmas.Bool.{true≢false, false≢true}
use Rattle.machine.specs.spark_base.declared.position.Pos.{Pos}
use Rattle.machine.specs.spark_base.Lists.{Has}
use Rattle.machine.specs.place_names.declared.act.Mode.{Mode}
use Rattle.machine.specs.place_names.declared.act.Mode.TheVariants as mode
use Rattle.ada_lexer.specs.Tokens.{Cut}
use Rattle.ada_tree.specs.declared.unit.SourceUnit.{SourceUnit}
use Rattle.name_events.specs.Outline.{source_events}
use Rattle.name_events.specs.Identified.{identified}
use Rattle.name_events.specs.Denotes.{known_of as names_known}
use Rattle.name_events.specs.Faults.{name_fault}
use Rattle.machine.specs.resolved_tree.declared.node.Mark.{Mark}
use Rattle.machine.specs.resolved_tree.Trees.{Code, Program}
use Rattle.typing_steps.specs.Programs.{program_of}
use Rattle.machine.specs.type_definitions.declared.table.Shape.{Shape}
use Rattle.machine.specs.type_definitions.declared.table.Shape.TheVariants as shape
use Rattle.machine.specs.type_definitions.declared.judgement.View.{View}
use Rattle.machine.specs.type_definitions.declared.judgement.View.TheVariants as view
use Rattle.machine.specs.type_definitions.Types.{Table, full, view_of, is_scalar, is_owning, owns_of, shape_of, words, words_of}
use Rattle.machine.specs.type_definitions.Entries.{integer, boolean, marked}
use Rattle.machine.specs.type_definitions.Expressions.{is_anonymous}
use Rattle.machine.specs.type_definitions.Whole.{outside, known_of, type_fault}
use Rattle.type_rules.proofs.Formed.{files_formed}
use Rattle.machine.specs.typed_tree.declared.object.Object.{Object}
use Rattle.machine.specs.typed_tree.declared.object.ObjectKind.{ObjectKind}
use Rattle.machine.specs.typed_tree.declared.object.ObjectKind.TheVariants as object_kind
use Rattle.machine.specs.typed_tree.Trees.{TypedTree, Name, Call as CallIn, NoMore, More}
use Rattle.machine.specs.typed_tree.Trees as typed_tree
use Rattle.machine.specs.typed_tree.Programs.{TypedSub, site_of, elaboration, typed_program}
use Rattle.machine.specs.flow_paths.declared.report.Effects.{Effects}
use Rattle.machine.specs.flow_paths.Effects.{AreEffects}
use Rattle.machine.specs.flow_paths.Instructions.{Instruction, Declare, Assign, Hold}
use Rattle.machine.specs.flow_paths.Objects.{Typing}
use Rattle.machine.specs.flow_paths.Objects as flow
use Rattle.machine.specs.flow_paths.Points.{FlowPoint}
use Rattle.machine.specs.flow_paths.Laid.{FlowSub, FlowProgram, flow_typing, flow_program}
use Rattle.machine.specs.flow_paths.Reports.{AreReports}
use Rattle.settled_types.specs.Orderly.{at_start, IsOrderly as IsInOrderText}
use Rattle.settled_types.specs.OrderlyFiles.Apart.{AreApart}
use Rattle.settled_types.specs.OrderlyFiles.Ended.{AllEnded}
use Rattle.settled_types.proofs.OrderlyFiles.Main.{files_in_order}
use Rattle.settled_types.specs.FilePositions.Order.{Ascends, event_positions}
use Rattle.settled_types.specs.FilePositions.Texts.{AreParsed}
use Rattle.settled_types.proofs.FilePositions.Ascending.{events_ascend}
use Rattle.settled_types.proofs.FilePositions.Main.{files_apart, files_ended}
use Rattle.sound_files.proofs.ReadyTypes.Files.{files_settled, files_own}
use Rattle.machine.specs.Words.{component_type, element_type, element_of}
use Rattle.settled_types.specs.GatheredLaws.Made.{IsMade}
use Rattle.settled_types.specs.GatheredLaws.Views.{AreViews}
use Rattle.settled_types.proofs.GatheredLaws.Parts as parts
use Rattle.settled_types.proofs.AnonymousTypes.Main as anonymous
use Rattle.soundness.specs.TypedLaws.Fine.{Laws, counts, lists}
use Rattle.soundness.specs.TypedLaws.TypedSteps.Steps.{AreTyped as AreStepsTyped}
use Rattle.soundness.specs.TypedLaws.TypedPoints.Meant.{AreMeantUnits, typing_meant}
use Rattle.machine.specs.Owners.{is_in, is_in_formal}
use Rattle.soundness.specs.Seen.{is_view_formal}
use Rattle.soundness.specs.Typed.{OwnsByShape}
use Rattle.soundness.proofs.Passing.{plain_type, signature_is}
use Rattle.soundness.specs.Sound.{Accepted, RunIsSound}
use Rattle.soundness.proofs.Points.{flow_table}
use Rattle.soundness.proofs.Typings.{Agree, flow_agrees}
use Rattle.soundness.specs.ViewedSoundness.Holds.{IsAccess, PartsAreNamed, is_given}
use Rattle.settled_types.specs.OrderLaws.ReadyLaws.InOrder.{IsInOrder, IsSub, AreAnswered, AreStill, ArePassed}
use Rattle.settled_types.proofs.OrderLaws.ReadyLaws.Actuals.{typed_passed}
use Rattle.settled_types.specs.OrderLaws.Orderly.{typed_of, typing_in, bodies_of, IsOrderly}
use Rattle.settled_types.proofs.OrderLaws.Accepted.{is_in_order}
use Rattle.settled_types.proofs.OrderLaws.Faults.{units_faultless}
use Rattle.settled_types.proofs.OrderLaws.PackageValues.Main.{packages_still}
use Rattle.sound_files.specs.SeenFiles.Reached.{IsObjectIn}
use Rattle.sound_files.proofs.SeenFiles.Files.{files_fit}
use Rattle.sound_files.proofs.SeenFiles.Entries.{known_keeps}
use Rattle.sound_files.proofs.SeenFiles.Main.{files_values_seen}
use Rattle.sound_files.specs.MeantFiles.Typed.{AreTyped}
use Rattle.sound_files.proofs.MeantFiles.Main.{files_denote}
use Rattle.sound_files.proofs.MeantFiles.Main as meant
use Rattle.sound_files.proofs.MeantFiles.Codes as codes
use Rattle.settled_types.proofs.OrderLaws.ScopeLaws.Lists.{and_second}
use Rattle.sound_files.proofs.Laws.{table_laws, files_declared, integers_scalar, truths_scalar}
use Rattle.sound_files.proofs.Called.{files_bodies}
use Rattle.sound_files.proofs.Mains.{main_formless}
use Rattle.sound_files.proofs.Functions.{functions_in}
use Rattle.sound_files.proofs.Shared.{functions_see, formals_differ}
use Rattle.sound_files.proofs.Declared.{declared_known, formals_apart}
use Rattle.sound_files.proofs.Owners.{modes_there, formals_wide, main_there}
use Rattle.sound_files.proofs.Classes.{are_answered}
use Rattle.sound_files.specs.TypedFiles.TypedRuns.Code.{IsTypedUse}
use Rattle.sound_files.proofs.TypedFiles.TypedRuns.Results.{results_there}
use Rattle.soundness.proofs.ViewedSoundness.Outcomes.{named_plain}
use Rattle.sound_files.proofs.TypedFiles.Main.{files_code, files_fine, files_steps, files_used, files_firsts, files_first}
use Rattle.sound_files.proofs.Main.{files_orderly}
use Rattle.viewed_steps.specs.Ready.{IsReady}
use Rattle.viewed_steps.proofs.Main.{ready_sound}
use Rattle.accepted_runs.specs.ViewedFiles.ViewLaws.InOrder.{AreViewsInOrder}
use Rattle.viewed_steps.specs.Traversals.{IsSourceName}
use Rattle.viewed_steps.specs.Sound.{IsScalarObject, IsKindOfFormal, IsStoredAt}
use Rattle.accepted_runs.specs.ViewedFiles.ViewLaws.Program.{PassActuals, TraversesNames, TakesView, IsViewProgram}
use Rattle.accepted_runs.proofs.ViewedFiles.ViewLaws.Ready.{views_ready}
use Rattle.accepted_runs.proofs.ViewedFiles.Sources.{scalar_plain}
use Rattle.accepted_runs.proofs.ViewedFiles.Variables.{named_variable}
use Rattle.accepted_runs.proofs.ViewedFiles.Passed.{actuals_passed, named_type}
use Rattle.accepted_runs.proofs.ViewedFiles.Stored.{are_stored}
use Rattle.accepted_runs.proofs.ViewedFiles.Traversals.{declares_view, assigns_view, holds_view, called_name, returns_source}
use Rattle.accepted_runs.proofs.ViewedFiles.Main.{IsGiven, views_in_order}

unnamed_access : (w : View) → flow.is_anonymous w ≡ true → flow.is_named_access w ≡ false
unnamed_access (view.Access d k true) e = unnamed k e
  where
    unnamed : (k : Bool) → flow.is_anonymous (view.Access d k true) ≡ true → flow.is_named_access (view.Access d k true) ≡ false
    unnamed true e = absurd (false≢true e)
    unnamed false e = absurd (false≢true e)
unnamed_access (view.Access d k false) e = refl
unnamed_access w e = absurd (false≢true e)

is_mode_in : (m : Mode) → is_in m ≡ true → m ≡ mode.In
is_mode_in mode.In e = refl
is_mode_in m e = absurd (false≢true e)

out_apart : mode.Out ≡ mode.In → ⊥
out_apart e = cc

both_apart : mode.InOut ≡ mode.In → ⊥
both_apart e = cc

number_of : (gs : List flow.Signature) (g : flow.Signature) → Has gs g → (n : ℕ) × (get_or gs n (record { formals = []; result = None }) ≡ g)
number_of [] g has = absurd has
number_of (z ∷ gs) g (inl same) = (0, same)
number_of (z ∷ gs) g (inr has) = (let found = number_of gs g has in (suc found.0, found.1))

heads : (x y : TypedSub) (xs ys : List TypedSub) → x ∷ xs ≡ y ∷ ys → x ≡ y
heads x y xs ys e = cc

tails : (x y : TypedSub) (xs ys : List TypedSub) → x ∷ xs ≡ y ∷ ys → xs ≡ ys
tails x y xs ys e = cc

same_anonymous : (w : View) → is_anonymous w ≡ false → flow.is_anonymous w ≡ false
same_anonymous (view.Access d k true) e = refl
same_anonymous (view.Access d k false) e = absurd (true≢false e)
same_anonymous w e = refl

and_false : (b : Bool) → b && false ≡ false
and_false true = refl
and_false false = refl

whole_named : (z : Shape) (d : ℕ) (c n : Bool) → counts z ≡ true → z ≡ shape.Access d c n → n ≡ true
whole_named (shape.Access e k m) d c n whole is = absurd (false≢true whole)
whole_named z d c n whole is = cc

formal_kind : (k : ObjectKind) → flow.is_formal_kind k ≡ true → flow.is_variable k ≡ true → ⊥
formal_kind object_kind.Formal e f = cc
formal_kind k e f = absurd (false≢true e)

module _ (files : List (List SourceUnit)) where
  abbrev p : Program
  p = program_of files

  abbrev table : Table
  table = (known_of p).table

  abbrev flow_of_files : FlowProgram
  flow_of_files = flow_program table (typed_of p)

  abbrev wide : Typing
  wide = flow_typing flow_of_files

  module _ (apart : AreApart (identified files)) (ended : AllEnded at_start p.units) (up : Ascends (event_positions (source_events files))) (named : name_fault files ≡ None)
      (no_fault : type_fault p ≡ None) where
    in_order_text : IsInOrderText p
    in_order_text = files_in_order files apart ended

    pub files_views : AreViews p.units table
    files_views = anonymous.are_views p (files_formed (identified files) files) in_order_text no_fault (meant.files_apart files up named)

    laws : Laws (known_of p) (IsMade p.units)
    laws = table_laws files apart ended up named no_fault files_views

    declared : (u : Code) → Has p.units u → AreTyped (IsMade p.units) (outside (known_of p)) u
    declared = files_declared files apart ended up named no_fault files_views

    meant_units : AreMeantUnits (known_of p) (IsMade p.units) p.units
    meant_units =
        codes.files_meant (identified files) (typing_meant (known_of p) p.units) (IsMade p.units) (site_of (known_of p) p.units) files (files_denote files up named) declared

    marks : (m : Mark) → flow.is_anonymous (full table (marked (known_of p) m)) ≡ false
    marks m = same_anonymous (full table (marked (known_of p) m)) (anonymous.mark_plain p (files_formed (identified files) files) in_order_text no_fault (meant.files_apart files up named) m)

    -- ---- types

    component_named : (t i d : ℕ) (c n : Bool) → shape_of table (component_type table t i) ≡ shape.Access d c n → n ≡ true
    component_named t i = parts.component_named p (files_formed (identified files) files) in_order_text no_fault files_views t i

    target_named : (t d : ℕ) (c n : Bool) → shape_of table t ≡ shape.Access d c n → (e : ℕ) (b k : Bool) → shape_of table d ≡ shape.Access e b k → k ≡ true
    target_named t d c n is = parts.target_named p (files_formed (identified files) files) in_order_text no_fault files_views t d c n is

    integer_named : (d : ℕ) (c n : Bool) → shape_of table integer ≡ shape.Access d c n → n ≡ true
    integer_named d c n is = whole_named (shape_of table integer) d c n laws.whole is

    element_named : (t d : ℕ) (c n : Bool) → shape_of table (element_type table t) ≡ shape.Access d c n → n ≡ true
    element_named t d c n = by (shape_of table t) refl
      where
        by : (z : Shape) → shape_of table t ≡ z → shape_of table (element_of z) ≡ shape.Access d c n → n ≡ true
        by (shape.Elements low high of) is = parts.array_named p (files_formed (identified files) files) in_order_text no_fault files_views t of low high is d c n
        by z is = integer_named d c n

    parts_named : PartsAreNamed table
    parts_named = record { component = component_named; element = element_named; designated = target_named }

    -- ---- views

    module _ (main : ℕ) (is_main : (typed_of p).main ≡ Some main) where
      orderly : IsOrderly p
      orderly = files_orderly files apart ended up named no_fault files_views main is_main

      given : IsGiven p (IsMade p.units) laws (IsObjectIn (names_known files))
      given = record {
        marks = marks;
        formals = orderly.formals;
        written = orderly.written;
        once = orderly.once;
        meant = meant_units;
        typed = declared;
        none = units_faultless p no_fault;
        names = known_keeps (IsObjectIn (names_known files)) p (files_fit files up named);
        fits = files_fit files up named;
        values = files_values_seen files up named orderly.once;
        declared = declared_known p (IsMade p.units) declared;
        apart = formals_apart p (IsMade p.units) declared;
      }

      -- Borrowers and observers are in order.
      pub files_views_in_order : AreViewsInOrder table (typed_of p) (elaboration (site_of (known_of p) p.units) p.units) (bodies_of p)
      files_views_in_order = views_in_order p (IsMade p.units) laws (IsObjectIn (names_known files)) given

    -- ---- programs

    subs_are : (typed_of p).subs ≡ elaboration (site_of (known_of p) p.units) p.units ∷ bodies_of p
    unfolding typed_program
    subs_are = refl

    -- The program is ready,
    module _ (main : ℕ) (is_main : (typed_of p).main ≡ Some main) (effects : Effects) (are : AreEffects flow_of_files effects) (none : AreReports flow_of_files effects []) where
      accepted : Accepted table (typed_of p) effects
      accepted = record {
        no_reports = none;
        effects_are = are;
        settled = files_settled files apart ended no_fault (typed_of p);
        fine = files_fine files apart ended up named no_fault;
      }

      owns : OwnsByShape flow_of_files.table
      owns = files_own files apart ended no_fault (typed_of p)

      text_orderly : IsOrderly p
      text_orderly = files_orderly files apart ended up named no_fault files_views main is_main

      order : IsInOrder table (typed_of p)
      order = is_in_order p effects no_fault accepted (subst OwnsByShape (flow_table table (typed_of p)) owns) text_orderly

      rest_is : bodies_of p ≡ order.rest
      rest_is = tails _ _ _ _ (sym subs_are ∙ order.subs)

      first_is : elaboration (site_of (known_of p) p.units) p.units ≡ order.first
      first_is = heads _ _ _ _ (sym subs_are ∙ order.subs)

      views_here : AreViewsInOrder table (typed_of p) order.first order.rest
      views_here =
          subst (λ first. AreViewsInOrder table (typed_of p) first order.rest) first_is
          (subst (λ rest. AreViewsInOrder table (typed_of p) (elaboration (site_of (known_of p) p.units) p.units) rest) rest_is (files_views_in_order main is_main))

      same_table : table ≡ flow_of_files.table
      same_table = sym (flow_table table (typed_of p))

      typed : AreStepsTyped flow_of_files
      typed = files_steps files apart ended up named no_fault

      truths : is_scalar (full table boolean) ≡ true
      truths = truths_scalar files apart ended up named no_fault files_views

      integers : is_scalar (full table integer) ≡ true
      integers = integers_scalar files apart ended up named no_fault files_views

      used : (sub : FlowSub) → Has flow_of_files.subs sub → (q : FlowPoint) → Has sub.points q → IsTypedUse wide sub.result q.instr
      used = files_used files apart ended up named no_fault

      passed : ArePassed flow_of_files
      passed =
          typed_passed flow_of_files (subst (λ (rows : Table). counts (shape_of rows integer) ≡ true) same_table laws.whole)
          (subst (λ (rows : Table). lists (shape_of rows boolean) ≡ true) same_table laws.listed)
          (subst (λ (rows : Table). (t : ℕ) → words rows t ≡ words_of (words rows) (shape_of rows t)) same_table laws.word_law) typed

      parts_here : PartsAreNamed flow_of_files.table
      parts_here = subst PartsAreNamed same_table parts_named

      still : AreStill table (typed_of p) order.first
      still = subst (AreStill table (typed_of p)) first_is (packages_still p no_fault text_orderly.written)

      -- ---- objects of anonymous access types

      alike : Agree wide (typing_in p)
      alike = flow_agrees table (typed_of p)

      -- one that is no temporary is a variable, or a formal of mode `in`
      local_there : (x : ℕ) → flow.is_formal wide x ≡ true ⊎ (flow.object_at wide x ≡ flow.object_at (typing_in p) x) → flow.is_anonymous (flow.view_of wide x) ≡ true
          → (flow.is_variable (flow.object_at wide x).kind ≡ true) ⊎ (is_in_formal wide x ≡ true)
      local_there x which view = by (same_object which)
        where
          same_object : flow.is_formal wide x ≡ true ⊎ (flow.object_at wide x ≡ flow.object_at (typing_in p) x) → flow.object_at wide x ≡ flow.object_at (typing_in p) x
          same_object (inr same) = same
          same_object (inl is) = elim (alike.object x) [
            | inl same ↦ same
            | inr others ↦ absurd (false≢true (sym others.0.1 ∙ is))
          ]

          by : flow.object_at wide x ≡ flow.object_at (typing_in p) x → (flow.is_variable (flow.object_at wide x).kind ≡ true) ⊎ (is_in_formal wide x ≡ true)
          by same =
              let here = views_here.local x (sym (λ j. flow.is_anonymous (full (alike.table j) (same j).of)) ∙ view) in
              elim here.0 [
                | inl variable ↦ inl (ap (λ (o : Object). flow.is_variable o.kind) same ∙ variable)
                | inr formal ↦ inr (ap (λ (o : Object). flow.is_formal_kind o.kind && is_in o.mode) same ∙ formal)
              ]

      -- ---- formals

      no_back : (x : ℕ) → flow.is_formal wide x ≡ true → flow.is_anonymous (flow.view_of wide x) ≡ true → is_in_formal wide x ≡ true
      no_back x is view = elim (local_there x (inl is) view) [
        | inl variable ↦ absurd (formal_kind (flow.object_at wide x).kind is variable)
        | inr formal ↦ formal
      ]

      kinds : (x : ℕ) → flow.is_formal wide x ≡ true → IsKindOfFormal wide x
      kinds x is = by (flow.object_at wide x).mode refl
        where
          of_in : (flow.object_at wide x).mode ≡ mode.In → is_in_formal wide x ≡ true
          of_in in_mode = ap (λ b. b && is_in (flow.object_at wide x).mode) is ∙ ap is_in in_mode

          owner : (flow.object_at wide x).mode ≡ mode.In → (o : Bool) → is_owning wide.table (flow.object_at wide x).of ≡ o → (a : Bool) → flow.is_anonymous (flow.view_of wide x) ≡ a → IsKindOfFormal wide x
          owner in_mode true owns a view =
              let shown : is_view_formal wide x ≡ true = ap (λ b. b && is_owning wide.table (flow.object_at wide x).of) (of_in in_mode) ∙ owns in
              inr (inr (inl (ap (λ b. b || (is_in_formal wide x && flow.is_anonymous (flow.view_of wide x))) shown)))
          owner in_mode false none true view =
              let seen : is_given wide x ≡ true
              = ap (λ b. (is_in_formal wide x && b) || (is_in_formal wide x && flow.is_anonymous (flow.view_of wide x))) none
              ∙ ap (λ b. (b && false) || (b && flow.is_anonymous (flow.view_of wide x))) (of_in in_mode) ∙ view in
              inr (inr (inl seen))
          owner in_mode false none false view = inr (inr (inr (in_mode, none, named_type (shape_of wide.table (flow.object_at wide x).of) view)))

          back : (m : Mode) → (flow.object_at wide x).mode ≡ m → (m ≡ mode.In → ⊥) → IsKindOfFormal wide x
          back m at other = inr (inl ((λ in_mode. other (sym at ∙ in_mode)), named_type (shape_of wide.table (flow.object_at wide x).of) (by_view (flow.is_anonymous (flow.view_of wide x)) refl)))
            where
              by_view : (b : Bool) → flow.is_anonymous (flow.view_of wide x) ≡ b → flow.is_anonymous (flow.view_of wide x) ≡ false
              by_view false e = e
              by_view true e = absurd (other (sym at ∙ is_mode_in (flow.object_at wide x).mode (and_second (flow.is_formal wide x) (is_in (flow.object_at wide x).mode) (no_back x is e))))

          by : (m : Mode) → (flow.object_at wide x).mode ≡ m → IsKindOfFormal wide x
          by mode.In at = owner at (is_owning wide.table (flow.object_at wide x).of) refl (flow.is_anonymous (flow.view_of wide x)) refl
          by mode.Out at = back mode.Out at out_apart
          by mode.InOut at = back mode.InOut at both_apart

      -- a formal of a scalar type owns nothing
      scalar_none : (x : ℕ) → IsScalarObject wide x → is_view_formal wide x ≡ false
      scalar_none x plain = ap (λ b. is_in_formal wide x && b) (plain_type wide owns (flow.object_at wide x).of plain) ∙ and_false (is_in_formal wide x)

      scalar_ungiven : (x : ℕ) → IsScalarObject wide x → is_given wide x ≡ true → ⊥
      scalar_ungiven x plain given =
          (let none : is_given wide x ≡ false
          = ap (λ b. b || (is_in_formal wide x && flow.is_anonymous (flow.view_of wide x))) (scalar_none x plain)
          ∙ ap (λ b. is_in_formal wide x && b) (scalar_plain (flow.view_of wide x) plain) ∙ and_false (is_in_formal wide x) in
          true≢false (sym given ∙ none))

      modes : (n t : ℕ) → (flow.sub_at wide n).result ≡ Some t → (x : ℕ) → Has (flow.sub_at wide n).formals x → (flow.object_at wide x).mode ≡ mode.In
      modes = modes_there p (functions_in p (units_faultless p no_fault) text_orderly.once)

      -- what a procedure is shown of an access type is of a named access-to-variable type
      procedures : (n : ℕ) → (flow.sub_at wide n).result ≡ None → (x : ℕ) → Has (flow.sub_at wide n).formals x
          → flow.is_formal wide x ≡ true → is_view_formal wide x ≡ true → IsAccess wide x → flow.is_named_access (flow.view_of wide x) ≡ true
      procedures n result x has formal view (d, c, k, is) =
          let named : k ≡ true = sym (owns (flow.object_at wide x).of ∙ ap (owns_of (is_owning wide.table)) is)
          ∙ and_second (is_in_formal wide x) (is_owning wide.table (flow.object_at wide x).of) view in
          let variable : c ≡ false = named_variable p (flow.object_at wide x).of d c k (ap (λ (rows : Table). shape_of rows (flow.object_at wide x).of) same_table ∙ is) named in
          ap (λ z. flow.is_named_access (view_of z)) is ∙ ap (λ b. b && not c) named ∙ ap not variable

      passes : PassActuals flow_of_files
      passes =
          actuals_passed flow_of_files (subst (λ (rows : Table). counts (shape_of rows integer) ≡ true) same_table laws.whole)
          (subst (λ (rows : Table). lists (shape_of rows boolean) ≡ true) same_table laws.listed)
          (subst (λ (rows : Table). (t : ℕ) → words rows t ≡ words_of (words rows) (shape_of rows t)) same_table laws.word_law) owns used
          (formals_differ p text_orderly.once) (files_firsts files apart ended up named no_fault)

      -- ---- traversal functions

      first_there : (n : ℕ) → flow.traverses wide.table (flow.sub_at wide n).result ≡ true
          → (f : ℕ) × (rest : List ℕ) × ((flow.sub_at wide n).formals ≡ f ∷ rest) × (is_given wide f ≡ true) × IsAccess wide f
      first_there n gives =
          let found = files_first files apart ended up named no_fault n gives in
          let has : Has (flow.sub_at wide n).formals found.0 = subst (λ fs. Has fs found.0) (sym found.2) (inl refl) in
          let of_in : is_in_formal wide found.0 ≡ true = ap (λ b. b && is_in (flow.object_at wide found.0).mode) (known_formal n found.0 has) ∙ ap is_in found.3 in
          (found.0, found.1, found.2, access_given found.0 of_in found.4 found.5 found.6 found.7, (found.4, found.5, found.6, found.7))
        where
          known_formal : (n x : ℕ) → Has (flow.sub_at wide n).formals x → flow.is_formal wide x ≡ true
          known_formal = formals_wide p (λ sub among x has. text_orderly.formals sub among x has)

          access_given : (x : ℕ) → is_in_formal wide x ≡ true → (d : ℕ) (c k : Bool) → shape_of wide.table (flow.object_at wide x).of ≡ shape.Access d c k → is_given wide x ≡ true
          access_given x of_in d c true is =
              ap (λ b. b || (is_in_formal wide x && flow.is_anonymous (flow.view_of wide x)))
              (ap (λ b. b && is_owning wide.table (flow.object_at wide x).of) of_in ∙ owns (flow.object_at wide x).of ∙ ap (owns_of (is_owning wide.table)) is)
          access_given x of_in d c false is = either_true (is_view_formal wide x) (is_in_formal wide x && flow.is_anonymous (flow.view_of wide x))
              (ap (λ b. b && flow.is_anonymous (flow.view_of wide x)) of_in ∙ ap (λ z. flow.is_anonymous (view_of z)) is ∙ unnamed c)
            where
              unnamed : (c : Bool) → flow.is_anonymous (view.Access d c false) ≡ true
              unnamed true = refl
              unnamed false = refl

              either_true : (a b : Bool) → b ≡ true → a || b ≡ true
              either_true true b e = refl
              either_true false b e = e

      traverse : TraversesNames flow_of_files
      traverse sub has q there n actuals result is gives =
          let from : flow.traverses wide.table (flow.sub_at wide n).result ≡ true
          = ap (λ (z : flow.Signature). flow.traverses wide.table z.result) (signature_is flow_of_files n) ∙ gives in
          let first = first_there n from in
          let taking = subst (λ i. IsTypedUse wide sub.result i) is (used sub has q there) in
          let name = called_name wide sub.result n actuals result taking from first.0 first.1 first.2 in
          (name.0, name.1, name.2, name.3, name.4, name.5)

      stored : (sub : FlowSub) → Has flow_of_files.subs sub → (q : FlowPoint) → Has sub.points q → (x : ℕ) → IsStoredAt q.instr x → flow.is_anonymous (flow.view_of wide x) ≡ true
          → flow.is_variable (flow.object_at wide x).kind ≡ true
      stored = are_stored table (typed_of p) effects accepted order views_here.declared
          (λ x view. unnamed_access (flow.view_of wide x) view) (λ x view. (views_here.local x view).0) still

      take : (sub : FlowSub) → Has flow_of_files.subs sub → (q : FlowPoint) → Has sub.points q → TakesView wide sub.result q.instr
      take sub has q there = by q.instr (used sub has q there)
        where
          by : (i : Instruction) → IsTypedUse wide sub.result i → TakesView wide sub.result i
          by (Declare x (More (CallIn k n a) rest)) taking = λ gives. declares_view wide parts_here sub.result x k n a rest taking gives
          by (Assign (Name r x path u) (CallIn k n a)) taking = λ gives.
              (let found = assigns_view wide parts_here sub.result r x path u k n a taking gives in
              let target : Name r x path u ≡ Name r x NoMore u = ap (λ z. Name r x z u) found.0 in (r, x, u, target, found.2, found.3))
          by (Assign target (CallIn k n a)) taking = λ gives. absurd (taking.0.1)
          by (Hold (More (CallIn k n a) rest)) taking = λ gives. holds_view wide parts_here sub.result k n a rest taking gives
          by i taking = tt

      returned : (sub : FlowSub) → Has flow_of_files.subs sub → (q : FlowPoint) → Has sub.points q → (e last : TypedTree) → q.instr ≡ Hold (More e last)
          → (of : ℕ) → sub.result ≡ Some of → flow.is_anonymous (full flow_of_files.table of) ≡ true
          → (e ≡ typed_tree.Null) ⊎ ((r : Pos) × (y : ℕ) × (path : TypedTree) × (u : ℕ) × IsSourceName wide of e r y path u)
      returned sub has q there e last is of result view =
          returns_source wide sub.result e last of (subst (λ i. IsTypedUse wide sub.result i) is (used sub has q there)) result view
          (λ n gives. (let first = first_there n gives in (first.0, first.1, first.2)))

      main_in : IsSub (bodies_of p) order.number order.main
      main_in = subst (λ rest. IsSub rest order.number order.main) (sym rest_is) order.stands

      view_program : IsViewProgram table (typed_of p) effects
      view_program = record {
        accepted = accepted;
        owns = owns;
        parts_named = subst PartsAreNamed same_table parts_named;
        integers = subst (λ (rows : Table). is_scalar (full rows integer) ≡ true) same_table integers;
        truths = subst (λ (rows : Table). is_scalar (full rows boolean) ≡ true) same_table truths;
        formals = kinds;
        functions = λ n t result x has formal is. functions_see p text_orderly.once n t x result has;
        modes = modes;
        procedures = procedures;
        order = order;
        results = λ sub has.
            results_there p laws.owns integers truths (λ t i. named_plain table (component_type table t i) (component_named t i))
            (λ t. named_plain table (element_type table t) (element_named t)) (λ t d c n is. named_plain table d (target_named t d c n is))
            (files_firsts files apart ended up named no_fault) (formals_differ p text_orderly.once) (files_code files apart ended up named no_fault) sub
            (subst (λ subs. Has subs sub) (sym order.subs) (inr has));
        answered = subst (AreAnswered table (typed_of p)) rest_is (are_answered p (files_bodies files up named) typed);
        passes = passes;
        passed = passed;
        main_plain = main_there p order.number order.main main_in (main_formless p no_fault text_orderly.written order.number order.main order.is_main main_in);
        still = still;
        views = views_here;
        firsts = files_firsts files apart ended up named no_fault;
        first = first_there;
        traverse = traverse;
        take = take;
        returned = returned;
        stored = stored;
      }

      pub files_called_ready : IsReady table (typed_of p) effects
      files_called_ready = views_ready table (typed_of p) effects view_program

      -- so each moment of each run is well owned, and none is a trap.
      pub files_called_sound : (input : List ℕ) → RunIsSound table (typed_of p) input
      files_called_sound input = ready_sound table (typed_of p) effects input files_called_ready

  -- So it is if the files are parsed from texts: then their positions are as in a text.
  pub parsed_called_ready : (texts : List (List Cut)) → AreParsed 0 texts files → name_fault files ≡ None → type_fault p ≡ None → (main : ℕ) → (typed_of p).main ≡ Some main
      → (effects : Effects) → AreEffects flow_of_files effects → AreReports flow_of_files effects [] → IsReady table (typed_of p) effects
  parsed_called_ready texts parsed named no_fault =
      files_called_ready (files_apart texts files parsed) (files_ended (identified files) texts files parsed) (events_ascend texts files parsed) named no_fault

  pub parsed_called_sound : (texts : List (List Cut)) → AreParsed 0 texts files → name_fault files ≡ None → type_fault p ≡ None → (main : ℕ) → (typed_of p).main ≡ Some main
      → (effects : Effects) → AreEffects flow_of_files effects → AreReports flow_of_files effects [] → (input : List ℕ) → RunIsSound table (typed_of p) input
  parsed_called_sound texts parsed named no_fault =
      files_called_sound (files_apart texts files parsed) (files_ended (identified files) texts files parsed) (events_ascend texts files parsed) named no_fault
