-- A call leads on, in the frame of what is called.
use Rattle.std.proofs.Common.{◌≡◌, refl, sym, ap, ◌∙◌, subst, ◌⊎◌, inl, inr, ℕ, suc, ◌<◌, true, false, ◌==◌, List, [], ◌∷◌, ◌++◌, take, drop, length, arith, Option, Some, None, Bool, ◌||◌}
use Rattle.std.proofs.lemmas.Bool.{false≢true}
use Rattle.machine.specs.spark_base.Lists.{Has}
use Rattle.machine.specs.place_names.declared.act.Act.{Act}
use Rattle.machine.specs.place_names.declared.act.Act.TheVariants as act
use Rattle.machine.specs.place_names.declared.act.Placed.{Placed}
use Rattle.machine.specs.place_names.declared.fact.Fact.{Fact}
use Rattle.machine.specs.place_names.declared.fact.Fact.TheVariants.{Moved, Lent}
use Rattle.machine.specs.place_names.declared.rule.Loan.{Loan}
use Rattle.machine.specs.place_names.declared.rule.Loan.TheVariants.{Observed}
use Rattle.machine.specs.place_names.Names.{Name as PlaceName, overlaps}
use Rattle.machine.specs.place_names.declared.act.Mode.TheVariants as mode
use Rattle.machine.specs.type_definitions.Types.{Table, full, is_scalar, is_owning}
use Rattle.machine.specs.typed_tree.Trees.{TypedTree, More}
use Rattle.machine.specs.typed_tree.Programs.{TypedProgram}
use Rattle.machine.specs.flow_paths.declared.report.Effects.{Effects}
use Rattle.machine.specs.flow_paths.Instructions.{Call}
use Rattle.machine.specs.flow_paths.Objects.{Typing, object_at, is_anonymous, is_package_object, view_of, Passing}
use Rattle.machine.specs.place_names.Reports.{Report}
use Rattle.machine.specs.flow_paths.Aliases.{overlap_reports}
use Rattle.machine.specs.flow_paths.Aliases as alias
use Rattle.machine.specs.flow_paths.Acts as flow
use Rattle.machine.specs.flow_paths.Views.{traversed_formal}
use Rattle.machine.specs.flow_paths.Points.{NamedPoint}
use Rattle.machine.specs.flow_paths.Laid.{FlowSub, FlowProgram, NamedSub, flow_sub, typing_of, flow_typing, flow_program, flow_named}
use Rattle.machine.specs.flow_paths.Paths.{facts_before}
use Rattle.machine.specs.flow_paths.Effects.{path_points, globals_of}
use Rattle.machine.specs.flow_paths.Scopes.{taken, brought, scope_behind, is_within, Leads}
use Rattle.machine.specs.Words as machine
use Rattle.machine.specs.Memory as memory
use Rattle.machine.specs.Memory.{Place}
use Rattle.machine.specs.Evaluate.{Now}
use Rattle.machine.specs.States.{Frame, sub_of}
use Rattle.machine.specs.Step.{Turn, start, successor}
use Rattle.machine.specs.Step as steps
use Rattle.machine.specs.Calls.{Passed, all_passed}
use Rattle.machine.specs.Owners.{waiting_in}
use Rattle.machine.specs.place_names.declared.act.Mode.TheVariants as mode
use Rattle.soundness.specs.OwnedWays.Ways.{Step, Way, after, AllowsAll, Past}
use Rattle.soundness.specs.OwnedWays.Ways as ways
use Rattle.soundness.proofs.OwnedWays.Locations.{reaches_along, named_along as rooted_along, past_under, under_along, under_itself}
use Rattle.soundness.specs.Seen.{IsNear, content, seen, home, trunk, word_in}
use Rattle.soundness.proofs.OwnedWays.Named.{longer}
use Rattle.soundness.proofs.OwnedWays.Dropped.{named_base}
use Rattle.soundness.proofs.Contents.{word_root}
use Rattle.soundness.specs.Typed.{Kept}
use Rattle.soundness.specs.Sound.{Stage, facts_of, Uses, InScope, IsAtPoint, view_of as view_here}
use Rattle.soundness.proofs.Stays.{Quiet}
use Rattle.soundness.proofs.Numbers.{index_law}
use Rattle.soundness.proofs.Scalars.{acts}
use Rattle.soundness.proofs.Points.{flow_at, sub_in_range, one_named, one_point}
use Rattle.soundness.proofs.Inherited.{after_splits, AreGlobal, global_after, global_allowed, global_apart, Splits}
use Rattle.soundness.proofs.Used.{used_global, globals_are}
use Rattle.soundness.proofs.Around.{IsFar}
use Rattle.soundness.proofs.Eased.{eased}
use Rattle.soundness.proofs.Scoped.{Inside}
use Rattle.soundness.specs.OwnedLoans.Views.{expand, Around, known_gone, Views, Viewed, AreViews, AreClear as FactsAreClear, ViewedAlone}
use Rattle.soundness.proofs.OwnedLoans.Ways.{under_on}
use Rattle.soundness.proofs.OwnedLoans.Meeting.{no_part, stands}
use Rattle.soundness.proofs.OwnedLoans.Moves.{expand_under, view_on, own_loan, reached, lends_on}
use Rattle.soundness.proofs.ViewedSoundness.ViewKinds.{true_false}
use Rattle.soundness.specs.ViewedSoundness.Holds.{Holds, is_view, IsOwners, Seeing}
use Rattle.soundness.specs.Ready.{IsSupplied, Fills}
use Rattle.viewed_steps.specs.Awaited.{AreValuesBut, temporaries_of, lasting_of, awaited, WaitsAt, AreOwnless, TakesPassed, FillsTyped}
use Rattle.viewed_steps.proofs.Waited.{late_scope, within_lasting, lasting_more, Shares}
use Rattle.viewed_steps.specs.Sound.{IsCopiedBack, ArePlaced, ViewStage, GoneElsewhere, Disturbs, IsKindOfFormal, IsScalarObject}
use Rattle.viewed_steps.specs.Ready.{IsReady, roots_passed, IsCalled, IsTraversalCall}
use Rattle.viewed_steps.proofs.Followed.{IsTraversing}
use Rattle.viewed_steps.specs.Taken.{Lodge, IsPassedOn}
use Rattle.viewed_steps.proofs.Lent.{Spare, loans_stay}
use Rattle.viewed_steps.proofs.Placed.{within_on, lasts_more, scope_on, placed_on}
use Rattle.viewed_steps.proofs.Waiting.{StandsBetween, gone_low, beside_them, handed}
use Rattle.viewed_steps.proofs.Between.{base_along, base_under, same_variable, not_named, Begins, OwnersStand}
use Rattle.viewed_steps.proofs.Called.{AreGiven, all_given, passes_to, spare_copies}
use Rattle.viewed_steps.proofs.Acted.{all_laid_out, all_acted}
use Rattle.viewed_steps.proofs.Aside.{names_off}
use Rattle.viewed_steps.proofs.LaidOut.{AreLaidOut, outs_of, cells_of, AreOpenActuals}
use Rattle.viewed_steps.proofs.Outs.{Out, IsUnderOne}
use Rattle.viewed_steps.proofs.Entered.{ArePassedOn, AreBlank, not_above, passed_base, from_taken, passed_pair}
use Rattle.viewed_steps.proofs.Passed.{IsNamedBy, all_passed_on, apart_or}
use Rattle.viewed_steps.proofs.Cells.{passed_apart, passed_formal, IsCellNamed, named_before, cells_named}
use Rattle.viewed_steps.proofs.Standing.{or_right}
use Rattle.viewed_steps.proofs.Uses.{lent_spared}
use Rattle.viewed_steps.proofs.Standing as standing
use Rattle.viewed_steps.proofs.Packages as packages
use Rattle.viewed_steps.proofs.Innermost as innermost
use Rattle.viewed_steps.proofs.Views.{AreAccess, AreFar, lies_far, AreLowFormals}
use Rattle.viewed_steps.proofs.Seeing.{AreClear}
use Rattle.viewed_steps.proofs.Followed as followed
use Rattle.viewed_steps.proofs.Traversing.{all_traversed}
use Rattle.viewed_steps.proofs.Exclusive.{ChangesLent, AreLent}
use Rattle.soundness.proofs.OwnedWays.Unique.{one_way}
use Rattle.viewed_steps.proofs.Bared.{not_before}
use Rattle.viewed_steps.proofs.CallActs as acting
use Rattle.viewed_steps.proofs.Emptied.{fewer_clear}
use Rattle.viewed_steps.proofs.Handed.{gone_lent, with_gone}
use Rattle.viewed_steps.proofs.Inherited.{after_more}
use Rattle.soundness.proofs.Lists.{Has-append_left, Has-append_right}
use Rattle.viewed_steps.proofs.Stilled.{still, lent_only, still_viewed}
use Rattle.viewed_steps.proofs.Supplied.{SuppliesAll, supplies_each}
use Rattle.viewed_steps.specs.Seeing.{sees_in}
use Rattle.viewed_steps.proofs.Sees.{sees_seeing}
use Rattle.viewed_steps.proofs.Constructors.{is_of_cell_base}
use Rattle.viewed_steps.proofs.InnerFrame.{InnerFrame}
use Rattle.soundness.proofs.Parted.{by_either}

same_cell : {a b : ℕ} → memory.OfCell a ≡ memory.OfCell b → a ≡ b
same_cell e = cc

module _ (table : Table) (typed : TypedProgram) (effects : Effects) (input : List ℕ) (ready : IsReady table typed effects) where
  abbrev sees : ℕ → Bool
  sees = sees_in (flow_program table typed)

  abbrev seeing : Seeing (flow_typing (flow_program table typed)) sees
  seeing = sees_seeing (flow_program table typed)

  abbrev program : FlowProgram
  program = flow_program table typed

  abbrev s : Typing
  s = flow_typing program

  abbrev own : Typing
  own = typing_of table typed

  abbrev in_formals : AreAccess s
  in_formals = standing.in_formals table typed effects input ready

  abbrev local : (x : ℕ) → is_view s x ≡ true → is_package_object s x ≡ false
  local = standing.local table typed effects input ready

  abbrev unmoved_stage : (e : Stage) → e.frame.sub ≡ 0 → (name : PlaceName) → Has (facts_of program effects e) (Moved name) → ⊥
  unmoved_stage = packages.unmoved_stage table typed effects input ready

  module _ (inner : InnerFrame table typed effects) where
    abbrev outer : List Frame
    outer = inner.below.stage.frame ∷ inner.rest

    abbrev older : List ViewStage
    older = inner.below ∷ inner.more_frames

    abbrev depth : ℕ
    depth = suc (length inner.rest)

    abbrev between : (g : ViewStage) → Has (inner.below ∷ inner.more_frames) g → StandsBetween table typed effects unmoved_stage local inner.state (suc (length inner.rest)) (inner.below ∷ inner.more_frames) g
    between = innermost.between table typed effects input ready inner

    abbrev other : Around (home s (suc (length inner.rest)))
    other = beside_them table typed effects unmoved_stage local inner.state (suc (length inner.rest)) (inner.below ∷ inner.more_frames) between

    abbrev alone : (w : Way) → IsNear (suc (length inner.rest)) w → IsFar (suc (length inner.rest)) (GoneElsewhere program effects (inner.below ∷ inner.more_frames)) w → ⊥
    alone = innermost.alone table typed effects input ready inner

    abbrev main_turn : Turn
    main_turn = standing.t table typed effects input ready inner.state inner.top older outer inner.named inner.p inner.frames inner.of_sub inner.at_point

    abbrev own_facts : List Fact
    own_facts = standing.facts table typed effects input ready inner.state inner.top older outer inner.named inner.p inner.frames inner.of_sub inner.at_point inner.path

    abbrev handed_on : List Fact
    handed_on = handed table typed effects unmoved_stage local inner.state (suc (length inner.rest)) (inner.below ∷ inner.more_frames) between

    abbrev facts_now : List Fact
    facts_now = own_facts ++ handed_on

    abbrev apart_from_them : (done : List Act) (v : Views) (view : ways.View) → ((x : ℕ) (w : Way) → v.way x ≡ Some w → is_view s x ≡ true)
        → Viewed (home s depth) sees other v view (after done facts_now)
        → ViewedAlone (home s depth) sees (known_gone (home s depth) (GoneElsewhere program effects older)) v view (after done own_facts)
    apart_from_them = innermost.apart_from_them table typed effects input ready inner

    abbrev placed_own : ArePlaced program (suc (length inner.rest)) own_facts inner.views inner.p.scope
    placed_own = innermost.placed_own table typed effects input ready inner

    abbrev left_scope : List ℕ
    left_scope = drop (taken inner.p.instr) inner.p.scope

    abbrev supplied_here : IsSupplied s inner.p
    supplied_here = innermost.supplied_here table typed effects input ready inner

    abbrev shared : Shares s (taken inner.p.instr) inner.top.frame.waits inner.p.scope
    shared = innermost.shared table typed effects input ready inner

    abbrev given_words : List (List machine.Word)
    given_words = (start main_turn).waits

    abbrev Plain : Type 0
    Plain = AreOwnless s (temporaries_of s (take (taken inner.p.instr) inner.p.scope))

    abbrev named_there : Has (flow_named table typed) inner.named
    named_there = innermost.named_there table typed effects input ready inner

    abbrev point_there_now : Has inner.named.points inner.p
    point_there_now = innermost.point_there_now table typed effects input ready inner

    abbrev easy : Turn
    easy = eased main_turn

    abbrev viewed_easy : Plain → Viewed (home s depth) sees other inner.views (view_here s easy.state) facts_now × Kept s inner.state.memory (waiting_in easy.state)
    viewed_easy = innermost.ownless_easy table typed effects input ready inner

    abbrev placed_left : (facts : List Fact) → ArePlaced program (suc (length inner.rest)) facts inner.views inner.p.scope → ArePlaced program (suc (length inner.rest)) facts inner.views left_scope
    placed_left = innermost.placed_left table typed effects input ready inner

    abbrev IsOld : ℕ → ℕ → Type 0
    IsOld f x =
        (f < suc (length inner.rest)) × ((f ≡ 0)
        ⊎ ((q : List ways.Step) × (k : ℕ) × (word_in s.table (content s inner.state.memory [] (ways.OfRoot (ways.OfVariable f x))) q ≡ ways.Held k)))

    abbrev inside_left : Inside s IsOld inner.state.memory depth (lasting_of s left_scope)
    inside_left = innermost.inside_left table typed effects input ready inner

    module _ (n : ℕ) (actuals : TypedTree) (result : Option ℕ) (e : inner.p.instr ≡ Call n actuals result) where
      abbrev pub called : IsCalled table typed n actuals result
      called = acting.called table typed effects input ready inner n actuals result e

      abbrev pub formals : List ℕ
      formals = acting.formals table typed effects input ready inner n actuals result e

      abbrev pub kinds : (x : ℕ) → Has formals x → IsKindOfFormal s x
      kinds = acting.kinds table typed effects input ready inner n actuals result e

      abbrev pub plain_there : TakesPassed s actuals (temporaries_of s (take (taken inner.p.instr) inner.p.scope))
      plain_there = acting.plain_there table typed effects input ready inner n actuals result e

      abbrev pub procedure : Bool
      procedure = acting.procedure table typed effects input ready inner n actuals result e

      abbrev pub ways_there : List Passing
      ways_there = acting.ways_there table typed effects input ready inner n actuals result e

      abbrev pub values : List Placed
      values = acting.values table typed effects input ready inner n actuals result e

      abbrev pub copies : List Placed
      copies = acting.copies table typed effects input ready inner n actuals result e

      abbrev pub facts_called : List Fact
      facts_called = acting.facts_called table typed effects input ready inner n actuals result e

      abbrev copies_leave : facts_called ≡ after (acts copies) own_facts
      copies_leave = acting.copies_leave table typed effects input ready inner n actuals result e

      abbrev pub globals_allowed : AllowsAll facts_called (globals_of program effects n)
      globals_allowed = acting.globals_allowed table typed effects input ready inner n actuals result e

      abbrev spare_call : Spare s (values ++ copies)
      spare_call = acting.spare_call table typed effects input ready inner n actuals result e

      abbrev pub values_allowed : AllowsAll facts_now (acts values)
      values_allowed = acting.values_allowed table typed effects input ready inner n actuals result e

      abbrev pub copies_allowed : AllowsAll facts_now (acts copies)
      copies_allowed = acting.copies_allowed table typed effects input ready inner n actuals result e

      abbrev pub copied_there : AreOpenActuals s sees depth facts_now formals actuals
      copied_there = acting.copied_there table typed effects input ready inner n actuals result e

      abbrev pub holds_now : Holds s sees depth inner.views inner.state.memory
      holds_now = acting.holds_now table typed effects input ready inner n actuals result e

      abbrev pub live_now : (w : Way) (l : ways.Loc) → IsOwners s w → ways.Reaches (seen s inner.state.memory (waiting_in easy.state) inner.state.leaks) w l
          → (content s inner.state.memory (waiting_in easy.state) (trunk l)).owns ≡ true
      live_now = acting.live_now table typed effects input ready inner n actuals result e

      abbrev pub formals_low : AreLowFormals s depth inner.views
      formals_low = acting.formals_low table typed effects input ready inner n actuals result e

      abbrev pub by_callee : (((x : ℕ) → Has formals x → (object_at s x).mode ≡ mode.In) × ((x : ℕ) → Has formals x → IsCopiedBack s x → ⊥)
          × ChangesLent s sees facts_now formals actuals)
          ⊎ AreLent s sees facts_now formals actuals
      by_callee = acting.by_callee table typed effects input ready inner n actuals result e

      abbrev pub clear_there : AreClear s sees facts_now formals actuals
      clear_there = acting.clear_there table typed effects input ready inner n actuals result e

      abbrev pub Given : List Passed → Type 0
      Given passed =
          AreGiven (steps.here main_turn) sees seeing ready.accepted.settled (waiting_in easy.state) inner.state.leaks inner.state.memory [] other facts_now inner.views (viewed_easy plain_there.0).1 (viewed_easy plain_there.0).0 holds_now alone live_now in_formals
          index_law ready.owns ready.class.parts_named formals_low procedure formals actuals passed

      -- the values that the actuals take
      pub taken_there : (on : List (List machine.Word)) × SuppliesAll s inner.state.memory formals actuals given_words on
      taken_there = supplies_each s inner.state.memory formals actuals given_words [] plain_there.1
          (innermost.supplied_call table typed effects input ready inner n actuals result e)

      abbrev pub then_now : Now
      then_now = record { memory = inner.state.memory; waits = taken_there.0 }

      -- in the call of a traversal function
      module _ (f : ℕ) (traversed : traversed_formal s (sub_of program n) ≡ Some f) where
        abbrev pub made : IsTraversalCall s inner.named (flow_at own inner.named inner.p).next n actuals
        made = acting.made table typed effects input ready inner n actuals result e f traversed

        abbrev pub traversing : IsTraversing program n f
        traversing = acting.traversing table typed effects input ready inner n actuals result e f traversed

        abbrev first : TypedTree
        first = acting.first table typed effects input ready inner n actuals result e f traversed

        abbrev no_procedure : procedure ≡ false
        no_procedure = acting.no_procedure table typed effects input ready inner n actuals result e f traversed

        pub opens_these : AreClear s sees facts_now (f ∷ traversing.rest) (More first (made.call).others)
        opens_these = subst (λ z. AreClear s sees facts_now z (More first (made.call).others)) traversing.formals (subst (AreClear s sees facts_now formals) made.actuals_are clear_there)

        pub back_these : AreOpenActuals s sees depth facts_now (f ∷ traversing.rest) (More first (made.call).others)
        back_these = subst (λ z. AreOpenActuals s sees depth facts_now z (More first (made.call).others)) traversing.formals (subst (AreOpenActuals s sees depth facts_now formals) made.actuals_are copied_there)

        takes_these : SuppliesAll s inner.state.memory (f ∷ traversing.rest) (More first (made.call).others) given_words taken_there.0
        takes_these = subst (λ z. SuppliesAll s inner.state.memory z (More first (made.call).others) given_words taken_there.0) traversing.formals
            (subst (λ z. SuppliesAll s inner.state.memory formals z given_words taken_there.0) made.actuals_are taken_there.1)

        traversal_quiet : Quiet then_now Given (all_passed (steps.here main_turn) ways_there formals actuals (start main_turn))
        traversal_quiet =
            subst (λ z. z)
            (λ j. Quiet then_now
            (λ passed. AreGiven (steps.here main_turn) sees seeing ready.accepted.settled (waiting_in easy.state) inner.state.leaks inner.state.memory [] other facts_now inner.views (viewed_easy plain_there.0).1 (viewed_easy plain_there.0).0 holds_now alone live_now in_formals
            index_law ready.owns ready.class.parts_named formals_low (sym no_procedure j) (sym traversing.formals j) (sym made.actuals_are j) passed)
            (all_passed (steps.here main_turn) (sym traversing.ways j) (sym traversing.formals j) (sym made.actuals_are j) (start main_turn)))
            (all_traversed (steps.here main_turn) sees seeing ready.accepted.settled (waiting_in easy.state) inner.state.leaks inner.state.memory [] other facts_now inner.views (viewed_easy plain_there.0).1 (viewed_easy plain_there.0).0 holds_now alone live_now in_formals
            index_law ready.owns ready.class.parts_named formals_low f traversing.rest made.call (acting.first_mode table typed effects input ready inner n actuals result e f traversed) (followed.access table typed effects input ready inner.state inner.top older outer inner.named inner.p inner.frames inner.of_sub inner.at_point inner.path n actuals result e f traversed)
            (followed.shown table typed effects input ready inner.state inner.top older outer inner.named inner.p inner.frames inner.of_sub inner.at_point inner.path n actuals result e f traversed) given_words taken_there.0 takes_these (acting.seen_first table typed effects input ready inner n actuals result e f traversed)
            (λ x has. kinds x (subst (λ z. Has z x) (sym traversing.formals) (inr has))) (acting.unseen_others table typed effects input ready inner n actuals result e f traversed) (acting.others_stay table typed effects input ready inner n actuals result e f traversed)
            (opens_these.0 (followed.given table typed effects input ready inner.state inner.top older outer inner.named inner.p inner.frames inner.of_sub inner.at_point inner.path n actuals result e f traversed)) opens_these.1 back_these.1
            (subst (λ z. AllowsAll facts_now (acts z)) (λ j. flow.actual_values s (traversing.ways j) (made.actuals_are j)) values_allowed))

      pub passed_quiet : Quiet then_now Given (all_passed (steps.here main_turn) ways_there formals actuals (start main_turn))
      passed_quiet = by_either (acting.traverses_or table typed effects input ready inner n actuals result e)
          (λ none. (subst (λ z. Quiet then_now Given (all_passed (steps.here main_turn) z formals actuals (start main_turn))) (sym (passes_to program n none))
          (all_given (steps.here main_turn) sees seeing ready.accepted.settled (waiting_in easy.state) inner.state.leaks inner.state.memory [] other facts_now inner.views (viewed_easy plain_there.0).1 (viewed_easy plain_there.0).0 holds_now alone live_now in_formals
          index_law ready.owns ready.class.parts_named formals_low procedure given_words taken_there.0 formals actuals kinds (acting.unseen_plain table typed effects input ready inner n actuals result e none) called.actuals_stay clear_there copied_there taken_there.1
          (subst (λ z. AllowsAll facts_now (acts (flow.actual_values s z actuals))) (passes_to program n none) values_allowed))))
          (λ (f, traversed). (traversal_quiet f traversed))

      abbrev pub view_now : ways.View
      view_now = seen s inner.state.memory (waiting_in easy.state) inner.state.leaks

      abbrev pub given_laid : (passed : List Passed) → Given passed → AreLaidOut s sees inner.state.memory depth inner.views view_now formals actuals passed
      given_laid passed given =
          all_laid_out (steps.here main_turn) sees seeing ready.accepted.settled (waiting_in easy.state) inner.state.leaks inner.state.memory [] other facts_now inner.views (viewed_easy plain_there.0).1 (viewed_easy plain_there.0).0 holds_now alone live_now in_formals
          index_law ready.owns ready.class.parts_named formals_low procedure formals actuals passed given

      -- loans stay
      loans_called : (h : ℕ) (m : PlaceName) → Has own_facts (Lent Observed h m) → Has facts_called (Lent Observed h m)
      loans_called h m has = loans_stay s (values ++ copies) spare_call own_facts Observed h m has

      globals : AreGlobal (globals_of program effects n)
      globals = globals_are program effects ready.accepted.effects_are n

      -- the successor, at which the frame waits
      abbrev pub call_point : (k : ℕ) × (successor main_turn 0 ≡ Some k) × Has main_turn.point.next k
      call_point = acting.call_point table typed effects input ready inner n actuals result e

      abbrev pub waits_with : List Way → Stage
      waits_with ways_taken = record {
        frame = record inner.top.frame { waits = steps.waiting main_turn; next = call_point.0 };
        depth = inner.top.depth;
        before = inner.top.frame.next ∷ inner.top.before;
        returns = ways_taken;
      }

      pub facts_there : facts_before (path_points program effects (sub_of program inner.top.frame.sub)) (inner.top.frame.next ∷ inner.top.before) ≡ facts_called
      facts_there =
          ap (λ (z : FlowSub). facts_before (path_points program effects z) (inner.top.frame.next ∷ inner.top.before)) (standing.sub_is table typed effects input ready inner.state inner.top older outer inner.named inner.p inner.frames inner.of_sub inner.at_point)
          ∙ standing.facts_whole table typed effects input ready inner.state inner.top older outer inner.named inner.p inner.frames inner.of_sub inner.at_point inner.path
          ∙ acting.call_effect table typed effects input ready inner n actuals result e
          ∙ global_after (globals_of program effects n) facts_called globals

      -- nothing is moved by the call
      pub none_new : (f : Fact) → Has (facts_before (path_points program effects (sub_of program inner.top.frame.sub)) (inner.top.frame.next ∷ inner.top.before)) f → Has (facts_of program effects inner.top) f
      none_new f has =
          subst (λ z. Has z f) (sym (standing.facts_are table typed effects input ready inner.state inner.top older outer inner.named inner.p inner.frames inner.of_sub inner.at_point inner.path))
          (acting.adds_none table typed effects input ready inner n actuals result e f (subst (λ z. Has z f) facts_there has))

      -- what the callee uses isn't moved
      pub spared_then : (name : PlaceName) → Has facts_called (Moved name) → is_package_object s name.root ≡ true → Uses effects n name.root → ⊥
      spared_then name has shared uses =
          let there = used_global program effects ready.accepted.effects_are n name.root called.text_io shared uses in
          global_apart name name.root refl there.0
          (global_allowed (globals_of program effects n) facts_called globals globals_allowed (act.Global name.root there.0) there.1 (Moved name) has)

      pub callee_less : n < length program.subs
      callee_less = sub_in_range table typed n called.runs.named called.runs.stands

      -- nor is it disturbed where a part is lent
      pub lends_there : (l : Loan) (h : ℕ) (name : PlaceName) → Has (facts_before (path_points program effects (sub_of program inner.top.frame.sub)) (inner.top.frame.next ∷ inner.top.before)) (Lent l h name) → is_package_object s name.root ≡ true
          → Disturbs effects l n name.root → ⊥
      lends_there l h name has shared disturbs =
          lent_spared program effects ready.accepted.effects_are n called.text_io facts_called globals_allowed l h name
          (subst (λ z. Has z (Lent l h name)) facts_there has) shared disturbs

      pub at_successor : (q : NamedPoint) × IsAtPoint inner.named.points call_point.0 q × Leads s (scope_behind inner.p) q.scope
      at_successor = standing.next_at table typed effects input ready inner.state inner.top older outer inner.named inner.p inner.frames inner.of_sub inner.at_point inner.path call_point.0 call_point.2

      brought_more : (r : Option ℕ) (x : ℕ) → is_within x left_scope ≡ true → is_within x (brought (Call n actuals r) left_scope) ≡ true
      brought_more None x within = within
      brought_more (Some t) x within = or_right (x == t) (is_within x left_scope) within

      more : (x : ℕ) → is_within x left_scope ≡ true → is_within x (scope_behind inner.p) ≡ true
      more x within = subst (λ i. is_within x (brought i left_scope) ≡ true) (sym e) (brought_more result x within)

      behind_scope : InScope s inner.state.memory depth (lasting_of s (scope_behind inner.p))
      behind_scope f x q k held = elim (inside_left f x q k held) [ inl old ↦ inl old.0 | inr mine ↦ inr (mine.0, lasting_more s left_scope (scope_behind inner.p) more x mine.1) ]

      pub next_scope : InScope s inner.state.memory depth (lasting_of s (at_successor.0).scope)
      next_scope = scope_on s ready.owns inner.state.memory depth (scope_behind inner.p) (at_successor.0).scope behind_scope at_successor.2

      pub next_placed : ArePlaced program (suc (length inner.rest)) facts_called inner.views (at_successor.0).scope
      next_placed =
          placed_on program depth facts_called inner.views (scope_behind inner.p) (at_successor.0).scope inner.holds.only at_successor.2
          (λ x w has. (let own_place = placed_left own_facts placed_own x w has in record {
            within = more x own_place.within;
            plain = own_place.plain;
            up = λ up_named. lasts_more program left_scope (scope_behind inner.p) (ways.number_of (inner.views.up x)) x more (own_place.up up_named);
            root = λ at_home. lasts_more program left_scope (scope_behind inner.p) (ways.number_of w) x more (own_place.root at_home);
            holder = λ up_named sight. (let h = own_place.holder up_named sight in
                (h.0, loans_called h.0 (ways.name_of (inner.views.loan x)) h.1, lasts_more program left_scope (scope_behind inner.p) h.0 x more h.2, h.3));
          }))

      -- ---- what waits, before the callee has returned

      abbrev pub late : Option ℕ
      late = awaited (sub_of program n) []

      pub waits_late : (ways_taken : List Way) → WaitsAt table typed late (waits_with ways_taken)
      waits_late ways_taken other_named other_stands q at_q =
          let same_sub : other_named ≡ inner.named = one_named (flow_named table typed) inner.top.frame.sub other_named inner.named other_stands inner.of_sub in
          let same_point : at_successor.0 ≡ q =
          one_point inner.named.points call_point.0 (at_successor.0) q at_successor.1 (subst (λ (z : NamedSub). IsAtPoint z.points call_point.0 q) same_sub at_q) in
          subst (λ (z : NamedPoint). AreValuesBut s late (steps.waiting main_turn) (temporaries_of s z.scope)) same_point
          (late_scope program n actuals (steps.waiting main_turn) left_scope shared.left result (subst (λ i. Fills s i left_scope) e supplied_here.1)
          (subst (λ i. FillsTyped program i left_scope) e (ready.valued.fills inner.named named_there inner.p point_there_now)) late refl called.answers (at_successor.0).scope
          (subst (λ i. Leads s (brought i left_scope) (at_successor.0).scope) e at_successor.2))

      -- ---- what is passed

      abbrev pub next_there : List ℕ
      next_there = lasting_of s (at_successor.0).scope

      -- the state is sound with views under the facts after the acts, and so it is beside the others

      -- the facts after the acts with what frames around hand on
      abbrev pub facts_all : List Fact
      facts_all = after (acts copies) facts_now

      pub all_called : (f : Fact) → Has facts_called f → Has facts_all f
      all_called f has =
          after_more (acts copies) own_facts facts_now (λ g own. Has-append_left own_facts handed_on g own) f (subst (λ z. Has z f) copies_leave has)

      pub splits_all : Splits facts_all facts_called handed_on
      splits_all f has = elim (after_splits (acts copies) facts_now own_facts handed_on (innermost.from_both table typed effects input ready inner) f has) [
        | inl own ↦ inl (subst (λ z. Has z f) (sym copies_leave) own)
        | inr there ↦ inr there
      ]

      module _ (passed : List Passed) (given : Given passed) where
        abbrev pub other_all : Around (home s depth)
        other_all = gone_lent table typed effects unmoved_stage local inner.state depth older between

        pub far_views : AreFar (home s depth) inner.views depth
        far_views = lies_far s depth inner.views inner.holds.lies inner.holds.low

        abbrev pub laid : AreLaidOut s sees inner.state.memory depth inner.views view_now formals actuals passed
        laid = given_laid passed given

        -- the places that are emptied
        abbrev pub outs : List Out
        outs = outs_of s sees inner.state.memory depth inner.views view_now formals actuals passed (given_laid passed given)

        -- the cells of places that are copied back to
        abbrev pub cells : List Lodge
        cells = cells_of s sees inner.state.memory depth inner.views view_now formals actuals passed (given_laid passed given)

        pub well_before : Viewed (home s depth) sees other_all inner.views (view_here s easy.state) facts_now
        well_before = with_gone table typed effects unmoved_stage local inner.state depth older between inner.views (view_here s easy.state) facts_now (viewed_easy plain_there.0).0

        -- no view begins at a variable of what is called
        begins_low : (o : ℕ) (w : Way) → inner.views.way o ≡ Some w → (f y : ℕ) → ways.base_of w ≡ ways.OfRoot (ways.OfVariable f y) → f ≡ suc depth → ⊥
        begins_low o w has f y begins above_it = by_either (inner.holds.lies o w has)
            (λ at_home. (let same = (same_variable (home s depth (ways.number_of w)) (ways.number_of w) f y (sym (named_base (home s depth) w at_home) ∙ begins)).0 in
            not_above s sees ready.accepted.settled ready.owns in_formals (waiting_in easy.state) inner.state.leaks depth inner.views far_views (inner.holds.only, inner.holds.parts.only) facts_all next_there cells (ways.number_of w) (same ∙ above_it)))
            (λ (foreign, low, some). (let same = (same_variable foreign.0 foreign.1 f y (sym foreign.2 ∙ begins)).0 in omega (arith, low, same, above_it)))

        -- the acts add none
        pub less_now : (f : Fact) → Has facts_all f → Has facts_now f
        less_now f has = by_either (splits_all f has)
            (λ mine. (Has-append_left own_facts handed_on f (acting.adds_none table typed effects input ready inner n actuals result e f mine)))
            (λ there. (Has-append_right own_facts handed_on f there))

        -- loans stay through the acts
        loan_all : (l : Loan) (h : ℕ) (m : PlaceName) → Has facts_now (Lent l h m) → Has facts_all (Lent l h m)
        loan_all l h m has = loans_stay s copies (spare_copies s ready.owns procedure formals actuals) facts_now l h m has

        -- what is taken
        no_overlap : ((r : Report) → Has (overlap_reports s (alias.passed formals actuals)) r → ⊥) ⊎ ((x : ℕ) → Has formals x → IsCopiedBack s x → IsScalarObject s x)
        no_overlap =
            apart_or program effects (λ x. IsCopiedBack s x → IsScalarObject s x) ready.accepted.no_reports (flow_sub own inner.named)
            (standing.in_program table typed effects input ready inner.state inner.top older outer inner.named inner.p inner.frames inner.of_sub inner.at_point) main_turn.point
            (standing.in_sub table typed effects input ready inner.state inner.top older outer inner.named inner.p inner.frames inner.of_sub inner.at_point) n actuals result e called.answers
            (λ of answers x has back. absurd (back (ready.class.modes n of answers x has)))

        within_next : (y : ℕ) → Has (roots_passed actuals) y → is_package_object s y ≡ false → is_owning s.table (object_at s y).of ≡ true → is_within y next_there ≡ true
        within_next y has mine owns =
            within_lasting s y (at_successor.0).scope
            (within_on s (scope_behind inner.p) (at_successor.0).scope y at_successor.2 (ap (λ b. b || is_anonymous (view_of s y)) owns)
            (more y (elim (ready.passing.passed inner.named (standing.named_in table typed effects input ready inner.state inner.top older outer inner.named inner.p inner.frames inner.of_sub inner.at_point) inner.p
            (standing.point_in_named table typed effects input ready inner.state inner.top older outer inner.named inner.p inner.frames inner.of_sub inner.at_point) n actuals result e y has) [
              | inr within ↦ within
              | inl shared_object ↦ absurd (true_false (is_package_object s y) shared_object mine)
            ])))
            (ready.valued.passed inner.named (standing.named_in table typed effects input ready inner.state inner.top older outer inner.named inner.p inner.frames inner.of_sub inner.at_point) inner.p
            (standing.point_in_named table typed effects input ready inner.state inner.top older outer inner.named inner.p inner.frames inner.of_sub inner.at_point) n actuals result e y has)

        -- what the frame knows after the acts, with its views
        alone_before : ViewedAlone (home s depth) sees (known_gone (home s depth) (GoneElsewhere program effects older)) inner.views (view_here s easy.state) own_facts
        alone_before = apart_from_them [] inner.views (view_here s easy.state) inner.holds.only (viewed_easy plain_there.0).0

        pub called_less : (f : Fact) → Has facts_called f → Has own_facts f
        called_less f has = acting.adds_none table typed effects input ready inner n actuals result e f has

        pub clear_called : FactsAreClear sees facts_called
        clear_called = fewer_clear sees own_facts facts_called called_less alone_before.clear

        loans_more : (l : Loan) (h : ℕ) (m : PlaceName) → Has own_facts (Lent l h m) → Has facts_called (Lent l h m)
        loans_more l h m has = loans_stay s (values ++ copies) spare_call own_facts l h m has

        pub views_called : AreViews (home s depth) sees inner.views (view_here s easy.state) facts_called
        views_called = (
          λ x w has.
              view_on (home s depth) sees other_all inner.views (view_here s easy.state) (view_here s easy.state) own_facts facts_called x w (alone_before.views.0 x w has)
              (λ b m loan. own_loan sees own_facts facts_called loans_more b x m loan)
              (reached (home s depth) sees other_all inner.views (view_here s easy.state) own_facts x w (alone_before.views.0 x w has)),
          alone_before.views.1,
        )

        -- so it is with what frames around hand on
        pub clear_all : FactsAreClear sees facts_all
        clear_all = fewer_clear sees facts_now facts_all less_now well_before.clear

        pub views_all : AreViews (home s depth) sees inner.views (view_here s easy.state) facts_all
        views_all = (
          λ x w has.
              view_on (home s depth) sees other_all inner.views (view_here s easy.state) (view_here s easy.state) facts_now facts_all x w (well_before.views.0 x w has)
              (λ b m loan. own_loan sees facts_now facts_all loan_all b x m loan)
              (reached (home s depth) sees other_all inner.views (view_here s easy.state) facts_now x w (well_before.views.0 x w has)),
          well_before.views.1,
        )

        -- names are compared where nothing is gone
        abbrev pub around_names : Around (home s depth)
        around_names = lent_only (home s depth) other_all.lent

        pub names_all : Viewed (home s depth) sees around_names inner.views (still (view_here s easy.state)) facts_all
        names_all =
            still_viewed (home s depth) sees other_all.lent inner.views (view_here s easy.state) facts_all well_before.owned well_before.covered clear_all views_all well_before.shown
            (λ l m lent. lends_on sees inner.views facts_now facts_all loan_all l m (well_before.lends l m lent))

        pub all_passed_ways : (ways_taken : List Way) × ArePassedOn s sees inner.state.memory cells depth inner.views facts_all next_there formals passed ways_taken outs
            × ((k : Way) → Has ways_taken k → IsNamedBy s sees depth inner.views facts_all formals actuals k)
        all_passed_ways =
            all_passed_on s sees seeing ready.owns ready.accepted.settled inner.state.memory cells depth inner.views inner.holds.only view_now facts_all around_names (still (view_here s easy.state)) names_all next_there procedure formals actuals passed
            facts_now laid kinds
            called.local called.differ
            within_next no_overlap refl copies_allowed (λ c has. has)

        abbrev pub ways_taken : List Way
        ways_taken = all_passed_ways.0

        -- they begin at variables of the frame, or of package objects, or of frames below
        pub begun : (to : Way) → Has ways_taken to → Begins s depth to
        begun to has = passed_base s sees inner.state.memory cells depth inner.views facts_all next_there formals passed ways_taken outs all_passed_ways.1 to has

        abbrev outs_gone : Way → Type 0
        outs_gone w = GoneElsewhere program effects older w ⊎ IsUnderOne outs w

        -- under the facts after the acts, what is to be emptied may be gone
        pub stands_all : OwnersStand (home s depth) inner.views facts_all outs_gone (view_here s easy.state)
        stands_all =
            all_acted (steps.here main_turn) sees seeing ready.accepted.settled (waiting_in easy.state) inner.state.leaks inner.state.memory [] other facts_now inner.views (viewed_easy plain_there.0).1 (viewed_easy plain_there.0).0 holds_now alone live_now in_formals
            index_law ready.owns ready.class.parts_named formals_low procedure outs_gone formals actuals passed facts_now given (λ w under. inr under)
            (record {
              owned = well_before.owned;
              covered = well_before.covered;
              known = λ w l rooted r gone. elim (well_before.known w l rooted r gone) [
                | inl (inl moved) ↦ inl moved
                | inl (inr none) ↦ absurd none
                | inr there ↦ inr (inl there)
              ];
            })

        -- the names of those cells
        pub named_cell : (c : Lodge) → Has cells c → IsCellNamed s sees depth facts_all inner.views view_now formals actuals passed c
        named_cell c has = cells_named s sees ready.accepted.settled ready.owns inner.state.memory depth facts_all procedure inner.views view_now formals actuals passed facts_now laid refl copies_allowed c has

        pub cell_root : (c : Lodge) (has : Has cells c) → ways.number_of c.name ≡ ways.number_of (named_cell c has).whole
        cell_root c has = sym (longer c.name (named_cell c has).whole (named_cell c has).begins).root

        pub cell_plain : (c : Lodge) → Has cells c → ways.Named (home s depth) c.name × (sees (ways.number_of c.name) ≡ false)
        cell_plain c has = (
          named_before (home s depth) c.name (named_cell c has).whole (named_cell c has).begins (named_cell c has).named,
          ap sees (cell_root c has) ∙ (named_cell c has).plain,
        )

        -- their ways begin at variables of the frame, or of package objects
        pub cell_begins : (c : Lodge) → Has cells c → (g : ℕ) × (y : ℕ) × (ways.base_of c.way ≡ ways.OfRoot (ways.OfVariable g y)) × (g ≡ suc depth → ⊥)
        cell_begins c has =
            by_either (stands (home s depth) sees inner.views (view_here s easy.state) facts_all views_all c.name (cell_plain c has))
            (λ own. (
            let named_there : ways.Named (home s depth) c.way = subst (ways.Named (home s depth)) (named_cell c has).leads own.named in (
              home s depth (ways.number_of c.way),
              ways.number_of c.way,
              named_base (home s depth) c.way named_there,
              not_above s sees ready.accepted.settled ready.owns in_formals (waiting_in easy.state) inner.state.leaks depth inner.views far_views (inner.holds.only, inner.holds.parts.only) facts_all next_there cells (ways.number_of c.way),
            )))
            (λ held_there. (
            let (f, y, begins) = held_there.passed.begins in (
              f,
              y,
              ap ways.base_of (sym (named_cell c has).leads) ∙ base_under held_there.way (expand inner.views c.name) held_there.under ∙ begins,
              begins_low held_there.object held_there.way held_there.has f y begins,
            )))

        -- one of another place
        housed_aside : (c : Lodge) (has : Has cells c) (k : Place) → k.base ≡ memory.OfCell c.cell
            → (u : Way) × Has ways_taken u × IsPassedOn s sees cells depth inner.views facts_all next_there (named_cell c has).by.formal k u → (to : Way) → Has ways_taken to → ways.Past to c.way → ⊥
        housed_aside c has k base these to taken past = let (u, has_u, one) = these in by_either (one.inside).stands
            (λ variable. (let never : memory.OfVariable (one.inside).frame (one.inside).object ≡ memory.OfCell c.cell = sym variable.2 ∙ base in absurd (false≢true (ap is_of_cell_base never))))
            (λ cell. (
            let view = view_here s easy.state in
            let number : cell.0 ≡ c.cell = same_cell (sym cell.2 ∙ base) in
            let found = one.among cell.0 cell.1 in
            let reach : ways.Reaches view (one.inside).trunk (ways.OfCell c.cell) =
            subst (λ z. ways.Reaches view z (ways.OfCell c.cell)) found.2 (subst (λ z. ways.Reaches view found.0.way (ways.OfCell z)) (found.3 ∙ number) (named_cell found.0 found.1).reaches) in
            let trunk_is : c.way ≡ (one.inside).trunk = one_way view well_before.owned c.way (one.inside).trunk (ways.OfCell c.cell) (named_cell c has).reaches reach in
            let goes_on : u ≡ ways.along c.way (one.inside).steps = (one.inside).way ∙ ap (λ z. ways.along z (one.inside).steps) (sym trunk_is) in
            let under_whole : ways.Under c.way u = subst (ways.Under c.way) (sym goes_on) (under_along c.way c.way (one.inside).steps (under_itself c.way)) in
            by_either (passed_pair s sees inner.state.memory cells depth inner.views facts_all next_there formals passed ways_taken outs all_passed_ways.1 to u taken has_u)
            (λ same. (not_before c.way (one.inside).steps (subst (λ z. ways.Past z c.way) (same ∙ goes_on) past)))
            (λ apart. (apart.0 (under_on to c.way u (past_under to c.way past) under_whole)))))

        -- one of a scalar place
        scalar_aside : (c : Lodge) (has : Has cells c) → IsScalarObject s (named_cell c has).by.formal → (to : Way) → Has ways_taken to → ways.Past to c.way → ⊥
        scalar_aside c has scalar to taken past =
            let by = all_passed_ways.2 to taken in
            let cell = named_cell c has in
            let under_whole : ways.Under c.way (expand inner.views cell.whole) =
            subst (λ z. ways.Under z (expand inner.views cell.whole)) cell.leads (expand_under inner.views c.name cell.whole (λ r is. absurd (cell.deep r is)) (no_part (home s depth) sees inner.views (still (view_here s easy.state)) facts_all names_all.views cell.whole cell.plain) cell.begins) in
            names_off (home s depth) sees around_names inner.views (still (view_here s easy.state)) facts_all names_all by.name cell.whole
            (by.named, by.plain) (cell.named, cell.plain) by.unlent cell.unlent
            (λ over. taken_apart to taken c has scalar over)
            (under_on (expand inner.views by.name) c.way (expand inner.views cell.whole) (subst (λ z. ways.Under z c.way) (sym by.means) (past_under to c.way past)) under_whole)
          where
            taken_apart : (to : Way) (taken : Has ways_taken to) → (c : Lodge) (has : Has cells c) → IsScalarObject s (named_cell c has).by.formal
                → overlaps (ways.name_of (all_passed_ways.2 to taken).name) (ways.name_of (named_cell c has).whole) ≡ true → ⊥
            taken_apart to taken c has scalar over =
                let by = all_passed_ways.2 to taken in
                let cell = named_cell c has in
                by_either no_overlap
                (λ none. (passed_apart s formals actuals none by.by cell.by by.among cell.among by.back cell.back
                (λ same. true_false (is_scalar (full s.table (object_at s by.by.formal).of)) (subst (IsScalarObject s) (sym same) scalar) by.many)
                (subst (λ z. overlaps z cell.by.actual.name ≡ true) (sym by.called) (subst (λ z. overlaps (ways.name_of by.name) z ≡ true) (sym cell.called) over))))
                (λ plain. (true_false (is_scalar (full s.table (object_at s by.by.formal).of)) (plain by.by.formal (passed_formal formals actuals by.by by.among) by.back) by.many))

        -- no place that is taken goes before one
        pub cell_aside : (c : Lodge) → Has cells c → (to : Way) → Has ways_taken to → ways.Past to c.way → ⊥
        cell_aside c has to taken past = by_either (named_cell c has).sort
            (λ scalar. (scalar_aside c has scalar to taken past))
            (λ (k, base, from, many). (housed_aside c has k base (from_taken s sees inner.state.memory cells depth inner.views facts_all next_there formals passed ways_taken outs all_passed_ways.1
            (named_cell c has).by.formal k from many) to taken past))

        -- a package object that is passed to be copied back to is written
        abbrev pub waits_there : ViewStage
        waits_there = record { stage = waits_with all_passed_ways.0; views = inner.views; cells = cells }

        -- the formals have nothing yet
        pub blank_formals : AreBlank s depth inner.state.memory formals
        blank_formals x has q = by_word (word_in s.table (content s inner.state.memory [] (ways.OfRoot (ways.OfVariable (suc depth) x))) q) refl
          where
            by_word : (w : ways.Word) → word_in s.table (content s inner.state.memory [] (ways.OfRoot (ways.OfVariable (suc depth) x))) q ≡ w
                → word_in s.table (content s inner.state.memory [] (ways.OfRoot (ways.OfVariable (suc depth) x))) q ≡ ways.Empty
            by_word ways.Empty is = is
            by_word (ways.Held k) is = absurd (by_either (inner.scope (suc depth) x q k is) (λ less. (omega (arith, less))) (λ mine. (let frames_same = mine.0 in omega (arith, frames_same))))
            by_word ways.Gone is =
                let root : ways.Root = ways.OfVariable (suc depth) x in
                let w : Way = ways.along (ways.Object root) q in
                absurd (elim (well_before.known w (ways.part (ways.OfRoot root) q) (rooted_along (ways.Object root) q tt)
                (reaches_along (view_here s easy.state) (ways.Object root) (ways.OfRoot root) q refl)
                (word_root s.table (content s inner.state.memory (waiting_in easy.state)) root q ∙ is)) [
                  | inr gone ↦ (
                      let there = gone_low table typed effects unmoved_stage local inner.state depth older between w gone in
                      let frames_same = (same_variable there.0 there.1 (suc depth) x (sym there.2 ∙ base_along (ways.Object root) q)).0 in
                      let less = there.3 in omega (arith, frames_same, less))
                  | inl (inr none) ↦ absurd none
                  | inl (inl (u, moved, leads)) ↦ by_either (stands (home s depth) sees inner.views (view_here s easy.state) facts_now well_before.views u
                      (moved.0, well_before.clear.owned (ways.name_of u) moved.1))
                      (λ own. (not_named (home s depth) (suc depth) x
                      (not_above s sees ready.accepted.settled ready.owns in_formals (waiting_in easy.state) inner.state.leaks depth inner.views far_views (inner.holds.only, inner.holds.parts.only) facts_all next_there cells) w
                      (subst (ways.Named (home s depth)) leads own.named) (base_along (ways.Object root) q)))
                      (λ held_there. (
                      let at = sym (base_under held_there.way (expand inner.views u) held_there.under) ∙ ap ways.base_of leads ∙ base_along (ways.Object root) q in
                      begins_low held_there.object held_there.way held_there.has (suc depth) x at refl))
                ])
