-- What is called sees, and the state where its frame has begun is sound.
use Rattle.soundness.proofs.OwnedLoans.Meeting.{no_part}
use Rattle.machine.specs.flow_paths.Views.{sub_acts}
use Rattle.viewed_steps.specs.Traversals.{SeesFirst}
use Rattle.soundness.proofs.OwnedWays.Dropped.{named_base}
use Rattle.viewed_steps.proofs.Begun.{begins_traversal, no_returns, taker_takes}
use Rattle.viewed_steps.proofs.CallActs as acting
use Rattle.viewed_steps.proofs.Followed as followed
use Rattle.viewed_steps.proofs.Traversed.{none_given, empty_given, named_given}
use Rattle.machine.specs.typed_tree.declared.object.ObjectKind.{ObjectKind}
use Rattle.machine.specs.typed_tree.declared.object.ObjectKind.TheVariants as object_kind
use Rattle.soundness.proofs.Lists.{Has-append_left}
use Rattle.std.proofs.Common.{◌≡◌, refl, sym, ap, ◌∙◌, subst, ◌⊎◌, inl, inr, ℕ, suc, true, false, List, [], ◌∷◌, ◌++◌, take, drop, length, get_or, arith, Option, Some, None, Bool, ◌||◌}
use Rattle.std.proofs.lemmas.Bool.{false≢true}
use Rattle.machine.specs.spark_base.Lists.{Has}
use Rattle.machine.specs.place_names.declared.fact.Fact.{Fact}
use Rattle.machine.specs.place_names.declared.fact.Fact.TheVariants.{Moved, Lent}
use Rattle.machine.specs.place_names.Names.{Name as PlaceName}
use Rattle.machine.specs.place_names.declared.act.Mode.TheVariants as mode
use Rattle.machine.specs.type_definitions.Types.{Table}
use Rattle.machine.specs.typed_tree.Trees.{TypedTree}
use Rattle.machine.specs.typed_tree.Programs.{TypedProgram}
use Rattle.machine.specs.flow_paths.declared.report.Effects.{Effects}
use Rattle.machine.specs.flow_paths.Instructions.{Call, EndScope, Finish}
use Rattle.machine.specs.flow_paths.Objects.{Typing, object_at, is_anonymous, is_package_object, view_of, Passing, is_formal_kind}
use Rattle.machine.specs.flow_paths.Aliases as alias
use Rattle.machine.specs.flow_paths.Points.{NamedPoint}
use Rattle.machine.specs.flow_paths.Laid.{FlowProgram, NamedSub, flow_sub, typing_of, flow_typing, flow_program, flow_named}
use Rattle.machine.specs.flow_paths.Paths.{is_some_point, begins, facts_before}
use Rattle.machine.specs.flow_paths.Effects.{path_points}
use Rattle.machine.specs.flow_paths.Scopes.{taken, scope_behind, Leads, is_temporary}
use Rattle.machine.specs.Words as machine
use Rattle.machine.specs.Memory.{Memory, no_slot, variable_slots}
use Rattle.machine.specs.Evaluate.{Now, Exception}
use Rattle.machine.specs.States.{Frame, State, Leak, sub_of, frame_at_start, Outcome, Goes}
use Rattle.machine.specs.Step.{Turn, turn, start, successor}
use Rattle.machine.specs.Step as steps
use Rattle.machine.specs.Calls.{Passed, all_passed, with_formals, returns_of, out_checks}
use Rattle.machine.specs.Owners.{waiting_in}
use Rattle.machine.specs.place_names.declared.act.Mode.TheVariants as mode
use Rattle.soundness.specs.OwnedWays.Ways.{Step, Way, Past}
use Rattle.soundness.specs.OwnedWays.Ways as ways
use Rattle.soundness.proofs.OwnedWays.Locations.{past_under, under_along, under_itself}
use Rattle.soundness.specs.Seen.{IsNear, content, seen, home, trunk}
use Rattle.soundness.specs.Typed.{Kept}
use Rattle.soundness.specs.Sound.{Stage, facts_of, AreStages, returns_value, IsNamedSub, IsAtPoint, view_of as view_here}
use Rattle.soundness.proofs.Stays.{Quiet}
use Rattle.soundness.proofs.Numbers.{index_law}
use Rattle.soundness.proofs.Lasting.{keeps}
use Rattle.soundness.proofs.Passing.{entered}
use Rattle.soundness.proofs.Around.{IsFar, package_named}
use Rattle.soundness.proofs.Eased.{eased}
use Rattle.soundness.specs.OwnedLoans.Views.{expand, Around, Views, IsMovedBy, ExcusedBy, Viewed, AreShared, IsShared}
use Rattle.soundness.proofs.OwnedLoans.Ways.{under_on, Meet, meets_front, flip}
use Rattle.soundness.proofs.OwnedLoans.Moves.{expand_under}
use Rattle.soundness.proofs.ViewedSoundness.ViewKinds.{bundle_view, true_false, given_view}
use Rattle.soundness.specs.ViewedSoundness.Holds.{is_bundle, Holds, is_view, IsOwners, is_given, Seeing}
use Rattle.soundness.proofs.ViewedSoundness.Given.{IsLow, low_there, low_begins}
use Rattle.viewed_steps.specs.Awaited.{temporaries_of, awaited, WaitsAt, AreAwaited, AreOwnless, TakesPassed}
use Rattle.viewed_steps.proofs.Waited.{within_lasting, Shares, plain_unheld}
use Rattle.viewed_steps.specs.Sound.{IsCopiedBack, IsBeyond, AreUnmet, ArePlaced, ViewStage, stages_of, GoneElsewhere, IsWaiting, AreWaiting, calls_one, LeadsAlong, IsKindOfFormal, AreReturned, KeptBy, IsWayOf, NoneGiven, IsTraversal, LentBy}
use Rattle.viewed_steps.specs.Ready.{IsReady, IsCalled}
use Rattle.viewed_steps.specs.Taken.{TakenBy, AreCarried, Lodge}
use Rattle.viewed_steps.proofs.Waiting.{StandsBetween, beside_them, handed}
use Rattle.viewed_steps.proofs.Between.{OwnersStand, same_variable}
use Rattle.viewed_steps.proofs.LaidOut.{AreLaidOut}
use Rattle.viewed_steps.proofs.Outs.{Out, found_in}
use Rattle.viewed_steps.proofs.Entered.{ArePassedOn}
use Rattle.viewed_steps.proofs.Entering.{owns_there, AreDeclared, Enter}
use Rattle.viewed_steps.proofs.Passed.{IsNamedBy, call_goes}
use Rattle.viewed_steps.proofs.Cells.{passed_formal, IsCellNamed}
use Rattle.viewed_steps.proofs.Standing as standing
use Rattle.viewed_steps.proofs.Packages as packages
use Rattle.viewed_steps.proofs.Innermost as innermost
use Rattle.viewed_steps.proofs.Views.{AreLowFormals, AreAccess, AreFar, kind_given, given_type, given_formal, many_bundle, not_elsewhere}
use Rattle.viewed_steps.proofs.Exclusive.{ChangesLent, IsLentAs, IsSeenFrom, AreLent, IsFrom, from_past, from_past_part, from_far, from_apart, from_place, mode_in, second_true}
use Rattle.viewed_steps.proofs.SeenApart.{seen_apart}
use Rattle.viewed_steps.proofs.Passed.{apart_there}
use Rattle.soundness.proofs.Passing.{signature_is}
use Rattle.machine.specs.Owners.{is_in}
use Rattle.machine.specs.place_names.Names.{overlaps}
use Rattle.machine.specs.place_names.declared.rule.Loan.TheVariants.{Borrowed}
use Rattle.soundness.proofs.OwnedLoans.Safe.{Unborrowed}
use Rattle.machine.specs.flow_paths.Objects.{Signature, is_formal}
use Rattle.viewed_steps.proofs.Lending.{IsNameOf, apart_listed}
use Rattle.viewed_steps.proofs.CallShows.{clear_named}
use Rattle.soundness.proofs.ViewedSoundness.ViewKinds.{sees_view}
use Rattle.machine.specs.flow_paths.Names.{Written}
use Rattle.viewed_steps.proofs.Opening.{opened_first, opened_rooted, Opens, all_opened, low_of, low_part, opened_seen, opened_part, opened_from, opened_views, opened_whole, opened_parts, opened_parts_whole, opened_parts_low, opened_lies, opened_held, opened_placed}
use Rattle.viewed_steps.proofs.Calling as calling
use Rattle.viewed_steps.proofs.Handed.{elsewhere_excused}
use Rattle.viewed_steps.proofs.CallShows as shows
use Rattle.viewed_steps.proofs.Stilled.{still}
use Rattle.viewed_steps.proofs.CallBegins as begins
use Rattle.viewed_steps.specs.Seeing.{sees_in}
use Rattle.viewed_steps.proofs.Sees.{sees_seeing}
use Rattle.viewed_steps.proofs.Constructors.{is_end_scope_instruction, is_finish_instruction}
use Rattle.viewed_steps.proofs.InnerFrame.{InnerFrame}
use Rattle.soundness.proofs.Parted.{by_either}

module _ (table : Table) (typed : TypedProgram) (effects : Effects) (input : List ℕ) (ready : IsReady table typed effects) where
  abbrev sees : ℕ → Bool
  sees = sees_in (flow_program table typed)

  abbrev seeing : Seeing (flow_typing (flow_program table typed)) sees
  seeing = sees_seeing (flow_program table typed)

  abbrev program : FlowProgram
  program = flow_program table typed

  abbrev s : Typing
  s = flow_typing program

  abbrev own : Typing
  own = typing_of table typed

  abbrev in_formals : AreAccess s
  in_formals = standing.in_formals table typed effects input ready

  abbrev local : (x : ℕ) → is_view s x ≡ true → is_package_object s x ≡ false
  local = standing.local table typed effects input ready

  abbrev unmoved_stage : (e : Stage) → e.frame.sub ≡ 0 → (name : PlaceName) → Has (facts_of program effects e) (Moved name) → ⊥
  unmoved_stage = packages.unmoved_stage table typed effects input ready

  abbrev first_point : (k : ℕ) (named : NamedSub) → IsNamedSub (flow_named table typed) k named → (p : NamedPoint) (rest : List NamedPoint) → named.points ≡ p ∷ rest
      → is_some_point (path_points program effects (sub_of program k))
  first_point = packages.first_point table typed effects input ready

  module _ (inner : InnerFrame table typed effects) where
    abbrev outer : List Frame
    outer = inner.below.stage.frame ∷ inner.rest

    abbrev older : List ViewStage
    older = inner.below ∷ inner.more_frames

    abbrev depth : ℕ
    depth = suc (length inner.rest)

    abbrev between : (g : ViewStage) → Has (inner.below ∷ inner.more_frames) g → StandsBetween table typed effects unmoved_stage local inner.state (suc (length inner.rest)) (inner.below ∷ inner.more_frames) g
    between = innermost.between table typed effects input ready inner

    abbrev other : Around (home s (suc (length inner.rest)))
    other = beside_them table typed effects unmoved_stage local inner.state (suc (length inner.rest)) (inner.below ∷ inner.more_frames) between

    abbrev alone : (w : Way) → IsNear (suc (length inner.rest)) w → IsFar (suc (length inner.rest)) (GoneElsewhere program effects (inner.below ∷ inner.more_frames)) w → ⊥
    alone = innermost.alone table typed effects input ready inner

    abbrev main_turn : Turn
    main_turn = standing.t table typed effects input ready inner.state inner.top older outer inner.named inner.p inner.frames inner.of_sub inner.at_point

    abbrev own_facts : List Fact
    own_facts = standing.facts table typed effects input ready inner.state inner.top older outer inner.named inner.p inner.frames inner.of_sub inner.at_point inner.path

    abbrev handed_on : List Fact
    handed_on = handed table typed effects unmoved_stage local inner.state (suc (length inner.rest)) (inner.below ∷ inner.more_frames) between

    abbrev facts_now : List Fact
    facts_now = own_facts ++ handed_on

    abbrev viewed : Viewed (home s depth) sees other inner.views (view_here s inner.state) facts_now
    viewed = innermost.viewed table typed effects input ready inner

    abbrev left_scope : List ℕ
    left_scope = drop (taken inner.p.instr) inner.p.scope

    abbrev shared : Shares s (taken inner.p.instr) inner.top.frame.waits inner.p.scope
    shared = innermost.shared table typed effects input ready inner

    abbrev Plain : Type 0
    Plain = AreOwnless s (temporaries_of s (take (taken inner.p.instr) inner.p.scope))

    abbrev easy : Turn
    easy = eased main_turn

    abbrev viewed_easy : Plain → Viewed (home s depth) sees other inner.views (view_here s easy.state) facts_now × Kept s inner.state.memory (waiting_in easy.state)
    viewed_easy = innermost.ownless_easy table typed effects input ready inner

    abbrev others_await : returns_value inner.p.instr ≡ false → AreAwaited table typed (awaited (sub_of program inner.top.frame.sub) (inner.top.frame.next ∷ inner.top.before)) (stages_of older)
    others_await = innermost.others_await table typed effects input ready inner

    abbrev Along : Outcome → Type 0
    Along outcome = LeadsAlong table typed effects inner.p.instr inner.state.memory (record { stage = inner.top; views = inner.views; cells = [] }) (inner.below ∷ inner.more_frames) outcome

    abbrev ends_raised : (how : Exception) (m : Memory) → Along (steps.raised main_turn how m)
    ends_raised = innermost.ends_raised table typed effects input ready inner

    module _ (n : ℕ) (actuals : TypedTree) (result : Option ℕ) (e : inner.p.instr ≡ Call n actuals result) where
      abbrev called : IsCalled table typed n actuals result
      called = calling.called table typed effects input ready inner n actuals result e

      abbrev formals : List ℕ
      formals = calling.formals table typed effects input ready inner n actuals result e

      abbrev kinds : (x : ℕ) → Has formals x → IsKindOfFormal s x
      kinds = calling.kinds table typed effects input ready inner n actuals result e

      abbrev plain_there : TakesPassed s actuals (temporaries_of s (take (taken inner.p.instr) inner.p.scope))
      plain_there = calling.plain_there table typed effects input ready inner n actuals result e

      abbrev procedure : Bool
      procedure = calling.procedure table typed effects input ready inner n actuals result e

      abbrev ways_there : List Passing
      ways_there = calling.ways_there table typed effects input ready inner n actuals result e

      abbrev holds_now : Holds s sees depth inner.views inner.state.memory
      holds_now = calling.holds_now table typed effects input ready inner n actuals result e

      abbrev live_now : (w : Way) (l : ways.Loc) → IsOwners s w → ways.Reaches (seen s inner.state.memory (waiting_in easy.state) inner.state.leaks) w l
          → (content s inner.state.memory (waiting_in easy.state) (trunk l)).owns ≡ true
      live_now = calling.live_now table typed effects input ready inner n actuals result e

      abbrev formals_low : AreLowFormals s depth inner.views
      formals_low = calling.formals_low table typed effects input ready inner n actuals result e

      abbrev by_callee : (((x : ℕ) → Has formals x → (object_at s x).mode ≡ mode.In) × ((x : ℕ) → Has formals x → IsCopiedBack s x → ⊥)
          × ChangesLent s sees facts_now formals actuals)
          ⊎ AreLent s sees facts_now formals actuals
      by_callee = calling.by_callee table typed effects input ready inner n actuals result e

      abbrev Given : List Passed → Type 0
      Given = calling.Given table typed effects input ready inner n actuals result e

      abbrev then_now : Now
      then_now = calling.then_now table typed effects input ready inner n actuals result e

      abbrev passed_quiet : Quiet then_now Given (all_passed (steps.here main_turn) ways_there formals actuals (start main_turn))
      passed_quiet = calling.passed_quiet table typed effects input ready inner n actuals result e

      abbrev view_now : ways.View
      view_now = calling.view_now table typed effects input ready inner n actuals result e

      abbrev call_point : (k : ℕ) × (successor main_turn 0 ≡ Some k) × Has main_turn.point.next k
      call_point = calling.call_point table typed effects input ready inner n actuals result e

      abbrev waits_with : List Way → Stage
      waits_with = calling.waits_with table typed effects input ready inner n actuals result e

      abbrev none_new : (f : Fact) → Has (facts_before (path_points program effects (sub_of program inner.top.frame.sub)) (inner.top.frame.next ∷ inner.top.before)) f → Has (facts_of program effects inner.top) f
      none_new = calling.none_new table typed effects input ready inner n actuals result e

      abbrev at_successor : (q : NamedPoint) × IsAtPoint inner.named.points call_point.0 q × Leads s (scope_behind inner.p) q.scope
      at_successor = calling.at_successor table typed effects input ready inner n actuals result e

      abbrev late : Option ℕ
      late = calling.late table typed effects input ready inner n actuals result e

      abbrev waits_late : (ways_taken : List Way) → WaitsAt table typed late (waits_with ways_taken)
      waits_late = calling.waits_late table typed effects input ready inner n actuals result e

      abbrev next_there : List ℕ
      next_there = calling.next_there table typed effects input ready inner n actuals result e

      abbrev facts_all : List Fact
      facts_all = calling.facts_all table typed effects input ready inner n actuals result e

      module _ (passed : List Passed) (given : Given passed) where
        abbrev far_views : AreFar (home s depth) inner.views depth
        far_views = calling.far_views table typed effects input ready inner n actuals result e passed given

        abbrev laid : AreLaidOut s sees inner.state.memory depth inner.views view_now formals actuals passed
        laid = calling.laid table typed effects input ready inner n actuals result e passed given

        abbrev outs : List Out
        outs = calling.outs table typed effects input ready inner n actuals result e passed given

        abbrev cells : List Lodge
        cells = calling.cells table typed effects input ready inner n actuals result e passed given

        abbrev all_passed_ways : (ways_taken : List Way) × ArePassedOn s sees inner.state.memory cells depth inner.views facts_all next_there formals passed ways_taken outs
            × ((k : Way) → Has ways_taken k → IsNamedBy s sees depth inner.views facts_all formals actuals k)
        all_passed_ways = calling.all_passed_ways table typed effects input ready inner n actuals result e passed given

        abbrev ways_taken : List Way
        ways_taken = calling.ways_taken table typed effects input ready inner n actuals result e passed given

        abbrev around_names : Around (home s depth)
        around_names = calling.around_names table typed effects input ready inner n actuals result e passed given

        abbrev names_all : Viewed (home s depth) sees around_names inner.views (still (view_here s easy.state)) facts_all
        names_all = calling.names_all table typed effects input ready inner n actuals result e passed given

        abbrev named_cell : (c : Lodge) → Has cells c → IsCellNamed s sees depth facts_all inner.views view_now formals actuals passed c
        named_cell = calling.named_cell table typed effects input ready inner n actuals result e passed given

        abbrev cell_begins : (c : Lodge) → Has cells c → (g : ℕ) × (y : ℕ) × (ways.base_of c.way ≡ ways.OfRoot (ways.OfVariable g y)) × (g ≡ suc depth → ⊥)
        cell_begins = calling.cell_begins table typed effects input ready inner n actuals result e passed given

        abbrev with_all : Memory
        with_all = with_formals s (suc depth) formals passed inner.state.memory

        abbrev checks_there : List (List Leak)
        checks_there = out_checks s main_turn.point.pos inner.state.memory passed actuals

        abbrev leaks_then : List Leak
        leaks_then = inner.state.leaks ++ found_in s inner.state.memory outs

        abbrev enters : Enter s sees ready.accepted.settled ready.owns in_formals (waiting_in easy.state) depth inner.views far_views (inner.holds.only, inner.holds.parts.only) facts_all next_there cells cell_begins (GoneElsewhere program effects older) inner.state.leaks leaks_then formals passed ways_taken
            inner.state.memory with_all
        enters = begins.enters table typed effects input ready inner n actuals result e passed given

        abbrev declared_there : AreDeclared s sees ready.accepted.settled ready.owns in_formals (waiting_in easy.state) depth inner.views far_views (inner.holds.only, inner.holds.parts.only) facts_all next_there cells cell_begins formals passed ways_taken inner.state.leaks leaks_then
            inner.state.memory with_all
        declared_there = enters.0

        abbrev after_call : State
        after_call = steps.leaking checks_there (entered main_turn ready.accepted.settled n actuals passed)

        abbrev called_stage : Stage
        called_stage = record { frame = frame_at_start n (returns_of formals passed); depth = suc depth; before = []; returns = [] }

        abbrev waits_stage : Stage
        waits_stage = waits_with all_passed_ways.0

        abbrev waits_there : ViewStage
        waits_there = calling.waits_there table typed effects input ready inner n actuals result e passed given

        abbrev frames_there : after_call.frames ≡ frame_at_start n (returns_of formals passed) ∷ (waits_stage.frame ∷ outer)
        frames_there = begins.frames_there table typed effects input ready inner n actuals result e passed given

        abbrev hands_there : waiting_in after_call ≡ waiting_in easy.state
        hands_there = begins.hands_there table typed effects input ready inner n actuals result e passed given

        abbrev called_view : ways.View
        called_view = seen s with_all (waiting_in easy.state) leaks_then

        abbrev view_called : called_view ≡ view_here s after_call
        view_called = begins.view_called table typed effects input ready inner n actuals result e passed given

        abbrev stands_then : OwnersStand (home s depth) inner.views facts_all (λ w. GoneElsewhere program effects older w ⊎ TakenBy all_passed_ways.0 w) (view_here s after_call)
        stands_then = begins.stands_then table typed effects input ready inner n actuals result e passed given

        abbrev not_up : (x : ℕ) → home s depth x ≡ suc depth → ⊥
        not_up = begins.not_up table typed effects input ready inner n actuals result e passed given

        abbrev is_waiting : IsWaiting table typed effects after_call n (returns_of formals passed) waits_there
        is_waiting = begins.is_waiting table typed effects input ready inner n actuals result e passed given

        abbrev others_wait : AreWaiting table typed effects after_call inner.top.frame.sub inner.top.frame.returns older
        others_wait = begins.others_wait table typed effects input ready inner n actuals result e passed given

        abbrev known_called : (w : Way) (l : ways.Loc) → ways.IsRooted w → ways.Reaches (view_here s after_call) w l → (view_here s after_call).word l ≡ ways.Gone
            → GoneElsewhere program effects (waits_there ∷ older) w
        known_called = begins.known_called table typed effects input ready inner n actuals result e passed given

        abbrev returned_there : AreReturned s (frame_at_start n (returns_of formals passed))
        returned_there = begins.returned_there table typed effects input ready inner n actuals result e passed given

        abbrev viewed_before_whole : AreUnmet program effects waits_there older
        viewed_before_whole = begins.viewed_before_whole table typed effects input ready inner n actuals result e passed given

        -- ---- the views of what is called

        abbrev opened : Opens (steps.here main_turn) sees seeing ready.accepted.settled (waiting_in easy.state) inner.state.leaks inner.state.memory [] other facts_now inner.views (viewed_easy plain_there.0).1
            (viewed_easy plain_there.0).0 holds_now alone live_now in_formals index_law ready.owns ready.class.parts_named formals_low procedure formals actuals passed
        opened =
            all_opened (steps.here main_turn) sees seeing ready.accepted.settled (waiting_in easy.state) inner.state.leaks inner.state.memory [] other facts_now inner.views (viewed_easy plain_there.0).1
            (viewed_easy plain_there.0).0 holds_now alone live_now in_formals index_law ready.owns ready.class.parts_named formals_low procedure formals actuals passed called.differ given

        abbrev callee_views : Views
        callee_views = opened.0

        from_lent : (y : ℕ) (w : Way) → callee_views.way y ≡ Some w → ((m : Written) → IsNameOf formals actuals y m → IsLentAs s sees facts_now (alias.passed formals actuals) y m)
            → IsFrom s sees depth inner.views facts_now (alias.passed formals actuals) y w
        from_lent =
            opened_from (steps.here main_turn) sees seeing ready.accepted.settled (waiting_in easy.state) inner.state.leaks inner.state.memory [] other facts_now inner.views (viewed_easy plain_there.0).1
            (viewed_easy plain_there.0).0 holds_now alone live_now in_formals index_law ready.owns ready.class.parts_named formals_low procedure formals actuals passed callee_views opened.1

        from_there : AreLent s sees facts_now formals actuals → (y : ℕ) (w : Way) → callee_views.way y ≡ Some w
            → IsFrom s sees depth inner.views facts_now (alias.passed formals actuals) y w
        from_there lent y w has = (let found = opened.1.way y w has in from_lent y w has (lent y found.1 found.0 (opened.1.bare y w has)))

        seen_from : (y : ℕ) (w : Way) → callee_views.way y ≡ Some w → IsSeenFrom s depth inner.views (alias.passed formals actuals) y w
        seen_from =
            opened_seen (steps.here main_turn) sees seeing ready.accepted.settled (waiting_in easy.state) inner.state.leaks inner.state.memory [] other facts_now inner.views (viewed_easy plain_there.0).1
            (viewed_easy plain_there.0).0 holds_now alone live_now in_formals index_law ready.owns ready.class.parts_named formals_low procedure formals actuals passed callee_views opened.1

        part_from : (y : ℕ) (q : List Step) (w : Way) → callee_views.part_way y q ≡ Some w → IsSeenFrom s depth inner.views (alias.passed formals actuals) y w
        part_from =
            opened_part (steps.here main_turn) sees seeing ready.accepted.settled (waiting_in easy.state) inner.state.leaks inner.state.memory [] other facts_now inner.views (viewed_easy plain_there.0).1
            (viewed_easy plain_there.0).0 holds_now alone live_now in_formals index_law ready.owns ready.class.parts_named formals_low procedure formals actuals passed callee_views opened.1

        changed_bare : (x : ℕ) → sees x ≡ false → is_bundle s x ≡ false
        changed_bare x changes = by_kind (is_bundle s x) refl
          where
            by_kind : (b : Bool) → is_bundle s x ≡ b → b ≡ false
            by_kind false e = refl
            by_kind true e = absurd (true_false (sees x) (standing.bundle_sees table typed effects input ready x e) changes)

        -- what one is lent that changes what it sees
        lent_changed : (x : ℕ) → Has formals x → is_given s x ≡ true → sees x ≡ false → (m : Written) → IsNameOf formals actuals x m
            → IsLentAs s sees facts_now (alias.passed formals actuals) x m
        lent_changed x has is changes m of = by_either by_callee (λ modes. (modes.2 x has is changes m of)) (λ lent. (lent x has is (changed_bare x changes) m of))

        from_changed : (x : ℕ) (w : Way) → callee_views.way x ≡ Some w → sees x ≡ false → IsFrom s sees depth inner.views facts_now (alias.passed formals actuals) x w
        from_changed x w has changes = (let found = opened.1.way x w has in from_lent x w has (lent_changed x found.1 found.0 changes))

        low_called : (y : ℕ) (w : Way) → callee_views.way y ≡ Some w → IsLow s depth w
        low_called =
            low_of (steps.here main_turn) sees seeing ready.accepted.settled (waiting_in easy.state) inner.state.leaks inner.state.memory [] other facts_now inner.views (viewed_easy plain_there.0).1
            (viewed_easy plain_there.0).0 holds_now alone live_now in_formals index_law ready.owns ready.class.parts_named formals_low procedure formals actuals passed callee_views opened.1

        abbrev less_now : (f : Fact) → Has facts_all f → Has facts_now f
        less_now = calling.less_now table typed effects input ready inner n actuals result e passed given

        -- no place that is taken meets what they see
        meets_taken : (y : ℕ) (w : Way) → callee_views.way y ≡ Some w → (to : Way) → Has ways_taken to → Meet w to → ⊥
        meets_taken y w has to taken meets =
            let by = all_passed_ways.2 to taken in
            by_either by_callee
            (λ modes. (modes.1 by.by.formal (passed_formal formals actuals by.by by.among) by.back))
            (λ lent. (from_place s sees depth inner.views facts_now (alias.passed formals actuals) y w (from_there lent y w has) around_names (still (view_here s easy.state)) facts_all names_all less_now
            by.by by.among by.back by.name by.called by.named by.plain by.unlent (subst (Meet w) (sym by.means) meets)))

        -- nothing of what is shown to one is moved or borrowed
        unborrowed : (y : ℕ) (w : Way) (to : IsSeenFrom s depth inner.views (alias.passed formals actuals) y w) → sees to.actual.name.root ≡ false → Unborrowed facts_now to.from
        unborrowed y w to root_plain = (clear_named s sees facts_now formals actuals (calling.clear_there table typed effects input ready inner n actuals result e)
            (record { formal = y; actual = to.actual }) to.of to.given root_plain to.from (sym to.called)).0

        -- a function has formals of mode `in` alone
        copies_of_procedure : (b : alias.Passed) → Has (alias.passed formals actuals) b → IsCopiedBack s b.formal → (sub_of program n).result ≡ None
        copies_of_procedure b among back = by_result (sub_of program n).result refl
          where
            by_result : (o : Option ℕ) → (sub_of program n).result ≡ o → o ≡ None
            by_result None is = refl
            by_result (Some t) is = absurd (back (ready.class.modes n t (ap (λ (z : Signature). z.result) (signature_is program n) ∙ is) b.formal
                (subst (λ z. Has z b.formal) (sym (ap (λ (z : Signature). z.formals) (signature_is program n))) (passed_formal formals actuals b among))))

        -- nor does it meet what parts of formals see
        meets_taken_part : (y : ℕ) (q : List Step) (w : Way) → callee_views.part_way y q ≡ Some w → (to : Way) → Has ways_taken to → Meet w to → ⊥
        meets_taken_part y q w has to taken meets =
            let by = all_passed_ways.2 to taken in
            let part = part_from y q w has in
            seen_apart s sees depth around_names inner.views (still (view_here s easy.state)) facts_all names_all by.name by.named by.plain by.unlent (sees_view s sees seeing)
            part.from part.there part.named part.begins part.goes
            (λ plain h m fact over. unborrowed y w part (ap (λ (z : PlaceName). sees z.root) part.called ∙ plain) h m (less_now (Lent Borrowed h m) fact) over)
            (λ over. apart_listed s sees (alias.passed formals actuals)
            (apart_there program effects ready.accepted.no_reports (flow_sub own inner.named)
            (standing.in_program table typed effects input ready inner.state inner.top older outer inner.named inner.p inner.frames inner.of_sub inner.at_point) main_turn.point
            (standing.in_sub table typed effects input ready inner.state inner.top older outer inner.named inner.p inner.frames inner.of_sub inner.at_point) n actuals result e called.answers
            (copies_of_procedure by.by by.among by.back))
            by.by (record { formal = y; actual = part.actual }) by.among part.of
            (λ same. by.back (ap (λ z. (object_at s z).mode) same ∙ mode_in (object_at s y).mode (second_true (is_formal s y) (is_in (object_at s y).mode) (given_formal s y part.given))))
            (inl by.back) (inr (many_bundle s sees in_formals y (opened.1.parts y q w has).bundle))
            (subst (λ (z : PlaceName). overlaps z part.actual.name ≡ true) (sym by.called) (subst (λ (z : PlaceName). overlaps (ways.name_of by.name) z ≡ true) (sym part.called) over)))
            (subst (λ z. Meet z (expand inner.views part.there)) (sym by.means) (subst (Meet to) part.leads (flip w to meets)))

        -- nor one that another one of them sees, if it changes that
        callee_apart : (x y : ℕ) (w u : Way) → callee_views.way x ≡ Some w → callee_views.way y ≡ Some u → (y ≡ x → ⊥) → sees x ≡ false
            → ways.Under w u ⊎ ways.Under u w → ⊥
        callee_apart x y w u has there differs plain meets =
            let to = seen_from y u there in
            from_apart s sees depth inner.views facts_now (alias.passed formals actuals) x w (from_changed x w has plain) other (view_here s easy.state) (viewed_easy plain_there.0).0
            (sees_view s sees seeing) y u to
            (unborrowed y u to) differs meets

        -- nor what a part of one sees
        parts_apart : (x : ℕ) (q : List Step) (w : Way) → callee_views.part_way x q ≡ Some w → (y : ℕ) (u : Way) → callee_views.way y ≡ Some u → sees y ≡ false
            → ways.Under u w ⊎ ways.Under w u → ⊥
        parts_apart x q w has y u there plain meets =
            let to = part_from x q w has in
            from_apart s sees depth inner.views facts_now (alias.passed formals actuals) y u (from_changed y u there plain) other (view_here s easy.state) (viewed_easy plain_there.0).0
            (sees_view s sees seeing) x w to (unborrowed x w to)
            (λ same. true_false (sees y) (ap sees (sym same) ∙ standing.bundle_sees table typed effects input ready x (opened.1.parts x q w has).bundle) plain) meets

        -- none of the frames around goes past what it changes
        callee_past : (x : ℕ) (w : Way) → callee_views.way x ≡ Some w → (ways.Named (home s (suc depth)) (callee_views.up x) → ⊥) → sees x ≡ false → (k : Way) (m : ℕ)
            → KeptBy (waits_there ∷ older) k m → Past w k → ⊥
        callee_past x w has named_there plain k m keeps past = by_frame (from_changed x w has plain) keeps
          where
            by_frame : IsFrom s sees depth inner.views facts_now (alias.passed formals actuals) x w → KeptBy (waits_there ∷ older) k m → ⊥
            by_frame from (g, inr there, way) =
                from_far s sees depth inner.views facts_now (alias.passed formals actuals) x w from other (view_here s easy.state) (viewed_easy plain_there.0).0 k m (g, there, way) past
            by_frame from (g, inl same, way) = elim (subst (λ z. IsWayOf z k m) (sym same) way) [
              | inl (y, is, cell) ↦ from_past s sees depth inner.views facts_now (alias.passed formals actuals) x w from other (view_here s easy.state) (viewed_easy plain_there.0).0 y k is past
              | inr (inr (y, q, is, number)) ↦ from_past_part s sees depth inner.views facts_now (alias.passed formals actuals) x w from other (view_here s easy.state) (viewed_easy plain_there.0).0 y q k is past
              | inr (inl (c, there, is, number)) ↦ (
                  let cell = named_cell c there in
                  let under_whole : ways.Under c.way (expand inner.views cell.whole) =
                  subst (λ z. ways.Under z (expand inner.views cell.whole)) cell.leads (expand_under inner.views c.name cell.whole (λ r is. absurd (cell.deep r is)) (no_part (home s depth) sees inner.views (still (view_here s easy.state)) facts_all names_all.views cell.whole cell.plain) cell.begins) in
                  from_place s sees depth inner.views facts_now (alias.passed formals actuals) x w from around_names (still (view_here s easy.state)) facts_all names_all less_now
                  cell.by cell.among cell.back cell.whole cell.called cell.named cell.plain cell.unlent
                  (inl (under_on w c.way (expand inner.views cell.whole) (past_under w c.way (subst (Past w) (sym is) past)) under_whole)))
            ]

        -- it begins at no variable of its frame
        low_frame : (w : Way) (f y : ℕ) → ways.base_of w ≡ ways.OfRoot (ways.OfVariable f y) → IsLow s depth w → f ≡ suc depth → ⊥
        low_frame w f y base (inl at_home) same =
            not_up (ways.number_of w) ((same_variable (home s depth (ways.number_of w)) (ways.number_of w) f y (sym (named_base (home s depth) w at_home) ∙ base)).0 ∙ same)
        low_frame w f y base (inr (foreign, low, some)) same =
            (let frames_are = (same_variable foreign.0 foreign.1 f y (sym foreign.2 ∙ base)).0 in omega (arith, low, frames_are, same))

        -- its way reaches what it reached
        reach_called : (y : ℕ) (w : Way) (k : ℕ) → callee_views.way y ≡ Some w → ways.Reaches (seen s inner.state.memory (waiting_in easy.state) inner.state.leaks) w (ways.OfCell k)
            → ways.Reaches (view_here s after_call) w (ways.OfCell k)
        reach_called y w k has reach =
            let low = low_called y w has in
            let begin = low_begins s depth w low in
            subst (λ z. ways.Reaches z w (ways.OfCell k)) view_called
            (declared_there.stays w begin.0 begin.1 begin.2 (low_frame w begin.0 begin.1 begin.2 low)
            (λ to taken past. meets_taken y w has to taken (inr (past_under to w past))) k reach)

        part_low : (y : ℕ) (q : List Step) (w : Way) → callee_views.part_way y q ≡ Some w → IsLow s depth w
        part_low =
            low_part (steps.here main_turn) sees seeing ready.accepted.settled (waiting_in easy.state) inner.state.leaks inner.state.memory [] other facts_now inner.views (viewed_easy plain_there.0).1
            (viewed_easy plain_there.0).0 holds_now alone live_now in_formals index_law ready.owns ready.class.parts_named formals_low procedure formals actuals passed callee_views opened.1

        reach_part : (y : ℕ) (q : List Step) (w : Way) (k : ℕ) → callee_views.part_way y q ≡ Some w
            → ways.Reaches (seen s inner.state.memory (waiting_in easy.state) inner.state.leaks) w (ways.OfCell k) → ways.Reaches (view_here s after_call) w (ways.OfCell k)
        reach_part y q w k has reach =
            let low = part_low y q w has in
            let begin = low_begins s depth w low in
            subst (λ z. ways.Reaches z w (ways.OfCell k)) view_called
            (declared_there.stays w begin.0 begin.1 begin.2 (low_frame w begin.0 begin.1 begin.2 low)
            (λ to taken past. meets_taken_part y q w has to taken (inr (past_under to w past))) k reach)

        -- what is gone for the caller and the frames around it is excused by its facts before the call, or is taken
        excused_called : (z : Way) → GoneElsewhere program effects (waits_there ∷ older) z → ExcusedBy (home s depth) inner.views other facts_now z ⊎ TakenBy ways_taken z
        excused_called z (g, inr has, what) =
            inl (elsewhere_excused table typed effects unmoved_stage local inner.state depth older between inner.views own_facts z (g, has, what))
        excused_called z (g, inl same, what) = by_either (subst (λ (y : ViewStage). IsMovedBy (home s y.stage.depth) y.views (facts_of program effects y.stage) z ⊎ TakenBy y.stage.returns z) (sym same) what)
            (λ (u, moved, leads). (inl (inl (inl (
              u,
              (
                subst (λ d. ways.Named (home s d) u) inner.deep moved.0,
                Has-append_left own_facts handed_on (Moved (ways.name_of u))
                    (subst (λ fs. Has fs (Moved (ways.name_of u))) (standing.facts_are table typed effects input ready inner.state inner.top older outer inner.named inner.p inner.frames inner.of_sub inner.at_point inner.path)
                    (none_new (Moved (ways.name_of u)) moved.1)),
              ),
              leads,
            )))))
            (λ taken. (inr taken))

        callee_whole : (x : ℕ) (w z : Way) → callee_views.way x ≡ Some w → GoneElsewhere program effects (waits_there ∷ older) z → ways.Under z w ⊎ ways.Under w z → ⊥
        callee_whole x w z has gone meets = by_either (excused_called z gone)
            (λ excused. (opened_whole (steps.here main_turn) sees seeing ready.accepted.settled (waiting_in easy.state) inner.state.leaks inner.state.memory [] other facts_now inner.views (viewed_easy plain_there.0).1
            (viewed_easy plain_there.0).0 holds_now alone live_now in_formals index_law ready.owns ready.class.parts_named formals_low procedure formals actuals passed callee_views opened.1
            (ExcusedBy (home s depth) inner.views other facts_now) (λ y is. is) x w z has excused meets))
            (λ (to, taken, steps_on, is). (meets_taken x w has to taken
            (meets_front to z w (subst (ways.Under to) (sym is) (under_along to to steps_on (under_itself to))) (flip z w meets))))

        parts_whole : (x : ℕ) (q : List Step) (w z : Way) → callee_views.part_way x q ≡ Some w → GoneElsewhere program effects (waits_there ∷ older) z
            → ways.Under z w ⊎ ways.Under w z → ⊥
        parts_whole x q w z has gone meets = by_either (excused_called z gone)
            (λ excused. (opened_parts_whole (steps.here main_turn) sees seeing ready.accepted.settled (waiting_in easy.state) inner.state.leaks inner.state.memory [] other facts_now inner.views (viewed_easy plain_there.0).1
            (viewed_easy plain_there.0).0 holds_now alone live_now in_formals index_law ready.owns ready.class.parts_named formals_low procedure formals actuals passed callee_views opened.1
            (ExcusedBy (home s depth) inner.views other facts_now) (λ y is. is) x q w z has excused meets))
            (λ (to, taken, steps_on, is). (meets_taken_part x q w has to taken
            (meets_front to z w (subst (ways.Under to) (sym is) (under_along to to steps_on (under_itself to))) (flip z w meets))))

        -- what its views see that begins at package objects is kept by the frames around
        shared_from : (x : ℕ) (w : Way) (to : IsSeenFrom s depth inner.views (alias.passed formals actuals) x w) → (sees x ≡ false → sees to.actual.name.root ≡ false)
            → IsLow s depth w → ways.Named (home s (suc depth)) w → IsShared (home s (suc depth)) (LentBy program effects (waits_there ∷ older)) (sees x) w
        shared_from x w to plain low named_there = by_either (low_there s depth w (omega (arith)) low)
            (λ far. (absurd (not_elsewhere (home s (suc depth)) w named_there far.0)))
            (λ (at_home, shared_root). (shows.shared_at table typed effects input ready inner n actuals result e passed given
            (record { formal = x; actual = to.actual }) to.of to.given to.from to.named to.called to.there to.begins to.goes
            (λ changes. ap (λ (z : PlaceName). sees z.root) (sym to.called) ∙ plain changes)
            w to.leads (package_named s (suc depth) depth w shared_root named_there) shared_root))

        callee_shared : AreShared (home s (suc depth)) sees (LentBy program effects (waits_there ∷ older)) callee_views
        callee_shared = (
          λ x w has given_up named_there.
              let found = opened.1.way x w has in
              let to = seen_from x w has in
              shared_from x w to (λ changes. (lent_changed x found.1 found.0 changes to.actual to.of).plain) (low_called x w has) named_there,
          λ x q w has named_there.
              let sight = standing.bundle_sees table typed effects input ready x (opened.1.parts x q w has).bundle in
              subst (λ b. IsShared (home s (suc depth)) (LentBy program effects (waits_there ∷ older)) b w) sight
              (shared_from x w (part_from x q w has) (λ changes. absurd (true_false (sees x) sight changes)) (part_low x q w has) named_there),
        )

        -- no result waits in the frame below, since a call comes after no return
        none_below : NoneGiven s inner.below
        none_below = elim (inner.above.1).0.1 [
          | inl none ↦ none
          | inr (some, returned, none_back, was) ↦ absurd (elim (ready.traversing.ending inner.top.frame.sub (inner.running.0).entered some inner.top.before inner.top.frame.next inner.path returned) [
            | inl (z, ends) ↦ (let never : Call n actuals result ≡ EndScope z = sym e ∙ sym (innermost.instr_there table typed effects input ready inner) ∙ ends in absurd (false≢true (ap is_end_scope_instruction never)))
            | inr finishes ↦ (let never : Call n actuals result ≡ Finish = sym e ∙ sym (innermost.instr_there table typed effects input ready inner) ∙ finishes in absurd (false≢true (ap is_finish_instruction never)))
          ])
        ]

        entered_sound : Along (Goes after_call)
        entered_sound = (
          record {
            top = called_stage;
            views = callee_views;
            older = waits_there ∷ older;
            stages = subst (AreStages (called_stage ∷ stages_of (waits_there ∷ older))) (sym frames_there) (refl, refl, (refl, inner.deep, inner.stages));
            running = (
              called.runs,
              returned_there,
              (is_waiting, others_wait, viewed_before_whole, subst (λ d. IsBeyond program effects d inner.views older) (sym inner.deep) inner.placed_before.1),
            );
            awaited = (
              packages.first_waits table typed effects input ready (suc depth) n (returns_of formals passed) called.runs.named called.runs.stands called.runs.point
                  called.runs.points called.runs.begins,
              (waits_late all_passed_ways.0, others_await (ap returns_value e)),
            );
            path = begins (first_point n called.runs.named called.runs.stands called.runs.point called.runs.points called.runs.begins);
            viewed = record {
              owned = stands_then.owned;
              covered = stands_then.covered;
              known = λ w l rooted r gone. inr (known_called w l rooted r gone);
              clear = record {
                moved = λ l h k m has there over. has;
                lent = λ b h k m has there off over. has;
                seen = λ b h k m has there over. has;
                owned = λ k has. absurd has;
              };
              views = opened_views (steps.here main_turn) sees seeing ready.accepted.settled (waiting_in easy.state) inner.state.leaks inner.state.memory [] other facts_now inner.views (viewed_easy plain_there.0).1
                  (viewed_easy plain_there.0).0 holds_now alone live_now in_formals index_law ready.owns ready.class.parts_named formals_low procedure formals actuals passed callee_views opened.1
                  (view_here s after_call) (facts_of program effects called_stage) callee_apart reach_called
                  (standing.bundle_sees table typed effects input ready) parts_apart reach_part;
              whole = λ x w z has outer gone meets. callee_whole x w z has gone meets;
              whole_parts = λ x q w z has gone meets. parts_whole x q w z has gone meets;
            };
            kept = subst (Kept s with_all) (sym hands_there) declared_there.typed;
            named = called.runs.named;
            of_sub = called.runs.stands;
            point = called.runs.point;
            at_point = ([], called.runs.points, called.runs.begins, refl);
            scope = λ f x q k held. by_either (declared_there.held f x q k held)
                (λ before. (by_either (inner.scope f x q k before) (λ less. (inl (omega (arith, less)))) (λ mine. (let is = mine.0 in inl (omega (arith, is))))))
                (λ mine. (inr (
                  mine.0,
                  within_lasting s x called.runs.point.scope (called.begins x mine.1 (ap (λ b. b || is_anonymous (view_of s x)) (owns_there s ready.accepted.settled ready.owns with_all f x q k held)))
                      (plain_unheld s x (formal_lasts (object_at s x).kind (called.formals x mine.1))),
                )));
            holds = record {
              held = λ x k lasts view bare at. callee_held x k view bare at;
              within = λ x k view bare at. (let own_way = callee_held x k view bare at in (callee_placed x own_way.0 own_way.1).within);
              only = λ x w has. given_view s x (opened.1.way x w has).0;
              lies = opened_lies (steps.here main_turn) sees seeing ready.accepted.settled (waiting_in easy.state) inner.state.leaks inner.state.memory [] other facts_now inner.views (viewed_easy plain_there.0).1
                  (viewed_easy plain_there.0).0 holds_now alone live_now in_formals index_law ready.owns ready.class.parts_named formals_low procedure formals actuals passed callee_views opened.1 (omega (arith));
              owners = λ x w has. (let found = opened.1.way x w has in subst (IsOwners s) found.3 ((found.2).1).owners);
              passed = λ x w has formal at_home. subst (ways.Named (home s (suc depth))) (opened.1.ups x) at_home;
              own = λ x w has sees_not given_not. absurd (true_false (is_given s x) (opened.1.way x w has).0 given_not);
              taken = λ x w has at_home. absurd (subst (ways.Named (home s (suc depth))) (opened.1.ups x) at_home);
              parts = opened_parts (steps.here main_turn) sees seeing ready.accepted.settled (waiting_in easy.state) inner.state.leaks inner.state.memory [] other facts_now inner.views (viewed_easy plain_there.0).1
                  (viewed_easy plain_there.0).0 holds_now alone live_now in_formals index_law ready.owns ready.class.parts_named formals_low procedure formals actuals passed callee_views opened.1
                  with_all inner.above.0 local declared_there.views (standing.bundle_sees table typed effects input ready);
              low = opened_parts_low (steps.here main_turn) sees seeing ready.accepted.settled (waiting_in easy.state) inner.state.leaks inner.state.memory [] other facts_now inner.views (viewed_easy plain_there.0).1
                  (viewed_easy plain_there.0).0 holds_now alone live_now in_formals index_law ready.owns ready.class.parts_named formals_low procedure formals actuals passed callee_views opened.1
                  (omega (arith));
            };
            placed = callee_placed;
            past = (callee_past, callee_shared);
            none_above = (
              λ f x k less view at. by_either (declared_there.views f x view)
                  (λ same. ((inner.above.0).0 f x k (omega (arith, less)) view (sym (same 0) ∙ at)))
                  (λ shown. (let up = shown.0 in omega (arith, less, up))),
              λ f x i k less bundle at. by_either (declared_there.views f x (bundle_view s x bundle))
                  (λ same. ((inner.above.0).1 f x i k (omega (arith, less)) bundle (sym (same i) ∙ at)))
                  (λ shown. (let up = shown.0 in omega (arith, less, up))),
            );
            traversals = (
              (
                none_given table typed (view_here s after_call) (record { stage = called_stage; views = callee_views; cells = [] })
                    (empty_given table typed (record { stage = called_stage; views = callee_views; cells = [] }) refl),
                inl (named_given table typed waits_there left_scope shared.left (innermost.named_left_here table typed effects input ready inner)),
                (none_below, (inner.above.1).0.2),
              ),
              (
                traversal_there,
                ((inner.above.1).1.0, (inner.above.1).1.1),
              ),
            );
          },
          calls_one waits_stage cells refl (refl, refl, refl) refl none_new (subst (λ d. AreCarried s (λ f. f ≡ suc d → ⊥) cells [] inner.state.memory with_all) (sym inner.deep) declared_there.carried),
        )
          where
            -- the first formal of a traversal function sees what its actual designates
            traversal_there : IsTraversal table typed (record { stage = called_stage; views = callee_views; cells = [] }) waits_there
            traversal_there f traversed =
                let made = acting.made table typed effects input ready inner n actuals result e f traversed in
                let traversing = acting.traversing table typed effects input ready inner n actuals result e f traversed in
                begins_traversal table typed (record { stage = called_stage; views = callee_views; cells = [] }) waits_there f (callee_views.way f) traversed
                (opened_rooted (steps.here main_turn) sees seeing ready.accepted.settled (waiting_in easy.state) inner.state.leaks inner.state.memory [] other facts_now inner.views (viewed_easy plain_there.0).1
                (viewed_easy plain_there.0).0 holds_now alone live_now in_formals index_law ready.owns ready.class.parts_named formals_low procedure formals actuals passed callee_views opened.1 (sub_acts (sub_of program n)) f)
                (no_returns s sees inner.state.memory depth inner.views view_now formals actuals passed laid
                (λ x has. followed.modes_there table typed effects input ready inner.state inner.top older outer inner.named inner.p inner.frames inner.of_sub inner.at_point inner.path n actuals result e f traversed x (subst (λ z. Has z x) traversing.formals has)))
                inner.named inner.of_sub at_successor.0 at_successor.1
                (subst (λ d. SeesFirst s d (at_successor.0).instr n inner.views (callee_views.way f)) (sym inner.deep)
                (opened_first (steps.here main_turn) sees seeing ready.accepted.settled (waiting_in easy.state) inner.state.leaks inner.state.memory [] other facts_now inner.views (viewed_easy plain_there.0).1
                (viewed_easy plain_there.0).0 holds_now alone live_now in_formals index_law ready.owns ready.class.parts_named formals_low procedure formals actuals passed callee_views opened.1 f traversing.rest made.call traversing.formals made.actuals_are (followed.differ table typed effects input ready inner.state inner.top older outer inner.named inner.p inner.frames inner.of_sub inner.at_point inner.path n actuals result e f traversed) n (at_successor.0).instr
                (taker_takes s n made.call inner.named.sub.result (at_successor.0).instr (made.taker call_point.0 call_point.2 at_successor.0 at_successor.1))))
                f traversed

            formal_lasts : (k : ObjectKind) → is_formal_kind k ≡ true → is_temporary k ≡ false
            formal_lasts object_kind.Formal is = refl
            formal_lasts k is = absurd (false≢true is)

            callee_held : (x k : ℕ) → is_view s x ≡ true → is_bundle s x ≡ false → (get_or (variable_slots s (home s (suc depth) x) x with_all.variables) 0 no_slot).word ≡ machine.Cell k
                → (w : Way) × (callee_views.way x ≡ Some w) × (callee_views.cell x ≡ k)
            callee_held =
                opened_held (steps.here main_turn) sees seeing ready.accepted.settled (waiting_in easy.state) inner.state.leaks inner.state.memory [] other facts_now inner.views (viewed_easy plain_there.0).1
                (viewed_easy plain_there.0).0 holds_now alone live_now in_formals index_law ready.owns ready.class.parts_named formals_low procedure formals actuals passed callee_views opened.1
                with_all inner.above.0 local declared_there.views (λ x has. kind_given s sees in_formals x (kinds x has))

            callee_placed : ArePlaced program (suc depth) (facts_of program effects called_stage) callee_views called.runs.point.scope
            callee_placed =
                opened_placed (steps.here main_turn) sees seeing ready.accepted.settled (waiting_in easy.state) inner.state.leaks inner.state.memory [] other facts_now inner.views (viewed_easy plain_there.0).1
                (viewed_easy plain_there.0).0 holds_now alone live_now in_formals index_law ready.owns ready.class.parts_named formals_low procedure formals actuals passed callee_views opened.1
                (omega (arith)) program (facts_of program effects called_stage) called.runs.point.scope refl
                (λ y has given. called.begins y has (given_type s y given))

      pub calls_it : Along (turn main_turn (Call n actuals result))
      calls_it =
          call_goes main_turn ready.accepted.settled n actuals Along ends_raised Given entered_sound ways_there refl
          (start main_turn) then_now refl refl passed_quiet
