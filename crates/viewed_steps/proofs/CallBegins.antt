-- The state after a call: the caller waits, and what is called begins.
use Rattle.soundness.specs.PartOffsets.Parts.{offset_in}
use Rattle.soundness.proofs.Lists.{Has-append_cases}
use Rattle.std.proofs.Common.{◌≡◌, refl, sym, ap, ◌∙◌, subst, ◌⊎◌, inl, inr, ℕ, suc, ◌<◌, true, false, List, [], ◌∷◌, ◌++◌, take, length, get_or, arith, Option, Some, Bool, flat_map}
use Rattle.machine.specs.spark_base.Lists.{Has}
use Rattle.machine.specs.place_names.declared.fact.Fact.{Fact}
use Rattle.machine.specs.place_names.declared.fact.Fact.TheVariants.{Moved, Lent}
use Rattle.machine.specs.place_names.declared.rule.Loan.{Loan}
use Rattle.machine.specs.place_names.Names.{Name as PlaceName, object}
use Rattle.machine.specs.type_definitions.Types.{Table}
use Rattle.machine.specs.typed_tree.Trees.{TypedTree}
use Rattle.machine.specs.typed_tree.Programs.{TypedProgram}
use Rattle.machine.specs.flow_paths.declared.report.Effects.{Effects}
use Rattle.machine.specs.flow_paths.Instructions.{Call}
use Rattle.machine.specs.flow_paths.Objects.{Typing, object_at, is_package_object, Signature}
use Rattle.machine.specs.flow_paths.Aliases as alias
use Rattle.machine.specs.flow_paths.Points.{NamedPoint}
use Rattle.machine.specs.flow_paths.Laid.{FlowSub, FlowProgram, flow_sub, typing_of, flow_typing, flow_program}
use Rattle.machine.specs.flow_paths.Paths.{PathPoint, ControlPath, goes_on, facts_before}
use Rattle.machine.specs.flow_paths.Effects.{flow_sub_at, path_points}
use Rattle.machine.specs.flow_paths.Scopes.{taken, scope_behind, Leads}
use Rattle.machine.specs.Words as machine
use Rattle.machine.specs.Memory.{Memory, no_slot, variable_slots}
use Rattle.machine.specs.States.{Frame, State, Leak, sub_of, frame_at_start}
use Rattle.machine.specs.Step.{Turn, start, led, successor}
use Rattle.machine.specs.Step as steps
use Rattle.machine.specs.Calls.{Passed, with_formals, returns_of, out_checks}
use Rattle.machine.specs.Owners.{waiting_in}
use Rattle.soundness.specs.OwnedWays.Ways.{Step, Way, Past}
use Rattle.soundness.specs.OwnedWays.Ways as ways
use Rattle.soundness.specs.Seen.{content, seen, home, word_in, steps_in}
use Rattle.soundness.specs.Typed.{Kept}
use Rattle.soundness.specs.Sound.{Stage, facts_of, Uses, InScope, IsAtPoint, view_of as view_here}
use Rattle.soundness.proofs.Passing.{entered, signature_is}
use Rattle.soundness.proofs.Points.{path_there}
use Rattle.soundness.proofs.Used.{called_used}
use Rattle.soundness.proofs.Waits.{led_waits}
use Rattle.soundness.proofs.Eased.{eased}
use Rattle.soundness.specs.OwnedLoans.Views.{Around, IsMovedBy, AreClear as FactsAreClear, AreViews, Viewed, IsOuter}
use Rattle.soundness.proofs.OwnedLoans.Moves.{parts_on, view_on, reached}
use Rattle.soundness.proofs.ViewedSoundness.Names.{parts_same}
use Rattle.soundness.proofs.ViewedSoundness.ViewKinds.{bundle_view}
use Rattle.soundness.specs.ViewedSoundness.Holds.{Holds, is_view}
use Rattle.viewed_steps.specs.Awaited.{temporaries_of, lasting_of, AreOwnless, TakesPassed}
use Rattle.viewed_steps.proofs.Waited.{Shares}
use Rattle.viewed_steps.specs.Sound.{AreUnmet, HoldsAt, ArePlaced, ViewStage, GoneElsewhere, Disturbs, IsWaiting, AreWaiting, IsKindOfFormal, AreReturned, withheld, IsBareOf, passed_roots, shown_at, shown_one, known_at}
use Rattle.viewed_steps.specs.Ready.{IsReady, IsCalled}
use Rattle.viewed_steps.specs.Taken.{TakenBy, AreTaken, Lodge}
use Rattle.viewed_steps.proofs.Apart.{moved_same}
use Rattle.viewed_steps.proofs.Waiting.{StandsBetween, kept_low, beside_them, handed, bare_still, none_moved}
use Rattle.viewed_steps.proofs.Onward.{all_on}
use Rattle.viewed_steps.proofs.Between.{OwnersStand, fewer_taken}
use Rattle.viewed_steps.proofs.Outside.{kept_clear, IsFree}
use Rattle.machine.specs.flow_paths.Effects.{written_by}
use Rattle.viewed_steps.proofs.LaidOut.{AreLaidOut}
use Rattle.viewed_steps.proofs.Outs.{Out, found_in}
use Rattle.viewed_steps.proofs.Entered.{ArePassedOn, IsOpen, AreBlank, not_above}
use Rattle.viewed_steps.proofs.Entering.{AreDeclared, Enter, formals_of_returns, all_declared, AtFirst}
use Rattle.viewed_steps.proofs.Passed.{IsNamedBy, found_there, all_returned}
use Rattle.viewed_steps.proofs.Cells.{IsCellNamed}
use Rattle.viewed_steps.proofs.Uses.{called_writes}
use Rattle.viewed_steps.proofs.Standing as standing
use Rattle.viewed_steps.proofs.Packages as packages
use Rattle.viewed_steps.proofs.Innermost as innermost
use Rattle.viewed_steps.proofs.Views.{AreAccess, AreFar}
use Rattle.viewed_steps.proofs.Shown.{same_cells}
use Rattle.viewed_steps.proofs.CallTakes as call_takes
use Rattle.viewed_steps.proofs.Calling as calling
use Rattle.viewed_steps.proofs.Bared.{taken_bare}
use Rattle.viewed_steps.proofs.Withheld.{kept_cases}
use Rattle.viewed_steps.proofs.Showing.{IsShownOf, none_moved as none_shown}
use Rattle.std.specs.Prelude.{flat_map}
use Rattle.machine.specs.place_names.declared.rule.Loan.TheVariants.{Observed}
use Rattle.viewed_steps.proofs.CallShows as shows
use Rattle.viewed_steps.proofs.Supplied.{SuppliesAll}
use Rattle.viewed_steps.specs.Seeing.{sees_in}
use Rattle.viewed_steps.proofs.InnerFrame.{InnerFrame}
use Rattle.soundness.proofs.Parted.{by_either}

same_loan : {l k : Loan} {h b : ℕ} {m q : PlaceName} → Lent l h m ≡ Lent k b q → (l ≡ k) × (m ≡ q)
same_loan is = (cc, cc)

module _ (table : Table) (typed : TypedProgram) (effects : Effects) (input : List ℕ) (ready : IsReady table typed effects) where
  abbrev sees : ℕ → Bool
  sees = sees_in (flow_program table typed)

  abbrev program : FlowProgram
  program = flow_program table typed

  abbrev s : Typing
  s = flow_typing program

  abbrev own : Typing
  own = typing_of table typed

  abbrev in_formals : AreAccess s
  in_formals = standing.in_formals table typed effects input ready

  abbrev local : (x : ℕ) → is_view s x ≡ true → is_package_object s x ≡ false
  local = standing.local table typed effects input ready

  abbrev unmoved_stage : (e : Stage) → e.frame.sub ≡ 0 → (name : PlaceName) → Has (facts_of program effects e) (Moved name) → ⊥
  unmoved_stage = packages.unmoved_stage table typed effects input ready

  module _ (inner : InnerFrame table typed effects) where
    abbrev outer : List Frame
    outer = inner.below.stage.frame ∷ inner.rest

    abbrev older : List ViewStage
    older = inner.below ∷ inner.more_frames

    abbrev depth : ℕ
    depth = suc (length inner.rest)

    abbrev between : (g : ViewStage) → Has (inner.below ∷ inner.more_frames) g → StandsBetween table typed effects unmoved_stage local inner.state (suc (length inner.rest)) (inner.below ∷ inner.more_frames) g
    between = innermost.between table typed effects input ready inner

    abbrev other : Around (home s (suc (length inner.rest)))
    other = beside_them table typed effects unmoved_stage local inner.state (suc (length inner.rest)) (inner.below ∷ inner.more_frames) between

    abbrev main_turn : Turn
    main_turn = standing.t table typed effects input ready inner.state inner.top older outer inner.named inner.p inner.frames inner.of_sub inner.at_point

    abbrev own_facts : List Fact
    own_facts = standing.facts table typed effects input ready inner.state inner.top older outer inner.named inner.p inner.frames inner.of_sub inner.at_point inner.path

    abbrev handed_on : List Fact
    handed_on = handed table typed effects unmoved_stage local inner.state (suc (length inner.rest)) (inner.below ∷ inner.more_frames) between

    abbrev facts_now : List Fact
    facts_now = own_facts ++ handed_on

    abbrev sub_at_all : flow_sub_at program inner.top.frame.sub ≡ flow_sub own inner.named
    sub_at_all = innermost.sub_at_all table typed effects input ready inner

    abbrev sub_less : inner.top.frame.sub < length program.subs
    sub_less = innermost.sub_less table typed effects input ready inner

    abbrev shared : Shares s (taken inner.p.instr) inner.top.frame.waits inner.p.scope
    shared = innermost.shared table typed effects input ready inner

    abbrev given_words : List (List machine.Word)
    given_words = (start main_turn).waits

    abbrev Plain : Type 0
    Plain = AreOwnless s (temporaries_of s (take (taken inner.p.instr) inner.p.scope))

    abbrev easy : Turn
    easy = eased main_turn

    abbrev viewed_easy : Plain → Viewed (home s depth) sees other inner.views (view_here s easy.state) facts_now × Kept s inner.state.memory (waiting_in easy.state)
    viewed_easy = innermost.ownless_easy table typed effects input ready inner

    module _ (n : ℕ) (actuals : TypedTree) (result : Option ℕ) (e : inner.p.instr ≡ Call n actuals result) where
      abbrev called : IsCalled table typed n actuals result
      called = calling.called table typed effects input ready inner n actuals result e

      abbrev formals : List ℕ
      formals = calling.formals table typed effects input ready inner n actuals result e

      abbrev kinds : (x : ℕ) → Has formals x → IsKindOfFormal s x
      kinds = calling.kinds table typed effects input ready inner n actuals result e

      abbrev plain_there : TakesPassed s actuals (temporaries_of s (take (taken inner.p.instr) inner.p.scope))
      plain_there = calling.plain_there table typed effects input ready inner n actuals result e

      abbrev facts_called : List Fact
      facts_called = calling.facts_called table typed effects input ready inner n actuals result e

      abbrev holds_now : Holds s sees depth inner.views inner.state.memory
      holds_now = calling.holds_now table typed effects input ready inner n actuals result e

      abbrev Given : List Passed → Type 0
      Given = calling.Given table typed effects input ready inner n actuals result e

      abbrev taken_there : (on : List (List machine.Word)) × SuppliesAll s inner.state.memory formals actuals given_words on
      taken_there = calling.taken_there table typed effects input ready inner n actuals result e

      abbrev view_now : ways.View
      view_now = calling.view_now table typed effects input ready inner n actuals result e

      abbrev call_point : (k : ℕ) × (successor main_turn 0 ≡ Some k) × Has main_turn.point.next k
      call_point = calling.call_point table typed effects input ready inner n actuals result e

      abbrev waits_with : List Way → Stage
      waits_with = calling.waits_with table typed effects input ready inner n actuals result e

      abbrev facts_there : facts_before (path_points program effects (sub_of program inner.top.frame.sub)) (inner.top.frame.next ∷ inner.top.before) ≡ facts_called
      facts_there = calling.facts_there table typed effects input ready inner n actuals result e

      abbrev spared_then : (name : PlaceName) → Has facts_called (Moved name) → is_package_object s name.root ≡ true → Uses effects n name.root → ⊥
      spared_then = calling.spared_then table typed effects input ready inner n actuals result e

      abbrev callee_less : n < length program.subs
      callee_less = calling.callee_less table typed effects input ready inner n actuals result e

      abbrev lends_there : (l : Loan) (h : ℕ) (name : PlaceName) → Has (facts_before (path_points program effects (sub_of program inner.top.frame.sub)) (inner.top.frame.next ∷ inner.top.before)) (Lent l h name) → is_package_object s name.root ≡ true
          → Disturbs effects l n name.root → ⊥
      lends_there = calling.lends_there table typed effects input ready inner n actuals result e

      abbrev at_successor : (q : NamedPoint) × IsAtPoint inner.named.points call_point.0 q × Leads s (scope_behind inner.p) q.scope
      at_successor = calling.at_successor table typed effects input ready inner n actuals result e

      abbrev next_scope : InScope s inner.state.memory depth (lasting_of s (at_successor.0).scope)
      next_scope = calling.next_scope table typed effects input ready inner n actuals result e

      abbrev next_placed : ArePlaced program (suc (length inner.rest)) facts_called inner.views (at_successor.0).scope
      next_placed = calling.next_placed table typed effects input ready inner n actuals result e

      abbrev next_there : List ℕ
      next_there = calling.next_there table typed effects input ready inner n actuals result e

      abbrev facts_all : List Fact
      facts_all = calling.facts_all table typed effects input ready inner n actuals result e

      module _ (passed : List Passed) (given : Given passed) where
        abbrev other_all : Around (home s depth)
        other_all = calling.other_all table typed effects input ready inner n actuals result e passed given

        abbrev far_views : AreFar (home s depth) inner.views depth
        far_views = calling.far_views table typed effects input ready inner n actuals result e passed given

        abbrev laid : AreLaidOut s sees inner.state.memory depth inner.views view_now formals actuals passed
        laid = calling.laid table typed effects input ready inner n actuals result e passed given

        abbrev outs : List Out
        outs = calling.outs table typed effects input ready inner n actuals result e passed given

        abbrev cells : List Lodge
        cells = calling.cells table typed effects input ready inner n actuals result e passed given

        abbrev all_passed_ways : (ways_taken : List Way) × ArePassedOn s sees inner.state.memory cells depth inner.views facts_all next_there formals passed ways_taken outs
            × ((k : Way) → Has ways_taken k → IsNamedBy s sees depth inner.views facts_all formals actuals k)
        all_passed_ways = calling.all_passed_ways table typed effects input ready inner n actuals result e passed given

        abbrev ways_taken : List Way
        ways_taken = calling.ways_taken table typed effects input ready inner n actuals result e passed given

        abbrev well_before : Viewed (home s depth) sees other_all inner.views (view_here s easy.state) facts_now
        well_before = calling.well_before table typed effects input ready inner n actuals result e passed given

        abbrev views_called : AreViews (home s depth) sees inner.views (view_here s easy.state) facts_called
        views_called = calling.views_called table typed effects input ready inner n actuals result e passed given

        abbrev named_cell : (c : Lodge) → Has cells c → IsCellNamed s sees depth facts_all inner.views view_now formals actuals passed c
        named_cell = calling.named_cell table typed effects input ready inner n actuals result e passed given

        abbrev cell_plain : (c : Lodge) → Has cells c → ways.Named (home s depth) c.name × (sees (ways.number_of c.name) ≡ false)
        cell_plain = calling.cell_plain table typed effects input ready inner n actuals result e passed given

        abbrev cell_begins : (c : Lodge) → Has cells c → (g : ℕ) × (y : ℕ) × (ways.base_of c.way ≡ ways.OfRoot (ways.OfVariable g y)) × (g ≡ suc depth → ⊥)
        cell_begins = calling.cell_begins table typed effects input ready inner n actuals result e passed given

        abbrev cell_aside : (c : Lodge) → Has cells c → (to : Way) → Has ways_taken to → ways.Past to c.way → ⊥
        cell_aside = calling.cell_aside table typed effects input ready inner n actuals result e passed given

        abbrev free_to : (to : Way) → Has ways_taken to → IsFree table typed effects unmoved_stage local inner.state depth older between to
        free_to = call_takes.free_to table typed effects input ready inner n actuals result e passed given

        abbrev open_there : IsOpen (IsMovedBy (home s depth) inner.views facts_all) (GoneElsewhere program effects older) ways_taken
        open_there = call_takes.open_there table typed effects input ready inner n actuals result e passed given

        abbrev blank_formals : AreBlank s depth inner.state.memory formals
        blank_formals = calling.blank_formals table typed effects input ready inner n actuals result e passed given

        abbrev with_all : Memory
        with_all = with_formals s (suc depth) formals passed inner.state.memory

        abbrev checks_there : List (List Leak)
        checks_there = out_checks s main_turn.point.pos inner.state.memory passed actuals

        abbrev leaks_then : List Leak
        leaks_then = inner.state.leaks ++ found_in s inner.state.memory outs

        leaks_same : leaks_then ≡ inner.state.leaks ++ flat_map (λ (leaks : List Leak). leaks) checks_there
        leaks_same = ap (λ z. inner.state.leaks ++ z) (sym (found_there s sees ready.accepted.settled depth inner.views view_now main_turn.point.pos inner.state.memory formals actuals passed laid))

        pub at_first : AtFirst s sees ready.accepted.settled ready.owns in_formals (waiting_in easy.state) depth inner.views far_views (inner.holds.only, inner.holds.parts.only) facts_all next_there cells cell_begins inner.state.memory
        at_first = record { typed = (viewed_easy plain_there.0).1; leaks = inner.state.leaks; owned = well_before.owned; there = λ c has. (named_cell c has).reaches }

        pub enters : Enter s sees ready.accepted.settled ready.owns in_formals (waiting_in easy.state) depth inner.views far_views (inner.holds.only, inner.holds.parts.only) facts_all next_there cells cell_begins (GoneElsewhere program effects older) inner.state.leaks leaks_then formals passed ways_taken
            inner.state.memory with_all
        enters =
            all_declared s sees ready.accepted.settled ready.owns in_formals (waiting_in easy.state) depth inner.views far_views (inner.holds.only, inner.holds.parts.only) facts_all next_there cells cell_begins (GoneElsewhere program effects older) inner.state.leaks formals passed ways_taken outs
            inner.state.memory inner.state.memory all_passed_ways.1 open_there at_first (viewed_easy plain_there.0).1
            (λ c has. ((named_cell c has).reaches, cell_aside c has)) (calling.stands_all table typed effects input ready inner n actuals result e passed given) blank_formals (λ o has. ((λ f y q some is k. refl), (λ c q k there is. refl))) (same_cells inner.state.memory inner.state.memory refl)

        abbrev declared_there : AreDeclared s sees ready.accepted.settled ready.owns in_formals (waiting_in easy.state) depth inner.views far_views (inner.holds.only, inner.holds.parts.only) facts_all next_there cells cell_begins formals passed ways_taken inner.state.leaks leaks_then
            inner.state.memory with_all
        declared_there = enters.0

        abbrev after_call : State
        after_call = steps.leaking checks_there (entered main_turn ready.accepted.settled n actuals passed)

        abbrev waits_stage : Stage
        waits_stage = waits_with all_passed_ways.0

        abbrev waits_there : ViewStage
        waits_there = calling.waits_there table typed effects input ready inner n actuals result e passed given

        abbrev root_written : (y : ℕ) → Has (passed_roots effects waits_there) y → is_package_object s y ≡ true → Has (written_by effects inner.top.frame.sub) y
        root_written = call_takes.root_written table typed effects input ready inner n actuals result e passed given

        abbrev root_unused : (y : ℕ) → Has (passed_roots effects waits_there) y → is_package_object s y ≡ true → Uses effects n y → ⊥
        root_unused = call_takes.root_unused table typed effects input ready inner n actuals result e passed given

        pub frames_there : after_call.frames ≡ frame_at_start n (returns_of formals passed) ∷ (waits_stage.frame ∷ outer)
        frames_there =
            ap (λ z. frame_at_start n (returns_of formals passed) ∷ led main_turn (record inner.top.frame { waits = steps.waiting main_turn }) z) call_point.1

        pub hands_there : waiting_in after_call ≡ waiting_in easy.state
        hands_there = led_waits main_turn (record inner.top.frame { waits = steps.waiting main_turn }) (successor main_turn 0)

        abbrev called_view : ways.View
        called_view = seen s with_all (waiting_in easy.state) leaks_then

        pub view_called : called_view ≡ view_here s after_call
        view_called = (λ j. seen s with_all (sym hands_there j) (leaks_same j))

        pub stands_then : OwnersStand (home s depth) inner.views facts_all (λ w. GoneElsewhere program effects older w ⊎ TakenBy all_passed_ways.0 w) (view_here s after_call)
        stands_then = subst (OwnersStand (home s depth) inner.views facts_all (λ w. GoneElsewhere program effects older w ⊎ TakenBy all_passed_ways.0 w)) view_called enters.1

        -- its views see what they saw
        views_then : AreViews (home s depth) sees inner.views (view_here s after_call) facts_called
        views_then = (
          λ x w has. (
              let base = call_takes.view_base table typed effects input ready inner n actuals result e passed given x w has in
              view_on (home s depth) sees other_all inner.views (view_here s easy.state) (view_here s after_call) facts_called facts_called x w (views_called.0 x w has) (λ b m loan. loan)
              (subst (λ z. ways.Reaches z w (ways.OfCell (inner.views.cell x))) view_called
              (declared_there.stays w base.0 base.1 base.2 base.3 (call_takes.off_taken table typed effects input ready inner n actuals result e passed given x w has)
              (inner.views.cell x) (reached (home s depth) sees other_all inner.views (view_here s easy.state) facts_called x w (views_called.0 x w has))))),
          parts_on (home s depth) sees other_all inner.views (view_here s easy.state) (view_here s after_call) views_called.1
              (λ x q w has reach. (let base = call_takes.part_base table typed effects input ready inner n actuals result e passed given x q w has in
              subst (λ z. ways.Reaches z w (ways.OfCell (inner.views.part_cell x q))) view_called
              (declared_there.stays w base.0 base.1 base.2 base.3 (call_takes.off_taken_parts table typed effects input ready inner n actuals result e passed given x q w has)
              (inner.views.part_cell x q) reach))),
        )

        abbrev all_called : (f : Fact) → Has facts_called f → Has facts_all f
        all_called = calling.all_called table typed effects input ready inner n actuals result e

        -- what is moved there is moved by the frame
        moved_called : (w : Way) → IsMovedBy (home s depth) inner.views facts_all w → IsMovedBy (home s depth) inner.views facts_called w
        moved_called w these = let (u, moved, leads) = these in elim (calling.splits_all table typed effects input ready inner n actuals result e (Moved (ways.name_of u)) moved.1) [
          | inl mine ↦ (u, (moved.0, mine), leads)
          | inr there ↦ absurd (none_moved table typed effects unmoved_stage local inner.state depth older between (ways.name_of u) there)
        ]

        held_called : (f x : ℕ) (q : List Step) (k : ℕ) → (f ≡ suc depth → ⊥) → word_in s.table (content s with_all [] (ways.OfRoot (ways.OfVariable f x))) q ≡ ways.Held k
            → word_in s.table (content s inner.state.memory [] (ways.OfRoot (ways.OfVariable f x))) q ≡ ways.Held k
        held_called f x q k off held = elim (declared_there.held f x q k held) [ inl before ↦ before | inr mine ↦ absurd (off mine.0) ]

        pub not_up : (x : ℕ) → home s depth x ≡ suc depth → ⊥
        not_up = not_above s sees ready.accepted.settled ready.owns in_formals (waiting_in easy.state) inner.state.leaks depth inner.views far_views (inner.holds.only, inner.holds.parts.only) facts_all next_there cells

        -- the variables of its views stay
        word_still : (x i : ℕ) → is_view s x ≡ true
            → (get_or (variable_slots s (home s depth x) x with_all.variables) i no_slot).word ≡ (get_or (variable_slots s (home s depth x) x inner.state.memory.variables) i no_slot).word
        word_still x i view = by_either (declared_there.views (home s depth x) x view) (λ same. (same i)) (λ shown. (absurd (not_up x shown.0)))

        -- what is moved or taken of package objects isn't used
        kept_unused : (name : PlaceName) → Has (withheld program effects waits_there) (Moved name) → is_package_object s name.root ≡ true → Uses effects n name.root → ⊥
        kept_unused name has shared uses = elim (kept_cases program effects waits_there (Moved name) has) [
          | inl known ↦ elim (Has-append_cases (facts_of program effects waits_stage) (shown_at program waits_stage) (Moved name) known.0) [
            | inl fact ↦ spared_then name (subst (λ z. Has z (Moved name)) facts_there fact) shared uses
            | inr shown ↦ absurd (none_shown program (sub_of program inner.top.frame.sub) (inner.top.frame.next ∷ inner.top.before) name shown)
          ]
          | inr (y, passed, is) ↦ (
              let root : name.root ≡ y = ap (λ (z : PlaceName). z.root) (moved_same name (object y) is) in
              root_unused y passed (ap (is_package_object s) (sym root) ∙ shared) (subst (Uses effects n) root uses))
        ]

        taken_then : AreTaken s sees cells with_all depth inner.views facts_all next_there (returns_of formals passed) ways_taken
        taken_then = enters.2

        -- no number stands in what is taken
        bare_there : (w : Way) (l : ways.Loc) (q : List Step) → IsBareOf s waits_there w l q → (r : List Step) (k : ℕ)
            → word_in s.table (content s with_all [] l) (r ++ q) ≡ ways.Held k → ⊥
        bare_there w l q these r k held =
            let (taken, top_part) = these in
            taken_bare s sees cells with_all depth inner.views facts_all next_there (view_here s easy.state) (λ c has. (named_cell c has).reaches) (returns_of formals passed) ways_taken taken_then w l
            (by_either top_part
            (λ (c, has, way, is). (
              subst (λ z. ways.Reaches (view_here s easy.state) w z) is (subst (λ z. ways.Reaches (view_here s easy.state) z (ways.OfCell c.cell)) way (named_cell c has).reaches),
              ap steps_in (sym is),
            ))
            (λ (y, also, way, is). (subst (λ z. ways.Reaches (view_here s easy.state) z l) way (sym is), ap steps_in (sym is)))) q taken r k held

        -- what is shown
        shown_here : (f : Fact) → Has (shown_at program waits_stage) f → IsShownOf s (alias.passed formals actuals) f
        shown_here f has = shows.shown_of table typed effects input ready inner n actuals result e f (subst (λ z. Has z f) (shows.shown_is table typed effects input ready inner n actuals result e all_passed_ways.0) has)

        known_is : known_at program effects waits_stage ≡ facts_called ++ flat_map (shown_one s) (alias.passed formals actuals)
        known_is = λ j. facts_there j ++ shows.shown_is table typed effects input ready inner n actuals result e all_passed_ways.0 j

        pub is_waiting : IsWaiting table typed effects after_call n (returns_of formals passed) waits_there
        is_waiting = record {
          runs = inner.running.0;
          plain = inner.running.1;
          path = subst (λ (z : FlowSub). ControlPath (path_points program effects z) (inner.top.frame.next ∷ inner.top.before) call_point.0)
              (sym (standing.sub_is table typed effects input ready inner.state inner.top older outer inner.named inner.p inner.frames inner.of_sub inner.at_point))
              (goes_on inner.top.before inner.top.frame.next call_point.0 (standing.path_here table typed effects input ready inner.state inner.top older outer inner.named inner.p inner.frames inner.of_sub inner.at_point inner.path)
              (subst (λ (z : PathPoint). Has z.next call_point.0) (sym (path_there own inner.named inner.top.frame.next inner.p inner.at_point program effects)) call_point.2));
          named = inner.named;
          of_sub = inner.of_sub;
          point = at_successor.0;
          at_point = at_successor.1;
          scope = λ x q k held. elim (next_scope inner.top.depth x q k (held_called inner.top.depth x q k (λ above_it. (let d = inner.deep in omega (arith, above_it, d))) held)) [
            | inl less ↦ absurd (omega (arith, less, inner.deep))
            | inr mine ↦ mine.1
          ];
          lends = λ l k name has shared disturbs. elim (Has-append_cases (facts_of program effects waits_stage) (shown_at program waits_stage) (Lent l k name) has) [
            | inl fact ↦ lends_there l k name fact shared disturbs
            | inr shown ↦ (
                let b = shown_here (Lent l k name) shown in
                let is = same_loan b.is in
                shows.shown_spared table typed effects input ready inner n actuals result e b.passed b.has b.formal b.shared
                (subst (λ z. Disturbs effects z n (b.passed).actual.name.root) is.0 (subst (λ (z : PlaceName). Disturbs effects l n z.root) is.1 disturbs)))
          ];
          shown = λ l k name shown shared. (let b = shown_here (Lent l k name) shown in
              let is = same_loan b.is in
              let used = shows.shown_used table typed effects input ready inner n actuals result e b.passed b.has b.formal b.shared in (
                subst (λ (z : PlaceName). Uses effects inner.top.frame.sub z.root) (sym is.1) used.0,
                λ borrowed. subst (λ (z : PlaceName). Has (written_by effects inner.top.frame.sub) z.root) (sym is.1) (used.1 (sym is.0 ∙ borrowed)),
              ));
          apart = λ f k name has borrowed seen over. shows.shown_apart table typed effects input ready inner n actuals result e (calling.clear_there table typed effects input ready inner n actuals result e) (calling.clear_called table typed effects input ready inner n actuals result e passed given) f k name
              (subst (λ z. Has z f) known_is has) borrowed (subst (λ z. Has z (Lent Observed k name)) known_is seen) over;
          unmoved = λ name has shared uses. kept_unused name has shared uses;
          written = root_written;
          names = λ to has. (let by = all_passed_ways.2 to has in record {
            name = by.name;
            called = subst (λ d. ways.Named (home s d) by.name) (sym inner.deep) by.named;
            plain = by.plain;
            leads = by.means;
            unlent = λ l h m lent over. by.unlent l h m (all_called (Lent l h m) (subst (λ z. Has z (Lent l h m)) facts_there lent)) over;
            cleared = λ m moved covered. by.cleared m (all_called (Moved m) (subst (λ z. Has z (Moved m)) facts_there moved)) covered;
            written = call_takes.name_written table typed effects input ready inner n actuals result e passed given to has;
          });
          off = call_takes.off_taken table typed effects input ready inner n actuals result e passed given;
          off_parts = call_takes.off_taken_parts table typed effects input ready inner n actuals result e passed given;
          goes = λ to has y base shared.
              subst (λ d. Has (written_by effects inner.top.frame.sub) y
              ⊎ ((x : ℕ) × (w : Way) × (inner.views.way x ≡ Some w) × (ways.Named (home s d) (inner.views.up x) → ⊥) × (sees x ≡ false) × ways.Under w to)) (sym inner.deep)
              (call_takes.goes_to table typed effects input ready inner n actuals result e passed given to has y base shared);
          uses = λ x uses. called_used program effects ready.accepted.effects_are inner.top.frame.sub (flow_sub own inner.named) sub_at_all sub_less n callee_less
              main_turn.point (standing.in_sub table typed effects input ready inner.state inner.top older outer inner.named inner.p inner.frames inner.of_sub inner.at_point) actuals result e x uses;
          writes = λ x written. called_writes program effects ready.accepted.effects_are inner.top.frame.sub (flow_sub own inner.named) sub_at_all sub_less n callee_less
              main_turn.point (standing.in_sub table typed effects input ready inner.state inner.top older outer inner.named inner.p inner.frames inner.of_sub inner.at_point) actuals result e x written;
          clear = subst (FactsAreClear sees) (sym facts_there) (calling.clear_called table typed effects input ready inner n actuals result e passed given);
          views = subst (λ z. AreViews (home s inner.top.depth) sees inner.views (view_here s after_call) z) (sym facts_there)
              (subst (λ d. AreViews (home s d) sees inner.views (view_here s after_call) facts_called) (sym inner.deep) views_then);
          holds = subst (λ d. HoldsAt s sees d inner.views with_all at_successor.0) (sym inner.deep) (record {
            held = λ x k lasts view bare at. holds_now.held x k view bare (sym (word_still x 0 view) ∙ at);
            within = λ x k view bare at. (let own_way = holds_now.held x k view bare (sym (word_still x 0 view) ∙ at) in (next_placed x own_way.0 own_way.1).within);
            only = inner.holds.only;
            lies = inner.holds.lies;
            owners = inner.holds.owners;
            passed = inner.holds.passed;
            own = inner.holds.own;
            taken = inner.holds.taken;
            parts = parts_same s sees depth inner.views inner.state.memory with_all (λ x part_path bundle. word_still x (offset_in s.table (object_at s x).of part_path) (bundle_view s x bundle)) inner.holds.parts;
            low = inner.holds.low;
          });
          placed = subst (λ d. ArePlaced program d (facts_of program effects (waits_with all_passed_ways.0)) inner.views (at_successor.0).scope) (sym inner.deep)
              (subst (λ z. ArePlaced program depth z inner.views (at_successor.0).scope) (sym facts_there) next_placed);
          kept = λ c has. record {
            named = subst (λ d. ways.Named (home s d) c.name) (sym inner.deep) (cell_plain c has).0;
            leads = (named_cell c has).leads;
            reaches = subst (λ z. ways.Reaches z c.way (ways.OfCell c.cell)) view_called
                (let begin = cell_begins c has in
                declared_there.stays c.way begin.0 begin.1 begin.2 begin.3 (cell_aside c has) c.cell (named_cell c has).reaches);
            aside = cell_aside c has;
          };
          bare = bare_there;
          taken = subst (λ z. AreTaken s sees cells with_all inner.top.depth inner.views z next_there (returns_of formals passed) all_passed_ways.0) (sym facts_there)
              (subst (λ d. AreTaken s sees cells with_all d inner.views facts_called next_there (returns_of formals passed) all_passed_ways.0) (sym inner.deep)
              (fewer_taken s sees cells with_all depth inner.views facts_all facts_called next_there all_called (returns_of formals passed) all_passed_ways.0 enters.2));
        }

        pub others_wait : AreWaiting table typed effects after_call inner.top.frame.sub inner.top.frame.returns older
        others_wait =
            all_on table typed effects unmoved_stage local inner.state after_call depth
            (λ f x q k some less held. held_called f x q k (λ above_it. omega (arith, less, above_it)) held)
            (λ f x i some less view. elim (declared_there.views f x view) [
              | inl same ↦ same i
              | inr shown ↦ (let up = shown.0 in absurd (omega (arith, less, up)))
            ])
            inner.top.frame.sub inner.top.frame.returns older outer inner.stages (omega arith)
            (record {
              far = λ w k keeps_it. (let root = kept_low table typed effects unmoved_stage local inner.state depth older between w k keeps_it in
                  subst (λ z. ways.Reaches z w (ways.OfCell k)) view_called
                  (declared_there.stays w root.0 root.1 root.2 (λ same. (let less = root.3 in omega (arith, less, same)))
                  (λ to taken past. kept_clear table typed effects unmoved_stage local inner.state depth older between to (free_to to taken) w k keeps_it past) k
                  (((viewed_easy plain_there.0).0).far w k keeps_it)));
              bare = bare_still table typed effects unmoved_stage local older easy.state after_call
                  (λ w c q r k there held. declared_there.carried.in_cells c (r ++ q) k (λ taken. (taken.3).1) held)
                  (λ y q r k there shared held. held_called 0 y (r ++ q) k (λ above_it. omega (arith, above_it)) held) ((viewed_easy plain_there.0).0).bare;
            }) inner.running.2

        -- what is gone then is known to those that wait
        pub known_called : (w : Way) (l : ways.Loc) → ways.IsRooted w → ways.Reaches (view_here s after_call) w l → (view_here s after_call).word l ≡ ways.Gone
            → GoneElsewhere program effects (waits_there ∷ older) w
        known_called w l rooted r gone = elim (stands_then.known w l rooted r gone) [
          | inr (inl (g, has, what)) ↦ (g, inr has, what)
          | inr (inr taken_there) ↦ (waits_there, inl refl, inr taken_there)
          | inl moved_all ↦ (
            waits_there,
            inl refl,
            inl (subst (λ d. IsMovedBy (home s d) inner.views (facts_of program effects waits_stage) w) (sym inner.deep)
                (subst (λ z. IsMovedBy (home s depth) inner.views z w) (sym facts_there) (moved_called w moved_all))),
          )
        ]

        pub returned_there : AreReturned s (frame_at_start n (returns_of formals passed))
        returned_there = (
          λ x has. all_returned s sees ready.accepted.settled depth inner.views view_now ready.owns inner.state.memory formals actuals passed laid called.actuals_stay kinds x
              (subst (λ z. Has z x) (ap (λ (z : Signature). z.formals) (signature_is program n)) has),
          λ r has. called.formals r.formal
              (formals_of_returns s sees ready.accepted.settled ready.owns in_formals (waiting_in easy.state) depth inner.views far_views (inner.holds.only, inner.holds.parts.only) facts_all next_there cells cell_begins formals passed r has),
        )

        -- nothing that is gone meets what its views see of others
        pub viewed_before_whole : AreUnmet program effects waits_there older
        viewed_before_whole = (
          subst (λ d. (x : ℕ) (w z : Way) → inner.views.way x ≡ Some w → IsOuter (home s d) inner.views x w → GoneElsewhere program effects older z → ways.Under z w ⊎ ways.Under w z → ⊥)
              (sym inner.deep) inner.viewed_before.whole,
          inner.viewed_before.whole_parts,
        )
