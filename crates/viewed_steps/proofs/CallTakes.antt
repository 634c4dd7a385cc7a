-- What a call takes: places of which the frames around keep nothing, and package objects that the frame writes.
use Rattle.std.proofs.Common.{◌≡◌, sym, ap, ◌∙◌, subst, ◌⊎◌, inl, inr, ℕ, suc, true, false, List, [], ◌∷◌, ◌++◌, take, length, arith, Option, Some, Bool, if◌then◌else◌}
use Rattle.machine.specs.spark_base.Lists.{Has}
use Rattle.machine.specs.place_names.declared.act.Placed.{Placed}
use Rattle.machine.specs.place_names.declared.fact.Fact.{Fact}
use Rattle.machine.specs.place_names.declared.fact.Fact.TheVariants.{Moved, Lent}
use Rattle.machine.specs.place_names.declared.rule.Loan.{Loan}
use Rattle.machine.specs.place_names.declared.rule.Loan.TheVariants.{Borrowed}
use Rattle.machine.specs.place_names.Names.{Name as PlaceName}
use Rattle.machine.specs.type_definitions.Types.{Table}
use Rattle.machine.specs.typed_tree.Trees.{TypedTree}
use Rattle.machine.specs.typed_tree.Programs.{TypedProgram}
use Rattle.machine.specs.flow_paths.declared.report.Effects.{Effects}
use Rattle.machine.specs.flow_paths.Instructions.{Call}
use Rattle.machine.specs.flow_paths.Objects.{Typing, is_package_object}
use Rattle.machine.specs.flow_paths.Aliases as alias
use Rattle.machine.specs.flow_paths.Points.{NamedPoint}
use Rattle.machine.specs.flow_paths.Laid.{FlowProgram, flow_sub, typing_of, flow_typing, flow_program, flow_named}
use Rattle.machine.specs.flow_paths.Paths.{facts_before}
use Rattle.machine.specs.flow_paths.Effects.{path_points}
use Rattle.machine.specs.flow_paths.Scopes.{taken, scope_behind, Leads}
use Rattle.machine.specs.States.{Frame, sub_of}
use Rattle.machine.specs.Step.{Turn, successor}
use Rattle.machine.specs.Step as steps
use Rattle.machine.specs.Calls.{Passed}
use Rattle.machine.specs.Owners.{waiting_in}
use Rattle.soundness.specs.OwnedWays.Ways.{Step, Way, after, Past}
use Rattle.soundness.specs.OwnedWays.Ways as ways
use Rattle.soundness.specs.Seen.{IsNear, content, seen, home, trunk}
use Rattle.soundness.proofs.OwnedWays.Named.{longer}
use Rattle.soundness.proofs.OwnedWays.Dropped.{named_base}
use Rattle.soundness.proofs.Contents.{bool_cases}
use Rattle.soundness.specs.Typed.{Kept}
use Rattle.soundness.specs.Sound.{Stage, facts_of, Uses, IsAtPoint, view_of as view_here}
use Rattle.soundness.proofs.Numbers.{index_law}
use Rattle.soundness.proofs.Scalars.{acts}
use Rattle.soundness.proofs.Around.{IsFar}
use Rattle.soundness.proofs.Eased.{eased}
use Rattle.soundness.specs.OwnedLoans.Views.{Around, Viewed, AreViews, AreClear as FactsAreClear, IsMovedBy, on}
use Rattle.soundness.proofs.OwnedLoans.Ways.{part_root, under_on, lifts, lifted_root, lifted_way, on_named, base_on, on_under}
use Rattle.soundness.proofs.OwnedLoans.Meeting.{stands_base}
use Rattle.soundness.proofs.OwnedLoans.Moves.{view_rooted}
use Rattle.soundness.proofs.ViewedSoundness.ViewKinds.{true_false}
use Rattle.soundness.specs.ViewedSoundness.Holds.{Holds, is_view, IsOwners, Seeing}
use Rattle.viewed_steps.specs.Awaited.{temporaries_of, lasting_of, AreOwnless, TakesPassed}
use Rattle.viewed_steps.proofs.Waited.{Shares}
use Rattle.viewed_steps.specs.Sound.{IsCopiedBack, ViewStage, GoneElsewhere, Disturbs, passed_roots}
use Rattle.viewed_steps.specs.Ready.{IsReady, IsCalled}
use Rattle.viewed_steps.specs.Taken.{Lodge}
use Rattle.viewed_steps.proofs.Waiting.{StandsBetween, gone_low, beside_them, handed}
use Rattle.viewed_steps.proofs.Between.{base_under, same_variable, number_based}
use Rattle.viewed_steps.proofs.Called.{AreGiven}
use Rattle.viewed_steps.proofs.Acted.{all_laid_out}
use Rattle.viewed_steps.proofs.Outside.{IsSpared, gone_clear, IsFree, free_name}
use Rattle.viewed_steps.proofs.Globals.{copied_act, passed_unused}
use Rattle.viewed_steps.proofs.Apart.{written_disturbs}
use Rattle.machine.specs.flow_paths.Effects.{written_by}
use Rattle.viewed_steps.proofs.LaidOut.{AreLaidOut, outs_of, cells_of}
use Rattle.viewed_steps.proofs.Outs.{Out}
use Rattle.viewed_steps.proofs.Entered.{ArePassedOn, IsOpen, not_above}
use Rattle.viewed_steps.proofs.Passed.{IsNamedBy}
use Rattle.viewed_steps.proofs.Cells.{IsCellNamed}
use Rattle.viewed_steps.proofs.Standing as standing
use Rattle.viewed_steps.proofs.Packages as packages
use Rattle.viewed_steps.proofs.Innermost as innermost
use Rattle.viewed_steps.proofs.Views.{AreLowFormals, AreAccess, AreFar, base_named}
use Rattle.viewed_steps.proofs.Lending.{named_has}
use Rattle.viewed_steps.proofs.CallActs as acting
use Rattle.viewed_steps.proofs.Withheld.{passed_from}
use Rattle.viewed_steps.proofs.Roots.{borrower_from, FromGiven}
use Rattle.soundness.proofs.OwnedLoans.Safe.{off_parts, off_view}
use Rattle.viewed_steps.proofs.Handed.{gone_lent}
use Rattle.viewed_steps.proofs.Stilled.{still, lent_only}
use Rattle.viewed_steps.proofs.Calling as calling
use Rattle.viewed_steps.specs.Seeing.{sees_in}
use Rattle.viewed_steps.proofs.Sees.{sees_seeing}
use Rattle.viewed_steps.proofs.InnerFrame.{InnerFrame}
use Rattle.soundness.proofs.Parted.{hand_variable, by_either}

module _ (table : Table) (typed : TypedProgram) (effects : Effects) (input : List ℕ) (ready : IsReady table typed effects) where
  abbrev sees : ℕ → Bool
  sees = sees_in (flow_program table typed)

  abbrev seeing : Seeing (flow_typing (flow_program table typed)) sees
  seeing = sees_seeing (flow_program table typed)

  abbrev program : FlowProgram
  program = flow_program table typed

  abbrev s : Typing
  s = flow_typing program

  abbrev own : Typing
  own = typing_of table typed

  abbrev in_formals : AreAccess s
  in_formals = standing.in_formals table typed effects input ready

  abbrev local : (x : ℕ) → is_view s x ≡ true → is_package_object s x ≡ false
  local = standing.local table typed effects input ready

  abbrev unmoved_stage : (e : Stage) → e.frame.sub ≡ 0 → (name : PlaceName) → Has (facts_of program effects e) (Moved name) → ⊥
  unmoved_stage = packages.unmoved_stage table typed effects input ready

  module _ (inner : InnerFrame table typed effects) where
    abbrev outer : List Frame
    outer = inner.below.stage.frame ∷ inner.rest

    abbrev older : List ViewStage
    older = inner.below ∷ inner.more_frames

    abbrev depth : ℕ
    depth = suc (length inner.rest)

    abbrev between : (g : ViewStage) → Has (inner.below ∷ inner.more_frames) g → StandsBetween table typed effects unmoved_stage local inner.state (suc (length inner.rest)) (inner.below ∷ inner.more_frames) g
    between = innermost.between table typed effects input ready inner

    abbrev other : Around (home s (suc (length inner.rest)))
    other = beside_them table typed effects unmoved_stage local inner.state (suc (length inner.rest)) (inner.below ∷ inner.more_frames) between

    abbrev alone : (w : Way) → IsNear (suc (length inner.rest)) w → IsFar (suc (length inner.rest)) (GoneElsewhere program effects (inner.below ∷ inner.more_frames)) w → ⊥
    alone = innermost.alone table typed effects input ready inner

    abbrev main_turn : Turn
    main_turn = standing.t table typed effects input ready inner.state inner.top older outer inner.named inner.p inner.frames inner.of_sub inner.at_point

    abbrev own_facts : List Fact
    own_facts = standing.facts table typed effects input ready inner.state inner.top older outer inner.named inner.p inner.frames inner.of_sub inner.at_point inner.path

    abbrev handed_on : List Fact
    handed_on = handed table typed effects unmoved_stage local inner.state (suc (length inner.rest)) (inner.below ∷ inner.more_frames) between

    abbrev facts_now : List Fact
    facts_now = own_facts ++ handed_on

    abbrev shared : Shares s (taken inner.p.instr) inner.top.frame.waits inner.p.scope
    shared = innermost.shared table typed effects input ready inner

    abbrev Plain : Type 0
    Plain = AreOwnless s (temporaries_of s (take (taken inner.p.instr) inner.p.scope))

    abbrev named_there : Has (flow_named table typed) inner.named
    named_there = innermost.named_there table typed effects input ready inner

    abbrev easy : Turn
    easy = eased main_turn

    abbrev viewed_easy : Plain → Viewed (home s depth) sees other inner.views (view_here s easy.state) facts_now × Kept s inner.state.memory (waiting_in easy.state)
    viewed_easy = innermost.ownless_easy table typed effects input ready inner

    module _ (n : ℕ) (actuals : TypedTree) (result : Option ℕ) (e : inner.p.instr ≡ Call n actuals result) where
      abbrev called : IsCalled table typed n actuals result
      called = acting.called table typed effects input ready inner n actuals result e

      abbrev formals : List ℕ
      formals = acting.formals table typed effects input ready inner n actuals result e

      abbrev plain_there : TakesPassed s actuals (temporaries_of s (take (taken inner.p.instr) inner.p.scope))
      plain_there = acting.plain_there table typed effects input ready inner n actuals result e

      abbrev procedure : Bool
      procedure = acting.procedure table typed effects input ready inner n actuals result e

      abbrev copies : List Placed
      copies = acting.copies table typed effects input ready inner n actuals result e

      abbrev facts_called : List Fact
      facts_called = acting.facts_called table typed effects input ready inner n actuals result e

      abbrev holds_now : Holds s sees depth inner.views inner.state.memory
      holds_now = acting.holds_now table typed effects input ready inner n actuals result e

      abbrev live_now : (w : Way) (l : ways.Loc) → IsOwners s w → ways.Reaches (seen s inner.state.memory (waiting_in easy.state) inner.state.leaks) w l
          → (content s inner.state.memory (waiting_in easy.state) (trunk l)).owns ≡ true
      live_now = acting.live_now table typed effects input ready inner n actuals result e

      abbrev formals_low : AreLowFormals s depth inner.views
      formals_low = acting.formals_low table typed effects input ready inner n actuals result e

      abbrev Given : List Passed → Type 0
      Given passed =
          AreGiven (steps.here main_turn) sees seeing ready.accepted.settled (waiting_in easy.state) inner.state.leaks inner.state.memory [] other facts_now inner.views (viewed_easy plain_there.0).1 (viewed_easy plain_there.0).0 holds_now alone live_now in_formals
          index_law ready.owns ready.class.parts_named formals_low procedure formals actuals passed

      abbrev view_now : ways.View
      view_now = seen s inner.state.memory (waiting_in easy.state) inner.state.leaks

      abbrev given_laid : (passed : List Passed) → Given passed → AreLaidOut s sees inner.state.memory depth inner.views view_now formals actuals passed
      given_laid passed given =
          all_laid_out (steps.here main_turn) sees seeing ready.accepted.settled (waiting_in easy.state) inner.state.leaks inner.state.memory [] other facts_now inner.views (viewed_easy plain_there.0).1 (viewed_easy plain_there.0).0 holds_now alone live_now in_formals
          index_law ready.owns ready.class.parts_named formals_low procedure formals actuals passed given

      abbrev call_point : (k : ℕ) × (successor main_turn 0 ≡ Some k) × Has main_turn.point.next k
      call_point = acting.call_point table typed effects input ready inner n actuals result e

      abbrev waits_with : List Way → Stage
      waits_with ways_taken = record {
        frame = record inner.top.frame { waits = steps.waiting main_turn; next = call_point.0 };
        depth = inner.top.depth;
        before = inner.top.frame.next ∷ inner.top.before;
        returns = ways_taken;
      }

      abbrev facts_there : facts_before (path_points program effects (sub_of program inner.top.frame.sub)) (inner.top.frame.next ∷ inner.top.before) ≡ facts_called
      facts_there = calling.facts_there table typed effects input ready inner n actuals result e

      abbrev lends_there : (l : Loan) (h : ℕ) (name : PlaceName) → Has (facts_before (path_points program effects (sub_of program inner.top.frame.sub)) (inner.top.frame.next ∷ inner.top.before)) (Lent l h name) → is_package_object s name.root ≡ true
          → Disturbs effects l n name.root → ⊥
      lends_there = calling.lends_there table typed effects input ready inner n actuals result e

      abbrev at_successor : (q : NamedPoint) × IsAtPoint inner.named.points call_point.0 q × Leads s (scope_behind inner.p) q.scope
      at_successor = calling.at_successor table typed effects input ready inner n actuals result e

      abbrev next_there : List ℕ
      next_there = lasting_of s (at_successor.0).scope

      abbrev facts_all : List Fact
      facts_all = after (acts copies) facts_now

      module _ (passed : List Passed) (given : Given passed) where
        abbrev other_all : Around (home s depth)
        other_all = gone_lent table typed effects unmoved_stage local inner.state depth older between

        abbrev far_views : AreFar (home s depth) inner.views depth
        far_views = calling.far_views table typed effects input ready inner n actuals result e passed given

        abbrev outs : List Out
        outs = outs_of s sees inner.state.memory depth inner.views view_now formals actuals passed (given_laid passed given)

        abbrev cells : List Lodge
        cells = cells_of s sees inner.state.memory depth inner.views view_now formals actuals passed (given_laid passed given)

        abbrev well_before : Viewed (home s depth) sees other_all inner.views (view_here s easy.state) facts_now
        well_before = calling.well_before table typed effects input ready inner n actuals result e passed given

        abbrev called_less : (f : Fact) → Has facts_called f → Has own_facts f
        called_less = calling.called_less table typed effects input ready inner n actuals result e passed given

        abbrev views_called : AreViews (home s depth) sees inner.views (view_here s easy.state) facts_called
        views_called = calling.views_called table typed effects input ready inner n actuals result e passed given

        abbrev clear_all : FactsAreClear sees facts_all
        clear_all = calling.clear_all table typed effects input ready inner n actuals result e passed given

        abbrev views_all : AreViews (home s depth) sees inner.views (view_here s easy.state) facts_all
        views_all = calling.views_all table typed effects input ready inner n actuals result e passed given

        abbrev around_names : Around (home s depth)
        around_names = lent_only (home s depth) other_all.lent

        abbrev names_all : Viewed (home s depth) sees around_names inner.views (still (view_here s easy.state)) facts_all
        names_all = calling.names_all table typed effects input ready inner n actuals result e passed given

        abbrev all_passed_ways : (ways_taken : List Way) × ArePassedOn s sees inner.state.memory cells depth inner.views facts_all next_there formals passed ways_taken outs
            × ((k : Way) → Has ways_taken k → IsNamedBy s sees depth inner.views facts_all formals actuals k)
        all_passed_ways = calling.all_passed_ways table typed effects input ready inner n actuals result e passed given

        abbrev ways_taken : List Way
        ways_taken = all_passed_ways.0

        abbrev named_cell : (c : Lodge) → Has cells c → IsCellNamed s sees depth facts_all inner.views view_now formals actuals passed c
        named_cell = calling.named_cell table typed effects input ready inner n actuals result e passed given

        abbrev cell_root : (c : Lodge) (has : Has cells c) → ways.number_of c.name ≡ ways.number_of (named_cell c has).whole
        cell_root = calling.cell_root table typed effects input ready inner n actuals result e passed given

        abbrev waits_there : ViewStage
        waits_there = record { stage = waits_with all_passed_ways.0; views = inner.views; cells = cells }

        act_of_passed : (b : alias.Passed) → Has (alias.passed formals actuals) b → IsCopiedBack s b.formal → is_package_object s b.actual.name.root ≡ true
            → Has (written_by effects inner.top.frame.sub) b.actual.name.root
        act_of_passed b has back shared =
            let act = copied_act s procedure formals actuals b has back in
            innermost.act_writes_it table typed effects input ready inner
            b.actual.name.root shared main_turn.point (standing.in_sub table typed effects input ready inner.state inner.top older outer inner.named inner.p inner.frames inner.of_sub inner.at_point) act.0
            (subst (λ z. Has z act.0) (standing.acts_agree table typed effects input ready inner.state inner.top older outer inner.named inner.p inner.frames inner.of_sub inner.at_point)
            (acting.back_there table typed effects input ready inner n actuals result e b.formal (named_has formals actuals b has) back act.0 act.1)) act.2

        abbrev Given_to : Way → Type 0
        Given_to to = FromGiven (home s depth) sees inner.views (view_here s easy.state) facts_called views_called to

        -- a package object where a way of them begins is passed by its name, or borrowed; or it was lent to the frame
        first_named : (to : Way) (has : Has ways_taken to) (y : ℕ) → ways.base_of to ≡ ways.OfRoot (ways.OfVariable 0 y) → is_package_object s y ≡ true
            → ((all_passed_ways.2 to has).by.actual.name.root ≡ y) ⊎ (((h : ℕ) × (name : PlaceName) × Has facts_called (Lent Borrowed h name) × (name.root ≡ y)) ⊎ Given_to to)
        first_named to has y base shared =
            let by = all_passed_ways.2 to has in
            let first : 0 ≡ home s depth y = ap (λ b. if b then 0 else depth) (sym shared) in
            let own : ways.base_of to ≡ ways.OfRoot (ways.OfVariable (home s depth y) y) = base ∙ ap (λ f. ways.OfRoot (ways.OfVariable f y)) first in
            elim (lifts inner.views by.name) [
              | inl itself ↦ (
                  let same : by.name ≡ to = sym itself ∙ by.means in
                  inl (ap (λ (z : PlaceName). z.root) by.called
                  ∙ number_based (home s depth) by.name y by.named (ap ways.base_of same ∙ own)))
              | inr (inr part) ↦ absurd (true_false (sees part.object) (views_called.1 part.object part.steps part.way part.has).sees
                  (ap sees (sym (part_root inner.views by.name part)) ∙ by.plain))
              | inr (inl lift) ↦ (
                  let goes_there : to ≡ on lift.way lift.rest = sym by.means ∙ lifted_way inner.views by.name lift in
                  let whole : ways.Named (home s depth) to = base_named (home s depth) to y own in
                  let front : ways.Named (home s depth) lift.way = on_named (home s depth) lift.way lift.rest (subst (ways.Named (home s depth)) goes_there whole) in
                  inr (by_either (borrower_from (home s depth) sees inner.views (view_here s easy.state) facts_called views_called lift.object lift.way
                  (ap sees (sym (lifted_root inner.views by.name lift)) ∙ by.plain) lift.has)
                  (λ goes. (inl (
                    goes.0,
                    ways.name_of goes.1,
                    goes.2,
                    sym (longer goes.1 lift.way goes.4).root
                        ∙ number_based (home s depth) lift.way y front (sym (base_on lift.way lift.rest) ∙ ap ways.base_of (sym goes_there) ∙ own),
                  )))
                  (λ (x, u, is, given, sight, under). (inr (
                    x,
                    u,
                    is,
                    given,
                    sight,
                    subst (ways.Under u) (sym goes_there) (under_on u lift.way (on lift.way lift.rest) under (on_under lift.way lift.rest)),
                  )))))
            ]

        pub goes_to : (to : Way) → Has ways_taken to → (y : ℕ) → ways.base_of to ≡ ways.OfRoot (ways.OfVariable 0 y) → is_package_object s y ≡ true
            → Has (written_by effects inner.top.frame.sub) y ⊎ Given_to to
        goes_to to has y base shared =
            let by = all_passed_ways.2 to has in
            elim (first_named to has y base shared) [
              | inl root ↦ inl (subst (Has (written_by effects inner.top.frame.sub)) root (act_of_passed by.by by.among by.back (ap (is_package_object s) root ∙ shared)))
              | inr (inr given) ↦ inr given
              | inr (inl (h, name, lent, root)) ↦ inl (subst (Has (written_by effects inner.top.frame.sub)) root
                  (innermost.borrowed_writes table typed effects input ready inner
                  h name (called_less (Lent Borrowed h name) lent) (ap (is_package_object s) root ∙ shared)))
            ]

        cell_named_root : (c : Lodge) (has : Has cells c) → (named_cell c has).by.actual.name.root ≡ ways.number_of c.name
        cell_named_root c has = ap (λ (z : PlaceName). z.root) (named_cell c has).called ∙ sym (cell_root c has)

        written_cell : (c : Lodge) → Has cells c → is_package_object s (ways.number_of c.name) ≡ true → Has (written_by effects inner.top.frame.sub) (ways.number_of c.name)
        written_cell c has shared =
            let cell = named_cell c has in
            subst (Has (written_by effects inner.top.frame.sub)) (cell_named_root c has)
            (act_of_passed cell.by cell.among cell.back (ap (is_package_object s) (cell_named_root c has) ∙ shared))

        -- a name of them that is rooted in a package object
        pub name_written : (to : Way) (has : Has ways_taken to) → is_package_object s (ways.number_of (all_passed_ways.2 to has).name) ≡ true
            → Has (written_by effects inner.top.frame.sub) (ways.number_of (all_passed_ways.2 to has).name)
        name_written to has shared =
            let by = all_passed_ways.2 to has in
            let root : by.by.actual.name.root ≡ ways.number_of by.name = ap (λ (z : PlaceName). z.root) by.called in
            subst (Has (written_by effects inner.top.frame.sub)) root (act_of_passed by.by by.among by.back (ap (is_package_object s) root ∙ shared))

        -- and the callee doesn't use it
        unused_passed : (b : alias.Passed) → Has (alias.passed formals actuals) b → IsCopiedBack s b.formal → is_package_object s b.actual.name.root ≡ true
            → Uses effects n b.actual.name.root → ⊥
        unused_passed b has back shared uses =
            passed_unused program effects ready.accepted.no_reports (flow_sub own inner.named)
            (standing.in_program table typed effects input ready inner.state inner.top older outer inner.named inner.p inner.frames inner.of_sub inner.at_point) main_turn.point
            (standing.in_sub table typed effects input ready inner.state inner.top older outer inner.named inner.p inner.frames inner.of_sub inner.at_point) n actuals result e called.answers
            (λ of answers x has. ready.class.modes n of answers x has) b has back shared uses

        unused_cell : (c : Lodge) → Has cells c → is_package_object s (ways.number_of c.name) ≡ true → Uses effects n (ways.number_of c.name) → ⊥
        unused_cell c has shared uses =
            let cell = named_cell c has in
            unused_passed cell.by cell.among cell.back (ap (is_package_object s) (cell_named_root c has) ∙ shared) (subst (Uses effects n) (sym (cell_named_root c has)) uses)

        -- what was lent to the frame it doesn't write
        lent_unwritten : (to : Way) (y : ℕ) → ways.base_of to ≡ ways.OfRoot (ways.OfVariable 0 y) → is_package_object s y ≡ true → Given_to to
            → Has (written_by effects inner.top.frame.sub) y → ⊥
        lent_unwritten to y base shared these written =
            let (x, u, is, given, sight, under) = these in
            let first : 0 ≡ home s depth y = ap (λ b. if b then 0 else depth) (sym shared) in
            let based : ways.base_of u ≡ ways.OfRoot (ways.OfVariable (home s depth y) y) =
            sym (base_under u to under) ∙ base ∙ ap (λ f. ways.OfRoot (ways.OfVariable f y)) first in
            let (l, (k, at, under_k, lent), changed) = (inner.placed_before.1).1.0 x u is given (base_named (home s depth) u y based) in
            let number : ways.number_of k ≡ y = number_based (home s depth) k y at (sym (base_under k u under_k) ∙ based) in
            innermost.spared_here table typed effects input ready inner
            l (ways.name_of k) lent (written_disturbs table typed effects ready.accepted.effects_are l inner.top.frame.sub (ways.number_of k)
            (subst (Has (written_by effects inner.top.frame.sub)) (sym number) written))

        unused_to : (to : Way) → Has ways_taken to → (y : ℕ) → ways.base_of to ≡ ways.OfRoot (ways.OfVariable 0 y) → is_package_object s y ≡ true
            → Has (written_by effects inner.top.frame.sub) y → Uses effects n y → ⊥
        unused_to to has y base shared written uses =
            let by = all_passed_ways.2 to has in
            elim (first_named to has y base shared) [
              | inl root ↦ unused_passed by.by by.among by.back (ap (is_package_object s) root ∙ shared) (subst (Uses effects n) (sym root) uses)
              | inr (inr given) ↦ lent_unwritten to y base shared given written
              | inr (inl (h, name, lent, root)) ↦ lends_there Borrowed h name (subst (λ z. Has z (Lent Borrowed h name)) (sym facts_there) lent) (ap (is_package_object s) root ∙ shared)
                  (subst (Uses effects n) (sym root) uses)
            ]

        -- so it is with each object of which a part is passed
        pub root_written : (y : ℕ) → Has (passed_roots effects waits_there) y → is_package_object s y ≡ true → Has (written_by effects inner.top.frame.sub) y
        root_written y passed shared = by_either (passed_from effects waits_there y passed)
            (λ (to, has, base, written). (written))
            (λ (c, has, is). (subst (Has (written_by effects inner.top.frame.sub)) is (written_cell c has (ap (is_package_object s) is ∙ shared))))

        pub root_unused : (y : ℕ) → Has (passed_roots effects waits_there) y → is_package_object s y ≡ true → Uses effects n y → ⊥
        root_unused y passed shared uses = by_either (passed_from effects waits_there y passed)
            (λ (to, has, base, written). (unused_to to has y base shared written uses))
            (λ (c, has, is). (unused_cell c has (ap (is_package_object s) is ∙ shared) (subst (Uses effects n) (sym is) uses)))

        -- no place that is taken goes before what a view sees
        pub off_taken : (x : ℕ) (w : Way) → inner.views.way x ≡ Some w → (to : Way) → Has ways_taken to → ways.Past to w → ⊥
        off_taken x w has to taken past =
            let by = all_passed_ways.2 to taken in
            off_view (home s depth) sees around_names inner.views (still (view_here s easy.state)) facts_all names_all by.name x w (by.named, by.plain) by.unlent has
            (subst (λ z. ways.Past z w) (sym by.means) past)

        -- nor before what a part of a formal sees
        pub off_taken_parts : (x : ℕ) (q : List Step) (w : Way) → inner.views.part_way x q ≡ Some w → (to : Way) → Has ways_taken to → ways.Past to w → ⊥
        off_taken_parts x q w has to taken past =
            let by = all_passed_ways.2 to taken in
            off_parts (home s depth) sees around_names inner.views (still (view_here s easy.state)) facts_all names_all by.name x q w (by.named, by.plain) by.unlent has
            (subst (λ z. ways.Past z w) (sym by.means) past)

        -- the ways of views don't begin at formals of the callee
        pub view_base : (x : ℕ) (w : Way) → inner.views.way x ≡ Some w → (g : ℕ) × (y : ℕ) × (ways.base_of w ≡ ways.OfRoot (ways.OfVariable g y)) × (g ≡ suc depth → ⊥)
        view_base x w has =
            let root = view_rooted (home s depth) sees other_all inner.views (view_here s easy.state) facts_called views_called x w has in (
              root.0,
              root.1,
              root.2,
              λ up. elim root.3 [
                | inl named_there ↦ (
                    let same = same_variable (home s depth (ways.number_of w)) (ways.number_of w) root.0 root.1 (sym (named_base (home s depth) w named_there) ∙ root.2) in
                    not_above s sees ready.accepted.settled ready.owns in_formals (waiting_in easy.state) inner.state.leaks depth inner.views far_views (inner.holds.only, inner.holds.parts.only) facts_all next_there cells (ways.number_of w)
                    (same.0 ∙ up))
                | inr foreign ↦ (
                    let same = (same_variable foreign.0 foreign.1 root.0 root.1 (sym foreign.2 ∙ root.2)).0 in
                    let low = far_views.0 x w has foreign in omega (arith, low, same, up))
              ],
            )

        pub part_base : (x : ℕ) (q : List Step) (w : Way) → inner.views.part_way x q ≡ Some w
            → (g : ℕ) × (y : ℕ) × (ways.base_of w ≡ ways.OfRoot (ways.OfVariable g y)) × (g ≡ suc depth → ⊥)
        part_base x q w has = by_either (inner.holds.low x q w has).0
            (λ at_home. (
              home s depth (ways.number_of w),
              ways.number_of w,
              named_base (home s depth) w at_home,
              not_above s sees ready.accepted.settled ready.owns in_formals (waiting_in easy.state) inner.state.leaks depth inner.views far_views (inner.holds.only, inner.holds.parts.only) facts_all next_there cells
                  (ways.number_of w),
            ))
            (λ (foreign, low, some). (foreign.0, foreign.1, foreign.2, λ up. omega (arith, low, up)))

        -- the frames around keep nothing of what the frame writes
        written_spared : (y : ℕ) → Has (written_by effects inner.top.frame.sub) y → IsSpared table typed effects unmoved_stage local inner.state depth older between y
        written_spared y written l name lent root =
            innermost.spared_here table typed effects input ready inner
            l name lent (written_disturbs table typed effects ready.accepted.effects_are l inner.top.frame.sub name.root
            (subst (Has (written_by effects inner.top.frame.sub)) (sym root) written))

        -- so it is with what is taken, or it is behind what was lent to the frame
        spared_to : (to : Way) → Has ways_taken to → (y : ℕ) → ways.base_of to ≡ ways.OfRoot (ways.OfVariable (home s depth y) y)
            → IsSpared table typed effects unmoved_stage local inner.state depth older between y ⊎ Given_to to
        spared_to to has y base = elim (bool_cases (is_package_object s y)) [
          | inr mine ↦ inl (λ l name lent root. true_false (is_package_object s y) (ap (is_package_object s) (sym root) ∙ lent.5) mine)
          | inl shared ↦ elim (goes_to to has y (base ∙ ap (λ b. ways.OfRoot (ways.OfVariable (if b then 0 else depth) y)) shared) shared) [
            | inl written ↦ inl (written_spared y written)
            | inr given ↦ inr given
          ]
        ]

        pub free_to : (to : Way) → Has ways_taken to → IsFree table typed effects unmoved_stage local inner.state depth older between to
        free_to to has =
            let by = all_passed_ways.2 to has in
            subst (IsFree table typed effects unmoved_stage local inner.state depth older between) by.means
            (free_name table typed effects unmoved_stage local inner.state depth older between inner.views (view_here s easy.state) facts_called views_called (inner.placed_before.1).0
            (λ x w z there outer gone meets. well_before.whole x w z there outer gone meets) by.name by.named by.plain
            (λ y base. elim (spared_to to has y (ap ways.base_of (sym by.means) ∙ base)) [
              | inl none ↦ inl none
              | inr given ↦ inr (subst Given_to (sym by.means) given)
            ]))

        pub open_there : IsOpen (IsMovedBy (home s depth) inner.views facts_all) (GoneElsewhere program effects older) ways_taken
        open_there = record {
          free = λ k w under o. by_either o
              (λ (u, moved, leads). (
              let root = stands_base (home s depth) sees inner.views (view_here s easy.state) facts_all views_all u (moved.0, clear_all.owned (ways.name_of u) moved.1) in
              hand_base (sym (base_under (ways.Object (ways.OfHand k)) w under) ∙ ap ways.base_of (sym leads) ∙ root.2)))
              (λ gone. (let root = gone_low table typed effects unmoved_stage local inner.state depth older between w gone in
              hand_base (sym (base_under (ways.Object (ways.OfHand k)) w under) ∙ root.2)));
          whole = λ to has w under gone. gone_clear table typed effects unmoved_stage local inner.state depth older between to (free_to to has) w gone (inl under);
        }
          where
            hand_base : {k f x : ℕ} → ways.OfRoot (ways.OfHand k) ≡ ways.OfRoot (ways.OfVariable f x) → ⊥
            hand_base is = hand_variable is
