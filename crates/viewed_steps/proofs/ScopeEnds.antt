-- The end of a scope leads on.
use Rattle.std.specs.Prelude.{get_or, Bool}
use Rattle.machine.specs.Run.{no_point}
use Rattle.viewed_steps.proofs.Standing.{or_right}
use Rattle.machine.specs.flow_paths.Views.{sub_acts}
use Rattle.soundness.proofs.ViewedSoundness.ViewKinds.{given_view, access_bundle}
use Rattle.viewed_steps.proofs.Rooted.{rooted_on}
use Rattle.viewed_steps.proofs.Low.{BeginsLow, given_still, reaches_low, undeclared_words}
use Rattle.viewed_steps.proofs.Traversed.{none_given, named_given}
use Rattle.soundness.specs.ViewedSoundness.Holds.{is_view, is_bundle, Seeing}
use Rattle.soundness.specs.Ready.{Fills, IsSupplied}
use Rattle.std.proofs.Common.{◌≡◌, refl, sym, ap, ◌∙◌, subst, ◌⊎◌, inl, inr, ℕ, zero, suc, ◌<◌, true, false, List, [], ◌∷◌, ◌++◌, map, drop, length, arith, Some}
use Rattle.std.proofs.lemmas.Bool.{false≢true}
use Rattle.machine.specs.spark_base.Lists.{Has}
use Rattle.machine.specs.place_names.declared.act.Act.{Act}
use Rattle.machine.specs.place_names.declared.act.Act.TheVariants as act
use Rattle.machine.specs.place_names.declared.fact.Fact.{Fact}
use Rattle.machine.specs.place_names.declared.fact.Fact.TheVariants.{Moved, Lent}
use Rattle.machine.specs.place_names.declared.rule.Loan.{Loan}
use Rattle.machine.specs.place_names.declared.rule.Loan.TheVariants.{Observed}
use Rattle.machine.specs.place_names.Names.{Name as PlaceName}
use Rattle.machine.specs.type_definitions.Types.{Table}
use Rattle.machine.specs.typed_tree.Programs.{TypedProgram}
use Rattle.machine.specs.flow_paths.declared.report.Effects.{Effects}
use Rattle.machine.specs.flow_paths.Instructions.{Instruction, Call, EndScope}
use Rattle.machine.specs.flow_paths.Objects.{Typing, is_package_object, is_borrower}
use Rattle.machine.specs.flow_paths.Points.{NamedPoint}
use Rattle.machine.specs.flow_paths.Laid.{FlowProgram, number_in, flow_typing, flow_program, flow_named}
use Rattle.machine.specs.place_names.Rules.{forbids}
use Rattle.machine.specs.flow_paths.Scopes.{taken, brought, scope_behind, is_ready, Leads, is_last}
use Rattle.machine.specs.Memory.{Memory, undeclared}
use Rattle.machine.specs.States.{Waiting, Frame, State, Outcome, Goes, Ends, sub_of, Loop}
use Rattle.machine.specs.Step.{Turn, turn, successor}
use Rattle.machine.specs.Step as steps
use Rattle.machine.specs.Typed.{successors}
use Rattle.machine.specs.Owners.{waiting_in}
use Rattle.soundness.specs.OwnedWays.Ways.{Step, OfVariable, OfRoot, Way, Held, after, AllowsAll}
use Rattle.soundness.specs.OwnedWays.Ways as ways
use Rattle.soundness.specs.Seen.{IsNear, content, word_in, home, seen}
use Rattle.soundness.specs.Sound.{IsNoCall, Stage, facts_of, returns_value, InScope, IsAtPoint, view_of as view_here, is_temporary_object, has_returned}
use Rattle.soundness.proofs.Scoped.{Inside}
use Rattle.soundness.proofs.Inherited.{Splits, allowed_beside}
use Rattle.soundness.proofs.Around.{IsFar}
use Rattle.soundness.proofs.Following.{Each}
use Rattle.soundness.proofs.Onward.{GoesOn, end_scope_follows}
use Rattle.soundness.proofs.Waited.{FillsNone}
use Rattle.soundness.proofs.Waits.{drop_none}
use Rattle.soundness.proofs.Successors.{below_one, successor_there}
use Rattle.soundness.specs.OwnedLoans.Views.{Around, known_gone, Views, Viewed, ViewedAlone}
use Rattle.soundness.proofs.ViewedSoundness.Outcomes.{Is_left}
use Rattle.viewed_steps.specs.Awaited.{AreValues, lasting_of, awaited, AreAwaited}
use Rattle.viewed_steps.proofs.Waited.{plain_unheld, last_lasting, lasting_last}
use Rattle.viewed_steps.specs.Sound.{HoldsAt, ArePlaced, NoneAbove, ViewStage, stages_of, GoneElsewhere, AreWaiting, AreLeft, leaves_scope, LeadsAlong, HasTraversals}
use Rattle.viewed_steps.specs.Ready.{AreOrderly, IsReady}
use Rattle.viewed_steps.proofs.Inherited.{lent_end}
use Rattle.viewed_steps.proofs.Placed.{scope_on}
use Rattle.viewed_steps.proofs.Ended.{views_left, ends_well, placed_left, holds_left, leaves, leaves_others}
use Rattle.viewed_steps.proofs.Beside.{OthersKept, end_scope_keeps}
use Rattle.viewed_steps.proofs.Waiting.{StandsBetween, AreTheirs, beside_them, handed, handed_lent, kept_low}
use Rattle.viewed_steps.proofs.Standing as standing
use Rattle.viewed_steps.proofs.Packages as packages
use Rattle.viewed_steps.proofs.Innermost as innermost
use Rattle.viewed_steps.specs.Seeing.{sees_in}
use Rattle.viewed_steps.proofs.Sees.{sees_seeing}
use Rattle.viewed_steps.proofs.Constructors.{is_call_instruction}
use Rattle.viewed_steps.proofs.InnerFrame.{InnerFrame}
use Rattle.soundness.proofs.Parted.{by_either}

only_first : (k : ℕ) → k < 1 → k ≡ 0
only_first zero less = refl
only_first (suc k) less = absurd (omega (arith, less))

module _ (table : Table) (typed : TypedProgram) (effects : Effects) (input : List ℕ) (ready : IsReady table typed effects) where
  abbrev sees : ℕ → Bool
  sees = sees_in (flow_program table typed)

  abbrev seeing : Seeing (flow_typing (flow_program table typed)) sees
  seeing = sees_seeing (flow_program table typed)

  abbrev program : FlowProgram
  program = flow_program table typed

  abbrev s : Typing
  s = flow_typing program

  abbrev local : (x : ℕ) → is_view s x ≡ true → is_package_object s x ≡ false
  local = standing.local table typed effects input ready

  abbrev unmoved_stage : (e : Stage) → e.frame.sub ≡ 0 → (name : PlaceName) → Has (facts_of program effects e) (Moved name) → ⊥
  unmoved_stage = packages.unmoved_stage table typed effects input ready

  module _ (inner : InnerFrame table typed effects) where
    abbrev outer : List Frame
    outer = inner.below.stage.frame ∷ inner.rest

    abbrev older : List ViewStage
    older = inner.below ∷ inner.more_frames

    abbrev depth : ℕ
    depth = suc (length inner.rest)

    abbrev between : (g : ViewStage) → Has (inner.below ∷ inner.more_frames) g → StandsBetween table typed effects unmoved_stage local inner.state (suc (length inner.rest)) (inner.below ∷ inner.more_frames) g
    between = innermost.between table typed effects input ready inner

    abbrev other : Around (home s (suc (length inner.rest)))
    other = beside_them table typed effects unmoved_stage local inner.state (suc (length inner.rest)) (inner.below ∷ inner.more_frames) between

    abbrev alone : (w : Way) → IsNear (suc (length inner.rest)) w → IsFar (suc (length inner.rest)) (GoneElsewhere program effects (inner.below ∷ inner.more_frames)) w → ⊥
    alone = innermost.alone table typed effects input ready inner

    abbrev main_turn : Turn
    main_turn = standing.t table typed effects input ready inner.state inner.top older outer inner.named inner.p inner.frames inner.of_sub inner.at_point

    abbrev Left : List Waiting → Type 0
    Left waits = AreValues s waits (scope_behind inner.p)

    abbrev left_after : FillsNone s inner.p.instr → Left (steps.waiting main_turn)
    left_after = innermost.left_after table typed effects input ready inner

    abbrev others_await : returns_value inner.p.instr ≡ false → AreAwaited table typed (awaited (sub_of program inner.top.frame.sub) (inner.top.frame.next ∷ inner.top.before)) (stages_of older)
    others_await = innermost.others_await table typed effects input ready inner

    abbrev own_facts : List Fact
    own_facts = standing.facts table typed effects input ready inner.state inner.top older outer inner.named inner.p inner.frames inner.of_sub inner.at_point inner.path

    abbrev handed_on : List Fact
    handed_on = handed table typed effects unmoved_stage local inner.state (suc (length inner.rest)) (inner.below ∷ inner.more_frames) between

    abbrev facts_now : List Fact
    facts_now = own_facts ++ handed_on

    abbrev from_both : Splits facts_now own_facts handed_on
    from_both = innermost.from_both table typed effects input ready inner

    abbrev acts_of_main : Instruction → List Act
    acts_of_main i = standing.acts_here table typed effects input ready inner.state inner.top older outer inner.named inner.p inner.frames inner.of_sub inner.at_point i

    abbrev not_lent : (x : ℕ) → is_package_object s x ≡ false → (l : Loan) (name : PlaceName) → other.lent l name → name.root ≡ x → ⊥
    not_lent = innermost.not_lent table typed effects input ready inner

    abbrev borrower_local : (x : ℕ) → is_borrower s x ≡ true → is_package_object s x ≡ false
    borrower_local = innermost.borrower_local table typed effects input ready inner

    abbrev viewed : Viewed (home s depth) sees other inner.views (view_here s inner.state) facts_now
    viewed = innermost.viewed table typed effects input ready inner

    abbrev apart_from_them : (done : List Act) (v : Views) (view : ways.View) → ((x : ℕ) (w : Way) → v.way x ≡ Some w → is_view s x ≡ true)
        → Viewed (home s depth) sees other v view (after done facts_now)
        → ViewedAlone (home s depth) sees (known_gone (home s depth) (GoneElsewhere program effects older)) v view (after done own_facts)
    apart_from_them = innermost.apart_from_them table typed effects input ready inner

    abbrev placed_by : (some all : List Fact) (v : Views) (scope_there : List ℕ) → ((h : ℕ) (m : PlaceName) → sees h ≡ true → Has some (Lent Observed h m) → Has all (Lent Observed h m))
        → ArePlaced program (suc (length inner.rest)) some v scope_there → ArePlaced program (suc (length inner.rest)) all v scope_there
    placed_by = innermost.placed_by table typed effects input ready inner

    abbrev placed : ArePlaced program (suc (length inner.rest)) facts_now inner.views inner.p.scope
    placed = innermost.placed table typed effects input ready inner

    abbrev own_loans : (done : List Act) (h : ℕ) (m : PlaceName) → sees h ≡ true → Has (after done facts_now) (Lent Observed h m)
        → Has (after done own_facts) (Lent Observed h m)
    own_loans = innermost.own_loans table typed effects input ready inner

    abbrev none_takes : (i : Instruction) → inner.p.instr ≡ i → taken i ≡ 0 → taken main_turn.point.instr ≡ 0
    none_takes = innermost.none_takes table typed effects input ready inner

    abbrev named_there : Has (flow_named table typed) inner.named
    named_there = innermost.named_there table typed effects input ready inner

    abbrev point_there_now : Has inner.named.points inner.p
    point_there_now = innermost.point_there_now table typed effects input ready inner

    abbrev successors_there : length main_turn.point.next ≡ successors inner.p.instr
    successors_there = innermost.successors_there table typed effects input ready inner

    abbrev orderly : AreOrderly program inner.p (λ q. (n : ℕ) × Has (map (number_in inner.named.points) inner.p.next) n × IsAtPoint inner.named.points n q)
    orderly = innermost.orderly table typed effects input ready inner

    abbrev IsOld : ℕ → ℕ → Type 0
    IsOld f x =
        (f < suc (length inner.rest)) × ((f ≡ 0)
        ⊎ ((q : List Step) × (k : ℕ) × (word_in s.table (content s inner.state.memory [] (OfRoot (OfVariable f x))) q ≡ Held k)))

    abbrev inside : Inside s IsOld inner.state.memory depth (lasting_of s inner.p.scope)
    inside = innermost.inside table typed effects input ready inner

    abbrev in_scope : (m : Memory) (after_scope : List ℕ) → Inside s IsOld m depth after_scope → InScope s m depth after_scope
    in_scope = innermost.in_scope table typed effects input ready inner

    abbrev supplied_here : IsSupplied s inner.p
    supplied_here = innermost.supplied_here table typed effects input ready inner

    abbrev home_frame : (x : ℕ) → is_package_object s x ≡ false → home s depth x ≡ depth
    home_frame = innermost.home_frame table typed effects input ready inner

    abbrev still_above : (m : Memory) → OthersKept s depth inner.state.memory m → NoneAbove s depth m
    still_above = innermost.still_above table typed effects input ready inner

    abbrev wait_still : (next : State) (after_scope : List ℕ) → Inside s IsOld next.memory depth after_scope → OthersKept s depth inner.state.memory next.memory
        → AreTheirs table typed effects unmoved_stage local older (view_here s next)
        → AreWaiting table typed effects next inner.top.frame.sub inner.top.frame.returns older
    wait_still = innermost.wait_still table typed effects input ready inner

    abbrev with_successors : (i : Instruction) (n : ℕ) → inner.p.instr ≡ i → n < successors i → n < successors main_turn.point.instr
    with_successors = innermost.with_successors table typed effects input ready inner

    abbrev ready_there : (i : Instruction) → inner.p.instr ≡ i → is_ready inner.p i ≡ true
    ready_there = innermost.ready_there table typed effects input ready inner

    -- ---- the end of a scope

    -- where it leads, and how the frames come from those before
    abbrev Along : Outcome → Type 0
    Along outcome = LeadsAlong table typed effects inner.p.instr inner.state.memory (record { stage = inner.top; views = inner.views; cells = [] }) (inner.below ∷ inner.more_frames) outcome

    module _ (y : ℕ) (is : inner.p.instr ≡ EndScope y) where
      abbrev no_source : ℕ → ℕ → Type 0
      no_source a b = ⊥

      no_call_here : IsNoCall inner.p.instr
      no_call_here k actuals result call = (let never : EndScope y ≡ Call k actuals result = sym is ∙ call in absurd (false≢true (ap is_call_instruction never)))

      nothing_taken : taken main_turn.point.instr ≡ 0
      nothing_taken = none_takes (EndScope y) is refl

      left_values : Left (steps.waiting main_turn)
      left_values = left_after (subst (FillsNone s) (sym is) tt)

      scope_is : scope_behind inner.p ≡ drop 1 inner.p.scope
      scope_is = ap (λ i. brought i (drop (taken i) inner.p.scope)) is ∙ ap (drop 1) (drop_none inner.p.scope)

      no_temporary : is_temporary_object s y ≡ false
      no_temporary = subst (λ i. Fills s i (drop (taken i) inner.p.scope)) is supplied_here.1

      -- it is the last one of those that last
      lasting_left : lasting_of s (drop 1 inner.p.scope) ≡ drop 1 (lasting_of s inner.p.scope)
      lasting_left = last_lasting s y inner.p.scope (ready_there (EndScope y) is) (plain_unheld s y no_temporary)

      still_last : is_last y (lasting_of s inner.p.scope) ≡ true
      still_last = lasting_last s y inner.p.scope (ready_there (EndScope y) is) (plain_unheld s y no_temporary)

      not_shared : is_package_object s y ≡ false
      not_shared = ready.scoped.ends inner.named named_there inner.p point_there_now y is

      next_point : (n : ℕ) × (successor main_turn 0 ≡ Some n) × Has main_turn.point.next n
      next_point = successor_there main_turn 0 (subst (λ z. 0 < z) (sym (successors_there ∙ ap successors is)) below_one)

      at_next_point : (q : NamedPoint) × IsAtPoint inner.named.points next_point.0 q × Leads s (scope_behind inner.p) q.scope
      at_next_point = standing.next_at table typed effects input ready inner.state inner.top older outer inner.named inner.p inner.frames inner.of_sub inner.at_point inner.path next_point.0 next_point.2

      lead : Leads s (drop 1 inner.p.scope) (at_next_point.0).scope
      lead = subst (λ z. Leads s z (at_next_point.0).scope) scope_is at_next_point.2

      pub end_allowed : AllowsAll facts_now (acts_of_main (EndScope y))
      end_allowed =
          allowed_beside (acts_of_main (EndScope y)) facts_now own_facts handed_on from_both
          (subst (λ i. AllowsAll own_facts (acts_of_main i)) is (standing.allowed table typed effects input ready inner.state inner.top older outer inner.named inner.p inner.frames inner.of_sub inner.at_point inner.path no_call_here))
          (λ a has f there. elim has [
            | inl end_act ↦ ap (λ z. forbids z f) (sym end_act) ∙ (
                let (l, name, same, lent) = handed_lent table typed effects unmoved_stage local inner.state (suc (length inner.rest)) (inner.below ∷ inner.more_frames) between f there in
                ap (forbids (act.EndScope y (is_borrower s y))) same ∙ lent_end s name lent.5 borrower_local l name.root y (is_borrower s y))
            | inr never ↦ absurd never
          ])

      abbrev left_views : Views
      left_views =
          views_left main_turn sees seeing ready.accepted.settled ready.owns other alone inner.views ready.class.parts_named no_source inner.frames nothing_taken
          inner.p at_next_point.0 y is (home_frame y not_shared) not_shared (orderly.over y is) (ready_there (EndScope y) is) (orderly.variables y (inr is)) (λ x within off. orderly.ended y x is within off)
          (λ x within sight region. orderly.followed y x is at_next_point.0 (next_point.0, next_point.2, at_next_point.1) within sight region)
          lead facts_now end_allowed.0 viewed inner.kept inner.holds placed (not_lent y not_shared)

      -- they had their ways before, and none begins at the object
      were_left : AreLeft (home s inner.top.depth) y inner.views left_views
      were_left x w has = (
        ((leaves main_turn sees seeing ready.accepted.settled ready.owns other alone inner.views ready.class.parts_named no_source inner.frames nothing_taken
            inner.p at_next_point.0 y is (home_frame y not_shared) not_shared (orderly.over y is) (ready_there (EndScope y) is) (orderly.variables y (inr is)) (λ x within off. orderly.ended y x is within off)
            (λ x within sight region. orderly.followed y x is at_next_point.0 (next_point.0, next_point.2, at_next_point.1) within sight region)
            lead facts_now end_allowed.0 viewed inner.kept inner.holds placed (not_lent y not_shared)).1.was x w has).2,
        λ at_home. (leaves_others main_turn sees seeing ready.accepted.settled ready.owns other alone inner.views ready.class.parts_named no_source inner.frames nothing_taken
            inner.p at_next_point.0 y is (home_frame y not_shared) not_shared (orderly.over y is) (ready_there (EndScope y) is) (orderly.variables y (inr is)) (λ x within off. orderly.ended y x is within off)
            (λ x within sight region. orderly.followed y x is at_next_point.0 (next_point.0, next_point.2, at_next_point.1) within sight region)
            lead facts_now end_allowed.0 viewed inner.kept inner.holds placed (not_lent y not_shared)).roots x w has
            (subst (λ d. ways.Named (home s d) w) inner.deep at_home),
      )

      -- what was given to the frame below is given still
      low_views : (x : ℕ) (w : Way) → inner.below.views.way x ≡ Some w → BeginsLow depth w
      low_views x w has = kept_low table typed effects unmoved_stage local inner.state depth older between w (inner.below.views.cell x) (inner.below, inl refl, inl (x, has, refl))

      low_parts : (x : ℕ) (q : List Step) (w : Way) → inner.below.views.part_way x q ≡ Some w → BeginsLow depth w
      low_parts x q w has =
          kept_low table typed effects unmoved_stage local inner.state depth older between w (inner.below.views.part_cell x q) (inner.below, inl refl, inr (inr (x, q, has, refl)))

      below_less : inner.below.stage.depth < depth
      below_less = (let is_deep = inner.stages.0 in omega (arith, is_deep))

      traversals_left : (after_step : State) → after_step.memory ≡ undeclared depth y inner.state.memory → (waits : List Waiting) (loops : List Loop) → Left waits
          → HasTraversals table typed (view_here s after_step)
          (record { stage = standing.at_next table typed effects input ready inner.state inner.top older outer inner.named inner.p inner.frames inner.of_sub inner.at_point inner.path waits loops next_point.0; views = left_views; cells = [] } ∷ older)
      traversals_left after_step memory waits loops are =
          let there : ViewStage =
          record { stage = standing.at_next table typed effects input ready inner.state inner.top older outer inner.named inner.p inner.frames inner.of_sub inner.at_point inner.path waits loops next_point.0; views = left_views; cells = [] } in (
            (
              none_given table typed (view_here s after_step) there (named_given table typed there (scope_behind inner.p) are (innermost.named_behind table typed effects input ready inner no_call_here)),
              by_either (inner.above.1).0.1
                  (λ none. (inl none))
                  (λ (some, returned, none_back, was). (inr (
                    some,
                    or_right (returns_value (get_or (sub_of program inner.top.frame.sub).points inner.top.frame.next no_point).instr) (has_returned (sub_of program inner.top.frame.sub) inner.top.before) returned,
                    none_back,
                    λ other_named other_of q at_q.
                        given_still s depth inner.below.stage.depth below_less (omega arith) inner.below.views low_views low_parts q.instr (view_here s inner.state) (view_here s after_step) inner.below.stage.frame.waits
                        (λ w low k reach. reaches_low depth (view_here s inner.state) (view_here s after_step)
                        (λ l is_low. undeclared_words s depth y inner.state.memory (waiting_in inner.state) (waiting_in after_step) inner.state.leaks after_step.leaks l is_low
                        ∙ ap (λ z. (seen s z (waiting_in after_step) after_step.leaks).word l) (sym memory)) w low.0 low.1 low.2 low.3 (ways.OfCell k) reach)
                        (was other_named other_of q at_q),
                  ))),
              (inner.above.1).0.2,
            ),
            (
              λ f traversed. (
                  let old = (inner.above.1).1.0 f traversed in
                  let is_first = ready.traversing.first inner.top.frame.sub f (inner.running.0).entered traversed in
                  let view : (is_view s f ≡ true) × (is_bundle s f ≡ false) = (given_view s f is_first.1, access_bundle s f is_first.2) in (
                    old.0,
                    rooted_on s (sub_acts (sub_of program inner.top.frame.sub)) f old.0 view inner.views left_views (λ x w has. inl (were_left x w has).0) old.1,
                    old.2,
                    old.3,
                  )),
              (inner.above.1).1.1,
            ),
          )

      then_left : (outcome : Outcome)
          → Is_left main_turn sees seeing ready.accepted.settled ready.owns other alone inner.views ready.class.parts_named no_source inner.frames nothing_taken
          left_views y (after (acts_of_main (EndScope y)) facts_now) outcome
          → Each (GoesOn main_turn Left left_values IsOld (lasting_of s inner.p.scope) (drop 1 (lasting_of s inner.p.scope)) inside) outcome
          → Each (λ (next : State). OthersKept s depth inner.state.memory next.memory) outcome → Along outcome
      then_left (Ends how after_step) leads on stay = absurd leads
      then_left (Goes after_step) (still_viewed, still_kept, memory) on stay =
          let facts_are_there : after (acts_of_main (EndScope y)) facts_now ≡ after (acts_of_main inner.p.instr) facts_now = ap (λ i. after (acts_of_main i) facts_now) (sym is) in
          let still_holds : HoldsAt s sees depth left_views after_step.memory at_next_point.0 =
          (subst (λ z. HoldsAt s sees depth left_views z at_next_point.0) (sym memory)
          (holds_left main_turn sees seeing ready.accepted.settled ready.owns other alone inner.views ready.class.parts_named no_source inner.frames nothing_taken
          inner.p at_next_point.0 y is (home_frame y not_shared) not_shared (orderly.over y is) (ready_there (EndScope y) is) (orderly.variables y (inr is)) (λ x within off. orderly.ended y x is within off)
          (λ x within sight region. orderly.followed y x is at_next_point.0 (next_point.0, next_point.2, at_next_point.1) within sight region)
          lead facts_now end_allowed.0 viewed inner.kept inner.holds placed (not_lent y not_shared))) in
          let frames_there = on.frames next_point.0 (ap (successor main_turn) (only_first on.k (subst (λ z. on.k < z) (ap successors is) on.less)) ∙ next_point.1) in
          standing.goes_to_next table typed effects input ready inner.state inner.top older outer inner.named inner.p inner.frames inner.of_sub inner.at_point inner.path no_call_here after_step on.waits on.loops next_point.0 next_point.2 at_next_point.0 at_next_point.1
          frames_there inner.deep inner.stages left_views (inner.running.0, inner.running.1, wait_still after_step (drop 1 (lasting_of s inner.p.scope)) on.inside stay (record { far = still_viewed.far; bare = still_viewed.bare }))
          (standing.waits_next table typed effects input ready inner.state inner.top older outer inner.named inner.p inner.frames inner.of_sub inner.at_point inner.path on.waits on.loops next_point.0 next_point.2 on.are, others_await (ap returns_value is))
          (apart_from_them (acts_of_main inner.p.instr) left_views (view_here s after_step) still_holds.only
          (subst (Viewed (home s depth) sees other left_views (view_here s after_step)) facts_are_there still_viewed)) still_kept
          (scope_on s ready.owns after_step.memory depth (drop 1 inner.p.scope) (at_next_point.0).scope (subst (InScope s after_step.memory depth) (sym lasting_left) (in_scope after_step.memory (drop 1 (lasting_of s inner.p.scope)) on.inside)) lead)
          still_holds (
            (placed_by (after (acts_of_main inner.p.instr) facts_now) (after (acts_of_main inner.p.instr) own_facts) left_views (at_next_point.0).scope (own_loans (acts_of_main inner.p.instr))
                (subst (λ z. ArePlaced program depth z left_views (at_next_point.0).scope) facts_are_there
                (placed_left main_turn sees seeing ready.accepted.settled ready.owns other alone inner.views ready.class.parts_named no_source inner.frames nothing_taken
                inner.p at_next_point.0 y is (home_frame y not_shared) not_shared (orderly.over y is) (ready_there (EndScope y) is) (orderly.variables y (inr is)) (λ x within off. orderly.ended y x is within off)
                (λ x within sight region. orderly.followed y x is at_next_point.0 (next_point.0, next_point.2, at_next_point.1) within sight region)
                lead facts_now end_allowed.0 viewed inner.kept inner.holds placed (not_lent y not_shared)))),
            (still_viewed.past, still_viewed.shown),
          ) (still_above after_step.memory stay, traversals_left after_step memory on.waits on.loops on.are) inner.views
          (leaves_scope y is (refl, refl, refl) were_left refl)

      pub ends_scope : Along (turn main_turn (EndScope y))
      ends_scope =
          then_left (turn main_turn (EndScope y))
          (ends_well main_turn sees seeing ready.accepted.settled ready.owns other alone inner.views ready.class.parts_named no_source inner.frames nothing_taken
          inner.p at_next_point.0 y is (home_frame y not_shared) not_shared (orderly.over y is) (ready_there (EndScope y) is) (orderly.variables y (inr is)) (λ x within off. orderly.ended y x is within off)
          (λ x within sight region. orderly.followed y x is at_next_point.0 (next_point.0, next_point.2, at_next_point.1) within sight region)
          lead facts_now end_allowed.0 viewed inner.kept inner.holds placed (not_lent y not_shared))
          (end_scope_follows main_turn Left left_values IsOld (lasting_of s inner.p.scope) (drop 1 (lasting_of s inner.p.scope)) inside y still_last refl (with_successors (EndScope y) 0 is below_one))
          (end_scope_keeps main_turn y)
