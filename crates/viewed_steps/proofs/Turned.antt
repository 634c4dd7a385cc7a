-- The state after an instruction that goes on is sound.
use Rattle.viewed_steps.proofs.Rooted.{rooted_on}
use Rattle.viewed_steps.proofs.Traversed.{given_on, none_given, named_given}
use Rattle.machine.specs.flow_paths.Views.{sub_acts}
use Rattle.std.proofs.Common.{◌≡◌, refl, sym, ◌∙◌, subst, ◌⊎◌, inl, inr, ℕ, suc, ◌<◌, true, false, List, [], ◌∷◌, ◌++◌, map, drop, length, Some, take, Bool}
use Rattle.machine.specs.spark_base.Lists.{Has}
use Rattle.machine.specs.place_names.declared.act.Act.{Act}
use Rattle.machine.specs.place_names.declared.fact.Fact.{Fact}
use Rattle.machine.specs.place_names.declared.fact.Fact.TheVariants.{Moved, Lent}
use Rattle.machine.specs.place_names.declared.rule.Loan.TheVariants.{Observed}
use Rattle.machine.specs.place_names.Names.{Name as PlaceName}
use Rattle.machine.specs.type_definitions.Types.{Table}
use Rattle.machine.specs.typed_tree.Programs.{TypedProgram}
use Rattle.machine.specs.flow_paths.declared.report.Effects.{Effects}
use Rattle.machine.specs.flow_paths.Instructions.{Instruction, EndScope, Finish}
use Rattle.machine.specs.flow_paths.Objects.{Typing, is_package_object}
use Rattle.machine.specs.flow_paths.Laid.{FlowProgram, number_in, flow_typing, flow_program}
use Rattle.machine.specs.flow_paths.Scopes.{taken, scope_behind, is_within}
use Rattle.machine.specs.Memory.{Memory}
use Rattle.machine.specs.States.{Waiting, Loop, Frame, State, Outcome, Goes, Ends, sub_of}
use Rattle.machine.specs.Step.{Turn, turn, successor}
use Rattle.machine.specs.Step as steps
use Rattle.machine.specs.Typed.{successors}
use Rattle.soundness.specs.OwnedWays.Ways.{Step, OfVariable, OfRoot, Way, Held, after, AllowsAll, Named}
use Rattle.soundness.specs.OwnedWays.Ways as ways
use Rattle.soundness.specs.Seen.{IsNear, content, word_in, home}
use Rattle.soundness.specs.TypedLaws.Needed.{IsFine}
use Rattle.soundness.specs.Sound.{IsNoCall, Stage, facts_of, returns_value, InScope, IsAtPoint, view_of as view_here}
use Rattle.soundness.proofs.Scoped.{Inside}
use Rattle.soundness.proofs.Around.{IsFar}
use Rattle.soundness.proofs.Following.{Each}
use Rattle.soundness.proofs.Waited.{FillsNone}
use Rattle.soundness.proofs.Eased.{eased}
use Rattle.soundness.proofs.Successors.{successor_there}
use Rattle.soundness.specs.OwnedLoans.Views.{Around, Views}
use Rattle.soundness.specs.ViewedSoundness.Holds.{AllKeep, is_view, is_bundle, is_fixed, is_given, Seeing}
use Rattle.soundness.proofs.ViewedSoundness.ViewKinds.{true_false, given_view, access_bundle}
use Rattle.soundness.proofs.ViewedSoundness.Outcomes.{Turned}
use Rattle.viewed_steps.specs.Awaited.{AreValues, temporaries_of, lasting_of, awaited, AreAwaited, AreScalar, TakesScalars}
use Rattle.viewed_steps.specs.Sound.{ArePlaced, NoneAbove, ViewStage, stages_of, GoneElsewhere, AreWaiting, AreTurned, steps_on, LeadsAlong, HasTraversals}
use Rattle.viewed_steps.specs.Ready.{AreOrderly, IsReady}
use Rattle.viewed_steps.proofs.Lent.{loans_stay}
use Rattle.viewed_steps.proofs.Placed.{scope_on, placed_on, MayBe, turned_placed, turned_lies}
use Rattle.viewed_steps.proofs.Sources.{own_there}
use Rattle.viewed_steps.proofs.Beside.{IsOther, OthersKept, others_keep}
use Rattle.viewed_steps.proofs.Waiting.{StandsBetween, AreTheirs, beside_them, handed}
use Rattle.viewed_steps.proofs.Standing as standing
use Rattle.viewed_steps.proofs.Packages as packages
use Rattle.viewed_steps.proofs.Innermost as innermost
use Rattle.viewed_steps.proofs.EachInstruction as each
use Rattle.viewed_steps.specs.Seeing.{sees_in}
use Rattle.viewed_steps.proofs.Sees.{sees_seeing}
use Rattle.viewed_steps.proofs.InnerFrame.{InnerFrame}
use Rattle.soundness.proofs.Parted.{by_either}

module _ (table : Table) (typed : TypedProgram) (effects : Effects) (input : List ℕ) (ready : IsReady table typed effects) where
  abbrev sees : ℕ → Bool
  sees = sees_in (flow_program table typed)

  abbrev seeing : Seeing (flow_typing (flow_program table typed)) sees
  seeing = sees_seeing (flow_program table typed)

  abbrev program : FlowProgram
  program = flow_program table typed

  abbrev s : Typing
  s = flow_typing program

  abbrev local : (x : ℕ) → is_view s x ≡ true → is_package_object s x ≡ false
  local = standing.local table typed effects input ready

  abbrev unmoved_stage : (e : Stage) → e.frame.sub ≡ 0 → (name : PlaceName) → Has (facts_of program effects e) (Moved name) → ⊥
  unmoved_stage = packages.unmoved_stage table typed effects input ready

  module _ (inner : InnerFrame table typed effects) where
    abbrev outer : List Frame
    outer = inner.below.stage.frame ∷ inner.rest

    abbrev older : List ViewStage
    older = inner.below ∷ inner.more_frames

    abbrev depth : ℕ
    depth = suc (length inner.rest)

    abbrev between : (g : ViewStage) → Has (inner.below ∷ inner.more_frames) g → StandsBetween table typed effects unmoved_stage local inner.state (suc (length inner.rest)) (inner.below ∷ inner.more_frames) g
    between = innermost.between table typed effects input ready inner

    abbrev other : Around (home s (suc (length inner.rest)))
    other = beside_them table typed effects unmoved_stage local inner.state (suc (length inner.rest)) (inner.below ∷ inner.more_frames) between

    abbrev alone : (w : Way) → IsNear (suc (length inner.rest)) w → IsFar (suc (length inner.rest)) (GoneElsewhere program effects (inner.below ∷ inner.more_frames)) w → ⊥
    alone = innermost.alone table typed effects input ready inner

    abbrev main_turn : Turn
    main_turn = standing.t table typed effects input ready inner.state inner.top older outer inner.named inner.p inner.frames inner.of_sub inner.at_point

    abbrev own_facts : List Fact
    own_facts = standing.facts table typed effects input ready inner.state inner.top older outer inner.named inner.p inner.frames inner.of_sub inner.at_point inner.path

    abbrev handed_on : List Fact
    handed_on = handed table typed effects unmoved_stage local inner.state (suc (length inner.rest)) (inner.below ∷ inner.more_frames) between

    abbrev facts_now : List Fact
    facts_now = own_facts ++ handed_on

    abbrev acts_of_main : Instruction → List Act
    acts_of_main i = standing.acts_here table typed effects input ready inner.state inner.top older outer inner.named inner.p inner.frames inner.of_sub inner.at_point i

    abbrev placed : ArePlaced program (suc (length inner.rest)) facts_now inner.views inner.p.scope
    placed = innermost.placed table typed effects input ready inner

    abbrev left_scope : List ℕ
    left_scope = drop (taken inner.p.instr) inner.p.scope

    abbrev Plain : Type 0
    Plain = AreScalar s (temporaries_of s (take (taken inner.p.instr) inner.p.scope))

    abbrev Plainly : Type 0
    Plainly = Plain × TakesScalars s inner.p.instr

    abbrev easy : Turn
    easy = eased main_turn

    abbrev placed_left : (facts : List Fact) → ArePlaced program (suc (length inner.rest)) facts inner.views inner.p.scope → ArePlaced program (suc (length inner.rest)) facts inner.views left_scope
    placed_left = innermost.placed_left table typed effects input ready inner

    abbrev Left : List Waiting → Type 0
    Left waits = AreValues s waits (scope_behind inner.p)

    abbrev left_after : FillsNone s inner.p.instr → Left (steps.waiting main_turn)
    left_after = innermost.left_after table typed effects input ready inner

    abbrev others_await : returns_value inner.p.instr ≡ false → AreAwaited table typed (awaited (sub_of program inner.top.frame.sub) (inner.top.frame.next ∷ inner.top.before)) (stages_of older)
    others_await = innermost.others_await table typed effects input ready inner

    abbrev successors_there : length main_turn.point.next ≡ successors inner.p.instr
    successors_there = innermost.successors_there table typed effects input ready inner

    abbrev orderly : AreOrderly program inner.p (λ q. (n : ℕ) × Has (map (number_in inner.named.points) inner.p.next) n × IsAtPoint inner.named.points n q)
    orderly = innermost.orderly table typed effects input ready inner

    abbrev IsOld : ℕ → ℕ → Type 0
    IsOld f x =
        (f < suc (length inner.rest)) × ((f ≡ 0)
        ⊎ ((q : List Step) × (k : ℕ) × (word_in s.table (content s inner.state.memory [] (OfRoot (OfVariable f x))) q ≡ Held k)))

    abbrev in_scope : (m : Memory) (after_scope : List ℕ) → Inside s IsOld m depth after_scope → InScope s m depth after_scope
    in_scope = innermost.in_scope table typed effects input ready inner

    abbrev still_above : (m : Memory) → OthersKept s depth inner.state.memory m → NoneAbove s depth m
    still_above = innermost.still_above table typed effects input ready inner

    abbrev wait_still : (next : State) (after_scope : List ℕ) → Inside s IsOld next.memory depth after_scope → OthersKept s depth inner.state.memory next.memory
        → AreTheirs table typed effects unmoved_stage local older (view_here s next)
        → AreWaiting table typed effects next inner.top.frame.sub inner.top.frame.returns older
    wait_still = innermost.wait_still table typed effects input ready inner

    -- where it leads, and how the frames come from those before
    abbrev Along : Outcome → Type 0
    Along outcome = LeadsAlong table typed effects inner.p.instr inner.state.memory (record { stage = inner.top; views = inner.views; cells = [] }) (inner.below ∷ inner.more_frames) outcome

    module _ (going : (x : ℕ) → inner.p.instr ≡ EndScope x → ⊥) (no_calls : IsNoCall inner.p.instr) where
      abbrev may : ℕ → ℕ → Type 0
      may = each.may table typed effects input ready inner going no_calls

      abbrev more : (y : ℕ) → is_within y left_scope ≡ true → is_within y (scope_behind inner.p) ≡ true
      more = each.more table typed effects input ready inner going no_calls

      abbrev LeadsFrom : Instruction → Outcome → Type 0
      LeadsFrom = each.LeadsFrom table typed effects input ready inner going no_calls

      abbrev GoesFrom : Left (steps.waiting main_turn) → Instruction → Outcome → Type 0
      GoesFrom = each.GoesFrom table typed effects input ready inner going no_calls

      abbrev Both : Left (steps.waiting main_turn) → Instruction → Type 0
      Both = each.Both table typed effects input ready inner going no_calls

      abbrev each_instruction : Plainly → (left : Left (steps.waiting main_turn)) (i : Instruction) → inner.p.instr ≡ i → IsOther i → IsFine s inner.named.sub.result i → AllowsAll facts_now (acts_of_main i)
          → AllKeep (is_fixed s sees) (acts_of_main i) → Both left i
      each_instruction = each.each_instruction table typed effects input ready inner going no_calls

      abbrev sparing : Type 0
      sparing = each.sparing table typed effects input ready inner going no_calls

      abbrev spares : (inner.p.instr ≡ Finish → ⊥) → sparing
      spares = each.spares table typed effects input ready inner going no_calls

      lent_on : sparing → (h : ℕ) (n : PlaceName) → Has facts_now (Lent Observed h n) → Has (after (acts_of_main inner.p.instr) facts_now) (Lent Observed h n)
      lent_on spare h n has = loans_stay s (standing.acts_by table typed effects input ready inner.state inner.top older outer inner.named inner.p inner.frames inner.of_sub inner.at_point s inner.p.instr) spare facts_now Observed h n has

      -- which views turned
      turned_so : (turned_views : Views) → {facts : List Fact}
          → Turned easy sees seeing ready.accepted.settled ready.owns other alone inner.views ready.class.parts_named may refl refl turned_views facts
          → AreTurned inner.p.instr inner.views turned_views
      turned_so turned_views turned x w has = by_either (turned.0 x w has) (λ old. (inl (sym old.way ∙ has))) (λ (y, from, comes). (inr from.1))

      only_may : (turned_views : Views) (facts : List Fact)
          → Turned easy sees seeing ready.accepted.settled ready.owns other alone inner.views ready.class.parts_named may refl refl turned_views facts
          → Turned easy sees seeing ready.accepted.settled ready.owns other alone inner.views ready.class.parts_named (λ x y. MayBe program (scope_behind inner.p) x y) refl refl
          turned_views facts
      only_may turned_views facts turned = (
        λ x w has. by_either (turned.0 x w has)
            (λ old. (inl (record { way = old.way; loan = old.loan; up = old.up })))
            (λ (y, from, comes). (inr (y, from.0, record { up = comes.up; root = comes.root; loan = comes.loan; under = comes.under }))),
        turned.1,
      )

      -- formals have what they had
      passed_then : (turned_views : Views) (facts : List Fact)
          → Turned easy sees seeing ready.accepted.settled ready.owns other alone inner.views ready.class.parts_named may refl refl turned_views facts
          → (x : ℕ) (w : Way) → turned_views.way x ≡ Some w → is_given s x ≡ true → ways.Named (home s depth) (turned_views.up x) → ⊥
      passed_then turned_views facts turned x w has formal taken_up = by_either (turned.0 x w has)
          (λ old. (inner.holds.passed x w (sym old.way ∙ has) formal (subst (ways.Named (home s depth)) old.up taken_up)))
          (λ (y, from, comes). (true_false (is_given s x) formal (own_there s x (orderly.variables x (inl from.1) (from.0).view))))

      -- no result waits that isn't taken, and what the first formal sees stays
      traversals_on : (after_step : State) (waits : List Waiting) (loops : List Loop) (n : ℕ) → returns_value inner.p.instr ≡ false → (inner.p.instr ≡ Finish → ⊥) → Left waits
          → (turned_views : Views) (facts : List Fact)
          → Turned easy sees seeing ready.accepted.settled ready.owns other alone inner.views ready.class.parts_named may refl refl turned_views facts
          → HasTraversals table typed (view_here s after_step)
          (record { stage = standing.at_next table typed effects input ready inner.state inner.top older outer inner.named inner.p inner.frames inner.of_sub inner.at_point inner.path waits loops n; views = turned_views; cells = [] } ∷ older)
      traversals_on after_step waits loops n none end are turned_views facts turned = (
        given_on table typed (view_here s inner.state) (view_here s after_step) (record { stage = inner.top; views = inner.views; cells = [] })
            (record { stage = standing.at_next table typed effects input ready inner.state inner.top older outer inner.named inner.p inner.frames inner.of_sub inner.at_point inner.path waits loops n; views = turned_views; cells = [] }) older
            (none_given table typed (view_here s after_step) (record { stage = standing.at_next table typed effects input ready inner.state inner.top older outer inner.named inner.p inner.frames inner.of_sub inner.at_point inner.path waits loops n; views = turned_views; cells = [] })
            (named_given table typed (record { stage = standing.at_next table typed effects input ready inner.state inner.top older outer inner.named inner.p inner.frames inner.of_sub inner.at_point inner.path waits loops n; views = turned_views; cells = [] }) (scope_behind inner.p) are (innermost.named_behind table typed effects input ready inner no_calls)))
            (λ g given. elim given [
              | inl nothing ↦ inl nothing
              | inr (some, returned, none_back, was) ↦ absurd (elim (ready.traversing.ending inner.top.frame.sub (inner.running.0).entered some inner.top.before inner.top.frame.next inner.path returned) [
                | inl (y, ends) ↦ going y (sym (innermost.instr_there table typed effects input ready inner) ∙ ends)
                | inr finishes ↦ end (sym (innermost.instr_there table typed effects input ready inner) ∙ finishes)
              ])
            ]) (inner.above.1).0,
        (
          (λ f traversed. (
              let old = (inner.above.1).1.0 f traversed in
              let is_first = ready.traversing.first inner.top.frame.sub f (inner.running.0).entered traversed in
              let view : (is_view s f ≡ true) × (is_bundle s f ≡ false) = (given_view s f is_first.1, access_bundle s f is_first.2) in (
                old.0,
                rooted_on s (sub_acts (sub_of program inner.top.frame.sub)) f old.0 view inner.views turned_views
                    (λ x w has. elim (turned.0 x w has) [ inl same ↦ inl (sym same.way ∙ has) | inr (y, from, comes) ↦ inr (y, from.2, comes.under) ]) old.1,
                old.2,
                old.3,
              ))),
          (inner.above.1).1.1,
        ),
      )

      pub goes_there : sparing → (inner.p.instr ≡ Finish → ⊥) → returns_value inner.p.instr ≡ false → (after_step : State) (waits : List Waiting) (loops : List Loop) (k : ℕ)
          → k < successors inner.p.instr → ((n : ℕ) → successor main_turn k ≡ Some n → after_step.frames ≡ record inner.top.frame { waits = waits; loops = loops; next = n } ∷ outer)
          → Left waits → Inside s IsOld after_step.memory depth (lasting_of s (scope_behind inner.p)) → LeadsFrom inner.p.instr (Goes after_step) → OthersKept s depth inner.state.memory after_step.memory
          → Along (Goes after_step)
      goes_there spare end none after_step waits loops k less frames_then are inside_then these stay =
          let (turned_views, turned, well) = these in
          let next = successor_there main_turn k (subst (λ z. k < z) (sym successors_there) less) in
          let q = standing.next_at table typed effects input ready inner.state inner.top older outer inner.named inner.p inner.frames inner.of_sub inner.at_point inner.path next.0 next.2 in
          let there = turned_placed easy sees seeing ready.accepted.settled ready.owns other alone inner.views ready.class.parts_named left_scope (scope_behind inner.p) refl refl
          ready.orderly.transitive ready.orderly.itself local inner.holds.only (inner.holds.lies, inner.holds.low) more turned_views facts_now (after (acts_of_main inner.p.instr) facts_now) (lent_on spare)
          (placed_left facts_now placed) (only_may turned_views (after (acts_of_main inner.p.instr) facts_now) turned) in
          let only_then : (x : ℕ) (w : Way) → turned_views.way x ≡ Some w → is_view s x ≡ true = well.holds.only in
          let lies_then = turned_lies easy sees seeing ready.accepted.settled ready.owns other alone inner.views ready.class.parts_named left_scope (scope_behind inner.p) refl refl
          ready.orderly.transitive ready.orderly.itself local inner.holds.only (inner.holds.lies, inner.holds.low) more turned_views (after (acts_of_main inner.p.instr) facts_now)
          (only_may turned_views (after (acts_of_main inner.p.instr) facts_now) turned) in
          let placed_next = placed_on program depth (after (acts_of_main inner.p.instr) facts_now) turned_views (scope_behind inner.p) (q.0).scope only_then q.2 there in
          standing.goes_to_next table typed effects input ready inner.state inner.top older outer inner.named inner.p inner.frames inner.of_sub inner.at_point inner.path no_calls after_step waits loops next.0 next.2 q.0 q.1 (frames_then next.0 next.1) inner.deep inner.stages turned_views
          (inner.running.0, inner.running.1, wait_still after_step (lasting_of s (scope_behind inner.p)) inside_then stay (record { far = well.viewed.far; bare = well.viewed.bare }))
          (standing.waits_next table typed effects input ready inner.state inner.top older outer inner.named inner.p inner.frames inner.of_sub inner.at_point inner.path waits loops next.0 next.2 are, others_await none)
          ((innermost.apart_from_them table typed effects input ready inner) (acts_of_main inner.p.instr) turned_views (view_here s after_step) only_then well.viewed) well.kept
          (scope_on s ready.owns after_step.memory depth (scope_behind inner.p) (q.0).scope (in_scope after_step.memory (lasting_of s (scope_behind inner.p)) inside_then) q.2)
          (record {
            held = λ x n lasts view bare e. well.holds.held x n view bare e;
            within = λ x n view bare e. (let own_way = well.holds.held x n view bare e in (placed_next x own_way.0 own_way.1).within);
            only = only_then;
            lies = lies_then;
            owners = well.holds.owners;
            passed = passed_then turned_views (after (acts_of_main inner.p.instr) facts_now) turned;
            own = well.holds.own;
            taken = well.holds.taken;
            parts = well.holds.parts;
            low = λ x q w has. inner.holds.low x q w (sym ((turned.1 x q).0) ∙ has);
          })
          (((innermost.placed_by table typed effects input ready inner) (after (acts_of_main inner.p.instr) facts_now) (after (acts_of_main inner.p.instr) own_facts) turned_views (q.0).scope ((innermost.own_loans table typed effects input ready inner) (acts_of_main inner.p.instr)) placed_next), (well.viewed.past, well.viewed.shown))
          (still_above after_step.memory stay, traversals_on after_step waits loops next.0 none end are turned_views (after (acts_of_main inner.p.instr) facts_now) turned) inner.views
          (steps_on no_calls end going (refl, refl, refl) (turned_so turned_views turned) refl)

      pub then_on : (left : Left (steps.waiting main_turn)) → sparing → (inner.p.instr ≡ Finish → ⊥) → returns_value inner.p.instr ≡ false → (outcome : Outcome)
          → LeadsFrom inner.p.instr outcome → GoesFrom left inner.p.instr outcome
          → Each (λ (next : State). OthersKept s depth inner.state.memory next.memory) outcome → Along outcome
      then_on left spare end none (Ends how after_step) leads on stay = leads
      then_on left spare end none (Goes after_step) leads on stay =
          goes_there spare end none after_step on.waits on.loops on.k on.less on.frames on.are on.inside leads stay

      pub goes_plainly : Plainly → IsOther inner.p.instr → FillsNone s inner.p.instr → (inner.p.instr ≡ Finish → ⊥) → returns_value inner.p.instr ≡ false → Along (turn main_turn inner.p.instr)
      goes_plainly plain other_one fills end none =
          let left = left_after fills in
          let text = standing.fine table typed effects input ready inner.state inner.top older outer inner.named inner.p inner.frames inner.of_sub inner.at_point in
          let both = each_instruction plain left inner.p.instr refl other_one text
          ((innermost.allowed_now table typed effects input ready inner) (spares end) (standing.allowed table typed effects input ready inner.state inner.top older outer inner.named inner.p inner.frames inner.of_sub inner.at_point inner.path no_calls))
          (standing.keeps_there table typed effects input ready inner.state inner.top older outer inner.named inner.p inner.frames inner.of_sub inner.at_point) in
          then_on left (spares end) end none (turn main_turn inner.p.instr) both.0 both.1 (others_keep main_turn inner.named.sub.result inner.p.instr text other_one)
