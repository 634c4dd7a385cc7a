-- A return with a value, which waits in the frame of the caller, leads on.
use Rattle.viewed_steps.proofs.Traversed.{none_given, empty_given}
use Rattle.machine.specs.flow_paths.Views.{sub_acts}
use Rattle.viewed_steps.specs.Traversals.{IsSourceIn}
use Rattle.soundness.proofs.ViewedSoundness.ViewKinds.{plain_named, true_false}
use Rattle.soundness.specs.ViewedSoundness.Taken.{GivesPlainly, types_taken, AreOfTypes}
use Rattle.std.proofs.Common.{◌≡◌, refl, sym, ap, ◌∙◌, subst, ◌⊎◌, inl, inr, ℕ, suc, ◌+◌, ◌<◌, Bool, true, false, ◌||◌, List, [], ◌∷◌, ◌++◌, drop, length, get_or, arith, append-nil, Some, None, if◌then◌else◌, take}
use Rattle.machine.specs.spark_base.Lists.{Has}
use Rattle.machine.specs.place_names.declared.act.Act.{Act}
use Rattle.machine.specs.place_names.declared.act.Act.TheVariants as act
use Rattle.machine.specs.place_names.declared.fact.Fact.{Fact}
use Rattle.machine.specs.place_names.declared.fact.Fact.TheVariants.{Moved, Lent}
use Rattle.machine.specs.place_names.declared.rule.Loan.TheVariants.{Observed}
use Rattle.machine.specs.place_names.Names.{Name as PlaceName}
use Rattle.machine.specs.type_definitions.Types.{Table, full, words}
use Rattle.machine.specs.typed_tree.Trees.{TypedTree, NoMore, More, Name, Call as CallIn}
use Rattle.machine.specs.typed_tree.Programs.{TypedProgram}
use Rattle.machine.specs.flow_paths.declared.report.Effects.{Effects}
use Rattle.machine.specs.flow_paths.Instructions.{Instruction, Call, Hold, EndScope, Finish, Declare, Assign}
use Rattle.machine.specs.flow_paths.Objects.{Typing, is_package_object, is_anonymous}
use Rattle.machine.specs.flow_paths.Names.{waiting as waits_in}
use Rattle.machine.specs.flow_paths.Acts as flow
use Rattle.machine.specs.flow_paths.Acts.{acts_in}
use Rattle.machine.specs.flow_paths.Laid.{FlowProgram, typing_of, flow_typing, flow_program, flow_named, FlowSub}
use Rattle.machine.specs.flow_paths.Paths.{ControlPath, PathPoint, path_point, goes_on, facts_before}
use Rattle.machine.specs.flow_paths.Effects.{path_points}
use Rattle.machine.specs.flow_paths.Scopes.{taken, brought, scope_behind, is_within}
use Rattle.machine.specs.Words as machine
use Rattle.machine.specs.Memory.{Memory, given_up}
use Rattle.machine.specs.Evaluate.{Evaluated, Done, Raises, Traps}
use Rattle.machine.specs.States.{Waiting, Frame, State, Outcome, Goes, sub_of}
use Rattle.machine.specs.Step.{Turn, start}
use Rattle.machine.specs.Step as steps
use Rattle.machine.specs.Typed.{successors}
use Rattle.machine.specs.Owners.{WellOwned, waiting_in}
use Rattle.soundness.specs.OwnedWays.Ways.{Step, OfVariable, OfRoot, Way, Held, after, AllowsAll}
use Rattle.soundness.specs.OwnedWays.Ways as ways
use Rattle.soundness.specs.Seen.{IsNear, content, word_in, home, seen}
use Rattle.soundness.specs.Typed.{Kept}
use Rattle.soundness.specs.TypedLaws.Needed.{Source}
use Rattle.soundness.specs.Sound.{IsNoCall, Stage, facts_of, returns_value, InScope, view_of as view_here, has_returned}
use Rattle.soundness.proofs.Scalars.{acts}
use Rattle.soundness.proofs.Scoped.{Inside}
use Rattle.soundness.proofs.Around.{IsFar}
use Rattle.soundness.proofs.Waits.{waits_of}
use Rattle.soundness.proofs.Taking.{Takes, takes_as, nothing_more}
use Rattle.soundness.proofs.Waited.{FillsNone}
use Rattle.soundness.proofs.Eased.{eased}
use Rattle.soundness.proofs.Successors.{below_one}
use Rattle.soundness.specs.OwnedLoans.Views.{Around, known_gone, Views, Viewed, ViewedAlone, IsShared, IsMovedBy}
use Rattle.soundness.specs.ViewedSoundness.Holds.{IsNamed, AllKeep, is_view, is_fixed, Holds, Seeing}
use Rattle.soundness.proofs.ViewedSoundness.Outcomes.{unturned}
use Rattle.viewed_steps.specs.Awaited.{AreFor, AreValues, AreValuesBut, temporaries_of, lasting_of, awaited, AreAwaited, AreScalar, TakesScalars, TakesAlone, TakesTogether}
use Rattle.viewed_steps.proofs.Waited.{Shares}
use Rattle.viewed_steps.specs.Sound.{IsWayOf, IsBeyond, HoldsAt, ArePlaced, NoneAbove, ViewStage, stages_of, GoneElsewhere, AreWaiting, IsStoredAt, returns_one, LeadsAlong, NoneGiven, IsGivenBelow, LentBy, KeptBy, withheld, loan_by}
use Rattle.viewed_steps.specs.Taken.{TakenBy}
use Rattle.viewed_steps.specs.Ready.{IsReady}
use Rattle.viewed_steps.proofs.Lent.{Spare, loans_stay}
use Rattle.viewed_steps.proofs.Placed.{scope_on, placed_on, MayBe, turned_placed}
use Rattle.viewed_steps.proofs.Beside.{OthersKept, source_stays}
use Rattle.viewed_steps.proofs.Waiting.{StandsBetween, AreTheirs, beside_them, handed}
use Rattle.viewed_steps.proofs.Standing as standing
use Rattle.viewed_steps.proofs.Packages as packages
use Rattle.viewed_steps.proofs.Innermost as innermost
use Rattle.viewed_steps.proofs.Alone as alone_value
use Rattle.viewed_steps.proofs.Within as holding
use Rattle.std.specs.Prelude.{is_some, flat_map}
use Rattle.std.proofs.lemmas.Bool.{false≢true}
use Rattle.machine.specs.Run.{no_point}
use Rattle.soundness.specs.Ready.{IsSupplied, Fills}
use Rattle.soundness.proofs.Onward.{Gets, source_inside}
use Rattle.soundness.proofs.Operands.{handed_over, hold_is}
use Rattle.soundness.proofs.Points.{path_there}
use Rattle.soundness.proofs.Numbers.{index_law}
use Rattle.soundness.proofs.Lasting.{keeps}
use Rattle.soundness.proofs.ViewedSoundness.Evaluated.{Given}
use Rattle.viewed_steps.proofs.Declared.{source_given}
use Rattle.viewed_steps.proofs.EachInstruction as each
use Rattle.viewed_steps.proofs.Views.{AreAccess}
use Rattle.machine.specs.place_names.Facts.{place}
use Rattle.machine.specs.place_names.declared.rule.Loan.{Loan}
use Rattle.viewed_steps.specs.Seeing.{sees_in}
use Rattle.viewed_steps.proofs.Sees.{sees_seeing}
use Rattle.viewed_steps.proofs.Constructors.{is_assign_instruction, is_call_instruction, is_declare_instruction, is_end_scope_instruction, is_finish_instruction}
use Rattle.viewed_steps.proofs.InnerFrame.{InnerFrame}
use Rattle.viewed_steps.proofs.Parted.{more_first, hold_same, list_first}

none_some : (n : ℕ) → None ≡ Some n → ⊥
none_some n e = absurd (false≢true (ap is_some e))

module _ (table : Table) (typed : TypedProgram) (effects : Effects) (input : List ℕ) (ready : IsReady table typed effects) where
  abbrev sees : ℕ → Bool
  sees = sees_in (flow_program table typed)

  abbrev seeing : Seeing (flow_typing (flow_program table typed)) sees
  seeing = sees_seeing (flow_program table typed)

  abbrev program : FlowProgram
  program = flow_program table typed

  abbrev s : Typing
  s = flow_typing program

  abbrev own : Typing
  own = typing_of table typed

  abbrev in_formals : AreAccess s
  in_formals = standing.in_formals table typed effects input ready

  abbrev local : (x : ℕ) → is_view s x ≡ true → is_package_object s x ≡ false
  local = standing.local table typed effects input ready

  abbrev unmoved_stage : (e : Stage) → e.frame.sub ≡ 0 → (name : PlaceName) → Has (facts_of program effects e) (Moved name) → ⊥
  unmoved_stage = packages.unmoved_stage table typed effects input ready

  module _ (inner : InnerFrame table typed effects) where
    abbrev outer : List Frame
    outer = inner.below.stage.frame ∷ inner.rest

    abbrev older : List ViewStage
    older = inner.below ∷ inner.more_frames

    abbrev depth : ℕ
    depth = suc (length inner.rest)

    abbrev between : (g : ViewStage) → Has (inner.below ∷ inner.more_frames) g → StandsBetween table typed effects unmoved_stage local inner.state (suc (length inner.rest)) (inner.below ∷ inner.more_frames) g
    between = innermost.between table typed effects input ready inner

    abbrev other : Around (home s (suc (length inner.rest)))
    other = beside_them table typed effects unmoved_stage local inner.state (suc (length inner.rest)) (inner.below ∷ inner.more_frames) between

    abbrev alone : (w : Way) → IsNear (suc (length inner.rest)) w → IsFar (suc (length inner.rest)) (GoneElsewhere program effects (inner.below ∷ inner.more_frames)) w → ⊥
    alone = innermost.alone table typed effects input ready inner

    abbrev main_turn : Turn
    main_turn = standing.t table typed effects input ready inner.state inner.top older outer inner.named inner.p inner.frames inner.of_sub inner.at_point

    abbrev own_facts : List Fact
    own_facts = standing.facts table typed effects input ready inner.state inner.top older outer inner.named inner.p inner.frames inner.of_sub inner.at_point inner.path

    abbrev handed_on : List Fact
    handed_on = handed table typed effects unmoved_stage local inner.state (suc (length inner.rest)) (inner.below ∷ inner.more_frames) between

    abbrev facts_now : List Fact
    facts_now = own_facts ++ handed_on

    abbrev acts_of_main : Instruction → List Act
    acts_of_main i = standing.acts_here table typed effects input ready inner.state inner.top older outer inner.named inner.p inner.frames inner.of_sub inner.at_point i

    abbrev allowed_now : Spare s (standing.acts_by table typed effects input ready inner.state inner.top older outer inner.named inner.p inner.frames inner.of_sub inner.at_point s inner.p.instr) → AllowsAll own_facts (acts_of_main inner.p.instr)
        → AllowsAll facts_now (acts_of_main inner.p.instr)
    allowed_now = innermost.allowed_now table typed effects input ready inner

    abbrev viewed : Viewed (home s depth) sees other inner.views (view_here s inner.state) facts_now
    viewed = innermost.viewed table typed effects input ready inner

    abbrev apart_from_them : (done : List Act) (v : Views) (view : ways.View) → ((x : ℕ) (w : Way) → v.way x ≡ Some w → is_view s x ≡ true)
        → Viewed (home s depth) sees other v view (after done facts_now)
        → ViewedAlone (home s depth) sees (known_gone (home s depth) (GoneElsewhere program effects older)) v view (after done own_facts)
    apart_from_them = innermost.apart_from_them table typed effects input ready inner

    abbrev placed_by : (some all : List Fact) (v : Views) (scope_there : List ℕ) → ((h : ℕ) (m : PlaceName) → sees h ≡ true → Has some (Lent Observed h m) → Has all (Lent Observed h m))
        → ArePlaced program (suc (length inner.rest)) some v scope_there → ArePlaced program (suc (length inner.rest)) all v scope_there
    placed_by = innermost.placed_by table typed effects input ready inner

    abbrev placed : ArePlaced program (suc (length inner.rest)) facts_now inner.views inner.p.scope
    placed = innermost.placed table typed effects input ready inner

    abbrev own_loans : (done : List Act) (h : ℕ) (m : PlaceName) → sees h ≡ true → Has (after done facts_now) (Lent Observed h m)
        → Has (after done own_facts) (Lent Observed h m)
    own_loans = innermost.own_loans table typed effects input ready inner

    abbrev left_scope : List ℕ
    left_scope = drop (taken inner.p.instr) inner.p.scope

    abbrev given_words : List (List machine.Word)
    given_words = (start main_turn).waits

    abbrev Plain : Type 0
    Plain = AreScalar s (temporaries_of s (take (taken inner.p.instr) inner.p.scope))

    abbrev named_there : Has (flow_named table typed) inner.named
    named_there = innermost.named_there table typed effects input ready inner

    abbrev takes_of : Plain → (i : Instruction) → inner.p.instr ≡ i → Takes (taken i) given_words []
    takes_of = innermost.takes_of table typed effects input ready inner

    abbrev easy : Turn
    easy = eased main_turn

    abbrev placed_left : (facts : List Fact) → ArePlaced program (suc (length inner.rest)) facts inner.views inner.p.scope → ArePlaced program (suc (length inner.rest)) facts inner.views left_scope
    placed_left = innermost.placed_left table typed effects input ready inner

    abbrev Left : List Waiting → Type 0
    Left waits = AreValues s waits (scope_behind inner.p)

    abbrev left_after : FillsNone s inner.p.instr → Left (steps.waiting main_turn)
    left_after = innermost.left_after table typed effects input ready inner

    abbrev raised_well : (m : Memory) → WellOwned s (steps.counted (record inner.state { memory = given_up inner.state.memory m }))
    raised_well = innermost.raised_well table typed effects input ready inner

    abbrev successors_there : length main_turn.point.next ≡ successors inner.p.instr
    successors_there = innermost.successors_there table typed effects input ready inner

    abbrev IsOld : ℕ → ℕ → Type 0
    IsOld f x =
        (f < suc (length inner.rest)) × ((f ≡ 0)
        ⊎ ((q : List Step) × (k : ℕ) × (word_in s.table (content s inner.state.memory [] (OfRoot (OfVariable f x))) q ≡ Held k)))

    abbrev inside_left : Inside s IsOld inner.state.memory depth (lasting_of s left_scope)
    inside_left = innermost.inside_left table typed effects input ready inner

    abbrev in_scope : (m : Memory) (after_scope : List ℕ) → Inside s IsOld m depth after_scope → InScope s m depth after_scope
    in_scope = innermost.in_scope table typed effects input ready inner

    abbrev still_above : (m : Memory) → OthersKept s depth inner.state.memory m → NoneAbove s depth m
    still_above = innermost.still_above table typed effects input ready inner

    abbrev wait_still : (next : State) (after_scope : List ℕ) → Inside s IsOld next.memory depth after_scope → OthersKept s depth inner.state.memory next.memory
        → AreTheirs table typed effects unmoved_stage local older (view_here s next)
        → AreWaiting table typed effects next inner.top.frame.sub inner.top.frame.returns older
    wait_still = innermost.wait_still table typed effects input ready inner

    abbrev sub_here : FlowSub
    sub_here = sub_of program inner.top.frame.sub

    abbrev instr_there : (get_or sub_here.points inner.top.frame.next no_point).instr ≡ inner.p.instr
    instr_there = innermost.instr_there table typed effects input ready inner

    abbrev supplied_here : IsSupplied s inner.p
    supplied_here = innermost.supplied_here table typed effects input ready inner

    abbrev shared : Shares s (taken inner.p.instr) inner.top.frame.waits inner.p.scope
    shared = innermost.shared table typed effects input ready inner

    -- where it leads, and how the frames come from those before
    abbrev Along : Outcome → Type 0
    Along outcome = LeadsAlong table typed effects inner.p.instr inner.state.memory (record { stage = inner.top; views = inner.views; cells = [] }) (inner.below ∷ inner.more_frames) outcome

    abbrev may : ℕ → ℕ → Type 0
    may x y = MayBe program (scope_behind inner.p) x y × IsStoredAt inner.p.instr x × IsSourceIn (sub_acts (sub_of program inner.top.frame.sub)) x y

    abbrev AnyLeft : List Waiting → Type 0
    AnyLeft waits = Unit {0}

    module _ (e last : TypedTree) (is : inner.p.instr ≡ Hold (More e last)) (of : ℕ) (result : inner.named.sub.result ≡ Some of) (source : Source s of e) (alone_there : last ≡ NoMore) where
      sub_result : sub_here.result ≡ Some of
      sub_result = ap (λ (z : FlowSub). z.result) (standing.sub_is table typed effects input ready inner.state inner.top older outer inner.named inner.p inner.frames inner.of_sub inner.at_point) ∙ result

      going_then : (x : ℕ) → inner.p.instr ≡ EndScope x → ⊥
      going_then x same = (let never : Hold (More e last) ≡ EndScope x = sym is ∙ same in absurd (false≢true (ap is_end_scope_instruction never)))

      no_call_then : IsNoCall inner.p.instr
      no_call_then n actuals temporary same = (let never : Hold (More e last) ≡ Call n actuals temporary = sym is ∙ same in absurd (false≢true (ap is_call_instruction never)))

      no_finish_then : inner.p.instr ≡ Finish → ⊥
      no_finish_then same = (let never : Hold (More e last) ≡ Finish = sym is ∙ same in absurd (false≢true (ap is_finish_instruction never)))

      acts_then : is_anonymous (full s.table of) ≡ false → acts_of_main inner.p.instr ≡ acts (acts_in s e)
      unfolding acts_in
      acts_then plain_result =
          ap acts_of_main is ∙ ap (λ r. acts (flow.returned_acts s r (More e last))) result
          ∙ ap (λ b. acts (if b then flow.source_acts s e (λ m. act.Give m (flow.gives_variable s (Some of))) else acts_in s e ++ acts_in s last)) plain_result
          ∙ ap acts (ap (λ z. acts_in s e ++ acts_in s z) alone_there ∙ append-nil (acts_in s e))

      takes_value : Plain → Takes (waits_in e) given_words []
      unfolding waits_in
      takes_value plain =
          takes_as (taken (Hold (More e last))) (waits_in e) given_words []
          (ap (λ z. waits_in e + waits_in z) alone_there ∙ nothing_more (waits_in e)) (takes_of plain (Hold (More e last)) is)

      plainly_value : TakesScalars s inner.p.instr → GivesPlainly s e
      unfolding GivesPlainly
      plainly_value plain = (subst (TakesScalars s) is plain).0

      abbrev spare_value : Spare s (standing.acts_by table typed effects input ready inner.state inner.top older outer inner.named inner.p inner.frames inner.of_sub inner.at_point s inner.p.instr)
      spare_value = each.spares table typed effects input ready inner going_then no_call_then no_finish_then

      pub allowed_then : AllowsAll facts_now (acts_of_main inner.p.instr)
      allowed_then = allowed_now spare_value (standing.allowed table typed effects input ready inner.state inner.top older outer inner.named inner.p inner.frames inner.of_sub inner.at_point inner.path no_call_then)

      allowed_value : is_anonymous (full s.table of) ≡ false → AllowsAll facts_now (acts (acts_in s e))
      allowed_value plain_result = subst (AllowsAll facts_now) (acts_then plain_result) (allowed_now spare_value (standing.allowed table typed effects input ready inner.state inner.top older outer inner.named inner.p inner.frames inner.of_sub inner.at_point inner.path no_call_then))

      keeps_value : is_anonymous (full s.table of) ≡ false → AllKeep (is_fixed s sees) (acts (acts_in s e))
      keeps_value plain_result = subst (AllKeep (is_fixed s sees)) (acts_then plain_result) (standing.keeps_there table typed effects input ready inner.state inner.top older outer inner.named inner.p inner.frames inner.of_sub inner.at_point)

      left_values : Left (steps.waiting main_turn)
      left_values = left_after (subst (FillsNone s) (sym is) tt)

      no_value_left : steps.waiting main_turn ≡ []
      no_value_left =
          no_values (steps.waiting main_turn) (temporaries_of s left_scope) (subst (λ i. Fills s i left_scope) is supplied_here.1) shared.left
        where
          no_values : (waits : List Waiting) (xs : List ℕ) → length xs ≡ 0 → AreFor s waits xs → waits ≡ []
          no_values [] xs none all = refl
          no_values (v ∷ waits) [] none all = absurd all
          no_values (v ∷ waits) (x ∷ xs) none all = absurd (omega (arith, none))

      some_result : is_some sub_here.result ≡ true
      some_result = ap is_some sub_result

      returns_here : returns_value (get_or sub_here.points inner.top.frame.next no_point).instr ≡ true
      returns_here = ap returns_value (instr_there ∙ is)

      -- it hasn't returned before, and it has then
      awaited_before : awaited sub_here inner.top.before ≡ Some of
      awaited_before =
          let not_yet = (ready.returning inner.top.frame.sub (inner.running.0).entered some_result inner.top.before inner.top.frame.next inner.path).0 returns_here in
          ap (λ z. if z then None else sub_here.result) not_yet ∙ sub_result

      awaited_then : awaited sub_here (inner.top.frame.next ∷ inner.top.before) ≡ None
      awaited_then = ap (λ z. if z || has_returned sub_here inner.top.before then None else sub_here.result) returns_here

      one_awaited : AreAwaited table typed (Some of) (stages_of (inner.below ∷ inner.more_frames))
      one_awaited = subst (λ n. AreAwaited table typed n (stages_of (inner.below ∷ inner.more_frames))) awaited_before inner.awaiting.1

      abbrev value_of : List machine.Word → Waiting
      value_of ws = record { of = of; words = ws }

      abbrev pub below_with : Waiting → ViewStage
      below_with v = record inner.below { stage = record inner.below.stage { frame = record inner.below.stage.frame { waits = v ∷ inner.below.stage.frame.waits } } }

      value_there : (ws : List machine.Word) → length ws ≡ words s.table of → (waits : List Waiting) (xs : List ℕ) → AreValuesBut s (Some of) waits xs
          → AreFor s (value_of ws ∷ waits) xs
      value_there ws long waits [] all = absurd all
      value_there ws long waits (x ∷ xs) (fits, all) = ((fits, long), all)

      await_with : (ws : List machine.Word) → length ws ≡ words s.table of → (others : List ViewStage) → AreAwaited table typed (Some of) (stages_of (inner.below ∷ others))
          → AreAwaited table typed None (stages_of (below_with (value_of ws) ∷ others))
      await_with ws long [] await = (let never = await.0 in absurd (none_some of (sym never)))
      await_with ws long (h ∷ others) await = (
        λ other_named other_stands q at_q. value_there ws long inner.below.stage.frame.waits (temporaries_of s q.scope) (await.0 other_named other_stands q at_q),
        await.1,
      )

      wait_with : (v : Waiting) (st : State) (others : List ViewStage) → AreAwaited table typed (Some of) (stages_of (inner.below ∷ others))
          → AreWaiting table typed effects st inner.top.frame.sub inner.top.frame.returns (inner.below ∷ others) → AreWaiting table typed effects st inner.top.frame.sub inner.top.frame.returns (below_with v ∷ others)
      wait_with v st [] await waits = (let never = await.0 in absurd (none_some of (sym never)))
      wait_with v st (h ∷ others) await waits =
          let was = waits.0 in (
            record {
              runs = was.runs;
              plain = was.plain;
              path = was.path;
              named = was.named;
              of_sub = was.of_sub;
              point = was.point;
              at_point = was.at_point;
              scope = was.scope;
              lends = was.lends;
              writes = was.writes;
              unmoved = was.unmoved;
              shown = was.shown;
              apart = was.apart;
              written = was.written;
              goes = was.goes;
              names = λ to has. (let n = was.names to has in record {
                name = n.name;
                called = n.called;
                plain = n.plain;
                leads = n.leads;
                unlent = n.unlent;
                cleared = n.cleared;
                written = n.written;
              });
              off = was.off;
              off_parts = was.off_parts;
              uses = was.uses;
              clear = was.clear;
              views = was.views;
              holds = was.holds;
              placed = was.placed;
              kept = λ c has. record {
                named = (was.kept c has).named;
                leads = (was.kept c has).leads;
                reaches = (was.kept c has).reaches;
                aside = (was.kept c has).aside;
              };
              bare = was.bare;
              taken = was.taken;
            },
            waits.1,
            waits.2,
            waits.3,
          )

      past_with : (v : Waiting) → IsBeyond program effects depth inner.views (inner.below ∷ inner.more_frames) → IsBeyond program effects depth inner.views (below_with v ∷ inner.more_frames)
      past_with v past = (λ x w has given sight k n keeps_it goes. past_one x w has given sight k n keeps_it goes, (λ x w has given named_there. shared_one (sees x) w (past.1.0 x w has given named_there), λ x q w has named_there. shared_one true w (past.1.1 x q w has named_there)))
        where
          way_from : (g : ViewStage) (k : Way) (n : ℕ) → below_with v ≡ g → IsWayOf g k n → IsWayOf inner.below k n
          way_from g k n same way = subst (λ (z : ViewStage). IsWayOf z k n → IsWayOf inner.below k n) same (λ there. there) way

          past_one : (x : ℕ) (w : Way) → inner.views.way x ≡ Some w → (ways.Named (home s depth) (inner.views.up x) → ⊥) → sees x ≡ false → (k : Way) (n : ℕ)
              → KeptBy (below_with v ∷ inner.more_frames) k n → ways.Past w k → ⊥
          past_one x w has given sight k n (g, inr there, way) goes = past.0 x w has given sight k n (g, inr there, way) goes
          past_one x w has given sight k n (g, inl same, way) goes = past.0 x w has given sight k n (inner.below, inl refl, way_from g k n same way) goes

          lent_with : (l : Loan) (name : PlaceName) → LentBy program effects (inner.below ∷ inner.more_frames) l name → LentBy program effects (below_with v ∷ inner.more_frames) l name
          lent_with l name lent = elim lent.1 [
            | inr there ↦ (lent.0, inr there, lent.2, lent.3, lent.4, lent.5, lent.6, lent.7)
            | inl same ↦ (
                let there =
                subst (λ (z : ViewStage). (0 < z.stage.depth) × (f : Fact) × Has (withheld program effects z) f × (is_package_object s name.root ≡ true) × (loan_by f ≡ l) × (place f ≡ name)) (sym same)
                (lent.2, lent.3, lent.4, lent.5, lent.6, lent.7) in
                (below_with v, inl refl, there.0, there.1, there.2, there.3, there.4, there.5)
                )
          ]

          shared_one : (sight : Bool) (w : Way) → IsShared (home s depth) (LentBy program effects (inner.below ∷ inner.more_frames)) sight w
              → IsShared (home s depth) (LentBy program effects (below_with v ∷ inner.more_frames)) sight w
          shared_one sight w (l, through, changed) = (l, (through.0, through.1, through.2, lent_with l (ways.name_of through.0) through.3), changed)

      elsewhere_from : (v : Waiting) (w : Way) → GoneElsewhere program effects (below_with v ∷ inner.more_frames) w → GoneElsewhere program effects (inner.below ∷ inner.more_frames) w
      elsewhere_from v w (g, inr has, what) = (g, inr has, what)
      elsewhere_from v w (g, inl same, what) =
          (inner.below, inl refl, subst (λ (z : ViewStage). IsMovedBy (home s z.stage.depth) z.views (facts_of program effects z.stage) w ⊎ TakenBy z.stage.returns w) (sym same) what)

      elsewhere_with : (v : Waiting) (w : Way) → GoneElsewhere program effects (inner.below ∷ inner.more_frames) w → GoneElsewhere program effects (below_with v ∷ inner.more_frames) w
      elsewhere_with v w (g, inr has, what) = (g, inr has, what)
      elsewhere_with v w (g, inl same, what) =
          (below_with v, inl refl, subst (λ (z : ViewStage). IsMovedBy (home s z.stage.depth) z.views (facts_of program effects z.stage) w ⊎ TakenBy z.stage.returns w) (sym same) what)

      -- the successor
      abbrev next_number : ℕ
      next_number = get_or main_turn.point.next 0 0

      next_has : Has main_turn.point.next next_number
      next_has = first_has main_turn.point.next (subst (λ z. 0 < z) (sym (successors_there ∙ ap successors is)) below_one)
        where
          first_has : (xs : List ℕ) → 0 < length xs → Has xs (get_or xs 0 0)
          first_has [] less = absurd (omega (arith, less))
          first_has (x ∷ xs) less = inl refl

      abbrev top_then : Stage
      top_then = standing.at_next table typed effects input ready inner.state inner.top older outer inner.named inner.p inner.frames inner.of_sub inner.at_point inner.path (steps.waiting main_turn) inner.top.frame.loops next_number

      abbrev pub state_then : List machine.Word → Memory → State
      state_then ws m = handed_over program input main_turn.point inner.state inner.top.frame inner.below.stage.frame inner.rest of ws m

      hands_then : (ws : List machine.Word) (m : Memory) → waiting_in (state_then ws m) ≡ value_of ws ∷ waiting_in easy.state
      hands_then ws m =
          ap (λ z. z ++ (value_of ws ∷ (inner.below.stage.frame.waits ++ flat_map waits_of inner.rest))) no_value_left
          ∙ ap (λ z. value_of ws ∷ (z ++ (inner.below.stage.frame.waits ++ flat_map waits_of inner.rest))) (sym no_value_left)

      abbrev facts_then : List Fact
      facts_then = after (acts_of_main inner.p.instr) own_facts

      -- the top frame afterwards
      abbrev pub top_stage_then : ViewStage
      top_stage_then = record { stage = top_then; views = inner.views; cells = [] }

      pub returned_to : (ws : List machine.Word) (m : Memory)
          → Viewed (home s depth) sees other inner.views (seen s m (value_of ws ∷ waiting_in easy.state) inner.state.leaks) (after (acts_of_main inner.p.instr) facts_now)
          → Kept s m (value_of ws ∷ waiting_in easy.state) → Holds s sees depth inner.views m → length ws ≡ words s.table of → Inside s IsOld m depth (lasting_of s left_scope)
          → OthersKept s depth inner.state.memory m → IsGivenBelow table typed (seen s m (value_of ws ∷ waiting_in easy.state) inner.state.leaks) top_stage_then (below_with (value_of ws))
          → Along (Goes (state_then ws m))
      returned_to ws m viewed_then kept_then holds_then long inside_then stay given_then =
          let v : Waiting = value_of ws in
          let view = seen s m (v ∷ waiting_in easy.state) inner.state.leaks in
          let view_same : view ≡ view_here s (state_then ws m) = ap (λ z. seen s m z inner.state.leaks) (sym (hands_then ws m)) in
          let well_all : Viewed (home s depth) sees other inner.views view (after (acts_of_main inner.p.instr) facts_now) =
          viewed_then in
          let well = apart_from_them (acts_of_main inner.p.instr) inner.views view inner.holds.only well_all in
          let found = standing.next_at table typed effects input ready inner.state inner.top older outer inner.named inner.p inner.frames inner.of_sub inner.at_point inner.path next_number next_has in
          let step_on : Has (path_point (standing.points table typed effects input ready inner.state inner.top older outer inner.named inner.p inner.frames inner.of_sub inner.at_point) inner.top.frame.next).next next_number =
          subst (λ (z : PathPoint). Has z.next next_number) (sym (path_there own inner.named inner.top.frame.next inner.p inner.at_point program effects)) next_has in
          let facts_there : facts_of program effects top_then ≡ facts_then =
          ap (λ (z : FlowSub). facts_before (path_points program effects z) (inner.top.frame.next ∷ inner.top.before)) (standing.sub_is table typed effects input ready inner.state inner.top older outer inner.named inner.p inner.frames inner.of_sub inner.at_point)
          ∙ standing.facts_on table typed effects input ready inner.state inner.top older outer inner.named inner.p inner.frames inner.of_sub inner.at_point inner.path no_call_then in
          let inside_behind : Inside s IsOld m depth (lasting_of s (scope_behind inner.p)) = subst (λ i. Inside s IsOld m depth (lasting_of s (brought i left_scope))) (sym is) inside_then in
          let more_behind : (x : ℕ) → is_within x left_scope ≡ true → is_within x (scope_behind inner.p) ≡ true =
          (λ x within. subst (λ i. is_within x (brought i left_scope) ≡ true) (sym is) within) in
          let there = turned_placed easy sees seeing ready.accepted.settled ready.owns other alone inner.views ready.class.parts_named left_scope (scope_behind inner.p) refl refl
          ready.orderly.transitive ready.orderly.itself local inner.holds.only (inner.holds.lies, inner.holds.low) more_behind inner.views facts_now (after (acts_of_main inner.p.instr) facts_now)
          (λ h n has. loans_stay s (standing.acts_by table typed effects input ready inner.state inner.top older outer inner.named inner.p inner.frames inner.of_sub inner.at_point s inner.p.instr) spare_value facts_now Observed h n has)
          (placed_left facts_now placed) (unturned easy sees seeing ready.accepted.settled ready.owns other alone inner.views ready.class.parts_named (λ x y. MayBe program (scope_behind inner.p) x y) refl refl (after (acts_of_main inner.p.instr) facts_now)) in
          let placed_next = placed_on program depth (after (acts_of_main inner.p.instr) facts_now) inner.views (scope_behind inner.p) (found.0).scope inner.holds.only found.2 there in (
            record {
              top = top_then;
              views = inner.views;
              older = below_with v ∷ inner.more_frames;
              stages = (refl, inner.deep, (refl, inner.stages.1, inner.stages.2));
              running = (
                inner.running.0,
                inner.running.1,
                wait_with v (state_then ws m) inner.more_frames one_awaited
                    (wait_still (state_then ws m) (lasting_of s (scope_behind inner.p)) inside_behind stay
                    (record {
                      far = λ w n keeps. subst (λ z. ways.Reaches z w (ways.OfCell n)) view_same (well_all.far w n keeps);
                      bare = λ w n part_path bare q c held. well_all.bare w n part_path bare q c (subst (λ z. z.word (ways.part n (q ++ part_path)) ≡ Held c) (sym view_same) held);
                    })),
              );
              awaited = (
                standing.waits_next table typed effects input ready inner.state inner.top older outer inner.named inner.p inner.frames inner.of_sub inner.at_point inner.path (steps.waiting main_turn) inner.top.frame.loops next_number next_has left_values,
                subst (λ n. AreAwaited table typed n (stages_of (below_with v ∷ inner.more_frames))) (sym awaited_then) (await_with ws long inner.more_frames one_awaited),
              );
              path = subst (λ (z : FlowSub). ControlPath (path_points program effects z) (inner.top.frame.next ∷ inner.top.before) next_number)
                  (sym (standing.sub_is table typed effects input ready inner.state inner.top older outer inner.named inner.p inner.frames inner.of_sub inner.at_point))
                  (goes_on inner.top.before inner.top.frame.next next_number (standing.path_here table typed effects input ready inner.state inner.top older outer inner.named inner.p inner.frames inner.of_sub inner.at_point inner.path) step_on);
              viewed = subst (λ z. ViewedAlone (home s inner.top.depth) sees (known_gone (home s inner.top.depth) (GoneElsewhere program effects (below_with v ∷ inner.more_frames))) inner.views z (facts_of program effects top_then)) view_same
                  (subst (λ d. ViewedAlone (home s d) sees (known_gone (home s d) (GoneElsewhere program effects (below_with v ∷ inner.more_frames))) inner.views view (facts_of program effects top_then)) (sym inner.deep)
                  (subst (ViewedAlone (home s depth) sees (known_gone (home s depth) (GoneElsewhere program effects (below_with v ∷ inner.more_frames))) inner.views view) (sym facts_there)
                  (record {
                    owned = well.owned;
                    covered = well.covered;
                    known = λ w l rooted r gone. elim (well.known w l rooted r gone) [ inl moved ↦ inl moved | inr elsewhere ↦ inr (elsewhere_with v w elsewhere) ];
                    clear = well.clear;
                    views = well.views;
                    whole = λ x w z has foreign gone meets. well.whole x w z has foreign (elsewhere_from v z gone) meets;
                    whole_parts = λ x part_path w z has gone meets. well.whole_parts x part_path w z has (elsewhere_from v z gone) meets;
                  })));
              kept = subst (Kept s m) (sym (hands_then ws m)) kept_then;
              named = inner.named;
              of_sub = inner.of_sub;
              point = found.0;
              at_point = found.1;
              scope = subst (λ d. InScope s m d (lasting_of s (found.0).scope)) (sym inner.deep)
                  (scope_on s ready.owns m depth (scope_behind inner.p) (found.0).scope (in_scope m (lasting_of s (scope_behind inner.p)) inside_behind) found.2);
              holds = subst (λ d. HoldsAt s sees d inner.views m found.0) (sym inner.deep) (record {
                held = λ x n lasts view_is bare at. holds_then.held x n view_is bare at;
                within = λ x n view_is bare at. (let own_way = holds_then.held x n view_is bare at in (placed_next x own_way.0 own_way.1).within);
                only = inner.holds.only;
                lies = inner.holds.lies;
                owners = inner.holds.owners;
                passed = inner.holds.passed;
                own = inner.holds.own;
                taken = inner.holds.taken;
                parts = holds_then.parts;
                low = inner.holds.low;
              });
              placed = subst (λ d. ArePlaced program d (facts_of program effects top_then) inner.views (found.0).scope) (sym inner.deep) (subst (λ z. ArePlaced program depth z inner.views (found.0).scope) (sym facts_there)
                  (placed_by (after (acts_of_main inner.p.instr) facts_now) facts_then inner.views (found.0).scope (own_loans (acts_of_main inner.p.instr)) placed_next));
              past = subst (λ d. IsBeyond program effects d inner.views (below_with v ∷ inner.more_frames)) (sym inner.deep) (past_with v inner.placed_before.1);
              none_above = subst (λ d. NoneAbove s d m) (sym inner.deep) (still_above m stay);
              traversals = (
                (
                  none_given table typed (view_here s (state_then ws m)) (record { stage = top_then; views = inner.views; cells = [] }) (empty_given table typed (record { stage = top_then; views = inner.views; cells = [] }) no_value_left),
                  subst (λ z. IsGivenBelow table typed z top_stage_then (below_with v)) view_same given_then,
                  (inner.above.1).0.2,
                ),
                ((inner.above.1).1.0, (inner.above.1).1.1),
              );
            },
            returns_one no_call_then no_finish_then going_then inner.below inner.more_frames (v ∷ inner.below.stage.frame.waits) refl (refl, refl, refl) (λ x w has. inl has) refl,
          )

      -- a result of no anonymous type
      module _ (plain_result : is_anonymous (full s.table of) ≡ false) where
        pub named_result : IsNamed s.table of
        named_result = plain_named s.table of plain_result

        named_value : (ws : List machine.Word) → NoneGiven s (below_with (value_of ws))
        named_value ws w others same seen_there = true_false (is_anonymous (full s.table of)) (ap (λ (z : Waiting). is_anonymous (full s.table z.of)) first ∙ seen_there) plain_result
          where
            first : value_of ws ≡ w
            first = list_first same

        then_returned : (y : Evaluated (List machine.Word))
            → Given (steps.here main_turn) sees seeing ready.accepted.settled inner.state.leaks [] other alone (keeps s ready.accepted.settled ready.owns) index_law ready.owns inner.views
            ready.class.parts_named of (waiting_in easy.state) (after (acts (acts_in s e)) facts_now) y
            → Gets (λ ws m. Inside s IsOld m depth (lasting_of s left_scope)) y → Gets (λ ws m. OthersKept s depth inner.state.memory m) y
            → Along (steps.evaluated main_turn y (λ ws m. Goes (state_then ws m)))
        then_returned (Done ws n) (good, long, same) inside_then stay =
            returned_to ws n.memory (subst (λ z. Viewed (home s depth) sees other inner.views (seen s n.memory (value_of ws ∷ waiting_in easy.state) inner.state.leaks) (after z facts_now))
            (sym (acts_then plain_result)) good.viewed) good.kept good.holds long inside_then stay (inl (named_value ws))
        then_returned (Raises x n) given inside_then stay = ((λ trap. trap), raised_well n.memory)
        then_returned (Traps x n) never inside_then stay = absurd never

        -- what the value comes to
        abbrev IsGivenValue : Type 0
        IsGivenValue =
            Given (steps.here main_turn) sees seeing ready.accepted.settled inner.state.leaks [] other alone (keeps s ready.accepted.settled ready.owns) index_law ready.owns inner.views
            ready.class.parts_named of (waiting_in easy.state) (after (acts (acts_in s e)) facts_now) (steps.taken_by main_turn of e (start main_turn))

        pub value_step : IsGivenValue → Along (steps.hold main_turn (More e last))
        value_step given =
            subst (Along) (sym (hold_is program input main_turn.point inner.state inner.top.frame inner.below.stage.frame inner.rest e last of sub_result))
            (then_returned (steps.taken_by main_turn of e (start main_turn)) given
            (source_inside main_turn AnyLeft tt IsOld (lasting_of s left_scope) (lasting_of s left_scope) inside_left (λ x within. within) of e)
            (source_stays main_turn of e))

        pub plain_given : Plain × TakesScalars s inner.p.instr → IsGivenValue
        plain_given plain =
            source_given easy sees seeing ready.accepted.settled ready.owns other alone in_formals inner.views ready.class.parts_named may refl refl given_words of e named_result source
            (plainly_value plain.1) (takes_value plain.0) facts_now
            (each.good table typed effects input ready inner going_then no_call_then plain.0) (allowed_value plain_result) (keeps_value plain_result)

        -- or of a value that is made of what is taken
        pub within_given : TakesTogether s inner.named.sub.result inner.p → IsGivenValue
        unfolding types_taken
        within_given within = elim within.1 [
          | inl (x, other_instr, owner) ↦ (let never : Hold (More e last) ≡ Declare x (More within.0 NoMore) = sym is ∙ other_instr in absurd (false≢true (ap is_declare_instruction never)))
          | inr (inl (q, x, steps, u, other_instr, place, scalar)) ↦ (let never : Hold (More e last) ≡ Assign (Name q x steps u) within.0 = sym is ∙ other_instr in absurd (false≢true (ap is_assign_instruction never)))
          | inr (inr (same_instr, plain_then)) ↦ (
              let both : Hold (More e last) ≡ Hold (More within.0 NoMore) = sym is ∙ same_instr in
              let same_tree : e ≡ within.0 = more_first (hold_same both) in
              let fit : AreOfTypes s (types_taken s within.0) (take (taken inner.p.instr) inner.top.frame.waits) = holding.values_fit table typed effects input ready inner going_then within (Hold (More within.0 NoMore)) same_instr in
              subst (λ z. Source s of z → AllowsAll facts_now (acts (acts_in s z)) → AllKeep (is_fixed s sees) (acts (acts_in s z))
              → Given (steps.here main_turn) sees seeing ready.accepted.settled inner.state.leaks [] other alone (keeps s ready.accepted.settled ready.owns)
              index_law ready.owns inner.views ready.class.parts_named of (waiting_in easy.state) (after (acts (acts_in s z)) facts_now) (steps.taken_by main_turn of z (start main_turn)))
              (sym same_tree)
              (λ source_tree allows keeps_it. holding.alone_within table typed effects input ready inner going_then within of named_result source_tree fit allows keeps_it) source (allowed_value plain_result) (keeps_value plain_result))
        ]

        -- what was given alone
        pub alone_given : TakesAlone s inner.p → IsGivenValue
        unfolding acts_in
        alone_given alone_taken = elim (alone_taken.8) [
          | inl (x, other_instr) ↦ (let never : Hold (More e last) ≡ Declare x (More (CallIn alone_taken.3 alone_taken.4 alone_taken.5) NoMore) = sym is ∙ other_instr in absurd (false≢true (ap is_declare_instruction never)))
          | inr (inl (q, x, steps, u, other_instr, calls)) ↦ (
              let never : Hold (More e last) ≡ Assign (Name q x steps u) (CallIn alone_taken.3 alone_taken.4 alone_taken.5) = sym is ∙ other_instr in absurd (false≢true (ap is_assign_instruction never)))
          | inr (inr same_instr) ↦ (
              let call : TypedTree = CallIn alone_taken.3 alone_taken.4 alone_taken.5 in
              let both : Hold (More e last) ≡ Hold (More call NoMore) = sym is ∙ same_instr in
              let is_call : e ≡ call = more_first (hold_same both) in
              subst (λ z. Source s of z → Given (steps.here main_turn) sees seeing ready.accepted.settled inner.state.leaks [] other alone (keeps s ready.accepted.settled ready.owns)
              index_law ready.owns inner.views ready.class.parts_named of (waiting_in easy.state) (after (acts (acts_in s z)) facts_now) (steps.taken_by main_turn of z (start main_turn)))
              (sym is_call)
              (λ source_call. alone_value.source_alone table typed effects input ready inner going_then alone_taken of named_result source_call) source)
        ]
