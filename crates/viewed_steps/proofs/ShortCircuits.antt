-- An operand of a short circuit, whose value waits, leads on.
use Rattle.machine.specs.flow_paths.Views.{sub_acts}
use Rattle.viewed_steps.specs.Traversals.{IsSourceIn}
use Rattle.std.proofs.Common.{◌≡◌, refl, sym, ap, ◌∙◌, subst, ◌⊎◌, inl, ℕ, suc, ◌<◌, Bool, true, false, ◌==◌, List, [], ◌∷◌, ◌++◌, drop, length, arith, Option, Some, None, if◌then◌else◌, take}
use Rattle.machine.specs.spark_base.Lists.{Has}
use Rattle.machine.specs.place_names.declared.act.Act.{Act}
use Rattle.machine.specs.place_names.declared.fact.Fact.{Fact}
use Rattle.machine.specs.place_names.declared.fact.Fact.TheVariants.{Moved}
use Rattle.machine.specs.place_names.Names.{Name as PlaceName}
use Rattle.machine.specs.type_definitions.Types.{Table, is_scalar, full}
use Rattle.machine.specs.typed_tree.Trees.{TypedTree}
use Rattle.machine.specs.typed_tree.Programs.{TypedProgram}
use Rattle.machine.specs.flow_paths.declared.report.Effects.{Effects}
use Rattle.machine.specs.flow_paths.Instructions.{Instruction, Call, Evaluate, EndScope, Finish}
use Rattle.machine.specs.flow_paths.Objects.{Typing, is_package_object, object_at}
use Rattle.machine.specs.flow_paths.Acts.{acts_in}
use Rattle.machine.specs.flow_paths.Laid.{FlowProgram, flow_typing, flow_program, flow_named}
use Rattle.machine.specs.flow_paths.Scopes.{taken, brought, scope_behind, is_within}
use Rattle.machine.specs.Words as machine
use Rattle.machine.specs.Evaluate.{Evaluated, Done, value, Raises, Traps}
use Rattle.machine.specs.Evaluate as run
use Rattle.machine.specs.States.{Waiting, Frame, Outcome, Goes, sub_of}
use Rattle.machine.specs.Step.{Turn, turn, start, led}
use Rattle.machine.specs.Step as steps
use Rattle.machine.specs.Typed.{successors}
use Rattle.soundness.specs.OwnedWays.Ways.{Step, OfVariable, OfRoot, Way, Held, after, AllowsAll}
use Rattle.soundness.specs.Seen.{IsNear, content, word_in, home}
use Rattle.soundness.specs.TypedLaws.Needed.{IsFine, Stays}
use Rattle.soundness.specs.Sound.{IsNoCall, Stage, facts_of, returns_value, is_temporary_object}
use Rattle.soundness.proofs.Scalars.{acts}
use Rattle.soundness.proofs.Scoped.{Inside}
use Rattle.soundness.proofs.Around.{IsFar}
use Rattle.soundness.proofs.Waits.{drop_none}
use Rattle.soundness.proofs.Taking.{Takes}
use Rattle.soundness.proofs.Eased.{eased, waits_same}
use Rattle.soundness.proofs.Successors.{below_one}
use Rattle.soundness.specs.OwnedLoans.Views.{Around}
use Rattle.soundness.specs.ViewedSoundness.Holds.{is_view, Seeing}
use Rattle.soundness.proofs.ViewedSoundness.Outcomes.{IsGood, Leads_on, scalar_taken}
use Rattle.viewed_steps.specs.Awaited.{AreFor, AreValues, temporaries_of, lasting_of, AreScalar, FillsTyped, TakesScalars, StoresNone}
use Rattle.viewed_steps.proofs.Waited.{temporary_first, lasting_more, Shares}
use Rattle.viewed_steps.specs.Sound.{ViewStage, GoneElsewhere, IsStoredAt, LeadsAlong}
use Rattle.viewed_steps.specs.Ready.{IsReady}
use Rattle.viewed_steps.proofs.Lent.{Spare}
use Rattle.viewed_steps.proofs.Placed.{MayBe}
use Rattle.viewed_steps.proofs.Beside.{OthersKept, value_stays}
use Rattle.viewed_steps.proofs.Waiting.{StandsBetween, beside_them, handed}
use Rattle.viewed_steps.proofs.Standing.{or_right}
use Rattle.viewed_steps.proofs.Standing as standing
use Rattle.viewed_steps.proofs.Packages as packages
use Rattle.viewed_steps.proofs.Innermost as innermost
use Rattle.std.proofs.lemmas.Bool.{false≢true}
use Rattle.machine.specs.type_definitions.Entries.{boolean}
use Rattle.machine.specs.typed_tree.declared.node.ShortCircuit.{ShortCircuit}
use Rattle.soundness.specs.Ready.{IsSupplied, Fills}
use Rattle.soundness.proofs.Onward.{Gets, value_inside}
use Rattle.soundness.proofs.Stays.{Quiet, One}
use Rattle.soundness.proofs.Fixed.{plain_word}
use Rattle.viewed_steps.proofs.Operands.{left_operand_on, right_operand_on}
use Rattle.viewed_steps.proofs.EachInstruction as each
use Rattle.viewed_steps.proofs.Turned as turned
use Rattle.viewed_steps.proofs.Views.{AreAccess}
use Rattle.viewed_steps.specs.Seeing.{sees_in}
use Rattle.viewed_steps.proofs.Sees.{sees_seeing}
use Rattle.viewed_steps.proofs.Constructors.{is_call_instruction, is_end_scope_instruction, is_finish_instruction}
use Rattle.viewed_steps.proofs.InnerFrame.{InnerFrame}
use Rattle.soundness.proofs.Parted.{by_either}

module _ (table : Table) (typed : TypedProgram) (effects : Effects) (input : List ℕ) (ready : IsReady table typed effects) where
  abbrev sees : ℕ → Bool
  sees = sees_in (flow_program table typed)

  abbrev seeing : Seeing (flow_typing (flow_program table typed)) sees
  seeing = sees_seeing (flow_program table typed)

  abbrev program : FlowProgram
  program = flow_program table typed

  abbrev s : Typing
  s = flow_typing program

  abbrev in_formals : AreAccess s
  in_formals = standing.in_formals table typed effects input ready

  abbrev local : (x : ℕ) → is_view s x ≡ true → is_package_object s x ≡ false
  local = standing.local table typed effects input ready

  abbrev unmoved_stage : (e : Stage) → e.frame.sub ≡ 0 → (name : PlaceName) → Has (facts_of program effects e) (Moved name) → ⊥
  unmoved_stage = packages.unmoved_stage table typed effects input ready

  module _ (inner : InnerFrame table typed effects) where
    abbrev outer : List Frame
    outer = inner.below.stage.frame ∷ inner.rest

    abbrev older : List ViewStage
    older = inner.below ∷ inner.more_frames

    abbrev depth : ℕ
    depth = suc (length inner.rest)

    abbrev between : (g : ViewStage) → Has (inner.below ∷ inner.more_frames) g → StandsBetween table typed effects unmoved_stage local inner.state (suc (length inner.rest)) (inner.below ∷ inner.more_frames) g
    between = innermost.between table typed effects input ready inner

    abbrev other : Around (home s (suc (length inner.rest)))
    other = beside_them table typed effects unmoved_stage local inner.state (suc (length inner.rest)) (inner.below ∷ inner.more_frames) between

    abbrev alone : (w : Way) → IsNear (suc (length inner.rest)) w → IsFar (suc (length inner.rest)) (GoneElsewhere program effects (inner.below ∷ inner.more_frames)) w → ⊥
    alone = innermost.alone table typed effects input ready inner

    abbrev main_turn : Turn
    main_turn = standing.t table typed effects input ready inner.state inner.top older outer inner.named inner.p inner.frames inner.of_sub inner.at_point

    abbrev own_facts : List Fact
    own_facts = standing.facts table typed effects input ready inner.state inner.top older outer inner.named inner.p inner.frames inner.of_sub inner.at_point inner.path

    abbrev handed_on : List Fact
    handed_on = handed table typed effects unmoved_stage local inner.state (suc (length inner.rest)) (inner.below ∷ inner.more_frames) between

    abbrev facts_now : List Fact
    facts_now = own_facts ++ handed_on

    abbrev acts_of_main : Instruction → List Act
    acts_of_main i = standing.acts_here table typed effects input ready inner.state inner.top older outer inner.named inner.p inner.frames inner.of_sub inner.at_point i

    abbrev allowed_now : Spare s (standing.acts_by table typed effects input ready inner.state inner.top older outer inner.named inner.p inner.frames inner.of_sub inner.at_point s inner.p.instr) → AllowsAll own_facts (acts_of_main inner.p.instr)
        → AllowsAll facts_now (acts_of_main inner.p.instr)
    allowed_now = innermost.allowed_now table typed effects input ready inner

    abbrev left_scope : List ℕ
    left_scope = drop (taken inner.p.instr) inner.p.scope

    abbrev given_words : List (List machine.Word)
    given_words = (start main_turn).waits

    abbrev Plain : Type 0
    Plain = AreScalar s (temporaries_of s (take (taken inner.p.instr) inner.p.scope))

    abbrev plain_here : IsNoCall inner.p.instr → StoresNone inner.p.instr → Plain × TakesScalars s inner.p.instr
    plain_here = innermost.plain_here table typed effects input ready inner

    abbrev named_there : Has (flow_named table typed) inner.named
    named_there = innermost.named_there table typed effects input ready inner

    abbrev point_there_now : Has inner.named.points inner.p
    point_there_now = innermost.point_there_now table typed effects input ready inner

    abbrev takes_of : Plain → (i : Instruction) → inner.p.instr ≡ i → Takes (taken i) given_words []
    takes_of = innermost.takes_of table typed effects input ready inner

    abbrev easy : Turn
    easy = eased main_turn

    abbrev Left : List Waiting → Type 0
    Left waits = AreValues s waits (scope_behind inner.p)

    abbrev IsOld : ℕ → ℕ → Type 0
    IsOld f x =
        (f < suc (length inner.rest)) × ((f ≡ 0)
        ⊎ ((q : List Step) × (k : ℕ) × (word_in s.table (content s inner.state.memory [] (OfRoot (OfVariable f x))) q ≡ Held k)))

    abbrev inside_left : Inside s IsOld inner.state.memory depth (lasting_of s left_scope)
    inside_left = innermost.inside_left table typed effects input ready inner

    abbrev supplied_here : IsSupplied s inner.p
    supplied_here = innermost.supplied_here table typed effects input ready inner

    abbrev shared : Shares s (taken inner.p.instr) inner.top.frame.waits inner.p.scope
    shared = innermost.shared table typed effects input ready inner

    -- where it leads, and how the frames come from those before
    abbrev Along : Outcome → Type 0
    Along outcome = LeadsAlong table typed effects inner.p.instr inner.state.memory (record { stage = inner.top; views = inner.views; cells = [] }) (inner.below ∷ inner.more_frames) outcome

    abbrev may : ℕ → ℕ → Type 0
    may x y = MayBe program (scope_behind inner.p) x y × IsStoredAt inner.p.instr x × IsSourceIn (sub_acts (sub_of program inner.top.frame.sub)) x y

    abbrev LeadsFrom : Instruction → Outcome → Type 0
    LeadsFrom i outcome = Leads_on easy sees seeing ready.accepted.settled ready.owns other alone inner.views ready.class.parts_named may refl refl (after (acts_of_main i) facts_now) outcome

    abbrev AnyLeft : List Waiting → Type 0
    AnyLeft waits = Unit {0}

    module _ (temporary : ℕ) (e : TypedTree) (op : Option ShortCircuit) (is : inner.p.instr ≡ Evaluate temporary e op) where
      filled_there : FillsTyped program (Evaluate temporary e op) left_scope
      filled_there = subst (λ i. FillsTyped program i left_scope) is (ready.valued.fills inner.named named_there inner.p point_there_now)

      truth_there : is_scalar (full s.table boolean) ≡ true
      truth_there = by_operand op filled_there
        where
          by_operand : (o : Option ShortCircuit) → FillsTyped program (Evaluate temporary e o) left_scope → is_scalar (full s.table boolean) ≡ true
          by_operand (Some o) filled = filled.0
          by_operand None filled = filled.0

      no_call_here : IsNoCall inner.p.instr
      no_call_here n actuals result same = (let never : Evaluate temporary e op ≡ Call n actuals result = sym is ∙ same in absurd (false≢true (ap is_call_instruction never)))

      plain_operand : Plain
      plain_operand = (plain_here no_call_here (subst StoresNone (sym is) tt)).0

      evaluates : Stays s e
      evaluates = subst (IsFine s inner.named.sub.result) is (standing.fine table typed effects input ready inner.state inner.top older outer inner.named inner.p inner.frames inner.of_sub inner.at_point)

      going_here : (x : ℕ) → inner.p.instr ≡ EndScope x → ⊥
      going_here x same = (let never : Evaluate temporary e op ≡ EndScope x = sym is ∙ same in absurd (false≢true (ap is_end_scope_instruction never)))

      no_finish : inner.p.instr ≡ Finish → ⊥
      no_finish same = (let never : Evaluate temporary e op ≡ Finish = sym is ∙ same in absurd (false≢true (ap is_finish_instruction never)))

      abbrev good_there : IsGood easy sees seeing ready.accepted.settled ready.owns other alone inner.views ready.class.parts_named may refl refl inner.views facts_now easy.state
      good_there = each.good table typed effects input ready inner going_here no_call_here plain_operand

      allowed_operand : AllowsAll facts_now (acts (acts_in s e))
      allowed_operand =
          subst (λ i. AllowsAll facts_now (acts_of_main i)) is
          (allowed_now (each.spares table typed effects input ready inner going_here no_call_here no_finish) (standing.allowed table typed effects input ready inner.state inner.top older outer inner.named inner.p inner.frames inner.of_sub inner.at_point inner.path no_call_here))

      one_there : Quiet (record { memory = inner.state.memory; waits = [] }) One (value (steps.here main_turn) e (start main_turn))
      one_there =
          (scalar_taken easy sees seeing ready.accepted.settled ready.owns other alone inner.views ready.class.parts_named may refl refl given_words e evaluates
          (takes_of plain_operand (Evaluate temporary e op) is) facts_now good_there allowed_operand).0

      -- its value waits
      operand_on : (waits : List machine.Word → List Waiting) (k : List machine.Word → ℕ) → ((ws : List machine.Word) → k ws < successors inner.p.instr)
          → ((ws : List machine.Word) → length ws ≡ 1 → Left (waits ws)) → (y : Evaluated (List machine.Word))
          → Quiet (record { memory = inner.state.memory; waits = [] }) One y → Gets (λ ws m. Inside s IsOld m depth (lasting_of s (scope_behind inner.p))) y
          → Gets (λ ws m. OthersKept s depth inner.state.memory m) y
          → LeadsFrom inner.p.instr (steps.evaluated main_turn y (λ ws m. Goes (steps.behind main_turn (waits ws) m (k ws))))
          → Along (steps.evaluated main_turn y (λ ws m. Goes (steps.behind main_turn (waits ws) m (k ws))))
      operand_on waits k less are (Done ws n) (same, one) inside_then stay leads =
          turned.goes_there table typed effects input ready inner going_here no_call_here
          (each.spares table typed effects input ready inner going_here no_call_here no_finish) no_finish (ap returns_value is)
          (steps.behind main_turn (waits ws) n.memory (k ws)) (waits ws) inner.top.frame.loops (k ws) (less ws)
          (λ m next. ap (led main_turn (record inner.top.frame { waits = waits ws })) next) (are ws one) inside_then leads stay
      operand_on waits k less are (Raises x n) one inside_then stay leads = leads
      operand_on waits k less are (Traps x n) never inside_then stay leads = absurd never

      more_there : (x : ℕ) → is_within x left_scope ≡ true → is_within x (scope_behind inner.p) ≡ true
      more_there x within = subst (λ i. is_within x (brought i left_scope) ≡ true) (sym is) (by_operand op)
        where
          by_operand : (op : Option ShortCircuit) → is_within x (brought (Evaluate temporary e op) left_scope) ≡ true
          by_operand None = within
          by_operand (Some o) = or_right (x == temporary) (is_within x left_scope) within

      inside_operand : Gets (λ ws m. Inside s IsOld m depth (lasting_of s (scope_behind inner.p))) (value (steps.here main_turn) e (start main_turn))
      inside_operand = value_inside main_turn AnyLeft tt IsOld (lasting_of s left_scope) (lasting_of s (scope_behind inner.p)) inside_left (lasting_more s left_scope (scope_behind inner.p) more_there) e

      fills_here : Fills s (Evaluate temporary e op) left_scope
      fills_here = subst (λ i. Fills s i left_scope) is supplied_here.1

      leads_here : (waits : List machine.Word → List Waiting) (easy_waits : List machine.Word → List Waiting) (k : List machine.Word → ℕ)
          → ((ws : List machine.Word) → easy_waits ws ≡ waits ws)
          → Leads_on easy sees seeing ready.accepted.settled ready.owns other alone inner.views ready.class.parts_named may refl refl (after (acts (acts_in s e)) facts_now)
          (steps.evaluated easy (value (steps.here easy) e (start main_turn)) (λ ws m. Goes (steps.behind easy (easy_waits ws) m (k ws))))
          → LeadsFrom inner.p.instr (steps.evaluated main_turn (value (steps.here main_turn) e (start main_turn)) (λ ws m. Goes (steps.behind main_turn (waits ws) m (k ws))))
      leads_here waits easy_waits k same leads =
          each.from_easy table typed effects input ready inner going_here no_call_here
          inner.p.instr (value (steps.here main_turn) e (start main_turn)) (λ ws m. Goes (steps.behind easy (easy_waits ws) m (k ws)))
          (λ ws m. Goes (steps.behind main_turn (waits ws) m (k ws)))
          (λ ws m on. subst (λ z. LeadsFrom inner.p.instr (Goes (steps.behind main_turn z m (k ws)))) (same ws) on)
          (subst (λ i. Leads_on easy sees seeing ready.accepted.settled ready.owns other alone inner.views ready.class.parts_named may refl refl (after (acts_of_main i) facts_now)
          (steps.evaluated easy (value (steps.here easy) e (start main_turn)) (λ ws m. Goes (steps.behind easy (easy_waits ws) m (k ws))))) (sym is) leads)

    left_step : (temporary : ℕ) (e : TypedTree) (o : ShortCircuit) → inner.p.instr ≡ Evaluate temporary e (Some o) → Along (steps.operand main_turn e (Some o))
    left_step temporary e o is =
        operand_on temporary e (Some o) is (λ ws. steps.truth_waiting ws ∷ steps.waiting main_turn) (λ ws. if run.decides o ws then 1 else 0)
        (λ ws. subst (λ i. (if run.decides o ws then 1 else 0) < successors i) (sym is) (first_two (run.decides o ws)))
        (λ ws one. subst (AreFor s (steps.truth_waiting ws ∷ steps.waiting main_turn))
        (sym (ap (λ i. temporaries_of s (brought i left_scope)) is ∙ temporary_first s temporary left_scope (fills_here temporary e (Some o) is))) (
          (
            inl (truth_there temporary e (Some o) is, (filled_there temporary e (Some o) is).1),
            one ∙ sym (plain_word s ready.accepted.settled boolean (truth_there temporary e (Some o) is)),
          ),
          shared.left,
        ))
        (value (steps.here main_turn) e (start main_turn)) (one_there temporary e (Some o) is) (inside_operand temporary e (Some o) is) (value_stays main_turn e)
        (leads_here temporary e (Some o) is (λ ws. steps.truth_waiting ws ∷ steps.waiting main_turn) (λ ws. steps.truth_waiting ws ∷ steps.waiting easy)
        (λ ws. if run.decides o ws then 1 else 0)
        (λ ws. ap (λ z. steps.truth_waiting ws ∷ z) (waits_same main_turn))
        (left_operand_on easy sees seeing ready.accepted.settled ready.owns other alone in_formals inner.views ready.class.parts_named may refl refl (truth_there temporary e (Some o) is)
        given_words e o (evaluates temporary e (Some o) is) (takes_of (plain_operand temporary e (Some o) is) (Evaluate temporary e (Some o)) is) facts_now (good_there temporary e (Some o) is)
        (allowed_operand temporary e (Some o) is)))
      where
        first_two : (b : Bool) → (if b then 1 else 0) < 2
        first_two true = omega arith
        first_two false = omega arith

    right_step : (temporary : ℕ) (e : TypedTree) → inner.p.instr ≡ Evaluate temporary e None → Along (steps.operand main_turn e None)
    right_step temporary e is = by_waits (steps.waiting main_turn) refl
      where
        fills : (x : ℕ) × (rest_scope : List ℕ) × (left_scope ≡ x ∷ rest_scope) × (is_temporary_object s x ≡ true)
        fills = fills_here temporary e None is

        some_left : temporaries_of s left_scope ≡ fills.0 ∷ temporaries_of s fills.1
        some_left = ap (temporaries_of s) fills.2 ∙ temporary_first s fills.0 fills.1 fills.3

        scalar_first : is_scalar (full s.table (object_at s fills.0).of) ≡ true
        scalar_first = (filled_there temporary e None is).1 fills.0 fills.1 fills.2

        left_there : AreFor s (steps.waiting main_turn) (fills.0 ∷ temporaries_of s fills.1)
        left_there = subst (AreFor s (steps.waiting main_turn)) some_left shared.left

        by_waits : (vs : List Waiting) → steps.waiting main_turn ≡ vs → Along (steps.operand main_turn e None)
        by_waits [] none = absurd (subst (λ z. AreFor s z (fills.0 ∷ temporaries_of s fills.1)) none left_there)
        by_waits (v ∷ vs) some =
            let mine : AreFor s (v ∷ vs) (fills.0 ∷ temporaries_of s fills.1) = subst (λ z. AreFor s z (fills.0 ∷ temporaries_of s fills.1)) some left_there in
            let scalar_value : is_scalar (full s.table v.of) ≡ true = by_either (mine.0).0
            (λ both. (both.0))
            (λ same. (ap (λ z. is_scalar (full s.table z)) same ∙ scalar_first)) in
            operand_on temporary e None is (λ ws. steps.truth_waiting ws ∷ drop 1 (steps.waiting main_turn)) (λ ws. 0)
            (λ ws. subst (λ i. 0 < successors i) (sym is) below_one)
            (λ ws one. subst (AreFor s (steps.truth_waiting ws ∷ drop 1 (steps.waiting main_turn)))
            (sym (ap (λ i. temporaries_of s (brought i left_scope)) is ∙ some_left)) (
              (inl (truth_there temporary e None is, scalar_first), one ∙ sym (plain_word s ready.accepted.settled boolean (truth_there temporary e None is))),
              subst (λ z. AreFor s z (temporaries_of s fills.1)) (sym (ap (drop 1) some ∙ drop_none vs)) mine.1,
            ))
            (value (steps.here main_turn) e (start main_turn)) (one_there temporary e None is) (inside_operand temporary e None is) (value_stays main_turn e)
            (leads_here temporary e None is (λ ws. steps.truth_waiting ws ∷ drop 1 (steps.waiting main_turn)) (λ ws. steps.truth_waiting ws ∷ drop 1 (steps.waiting easy)) (λ ws. 0)
            (λ ws. ap (λ z. steps.truth_waiting ws ∷ drop 1 z) (waits_same main_turn))
            (right_operand_on easy sees seeing ready.accepted.settled ready.owns other alone in_formals inner.views ready.class.parts_named may refl refl (truth_there temporary e None is)
            given_words e v vs some scalar_value (evaluates temporary e None is)
            (takes_of (plain_operand temporary e None is) (Evaluate temporary e None) is) facts_now (good_there temporary e None is) (allowed_operand temporary e None is)))

    pub operand_step : (temporary : ℕ) (e : TypedTree) (op : Option ShortCircuit) → inner.p.instr ≡ Evaluate temporary e op
        → Along (turn main_turn (Evaluate temporary e op))
    operand_step temporary e (Some o) is = left_step temporary e o is
    operand_step temporary e None is = right_step temporary e is
