-- Each step of a sound state leads on, in a program with borrowers and observers that is ready.
use Rattle.viewed_steps.specs.Traversals.{AreGiven}
use Rattle.std.proofs.Common.{◌≡◌, refl, sym, ap, ◌∙◌, subst, ℕ, List, [], ◌∷◌, None, inl, inr, Bool, false}
use Rattle.std.proofs.lemmas.Bool.{false≢true}
use Rattle.machine.specs.type_definitions.Types.{Table}
use Rattle.machine.specs.typed_tree.Trees.{More}
use Rattle.machine.specs.typed_tree.Programs.{TypedProgram}
use Rattle.machine.specs.flow_paths.declared.report.Effects.{Effects}
use Rattle.machine.specs.flow_paths.Instructions.{Instruction, Call, Evaluate, Hold, EndScope, Finish}
use Rattle.machine.specs.flow_paths.Objects.{Typing}
use Rattle.machine.specs.flow_paths.Points.{NamedPoint}
use Rattle.machine.specs.flow_paths.Laid.{FlowProgram, NamedSub, flow_typing, flow_program, flow_named}
use Rattle.machine.specs.flow_paths.Paths.{ControlPath}
use Rattle.machine.specs.flow_paths.Effects.{path_points}
use Rattle.machine.specs.States.{Frame, State, sub_of, Outcome, Goes, Ends}
use Rattle.machine.specs.Step.{Turn, turn}
use Rattle.machine.specs.Owners.{waiting_in}
use Rattle.machine.specs.Run.{step}
use Rattle.soundness.specs.Seen.{home}
use Rattle.soundness.specs.Typed.{Kept}
use Rattle.soundness.specs.Sound.{Stage, facts_of, AreStages, returns_value, InScope, IsNamedSub, IsAtPoint, view_of as view_here, IsNoCall}
use Rattle.soundness.proofs.Waited.{FillsNone}
use Rattle.soundness.specs.OwnedLoans.Views.{known_gone, Views, ViewedAlone}
use Rattle.viewed_steps.specs.Awaited.{lasting_of, AreAwaited, IsTaken}
use Rattle.viewed_steps.specs.Sound.{IsBeyond, HoldsAt, ArePlaced, NoneAbove, ViewStage, stages_of, GoneElsewhere, IsRunning, LeadsAlong, StepsLeadAlong, LeadsOn, StepsLeadOn, HasTraversals}
use Rattle.viewed_steps.specs.Ready.{IsReady}
use Rattle.viewed_steps.proofs.Beside.{IsOther}
use Rattle.viewed_steps.proofs.Standing as standing
use Rattle.viewed_steps.proofs.Packages as packages
use Rattle.viewed_steps.proofs.Innermost as innermost
use Rattle.viewed_steps.proofs.Turned as turned
use Rattle.viewed_steps.proofs.Within as holding
use Rattle.viewed_steps.proofs.Taking as taking
use Rattle.viewed_steps.proofs.ShortCircuits as short_circuits
use Rattle.viewed_steps.proofs.Giving as giving
use Rattle.viewed_steps.proofs.ScopeEnds as scopes
use Rattle.viewed_steps.proofs.CallEnds as ends
use Rattle.viewed_steps.proofs.CallEnters as call_enters
use Rattle.viewed_steps.specs.Seeing.{sees_in}
use Rattle.viewed_steps.proofs.Constructors.{is_call_instruction, is_end_scope_instruction, is_finish_instruction}
use Rattle.viewed_steps.proofs.InnerFrame.{InnerFrame}

module _ (table : Table) (typed : TypedProgram) (effects : Effects) (input : List ℕ) (ready : IsReady table typed effects) where
  abbrev sees : ℕ → Bool
  sees = sees_in (flow_program table typed)

  abbrev program : FlowProgram
  program = flow_program table typed

  abbrev s : Typing
  s = flow_typing program

  module _ (inner : InnerFrame table typed effects) where
    abbrev outer : List Frame
    outer = inner.below.stage.frame ∷ inner.rest

    abbrev older : List ViewStage
    older = inner.below ∷ inner.more_frames

    abbrev main_turn : Turn
    main_turn = standing.t table typed effects input ready inner.state inner.top older outer inner.named inner.p inner.frames inner.of_sub inner.at_point

    -- where it leads, and how the frames come from those before
    abbrev Along : Outcome → Type 0
    Along outcome = LeadsAlong table typed effects inner.p.instr inner.state.memory (record { stage = inner.top; views = inner.views; cells = [] }) (inner.below ∷ inner.more_frames) outcome

    -- what is neither a call nor the end of one, nor the end of a scope, nor gives back a value
    other_instruction : (i : Instruction) → inner.p.instr ≡ i → IsOther i → FillsNone s i → is_end_scope_instruction i ≡ false → is_call_instruction i ≡ false
        → is_finish_instruction i ≡ false → returns_value i ≡ false → Along (turn main_turn i)
    other_instruction i is other fills no_end no_call no_end_of_call valueless = subst (λ z. Along (turn main_turn z)) is (elim taken_there [
      | inl plain ↦ turned.goes_plainly table typed effects input ready inner
          going_here no_calls plain (subst IsOther (sym is) other) (subst (FillsNone s) (sym is) fills) no_finish (ap returns_value is ∙ valueless)
      | inr (inr within) ↦ holding.goes_within table typed effects input ready inner
          going_here no_calls within (subst IsOther (sym is) other) (subst (FillsNone s) (sym is) fills) no_finish (ap returns_value is ∙ valueless)
      | inr (inl alone_taken) ↦ taking.goes_alone table typed effects input ready inner
          going_here no_calls alone_taken (subst (λ d. AreGiven s (view_here s inner.state) d inner.p.instr inner.views inner.top.frame.waits) inner.deep ((inner.above.1).0.0 inner.named inner.of_sub inner.p inner.at_point)) (subst IsOther (sym is) other) (subst (FillsNone s) (sym is) fills) no_finish (ap returns_value is ∙ valueless)
    ])
      where
        going_here : (y : ℕ) → inner.p.instr ≡ EndScope y → ⊥
        going_here y e = false≢true (sym no_end ∙ ap is_end_scope_instruction (sym is ∙ e))

        no_calls : IsNoCall inner.p.instr
        no_calls n actuals result e = false≢true (sym no_call ∙ ap is_call_instruction (sym is ∙ e))

        no_finish : inner.p.instr ≡ Finish → ⊥
        no_finish e = false≢true (sym no_end_of_call ∙ ap is_finish_instruction (sym is ∙ e))

        taken_there : IsTaken s inner.named.sub.result inner.p
        taken_there = innermost.taken_there table typed effects input ready inner no_calls

    by_instruction : (i : Instruction) → inner.p.instr ≡ i → Along (turn main_turn i)
    by_instruction Finish is = ends.ends_call table typed effects input ready inner is
    by_instruction (Call n actuals result) is = call_enters.calls_it table typed effects input ready inner n actuals result is
    by_instruction (Evaluate temporary e op) is = short_circuits.operand_step table typed effects input ready inner temporary e op is
    by_instruction (Hold (More e last)) is = giving.return_step table typed effects input ready inner e last is
    by_instruction (EndScope y) is = scopes.ends_scope table typed effects input ready inner y is
    by_instruction i is = other_instruction i is tt tt refl refl refl refl

    pub main_step : Along (step program input inner.state)
    main_step =
        subst Along (sym (standing.step_is table typed effects input ready inner.state inner.top older outer inner.named inner.p inner.frames inner.of_sub inner.at_point))
        (by_instruction inner.p.instr refl)

  -- ---- each step

  by_stages : (state : State) (top : Stage) (views : Views) (older : List ViewStage) (fs : List Frame) → state.frames ≡ fs → AreStages (top ∷ stages_of older) fs
      → IsRunning table typed effects state (record { stage = top; views = views; cells = [] }) older → AreAwaited table typed None (top ∷ stages_of older)
      → ControlPath (path_points program effects (sub_of program top.frame.sub)) top.before top.frame.next
      → ViewedAlone (home s top.depth) sees (known_gone (home s top.depth) (GoneElsewhere program effects older)) views (view_here s state) (facts_of program effects top)
      → Kept s state.memory (waiting_in state)
      → (named : NamedSub) → IsNamedSub (flow_named table typed) top.frame.sub named → (p : NamedPoint) → IsAtPoint named.points top.frame.next p
      → InScope s state.memory top.depth (lasting_of s p.scope) → HoldsAt s sees top.depth views state.memory p
      → ArePlaced program top.depth (facts_of program effects top) views p.scope × IsBeyond program effects top.depth views older
      → NoneAbove s top.depth state.memory × HasTraversals table typed (view_here s state) (record { stage = top; views = views; cells = [] } ∷ older)
      → LeadsAlong table typed effects p.instr state.memory (record { stage = top; views = views; cells = [] }) older (step program input state)
  by_stages state top views [] (f ∷ []) is (frame, deep, none) running awaiting path seen_well kept named of_sub p at_point scope holds there above =
      packages.package_step table typed effects input ready state top named p (is ∙ ap (λ z. z ∷ []) (sym frame)) deep views (running.0, running.1, running.2, running.3, running.5) (subst (λ d. NoneAbove s d state.memory) deep above.0) of_sub at_point path
      (subst (λ d. ViewedAlone (home s d) sees (known_gone (home s d) (GoneElsewhere program effects [])) views (view_here s state) (facts_of program effects top)) deep seen_well) kept
      (subst (λ d. InScope s state.memory d (lasting_of s p.scope)) deep scope) (subst (λ d. HoldsAt s sees d views state.memory p) deep holds)
  by_stages state top views (below ∷ more) (f ∷ (g ∷ rest)) is (frame, deep, (around_frame, deeper, others)) running awaiting path seen_well kept named of_sub p at_point scope holds there above =
      main_step (record {
        state = state;
        top = top;
        below = below;
        more_frames = more;
        rest = rest;
        named = named;
        p = p;
        frames = is ∙ (λ j. sym frame j ∷ (sym around_frame j ∷ rest));
        deep = deep;
        stages = (refl, deeper, others);
        running = running;
        awaiting = awaiting;
        of_sub = of_sub;
        at_point = at_point;
        path = path;
        views = views;
        viewed_before = subst (λ d. ViewedAlone (home s d) sees (known_gone (home s d) (GoneElsewhere program effects (below ∷ more))) views (view_here s state) (facts_of program effects top)) deep seen_well;
        kept = kept;
        scope = subst (λ d. InScope s state.memory d (lasting_of s p.scope)) deep scope;
        holds = subst (λ d. HoldsAt s sees d views state.memory p) deep holds;
        placed_before = subst (λ d. ArePlaced program d (facts_of program effects top) views p.scope × IsBeyond program effects d views (below ∷ more)) deep there;
        above = (subst (λ d. NoneAbove s d state.memory) deep above.0, above.1);
      })
  by_stages state top views [] [] is stages running awaiting path seen_well kept named of_sub p at_point scope holds there above = absurd stages
  by_stages state top views [] (f ∷ (g ∷ others)) is stages running awaiting path seen_well kept named of_sub p at_point scope holds there above = absurd stages.2
  by_stages state top views (below ∷ more) [] is stages running awaiting path seen_well kept named of_sub p at_point scope holds there above = absurd stages
  by_stages state top views (below ∷ more) (f ∷ []) is stages running awaiting path seen_well kept named of_sub p at_point scope holds there above = absurd stages.2

  pub sound_along : StepsLeadAlong table typed effects input
  sound_along state sound =
      by_stages state sound.top sound.views sound.older state.frames refl sound.stages sound.running sound.awaited sound.path sound.viewed sound.kept sound.named sound.of_sub
      sound.point sound.at_point sound.scope sound.holds (sound.placed, sound.past) (sound.none_above, sound.traversals)

  pub sound_step : StepsLeadOn table typed effects input
  sound_step state sound = leads_on_there (step program input state) (sound_along state sound)
    where
      leads_on_there : (outcome : Outcome)
          → LeadsAlong table typed effects sound.point.instr state.memory (record { stage = sound.top; views = sound.views; cells = [] }) sound.older outcome
          → LeadsOn table typed effects outcome
      leads_on_there (Goes next) leads = leads.0
      leads_on_there (Ends how next) leads = leads
