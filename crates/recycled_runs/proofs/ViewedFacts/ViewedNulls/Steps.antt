-- Each step of a sound state is the same in memories that agree, in a program with borrowers and
-- observers that is ready.
use Rattle.soundness.specs.ViewedSoundness.Taken.{types_taken, TakesFit}
use Rattle.viewed_steps.proofs.Supplied.{Supplies}
use Rattle.std.proofs.Common.{take, ◌≡◌, refl, sym, ap, ◌∙◌, subst, ◌⊎◌, inl, inr, ℕ, suc, Bool, true, false, not, List, [], ◌∷◌, length, is_some, Option, Some, None, if◌then◌else◌}
use Rattle.soundness.proofs.ViewedSoundness.ViewKinds.{plain_named}
use Rattle.viewed_steps.specs.Awaited.{temporaries_of, TakesPassed, AreAwaited, awaited, lasting_of, TakesScalars}
use Rattle.soundness.specs.OwnedWays.Ways.{after}
use Rattle.soundness.proofs.ViewedSoundness.Evaluated.{gives_plainly}
use Rattle.machine.specs.spark_base.Lists.{Has}
use Rattle.machine.specs.place_names.declared.act.Act.{Act}
use Rattle.machine.specs.place_names.declared.act.Act.TheVariants as act
use Rattle.machine.specs.place_names.declared.fact.Fact.{Fact}
use Rattle.machine.specs.type_definitions.Types.{Table, full}
use Rattle.machine.specs.typed_tree.Trees.{TypedTree, Name, NoMore, More}
use Rattle.machine.specs.typed_tree.Programs.{TypedProgram}
use Rattle.machine.specs.flow_paths.declared.report.Effects.{Effects}
use Rattle.machine.specs.flow_paths.Instructions.{Instruction, Declare, Call, Hold, EndScope, Finish}
use Rattle.machine.specs.flow_paths.Objects.{Typing, sub_at, passings, is_anonymous, object_at}
use Rattle.machine.specs.flow_paths.Names.{has_call, waiting as waits_in, name_of}
use Rattle.machine.specs.flow_paths.Acts as flow
use Rattle.machine.specs.flow_paths.Acts.{acts_in}
use Rattle.machine.specs.flow_paths.Points.{NamedPoint}
use Rattle.machine.specs.flow_paths.Scopes.{taken}
use Rattle.machine.specs.flow_paths.Laid.{FlowSub, FlowProgram, NamedSub, flow_sub, typing_of, flow_typing, flow_program, flow_named}
use Rattle.machine.specs.flow_paths.Paths.{ControlPath}
use Rattle.machine.specs.flow_paths.Effects.{path_points}
use Rattle.machine.specs.Memory.{Memory}
use Rattle.machine.specs.Calls.{Passed, all_passed}
use Rattle.machine.specs.States.{Waiting, Frame, State, sub_of}
use Rattle.machine.specs.Step.{Turn, turn, start}
use Rattle.machine.specs.Step as steps
use Rattle.machine.specs.Owners.{waiting_in}
use Rattle.machine.specs.Run.{step}
use Rattle.soundness.specs.OwnedWays.Ways.{Step, Way, Allows, AllowsAll}
use Rattle.soundness.specs.Seen.{IsNear, home}
use Rattle.soundness.specs.Typed.{Kept}
use Rattle.soundness.specs.Sound.{Stage, facts_of, AreStages, IsNoCall, IsPlain, InScope, IsNamedSub, IsAtPoint, view_of as view_here}
use Rattle.soundness.specs.TypedLaws.Needed.{IsFine, Source, Gives, Returns}
use Rattle.soundness.proofs.Numbers.{index_law}
use Rattle.soundness.proofs.Scalars.{acts, allows_both}
use Rattle.soundness.proofs.Successors.{finish_or, call_or}
use Rattle.soundness.proofs.Eased.{eased}
use Rattle.soundness.proofs.Stays.{Quiet}
use Rattle.soundness.proofs.Taking.{Takes, takes_as, no_takes, nothing_more}
use Rattle.soundness.specs.OwnedLoans.Views.{Around, known_gone, Views, ViewedAlone, Viewed}
use Rattle.soundness.specs.ViewedSoundness.Holds.{is_fixed, IsNamed, AllKeep, Seeing}
use Rattle.viewed_steps.specs.Sound.{IsBeyond, HoldsAt, ArePlaced, NoneAbove, ViewStage, stages_of, GoneElsewhere, AreWaiting, IsRunning, IsSound, HasTraversals}
use Rattle.viewed_steps.specs.Ready.{IsReady}
use Rattle.viewed_steps.proofs.Standing as standing
use Rattle.viewed_steps.proofs.Innermost as innermost
use Rattle.viewed_steps.proofs.CallTakes as call_takes
use Rattle.viewed_steps.proofs.Calling as calling
use Rattle.viewed_steps.proofs.CallActs as acting
use Rattle.viewed_steps.proofs.Followed as followed
use Rattle.viewed_steps.proofs.Followed.{IsTraversing}
use Rattle.viewed_steps.specs.Ready.{IsTraversalCall}
use Rattle.viewed_steps.proofs.Traversing.{first_actual}
use Rattle.viewed_steps.proofs.Called.{passes_to}
use Rattle.machine.specs.flow_paths.Views.{traversed_formal}
use Rattle.machine.specs.flow_paths.Objects.{Passing, passing, traverses}
use Rattle.soundness.proofs.Points.{flow_at}
use Rattle.std.proofs.Common.{map}
use Rattle.std.proofs.lemmas.Bool.{false≢true, true≢false}
use Rattle.viewed_steps.proofs.CallBegins as call_begins
use Rattle.viewed_steps.proofs.Passed.{apart_or}
use Rattle.machine.specs.place_names.Reports.{Report}
use Rattle.machine.specs.flow_paths.Aliases as alias
use Rattle.machine.specs.flow_paths.Aliases.{overlap_reports}
use Rattle.viewed_steps.proofs.CallEnds as ends
use Rattle.recycled_runs.specs.ViewedFacts.NullPlaces.Agrees.{Agrees}
use Rattle.recycled_runs.specs.ViewedFacts.NullPlaces.Compares.{Compares, ComparesIn, AreCompared}
use Rattle.recycled_runs.proofs.ViewedFacts.NullPlaces.Only.{OnlyOwners}
use Rattle.recycled_runs.proofs.ViewedFacts.NullPlaces.Laws.{Premises, Values}
use Rattle.recycled_runs.proofs.ViewedFacts.NullPlaces.Instructions.{SameStepBy, SameStep, twin, both_are, goes_same, source_same, end_scope_same}
use Rattle.recycled_runs.proofs.ViewedFacts.NullPlaces.Walks.{SameTo}
use Rattle.recycled_runs.proofs.ViewedFacts.NullPlaces.Calls.{AreWhollyPassed, AreWhollyBack, call_same, finish_same}
use Rattle.recycled_runs.proofs.ViewedFacts.ViewedNulls.Spared.{spares_first}
use Rattle.recycled_runs.proofs.ViewedFacts.ViewedNulls.Actuals.{all_same, traversed_same}
use Rattle.recycled_runs.proofs.ViewedFacts.ViewedNulls.Passed.{passed_wholly, back_wholly}
use Rattle.recycled_runs.proofs.ViewedFacts.ViewedNulls.Viewed.{viewed_premises, gives_both, IsReadyIn}
use Rattle.recycled_runs.proofs.ViewedFacts.ViewedNulls.Instructions as own_instructions
use Rattle.recycled_runs.proofs.ViewedFacts.ViewedNulls.Taken as taken_values
use Rattle.viewed_steps.proofs.Views.{AreAccess, all_held}
use Rattle.viewed_steps.proofs.Shown.{same_cells}
use Rattle.machine.specs.place_names.declared.act.Mode.TheVariants as mode
use Rattle.recycled_runs.proofs.ViewedFacts.ViewedNulls.Sources.{call_taken, null_taken, taken_same}
use Rattle.soundness.proofs.OwnedLoans.Allowed.{give_clears}
use Rattle.soundness.proofs.Contents.{bool_cases}
use Rattle.soundness.proofs.Scalars.{acts_append}
use Rattle.soundness.proofs.OwnedLoans.Alone.{alone_viewed}
use Rattle.viewed_steps.specs.Seeing.{sees_in}
use Rattle.viewed_steps.proofs.Sees.{sees_seeing}
use Rattle.recycled_runs.proofs.ViewedFacts.Constructors.{is_call_instruction, is_finish_instruction, is_hold_instruction}
use Rattle.viewed_steps.proofs.InnerFrame.{InnerFrame}
use Rattle.viewed_steps.proofs.Constructors.{is_end_scope_instruction}
use Rattle.soundness.proofs.Parted.{by_either}

-- whether the scope of an object ends
end_or : (i : Instruction) → ((x : ℕ) × (i ≡ EndScope x)) ⊎ ((x : ℕ) → i ≡ EndScope x → ⊥)
end_or (EndScope x) = inl (x, refl)
end_or i = inr (λ x e. cc)

module _ (table : Table) (typed : TypedProgram) (effects : Effects) (input : List ℕ) (ready : IsReady table typed effects)
    (compared : AreCompared (flow_program table typed)) where
  abbrev sees : ℕ → Bool
  sees = sees_in (flow_program table typed)

  abbrev seeing : Seeing (flow_typing (flow_program table typed)) sees
  seeing = sees_seeing (flow_program table typed)

  abbrev program : FlowProgram
  program = flow_program table typed

  abbrev s : Typing
  s = flow_typing program

  abbrev own : Typing
  own = typing_of table typed

  abbrev in_formals : AreAccess s
  in_formals = standing.in_formals table typed effects input ready

  abbrev SameAt : State → Memory → Type 0
  SameAt state n = SameStepBy s (step program input state) (step program input (record state { memory = n }))

  -- ---- the package objects

  module _ (state : State) (top : Stage) (named : NamedSub) (p : NamedPoint) (frames : state.frames ≡ top.frame ∷ []) (views : Views)
      (running : (top.frame.sub ≡ 0) × IsPlain top × ((x : ℕ) → views.way x ≡ None) × (top.depth ≡ 0)
      × ((x : ℕ) (q : List Step) → views.part_way x q ≡ None))
      (of_sub : IsNamedSub (flow_named table typed) top.frame.sub named) (at_point : IsAtPoint named.points top.frame.next p)
      (path : ControlPath (path_points program effects (sub_of program top.frame.sub)) top.before top.frame.next)
      (viewed_before : ViewedAlone (home s 0) sees (known_gone (home s 0) (GoneElsewhere program effects [])) views (view_here s state) (facts_of program effects top))
      (kept : Kept s state.memory (waiting_in state)) (holds : HoldsAt s sees 0 views state.memory p)
      (only : OnlyOwners s state.memory) (n : Memory) (agrees : Agrees state.memory n) where
    abbrev first_turn : Turn
    first_turn = standing.t table typed effects input ready state top [] [] named p frames of_sub at_point

    abbrev nowhere : Around (home s 0)
    nowhere = known_gone (home s 0) (GoneElsewhere program effects [])

    alone_first : (w : Way) → IsNear 0 w → GoneElsewhere program effects [] w → ⊥
    alone_first w near (g, has, what) = has

    abbrev facts_first : List Fact
    facts_first = standing.facts table typed effects input ready state top [] [] named p frames of_sub at_point path

    in_first : Has (flow_sub own named).points first_turn.point
    in_first = standing.in_sub table typed effects input ready state top [] [] named p frames of_sub at_point

    in_packages : Has (sub_of program 0).points first_turn.point
    in_packages =
        subst (λ (z : FlowSub). Has z.points first_turn.point)
        (sym (standing.sub_is table typed effects input ready state top [] [] named p frames of_sub at_point) ∙ ap (sub_of program) running.0) in_first

    viewed_first : Viewed (home s 0) sees nowhere views (view_here s state) facts_first
    viewed_first =
        alone_viewed (home s 0) sees views (view_here s state) facts_first (GoneElsewhere program effects []) (λ x w has. none_some w (sym (running.2 x) ∙ has))
        (λ x q w has. none_some w (sym (running.4 x q) ∙ has))
        (subst (ViewedAlone (home s 0) sees (known_gone (home s 0) (GoneElsewhere program effects [])) views (view_here s state))
        (standing.facts_are table typed effects input ready state top [] [] named p frames of_sub at_point path) viewed_before)
      where
        none_some : (w : Way) → None ≡ Some w → ⊥
        none_some w e = absurd (false≢true (ap is_some e))

    abbrev FirstGoal : Instruction → Type 0
    FirstGoal i = SameStep first_turn (turn first_turn i) (turn (twin first_turn n) i)

    declares : (x : ℕ) (v : TypedTree) → p.instr ≡ Declare x v → has_call v ≡ false → FirstGoal p.instr
    declares x v e none =
        let no_call : IsNoCall p.instr = (λ k actuals result is. (let no : Declare x v ≡ Call k actuals result = sym e ∙ is in absurd (false≢true (ap is_call_instruction no)))) in
        let no_end : (y : ℕ) → p.instr ≡ EndScope y → ⊥ = (λ y is. (let no : Declare x v ≡ EndScope y = sym e ∙ is in false≢true (ap is_end_scope_instruction no))) in
        own_instructions.each_same table typed effects input ready state top.frame [] named p nowhere alone_first views facts_first _
        (ready.orderly.points named (standing.named_in table typed effects input ready state top [] [] named p frames of_sub at_point) p
        (standing.point_in_named table typed effects input ready state top [] [] named p frames of_sub at_point)) (start first_turn).waits
        (record {
          viewed = viewed_first;
          kept = kept;
          holds = all_held s sees in_formals 0 views state.memory (λ y k view bare at. holds.held y k (λ fading. no_end fading.0 fading.1) view bare at) holds.only holds.owners holds.own holds.taken holds.parts;
        }) only n agrees p.instr refl no_call
        (λ is. (let no : Declare x v ≡ Finish = sym e ∙ is in absurd (false≢true (ap is_finish_instruction no)))) (λ w is. absurd (let no : Declare x v ≡ Hold w = sym e ∙ is in absurd (false≢true (ap is_hold_instruction no))))
        (standing.fine table typed effects input ready state top [] [] named p frames of_sub at_point)
        (subst (λ i. TakesScalars s i) (sym e) (gives_plainly s v (inl none)))
        (subst (λ i. Takes (taken i) (start first_turn).waits (start first_turn).waits) (sym e) (no_takes v none (start first_turn).waits))
        (compared (flow_sub own named) (standing.in_program table typed effects input ready state top [] [] named p frames of_sub at_point) first_turn.point in_first)
        (standing.allowed table typed effects input ready state top [] [] named p frames of_sub at_point path no_call)
        (standing.keeps_there table typed effects input ready state top [] [] named p frames of_sub at_point)

    pub package_same : SameAt state n
    package_same =
        let declared = ready.elaborated.declared first_turn.point in_packages in
        both_are first_turn _ _ _ _
        (standing.step_is table typed effects input ready state top [] [] named p frames of_sub at_point)
        (standing.step_is table typed effects input ready (record state { memory = n }) top [] [] named p frames of_sub at_point)
        (declares declared.0 declared.1 declared.2 declared.3)

  -- ---- a step of a procedure

  module _ (inner : InnerFrame table typed effects) (only : OnlyOwners s inner.state.memory) (n : Memory) (agrees : Agrees inner.state.memory n) where
    abbrev outer : List Frame
    outer = inner.below.stage.frame ∷ inner.rest

    abbrev older : List ViewStage
    older = inner.below ∷ inner.more_frames

    abbrev main_turn : Turn
    main_turn = standing.t table typed effects input ready inner.state inner.top older outer inner.named inner.p inner.frames inner.of_sub inner.at_point

    abbrev other : Around (home s (suc (length inner.rest)))
    other = innermost.other table typed effects input ready inner

    abbrev alone : (w : Way) → IsNear (suc (length inner.rest)) w → other.gone w → ⊥
    alone = innermost.alone table typed effects input ready inner

    abbrev facts_now : List Fact
    facts_now = innermost.facts_now table typed effects input ready inner

    abbrev acts_of_main : Instruction → List Act
    acts_of_main i = standing.acts_here table typed effects input ready inner.state inner.top older outer inner.named inner.p inner.frames inner.of_sub inner.at_point i

    abbrev Goal : Instruction → Type 0
    Goal i = SameStep main_turn (turn main_turn i) (turn (twin main_turn n) i)

    in_sub : Has (flow_sub own inner.named).points main_turn.point
    in_sub = standing.in_sub table typed effects input ready inner.state inner.top older outer inner.named inner.p inner.frames inner.of_sub inner.at_point

    in_program : Has program.subs (flow_sub own inner.named)
    in_program = standing.in_program table typed effects input ready inner.state inner.top older outer inner.named inner.p inner.frames inner.of_sub inner.at_point

    text : IsFine s inner.named.sub.result inner.p.instr
    text = standing.fine table typed effects input ready inner.state inner.top older outer inner.named inner.p inner.frames inner.of_sub inner.at_point

    compares : ComparesIn s inner.p.instr
    compares = compared (flow_sub own inner.named) in_program main_turn.point in_sub

    -- ---- where no scope ends

    module _ (going : (x : ℕ) → inner.p.instr ≡ EndScope x → ⊥) where
      abbrev so : IsReadyIn (steps.here main_turn) sees seeing ready.accepted.settled inner.state.leaks other alone in_formals index_law ready.owns inner.views ready.class.parts_named
          inner.state.memory (waiting_in inner.state) facts_now
      so = taken_values.so table typed effects input ready compared inner only n agrees going

      abbrev asks : Premises (steps.here main_turn)
      asks = viewed_premises (steps.here main_turn) sees ready.class.parts_named

      abbrev ready_in : Memory → List Waiting → List Fact → Type 0
      ready_in m hands known = IsReadyIn (steps.here main_turn) sees seeing ready.accepted.settled inner.state.leaks other alone in_formals index_law ready.owns inner.views ready.class.parts_named m hands known

      abbrev laws : Values (steps.here main_turn) asks ready_in
      laws = taken_values.laws table typed effects input ready compared inner only n agrees going

      abbrev Plain : Type 0
      Plain = innermost.Plain table typed effects input ready inner

      abbrev takes_of : Plain → (i : Instruction) → inner.p.instr ≡ i → Takes (taken i) (start main_turn).waits []
      takes_of = taken_values.takes_of table typed effects input ready compared inner only n agrees going

      abbrev allowed_now : IsNoCall inner.p.instr → (inner.p.instr ≡ Finish → ⊥) → AllowsAll facts_now (acts_of_main inner.p.instr)
      allowed_now = taken_values.allowed_now table typed effects input ready compared inner only n agrees going

      abbrev keeps_there : AllKeep (is_fixed s sees) (acts_of_main inner.p.instr)
      keeps_there = taken_values.keeps_there table typed effects input ready compared inner only n agrees going

      -- ---- a return

      abbrev holds_value : (e : TypedTree) (of : ℕ) → inner.named.sub.result ≡ Some of
          → SameTo s (steps.taken_by main_turn of e (start main_turn)) (steps.taken_by main_turn of e (start (twin main_turn n))) → Goal (Hold (More e NoMore))
      holds_value = taken_values.holds_value table typed effects input ready compared inner only n agrees going

      abbrev returned_acts : (of : ℕ) (e : TypedTree) → inner.named.sub.result ≡ Some of → is_anonymous (full s.table of) ≡ false → acts_of_main (Hold (More e NoMore)) ≡ acts (acts_in s e)
      returned_acts = taken_values.returned_acts table typed effects input ready compared inner only n agrees going

      value_same : Plain → (e : TypedTree) (of : ℕ) → inner.p.instr ≡ Hold (More e NoMore) → inner.named.sub.result ≡ Some of → is_anonymous (full s.table of) ≡ false → Source s of e → TakesScalars s (Hold (More e NoMore))
          → ComparesIn s (Hold (More e NoMore)) → AllowsAll facts_now (acts_of_main (Hold (More e NoMore))) → AllKeep (is_fixed s sees) (acts_of_main (Hold (More e NoMore)))
          → SameTo s (steps.taken_by main_turn of e (start main_turn)) (steps.taken_by main_turn of e (start (twin main_turn n)))
      unfolding acts_in waits_in Compares
      value_same plain e of is result owner source takes_plainly compares_there allowed keep =
          let own_type : IsNamed s.table of = plain_named s.table of owner in
          let same : acts_of_main (Hold (More e NoMore)) ≡ acts (acts_in s e) = returned_acts of e result owner in
          source_same main_turn ready.accepted.settled ready.owns asks ready_in laws facts_now so only n agrees [] of e owner own_type (given_there of e owner source)
          tt (gives_both s e NoMore takes_plainly).0
          (takes_as (taken (Hold (More e NoMore))) (waits_in e) (start main_turn).waits [] (nothing_more (waits_in e)) (takes_of plain (Hold (More e NoMore)) is))
          compares_there.0 (subst (AllowsAll facts_now) same allowed) (subst (AllKeep (is_fixed s sees)) same keep)
        where
          given_there : (of : ℕ) (e : TypedTree) → is_anonymous (full s.table of) ≡ false → Source s of e → Gives s of e
          given_there of e owner (inl view) = absurd (let no : true ≡ false = sym view.0 ∙ owner in true≢false no)
          given_there of e owner (inr gives) = gives

      -- what a traversal function returns
      view_same : Plain → (e : TypedTree) (of : ℕ) → inner.p.instr ≡ Hold (More e NoMore) → inner.named.sub.result ≡ Some of → is_anonymous (full s.table of) ≡ true → Source s of e
          → ComparesIn s (Hold (More e NoMore)) → AllowsAll facts_now (acts_of_main (Hold (More e NoMore)))
          → SameTo s (steps.taken_by main_turn of e (start main_turn)) (steps.taken_by main_turn of e (start (twin main_turn n)))
      unfolding waits_in Compares
      view_same plain e of is result view source compares_there allowed =
          elim (ready.traversing.returned inner.top.frame.sub (inner.running.0).entered inner.named inner.of_sub inner.p (innermost.point_there_now table typed effects input ready inner) e NoMore is of result view) [
            | inl null ↦ subst TakenSame (sym null) (null_taken main_turn sees seeing ready.accepted.settled ready.owns other alone in_formals inner.views ready.class.parts_named facts_now so only n agrees of view)
            | inr (q, y, steps_there, u, inl name) ↦ subst TakenSame (sym name)
                (taken_same main_turn sees seeing ready.accepted.settled ready.owns other alone in_formals inner.views ready.class.parts_named facts_now so only n agrees [] 0 of q y u steps_there (λ m. act.Give m borrows) view (subst (Source s of) name source)
                (takes_as (taken (Hold (More (Name q y steps_there u) NoMore))) (waits_in steps_there) (start main_turn).waits [] (nothing_more (waits_in steps_there))
                (takes_of plain (Hold (More (Name q y steps_there u) NoMore)) (is ∙ ap (λ z. Hold (More z NoMore)) name)))
                (subst (λ z. ComparesIn s (Hold (More z NoMore))) name compares_there).0
                (subst (AllowsAll facts_now) (acts_append (acts_in s steps_there) (record { pos = q; act = act.Give (name_of y steps_there) borrows } ∷ []))
                (subst (λ z. AllowsAll facts_now (acts (flow.source_acts s z (λ m. act.Give m borrows)))) name (subst (AllowsAll facts_now) acts_are allowed)))
                (λ w called sight mine. give_clears facts_now borrows w (subst (λ z. Allows facts_now (act.Give z borrows)) (sym called) mine)))
            | inr (q, y, steps_there, u, inr (r, k, more, call_is, gives)) ↦ subst TakenSame (sym call_is) (call_taken main_turn sees seeing ready.accepted.settled ready.owns other alone in_formals inner.views ready.class.parts_named facts_now so only n agrees of r k (More (Name q y steps_there u) more) view)
          ]
        where
          TakenSame : TypedTree → Type 0
          TakenSame z = SameTo s (steps.taken_by main_turn of z (start main_turn)) (steps.taken_by main_turn of z (start (twin main_turn n)))

          borrows : Bool
          borrows = flow.gives_variable s (Some of)

          acts_are : acts_of_main (Hold (More e NoMore)) ≡ acts (flow.source_acts s e (λ m. act.Give m (flow.gives_variable s (Some of))))
          acts_are =
              ap (λ r. acts (flow.returned_acts s r (More e NoMore))) result
              ∙ ap (λ b. acts (if b then flow.source_acts s e (λ m. act.Give m (flow.gives_variable s (Some of))) else acts_in s (More e NoMore))) view

      returns : Plain → (v : TypedTree) (r : Option ℕ) → inner.p.instr ≡ Hold v → inner.named.sub.result ≡ r → Returns s r v → TakesScalars s (Hold v) → ComparesIn s (Hold v)
          → AllowsAll facts_now (acts_of_main (Hold v)) → AllKeep (is_fixed s sees) (acts_of_main (Hold v)) → Goal (Hold v)
      returns plain v None is result none takes_plainly compares_there allowed keep =
          subst Goal (sym (ap Hold none)) (goes_same main_turn n agrees inner.state.memory n 0 agrees only)
      returns plain v (Some of) is result (e, same, source) takes_plainly compares_there allowed keep =
          let allowed_there = subst (λ z. AllowsAll facts_now (acts_of_main (Hold z))) same allowed in
          let compares_here = subst (λ z. ComparesIn s (Hold z)) same compares_there in
          subst Goal (sym (ap Hold same))
          (holds_value e of result (elim (bool_cases (is_anonymous (full s.table of))) [
            | inl view ↦ view_same plain e of (is ∙ ap Hold same) result view source compares_here allowed_there
            | inr owner ↦ value_same plain e of (is ∙ ap Hold same) result owner source (subst (λ z. TakesScalars s (Hold z)) same takes_plainly) compares_here allowed_there
                (subst (λ z. AllKeep (is_fixed s sees) (acts_of_main (Hold z))) same keep)
          ]))

      goes_plainly : Plain × TakesScalars s inner.p.instr → IsNoCall inner.p.instr → (inner.p.instr ≡ Finish → ⊥) → Goal inner.p.instr
      goes_plainly (plain, takes_plainly) no_call end =
          own_instructions.each_same table typed effects input ready inner.state inner.top.frame outer inner.named inner.p other alone inner.views facts_now _
          (innermost.orderly table typed effects input ready inner) []
          so only n agrees inner.p.instr refl no_call end
          (λ v is. returns plain v inner.named.sub.result is refl (subst (IsFine s inner.named.sub.result) is text) (subst (TakesScalars s) is takes_plainly) (subst (ComparesIn s) is compares)
          (subst (λ i. AllowsAll facts_now (acts_of_main i)) is (allowed_now no_call end)) (subst (λ i. AllKeep (is_fixed s sees) (acts_of_main i)) is keeps_there))
          text takes_plainly (takes_of plain inner.p.instr refl) compares (allowed_now no_call end) keeps_there

      -- ---- a call

      module _ (k : ℕ) (actuals : TypedTree) (result : Option ℕ) (e : inner.p.instr ≡ Call k actuals result) where
        abbrev formals : List ℕ
        formals = (sub_of program k).formals

        abbrev easy : State
        easy = (eased main_turn).state

        -- what it takes owns nothing
        plain_call : TakesPassed s actuals (temporaries_of s (take (taken inner.p.instr) inner.p.scope))
        plain_call = innermost.taken_call table typed effects input ready inner k actuals result e

        supplied_call : Supplies s inner.state.memory (types_taken s actuals) (start main_turn).waits []
        supplied_call = innermost.supplied_call table typed effects input ready inner k actuals result e

        -- without these
        so_easy : IsReadyIn (steps.here main_turn) sees seeing ready.accepted.settled inner.state.leaks other alone in_formals index_law ready.owns inner.views ready.class.parts_named
            inner.state.memory (waiting_in (eased main_turn).state) facts_now
        so_easy = record {
          viewed = (innermost.ownless_easy table typed effects input ready inner plain_call.0).0;
          kept = (innermost.ownless_easy table typed effects input ready inner plain_call.0).1;
          holds = calling.holds_now table typed effects input ready inner k actuals result e;
        }

        abbrev Given : List Passed → Type 0
        Given passed = calling.Given table typed effects input ready inner k actuals result e passed

        quiet_there : Quiet (calling.then_now table typed effects input ready inner k actuals result e) Given
            (all_passed (steps.here main_turn) (passings s (sub_at s k)) formals actuals (start main_turn))
        quiet_there = calling.passed_quiet table typed effects input ready inner k actuals result e

        no_overlap : ((r : Report) → Has (overlap_reports s (alias.passed formals actuals)) r → ⊥) ⊎ ((x : ℕ) → Has formals x → (object_at s x).mode ≡ mode.In)
        no_overlap =
            apart_or program effects (λ x. (object_at s x).mode ≡ mode.In) ready.accepted.no_reports (flow_sub own inner.named)
            (standing.in_program table typed effects input ready inner.state inner.top older outer inner.named inner.p inner.frames inner.of_sub inner.at_point) main_turn.point
            (standing.in_sub table typed effects input ready inner.state inner.top older outer inner.named inner.p inner.frames inner.of_sub inner.at_point) k actuals result e
            (calling.called table typed effects input ready inner k actuals result e).answers
            (λ of answers x has. ready.class.modes k of answers x has)

        abbrev SameBy : List Passing → List ℕ → TypedTree → Type 0
        SameBy how xs given = SameTo s (all_passed (steps.here main_turn) how xs given (start main_turn)) (all_passed (steps.here main_turn) how xs given (start (twin main_turn n)))

        plain_same : traverses s.table (sub_of program k).result ≡ false → SameBy (passings s (sub_at s k)) formals actuals
        plain_same none =
            subst (λ z. SameBy z formals actuals) (sym (passes_to program k none))
            (all_same (steps.here main_turn) sees seeing ready.accepted.settled inner.state.leaks other alone in_formals index_law ready.owns inner.views ready.class.parts_named inner.state.memory (waiting_in easy)
            facts_now so_easy only (calling.formals_low table typed effects input ready inner k actuals result e) (not (is_some (sub_of program k).result)) (start main_turn).waits [] facts_now [] formals actuals
            (elim no_overlap [ inl none ↦ inl (spares_first s facts_now formals actuals none) | inr plain ↦ inr plain ])
            (calling.kinds table typed effects input ready inner k actuals result e) (acting.unseen_plain table typed effects input ready inner k actuals result e none)
            (calling.called table typed effects input ready inner k actuals result e).actuals_stay
            (calling.clear_there table typed effects input ready inner k actuals result e)
            (calling.copied_there table typed effects input ready inner k actuals result e)
            plain_call.1 supplied_call (subst (ComparesIn s) e compares)
            (subst (λ z. AllowsAll facts_now (acts (flow.actual_values s z actuals))) (passes_to program k none) (calling.values_allowed table typed effects input ready inner k actuals result e))
            (calling.copies_allowed table typed effects input ready inner k actuals result e)
            (start (twin main_turn n)) (agrees, refl, only))

        -- a traversal function is called
        module _ (f : ℕ) (traversed : traversed_formal s (sub_of program k) ≡ Some f) where
          abbrev made : IsTraversalCall s inner.named (flow_at own inner.named inner.p).next k actuals
          made = calling.made table typed effects input ready inner k actuals result e f traversed

          abbrev traversing : IsTraversing program k f
          traversing = calling.traversing table typed effects input ready inner k actuals result e f traversed

          abbrev first_tree : TypedTree
          first_tree = first_actual s sees ready.owns made.call

          copies_these : AllowsAll (after (acts (flow.actual_act (passing s false f) first_tree)) facts_now) (acts (flow.actual_acts (map (passing s false) traversing.rest) (made.call).others))
          copies_these =
              (allows_both facts_now (acts (flow.actual_act (passing s false f) first_tree)) (acts (flow.actual_acts (map (passing s false) traversing.rest) (made.call).others))
              (subst (AllowsAll facts_now) (acts_append (flow.actual_act (passing s false f) first_tree) (flow.actual_acts (map (passing s false) traversing.rest) (made.call).others))
              (subst (λ z. z) (λ j. AllowsAll facts_now (acts (flow.actual_acts (map (passing s (acting.no_procedure table typed effects input ready inner k actuals result e f traversed j)) (traversing.formals j)) (made.actuals_are j))))
              (calling.copies_allowed table typed effects input ready inner k actuals result e)))).1

          traversal_same : SameBy (passings s (sub_at s k)) formals actuals
          traversal_same =
              subst (λ z. z) (λ j. SameBy (sym traversing.ways j) (sym traversing.formals j) (sym made.actuals_are j))
              (traversed_same (steps.here main_turn) sees seeing ready.accepted.settled inner.state.leaks other alone in_formals index_law ready.owns inner.views ready.class.parts_named inner.state.memory (waiting_in easy)
              facts_now so_easy only (calling.formals_low table typed effects input ready inner k actuals result e) false (start main_turn).waits []
              (after (acts (flow.actual_act (passing s false f) first_tree)) facts_now) f made.call traversing.rest
              (followed.access table typed effects input ready inner.state inner.top older outer inner.named inner.p inner.frames inner.of_sub inner.at_point inner.path k actuals result e f traversed)
              (followed.shown table typed effects input ready inner.state inner.top older outer inner.named inner.p inner.frames inner.of_sub inner.at_point inner.path k actuals result e f traversed)
              (acting.seen_first table typed effects input ready inner k actuals result e f traversed)
              ((calling.opens_these table typed effects input ready inner k actuals result e f traversed).0 (followed.given table typed effects input ready inner.state inner.top older outer inner.named inner.p inner.frames inner.of_sub inner.at_point inner.path k actuals result e f traversed))
              (followed.modes table typed effects input ready inner.state inner.top older outer inner.named inner.p inner.frames inner.of_sub inner.at_point inner.path k actuals result e f traversed)
              (λ x has. calling.kinds table typed effects input ready inner k actuals result e x (subst (λ z. Has z x) (sym traversing.formals) (inr has)))
              (acting.unseen_others table typed effects input ready inner k actuals result e f traversed) (acting.others_stay table typed effects input ready inner k actuals result e f traversed)
              (calling.opens_these table typed effects input ready inner k actuals result e f traversed).1 (calling.back_these table typed effects input ready inner k actuals result e f traversed).1
              (subst (TakesFit s) made.actuals_are plain_call.1)
              (subst (λ z. Supplies s inner.state.memory (types_taken s z) (start main_turn).waits []) made.actuals_are supplied_call)
              (subst (Compares s) made.actuals_are (subst (ComparesIn s) e compares))
              (subst (λ z. AllowsAll facts_now (acts z)) (λ j. flow.actual_values s (traversing.ways j) (made.actuals_are j)) (calling.values_allowed table typed effects input ready inner k actuals result e))
              copies_these (start (twin main_turn n)) (agrees, refl, only))

        same_there : SameBy (passings s (sub_at s k)) formals actuals
        same_there = by_either (acting.traverses_or table typed effects input ready inner k actuals result e) (λ none. (plain_same none)) (λ (f, traversed). (traversal_same f traversed))

        whole_there : (passed : List Passed) → Given passed → AreWhollyPassed s (suc (suc (length inner.rest))) formals passed inner.state.memory
        whole_there passed given =
            passed_wholly s sees ready.accepted.settled ready.owns in_formals (waiting_in easy) (suc (length inner.rest)) inner.views
            (calling.far_views table typed effects input ready inner k actuals result e passed given) (inner.holds.only, inner.holds.parts.only)
            (calling.facts_all table typed effects input ready inner k actuals result e)
            (calling.next_there table typed effects input ready inner k actuals result e)
            (calling.cells table typed effects input ready inner k actuals result e passed given)
            (calling.cell_begins table typed effects input ready inner k actuals result e passed given)
            (GoneElsewhere program effects (inner.below ∷ inner.more_frames)) inner.state.leaks
            formals passed
            (calling.ways_taken table typed effects input ready inner k actuals result e passed given)
            (calling.outs table typed effects input ready inner k actuals result e passed given)
            inner.state.memory inner.state.memory
            (calling.all_passed_ways table typed effects input ready inner k actuals result e passed given).1
            (call_takes.open_there table typed effects input ready inner k actuals result e passed given)
            (call_begins.at_first table typed effects input ready inner k actuals result e passed given) so_easy.kept
            (λ c has. (
              (calling.named_cell table typed effects input ready inner k actuals result e passed given c has).reaches,
              calling.cell_aside table typed effects input ready inner k actuals result e passed given c has,
            ))
            (calling.stands_all table typed effects input ready inner k actuals result e passed given)
            (calling.blank_formals table typed effects input ready inner k actuals result e passed given) (λ o has. ((λ g y q p' low is. refl), (λ c q p' there is. refl)))
            (same_cells inner.state.memory inner.state.memory refl)

        calls_it : Goal (Call k actuals result)
        calls_it =
            call_same main_turn ready.accepted.settled n agrees k actuals only (calling.taken_there table typed effects input ready inner k actuals result e).0
            Given quiet_there same_there whole_there

    -- ---- the end of a call

    -- of what is copied back nothing is gone
    ends_whole : inner.p.instr ≡ Finish → AreWhollyBack main_turn inner.top.frame.returns inner.state.memory
    ends_whole is =
        by_rest inner.rest inner.more_frames refl inner.stages inner.running.2
        (innermost.viewed_own table typed effects input ready inner) inner.awaiting.1
      where
        by_rest : (r : List Frame) (m : List ViewStage) → inner.rest ≡ r → AreStages (stages_of (inner.below ∷ m)) (inner.below.stage.frame ∷ r)
            → AreWaiting table typed effects inner.state inner.top.frame.sub inner.top.frame.returns (inner.below ∷ m)
            → ViewedAlone (home s (suc (length inner.rest))) sees (known_gone (home s (suc (length inner.rest))) (GoneElsewhere program effects (inner.below ∷ m))) inner.views (view_here s inner.state)
            (standing.facts table typed effects input ready inner.state inner.top older outer inner.named inner.p inner.frames inner.of_sub inner.at_point inner.path)
            → AreAwaited table typed (awaited (sub_of program inner.top.frame.sub) inner.top.before) (stages_of (inner.below ∷ m))
            → AreWhollyBack main_turn inner.top.frame.returns inner.state.memory
        by_rest [] [] same there waiting well still = subst (λ z. AreWhollyBack main_turn z inner.state.memory) (sym waiting.1) tt
        by_rest [] (h ∷ m) same there waiting well still = absurd there.2
        by_rest (f ∷ r) [] same there waiting well still = absurd there.2
        by_rest (f ∷ r) (h ∷ m) same there waiting well still =
            let stages_there : AreStages (stages_of (inner.below ∷ (h ∷ m))) (inner.below.stage.frame ∷ inner.rest) =
            subst (λ z. AreStages (stages_of (inner.below ∷ (h ∷ m))) (inner.below.stage.frame ∷ z)) (sym same) there in
            back_wholly main_turn sees ready.accepted.settled ready.owns in_formals (waiting_in inner.state) inner.state.leaks inner.below.stage.depth
            (ends.deep_low table typed effects input ready inner h m stages_there waiting well still is)
            inner.below.views (ends.far_low table typed effects input ready inner h m stages_there waiting well still is) waiting.0.holds.only (facts_of program effects inner.below.stage) (lasting_of s waiting.0.point.scope)
            (ends.gone_around table typed effects input ready inner h m stages_there waiting well still is)
            (ends.free_low table typed effects input ready inner h m stages_there waiting well still is)
            (ends.whole_low table typed effects input ready inner h m stages_there waiting well still is)
            inner.below.cells (ends.begins_low table typed effects input ready inner h m stages_there waiting well still is)
            inner.top.frame.returns inner.below.stage.returns inner.state.memory waiting.0.taken (λ c has. ((waiting.0.kept c has).reaches, (waiting.0.kept c has).aside)) inner.kept
            (ends.stands_low table typed effects input ready inner h m stages_there waiting well still is)

    pub main_same : SameAt inner.state n
    main_same =
        both_are main_turn _ _ _ _ (standing.step_is table typed effects input ready inner.state inner.top older outer inner.named inner.p inner.frames inner.of_sub inner.at_point)
        (standing.step_is table typed effects input ready (record inner.state { memory = n }) inner.top older outer inner.named inner.p inner.frames inner.of_sub inner.at_point)
        (by_either (finish_or inner.p.instr)
        (λ is. (subst Goal (sym is) (finish_same main_turn n agrees (ends_whole is) only inner.below.stage.frame inner.rest refl)))
        (λ end. (by_either (end_or inner.p.instr)
        (λ (y, is). (subst Goal (sym is) (end_scope_same main_turn n agrees only y)))
        (λ going. (by_either (call_or inner.p.instr)
        (λ call. (subst Goal (sym call.3) (calls_it going call.0 call.1 call.2 call.3)))
        (λ no_call. (elim (innermost.taken_there table typed effects input ready inner no_call) [
          | inl plain ↦ goes_plainly going plain no_call end
          | inr (inl by_itself) ↦ taken_values.goes_alone table typed effects input ready compared inner only n agrees going no_call end by_itself
          | inr (inr together) ↦ taken_values.goes_together table typed effects input ready compared inner only n agrees going no_call end together
        ])))))))

  -- ---- each step

  by_stages : (state : State) (top : Stage) (views : Views) (older : List ViewStage) (fs : List Frame) → state.frames ≡ fs → AreStages (top ∷ stages_of older) fs
      → IsRunning table typed effects state (record { stage = top; views = views; cells = [] }) older → AreAwaited table typed None (top ∷ stages_of older)
      → ControlPath (path_points program effects (sub_of program top.frame.sub)) top.before top.frame.next
      → ViewedAlone (home s top.depth) sees (known_gone (home s top.depth) (GoneElsewhere program effects older)) views (view_here s state) (facts_of program effects top)
      → Kept s state.memory (waiting_in state)
      → (named : NamedSub) → IsNamedSub (flow_named table typed) top.frame.sub named → (p : NamedPoint) → IsAtPoint named.points top.frame.next p
      → InScope s state.memory top.depth (lasting_of s p.scope) → HoldsAt s sees top.depth views state.memory p
      → ArePlaced program top.depth (facts_of program effects top) views p.scope × IsBeyond program effects top.depth views older
      → NoneAbove s top.depth state.memory × HasTraversals table typed (view_here s state) (record { stage = top; views = views; cells = [] } ∷ older) → OnlyOwners s state.memory → (n : Memory) → Agrees state.memory n → SameAt state n
  by_stages state top views [] (f ∷ []) is (frame, deep, none) running awaiting path seen_well kept named of_sub p at_point scope holds there above only n agrees =
      package_same state top named p (is ∙ ap (λ z. z ∷ []) (sym frame)) views (running.0, running.1, running.2, running.3, running.5) of_sub at_point path
      (subst (λ d. ViewedAlone (home s d) sees (known_gone (home s d) (GoneElsewhere program effects [])) views (view_here s state) (facts_of program effects top)) deep seen_well) kept
      (subst (λ d. HoldsAt s sees d views state.memory p) deep holds) only n agrees
  by_stages state top views (below ∷ more) (f ∷ (g ∷ rest)) is (frame, deep, (around_frame, deeper, others)) running awaiting path seen_well kept named of_sub p at_point scope holds there above only n agrees =
      main_same (record {
        state = state;
        top = top;
        below = below;
        more_frames = more;
        rest = rest;
        named = named;
        p = p;
        frames = is ∙ (λ j. sym frame j ∷ (sym around_frame j ∷ rest));
        deep = deep;
        stages = (refl, deeper, others);
        running = running;
        awaiting = awaiting;
        of_sub = of_sub;
        at_point = at_point;
        path = path;
        views = views;
        viewed_before = subst (λ d. ViewedAlone (home s d) sees (known_gone (home s d) (GoneElsewhere program effects (below ∷ more))) views (view_here s state) (facts_of program effects top)) deep seen_well;
        kept = kept;
        scope = subst (λ d. InScope s state.memory d (lasting_of s p.scope)) deep scope;
        holds = subst (λ d. HoldsAt s sees d views state.memory p) deep holds;
        placed_before = subst (λ d. ArePlaced program d (facts_of program effects top) views p.scope × IsBeyond program effects d views (below ∷ more)) deep there;
        above = (subst (λ d. NoneAbove s d state.memory) deep above.0, above.1);
      }) only n agrees
  by_stages state top views [] [] is stages running awaiting path seen_well kept named of_sub p at_point scope holds there above only n agrees = absurd stages
  by_stages state top views [] (f ∷ (g ∷ others)) is stages running awaiting path seen_well kept named of_sub p at_point scope holds there above only n agrees = absurd stages.2
  by_stages state top views (below ∷ more) [] is stages running awaiting path seen_well kept named of_sub p at_point scope holds there above only n agrees = absurd stages
  by_stages state top views (below ∷ more) (f ∷ []) is stages running awaiting path seen_well kept named of_sub p at_point scope holds there above only n agrees = absurd stages.2

  -- A step of a sound state leads to the same in a memory that agrees.
  pub step_same : (state : State) → IsSound table typed effects state → OnlyOwners s state.memory → (n : Memory) → Agrees state.memory n → SameAt state n
  step_same state sound only n agrees =
      by_stages state sound.top sound.views sound.older state.frames refl sound.stages sound.running sound.awaited sound.path sound.viewed sound.kept sound.named sound.of_sub
      sound.point sound.at_point sound.scope sound.holds (sound.placed, sound.past) (sound.none_above, sound.traversals) only n agrees
