-- What functions gave is taken, alone or within a value that is made of it: the step is the same in memories that agree.
use Rattle.std.proofs.Common.{◌≡◌, refl, sym, ap, ◌∙◌, subst, inl, inr, ℕ, suc, Bool, true, false, List, [], ◌∷◌, ◌++◌, length, append-nil, Option, Some, None, if◌then◌else◌, drop, get_or}
use Rattle.soundness.proofs.ViewedSoundness.ViewKinds.{plain_named}
use Rattle.viewed_steps.specs.Awaited.{TakesAlone}
use Rattle.viewed_steps.proofs.Alone as alone_value
use Rattle.viewed_steps.proofs.Within as steps_within
use Rattle.viewed_steps.specs.Awaited.{TakesTogether}
use Rattle.soundness.specs.ViewedSoundness.Taken.{types_taken, AreScalarTypes, AreOfTypes}
use Rattle.soundness.proofs.ViewedSoundness.Hands.{first_words, words_first, first_both}
use Rattle.soundness.proofs.ViewedSoundness.Fed.{scalar_values}
use Rattle.std.proofs.Common.{append_assoc}
use Rattle.std.proofs.lemmas.Bool.{true≢false}
use Rattle.recycled_runs.proofs.ViewedFacts.ViewedNulls.Fed.{fed_same}
use Rattle.recycled_runs.proofs.ViewedFacts.ViewedNulls.Viewed.{given_by}
use Rattle.recycled_runs.proofs.ViewedFacts.NullPlaces.Laws.{GivenBy}
use Rattle.recycled_runs.proofs.ViewedFacts.NullPlaces.Instructions.{then_placed}
use Rattle.soundness.specs.OwnedWays.Ways.{after}
use Rattle.machine.specs.spark_base.declared.position.Pos.{Pos}
use Rattle.machine.specs.spark_base.Lists.{Has}
use Rattle.machine.specs.place_names.declared.act.Act.{Act}
use Rattle.machine.specs.place_names.declared.act.Act.TheVariants as act
use Rattle.machine.specs.place_names.declared.fact.Fact.{Fact}
use Rattle.machine.specs.type_definitions.Types.{Table, full}
use Rattle.machine.specs.typed_tree.Trees.{TypedTree, Name, NoMore, More, Call as CallIn}
use Rattle.machine.specs.typed_tree.Programs.{TypedProgram}
use Rattle.machine.specs.flow_paths.declared.report.Effects.{Effects}
use Rattle.machine.specs.flow_paths.Instructions.{Instruction, Declare, Assign, Hold, EndScope, Finish}
use Rattle.machine.specs.flow_paths.Objects.{Typing, is_anonymous, object_at, view_of}
use Rattle.machine.specs.flow_paths.Names.{has_call, name_of}
use Rattle.machine.specs.flow_paths.Acts as flow
use Rattle.machine.specs.flow_paths.Acts.{acts_in}
use Rattle.machine.specs.flow_paths.Scopes.{taken}
use Rattle.machine.specs.flow_paths.Laid.{FlowSub, FlowProgram, flow_sub, typing_of, flow_typing, flow_program}
use Rattle.machine.specs.Words.{fits_type}
use Rattle.machine.specs.Words as machine
use Rattle.machine.specs.Memory.{Memory}
use Rattle.machine.specs.Evaluate.{Here, Now, AsValue, Evaluated, Done, Raises, followed_by, evaluate, viewed, checked, place_of, ConstraintError}
use Rattle.machine.specs.States.{Waiting, Frame, Goes, sub_of}
use Rattle.machine.specs.Step.{Turn, turn, start}
use Rattle.machine.specs.Step as steps
use Rattle.machine.specs.Owners.{waiting_in}
use Rattle.soundness.specs.OwnedWays.Ways.{Way, Allows, AllowsAll}
use Rattle.soundness.specs.Seen.{IsNear, home}
use Rattle.soundness.specs.Sound.{IsNoCall}
use Rattle.soundness.specs.TypedLaws.Needed.{IsFine, Source, Returns}
use Rattle.soundness.proofs.Numbers.{index_law}
use Rattle.soundness.proofs.Scalars.{acts, allows_both}
use Rattle.soundness.proofs.Operands.{handed_over, hold_is}
use Rattle.soundness.proofs.Eased.{eased}
use Rattle.soundness.proofs.Stays.{Quiet}
use Rattle.soundness.proofs.Taking.{Takes, no_takes}
use Rattle.soundness.specs.OwnedLoans.Views.{Around}
use Rattle.soundness.specs.ViewedSoundness.Holds.{is_fixed, IsNamed, AllKeep, Seeing}
use Rattle.soundness.proofs.ViewedSoundness.Outcomes.{named_plain}
use Rattle.viewed_steps.specs.Sound.{ViewStage}
use Rattle.viewed_steps.specs.Ready.{IsReady}
use Rattle.viewed_steps.proofs.Standing as standing
use Rattle.viewed_steps.proofs.Innermost as innermost
use Rattle.viewed_steps.proofs.EachInstruction as each
use Rattle.recycled_runs.specs.ViewedFacts.NullPlaces.Agrees.{Agrees}
use Rattle.recycled_runs.specs.ViewedFacts.NullPlaces.Compares.{Compares, ComparesIn, AreCompared}
use Rattle.recycled_runs.proofs.ViewedFacts.NullPlaces.Only.{OnlyOwners}
use Rattle.recycled_runs.proofs.ViewedFacts.NullPlaces.Laws.{Premises, IsAt, Values}
use Rattle.recycled_runs.proofs.ViewedFacts.NullPlaces.Scalars.{place_on}
use Rattle.recycled_runs.proofs.ViewedFacts.NullPlaces.Evaluated.{checked_same}
use Rattle.recycled_runs.proofs.ViewedFacts.NullPlaces.Instructions.{SameStep, twin, both_are, step_simply, declared_by, stored_same}
use Rattle.recycled_runs.proofs.ViewedFacts.NullPlaces.Walks.{SameNow, SameTo, then_same, simply}
use Rattle.recycled_runs.proofs.ViewedFacts.ViewedNulls.Viewed.{viewed_premises, IsReadyIn, viewed_values}
use Rattle.viewed_steps.proofs.Views.{AreAccess, all_held}
use Rattle.viewed_steps.proofs.Sources.{leads_or}
use Rattle.recycled_runs.proofs.ViewedFacts.ViewedNulls.Sources.{call_declared_same, call_assigned_same, call_taken}
use Rattle.soundness.proofs.Contents.{bool_cases}
use Rattle.viewed_steps.specs.Seeing.{sees_in}
use Rattle.viewed_steps.proofs.Sees.{sees_seeing}
use Rattle.viewed_steps.proofs.InnerFrame.{InnerFrame}
use Rattle.viewed_steps.proofs.Parted.{more_first, more_none}

module _ (table : Table) (typed : TypedProgram) (effects : Effects) (input : List ℕ) (ready : IsReady table typed effects)
    (compared : AreCompared (flow_program table typed)) where
  abbrev sees : ℕ → Bool
  sees = sees_in (flow_program table typed)

  abbrev seeing : Seeing (flow_typing (flow_program table typed)) sees
  seeing = sees_seeing (flow_program table typed)

  abbrev program : FlowProgram
  program = flow_program table typed

  abbrev s : Typing
  s = flow_typing program

  abbrev own : Typing
  own = typing_of table typed

  abbrev in_formals : AreAccess s
  in_formals = standing.in_formals table typed effects input ready

  module _ (inner : InnerFrame table typed effects) (only : OnlyOwners s inner.state.memory) (n : Memory) (agrees : Agrees inner.state.memory n) where
    abbrev outer : List Frame
    outer = inner.below.stage.frame ∷ inner.rest

    abbrev older : List ViewStage
    older = inner.below ∷ inner.more_frames

    abbrev main_turn : Turn
    main_turn = standing.t table typed effects input ready inner.state inner.top older outer inner.named inner.p inner.frames inner.of_sub inner.at_point

    abbrev other : Around (home s (suc (length inner.rest)))
    other = innermost.other table typed effects input ready inner

    abbrev alone : (w : Way) → IsNear (suc (length inner.rest)) w → other.gone w → ⊥
    alone = innermost.alone table typed effects input ready inner

    abbrev facts_now : List Fact
    facts_now = innermost.facts_now table typed effects input ready inner

    abbrev acts_of_main : Instruction → List Act
    acts_of_main i = standing.acts_here table typed effects input ready inner.state inner.top older outer inner.named inner.p inner.frames inner.of_sub inner.at_point i

    abbrev pub Goal : Instruction → Type 0
    Goal i = SameStep main_turn (turn main_turn i) (turn (twin main_turn n) i)

    in_sub : Has (flow_sub own inner.named).points main_turn.point
    in_sub = standing.in_sub table typed effects input ready inner.state inner.top older outer inner.named inner.p inner.frames inner.of_sub inner.at_point

    in_program : Has program.subs (flow_sub own inner.named)
    in_program = standing.in_program table typed effects input ready inner.state inner.top older outer inner.named inner.p inner.frames inner.of_sub inner.at_point

    text : IsFine s inner.named.sub.result inner.p.instr
    text = standing.fine table typed effects input ready inner.state inner.top older outer inner.named inner.p inner.frames inner.of_sub inner.at_point

    compares : ComparesIn s inner.p.instr
    compares = compared (flow_sub own inner.named) in_program main_turn.point in_sub

    -- ---- where no scope ends

    module _ (going : (x : ℕ) → inner.p.instr ≡ EndScope x → ⊥) where
      pub so : IsReadyIn (steps.here main_turn) sees seeing ready.accepted.settled inner.state.leaks other alone in_formals index_law ready.owns inner.views ready.class.parts_named
          inner.state.memory (waiting_in inner.state) facts_now
      so = record {
        viewed = innermost.viewed table typed effects input ready inner;
        kept = inner.kept;
        holds = all_held s sees in_formals (suc (length inner.rest)) inner.views inner.state.memory (λ x k view bare at. inner.holds.held x k (λ fading. going fading.0 fading.1) view bare at) inner.holds.only inner.holds.owners inner.holds.own inner.holds.taken inner.holds.parts;
      }

      abbrev pub asks : Premises (steps.here main_turn)
      asks = viewed_premises (steps.here main_turn) sees ready.class.parts_named

      abbrev pub ready_in : Memory → List Waiting → List Fact → Type 0
      ready_in m hands known = IsReadyIn (steps.here main_turn) sees seeing ready.accepted.settled inner.state.leaks other alone in_formals index_law ready.owns inner.views ready.class.parts_named m hands known

      pub laws : Values (steps.here main_turn) asks ready_in
      laws = viewed_values (steps.here main_turn) sees seeing ready.accepted.settled inner.state.leaks other alone in_formals index_law ready.owns inner.views ready.class.parts_named

      abbrev pub Plain : Type 0
      Plain = innermost.Plain table typed effects input ready inner

      pub takes_of : Plain → (i : Instruction) → inner.p.instr ≡ i → Takes (taken i) (start main_turn).waits []
      takes_of = innermost.takes_of table typed effects input ready inner

      pub allowed_now : IsNoCall inner.p.instr → (inner.p.instr ≡ Finish → ⊥) → AllowsAll facts_now (acts_of_main inner.p.instr)
      allowed_now no_call end =
          innermost.allowed_now table typed effects input ready inner
          (each.spares table typed effects input ready inner going no_call end)
          (standing.allowed table typed effects input ready inner.state inner.top older outer inner.named inner.p inner.frames inner.of_sub inner.at_point inner.path no_call)

      pub keeps_there : AllKeep (is_fixed s sees) (acts_of_main inner.p.instr)
      keeps_there = standing.keeps_there table typed effects input ready inner.state inner.top older outer inner.named inner.p inner.frames inner.of_sub inner.at_point

      -- ---- a return

      pub holds_value : (e : TypedTree) (of : ℕ) → inner.named.sub.result ≡ Some of
          → SameTo s (steps.taken_by main_turn of e (start main_turn)) (steps.taken_by main_turn of e (start (twin main_turn n))) → Goal (Hold (More e NoMore))
      holds_value e of result same =
          let sub_result : (sub_of program inner.top.frame.sub).result ≡ Some of =
          ap (λ (z : FlowSub). z.result) (standing.sub_is table typed effects input ready inner.state inner.top older outer inner.named inner.p inner.frames inner.of_sub inner.at_point) ∙ result in
          both_are main_turn _ _ _ _
          (hold_is program input main_turn.point inner.state inner.top.frame inner.below.stage.frame inner.rest e NoMore of sub_result)
          (hold_is program input main_turn.point (record inner.state { memory = n }) inner.top.frame inner.below.stage.frame inner.rest e NoMore of sub_result)
          (step_simply main_turn n agrees (steps.taken_by main_turn of e (start main_turn)) (steps.taken_by main_turn of e (start (twin main_turn n)))
          (λ ws m. Goes (handed_over program input main_turn.point inner.state inner.top.frame inner.below.stage.frame inner.rest of ws m))
          (λ ws m. Goes (handed_over program input main_turn.point (record inner.state { memory = n }) inner.top.frame inner.below.stage.frame inner.rest of ws m))
          same (λ ws i j now. ((refl, now.0), now.2)))

      pub returned_acts : (of : ℕ) (e : TypedTree) → inner.named.sub.result ≡ Some of → is_anonymous (full s.table of) ≡ false → acts_of_main (Hold (More e NoMore)) ≡ acts (acts_in s e)
      unfolding acts_in
      returned_acts of e result owner =
          ap (λ r. acts (flow.returned_acts s r (More e NoMore))) result
          ∙ ap (λ b. acts (if b then flow.source_acts s e (λ m. act.Give m (flow.gives_variable s (Some of))) else acts_in s e ++ [])) owner
          ∙ ap acts (append-nil (acts_in s e))

      -- ---- what a function gave, alone

      module _ (no_call : IsNoCall inner.p.instr) (end : inner.p.instr ≡ Finish → ⊥) (by_itself : TakesAlone s inner.p) where
        abbrev call : TypedTree
        call = CallIn by_itself.3 by_itself.4 by_itself.5

        -- the words are those of the frame
        call_same_value : (u : ℕ) → IsNamed s.table u
            → SameTo s (steps.taken_by main_turn u (CallIn by_itself.3 by_itself.4 by_itself.5) (start main_turn))
            (steps.taken_by main_turn u (CallIn by_itself.3 by_itself.4 by_itself.5) (start (twin main_turn n)))
        unfolding evaluate
        call_same_value u own_type =
            let h : Here = steps.here main_turn in
            let x : Evaluated (List machine.Word) = evaluate h AsValue call (start main_turn) in
            let y : Evaluated (List machine.Word) = evaluate h AsValue call (start (twin main_turn n)) in
            subst (λ b. SameTo s (if b then viewed h call (start main_turn) else followed_by x (checked h u)) (if b then viewed h call (start (twin main_turn n)) else followed_by y (checked h u)))
            (sym (named_plain s.table u own_type))
            (checked_same h ready.accepted.settled ready.owns asks ready_in laws u x y (refl, (agrees, refl, only)))

        -- nothing is done in memory
        call_quiet : (u : ℕ) → IsNamed s.table u
            → Quiet (record { memory = inner.state.memory; waits = drop 1 (start main_turn).waits }) (λ (ws : List machine.Word). Unit {0})
            (steps.taken_by main_turn u (CallIn by_itself.3 by_itself.4 by_itself.5) (start main_turn))
        unfolding evaluate
        call_quiet u own_type =
            let h : Here = steps.here main_turn in
            let now : Now = record { memory = inner.state.memory; waits = drop 1 (start main_turn).waits } in
            subst (λ b. Quiet now (λ (ws : List machine.Word). Unit {0}) (if b then viewed h call (start main_turn) else followed_by (evaluate h AsValue call (start main_turn)) (checked h u)))
            (sym (named_plain s.table u own_type)) (by_test (get_or (start main_turn).waits 0 []) (fits_type s.table u (get_or (start main_turn).waits 0 [])))
          where
            by_test : (ws : List machine.Word) (b : Bool)
                → Quiet (record { memory = inner.state.memory; waits = drop 1 (start main_turn).waits }) (λ (ws : List machine.Word). Unit {0})
                (if b then Done ws (record { memory = inner.state.memory; waits = drop 1 (start main_turn).waits })
                else Raises ConstraintError (record { memory = inner.state.memory; waits = drop 1 (start main_turn).waits }))
            by_test ws true = (refl, tt)
            by_test ws false = refl

        declares_alone : (y : ℕ) → inner.p.instr ≡ Declare y (More (CallIn by_itself.3 by_itself.4 by_itself.5) NoMore) → Goal (Declare y (More (CallIn by_itself.3 by_itself.4 by_itself.5) NoMore))
        declares_alone y is = by_view (is_anonymous (view_of s y)) refl
          where
            by_view : (b : Bool) → is_anonymous (view_of s y) ≡ b → Goal (Declare y (More (CallIn by_itself.3 by_itself.4 by_itself.5) NoMore))
            by_view true view =
                call_declared_same main_turn sees seeing ready.accepted.settled ready.owns other alone in_formals inner.views ready.class.parts_named facts_now so only n agrees
                y by_itself.3 by_itself.4 by_itself.5 view
            by_view false owner =
                declared_by main_turn ready.accepted.settled ready.owns asks ready_in laws facts_now so only n agrees y (More call NoMore)
                (call_same_value (object_at s y).of (alone_value.named_object table typed effects input ready inner going no_call by_itself y is owner))

        assigns_alone : (r : Pos) (y : ℕ) (path_there : TypedTree) (u : ℕ) → inner.p.instr ≡ Assign (Name r y path_there u) (CallIn by_itself.3 by_itself.4 by_itself.5) → has_call path_there ≡ false
            → is_anonymous (full s.table u) ≡ false → Goal (Assign (Name r y path_there u) (CallIn by_itself.3 by_itself.4 by_itself.5))
        unfolding Compares
        assigns_alone r y path_there u is calls plain_target =
            let h : Here = steps.here main_turn in
            let target : TypedTree = Name r y path_there u in
            let own_type = alone_value.named_target table typed effects input ready inner going no_call by_itself r y path_there u is calls end plain_target in
            let leads = alone_value.leads_there table typed effects input ready inner going no_call by_itself r y path_there u is calls end plain_target in
            let allowed = alone_value.allowed_steps table typed effects input ready inner going no_call by_itself r y path_there u is calls end plain_target in
            let left : List (List machine.Word) = drop 1 (start main_turn).waits in
            let here_now : Now = record { memory = inner.state.memory; waits = left } in
            let each_allowed = allows_both facts_now (acts (acts_in s path_there)) (act.Write (name_of y path_there) ∷ []) allowed in
            let law = laws.behaves inner.state.memory (waiting_in inner.state) facts_now so only in
            let takes_path = no_takes path_there calls left in
            let stay = (law.steps (object_at s y).of u path_there leads left left takes_path tt each_allowed.0).1 in
            let writes : Allows facts_now (act.Write (name_of y path_there)) = subst (λ z. Allows z (act.Write (name_of y path_there))) stay each_allowed.1.0 in
            let placed : List machine.Word → Now → Evaluated steps.Stored = (λ ws now. followed_by (place_of h target now) (λ k now. Done (record { words = ws; place = k }) now)) in
            stored_same main_turn ready.accepted.settled ready.owns asks ready_in laws facts_now so only n agrees target
            (followed_by (steps.taken_by main_turn u call (start main_turn)) placed) (followed_by (steps.taken_by main_turn u call (start (twin main_turn n))) placed)
            (then_same s (λ z. Quiet here_now (λ (ws : List machine.Word). Unit {0}) z)
            (steps.taken_by main_turn u call (start main_turn)) (steps.taken_by main_turn u call (start (twin main_turn n))) placed placed
            (call_quiet u own_type) (call_same_value u own_type)
            (λ ws i j quiet_there now. subst (λ z. SameTo s (placed ws z) (placed ws j)) (sym quiet_there.0)
            (simply s (place_of h target here_now) (place_of h target j) (λ k now. Done (record { words = ws; place = k }) now) (λ k now. Done (record { words = ws; place = k }) now)
            (place_on h ready.accepted.settled ready.owns asks inner.state.memory (waiting_in inner.state) facts_now law left left r y u path_there leads takes_path tt
            (subst (ComparesIn s) is compares).0 each_allowed.0 (IsAt h asks inner.state.memory (waiting_in inner.state) facts_now u)
            (λ way goes. law.write left y u path_there way goes writes) j (subst (λ z. SameNow s z j) quiet_there.0 now)).0
            (λ k a b last. (refl, last)))))

        -- to the whole of a view
        assigns_view : (r : Pos) (y : ℕ) (path_there : TypedTree) (u : ℕ) → path_there ≡ NoMore → (object_at s y).of ≡ u → is_anonymous (full s.table u) ≡ true
            → Goal (Assign (Name r y path_there u) (CallIn by_itself.3 by_itself.4 by_itself.5))
        assigns_view r y path_there u nothing type view =
            subst (λ z. Goal (Assign z (CallIn by_itself.3 by_itself.4 by_itself.5))) (λ j. Name r y (sym nothing j) (type j))
            (call_assigned_same main_turn sees seeing ready.accepted.settled ready.owns other alone in_formals inner.views ready.class.parts_named facts_now so only n agrees
            r y by_itself.3 by_itself.4 by_itself.5 (ap (λ z. is_anonymous (full s.table z)) type ∙ view))

        assigns_it : (r : Pos) (y : ℕ) (path_there : TypedTree) (u : ℕ) → inner.p.instr ≡ Assign (Name r y path_there u) (CallIn by_itself.3 by_itself.4 by_itself.5) → has_call path_there ≡ false
            → (b : Bool) → is_anonymous (full s.table u) ≡ b → Goal (Assign (Name r y path_there u) (CallIn by_itself.3 by_itself.4 by_itself.5))
        assigns_it r y path_there u is calls false owner = assigns_alone r y path_there u is calls owner
        assigns_it r y path_there u is calls true view =
            let fine = subst (IsFine s inner.named.sub.result) is text in
            elim (leads_or s ready.class.parts_named path_there (object_at s y).of u fine.1.0) [
              | inr own_type ↦ absurd (let no : true ≡ false = sym view ∙ named_plain s.table u own_type in true≢false no)
              | inl whole ↦ assigns_view r y path_there u whole.0 whole.1 view
            ]

        pub goes_alone : Goal inner.p.instr
        goes_alone = elim by_itself.8 [
          | inl (y, is) ↦ subst Goal (sym is) (declares_alone y is)
          | inr more ↦ elim more [
            | inl (r, y, path_there, u, is, calls) ↦ subst Goal (sym is) (assigns_it r y path_there u is calls (is_anonymous (full s.table u)) refl)
            | inr is ↦ subst Goal (sym is) (by_result inner.named.sub.result is refl (subst (IsFine s inner.named.sub.result) is text))
          ]
        ]
          where
            by_result : (r : Option ℕ) → inner.p.instr ≡ Hold (More (CallIn by_itself.3 by_itself.4 by_itself.5) NoMore) → inner.named.sub.result ≡ r
                → Returns s r (More (CallIn by_itself.3 by_itself.4 by_itself.5) NoMore) → Goal (Hold (More (CallIn by_itself.3 by_itself.4 by_itself.5) NoMore))
            by_result None is result none = absurd (more_none none)
            by_result (Some of) is result fine = holds_value call of result (elim (bool_cases (is_anonymous (full s.table of))) [
              | inl view ↦ call_taken main_turn sees seeing ready.accepted.settled ready.owns other alone in_formals inner.views ready.class.parts_named facts_now so only n agrees of by_itself.3 by_itself.4 by_itself.5 view
              | inr owner ↦ call_same_value of (plain_named s.table of owner)
            ])

      -- ---- a value that is made of what functions gave

      module _ (no_call : IsNoCall inner.p.instr) (end : inner.p.instr ≡ Finish → ⊥) (together : TakesTogether s inner.named.sub.result inner.p) where
        abbrev held : TypedTree
        held = together.0

        abbrev left_hands : List Waiting
        left_hands = waiting_in (eased main_turn).state

        abbrev front : List Waiting
        front = steps_within.front table typed effects input ready inner going together

        -- scalar values may wait above those that it takes
        held_same : (u : ℕ) → IsNamed s.table u → Source s u held → (later first : List Waiting) → front ≡ later ++ first → AreOfTypes s (types_taken s held) first
            → Compares s held → AllowsAll facts_now (acts (acts_in s held)) → AllKeep (is_fixed s sees) (acts (acts_in s held))
            → SameTo s (steps.taken_by main_turn u held (start main_turn)) (steps.taken_by main_turn u held (start (twin main_turn n)))
        held_same u own_type (inl view) later first split fit compares_there allowed keep = absurd (let no : true ≡ false = sym view.0 ∙ named_plain s.table u own_type in true≢false no)
        held_same u own_type (inr gives) later first split fit compares_there allowed keep =
            let h : Here = steps.here main_turn in
            let words_are : (start main_turn).waits ≡ first_words first (first_words later []) = words_first front ∙ ap (λ z. first_words z []) split ∙ first_both later first [] in
            let x : Evaluated (List machine.Word) = evaluate h AsValue held (start main_turn) in
            let y : Evaluated (List machine.Word) = evaluate h AsValue held (start (twin main_turn n)) in
            subst (λ b. SameTo s (if b then viewed h held (start main_turn) else followed_by x (checked h u)) (if b then viewed h held (start (twin main_turn n)) else followed_by y (checked h u)))
            (sym (named_plain s.table u own_type))
            (checked_same h ready.accepted.settled ready.owns asks ready_in laws u x y
            (subst (λ ws. SameTo s (evaluate h AsValue held (record { memory = inner.state.memory; waits = ws })) y) (sym words_are)
            (fed_same h sees seeing ready.accepted.settled inner.state.leaks other alone in_formals index_law ready.owns inner.views ready.class.parts_named
            held u gives together.2 compares_there first fit later left_hands (first_words later []) inner.state.memory facts_now
            (subst (λ z. ready_in inner.state.memory z facts_now) (ap (λ z. z ++ left_hands) split ∙ append_assoc later first left_hands)
            (steps_within.ready_value table typed effects input ready inner going together)) allowed own_type keep only
            (start (twin main_turn n)) (agrees, sym words_are, only))))

        declares_within : (y : ℕ) → inner.p.instr ≡ Declare y (More held NoMore) → is_anonymous (view_of s y) ≡ false → Goal (Declare y (More held NoMore))
        unfolding Compares
        declares_within y is owner =
            declared_by main_turn ready.accepted.settled ready.owns asks ready_in laws facts_now so only n agrees y (More held NoMore)
            (held_same (object_at s y).of (steps_within.named_object table typed effects input ready inner going no_call together y is owner)
            (steps_within.source_here table typed effects input ready inner going no_call together y is owner) [] front refl
            (steps_within.values_here table typed effects input ready inner going no_call together y is owner)
            (subst (ComparesIn s) is compares).0
            (steps_within.allowed_here table typed effects input ready inner going no_call together y is owner)
            (steps_within.keeps_here table typed effects input ready inner going no_call together y is owner))

        assigns_within : (r : Pos) (y : ℕ) (path_there : TypedTree) (u : ℕ) → inner.p.instr ≡ Assign (Name r y path_there u) held → AreScalarTypes s (types_taken s path_there)
            → is_anonymous (full s.table u) ≡ false → Goal (Assign (Name r y path_there u) held)
        unfolding Compares
        assigns_within r y path_there u is scalar plain_target =
            let target : TypedTree = Name r y path_there u in
            let own_type = steps_within.named_target table typed effects input ready inner going no_call together r y path_there u is scalar end plain_target in
            let leads = steps_within.leads_there table typed effects input ready inner going no_call together r y path_there u is scalar end plain_target in
            let source = steps_within.source_there table typed effects input ready inner going no_call together r y path_there u is scalar end plain_target in
            let fronts = steps_within.fronts table typed effects input ready inner going no_call together r y path_there u is scalar end plain_target in
            let takes = steps_within.path_takes table typed effects input ready inner going no_call together r y path_there u is scalar end plain_target in
            let allows = steps_within.each_allowed table typed effects input ready inner going no_call together r y path_there u is scalar end plain_target in
            let keep = steps_within.each_kept table typed effects input ready inner going no_call together r y path_there u is scalar end plain_target in
            let mid : List (List machine.Word) = first_words fronts.0 [] in
            let facts_then : List Fact = after (acts (acts_in s held)) facts_now in
            let placed : List machine.Word → Now → Evaluated steps.Stored =
            (λ ws now. followed_by (place_of (steps.here main_turn) target now) (λ k now. Done (record { words = ws; place = k }) now)) in
            stored_same main_turn ready.accepted.settled ready.owns asks ready_in laws facts_now so only n agrees target
            (followed_by (steps.taken_by main_turn u held (start main_turn)) placed) (followed_by (steps.taken_by main_turn u held (start (twin main_turn n))) placed)
            (then_same s (GivenBy (steps.here main_turn) ready_in mid u left_hands facts_then)
            (steps.taken_by main_turn u held (start main_turn)) (steps.taken_by main_turn u held (start (twin main_turn n))) placed placed
            (given_by (steps.here main_turn) sees seeing ready.accepted.settled inner.state.leaks other alone in_formals index_law ready.owns inner.views ready.class.parts_named mid u left_hands facts_then
            (steps.taken_by main_turn u held (start main_turn))
            (steps_within.source_within table typed effects input ready inner going together u own_type source fronts.0 fronts.1 fronts.2
            (scalar_values s (types_taken s path_there) fronts.0 fronts.3 scalar) fronts.4 allows.0 keep.0))
            (held_same u own_type source fronts.0 fronts.1 fronts.2 fronts.4 (subst (ComparesIn s) is compares).1 allows.0 keep.0)
            (λ ws i j given now. then_placed main_turn ready.accepted.settled ready.owns asks ready_in laws facts_now so only n agrees left_hands mid [] r y u path_there leads
            takes tt (subst (ComparesIn s) is compares).0 facts_then allows.1 ws i j given now))

        same_first : (a b : TypedTree) → ◌≡◌ {A = TypedTree} (More a NoMore) (More b NoMore) → a ≡ b
        same_first a b e = more_first e

        returns_within : inner.p.instr ≡ Hold (More held NoMore) → ((t : ℕ) → inner.named.sub.result ≡ Some t → is_anonymous (full s.table t) ≡ false) → (r : Option ℕ) → inner.named.sub.result ≡ r → Returns s r (More held NoMore)
            → AllowsAll facts_now (acts_of_main (Hold (More held NoMore))) → AllKeep (is_fixed s sees) (acts_of_main (Hold (More held NoMore))) → Goal (Hold (More held NoMore))
        unfolding Compares types_taken
        returns_within is plain None result none allowed keep = absurd (more_none none)
        returns_within is plain (Some of) result (e, same, source) allowed keep =
            let own_type : IsNamed s.table of = plain_named s.table of (plain of result) in
            let acts_same : acts_of_main (Hold (More held NoMore)) ≡ acts (acts_in s held) = returned_acts of held result (plain of result) in
            let fit : AreOfTypes s (types_taken s held) front = steps_within.values_fit table typed effects input ready inner going together (Hold (More held NoMore)) is in
            holds_value held of result
            (held_same of own_type (subst (Source s of) (sym (same_first held e same)) source) [] front refl fit (subst (ComparesIn s) is compares).0
            (subst (AllowsAll facts_now) acts_same allowed) (subst (AllKeep (is_fixed s sees)) acts_same keep))

        pub goes_together : Goal inner.p.instr
        goes_together = elim together.1 [
          | inl (y, is, owner) ↦ subst Goal (sym is) (declares_within y is owner)
          | inr more ↦ elim more [
            | inl (r, y, path_there, u, is, place, scalar) ↦ subst Goal (sym is) (assigns_within r y path_there u is scalar place)
            | inr (is, plain) ↦ subst Goal (sym is) (returns_within is plain inner.named.sub.result refl (subst (IsFine s inner.named.sub.result) is text)
                (subst (λ i. AllowsAll facts_now (acts_of_main i)) is (allowed_now no_call end)) (subst (λ i. AllKeep (is_fixed s sees) (acts_of_main i)) is keeps_there))
          ]
        ]
