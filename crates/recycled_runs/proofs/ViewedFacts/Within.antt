-- Facts without an element stay exact where a value is made of what functions gave, of any types.
use Rattle.std.proofs.Common.{◌≡◌, refl, sym, ap, ◌∙◌, subst, inl, inr, ℕ, suc, true, false, List, [], ◌∷◌, ◌++◌, map, length, Option, Some, None, if◌then◌else◌, Bool}
use Rattle.recycled_runs.proofs.ViewedFacts.Stored.{then_placed}
use Rattle.recycled_runs.proofs.ViewedFacts.Evaluated.{ExactTo, checked_exact}
use Rattle.soundness.proofs.Lasting.{keeps}
use Rattle.soundness.proofs.Numbers.{index_law}
use Rattle.soundness.specs.ViewedSoundness.Taken.{types_taken, AreScalarTypes, AreOfTypes}
use Rattle.soundness.proofs.ViewedSoundness.Hands.{first_words, words_first, first_both}
use Rattle.soundness.proofs.ViewedSoundness.Fed.{scalar_values}
use Rattle.soundness.proofs.ViewedSoundness.Evaluated.{Ready}
use Rattle.machine.specs.States.{Waiting}
use Rattle.std.proofs.Common.{append_assoc}
use Rattle.machine.specs.spark_base.Lists.{Has}
use Rattle.machine.specs.spark_base.declared.position.Pos.{Pos}
use Rattle.machine.specs.place_names.declared.selector.Sel.{Sel}
use Rattle.machine.specs.place_names.declared.act.Act.{Act}
use Rattle.machine.specs.place_names.declared.act.Act.TheVariants as act
use Rattle.machine.specs.place_names.declared.act.Placed.{Placed}
use Rattle.machine.specs.place_names.declared.fact.Fact.{Fact}
use Rattle.machine.specs.place_names.declared.fact.Fact.TheVariants.{Moved}
use Rattle.machine.specs.place_names.Names.{Name as PlaceName}
use Rattle.machine.specs.place_names.Facts.{effect}
use Rattle.machine.specs.type_definitions.Types.{Table, full, parts}
use Rattle.machine.specs.typed_tree.Trees.{TypedTree, Name, NoMore, More}
use Rattle.machine.specs.typed_tree.Programs.{TypedProgram}
use Rattle.machine.specs.flow_paths.declared.report.Effects.{Effects}
use Rattle.machine.specs.flow_paths.declared.point.LeakSpot.{LeakSpot}
use Rattle.machine.specs.flow_paths.Instructions.{Instruction, Declare, Assign, Hold, EndScope, Finish}
use Rattle.machine.specs.flow_paths.Objects.{Typing, object_at, is_anonymous, is_package_object, view_of}
use Rattle.machine.specs.flow_paths.Names.{name_of}
use Rattle.machine.specs.flow_paths.Acts as flow
use Rattle.machine.specs.flow_paths.Acts.{acts_in, leaks_of}
use Rattle.machine.specs.flow_paths.Laid.{FlowProgram, number_in, flow_sub, typing_of, flow_typing, flow_program}
use Rattle.machine.specs.flow_paths.Paths.{PathPoint}
use Rattle.machine.specs.flow_paths.Effects.{path_points}
use Rattle.machine.specs.flow_paths.LeakPlan.{IsExcused}
use Rattle.machine.specs.Memory.{declared, stored}
use Rattle.machine.specs.Words as machine
use Rattle.machine.specs.Calls.{checks_at}
use Rattle.machine.specs.Evaluate.{Now, Evaluated, Done, followed_by, value, place_of, checked, initial}
use Rattle.machine.specs.Evaluate as run
use Rattle.machine.specs.States.{Frame, Outcome}
use Rattle.machine.specs.Step.{Turn, turn, start}
use Rattle.machine.specs.Step as steps
use Rattle.machine.specs.Owners.{waiting_in}
use Rattle.soundness.specs.OwnedWays.Ways.{Way, Told, after, AllowsAll}
use Rattle.soundness.specs.Seen.{home, seen, IsNear}
use Rattle.soundness.specs.Sound.{Stage, facts_of, IsNoCall, IsAtPoint}
use Rattle.soundness.specs.TypedLaws.Needed.{IsFine, Source, Returns}
use Rattle.soundness.proofs.Scalars.{after_append, acts, acts_append}
use Rattle.soundness.proofs.Eased.{eased}
use Rattle.soundness.proofs.Around.{IsFar}
use Rattle.soundness.specs.OwnedLoans.Views.{Around}
use Rattle.soundness.specs.ViewedSoundness.Holds.{is_fixed, is_view, IsNamed, AllKeep, Seeing}
use Rattle.soundness.proofs.ViewedSoundness.ViewKinds.{true_false}
use Rattle.soundness.proofs.ViewedSoundness.Outcomes.{named_plain, assigned_acts}
use Rattle.viewed_steps.specs.Sound.{ViewStage, GoneElsewhere}
use Rattle.viewed_steps.specs.Awaited.{TakesTogether}
use Rattle.viewed_steps.specs.Ready.{AreOrderly, IsReady}
use Rattle.viewed_steps.proofs.Waiting.{StandsBetween, beside_them, handed}
use Rattle.viewed_steps.proofs.Standing as standing
use Rattle.viewed_steps.proofs.Packages as packages
use Rattle.viewed_steps.proofs.Innermost as innermost
use Rattle.viewed_steps.proofs.EachInstruction as each
use Rattle.soundness.specs.ExactFacts.Exact.{Knows}
use Rattle.recycled_runs.specs.ViewedFacts.Exact.{IsDefiniteOf, IsExact}
use Rattle.recycled_runs.proofs.ViewedFacts.Instructions.{ExactOn, then_declared, then_stored}
use Rattle.recycled_runs.proofs.ViewedFacts.Frames.{elsewhere as moved_elsewhere}
use Rattle.recycled_runs.proofs.ViewedFacts.Here as here
use Rattle.recycled_runs.proofs.ViewedFacts.Turning as turning
use Rattle.recycled_runs.proofs.ViewedFacts.Fed.{fed_exact}
use Rattle.viewed_steps.proofs.Within as steps_within
use Rattle.viewed_steps.proofs.Views.{AreAccess}
use Rattle.recycled_runs.proofs.ViewedFacts.Steps.{IsAway}
use Rattle.viewed_steps.specs.Seeing.{sees_in}
use Rattle.viewed_steps.proofs.Sees.{sees_seeing}
use Rattle.viewed_steps.proofs.InnerFrame.{InnerFrame}
use Rattle.viewed_steps.proofs.Parted.{more_first, more_none}

module _ (table : Table) (typed : TypedProgram) (effects : Effects) (input : List ℕ) (ready : IsReady table typed effects) where
  abbrev sees : ℕ → Bool
  sees = sees_in (flow_program table typed)

  abbrev seeing : Seeing (flow_typing (flow_program table typed)) sees
  seeing = sees_seeing (flow_program table typed)

  abbrev program : FlowProgram
  program = flow_program table typed

  abbrev s : Typing
  s = flow_typing program

  abbrev own : Typing
  own = typing_of table typed

  abbrev in_formals : AreAccess s
  in_formals = standing.in_formals table typed effects input ready

  abbrev local : (x : ℕ) → is_view s x ≡ true → is_package_object s x ≡ false
  local = standing.local table typed effects input ready

  abbrev unmoved_stage : (e : Stage) → e.frame.sub ≡ 0 → (name : PlaceName) → Has (facts_of program effects e) (Moved name) → ⊥
  unmoved_stage = packages.unmoved_stage table typed effects input ready

  -- a point of a procedure, in a state that is sound and whose facts are exact
  module _ (inner : InnerFrame table typed effects) (exact_before : Told (seen s inner.state.memory [] []) (IsDefiniteOf program effects (record { stage = inner.top; views = inner.views; cells = [] } ∷ (inner.below ∷ inner.more_frames)))) where
    abbrev outer : List Frame
    outer = inner.below.stage.frame ∷ inner.rest

    abbrev older : List ViewStage
    older = inner.below ∷ inner.more_frames

    abbrev depth : ℕ
    depth = suc (length inner.rest)

    abbrev between : (g : ViewStage) → Has (inner.below ∷ inner.more_frames) g → StandsBetween table typed effects unmoved_stage local inner.state (suc (length inner.rest)) (inner.below ∷ inner.more_frames) g
    between = innermost.between table typed effects input ready inner

    abbrev other : Around (home s (suc (length inner.rest)))
    other = beside_them table typed effects unmoved_stage local inner.state (suc (length inner.rest)) (inner.below ∷ inner.more_frames) between

    abbrev alone : (w : Way) → IsNear (suc (length inner.rest)) w → IsFar (suc (length inner.rest)) (GoneElsewhere program effects (inner.below ∷ inner.more_frames)) w → ⊥
    alone = innermost.alone table typed effects input ready inner

    abbrev elsewhere : Way → Type 0
    elsewhere = moved_elsewhere table typed effects unmoved_stage local inner.state (suc (length inner.rest)) (inner.below ∷ inner.more_frames) between inner.views (innermost.own_views table typed effects input ready inner)

    abbrev away : (w : Way) → elsewhere w → IsAway s (suc (length inner.rest)) other w
    away = here.away table typed effects input ready inner exact_before

    abbrev at : Turn
    at = standing.t table typed effects input ready inner.state inner.top older outer inner.named inner.p inner.frames inner.of_sub inner.at_point

    abbrev points : List PathPoint
    points = path_points program effects (flow_sub own inner.named)

    abbrev own_facts : List Fact
    own_facts = standing.facts table typed effects input ready inner.state inner.top older outer inner.named inner.p inner.frames inner.of_sub inner.at_point inner.path

    abbrev around : List Fact
    around = handed table typed effects unmoved_stage local inner.state depth older between

    abbrev facts_now : List Fact
    facts_now = own_facts ++ around

    abbrev orderly : AreOrderly program inner.p (λ q. (n : ℕ) × Has (map (number_in inner.named.points) inner.p.next) n × IsAtPoint inner.named.points n q)
    orderly = innermost.orderly table typed effects input ready inner

    abbrev none_taken : ℕ → ℕ → Type 0
    none_taken a b = ⊥

    abbrev exact : IsExact s (home s depth) inner.views elsewhere inner.state.memory facts_now
    exact = here.exact table typed effects input ready inner exact_before

    abbrev Excused : LeakSpot → Type 0
    Excused = IsExcused points inner.top.frame.next

    abbrev frame_by : Typing → flow.Frame
    frame_by z = record { typing = z; result = inner.named.sub.result; roots = standing.roots table typed effects input ready inner.state inner.top older outer inner.named inner.p inner.frames inner.of_sub inner.at_point }

    abbrev placed_by : Instruction → List Placed
    placed_by i = standing.acts_by table typed effects input ready inner.state inner.top older outer inner.named inner.p inner.frames inner.of_sub inner.at_point s i

    abbrev spots_by : Instruction → List LeakSpot
    spots_by i = leaks_of (frame_by s) inner.p.pos i

    abbrev acts_by : Instruction → List Act
    acts_by i = standing.acts_here table typed effects input ready inner.state inner.top older outer inner.named inner.p inner.frames inner.of_sub inner.at_point i

    abbrev easy : Turn
    easy = eased at

    abbrev knows : (i : Instruction) → inner.p.instr ≡ i → (front others : List Placed) → placed_by i ≡ front ++ others → (pos : Pos) (name : PlaceName) (qs : List (List Sel))
        → Knows Excused pos name (length front) (after (acts front) facts_now) qs
    knows = here.knows table typed effects input ready inner exact_before

    abbrev fine_here : IsFine s inner.named.sub.result inner.p.instr
    fine_here = here.fine_here table typed effects input ready inner exact_before

    -- ---- an instruction that isn't the end of a scope

    module _ (going : (x : ℕ) → inner.p.instr ≡ EndScope x → ⊥) (no_calls : IsNoCall inner.p.instr) where
      abbrev ExactAt : List Fact → List LeakSpot → Outcome → Type 0
      ExactAt facts spots outcome = ExactOn easy sees seeing ready.accepted.settled ready.owns other alone in_formals inner.views ready.class.parts_named none_taken refl refl elsewhere away Excused facts spots outcome

      abbrev Exacts : Instruction → Type 0
      Exacts i = ExactAt (after (acts_by i) facts_now) (spots_by i) (turn at i)

      abbrev ExactValue : List Fact → Evaluated (List machine.Word) → Type 0
      ExactValue facts y = ExactTo (steps.here at) sees seeing ready.accepted.settled inner.state.leaks [] other alone (keeps s ready.accepted.settled ready.owns) index_law ready.owns inner.views ready.class.parts_named elsewhere away facts y

      module _ (taken_within : TakesTogether s inner.named.sub.result inner.p) where
        abbrev held : TypedTree
        held = taken_within.0

        abbrev held_acts : List Act
        held_acts = acts (acts_in s held)

        abbrev front : List Waiting
        front = steps_within.front table typed effects input ready inner going taken_within

        -- the values come from the frame, and are handed on within the expression; scalar ones may wait above them
        value_exact : (u : ℕ) → IsNamed s.table u → Source s u held → (later first : List Waiting) → front ≡ later ++ first → AreOfTypes s (types_taken s held) first
            → AllowsAll facts_now held_acts → AllKeep (is_fixed s sees) held_acts → ExactValue (after held_acts facts_now) (steps.taken_by at u held (start at))
        value_exact u type_there (inl (view, is)) later first split fit allowed keep = absurd (true_false (is_anonymous (full s.table u)) view (named_plain s.table u type_there))
        value_exact u type_there (inr gives) later first split fit allowed keep =
            let below_hands : List Waiting = waiting_in easy.state in
            let now : List (List machine.Word) → Now = (λ ws. record { memory = inner.state.memory; waits = ws }) in
            let words_are : (start at).waits ≡ first_words first (first_words later []) = words_first front ∙ ap (λ z. first_words z []) split ∙ first_both later first [] in
            subst (λ b. ExactValue (after held_acts facts_now) (if b then run.viewed (steps.here at) held (start at) else followed_by (value (steps.here at) held (start at)) (checked (steps.here at) u)))
            (sym (named_plain s.table u type_there))
            (checked_exact (steps.here at) sees seeing ready.accepted.settled inner.state.leaks [] other alone (keeps s ready.accepted.settled ready.owns) index_law ready.owns inner.views ready.class.parts_named elsewhere away u (after held_acts facts_now) (value (steps.here at) held (start at))
            (subst (λ ws. ExactValue (after held_acts facts_now) (value (steps.here at) held (now ws))) (sym words_are)
            (fed_exact (steps.here at) sees seeing ready.accepted.settled inner.state.leaks [] other alone (keeps s ready.accepted.settled ready.owns) index_law ready.owns inner.views ready.class.parts_named elsewhere away held u gives taken_within.2 first fit later below_hands (first_words later []) inner.state.memory facts_now
            (subst (λ z. Ready (steps.here at) sees seeing ready.accepted.settled inner.state.leaks [] other alone (keeps s ready.accepted.settled ready.owns) index_law ready.owns inner.views ready.class.parts_named inner.state.memory z facts_now) (ap (λ z. z ++ below_hands) split ∙ append_assoc later first below_hands)
            (steps_within.ready_value table typed effects input ready inner going taken_within)) allowed type_there keep exact)))

        declares : (y : ℕ) → inner.p.instr ≡ Declare y (More held NoMore) → is_anonymous (view_of s y) ≡ false → Exacts (Declare y (More held NoMore))
        unfolding acts_in initial
        declares y is owner =
            let type_there = steps_within.named_object table typed effects input ready inner going no_calls taken_within y is owner in
            let same = steps_within.facts_same table typed effects input ready inner going no_calls taken_within y is owner in
            let source = steps_within.source_here table typed effects input ready inner going no_calls taken_within y is owner in
            let fit = steps_within.values_here table typed effects input ready inner going no_calls taken_within y is owner in
            let allowed = steps_within.allowed_here table typed effects input ready inner going no_calls taken_within y is owner in
            let keep = steps_within.keeps_here table typed effects input ready inner going no_calls taken_within y is owner in
            turning.declared_main table typed effects input ready inner exact_before going no_calls (after (acts_by (Declare y (More held NoMore))) facts_now) y (More held NoMore)
            (subst (λ z. ExactAt z [] (steps.evaluated easy (steps.first_value at (object_at s y).of (More held NoMore) (start at))
            (λ vs m. steps.goes easy (declared depth y vs m) 0))) same
            (then_declared easy sees seeing ready.accepted.settled ready.owns other alone in_formals inner.views ready.class.parts_named none_taken refl refl elsewhere away Excused y (orderly.begun y (More held NoMore) is) (after held_acts facts_now) (steps.first_value at (object_at s y).of (More held NoMore) (start at))
            (steps_within.alone_within table typed effects input ready inner going taken_within (object_at s y).of type_there source fit allowed keep)
            (value_exact (object_at s y).of type_there source [] front refl fit allowed keep) (
              subst (λ z. (name : PlaceName) → Has z (Moved name) → name.root ≡ y → depth ≡ home s depth y → ⊥) (sym same)
                  (each.after_it table typed effects input ready inner going no_calls y (More held NoMore) is),
              each.free table typed effects input ready inner going no_calls y (More held NoMore) is,
            )))

        assigns : (r : Pos) (y : ℕ) (steps_there : TypedTree) (u : ℕ) → inner.p.instr ≡ Assign (Name r y steps_there u) held → AreScalarTypes s (types_taken s steps_there)
            → (inner.p.instr ≡ Finish → ⊥) → is_anonymous (full s.table u) ≡ false → Exacts (Assign (Name r y steps_there u) held)
        unfolding acts_in
        assigns r y steps_there u is scalar end place =
            let target : TypedTree = Name r y steps_there u in
            let type_there = steps_within.named_target table typed effects input ready inner going no_calls taken_within r y steps_there u is scalar end place in
            let leads = steps_within.leads_there table typed effects input ready inner going no_calls taken_within r y steps_there u is scalar end place in
            let source = steps_within.source_there table typed effects input ready inner going no_calls taken_within r y steps_there u is scalar end place in
            let fronts = steps_within.fronts table typed effects input ready inner going no_calls taken_within r y steps_there u is scalar end place in
            let takes = steps_within.path_takes table typed effects input ready inner going no_calls taken_within r y steps_there u is scalar end place in
            let allows = steps_within.each_allowed table typed effects input ready inner going no_calls taken_within r y steps_there u is scalar end place in
            let keep = steps_within.each_kept table typed effects input ready inner going no_calls taken_within r y steps_there u is scalar end place in
            let a : List Act = acts (acts_in s steps_there) in
            let facts_then : List Fact = after a (after held_acts facts_now) in
            let front_same : after (acts (acts_in s held ++ acts_in s steps_there)) facts_now ≡ facts_then =
            ap (λ z. after z facts_now) (acts_append (acts_in s held) (acts_in s steps_there)) ∙ after_append held_acts a facts_now in
            turning.assigned_main table typed effects input ready inner exact_before going no_calls (after (acts_by (Assign target held)) facts_now) (spots_by (Assign target held)) target u held
            (subst (λ z. ExactAt z (spots_by (Assign target held)) (steps.evaluated easy (followed_by (steps.taken_by at u held (start at))
            (λ ws now. followed_by (place_of (steps.here at) target now) (λ k now. Done (record { words = ws; place = k }) now)))
            (λ (st : steps.Stored) m. steps.leaking_goes (checks_at s (steps.target_pos at target) m st.place) (steps.goes easy (stored s st.place st.words m) 0))))
            (steps_within.facts_there table typed effects input ready inner going no_calls taken_within r y steps_there u is scalar end place)
            (then_stored easy sees seeing ready.accepted.settled ready.owns other alone in_formals inner.views ready.class.parts_named none_taken refl refl elsewhere away Excused (name_of y steps_there) u facts_then (effect (act.Write (name_of y steps_there)) facts_then) (steps.target_pos at target)
            r (length (acts_in s held ++ acts_in s steps_there))
            (subst (λ z. Knows Excused r (name_of y steps_there) (length (acts_in s held ++ acts_in s steps_there)) z (parts s.table u)) front_same
            (knows (Assign target held) is (acts_in s held ++ acts_in s steps_there) (record { pos = r; act = act.Write (name_of y steps_there) } ∷ [])
            (assigned_acts s inner.p.pos y u target steps_there held type_there leads) r (name_of y steps_there) (parts s.table u)))
            (followed_by (steps.taken_by at u held (start at))
            (λ ws now. followed_by (place_of (steps.here at) target now) (λ k now. Done (record { words = ws; place = k }) now)))
            (then_placed (steps.here at) sees seeing ready.accepted.settled inner.state.leaks [] other alone (keeps s ready.accepted.settled ready.owns) index_law ready.owns inner.views ready.class.parts_named elsewhere away Excused (first_words fronts.0 []) [] r y u steps_there (waiting_in easy.state) (after held_acts facts_now)
            (steps_within.plain_root table typed effects input ready inner going no_calls taken_within r y steps_there u is scalar end place) leads takes allows.1
            (steps.taken_by at u held (start at))
            (steps_within.source_within table typed effects input ready inner going taken_within u type_there source fronts.0 fronts.1 fronts.2
            (scalar_values s (types_taken s steps_there) fronts.0 fronts.3 scalar) fronts.4 allows.0 keep.0)
            (value_exact u type_there source fronts.0 fronts.1 fronts.2 fronts.4 allows.0 keep.0))))

        same_first : (a b : TypedTree) → ◌≡◌ {A = TypedTree} (More a NoMore) (More b NoMore) → a ≡ b
        same_first a b e = more_first e

        -- the value is of what the function returns
        result_there : (r : Option ℕ) → inner.named.sub.result ≡ r → Returns s r (More held NoMore) → (of : ℕ) × (inner.named.sub.result ≡ Some of) × Source s of held
        result_there None result none = absurd (more_none none)
        result_there (Some of) result (e, same, source) = (of, result, subst (Source s of) (sym (same_first held e same)) source)

        returns : inner.p.instr ≡ Hold (More held NoMore) → ((t : ℕ) → inner.named.sub.result ≡ Some t → is_anonymous (full s.table t) ≡ false) → AllowsAll facts_now (acts_by (Hold (More held NoMore))) → AllKeep (is_fixed s sees) (acts_by (Hold (More held NoMore)))
            → Exacts (Hold (More held NoMore))
        unfolding types_taken
        returns is plain allowed keep =
            let result = result_there inner.named.sub.result refl (subst (IsFine s inner.named.sub.result) is fine_here) in
            let fit : AreOfTypes s (types_taken s held) front = steps_within.values_fit table typed effects input ready inner going taken_within (Hold (More held NoMore)) is in
            turning.holds_value table typed effects input ready inner exact_before going no_calls held result.0 is result.1 (plain result.0 result.1)
            (λ type_there allows keeps. value_exact result.0 type_there result.2 [] front refl fit allows keeps) allowed keep

        pub within_exact : (inner.p.instr ≡ Finish → ⊥) → AllowsAll facts_now (acts_by inner.p.instr) → AllKeep (is_fixed s sees) (acts_by inner.p.instr) → Exacts inner.p.instr
        within_exact end allowed_there keep = elim taken_within.1 [
          | inl (y, is, owner) ↦ subst Exacts (sym is) (declares y is owner)
          | inr (inl (r, y, steps_there, u, is, place, scalar)) ↦ subst Exacts (sym is) (assigns r y steps_there u is scalar end place)
          | inr (inr (is, plain)) ↦ subst Exacts (sym is)
              (returns is plain (subst (λ i. AllowsAll facts_now (acts_by i)) is allowed_there) (subst (λ i. AllKeep (is_fixed s sees) (acts_by i)) is keep))
        ]
