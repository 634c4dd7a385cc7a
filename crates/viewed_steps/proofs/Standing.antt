-- A frame that stands at a point of a program that is ready: its acts, its facts and its successors.
use Rattle.machine.specs.place_names.declared.act.Act.TheVariants as act
use Rattle.machine.specs.place_names.Names.{Name as PlaceName}
use Rattle.machine.specs.flow_paths.Views.{sub_acts, traversed_formal, IsOnlyRoot}
use Rattle.soundness.proofs.Lists.{Has-append_left, Has-append_right}
use Rattle.std.specs.Prelude.{flat_map}
use Rattle.std.proofs.Common.{◌≡◌, refl, sym, ap, ◌∙◌, subst, inl, inr, ℕ, Bool, true, false, ◌||◌, List, [], ◌∷◌, ◌++◌, length, get_or, append-nil, Option, None, Some}
use Rattle.machine.specs.spark_base.Lists.{Has}
use Rattle.machine.specs.place_names.declared.act.Act.{Act}
use Rattle.machine.specs.place_names.declared.act.Placed.{Placed}
use Rattle.machine.specs.place_names.declared.fact.Fact.{Fact}
use Rattle.machine.specs.type_definitions.Types.{Table}
use Rattle.machine.specs.typed_tree.Trees.{TypedTree}
use Rattle.machine.specs.typed_tree.Programs.{TypedProgram}
use Rattle.machine.specs.flow_paths.declared.report.Effects.{Effects}
use Rattle.machine.specs.flow_paths.Instructions.{Instruction, Skip, Declare, Assign, Call, Output, Input, Release, Test, Choose, Start, Next, Evaluate, LeaveLoop, Hold, EndScope, Finish, Fall}
use Rattle.machine.specs.flow_paths.Objects.{Typing, Signature, sub_at, is_formal, is_package_object}
use Rattle.machine.specs.flow_paths.Acts.{acts_of}
use Rattle.machine.specs.flow_paths.Points.{NamedPoint, FlowPoint}
use Rattle.machine.specs.flow_paths.Laid.{FlowSub, FlowProgram, NamedSub, flow_sub, kept_roots, sub_facts, typing_of, flow_typing, flow_program, flow_named}
use Rattle.machine.specs.flow_paths.Paths.{PathPoint, path_point, ControlPath, goes_on, acts_at, facts_before}
use Rattle.machine.specs.flow_paths.Effects.{path_points, called_acts}
use Rattle.machine.specs.flow_paths.Scopes.{scope_behind, is_ready, Leads}
use Rattle.machine.specs.States.{Waiting, Loop, Frame, State, sub_of, Goes}
use Rattle.machine.specs.Step.{Turn, turn}
use Rattle.machine.specs.Owners.{waiting_in}
use Rattle.machine.specs.Run.{no_point, stepped, step}
use Rattle.soundness.specs.OwnedWays.Ways.{after, AllowsAll}
use Rattle.soundness.specs.Seen.{home}
use Rattle.soundness.specs.Typed.{Kept}
use Rattle.soundness.specs.TypedLaws.Needed.{IsFine}
use Rattle.soundness.specs.Sound.{IsNoCall, Stage, facts_of, AreStages, InScope, IsNamedSub, IsAtPoint, view_of as view_here}
use Rattle.soundness.specs.Ready.{IsSupplied}
use Rattle.soundness.proofs.Passing.{signature_is}
use Rattle.soundness.proofs.Typings.{Agree, flow_agrees, instruction_same}
use Rattle.soundness.proofs.Scalars.{acts}
use Rattle.soundness.proofs.Paths.{accepted_point, facts_next}
use Rattle.soundness.proofs.Points.{flow_at, named_has, point_has, sub_there, sub_has, point_there, point_in, path_there, IsLaid, next_there, one_named, one_point}
use Rattle.soundness.specs.OwnedLoans.Views.{known_gone, Views, ViewedAlone}
use Rattle.soundness.specs.ViewedSoundness.Holds.{is_bundle, is_view, AllKeep, is_fixed}
use Rattle.soundness.proofs.ViewedSoundness.ViewKinds.{bundle_sees as parts_see}
use Rattle.viewed_steps.specs.Awaited.{AreFor, AreValues, temporaries_of, lasting_of, WaitsAt, AreAwaited}
use Rattle.viewed_steps.proofs.Waited.{leads_temporaries}
use Rattle.viewed_steps.specs.Sound.{IsBeyond, HoldsAt, ArePlaced, NoneAbove, ViewStage, stages_of, GoneElsewhere, IsRunning, Follows, LeadsAlong, HasTraversals}
use Rattle.viewed_steps.specs.Ready.{IsReady}
use Rattle.viewed_steps.proofs.Views.{AreAccess, formal_access, view_cases}
use Rattle.viewed_steps.specs.Seeing.{sees_in}
use Rattle.viewed_steps.proofs.Sees.{sees_seeing}

pub or_right : (a b : Bool) → b ≡ true → a || b ≡ true
or_right true b e = refl
or_right false b e = e

module _ (table : Table) (typed : TypedProgram) (effects : Effects) (input : List ℕ) (ready : IsReady table typed effects) where
  abbrev sees : ℕ → Bool
  sees = sees_in (flow_program table typed)

  abbrev pub program : FlowProgram
  program = flow_program table typed

  abbrev pub s : Typing
  s = flow_typing program

  abbrev pub own : Typing
  own = typing_of table typed

  pub agree : Agree s own
  agree = flow_agrees table typed

  -- formals that own nothing are of no anonymous type and of no scalar one
  pub in_formals : AreAccess s
  in_formals = formal_access s ready.owns

  -- formals with parts that see only see
  pub bundle_sees : (x : ℕ) → is_bundle s x ≡ true → sees x ≡ true
  bundle_sees = parts_see s sees (sees_seeing program)

  pub laid : (named : NamedSub) → Has (flow_named table typed) named → IsLaid s named
  laid named has = ready.scoped.goes named has

  pub local : (x : ℕ) → is_view s x ≡ true → is_package_object s x ≡ false
  local x view = elim (view_cases s x view) [ inl anonymous ↦ ready.orderly.local x anonymous | inr formal ↦ ready.orderly.passed x formal ]

  -- ---- a point

  -- The innermost frame of a state, with those around it, at a point that is laid out.
  module _ (state : State) (top : Stage) (older : List ViewStage) (outer : List Frame) (named : NamedSub) (p : NamedPoint)
      (frames : state.frames ≡ top.frame ∷ outer) (of_sub : IsNamedSub (flow_named table typed) top.frame.sub named)
      (at_point : IsAtPoint named.points top.frame.next p) where
    abbrev pub sub : FlowSub
    sub = flow_sub own named

    abbrev pub here : FlowPoint
    here = flow_at own named p

    abbrev pub t : Turn
    t = record { program = program; input = input; point = here; state = state; frame = top.frame; outer = outer }

    abbrev pub points : List PathPoint
    points = path_points program effects sub

    pub sub_is : sub_of program top.frame.sub ≡ sub
    sub_is = sub_there table typed top.frame.sub named of_sub

    pub in_program : Has program.subs sub
    in_program = sub_has table typed top.frame.sub named of_sub

    pub in_sub : Has sub.points here
    in_sub = point_in own named top.frame.next p at_point

    pub point_in_named : Has named.points p
    point_in_named = point_has named.points top.frame.next p at_point

    pub named_in : Has (flow_named table typed) named
    named_in = named_has (flow_named table typed) top.frame.sub named of_sub

    pub step_is : step program input state ≡ turn t p.instr
    step_is =
        ap (stepped program input state) frames
        ∙ ap (λ (q : FlowPoint). turn (record { program = program; input = input; point = q; state = state; frame = top.frame; outer = outer }) q.instr)
        (ap (λ (z : FlowSub). get_or z.points top.frame.next no_point) sub_is ∙ point_there own named top.frame.next p at_point)

    pub supplied : IsSupplied s p
    supplied = ready.scoped.supplied named named_in p point_in_named

    pub fine : IsFine s named.sub.result p.instr
    fine = ready.accepted.fine sub in_program here in_sub

    pub is_ready_there : is_ready p p.instr ≡ true
    is_ready_there = ready.scoped.ready named named_in p point_in_named

    -- the acts of the point, in the typing of the machine
    abbrev pub roots : List ℕ
    roots = kept_roots own 0 own.objects (sub_facts own named.sub named.points)

    abbrev pub acts_by : Typing → Instruction → List Placed
    acts_by z i = acts_of (record { typing = z; result = named.sub.result; roots = roots }) p.pos i

    pub no_callee : (i : Instruction) → IsNoCall i → called_acts program effects p.pos i ≡ []
    no_callee Skip calls = refl
    no_callee (Declare x v) calls = refl
    no_callee (Assign target e) calls = refl
    no_callee (Call sub actuals result) calls = absurd (calls sub actuals result refl)
    no_callee (Output text line) calls = refl
    no_callee (Input target) calls = refl
    no_callee (Release e) calls = refl
    no_callee (Test e) calls = refl
    no_callee (Choose e choices) calls = refl
    no_callee (Start x reversed low high) calls = refl
    no_callee (Next x reversed low high) calls = refl
    no_callee (Evaluate temporary e left) calls = refl
    no_callee (LeaveLoop e) calls = refl
    no_callee (Hold v) calls = refl
    no_callee (EndScope x) calls = refl
    no_callee Finish calls = refl
    no_callee Fall calls = refl

    abbrev pub acts_here : Instruction → List Act
    acts_here i = acts (acts_by s i)

    -- those of the instruction, and those of a call on package objects
    abbrev pub whole_acts : Instruction → List Act
    whole_acts i = acts (acts_by s i ++ called_acts program effects p.pos i)

    -- formals of what is called are such objects
    formals_called : (n : ℕ) (actuals : TypedTree) (result : Option ℕ) → p.instr ≡ Call n actuals result → (x : ℕ) → Has (sub_at s n).formals x → is_formal s x ≡ true
    formals_called n actuals result e x has =
        (ready.called sub in_program here in_sub n actuals result e).formals x (subst (λ (z : Signature). Has z.formals x) (signature_is program n) has)

    pub acts_agree : acts_by s p.instr ≡ acts_by own p.instr
    acts_agree = instruction_same s own agree named.sub.result roots p.pos p.instr formals_called

    pub acts_are : acts_at points top.frame.next ≡ whole_acts p.instr
    acts_are =
        ap (λ (z : PathPoint). acts z.acts) (path_there own named top.frame.next p at_point program effects)
        ∙ ap (λ z. acts (z ++ called_acts program effects p.pos p.instr)) (sym acts_agree)

    pub acts_plain : IsNoCall p.instr → whole_acts p.instr ≡ acts_here p.instr
    acts_plain plain = ap (λ z. acts (acts_by s p.instr ++ z)) (no_callee p.instr plain) ∙ ap acts (append-nil (acts_by s p.instr))

    pub keeps_there : AllKeep (is_fixed s sees) (acts_here p.instr)
    keeps_there = subst (λ z. AllKeep (is_fixed s sees) (acts z)) (sym acts_agree) (ready.orderly.kept sub in_program here in_sub)

    -- its acts are some of its subprogram
    pub acts_in_sub : (a : Act) → Has (acts_here p.instr) a → Has (sub_acts (sub_of program top.frame.sub)) a
    acts_in_sub a has =
        subst (λ z. Has (sub_acts z) a) (sym sub_is) (among sub.points here in_sub (subst (λ z. Has (acts z) a) acts_agree has))
      where
        among : (ps : List FlowPoint) (k : FlowPoint) → Has ps k → Has (acts k.acts) a → Has (flat_map (λ (z : FlowPoint). acts z.acts) ps) a
        among [] k never has = absurd never
        among (z ∷ ps) k (inl same) has =
            Has-append_left (acts z.acts) (flat_map (λ (z : FlowPoint). acts z.acts) ps) a (subst (λ (z : FlowPoint). Has (acts z.acts) a) (sym same) has)
        among (z ∷ ps) k (inr later) has = Has-append_right (acts z.acts) (flat_map (λ (z : FlowPoint). acts z.acts) ps) a (among ps k later has)

    -- what is given has no other root than the first formal, or none that isn't refuted
    pub given_here : (m : PlaceName) (b : Bool) → Has (acts_here p.instr) (act.Give m b)
        → ((f : ℕ) → traversed_formal s sub ≡ Some f → IsOnlyRoot s (sub_acts sub) m.root f → ⊥) → ⊥
    given_here m b has = ready.traversing.given sub in_program here in_sub m b (subst (λ z. Has (acts z) (act.Give m b)) acts_agree has)

    module _ (path : ControlPath (path_points program effects (sub_of program top.frame.sub)) top.before top.frame.next) where
      pub path_here : ControlPath points top.before top.frame.next
      path_here = subst (λ (z : FlowSub). ControlPath (path_points program effects z) top.before top.frame.next) sub_is path

      abbrev pub facts : List Fact
      facts = facts_before points top.before

      pub facts_are : facts_of program effects top ≡ facts
      facts_are = ap (λ (z : FlowSub). facts_before (path_points program effects z) top.before) sub_is

      pub allowed_whole : AllowsAll facts (whole_acts p.instr)
      allowed_whole = subst (AllowsAll facts) acts_are (accepted_point program effects ready.accepted.no_reports sub in_program top.before top.frame.next path_here)

      pub facts_whole : facts_before points (top.frame.next ∷ top.before) ≡ after (whole_acts p.instr) facts
      facts_whole = facts_next points top.before top.frame.next ∙ ap (λ z. after z facts) acts_are

      -- of an instruction that is no call
      pub allowed : IsNoCall p.instr → AllowsAll facts (acts_here p.instr)
      allowed plain = subst (AllowsAll facts) (acts_plain plain) allowed_whole

      pub facts_on : IsNoCall p.instr → facts_before points (top.frame.next ∷ top.before) ≡ after (acts_here p.instr) facts
      facts_on plain = facts_whole ∙ ap (λ z. after z facts) (acts_plain plain)

      -- ---- a successor

      -- the frame at the successor with a number
      abbrev pub at_next : List Waiting → List Loop → ℕ → Stage
      at_next waits loops n = record {
        frame = record top.frame { waits = waits; loops = loops; next = n };
        depth = top.depth;
        before = top.frame.next ∷ top.before;
        returns = top.returns;
      }

      -- the point there
      pub next_at : (n : ℕ) → Has here.next n → (q : NamedPoint) × IsAtPoint named.points n q × Leads s (scope_behind p) q.scope
      next_at n next = next_there s named (laid named named_in) p point_in_named n next

      -- what waits there
      pub waits_next : (waits : List Waiting) (loops : List Loop) (n : ℕ) → Has here.next n → AreValues s waits (scope_behind p)
          → WaitsAt table typed None (at_next waits loops n)
      waits_next waits loops n next are other other_stands q at_q =
          let found = next_at n next in
          let same_sub : other ≡ named = one_named (flow_named table typed) top.frame.sub other named other_stands of_sub in
          let same_point : found.0 ≡ q =
          one_point named.points n found.0 q found.1 (subst (λ (z : NamedSub). IsAtPoint z.points n q) same_sub at_q) in
          subst (AreFor s waits) (leads_temporaries s (scope_behind p) (found.0).scope found.2 ∙ ap (λ (z : NamedPoint). temporaries_of s z.scope) same_point) are

      pub goes_to_next : IsNoCall p.instr → (after_step : State) (waits : List Waiting) (loops : List Loop) (n : ℕ) (next : Has here.next n) (q : NamedPoint) → IsAtPoint named.points n q
          → after_step.frames ≡ record top.frame { waits = waits; loops = loops; next = n } ∷ outer
          → top.depth ≡ length outer → AreStages (stages_of older) outer → (views : Views)
          → IsRunning table typed effects after_step (record { stage = at_next waits loops n; views = views; cells = [] }) older
          → AreAwaited table typed None (at_next waits loops n ∷ stages_of older)
          → ViewedAlone (home s (length outer)) sees (known_gone (home s (length outer)) (GoneElsewhere program effects older)) views (view_here s after_step) (after (acts_here p.instr) facts)
          → Kept s after_step.memory (waiting_in after_step) → InScope s after_step.memory (length outer) (lasting_of s q.scope)
          → HoldsAt s sees (length outer) views after_step.memory q
          → ArePlaced program (length outer) (after (acts_here p.instr) facts) views q.scope × IsBeyond program effects (length outer) views older
          → NoneAbove s (length outer) after_step.memory × HasTraversals table typed (view_here s after_step) (record { stage = at_next waits loops n; views = views; cells = [] } ∷ older) → (before : Views)
          → Follows program effects p.instr state.memory (record { stage = top; views = before; cells = [] }) older after_step.memory (record { stage = at_next waits loops n; views = views; cells = [] }) older
          → LeadsAlong table typed effects p.instr state.memory (record { stage = top; views = before; cells = [] }) older (Goes after_step)
      goes_to_next plain after_step waits loops n next q at is deep stages views running awaited viewed kept scope holds placed above before follows =
          let step_on : Has (path_point points top.frame.next).next n =
          subst (λ (z : PathPoint). Has z.next n) (sym (path_there own named top.frame.next p at_point program effects)) next in
          let facts_there : facts_of program effects (at_next waits loops n) ≡ after (acts_here p.instr) facts =
          ap (λ (z : FlowSub). facts_before (path_points program effects z) (top.frame.next ∷ top.before)) sub_is ∙ facts_on plain in (
            record {
              top = at_next waits loops n;
              views = views;
              older = older;
              stages = subst (AreStages (at_next waits loops n ∷ stages_of older)) (sym is) (refl, deep, stages);
              running = running;
              awaited = awaited;
              path = subst (λ (z : FlowSub). ControlPath (path_points program effects z) (top.frame.next ∷ top.before) n) (sym sub_is)
                  (goes_on top.before top.frame.next n path_here step_on);
              viewed = subst (λ d. ViewedAlone (home s d) sees (known_gone (home s d) (GoneElsewhere program effects older)) views (view_here s after_step) (facts_of program effects (at_next waits loops n))) (sym deep)
                  (subst (ViewedAlone (home s (length outer)) sees (known_gone (home s (length outer)) (GoneElsewhere program effects older)) views (view_here s after_step)) (sym facts_there) viewed);
              kept = kept;
              named = named;
              of_sub = of_sub;
              point = q;
              at_point = at;
              scope = subst (λ d. InScope s after_step.memory d (lasting_of s q.scope)) (sym deep) scope;
              holds = subst (λ d. HoldsAt s sees d views after_step.memory q) (sym deep) holds;
              placed = subst (λ d. ArePlaced program d (facts_of program effects (at_next waits loops n)) views q.scope) (sym deep)
                  (subst (λ z. ArePlaced program (length outer) z views q.scope) (sym facts_there) placed.0);
              past = subst (λ d. IsBeyond program effects d views older) (sym deep) placed.1;
              none_above = subst (λ d. NoneAbove s d after_step.memory) (sym deep) above.0;
              traversals = above.1;
            },
            follows,
          )
