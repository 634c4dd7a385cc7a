-- The package objects are elaborated: no part of theirs is moved, no object has a way, and the main
-- procedure begins after them.
use Rattle.viewed_steps.proofs.Traversed.{none_given, empty_given, begins_given, procedure_traverses}
use Rattle.soundness.specs.Ready.{Fills}
use Rattle.viewed_steps.proofs.Waited.{within_lasting, lasting_within, lasting_more, plain_unheld}
use Rattle.std.proofs.Common.{◌≡◌, refl, sym, ap, ◌∙◌, subst, inl, inr, ℕ, ◌<◌, true, false, not, ◌||◌, ◌==◌, eq-eqb, List, [], ◌∷◌, ◌++◌, drop, get_or, arith, Option, Some, None, if◌then◌else◌, length, Bool}
use Rattle.std.proofs.lemmas.Bool.{false≢true, true≢false}
use Rattle.machine.specs.spark_base.Lists.{Has}
use Rattle.machine.specs.spark_base.declared.position.Pos.{Pos}
use Rattle.soundness.proofs.Lists.{Has-append_cases, Has-map_from}
use Rattle.machine.specs.place_names.declared.act.Act.{Act}
use Rattle.machine.specs.place_names.declared.act.Placed.{Placed}
use Rattle.machine.specs.place_names.declared.fact.Fact.{Fact}
use Rattle.machine.specs.place_names.declared.rule.Loan.{Loan}
use Rattle.machine.specs.place_names.declared.fact.Fact.TheVariants.{Moved}
use Rattle.machine.specs.place_names.Facts.{adds}
use Rattle.machine.specs.place_names.Names.{Name as PlaceName}
use Rattle.machine.specs.type_definitions.Types.{Table, is_nil}
use Rattle.machine.specs.typed_tree.Trees.{TypedTree}
use Rattle.machine.specs.typed_tree.Programs.{TypedProgram}
use Rattle.machine.specs.flow_paths.declared.report.Effects.{Effects}
use Rattle.machine.specs.flow_paths.Instructions.{Instruction, Declare, Call, EndScope, Finish}
use Rattle.machine.specs.flow_paths.Objects.{Typing, object_at, is_anonymous, is_package_object, view_of}
use Rattle.machine.specs.flow_paths.Names.{has_call}
use Rattle.machine.specs.flow_paths.Points.{NamedPoint, FlowPoint}
use Rattle.machine.specs.flow_paths.Laid.{FlowSub, FlowProgram, NamedSub, flow_sub, typing_of, flow_typing, flow_program, flow_named}
use Rattle.machine.specs.flow_paths.Paths.{PathPoint, is_some_point, path_point, ControlPath, begins, acts_at, facts_before}
use Rattle.machine.specs.flow_paths.Effects.{path_points, called_acts}
use Rattle.machine.specs.flow_paths.Scopes.{taken, brought, scope_behind, is_within, is_ready, Leads}
use Rattle.machine.specs.Words as machine
use Rattle.machine.specs.Memory.{no_slot, variable_slots}
use Rattle.machine.specs.States.{Return, Frame, State, Outcome, Goes, Ends, sub_of, frame_at_start}
use Rattle.machine.specs.Step.{Turn, turn, start, led, main_frame}
use Rattle.machine.specs.Owners.{waiting_in}
use Rattle.machine.specs.Run.{no_point, step}
use Rattle.soundness.specs.OwnedWays.Ways.{Step, OfVariable, OfRoot, Way, Held, after, AllowsAll, along}
use Rattle.soundness.specs.OwnedWays.Ways as ways
use Rattle.soundness.proofs.OwnedWays.Locations.{reaches_along, named_along as rooted_along}
use Rattle.soundness.specs.Seen.{IsNear, is_view_formal, content, word_in, home}
use Rattle.soundness.specs.Typed.{Kept}
use Rattle.soundness.specs.TypedLaws.Needed.{IsFine}
use Rattle.soundness.specs.Sound.{IsNoCall, IsRunnable, temporaries_in, Stage, facts_of, AreStages, IsPlain, InScope, IsNamedSub, IsAtPoint, view_of as view_here, is_temporary_object}
use Rattle.soundness.proofs.Contents.{word_root}
use Rattle.soundness.proofs.Paths.{facts_next}
use Rattle.soundness.proofs.Points.{named_has, sub_there, point_there, one_named, one_point}
use Rattle.soundness.proofs.Used.{path_acts}
use Rattle.soundness.proofs.Following.{Each, Declares, declare_on}
use Rattle.soundness.proofs.Waits.{no_waits, drop_none}
use Rattle.soundness.proofs.Successors.{not_true, successor_cases, unmoved_after}
use Rattle.soundness.specs.OwnedLoans.Views.{Around, known_gone, Views, Viewed, IsForeign, ViewedAlone}
use Rattle.soundness.specs.ViewedSoundness.Holds.{AllKeep, is_view, is_fixed, Seeing}
use Rattle.soundness.proofs.ViewedSoundness.ViewKinds.{bundle_view, plain_named, true_false}
use Rattle.soundness.proofs.ViewedSoundness.Outcomes.{IsGood, Turned, Leads_on}
use Rattle.viewed_steps.specs.Awaited.{AreFor, temporaries_of, lasting_of, awaited, WaitsAt}
use Rattle.viewed_steps.specs.Sound.{HoldsAt, NoneAbove, ViewStage, GoneElsewhere, IsFirst, steps_on, begins_main, IsSound, LeadsAlong}
use Rattle.viewed_steps.specs.Ready.{IsReady}
use Rattle.viewed_steps.proofs.Declared.{IsElsewhere, OthersStay, not_gone, declare_leads, others_stay}
use Rattle.viewed_steps.proofs.Placed.{scope_on}
use Rattle.viewed_steps.proofs.Ended.{none_some}
use Rattle.viewed_steps.proofs.Standing.{or_right}
use Rattle.viewed_steps.proofs.Standing as standing
use Rattle.viewed_steps.proofs.Views.{AreAccess, all_held, parts_none}
use Rattle.soundness.proofs.OwnedLoans.Alone.{viewed_alone, alone_viewed}
use Rattle.viewed_steps.specs.Seeing.{sees_in}
use Rattle.viewed_steps.proofs.Sees.{sees_seeing}
use Rattle.viewed_steps.proofs.Constructors.{is_call_instruction, is_end_scope_instruction, is_finish_instruction}
use Rattle.soundness.proofs.Parted.{by_either}

frame_is : (g x y : ℕ) → OfVariable 0 x ≡ OfVariable g y → 0 ≡ g
frame_is g x y same_there = cc

module _ (table : Table) (typed : TypedProgram) (effects : Effects) (input : List ℕ) (ready : IsReady table typed effects) where
  abbrev sees : ℕ → Bool
  sees = sees_in (flow_program table typed)

  abbrev seeing : Seeing (flow_typing (flow_program table typed)) sees
  seeing = sees_seeing (flow_program table typed)

  abbrev program : FlowProgram
  program = flow_program table typed

  abbrev s : Typing
  s = flow_typing program

  abbrev own : Typing
  own = typing_of table typed

  abbrev in_formals : AreAccess s
  in_formals = standing.in_formals table typed effects input ready

  abbrev local : (x : ℕ) → is_view s x ≡ true → is_package_object s x ≡ false
  local = standing.local table typed effects input ready

  -- ---- nothing is moved for the package objects

  abbrev first_points : List PathPoint
  first_points = path_points program effects (sub_of program 0)

  no_callees : (pos : Pos) (i : Instruction) (x : ℕ) (v : TypedTree) → i ≡ Declare x v → (a : Placed) → Has (called_acts program effects pos i) a → ⊥
  no_callees pos i x v e a has = subst (λ z. Has (called_acts program effects pos z) a) e has

  nothing_added : (n : ℕ) (a : Act) → Has (acts_at first_points n) a → (name : PlaceName) → Has (adds a) (Moved name) → ⊥
  nothing_added n a has name moved =
      let placed = Has-map_from (λ (q : Placed). q.act) (path_point first_points n).acts a has in
      let stands = path_acts program effects ready.accepted.effects_are (sub_of program 0).points n placed.0 placed.1 in
      let declares = ready.elaborated.declared stands.0 stands.1 in
      by_either (Has-append_cases stands.0.acts (called_acts program effects stands.0.pos stands.0.instr) placed.0 stands.2)
      (λ mine. (ready.elaborated.unmoved stands.0 stands.1 placed.0 mine name (subst (λ z. Has (adds z) (Moved name)) (sym placed.2) moved)))
      (λ callee. (no_callees stands.0.pos stands.0.instr declares.0 declares.1 declares.2 placed.0 callee))

  unmoved_along : (before : List ℕ) (name : PlaceName) → Has (facts_before first_points before) (Moved name) → ⊥
  unmoved_along [] name has = absurd has
  unmoved_along (n ∷ before) name has =
      unmoved_after (acts_at first_points n) (facts_before first_points before) (unmoved_along before) (nothing_added n) name
      (subst (λ z. Has z (Moved name)) (facts_next first_points before n) has)

  pub unmoved_stage : (e : Stage) → e.frame.sub ≡ 0 → (name : PlaceName) → Has (facts_of program effects e) (Moved name) → ⊥
  unmoved_stage e is name has =
      unmoved_along e.before name (subst (λ n. Has (facts_before (path_points program effects (sub_of program n)) e.before) (Moved name)) is has)

  -- where an object is declared, its facts say so of nothing that it was moved
  module _ (state : State) (top : Stage) (older : List ViewStage) (outer : List Frame) (named : NamedSub) (p : NamedPoint)
      (frames : state.frames ≡ top.frame ∷ outer) (of_sub : IsNamedSub (flow_named table typed) top.frame.sub named)
      (at_point : IsAtPoint named.points top.frame.next p)
      (path : ControlPath (path_points program effects (sub_of program top.frame.sub)) top.before top.frame.next)
      (x : ℕ) (v : TypedTree) (e : p.instr ≡ Declare x v) where
    declared_at : (get_or (flow_sub own named).points top.frame.next no_point).instr ≡ Declare x v
    declared_at = ap (λ (q : FlowPoint). q.instr) (point_there own named top.frame.next p at_point) ∙ e

    pub new_before : (name : PlaceName) → Has (standing.facts table typed effects input ready state top older outer named p frames of_sub at_point path) (Moved name) → name.root ≡ x → ⊥
    new_before name has root =
        (ready.new (flow_sub own named) (standing.in_program table typed effects input ready state top older outer named p frames of_sub at_point) top.before top.frame.next
        (standing.path_here table typed effects input ready state top older outer named p frames of_sub at_point path) x v declared_at name root).0 has

    pub new_after : IsNoCall p.instr → (name : PlaceName) → Has (after (standing.acts_here table typed effects input ready state top older outer named p frames of_sub at_point p.instr) (standing.facts table typed effects input ready state top older outer named p frames of_sub at_point path)) (Moved name)
        → name.root ≡ x → ⊥
    new_after plain name has root =
        (ready.new (flow_sub own named) (standing.in_program table typed effects input ready state top older outer named p frames of_sub at_point) top.before top.frame.next
        (standing.path_here table typed effects input ready state top older outer named p frames of_sub at_point path) x v declared_at name root).1
        (subst (λ z. Has z (Moved name)) (sym (standing.facts_on table typed effects input ready state top older outer named p frames of_sub at_point path plain)) has)

  -- ---- frames at their start

  abbrev pub stage : ℕ → ℕ → Stage
  stage n depth = record { frame = frame_at_start n []; depth = depth; before = []; returns = [] }

  -- the points of a subprogram are laid out of those by name
  pub first_point : (k : ℕ) (named : NamedSub) → IsNamedSub (flow_named table typed) k named → (p : NamedPoint) (rest : List NamedPoint) → named.points ≡ p ∷ rest
      → is_some_point (path_points program effects (sub_of program k))
  first_point k named stands p rest is =
      subst (λ (z : FlowSub). is_some_point (path_points program effects z)) (sym (sub_there table typed k named stands)) (there named is)
    where
      there : (named : NamedSub) → named.points ≡ p ∷ rest → is_some_point (path_points program effects (flow_sub own named))
      there named is = by_points named.points is
        where
          by_points : (points : List NamedPoint) → points ≡ p ∷ rest
              → is_some_point (path_points program effects (flow_sub own (record named { points = points })))
          by_points [] is = absurd (true≢false (ap is_nil is))
          by_points (q ∷ others) is = tt

  -- nothing waits at the first point of a subprogram
  pub first_waits : (depth k : ℕ) (returns : List Return) (named : NamedSub) → IsNamedSub (flow_named table typed) k named → (p : NamedPoint) (rest : List NamedPoint)
      → named.points ≡ p ∷ rest → WaitsAt table typed None (record (stage k depth) { frame = frame_at_start k returns })
  first_waits depth k returns named stands p rest is other other_stands q at_point =
      let same : other ≡ named = one_named (flow_named table typed) k other named other_stands stands in
      let first : p ≡ q = one_point (p ∷ rest) 0 p q ([], rest, refl, refl) (subst (λ z. IsAtPoint z 0 q) (ap (λ (z : NamedSub). z.points) same ∙ is) at_point) in
      subst (AreFor s []) (sym (none_of (temporaries_of s q.scope) (ap (λ (z : NamedPoint). temporaries_in s z.scope) (sym first)
      ∙ ready.scoped.starts named (named_has (flow_named table typed) k named stands) p rest is))) tt
    where
      none_of : (xs : List ℕ) → length xs ≡ 0 → xs ≡ []
      none_of [] none = refl
      none_of (x ∷ xs) none = absurd (omega (arith, none))

  -- the main procedure runs, and nothing is to wait for it
  pub main_awaits : awaited (sub_of program ready.main) [] ≡ None
  main_awaits =
      ap (λ (z : FlowSub). z.result) (sub_there table typed ready.main ready.main_there.named ready.main_there.stands)
      ∙ ready.main_there.procedure ready.main_there.named ready.main_there.stands

  pub main_runs : IsRunnable table typed ready.main
  main_runs = record {
    named = ready.main_there.named;
    stands = ready.main_there.stands;
    entered = inl ready.is_main;
    point = ready.main_there.point;
    points = ready.main_there.points;
    begins = ready.main_there.begins;
    leads = ready.main_there.leads;
  }

  -- a state without views
  abbrev HasNone : Views → Type 0
  HasNone v = ((x : ℕ) → v.way x ≡ None) × ((x : ℕ) (p : List Step) → v.part_way x p ≡ None)

  no_views : {A : Type 0} (v : Views) → HasNone v → (x : ℕ) (w : Way) → v.way x ≡ Some w → A
  no_views v none x w has = absurd (none_some w (sym (none.0 x) ∙ has))

  no_parts : {A : Type 0} (v : Views) → HasNone v → (x : ℕ) (p : List Step) (w : Way) → v.part_way x p ≡ Some w → A
  no_parts v none x p w has = absurd (none_some w (sym (none.1 x p) ∙ has))

  -- ---- a step of the package objects

  -- the main procedure begins, over the frame of the package objects
  module _ (below : ViewStage) (first : IsFirst below) (deep : below.stage.depth ≡ 0) (state : State) (views : Views) (none : HasNone views)
      (begins_main : state.frames ≡ frame_at_start ready.main [] ∷ (below.stage.frame ∷ [])) (facts_there : List Fact)
      (viewed : ViewedAlone (home s 0) sees (known_gone (home s 0) (GoneElsewhere program effects [])) views (view_here s state) facts_there)
      (unmoved : (name : PlaceName) → Has facts_there (Moved name) → ⊥) (kept : Kept s state.memory (waiting_in state))
      (scope : (f x : ℕ) (q : List Step) (n : ℕ) → word_in s.table (content s state.memory [] (OfRoot (OfVariable f x))) q ≡ Held n → f < 1)
      (above : NoneAbove s 0 state.memory) where
    nothing_there : (x n : ℕ) → is_view s x ≡ true → (get_or (variable_slots s (home s 1 x) x state.memory.variables) 0 no_slot).word ≡ machine.Cell n → ⊥
    nothing_there x n view e =
        above.0 1 x n (omega arith) view (subst (λ f. (get_or (variable_slots s f x state.memory.variables) 0 no_slot).word ≡ machine.Cell n)
        (ap (λ b. if b then 0 else 1) (local x view)) e)

    pub main_begun : IsSound table typed effects state
    main_begun = record {
      top = stage ready.main 1;
      views = views;
      older = below ∷ [];
      stages = subst (AreStages (stage ready.main 1 ∷ (below.stage ∷ []))) (sym begins_main) (refl, refl, (refl, deep, tt));
      running = (main_runs, ((λ x has. inl (ready.main_plain x has)), (λ r has. absurd has)), (first, refl));
      awaited = (
        first_waits 1 ready.main [] ready.main_there.named ready.main_there.stands ready.main_there.point ready.main_there.points ready.main_there.begins,
        (main_awaits, first.1.0),
      );
      path = begins (first_point ready.main ready.main_there.named ready.main_there.stands ready.main_there.point ready.main_there.points ready.main_there.begins);
      viewed = record {
        owned = viewed.owned;
        covered = viewed.covered;
        known = λ w l rooted r gone. absurd (elim (viewed.known w l rooted r gone) [
          | inl (inl (u, moved, leads)) ↦ unmoved (ways.name_of u) moved.1
          | inl (inr none_away) ↦ none_away
          | inr (g, has, what) ↦ has
        ]);
        clear = record {
          moved = λ l h n m has there over. has;
          lent = λ b h n m has there off over. has;
          seen = λ b h n m has there over. has;
          owned = λ n has. absurd has;
        };
        views = (λ x w has. no_views views none x w has, λ x p w has. no_parts views none x p w has);
        whole = λ x w z has. no_views views none x w has;
        whole_parts = λ x p w z has. no_parts views none x p w has;
      };
      kept = kept;
      named = ready.main_there.named;
      of_sub = ready.main_there.stands;
      point = ready.main_there.point;
      at_point = ([], ready.main_there.points, ready.main_there.begins, refl);
      scope = λ f x q n held. inl (scope f x q n held);
      holds = record {
        held = λ x n lasts view bare e. absurd (nothing_there x n view e);
        within = λ x n view bare e. absurd (nothing_there x n view e);
        only = λ x w has. no_views views none x w has;
        lies = λ x w has. no_views views none x w has;
        owners = λ x w has. no_views views none x w has;
        passed = λ x w has. no_views views none x w has;
        own = λ x w has. no_views views none x w has;
        taken = λ x w has. no_views views none x w has;
        parts = parts_none s sees in_formals 1 views state.memory
            (λ x i n bundle at. above.1 1 x i n (omega arith) bundle (subst (λ f. (get_or (variable_slots s f x state.memory.variables) i no_slot).word ≡ machine.Cell n)
            (ap (λ b. if b then 0 else 1) (local x (bundle_view s x bundle))) at))
            (standing.bundle_sees table typed effects input ready) none.1;
        low = λ x p w has. no_parts views none x p w has;
      };
      placed = λ x w has. no_views views none x w has;
      past = ((λ x w has. no_views views none x w has), ((λ x w has. no_views views none x w has), (λ x q w has. no_parts views none x q w has)));
      none_above = (λ f x n less view e. above.0 f x n (omega (arith, less)) view e, λ f x i n less bundle e. above.1 f x i n (omega (arith, less)) bundle e);
      traversals = (
        begins_given table typed (view_here s state) (record { stage = stage ready.main 1; views = views; cells = [] }) below refl (first.1).0,
        (
          λ f traversed. absurd (procedure_traverses table typed (sub_of program ready.main) f
              (ap (λ (z : FlowSub). z.result) (sub_there table typed ready.main ready.main_there.named ready.main_there.stands)
              ∙ ready.main_there.procedure ready.main_there.named ready.main_there.stands) traversed),
          tt,
        ),
      );
    }

  module _ (state : State) (top : Stage) (named : NamedSub) (p : NamedPoint) (frames : state.frames ≡ top.frame ∷ []) (deep : top.depth ≡ 0) (views : Views)
      (running : (top.frame.sub ≡ 0) × IsPlain top × ((x : ℕ) → views.way x ≡ None) × (top.depth ≡ 0) × ((x : ℕ) (p : List Step) → views.part_way x p ≡ None)) (above : NoneAbove s 0 state.memory)
      (of_sub : IsNamedSub (flow_named table typed) top.frame.sub named) (at_point : IsAtPoint named.points top.frame.next p)
      (path : ControlPath (path_points program effects (sub_of program top.frame.sub)) top.before top.frame.next)
      (viewed_before : ViewedAlone (home s 0) sees (known_gone (home s 0) (GoneElsewhere program effects [])) views (view_here s state) (facts_of program effects top))
      (kept : Kept s state.memory (waiting_in state)) (scope : InScope s state.memory 0 (lasting_of s p.scope)) (holds : HoldsAt s sees 0 views state.memory p) where
    -- where it leads, and how the frames come from those before
    abbrev Along : Outcome → Type 0
    Along outcome = LeadsAlong table typed effects p.instr state.memory (record { stage = top; views = views; cells = [] }) [] outcome

    abbrev first_turn : Turn
    first_turn = standing.t table typed effects input ready state top [] [] named p frames of_sub at_point

    abbrev nowhere : Around (home s 0)
    nowhere = known_gone (home s 0) (GoneElsewhere program effects [])

    alone_first : (w : Way) → IsNear 0 w → GoneElsewhere program effects [] w → ⊥
    alone_first w near these = let (g, has, what) = these in has

    abbrev no_sources : ℕ → ℕ → Type 0
    no_sources a b = ⊥

    abbrev facts_first : List Fact
    facts_first = standing.facts table typed effects input ready state top [] [] named p frames of_sub at_point path

    abbrev acts_first : Instruction → List Act
    acts_first i = standing.acts_here table typed effects input ready state top [] [] named p frames of_sub at_point i

    viewed_first : Viewed (home s 0) sees nowhere views (view_here s state) facts_first
    viewed_first =
        alone_viewed (home s 0) sees views (view_here s state) facts_first (GoneElsewhere program effects []) (λ x w has. none_some w (sym (running.2 x) ∙ has)) (no_parts views (running.2, running.4))
        (subst (ViewedAlone (home s 0) sees (known_gone (home s 0) (GoneElsewhere program effects [])) views (view_here s state)) (standing.facts_are table typed effects input ready state top [] [] named p frames of_sub at_point path) viewed_before)

    in_packages : Has (sub_of program 0).points first_turn.point
    in_packages =
        subst (λ (z : FlowSub). Has z.points first_turn.point)
        (sym (standing.sub_is table typed effects input ready state top [] [] named p frames of_sub at_point) ∙ ap (sub_of program) running.0)
        (standing.in_sub table typed effects input ready state top [] [] named p frames of_sub at_point)

    -- its instruction is no call
    calls_plain : (x : ℕ) (v : TypedTree) → p.instr ≡ Declare x v → IsNoCall p.instr
    calls_plain x v e n actuals result is = (let never : Declare x v ≡ Call n actuals result = sym e ∙ is in absurd (false≢true (ap is_call_instruction never)))

    module _ (x : ℕ) (v : TypedTree) (e : p.instr ≡ Declare x v) (no_call : has_call v ≡ false) where
      first_takes : taken first_turn.point.instr ≡ 0
      first_takes = ap taken e ∙ no_waits v no_call

      scope_first : scope_behind p ≡ x ∷ p.scope
      scope_first = ap (λ n. brought p.instr (drop n p.scope)) first_takes ∙ ap (brought p.instr) (drop_none p.scope) ∙ ap (λ i. brought i p.scope) e

      no_temporary : is_temporary_object s x ≡ false
      no_temporary = subst (λ i. Fills s i (drop (taken i) p.scope)) e (standing.supplied table typed effects input ready state top [] [] named p frames of_sub at_point).1

      within_more : (y : ℕ) → is_within y p.scope ≡ true → is_within y (x ∷ p.scope) ≡ true
      within_more y w = or_right (y == x) (is_within y p.scope) w

      undeclared_before : is_within x p.scope ≡ true → ⊥
      undeclared_before within =
          let out : not (is_within x p.scope) ≡ true = subst (λ i. is_ready p i ≡ true) e (standing.is_ready_there table typed effects input ready state top [] [] named p frames of_sub at_point) in
          true_false (is_within x p.scope) within (not_true (is_within x p.scope) out)

      owner : is_anonymous (view_of s x) ≡ false
      owner = ready.orderly.packages first_turn.point in_packages x v e

      no_formal : is_view_formal s x ≡ false
      no_formal = (ready.orderly.points named (standing.named_in table typed effects input ready state top [] [] named p frames of_sub at_point) p
          (standing.point_in_named table typed effects input ready state top [] [] named p frames of_sub at_point)).begun x v e

      free_first : ((y : ℕ) (w : Way) → views.way y ≡ Some w
          → ((foreign : IsForeign (home s 0) w) → foreign.0 ≡ 0 → ⊥) × IsElsewhere (home s 0) 0 x w)
          × ((l : Loan) (name : PlaceName) → nowhere.lent l name → name.root ≡ x → 0 ≡ home s 0 x → ⊥)
          × ((y : ℕ) (q : List Step) (w : Way) → views.part_way y q ≡ Some w → ways.base_of w ≡ OfRoot (OfVariable 0 x) → ⊥)
      free_first = (
        λ y w has. no_views views (running.2, running.4) y w has,
        λ l name lent root at_home. lent,
        λ y q w has. no_parts views (running.2, running.4) y q w has,
      )

      blank_first : (q : List Step) (w : ways.Word) → word_in s.table (content s state.memory [] (OfRoot (OfVariable 0 x))) q ≡ w
          → word_in s.table (content s state.memory [] (OfRoot (OfVariable 0 x))) q ≡ ways.Empty
      blank_first q ways.Empty is = is
      blank_first q (ways.Held n) is = absurd (elim (scope 0 x q n is) [
        | inl less ↦ omega (arith, less)
        | inr mine ↦ undeclared_before (lasting_within s x p.scope mine.1).0
      ])
      blank_first q ways.Gone is =
          let root : ways.Root = OfVariable 0 x in
          let w : Way = along (ways.Object root) q in
          absurd (not_gone first_turn sees seeing ready.accepted.settled ready.owns nowhere alone_first in_formals views ready.class.parts_named no_sources frames first_takes
          x facts_first (view_here s state) viewed_first (λ name has root at_home. new_before state top [] [] named p frames of_sub at_point path x v e name has root) free_first q
          (viewed_first.known w (ways.part (OfRoot root) q) (rooted_along (ways.Object root) q tt)
          (reaches_along (view_here s state) (ways.Object root) (OfRoot root) q refl)
          (word_root s.table (content s state.memory (waiting_in state)) root q ∙ is)))

      abbrev GoodFirst : State → Type 0
      GoodFirst st = IsGood first_turn sees seeing ready.accepted.settled ready.owns nowhere alone_first views ready.class.parts_named no_sources frames first_takes views facts_first st

      same_declare : (a b : ℕ) (c : TypedTree) → Declare b c ≡ EndScope a → ⊥
      same_declare a b c e = absurd (false≢true (ap is_end_scope_instruction e))

      good_first : GoodFirst state
      good_first = record {
        viewed = viewed_first;
        kept = kept;
        holds = all_held s sees in_formals 0 views state.memory (λ y n view bare at. holds.held y n (λ fading. same_declare fading.0 x v (sym e ∙ fading.1)) view bare at)
            holds.only holds.owners holds.own holds.taken holds.parts;
      }

      abbrev LeadsFirst : Outcome → Type 0
      LeadsFirst outcome =
          Leads_on first_turn sees seeing ready.accepted.settled ready.owns nowhere alone_first views ready.class.parts_named no_sources frames first_takes
          (after (acts_first (Declare x v)) facts_first) outcome

      first_leads : LeadsFirst (turn first_turn (Declare x v))
      first_leads =
          declare_leads first_turn sees seeing ready.accepted.settled ready.owns nowhere alone_first in_formals views ready.class.parts_named no_sources frames first_takes
          x v (plain_named s.table (object_at s x).of owner) no_formal (subst (IsFine s named.sub.result) e (standing.fine table typed effects input ready state top [] [] named p frames of_sub at_point))
          no_call facts_first good_first
          (subst (λ i. AllowsAll facts_first (acts_first i)) e (standing.allowed table typed effects input ready state top [] [] named p frames of_sub at_point path (calls_plain x v e)))
          (subst (λ i. AllKeep (is_fixed s sees) (acts_first i)) e (standing.keeps_there table typed effects input ready state top [] [] named p frames of_sub at_point))
          (λ q. blank_first q (word_in s.table (content s state.memory [] (OfRoot (OfVariable 0 x))) q) refl)
          (λ name has root at_home. new_after state top [] [] named p frames of_sub at_point path x v e (calls_plain x v e) name
          (subst (λ i. Has (after (acts_first i) facts_first) (Moved name)) (sym e) has) root)
          free_first (λ w keeps base. elim keeps [ inl there ↦ there.1 | inr there ↦ there.2 ])

      none_left : (turned_views : Views) → Turned first_turn sees seeing ready.accepted.settled ready.owns nowhere alone_first views ready.class.parts_named no_sources frames first_takes
          turned_views (after (acts_first (Declare x v)) facts_first) → HasNone turned_views
      none_left turned_views turned = (λ y. by_way y (turned_views.way y) refl, λ y q. (turned.1 y q).0 ∙ running.4 y q)
        where
          by_way : (y : ℕ) (o : Option Way) → turned_views.way y ≡ o → turned_views.way y ≡ None
          by_way y None is = is
          by_way y (Some w) is = absurd (by_either (turned.0 y w is) (λ same_there. (none_some w (sym (running.2 y) ∙ sym same_there.way ∙ is))) (λ (z, never, comes). (never)))

      moment_leads : (outcome : Outcome) → LeadsFirst outcome
          → Each (Declares first_turn running.1.0 (λ f y. f < 0) (lasting_of s p.scope) (lasting_of s (x ∷ p.scope)) scope) outcome
          → Each (λ (st : State). NoneAbove s 0 st.memory) outcome → Along outcome
      unfolding main_begun
      moment_leads (Ends how after_step) leads on nones = leads
      moment_leads (Goes after_step) (turned_views, turned, well) on nones =
          let none_now : HasNone turned_views = none_left turned_views turned in
          let facts_on_e : after (acts_first (Declare x v)) facts_first ≡ after (acts_first p.instr) facts_first = ap (λ i. after (acts_first i) facts_first) (sym e) in
          by_either (successor_cases first_turn 0)
          (λ found. (
          let q = standing.next_at table typed effects input ready state top [] [] named p frames of_sub at_point path found.0 found.2 in
          let lead : Leads s (scope_behind p) (q.0).scope = q.2 in
          standing.goes_to_next table typed effects input ready state top [] [] named p frames of_sub at_point path (calls_plain x v e) after_step [] top.frame.loops found.0 found.2 q.0 q.1
          (on.frames ∙ ap (led first_turn (record top.frame { waits = [] })) found.1) deep tt turned_views
          (running.0, (refl, running.1.1, running.1.2), none_now.0, deep, refl, none_now.1) (refl, refl)
          (viewed_alone (home s 0) sees turned_views (view_here s after_step) (after (acts_first p.instr) facts_first) nowhere
          (subst (Viewed (home s 0) sees nowhere turned_views (view_here s after_step)) facts_on_e well.viewed)) well.kept
          (scope_on s ready.owns after_step.memory 0 (scope_behind p) (q.0).scope (subst (λ z. InScope s after_step.memory 0 (lasting_of s z)) (sym scope_first) on.inside) lead)
          (record {
            held = λ y n lasts view bare at. well.holds.held y n view bare at;
            within = λ y n view bare at. (
                let own_way = well.holds.held y n view bare at in no_views turned_views none_now y own_way.0 own_way.1);
            only = λ y w has. no_views turned_views none_now y w has;
            lies = λ y w has. no_views turned_views none_now y w has;
            owners = λ y w has. no_views turned_views none_now y w has;
            passed = λ y w has. no_views turned_views none_now y w has;
            own = λ y w has. no_views turned_views none_now y w has;
            taken = λ y w has. no_views turned_views none_now y w has;
            parts = well.holds.parts;
            low = λ y q w has. no_parts turned_views none_now y q w has;
          }) (
            (λ y w has. no_views turned_views none_now y w has),
            (
              (λ y w has. no_views turned_views none_now y w has),
              ((λ y w has. no_views turned_views none_now y w has), (λ y q w has. no_parts turned_views none_now y q w has)),
            ),
          ) (
            nones,
            (
              none_given table typed (view_here s after_step) (record { stage = standing.at_next table typed effects input ready state top [] [] named p frames of_sub at_point path [] top.frame.loops found.0; views = turned_views; cells = [] })
                  (empty_given table typed (record { stage = standing.at_next table typed effects input ready state top [] [] named p frames of_sub at_point path [] top.frame.loops found.0; views = turned_views; cells = [] }) refl),
              tt,
            ),
          ) views
          (steps_on (calls_plain x v e) (λ end. (let never : Declare x v ≡ Finish = sym e ∙ end in absurd (false≢true (ap is_finish_instruction never))))
          (λ y end. (let never : Declare x v ≡ EndScope y = sym e ∙ end in absurd (false≢true (ap is_end_scope_instruction never)))) (refl, refl, refl) (λ y w has. no_views turned_views none_now y w has) refl)))
          (λ none. (
          let below : Stage = record { frame = record top.frame { waits = [] }; depth = 0; before = top.frame.next ∷ top.before; returns = [] } in
          let main_frames : after_step.frames ≡ frame_at_start ready.main [] ∷ (record top.frame { waits = [] } ∷ []) =
          on.frames ∙ ap (led first_turn (record top.frame { waits = [] })) none
          ∙ ap (λ z. main_frame (record program { main = z }) ++ (record top.frame { waits = [] } ∷ [])) ready.is_main in
          let same_facts : after (acts_first p.instr) facts_first ≡ facts_of program effects below =
          sym (standing.facts_on table typed effects input ready state top [] [] named p frames of_sub at_point path (calls_plain x v e))
          ∙ ap (λ (z : FlowSub). facts_before (path_points program effects z) (top.frame.next ∷ top.before)) (sym (standing.sub_is table typed effects input ready state top [] [] named p frames of_sub at_point)) in (
            main_begun (record { stage = below; views = turned_views; cells = [] }) (running.0, (refl, running.1.1, refl), none_now.0, refl, refl, none_now.1) refl after_step turned_views none_now main_frames (after (acts_first (Declare x v)) facts_first)
                (viewed_alone (home s 0) sees turned_views (view_here s after_step) (after (acts_first (Declare x v)) facts_first) nowhere well.viewed)
                (λ name has. unmoved_stage below running.0 name (subst (λ z. Has z (Moved name)) (facts_on_e ∙ same_facts) has)) well.kept
                (λ f y q n held. by_either (on.inside f y q n held) (λ less. (absurd (omega (arith, less)))) (λ mine. (let same_frame = mine.0 in omega (arith, same_frame)))) nones,
            begins_main (record { stage = below; views = turned_views; cells = [] }) refl refl (refl, sym deep, refl) refl,
          )))

      have_none_on : Each (λ (st : State). NoneAbove s 0 st.memory) (turn first_turn (Declare x v))
      have_none_on = each_on (turn first_turn (Declare x v))
          (others_stay first_turn sees seeing ready.accepted.settled ready.owns nowhere alone_first in_formals views ready.class.parts_named no_sources frames first_takes
          (start first_turn).waits x v (subst (IsFine s named.sub.result) e (standing.fine table typed effects input ready state top [] [] named p frames of_sub at_point)))
        where
          each_on : (outcome : Outcome) → Each (λ (st : State). OthersStay s state.memory 0 x st.memory) outcome → Each (λ (st : State). NoneAbove s 0 st.memory) outcome
          each_on (Goes st) stay = (
            λ g y n less view at. above.0 g y n less view (sym (stay g y 0 (λ same_there. (let none = frame_is g x y same_there in omega (arith, less, none)))) ∙ at),
            λ g y i n less bundle at. above.1 g y i n less bundle (sym (stay g y i (λ same_there. (let none = frame_is g x y same_there in omega (arith, less, none)))) ∙ at),
          )
          each_on (Ends how st) stay = tt

      declares_first : Along (turn first_turn (Declare x v))
      declares_first =
          moment_leads (turn first_turn (Declare x v)) first_leads
          (declare_on first_turn running.1.0 (λ f y. f < 0) (lasting_of s p.scope) (lasting_of s (x ∷ p.scope)) scope (lasting_more s p.scope (x ∷ p.scope) within_more) x v
          (within_lasting s x (x ∷ p.scope) (ap (λ b. b || is_within x p.scope) (eq-eqb x x refl)) (plain_unheld s x no_temporary)))
          have_none_on

    pub package_step : Along (step program input state)
    package_step =
        let declares = ready.elaborated.declared first_turn.point in_packages in
        subst Along (sym (standing.step_is table typed effects input ready state top [] [] named p frames of_sub at_point))
        (subst (λ i. Along (turn first_turn i)) (sym declares.2) (declares_first declares.0 declares.1 declares.2 declares.3))
