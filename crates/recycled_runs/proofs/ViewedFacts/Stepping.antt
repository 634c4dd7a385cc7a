-- In a step of a subprogram that is neither a call nor the end of a scope, of a program that is ready: facts without an
-- element stay exact, and no leak check fails that is excused.
use Rattle.std.proofs.Common.{◌≡◌, refl, sym, ap, ◌∙◌, subst, inl, inr, ℕ, suc, Bool, true, false, not, List, [], ◌∷◌, ◌++◌, map, drop, length, append-nil, ◌+◌, Option, Some, None, nat_lt, int_le, ◌&&◌, if◌then◌else◌, take}
use Rattle.recycled_runs.proofs.ViewedFacts.Stored.{then_placed}
use Rattle.recycled_runs.proofs.ViewedFacts.Evaluated.{ExactTo, checked_exact}
use Rattle.soundness.proofs.Lasting.{keeps}
use Rattle.soundness.proofs.Numbers.{index_law}
use Rattle.soundness.specs.ViewedSoundness.Taken.{GivesPlainly}
use Rattle.machine.specs.spark_base.Lists.{Has}
use Rattle.machine.specs.spark_base.declared.position.Pos.{Pos}
use Rattle.machine.specs.place_names.declared.selector.Sel.{Sel}
use Rattle.machine.specs.place_names.declared.selector.Sel.TheVariants as sel
use Rattle.machine.specs.place_names.declared.act.Act.{Act}
use Rattle.machine.specs.place_names.declared.act.Act.TheVariants as act
use Rattle.machine.specs.place_names.declared.act.Placed.{Placed}
use Rattle.machine.specs.place_names.declared.fact.Fact.{Fact}
use Rattle.machine.specs.place_names.declared.fact.Fact.TheVariants.{Moved}
use Rattle.machine.specs.place_names.Names.{Name as PlaceName, extend}
use Rattle.machine.specs.place_names.Facts.{effect}
use Rattle.machine.specs.type_definitions.Types.{Table, is_scalar, full, shape_of, parts}
use Rattle.machine.specs.type_definitions.declared.table.Shape.TheVariants as shape
use Rattle.machine.specs.typed_tree.Trees.{TypedTree, TypedCode, Name, NoMore, More, Call as CallIn}
use Rattle.machine.specs.typed_tree.declared.node.ShortCircuit.{ShortCircuit}
use Rattle.machine.specs.typed_tree.Programs.{TypedProgram}
use Rattle.machine.specs.flow_paths.declared.report.Effects.{Effects}
use Rattle.machine.specs.flow_paths.declared.point.LeakSpot.{LeakSpot}
use Rattle.machine.specs.flow_paths.Instructions.{Instruction, Skip, Declare, Assign, Call, Output, Input, Release, Test, Choose, Start, Next, Evaluate, LeaveLoop, Hold, EndScope, Finish, Fall}
use Rattle.machine.specs.flow_paths.Objects.{Typing, object_at, is_anonymous, is_package_object, is_observer, view_of, designated}
use Rattle.machine.specs.flow_paths.Names.{has_call, name_of, waiting as waits_in}
use Rattle.machine.specs.flow_paths.Acts as flow
use Rattle.machine.specs.flow_paths.Acts.{acts_in, leaks_of, spot, stored_acts}
use Rattle.machine.specs.flow_paths.Laid.{FlowProgram, number_in, flow_sub, typing_of, flow_typing, flow_program}
use Rattle.machine.specs.flow_paths.Paths.{PathPoint}
use Rattle.machine.specs.flow_paths.Effects.{path_points}
use Rattle.machine.specs.flow_paths.LeakPlan.{IsExcused}
use Rattle.machine.specs.flow_paths.Scopes.{taken}
use Rattle.machine.specs.Memory.{Memory, Place, declared, stored, words_of}
use Rattle.machine.specs.Words as machine
use Rattle.machine.specs.Words.{fits_type}
use Rattle.machine.specs.Calls.{checks_at}
use Rattle.machine.specs.Evaluate.{Now, Exception, ConstraintError, Evaluated, Done, followed_by, value, place_of, text_of, checked, evaluate, initial}
use Rattle.machine.specs.Evaluate as run
use Rattle.kept_cells.specs.run_values.Items.{next_item}
use Rattle.machine.specs.States.{Frame, Outcome, Goes, Ends}
use Rattle.machine.specs.Step.{Turn, turn, start, waiting, behind}
use Rattle.machine.specs.Step as steps
use Rattle.machine.specs.Owners.{waiting_in}
use Rattle.machine.specs.Run.{step}
use Rattle.soundness.specs.OwnedWays.Ways.{Way, Told, after, AllowsAll}
use Rattle.soundness.specs.Seen.{home, seen, IsNear}
use Rattle.soundness.specs.Typed.{Kept}
use Rattle.soundness.specs.Sound.{Stage, facts_of, IsNoCall, IsTrap, IsAtPoint, view_of as view_here}
use Rattle.soundness.specs.TypedLaws.Needed.{IsFine, Source, FirstSource, FirstWrites, FirstStays, Stays, Returns}
use Rattle.soundness.proofs.Contents.{bool_cases}
use Rattle.soundness.proofs.Scalars.{after_append, acts, acts_append}
use Rattle.soundness.proofs.Taking.{Takes, takes_as, takes_both, nothing_more, no_takes}
use Rattle.soundness.proofs.Eased.{eased}
use Rattle.soundness.proofs.Continued.{got_with, released_with, started_with, input_eased, release_eased, start_eased}
use Rattle.soundness.proofs.Inherited.{after_splits}
use Rattle.soundness.proofs.Around.{IsFar}
use Rattle.soundness.specs.OwnedLoans.Views.{Around, Viewed}
use Rattle.soundness.specs.ViewedSoundness.Holds.{is_fixed, is_view, IsNamed, AllKeep, Seeing}
use Rattle.soundness.proofs.ViewedSoundness.ViewKinds.{plain_named, true_false}
use Rattle.soundness.proofs.ViewedSoundness.Evaluated.{keep_both}
use Rattle.soundness.proofs.ViewedSoundness.Outcomes.{named_plain, IsGood, Leads_on, assigned_acts}
use Rattle.viewed_steps.specs.Sound.{ViewStage, GoneElsewhere, IsStoredAt}
use Rattle.viewed_steps.specs.Awaited.{AreScalar, temporaries_of, TakesScalars, TakesAlone}
use Rattle.viewed_steps.specs.Ready.{AreOrderly, IsReady}
use Rattle.viewed_steps.proofs.Sources.{leads_or}
use Rattle.viewed_steps.proofs.Waiting.{StandsBetween, beside_them, handed}
use Rattle.viewed_steps.proofs.Standing as standing
use Rattle.viewed_steps.proofs.Packages as packages
use Rattle.viewed_steps.proofs.Innermost as innermost
use Rattle.viewed_steps.proofs.Alone as alone_value
use Rattle.viewed_steps.proofs.EachInstruction as each
use Rattle.viewed_steps.proofs.Released.{Releases, released_on as sound_released_on}
use Rattle.viewed_steps.proofs.Read.{Gets, got_on as sound_got_on}
use Rattle.viewed_steps.proofs.Rounds.{Starts, started_on as sound_started_on}
use Rattle.soundness.specs.ExactFacts.Exact.{NoneFails, Knows, checks_of}
use Rattle.soundness.proofs.ExactFacts.Checks.{none_made}
use Rattle.recycled_runs.specs.ViewedFacts.Exact.{IsDefiniteOf, IsExact}
use Rattle.recycled_runs.proofs.ViewedFacts.Instructions.{ExactOn, value_on, source_exact, declare_on, assign_on, skip_exact, then_declared, then_stored}
use Rattle.viewed_steps.proofs.Views.{anonymous_view}
use Rattle.recycled_runs.proofs.ViewedFacts.Viewing.{view_parts, view_declared_on, view_assigned_on}
use Rattle.recycled_runs.proofs.ViewedFacts.Releases.{released_on}
use Rattle.recycled_runs.proofs.ViewedFacts.Loops.{next_exact, started_on, output_on, line_exact, got_on}
use Rattle.recycled_runs.proofs.ViewedFacts.Frames.{elsewhere as moved_elsewhere}
use Rattle.recycled_runs.proofs.ViewedFacts.Here as here
use Rattle.recycled_runs.proofs.ViewedFacts.Sighted as sighted
use Rattle.recycled_runs.proofs.ViewedFacts.Turning as turning
use Rattle.recycled_runs.proofs.ViewedFacts.Within as within_value
use Rattle.viewed_steps.proofs.Views.{AreAccess, all_held}
use Rattle.recycled_runs.proofs.ViewedFacts.Steps.{IsAway}
use Rattle.recycled_runs.proofs.ViewedFacts.Given.{gives_no_call, first_plain}
use Rattle.viewed_steps.specs.Seeing.{sees_in}
use Rattle.viewed_steps.proofs.Sees.{sees_seeing}
use Rattle.viewed_steps.proofs.InnerFrame.{InnerFrame}
use Rattle.viewed_steps.proofs.Parted.{more_first, more_none, call_name}
use Rattle.soundness.proofs.Parted.{by_either}

module _ (table : Table) (typed : TypedProgram) (effects : Effects) (input : List ℕ) (ready : IsReady table typed effects) where
  abbrev sees : ℕ → Bool
  sees = sees_in (flow_program table typed)

  abbrev seeing : Seeing (flow_typing (flow_program table typed)) sees
  seeing = sees_seeing (flow_program table typed)

  abbrev program : FlowProgram
  program = flow_program table typed

  abbrev s : Typing
  s = flow_typing program

  abbrev own : Typing
  own = typing_of table typed

  abbrev in_formals : AreAccess s
  in_formals = standing.in_formals table typed effects input ready

  abbrev local : (x : ℕ) → is_view s x ≡ true → is_package_object s x ≡ false
  local = standing.local table typed effects input ready

  abbrev unmoved_stage : (e : Stage) → e.frame.sub ≡ 0 → (name : PlaceName) → Has (facts_of program effects e) (Moved name) → ⊥
  unmoved_stage = packages.unmoved_stage table typed effects input ready

  -- a point of a procedure, in a state that is sound and whose facts are exact
  module _ (inner : InnerFrame table typed effects) (exact_before : Told (seen s inner.state.memory [] []) (IsDefiniteOf program effects (record { stage = inner.top; views = inner.views; cells = [] } ∷ (inner.below ∷ inner.more_frames)))) where
    abbrev outer : List Frame
    outer = inner.below.stage.frame ∷ inner.rest

    abbrev older : List ViewStage
    older = inner.below ∷ inner.more_frames

    abbrev depth : ℕ
    depth = suc (length inner.rest)

    abbrev between : (g : ViewStage) → Has (inner.below ∷ inner.more_frames) g → StandsBetween table typed effects unmoved_stage local inner.state (suc (length inner.rest)) (inner.below ∷ inner.more_frames) g
    between = innermost.between table typed effects input ready inner

    abbrev other : Around (home s (suc (length inner.rest)))
    other = beside_them table typed effects unmoved_stage local inner.state (suc (length inner.rest)) (inner.below ∷ inner.more_frames) between

    abbrev alone : (w : Way) → IsNear (suc (length inner.rest)) w → IsFar (suc (length inner.rest)) (GoneElsewhere program effects (inner.below ∷ inner.more_frames)) w → ⊥
    alone = innermost.alone table typed effects input ready inner

    abbrev elsewhere : Way → Type 0
    elsewhere = moved_elsewhere table typed effects unmoved_stage local inner.state (suc (length inner.rest)) (inner.below ∷ inner.more_frames) between inner.views (innermost.own_views table typed effects input ready inner)

    abbrev away : (w : Way) → elsewhere w → IsAway s (suc (length inner.rest)) other w
    away = here.away table typed effects input ready inner exact_before

    abbrev at : Turn
    at = standing.t table typed effects input ready inner.state inner.top older outer inner.named inner.p inner.frames inner.of_sub inner.at_point

    abbrev points : List PathPoint
    points = path_points program effects (flow_sub own inner.named)

    abbrev own_facts : List Fact
    own_facts = standing.facts table typed effects input ready inner.state inner.top older outer inner.named inner.p inner.frames inner.of_sub inner.at_point inner.path

    abbrev around : List Fact
    around = handed table typed effects unmoved_stage local inner.state depth older between

    abbrev facts_now : List Fact
    facts_now = own_facts ++ around

    abbrev viewed : Viewed (home s depth) sees other inner.views (view_here s inner.state) facts_now
    viewed = innermost.viewed table typed effects input ready inner

    abbrev own_views : (x : ℕ) (w : Way) → inner.views.way x ≡ Some w → is_package_object s x ≡ false
    own_views = innermost.own_views table typed effects input ready inner

    abbrev home_frame : (x : ℕ) → is_package_object s x ≡ false → home s depth x ≡ depth
    home_frame = innermost.home_frame table typed effects input ready inner

    abbrev orderly : AreOrderly program inner.p (λ q. (n : ℕ) × Has (map (number_in inner.named.points) inner.p.next) n × IsAtPoint inner.named.points n q)
    orderly = innermost.orderly table typed effects input ready inner

    abbrev none_taken : ℕ → ℕ → Type 0
    none_taken a b = ⊥

    abbrev exact : IsExact s (home s depth) inner.views elsewhere inner.state.memory facts_now
    exact = here.exact table typed effects input ready inner exact_before

    abbrev Excused : LeakSpot → Type 0
    Excused = IsExcused points inner.top.frame.next

    abbrev frame_by : Typing → flow.Frame
    frame_by z = record { typing = z; result = inner.named.sub.result; roots = standing.roots table typed effects input ready inner.state inner.top older outer inner.named inner.p inner.frames inner.of_sub inner.at_point }

    abbrev placed_by : Instruction → List Placed
    placed_by i = standing.acts_by table typed effects input ready inner.state inner.top older outer inner.named inner.p inner.frames inner.of_sub inner.at_point s i

    abbrev spots_by : Instruction → List LeakSpot
    spots_by i = leaks_of (frame_by s) inner.p.pos i

    abbrev acts_by : Instruction → List Act
    acts_by i = standing.acts_here table typed effects input ready inner.state inner.top older outer inner.named inner.p inner.frames inner.of_sub inner.at_point i

    abbrev given_words : List (List machine.Word)
    given_words = (start at).waits

    abbrev Plain : Type 0
    Plain = AreScalar s (temporaries_of s (take (taken inner.p.instr) inner.p.scope))

    abbrev Plainly : Type 0
    Plainly = Plain × TakesScalars s inner.p.instr

    abbrev takes_of : Plain → (i : Instruction) → inner.p.instr ≡ i → Takes (taken i) given_words []
    takes_of = innermost.takes_of table typed effects input ready inner

    abbrev easy : Turn
    easy = eased at

    abbrev viewed_easy : Plain → Viewed (home s depth) sees other inner.views (view_here s easy.state) facts_now × Kept s inner.state.memory (waiting_in easy.state)
    viewed_easy = innermost.viewed_easy table typed effects input ready inner

    abbrev knows : (i : Instruction) → inner.p.instr ≡ i → (front others : List Placed) → placed_by i ≡ front ++ others → (pos : Pos) (name : PlaceName) (qs : List (List Sel))
        → Knows Excused pos name (length front) (after (acts front) facts_now) qs
    knows = here.knows table typed effects input ready inner exact_before

    abbrev fine_here : IsFine s inner.named.sub.result inner.p.instr
    fine_here = here.fine_here table typed effects input ready inner exact_before

    abbrev leaks_there : IsNoCall inner.p.instr → leaks_of (frame_by s) inner.p.pos inner.p.instr ≡ leaks_of (frame_by own) inner.p.pos inner.p.instr
    leaks_there = here.leaks_there table typed effects input ready inner exact_before

    -- ---- an instruction that isn't the end of a scope

    module _ (going : (x : ℕ) → inner.p.instr ≡ EndScope x → ⊥) (no_calls : IsNoCall inner.p.instr) where
      abbrev pub ExactAt : List Fact → List LeakSpot → Outcome → Type 0
      ExactAt facts spots outcome = ExactOn easy sees seeing ready.accepted.settled ready.owns other alone in_formals inner.views ready.class.parts_named none_taken refl refl elsewhere away Excused facts spots outcome

      abbrev Exacts : Instruction → Type 0
      Exacts i = ExactAt (after (acts_by i) facts_now) (spots_by i) (turn at i)

      pub good : Plainly → IsGood easy sees seeing ready.accepted.settled ready.owns other alone inner.views ready.class.parts_named none_taken refl refl inner.views facts_now easy.state
      good plain = record {
        viewed = (viewed_easy plain.0).0;
        kept = (viewed_easy plain.0).1;
        holds = all_held s sees in_formals depth inner.views inner.state.memory (λ x n view bare e. inner.holds.held x n (λ fading. going fading.0 fading.1) view bare e) inner.holds.only inner.holds.owners inner.holds.own inner.holds.taken inner.holds.parts;
      }

      abbrev eased_on : (facts : List Fact) (spots : List LeakSpot) {A : Type 0} (y : Evaluated A) (f g : A → Memory → Outcome)
          → ((a : A) (m : Memory) → ExactAt facts spots (f a m) → ExactAt facts spots (g a m))
          → ExactAt facts spots (steps.evaluated easy y f) → ExactAt facts spots (steps.evaluated at y g)
      eased_on = turning.eased_on table typed effects input ready inner exact_before going no_calls

      -- no trap, and exact
      abbrev NoTrap : Outcome → Type 0
      NoTrap (Goes t) = Unit {0}
      NoTrap (Ends e t) = IsTrap e → ⊥

      no_trap : (facts : List Fact) (o : Outcome) → Leads_on easy sees seeing ready.accepted.settled ready.owns other alone inner.views ready.class.parts_named none_taken refl refl facts o → NoTrap o
      no_trap facts (Goes t) leads = tt
      no_trap facts (Ends e t) leads = leads.0

      abbrev Both : Instruction → Outcome → Type 0
      Both i outcome = NoTrap outcome × ExactAt (after (acts_by i) facts_now) (spots_by i) outcome

      raising : (i : Instruction) (e : Exception) (m : Memory) → Both i (steps.raised at e m)
      raising i e m = ((λ trap. trap), none_made Excused (spots_by i))

      -- where nothing is taken, the step is like it is
      module _ (nothing : taken at.point.instr ≡ 0) where
        good_there : IsGood at sees seeing ready.accepted.settled ready.owns other alone inner.views ready.class.parts_named none_taken inner.frames nothing inner.views facts_now inner.state
        good_there = record { viewed = viewed; kept = inner.kept; holds = all_held s sees in_formals depth inner.views inner.state.memory (λ x n view bare e. inner.holds.held x n (λ fading. going fading.0 fading.1) view bare e) inner.holds.only inner.holds.owners inner.holds.own inner.holds.taken inner.holds.parts }

        writes_line : (line : Bool) → Exacts (Output NoMore line)
        unfolding acts_in
        writes_line line =
            line_exact at sees seeing ready.accepted.settled ready.owns other alone in_formals inner.views ready.class.parts_named none_taken inner.frames nothing elsewhere away Excused line facts_now exact

        turns : (x : ℕ) (reversed : Bool) (low high : TypedTree) → is_scalar (full s.table (object_at s x).of) ≡ true → Exacts (Next x reversed low high)
        turns x reversed low high scalar =
            next_exact at sees seeing ready.accepted.settled ready.owns other alone in_formals inner.views ready.class.parts_named none_taken inner.frames nothing elsewhere away Excused
            x reversed scalar facts_now good_there exact

      skips : Exacts Skip
      skips = skip_exact easy sees seeing ready.accepted.settled ready.owns other alone in_formals inner.views ready.class.parts_named none_taken refl refl elsewhere away Excused facts_now exact

      abbrev declared_main : (facts : List Fact) (x : ℕ) (w : TypedTree)
          → ExactAt facts [] (steps.evaluated easy (steps.first_value at (object_at s x).of w (start at)) (λ vs m. steps.goes easy (declared depth x vs m) 0))
          → ExactAt facts [] (steps.evaluated at (steps.first_value at (object_at s x).of w (start at)) (λ vs m. steps.goes at (declared depth x vs m) 0))
      declared_main = turning.declared_main table typed effects input ready inner exact_before going no_calls

      abbrev assigned_main : (facts : List Fact) (spots : List LeakSpot) (target : TypedTree) (of : ℕ) (e : TypedTree)
          → ExactAt facts spots (steps.evaluated easy (followed_by (steps.taken_by at of e (start at))
          (λ ws now. followed_by (place_of (steps.here at) target now) (λ k now. Done (record { words = ws; place = k }) now)))
          (λ (st : steps.Stored) m. steps.leaking_goes (checks_at s (steps.target_pos at target) m st.place) (steps.goes easy (stored s st.place st.words m) 0)))
          → ExactAt facts spots (steps.evaluated at (followed_by (steps.taken_by at of e (start at))
          (λ ws now. followed_by (place_of (steps.here at) target now) (λ k now. Done (record { words = ws; place = k }) now)))
          (λ (st : steps.Stored) m. steps.leaking_goes (checks_at s (steps.target_pos at target) m st.place) (steps.goes at (stored s st.place st.words m) 0)))
      assigned_main = turning.assigned_main table typed effects input ready inner exact_before going no_calls

      abbrev holds_value : (e : TypedTree) (of : ℕ) → inner.p.instr ≡ Hold (More e NoMore) → inner.named.sub.result ≡ Some of → is_anonymous (full s.table of) ≡ false
          → (IsNamed s.table of → AllowsAll facts_now (acts (acts_in s e)) → AllKeep (is_fixed s sees) (acts (acts_in s e))
          → ExactTo (steps.here at) sees seeing ready.accepted.settled inner.state.leaks [] other alone (keeps s ready.accepted.settled ready.owns) index_law ready.owns inner.views
          ready.class.parts_named elsewhere away (after (acts (acts_in s e)) facts_now) (steps.taken_by at of e (start at)))
          → AllowsAll facts_now (acts_by (Hold (More e NoMore))) → AllKeep (is_fixed s sees) (acts_by (Hold (More e NoMore))) → Exacts (Hold (More e NoMore))
      holds_value = turning.holds_value table typed effects input ready inner exact_before going no_calls

      abbrev returns_view : (e : TypedTree) (of : ℕ) → inner.p.instr ≡ Hold (More e NoMore) → inner.named.sub.result ≡ Some of → Source s of e → is_anonymous (full s.table of) ≡ true
          → Exacts (Hold (More e NoMore))
      returns_view = turning.returns_view table typed effects input ready inner exact_before going no_calls

      -- ---- what a function gave, alone

      module _ (taken_alone : TakesAlone s inner.p) where
        abbrev call : TypedTree
        call = alone_value.call table typed effects input ready inner going taken_alone

        abbrev CallExact : ℕ → Type 0
        CallExact u =
            ExactTo (steps.here at) sees seeing ready.accepted.settled inner.state.leaks [] other alone (keeps s ready.accepted.settled ready.owns) index_law ready.owns inner.views
            ready.class.parts_named elsewhere away facts_now (steps.taken_by at u (CallIn taken_alone.3 taken_alone.4 taken_alone.5) (start at))

        -- the value comes from the frame, and memory is as it was
        call_exact : (u : ℕ) → IsNamed s.table u → CallExact u
        unfolding evaluate
        call_exact u type_there =
            let words : List machine.Word = (alone_value.first_value table typed effects input ready inner going taken_alone).0.words in
            let now : List (List machine.Word) → Now = (λ ws. record { memory = inner.state.memory; waits = ws }) in
            subst (λ b. ExactTo (steps.here at) sees seeing ready.accepted.settled inner.state.leaks [] other alone (keeps s ready.accepted.settled ready.owns) index_law ready.owns inner.views
            ready.class.parts_named elsewhere away facts_now (if b then run.viewed (steps.here at) call (start at) else followed_by (value (steps.here at) call (start at)) (checked (steps.here at) u)))
            (sym (named_plain s.table u type_there))
            (checked_exact (steps.here at) sees seeing ready.accepted.settled inner.state.leaks [] other alone (keeps s ready.accepted.settled ready.owns) index_law ready.owns inner.views
            ready.class.parts_named elsewhere away u facts_now (value (steps.here at) call (start at))
            (subst (λ ws. ExactTo (steps.here at) sees seeing ready.accepted.settled inner.state.leaks [] other alone (keeps s ready.accepted.settled ready.owns) index_law ready.owns inner.views
            ready.class.parts_named elsewhere away facts_now (value (steps.here at) call (now ws))) (sym (alone_value.first_value table typed effects input ready inner going taken_alone).1.3) exact))

        no_name : (r : Pos) (b : ℕ) (w : TypedTree) (o : ℕ) → call ≡ Name r b w o → ⊥
        no_name r b w o e = call_name e

        same_first : (a b : TypedTree) → ◌≡◌ {A = TypedTree} (More a NoMore) (More b NoMore) → a ≡ b
        same_first a b e = more_first e

        declares_view : (y : ℕ) → inner.p.instr ≡ Declare y (More call NoMore) → is_anonymous (view_of s y) ≡ true → Exacts (Declare y (More call NoMore))
        unfolding initial
        declares_view y is view =
            let found = orderly.declared y (More call NoMore) is view in
            let tree_is : call ≡ found.4 = same_first call found.4 found.5 in
            by_either found.6
            (λ name. (absurd (no_name found.0 found.1 found.2 found.3 (tree_is ∙ name))))
            (λ (r, n, others, call_is, gives). (declared_main (after (acts_by (Declare y (More call NoMore))) facts_now) y (More call NoMore)
            (sighted.declared_so table typed effects input ready inner exact_before going no_calls taken_alone y n found.0 r found.2 found.3 others found.1 (tree_is ∙ call_is) gives view (orderly.variables y (inl (inl (More call NoMore, is))) view) (inl (More call NoMore, is)))))

        assigns_view : (k : Pos) (y : ℕ) → inner.p.instr ≡ Assign (Name k y NoMore (object_at s y).of) call → is_anonymous (view_of s y) ≡ true
            → Exacts (Assign (Name k y NoMore (object_at s y).of) call)
        assigns_view k y is view =
            let found = orderly.assigned k y (object_at s y).of call is view in
            let target : TypedTree = Name k y NoMore (object_at s y).of in
            let stored_there : IsStoredAt inner.p.instr y = inr (k, (object_at s y).of, call, is) in
            by_either found.4
            (λ name. (absurd (no_name found.0 found.1 found.2 found.3 name)))
            (λ (r, n, others, call_is, gives). (subst (λ z. ExactAt (after (acts_by (Assign target call)) facts_now) (map (spot k (name_of y NoMore) (length (acts_in s call ++ acts_in s NoMore))) z) (turn at (Assign target call)))
            (sym (view_parts easy sees seeing ready.accepted.settled ready.owns other alone in_formals inner.views ready.class.parts_named none_taken refl refl elsewhere away Excused y view))
            (assigned_main (after (acts_by (Assign target call)) facts_now) [] target (object_at s y).of call
            (sighted.put_so table typed effects input ready inner exact_before going no_calls taken_alone y n found.0 r found.2 found.3 others found.1 call_is gives view (orderly.variables y (inl stored_there) view) stored_there k))))

        declares_owner : (y : ℕ) → inner.p.instr ≡ Declare y (More call NoMore) → is_anonymous (view_of s y) ≡ false → Exacts (Declare y (More call NoMore))
        unfolding acts_in initial
        declares_owner y is owner =
            let type_there = alone_value.named_object table typed effects input ready inner going no_calls taken_alone y is owner in
            let same = alone_value.acts_same table typed effects input ready inner going no_calls taken_alone y is owner in
            declared_main (after (acts_by (Declare y (More call NoMore))) facts_now) y (More call NoMore)
            (subst (λ z. ExactAt (after z facts_now) [] (steps.evaluated easy (steps.first_value at (object_at s y).of (More call NoMore) (start at))
            (λ vs m. steps.goes easy (declared depth y vs m) 0))) (sym same)
            (then_declared easy sees seeing ready.accepted.settled ready.owns other alone in_formals inner.views ready.class.parts_named none_taken refl refl elsewhere away Excused y (orderly.begun y (More call NoMore) is) facts_now (steps.first_value at (object_at s y).of (More call NoMore) (start at))
            (alone_value.source_alone table typed effects input ready inner going taken_alone (object_at s y).of type_there (alone_value.source_here table typed effects input ready inner going no_calls taken_alone y is owner))
            (call_exact (object_at s y).of type_there)
            (each.unmoved_now table typed effects input ready inner going no_calls y (More call NoMore) is, each.free table typed effects input ready inner going no_calls y (More call NoMore) is)))

        declares_alone : (y : ℕ) → inner.p.instr ≡ Declare y (More call NoMore) → Exacts (Declare y (More call NoMore))
        declares_alone y is = by_kind (is_anonymous (view_of s y)) refl
          where
            by_kind : (b : Bool) → is_anonymous (view_of s y) ≡ b → Exacts (Declare y (More call NoMore))
            by_kind true view = declares_view y is view
            by_kind false owner = declares_owner y is owner

        assigns_place : (r : Pos) (y : ℕ) (steps_there : TypedTree) (u : ℕ) → inner.p.instr ≡ Assign (Name r y steps_there u) call → has_call steps_there ≡ false → (inner.p.instr ≡ Finish → ⊥)
            → is_anonymous (full s.table u) ≡ false → Exacts (Assign (Name r y steps_there u) call)
        unfolding acts_in
        assigns_place r y steps_there u is calls end place =
            let target : TypedTree = Name r y steps_there u in
            let type_there = alone_value.named_target table typed effects input ready inner going no_calls taken_alone r y steps_there u is calls end place in
            let leads = alone_value.leads_there table typed effects input ready inner going no_calls taken_alone r y steps_there u is calls end place in
            let a : List Act = acts (acts_in s steps_there) in
            let whole : after (acts_by (Assign target call)) facts_now ≡ effect (act.Write (name_of y steps_there)) (after a facts_now) =
            ap (λ z. after z facts_now) (alone_value.acts_there table typed effects input ready inner going no_calls taken_alone r y steps_there u is calls end place)
            ∙ after_append a (act.Write (name_of y steps_there) ∷ []) facts_now in
            assigned_main (after (acts_by (Assign target call)) facts_now) (spots_by (Assign target call)) target u call
            (subst (λ z. ExactAt z (spots_by (Assign target call)) (steps.evaluated easy (followed_by (steps.taken_by at u call (start at))
            (λ ws now. followed_by (place_of (steps.here at) target now) (λ k now. Done (record { words = ws; place = k }) now)))
            (λ (st : steps.Stored) m. steps.leaking_goes (checks_at s (steps.target_pos at target) m st.place) (steps.goes easy (stored s st.place st.words m) 0)))) (sym whole)
            (then_stored easy sees seeing ready.accepted.settled ready.owns other alone in_formals inner.views ready.class.parts_named none_taken refl refl elsewhere away Excused (name_of y steps_there) u (after a facts_now) (effect (act.Write (name_of y steps_there)) (after a facts_now)) (steps.target_pos at target)
            r (length (acts_in s steps_there))
            (knows (Assign target call) is (acts_in s steps_there) (record { pos = r; act = act.Write (name_of y steps_there) } ∷ [])
            (assigned_acts s inner.p.pos y u target steps_there call type_there leads) r (name_of y steps_there) (parts s.table u))
            (followed_by (steps.taken_by at u call (start at))
            (λ ws now. followed_by (place_of (steps.here at) target now) (λ k now. Done (record { words = ws; place = k }) now)))
            (then_placed (steps.here at) sees seeing ready.accepted.settled inner.state.leaks [] other alone (keeps s ready.accepted.settled ready.owns) index_law ready.owns inner.views
            ready.class.parts_named elsewhere away Excused [] [] r y u steps_there (waiting_in easy.state) facts_now
            (alone_value.plain_root table typed effects input ready inner going no_calls taken_alone r y steps_there u is calls end place) leads (no_takes steps_there calls [])
            (alone_value.allowed_steps table typed effects input ready inner going no_calls taken_alone r y steps_there u is calls end place) (steps.taken_by at u call (start at))
            (alone_value.source_alone table typed effects input ready inner going taken_alone u type_there (alone_value.source_there table typed effects input ready inner going no_calls taken_alone r y steps_there u is calls end place))
            (call_exact u type_there))))

        assigns_alone : (r : Pos) (y : ℕ) (steps_there : TypedTree) (u : ℕ) → inner.p.instr ≡ Assign (Name r y steps_there u) call → has_call steps_there ≡ false → (inner.p.instr ≡ Finish → ⊥)
            → Exacts (Assign (Name r y steps_there u) call)
        assigns_alone r y steps_there u is calls end = by_kind (is_anonymous (full s.table u)) refl
          where
            text_there : IsFine s inner.named.sub.result (Assign (Name r y steps_there u) call)
            text_there = subst (IsFine s inner.named.sub.result) is fine_here

            by_kind : (b : Bool) → is_anonymous (full s.table u) ≡ b → Exacts (Assign (Name r y steps_there u) call)
            by_kind false place = assigns_place r y steps_there u is calls end place
            by_kind true view = by_either (leads_or s ready.class.parts_named steps_there (object_at s y).of u text_there.1.0)
                (λ whole. (
                let target_is : Name r y steps_there u ≡ Name r y NoMore (object_at s y).of = (λ j. Name r y (whole.0 j) (sym whole.1 j)) in
                subst (λ z. Exacts (Assign z call)) (sym target_is)
                (assigns_view r y (is ∙ ap (λ z. Assign z call) target_is) (ap (λ z. is_anonymous (full s.table z)) whole.1 ∙ view))))
                (λ own_type. (absurd (true_false (is_anonymous (full s.table u)) view (named_plain s.table u own_type))))

        returns_alone : (of : ℕ) → inner.p.instr ≡ Hold (More call NoMore) → inner.named.sub.result ≡ Some of → Source s of call
            → AllowsAll facts_now (acts_by (Hold (More call NoMore))) → AllKeep (is_fixed s sees) (acts_by (Hold (More call NoMore))) → Exacts (Hold (More call NoMore))
        unfolding acts_in
        returns_alone of is result source allowed_there keep = by_either (bool_cases (is_anonymous (full s.table of)))
            (λ view. (returns_view call of is result source view))
            (λ owner. (holds_value call of is result owner (λ type_there allows keeps. call_exact of type_there) allowed_there keep))

        -- the value is of what the function returns
        result_there : inner.p.instr ≡ Hold (More call NoMore) → (r : Option ℕ) → inner.named.sub.result ≡ r → Returns s r (More call NoMore)
            → (of : ℕ) × (inner.named.sub.result ≡ Some of) × Source s of call
        result_there is None result none = absurd (more_none none)
        result_there is (Some of) result (e, same, source) = (of, result, subst (Source s of) (sym (same_first call e same)) source)

        alone_exact : (inner.p.instr ≡ Finish → ⊥) → AllowsAll facts_now (acts_by inner.p.instr) → AllKeep (is_fixed s sees) (acts_by inner.p.instr) → Exacts inner.p.instr
        alone_exact end allowed_there keep = elim taken_alone.8 [
          | inl (y, is) ↦ subst Exacts (sym is) (declares_alone y is)
          | inr (inl (r, y, steps_there, u, is, calls)) ↦ subst Exacts (sym is) (assigns_alone r y steps_there u is calls end)
          | inr (inr is) ↦ (
              let result = result_there is inner.named.sub.result refl (subst (IsFine s inner.named.sub.result) is fine_here) in
              subst Exacts (sym is)
              (returns_alone result.0 is result.1 result.2 (subst (λ i. AllowsAll facts_now (acts_by i)) is allowed_there) (subst (λ i. AllKeep (is_fixed s sees) (acts_by i)) is keep)))
        ]

      -- ---- what is taken is scalar

      module _ (plain : Plainly) where
        value_taken : (e : TypedTree) → Stays s e → Takes (waits_in e) given_words [] → AllowsAll facts_now (acts (acts_in s e))
            → (f : List machine.Word → Memory → Outcome) → ((ws : List machine.Word) → ExactAt facts_now [] (f ws inner.state.memory))
            → ExactAt (after (acts (acts_in s e)) facts_now) [] (steps.evaluated at (value (steps.here at) e (start at)) f)
        value_taken e stays takes allowed_there f next =
            eased_on (after (acts (acts_in s e)) facts_now) [] (value (steps.here at) e (start at)) f f (λ ws m on. on)
            (value_on easy sees seeing ready.accepted.settled ready.owns other alone in_formals inner.views ready.class.parts_named none_taken refl refl elsewhere away Excused given_words e stays takes facts_now (good plain) allowed_there exact f next)

        -- ---- declarations

        declares : (x : ℕ) (v : TypedTree) → inner.p.instr ≡ Declare x v → FirstSource s (object_at s x).of v
            → AllowsAll facts_now (acts_by (Declare x v)) → AllKeep (is_fixed s sees) (acts_by (Declare x v)) → Exacts (Declare x v)
        unfolding waits_in
        declares x v e text allowed_there keep = by_view (is_anonymous (view_of s x)) refl
          where
            after_it : (name : PlaceName) → Has (after (acts_by (Declare x v)) facts_now) (Moved name) → name.root ≡ x → depth ≡ home s depth x → ⊥
            after_it name has root at_home =
                by_either (after_splits (acts_by (Declare x v)) facts_now own_facts around (innermost.from_both table typed effects input ready inner) (Moved name) has)
                (λ mine. (packages.new_after table typed effects input ready inner.state inner.top older outer inner.named inner.p inner.frames inner.of_sub inner.at_point inner.path x v e no_calls name
                (subst (λ i. Has (after (acts_by i) own_facts) (Moved name)) (sym e) mine) root))
                (λ there. (absurd (innermost.not_handed table typed effects input ready inner name there)))

            from_source : (q : Pos) (y u : ℕ) (path_of : TypedTree) → v ≡ More (Name q y path_of u) NoMore → is_anonymous (view_of s x) ≡ true → Exacts (Declare x v)
            from_source q y u path_of here_is view =
                let text_there : FirstSource s (object_at s x).of (More (Name q y path_of u) NoMore) = subst (FirstSource s (object_at s x).of) here_is text in
                let takes : Takes (waits_in path_of) given_words [] =
                takes_as (taken (Declare x (More (Name q y path_of u) NoMore))) (waits_in path_of) given_words [] (nothing_more (waits_in path_of))
                (subst (λ z. Takes (taken (Declare x z)) given_words []) here_is (takes_of plain.0 (Declare x v) e)) in
                subst (λ z. Exacts (Declare x z)) (sym here_is)
                (declared_main (after (acts_by (Declare x (More (Name q y path_of u) NoMore))) facts_now) x (More (Name q y path_of u) NoMore)
                (view_declared_on easy sees seeing ready.accepted.settled ready.owns other alone in_formals inner.views ready.class.parts_named none_taken refl refl elsewhere away Excused given_words q x y u path_of view (orderly.variables x (inl (inl (v, e))) view) (home_frame x (local x (anonymous_view s x view))) text_there.1 takes facts_now (good plain)
                (subst (λ z. AllowsAll facts_now (acts_by (Declare x z))) here_is allowed_there) exact))

            by_view : (b : Bool) → is_anonymous (view_of s x) ≡ b → Exacts (Declare x v)
            by_view true view =
                let source = orderly.declared x v e view in
                by_either source.6
                (λ is. (from_source source.0 source.1 source.3 source.2 (source.5 ∙ ap (λ z. More z NoMore) is) view))
                (λ (r, n, more, is, gives). (absurd (gives_no_call s r n (object_at s x).of (More (Name source.0 source.1 source.2 source.3) more) gives
                (first_plain s (CallIn r n (More (Name source.0 source.1 source.2 source.3) more))
                (subst (GivesPlainly s) (source.5 ∙ ap (λ z. More z NoMore) is) (subst (TakesScalars s) e plain.1))))))
            by_view false owner =
                declared_main (after (acts_by (Declare x v)) facts_now) x v
                (declare_on easy sees seeing ready.accepted.settled ready.owns other alone in_formals inner.views ready.class.parts_named none_taken refl refl elsewhere away Excused given_words x v (plain_named s.table (object_at s x).of owner) (orderly.begun x v e) text
                (subst (TakesScalars s) e plain.1) (takes_of plain.0 (Declare x v) e) facts_now (good plain) allowed_there keep
                (after_it, each.free table typed effects input ready inner going no_calls x v e) exact)

        -- ---- assignments

        assigns : (target e : TypedTree) → inner.p.instr ≡ Assign target e → IsFine s None (Assign target e)
            → AllowsAll facts_now (acts_by (Assign target e)) → AllKeep (is_fixed s sees) (acts_by (Assign target e)) → Exacts (Assign target e)
        unfolding waits_in
        assigns (Name q x steps u) e is (v, (leads, type), source) allowed_there keep =
            by_view (subst (λ z. Source s z e) (sym type) source) (is_anonymous (full s.table u)) refl
          where
            front : List Placed
            front = acts_in s e ++ acts_in s steps

            to_view : Source s (object_at s x).of e → is_anonymous (view_of s x) ≡ true → inner.p.instr ≡ Assign (Name q x NoMore (object_at s x).of) e
                → AllowsAll facts_now (acts_by (Assign (Name q x NoMore (object_at s x).of) e)) → Exacts (Assign (Name q x NoMore (object_at s x).of) e)
            to_view source view instr_is allowed_here =
                let found = orderly.assigned q x (object_at s x).of e instr_is view in
                by_either found.4
                (λ named_so. (from_name found.0 found.1 found.3 found.2 named_so found.6))
                (λ (r, n, more, call_is, gives). (absurd (gives_no_call s r n (object_at s x).of (More (Name found.0 found.1 found.2 found.3) more) gives
                (subst (GivesPlainly s) call_is (subst (TakesScalars s) instr_is plain.1)))))
              where
                from_name : (r : Pos) (y w : ℕ) (path_of : TypedTree) → e ≡ Name r y path_of w → (is_observer s x ≡ false → y ≡ x)
                    → Exacts (Assign (Name q x NoMore (object_at s x).of) e)
                from_name r y w path_of here_is itself =
                    let of : ℕ = (object_at s x).of in
                    let takes : Takes (waits_in path_of) given_words [] =
                    takes_as (taken (Assign (Name q x NoMore of) (Name r y path_of w))) (waits_in path_of) given_words [] (nothing_more (waits_in path_of))
                    (subst (λ z. Takes (taken (Assign (Name q x NoMore of) z)) given_words []) here_is (takes_of plain.0 (Assign (Name q x NoMore of) e) instr_is)) in
                    subst (λ z. Exacts (Assign (Name q x NoMore (object_at s x).of) z)) (sym here_is)
                    (subst (λ z. ExactAt (after (acts_by (Assign (Name q x NoMore (object_at s x).of) (Name r y path_of w))) facts_now)
                    (map (spot q (name_of x NoMore) (length (acts_in s (Name r y path_of w) ++ acts_in s NoMore))) z)
                    (turn at (Assign (Name q x NoMore (object_at s x).of) (Name r y path_of w)))) (sym (view_parts easy sees seeing ready.accepted.settled ready.owns other alone in_formals inner.views ready.class.parts_named none_taken refl refl elsewhere away Excused x view))
                    (assigned_main (after (acts_by (Assign (Name q x NoMore of) (Name r y path_of w))) facts_now) [] (Name q x NoMore of) of (Name r y path_of w)
                    (view_assigned_on easy sees seeing ready.accepted.settled ready.owns other alone in_formals inner.views ready.class.parts_named none_taken refl refl elsewhere away Excused given_words inner.p.pos q r x y w path_of view (orderly.variables x (inl (inr (q, (object_at s x).of, e, instr_is))) view) (home_frame x (local x (anonymous_view s x view)))
                    (subst (Source s (object_at s x).of) here_is source) takes itself facts_now (good plain)
                    (subst (λ z. AllowsAll facts_now (acts_by (Assign (Name q x NoMore (object_at s x).of) z))) here_is allowed_here) exact)))

            by_view : Source s u e → (b : Bool) → is_anonymous (full s.table u) ≡ b → Exacts (Assign (Name q x steps u) e)
            by_view source (false) owner = by_either source
                (λ view. (absurd (true_false (is_anonymous (full s.table u)) view.0 owner)))
                (λ gives. (
                let own_type : IsNamed s.table u = plain_named s.table u owner in
                let same_acts = assigned_acts s inner.p.pos x u (Name q x steps u) steps e own_type leads in
                let two = takes_both (waits_in e) (waits_in steps) given_words [] (takes_of plain.0 (Assign (Name q x steps u) e) is) in
                subst (λ z. ExactAt (after (acts z) facts_now) (spots_by (Assign (Name q x steps u) e)) (turn at (Assign (Name q x steps u) e))) (sym same_acts)
                (assigned_main (after (acts (stored_acts s (Name q x steps u) e)) facts_now) (spots_by (Assign (Name q x steps u) e)) (Name q x steps u) u e
                (assign_on easy sees seeing ready.accepted.settled ready.owns other alone in_formals inner.views ready.class.parts_named none_taken refl refl elsewhere away Excused given_words two.0 q x u steps e own_type gives leads
                (subst (TakesScalars s) is plain.1) two.1 two.2 facts_now (good plain)
                (subst (λ z. AllowsAll facts_now (acts z)) same_acts allowed_there) (subst (λ z. AllKeep (is_fixed s sees) (acts z)) same_acts keep) exact (length front)
                (knows (Assign (Name q x steps u) e) is front (record { pos = q; act = act.Write (name_of x steps) } ∷ []) same_acts q (name_of x steps) (parts s.table u))))))
            by_view source true view = by_either (leads_or s ready.class.parts_named steps (object_at s x).of u leads)
                (λ whole. (
                let target_is : Name q x steps u ≡ Name q x NoMore (object_at s x).of = (λ j. Name q x (whole.0 j) (sym whole.1 j)) in
                subst (λ z. Exacts (Assign z e)) (sym target_is)
                (to_view (subst (λ z. Source s z e) (sym whole.1) source) (ap (λ z. is_anonymous (full s.table z)) whole.1 ∙ view)
                (is ∙ ap (λ z. Assign z e) target_is) (subst (λ z. AllowsAll facts_now (acts_by (Assign z e))) target_is allowed_there))))
                (λ own_type. (absurd (true_false (is_anonymous (full s.table u)) view (named_plain s.table u own_type))))
        assigns target e is (v, never, source) allowed_there keep = absurd never

        -- ---- other instructions

        writes : (text : TypedTree) (line : Bool) → inner.p.instr ≡ Output text line → FirstWrites s text
            → AllowsAll facts_now (acts_by (Output text line)) → Exacts (Output text line)
        unfolding acts_in waits_in
        writes (More e last) line is (none, text) allowed_there =
            eased_on (after (acts_by (Output (More e last) line)) facts_now) [] (text_of (steps.here at) e (start at))
            (λ bytes m. Goes (record (behind easy (waiting easy) m 0) { output = inner.state.output ++ bytes ++ (if line then 10 ∷ [] else []) }))
            (λ bytes m. Goes (record (behind at (waiting at) m 0) { output = inner.state.output ++ bytes ++ (if line then 10 ∷ [] else []) }))
            (λ bytes m on. on)
            (output_on easy sees seeing ready.accepted.settled ready.owns other alone in_formals inner.views ready.class.parts_named none_taken refl refl elsewhere away Excused given_words e last line none text
            (takes_as (taken (Output (More e last) line)) (waits_in e) given_words [] (ap (λ z. waits_in e + waits_in z) none ∙ nothing_more (waits_in e))
            (takes_of plain.0 (Output (More e last) line) is))
            facts_now (good plain) allowed_there exact)
        writes NoMore line is text allowed_there = writes_line (innermost.none_takes table typed effects input ready inner (Output NoMore line) is refl) line
        writes other_text line is never allowed_there = absurd never

        abbrev gets_here : Place → Memory → Outcome
        gets_here k m = got_with easy k (next_item input inner.state.at) m

        gets_so : Gets easy sees seeing ready.accepted.settled ready.owns other alone in_formals inner.views ready.class.parts_named none_taken refl refl gets_here
        gets_so = record {
          at_missing = λ k m next. rw next refl;
          at_bad = λ k m next. rw next refl;
          at_number = λ k m v end next fits. rw (next, fits) refl;
          at_outside = λ k m v end next out. rw (next, out) refl;
        }

        reads : (target : TypedTree) → inner.p.instr ≡ Input target → IsFine s None (Input target)
            → AllowsAll facts_now (acts_by (Input target)) → Exacts (Input target)
        unfolding waits_in
        reads (Name q x path_of u) is (v, (leads, type), scalar) allowed_there =
            let target : TypedTree = Name q x path_of u in
            let scalar_there : is_scalar (full s.table u) ≡ true = subst (λ z. is_scalar (full s.table z) ≡ true) (sym type) scalar in
            (input_eased at (Both (Input target)) (raising (Input target)) (λ trap m on. on.0 tt) target (
              no_trap _ _ (sound_got_on easy sees seeing ready.accepted.settled ready.owns other alone in_formals inner.views ready.class.parts_named none_taken refl refl given_words
                  gets_here q x u path_of gets_so scalar_there leads (takes_of plain.0 (Input target) is) (orderly.read q x u path_of is) facts_now (good plain) allowed_there),
              got_on easy sees seeing ready.accepted.settled ready.owns other alone in_formals inner.views ready.class.parts_named none_taken refl refl elsewhere away Excused given_words
                  gets_here q x u path_of gets_so scalar_there leads (takes_of plain.0 (Input target) is) (orderly.read q x u path_of is) facts_now (good plain) allowed_there exact,
            )).1
        reads target is (v, never, scalar) allowed_there = absurd never

        abbrev frees_here : Pos → Place → Memory → Outcome
        frees_here q k m = released_with easy q k (words_of s m k) m

        frees_so : (q : Pos) → Releases easy sees seeing ready.accepted.settled ready.owns other alone in_formals inner.views ready.class.parts_named none_taken refl refl (frees_here q) q
        frees_so q = record {
          at_null = λ k m is. rw is refl;
          at_whole = λ k m v is. rw is refl;
          at_listed = λ k m v is. rw is refl;
          at_cell = λ k m n is alive. rw (is, alive) refl;
        }

        releases : (target : TypedTree) → inner.p.instr ≡ Release target → IsFine s None (Release target)
            → AllowsAll facts_now (acts_by (Release target)) → AllKeep (is_fixed s sees) (acts_by (Release target)) → Exacts (Release target)
        unfolding waits_in
        releases (Name q x path_of u) is (v, d, (leads, type), access) allowed_there keep =
            let target : TypedTree = Name q x path_of u in
            let access_there : shape_of s.table u ≡ shape.Access d false true = subst (λ z. shape_of s.table z ≡ shape.Access d false true) (sym type) access in
            (release_eased at (Both (Release target)) (raising (Release target)) (λ trap m on. on.0 tt) q x u path_of (
              no_trap _ _ (sound_released_on easy sees seeing ready.accepted.settled ready.owns other alone in_formals inner.views ready.class.parts_named none_taken refl refl given_words
                  (frees_here q) q q x u d path_of (frees_so q) access_there leads (takes_of plain.0 (Release target) is) (last_kept (acts_in s path_of) keep) facts_now (good plain) allowed_there),
              released_on easy sees seeing ready.accepted.settled ready.owns other alone in_formals inner.views ready.class.parts_named none_taken refl refl elsewhere away Excused given_words
                  (frees_here q) q q x u d path_of (frees_so q) access_there leads (takes_of plain.0 (Release target) is) (last_kept (acts_in s path_of) keep) facts_now (good plain) allowed_there exact
                  q (length (acts_in s path_of))
                  (knows (Release target) is (acts_in s path_of) (record { pos = q; act = act.Free (name_of x path_of) } ∷ []) refl
                  q (extend (name_of x path_of) (sel.Deref ∷ [])) (parts s.table (designated s.table u))),
            )).1
          where
            last_kept : (before : List Placed) → AllKeep (is_fixed s sees) (acts (before ++ record { pos = q; act = act.Free (name_of x path_of) } ∷ [])) → is_fixed s sees (name_of x path_of) ≡ false
            last_kept before keep =
                (keep_both (is_fixed s sees) (acts before) (act.Free (name_of x path_of) ∷ [])
                (subst (AllKeep (is_fixed s sees)) (acts_append before (record { pos = q; act = act.Free (name_of x path_of) } ∷ [])) keep)).1.0
        releases target is (v, d, never, access) allowed_there keep = absurd never

        chosen_exact : (b : Bool) (k : ℕ) → ExactAt facts_now [] (if b then steps.goes at inner.state.memory k else steps.raised at ConstraintError inner.state.memory)
        chosen_exact true k = (exact, tt)
        chosen_exact false k = tt

        chooses : (e : TypedTree) (choices : List TypedCode) → inner.p.instr ≡ Choose e choices → Stays s e
            → AllowsAll facts_now (acts_by (Choose e choices)) → Exacts (Choose e choices)
        chooses e choices is stays allowed_there =
            value_taken e stays (takes_of plain.0 (Choose e choices) is) allowed_there (λ ws m. steps.chosen at (length choices) (steps.choice choices ws) m)
            (λ ws. chosen_exact (nat_lt (steps.choice choices ws) (length choices)) (steps.choice choices ws))

        leaves : (e : TypedTree) → inner.p.instr ≡ LeaveLoop e → FirstStays s e → AllowsAll facts_now (acts_by (LeaveLoop e)) → Exacts (LeaveLoop e)
        unfolding acts_in waits_in
        leaves (More e last) is (none, stays) allowed_there =
            let same : acts_in s e ++ acts_in s last ≡ acts_in s e = ap (λ z. acts_in s e ++ acts_in s z) none ∙ append-nil (acts_in s e) in
            subst (λ z. ExactAt (after (acts z) facts_now) [] (turn at (LeaveLoop (More e last)))) (sym same)
            (value_taken e stays
            (takes_as (taken (LeaveLoop (More e last))) (waits_in e) given_words [] (ap (λ z. waits_in e + waits_in z) none ∙ nothing_more (waits_in e))
            (takes_of plain.0 (LeaveLoop (More e last)) is))
            (subst (λ z. AllowsAll facts_now (acts z)) same allowed_there) (λ ws m. steps.goes at m (if run.is_true ws then 0 else 1)) (λ ws. (exact, tt)))
        leaves NoMore is text allowed_there = skips
        leaves e is never allowed_there = absurd never

        abbrev starts_here : ℕ → steps.Bounds → Memory → Outcome
        starts_here x b m = started_with easy x b m

        starts_so : (x : ℕ) → Starts easy sees seeing ready.accepted.settled ready.owns other alone in_formals inner.views ready.class.parts_named none_taken refl refl x (starts_here x)
        starts_so x = record {
          fails = λ b. int_le (steps.number b.low) (steps.number b.high)
              && not (fits_type s.table (object_at s x).of b.low && fits_type s.table (object_at s x).of b.high);
          loop = λ b. record { parameter = x; low = steps.number b.low; high = steps.number b.high; first = true };
          at_fault = λ b m e. rw e refl;
          at_turn = λ b m e. rw e refl;
        }

        starts : (x : ℕ) (reversed : Bool) (low high : TypedTree) → inner.p.instr ≡ Start x reversed low high → is_scalar (full s.table (object_at s x).of) ≡ true
            → Stays s low → Stays s high → AllowsAll facts_now (acts_by (Start x reversed low high)) → Exacts (Start x reversed low high)
        starts x reversed low high is scalar stays stays' allowed_there =
            let two = takes_both (waits_in low) (waits_in high) given_words [] (takes_of plain.0 (Start x reversed low high) is) in
            (start_eased at (Both (Start x reversed low high)) (raising (Start x reversed low high)) (λ trap m on. on.0 tt) x low high (
              no_trap _ _ (sound_started_on easy sees seeing ready.accepted.settled ready.owns other alone in_formals inner.views ready.class.parts_named none_taken refl refl given_words two.0
                  x (starts_here x) low high (starts_so x) scalar stays stays' two.1 two.2 facts_now (good plain) allowed_there),
              started_on easy sees seeing ready.accepted.settled ready.owns other alone in_formals inner.views ready.class.parts_named none_taken refl refl elsewhere away Excused given_words two.0
                  x (starts_here x) low high (starts_so x) scalar stays stays' two.1 two.2 facts_now (good plain) allowed_there exact,
            )).1

        operates : (temporary : ℕ) (e : TypedTree) (op : Option ShortCircuit) → inner.p.instr ≡ Evaluate temporary e op → Stays s e
            → AllowsAll facts_now (acts_by (Evaluate temporary e op)) → Exacts (Evaluate temporary e op)
        operates temporary e (Some o) is stays allowed_there =
            value_taken e stays (takes_of plain.0 (Evaluate temporary e (Some o)) is) allowed_there
            (λ ws m. Goes (behind at (steps.truth_waiting ws ∷ waiting at) m (if run.decides o ws then 1 else 0))) (λ ws. (exact, tt))
        operates temporary e None is stays allowed_there =
            value_taken e stays (takes_of plain.0 (Evaluate temporary e None) is) allowed_there
            (λ ws m. Goes (behind at (steps.truth_waiting ws ∷ drop 1 (waiting at)) m 0)) (λ ws. (exact, tt))

        -- a return with a value, and one without
        holds_plain : (e : TypedTree) (of : ℕ) → inner.p.instr ≡ Hold (More e NoMore) → inner.named.sub.result ≡ Some of → Source s of e
            → AllowsAll facts_now (acts_by (Hold (More e NoMore))) → AllKeep (is_fixed s sees) (acts_by (Hold (More e NoMore))) → Exacts (Hold (More e NoMore))
        unfolding GivesPlainly waits_in
        holds_plain e of is result source allowed_there keep = by_either (bool_cases (is_anonymous (full s.table of)))
            (λ view. (returns_view e of is result source view))
            (λ owner. (holds_value e of is result owner (λ type_there allows keeps.
            source_exact easy sees seeing ready.accepted.settled ready.owns other alone in_formals inner.views ready.class.parts_named none_taken refl refl elsewhere away Excused given_words of e type_there source (subst (TakesScalars s) is plain.1).0
            (takes_as (taken (Hold (More e NoMore))) (waits_in e) given_words [] (nothing_more (waits_in e)) (takes_of plain.0 (Hold (More e NoMore)) is))
            facts_now (good plain) allows keeps exact) allowed_there keep))

        returns : (v : TypedTree) (r : Option ℕ) → inner.p.instr ≡ Hold v → inner.named.sub.result ≡ r → Returns s r v → AllowsAll facts_now (acts_by (Hold v))
            → AllKeep (is_fixed s sees) (acts_by (Hold v)) → Exacts (Hold v)
        unfolding acts_in waits_in
        returns v None is result none allowed_there keep =
            subst (λ z. Exacts (Hold z)) (sym none)
            (subst (λ z. ExactAt z [] (turn at (Hold NoMore))) (sym (ap (λ r. after (acts (flow.returned_acts s r NoMore)) facts_now) result)) skips)
        returns v (Some of) is result (e, same, source) allowed_there keep =
            subst (λ z. Exacts (Hold z)) (sym same)
            (holds_plain e of (is ∙ ap Hold same) result source (subst (λ z. AllowsAll facts_now (acts_by (Hold z))) same allowed_there)
            (subst (λ z. AllKeep (is_fixed s sees) (acts_by (Hold z))) same keep))

        each_instruction : (i : Instruction) → inner.p.instr ≡ i → (i ≡ Finish → ⊥) → IsFine s inner.named.sub.result i → AllowsAll facts_now (acts_by i)
            → AllKeep (is_fixed s sees) (acts_by i) → Exacts i
        each_instruction Skip is end text allowed_there keep = skips
        each_instruction (Declare x v) is end text allowed_there keep = declares x v is text allowed_there keep
        each_instruction (Assign target e) is end text allowed_there keep = assigns target e is text allowed_there keep
        each_instruction (Call n actuals result) is end text allowed_there keep = absurd (no_calls n actuals result is)
        each_instruction (Output text line) is end writing allowed_there keep = writes text line is writing allowed_there
        each_instruction (Input target) is end text allowed_there keep = reads target is text allowed_there
        each_instruction (Release e) is end text allowed_there keep = releases e is text allowed_there keep
        each_instruction (Test e) is end stays allowed_there keep =
            value_taken e stays (takes_of plain.0 (Test e) is) allowed_there (λ ws m. steps.goes at m (if run.is_true ws then 0 else 1)) (λ ws. (exact, tt))
        each_instruction (Choose e choices) is end stays allowed_there keep = chooses e choices is stays allowed_there
        each_instruction (Start x reversed low high) is end (scalar, stays, stays') allowed_there keep = starts x reversed low high is scalar stays stays' allowed_there
        each_instruction (Next x reversed low high) is end scalar allowed_there keep =
            turns (innermost.none_takes table typed effects input ready inner (Next x reversed low high) is refl) x reversed low high scalar
        each_instruction (Evaluate temporary e op) is end stays allowed_there keep = operates temporary e op is stays allowed_there
        each_instruction (LeaveLoop e) is end text allowed_there keep = leaves e is text allowed_there
        each_instruction (Hold v) is end text allowed_there keep = returns v inner.named.sub.result is refl text allowed_there keep
        each_instruction (EndScope x) is end text allowed_there keep = absurd (going x is)
        each_instruction Finish is end text allowed_there keep = absurd (end refl)
        each_instruction Fall is end text allowed_there keep = tt

      pub allowed_there : (inner.p.instr ≡ Finish → ⊥) → AllowsAll facts_now (acts_by inner.p.instr)
      allowed_there end = innermost.allowed_now table typed effects input ready inner (each.spares table typed effects input ready inner going no_calls end) (standing.allowed table typed effects input ready inner.state inner.top older outer inner.named inner.p inner.frames inner.of_sub inner.at_point inner.path no_calls)

      instruction_exact : (inner.p.instr ≡ Finish → ⊥) → Exacts inner.p.instr
      instruction_exact end = elim (innermost.taken_there table typed effects input ready inner no_calls) [
        | inl plain ↦ each_instruction plain inner.p.instr refl end fine_here (allowed_there end) (standing.keeps_there table typed effects input ready inner.state inner.top older outer inner.named inner.p inner.frames inner.of_sub inner.at_point)
        | inr (inl taken_alone) ↦ alone_exact taken_alone end (allowed_there end) (standing.keeps_there table typed effects input ready inner.state inner.top older outer inner.named inner.p inner.frames inner.of_sub inner.at_point)
        | inr (inr taken_within) ↦ within_value.within_exact table typed effects input ready inner exact_before going no_calls taken_within end (allowed_there end)
            (standing.keeps_there table typed effects input ready inner.state inner.top older outer inner.named inner.p inner.frames inner.of_sub inner.at_point)
      ]

      -- Where the step goes on, facts are exact after its acts; and of the leak checks of the point none fails that is excused.
      pub main_exact : (inner.p.instr ≡ Finish → ⊥) → ExactAt (after (acts_by inner.p.instr) facts_now) at.point.leaks (step program input inner.state)
      main_exact end =
          subst (λ z. ExactAt (after (acts_by inner.p.instr) facts_now) z (step program input inner.state)) (leaks_there no_calls)
          (subst (ExactAt (after (acts_by inner.p.instr) facts_now) (spots_by inner.p.instr)) (sym (standing.step_is table typed effects input ready inner.state inner.top older outer inner.named inner.p inner.frames inner.of_sub inner.at_point))
          (instruction_exact end))

      pub checks_hold : (inner.p.instr ≡ Finish → ⊥) → NoneFails Excused at.point.leaks (checks_of (step program input inner.state))
      checks_hold end = its_checks (step program input inner.state) (main_exact end)
        where
          its_checks : (outcome : Outcome) → ExactAt (after (acts_by inner.p.instr) facts_now) at.point.leaks outcome → NoneFails Excused at.point.leaks (checks_of outcome)
          its_checks (Goes after_step) on = on.1
          its_checks (Ends how after_step) on = on
