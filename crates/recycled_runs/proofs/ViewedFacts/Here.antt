-- The innermost frame at a point, in a sound state whose facts are exact: what it knows with the frames around it, and
-- what all frames have after its step.
use Rattle.soundness.specs.ViewedSoundness.Holds.{is_view}
use Rattle.std.proofs.Common.{◌≡◌, refl, sym, ap, ◌∙◌, subst, inl, inr, ℕ, suc, true, false, List, [], ◌∷◌, ◌++◌, map, drop, length, append_assoc, Some, take, Bool}
use Rattle.machine.specs.spark_base.Lists.{Has}
use Rattle.machine.specs.spark_base.declared.position.Pos.{Pos}
use Rattle.soundness.proofs.Lists.{Has-append_left}
use Rattle.machine.specs.place_names.declared.selector.Sel.{Sel}
use Rattle.machine.specs.place_names.declared.act.Act.{Act}
use Rattle.machine.specs.place_names.declared.act.Placed.{Placed}
use Rattle.machine.specs.place_names.declared.fact.Fact.{Fact}
use Rattle.machine.specs.place_names.declared.fact.Fact.TheVariants.{Moved}
use Rattle.machine.specs.place_names.Names.{Name as PlaceName, extend}
use Rattle.machine.specs.type_definitions.Types.{Table}
use Rattle.machine.specs.typed_tree.Programs.{TypedProgram}
use Rattle.machine.specs.flow_paths.declared.report.Effects.{Effects}
use Rattle.machine.specs.flow_paths.declared.point.LeakSpot.{LeakSpot}
use Rattle.machine.specs.flow_paths.Instructions.{Instruction}
use Rattle.machine.specs.flow_paths.Objects.{Typing, is_package_object}
use Rattle.machine.specs.flow_paths.Acts as flow
use Rattle.machine.specs.flow_paths.Acts.{leaks_of, spot}
use Rattle.machine.specs.flow_paths.Laid.{FlowProgram, number_in, flow_sub, typing_of, flow_typing, flow_program}
use Rattle.machine.specs.flow_paths.Paths.{PathPoint, path_point, facts_before}
use Rattle.machine.specs.flow_paths.Effects.{path_points, called_acts}
use Rattle.machine.specs.flow_paths.LeakPlan.{IsExcused}
use Rattle.machine.specs.flow_paths.Scopes.{taken}
use Rattle.machine.specs.Memory.{Memory}
use Rattle.machine.specs.Words as machine
use Rattle.machine.specs.States.{Frame}
use Rattle.machine.specs.Step.{Turn, start}
use Rattle.machine.specs.Owners.{waiting_in}
use Rattle.soundness.specs.OwnedWays.Ways.{Way, Told, after}
use Rattle.soundness.specs.Seen.{home, seen, IsNear}
use Rattle.soundness.specs.Typed.{Kept}
use Rattle.soundness.specs.Sound.{Stage, facts_of, IsNoCall, IsAtPoint, view_of as view_here}
use Rattle.soundness.specs.TypedLaws.Needed.{IsFine}
use Rattle.soundness.proofs.Scalars.{acts}
use Rattle.soundness.proofs.Points.{path_there}
use Rattle.soundness.proofs.Taking.{Takes}
use Rattle.soundness.proofs.Eased.{eased}
use Rattle.soundness.specs.Ready.{Fills}
use Rattle.soundness.proofs.Around.{IsFar}
use Rattle.soundness.specs.OwnedLoans.Views.{Around, Views, Viewed}
use Rattle.viewed_steps.specs.Sound.{ViewStage, GoneElsewhere}
use Rattle.viewed_steps.specs.Awaited.{AreScalar, temporaries_of, TakesScalars}
use Rattle.viewed_steps.specs.Ready.{AreOrderly, IsReady}
use Rattle.viewed_steps.proofs.Waiting.{StandsBetween, beside_them, handed}
use Rattle.viewed_steps.proofs.Standing as standing
use Rattle.viewed_steps.proofs.Packages as packages
use Rattle.viewed_steps.proofs.Innermost as innermost
use Rattle.soundness.specs.ExactFacts.Exact.{Knows}
use Rattle.soundness.proofs.ExactFacts.Frames.{after_more}
use Rattle.soundness.proofs.ExactFacts.Spots.{excused_knows}
use Rattle.soundness.proofs.ExactFacts.Spots.{leaks_same, object_same}
use Rattle.recycled_runs.specs.ViewedFacts.Exact.{IsDefiniteBy, IsDefiniteOf, IsExact}
use Rattle.recycled_runs.proofs.ViewedFacts.Frames.{elsewhere as moved_elsewhere, IsDefiniteHere, beside_told, apart_told, definite_gone}
use Rattle.viewed_steps.proofs.Views.{AreAccess}
use Rattle.recycled_runs.proofs.ViewedFacts.Steps.{IsAway}
use Rattle.viewed_steps.specs.Seeing.{sees_in}
use Rattle.viewed_steps.proofs.InnerFrame.{InnerFrame}

module _ (table : Table) (typed : TypedProgram) (effects : Effects) (input : List ℕ) (ready : IsReady table typed effects) where
  abbrev sees : ℕ → Bool
  sees = sees_in (flow_program table typed)

  abbrev program : FlowProgram
  program = flow_program table typed

  abbrev s : Typing
  s = flow_typing program

  abbrev own : Typing
  own = typing_of table typed

  abbrev in_formals : AreAccess s
  in_formals = standing.in_formals table typed effects input ready

  abbrev local : (x : ℕ) → is_view s x ≡ true → is_package_object s x ≡ false
  local = standing.local table typed effects input ready

  abbrev unmoved_stage : (e : Stage) → e.frame.sub ≡ 0 → (name : PlaceName) → Has (facts_of program effects e) (Moved name) → ⊥
  unmoved_stage = packages.unmoved_stage table typed effects input ready

  -- a point of a procedure, in a state that is sound and whose facts are exact
  module _ (inner : InnerFrame table typed effects) (exact_before : Told (seen s inner.state.memory [] []) (IsDefiniteOf program effects (record { stage = inner.top; views = inner.views; cells = [] } ∷ (inner.below ∷ inner.more_frames)))) where
    abbrev pub outer : List Frame
    outer = inner.below.stage.frame ∷ inner.rest

    abbrev pub older : List ViewStage
    older = inner.below ∷ inner.more_frames

    abbrev pub depth : ℕ
    depth = suc (length inner.rest)

    abbrev pub between : (g : ViewStage) → Has (inner.below ∷ inner.more_frames) g → StandsBetween table typed effects unmoved_stage local inner.state (suc (length inner.rest)) (inner.below ∷ inner.more_frames) g
    between = innermost.between table typed effects input ready inner

    abbrev pub other : Around (home s (suc (length inner.rest)))
    other = beside_them table typed effects unmoved_stage local inner.state (suc (length inner.rest)) (inner.below ∷ inner.more_frames) between

    abbrev pub alone : (w : Way) → IsNear (suc (length inner.rest)) w → IsFar (suc (length inner.rest)) (GoneElsewhere program effects (inner.below ∷ inner.more_frames)) w → ⊥
    alone = innermost.alone table typed effects input ready inner

    abbrev pub elsewhere : Way → Type 0
    elsewhere = moved_elsewhere table typed effects unmoved_stage local inner.state (suc (length inner.rest)) (inner.below ∷ inner.more_frames) between inner.views (innermost.own_views table typed effects input ready inner)

    abbrev pub own_views : (x : ℕ) (w : Way) → inner.views.way x ≡ Some w → is_package_object s x ≡ false
    own_views = innermost.own_views table typed effects input ready inner

    pub away : (w : Way) → elsewhere w → IsAway s (suc (length inner.rest)) other w
    away w (inl e) = inl (e.0, (e.0, definite_gone table typed effects unmoved_stage local inner.state depth older between inner.views own_views w e.1))
    away w (inr e) = inr (e.0, definite_gone table typed effects unmoved_stage local inner.state depth older between inner.views own_views w e.1)

    abbrev pub at : Turn
    at = standing.t table typed effects input ready inner.state inner.top older outer inner.named inner.p inner.frames inner.of_sub inner.at_point

    abbrev pub points : List PathPoint
    points = path_points program effects (flow_sub own inner.named)

    abbrev pub own_facts : List Fact
    own_facts = standing.facts table typed effects input ready inner.state inner.top older outer inner.named inner.p inner.frames inner.of_sub inner.at_point inner.path

    abbrev pub around : List Fact
    around = handed table typed effects unmoved_stage local inner.state depth older between

    abbrev pub facts_now : List Fact
    facts_now = own_facts ++ around

    abbrev pub viewed : Viewed (home s depth) sees other inner.views (view_here s inner.state) facts_now
    viewed = innermost.viewed table typed effects input ready inner

    abbrev pub home_frame : (x : ℕ) → is_package_object s x ≡ false → home s depth x ≡ depth
    home_frame = innermost.home_frame table typed effects input ready inner

    abbrev pub orderly : AreOrderly program inner.p (λ q. (n : ℕ) × Has (map (number_in inner.named.points) inner.p.next) n × IsAtPoint inner.named.points n q)
    orderly = innermost.orderly table typed effects input ready inner

    abbrev pub none_taken : ℕ → ℕ → Type 0
    none_taken a b = ⊥

    -- the facts of the innermost frame, and of those around
    pub told_here : Told (seen s inner.state.memory [] []) (IsDefiniteHere table typed effects unmoved_stage local (suc (length inner.rest)) inner.views own_facts (inner.below ∷ inner.more_frames))
    told_here w l (inr (g, has, definite)) reaches = exact_before w l (g, inr has, definite) reaches
    told_here w l (inl definite) reaches =
        exact_before w l (
          record { stage = inner.top; views = inner.views; cells = [] },
          inl refl,
          subst (λ d. IsDefiniteBy (home s d) inner.views (facts_of program effects inner.top) w) (sym inner.deep)
              (subst (λ z. IsDefiniteBy (home s depth) inner.views z w) (sym (standing.facts_are table typed effects input ready inner.state inner.top older outer inner.named inner.p inner.frames inner.of_sub inner.at_point inner.path)) definite),
        ) reaches

    pub exact : IsExact s (home s depth) inner.views elsewhere inner.state.memory facts_now
    exact = beside_told table typed effects unmoved_stage local inner.state depth older between inner.views own_views (seen s inner.state.memory [] []) own_facts told_here

    pub own_more : (f : Fact) → Has own_facts f → Has facts_now f
    own_more f has = Has-append_left own_facts around f has

    abbrev pub Excused : LeakSpot → Type 0
    Excused = IsExcused points inner.top.frame.next

    abbrev pub frame_by : Typing → flow.Frame
    frame_by z = record { typing = z; result = inner.named.sub.result; roots = standing.roots table typed effects input ready inner.state inner.top older outer inner.named inner.p inner.frames inner.of_sub inner.at_point }

    abbrev pub placed_by : Instruction → List Placed
    placed_by i = standing.acts_by table typed effects input ready inner.state inner.top older outer inner.named inner.p inner.frames inner.of_sub inner.at_point s i

    abbrev pub spots_by : Instruction → List LeakSpot
    spots_by i = leaks_of (frame_by s) inner.p.pos i

    abbrev pub acts_by : Instruction → List Act
    acts_by i = standing.acts_here table typed effects input ready inner.state inner.top older outer inner.named inner.p inner.frames inner.of_sub inner.at_point i

    pub agreed : standing.acts_by table typed effects input ready inner.state inner.top older outer inner.named inner.p inner.frames inner.of_sub inner.at_point s inner.p.instr ≡ standing.acts_by table typed effects input ready inner.state inner.top older outer inner.named inner.p inner.frames inner.of_sub inner.at_point own inner.p.instr
    agreed = standing.acts_agree table typed effects input ready inner.state inner.top older outer inner.named inner.p inner.frames inner.of_sub inner.at_point

    -- ---- what the instruction takes
    abbrev pub given_words : List (List machine.Word)
    given_words = (start at).waits

    abbrev pub Plain : Type 0
    Plain = AreScalar s (temporaries_of s (take (taken inner.p.instr) inner.p.scope))

    abbrev pub Plainly : Type 0
    Plainly = Plain × TakesScalars s inner.p.instr

    abbrev pub takes_of : Plain → (i : Instruction) → inner.p.instr ≡ i → Takes (taken i) given_words []
    takes_of = innermost.takes_of table typed effects input ready inner

    -- the step without the values that it takes
    abbrev pub easy : Turn
    easy = eased at

    abbrev pub viewed_easy : Plain → Viewed (home s depth) sees other inner.views (view_here s easy.state) facts_now × Kept s inner.state.memory (waiting_in easy.state)
    viewed_easy = innermost.viewed_easy table typed effects input ready inner

    -- the acts of the point are those of its instruction, and then what is called
    pub split_by : (i : Instruction) → inner.p.instr ≡ i → (path_point points inner.top.frame.next).acts ≡ placed_by i ++ called_acts program effects inner.p.pos inner.p.instr
    split_by i is =
        ap (λ (z : PathPoint). z.acts) (path_there own inner.named inner.top.frame.next inner.p inner.at_point program effects)
        ∙ ap (λ z. z ++ called_acts program effects inner.p.pos inner.p.instr) (sym agreed)
        ∙ ap (λ j. placed_by j ++ called_acts program effects inner.p.pos inner.p.instr) is

    -- what spots of a name know, before some acts
    pub knows : (i : Instruction) → inner.p.instr ≡ i → (front others : List Placed) → placed_by i ≡ front ++ others → (pos : Pos) (name : PlaceName) (qs : List (List Sel))
        → Knows Excused pos name (length front) (after (acts front) facts_now) qs
    knows i is front others split pos name qs q has excused =
        let known = excused_knows points inner.top.frame.next inner.top.before (standing.path_here table typed effects input ready inner.state inner.top older outer inner.named inner.p inner.frames inner.of_sub inner.at_point inner.path) front (others ++ called_acts program effects inner.p.pos inner.p.instr)
        (split_by i is ∙ ap (λ z. z ++ called_acts program effects inner.p.pos inner.p.instr) split ∙ append_assoc front others (called_acts program effects inner.p.pos inner.p.instr))
        (spot pos name (length front) q) refl excused in
        (known.0, after_more (acts front) facts_now own_facts own_more (Moved (extend name q)) known.1)

    pub fine_here : IsFine s inner.named.sub.result inner.p.instr
    fine_here = standing.fine table typed effects input ready inner.state inner.top older outer inner.named inner.p inner.frames inner.of_sub inner.at_point

    pub leaks_there : IsNoCall inner.p.instr → leaks_of (frame_by s) inner.p.pos inner.p.instr ≡ leaks_of (frame_by own) inner.p.pos inner.p.instr
    leaks_there calls =
        leaks_same s own (standing.agree table typed effects input ready) inner.named.sub.result (standing.roots table typed effects input ready inner.state inner.top older outer inner.named inner.p inner.frames inner.of_sub inner.at_point) inner.p.pos inner.p.instr calls fine_here
        (λ x is. object_same table typed x (subst (λ i. Fills s i (drop (taken inner.p.instr) inner.p.scope)) is (standing.supplied table typed effects input ready inner.state inner.top older outer inner.named inner.p inner.frames inner.of_sub inner.at_point).1))

    -- what the frames have after the step, from what is exact for the innermost one
    pub all_told : (next : Memory) (later : Views) → ((x : ℕ) (w : Way) → later.way x ≡ Some w → is_view s x ≡ true) → IsNoCall inner.p.instr
        → IsExact s (home s depth) later elsewhere next (after (acts_by inner.p.instr) facts_now)
        → Told (seen s next [] []) (IsDefiniteHere table typed effects unmoved_stage local depth later (facts_before points (inner.top.frame.next ∷ inner.top.before)) older)
    all_told next later only no_calls exact_there =
        subst (λ z. Told (seen s next [] []) (IsDefiniteHere table typed effects unmoved_stage local depth later z older))
        (sym (standing.facts_on table typed effects input ready inner.state inner.top older outer inner.named inner.p inner.frames inner.of_sub inner.at_point inner.path no_calls))
        (apart_told table typed effects unmoved_stage local inner.state depth older between later (λ x w has. local x (only x w has)) (seen s next [] []) (after (acts_by inner.p.instr) facts_now) (after (acts_by inner.p.instr) own_facts)
        (after_more (acts_by inner.p.instr) facts_now own_facts own_more) exact_there)
