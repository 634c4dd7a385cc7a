-- Each step of a sound state whose facts are exact leads to such a state, in a program that is ready.
use Rattle.soundness.specs.ViewedSoundness.Holds.{is_view}
use Rattle.std.proofs.Common.{◌<◌, ◌≡◌, refl, sym, ◌∙◌, subst, ◌⊎◌, inl, inr, ℕ, suc, true, false, List, [], ◌∷◌, length, arith, Some, None, ap, if◌then◌else◌, Bool}
use Rattle.machine.specs.spark_base.Lists.{Has}
use Rattle.machine.specs.place_names.declared.fact.Fact.{Fact}
use Rattle.machine.specs.place_names.declared.fact.Fact.TheVariants.{Moved}
use Rattle.machine.specs.place_names.Names.{Name as PlaceName}
use Rattle.machine.specs.type_definitions.Types.{Table, is_nil}
use Rattle.machine.specs.typed_tree.Programs.{TypedProgram}
use Rattle.machine.specs.flow_paths.declared.report.Effects.{Effects}
use Rattle.machine.specs.flow_paths.Instructions.{Instruction, EndScope, Finish}
use Rattle.machine.specs.flow_paths.Objects.{Typing, is_package_object}
use Rattle.machine.specs.flow_paths.Points.{NamedPoint}
use Rattle.machine.specs.flow_paths.Laid.{FlowSub, FlowProgram, NamedSub, flow_typing, flow_program, flow_named}
use Rattle.machine.specs.flow_paths.Paths.{ControlPath, facts_before}
use Rattle.machine.specs.flow_paths.Effects.{path_points, written_by}
use Rattle.machine.specs.Memory.{Memory}
use Rattle.machine.specs.States.{Waiting, Frame, State, Outcome, Goes, Ends, sub_of, Return}
use Rattle.machine.specs.Owners.{waiting_in}
use Rattle.machine.specs.Run.{step}
use Rattle.soundness.specs.OwnedWays.Ways.{OfVariable, OfRoot, Under, base_of, Way, Loc, Gone, Reaches, Told, name_of, OfCell, Step, along, part, Owned}
use Rattle.soundness.specs.Seen.{home, seen}
use Rattle.soundness.specs.Typed.{Kept}
use Rattle.soundness.specs.Sound.{Stage, facts_of, AreStages, InScope, IsNamedSub, IsAtPoint, IsNoCall, IsOnward, view_of as view_here}
use Rattle.soundness.proofs.Points.{sub_there}
use Rattle.soundness.specs.OwnedLoans.Views.{known_gone, Views, expand, ViewedAlone}
use Rattle.viewed_steps.specs.Sound.{IsBeyond, HoldsAt, ArePlaced, NoneAbove, ViewStage, stages_of, GoneElsewhere, AreWaiting, IsRunning, AreTurned, AreLeft, Follows, steps_on, leaves_scope, begins_main, returns_one, calls_one, ends_one, LeadsAlong, IsSound, HasTraversals, loan_by, IsWaiting, LentBy}
use Rattle.viewed_steps.specs.Awaited.{AreAwaited, lasting_of}
use Rattle.viewed_steps.specs.Ready.{IsReady}
use Rattle.viewed_steps.proofs.Waiting.{StandsBetween, all_between, gone_low, unused_there}
use Rattle.viewed_steps.proofs.Standing as standing
use Rattle.viewed_steps.proofs.Packages as packages
use Rattle.viewed_steps.proofs.Stepping.{sound_along}
use Rattle.recycled_runs.specs.ViewedFacts.Exact.{IsDefiniteBy, IsDefiniteOf, LeadsExactly, StepsLeadExactly}
use Rattle.soundness.proofs.OwnedWays.Named.{longer}
use Rattle.soundness.proofs.OwnedLoans.Meeting.{stands}
use Rattle.viewed_steps.proofs.Views.{same_lies}
use Rattle.recycled_runs.proofs.ViewedFacts.Calls.{carried_told, lies_low, passed_clean}
use Rattle.viewed_steps.proofs.Handed.{AreApart, apart_of}
use Rattle.std.proofs.Common.{Option}
use Rattle.std.proofs.lemmas.Bool.{false≢true, true≢false}
use Rattle.machine.specs.place_names.declared.rule.Loan.TheVariants.{Borrowed}
use Rattle.viewed_steps.specs.Taken.{AreCarried, Lodge, IsTakenIn}
use Rattle.recycled_runs.proofs.ViewedFacts.Frames.{IsDefiniteHere}
use Rattle.recycled_runs.proofs.ViewedFacts.Told.{told_next}
use Rattle.recycled_runs.proofs.ViewedFacts.ScopeEnds.{told_left}
use Rattle.machine.specs.place_names.Facts.{place}
use Rattle.viewed_steps.proofs.Apart.{kept_there, written_disturbs}
use Rattle.viewed_steps.proofs.Outside.{IsSpared, gone_clear, IsFree, free_name}
use Rattle.soundness.proofs.OwnedWays.Unique.{one_way}
use Rattle.soundness.proofs.OwnedWays.Locations.{reaches_along, under_along, under_itself}
use Rattle.soundness.proofs.ExactFacts.Memories.{same_reach}
use Rattle.recycled_runs.proofs.ViewedFacts.Steps.{based_variable}
use Rattle.viewed_steps.proofs.Roots.{FromGiven}
use Rattle.soundness.proofs.Contents.{bool_cases}
use Rattle.soundness.proofs.ViewedSoundness.ViewKinds.{true_false}
use Rattle.viewed_steps.specs.Seeing.{sees_in}
use Rattle.viewed_steps.proofs.InnerFrame.{InnerFrame}
use Rattle.soundness.proofs.Parted.{by_either}

module _ (table : Table) (typed : TypedProgram) (effects : Effects) (input : List ℕ) (ready : IsReady table typed effects) where
  abbrev sees : ℕ → Bool
  sees = sees_in (flow_program table typed)

  abbrev program : FlowProgram
  program = flow_program table typed

  abbrev s : Typing
  s = flow_typing program

  abbrev local : (x : ℕ) → is_view s x ≡ true → is_package_object s x ≡ false
  local = standing.local table typed effects input ready

  abbrev unmoved_stage : (e : Stage) → e.frame.sub ≡ 0 → (name : PlaceName) → Has (facts_of program effects e) (Moved name) → ⊥
  unmoved_stage = packages.unmoved_stage table typed effects input ready

  abbrev Between : State → ℕ → List ViewStage → ViewStage → Type 0
  Between state depth older g = StandsBetween table typed effects unmoved_stage local state depth older g

  abbrev Definite : ViewStage → Way → Type 0
  Definite g w = IsDefiniteBy (home s g.stage.depth) g.views (facts_of program effects g.stage) w

  abbrev Here : ℕ → Views → List Fact → List ViewStage → Way → Type 0
  Here depth v own older w = IsDefiniteHere table typed effects unmoved_stage local depth v own older w

  abbrev AllTold : Memory → List ViewStage → Type 0
  AllTold m stages = Told (seen s m [] []) (IsDefiniteOf program effects stages)

  unmoved : (g : ViewStage) → g.stage.frame.sub ≡ 0 → (w : Way) → Definite g w → ⊥
  unmoved g is w definite = unmoved_stage g.stage is (name_of definite.0) definite.1.1

  -- ---- one more point

  -- the facts of a frame then
  abbrev facts_then : Stage → List Fact
  facts_then g = facts_before (path_points program effects (sub_of program g.frame.sub)) (g.frame.next ∷ g.before)

  facts_onward : (g h : Stage) → IsOnward g h → facts_of program effects h ≡ facts_then g
  facts_onward g h on = (λ j. facts_before (path_points program effects (sub_of program (on.0 j))) (on.2 j))

  then_there : (g h : Stage) → IsOnward g h → (v : Views) (w : Way) → IsDefiniteBy (home s h.depth) v (facts_of program effects h) w
      → IsDefiniteBy (home s g.depth) v (facts_then g) w
  then_there g h on v w definite =
      subst (λ d. IsDefiniteBy (home s d) v (facts_then g) w) on.1 (subst (λ z. IsDefiniteBy (home s h.depth) v z w) (facts_onward g h on) definite)

  none_yet : (g : ViewStage) → g.stage.before ≡ [] → (w : Way) → Definite g w → ⊥
  none_yet g fresh w definite =
      subst (λ z. Has (facts_before (path_points program effects (sub_of program g.stage.frame.sub)) z) (Moved (name_of definite.0))) fresh definite.1.1

  same_stage : (g h : ViewStage) → g ≡ h → (w : Way) → Definite h w → Definite g w
  same_stage g h is w definite = subst (λ (z : ViewStage). Definite z w) (sym is) definite

  -- ---- a call, and the end of one

  told_called : (depth : ℕ) (cells : List Lodge) (m n : Memory) (stages : List ViewStage)
      → ((g : ViewStage) → Has stages g → (w : Way) → Definite g w → (f : ℕ) × (x : ℕ) × (base_of w ≡ OfRoot (OfVariable f x)) × (f < suc depth))
      → AreCarried s (λ f. f ≡ suc depth → ⊥) cells [] m n → AllTold m stages → AllTold n stages
  told_called depth cells m n stages low carried told =
      carried_told s (λ f. f ≡ suc depth → ⊥) cells [] m n carried (λ w begins off k p reach (c, has, same, (to, never, q, is)). never) (IsDefiniteOf program effects stages)
      (λ w (g, has, definite). (let there = low g has w definite in (there.0, there.1, there.2, λ e. (let less = there.3 in omega (arith, less, e)))))
      (λ w is to none under. none) told

  gone_by : (g : ViewStage) (stages : List ViewStage) → Has stages g → (w : Way) → Definite g w → GoneElsewhere program effects stages w
  gone_by g stages has w d = (g, has, inl (d.0, d.1, d.3))

  told_ended : (state : State) (depth : ℕ) (n : Memory) (cells : List Lodge)
      → ((c : Lodge) → Has cells c → Reaches (view_here s state) c.way (OfCell c.cell)) → Owned (view_here s state) → (ways : List Way) (stages : List ViewStage) → ((g : ViewStage) → Has stages g → Between state depth stages g)
      → ((g : ViewStage) → Has stages g → (w : Way) → Definite g w → (to : Way) → Has ways to → Under to w → ⊥)
      → AreCarried s (λ f. f ≡ depth → ⊥) cells ways state.memory n → AllTold state.memory stages → AllTold n stages
  told_ended state depth n cells kept owned ways stages between off carried told =
      carried_told s (λ f. f ≡ depth → ⊥) cells ways state.memory n carried clear (IsDefiniteOf program effects stages) begins_there
      (λ w (g, has, definite) to there under. off g has w definite to there under) told
    where
      -- a part of such a cell has the one way that was taken
      clear : (w : Way) → (f : ℕ) × (x : ℕ) × (base_of w ≡ OfRoot (OfVariable f x)) × (f ≡ depth → ⊥) → ((to : Way) → Has ways to → Under to w → ⊥)
          → (k : ℕ) (p : List Step) → Reaches (seen s state.memory [] []) w (part (OfCell k) p) → IsTakenIn cells ways k p → ⊥
      clear w (f, x, base, away) off_ways k p reach (c, has, same, (to, there, q, is)) =
          let mine : Reaches (view_here s state) w (part (OfCell k) p) =
          same_reach s (seen s state.memory [] []) (view_here s state) state.memory [] (waiting_in state) (λ l. refl) (λ l. refl) w (part (OfCell k) p) (based_variable w f x base) reach in
          let theirs : Reaches (view_here s state) (along c.way p) (part (OfCell k) p) =
          subst (λ z. Reaches (view_here s state) (along c.way p) (part (OfCell z) p)) same (reaches_along (view_here s state) c.way (OfCell c.cell) p (kept c has)) in
          let one : w ≡ along c.way p = one_way (view_here s state) owned w (along c.way p) (part (OfCell k) p) mine theirs in
          off_ways to there (subst (Under to) (sym (one ∙ is)) (under_along to to q (under_itself to)))

      begins_there : (w : Way) → IsDefiniteOf program effects stages w → (f : ℕ) × (x : ℕ) × (base_of w ≡ OfRoot (OfVariable f x)) × (f ≡ depth → ⊥)
      begins_there w (g, has, definite) =
          let base = gone_low table typed effects unmoved_stage local state depth stages between w (gone_by g stages has w definite) in
          (base.0, base.1, base.2, λ e. (let low = base.3 in omega (arith, low, e)))

  -- ---- the frames after a step

  -- A step goes on in its frame, or the scope of an object ends there.
  abbrev Stays : ℕ → Instruction → Views → Views → Type 0
  Stays depth i before later =
      (IsNoCall i × (i ≡ Finish → ⊥) × ((y : ℕ) → i ≡ EndScope y → ⊥) × AreTurned i before later) ⊎ ((y : ℕ) × (i ≡ EndScope y) × AreLeft (home s depth) y before later)

  module _ (i : Instruction) (state after_step : State) (top : ViewStage) (older : List ViewStage) (packages_first : older ≡ [] → top.stage.frame.sub ≡ 0)
      (between : (g : ViewStage) → Has older g → StandsBetween table typed effects unmoved_stage local state top.stage.depth older g)
      (top_low : (w : Way) → IsDefiniteBy (home (flow_typing (flow_program table typed)) top.stage.depth) top.views (facts_of (flow_program table typed) effects top.stage) w
      → (f : ℕ) × (x : ℕ) × (base_of w ≡ OfRoot (OfVariable f x)) × (f < suc top.stage.depth))
      (around_clear : (next : ViewStage) (around : List ViewStage) → older ≡ next ∷ around → (to : Way) → Has next.stage.returns to
      → (w : Way) → GoneElsewhere (flow_program table typed) effects around w → Under to w → ⊥)
      (own_clear : (next : ViewStage) (around : List ViewStage) → older ≡ next ∷ around → (to : Way) → Has next.stage.returns to
      → (w : Way) → IsDefiniteBy (home (flow_typing (flow_program table typed)) next.stage.depth) next.views (facts_of (flow_program table typed) effects next.stage) w → Under to w → ⊥)
      (owned : Owned (view_here (flow_typing (flow_program table typed)) state))
      (told : Told (seen (flow_typing (flow_program table typed)) state.memory [] []) (IsDefiniteOf (flow_program table typed) effects (top ∷ older)))
      (next : ViewStage) (around : List ViewStage)
      (told_step : IsOnward top.stage next.stage → Stays top.stage.depth i top.views next.views
      → Told (seen (flow_typing (flow_program table typed)) after_step.memory [] [])
      (IsDefiniteHere table typed effects unmoved_stage local top.stage.depth next.views
      (facts_before (path_points (flow_program table typed) effects (sub_of (flow_program table typed) top.stage.frame.sub)) (top.stage.frame.next ∷ top.stage.before)) older)) where
    all_low : (g : ViewStage) → Has (top ∷ older) g → (w : Way) → Definite g w → (f : ℕ) × (x : ℕ) × (base_of w ≡ OfRoot (OfVariable f x)) × (f < suc top.stage.depth)
    all_low g (inl is) w definite = top_low w (same_stage top g is w definite)
    all_low g (inr has) w definite =
        let base = gone_low table typed effects unmoved_stage local state top.stage.depth older between w (gone_by g older has w definite) in
        (base.0, base.1, base.2, let low = base.3 in omega (arith, low))

    abbrev with_cells : List Lodge → ViewStage
    with_cells cells = record { stage = next.stage; views = next.views; cells = cells }

    kept_cells : (cells : List Lodge) → older ≡ record { stage = next.stage; views = next.views; cells = cells } ∷ around → (c : Lodge) → Has cells c
        → Reaches (view_here s state) c.way (OfCell c.cell)
    kept_cells cells same c has = by_either (between (with_cells cells) (subst (λ gs. Has gs (with_cells cells)) (sym same) (inl refl)))
        (λ first. (absurd (subst (λ z. Has z c) first.4 has)))
        (λ (some, less, callee, backs, waits, shared). ((waits.kept c has).reaches))

    -- what the frames moved is in no place that the call took
    off_places : (cells : List Lodge) → older ≡ record { stage = next.stage; views = next.views; cells = cells } ∷ around → (g : ViewStage) → Has older g
        → (w : Way) → Definite g w → (to : Way) → Has next.stage.returns to → Under to w → ⊥
    off_places cells same g has w definite to there under = by_either (subst (λ gs. Has gs g) same has)
        (λ is. (own_clear (with_cells cells) around same to there w (same_stage (with_cells cells) g is w definite) under))
        (λ other. (around_clear (with_cells cells) around same to there w (gone_by g around other w definite) under))

    onward_told : IsOnward top.stage next.stage → Stays top.stage.depth i top.views next.views → around ≡ older → AllTold after_step.memory (next ∷ around)
    onward_told on stays same w l (g, inl is, definite) reaches =
        told_step on stays w l (inl (then_there top.stage next.stage on next.views w (same_stage next g is w definite))) reaches
    onward_told on stays same w l (g, inr has, definite) reaches =
        told_step on stays w l (inr (g, subst (λ gs. Has gs g) same has, definite)) reaches

    follows_told : Follows program effects i state.memory top older after_step.memory next around → AllTold after_step.memory (next ∷ around)
    follows_told (steps_on calls end going on turned same) = onward_told on (inl (calls, end, going, turned)) same
    follows_told (returns_one calls end going below more waits same on turned around_is) = returned below more waits same around_is
      where
        -- the facts of the frame that waits are as they were
        returned : (below : ViewStage) (more : List ViewStage) (waits : List Waiting) → older ≡ below ∷ more
            → around ≡ record below { stage = record below.stage { frame = record below.stage.frame { waits = waits } } } ∷ more → AllTold after_step.memory (next ∷ around)
        returned below more waits same around_is w l (g, inl is, definite) reaches =
            told_step on (inl (calls, end, going, turned)) w l (inl (then_there top.stage next.stage on next.views w (same_stage next g is w definite))) reaches
        returned below more waits same around_is w l (g, inr has, definite) reaches =
            told_step on (inl (calls, end, going, turned)) w l (inr (elim (subst (λ gs. Has gs g) around_is has) [
              | inl is ↦ (
                below,
                subst (λ gs. Has gs below) (sym same) (inl refl),
                same_stage (record below { stage = record below.stage { frame = record below.stage.frame { waits = waits } } }) g is w definite,
              )
              | inr there ↦ (g, subst (λ gs. Has gs g) (sym same) (inr there), definite)
            ])) reaches
    follows_told (leaves_scope y is on left same) = onward_told on (inr (y, is, left)) same
    follows_told (begins_main below none same on fresh) = λ w l (g, has, definite) reaches. absurd (by_frame below none same on fresh w g has definite)
      where
        by_frame : (below : ViewStage) → older ≡ [] → around ≡ below ∷ [] → IsOnward top.stage below.stage → next.stage.before ≡ [] → (w : Way) (g : ViewStage)
            → Has (next ∷ around) g → Definite g w → ⊥
        by_frame below none same on fresh w g (inl is) definite = none_yet next fresh w (same_stage next g is w definite)
        by_frame below none same on fresh w g (inr has) definite = elim (subst (λ gs. Has gs g) same has) [
          | inl is ↦ unmoved below (on.0 ∙ packages_first none) w (same_stage below g is w definite)
          | inr never ↦ never
        ]
    follows_told (calls_one waits cells same on fresh fewer carried) = λ w l (g, has, definite) reaches. by_frame waits cells same on fresh fewer carried w l g has definite reaches
      where
        by_frame : (waits : Stage) (cells : List Lodge) → around ≡ record { stage = waits; views = top.views; cells = cells } ∷ older → IsOnward top.stage waits → next.stage.before ≡ []
            → ((f : Fact) → Has (facts_of program effects waits) f → Has (facts_of program effects top.stage) f)
            → AreCarried s (λ f. f ≡ suc top.stage.depth → ⊥) cells [] state.memory after_step.memory
            → (w : Way) (l : Loc) (g : ViewStage) → Has (next ∷ around) g → Definite g w → Reaches (seen s after_step.memory [] []) w l
            → (seen s after_step.memory [] []).word l ≡ Gone
        by_frame waits cells same on fresh fewer carried w l g (inl is) definite reaches = absurd (none_yet next fresh w (same_stage next g is w definite))
        by_frame waits cells same on fresh fewer carried w l g (inr has) definite reaches =
            let all : AllTold after_step.memory (top ∷ older) = told_called top.stage.depth cells state.memory after_step.memory (top ∷ older) all_low carried told in
            elim (subst (λ gs. Has gs g) same has) [
              | inr there ↦ all w l (g, inr there, definite) reaches
              | inl is ↦ (
                  let waiting = same_stage (record { stage = waits; views = top.views; cells = cells }) g is w definite in
                  let before : IsDefiniteBy (home s waits.depth) top.views (facts_of program effects top.stage) w =
                  (waiting.0, (waiting.1.0, fewer (Moved (name_of waiting.0)) waiting.1.1), waiting.2, waiting.3) in
                  all w l (top, inl refl, subst (λ d. IsDefiniteBy (home s d) top.views (facts_of program effects top.stage) w) on.1 before) reaches)
            ]
    follows_told (ends_one cells same carried) = λ w l (g, has, definite) reaches.
        told_ended state top.stage.depth after_step.memory cells (kept_cells cells same) owned next.stage.returns older between (off_places cells same) carried
        (λ v k (h, there, is) r. told v k (h, inr there, is) r) w l (elim has [
          | inl is ↦ (with_cells cells, subst (λ gs. Has gs (with_cells cells)) (sym same) (inl refl), same_stage next g is w definite)
          | inr there ↦ (g, subst (λ gs. Has gs g) (sym same) (inr there), definite)
        ]) reaches

  -- ---- what holds at a step

  packages_of : (state : State) (top : Stage) (views : Views) (older : List ViewStage) → IsRunning table typed effects state (record { stage = top; views = views; cells = [] }) older
      → older ≡ [] → top.frame.sub ≡ 0
  packages_of state top views [] running none = running.0
  packages_of state top views (below ∷ more) running none = absurd (false≢true (ap is_nil none))

  between_of : (state : State) (top : Stage) (views : Views) (older : List ViewStage) (fs : List Frame) → AreStages (top ∷ stages_of older) fs
      → IsRunning table typed effects state (record { stage = top; views = views; cells = [] }) older → (g : ViewStage) → Has older g → Between state top.depth older g
  between_of state top views older [] stages running g has = absurd stages
  between_of state top views [] (f ∷ outer) stages running g has = absurd has
  between_of state top views (below ∷ more) (f ∷ outer) stages running g has =
      all_between table typed effects unmoved_stage local state top.frame.sub top.depth top.frame.returns (below ∷ more) outer stages.2
      (let deep = stages.1 in omega (arith, deep)) running.2 g has

  -- ---- the places that were taken from a frame that waits

  module _ (state : State) (callee : ℕ) (backs : List Return) (next h : ViewStage) (others : List ViewStage) (rest : List Frame) (deep : next.stage.depth ≡ length rest)
      (stages : AreStages (stages_of (h ∷ others)) rest) (waiting : AreWaiting table typed effects state callee backs (next ∷ (h ∷ others))) where
    abbrev waits : IsWaiting table typed effects state callee backs next
    waits = waiting.0

    abbrev low : ℕ
    low = next.stage.depth

    abbrev their_facts : List Fact
    their_facts = facts_of program effects next.stage

    between_low : (g : ViewStage) → Has (h ∷ others) g → Between state low (h ∷ others) g
    between_low g has =
        all_between table typed effects unmoved_stage local state next.stage.frame.sub low next.stage.frame.returns (h ∷ others) rest stages
        (let same = deep in omega (arith, same)) waiting.1 g has

    -- the others keep nothing of what the frame writes
    written_spared : (y : ℕ) → Has (written_by effects next.stage.frame.sub) y → IsSpared table typed effects unmoved_stage local state low (h ∷ others) between_low y
    written_spared y written l name lent root =
        let (g, there, some_there, f, keeps, shared, kind, name_is) = lent in
        kept_there table typed effects ready.accepted.effects_are (unused_there table typed effects unmoved_stage local) state next.stage.frame.sub next.stage.frame.returns
        (h ∷ others) waiting.1 g there some_there f keeps (ap (λ (z : PlaceName). is_package_object s z.root) name_is ∙ shared)
        (written_disturbs table typed effects ready.accepted.effects_are (loan_by f) next.stage.frame.sub (place f).root
        (subst (Has (written_by effects next.stage.frame.sub)) (sym root ∙ ap (λ (z : PlaceName). z.root) (sym name_is)) written))

    abbrev Given_to : Way → Type 0
    Given_to to = FromGiven (home s low) sees next.views (view_here s state) their_facts waits.views to

    -- so it is where a place begins that was taken, or it was lent to the frame
    spared_to : (to : Way) → Has next.stage.returns to → (y : ℕ) → base_of to ≡ OfRoot (OfVariable (home s low y) y)
        → IsSpared table typed effects unmoved_stage local state low (h ∷ others) between_low y ⊎ Given_to to
    spared_to to has y base = elim (bool_cases (is_package_object s y)) [
      | inr mine ↦ inl (λ l name lent root. true_false (is_package_object s y) (ap (is_package_object s) (sym root) ∙ lent.5) mine)
      | inl shared ↦ elim (waits.goes to has y (base ∙ ap (λ b. OfRoot (OfVariable (if b then 0 else low) y)) shared) shared) [
        | inr given ↦ inr given
        | inl written ↦ inl (written_spared y written)
      ]
    ]

    free_to : (to : Way) → Has next.stage.returns to → IsFree table typed effects unmoved_stage local state low (h ∷ others) between_low to
    free_to to has =
        let by = waits.names to has in
        subst (IsFree table typed effects unmoved_stage local state low (h ∷ others) between_low) by.leads
        (free_name table typed effects unmoved_stage local state low (h ∷ others) between_low next.views (view_here s state) their_facts waits.views (waiting.3).0 (waiting.2).0 by.name by.called by.plain
        (λ y base. elim (spared_to to has y (ap base_of (sym by.leads) ∙ base)) [
          | inl none ↦ inl none
          | inr given ↦ inr (subst Given_to (sym by.leads) given)
        ]))

    -- what is gone for the frames around it is in no such place
    others_clear : (to : Way) → Has next.stage.returns to → (w : Way) → GoneElsewhere program effects (h ∷ others) w → Under to w → ⊥
    others_clear to has w gone under = gone_clear table typed effects unmoved_stage local state low (h ∷ others) between_low to (free_to to has) w gone (inl under)

    -- nor is what it moved itself
    mine_clear : (to : Way) → Has next.stage.returns to → (w : Way) → Definite next w → Under to w → ⊥
    mine_clear to has w definite under =
        let by = waits.names to has in
        passed_clean s sees low their_facts by.name by.called by.plain by.unlent by.cleared next.views (view_here s state)
        waits.views waits.clear (LentBy program effects (h ∷ others)) (λ l n lent. no_way n.root lent.5 (next.views.way n.root) refl) (waiting.3).1
        (λ n lent root. written_spared n.root (subst (Has (written_by effects next.stage.frame.sub)) (sym root) (by.written (ap (is_package_object s) (sym root) ∙ lent.5))) Borrowed n lent refl)
        (λ m moved n lent root. apart.own_moved m moved Borrowed n lent root)
        (λ b m lends n lent root. apart.own_borrowed b m lends Borrowed n lent root) w definite (subst (λ z. Under z w) (sym by.leads) under)
      where
        apart : AreApart table typed effects unmoved_stage local state low (h ∷ others) between_low their_facts
        apart = apart_of table typed effects unmoved_stage local state low (h ∷ others) between_low ready.accepted.effects_are next.stage waits.named waits.of_sub next.stage.frame.returns waiting.1

        no_way : (x : ℕ) → is_package_object s x ≡ true → (o : Option Way) → next.views.way x ≡ o → next.views.way x ≡ None
        no_way x shared None is = is
        no_way x shared (Some w) is = (let no : true ≡ false = sym shared ∙ local x (waits.holds.only x w is) in absurd (true≢false no))

  -- of the frame that the innermost one returns to
  clear_around : (state : State) (top : Stage) (views : Views) (older : List ViewStage) (fs : List Frame) → AreStages (top ∷ stages_of older) fs
      → IsRunning table typed effects state (record { stage = top; views = views; cells = [] }) older → (next : ViewStage) (around : List ViewStage) → older ≡ next ∷ around
      → (to : Way) → Has next.stage.returns to → (w : Way) → GoneElsewhere program effects around w → Under to w → ⊥
  clear_around state top views older fs stages running next [] same to has w (g, none, gone) under = none
  clear_around state top views older fs stages running next (h ∷ others) same to has w gone under =
      by_frames fs (subst (λ gs. AreStages (top ∷ stages_of gs) fs) same stages)
    where
      waiting : AreWaiting table typed effects state top.frame.sub top.frame.returns (next ∷ (h ∷ others))
      waiting = (subst (IsRunning table typed effects state (record { stage = top; views = views; cells = [] })) same running).2

      by_frames : (fs : List Frame) → AreStages (top ∷ stages_of (next ∷ (h ∷ others))) fs → ⊥
      by_frames [] there = there
      by_frames (f ∷ []) there = there.2
      by_frames (f ∷ (b ∷ rest)) (frame, deep, (frame_below, deep_below, around_there)) =
          others_clear state top.frame.sub top.frame.returns next h others rest deep_below around_there waiting to has w gone under

  clear_own : (state : State) (top : Stage) (views : Views) (older : List ViewStage) (fs : List Frame) → AreStages (top ∷ stages_of older) fs
      → IsRunning table typed effects state (record { stage = top; views = views; cells = [] }) older → (next : ViewStage) (around : List ViewStage) → older ≡ next ∷ around
      → (to : Way) → Has next.stage.returns to → (w : Way) → Definite next w → Under to w → ⊥
  clear_own state top views older fs stages running next [] same to has w definite under =
      let waiting : AreWaiting table typed effects state top.frame.sub top.frame.returns (next ∷ []) =
      (subst (IsRunning table typed effects state (record { stage = top; views = views; cells = [] })) same running).2 in
      subst (λ z. Has z to) (((waiting.0).1).2) has
  clear_own state top views older fs stages running next (h ∷ others) same to has w definite under =
      by_frames fs (subst (λ gs. AreStages (top ∷ stages_of gs) fs) same stages)
    where
      waiting : AreWaiting table typed effects state top.frame.sub top.frame.returns (next ∷ (h ∷ others))
      waiting = (subst (IsRunning table typed effects state (record { stage = top; views = views; cells = [] })) same running).2

      by_frames : (fs : List Frame) → AreStages (top ∷ stages_of (next ∷ (h ∷ others))) fs → ⊥
      by_frames [] there = there
      by_frames (f ∷ []) there = there.2
      by_frames (f ∷ (b ∷ rest)) (frame, deep, (frame_below, deep_below, around_there)) =
          mine_clear state top.frame.sub top.frame.returns next h others rest deep_below around_there waiting to has w definite under

  none_then : (top : Stage) → top.frame.sub ≡ 0 → (v : Views) (w : Way) → Here top.depth v (facts_then top) [] w → ⊥
  none_then top first v w (inr (g, has, definite)) = has
  none_then top first v w (inl definite) =
      unmoved (record { stage = record { frame = top.frame; depth = top.depth; before = top.frame.next ∷ top.before; returns = top.returns }; views = v; cells = [] }) first w definite

  -- the views afterwards are views, and nothing is moved through an observer
  abbrev AreClearThen : Stage → Views → Type 0
  AreClearThen top later =
      ((x : ℕ) (w : Way) → later.way x ≡ Some w → is_view s x ≡ true)
      × ((n : PlaceName) → Has (facts_then top) (Moved n) → sees n.root ≡ false)
      × ((x : ℕ) (p : List Step) (w : Way) → later.part_way x p ≡ Some w → sees x ≡ true)

  module _ (inner : InnerFrame table typed effects) (exact_before : Told (seen s inner.state.memory [] []) (IsDefiniteOf program effects (record { stage = inner.top; views = inner.views; cells = [] } ∷ (inner.below ∷ inner.more_frames)))) where
    main_told : (next : State) → step program input inner.state ≡ Goes next → (later : Views) → AreClearThen inner.top later → Stays (suc (length inner.rest)) inner.p.instr inner.views later
        → Told (seen s next.memory [] []) (Here (suc (length inner.rest)) later (facts_then inner.top) (inner.below ∷ inner.more_frames))
    main_told next goes later (only, clear, parts) (inr (y, is, left)) =
        subst (λ (z : FlowSub). Told (seen s next.memory [] []) (Here (suc (length inner.rest)) later (facts_before (path_points program effects z) (inner.top.frame.next ∷ inner.top.before)) (inner.below ∷ inner.more_frames)))
        (sym (sub_there table typed inner.top.frame.sub inner.named inner.of_sub)) (told_left table typed effects input ready inner exact_before y is next goes later only parts left)
    main_told next goes later (only, clear, parts) (inl (calls, end, going, turned)) =
        subst (λ (z : FlowSub). Told (seen s next.memory [] []) (Here (suc (length inner.rest)) later (facts_before (path_points program effects z) (inner.top.frame.next ∷ inner.top.before)) (inner.below ∷ inner.more_frames)))
        (sym (sub_there table typed inner.top.frame.sub inner.named inner.of_sub))
        (told_next table typed effects input ready inner exact_before going calls end next goes later only parts
        (λ n has. clear n (subst (λ (z : FlowSub). Has (facts_before (path_points program effects z) (inner.top.frame.next ∷ inner.top.before)) (Moved n))
        (sym (sub_there table typed inner.top.frame.sub inner.named inner.of_sub)) has)) turned)

  step_told : (state : State) (top : Stage) (views : Views) (older : List ViewStage) (fs : List Frame) → state.frames ≡ fs → AreStages (top ∷ stages_of older) fs
      → IsRunning table typed effects state (record { stage = top; views = views; cells = [] }) older → AreAwaited table typed None (top ∷ stages_of older)
      → ControlPath (path_points program effects (sub_of program top.frame.sub)) top.before top.frame.next
      → ViewedAlone (home s top.depth) sees (known_gone (home s top.depth) (GoneElsewhere program effects older)) views (view_here s state) (facts_of program effects top)
      → Kept s state.memory (waiting_in state)
      → (named : NamedSub) → IsNamedSub (flow_named table typed) top.frame.sub named → (p : NamedPoint) → IsAtPoint named.points top.frame.next p
      → InScope s state.memory top.depth (lasting_of s p.scope) → HoldsAt s sees top.depth views state.memory p → ArePlaced program top.depth (facts_of program effects top) views p.scope × IsBeyond program effects top.depth views older
      → NoneAbove s top.depth state.memory × HasTraversals table typed (view_here s state) (record { stage = top; views = views; cells = [] } ∷ older)
      → Told (seen s state.memory [] []) (IsDefiniteOf program effects (record { stage = top; views = views; cells = [] } ∷ older))
      → (next : State) → step program input state ≡ Goes next → (later : Views) → AreClearThen top later → Stays top.depth p.instr views later
      → Told (seen s next.memory [] []) (Here top.depth later (facts_then top) older)
  step_told state top views [] fs is stages running awaiting path well kept named of_sub p at_point scope holds there above exact next goes later clear stays =
      λ w l definite reaches. absurd (none_then top running.0 later w definite)
  step_told state top views (below ∷ more) (f ∷ (g ∷ rest)) is (frame, deep, (around_frame, deeper, others)) running awaiting path well kept named of_sub p at_point scope holds there above exact
      next goes later clear stays =
      subst (λ d. Told (seen s next.memory [] []) (Here d later (facts_then top) (below ∷ more))) (sym deep)
      (main_told (record {
        state = state;
        top = top;
        below = below;
        more_frames = more;
        rest = rest;
        named = named;
        p = p;
        frames = is ∙ (λ j. sym frame j ∷ (sym around_frame j ∷ rest));
        deep = deep;
        stages = (refl, deeper, others);
        running = running;
        awaiting = awaiting;
        of_sub = of_sub;
        at_point = at_point;
        path = path;
        views = views;
        viewed_before = subst (λ d. ViewedAlone (home s d) sees (known_gone (home s d) (GoneElsewhere program effects (below ∷ more))) views (view_here s state) (facts_of program effects top)) deep well;
        kept = kept;
        scope = subst (λ d. InScope s state.memory d (lasting_of s p.scope)) deep scope;
        holds = subst (λ d. HoldsAt s sees d views state.memory p) deep holds;
        placed_before = subst (λ d. ArePlaced program d (facts_of program effects top) views p.scope × IsBeyond program effects d views (below ∷ more)) deep there;
        above = (subst (λ d. NoneAbove s d state.memory) deep above.0, above.1);
      }) exact next goes later clear (subst (λ d. Stays d p.instr views later) deep stays))
  step_told state top views (below ∷ more) [] is stages running awaiting path well kept named of_sub p at_point scope holds there above exact next goes later clear stays = absurd stages
  step_told state top views (below ∷ more) (f ∷ []) is stages running awaiting path well kept named of_sub p at_point scope holds there above exact next goes later clear stays = absurd stages.2

  -- what the innermost frame moved lies there
  own_low : (state : State) (sound : IsSound table typed effects state) (w : Way)
      → IsDefiniteBy (home s sound.top.depth) sound.views (facts_of program effects sound.top) w → (f : ℕ) × (x : ℕ) × (base_of w ≡ OfRoot (OfVariable f x)) × (f < suc sound.top.depth)
  own_low state sound w (u, moved, plain, leads) =
      subst (λ z. (f : ℕ) × (x : ℕ) × (base_of z ≡ OfRoot (OfVariable f x)) × (f < suc sound.top.depth)) leads
      (lies_low s sound.top.depth (expand sound.views u)
      (by_either (stands (home s sound.top.depth) sees sound.views (view_here s state) (facts_of program effects sound.top) sound.viewed.views u
      (moved.0, sound.viewed.clear.owned (name_of u) moved.1))
      (λ own. (inl own.named))
      (λ held. (same_lies s sound.top.depth (expand sound.views u) held.way (longer held.way (expand sound.views u) held.under).base
      (sound.holds.lies held.object held.way held.has)))))

  pub exactly_step : StepsLeadExactly table typed effects input
  exactly_step state (sound, exact) = by (step program input state) refl (sound_along table typed effects input ready state sound)
    where
      by : (outcome : Outcome) → step program input state ≡ outcome
          → LeadsAlong table typed effects sound.point.instr state.memory (record { stage = sound.top; views = sound.views; cells = [] }) sound.older outcome
          → LeadsExactly table typed effects outcome
      by (Ends how after_step) is leads = tt
      by (Goes after_step) is leads = (
        leads.0,
        follows_told sound.point.instr state after_step (record { stage = sound.top; views = sound.views; cells = [] }) sound.older (packages_of state sound.top sound.views sound.older sound.running)
            (between_of state sound.top sound.views sound.older state.frames sound.stages sound.running)
            (own_low state sound)
            (clear_around state sound.top sound.views sound.older state.frames sound.stages sound.running)
            (clear_own state sound.top sound.views sound.older state.frames sound.stages sound.running) sound.viewed.owned exact (record { stage = (leads.0).top; views = (leads.0).views; cells = [] }) (leads.0).older
            (λ on stays. step_told state sound.top sound.views sound.older state.frames refl sound.stages sound.running sound.awaited sound.path sound.viewed sound.kept sound.named sound.of_sub sound.point
            sound.at_point sound.scope sound.holds (sound.placed, sound.past) (sound.none_above, sound.traversals) exact after_step is (leads.0).views (
              (leads.0).holds.only,
              λ n has. (leads.0).viewed.clear.owned n (subst (λ z. Has z (Moved n)) (sym (facts_onward sound.top (leads.0).top on)) has),
              λ x p w has. (leads.0).holds.parts.looks x ((leads.0).holds.parts.only x p w has),
            ) stays)
            leads.1,
      )
