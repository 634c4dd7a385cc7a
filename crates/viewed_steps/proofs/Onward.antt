-- After a step of the innermost frame, those around it wait on.
use Rattle.soundness.specs.ViewedSoundness.Holds.{is_view}
use Rattle.soundness.specs.PartOffsets.Parts.{offset_in}
use Rattle.soundness.proofs.ViewedSoundness.Names.{parts_same}
use Rattle.soundness.proofs.ViewedSoundness.ViewKinds.{bundle_view}
use Rattle.std.proofs.Common.{◌≡◌, refl, sym, ap, ◌∙◌, subst, inl, inr, ℕ, ◌<◌, ◌≤◌, Bool, true, false, List, [], ◌∷◌, ◌++◌, length, get_or, arith, if◌then◌else◌}
use Rattle.machine.specs.spark_base.Lists.{Has}
use Rattle.machine.specs.place_names.declared.fact.Fact.TheVariants.{Moved}
use Rattle.machine.specs.place_names.Names.{Name}
use Rattle.machine.specs.type_definitions.Types.{Table}
use Rattle.machine.specs.typed_tree.Programs.{TypedProgram}
use Rattle.machine.specs.flow_paths.declared.report.Effects.{Effects}
use Rattle.machine.specs.flow_paths.Objects.{object_at, Typing, is_package_object}
use Rattle.machine.specs.flow_paths.Laid.{FlowProgram, flow_typing, flow_program}
use Rattle.machine.specs.Words as machine
use Rattle.machine.specs.Memory.{variable_slots, no_slot, Place}
use Rattle.machine.specs.States.{Frame, Return, State}
use Rattle.soundness.specs.OwnedWays.Ways.{Loc, IsSame, Step, OfVariable, OfRoot, OfCell, Way, Object, Held, Reaches, part}
use Rattle.soundness.specs.Seen.{content, word_in, home}
use Rattle.soundness.specs.Sound.{Stage, facts_of, AreStages, view_of as view_here}
use Rattle.soundness.specs.OwnedLoans.Views.{known_gone}
use Rattle.soundness.proofs.OwnedLoans.Moves.{view_on, parts_on}
use Rattle.viewed_steps.specs.Taken.{IsInside, IsBare, IsAmong, IsOwnAt}
use Rattle.viewed_steps.proofs.Between.{still_taken}
use Rattle.viewed_steps.specs.Awaited.{lasting_of}
use Rattle.viewed_steps.specs.Sound.{ViewStage, stages_of, IsWaiting, AreWaiting, IsWayOf, IsBareOf}
use Rattle.viewed_steps.proofs.Waiting.{AreTheirs, all_between, theirs, bare_word, same_reaches, some_frames}
use Rattle.viewed_steps.specs.Seeing.{sees_in}

module _ (table : Table) (typed : TypedProgram) (effects : Effects)
    (unmoved : (e : Stage) → e.frame.sub ≡ 0 → (name : Name) → Has (facts_of (flow_program table typed) effects e) (Moved name) → ⊥)
    (local : (x : ℕ) → is_view (flow_typing (flow_program table typed)) x ≡ true
    → is_package_object (flow_typing (flow_program table typed)) x ≡ false) where
  abbrev sees : ℕ → Bool
  sees = sees_in (flow_program table typed)

  abbrev program : FlowProgram
  program = flow_program table typed

  abbrev s : Typing
  s = flow_typing (flow_program table typed)

  module _ (state next : State) (depth : ℕ)
      (still : (f x : ℕ) (p : List Step) (c : ℕ) → 0 < f → f < depth → word_in s.table (content s next.memory [] (OfRoot (OfVariable f x))) p ≡ Held c
      → word_in s.table (content s state.memory [] (OfRoot (OfVariable f x))) p ≡ Held c)
      (words : (f x i : ℕ) → 0 < f → f < depth → is_view s x ≡ true
      → (get_or (variable_slots s f x next.memory.variables) i no_slot).word ≡ (get_or (variable_slots s f x state.memory.variables) i no_slot).word) where
    waits_on : (callee : ℕ) (backs : List Return) (g : ViewStage) → 0 < g.stage.depth → g.stage.depth < depth
        → ((w : Way) (n : ℕ) → IsWayOf g w n → Reaches (view_here s next) w (OfCell n))
        → ((w : Way) (l : Loc) (p : List Step) → IsBareOf s g w l p → (q : List Step) (k : ℕ) → (view_here s next).word (part l (q ++ p)) ≡ Held k → ⊥)
        → IsWaiting table typed effects state callee backs g → IsWaiting table typed effects next callee backs g
    waits_on callee backs g some less reach bare waits = record {
      runs = waits.runs;
      plain = waits.plain;
      path = waits.path;
      named = waits.named;
      of_sub = waits.of_sub;
      point = waits.point;
      at_point = waits.at_point;
      scope = λ x p c held. waits.scope x p c (still g.stage.depth x p c some less held);
      lends = waits.lends;
      unmoved = waits.unmoved;
      shown = waits.shown;
      apart = waits.apart;
      written = waits.written;
      goes = waits.goes;
      names = waits.names;
      off = waits.off;
      off_parts = waits.off_parts;
      uses = waits.uses;
      writes = waits.writes;
      clear = waits.clear;
      views = (
        λ x w has.
            view_on (home s g.stage.depth) sees (known_gone (home s g.stage.depth) (λ z. ⊥)) g.views (view_here s state) (view_here s next)
            (facts_of program effects g.stage) (facts_of program effects g.stage) x w (waits.views.0 x w has) (λ b n loan. loan) (reach w (g.views.cell x) (inl (x, has, refl))),
        parts_on (home s g.stage.depth) sees (known_gone (home s g.stage.depth) (λ z. ⊥)) g.views (view_here s state) (view_here s next) waits.views.1
            (λ x p w has old. reach w (g.views.part_cell x p) (inr (inr (x, p, has, refl)))),
      );
      holds = record {
        held = λ x n lasts view bare e. waits.holds.held x n lasts view bare (word_before x n view e);
        within = λ x n view bare e. waits.holds.within x n view bare (word_before x n view e);
        only = waits.holds.only;
        lies = waits.holds.lies;
        owners = waits.holds.owners;
        passed = waits.holds.passed;
        own = waits.holds.own;
        taken = waits.holds.taken;
        parts = parts_same s sees g.stage.depth g.views state.memory next.memory
            (λ x p bundle. words_there x (offset_in s.table (object_at s x).of p) (bundle_view s x bundle)) waits.holds.parts;
        low = waits.holds.low;
      };
      placed = waits.placed;
      bare = λ w l p taken q k held. bare w l p taken q k (bare_word s next g w l p (q ++ p) taken ∙ held);
      kept = λ c has. (let kept = waits.kept c has in record {
        named = kept.named;
        leads = kept.leads;
        reaches = reach c.way c.cell (inr (inl (c, has, refl, refl)));
        aside = kept.aside;
      });
      taken = still_taken s sees g.cells state.memory next.memory g.stage.depth g.views (facts_of program effects g.stage) (lasting_of s waits.point.scope) backs g.stage.returns
          (λ k to has inside among none p c held. place_on k to has inside among none p c held) waits.taken;
    }
      where
        -- no number comes to what was taken
        variable_on : (k : Place) (to : Way) → Has g.stage.returns to → (inside : IsInside s g.stage.depth k to) → IsOwnAt s g.stage.depth inside.frame inside.object k inside.trunk inside.start
            → (b : Bool) → is_package_object s inside.object ≡ b → IsBare s g.stage.depth k to state.memory inside → IsBare s g.stage.depth k to next.memory inside
        variable_on k to has inside variable true shared none p c held =
            let first : inside.frame ≡ 0 = variable.3 ∙ ap (λ z. if z then 0 else g.stage.depth) shared in
            let trunk_is : inside.trunk ≡ Object (OfVariable 0 inside.object) = variable.0 ∙ ap (λ f. Object (OfVariable f inside.object)) first in
            let start_is : inside.start ≡ OfRoot (OfVariable 0 inside.object) = variable.1 ∙ ap (λ f. OfRoot (OfVariable f inside.object)) first in
            let taken : IsBareOf s g inside.trunk inside.start inside.steps =
            (subst (Has g.stage.returns) inside.way has, inr (inside.object, shared, sym trunk_is, sym start_is)) in
            bare inside.trunk inside.start inside.steps taken p c (bare_word s next g inside.trunk inside.start inside.steps (p ++ inside.steps) taken ∙ held)
        variable_on k to has inside variable false local_one none p c held =
            let own : inside.frame ≡ g.stage.depth = variable.3 ∙ ap (λ z. if z then 0 else g.stage.depth) local_one in
            none p c
            (subst (λ z. word_in s.table (content s state.memory [] z) (p ++ inside.steps) ≡ Held c) (sym variable.1)
            (still inside.frame inside.object (p ++ inside.steps) c (omega (arith, own, some)) (omega (arith, own, less))
            (subst (λ z. word_in s.table (content s next.memory [] z) (p ++ inside.steps) ≡ Held c) variable.1 held)))

        place_on : (k : Place) (to : Way) → Has g.stage.returns to → (inside : IsInside s g.stage.depth k to) → IsAmong g.cells inside.start inside.trunk
            → IsBare s g.stage.depth k to state.memory inside → IsBare s g.stage.depth k to next.memory inside
        place_on k to has inside among none p c held = elim inside.stands [
          | inl variable ↦ variable_on k to has inside variable (is_package_object s inside.object) refl none p c held
          | inr cell ↦ (
              let found = among cell.0 cell.1 in
              let taken : IsBareOf s g inside.trunk inside.start inside.steps =
              (subst (Has g.stage.returns) inside.way has, inl (found.0, found.1, found.2, ap OfCell found.3 ∙ sym cell.1)) in
              bare inside.trunk inside.start inside.steps taken p c (bare_word s next g inside.trunk inside.start inside.steps (p ++ inside.steps) taken ∙ held))
        ]

        words_there : (x i : ℕ) → is_view s x ≡ true
            → (get_or (variable_slots s (home s g.stage.depth x) x next.memory.variables) i no_slot).word ≡ (get_or (variable_slots s (home s g.stage.depth x) x state.memory.variables) i no_slot).word
        words_there x i view =
            let own : home s g.stage.depth x ≡ g.stage.depth = ap (λ z. if z then 0 else g.stage.depth) (local x view) in
            subst (λ f. (get_or (variable_slots s f x next.memory.variables) i no_slot).word ≡ (get_or (variable_slots s f x state.memory.variables) i no_slot).word) (sym own)
            (words g.stage.depth x i some less view)

        word_before : (x n : ℕ) → is_view s x ≡ true
            → (get_or (variable_slots s (home s g.stage.depth x) x next.memory.variables) 0 no_slot).word ≡ machine.Cell n
            → (get_or (variable_slots s (home s g.stage.depth x) x state.memory.variables) 0 no_slot).word ≡ machine.Cell n
        word_before x n view e =
            let own : home s g.stage.depth x ≡ g.stage.depth = ap (λ z. if z then 0 else g.stage.depth) (local x view) in
            subst (λ f. (get_or (variable_slots s f x state.memory.variables) 0 no_slot).word ≡ machine.Cell n) (sym own)
            (sym (words g.stage.depth x 0 some less view)
            ∙ subst (λ f. (get_or (variable_slots s f x next.memory.variables) 0 no_slot).word ≡ machine.Cell n) own e)

    pub all_on : (callee : ℕ) (backs : List Return) (older : List ViewStage) (outer : List Frame) → AreStages (stages_of older) outer → length outer ≤ depth
        → AreTheirs table typed effects unmoved local older (view_here s next)
        → AreWaiting table typed effects state callee backs older → AreWaiting table typed effects next callee backs older
    all_on callee backs [] outer stages less reach waiting = waiting
    all_on callee backs (e ∷ []) outer stages less reach waiting = waiting
    all_on callee backs (g ∷ (h ∷ older)) [] stages less reach waiting = absurd stages
    all_on callee backs (g ∷ (h ∷ older)) (f ∷ outer) stages less reach waiting =
        let some = some_frames h older outer stages.2 in
        let deep = stages.1 in (
          waits_on callee backs g (omega (arith, some, deep)) (omega (arith, less, deep)) (λ w n way. reach.far w n (g, inl refl, way))
              (λ w l p bare. reach.bare w l p (g, inl refl, bare)) waiting.0,
          all_on g.stage.frame.sub g.stage.frame.returns (h ∷ older) outer stages.2 (omega (arith, less)) (record {
            far = λ w n (k, has, way). reach.far w n (k, inr has, way);
            bare = λ w l p (k, has, bare). reach.bare w l p (k, inr has, bare);
          }) waiting.1,
          waiting.2,
          waiting.3,
        )

    -- where owners see the same
    pub all_same : IsSame (view_here s state) (view_here s next) → (callee : ℕ) (backs : List Return) (older : List ViewStage) (outer : List Frame) → AreStages (stages_of older) outer
        → length outer ≤ depth → AreWaiting table typed effects state callee backs older → AreWaiting table typed effects next callee backs older
    all_same same callee backs older outer stages less waiting =
        all_on callee backs older outer stages less
        (let there = theirs table typed effects unmoved local state depth older (all_between table typed effects unmoved local state callee depth backs older outer stages less waiting) in record {
          far = λ w n kept. same_reaches (view_here s state) (view_here s next) same w (OfCell n) (there.far w n kept);
          bare = λ w n p bare q c held. there.bare w n p bare q c (sym (same.word (part n (q ++ p))) ∙ held);
        }) waiting
