-- Frames that wait for a call to end, with views: what they keep concerns the innermost frame as ways
-- of others, and they wait still after its steps.
use Rattle.soundness.specs.ViewedSoundness.Holds.{is_view}
use Rattle.std.proofs.Common.{◌≡◌, refl, sym, ap, ◌∙◌, subst, ◌⊎◌, inl, inr, ℕ, ◌<◌, ◌≤◌, Bool, true, false, nat_lt, ltb-true, lt-ltb, List, [], ◌∷◌, ◌++◌, length, arith, Some, None, if◌then◌else◌, append-nil, is_some}
use Rattle.std.specs.Prelude.{flat_map}
use Rattle.std.proofs.lemmas.Bool.{false≢true}
use Rattle.machine.specs.spark_base.Lists.{Has}
use Rattle.soundness.proofs.Lists.{Has-append_left, Has-append_cases}
use Rattle.machine.specs.place_names.declared.fact.Fact.{Fact}
use Rattle.machine.specs.place_names.declared.fact.Fact.TheVariants.{Moved, Lent}
use Rattle.machine.specs.place_names.declared.rule.Loan.{Loan}
use Rattle.machine.specs.place_names.declared.rule.Loan.TheVariants.{Borrowed}
use Rattle.machine.specs.place_names.Names.{Name, object}
use Rattle.machine.specs.place_names.Facts.{place}
use Rattle.machine.specs.type_definitions.Types.{Table}
use Rattle.machine.specs.typed_tree.Programs.{TypedProgram}
use Rattle.machine.specs.flow_paths.declared.report.Effects.{Effects}
use Rattle.machine.specs.flow_paths.Objects.{Typing, is_package_object}
use Rattle.machine.specs.flow_paths.Laid.{FlowProgram, flow_typing, flow_program}
use Rattle.machine.specs.States.{Frame, Return, State, sub_of}
use Rattle.soundness.specs.OwnedWays.Ways.{Loc, IsSame, Step, OfVariable, OfRoot, OfCell, Way, Root, Object, Lost, Into, All, Held, View, Reaches, Under, Named, IsMoved, base_of, number_of, name_of, part, along}
use Rattle.soundness.proofs.OwnedWays.Locations.{under_itself, under_along}
use Rattle.soundness.proofs.OwnedWays.Named.{longer}
use Rattle.soundness.proofs.OwnedWays.Dropped.{named_base}
use Rattle.soundness.specs.Seen.{IsNear, content, word_in, home}
use Rattle.soundness.specs.Sound.{Stage, facts_of, AreStages, Uses, view_of as view_here}
use Rattle.soundness.proofs.Around.{near_or_far, IsFar, near_package, package_named}
use Rattle.soundness.proofs.Contents.{bool_cases, word_part, word_root}
use Rattle.soundness.specs.OwnedLoans.Views.{on, Around, known_gone, Views, expand, IsThrough, IsForeign, Go, IsShared, AreShared, AreViews}
use Rattle.soundness.proofs.OwnedLoans.Ways.{under_on, on_under, on_named, lifts, lifted_root, lifted_way, base_on, root_on, in_part_way}
use Rattle.soundness.proofs.OwnedLoans.Meeting.{stands, plain_lifts}
use Rattle.soundness.proofs.OwnedLoans.Moves.{reached}
use Rattle.viewed_steps.specs.Taken.{TakenBy, Lodge}
use Rattle.viewed_steps.proofs.Between.{base_along as along_base, number_based, taken_from as words_taken, taken_base, near_base, begun_low}
use Rattle.viewed_steps.proofs.Roots.{GoesOn, borrower_goes, view_goes}
use Rattle.viewed_steps.proofs.Showing.{none_moved as shown_unmoved}
use Rattle.viewed_steps.specs.Awaited.{lasting_of}
use Rattle.viewed_steps.proofs.Whole.{flat_has}
use Rattle.viewed_steps.specs.Sound.{loan_by, withheld, KeptBy, ViewStage, stages_of, Lies, GoneElsewhere, IsWaiting, IsFirst, AreWaiting, IsWayOf, IsBareOf, shown_at, LentBy, passed_roots}
use Rattle.viewed_steps.proofs.Withheld.{kept_cases, kept_root, kept_fact, taken_passed, cell_passed, passed_from, flat_from}
use Rattle.viewed_steps.proofs.Views.{base_named, same_lies}
use Rattle.machine.specs.Owners.{waiting_in}
use Rattle.viewed_steps.specs.Seeing.{sees_in}
use Rattle.viewed_steps.proofs.Constructors.{is_lent_fact, is_of_cell_loc}
use Rattle.soundness.proofs.Parted.{by_either}

-- ---- near ways

module _ (s : Typing) (a b : ℕ) (some : 0 < a) (less : a < b) where
  other_frame : (r : ℕ) → is_package_object s r ≡ false → a ≡ home s b r → ⊥
  other_frame r own e = (let same : home s b r ≡ b = ap (λ z. if z then 0 else b) own in omega (arith, less, e, same))

same_frame : (f x g y : ℕ) → OfRoot (OfVariable f x) ≡ OfRoot (OfVariable g y) → f ≡ g
same_frame f x g y e = cc

pub same_reaches : (s t : View) → IsSame s t → (w : Way) (l : Loc) → Reaches s w l → Reaches t w l
same_reaches s t e (Object r) l h = h
same_reaches s t e (Lost n) l h = (e.leaked n ∙ h.0, h.1)
same_reaches s t e (Into w i) l (m, h, is) = (m, same_reaches s t e w m h, is)
same_reaches s t e (All w) l (m, n, h, held, is) = (m, n, same_reaches s t e w m h, e.word m ∙ held, is)

-- the words of a cell, as owners see them
pub cell_word : (s : Typing) (state : State) (n : ℕ) (p : List Step)
    → (view_here s state).word (part (OfCell n) p) ≡ word_in s.table (content s state.memory [] (OfCell n)) p
cell_word s state n p =
    word_part s.table (content s state.memory (waiting_in state)) (OfCell n) p
    ∙ ap (word_in s.table (content s state.memory [] (OfCell n))) (append-nil p)

-- of what is bare
pub bare_word : (s : Typing) (state : State) (g : ViewStage) (w : Way) (l : Loc) (p q : List Step) → IsBareOf s g w l p
    → (view_here s state).word (part l q) ≡ word_in s.table (content s state.memory [] l) q
bare_word s state g w l p q (taken, inl (c, has, way, is)) =
    subst (λ z. (view_here s state).word (part z q) ≡ word_in s.table (content s state.memory [] z) q) is (cell_word s state c.cell q)
bare_word s state g w l p q (taken, inr (y, shared, way, is)) =
    subst (λ z. (view_here s state).word (part z q) ≡ word_in s.table (content s state.memory [] z) q) is
    (word_root s.table (content s state.memory (waiting_in state)) (OfVariable 0 y) q)

pub along_both : (w : Way) (q p : List Step) → along w (q ++ p) ≡ along (along w p) q
along_both w [] p = refl
along_both w (i ∷ q) p = ap (λ z. Into z i) (along_both w q p)

-- a way goes on from the object that it begins at
pub root_under : (f y : ℕ) (w : Way) → base_of w ≡ OfRoot (OfVariable f y) → Under (Object (OfVariable f y)) w
root_under f y (Object r) base = sym (one_root r base)
  where
    one_root : (r : Root) → OfRoot r ≡ OfRoot (OfVariable f y) → Object r ≡ Object (OfVariable f y)
    one_root r e = cc
root_under f y (Lost n) base = cc
root_under f y (Into w i) base = inr (root_under f y w base)
root_under f y (All w) base = inr (root_under f y w base)

-- ---- frames that wait

pub some_frames : (k : ViewStage) (older : List ViewStage) (outer : List Frame) → AreStages (stages_of (k ∷ older)) outer → 0 < length outer
some_frames k older [] stages = absurd stages
some_frames k older (f ∷ outer) stages = omega arith

loan_same : (l k : Loan) (h b : ℕ) (n m : Name) → Lent l h n ≡ Lent k b m → (l ≡ k) × (h ≡ b) × (n ≡ m)
loan_same l k h b n m e = (cc, cc, cc)

same_object : (f x g y : ℕ) → OfRoot (OfVariable f x) ≡ OfRoot (OfVariable g y) → x ≡ y
same_object f x g y e = cc

module _ (table : Table) (typed : TypedProgram) (effects : Effects)
    (unmoved : (e : Stage) → e.frame.sub ≡ 0 → (name : Name) → Has (facts_of (flow_program table typed) effects e) (Moved name) → ⊥)
    (local : (x : ℕ) → is_view (flow_typing (flow_program table typed)) x ≡ true
    → is_package_object (flow_typing (flow_program table typed)) x ≡ false) where
  abbrev sees : ℕ → Bool
  sees = sees_in (flow_program table typed)

  abbrev program : FlowProgram
  program = flow_program table typed

  abbrev s : Typing
  s = flow_typing (flow_program table typed)

  -- Each is that of the package objects, or waits between it and the innermost one.
  abbrev pub StandsBetween : State → ℕ → List ViewStage → ViewStage → Type 0
  StandsBetween state depth all g =
      IsFirst g ⊎ ((0 < g.stage.depth) × (g.stage.depth < depth) × (callee : ℕ) × (backs : List Return) × IsWaiting table typed effects state callee backs g
      × AreShared (home s g.stage.depth) sees (LentBy program effects all) g.views)

  -- what those around it keep, those around more frames do
  more_shared : (at_home : ℕ → ℕ) (v : Views) (older all : List ViewStage) → ((g : ViewStage) → Has older g → Has all g)
      → AreShared at_home sees (LentBy program effects older) v → AreShared at_home sees (LentBy program effects all) v
  more_shared at_home v older all more shared =
      (λ x w has given named. one (sees x) w (shared.0 x w has given named), λ x p w has named. one true w (shared.1 x p w has named))
    where
      one : (sight : Bool) (w : Way) → IsShared at_home (LentBy program effects older) sight w → IsShared at_home (LentBy program effects all) sight w
      one sight w is = (let lent = is.1.3 in
          (is.0, (is.1.0, is.1.1, is.1.2, (lent.0, more lent.0 lent.1, lent.2, lent.3, lent.4, lent.5, lent.6, lent.7)), is.2))

  more_between : (state : State) (depth : ℕ) (older all : List ViewStage) → ((g : ViewStage) → Has older g → Has all g) → (g : ViewStage)
      → StandsBetween state depth older g → StandsBetween state depth all g
  more_between state depth older all more g (inl first) = inl first
  more_between state depth older all more g (inr (some, less, callee, backs, waits, shared)) =
      inr (some, less, callee, backs, waits, more_shared (home s g.stage.depth) g.views older all more shared)

  pub all_between : (state : State) (callee depth : ℕ) (backs : List Return) (older : List ViewStage) (outer : List Frame) → AreStages (stages_of older) outer → length outer ≤ depth
      → AreWaiting table typed effects state callee backs older → (g : ViewStage) → Has older g → StandsBetween state depth older g
  all_between state callee depth backs [] outer stages less waiting g has = absurd has
  all_between state callee depth backs (e ∷ []) outer stages less waiting g (inl same) = inl (subst IsFirst same waiting.0)
  all_between state callee depth backs (e ∷ []) outer stages less waiting g (inr never) = absurd never
  all_between state callee depth backs (h ∷ (k ∷ older)) [] stages less waiting g has = absurd stages
  all_between state callee depth backs (h ∷ (k ∷ older)) (f ∷ outer) stages less waiting g (inl same) =
      subst (StandsBetween state depth (h ∷ (k ∷ older))) same (inr (
        (let some = some_frames k older outer stages.2 in let deep = stages.1 in omega (arith, some, deep)),
        (let deep = stages.1 in omega (arith, less, deep)),
        callee,
        backs,
        waiting.0,
        more_shared (home s h.stage.depth) h.views (k ∷ older) (h ∷ (k ∷ older)) (λ j has. inr has) (waiting.3).1,
      ))
  all_between state callee depth backs (h ∷ (k ∷ older)) (f ∷ outer) stages less waiting g (inr has) =
      more_between state depth (k ∷ older) (h ∷ (k ∷ older)) (λ j there. inr there) g
      (all_between state h.stage.frame.sub depth h.stage.frame.returns (k ∷ older) outer stages.2 (omega (arith, less)) waiting.1 g has)

  -- the frame of the package objects has moved nothing
  first_none : (e : ViewStage) → IsFirst e → (f : Fact) → Has (withheld program effects e) f → (name : Name) → f ≡ Moved name → ⊥
  first_none e first f has name is = by_either (kept_cases program effects e f has)
      (λ known. (by_either (Has-append_cases (facts_of program effects e.stage) (shown_at program e.stage) f known.0)
      (λ fact. (unmoved e.stage first.0 name (subst (Has (facts_of program effects e.stage)) is fact)))
      (λ shown. (shown_unmoved program (sub_of program e.stage.frame.sub) e.stage.before name (subst (Has (shown_at program e.stage)) is shown)))))
      (λ (y, passed, root). (by_either (passed_from effects e y passed) (λ (to, taken, same, written). (subst (λ z. Has z to) (first.1).2 taken)) (λ (c, there, same). (subst (λ z. Has z c) first.4 there))))

  -- no package object that is moved in a frame around is used by the innermost one
  pub unused_there : (state : State) (callee : ℕ) (backs : List Return) (older : List ViewStage) → AreWaiting table typed effects state callee backs older → (g : ViewStage) → Has older g
      → (name : Name) → Has (withheld program effects g) (Moved name) → is_package_object s name.root ≡ true → Uses effects callee name.root → ⊥
  unused_there state callee backs [] waiting g has name moved shared used = absurd has
  unused_there state callee backs (e ∷ []) waiting g (inl same) name moved shared used =
      first_none e waiting.0 (Moved name) (subst (λ (z : ViewStage). Has (withheld program effects z) (Moved name)) (sym same) moved) name refl
  unused_there state callee backs (e ∷ []) waiting g (inr never) name moved shared used = absurd never
  unused_there state callee backs (h ∷ (k ∷ older)) waiting g (inl same) name moved shared used =
      (waiting.0).unmoved name (subst (λ (z : ViewStage). Has (withheld program effects z) (Moved name)) (sym same) moved) shared used
  unused_there state callee backs (h ∷ (k ∷ older)) waiting g (inr has) name moved shared used =
      unused_there state h.stage.frame.sub h.stage.frame.returns (k ∷ older) waiting.1 g has name moved shared ((waiting.0).uses name.root used)

  -- The ways of others, with their cells.
  abbrev pub KeptElsewhere : List ViewStage → Way → ℕ → Type 0
  KeptElsewhere older w n = KeptBy older w n

  -- Parts of those cells, and of package objects, that were taken.
  abbrev pub BareElsewhere : List ViewStage → Way → Loc → List Step → Type 0
  BareElsewhere older w l p = (g : ViewStage) × Has older g × IsBareOf s g w l p

  -- What others keep is there, and no number stands in what was taken.
  pub record AreTheirs (older : List ViewStage) (view : View) : Type 0 where
    pub far : (w : Way) (n : ℕ) → KeptElsewhere older w n → Reaches view w (OfCell n)
    pub bare : (w : Way) (l : Loc) (p : List Step) → BareElsewhere older w l p → (q : List Step) (c : ℕ) → view.word (part l (q ++ p)) ≡ Held c → ⊥

  -- where cells keep their words, and no number comes to what was taken of package objects
  pub bare_still : (older : List ViewStage) (before after : State)
      → ((w : Way) (c : ℕ) (p q : List Step) (k : ℕ) → BareElsewhere older w (OfCell c) p
      → word_in s.table (content s after.memory [] (OfCell c)) (q ++ p) ≡ Held k → word_in s.table (content s before.memory [] (OfCell c)) (q ++ p) ≡ Held k)
      → ((y : ℕ) (p q : List Step) (k : ℕ) → BareElsewhere older (Object (OfVariable 0 y)) (OfRoot (OfVariable 0 y)) p → is_package_object s y ≡ true
      → word_in s.table (content s after.memory [] (OfRoot (OfVariable 0 y))) (q ++ p) ≡ Held k
      → word_in s.table (content s before.memory [] (OfRoot (OfVariable 0 y))) (q ++ p) ≡ Held k)
      → ((w : Way) (l : Loc) (p : List Step) → BareElsewhere older w l p → (q : List Step) (k : ℕ) → (view_here s before).word (part l (q ++ p)) ≡ Held k → ⊥)
      → (w : Way) (l : Loc) (p : List Step) → BareElsewhere older w l p → (q : List Step) (k : ℕ) → (view_here s after).word (part l (q ++ p)) ≡ Held k → ⊥
  bare_still older before after cells roots none w l p (g, has, bare) q k held =
      none w l p (g, has, bare) q k (bare_word s before g w l p (q ++ p) bare ∙ one bare (sym (bare_word s after g w l p (q ++ p) bare) ∙ held))
    where
      one : IsBareOf s g w l p → word_in s.table (content s after.memory [] l) (q ++ p) ≡ Held k → word_in s.table (content s before.memory [] l) (q ++ p) ≡ Held k
      one (taken, inl (c, there, way, is)) held =
          subst (λ z. word_in s.table (content s before.memory [] z) (q ++ p) ≡ Held k) is
          (cells w c.cell p q k (g, has, (taken, inl (c, there, way, refl))) (subst (λ z. word_in s.table (content s after.memory [] z) (q ++ p) ≡ Held k) (sym is) held))
      one (taken, inr (y, shared, way, is)) held =
          subst (λ z. word_in s.table (content s before.memory [] z) (q ++ p) ≡ Held k) is
          (roots y p q k (g, has, (subst (λ z. Has g.stage.returns (along z p)) (sym way) taken, inr (y, shared, refl, refl))) shared
          (subst (λ z. word_in s.table (content s after.memory [] z) (q ++ p) ≡ Held k) (sym is) held))

  -- the frame of the package objects has none
  no_cells : (g : ViewStage) (w : Way) (n : ℕ) → IsFirst g → IsWayOf g w n → ⊥
  no_cells g w n first (inl (x, is, cell)) = (let no : None ≡ Some w = sym (first.2 x) ∙ is in absurd (false≢true (ap is_some no)))
  no_cells g w n first (inr (inl (c, has, is, cell))) = subst (λ z. Has z c) first.4 has
  no_cells g w n first (inr (inr (x, p, is, cell))) = (let no : None ≡ Some w = sym (first.5 x p) ∙ is in absurd (false≢true (ap is_some no)))

  -- What a frame keeps of package objects, as loans that the objects hold themselves.
  loan_of : Fact → List Fact
  loan_of f = if is_package_object s (place f).root then Lent (loan_by f) (place f).root (place f) ∷ [] else []

  pub loans_in : (g : ViewStage) → List Fact
  loans_in g = if nat_lt 0 g.stage.depth then flat_map loan_of (withheld program effects g) else []

  abbrev pub loans_there : List ViewStage → List Fact
  loans_there older = flat_map loans_in older

  -- A place of a package object that a frame that waits keeps.
  abbrev pub LentElsewhere : List ViewStage → Loan → Name → Type 0
  LentElsewhere older l n = LentBy program effects older l n

  one_from : (f g : Fact) → Has (loan_of f) g → (g ≡ Lent (loan_by f) (place f).root (place f)) × (is_package_object s (place f).root ≡ true)
  unfolding loan_of
  one_from f g has = by_root (is_package_object s (place f).root) refl has
    where
      by_root : (b : Bool) → is_package_object s (place f).root ≡ b → Has (if b then Lent (loan_by f) (place f).root (place f) ∷ [] else []) g
          → (g ≡ Lent (loan_by f) (place f).root (place f)) × (is_package_object s (place f).root ≡ true)
      by_root true shared (inl e) = (sym e, shared)
      by_root true shared (inr none) = absurd none
      by_root false own none = absurd none

  one_has : (f : Fact) → is_package_object s (place f).root ≡ true → Has (loan_of f) (Lent (loan_by f) (place f).root (place f))
  unfolding loan_of
  one_has f shared =
      subst (λ b. Has (if b then Lent (loan_by f) (place f).root (place f) ∷ [] else []) (Lent (loan_by f) (place f).root (place f))) (sym shared) (inl refl)

  loans_from : (older : List ViewStage) (f : Fact) → Has (loans_there older) f → (l : Loan) × (n : Name) × (f ≡ Lent l n.root n) × LentElsewhere older l n
  unfolding loans_in
  loans_from older f has =
      let found = flat_from loans_in older f has in by_depth found.0 found.1 (nat_lt 0 (found.0).stage.depth) refl found.2
    where
      by_depth : (g : ViewStage) → Has older g → (b : Bool) → nat_lt 0 g.stage.depth ≡ b → Has (if b then flat_map loan_of (withheld program effects g) else []) f
          → (l : Loan) × (n : Name) × (f ≡ Lent l n.root n) × LentElsewhere older l n
      by_depth g there true some has =
          let found = flat_from loan_of (withheld program effects g) f has in
          let one = one_from found.0 f found.2 in
          (loan_by found.0, place found.0, one.0, (g, there, ltb-true 0 g.stage.depth some, found.0, found.1, one.1, refl, refl))
      by_depth g there false none has = absurd has

  pub loans_has : (older : List ViewStage) (l : Loan) (n : Name) → LentElsewhere older l n → Has (loans_there older) (Lent l n.root n)
  unfolding loans_in
  loans_has older l n these =
      let (g, has, some, f, there, shared, kind, is) = these in
      subst (λ z. Has (loans_there older) (Lent z n.root n)) kind
      (subst (λ (z : Name). Has (loans_there older) (Lent (loan_by f) z.root z)) is
      (flat_has loans_in older g (Lent (loan_by f) (place f).root (place f)) has
      (subst (λ b. Has (if b then flat_map loan_of (withheld program effects g) else []) (Lent (loan_by f) (place f).root (place f))) (sym (lt-ltb 0 g.stage.depth some))
      (flat_has loan_of (withheld program effects g) f (Lent (loan_by f) (place f).root (place f)) there
      (one_has f (ap (λ (z : Name). is_package_object s z.root) is ∙ shared))))))

  -- such a way reaches its cell
  way_reaches : (state : State) (callee : ℕ) (backs : List Return) (g : ViewStage) → IsWaiting table typed effects state callee backs g → (w : Way) (n : ℕ) → IsWayOf g w n
      → Reaches (view_here s state) w (OfCell n)
  way_reaches state callee backs g waits w n (inl (x, is, cell)) =
      subst (λ z. Reaches (view_here s state) w (OfCell z)) cell
      (reached (home s g.stage.depth) sees (known_gone (home s g.stage.depth) (λ z. ⊥)) g.views (view_here s state) (facts_of program effects g.stage) x w (waits.views.0 x w is))
  way_reaches state callee backs g waits w n (inr (inr (x, p, is, cell))) =
      subst (λ z. Reaches (view_here s state) w (OfCell z)) cell (waits.views.1 x p w is).reaches
  way_reaches state callee backs g waits w n (inr (inl (c, has, is, cell))) =
      subst (λ z. Reaches (view_here s state) z (OfCell n)) is (subst (λ z. Reaches (view_here s state) c.way (OfCell z)) cell (waits.kept c has).reaches)

  module _ (state : State) (depth : ℕ) (older : List ViewStage) (between : (g : ViewStage) → Has older g → StandsBetween state depth older g) where
    -- A way goes on from such a place.
    abbrev pub IsLentFor : Loan → Way → Type 0
    IsLentFor l w = IsThrough (home s depth) (LentElsewhere older) l w

    -- the innermost frame has the same names for what belongs to packages
    pub lent_for : (g : ViewStage) → Has older g → 0 < g.stage.depth → (f : Fact) (k w : Way) → Has (withheld program effects g) f → place f ≡ name_of k
        → Named (home s g.stage.depth) k → Under k w → is_package_object s (number_of w) ≡ true → IsLentFor (loan_by f) w
    lent_for g has some f k w there is named under shared =
        let root : is_package_object s (number_of k) ≡ true = ap (is_package_object s) (sym (longer k w under).root) ∙ shared in
        (k, package_named s g.stage.depth depth k root named, under, (g, has, some, f, there, root, refl, is))

    -- so it is with a part of an object that is passed
    root_for : (g : ViewStage) → Has older g → 0 < g.stage.depth → (y : ℕ) (w : Way) → Has (passed_roots effects g) y → base_of w ≡ OfRoot (OfVariable (home s g.stage.depth y) y)
        → is_package_object s y ≡ true → IsLentFor Borrowed w
    root_for g has some y w passed base shared =
        let named : Named (home s g.stage.depth) w = base_named (home s g.stage.depth) w y base in
        lent_for g has some (Moved (object y)) (Object (OfVariable (home s g.stage.depth y) y)) w (kept_root program effects g y passed) refl refl
        (root_under (home s g.stage.depth y) y w base) (ap (is_package_object s) (number_based (home s g.stage.depth) w y named base) ∙ shared)

    -- and with what its facts say
    fact_for : (g : ViewStage) → Has older g → 0 < g.stage.depth → (f : Fact) (k w : Way) → Has (facts_of program effects g.stage) f → place f ≡ name_of k
        → Named (home s g.stage.depth) k → Under k w → is_package_object s (number_of w) ≡ true → IsLentFor (loan_by f) w ⊎ IsLentFor Borrowed w
    fact_for g has some f k w there is named under shared = elim (kept_fact program effects g f (Has-append_left (facts_of program effects g.stage) (shown_at program g.stage) f there)) [
      | inl keeps ↦ inl (lent_for g has some f k w keeps is named under shared)
      | inr passed ↦ (
          let on_root : number_of w ≡ number_of k = (longer k w under).root in
          let at : base_of w ≡ OfRoot (OfVariable (home s g.stage.depth (number_of k)) (number_of k)) = (longer k w under).base ∙ named_base (home s g.stage.depth) k named in
          inr (root_for g has some (number_of k) w (subst (λ (z : Name). Has (passed_roots effects g) z.root) is passed) at (ap (is_package_object s) (sym on_root) ∙ shared)))
    ]

    -- what is moved or borrowed
    held_for : (g : ViewStage) → Has older g → 0 < g.stage.depth → (f : Fact) (k w : Way) → Has (facts_of program effects g.stage) f → place f ≡ name_of k
        → Named (home s g.stage.depth) k → Under k w → is_package_object s (number_of w) ≡ true → loan_by f ≡ Borrowed → IsLentFor Borrowed w
    held_for g has some f k w there is named under shared borrowed = elim (fact_for g has some f k w there is named under shared) [
      | inl lent ↦ subst (λ l. IsLentFor l w) borrowed lent
      | inr lent ↦ lent
    ]

    -- What a view of a frame was given of package objects is kept by those around it.
    abbrev pub SharesHere : ViewStage → Type 0
    SharesHere g = AreShared (home s g.stage.depth) sees (LentBy program effects older) g.views

    -- it has the same names there
    through_for : (g : ViewStage) (l : Loan) (w : Way) → IsThrough (home s g.stage.depth) (LentBy program effects older) l w → IsLentFor l w
    through_for g l w these = let (k, named, under, lent) = these in (k, package_named s g.stage.depth depth k lent.5 named, under, lent)

    -- the way of a view goes on from such a place
    goes_for : (g : ViewStage) → Has older g → 0 < g.stage.depth
        → (views : AreViews (home s g.stage.depth) sees g.views (view_here s state) (facts_of program effects g.stage)) (l : Loan) (w : Way)
        → GoesOn (home s g.stage.depth) sees g.views (view_here s state) (facts_of program effects g.stage) views l w → is_package_object s (number_of w) ≡ true
        → IsLentFor l w ⊎ IsLentFor Borrowed w
    goes_for g has some views l w these shared = let (h, k, fact, named, under) = these in fact_for g has some (Lent l h (name_of k)) k w fact refl named under shared

    -- the way of a view begins at an own variable of its frame, or goes on from such a place
    way_cases : (callee : ℕ) (backs : List Return) (g : ViewStage) → Has older g → 0 < g.stage.depth → IsWaiting table typed effects state callee backs g → SharesHere g
        → (x : ℕ) (w : Way)
        → g.views.way x ≡ Some w → Named (home s g.stage.depth) w → (is_package_object s (number_of w) ≡ false) ⊎ ((l : Loan) × IsLentFor l w)
    way_cases callee backs g has some waits shares x w way named = by_either (bool_cases (is_package_object s (number_of w)))
        (λ shared. (
        let goes = view_goes (home s g.stage.depth) sees g.views (view_here s state) (facts_of program effects g.stage) waits.views
        (LentBy program effects older) shares x w way named in
        by_either goes.1
        (λ own. (by_either (goes_for g has some waits.views goes.0 w own shared) (λ lent. (inr (goes.0, lent))) (λ lent. (inr (Borrowed, lent)))))
        (λ through. (inr (goes.0, through_for g goes.0 w through)))))
        (λ own. (inl own))

    -- a way of a view of a frame below
    record Begins (w : Way) : Type 0 where
      frame : ℕ
      object : ℕ
      base : base_of w ≡ OfRoot (OfVariable frame object)
      low : frame < depth
      other : (frame ≡ home s depth object → ⊥) ⊎ ((l : Loan) × IsLentFor l w)

    low_home : (b : Bool) (d : ℕ) → d < depth → (if b then 0 else d) < depth
    low_home true d less = omega (arith, less)
    low_home false d less = less

    -- one that begins at a frame below, or one whose variable is the frame's own or that goes on from such a place
    foreign_begins : (g : ViewStage) → g.stage.depth < depth → (w : Way) (foreign : IsForeign (home s g.stage.depth) w) → foreign.0 < g.stage.depth → Begins w
    foreign_begins g less w foreign low = record {
      frame = foreign.0;
      object = foreign.1;
      base = foreign.2;
      low = omega (arith, low, less);
      other = inl (by_kind (is_package_object s foreign.1) refl);
    }
      where
        by_kind : (b : Bool) → is_package_object s foreign.1 ≡ b → foreign.0 ≡ home s depth foreign.1 → ⊥
        by_kind true shared e =
            foreign.3 (e ∙ ap (λ b. if b then 0 else depth) shared ∙ sym (ap (λ b. if b then 0 else g.stage.depth) shared))
        by_kind false own e =
            (let there : home s depth foreign.1 ≡ depth = ap (λ b. if b then 0 else depth) own in omega (arith, low, less, e, there))

    named_begins : (g : ViewStage) → 0 < g.stage.depth → g.stage.depth < depth → (w : Way) → Named (home s g.stage.depth) w
        → (is_package_object s (number_of w) ≡ false) ⊎ ((l : Loan) × IsLentFor l w) → Begins w
    named_begins g some less w named way = record {
      frame = home s g.stage.depth (number_of w);
      object = number_of w;
      base = named_base (home s g.stage.depth) w named;
      low = low_home (is_package_object s (number_of w)) g.stage.depth less;
      other = elim way [
        | inr lent ↦ inr lent
        | inl own ↦ inl (λ e. other_frame s g.stage.depth depth some less (number_of w) own (sym (ap (λ z. if z then 0 else g.stage.depth) own) ∙ e))
      ];
    }

    way_begins : (callee : ℕ) (backs : List Return) (g : ViewStage) → Has older g → 0 < g.stage.depth → g.stage.depth < depth
        → IsWaiting table typed effects state callee backs g → SharesHere g → (x : ℕ) (w : Way) → g.views.way x ≡ Some w → Lies s g.stage.depth w → Begins w
    way_begins callee backs g has some less waits shares x w is (inr (foreign, low, above)) = foreign_begins g less w foreign low
    way_begins callee backs g has some less waits shares x w is (inl named) =
        named_begins g some less w named (way_cases callee backs g has some waits shares x w is named)

    part_begins : (callee : ℕ) (backs : List Return) (g : ViewStage) → 0 < g.stage.depth → g.stage.depth < depth → IsWaiting table typed effects state callee backs g → SharesHere g
        → (x : ℕ) (p : List Step) (w : Way) → g.views.part_way x p ≡ Some w → Begins w
    part_begins callee backs g some less waits shares x p w is = by_either (waits.holds.low x p w is).0
        (λ named. (let (l, through, changed) = shares.1 x p w is named in named_begins g some less w named (inr (l, through_for g l w through))))
        (λ (foreign, low, above). (foreign_begins g less w foreign low))

    -- the way of a cell of a place begins at an own variable, or at a package object that is passed, or goes on from that
    -- of a view
    cell_begins : (callee : ℕ) (backs : List Return) (g : ViewStage) → Has older g → 0 < g.stage.depth → g.stage.depth < depth
        → IsWaiting table typed effects state callee backs g → SharesHere g → (c : Lodge) → Has g.cells c → Begins c.way
    cell_begins callee backs g has some less waits shares c there =
        let kept = waits.kept c there in
        subst Begins kept.leads (elim (lifts g.views c.name) [
          | inl itself ↦ subst Begins (sym itself) (record {
            frame = home s g.stage.depth (number_of c.name);
            object = number_of c.name;
            base = named_base (home s g.stage.depth) c.name kept.named;
            low = low_home (is_package_object s (number_of c.name)) g.stage.depth less;
            other = by_either (bool_cases (is_package_object s (number_of c.name)))
                (λ shared. (inr (Borrowed, root_for g has some (number_of c.name) c.name (cell_passed effects g c there) (named_base (home s g.stage.depth) c.name kept.named) shared)))
                (λ own. (inl (λ e. other_frame s g.stage.depth depth some less (number_of c.name) own (sym (ap (λ z. if z then 0 else g.stage.depth) own) ∙ e))));
          })
          | inr (inr l) ↦ subst Begins (sym (in_part_way g.views c.name l))
              (goes_on l.way l.rest (part_begins callee backs g some less waits shares l.object l.steps l.way l.has))
          | inr (inl l) ↦ subst Begins (sym (lifted_way g.views c.name l))
              (goes_on l.way l.rest (way_begins callee backs g has some less waits shares l.object l.way l.has (waits.holds.lies l.object l.way l.has)))
        ])
      where
        goes_on : (w : Way) (rest : List Go) → Begins w → Begins (on w rest)
        goes_on w rest b = record {
          frame = b.frame;
          object = b.object;
          base = base_on w rest ∙ b.base;
          low = b.low;
          other = by_either b.other (λ away. (inl away)) (λ (l, (k, named, under, lent)). (inr (l, (k, named, under_on k w (on w rest) under (on_under w rest), lent))));
        }

    begins_there : (w : Way) (n : ℕ) → KeptElsewhere older w n → Begins w
    begins_there w n these = let (g, has, way) = these in by_either (between g has)
        (λ first. (absurd (no_cells g w n first way)))
        (λ (some, less, callee, backs, waits, shared). (elim way [
          | inl (x, is, cell) ↦ way_begins callee backs g has some less waits shared x w is (waits.holds.lies x w is)
          | inr (inl (c, there, is, cell)) ↦ subst Begins is (cell_begins callee backs g has some less waits shared c there)
          | inr (inr (x, p, is, cell)) ↦ part_begins callee backs g some less waits shared x p w is
        ]))

    pub begins_elsewhere : (w : Way) (n : ℕ) → KeptElsewhere older w n
        → (f : ℕ) × (x : ℕ) × (base_of w ≡ OfRoot (OfVariable f x)) × ((f ≡ home s depth x → ⊥) ⊎ ((l : Loan) × IsLentFor l w))
    begins_elsewhere w n kept = (let b = begins_there w n kept in (b.frame, b.object, b.base, b.other))

    -- no variable of the innermost frame begins one
    kept_apart : (x : ℕ) (w : Way) (n : ℕ) → KeptElsewhere older w n → base_of w ≡ OfRoot (OfVariable depth x) → ⊥
    kept_apart x w n kept base =
        let b = begins_there w n kept in
        let frames = same_frame b.frame b.object depth x (sym b.base ∙ base) in
        let low = b.low in omega (arith, low, frames)

    -- or a place that is bare
    pub apart_elsewhere : (x : ℕ) (w : Way) → ((n : ℕ) × KeptElsewhere older w n) ⊎ ((l : Loc) × (p : List Step) × BareElsewhere older w l p)
        → base_of w ≡ OfRoot (OfVariable depth x) → ⊥
    apart_elsewhere x w (inl (n, kept)) base = kept_apart x w n kept base
    apart_elsewhere x w (inr (l, p, (g, has, (taken, inl (c, there, is, cell))))) base = kept_apart x w c.cell (g, has, inr (inl (c, there, is, refl))) base
    apart_elsewhere x w (inr (l, p, (g, has, (taken, inr (y, shared, is, at))))) base = by_either (between g has)
        (λ first. (subst (λ z. Has z (along w p)) (first.1).2 taken))
        (λ (some, less, callee, backs, waits, shared). (
        let frames = same_frame 0 y depth x (ap base_of is ∙ base) in omega (arith, frames, some, less)))

    -- the ways of their views begin below
    pub kept_low : (w : Way) (n : ℕ) → KeptElsewhere older w n → (f : ℕ) × (x : ℕ) × (base_of w ≡ OfRoot (OfVariable f x)) × (f < depth)
    kept_low w n kept = (let b = begins_there w n kept in (b.frame, b.object, b.base, b.low))

    -- what a moved name of a frame stands for lies there
    stood : (callee : ℕ) (backs : List Return) (g : ViewStage) → IsWaiting table typed effects state callee backs g → (u : Way)
        → IsMoved (home s g.stage.depth) (facts_of program effects g.stage) u → Lies s g.stage.depth (expand g.views u)
    stood callee backs g waits u moved =
        elim (stands (home s g.stage.depth) sees g.views (view_here s state) (facts_of program effects g.stage) waits.views u
        (moved.0, waits.clear.owned (name_of u) moved.1)) [
          | inl own ↦ inl own.named
          | inr held ↦ same_lies s g.stage.depth (expand g.views u) held.way (longer held.way (expand g.views u) held.under).base
              (waits.holds.lies held.object held.way held.has)
        ]

    -- and so does what is gone for them
    pub gone_low : (w : Way) → GoneElsewhere program effects older w → (f : ℕ) × (x : ℕ) × (base_of w ≡ OfRoot (OfVariable f x)) × (f < depth)
    gone_low w (g, has, inr taken) = by_either (between g has)
        (λ first. (absurd (subst (λ z. TakenBy z w) (first.1).2 taken).1))
        (λ (some, less, callee, backs, waits, shared). (
        let base = taken_base s g.stage.returns g.stage.depth
        (words_taken s sees g.cells state.memory g.stage.depth g.views (facts_of program effects g.stage) (lasting_of s waits.point.scope) backs g.stage.returns waits.taken) w taken in
        (base.0, base.1, base.2, (let low = begun_low s g.stage.depth base.0 base.1 base.3 in omega (arith, low, less)))))
    gone_low w (g, has, inl (u, moved, leads)) = by_either (between g has)
        (λ first. (absurd (unmoved g.stage first.0 (name_of u) moved.1)))
        (λ (some, less, callee, backs, waits, shared). (
        by_either (stood callee backs g waits u moved)
        (λ there. (
        let named : Named (home s g.stage.depth) w = subst (Named (home s g.stage.depth)) leads there in (
          home s g.stage.depth (number_of w),
          number_of w,
          named_base (home s g.stage.depth) w named,
          low_home (is_package_object s (number_of w)) g.stage.depth less,
        )))
        (λ (foreign, low, above). (foreign.0, foreign.1, ap base_of (sym leads) ∙ foreign.2, omega (arith, low, less)))))

    -- a part of a package object that was taken goes on from a place that is kept
    taken_lent : (g : ViewStage) → Has older g → 0 < g.stage.depth → (callee : ℕ) (backs : List Return) → IsWaiting table typed effects state callee backs g → SharesHere g
        → (to : Way) → Has g.stage.returns to → (y : ℕ) → base_of to ≡ OfRoot (OfVariable 0 y) → is_package_object s y ≡ true → (w : Way) → Under to w → IsLentFor Borrowed w
    taken_lent g has some callee backs waits sharing to taken y base shared w under =
        let at_home : 0 ≡ home s g.stage.depth y = ap (λ b. if b then 0 else g.stage.depth) (sym shared) in
        let based : base_of to ≡ OfRoot (OfVariable (home s g.stage.depth y) y) = base ∙ ap (λ f. OfRoot (OfVariable f y)) at_home in
        by_either (waits.goes to taken y base shared)
        (λ written. (root_for g has some y w (taken_passed effects g to y taken base written) ((longer to w under).base ∙ based) shared))
        (λ (x, u, is, given, sight, above). (
        let named : Named (home s g.stage.depth) u = base_named (home s g.stage.depth) u y (sym (longer u to above).base ∙ based) in
        let (l, through, changed) = sharing.0 x u is given named in
        let (k, at, below, lent) = through_for g l u through in
        (k, at, under_on k u w below (under_on u to w above under), subst (λ z. LentElsewhere older z (name_of k)) (changed sight) lent)))

    -- what is near and gone elsewhere is a part of a package object, and goes on from a place that is kept
    pub near_lent : (w : Way) → IsNear depth w → GoneElsewhere program effects older w → IsLentFor Borrowed w
    near_lent w near (g, has, inr (to, taken, p, is)) = by_either (between g has)
        (λ first. (absurd (subst (λ z. Has z to) (first.1).2 taken)))
        (λ (some, less, callee, backs, waits, sharing). (
        let begin = words_taken s sees g.cells state.memory g.stage.depth g.views (facts_of program effects g.stage) (lasting_of s waits.point.scope) backs g.stage.returns waits.taken to taken in
        let based : base_of w ≡ OfRoot (OfVariable begin.0 begin.1) = ap base_of is ∙ along_base to p ∙ begin.2 in
        by_either begin.3
        (λ at_home. (
        let own : base_of w ≡ OfRoot (OfVariable (home s g.stage.depth begin.1) begin.1) = based ∙ ap (λ f. OfRoot (OfVariable f begin.1)) at_home in
        let there : Named (home s g.stage.depth) w = base_named (home s g.stage.depth) w begin.1 own in
        let shared : is_package_object s begin.1 ≡ true =
        ap (is_package_object s) (sym (number_based (home s g.stage.depth) w begin.1 there own)) ∙ near_package s g.stage.depth depth some less w there near in
        taken_lent g has some callee backs waits sharing to taken begin.1
        (begin.2 ∙ (λ j. OfRoot (OfVariable ((at_home ∙ ap (λ b. if b then 0 else g.stage.depth) shared) j) begin.1))) shared w
        (subst (Under to) (sym is) (under_along to to p (under_itself to)))))
        (λ (above, low). (absurd (by_either (near_base depth w begin.0 begin.1 near based) (λ none. (omega (arith, above, none))) (λ same. (omega (arith, low, less, same))))))))
    near_lent w near (g, has, inl (u, moved, leads)) = by_either (between g has)
        (λ first. (absurd (unmoved g.stage first.0 (name_of u) moved.1)))
        (λ (some, less, callee, backs, waits, shared). (by_either (plain_lifts (home s g.stage.depth) sees g.views (view_here s state) (facts_of program effects g.stage) waits.views u
        (moved.0, waits.clear.owned (name_of u) moved.1))
        (λ e. (
        let here : IsMoved (home s g.stage.depth) (facts_of program effects g.stage) w =
        subst (IsMoved (home s g.stage.depth) (facts_of program effects g.stage)) (sym e ∙ leads) moved in
        held_for g has some (Moved (name_of w)) w w here.1 refl here.0 (under_itself w) (near_package s g.stage.depth depth some less w here.0 near) refl))
        (λ l. (by_either (stood callee backs g waits u moved)
        (λ there. (
        let plain : sees (number_of u) ≡ false = waits.clear.owned (name_of u) moved.1 in
        let front : Named (home s g.stage.depth) l.way = on_named (home s g.stage.depth) l.way l.rest
        (subst (Named (home s g.stage.depth)) (lifted_way g.views u l) there) in
        let same : w ≡ on l.way l.rest = sym leads ∙ lifted_way g.views u l in
        let named : Named (home s g.stage.depth) w = subst (Named (home s g.stage.depth)) leads there in
        let root : is_package_object s (number_of l.way) ≡ true =
        ap (is_package_object s) (sym (root_on l.way l.rest) ∙ ap number_of (sym same)) ∙ near_package s g.stage.depth depth some less w named near in
        let (k, at, under, lent) : IsLentFor Borrowed l.way = by_either (borrower_goes (home s g.stage.depth) sees g.views (view_here s state) (facts_of program effects g.stage) waits.views
        (LentBy program effects older) shared l.object l.way (ap sees (sym (lifted_root g.views u l)) ∙ plain) l.has front)
        (λ own. (by_either (goes_for g has some waits.views Borrowed l.way own root) (λ lent. (lent)) (λ lent. (lent))))
        (λ through. (through_for g Borrowed l.way through)) in
        (k, at, subst (Under k) (sym same) (under_on k l.way (on l.way l.rest) under (on_under l.way l.rest)), lent)))
        (λ (foreign, low, above). (absurd (by_either (near_base depth w foreign.0 foreign.1 near (ap base_of (sym leads) ∙ foreign.2)) (λ none. (omega (arith, above, none))) (λ same. (omega (arith, low, less, same))))))))))

    -- what is gone elsewhere and meets a way of another frame doesn't begin near
    pub far_met : (w z : Way) → IsForeign (home s depth) w → GoneElsewhere program effects older z → Under z w ⊎ Under w z → IsFar depth (GoneElsewhere program effects older) z
    far_met w z foreign gone meets = (λ near. apart near, gone)
      where
        base_there : base_of z ≡ OfRoot (OfVariable foreign.0 foreign.1)
        base_there = by_either meets (λ above. (sym (longer z w above).base ∙ foreign.2)) (λ below. ((longer w z below).base ∙ foreign.2))

        at_home : Named (home s depth) z → ⊥
        at_home named =
            let is = sym (named_base (home s depth) z named) ∙ base_there in
            foreign.3 (sym (same_frame (home s depth (number_of z)) (number_of z) foreign.0 foreign.1 is)
            ∙ ap (home s depth) (same_object (home s depth (number_of z)) (number_of z) foreign.0 foreign.1 is))

        apart : IsNear depth z → ⊥
        apart near =
            let (k, named, under, lent) = near_lent z near gone in
            at_home (base_named (home s depth) z (number_of k) ((longer k z under).base ∙ named_base (home s depth) k named))

    pub far : (w : Way) (n : ℕ) → KeptElsewhere older w n → Reaches (view_here s state) w (OfCell n)
    far w n these = let (g, has, way) = these in by_either (between g has)
        (λ first. (absurd (no_cells g w n first way)))
        (λ (some, less, callee, backs, waits, shared). (way_reaches state callee backs g waits w n way))

    pub theirs : AreTheirs older (view_here s state)
    theirs = record {
      far = far;
      bare = λ w l p there q k held. (let (g, has, bare) = there in by_either (between g has)
          (λ first. (absurd (subst (λ z. TakenBy z (along w p)) (first.1).2 (along w p, bare.0, [], refl)).1))
          (λ (some, less, callee, backs, waits, shared). (waits.bare w l p bare q k (sym (bare_word s state g w l p (q ++ p) bare) ∙ held))));
    }

    -- its cell is reached
    pub bare_reached : (w : Way) (n : ℕ) (p : List Step) → BareElsewhere older w (OfCell n) p → Reaches (view_here s state) w (OfCell n)
    bare_reached w n p (g, has, (taken, inl (c, there, is, cell))) = far w n (g, has, inr (inl (c, there, is, same_cell cell)))
      where
        same_cell : OfCell c.cell ≡ OfCell n → c.cell ≡ n
        same_cell e = cc
    bare_reached w n p (g, has, (taken, inr (y, shared, is, root))) = (let never : OfRoot (OfVariable 0 y) ≡ OfCell n = root in absurd (false≢true (ap is_of_cell_loc never)))

    pub bare_rests : (w : Way) (l : Loc) (p : List Step) → BareElsewhere older w l p
        → ((n : ℕ) × KeptElsewhere older w n × (l ≡ OfCell n)) ⊎ ((r : Root) × (w ≡ Object r) × (l ≡ OfRoot r))
    bare_rests w l p (g, has, (taken, inl (c, there, is, cell))) = inl (c.cell, (g, has, inr (inl (c, there, is, refl))), sym cell)
    bare_rests w l p (g, has, (taken, inr (y, shared, is, at))) = inr (OfVariable 0 y, sym is, sym at)

    pub bare_begins : (w : Way) (l : Loc) (p : List Step) → BareElsewhere older w l p
        → (f : ℕ) × (x : ℕ) × (base_of w ≡ OfRoot (OfVariable f x)) × ((f ≡ home s depth x → ⊥) ⊎ ((k : Loan) × IsLentFor k (along w p)))
    bare_begins w l p (g, has, (taken, inl (c, there, is, cell))) =
        let b = begins_elsewhere w c.cell (g, has, inr (inl (c, there, is, refl))) in (
          b.0,
          b.1,
          b.2,
          by_either b.3 (λ away. (inl away)) (λ (k, m). (inr (k, (m.0, m.1, under_along m.0 w p m.2, m.3)))),
        )
    bare_begins w l p (g, has, (taken, inr (y, shared, is, at))) = (
      0,
      y,
      ap base_of (sym is),
      by_either (between g has)
          (λ first. (absurd (subst (λ z. Has z (along w p)) (first.1).2 taken)))
          (λ (some, less, callee, backs, waits, shares). (inr (
            Borrowed,
            taken_lent g has some callee backs waits shares (along w p) taken y (along_base w p ∙ ap base_of (sym is)) shared (along w p) (under_itself (along w p)),
          ))),
    )

    -- what was taken is gone for them
    pub emptied_there : (w : Way) (l : Loc) (p : List Step) → BareElsewhere older w l p → (q : List Step)
        → IsFar depth (GoneElsewhere program effects older) (along w (q ++ p)) ⊎ (IsLentFor Borrowed (along w (q ++ p)) × GoneElsewhere program effects older (along w (q ++ p)))
    emptied_there w l p these q =
        let (g, has, bare) = these in
        let gone : GoneElsewhere program effects older (along w (q ++ p)) = (g, has, inr (along w p, bare.0, q, along_both w q p)) in
        by_either (near_or_far depth (along w (q ++ p))) (λ near. (inr (near_lent (along w (q ++ p)) near gone, gone))) (λ away. (inl (away, gone)))

    -- What concerns the innermost frame when it has their facts on package objects beside its own.
    abbrev pub beside_them : Around (home s depth)
    beside_them = record {
      lent = LentElsewhere older;
      gone = IsFar depth (GoneElsewhere program effects older);
      away = λ w. IsLentFor Borrowed w × GoneElsewhere program effects older w;
      through = λ w away. away.0;
      kept = KeptElsewhere older;
      begins = begins_elsewhere;
      bare = BareElsewhere older;
      rests = bare_rests;
      bares = bare_begins;
      emptied = emptied_there;
    }

    -- What they hand on: no fact of a moved place.
    abbrev pub handed : List Fact
    handed = loans_there older

    abbrev pub IsLentThere : Fact → Type 0
    IsLentThere f = (l : Loan) × (name : Name) × (f ≡ Lent l name.root name) × LentElsewhere older l name

    pub handed_lent : (f : Fact) → Has handed f → IsLentThere f
    handed_lent f has = loans_from older f has

    pub none_moved : (name : Name) → Has handed (Moved name) → ⊥
    none_moved name has = (let found = loans_from older (Moved name) has in let no : Moved name ≡ Lent found.0 (found.1).root found.1 = found.2 in absurd (false≢true (ap is_lent_fact no)))

    pub lent_handed : (l : Loan) (h : ℕ) (name : Name) → Has handed (Lent l h name) → (h ≡ name.root) × LentElsewhere older l name
    lent_handed l h name has =
        let found = loans_from older (Lent l h name) has in
        let is = loan_same l found.0 h (found.1).root name found.1 found.2 in (
          is.1 ∙ sym (ap (λ (z : Name). z.root) is.2),
          subst (λ z. LentElsewhere older l z) (sym is.2) (subst (λ z. LentElsewhere older z found.1) (sym is.0) found.3),
        )
