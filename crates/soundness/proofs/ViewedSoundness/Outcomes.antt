-- What instructions lead to in programs with borrowers and observers: conditions, assignments to
-- targets that aren't views, and ends of scopes.
use Rattle.std.proofs.Common.{◌≡◌, refl, sym, ap, ◌∙◌, subst, ◌⊎◌, inl, inr, ℕ, Bool, true, false, not, ◌&&◌, ◌||◌, List, [], ◌∷◌, ◌++◌, map, flat_map, reverse, take, drop, length, nat_lt, Some, None, if◌then◌else◌, eq-eqb}
use Rattle.std.proofs.lemmas.Bool.{true≢false}
use Rattle.machine.specs.spark_base.declared.position.Pos.{Pos}
use Rattle.machine.specs.place_names.declared.act.Act.TheVariants as act
use Rattle.machine.specs.place_names.declared.fact.Fact.{Fact}
use Rattle.machine.specs.place_names.Names.{Name as PlaceName}
use Rattle.machine.specs.place_names.Facts.{effect}
use Rattle.machine.specs.type_definitions.Types.{Table, full}
use Rattle.machine.specs.typed_tree.Trees.{TypedTree, TypedCode, Name, NoMore}
use Rattle.machine.specs.flow_paths.Objects.{Typing, object_at, is_anonymous, is_borrowing, is_observing, is_borrower, is_observer, is_variable}
use Rattle.machine.specs.flow_paths.Names.{has_call, waiting as waits_in, whole, whole_object, written, source}
use Rattle.machine.specs.flow_paths.Scopes.{taken}
use Rattle.machine.specs.flow_paths.Acts.{acts_in, stored_acts, assigned_to, source_acts, index_acts, reborrow, observe, target_pos as acts_target_pos}
use Rattle.machine.specs.Words as machine
use Rattle.machine.specs.Memory.{Memory, stored, given_up, undeclared}
use Rattle.machine.specs.Evaluate.{Here, Now, AsValue, Evaluated, Done, Raises, Traps, followed_by, evaluate, checked, value, viewed, place_of}
use Rattle.machine.specs.Evaluate as run
use Rattle.machine.specs.Calls.{checks_at}
use Rattle.machine.specs.States.{Waiting, Leak, State, Outcome, Goes, Ends}
use Rattle.machine.specs.Step.{Turn, counted, typing, here, start, waiting, Stored, taken_by, goes, behind, successor, leaking_goes, target_pos}
use Rattle.machine.specs.Step as steps
use Rattle.machine.specs.Owners.{waiting_in, WellOwned}
use Rattle.soundness.specs.OwnedWays.Ways.{Step, Loc, Way, Reaches, Under, Named, Allows, after, AllowsAll, number_of, base_of, OfRoot}
use Rattle.soundness.specs.OwnedWays.Ways as ways
use Rattle.soundness.specs.PartOffsets.Parts.{IsSettled}
use Rattle.soundness.specs.Seen.{IsNear, content, trunk, seen, home, is_view_formal}
use Rattle.soundness.specs.Changes.{leaks_at, Checks}
use Rattle.soundness.specs.Typed.{OwnsByShape, Kept}
use Rattle.soundness.specs.Sound.{IsTrap}
use Rattle.soundness.specs.Sound as sound
use Rattle.soundness.specs.TypedLaws.Needed.{Stays, Leads, Gives}
use Rattle.soundness.proofs.Contents.{bool_cases, all_checks, checks_made}
use Rattle.soundness.proofs.Steps.{alike}
use Rattle.soundness.proofs.OwnedLoans.Clear.{refused}
use Rattle.soundness.proofs.ViewedSoundness.Moments.{ended_viewed}
use Rattle.machine.specs.spark_base.Lists.{Has}
use Rattle.machine.specs.place_names.declared.fact.Fact.TheVariants.{Moved, Lent}
use Rattle.machine.specs.place_names.declared.rule.Loan.{Loan}
use Rattle.machine.specs.place_names.declared.rule.Loan.TheVariants.{Observed}
use Rattle.machine.specs.place_names.declared.rule.Rule.TheVariants.{O8}
use Rattle.machine.specs.place_names.Rules.{breaks_O8}
use Rattle.soundness.proofs.Numbers.{index_law}
use Rattle.soundness.proofs.Lasting.{keeps, removed_kept}
use Rattle.soundness.proofs.Raised.{raised_owned}
use Rattle.soundness.proofs.Scalars.{acts}
use Rattle.soundness.proofs.Stays.{Quiet, One}
use Rattle.soundness.proofs.Taking.{Takes, no_takes}
use Rattle.soundness.proofs.Waits.{take_none, drop_none, waits_of, led_waits}
use Rattle.soundness.specs.OwnedLoans.Views.{Around, Views, Viewed, HasLoan}
use Rattle.soundness.specs.ViewedSoundness.Holds.{IsNamed, PartsAreNamed, is_view, is_bundle, is_fixed, IsOwners, Holds, AllKeep, Seeing}
use Rattle.soundness.specs.ViewedSoundness.Taken.{GivesPlainly}
use Rattle.soundness.proofs.ViewedSoundness.ViewKinds.{not_view}
use Rattle.soundness.proofs.ViewedSoundness.Stays.{taking}
use Rattle.soundness.proofs.ViewedSoundness.Evaluated.{live_trunk}
use Rattle.soundness.proofs.ViewedSoundness.Stored.{Assigns, assigned_on}

-- ---- types of views, and acts

pub named_plain : (table : Table) (t : ℕ) → IsNamed table t → is_anonymous (full table t) ≡ false
named_plain table t named = by_kind (is_anonymous (full table t)) refl
  where
    by_kind : (b : Bool) → is_anonymous (full table t) ≡ b → is_anonymous (full table t) ≡ false
    by_kind true e = absurd (not_view table t e named)
    by_kind false e = e

no_and : (b c : Bool) → c ≡ false → b && c ≡ false
no_and true c e = e
no_and false c e = refl

neither : (a b : Bool) → a || b ≡ false → (a ≡ false) × (b ≡ false)
neither true b e = absurd (true≢false e)
neither false b e = (refl, e)

pub not_views : (s : Typing) (x : ℕ) → IsNamed s.table (object_at s x).of → (is_borrower s x ≡ false) × (is_observer s x ≡ false)
not_views s x named =
    let none = neither (is_borrowing (full s.table (object_at s x).of)) (is_observing (full s.table (object_at s x).of)) (named_plain s.table (object_at s x).of named) in (
      no_and (is_variable (object_at s x).kind) (is_borrowing (full s.table (object_at s x).of)) none.0,
      no_and (is_variable (object_at s x).kind) (is_observing (full s.table (object_at s x).of)) none.1,
    )

whole_stored : (s : Typing) (pos : Pos) (x : ℕ) (target e : TypedTree) → IsNamed s.table (object_at s x).of → assigned_to s pos (Some x) target e ≡ stored_acts s target e
whole_stored s pos x target e named =
    let none = not_views s x named in
    ap (λ b. if b then index_acts s e ++ reborrow (acts_target_pos pos (written target)) x (source e)
    else (if is_observer s x then source_acts s e (observe s x) else stored_acts s target e)) none.0
    ∙ ap (λ b. if b then source_acts s e (observe s x) else stored_acts s target e) none.1

-- a target of a named type isn't a view
pub assigned_acts : (s : Typing) (pos : Pos) (x u : ℕ) (target path e : TypedTree) → IsNamed s.table u → Leads s (object_at s x).of path u
    → assigned_to s pos (whole_object x path) target e ≡ stored_acts s target e
unfolding Leads
assigned_acts s pos x u target NoMore e named lead = whole_stored s pos x target e (subst (IsNamed s.table) (sym lead) named)
assigned_acts s pos x u target path e named lead = refl

-- ---- outcomes

module _ (t : Turn) (sees : ℕ → Bool) (seeing : Seeing (typing t) sees) (settled : IsSettled (typing t).table) (own_law : OwnsByShape (typing t).table) (other : Around (home (typing t) (length t.outer)))
    (alone : (w : Way) → IsNear (length t.outer) w → other.gone w → ⊥)
    (v : Views) (parts_named : PartsAreNamed (typing t).table) (may : ℕ → ℕ → Type 0)
    (frames : t.state.frames ≡ t.frame ∷ t.outer) (none : taken t.point.instr ≡ 0) where
  abbrev s : Typing
  s = typing t

  abbrev pub depth : ℕ
  depth = length t.outer

  abbrev pub hands : List Waiting
  hands = waiting_in t.state

  -- What a state has to be: sound with views under these facts, with typed words.
  pub record IsGood (views : Views) (facts : List Fact) (state : State) : Type 0 where
    pub viewed : Viewed (home s depth) sees other views (sound.view_of s state) facts
    pub kept : Kept s state.memory (waiting_in state)
    pub holds : Holds s sees depth views state.memory

  -- A view has what it had.
  pub record IsSame (views : Views) (x : ℕ) : Type 0 where
    pub way : views.way x ≡ v.way x
    pub loan : views.loan x ≡ v.loan x
    pub up : views.up x ≡ v.up x

  -- A view got its way from an object, or from the way of one that is a view itself, or of a part of one.
  pub record Comes (views : Views) (facts : List Fact) (x y : ℕ) (w : Way) : Type 0 where
    pub up : Named (home s depth) (views.up x) → (number_of (views.up x) ≡ y)
        ⊎ ((k : Way) × (v.way y ≡ Some k) × (number_of (views.up x) ≡ number_of (v.up y)) × (Named (home s depth) (views.up x) → Named (home s depth) (v.up y)))
    pub root : ((base_of w ≡ OfRoot (ways.OfVariable (home s depth y) y)) × (y ≡ x → ⊥))
        ⊎ (((k : Way) × (v.way y ≡ Some k) × (base_of w ≡ base_of k)) ⊎ ((p : List Step) × (k : Way) × (v.part_way y p ≡ Some k) × (base_of w ≡ base_of k)))
    pub loan : Named (home s depth) (views.up x) → sees x ≡ true → (Has facts (Lent Observed x (ways.name_of (views.loan x))))
        ⊎ ((k : Way) × (v.way y ≡ Some k) × (sees y ≡ true) × (views.loan x ≡ v.loan y) × (Named (home s depth) (views.up x) → Named (home s depth) (v.up y)))
    pub under : is_bundle s y ≡ false → is_view s y ≡ true → (k : Way) × (v.way y ≡ Some k) × Under k w

  -- Each view has what it had, or got its way from an object that it may have it from.
  -- The parts of formals have what they had.
  abbrev pub SameParts : Views → Type 0
  SameParts views = (x : ℕ) (p : List Step) → (views.part_way x p ≡ v.part_way x p) × (views.part_cell x p ≡ v.part_cell x p)

  abbrev pub Turned : Views → List Fact → Type 0
  Turned views facts = ((x : ℕ) (w : Way) → views.way x ≡ Some w → IsSame views x ⊎ ((y : ℕ) × may x y × Comes views facts x y w)) × SameParts views

  -- What an outcome has to be: such a state, where views may have got other ways; and no trap, in a
  -- well owned state.
  abbrev pub Leads_on : List Fact → Outcome → Type 0
  Leads_on facts (Goes state) = (views : Views) × Turned views facts × IsGood views facts state
  Leads_on facts (Ends e state) = (IsTrap e → ⊥) × WellOwned s state

  -- where the step raises
  pub raises : (facts : List Fact) → IsGood v facts t.state → (m : Memory) → WellOwned s (counted (record t.state { memory = given_up t.state.memory m }))
  raises facts good m = raised_owned s settled own_law t.state good.viewed.owned good.viewed.covered m

  abbrev Raises_well : Type 0
  Raises_well = (m : Memory) → WellOwned s (counted (record t.state { memory = given_up t.state.memory m }))

  abbrev pub now : Now
  now = record { memory = t.state.memory; waits = [] }

  -- with these values, which the instruction takes
  abbrev pub at : List (List machine.Word) → Now
  at ws = record { memory = t.state.memory; waits = ws }

  pub start_is : start t ≡ record { memory = t.state.memory; waits = [] }
  start_is =
      (λ j. record { memory = t.state.memory; waits = map (λ (v : Waiting). v.words) (reverse (take (none j) t.frame.waits)) })
      ∙ ap (λ z. record { memory = t.state.memory; waits = map (λ (v : Waiting). v.words) (reverse z) }) (take_none t.frame.waits)

  -- what waits, waits on
  pub hands_behind : (m : Memory) (k : ℕ) → waiting_in (behind t (waiting t) m k) ≡ hands
  hands_behind m k =
      led_waits t (record t.frame { waits = waiting t }) (successor t k)
      ∙ ap (λ n. drop n t.frame.waits ++ flat_map waits_of t.outer) none
      ∙ ap (λ z. z ++ flat_map waits_of t.outer) (drop_none t.frame.waits)
      ∙ sym (ap (flat_map waits_of) frames)

  pub unturned : (facts : List Fact) → Turned v facts
  unturned facts = (λ x w e. inl (record { way = refl; loan = refl; up = refl }), λ x p. (refl, refl))

  -- the state afterwards
  pub goes_to : (m : Memory) (k : ℕ) (views : Views) (facts : List Fact) → Turned views facts → Viewed (home s depth) sees other views (seen s m hands t.state.leaks) facts
      → Kept s m hands → Holds s sees depth views m → Leads_on facts (goes t m k)
  goes_to m k views facts turned viewed kept holds = (
    views,
    turned,
    record {
      viewed = subst (λ z. Viewed (home s depth) sees other views (seen s m z t.state.leaks) facts) (sym (hands_behind m k)) viewed;
      kept = subst (Kept s m) (sym (hands_behind m k)) kept;
      holds = record {
        held = holds.held;
        only = holds.only;
        owners = holds.owners;
        access = holds.access;
        own = holds.own;
        taken = holds.taken;
        parts = record { held = holds.parts.held; only = holds.parts.only; owners = holds.parts.owners; looks = holds.parts.looks };
      };
    },
  )

  pub goes_on : (m : Memory) (checks : List (List Leak)) (leaks : List Leak) → flat_map (λ (z : List Leak). z) checks ≡ leaks → (views : Views)
      → (facts : List Fact) → Turned views facts → Viewed (home s depth) sees other views (seen s m hands (t.state.leaks ++ leaks)) facts → Kept s m hands
      → Holds s sees depth views m → Leads_on facts (leaking_goes checks (goes t m 0))
  goes_on m checks leaks same views facts turned viewed kept holds = (
    views,
    turned,
    record {
      viewed = subst (λ z. Viewed (home s depth) sees other views (seen s m z (t.state.leaks ++ flat_map (λ (z : List Leak). z) checks)) facts) (sym (hands_behind m 0))
          (subst (λ z. Viewed (home s depth) sees other views (seen s m hands (t.state.leaks ++ z)) facts) (sym same) viewed);
      kept = subst (Kept s m) (sym (hands_behind m 0)) kept;
      holds = record {
        held = holds.held;
        only = holds.only;
        owners = holds.owners;
        access = holds.access;
        own = holds.own;
        taken = holds.taken;
        parts = record { held = holds.parts.held; only = holds.parts.only; owners = holds.parts.owners; looks = holds.parts.looks };
      };
    },
  )

  -- ---- conditions

  pub live : (facts : List Fact) (good : IsGood v facts t.state) → (w : Way) (l : Loc) → IsOwners s w → Reaches (seen s t.state.memory hands t.state.leaks) w l
      → (content s t.state.memory hands (trunk l)).owns ≡ true
  live facts good = live_trunk (here t) sees seeing settled t.state.leaks [] other alone (keeps s settled own_law) index_law own_law v parts_named t.state.memory hands good.viewed.owned

  then_on : {A : Type 0} (P : A → Type 0) (facts : List Fact) → IsGood v facts t.state → (y : Evaluated A) → Quiet now P y → (k : A → ℕ)
      → Leads_on facts (steps.evaluated t y (λ a m. goes t m (k a)))
  then_on P facts good (Done a n) (same, p) k =
      subst (λ (z : Now). Leads_on facts (goes t z.memory (k a))) (sym same) (goes_to t.state.memory (k a) v facts (unturned facts) good.viewed good.kept good.holds)
  then_on P facts good (Raises e n) is k = (λ trap. trap, raises facts good n.memory)
  then_on P facts good (Traps e n) never k = absurd never

  -- a scalar expression
  pub scalar_taken : (ws : List (List machine.Word)) (e : TypedTree) → Stays s e → Takes (waits_in e) ws [] → (facts : List Fact) → IsGood v facts t.state
      → AllowsAll facts (acts (acts_in s e)) → Quiet now One (value (here t) e (at ws)) × (after (acts (acts_in s e)) facts ≡ facts)
  scalar_taken ws e stays takes facts good allowed =
      taking (here t) sees seeing settled hands t.state.leaks t.state.memory [] other facts v good.kept good.viewed good.holds alone (live facts good)
      index_law own_law parts_named AsValue e stays ws [] takes allowed

  -- its value says where it goes on
  pub decides_on : (ws : List (List machine.Word)) (e : TypedTree) → Stays s e → Takes (waits_in e) ws [] → (facts : List Fact) → IsGood v facts t.state
      → AllowsAll facts (acts (acts_in s e)) → (k : List machine.Word → ℕ)
      → Leads_on (after (acts (acts_in s e)) facts) (steps.evaluated t (value (here t) e (at ws)) (λ ws m. goes t m (k ws)))
  decides_on ws e stays takes facts good allowed k =
      let q = scalar_taken ws e stays takes facts good allowed in
      subst (λ z. Leads_on z (steps.evaluated t (value (here t) e (at ws)) (λ ws m. goes t m (k ws)))) (sym q.1)
      (then_on One facts good (value (here t) e (at ws)) q.0 k)

  pub test_leads : (e : TypedTree) → Stays s e → has_call e ≡ false → (facts : List Fact) → IsGood v facts t.state → AllowsAll facts (acts (acts_in s e))
      → Leads_on (after (acts (acts_in s e)) facts) (steps.test t e 0 1)
  test_leads e stays calls facts good allowed =
      subst (λ z. Leads_on (after (acts (acts_in s e)) facts) (steps.evaluated t (value (here t) e z) (λ ws m. goes t m (if run.is_true ws then 0 else 1)))) (sym start_is)
      (decides_on [] e stays (no_takes e calls []) facts good allowed (λ ws. if run.is_true ws then 0 else 1))

  -- the first alternative that fits, or an exception
  chosen_leads : (count k : ℕ) (facts : List Fact) → IsGood v facts t.state → Leads_on facts (steps.chosen t count k t.state.memory)
  chosen_leads count k facts good = elim (bool_cases (nat_lt k count)) [
    | inl fits ↦ subst (λ b. Leads_on facts (if b then goes t t.state.memory k else steps.raised t run.ConstraintError t.state.memory)) (sym fits)
        (goes_to t.state.memory k v facts (unturned facts) good.viewed good.kept good.holds)
    | inr none_fits ↦ subst (λ b. Leads_on facts (if b then goes t t.state.memory k else steps.raised t run.ConstraintError t.state.memory)) (sym none_fits)
        ((λ trap. trap), raises facts good t.state.memory)
  ]

  then_chosen : (count : ℕ) (choice : List machine.Word → ℕ) (facts : List Fact) → IsGood v facts t.state → (y : Evaluated (List machine.Word)) → Quiet now One y
      → Leads_on facts (steps.evaluated t y (λ ws m. steps.chosen t count (choice ws) m))
  then_chosen count choice facts good (Done a n) (same, p) =
      subst (λ (z : Now). Leads_on facts (steps.chosen t count (choice a) z.memory)) (sym same) (chosen_leads count (choice a) facts good)
  then_chosen count choice facts good (Raises e n) is = ((λ trap. trap), raises facts good n.memory)
  then_chosen count choice facts good (Traps e n) never = absurd never

  pub choose_on : (ws : List (List machine.Word)) (e : TypedTree) (choices : List TypedCode) → Stays s e → Takes (waits_in e) ws [] → (facts : List Fact)
      → IsGood v facts t.state → AllowsAll facts (acts (acts_in s e))
      → Leads_on (after (acts (acts_in s e)) facts) (steps.evaluated t (value (here t) e (at ws)) (λ ws m. steps.chosen t (length choices) (steps.choice choices ws) m))
  choose_on ws e choices stays takes facts good allowed =
      let q = scalar_taken ws e stays takes facts good allowed in
      subst (λ z. Leads_on z (steps.evaluated t (value (here t) e (at ws)) (λ ws m. steps.chosen t (length choices) (steps.choice choices ws) m))) (sym q.1)
      (then_chosen (length choices) (steps.choice choices) facts good (value (here t) e (at ws)) q.0)

  -- ---- assignments to targets that aren't views

  abbrev Assigns_here : List Fact → Evaluated Stored → Type 0
  Assigns_here facts x = Assigns (here t) sees seeing settled t.state.leaks [] other alone (keeps s settled own_law) index_law own_law v parts_named hands facts x

  -- what was found is stored
  pub stored_goes : (facts : List Fact) (pos : Pos) (st : Stored) (n : Now) → Assigns_here facts (Done st n)
      → Leads_on facts (leaking_goes (checks_at s pos n.memory st.place) (goes t (stored s st.place st.words n.memory) 0))
  stored_goes facts pos st n (viewed, kept, holds) =
      goes_on (stored s st.place st.words n.memory) (checks_at s pos n.memory st.place) (leaks_at s pos n.memory st.place)
      (all_checks s pos n.memory st.place) v facts (unturned facts) (viewed pos) kept holds

  then_stored : Raises_well → (facts : List Fact) (pos : Pos) (y : Evaluated Stored) → Assigns_here facts y
      → Leads_on facts (steps.evaluated t y (λ (st : Stored) m. leaking_goes (checks_at s pos m st.place) (goes t (stored s st.place st.words m) 0)))
  then_stored well facts pos (Done st n) given = stored_goes facts pos st n given
  then_stored well facts pos (Raises e n) given = (λ trap. trap, well n.memory)
  then_stored well facts pos (Traps e n) never = absurd never

  pub assign_on : (ws mid : List (List machine.Word)) (pos p : Pos) (x u : ℕ) (path e : TypedTree) → IsNamed s.table u → Gives s u e
      → Leads s (object_at s x).of path u → GivesPlainly s e → Takes (waits_in e) ws mid → Takes (waits_in path) mid [] → (facts : List Fact) → IsGood v facts t.state
      → AllowsAll facts (acts (assigned_to s pos (whole (Name p x path u)) (Name p x path u) e))
      → AllKeep (is_fixed s sees) (acts (assigned_to s pos (whole (Name p x path u)) (Name p x path u) e))
      → Leads_on (after (acts (assigned_to s pos (whole (Name p x path u)) (Name p x path u) e)) facts)
      (steps.evaluated t (followed_by (taken_by t u e (at ws)) (λ ws now. followed_by (place_of (here t) (Name p x path u) now) (λ k now. Done (record { words = ws; place = k }) now)))
      (λ (st : Stored) m. leaking_goes (checks_at s (target_pos t (Name p x path u)) m st.place) (goes t (stored s st.place st.words m) 0)))
  assign_on ws mid pos p x u path e named gives lead calls takes takes' facts good allowed keep =
      let target : TypedTree = Name p x path u in
      let same = assigned_acts s pos x u target path e named lead in
      let h : Here = here t in
      let placed : List machine.Word → Now → Evaluated Stored = (λ ws now. followed_by (place_of h target now) (λ k now. Done (record { words = ws; place = k }) now)) in
      let after_that : Stored → Memory → Outcome =
      (λ (st : Stored) m. leaking_goes (checks_at s (target_pos t target) m st.place) (goes t (stored s st.place st.words m) 0)) in
      subst (λ z. Leads_on (after (acts z) facts) (steps.evaluated t (followed_by (taken_by t u e (at ws)) placed) after_that)) (sym same)
      (subst (λ b. Leads_on (after (acts (stored_acts s target e)) facts)
      (steps.evaluated t (followed_by (if b then viewed h e (at ws) else followed_by (value h e (at ws)) (checked h u)) placed) after_that)) (sym (named_plain s.table u named))
      (then_stored (raises facts good) (after (acts (stored_acts s target e)) facts) (target_pos t target) (followed_by (followed_by (evaluate h AsValue e (at ws)) (checked h u)) placed)
      (assigned_on h sees seeing settled t.state.leaks [] other alone (keeps s settled own_law) index_law own_law v parts_named ws mid [] p x u path e named gives lead calls takes takes'
      t.state.memory hands facts (record { viewed = good.viewed; kept = good.kept; holds = good.holds })
      (subst (λ z. AllowsAll facts (acts z)) same allowed) (subst (λ z. AllKeep (is_fixed s sees) (acts z)) same keep))))

  abbrev m : Memory
  m = t.state.memory

  -- ---- the end of a scope

  -- What is left when an object's scope ends: the ways of other views don't begin there, and other
  -- observers go by loans that stay.
  pub record LeavesOthers (views : Views) (x : ℕ) (facts : List Fact) : Type 0 where
    pub no_value : views.way x ≡ None
    pub roots : (y : ℕ) (w : Way) → views.way y ≡ Some w → Named (home s depth) w → number_of w ≡ x → ⊥
    pub loans : (y : ℕ) (w : Way) → views.way y ≡ Some w → Named (home s depth) (views.up y) → sees y ≡ true → HasLoan sees true y facts (ways.name_of (views.loan y))
    pub unlent : (l : Loan) (n : PlaceName) → other.lent l n → n.root ≡ x → ⊥

  -- What is left when a scope ends, with the memory then.
  abbrev pub Is_left : Views → ℕ → List Fact → Outcome → Type 0
  Is_left views x facts (Goes state) =
      Viewed (home s depth) sees other views (sound.view_of s state) facts × Kept s state.memory (waiting_in state)
      × (state.memory ≡ undeclared depth x m)
  Is_left views x facts (Ends e state) = ⊥

  is_left : (views : Views) (x : ℕ) (checks : List (List Leak)) (leaks : List Leak) (facts : List Fact) → flat_map (λ (z : List Leak). z) checks ≡ leaks
      → Viewed (home s depth) sees other views (seen s (undeclared depth x m) hands (t.state.leaks ++ leaks)) facts
      → Kept s (undeclared depth x m) hands → Is_left views x facts (leaking_goes checks (goes t (undeclared depth x m) 0))
  is_left views x checks leaks facts same viewed kept = (
    subst (λ z. Viewed (home s depth) sees other views (seen s (undeclared depth x m) z (t.state.leaks ++ flat_map (λ (z : List Leak). z) checks)) facts) (sym (hands_behind (undeclared depth x m) 0))
        (subst (λ z. Viewed (home s depth) sees other views (seen s (undeclared depth x m) hands (t.state.leaks ++ z)) facts) (sym same) viewed),
    subst (Kept s (undeclared depth x m)) (sym (hands_behind (undeclared depth x m) 0)) kept,
    refl,
  )

  -- the scope of an object ends that has no way of its own
  pub scope_left : (views : Views) (x : ℕ) (borrower : Bool) → home s depth x ≡ depth → is_view_formal s x ≡ false → (facts : List Fact)
      → Viewed (home s depth) sees other views (seen s m hands t.state.leaks) facts → Kept s m hands
      → LeavesOthers views x (effect (act.EndScope x borrower) facts) → Is_left views x (effect (act.EndScope x borrower) facts) (steps.end_scope t x)
  scope_left views x borrower mine owns facts viewed kept leaves =
      let leaks : List Leak = leaks_at s t.point.pos m (run.variable_place (here t) x) in
      let checks : Checks s.table (content s m hands (OfRoot (ways.OfVariable (home s depth x) x))) [] t.state.leaks (t.state.leaks ++ leaks) =
      checks_made s.table settled (content s m hands (OfRoot (ways.OfVariable (home s depth x) x))) [] (object_at s x).of t.point.pos t.state.leaks refl
      (ap not owns) (alike s.table settled (object_at s x).of (object_at s x).of (inl refl)) in
      is_left views x (checks_at s t.point.pos m (run.variable_place (here t) x)) leaks (effect (act.EndScope x borrower) facts)
      (all_checks s t.point.pos m (run.variable_place (here t) x))
      (subst (λ f. Viewed (home s depth) sees other views (seen s (undeclared f x m) hands (t.state.leaks ++ leaks)) (effect (act.EndScope x borrower) facts)) mine
      (ended_viewed s settled (home s depth) sees other views m hands t.state.leaks (t.state.leaks ++ leaks) facts x borrower viewed checks
      (record { none = leaves.no_value; roots = leaves.roots; loans = leaves.loans; unlent = leaves.unlent })))
      (removed_kept s settled m depth x hands kept)

-- what a borrower's end asks of facts
pub borrower_unmoved : (facts : List Fact) (x : ℕ) → Allows facts (act.EndScope x true) → (n : PlaceName) → Has facts (Moved n) → n.root ≡ x → ⊥
borrower_unmoved facts x allowed n has e =
    refused (breaks_O8 x true (Moved n)) O8 n (Moved n) (ap (λ b. b || false) (eq-eqb x n.root (sym e))) (allowed (Moved n) has)
