-- Facts without an element stay exact in instructions of programs with borrowers and observers, and their excused leak
-- checks don't fail. What is exact is said with the ways that views had before; that a view got another way is
-- `told_turned` of `Steps`.
use Rattle.std.proofs.Common.{◌≡◌, refl, sym, ap, ◌∙◌, subst, ◌⊎◌, inl, inr, ℕ, Bool, true, false, not, List, [], ◌∷◌, ◌++◌, map, length, ◌+◌, append-nil, Some, if◌then◌else◌}
use Rattle.std.proofs.lemmas.Bool.{false≢true}
use Rattle.soundness.specs.ViewedSoundness.Taken.{GivesPlainly}
use Rattle.machine.specs.place_names.declared.rule.Loan.{Loan}
use Rattle.machine.specs.place_names.declared.rule.Loan.TheVariants.{Borrowed}
use Rattle.machine.specs.spark_base.Lists.{Has}
use Rattle.machine.specs.spark_base.declared.position.Pos.{Pos}
use Rattle.machine.specs.place_names.declared.act.Act.TheVariants as act
use Rattle.machine.specs.place_names.declared.fact.Fact.{Fact}
use Rattle.machine.specs.place_names.declared.fact.Fact.TheVariants.{Moved}
use Rattle.machine.specs.place_names.Names.{Name as PlaceName, object}
use Rattle.machine.specs.place_names.Facts.{effect}
use Rattle.machine.specs.type_definitions.Types.{full, parts}
use Rattle.machine.specs.typed_tree.Trees.{TypedTree, Name, NoMore, More}
use Rattle.machine.specs.flow_paths.declared.point.LeakSpot.{LeakSpot}
use Rattle.machine.specs.flow_paths.Instructions.{Skip}
use Rattle.machine.specs.flow_paths.Objects.{Typing, object_at, is_observer, is_anonymous, view_of}
use Rattle.machine.specs.flow_paths.Names.{name_of, first, waiting as waits_in}
use Rattle.machine.specs.flow_paths.Scopes.{taken}
use Rattle.machine.specs.flow_paths.Acts.{acts_in, stored_acts, declared_acts, source_acts, observe, spot}
use Rattle.machine.specs.Words as machine
use Rattle.machine.specs.Memory.{Memory, declared, undeclared, stored}
use Rattle.machine.specs.Evaluate.{Here, Now, AsValue, Evaluated, Done, Raises, Traps, followed_by, evaluate, initial, checked, value, viewed, place_of, variable_place}
use Rattle.machine.specs.Calls.{checks_at}
use Rattle.machine.specs.States.{Waiting, Leak, Outcome, Goes, Ends}
use Rattle.machine.specs.Step.{Turn, typing, here, Stored, first_value, taken_by, goes, leaking_goes, target_pos}
use Rattle.machine.specs.Step as steps
use Rattle.machine.specs.Owners.{waiting_in}
use Rattle.soundness.specs.OwnedWays.Ways.{Step, IsMoved, OfVariable, OfRoot, Way, Object, Empty, Held, View, Under, Named, IsSame, after, AllowsAll, number_of, name_of as way_name, base_of}
use Rattle.soundness.proofs.OwnedWays.Named.{longer}
use Rattle.soundness.proofs.OwnedWays.Dropped.{named_base}
use Rattle.soundness.specs.PartOffsets.Parts.{IsSettled}
use Rattle.soundness.specs.Seen.{content, home, seen, IsNear, is_view_formal, word_in}
use Rattle.soundness.specs.Typed.{OwnsByShape}
use Rattle.soundness.specs.TypedLaws.Needed.{Stays, Gives, Leads, Source, FirstSource}
use Rattle.soundness.proofs.Near.{near_under}
use Rattle.soundness.proofs.Contents.{word_no, checks_made, word_dead}
use Rattle.soundness.proofs.Steps.{alike}
use Rattle.soundness.proofs.Scalars.{acts}
use Rattle.soundness.proofs.Stays.{Quiet, One}
use Rattle.soundness.proofs.Numbers.{index_law}
use Rattle.soundness.proofs.Lasting.{keeps}
use Rattle.soundness.specs.OwnedLoans.Views.{Around, Views, expand, Viewed}
use Rattle.soundness.specs.ViewedSoundness.Holds.{is_fixed, IsNamed, PartsAreNamed, AllKeep, is_view, Seeing}
use Rattle.soundness.proofs.ViewedSoundness.ViewKinds.{true_false}
use Rattle.soundness.proofs.ViewedSoundness.Evaluated.{Given}
use Rattle.soundness.proofs.ViewedSoundness.Viewing.{view_leaf, view_unseen}
use Rattle.soundness.proofs.ViewedSoundness.Outcomes.{named_plain, not_views, IsGood, scalar_taken}
use Rattle.viewed_steps.proofs.Declared.{IsUnmoved, IsFree, stands_root, first_given}
use Rattle.soundness.specs.ExactFacts.Exact.{NoneFails, Knows}
use Rattle.soundness.proofs.ExactFacts.Steps.{IsPlaced, keeps_placed}
use Rattle.soundness.proofs.ExactFacts.Checks.{none_made}
use Rattle.soundness.proofs.Taking.{Takes, takes_as, nothing_more}
use Rattle.recycled_runs.specs.ViewedFacts.Exact.{IsDefinite, IsExact}
use Rattle.recycled_runs.proofs.ViewedFacts.Steps.{IsAway, definite_variable, told_still, told_fewer, told_turned, IsOthers, of_others}
use Rattle.recycled_runs.proofs.ViewedFacts.Memories.{told_seen, exact_from, declared_exact, ended_exact}
use Rattle.soundness.proofs.OwnedLoans.Ways.{home_or_foreign, under_on}
use Rattle.recycled_runs.proofs.ViewedFacts.Evaluated.{ExactTo, checked_exact, exact_on}
use Rattle.recycled_runs.proofs.ViewedFacts.Stored.{StoresExact, assigned_exact}
use Rattle.recycled_runs.proofs.ViewedFacts.Checks.{place_holds}
use Rattle.viewed_steps.proofs.Views.{AreAccess, same_named, view_cases}
use Rattle.soundness.proofs.OwnedLoans.Meeting.{no_part, stands}
use Rattle.recycled_runs.proofs.ViewedFacts.Constructors.{is_held_word}
use Rattle.soundness.proofs.Parted.{by_either}

same_frame : (f x g y : ℕ) → OfRoot (OfVariable f x) ≡ OfRoot (OfVariable g y) → f ≡ g
same_frame f x g y e = cc

module _ (t : Turn) (sees : ℕ → Bool) (seeing : Seeing (typing t) sees) (settled : IsSettled (typing t).table) (own_law : OwnsByShape (typing t).table) (other : Around (home (typing t) (length t.outer)))
    (alone : (w : Way) → IsNear (length t.outer) w → other.gone w → ⊥) (in_formals : AreAccess (typing t))
    (v : Views) (parts_named : PartsAreNamed (typing t).table) (may : ℕ → ℕ → Type 0)
    (frames : t.state.frames ≡ t.frame ∷ t.outer) (none : taken t.point.instr ≡ 0)
    (elsewhere : Way → Type 0) (away : (w : Way) → elsewhere w → IsAway (typing t) (length t.outer) other w) (Excused : LeakSpot → Type 0) where
  abbrev s : Typing
  s = typing t

  abbrev depth : ℕ
  depth = length t.outer

  abbrev hands : List Waiting
  hands = waiting_in t.state

  abbrev m : Memory
  m = t.state.memory

  abbrev now : Now
  now = record { memory = t.state.memory; waits = [] }

  abbrev Good : List Fact → Type 0
  Good facts = IsGood t sees seeing settled own_law other alone v parts_named may frames none v facts t.state

  abbrev Exact : Memory → List Fact → Type 0
  Exact n facts = IsExact s (home s depth) v elsewhere n facts

  apart : (w : Way) → elsewhere w → IsOthers (home s depth) other w
  apart w e = of_others s depth other w (away w e)

  -- before these values are taken
  abbrev at : List (List machine.Word) → Now
  at ws = record { memory = t.state.memory; waits = ws }

  abbrev ExactTo_here : List Fact → Evaluated (List machine.Word) → Type 0
  ExactTo_here facts y = ExactTo (here t) sees seeing settled t.state.leaks [] other alone (keeps s settled own_law) index_law own_law v parts_named elsewhere away facts y

  -- Facts are exact where the step goes on, and of these leak checks none fails that is excused.
  abbrev pub ExactOn : List Fact → List LeakSpot → Outcome → Type 0
  ExactOn facts spots (Goes state) = IsExact (typing t) (home (typing t) (length t.outer)) v elsewhere state.memory facts × NoneFails Excused spots state.checks
  ExactOn facts spots (Ends e state) = NoneFails Excused spots state.checks

  -- ---- what changes nothing

  quiet_on : {A : Type 0} (P : A → Type 0) (facts : List Fact) → Exact m facts → (y : Evaluated A) → Quiet now P y → (f : A → Memory → Outcome)
      → ((a : A) → P a → ExactOn facts [] (f a m)) → ExactOn facts [] (steps.evaluated t y f)
  quiet_on P facts exact (Done a n) (same, p) f next = subst (λ (z : Now). ExactOn facts [] (f a z.memory)) (sym same) (next a p)
  quiet_on P facts exact (Raises e n) is f next = tt
  quiet_on P facts exact (Traps e n) never f next = tt

  -- a scalar expression, which takes these values, and what is done with its value
  pub value_on : (ws : List (List machine.Word)) (e : TypedTree) → Stays s e → Takes (waits_in e) ws [] → (facts : List Fact) → Good facts
      → AllowsAll facts (acts (acts_in s e)) → Exact m facts → (f : List machine.Word → Memory → Outcome) → ((vs : List machine.Word) → ExactOn facts [] (f vs m))
      → ExactOn (after (acts (acts_in s e)) facts) [] (steps.evaluated t (value (here t) e (at ws)) f)
  value_on ws e stays takes facts good allowed exact f next =
      let q = scalar_taken t sees seeing settled own_law other alone v parts_named may frames none ws e stays takes facts good allowed in
      subst (λ z. ExactOn z [] (steps.evaluated t (value (here t) e (at ws)) f)) (sym q.1)
      (quiet_on One facts exact (value (here t) e (at ws)) q.0 f (λ vs one. next vs))

  -- a value that waits then
  pub waits_exact : (facts : List Fact) → (y : Evaluated (List machine.Word)) → ExactTo_here facts y → (f : List machine.Word → Memory → Outcome)
      → ((ws : List machine.Word) (n : Memory) → Exact n facts → ExactOn facts [] (f ws n)) → ExactOn facts [] (steps.evaluated t y f)
  waits_exact facts (Done ws n) exact f next = next ws n.memory exact
  waits_exact facts (Raises e n) exact f next = tt
  waits_exact facts (Traps e n) exact f next = tt

  pub skip_exact : (facts : List Fact) → Exact m facts → ExactOn facts [] (steps.turn t Skip)
  skip_exact facts exact = (exact, tt)

  -- ---- assignments to what isn't a view

  pub then_stored : (name : PlaceName) (u : ℕ) (before facts : List Fact) (pos pos' : Pos) (count : ℕ) → Knows Excused pos' name count before (parts s.table u)
      → (y : Evaluated Stored)
      → StoresExact (here t) sees seeing settled t.state.leaks [] other alone (keeps s settled own_law) index_law own_law v parts_named elsewhere away Excused name u before facts y
      → ExactOn facts (map (spot pos' name count) (parts s.table u))
      (steps.evaluated t y (λ (st : Stored) n. leaking_goes (checks_at s pos n st.place) (goes t (stored s st.place st.words n) 0)))
  then_stored name u before facts pos pos' count known (Done st n) given = (given.0, given.1 pos pos' count known)
  then_stored name u before facts pos pos' count known (Raises e n) given = none_made Excused (map (spot pos' name count) (parts s.table u))
  then_stored name u before facts pos pos' count known (Traps e n) given = none_made Excused (map (spot pos' name count) (parts s.table u))

  -- what is done with the value and the place
  abbrev pub stored_at : Pos → Stored → Memory → Outcome
  stored_at pos st n = leaking_goes (checks_at (typing t) pos n st.place) (goes t (stored (typing t) st.place st.words n) 0)

  abbrev pub found_at : TypedTree → List machine.Word → Now → Evaluated Stored
  found_at target ws n = followed_by (place_of (here t) target n) (λ k n. Done (record { words = ws; place = k }) n)

  pub assign_on : (ws mid : List (List machine.Word)) (p : Pos) (x u : ℕ) (path e : TypedTree) → IsNamed s.table u → Gives s u e → Leads s (object_at s x).of path u
      → GivesPlainly s e → Takes (waits_in e) ws mid → Takes (waits_in path) mid [] → (facts : List Fact) → Good facts
      → AllowsAll facts (acts (stored_acts s (Name p x path u) e)) → AllKeep (is_fixed s sees) (acts (stored_acts s (Name p x path u) e))
      → Exact m facts
      → (count : ℕ) → Knows Excused p (name_of x path) count (after (acts (acts_in s e ++ acts_in s path)) facts) (parts s.table u)
      → ExactOn (after (acts (stored_acts s (Name p x path u) e)) facts) (map (spot p (name_of x path) count) (parts s.table u))
      (steps.evaluated t (followed_by (taken_by t u e (at ws)) (found_at (Name p x path u))) (stored_at (target_pos t (Name p x path u))))
  assign_on ws mid p x u path e named gives lead calls takes takes' facts good allowed keep exact count known =
      let target : TypedTree = Name p x path u in
      let h : Here = here t in
      let spots : List LeakSpot = map (spot p (name_of x path) count) (parts s.table u) in
      subst (λ b. ExactOn (after (acts (stored_acts s target e)) facts) spots
      (steps.evaluated t (followed_by (if b then viewed h e (at ws) else followed_by (value h e (at ws)) (checked h u)) (found_at target)) (stored_at (target_pos t target))))
      (sym (named_plain s.table u named))
      (then_stored (name_of x path) u (after (acts (acts_in s e ++ acts_in s path)) facts) (after (acts (stored_acts s target e)) facts) (target_pos t target) p count known
      (followed_by (followed_by (evaluate h AsValue e (at ws)) (checked h u)) (found_at target))
      (assigned_exact h sees seeing settled t.state.leaks [] other alone (keeps s settled own_law) index_law own_law v parts_named elsewhere away Excused ws mid [] p x u path e named gives lead
      calls takes takes' m hands facts (record { viewed = good.viewed; kept = good.kept; holds = good.holds }) allowed keep exact))

  -- ---- a variable is declared that no fact speaks of

  abbrev Speaks_not : ℕ → List Fact → Type 0
  Speaks_not x facts =
      IsUnmoved t sees seeing settled own_law other alone in_formals v parts_named may frames none x facts × IsFree t sees seeing settled own_law other alone in_formals v parts_named may frames none x

  abbrev Given_here : ℕ → List Fact → Evaluated (List machine.Word) → Type 0
  Given_here u facts y = Given (here t) sees seeing settled t.state.leaks [] other alone (keeps s settled own_law) index_law own_law v parts_named u hands facts y

  -- a place that others have lent isn't a part of the variable
  off_lent : (x : ℕ) (l : Loan) (k w : Way) → Named (home s depth) k → Under k w → other.lent l (way_name k)
      → ((l : Loan) (name : PlaceName) → other.lent l name → name.root ≡ x → depth ≡ home s depth x → ⊥) → Under (Object (OfVariable depth x)) w → ⊥
  off_lent x l k w named begins_it lent free under =
      let begins_there = longer (Object (OfVariable depth x)) w under in
      let begins_lent = longer k w begins_it in
      let root : number_of k ≡ x = sym begins_lent.root ∙ begins_there.root in
      let at_home : home s depth (number_of k) ≡ depth =
      same_frame (home s depth (number_of k)) (number_of k) depth x (sym (named_base (home s depth) k named) ∙ sym begins_lent.base ∙ begins_there.base) in
      free l (way_name k) lent root (sym at_home ∙ ap (home s depth) root)

  unspoken : (x : ℕ) (facts : List Fact) (z : View) → Viewed (home s depth) sees other v z facts → Speaks_not x facts
      → (w : Way) → IsDefinite (home s depth) v elsewhere facts w → Under (Object (OfVariable depth x)) w → ⊥
  unspoken x facts z viewed (unmoved, free) w (inr e) under = by_either (away w e.1)
      (λ far. (far.0 (near_under depth (Object (OfVariable depth x)) w under (inr refl))))
      (λ away_there. (let (k, named, begins_it, lent) = other.through w away_there in off_lent x Borrowed k w named begins_it lent free.1 under))
  unspoken x facts z viewed (unmoved, free) w (inl d) under =
      let begins_there = longer (Object (OfVariable depth x)) w under in
      let root : number_of (expand v d.0) ≡ x = ap number_of d.3 ∙ begins_there.root in
      by_either (stands (home s depth) sees v z facts viewed.views d.0 (d.1.0, viewed.clear.owned (way_name d.0) d.1.1))
      (λ own. (
      let named : Named (home s depth) w = subst (Named (home s depth)) d.3 own.named in
      let at_home : home s depth x ≡ depth =
      ap (home s depth) (sym begins_there.root)
      ∙ same_frame (home s depth (number_of w)) (number_of w) depth x (sym (named_base (home s depth) w named) ∙ begins_there.base) in
      by_either (stands_root v d.0 (no_part (home s depth) sees v z facts viewed.views d.0 (viewed.clear.owned (way_name d.0) d.1.1)))
      (λ e. (unmoved (way_name d.0) d.1.1 (sym e ∙ root) (sym at_home)))
      (λ (y, k, has, e, base). ((free.0 y k has).1 (same_named (home s depth) k w (sym base ∙ ap base_of d.3) named) at_home (sym e ∙ root)))))
      (λ held. (by_either (home_or_foreign (home s depth) held.way held.passed.begins)
      (λ at_home. (
      let (loan, (k, named, begins_it, lent), changed) = viewed.shown.0 held.object held.way held.has held.passed.given at_home in
      off_lent x loan k w named (subst (Under k) d.3 (under_on k held.way (expand v d.0) begins_it held.under)) lent free.1 under))
      (λ foreign. ((free.0 held.object held.way held.has).0 foreign
      (same_frame foreign.0 foreign.1 depth x
      (sym foreign.2 ∙ sym (longer held.way (expand v d.0) held.under).base ∙ ap base_of d.3 ∙ begins_there.base))))))

  pub then_declared : (x : ℕ) → is_view_formal s x ≡ false → (facts : List Fact) (y : Evaluated (List machine.Word)) → Given_here (object_at s x).of facts y → ExactTo_here facts y → Speaks_not x facts
      → ExactOn facts [] (steps.evaluated t y (λ ws n. goes t (declared depth x ws n) 0))
  then_declared x owner facts (Done ws n) (ready, long, same) exact none_said = (
    declared_exact s settled (home s depth) sees other v elsewhere apart n.memory (record { of = (object_at s x).of; words = ws }) hands t.state.leaks facts depth x
        t.point.pos ready.viewed ready.kept owner long (alike s.table settled (object_at s x).of (object_at s x).of (inl refl))
        (unspoken x facts (seen s n.memory (record { of = (object_at s x).of; words = ws } ∷ hands) t.state.leaks) ready.viewed none_said) exact,
    tt,
  )
  then_declared x owner facts (Raises e n) given exact none_said = tt
  then_declared x owner facts (Traps e n) never exact none_said = tt

  -- what it is declared with
  pub source_exact : (ws : List (List machine.Word)) (u : ℕ) (e : TypedTree) → IsNamed s.table u → Source s u e → GivesPlainly s e → Takes (waits_in e) ws []
      → (facts : List Fact) → Good facts → AllowsAll facts (acts (acts_in s e)) → AllKeep (is_fixed s sees) (acts (acts_in s e)) → Exact m facts
      → ExactTo_here (after (acts (acts_in s e)) facts) (taken_by t u e (at ws))
  source_exact ws u e named (inl (view, is)) calls takes facts good allowed keep exact = absurd (true_false (is_anonymous (full s.table u)) view (named_plain s.table u named))
  source_exact ws u e named (inr gives) calls takes facts good allowed keep exact =
      subst (λ b. ExactTo_here (after (acts (acts_in s e)) facts) (if b then viewed (here t) e (at ws) else followed_by (value (here t) e (at ws)) (checked (here t) u)))
      (sym (named_plain s.table u named))
      (checked_exact (here t) sees seeing settled t.state.leaks [] other alone (keeps s settled own_law) index_law own_law v parts_named elsewhere away u
      (after (acts (acts_in s e)) facts) (evaluate (here t) AsValue e (at ws))
      (exact_on (here t) sees seeing settled t.state.leaks [] other alone (keeps s settled own_law) index_law own_law v parts_named elsewhere away e u gives calls ws [] takes
      m hands facts (record { viewed = good.viewed; kept = good.kept; holds = good.holds }) allowed named keep exact))

  first_exact : (ws : List (List machine.Word)) (u : ℕ) (e : TypedTree) → IsNamed s.table u → FirstSource s u e → GivesPlainly s e → Takes (waits_in e) ws []
      → (facts : List Fact) → Good facts → AllowsAll facts (acts (acts_in s e)) → AllKeep (is_fixed s sees) (acts (acts_in s e)) → Exact m facts
      → ExactTo_here (after (acts (acts_in s e)) facts) (first_value t u e (at ws))
  unfolding GivesPlainly acts_in initial waits_in
  first_exact ws u (More e rest) named (last, gives) calls takes facts good allowed keep exact =
      let same : acts_in s e ++ acts_in s rest ≡ acts_in s e = ap (λ z. acts_in s e ++ acts_in s z) last ∙ append-nil (acts_in s e) in
      let alone_there : waits_in e + waits_in rest ≡ waits_in e = ap (λ z. waits_in e + waits_in z) last ∙ nothing_more (waits_in e) in
      subst (λ z. ExactTo_here (after (acts z) facts) (taken_by t u e (at ws))) (sym same)
      (source_exact ws u e named gives calls.0 (takes_as (waits_in e + waits_in rest) (waits_in e) ws [] alone_there takes)
      facts good (subst (λ z. AllowsAll facts (acts z)) same allowed) (subst (λ z. AllKeep (is_fixed s sees) (acts z)) same keep) exact)
  first_exact ws u NoMore named gives calls takes facts good allowed keep exact = exact
  first_exact ws u e named gives calls takes facts good allowed keep exact = absurd gives

  -- An object is declared that isn't a view. No fact after the evaluation names it.
  pub declare_on : (ws : List (List machine.Word)) (x : ℕ) (e : TypedTree) → IsNamed s.table (object_at s x).of → is_view_formal s x ≡ false → FirstSource s (object_at s x).of e
      → GivesPlainly s e → Takes (waits_in e) ws [] → (facts : List Fact)
      → Good facts → AllowsAll facts (acts (declared_acts s x e)) → AllKeep (is_fixed s sees) (acts (declared_acts s x e))
      → Speaks_not x (after (acts (declared_acts s x e)) facts) → Exact m facts
      → ExactOn (after (acts (declared_acts s x e)) facts) [] (steps.evaluated t (first_value t (object_at s x).of e (at ws)) (λ ws n. goes t (declared depth x ws n) 0))
  declare_on ws x e named owner gives calls takes facts good allowed keep none_said exact =
      let kinds = not_views s x named in
      let same : declared_acts s x e ≡ acts_in s e =
      ap (λ b. if b then source_acts s (first e) (act.Borrow x) else
      (if is_observer s x then source_acts s (first e) (observe s x) else acts_in s e)) kinds.0
      ∙ ap (λ b. if b then source_acts s (first e) (observe s x) else acts_in s e) kinds.1 in
      let allows = subst (λ z. AllowsAll facts (acts z)) same allowed in
      let keep_there = subst (λ z. AllKeep (is_fixed s sees) (acts z)) same keep in
      subst (λ z. ExactOn (after (acts z) facts) [] (steps.evaluated t (first_value t (object_at s x).of e (at ws)) (λ ws n. goes t (declared depth x ws n) 0))) (sym same)
      (then_declared x owner (after (acts (acts_in s e)) facts) (first_value t (object_at s x).of e (at ws))
      (first_given t sees seeing settled own_law other alone in_formals v parts_named may frames none ws (object_at s x).of e named gives calls takes facts good allows keep_there)
      (first_exact ws (object_at s x).of e named gives calls takes facts good allows keep_there exact)
      (subst (λ z. Speaks_not x (after (acts z) facts)) same none_said))

  -- ---- what owners don't see

  pub same_exact : (next : Memory) (facts : List Fact) → Good facts → IsSame (seen s m hands t.state.leaks) (seen s next hands t.state.leaks) → Exact m facts → Exact next facts
  same_exact next facts good same exact =
      exact_from s settled (home s depth) sees other v elsewhere apart (seen s next hands t.state.leaks) next hands facts
      (definite_variable (home s depth) sees other v elsewhere apart (seen s m hands t.state.leaks) facts good.viewed) (λ l. refl)
      (told_still (home s depth) sees other v elsewhere apart (seen s m hands t.state.leaks) (seen s next hands t.state.leaks) IsPlaced facts good.viewed
      (λ g y. tt) (keeps_placed (seen s m hands t.state.leaks) (seen s next hands t.state.leaks) (λ l n placed held. sym (same.word l) ∙ held))
      (λ l placed gone. same.word l ∙ gone) (told_seen s settled (home s depth) sees other v elsewhere apart m hands t.state.leaks facts good.viewed exact))

  -- the variable of a view gets a word, and nothing is moved
  pub view_stored : (f x : ℕ) (ws : List machine.Word) → is_anonymous (view_of s x) ≡ true → (facts facts' : List Fact) → Good facts
      → ((n : PlaceName) → Has facts' (Moved n) → Has facts (Moved n)) → Exact m facts → Exact (declared f x ws m) facts'
  view_stored f x ws view facts facts' good less exact =
      told_fewer (home s depth) sees other v elsewhere apart (seen s (declared f x ws m) [] []) facts facts' less
      (same_exact (declared f x ws m) facts good (view_unseen s sees settled m hands t.state.leaks f x ws view) exact)

  -- a view is declared, from a source that changes nothing
  pub view_declared : (P : List machine.Word → Type 0) (x : ℕ) → is_anonymous (view_of s x) ≡ true → (facts facts' : List Fact) → Good facts
      → ((n : PlaceName) → Has facts' (Moved n) → Has facts (Moved n)) → Exact m facts → (y : Evaluated (List machine.Word)) → Quiet now P y
      → ExactOn facts' [] (steps.evaluated t y (λ ws n. goes t (declared depth x ws n) 0))
  view_declared P x view facts facts' good less exact (Done ws n) (same, p) =
      subst (λ (z : Now). ExactOn facts' [] (goes t (declared depth x ws z.memory) 0)) (sym same) (view_stored depth x ws view facts facts' good less exact, tt)
  view_declared P x view facts facts' good less exact (Raises e n) is = tt
  view_declared P x view facts facts' good less exact (Traps e n) never = tt

  -- ---- the end of a scope, where none of the views that are left begins

  -- the variable of a view owns nothing
  pub view_empty : (n : Memory) (waiting : List Waiting) (leaks : List Leak) (f x : ℕ) → is_view s x ≡ true
      → (c : ℕ) → (seen s n waiting leaks).word (OfRoot (OfVariable f x)) ≡ Held c → ⊥
  view_empty n waiting leaks f x view c held =
      let none : word_in s.table (content s n waiting (OfRoot (OfVariable f x))) [] ≡ Empty = elim (view_cases s x view) [
        | inl anonymous ↦ word_no s.table (content s n waiting (OfRoot (OfVariable f x))) [] (view_leaf s.table settled (object_at s x).of anonymous [])
        | inr formal ↦ word_dead s.table (content s n waiting (OfRoot (OfVariable f x))) [] (ap not formal)
      ] in
      let no_number : Empty ≡ Held c = sym none ∙ held in absurd (false≢true (ap is_held_word no_number))

  -- `mine`: the object is one of the frame
  pub end_scope_checked : (x : ℕ) → (facts : List Fact) → Viewed (home s depth) sees other v (seen s m hands t.state.leaks) facts
      → Exact m facts → (pos : Pos) (count : ℕ) → Knows Excused pos (object x) count facts (parts s.table (object_at s x).of)
      → NoneFails Excused (map (spot pos (object x) count) (parts s.table (object_at s x).of)) (checks_at s t.point.pos m (variable_place (here t) x))
  end_scope_checked x facts viewed exact pos count known =
      place_holds s settled (home s depth) v elsewhere m hands t.state.leaks facts
      (definite_variable (home s depth) sees other v elsewhere apart (seen s m hands t.state.leaks) facts viewed) exact
      (variable_place (here t) x) (OfRoot (OfVariable (home s depth x) x)) (Object (OfVariable (home s depth x) x))
      (record { base = refl; made = tt; at = refl; there = refl; of = inl refl }) refl refl Excused t.point.pos pos count known

  pub end_scope_exact : (left : Views) (x : ℕ) (borrower : Bool) → is_view_formal s x ≡ false → home s depth x ≡ depth → (facts : List Fact)
      → Viewed (home s depth) sees other v (seen s m hands t.state.leaks) facts → ((l : Loan) (n : PlaceName) → other.lent l n → n.root ≡ x → ⊥)
      → ((y : ℕ) (w : Way) → v.way y ≡ Some w → is_view s y ≡ true) → ((y : ℕ) (p : List Step) (w : Way) → left.part_way y p ≡ Some w → sees y ≡ true)
      → ((y : ℕ) (w : Way) → left.way y ≡ Some w → (v.way y ≡ Some w) × (Named (home s depth) w → number_of w ≡ x → ⊥)) → Exact m facts
      → IsExact s (home s depth) left elsewhere (undeclared depth x m) (effect (act.EndScope x borrower) facts)
  end_scope_exact left x borrower owner mine facts viewed unlent only parts was exact =
      let checks = checks_made s.table settled (content s m hands (OfRoot (OfVariable (home s depth x) x))) [] (object_at s x).of t.point.pos t.state.leaks refl
      (ap not owner) (alike s.table settled (object_at s x).of (object_at s x).of (inl refl)) in
      subst (λ f. IsExact s (home s depth) left elsewhere (undeclared f x m) (effect (act.EndScope x borrower) facts)) mine
      (ended_exact s settled (home s depth) sees other v elsewhere apart m hands t.state.leaks _ facts left x borrower viewed unlent checks parts was
      (λ y w n has. view_empty m hands t.state.leaks (home s depth y) y (only y w has) n) exact)

  -- ---- views with other ways

  -- where each view has the way that it had, or no moved name is rooted in it
  pub turned_exact : (n : Memory) (turned : Views) (facts : List Fact) → ((x : ℕ) (w : Way) → v.way x ≡ Some w → is_view s x ≡ true)
      → ((x : ℕ) (p : List Step) (w : Way) → v.part_way x p ≡ Some w → sees x ≡ true) → ((x : ℕ) (p : List Step) (w : Way) → turned.part_way x p ≡ Some w → sees x ≡ true)
      → ((u : Way) → IsMoved (home s depth) facts u → sees (number_of u) ≡ false)
      → ((x : ℕ) (w : Way) → turned.way x ≡ Some w → (v.way x ≡ Some w) ⊎ ((name : PlaceName) → Has facts (Moved name) → name.root ≡ x → ⊥))
      → Exact n facts → IsExact s (home s depth) turned elsewhere n facts
  turned_exact n turned facts only seen_before seen_then plain_moved turns exact =
      told_turned (home s depth) sees other v elsewhere apart (seen s n [] []) turned facts seen_before seen_then plain_moved turns
      (λ x w c has. view_empty n [] [] (home s depth x) x (only x w has) c) exact
