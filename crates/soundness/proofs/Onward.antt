-- Where a step goes on, and which variables may own cells then, whatever waits.
use Rattle.std.proofs.Common.{◌≡◌, refl, sym, ap, ◌∙◌, subst, inl, inr, ℕ, ◌<◌, Bool, true, false, not, ◌&&◌, List, [], ◌∷◌, ◌++◌, drop, length, get_or, nat_lt, ltb-true, int_le, arith, ℤ, Option, Some, None, if◌then◌else◌}
use Rattle.std.proofs.lemmas.Bool.{false≢true}
use Rattle.machine.specs.spark_base.declared.position.Pos.{Pos}
use Rattle.machine.specs.type_definitions.Types.{full}
use Rattle.machine.specs.typed_tree.Trees.{TypedTree, TypedCode, Text, Name, Parens, Image, Binary, More}
use Rattle.machine.specs.flow_paths.Objects.{Typing, object_at, is_anonymous, designated}
use Rattle.machine.specs.flow_paths.Names.{first}
use Rattle.machine.specs.flow_paths.Scopes.{is_within, is_last}
use Rattle.run_values.specs.declared.items.Item.{Item}
use Rattle.run_values.specs.declared.items.Item.TheVariants as item
use Rattle.run_values.specs.Items.{next_item}
use Rattle.machine.specs.Words.{default, fits_type}
use Rattle.machine.specs.Words as machine
use Rattle.machine.specs.Memory.{Memory, Base, Place, fresh, no_slot, variable_slots, cell, words_of, stored, declared, undeclared, freed}
use Rattle.machine.specs.Memory as memory
use Rattle.machine.specs.Evaluate.{Now, AsValue, AsView, Evaluated, Done, Raises, Traps, Twice, followed_by, initial, checked, value, viewed, place_of, cell_place, variable_place, walked, steps_of, text_of}
use Rattle.machine.specs.Evaluate as run
use Rattle.machine.specs.Calls.{checks_at}
use Rattle.machine.specs.States.{Waiting, Loop, Frame, Leak, State, Outcome, Goes, Ends}
use Rattle.machine.specs.Step.{Turn, typing, here, start, waiting, Stored, taken_by, first_value, goes, behind, led, successor, leaking_goes}
use Rattle.machine.specs.Step as steps
use Rattle.machine.specs.Typed.{successors}
use Rattle.machine.specs.Owners.{owned}
use Rattle.soundness.proofs.OwnedWays.Locations.{same_loc}
use Rattle.soundness.specs.OwnedWays.Ways.{OfRoot}
use Rattle.soundness.specs.OwnedWays.Ways as ways
use Rattle.soundness.specs.Seen.{home}
use Rattle.soundness.proofs.Contents.{bool_cases}
use Rattle.soundness.proofs.Defaults.{none_default}
use Rattle.soundness.proofs.Memories.{removed_same, removed_other}
use Rattle.soundness.proofs.Ends.{removed_blank}
use Rattle.soundness.proofs.Keeping.{cell_has}
use Rattle.soundness.proofs.Fading.{FadesTo, still, then_fades, if_fades, checked_fades, fades, steps_fade}
use Rattle.soundness.proofs.Scoped.{OnlyAt, NoVariable, only_same, only_then, only_fades, only_stored, only_declared, only_freed, MayHold, Inside, scope_kept, scope_ends, IsFrom, LeadsFrom, walked_from}
use Rattle.soundness.proofs.Constructors.{is_of_variable_base}
use Rattle.soundness.proofs.Parted.{loc_frames, loc_objects, base_frames, base_objects}

-- Of the state that a step goes on to.
abbrev pub Each : (State → Type 0) → Outcome → Type 0
Each P (Goes state) = P state
Each P (Ends e state) = Unit {0}

-- Of what an evaluation gives, and the memory then.
abbrev pub Gets : {A : Type 0} → (A → Memory → Type 0) → Evaluated A → Type 0
Gets Q (Done a n) = Q a n.memory
Gets Q (Raises e n) = Unit {0}
Gets Q (Traps e n) = Unit {0}

-- `older` has the variables that may own cells beside those of the innermost frame. `Left` is what
-- holds of the values that wait on.
module _ (t : Turn) (Left : List Waiting → Type 0) (left : Left (waiting t)) (older : ℕ → ℕ → Type 0) (scope scope' : List ℕ)
    (within : Inside (typing t) older t.state.memory (length t.outer) scope) where
  abbrev s : Typing
  s = typing t

  abbrev depth : ℕ
  depth = length t.outer

  abbrev before : Memory
  before = t.state.memory

  -- It goes on at a successor.
  pub record GoesOn (state : State) : Type 0 where
    pub k : ℕ
    pub less : k < successors t.point.instr
    pub waits : List Waiting
    pub are : Left waits
    pub loops : List Loop
    pub frames : (n : ℕ) → successor t k ≡ Some n → state.frames ≡ record t.frame { waits = waits; loops = loops; next = n } ∷ t.outer
    pub inside : Inside s older state.memory depth scope'

  -- After the last package object the main procedure begins.
  pub record Declares (state : State) : Type 0 where
    pub frames : state.frames ≡ led t (record t.frame { waits = waiting t }) (successor t 0)
    pub inside : Inside s older state.memory depth scope'

  abbrev pub Follows : Outcome → Type 0
  Follows outcome = Each GoesOn outcome

  pub after_that : {A : Type 0} (P : State → Type 0) (Q : A → Memory → Type 0) (y : Evaluated A) (f : A → Memory → Outcome) → Gets Q y
      → ((a : A) (m : Memory) → Q a m → Each P (f a m)) → Each P (steps.evaluated t y f)
  after_that P Q (Done a n) f q next = next a n.memory q
  after_that P Q (Raises e n) f q next = tt
  after_that P Q (Traps e n) f q next = tt

  -- evaluations store nothing in variables
  abbrev Unstored : Memory → Type 0
  Unstored m = OnlyAt s NoVariable before m

  unstored : {A : Type 0} (y : Evaluated A) → FadesTo (here t) before y → Gets (λ a m. Unstored m) y
  unstored (Done a n) faint = only_fades s before n.memory faint
  unstored (Raises e n) faint = tt
  unstored (Traps e n) faint = tt

  frames_behind : (waits : List Waiting) (m : Memory) (k : ℕ) (n : ℕ) → successor t k ≡ Some n
      → (behind t waits m k).frames ≡ record t.frame { waits = waits; loops = t.frame.loops; next = n } ∷ t.outer
  frames_behind waits m k n e = ap (led t (record t.frame { waits = waits })) e

  goes_follow : (m : Memory) (k : ℕ) → k < successors t.point.instr → Inside s older m depth scope' → Follows (goes t m k)
  goes_follow m k less inside = record { k = k; less = less; waits = waiting t; are = left; loops = t.frame.loops; frames = frames_behind (waiting t) m k; inside = inside }

  leaking_follow : (checks : List (List Leak)) (m : Memory) (k : ℕ) → k < successors t.point.instr → Inside s older m depth scope'
      → Follows (leaking_goes checks (goes t m k))
  leaking_follow checks m k less inside = record { k = k; less = less; waits = waiting t; are = left; loops = t.frame.loops; frames = frames_behind (waiting t) m k; inside = inside }

  module _ (more : (x : ℕ) → is_within x scope ≡ true → is_within x scope' ≡ true) where
    unstored_scope : (m : Memory) → Unstored m → Inside s older m depth scope'
    unstored_scope m only = scope_kept s older NoVariable before m depth scope scope' only within more (λ f x none. absurd none)

    -- ---- places that are named

    taken_fades : (u : ℕ) (e : TypedTree) → FadesTo (here t) before (taken_by t u e (start t))
    taken_fades u e =
        if_fades (here t) before (is_anonymous (full s.table u)) (viewed (here t) e (start t)) (followed_by (value (here t) e (start t)) (checked (here t) u))
        (fades (here t) AsView e (start t))
        (then_fades (here t) before (value (here t) e (start t)) (checked (here t) u) (fades (here t) AsValue e (start t)) (checked_fades (here t) u))

    abbrev base_named : ℕ → Base
    base_named x = memory.OfVariable (home s depth x) x

    -- a place that a name leads to, after an evaluation that stored nothing
    abbrev Placed : ℕ → Place → Memory → Type 0
    Placed x k m = IsFrom (base_named x) k × Unstored m

    then_found : (x : ℕ) (n : Now) → Unstored n.memory → (y : Evaluated Place) → LeadsFrom (base_named x) n.memory y → Gets (Placed x) y
    then_found x n only (Done k m) (from, same) = (from, subst Unstored (sym same) only)
    then_found x n only (Raises e m) from = tt
    then_found x n only (Traps e m) from = tt

    then_led : (x : ℕ) (n : Now) → Unstored n.memory → (y : Evaluated (List run.Step)) → FadesTo (here t) n.memory y
        → Gets (Placed x) (followed_by y (λ way now. walked s way (variable_place (here t) x) now))
    then_led x n only (Done way m) faint =
        then_found x m (only_then s NoVariable before n.memory m.memory only (only_fades s n.memory m.memory faint))
        (walked s way (variable_place (here t) x) m) (walked_from s (base_named x) way (variable_place (here t) x) m (inl refl))
    then_led x n only (Raises e m) faint = tt
    then_led x n only (Traps e m) faint = tt

    place_found : (p : Pos) (x u : ℕ) (path : TypedTree) (n : Now) → Unstored n.memory → Gets (Placed x) (place_of (here t) (Name p x path u) n)
    place_found p x u path n only = then_led x n only (steps_of (here t) path n) (steps_fade (here t) path n)

    -- a store at a place keeps to what is in scope, where its name does
    stored_scope : (x : ℕ) → MayHold s older depth scope' (home s depth x) x → (k : Place) (ws : List machine.Word) (m : Memory) → IsFrom (base_named x) k
        → Unstored m → Inside s older (stored s k ws m) depth scope'
    stored_scope x holds k ws m from only =
        scope_kept s older (λ f y. k.base ≡ memory.OfVariable f y) before (stored s k ws m) depth scope scope'
        (only_then s (λ f y. k.base ≡ memory.OfVariable f y) before m (stored s k ws m) only (only_stored s k ws m)) within more (λ f y. there from f y)
      where
        there : IsFrom (base_named x) k → (f y : ℕ) → k.base ≡ memory.OfVariable f y → MayHold s older depth scope' f y
        there (inl is) f y e =
            let same : base_named x ≡ memory.OfVariable f y = sym is ∙ e in
            let frames : home s depth x ≡ f = base_frames same in
            let objects : x ≡ y = base_objects same in
            subst (λ z. MayHold s older depth scope' z y) frames (subst (λ z. MayHold s older depth scope' (home s depth x) z) objects holds)
        there (inr (c, is)) f y e = (let same : memory.OfCell c ≡ memory.OfVariable f y = sym is ∙ e in absurd (false≢true (ap is_of_variable_base same)))

    -- ---- declarations

    first_fades : (u : ℕ) (v : TypedTree) → FadesTo (here t) before (first_value t u v (start t))
    unfolding initial
    first_fades u (More e rest) = taken_fades u e
    first_fades u v = still s before

    declared_scope : (x : ℕ) → is_within x scope' ≡ true → (ws : List machine.Word) (m : Memory) → Unstored m → Inside s older (declared depth x ws m) depth scope'
    declared_scope x there ws m only =
        scope_kept s older (λ f y. memory.OfVariable depth x ≡ memory.OfVariable f y) before (declared depth x ws m) depth scope scope'
        (only_then s (λ f y. memory.OfVariable depth x ≡ memory.OfVariable f y) before m (declared depth x ws m) only (only_declared s depth x ws m)) within more
        (λ f y e. (
        let frames : depth ≡ f = base_frames e in
        let objects : x ≡ y = base_objects e in
        inr (sym frames, subst (λ z. is_within z scope' ≡ true) objects there)))

    pub declare_on : (x : ℕ) (v : TypedTree) → is_within x scope' ≡ true → Each Declares (steps.declare t x v)
    declare_on x v there =
        after_that Declares (λ ws m. Unstored m) (first_value t (object_at s x).of v (start t)) (λ ws m. goes t (declared depth x ws m) 0)
        (unstored (first_value t (object_at s x).of v (start t)) (first_fades (object_at s x).of v))
        (λ ws m only. record {
          frames = refl;
          inside = declared_scope x there ws m only;
        })

    pub declare_follows : (x : ℕ) (v : TypedTree) → is_within x scope' ≡ true → 0 < successors t.point.instr → Follows (steps.declare t x v)
    declare_follows x v there less =
        after_that GoesOn (λ ws m. Unstored m) (first_value t (object_at s x).of v (start t)) (λ ws m. goes t (declared depth x ws m) 0)
        (unstored (first_value t (object_at s x).of v (start t)) (first_fades (object_at s x).of v))
        (λ ws m only. goes_follow (declared depth x ws m) 0 less (declared_scope x there ws m only))

    -- ---- assignments

    then_placed : (p : Pos) (x u : ℕ) (path : TypedTree) (y : Evaluated (List machine.Word)) → FadesTo (here t) before y
        → Gets (λ (st : Stored) m. Placed x st.place m)
        (followed_by y (λ ws now. followed_by (place_of (here t) (Name p x path u) now) (λ k now. Done (record { words = ws; place = k }) now)))
    then_placed p x u path (Done ws n) faint = then_stored (place_of (here t) (Name p x path u) n) (place_found p x u path n (only_fades s before n.memory faint))
      where
        then_stored : (y : Evaluated Place) → Gets (Placed x) y
            → Gets (λ (st : Stored) m. Placed x st.place m) (followed_by y (λ k now. Done (record { words = ws; place = k }) now))
        then_stored (Done k m) placed = placed
        then_stored (Raises e m) placed = tt
        then_stored (Traps e m) placed = tt
    then_placed p x u path (Raises e n) faint = tt
    then_placed p x u path (Traps e n) faint = tt

    pub assign_follows : (p : Pos) (x u : ℕ) (path e : TypedTree) → MayHold s older depth scope' (home s depth x) x → 0 < successors t.point.instr
        → Follows (steps.assign t (Name p x path u) e)
    assign_follows p x u path e holds less =
        let target : TypedTree = Name p x path u in
        after_that GoesOn (λ (st : Stored) m. Placed x st.place m)
        (followed_by (taken_by t u e (start t)) (λ ws now. followed_by (place_of (here t) target now) (λ k now. Done (record { words = ws; place = k }) now)))
        (λ (st : Stored) m. leaking_goes (checks_at s (steps.target_pos t target) m st.place) (goes t (stored s st.place st.words m) 0))
        (then_placed p x u path (taken_by t u e (start t)) (taken_fades u e))
        (λ st m placed. leaking_follow (checks_at s (steps.target_pos t target) m st.place) (stored s st.place st.words m) 0 less
        (stored_scope x holds st.place st.words m placed.0 placed.1))

    -- ---- releases

    -- what a release does at a place
    pub record Frees (f : Place → Memory → Outcome) : Type 0 where
      pub nothing : (k : Place) (m : Memory) → words_of s m k ≡ [] → f k m ≡ goes t m 0
      pub null : (k : Place) (m : Memory) (ws : List machine.Word) → words_of s m k ≡ machine.Null ∷ ws → f k m ≡ goes t m 0
      pub whole : (k : Place) (m : Memory) (v : ℤ) (ws : List machine.Word) → words_of s m k ≡ machine.Int v ∷ ws → f k m ≡ goes t m 0
      pub listed : (k : Place) (m : Memory) (v : ℕ) (ws : List machine.Word) → words_of s m k ≡ machine.Enumerated v ∷ ws → f k m ≡ goes t m 0
      pub several : (k : Place) (m : Memory) (n : ℕ) (w : machine.Word) (ws : List machine.Word) → words_of s m k ≡ machine.Cell n ∷ (w ∷ ws) → f k m ≡ goes t m 0
      pub dead : (k : Place) (m : Memory) (n : ℕ) → words_of s m k ≡ machine.Cell n ∷ [] → (cell m n).freed ≡ true → f k m ≡ steps.trapped t Twice m
      pub alive : (k : Place) (m : Memory) (n : ℕ) → words_of s m k ≡ machine.Cell n ∷ [] → (cell m n).freed ≡ false
          → (checks : List (List Leak)) × (f k m ≡ leaking_goes checks (goes t (stored s k (machine.Null ∷ []) (freed n m)) 0))

    freed_follows : (f : Place → Memory → Outcome) → Frees f → (x : ℕ) → MayHold s older depth scope' (home s depth x) x → 0 < successors t.point.instr
        → (k : Place) (m : Memory) → Placed x k m → (ws : List machine.Word) → words_of s m k ≡ ws → Follows (f k m)
    freed_follows f frees x holds less k m placed [] e =
        subst Follows (sym (frees.nothing k m e)) (goes_follow m 0 less (unstored_scope m placed.1))
    freed_follows f frees x holds less k m placed (machine.Null ∷ ws) e =
        subst Follows (sym (frees.null k m ws e)) (goes_follow m 0 less (unstored_scope m placed.1))
    freed_follows f frees x holds less k m placed (machine.Int v ∷ ws) e =
        subst Follows (sym (frees.whole k m v ws e)) (goes_follow m 0 less (unstored_scope m placed.1))
    freed_follows f frees x holds less k m placed (machine.Enumerated v ∷ ws) e =
        subst Follows (sym (frees.listed k m v ws e)) (goes_follow m 0 less (unstored_scope m placed.1))
    freed_follows f frees x holds less k m placed (machine.Cell n ∷ (w ∷ ws)) e =
        subst Follows (sym (frees.several k m n w ws e)) (goes_follow m 0 less (unstored_scope m placed.1))
    freed_follows f frees x holds less k m placed (machine.Cell n ∷ []) e = elim (bool_cases (cell m n).freed) [
      | inl dead ↦ subst Follows (sym (frees.dead k m n e dead)) tt
      | inr alive ↦ (
          let is = frees.alive k m n e alive in
          subst Follows (sym is.1) (leaking_follow is.0 (stored s k (machine.Null ∷ []) (freed n m)) 0 less
          (stored_scope x holds k (machine.Null ∷ []) (freed n m) placed.0
          (only_then s NoVariable before m (freed n m) placed.1 (only_freed s n m)))))
    ]

    released_by : (f : Place → Memory → Outcome) → Frees f → (p : Pos) (x u : ℕ) (path : TypedTree) → MayHold s older depth scope' (home s depth x) x
        → 0 < successors t.point.instr → Follows (steps.evaluated t (place_of (here t) (Name p x path u) (start t)) f)
    released_by f frees p x u path holds less =
        after_that GoesOn (Placed x) (place_of (here t) (Name p x path u) (start t)) f
        (place_found p x u path (start t) (only_same s NoVariable before))
        (λ k m placed. freed_follows f frees x holds less k m placed (words_of s m k) refl)

    pub release_follows : (p : Pos) (x u : ℕ) (path : TypedTree) → MayHold s older depth scope' (home s depth x) x → 0 < successors t.point.instr
        → Follows (steps.release t (Name p x path u))
    release_follows p x u path holds less =
        released_by _ (record {
          nothing = λ k m is. rw is refl;
          null = λ k m ws is. rw is refl;
          whole = λ k m v ws is. rw is refl;
          listed = λ k m v ws is. rw is refl;
          several = λ k m n w ws is. rw is refl;
          dead = λ k m n is dead. rw (is, dead) refl;
          alive = λ k m n is alive. (checks_at s p m (cell_place (designated s.table k.of) n), rw (is, alive) refl);
        }) p x u path holds less

    -- ---- input

    -- what an input does at a place
    pub record Reads (f : Place → Memory → Outcome) : Type 0 where
      pub missing : (k : Place) (m : Memory) → next_item t.input t.state.at ≡ item.Missing → f k m ≡ steps.raised t run.EndError m
      pub bad : (k : Place) (m : Memory) → next_item t.input t.state.at ≡ item.Bad → f k m ≡ steps.raised t run.DataError m
      pub number : (k : Place) (m : Memory) (v : ℤ) (end : ℕ) → next_item t.input t.state.at ≡ item.Number v end
          → fits_type s.table k.of (machine.Int v ∷ []) ≡ true
          → f k m ≡ Goes (record (behind t (waiting t) (stored s k (machine.Int v ∷ []) m) 0) { at = end })
      pub outside : (k : Place) (m : Memory) (v : ℤ) (end : ℕ) → next_item t.input t.state.at ≡ item.Number v end
          → fits_type s.table k.of (machine.Int v ∷ []) ≡ false → f k m ≡ steps.raised t run.ConstraintError m

    read_follows : (f : Place → Memory → Outcome) → Reads f → (x : ℕ) → MayHold s older depth scope' (home s depth x) x → 0 < successors t.point.instr
        → (k : Place) (m : Memory) → Placed x k m → (it : Item) → next_item t.input t.state.at ≡ it → Follows (f k m)
    read_follows f reads x holds less k m placed item.Missing e = subst Follows (sym (reads.missing k m e)) tt
    read_follows f reads x holds less k m placed item.Bad e = subst Follows (sym (reads.bad k m e)) tt
    read_follows f reads x holds less k m placed (item.Number v end) e = elim (bool_cases (fits_type s.table k.of (machine.Int v ∷ []))) [
      | inr out ↦ subst Follows (sym (reads.outside k m v end e out)) tt
      | inl fits ↦ subst Follows (sym (reads.number k m v end e fits)) (record {
        k = 0;
        less = less;
        waits = waiting t;
        are = left;
        loops = t.frame.loops;
        frames = frames_behind (waiting t) (stored s k (machine.Int v ∷ []) m) 0;
        inside = stored_scope x holds k (machine.Int v ∷ []) m placed.0 placed.1;
      })
    ]

    read_by : (f : Place → Memory → Outcome) → Reads f → (p : Pos) (x u : ℕ) (path : TypedTree) → MayHold s older depth scope' (home s depth x) x
        → 0 < successors t.point.instr → Follows (steps.evaluated t (place_of (here t) (Name p x path u) (start t)) f)
    read_by f reads p x u path holds less =
        after_that GoesOn (Placed x) (place_of (here t) (Name p x path u) (start t)) f
        (place_found p x u path (start t) (only_same s NoVariable before))
        (λ k m placed. read_follows f reads x holds less k m placed (next_item t.input t.state.at) refl)

    pub input_follows : (p : Pos) (x u : ℕ) (path : TypedTree) → MayHold s older depth scope' (home s depth x) x → 0 < successors t.point.instr
        → Follows (steps.input t (Name p x path u))
    input_follows p x u path holds less =
        read_by _ (record {
          missing = λ k m next. rw next refl;
          bad = λ k m next. rw next refl;
          number = λ k m v end next fits. rw (next, fits) refl;
          outside = λ k m v end next out. rw (next, out) refl;
        }) p x u path holds less

    -- ---- choices

    pub goes_by : (e : TypedTree) (k : List machine.Word → ℕ) → ((ws : List machine.Word) → k ws < successors t.point.instr)
        → Follows (steps.evaluated t (value (here t) e (start t)) (λ ws m. goes t m (k ws)))
    goes_by e k less =
        after_that GoesOn (λ ws m. Unstored m) (value (here t) e (start t)) (λ ws m. goes t m (k ws))
        (unstored (value (here t) e (start t)) (fades (here t) AsValue e (start t)))
        (λ ws m only. goes_follow m (k ws) (less ws) (unstored_scope m only))

    first_or_second : (b : Bool) → 1 < successors t.point.instr → (if b then 0 else 1) < successors t.point.instr
    first_or_second true less = omega (arith, less)
    first_or_second false less = less

    pub test_follows : (e : TypedTree) → 1 < successors t.point.instr → Follows (steps.test t e 0 1)
    test_follows e less = goes_by e (λ ws. if run.is_true ws then 0 else 1) (λ ws. first_or_second (run.is_true ws) less)

    chosen_follows : (count k : ℕ) (m : Memory) → count ≡ successors t.point.instr → Unstored m → Follows (steps.chosen t count k m)
    chosen_follows count k m all only = elim (bool_cases (nat_lt k count)) [
      | inl fits ↦ (
          let less = ltb-true k count fits in
          subst (λ b. Follows (if b then goes t m k else steps.raised t run.ConstraintError m)) (sym fits)
          (goes_follow m k (omega (arith, less, all)) (unstored_scope m only)))
      | inr none ↦ subst (λ b. Follows (if b then goes t m k else steps.raised t run.ConstraintError m)) (sym none) tt
    ]

    pub choose_follows : (e : TypedTree) (choices : List TypedCode) → length choices ≡ successors t.point.instr → Follows (steps.choose t e choices)
    choose_follows e choices all =
        after_that GoesOn (λ ws m. Unstored m) (value (here t) e (start t)) (λ ws m. steps.chosen t (length choices) (steps.choice choices ws) m)
        (unstored (value (here t) e (start t)) (fades (here t) AsValue e (start t)))
        (λ ws m only. chosen_follows (length choices) (steps.choice choices ws) m all only)

    -- ---- operands

    pub value_inside : (e : TypedTree) → Gets (λ ws m. Inside s older m depth scope') (value (here t) e (start t))
    value_inside e = by_value (value (here t) e (start t)) (fades (here t) AsValue e (start t))
      where
        by_value : (y : Evaluated (List machine.Word)) → FadesTo (here t) before y → Gets (λ ws m. Inside s older m depth scope') y
        by_value (Done ws n) faint = unstored_scope n.memory (only_fades s before n.memory faint)
        by_value (Raises x n) faint = tt
        by_value (Traps x n) faint = tt

    pub source_inside : (u : ℕ) (e : TypedTree) → Gets (λ ws m. Inside s older m depth scope') (taken_by t u e (start t))
    source_inside u e = by_value (taken_by t u e (start t)) (taken_fades u e)
      where
        by_value : (y : Evaluated (List machine.Word)) → FadesTo (here t) before y → Gets (λ ws m. Inside s older m depth scope') y
        by_value (Done ws n) faint = unstored_scope n.memory (only_fades s before n.memory faint)
        by_value (Raises x n) faint = tt
        by_value (Traps x n) faint = tt

    -- ---- instructions that store nothing

    pub stays_follows : 0 < successors t.point.instr → Follows (goes t t.state.memory 0)
    stays_follows less = goes_follow t.state.memory 0 less (unstored_scope t.state.memory (only_same s NoVariable before))

    text_fades : (e : TypedTree) (n : Now) → FadesTo (here t) n.memory (text_of (here t) e n)
    unfolding text_of
    text_fades (Text b) n = still s n.memory
    text_fades (Image u e) n =
        then_fades (here t) n.memory (value (here t) e n) (λ ws now. Done (run.image_of s.table u ws) now) (fades (here t) AsValue e n) (λ ws m. still s m.memory)
    text_fades (Parens e) n = text_fades e n
    text_fades (Binary op a b) n =
        then_fades (here t) n.memory (text_of (here t) a n) (λ left now. followed_by (text_of (here t) b now) (λ right now. Done (left ++ right) now)) (text_fades a n)
        (λ left m. then_fades (here t) m.memory (text_of (here t) b m) (λ right now. Done (left ++ right) now) (text_fades b m) (λ right o. still s o.memory))
    text_fades e n = still s n.memory

    pub output_follows : (text : TypedTree) (line : Bool) → 0 < successors t.point.instr → Follows (steps.output t text line)
    output_follows text line less =
        after_that GoesOn (λ (bytes : List ℕ) m. Unstored m) (text_of (here t) (first text) (start t)) (λ bytes m. Goes (record (behind t (waiting t) m 0) {
          output = t.state.output ++ bytes ++ (if line then 10 ∷ [] else []);
        })) (unstored (text_of (here t) (first text) (start t)) (text_fades (first text) (start t)))
        (λ bytes m only. record { k = 0; less = less; waits = waiting t; are = left; loops = t.frame.loops; frames = frames_behind (waiting t) m 0; inside = unstored_scope m only })

    -- ---- loops

    bounds_fade : (low high : TypedTree) → FadesTo (here t) before (steps.bounds t low high (start t))
    bounds_fade low high =
        then_fades (here t) before (value (here t) low (start t))
        (λ a now. followed_by (value (here t) high now) (λ b now. Done (record { low = a; high = b }) now)) (fades (here t) AsValue low (start t))
        (λ a n. then_fades (here t) n.memory (value (here t) high n) (λ b now. Done (record { low = a; high = b }) now) (fades (here t) AsValue high n)
        (λ b m. still s m.memory))

    loop_frames : (l : Loop) (state : State) (f : Frame) (outer : List Frame) → state.frames ≡ f ∷ outer
        → (steps.with_loop l state).frames ≡ record f { loops = l ∷ steps.without_loop l.parameter f.loops } ∷ outer
    loop_frames l state f outer e = ap (λ fs. (steps.with_loop l (record state { frames = fs })).frames) e

    -- what a start does with its bounds
    pub record Begins (x : ℕ) (f : steps.Bounds → Memory → Outcome) : Type 0 where
      pub fails : steps.Bounds → Bool
      pub loop : steps.Bounds → Loop
      pub at_fault : (b : steps.Bounds) (m : Memory) → fails b ≡ true → f b m ≡ steps.raised t run.ConstraintError m
      pub at_turn : (b : steps.Bounds) (m : Memory) → fails b ≡ false
          → f b m ≡ Goes (steps.with_loop (loop b) (behind t (waiting t) (declared depth x b.low m) 0))

    begun_follows : (x : ℕ) (f : steps.Bounds → Memory → Outcome) → Begins x f → is_within x scope' ≡ true → 0 < successors t.point.instr
        → (b : steps.Bounds) (m : Memory) → Unstored m → Follows (f b m)
    begun_follows x f begins there less b m only = elim (bool_cases (begins.fails b)) [
      | inl e ↦ subst Follows (sym (begins.at_fault b m e)) tt
      | inr e ↦ subst Follows (sym (begins.at_turn b m e)) (record {
        k = 0;
        less = less;
        waits = waiting t;
        are = left;
        loops = begins.loop b ∷ steps.without_loop (begins.loop b).parameter t.frame.loops;
        frames = λ n next. loop_frames (begins.loop b) (behind t (waiting t) (declared depth x b.low m) 0)
            (record t.frame { waits = waiting t; loops = t.frame.loops; next = n }) t.outer (frames_behind (waiting t) (declared depth x b.low m) 0 n next);
        inside = declared_scope x there b.low m only;
      })
    ]

    start_by : (x : ℕ) (f : steps.Bounds → Memory → Outcome) → Begins x f → (low high : TypedTree) → is_within x scope' ≡ true
        → 0 < successors t.point.instr → Follows (steps.evaluated t (steps.bounds t low high (start t)) f)
    start_by x f begins low high there less =
        after_that GoesOn (λ (b : steps.Bounds) m. Unstored m) (steps.bounds t low high (start t)) f
        (unstored (steps.bounds t low high (start t)) (bounds_fade low high)) (begun_follows x f begins there less)

    pub start_follows : (x : ℕ) (low high : TypedTree) → is_within x scope' ≡ true → 0 < successors t.point.instr → Follows (steps.start_loop t x low high)
    start_follows x low high there less =
        start_by x _ (record {
          fails = λ b. int_le (steps.number b.low) (steps.number b.high)
              && not (fits_type s.table (object_at s x).of b.low && fits_type s.table (object_at s x).of b.high);
          loop = λ b. record { parameter = x; low = steps.number b.low; high = steps.number b.high; first = true };
          at_fault = λ b m e. rw e refl;
          at_turn = λ b m e. rw e refl;
        }) low high there less

    turn_frames : (loops : List Loop) (k n : ℕ) → successor t k ≡ Some n
        → led t (record t.frame { loops = loops }) (successor t k) ≡ record t.frame { loops = loops; next = n } ∷ t.outer
    turn_frames loops k n e = ap (led t (record t.frame { loops = loops })) e

    -- a variable that is removed owns nothing
    only_undeclared : (g y : ℕ) (m : Memory) → OnlyAt s NoVariable m (undeclared g y m)
    only_undeclared g y m f x o c e = elim (same_loc (OfRoot (ways.OfVariable g y)) (OfRoot (ways.OfVariable f x))) [
      | inl same ↦ (
          let frames : g ≡ f = loc_frames same in let objects : y ≡ x = loc_objects same in
          let words : List machine.Word = default s.table (object_at s y).of in
          let there : get_or (variable_slots s g y (undeclared g y m).variables) o no_slot ≡ owned c =
          subst (λ z. get_or (variable_slots s z y (undeclared g y m).variables) o no_slot ≡ owned c) (sym frames)
          (subst (λ z. get_or (variable_slots s f z (undeclared g y m).variables) o no_slot ≡ owned c) (sym objects) e) in
          let word : (get_or (fresh words) o no_slot).word ≡ machine.Cell c =
          ap (λ z. (get_or z o no_slot).word) (sym (removed_same s g y m.variables)) ∙ ap (λ (z : memory.Slot). z.word) there in
          absurd (none_default s.table (object_at s y).of c (cell_has words o c word)))
      | inr ne ↦ inl (ap (λ z. get_or z o no_slot) (sym (removed_other s g y f x (λ a. ne (ap OfRoot a)) m.variables)) ∙ e)
    ]

    next_by : Left t.frame.waits → (x : ℕ) → MayHold s older depth scope' (home s depth x) x → 1 < successors t.point.instr → (ws : List machine.Word) (v : Option ℤ)
        → Follows (steps.turned_to t x (variable_place (here t) x) ws v)
    next_by all x holds less ws (Some v) = record {
      k = 0;
      less = omega (arith, less);
      waits = t.frame.waits;
      are = all;
      loops = steps.turned x t.frame.loops;
      frames = turn_frames (steps.turned x t.frame.loops) 0;
      inside = stored_scope x holds (variable_place (here t) x) (steps.parameter_words ws v) before (inl refl) (only_same s NoVariable before);
    }
    next_by all x holds less ws None = record {
      k = 1;
      less = less;
      waits = t.frame.waits;
      are = all;
      loops = steps.without_loop x t.frame.loops;
      frames = turn_frames (steps.without_loop x t.frame.loops) 1;
      inside = unstored_scope (undeclared depth x before) (only_undeclared depth x before);
    }

    pub next_follows : Left t.frame.waits → (x : ℕ) (reversed : Bool) → MayHold s older depth scope' (home s depth x) x → 1 < successors t.point.instr
        → Follows (steps.next_turn t x reversed)
    next_follows all x reversed holds less =
        let ws : List machine.Word = words_of s before (variable_place (here t) x) in
        next_by all x holds less ws (steps.next_value reversed (steps.loop_of x t.frame.loops) (steps.number ws))

  -- ---- the end of a scope

  pub end_scope_follows : (x : ℕ) → is_last x scope ≡ true → scope' ≡ drop 1 scope → 0 < successors t.point.instr → Follows (steps.end_scope t x)
  end_scope_follows x last rest less =
      leaking_follow (checks_at s t.point.pos before (variable_place (here t) x)) (undeclared depth x before) 0 less
      (subst (Inside s older (undeclared depth x before) depth) (sym rest) (scope_ends s older before depth x scope within last (removed_blank s before depth x [])))
