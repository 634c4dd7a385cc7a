-- A step that calls nothing stores in variables of its frame and in package objects alone: those of
-- other frames keep their first words.
use Rattle.std.proofs.Common.{◌≡◌, refl, sym, ap, ◌∙◌, subst, ◌⊎◌, inl, inr, ℕ, ◌+◌, Bool, true, false, not, ◌&&◌, List, [], ◌∷◌, ◌++◌, take, drop, length, get_or, nat_lt, int_le, ℤ, Option, Some, None, if◌then◌else◌}
use Rattle.std.proofs.lemmas.Bool.{false≢true, true≢false}
use Rattle.machine.specs.spark_base.declared.position.Pos.{Pos}
use Rattle.machine.specs.type_definitions.Types.{full}
use Rattle.machine.specs.typed_tree.Trees.{TypedTree, TypedCode, Text, Name, Parens, Image, Binary, NoMore, More}
use Rattle.machine.specs.flow_paths.Instructions.{Instruction, Skip, Declare, Assign, Call, Output, Input, Release, Test, Choose, Start, Next, Evaluate, LeaveLoop, Hold, EndScope, Finish, Fall}
use Rattle.machine.specs.flow_paths.Objects.{Typing, object_at, is_anonymous, is_package_object, designated}
use Rattle.machine.specs.flow_paths.Names.{first}
use Rattle.soundness.specs.run_values.declared.items.Item.{Item}
use Rattle.soundness.specs.run_values.declared.items.Item.TheVariants as item
use Rattle.soundness.specs.run_values.Items.{next_item}
use Rattle.machine.specs.Words.{fits_type}
use Rattle.machine.specs.Words as machine
use Rattle.machine.specs.Memory.{Slot, Memory, Base, Place, fresh, no_slot, variable_slots, slots_at, cell, words_of, stored, declared, undeclared, freed}
use Rattle.machine.specs.Memory as memory
use Rattle.machine.specs.Evaluate.{Now, AsValue, AsView, Evaluated, Done, Raises, Traps, Twice, followed_by, initial, checked, value, viewed, place_of, cell_place, variable_place, walked, steps_of, text_of}
use Rattle.machine.specs.Evaluate as run
use Rattle.machine.specs.Calls.{checks_at}
use Rattle.machine.specs.States.{Loop, Leak, State, Outcome, Goes}
use Rattle.machine.specs.Step.{Turn, turn, typing, here, start, waiting, Stored, taken_by, first_value, goes, behind, leaking_goes}
use Rattle.machine.specs.Step as steps
use Rattle.soundness.specs.OwnedWays.Ways.{Step, OfRoot, Empty, Gone, Held}
use Rattle.soundness.specs.OwnedWays.Ways as ways
use Rattle.soundness.specs.PartOffsets.Parts.{offset_in, is_leaf}
use Rattle.soundness.specs.Seen.{content, owner_at, owner_word, word_in, home, is_view_formal}
use Rattle.soundness.specs.TypedLaws.Needed.{IsFine, FirstStays, Returns}
use Rattle.soundness.proofs.Contents.{bool_cases}
use Rattle.soundness.proofs.Memories.{put_other, removed_other}
use Rattle.soundness.proofs.Fading.{Fainter, FadesTo, Fades, still, then_fades, if_fades, checked_fades, fades, steps_fade}
use Rattle.soundness.proofs.Following.{Each}
use Rattle.soundness.proofs.Onward.{Gets}
use Rattle.soundness.proofs.Scoped.{IsFrom, LeadsFrom, walked_from}
use Rattle.viewed_steps.proofs.Constructors.{is_held_word, is_of_variable_base}

-- Another instruction than a call, an operand that waits, a return with a value, and the end of a
-- call.
abbrev pub IsOther : Instruction → Type 0
IsOther (Call n actuals result) = ⊥
IsOther (Evaluate temporary e left) = ⊥
IsOther (Hold (More e rest)) = ⊥
IsOther Finish = ⊥
IsOther i = Unit {0}

-- The words of the variables of other frames stay, and what is gone there stays gone.
abbrev pub OthersKept : Typing → ℕ → Memory → Memory → Type 0
OthersKept s depth m n =
    (f y : ℕ) → (f ≡ 0 → ⊥) → (f ≡ depth → ⊥) → (o : ℕ)
    → Fainter (get_or (variable_slots s f y m.variables) o no_slot) (get_or (variable_slots s f y n.variables) o no_slot)

same_faint : (a b : Slot) → b ≡ a → Fainter a b
same_faint a b e = record { word = ap (λ (x : Slot). x.word) e; gone = λ g. ap (λ (x : Slot). x.gone) e ∙ g }

-- what has a number there had it before
faint_owner : (a b : Slot) → Fainter a b → (own : Bool) (c : ℕ) → (if own then owner_word b else Empty) ≡ Held c → (if own then owner_word a else Empty) ≡ Held c
faint_owner a b faint false c held = held
faint_owner a b faint true c held = by_gone b.gone a.gone refl refl
  where
    by_gone : (g h : Bool) → b.gone ≡ g → a.gone ≡ h → owner_word a ≡ Held c
    by_gone true h e f = (let no : Gone ≡ Held c = sym (ap (owner_at b.word) e) ∙ held in absurd (false≢true (ap is_held_word no)))
    by_gone false true e f = (let no : true ≡ false = sym (faint.gone f) ∙ e in absurd (true≢false no))
    by_gone false false e f = (λ j. owner_at (sym faint.word j) (f j)) ∙ sym (ap (owner_at b.word) e) ∙ held

pub faint_held : (s : Typing) (m n : Memory) (f y : ℕ)
    → ((o : ℕ) → Fainter (get_or (variable_slots s f y m.variables) o no_slot) (get_or (variable_slots s f y n.variables) o no_slot))
    → (p : List Step) (c : ℕ) → word_in s.table (content s n [] (OfRoot (ways.OfVariable f y))) p ≡ Held c
    → word_in s.table (content s m [] (OfRoot (ways.OfVariable f y))) p ≡ Held c
faint_held s m n f y faint p c held =
    faint_owner (get_or (variable_slots s f y m.variables) (offset_in s.table (object_at s y).of p) no_slot)
    (get_or (variable_slots s f y n.variables) (offset_in s.table (object_at s y).of p) no_slot)
    (faint (offset_in s.table (object_at s y).of p)) (not (is_view_formal s y) && is_leaf s.table (object_at s y).of p) c held

same_base : (f x g y : ℕ) → ways.OfVariable f x ≡ ways.OfVariable g y → memory.OfVariable f x ≡ memory.OfVariable g y
same_base f x g y e = (let a : f ≡ g = cc in let b : x ≡ y = cc in cc)

same_frame : (f x g y : ℕ) → memory.OfVariable f x ≡ memory.OfVariable g y → f ≡ g
same_frame f x g y e = cc

no_cell : (n g y : ℕ) → memory.OfCell n ≡ memory.OfVariable g y → ⊥
no_cell n g y e = absurd (false≢true (ap is_of_variable_base e))

module _ (s : Typing) (depth : ℕ) where
  near_home : (x : ℕ) → (home s depth x ≡ 0) ⊎ (home s depth x ≡ depth)
  near_home x = by_package (is_package_object s x)
    where
      by_package : (b : Bool) → ((if b then 0 else depth) ≡ 0) ⊎ ((if b then 0 else depth) ≡ depth)
      by_package true = inl refl
      by_package false = inr refl

  kept_then : (a b c : Memory) → OthersKept s depth a b → OthersKept s depth b c → OthersKept s depth a c
  kept_then a b c first second f y some other o =
      let one = first f y some other o in
      let two = second f y some other o in
      record { word = two.word ∙ one.word; gone = λ g. two.gone (one.gone g) }

  by_fading : (m n : Memory) → Fades s m n → OthersKept s depth m n
  by_fading m n faint f y some other o = faint f y o

  pub put_beside : (b : Base) (slots : List Slot) (m : Memory) (f y : ℕ) → (b ≡ memory.OfVariable f y → ⊥)
      → variable_slots s f y (memory.put b slots m).variables ≡ variable_slots s f y m.variables
  put_beside (memory.OfCell n) slots m f y ne = refl
  put_beside (memory.OfVariable g z) slots m f y ne = put_other s g z f y (λ e. ne (same_base g z f y e)) slots m.variables

  stored_beside : (x : ℕ) (k : Place) (ws : List machine.Word) (m : Memory) → IsFrom (memory.OfVariable (home s depth x) x) k → OthersKept s depth m (stored s k ws m)
  stored_beside x k ws m from f y some other o =
      same_faint _ _ (ap (λ z. get_or z o no_slot)
      (put_beside k.base (take k.at (slots_at s m k.base) ++ fresh ws ++ drop (k.at + length (fresh ws)) (slots_at s m k.base)) m f y (elsewhere from)))
    where
      elsewhere : IsFrom (memory.OfVariable (home s depth x) x) k → k.base ≡ memory.OfVariable f y → ⊥
      elsewhere (inl is) e =
          let frames = same_frame (home s depth x) x f y (sym is ∙ e) in
          elim (near_home x) [ inl first ↦ some (sym frames ∙ first) | inr own ↦ other (sym frames ∙ own) ]
      elsewhere (inr (c, is)) e = no_cell c f y (sym is ∙ e)

  declared_beside : (x : ℕ) (ws : List machine.Word) (m : Memory) → OthersKept s depth m (declared depth x ws m)
  declared_beside x ws m f y some other o =
      same_faint _ _ (ap (λ z. get_or z o no_slot)
      (put_other s depth x f y (λ e. other (sym (same_frame depth x f y (same_base depth x f y e)))) (fresh ws) m.variables))

  removed_beside : (x : ℕ) (m : Memory) → OthersKept s depth m (undeclared depth x m)
  removed_beside x m f y some other o =
      same_faint _ _ (ap (λ z. get_or z o no_slot)
      (removed_other s depth x f y (λ e. other (sym (same_frame depth x f y (same_base depth x f y e)))) m.variables))

module _ (t : Turn) where
  abbrev s : Typing
  s = typing t

  abbrev depth : ℕ
  depth = length t.outer

  abbrev before : Memory
  before = t.state.memory

  abbrev Stays : Memory → Type 0
  Stays m = OthersKept (typing t) (length t.outer) t.state.memory m

  -- It leads to a state where they do.
  abbrev pub Keeps : Outcome → Type 0
  Keeps outcome = Each (λ (state : State). OthersKept (typing t) (length t.outer) t.state.memory state.memory) outcome

  same_memory : Stays before
  same_memory f y some other o = same_faint _ _ refl

  after_that : {A : Type 0} (Q : A → Memory → Type 0) (y : Evaluated A) (f : A → Memory → Outcome) → Gets Q y
      → ((a : A) (m : Memory) → Q a m → Keeps (f a m)) → Keeps (steps.evaluated t y f)
  after_that Q (Done a n) f q next = next a n.memory q
  after_that Q (Raises e n) f q next = tt
  after_that Q (Traps e n) f q next = tt

  evaluated_kept : {A : Type 0} (y : Evaluated A) → FadesTo (here t) before y → Gets (λ a m. Stays m) y
  evaluated_kept (Done a n) faint = by_fading s depth before n.memory faint
  evaluated_kept (Raises e n) faint = tt
  evaluated_kept (Traps e n) faint = tt

  -- ---- places that are named

  taken_fades : (u : ℕ) (e : TypedTree) → FadesTo (here t) before (taken_by t u e (start t))
  taken_fades u e =
      if_fades (here t) before (is_anonymous (full s.table u)) (viewed (here t) e (start t)) (followed_by (value (here t) e (start t)) (checked (here t) u))
      (fades (here t) AsView e (start t))
      (then_fades (here t) before (value (here t) e (start t)) (checked (here t) u) (fades (here t) AsValue e (start t)) (checked_fades (here t) u))

  abbrev base_named : ℕ → Base
  base_named x = memory.OfVariable (home s depth x) x

  abbrev Placed : ℕ → Place → Memory → Type 0
  Placed x k m = IsFrom (base_named x) k × Stays m

  then_found : (x : ℕ) (n : Now) → Stays n.memory → (y : Evaluated Place) → LeadsFrom (base_named x) n.memory y → Gets (Placed x) y
  then_found x n only (Done k m) (from, same) = (from, subst Stays (sym same) only)
  then_found x n only (Raises e m) from = tt
  then_found x n only (Traps e m) from = tt

  then_led : (x : ℕ) (n : Now) → Stays n.memory → (y : Evaluated (List run.Step)) → FadesTo (here t) n.memory y
      → Gets (Placed x) (followed_by y (λ way now. walked s way (variable_place (here t) x) now))
  then_led x n only (Done way m) faint =
      then_found x m (kept_then s depth before n.memory m.memory only (by_fading s depth n.memory m.memory faint))
      (walked s way (variable_place (here t) x) m) (walked_from s (base_named x) way (variable_place (here t) x) m (inl refl))
  then_led x n only (Raises e m) faint = tt
  then_led x n only (Traps e m) faint = tt

  place_found : (p : Pos) (x u : ℕ) (path : TypedTree) (n : Now) → Stays n.memory → Gets (Placed x) (place_of (here t) (Name p x path u) n)
  place_found p x u path n only = then_led x n only (steps_of (here t) path n) (steps_fade (here t) path n)

  store_kept : (x : ℕ) (k : Place) (ws : List machine.Word) (m : Memory) → IsFrom (base_named x) k → Stays m → Stays (stored s k ws m)
  store_kept x k ws m from only = kept_then s depth before m (stored s k ws m) only (stored_beside s depth x k ws m from)

  -- ---- declarations

  first_fades : (u : ℕ) (v : TypedTree) → FadesTo (here t) before (first_value t u v (start t))
  unfolding initial
  first_fades u (More e rest) = taken_fades u e
  first_fades u v = still s before

  declare_keeps : (x : ℕ) (v : TypedTree) → Keeps (steps.declare t x v)
  declare_keeps x v =
      after_that (λ ws m. Stays m) (first_value t (object_at s x).of v (start t)) (λ ws m. goes t (declared depth x ws m) 0)
      (evaluated_kept (first_value t (object_at s x).of v (start t)) (first_fades (object_at s x).of v))
      (λ ws m only. kept_then s depth before m (declared depth x ws m) only (declared_beside s depth x ws m))

  -- ---- assignments

  then_placed : (p : Pos) (x u : ℕ) (path : TypedTree) (y : Evaluated (List machine.Word)) → FadesTo (here t) before y
      → Gets (λ (st : Stored) m. Placed x st.place m)
      (followed_by y (λ ws now. followed_by (place_of (here t) (Name p x path u) now) (λ k now. Done (record { words = ws; place = k }) now)))
  then_placed p x u path (Done ws n) faint = then_stored (place_of (here t) (Name p x path u) n) (place_found p x u path n (by_fading s depth before n.memory faint))
    where
      then_stored : (y : Evaluated Place) → Gets (Placed x) y
          → Gets (λ (st : Stored) m. Placed x st.place m) (followed_by y (λ k now. Done (record { words = ws; place = k }) now))
      then_stored (Done k m) placed = placed
      then_stored (Raises e m) placed = tt
      then_stored (Traps e m) placed = tt
  then_placed p x u path (Raises e n) faint = tt
  then_placed p x u path (Traps e n) faint = tt

  assign_keeps : (p : Pos) (x u : ℕ) (path e : TypedTree) → Keeps (steps.assign t (Name p x path u) e)
  assign_keeps p x u path e =
      let target : TypedTree = Name p x path u in
      after_that (λ (st : Stored) m. Placed x st.place m)
      (followed_by (taken_by t u e (start t)) (λ ws now. followed_by (place_of (here t) target now) (λ k now. Done (record { words = ws; place = k }) now)))
      (λ (st : Stored) m. leaking_goes (checks_at s (steps.target_pos t target) m st.place) (goes t (stored s st.place st.words m) 0))
      (then_placed p x u path (taken_by t u e (start t)) (taken_fades u e))
      (λ st m placed. store_kept x st.place st.words m placed.0 placed.1)

  -- ---- releases

  record Frees (f : Place → Memory → Outcome) : Type 0 where
    nothing : (k : Place) (m : Memory) → words_of s m k ≡ [] → f k m ≡ goes t m 0
    null : (k : Place) (m : Memory) (ws : List machine.Word) → words_of s m k ≡ machine.Null ∷ ws → f k m ≡ goes t m 0
    whole : (k : Place) (m : Memory) (v : ℤ) (ws : List machine.Word) → words_of s m k ≡ machine.Int v ∷ ws → f k m ≡ goes t m 0
    listed : (k : Place) (m : Memory) (v : ℕ) (ws : List machine.Word) → words_of s m k ≡ machine.Enumerated v ∷ ws → f k m ≡ goes t m 0
    several : (k : Place) (m : Memory) (n : ℕ) (w : machine.Word) (ws : List machine.Word) → words_of s m k ≡ machine.Cell n ∷ (w ∷ ws) → f k m ≡ goes t m 0
    dead : (k : Place) (m : Memory) (n : ℕ) → words_of s m k ≡ machine.Cell n ∷ [] → (cell m n).freed ≡ true → f k m ≡ steps.trapped t Twice m
    alive : (k : Place) (m : Memory) (n : ℕ) → words_of s m k ≡ machine.Cell n ∷ [] → (cell m n).freed ≡ false
        → (checks : List (List Leak)) × (f k m ≡ leaking_goes checks (goes t (stored s k (machine.Null ∷ []) (freed n m)) 0))

  freed_keeps : (f : Place → Memory → Outcome) → Frees f → (x : ℕ) (k : Place) (m : Memory) → Placed x k m → (ws : List machine.Word) → words_of s m k ≡ ws → Keeps (f k m)
  freed_keeps f frees x k m placed [] e = subst Keeps (sym (frees.nothing k m e)) placed.1
  freed_keeps f frees x k m placed (machine.Null ∷ ws) e = subst Keeps (sym (frees.null k m ws e)) placed.1
  freed_keeps f frees x k m placed (machine.Int v ∷ ws) e = subst Keeps (sym (frees.whole k m v ws e)) placed.1
  freed_keeps f frees x k m placed (machine.Enumerated v ∷ ws) e = subst Keeps (sym (frees.listed k m v ws e)) placed.1
  freed_keeps f frees x k m placed (machine.Cell n ∷ (w ∷ ws)) e = subst Keeps (sym (frees.several k m n w ws e)) placed.1
  freed_keeps f frees x k m placed (machine.Cell n ∷ []) e = elim (bool_cases (cell m n).freed) [
    | inl dead ↦ subst Keeps (sym (frees.dead k m n e dead)) tt
    | inr alive ↦ (
        let is = frees.alive k m n e alive in
        subst Keeps (sym is.1) (store_kept x k (machine.Null ∷ []) (freed n m) placed.0 placed.1))
  ]

  released_by : (f : Place → Memory → Outcome) → Frees f → (p : Pos) (x u : ℕ) (path : TypedTree)
      → Keeps (steps.evaluated t (place_of (here t) (Name p x path u) (start t)) f)
  released_by f frees p x u path =
      after_that (Placed x) (place_of (here t) (Name p x path u) (start t)) f (place_found p x u path (start t) same_memory)
      (λ k m placed. freed_keeps f frees x k m placed (words_of s m k) refl)

  release_keeps : (p : Pos) (x u : ℕ) (path : TypedTree) → Keeps (steps.release t (Name p x path u))
  release_keeps p x u path =
      released_by _ (record {
        nothing = λ k m is. rw is refl;
        null = λ k m ws is. rw is refl;
        whole = λ k m v ws is. rw is refl;
        listed = λ k m v ws is. rw is refl;
        several = λ k m n w ws is. rw is refl;
        dead = λ k m n is dead. rw (is, dead) refl;
        alive = λ k m n is alive. (checks_at s p m (cell_place (designated s.table k.of) n), rw (is, alive) refl);
      }) p x u path

  -- ---- input

  record Reads (f : Place → Memory → Outcome) : Type 0 where
    missing : (k : Place) (m : Memory) → next_item t.input t.state.at ≡ item.Missing → f k m ≡ steps.raised t run.EndError m
    bad : (k : Place) (m : Memory) → next_item t.input t.state.at ≡ item.Bad → f k m ≡ steps.raised t run.DataError m
    number : (k : Place) (m : Memory) (v : ℤ) (end : ℕ) → next_item t.input t.state.at ≡ item.Number v end
        → fits_type s.table k.of (machine.Int v ∷ []) ≡ true
        → f k m ≡ Goes (record (behind t (waiting t) (stored s k (machine.Int v ∷ []) m) 0) { at = end })
    outside : (k : Place) (m : Memory) (v : ℤ) (end : ℕ) → next_item t.input t.state.at ≡ item.Number v end
        → fits_type s.table k.of (machine.Int v ∷ []) ≡ false → f k m ≡ steps.raised t run.ConstraintError m

  read_keeps : (f : Place → Memory → Outcome) → Reads f → (x : ℕ) (k : Place) (m : Memory) → Placed x k m → (it : Item) → next_item t.input t.state.at ≡ it → Keeps (f k m)
  read_keeps f reads x k m placed item.Missing e = subst Keeps (sym (reads.missing k m e)) tt
  read_keeps f reads x k m placed item.Bad e = subst Keeps (sym (reads.bad k m e)) tt
  read_keeps f reads x k m placed (item.Number v end) e = elim (bool_cases (fits_type s.table k.of (machine.Int v ∷ []))) [
    | inr out ↦ subst Keeps (sym (reads.outside k m v end e out)) tt
    | inl fits ↦ subst Keeps (sym (reads.number k m v end e fits)) (store_kept x k (machine.Int v ∷ []) m placed.0 placed.1)
  ]

  read_by : (f : Place → Memory → Outcome) → Reads f → (p : Pos) (x u : ℕ) (path : TypedTree)
      → Keeps (steps.evaluated t (place_of (here t) (Name p x path u) (start t)) f)
  read_by f reads p x u path =
      after_that (Placed x) (place_of (here t) (Name p x path u) (start t)) f (place_found p x u path (start t) same_memory)
      (λ k m placed. read_keeps f reads x k m placed (next_item t.input t.state.at) refl)

  input_keeps : (p : Pos) (x u : ℕ) (path : TypedTree) → Keeps (steps.input t (Name p x path u))
  input_keeps p x u path =
      read_by _ (record {
        missing = λ k m next. rw next refl;
        bad = λ k m next. rw next refl;
        number = λ k m v end next fits. rw (next, fits) refl;
        outside = λ k m v end next out. rw (next, out) refl;
      }) p x u path

  -- ---- choices

  goes_by : (e : TypedTree) (k : List machine.Word → ℕ) → Keeps (steps.evaluated t (value (here t) e (start t)) (λ ws m. goes t m (k ws)))
  goes_by e k =
      after_that (λ ws m. Stays m) (value (here t) e (start t)) (λ ws m. goes t m (k ws))
      (evaluated_kept (value (here t) e (start t)) (fades (here t) AsValue e (start t))) (λ ws m only. only)

  chosen_keeps : (count k : ℕ) (m : Memory) → Stays m → Keeps (steps.chosen t count k m)
  chosen_keeps count k m only = by_test (nat_lt k count)
    where
      by_test : (b : Bool) → Keeps (if b then goes t m k else steps.raised t run.ConstraintError m)
      by_test true = only
      by_test false = tt

  choose_keeps : (e : TypedTree) (choices : List TypedCode) → Keeps (steps.choose t e choices)
  choose_keeps e choices =
      after_that (λ ws m. Stays m) (value (here t) e (start t)) (λ ws m. steps.chosen t (length choices) (steps.choice choices ws) m)
      (evaluated_kept (value (here t) e (start t)) (fades (here t) AsValue e (start t)))
      (λ ws m only. chosen_keeps (length choices) (steps.choice choices ws) m only)

  text_fades : (e : TypedTree) (n : Now) → FadesTo (here t) n.memory (text_of (here t) e n)
  unfolding text_of
  text_fades (Text b) n = still s n.memory
  text_fades (Image u e) n =
      then_fades (here t) n.memory (value (here t) e n) (λ ws now. Done (run.image_of s.table u ws) now) (fades (here t) AsValue e n) (λ ws m. still s m.memory)
  text_fades (Parens e) n = text_fades e n
  text_fades (Binary op a b) n =
      then_fades (here t) n.memory (text_of (here t) a n) (λ left now. followed_by (text_of (here t) b now) (λ right now. Done (left ++ right) now)) (text_fades a n)
      (λ left m. then_fades (here t) m.memory (text_of (here t) b m) (λ right now. Done (left ++ right) now) (text_fades b m) (λ right o. still s o.memory))
  text_fades e n = still s n.memory

  output_keeps : (text : TypedTree) (line : Bool) → Keeps (steps.output t text line)
  output_keeps text line =
      after_that (λ (bytes : List ℕ) m. Stays m) (text_of (here t) (first text) (start t)) (λ bytes m. Goes (record (behind t (waiting t) m 0) {
        output = t.state.output ++ bytes ++ (if line then 10 ∷ [] else []);
      })) (evaluated_kept (text_of (here t) (first text) (start t)) (text_fades (first text) (start t))) (λ bytes m only. only)

  -- ---- loops

  bounds_fade : (low high : TypedTree) → FadesTo (here t) before (steps.bounds t low high (start t))
  bounds_fade low high =
      then_fades (here t) before (value (here t) low (start t))
      (λ a now. followed_by (value (here t) high now) (λ b now. Done (record { low = a; high = b }) now)) (fades (here t) AsValue low (start t))
      (λ a n. then_fades (here t) n.memory (value (here t) high n) (λ b now. Done (record { low = a; high = b }) now) (fades (here t) AsValue high n)
      (λ b m. still s m.memory))

  record Begins (x : ℕ) (f : steps.Bounds → Memory → Outcome) : Type 0 where
    fails : steps.Bounds → Bool
    loop : steps.Bounds → Loop
    at_fault : (b : steps.Bounds) (m : Memory) → fails b ≡ true → f b m ≡ steps.raised t run.ConstraintError m
    at_turn : (b : steps.Bounds) (m : Memory) → fails b ≡ false
        → f b m ≡ Goes (steps.with_loop (loop b) (behind t (waiting t) (declared depth x b.low m) 0))

  start_by : (x : ℕ) (f : steps.Bounds → Memory → Outcome) → Begins x f → (low high : TypedTree) → Keeps (steps.evaluated t (steps.bounds t low high (start t)) f)
  start_by x f begins low high =
      after_that (λ (b : steps.Bounds) m. Stays m) (steps.bounds t low high (start t)) f
      (evaluated_kept (steps.bounds t low high (start t)) (bounds_fade low high))
      (λ b m only. elim (bool_cases (begins.fails b)) [
        | inl e ↦ subst Keeps (sym (begins.at_fault b m e)) tt
        | inr e ↦ subst Keeps (sym (begins.at_turn b m e)) (kept_then s depth before m (declared depth x b.low m) only (declared_beside s depth x b.low m))
      ])

  start_keeps : (x : ℕ) (low high : TypedTree) → Keeps (steps.start_loop t x low high)
  start_keeps x low high =
      start_by x _ (record {
        fails = λ b. int_le (steps.number b.low) (steps.number b.high)
            && not (fits_type s.table (object_at s x).of b.low && fits_type s.table (object_at s x).of b.high);
        loop = λ b. record { parameter = x; low = steps.number b.low; high = steps.number b.high; first = true };
        at_fault = λ b m e. rw e refl;
        at_turn = λ b m e. rw e refl;
      }) low high

  next_by : (x : ℕ) (ws : List machine.Word) (v : Option ℤ) → Keeps (steps.turned_to t x (variable_place (here t) x) ws v)
  next_by x ws (Some v) = stored_beside s depth x (variable_place (here t) x) (steps.parameter_words ws v) before (inl refl)
  next_by x ws None = removed_beside s depth x before

  next_keeps : (x : ℕ) (reversed : Bool) → Keeps (steps.next_turn t x reversed)
  next_keeps x reversed =
      let ws : List machine.Word = words_of s before (variable_place (here t) x) in
      next_by x ws (steps.next_value reversed (steps.loop_of x t.frame.loops) (steps.number ws))

  pub end_scope_keeps : (x : ℕ) → Keeps (steps.end_scope t x)
  end_scope_keeps x = removed_beside s depth x before

  -- ---- each instruction

  assigned_keeps : (target e : TypedTree) → IsFine s None (Assign target e) → Keeps (turn t (Assign target e))
  assigned_keeps (Name p x path u) e text = assign_keeps p x u path e
  assigned_keeps target e (v, never, source) = absurd never

  got_keeps : (target : TypedTree) → IsFine s None (Input target) → Keeps (turn t (Input target))
  got_keeps (Name p x path u) text = input_keeps p x u path
  got_keeps target (v, never, scalar) = absurd never

  given_keeps : (target : TypedTree) → IsFine s None (Release target) → Keeps (turn t (Release target))
  given_keeps (Name p x path u) text = release_keeps p x u path
  given_keeps target (v, d, never, access) = absurd never

  leave_keeps : (e : TypedTree) → FirstStays s e → Keeps (turn t (LeaveLoop e))
  leave_keeps (More e rest) stays = goes_by e (λ ws. if run.is_true ws then 0 else 1)
  leave_keeps NoMore stays = same_memory
  leave_keeps e never = absurd never

  -- a value that is taken or waits on
  pub value_stays : (e : TypedTree) → Gets (λ ws m. OthersKept (typing t) (length t.outer) t.state.memory m) (value (here t) e (start t))
  value_stays e = evaluated_kept (value (here t) e (start t)) (fades (here t) AsValue e (start t))

  pub source_stays : (u : ℕ) (e : TypedTree) → Gets (λ ws m. OthersKept (typing t) (length t.outer) t.state.memory m) (taken_by t u e (start t))
  source_stays u e = evaluated_kept (taken_by t u e (start t)) (taken_fades u e)

  hold_keeps : (v : TypedTree) → IsOther (Hold v) → (r : Option ℕ) → Returns s r v → Keeps (turn t (Hold v))
  hold_keeps v other_one None none = subst (λ z. Keeps (turn t (Hold z))) (sym none) same_memory
  hold_keeps v other_one (Some of) (value_of, same, source) = absurd (subst (λ z. IsOther (Hold z)) same other_one)

  pub others_keep : (r : Option ℕ) (i : Instruction) → IsFine s r i → IsOther i → Keeps (turn t i)
  others_keep r Skip text other_one = same_memory
  others_keep r (Declare x v) text other_one = declare_keeps x v
  others_keep r (Assign target e) text other_one = assigned_keeps target e text
  others_keep r (Call sub actuals result) text other_one = absurd other_one
  others_keep r (Output text line) writing other_one = output_keeps text line
  others_keep r (Input target) text other_one = got_keeps target text
  others_keep r (Release e) text other_one = given_keeps e text
  others_keep r (Test e) text other_one = goes_by e (λ ws. if run.is_true ws then 0 else 1)
  others_keep r (Choose e choices) text other_one = choose_keeps e choices
  others_keep r (Start x reversed low high) text other_one = start_keeps x low high
  others_keep r (Next x reversed low high) text other_one = next_keeps x reversed
  others_keep r (Evaluate temporary e left) text other_one = absurd other_one
  others_keep r (LeaveLoop e) text other_one = leave_keeps e text
  others_keep r (Hold v) text other_one = hold_keeps v other_one r text
  others_keep r (EndScope x) text other_one = end_scope_keeps x
  others_keep r Finish text other_one = absurd other_one
  others_keep r Fall text other_one = tt
