-- Instructions lead to the same in memories that agree.
use Rattle.std.proofs.Common.{◌≡◌, refl, sym, ap, ◌∙◌, subst, inl, inr, ℕ, ◌+◌, Bool, true, false, not, ◌&&◌, List, [], ◌∷◌, ◌++◌, drop, length, nat_lt, append_assoc, append-nil, ℤ, Option, Some, None, if◌then◌else◌}
use Rattle.std.specs.Prelude.{int_le}
use Rattle.std.proofs.lemmas.Bool.{true≢false}
use Rattle.machine.specs.spark_base.declared.position.Pos.{Pos}
use Rattle.machine.specs.place_names.declared.act.Act.{Act}
use Rattle.machine.specs.place_names.declared.act.Act.TheVariants as act
use Rattle.machine.specs.place_names.declared.act.Mode.TheVariants as mode
use Rattle.machine.specs.place_names.declared.fact.Fact.{Fact}
use Rattle.machine.specs.place_names.Names.{Name as PlaceName}
use Rattle.machine.specs.place_names.Rules.{breaks_O3}
use Rattle.machine.specs.type_definitions.declared.table.Shape.TheVariants as shape
use Rattle.machine.specs.type_definitions.Types.{shape_of, full, is_scalar}
use Rattle.machine.specs.typed_tree.declared.node.ShortCircuit.{ShortCircuit}
use Rattle.machine.specs.typed_tree.Trees.{TypedTree, TypedCode, Name, NoMore, More}
use Rattle.machine.specs.flow_paths.Instructions.{Skip, Fall}
use Rattle.machine.specs.flow_paths.Objects.{Typing, object_at, designated, is_anonymous}
use Rattle.machine.specs.flow_paths.Names.{has_call, waiting as waits_in, name_of}
use Rattle.machine.specs.flow_paths.Acts.{acts_in, stored_acts, source_acts}
use Rattle.kept_cells.specs.run_values.declared.items.Item.{Item}
use Rattle.kept_cells.specs.run_values.declared.items.Item.TheVariants as item
use Rattle.kept_cells.specs.run_values.Items.{next_item}
use Rattle.machine.specs.Words.{fits_type}
use Rattle.machine.specs.Words as machine
use Rattle.machine.specs.Memory.{Memory, Place, cell, freed, slots_of, words_of, declared, undeclared, stored}
use Rattle.machine.specs.Evaluate.{Here, Now, AsValue, Exception, Trap, Evaluated, Done, Raises, Traps, followed_by, evaluate, initial, checked, value, viewed, place_of, cell_place, variable_place, text_of}
use Rattle.machine.specs.Evaluate as run
use Rattle.machine.specs.Calls.{checks_at}
use Rattle.machine.specs.States.{Waiting, Loop, Leak, State, Outcome, Goes, Ends}
use Rattle.machine.specs.Step.{Turn, typing, here, start, waiting, raised, trapped, Stored, first_value, taken_by, declare, assign, end_scope, goes, behind, leaking, leaking_goes, target_pos}
use Rattle.machine.specs.Step as steps
use Rattle.machine.specs.Owners.{waiting_in}
use Rattle.soundness.specs.OwnedWays.Ways.{OfVariable, Loc, OfRoot, Allows, after, AllowsAll}
use Rattle.soundness.specs.PartOffsets.Parts.{IsSettled}
use Rattle.soundness.specs.Seen.{home}
use Rattle.soundness.specs.Typed.{OwnsByShape, Spot}
use Rattle.soundness.specs.TypedLaws.Needed.{Stays, Writes, Leads, Gives, FirstSource}
use Rattle.soundness.proofs.Steps.{no_leaf}
use Rattle.soundness.proofs.Scalars.{acts, acts_append, allows_both}
use Rattle.soundness.proofs.Taking.{Takes, takes_as, nothing_more}
use Rattle.soundness.proofs.Stays.{Quiet, One}
use Rattle.soundness.proofs.Freeing.{switched}
use Rattle.recycled_runs.specs.ViewedFacts.NullPlaces.Agrees.{Agrees, SameState}
use Rattle.recycled_runs.specs.ViewedFacts.NullPlaces.Compares.{Compares}
use Rattle.recycled_runs.proofs.ViewedFacts.NullPlaces.Memories.{NoneGone, words_agree, cell_agree, stored_agree, declared_agree, undeclared_agree, freed_agree, given_up_agree, checks_agree}
use Rattle.recycled_runs.proofs.ViewedFacts.NullPlaces.Only.{OnlyOwners, stored_only, declared_only, undeclared_only, freed_only}
use Rattle.recycled_runs.proofs.ViewedFacts.NullPlaces.Places.{spot_whole, plain_whole}
use Rattle.recycled_runs.proofs.ViewedFacts.NullPlaces.Walks.{SameNow, SameTo, then_same, simply}
use Rattle.recycled_runs.proofs.ViewedFacts.NullPlaces.Laws.{Premises, Behaves, Values, GivenBy, IsAt, IsWholeAt, checked_by}
use Rattle.recycled_runs.proofs.ViewedFacts.NullPlaces.Scalars.{place_on, scalar_on, text_on}
use Rattle.recycled_runs.proofs.ViewedFacts.NullPlaces.Evaluated.{checked_same, value_on}

-- Outcomes agree, and where the step goes on, only words that own are gone.
abbrev pub SameStepBy : Typing → Outcome → Outcome → Type 0
SameStepBy s (Goes a) (Goes b) = SameState a b × OnlyOwners s a.memory
SameStepBy s (Ends e a) (Ends f b) = (e ≡ f) × SameState a b
SameStepBy s _ _ = ⊥

abbrev pub SameStep : steps.Turn → Outcome → Outcome → Type 0
SameStep t x y = SameStepBy (typing t) x y

-- The turn in another memory.
abbrev pub twin : Turn → Memory → Turn
twin t n = record t { state = record t.state { memory = n } }

-- leak checks that give the same
pub leaking_same : (t : Turn) (checks checks' : List (List Leak)) → checks ≡ checks' → (x y : Outcome) → SameStep t x y
    → SameStep t (leaking_goes checks x) (leaking_goes checks' y)
leaking_same t checks checks' e (Goes a) (Goes b) same =
    subst (λ z. SameStep t (Goes (leaking checks a)) (Goes (leaking z b))) e ((ap (leaking checks) same.0.0, same.0.1), same.1)
leaking_same t checks checks' e (Ends x a) (Ends y b) same =
    subst (λ z. SameStep t (Ends x (leaking checks a)) (Ends y (leaking z b))) e (same.0, (ap (leaking checks) same.1.0, same.1.1))
leaking_same t checks checks' e (Goes a) (Ends y b) same = absurd same
leaking_same t checks checks' e (Ends x a) (Goes b) same = absurd same

pub both_are : (t : Turn) (x x' y y' : Outcome) → x ≡ x' → y ≡ y' → SameStep t x' y' → SameStep t x y
both_are t x x' y y' e e' same = subst (λ z. SameStep t z y) (sym e) (subst (SameStep t x') (sym e') same)

module _ (t : Turn) (n : Memory) (agrees : Agrees t.state.memory n) where
  pub goes_same : (m m' : Memory) (k : ℕ) → Agrees m m' → OnlyOwners (typing t) m → SameStep t (goes t m k) (goes (twin t n) m' k)
  goes_same m m' k a only = ((refl, a), only)

  pub leaks_same : (pos : Pos) (k : Place) (a b m m' : Memory) → Agrees a b → Agrees m m' → OnlyOwners (typing t) m
      → SameStep t (leaking_goes (checks_at (typing t) pos a k) (goes t m 0)) (leaking_goes (checks_at (typing t) pos b k) (goes (twin t n) m' 0))
  leaks_same pos k a b m m' before after_step only =
      leaking_same t (checks_at (typing t) pos a k) (checks_at (typing t) pos b k) (checks_agree (typing t) pos a b before k) (goes t m 0) (goes (twin t n) m' 0)
      (goes_same m m' 0 after_step only)

  pub raised_same : (e : Exception) (m m' : Memory) → Agrees m m' → SameStep t (raised t e m) (raised (twin t n) e m')
  raised_same e m m' a = (refl, (refl, given_up_agree t.state.memory n m m' agrees a))

  pub trapped_same : (e : Trap) (m m' : Memory) → Agrees m m' → SameStep t (trapped t e m) (trapped (twin t n) e m')
  trapped_same e m m' a = (refl, (refl, given_up_agree t.state.memory n m m' agrees a))

  -- what an evaluation leads to, where something is known of it
  pub step_then : {A : Type 0} (P : Evaluated A → Type 0) (x y : Evaluated A) (f g : A → Memory → Outcome) → P x → SameTo (typing t) x y
      → ((a : A) (i j : Now) → P (Done a i) → SameNow (typing t) i j → SameStep t (f a i.memory) (g a j.memory))
      → SameStep t (steps.evaluated t x f) (steps.evaluated (twin t n) y g)
  step_then P (Done a i) (Done b j) f g p same next = subst (λ z. SameStep t (f a i.memory) (g z j.memory)) same.0 (next a i j p same.1)
  step_then P (Raises e i) (Raises e' j) f g p same next =
      subst (λ z. SameStep t (raised t e i.memory) (raised (twin t n) z j.memory)) same.0 (raised_same e i.memory j.memory same.1.0)
  step_then P (Traps e i) (Traps e' j) f g p same next =
      subst (λ z. SameStep t (trapped t e i.memory) (trapped (twin t n) z j.memory)) same.0 (trapped_same e i.memory j.memory same.1.0)
  step_then P (Done a i) (Raises e j) f g p same next = absurd same
  step_then P (Done a i) (Traps e j) f g p same next = absurd same
  step_then P (Raises e i) (Done b j) f g p same next = absurd same
  step_then P (Raises e i) (Traps e' j) f g p same next = absurd same
  step_then P (Traps e i) (Done b j) f g p same next = absurd same
  step_then P (Traps e i) (Raises e' j) f g p same next = absurd same

  pub step_simply : {A : Type 0} (x y : Evaluated A) (f g : A → Memory → Outcome) → SameTo (typing t) x y
      → ((a : A) (i j : Now) → SameNow (typing t) i j → SameStep t (f a i.memory) (g a j.memory))
      → SameStep t (steps.evaluated t x f) (steps.evaluated (twin t n) y g)
  step_simply x y f g same next = step_then (λ z. Unit {0}) x y f g tt same (λ a i j p now. next a i j now)

-- ---- what is done at a place

-- A release, by the word there.
pub record Releases (t : Turn) (pos : Pos) (f : Place → Memory → Outcome) : Type 0 where
  pub at_none : (k : Place) (m : Memory) → words_of (typing t) m k ≡ [] → f k m ≡ goes t m 0
  pub at_whole : (k : Place) (m : Memory) (v : ℤ) (ws : List machine.Word) → words_of (typing t) m k ≡ machine.Int v ∷ ws → f k m ≡ goes t m 0
  pub at_listed : (k : Place) (m : Memory) (v : ℕ) (ws : List machine.Word) → words_of (typing t) m k ≡ machine.Enumerated v ∷ ws → f k m ≡ goes t m 0
  pub at_null : (k : Place) (m : Memory) (ws : List machine.Word) → words_of (typing t) m k ≡ machine.Null ∷ ws → f k m ≡ goes t m 0
  pub at_more : (k : Place) (m : Memory) (c : ℕ) (w : machine.Word) (ws : List machine.Word) → words_of (typing t) m k ≡ machine.Cell c ∷ (w ∷ ws) → f k m ≡ goes t m 0
  pub at_freed : (k : Place) (m : Memory) (c : ℕ) → words_of (typing t) m k ≡ machine.Cell c ∷ [] → (cell m c).freed ≡ true → f k m ≡ trapped t run.Twice m
  pub at_cell : (k : Place) (m : Memory) (c : ℕ) → words_of (typing t) m k ≡ machine.Cell c ∷ [] → (cell m c).freed ≡ false
      → f k m ≡ leaking_goes (checks_at (typing t) pos m (cell_place (designated (typing t).table k.of) c))
      (goes t (stored (typing t) k (machine.Null ∷ []) (freed c m)) 0)

-- An input, by the next item.
pub record Gets (t : Turn) (f : Place → Memory → Outcome) : Type 0 where
  pub at_missing : (k : Place) (m : Memory) → next_item t.input t.state.at ≡ item.Missing → f k m ≡ raised t run.EndError m
  pub at_bad : (k : Place) (m : Memory) → next_item t.input t.state.at ≡ item.Bad → f k m ≡ raised t run.DataError m
  pub at_number : (k : Place) (m : Memory) (v : ℤ) (end : ℕ) → next_item t.input t.state.at ≡ item.Number v end
      → fits_type (typing t).table k.of (machine.Int v ∷ []) ≡ true
      → f k m ≡ Goes (record (behind t (waiting t) (stored (typing t) k (machine.Int v ∷ []) m) 0) { at = end })
  pub at_outside : (k : Place) (m : Memory) (v : ℤ) (end : ℕ) → next_item t.input t.state.at ≡ item.Number v end
      → fits_type (typing t).table k.of (machine.Int v ∷ []) ≡ false → f k m ≡ raised t run.ConstraintError m

-- The start of a loop, by its bounds.
pub record Starts (t : Turn) (x : ℕ) (fails : steps.Bounds → Bool) (loop : steps.Bounds → Loop) (f : steps.Bounds → Memory → Outcome) : Type 0 where
  pub at_fault : (b : steps.Bounds) (m : Memory) → fails b ≡ true → f b m ≡ raised t run.ConstraintError m
  pub at_turn : (b : steps.Bounds) (m : Memory) → fails b ≡ false
      → f b m ≡ Goes (steps.with_loop (loop b) (behind t (waiting t) (declared (length t.outer) x b.low m) 0))

module _ (t : Turn) (n : Memory) (agrees : Agrees t.state.memory n) where
  released_same : (pos : Pos) (f g : Place → Memory → Outcome) → Releases t pos f → Releases (twin t n) pos g → (k : Place) (m m' : Memory)
      → Agrees m m' → OnlyOwners (typing t) m → (ws : List machine.Word) → words_of (typing t) m k ≡ ws → words_of (typing t) m' k ≡ ws → SameStep t (f k m) (g k m')
  released_same pos f g one two k m m' a only ws is so = by ws is so
    where
      plain : SameStep t (goes t m 0) (goes (twin t n) m' 0)
      plain = goes_same t n agrees m m' 0 a only

      by_freed : (c : ℕ) (b : Bool) → words_of (typing t) m k ≡ machine.Cell c ∷ [] → words_of (typing t) m' k ≡ machine.Cell c ∷ [] → (cell m c).freed ≡ b
          → (cell m' c).freed ≡ b → SameStep t (f k m) (g k m')
      by_freed c true is so old new = both_are t _ _ _ _ (one.at_freed k m c is old) (two.at_freed k m' c so new) (trapped_same t n agrees run.Twice m m' a)
      by_freed c false is so old new =
          both_are t _ _ _ _ (one.at_cell k m c is old) (two.at_cell k m' c so new)
          (leaks_same t n agrees pos (cell_place (designated (typing t).table k.of) c) m m' (stored (typing t) k (machine.Null ∷ []) (freed c m))
          (stored (typing t) k (machine.Null ∷ []) (freed c m')) a (stored_agree (typing t) k (machine.Null ∷ []) (freed c m) (freed c m') (freed_agree c m m' a))
          (stored_only (typing t) (freed c m) (freed_only (typing t) m only c) k (machine.Null ∷ [])))

      by : (ws : List machine.Word) → words_of (typing t) m k ≡ ws → words_of (typing t) m' k ≡ ws → SameStep t (f k m) (g k m')
      by [] is so = both_are t _ _ _ _ (one.at_none k m is) (two.at_none k m' so) plain
      by (machine.Int v ∷ ws) is so = both_are t _ _ _ _ (one.at_whole k m v ws is) (two.at_whole k m' v ws so) plain
      by (machine.Enumerated v ∷ ws) is so = both_are t _ _ _ _ (one.at_listed k m v ws is) (two.at_listed k m' v ws so) plain
      by (machine.Null ∷ ws) is so = both_are t _ _ _ _ (one.at_null k m ws is) (two.at_null k m' ws so) plain
      by (machine.Cell c ∷ (w ∷ ws)) is so = both_are t _ _ _ _ (one.at_more k m c w ws is) (two.at_more k m' c w ws so) plain
      by (machine.Cell c ∷ []) is so = by_freed c (cell m c).freed is so refl (sym (cell_agree m m' a c).1)

  got_same : (f g : Place → Memory → Outcome) → Gets t f → Gets (twin t n) g → (k : Place) (m m' : Memory)
      → Agrees m m' → OnlyOwners (typing t) m → SameStep t (f k m) (g k m')
  got_same f g one two k m m' a only = by (next_item t.input t.state.at) refl
    where
      by_fit : (v : ℤ) (end : ℕ) (b : Bool) → next_item t.input t.state.at ≡ item.Number v end → fits_type (typing t).table k.of (machine.Int v ∷ []) ≡ b
          → SameStep t (f k m) (g k m')
      by_fit v end true next fits =
          both_are t _ _ _ _ (one.at_number k m v end next fits) (two.at_number k m' v end next fits)
          ((refl, stored_agree (typing t) k (machine.Int v ∷ []) m m' a), stored_only (typing t) m only k (machine.Int v ∷ []))
      by_fit v end false next fits =
          both_are t _ _ _ _ (one.at_outside k m v end next fits) (two.at_outside k m' v end next fits) (raised_same t n agrees run.ConstraintError m m' a)

      by : (it : Item) → next_item t.input t.state.at ≡ it → SameStep t (f k m) (g k m')
      by item.Missing e = both_are t _ _ _ _ (one.at_missing k m e) (two.at_missing k m' e) (raised_same t n agrees run.EndError m m' a)
      by item.Bad e = both_are t _ _ _ _ (one.at_bad k m e) (two.at_bad k m' e) (raised_same t n agrees run.DataError m m' a)
      by (item.Number v end) e = by_fit v end (fits_type (typing t).table k.of (machine.Int v ∷ [])) e refl

  -- the same loop in states that agree
  loop_same : (l : Loop) (a b : State) → SameState a b → SameState (steps.with_loop l a) (steps.with_loop l b)
  loop_same l a b same = (ap (steps.with_loop l) same.0, same.1)

  started_same : (x : ℕ) (fails : steps.Bounds → Bool) (loop : steps.Bounds → Loop) (f g : steps.Bounds → Memory → Outcome)
      → Starts t x fails loop f → Starts (twin t n) x fails loop g → (b : steps.Bounds) (m m' : Memory) → Agrees m m' → OnlyOwners (typing t) m → SameStep t (f b m) (g b m')
  started_same x fails loop f g one two b m m' a only = by (fails b) refl
    where
      by : (c : Bool) → fails b ≡ c → SameStep t (f b m) (g b m')
      by true e = both_are t _ _ _ _ (one.at_fault b m e) (two.at_fault b m' e) (raised_same t n agrees run.ConstraintError m m' a)
      by false e =
          both_are t _ _ _ _ (one.at_turn b m e) (two.at_turn b m' e) (
            loop_same (loop b) (behind t (waiting t) (declared (length t.outer) x b.low m) 0) (behind (twin t n) (waiting t) (declared (length t.outer) x b.low m') 0)
                (refl, declared_agree (length t.outer) x b.low m m' a),
            declared_only (typing t) m only (length t.outer) x b.low,
          )

  -- a scope ends
  pub end_scope_same : OnlyOwners (typing t) t.state.memory → (x : ℕ) → SameStep t (end_scope t x) (end_scope (twin t n) x)
  end_scope_same only x =
      leaks_same t n agrees t.point.pos (variable_place (here t) x) t.state.memory n (undeclared (length t.outer) x t.state.memory) (undeclared (length t.outer) x n) agrees
      (undeclared_agree (length t.outer) x t.state.memory n agrees) (undeclared_only (typing t) t.state.memory only (length t.outer) x)

-- ---- each instruction

module _ (t : Turn) (settled : IsSettled (typing t).table) (own_law : OwnsByShape (typing t).table) (asks : Premises (here t))
    (ready : Memory → List Waiting → List Fact → Type 0) (values : Values (here t) asks ready) (facts : List Fact)
    (so : ready t.state.memory (waiting_in t.state) facts) (only : OnlyOwners (typing t) t.state.memory) (n : Memory) (agrees : Agrees t.state.memory n) where
  abbrev h : Here
  h = here t

  abbrev depth : ℕ
  depth = length t.outer

  abbrev hands : List Waiting
  hands = waiting_in t.state

  abbrev at : Now
  at = record { memory = t.state.memory; waits = (start t).waits }

  abbrev Step : Outcome → Outcome → Type 0
  Step x y = SameStep t x y

  at_start : SameNow (typing t) at (start (twin t n))
  at_start = (agrees, refl, only)

  law : Behaves h asks t.state.memory hands facts
  law = values.behaves t.state.memory hands facts so only

  scalar : (before on : List (List machine.Word)) (e : TypedTree) → Stays (typing t) e → Takes (waits_in e) before on → asks.calls (has_call e) → Compares (typing t) e
      → AllowsAll facts (acts (acts_in (typing t) e))
      → (n' : Now) → SameNow (typing t) (record { memory = t.state.memory; waits = before }) n'
      → SameTo (typing t) (value h e (record { memory = t.state.memory; waits = before })) (value h e n')
  scalar before on e stays takes calls compares allowed n' same =
      scalar_on h settled own_law asks t.state.memory hands facts law AsValue e stays before on takes calls compares allowed n' same

  -- ---- values that are taken

  pub source_same : (on : List (List machine.Word)) (u : ℕ) (e : TypedTree) → is_anonymous (full (typing t).table u) ≡ false → asks.takes u → Gives (typing t) u e
      → asks.calls (has_call e) → asks.gives e → Takes (waits_in e) (start t).waits on → Compares (typing t) e → AllowsAll facts (acts (acts_in (typing t) e))
      → asks.keeps (acts (acts_in (typing t) e)) → SameTo (typing t) (taken_by t u e at) (taken_by t u e (start (twin t n)))
  source_same on u e owner own gives calls own_calls takes compares allowed keep =
      subst (λ b. SameTo (typing t) (if b then viewed h e at else followed_by (value h e at) (checked h u))
      (if b then viewed h e (start (twin t n)) else followed_by (value h e (start (twin t n))) (checked h u))) (sym owner)
      (checked_same h settled own_law asks ready values u (value h e at) (value h e (start (twin t n)))
      (value_on h settled own_law asks ready values e u gives calls own_calls (start t).waits on takes compares
      t.state.memory hands facts so allowed only own keep (start (twin t n)) at_start))

  source_given : (on : List (List machine.Word)) (u : ℕ) (e : TypedTree) → is_anonymous (full (typing t).table u) ≡ false → asks.takes u → Gives (typing t) u e
      → asks.calls (has_call e) → asks.gives e → Takes (waits_in e) (start t).waits on → AllowsAll facts (acts (acts_in (typing t) e)) → asks.keeps (acts (acts_in (typing t) e))
      → GivenBy h ready on u hands (after (acts (acts_in (typing t) e)) facts) (taken_by t u e at)
  source_given on u e owner own gives calls own_calls takes allowed keep =
      subst (λ b. GivenBy h ready on u hands (after (acts (acts_in (typing t) e)) facts) (if b then viewed h e at else followed_by (value h e at) (checked h u))) (sym owner)
      (checked_by h ready on u u hands (after (acts (acts_in (typing t) e)) facts) (evaluate h AsValue e at)
      (values.given e u gives calls own_calls (start t).waits on takes t.state.memory hands facts so allowed own keep))

  first_same : (on : List (List machine.Word)) (u : ℕ) (v : TypedTree) → is_anonymous (full (typing t).table u) ≡ false → asks.takes u → FirstSource (typing t) u v
      → asks.calls (has_call v) → asks.gives v → Takes (waits_in v) (start t).waits on
      → Compares (typing t) v → AllowsAll facts (acts (acts_in (typing t) v)) → asks.keeps (acts (acts_in (typing t) v))
      → SameTo (typing t) (first_value t u v at) (first_value t u v (start (twin t n)))
  unfolding acts_in has_call initial Compares waits_in
  first_same on u (More e rest) owner own (last, source) calls own_calls takes compares allowed keep =
      let same : acts_in (typing t) e ++ acts_in (typing t) rest ≡ acts_in (typing t) e =
      ap (λ z. acts_in (typing t) e ++ acts_in (typing t) z) last ∙ append-nil (acts_in (typing t) e) in
      let alone_there : waits_in e + waits_in rest ≡ waits_in e = ap (λ z. waits_in e + waits_in z) last ∙ nothing_more (waits_in e) in
      elim source [
        | inl view ↦ absurd (let no : true ≡ false = sym view.0 ∙ owner in true≢false no)
        | inr gives ↦ source_same on u e owner own gives (asks.both_calls (has_call e) (has_call rest) calls).0 (asks.both_give e rest own_calls).0
            (takes_as (waits_in e + waits_in rest) (waits_in e) (start t).waits on alone_there takes) compares.0 (subst (λ z. AllowsAll facts (acts z)) same allowed)
            (subst (λ z. asks.keeps (acts z)) same keep)
      ]
  first_same on u NoMore owner own gives calls own_calls takes compares allowed keep = (refl, at_start)
  first_same on u v owner own gives calls own_calls takes compares allowed keep = absurd gives

  -- a declaration, by its first value
  pub declared_by : (x : ℕ) (v : TypedTree)
      → SameTo (typing t) (first_value t (object_at (typing t) x).of v (record { memory = t.state.memory; waits = (start t).waits }))
      (first_value t (object_at (typing t) x).of v (start (twin t n)))
      → Step (declare t x v) (declare (twin t n) x v)
  declared_by x v same =
      step_simply t n agrees (first_value t (object_at (typing t) x).of v at) (first_value t (object_at (typing t) x).of v (start (twin t n)))
      (λ ws m. goes t (declared depth x ws m) 0) (λ ws m. goes (twin t n) (declared depth x ws m) 0) same
      (λ ws i j now. goes_same t n agrees (declared depth x ws i.memory) (declared depth x ws j.memory) 0
      (declared_agree depth x ws i.memory j.memory now.0) (declared_only (typing t) i.memory now.2 depth x ws))

  pub declare_on : (on : List (List machine.Word)) (x : ℕ) (v : TypedTree) → is_anonymous (full (typing t).table (object_at (typing t) x).of) ≡ false
      → asks.takes (object_at (typing t) x).of → FirstSource (typing t) (object_at (typing t) x).of v → asks.calls (has_call v) → asks.gives v
      → Takes (waits_in v) (start t).waits on → Compares (typing t) v → AllowsAll facts (acts (acts_in (typing t) v))
      → asks.keeps (acts (acts_in (typing t) v)) → Step (declare t x v) (declare (twin t n) x v)
  declare_on on x v owner own gives calls own_calls takes compares allowed keep =
      declared_by x v (first_same on (object_at (typing t) x).of v owner own gives calls own_calls takes compares allowed keep)

  -- ---- assignments

  -- what is stored at a place
  pub stored_same : (target : TypedTree) (y z : Evaluated Stored) → SameTo (typing t) y z
      → Step (steps.evaluated t y (λ (st : Stored) m. leaking_goes (checks_at (typing t) (target_pos t target) m st.place) (goes t (stored (typing t) st.place st.words m) 0)))
      (steps.evaluated (twin t n) z (λ (st : Stored) m. leaking_goes (checks_at (typing t) (target_pos t target) m st.place) (goes (twin t n) (stored (typing t) st.place st.words m) 0)))
  stored_same target y z same =
      step_simply t n agrees y z
      (λ (st : Stored) m. leaking_goes (checks_at (typing t) (target_pos t target) m st.place) (goes t (stored (typing t) st.place st.words m) 0))
      (λ (st : Stored) m. leaking_goes (checks_at (typing t) (target_pos t target) m st.place) (goes (twin t n) (stored (typing t) st.place st.words m) 0)) same
      (λ st i j now. leaks_same t n agrees (target_pos t target) st.place i.memory j.memory (stored (typing t) st.place st.words i.memory)
      (stored (typing t) st.place st.words j.memory) now.0 (stored_agree (typing t) st.place st.words i.memory j.memory now.0)
      (stored_only (typing t) i.memory now.2 st.place st.words))

  -- the place is found with the value in hand
  pub then_placed : (rest : List Waiting) (mid on : List (List machine.Word)) (p : Pos) (x u : ℕ) (path : TypedTree) → Leads (typing t) (object_at (typing t) x).of path u → Takes (waits_in path) mid on
      → asks.calls (has_call path) → Compares (typing t) path
      → (behind_facts : List Fact) → AllowsAll behind_facts (acts (acts_in (typing t) path) ++ act.Write (name_of x path) ∷ []) → (ws : List machine.Word) (i j : Now)
      → GivenBy h ready mid u rest behind_facts (Done ws i)
      → SameNow (typing t) i j
      → SameTo {A = Stored} (typing t) (followed_by (place_of h (Name p x path u) i) (λ k now. Done (record { words = ws; place = k }) now))
      (followed_by (place_of h (Name p x path u) j) (λ k now. Done (record { words = ws; place = k }) now))
  then_placed rest mid on p x u path lead takes calls compares behind_facts allowed ws i j (inner, long, same) now =
      let v : Waiting = record { of = u; words = ws } in
      let each = allows_both behind_facts (acts (acts_in (typing t) path)) (act.Write (name_of x path) ∷ []) allowed in
      let there = values.behaves i.memory (v ∷ rest) behind_facts inner now.2 in
      let stay = (there.steps (object_at (typing t) x).of u path lead mid on takes calls each.0).1 in
      let writes : Allows behind_facts (act.Write (name_of x path)) = subst (λ z. Allows z (act.Write (name_of x path))) stay each.1.0 in
      subst (λ z. SameNow (typing t) (record { memory = i.memory; waits = z }) j
      → SameTo {A = Stored} (typing t) (followed_by (place_of h (Name p x path u) (record { memory = i.memory; waits = z })) (λ k now. Done (record { words = ws; place = k }) now))
      (followed_by (place_of h (Name p x path u) j) (λ k now. Done (record { words = ws; place = k }) now))) (sym same)
      (λ still. simply (typing t) (place_of h (Name p x path u) (record { memory = i.memory; waits = mid })) (place_of h (Name p x path u) j)
      (λ k now. Done (record { words = ws; place = k }) now) (λ k now. Done (record { words = ws; place = k }) now)
      (place_on h settled own_law asks i.memory (v ∷ rest) behind_facts there mid on p x u path lead takes calls compares each.0
      (IsAt h asks i.memory (v ∷ rest) behind_facts u) (λ way goes. there.write on x u path way goes writes) j still).0 (λ k a b last. (refl, last))) now

  pub assign_on : (mid on : List (List machine.Word)) (p : Pos) (x u : ℕ) (path e : TypedTree) → is_anonymous (full (typing t).table u) ≡ false → asks.takes u
      → Gives (typing t) u e → Leads (typing t) (object_at (typing t) x).of path u → asks.calls (has_call e) → asks.gives e → asks.calls (has_call path)
      → Takes (waits_in e) (start t).waits mid → Takes (waits_in path) mid on → Compares (typing t) path → Compares (typing t) e
      → AllowsAll facts (acts (stored_acts (typing t) (Name p x path u) e)) → asks.keeps (acts (acts_in (typing t) e))
      → Step (assign t (Name p x path u) e) (assign (twin t n) (Name p x path u) e)
  assign_on mid on p x u path e owner own gives lead calls own_calls calls' takes takes' compares compares' allowed keep =
      let target : TypedTree = Name p x path u in
      let a : List Act = acts (acts_in (typing t) e) in
      let b : List Act = acts (acts_in (typing t) path) in
      let all : acts (stored_acts (typing t) target e) ≡ a ++ (b ++ act.Write (name_of x path) ∷ []) =
      acts_append (acts_in (typing t) e ++ acts_in (typing t) path) (record { pos = p; act = act.Write (name_of x path) } ∷ [])
      ∙ ap (λ z. z ++ (act.Write (name_of x path) ∷ [])) (acts_append (acts_in (typing t) e) (acts_in (typing t) path))
      ∙ append_assoc a b (act.Write (name_of x path) ∷ []) in
      let each = allows_both facts a (b ++ act.Write (name_of x path) ∷ []) (subst (AllowsAll facts) all allowed) in
      let placed : List machine.Word → Now → Evaluated Stored = (λ ws now. followed_by (place_of h target now) (λ k now. Done (record { words = ws; place = k }) now)) in
      stored_same target (followed_by (taken_by t u e at) placed) (followed_by (taken_by t u e (start (twin t n))) placed)
      (then_same (typing t) (GivenBy h ready mid u hands (after a facts))
      (taken_by t u e at) (taken_by t u e (start (twin t n))) placed placed (source_given mid u e owner own gives calls own_calls takes each.0 keep)
      (source_same mid u e owner own gives calls own_calls takes compares' each.0 keep)
      (λ ws i j given now. then_placed hands mid on p x u path lead takes' calls' compares (after a facts) each.1 ws i j given now))

  -- ---- a release

  release_by : (on : List (List machine.Word)) (f g : Place → Memory → Outcome) (p : Pos) (x u d : ℕ) (path : TypedTree) → Releases t p f → Releases (twin t n) p g
      → shape_of (typing t).table u ≡ shape.Access d false true → Leads (typing t) (object_at (typing t) x).of path u → Takes (waits_in path) (start t).waits on
      → asks.calls (has_call path) → Compares (typing t) path
      → AllowsAll facts (acts (source_acts (typing t) (Name p x path u) act.Free)) → asks.keeps (act.Free (name_of x path) ∷ [])
      → Step (steps.evaluated t (place_of h (Name p x path u) at) f) (steps.evaluated (twin t n) (place_of h (Name p x path u) (start (twin t n))) g)
  release_by on f g p x u d path one two access lead takes calls compares allowed keep =
      let b : List Act = acts (acts_in (typing t) path) in
      let all : acts (source_acts (typing t) (Name p x path u) act.Free) ≡ b ++ (act.Free (name_of x path) ∷ []) =
      acts_append (acts_in (typing t) path) (record { pos = p; act = act.Free (name_of x path) } ∷ []) in
      let each = allows_both facts b (act.Free (name_of x path) ∷ []) (subst (AllowsAll facts) all allowed) in
      let stay = (law.steps (object_at (typing t) x).of u path lead (start t).waits on takes calls each.0).1 in
      let frees : Allows facts (act.Free (name_of x path)) = subst (λ z. Allows z (act.Free (name_of x path))) stay each.1.0 in
      let place = place_on h settled own_law asks t.state.memory hands facts law (start t).waits on p x u path lead takes calls compares each.0
      (IsWholeAt h asks t.state.memory hands facts u) (λ way goes. law.free on x u path way goes d access frees keep) (start (twin t n)) at_start in
      step_then t n agrees (Quiet (record { memory = t.state.memory; waits = on }) (IsWholeAt h asks t.state.memory hands facts u))
      (place_of h (Name p x path u) at) (place_of h (Name p x path u) (start (twin t n))) f g place.1 place.0
      (λ k i j found now.
      let none : NoneGone (slots_of (typing t) i.memory k) = subst (λ (z : Now). NoneGone (slots_of (typing t) z.memory k)) (sym found.0) (found.1).3 in
      released_same t n agrees p f g one two k i.memory j.memory now.0 now.2 (words_of (typing t) i.memory k) refl
      (sym (words_agree (typing t) i.memory j.memory now.0 k none)))

  pub release_on : (on : List (List machine.Word)) (p : Pos) (x u d : ℕ) (path : TypedTree) → shape_of (typing t).table u ≡ shape.Access d false true
      → Leads (typing t) (object_at (typing t) x).of path u → Takes (waits_in path) (start t).waits on → asks.calls (has_call path) → Compares (typing t) path
      → AllowsAll facts (acts (source_acts (typing t) (Name p x path u) act.Free)) → asks.keeps (act.Free (name_of x path) ∷ [])
      → Step (steps.release t (Name p x path u)) (steps.release (twin t n) (Name p x path u))
  release_on on p x u d path access lead takes calls compares allowed keep =
      release_by on _ _ p x u d path (record {
        at_none = λ k m is. rw is refl;
        at_whole = λ k m v ws is. rw is refl;
        at_listed = λ k m v ws is. rw is refl;
        at_null = λ k m ws is. rw is refl;
        at_more = λ k m c w ws is. rw is refl;
        at_freed = λ k m c is dead. rw (is, dead) refl;
        at_cell = λ k m c is alive. rw (is, alive) refl;
      }) (record {
        at_none = λ k m is. rw is refl;
        at_whole = λ k m v ws is. rw is refl;
        at_listed = λ k m v ws is. rw is refl;
        at_null = λ k m ws is. rw is refl;
        at_more = λ k m c w ws is. rw is refl;
        at_freed = λ k m c is dead. rw (is, dead) refl;
        at_cell = λ k m c is alive. rw (is, alive) refl;
      }) access lead takes calls compares allowed keep

  -- ---- input

  abbrev out_act : PlaceName → Act
  out_act name = act.Actual name mode.Out false false

  input_by : (on : List (List machine.Word)) (f g : Place → Memory → Outcome) (p : Pos) (x u : ℕ) (path : TypedTree) → Gets t f → Gets (twin t n) g
      → Leads (typing t) (object_at (typing t) x).of path u → Takes (waits_in path) (start t).waits on → asks.calls (has_call path) → Compares (typing t) path
      → AllowsAll facts (acts (source_acts (typing t) (Name p x path u) out_act))
      → Step (steps.evaluated t (place_of h (Name p x path u) at) f) (steps.evaluated (twin t n) (place_of h (Name p x path u) (start (twin t n))) g)
  input_by on f g p x u path one two lead takes calls compares allowed =
      let b : List Act = acts (acts_in (typing t) path) in
      let all : acts (source_acts (typing t) (Name p x path u) out_act) ≡ b ++ (out_act (name_of x path) ∷ []) =
      acts_append (acts_in (typing t) path) (record { pos = p; act = out_act (name_of x path) } ∷ []) in
      let each = allows_both facts b (out_act (name_of x path) ∷ []) (subst (AllowsAll facts) all allowed) in
      let stay = (law.steps (object_at (typing t) x).of u path lead (start t).waits on takes calls each.0).1 in
      let actual : Allows facts (out_act (name_of x path)) = subst (λ z. Allows z (out_act (name_of x path))) stay each.1.0 in
      let writes : Allows facts (act.Write (name_of x path)) = (λ g has. switched (breaks_O3 (name_of x path) g) _ _ (actual g has)) in
      let place = place_on h settled own_law asks t.state.memory hands facts law (start t).waits on p x u path lead takes calls compares each.0
      (IsAt h asks t.state.memory hands facts u) (λ way goes. law.write on x u path way goes writes) (start (twin t n)) at_start in
      step_simply t n agrees (place_of h (Name p x path u) at) (place_of h (Name p x path u) (start (twin t n))) f g place.0
      (λ k i j now. got_same t n agrees f g one two k i.memory j.memory now.0 now.2)

  pub input_on : (on : List (List machine.Word)) (p : Pos) (x u : ℕ) (path : TypedTree) → Leads (typing t) (object_at (typing t) x).of path u → Takes (waits_in path) (start t).waits on
      → asks.calls (has_call path) → Compares (typing t) path
      → AllowsAll facts (acts (source_acts (typing t) (Name p x path u) out_act))
      → Step (steps.input t (Name p x path u)) (steps.input (twin t n) (Name p x path u))
  input_on on p x u path lead takes calls compares allowed =
      input_by on _ _ p x u path (record {
        at_missing = λ k m next. rw next refl;
        at_bad = λ k m next. rw next refl;
        at_number = λ k m v end next fits. rw (next, fits) refl;
        at_outside = λ k m v end next out. rw (next, out) refl;
      }) (record {
        at_missing = λ k m next. rw next refl;
        at_bad = λ k m next. rw next refl;
        at_number = λ k m v end next fits. rw (next, fits) refl;
        at_outside = λ k m v end next out. rw (next, out) refl;
      }) lead takes calls compares allowed

  -- ---- choices

  pub skip_same : Step (steps.turn t Skip) (steps.turn (twin t n) Skip)
  skip_same = goes_same t n agrees t.state.memory n 0 agrees only

  pub fall_same : Step (steps.turn t Fall) (steps.turn (twin t n) Fall)
  fall_same = raised_same t n agrees run.ProgramError t.state.memory n agrees

  pub test_on : (on : List (List machine.Word)) (e : TypedTree) → Stays (typing t) e → Takes (waits_in e) (start t).waits on → asks.calls (has_call e) → Compares (typing t) e → AllowsAll facts (acts (acts_in (typing t) e))
      → Step (steps.test t e 0 1) (steps.test (twin t n) e 0 1)
  test_on on e stays takes calls compares allowed =
      step_simply t n agrees (value h e at) (value h e (start (twin t n)))
      (λ ws m. goes t m (if run.is_true ws then 0 else 1)) (λ ws m. goes (twin t n) m (if run.is_true ws then 0 else 1))
      (scalar (start t).waits on e stays takes calls compares allowed (start (twin t n)) at_start)
      (λ ws i j now. goes_same t n agrees i.memory j.memory (if run.is_true ws then 0 else 1) now.0 now.2)

  pub choose_on : (on : List (List machine.Word)) (e : TypedTree) (choices : List TypedCode) → Stays (typing t) e → Takes (waits_in e) (start t).waits on → asks.calls (has_call e) → Compares (typing t) e
      → AllowsAll facts (acts (acts_in (typing t) e)) → Step (steps.choose t e choices) (steps.choose (twin t n) e choices)
  choose_on on e choices stays takes calls compares allowed =
      step_simply t n agrees (value h e at) (value h e (start (twin t n)))
      (λ ws m. steps.chosen t (length choices) (steps.choice choices ws) m) (λ ws m. steps.chosen (twin t n) (length choices) (steps.choice choices ws) m)
      (scalar (start t).waits on e stays takes calls compares allowed (start (twin t n)) at_start)
      (λ ws i j now. by_test (steps.choice choices ws) i j now (nat_lt (steps.choice choices ws) (length choices)))
    where
      by_test : (k : ℕ) (i j : Now) → SameNow (typing t) i j → (b : Bool)
          → SameStep t (if b then goes t i.memory k else raised t run.ConstraintError i.memory) (if b then goes (twin t n) j.memory k else raised (twin t n) run.ConstraintError j.memory)
      by_test k i j now true = goes_same t n agrees i.memory j.memory k now.0 now.2
      by_test k i j now false = raised_same t n agrees run.ConstraintError i.memory j.memory now.0

  pub leave_loop_on : (on : List (List machine.Word)) (e rest : TypedTree) → rest ≡ NoMore → Stays (typing t) e → Takes (waits_in e) (start t).waits on → asks.calls (has_call e) → Compares (typing t) e
      → AllowsAll facts (acts (acts_in (typing t) (More e rest))) → Step (steps.leave_loop t (More e rest)) (steps.leave_loop (twin t n) (More e rest))
  unfolding acts_in
  leave_loop_on on e rest last stays takes calls compares allowed =
      let same : acts_in (typing t) e ++ acts_in (typing t) rest ≡ acts_in (typing t) e =
      ap (λ z. acts_in (typing t) e ++ acts_in (typing t) z) last ∙ append-nil (acts_in (typing t) e) in
      test_on on e stays takes calls compares (subst (λ z. AllowsAll facts (acts z)) same allowed)

  -- the operand of a short circuit, whose value waits
  pub operand_on : (on : List (List machine.Word)) (e : TypedTree) (op : Option ShortCircuit) → Stays (typing t) e → Takes (waits_in e) (start t).waits on → asks.calls (has_call e) → Compares (typing t) e
      → AllowsAll facts (acts (acts_in (typing t) e)) → Step (steps.operand t e op) (steps.operand (twin t n) e op)
  operand_on on e (Some o) stays takes calls compares allowed =
      step_simply t n agrees (value h e at) (value h e (start (twin t n)))
      (λ ws m. Goes (behind t (steps.truth_waiting ws ∷ waiting t) m (if run.decides o ws then 1 else 0)))
      (λ ws m. Goes (behind (twin t n) (steps.truth_waiting ws ∷ waiting (twin t n)) m (if run.decides o ws then 1 else 0)))
      (scalar (start t).waits on e stays takes calls compares allowed (start (twin t n)) at_start)
      (λ ws i j now. ((refl, now.0), now.2))
  operand_on on e None stays takes calls compares allowed =
      step_simply t n agrees (value h e at) (value h e (start (twin t n)))
      (λ ws m. Goes (behind t (steps.truth_waiting ws ∷ drop 1 (waiting t)) m 0))
      (λ ws m. Goes (behind (twin t n) (steps.truth_waiting ws ∷ drop 1 (waiting (twin t n))) m 0))
      (scalar (start t).waits on e stays takes calls compares allowed (start (twin t n)) at_start)
      (λ ws i j now. ((refl, now.0), now.2))

  -- ---- output

  pub output_on : (on : List (List machine.Word)) (e rest : TypedTree) (line : Bool) → rest ≡ NoMore → Writes (typing t) e → Takes (waits_in e) (start t).waits on → asks.calls (has_call e) → Compares (typing t) e
      → AllowsAll facts (acts (acts_in (typing t) (More e rest))) → Step (steps.output t (More e rest) line) (steps.output (twin t n) (More e rest) line)
  unfolding acts_in
  output_on on e rest line last writes takes calls compares allowed =
      let same : acts_in (typing t) e ++ acts_in (typing t) rest ≡ acts_in (typing t) e =
      ap (λ z. acts_in (typing t) e ++ acts_in (typing t) z) last ∙ append-nil (acts_in (typing t) e) in
      step_simply t n agrees (text_of h e at) (text_of h e (start (twin t n)))
      (λ bytes m. Goes (record (behind t (waiting t) m 0) { output = t.state.output ++ bytes ++ (if line then 10 ∷ [] else []) }))
      (λ bytes m. Goes (record (behind (twin t n) (waiting t) m 0) { output = t.state.output ++ bytes ++ (if line then 10 ∷ [] else []) }))
      (text_on h settled own_law asks t.state.memory hands facts law (start t).waits on e writes takes calls compares
      (subst (λ z. AllowsAll facts (acts z)) same allowed) (start (twin t n)) at_start).0
      (λ bytes i j now. ((refl, now.0), now.2))

  pub line_same : (line : Bool) → Step (steps.output t NoMore line) (steps.output (twin t n) NoMore line)
  unfolding text_of
  line_same line = ((refl, agrees), only)

  -- ---- loops

  bounds_same : (mid on : List (List machine.Word)) (low high : TypedTree) → Stays (typing t) low → Stays (typing t) high → Takes (waits_in low) (start t).waits mid → Takes (waits_in high) mid on
      → asks.calls (has_call low) → asks.calls (has_call high) → Compares (typing t) low → Compares (typing t) high → AllowsAll facts (acts (acts_in (typing t) low ++ acts_in (typing t) high))
      → SameTo (typing t) (steps.bounds t low high at) (steps.bounds t low high (start (twin t n)))
  bounds_same mid on low high stays stays' takes takes' calls calls' compares compares' allowed =
      let each = allows_both facts (acts (acts_in (typing t) low)) (acts (acts_in (typing t) high))
      (subst (AllowsAll facts) (acts_append (acts_in (typing t) low) (acts_in (typing t) high)) allowed) in
      let q = law.quiet AsValue low stays (start t).waits mid takes calls each.0 in
      let second : List machine.Word → Now → Evaluated steps.Bounds = (λ a now. followed_by (value h high now) (λ b now. Done (record { low = a; high = b }) now)) in
      then_same (typing t) (Quiet (record { memory = t.state.memory; waits = mid }) One) (value h low at) (value h low (start (twin t n))) second second q.0
      (scalar (start t).waits mid low stays takes calls compares each.0 (start (twin t n)) at_start)
      (λ a i j quiet_there now. subst (λ z. SameTo (typing t) (second a z) (second a j)) (sym quiet_there.0)
      (simply (typing t) (value h high (record { memory = t.state.memory; waits = mid })) (value h high j) (λ b now. Done (record { low = a; high = b }) now) (λ b now. Done (record { low = a; high = b }) now)
      (scalar mid on high stays' takes' calls' compares' (subst (λ z. AllowsAll z (acts (acts_in (typing t) high))) q.1 each.1) j (subst (λ z. SameNow (typing t) z j) quiet_there.0 now))
      (λ b k k' last. (refl, last))))

  start_by : (mid on : List (List machine.Word)) (f g : steps.Bounds → Memory → Outcome) (x : ℕ) (fails : steps.Bounds → Bool) (loop : steps.Bounds → Loop) (low high : TypedTree)
      → Starts t x fails loop f → Starts (twin t n) x fails loop g → Stays (typing t) low → Stays (typing t) high → Takes (waits_in low) (start t).waits mid → Takes (waits_in high) mid on
      → asks.calls (has_call low) → asks.calls (has_call high) → Compares (typing t) low → Compares (typing t) high → AllowsAll facts (acts (acts_in (typing t) low ++ acts_in (typing t) high))
      → Step (steps.evaluated t (steps.bounds t low high at) f) (steps.evaluated (twin t n) (steps.bounds t low high (start (twin t n))) g)
  start_by mid on f g x fails loop low high one two stays stays' takes takes' calls calls' compares compares' allowed =
      step_simply t n agrees (steps.bounds t low high at) (steps.bounds t low high (start (twin t n))) f g
      (bounds_same mid on low high stays stays' takes takes' calls calls' compares compares' allowed)
      (λ b i j now. started_same t n agrees x fails loop f g one two b i.memory j.memory now.0 now.2)

  pub start_on : (mid on : List (List machine.Word)) (x : ℕ) (low high : TypedTree) → Stays (typing t) low → Stays (typing t) high → Takes (waits_in low) (start t).waits mid → Takes (waits_in high) mid on
      → asks.calls (has_call low) → asks.calls (has_call high) → Compares (typing t) low → Compares (typing t) high → AllowsAll facts (acts (acts_in (typing t) low ++ acts_in (typing t) high))
      → Step (steps.start_loop t x low high) (steps.start_loop (twin t n) x low high)
  start_on mid on x low high stays stays' takes takes' calls calls' compares compares' allowed =
      start_by mid on _ _ x
      (λ b. int_le (steps.number b.low) (steps.number b.high)
      && not (fits_type (typing t).table (object_at (typing t) x).of b.low && fits_type (typing t).table (object_at (typing t) x).of b.high))
      (λ b. record { parameter = x; low = steps.number b.low; high = steps.number b.high; first = true }) low high
      (record { at_fault = λ b m e. rw e refl; at_turn = λ b m e. rw e refl })
      (record { at_fault = λ b m e. rw e refl; at_turn = λ b m e. rw e refl })
      stays stays' takes takes' calls calls' compares compares' allowed

  -- an iteration
  turned_same : (x : ℕ) (ws : List machine.Word) (v : Option ℤ)
      → Step (steps.turned_to t x (variable_place h x) ws v) (steps.turned_to (twin t n) x (variable_place h x) ws v)
  turned_same x ws (Some v) = (
    (refl, stored_agree (typing t) (variable_place h x) (steps.parameter_words ws v) t.state.memory n agrees),
    stored_only (typing t) t.state.memory only (variable_place h x) (steps.parameter_words ws v),
  )
  turned_same x ws None = (
    (refl, undeclared_agree depth x t.state.memory n agrees),
    undeclared_only (typing t) t.state.memory only depth x,
  )

  pub next_same : (x : ℕ) (reversed : Bool) → is_scalar (full (typing t).table (object_at (typing t) x).of) ≡ true
      → Step (steps.next_turn t x reversed) (steps.next_turn (twin t n) x reversed)
  next_same x reversed plain =
      let k : Place = variable_place h x in
      let l : Loc = OfRoot (OfVariable (home (typing t) depth x) x) in
      let spot : Spot (typing t) t.state.memory hands k l = record { base = refl; made = tt; at = refl; there = refl; of = inl refl } in
      let none : NoneGone (slots_of (typing t) t.state.memory k) =
      spot_whole (typing t) settled t.state.memory hands only law.kept k l spot
      (plain_whole (typing t) settled t.state.memory hands k l spot (λ p. no_leaf (typing t).table settled k.of plain p)) in
      subst (λ z. SameStep t (steps.next_turn t x reversed)
      (steps.turned_to (twin t n) x k z (steps.next_value reversed (steps.loop_of x t.frame.loops) (steps.number z))))
      (words_agree (typing t) t.state.memory n agrees k none)
      (turned_same x (words_of (typing t) t.state.memory k)
      (steps.next_value reversed (steps.loop_of x t.frame.loops) (steps.number (words_of (typing t) t.state.memory k))))
