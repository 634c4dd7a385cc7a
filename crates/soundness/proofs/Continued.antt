-- What inputs, releases and starts of loops do, from what they do once the values that they take are
-- out of the frame.
use Rattle.std.proofs.Common.{◌≡◌, refl, sym, subst, inl, inr, ℕ, true, false, not, ◌&&◌, List, [], ◌∷◌, length, ℤ, int_le, if◌then◌else◌}
use Rattle.machine.specs.spark_base.declared.position.Pos.{Pos}
use Rattle.machine.specs.typed_tree.Trees.{TypedTree, Name}
use Rattle.machine.specs.flow_paths.Objects.{object_at, designated}
use Rattle.run_values.specs.declared.items.Item.{Item}
use Rattle.run_values.specs.declared.items.Item.TheVariants as item
use Rattle.run_values.specs.Items.{next_item}
use Rattle.machine.specs.Words.{Word, Int, Enumerated, Null, Cell, fits_type}
use Rattle.machine.specs.Memory.{Memory, Place, cell, words_of, stored, freed, declared}
use Rattle.machine.specs.Evaluate.{Exception, Trap, Twice, EndError, DataError, ConstraintError, cell_place, place_of}
use Rattle.machine.specs.Calls.{checks_at}
use Rattle.machine.specs.States.{Outcome, Goes}
use Rattle.machine.specs.Step.{Turn, Bounds, typing, here, start, waiting, goes, behind, raised, trapped, leaking_goes, number, with_loop, bounds}
use Rattle.machine.specs.Step as steps
use Rattle.soundness.proofs.Contents.{bool_cases}
use Rattle.soundness.proofs.Eased.{eased, waits_same, goes_same, from_eased}

-- What an input does at a place, by the next item.
abbrev pub got_with : Turn → Place → Item → Memory → Outcome
got_with t k item.Missing m = raised t EndError m
got_with t k item.Bad m = raised t DataError m
got_with t k (item.Number v end) m =
    if fits_type (typing t).table k.of (Int v ∷ [])
    then Goes (record (behind t (waiting t) (stored (typing t) k (Int v ∷ []) m) 0) { at = end })
    else raised t ConstraintError m

-- What a release does at a place, by the words there.
abbrev pub released_with : Turn → Pos → Place → List Word → Memory → Outcome
released_with t p k (Cell n ∷ []) m =
    if (cell m n).freed then trapped t Twice m
    else leaking_goes (checks_at (typing t) p m (cell_place (designated (typing t).table k.of) n)) (goes t (stored (typing t) k (Null ∷ []) (freed n m)) 0)
released_with t p k _ m = goes t m 0

-- What the start of a loop does with its bounds.
abbrev pub started_with : Turn → ℕ → Bounds → Memory → Outcome
started_with t x b m =
    if int_le (number b.low) (number b.high)
    && not (fits_type (typing t).table (object_at (typing t) x).of b.low && fits_type (typing t).table (object_at (typing t) x).of b.high)
    then raised t ConstraintError m
    else Goes (with_loop (record { parameter = x; low = number b.low; high = number b.high; first = true })
    (behind t (waiting t) (declared (length t.outer) x b.low m) 0))

module _ (t : Turn) (P : Outcome → Type 0) (raising : (e : Exception) (m : Memory) → P (raised t e m)) (never : (trap : Trap) (m : Memory) → P (trapped (eased t) trap m) → ⊥) where
  goes_too : (m : Memory) (k : ℕ) → P (goes (eased t) m k) → P (goes t m k)
  goes_too m k on = subst P (goes_same t m k) on

  -- ---- input

  record Gets (g : Place → Memory → Outcome) : Type 0 where
    pub missing : (k : Place) (m : Memory) → next_item t.input t.state.at ≡ item.Missing → g k m ≡ raised t EndError m
    pub bad : (k : Place) (m : Memory) → next_item t.input t.state.at ≡ item.Bad → g k m ≡ raised t DataError m
    pub number : (k : Place) (m : Memory) (v : ℤ) (end : ℕ) → next_item t.input t.state.at ≡ item.Number v end
        → fits_type (typing t).table k.of (Int v ∷ []) ≡ true
        → g k m ≡ Goes (record (behind t (waiting t) (stored (typing t) k (Int v ∷ []) m) 0) { at = end })
    pub outside : (k : Place) (m : Memory) (v : ℤ) (end : ℕ) → next_item t.input t.state.at ≡ item.Number v end
        → fits_type (typing t).table k.of (Int v ∷ []) ≡ false → g k m ≡ raised t ConstraintError m

  got_too : (g : Place → Memory → Outcome) → Gets g → (k : Place) (m : Memory) (it : Item) → next_item t.input t.state.at ≡ it
      → P (got_with (eased t) k it m) → P (g k m)
  got_too g gets k m item.Missing e on = subst P (sym (gets.missing k m e)) (raising EndError m)
  got_too g gets k m item.Bad e on = subst P (sym (gets.bad k m e)) (raising DataError m)
  got_too g gets k m (item.Number v end) e on = elim (bool_cases (fits_type (typing t).table k.of (Int v ∷ []))) [
    | inr out ↦ subst P (sym (gets.outside k m v end e out)) (raising ConstraintError m)
    | inl fits ↦ subst P (sym (gets.number k m v end e fits))
        (subst (λ z. P (Goes (record (behind t z (stored (typing t) k (Int v ∷ []) m) 0) { at = end }))) (waits_same t)
        (subst (λ b. P (if b then Goes (record (behind (eased t) (waiting (eased t)) (stored (typing t) k (Int v ∷ []) m) 0) { at = end })
        else raised (eased t) ConstraintError m)) fits on))
  ]

  input_by : (g : Place → Memory → Outcome) → Gets g → (target : TypedTree)
      → P (steps.evaluated (eased t) (place_of (here t) target (start t)) (λ k m. got_with (eased t) k (next_item t.input t.state.at) m))
      → P (steps.evaluated t (place_of (here t) target (start t)) g)
  input_by g gets target on =
      from_eased t P raising never (place_of (here t) target (start t)) (λ k m. got_with (eased t) k (next_item t.input t.state.at) m) g
      (λ k m there. got_too g gets k m (next_item t.input t.state.at) refl there) on

  pub input_eased : (target : TypedTree)
      → P (steps.evaluated (eased t) (place_of (here t) target (start t)) (λ k m. got_with (eased t) k (next_item t.input t.state.at) m))
      → P (steps.input t target)
  input_eased target on =
      input_by _ (record {
        missing = λ k m next. rw next refl;
        bad = λ k m next. rw next refl;
        number = λ k m v end next fits. rw (next, fits) refl;
        outside = λ k m v end next out. rw (next, out) refl;
      }) target on

  -- ---- release

  record Frees (p : Pos) (g : Place → Memory → Outcome) : Type 0 where
    pub nothing : (k : Place) (m : Memory) → words_of (typing t) m k ≡ [] → g k m ≡ goes t m 0
    pub null : (k : Place) (m : Memory) (ws : List Word) → words_of (typing t) m k ≡ Null ∷ ws → g k m ≡ goes t m 0
    pub whole : (k : Place) (m : Memory) (v : ℤ) (ws : List Word) → words_of (typing t) m k ≡ Int v ∷ ws → g k m ≡ goes t m 0
    pub listed : (k : Place) (m : Memory) (v : ℕ) (ws : List Word) → words_of (typing t) m k ≡ Enumerated v ∷ ws → g k m ≡ goes t m 0
    pub several : (k : Place) (m : Memory) (n : ℕ) (w : Word) (ws : List Word) → words_of (typing t) m k ≡ Cell n ∷ (w ∷ ws) → g k m ≡ goes t m 0
    pub alive : (k : Place) (m : Memory) (n : ℕ) → words_of (typing t) m k ≡ Cell n ∷ [] → (cell m n).freed ≡ false
        → g k m ≡ leaking_goes (checks_at (typing t) p m (cell_place (designated (typing t).table k.of) n)) (goes t (stored (typing t) k (Null ∷ []) (freed n m)) 0)

  freed_too : (p : Pos) (g : Place → Memory → Outcome) → Frees p g → (k : Place) (m : Memory) (ws : List Word) → words_of (typing t) m k ≡ ws
      → P (released_with (eased t) p k ws m) → P (g k m)
  freed_too p g frees k m [] e on = subst P (sym (frees.nothing k m e)) (goes_too m 0 on)
  freed_too p g frees k m (Null ∷ ws) e on = subst P (sym (frees.null k m ws e)) (goes_too m 0 on)
  freed_too p g frees k m (Int v ∷ ws) e on = subst P (sym (frees.whole k m v ws e)) (goes_too m 0 on)
  freed_too p g frees k m (Enumerated v ∷ ws) e on = subst P (sym (frees.listed k m v ws e)) (goes_too m 0 on)
  freed_too p g frees k m (Cell n ∷ (w ∷ ws)) e on = subst P (sym (frees.several k m n w ws e)) (goes_too m 0 on)
  freed_too p g frees k m (Cell n ∷ []) e on = elim (bool_cases (cell m n).freed) [
    | inl dead ↦ absurd (never Twice m (subst (λ b. P (if b then trapped (eased t) Twice m
        else leaking_goes (checks_at (typing t) p m (cell_place (designated (typing t).table k.of) n)) (goes (eased t) (stored (typing t) k (Null ∷ []) (freed n m)) 0))) dead on))
    | inr live ↦ subst P (sym (frees.alive k m n e live))
        (subst (λ z. P (leaking_goes (checks_at (typing t) p m (cell_place (designated (typing t).table k.of) n)) z)) (goes_same t (stored (typing t) k (Null ∷ []) (freed n m)) 0)
        (subst (λ b. P (if b then trapped (eased t) Twice m
        else leaking_goes (checks_at (typing t) p m (cell_place (designated (typing t).table k.of) n)) (goes (eased t) (stored (typing t) k (Null ∷ []) (freed n m)) 0))) live on))
  ]

  release_by : (g : Place → Memory → Outcome) (p : Pos) → Frees p g → (target : TypedTree)
      → P (steps.evaluated (eased t) (place_of (here t) target (start t)) (λ k m. released_with (eased t) p k (words_of (typing t) m k) m))
      → P (steps.evaluated t (place_of (here t) target (start t)) g)
  release_by g p frees target on =
      from_eased t P raising never (place_of (here t) target (start t)) (λ k m. released_with (eased t) p k (words_of (typing t) m k) m) g
      (λ k m there. freed_too p g frees k m (words_of (typing t) m k) refl there) on

  pub release_eased : (p : Pos) (x u : ℕ) (path : TypedTree)
      → P (steps.evaluated (eased t) (place_of (here t) (Name p x path u) (start t)) (λ k m. released_with (eased t) p k (words_of (typing t) m k) m))
      → P (steps.release t (Name p x path u))
  release_eased p x u path on =
      release_by _ p (record {
        nothing = λ k m is. rw is refl;
        null = λ k m ws is. rw is refl;
        whole = λ k m v ws is. rw is refl;
        listed = λ k m v ws is. rw is refl;
        several = λ k m n w ws is. rw is refl;
        alive = λ k m n is alive. rw (is, alive) refl;
      }) (Name p x path u) on

  -- ---- the start of a loop

  record Begins (x : ℕ) (g : Bounds → Memory → Outcome) : Type 0 where
    pub at_fault : (b : Bounds) (m : Memory) → int_le (number b.low) (number b.high)
        && not (fits_type (typing t).table (object_at (typing t) x).of b.low && fits_type (typing t).table (object_at (typing t) x).of b.high) ≡ true
        → g b m ≡ raised t ConstraintError m
    pub at_turn : (b : Bounds) (m : Memory) → int_le (number b.low) (number b.high)
        && not (fits_type (typing t).table (object_at (typing t) x).of b.low && fits_type (typing t).table (object_at (typing t) x).of b.high) ≡ false
        → g b m ≡ Goes (with_loop (record { parameter = x; low = number b.low; high = number b.high; first = true })
        (behind t (waiting t) (declared (length t.outer) x b.low m) 0))

  begun_too : (x : ℕ) (g : Bounds → Memory → Outcome) → Begins x g → (b : Bounds) (m : Memory) → P (started_with (eased t) x b m) → P (g b m)
  begun_too x g begins b m on = elim (bool_cases (int_le (number b.low) (number b.high) && not (fits_type (typing t).table (object_at (typing t) x).of b.low && fits_type (typing t).table (object_at (typing t) x).of b.high))) [
    | inl fails ↦ subst P (sym (begins.at_fault b m fails)) (raising ConstraintError m)
    | inr fits ↦ subst P (sym (begins.at_turn b m fits))
        (subst (λ z. P (Goes (with_loop (record { parameter = x; low = number b.low; high = number b.high; first = true })
        (behind t z (declared (length t.outer) x b.low m) 0)))) (waits_same t)
        (subst (λ c. P (if c then raised (eased t) ConstraintError m
        else Goes (with_loop (record { parameter = x; low = number b.low; high = number b.high; first = true })
        (behind (eased t) (waiting (eased t)) (declared (length t.outer) x b.low m) 0)))) fits on))
  ]

  start_by : (x : ℕ) (g : Bounds → Memory → Outcome) → Begins x g → (low high : TypedTree)
      → P (steps.evaluated (eased t) (bounds t low high (start t)) (λ b m. started_with (eased t) x b m))
      → P (steps.evaluated t (bounds t low high (start t)) g)
  start_by x g begins low high on =
      from_eased t P raising never (bounds t low high (start t)) (λ b m. started_with (eased t) x b m) g (λ b m there. begun_too x g begins b m there) on

  pub start_eased : (x : ℕ) (low high : TypedTree)
      → P (steps.evaluated (eased t) (bounds t low high (start t)) (λ b m. started_with (eased t) x b m)) → P (steps.start_loop t x low high)
  start_eased x low high on = start_by x _ (record { at_fault = λ b m e. rw e refl; at_turn = λ b m e. rw e refl }) low high on
