-- Calls of subprograms and their ends lead to the same in memories that agree, where of what is passed
-- and copied back nothing is gone: so it is with formals of scalar types.
use Rattle.std.proofs.Common.{◌≡◌, refl, sym, subst, ℕ, suc, Bool, true, false, List, [], ◌∷◌, ◌++◌, length, nat_le, if◌then◌else◌, ◌∙◌}
use Rattle.std.proofs.lemmas.Bool.{true≢false}
use Rattle.machine.specs.spark_base.declared.position.Pos.{Pos}
use Rattle.machine.specs.type_definitions.Types.{full}
use Rattle.machine.specs.typed_tree.Trees.{TypedTree, More}
use Rattle.machine.specs.flow_paths.Objects.{Typing, object_at, sub_at, passings}
use Rattle.machine.specs.flow_paths.Names.{written}
use Rattle.machine.specs.Words.{fits_type}
use Rattle.machine.specs.Words as machine
use Rattle.machine.specs.Memory.{Memory, OfVariable, Place, slots_of, words_of, stored, moved_out, declared, without_frame, cell, Base, OfCell}
use Rattle.machine.specs.Evaluate.{Now, Evaluated, Done, Raises, Traps, followed_by, checked, variable_place, ConstraintError, StorageError}
use Rattle.machine.specs.Calls.{Passed, Value, From, To, written_pos, all_passed, out_checks, with_formal, with_formals, returns_of}
use Rattle.machine.specs.States.{Waiting, Return, Frame, State, Normal, Outcome, Goes, Ends, sub_of, frame_words, stack_words, frame_at_start}
use Rattle.machine.specs.Step.{Turn, typing, here, start, waiting, counted, behind, raised, call, copied_back, finish}
use Rattle.machine.specs.Step as steps
use Rattle.soundness.specs.PartOffsets.Parts.{IsSettled}
use Rattle.soundness.specs.Typed.{OwnsByShape, Kept, IsFixed}
use Rattle.soundness.proofs.Stays.{Quiet}
use Rattle.soundness.proofs.Steps.{no_leaf}
use Rattle.soundness.proofs.Fixed.{fixed_at, fixed_spot}
use Rattle.soundness.proofs.Passing.{Enters}
use Rattle.recycled_runs.proofs.ViewedFacts.NullPlaces.Walks.{SameTo}
use Rattle.recycled_runs.specs.ViewedFacts.NullPlaces.Agrees.{Agrees}
use Rattle.recycled_runs.proofs.ViewedFacts.NullPlaces.Memories.{NoneGone, words_agree, checks_agree, declared_agree, moved_agree, stored_agree, frame_agree, cell_agree}
use Rattle.recycled_runs.proofs.ViewedFacts.NullPlaces.Only.{OnlyOwners, stored_only, declared_only, frame_only}
use Rattle.recycled_runs.proofs.ViewedFacts.NullPlaces.Places.{spot_whole, plain_whole, moved_only}
use Rattle.recycled_runs.proofs.ViewedFacts.NullPlaces.Instructions.{SameStep, twin, both_are, leaking_same, raised_same, step_then}

-- ---- formals

out_same : (s : Typing) (pos : Pos) (m n : Memory) → Agrees m n → (passed : List Passed) (actuals : TypedTree)
    → out_checks s pos m passed actuals ≡ out_checks s pos n passed actuals
out_same s pos m n a [] actuals = refl
out_same s pos m n a (To k ∷ rest) (More e more) =
    (λ j. checks_agree s (written_pos pos (written e)) m n a k j ++ out_same s pos m n a rest more j)
out_same s pos m n a (Value ws ∷ rest) (More e more) = out_same s pos m n a rest more
out_same s pos m n a (From k ∷ rest) (More e more) = out_same s pos m n a rest more
out_same s pos m n a (To k ∷ rest) actuals = refl
out_same s pos m n a (Value ws ∷ rest) actuals = refl
out_same s pos m n a (From k ∷ rest) actuals = refl

-- Memories that agree, where only words that own are gone in the first one.
abbrev pub AgreeBy : Typing → Memory → Memory → Type 0
AgreeBy s m n = Agrees m n × OnlyOwners s m

-- Of a place nothing is gone; and only words that own are where it is taken.
abbrev pub IsWholly : Typing → Place → Memory → Type 0
IsWholly s k m = OnlyOwners s m → NoneGone (slots_of s m k) × OnlyOwners s (moved_out s k m)

-- So it is with what is passed, one after the other; of a place that is emptied something may be gone.
abbrev pub IsWhollyPassed : Typing → Passed → Memory → Type 0
IsWhollyPassed s (Value ws) m = Unit {0}
IsWhollyPassed s (From k) m = IsWholly s k m
IsWhollyPassed s (To k) m = OnlyOwners s m → OnlyOwners s (moved_out s k m)

abbrev pub AreWhollyPassed : Typing → ℕ → List ℕ → List Passed → Memory → Type 0
AreWhollyPassed s f (x ∷ formals) (a ∷ passed) m = IsWhollyPassed s a m × AreWhollyPassed s f formals passed (with_formal s f x a m)
AreWhollyPassed s f formals passed m = Unit {0}

module _ (s : Typing) (f : ℕ) where
  declared_same : (x : ℕ) (ws : List machine.Word) (m n : Memory) → AgreeBy s m n → AgreeBy s (declared f x ws m) (declared f x ws n)
  declared_same x ws m n same = (declared_agree f x ws m n same.0, declared_only s m same.1 f x ws)

  taken_same : (k : Place) (m n : Memory) → OnlyOwners s (moved_out s k m) → Agrees m n → AgreeBy s (moved_out s k m) (moved_out s k n)
  taken_same k m n only same = (moved_agree s k m n same, only)

  -- a formal, in memories that agree
  one_formal : (x : ℕ) (a : Passed) (m n : Memory) → IsWhollyPassed s a m → AgreeBy s m n → AgreeBy s (with_formal s f x a m) (with_formal s f x a n)
  one_formal x (Value ws) m n whole same = declared_same x ws m n same
  one_formal x (From k) m n whole same =
      let both = whole same.1 in
      subst (λ z. AgreeBy s (declared f x (words_of s m k) (moved_out s k m)) (declared f x z (moved_out s k n)))
      (words_agree s m n same.0 k both.0)
      (declared_same x (words_of s m k) (moved_out s k m) (moved_out s k n) (taken_same k m n both.1 same.0))
  one_formal x (To k) m n whole same =
      declared_same x (machine.default s.table (object_at s x).of) (moved_out s k m) (moved_out s k n) (taken_same k m n (whole same.1) same.0)

  pub formals_same : (formals : List ℕ) (passed : List Passed) (m n : Memory) → AreWhollyPassed s f formals passed m → AgreeBy s m n
      → AgreeBy s (with_formals s f formals passed m) (with_formals s f formals passed n)
  formals_same [] passed m n whole same = same
  formals_same (x ∷ formals) [] m n whole same = same
  formals_same (x ∷ formals) (a ∷ rest) m n whole same =
      formals_same formals rest (with_formal s f x a m) (with_formal s f x a n) whole.1 (one_formal x a m n whole.0 same)

-- ---- of scalar types

module _ (s : Typing) (settled : IsSettled s.table) (own_law : OwnsByShape s.table) (hands : List Waiting) where
  -- what a scalar place in a variable has isn't gone
  pub fixed_wholly : (k : Place) → IsFixed s k → (m : Memory) → Kept s m hands → IsWholly s k m
  fixed_wholly k fixed m kept only = (
    spot_whole s settled m hands only kept k (fixed_at s settled k fixed) (fixed_spot s settled k fixed m hands)
        (plain_whole s settled m hands k (fixed_at s settled k fixed) (fixed_spot s settled k fixed m hands) (λ p. no_leaf s.table settled k.of fixed.scalar p)),
    moved_only s settled m hands only kept k (fixed_at s settled k fixed) (fixed_spot s settled k fixed m hands)
        (λ p leaf f x is. (let no : true ≡ false = sym leaf ∙ no_leaf s.table settled k.of fixed.scalar p in absurd (true≢false no))),
  )

-- ---- the call

abbrev frames_with : Turn → ℕ → List Passed → Memory → ℕ
frames_with t k passed m =
    frame_words t.program (frame_at_start k (returns_of (sub_of t.program k).formals passed) ∷ (behind t (waiting t) m 0).frames)

abbrev entered_with : Turn → ℕ → List Passed → Memory → State
entered_with t k passed m = record (behind t (waiting t) m 0) {
  frames = frame_at_start k (returns_of (sub_of t.program k).formals passed) ∷ (behind t (waiting t) m 0).frames;
  memory = with_formals (typing t) (suc (length t.outer)) (sub_of t.program k).formals passed m;
}

module _ (t : Turn) (settled : IsSettled (typing t).table) (n : Memory) (agrees : Agrees t.state.memory n) (k : ℕ) (actuals : TypedTree) where
  abbrev formals : List ℕ
  formals = (sub_of t.program k).formals

  -- the formals are declared, where there is room
  entered_same : (f g : List Passed → Memory → Outcome) → Enters t settled k actuals f → Enters (twin t n) settled k actuals g → (passed : List Passed)
      → (m m' : Memory) → AreWhollyPassed (typing t) (suc (length t.outer)) formals passed m → Agrees m m' → OnlyOwners (typing t) m
      → SameStep t (f passed m) (g passed m')
  entered_same f g one two passed m m' whole a still = by_room (nat_le (frames_with t k passed m) stack_words) refl
    where
      by_room : (b : Bool) → nat_le (frames_with t k passed m) stack_words ≡ b → SameStep t (f passed m) (g passed m')
      by_room false full = both_are t _ _ _ _ (one.full passed m full) (two.full passed m' full) (raised_same t n agrees StorageError m m' a)
      by_room true fits =
          let declared_there = formals_same (typing t) (suc (length t.outer)) (sub_of t.program k).formals passed m m' whole (a, still) in
          both_are t _ _ _ _ (one.fits passed m fits) (two.fits passed m' fits)
          (leaking_same t (out_checks (typing t) t.point.pos m passed actuals) (out_checks (typing t) t.point.pos m' passed actuals)
          (out_same (typing t) t.point.pos m m' a passed actuals)
          (Goes (entered_with t k passed m))
          (Goes (entered_with (twin t n) k passed m'))
          ((refl, declared_there.0), declared_there.1))

  -- Each actual leads to the same, and of what they pass nothing is gone.
  module _ (only : OnlyOwners (typing t) t.state.memory) (on : List (List machine.Word)) (Given : List Passed → Type 0)
      (quiet : Quiet (record { memory = t.state.memory; waits = on }) Given (all_passed (here t) (passings (typing t) (sub_at (typing t) k)) (sub_of t.program k).formals actuals (start t)))
      (same : SameTo (typing t) (all_passed (here t) (passings (typing t) (sub_at (typing t) k)) (sub_of t.program k).formals actuals (start t))
      (all_passed (here t) (passings (typing t) (sub_at (typing t) k)) (sub_of t.program k).formals actuals (start (twin t n))))
      (whole : (passed : List Passed) → Given passed → AreWhollyPassed (typing t) (suc (length t.outer)) (sub_of t.program k).formals passed t.state.memory) where
    called_by : (f g : List Passed → Memory → Outcome) → Enters t settled k actuals f → Enters (twin t n) settled k actuals g
        → SameStep t (steps.evaluated t (all_passed (here t) (passings (typing t) (sub_at (typing t) k)) formals actuals (start t)) f)
        (steps.evaluated (twin t n) (all_passed (here t) (passings (typing t) (sub_at (typing t) k)) formals actuals (start (twin t n))) g)
    called_by f g one two =
        step_then t n agrees
        (λ y. Quiet (record { memory = t.state.memory; waits = on }) Given y)
        (all_passed (here t) (passings (typing t) (sub_at (typing t) k)) formals actuals (start t))
        (all_passed (here t) (passings (typing t) (sub_at (typing t) k)) formals actuals (start (twin t n))) f g
        quiet same
        (λ passed i j given now. entered_same f g one two passed i.memory j.memory
        (subst (λ (z : Now). AreWhollyPassed (typing t) (suc (length t.outer)) formals passed z.memory) (sym given.0) (whole passed given.1))
        now.0 now.2)

    -- with values that are taken
    pub call_same : SameStep t (call t k actuals) (call (twin t n) k actuals)
    call_same =
        called_by _ _ (record { fits = λ passed m e. rw e refl; full = λ passed m e. rw e refl }) (record { fits = λ passed m e. rw e refl; full = λ passed m e. rw e refl })

-- ---- the end of a call

-- The memory after formals are copied back.
abbrev BackSame : Typing → Evaluated Memory → Evaluated Memory → Type 0
BackSame s (Done m i) (Done n j) = Agrees m n × OnlyOwners s m
BackSame s (Raises e i) (Raises f j) = (e ≡ f) × Agrees i.memory j.memory
BackSame s _ _ = ⊥

-- A place is in a variable, or in a cell that wasn't freed.
abbrev pub IsStanding : Memory → Base → Type 0
IsStanding m (OfVariable f x) = Unit {0}
IsStanding m (OfCell n) = (cell m n).freed ≡ false

stands_agree : (m n : Memory) → Agrees m n → (b : Base) → IsStanding m b → IsStanding n b
stands_agree m n same (OfVariable f x) there = tt
stands_agree m n same (OfCell k) there = sym (cell_agree m n same k).1 ∙ there

-- Of formals that are copied back nothing is gone, one after the other; and the places are there.
abbrev pub AreWhollyBack : Turn → List Return → Memory → Type 0
AreWhollyBack t [] m = Unit {0}
AreWhollyBack t (r ∷ rest) m =
    IsStanding m r.to.base × IsWholly (typing t) (variable_place (here t) r.formal) m
    × AreWhollyBack t rest (stored (typing t) r.to (words_of (typing t) m (variable_place (here t) r.formal)) (moved_out (typing t) (variable_place (here t) r.formal) m))

module _ (t : Turn) where
  back_is : (r : Return) (rest : List Return) (i : Now) (b : Base) → r.to.base ≡ b → IsStanding i.memory b → copied_back t (r ∷ rest) i
      ≡ followed_by (checked (here t) r.to.of (words_of (typing t) i.memory (variable_place (here t) r.formal)) i)
      (λ ws n. copied_back t rest (record n { memory = stored (typing t) r.to ws (moved_out (typing t) (variable_place (here t) r.formal) n.memory) }))
  back_is r rest i (OfVariable f x) base there = rw base refl
  back_is r rest i (OfCell n) base there = rw (base, there) refl

module _ (t : Turn) (n : Memory) (agrees : Agrees t.state.memory n) where
  if_same : (b : Bool) (ws : List machine.Word) (i j : Now) (f g : List machine.Word → Now → Evaluated Memory) → Agrees i.memory j.memory
      → BackSame (typing t) (f ws i) (g ws j)
      → BackSame (typing t) (followed_by (if b then Done ws i else Raises ConstraintError i) f) (followed_by (if b then Done ws j else Raises ConstraintError j) g)
  if_same true ws i j f g same on = on
  if_same false ws i j f g same on = (refl, same)

  back_same : (returns : List Return) (i j : Now) → AreWhollyBack t returns i.memory
      → Agrees i.memory j.memory → OnlyOwners (typing t) i.memory → BackSame (typing t) (copied_back t returns i) (copied_back (twin t n) returns j)
  back_same [] i j whole same only = (same, only)
  back_same (r ∷ rest) i j whole same only =
      let s : Typing = typing t in
      let formal : Place = variable_place (here t) r.formal in
      let there = whole.1 only in
      let ws : List machine.Word = words_of s i.memory formal in
      let words_so : ws ≡ words_of s j.memory formal = words_agree s i.memory j.memory same formal there.0 in
      let next : Memory = stored s r.to ws (moved_out s formal i.memory) in
      let next' : Memory = stored s r.to ws (moved_out s formal j.memory) in
      let f : List machine.Word → Now → Evaluated Memory =
      (λ us z. copied_back t rest (record z { memory = stored s r.to us (moved_out s formal z.memory) })) in
      let g : List machine.Word → Now → Evaluated Memory =
      (λ us z. copied_back (twin t n) rest (record z { memory = stored s r.to us (moved_out s formal z.memory) })) in
      subst (λ z. BackSame s z (copied_back (twin t n) (r ∷ rest) j)) (sym (back_is t r rest i r.to.base refl whole.0))
      (subst (BackSame s (followed_by (checked (here t) r.to.of ws i) f)) (sym (back_is (twin t n) r rest j r.to.base refl (stands_agree i.memory j.memory same r.to.base whole.0)))
      (subst (λ us. BackSame s (followed_by (checked (here t) r.to.of ws i) f) (followed_by (checked (here t) r.to.of us j) g)) words_so
      (if_same (fits_type s.table r.to.of ws) ws i j f g same
      (back_same rest (record i { memory = next }) (record j { memory = next' }) whole.2
      (stored_agree s r.to ws (moved_out s formal i.memory) (moved_out s formal j.memory) (moved_agree s formal i.memory j.memory same))
      (stored_only s (moved_out s formal i.memory) there.1 r.to ws)))))

  -- what is done with it
  finish_by : (f g : Memory → Memory → Outcome) (out out' : Memory → Outcome) → ((m i : Memory) → f m i ≡ out m) → ((m i : Memory) → g m i ≡ out' m)
      → ((a b : Memory) → Agrees a b → OnlyOwners (typing t) a → SameStep t (out a) (out' b)) → (y z : Evaluated Memory) → BackSame (typing t) y z
      → SameStep t (steps.evaluated t y f) (steps.evaluated (twin t n) z g)
  finish_by f g out out' one two on (Done a i) (Done b j) same = both_are t _ _ _ _ (one a i.memory) (two b j.memory) (on a b same.0 same.1)
  finish_by f g out out' one two on (Raises e i) (Raises e' j) same =
      subst (λ z. SameStep t (raised t e i.memory) (raised (twin t n) z j.memory)) same.0 (raised_same t n agrees e i.memory j.memory same.1)
  finish_by f g out out' one two on (Done a i) (Raises e j) same = absurd same
  finish_by f g out out' one two on (Done a i) (Traps e j) same = absurd same
  finish_by f g out out' one two on (Raises e i) (Done b j) same = absurd same
  finish_by f g out out' one two on (Raises e i) (Traps e' j) same = absurd same
  finish_by f g out out' one two on (Traps e i) (Done b j) same = absurd same
  finish_by f g out out' one two on (Traps e i) (Raises e' j) same = absurd same
  finish_by f g out out' one two on (Traps e i) (Traps e' j) same = absurd same

  pub finish_same : AreWhollyBack t t.frame.returns t.state.memory → OnlyOwners (typing t) t.state.memory
      → (g : Frame) (rest : List Frame) → t.outer ≡ g ∷ rest → SameStep t (finish t) (finish (twin t n))
  finish_same whole only g [] outer =
      finish_by _ _ (λ m. Ends Normal (counted (record t.state { frames = t.outer; memory = without_frame (length t.outer) m })))
      (λ m. Ends Normal (counted (record t.state { frames = t.outer; memory = without_frame (length t.outer) m }))) (λ m i. rw outer refl) (λ m i. rw outer refl)
      (λ a b same still. (refl, (refl, frame_agree (length t.outer) a b same)))
      (copied_back t t.frame.returns (start t)) (copied_back (twin t n) t.frame.returns (start (twin t n)))
      (back_same t.frame.returns (start t) (start (twin t n)) whole agrees only)
  finish_same whole only g (f ∷ rest) outer =
      finish_by _ _ (λ m. Goes (counted (record t.state { frames = t.outer; memory = without_frame (length t.outer) m })))
      (λ m. Goes (counted (record t.state { frames = t.outer; memory = without_frame (length t.outer) m }))) (λ m i. rw outer refl) (λ m i. rw outer refl)
      (λ a b same still. ((refl, frame_agree (length t.outer) a b same), frame_only (typing t) a still (length t.outer)))
      (copied_back t t.frame.returns (start t)) (copied_back (twin t n) t.frame.returns (start (twin t n)))
      (back_same t.frame.returns (start t) (start (twin t n)) whole agrees only)
