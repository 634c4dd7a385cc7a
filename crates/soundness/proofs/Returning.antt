-- The end of a call: the variables of its frame are removed, and what ways find gone then is moved
-- by facts of the frames that are left.
use Rattle.std.proofs.Common.{◌≡◌, refl, sym, ap, ◌∙◌, subst, inl, inr, ℕ, true, false, not, List, [], ◌∷◌, ◌++◌, length, get_or}
use Rattle.std.specs.Prelude.{flat_map}
use Rattle.std.proofs.lemmas.List.{length-map}
use Rattle.machine.specs.type_definitions.Types.{full, is_scalar}
use Rattle.machine.specs.flow_paths.Objects.{Typing, object_at}
use Rattle.machine.specs.Words.{default}
use Rattle.machine.specs.Memory.{Memory, Slot, no_slot, variable_slots, without_frame}
use Rattle.machine.specs.Evaluate.{Exception, Evaluated, Done, Raises, Traps, variable_place}
use Rattle.machine.specs.States.{Waiting, Frame, Leak, State, Normal, Outcome, Goes, Ends}
use Rattle.machine.specs.Step.{Turn, typing, here, start, counted, raised, copied_back, finish}
use Rattle.machine.specs.Step as steps
use Rattle.machine.specs.Owners.{waiting_in, WellOwned}
use Rattle.soundness.specs.OwnedWays.Ways.{Step, OfVariable, OfHand, Loc, OfRoot, OfCell, Inside, Held, View, Owned, Covered}
use Rattle.soundness.specs.PartOffsets.Parts.{offset_in, IsSettled}
use Rattle.soundness.specs.Seen.{content, word_in, seen, home, is_view_formal}
use Rattle.soundness.specs.Typed.{OwnsByShape, Points, Kept, IsFixed}
use Rattle.soundness.specs.Sound.{AreSameWords}
use Rattle.soundness.proofs.Defaults.{none_default}
use Rattle.soundness.proofs.Keeping.{cell_has}
use Rattle.soundness.proofs.Lasting.{lengths}
use Rattle.soundness.proofs.Owners.{well_owned}
use Rattle.soundness.proofs.Around.{same_or_not}
use Rattle.soundness.proofs.Endings.{frame_other, frame_same, left_blank, frame_ends, SameNumbers, numbers_owned, numbers_covered}

-- ---- the variables of a frame are removed

module _ (s : Typing) (m : Memory) (f : ℕ) (hands : List Waiting) (leaks : List Leak)
    (nothing : (x : ℕ) (p : List Step) (n : ℕ) → word_in s.table (content s m hands (OfRoot (OfVariable f x))) p ≡ Held n → ⊥) where
  abbrev left : Memory
  left = without_frame f m

  abbrev now : View
  now = seen s (without_frame f m) hands leaks

  abbrev was : View
  was = seen s m hands leaks

  same : SameNumbers was now
  same = frame_ends s m f hands leaks nothing

  left_points : (kept : Kept s m hands) (l : Loc) → Points s left (content s left hands l)
  left_points kept (OfRoot (OfVariable g y)) = elim (same_or_not g f) [
    | inl e ↦ subst (λ z. Points s left (content s left hands (OfRoot (OfVariable z y)))) (sym e)
        (λ p d c n k has is at. absurd (none_default s.table (object_at s y).of k (cell_has (default s.table (object_at s y).of) (offset_in s.table (object_at s y).of p) k
        (ap (λ (z : List Slot). (get_or z (offset_in s.table (object_at s y).of p) no_slot).word) (sym (frame_same s f y m.variables)) ∙ at))))
    | inr ne ↦ subst (λ z. Points s left (record { of = (object_at s y).of; slots = z; owns = not (is_view_formal s y) }))
        (sym (frame_other s f g y ne m.variables)) (kept.points (OfRoot (OfVariable g y)))
  ]
  left_points kept (OfRoot (OfHand h)) = kept.points (OfRoot (OfHand h))
  left_points kept (OfCell c) = kept.points (OfCell c)
  left_points kept (Inside l i) = left_points kept l

  pub returned_kept : Kept s m hands → Kept s (without_frame f m) hands
  returned_kept kept = record {
    variables = λ g y. elim (same_or_not g f) [
      | inl e ↦ ap (λ z. length (variable_slots s z y left.variables)) e ∙ ap length (frame_same s f y m.variables)
          ∙ length-map (default s.table (object_at s y).of) (λ w. record { word = w; gone = false }) ∙ lengths s.table (object_at s y).of
      | inr ne ↦ ap length (frame_other s f g y ne m.variables) ∙ kept.variables g y
    ];
    cells = kept.cells;
    points = left_points kept;
  }

  -- owners see the same elsewhere
  pub left_same : AreSameWords s (λ g. g ≡ f → ⊥) m (without_frame f m)
  left_same = (
    λ g y p ne. ap (λ z. word_in s.table (record { of = (object_at s y).of; slots = z; owns = not (is_view_formal s y) }) p) (frame_other s f g y ne m.variables),
    λ c p. refl,
  )

  -- what is in a variable of another frame was there before
  pub left_held : (g y : ℕ) (p : List Step) (n : ℕ) → word_in s.table (content s (without_frame f m) [] (OfRoot (OfVariable g y))) p ≡ Held n
      → (g ≡ f → ⊥) × (word_in s.table (content s m [] (OfRoot (OfVariable g y))) p ≡ Held n)
  left_held g y p n held = elim (same_or_not g f) [
    | inl e ↦ absurd (left_blank s m f hands leaks nothing y p n
        (subst (λ z. word_in s.table (content s left hands (OfRoot (OfVariable z y))) p ≡ Held n) e held))
    | inr ne ↦ (ne, ap (λ z. word_in s.table (record { of = (object_at s y).of; slots = z; owns = not (is_view_formal s y) }) p) (sym (frame_other s f g y ne m.variables)) ∙ held)
  ]

-- ---- formals are copied back

abbrev pub Backs : (Memory → Type 0) → Evaluated Memory → Type 0
Backs Q (Done m n) = Q m
Backs Q (Raises e n) = Unit {0}
Backs Q (Traps trap n) = ⊥

module _ (t : Turn) where
  pub formal_fixed : (x : ℕ) → is_scalar (full (typing t).table (object_at (typing t) x).of) ≡ true → IsFixed (typing t) (variable_place (here t) x)
  formal_fixed x plain = record {
    frame = home (typing t) (length t.outer) x;
    object = x;
    steps = [];
    base = refl;
    there = refl;
    at = refl;
    of = inl refl;
    scalar = plain;
  }

  -- ---- the outcomes

  module _ (P : Outcome → Type 0) (Q : Memory → Type 0) (raises : (e : Exception) (m : Memory) → P (raised t e m)) where
    finish_from : (f : Memory → Memory → Outcome) (out : Memory → Outcome) → ((m n : Memory) → f m n ≡ out m) → ((m : Memory) → Q m → P (out m))
        → (y : Evaluated Memory) → Backs Q y → P (steps.evaluated t y f)
    finish_from f out is on (Done m n) q = subst P (sym (is m n.memory)) (on m q)
    finish_from f out is on (Raises e n) q = raises e n.memory
    finish_from f out is on (Traps trap n) never = absurd never

    pub returns_lead : (g h : Frame) (rest : List Frame) → t.outer ≡ g ∷ (h ∷ rest)
        → ((m : Memory) → Q m → P (Goes (counted (record t.state { frames = t.outer; memory = without_frame (length t.outer) m }))))
        → Backs Q (copied_back t t.frame.returns (start t)) → P (finish t)
    returns_lead g h rest outer on back_there =
        finish_from _ (λ m. Goes (counted (record t.state { frames = t.outer; memory = without_frame (length t.outer) m }))) (λ m n. rw outer refl) on
        (copied_back t t.frame.returns (start t)) back_there

    pub ends_lead : (g : Frame) → t.outer ≡ g ∷ []
        → ((m : Memory) → Q m → P (Ends Normal (counted (record t.state { frames = t.outer; memory = without_frame (length t.outer) m }))))
        → Backs Q (copied_back t t.frame.returns (start t)) → P (finish t)
    ends_lead g outer on back_there =
        finish_from _ (λ m. Ends Normal (counted (record t.state { frames = t.outer; memory = without_frame (length t.outer) m }))) (λ m n. rw outer refl) on
        (copied_back t t.frame.returns (start t)) back_there

-- what waits in the frames that are left
pub left_waits : (state : State) (frame : Frame) (outer : List Frame) (m : Memory) → state.frames ≡ frame ∷ outer → frame.waits ≡ []
    → waiting_in (counted (record state { frames = outer; memory = m })) ≡ waiting_in state
left_waits state frame outer m frames none =
    ap (λ z. z ++ flat_map (λ (f : Frame). f.waits) outer) (sym none) ∙ sym (ap (flat_map (λ (f : Frame). f.waits)) frames)

-- where the run ends
pub ended_owned : (s : Typing) (settled : IsSettled s.table) (own_law : OwnsByShape s.table) (state : State) (frame : Frame) (outer : List Frame) (f : ℕ)
    → state.frames ≡ frame ∷ outer → frame.waits ≡ []
    → ((x : ℕ) (p : List Step) (n : ℕ) → word_in s.table (content s state.memory (waiting_in state) (OfRoot (OfVariable f x))) p ≡ Held n → ⊥)
    → Owned (seen s state.memory (waiting_in state) state.leaks) → Covered (seen s state.memory (waiting_in state) state.leaks)
    → WellOwned s (counted (record state { frames = outer; memory = without_frame f state.memory }))
ended_owned s settled own_law state frame outer f frames none nothing owned covered =
    let same = frame_ends s state.memory f (waiting_in state) state.leaks nothing in
    let hands = left_waits state frame outer (without_frame f state.memory) frames none in
    well_owned s settled own_law (counted (record state { frames = outer; memory = without_frame f state.memory }))
    (subst (λ z. Owned (seen s (without_frame f state.memory) z state.leaks)) (sym hands) (numbers_owned _ _ same owned))
    (subst (λ z. Covered (seen s (without_frame f state.memory) z state.leaks)) (sym hands) (numbers_covered _ _ same covered))
