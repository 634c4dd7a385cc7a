-- The end of a call: the variables of its frame are removed, and what the others have stays.
use Rattle.std.proofs.Common.{◌≡◌, sym, ap, ◌∙◌, subst, inl, inr, ℕ, false, not, List, [], get_or, append-nil}
use Rattle.std.proofs.lemmas.Bool.{false≢true}
use Rattle.machine.specs.flow_paths.Objects.{Typing, object_at}
use Rattle.machine.specs.Words.{default}
use Rattle.machine.specs.Words as machine
use Rattle.machine.specs.Memory.{Memory, Slot, no_slot, variable_slots, without_frame}
use Rattle.machine.specs.States.{Waiting, Leak}
use Rattle.soundness.specs.OwnedWays.Ways.{Step, OfVariable, OfHand, Loc, OfRoot, OfCell, Inside, Way, Object, Lost, Into, All, Empty, Gone, Held, View, Reaches, Owned, Covered, IsSame, part, base_of}
use Rattle.soundness.specs.Seen.{content, trunk, steps_in, word_in, seen, is_view_formal}
use Rattle.soundness.proofs.Joined.{trunk_trunk, not_inside}
use Rattle.soundness.proofs.Contents.{word_part}
use Rattle.soundness.proofs.Defaults.{none_default, blank_word}
use Rattle.soundness.proofs.Keeping.{cell_has}
use Rattle.soundness.proofs.Around.{same_or_not}
use Rattle.soundness.proofs.Endings.{SameNumbers, numbers_owned, numbers_covered, reaches_on, frame_other, frame_same, frame_ends, left_blank}
use Rattle.viewed_steps.proofs.Constructors.{is_gone_word}
use Rattle.soundness.proofs.Parted.{cell_root}

-- where owners see the same, cells have the same words
pub cells_same : (s : Typing) (m n : Memory) (hands : List Waiting) (leaks : List Leak) → IsSame (seen s m hands leaks) (seen s n hands leaks)
    → (c : ℕ) (p : List Step) → word_in s.table (content s n [] (OfCell c)) p ≡ word_in s.table (content s m [] (OfCell c)) p
cells_same s m n hands leaks same c p =
    subst (λ q. word_in s.table (content s n [] (OfCell c)) q ≡ word_in s.table (content s m [] (OfCell c)) q) (append-nil p)
    (sym (word_part s.table (content s n hands) (OfCell c) p) ∙ same.word (part (OfCell c) p) ∙ word_part s.table (content s m hands) (OfCell c) p)

module _ (s : Typing) (m : Memory) (f : ℕ) (hands : List Waiting) (leaks : List Leak)
    (nothing : (x : ℕ) (p : List Step) (n : ℕ) → word_in s.table (content s m hands (OfRoot (OfVariable f x))) p ≡ Held n → ⊥) where
  abbrev left : Memory
  left = without_frame f m

  abbrev now : View
  now = seen s (without_frame f m) hands leaks

  abbrev was : View
  was = seen s m hands leaks

  same : SameNumbers was now
  same = frame_ends s m f hands leaks nothing

  same_back : SameNumbers now was
  same_back = record {
    on = same.back;
    back = same.on;
    made = sym same.made;
    freed = λ n. sym (same.freed n);
    leaked = λ n. sym (same.leaked n);
  }

  pub owned_left : Owned was → Owned now
  owned_left owned = numbers_owned was now same owned

  pub covered_left : Covered was → Covered now
  covered_left covered = numbers_covered was now same covered

  pub reach_left : (w : Way) (l : Loc) → Reaches was w l → Reaches now w l
  reach_left w l reach = reaches_on was now same w l reach

  pub reach_before : (w : Way) (l : Loc) → Reaches now w l → Reaches was w l
  reach_before w l reach = reaches_on now was same_back w l reach

  blank : (x : ℕ) (p : List Step) → word_in s.table (content s left hands (OfRoot (OfVariable f x))) p ≡ Empty
  blank x p =
      blank_word s.table (content s left hands (OfRoot (OfVariable f x))) (default s.table (object_at s x).of)
      (frame_same s f x m.variables) (none_default s.table (object_at s x).of) p

  gone_there : (l : Loc) (p : List Step) → trunk l ≡ l → word_in s.table (content s left hands l) p ≡ Gone → word_in s.table (content s m hands l) p ≡ Gone
  gone_there (OfRoot (OfVariable g y)) p t gone = elim (same_or_not g f) [
    | inl e ↦ (
        let there : word_in s.table (content s left hands (OfRoot (OfVariable f y))) p ≡ Gone =
        subst (λ z. word_in s.table (content s left hands (OfRoot (OfVariable z y))) p ≡ Gone) e gone in
        let no : Empty ≡ Gone = sym (blank y p) ∙ there in absurd (false≢true (ap is_gone_word no)))
    | inr ne ↦ ap (λ z. word_in s.table (record { of = (object_at s y).of; slots = z; owns = not (is_view_formal s y) }) p) (sym (frame_other s f g y ne m.variables)) ∙ gone
  ]
  gone_there (OfRoot (OfHand h)) p t gone = gone
  gone_there (OfCell c) p t gone = gone
  gone_there (Inside l i) p t gone = absurd (not_inside l l i t)

  -- what is gone then was gone before
  pub gone_before : (l : Loc) → now.word l ≡ Gone → was.word l ≡ Gone
  gone_before l gone = gone_there (trunk l) (steps_in l) (trunk_trunk l) gone

  -- a way from the frame stays in its variable, which is whole
  stays_there : (w : Way) (l : Loc) (x : ℕ) → base_of w ≡ OfRoot (OfVariable f x) → Reaches now w l → trunk l ≡ OfRoot (OfVariable f x)
  stays_there (Object r) l x base e = ap trunk e ∙ base
  stays_there (Lost n) l x base e = absurd (cell_root base)
  stays_there (Into w i) l x base (k, r, e) = ap trunk e ∙ stays_there w k x base r
  stays_there (All w) l x base (k, c, r, held, e) =
      absurd (left_blank s m f hands leaks nothing x (steps_in k) c
      (subst (λ z. word_in s.table (content s left hands z) (steps_in k) ≡ Held c) (stays_there w k x base r) held))

  pub whole_there : (w : Way) (l : Loc) (x : ℕ) → base_of w ≡ OfRoot (OfVariable f x) → Reaches now w l → now.word l ≡ Gone → ⊥
  whole_there w l x base r gone =
      let there : word_in s.table (content s left hands (OfRoot (OfVariable f x))) (steps_in l) ≡ Gone =
      subst (λ z. word_in s.table (content s left hands z) (steps_in l) ≡ Gone) (stays_there w l x base r) gone in
      let no : Empty ≡ Gone = sym (blank x (steps_in l)) ∙ there in absurd (false≢true (ap is_gone_word no))

-- the variables of other frames stay, and those of the frame have no number
module _ (s : Typing) (m : Memory) (f : ℕ) where
  pub other_word : (g y i : ℕ) → (g ≡ f → ⊥)
      → (get_or (variable_slots s g y (without_frame f m).variables) i no_slot).word ≡ (get_or (variable_slots s g y m.variables) i no_slot).word
  other_word g y i ne = ap (λ z. (get_or z i no_slot).word) (frame_other s f g y ne m.variables)

  pub no_word : (y i n : ℕ) → (get_or (variable_slots s f y (without_frame f m).variables) i no_slot).word ≡ machine.Cell n → ⊥
  no_word y i n e =
      none_default s.table (object_at s y).of n (cell_has (default s.table (object_at s y).of) i n
      (ap (λ (z : List Slot). (get_or z i no_slot).word) (sym (frame_same s f y m.variables)) ∙ e))
