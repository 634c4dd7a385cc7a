-- Variables that are declared or removed, and cells that are made or freed, as changes of contents.
use Rattle.std.proofs.Common.{◌≡◌, refl, sym, ap, ◌∙◌, inl, inr, ℕ, zero, suc, ◌+◌, ◌≤◌, false, not, List, [], ◌∷◌, ◌++◌, length, get_or, arith, length-append, append-nil}
use Rattle.std.proofs.lemmas.List.{length-map, get_or_past, get_or_append_left, get_or_push}
use Rattle.std.proofs.lemmas.Bool.{cases_lt}
use Rattle.machine.specs.type_definitions.Types.{words}
use Rattle.machine.specs.flow_paths.Objects.{Typing, object_at}
use Rattle.machine.specs.Words.{default}
use Rattle.machine.specs.Words as machine
use Rattle.machine.specs.Memory.{Memory, fresh, variable_slots, cell, no_cell, no_slot, declared, undeclared, with_new_cell}
use Rattle.machine.specs.States.{Waiting, Leak}
use Rattle.soundness.specs.OwnedWays.Ways.{Step, OfVariable, OfHand, Loc, OfRoot, OfCell, Inside, Empty, IsDrop}
use Rattle.soundness.specs.Seen.{in_hand, content, trunk, steps_in, word_in, seen, is_view_formal}
use Rattle.soundness.specs.Changes.{Alike, Checks, Stores}
use Rattle.soundness.specs.Typed.{Kept}
use Rattle.soundness.proofs.Joined.{trunk_trunk, not_inside, below_root}
use Rattle.soundness.proofs.Contents.{word_root}
use Rattle.soundness.proofs.Memories.{put_same, put_other, removed_same, removed_other}
use Rattle.soundness.proofs.Steps.{hand_top, hand_past, other_hand}
use Rattle.soundness.proofs.Defaults.{none_default, blank_word}

-- ---- a variable is declared

module _ (s : Typing) (m : Memory) (f x : ℕ) where
  pub declared_there : (ws : List machine.Word) (hands : List Waiting) (k : Loc) → trunk k ≡ k → (k ≡ OfRoot (OfVariable f x) → ⊥)
      → content s (declared f x ws m) hands k ≡ content s m hands k
  declared_there ws hands (OfRoot (OfVariable g y)) t ne =
      ap (λ z. record { of = (object_at s y).of; slots = z; owns = not (is_view_formal s y) })
      (put_other s f x g y (λ e. ne (ap OfRoot (sym e))) (fresh ws) m.variables)
  declared_there ws hands (OfRoot (OfHand h)) t ne = refl
  declared_there ws hands (OfCell n) t ne = refl
  declared_there ws hands (Inside l i) t ne = absurd (not_inside l l i t)

  pub declares : (v : Waiting) (rest : List Waiting) → Kept s m (v ∷ rest) → length v.words ≡ words s.table (object_at s x).of
      → Alike s.table v.of (object_at s x).of → is_view_formal s x ≡ false
      → Stores s.table (content s m (v ∷ rest)) (content s (declared f x v.words m) rest) (length rest) v (OfRoot (OfVariable f x))
  declares v rest kept long alike own =
      let fresh_long : length (fresh v.words) ≡ length v.words = length-map v.words (λ w. record { word = w; gone = false }) in
      let now : variable_slots s f x (declared f x v.words m).variables ≡ fresh v.words = put_same s f x (fresh v.words) m.variables in
      let old = kept.variables f x in
      record {
        before = ap in_hand (hand_top v rest);
        behind = ap in_hand (hand_past rest (length rest) (omega arith));
        other = λ k t ne off. declared_there v.words rest k t ne ∙ sym (other_hand s m v rest k t off);
        put = record {
          of = refl;
          owns = refl;
          outside = λ o out. ap (λ z. get_or z o no_slot) now
              ∙ get_or_past (fresh v.words) o no_slot (elim out [ inl lt ↦ absurd (omega (arith, lt)) | inr le ↦ omega (arith, le) ])
              ∙ sym (get_or_past (variable_slots s f x m.variables) o no_slot
              (elim out [ inl lt ↦ absurd (omega (arith, lt)) | inr le ↦ omega (arith, le, fresh_long, long, old) ]));
          inside = λ i lt. ap (λ z. get_or z (0 + i) no_slot) now ∙ ap (λ n. get_or (fresh v.words) n no_slot) (let e : 0 + i ≡ i = omega arith in e);
        };
        there = refl;
        owns = ap not own;
        fits = long;
        alike = alike;
        apart = λ e. cc;
      }

-- ---- a variable is removed

module _ (s : Typing) (m : Memory) (f x : ℕ) where
  pub removed_there : (hands : List Waiting) (k : Loc) → trunk k ≡ k → (k ≡ OfRoot (OfVariable f x) → ⊥)
      → content s (undeclared f x m) hands k ≡ content s m hands k
  removed_there hands (OfRoot (OfVariable g y)) t ne =
      ap (λ z. record { of = (object_at s y).of; slots = z; owns = not (is_view_formal s y) })
      (removed_other s f x g y (λ e. ne (ap OfRoot (sym e))) m.variables)
  removed_there hands (OfRoot (OfHand h)) t ne = refl
  removed_there hands (OfCell n) t ne = refl
  removed_there hands (Inside l i) t ne = absurd (not_inside l l i t)

  -- it has nothing then
  pub removed_blank : (hands : List Waiting) (p : List Step) → word_in s.table (content s (undeclared f x m) hands (OfRoot (OfVariable f x))) p ≡ Empty
  removed_blank hands p =
      blank_word s.table (content s (undeclared f x m) hands (OfRoot (OfVariable f x))) (default s.table (object_at s x).of)
      (removed_same s f x m.variables) (none_default s.table (object_at s x).of) p

  pub drops : (hands : List Waiting) (leaks leaks' : List Leak) → Checks s.table (content s m hands (OfRoot (OfVariable f x))) [] leaks leaks'
      → IsDrop (seen s m hands leaks) (seen s (undeclared f x m) hands leaks') (OfVariable f x)
  drops hands leaks leaks' checks = record {
    made = refl;
    freed = λ c. refl;
    off = λ l out. ap (λ c. word_in s.table c (steps_in l))
        (removed_there hands (trunk l) (trunk_trunk l) (λ e. out (below_root (OfVariable f x) l e)));
    empty = λ p. word_root s.table (content s (undeclared f x m) hands) (OfVariable f x) p ∙ removed_blank hands p;
    keeps = checks.keeps;
    checks = λ p c e. checks.checks p c (ap (word_in s.table (content s m hands (OfRoot (OfVariable f x)))) (append-nil p)
        ∙ sym (word_root s.table (content s m hands) (OfVariable f x) p) ∙ e);
    only = λ c e. elim (checks.only c e) [
      | inl old ↦ inl old
      | inr y ↦ inr (
        y.0,
        word_root s.table (content s m hands) (OfVariable f x) y.0
            ∙ sym (ap (word_in s.table (content s m hands (OfRoot (OfVariable f x)))) (append-nil y.0)) ∙ y.1,
      )
    ];
  }

-- ---- a cell is made

module _ (s : Typing) (m : Memory) (t : ℕ) (ws : List machine.Word) where
  pub new_there : cell (with_new_cell t ws m) (suc (length m.cells)) ≡ record { of = t; slots = fresh ws; freed = false }
  new_there = get_or_push m.cells (record { of = t; slots = fresh ws; freed = false }) no_cell (length m.cells) refl

  past_one : (n : ℕ) → (suc n ≡ suc (length m.cells) → ⊥) → length m.cells ≤ n → suc (length m.cells) ≤ n
  past_one n ne le = elim (cases_lt (length m.cells) n) [
    | inl lt ↦ omega (arith, lt)
    | inr more ↦ absurd (ne (let same : n ≡ length m.cells = omega (arith, le, more) in ap suc same))
  ]

  pub new_other : (n : ℕ) → (n ≡ suc (length m.cells) → ⊥) → cell (with_new_cell t ws m) n ≡ cell m n
  new_other zero ne = refl
  new_other (suc n) ne = elim (cases_lt n (length m.cells)) [
    | inl lt ↦ get_or_append_left m.cells (record { of = t; slots = fresh ws; freed = false } ∷ []) no_cell n lt
    | inr le ↦ (
        let long : length (m.cells ++ record { of = t; slots = fresh ws; freed = false } ∷ []) ≡ length m.cells + 1 =
        length-append m.cells (record { of = t; slots = fresh ws; freed = false } ∷ []) in
        let more : suc (length m.cells) ≤ n = past_one n ne le in
        get_or_past (m.cells ++ record { of = t; slots = fresh ws; freed = false } ∷ []) n no_cell (omega (arith, long, more))
        ∙ sym (get_or_past m.cells n no_cell le))
  ]

  pub new_count : length (with_new_cell t ws m).cells ≡ suc (length m.cells)
  new_count = (let long = length-append m.cells (record { of = t; slots = fresh ws; freed = false } ∷ []) in omega (arith, long))
