-- What the end of the main procedure leads to, and the step from the last package object to the
-- main procedure.
use Rattle.std.proofs.Common.{◌≡◌, refl, sym, ap, ◌∙◌, subst, ◌⊎◌, inl, inr, ℕ, ◌<◌, Bool, true, false, not, ◌&&◌, ◌==◌, List, [], ◌∷◌, cond, eqb-true, if◌then◌else◌}
use Rattle.std.specs.Prelude.{filter}
use Rattle.machine.specs.flow_paths.Objects.{Typing, object_at}
use Rattle.machine.specs.Words.{default}
use Rattle.machine.specs.Memory.{Memory, Variable, fresh, is_variable, variable_slots, without_frame}
use Rattle.machine.specs.States.{Waiting, Leak}
use Rattle.soundness.specs.OwnedWays.Ways.{Step, OfVariable, OfHand, Loc, OfRoot, OfCell, Inside, Way, Object, Lost, Into, All, Held, View, Reaches, Owned, Covered}
use Rattle.soundness.proofs.OwnedWays.Locations.{both_parts, same_loc}
use Rattle.soundness.specs.Seen.{content, trunk, steps_in, word_in, seen, is_view_formal}
use Rattle.soundness.proofs.Joined.{trunk_trunk, not_inside}
use Rattle.soundness.proofs.Contents.{bool_cases}
use Rattle.soundness.proofs.Defaults.{none_default, blank_word}
use Rattle.soundness.proofs.Memories.{found_later}
use Rattle.soundness.proofs.Parted.{loc_cells, empty_held}

-- ---- the variables of a frame are removed

module _ (s : Typing) (f : ℕ) where
  others_frame : (y g : ℕ) (v : Variable) → v.frame == f ≡ true → (g ≡ f → ⊥) → is_variable g y v ≡ false
  others_frame y g v e ne = is_false (is_variable g y v) (λ h. (
      let both = both_parts (v.frame == g) (v.object == y) h in
      ne (sym (eqb-true v.frame g both.0) ∙ eqb-true v.frame f e)))
    where
      is_false : (b : Bool) → (b ≡ true → ⊥) → b ≡ false
      is_false true e = absurd (e refl)
      is_false false e = refl

  abbrev pub rest_of : List Variable → List Variable
  rest_of vs = filter (λ v. not (v.frame == f)) vs

  pub frame_other : (g y : ℕ) → (g ≡ f → ⊥) → (vs : List Variable) → variable_slots s g y (rest_of vs) ≡ variable_slots s g y vs
  frame_other g y ne [] = refl
  frame_other g y ne (v ∷ rest) = elim (bool_cases (v.frame == f)) [
    | inl e ↦ ap (λ b. variable_slots s g y (cond (not b) (v ∷ rest_of rest) (rest_of rest))) e
        ∙ frame_other g y ne rest
        ∙ sym (found_later s g y v rest (others_frame y g v e ne))
    | inr e ↦ ap (λ b. variable_slots s g y (cond (not b) (v ∷ rest_of rest) (rest_of rest))) e
        ∙ ap (λ z. if is_variable g y v then v.slots else z) (frame_other g y ne rest)
  ]

  pub frame_same : (x : ℕ) (vs : List Variable) → variable_slots s f x (rest_of vs) ≡ fresh (default s.table (object_at s x).of)
  frame_same x [] = refl
  frame_same x (v ∷ rest) = elim (bool_cases (v.frame == f)) [
    | inl e ↦ ap (λ b. variable_slots s f x (cond (not b) (v ∷ rest_of rest) (rest_of rest))) e ∙ frame_same x rest
    | inr e ↦ ap (λ b. variable_slots s f x (cond (not b) (v ∷ rest_of rest) (rest_of rest))) e
        ∙ ap (λ b. if b && (v.object == x) then v.slots else variable_slots s f x (rest_of rest)) e
        ∙ frame_same x rest
  ]

-- ---- two views with the same numbers

-- What holds a number in the one view holds it in the other one.
pub record SameNumbers (a b : View) : Type 0 where
  pub on : (l : Loc) (n : ℕ) → a.word l ≡ Held n → b.word l ≡ Held n
  pub back : (l : Loc) (n : ℕ) → b.word l ≡ Held n → a.word l ≡ Held n
  pub made : b.made ≡ a.made
  pub freed : (n : ℕ) → b.freed n ≡ a.freed n
  pub leaked : (n : ℕ) → b.leaked n ≡ a.leaked n

module _ (a b : View) (same : SameNumbers a b) where
  pub numbers_owned : Owned a → Owned b
  numbers_owned owned = record {
    unique = λ l m n x y. owned.unique l m n (same.back l n x) (same.back m n y);
    live = λ l n x. same.freed n ∙ owned.live l n (same.back l n x);
    within = λ l n x. subst (λ z. n < z) (sym same.made) (owned.within l n (same.back l n x));
    kept = λ l n x. same.leaked n ∙ owned.kept l n (same.back l n x);
    counted = λ n x. subst (λ z. n < z) (sym same.made) (owned.counted n (sym (same.leaked n) ∙ x));
  }

  pub reaches_on : (w : Way) (l : Loc) → Reaches a w l → Reaches b w l
  reaches_on (Object r) l e = e
  reaches_on (Lost n) l (lost, e) = (same.leaked n ∙ lost, e)
  reaches_on (Into w i) l (k, r, e) = (k, reaches_on w k r, e)
  reaches_on (All w) l (k, n, r, h, e) = (k, n, reaches_on w k r, same.on k n h, e)

  pub numbers_covered : Covered a → Covered b
  numbers_covered covered n less free =
      let way = covered n (subst (λ z. n < z) same.made less) (sym (same.freed n) ∙ free) in
      (way.0, reaches_on way.0 (OfCell n) way.1)

-- ---- the end of the main procedure

module _ (s : Typing) (m : Memory) (f : ℕ) (hands : List Waiting) (leaks : List Leak)
    (nothing : (x : ℕ) (p : List Step) (n : ℕ) → word_in s.table (content s m hands (OfRoot (OfVariable f x))) p ≡ Held n → ⊥) where
  abbrev left : Memory
  left = without_frame f m

  pub left_blank : (x : ℕ) (p : List Step) (n : ℕ) → word_in s.table (content s left hands (OfRoot (OfVariable f x))) p ≡ Held n → ⊥
  left_blank x p n h =
      let none = blank_word s.table (content s left hands (OfRoot (OfVariable f x))) (default s.table (object_at s x).of)
      (frame_same s f x m.variables) (none_default s.table (object_at s x).of) p in
      empty_held (sym none ∙ h)

  -- the number of a trunk, before and after
  abbrev Both : Loc → List Step → ℕ → Type 0
  Both l p n =
      (word_in s.table (content s m hands l) p ≡ Held n → word_in s.table (content s left hands l) p ≡ Held n)
      × (word_in s.table (content s left hands l) p ≡ Held n → word_in s.table (content s m hands l) p ≡ Held n)

  by_trunk : (l : Loc) (p : List Step) (n : ℕ) → trunk l ≡ l → Both l p n
  by_trunk (OfRoot (OfVariable g y)) p n t = elim (frames_differ g) [
    | inl e ↦ subst (λ z. Both (OfRoot (OfVariable z y)) p n) (sym e)
        ((λ h. absurd (nothing y p n h)), (λ h. absurd (left_blank y p n h)))
    | inr ne ↦ (
        let same = ap (λ z. word_in s.table (record { of = (object_at s y).of; slots = z; owns = not (is_view_formal s y) }) p) (frame_other s f g y ne m.variables) in
        ((λ h. same ∙ h), (λ h. sym same ∙ h)))
  ]
    where
      frames_differ : (g : ℕ) → (g ≡ f) ⊎ (g ≡ f → ⊥)
      frames_differ g = elim (same_loc (OfCell g) (OfCell f)) [ inl e ↦ inl (loc_cells e) | inr ne ↦ inr (λ e. ne (ap OfCell e)) ]
  by_trunk (OfRoot (OfHand h)) p n t = ((λ e. e), (λ e. e))
  by_trunk (OfCell c) p n t = ((λ e. e), (λ e. e))
  by_trunk (Inside l i) p n t = absurd (not_inside l l i t)

  pub frame_ends : SameNumbers (seen s m hands leaks) (seen s left hands leaks)
  frame_ends = record {
    on = λ l n h. (by_trunk (trunk l) (steps_in l) n (trunk_trunk l)).0 h;
    back = λ l n h. (by_trunk (trunk l) (steps_in l) n (trunk_trunk l)).1 h;
    made = refl;
    freed = λ n. refl;
    leaked = λ n. refl;
  }
