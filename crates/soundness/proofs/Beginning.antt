-- A memory without variables and cells is sound.
use Rattle.std.proofs.Common.{◌≡◌, refl, sym, ◌∙◌, ℕ, zero, suc, false, List, [], arith}
use Rattle.std.proofs.lemmas.List.{length-map}
use Rattle.std.proofs.lemmas.Bool.{true≢false}
use Rattle.machine.specs.place_names.declared.fact.Fact.{Fact}
use Rattle.machine.specs.flow_paths.Objects.{Typing, object_at}
use Rattle.machine.specs.Words.{default}
use Rattle.machine.specs.Memory.{cell}
use Rattle.machine.specs.Run.{empty_memory}
use Rattle.soundness.specs.OwnedWays.Ways.{Step, OfVariable, OfHand, Loc, OfRoot, OfCell, Inside, Way, Empty, Held, Sound}
use Rattle.soundness.specs.PartOffsets.Parts.{offset_in}
use Rattle.soundness.specs.Seen.{content, trunk, steps_in, word_in, seen}
use Rattle.soundness.specs.Typed.{Points, Kept}
use Rattle.soundness.specs.Sound.{InScope}
use Rattle.soundness.proofs.Joined.{trunk_trunk, not_inside}
use Rattle.soundness.proofs.Contents.{word_dead, empty_hand}
use Rattle.soundness.proofs.Defaults.{none_default, blank_word}
use Rattle.soundness.proofs.Keeping.{cell_has}
use Rattle.soundness.proofs.Lasting.{lengths}
use Rattle.soundness.proofs.Parted.{null_cell, empty_held, empty_gone}

-- ---- a memory without variables and cells

module _ (s : Typing) where
  empty_trunk : (l : Loc) (p : List Step) → trunk l ≡ l → word_in s.table (content s empty_memory [] l) p ≡ Empty
  empty_trunk (OfRoot (OfVariable f x)) p t =
      blank_word s.table (content s empty_memory [] (OfRoot (OfVariable f x))) (default s.table (object_at s x).of) refl
      (none_default s.table (object_at s x).of) p
  empty_trunk (OfRoot (OfHand h)) p t = empty_hand s.table p
  empty_trunk (OfCell zero) p t = word_dead s.table (content s empty_memory [] (OfCell zero)) p refl
  empty_trunk (OfCell (suc n)) p t = word_dead s.table (content s empty_memory [] (OfCell (suc n))) p refl
  empty_trunk (Inside l i) p t = absurd (not_inside l l i t)

  none_held : (l : Loc) (n : ℕ) → (seen s empty_memory [] []).word l ≡ Held n → ⊥
  none_held l n e = empty_held (sym (empty_trunk (trunk l) (steps_in l) (trunk_trunk l)) ∙ e)

  all_freed : (n : ℕ) → (cell empty_memory n).freed ≡ false → ⊥
  all_freed zero e = absurd (true≢false e)
  all_freed (suc n) e = absurd (true≢false e)

  pub empty_sound : (at_home : ℕ → ℕ) (other : Way → Type 0) (facts : List Fact) → Sound at_home other (seen s empty_memory [] []) facts
  empty_sound at_home other facts = record {
    owned = record {
      unique = λ l m n a b. absurd (none_held l n a);
      live = λ l n a. absurd (none_held l n a);
      within = λ l n a. absurd (none_held l n a);
      kept = λ l n a. absurd (none_held l n a);
      counted = λ n a. cc;
    };
    covered = λ n less free. absurd (all_freed n free);
    known = λ w l rooted reaches gone. absurd (empty_gone (sym (empty_trunk (trunk l) (steps_in l) (trunk_trunk l)) ∙ gone));
  }

  empty_points : (l : Loc) → Points s empty_memory (content s empty_memory [] l)
  empty_points (OfRoot (OfVariable f x)) p d c n k has is at =
      absurd (none_default s.table (object_at s x).of k (cell_has (default s.table (object_at s x).of) (offset_in s.table (object_at s x).of p) k at))
  empty_points (OfRoot (OfHand h)) p d c n k has is at = absurd (null_cell at)
  empty_points (OfCell zero) p d c n k has is at = absurd (null_cell at)
  empty_points (OfCell (suc m)) p d c n k has is at = absurd (null_cell at)
  empty_points (Inside l i) p d c n k has is at = empty_points l p d c n k has is at

  pub empty_kept : Kept s empty_memory []
  empty_kept = record {
    variables = λ f x. length-map (default s.table (object_at s x).of) (λ w. record { word = w; gone = false }) ∙ lengths s.table (object_at s x).of;
    cells = λ n lo hi. absurd (omega (arith, lo, hi));
    points = empty_points;
  }

  pub empty_scope : (depth : ℕ) (scope : List ℕ) → InScope s empty_memory depth scope
  empty_scope depth scope f x p n held = absurd (empty_held (sym (empty_trunk (OfRoot (OfVariable f x)) p refl) ∙ held))
