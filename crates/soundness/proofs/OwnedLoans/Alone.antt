-- A frame that is alone, and one with nothing lent to others.
use Rattle.std.proofs.Common.{◌≡◌, ℕ, Bool, List, Some}
use Rattle.machine.specs.place_names.declared.fact.Fact.{Fact}
use Rattle.soundness.specs.OwnedWays.Ways.{Step, Way, View}
use Rattle.soundness.specs.OwnedLoans.Views.{Around, known_gone, Views, Viewed, ViewedAlone}

module _ (home : ℕ → ℕ) (observer : ℕ → Bool) (v : Views) (s : View) (facts : List Fact) where
  pub viewed_alone : (other : Around home) → Viewed home observer other v s facts → ViewedAlone home observer other v s facts
  viewed_alone other viewed = record {
    owned = viewed.owned;
    covered = viewed.covered;
    known = viewed.known;
    clear = viewed.clear;
    views = viewed.views;
    whole = viewed.whole;
    whole_parts = viewed.whole_parts;
  }

  -- without views
  pub alone_viewed : (gone : Way → Type 0) → ((x : ℕ) (w : Way) → v.way x ≡ Some w → ⊥) → ((x : ℕ) (p : List Step) (w : Way) → v.part_way x p ≡ Some w → ⊥)
      → ViewedAlone home observer (known_gone home gone) v s facts
      → Viewed home observer (known_gone home gone) v s facts
  alone_viewed gone none bare viewed = record {
    owned = viewed.owned;
    covered = viewed.covered;
    known = viewed.known;
    clear = viewed.clear;
    views = viewed.views;
    whole = viewed.whole;
    whole_parts = viewed.whole_parts;
    parts_away = λ x p w z has away. absurd away;
    whole_away = λ x w z has. absurd (none x w has);
    shown = (λ x w has. absurd (none x w has), λ x p w has. absurd (bare x p w has));
    past = λ x w has. absurd (none x w has);
    lends = λ l n lent. absurd lent;
    far = λ w n keeps. absurd keeps;
    bare = λ w l p bare. absurd bare;
  }
