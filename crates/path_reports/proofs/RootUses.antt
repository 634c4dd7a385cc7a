-- What facts forbid where the object is used that they are rooted in.
use Rattle.std.proofs.Common.{◌≡◌, refl, ℕ, Bool, true, false, ◌==◌, eq-eqb, List, [], ◌∷◌}
use Rattle.place_names.specs.declared.selector.Sel.{Sel}
use Rattle.place_names.specs.declared.fact.Fact.TheVariants.{Moved, Lent}
use Rattle.place_names.specs.declared.rule.Loan.TheVariants.{Borrowed, Observed}
use Rattle.place_names.specs.Names.{Name, object, overlaps, agree_along}
use Rattle.place_names.specs.Rules.{breaks_O11}
use Rattle.place_names.proofs.Names.{both_true}

own_overlaps : (n : Name) → overlaps n (object n.root) ≡ true
own_overlaps n = both_true (n.root == n.root) (agree_along n.sels []) (eq-eqb n.root n.root refl) (agrees n.sels)
  where
    agrees : (sels : List Sel) → agree_along sels [] ≡ true
    agrees [] = refl
    agrees (s ∷ sels) = refl

pub moved_breaks : (n : Name) (written : Bool) → breaks_O11 n.root written (Moved n) ≡ true
moved_breaks n true = own_overlaps n
moved_breaks n false = own_overlaps n

pub borrowed_breaks : (h : ℕ) (n : Name) (written : Bool) → breaks_O11 n.root written (Lent Borrowed h n) ≡ true
borrowed_breaks h n true = own_overlaps n
borrowed_breaks h n false = own_overlaps n

pub observed_breaks : (h : ℕ) (n : Name) (written : Bool) → breaks_O11 n.root written (Lent Observed h n) ≡ written
observed_breaks h n true = own_overlaps n
observed_breaks h n false = refl
