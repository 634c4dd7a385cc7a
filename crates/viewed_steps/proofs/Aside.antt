-- Names of places that are passed: one of them isn't above another one that doesn't overlap it, where
-- neither is lent. And the name of the cell that such a place is in.
use Rattle.std.proofs.Common.{◌≡◌, refl, sym, ap, ◌∙◌, subst, inl, ℕ, Bool, true, List, [], ◌∷◌, Option, Some, None}
use Rattle.std.proofs.lemmas.Bool.{false≢true}
use Rattle.machine.specs.place_names.declared.rule.Loan.TheVariants.{Borrowed}
use Rattle.machine.specs.place_names.declared.fact.Fact.{Fact}
use Rattle.machine.specs.place_names.Names.{overlaps}
use Rattle.soundness.specs.OwnedWays.Ways.{Step, Root, OfVariable, OfHand, Loc, OfRoot, OfCell, Way, Object, Lost, Into, All, View, Reaches, Under, along, name_of}
use Rattle.soundness.proofs.OwnedWays.Unique.{one_location}
use Rattle.soundness.specs.Seen.{trunk}
use Rattle.soundness.specs.OwnedLoans.Views.{Around, Views, way_at, expand, expand_root, Viewed, part_at, inner_steps, expand_part, part_from}
use Rattle.soundness.proofs.OwnedLoans.Meeting.{IsPlain}
use Rattle.soundness.proofs.OwnedLoans.Safe.{Unlent, apart_names}
use Rattle.soundness.proofs.OwnedLoans.Ways.{part_found}
use Rattle.viewed_steps.proofs.Constructors.{is_of_cell_loc}

module _ (home : ℕ → ℕ) (observer : ℕ → Bool) (other : Around home) (v : Views) (s : View) (facts : List Fact)
    (viewed : Viewed home observer other v s facts) where
  pub names_off : (t u : Way) → IsPlain home observer v s facts viewed.views t → IsPlain home observer v s facts viewed.views u → Unlent facts t → Unlent facts u
      → (overlaps (name_of t) (name_of u) ≡ true → ⊥) → Under (expand v t) (expand v u) → ⊥
  names_off t u plain_t plain_u unlent_t unlent_u apart under =
      apart_names home observer other v s facts viewed t u plain_t plain_u (λ h n has over. unlent_t Borrowed h n has over)
      (λ h n has over. unlent_u Borrowed h n has over) apart (inl under)

-- The name of a cell, which a longer name goes on from to a part of it.
pub record IsNameOfCell (v : Views) (s : View) (w : Way) (n : ℕ) : Type 0 where
  pub name : Way
  pub rest : List Step
  pub is : w ≡ along name rest
  pub deep : (r : Root) → name ≡ Object r → ⊥
  pub reaches : Reaches s (expand v name) (OfCell n)

pub cell_name : (v : Views) (s : View) → ((x : ℕ) (w : Way) → v.way x ≡ Some w → Reaches s w (OfCell (v.cell x)))
    → ((x : ℕ) (p : List Step) (w : Way) → v.part_way x p ≡ Some w → Reaches s w (OfCell (v.part_cell x p))) → (w : Way) (l : Loc) (n : ℕ)
    → Reaches s (expand v w) l → trunk l ≡ OfCell n → IsNameOfCell v s w n
cell_name v s views parts (Object (OfVariable f x)) l n is base = (let no : OfRoot (OfVariable f x) ≡ OfCell n = ap trunk (sym is) ∙ base in absurd (false≢true (ap is_of_cell_loc no)))
cell_name v s views parts (Object (OfHand h)) l n is base = (let no : OfRoot (OfHand h) ≡ OfCell n = ap trunk (sym is) ∙ base in absurd (false≢true (ap is_of_cell_loc no)))
cell_name v s views parts (Lost c) l n reach base = record {
  name = Lost c;
  rest = [];
  is = refl;
  deep = λ r e. cc;
  reaches = (reach.0, sym base ∙ ap trunk reach.1);
}
cell_name v s views parts (Into w i) l n (m, reach, is) base =
    let there = cell_name v s views parts w m n reach (ap trunk (sym is) ∙ base) in record {
      name = there.name;
      rest = i ∷ there.rest;
      is = ap (λ z. Into z i) there.is;
      deep = there.deep;
      reaches = there.reaches;
    }
cell_name v s views parts (All w) l n reach base = record {
  name = All w;
  rest = [];
  is = refl;
  deep = λ r e. cc;
  reaches = subst (Reaches s (expand v (All w))) (at_cell w reach) reach;
}
  where
    of_cell : (u : Way) (k : Loc) → Reaches s (All u) k → trunk k ≡ OfCell n → k ≡ OfCell n
    of_cell u k (m, c, r, held, is) at = is ∙ sym (ap trunk is) ∙ at

    by_root : (o : Option Way) (r : Root) → way_at v r ≡ o → Reaches s (expand_root o r) l → l ≡ OfCell n
    by_root None r e reach = of_cell (Object r) l reach base
    by_root (Some w) (OfVariable f x) e reach =
        let is = one_location s w l (OfCell (v.cell x)) reach (views x w e) in is ∙ sym (ap trunk is) ∙ base
    by_root (Some w) (OfHand h) e reach = cc

    by_part : (u : Way) (p : List Step) (o : Option Way) → part_from v u p ≡ o → Reaches s (expand_part o (expand v u)) l → l ≡ OfCell n
    by_part u p None e reach = of_cell (expand v u) l reach base
    by_part u p (Some w) e reach =
        let found = part_found v u p w e in
        let is = one_location s w l (OfCell (v.part_cell found.1 p)) reach (parts found.1 p w found.3) in is ∙ sym (ap trunk is) ∙ base

    at_cell : (w : Way) → Reaches s (expand v (All w)) l → l ≡ OfCell n
    at_cell (Object r) reach = by_root (way_at v r) r refl reach
    at_cell (Lost c) reach = of_cell (Lost c) l reach base
    at_cell (Into w i) reach = by_part (Into w i) (inner_steps (Into w i)) (part_at v (Into w i)) refl reach
    at_cell (All w) reach = of_cell (expand v (All w)) l reach base
