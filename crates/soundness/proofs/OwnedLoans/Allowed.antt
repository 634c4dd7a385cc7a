-- What an act that the facts allow says of them: what doesn't lead to its name, and what doesn't
-- overlap it.
use Rattle.std.proofs.Common.{◌≡◌, refl, sym, ap, ◌∙◌, ℕ, Bool, true, false, ◌||◌, ◌==◌, List, [], ◌∷◌, length, nat_lt, lt-ltb}
use Rattle.std.specs.List.{list_any}
use Rattle.std.proofs.lemmas.Bool.{false≢true}
use Rattle.machine.specs.spark_base.Lists.{Has}
use Rattle.machine.specs.place_names.declared.selector.Sel.{Sel}
use Rattle.machine.specs.place_names.declared.rule.Rule.TheVariants.{O1, O2, O3, O4, O5, O6, O7, O14}
use Rattle.machine.specs.place_names.declared.rule.Loan.{Loan}
use Rattle.machine.specs.place_names.declared.rule.Loan.TheVariants.{Borrowed}
use Rattle.machine.specs.place_names.Names.{Name, object, agrees, agree_along, agrees_whole, overlaps, leads_to, strict_prefixes}
use Rattle.place_names.proofs.Names.{both_parts, both_true}
use Rattle.place_names.proofs.Rules.{any_breaks_O2}
use Rattle.machine.specs.place_names.declared.act.Act.{Act}
use Rattle.machine.specs.place_names.declared.act.Act.TheVariants.{Read, Look, Move, Write, Free, Borrow, Observe, Reborrow, Give}
use Rattle.machine.specs.place_names.declared.fact.Fact.{Fact}
use Rattle.machine.specs.place_names.declared.fact.Fact.TheVariants.{Moved, Lent}
use Rattle.machine.specs.place_names.Facts.{removes, effect}
use Rattle.machine.specs.place_names.Rules.{lent, moved_or_borrowed, moved_or_lent, breaks_O2, breaks_O3, breaks_O14}
use Rattle.soundness.specs.OwnedWays.Ways.{Way, name_of, number_of, sels_of, Allows}
use Rattle.soundness.proofs.OwnedWays.Assigned.{kept_fact, either_left}
use Rattle.soundness.proofs.OwnedLoans.Clear.{refused}
use Rattle.soundness.proofs.OwnedLoans.Safe.{Open, OpenWhole, Unlent, Unborrowed, Unmoved}

pub either_right : (a b : Bool) → b ≡ true → a || b ≡ true
either_right true b e = refl
either_right false b e = e

-- Loans stay.
abbrev pub LoansStay : List Fact → List Fact → Type 0
LoansStay facts facts' = (l : Loan) (h : ℕ) (n : Name) → Has facts (Lent l h n) → Has facts' (Lent l h n)

pub loan_kept : (a : Act) (facts : List Fact) → ((l : Loan) (h : ℕ) (n : Name) → removes a (Lent l h n) ≡ false) → LoansStay facts (effect a facts)
loan_kept a facts stays l h n lent = kept_fact a facts (Lent l h n) lent (stays l h n)

-- what leads to a name overlaps it
whole_along : (a b : List Sel) → agrees_whole a b ≡ true → agree_along a b ≡ true
whole_along [] b e = refl
whole_along (s ∷ a) [] e = absurd (false≢true e)
whole_along (s ∷ a) (t ∷ b) e =
    let parts = both_parts (agrees s t) (agrees_whole a b) e in both_true (agrees s t) (agree_along a b) parts.0 (whole_along a b parts.1)

pub leads_overlaps : (n m : Name) → leads_to n m ≡ true → overlaps n m ≡ true
leads_overlaps n m e =
    let parts = both_parts (n.root == m.root) (agrees_whole n.sels m.sels) e in
    both_true (n.root == m.root) (agree_along n.sels m.sels) parts.0 (whole_along n.sels m.sels parts.1)

-- ---- reads, looks and moves

pub read_open : (facts : List Fact) (u : Way) → Allows facts (Read (name_of u)) → Open facts u
read_open facts u allowed = record {
  moved = λ n has leads less.
      refused (moved_or_borrowed (name_of u) (Moved n)) O1 (name_of u) (Moved n) (leads_overlaps n (name_of u) leads) (allowed (Moved n) has);
  lent = λ h n has leads less.
      refused (moved_or_borrowed (name_of u) (Lent Borrowed h n)) O1 (name_of u) (Lent Borrowed h n) (leads_overlaps n (name_of u) leads)
      (allowed (Lent Borrowed h n) has);
}

pub look_open : (facts : List Fact) (u : Way) → Allows facts (Look (name_of u)) → Open facts u
look_open facts u allowed = record {
  moved = λ n has leads less.
      refused (breaks_O2 (name_of u) (Moved n)) O2 (name_of u) (Moved n) (either_left (leads_to n (name_of u)) false leads) (allowed (Moved n) has);
  lent = λ h n has leads less.
      refused (breaks_O2 (name_of u) (Lent Borrowed h n)) O2 (name_of u) (Lent Borrowed h n) leads (allowed (Lent Borrowed h n) has);
}

pub look_whole : (facts : List Fact) (u : Way) → Allows facts (Look (name_of u)) → OpenWhole facts u
look_whole facts u allowed = record {
  moved = λ n has leads.
      refused (breaks_O2 (name_of u) (Moved n)) O2 (name_of u) (Moved n) (either_left (leads_to n (name_of u)) false leads) (allowed (Moved n) has);
  lent = λ h n has leads.
      refused (breaks_O2 (name_of u) (Lent Borrowed h n)) O2 (name_of u) (Lent Borrowed h n) leads (allowed (Lent Borrowed h n) has);
}

pub move_open : (facts : List Fact) (u : Way) (parts : List (List Sel)) → Allows facts (Move (name_of u) parts) → Open facts u
move_open facts u parts allowed = record {
  moved = λ n has leads less.
      refused (moved_or_lent (name_of u) (Moved n)) O4 (name_of u) (Moved n) (leads_overlaps n (name_of u) leads) (allowed (Moved n) has);
  lent = λ h n has leads less.
      refused (moved_or_lent (name_of u) (Lent Borrowed h n)) O4 (name_of u) (Lent Borrowed h n) (leads_overlaps n (name_of u) leads)
      (allowed (Lent Borrowed h n) has);
}

pub move_unlent : (facts : List Fact) (m : Way) (parts : List (List Sel)) → Allows facts (Move (name_of m) parts) → Unlent facts m
move_unlent facts m parts allowed l h n has over =
    refused (moved_or_lent (name_of m) (Lent l h n)) O4 (name_of m) (Lent l h n) over (allowed (Lent l h n) has)

pub move_unmoved : (facts : List Fact) (m : Way) (parts : List (List Sel)) → Allows facts (Move (name_of m) parts) → Unmoved facts m
move_unmoved facts m parts allowed n has over =
    refused (moved_or_lent (name_of m) (Moved n)) O4 (name_of m) (Moved n) over (allowed (Moved n) has)

-- ---- writes and releases

pub write_open : (facts : List Fact) (k : Way) → Allows facts (Write (name_of k)) → Open facts k
write_open facts k allowed = record {
  moved = λ n has leads less. (
      let both = both_true (breaks_O2 (name_of k) (Moved n)) (nat_lt (length n.sels) (length (sels_of k)))
      (either_left (leads_to n (name_of k)) false leads) (lt-ltb _ _ less) in
      refused (breaks_O3 (name_of k) (Moved n)) O3 (name_of k) (Moved n)
      (either_left (list_any (λ p. breaks_O2 p (Moved n)) (strict_prefixes (name_of k))) (lent (name_of k) (Moved n))
      (any_breaks_O2 (name_of k) (Moved n) ∙ both))
      (allowed (Moved n) has));
  lent = λ h n has leads less.
      refused (breaks_O3 (name_of k) (Lent Borrowed h n)) O3 (name_of k) (Lent Borrowed h n)
      (either_right (list_any (λ p. breaks_O2 p (Lent Borrowed h n)) (strict_prefixes (name_of k))) (lent (name_of k) (Lent Borrowed h n))
      (leads_overlaps n (name_of k) leads))
      (allowed (Lent Borrowed h n) has);
}

pub write_unlent : (facts : List Fact) (k : Way) → Allows facts (Write (name_of k)) → Unlent facts k
write_unlent facts k allowed l h n has over =
    refused (breaks_O3 (name_of k) (Lent l h n)) O3 (name_of k) (Lent l h n)
    (either_right (list_any (λ p. breaks_O2 p (Lent l h n)) (strict_prefixes (name_of k))) (lent (name_of k) (Lent l h n)) over)
    (allowed (Lent l h n) has)

pub free_open : (facts : List Fact) (k : Way) → Allows facts (Free (name_of k)) → Open facts k
free_open facts k allowed = record {
  moved = λ n has leads less.
      refused (breaks_O14 (name_of k) (Moved n)) O14 (name_of k) (Moved n) (either_left (leads_to n (name_of k)) false leads) (allowed (Moved n) has);
  lent = λ h n has leads less.
      refused (breaks_O14 (name_of k) (Lent Borrowed h n)) O14 (name_of k) (Lent Borrowed h n) (leads_overlaps n (name_of k) leads)
      (allowed (Lent Borrowed h n) has);
}

pub free_whole : (facts : List Fact) (k : Way) → Allows facts (Free (name_of k)) → OpenWhole facts k
free_whole facts k allowed = record {
  moved = λ n has leads.
      refused (breaks_O14 (name_of k) (Moved n)) O14 (name_of k) (Moved n) (either_left (leads_to n (name_of k)) false leads) (allowed (Moved n) has);
  lent = λ h n has leads.
      refused (breaks_O14 (name_of k) (Lent Borrowed h n)) O14 (name_of k) (Lent Borrowed h n) (leads_overlaps n (name_of k) leads)
      (allowed (Lent Borrowed h n) has);
}

pub free_unlent : (facts : List Fact) (k : Way) → Allows facts (Free (name_of k)) → Unlent facts k
free_unlent facts k allowed l h n has over =
    refused (breaks_O14 (name_of k) (Lent l h n)) O14 (name_of k) (Lent l h n) over (allowed (Lent l h n) has)

-- ---- borrows, observations and reborrows

-- No name that was moved, and no place that is borrowed, overlaps a name.
abbrev pub Cleared : List Fact → Way → Type 0
Cleared facts u = Unborrowed facts u × Unmoved facts u

pub cleared_whole : (facts : List Fact) (u : Way) → Cleared facts u → OpenWhole facts u
cleared_whole facts u (unborrowed, unmoved) = record {
  moved = λ n has leads. unmoved n has (leads_overlaps n (name_of u) leads);
  lent = λ h n has leads. unborrowed h n has (leads_overlaps n (name_of u) leads);
}

pub cleared_open : (facts : List Fact) (u : Way) → Cleared facts u → Open facts u
cleared_open facts u (unborrowed, unmoved) = record {
  moved = λ n has leads less. unmoved n has (leads_overlaps n (name_of u) leads);
  lent = λ h n has leads less. unborrowed h n has (leads_overlaps n (name_of u) leads);
}

pub borrow_clears : (facts : List Fact) (x : ℕ) (u : Way) → Allows facts (Borrow x (name_of u)) → Cleared facts u
borrow_clears facts x u allowed = (
  λ h n has over. refused (moved_or_lent (name_of u) (Lent Borrowed h n)) O5 (name_of u) (Lent Borrowed h n) over (allowed (Lent Borrowed h n) has),
  λ n has over. refused (moved_or_lent (name_of u) (Moved n)) O5 (name_of u) (Moved n) over (allowed (Moved n) has),
)

pub observe_clears : (facts : List Fact) (x : ℕ) (seen : Bool) (u : Way) → Allows facts (Observe x (name_of u) seen) → Cleared facts u
observe_clears facts x seen u allowed = (
  λ h n has over. refused (moved_or_borrowed (name_of u) (Lent Borrowed h n)) O6 (name_of u) (Lent Borrowed h n) over (allowed (Lent Borrowed h n) has),
  λ n has over. refused (moved_or_borrowed (name_of u) (Moved n)) O6 (name_of u) (Moved n) over (allowed (Moved n) has),
)

-- what overlaps a name that is rooted in an object overlaps the object
overlaps_object : (n m : Name) (b : ℕ) → m.root ≡ b → overlaps n m ≡ true → overlaps n (object b) ≡ true
overlaps_object n m b root over =
    let parts = both_parts (n.root == m.root) (agree_along n.sels m.sels) over in
    both_true (n.root == b) (agree_along n.sels []) (ap (λ z. n.root == z) (sym root) ∙ parts.0) (nothing n.sels)
  where
    nothing : (k : List Sel) → agree_along k [] ≡ true
    nothing [] = refl
    nothing (s ∷ k) = refl

pub reborrow_clears : (facts : List Fact) (b : ℕ) (u : Way) → number_of u ≡ b → Allows facts (Reborrow b (name_of u)) → Cleared facts u
reborrow_clears facts b u root allowed = (
  λ h n has over. refused (moved_or_lent (object b) (Lent Borrowed h n)) O7 (object b) (Lent Borrowed h n) (overlaps_object n (name_of u) b root over)
      (allowed (Lent Borrowed h n) has),
  λ n has over. refused (moved_or_lent (object b) (Moved n)) O7 (object b) (Moved n) (overlaps_object n (name_of u) b root over) (allowed (Moved n) has),
)

pub give_clears : (facts : List Fact) (borrows : Bool) (u : Way) → Allows facts (Give (name_of u) borrows) → Cleared facts u
give_clears facts true u allowed = (
  λ h n has over. refused (moved_or_lent (name_of u) (Lent Borrowed h n)) O5 (name_of u) (Lent Borrowed h n) over (allowed (Lent Borrowed h n) has),
  λ n has over. refused (moved_or_lent (name_of u) (Moved n)) O5 (name_of u) (Moved n) over (allowed (Moved n) has),
)
give_clears facts false u allowed = (
  λ h n has over. refused (moved_or_borrowed (name_of u) (Lent Borrowed h n)) O6 (name_of u) (Lent Borrowed h n) over (allowed (Lent Borrowed h n) has),
  λ n has over. refused (moved_or_borrowed (name_of u) (Moved n)) O6 (name_of u) (Moved n) over (allowed (Moved n) has),
)
