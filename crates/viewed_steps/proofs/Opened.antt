-- What is passed by a name that is copied back: nothing that was moved leads to it, before the acts of the
-- call as at its own act, since what an earlier actual of mode `out` covers doesn't overlap it.
use Rattle.std.proofs.Common.{◌≡◌, refl, sym, ◌∙◌, subst, ◌⊎◌, Bool, true, false, not, ◌||◌, ◌==◌, eqb-true, eq-eqb, List, [], ◌∷◌, ap}
use Rattle.std.specs.List.{list_any}
use Rattle.std.proofs.lemmas.Bool.{false≢true}
use Rattle.machine.specs.spark_base.Lists.{Has}
use Rattle.machine.specs.place_names.declared.selector.Sel.{Sel}
use Rattle.machine.specs.place_names.declared.selector.Sel.TheVariants.{Field, Elem, Deref}
use Rattle.machine.specs.place_names.declared.act.Act.TheVariants as act
use Rattle.machine.specs.place_names.declared.act.Mode.{Mode}
use Rattle.machine.specs.place_names.declared.act.Mode.TheVariants as mode
use Rattle.machine.specs.place_names.declared.fact.Fact.{Fact}
use Rattle.machine.specs.place_names.declared.fact.Fact.TheVariants.{Moved, Lent}
use Rattle.machine.specs.place_names.declared.rule.Loan.TheVariants.{Borrowed}
use Rattle.machine.specs.place_names.declared.rule.Rule.TheVariants.{O10}
use Rattle.machine.specs.place_names.Names.{Name as PlaceName, is_equal, begins, is_prefix, agree_along, agrees_whole, overlaps, leads_to, has_elem, covers, strict_prefixes}
use Rattle.machine.specs.place_names.Rules.{lent, moved_or_borrowed, moved_or_lent, breaks_O2, breaks_O3, breaks_O10}
use Rattle.soundness.proofs.PlaceNames.{both_parts, both_true}
use Rattle.soundness.specs.OwnedWays.Ways.{Way, Allows, name_of}
use Rattle.soundness.proofs.Freeing.{switched}
use Rattle.soundness.proofs.OwnedLoans.Clear.{refused}
use Rattle.soundness.proofs.OwnedLoans.Allowed.{either_right, leads_overlaps, write_open, write_unlent}
use Rattle.soundness.proofs.OwnedLoans.Safe.{Open, Unlent}
use Rattle.viewed_steps.proofs.Constructors.{is_moved_fact}
use Rattle.soundness.proofs.Parted.{by_either}

-- ---- names

equal_then : (a b c : Sel) → is_equal a b ≡ true → is_equal b c ≡ true → is_equal a c ≡ true
equal_then (Field i) (Field j) (Field k) e f = eq-eqb i k (eqb-true i j e ∙ eqb-true j k f)
equal_then (Field i) (Field j) Elem e f = cc
equal_then (Field i) (Field j) Deref e f = cc
equal_then (Field i) Elem c e f = cc
equal_then (Field i) Deref c e f = cc
equal_then Elem (Field j) c e f = cc
equal_then Elem Elem c e f = f
equal_then Elem Deref c e f = cc
equal_then Deref (Field j) c e f = cc
equal_then Deref Elem c e f = cc
equal_then Deref Deref c e f = f

begins_along : (k n m : List Sel) → begins k n ≡ true → agrees_whole n m ≡ true → agree_along k m ≡ true
begins_along [] n m e f = refl
begins_along (a ∷ k) [] m e f = cc
begins_along (a ∷ k) (b ∷ n) [] e f = cc
begins_along (a ∷ k) (b ∷ n) (c ∷ m) e f =
    let one = both_parts (is_equal a b) (begins k n) e in
    let two = both_parts (is_equal b c) (agrees_whole n m) f in
    both_true (is_equal a c) (agree_along k m) (equal_then a b c one.0 two.0) (begins_along k n m one.1 two.1)

-- what covers a name that leads to another one overlaps that
pub covers_overlaps : (k n m : PlaceName) → covers k n ≡ true → leads_to n m ≡ true → overlaps k m ≡ true
covers_overlaps k n m e f =
    let one = both_parts (k.root == n.root) (begins k.sels n.sels) (both_parts (is_prefix k n) (not (has_elem k.sels)) e).0 in
    let two = both_parts (n.root == m.root) (agrees_whole n.sels m.sels) f in
    both_true (k.root == m.root) (agree_along k.sels m.sels) (eq-eqb k.root m.root (eqb-true k.root n.root one.0 ∙ eqb-true n.root m.root two.0))
    (begins_along k.sels n.sels m.sels one.1 two.1)

-- ---- acts

either_left : (a b : Bool) → a ≡ true → a || b ≡ true
either_left true b e = refl
either_left false b e = absurd (false≢true e)

-- nothing that was moved or is borrowed leads to what is copied back, nor is it lent
pub actual_open : (facts : List Fact) (how : Mode) (owning access : Bool) (k : Way) → (how ≡ mode.In → ⊥) → Allows facts (act.Actual (name_of k) how owning access)
    → Open facts k × Unlent facts k
actual_open facts mode.In owning access k other allowed = absurd (other refl)
actual_open facts mode.Out owning access k other allowed =
    let writes : Allows facts (act.Write (name_of k)) = (λ g has. switched (breaks_O3 (name_of k) g) _ _ (allowed g has)) in
    (write_open facts k writes, write_unlent facts k writes)
actual_open facts mode.InOut true access k other allowed = (
  record {
    moved = λ n has leads less. refused (moved_or_lent (name_of k) (Moved n)) O10 (name_of k) (Moved n) (leads_overlaps n (name_of k) leads) (allowed (Moved n) has);
    lent = λ h n has leads less. refused (moved_or_lent (name_of k) (Lent Borrowed h n)) O10 (name_of k) (Lent Borrowed h n) (leads_overlaps n (name_of k) leads)
        (allowed (Lent Borrowed h n) has);
  },
  λ l h n has over. refused (moved_or_lent (name_of k) (Lent l h n)) O10 (name_of k) (Lent l h n) over (allowed (Lent l h n) has),
)
actual_open facts mode.InOut false access k other allowed = (
  record {
    moved = λ n has leads less. by_read (Moved n) has (leads_overlaps n (name_of k) leads);
    lent = λ h n has leads less. by_read (Lent Borrowed h n) has (leads_overlaps n (name_of k) leads);
  },
  λ l h n has over.
      refused (breaks_O10 (name_of k) mode.InOut false access (Lent l h n)) O10 (name_of k) (Lent l h n)
      (either_right (moved_or_borrowed (name_of k) (Lent l h n)) (breaks_O3 (name_of k) (Lent l h n))
      (either_right (list_any (λ p. breaks_O2 p (Lent l h n)) (strict_prefixes (name_of k))) (lent (name_of k) (Lent l h n)) over)) (allowed (Lent l h n) has),
)
  where
    by_read : (f : Fact) → Has facts f → moved_or_borrowed (name_of k) f ≡ true → ⊥
    by_read f has over =
        refused (breaks_O10 (name_of k) mode.InOut false access f) O10 (name_of k) f
        (either_left (moved_or_borrowed (name_of k) f) (breaks_O3 (name_of k) f) over) (allowed f has)

-- ---- before the acts of the call

-- A fact is among others, or tells of what one of these names covers.
abbrev pub IsLess : List PlaceName → List Fact → Fact → Type 0
IsLess outs known f = Has known f ⊎ ((k : PlaceName) × Has outs k × (n : PlaceName) × (f ≡ Moved n) × (covers k n ≡ true))

pub open_before : (facts known : List Fact) (outs : List PlaceName) (k : Way) → ((f : Fact) → Has facts f → IsLess outs known f)
    → ((m : PlaceName) → Has outs m → overlaps m (name_of k) ≡ true → ⊥) → Open known k → Open facts k
open_before facts known outs k less apart free = record {
  moved = λ n has leads short. by_either (less (Moved n) has)
      (λ there. (free.moved n there leads short))
      (λ (m, among, moved, is, covered). (apart m among (covers_overlaps m n (name_of k) (subst (λ z. covers m z ≡ true) (sym (same_moved n moved is)) covered) leads)));
  lent = λ h n has leads short. by_either (less (Lent Borrowed h n) has)
      (λ there. (free.lent h n there leads short))
      (λ (m, among, moved, is, covered). (let no : Lent Borrowed h n ≡ Moved moved = is in absurd (false≢true (ap is_moved_fact no))));
}
  where
    same_moved : (n m : PlaceName) → Moved n ≡ Moved m → n ≡ m
    same_moved n m e = cc
