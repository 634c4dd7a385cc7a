-- What the frames around the innermost one say of package objects stands beside its own facts: the places
-- that they moved. None of its acts concerns them.
use Rattle.std.proofs.Common.{◌≡◌, refl, sym, ap, ◌∙◌, ◌⊎◌, inl, inr, ℕ, Bool, true, false, not, ◌&&◌, ◌||◌, ◌==◌, eq-eqb, eqb-true, List, [], ◌∷◌, map, None}
use Rattle.std.specs.Prelude.{filter}
use Rattle.std.specs.List.{list_any}
use Rattle.std.proofs.lemmas.Bool.{true≢false, false≢true}
use Rattle.machine.specs.spark_base.Lists.{Has}
use Rattle.soundness.proofs.Lists.{Has-append_left, Has-append_right, Has-append_cases, Has-filter, Has-filter_passes}
use Rattle.machine.specs.place_names.declared.selector.Sel.{Sel}
use Rattle.machine.specs.place_names.declared.act.Mode.{Mode}
use Rattle.machine.specs.place_names.declared.act.Mode.TheVariants as mode
use Rattle.machine.specs.place_names.declared.act.Act.{Act}
use Rattle.machine.specs.place_names.declared.act.Act.TheVariants as act
use Rattle.machine.specs.place_names.declared.fact.Fact.{Fact}
use Rattle.machine.specs.place_names.declared.fact.Fact.TheVariants.{Lent}
use Rattle.machine.specs.place_names.declared.rule.Loan.{Loan}
use Rattle.machine.specs.place_names.declared.rule.Loan.TheVariants.{Borrowed, Observed}
use Rattle.machine.specs.place_names.declared.rule.Rule.{Rule}
use Rattle.machine.specs.place_names.Names.{Name, agree_along, agrees_whole, overlaps, strict_fronts, strict_prefixes}
use Rattle.machine.specs.place_names.Facts.{adds, removes, effect}
use Rattle.machine.specs.place_names.Rules.{forbidden_if, forbids, breaks_O1, breaks_O3, breaks_O4, breaks_O5, breaks_O6, breaks_O7, breaks_O10, breaks_O14, breaks_O2}
use Rattle.machine.specs.flow_paths.Effects.{act_reads, act_writes, actual_writes}
use Rattle.machine.specs.flow_paths.Objects.{Typing, is_borrower, is_package_object}
use Rattle.soundness.specs.OwnedWays.Ways.{after}
use Rattle.soundness.proofs.Contents.{bool_cases}
use Rattle.viewed_steps.proofs.Lent.{ends}

-- ---- facts among others

effect_more : (a : Act) (some all : List Fact) → ((f : Fact) → Has some f → Has all f) → (f : Fact) → Has (effect a some) f → Has (effect a all) f
effect_more a some all part f has = elim (Has-append_cases (filter (λ g. not (removes a g)) some) (adds a) f has) [
  | inr new ↦ Has-append_right (filter (λ g. not (removes a g)) all) (adds a) f new
  | inl old ↦ (
      let was = Has-filter (λ g. not (removes a g)) some f old in
      Has-append_left (filter (λ g. not (removes a g)) all) (adds a) f (Has-filter_passes (λ g. not (removes a g)) all f (part f was.0) was.1))
]

pub after_more : (more : List Act) (some all : List Fact) → ((f : Fact) → Has some f → Has all f) → (f : Fact) → Has (after more some) f → Has (after more all) f
after_more [] some all part f has = part f has
after_more (a ∷ more) some all part f has = after_more more (effect a some) (effect a all) (effect_more a some all part) f has

-- ---- facts and acts of different roots

forbidden_none : (test : Bool) (r : Rule) (m : Name) (f : Fact) → test ≡ false → forbidden_if test r m f ≡ None
forbidden_none true r m f e = absurd (true≢false e)
forbidden_none false r m f e = refl

neither : (a b : Bool) → a ≡ false → b ≡ false → a || b ≡ false
neither true b e h = e
neither false b e h = h

no_kind : (a b : Bool) → a && b ≡ false → a && not b ≡ false → a ≡ false
no_kind true true e h = e
no_kind true false e h = h
no_kind false b e h = refl

not_so : (a b : Bool) → a ≡ true → b ≡ false → a ≡ b → ⊥
not_so true true e h same = absurd (true≢false h)
not_so true false e h same = absurd (true≢false same)
not_so false b e h same = absurd (false≢true e)

module _ (s : Typing) (n : Name) (shared : is_package_object s n.root ≡ true)
    (local : (x : ℕ) → is_borrower s x ≡ true → is_package_object s x ≡ false) where
  other_root : (r : ℕ) → (r == n.root) ≡ false → (n.root == r) ≡ false
  other_root r other = elim (bool_cases (n.root == r)) [
    | inr e ↦ e
    | inl e ↦ (let same : (r == n.root) ≡ true = eq-eqb r n.root (sym (eqb-true n.root r e)) in let no : true ≡ false = sym same ∙ other in absurd (true≢false no))
  ]

  apart_overlap : (m : Name) → (m.root == n.root) ≡ false → overlaps n m ≡ false
  apart_overlap m other = ap (λ b. b && agree_along n.sels m.sels) (other_root m.root other)

  -- an object of the frame is another one
  own_root : (x : ℕ) → is_package_object s x ≡ false → (x == n.root) ≡ false
  own_root x own = elim (bool_cases (x == n.root)) [
    | inr e ↦ e
    | inl e ↦ absurd (not_so (is_package_object s n.root) (is_package_object s x) shared own (sym (ap (is_package_object s) (eqb-true x n.root e))))
  ]

  -- ---- loans

  lends_on : (b : Bool) → not b ≡ false → b ≡ true
  lends_on true e = refl
  lends_on false e = absurd (true≢false e)

  kind_first : (b : Bool) → b && true ≡ false → b ≡ false
  kind_first true e = absurd (true≢false e)
  kind_first false e = refl

  abbrev Observing : ℕ → Fact
  Observing h = Lent Observed h n

  seen_fronts : (h r : ℕ) (fronts : List (List Sel)) → list_any (λ p. breaks_O2 p (Observing h)) (map (λ front. record { root = r; sels = front }) fronts) ≡ false
  seen_fronts h r [] = refl
  seen_fronts h r (front ∷ fronts) = seen_fronts h r fronts

  seen_write : (h : ℕ) (m : Name) → (m.root == n.root) ≡ false → breaks_O3 m (Observing h) ≡ false
  seen_write h m other =
      neither (list_any (λ p. breaks_O2 p (Observing h)) (strict_prefixes m)) (overlaps n m) (seen_fronts h m.root (strict_fronts m.sels)) (apart_overlap m other)

  seen_actual : (h : ℕ) (m : Name) (how : Mode) (owning access : Bool) → ((m.root == n.root) && actual_writes how access ≡ false)
      → breaks_O10 m how owning access (Observing h) ≡ false
  seen_actual h m mode.In owning true writes = apart_overlap m (kind_first (m.root == n.root) writes)
  seen_actual h m mode.In true false writes = refl
  seen_actual h m mode.In false false writes = refl
  seen_actual h m mode.InOut true access writes = apart_overlap m (kind_first (m.root == n.root) writes)
  seen_actual h m mode.InOut false access writes = seen_write h m (kind_first (m.root == n.root) writes)
  seen_actual h m mode.Out owning access writes = seen_write h m (kind_first (m.root == n.root) writes)

  -- an act that doesn't write the object leaves its observers alone
  pub apart_seen : (h : ℕ) (a : Act) → ends s a ≡ false → act_writes n.root a ≡ false → forbids a (Observing h) ≡ None
  apart_seen h (act.Read m) fits writes = refl
  apart_seen h (act.Look m) fits writes = refl
  apart_seen h (act.Write m) fits writes = forbidden_none (breaks_O3 m (Observing h)) _ m (Observing h) (seen_write h m writes)
  apart_seen h (act.Move m parts) fits writes = forbidden_none (breaks_O4 m (Observing h)) _ m (Observing h) (apart_overlap m writes)
  apart_seen h (act.Free m) fits writes = forbidden_none (breaks_O14 m (Observing h)) _ m (Observing h) (apart_overlap m writes)
  apart_seen h (act.Borrow b m) fits writes = forbidden_none (breaks_O5 m (Observing h)) _ m (Observing h) (apart_overlap m writes)
  apart_seen h (act.Observe b m from) fits writes = refl
  apart_seen h (act.Reborrow b m) fits writes =
      forbidden_none (breaks_O7 b (Observing h)) _ _ (Observing h) (apart_overlap (record { root = b; sels = [] }) (own_root b (local b (lends_on (is_borrower s b) fits))))
  apart_seen h (act.EndScope x borrower) fits writes = cc
  apart_seen h (act.Return roots) fits writes = cc
  apart_seen h (act.Actual m how owning access) fits writes =
      forbidden_none (breaks_O10 m how owning access (Observing h)) _ m (Observing h) (seen_actual h m how owning access writes)
  apart_seen h (act.Global g written) fits writes = cc
  apart_seen h (act.Give m true) fits writes = forbidden_none (breaks_O5 m (Observing h)) _ m (Observing h) (apart_overlap m (own_root m.root fits))
  apart_seen h (act.Give m false) fits writes = refl

  abbrev Borrowing : ℕ → Fact
  Borrowing h = Lent Borrowed h n

  lent_lead : (h : ℕ) (m : Name) → (m.root == n.root) ≡ false → breaks_O2 m (Borrowing h) ≡ false
  lent_lead h m other = ap (λ b. b && agrees_whole n.sels m.sels) (other_root m.root other)

  lent_fronts : (h r : ℕ) → (r == n.root) ≡ false → (fronts : List (List Sel)) → list_any (λ p. breaks_O2 p (Borrowing h)) (map (λ front. record { root = r; sels = front }) fronts) ≡ false
  lent_fronts h r other [] = refl
  lent_fronts h r other (front ∷ fronts) =
      ap (λ b. b || list_any (λ p. breaks_O2 p (Borrowing h)) (map (λ front. record { root = r; sels = front }) fronts))
      (lent_lead h (record { root = r; sels = front }) other)
      ∙ lent_fronts h r other fronts

  lent_write : (h : ℕ) (m : Name) → (m.root == n.root) ≡ false → breaks_O3 m (Borrowing h) ≡ false
  lent_write h m other =
      neither (list_any (λ p. breaks_O2 p (Borrowing h)) (strict_prefixes m)) (overlaps n m) (lent_fronts h m.root other (strict_fronts m.sels)) (apart_overlap m other)

  lent_actual : (h : ℕ) (m : Name) (how : Mode) (owning access : Bool) → (m.root == n.root) ≡ false → breaks_O10 m how owning access (Borrowing h) ≡ false
  lent_actual h m mode.In owning true other = apart_overlap m other
  lent_actual h m mode.In true false other = apart_overlap m other
  lent_actual h m mode.In false false other = refl
  lent_actual h m mode.InOut true access other = apart_overlap m other
  lent_actual h m mode.InOut false access other = neither (breaks_O1 m (Borrowing h)) (breaks_O3 m (Borrowing h)) (apart_overlap m other) (lent_write h m other)
  lent_actual h m mode.Out owning access other = lent_write h m other

  -- one that uses none of it leaves its borrowers alone: it is as if the place was moved
  pub apart_borrowed : (h : ℕ) (a : Act) → ends s a ≡ false → act_writes n.root a ≡ false → act_reads n.root a ≡ false → forbids a (Borrowing h) ≡ None
  apart_borrowed h (act.Read m) fits writes reads = forbidden_none (breaks_O1 m (Borrowing h)) _ m (Borrowing h) (apart_overlap m reads)
  apart_borrowed h (act.Look m) fits writes reads = forbidden_none (breaks_O2 m (Borrowing h)) _ m (Borrowing h) (lent_lead h m reads)
  apart_borrowed h (act.Write m) fits writes reads = forbidden_none (breaks_O3 m (Borrowing h)) _ m (Borrowing h) (lent_write h m writes)
  apart_borrowed h (act.Move m parts) fits writes reads = forbidden_none (breaks_O4 m (Borrowing h)) _ m (Borrowing h) (apart_overlap m writes)
  apart_borrowed h (act.Free m) fits writes reads = forbidden_none (breaks_O14 m (Borrowing h)) _ m (Borrowing h) (apart_overlap m writes)
  apart_borrowed h (act.Borrow b m) fits writes reads = forbidden_none (breaks_O5 m (Borrowing h)) _ m (Borrowing h) (apart_overlap m writes)
  apart_borrowed h (act.Observe b m from) fits writes reads = forbidden_none (breaks_O6 m (Borrowing h)) _ m (Borrowing h) (apart_overlap m reads)
  apart_borrowed h (act.Reborrow b m) fits writes reads =
      forbidden_none (breaks_O7 b (Borrowing h)) _ _ (Borrowing h) (apart_overlap (record { root = b; sels = [] }) (own_root b (local b (lends_on (is_borrower s b) fits))))
  apart_borrowed h (act.EndScope x borrower) fits writes reads = cc
  apart_borrowed h (act.Return roots) fits writes reads = cc
  apart_borrowed h (act.Actual m how owning access) fits writes reads =
      forbidden_none (breaks_O10 m how owning access (Borrowing h)) _ m (Borrowing h)
      (lent_actual h m how owning access (no_kind (m.root == n.root) (actual_writes how access) writes reads))
  apart_borrowed h (act.Global g written) fits writes reads = cc
  apart_borrowed h (act.Give m true) fits writes reads = forbidden_none (breaks_O5 m (Borrowing h)) _ m (Borrowing h) (apart_overlap m (own_root m.root fits))
  apart_borrowed h (act.Give m false) fits writes reads = forbidden_none (breaks_O6 m (Borrowing h)) _ m (Borrowing h) (apart_overlap m reads)

  pub lent_end : (l : Loan) (h x : ℕ) (borrower : Bool) → forbids (act.EndScope x borrower) (Lent l h n) ≡ None
  lent_end l h x true = refl
  lent_end l h x false = refl

-- what is lent to a view is read or written
pub lending_uses : (a : Act) (l : Loan) (h : ℕ) (m : Name) → Has (adds a) (Lent l h m) → (act_writes m.root a ≡ true) ⊎ (act_reads m.root a ≡ true)
lending_uses (act.Borrow b k) l h m (inl e) =
    inl (let same : k ≡ m = cc in ap (λ (z : Name). z.root == m.root) same ∙ eq-eqb m.root m.root refl)
lending_uses (act.Borrow b k) l h m (inr never) = absurd never
lending_uses (act.Observe b k true) l h m never = absurd never
lending_uses (act.Observe b k false) l h m (inl e) =
    inr (let same : k ≡ m = cc in ap (λ (z : Name). z.root == m.root) same ∙ eq-eqb m.root m.root refl)
lending_uses (act.Observe b k false) l h m (inr never) = absurd never
lending_uses (act.Move k parts) l h m has = absurd (no_loan k parts has)
  where
    no_loan : (k : Name) (parts : List (List Sel)) → Has (adds (act.Move k parts)) (Lent l h m) → ⊥
    no_loan k [] has = has
    no_loan k (q ∷ parts) (inl e) = cc
    no_loan k (q ∷ parts) (inr has) = no_loan k parts has
lending_uses (act.Read k) l h m never = absurd never
lending_uses (act.Look k) l h m never = absurd never
lending_uses (act.Write k) l h m never = absurd never
lending_uses (act.Reborrow b k) l h m never = absurd never
lending_uses (act.EndScope x borrower) l h m never = absurd never
lending_uses (act.Return roots) l h m never = absurd never
lending_uses (act.Actual k how owning access) l h m never = absurd never
lending_uses (act.Global g written) l h m never = absurd never
lending_uses (act.Free k) l h m never = absurd never
lending_uses (act.Give k borrows) l h m never = absurd never
