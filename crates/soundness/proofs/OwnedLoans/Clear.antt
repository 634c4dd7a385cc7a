-- Along allowed acts nothing that was moved is lent, and what one object has borrowed is lent to no
-- other one.
use Rattle.std.proofs.Common.{◌≡◌, refl, sym, ap, ◌∙◌, subst, ◌⊎◌, inl, inr, ℕ, Bool, true, false, not, ◌==◌, List, [], ◌∷◌, ◌++◌, None}
use Rattle.std.specs.List.{filter}
use Rattle.std.proofs.lemmas.Bool.{false≢true}
use Rattle.machine.specs.spark_base.Lists.{Has}
use Rattle.spark_base.proofs.Lists.{Has-append_cases, Has-filter, Has-map_from}
use Rattle.machine.specs.place_names.declared.selector.Sel.{Sel}
use Rattle.machine.specs.place_names.declared.rule.Rule.{Rule}
use Rattle.machine.specs.place_names.declared.rule.Rule.TheVariants.{O4, O5, O6}
use Rattle.machine.specs.place_names.declared.rule.Loan.{Loan}
use Rattle.machine.specs.place_names.declared.rule.Loan.TheVariants.{Borrowed, Observed}
use Rattle.machine.specs.place_names.Names.{Name, is_equal, extend, agree_along, overlaps}
use Rattle.place_names.proofs.Names.{both_parts, both_true, overlaps-sym}
use Rattle.machine.specs.place_names.declared.act.Act.{Act}
use Rattle.machine.specs.place_names.declared.act.Act.TheVariants.{Read, Look, Write, Move, Borrow, Observe, Reborrow, EndScope, Return, Actual, Global, Free, Give}
use Rattle.machine.specs.place_names.declared.fact.Fact.{Fact}
use Rattle.machine.specs.place_names.declared.fact.Fact.TheVariants.{Moved, Lent}
use Rattle.machine.specs.place_names.Facts.{adds, removes, effect}
use Rattle.machine.specs.place_names.Rules.{forbidden_if, moved_or_borrowed, moved_or_lent}
use Rattle.soundness.specs.OwnedWays.Ways.{Allows}
use Rattle.soundness.specs.OwnedLoans.Views.{AreClear}
use Rattle.soundness.proofs.Constructors.{is_moved_fact, is_observed_loan}
use Rattle.soundness.proofs.Parted.{by_either}

-- a test that succeeds forbids
pub refused : (b : Bool) (r : Rule) (m : Name) (f : Fact) → b ≡ true → forbidden_if b r m f ≡ None → ⊥
refused true r m f e none = cc
refused false r m f e none = absurd (false≢true e)

agree_longer : (a q b : List Sel) → agree_along (a ++ q) b ≡ true → agree_along a b ≡ true
agree_longer [] q b e = refl
agree_longer (s ∷ a) q [] e = refl
agree_longer (s ∷ a) q (t ∷ b) e =
    let parts = both_parts (is_equal s t) (agree_along (a ++ q) b) e in both_true (is_equal s t) (agree_along a b) parts.0 (agree_longer a q b parts.1)

-- what overlaps a part overlaps the whole
pub overlaps_whole : (m n : Name) (q : List Sel) → overlaps (extend m q) n ≡ true → overlaps n m ≡ true
overlaps_whole m n q e =
    let parts = both_parts (m.root == n.root) (agree_along (m.sels ++ q) n.sels) e in
    overlaps-sym n m ∙ both_true (m.root == n.root) (agree_along m.sels n.sels) parts.0 (agree_longer m.sels q n.sels parts.1)

-- a fact after an act was there, or is new
pub before_or_new : (a : Act) (facts : List Fact) (f : Fact) → Has (effect a facts) f → Has facts f ⊎ Has (adds a) f
before_or_new a facts f h = elim (Has-append_cases (filter (λ g. not (removes a g)) facts) (adds a) f h) [
  | inl old ↦ inl (Has-filter (λ g. not (removes a g)) facts f old).0
  | inr new ↦ inr new
]

pub nothing_new : (observer : ℕ → Bool) (facts facts' : List Fact) → ((f : Fact) → Has facts' f → Has facts f) → AreClear observer facts → AreClear observer facts'
nothing_new observer facts facts' old clear = record {
  moved = λ l h n m a b. clear.moved l h n m (old (Moved n) a) (old (Lent l h m) b);
  lent = λ b h n m x y. clear.lent b h n m (old (Lent Borrowed b n) x) (old (Lent Borrowed h m) y);
  seen = λ b h n m x y. clear.seen b h n m (old (Lent Borrowed b n) x) (old (Lent Observed h m) y);
  owned = λ n a. clear.owned n (old (Moved n) a);
}

only_before : (a : Act) (facts : List Fact) → adds a ≡ [] → (f : Fact) → Has (effect a facts) f → Has facts f
only_before a facts none f h = elim (before_or_new a facts f h) [ inl old ↦ old | inr new ↦ absurd (subst (λ z. Has z f) none new) ]

moved_is : (m n : Name) → Moved m ≡ Moved n → m ≡ n
moved_is m n e = cc

the_loan : (l k : Loan) (b h : ℕ) (m n : Name) → Lent l b m ≡ Lent k h n → (l ≡ k) × (b ≡ h) × (m ≡ n)
the_loan l k b h m n e = (cc, cc, cc)

module _ (observer : ℕ → Bool) (facts : List Fact) (clear : AreClear observer facts) where
  pub clear_same : (a : Act) → adds a ≡ [] → AreClear observer (effect a facts)
  clear_same a none = nothing_new observer facts (effect a facts) (only_before a facts none) clear

  moved_name : (m : Name) (parts : List (List Sel)) (f : Fact) → Has (adds (Move m parts)) f → (q : List Sel) × (f ≡ Moved (extend m q))
  moved_name m parts f h = let found = Has-map_from (λ q. Moved (extend m q)) parts f h in (found.0, sym found.2)

  no_loan : (m : Name) (parts : List (List Sel)) (l : Loan) (h : ℕ) (n : Name) → Has (adds (Move m parts)) (Lent l h n) → ⊥
  no_loan m parts l h n new = let found = moved_name m parts (Lent l h n) new in let is = found.1 in cc

  pub clear_move : (m : Name) (parts : List (List Sel)) → observer m.root ≡ false → Allows facts (Move m parts) → AreClear observer (effect (Move m parts) facts)
  clear_move m parts plain allowed = record {
    moved = λ l h n k a b over. by_either (before_or_new (Move m parts) facts (Lent l h k) b)
        (λ lent. (by_either (before_or_new (Move m parts) facts (Moved n) a)
        (λ old. (clear.moved l h n k old lent over))
        (λ new. (let found = moved_name m parts (Moved n) new in
        let is = moved_is n (extend m found.0) found.1 in
        refused (moved_or_lent m (Lent l h k)) O4 m (Lent l h k) (overlaps_whole m k found.0 (subst (λ z. overlaps z k ≡ true) is over))
        (allowed (Lent l h k) lent)))))
        (λ new. (absurd (no_loan m parts l h k new)));
    lent = λ b h n k x y. by_either (before_or_new (Move m parts) facts (Lent Borrowed b n) x)
        (λ one. (by_either (before_or_new (Move m parts) facts (Lent Borrowed h k) y) (λ two. (clear.lent b h n k one two)) (λ new. (absurd (no_loan m parts Borrowed h k new)))))
        (λ new. (absurd (no_loan m parts Borrowed b n new)));
    seen = λ b h n k x y. by_either (before_or_new (Move m parts) facts (Lent Borrowed b n) x)
        (λ one. (by_either (before_or_new (Move m parts) facts (Lent Observed h k) y) (λ two. (clear.seen b h n k one two)) (λ new. (absurd (no_loan m parts Observed h k new)))))
        (λ new. (absurd (no_loan m parts Borrowed b n new)));
    owned = λ n a. by_either (before_or_new (Move m parts) facts (Moved n) a)
        (λ old. (clear.owned n old))
        (λ new. (let found = moved_name m parts (Moved n) new in
        let is = moved_is n (extend m found.0) found.1 in
        ap observer (ap (λ (z : Name). z.root) is) ∙ plain));
  }

  not_moved : (l : Loan) (b : ℕ) (m n : Name) → Lent l b m ≡ Moved n → ⊥
  not_moved l b m n e = absurd (false≢true (ap is_moved_fact e))

  borrowed_observed : Borrowed ≡ Observed → ⊥
  borrowed_observed e = absurd (false≢true (ap is_observed_loan e))

  pub clear_borrow : (x : ℕ) (m : Name) → Allows facts (Borrow x m) → AreClear observer (effect (Borrow x m) facts)
  clear_borrow x m allowed = record {
    moved = λ l h n k a b over. by_either (before_or_new (Borrow x m) facts (Moved n) a)
        (λ old. (by_either (before_or_new (Borrow x m) facts (Lent l h k) b)
        (λ lent. (clear.moved l h n k old lent over))
        (λ new. (by_either new
        (λ is. (let same = the_loan Borrowed l x h m k is in
        refused (moved_or_lent m (Moved n)) O5 m (Moved n) (subst (λ z. overlaps n z ≡ true) (sym same.2) over) (allowed (Moved n) old)))
        (λ none. (absurd none))))))
        (λ new. (by_either new (λ is. (absurd (not_moved Borrowed x m n is))) (λ none. (absurd none))));
    lent = λ b h n k one two differ over. by_either (before_or_new (Borrow x m) facts (Lent Borrowed b n) one)
        (λ old. (by_either (before_or_new (Borrow x m) facts (Lent Borrowed h k) two)
        (λ lent. (clear.lent b h n k old lent differ over))
        (λ new. (by_either new
        (λ is. (let same = the_loan Borrowed Borrowed x h m k is in
        refused (moved_or_lent m (Lent Borrowed b n)) O5 m (Lent Borrowed b n) (subst (λ z. overlaps n z ≡ true) (sym same.2) over)
        (allowed (Lent Borrowed b n) old)))
        (λ none. (absurd none))))))
        (λ new. (by_either new
        (λ is. (let same = the_loan Borrowed Borrowed x b m n is in by_either (before_or_new (Borrow x m) facts (Lent Borrowed h k) two)
        (λ lent. (refused (moved_or_lent m (Lent Borrowed h k)) O5 m (Lent Borrowed h k)
        (overlaps-sym k m ∙ subst (λ z. overlaps z k ≡ true) (sym same.2) over) (allowed (Lent Borrowed h k) lent)))
        (λ more. (by_either more (λ also. (let other = the_loan Borrowed Borrowed x h m k also in absurd (differ (sym same.1 ∙ other.1)))) (λ none. (absurd none))))))
        (λ none. (absurd none))));
    seen = λ b h n k one two over. by_either (before_or_new (Borrow x m) facts (Lent Observed h k) two)
        (λ lent. (by_either (before_or_new (Borrow x m) facts (Lent Borrowed b n) one)
        (λ old. (clear.seen b h n k old lent over))
        (λ new. (by_either new
        (λ is. (let same = the_loan Borrowed Borrowed x b m n is in
        refused (moved_or_lent m (Lent Observed h k)) O5 m (Lent Observed h k)
        (overlaps-sym k m ∙ subst (λ z. overlaps z k ≡ true) (sym same.2) over) (allowed (Lent Observed h k) lent)))
        (λ none. (absurd none))))))
        (λ new. (by_either new (λ is. (absurd (borrowed_observed (the_loan Borrowed Observed x h m k is).0))) (λ none. (absurd none))));
    owned = λ n a. by_either (before_or_new (Borrow x m) facts (Moved n) a) (λ old. (clear.owned n old)) (λ new. (by_either new (λ is. (absurd (not_moved Borrowed x m n is))) (λ none. (absurd none))));
  }

  clear_new_observe : (x : ℕ) (m : Name) → Allows facts (Observe x m false) → AreClear observer (effect (Observe x m false) facts)
  clear_new_observe x m allowed = record {
    moved = λ l h n k a b over. by_either (before_or_new (Observe x m false) facts (Moved n) a)
        (λ old. (by_either (before_or_new (Observe x m false) facts (Lent l h k) b)
        (λ lent. (clear.moved l h n k old lent over))
        (λ new. (by_either new
        (λ is. (let same = the_loan Observed l x h m k is in
        refused (moved_or_borrowed m (Moved n)) O6 m (Moved n) (subst (λ z. overlaps n z ≡ true) (sym same.2) over) (allowed (Moved n) old)))
        (λ none. (absurd none))))))
        (λ new. (by_either new (λ is. (absurd (not_moved Observed x m n is))) (λ none. (absurd none))));
    lent = λ b h n k one two. by_either (before_or_new (Observe x m false) facts (Lent Borrowed b n) one)
        (λ old. (by_either (before_or_new (Observe x m false) facts (Lent Borrowed h k) two)
        (λ lent. (clear.lent b h n k old lent))
        (λ new. (by_either new (λ is. (absurd (borrowed_observed (sym (the_loan Observed Borrowed x h m k is).0)))) (λ none. (absurd none))))))
        (λ new. (by_either new (λ is. (absurd (borrowed_observed (sym (the_loan Observed Borrowed x b m n is).0)))) (λ none. (absurd none))));
    seen = λ b h n k one two over. by_either (before_or_new (Observe x m false) facts (Lent Borrowed b n) one)
        (λ old. (by_either (before_or_new (Observe x m false) facts (Lent Observed h k) two)
        (λ lent. (clear.seen b h n k old lent over))
        (λ new. (by_either new
        (λ is. (let same = the_loan Observed Observed x h m k is in
        refused (moved_or_borrowed m (Lent Borrowed b n)) O6 m (Lent Borrowed b n) (subst (λ z. overlaps n z ≡ true) (sym same.2) over)
        (allowed (Lent Borrowed b n) old)))
        (λ none. (absurd none))))))
        (λ new. (by_either new (λ is. (absurd (borrowed_observed (sym (the_loan Observed Borrowed x b m n is).0)))) (λ none. (absurd none))));
    owned = λ n a. by_either (before_or_new (Observe x m false) facts (Moved n) a) (λ old. (clear.owned n old)) (λ new. (by_either new (λ is. (absurd (not_moved Observed x m n is))) (λ none. (absurd none))));
  }

  pub clear_observe : (x : ℕ) (m : Name) (seen : Bool) → Allows facts (Observe x m seen) → AreClear observer (effect (Observe x m seen) facts)
  clear_observe x m true allowed = clear_same (Observe x m true) refl
  clear_observe x m false allowed = clear_new_observe x m allowed

  -- What is moved isn't rooted in an observer.
  abbrev pub Spared : Act → Type 0
  Spared (Move m parts) = observer m.root ≡ false
  Spared _ = Unit {0}

  pub clear_after : (a : Act) → Spared a → Allows facts a → AreClear observer (effect a facts)
  clear_after (Read m) spared allowed = clear_same (Read m) refl
  clear_after (Look m) spared allowed = clear_same (Look m) refl
  clear_after (Write k) spared allowed = clear_same (Write k) refl
  clear_after (Move m parts) spared allowed = clear_move m parts spared allowed
  clear_after (Borrow h m) spared allowed = clear_borrow h m allowed
  clear_after (Observe h m seen) spared allowed = clear_observe h m seen allowed
  clear_after (Reborrow b m) spared allowed = clear_same (Reborrow b m) refl
  clear_after (EndScope x borrower) spared allowed = clear_same (EndScope x borrower) refl
  clear_after (Return roots) spared allowed = clear_same (Return roots) refl
  clear_after (Actual m mode owning access) spared allowed = clear_same (Actual m mode owning access) refl
  clear_after (Global g written) spared allowed = clear_same (Global g written) refl
  clear_after (Free k) spared allowed = clear_same (Free k) refl
  clear_after (Give m borrows) spared allowed = clear_same (Give m borrows) refl
