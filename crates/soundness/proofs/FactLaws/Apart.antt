-- Along acts that are allowed, facts stay apart.
use Rattle.std.proofs.Common.{◌≡◌, refl, sym, ap, ◌∙◌, subst, ◌⊎◌, inl, inr, Bool, true, false, not, ◌==◌, ℕ, List, [], ◌∷◌, ◌++◌, filter, None}
use Rattle.std.proofs.lemmas.Bool.{true≢false}
use Rattle.std.specs.Prelude.{is_some}
use Rattle.machine.specs.spark_base.Lists.{Has}
use Rattle.spark_base.proofs.Lists.{Has-append_cases, Has-filter, Has-map_from}
use Rattle.machine.specs.place_names.declared.selector.Sel.{Sel}
use Rattle.machine.specs.place_names.declared.rule.Loan.{Loan}
use Rattle.machine.specs.place_names.declared.rule.Loan.TheVariants.{Borrowed, Observed}
use Rattle.machine.specs.place_names.declared.rule.Rule.{Rule}
use Rattle.machine.specs.place_names.declared.fact.Fact.{Fact}
use Rattle.machine.specs.place_names.declared.fact.Fact.TheVariants.{Moved, Lent}
use Rattle.machine.specs.place_names.declared.act.Act.{Act}
use Rattle.machine.specs.place_names.declared.act.Act.TheVariants.{Read, Look, Write, Move, Borrow, Observe, Reborrow, EndScope, Return, Actual, Global, Free, Give}
use Rattle.machine.specs.place_names.Names.{Name, extend, is_equal, agree_along, overlaps}
use Rattle.machine.specs.place_names.Facts.{adds, removes, effect, facts_behind, facts_after}
use Rattle.machine.specs.place_names.Rules.{forbids, forbidden_if, moved_or_lent, moved_or_borrowed}
use Rattle.place_names.proofs.Names.{both_parts, both_true, overlaps-sym}
use Rattle.soundness.specs.FactLaws.Allowed.{AreAllowed}
use Rattle.soundness.specs.FactLaws.Apart.{clashes, AreApart}

-- ---- parts of places

along_longer : (m q n : List Sel) → agree_along (m ++ q) n ≡ true → agree_along m n ≡ true
along_longer [] q n e = refl
along_longer (s ∷ m) q [] e = refl
along_longer (s ∷ m) q (t ∷ n) e =
    let parts = both_parts (is_equal s t) (agree_along (m ++ q) n) e in
    both_true (is_equal s t) (agree_along m n) parts.0 (along_longer m q n parts.1)

-- a place overlaps what a part of it overlaps
part_overlaps : (m n : Name) (q : List Sel) → overlaps (extend m q) n ≡ true → overlaps m n ≡ true
part_overlaps m n q e =
    let parts = both_parts (m.root == n.root) (agree_along (m.sels ++ q) n.sels) e in
    both_true (m.root == n.root) (agree_along m.sels n.sels) parts.0 (along_longer m.sels q n.sels parts.1)

still_false : (b c : Bool) → (b ≡ true → c ≡ true) → c ≡ false → b ≡ false
still_false false c up isnt = refl
still_false true c up isnt = let is = sym (up refl) ∙ isnt in cc

-- ---- what is added clashes with no fact that allows the act

not_found : (test : Bool) (r : Rule) (m : Name) (f : Fact) → forbidden_if test r m f ≡ None → test ≡ false
not_found false r m f e = refl
not_found true r m f e = absurd (true≢false (ap is_some e))

-- neither fact clashes with the other one
abbrev Agree : Fact → Fact → Type 0
Agree f g = (clashes f g ≡ false) × (clashes g f ≡ false)

move_agrees : (m : Name) (q : List Sel) (f : Fact) → moved_or_lent m f ≡ false → Agree f (Moved (extend m q))
move_agrees m q (Moved n) apart = (refl, refl)
move_agrees m q (Lent Borrowed h n) apart =
    (refl, still_false _ _ (part_overlaps m n q) (overlaps-sym m n ∙ apart))
move_agrees m q (Lent Observed h n) apart =
    (refl, still_false _ _ (part_overlaps m n q) (overlaps-sym m n ∙ apart))

borrow_agrees : (h : ℕ) (m : Name) (f : Fact) → moved_or_lent m f ≡ false → Agree f (Lent Borrowed h m)
borrow_agrees h m (Moved n) apart = (apart, refl)
borrow_agrees h m (Lent Borrowed k n) apart = (apart, overlaps-sym m n ∙ apart)
borrow_agrees h m (Lent Observed k n) apart = (refl, overlaps-sym m n ∙ apart)

observe_agrees : (h : ℕ) (m : Name) (f : Fact) → moved_or_borrowed m f ≡ false → Agree f (Lent Observed h m)
observe_agrees h m (Moved n) apart = (apart, refl)
observe_agrees h m (Lent Borrowed k n) apart = (apart, refl)
observe_agrees h m (Lent Observed k n) apart = (refl, refl)

added_agrees : (a : Act) (f g : Fact) → forbids a f ≡ None → Has (adds a) g → Agree f g
added_agrees (Move m parts) f g allowed has =
    let part = Has-map_from (λ q. Moved (extend m q)) parts g has in
    subst (Agree f) part.2 (move_agrees m part.0 f (not_found _ _ _ _ allowed))
added_agrees (Borrow h m) f g allowed (inl e) =
    subst (Agree f) e (borrow_agrees h m f (not_found _ _ _ _ allowed))
added_agrees (Borrow h m) f g allowed (inr none) = absurd none
added_agrees (Observe h m true) f g allowed has = absurd has
added_agrees (Observe h m false) f g allowed (inl e) =
    subst (Agree f) e (observe_agrees h m f (not_found _ _ _ _ allowed))
added_agrees (Observe h m false) f g allowed (inr none) = absurd none
added_agrees (Read m) f g allowed has = absurd has
added_agrees (Look m) f g allowed has = absurd has
added_agrees (Write k) f g allowed has = absurd has
added_agrees (Reborrow b m) f g allowed has = absurd has
added_agrees (EndScope x borrower) f g allowed has = absurd has
added_agrees (Return roots) f g allowed has = absurd has
added_agrees (Actual m mode owning access) f g allowed has = absurd has
added_agrees (Global g' written) f g allowed has = absurd has
added_agrees (Free k) f g allowed has = absurd has
added_agrees (Give m borrows) f g allowed has = absurd has

-- ---- one act

-- what one act adds is apart in itself: all of it is moved, or it is one loan
added_apart : (a : Act) → AreApart (adds a)
added_apart (Move m parts) f g hf hg other =
    let one = Has-map_from (λ q. Moved (extend m q)) parts f hf in
    let two = Has-map_from (λ q. Moved (extend m q)) parts g hg in
    subst (λ x. clashes x g ≡ false) one.2 (subst (λ y. clashes (Moved (extend m one.0)) y ≡ false) two.2 refl)
added_apart (Borrow h m) f g (inl e) (inl e') other = absurd (other (sym e ∙ e'))
added_apart (Borrow h m) f g (inr none) hg other = absurd none
added_apart (Borrow h m) f g (inl e) (inr none) other = absurd none
added_apart (Observe h m true) f g hf hg other = absurd hf
added_apart (Observe h m false) f g (inl e) (inl e') other = absurd (other (sym e ∙ e'))
added_apart (Observe h m false) f g (inr none) hg other = absurd none
added_apart (Observe h m false) f g (inl e) (inr none) other = absurd none
added_apart (Read m) f g hf hg other = absurd hf
added_apart (Look m) f g hf hg other = absurd hf
added_apart (Write k) f g hf hg other = absurd hf
added_apart (Reborrow b m) f g hf hg other = absurd hf
added_apart (EndScope x borrower) f g hf hg other = absurd hf
added_apart (Return roots) f g hf hg other = absurd hf
added_apart (Actual m mode owning access) f g hf hg other = absurd hf
added_apart (Global g' written) f g hf hg other = absurd hf
added_apart (Free k) f g hf hg other = absurd hf
added_apart (Give m borrows) f g hf hg other = absurd hf

held_or_added : (a : Act) (facts : List Fact) (f : Fact) → Has (effect a facts) f → Has facts f ⊎ Has (adds a) f
held_or_added a facts f has =
    elim (Has-append_cases (filter (λ f. not (removes a f)) facts) (adds a) f has) [
      | inl kept ↦ inl ((Has-filter (λ f. not (removes a f)) facts f kept).0)
      | inr new ↦ inr new
    ]

-- an act that is allowed leaves facts apart
pub effect_apart : (a : Act) (facts : List Fact) → AreApart facts
    → ((f : Fact) → Has facts f → forbids a f ≡ None) → AreApart (effect a facts)
effect_apart a facts apart allowed f g hf hg other =
    elim (held_or_added a facts f hf) [
      | inl kf ↦ elim (held_or_added a facts g hg) [
        | inl kg ↦ apart f g kf kg other
        | inr ng ↦ (added_agrees a f g (allowed f kf) ng).0
      ]
      | inr nf ↦ elim (held_or_added a facts g hg) [
        | inl kg ↦ (added_agrees a g f (allowed g kg) nf).1
        | inr ng ↦ added_apart a f g nf ng other
      ]
    ]

-- ---- acts in order

pub behind_apart : (facts : List Fact) (acts : List Act) → AreApart facts
    → ((front : List Act) (a : Act) (rest : List Act) → acts ≡ front ++ a ∷ rest
    → (f : Fact) → Has (facts_behind facts front) f → forbids a f ≡ None)
    → AreApart (facts_behind facts acts)
behind_apart facts [] apart allowed = apart
behind_apart facts (a ∷ acts) apart allowed =
    behind_apart (effect a facts) acts (effect_apart a facts apart (allowed [] a acts refl))
    (λ front b rest split. allowed (a ∷ front) b rest (ap (λ more. a ∷ more) split))

pub allowed_apart : (acts : List Act) → AreAllowed acts → AreApart (facts_after acts)
allowed_apart acts allowed = behind_apart [] acts (λ f g none. absurd none) allowed

-- ---- in other words

-- no moved place overlaps one that is lent
pub moved_apart : (facts : List Fact) → AreApart facts → (m n : Name) (l : Loan) (h : ℕ)
    → Has facts (Moved m) → Has facts (Lent l h n) → overlaps m n ≡ false
moved_apart facts apart m n l h moved lent = apart (Moved m) (Lent l h n) moved lent (λ e. cc)

-- no borrowed place overlaps one that is lent to another holder
pub holders_apart : (facts : List Fact) → AreApart facts → (n m : Name) (l : Loan) (h k : ℕ) → (h ≡ k → ⊥)
    → Has facts (Lent Borrowed h n) → Has facts (Lent l k m) → overlaps n m ≡ false
holders_apart facts apart n m l h k other borrowed lent =
    apart (Lent Borrowed h n) (Lent l k m) borrowed lent (λ e. other cc)
