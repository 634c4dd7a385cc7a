-- An act leaves the facts that it doesn't touch, and they don't forbid it.
use Rattle.std.proofs.Common.{◌≡◌, refl, sym, ap, ◌∙◌, ℕ, Bool, true, false, not, ◌&&◌, ◌||◌, ◌==◌, length, nat_lt, None, eq-eqb, ne_eqb}
use Rattle.place_names.specs.declared.act.Mode.TheVariants.{In, Out, InOut}
use Rattle.place_names.specs.declared.rule.Loan.{Loan}
use Rattle.place_names.specs.declared.rule.Loan.TheVariants.{Borrowed, Observed}
use Rattle.place_names.specs.declared.rule.Rule.{Rule}
use Rattle.place_names.specs.declared.rule.Rule.TheVariants.{O1, O2, O3, O4, O5, O6, O7, O8, O10, O11, O14}
use Rattle.place_names.specs.declared.fact.Fact.{Fact}
use Rattle.place_names.specs.declared.fact.Fact.TheVariants.{Moved, Lent}
use Rattle.place_names.specs.declared.act.Act.{Act}
use Rattle.place_names.specs.declared.act.Act.TheVariants.{Read, Look, Write, Move, Borrow, Observe, Reborrow, EndScope, Return, Actual, Global, Free, Give}
use Rattle.place_names.specs.Names.{Name, object, agree_along, agrees_whole, overlaps, leads_to, begins, has_elem, covers, is_same, is_equal}
use Rattle.place_names.specs.Facts.{place, is_same_loan, is_added, removes, holds_behind}
use Rattle.place_names.specs.Rules.{forbidden_if, forbids, moved_or_borrowed, moved_or_lent, lent, moved_above, borrowed_above, breaks_O2, breaks_O3, breaks_O8, breaks_O14}
use Rattle.place_names.proofs.Rules.{any_breaks_O2}
use Rattle.std.specs.Cmp.Lexicographic.{pointwise}
use Rattle.state_trees.specs.Concerns.{concerns, touches}
use Rattle.state_trees.proofs.Parts.{any_moved, none_elsewhere, none_lent}

or_left : (a b : Bool) → a || b ≡ false → a ≡ false
or_left true b e = e
or_left false b e = refl

or_right : (a b : Bool) → a || b ≡ false → b ≡ false
or_right true b e = cc
or_right false b e = e

turned : (x y : ℕ) → (x == y) ≡ false → (y == x) ≡ false
turned x y e = ne_eqb y x (λ is. differ (sym e ∙ eq-eqb x y (sym is)))
  where
    differ : false ≡ true → ⊥
    differ t = cc

-- the place of a fact that doesn't concern an object is rooted in another one
elsewhere : (x : ℕ) (f : Fact) → concerns x f ≡ false → ((place f).root == x) ≡ false
elsewhere x (Moved n) e = e
elsewhere x (Lent l h n) e = or_left (n.root == x) (h == x) e

-- ---- what holds

no_loan : (a b : Bool) → ((a && (b && false)) || false) ≡ false
no_loan true true = refl
no_loan true false = refl
no_loan false b = refl

added_elsewhere : (a : Loan) (h : ℕ) (l : Loan) (g : ℕ) (m n : Name) → (n.root == m.root) ≡ false
    → ((is_same_loan a l && ((h == g) && is_same m n)) || false) ≡ false
added_elsewhere a h l g m n e =
    ap (λ b. (is_same_loan a l && ((h == g) && (b && pointwise is_equal m.sels n.sels))) || false) (turned n.root m.root e)
    ∙ no_loan (is_same_loan a l) (h == g)

not_added : (a : Act) (f : Fact) → touches a f ≡ false → is_added a f ≡ false
not_added (Read m) f e = refl
not_added (Look m) f e = refl
not_added (Write k) f e = refl
not_added (Move m parts) (Moved n) e = sym (none_elsewhere m n parts (turned n.root m.root e) ∙ any_moved m n parts)
not_added (Move m parts) (Lent l h n) e = sym (none_lent m l h n parts)
not_added (Borrow h m) (Moved n) e = refl
not_added (Borrow h m) (Lent l g n) e = added_elsewhere Borrowed h l g m n (or_left (n.root == m.root) (g == m.root) e)
not_added (Observe h m true) f e = refl
not_added (Observe h m false) (Moved n) e = refl
not_added (Observe h m false) (Lent l g n) e = added_elsewhere Observed h l g m n (or_left (n.root == m.root) (g == m.root) e)
not_added (Reborrow b m) f e = refl
not_added (EndScope x borrower) f e = refl
not_added (Return roots) f e = refl
not_added (Actual m mode owning access) f e = refl
not_added (Global g written) f e = refl
not_added (Free k) f e = refl
not_added (Give m borrows) f e = refl

not_covered : (k n : Name) → (n.root == k.root) ≡ false → covers k n ≡ false
not_covered k n e = ap (λ b. (b && begins k.sels n.sels) && not (has_elem k.sels)) (turned n.root k.root e)

not_removed : (a : Act) (f : Fact) → touches a f ≡ false → removes a f ≡ false
not_removed (Read m) f e = refl
not_removed (Look m) f e = refl
not_removed (Write k) (Moved n) e = not_covered k n e
not_removed (Write k) (Lent l h n) e = refl
not_removed (Move m parts) f e = refl
not_removed (Borrow h m) f e = refl
not_removed (Observe h m from_observer) f e = refl
not_removed (Reborrow b m) f e = refl
not_removed (EndScope x borrower) (Moved n) e = e
not_removed (EndScope x borrower) (Lent l h n) e = or_right (n.root == x) (h == x) e
not_removed (Return roots) f e = refl
not_removed (Actual m In owning access) f e = refl
not_removed (Actual m Out owning access) (Moved n) e = not_covered m n e
not_removed (Actual m Out owning access) (Lent l h n) e = refl
not_removed (Actual m InOut owning access) f e = refl
not_removed (Global g written) f e = refl
not_removed (Free k) (Moved n) e = not_covered k n e
not_removed (Free k) (Lent l h n) e = refl
not_removed (Give m borrows) f e = refl

left_as_it_was : (held : Bool) → (false || (held && not false)) ≡ held
left_as_it_was true = refl
left_as_it_was false = refl

pub untouched_left : (a : Act) (f : Fact) (held : Bool) → touches a f ≡ false → holds_behind a f held ≡ held
untouched_left a f held e = (λ t. not_added a f e t || (held && not (not_removed a f e t))) ∙ left_as_it_was held

-- ---- what is forbidden

-- a name overlaps no place that is rooted elsewhere
no_overlap : (n m : Name) → (n.root == m.root) ≡ false → overlaps n m ≡ false
no_overlap n m e = ap (λ b. b && agree_along n.sels m.sels) e

no_lead : (n m : Name) → (n.root == m.root) ≡ false → leads_to n m ≡ false
no_lead n m e = ap (λ b. b && agrees_whole n.sels m.sels) e

no_moved_or_borrowed : (m : Name) (f : Fact) → ((place f).root == m.root) ≡ false → moved_or_borrowed m f ≡ false
no_moved_or_borrowed m (Moved n) e = no_overlap n m e
no_moved_or_borrowed m (Lent Borrowed h n) e = no_overlap n m e
no_moved_or_borrowed m (Lent Observed h n) e = refl

no_moved_or_lent : (m : Name) (f : Fact) → ((place f).root == m.root) ≡ false → moved_or_lent m f ≡ false
no_moved_or_lent m f e = no_overlap (place f) m e

no_lent : (m : Name) (f : Fact) → ((place f).root == m.root) ≡ false → lent m f ≡ false
no_lent m (Moved n) e = refl
no_lent m (Lent l h n) e = no_overlap n m e

no_moved_above : (m : Name) (f : Fact) → ((place f).root == m.root) ≡ false → moved_above m f ≡ false
no_moved_above m (Moved n) e = no_lead n m e
no_moved_above m (Lent l h n) e = refl

no_borrowed_above : (m : Name) (f : Fact) → ((place f).root == m.root) ≡ false → borrowed_above m f ≡ false
no_borrowed_above m (Moved n) e = refl
no_borrowed_above m (Lent Borrowed h n) e = no_lead n m e
no_borrowed_above m (Lent Observed h n) e = refl

no_O2 : (m : Name) (f : Fact) → ((place f).root == m.root) ≡ false → breaks_O2 m f ≡ false
no_O2 m f e = λ t. no_moved_above m f e t || no_borrowed_above m f e t

no_O3 : (k : Name) (f : Fact) → ((place f).root == k.root) ≡ false → breaks_O3 k f ≡ false
no_O3 k f e =
    let shorter = nat_lt (length (place f).sels) (length k.sels) in
    ap (λ b. b || lent k f) (any_breaks_O2 k f ∙ ap (λ b. b && shorter) (no_O2 k f e)) ∙ no_lent k f e

no_O8 : (x : ℕ) (borrower : Bool) (f : Fact) → ((place f).root == x) ≡ false → breaks_O8 x borrower f ≡ false
no_O8 x true (Moved n) e = ap (λ b. b || false) (turned n.root x e)
no_O8 x true (Lent l h n) e = refl
no_O8 x false f e = refl

no_O14 : (k : Name) (f : Fact) → ((place f).root == k.root) ≡ false → breaks_O14 k f ≡ false
no_O14 k f e = λ t. no_moved_above k f e t || no_lent k f e t

not_forbidden : (test : Bool) (r : Rule) (m : Name) (f : Fact) → test ≡ false → forbidden_if test r m f ≡ None
not_forbidden test r m f e = ap (λ b. forbidden_if b r m f) e

pub untouched_allowed : (a : Act) (f : Fact) → touches a f ≡ false → forbids a f ≡ None
untouched_allowed (Read m) f e = not_forbidden _ O1 m f (no_moved_or_borrowed m f (elsewhere m.root f e))
untouched_allowed (Look m) f e = not_forbidden _ O2 m f (no_O2 m f (elsewhere m.root f e))
untouched_allowed (Write k) f e = not_forbidden _ O3 k f (no_O3 k f (elsewhere k.root f e))
untouched_allowed (Move m parts) f e = not_forbidden _ O4 m f (no_moved_or_lent m f (elsewhere m.root f e))
untouched_allowed (Borrow h m) f e = not_forbidden _ O5 m f (no_moved_or_lent m f (elsewhere m.root f e))
untouched_allowed (Observe h m from_observer) f e = not_forbidden _ O6 m f (no_moved_or_borrowed m f (elsewhere m.root f e))
untouched_allowed (Reborrow b m) f e = not_forbidden _ O7 (object b) f (no_moved_or_lent (object b) f (elsewhere b f e))
untouched_allowed (EndScope x borrower) f e = not_forbidden _ O8 (place f) f (no_O8 x borrower f (elsewhere x f e))
untouched_allowed (Return roots) f e = cc
untouched_allowed (Actual m In owning true) f e = not_forbidden _ O10 m f (no_moved_or_lent m f (elsewhere m.root f e))
untouched_allowed (Actual m In true false) f e = not_forbidden _ O10 m f (no_moved_or_borrowed m f (elsewhere m.root f e))
untouched_allowed (Actual m In false false) f e = refl
untouched_allowed (Actual m Out owning access) f e = not_forbidden _ O10 m f (no_O3 m f (elsewhere m.root f e))
untouched_allowed (Actual m InOut true access) f e = not_forbidden _ O10 m f (no_moved_or_lent m f (elsewhere m.root f e))
untouched_allowed (Actual m InOut false access) f e =
    not_forbidden _ O10 m f (λ t. no_moved_or_borrowed m f (elsewhere m.root f e) t || no_O3 m f (elsewhere m.root f e) t)
untouched_allowed (Global g true) f e = not_forbidden _ O11 (object g) f (no_moved_or_lent (object g) f (elsewhere g f e))
untouched_allowed (Global g false) f e = not_forbidden _ O11 (object g) f (no_moved_or_borrowed (object g) f (elsewhere g f e))
untouched_allowed (Free k) f e = not_forbidden _ O14 k f (no_O14 k f (elsewhere k.root f e))
untouched_allowed (Give m true) f e = not_forbidden _ O5 m f (no_moved_or_lent m f (elsewhere m.root f e))
untouched_allowed (Give m false) f e = not_forbidden _ O6 m f (no_moved_or_borrowed m f (elsewhere m.root f e))

-- ---- what isn't among the facts that an act touches

contrary : (t b : Bool) → (t ≡ true → b ≡ true) → b ≡ false → t ≡ false
contrary true b h e = (let is = h refl in cc)
contrary false b h e = refl

pub not_asked : (a : Act) (asked : Fact → Bool) → ((f : Fact) → touches a f ≡ true → asked f ≡ true) → (f : Fact) → asked f ≡ false → touches a f ≡ false
not_asked a asked all f e = contrary (touches a f) (asked f) (all f) e
