-- A move keeps the state well owned, and what names find gone known.
use Rattle.std.proofs.Common.{◌≡◌, refl, sym, ap, ◌∙◌, subst, ◌⊎◌, inl, inr, ℕ, Bool, true, false, List, [], ◌∷◌, ◌<◌}
use Rattle.soundness.specs.OwnedWays.Ways.{Step, Loc, OfCell, Inside, Way, Object, Lost, Into, All, Gone, Held, View, part, along, Below, Reaches, IsRooted, Under, Past, Owned, Covered, Known, IsMove}
use Rattle.soundness.proofs.OwnedWays.Locations.{below, under_itself, under_along, named_along, named_under, past_under, not_past, reaches_along, same_part, unpart}
use Rattle.soundness.proofs.OwnedWays.Unique.{one_location, one_way}
use Rattle.soundness.proofs.Parted.{by_either}

-- what a move is given: ways to both places, neither of which begins the other
pub record Given (s t : View) (f k : Way) (from to : Loc) : Type 0 where
  pub owned : Owned s
  pub move : IsMove s t from to
  pub source : Reaches s f from
  pub target : Reaches s k to
  pub apart : Under f k → ⊥
  pub aside : Under k f → ⊥

-- no part of one place is a part of the other
pub parts_apart : (s : View) (f k : Way) (from to : Loc) → Owned s → Reaches s f from → Reaches s k to
    → (Under f k → ⊥) → (Under k f → ⊥) → (p q : List Step) → part from p ≡ part to q → ⊥
parts_apart s f k from to o source target apart aside [] q e =
    let same = one_way s o f (along k q) from source (subst (Reaches s (along k q)) (sym e) (reaches_along s k to q target)) in
    aside (subst (Under k) (sym same) (under_along k k q (under_itself k)))
parts_apart s f k from to o source target apart aside (i ∷ p) [] e =
    let same = one_way s o k (along f (i ∷ p)) to target (subst (Reaches s (along f (i ∷ p))) e (reaches_along s f from (i ∷ p) source)) in
    apart (subst (Under f) (sym same) (under_along f f (i ∷ p) (under_itself f)))
parts_apart s f k from to o source target apart aside (i ∷ p) (j ∷ q) e =
    parts_apart s f k from to o source target apart aside p q (unpart (part from p) (part to q) i j e)

disjoint : (s t : View) (f k : Way) (from to : Loc) → Given s t f k from to
    → (p q : List Step) → part from p ≡ part to q → ⊥
disjoint s t f k from to g p q e = parts_apart s f k from to g.owned g.source g.target g.apart g.aside p q e

-- an owner after the move stands at the target, or where it stood before
pub record Stays (s : View) (from to l : Loc) (n : ℕ) : Type 0 where
  pub word : s.word l ≡ Held n
  pub off_to : Below to l → ⊥
  pub off_from : Below from l → ⊥

pub owner_before : (s t : View) (from to : Loc) → IsMove s t from to → (l : Loc) (n : ℕ) → t.word l ≡ Held n
    → ((p : List Step) × (l ≡ part to p) × (s.word (part from p) ≡ Held n)) ⊎ Stays s from to l n
owner_before s t from to m l n h = elim (below to l) [
  | inl b ↦ inl (b.0, b.1, sym (m.comes b.0) ∙ subst (λ x. t.word x ≡ Held n) b.1 h)
  | inr off ↦ elim (below from l) [
    | inl b ↦ absurd (m.goes b.0 n (subst (λ x. t.word x ≡ Held n) b.1 h))
    | inr away ↦ inr (record { word = sym (m.off l off away) ∙ h; off_to = off; off_from = away })
  ]
]

-- a way that goes through neither place reaches what it reached
pub keeps : (s t : View) (f k : Way) (from to : Loc) → Given s t f k from to
    → (w : Way) (l : Loc) → Reaches s w l → (Past f w → ⊥) → (Past k w → ⊥) → Reaches t w l
keeps s t f k from to g (Object x) l r a b = r
keeps s t f k from to g (Lost n) l r a b = (g.move.keeps n r.0, r.1)
keeps s t f k from to g (Into w i) l (m, r, e) a b = (m, keeps s t f k from to g w m r a b, e)
keeps s t f k from to g (All w) l (m, n, r, h, e) a b =
    let off : Below to m → ⊥ = λ x. (
    let same = one_way s g.owned w (along k x.0) m r (subst (Reaches s (along k x.0)) (sym x.1) (reaches_along s k to x.0 g.target)) in
    b (subst (Under k) (sym same) (under_along k k x.0 (under_itself k)))) in
    let away : Below from m → ⊥ = λ x. (
    let same = one_way s g.owned w (along f x.0) m r (subst (Reaches s (along f x.0)) (sym x.1) (reaches_along s f from x.0 g.source)) in
    a (subst (Under f) (sym same) (under_along f f x.0 (under_itself f)))) in
    (m, n, keeps s t f k from to g w m r (λ x. a (past_under f w x)) (λ x. b (past_under k w x)), g.move.off m off away ∙ h, e)

pub target_there : (s t : View) (f k : Way) (from to : Loc) → Given s t f k from to → Reaches t k to
target_there s t f k from to g = keeps s t f k from to g k to g.target (λ x. g.apart (past_under f k x)) (not_past k [])

pub source_there : (s t : View) (f k : Way) (from to : Loc) → Given s t f k from to → Reaches t f from
source_there s t f k from to g = keeps s t f k from to g f from g.source (not_past f []) (λ x. g.aside (past_under k f x))

-- ---- the state stays well owned

owner_kept : (s t : View) (f k : Way) (from to : Loc) → Given s t f k from to → (l : Loc) (n : ℕ)
    → t.word l ≡ Held n → t.leaked n ≡ true → ⊥
owner_kept s t f k from to g l n h leaks = elim (owner_before s t from to g.move l n h) [
  | inl x ↦ elim (g.move.only n leaks) [
    | inl old ↦ (let kept = g.owned.kept (part from x.0) n x.2 in cc)
    | inr y ↦ disjoint s t f k from to g x.0 y.0 (g.owned.unique (part from x.0) (part to y.0) n x.2 y.1)
  ]
  | inr x ↦ elim (g.move.only n leaks) [
    | inl old ↦ (let kept = g.owned.kept l n x.word in cc)
    | inr y ↦ x.off_to (y.0, g.owned.unique l (part to y.0) n x.word y.1)
  ]
]

is_false : (b : Bool) → (b ≡ true → ⊥) → b ≡ false
is_false true e = absurd (e refl)
is_false false e = refl

pub owned_after : (s t : View) (f k : Way) (from to : Loc) → Given s t f k from to → Owned t
owned_after s t f k from to g = record {
  unique = λ l m n a b. by_either (owner_before s t from to g.move l n a)
      (λ x. (by_either (owner_before s t from to g.move m n b)
      (λ y. (x.1 ∙ same_part from to x.0 y.0 (g.owned.unique (part from x.0) (part from y.0) n x.2 y.2) ∙ sym y.1))
      (λ y. (absurd (y.off_from (x.0, g.owned.unique m (part from x.0) n y.word x.2))))))
      (λ x. (by_either (owner_before s t from to g.move m n b) (λ y. (absurd (x.off_from (y.0, g.owned.unique l (part from y.0) n x.word y.2)))) (λ y. (g.owned.unique l m n x.word y.word))));
  live = λ l n h. by_either (owner_before s t from to g.move l n h) (λ x. (g.move.freed n ∙ g.owned.live (part from x.0) n x.2)) (λ x. (g.move.freed n ∙ g.owned.live l n x.word));
  within = λ l n h. by_either (owner_before s t from to g.move l n h)
      (λ x. (subst (λ z. n < z) (sym g.move.made) (g.owned.within (part from x.0) n x.2)))
      (λ x. (subst (λ z. n < z) (sym g.move.made) (g.owned.within l n x.word)));
  kept = λ l n h. is_false (t.leaked n) (λ e. owner_kept s t f k from to g l n h e);
  counted = λ n e. subst (λ z. n < z) (sym g.move.made) (by_either (g.move.only n e) (λ old. (g.owned.counted n old)) (λ x. (g.owned.within (part to x.0) n x.1)));
}

-- what is reached and stands apart is still reached
still : (s t : View) (f k : Way) (from to : Loc) → Given s t f k from to
    → (w : Way) (l : Loc) → Reaches s w l → (Below to l → ⊥) → (Below from l → ⊥) → (v : Way) × Reaches t v l
still s t f k from to g (Object x) l r a b = (Object x, r)
still s t f k from to g (Lost n) l r a b = (Lost n, (g.move.keeps n r.0, r.1))
still s t f k from to g (Into w i) l (m, r, e) a b =
    let whole = still s t f k from to g w m r
    (λ x. a (i ∷ x.0, e ∙ ap (λ y. Inside y i) x.1)) (λ x. b (i ∷ x.0, e ∙ ap (λ y. Inside y i) x.1)) in
    (Into whole.0 i, (m, whole.1, e))
still s t f k from to g (All w) l (m, n, r, h, e) a b = by_either (below to m)
    (λ x. (Lost n, (g.move.checks x.0 n (subst (λ y. s.word y ≡ Held n) x.1 h), e)))
    (λ off. (by_either (below from m)
    (λ x. (
      All (along k x.0),
      (
        part to x.0,
        n,
        reaches_along t k to x.0 (target_there s t f k from to g),
        g.move.comes x.0 ∙ subst (λ y. s.word y ≡ Held n) x.1 h,
        e,
      ),
    ))
    (λ away. (
    let whole = still s t f k from to g w m r off away in
    (All whole.0, (m, n, whole.1, g.move.off m off away ∙ h, e))))))

cell_alone : (l : Loc) (n : ℕ) → Below l (OfCell n) → l ≡ OfCell n
cell_alone l n ([], e) = sym e
cell_alone l n (i ∷ p, e) = cc

pub covered_after : (s t : View) (f k : Way) (from to : Loc) → Given s t f k from to → Covered s → Covered t
covered_after s t f k from to g c n less free =
    let before = c n (subst (λ z. n < z) g.move.made less) (sym (g.move.freed n) ∙ free) in
    elim (below to (OfCell n)) [
      | inl x ↦ (k, subst (Reaches t k) (cell_alone to n x) (target_there s t f k from to g))
      | inr off ↦ elim (below from (OfCell n)) [
        | inl x ↦ (f, subst (Reaches t f) (cell_alone from n x) (source_there s t f k from to g))
        | inr away ↦ still s t f k from to g before.0 (OfCell n) before.1 off away
      ]
    ]

-- ---- what names find gone

not_here : (s t : View) (f k : Way) (from to : Loc) → Given s t f k from to → (w : Way) (l : Loc) → Reaches t w l
    → (Below to l → ⊥) → k ≡ w → ⊥
not_here s t f k from to g w l r off e =
    off ([], one_location t k l to (subst (λ x. Reaches t x l) (sym e) r) (target_there s t f k from to g))

-- a way after the move goes through what was moved, or was there before and doesn't go through the
-- target
abbrev Back : View → Way → Way → Way → Loc → Type 0
Back s f k w l = ((v : Way) × Past f v × Reaches s v l) ⊎ (Reaches s w l × (Under k w → ⊥))

back : (s t : View) (f k : Way) (from to : Loc) → Given s t f k from to → (w : Way) (l : Loc) → IsRooted w → Reaches t w l
    → (Below to l → ⊥) → Back s f k w l
back s t f k from to g (Object x) l n r off = inr (r, not_here s t f k from to g (Object x) l r off)
back s t f k from to g (Lost x) l n r off = absurd n
back s t f k from to g (Into w i) l n (m, r, e) off =
    by_either (back s t f k from to g w m n r (λ x. off (i ∷ x.0, e ∙ ap (λ y. Inside y i) x.1)))
    (λ x. (inl (Into x.0 i, x.1, (m, x.2, e))))
    (λ x. (inr ((m, x.0, e), λ u. by_either u (λ same. (not_here s t f k from to g (Into w i) l (m, r, e) off same)) (λ u. (x.1 u)))))
back s t f k from to g (All w) l n (m, c, r, h, e) off = by_either (owner_before s t from to g.move m c h)
    (λ x. (inl (All (along f x.0), under_along f f x.0 (under_itself f), (part from x.0, c, reaches_along s f from x.0 g.source, x.2, e))))
    (λ y. (by_either (back s t f k from to g w m n r y.off_to)
    (λ x. (inl (All x.0, past_under f x.0 x.1, (m, c, x.2, y.word, e))))
    (λ x. (inr ((m, c, x.0, y.word, e), λ u. by_either u (λ same. (not_here s t f k from to g (All w) l (m, c, r, h, e) off same)) (λ u. (x.1 u)))))))

pub known_after : (s t : View) (f k : Way) (from to : Loc) (moved moved' : Way → Type 0) → Given s t f k from to
    → Known s moved → IsRooted f
    → ((v : Way) → Under f v → moved v → ⊥)
    → ((w : Way) → moved w → (Under k w → ⊥) → moved' w)
    → ((p : List Step) → t.word (part from p) ≡ Gone → moved' (along f p))
    → Known t moved'
known_after s t f k from to moved moved' g known named clean stays adds w l n r h = by_either (below to l)
    (λ x. (
    let here = sym (g.move.comes x.0) ∙ subst (λ y. t.word y ≡ Gone) x.1 h in
    absurd (clean (along f x.0) (under_along f f x.0 (under_itself f))
    (known (along f x.0) (part from x.0) (named_along f x.0 named) (reaches_along s f from x.0 g.source) here))))
    (λ off. (by_either (below from l)
    (λ y. (by_either (back s t f k from to g w l n r off)
    (λ x. (
    let same = one_way s g.owned x.0 (along f y.0) l x.2
    (subst (Reaches s (along f y.0)) (sym y.1) (reaches_along s f from y.0 g.source)) in
    absurd (not_past f y.0 (subst (Past f) same x.1))))
    (λ x. (
    let same = one_way s g.owned w (along f y.0) l x.0
    (subst (Reaches s (along f y.0)) (sym y.1) (reaches_along s f from y.0 g.source)) in
    subst moved' (sym same) (adds y.0 (subst (λ z. t.word z ≡ Gone) y.1 h))))))
    (λ away. (
    let here = sym (g.move.off l off away) ∙ h in
    by_either (back s t f k from to g w l n r off)
    (λ x. (
    let u = past_under f x.0 x.1 in
    absurd (clean x.0 u (known x.0 l (named_under f x.0 u named) x.2 here))))
    (λ x. (stays w (known w l n x.0 here) x.1))))))
