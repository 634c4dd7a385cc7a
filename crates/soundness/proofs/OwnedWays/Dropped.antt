-- The end of a scope.
use Rattle.std.proofs.Common.{◌≡◌, sym, ap, ◌∙◌, subst, inl, inr, ℕ, Bool, ◌==◌, eqb-true, List, [], ◌∷◌, ◌<◌}
use Rattle.std.proofs.lemmas.Bool.{false≢true}
use Rattle.machine.specs.place_names.declared.act.Act.TheVariants.{EndScope}
use Rattle.machine.specs.place_names.declared.fact.Fact.{Fact}
use Rattle.machine.specs.place_names.declared.fact.Fact.TheVariants.{Moved}
use Rattle.machine.specs.place_names.Facts.{effect}
use Rattle.soundness.specs.OwnedWays.Ways.{Loc, OfRoot, OfCell, Inside, Way, Object, Lost, Into, All, Empty, Gone, Held, View, part, Below, Reaches, IsRooted, IsDrop, Root, OfVariable, OfHand, base_of, number_of, name_of, Named, Sound, Owned, Covered}
use Rattle.soundness.proofs.OwnedWays.Locations.{below}
use Rattle.soundness.proofs.OwnedWays.Assigned.{kept_fact, is_false}
use Rattle.soundness.proofs.Constructors.{is_empty_word}

pub record Kept (s : View) (x : Root) (l : Loc) (c : ℕ) : Type 0 where
  pub word : s.word l ≡ Held c
  pub outside : Below (OfRoot x) l → ⊥

owner_before : (s t : View) (x : Root) → IsDrop s t x → (l : Loc) (c : ℕ) → t.word l ≡ Held c → Kept s x l c
owner_before s t x d l c h =
    let outside : Below (OfRoot x) l → ⊥ = λ b. (let is : Held c ≡ Empty = sym h ∙ ap t.word b.1 ∙ d.empty b.0 in absurd (false≢true (ap is_empty_word is))) in
    record { word = sym (d.off l outside) ∙ h; outside = outside }

before : (s t : View) (x : Root) → IsDrop s t x → (w : Way) (l : Loc) → IsRooted w → Reaches t w l → Reaches s w l
before s t x d (Object y) l n r = r
before s t x d (Lost y) l n r = absurd n
before s t x d (Into w i) l n (m, r, e) = (m, before s t x d w m n r, e)
before s t x d (All w) l n (m, c, r, h, e) = (m, c, before s t x d w m n r, (owner_before s t x d m c h).word, e)

still : (s t : View) (x : Root) → IsDrop s t x → (w : Way) (l : Loc) → Reaches s w l → (v : Way) × Reaches t v l
still s t x d (Object y) l r = (Object y, r)
still s t x d (Lost y) l r = (Lost y, (d.keeps y r.0, r.1))
still s t x d (Into w i) l (m, r, e) = let whole = still s t x d w m r in (Into whole.0 i, (m, whole.1, e))
still s t x d (All w) l (m, c, r, h, e) = elim (below (OfRoot x) m) [
  | inl b ↦ (Lost c, (d.checks b.0 c (subst (λ y. s.word y ≡ Held c) b.1 h), e))
  | inr off ↦ (let whole = still s t x d w m r in (All whole.0, (m, c, whole.1, d.off m off ∙ h, e)))
]

-- what has the object as its root ends in it
inside : (s t : View) (x : Root) → IsDrop s t x → (w : Way) (l : Loc) → IsRooted w → base_of w ≡ OfRoot x → Reaches t w l → Below (OfRoot x) l
inside s t x d (Object y) l n e r = ([], r ∙ e)
inside s t x d (Lost y) l n e r = absurd n
inside s t x d (Into w i) l n e (m, r, f) = let b = inside s t x d w m n e r in (i ∷ b.0, f ∙ ap (λ y. Inside y i) b.1)
inside s t x d (All w) l n e (m, c, r, h, f) = absurd ((owner_before s t x d m c h).outside (inside s t x d w m n e r))

-- the base of a name, by its number
pub named_base : (home : ℕ → ℕ) (w : Way) → Named home w → base_of w ≡ OfRoot (OfVariable (home (number_of w)) (number_of w))
named_base home (Object (OfVariable f x)) n = let is : f ≡ home x = n in cc
named_base home (Object (OfHand h)) n = absurd n
named_base home (Lost y) n = absurd n
named_base home (Into w i) n = named_base home w n
named_base home (All w) n = named_base home w n

owned_after : (s t : View) (x : Root) → Owned s → IsDrop s t x → Owned t
owned_after s t x owned d = record {
  unique = λ l m c a b. owned.unique l m c (owner_before s t x d l c a).word (owner_before s t x d m c b).word;
  live = λ l c a. d.freed c ∙ owned.live l c (owner_before s t x d l c a).word;
  within = λ l c a. subst (λ z. c < z) (sym d.made) (owned.within l c (owner_before s t x d l c a).word);
  kept = λ l c a. (let o = owner_before s t x d l c a in
      is_false (t.leaked c) (λ e. elim (d.only c e) [
        | inl old ↦ (let kept = owned.kept l c o.word in cc)
        | inr y ↦ o.outside (y.0, owned.unique l (part (OfRoot x) y.0) c o.word y.1)
      ]));
  counted = λ c e. subst (λ z. c < z) (sym d.made) (elim (d.only c e) [
    | inl old ↦ owned.counted c old
    | inr y ↦ owned.within (part (OfRoot x) y.0) c y.1
  ]);
}

-- what ways found gone elsewhere they found gone before
gone_before : (s t : View) (x : Root) → IsDrop s t x → (l : Loc) → t.word l ≡ Gone → (Below (OfRoot x) l → ⊥) × (s.word l ≡ Gone)
gone_before s t x d l h =
    let outside : Below (OfRoot x) l → ⊥ = λ b. (let is : Gone ≡ Empty = sym h ∙ ap t.word b.1 ∙ d.empty b.0 in absurd (false≢true (ap is_empty_word is))) in
    (outside, sym (d.off l outside) ∙ h)

covered_after : (s t : View) (x : Root) → Covered s → IsDrop s t x → Covered t
covered_after s t x covered d c less free =
    let old = covered c (subst (λ z. c < z) d.made less) (sym (d.freed c) ∙ free) in
    still s t x d old.0 (OfCell c) old.1

-- the scope of an object of the frame ends
pub dropped : (home : ℕ → ℕ) (other : Way → Type 0) (s t : View) (x : ℕ) (borrower : Bool) (facts : List Fact) → Sound home other s facts
    → IsDrop s t (OfVariable (home x) x) → Sound home other t (effect (EndScope x borrower) facts)
dropped home other s t x borrower facts sound d = record {
  owned = owned_after s t (OfVariable (home x) x) sound.owned d;
  covered = covered_after s t (OfVariable (home x) x) sound.covered d;
  known = λ w l n r h. (
      let was = gone_before s t (OfVariable (home x) x) d l h in
      elim (sound.known w l n (before s t (OfVariable (home x) x) d w l n r) was.1) [
        | inr else ↦ inr else
        | inl moved ↦ inl (
          moved.0,
          kept_fact (EndScope x borrower) facts (Moved (name_of w)) moved.1
              (is_false (number_of w == x) (λ e. (
              let same = eqb-true (number_of w) x e in
              let base = named_base home w moved.0 ∙ ap (λ y. OfRoot (OfVariable (home y) y)) same in
              was.0 (inside s t (OfVariable (home x) x) d w l n base r)))),
        )
      ]);
}

-- a root without an act ends: a hand, or a variable of which nothing is known
pub left : (home : ℕ → ℕ) (other : Way → Type 0) (s t : View) (x : Root) (facts : List Fact) → Sound home other s facts
    → IsDrop s t x → Sound home other t facts
left home other s t x facts sound d = record {
  owned = owned_after s t x sound.owned d;
  covered = covered_after s t x sound.covered d;
  known = λ w l n r h. (let was = gone_before s t x d l h in sound.known w l n (before s t x d w l n r) was.1);
}
