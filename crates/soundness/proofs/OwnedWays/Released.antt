-- Freeing a cell that a name reaches, and making one.
use Rattle.std.proofs.Common.{◌≡◌, sym, ap, ◌∙◌, subst, ◌⊎◌, inl, inr, ℕ, List, [], ◌∷◌, suc, ◌<◌, ◌≤◌, arith}
use Rattle.std.proofs.Math.Nat.{eq-or-lt_of_le}
use Rattle.std.proofs.lemmas.Bool.{false≢true}
use Rattle.machine.specs.place_names.Names.{covers}
use Rattle.machine.specs.place_names.declared.act.Act.TheVariants.{Free}
use Rattle.machine.specs.place_names.declared.fact.Fact.{Fact}
use Rattle.machine.specs.place_names.declared.fact.Fact.TheVariants.{Moved}
use Rattle.machine.specs.place_names.Facts.{effect}
use Rattle.soundness.specs.OwnedWays.Ways.{Step, Loc, OfCell, Inside, Way, Object, Lost, Into, All, Empty, Gone, Held, View, part, Below, Reaches, IsRooted, Under, Owned, IsRelease, IsFresh, name_of, Named, Sound}
use Rattle.soundness.proofs.OwnedWays.Locations.{below, same_loc}
use Rattle.soundness.proofs.OwnedWays.Unique.{one_location}
use Rattle.soundness.proofs.OwnedWays.Named.{covered_under}
use Rattle.soundness.proofs.OwnedWays.Assigned.{kept_fact, is_false}
use Rattle.soundness.proofs.Constructors.{is_empty_word, is_gone_word, is_held_word}
use Rattle.soundness.proofs.Parted.{by_either}

pub record Frees (s t : View) (k : Way) (at : Loc) (n : ℕ) : Type 0 where
  pub owned : Owned s
  pub step : IsRelease s t at n
  pub target : Reaches s k at
  pub held : s.word at ≡ Held n

pub record Kept (s : View) (at l : Loc) (n c : ℕ) : Type 0 where
  pub word : s.word l ≡ Held c
  pub other : l ≡ at → ⊥
  pub outside : Below (OfCell n) l → ⊥

owner_before : (s t : View) (at : Loc) (n : ℕ) → IsRelease s t at n → (l : Loc) (c : ℕ) → t.word l ≡ Held c → Kept s at l n c
owner_before s t at n r l c h =
    let other : l ≡ at → ⊥ = λ e. (let is : Held c ≡ Empty = sym h ∙ ap t.word e ∙ r.null in cc) in
    let outside : Below (OfCell n) l → ⊥ = λ b. (let is : Held c ≡ Empty = sym h ∙ ap t.word b.1 ∙ r.empty b.0 in absurd (false≢true (ap is_empty_word is))) in
    record { word = sym (r.off l other outside) ∙ h; other = other; outside = outside }

before : (s t : View) (at : Loc) (n : ℕ) → IsRelease s t at n → (w : Way) (l : Loc) → IsRooted w → Reaches t w l → Reaches s w l
before s t at n f (Object x) l named r = r
before s t at n f (Lost x) l named r = absurd named
before s t at n f (Into w i) l named (m, r, e) = (m, before s t at n f w m named r, e)
before s t at n f (All w) l named (m, c, r, h, e) = (m, c, before s t at n f w m named r, (owner_before s t at n f m c h).word, e)

owned_after : (s t : View) (k : Way) (at : Loc) (n : ℕ) → Frees s t k at n → Owned t
owned_after s t k at n g = record {
  unique = λ l m c a b. g.owned.unique l m c (owner_before s t at n g.step l c a).word (owner_before s t at n g.step m c b).word;
  live = λ l c h. (let o = owner_before s t at n g.step l c h in
      g.step.others c (g.owned.live l c o.word)
      (λ e. o.other (g.owned.unique l at n (subst (λ z. s.word l ≡ Held z) e o.word) g.held)));
  within = λ l c h. subst (λ z. c < z) (sym g.step.made) (g.owned.within l c (owner_before s t at n g.step l c h).word);
  kept = λ l c h. (let o = owner_before s t at n g.step l c h in
      is_false (t.leaked c) (λ e. elim (g.step.only c e) [
        | inl old ↦ (let kept = g.owned.kept l c o.word in cc)
        | inr x ↦ o.outside (x.0, g.owned.unique l (part (OfCell n) x.0) c o.word x.1)
      ]));
  counted = λ c e. subst (λ z. c < z) (sym g.step.made) (elim (g.step.only c e) [
    | inl old ↦ g.owned.counted c old
    | inr x ↦ g.owned.within (part (OfCell n) x.0) c x.1
  ]);
}

still : (s t : View) (k : Way) (at : Loc) (n : ℕ) → Frees s t k at n
    → (w : Way) (l : Loc) → Reaches s w l → (Below (OfCell n) l → ⊥) → (v : Way) × Reaches t v l
still s t k at n g (Object x) l r a = (Object x, r)
still s t k at n g (Lost x) l r a = (Lost x, (g.step.keeps x r.0, r.1))
still s t k at n g (Into w i) l (m, r, e) a =
    let whole = still s t k at n g w m r (λ x. a (i ∷ x.0, e ∙ ap (λ y. Inside y i) x.1)) in
    (Into whole.0 i, (m, whole.1, e))
still s t k at n g (All w) l (m, c, r, h, e) a = elim (below (OfCell n) m) [
  | inl x ↦ (Lost c, (g.step.checks x.0 c (subst (λ y. s.word y ≡ Held c) x.1 h), e))
  | inr off ↦ elim (same_loc m at) [
    | inl same ↦ (
        let twice : Held c ≡ Held n = sym h ∙ ap s.word same ∙ g.held in
        let number : c ≡ n = cc in
        absurd (a ([], e ∙ ap OfCell number)))
    | inr other ↦ (
        let whole = still s t k at n g w m r off in
        (All whole.0, (m, c, whole.1, g.step.off m other off ∙ h, e)))
  ]
]

-- a way that k begins ends below the argument, or is gone
stuck : (s t : View) (k : Way) (at : Loc) (n : ℕ) → Frees s t k at n → (w : Way) (l : Loc) → IsRooted w → Reaches t w l → Under k w → Below at l
stuck s t k at n g (Object x) l named r u = ([], one_location s (Object x) l at r (subst (λ z. Reaches s z at) u g.target))
stuck s t k at n g (Lost x) l named r u = absurd named
stuck s t k at n g (Into w i) l named (m, r, e) u = elim u [
  | inl same ↦ ([], one_location s (Into w i) l at (before s t at n g.step (Into w i) l named (m, r, e)) (subst (λ z. Reaches s z at) same g.target))
  | inr u ↦ (let b = stuck s t k at n g w m named r u in (i ∷ b.0, e ∙ ap (λ y. Inside y i) b.1))
]
stuck s t k at n g (All w) l named (m, c, r, h, e) u = elim u [
  | inl same ↦ ([], one_location s (All w) l at (before s t at n g.step (All w) l named (m, c, r, h, e)) (subst (λ z. Reaches s z at) same g.target))
  | inr u ↦ (let b = stuck s t k at n g w m named r u in absurd (nothing b.0 (sym h ∙ ap t.word b.1)))
]
  where
    nothing : (p : List Step) → Held c ≡ t.word (part at p) → ⊥
    nothing [] e = let is : Held c ≡ Empty = e ∙ g.step.null in absurd (false≢true (ap is_empty_word is))
    nothing (i ∷ p) e = let is : Held c ≡ Empty = e ∙ g.step.leaf p i in absurd (false≢true (ap is_empty_word is))

not_gone : (s t : View) (at : Loc) (n : ℕ) → IsRelease s t at n → (p : List Step) → t.word (part at p) ≡ Gone → ⊥
not_gone s t at n f [] e = let is : Empty ≡ Gone = sym f.null ∙ e in absurd (false≢true (ap is_gone_word is))
not_gone s t at n f (i ∷ p) e = let is : Empty ≡ Gone = sym (f.leaf p i) ∙ e in absurd (false≢true (ap is_gone_word is))

gone_before : (s t : View) (at : Loc) (n : ℕ) → IsRelease s t at n → (l : Loc) → t.word l ≡ Gone → s.word l ≡ Gone
gone_before s t at n f l h =
    sym (f.off l (λ e. (let is : Gone ≡ Empty = sym h ∙ ap t.word e ∙ f.null in absurd (false≢true (ap is_empty_word is))))
    (λ b. (let is : Gone ≡ Empty = sym h ∙ ap t.word b.1 ∙ f.empty b.0 in absurd (false≢true (ap is_empty_word is))))) ∙ h

same_cell : (c n : ℕ) → Below (OfCell n) (OfCell c) → c ≡ n
same_cell c n ([], e) = cc
same_cell c n (i ∷ p, e) = cc

pub released : (home : ℕ → ℕ) (other : Way → Type 0) (s t : View) (k : Way) (at : Loc) (n : ℕ) (facts : List Fact) → Sound home other s facts
    → IsRelease s t at n → Named home k → Reaches s k at → s.word at ≡ Held n → Sound home other t (effect (Free (name_of k)) facts)
released home other s t k at n facts sound step named target held =
    let g : Frees s t k at n = record { owned = sound.owned; step = step; target = target; held = held } in
    record {
      owned = owned_after s t k at n g;
      covered = λ c less free. (
          let spared = step.spares c free in
          let old = sound.covered c (subst (λ z. c < z) step.made less) spared.0 in
          still s t k at n g old.0 (OfCell c) old.1 (λ b. spared.1 (same_cell c n b)));
      known = λ w l n' r h. elim (sound.known w l n' (before s t at n step w l n' r) (gone_before s t at n step l h)) [
        | inr else ↦ inr else
        | inl moved ↦ inl (
          moved.0,
          kept_fact (Free (name_of k)) facts (Moved (name_of w)) moved.1
              (is_false (covers (name_of k) (name_of w)) (λ e. (
              let b = stuck s t k at n g w l n' r (covered_under home k w named moved.0 e) in
              not_gone s t at n step b.0 (sym (ap t.word b.1) ∙ h)))),
        )
      ];
    }

-- ---- a new cell

fresh_owner : (s t : View) (at : Loc) → IsFresh s t at → (l : Loc) (c : ℕ) → t.word l ≡ Held c
    → ((l ≡ at) × (c ≡ s.made)) ⊎ (s.word l ≡ Held c)
fresh_owner s t at f l c e = elim (same_loc l at) [
  | inl same ↦ (let is : Held c ≡ Held s.made = sym e ∙ ap t.word same ∙ f.now in inl (same, cc))
  | inr other ↦ inr (sym (f.off l other) ∙ e)
]

fresh_back : (s t : View) (at : Loc) → IsFresh s t at → (w : Way) (l : Loc) → IsRooted w → Reaches t w l → Below (OfCell s.made) l ⊎ Reaches s w l
fresh_back s t at f (Object x) l named r = inr r
fresh_back s t at f (Lost x) l named r = absurd named
fresh_back s t at f (Into w i) l named (m, r, e) = by_either (fresh_back s t at f w m named r) (λ b. (inl (i ∷ b.0, e ∙ ap (λ y. Inside y i) b.1))) (λ r. (inr (m, r, e)))
fresh_back s t at f (All w) l named (m, c, r, o, e) = by_either (fresh_owner s t at f m c o)
    (λ x. (inl ([], e ∙ ap OfCell x.1)))
    (λ old. (by_either (fresh_back s t at f w m named r) (λ b. (let is : Held c ≡ Empty = sym o ∙ ap t.word b.1 ∙ f.empty b.0 in absurd (false≢true (ap is_empty_word is)))) (λ r. (inr (m, c, r, old, e)))))

pub fresh_on : (s t : View) (at : Loc) → IsFresh s t at → (w : Way) (l : Loc) → Reaches s w l → Reaches t w l
fresh_on s t at f (Object x) l r = r
fresh_on s t at f (Lost x) l r = (f.leaked x ∙ r.0, r.1)
fresh_on s t at f (Into w i) l (m, r, e) = (m, fresh_on s t at f w m r, e)
fresh_on s t at f (All w) l (m, c, r, o, e) =
    (m, c, fresh_on s t at f w m r, f.off m (λ same. (let is : Held c ≡ Empty = sym o ∙ ap s.word same ∙ f.was in absurd (false≢true (ap is_empty_word is)))) ∙ o, e)

less_or_last : (c n : ℕ) → c < suc n → (c < n) ⊎ (c ≡ n)
less_or_last c n e = let most : c ≤ n = (omega arith) in elim (eq-or-lt_of_le most) [ inl same ↦ inr same | inr less ↦ inl less ]

pub freshly : (home : ℕ → ℕ) (other : Way → Type 0) (s t : View) (k : Way) (at : Loc) (facts : List Fact) → Sound home other s facts → Reaches s k at
    → IsFresh s t at → Sound home other t facts
freshly home other s t k at facts sound there f = record {
  owned = record {
    unique = λ l m c a b. by_either (fresh_owner s t at f l c a)
        (λ x. (by_either (fresh_owner s t at f m c b) (λ y. (x.0 ∙ sym y.0)) (λ y. (let less = subst (λ z. z < s.made) x.1 (sound.owned.within m c y) in absurd (omega arith)))))
        (λ x. (by_either (fresh_owner s t at f m c b) (λ y. (let less = subst (λ z. z < s.made) y.1 (sound.owned.within l c x) in absurd (omega arith))) (λ y. (sound.owned.unique l m c x y))));
    live = λ l c a. by_either (fresh_owner s t at f l c a) (λ x. (ap t.freed x.1 ∙ f.live)) (λ x. (f.freed c (sound.owned.within l c x) ∙ sound.owned.live l c x));
    within = λ l c a. subst (λ z. c < z) (sym f.made) (by_either (fresh_owner s t at f l c a)
        (λ x. (let same = x.1 in (omega arith)))
        (λ x. (let less = sound.owned.within l c x in (omega arith))));
    kept = λ l c a. by_either (fresh_owner s t at f l c a)
        (λ x. (f.leaked c ∙ ap s.leaked x.1 ∙ is_false (s.leaked s.made) (λ e. (let less = sound.owned.counted s.made e in absurd (omega arith)))))
        (λ x. (f.leaked c ∙ sound.owned.kept l c x));
    counted = λ c e. subst (λ z. c < z) (sym f.made) (let less = sound.owned.counted c (sym (f.leaked c) ∙ e) in (omega arith));
  };
  covered = λ c less free. by_either (less_or_last c s.made (subst (λ z. c < z) f.made less))
      (λ old. (let way = sound.covered c old (sym (f.freed c old) ∙ free) in (way.0, fresh_on s t at f way.0 (OfCell c) way.1)))
      (λ last. (All k, (at, s.made, fresh_on s t at f k at there, f.now, ap OfCell last)));
  known = λ w l named r gone. by_either (fresh_back s t at f w l named r)
      (λ b. (let is : Gone ≡ Empty = sym gone ∙ ap t.word b.1 ∙ f.empty b.0 in absurd (false≢true (ap is_empty_word is))))
      (λ r. (sound.known w l named r (sym (f.off l (λ same. (let is : Gone ≡ Held s.made = sym gone ∙ ap t.word same ∙ f.now in absurd (false≢true (ap is_held_word is))))) ∙ gone)));
}
