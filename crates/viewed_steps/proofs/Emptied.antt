-- What a place of the frame has is leaked, and the place is gone: a call with a formal of mode `out`, before the
-- formal is declared.
use Rattle.std.proofs.Common.{None, ◌≡◌, refl, sym, ap, ◌∙◌, subst, ◌⊎◌, inl, inr, ℕ, Bool, not, true, List, [], ◌∷◌, ◌<◌}
use Rattle.machine.specs.spark_base.Lists.{Has}
use Rattle.machine.specs.place_names.declared.fact.Fact.{Fact}
use Rattle.machine.specs.place_names.declared.fact.Fact.TheVariants.{Moved, Lent}
use Rattle.machine.specs.place_names.declared.rule.Loan.{Loan}
use Rattle.machine.specs.place_names.Names.{Name as PlaceName}
use Rattle.soundness.specs.OwnedWays.Ways.{Step, Loc, OfCell, Way, Object, Lost, Into, All, Held, View, Owned, Covered, Below, Reaches, IsRooted, Under, Past, Named, part, along, name_of}
use Rattle.soundness.specs.OwnedWays.Ways as ways
use Rattle.soundness.proofs.OwnedWays.Locations.{below, reaches_along, past_under, under_along, under_itself}
use Rattle.soundness.proofs.OwnedWays.Unique.{one_location, one_way}
use Rattle.soundness.proofs.OwnedWays.Assigned.{is_false, kept_fact}
use Rattle.soundness.proofs.OwnedWays.Named.{longer, covered_under}
use Rattle.machine.specs.place_names.Names.{covers}
use Rattle.machine.specs.place_names.Facts.{removes, effect}
use Rattle.machine.specs.place_names.declared.act.Act.TheVariants as act
use Rattle.machine.specs.place_names.declared.act.Mode.TheVariants as mode
use Rattle.soundness.proofs.Lists.{Has-append_cases, Has-filter}
use Rattle.soundness.proofs.Contents.{bool_cases}
use Rattle.std.specs.List.{filter}
use Rattle.soundness.specs.OwnedLoans.Views.{Views, AreClear, expand}
use Rattle.viewed_steps.proofs.Between.{OwnersStand}
use Rattle.soundness.proofs.OwnedLoans.Moves.{IsPlace, expand_under}
use Rattle.soundness.proofs.Parted.{by_either}

-- The numbers at a place and in it are leaked, and the place has none.
pub record IsEmptied (s t : View) (l : Loc) : Type 0 where
  pub made : t.made ≡ s.made
  pub freed : (c : ℕ) → t.freed c ≡ s.freed c
  pub off : (m : Loc) → (Below l m → ⊥) → t.word m ≡ s.word m
  pub goes : (p : List Step) (c : ℕ) → t.word (part l p) ≡ Held c → ⊥
  pub keeps : (c : ℕ) → s.leaked c ≡ true → t.leaked c ≡ true
  pub checks : (p : List Step) (c : ℕ) → s.word (part l p) ≡ Held c → t.leaked c ≡ true
  pub only : (c : ℕ) → t.leaked c ≡ true → (s.leaked c ≡ true) ⊎ ((p : List Step) × (s.word (part l p) ≡ Held c))

module _ (s t : View) (l : Loc) (d : IsEmptied s t l) where
  pub owner_before : (m : Loc) (c : ℕ) → t.word m ≡ Held c → (s.word m ≡ Held c) × (Below l m → ⊥)
  owner_before m c h =
      let outside : Below l m → ⊥ = λ b. d.goes b.0 c (ap t.word (sym b.1) ∙ h) in
      (sym (d.off m outside) ∙ h, outside)

  before : (w : Way) (m : Loc) → IsRooted w → Reaches t w m → Reaches s w m
  before (Object y) m n r = r
  before (Lost y) m n r = absurd n
  before (Into w i) m n (k, r, e) = (k, before w k n r, e)
  before (All w) m n (k, c, r, h, e) = (k, c, before w k n r, (owner_before k c h).0, e)

  still : (w : Way) (m : Loc) → Reaches s w m → (v : Way) × Reaches t v m
  still (Object y) m r = (Object y, r)
  still (Lost y) m r = (Lost y, (d.keeps y r.0, r.1))
  still (Into w i) m (k, r, e) = let whole = still w k r in (Into whole.0 i, (k, whole.1, e))
  still (All w) m (k, c, r, h, e) = elim (below l k) [
    | inl b ↦ (Lost c, (d.checks b.0 c (subst (λ y. s.word y ≡ Held c) b.1 h), e))
    | inr off ↦ (let whole = still w k r in (All whole.0, (k, c, whole.1, d.off k off ∙ h, e)))
  ]

  pub owned_then : Owned s → Owned t
  owned_then owned = record {
    unique = λ m k c a b. owned.unique m k c (owner_before m c a).0 (owner_before k c b).0;
    live = λ m c a. d.freed c ∙ owned.live m c (owner_before m c a).0;
    within = λ m c a. subst (λ z. c < z) (sym d.made) (owned.within m c (owner_before m c a).0);
    kept = λ m c a. (let o = owner_before m c a in
        is_false (t.leaked c) (λ e. elim (d.only c e) [
          | inl old ↦ (let kept = owned.kept m c o.0 in cc)
          | inr y ↦ o.1 (y.0, owned.unique m (part l y.0) c o.0 y.1)
        ]));
    counted = λ c e. subst (λ z. c < z) (sym d.made) (elim (d.only c e) [
      | inl old ↦ owned.counted c old
      | inr y ↦ owned.within (part l y.0) c y.1
    ]);
  }

  pub covered_then : Covered s → Covered t
  covered_then covered c less free =
      let old = covered c (subst (λ z. c < z) d.made less) (sym (d.freed c) ∙ free) in still old.0 (OfCell c) old.1

  module _ (owned : Owned s) (u : Way) (rooted : IsRooted u) (reaches : Reaches s u l) where
    here : (w : Way) (m : Loc) → u ≡ w → Reaches s w m → Below l m
    here w m same r = ([], one_location s u m l (subst (λ z. Reaches s z m) (sym same) r) reaches)

    -- a way that goes on from that of the place stays in it
    inside_there : (w : Way) (m : Loc) → IsRooted w → Under u w → Reaches t w m → Below l m
    inside_there (Object y) m n same r = here (Object y) m same (before (Object y) m n r)
    inside_there (Lost y) m n under r = absurd n
    inside_there (Into w i) m n (inl same) r = here (Into w i) m same (before (Into w i) m n r)
    inside_there (Into w i) m n (inr under) (k, r, e) = (let b = inside_there w k n under r in (i ∷ b.0, e ∙ ap (λ y. ways.Inside y i) b.1))
    inside_there (All w) m n (inl same) r = here (All w) m same (before (All w) m n r)
    inside_there (All w) m n (inr under) (k, c, r, h, e) = absurd ((owner_before k c h).1 (inside_there w k n under r))

    -- one that goes through the place nowhere reaches what it reached
    pub keeps_off : (w : Way) (m : Loc) → Reaches s w m → (Past u w → ⊥) → Reaches t w m
    keeps_off (Object y) m r off = r
    keeps_off (Lost y) m r off = (d.keeps y r.0, r.1)
    keeps_off (Into w i) m (k, r, e) off = (k, keeps_off w k r off, e)
    keeps_off (All w) m (k, c, r, h, e) off =
        let apart : Below l k → ⊥ = λ b. (
        let same = one_way s owned w (along u b.0) k r (subst (Reaches s (along u b.0)) (sym b.1) (reaches_along s u l b.0 reaches)) in
        off (subst (Under u) (sym same) (under_along u u b.0 (under_itself u)))) in
        (k, c, keeps_off w k r (λ p. off (past_under u w p)), d.off k apart ∙ h, e)

-- ---- with views

pub fewer_clear : (observer : ℕ → Bool) (facts facts' : List Fact) → ((f : Fact) → Has facts' f → Has facts f) → AreClear observer facts → AreClear observer facts'
fewer_clear observer facts facts' part clear = record {
  moved = λ k h n m has lent. clear.moved k h n m (part (Moved n) has) (part (Lent k h m) lent);
  lent = λ b h n m one two. clear.lent b h n m (part _ one) (part _ two);
  seen = λ b h n m one two. clear.seen b h n m (part _ one) (part _ two);
  owned = λ n has. clear.owned n (part (Moved n) has);
}

-- Facts that stay: loans, and moved names, but for some that stand for ways that go on from the place.
pub record AreLeft (home : ℕ → ℕ) (v : Views) (facts facts' : List Fact) (u : Way) : Type 0 where
  pub part : (f : Fact) → Has facts' f → Has facts f
  pub loans : (k : Loan) (h : ℕ) (n : PlaceName) → Has facts (Lent k h n) → Has facts' (Lent k h n)
  pub moved : (w : Way) → Named home w → Has facts (Moved (name_of w)) → Has facts' (Moved (name_of w)) ⊎ Under u (expand v w)

pub none_left : (home : ℕ → ℕ) (v : Views) (facts : List Fact) (u : Way) → AreLeft home v facts facts u
none_left home v facts u = record { part = λ f has. has; loans = λ k h n has. has; moved = λ w named has. inl has }

-- So are the facts after the act of an actual of mode `out`, whose name isn't a view by itself.
pub out_left : (home : ℕ → ℕ) (v : Views) (facts : List Fact) (name : Way) (owning access : Bool) → Named home name
    → IsPlace v name → ((p : List Step) → v.part_way (ways.number_of name) p ≡ None) → AreLeft home v facts (effect (act.Actual (name_of name) mode.Out owning access) facts) (expand v name)
out_left home v facts name owning access named place bare = record {
  part = λ f has. elim (Has-append_cases (filter (λ g. not (removes (act.Actual (name_of name) mode.Out owning access) g)) facts) [] f has) [
    | inl old ↦ (Has-filter (λ g. not (removes (act.Actual (name_of name) mode.Out owning access) g)) facts f old).0
    | inr never ↦ absurd never
  ];
  loans = λ k h n has. kept_fact (act.Actual (name_of name) mode.Out owning access) facts (Lent k h n) has refl;
  moved = λ w named_w has. elim (bool_cases (covers (name_of name) (name_of w))) [
    | inl covered ↦ (let under = covered_under home name w named named_w covered in
        inr (expand_under v name w place (λ p. ap (λ z. v.part_way z p) ((longer name w under).root) ∙ bare p) under))
    | inr other ↦ inl (kept_fact (act.Actual (name_of name) mode.Out owning access) facts (Moved (name_of w)) has other)
  ];
}

module _ (home : ℕ → ℕ) (v : Views) (before_it gone : Way → Type 0) where
  -- An act that takes back what was moved at a way or past it: meanwhile others know of that.
  pub taken_back : (s : View) (u : Way) (facts facts' : List Fact) → OwnersStand home v facts before_it s → AreLeft home v facts facts' u
      → ((w : Way) → before_it w → gone w) → ((w : Way) → Under u w → gone w) → OwnersStand home v facts' gone s
  taken_back s u facts facts' stand left more adds = record {
    owned = stand.owned;
    covered = stand.covered;
    known = λ w m n r h. by_either (stand.known w m n r h)
        (λ (z, moved, leads). (by_either (left.moved z moved.0 moved.1) (λ stays. (inl (z, (moved.0, stays), leads))) (λ under. (inr (adds w (subst (Under u) leads under))))))
        (λ else. (inr (more w else)));
  }

  pub emptied : (s t : View) (u : Way) (l : Loc) (facts facts' : List Fact) → IsEmptied s t l → OwnersStand home v facts before_it s → IsRooted u
      → Reaches s u l → AreLeft home v facts facts' u
      → ((w : Way) → before_it w → (Under u w → ⊥) → gone w)
      → ((p : List Step) → gone (along u p)) → OwnersStand home v facts' gone t
  emptied s t u l facts facts' d stand rooted reaches left more adds = record {
    owned = owned_then s t l d stand.owned;
    covered = covered_then s t l d stand.covered;
    known = λ w m n r h. by_either (below l m)
        (λ b. (
        let same : w ≡ along u b.0 =
        one_way s stand.owned w (along u b.0) m (before s t l d w m n r) (subst (Reaches s (along u b.0)) (sym b.1) (reaches_along s u l b.0 reaches)) in
        inr (subst gone (sym same) (adds b.0))))
        (λ outside. (by_either (stand.known w m n (before s t l d w m n r) (sym (d.off m outside) ∙ h))
        (λ (z, moved, leads). (by_either (left.moved z moved.0 moved.1)
        (λ stays. (inl (z, (moved.0, stays), leads)))
        (λ under. (absurd (outside (inside_there s t l d stand.owned u rooted reaches w m n (subst (Under u) leads under) r))))))
        (λ else. (inr (more w else (λ under. outside (inside_there s t l d stand.owned u rooted reaches w m n under r)))))));
  }
