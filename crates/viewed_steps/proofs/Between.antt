-- A move that a call makes, or its end: no fact changes, and what is gone after it is known otherwise.
use Rattle.std.proofs.Common.{◌≡◌, refl, sym, ap, ◌∙◌, subst, ◌⊎◌, inl, inr, ℕ, suc, ◌<◌, Bool, true, false, List, [], ◌∷◌, arith, if◌then◌else◌}
use Rattle.machine.specs.spark_base.Lists.{Has}
use Rattle.machine.specs.place_names.declared.fact.Fact.{Fact}
use Rattle.machine.specs.place_names.declared.fact.Fact.TheVariants.{Lent, Moved}
use Rattle.soundness.specs.OwnedWays.Ways.{Step, OfVariable, OfHand, Loc, OfRoot, OfCell, Way, Object, Lost, Into, All, Gone, View, Reaches, IsSame, part, along, IsRooted, Under, Named, base_of, number_of, Owned, Covered, Known, Sound}
use Rattle.soundness.proofs.OwnedWays.Locations.{under_along, under_itself}
use Rattle.soundness.proofs.OwnedWays.Named.{longer}
use Rattle.soundness.proofs.OwnedWays.Moving.{Given, owned_after, covered_after, known_after}
use Rattle.soundness.proofs.OwnedWays.Dropped.{named_base}
use Rattle.soundness.specs.OwnedLoans.Views.{Views, IsMovedBy}
use Rattle.soundness.proofs.OwnedLoans.Ways.{beginnings}
use Rattle.machine.specs.flow_paths.Objects.{Typing, is_package_object}
use Rattle.machine.specs.Memory.{Memory, Place}
use Rattle.machine.specs.States.{Return}
use Rattle.soundness.specs.Seen.{IsNear, content, word_in, home}
use Rattle.viewed_steps.specs.Taken.{Lodge, IsInside, IsAmong, IsBare, TakenBy, AreTaken, AreCarried}
use Rattle.soundness.proofs.OwnedWays.Assigned.{same_sound}

-- where owners see the same, ways reach the same
pub same_reaches : (s t : View) → IsSame s t → (w : Way) (l : Loc) → Reaches s w l → Reaches t w l
same_reaches s t e (Object r) l h = h
same_reaches s t e (Lost n) l h = (e.leaked n ∙ h.0, h.1)
same_reaches s t e (Into w i) l (m, h, is) = (m, same_reaches s t e w m h, is)
same_reaches s t e (All w) l (m, n, h, held, is) = (m, n, same_reaches s t e w m h, e.word m ∙ held, is)

-- ---- what is gone meanwhile

-- While a call begins or ends: the state is well owned, and what ways find gone is moved by facts, or among these ways.
pub record OwnersStand (home : ℕ → ℕ) (v : Views) (facts : List Fact) (gone : Way → Type 0) (s : View) : Type 0 where
  pub owned : Owned s
  pub covered : Covered s
  pub known : Known s (λ w. IsMovedBy home v facts w ⊎ gone w)

module _ (home : ℕ → ℕ) (v : Views) (facts : List Fact) where
  -- more may be gone
  pub more_gone : (before gone : Way → Type 0) (s : View) → ((w : Way) → before w → gone w) → OwnersStand home v facts before s → OwnersStand home v facts gone s
  more_gone before gone s more stand = record {
    owned = stand.owned;
    covered = stand.covered;
    known = λ w l rooted r is. elim (stand.known w l rooted r is) [ inl m ↦ inl m | inr o ↦ inr (more w o) ];
  }

  -- with all facts among what is gone
  pub as_sound : (gone : Way → Type 0) (s : View) → OwnersStand home v facts gone s → Sound home (λ w. IsMovedBy home v facts w ⊎ gone w) s []
  as_sound gone s stand = record { owned = stand.owned; covered = stand.covered; known = λ w l rooted r is. inr (stand.known w l rooted r is) }

  pub from_sound : (gone : Way → Type 0) (s : View) → Sound home (λ w. IsMovedBy home v facts w ⊎ gone w) s [] → OwnersStand home v facts gone s
  from_sound gone s sound = record {
    owned = sound.owned;
    covered = sound.covered;
    known = λ w l rooted r is. elim (sound.known w l rooted r is) [ inl moved ↦ absurd moved.1 | inr there ↦ there ];
  }

  -- where owners see the same
  pub same_stand : (gone : Way → Type 0) (s t : View) → IsSame s t → OwnersStand home v facts gone s → OwnersStand home v facts gone t
  same_stand gone s t same stand = from_sound gone t (same_sound home (λ w. IsMovedBy home v facts w ⊎ gone w) s t [] same (as_sound gone s stand))

  pub moved_between : (before gone : Way → Type 0) (s t : View) (f k : Way) (from to : Loc) → Given s t f k from to
      → OwnersStand home v facts before s → IsRooted f
      → ((w : Way) → Under f w → IsMovedBy home v facts w ⊎ before w → ⊥)
      → ((w : Way) → before w → (Under k w → ⊥) → gone w)
      → ((p : List Step) → t.word (part from p) ≡ Gone → gone (along f p))
      → OwnersStand home v facts gone t
  moved_between before gone s t f k from to given stand rooted clean stays adds = record {
    owned = owned_after s t f k from to given;
    covered = covered_after s t f k from to given stand.covered;
    known = known_after s t f k from to (λ w. IsMovedBy home v facts w ⊎ before w) (λ w. IsMovedBy home v facts w ⊎ gone w) given stand.known rooted clean
        (λ w moved apart. elim moved [ inl m ↦ inl m | inr o ↦ inr (stays w o apart) ]) (λ p is. inr (adds p is));
  }

-- ---- ways that were taken

-- what begins one with a way that it is apart from isn't taken by that
pub not_taken : (to : Way) (ways : List Way) → ((k : Way) → Has ways k → (Under to k → ⊥) × (Under k to → ⊥)) → (w : Way) → Under to w → TakenBy ways w → ⊥
not_taken to ways apart w under these =
    let (k, has, p, is) = these in
    let below : Under k w = subst (Under k) (sym is) (under_along k k p (under_itself k)) in
    elim (beginnings to k w under below) [ inl a ↦ (apart k has).0 a | inr b ↦ (apart k has).1 b ]

pub taken_more : (to : Way) (ways : List Way) (w : Way) → TakenBy ways w → TakenBy (to ∷ ways) w
taken_more to ways w (k, has, p, is) = (k, inr has, p, is)

-- of what is taken, what isn't below the first is taken by the others
pub taken_less : (to : Way) (ways : List Way) (w : Way) → TakenBy (to ∷ ways) w → (Under to w → ⊥) → TakenBy ways w
taken_less to ways w (k, inl same, p, is) off =
    absurd (off (subst (λ z. Under z w) (sym same) (subst (Under k) (sym is) (under_along k k p (under_itself k)))))
taken_less to ways w (k, inr has, p, is) off = (k, has, p, is)

-- ---- what is carried

pub carried_same : (s : Typing) (these : ℕ → Type 0) (cells : List Lodge) (ways : List Way) (m n : Memory)
    → ((f x : ℕ) (p : List Step) → word_in s.table (content s n [] (OfRoot (OfVariable f x))) p ≡ word_in s.table (content s m [] (OfRoot (OfVariable f x))) p)
    → ((c : ℕ) (p : List Step) → word_in s.table (content s n [] (OfCell c)) p ≡ word_in s.table (content s m [] (OfCell c)) p) → AreCarried s these cells ways m n
carried_same s these cells ways m n same same_cells = record {
  held = λ f x p c there off held. sym (same f x p) ∙ held;
  gone = λ f x p there off gone. same f x p ∙ gone;
  in_cells = λ k p c off held. sym (same_cells k p) ∙ held;
  gone_cells = λ k p off gone. same_cells k p ∙ gone;
}

pub carried_then : (s : Typing) (these : ℕ → Type 0) (cells : List Lodge) (first second all : List Way) (m k n : Memory) → ((w : Way) → TakenBy first w → TakenBy all w)
    → ((w : Way) → TakenBy second w → TakenBy all w) → AreCarried s these cells first m k → AreCarried s these cells second k n → AreCarried s these cells all m n
carried_then s these cells first second all m k n less more one two = record {
  held = λ f x p c there off held.
      one.held f x p c there (λ taken. off (less (along (Object (OfVariable f x)) p) taken))
      (two.held f x p c there (λ taken. off (more (along (Object (OfVariable f x)) p) taken)) held);
  gone = λ f x p there off gone.
      two.gone f x p there (λ taken. off (more (along (Object (OfVariable f x)) p) taken))
      (one.gone f x p there (λ taken. off (less (along (Object (OfVariable f x)) p) taken)) gone);
  in_cells = λ k p c off held.
      one.in_cells k p c (λ (l, has, is, taken). off (l, has, is, less (along l.way p) taken))
      (two.in_cells k p c (λ (l, has, is, taken). off (l, has, is, more (along l.way p) taken)) held);
  gone_cells = λ k p off gone.
      two.gone_cells k p (λ (l, has, is, taken). off (l, has, is, more (along l.way p) taken))
      (one.gone_cells k p (λ (l, has, is, taken). off (l, has, is, less (along l.way p) taken)) gone);
}

-- ---- where ways begin

pub base_along : (w : Way) (p : List Step) → base_of (along w p) ≡ base_of w
base_along w [] = refl
base_along w (i ∷ p) = base_along w p

-- a way below another one begins where that does
pub base_under : (t w : Way) → Under t w → base_of w ≡ base_of t
base_under t w under = (longer t w under).base

pub same_variable : (f x g y : ℕ) → OfRoot (OfVariable f x) ≡ OfRoot (OfVariable g y) → (f ≡ g) × (x ≡ y)
same_variable f x g y e = (cc, cc)

-- A way begins at a variable of a frame, or at a package object; or at a variable of a frame below that isn't that of
-- the package objects.
abbrev pub IsBegun : Typing → ℕ → ℕ → ℕ → Type 0
IsBegun s depth f y = (f ≡ home s depth y) ⊎ ((0 < f) × (f < suc depth))

abbrev pub Begins : Typing → ℕ → Way → Type 0
Begins s depth to = (f : ℕ) × (y : ℕ) × (base_of to ≡ OfRoot (OfVariable f y)) × IsBegun s depth f y

-- a frame of its own, or that of the package objects
pub home_low : (s : Typing) (d y : ℕ) → home s d y < suc d
home_low s d y = by_package (is_package_object s y)
  where
    by_package : (b : Bool) → (if b then 0 else d) < suc d
    by_package true = omega arith
    by_package false = omega arith

-- not above that frame
pub begun_low : (s : Typing) (depth f y : ℕ) → IsBegun s depth f y → f < suc depth
begun_low s depth f y (inl at_home) = (let low = home_low s depth y in omega (arith, at_home, low))
begun_low s depth f y (inr (some, less)) = omega (arith, less)

pub number_based : (home : ℕ → ℕ) (w : Way) (y : ℕ) → Named home w → base_of w ≡ OfRoot (OfVariable (home y) y) → number_of w ≡ y
number_based home w y named base = (same_variable (home (number_of w)) (number_of w) (home y) y (sym (named_base home w named) ∙ base)).1

-- a name of a frame isn't rooted in another one
pub not_named : (home : ℕ → ℕ) (e x : ℕ) → ((y : ℕ) → home y ≡ e → ⊥) → (w : Way) → Named home w → base_of w ≡ OfRoot (OfVariable e x) → ⊥
not_named home e x other w named base =
    other (number_of w) (same_variable (home (number_of w)) (number_of w) e x (sym (named_base home w named) ∙ base)).0

-- so it is with what was taken
pub taken_from : (s : Typing) (sees : ℕ → Bool) (cells : List Lodge) (m : Memory) (depth : ℕ) (v : Views) (facts : List Fact) (scope : List ℕ) (returns : List Return) (ways : List Way)
    → AreTaken s sees cells m depth v facts scope returns ways → (k : Way) → Has ways k → Begins s depth k
taken_from s sees cells m depth v facts scope [] ways none k has = absurd (subst (λ z. Has z k) none has)
taken_from s sees cells m depth v facts scope (r ∷ rest) [] taken k has = absurd has
taken_from s sees cells m depth v facts scope (r ∷ rest) (to ∷ ways) (inl copied) k has = taken_from s sees cells m depth v facts scope rest (to ∷ ways) copied.1 k has
taken_from s sees cells m depth v facts scope (r ∷ rest) (to ∷ ways) (inr (one, apart, another, more)) k (inl same) = (
  (one.0).inside.frame,
  (one.0).inside.object,
  ap base_of (sym same ∙ (one.0).inside.way) ∙ base_along (one.0).inside.trunk (one.0).inside.steps ∙ (one.0).inside.root,
  (one.0).inside.begins,
)
taken_from s sees cells m depth v facts scope (r ∷ rest) (to ∷ ways) (inr (one, apart, another, more)) k (inr has) = taken_from s sees cells m depth v facts scope rest ways more k has

pub taken_base : (s : Typing) (ways : List Way) (depth : ℕ) → ((k : Way) → Has ways k → Begins s depth k)
    → (w : Way) → TakenBy ways w → Begins s depth w
taken_base s ways depth begin w these = let (k, has, p, is) = these in (let base = begin k has in (base.0, base.1, ap base_of is ∙ base_along k p ∙ base.2, base.3))

-- it stays so where no number comes to them
pub still_taken : (s : Typing) (sees : ℕ → Bool) (cells : List Lodge) (m n : Memory) (depth : ℕ) (v : Views) (facts : List Fact) (scope : List ℕ) (returns : List Return) (ways : List Way)
    → ((k : Place) (to : Way) → Has ways to → (inside : IsInside s depth k to) → IsAmong cells inside.start inside.trunk → IsBare s depth k to m inside → IsBare s depth k to n inside)
    → AreTaken s sees cells m depth v facts scope returns ways → AreTaken s sees cells n depth v facts scope returns ways
still_taken s sees cells m n depth v facts scope [] ways still none = none
still_taken s sees cells m n depth v facts scope (r ∷ rest) [] still taken = (taken.0, still_taken s sees cells m n depth v facts scope rest [] still taken.1)
still_taken s sees cells m n depth v facts scope (r ∷ rest) (to ∷ ways) still (inl copied) = inl (copied.0, still_taken s sees cells m n depth v facts scope rest (to ∷ ways) still copied.1)
still_taken s sees cells m n depth v facts scope (r ∷ rest) (to ∷ ways) still (inr (one, apart, another, more)) = inr (
  (one.0, still r.to to (inl refl) (one.0).inside (one.0).among one.1),
  apart,
  another,
  still_taken s sees cells m n depth v facts scope rest ways (λ k w has. still k w (inr has)) more,
)

-- what begins at a variable of a frame between isn't near
pub near_base : (b : ℕ) (w : Way) (f x : ℕ) → IsNear b w → base_of w ≡ OfRoot (OfVariable f x) → (f ≡ 0) ⊎ (f ≡ b)
near_base b (Object (OfVariable g y)) f x near base = (let same = (same_variable g y f x base).0 in elim near [ inl e ↦ inl (sym same ∙ e) | inr e ↦ inr (sym same ∙ e) ])
near_base b (Object (OfHand h)) f x near base = cc
near_base b (Lost n) f x near base = absurd near
near_base b (Into w i) f x near base = near_base b w f x near base
near_base b (All w) f x near base = near_base b w f x near base

-- what is known of places that were taken holds of fewer facts
pub fewer_taken : (s : Typing) (sees : ℕ → Bool) (cells : List Lodge) (m : Memory) (depth : ℕ) (v : Views) (all facts : List Fact) (scope : List ℕ) → ((f : Fact) → Has facts f → Has all f)
    → (returns : List Return) (ways : List Way) → AreTaken s sees cells m depth v all scope returns ways → AreTaken s sees cells m depth v facts scope returns ways
fewer_taken s sees cells m depth v all facts scope part [] ways taken = taken
fewer_taken s sees cells m depth v all facts scope part (r ∷ rest) [] (copied, more) = (copied, fewer_taken s sees cells m depth v all facts scope part rest [] more)
fewer_taken s sees cells m depth v all facts scope part (r ∷ rest) (to ∷ ways) (inl (copied, more)) =
    inl (copied, fewer_taken s sees cells m depth v all facts scope part rest (to ∷ ways) more)
fewer_taken s sees cells m depth v all facts scope part (r ∷ rest) (to ∷ ways) (inr ((passed, bare), apart, another, more)) =
    inr (
      (
        record {
          inside = passed.inside;
          name = passed.name;
          called = passed.called;
          leads = passed.leads;
          plain = passed.plain;
          among = passed.among;
          fits = passed.fits;
          formal = passed.formal;
          owner = passed.owner;
          many = passed.many;
          within = passed.within;
          unlent = λ l h n has over. passed.unlent l h n (part (Lent l h n) has) over;
          cleared = λ n has covered. passed.cleared n (part (Moved n) has) covered;
        },
        bare,
      ),
      apart,
      another,
      fewer_taken s sees cells m depth v all facts scope part rest ways more,
    )
