-- Where something stands in a list whose keys differ.
use Rattle.std.proofs.Common.{◌≡◌, suc, ◌+◌, Bool, true, false, cond, not, ◌&&◌, ◌==◌, List, [], ◌∷◌, ◌++◌, length, refl, sym, ap, ◌∙◌, eqb-true, eq-eqb, arith}
use Rattle.std.specs.Bool.{Decides}
use Rattle.std.specs.List.{AllByRecursion, position_or_len}
use Rattle.std.specs.Cmp.Lexicographic.{pointwise_decides}
use Rattle.std.proofs.lemmas.Bool.Decides.{Decides-eqb}
use Rattle.flow_paths.specs.Points.{Place, PointName, same_place, same_point}

-- ---- tests

pub place_decides : (a b : Place) → Decides (same_place a b) (a ≡ b)
place_decides a b = pointwise_decides {E = λ i j. i == j} Decides-eqb a b

both_parts : (a b : Bool) → a && b ≡ true → (a ≡ true) × (b ≡ true)
both_parts true b e = (refl, e)
both_parts false b e = cc

both_true : (a b : Bool) → a ≡ true → b ≡ true → a && b ≡ true
both_true a b e f = ap (λ x. x && b) e ∙ f

pub point_decides : (a b : PointName) → Decides (same_point a b) (a ≡ b)
point_decides a b =
    let places = place_decides a.place b.place in (
      λ e.
          let parts = both_parts (same_place a.place b.place) (a.row == b.row) e in
          let row = eqb-true _ _ parts.1 in
          let place = places.0 parts.0 in
          λ i. record { place = place i; row = row i },
      λ e. both_true (same_place a.place b.place) (a.row == b.row) (places.1 (ap (λ n. n.place) e)) (eq-eqb _ _ (ap (λ n. n.row) e)),
    )

refused : (P : Type 0) (r : Bool) → Decides r P → (P → ⊥) → r ≡ false
refused P true d none = absurd (none (d.0 refl))
refused P false d none = refl

-- ---- lists

-- No two have one key.
abbrev pub DifferBy : {A K : Type 0} → (A → K) → List A → Type 0
DifferBy key [] = Unit {0}
DifferBy key (x ∷ xs) = AllByRecursion (λ y. key x ≡ key y → ⊥) xs × DifferBy key xs

at_seam : {A : Type 0} (P : A → Type 0) (before : List A) (x : A) (rest : List A) → AllByRecursion P (before ++ x ∷ rest) → P x
at_seam P [] x rest h = h.0
at_seam P (y ∷ before) x rest h = at_seam P before x rest h.1

position_at : {A : Type 0} (test : A → Bool) (before : List A) (x : A) (rest : List A) → AllByRecursion (λ y. test y ≡ false) before → test x ≡ true
    → position_or_len test (before ++ x ∷ rest) ≡ length before
position_at test [] x rest h is = ap (λ b. cond (not b) (1 + position_or_len test rest) 0) is
position_at test (y ∷ before) x rest h is =
    ap (λ b. cond (not b) (1 + position_or_len test (before ++ x ∷ rest)) 0) h.0
    ∙ ap (λ n. 1 + n) (position_at test before x rest h.1 is) ∙ (let e : 1 + length before ≡ suc (length before) = omega arith in e)

others_fail : {A K : Type 0} (key : A → K) (test : K → K → Bool) → ((a b : K) → Decides (test a b) (a ≡ b))
    → (before : List A) (x : A) (rest : List A) → DifferBy key (before ++ x ∷ rest) → AllByRecursion (λ y. test (key x) (key y) ≡ false) before
others_fail key test decides [] x rest d = tt
others_fail key test decides (y ∷ before) x rest d = (
  refused (key x ≡ key y) (test (key x) (key y)) (decides (key x) (key y))
      (λ is. at_seam (λ z. key y ≡ key z → ⊥) before x rest d.0 (sym is)),
  others_fail key test decides before x rest d.1,
)

pub position_by : {A K : Type 0} (key : A → K) (test : K → K → Bool) → ((a b : K) → Decides (test a b) (a ≡ b))
    → (before : List A) (x : A) (rest : List A) → DifferBy key (before ++ x ∷ rest)
    → position_or_len (λ y. test (key x) (key y)) (before ++ x ∷ rest) ≡ length before
position_by key test decides before x rest d =
    position_at (λ y. test (key x) (key y)) before x rest (others_fail key test decides before x rest d) ((decides (key x) (key x)).1 refl)
