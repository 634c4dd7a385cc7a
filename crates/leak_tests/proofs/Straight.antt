-- Control paths of code without branches: there is one to each point.
use Rattle.std.proofs.Common.{◌≡◌, refl, sym, ap, ◌∙◌, inl, inr, ℕ, zero, suc, ◌+◌, Bool, true, ◌&&◌, ◌==◌, List, [], ◌∷◌, eqb-true, arith}
use Rattle.spark_base.specs.Lists.{Has}
use Rattle.place_names.proofs.Names.{both_parts}
use Rattle.flow_paths.specs.Paths.{PathPoint, path_point, ControlPath, begins, goes_on}

-- Each point is followed by the next one alone.
abbrev pub follows : ℕ → List ℕ → Bool
follows n [] = true
follows n (b ∷ next) = (b == suc n) && follows n next

abbrev pub is_straight : ℕ → List PathPoint → Bool
is_straight n [] = true
is_straight n (p ∷ rest) = follows n p.next && is_straight (suc n) rest

-- The points before one, the latest first.
abbrev pub down : ℕ → List ℕ
down zero = []
down (suc n) = n ∷ down n

follows_one : (n : ℕ) (next : List ℕ) (b : ℕ) → follows n next ≡ true → Has next b → b ≡ suc n
follows_one n [] b e h = absurd h
follows_one n (c ∷ next) b e h =
    let both = both_parts (c == suc n) (follows n next) e in
    elim h [ inl same ↦ sym same ∙ eqb-true c (suc n) both.0 | inr more ↦ follows_one n next b both.1 more ]

next_one : (n : ℕ) (points : List PathPoint) (a b : ℕ) → is_straight n points ≡ true → Has (path_point points a).next b → b ≡ suc (n + a)
next_one n [] a b e h = absurd h
next_one n (p ∷ rest) zero b e h =
    let one = follows_one n p.next b (both_parts (follows n p.next) (is_straight (suc n) rest) e).0 h in omega (arith, one)
next_one n (p ∷ rest) (suc a) b e h =
    let one = next_one (suc n) rest a b (both_parts (follows n p.next) (is_straight (suc n) rest) e).1 h in omega (arith, one)

pub straight : (points : List PathPoint) (before : List ℕ) (p : ℕ) → is_straight 0 points ≡ true → ControlPath points before p → before ≡ down p
straight points before' p' e (begins some) = refl
straight points before' p' e (goes_on before a b path edge) =
    let one = next_one 0 points a b e edge in
    let next : suc a ≡ b = omega (arith, one) in
    ap (λ l. a ∷ l) (straight points before a e path) ∙ ap down next
