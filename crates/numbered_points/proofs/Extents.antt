-- How extents add up.
use Rattle.std.proofs.Common.{◌≡◌, ℕ, ◌+◌, ◌*◌, List, [], ◌++◌, length, refl, arith, length-append, ap, ◌∙◌}
use Rattle.std.proofs.Math.Nat.{add-mul, mul-add}
use Rattle.flow_paths.specs.Objects.{Typing}
use Rattle.flow_paths.specs.Points.{NamedPoint}
use Rattle.flow_paths.specs.Layout.{Around}
use Rattle.flow_paths.specs.Laid.{Temporary}
use Rattle.numbered_points.specs.Extents.{Extent, extent, both, in_turns, ending_with}
use Rattle.numbered_points.proofs.Fillings.{Measured, measured_both, measured_as}

-- The points where i scopes end up to the loop, and j up to the subprogram.
abbrev pub total : Extent → ℕ → ℕ → ℕ
total a i j = a.own + a.exits * i + a.returns * j

abbrev pub in_ways : Extent → Around → ℕ
in_ways a w = total a (length w.in_loop) (length w.in_all)

-- What has an extent.
abbrev pub Extends : Typing → List NamedPoint → Extent → ℕ → ℕ → List Temporary → Type 0
Extends s ps a i j ts = Measured s ps (total a i j) a.filled ts

sums : (a b c d e f i j : ℕ) → a + b * i + c * j + (d + e * i + f * j) ≡ a + d + (b + e) * i + (c + f) * j
sums a b c d e f i j =
    let first : (b + e) * i ≡ b * i + e * i = add-mul b e i in
    let second : (c + f) * j ≡ c * j + f * j = add-mul c f j in
    omega (arith, first, second)

pub total_both : (a b : Extent) (i j : ℕ) → total a i j + total b i j ≡ total (both a b) i j
total_both a b i j = sums a.own a.exits a.returns b.own b.exits b.returns i j

pub join : (s : Typing) (ps qs : List NamedPoint) (a b : Extent) (i j : ℕ) (ts us : List Temporary)
    → Extends s ps a i j ts → Extends s qs b i j us → Extends s (ps ++ qs) (both a b) i j (ts ++ us)
join s ps qs a b i j ts us h g =
    measured_as s (ps ++ qs) (total a i j + total b i j) (total (both a b) i j) (a.filled + b.filled) (a.filled + b.filled) (ts ++ us)
    (total_both a b i j) refl
    (measured_both s ps qs (total a i j) (total b i j) a.filled b.filled ts us h g)

pub plain_total : (n i j : ℕ) → n ≡ n + 0 * i + 0 * j
plain_total n i j = omega arith

-- Points of which no exit and no return leaves.
pub plain : (s : Typing) (ps : List NamedPoint) (n u i j : ℕ) (ts : List Temporary) → Measured s ps n u ts → Extends s ps (extent n 0 0 u) i j ts
plain s ps n u i j ts h = measured_as s ps n (n + 0 * i + 0 * j) u u ts (plain_total n i j) refl h

pub turns_total : (a b c i j : ℕ) → a + b * 0 + c * j ≡ a + 0 * i + c * j
turns_total a b c i j = omega arith

pub turns : (s : Typing) (ps : List NamedPoint) (a : Extent) (i j : ℕ) (ts : List Temporary) → Extends s ps a 0 j ts → Extends s ps (in_turns a) i j ts
turns s ps a i j ts h =
    measured_as s ps (total a 0 j) (total (in_turns a) i j) a.filled a.filled ts (turns_total a.own a.exits a.returns i j) refl h

pub block_sums : (a b c e i j : ℕ) → a + b * (e + i) + c * (e + j) + e ≡ a + e + (b + c) * e + b * i + c * j
block_sums a b c e i j =
    let first : b * (e + i) ≡ b * e + b * i = mul-add b e i in
    let second : c * (e + j) ≡ c * e + c * j = mul-add c e j in
    let third : (b + c) * e ≡ b * e + c * e = add-mul b c e in
    omega (arith, first, second, third)

-- Code, and the ends of its scopes after it.
pub block : (s : Typing) (ps qs : List NamedPoint) (a : Extent) (w : Around) (xs : List ℕ) (ts : List Temporary)
    → Extends s ps a (length (xs ++ w.in_loop)) (length (xs ++ w.in_all)) ts → Measured s qs (length xs) 0 []
    → Extends s (ps ++ qs) (ending_with (length xs) a) (length w.in_loop) (length w.in_all) (ts ++ [])
block s ps qs a w xs ts h g =
    let e : ℕ = length xs in
    let lengths : total a (length (xs ++ w.in_loop)) (length (xs ++ w.in_all)) ≡ total a (e + length w.in_loop) (e + length w.in_all) =
    (λ k. total a (length-append xs w.in_loop k) (length-append xs w.in_all k)) in
    measured_as s (ps ++ qs) (total a (length (xs ++ w.in_loop)) (length (xs ++ w.in_all)) + e) (total (ending_with e a) (length w.in_loop) (length w.in_all))
    (a.filled + 0) a.filled (ts ++ [])
    (ap (λ n. n + e) lengths ∙ block_sums a.own a.exits a.returns e (length w.in_loop) (length w.in_all)) (omega arith)
    (measured_both s ps qs (total a (length (xs ++ w.in_loop)) (length (xs ++ w.in_all))) e a.filled 0 ts [] h g)
