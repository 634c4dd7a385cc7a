-- The formals of the frame that runs, copied back one after the other.
use Rattle.std.proofs.Common.{◌≡◌, ℕ, zero, suc, ◌+◌, ◌-◌, ◌≤◌, List, [], ◌∷◌, map, length, drop, refl, sym, ap, ◌∙◌, arith, Some, Option}
use Rattle.std.specs.Prelude.{slice_get}
use Rattle.std.proofs.lemmas.List.{length-map, drop_all}
use Rattle.run_codes.specs.Points.{Return}
use Rattle.slot_frames.specs.declared.rows.Frame.{Frame}
use Rattle.slot_frames.specs.declared.rows.Return.{Return as Row}
use Rattle.slot_frames.specs.Stacks.{Stacked}
use Rattle.slot_frames.specs.Frames.{return_of}
use Rattle.slot_frames.specs.Parts.{own_returns}

-- Those from a number on, among all frames'.
abbrev pub returns_from : Stacked → ℕ → List Return
returns_from s i = drop i (map return_of s.returns)

own_are : (s : Stacked) → own_returns s ≡ returns_from s s.frame.returns
unfolding own_returns
own_are s = refl

-- Where the frame that runs is told.
pub own_from : (s : Stacked) (f : Frame) → f ≡ s.frame → own_returns s ≡ returns_from s f.returns
own_from s f is = own_are s ∙ ap (λ (g : Frame). returns_from s g.returns) (sym is)

row_next : (rows : List Row) (i : ℕ) (r : Row) → slice_get rows i ≡ Some r → drop i (map return_of rows) ≡ return_of r ∷ drop (i + 1) (map return_of rows)
row_next [] i r is = absurd (let never : ◌≡◌ {A = Option Row} (slice_get [] i) (Some r) = is in cc)
row_next (x ∷ rows) zero r is = ap (λ y. return_of y ∷ map return_of rows) (same is)
  where
    same : ◌≡◌ {A = Option Row} (Some x) (Some r) → x ≡ r
    same is = cc
row_next (x ∷ rows) (suc i) r is = row_next rows i r is ∙ ap (λ n. return_of r ∷ drop n (map return_of (x ∷ rows))) (next i)
  where
    next : (i : ℕ) → suc (i + 1) ≡ suc i + 1
    next i = omega arith

-- One more of them.
pub returns_next : (s : Stacked) (i : ℕ) (r : Row) → slice_get s.returns i ≡ Some r → returns_from s i ≡ return_of r ∷ returns_from s (i + 1)
returns_next s i r is = row_next s.returns i r is

-- No more.
pub returns_end : (s : Stacked) (i : ℕ) → length s.returns ≤ i → returns_from s i ≡ []
returns_end s i le = drop_all i (map return_of s.returns) (omega (arith, le, length-map s.returns return_of))

-- There is none.
pub none_own : (s : Stacked) (f : Frame) → f ≡ s.frame → length s.returns - f.returns ≡ 0 → own_returns s ≡ []
none_own s f is none = own_from s f is ∙ returns_end s f.returns (omega (arith, none))

-- There is one.
pub one_own : (s : Stacked) (f : Frame) (r : Row) → f ≡ s.frame → slice_get s.returns f.returns ≡ Some r → length s.returns - f.returns ≡ 1 → own_returns s ≡ return_of r ∷ []
one_own s f r is there one = own_from s f is ∙ returns_next s f.returns r there ∙ ap (λ l. return_of r ∷ l) (returns_end s (f.returns + 1) (omega (arith, one)))
