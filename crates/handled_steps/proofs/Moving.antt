-- Spots that are reached, and bounds of values, over both heaps.
use Rattle.std.proofs.Common.{◌≡◌, refl, sym, ap, ◌∙◌, subst, ℕ, List, [], ◌∷◌, length, slice_get, ℤ}
use Rattle.handled_runs.specs.type_definitions.declared.judgement.View.{View}
use Rattle.handled_runs.specs.type_definitions.declared.judgement.View.TheVariants as view
use Rattle.handled_runs.specs.type_definitions.Types.{Table, full}
use Rattle.handled_runs.specs.run_values.declared.value.Kind.{Kind}
use Rattle.handled_runs.specs.kept_cells.Cells.{Cell}
use Rattle.handled_runs.specs.run_codes.Flat.{Flat, Given, Stops, Stop, touched, Spot, InStack, InCell}
use Rattle.handled_runs.specs.run_codes.Points.{within_bounds, fits}
use Rattle.handled_runs.specs.run_codes.Points as points
use Rattle.handled_runs.specs.Beside.{IsSilent, all_renamed}
use Rattle.handled_runs.proofs.Gots.{there_of, touch_silent}
use Rattle.handled_runs.proofs.Words.{data_renamed}
use Rattle.handled_steps.specs.Backs.{IsOneData, FitsOf}

-- A spot is reached as it is, where its cell isn't freed.
pub reached_is : (m : Flat) (q r : Spot) → points.reached m q ≡ Given r → r ≡ q
reached_is m (InStack n) r e = (let same : InStack n ≡ r = cc in sym same)
reached_is m (InCell n o) r e =
    let there = there_of (slice_get m.cells n) (λ (c : Cell). Given (InCell n o)) r e in
    let reads : Given (InCell n o) ≡ Given r = sym (ap (λ x. touched x (λ (c : Cell). Given (InCell n o))) there.1) ∙ e in
    (let same : InCell n o ≡ r = cc in sym same)

pub reached_silent : (m : Flat) (q : Spot) (x : Stop) → points.reached m q ≡ Stops x → IsSilent x
reached_silent m (InStack n) x e = cc
reached_silent m (InCell n o) x e = touch_silent (slice_get m.cells n) (λ (c : Cell). Given (InCell n o)) x (λ c f. absurd (never c f)) e
  where
    never : (c : Cell) → Given (InCell n o) ≡ Stops x → ⊥
    never c f = cc

-- ---- bounds

one_renamed : (handles : List ℕ) (ks : List Kind) (zs : List ℤ) → IsOneData ks → length ks ≡ length zs → all_renamed handles ks zs ≡ zs
one_renamed handles ks zs (k, is, data_kind) long = subst (λ js. all_renamed handles js zs ≡ zs) (sym is) (by zs (sym (ap length is) ∙ long))
  where
    by : (ws : List ℤ) → length (k ∷ []) ≡ length ws → all_renamed handles (k ∷ []) ws ≡ ws
    by [] e = cc
    by (w ∷ []) e = ap (λ x. x ∷ []) (data_renamed handles k w data_kind)
    by (w ∷ v ∷ rest) e = cc

within_same : (handles : List ℕ) (v : View) (ks : List Kind) (zs : List ℤ) → FitsOf v ks → length ks ≡ length zs → within_bounds v (all_renamed handles ks zs) ≡ within_bounds v zs
within_same handles view.Hidden ks zs is long = refl
within_same handles (view.Whole low high) ks zs is long = ap (within_bounds (view.Whole low high)) (one_renamed handles ks zs is long)
within_same handles (view.Listed low high) ks zs is long = ap (within_bounds (view.Listed low high)) (one_renamed handles ks zs is long)
within_same handles (view.Access designated constant named) ks zs is long = refl
within_same handles view.Fields ks zs is long = refl
within_same handles (view.Elements low high element) ks zs is long = refl

pub fits_same : (handles : List ℕ) (table : Table) (of : ℕ) (ks : List Kind) (zs : List ℤ) → FitsOf (full table of) ks → length ks ≡ length zs → fits table of (all_renamed handles ks zs) ≡ fits table of zs
fits_same handles table of ks zs is long = within_same handles (full table of) ks zs is long
