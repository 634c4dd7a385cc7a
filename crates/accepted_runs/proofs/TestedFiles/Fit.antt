-- A table in which no type has itself in it is fit: depths are ranks.
use Rattle.std.proofs.Common.{◌≡◌, inl, inr, ℕ, zero, suc, ◌+◌, ◌<◌, ◌≤◌, Bool, true, not, ◌&&◌, List, [], ◌∷◌, refl, sym, ap, ◌∙◌, arith, length, get_or, nat_eq, nat_lt, nat_le, slice_get, Option, Some, None}
use Rattle.std.specs.List.{list_all}
use Rattle.std.proofs.lemmas.Bool.{and_from, cases_lt, or_left, or_right}
use Rattle.std.proofs.lemmas.List.{get_or_past}
use Rattle.machine.specs.type_definitions.declared.table.Component.{Component}
use Rattle.machine.specs.type_definitions.declared.table.Info.{Info}
use Rattle.machine.specs.type_definitions.declared.table.Shape.{Shape}
use Rattle.machine.specs.type_definitions.declared.table.Shape.TheVariants as shape
use Rattle.machine.specs.type_definitions.Types.{Table, info_found, shape_found, full, words}
use Rattle.machine.specs.type_definitions.Declarations.{any_of, holds_shape, holds_parent}
use Rattle.machine.specs.type_definitions.Entries.{boolean}
use Rattle.type_settled.specs.Reach.{holds}
use Rattle.type_settled.specs.Rings.{IsPart}
use Rattle.settled_types.specs.Wholes.{written, AreFinite}
use Rattle.settled_types.proofs.Ringless.{depth, depth_past, lower, itself}
use Rattle.settled_types.specs.TableLaws.Ranks.{rank, is_below, shape_all, parent_all, is_ranked, is_same_as, is_plain, fits, is_listed, IsFit}

is_less : (a b : ℕ) → a < b → nat_lt a b ≡ true
is_less a b lt = grind (arith, lt)

is_few : (a b : ℕ) → a ≤ b → nat_le a b ≡ true
is_few a b le = grind (arith, le)

-- ---- what a type is made of is as asked, where each part of it is

module _ (f : ℕ → Bool) where
  components_each : (cs : List Component) → ((v : ℕ) → any_of (λ u. nat_eq u v) cs ≡ true → f v ≡ true) → list_all (λ (c : Component). f c.of) cs ≡ true
  components_each [] each = refl
  components_each (c ∷ cs) each =
      and_from (f c.of) (list_all (λ (c : Component). f c.of) cs)
      (each c.of (or_left (nat_eq c.of c.of) (any_of (λ u. nat_eq u c.of) cs) (itself c.of)))
      (components_each cs (λ v is. each v (or_right (nat_eq c.of v) (any_of (λ u. nat_eq u v) cs) is)))

  shape_each : (s : Shape) → ((v : ℕ) → holds_shape (λ u. nat_eq u v) s ≡ true → f v ≡ true) → shape_all f s ≡ true
  shape_each (shape.Whole low high) each = refl
  shape_each (shape.Listed literals low high) each = refl
  shape_each (shape.Access t constant named) each = refl
  shape_each (shape.Fields cs) each = components_each cs each
  shape_each (shape.Elements low high t) each = each t (itself t)
  shape_each (shape.Same t) each = each t (itself t)

  parent_each : (p : Option ℕ) → ((v : ℕ) → holds_parent (λ u. nat_eq u v) p ≡ true → f v ≡ true) → parent_all f p ≡ true
  parent_each None each = refl
  parent_each (Some t) each = each t (itself t)

-- ---- the depths of all types

abbrev listed_from : (ℕ → ℕ) → ℕ → ℕ → List ℕ
listed_from f k zero = []
listed_from f k (suc n) = f k ∷ listed_from f (suc k) n

listed_at : (f : ℕ → ℕ) (k n t : ℕ) → t < n → get_or (listed_from f k n) t 0 ≡ f (k + t)
listed_at f k zero t lt = absurd (omega (arith, lt))
listed_at f k (suc n) zero lt = ap f (same k)
  where
    same : (k : ℕ) → k ≡ k + 0
    same k = omega arith
listed_at f k (suc n) (suc t) lt = listed_at f (suc k) n t (omega (arith, lt)) ∙ ap f (same k t)
  where
    same : (k t : ℕ) → suc k + t ≡ k + suc t
    same k t = omega arith

listed_length : (f : ℕ → ℕ) (k n : ℕ) → length (listed_from f k n) ≡ n
listed_length f k zero = refl
listed_length f k (suc n) = ap suc (listed_length f (suc k) n)

module _ (table : Table) (finite : AreFinite table) (small : (t : ℕ) → words table t ≤ 65536) where
  abbrev depths : List ℕ
  depths = listed_from (depth table) 0 (length table)

  rank_is : (t : ℕ) → rank depths t ≡ depth table t
  rank_is t = elim (cases_lt t (length table)) [
    | inl within ↦ listed_at (depth table) 0 (length table) t within ∙ ap (depth table) (none_more t)
    | inr past ↦
        get_or_past depths t 0 (let long = listed_length (depth table) 0 (length table) in omega (arith, long, past))
        ∙ sym (depth_past table t past)
  ]
    where
      none_more : (n : ℕ) → 0 + n ≡ n
      none_more n = omega arith

  below : (t v : ℕ) → IsPart table v t → is_below depths (rank depths t) v ≡ true
  below t v part =
      is_less (rank depths v) (rank depths t)
      (let a = rank_is t in let b = rank_is v in let lt = lower table finite.lone t v part in omega (arith, a, b, lt))

  ranked_at : (t : ℕ) (i : Info) → slice_get table t ≡ Some i → is_ranked depths t i ≡ true
  ranked_at t i is =
      and_from (shape_all (is_below depths (rank depths t)) i.shape) (parent_all (is_below depths (rank depths t)) i.parent)
      (shape_each (is_below depths (rank depths t)) i.shape (λ v of. below t v (part v (or_left (holds_shape (λ u. nat_eq u v) i.shape) (holds_parent (λ u. nat_eq u v) i.parent) of))))
      (parent_each (is_below depths (rank depths t)) i.parent (λ v up. below t v (part v (or_right (holds_shape (λ u. nat_eq u v) i.shape) (holds_parent (λ u. nat_eq u v) i.parent) up))))
    where
      part : (v : ℕ) → holds true (λ u. nat_eq u v) i ≡ true → IsPart table v t
      part v e = ap (λ o. holds true (λ u. nat_eq u v) (info_found o)) is ∙ e

  plain_at : (t : ℕ) (s : Shape) → written table t ≡ s → is_plain table s ≡ true
  plain_at t (shape.Whole low high) is = refl
  plain_at t (shape.Listed literals low high) is = refl
  plain_at t (shape.Access u constant named) is = refl
  plain_at t (shape.Fields cs) is = refl
  plain_at t (shape.Elements low high u) is = refl
  plain_at t (shape.Same of) is = by (written table of) refl
    where
      by : (s : Shape) → written table of ≡ s → not (is_same_as s) ≡ true
      by (shape.Whole low high) e = refl
      by (shape.Listed literals low high) e = refl
      by (shape.Access u constant named) e = refl
      by (shape.Fields cs) e = refl
      by (shape.Elements low high u) e = refl
      by (shape.Same on) e = absurd (finite.short t of on is e)

  fits_at : (t : ℕ) (o : Option Info) → slice_get table t ≡ o → fits table depths t o ≡ true
  fits_at t None is = refl
  fits_at t (Some i) is =
      and_from (is_ranked depths t i) (is_plain table i.shape && nat_le (words table t) 65536) (ranked_at t i is)
      (and_from (is_plain table i.shape) (nat_le (words table t) 65536) (plain_at t i.shape (ap shape_found is)) (is_few (words table t) 65536 (small t)))

  pub finite_fit : is_listed (full table boolean) ≡ true → IsFit table
  finite_fit truth = record { ranks = depths; types = λ t within. fits_at t (slice_get table t) refl; truth = truth }
