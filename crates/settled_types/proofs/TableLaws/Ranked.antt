-- In a table whose types have ranks no type has itself in it.
use Rattle.std.proofs.Common.{◌≡◌, inl, inr, ℕ, zero, suc, ◌<◌, ◌≤◌, Bool, true, false, not, ◌&&◌, List, [], ◌∷◌, refl, sym, ap, ◌∙◌, arith, length, nat_eq, nat_lt, nat_le, Option, Some, None}
use Rattle.std.specs.Prelude.{slice_get}
use Rattle.std.specs.List.{list_all}
use Rattle.std.proofs.lemmas.Bool.{cases_lt, false≢true}
use Rattle.std.proofs.lemmas.Option.{slice_get_past}
use Rattle.machine.specs.type_definitions.declared.table.Component.{Component}
use Rattle.machine.specs.type_definitions.declared.table.Info.{Info}
use Rattle.machine.specs.type_definitions.declared.table.Shape.{Shape}
use Rattle.machine.specs.type_definitions.declared.table.Shape.TheVariants as shape
use Rattle.machine.specs.type_definitions.Types.{Table, info_found, shape_found, words, words_of, words_within}
use Rattle.machine.specs.type_definitions.Declarations.{any_of, holds_shape, holds_parent}
use Rattle.type_settled.specs.Reach.{holds}
use Rattle.type_settled.specs.Rings.{IsPart, Inside, here, deeper}
use Rattle.settled_types.specs.Wholes.{written, AreFinite}
use Rattle.settled_types.proofs.Ringless.{or_cases, is_same}
use Rattle.settled_types.specs.TableLaws.Ranks.{rank, is_below, shape_all, parent_all, is_ranked, is_same_as, is_plain, fits}

never : false ≡ true → ⊥
never is = absurd (false≢true is)

both : (a b : Bool) → a && b ≡ true → (a ≡ true) × (b ≡ true)
both true b is = (refl, is)
both false b is = absurd (never is)

less : (a b : ℕ) → nat_lt a b ≡ true → a < b
less a b is = grind (arith, is)

at_most : (a b : ℕ) → nat_le a b ≡ true → a ≤ b
at_most a b is = grind (arith, is)

-- ---- what a type is made of is as asked, where all of it is

module _ (f : ℕ → Bool) (v : ℕ) where
  any_all : (cs : List Component) → any_of (λ u. nat_eq u v) cs ≡ true → list_all (λ (c : Component). f c.of) cs ≡ true → f v ≡ true
  any_all [] e all = absurd (never e)
  any_all (c ∷ rest) e all =
      let parts = both (f c.of) (list_all (λ (c : Component). f c.of) rest) all in
      elim (or_cases (nat_eq c.of v) (any_of (λ u. nat_eq u v) rest) e) [
        | inl now ↦ ap f (sym (is_same c.of v now)) ∙ parts.0
        | inr there ↦ any_all rest there parts.1
      ]

  shape_has : (s : Shape) → holds_shape (λ u. nat_eq u v) s ≡ true → shape_all f s ≡ true → f v ≡ true
  shape_has (shape.Whole low high) e all = absurd (never e)
  shape_has (shape.Listed literals low high) e all = absurd (never e)
  shape_has (shape.Access t constant named) e all = absurd (never e)
  shape_has (shape.Fields cs) e all = any_all cs e all
  shape_has (shape.Elements low high t) e all = ap f (sym (is_same t v e)) ∙ all
  shape_has (shape.Same t) e all = ap f (sym (is_same t v e)) ∙ all

  parent_has : (p : Option ℕ) → holds_parent (λ u. nat_eq u v) p ≡ true → parent_all f p ≡ true → f v ≡ true
  parent_has None e all = absurd (never e)
  parent_has (Some t) e all = ap f (sym (is_same t v e)) ∙ all

-- ---- tables

module _ (table : Table) (ranks : List ℕ) (types : (t : ℕ) → t < length table → fits table ranks t (slice_get table t) ≡ true) where
  -- beyond the table there is no type
  all_fit : (t : ℕ) → fits table ranks t (slice_get table t) ≡ true
  all_fit t = elim (cases_lt t (length table)) [
    | inl lt ↦ types t lt
    | inr past ↦ ap (fits table ranks t) (slice_get_past table t past)
  ]

  lower_in : (o : Option Info) (t v : ℕ) → fits table ranks t o ≡ true → holds true (λ u. nat_eq u v) (info_found o) ≡ true → rank ranks v < rank ranks t
  lower_in None t v fit part = absurd (never part)
  lower_in (Some i) t v fit part =
      let f : ℕ → Bool = is_below ranks (rank ranks t) in
      let ranked = both (shape_all f i.shape) (parent_all f i.parent) (both (is_ranked ranks t i) (is_plain table i.shape && nat_le (words table t) 65536) fit).0 in
      less (rank ranks v) (rank ranks t) (elim (or_cases (holds_shape (λ u. nat_eq u v) i.shape) (holds_parent (λ u. nat_eq u v) i.parent) part) [
        | inl of ↦ shape_has f v i.shape of ranked.0
        | inr up ↦ parent_has f v i.parent up ranked.1
      ])

  lower : (t v : ℕ) → IsPart table v t → rank ranks v < rank ranks t
  lower t v part = lower_in (slice_get table t) t v (all_fit t) part

  inside : (u t : ℕ) → Inside table u t → rank ranks u < rank ranks t
  inside u t (here s part) = lower t u part
  inside u t (deeper s v part rest) =
      let a = lower t v part in
      let b = inside u v rest in
      omega (arith, a, b)

  plain_in : (o : Option Info) (t of on : ℕ) → fits table ranks t o ≡ true → shape_found o ≡ shape.Same of → written table of ≡ shape.Same on → ⊥
  plain_in None t of on fit is other = cc
  plain_in (Some i) t of on fit is other =
      let plain = (both (is_plain table i.shape) (nat_le (words table t) 65536) (both (is_ranked ranks t i) (is_plain table i.shape && nat_le (words table t) 65536) fit).1).0 in
      never (sym (ap (is_plain table) is ∙ ap (λ s. not (is_same_as s)) other) ∙ plain)

  pub ranked_finite : AreFinite table
  ranked_finite = record {
    lone = λ t round. (let low = inside t t round in omega (arith, low));
    short = λ t of on is other. plain_in (slice_get table t) t of on (all_fit t) is other;
  }

  -- ---- words

  none_within : (n t : ℕ) → slice_get table t ≡ None → words_within n table t ≡ 0
  unfolding words_within
  none_within zero t is = refl
  none_within (suc n) t is = ap (λ o. words_of (words_within n table) (shape_found o)) is

  few_in : (o : Option Info) (t : ℕ) → slice_get table t ≡ o → fits table ranks t o ≡ true → words table t ≤ 65536
  unfolding words
  few_in None t is fit = let none = none_within (length table) t is in omega (arith, none)
  few_in (Some i) t is fit =
      at_most (words_within (length table) table t) 65536
      (both (is_plain table i.shape) (nat_le (words table t) 65536) (both (is_ranked ranks t i) (is_plain table i.shape && nat_le (words table t) 65536) fit).1).1

  pub few_words : (t : ℕ) → words table t ≤ 65536
  few_words t = few_in (slice_get table t) t refl (all_fit t)
