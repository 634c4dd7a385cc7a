-- Where no type has itself in it, words, parts and owning are those of whole definitions.
use Rattle.std.proofs.Common.{◌≡◌, ℕ, zero, suc, ◌≤◌, not, refl, sym, ap, ◌∙◌, arith, length, nat_lt, Option, Some, None, IsTrue}
use Rattle.std.specs.Prelude.{slice_get}
use Rattle.std.proofs.lemmas.Option.{slice_get_past}
use Rattle.machine.specs.type_definitions.declared.table.Info.{Info}
use Rattle.machine.specs.type_definitions.declared.table.Shape.{Shape}
use Rattle.machine.specs.type_definitions.declared.table.Shape.TheVariants as shape
use Rattle.machine.specs.type_definitions.Types.{Table, meant_type, meant_type_found, same_as, shape_found, shape_of, words, words_of, words_within, parts, parts_of, parts_within, is_owning, owns_of, owns_within, is_nil}
use Rattle.type_settled.specs.Rings.{Inside}
use Rattle.type_settled.proofs.Depths.{words_same, parts_same}
use Rattle.type_settled.proofs.Owning.{owns_depth}
use Rattle.settled_types.specs.Wholes.{written, AreFinite, AreWhole}
use Rattle.settled_types.proofs.Ringless.{depth, depth_none, ranked, shallow}

-- ---- one level more changes nothing

module _ (table : Table) (lone : (t : ℕ) → Inside table t t → ⊥) where
  lower : (u t n : ℕ) → IsTrue (nat_lt u t) → t ≤ suc n → u ≤ n
  lower u t n low le = grind (arith, low, le)

  words_more : (n t : ℕ) → depth table t ≤ n → words_within (suc n) table t ≡ words_within n table t
  unfolding words_within
  words_more zero t le = ap (λ o. words_of (words_within 0 table) (shape_found o)) (slice_get_past table t (depth_none table t le))
  words_more (suc n) t le =
      words_same (words_within (suc n) table) (words_within n table) (λ u. nat_lt (depth table u) (depth table t))
      (λ u low. words_more n u (lower (depth table u) (depth table t) n low le)) (written table t) (ranked table lone t)

  parts_more : (n t : ℕ) → depth table t ≤ n → parts_within (suc n) table t ≡ parts_within n table t
  unfolding parts_within
  parts_more zero t le = ap (λ o. parts_of (parts_within 0 table) (shape_found o)) (slice_get_past table t (depth_none table t le))
  parts_more (suc n) t le =
      parts_same (parts_within (suc n) table) (parts_within n table) (λ u. nat_lt (depth table u) (depth table t))
      (λ u low. parts_more n u (lower (depth table u) (depth table t) n low le)) (written table t) (ranked table lone t)

  owns_more : (n t : ℕ) → depth table t ≤ n → owns_within (suc n) table t ≡ owns_within n table t
  owns_more n t le =
      owns_depth (suc n) table t ∙ ap (λ qs. not (is_nil qs)) (parts_more n t le) ∙ sym (owns_depth n table t)

  words_written : (t : ℕ) → words table t ≡ words_of (words table) (written table t)
  unfolding words words_within
  words_written t = sym (words_more (length table) t (shallow table lone t))

  parts_written : (t : ℕ) → parts table t ≡ parts_of (parts table) (written table t)
  unfolding parts parts_within
  parts_written t = sym (parts_more (length table) t (shallow table lone t))

  owns_written : (t : ℕ) → is_owning table t ≡ owns_of (is_owning table) (written table t)
  unfolding is_owning owns_within
  owns_written t = sym (owns_more (length table) t (shallow table lone t))

-- ---- a subtype without a constraint is what it is the same as

meant_written : (table : Table) (t : ℕ) → meant_type table t ≡ same_as t (written table t)
meant_written table t = at (slice_get table t)
  where
    at : (o : Option Info) → meant_type_found t o ≡ same_as t (shape_found o)
    at None = refl
    at (Some i) = refl

-- a law of what is written is one of what is meant, where it says of `Same` what it says of the other type
module _ {A : Type 0} (table : Table) (f : ℕ → A) (of : Shape → A) (law : (t : ℕ) → f t ≡ of (written table t))
    (same : (t : ℕ) → of (shape.Same t) ≡ f t) where
  meant_at : (t : ℕ) (s : Shape) → written table t ≡ s → f t ≡ of (written table (same_as t s))
  meant_at t (shape.Whole low high) e = law t
  meant_at t (shape.Listed literals low high) e = law t
  meant_at t (shape.Access d constant named) e = law t
  meant_at t (shape.Fields cs) e = law t
  meant_at t (shape.Elements low high u) e = law t
  meant_at t (shape.Same u) e = law t ∙ ap of e ∙ same u ∙ law u

  meant : (t : ℕ) → f t ≡ of (shape_of table t)
  meant t = meant_at t (written table t) refl ∙ ap (λ u. of (written table u)) (sym (meant_written table t))

module _ (table : Table) (short : (t of on : ℕ) → written table t ≡ shape.Same of → written table of ≡ shape.Same on → ⊥) where
  plain_at : (t on : ℕ) (s : Shape) → written table t ≡ s → written table (same_as t s) ≡ shape.Same on → ⊥
  plain_at t on (shape.Same u) e is = short t u on e is
  plain_at t on (shape.Whole low high) e is = cc
  plain_at t on (shape.Listed literals low high) e is = cc
  plain_at t on (shape.Access d constant named) e is = cc
  plain_at t on (shape.Fields cs) e is = cc
  plain_at t on (shape.Elements low high u) e is = cc

  plain : (t on : ℕ) → shape_of table t ≡ shape.Same on → ⊥
  plain t on is = plain_at t on (written table t) refl (ap (written table) (sym (meant_written table t)) ∙ is)

-- ---- all of it

pub finite_whole : (table : Table) → AreFinite table → AreWhole table
finite_whole table finite = record {
  word_law = meant table (words table) (words_of (words table)) (words_written table finite.lone) (λ t. refl);
  part_law = meant table (parts table) (parts_of (parts table)) (parts_written table finite.lone) (λ t. refl);
  own_law = meant table (is_owning table) (owns_of (is_owning table)) (owns_written table finite.lone) (λ t. refl);
  plain = plain table finite.short;
}
