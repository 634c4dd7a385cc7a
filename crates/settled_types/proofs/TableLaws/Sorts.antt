-- Where no type has itself in it, the sorts of its words are those of its whole definition.
use Rattle.std.proofs.Common.{◌≡◌, ℕ, zero, suc, ◌≤◌, ◌&&◌, Bool, List, [], ◌∷◌, ◌++◌, refl, sym, ap, ◌∙◌, arith, length, nat_lt, IsTrue}
use Rattle.std.specs.Prelude.{slice_get, flat_map}
use Rattle.std.proofs.lemmas.Option.{slice_get_past}
use Rattle.machine.specs.type_definitions.declared.table.Component.{Component}
use Rattle.machine.specs.type_definitions.declared.table.Shape.{Shape}
use Rattle.machine.specs.type_definitions.declared.table.Shape.TheVariants as shape
use Rattle.machine.specs.type_definitions.Types.{Table, shape_found, shape_of, meant_type, meant_type_found, same_as, span}
use Rattle.machine.specs.type_definitions.declared.table.Info.{Info}
use Rattle.type_settled.specs.Orders.{all_ready, shape_ready}
use Rattle.type_settled.specs.Rings.{Inside}
use Rattle.settled_types.specs.Wholes.{written, AreFinite}
use Rattle.settled_types.proofs.Ringless.{depth, depth_none, ranked, shallow}
use Rattle.machine.specs.Typed.{Sort, sorts, sorts_of, sorts_within, repeated_sorts}
use Rattle.std.proofs.Common.{Option, Some, None}

and_first : (a b : Bool) → IsTrue (a && b) → IsTrue a
and_first a b p = grind arith

and_second : (a b : Bool) → IsTrue (a && b) → IsTrue b
and_second a b p = grind arith

module _ (f g : ℕ → List Sort) (low : ℕ → Bool) (same : (t : ℕ) → IsTrue (low t) → f t ≡ g t) where
  sorts_each : (cs : List Component) → IsTrue (all_ready low cs) → flat_map (λ (c : Component). f c.of) cs ≡ flat_map (λ (c : Component). g c.of) cs
  sorts_each [] all = refl
  sorts_each (c ∷ rest) all =
      ap (λ l. l ++ flat_map (λ (c : Component). f c.of) rest) (same c.of (and_first (low c.of) (all_ready low rest) all))
      ∙ ap (λ l. g c.of ++ l) (sorts_each rest (and_second (low c.of) (all_ready low rest) all))

  sorts_same : (s : Shape) → IsTrue (shape_ready low s) → sorts_of f s ≡ sorts_of g s
  sorts_same (shape.Whole a b) all = refl
  sorts_same (shape.Listed literals a b) all = refl
  sorts_same (shape.Access t constant named) all = refl
  sorts_same (shape.Fields cs) all = sorts_each cs all
  sorts_same (shape.Elements a b t) all = ap (λ l. repeated_sorts (span a b) l) (same t all)
  sorts_same (shape.Same t) all = same t all

module _ (table : Table) (lone : (t : ℕ) → Inside table t t → ⊥) where
  lower : (u t n : ℕ) → IsTrue (nat_lt u t) → t ≤ suc n → u ≤ n
  lower u t n low le = grind (arith, low, le)

  sorts_more : (n t : ℕ) → depth table t ≤ n → sorts_within (suc n) table t ≡ sorts_within n table t
  unfolding sorts_within
  sorts_more zero t le = ap (λ o. sorts_of (sorts_within 0 table) (shape_found o)) (slice_get_past table t (depth_none table t le))
  sorts_more (suc n) t le =
      sorts_same (sorts_within (suc n) table) (sorts_within n table) (λ u. nat_lt (depth table u) (depth table t))
      (λ u low. sorts_more n u (lower (depth table u) (depth table t) n low le)) (written table t) (ranked table lone t)

  sorts_written : (t : ℕ) → sorts table t ≡ sorts_of (sorts table) (written table t)
  unfolding sorts sorts_within
  sorts_written t = sym (sorts_more (length table) t (shallow table lone t))

-- A subtype without a constraint is what it is the same as.
meant_written : (table : Table) (t : ℕ) → meant_type table t ≡ same_as t (written table t)
meant_written table t = at (slice_get table t)
  where
    at : (o : Option Info) → meant_type_found t o ≡ same_as t (shape_found o)
    at None = refl
    at (Some i) = refl

module _ (table : Table) (finite : AreFinite table) where
  meant_at : (t : ℕ) (s : Shape) → written table t ≡ s → sorts table t ≡ sorts_of (sorts table) (written table (same_as t s))
  meant_at t (shape.Whole low high) e = sorts_written table finite.lone t
  meant_at t (shape.Listed literals low high) e = sorts_written table finite.lone t
  meant_at t (shape.Access d constant named) e = sorts_written table finite.lone t
  meant_at t (shape.Fields cs) e = sorts_written table finite.lone t
  meant_at t (shape.Elements low high u) e = sorts_written table finite.lone t
  meant_at t (shape.Same u) e = sorts_written table finite.lone t ∙ ap (sorts_of (sorts table)) e ∙ sorts_written table finite.lone u

  pub sort_law : (t : ℕ) → sorts table t ≡ sorts_of (sorts table) (shape_of table t)
  sort_law t = meant_at t (written table t) refl ∙ ap (λ u. sorts_of (sorts table) (written table u)) (sym (meant_written table t))
