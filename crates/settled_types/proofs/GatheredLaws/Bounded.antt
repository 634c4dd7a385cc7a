-- In the second turn, what a type that is scalar in the end is based on is scalar already.
use Rattle.std.proofs.Common.{◌≡◌, inl, inr, ℕ, zero, suc, ◌<◌, true, false, List, refl, sym, ap, ◌∙◌, arith, subst, Option, Some, None, true≢false}
use Rattle.std.specs.Prelude.{slice_get}
use Rattle.machine.specs.spark_base.Lists.{Has}
use Rattle.machine.specs.resolved_tree.declared.node.Mark.{Mark}
use Rattle.machine.specs.type_definitions.declared.table.Known.{Known}
use Rattle.machine.specs.type_definitions.declared.table.Entry.{Entry}
use Rattle.machine.specs.type_definitions.declared.table.Entry.TheVariants as entry
use Rattle.machine.specs.type_definitions.declared.table.Shape.{Shape}
use Rattle.machine.specs.type_definitions.declared.table.Shape.TheVariants as shape
use Rattle.machine.specs.type_definitions.Types.{Table, base, base_found, meant_type, meant_type_found, shape_of, shape_found, full, view_of, is_scalar}
use Rattle.machine.specs.type_definitions.Entries.{entry_of, is_type, marked, type_of_mark, type_of_entry}
use Rattle.machine.specs.type_definitions.Whole.{predefined_types}
use Rattle.settled_types.specs.Wholes.{written}
use Rattle.settled_types.specs.Orderly.{Past}
use Rattle.settled_types.specs.Stamped.{IsType, IsFixed, AreRows, LeadsTo}
use Rattle.settled_types.proofs.Main.{find}
use Rattle.settled_types.specs.GatheredLaws.DefinitionKinds.{kind}
use Rattle.settled_types.specs.GatheredLaws.Based.{AreBased}
use Rattle.settled_types.proofs.GatheredLaws.Walk.{same_own}

-- ---- predefined types

abbrev pub ArePredefined : Table → Type 0
ArePredefined table = (t : ℕ) → t < 5 → slice_get table t ≡ slice_get (predefined_types false) t

pub low : (P : ℕ → Type 0) → P 0 → P 1 → P 2 → P 3 → P 4 → (t : ℕ) → t < 5 → P t
low P a b c d e zero less = a
low P a b c d e (suc zero) less = b
low P a b c d e (suc (suc zero)) less = c
low P a b c d e (suc (suc (suc zero))) less = d
low P a b c d e (suc (suc (suc (suc zero)))) less = e
low P a b c d e (suc (suc (suc (suc (suc t))))) less = absurd (omega (arith, less))

module _ (table : Table) (rows : ArePredefined table) where
  pub base_low : (t : ℕ) → t < 5 → base table t ≡ base (predefined_types false) t
  base_low t less = ap base_found (rows t less)

  pub meant_low : (t : ℕ) → t < 5 → meant_type table t ≡ meant_type (predefined_types false) t
  meant_low t less = ap (meant_type_found t) (rows t less)

  pub written_low : (t : ℕ) → t < 5 → written table t ≡ written (predefined_types false) t
  written_low t less = ap shape_found (rows t less)

  -- they are scalar
  pub scalar_low : (t : ℕ) → t < 5 → kind (shape_of table t) < 2
  scalar_low t less =
      let m : ℕ = meant_type (predefined_types false) t in
      let small : m < 5 = low (λ t. meant_type (predefined_types false) t < 5) (omega arith) (omega arith) (omega arith) (omega arith) (omega arith) t less in
      let is : kind (shape_of table t) ≡ kind (shape_of (predefined_types false) t)
      = ap (λ u. kind (written table u)) (meant_low t less) ∙ ap kind (written_low m small) in
      subst (λ k. k < 2) (sym is)
      (low (λ t. kind (shape_of (predefined_types false) t) < 2) (omega arith) (omega arith) (omega arith) (omega arith) (omega arith) t less)

  -- one that is based on itself is no name of another one
  pub own_low : (t : ℕ) → t < 5 → base table t ≡ t → kind (written table t) < 2
  own_low t less own =
      subst (λ s. kind s < 2) (sym (written_low t less))
      (low (λ t. base (predefined_types false) t ≡ t → kind (written (predefined_types false) t) < 2)
      (λ e. omega arith) (λ e. absurd (omega (arith, e))) (λ e. absurd (omega (arith, e))) (λ e. omega arith) (λ e. absurd (omega (arith, e)))
      t less (sym (base_low t less) ∙ own))

scalar_kind : (s : Shape) → is_scalar (view_of s) ≡ true → kind s < 2
scalar_kind (shape.Whole a b) e = omega arith
scalar_kind (shape.Listed l a b) e = omega arith
scalar_kind (shape.Same of) e = absurd (true≢false (sym e))
scalar_kind (shape.Access d constant named) e = absurd (true≢false (sym e))
scalar_kind (shape.Fields cs) e = absurd (true≢false (sym e))
scalar_kind (shape.Elements a b of) e = absurd (true≢false (sym e))

-- ---- the second turn

module _ (final : Known) (count : ℕ) (all : List ℕ) (start : Table) (rule : ℕ → Shape → Type 0) (Final : Type 0)
    (steady : (d : ℕ) (s u : Shape) → rule d s → rule d u → kind s ≡ kind u) (plain : (d : ℕ) (s : Shape) → rule d s → kind s ≡ 3 → ⊥)
    (ends : (t : ℕ) → Has all t → rule t (written final.table t)) (p : Past) (known : Known) (rows : AreRows count start p known)
    (within_all : (d : ℕ) → Has p.awaited d → Has all d) (leads : LeadsTo final p known) (views : ℕ → Type 0) (b : AreBased rule Final views start p.awaited p.defined known.table) where
  -- a type that isn't completed later is fixed
  fixed : (t : ℕ) → Has p.defined t → (Has p.awaited t → ⊥) → IsFixed p t
  fixed t is none = (is, (λ hidden. none (rows.private t hidden).0), (λ late. none (rows.incomplete t late).0))

  -- one that is based on itself has its kind up to the end
  own_kind : (t : ℕ) → IsType p t → base known.table t ≡ t → kind (written final.table t) < 2 → kind (written known.table t) < 2
  own_kind t (inl less) own scalar = own_low known.table rows.predefined t less own
  own_kind t (inr is) own scalar = elim (find p.awaited t) [
    | inl waits ↦ subst (λ k. k < 2) (steady t (written final.table t) (written known.table t) (ends t (within_all t waits)) (b.own t (inr is) (b.waits t waits).1 own)) scalar
    | inr none ↦ elim is [
      | inl waits ↦ absurd (none waits)
      | inr defined ↦ subst (λ s. kind s < 2) (ap shape_found (leads.fixed t (fixed t defined none))) scalar
    ]
  ]

  scalar_own : (t : ℕ) → IsType p t → is_scalar (full final.table t) ≡ true → meant_type known.table t ≡ base known.table t
      → kind (shape_of known.table t) < 2
  scalar_own t (inl less) scalar same = scalar_low known.table rows.predefined t less
  scalar_own t (inr is) scalar same = elim (find p.awaited t) [
    | inl waits ↦
        let own : base known.table t ≡ t = (b.waits t waits).0 in
        let own_final : meant_type final.table t ≡ t = meant_own t (plain t (written final.table t) (ends t (within_all t waits))) in
        let less : kind (written final.table t) < 2 = subst (λ u. kind (written final.table u) < 2) own_final (scalar_kind (shape_of final.table t) scalar) in
        subst (λ u. kind (written known.table u) < 2) (sym (same ∙ own)) (own_kind t (inr is) own less)
    | inr none ↦ elim is [
      | inl waits ↦ absurd (none waits)
      | inr defined ↦
          let row = leads.fixed t (fixed t defined none) in
          let u : ℕ = base known.table t in
          let there : meant_type final.table t ≡ u = ap (meant_type_found t) row ∙ same in
          let less : kind (written final.table u) < 2 = subst (λ v. kind (written final.table v) < 2) there (scalar_kind (shape_of final.table t) scalar) in
          let one : IsType p t = inr (inr defined) in
          subst (λ v. kind (written known.table v) < 2) (sym same) (own_kind u (b.based t one) (b.bases t one) less)
    ]
  ]
    where
      found_own : (t : ℕ) (o : Option _) → (kind (shape_found o) ≡ 3 → ⊥) → meant_type_found t o ≡ t
      found_own t None none = refl
      found_own t (Some i) none = same_own t i.shape none

      meant_own : (t : ℕ) → (kind (written final.table t) ≡ 3 → ⊥) → meant_type final.table t ≡ t
      meant_own t none = found_own t (slice_get final.table t) none

  -- what a mark denotes here and in the end
  pub bounded : (m : Mark) → is_scalar (full final.table (marked final m)) ≡ true → meant_type known.table (marked known m) ≡ base known.table (marked known m)
      → kind (shape_of known.table (marked known m)) < 2
  bounded m scalar same = of_mark m.decl scalar same
    where
      untyped : kind (shape_of known.table 4) < 2
      untyped = scalar_low known.table rows.predefined 4 (omega arith)

      of_final : (d : ℕ) (x : Entry) → entry_of final d ≡ x → is_type x ≡ true → is_scalar (full final.table (type_of_entry d x)) ≡ true
          → is_scalar (full final.table d) ≡ true
      of_final d entry.Type is one scalar = scalar
      of_final d x is one scalar = absurd (true≢false (sym one))

      of_entry : (d : ℕ) (x : Entry) → entry_of known d ≡ x → is_scalar (full final.table (type_of_entry d (entry_of final d))) ≡ true
          → meant_type known.table (type_of_entry d x) ≡ base known.table (type_of_entry d x) → kind (shape_of known.table (type_of_entry d x)) < 2
      of_entry d entry.Type is scalar same =
          let one : is_type (entry_of known d) ≡ true = ap is_type is in
          scalar_own d (rows.types d one) (of_final d (entry_of final d) refl (leads.keeps d one) scalar) same
      of_entry d x is scalar same = untyped

      of_mark : (o : Option ℕ) → is_scalar (full final.table (type_of_mark final o)) ≡ true
          → meant_type known.table (type_of_mark known o) ≡ base known.table (type_of_mark known o) → kind (shape_of known.table (type_of_mark known o)) < 2
      of_mark None scalar same = untyped
      of_mark (Some d) scalar same = of_entry d (entry_of known d) refl scalar same
