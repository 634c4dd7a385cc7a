-- Types that are made of types that were defined before them, or of private types that don't have themselves
-- in them, don't have themselves in them.
use Rattle.std.proofs.Common.{◌≡◌, ◌⊎◌, inl, inr, ℕ, ◌<◌, true, refl, sym, ◌∙◌, arith, is_some, true≢false, subst}
use Rattle.machine.specs.type_definitions.Types.{Table, info, base}
use Rattle.type_settled.specs.Rings.{IsPart, Inside, here, deeper}
use Rattle.type_settled.proofs.Inside.{inside_all, inside_itself}
use Rattle.settled_types.specs.Stamped.{IsOpen}

module _ (table : Table) (stamp : ℕ → ℕ) (early : (t v : ℕ) → IsPart table v t → (stamp v < stamp t) ⊎ IsOpen table v)
    (based : (t : ℕ) → is_some (info table t).seen_in ≡ true → base table t ≡ t) where
  -- What is in a type was defined before it, or an opened type stands between them.
  abbrev Leads : ℕ → ℕ → Type 0
  Leads u t =
      (stamp u < stamp t)
      ⊎ ((v : ℕ) × Inside table v t × IsOpen table v × ((u ≡ v) ⊎ Inside table u v))

  leads : (u t : ℕ) → Inside table u t → Leads u t
  leads u c (here t part) = elim (early t u part) [
    | inl lt ↦ inl lt
    | inr opened ↦ inr (u, here t part, opened, inl refl)
  ]
  leads u c (deeper t v part rest) = elim (leads u v rest) [
    | inl lt ↦
        elim (early t v part) [
          | inl less ↦ inl (omega (arith, lt, less))
          | inr opened ↦ inr (v, here t part, opened, inr rest)
        ]
    | inr more ↦ inr (more.0, deeper t v part more.1, more.2, more.3)
  ]

  not_inside : (v : ℕ) → IsOpen table v → Inside table v v → ⊥
  not_inside v opened inside = true≢false (sym (inside_itself table v (based v opened.0) inside) ∙ opened.1)

  not_open : (t v : ℕ) → Inside table v t → IsOpen table v → (t ≡ v) ⊎ Inside table t v → ⊥
  not_open t v in_t opened (inl same) = not_inside v opened (subst (λ t. Inside table v t) same in_t)
  not_open t v in_t opened (inr in_v) = not_inside v opened (inside_all table v t v in_t in_v)

  pub lone : (t : ℕ) → Inside table t t → ⊥
  lone t inside = elim (leads t t inside) [
    | inl lt ↦ absurd (omega (arith, lt))
    | inr more ↦ not_open t more.0 more.1 more.2 more.3
  ]
