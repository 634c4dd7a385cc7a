-- One more number in the work.
use Rattle.std.proofs.Common.{◌≡◌, refl, sym, ◌⊎◌, inl, inr, ℕ, ◌+◌, ◌≤◌, List, [], ◌∷◌, get_or, arith}
use Rattle.std.specs.BTreeSet.{insert_key}
use Rattle.std.specs.Ordering.{nat_cmp, match_ordering}
use Rattle.std.specs.declared.cmp.Ordering.{Ordering}
use Rattle.std.specs.declared.cmp.Ordering.TheVariants.{Less, Equal, Greater}
use Rattle.std.proofs.lemmas.Cmp.{ranked}
use Rattle.spark_base.specs.Lists.{Has}
use Rattle.point_states.specs.Debts.{owed}

pub more_keeps : (work : List ℕ) (q a : ℕ) → Has work a → Has (insert_key nat_cmp work q) a
more_keeps [] q a h = absurd h
more_keeps (x ∷ work) q a h = at (nat_cmp q x) (λ old. more_keeps work q a old)
  where
    at : (r : Ordering) → (Has work a → Has (insert_key nat_cmp work q) a)
        → Has (match_ordering r (q ∷ x ∷ work) (x ∷ work) (x ∷ insert_key nat_cmp work q)) a
    at Less later = inr h
    at Equal later = h
    at Greater later = elim h [ inl e ↦ inl e | inr old ↦ inr (later old) ]

pub more_has : (work : List ℕ) (q : ℕ) → Has (insert_key nat_cmp work q) q
more_has [] q = inl refl
more_has (x ∷ work) q = at (nat_cmp q x) refl (more_has work q)
  where
    at : (r : Ordering) → r ≡ nat_cmp q x → Has (insert_key nat_cmp work q) q
        → Has (match_ordering r (q ∷ x ∷ work) (x ∷ work) (x ∷ insert_key nat_cmp work q)) q
    at Less is later = inl refl
    at Equal is later = inl (sym (ranked q x Equal is))
    at Greater is later = inr later

pub more_only : (work : List ℕ) (q a : ℕ) → Has (insert_key nat_cmp work q) a → Has work a ⊎ (q ≡ a)
more_only [] q a h = elim h [ inl e ↦ inr e | inr none ↦ absurd none ]
more_only (x ∷ work) q a h = at (nat_cmp q x) (λ more. more_only work q a more) h
  where
    at : (r : Ordering) → (Has (insert_key nat_cmp work q) a → Has work a ⊎ (q ≡ a))
        → Has (match_ordering r (q ∷ x ∷ work) (x ∷ work) (x ∷ insert_key nat_cmp work q)) a → Has (x ∷ work) a ⊎ (q ≡ a)
    at Less later m = elim m [ inl e ↦ inr e | inr old ↦ inl old ]
    at Equal later m = inl m
    at Greater later m = elim m [
      | inl e ↦ inl (inl e)
      | inr more ↦ elim (later more) [ inl old ↦ inl (inr old) | inr e ↦ inr e ]
    ]

pub more_owed : (costs work : List ℕ) (q : ℕ) → owed costs (insert_key nat_cmp work q) ≤ owed costs work + get_or costs q 0
more_owed costs [] q = omega arith
more_owed costs (x ∷ work) q = at (nat_cmp q x) (more_owed costs work q)
  where
    at : (r : Ordering) → owed costs (insert_key nat_cmp work q) ≤ owed costs work + get_or costs q 0
        → owed costs (match_ordering r (q ∷ x ∷ work) (x ∷ work) (x ∷ insert_key nat_cmp work q)) ≤ owed costs (x ∷ work) + get_or costs q 0
    at Less later = omega arith
    at Equal later = omega arith
    at Greater later = omega arith
