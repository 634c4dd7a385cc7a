-- What is in a type at some depth is in it at a depth of at most as many types as there are.
use Rattle.std.proofs.Common.{◌≡◌, ◌⊎◌, inl, inr, ℕ, zero, suc, ◌+◌, ◌<◌, ◌≤◌, Bool, true, false, ◌||◌, refl, sym, ap, ◌∙◌, arith, length, subst, true≢false}
use Rattle.std.proofs.lemmas.Bool.{cases_lt}
use Rattle.type_definitions.specs.Types.{Table, info}
use Rattle.type_settled.specs.Reach.{has_some}
use Rattle.type_settled.proofs.Reached.{holds_more, past_none}

-- ---- how many numbers pass a test

abbrev one_if : Bool → ℕ
one_if true = 1
one_if false = 0

-- Of those below n.
abbrev count : (ℕ → Bool) → ℕ → ℕ
count p zero = 0
count p (suc n) = one_if (p n) + count p n

one_small : (b : Bool) → one_if b ≤ 1
one_small true = omega arith
one_small false = omega arith

count_small : (p : ℕ → Bool) (n : ℕ) → count p n ≤ n
count_small p zero = omega arith
count_small p (suc n) = omega (arith, one_small (p n), count_small p n)

one_more : (a b : Bool) → (a ≡ true → b ≡ true) → one_if a ≤ one_if b
one_more true true f = omega arith
one_more true false f = absurd (true≢false (sym (f refl)))
one_more false b f = omega arith

one_same : (a b : Bool) → one_if b ≤ one_if a → b ≡ true → a ≡ true
one_same true b le e = refl
one_same false true le e = absurd (omega (arith, le))
one_same false false le e = e

module _ (p q : ℕ → Bool) (more : (k : ℕ) → p k ≡ true → q k ≡ true) where
  count_more : (n : ℕ) → count p n ≤ count q n
  count_more zero = omega arith
  count_more (suc n) = omega (arith, one_more (p n) (q n) (more n), count_more n)

  -- Where no more pass the second test, none does that doesn't pass the first.
  count_same : (n k : ℕ) → count q n ≤ count p n → k < n → q k ≡ true → p k ≡ true
  count_same zero k le lt e = absurd (omega (arith, lt))
  count_same (suc n) k le lt e = elim (cases_lt k n) [
    | inl below ↦ count_same n k (omega (arith, le, one_more (p n) (q n) (more n))) below e
    | inr above ↦
        let is : k ≡ n = omega (arith, lt, above) in
        let e : q n ≡ true = ap q (sym is) ∙ e in
        ap p is ∙ one_same (p n) (q n) (omega (arith, le, count_more n)) e
  ]

-- ---- each depth has more types, until one has no more

module _ (is : ℕ → Bool) (table : Table) where
  abbrev at : ℕ → ℕ → Bool
  at n t = has_some true n is table t

  or_more : (a b c : Bool) → (b ≡ true → c ≡ true) → a || b ≡ true → a || c ≡ true
  or_more true b c f e = refl
  or_more false b c f e = f e

  -- One level more leads from what is at this depth to what is at that one.
  level : (n m : ℕ) → ((u : ℕ) → at n u ≡ true → at m u ≡ true) → (t : ℕ) → at (suc n) t ≡ true → at (suc m) t ≡ true
  unfolding has_some
  level n m more t e =
      holds_more (λ u. is u || at n u) (λ u. is u || at m u) (λ u. or_more (is u) (at n u) (at m u) (more u)) true (info table t) e

  none_at : (t : ℕ) → at 0 t ≡ true → ⊥
  unfolding has_some
  none_at t e = true≢false (sym e)

  grows : (n t : ℕ) → at n t ≡ true → at (suc n) t ≡ true
  grows zero t e = absurd (none_at t e)
  grows (suc n) t e = level n (suc n) (grows n) t e

  abbrev Stays : ℕ → Type 0
  Stays n = (t : ℕ) → at (suc n) t ≡ true → at n t ≡ true

  stays_on : (n : ℕ) → Stays n → Stays (suc n)
  stays_on n stays t e = level (suc n) n stays t e

  past_at : (n t : ℕ) → length table ≤ t → at (suc n) t ≡ true → ⊥
  unfolding has_some
  past_at n t past e = true≢false (sym e ∙ past_none true (λ u. is u || at n u) table t past)

  stays_where : (n : ℕ) → count (at (suc n)) (length table) ≤ count (at n) (length table) → Stays n
  stays_where n le t e = elim (cases_lt t (length table)) [
    | inl within ↦ count_same (at n) (at (suc n)) (grows n) (length table) t le within e
    | inr past ↦ absurd (past_at n t past e)
  ]

  abbrev StaysOrGrows : ℕ → Type 0
  StaysOrGrows n = Stays n ⊎ (n < count (at (suc n)) (length table))

  grows_or_stays : (n : ℕ) → n ≤ count (at n) (length table) → StaysOrGrows n
  grows_or_stays n le = elim (cases_lt (count (at n) (length table)) (count (at (suc n)) (length table))) [
    | inl more ↦ inr (omega (arith, le, more))
    | inr same ↦ inl (stays_where n same)
  ]

  stays_or_grows : (n : ℕ) → StaysOrGrows n
  stays_or_grows zero = grows_or_stays 0 (omega arith)
  stays_or_grows (suc n) = elim (stays_or_grows n) [
    | inl stays ↦ inl (stays_on n stays)
    | inr more ↦ grows_or_stays (suc n) (omega (arith, more))
  ]

  stays_last : Stays (length table)
  stays_last = elim (stays_or_grows (length table)) [
    | inl stays ↦ stays
    | inr more ↦ absurd (omega (arith, more, count_small (at (suc (length table))) (length table)))
  ]

  stays_from : (n : ℕ) → length table ≤ n → Stays n
  stays_from zero le =
      let last : length table ≡ 0 = omega (arith, le) in subst Stays last stays_last
  stays_from (suc n) le = elim (cases_lt n (length table)) [
    | inl before ↦
        let last : length table ≡ suc n = omega (arith, le, before) in subst Stays last stays_last
    | inr past ↦ stays_on n (stays_from n past)
  ]

  grows_to : (m n t : ℕ) → m ≤ n → at m t ≡ true → at n t ≡ true
  grows_to m zero t le e =
      let none : m ≡ 0 = omega (arith, le) in sym (ap (λ k. at k t) none) ∙ e
  grows_to m (suc n) t le e = elim (cases_lt n m) [
    | inl last ↦
        let last : m ≡ suc n = omega (arith, le, last) in sym (ap (λ k. at k t) last) ∙ e
    | inr before ↦ grows n t (grows_to m n t before e)
  ]

  pub deep_enough : (n t : ℕ) → at n t ≡ true → at (length table) t ≡ true
  deep_enough zero t e = absurd (none_at t e)
  deep_enough (suc n) t e = elim (cases_lt n (length table)) [
    | inl before ↦ grows_to (suc n) (length table) t (omega (arith, before)) e
    | inr past ↦ deep_enough n t (stays_from n past t e)
  ]
