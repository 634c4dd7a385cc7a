-- Scopes that enclose one another: a scope encloses itself, what encloses one that encloses another
-- encloses that, too, and no scope encloses one with a smaller number.
use Rattle.std.proofs.Common.{◌≡◌, refl, subst, ◌⊎◌, inl, inr, ℕ, zero, suc, ◌≤◌, ◌<◌, Bool, true, false, ◌||◌, ◌==◌, eqb-true, eq-eqb, List, [], ◌∷◌, length, get_or, arith}
use Rattle.std.proofs.lemmas.Bool.{cases_lt, cases_eq, false≢true}
use Rattle.machine.specs.flow_paths.Views.{encloses, encloses_within}

either : (a b : Bool) → a || b ≡ true → (a ≡ true) ⊎ (b ≡ true)
either true b e = inl refl
either false b e = inr e

or_left : (a b : Bool) → a ≡ true → a || b ≡ true
or_left true b e = refl
or_left false b e = absurd (false≢true e)

or_right : (a b : Bool) → b ≡ true → a || b ≡ true
or_right true b e = refl
or_right false b e = e

past_end : (xs : List ℕ) (b d : ℕ) → length xs ≤ b → get_or xs b d ≡ d
past_end [] b d less = refl
past_end (x ∷ xs) zero d less = absurd (omega (arith, less))
past_end (x ∷ xs) (suc b) d less = past_end xs b d (omega (arith, less))

module _ (scopes : List ℕ) where
  abbrev around : ℕ → ℕ
  around b = get_or scopes b b

  abbrev Within : ℕ → ℕ → ℕ → Type 0
  Within n a b = encloses_within n scopes a b ≡ true

  here : (n a : ℕ) → Within n a a
  unfolding encloses_within
  here zero a = eq-eqb a a refl
  here (suc n) a = or_left (a == a) _ (eq-eqb a a refl)

  same : (n a b : ℕ) → (a == b) ≡ true → Within n a b
  same n a b e = subst (Within n a) (eqb-true a b e) (here n a)

  pub itself : (a : ℕ) → encloses scopes a a ≡ true
  itself a = here (length scopes) a

  joined : (n m a b c : ℕ) → Within n a b → Within m b c → (k : ℕ) × Within k a c
  unfolding encloses_within
  joined n zero a b c h g = (n, subst (Within n a) (eqb-true b c g) h)
  joined n (suc m) a b c h g = elim (either (b == c) _ g) [
    | inl e ↦ (n, subst (Within n a) (eqb-true b c e) h)
    | inr up ↦ (let more = joined n m a b (around c) h up in (suc more.0, or_right (a == c) _ more.1))
  ]

  -- The scope around one has a smaller number, or is it.
  module _ (inner : (b : ℕ) → around b ≤ b) where
    pub enclosing_less : (a b : ℕ) → encloses scopes a b ≡ true → a ≤ b
    unfolding encloses_within
    enclosing_less a b e = by (length scopes) b e
      where
        by : (n b : ℕ) → Within n a b → a ≤ b
        by zero b e = (let is = eqb-true a b e in omega (arith, is))
        by (suc n) b e = elim (either (a == b) _ e) [
          | inl is ↦ (let is = eqb-true a b is in omega (arith, is))
          | inr up ↦ (let less = by n (around b) up in let below = inner b in omega (arith, less, below))
        ]

    enough : (n m a c : ℕ) → (c ≤ n) ⊎ (around c ≡ c) → Within m a c → Within n a c
    unfolding encloses_within
    enough n zero a c room e = same n a c e
    enough n (suc m) a c room e = elim (either (a == c) _ e) [
      | inl is ↦ same n a c is
      | inr up ↦ elim (cases_eq (around c) c) [
        | inl stays ↦ enough n m a c room (subst (Within m a) stays up)
        | inr other ↦ elim room [
          | inl below ↦ on n below other (inner c) up (λ k less. enough k m a (around c) (inl less) up)
          | inr stays ↦ absurd (other stays)
        ]
      ]
    ]
      where
        on : (n : ℕ) → c ≤ n → (around c ≡ c → ⊥) → around c ≤ c → Within m a (around c) → ((k : ℕ) → around c ≤ k → Within k a (around c)) → Within n a c
        on zero below other less up go = absurd (omega (arith, below, other, less))
        on (suc k) below other less up go = or_right (a == c) _ (go k (omega (arith, below, other, less)))

    pub transitive : (a b c : ℕ) → encloses scopes a b ≡ true → encloses scopes b c ≡ true → encloses scopes a c ≡ true
    transitive a b c h g =
        let whole = joined (length scopes) (length scopes) a b c h g in
        enough (length scopes) whole.0 a c (room (cases_lt c (length scopes))) whole.1
      where
        room : (c < length scopes) ⊎ (length scopes ≤ c) → (c ≤ length scopes) ⊎ (around c ≡ c)
        room (inl less) = inl (omega (arith, less))
        room (inr more) = inr (past_end scopes c c more)

    -- The scope around one encloses it.
    pub outward : (b : ℕ) → encloses scopes (around b) b ≡ true
    unfolding encloses_within
    outward b = enough (length scopes) 1 (around b) b (room (cases_lt b (length scopes))) (or_right (around b == b) _ (here 0 (around b)))
      where
        room : (b < length scopes) ⊎ (length scopes ≤ b) → (b ≤ length scopes) ⊎ (around b ≡ b)
        room (inl less) = inl (omega (arith, less))
        room (inr more) = inr (past_end scopes b b more)
