-- Ascending lists: a number that comes to one, and that two with the same members are one.
use Rattle.std.proofs.Common.{◌≡◌, ◌<◌, ◌⊎◌, ℕ, refl, sym, ap, ◌∙◌, subst, arith, inl, inr, List, [], ◌∷◌}
use Rattle.std.specs.declared.cmp.Ordering.{Ordering}
use Rattle.std.specs.declared.cmp.Ordering.TheVariants.{Less, Equal, Greater}
use Rattle.std.specs.Ordering.{nat_cmp, match_ordering}
use Rattle.std.specs.BTreeSet.{insert_key}
use Rattle.std.proofs.lemmas.Cmp.{ranked}
use Rattle.spark_base.specs.Lists.{Has}
use Rattle.flow_paths.specs.Effects.{Ascends}

-- ---- two lists with the same members

abbrev Within : List ℕ → List ℕ → Type 0
Within xs ys = (g : ℕ) → Has xs g → Has ys g

same_first : (x y : ℕ) (xs ys : List ℕ) → Ascends (x ∷ xs) → Ascends (y ∷ ys) → Has (y ∷ ys) x → Has (x ∷ xs) y → x ≡ y
same_first x y xs ys up up2 (inl e) there2 = sym e
same_first x y xs ys up up2 (inr h) (inl e) = e
same_first x y xs ys up up2 (inr h) (inr h2) =
    let less : y < x = up2.0 x h in let more : x < y = up.0 y h2 in let no : ⊥ = omega (arith, less, more) in absurd no

behind_first : (x g : ℕ) (ys : List ℕ) → x < g → Has (x ∷ ys) g → Has ys g
behind_first x g ys less (inl e) = let no : ⊥ = omega (arith, less, e) in absurd no
behind_first x g ys less (inr h) = h

pub ascending_once : (xs ys : List ℕ) → Ascends xs → Ascends ys → Within xs ys → Within ys xs → xs ≡ ys
ascending_once [] [] up up2 in_ys in_xs = refl
ascending_once [] (y ∷ ys) up up2 in_ys in_xs = absurd (in_xs y (inl refl))
ascending_once (x ∷ xs) [] up up2 in_ys in_xs = absurd (in_ys x (inl refl))
ascending_once (x ∷ xs) (y ∷ ys) up up2 in_ys in_xs =
    let same : x ≡ y = same_first x y xs ys up up2 (in_ys x (inl refl)) (in_xs y (inl refl)) in
    let up3 : Ascends (x ∷ ys) = subst (λ (z : ℕ). Ascends (z ∷ ys)) (sym same) up2 in
    let ours : Within (x ∷ xs) (x ∷ ys) = λ g h. subst (λ (z : ℕ). Has (z ∷ ys) g) (sym same) (in_ys g h) in
    let theirs : Within (x ∷ ys) (x ∷ xs) = λ g h. in_xs g (subst (λ (z : ℕ). Has (z ∷ ys) g) same h) in
    ap (λ (z : ℕ). z ∷ xs) same
    ∙ ap (λ (rest : List ℕ). y ∷ rest)
    (ascending_once xs ys up.1 up3.1 (λ g h. behind_first x g ys (up.0 g h) (ours g (inr h))) (λ g h. behind_first x g xs (up3.0 g h) (theirs g (inr h))))

-- ---- a number that comes to a list

abbrev at_rank : Ordering → ℕ → ℕ → List ℕ → List ℕ → List ℕ
at_rank o k x xs rest = match_ordering o (k ∷ x ∷ xs) (x ∷ xs) (x ∷ rest)

has_at : (o : Ordering) (k x : ℕ) (xs rest : List ℕ) → nat_cmp k x ≡ o → Has rest k → Has (at_rank o k x xs rest) k
has_at Less k x xs rest e h = inl refl
has_at Equal k x xs rest e h = inl (sym (ranked k x Equal (sym e)))
has_at Greater k x xs rest e h = inr h

pub insert_has : (xs : List ℕ) (k : ℕ) → Has (insert_key nat_cmp xs k) k
insert_has [] k = inl refl
insert_has (x ∷ xs) k = has_at (nat_cmp k x) k x xs (insert_key nat_cmp xs k) refl (insert_has xs k)

keeps_at : (o : Ordering) (k x y : ℕ) (xs rest : List ℕ) → (Has xs y → Has rest y) → Has (x ∷ xs) y → Has (at_rank o k x xs rest) y
keeps_at Less k x y xs rest f h = inr h
keeps_at Equal k x y xs rest f h = h
keeps_at Greater k x y xs rest f (inl e) = inl e
keeps_at Greater k x y xs rest f (inr h) = inr (f h)

pub insert_keeps : (xs : List ℕ) (k y : ℕ) → Has xs y → Has (insert_key nat_cmp xs k) y
insert_keeps [] k y h = absurd h
insert_keeps (x ∷ xs) k y h = keeps_at (nat_cmp k x) k x y xs (insert_key nat_cmp xs k) (insert_keeps xs k y) h

cases_at : (o : Ordering) (k x y : ℕ) (xs rest : List ℕ) → (Has rest y → (k ≡ y) ⊎ Has xs y) → Has (at_rank o k x xs rest) y
    → (k ≡ y) ⊎ Has (x ∷ xs) y
cases_at Less k x y xs rest f (inl e) = inl e
cases_at Less k x y xs rest f (inr h) = inr h
cases_at Equal k x y xs rest f h = inr h
cases_at Greater k x y xs rest f (inl e) = inr (inl e)
cases_at Greater k x y xs rest f (inr h) = elim (f h) [
  | inl e ↦ inl e
  | inr h2 ↦ inr (inr h2)
]

pub insert_cases : (xs : List ℕ) (k y : ℕ) → Has (insert_key nat_cmp xs k) y → (k ≡ y) ⊎ Has xs y
insert_cases [] k y (inl e) = inl e
insert_cases [] k y (inr h) = absurd h
insert_cases (x ∷ xs) k y h = cases_at (nat_cmp k x) k x y xs (insert_key nat_cmp xs k) (insert_cases xs k y) h

ascends_at : (o : Ordering) (k x : ℕ) (xs rest : List ℕ) → nat_cmp k x ≡ o → Ascends (x ∷ xs) → Ascends rest
    → ((y : ℕ) → Has rest y → (k ≡ y) ⊎ Has xs y) → Ascends (at_rank o k x xs rest)
ascends_at Less k x xs rest e up up2 f = (behind, up)
  where
    less : k < x
    less = ranked k x Less (sym e)

    behind : (y : ℕ) → Has (x ∷ xs) y → k < y
    behind y (inl same) = subst (λ (z : ℕ). k < z) same less
    behind y (inr h) = let l = less in let m = up.0 y h in omega (arith, l, m)
ascends_at Equal k x xs rest e up up2 f = up
ascends_at Greater k x xs rest e up up2 f = (behind, up2)
  where
    more : x < k
    more = ranked k x Greater (sym e)

    behind : (y : ℕ) → Has rest y → x < y
    behind y h = elim (f y h) [
      | inl same ↦ subst (λ (z : ℕ). x < z) same more
      | inr h2 ↦ up.0 y h2
    ]

pub insert_ascends : (xs : List ℕ) (k : ℕ) → Ascends xs → Ascends (insert_key nat_cmp xs k)
insert_ascends [] k up = (λ y h. absurd h, tt)
insert_ascends (x ∷ xs) k up =
    ascends_at (nat_cmp k x) k x xs (insert_key nat_cmp xs k) refl up (insert_ascends xs k up.1) (λ y h. insert_cases xs k y h)
