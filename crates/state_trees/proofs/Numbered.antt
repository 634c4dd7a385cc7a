-- The numbers of the elements of a list that are as asked: they ascend, and what lies between two
-- of them isn't as asked.
use Rattle.std.proofs.Common.{◌≡◌, refl, sym, ap, ◌∙◌, subst, ℕ, zero, suc, ◌+◌, ◌-◌, ◌<◌, ◌≤◌, Bool, true, false, List, [], ◌∷◌, ◌++◌, length, get_or, take, length-take-le, arith, add-one, add-zero, if◌then◌else◌}
use Rattle.std.specs.List.{range_with_len}
use Rattle.std.proofs.lemmas.List.{take_more, get_or_past}
use Rattle.state_trees.specs.Concerns.{numbers_from, numbers_of}

-- ---- how they are made

-- all elements
pub numbers_from-all : {A : Type 0} (n : ℕ) (xs : List A) → numbers_from (λ x. true) n xs ≡ range_with_len n (length xs)
numbers_from-all n [] = refl
numbers_from-all n (x ∷ xs) = ap (λ l. n ∷ l) (numbers_from-all (suc n) xs ∙ ap (λ m. range_with_len m (length xs)) (sym (add-one n)))

-- one more element
pub numbers_from-push : {A : Type 0} (asked : A → Bool) (n : ℕ) (xs : List A) (y : A)
    → numbers_from asked n (xs ++ y ∷ []) ≡ numbers_from asked n xs ++ (if asked y then (n + length xs) ∷ [] else [])
numbers_from-push asked n [] y = ap (λ m. if asked y then m ∷ [] else []) (sym (add-zero n))
numbers_from-push asked n (x ∷ xs) y = by (asked x) (numbers_from-push asked (suc n) xs y ∙ ap (λ m. numbers_from asked (suc n) xs ++ (if asked y then m ∷ [] else [])) count)
  where
    count : suc n + length xs ≡ n + length (x ∷ xs)
    count = omega arith

    by : (b : Bool) → numbers_from asked (suc n) (xs ++ y ∷ []) ≡ numbers_from asked (suc n) xs ++ (if asked y then (n + length (x ∷ xs)) ∷ [] else [])
        → (if b then n ∷ numbers_from asked (suc n) (xs ++ y ∷ []) else numbers_from asked (suc n) (xs ++ y ∷ []))
        ≡ (if b then n ∷ numbers_from asked (suc n) xs else numbers_from asked (suc n) xs) ++ (if asked y then (n + length (x ∷ xs)) ∷ [] else [])
    by true e = ap (λ l. n ∷ l) e
    by false e = e

-- those of one more element of the front of a list
pub numbers_of-take : {A : Type 0} (asked : A → Bool) (xs : List A) (i : ℕ) (d : A) → i < length xs
    → numbers_of asked (take (i + 1) xs) ≡ numbers_of asked (take i xs) ++ (if asked (get_or xs i d) then i ∷ [] else [])
numbers_of-take asked xs i d h =
    let count : 0 + length (take i xs) ≡ i = omega (arith, length-take-le i xs (omega arith)) in
    ap (numbers_of asked) (take_more xs i d h)
    ∙ numbers_from-push asked 0 (take i xs) (get_or xs i d)
    ∙ ap (λ (m : ℕ). numbers_of asked (take i xs) ++ (if asked (get_or xs i d) then m ∷ [] else [])) count

-- ---- where they are; after the last one stands `last`

low : {A : Type 0} (asked : A → Bool) (n : ℕ) (xs : List A) (k e : ℕ) → (length (numbers_from asked n xs) ≤ k → n + length xs ≤ e)
    → n ≤ get_or (numbers_from asked n xs) k e
low asked n [] k e past = (let h = past (omega arith) in omega arith)
low asked n (x ∷ xs) k e past = by (asked x) k past (λ k. low asked (suc n) xs k e)
  where
    rest : List ℕ
    rest = numbers_from asked (suc n) xs

    by : (b : Bool) (k : ℕ) → (length (if b then n ∷ rest else rest) ≤ k → n + length (x ∷ xs) ≤ e)
        → ((k : ℕ) → (length rest ≤ k → suc n + length xs ≤ e) → suc n ≤ get_or rest k e) → n ≤ get_or (if b then n ∷ rest else rest) k e
    by true zero past more = omega arith
    by true (suc k) past more = (let later = more k (λ h. omega (arith, past (omega arith))) in omega arith)
    by false k past more = (let later = more k (λ h. omega (arith, past h)) in omega arith)

pub within : {A : Type 0} (asked : A → Bool) (n : ℕ) (xs : List A) (k d : ℕ) → k < length (numbers_from asked n xs)
    → get_or (numbers_from asked n xs) k d < n + length xs
within asked n [] k d h = absurd (omega arith)
within asked n (x ∷ xs) k d h = by (asked x) k h (λ k. within asked (suc n) xs k d)
  where
    rest : List ℕ
    rest = numbers_from asked (suc n) xs

    by : (b : Bool) (k : ℕ) → k < length (if b then n ∷ rest else rest)
        → ((k : ℕ) → k < length rest → get_or rest k d < suc n + length xs) → get_or (if b then n ∷ rest else rest) k d < n + length (x ∷ xs)
    by true zero h more = omega arith
    by true (suc k) h more = (let later = more k (omega arith) in omega arith)
    by false k h more = (let later = more k h in omega arith)

up_to : {A : Type 0} (asked : A → Bool) (n : ℕ) (xs : List A) (k last : ℕ) → n + length xs ≤ last → get_or (numbers_from asked n xs) k last ≤ last
up_to asked n [] k last h = omega arith
up_to asked n (x ∷ xs) k last h = by (asked x) k (λ k. up_to asked (suc n) xs k last (omega arith))
  where
    rest : List ℕ
    rest = numbers_from asked (suc n) xs

    by : (b : Bool) (k : ℕ) → ((k : ℕ) → get_or rest k last ≤ last) → get_or (if b then n ∷ rest else rest) k last ≤ last
    by true zero more = omega arith
    by true (suc k) more = more k
    by false k more = more k

ascend : {A : Type 0} (asked : A → Bool) (n : ℕ) (xs : List A) (k d last : ℕ) → n + length xs ≤ last → k < length (numbers_from asked n xs)
    → get_or (numbers_from asked n xs) k d < get_or (numbers_from asked n xs) (suc k) last
ascend asked n [] k d last h p = absurd (omega arith)
ascend asked n (x ∷ xs) k d last h p = by (asked x) k p (low asked (suc n) xs 0 last (λ past. omega arith)) (λ k. ascend asked (suc n) xs k d last (omega arith))
  where
    rest : List ℕ
    rest = numbers_from asked (suc n) xs

    by : (b : Bool) (k : ℕ) → k < length (if b then n ∷ rest else rest) → suc n ≤ get_or rest 0 last
        → ((k : ℕ) → k < length rest → get_or rest k d < get_or rest (suc k) last)
        → get_or (if b then n ∷ rest else rest) k d < get_or (if b then n ∷ rest else rest) (suc k) last
    by true zero p least more = omega arith
    by true (suc k) p least more = more k (omega arith)
    by false k p least more = more k p

-- what stands before the first one isn't as asked
not_before : {A : Type 0} (asked : A → Bool) (n : ℕ) (xs : List A) (last j : ℕ) (d : A) → j < length xs
    → n + j < get_or (numbers_from asked n xs) 0 last → asked (get_or xs j d) ≡ false
not_before asked n [] last j d h p = absurd (omega arith)
not_before asked n (x ∷ xs) last j d h p = by (asked x) refl j h p (λ j. not_before asked (suc n) xs last j d)
  where
    rest : List ℕ
    rest = numbers_from asked (suc n) xs

    by : (b : Bool) → asked x ≡ b → (j : ℕ) → j < length (x ∷ xs) → n + j < get_or (if b then n ∷ rest else rest) 0 last
        → ((j : ℕ) → j < length xs → suc n + j < get_or rest 0 last → asked (get_or xs j d) ≡ false) → asked (get_or (x ∷ xs) j d) ≡ false
    by true e j h p more = absurd (omega arith)
    by false e zero h p more = e
    by false e (suc j) h p more = more j (omega arith) (omega arith)

-- nor is what stands between two
not_between : {A : Type 0} (asked : A → Bool) (n : ℕ) (xs : List A) (k e last j : ℕ) (d : A) → k < length (numbers_from asked n xs)
    → j < length xs → get_or (numbers_from asked n xs) k e < n + j → n + j < get_or (numbers_from asked n xs) (suc k) last → asked (get_or xs j d) ≡ false
not_between asked n [] k e last j d there h p q = absurd (omega arith)
not_between asked n (x ∷ xs) k e last j d there h p q =
    by (asked x) refl k j there h p q (λ k. low asked (suc n) xs k e) (λ j. not_before asked (suc n) xs last j d) (λ k j. not_between asked (suc n) xs k e last j d)
  where
    rest : List ℕ
    rest = numbers_from asked (suc n) xs

    by : (b : Bool) → asked x ≡ b → (k j : ℕ) → k < length (if b then n ∷ rest else rest) → j < length (x ∷ xs)
        → get_or (if b then n ∷ rest else rest) k e < n + j → n + j < get_or (if b then n ∷ rest else rest) (suc k) last
        → ((k : ℕ) → (length rest ≤ k → suc n + length xs ≤ e) → suc n ≤ get_or rest k e)
        → ((j : ℕ) → j < length xs → suc n + j < get_or rest 0 last → asked (get_or xs j d) ≡ false)
        → ((k j : ℕ) → k < length rest → j < length xs → get_or rest k e < suc n + j → suc n + j < get_or rest (suc k) last → asked (get_or xs j d) ≡ false)
        → asked (get_or (x ∷ xs) j d) ≡ false
    by true is zero zero there h p q least first more = absurd (omega arith)
    by true is zero (suc j) there h p q least first more = first j (omega arith) (omega arith)
    by true is (suc k) zero there h p q least first more = (let far = least k (λ past. absurd (omega arith)) in absurd (omega arith))
    by true is (suc k) (suc j) there h p q least first more = more k j (omega arith) (omega arith) (omega arith) (omega arith)
    by false is k zero there h p q least first more = is
    by false is k (suc j) there h p q least first more = more k j there (omega arith) (omega arith) (omega arith)

-- ---- a loop over the numbers

-- the next number of a loop, or how long the list is
abbrev pub next : {A : Type 0} → List A → List ℕ → ℕ → ℕ
next xs numbers k = get_or numbers k (length xs)

pub next_last : {A : Type 0} (xs : List A) (numbers : List ℕ) (k : ℕ) → length numbers ≤ k → next xs numbers k ≡ length xs
next_last xs numbers k h = get_or_past numbers k (length xs) h

-- what goes on over elements that aren't as asked
abbrev pub PassesOver : {A : Type 0} → (A → Bool) → List A → (ℕ → Type 0) → Type 0
PassesOver {A = A} asked xs P = (j : ℕ) → j < length xs → ((d : A) → asked (get_or xs j d) ≡ false) → P j → P (j + 1)

carried : (P : ℕ → Type 0) (m n : ℕ) → m ≤ n → ((j : ℕ) → m ≤ j → j < n → P j → P (j + 1)) → P m → P n
carried P m n h step p = subst P (omega arith) (go (n - m) (omega arith))
  where
    go : (k : ℕ) → m + k ≤ n → P (m + k)
    go zero h = subst P (omega arith) p
    go (suc k) h = subst P (omega arith) (step (m + k) (omega arith) (omega arith) (go k (omega arith)))

pub next_first : {A : Type 0} (asked : A → Bool) (xs : List A) (numbers : List ℕ) (P : ℕ → Type 0) → numbers ≡ numbers_of asked xs
    → PassesOver asked xs P → P 0 → P (next xs numbers 0)
next_first asked xs numbers P is over p =
    subst (λ l. P (next xs l 0)) (sym is)
    (carried P 0 (next xs (numbers_of asked xs) 0) (omega arith)
    (λ j h before. (
    let most = up_to asked 0 xs 0 (length xs) (omega arith) in
    over j (omega arith) (λ d. not_before asked 0 xs (length xs) j d (omega arith) (omega arith))
    ))
    p)

pub next_later : {A : Type 0} (asked : A → Bool) (xs : List A) (numbers : List ℕ) (P : ℕ → Type 0) (k d : ℕ) → numbers ≡ numbers_of asked xs
    → PassesOver asked xs P → k < length numbers → P (get_or numbers k d + 1) → P (next xs numbers (k + 1))
next_later asked xs numbers P k d is over h p =
    subst (λ (l : List ℕ). P (next xs l (k + 1))) (sym is) (subst (λ (m : ℕ). P (next xs made m)) (sym (add-one k)) further)
  where
    made : List ℕ
    made = numbers_of asked xs

    there : k < length made
    there = subst (λ (l : List ℕ). k < length l) is h

    most : next xs made (suc k) ≤ length xs
    most = up_to asked 0 xs (suc k) (length xs) (omega arith)

    further : P (next xs made (suc k))
    further =
        carried P (get_or made k d + 1) (next xs made (suc k))
        (omega (arith, ascend asked 0 xs k d (length xs) (omega arith) there))
        (λ j after before. over j (omega (arith, most))
        (λ e. not_between asked 0 xs k d (length xs) j e there (omega (arith, most)) (omega arith) (omega arith)))
        (subst (λ (l : List ℕ). P (get_or l k d + 1)) is p)

pub number_within : {A : Type 0} (asked : A → Bool) (xs : List A) (numbers : List ℕ) (k d : ℕ) → numbers ≡ numbers_of asked xs
    → k < length numbers → get_or numbers k d < length xs
number_within asked xs numbers k d is h =
    subst (λ l. get_or l k d < length xs) (sym is) (omega (arith, within asked 0 xs k d (subst (λ l. k < length l) is h)))
