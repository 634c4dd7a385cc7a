-- Values that wait, as more do, and as some are taken.
use Rattle.std.proofs.Common.{◌≡◌, ℕ, zero, suc, ◌+◌, ◌≤◌, List, [], ◌∷◌, ◌++◌, map, length, take, drop, refl, sym, ◌∙◌, ap, subst, append_assoc, append-nil, arith, Option, Some, None, ℤ}
use Rattle.std.specs.Prelude.{flat_map, reverse, slice_get}
use Rattle.std.proofs.lemmas.List.{reverse-append, length-append, length-take-le, take-append-drop}
use Rattle.std.proofs.lemmas.Grind.{flat_map-append}
use Rattle.std.proofs.Math.Seq.{take-length, drop-append_seam, take-append_seam}
use Rattle.run_codes.specs.Points.{Held}
use Rattle.slot_frames.specs.declared.rows.Wait.{Wait}
use Rattle.slot_frames.specs.Frames.{held, first_of, word_at, AreLaid}

-- ---- lists

pub last_first : {A : Type 0} (xs : List A) (x : A) → reverse (xs ++ x ∷ []) ≡ x ∷ reverse xs
last_first xs x = reverse-append xs (x ∷ [])

pub first_last : {A : Type 0} (xs : List A) (x : A) → reverse (x ∷ xs) ≡ reverse xs ++ x ∷ []
first_last xs x = reverse-append (x ∷ []) xs

pub take_of_take : {A : Type 0} (m n : ℕ) → m ≤ n → (xs : List A) → take m (take n xs) ≡ take m xs
take_of_take zero n le xs = refl
take_of_take (suc m) zero le xs = absurd (omega (arith, le))
take_of_take (suc m) (suc n) le [] = refl
take_of_take (suc m) (suc n) le (x ∷ xs) = ap (λ l. x ∷ l) (take_of_take m n (omega (arith, le)) xs)

pub drop_of_both : {A : Type 0} (m n : ℕ) → m ≤ n → (xs : List A) → drop m (take n xs) ++ drop n xs ≡ drop m xs
drop_of_both zero n le xs = take-append-drop n xs
drop_of_both (suc m) zero le xs = absurd (omega (arith, le))
drop_of_both (suc m) (suc n) le [] = refl
drop_of_both (suc m) (suc n) le (x ∷ xs) = drop_of_both m n (omega (arith, le)) xs

drop_all : {A : Type 0} (xs : List A) → drop (length xs) xs ≡ []
drop_all [] = refl
drop_all (x ∷ xs) = drop_all xs

pub reversed_length : {A : Type 0} (xs : List A) → length (reverse xs) ≡ length xs
reversed_length [] = refl
reversed_length (x ∷ xs) =
    ap length (first_last xs x) ∙ length-append (reverse xs) (x ∷ []) ∙ ap (λ n. n + 1) (reversed_length xs) ∙ one (length xs)
  where
    one : (n : ℕ) → n + 1 ≡ suc n
    one n = omega arith

dropped_length : {A : Type 0} (xs : List A) (k j : ℕ) → k + j ≡ length xs → length (drop k xs) ≡ j
dropped_length xs zero j sum = omega (arith, sum)
dropped_length [] (suc k) j sum = omega (arith, sum)
dropped_length (x ∷ xs) (suc k) j sum = dropped_length xs k j (omega (arith, sum))

take_front : {A : Type 0} (xs ys : List A) (j : ℕ) → j ≡ length xs → take j (xs ++ ys) ≡ xs
take_front xs ys j size = ap (λ n. take n (xs ++ ys)) size ∙ take-append_seam xs ys

drop_front : {A : Type 0} (xs ys : List A) (j : ℕ) → j ≡ length xs → drop j (xs ++ ys) ≡ ys
drop_front xs ys j size = ap (λ n. drop n (xs ++ ys)) size ∙ drop-append_seam xs ys

twice : {A : Type 0} (xs : List A) → reverse (reverse xs) ≡ xs
twice [] = refl
twice (x ∷ xs) = ap reverse (first_last xs x) ∙ last_first (reverse xs) x ∙ ap (λ l. x ∷ l) (twice xs)

-- ---- values that wait

pub held_length : (ws : List Wait) (zs : List ℤ) → length (held ws zs) ≡ length ws
held_length [] zs = refl
held_length (w ∷ ws) zs = ap suc (held_length ws (take w.first zs))

pub held_types : (ws : List Wait) (zs : List ℤ) → map (λ (h : Held). h.of) (held ws zs) ≡ map (λ (w : Wait). w.of) ws
held_types [] zs = refl
held_types (w ∷ ws) zs = ap (λ l. w.of ∷ l) (held_types ws (take w.first zs))

-- One more value waits.
pub held_more : (w : Wait) (ws : List Wait) (zs us : List ℤ) → w.first ≡ length zs
    → held (w ∷ ws) (zs ++ us) ≡ record { of = w.of; words = us } ∷ held ws zs
held_more w ws zs us at =
    ap (λ n. record { of = w.of; words = drop n (zs ++ us) } ∷ held ws (take n (zs ++ us))) at
    ∙ ap (λ l. record { of = w.of; words = l } ∷ held ws (take (length zs) (zs ++ us))) (drop-append_seam zs us)
    ∙ ap (λ l. record { of = w.of; words = us } ∷ held ws l) (take-append_seam zs us)

pub laid_more : (w : Wait) (ws : List Wait) (zs us : List ℤ) → w.first ≡ length zs → AreLaid ws (length zs) → AreLaid (w ∷ ws) (length (zs ++ us))
laid_more w ws zs us at laid =
    (subst (λ n. n ≤ length (zs ++ us)) (sym at) (subst (λ n. length zs ≤ n) (sym (length-append zs us)) (omega arith)), subst (λ n. AreLaid ws n) (sym at) laid)

-- The words of the latest ones come last.
pub first_within : (k : ℕ) (ws : List Wait) (n : ℕ) → AreLaid ws n → first_of k ws n ≤ n
first_within zero ws n laid = omega arith
first_within (suc k) [] n laid = omega arith
first_within (suc k) (w ∷ ws) n laid = let h = first_within k ws w.first laid.1 in let m = laid.0 in omega (arith, h, m)

-- Without some of the latest ones.
pub held_dropped : (k : ℕ) (ws : List Wait) (zs : List ℤ) → AreLaid ws (length zs)
    → drop k (held ws zs) ≡ held (drop k ws) (take (first_of k ws (length zs)) zs)
held_dropped zero ws zs laid = ap (held ws) (sym (take-length zs))
held_dropped (suc k) [] zs laid = refl
held_dropped (suc k) (w ∷ ws) zs laid =
    let size : length (take w.first zs) ≡ w.first = length-take-le w.first zs laid.0 in
    held_dropped k ws (take w.first zs) (subst (λ n. AreLaid ws n) (sym size) laid.1)
    ∙ ap (λ n. held (drop k ws) (take (first_of k ws n) (take w.first zs))) size
    ∙ ap (held (drop k ws)) (take_of_take (first_of k ws w.first) w.first (first_within k ws w.first laid.1) zs)

pub laid_dropped : (k : ℕ) (ws : List Wait) (n : ℕ) → AreLaid ws n → AreLaid (drop k ws) (first_of k ws n)
laid_dropped zero ws n laid = laid
laid_dropped (suc k) [] n laid = laid
laid_dropped (suc k) (w ∷ ws) n laid = laid_dropped k ws w.first laid.1

-- The words of the latest ones, the oldest of them first.
pub held_words : (k : ℕ) (ws : List Wait) (zs : List ℤ) → AreLaid ws (length zs)
    → flat_map (λ (h : Held). h.words) (reverse (take k (held ws zs))) ≡ drop (first_of k ws (length zs)) zs
held_words zero ws zs laid = sym (drop_all zs)
held_words (suc k) [] zs laid = sym (drop_all zs)
held_words (suc k) (w ∷ ws) zs laid =
    let size : length (take w.first zs) ≡ w.first = length-take-le w.first zs laid.0 in
    ap (flat_map (λ (h : Held). h.words)) (first_last (take k (held ws (take w.first zs))) (record { of = w.of; words = drop w.first zs }))
    ∙ flat_map-append (λ (h : Held). h.words) (reverse (take k (held ws (take w.first zs)))) (record { of = w.of; words = drop w.first zs } ∷ [])
    ∙ ap (λ l. l ++ (drop w.first zs ++ [])) (held_words k ws (take w.first zs) (subst (λ n. AreLaid ws n) (sym size) laid.1))
    ∙ ap (λ l. drop (first_of k ws (length (take w.first zs))) (take w.first zs) ++ l) (append-nil (drop w.first zs))
    ∙ ap (λ n. drop (first_of k ws n) (take w.first zs) ++ drop w.first zs) size
    ∙ drop_of_both (first_of k ws w.first) w.first (first_within k ws w.first laid.1) zs

-- ---- from the oldest one on

split_at : {A : Type 0} (xs : List A) (k : ℕ) → take k xs ++ drop k xs ≡ xs
split_at xs k = take-append-drop k xs

-- The latest ones are those from a number on.
pub reverse_drop : {A : Type 0} (xs : List A) (k j : ℕ) → k + j ≡ length xs → reverse (take j (reverse xs)) ≡ drop k xs
reverse_drop xs k j sum =
    ap (λ l. reverse (take j (reverse l))) (sym (split_at xs k))
    ∙ ap (λ l. reverse (take j l)) (reverse-append (take k xs) (drop k xs))
    ∙ ap reverse (take_front (reverse (drop k xs)) (reverse (take k xs)) j (sym (reversed_length (drop k xs) ∙ left)))
    ∙ twice (drop k xs)
  where
    left : length (drop k xs) ≡ j
    left = dropped_length xs k j sum

pub reverse_rest : {A : Type 0} (xs : List A) (k j : ℕ) → k + j ≡ length xs → drop j (reverse xs) ≡ reverse (take k xs)
reverse_rest xs k j sum =
    ap (λ l. drop j (reverse l)) (sym (split_at xs k))
    ∙ ap (drop j) (reverse-append (take k xs) (drop k xs))
    ∙ drop_front (reverse (drop k xs)) (reverse (take k xs)) j (sym (reversed_length (drop k xs) ∙ dropped_length xs k j sum))

-- Where the words of the values from a number on begin.
first_front : (front : List Wait) (w : Wait) (rest : List Wait) (n : ℕ) → first_of (suc (length front)) (front ++ w ∷ rest) n ≡ w.first
first_front [] w rest n = refl
first_front (a ∷ front) w rest n = first_front front w rest a.first

there : (ws : List Wait) (k j : ℕ) → k + suc j ≡ length ws → (w : Wait) × (slice_get ws k ≡ Some w) × (drop k ws ≡ w ∷ drop (suc k) ws)
there [] k j sum = absurd (omega (arith, sum))
there (w ∷ ws) zero j sum = (w, refl, refl)
there (w ∷ ws) (suc k) j sum = there ws k j (omega (arith, sum))

past : {A : Type 0} (xs : List A) (k : ℕ) → length xs ≡ k → slice_get xs k ≡ None
past [] k size = refl
past (x ∷ xs) zero size = absurd (omega (arith, size))
past (x ∷ xs) (suc k) size = past xs k (omega (arith, size))

at_word : (n : ℕ) → Option Wait → ℕ
at_word n None = n
at_word n (Some w) = w.first

pub first_at : (ws : List Wait) (k j n : ℕ) → k + j ≡ length ws → first_of j (reverse ws) n ≡ word_at ws k n
unfolding at_word
first_at ws k zero n sum = ap (at_word n) (sym (past ws k (omega (arith, sum))))
first_at ws k (suc j) n sum =
    let t = there ws k j sum in
    let left : length (drop (suc k) ws) ≡ j = dropped_length ws (suc k) j (omega (arith, sum)) in
    ap (λ l. first_of (suc j) (reverse l) n) (sym (split_at ws k))
    ∙ ap (λ l. first_of (suc j) l n) (reverse-append (take k ws) (drop k ws))
    ∙ ap (λ l. first_of (suc j) (reverse l ++ reverse (take k ws)) n) t.2
    ∙ ap (λ l. first_of (suc j) (l ++ reverse (take k ws)) n) (first_last (drop (suc k) ws) t.0)
    ∙ ap (λ l. first_of (suc j) l n) (append_assoc (reverse (drop (suc k) ws)) (t.0 ∷ []) (reverse (take k ws)))
    ∙ ap (λ i. first_of (suc i) (reverse (drop (suc k) ws) ++ t.0 ∷ reverse (take k ws)) n) (sym (reversed_length (drop (suc k) ws) ∙ left))
    ∙ first_front (reverse (drop (suc k) ws)) t.0 (reverse (take k ws)) n
    ∙ ap (at_word n) (sym t.1)
