-- Items that come again.
use Rattle.std.proofs.Common.{◌≡◌, ℕ, zero, suc, ◌+◌, ◌-◌, ◌<◌, ◌≤◌, List, [], ◌∷◌, ◌++◌, length, take, drop, get_or, replicate, Result, OnOk, refl, sym, ap, subst, ◌∙◌, arith, append-nil, append_assoc, ℤ}
use Rattle.std.proofs.lemmas.List.{take-replicate, replicate-append-replicate}
use Rattle.run_values.specs.declared.value.Kind.{Kind}
use Rattle.run_codes.specs.Flat.{repeated}
use Rattle.type_words.specs.Parts.{copies, repeated_kinds}

copies_kinds : (n : ℕ) (l : List Kind) → copies n l ≡ repeated_kinds n l
copies_kinds zero l = refl
copies_kinds (suc n) l = ap (λ k. l ++ k) (copies_kinds n l)

copies_words : (n : ℕ) (l : List ℤ) → copies n l ≡ repeated n l
copies_words zero l = refl
copies_words (suc n) l = ap (λ k. l ++ k) (copies_words n l)

-- ---- one item

copies_one : {A : Type 0} (n : ℕ) (x : A) → copies n (x ∷ []) ≡ replicate n x
copies_one zero x = refl
copies_one (suc n) x = ap (λ l. x ∷ l) (copies_one n x)

pub one_copied : {A : Type 0} (xs : List A) (first n : ℕ) (x : A) → length xs - first ≡ 1 → x ≡ get_or xs first x → copies n (drop first xs) ≡ replicate n x
one_copied [] first n x one is = absurd (omega (arith, one))
one_copied (y ∷ []) zero n x one is = ap (λ z. copies n (z ∷ [])) (sym is) ∙ copies_one n x
one_copied (y ∷ z ∷ zs) zero n x one is = absurd (omega (arith, one))
one_copied (y ∷ ys) (suc first) n x one is = one_copied ys first n x (omega (arith, one)) is

-- Several of them go in one copy, and the last ones are a part of so many.
pub several_more : {A : Type 0} (xs old new : List A) (times left : ℕ) (x : A) → 64 < left → new ≡ xs ++ replicate 64 x → xs ++ replicate left x ≡ old ++ replicate times x
    → new ++ replicate (left - 64) x ≡ old ++ replicate times x
several_more xs old new times left x lt is before =
    ap (λ l. l ++ replicate (left - 64) x) is ∙ append_assoc xs (replicate 64 x) (replicate (left - 64) x)
    ∙ ap (λ l. xs ++ l) (replicate-append-replicate 64 (left - 64) x ∙ ap (λ n. replicate n x) (all left lt)) ∙ before
  where
    all : (left : ℕ) → 64 < left → 64 + (left - 64) ≡ left
    all left lt = omega (arith, lt)

pub last_ones : {A : Type 0} (xs old new : List A) (times left : ℕ) (x : A) → left ≤ 64 → new ≡ xs ++ take left (replicate 64 x) → xs ++ replicate left x ≡ old ++ replicate times x
    → new ≡ old ++ replicate times x
last_ones xs old new times left x le is before = is ∙ ap (λ l. xs ++ l) (take-replicate left 64 x le) ∙ before

-- ---- several items

-- Some items begin with others.
pub record Begins {A : Type 0} (old xs : List A) : Type 0 where
  pub rest : List A
  pub is : xs ≡ old ++ rest

pub begins : {A : Type 0} (xs : List A) → Begins xs xs
begins xs = record { rest = []; is = sym (append-nil xs) }

front_slice : {A : Type 0} (old rest : List A) (first n : ℕ) → first + n ≡ length old → take n (drop first (old ++ rest)) ≡ drop first old
front_slice [] rest zero zero is = refl
front_slice [] rest zero (suc n) is = absurd (omega (arith, is))
front_slice [] rest (suc first) n is = absurd (omega (arith, is))
front_slice (x ∷ old) rest zero zero is = absurd (omega (arith, is))
front_slice (x ∷ old) rest zero (suc n) is = ap (λ l. x ∷ l) (front_slice old rest zero n (omega (arith, is)))
front_slice (x ∷ old) rest (suc first) n is = front_slice old rest first n (omega (arith, is))

pub begins_slice : {A : Type 0} (old xs : List A) (first end : ℕ) → first ≤ length old → end ≡ length old → Begins old xs → take (end - first) (drop first xs) ≡ drop first old
begins_slice old xs first end le at is = ap (λ l. take (end - first) (drop first l)) is.is ∙ front_slice old is.rest first (end - first) (omega (arith, le, at))

pub begins_more : {A : Type 0} (old xs block new : List A) → new ≡ xs ++ block → Begins old xs → Begins old new
begins_more old xs block new e is = record { rest = is.rest ++ block; is = e ∙ ap (λ l. l ++ block) is.is ∙ append_assoc old is.rest block }

pub copies_next : {A : Type 0} (n i : ℕ) (block old new : List A) → i < n → new ≡ old ++ block → new ++ copies (n - (i + 1)) block ≡ old ++ copies (n - i) block
copies_next n i block old new lt is =
    ap (λ l. l ++ copies (n - (i + 1)) block) is ∙ append_assoc old block (copies (n - (i + 1)) block) ∙ ap (λ k. old ++ copies k block) (sym (next n i lt))
  where
    next : (n i : ℕ) → i < n → n - i ≡ suc (n - (i + 1))
    next n i lt = omega arith

pub copies_end : {A : Type 0} (old block : List A) (n i : ℕ) → n ≤ i → old ++ copies (n - i) block ≡ old
copies_end old block n i le = ap (λ k. old ++ copies k block) (none n i le) ∙ append-nil old
  where
    none : (n i : ℕ) → n ≤ i → n - i ≡ 0
    none n i le = omega arith

-- ---- what is appended once comes as often as it is wanted

once_more : {A : Type 0} (n : ℕ) (block old all : List A) → (n ≡ 0 → ⊥) → all ≡ old ++ block → all ++ copies (n - 1) (drop (length old) all) ≡ old ++ copies n block
once_more zero block old all some is = absurd (some refl)
once_more (suc n) block old all some is =
    ap (λ k. all ++ copies k (drop (length old) all)) (less n) ∙ ap (λ l. l ++ copies n (drop (length old) l)) is ∙ ap (λ b. (old ++ block) ++ copies n b) (after old block) ∙ append_assoc old block (copies n block)
  where
    after : {A : Type 0} (old block : List A) → drop (length old) (old ++ block) ≡ block
    after [] block = refl
    after (x ∷ old) block = after old block

    less : (n : ℕ) → suc n - 1 ≡ n
    less n = omega arith

pub kinds_again : {U E : Type 0} (r : Result U E) (n first : ℕ) (block old all new : List Kind) → (n ≡ 0 → ⊥) → first ≡ length old → all ≡ old ++ block
    → OnOk r (new ≡ all ++ copies (n - 1) (drop first all)) → OnOk r (new ≡ old ++ repeated_kinds n block)
kinds_again r n first block old all new some at is told =
    subst (λ l. OnOk r (new ≡ l)) (ap (λ k. all ++ copies (n - 1) (drop k all)) at ∙ once_more n block old all some is ∙ ap (λ l. old ++ l) (copies_kinds n block)) told

pub words_again : {U E : Type 0} (r : Result U E) (n first : ℕ) (block old all new : List ℤ) → (n ≡ 0 → ⊥) → first ≡ length old → all ≡ old ++ block
    → OnOk r (new ≡ all ++ copies (n - 1) (drop first all)) → OnOk r (new ≡ old ++ repeated n block)
words_again r n first block old all new some at is told =
    subst (λ l. OnOk r (new ≡ l)) (ap (λ k. all ++ copies (n - 1) (drop k all)) at ∙ once_more n block old all some is ∙ ap (λ l. old ++ l) (copies_words n block)) told

pub no_kinds_again : (n : ℕ) (block old : List Kind) → n ≡ 0 → old ≡ old ++ repeated_kinds n block
no_kinds_again n block old none = sym (append-nil old) ∙ ap (λ k. old ++ repeated_kinds k block) (sym none)

pub no_words_again : (n : ℕ) (block old : List ℤ) → n ≡ 0 → old ≡ old ++ repeated n block
no_words_again n block old none = sym (append-nil old) ∙ ap (λ k. old ++ repeated k block) (sym none)
