-- Words of lists that are replaced.
use Rattle.std.proofs.Common.{◌≡◌, refl, sym, ap, ◌∙◌, subst, ℕ, zero, suc, ◌+◌, ◌≤◌, arith, Bool, true, false, ◌&&◌, List, [], ◌∷◌, ◌++◌, take, drop, length, slice_get, ℤ, pos, negsuc, if◌then◌else◌}
use Rattle.numbered_cells.specs.run_values.declared.value.Kind.{Kind}
use Rattle.numbered_cells.specs.run_values.declared.value.Kind.TheVariants as sort
use Rattle.numbered_cells.specs.machine.Memory.{at_number}
use Rattle.numbered_cells.specs.run_codes.Flat.{Got, Given, Stops, Broken, and_then, spliced, as_gone, all_gone, is_pointer, are_pointers, is_word}
use Rattle.numbered_cells.specs.run_codes.Flat as flat
use Rattle.handled_runs.specs.Beside.{handle_word, renamed, all_renamed, NamesWord, NameWords}
use Rattle.handled_runs.specs.Changes.{all_null}
use Rattle.handled_runs.specs.Looks.{IsFront}

-- ---- some words are replaced

abbrev pub replaced : {A : Type 0} → ℕ → List A → List A → List A
replaced zero [] all = all
replaced zero (z ∷ zs) [] = []
replaced zero (z ∷ zs) (a ∷ all) = z ∷ replaced zero zs all
replaced (suc n) zs [] = []
replaced (suc n) zs (a ∷ all) = a ∷ replaced n zs all

pub spliced_is : {A : Type 0} (n : ℕ) (zs all : List A) → n + length zs ≤ length all → spliced n zs all ≡ replaced n zs all
spliced_is zero [] all less = refl
spliced_is zero (z ∷ zs) [] less = absurd (omega (arith, less))
spliced_is zero (z ∷ zs) (a ∷ all) less =
    let next : 0 + suc (length zs) ≡ suc (0 + length zs) = omega arith in
    ap (λ n. z ∷ (zs ++ drop n (a ∷ all))) next ∙ ap (λ rest. z ∷ rest) (spliced_is zero zs all (omega (arith, less)))
spliced_is (suc n) zs [] less = absurd (omega (arith, less))
spliced_is (suc n) zs (a ∷ all) less =
    let next : suc n + length zs ≡ suc (n + length zs) = omega arith in
    let same : spliced (suc n) zs (a ∷ all) ≡ a ∷ spliced n zs all = ap (λ i. take (suc n) (a ∷ all) ++ zs ++ drop i (a ∷ all)) next in
    same ∙ ap (λ rest. a ∷ rest) (spliced_is n zs all (omega (arith, less)))

pub replaced_long : {A : Type 0} (n : ℕ) (zs all : List A) → length (replaced n zs all) ≡ length all
replaced_long zero [] all = refl
replaced_long zero (z ∷ zs) [] = refl
replaced_long zero (z ∷ zs) (a ∷ all) = ap suc (replaced_long zero zs all)
replaced_long (suc n) zs [] = refl
replaced_long (suc n) zs (a ∷ all) = ap suc (replaced_long n zs all)

module _ (handles : List ℕ) where
  pub replaced_renamed : (n : ℕ) (ks kinds : List Kind) (zs stack : List ℤ) → IsFront ks (drop n kinds) → length ks ≡ length zs
      → replaced n (all_renamed handles ks zs) (all_renamed handles kinds stack) ≡ all_renamed handles kinds (replaced n zs stack)
  replaced_renamed zero [] kinds [] stack is long = refl
  replaced_renamed zero [] kinds (z ∷ zs) stack is long = cc
  replaced_renamed zero (k ∷ ks) kinds [] stack is long = cc
  replaced_renamed zero (k ∷ ks) [] (z ∷ zs) stack is long = absurd is
  replaced_renamed zero (k ∷ ks) (j ∷ kinds) (z ∷ zs) [] is long = refl
  replaced_renamed zero (k ∷ ks) (j ∷ kinds) (z ∷ zs) (a ∷ stack) is long =
      ap (λ q. renamed handles q z ∷ replaced zero (all_renamed handles ks zs) (all_renamed handles kinds stack)) is.0
      ∙ ap (λ rest. renamed handles j z ∷ rest) (replaced_renamed zero ks kinds zs stack is.1 (let same : length ks ≡ length zs = cc in same))
  replaced_renamed (suc n) ks [] zs stack is long = refl
  replaced_renamed (suc n) ks (j ∷ kinds) zs [] is long = refl
  replaced_renamed (suc n) ks (j ∷ kinds) zs (a ∷ stack) is long = ap (λ rest. renamed handles j a ∷ rest) (replaced_renamed n ks kinds zs stack is long)

pub replaced_names : (bound n : ℕ) (ks kinds : List Kind) (zs stack : List ℤ) → IsFront ks (drop n kinds) → length ks ≡ length zs → NameWords bound ks zs → NameWords bound kinds stack
    → NameWords bound kinds (replaced n zs stack)
replaced_names bound zero [] kinds [] stack is long new old = old
replaced_names bound zero [] kinds (z ∷ zs) stack is long new old = cc
replaced_names bound zero (k ∷ ks) kinds [] stack is long new old = cc
replaced_names bound zero (k ∷ ks) [] (z ∷ zs) stack is long new old = absurd is
replaced_names bound zero (k ∷ ks) (j ∷ kinds) (z ∷ zs) [] is long new old = tt
replaced_names bound zero (k ∷ ks) (j ∷ kinds) (z ∷ zs) (a ∷ stack) is long new old =
    (subst (λ q. NamesWord bound q z) is.0 new.0, replaced_names bound zero ks kinds zs stack is.1 (let same : length ks ≡ length zs = cc in same) new.1 old.1)
replaced_names bound (suc n) ks [] zs stack is long new old = tt
replaced_names bound (suc n) ks (j ∷ kinds) zs [] is long new old = tt
replaced_names bound (suc n) ks (j ∷ kinds) zs (a ∷ stack) is long new old = (old.0, replaced_names bound n ks kinds zs stack is long new old.1)

-- ---- what is moved

gone_null : (handles : List ℕ) (z : ℤ) → handle_word handles (as_gone z) ≡ pos 0
gone_null handles (pos zero) = refl
gone_null handles (pos (suc n)) = refl
gone_null handles (negsuc n) = refl

gone_names : (bound : ℕ) (z : ℤ) → NamesWord bound sort.Access (as_gone z)
gone_names bound (pos zero) = tt
gone_names bound (pos (suc n)) = tt
gone_names bound (negsuc n) = tt

one_null : (handles : List ℕ) (o : ℕ) (ks : List Kind) (zs : List ℤ) → is_pointer (slice_get ks o) ≡ true
    → at_number o (λ z. pos 0) (all_renamed handles ks zs) ≡ all_renamed handles ks (at_number o as_gone zs)
one_null handles o [] zs is = cc
one_null handles zero (sort.Access ∷ ks) [] is = refl
one_null handles zero (sort.Access ∷ ks) (z ∷ zs) is = ap (λ w. w ∷ all_renamed handles ks zs) (sym (gone_null handles z))
one_null handles zero (sort.Int ∷ ks) zs is = cc
one_null handles zero (sort.Enum ∷ ks) zs is = cc
one_null handles (suc o) (k ∷ ks) [] is = refl
one_null handles (suc o) (k ∷ ks) (z ∷ zs) is = ap (λ rest. renamed handles k z ∷ rest) (one_null handles o ks zs is)

one_named : (bound o : ℕ) (ks : List Kind) (zs : List ℤ) → is_pointer (slice_get ks o) ≡ true → NameWords bound ks zs → NameWords bound ks (at_number o as_gone zs)
one_named bound o [] zs is names = cc
one_named bound zero (sort.Access ∷ ks) [] is names = tt
one_named bound zero (sort.Access ∷ ks) (z ∷ zs) is names = (gone_names bound z, names.1)
one_named bound zero (sort.Int ∷ ks) zs is names = cc
one_named bound zero (sort.Enum ∷ ks) zs is names = cc
one_named bound (suc o) (k ∷ ks) [] is names = tt
one_named bound (suc o) (k ∷ ks) (z ∷ zs) is names = (names.0, one_named bound o ks zs is names.1)

first_of : (a b : Bool) → a && b ≡ true → a ≡ true
first_of true b e = refl
first_of false b e = cc

second_of : (a b : Bool) → a && b ≡ true → b ≡ true
second_of true b e = e
second_of false b e = cc

pub all_nulled : (handles gone : List ℕ) (ks : List Kind) (zs : List ℤ) → are_pointers ks gone ≡ true → all_null gone (all_renamed handles ks zs) ≡ all_renamed handles ks (all_gone gone zs)
all_nulled handles [] ks zs is = refl
all_nulled handles (o ∷ gone) ks zs is =
    ap (all_null gone) (one_null handles o ks zs (first_of (is_pointer (slice_get ks o)) (are_pointers ks gone) is))
    ∙ all_nulled handles gone ks (at_number o as_gone zs) (second_of (is_pointer (slice_get ks o)) (are_pointers ks gone) is)

pub gone_named : (bound : ℕ) (gone : List ℕ) (ks : List Kind) (zs : List ℤ) → are_pointers ks gone ≡ true → NameWords bound ks zs → NameWords bound ks (all_gone gone zs)
gone_named bound [] ks zs is names = names
gone_named bound (o ∷ gone) ks zs is names =
    gone_named bound gone ks (at_number o as_gone zs) (second_of (is_pointer (slice_get ks o)) (are_pointers ks gone) is)
    (one_named bound o ks zs (first_of (is_pointer (slice_get ks o)) (are_pointers ks gone) is) names)

at_long : {A : Type 0} (f : A → A) (o : ℕ) (xs : List A) → length (at_number o f xs) ≡ length xs
at_long f o [] = refl
at_long f zero (x ∷ xs) = refl
at_long f (suc o) (x ∷ xs) = ap suc (at_long f o xs)

pub gone_long : (gone : List ℕ) (zs : List ℤ) → length (all_gone gone zs) ≡ length zs
gone_long [] zs = refl
gone_long (o ∷ gone) zs = gone_long gone (at_number o as_gone zs) ∙ at_long as_gone o zs

-- ---- words at the front

pub front_names : (bound : ℕ) (ks js : List Kind) (zs us : List ℤ) → IsFront ks js → flat.front ks zs ≡ Given us → NameWords bound js zs → NameWords bound ks us
front_names bound [] js zs us is e names = tt
front_names bound (k ∷ ks) [] zs us is e names = absurd is
front_names bound (k ∷ ks) (j ∷ js) [] us is e names = cc
front_names bound (k ∷ ks) (j ∷ js) (z ∷ zs) us is e names = by (is_word k z) (flat.front ks zs) refl e (λ more same. front_names bound ks js zs more is.1 same names.1)
  where
    by : (b : Bool) (g : Got (List ℤ)) → flat.front ks zs ≡ g → (if b then and_then g (λ more. Given (z ∷ more)) else Broken) ≡ Given us
        → ((more : List ℤ) → flat.front ks zs ≡ Given more → NameWords bound ks more) → NameWords bound (k ∷ ks) us
    by true (Given more) found e on =
        let same : z ∷ more ≡ us = cc in
        let first : NamesWord bound k z = subst (λ q. NamesWord bound q z) (sym is.0) names.0 in
        subst (NameWords bound (k ∷ ks)) same (first, on more found)
    by true (Stops s) found e on = cc
    by true Broken found e on = cc
    by false g found e on = cc

pub front_within : (ks : List Kind) (n : ℕ) (zs us : List ℤ) → flat.front ks (drop n zs) ≡ Given us → n ≤ length zs → n + length us ≤ length zs
front_within ks zero zs us e less = within ks zs us e
  where
    within : (ks : List Kind) (zs us : List ℤ) → flat.front ks zs ≡ Given us → 0 + length us ≤ length zs
    within [] zs us e = let same : [] ≡ us = cc in subst (λ (xs : List ℤ). 0 + length xs ≤ length zs) same (omega arith)
    within (k ∷ ks) [] us e = cc
    within (k ∷ ks) (z ∷ zs) us e = by (is_word k z) (flat.front ks zs) refl e (λ more same. within ks zs more same)
      where
        by : (b : Bool) (g : Got (List ℤ)) → flat.front ks zs ≡ g → (if b then and_then g (λ more. Given (z ∷ more)) else Broken) ≡ Given us
            → ((more : List ℤ) → flat.front ks zs ≡ Given more → 0 + length more ≤ length zs) → 0 + length us ≤ suc (length zs)
        by true (Given more) found e on =
            let same : z ∷ more ≡ us = cc in
            let less = on more found in
            subst (λ (xs : List ℤ). 0 + length xs ≤ suc (length zs)) same (omega (arith, less))
        by true (Stops s) found e on = cc
        by true Broken found e on = cc
        by false g found e on = cc
front_within ks (suc n) [] us e less = absurd (omega (arith, less))
front_within ks (suc n) (z ∷ zs) us e less = let more = front_within ks n zs us e (omega (arith, less)) in omega (arith, more)
