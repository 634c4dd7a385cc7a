-- A loop over marks, element by element.
use Rattle.std.proofs.Common.{◌≡◌, refl, sym, ap, ◌∙◌, ℕ, zero, suc, ◌+◌, ◌<◌, ◌≤◌, Bool, true, false, not, ◌||◌, List, [], ◌∷◌, length, get_or, set, zip, arith, add-one}
use Rattle.std.specs.Bool.{Decides}
use Rattle.std.specs.List.{list_all}
use Rattle.place_names.specs.declared.act.Act.{Act}
use Rattle.place_names.specs.declared.fact.Fact.{Fact}
use Rattle.place_names.specs.Facts.{holds_behind}
use Rattle.state_trees.specs.FactStates.{may_behind, lacks_behind, either_mark}

-- the first n marks are changed, each by the element beside it
abbrev pub passed : {A : Type 0} → (A → Bool → Bool) → ℕ → List A → List Bool → List Bool
passed g zero xs marks = marks
passed g (suc n) [] marks = marks
passed g (suc n) (x ∷ xs) [] = []
passed g (suc n) (x ∷ xs) (m ∷ marks) = g x m ∷ passed g n xs marks

pub default_same : {A : Type 0} (xs : List A) (n : ℕ) (d e : A) → n < length xs → get_or xs n d ≡ get_or xs n e
default_same [] n d e p = absurd (omega arith)
default_same (x ∷ xs) zero d e p = refl
default_same (x ∷ xs) (suc n) d e p = default_same xs n d e (omega arith)

next : {A : Type 0} (g : A → Bool → Bool) (n : ℕ) (xs : List A) (marks : List Bool) (d : A) (e : Bool) → n < length xs → n < length marks
    → set (passed g n xs marks) n (g (get_or xs n d) (get_or (passed g n xs marks) n e)) ≡ passed g (suc n) xs marks
next g n [] marks d e p q = absurd (omega arith)
next g n (x ∷ xs) [] d e p q = absurd (omega arith)
next g zero (x ∷ xs) (m ∷ marks) d e p q = refl
next g (suc n) (x ∷ xs) (m ∷ marks) d e p q = ap (λ t. g x m ∷ t) (next g n xs marks d e (omega arith) (omega arith))

-- one more mark
pub passed_next : {A : Type 0} (g : A → Bool → Bool) (n : ℕ) (xs : List A) (marks items : List Bool) → items ≡ passed g n xs marks
    → n < length xs → n < length marks → (x d : A) (held e v : Bool) → x ≡ get_or xs n d → held ≡ get_or items n e → v ≡ g x held
    → set items n v ≡ passed g (n + 1) xs marks
passed_next g n xs marks items is p q x d held e v here there value =
    let old : held ≡ get_or (passed g n xs marks) n e = there ∙ ap (λ l. get_or l n e) is in
    let new : v ≡ g (get_or xs n d) (get_or (passed g n xs marks) n e) = value ∙ (λ t. g (here t) (old t)) in
    (λ t. set (is t) n (new t)) ∙ next g n xs marks d e p q ∙ sym (ap (λ k. passed g k xs marks) (add-one n))

-- one more mark that stays as it was
stays : {A : Type 0} (g : A → Bool → Bool) (n : ℕ) (xs : List A) (marks : List Bool) (d : A) → n < length xs
    → ((m : Bool) → g (get_or xs n d) m ≡ m) → passed g n xs marks ≡ passed g (suc n) xs marks
stays g n [] marks d p same = absurd (omega arith)
stays g zero (x ∷ xs) [] d p same = refl
stays g zero (x ∷ xs) (m ∷ marks) d p same = sym (ap (λ b. b ∷ marks) (same m))
stays g (suc n) (x ∷ xs) [] d p same = refl
stays g (suc n) (x ∷ xs) (m ∷ marks) d p same = ap (λ t. g x m ∷ t) (stays g n xs marks d (omega arith) same)

pub passed_stays : {A : Type 0} (g : A → Bool → Bool) (n : ℕ) (xs : List A) (marks items : List Bool) → items ≡ passed g n xs marks
    → n < length xs → (x d : A) → x ≡ get_or xs n d → ((m : Bool) → g x m ≡ m) → items ≡ passed g (n + 1) xs marks
passed_stays g n xs marks items is p x d here same =
    is ∙ stays g n xs marks d p (λ m. sym (ap (λ y. g y m) here) ∙ same m) ∙ sym (ap (λ k. passed g k xs marks) (add-one n))

-- all marks
pub passed_may : (a : Act) (n : ℕ) (facts : List Fact) (may : List Bool) → length may ≡ length facts → length facts ≤ n
    → passed (λ f m. holds_behind a f m) n facts may ≡ may_behind a facts may
passed_may a zero [] [] e p = refl
passed_may a zero [] (m ∷ may) e p = absurd (omega arith)
passed_may a zero (f ∷ facts) may e p = absurd (omega arith)
passed_may a (suc n) [] [] e p = refl
passed_may a (suc n) [] (m ∷ may) e p = absurd (omega arith)
passed_may a (suc n) (f ∷ facts) [] e p = refl
passed_may a (suc n) (f ∷ facts) (m ∷ may) e p = ap (λ t. holds_behind a f m ∷ t) (passed_may a n facts may (omega arith) (omega arith))

pub passed_lacks : (a : Act) (n : ℕ) (facts : List Fact) (lacks : List Bool) → length lacks ≡ length facts → length facts ≤ n
    → passed (λ f l. not (holds_behind a f (not l))) n facts lacks ≡ lacks_behind a facts lacks
passed_lacks a zero [] [] e p = refl
passed_lacks a zero [] (m ∷ lacks) e p = absurd (omega arith)
passed_lacks a zero (f ∷ facts) lacks e p = absurd (omega arith)
passed_lacks a (suc n) [] [] e p = refl
passed_lacks a (suc n) [] (m ∷ lacks) e p = absurd (omega arith)
passed_lacks a (suc n) (f ∷ facts) [] e p = refl
passed_lacks a (suc n) (f ∷ facts) (l ∷ lacks) e p =
    ap (λ t. not (holds_behind a f (not l)) ∷ t) (passed_lacks a n facts lacks (omega arith) (omega arith))

pub passed_either : (n : ℕ) (other mine : List Bool) → length mine ≡ length other → length mine ≤ n
    → passed (λ o m. m || o) n other mine ≡ either_mark mine other
passed_either zero other [] e p = refl
passed_either zero other (m ∷ mine) e p = absurd (omega arith)
passed_either (suc n) [] [] e p = refl
passed_either (suc n) [] (m ∷ mine) e p = absurd (omega arith)
passed_either (suc n) (o ∷ other) [] e p = refl
passed_either (suc n) (o ∷ other) (m ∷ mine) e p = ap (λ t. (m || o) ∷ t) (passed_either n other mine (omega arith) (omega arith))

-- where each mark of the second list is in the first, they add nothing
pub has_all-decides : (mine other : List Bool) → length mine ≡ length other
    → Decides (list_all (λ p. p.0 || not p.1) (zip mine other)) (either_mark mine other ≡ mine)
has_all-decides [] other e = (λ t. refl, λ t. refl)
has_all-decides (m ∷ mine) [] e = absurd (omega arith)
has_all-decides (true ∷ mine) (o ∷ other) e =
    let more = has_all-decides mine other (omega arith) in
    (λ t. ap (λ l. true ∷ l) (more.0 t), λ t. more.1 cc)
has_all-decides (false ∷ mine) (false ∷ other) e =
    let more = has_all-decides mine other (omega arith) in
    (λ t. ap (λ l. false ∷ l) (more.0 t), λ t. more.1 cc)
has_all-decides (false ∷ mine) (true ∷ other) e = (λ t. cc, λ t. cc)
