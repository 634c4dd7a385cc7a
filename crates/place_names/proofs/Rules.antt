-- The rule of writes without its list of prefixes.
use Rattle.std.proofs.Common.{◌≡◌, refl, sym, ap, ◌∙◌, Bool, true, false, ◌&&◌, ◌||◌, ◌==◌, List, [], ◌∷◌, length, map, nat_lt, rules, arith, lt-ltb}
use Rattle.std.specs.List.{list_any}
use Rattle.std.proofs.Math.Bool.{and_assoc}
use Rattle.place_names.specs.declared.selector.Sel.{Sel}
use Rattle.place_names.specs.declared.rule.Loan.TheVariants.{Borrowed, Observed}
use Rattle.place_names.specs.Names.{Name, agrees, agrees_whole, leads_to, strict_fronts, strict_prefixes}
use Rattle.place_names.specs.declared.fact.Fact.{Fact}
use Rattle.place_names.specs.declared.fact.Fact.TheVariants.{Moved, Lent}
use Rattle.place_names.specs.Facts.{place}
use Rattle.place_names.specs.Rules.{breaks_O2}

any-map : {A B : Type 0} (t : B → Bool) (g : A → B) (xs : List A) → list_any t (map g xs) ≡ list_any (λ x. t (g x)) xs
any-map t g [] = refl
any-map t g (x ∷ xs) = ap (λ b. t (g x) || b) (any-map t g xs)

any-and : {A : Type 0} (b : Bool) (t : A → Bool) (xs : List A) → list_any (λ x. b && t x) xs ≡ (b && list_any t xs)
any-and true t xs = refl
any-and false t [] = refl
any-and false t (x ∷ xs) = any-and false t xs

or_false : (b : Bool) → b || false ≡ b
or_false true = refl
or_false false = refl

any-or_false : {A : Type 0} (t : A → Bool) (xs : List A) → list_any (λ x. t x || false) xs ≡ list_any t xs
any-or_false t [] = refl
any-or_false t (x ∷ xs) =
    ap (λ b. b || list_any (λ x. t x || false) xs) (or_false (t x)) ∙ ap (λ b. t x || b) (any-or_false t xs)

any-false : {A : Type 0} (xs : List A) → list_any (λ (x : A). false) xs ≡ false
any-false [] = refl
any-false (x ∷ xs) = any-false xs

-- a list agrees with a strict front of another where it agrees with the other and is shorter
any_front : (n k : List Sel) → list_any (λ front. agrees_whole n front) (strict_fronts k) ≡ (agrees_whole n k && nat_lt (length n) (length k))
any_front [] [] = refl
any_front (s ∷ n) [] = refl
any_front [] (t ∷ k) = sym (lt-ltb _ _ (omega arith))
any_front (s ∷ n) (t ∷ k) =
    let shorter : nat_lt (length n) (length k) ≡ nat_lt (length (s ∷ n)) (length (t ∷ k)) = search rules in
    any-map (λ front. agrees_whole (s ∷ n) front) (λ front. t ∷ front) (strict_fronts k)
    ∙ any-and (agrees s t) (λ front. agrees_whole n front) (strict_fronts k)
    ∙ ap (λ b. agrees s t && b) (any_front n k)
    ∙ sym (and_assoc (agrees s t) (agrees_whole n k) (nat_lt (length n) (length k)))
    ∙ ap (λ b. (agrees_whole (s ∷ n) (t ∷ k)) && b) shorter

any_prefix : (n k : Name) → list_any (λ p. leads_to n p) (strict_prefixes k) ≡ (leads_to n k && nat_lt (length n.sels) (length k.sels))
any_prefix n k =
    let same = n.root == k.root in
    any-map (λ p. leads_to n p) (λ front. record { root = k.root; sels = front }) (strict_fronts k.sels)
    ∙ any-and same (λ front. agrees_whole n.sels front) (strict_fronts k.sels)
    ∙ ap (λ b. same && b) (any_front n.sels k.sels)
    ∙ sym (and_assoc same (agrees_whole n.sels k.sels) (nat_lt (length n.sels) (length k.sels)))

-- a strict prefix of k is forbidden as a comparison is, where k is and the fact's name is shorter
-- than k
pub any_breaks_O2 : (k : Name) (f : Fact)
    → list_any (λ p. breaks_O2 p f) (strict_prefixes k) ≡ (breaks_O2 k f && nat_lt (length (place f).sels) (length k.sels))
any_breaks_O2 k (Moved n) =
    any-or_false (λ p. leads_to n p) (strict_prefixes k)
    ∙ any_prefix n k
    ∙ ap (λ b. b && nat_lt (length n.sels) (length k.sels)) (sym (or_false (leads_to n k)))
any_breaks_O2 k (Lent Borrowed h n) = any_prefix n k
any_breaks_O2 k (Lent Observed h n) = any-false (strict_prefixes k)
