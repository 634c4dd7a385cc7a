-- Numbers that stand for values.
use Rattle.std.proofs.Common.{◌≡◌, ℕ, zero, suc, ◌+◌, Bool, true, ◌&&◌, ℤ, pos, negsuc, int_le, nat_le, unsigned_abs, Some, List, [], ◌∷◌, slice_get, refl, sym, subst, arith}
use Rattle.std.proofs.lemmas.Bool.Decides.{nat_tests}
use Rattle.run_values.specs.declared.value.Value.{Value}
use Rattle.run_values.specs.declared.value.Kind.{Kind}
use Rattle.run_values.specs.declared.value.Kind.TheVariants as sort
use Rattle.run_values.specs.Arithmetic.{is_integer}
use Rattle.run_values.specs.Values.{kind}
use Rattle.slot_heap.specs.Words.{slot_value, slot_values, most_handles, is_slot_word, are_slot_words}
use Rattle.slot_heap.specs.Runs.{Stand, StandsAt, link}
use Rattle.slot_heap.proofs.Words.{first_true, second_true}
use Rattle.word_heap.specs.Codes.{IsCode}

below : (n : ℕ) → int_le (pos 0) (negsuc n) ≡ true → ⊥
below n is = grind (arith, nat_tests)

-- A word that is one of a kind is the number of its value.
word_coded : (k : Kind) (z : ℤ) → is_slot_word k z ≡ true → IsCode z (slot_value k z)
word_coded sort.Int z is = (refl, grind (arith, nat_tests))
word_coded sort.Enum (pos n) is = (refl, grind (arith, nat_tests))
word_coded sort.Enum (negsuc n) is = absurd (below n (second_true (is_integer (negsuc n)) (int_le (pos 0) (negsuc n)) is))
word_coded sort.Access (pos zero) is = (refl, tt)
word_coded sort.Access (pos (suc h)) is = (refl, grind (arith, nat_tests))
word_coded sort.Access (negsuc n) is = absurd (below n (first_true (int_le (pos 0) (negsuc n)) (nat_le (unsigned_abs (negsuc n)) most_handles) is))

coded_at : (ks : List Kind) (zs : List ℤ) (i : ℕ) (v : Value) → are_slot_words ks zs ≡ true → slice_get (slot_values ks zs) i ≡ Some v → StandsAt IsCode zs i v
coded_at [] zs i v fit is = let never : ⊥ = cc in absurd never
coded_at (k ∷ ks) [] i v fit is = let never : ⊥ = cc in absurd never
coded_at (k ∷ ks) (z ∷ zs) zero v fit is =
    let same : slot_value k z ≡ v = cc in
    let P : Value → Type 0 = λ u. IsCode z u in
    subst P same (word_coded k z (first_true (is_slot_word k z) (are_slot_words ks zs) fit))
coded_at (k ∷ ks) (z ∷ zs) (suc i) v fit is = coded_at ks zs i v (second_true (is_slot_word k z) (are_slot_words ks zs) fit) is

pub stand_coded : (ks : List Kind) (zs : List ℤ) → are_slot_words ks zs ≡ true → Stand IsCode zs 0 (slot_values ks zs)
stand_coded ks zs fit i v is =
    let start : 0 + i ≡ i = omega arith in
    let P : ℕ → Type 0 = λ j. StandsAt IsCode zs j v in
    subst P (sym start) (coded_at ks zs i v fit is)

-- A link is an access value.
pub link_kind : (starts : List ℕ) → kind (link starts) ≡ sort.Access
link_kind [] = refl
link_kind (a ∷ starts) = refl
