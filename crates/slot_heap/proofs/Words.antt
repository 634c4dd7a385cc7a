-- Words that fit their kinds, and their values.
use Rattle.std.proofs.Common.{◌≡◌, ℕ, zero, suc, ◌<◌, Bool, true, ◌&&◌, List, [], ◌∷◌, length, get_or, ap, refl, arith, ℤ}
use Rattle.run_values.specs.declared.value.Value.{Value}
use Rattle.run_values.specs.declared.value.Kind.{Kind}
use Rattle.slot_heap.specs.Words.{slot_value, slot_values, is_slot_word, are_slot_words}

pub first_true : (a b : Bool) → a && b ≡ true → a ≡ true
first_true a b is = grind arith

pub second_true : (a b : Bool) → a && b ≡ true → b ≡ true
second_true a b is = grind arith

-- There are as many words as kinds, and as many values.
pub words_long : (ks : List Kind) (zs : List ℤ) → are_slot_words ks zs ≡ true → length zs ≡ length ks
words_long [] [] is = refl
words_long [] (z ∷ zs) is = cc
words_long (k ∷ ks) [] is = cc
words_long (k ∷ ks) (z ∷ zs) is = ap suc (words_long ks zs (second_true (is_slot_word k z) (are_slot_words ks zs) is))

pub values_long : (ks : List Kind) (zs : List ℤ) → are_slot_words ks zs ≡ true → length (slot_values ks zs) ≡ length zs
values_long [] [] is = refl
values_long [] (z ∷ zs) is = cc
values_long (k ∷ ks) [] is = cc
values_long (k ∷ ks) (z ∷ zs) is = ap suc (values_long ks zs (second_true (is_slot_word k z) (are_slot_words ks zs) is))

-- The word and the value at an index.
pub word_is : (ks : List Kind) (zs : List ℤ) (i : ℕ) (k : Kind) (z : ℤ) → are_slot_words ks zs ≡ true → i < length ks
    → is_slot_word (get_or ks i k) (get_or zs i z) ≡ true
word_is [] zs i k z is lt = absurd (omega (arith, lt))
word_is (x ∷ ks) [] i k z is lt = cc
word_is (x ∷ ks) (y ∷ zs) zero k z is lt = first_true (is_slot_word x y) (are_slot_words ks zs) is
word_is (x ∷ ks) (y ∷ zs) (suc i) k z is lt = word_is ks zs i k z (second_true (is_slot_word x y) (are_slot_words ks zs) is) (omega (arith, lt))

pub value_is : (ks : List Kind) (zs : List ℤ) (i : ℕ) (k : Kind) (z : ℤ) (v : Value) → are_slot_words ks zs ≡ true → i < length ks
    → get_or (slot_values ks zs) i v ≡ slot_value (get_or ks i k) (get_or zs i z)
value_is [] zs i k z v is lt = absurd (omega (arith, lt))
value_is (x ∷ ks) [] i k z v is lt = cc
value_is (x ∷ ks) (y ∷ zs) zero k z v is lt = refl
value_is (x ∷ ks) (y ∷ zs) (suc i) k z v is lt = value_is ks zs i k z v (second_true (is_slot_word x y) (are_slot_words ks zs) is) (omega (arith, lt))
