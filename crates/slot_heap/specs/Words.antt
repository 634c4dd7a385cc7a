-- Words as they are kept, without kinds: a value of Integer, a position, or for an access value 0 for null, and else the
-- handle of a cell and 1.
use Rattle.std.specs.Prelude.{ℕ, zero, suc, Bool, true, false, ◌&&◌, List, [], ◌∷◌, nat_le, ℤ, pos, unsigned_abs, int_le}
use Rattle.run_values.specs.declared.value.Value.{Value}
use Rattle.run_values.specs.declared.value.Value.TheVariants as value
use Rattle.run_values.specs.declared.value.Kind.{Kind}
use Rattle.run_values.specs.declared.value.Kind.TheVariants as sort
use Rattle.run_values.specs.Arithmetic.{is_integer}

abbrev pub slot_word : Value → ℤ
slot_word (value.Int v) = v
slot_word (value.Enum n) = pos n
slot_word value.Null = pos 0
slot_word (value.Cell h) = pos (suc h)

-- ---- the value of a kind that a word is kept for

abbrev pub cell_named : ℕ → Value
cell_named zero = value.Null
cell_named (suc h) = value.Cell h

abbrev pub slot_value : Kind → ℤ → Value
slot_value sort.Int z = value.Int z
slot_value sort.Enum z = value.Enum (unsigned_abs z)
slot_value sort.Access z = cell_named (unsigned_abs z)

abbrev pub slot_values : List Kind → List ℤ → List Value
slot_values (k ∷ ks) (z ∷ zs) = slot_value k z ∷ slot_values ks zs
slot_values ks zs = []

-- ---- words that fit their kinds

-- Handles stay below this.
abbrev pub most_handles : ℕ
most_handles = 4611686018427387904

-- A word is one of a kind.
abbrev pub is_slot_word : Kind → ℤ → Bool
is_slot_word sort.Int z = is_integer z
is_slot_word sort.Enum z = is_integer z && int_le (pos 0) z
is_slot_word sort.Access z = int_le (pos 0) z && nat_le (unsigned_abs z) most_handles

abbrev pub are_slot_words : List Kind → List ℤ → Bool
are_slot_words [] [] = true
are_slot_words (k ∷ ks) (z ∷ zs) = is_slot_word k z && are_slot_words ks zs
are_slot_words _ _ = false
