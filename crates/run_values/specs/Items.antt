-- Items of the input (Ada 2012, A.10.8, and A.10.5 for End_Of_File).
use Rattle.std.specs.Prelude.{ℕ, ◌+◌, ◌<◌, ◌≤◌, Bool, true, false, not, ◌&&◌, ◌||◌, ◌==◌, nat_lt, if◌then◌else◌, Option, Some, None, List, [], ◌∷◌, length, take, drop, ℤ}
use Rattle.std.specs.List.{prefix_len, list_all}
use Rattle.std.specs.Str.{all_ascii_digits}
use Rattle.std.specs.Str.Parse.{without_leading_sign, signed_digits_value}
use Rattle.run_values.specs.declared.items.Item.{Item}
use Rattle.run_values.specs.declared.items.Item.TheVariants as item
use Rattle.run_values.specs.Arithmetic.{fits}

-- A blank, a tab, a carriage return or a line feed. No item has one.
abbrev pub is_separator : ℕ → Bool
is_separator b = b == 32 || b == 9 || b == 13 || b == 10

abbrev pub is_item_byte : ℕ → Bool
is_item_byte b = not (is_separator b)

-- The longest run of separators, and of other bytes, at the front of a text.
abbrev pub separator_length : List ℕ → ℕ
separator_length text = prefix_len is_separator text

abbrev pub item_length : List ℕ → ℕ
item_length text = prefix_len is_item_byte text

-- The value of an optional sign and one or more digits, where it is one of Integer. Underscores, a
-- base and an exponent, as in a literal of a source, make no number of the input.
abbrev pub number : List ℕ → Option ℤ
number text =
    let digits = without_leading_sign text in
    if nat_lt 0 (length digits) && all_ascii_digits digits
    then fits (signed_digits_value 10 text)
    else None

abbrev pub item_of : Option ℤ → ℕ → Item
item_of None end = item.Bad
item_of (Some value) end = item.Number value end

-- The item at an index: it goes to the next separator or to the end.
abbrev pub item_at : List ℕ → ℕ → Item
item_at input start =
    let len = item_length (drop start input) in
    item_of (number (take len (drop start input))) (start + len)

-- The next item, from an index on. It is missing where only separators are left.
abbrev pub next_item : List ℕ → ℕ → Item
next_item input at =
    let rest = drop at input in
    if list_all is_separator rest then item.Missing else item_at input (at + separator_length rest)

-- A number ends after its first byte and within the input.
abbrev pub EndsWithin : ℕ → ℕ → Item → Type 0
EndsWithin at len item.Missing = Unit {0}
EndsWithin at len item.Bad = Unit {0}
EndsWithin at len (item.Number value end) = (at < end) × (end ≤ len)

-- The rest of the input is empty, or is one line feed.
abbrev pub at_end : List ℕ → Bool
at_end [] = true
at_end (b ∷ []) = b == 10
at_end (b ∷ c ∷ rest) = false
