-- The characters of a text, as bytes (docs/LANGUAGE.md, "Lexical elements"; Ada 2012, 2.1 and 2.2).
-- After its end a text reads as 0, which is in none of these classes.
use Rattle.std.specs.Prelude.{ℕ, Bool, ◌||◌, ◌&&◌, ◌==◌, nat_le, List}
use Rattle.std.specs.Char.{is_ascii_alphabetic, is_ascii_digit}

abbrev pub Text : Type 0
Text = List ℕ

abbrev pub line_feed : ℕ
line_feed = 10

abbrev pub quote : ℕ
quote = 34

abbrev pub number_sign : ℕ
number_sign = 35

abbrev pub hyphen : ℕ
hyphen = 45

abbrev pub full_stop : ℕ
full_stop = 46

abbrev pub underscore : ℕ
underscore = 95

-- Separators are blank, tab, line feed, vertical tab, form feed and carriage return.
abbrev pub is_separator : ℕ → Bool
is_separator b = b == 32 || (nat_le 9 b && nat_le b 13)

abbrev pub is_letter : ℕ → Bool
is_letter b = is_ascii_alphabetic b

abbrev pub is_digit : ℕ → Bool
is_digit b = is_ascii_digit b

-- Graphic characters are the bytes 32 to 126.
abbrev pub is_graphic : ℕ → Bool
is_graphic b = nat_le 32 b && nat_le b 126
