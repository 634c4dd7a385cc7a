-- A table of words may leave out the words of another length.
use Rattle.std.proofs.Common.{◌≡◌, ◌≢◌, ℕ, Bool, true, false, List, [], ◌∷◌, length, map, refl, ap, sym, ◌∙◌, arith, ◌==◌, Option}
use Rattle.std.proofs.lemmas.Bool.Decides.{nat_tests}
use Rattle.std.proofs.lemmas.List.{length-map}
use Rattle.std.specs.Bool.{MatchBool}
use Rattle.std.specs.Char.{to_ascii_lowercase}
use Rattle.std.specs.Cmp.Lexicographic.{told_text}
use Rattle.std.specs.Str.{str_eq_ignore_ascii_case}
use Rattle.ada_lexer.specs.declared.token.Reserved.{Reserved}
use Rattle.ada_lexer.specs.Characters.{Text}
use Rattle.ada_lexer.specs.ReservedWords.{entry_of, reserved, reserved_words}

abbrev pub Table : Type 0
Table = List (Text × Reserved)

abbrev pub cons_if : Bool → Text × Reserved → Table → Table
cons_if true entry table = entry ∷ table
cons_if false entry table = table

-- The entries whose spellings have so many bytes.
abbrev pub of_length : ℕ → Table → Table
of_length n [] = []
of_length n (entry ∷ table) = cons_if (length entry.0 == n) entry (of_length n table)

-- Texts of two lengths are not the same word.
other_length : (a b : Text) → (length a == length b) ≡ false → str_eq_ignore_ascii_case a b ≡ false
other_length a b other = decided _ (told_text (map to_ascii_lowercase a) (map to_ascii_lowercase b) _ refl)
  where
    decided : (r : Bool) → MatchBool r (map to_ascii_lowercase a ≡ map to_ascii_lowercase b) (map to_ascii_lowercase a ≢ map to_ascii_lowercase b)
        → r ≡ false
    decided true same =
        let lengths : length a ≡ length b = sym (length-map a to_ascii_lowercase) ∙ ap length same ∙ length-map b to_ascii_lowercase in
        absurd (grind (arith, nat_tests))
    decided false same = refl

-- A step of the search goes over an entry of another length.
step : (same : Bool) (entry : Text × Reserved) (table : Table) (word : Text) → (length entry.0 == length word) ≡ same
    → entry_of table word ≡ entry_of (of_length (length word) table) word
    → entry_of (entry ∷ table) word ≡ entry_of (cons_if same entry (of_length (length word) table)) word
step true entry table word is rest = rw rest refl
step false entry table word is rest = rw (other_length entry.0 word is) rest

pub entry_of-of_length : (table : Table) (word : Text) → entry_of table word ≡ entry_of (of_length (length word) table) word
entry_of-of_length [] word = refl
entry_of-of_length (entry ∷ table) word = step _ entry table word refl (entry_of-of_length table word)

-- The reserved words of one length serve for words of that length.
pub table_serves : (n : ℕ) (table : Table) (word : Text) (found : Option Reserved) → of_length n reserved_words ≡ table
    → length word ≡ n → found ≡ entry_of table word → found ≡ reserved word
unfolding reserved
table_serves n table word found all is says =
    let whole = entry_of-of_length reserved_words word in
    let at_n : entry_of reserved_words word ≡ entry_of (of_length n reserved_words) word = rw is at whole in
    says ∙ sym (ap (λ (t : Table). entry_of t word) all) ∙ sym at_n

-- No reserved word has another length.
pub none_of_length : (n : ℕ) → n ≢ 2 → n ≢ 3 → n ≢ 4 → n ≢ 5 → n ≢ 6 → n ≢ 7 → n ≢ 8 → n ≢ 9 → n ≢ 10 → n ≢ 12
    → of_length n reserved_words ≡ []
unfolding reserved_words
none_of_length n a b c d e f g h i j =
    let e2 : (2 == n) ≡ false = grind (arith, nat_tests) in
    let e3 : (3 == n) ≡ false = grind (arith, nat_tests) in
    let e4 : (4 == n) ≡ false = grind (arith, nat_tests) in
    let e5 : (5 == n) ≡ false = grind (arith, nat_tests) in
    let e6 : (6 == n) ≡ false = grind (arith, nat_tests) in
    let e7 : (7 == n) ≡ false = grind (arith, nat_tests) in
    let e8 : (8 == n) ≡ false = grind (arith, nat_tests) in
    let e9 : (9 == n) ≡ false = grind (arith, nat_tests) in
    let e10 : (10 == n) ≡ false = grind (arith, nat_tests) in
    let e12 : (12 == n) ≡ false = grind (arith, nat_tests) in
    rw (e2, e3, e4, e5, e6, e7, e8, e9, e10, e12) refl
