-- Words as texts.
use Rattle.std.proofs.Common.{◌≡◌, ◌<◌, refl, ap, arith, None, List, [], ◌∷◌, ◌++◌, length, map, String, string_bytes, nat_le, ◌&&◌, ◌||◌, not, ◌==◌}
use Rattle.std.specs.declared.alloc.Global.{Global}
use Rattle.std.specs.List.{list_all, list_any}
use Rattle.std.proofs.lemmas.List.{length-map, map-append}
use Rattle.std.proofs.lemmas.List.Folds.{list_all-map}
use Rattle.command_words.specs.Words.{budget_of, is_named, is_stats, are_file_names}

-- one word more
pub words_pushed : (words : List (String Global)) (word : String Global) → map string_bytes (words ++ word ∷ []) ≡ map string_bytes words ++ string_bytes word ∷ []
words_pushed words word = map-append string_bytes words (word ∷ [])

-- names of files, looked at as words
pub are_file_names-map : (names : List (String Global))
    → are_file_names (map string_bytes names)
    ≡ (not (length names == 0) && nat_le (length names) 64 && list_all (λ name. is_named (string_bytes name)) names)
are_file_names-map names = simp (length-map, list_all-map)

-- options, looked at as words
pub is_stats-map : (options : List (String Global)) → list_any is_stats (map string_bytes options) ≡ list_any (λ word. is_stats (string_bytes word)) options
is_stats-map [] = refl
is_stats-map (option ∷ options) = ap (λ b. is_stats (string_bytes option) || b) (is_stats-map options)

-- there are too many
pub no_budget : (options : List (String Global)) → 2 < length options → None ≡ budget_of (map string_bytes options)
no_budget [] many = absurd (omega (arith, many))
no_budget (a ∷ []) many = absurd (omega (arith, many))
no_budget (a ∷ b ∷ []) many = absurd (omega (arith, many))
no_budget (a ∷ b ∷ c ∷ options) many = refl
