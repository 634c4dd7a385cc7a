-- Words of objects that stand one after the other.
use Rattle.std.proofs.Common.{◌≡◌, ℕ, ◌+◌, List, [], ◌∷◌, ◌++◌, map, sum, ap, ◌∙◌, arith}
use Rattle.std.proofs.lemmas.List.{map-append}
use Rattle.std.proofs.lemmas.List.Sums.{sum_by-append}
use Rattle.flow_paths.specs.Objects.{Typing}
use Rattle.flow_paths.specs.Laid.{object_words}

abbrev total : Typing → List ℕ → ℕ
total s xs = sum (map (object_words s) xs)

pub words_append : (s : Typing) (xs ys : List ℕ)
    → sum (map (object_words s) (xs ++ ys)) ≡ sum (map (object_words s) xs) + sum (map (object_words s) ys)
words_append s xs ys =
    ap (λ (ns : List ℕ). sum ns) (map-append (object_words s) xs ys)
    ∙ sum_by-append (λ (n : ℕ). n) (map (object_words s) xs) (map (object_words s) ys)

pub words_one : (s : Typing) (x : ℕ) → sum (map (object_words s) (x ∷ [])) ≡ object_words s x
words_one s x = let e : 0 + object_words s x ≡ object_words s x = omega arith in e

pub words_more : (s : Typing) (x : ℕ) (xs : List ℕ)
    → sum (map (object_words s) (x ∷ xs)) ≡ object_words s x + sum (map (object_words s) xs)
words_more s x xs = words_append s (x ∷ []) xs ∙ ap (λ (n : ℕ). n + total s xs) (words_one s x)

pub ruleset words_joined = (words_append, words_one, words_more)
