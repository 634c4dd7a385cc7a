-- Words that are renamed fit their kinds, and kinds that stand in a cell stand in it over handles.
use Rattle.std.proofs.Common.{◌≡◌, refl, ap, ◌∙◌, ℕ, zero, suc, ◌<◌, arith, Bool, true, false, ◌&&◌, List, [], ◌∷◌, ◌++◌, map, drop, get_or, ℤ, pos, negsuc}
use Rattle.std.proofs.lemmas.Bool.Decides.{nat_tests}
use Rattle.numbered_cells.specs.run_values.declared.value.Value.{Value}
use Rattle.numbered_cells.specs.run_values.declared.value.Kind.{Kind}
use Rattle.numbered_cells.specs.run_values.declared.value.Kind.TheVariants as sort
use Rattle.numbered_cells.specs.run_codes.Flat.{is_word, are_words, have_kinds}
use Rattle.numbered_cells.specs.Follows.{handled}
use Rattle.handled_runs.specs.Fits.{most_handles, AreSmall, is_slot_word, are_slot_words}
use Rattle.handled_runs.specs.Beside.{renamed, all_renamed}
use Rattle.handled_runs.proofs.Standing.{drop_map, kinds_handled}

pub small_next : (handles : List ℕ) (h : ℕ) → AreSmall handles → h < most_handles → AreSmall (handles ++ h ∷ [])
small_next [] h small less zero = less
small_next [] h small less (suc n) = omega arith
small_next (x ∷ handles) h small less zero = small zero
small_next (x ∷ handles) h small less (suc n) = small_next handles h (λ i. small (suc i)) less n

pub both_true : (a b : Bool) → a ≡ true → b ≡ true → a && b ≡ true
both_true true b e f = f
both_true false b e f = e

name_fits : (h : ℕ) → h < most_handles → is_slot_word sort.Access (pos (suc h)) ≡ true
name_fits h less = grind (arith, nat_tests)

word_fits : (handles : List ℕ) (k : Kind) (z : ℤ) → AreSmall handles → is_word k z ≡ true → is_slot_word k (renamed handles k z) ≡ true
word_fits handles sort.Int z small is = is
word_fits handles sort.Enum z small is = is
word_fits handles sort.Access (pos zero) small is = refl
word_fits handles sort.Access (pos (suc n)) small is = name_fits (get_or handles n 0) (small n)
word_fits handles sort.Access (negsuc n) small is = refl

pub words_fit : (handles : List ℕ) (ks : List Kind) (zs : List ℤ) → AreSmall handles → are_words ks zs ≡ true → are_slot_words ks (all_renamed handles ks zs) ≡ true
words_fit handles [] [] small is = refl
words_fit handles [] (z ∷ zs) small is = cc
words_fit handles (k ∷ ks) [] small is = cc
words_fit handles (k ∷ ks) (z ∷ zs) small is =
    both_true (is_slot_word k (renamed handles k z)) (are_slot_words ks (all_renamed handles ks zs)) (word_fits handles k z small (first (is_word k z) (are_words ks zs) is))
    (words_fit handles ks zs small (second (is_word k z) (are_words ks zs) is))
  where
    first : (a b : Bool) → a && b ≡ true → a ≡ true
    first true b e = refl
    first false b e = cc

    second : (a b : Bool) → a && b ≡ true → b ≡ true
    second true b e = e
    second false b e = cc

pub kinds_stand : (handles : List ℕ) (ks : List Kind) (o : ℕ) (ws : List Value) → have_kinds ks (drop o ws) ≡ true → have_kinds ks (drop o (map (handled handles) ws)) ≡ true
kinds_stand handles ks o ws have = ap (have_kinds ks) (drop_map (handled handles) o ws) ∙ (kinds_handled handles ks (drop o ws) ∙ have)
