-- Frames that begin and end: how many words all have, and which values wait.
use Rattle.std.proofs.Common.{◌≡◌, ℕ, ◌+◌, ◌-◌, ◌≤◌, List, [], ◌∷◌, ◌++◌, map, length, refl, sym, ap, subst, ◌∙◌, arith, ℤ}
use Rattle.std.specs.Prelude.{sum, reverse}
use Rattle.std.proofs.lemmas.List.Sums.{sum_by-cons}
use Rattle.slot_frames.specs.declared.rows.Frame.{Frame}
use Rattle.slot_frames.specs.Stacks.{Stacked}
use Rattle.slot_frames.specs.Frames.{word_at, IsStacked}
use Rattle.slot_frames.proofs.Waits.{first_at, first_within}
use Rattle.slot_entries.specs.Entries.{stacked_words}

abbrev pub words_in : List Frame → ℕ
words_in fs = sum (map (λ (f : Frame). f.words) fs)

comes_last : (a b c : ℕ) → a + (b + c) ≡ a + b + c
comes_last a b c = omega arith

pub words_first : (f : Frame) (fs : List Frame) → words_in (f ∷ fs) ≡ f.words + words_in fs
words_first f fs = sum_by-cons (λ n. n) f.words (map (λ (g : Frame). g.words) fs)

pub words_last : (fs : List Frame) (f : Frame) → words_in (fs ++ f ∷ []) ≡ words_in fs + f.words
words_last [] f = refl
words_last (g ∷ fs) f =
    words_first g (fs ++ f ∷ [])
    ∙ ap (λ n. g.words + n) (words_last fs f)
    ∙ comes_last g.words (words_in fs) f.words
    ∙ ap (λ n. n + f.words) (sym (words_first g fs))

-- One more frame runs.
pub entered_words : (s : Stacked) (f : Frame) → stacked_words (record s { frame = f; outer = s.outer ++ s.frame ∷ [] }) ≡ stacked_words s + f.words
entered_words s f = ap (λ n. f.words + n) (words_last s.outer s.frame) ∙ turned f.words (words_in s.outer) s.frame.words
  where
    turned : (a b c : ℕ) → a + (b + c) ≡ c + b + a
    turned a b c = omega arith

-- One frame less.
pub left_words : (s : Stacked) (f : Frame) (fs : List Frame) → s.outer ≡ fs ++ f ∷ [] → stacked_words s - s.frame.words ≡ f.words + words_in fs
left_words s f fs outer = ap (λ l. s.frame.words + words_in l - s.frame.words) outer ∙ ap (λ n. s.frame.words + n - s.frame.words) (words_last fs f) ∙ less s.frame.words (words_in fs) f.words
  where
    less : (a b c : ℕ) → a + (b + c) - a ≡ c + b
    less a b c = omega arith

-- The words of the values of the frame that runs begin within those that wait.
pub own_below : (s : Stacked) (zs : List ℤ) → IsStacked s zs → word_at s.waits s.frame.waits (length zs) ≤ length zs
own_below s zs is =
    let rest : ℕ = length s.waits - s.frame.waits in
    subst (λ n. n ≤ length zs) (first_at s.waits s.frame.waits rest (length zs) (all s.frame.waits (length s.waits) is.nested.0))
    (first_within rest (reverse s.waits) (length zs) is.laid)
  where
    all : (m n : ℕ) → m ≤ n → m + (n - m) ≡ n
    all m n le = omega (arith, le)

-- So they do where the words and the frame are told.
pub below_kept : (s : Stacked) (zs us : List ℤ) (f : Frame) (words first : ℕ) → IsStacked s zs → f ≡ s.frame → words ≡ length zs → first ≡ word_at s.waits f.waits words
    → us ≡ zs → first ≤ length us
below_kept s zs us f words first is frame count at same =
    let told : first ≡ word_at s.waits s.frame.waits (length zs) =
    at ∙ ap (λ (g : Frame). word_at s.waits g.waits words) frame ∙ ap (word_at s.waits s.frame.waits) count in
    subst (λ (l : List ℤ). first ≤ length l) (sym same) (subst (λ n. n ≤ length zs) (sym told) (own_below s zs is))
