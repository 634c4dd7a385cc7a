-- Lines for one number more.
use Rattle.std.proofs.Common.{◌≡◌, ℕ, ◌+◌, suc, List, ◌++◌, sym, ap, ◌∙◌, arith, append_assoc, append-nil}
use Rattle.prog_maker.specs.Texts.{for_each}

pub none_yet : (f : ℕ → List ℕ) (old : List ℕ) → old ≡ old ++ for_each f 0
unfolding for_each
none_yet f old = sym (append-nil old)

pub one_more : (f : ℕ → List ℕ) (k : ℕ) (old before added now : List ℕ) → before ≡ old ++ for_each f k → now ≡ before ++ added → added ≡ f (k + 1)
    → now ≡ old ++ for_each f (k + 1)
unfolding for_each
one_more f k old before added now so more is =
    let next : k + 1 ≡ suc k = omega arith in
    more ∙ ap (λ xs. xs ++ added) so ∙ append_assoc old (for_each f k) added
    ∙ ap (λ xs. old ++ (for_each f k ++ xs)) (is ∙ ap f next) ∙ ap (λ n. old ++ for_each f n) (sym next)

pub with_more : {old now added xs ys : List ℕ} → now ≡ old ++ added → old ≡ xs → added ≡ ys → now ≡ xs ++ ys
with_more so old added = so ∙ (λ i. old i ++ added i)
