-- A name that gives a word has indexes that give one, and one whose indexes stop doesn't.
use Rattle.std.proofs.Common.{◌≡◌, ℕ, ◌+◌, ◌∙◌, ap, refl, ℤ, pos, unsigned_abs}
use Rattle.run_values.specs.declared.value.Kind.{Kind}
use Rattle.run_codes.specs.Codes.{Code, Number, Local, Global, Via, Scaled, Plus, Unary, Binary, Short, IsNull, Waiting, EndOfFile, Nothing, Behind}
use Rattle.run_codes.specs.Lowered.{no_index}
use Rattle.run_codes.specs.Flat.{Got, Given, Stops, Broken, and_then}
use Rattle.slot_words.proofs.Leaves.{plus_zero}
use Rattle.handled_runs.specs.Slots.{Slots, word, indexes, behind, spot, cell_spot}

again : {A : Type 0} (a : Got ℤ) (g : ℤ → Got ℤ) (f : ℤ → Got A)
    → and_then a (λ x. and_then (and_then a g) f) ≡ and_then (and_then a g) f
again (Given z) g f = refl
again (Stops s) g f = refl
again Broken g f = refl

both_again : {A : Type 0} (a b : Got ℤ) (g : ℤ → Got ℤ) (f : ℤ → Got A)
    → and_then (and_then a (λ x. b)) (λ x. and_then (and_then a (λ x. and_then b g)) f) ≡ and_then (and_then a (λ x. and_then b g)) f
both_again (Given z) (Given y) g f = refl
both_again (Given z) (Stops s) g f = refl
both_again (Given z) Broken g f = refl
both_again (Stops s) b g f = refl
both_again Broken b g f = refl

pub indexes_first : {A : Type 0} (m : Slots) (p : Code) (f : ℤ → Got A)
    → and_then (indexes m p) (λ x. and_then (word m p) f) ≡ and_then (word m p) f
unfolding word indexes
indexes_first m (Number v) f = refl
indexes_first m (Local at i) f = again (word m i) _ f
indexes_first m (Global at i) f = again (word m i) _ f
indexes_first m (Via p at i k) f = both_again (indexes m p) (word m i) _ f
indexes_first m (Scaled i low high size) f = refl
indexes_first m (Plus a b) f = refl
indexes_first m (Unary op a) f = refl
indexes_first m (Binary op a b) f = refl
indexes_first m (Short op a b) f = refl
indexes_first m (IsNull equal p) f = refl
indexes_first m (Waiting at) f = refl
indexes_first m EndOfFile f = refl
indexes_first m Nothing f = refl

pub via_plain : (m : Slots) (p : Code) (at : ℕ) (k : Kind) → word m (Via p at no_index k) ≡ and_then (word m p) (behind m at k)
unfolding word
via_plain m p at k = indexes_first m p (behind m (at + 0) k) ∙ ap (λ n. and_then (word m p) (behind m n k)) (plus_zero at)

pub behind_plain : (m : Slots) (p : Code) (at : ℕ)
    → spot m (Behind p at no_index) ≡ and_then (word m p) (λ w. cell_spot m at (unsigned_abs w))
unfolding word
behind_plain m p at =
    indexes_first m p (λ w. cell_spot m (at + 0) (unsigned_abs w)) ∙ ap (λ n. and_then (word m p) (λ w. cell_spot m n (unsigned_abs w))) (plus_zero at)
