-- What stands in frames, one after the other.
use Rattle.std.proofs.Common.{◌≡◌, ℕ, ◌+◌, ◌<◌, List, [], ◌∷◌, ◌++◌, map, length, take, get_or, sym, ap, ◌∙◌, append_assoc, append-nil, ℤ}
use Rattle.std.specs.Prelude.{flat_map}
use Rattle.std.proofs.lemmas.List.{map-append, take_more}
use Rattle.std.proofs.lemmas.Grind.{flat_map-append}
use Rattle.slot_memory.specs.Memory.{Kept}

-- One more of them.
pub map_more : {A B C : Type 0} (f : B → List C) (g : A → B) (xs : List A) (i : ℕ) (x : A) → i < length xs → get_or xs i x ≡ x
    → flat_map f (map g (take i xs)) ++ f (g x) ≡ flat_map f (map g (take (i + 1) xs))
map_more f g xs i x lt at = sym
    (ap (λ l. flat_map f (map g l)) (take_more xs i x lt)
    ∙ ap (λ y. flat_map f (map g (take i xs ++ y ∷ []))) at
    ∙ ap (flat_map f) (map-append g (take i xs) (x ∷ []))
    ∙ flat_map-append f (map g (take i xs)) (g x ∷ [])
    ∙ ap (λ l. flat_map f (map g (take i xs)) ++ l) (append-nil (f (g x))))

pub flat_more : {A C : Type 0} (f : A → List C) (xs : List A) (i : ℕ) (x : A) → i < length xs → get_or xs i x ≡ x
    → flat_map f (take i xs) ++ f x ≡ flat_map f (take (i + 1) xs)
flat_more f xs i x lt at = sym
    (ap (flat_map f) (take_more xs i x lt)
    ∙ ap (λ y. flat_map f (take i xs ++ y ∷ [])) at
    ∙ flat_map-append f (take i xs) (x ∷ [])
    ∙ ap (λ l. flat_map f (take i xs) ++ l) (append-nil (f x)))

-- Words come after those of all frames.
pub stack_more : {R : Type 0} (m k n : Kept R) (a b c : List ℤ) → k ≡ record m { stack = m.stack ++ a } → n ≡ record k { stack = k.stack ++ b } → a ++ b ≡ c
    → n ≡ record m { stack = m.stack ++ c }
stack_more m k n a b c first next both =
    next
    ∙ ap (λ (x : Kept _). record x { stack = x.stack ++ b }) first
    ∙ ap (λ l. record m { stack = l }) (append_assoc m.stack a b ∙ ap (λ l. m.stack ++ l) both)

pub items_more : {A : Type 0} (all now new a b c : List A) → now ≡ all ++ a → new ≡ now ++ b → a ++ b ≡ c → new ≡ all ++ c
items_more all now new a b c first next both = next ∙ ap (λ l. l ++ b) first ∙ append_assoc all a b ∙ ap (λ l. all ++ l) both
