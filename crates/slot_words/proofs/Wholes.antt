-- What is got in steps: where it isn't broken, its first step isn't.
use Rattle.std.proofs.Common.{◌≡◌, Bool, false, refl, ap, ◌∙◌, subst}
use Rattle.run_codes.specs.Flat.{Got, Given, Stops, Broken, Stop, and_then, is_broken}

pub first_whole : {A B : Type 0} (a : Got A) (f : A → Got B) → is_broken (and_then a f) ≡ false → is_broken a ≡ false
first_whole (Given x) f is = refl
first_whole (Stops s) f is = refl
first_whole Broken f is = is

pub next_whole : {A B : Type 0} (a : Got A) (f : A → Got B) (x : A) → (is_broken a ≡ false → a ≡ Given x) → is_broken (and_then a f) ≡ false
    → is_broken (f x) ≡ false
next_whole a f x first is = subst (λ (g : Got _). is_broken (and_then g f) ≡ false) (first (first_whole a f is)) is

pub first_stops : {A B : Type 0} (a : Got A) (f : A → Got B) (s : Stop) → (is_broken a ≡ false → a ≡ Stops s) → is_broken (and_then a f) ≡ false
    → and_then a f ≡ Stops s
first_stops a f s first is = ap (λ (g : Got _). and_then g f) (first (first_whole a f is))

pub next_gives : {A B : Type 0} (a : Got A) (f : A → Got B) (x : A) (r : Got B) → (is_broken a ≡ false → a ≡ Given x)
    → (is_broken (f x) ≡ false → f x ≡ r) → is_broken (and_then a f) ≡ false → and_then a f ≡ r
next_gives a f x r first next is = ap (λ (g : Got _). and_then g f) (first (first_whole a f is)) ∙ next (next_whole a f x first is)
