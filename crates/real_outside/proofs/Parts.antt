-- What a write in parts keeps.
use Rattle.std.proofs.Common.{◌≡◌, ◌-◌, ◌++◌, ℕ, List, length, take, drop, sym, ap, ◌∙◌}
use Rattle.std.specs.Prelude.{Option, None, Some}
use Rattle.std.specs.Io.KnownBytes.{Appends}
use Rattle.std.proofs.lemmas.List.{take_rest, take-append-drop, append_assoc}

-- These bytes of a piece are still to come, and those before them were appended.
abbrev pub Comes : Option (List ℕ) → Option (List ℕ) → List ℕ → List ℕ → Type 0
Comes old new piece rest = (front : List ℕ) × (piece ≡ front ++ rest) × Appends old new front

-- what is appended in two parts
Appends-append : (old mid new : Option (List ℕ)) (a b : List ℕ) → Appends old mid a → Appends mid new b → Appends old new (a ++ b)
Appends-append None mid new a b first second = tt
Appends-append (Some xs) None new a b first second = absurd first
Appends-append (Some xs) (Some ys) None a b first second = absurd second
Appends-append (Some xs) (Some ys) (Some zs) a b first second = second ∙ ap (λ l. l ++ b) first ∙ append_assoc xs a b

-- the front of what was to come is appended
pub Comes-part : (old mid new : Option (List ℕ)) (piece rest : List ℕ) (n : ℕ) → Comes old mid piece rest → Appends mid new (take n rest)
    → Comes old new piece (take (length rest - n) (drop n rest))
Comes-part old mid new piece rest n before part =
    let cut : take n rest ++ take (length rest - n) (drop n rest) ≡ rest = ap (λ l. take n rest ++ l) (take_rest rest n) ∙ take-append-drop n rest in
    let whole : piece ≡ (before.0 ++ take n rest) ++ take (length rest - n) (drop n rest) =
    before.1 ∙ ap (λ l. before.0 ++ l) (sym cut) ∙ sym (append_assoc before.0 (take n rest) (take (length rest - n) (drop n rest))) in
    (before.0 ++ take n rest, whole, Appends-append old mid new before.0 (take n rest) before.2 part)
