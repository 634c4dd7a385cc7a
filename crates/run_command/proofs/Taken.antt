-- A source that is read to its end.
use Rattle.std.proofs.Common.{◌≡◌, ◌++◌, ◌∷◌, [], ◌∙◌, sym, List, ℕ, Option, None, Some, IfSome}
use Rattle.std.specs.Io.KnownBytes.{Consumes, IsAtEnd}

nothing_left : (ys zs bytes : List ℕ) → ys ≡ [] → ys ≡ bytes ++ zs → zs ≡ []
nothing_left ys zs [] end took = sym took ∙ end
nothing_left ys zs (b ∷ bytes) end took = absurd (cc)

-- where it is at its end, what is taken from it leaves it there
pub read_out : (first old new : Option (List ℕ)) (text bytes : List ℕ) → Consumes first old text → IsAtEnd old → Consumes old new bytes
    → IfSome first (λ all. IsAtEnd new)
read_out None old new text bytes before end took = tt
read_out (Some xs) None new text bytes before end took = absurd before
read_out (Some xs) (Some ys) None text bytes before end took = absurd took
read_out (Some xs) (Some ys) (Some zs) text bytes before end took = nothing_left ys zs bytes end took
