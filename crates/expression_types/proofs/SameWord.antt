-- Two identifiers are the same where their lower cases are.
use Rattle.std.proofs.Common.{◌≡◌, ◌↔◌, List, ℕ, Bool, true, false, map, nat_eq, IsTrue, refl, arith}
use Rattle.std.specs.Char.{to_ascii_lowercase}
use Rattle.std.specs.Cmp.Lexicographic.{pointwise, bytes_decides}
use Rattle.type_definitions.specs.Entries.{same_word}

by_test : (r s : Bool) → (IsTrue r → IsTrue s) → (IsTrue s → IsTrue r) → r ≡ s
by_test true true f g = refl
by_test false false f g = refl
by_test true false f g = grind (arith, f)
by_test false true f g = grind (arith, g)

pub same_if : (r : Bool) (a b : List ℕ) → IsTrue r ↔ (map to_ascii_lowercase a ≡ map to_ascii_lowercase b) → r ≡ same_word a b
same_if r a b is =
    let d = bytes_decides (map to_ascii_lowercase a) (map to_ascii_lowercase b) in
    by_test r (pointwise nat_eq (map to_ascii_lowercase a) (map to_ascii_lowercase b)) (λ t. d.1 (is.0 t)) (λ t. is.1 (d.0 t))
