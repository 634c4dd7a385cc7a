-- The numbers of objects and scopes by their places in the text.
use Rattle.std.specs.Prelude.{◌≡◌, ℕ, suc, List, [], ◌∷◌, get_or}
use Rattle.machine.specs.typed_tree.Expressions.{Site, object_number}
use Rattle.machine.specs.typed_tree.Programs.{DeclaredObject}
use Rattle.machine.specs.flow_paths.Objects.{Typing, object_at}

-- Objects have these numbers, from k on, and are those of the program.
abbrev pub AreAt : Site → Typing → ℕ → List DeclaredObject → Type 0
AreAt s own k [] = Unit {0}
AreAt s own k (o ∷ os) = (object_number s o.number ≡ k) × (object_at own k ≡ o.object) × AreAt s own (suc k) os

-- Scopes, from the m-th on, stand within these.
abbrev pub AreAround : List ℕ → ℕ → List ℕ → Type 0
AreAround scopes m [] = Unit {0}
AreAround scopes m (b ∷ bs) = (get_or scopes m m ≡ b) × AreAround scopes (suc m) bs
