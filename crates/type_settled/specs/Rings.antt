-- Rings: types that are made of one another, and so have themselves in them.
use Rattle.std.specs.Prelude.{◌≡◌, ◌||◌, ◌<◌, ℕ, Bool, true, List, length, get_or, nat_eq, IsTrue}
use Rattle.type_definitions.specs.declared.table.Component.{Component}
use Rattle.type_definitions.specs.Types.{Table, info}
use Rattle.type_definitions.specs.Declarations.{holds_itself}
use Rattle.type_settled.specs.Measures.{marked}
use Rattle.type_settled.specs.Reach.{holds}

-- A type is made of this one, or is a subtype of it.
abbrev pub IsPart : Table → ℕ → ℕ → Type 0
IsPart table part t = IsTrue (holds true (λ u. nat_eq u part) (info table t))

-- A type has this one in itself, at some depth.
pub data Inside (table : Table) (part : ℕ) : ℕ → Type 0 where
  here : (t : ℕ) → IsPart table part t → Inside table part t
  deeper : (t u : ℕ) → IsPart table u t → Inside table part u → Inside table part t

-- The types of these components are parts of this type.
abbrev pub AreParts : Table → List Component → ℕ → Type 0
AreParts table components t =
    (k : ℕ) (c : Component) → k < length components → c ≡ get_or components k c → IsPart table c.of t

-- ---- roots

-- Each ring has one type as its root.
abbrev pub root : List ℕ → ℕ → ℕ
root roots t = get_or roots t 0

-- A type is the root of its ring, or marked.
abbrev pub is_linked : List ℕ → List Bool → ℕ → Bool
is_linked roots marks t = nat_eq t (root roots t) || marked marks t

-- The marked types have the roots of their rings in them.
abbrev pub HaveRoots : Table → List ℕ → List Bool → Type 0
HaveRoots table roots marks = (t : ℕ) → IsTrue (marked marks t) → Inside table (root roots t) t

-- The marked types are in the roots of their rings.
abbrev pub AreInRoots : Table → List ℕ → List Bool → Type 0
AreInRoots table roots marks = (t : ℕ) → IsTrue (marked marks t) → Inside table t (root roots t)

-- The marked types are in the roots of their rings, and this one is a root or marked.
pub record LooksAt (table : Table) (roots : List ℕ) (t : ℕ) (marks : List Bool) : Type 0 where
  pub linked : IsTrue (is_linked roots marks t)
  pub right : AreInRoots table roots marks

-- The marked types have themselves in them. Of others nothing is said.
abbrev pub AreInRings : Table → List Bool → Type 0
AreInRings table marks = (d : ℕ) → IsTrue (marked marks d) → IsTrue (holds_itself table d)
