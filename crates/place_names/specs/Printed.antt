-- The text of a name (docs/RULES.md, "Names of places").
use Rattle.std.specs.Prelude.{ℕ, List, [], ◌∷◌, ◌++◌, codes}
use Rattle.place_names.specs.declared.selector.Sel.{Sel}
use Rattle.place_names.specs.declared.selector.Sel.TheVariants.{Field, Elem, Deref}
use Rattle.place_names.specs.Names.{Name, extend}
use Rattle.place_names.specs.Names as names

-- The text of one selector after a name: a dot and the component as declared, `.all`, or `(?)`.
abbrev pub selector_text : (Name → ℕ → List ℕ) → Name → Sel → List ℕ
selector_text component before (Field i) = codes "." ++ component before i
selector_text component before Elem = codes "(?)"
selector_text component before Deref = codes ".all"

-- The texts of the selectors after a name, in order.
abbrev pub selectors_text : (Name → ℕ → List ℕ) → Name → List Sel → List ℕ
selectors_text component before [] = []
selectors_text component before (s ∷ rest) =
    selector_text component before s ++ selectors_text component (extend before (s ∷ [])) rest

-- A name is printed as its root's text and that of its selectors. The text of an object, and that
-- of a component by the place that has it and its number, are given.
abbrev pub printed : (ℕ → List ℕ) → (Name → ℕ → List ℕ) → Name → List ℕ
printed object component m = object m.root ++ selectors_text component (names.object m.root) m.sels
