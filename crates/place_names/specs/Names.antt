-- Names of places (docs/RULES.md, "Names of places"; Ada 2012, 4.1).
use Rattle.std.specs.Prelude.{ℕ, Bool, true, false, not, ◌&&◌, ◌==◌, List, [], ◌∷◌, ◌++◌, map, length, nat_lt}
use Rattle.std.specs.Cmp.Lexicographic.{pointwise}
use Rattle.place_names.specs.declared.selector.Sel.{Sel}
use Rattle.place_names.specs.declared.selector.Sel.TheVariants.{Field, Elem, Deref}

-- An object by its number, and the steps from it to a part of it.
pub record Name : Type 0 where
  pub root : ℕ
  pub sels : List Sel

-- An object itself.
abbrev pub object : ℕ → Name
object x = record { root = x; sels = [] }

-- A part of what a name names.
abbrev pub extend : Name → List Sel → Name
extend m q = record { root = m.root; sels = m.sels ++ q }

-- One selector is the other: the same component, or both `Elem`, or both `Deref`.
abbrev pub is_equal : Sel → Sel → Bool
is_equal (Field i) (Field j) = i == j
is_equal (Field i) Elem = false
is_equal (Field i) Deref = false
is_equal Elem (Field j) = false
is_equal Elem Elem = true
is_equal Elem Deref = false
is_equal Deref (Field j) = false
is_equal Deref Elem = false
is_equal Deref Deref = true

-- One name is the other.
abbrev pub is_same : Name → Name → Bool
is_same k m = (k.root == m.root) && pointwise is_equal k.sels m.sels

-- Two selectors may lead to one place. As no index is known, only equal ones do.
abbrev pub agrees : Sel → Sel → Bool
agrees s t = is_equal s t

-- One list of selectors is the start of another.
abbrev pub begins : List Sel → List Sel → Bool
begins [] m = true
begins (s ∷ k) [] = false
begins (s ∷ k) (t ∷ m) = is_equal s t && begins k m

-- A prefix of a name starts at its root and goes along its selectors, to their end or less far.
abbrev pub is_prefix : Name → Name → Bool
is_prefix k m = (k.root == m.root) && begins k.sels m.sels

-- A strict prefix goes less far.
abbrev pub is_strict_prefix : Name → Name → Bool
is_strict_prefix k m = is_prefix k m && nat_lt (length k.sels) (length m.sels)

-- Two lists agree at each index that both have, so as far as the shorter one goes.
abbrev pub agree_along : List Sel → List Sel → Bool
agree_along [] m = true
agree_along (s ∷ k) [] = true
agree_along (s ∷ k) (t ∷ m) = agrees s t && agree_along k m

-- Two names overlap where one of the places may be the other or a part of it.
abbrev pub overlaps : Name → Name → Bool
overlaps k m = (k.root == m.root) && agree_along k.sels m.sels

-- Some selector of a list is an `Elem`.
abbrev pub has_elem : List Sel → Bool
has_elem [] = false
has_elem (Elem ∷ k) = true
has_elem (Field i ∷ k) = has_elem k
has_elem (Deref ∷ k) = has_elem k

-- A name covers what it is a prefix of. One with an `Elem` may be that of another element, so it
-- covers nothing.
abbrev pub covers : Name → Name → Bool
covers k m = is_prefix k m && not (has_elem k.sels)

-- The first list agrees to its end with the start of the second, which is as long or longer.
abbrev pub agrees_whole : List Sel → List Sel → Bool
agrees_whole [] m = true
agrees_whole (s ∷ n) [] = false
agrees_whole (s ∷ n) (t ∷ m) = agrees s t && agrees_whole n m

-- A name may be that of the place m, or of one that m is reached through.
abbrev pub leads_to : Name → Name → Bool
leads_to n m = (n.root == m.root) && agrees_whole n.sels m.sels

-- The starts of a list that are shorter than it, from the empty one on.
abbrev pub strict_fronts : List Sel → List (List Sel)
strict_fronts [] = []
strict_fronts (s ∷ k) = [] ∷ map (λ front. s ∷ front) (strict_fronts k)

-- The strict prefixes of a name.
abbrev pub strict_prefixes : Name → List Name
strict_prefixes k = map (λ front. record { root = k.root; sels = front }) (strict_fronts k.sels)
