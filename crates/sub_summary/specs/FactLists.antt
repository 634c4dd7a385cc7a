-- Lists that grow fact by fact: of facts, each once, and of the objects that facts are rooted in.
use Rattle.std.specs.Prelude.{ℕ, Bool, ◌||◌, List, [], ◌∷◌, ◌++◌, if◌then◌else◌}
use Rattle.std.specs.Ordering.{nat_cmp}
use Rattle.std.specs.BTreeSet.{insert_key}
use Rattle.std.specs.List.{list_any}
use Rattle.place_names.specs.declared.fact.Fact.{Fact}
use Rattle.place_names.specs.Facts.{place, is_same_fact}
use Rattle.flow_paths.specs.Objects.{Typing, is_formal, is_package_object}

-- One more, unless it is there.
abbrev pub with_fact : List Fact → Fact → List Fact
with_fact facts g = if list_any (λ f. is_same_fact f g) facts then facts else facts ++ g ∷ []

abbrev pub with_facts : List Fact → List Fact → List Fact
with_facts facts [] = facts
with_facts facts (g ∷ rest) = with_facts (with_fact facts g) rest

-- ---- the objects that the end of a call looks at

-- A formal or a package object.
abbrev pub is_kept : Typing → ℕ → Bool
is_kept s x = is_formal s x || is_package_object s x

-- The object that a fact is rooted in comes to some in their order, where it is kept.
abbrev pub with_root : Typing → List ℕ → Fact → List ℕ
with_root s keys f = if is_kept s (place f).root then insert_key nat_cmp keys (place f).root else keys

abbrev pub with_roots : Typing → List ℕ → List Fact → List ℕ
with_roots s keys [] = keys
with_roots s keys (f ∷ rest) = with_roots s (with_root s keys f) rest
