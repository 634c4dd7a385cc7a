-- A search among the facts that are marked, and what each of them gives.
use Rattle.std.proofs.Common.{◌≡◌, refl, ap, ℕ, zero, suc, ◌<◌, Bool, true, false, ◌&&◌, ◌||◌, List, [], ◌∷◌, zip, map, length, get_or, Option, None, if◌then◌else◌, arith}
use Rattle.std.specs.List.{list_any}
use Rattle.place_names.specs.declared.fact.Fact.{Fact}
use Rattle.place_names.specs.Rules.{Forbidden}
use Rattle.fact_questions.specs.Findings.{with_one, with_all}
use Rattle.state_trees.specs.FactStates.{marked, at}

pub any_marked : (test : Fact → Bool) (facts : List Fact) (marks : List Bool)
    → list_any (λ p. p.1 && test p.0) (zip facts marks) ≡ list_any test (marked facts marks)
any_marked test [] marks = refl
any_marked test (f ∷ facts) [] = refl
any_marked test (f ∷ facts) (true ∷ marks) = ap (λ b. test f || b) (any_marked test facts marks)
any_marked test (f ∷ facts) (false ∷ marks) = any_marked test facts marks

-- what each fact gives, where it is marked
abbrev pub given : (Fact → Option Forbidden) → List Fact → List Bool → List (Option Forbidden)
given forbids [] marks = []
given forbids (f ∷ facts) [] = []
given forbids (f ∷ facts) (m ∷ marks) = (if m then forbids f else None) ∷ given forbids facts marks

pub with_given : (forbids : Fact → Option Forbidden) (found : List Forbidden) (facts : List Fact) (marks : List Bool)
    → with_all found (given forbids facts marks) ≡ with_all found (map forbids (marked facts marks))
with_given forbids found [] marks = refl
with_given forbids found (f ∷ facts) [] = refl
with_given forbids found (f ∷ facts) (true ∷ marks) = with_given forbids (with_one found (forbids f)) facts marks
with_given forbids found (f ∷ facts) (false ∷ marks) = with_given forbids found facts marks

pub length-given : (forbids : Fact → Option Forbidden) (facts : List Fact) (marks : List Bool) → length marks ≡ length facts
    → length (given forbids facts marks) ≡ length facts
length-given forbids [] marks e = refl
length-given forbids (f ∷ facts) [] e = absurd (omega arith)
length-given forbids (f ∷ facts) (m ∷ marks) e = ap suc (length-given forbids facts marks (omega arith))

pub given_at : (forbids : Fact → Option Forbidden) (facts : List Fact) (marks : List Bool) (i : ℕ) (d : Fact) → length marks ≡ length facts
    → i < length facts → get_or (given forbids facts marks) i None ≡ (if at marks i then forbids (get_or facts i d) else None)
given_at forbids [] marks i d e h = absurd (omega arith)
given_at forbids (f ∷ facts) [] i d e h = absurd (omega arith)
given_at forbids (f ∷ facts) (m ∷ marks) zero d e h = refl
given_at forbids (f ∷ facts) (m ∷ marks) (suc i) d e h = given_at forbids facts marks i d (omega arith) (omega arith)
