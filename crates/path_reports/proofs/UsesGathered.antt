-- What the facts that may hold forbid at a call, gathered along all facts.
use Rattle.std.proofs.Common.{◌≡◌, refl, sym, ap, ◌∙◌, subst, ℕ, ◌+◌, ◌<◌, ◌≤◌, Bool, List, [], map, length, get_or, Option, None, if◌then◌else◌, arith}
use Rattle.place_names.specs.declared.fact.Fact.{Fact}
use Rattle.place_names.specs.Rules.{Forbidden}
use Rattle.fact_questions.specs.declared.found.Found.{Found}
use Rattle.fact_questions.specs.Findings.{as_found, as_option, with_found, found_among}
use Rattle.fact_questions.proofs.Gathering.{gathering_begins, gathering_goes_on, gathering_ends}
use Rattle.state_trees.specs.FactStates.{FactState, may_at, may_hold, IsKept}
use Rattle.state_trees.proofs.Marked.{given, with_given, length-given, given_at}
use Rattle.state_trees.proofs.Tested.{Tested}

pub uses_begin : (forbids : Fact → Option Forbidden) (s : FactState) (items : List Found) → items ≡ [] → Tested forbids s [] items 0
uses_begin forbids s items none =
    subst (λ (found : List Found). Tested forbids s [] found 0) (sym none) (gathering_begins [] (given forbids s.facts s.may))

-- one more fact
pub uses_go_on : (forbids : Fact → Option Forbidden) (s : FactState) (items new : List Found) (i : ℕ) (d f : Fact) (may : Bool)
    → IsKept s → Tested forbids s [] items i → i < length s.facts → f ≡ get_or s.facts i d → may ≡ may_at s i
    → new ≡ with_found 0 items (as_option (if may then forbids f else None)) → Tested forbids s [] new (i + 1)
uses_go_on forbids s items new i d f may k t there fact marked is =
    gathering_goes_on [] items new (given forbids s.facts s.may) i 0 (if may then forbids f else None)
    (as_option (if may then forbids f else None)) t (subst (λ m. i < m) (sym (length-given forbids s.facts s.may k.may)) there) refl
    ((λ j. if marked j then forbids (fact j) else None) ∙ sym (given_at forbids s.facts s.may i d k.may there)) refl is

-- all facts are through
pub uses_end : (forbids : Fact → Option Forbidden) (s : FactState) (items : List Found) (i : ℕ) → IsKept s → Tested forbids s [] items i
    → length s.facts ≤ i → items ≡ map as_found (found_among forbids (may_hold s))
uses_end forbids s items i k t h =
    let count = length-given forbids s.facts s.may k.may in
    gathering_ends [] items (given forbids s.facts s.may) i t (omega (arith, h, count))
    ∙ ap (λ (l : List Forbidden). map as_found l) (with_given forbids [] s.facts s.may)
