-- What the facts that may hold forbid, gathered along the numbers of those that an act touches.
use Rattle.std.proofs.Common.{◌≡◌, refl, sym, ap, ◌∙◌, subst, ℕ, ◌+◌, ◌<◌, ◌≤◌, Bool, true, false, List, [], ◌++◌, map, length, get_or, Option, None, if◌then◌else◌, length-append, arith}
use Rattle.place_names.specs.declared.act.Act.{Act}
use Rattle.place_names.specs.declared.fact.Fact.{Fact}
use Rattle.place_names.specs.Rules.{Forbidden}
use Rattle.fact_questions.specs.declared.found.Found.{Found}
use Rattle.fact_questions.specs.Findings.{as_found, as_option, with_found, found_among}
use Rattle.fact_questions.proofs.Gathering.{Gathering, gathering_begins, gathering_goes_on, gathering_passes_over, gathering_stops, gathering_ends}
use Rattle.state_trees.specs.FactStates.{FactState, at, may_at, may_hold, IsKept}
use Rattle.state_trees.specs.Concerns.{touches, HasTouched}
use Rattle.state_trees.proofs.Marked.{given, with_given, length-given, given_at}
use Rattle.state_trees.proofs.Numbered.{next, next_last}
use Rattle.state_trees.proofs.Touched.{PassesUntouched, some_fact, touched_first, touched_here, touched_later}

-- the facts below i are tested
abbrev pub Tested : (Fact → Option Forbidden) → FactState → List Found → List Found → ℕ → Type 0
Tested forbids s initial items i = Gathering initial items (given forbids s.facts s.may) i

-- the facts before the next number are tested
abbrev pub Testing : (Fact → Option Forbidden) → FactState → List ℕ → List Found → List Found → ℕ → Type 0
Testing forbids s numbers initial items k = Tested forbids s initial items (next s.facts numbers k)

-- what a fact forbids that an act doesn't touch
abbrev pub AllowsUntouched : Act → (Fact → Option Forbidden) → Type 0
AllowsUntouched a forbids = (f : Fact) → touches a f ≡ false → forbids f ≡ None

pub same_either_way : {A : Type 0} (b : Bool) (x : A) → (if b then x else x) ≡ x
same_either_way true x = refl
same_either_way false x = refl

-- such facts add nothing
passes_over : (a : Act) (forbids : Fact → Option Forbidden) (s : FactState) (initial items : List Found) → IsKept s → AllowsUntouched a forbids
    → PassesUntouched a s.facts (Tested forbids s initial items)
passes_over a forbids s initial items k allowed j there apart t =
    let f = get_or s.facts j some_fact in
    gathering_passes_over initial items (given forbids s.facts s.may) j t
    (subst (λ n. j < n) (sym (length-given forbids s.facts s.may k.may)) there)
    (given_at forbids s.facts s.may j some_fact k.may there ∙ ap (λ (o : Option Forbidden). if at s.may j then o else None) (allowed f apart) ∙ same_either_way (at s.may j) None)

pub testing_begins : (a : Act) (forbids : Fact → Option Forbidden) (s : FactState) (numbers : List ℕ) (initial : List Found)
    → IsKept s → HasTouched a s.facts numbers → AllowsUntouched a forbids → Testing forbids s numbers initial initial 0
testing_begins a forbids s numbers initial k h allowed =
    touched_first a s.facts numbers (Tested forbids s initial initial) h (passes_over a forbids s initial initial k allowed)
    (gathering_begins initial (given forbids s.facts s.may))

-- one more number
pub testing_goes_on : (a : Act) (forbids : Fact → Option Forbidden) (s : FactState) (numbers : List ℕ) (initial items new : List Found) (n i start : ℕ) (d f : Fact) (may : Bool)
    → IsKept s → HasTouched a s.facts numbers → AllowsUntouched a forbids → Testing forbids s numbers initial items n → n < length numbers
    → i ≡ get_or numbers n 0 → i < length s.facts → start ≡ length initial → f ≡ get_or s.facts i d → may ≡ may_at s i
    → new ≡ with_found start items (as_option (if may then forbids f else None)) → Testing forbids s numbers initial new (n + 1)
testing_goes_on a forbids s numbers initial items new n i start d f may k h allowed t among here there begins fact marked is =
    touched_later a s.facts numbers (Tested forbids s initial new) n i h (passes_over a forbids s initial new k allowed) here among
    (gathering_goes_on initial items new (given forbids s.facts s.may) i start (if may then forbids f else None) (as_option (if may then forbids f else None))
    (touched_here s.facts numbers (Tested forbids s initial items) n i here among t)
    (subst (λ m. i < m) (sym (length-given forbids s.facts s.may k.may)) there) begins
    ((λ j. if marked j then forbids (fact j) else None) ∙ sym (given_at forbids s.facts s.may i d k.may there)) refl is)

-- memory is out
pub testing_stops : (forbids : Fact → Option Forbidden) (s : FactState) (numbers : List ℕ) (initial items : List Found) (n : ℕ)
    → Testing forbids s numbers initial items n
    → (some rest : List Forbidden) × (found_among forbids (may_hold s) ≡ some ++ rest) × (items ≡ initial ++ map as_found some)
testing_stops forbids s numbers initial items n t =
    let stops = gathering_stops initial items (given forbids s.facts s.may) (next s.facts numbers n) t in
    (stops.0, stops.1, sym (with_given forbids [] s.facts s.may) ∙ stops.2, stops.3)

-- all numbers are through
pub testing_ends : (forbids : Fact → Option Forbidden) (s : FactState) (numbers : List ℕ) (initial items : List Found) (n : ℕ) → IsKept s
    → Testing forbids s numbers initial items n → length numbers ≤ n → items ≡ initial ++ map as_found (found_among forbids (may_hold s))
testing_ends forbids s numbers initial items n k t h =
    let last = next_last s.facts numbers n h in
    let count = length-given forbids s.facts s.may k.may in
    gathering_ends initial items (given forbids s.facts s.may) (next s.facts numbers n) t (omega (arith, last, count))
    ∙ ap (λ l. initial ++ map as_found l) (with_given forbids [] s.facts s.may)

-- what was there before stays in front
pub testing_keeps : (forbids : Fact → Option Forbidden) (s : FactState) (numbers : List ℕ) (initial items : List Found) (n : ℕ)
    → Testing forbids s numbers initial items n → length initial ≤ length items
testing_keeps forbids s numbers initial items n t =
    omega (arith, ap length t.is, length-append initial (map as_found t.so))
