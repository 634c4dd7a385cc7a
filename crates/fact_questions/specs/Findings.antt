-- What facts forbid at one act, as one list: in the order of the facts, and without repeats.
use Rattle.std.specs.Prelude.{◌≡◌, ◌==◌, Bool, ◌&&◌, ℕ, List, [], ◌∷◌, ◌++◌, map, drop, Option, Some, None, if◌then◌else◌, Result, Ok, Err}
use Rattle.std.specs.List.{list_any}
use Rattle.place_names.specs.declared.fact.Fact.{Fact}
use Rattle.place_names.specs.Names.{is_same}
use Rattle.place_names.specs.Rules.{Forbidden}
use Rattle.place_names.specs.Reports.{rule_rank}
use Rattle.fact_questions.specs.declared.found.Found.{Found}
use Rattle.fact_questions.specs.Questions.{is_same_word}

-- What is forbidden, as the program keeps it, and back.
abbrev pub as_found : Forbidden → Found
as_found x = record { rule = x.rule; name = x.name; state = x.word }

abbrev pub as_forbidden : Found → Forbidden
as_forbidden y = record { rule = y.rule; name = y.name; word = y.state }

abbrev pub as_option : Option Forbidden → Option Found
as_option None = None
as_option (Some x) = Some (as_found x)

-- One is the other: rule, name and word are the same.
abbrev pub is_same_forbidden : Forbidden → Forbidden → Bool
is_same_forbidden x y = (rule_rank x.rule == rule_rank y.rule) && (is_same x.name y.name && is_same_word x.word y.word)

-- One more at the end, unless it is there.
abbrev pub with_one : List Forbidden → Option Forbidden → List Forbidden
with_one found None = found
with_one found (Some x) = if list_any (λ y. is_same_forbidden y x) found then found else found ++ x ∷ []

-- Some more, one after the other.
abbrev pub with_all : List Forbidden → List (Option Forbidden) → List Forbidden
with_all found [] = found
with_all found (x ∷ more) = with_all (with_one found x) more

-- What some facts forbid, where each by itself forbids what is given.
abbrev pub found_among : (Fact → Option Forbidden) → List Fact → List Forbidden
found_among forbids facts = with_all [] (map forbids facts)

-- A list has these after what it held. Out of memory, it has some of them, from the first on.
abbrev pub Appends : {T E : Type 0} → Result T E → List Found → List Found → List Forbidden → Type 0
Appends (Ok done) old new found = new ≡ old ++ map as_found found
Appends (Err fault) old new found = (some rest : List Forbidden) × (found ≡ some ++ rest) × (new ≡ old ++ map as_found some)

-- One more at the end, unless it is among those from a place on.
abbrev pub with_found : ℕ → List Found → Option Found → List Found
with_found start found None = found
with_found start found (Some y) =
    if list_any (λ x. is_same_forbidden (as_forbidden x) (as_forbidden y)) (drop start found) then found else found ++ y ∷ []
