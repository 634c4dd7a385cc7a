-- Where words occur in a list, and what an index of them answers.
use Rattle.std.specs.Prelude.{◌≡◌, ℕ, ◌+◌, Bool, true, false, not, ◌&&◌, ◌||◌, List, [], ◌∷◌, map, length, nat_eq, Option, Some, None, is_some, if◌then◌else◌}
use Rattle.std.specs.Char.{to_ascii_lowercase}
use Rattle.std.specs.Cmp.Lexicographic.{pointwise}
use Rattle.std.specs.Map.{lookup}
use Rattle.type_definitions.specs.declared.table.FormalInfo.{FormalInfo}
use Rattle.type_definitions.specs.declared.table.Component.{Component}
use Rattle.type_definitions.specs.declared.judgement.Role.{Role}
use Rattle.type_definitions.specs.declared.judgement.Role.TheVariants as role
use Rattle.type_definitions.specs.Types.{fields}
use Rattle.type_definitions.specs.Entries.{entry_of, same_word}
use Rattle.type_definitions.specs.Names.{Context}
use Rattle.type_definitions.specs.Expressions.{Given, profile_of}
use Rattle.expression_types.specs.declared.word_index.Occurrence.{Occurrence}
use Rattle.expression_types.specs.Formals.{is_given}

-- ---- in a list

-- Where a word occurs first in a list, whose first place is n, and whether it occurs again.
abbrev pub occurrence : ℕ → List Given → List ℕ → Option Occurrence
occurrence n [] w = None
occurrence n (g ∷ rest) w =
    if is_given w g then Some (record { first = n; again = is_some (occurrence (n + 1) rest w) }) else occurrence (n + 1) rest w

-- Where it occurs in two lists, one after the other.
abbrev pub both_lists : Option Occurrence → Option Occurrence → Option Occurrence
both_lists None q = q
both_lists (Some p) q = Some (record { first = p.first; again = p.again || is_some q })

-- It occurs once.
abbrev pub is_single : Option Occurrence → Bool
is_single None = false
is_single (Some p) = not p.again

-- ---- in an index

abbrev pub Entries : Type 0
Entries = List (List ℕ × Occurrence)

abbrev pub occurs : Entries → List ℕ → Option Occurrence
occurs entries w = lookup (pointwise nat_eq (map to_ascii_lowercase w)) entries

abbrev pub next_occurrence : ℕ → Option Occurrence → Occurrence
next_occurrence n None = record { first = n; again = false }
next_occurrence n (Some p) = record { first = p.first; again = true }

-- With one more word.
abbrev pub with_word : (List ℕ → Option Occurrence) → List ℕ → ℕ → List ℕ → Option Occurrence
with_word find v n w = if same_word w v then Some (next_occurrence n (find v)) else find w

abbrev pub with_given : (List ℕ → Option Occurrence) → Given → ℕ → List ℕ → Option Occurrence
with_given find None n w = find w
with_given find (Some v) n w = with_word find v n w

-- Each of these occurs once.
abbrev pub each_single : Entries → List (List ℕ) → Bool
each_single entries [] = true
each_single entries (w ∷ rest) = is_single (occurs entries w) && each_single entries rest

-- The index answers for each word what the list has.
abbrev pub Indexes : Entries → List Given → Type 0
Indexes entries names = (w : List ℕ) → occurs entries w ≡ occurrence 0 names w

-- ---- what arguments are for

abbrev pub component_names : List Component → List Given
component_names components = map (λ k. Some k.name) components

abbrev pub formal_names : List FormalInfo → List Given
formal_names formals = map (λ k. Some k.name) formals

-- The names of what the arguments of a list may be for.
abbrev pub names_for : Context → Role → List Given
names_for c (role.Parts t) = component_names (fields c.known.table t)
names_for c (role.Actuals f) = formal_names (profile_of (entry_of c.known f)).formals
names_for c _ = []

-- The number of the first with a name, or how many there are.
abbrev pub number_found : ℕ → Option Occurrence → ℕ
number_found count None = count
number_found count (Some p) = p.first

-- The number of what an argument is for: by its position, or by its name.
abbrev pub number_for : List Given → ℕ → Given → ℕ
number_for names i None = i
number_for names i (Some w) = number_found (length names) (occurrence 0 names w)
