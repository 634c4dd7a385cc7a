-- What tables of names answer.
use Rattle.std.specs.Prelude.{◌≡◌, ℕ, Bool, true, false, ◌&&◌, if◌then◌else◌, List, [], Option, None, Some, slice_get, nat_eq, nat_le, ◌++◌, ◌≤◌, length, position}
use Rattle.std.specs.List.{list_any}
use Rattle.std.specs.Option.{option_map, option_map_or}
use Rattle.std.specs.Map.{lookup}
use Rattle.name_events.specs.declared.declaration.Declaration.{Declaration}
use Rattle.name_events.specs.declared.declaration.DeclarationForm.{DeclarationForm}
use Rattle.name_events.specs.declared.declaration.DeclarationForm.TheVariants as form
use Rattle.name_events.specs.declared.declaration.OpenRegion.{OpenRegion}
use Rattle.name_events.specs.Declarations.{Name, Entry, has_number, Search, same, is_named, declared_in, first_where, or_else, is_package}
use Rattle.name_events.specs.Predefined.{predefined_count}
use Rattle.name_events.specs.Completions.{awaits}

-- The symbol of a word: where it stands among the words.
abbrev pub symbol_of : List Name → Name → Option ℕ
symbol_of words w = position (same w) words

-- A region, and the symbol of a word.
abbrev pub Key : Type 0
Key = ℕ × ℕ

abbrev pub same_key : Key → Key → Bool
same_key a b = nat_eq a.0 b.0 && nat_eq a.1 b.1

-- The declaration of a symbol in a region.
abbrev pub entry_at : List (Key × Declaration) → ℕ → ℕ → Option Declaration
entry_at table region s = lookup (same_key (region, s)) table

-- What a table has after one more declaration of a symbol.
abbrev pub Puts : List (Key × Declaration) → List (Key × Declaration) → ℕ → Declaration → Type 0
Puts old new s d = (r n : ℕ) → entry_at new r n ≡ (if nat_eq r d.region && nat_eq n s then Some d else entry_at old r n)

-- What the entries answer of a word.
abbrev pub searched : List Name → List (Key × Declaration) → Search
searched words table region w = option_map_or (entry_at table region) (symbol_of words w) None

-- The entries are of symbols of these words only.
abbrev pub HasOnly : List Name → List (Key × Declaration) → Type 0
HasOnly words table = (region s : ℕ) → length words ≤ s → entry_at table region s ≡ None

-- The search after one more declaration.
abbrev pub noted : Search → Name → Declaration → Search
noted find word d region w = if is_named region w (word, d) then Some d else find region w

-- The search after one more declaration that counts only where there was none.
abbrev pub noted_first : Search → Name → Declaration → Search
noted_first find word d region w = or_else (find region w) (if is_named region w (word, d) then Some d else None)

-- The answers are those of a search in the list of declarations.
abbrev pub Answers : Search → List Entry → Type 0
Answers find entries = (region : ℕ) (w : Name) → find region w ≡ declared_in entries region w

-- The first declaration of a name in a region that passes the test.
abbrev pub first_in : (Declaration → Bool) → List Entry → Search
first_in test entries region w =
    option_map (λ entry. entry.1) (first_where (λ entry. is_named region w entry && test entry.1) entries)

abbrev pub FirstAnswers : (Declaration → Bool) → Search → List Entry → Type 0
FirstAnswers test find entries = (region : ℕ) (w : Name) → find region w ≡ first_in test entries region w

abbrev pub is_source_package : Declaration → Bool
is_source_package d = is_package d && nat_le predefined_count d.number

-- Whether a declaration of this form may complete another one.
abbrev pub is_completion : DeclarationForm → Bool
is_completion form.FullType = true
is_completion form.ProcedureBody = true
is_completion form.FunctionBody = true
is_completion _ = false

abbrev pub asks_completion : Declaration → Bool
asks_completion d = awaits d.form

-- The packages of the list for a region.
abbrev pub or_empty : Option (List ℕ) → List ℕ
or_empty None = []
or_empty (Some ns) = ns

abbrev pub listed_at : List (List ℕ) → ℕ → List ℕ
listed_at lists region = or_empty (slice_get lists region)

-- The packages in use in a region: in the predefined one those that the unit is given come first.
abbrev pub in_use_at : List ℕ → List (List ℕ) → ℕ → List ℕ
in_use_at given lists region = (if nat_eq region 0 then given else []) ++ listed_at lists region

-- The region of a package, by its number.
abbrev pub own_region_of : List Declaration → ℕ → Option ℕ
own_region_of all n = option_map (λ d. d.own_region) (slice_get all n)

-- Whether a region is that of a package in use in these regions.
abbrev pub is_used : List ℕ → List (List ℕ) → List OpenRegion → ℕ → Bool
is_used given sets around region = list_any (λ inner. has_number region (in_use_at given sets inner.region)) around
