-- Lists of indexes by number, where some numbers have none.
use Rattle.std.specs.Prelude.{◌≡◌, ◌≢◌, ◌⊎◌, ℕ, List, slice_get, Option, Some}
use Rattle.expression_types.specs.Occurrences.{Entries}

-- Each index of the second list stands in the first one too.
abbrev pub HasNoNew : List (Option Entries) → List (Option Entries) → Type 0
HasNoNew before after =
    (n : ℕ) (index : Entries) → slice_get after n ≡ Some (Some index) → slice_get before n ≡ Some (Some index)

-- The same, but that a number has this one, or none.
abbrev pub OnlyHas : ℕ → Option Entries → List (Option Entries) → List (Option Entries) → Type 0
OnlyHas number own before after =
    (n : ℕ) (index : Entries) → slice_get after n ≡ Some (Some index)
    → ((n ≡ number) × (own ≡ Some index)) ⊎ ((n ≢ number) × (slice_get before n ≡ Some (Some index)))
