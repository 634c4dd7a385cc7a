-- The regions that hold a name, where a declaration of it ends.
use Rattle.std.proofs.Common.{◌≡◌, refl, ap, sym, ◌∙◌, true≢false, ℕ, Bool, true, false, if◌then◌else◌, ◌&&◌, nat_eq, List, [], ◌∷◌, ◌++◌, Some, is_some, arith}
use Rattle.std.specs.Prelude.{◌||◌}
use Rattle.std.proofs.lemmas.List.Folds.{list_any-append}
use Rattle.name_events.specs.declared.declaration.Declaration.{Declaration}
use Rattle.name_events.specs.Declarations.{has_number, is_visible}
use Rattle.name_resolve.specs.declared.entry_index.EntryIndex.{EntryIndex}
use Rattle.name_resolve.specs.Tables.{Key, entry_at, listed_at, Puts}
use Rattle.name_resolve.specs.Stands.{HoldersStand, IndexStands}

or_last : (a b : Bool) → b ≡ true → (a || (b || false)) ≡ true
or_last true b h = refl
or_last false true h = refl
or_last false false h = h

or_first : (a b : Bool) → a ≡ true → (a || b) ≡ true
or_first true b h = refl
or_first false b h = absurd (true≢false (sym h))

pub holder_noted : (old new : List (Key × Declaration)) (lists more : List (List ℕ)) (s : ℕ) (d : Declaration) → Puts old new s d
    → ((n : ℕ) → listed_at more n ≡ (if nat_eq n s then listed_at lists n ++ d.region ∷ [] else listed_at lists n))
    → HoldersStand old lists → HoldersStand new more
holder_noted old new lists more s d puts adds stands region n found is visible =
    ap (has_number region) (adds n) ∙ by (nat_eq region d.region) (nat_eq n s) refl (sym (puts region n) ∙ is)
  where
    by : (a b : Bool) → a ≡ nat_eq region d.region → (if a && b then Some d else entry_at old region n) ≡ Some found
        → has_number region (if b then listed_at lists n ++ d.region ∷ [] else listed_at lists n) ≡ true
    by true true at h =
        list_any-append (nat_eq region) (listed_at lists n) (d.region ∷ []) ∙ or_last (has_number region (listed_at lists n)) (nat_eq region d.region) (sym at)
    by false true at h =
        list_any-append (nat_eq region) (listed_at lists n) (d.region ∷ [])
        ∙ or_first (has_number region (listed_at lists n)) (has_number region (d.region ∷ [])) (stands region n found h visible)
    by true false at h = stands region n found h visible
    by false false at h = stands region n found h visible

-- One that isn't visible needs no holder.
pub holder_left : (old new : List (Key × Declaration)) (lists : List (List ℕ)) (s : ℕ) (d : Declaration) → is_visible d ≡ false → Puts old new s d
    → HoldersStand old lists → HoldersStand new lists
holder_left old new lists s d unseen puts stands region n found is visible =
    by (nat_eq region d.region) (nat_eq n s) (sym (puts region n) ∙ is)
  where
    by : (a b : Bool) → (if a && b then Some d else entry_at old region n) ≡ Some found → has_number region (listed_at lists n) ≡ true
    by true true h = let same : d ≡ found = cc h in absurd (true≢false (sym visible ∙ ap is_visible (sym same) ∙ unseen))
    by false true h = stands region n found h visible
    by true false h = stands region n found h visible
    by false false h = stands region n found h visible

pub no_holders : (k : EntryIndex) (lists : List (List ℕ)) → IndexStands [] k [] → HoldersStand k.last lists
no_holders k lists s region n d is visible = absurd (true≢false (sym (ap is_some (sym (s.last_only region n (omega arith)) ∙ is))))
