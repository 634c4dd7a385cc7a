-- Symbols of words, where words come to others.
use Rattle.std.proofs.Common.{◌≡◌, refl, ap, sym, ◌∙◌, true≢false, ℕ, zero, suc, ◌+◌, ◌<◌, ◌≤◌, Bool, true, false, if◌then◌else◌, not, List, [], ◌∷◌, ◌++◌, length, length-append, filter, Option, None, Some, get_or, is_some, arith}
use Rattle.std.specs.Prelude.{position, cond, nat_lt, ◌||◌}
use Rattle.std.specs.List.{position_or_len}
use Rattle.std.specs.Option.{option_map, option_map_or}
use Rattle.name_events.specs.declared.declaration.Declaration.{Declaration}
use Rattle.name_events.specs.Declarations.{Name, Entry, same, has_name, added_name, or_else}
use Rattle.name_resolve.specs.declared.entry_index.EntryIndex.{EntryIndex}
use Rattle.name_resolve.specs.Tables.{symbol_of, Key, entry_at, searched, HasOnly}
use Rattle.name_resolve.specs.Stands.{IndexStands, StandFor}
use Rattle.name_resolve.proofs.Tables.{same_refl}

-- ---- one more word

position_cons : {X : Type 0} (test : X → Bool) (x : X) (xs : List X)
    → position test (x ∷ xs) ≡ (if test x then Some 0 else option_map suc (position test xs))
position_cons test x xs = by (test x) (position_or_len test xs) (length xs)
  where
    step : (b : Bool) (n m : ℕ) → b ≡ nat_lt n m
        → cond (nat_lt (1 + n) (suc m)) (Some (1 + n)) None ≡ option_map suc (cond b (Some n) None)
    step true n m is = grind (arith, is)
    step false n m is = grind (arith, is)

    by : (b : Bool) (n m : ℕ) → cond (nat_lt (cond (not b) (1 + n) 0) (suc m)) (Some (cond (not b) (1 + n) 0)) None
        ≡ (if b then Some 0 else option_map suc (cond (nat_lt n m) (Some n) None))
    by true n m = grind arith
    by false n m = step (nat_lt n m) n m refl

position_pushed : {X : Type 0} (test : X → Bool) (xs : List X) (y : X)
    → position test (xs ++ y ∷ []) ≡ or_else (position test xs) (if test y then Some (length xs) else None)
position_pushed test [] y = position_cons test y []
position_pushed test (x ∷ xs) y =
    position_cons test x (xs ++ y ∷ [])
    ∙ (λ j. if test x then Some 0 else option_map suc (position_pushed test xs y j))
    ∙ by (test x) (position test xs) (test y)
    ∙ (λ j. or_else (sym (position_cons test x xs) j) (if test y then Some (suc (length xs)) else None))
  where
    by : (b : Bool) (o : Option ℕ) (c : Bool)
        → (if b then Some 0 else option_map suc (or_else o (if c then Some (length xs) else None)))
        ≡ or_else (if b then Some 0 else option_map suc o) (if c then Some (suc (length xs)) else None)
    by true o c = refl
    by false (Some n) c = refl
    by false None true = refl
    by false None false = refl

-- A word that has a symbol is there.
has_symbol : (words : List Name) (w : Name) → has_name w words ≡ is_some (symbol_of words w)
has_symbol [] w = refl
has_symbol (x ∷ words) w =
    by (same w x) (has_name w words) (symbol_of words w) (has_symbol words w) ∙ ap is_some (sym (position_cons (same w) x words))
  where
    by : (b c : Bool) (o : Option ℕ) → c ≡ is_some o → (b || c) ≡ is_some (if b then Some 0 else option_map suc o)
    by true c o is = refl
    by false c (Some n) is = is
    by false c None is = is

pub symbol_there : (words : List Name) (w : Name) (s : ℕ) → Some s ≡ symbol_of words w → words ≡ added_name words w
symbol_there words w s is = by (has_name w words) (has_symbol words w ∙ sym (ap is_some is))
  where
    by : (b : Bool) → b ≡ true → words ≡ (if b then words else words ++ w ∷ [])
    by true h = refl
    by false h = absurd (true≢false (sym h))

pub symbol_added : (words : List Name) (w : Name) → None ≡ symbol_of words w → symbol_of (added_name words w) w ≡ Some (length words)
symbol_added words w none = by (has_name w words) (has_symbol words w ∙ sym (ap is_some none))
  where
    by : (b : Bool) → b ≡ false → symbol_of (if b then words else words ++ w ∷ []) w ≡ Some (length words)
    by true h = absurd (true≢false h)
    by false h =
        position_pushed (same w) words w
        ∙ (λ j. or_else (sym none j) (if same_refl w j then Some (length words) else None))

pub symbol_grown : (words : List Name) (w v : Name) (s : ℕ) → symbol_of words v ≡ Some s → symbol_of (added_name words w) v ≡ Some s
symbol_grown words w v s has = by (has_name w words)
  where
    by : (b : Bool) → symbol_of (if b then words else words ++ w ∷ []) v ≡ Some s
    by true = has
    by false = position_pushed (same v) words w ∙ (λ j. or_else (has j) (if same v w then Some (length words) else None))

pub only_grown : (words : List Name) (w : Name) (table : List (Key × Declaration)) → HasOnly words table → HasOnly (added_name words w) table
only_grown words w table only r s past = by (has_name w words) past
  where
    by : (b : Bool) → length (if b then words else words ++ w ∷ []) ≤ s → entry_at table r s ≡ None
    by true past = only r s past
    by false past = only r s (omega (arith, past, length-append words (w ∷ [])))

-- The new word is in no table.
pub searched_grown : (words : List Name) (w : Name) (table : List (Key × Declaration)) → HasOnly words table
    → (r : ℕ) (v : Name) → searched (added_name words w) table r v ≡ searched words table r v
searched_grown words w table only r v = by (has_name w words)
  where
    pushed : (o : Option ℕ) (b : Bool) → option_map_or (entry_at table r) (or_else o (if b then Some (length words) else None)) None
        ≡ option_map_or (entry_at table r) o None
    pushed (Some s) b = refl
    pushed None true = only r (length words) (omega arith)
    pushed None false = refl

    by : (b : Bool) → searched (if b then words else words ++ w ∷ []) table r v ≡ searched words table r v
    by true = refl
    by false =
        ap (λ o. option_map_or (entry_at table r) o None) (position_pushed (same v) words w)
        ∙ pushed (symbol_of words v) (same v w)

pub index_grown : (words : List Name) (w : Name) (k : EntryIndex) (entries : List Entry) → IndexStands words k entries
    → IndexStands (added_name words w) k entries
index_grown words w k entries s = record {
  last = λ r v. searched_grown words w k.last s.last_only r v ∙ s.last r v;
  packages = λ r v. searched_grown words w k.packages s.packages_only r v ∙ s.packages r v;
  last_only = only_grown words w k.last s.last_only;
  packages_only = only_grown words w k.packages s.packages_only;
}

-- ---- declarations with symbols

pub stand_for_grown : (words : List Name) (w : Name) (ds : List (ℕ × Declaration)) (entries : List Entry)
    → StandFor words ds entries → StandFor (added_name words w) ds entries
stand_for_grown words w [] [] s = s
stand_for_grown words w [] (e ∷ entries) s = absurd s
stand_for_grown words w (d ∷ ds) [] s = absurd s
stand_for_grown words w (d ∷ ds) (e ∷ entries) s = (symbol_grown words w e.0 d.0 s.0, s.1, stand_for_grown words w ds entries s.2)

pub stand_for_pushed : (words : List Name) (ds : List (ℕ × Declaration)) (entries : List Entry) (w : Name) (n : ℕ) (d : Declaration)
    → symbol_of words w ≡ Some n → StandFor words ds entries → StandFor words (ds ++ (n, d) ∷ []) (entries ++ (w, d) ∷ [])
stand_for_pushed words [] [] w n d has s = (has, refl, s)
stand_for_pushed words [] (e ∷ entries) w n d has s = absurd s
stand_for_pushed words (x ∷ ds) [] w n d has s = absurd s
stand_for_pushed words (x ∷ ds) (e ∷ entries) w n d has s = (s.0, s.1, stand_for_pushed words ds entries w n d has s.2)

pub stand_for_filtered : (words : List Name) (test : Declaration → Bool) (ds : List (ℕ × Declaration)) (entries : List Entry)
    → StandFor words ds entries → StandFor words (filter (λ d. test d.1) ds) (filter (λ entry. test entry.1) entries)
stand_for_filtered words test [] [] s = s
stand_for_filtered words test [] (e ∷ entries) s = absurd s
stand_for_filtered words test (d ∷ ds) [] s = absurd s
stand_for_filtered words test (d ∷ ds) (e ∷ entries) s =
    by (test d.1) (test e.1) (ap test s.1) (stand_for_filtered words test ds entries s.2)
  where
    by : (a b : Bool) → a ≡ b → StandFor words (filter (λ d. test d.1) ds) (filter (λ entry. test entry.1) entries)
        → StandFor words (if a then d ∷ filter (λ d. test d.1) ds else filter (λ d. test d.1) ds)
        (if b then e ∷ filter (λ entry. test entry.1) entries else filter (λ entry. test entry.1) entries)
    by true true is rest = (s.0, s.1, rest)
    by false false is rest = rest
    by true false is rest = absurd (true≢false is)
    by false true is rest = absurd (true≢false (sym is))

-- The entry at a place of the list.
pub record StandsAt (words : List Name) (d : ℕ × Declaration) (entries : List Entry) (i : ℕ) : Type 0 where
  pub entry : Entry
  pub within : i < length entries
  pub at : entry ≡ get_or entries i entry
  pub name : symbol_of words entry.0 ≡ Some d.0
  pub is : d.1 ≡ entry.1

pub stands_at : (words : List Name) (ds : List (ℕ × Declaration)) (entries : List Entry) (i : ℕ) (other : ℕ × Declaration)
    → StandFor words ds entries → i < length ds → StandsAt words (get_or ds i other) entries i
stands_at words [] entries i other s within = absurd (omega (arith, within))
stands_at words (d ∷ ds) [] i other s within = absurd s
stands_at words (d ∷ ds) (e ∷ entries) zero other s within = record { entry = e; within = omega arith; at = refl; name = s.0; is = s.1 }
stands_at words (d ∷ ds) (e ∷ entries) (suc i) other s within =
    let there = stands_at words ds entries i other s.2 (omega (arith, within)) in
    record { entry = there.entry; within = omega (arith, there.within); at = there.at; name = there.name; is = there.is }

pub stand_for_length : (words : List Name) (ds : List (ℕ × Declaration)) (entries : List Entry) → StandFor words ds entries → length entries ≡ length ds
stand_for_length words [] [] s = refl
stand_for_length words [] (e ∷ entries) s = absurd s
stand_for_length words (d ∷ ds) [] s = absurd s
stand_for_length words (d ∷ ds) (e ∷ entries) s = ap suc (stand_for_length words ds entries s.2)
