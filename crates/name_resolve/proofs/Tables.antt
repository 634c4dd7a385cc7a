-- Searches in the entries of a table, by symbols.
use Rattle.std.proofs.Common.{◌≡◌, refl, ap, sym, ◌∙◌, true≢false, ℕ, ◌<◌, Bool, true, false, if◌then◌else◌, ◌&&◌, nat_eq, List, [], ◌∷◌, length, Option, None, Some, get_or, is_some, arith}
use Rattle.std.specs.Option.{option_map_or}
use Rattle.std.proofs.lemmas.Bool.{eqb-true}
use Rattle.std.proofs.lemmas.List.Quantifiers.{position-Some}
use Rattle.std.specs.Map.{lookup}
use Rattle.indexmap.specs.IndexMap.{insert_entry}
use Rattle.name_events.specs.declared.declaration.Declaration.{Declaration}
use Rattle.name_events.specs.declared.declaration.OpenRegion.{OpenRegion}
use Rattle.name_events.specs.Declarations.{Name, same, is_named, innermost, Search, or_else}
use Rattle.name_resolve.specs.Tables.{symbol_of, Key, same_key, entry_at, searched, HasOnly, Puts, noted, noted_first}
use Rattle.name_resolve.proofs.Lists.{nat_eq-refl}

-- Names that compare as the same are the same.
pub same_is : (a b : Name) → same a b ≡ true → a ≡ b
same_is [] [] h = refl
same_is [] (y ∷ ys) h = absurd (true≢false (sym h))
same_is (x ∷ xs) [] h = absurd (true≢false (sym h))
same_is (x ∷ xs) (y ∷ ys) h = by (nat_eq x y) refl h (same_is xs ys)
  where
    by : (b : Bool) → nat_eq x y ≡ b → (b && same xs ys) ≡ true → (same xs ys ≡ true → xs ≡ ys) → (x ∷ xs) ≡ (y ∷ ys)
    by true e h rest = cc (eqb-true x y e, rest h)
    by false e h rest = absurd (true≢false (sym h))

pub same_refl : (a : Name) → same a a ≡ true
same_refl [] = refl
same_refl (x ∷ xs) = rw (nat_eq-refl x) (same_refl xs)

-- A name that is inserted is found, and each other name as before.
pub lookup_inserted_by : {K V : Type 0} (eq : K → K → Bool) → ((a b : K) → eq a b ≡ true → a ≡ b) → (entries : List (K × V)) (k w : K) (d : V)
    → lookup (eq w) (insert_entry eq entries k d) ≡ (if eq w k then Some d else lookup (eq w) entries)
lookup_inserted_by eq eq_is [] k w d = refl
lookup_inserted_by {K} {V} eq eq_is (e ∷ entries) k w d =
    by (eq k e.0) (eq w e.0) (eq w k) refl
    (λ h. ap (eq w) (sym (eq_is k e.0 h)))
    (λ h. ap (λ x. eq x e.0) (sym (eq_is w k h)))
    (lookup_inserted_by eq eq_is entries k w d)
  where
    by : (a b c : Bool) → b ≡ eq w e.0 → (a ≡ true → b ≡ c) → (c ≡ true → a ≡ b)
        → lookup (eq w) (insert_entry eq entries k d) ≡ (if c then Some d else lookup (eq w) entries)
        → lookup (eq w) (if a then (e.0, d) ∷ entries else e ∷ insert_entry eq entries k d)
        ≡ (if c then Some d else lookup (eq w) (e ∷ entries))
    by true b c is h1 h2 rest = grind (arith, is, h1 refl, h2, rest)
    by false b c is h1 h2 rest = grind (arith, is, h2, rest)

both_true : (a b : Bool) → (a && b) ≡ true → (a ≡ true) × (b ≡ true)
both_true true b h = (refl, h)
both_true false b h = absurd (true≢false (sym h))

same_key_is : (a b : Key) → same_key a b ≡ true → a ≡ b
same_key_is a b h =
    let both = both_true (nat_eq a.0 b.0) (nat_eq a.1 b.1) h in
    λ j. (eqb-true a.0 b.0 both.0 j, eqb-true a.1 b.1 both.1 j)

pub inserted_puts : (old new : List (Key × Declaration)) (s : ℕ) (d : Declaration) → new ≡ insert_entry same_key old (d.region, s) d → Puts old new s d
inserted_puts old new s d is r n =
    ap (λ table. entry_at table r n) is ∙ lookup_inserted_by same_key same_key_is old (d.region, s) (r, n) d

-- ---- symbols

-- Words are the same where their symbols are.
symbols_same : (words : List Name) (w v : Name) (s n : ℕ) → symbol_of words w ≡ Some s → symbol_of words v ≡ Some n → nat_eq n s ≡ same v w
symbols_same words w v s n w_has v_has =
    let w_is : w ≡ get_or words s [] = same_is w (get_or words s []) (position-Some (same w) words s [] w_has).1 in
    let v_is : v ≡ get_or words n [] = same_is v (get_or words n []) (position-Some (same v) words n [] v_has).1 in
    by (nat_eq n s) (same v w)
    (λ h. ap (same v) (w_is ∙ ap (λ k. get_or words k []) (sym (eqb-true n s h)) ∙ sym v_is) ∙ same_refl v)
    (λ h. one n s (sym v_has ∙ ap (symbol_of words) (same_is v w h) ∙ w_has))
  where
    by : (a b : Bool) → (a ≡ true → b ≡ true) → (b ≡ true → a ≡ true) → a ≡ b
    by true b there back = sym (there refl)
    by false true there back = back refl
    by false false there back = refl

    one : (n s : ℕ) → Some n ≡ Some s → nat_eq n s ≡ true
    one n s h = let same : n ≡ s = cc h in ap (nat_eq n) (sym same) ∙ nat_eq-refl n

pub symbol_within : (words : List Name) (w : Name) (s : ℕ) → symbol_of words w ≡ Some s → s < length words
symbol_within words w s has = (position-Some (same w) words s [] has).0

-- ---- one more declaration

pub searched_none : (words : List Name) (r : ℕ) (w : Name) → searched words [] r w ≡ None
searched_none words r w = by (symbol_of words w)
  where
    by : (o : Option ℕ) → option_map_or (entry_at [] r) o None ≡ None
    by None = refl
    by (Some s) = refl

-- A name has the declaration that its symbol has.
pub searched_at : (words : List Name) (table : List (Key × Declaration)) (r : ℕ) (w : Name) (s : ℕ) → symbol_of words w ≡ Some s
    → searched words table r w ≡ entry_at table r s
searched_at words table r w s has = λ j. option_map_or (entry_at table r) (has j) None

pub searched_noted : (words : List Name) (old new : List (Key × Declaration)) (w : Name) (s : ℕ) (d : Declaration)
    → Puts old new s d → symbol_of words w ≡ Some s → (r : ℕ) (v : Name) → searched words new r v ≡ noted (searched words old) w d r v
searched_noted words old new w s d puts has r v = by (symbol_of words v) refl
  where
    other : (b : Bool) → b ≡ same v w → None ≡ symbol_of words v → None ≡ (if nat_eq r d.region && b then Some d else None)
    other true is none = absurd (cc (none, ap (symbol_of words) (same_is v w (sym is)), has))
    other false is none = outside (nat_eq r d.region)
      where
        outside : (a : Bool) → None ≡ (if a && false then Some d else None)
        outside true = refl
        outside false = refl

    by : (o : Option ℕ) → o ≡ symbol_of words v → option_map_or (entry_at new r) o None
        ≡ (if nat_eq r d.region && same v w then Some d else option_map_or (entry_at old r) o None)
    by (Some n) is =
        puts r n ∙ ap (λ b. if nat_eq r d.region && b then Some d else entry_at old r n) (symbols_same words w v s n has (sym is))
    by None is = other (same v w) refl is

pub only_noted : (words : List Name) (old new : List (Key × Declaration)) (s : ℕ) (d : Declaration)
    → Puts old new s d → s < length words → HasOnly words old → HasOnly words new
only_noted words old new s d puts within only r n past = puts r n ∙ by (nat_eq r d.region) (nat_eq n s) refl (only r n past)
  where
    by : (a b : Bool) → b ≡ nat_eq n s → entry_at old r n ≡ None → (if a && b then Some d else entry_at old r n) ≡ None
    by a true is old_is = let at : n ≡ s = eqb-true n s (sym is) in absurd (omega (arith, at, within, past))
    by true false is old_is = old_is
    by false false is old_is = old_is

-- Where a name has no symbol, no region has it.
pub innermost_absent : (words : List Name) (table : List (Key × Declaration)) (around : List OpenRegion) (w : Name) → None ≡ symbol_of words w
    → None ≡ innermost (searched words table) around w
innermost_absent words table [] w none = refl
innermost_absent words table (inner ∷ around) w none =
    innermost_absent words table around w none
    ∙ (λ j. or_else (option_map_or (entry_at table inner.region) (none j) None) (innermost (searched words table) around w))

-- What is found where a named declaration stands is what its own region has of its own name.
named_at : (find : Search) (word : Name) (d : Declaration) (r : ℕ) (w : Name) → is_named r w (word, d) ≡ true → find r w ≡ find d.region word
named_at find word d r w h =
    let both = both_true (nat_eq r d.region) (same w word) h in
    λ j. find (eqb-true r d.region both.0 j) (same_is w word both.1 j)

-- A declaration that is left out, and one that is noted, where only the first counts.
pub left_out : (find : Search) (word : Name) (d : Declaration) (r : ℕ) (w : Name) → is_some (find d.region word) ≡ true
    → find r w ≡ noted_first find word d r w
left_out find word d r w there = by (is_named r w (word, d)) (find r w) (λ h. ap is_some (named_at find word d r w h) ∙ there)
  where
    by : (b : Bool) (o : Option Declaration) → (b ≡ true → is_some o ≡ true) → o ≡ or_else o (if b then Some d else None)
    by b (Some x) h = refl
    by true None h = absurd (true≢false (sym (h refl)))
    by false None h = refl

pub first_noted : (find : Search) (word : Name) (d : Declaration) (r : ℕ) (w : Name) → is_some (find d.region word) ≡ false
    → noted find word d r w ≡ noted_first find word d r w
first_noted find word d r w absent = by (is_named r w (word, d)) (find r w) (λ h. ap is_some (named_at find word d r w h) ∙ absent)
  where
    by : (b : Bool) (o : Option Declaration) → (b ≡ true → is_some o ≡ false) → (if b then Some d else o) ≡ or_else o (if b then Some d else None)
    by true (Some x) h = absurd (true≢false (h refl))
    by true None h = refl
    by false (Some x) h = refl
    by false None h = refl
