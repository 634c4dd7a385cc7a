-- The packages in use in a region, where clauses come or go.
use Rattle.std.proofs.Common.{◌≡◌, refl, ap, sym, ◌∙◌, true≢false, ℕ, Bool, true, false, not, if◌then◌else◌, List, [], ◌∷◌, ◌++◌, filter, map, nat_eq}
use Rattle.std.proofs.lemmas.Bool.{eqb-true}
use Rattle.name_events.specs.Known.{used_in}
use Rattle.std.proofs.lemmas.List.{append_assoc, append-nil}
use Rattle.name_resolve.specs.Tables.{in_use_at, listed_at}

either_way : (b : Bool) (xs : List ℕ) → xs ≡ (if b then xs else xs)
either_way true xs = refl
either_way false xs = refl

used_in-named : (here : ℕ) (packages : List ℕ) (r : ℕ) → used_in (map (λ p. (here, p)) packages) r ≡ (if nat_eq r here then packages else [])
used_in-named here [] r = either_way (nat_eq r here) []
used_in-named here (p ∷ packages) r = by (nat_eq r here) (used_in-named here packages r)
  where
    by : (b : Bool) → used_in (map (λ p. (here, p)) packages) r ≡ (if b then packages else [])
        → (if b then p ∷ used_in (map (λ p. (here, p)) packages) r else used_in (map (λ p. (here, p)) packages) r)
        ≡ (if b then p ∷ packages else [])
    by true h = ap (λ ps. p ∷ ps) h
    by false h = h

-- A clause that ends names these packages.
pub used_in-added : (clauses : List (ℕ × ℕ)) (here : ℕ) (packages : List ℕ) (r : ℕ)
    → used_in (clauses ++ map (λ p. (here, p)) packages) r ≡ (if nat_eq r here then used_in clauses r ++ packages else used_in clauses r)
used_in-added [] here packages r = used_in-named here packages r
used_in-added (clause ∷ rest) here packages r = by (nat_eq r here) (nat_eq r clause.0) (used_in-added rest here packages r)
  where
    by : (a b : Bool)
        → used_in (rest ++ map (λ p. (here, p)) packages) r ≡ (if a then used_in rest r ++ packages else used_in rest r)
        → (if b then clause.1 ∷ used_in (rest ++ map (λ p. (here, p)) packages) r else used_in (rest ++ map (λ p. (here, p)) packages) r)
        ≡ (if a then (if b then clause.1 ∷ used_in rest r else used_in rest r) ++ packages else (if b then clause.1 ∷ used_in rest r else used_in rest r))
    by true true h = ap (λ ps. clause.1 ∷ ps) h
    by true false h = h
    by false true h = ap (λ ps. clause.1 ∷ ps) h
    by false false h = h

-- The clauses of the context go.
used_in-left : (clauses : List (ℕ × ℕ)) (r : ℕ) → used_in (filter (λ u. not (nat_eq 0 u.0)) clauses) r ≡ (if nat_eq r 0 then [] else used_in clauses r)
used_in-left [] r = either_way (nat_eq r 0) []
used_in-left (clause ∷ rest) r =
    front (nat_eq 0 clause.0)
    ∙ by (nat_eq 0 clause.0) (nat_eq r 0) (nat_eq r clause.0)
    (λ h. ap (nat_eq r) (sym (eqb-true 0 clause.0 h)))
    (λ h. ap (λ n. nat_eq n clause.0) (eqb-true r 0 h))
    (used_in-left rest r)
  where
    front : (z : Bool)
        → used_in (if not z then clause ∷ filter (λ u. not (nat_eq 0 u.0)) rest else filter (λ u. not (nat_eq 0 u.0)) rest) r
        ≡ (if z then used_in (filter (λ u. not (nat_eq 0 u.0)) rest) r
        else (if nat_eq r clause.0 then clause.1 ∷ used_in (filter (λ u. not (nat_eq 0 u.0)) rest) r else used_in (filter (λ u. not (nat_eq 0 u.0)) rest) r))
    front true = refl
    front false = refl

    by : (z e m : Bool) → (z ≡ true → m ≡ e) → (e ≡ true → m ≡ z)
        → used_in (filter (λ u. not (nat_eq 0 u.0)) rest) r ≡ (if e then [] else used_in rest r)
        → (if z then used_in (filter (λ u. not (nat_eq 0 u.0)) rest) r
        else (if m then clause.1 ∷ used_in (filter (λ u. not (nat_eq 0 u.0)) rest) r else used_in (filter (λ u. not (nat_eq 0 u.0)) rest) r))
        ≡ (if e then [] else (if m then clause.1 ∷ used_in rest r else used_in rest r))
    by true true m same is h = h
    by true false true same is h = absurd (true≢false (same refl))
    by true false false same is h = h
    by false true true same is h = absurd (true≢false (is refl))
    by false true false same is h = h
    by false false true same is h = ap (λ ps. clause.1 ∷ ps) h
    by false false false same is h = h

-- The clauses of the context are other ones.
pub used_in-begun : (clauses : List (ℕ × ℕ)) (packages : List ℕ) (r : ℕ)
    → used_in (filter (λ u. not (nat_eq 0 u.0)) clauses ++ map (λ p. (0, p)) packages) r ≡ (if nat_eq r 0 then packages else used_in clauses r)
used_in-begun clauses packages r =
    used_in-added (filter (λ u. not (nat_eq 0 u.0)) clauses) 0 packages r
    ∙ (λ j. if nat_eq r 0 then used_in-left clauses r j ++ packages else used_in-left clauses r j)
    ∙ by (nat_eq r 0)
  where
    by : (b : Bool) → (if b then (if b then [] else used_in clauses r) ++ packages else (if b then [] else used_in clauses r))
        ≡ (if b then packages else used_in clauses r)
    by true = refl
    by false = refl

-- Nothing is in use before the first unit.
pub none_in_use : (r : ℕ) → in_use_at [] [] r ≡ []
none_in_use r = by (nat_eq r 0)
  where
    by : (b : Bool) → (if b then [] else []) ++ listed_at [] r ≡ []
    by true = refl
    by false = refl

pub begun : (given before : List ℕ) (new old : List (List ℕ)) (clauses : List (ℕ × ℕ)) (r : ℕ)
    → listed_at new r ≡ (if nat_eq r 0 then [] else listed_at old r)
    → in_use_at before old r ≡ used_in clauses r
    → in_use_at given new r ≡ used_in (filter (λ u. not (nat_eq 0 u.0)) clauses ++ map (λ p. (0, p)) given) r
begun given before new old clauses r cleared are =
    ap (λ ns. (if nat_eq r 0 then given else []) ++ ns) cleared
    ∙ by (nat_eq r 0) are
    ∙ sym (used_in-begun clauses given r)
  where
    by : (b : Bool) → (if b then before else []) ++ listed_at old r ≡ used_in clauses r
        → (if b then given else []) ++ (if b then [] else listed_at old r) ≡ (if b then given else used_in clauses r)
    by true are = append-nil given
    by false are = are

pub ended : (given : List ℕ) (new old : List (List ℕ)) (clauses : List (ℕ × ℕ)) (here region : ℕ) (packages named : List ℕ) (r : ℕ)
    → listed_at new r ≡ (if nat_eq r region then listed_at old r ++ named else listed_at old r)
    → region ≡ here → named ≡ packages → in_use_at given old r ≡ used_in clauses r
    → in_use_at given new r ≡ used_in (clauses ++ map (λ p. (here, p)) packages) r
ended given new old clauses here region packages named r added at is are =
    ap (λ ns. (if nat_eq r 0 then given else []) ++ ns) added
    ∙ by (if nat_eq r 0 then given else []) (nat_eq r region)
    ∙ (λ j. if nat_eq r (at j) then are j ++ is j else are j) ∙ sym (used_in-added clauses here packages r)
  where
    by : (front : List ℕ) (b : Bool) → front ++ (if b then listed_at old r ++ named else listed_at old r)
        ≡ (if b then (front ++ listed_at old r) ++ named else front ++ listed_at old r)
    by front true = sym (append_assoc front (listed_at old r) named)
    by front false = refl
