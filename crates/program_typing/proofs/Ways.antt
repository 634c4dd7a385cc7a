-- How the actuals of a call are passed, one after another.
use Rattle.std.proofs.Common.{◌≡◌, refl, sym, ap, ◌∙◌, ℕ, zero, suc, ◌==◌, Bool, true, false, not, ◌&&◌, List, [], ◌∷◌, map, get_or, slice_get, length, drop, ◌++◌, ◌<◌, ◌≤◌, arith, append-nil, Option, Some, None, is_some, if◌then◌else◌, rules}
use Rattle.flow_paths.specs.Objects.{Typing, Signature, Passing, ByValue, Traversed, passing, passings, first_traversed, traverses}
use Rattle.program_typing.specs.Ways.{way, ways_of, way_found}

later_ways : (s : Typing) (procedure : Bool) (xs : List ℕ) → map (passing s procedure) xs ≡ ways_of s false procedure xs
later_ways s procedure [] = refl
later_ways s procedure (x ∷ xs) = ap (λ rest. passing s procedure x ∷ rest) (later_ways s procedure xs)

first_ways : (s : Typing) (procedure : Bool) (xs : List ℕ)
    → first_traversed (map (passing s procedure) xs) ≡ ways_of s true procedure xs
first_ways s procedure [] = refl
first_ways s procedure (x ∷ xs) = ap (λ rest. Traversed ∷ rest) (later_ways s procedure xs)

-- The first one is what a traversal goes through.
pub passings_ways : (s : Typing) (sub : Signature)
    → passings s sub ≡ ways_of s (traverses s.table sub.result) (not (is_some sub.result)) sub.formals
passings_ways s sub = by_result (traverses s.table sub.result)
  where
    by_result : (b : Bool)
        → (if b then first_traversed (map (passing s (not (is_some sub.result))) sub.formals)
        else map (passing s (not (is_some sub.result))) sub.formals)
        ≡ ways_of s b (not (is_some sub.result)) sub.formals
    by_result true = first_ways s (not (is_some sub.result)) sub.formals
    by_result false = later_ways s (not (is_some sub.result)) sub.formals

later_way_at : (s : Typing) (procedure : Bool) (xs : List ℕ) (i : ℕ)
    → get_or (ways_of s false procedure xs) i ByValue ≡ way_found s false procedure (slice_get xs i)
later_way_at s procedure [] i = refl
later_way_at s procedure (x ∷ xs) zero = refl
later_way_at s procedure (x ∷ xs) (suc i) = later_way_at s procedure xs i

not_first : (i : ℕ) → (suc i == 0) ≡ false
not_first i = search rules

pub way_at : (s : Typing) (traversed procedure : Bool) (xs : List ℕ) (i : ℕ)
    → get_or (ways_of s traversed procedure xs) i ByValue
    ≡ way_found s ((i == 0) && traversed) procedure (slice_get xs i)
way_at s traversed procedure [] i = refl
way_at s traversed procedure (x ∷ xs) zero = refl
way_at s traversed procedure (x ∷ xs) (suc i) =
    later_way_at s procedure xs i
    ∙ ap (λ b. way_found s (b && traversed) procedure (slice_get xs i)) (sym (not_first i))

pub passing_at : (s : Typing) (sub : Signature) (i : ℕ)
    → get_or (passings s sub) i ByValue
    ≡ way_found s ((i == 0) && traverses s.table sub.result) (not (is_some sub.result)) (slice_get sub.formals i)
passing_at s sub i =
    ap (λ ways. get_or ways i ByValue) (passings_ways s sub)
    ∙ way_at s (traverses s.table sub.result) (not (is_some sub.result)) sub.formals i

some_at : (xs : List ℕ) (i x : ℕ) → i < length xs → ((d : ℕ) → x ≡ get_or xs i d) → slice_get xs i ≡ Some x
some_at [] i x less at = absurd (omega (arith, less))
some_at (y ∷ xs) zero x less at = ap Some (sym (at 0))
some_at (y ∷ xs) (suc i) x less at = some_at xs i x (omega (arith, less)) at

none_at : (xs : List ℕ) (i : ℕ) → length xs ≤ i → slice_get xs i ≡ None
none_at [] i le = refl
none_at (y ∷ xs) zero le = absurd (omega (arith, le))
none_at (y ∷ xs) (suc i) le = none_at xs i (omega (arith, le))

pub passing_some : (s : Typing) (sub : Signature) (i x : ℕ) (xs : List ℕ) (traversed procedure : Bool) (result : Option ℕ) (w : Passing)
    → w ≡ way s traversed procedure x → traversed ≡ ((i == 0) && traverses s.table result) → procedure ≡ not (is_some result)
    → result ≡ sub.result → xs ≡ sub.formals → i < length xs → ((d : ℕ) → x ≡ get_or xs i d)
    → w ≡ get_or (passings s sub) i ByValue
passing_some s sub i x xs traversed procedure result w is first none gives formals within at =
    let t : traversed ≡ ((i == 0) && traverses s.table sub.result) = first ∙ ap (λ r. (i == 0) && traverses s.table r) gives in
    let p : procedure ≡ not (is_some sub.result) = none ∙ ap (λ r. not (is_some r)) gives in
    let f : slice_get sub.formals i ≡ Some x = ap (λ l. slice_get l i) (sym formals) ∙ some_at xs i x within at in
    is ∙ (λ k. way s (t k) (p k) x)
    ∙ ap (way_found s ((i == 0) && traverses s.table sub.result) (not (is_some sub.result))) (sym f)
    ∙ sym (passing_at s sub i)

pub passing_none : (s : Typing) (sub : Signature) (i : ℕ) (xs : List ℕ) → xs ≡ sub.formals → length xs ≤ i
    → ByValue ≡ get_or (passings s sub) i ByValue
passing_none s sub i xs formals le =
    let f : slice_get sub.formals i ≡ None = ap (λ l. slice_get l i) (sym formals) ∙ none_at xs i le in
    ap (way_found s ((i == 0) && traverses s.table sub.result) (not (is_some sub.result))) (sym f)
    ∙ sym (passing_at s sub i)

past : (xs : List ℕ) (i : ℕ) → length xs ≤ i → drop i xs ≡ []
past [] zero le = refl
past [] (suc i) le = refl
past (x ∷ xs) zero le = absurd (omega (arith, le))
past (x ∷ xs) (suc i) le = past xs i (omega (arith, le))

-- All are made.
pub passings_made : (s : Typing) (sub : Signature) (made : List Passing) (xs : List ℕ) (i : ℕ) (traversed first procedure : Bool) (result : Option ℕ)
    → made ++ ways_of s traversed procedure (drop i xs) ≡ ways_of s first procedure xs → length xs ≤ i
    → first ≡ traverses s.table result → procedure ≡ not (is_some result) → result ≡ sub.result → xs ≡ sub.formals
    → made ≡ passings s sub
passings_made s sub made xs i traversed first procedure result is le f p r formals =
    let t : first ≡ traverses s.table sub.result = f ∙ ap (λ r. traverses s.table r) r in
    let q : procedure ≡ not (is_some sub.result) = p ∙ ap (λ r. not (is_some r)) r in
    let none : made ++ ways_of s traversed procedure (drop i xs) ≡ made =
    ap (λ rest. made ++ ways_of s traversed procedure rest) (past xs i le) ∙ append-nil made in
    sym none ∙ is ∙ (λ k. ways_of s (t k) (q k) (formals k)) ∙ sym (passings_ways s sub)
