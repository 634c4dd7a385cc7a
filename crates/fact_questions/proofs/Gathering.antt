-- One list of what facts forbid, gathered from one fact after the other.
use Rattle.std.proofs.Common.{◌≡◌, refl, sym, ap, ◌∙◌, ℕ, zero, suc, ◌+◌, ◌<◌, ◌≤◌, Bool, true, false, ◌||◌, List, [], ◌∷◌, ◌++◌, map, drop, length, get_or, Option, Some, None, if◌then◌else◌, arith, add-one, append-nil}
use Rattle.std.specs.List.{list_any}
use Rattle.std.proofs.lemmas.List.{append_assoc}
use Rattle.place_names.specs.Rules.{Forbidden}
use Rattle.fact_questions.specs.declared.found.Found.{Found}
use Rattle.fact_questions.specs.Findings.{as_found, as_forbidden, as_option, is_same_forbidden, with_one, with_all, with_found}

-- the first i have been added, and `so` is what that gave
pub record Gathering (initial items : List Found) (given : List (Option Forbidden)) (i : ℕ) : Type 0 where
  pub so : List Forbidden
  pub is : items ≡ initial ++ map as_found so
  pub rest : with_all so (drop i given) ≡ with_all [] given

pub gathering_begins : (initial : List Found) (given : List (Option Forbidden)) → Gathering initial initial given 0
gathering_begins initial given = record { so = []; is = sym (append-nil initial); rest = refl }

drop_behind : {A : Type 0} (front back : List A) → drop (length front) (front ++ back) ≡ back
drop_behind [] back = refl
drop_behind (x ∷ front) back = drop_behind front back

any_found : (x : Forbidden) (so : List Forbidden)
    → list_any (λ y. is_same_forbidden (as_forbidden y) x) (map as_found so) ≡ list_any (λ y. is_same_forbidden y x) so
any_found x [] = refl
any_found x (y ∷ so) = ap (λ b. is_same_forbidden y x || b) (any_found x so)

chosen : (b : Bool) (initial : List Found) (so : List Forbidden) (x : Forbidden)
    → (if b then initial ++ map as_found so else (initial ++ map as_found so) ++ as_found x ∷ [])
    ≡ initial ++ map as_found (if b then so else so ++ x ∷ [])
chosen true initial so x = refl
chosen false initial so x = append_assoc initial (map as_found so) (as_found x ∷ []) ∙ ap (λ l. initial ++ l) (sym (map_last so x))
  where
    map_last : (so : List Forbidden) (x : Forbidden) → map as_found (so ++ x ∷ []) ≡ map as_found so ++ as_found x ∷ []
    map_last [] x = refl
    map_last (y ∷ so) x = ap (λ l. as_found y ∷ l) (map_last so x)

-- one more, among those after the ones that were there before
one_more : (initial : List Found) (so : List Forbidden) (x : Option Forbidden)
    → with_found (length initial) (initial ++ map as_found so) (as_option x) ≡ initial ++ map as_found (with_one so x)
one_more initial so None = refl
one_more initial so (Some x) =
    ap (λ b. if b then initial ++ map as_found so else (initial ++ map as_found so) ++ as_found x ∷ [])
    (ap (λ l. list_any (λ y. is_same_forbidden (as_forbidden y) x) l) (drop_behind initial (map as_found so)) ∙ any_found x so)
    ∙ chosen (list_any (λ y. is_same_forbidden y x) so) initial so x

drop_at : (given : List (Option Forbidden)) (i : ℕ) → i < length given → drop i given ≡ get_or given i None ∷ drop (suc i) given
drop_at [] i h = absurd (omega arith)
drop_at (x ∷ given) zero h = refl
drop_at (x ∷ given) (suc i) h = drop_at given i (omega arith)

pub gathering_goes_on : (initial items new : List Found) (given : List (Option Forbidden)) (i start : ℕ) (x : Option Forbidden) (y : Option Found)
    → Gathering initial items given i → i < length given → start ≡ length initial → x ≡ get_or given i None → y ≡ as_option x
    → new ≡ with_found start items y → Gathering initial new given (i + 1)
gathering_goes_on initial items new given i start x y g h begins here made is = record {
  so = with_one g.so x;
  is = is ∙ (λ t. with_found (begins t) (g.is t) (made t)) ∙ one_more initial g.so x;
  rest = ap (λ n. with_all (with_one g.so x) (drop n given)) (add-one i)
      ∙ ap (λ o. with_all (with_one g.so o) (drop (suc i) given)) here
      ∙ sym (ap (with_all g.so) (drop_at given i h)) ∙ g.rest;
}

drop_past : (given : List (Option Forbidden)) (i : ℕ) → length given ≤ i → drop i given ≡ []
drop_past [] zero h = refl
drop_past [] (suc i) h = refl
drop_past (x ∷ given) zero h = absurd (omega arith)
drop_past (x ∷ given) (suc i) h = drop_past given i (omega arith)

-- all have been added
pub gathering_ends : (initial items : List Found) (given : List (Option Forbidden)) (i : ℕ) → Gathering initial items given i → length given ≤ i
    → items ≡ initial ++ map as_found (with_all [] given)
gathering_ends initial items given i g h =
    g.is ∙ ap (λ l. initial ++ map as_found l) (sym (ap (with_all g.so) (drop_past given i h)) ∙ g.rest)

one_grows : (so : List Forbidden) (x : Option Forbidden) → (rest : List Forbidden) × (with_one so x ≡ so ++ rest)
one_grows so None = ([], sym (append-nil so))
one_grows so (Some x) = from (list_any (λ y. is_same_forbidden y x) so)
  where
    from : (b : Bool) → (rest : List Forbidden) × ((if b then so else so ++ x ∷ []) ≡ so ++ rest)
    from true = ([], sym (append-nil so))
    from false = (x ∷ [], refl)

all_grow : (so : List Forbidden) (more : List (Option Forbidden)) → (rest : List Forbidden) × (with_all so more ≡ so ++ rest)
all_grow so [] = ([], sym (append-nil so))
all_grow so (x ∷ more) =
    let one = one_grows so x in
    let all = all_grow (with_one so x) more in
    (one.0 ++ all.0, all.1 ∙ ap (λ l. l ++ all.0) one.1 ∙ append_assoc so one.0 all.0)

-- memory is out
pub gathering_stops : (initial items : List Found) (given : List (Option Forbidden)) (i : ℕ) → Gathering initial items given i
    → (some rest : List Forbidden) × (with_all [] given ≡ some ++ rest) × (items ≡ initial ++ map as_found some)
gathering_stops initial items given i g =
    let grows = all_grow g.so (drop i given) in
    (g.so, grows.0, sym g.rest ∙ grows.1, g.is)

-- one that gives nothing
pub gathering_passes_over : (initial items : List Found) (given : List (Option Forbidden)) (i : ℕ) → Gathering initial items given i → i < length given
    → get_or given i None ≡ None → Gathering initial items given (i + 1)
gathering_passes_over initial items given i g h none = record {
  so = g.so;
  is = g.is;
  rest = ap (λ n. with_all g.so (drop n given)) (add-one i)
      ∙ ap (λ o. with_all (with_one g.so o) (drop (suc i) given)) (sym none)
      ∙ sym (ap (with_all g.so) (drop_at given i h)) ∙ g.rest;
}
