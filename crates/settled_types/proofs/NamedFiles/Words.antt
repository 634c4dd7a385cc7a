-- Words of which each is new where it is added are apart.
use Rattle.std.proofs.Common.{◌≡◌, inl, inr, ℕ, Bool, true, false, ◌||◌, ◌&&◌, List, [], ◌∷◌, ◌++◌, map, nat_eq, refl, sym, subst, arith, true≢false, if◌then◌else◌}
use Rattle.std.specs.List.{list_any}
use Rattle.std.specs.Cmp.Lexicographic.{pointwise}
use Rattle.std.specs.Char.{to_ascii_lowercase}
use Rattle.machine.specs.spark_base.Lists.{Has}
use Rattle.name_events.specs.Declarations.{Name, same, has_name, added_name}
use Rattle.settled_types.specs.GatheredLaws.Components.{AreWordsApart}

abbrev pub lower : List ℕ → Name
lower w = map to_ascii_lowercase w

-- Each of these words is new after those before it.
abbrev pub AreFresh : List Name → List (List ℕ) → Type 0
AreFresh names [] = Unit {0}
AreFresh names (w ∷ rest) = (has_name (lower w) names ≡ false) × AreFresh (added_name names (lower w)) rest

abbrev pub added_all : List Name → List (List ℕ) → List Name
added_all names [] = names
added_all names (w ∷ rest) = added_all (added_name names (lower w)) rest

pub fresh_both : (names : List Name) (xs ys : List (List ℕ)) → AreFresh names xs → AreFresh (added_all names xs) ys → AreFresh names (xs ++ ys)
fresh_both names [] ys a b = b
fresh_both names (x ∷ xs) ys a b = (a.0, fresh_both (added_name names (lower x)) xs ys a.1 b)

-- ---- what was there stays

any_left : (w : Name) (xs ys : List Name) → list_any (same w) (xs ++ ys) ≡ false → list_any (same w) xs ≡ false
any_left w [] ys e = refl
any_left w (x ∷ xs) ys e = by (any_left w xs ys) (same w x) e
  where
    by : (list_any (same w) (xs ++ ys) ≡ false → list_any (same w) xs ≡ false) → (b : Bool) → b || list_any (same w) (xs ++ ys) ≡ false
        → b || list_any (same w) xs ≡ false
    by on true e = e
    by on false e = on e

any_last : (w x : Name) (xs : List Name) → list_any (same w) (xs ++ x ∷ []) ≡ false → same w x ≡ false
any_last w x [] e = by (same w x) e
  where
    by : (b : Bool) → b || false ≡ false → b ≡ false
    by true e = e
    by false e = refl
any_last w x (y ∷ xs) e = by (any_last w x xs) (same w y) e
  where
    by : (list_any (same w) (xs ++ x ∷ []) ≡ false → same w x ≡ false) → (b : Bool) → b || list_any (same w) (xs ++ x ∷ []) ≡ false → same w x ≡ false
    by on true e = absurd (true≢false e)
    by on false e = on e

added_before : (v w : Name) (names : List Name) → has_name v (added_name names w) ≡ false → has_name v names ≡ false
added_before v w names e = by (has_name w names) e
  where
    by : (b : Bool) → has_name v (if b then names else names ++ w ∷ []) ≡ false → has_name v names ≡ false
    by true e = e
    by false e = any_left v names (w ∷ []) e

added_new : (v w : Name) (names : List Name) → has_name w names ≡ false → has_name v (added_name names w) ≡ false → same v w ≡ false
added_new v w names new e = any_last v w names (subst (λ b. has_name v (if b then names else names ++ w ∷ []) ≡ false) new e)

each_new : (names : List Name) (ws : List (List ℕ)) (v : List ℕ) → AreFresh names ws → Has ws v → has_name (lower v) names ≡ false
each_new names [] v fresh has = absurd has
each_new names (w ∷ rest) v fresh (inl is) = subst (λ x. has_name (lower x) names ≡ false) is fresh.0
each_new names (w ∷ rest) v fresh (inr has) = added_before (lower v) (lower w) names (each_new (added_name names (lower w)) rest v fresh.1 has)

turned : (a b : List ℕ) → pointwise nat_eq a b ≡ false → pointwise nat_eq b a ≡ false
turned [] [] e = e
turned [] (y ∷ ys) e = refl
turned (x ∷ xs) [] e = refl
turned (x ∷ xs) (y ∷ ys) e = by (turned xs ys) (nat_eq x y) (nat_eq y x) (swapped x y) e
  where
    swapped : (x y : ℕ) → nat_eq x y ≡ nat_eq y x
    swapped x y = grind arith

    by : (pointwise nat_eq xs ys ≡ false → pointwise nat_eq ys xs ≡ false) → (p q : Bool) → p ≡ q → p && pointwise nat_eq xs ys ≡ false
        → q && pointwise nat_eq ys xs ≡ false
    by on true true same e = on e
    by on true false same e = absurd (true≢false same)
    by on false true same e = absurd (true≢false (sym same))
    by on false false same e = refl

pub fresh_apart : (names : List Name) (ws : List (List ℕ)) → AreFresh names ws → AreWordsApart ws
fresh_apart names [] fresh = tt
fresh_apart names (w ∷ rest) fresh = (
  (λ v has. turned (lower v) (lower w) (added_new (lower v) (lower w) names fresh.0 (each_new (added_name names (lower w)) rest v fresh.1 has))),
  fresh_apart (added_name names (lower w)) rest fresh.1,
)
