-- The objects that facts are rooted in, as a set of them and as a walk along all objects.
use Rattle.std.proofs.Common.{◌≡◌, ◌<◌, ◌≤◌, ◌⊎◌, ◌==◌, ◌||◌, ◌&&◌, not, ltb, is_some, eqb-true, eq-eqb, ℕ, zero, suc, ◌+◌, Bool, true, false, refl, sym, ap, ◌∙◌, subst, arith, inl, inr, List, [], ◌∷◌, ◌++◌, length, get_or, take, if◌then◌else◌}
use Rattle.std.specs.List.{list_any}
use Rattle.std.specs.Ordering.{nat_cmp}
use Rattle.std.specs.BTreeSet.{insert_key}
use Rattle.std.proofs.lemmas.List.{get_or_past, take_more}
use Rattle.std.proofs.lemmas.Bool.{ltb-true, ltb-false, eqb-false}
use Rattle.spark_base.specs.Lists.{Has}
use Rattle.place_names.specs.declared.fact.Fact.{Fact}
use Rattle.place_names.specs.Facts.{place}
use Rattle.place_names.proofs.Names.{both_parts, both_true}
use Rattle.typed_tree.specs.declared.object.Object.{Object}
use Rattle.typed_tree.specs.Programs.{text_io}
use Rattle.flow_paths.specs.Effects.{Ascends}
use Rattle.flow_paths.specs.Laid.{kept_roots}
use Rattle.flow_paths.specs.Objects.{Typing, object_at, is_formal_kind, is_state}
use Rattle.sub_summary.specs.FactLists.{is_kept, with_root, with_roots}
use Rattle.sub_summary.proofs.Ascending.{ascending_once, insert_has, insert_keeps, insert_cases, insert_ascends}

-- some fact is rooted in an object
abbrev any_rooted : ℕ → List Fact → Bool
any_rooted x facts = list_any (λ (f : Fact). (place f).root == x) facts

-- an object is kept, and some fact is rooted in it
abbrev IsRoot : Typing → List Fact → ℕ → Type 0
IsRoot s facts x = (is_kept s x ≡ true) × (any_rooted x facts ≡ true)

-- ---- the set

ascend_step : (b : Bool) (k : ℕ) (keys : List ℕ) → Ascends keys → Ascends (if b then insert_key nat_cmp keys k else keys)
ascend_step true k keys up = insert_ascends keys k up
ascend_step false k keys up = up

pub roots_ascend : (s : Typing) (keys : List ℕ) (facts : List Fact) → Ascends keys → Ascends (with_roots s keys facts)
roots_ascend s keys [] up = up
roots_ascend s keys (f ∷ facts) up =
    roots_ascend s (with_root s keys f) facts (ascend_step (is_kept s (place f).root) (place f).root keys up)

keep_step : (b : Bool) (k x : ℕ) (keys : List ℕ) → Has keys x → Has (if b then insert_key nat_cmp keys k else keys) x
keep_step true k x keys h = insert_keeps keys k x h
keep_step false k x keys h = h

roots_keep : (s : Typing) (keys : List ℕ) (facts : List Fact) (x : ℕ) → Has keys x → Has (with_roots s keys facts) x
roots_keep s keys [] x h = h
roots_keep s keys (f ∷ facts) x h =
    roots_keep s (with_root s keys f) facts x (keep_step (is_kept s (place f).root) (place f).root x keys h)

from_step : (s : Typing) (b : Bool) (f : Fact) (facts : List Fact) (x : ℕ) (keys : List ℕ) → is_kept s (place f).root ≡ b
    → Has (if b then insert_key nat_cmp keys (place f).root else keys) x → Has keys x ⊎ IsRoot s (f ∷ facts) x
from_step s false f facts x keys is h = inl h
from_step s true f facts x keys is h = elim (insert_cases keys (place f).root x h) [
  | inl same ↦ inr (subst (λ (z : ℕ). is_kept s z ≡ true) same is, ap (λ (b : Bool). b || any_rooted x facts) (eq-eqb (place f).root x same))
  | inr old ↦ inl old
]

behind_true : (a b : Bool) → b ≡ true → (a || b) ≡ true
behind_true true b e = refl
behind_true false b e = e

pub roots_from : (s : Typing) (keys : List ℕ) (facts : List Fact) (x : ℕ) → Has (with_roots s keys facts) x → Has keys x ⊎ IsRoot s facts x
roots_from s keys [] x h = inl h
roots_from s keys (f ∷ facts) x h = elim (roots_from s (with_root s keys f) facts x h) [
  | inl now ↦ from_step s (is_kept s (place f).root) f facts x keys refl now
  | inr later ↦ inr (later.0, behind_true ((place f).root == x) (any_rooted x facts) later.1)
]

here_step : (b : Bool) (k : ℕ) (keys : List ℕ) → b ≡ true → Has (if b then insert_key nat_cmp keys k else keys) k
here_step true k keys is = insert_has keys k
here_step false k keys is = cc

has_step : (s : Typing) (b : Bool) (f : Fact) (facts : List Fact) (x : ℕ) (keys : List ℕ) → ((place f).root == x) ≡ b → is_kept s x ≡ true
    → (b || any_rooted x facts) ≡ true → (any_rooted x facts ≡ true → Has (with_roots s (with_root s keys f) facts) x)
    → Has (with_roots s (with_root s keys f) facts) x
has_step s true f facts x keys is kept any later =
    let same : (place f).root ≡ x = eqb-true (place f).root x is in
    roots_keep s (with_root s keys f) facts x
    (subst (λ (z : ℕ). Has (with_root s keys f) z) same
    (here_step (is_kept s (place f).root) (place f).root keys (subst (λ (z : ℕ). is_kept s z ≡ true) (sym same) kept)))
has_step s false f facts x keys is kept any later = later any

pub roots_have : (s : Typing) (keys : List ℕ) (facts : List Fact) (x : ℕ) → IsRoot s facts x → Has (with_roots s keys facts) x
roots_have s keys [] x is = cc
roots_have s keys (f ∷ facts) x is =
    has_step s ((place f).root == x) f facts x keys refl is.0 is.1 (λ any. roots_have s (with_root s keys f) facts x (is.0, any))

-- ---- the walk along all objects

abbrev way_step : Bool → ℕ → List ℕ → List ℕ
way_step b n rest = if b then n ∷ rest else rest

way_from_step : (s : Typing) (facts : List Fact) (b : Bool) (n x : ℕ) (rest : List ℕ) → (is_kept s n && any_rooted n facts) ≡ b
    → (Has rest x → (suc n ≤ x) × IsRoot s facts x) → Has (way_step b n rest) x → (n ≤ x) × IsRoot s facts x
way_from_step s facts false n x rest is f h = let later = (f h).0 in (omega (arith, later), (f h).1)
way_from_step s facts true n x rest is f (inl same) =
    let parts = both_parts (is_kept s n) (any_rooted n facts) is in
    (omega (arith, same), subst (λ (z : ℕ). IsRoot s facts z) same parts)
way_from_step s facts true n x rest is f (inr h) = let later = (f h).0 in (omega (arith, later), (f h).1)

way_from : (s : Typing) (facts : List Fact) (n : ℕ) (objects : List Object) (x : ℕ) → Has (kept_roots s n objects facts) x
    → (n ≤ x) × IsRoot s facts x
way_from s facts n [] x h = absurd h
way_from s facts n (o ∷ objects) x h =
    way_from_step s facts (is_kept s n && any_rooted n facts) n x (kept_roots s (suc n) objects facts) refl
    (way_from s facts (suc n) objects x) h

way_has_step : (s : Typing) (facts : List Fact) (b : Bool) (n x : ℕ) (rest : List ℕ) → (is_kept s n && any_rooted n facts) ≡ b
    → IsRoot s facts x → n ≤ x → (suc n ≤ x → Has rest x) → Has (way_step b n rest) x
way_has_step s facts b n x rest is root from later = at (n == x) refl b is
  where
    at : (same : Bool) → (n == x) ≡ same → (b : Bool) → (is_kept s n && any_rooted n facts) ≡ b → Has (way_step b n rest) x
    at true e true is = inl (eqb-true n x e)
    at true e false is =
        let here = both_true (is_kept s x) (any_rooted x facts) root.0 root.1 in
        let no : false ≡ true = sym is ∙ subst (λ (z : ℕ). (is_kept s z && any_rooted z facts) ≡ true) (sym (eqb-true n x e)) here in cc
    at false e true is = let other = eqb-false n x e in inr (later (omega (arith, other, from)))
    at false e false is = let other = eqb-false n x e in later (omega (arith, other, from))

way_has : (s : Typing) (facts : List Fact) (n : ℕ) (objects : List Object) (x : ℕ) → IsRoot s facts x → n ≤ x → x < n + length objects
    → Has (kept_roots s n objects facts) x
way_has s facts n [] x root from below = let no : ⊥ = omega (arith, from, below) in absurd no
way_has s facts n (o ∷ objects) x root from below =
    way_has_step s facts (is_kept s n && any_rooted n facts) n x (kept_roots s (suc n) objects facts) refl root from
    (λ past. way_has s facts (suc n) objects x root past (omega (arith, below)))

way_ascends_step : (b : Bool) (n : ℕ) (rest : List ℕ) → Ascends rest → ((y : ℕ) → Has rest y → n < y) → Ascends (way_step b n rest)
way_ascends_step true n rest up f = (f, up)
way_ascends_step false n rest up f = up

way_ascends : (s : Typing) (facts : List Fact) (n : ℕ) (objects : List Object) → Ascends (kept_roots s n objects facts)
way_ascends s facts n [] = tt
way_ascends s facts n (o ∷ objects) =
    way_ascends_step (is_kept s n && any_rooted n facts) n (kept_roots s (suc n) objects facts) (way_ascends s facts (suc n) objects)
    (λ y h. let from = (way_from s facts (suc n) objects y h).0 in omega (arith, from))

-- ---- both

-- what is kept is an object
kept_below : (s : Typing) (x : ℕ) → is_kept s x ≡ true → x < length s.objects
kept_below s x kept = at (ltb x (length s.objects)) refl
  where
    at : (b : Bool) → ltb x (length s.objects) ≡ b → x < length s.objects
    at true e = ltb-true x (length s.objects) e
    at false e =
        let past : object_at s x ≡ text_io = get_or_past s.objects x text_io (ltb-false x (length s.objects) e) in
        let none : is_kept s x ≡ false =
        ap (λ (o : Object). is_formal_kind o.kind || (is_some o.«package» && not (is_state o.kind))) past in
        let no : false ≡ true = sym none ∙ kept in cc

pub roots_once : (s : Typing) (facts : List Fact) → with_roots s [] facts ≡ kept_roots s 0 s.objects facts
roots_once s facts =
    ascending_once (with_roots s [] facts) (kept_roots s 0 s.objects facts) (roots_ascend s [] facts tt) (way_ascends s facts 0 s.objects)
    (λ x h. elim (roots_from s [] facts x h) [
      | inl none ↦ absurd none
      | inr root ↦ way_has s facts 0 s.objects x root (omega arith) (let below = kept_below s x root.0 in omega (arith, below))
    ])
    (λ x h. roots_have s [] facts x (way_from s facts 0 s.objects x h).1)

-- ---- a step of a loop

with_roots_append : (s : Typing) (keys : List ℕ) (xs ys : List Fact) → with_roots s keys (xs ++ ys) ≡ with_roots s (with_roots s keys xs) ys
with_roots_append s keys [] ys = refl
with_roots_append s keys (x ∷ xs) ys = with_roots_append s (with_root s keys x) xs ys

pub roots_step : (s : Typing) (facts : List Fact) (i : ℕ) (f : Fact) → i < length facts → f ≡ get_or facts i f
    → with_root s (with_roots s [] (take i facts)) f ≡ with_roots s [] (take (i + 1) facts)
roots_step s facts i f below is =
    ap (with_root s (with_roots s [] (take i facts))) is ∙ sym (with_roots_append s [] (take i facts) (get_or facts i f ∷ []))
    ∙ ap (with_roots s []) (sym (take_more facts i f below))
