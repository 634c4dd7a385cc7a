-- Code after other code.
use Rattle.std.proofs.Common.{◌≡◌, ℕ, ◌+◌, ◌<◌, List, [], ◌∷◌, ◌++◌, map, length, refl, sym, ap, ◌∙◌, arith, append_assoc}
use Rattle.std.specs.List.{All as Each}
use Rattle.resolved_tree.specs.Trees.{Code, More, code_items}
use Rattle.typed_tree.specs.Trees.{TypedCode}
use Rattle.typed_tree.specs.Nodes.{TypedNodes, typed_code_at, Grew, HoldsCode, HoldsAllCode}
use Rattle.typed_tree.specs.Expressions.{Site}
use Rattle.typed_tree.specs.Statements.{scope_count, statements}
use Rattle.typed_tree.proofs.Lists.{holds_more_code, holds_code_on}

append_one : {A : Type 0} (xs ys : List A) (x : A) → (xs ++ x ∷ []) ++ ys ≡ xs ++ x ∷ ys
append_one [] ys x = refl
append_one (a ∷ xs) ys x = ap (λ ts. a ∷ ts) (append_one xs ys x)

-- What was made is still there.
pub within_on : (before now : TypedNodes) (made : List ℕ) → Grew before now → Each (λ k. k < length before.1) made
    → Each (λ k. k < length now.1) made
within_on before now made g within = (holds_code_on before now made (map (typed_code_at before) made) g (within, refl)).0

pub added_on : (before middle now : TypedNodes) (made more : List ℕ) (codes : List TypedCode) → Grew before middle
    → Each (λ k. k < length before.1) made → HoldsAllCode now more (map (typed_code_at middle) made ++ codes)
    → HoldsAllCode now more (map (typed_code_at before) made ++ codes)
added_on before middle now made more codes g within holds = (
  holds.0,
  holds.1 ∙ ap (λ ts. ts ++ codes) (holds_code_on before middle made (map (typed_code_at before) made) g (within, refl)).1,
)

-- One more, which is all that is meant.
pub put_one : (before now : TypedNodes) (made : List ℕ) (n : ℕ) (codes : List TypedCode) → Grew before now
    → Each (λ k. k < length before.1) made → n < length now.1 → codes ≡ typed_code_at now n ∷ []
    → HoldsAllCode now (made ++ n ∷ []) (map (typed_code_at before) made ++ codes)
put_one before now made n codes g within lt is =
    rw is (holds_more_code now made n (map (typed_code_at before) made) (typed_code_at now n)
    (holds_code_on before now made (map (typed_code_at before) made) g (within, refl)) (lt, refl))

-- One more of several.
pub put_next : (before now : TypedNodes) (made : List ℕ) (n : ℕ) (c : TypedCode) (behind all : List TypedCode) → Grew before now
    → Each (λ k. k < length before.1) made → map (typed_code_at before) made ++ c ∷ behind ≡ all → HoldsCode now n c
    → Each (λ k. k < length now.1) (made ++ n ∷ []) × (map (typed_code_at now) (made ++ n ∷ []) ++ behind ≡ all)
put_next before now made n c behind all g within is one =
    let put = holds_more_code now made n (map (typed_code_at before) made) c
    (holds_code_on before now made (map (typed_code_at before) made) g (within, refl)) one in (
      put.0,
      ap (λ ts. ts ++ behind) put.1 ∙ append_one (map (typed_code_at before) made) behind c ∙ is,
    )

-- The first of a list, for each of which code is made.
pub next_item : (f : Code → TypedCode) (list a rest : Code) (before now : TypedNodes) (made more : List ℕ) (n : ℕ) (all : List TypedCode)
    → list ≡ More a rest → more ≡ made ++ n ∷ [] → Grew before now → Each (λ k. k < length before.1) made
    → map (typed_code_at before) made ++ map f (code_items list) ≡ all → HoldsCode now n (f a)
    → Each (λ k. k < length now.1) more × (map (typed_code_at now) more ++ map f (code_items rest) ≡ all)
next_item f list a rest before now made more n all is are g within before_all one =
    rw are (put_next before now made n (f a) (map f (code_items rest)) all g within
    (ap (λ c. map (typed_code_at before) made ++ map f (code_items c)) (sym is) ∙ before_all) one)

-- The first of a list, and those after it.
pub walk_step : (s : Site) (n m : ℕ) (list a rest : Code) (made more all : List TypedCode) → list ≡ More a rest → m ≡ n + scope_count a
    → made ++ statements s n list ≡ all → more ≡ made ++ statements s n a → more ++ statements s m rest ≡ all
unfolding statements
walk_step s n m list a rest made more all is next before now =
    rw now (rw next (append_assoc made (statements s n a) (statements s (n + scope_count a) rest)
    ∙ ap (λ c. made ++ statements s n c) (sym is) ∙ before))

pub count_step : (n m total : ℕ) (list a rest : Code) → list ≡ More a rest → m ≡ n + scope_count a → n + scope_count list ≡ total
    → m + scope_count rest ≡ total
unfolding scope_count
count_step n m total list a rest is next before =
    let counted : n + (scope_count a + scope_count rest) ≡ total = ap (λ c. n + scope_count c) (sym is) ∙ before in
    omega (arith, next, counted)
