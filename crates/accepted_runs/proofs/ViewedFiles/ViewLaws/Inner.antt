-- The scope around one that begins in code has a smaller number.
use Rattle.std.proofs.Common.{◌≡◌, refl, subst, ℕ, zero, suc, ◌+◌, ◌≤◌, List, [], ◌∷◌, ◌++◌, length, get_or, arith}
use Rattle.std.proofs.lemmas.List.{length-append}
use Rattle.machine.specs.resolved_tree.Trees.{More, Code, SubBody, Package, PackageBody, If, Branch, Case, When, Loop, While, For, Block}
use Rattle.machine.specs.type_definitions.declared.table.Known.{Known}
use Rattle.machine.specs.typed_tree.Statements.{scope_count}
use Rattle.machine.specs.typed_tree.Programs.{over_units, scopes_in, typed_program}

-- Each of these numbers is that of its place or less, counted from n on.
abbrev pub AreInner : ℕ → List ℕ → Type 0
AreInner n [] = Unit {0}
AreInner n (x ∷ xs) = (x ≤ n) × AreInner (suc n) xs

-- So many scopes, the scope around each of which is inner.
abbrev pub Counted : ℕ → ℕ → List ℕ → Type 0
Counted n k xs = AreInner n xs × (length xs ≡ k)

inner_at : (n m : ℕ) (xs : List ℕ) → n ≡ m → AreInner n xs → AreInner m xs
inner_at n m xs e h = subst (λ k. AreInner k xs) e h

inner_both : (n : ℕ) (xs ys : List ℕ) → AreInner n xs → AreInner (n + length xs) ys → AreInner n (xs ++ ys)
inner_both n [] ys h g = inner_at (n + 0) n ys (omega arith) g
inner_both n (x ∷ xs) ys h g = (h.0, inner_both (suc n) xs ys h.1 (inner_at (n + length (x ∷ xs)) (suc n + length xs) ys (omega arith) g))

two : (n k l : ℕ) (xs ys : List ℕ) → Counted n k xs → Counted (n + k) l ys → Counted n (k + l) (xs ++ ys)
two n k l xs ys h g =
    let a = h.1 in
    let b = g.1 in
    let long : length (xs ++ ys) ≡ length xs + length ys = length-append xs ys in (
      inner_both n xs ys h.0 (inner_at (n + k) (n + length xs) ys (omega (arith, a)) g.0),
      omega (arith, a, b, long),
    )

-- one more scope before them
begun : (a n k : ℕ) (xs : List ℕ) → a ≤ n → Counted (n + 1) k xs → Counted n (1 + k) (a ∷ xs)
begun a n k xs less h = (let long = h.1 in ((less, inner_at (n + 1) (suc n) xs (omega arith) h.0), omega (arith, long)))

pub code_inner : (a n : ℕ) (c : Code) → a ≤ n → Counted n (scope_count c) (scopes_in a n c)
unfolding scopes_in scope_count
code_inner a n (SubBody front items stmts end) less =
    begun a n (scope_count items + scope_count stmts) _ less
    (two (n + 1) (scope_count items) (scope_count stmts) _ _ (code_inner n (n + 1) items (omega arith))
    (code_inner n (n + 1 + scope_count items) stmts (omega arith)))
code_inner a n (Package d x y) less = two n (scope_count x) (scope_count y) _ _ (code_inner a n x less) (code_inner a (n + scope_count x) y (omega (arith, less)))
code_inner a n (PackageBody d x) less = code_inner a n x less
code_inner a n (If p x y) less = two n (scope_count x) (scope_count y) _ _ (code_inner a n x less) (code_inner a (n + scope_count x) y (omega (arith, less)))
code_inner a n (Branch p e x) less = code_inner a n x less
code_inner a n (Case p e x) less = code_inner a n x less
code_inner a n (When choices x) less = code_inner a n x less
code_inner a n (Loop p x) less = code_inner a n x less
code_inner a n (While p e x) less = code_inner a n x less
code_inner a n (For p d reversed range x) less = begun a n (scope_count x) _ less (code_inner n (n + 1) x (omega arith))
code_inner a n (Block p items stmts end) less =
    begun a n (scope_count items + scope_count stmts) _ less
    (two (n + 1) (scope_count items) (scope_count stmts) _ _ (code_inner n (n + 1) items (omega arith))
    (code_inner n (n + 1 + scope_count items) stmts (omega arith)))
code_inner a n (More x y) less = two n (scope_count x) (scope_count y) _ _ (code_inner a n x less) (code_inner a (n + scope_count x) y (omega (arith, less)))
code_inner a n _ less = (tt, refl)

units_inner : (n : ℕ) (us : List Code) → AreInner n (over_units (scopes_in 0) n us)
units_inner n [] = tt
units_inner n (u ∷ us) =
    let one = code_inner 0 n u (omega arith) in
    let long = one.1 in
    inner_both n (scopes_in 0 n u) (over_units (scopes_in 0) (n + scope_count u) us) one.0
    (inner_at (n + scope_count u) (n + length (scopes_in 0 n u)) (over_units (scopes_in 0) (n + scope_count u) us) (omega (arith, long)) (units_inner (n + scope_count u) us))

at_place : (n : ℕ) (xs : List ℕ) (b d : ℕ) → AreInner n xs → d ≤ n + b → get_or xs b d ≤ n + b
at_place n [] b d h less = less
at_place n (x ∷ xs) zero d h less = (let here = h.0 in omega (arith, here))
at_place n (x ∷ xs) (suc b) d h less = (let later = at_place (suc n) xs b d h.1 (omega (arith, less)) in omega (arith, later))

-- So it is of the scopes of a typed program.
pub scopes_inner : (known : Known) (units : List Code) (b : ℕ) → get_or (typed_program known units).scopes b b ≤ b
unfolding typed_program
scopes_inner known units b =
    let least = at_place 0 (0 ∷ over_units (scopes_in 0) 1 units) b b (omega arith, units_inner 1 units) (omega arith) in omega (arith, least)
