-- Whether a name is another one and some steps after it, and so whether an act moved it.
use Rattle.std.proofs.Common.{◌≡◌, ◌≢◌, refl, sym, ap, ◌∙◌, subst, Bool, false, ◌&&◌, ◌||◌, ◌==◌, ℕ, List, [], ◌∷◌, ◌++◌, map}
use Rattle.std.specs.Bool.{Decides}
use Rattle.std.specs.List.{list_any}
use Rattle.std.specs.Cmp.Lexicographic.{pointwise, pointwise_decides}
use Rattle.std.proofs.lemmas.Bool.Decides.{same_from_decides}
use Rattle.std.proofs.lemmas.Slice.Eq.{slice_eq-Decides}
use Rattle.place_names.specs.declared.selector.Sel.{Sel}
use Rattle.place_names.specs.contracts.selector.SelPartialEq.TheImpl as selectors
use Rattle.place_names.specs.declared.rule.Loan.{Loan}
use Rattle.place_names.specs.declared.fact.Fact.TheVariants.{Moved, Lent}
use Rattle.place_names.specs.Names.{Name, is_same, is_equal, extend}
use Rattle.place_names.specs.Facts.{is_same_fact}
use Rattle.place_names.proofs.Names.{is_equal-decides}
use Rattle.place_names.proofs.Selectors.{same_selector}

-- `==` on selectors tells whether they are the same
pub selector-decides : (s t : Sel) → Decides (selectors.eq-value.it s t) (s ≡ t)
selector-decides s t = subst (λ b. Decides b (s ≡ t)) (sym (same_selector s t)) (is_equal-decides s t)

-- so it tells whether two lists of them are
pub same_steps : (xs ys : List Sel) (r : Bool) → r ≡ pointwise selectors.eq-value.it xs ys → r ≡ pointwise is_equal xs ys
same_steps xs ys r e =
    same_from_decides {P = xs ≡ ys} r (pointwise is_equal xs ys) (slice_eq-Decides selector-decides xs ys r e)
    (pointwise_decides {E = is_equal} is_equal-decides xs ys)

-- ---- a list of parts

-- what follows the front decides
behind : (front q rest : List Sel) → pointwise is_equal q rest ≡ pointwise is_equal (front ++ q) (front ++ rest)
behind [] q rest = refl
behind (s ∷ front) q rest =
    behind front q rest ∙ ap (λ b. b && pointwise is_equal (front ++ q) (front ++ rest)) (sym ((is_equal-decides s s).1 refl))

any_behind : (front rest : List Sel) (parts : List (List Sel))
    → list_any (λ q. pointwise is_equal q rest) parts ≡ list_any (λ q. pointwise is_equal (front ++ q) (front ++ rest)) parts
any_behind front rest [] = refl
any_behind front rest (q ∷ parts) = λ i. behind front q rest i || any_behind front rest parts i

pub joined_some : (front rest whole : List Sel) (parts : List (List Sel)) (r : Bool) → whole ≡ front ++ rest
    → r ≡ list_any (λ q. pointwise is_equal q rest) parts → r ≡ list_any (λ q. pointwise is_equal (front ++ q) whole) parts
joined_some front rest whole parts r is e =
    e ∙ any_behind front rest parts ∙ ap (λ w. list_any (λ q. pointwise is_equal (front ++ q) w) parts) (sym is)

-- what doesn't begin with the front isn't the front with a part after it
no_joined : (front q whole : List Sel) → ((rest : List Sel) → whole ≢ front ++ rest) → false ≡ pointwise is_equal (front ++ q) whole
no_joined front q whole none =
    same_from_decides {P = front ++ q ≡ whole} false (pointwise is_equal (front ++ q) whole)
    (λ t. cc, λ w. absurd (none q (sym w)))
    (pointwise_decides {E = is_equal} is_equal-decides (front ++ q) whole)

pub joined_none : (front whole : List Sel) (parts : List (List Sel)) → ((rest : List Sel) → whole ≢ front ++ rest)
    → false ≡ list_any (λ q. pointwise is_equal (front ++ q) whole) parts
joined_none front whole [] none = refl
joined_none front whole (q ∷ parts) none = λ i. no_joined front q whole none i || joined_none front whole parts none i

-- one of the parts that are moved
pub any_moved : (m n : Name) (parts : List (List Sel))
    → list_any (λ q. is_same (extend m q) n) parts ≡ list_any (λ g. is_same_fact g (Moved n)) (map (λ q. Moved (extend m q)) parts)
any_moved m n [] = refl
any_moved m n (q ∷ parts) = ap (λ b. is_same (extend m q) n || b) (any_moved m n parts)

-- a name of another object is that of no part
pub none_elsewhere : (m n : Name) (parts : List (List Sel)) → (m.root == n.root) ≡ false
    → false ≡ list_any (λ q. is_same (extend m q) n) parts
none_elsewhere m n [] e = refl
none_elsewhere m n (q ∷ parts) e =
    none_elsewhere m n parts e
    ∙ ap (λ b. (b && pointwise is_equal (m.sels ++ q) n.sels) || list_any (λ r. is_same (extend m r) n) parts) (sym e)

pub none_lent : (m : Name) (l : Loan) (h : ℕ) (n : Name) (parts : List (List Sel))
    → false ≡ list_any (λ g. is_same_fact g (Lent l h n)) (map (λ q. Moved (extend m q)) parts)
none_lent m l h n [] = refl
none_lent m l h n (q ∷ parts) = none_lent m l h n parts
