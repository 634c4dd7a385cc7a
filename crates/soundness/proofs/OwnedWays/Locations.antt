-- Locations and ways as such.
use Rattle.std.proofs.Common.{◌≡◌, refl, sym, ap, ◌∙◌, subst, ◌⊎◌, inl, inr, ℕ, Bool, true, false, ◌&&◌, ◌==◌, eqb-true, eq-eqb, List, [], ◌∷◌, length, suc, ◌<◌, ◌≤◌, ◌+◌, arith}
use Rattle.std.specs.Bool.{Decides}
use Rattle.std.proofs.lemmas.Bool.{false≢true}
use Rattle.soundness.specs.OwnedWays.Ways.{Step, Component, Element, Root, OfVariable, OfHand, Loc, OfRoot, OfCell, Inside, Way, Object, Lost, Into, All, View, part, along, Below, Reaches, IsRooted, Under, Past}
use Rattle.soundness.proofs.Parted.{by_either}

pub both_parts : (a b : Bool) → a && b ≡ true → (a ≡ true) × (b ≡ true)
both_parts true b e = (refl, e)
both_parts false b e = absurd (false≢true e)

pub both_true : (a b : Bool) → a ≡ true → b ≡ true → a && b ≡ true
both_true a b e f = ap (λ x. x && b) e ∙ f

abbrev pub is_step : Step → Step → Bool
is_step (Component i) (Component j) = i == j
is_step (Component i) (Element j) = false
is_step (Element i) (Component j) = false
is_step (Element i) (Element j) = i == j

abbrev pub is_root : Root → Root → Bool
is_root (OfVariable f x) (OfVariable g y) = (f == g) && (x == y)
is_root (OfVariable f x) (OfHand k) = false
is_root (OfHand h) (OfVariable g y) = false
is_root (OfHand h) (OfHand k) = h == k

abbrev pub is_loc : Loc → Loc → Bool
is_loc (OfRoot x) (OfRoot y) = is_root x y
is_loc (OfRoot x) (OfCell n) = false
is_loc (OfRoot x) (Inside m i) = false
is_loc (OfCell n) (OfRoot y) = false
is_loc (OfCell n) (OfCell k) = n == k
is_loc (OfCell n) (Inside m i) = false
is_loc (Inside m i) (OfRoot y) = false
is_loc (Inside m i) (OfCell n) = false
is_loc (Inside m i) (Inside k j) = is_loc m k && is_step i j

is_step-decides : (a b : Step) → Decides (is_step a b) (a ≡ b)
is_step-decides (Component i) (Component j) = (λ e. ap Component (eqb-true i j e), λ e. eq-eqb i j cc)
is_step-decides (Component i) (Element j) = (λ e. cc, λ e. cc)
is_step-decides (Element i) (Component j) = (λ e. cc, λ e. cc)
is_step-decides (Element i) (Element j) = (λ e. ap Element (eqb-true i j e), λ e. eq-eqb i j cc)

pub is_root-decides : (a b : Root) → Decides (is_root a b) (a ≡ b)
is_root-decides (OfVariable f x) (OfVariable g y) = (
  λ e. let parts = both_parts (f == g) (x == y) e in let a = eqb-true f g parts.0 in let b = eqb-true x y parts.1 in cc,
  λ e. both_true (f == g) (x == y) (eq-eqb f g cc) (eq-eqb x y cc),
)
is_root-decides (OfVariable f x) (OfHand k) = (λ e. cc, λ e. cc)
is_root-decides (OfHand h) (OfVariable g y) = (λ e. cc, λ e. cc)
is_root-decides (OfHand h) (OfHand k) = (λ e. ap OfHand (eqb-true h k e), λ e. eq-eqb h k cc)

pub is_loc-decides : (a b : Loc) → Decides (is_loc a b) (a ≡ b)
is_loc-decides (OfRoot x) (OfRoot y) = (λ e. ap OfRoot ((is_root-decides x y).0 e), λ e. (is_root-decides x y).1 cc)
is_loc-decides (OfRoot x) (OfCell n) = (λ e. cc, λ e. cc)
is_loc-decides (OfRoot x) (Inside m i) = (λ e. cc, λ e. cc)
is_loc-decides (OfCell n) (OfRoot y) = (λ e. cc, λ e. cc)
is_loc-decides (OfCell n) (OfCell k) = (λ e. ap OfCell (eqb-true n k e), λ e. eq-eqb n k cc)
is_loc-decides (OfCell n) (Inside m i) = (λ e. cc, λ e. cc)
is_loc-decides (Inside m i) (OfRoot y) = (λ e. cc, λ e. cc)
is_loc-decides (Inside m i) (OfCell n) = (λ e. cc, λ e. cc)
is_loc-decides (Inside m i) (Inside k j) =
    let head = is_loc-decides m k in
    let last = is_step-decides i j in (
      λ e. let parts = both_parts (is_loc m k) (is_step i j) e in let a = head.0 parts.0 in let b = last.0 parts.1 in cc,
      λ e. both_true (is_loc m k) (is_step i j) (head.1 cc) (last.1 cc),
    )

-- equal or not
pub same_loc : (a b : Loc) → (a ≡ b) ⊎ (a ≡ b → ⊥)
same_loc a b = choose (is_loc a b) refl
  where
    choose : (r : Bool) → is_loc a b ≡ r → (a ≡ b) ⊎ (a ≡ b → ⊥)
    choose true e = inl ((is_loc-decides a b).0 e)
    choose false e = inr (λ f. let is = (is_loc-decides a b).1 f in cc)

no_part : (t l : Loc) → (l ≡ t → ⊥) → ((p : List Step) (i : Step) → l ≡ Inside (part t p) i → ⊥) → Below t l → ⊥
no_part t l first rest ([], e) = first e
no_part t l first rest (i ∷ p, e) = rest p i e

pub below : (t l : Loc) → Below t l ⊎ (Below t l → ⊥)
below t (OfRoot x) = by_either (same_loc (OfRoot x) t) (λ e. (inl ([], e))) (λ none. (inr (no_part t (OfRoot x) none (λ p i e. cc))))
below t (OfCell n) = by_either (same_loc (OfCell n) t) (λ e. (inl ([], e))) (λ none. (inr (no_part t (OfCell n) none (λ p i e. cc))))
below t (Inside m i) = by_either (same_loc (Inside m i) t)
    (λ e. (inl ([], e)))
    (λ none. (by_either (below t m) (λ b. (inl (i ∷ b.0, ap (λ x. Inside x i) b.1))) (λ off. (inr (no_part t (Inside m i) none (λ p j e. off (p, cc)))))))

-- a part has the depth of its whole
abbrev pub depth : Way → ℕ
depth (Object x) = 0
depth (Lost n) = 0
depth (Into w i) = suc (depth w)
depth (All w) = suc (depth w)

pub under_depth : (t w : Way) → Under t w → depth t ≤ depth w
under_depth t (Object x) u = subst (λ v. depth v ≤ 0) (sym u) (omega arith)
under_depth t (Lost n) u = subst (λ v. depth v ≤ 0) (sym u) (omega arith)
under_depth t (Into w i) u = by_either u (λ e. (subst (λ v. depth v ≤ suc (depth w)) (sym e) (omega arith))) (λ u. (let less = under_depth t w u in (omega arith)))
under_depth t (All w) u = by_either u (λ e. (subst (λ v. depth v ≤ suc (depth w)) (sym e) (omega arith))) (λ u. (let less = under_depth t w u in (omega arith)))

pub under_itself : (w : Way) → Under w w
under_itself (Object x) = refl
under_itself (Lost n) = refl
under_itself (Into w i) = inl refl
under_itself (All w) = inl refl

pub under_along : (t w : Way) (p : List Step) → Under t w → Under t (along w p)
under_along t w [] u = u
under_along t w (i ∷ p) u = inr (under_along t w p u)

pub named_along : (w : Way) (p : List Step) → IsRooted w → IsRooted (along w p)
named_along w [] n = n
named_along w (i ∷ p) n = named_along w p n

pub reaches_along : (s : View) (w : Way) (l : Loc) (p : List Step) → Reaches s w l → Reaches s (along w p) (part l p)
reaches_along s w l [] r = r
reaches_along s w l (i ∷ p) r = (part l p, reaches_along s w l p r, refl)

pub named_under : (t w : Way) → Under t w → IsRooted t → IsRooted w
named_under t (Object x) u n = subst IsRooted u n
named_under t (Lost k) u n = subst IsRooted u n
named_under t (Into w i) u n = by_either u (λ e. (subst IsRooted e n)) (λ u. (named_under t w u n))
named_under t (All w) u n = by_either u (λ e. (subst IsRooted e n)) (λ u. (named_under t w u n))

pub past_under : (t w : Way) → Past t w → Under t w
past_under t (Object x) u = absurd u
past_under t (Lost n) u = absurd u
past_under t (Into w i) u = inr (past_under t w u)
past_under t (All w) u = inr u

pub past_depth : (t w : Way) → Past t w → depth t < depth w
past_depth t (Object x) u = absurd u
past_depth t (Lost n) u = absurd u
past_depth t (Into w i) u = let less = past_depth t w u in (omega arith)
past_depth t (All w) u = let less = under_depth t w u in (omega arith)

pub not_past : (t : Way) (p : List Step) → Past t (along t p) → ⊥
not_past t [] u = let less = past_depth t t u in absurd (omega arith)
not_past t (i ∷ p) u = not_past t p u

-- how many steps lead into a location
abbrev pub steps : Loc → ℕ
steps (OfRoot x) = 0
steps (OfCell n) = 0
steps (Inside l i) = suc (steps l)

part_steps : (l : Loc) (p : List Step) → steps (part l p) ≡ length p + steps l
part_steps l [] = (omega arith)
part_steps l (i ∷ p) = let rest = part_steps l p in (omega arith)

inside : (l m : Loc) (i j : Step) → Inside l i ≡ Inside m j → (l ≡ m) × (i ≡ j)
inside l m i j e = (cc, cc)

-- parts of one place at one location are the same part
pub same_part : (l m : Loc) (p q : List Step) → part l p ≡ part l q → part m p ≡ part m q
same_part l m [] [] e = refl
same_part l m [] (j ∷ q) e = let n = ap steps e ∙ part_steps l (j ∷ q) in absurd (omega arith)
same_part l m (i ∷ p) [] e = let n = sym (ap steps e) ∙ part_steps l (i ∷ p) in absurd (omega arith)
same_part l m (i ∷ p) (j ∷ q) e =
    let both = inside (part l p) (part l q) i j e in
    let rest = same_part l m p q both.0 in
    let last = both.1 in
    ap (λ x. Inside x i) rest ∙ ap (Inside (part m q)) last

pub unpart : (l m : Loc) (i j : Step) → Inside l i ≡ Inside m j → l ≡ m
unpart l m i j e = (inside l m i j e).0

pub one_part : (l : Loc) (p q : List Step) → part l p ≡ part l q → p ≡ q
one_part l [] [] e = refl
one_part l [] (j ∷ q) e = let n = ap steps e ∙ part_steps l (j ∷ q) in absurd (omega arith)
one_part l (i ∷ p) [] e = let n = sym (ap steps e) ∙ part_steps l (i ∷ p) in absurd (omega arith)
one_part l (i ∷ p) (j ∷ q) e =
    let both = inside (part l p) (part l q) i j e in
    let rest = one_part l p q both.0 in
    let last = both.1 in
    ap (λ x. x ∷ p) last ∙ ap (λ z. j ∷ z) rest
