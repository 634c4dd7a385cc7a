-- Parts of parts, and locations taken apart.
use Rattle.std.proofs.Common.{◌≡◌, refl, sym, ap, ◌∙◌, ℕ, ◌+◌, ◌*◌, true, ◌&&◌, List, [], ◌∷◌, ◌++◌, length, nat_lt, arith, append-nil}
use Rattle.machine.specs.type_definitions.Types.{Table, shape_of, fields, words}
use Rattle.machine.specs.Words.{words_before, component_type, element_type, element_count}
use Rattle.soundness.specs.OwnedWays.Ways.{Step, Component, Element, Root, Loc, OfRoot, OfCell, Inside, part, Below}
use Rattle.soundness.specs.PartOffsets.Parts.{type_in, offset_in, has_part, owns_one, is_leaf}
use Rattle.soundness.specs.Seen.{steps_in, trunk}

pub type_join : (table : Table) (t : ℕ) (q p : List Step) → type_in table t (p ++ q) ≡ type_in table (type_in table t q) p
type_join table t q [] = refl
type_join table t q (Component i ∷ p) = ap (λ u. component_type table u i) (type_join table t q p)
type_join table t q (Element n ∷ p) = ap (λ u. element_type table u) (type_join table t q p)

pub offset_join : (table : Table) (t : ℕ) (q p : List Step) → offset_in table t (p ++ q) ≡ offset_in table t q + offset_in table (type_in table t q) p
offset_join table t q [] = omega arith
offset_join table t q (Component i ∷ p) =
    let rest = offset_join table t q p in
    let last : words_before table (type_in table t (p ++ q)) i ≡ words_before table (type_in table (type_in table t q) p) i =
    ap (λ u. words_before table u i) (type_join table t q p) in
    omega (arith, rest, last)
offset_join table t q (Element n ∷ p) =
    let rest = offset_join table t q p in
    let last : n * words table (element_type table (type_in table t (p ++ q))) ≡ n * words table (element_type table (type_in table (type_in table t q) p)) =
    ap (λ u. n * words table (element_type table u)) (type_join table t q p) in
    omega (arith, rest, last)

pub part_join : (table : Table) (t : ℕ) (q p : List Step) → has_part table t q ≡ true → has_part table t (p ++ q) ≡ has_part table (type_in table t q) p
part_join table t q [] has = has
part_join table t q (Component i ∷ p) has =
    ap (λ b. b && nat_lt i (length (fields table (type_in table t (p ++ q))))) (part_join table t q p has)
    ∙ ap (λ u. has_part table (type_in table t q) p && nat_lt i (length (fields table u))) (type_join table t q p)
part_join table t q (Element n ∷ p) has =
    ap (λ b. b && nat_lt n (element_count table (type_in table t (p ++ q)))) (part_join table t q p has)
    ∙ ap (λ u. has_part table (type_in table t q) p && nat_lt n (element_count table u)) (type_join table t q p)

pub leaf_join : (table : Table) (t : ℕ) (q p : List Step) → has_part table t q ≡ true → is_leaf table t (p ++ q) ≡ is_leaf table (type_in table t q) p
leaf_join table t q p has =
    ap (λ b. b && owns_one (shape_of table (type_in table t (p ++ q)))) (part_join table t q p has)
    ∙ ap (λ u. has_part table (type_in table t q) p && owns_one (shape_of table u)) (type_join table t q p)

-- ---- locations

pub trunk_part : (l : Loc) (p : List Step) → trunk (part l p) ≡ trunk l
trunk_part l [] = refl
trunk_part l (i ∷ p) = trunk_part l p

pub steps_part : (l : Loc) (p : List Step) → steps_in (part l p) ≡ p ++ steps_in l
steps_part l [] = refl
steps_part l (i ∷ p) = ap (λ x. i ∷ x) (steps_part l p)

pub part_part : (l : Loc) (q p : List Step) → part (part l q) p ≡ part l (p ++ q)
part_part l q [] = refl
part_part l q (i ∷ p) = ap (λ x. Inside x i) (part_part l q p)

pub whole : (l : Loc) → part (trunk l) (steps_in l) ≡ l
whole (OfRoot r) = refl
whole (OfCell n) = refl
whole (Inside l i) = ap (λ x. Inside x i) (whole l)

pub trunk_trunk : (l : Loc) → trunk (trunk l) ≡ trunk l
trunk_trunk (OfRoot r) = refl
trunk_trunk (OfCell n) = refl
trunk_trunk (Inside l i) = trunk_trunk l

pub below_from : (to l : Loc) (r : List Step) → trunk l ≡ trunk to → steps_in l ≡ r ++ steps_in to → l ≡ part to r
below_from to l r base steps =
    sym (whole l) ∙ ap (λ x. part x (steps_in l)) base ∙ ap (part (trunk to)) steps ∙ sym (part_part (trunk to) (steps_in to) r) ∙ ap (λ x. part x r) (whole to)

pub below_root : (r : Root) (l : Loc) → trunk l ≡ OfRoot r → Below (OfRoot r) l
below_root r l e = (steps_in l, below_from (OfRoot r) l (steps_in l) e (sym (append-nil (steps_in l))))

pub below_cell : (n : ℕ) (l : Loc) → trunk l ≡ OfCell n → Below (OfCell n) l
below_cell n l e = (steps_in l, below_from (OfCell n) l (steps_in l) e (sym (append-nil (steps_in l))))

pub not_inside : (l m : Loc) (i : Step) → trunk l ≡ Inside m i → ⊥
not_inside (OfRoot r) m i e = cc
not_inside (OfCell n) m i e = cc
not_inside (Inside l j) m i e = not_inside l m i e
