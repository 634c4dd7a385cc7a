-- Kinds of parts of types, and where lowered places lead.
use Rattle.std.proofs.Common.{◌≡◌, sym, ap, ◌∙◌, subst, ℕ, zero, suc, ◌+◌, List, [], ◌∷◌, ◌++◌, map, drop, length, slice_get, Some}
use Rattle.std.proofs.lemmas.List.{map-append, length-map, drop-drop}
use Rattle.run_values.specs.declared.value.Kind.{Kind}
use Rattle.machine.specs.Typed.{Sort}
use Rattle.run_codes.specs.Flat.{kind_of}
use Rattle.run_codes.specs.Related.{IsSplit}
use Rattle.handled_runs.specs.Looks.{IsFront}

-- ---- fronts of lists

front_append : (ks js rest : List Kind) → IsFront (ks ++ rest) js → IsFront ks js
front_append [] js rest is = tt
front_append (k ∷ ks) [] rest is = absurd is
front_append (k ∷ ks) (j ∷ js) rest is = (is.0, front_append ks js rest is.1)

front_after : (first ks js : List Kind) → IsFront (first ++ ks) js → IsFront ks (drop (length first) js)
front_after [] ks js is = is
front_after (f ∷ first) ks [] is = absurd is
front_after (f ∷ first) ks (j ∷ js) is = front_after first ks js is.1

-- The kinds of a part stand at its offset.
pub split_front : (all part : List Sort) (n : ℕ) (js : List Kind) → IsSplit all n part → IsFront (map kind_of all) js → IsFront (map kind_of part) (drop n js)
split_front all part n js s is =
    let whole : map kind_of all ≡ map kind_of s.front ++ (map kind_of part ++ map kind_of s.rest)
    = ap (map kind_of) s.is ∙ (map-append kind_of s.front (part ++ s.rest) ∙ ap (λ ks. map kind_of s.front ++ ks) (map-append kind_of part s.rest)) in
    let after = front_after (map kind_of s.front) (map kind_of part ++ map kind_of s.rest) js (subst (λ ks. IsFront ks js) whole is) in
    let at : length (map kind_of s.front) ≡ n = length-map s.front kind_of ∙ s.long in
    front_append (map kind_of part) (drop n js) (map kind_of s.rest) (subst (λ i. IsFront (map kind_of part ++ map kind_of s.rest) (drop i js)) at after)

pub front_first : (ks : List Kind) (n : ℕ) (k : Kind) → IsFront (k ∷ []) (drop n ks) → slice_get ks n ≡ Some k
front_first [] zero k is = absurd is
front_first (j ∷ ks) zero k is = ap Some (sym is.0)
front_first [] (suc n) k is = absurd is
front_first (j ∷ ks) (suc n) k is = front_first ks n k is

pub drop_on : (js : List Kind) (n b k : ℕ) → k ≡ n + b → drop k js ≡ drop b (drop n js)
drop_on js n b k is = ap (λ i. drop i js) is ∙ sym (drop-drop b n js)
