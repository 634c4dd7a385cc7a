-- The first choice that is doubled: those before it are apart, and its fault stands before those of
-- later ones.
use Rattle.std.proofs.Common.{◌≡◌, refl, sym, ap, ◌∙◌, ℕ, ◌+◌, ◌<◌, Bool, true, false, not, ◌&&◌, List, [], ◌∷◌, ◌++◌, length, take, drop, get_or, arith, Option, Some, None}
use Rattle.std.proofs.Math.Seq.{append_snoc}
use Rattle.std.proofs.lemmas.List.{append_assoc, append-nil, drop_more, take-append-drop}
use Rattle.spark_base.specs.declared.position.Pos.{Pos}
use Rattle.type_definitions.specs.declared.judgement.Fault.{Fault}
use Rattle.type_definitions.specs.declared.judgement.Cover.{Cover}
use Rattle.type_definitions.specs.Faults.{noted, demand, is_before, precedes}
use Rattle.type_definitions.specs.Statements.{any_meets, doubled}
use Rattle.statement_rules.specs.Sweep.{leads, is_first}
use Rattle.expression_rules.proofs.Noted.{noted_append}

-- ---- later faults

not_behind : (p q : Pos) → is_before p q ≡ true → is_before q p ≡ false
not_behind p q is = grind arith

both : (a b : Bool) → (a && b) ≡ true → (a ≡ true) × (b ≡ true)
both true b is = (refl, is)
both false b is = cc

stays_first : (f g : Fault) → is_before f.pos g.pos ≡ true → precedes g f ≡ false
stays_first f g is = let other = not_behind f.pos g.pos is in rw other (rw is refl)

kept_by : (f : Fault) (at : Pos) (b : Bool) → is_before f.pos at ≡ true → noted (Some f) (demand 4 at b) ≡ Some f
kept_by f at true is = refl
kept_by f at false is = let none = stays_first f (record { pos = at; code = 4 }) is in rw none refl

kept : (f : Fault) (before xs : List Cover) → leads f xs ≡ true → noted (Some f) (doubled before xs) ≡ Some f
kept f before [] is = refl
kept f before (k ∷ rest) is =
    let parts = both (is_before f.pos k.at) (leads f rest) is in
    noted_append (Some f) (demand 4 k.at (not (any_meets k before))) (doubled (before ++ k ∷ []) rest)
    ∙ ap (λ first. noted first (doubled (before ++ k ∷ []) rest)) (kept_by f k.at _ parts.0)
    ∙ kept f (before ++ k ∷ []) rest parts.1

first_kept : (first : Option Fault) (before xs : List Cover) → is_first first xs ≡ true → noted first (doubled before xs) ≡ first
first_kept (Some f) before xs is = kept f before xs is
first_kept None before xs is = cc

-- ---- after the choices that are apart

doubled_append : (before xs ys : List Cover) → doubled before (xs ++ ys) ≡ doubled before xs ++ doubled (before ++ xs) ys
doubled_append before [] ys = ap (λ all. doubled all ys) (sym (append-nil before))
doubled_append before (k ∷ xs) ys =
    let here = demand 4 k.at (not (any_meets k before)) in
    ap (λ rest. here ++ rest) (doubled_append (before ++ k ∷ []) xs ys
    ∙ ap (λ all. doubled (before ++ k ∷ []) xs ++ doubled all ys) (append_snoc before k xs))
    ∙ sym (append_assoc here (doubled (before ++ k ∷ []) xs) (doubled (before ++ k ∷ xs) ys))

from_count : (n : ℕ) (all : List Cover) (d : Cover) → n < length all → doubled [] (take n all) ≡ []
    → doubled [] all ≡ doubled (take n all) (get_or all n d ∷ drop (n + 1) all)
from_count n all d within apart =
    ap (λ xs. doubled [] xs) (sym (take-append-drop n all))
    ∙ doubled_append [] (take n all) (drop n all)
    ∙ ap (λ front. front ++ doubled (take n all) (drop n all)) apart
    ∙ ap (λ xs. doubled (take n all) xs) (drop_more all n d within)

pub first_doubled : (found first : Option Fault) (n : ℕ) (all : List Cover) (d : Cover) (b : Bool) → n < length all → doubled [] (take n all) ≡ []
    → b ≡ any_meets (get_or all n d) (take n all) → first ≡ noted found (demand 4 (get_or all n d).at (not b))
    → is_first first (drop (n + 1) all) ≡ true → first ≡ noted found (doubled [] all)
first_doubled found first n all d b within apart meets is leads =
    let k = get_or all n d in
    let rest = doubled (take n all ++ k ∷ []) (drop (n + 1) all) in
    sym (first_kept first (take n all ++ k ∷ []) (drop (n + 1) all) leads)
    ∙ ap (λ f. noted f rest) (is ∙ ap (λ t. noted found (demand 4 k.at (not t))) meets)
    ∙ sym (noted_append found (demand 4 k.at (not (any_meets k (take n all)))) rest)
    ∙ ap (noted found) (sym (from_count n all d within apart))
