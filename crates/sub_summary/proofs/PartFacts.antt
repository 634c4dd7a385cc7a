-- Whether a name is another one and some steps after it.
use Rattle.std.proofs.Common.{◌≡◌, ◌≢◌, sym, ap, ◌∙◌, subst, Bool, false, List, [], ◌∷◌, ◌++◌}
use Rattle.std.specs.Bool.{Decides}
use Rattle.std.specs.Cmp.Lexicographic.{pointwise, pointwise_decides}
use Rattle.std.proofs.lemmas.Bool.Decides.{same_from_decides}
use Rattle.std.proofs.lemmas.Slice.Eq.{slice_eq-Decides}
use Rattle.place_names.specs.declared.selector.Sel.{Sel}
use Rattle.place_names.specs.contracts.selector.SelPartialEq.TheImpl as selectors
use Rattle.place_names.specs.Names.{is_equal}
use Rattle.place_names.proofs.Names.{is_equal-decides}
use Rattle.place_names.proofs.Selectors.{same_selector}

-- `==` on selectors tells whether they are the same
pub selector-decides : (s t : Sel) → Decides (selectors.eq-value.it s t) (s ≡ t)
selector-decides s t = subst (λ b. Decides b (s ≡ t)) (sym (same_selector s t)) (is_equal-decides s t)

behind_same : (front back rest : List Sel) → front ++ rest ≡ front ++ back → rest ≡ back
behind_same [] back rest e = e
behind_same (s ∷ front) back rest e = behind_same front back rest cc

-- what follows the front decides
pub joined_some : (front back whole rest : List Sel) (r : Bool) → whole ≡ front ++ rest → r ≡ pointwise selectors.eq-value.it rest back
    → r ≡ pointwise is_equal whole (front ++ back)
joined_some front back whole rest r is e =
    let d = slice_eq-Decides selector-decides rest back r e in
    same_from_decides {P = whole ≡ front ++ back} r (pointwise is_equal whole (front ++ back))
    (λ t. is ∙ ap (λ l. front ++ l) (d.0 t), λ w. d.1 (behind_same front back rest (sym is ∙ w)))
    (pointwise_decides {E = is_equal} is_equal-decides whole (front ++ back))

pub joined_none : (front back whole : List Sel) → ((rest : List Sel) → whole ≢ front ++ rest) → false ≡ pointwise is_equal whole (front ++ back)
joined_none front back whole none =
    same_from_decides {P = whole ≡ front ++ back} false (pointwise is_equal whole (front ++ back))
    (λ t. cc, λ w. absurd (none back w))
    (pointwise_decides {E = is_equal} is_equal-decides whole (front ++ back))
