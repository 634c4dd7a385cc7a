-- What comparisons of slices of selectors say.
use Rattle.std.proofs.Common.{◌≡◌, refl, ap, ◌∙◌, ◌&&◌, List, [], ◌∷◌, zip}
use Rattle.std.specs.List.{list_any, list_all, starts_with}
use Rattle.place_names.specs.declared.selector.Sel.{Sel}
use Rattle.place_names.specs.declared.selector.Sel.TheVariants.{Field, Elem, Deref}
use Rattle.place_names.specs.contracts.selector.SelPartialEq.TheImpl as selectors
use Rattle.place_names.specs.Names.{is_equal, agrees, begins, agree_along, has_elem}

-- `==` on selectors is equality
pub same_selector : (a b : Sel) → selectors.eq-value.it a b ≡ is_equal a b
same_selector (Field i) (Field j) = refl
same_selector (Field i) Elem = refl
same_selector (Field i) Deref = refl
same_selector Elem (Field j) = refl
same_selector Elem Elem = refl
same_selector Elem Deref = refl
same_selector Deref (Field j) = refl
same_selector Deref Elem = refl
same_selector Deref Deref = refl

-- `starts_with` on selectors is `begins`, with the two lists exchanged
pub starts_with-begins : (m k : List Sel) → starts_with selectors.eq-value.it m k ≡ begins k m
starts_with-begins m [] = refl
starts_with-begins [] (s ∷ k) = refl
starts_with-begins (t ∷ m) (s ∷ k) =
    ap (λ b. b && starts_with selectors.eq-value.it m k) (same_selector s t)
    ∙ ap (λ b. is_equal s t && b) (starts_with-begins m k)

-- selectors that agree one by one as far as both lists go
pub all_agree : (k m : List Sel) → list_all (λ p. agrees p.0 p.1) (zip k m) ≡ agree_along k m
all_agree [] m = refl
all_agree (s ∷ k) [] = refl
all_agree (s ∷ k) (t ∷ m) = ap (λ b. agrees s t && b) (all_agree k m)

-- some selector is an `Elem`
pub any_elem : (k : List Sel) → list_any (λ s. is_equal s Elem) k ≡ has_elem k
any_elem [] = refl
any_elem (Field i ∷ k) = any_elem k
any_elem (Elem ∷ k) = refl
any_elem (Deref ∷ k) = any_elem k
