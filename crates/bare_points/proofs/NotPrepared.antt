-- Expressions without points before those that use them.
use Rattle.std.proofs.Common.{◌≡◌, ℕ, List, [], ◌∷◌, ◌++◌, length, sym, ap, ◌∙◌, arith, refl}
use Rattle.std.proofs.lemmas.List.{append-nil}
use Rattle.typed_tree.specs.Trees.{TypedTree}
use Rattle.numbered_points.specs.Extents.{prep_size}
use Rattle.bare_points.specs.Bare.{Bare, Laying}
use Rattle.bare_points.specs.BarePrepared.{bare_prepared}
use Rattle.bare_points.proofs.BareLengths.{prepared_length}

no_items : (xs : List Bare) → length xs ≡ 0 → xs ≡ []
no_items [] none = refl
no_items (x ∷ xs) none = absurd (omega (arith, none))

-- They add nothing.
pub none_prepared : (made : List Bare) (g : Laying) (e : TypedTree) (n t : ℕ) (k : List ℕ) → prep_size e ≡ 0
    → made ≡ made ++ bare_prepared g e n t k
none_prepared made g e n t k none =
    sym (ap (λ xs. made ++ xs) (no_items _ (prepared_length g e n t k ∙ none)) ∙ append-nil made)
