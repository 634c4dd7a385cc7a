-- A type is owning where it has an access part.
use Rattle.std.proofs.Common.{◌≡◌, ℕ, zero, suc, ◌+◌, Bool, true, false, not, ◌||◌, List, [], ◌∷◌, ◌++◌, map, refl, sym, ap, ◌∙◌, length}
use Rattle.std.specs.Prelude.{slice_get}
use Rattle.place_names.specs.declared.selector.Sel.{Sel}
use Rattle.place_names.specs.declared.selector.Sel.TheVariants.{Field, Elem}
use Rattle.type_definitions.specs.declared.table.Component.{Component}
use Rattle.type_definitions.specs.declared.table.Shape.{Shape}
use Rattle.type_definitions.specs.declared.table.Shape.TheVariants as shape
use Rattle.type_definitions.specs.Types.{Table, shape_found, is_nil, numbered, parts_of, parts_within, parts, owns_of, any_owns, owns_within, is_owning}

nil_map : (f : List Sel → List Sel) (xs : List (List Sel)) → is_nil (map f xs) ≡ is_nil xs
nil_map f [] = refl
nil_map f (x ∷ rest) = refl

nil_append : (f : List Sel → List Sel) (xs ys : List (List Sel)) → not (is_nil (map f xs ++ ys)) ≡ not (is_nil xs) || not (is_nil ys)
nil_append f [] ys = refl
nil_append f (x ∷ rest) ys = refl

-- Where a type owns just where it has a part, so do those that are made of such types.
module _ (owns : ℕ → Bool) (parts : ℕ → List (List Sel)) (same : (t : ℕ) → owns t ≡ not (is_nil (parts t))) where
  any_numbered : (i : ℕ) (cs : List Component) → any_owns owns cs ≡ not (is_nil (numbered i parts cs))
  any_numbered i [] = refl
  any_numbered i (c ∷ rest) =
      rw (nil_append (λ q. Field i ∷ q) (parts c.of) (numbered (i + 1) parts rest))
      (rw (same c.of) (rw (any_numbered (i + 1) rest) refl))

  owns_shape : (s : Shape) → owns_of owns s ≡ not (is_nil (parts_of parts s))
  owns_shape (shape.Whole low high) = refl
  owns_shape (shape.Listed literals low high) = refl
  owns_shape (shape.Access t constant true) = refl
  owns_shape (shape.Access t constant false) = refl
  owns_shape (shape.Fields cs) = any_numbered 0 cs
  owns_shape (shape.Elements low high t) = same t ∙ ap not (sym (nil_map (λ q. Elem ∷ q) (parts t)))
  owns_shape (shape.Same t) = same t

pub owns_depth : (n : ℕ) (table : Table) (t : ℕ) → owns_within n table t ≡ not (is_nil (parts_within n table t))
unfolding owns_within parts_within
owns_depth zero table t = refl
owns_depth (suc n) table t =
    owns_shape (owns_within n table) (parts_within n table) (owns_depth n table) (shape_found (slice_get table t))

pub owning_has_part : (table : Table) (t : ℕ) → is_owning table t ≡ not (is_nil (parts table t))
unfolding is_owning parts
owning_has_part table t = owns_depth (length table) table t
