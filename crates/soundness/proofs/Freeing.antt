-- What a release checks: a scalar type has no access parts, and which fact forbids doesn't matter.
use Rattle.std.proofs.Common.{◌≡◌, refl, ℕ, Bool, true, false, List, [], Some, None, if◌then◌else◌, ap}
use Rattle.std.proofs.lemmas.Bool.{false≢true, true≢false}
use Rattle.std.specs.Prelude.{is_some}
use Rattle.machine.specs.place_names.declared.selector.Sel.{Sel}
use Rattle.machine.specs.place_names.Rules.{Forbidden}
use Rattle.machine.specs.type_definitions.declared.table.Shape.{Shape}
use Rattle.machine.specs.type_definitions.declared.table.Shape.TheVariants as shape
use Rattle.machine.specs.type_definitions.Types.{parts_of, is_scalar, view_of as view_of_shape}

-- a scalar type has no access parts
pub plain_parts : (f : ℕ → List (List Sel)) (sh : Shape) → is_scalar (view_of_shape sh) ≡ true → parts_of f sh ≡ []
plain_parts f (shape.Whole a b) e = refl
plain_parts f (shape.Listed l a b) e = refl
plain_parts f (shape.Access d c n) e = absurd (false≢true e)
plain_parts f (shape.Fields cs) e = absurd (false≢true e)
plain_parts f (shape.Elements a b el) e = absurd (false≢true e)
plain_parts f (shape.Same of) e = absurd (false≢true e)

pub switched : (b : Bool) (x y : Forbidden) → (if b then Some x else None) ≡ None → (if b then Some y else None) ≡ None
switched true x y e = absurd (true≢false (ap is_some e))
switched false x y e = refl
