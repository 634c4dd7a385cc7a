-- Words of one type are words of another one, and the other way round.
use Rattle.std.proofs.Common.{◌≡◌, ℕ, ◌&&◌, ◌||◌, List, [], ◌∷◌, refl, ap, ◌∙◌, arith, nat_eq}
use Rattle.type_definitions.specs.declared.table.Shape.{Shape}
use Rattle.type_definitions.specs.declared.table.Shape.TheVariants as shape
use Rattle.type_definitions.specs.Types.{Table, shape_of, meant_type}
use Rattle.machine.specs.Typed.{Sort, Whole, Position, Pointer, same_kind, same_designated, same_sort, same_sorts}

equal_turned : (a b : ℕ) → nat_eq a b ≡ nat_eq b a
equal_turned a b = grind arith

kind_turned : (s t : Shape) → same_kind s t ≡ same_kind t s
kind_turned (shape.Whole a b) (shape.Whole c d) = refl
kind_turned (shape.Whole a b) (shape.Listed l c d) = refl
kind_turned (shape.Whole a b) (shape.Access d constant named) = refl
kind_turned (shape.Whole a b) (shape.Fields components) = refl
kind_turned (shape.Whole a b) (shape.Elements low high element) = refl
kind_turned (shape.Whole a b) (shape.Same of) = refl
kind_turned (shape.Listed k a b) (shape.Whole c d) = refl
kind_turned (shape.Listed k a b) (shape.Listed l c d) = refl
kind_turned (shape.Listed k a b) (shape.Access d constant named) = refl
kind_turned (shape.Listed k a b) (shape.Fields components) = refl
kind_turned (shape.Listed k a b) (shape.Elements low high element) = refl
kind_turned (shape.Listed k a b) (shape.Same of) = refl
kind_turned (shape.Access e c n) (shape.Whole a b) = refl
kind_turned (shape.Access e c n) (shape.Listed l a b) = refl
kind_turned (shape.Access e c n) (shape.Access d constant named) = refl
kind_turned (shape.Access e c n) (shape.Fields components) = refl
kind_turned (shape.Access e c n) (shape.Elements low high element) = refl
kind_turned (shape.Access e c n) (shape.Same of) = refl
kind_turned (shape.Fields cs) (shape.Whole a b) = refl
kind_turned (shape.Fields cs) (shape.Listed l a b) = refl
kind_turned (shape.Fields cs) (shape.Access d constant named) = refl
kind_turned (shape.Fields cs) (shape.Fields components) = refl
kind_turned (shape.Fields cs) (shape.Elements low high element) = refl
kind_turned (shape.Fields cs) (shape.Same of) = refl
kind_turned (shape.Elements l h x) (shape.Whole a b) = refl
kind_turned (shape.Elements l h x) (shape.Listed k a b) = refl
kind_turned (shape.Elements l h x) (shape.Access d constant named) = refl
kind_turned (shape.Elements l h x) (shape.Fields components) = refl
kind_turned (shape.Elements l h x) (shape.Elements low high element) = refl
kind_turned (shape.Elements l h x) (shape.Same of) = refl
kind_turned (shape.Same o) (shape.Whole a b) = refl
kind_turned (shape.Same o) (shape.Listed l a b) = refl
kind_turned (shape.Same o) (shape.Access d constant named) = refl
kind_turned (shape.Same o) (shape.Fields components) = refl
kind_turned (shape.Same o) (shape.Elements low high element) = refl
kind_turned (shape.Same o) (shape.Same of) = refl

designated_turned : (table : Table) (a b : ℕ) → same_designated table a b ≡ same_designated table b a
designated_turned table a b =
    ap (λ x. x || same_kind (shape_of table a) (shape_of table b)) (equal_turned (meant_type table a) (meant_type table b))
    ∙ ap (λ x. nat_eq (meant_type table b) (meant_type table a) || x) (kind_turned (shape_of table a) (shape_of table b))

sort_turned : (table : Table) (a b : Sort) → same_sort table a b ≡ same_sort table b a
sort_turned table Whole Whole = refl
sort_turned table Whole Position = refl
sort_turned table Whole (Pointer d) = refl
sort_turned table Position Whole = refl
sort_turned table Position Position = refl
sort_turned table Position (Pointer d) = refl
sort_turned table (Pointer a) Whole = refl
sort_turned table (Pointer a) Position = refl
sort_turned table (Pointer a) (Pointer b) = designated_turned table a b

pub sorts_turned : (table : Table) (all more : List Sort) → same_sorts table all more ≡ same_sorts table more all
sorts_turned table [] [] = refl
sorts_turned table [] (b ∷ more) = refl
sorts_turned table (a ∷ all) [] = refl
sorts_turned table (a ∷ all) (b ∷ more) = ap (λ x. x && same_sorts table all more) (sort_turned table a b) ∙ ap (λ x. same_sort table b a && x) (sorts_turned table all more)
