-- Types that agree have definitions of one form, and words of one sort.
use Rattle.std.proofs.Common.{◌≡◌, refl, sym, ap, ◌∙◌, subst, inl, inr, ℕ, Bool, true, false, ◌&&◌, ◌||◌, List, [], ◌∷◌, length, nat_eq, nat_lt, Some, arith, lt-ltb}
use Rattle.std.proofs.lemmas.Bool.{eq-eqb, false≢true}
use Rattle.std.specs.Prelude.{◌<◌}
use Rattle.machine.specs.type_definitions.declared.table.Shape.{Shape}
use Rattle.machine.specs.type_definitions.declared.table.Shape.TheVariants as shape
use Rattle.machine.specs.type_definitions.Types.{Table, meant_type, shape_of, components_of, view_of, is_owning, is_scalar}
use Rattle.machine.specs.Typed.{Sort, Whole, Position, Pointer, sorts, sorts_of, same_kind, same_designated, same_sort, same_sorts, is_pointer, points_to, is_record, is_array, field_count}
use Rattle.soundness.specs.TypedLaws.Fine.{Agree, counts, lists}
use Rattle.soundness.proofs.TypedLaws.Agreeing.{Owns, one_shape, either_left, scalar_owns}
use Rattle.run_codes.specs.Lowered.{sort_of, one_type, is_composite}

-- ---- scalar types

-- A scalar type, and the sort of its word.
abbrev pub IsScalarOf : Shape → Sort → Type 0
IsScalarOf (shape.Whole low high) so = so ≡ Whole
IsScalarOf (shape.Listed literals low high) so = so ≡ Position
IsScalarOf z so = ⊥

pub counted_is : (z : Shape) → counts z ≡ true → IsScalarOf z Whole
counted_is (shape.Whole a b) e = refl
counted_is z e = absurd (false≢true e)

pub listed_is : (z : Shape) → lists z ≡ true → IsScalarOf z Position
listed_is (shape.Listed k a b) e = refl
listed_is z e = absurd (false≢true e)

pub counted_of : (z : Shape) (so : Sort) → counts z ≡ true → IsScalarOf z so → so ≡ Whole
counted_of (shape.Whole a b) so e is = is
counted_of z so e is = absurd (false≢true e)

pub listed_of : (z : Shape) (so : Sort) → lists z ≡ true → IsScalarOf z so → so ≡ Position
listed_of (shape.Listed k a b) so e is = is
listed_of z so e is = absurd (false≢true e)

pub scalar_is : (z : Shape) → is_scalar (view_of z) ≡ true → (so : Sort) × IsScalarOf z so
scalar_is (shape.Whole a b) e = (Whole, refl)
scalar_is (shape.Listed k a b) e = (Position, refl)
scalar_is z e = absurd (false≢true e)

pub scalar_sort : (z : Shape) (so : Sort) → IsScalarOf z so → sort_of z ≡ Some so
scalar_sort (shape.Whole a b) so is = ap Some (sym is)
scalar_sort (shape.Listed k a b) so is = ap Some (sym is)
scalar_sort z so is = absurd is

scalar_either : (z : Shape) (so : Sort) → IsScalarOf z so → counts z || lists z ≡ true
scalar_either (shape.Whole a b) so is = refl
scalar_either (shape.Listed k a b) so is = refl
scalar_either z so is = absurd is

pub no_pointer : (z : Shape) (so : Sort) (d : ℕ) (k n : Bool) → IsScalarOf z so → z ≡ shape.Access d k n → ⊥
no_pointer z so d k n is e = subst (λ z. IsScalarOf z so) e is

pub no_composite : (z : Shape) (so : Sort) → IsScalarOf z so → is_record z || is_array z ≡ true → ⊥
no_composite (shape.Whole a b) so is e = false≢true e
no_composite (shape.Listed k a b) so is e = false≢true e
no_composite z so is e = absurd is

pub no_elements : (z : Shape) (so : Sort) → IsScalarOf z so → is_array z ≡ true → ⊥
no_elements (shape.Whole a b) so is e = false≢true e
no_elements (shape.Listed k a b) so is e = false≢true e
no_elements z so is e = absurd is

-- ---- types that agree

kind_scalar : (a b : Shape) (so : Sort) → same_kind a b ≡ true → IsScalarOf b so → IsScalarOf a so
kind_scalar (shape.Whole u v) (shape.Whole w x) so e is = is
kind_scalar (shape.Listed k u v) (shape.Listed l w x) so e is = is
kind_scalar (shape.Whole u v) b so e is = absurd (false≢true e)
kind_scalar (shape.Listed k u v) b so e is = absurd (false≢true e)
kind_scalar a b so e is = absurd (false≢true e)

kind_sym : (a b : Shape) → same_kind a b ≡ true → same_kind b a ≡ true
kind_sym (shape.Whole u v) (shape.Whole w x) e = refl
kind_sym (shape.Listed k u v) (shape.Listed l w x) e = refl
kind_sym (shape.Whole u v) b e = absurd (false≢true e)
kind_sym (shape.Listed k u v) b e = absurd (false≢true e)
kind_sym a b e = absurd (false≢true e)

pub agree_sym : (table : Table) (t u : ℕ) → Agree table t u → Agree table u t
agree_sym table t u (inl e) = inl (sym e)
agree_sym table t u (inr e) = inr (kind_sym (shape_of table t) (shape_of table u) e)

-- the sort of what agrees
pub agree_scalar : (table : Table) (t u : ℕ) (so : Sort) → Agree table t u → IsScalarOf (shape_of table u) so → IsScalarOf (shape_of table t) so
agree_scalar table t u so (inl e) is = subst (λ z. IsScalarOf z so) (sym (one_shape table t u e)) is
agree_scalar table t u so (inr e) is = kind_scalar (shape_of table t) (shape_of table u) so e is

kind_composite : (a b : Shape) → same_kind a b ≡ true → is_record a || is_array a ≡ true → ⊥
kind_composite (shape.Whole u v) b e f = cc
kind_composite (shape.Listed k u v) b e f = cc
kind_composite a b e f = absurd (false≢true e)

pub agree_composite : (table : Table) (t u : ℕ) → Agree table t u → is_record (shape_of table t) || is_array (shape_of table t) ≡ true → is_composite (shape_of table u) ≡ true
agree_composite table t u (inl e) f = subst (λ z. is_record z || is_array z ≡ true) (one_shape table t u e) f
agree_composite table t u (inr e) f = absurd (kind_composite (shape_of table t) (shape_of table u) e f)

-- nothing of a scalar type owns
pub scalar_plain : (table : Table) (t : ℕ) (so : Sort) → Owns table → IsScalarOf (shape_of table t) so → is_owning table t ≡ false
scalar_plain table t so owns is = scalar_owns table t owns (scalar_either (shape_of table t) so is)

-- ---- sorts

pub nat_same : (n : ℕ) → nat_eq n n ≡ true
nat_same n = eq-eqb n n refl

pub both_true : (a b : Bool) → a ≡ true → b ≡ true → a && b ≡ true
both_true a b e f = ap (λ x. x && b) e ∙ f

sort_same : (table : Table) (a : Sort) → same_sort table a a ≡ true
sort_same table Whole = refl
sort_same table Position = refl
sort_same table (Pointer d) = either_left _ _ (nat_same (meant_type table d))

sorts_same : (table : Table) (a : List Sort) → same_sorts table a a ≡ true
sorts_same table [] = refl
sorts_same table (x ∷ a) = both_true _ _ (sort_same table x) (sorts_same table a)

kind_sorts : (f : ℕ → List Sort) (a b : Shape) → same_kind a b ≡ true → sorts_of f a ≡ sorts_of f b
kind_sorts f (shape.Whole u v) (shape.Whole w x) e = refl
kind_sorts f (shape.Listed k u v) (shape.Listed l w x) e = refl
kind_sorts f (shape.Whole u v) b e = absurd (false≢true e)
kind_sorts f (shape.Listed k u v) b e = absurd (false≢true e)
kind_sorts f a b e = absurd (false≢true e)

pub same_target : (table : Table) (d t : ℕ) → Agree table d t → same_designated table d t ≡ true
same_target table d t (inl e) = either_left _ _ (subst (λ z. nat_eq (meant_type table d) z ≡ true) e (nat_same (meant_type table d)))
same_target table d t (inr e) = by (nat_eq (meant_type table d) (meant_type table t))
  where
    by : (b : Bool) → b || same_kind (shape_of table d) (shape_of table t) ≡ true
    by true = refl
    by false = e

-- The sorts of a type are those of its definition.
abbrev pub SortsLaw : Table → Type 0
SortsLaw table = (t : ℕ) → sorts table t ≡ sorts_of (sorts table) (shape_of table t)

module _ (table : Table) (law : SortsLaw table) where
  one_sorts : (t u : ℕ) → Agree table t u → sorts table t ≡ sorts table u
  one_sorts t u (inl e) = law t ∙ ap (sorts_of (sorts table)) (one_shape table t u e) ∙ sym (law u)
  one_sorts t u (inr e) = law t ∙ kind_sorts (sorts table) (shape_of table t) (shape_of table u) e ∙ sym (law u)

  pub agree_sorts : (t u : ℕ) → Agree table t u → one_type table t u ≡ true
  agree_sorts t u e = subst (λ z. same_sorts table (sorts table t) z ≡ true) (one_sorts t u e) (sorts_same table (sorts table t))

  pointer_sorts : (t d : ℕ) (k n : Bool) → shape_of table t ≡ shape.Access d k n → sorts table t ≡ Pointer d ∷ []
  pointer_sorts t d k n e = law t ∙ ap (sorts_of (sorts table)) e

  pub pointer_is : (t d : ℕ) (k n : Bool) → shape_of table t ≡ shape.Access d k n → is_pointer (sorts table t) ≡ true
  pointer_is t d k n e = ap is_pointer (pointer_sorts t d k n e)

  pub target_is : (t u d : ℕ) (k n : Bool) → shape_of table t ≡ shape.Access d k n → Agree table d u → points_to table u (sorts table t) ≡ true
  target_is t u d k n e agree = subst (λ z. points_to table u z ≡ true) (sym (pointer_sorts t d k n e)) (same_target table d u agree)

  -- access types whose targets agree
  pub view_sorts : (t u d e : ℕ) (k n l m : Bool) → shape_of table t ≡ shape.Access d k n → shape_of table u ≡ shape.Access e l m → Agree table d e
      → one_type table t u ≡ true
  view_sorts t u d e k n l m a b agree =
      subst (λ z. same_sorts table z (sorts table u) ≡ true) (sym (pointer_sorts t d k n a))
      (subst (λ z. same_sorts table (Pointer d ∷ []) z ≡ true) (sym (pointer_sorts u e l m b)) (both_true _ _ (same_target table d e agree) refl))

-- ---- records

pub record_fields : (z : Shape) (i : ℕ) → i < length (components_of z) → is_record z && nat_lt i (field_count z) ≡ true
record_fields (shape.Fields cs) i lt = lt-ltb i (length cs) lt
record_fields (shape.Whole a b) i lt = absurd (omega (arith, lt))
record_fields (shape.Listed k a b) i lt = absurd (omega (arith, lt))
record_fields (shape.Access d k n) i lt = absurd (omega (arith, lt))
record_fields (shape.Elements a b el) i lt = absurd (omega (arith, lt))
record_fields (shape.Same t) i lt = absurd (omega (arith, lt))
