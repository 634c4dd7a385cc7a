-- What full views tell of definitions, and sorts of types.
use Rattle.std.proofs.Common.{◌≡◌, refl, sym, ap, ◌∙◌, ℕ, Bool, true, false, ◌&&◌, ◌||◌, List, [], ◌∷◌, Option, Some, None, pos}
use Rattle.std.proofs.lemmas.Bool.{eq-eqb}
use Rattle.type_definitions.specs.declared.table.Shape.{Shape}
use Rattle.type_definitions.specs.declared.table.Shape.TheVariants as shape
use Rattle.type_definitions.specs.declared.judgement.View.{View}
use Rattle.type_definitions.specs.declared.judgement.View.TheVariants as view
use Rattle.type_definitions.specs.declared.table.Info.{Info}
use Rattle.type_definitions.specs.Types.{Table, shape_found, shape_of, same_as, meant_type, meant_type_found, span, view_of}
use Rattle.machine.specs.Typed.{Sort, Whole, Position, Pointer, sorts, sorts_of, same_kind, same_sort, same_sorts, same_designated, designates, has_bounds, is_array, is_pointer, points_to}
use Rattle.machine.specs.Words.{count_of, element_of}
use Rattle.type_definitions.specs.Entries.{integer}
use Rattle.std.specs.Prelude.{ℤ, slice_get}
use Rattle.std.specs.Ordering.{int_eq}
use Rattle.run_codes.specs.Lowered.{sort_of, scalar_of, Scalar, one_type}
use Rattle.type_sorts.specs.Sorted.{AreSorted}

pub some_same : {A : Type 0} (a b : A) → Some a ≡ Some b → a ≡ b
some_same a b e = cc

abbrev pub sort_of_view : View → Option Sort
sort_of_view (view.Whole low high) = Some Whole
sort_of_view (view.Listed low high) = Some Position
sort_of_view (view.Access d constant named) = Some (Pointer d)
sort_of_view _ = None

pub sort_viewed : (s : Shape) → sort_of s ≡ sort_of_view (view_of s)
sort_viewed (shape.Whole low high) = refl
sort_viewed (shape.Listed literals low high) = refl
sort_viewed (shape.Access d constant named) = refl
sort_viewed (shape.Fields components) = refl
sort_viewed (shape.Elements low high element) = refl
sort_viewed (shape.Same of) = refl

abbrev pub scalar_of_view : View → Option Scalar
scalar_of_view (view.Whole low high) = Some (record { sort = Whole; low = low; high = high })
scalar_of_view (view.Listed low high) = Some (record { sort = Position; low = pos low; high = pos high })
scalar_of_view _ = None

pub scalar_viewed : (s : Shape) → scalar_of s ≡ scalar_of_view (view_of s)
scalar_viewed (shape.Whole low high) = refl
scalar_viewed (shape.Listed literals low high) = refl
scalar_viewed (shape.Access d constant named) = refl
scalar_viewed (shape.Fields components) = refl
scalar_viewed (shape.Elements low high element) = refl
scalar_viewed (shape.Same of) = refl

abbrev pub kind_of_views : View → View → Bool
kind_of_views (view.Whole a b) (view.Whole c d) = true
kind_of_views (view.Listed a b) (view.Listed c d) = true
kind_of_views _ _ = false

pub kind_viewed : (s t : Shape) → same_kind s t ≡ kind_of_views (view_of s) (view_of t)
kind_viewed (shape.Whole a b) (shape.Whole c d) = refl
kind_viewed (shape.Whole a b) (shape.Listed l c d) = refl
kind_viewed (shape.Whole a b) (shape.Access d constant named) = refl
kind_viewed (shape.Whole a b) (shape.Fields components) = refl
kind_viewed (shape.Whole a b) (shape.Elements low high element) = refl
kind_viewed (shape.Whole a b) (shape.Same of) = refl
kind_viewed (shape.Listed k a b) (shape.Whole c d) = refl
kind_viewed (shape.Listed k a b) (shape.Listed l c d) = refl
kind_viewed (shape.Listed k a b) (shape.Access d constant named) = refl
kind_viewed (shape.Listed k a b) (shape.Fields components) = refl
kind_viewed (shape.Listed k a b) (shape.Elements low high element) = refl
kind_viewed (shape.Listed k a b) (shape.Same of) = refl
kind_viewed (shape.Access d constant named) t = refl
kind_viewed (shape.Fields components) t = refl
kind_viewed (shape.Elements low high element) t = refl
kind_viewed (shape.Same of) t = refl

-- ---- sorts of types

-- The words of a subtype without a constraint have the sorts of what it is a subtype of.
sorts_same_as : (table : Table) (t : ℕ) (s : Shape) → AreSorted table → shape_found (slice_get table t) ≡ s → sorts table t ≡ sorts table (same_as t s)
sorts_same_as table t (shape.Same of) laws is = laws t ∙ ap (sorts_of (sorts table)) is
sorts_same_as table t (shape.Whole low high) laws is = refl
sorts_same_as table t (shape.Listed literals low high) laws is = refl
sorts_same_as table t (shape.Access d constant named) laws is = refl
sorts_same_as table t (shape.Fields components) laws is = refl
sorts_same_as table t (shape.Elements low high element) laws is = refl

sorts_found : (table : Table) (t : ℕ) (o : Option Info) → AreSorted table → slice_get table t ≡ o → sorts table t ≡ sorts table (meant_type_found t o)
sorts_found table t None laws is = refl
sorts_found table t (Some i) laws is = sorts_same_as table t i.shape laws (ap shape_found is)

meant_sorts : (table : Table) (t : ℕ) → AreSorted table → sorts table t ≡ sorts table (meant_type table t)
meant_sorts table t laws = sorts_found table t (slice_get table t) laws refl

pub meant_law : (table : Table) (t u : ℕ) → AreSorted table → meant_type table t ≡ meant_type table u → sorts table t ≡ sorts table u
meant_law table t u laws same = meant_sorts table t laws ∙ (ap (sorts table) same ∙ sym (meant_sorts table u laws))

sort_law : (f : ℕ → List Sort) (s : Shape) (o : Sort) → sort_of s ≡ Some o → sorts_of f s ≡ o ∷ []
sort_law f (shape.Whole low high) o is = ap (λ a. a ∷ []) (some_same Whole o is)
sort_law f (shape.Listed literals low high) o is = ap (λ a. a ∷ []) (some_same Position o is)
sort_law f (shape.Access d constant named) o is = ap (λ a. a ∷ []) (some_same (Pointer d) o is)
sort_law f s o is = cc

-- Those of a scalar or access type are one word.
pub one_law : (table : Table) (t : ℕ) (s : Sort) → AreSorted table → sort_of (shape_of table t) ≡ Some s → sorts table t ≡ s ∷ []
one_law table t s laws is = meant_sorts table t laws ∙ (laws (meant_type table t) ∙ sort_law (sorts table) (shape_of table t) s is)

both_true : (a b : Bool) → a ≡ true → b ≡ true → a && b ≡ true
both_true a b e f = ap (λ x. x && b) e ∙ f

sort_same : (table : Table) (a : Sort) → same_sort table a a ≡ true
sort_same table Whole = refl
sort_same table Position = refl
sort_same table (Pointer d) = ap (λ x. x || same_kind (shape_of table d) (shape_of table d)) (eq-eqb (meant_type table d) (meant_type table d) refl)

sorts_same : (table : Table) (a : List Sort) → same_sorts table a a ≡ true
sorts_same table [] = refl
sorts_same table (x ∷ a) = both_true _ _ (sort_same table x) (sorts_same table a)

-- Types of one word each have one sort.
pub one_sort : (table : Table) (a b : ℕ) (s t : Sort) → AreSorted table → sort_of (shape_of table a) ≡ Some s → sort_of (shape_of table b) ≡ Some t
    → same_sort table s t ≡ true → one_type table a b ≡ true
one_sort table a b s t laws of_a of_b same =
    ap (λ x. same_sorts table x (sorts table b)) (one_law table a s laws of_a)
    ∙ (ap (λ y. same_sorts table (s ∷ []) y) (one_law table b t laws of_b) ∙ both_true _ _ same refl)

-- Types that mean one have its sorts.
pub one_meant : (table : Table) (a b : ℕ) → AreSorted table → meant_type table a ≡ meant_type table b → one_type table a b ≡ true
one_meant table a b laws same = ap (λ x. same_sorts table x (sorts table b)) (meant_law table a b laws same) ∙ sorts_same table (sorts table b)

-- ---- what steps go to

abbrev pub designates_view : View → Option ℕ
designates_view (view.Access d constant named) = Some d
designates_view _ = None

pub designates_viewed : (s : Shape) → designates s ≡ designates_view (view_of s)
designates_viewed (shape.Whole low high) = refl
designates_viewed (shape.Listed literals low high) = refl
designates_viewed (shape.Access d constant named) = refl
designates_viewed (shape.Fields components) = refl
designates_viewed (shape.Elements low high element) = refl
designates_viewed (shape.Same of) = refl

abbrev pub bounds_view : ℤ → ℤ → View → Bool
bounds_view low high (view.Elements first last element) = int_eq low first && int_eq high last
bounds_view low high _ = false

pub bounds_viewed : (low high : ℤ) (s : Shape) → has_bounds low high s ≡ bounds_view low high (view_of s)
bounds_viewed low high (shape.Whole a b) = refl
bounds_viewed low high (shape.Listed literals a b) = refl
bounds_viewed low high (shape.Access d constant named) = refl
bounds_viewed low high (shape.Fields components) = refl
bounds_viewed low high (shape.Elements a b element) = refl
bounds_viewed low high (shape.Same of) = refl

abbrev pub element_view : View → ℕ
element_view (view.Elements first last element) = element
element_view _ = integer

pub element_viewed : (s : Shape) → element_of s ≡ element_view (view_of s)
element_viewed (shape.Whole a b) = refl
element_viewed (shape.Listed literals a b) = refl
element_viewed (shape.Access d constant named) = refl
element_viewed (shape.Fields components) = refl
element_viewed (shape.Elements a b element) = refl
element_viewed (shape.Same of) = refl

abbrev pub array_view : View → Bool
array_view (view.Elements first last element) = true
array_view _ = false

pub array_viewed : (s : Shape) → is_array s ≡ array_view (view_of s)
array_viewed (shape.Whole a b) = refl
array_viewed (shape.Listed literals a b) = refl
array_viewed (shape.Access d constant named) = refl
array_viewed (shape.Fields components) = refl
array_viewed (shape.Elements a b element) = refl
array_viewed (shape.Same of) = refl

abbrev pub count_view : View → ℕ
count_view (view.Elements first last element) = span first last
count_view _ = 0

pub count_viewed : (s : Shape) → count_of s ≡ count_view (view_of s)
count_viewed (shape.Whole a b) = refl
count_viewed (shape.Listed literals a b) = refl
count_viewed (shape.Access d constant named) = refl
count_viewed (shape.Fields components) = refl
count_viewed (shape.Elements a b element) = refl
count_viewed (shape.Same of) = refl

-- ---- access types

-- The words of an access type are one access value.
pub pointer_one : (table : Table) (t d : ℕ) → AreSorted table → sort_of (shape_of table t) ≡ Some (Pointer d) → is_pointer (sorts table t) ≡ true
pointer_one table t d laws of = ap is_pointer (one_law table t (Pointer d) laws of)

pub pointed_one : (table : Table) (t want d : ℕ) → AreSorted table → sort_of (shape_of table want) ≡ Some (Pointer d)
    → same_designated table d t ≡ true → points_to table t (sorts table want) ≡ true
pointed_one table t want d laws of same = ap (points_to table t) (one_law table want (Pointer d) laws of) ∙ same
