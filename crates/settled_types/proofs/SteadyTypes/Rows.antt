-- What alike tables say of a type, and one row more.
use Rattle.std.proofs.Common.{◌≡◌, ℕ, zero, suc, ◌≤◌, List, [], ◌∷◌, set, refl, sym, ap, ◌∙◌, arith, Option, Some, None}
use Rattle.std.specs.Prelude.{slice_get}
use Rattle.machine.specs.type_definitions.declared.table.Info.{Info}
use Rattle.machine.specs.type_definitions.declared.table.Shape.{Shape}
use Rattle.machine.specs.type_definitions.declared.table.Shape.TheVariants as shape
use Rattle.machine.specs.type_definitions.Types.{Table, info_found, base, base_found, meant_type, meant_type_found, same_as, shape_found}
use Rattle.machine.specs.type_definitions.Gathered.{meant_by}
use Rattle.settled_types.specs.SteadyTypes.Alike.{outline, Outline, outlined, AreAlike}

pub set_row : {A : Type 0} (xs : List A) (d t : ℕ) (x : A) (Q : Option A → Type 0) → (t ≡ d → Q (Some x)) → Q (slice_get xs t) → Q (slice_get (set xs d x) t)
set_row [] d t x Q new old = old
set_row (y ∷ xs) zero zero x Q new old = new refl
set_row (y ∷ xs) zero (suc t) x Q new old = old
set_row (y ∷ xs) (suc d) zero x Q new old = old
set_row (y ∷ xs) (suc d) (suc t) x Q new old = set_row xs d t x Q (λ same. new (ap suc same)) old

-- ---- what an outline says

abbrev base_of : Option Outline → ℕ
base_of None = 0
base_of (Some x) = x.1

abbrev shape_in : Option Outline → Shape
shape_in None = shape.Fields []
shape_in (Some x) = x.0

abbrev seen_of : Option Outline → Option ℕ
seen_of None = None
seen_of (Some x) = x.2

abbrev meant_in : ℕ → Option Outline → ℕ
meant_in t None = t
meant_in t (Some x) = same_as t x.0

abbrev pub seen_found : Option Info → Option ℕ
seen_found None = None
seen_found (Some i) = i.seen_in

found_base : (o : Option Info) → base_found o ≡ base_of (outlined o)
found_base None = refl
found_base (Some i) = refl

found_seen : (o : Option Info) → seen_found o ≡ seen_of (outlined o)
found_seen None = refl
found_seen (Some i) = refl

pub info_seen : (o : Option Info) → (info_found o).seen_in ≡ seen_found o
info_seen None = refl
info_seen (Some i) = refl

outline_same : (t : ℕ) (s : Shape) → same_as t s ≡ same_as t (outline s)
outline_same t (shape.Whole low high) = refl
outline_same t (shape.Listed literals low high) = refl
outline_same t (shape.Elements low high of) = refl
outline_same t (shape.Access designated constant named) = refl
outline_same t (shape.Fields components) = refl
outline_same t (shape.Same of) = refl

found_meant : (t : ℕ) (o : Option Info) → meant_type_found t o ≡ meant_in t (outlined o)
found_meant t None = refl
found_meant t (Some i) = outline_same t i.shape

pub meant_found : (t : ℕ) (o : Option Info) → meant_by (info_found o).shape t ≡ meant_type_found t o
meant_found t None = refl
meant_found t (Some i) = by i.shape
  where
    by : (s : Shape) → meant_by s t ≡ same_as t s
    by (shape.Whole low high) = refl
    by (shape.Listed literals low high) = refl
    by (shape.Elements low high of) = refl
    by (shape.Access designated constant named) = refl
    by (shape.Fields components) = refl
    by (shape.Same of) = refl

-- what is written as no other type is meant itself
pub meant_own : (t : ℕ) (o : Option Info) → ((of : ℕ) → shape_found o ≡ shape.Same of → ⊥) → meant_type_found t o ≡ t
meant_own t None never = refl
meant_own t (Some i) never = by i.shape never
  where
    by : (s : Shape) → ((of : ℕ) → s ≡ shape.Same of → ⊥) → same_as t s ≡ t
    by (shape.Whole low high) never = refl
    by (shape.Listed literals low high) never = refl
    by (shape.Elements low high of) never = refl
    by (shape.Access designated constant named) never = refl
    by (shape.Fields components) never = refl
    by (shape.Same of) never = absurd (never of refl)

module _ (table other : Table) (alike : AreAlike table other) (t : ℕ) where
  pub base_alike : base table t ≡ base other t
  base_alike = found_base (slice_get table t) ∙ (ap base_of (alike t) ∙ sym (found_base (slice_get other t)))

  pub meant_alike : meant_type table t ≡ meant_type other t
  meant_alike = found_meant t (slice_get table t) ∙ (ap (meant_in t) (alike t) ∙ sym (found_meant t (slice_get other t)))

  pub seen_alike : seen_found (slice_get table t) ≡ seen_found (slice_get other t)
  seen_alike = found_seen (slice_get table t) ∙ (ap seen_of (alike t) ∙ sym (found_seen (slice_get other t)))

-- ---- a row by its parts

abbrev pub row_of : Shape → ℕ → Option ℕ → Option Outline
row_of s b p = Some (s, b, p)

pub by_parts : (s u : Shape) (b d : ℕ) (p q : Option ℕ) → s ≡ u → b ≡ d → p ≡ q → row_of s b p ≡ row_of u d q
by_parts s u b d p q shapes bases seen = ap (λ x. row_of x b p) shapes ∙ (ap (λ x. row_of u x p) bases ∙ ap (λ x. row_of u d x) seen)

-- a row with the definition of one that it is like, where it is based on itself
pub rebuilt : (o other : Option Info) (n : ℕ) (s : Option ℕ) → outlined o ≡ outlined other → base_found o ≡ n → seen_found o ≡ s → 1 ≤ n
    → outlined o ≡ row_of (outline (info_found other).shape) n s
rebuilt None other n s like based seen high = absurd (omega (arith, based, high))
rebuilt (Some i) None n s like based seen high = cc
rebuilt (Some i) (Some j) n s like based seen high =
    by_parts (outline i.shape) (outline j.shape) i.base n i.seen_in s (ap shape_in like) based seen
