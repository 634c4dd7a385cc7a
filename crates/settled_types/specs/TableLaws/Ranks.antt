-- Tables that are fit for runs, by ranks: each type has a higher rank than what it is made of, so that none has
-- itself in it.
use Rattle.std.specs.Prelude.{◌≡◌, ◌<◌, ℕ, Bool, true, false, ◌&&◌, not, List, length, get_or, slice_get, nat_lt, nat_le, Option, Some, None}
use Rattle.std.specs.List.{list_all}
use Rattle.machine.specs.type_definitions.declared.table.Component.{Component}
use Rattle.machine.specs.type_definitions.declared.table.Info.{Info}
use Rattle.machine.specs.type_definitions.declared.table.Shape.{Shape}
use Rattle.machine.specs.type_definitions.declared.table.Shape.TheVariants as shape
use Rattle.machine.specs.type_definitions.declared.judgement.View.{View}
use Rattle.machine.specs.type_definitions.declared.judgement.View.TheVariants as view
use Rattle.machine.specs.type_definitions.Types.{Table, shape_found, full, words}
use Rattle.machine.specs.type_definitions.Entries.{boolean}

-- ---- ranks

abbrev pub rank : List ℕ → ℕ → ℕ
rank ranks t = get_or ranks t 0

abbrev pub is_below : List ℕ → ℕ → ℕ → Bool
is_below ranks r u = nat_lt (rank ranks u) r

-- What a definition is made of is as asked.
abbrev pub shape_all : (ℕ → Bool) → Shape → Bool
shape_all is (shape.Fields components) = list_all (λ (c : Component). is c.of) components
shape_all is (shape.Elements low high element) = is element
shape_all is (shape.Same of) = is of
shape_all is _ = true

abbrev pub parent_all : (ℕ → Bool) → Option ℕ → Bool
parent_all is None = true
parent_all is (Some t) = is t

abbrev pub is_ranked : List ℕ → ℕ → Info → Bool
is_ranked ranks t i = shape_all (is_below ranks (rank ranks t)) i.shape && parent_all (is_below ranks (rank ranks t)) i.parent

-- ---- subtypes without a constraint

abbrev pub is_same_as : Shape → Bool
is_same_as (shape.Same of) = true
is_same_as _ = false

-- What a subtype is the same as is no such subtype.
abbrev pub is_plain : Table → Shape → Bool
is_plain table (shape.Same of) = not (is_same_as (shape_found (slice_get table of)))
is_plain table _ = true

-- ---- tables

abbrev pub fits : Table → List ℕ → ℕ → Option Info → Bool
fits table ranks t None = true
fits table ranks t (Some i) = is_ranked ranks t i && (is_plain table i.shape && nat_le (words table t) 65536)

abbrev pub is_listed : View → Bool
is_listed (view.Listed low high) = true
is_listed _ = false

-- Each type has a rank, is plain and has at most 65,536 words, and Boolean is an enumeration.
pub record IsFit (table : Table) : Type 0 where
  pub ranks : List ℕ
  pub types : (t : ℕ) → t < length table → fits table ranks t (slice_get table t) ≡ true
  pub truth : is_listed (full table boolean) ≡ true
