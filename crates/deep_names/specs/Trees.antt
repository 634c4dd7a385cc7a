-- The first names with too many selectors in the points that use a tree.
use Rattle.std.specs.Prelude.{ℕ, Bool, true, false, ◌||◌, List, ◌∷◌, length, Option, None, if◌then◌else◌}
use Rattle.spark_base.specs.declared.position.Pos.{Pos}
use Rattle.place_names.specs.declared.act.Mode.{Mode}
use Rattle.place_names.specs.declared.act.Mode.TheVariants as mode
use Rattle.place_names.specs.Names.{Name as PlaceName}
use Rattle.type_definitions.specs.Types.{parts, is_owning}
use Rattle.typed_tree.specs.Trees.{TypedTree, Name, Component, Designated, Element, Call, Image, Parens, Unary, Binary, Short, IsNull, Aggregate, Alike, New, More}
use Rattle.flow_paths.specs.Objects.{Typing, sub_at, Passing, ByValue, Traversed, Place, passings}
use Rattle.flow_paths.specs.Names.{Written, name_of, written}
use Rattle.deep_names.specs.Found.{earlier_of, name_deep, written_deep, parts_deep, spots_deep}

-- The first names of a tree: of the points before the one that uses it; of these, and of its
-- indexes where it is a name; of these, and of its value. And whether it has a call.
pub record Depths : Type 0 where
  pub calls : Bool
  pub before : Option Pos
  pub indexes : Option Pos
  pub all : Option Pos

abbrev pub no_depths : Depths
no_depths = record { calls = false; before = None; indexes = None; all = None }

-- A part alone, and two parts.
abbrev pub within : Depths → Depths
within a = record { calls = a.calls; before = a.before; indexes = a.before; all = a.all }

abbrev pub both : Depths → Depths → Depths
both a b = record {
  calls = a.calls || b.calls;
  before = earlier_of a.before b.before;
  indexes = earlier_of a.before b.before;
  all = earlier_of a.all b.all;
}

-- A name with these steps.
abbrev pub named : Depths → Option Pos → Depths
named steps own = record { calls = steps.calls; before = steps.before; indexes = steps.all; all = earlier_of steps.all own }

-- A name that is compared with `null`.
abbrev pub looked : Depths → Option Pos → Depths
looked a own = record { calls = a.calls; before = a.before; indexes = a.before; all = earlier_of a.indexes own }

-- What was evaluated at points of its own.
abbrev pub settled : Option Pos → Depths
settled found = record { calls = true; before = found; indexes = found; all = found }

-- With a call on the right, both operands were evaluated before.
abbrev pub either : Depths → Depths → Depths
either a b = record {
  calls = a.calls || b.calls;
  before = if b.calls then earlier_of a.all b.all else earlier_of a.before b.before;
  indexes = if b.calls then earlier_of a.all b.all else earlier_of a.before b.before;
  all = earlier_of a.all b.all;
}

-- A name as a value.
abbrev pub used_deep : Typing → Pos → PlaceName → ℕ → Option Pos
used_deep s p m t =
    if is_owning s.table t then earlier_of (name_deep p m) (parts_deep p (length m.sels) (parts s.table t)) else name_deep p m

-- A name that is an actual, and its leak checks.
abbrev pub place_deep : Typing → Mode → Option Written → Option Pos
place_deep s mode.Out m = earlier_of (written_deep m) (spots_deep s.table m)
place_deep s _ m = written_deep m

abbrev pub actual_deep : Typing → Passing → Option Written → Depths → Option Pos
actual_deep s ByValue m e = e.all
actual_deep s Traversed m e = e.indexes
actual_deep s (Place how owning access) m e = earlier_of e.indexes (place_deep s how m)

unfoldable mutual
  pub depths_in : Typing → TypedTree → Depths
  depths_in s (Name p x steps t) = named (depths_in s steps) (used_deep s p (name_of x steps) t)
  depths_in s (IsNull equal e) = looked (depths_in s e) (written_deep (written e))
  depths_in s (Call p sub actuals) =
      settled (earlier_of (depths_in s actuals).before (actuals_deep s (passings s (sub_at s sub)) actuals))
  depths_in s (Short op p a q b) = either (depths_in s a) (depths_in s b)
  depths_in s (Binary op a b) = both (depths_in s a) (depths_in s b)
  depths_in s (More a b) = both (depths_in s a) (depths_in s b)
  depths_in s (Element a low high b) = both (depths_in s a) (depths_in s b)
  depths_in s (Component i e) = within (depths_in s e)
  depths_in s (Designated e) = within (depths_in s e)
  depths_in s (Image t e) = within (depths_in s e)
  depths_in s (Parens e) = within (depths_in s e)
  depths_in s (Unary op e) = within (depths_in s e)
  depths_in s (Aggregate t e) = within (depths_in s e)
  depths_in s (Alike t e) = within (depths_in s e)
  depths_in s (New t e) = within (depths_in s e)
  depths_in s _ = no_depths

  -- the actuals that are passed in these ways, at the point of their call
  pub actuals_deep : Typing → List Passing → TypedTree → Option Pos
  actuals_deep s (way ∷ ways) (More e rest) =
      earlier_of (actual_deep s way (written e) (depths_in s e)) (actuals_deep s ways rest)
  actuals_deep s _ _ = None

-- What stands at the point of a call, and before it.
abbrev pub call_deep : Typing → ℕ → TypedTree → Option Pos
call_deep s sub actuals = earlier_of (depths_in s actuals).before (actuals_deep s (passings s (sub_at s sub)) actuals)
