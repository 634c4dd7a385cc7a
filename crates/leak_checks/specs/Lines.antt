-- The lines of the points of a subprogram, as the trees before its points give them.
use Rattle.std.specs.Prelude.{◌≡◌, Bool, false, not, ◌&&◌, ◌||◌, List, [], ◌∷◌, ◌++◌, map, take, drop, Option, Some, None}
use Rattle.place_names.specs.declared.act.Placed.{Placed}
use Rattle.place_names.specs.declared.fact.Fact.{Fact}
use Rattle.place_names.specs.declared.fact.Fact.TheVariants.{Moved}
use Rattle.place_names.specs.Names.{Name, has_elem}
use Rattle.place_names.specs.Facts.{is_same_fact}
use Rattle.state_trees.specs.FactStates.{FactState, at}
use Rattle.flow_paths.specs.declared.point.LeakSpot.{LeakSpot}
use Rattle.flow_paths.specs.declared.point.Point.{Point}
use Rattle.flow_paths.specs.declared.point.LaidSub.{LaidSub}
use Rattle.flow_paths.specs.declared.report.LeakLine.{LeakLine}
use Rattle.point_states.specs.PointTrees.{path_points_of, IsExact}
use Rattle.point_states.specs.Carries.{state_along, acts_of}
use Rattle.path_reports.specs.Told.{AreKept}

-- A fact is of some list, and no path lacks it.
abbrev pub none_lacks : List Fact → List Bool → Fact → Bool
none_lacks [] lacks f = false
none_lacks (g ∷ facts) lacks f = (is_same_fact g f && not (at lacks 0)) || none_lacks facts (drop 1 lacks) f

abbrev pub always_moved : FactState → Name → Bool
always_moved s m = none_lacks s.facts s.lacks (Moved m)

-- Each path has moved exactly the name of a leak check just before the effect of its act.
abbrev pub excused_at : FactState → List Placed → LeakSpot → Bool
excused_at s acts spot =
    not (has_elem spot.name.sels) && always_moved (state_along (acts_of (take spot.before acts)) s) spot.name

-- Where no path comes, none is excused.
abbrev pub excused_where : Option FactState → List Placed → LeakSpot → Bool
excused_where None acts spot = false
excused_where (Some s) acts spot = excused_at s acts spot

abbrev pub line_of : Option FactState → List Placed → LeakSpot → LeakLine
line_of t acts spot = record { pos = spot.pos; name = spot.name; excused = excused_where t acts spot }

abbrev pub lines_at : Option FactState → Point → List LeakLine
lines_at t p = map (line_of t p.acts) p.leaks

-- Those of all points.
abbrev pub lines_along : List Point → List (Option FactState) → List LeakLine
lines_along [] trees = []
lines_along (p ∷ points) [] = []
lines_along (p ∷ points) (t ∷ trees) = lines_at t p ++ lines_along points trees

-- The lines of a subprogram were added, as trees give them that are exact.
pub record HasLines (sub : LaidSub) (old new : List LeakLine) : Type 0 where
  pub trees : List (Option FactState)
  pub exact : IsExact (path_points_of sub.points) sub.facts trees
  pub kept : AreKept trees
  pub is : new ≡ old ++ lines_along sub.points trees
