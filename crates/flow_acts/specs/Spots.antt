-- Leak checks, as code lists them.
use Rattle.std.specs.Prelude.{ℕ, Bool, List, [], ◌∷◌, map, length, Option, if◌then◌else◌}
use Rattle.place_names.specs.declared.selector.Sel.TheVariants as sel
use Rattle.place_names.specs.Names.{Name as PlaceName, extend}
use Rattle.type_definitions.specs.Types.{parts}
use Rattle.typed_tree.specs.Trees.{TypedTree}
use Rattle.flow_paths.specs.declared.point.LeakSpot.{LeakSpot}
use Rattle.flow_paths.specs.Objects.{designated}
use Rattle.flow_paths.specs.Objects as objects
use Rattle.flow_paths.specs.Names.{name_of, written}
use Rattle.flow_paths.specs.Acts.{actual_values, before_write, call_spots, designated_spots, index_acts, spot, spots_at}
use Rattle.flow_acts.specs.declared.plan.NameNode.{NameNode}
use Rattle.flow_acts.specs.declared.writer.ActWriter.{ActWriter}
use Rattle.flow_acts.specs.Frames.{site}
use Rattle.flow_acts.specs.Plans.{tree, written_found}

-- What a name names, or what that designates.
abbrev pub looked_at : ActWriter → Bool → NameNode → PlaceName
looked_at w behind n =
    let m : PlaceName = name_of n.object (tree w n.steps) in
    if behind then extend m (sel.Deref ∷ []) else m

abbrev pub looked_type : ActWriter → Bool → ℕ → ℕ
looked_type w behind t = if behind then designated (site w).table t else t

abbrev pub node_spots : ActWriter → Bool → NameNode → ℕ → List LeakSpot
node_spots w behind n before = map (spot n.pos (looked_at w behind n) before) (parts (site w).table (looked_type w behind n.of))

abbrev pub found_spots : ActWriter → Bool → Option NameNode → ℕ → List LeakSpot
found_spots w behind found before =
    if behind then designated_spots (site w) (written_found w found) before else spots_at (site w) (written_found w found) before

-- The leak checks of an assignment, of a call and of a freed name.
abbrev pub assign_spots : ActWriter → TypedTree → TypedTree → List LeakSpot
assign_spots w target e = spots_at (site w) (written target) (length (before_write (site w) target e))

abbrev pub all_call_spots : ActWriter → List objects.Passing → TypedTree → List LeakSpot
all_call_spots w ways actuals = call_spots (site w) ways actuals (length (actual_values (site w) ways actuals))

abbrev pub release_spots : ActWriter → TypedTree → List LeakSpot
release_spots w m = designated_spots (site w) (written m) (length (index_acts (site w) m))
