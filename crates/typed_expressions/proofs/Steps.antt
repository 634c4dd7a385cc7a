-- Steps after a name, made from the last suffix on.
use Rattle.std.proofs.Common.{◌≡◌, ℕ, suc, ◌+◌, ◌<◌, List, drop, map, length, refl, ap, arith, get_or}
use Rattle.std.proofs.Math.Seq.{drop-cons}
use Rattle.resolved_tree.specs.Trees.{Tree, Number, Text, Null, Named, Parens, Unary, Binary, Aggregate, Others, New, Selected, All, Applied, Attr, Argument, NoMore, More}
use Rattle.resolved_tree.specs.Nodes.{Rows, tree_at}
use Rattle.type_definitions.specs.Names.{step}
use Rattle.type_definitions.specs.Expressions.{next_type}
use Rattle.typed_tree.specs.Expressions.{Site, typed_step, typed_steps}
use Rattle.typed_expressions.specs.declared.names.Station.{Station}
use Rattle.typed_expressions.specs.Stations.{stations, steps_of, station_at}

-- The steps of all suffixes are those of the name.
pub steps_are : (s : Site) (t : ℕ) (tree : Tree) → steps_of s (stations s.context t tree) ≡ typed_steps s t tree
unfolding stations typed_steps
steps_are s t (More a rest) = ap (typed_step s t a) (steps_are s (next_type (step s.context a t)) rest)
steps_are s t (Number p n) = refl
steps_are s t (Text p v) = refl
steps_are s t (Null p) = refl
steps_are s t (Named p d rest) = refl
steps_are s t (Parens p e) = refl
steps_are s t (Unary p op e) = refl
steps_are s t (Binary p op a b) = refl
steps_are s t (Aggregate p args) = refl
steps_are s t (Others p e) = refl
steps_are s t (New p m v) = refl
steps_are s t (Selected w) = refl
steps_are s t All = refl
steps_are s t (Applied args) = refl
steps_are s t (Attr a) = refl
steps_are s t (Argument w e rest) = refl
steps_are s t NoMore = refl

-- One more in front.
pub station_step : (s : Site) (rows : Rows) (found : List Station) (i j : ℕ) (d : Station) → i < length found → j ≡ i + 1
    → steps_of s (map (station_at rows) (drop i found))
    ≡ typed_step s (get_or found i d).of (tree_at rows (get_or found i d).suffix) (steps_of s (map (station_at rows) (drop j found)))
station_step s rows found i j d lt e =
    let e : j ≡ suc i = omega (arith, e) in
    rw (drop-cons found i d lt) (rw e refl)
