-- Where the trees of a subprogram are exact, a leak check is excused exactly where its tree says so.
use Rattle.std.proofs.Common.{◌≡◌, refl, sym, ◌∙◌, subst, inl, inr, ℕ, zero, suc, not, IsTrue, List, [], ◌∷◌, take, Option, Some, None}
use Rattle.std.specs.Prelude.{◌↔◌}
use Rattle.spark_base.specs.Lists.{Has}
use Rattle.place_names.specs.declared.act.Act.{Act}
use Rattle.place_names.specs.declared.act.Placed.{Placed}
use Rattle.place_names.specs.declared.fact.Fact.{Fact}
use Rattle.place_names.specs.declared.fact.Fact.TheVariants.{Moved}
use Rattle.place_names.specs.Names.{has_elem}
use Rattle.place_names.specs.Facts.{adds, facts_behind}
use Rattle.place_names.proofs.Facts.{facts_behind-append}
use Rattle.place_names.proofs.Names.{both_parts, both_true}
use Rattle.state_trees.specs.FactStates.{FactState}
use Rattle.typed_tree.specs.Nodes.{TypedNodes}
use Rattle.flow_paths.specs.declared.report.Effects.{Effects}
use Rattle.flow_paths.specs.declared.point.Point.{Point}
use Rattle.flow_paths.specs.declared.point.LeakSpot.{LeakSpot}
use Rattle.flow_paths.specs.declared.point.LaidSub.{LaidSub}
use Rattle.flow_paths.specs.Laid.{FlowProgram}
use Rattle.flow_paths.specs.Stands.{flow_sub_of}
use Rattle.flow_paths.specs.Effects.{path_points}
use Rattle.flow_paths.specs.Paths.{PathPoint, path_point, acts_along, facts_within}
use Rattle.flow_paths.specs.LeakPlan.{IsExcused}
use Rattle.point_states.specs.PointTrees.{path_points_of, tree_at, IsExact}
use Rattle.point_states.specs.Carries.{state_along, acts_of}
use Rattle.point_states.proofs.Globals.{exact_on_paths}
use Rattle.path_reports.specs.CalledPoints.{AreListed}
use Rattle.path_reports.specs.Told.{IsKeptWhere, AreKept}
use Rattle.leak_checks.specs.Lines.{always_moved, excused_where}
use Rattle.leak_checks.proofs.CalledActs.{flow_paths_of, own_front, listed_on_paths}
use Rattle.leak_checks.proofs.Along.{IsKnown, have-decides}

has_front : (n : ℕ) (acts : List Placed) (a : Act) → Has (acts_of (take n acts)) a → Has (acts_of acts) a
has_front zero acts a h = absurd h
has_front (suc n) [] a h = h
has_front (suc n) (b ∷ acts) a h = elim h [ inl e ↦ inl e | inr more ↦ inr (has_front n acts a more) ]

-- the first own acts of a point
abbrev own_acts : List Point → ℕ → ℕ → List Placed
own_acts points p n = take n (path_point (path_points_of points) p).acts

front_within : (program : FlowProgram) (effects : Effects) (rows : TypedNodes) (points : List Point) (p n : ℕ) (before : List ℕ)
    → facts_within (flow_paths_of program effects rows points) before (take n (path_point (flow_paths_of program effects rows points) p).acts)
    ≡ facts_within (flow_paths_of program effects rows points) before (own_acts points p n)
front_within program effects rows points p n before =
    let all : List PathPoint = flow_paths_of program effects rows points in
    let along : List Act = acts_along all before in
    facts_behind-append [] along (acts_of (take n (path_point all p).acts))
    ∙ own_front program effects rows points p n (facts_behind [] along)
    ∙ sym (facts_behind-append [] along (acts_of (own_acts points p n)))

pub excused_is : (program : FlowProgram) (effects : Effects) (rows : TypedNodes) (sub : LaidSub) (trees : List (Option FactState))
    → IsExact (path_points_of sub.points) sub.facts trees → AreKept trees → AreListed sub.facts (path_points_of sub.points) → (p : ℕ) (spot : LeakSpot)
    → IsTrue (excused_where (tree_at trees p) (path_point (path_points_of sub.points) p).acts spot)
    ↔ IsExcused (path_points program effects (flow_sub_of rows sub)) p spot
excused_is program effects rows sub trees exact kept listed p spot = from (tree_at trees p) refl
  where
    all : List PathPoint
    all = path_points program effects (flow_sub_of rows sub)

    own : List Placed
    own = (path_point (path_points_of sub.points) p).acts

    f : Fact
    f = Moved spot.name

    exact_on : IsExact all sub.facts trees
    exact_on = exact_on_paths program effects rows sub sub.facts trees exact

    known : (s : FactState) → tree_at trees p ≡ Some s → IsKnown all sub.facts p s
    known s is = record {
      exact = exact_on.some p s is;
      kept = subst IsKeptWhere is (kept p);
      reached = exact_on.reached p s is;
      listed = listed_on_paths program effects rows sub.points sub.facts listed;
    }

    added : (a : Act) (g : Fact) → Has (acts_of (take spot.before own)) a → Has (adds a) g → Has sub.facts g
    added a g has new = listed p a g (has_front spot.before own a has) new

    within : (before : List ℕ) → facts_within all before (take spot.before (path_point all p).acts) ≡ facts_within all before (take spot.before own)
    within before = front_within program effects rows sub.points p spot.before before

    from : (t : Option FactState) → tree_at trees p ≡ t → IsTrue (excused_where t own spot) ↔ IsExcused all p spot
    from None is = (λ e. cc, λ x. absurd (exact_on.none p is x.reached))
    from (Some s) is =
        let d = have-decides all sub.facts p s (take spot.before own) f (known s is) added in (
          λ e.
              let both = both_parts (not (has_elem spot.name.sels)) (always_moved (state_along (acts_of (take spot.before own)) s) spot.name) e in
              record {
                definite = both.0;
                reached = exact_on.reached p s is;
                moved = λ before path. subst (λ l. Has l f) (sym (within before)) (d.0 both.1 before path);
              },
          λ x.
              both_true (not (has_elem spot.name.sels)) (always_moved (state_along (acts_of (take spot.before own)) s) spot.name) x.definite
              (d.1 (λ before path. subst (λ l. Has l f) (within before) (x.moved before path))),
        )
