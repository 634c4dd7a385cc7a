-- What some path of the graph brings to a point is what some control path brings there.
use Rattle.std.proofs.Common.{◌≡◌, refl, sym, ap, ◌∙◌, subst, Bool, ◌==◌, eqb-true, true, ℕ, List, [], ◌∷◌, ◌++◌}
use Rattle.std.proofs.lemmas.List.Sums.{fold-append}
use Rattle.place_names.specs.declared.act.Act.{Act}
use Rattle.place_names.specs.declared.fact.Fact.{Fact}
use Rattle.place_names.specs.Facts.{holds_behind, holds_along}
use Rattle.place_names.proofs.Names.{both_parts}
use Rattle.label_flow.specs.Flows.{IsPath, begins, goes_on, moved_along, Brings}
use Rattle.flow_paths.specs.Paths as paths
use Rattle.flow_paths.specs.Paths.{PathPoint, path_point, is_some_point, ControlPath, acts_at, acts_along}
use Rattle.point_states.specs.PointTrees.{fact_at}
use Rattle.point_states.specs.Labels.{Label, Here, Says, carried, is_first, flow_of}

holds_along-append : (xs ys : List Act) (f : Fact) (held : Bool) → holds_along (xs ++ ys) f held ≡ holds_along ys f (holds_along xs f held)
holds_along-append xs ys f held = fold-append (λ held a. holds_behind a f held) held xs ys

pub carried-append : (facts : List Fact) (xs ys : List Act) (k : Label) → carried facts (xs ++ ys) k ≡ carried facts ys (carried facts xs k)
carried-append facts xs ys Here = refl
carried-append facts xs ys (Says i b) = ap (Says i) (holds_along-append xs ys (fact_at facts i) b)

carried-none : (facts : List Fact) (k : Label) → carried facts [] k ≡ k
carried-none facts Here = refl
carried-none facts (Says i b) = refl

-- a path of the graph makes of a label what its acts make of it
pub moved_is : (points : List PathPoint) (facts : List Fact) (before : List ℕ) (k : Label)
    → moved_along (flow_of points facts) before k ≡ carried facts (acts_along points before) k
moved_is points facts [] k = sym (carried-none facts k)
moved_is points facts (a ∷ before) k =
    ap (carried facts (acts_at points a)) (moved_is points facts before k)
    ∙ sym (carried-append facts (acts_along points before) (acts_at points a) k)

-- paths of the graph from point 0 are control paths
pub path_is : (points : List PathPoint) (facts : List Fact) (before : List ℕ) (p : ℕ) → ControlPath points before p
    → IsPath (flow_of points facts).next 0 before p
path_is points facts before' p' (paths.begins some) = begins
path_is points facts before' p' (paths.goes_on before a b path edge) = goes_on before a b (path_is points facts before a path) edge

pub is_path : (points : List PathPoint) (facts : List Fact) (before : List ℕ) (p : ℕ) → is_some_point points
    → IsPath (flow_of points facts).next 0 before p → ControlPath points before p
is_path points facts before' p' some begins = paths.begins some
is_path points facts before' p' some (goes_on before a b path edge) = paths.goes_on before a b (is_path points facts before a some path) edge

-- a control path that brings a label from the start
pub record Brought (points : List PathPoint) (facts : List Fact) (p : ℕ) (k : Label) : Type 0 where
  pub before : List ℕ
  pub path : ControlPath points before p
  pub label : Label
  pub first : is_first facts label ≡ true
  pub becomes : carried facts (acts_along points before) label ≡ k

pub brings_brought : (points : List PathPoint) (facts : List Fact) (p : ℕ) (k : Label) → is_some_point points
    → Brings (flow_of points facts) p k → Brought points facts p k
brings_brought points facts p k some b =
    let both = both_parts (b.from == 0) (is_first facts b.label) b.first in
    record {
      before = b.before;
      path = is_path points facts b.before p some
          (subst (λ n. IsPath (flow_of points facts).next n b.before p) (eqb-true b.from 0 both.0) b.path);
      label = b.label;
      first = both.1;
      becomes = sym (moved_is points facts b.before b.label) ∙ b.becomes;
    }

pub brought_brings : (points : List PathPoint) (facts : List Fact) (p : ℕ) (k : Label) → Brought points facts p k
    → Brings (flow_of points facts) p k
brought_brings points facts p k b = record {
  from = 0;
  before = b.before;
  path = path_is points facts b.before p b.path;
  label = b.label;
  first = b.first;
  becomes = moved_is points facts b.before b.label ∙ b.becomes;
}
