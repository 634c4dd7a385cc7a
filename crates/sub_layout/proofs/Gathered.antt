-- What is gathered of the points that code has is what the definitions say of the points that they
-- stand for.
use Rattle.std.proofs.Common.{◌≡◌, ℕ, List, [], ◌∷◌, ◌++◌, map, flat_map, refl, ap, Some, None}
use Rattle.place_names.specs.declared.act.Act.{Act}
use Rattle.typed_tree.specs.Trees.{TypedTree, TypedCode}
use Rattle.typed_tree.specs.Nodes.{TypedNodes, typed_at, typed_code_at}
use Rattle.flow_paths.specs.declared.instr.Instr.{Instr}
use Rattle.flow_paths.specs.declared.instr.Instr.TheVariants as instr
use Rattle.flow_paths.specs.declared.point.Point.{Point}
use Rattle.flow_paths.specs.Instructions.{instruction_of}
use Rattle.flow_paths.specs.Objects.{Typing}
use Rattle.flow_paths.specs.Laid.{facts_of}
use Rattle.flow_paths.specs.Stands.{flow_point_of}
use Rattle.numbered_points.specs.Programs.{acts_at, acts_with, facts_in, filled_type, filled_types, rooted}
use Rattle.sub_summary.specs.Gathered.{acts_of, filled_by, filled_of, point_facts, rooted_acts, rooted_point}
use Rattle.sub_layout.specs.Dressed.{points_in}

-- ---- temporaries

filled_one : (s : Typing) (tree : ℕ → TypedTree) (code : ℕ → TypedCode) (i : Instr) → filled_by s i ≡ filled_type s (instruction_of tree code i)
filled_one s tree code instr.Skip = refl
filled_one s tree code (instr.Declare x v) = refl
filled_one s tree code (instr.Assign a b) = refl
filled_one s tree code (instr.Call n a None) = refl
filled_one s tree code (instr.Call n a (Some t)) = refl
filled_one s tree code (instr.Output a line) = refl
filled_one s tree code (instr.Input a) = refl
filled_one s tree code (instr.Release a) = refl
filled_one s tree code (instr.Test a) = refl
filled_one s tree code (instr.Choose a cs) = refl
filled_one s tree code (instr.Start x r a b) = refl
filled_one s tree code (instr.Next x r a b) = refl
filled_one s tree code (instr.Evaluate t a None) = refl
filled_one s tree code (instr.Evaluate t a (Some op)) = refl
filled_one s tree code (instr.LeaveLoop a) = refl
filled_one s tree code (instr.Hold a) = refl
filled_one s tree code (instr.EndScope x) = refl
filled_one s tree code instr.Finish = refl
filled_one s tree code instr.Fall = refl

pub filled_same : (s : Typing) (rows : TypedNodes) (points : List Point) → filled_of s points ≡ filled_types s (points_in rows points)
filled_same s rows [] = refl
filled_same s rows (p ∷ points) =
    λ i. filled_one s (typed_at rows) (typed_code_at rows) p.instr i ++ filled_same s rows points i

-- ---- facts

acts_same : (rows : TypedNodes) (points : List Point) → flat_map acts_of points ≡ flat_map acts_at (points_in rows points)
acts_same rows [] = refl
acts_same rows (p ∷ points) = ap (λ (l : List Act). acts_of p ++ l) (acts_same rows points)

pub facts_same : (rows : TypedNodes) (points : List Point) → point_facts points ≡ facts_in (points_in rows points)
facts_same rows points = ap facts_of (acts_same rows points)

-- ---- what the end of a call looks at

rooted_one : (tree : ℕ → TypedTree) (code : ℕ → TypedCode) (roots : List ℕ) (p : Point) (i : Instr)
    → rooted_acts roots p i ≡ acts_with roots p.pos (instruction_of tree code i) p.acts
rooted_one tree code roots p instr.Skip = refl
rooted_one tree code roots p (instr.Declare x v) = refl
rooted_one tree code roots p (instr.Assign a b) = refl
rooted_one tree code roots p (instr.Call n a r) = refl
rooted_one tree code roots p (instr.Output a line) = refl
rooted_one tree code roots p (instr.Input a) = refl
rooted_one tree code roots p (instr.Release a) = refl
rooted_one tree code roots p (instr.Test a) = refl
rooted_one tree code roots p (instr.Choose a cs) = refl
rooted_one tree code roots p (instr.Start x r a b) = refl
rooted_one tree code roots p (instr.Next x r a b) = refl
rooted_one tree code roots p (instr.Evaluate t a o) = refl
rooted_one tree code roots p (instr.LeaveLoop a) = refl
rooted_one tree code roots p (instr.Hold a) = refl
rooted_one tree code roots p (instr.EndScope x) = refl
rooted_one tree code roots p instr.Finish = refl
rooted_one tree code roots p instr.Fall = refl

point_rooted : (rows : TypedNodes) (roots : List ℕ) (p : Point) → flow_point_of rows (rooted_point roots p) ≡ rooted roots (flow_point_of rows p)
point_rooted rows roots p =
    λ i. record (flow_point_of rows p) { acts = rooted_one (typed_at rows) (typed_code_at rows) roots p p.instr i }

pub rooted_same : (rows : TypedNodes) (roots : List ℕ) (points : List Point)
    → points_in rows (map (rooted_point roots) points) ≡ map (rooted roots) (points_in rows points)
rooted_same rows roots [] = refl
rooted_same rows roots (p ∷ points) = λ i. point_rooted rows roots p i ∷ rooted_same rows roots points i
