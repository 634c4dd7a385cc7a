-- The points with the acts of calls are those that the paths of a program go through.
use Rattle.std.proofs.Common.{◌≡◌, refl, sym, subst, inl, inr, ℕ, zero, suc, Bool, true, false, List, [], ◌∷◌, ◌++◌, map, drop, Option, None}
use Rattle.std.proofs.lemmas.List.{map-append}
use Rattle.spark_base.specs.Lists.{Has}
use Rattle.spark_base.proofs.Lists.{Has-append_cases}
use Rattle.spark_base.specs.declared.position.Pos.{Pos}
use Rattle.place_names.specs.declared.act.Act.{Act}
use Rattle.place_names.specs.declared.act.Placed.{Placed}
use Rattle.place_names.specs.declared.fact.Fact.{Fact}
use Rattle.place_names.specs.Facts.{adds}
use Rattle.place_names.specs.Names.{Name}
use Rattle.place_names.specs.Reports.{Report}
use Rattle.report_lists.specs.PrintedReports.{Printed}
use Rattle.report_lists.specs.Gains.{Gains, put_told}
use Rattle.report_lists.proofs.Gained.{gains_put, gains_same}
use Rattle.typed_tree.specs.Nodes.{TypedNodes, typed_at, typed_code_at}
use Rattle.typed_tree.specs.declared.object.Object.{Object}
use Rattle.flow_paths.specs.declared.instr.Instr.{Instr}
use Rattle.flow_paths.specs.declared.instr.Instr.TheVariants as instr
use Rattle.flow_paths.specs.declared.point.Point.{Point}
use Rattle.flow_paths.specs.declared.point.LaidSub.{LaidSub}
use Rattle.flow_paths.specs.declared.report.Effects.{Effects}
use Rattle.flow_paths.specs.Instructions.{instruction_of}
use Rattle.flow_paths.specs.Acts.{placed}
use Rattle.flow_paths.specs.Points.{FlowPoint}
use Rattle.flow_paths.specs.Laid.{FlowProgram}
use Rattle.flow_paths.specs.Stands.{flow_point_of, flow_sub_of}
use Rattle.flow_paths.specs.Effects.{is_in, global_act, globals_from, read_by, written_by, called_acts, all_acts, path_points}
use Rattle.flow_paths.specs.Paths.{acts_at, PathReport}
use Rattle.state_trees.specs.FactStates.{FactState}
use Rattle.point_states.specs.PointTrees.{path_points_of, IsExact}
use Rattle.point_states.specs.Carries.{acts_of}
use Rattle.point_states.proofs.Globals.{exact_on_paths}
use Rattle.path_reports.specs.CalledPoints.{called_by, called_points, AreListed}
use Rattle.path_reports.specs.Told.{told_all, AreKept}
use Rattle.path_reports.specs.Uses.{all_told}
use Rattle.path_reports.proofs.ToldExact.{path_from, path_to}
use Rattle.path_reports.proofs.CalledTold.{same_all}

-- ---- the points of a program

called_is : (program : FlowProgram) (effects : Effects) (rows : TypedNodes) (pos : Pos) (i : Instr)
    → called_by program.objects effects pos i ≡ called_acts program effects pos (instruction_of (typed_at rows) (typed_code_at rows) i)
called_is program effects rows pos instr.Skip = refl
called_is program effects rows pos (instr.Declare x v) = refl
called_is program effects rows pos (instr.Assign target source) = refl
called_is program effects rows pos (instr.Call sub actuals result) = refl
called_is program effects rows pos (instr.Output text line) = refl
called_is program effects rows pos (instr.Input target) = refl
called_is program effects rows pos (instr.Release m) = refl
called_is program effects rows pos (instr.Test e) = refl
called_is program effects rows pos (instr.Choose e choices) = refl
called_is program effects rows pos (instr.Start x reversed low high) = refl
called_is program effects rows pos (instr.Next x reversed low high) = refl
called_is program effects rows pos (instr.Evaluate t e left) = refl
called_is program effects rows pos (instr.LeaveLoop e) = refl
called_is program effects rows pos (instr.Hold v) = refl
called_is program effects rows pos (instr.EndScope x) = refl
called_is program effects rows pos instr.Finish = refl
called_is program effects rows pos instr.Fall = refl

on_paths : (program : FlowProgram) (effects : Effects) (rows : TypedNodes) (points : List Point) → called_points program.objects effects points
    ≡ map (λ (p : FlowPoint). record { acts = all_acts program effects p; next = p.next }) (map (flow_point_of rows) points)
on_paths program effects rows [] = refl
on_paths program effects rows (p ∷ points) =
    let rest = on_paths program effects rows points in
    λ i. record { acts = p.acts ++ called_is program effects rows p.pos p.instr i; next = p.next } ∷ rest i

pub called_path_points : (program : FlowProgram) (effects : Effects) (rows : TypedNodes) (sub : LaidSub)
    → called_points program.objects effects sub.points ≡ path_points program effects (flow_sub_of rows sub)
called_path_points program effects rows sub = on_paths program effects rows sub.points

-- ---- exactness

-- acts on package objects go by nothing but the objects
abbrev some_program : List Object → FlowProgram
some_program objects = record { table = []; objects = objects; scopes = []; subs = []; main = None }

abbrev some_sub : List Point → LaidSub
some_sub points = record {
  pos = record { file = 0; line = 1; column = 1 };
  object_words = 0;
  formals = [];
  result = None;
  points = points;
  facts = [];
}

exact_called : (objects : List Object) (effects : Effects) (points : List Point) (facts : List Fact) (trees : List (Option FactState))
    → IsExact (path_points_of points) facts trees → IsExact (called_points objects effects points) facts trees
exact_called objects effects points facts trees e =
    subst (λ l. IsExact l facts trees) (sym (called_path_points (some_program objects) effects ([], []) (some_sub points)))
    (exact_on_paths (some_program objects) effects ([], []) (some_sub points) facts trees e)

-- ---- what acts add

adds_none : (g : ℕ) (read written : Bool) (a : Act) (f : Fact) → Has (global_act g read written) a → Has (adds a) f → ⊥
adds_none g read true a f h new = elim h [
  | inl e ↦ subst (λ b. Has (adds b) f) (sym e) new
  | inr none ↦ none
]
adds_none g true false a f h new = elim h [
  | inl e ↦ subst (λ b. Has (adds b) f) (sym e) new
  | inr none ↦ none
]
adds_none g false false a f h new = h

globals_add : (n : ℕ) (objects : List Object) (read written : List ℕ) (a : Act) (f : Fact) → Has (globals_from n objects read written) a → Has (adds a) f → ⊥
globals_add n [] read written a f h new = h
globals_add n (x ∷ objects) read written a f h new =
    elim (Has-append_cases (global_act n (is_in n read) (is_in n written)) (globals_from (suc n) objects read written) a h) [
      | inl one ↦ adds_none n (is_in n read) (is_in n written) a f one new
      | inr more ↦ globals_add (suc n) objects read written a f more new
    ]

placed_has : (pos : Pos) (acts : List Act) (a : Act) → Has (acts_of (map (placed pos) acts)) a → Has acts a
placed_has pos [] a h = h
placed_has pos (b ∷ acts) a h = elim h [ inl e ↦ inl e | inr more ↦ inr (placed_has pos acts a more) ]

called_add : (objects : List Object) (effects : Effects) (pos : Pos) (i : Instr) (a : Act) (f : Fact) → Has (acts_of (called_by objects effects pos i)) a
    → Has (adds a) f → ⊥
called_add objects effects pos (instr.Call sub actuals result) a f h new =
    globals_add 1 (drop 1 objects) (read_by effects sub) (written_by effects sub) a f
    (placed_has pos (globals_from 1 (drop 1 objects) (read_by effects sub) (written_by effects sub)) a h) new
called_add objects effects pos instr.Skip a f h new = h
called_add objects effects pos (instr.Declare x v) a f h new = h
called_add objects effects pos (instr.Assign target source) a f h new = h
called_add objects effects pos (instr.Output text line) a f h new = h
called_add objects effects pos (instr.Input target) a f h new = h
called_add objects effects pos (instr.Release m) a f h new = h
called_add objects effects pos (instr.Test e) a f h new = h
called_add objects effects pos (instr.Choose e choices) a f h new = h
called_add objects effects pos (instr.Start x reversed low high) a f h new = h
called_add objects effects pos (instr.Next x reversed low high) a f h new = h
called_add objects effects pos (instr.Evaluate t e left) a f h new = h
called_add objects effects pos (instr.LeaveLoop e) a f h new = h
called_add objects effects pos (instr.Hold v) a f h new = h
called_add objects effects pos (instr.EndScope x) a f h new = h
called_add objects effects pos instr.Finish a f h new = h
called_add objects effects pos instr.Fall a f h new = h

own_act : (objects : List Object) (effects : Effects) (points : List Point) (p : ℕ) (a : Act) (f : Fact)
    → Has (acts_at (called_points objects effects points) p) a → Has (adds a) f → Has (acts_at (path_points_of points) p) a
own_act objects effects [] p a f h new = h
own_act objects effects (x ∷ points) zero a f h new =
    let called = called_by objects effects x.pos x.instr in
    elim (Has-append_cases (acts_of x.acts) (acts_of called) a (subst (λ l. Has l a) (map-append (λ (placed : Placed). placed.act) x.acts called) h)) [
      | inl own ↦ own
      | inr more ↦ absurd (called_add objects effects x.pos x.instr a f more new)
    ]
own_act objects effects (x ∷ points) (suc p) a f h new = own_act objects effects points p a f h new

listed_called : (objects : List Object) (effects : Effects) (points : List Point) (facts : List Fact) → AreListed facts (path_points_of points)
    → AreListed facts (called_points objects effects points)
listed_called objects effects points facts listed p a f h new = listed p a f (own_act objects effects points p a f h new) new

-- ---- the reports

reports_from : (objects : List Object) (effects : Effects) (points : List Point) (facts : List Fact) (trees : List (Option FactState))
    → IsExact (path_points_of points) facts trees → AreKept trees → AreListed facts (path_points_of points)
    → (r : Report) → Has (told_all (called_points objects effects points) trees) r → PathReport (called_points objects effects points) r
reports_from objects effects points facts trees exact kept listed r h =
    path_from (called_points objects effects points) facts trees r (exact_called objects effects points facts trees exact) kept
    (listed_called objects effects points facts listed) h

reports_to : (objects : List Object) (effects : Effects) (points : List Point) (facts : List Fact) (trees : List (Option FactState))
    → IsExact (path_points_of points) facts trees → AreKept trees → AreListed facts (path_points_of points)
    → (r : Report) → PathReport (called_points objects effects points) r → Has (told_all (called_points objects effects points) trees) r
reports_to objects effects points facts trees exact kept listed r q =
    path_to (called_points objects effects points) facts trees r (exact_called objects effects points facts trees exact) kept
    (listed_called objects effects points facts listed) q

-- all of them were put in
pub all_gained : (printed : Name → List ℕ) (objects : List Object) (effects : Effects) (points : List Point) (facts : List Fact)
    (trees : List (Option FactState)) (old new : List Printed) → IsExact (path_points_of points) facts trees → AreKept trees
    → AreListed facts (path_points_of points) → new ≡ put_told printed old (all_told objects effects points trees)
    → Gains printed (PathReport (called_points objects effects points)) old new
all_gained printed objects effects points facts trees old new exact kept listed is =
    let reports = all_told objects effects points trees in
    let same = same_all objects effects points trees in
    gains_same printed (Has reports) (PathReport (called_points objects effects points)) old new
    (λ r h. reports_from objects effects points facts trees exact kept listed r ((same r).0 h))
    (λ r q. (same r).1 (reports_to objects effects points facts trees exact kept listed r q))
    (subst (Gains printed (Has reports) old) (sym is) (gains_put printed reports old))
