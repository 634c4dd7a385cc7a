-- The acts of a call on package objects add no fact and remove none, so a leak check sees what the
-- acts of its own point leave.
use Rattle.std.proofs.Common.{◌≡◌, refl, sym, ap, ◌∙◌, subst, inl, inr, ℕ, zero, suc, Bool, true, false, List, [], ◌∷◌, ◌++◌, map, take, drop}
use Rattle.std.proofs.lemmas.List.{map-append}
use Rattle.spark_base.specs.Lists.{Has}
use Rattle.spark_base.proofs.Lists.{Has-append_cases}
use Rattle.spark_base.specs.declared.position.Pos.{Pos}
use Rattle.place_names.specs.declared.act.Act.{Act}
use Rattle.place_names.specs.declared.act.Placed.{Placed}
use Rattle.place_names.specs.declared.fact.Fact.{Fact}
use Rattle.place_names.specs.Facts.{adds, effect, facts_behind}
use Rattle.typed_tree.specs.Nodes.{TypedNodes}
use Rattle.typed_tree.specs.declared.object.Object.{Object}
use Rattle.flow_paths.specs.declared.report.Effects.{Effects}
use Rattle.flow_paths.specs.declared.point.Point.{Point}
use Rattle.flow_paths.specs.Instructions.{Instruction, Skip, Declare, Assign, Call, Output, Input, Release, Test, Choose, Start, Next, Evaluate, LeaveLoop, Hold, EndScope, Finish, Fall}
use Rattle.flow_paths.specs.Acts.{placed}
use Rattle.flow_paths.specs.Points.{FlowPoint}
use Rattle.flow_paths.specs.Laid.{FlowProgram}
use Rattle.flow_paths.specs.Stands.{flow_point_of}
use Rattle.flow_paths.specs.Effects.{is_in, global_act, globals_from, read_by, written_by, called_acts, all_acts}
use Rattle.flow_paths.specs.Paths.{PathPoint, path_point, acts_at}
use Rattle.point_states.specs.PointTrees.{path_points_of}
use Rattle.point_states.specs.Carries.{acts_of}
use Rattle.point_states.proofs.Globals.{AreGlobal, globals_change_nothing}
use Rattle.path_reports.specs.CalledPoints.{AreListed}

-- ---- the acts of a call

global_one : (g : ℕ) (read written : Bool) (rest : List Act) → AreGlobal rest → AreGlobal (global_act g read written ++ rest)
global_one g read true rest all = (record { object = g; written = true; is = refl }, all)
global_one g true false rest all = (record { object = g; written = false; is = refl }, all)
global_one g false false rest all = all

globals_global : (n : ℕ) (objects : List Object) (read written : List ℕ) → AreGlobal (globals_from n objects read written)
globals_global n [] read written = tt
globals_global n (x ∷ objects) read written =
    global_one n (is_in n read) (is_in n written) (globals_from (suc n) objects read written) (globals_global (suc n) objects read written)

placed_acts : (pos : Pos) (acts : List Act) → acts_of (map (placed pos) acts) ≡ acts
placed_acts pos [] = refl
placed_acts pos (a ∷ acts) = ap (λ l. a ∷ l) (placed_acts pos acts)

called_global : (program : FlowProgram) (effects : Effects) (pos : Pos) (i : Instruction) → AreGlobal (acts_of (called_acts program effects pos i))
called_global program effects pos (Call sub actuals result) =
    let globals = globals_from 1 (drop 1 program.objects) (read_by effects sub) (written_by effects sub) in
    subst AreGlobal (sym (placed_acts pos globals)) (globals_global 1 (drop 1 program.objects) (read_by effects sub) (written_by effects sub))
called_global program effects pos Skip = tt
called_global program effects pos (Declare x v) = tt
called_global program effects pos (Assign target source) = tt
called_global program effects pos (Output text line) = tt
called_global program effects pos (Input target) = tt
called_global program effects pos (Release m) = tt
called_global program effects pos (Test e) = tt
called_global program effects pos (Choose e choices) = tt
called_global program effects pos (Start x reversed low high) = tt
called_global program effects pos (Next x reversed low high) = tt
called_global program effects pos (Evaluate t e left) = tt
called_global program effects pos (LeaveLoop e) = tt
called_global program effects pos (Hold v) = tt
called_global program effects pos (EndScope x) = tt
called_global program effects pos Finish = tt
called_global program effects pos Fall = tt

-- ---- before an act

global_front : (n : ℕ) (acts : List Placed) → AreGlobal (acts_of acts) → AreGlobal (acts_of (take n acts))
global_front zero acts all = tt
global_front (suc n) [] all = tt
global_front (suc n) (a ∷ acts) all = (all.0, global_front n acts all.1)

front_leaves : (n : ℕ) (own more : List Placed) (facts : List Fact) → AreGlobal (acts_of more)
    → facts_behind facts (acts_of (take n (own ++ more))) ≡ facts_behind facts (acts_of (take n own))
front_leaves zero own more facts all = refl
front_leaves (suc n) [] more facts all =
    globals_change_nothing (acts_of (take (suc n) more)) facts (global_front (suc n) more all)
front_leaves (suc n) (a ∷ own) more facts all = front_leaves n own more (effect a.act facts) all

-- the points of a subprogram as paths have them
abbrev pub flow_paths_of : FlowProgram → Effects → TypedNodes → List Point → List PathPoint
flow_paths_of program effects rows points =
    map (λ (p : FlowPoint). record { acts = all_acts program effects p; next = p.next }) (map (flow_point_of rows) points)

-- the first acts of a point leave what its first own acts leave
pub own_front : (program : FlowProgram) (effects : Effects) (rows : TypedNodes) (points : List Point) (p n : ℕ) (facts : List Fact)
    → facts_behind facts (acts_of (take n (path_point (flow_paths_of program effects rows points) p).acts))
    ≡ facts_behind facts (acts_of (take n (path_point (path_points_of points) p).acts))
own_front program effects rows [] p n facts = refl
own_front program effects rows (x ∷ points) zero n facts =
    let q = flow_point_of rows x in
    front_leaves n x.acts (called_acts program effects q.pos q.instr) facts (called_global program effects q.pos q.instr)
own_front program effects rows (x ∷ points) (suc p) n facts = own_front program effects rows points p n facts

-- ---- what acts add

none_added : (acts : List Act) (a : Act) (f : Fact) → AreGlobal acts → Has acts a → Has (adds a) f → ⊥
none_added [] a f all h new = h
none_added (b ∷ acts) a f all h new = elim h [
  | inl e ↦ subst (λ c. Has (adds c) f) (sym e ∙ all.0.is) new
  | inr more ↦ none_added acts a f all.1 more new
]

own_act : (program : FlowProgram) (effects : Effects) (rows : TypedNodes) (points : List Point) (p : ℕ) (a : Act) (f : Fact)
    → Has (acts_at (flow_paths_of program effects rows points) p) a → Has (adds a) f → Has (acts_at (path_points_of points) p) a
own_act program effects rows [] p a f h new = h
own_act program effects rows (x ∷ points) zero a f h new =
    let q = flow_point_of rows x in
    let called = called_acts program effects q.pos q.instr in
    elim (Has-append_cases (acts_of x.acts) (acts_of called) a (subst (λ l. Has l a) (map-append (λ (placed : Placed). placed.act) x.acts called) h)) [
      | inl own ↦ own
      | inr more ↦ absurd (none_added (acts_of called) a f (called_global program effects q.pos q.instr) more new)
    ]
own_act program effects rows (x ∷ points) (suc p) a f h new = own_act program effects rows points p a f h new

pub listed_on_paths : (program : FlowProgram) (effects : Effects) (rows : TypedNodes) (points : List Point) (facts : List Fact)
    → AreListed facts (path_points_of points) → AreListed facts (flow_paths_of program effects rows points)
listed_on_paths program effects rows points facts listed p a f h new = listed p a f (own_act program effects rows points p a f h new) new
