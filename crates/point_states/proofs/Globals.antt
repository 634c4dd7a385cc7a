-- The acts of a call on package objects change no fact. So trees that are exact for points without
-- them are exact for the points as paths have them.
use Rattle.std.proofs.Common.{◌≡◌, refl, sym, ap, ◌∙◌, subst, ℕ, zero, suc, Bool, true, false, not, List, [], ◌∷◌, ◌++◌, map, filter, length, drop, Option}
use Rattle.std.proofs.lemmas.List.{append-nil, map-append}
use Rattle.spark_base.specs.Lists.{Has}
use Rattle.spark_base.specs.declared.position.Pos.{Pos}
use Rattle.place_names.specs.declared.act.Act.{Act}
use Rattle.place_names.specs.declared.act.Act.TheVariants.{Global}
use Rattle.place_names.specs.declared.act.Placed.{Placed}
use Rattle.place_names.specs.declared.fact.Fact.{Fact}
use Rattle.place_names.specs.Facts.{removes, effect, facts_behind}
use Rattle.place_names.proofs.Facts.{facts_behind-append}
use Rattle.typed_tree.specs.Nodes.{TypedNodes}
use Rattle.typed_tree.specs.declared.object.Object.{Object}
use Rattle.flow_paths.specs.declared.report.Effects.{Effects}
use Rattle.flow_paths.specs.declared.point.Point.{Point}
use Rattle.flow_paths.specs.declared.point.LaidSub.{LaidSub}
use Rattle.flow_paths.specs.Instructions.{Instruction, Skip, Declare, Assign, Call, Output, Input, Release, Test, Choose, Start, Next, Evaluate, LeaveLoop, Hold, EndScope, Finish, Fall}
use Rattle.flow_paths.specs.Acts.{placed}
use Rattle.flow_paths.specs.Points.{FlowPoint}
use Rattle.flow_paths.specs.Laid.{FlowProgram}
use Rattle.flow_paths.specs.Stands.{flow_point_of, flow_sub_of}
use Rattle.flow_paths.specs.Effects.{is_in, global_act, globals_from, read_by, written_by, called_acts, all_acts, path_points}
use Rattle.flow_paths.specs.Paths.{PathPoint, path_point, is_some_point, ControlPath, begins, goes_on, acts_at, acts_along, facts_before, IsReached, MayHold, MayLack}
use Rattle.state_trees.specs.FactStates.{FactState}
use Rattle.point_states.specs.PointTrees.{path_points_of, fact_at, IsExactAt, IsExact}
use Rattle.point_states.specs.Carries.{acts_of}

-- ---- acts on package objects

pub record IsGlobal (a : Act) : Type 0 where
  pub object : ℕ
  pub written : Bool
  pub is : a ≡ Global object written

abbrev pub AreGlobal : List Act → Type 0
AreGlobal [] = Unit {0}
AreGlobal (a ∷ acts) = IsGlobal a × AreGlobal acts

none_removed : (g : ℕ) (written : Bool) (facts : List Fact) → filter (λ f. not (removes (Global g written) f)) facts ≡ facts
none_removed g written [] = refl
none_removed g written (f ∷ facts) = ap (λ l. f ∷ l) (none_removed g written facts)

global_effect : (g : ℕ) (written : Bool) (facts : List Fact) → effect (Global g written) facts ≡ facts
global_effect g written facts = append-nil (filter (λ f. not (removes (Global g written) f)) facts) ∙ none_removed g written facts

pub globals_change_nothing : (acts : List Act) (facts : List Fact) → AreGlobal acts → facts_behind facts acts ≡ facts
globals_change_nothing [] facts all = refl
globals_change_nothing (a ∷ acts) facts all =
    let one : effect a facts ≡ facts = ap (λ b. effect b facts) all.0.is ∙ global_effect all.0.object all.0.written facts in
    ap (λ l. facts_behind l acts) one ∙ globals_change_nothing acts facts all.1

-- ---- points with such acts after the others

pub record IsWithGlobals (p q : PathPoint) : Type 0 where
  pub more : List Act
  pub global : AreGlobal more
  pub acts : acts_of q.acts ≡ acts_of p.acts ++ more
  pub next : q.next ≡ p.next

abbrev pub AreWithGlobals : List PathPoint → List PathPoint → Type 0
AreWithGlobals [] [] = Unit {0}
AreWithGlobals [] (q ∷ more) = ⊥
AreWithGlobals (p ∷ points) [] = ⊥
AreWithGlobals (p ∷ points) (q ∷ more) = IsWithGlobals p q × AreWithGlobals points more

point_with : (points more : List PathPoint) (n : ℕ) → AreWithGlobals points more → IsWithGlobals (path_point points n) (path_point more n)
point_with [] [] n all = record { more = []; global = tt; acts = refl; next = refl }
point_with [] (q ∷ more) n all = absurd all
point_with (p ∷ points) [] n all = absurd all
point_with (p ∷ points) (q ∷ more) zero all = all.0
point_with (p ∷ points) (q ∷ more) (suc n) all = point_with points more n all.1

count_with : (points more : List PathPoint) → AreWithGlobals points more → length more ≡ length points
count_with [] [] all = refl
count_with [] (q ∷ more) all = absurd all
count_with (p ∷ points) [] all = absurd all
count_with (p ∷ points) (q ∷ more) all = ap suc (count_with points more all.1)

some_with : (points more : List PathPoint) → AreWithGlobals points more → is_some_point points → is_some_point more
some_with [] more all some = absurd some
some_with (p ∷ points) [] all some = absurd all
some_with (p ∷ points) (q ∷ more) all some = tt

some_without : (points more : List PathPoint) → AreWithGlobals points more → is_some_point more → is_some_point points
some_without points [] all some = absurd some
some_without [] (q ∷ more) all some = absurd all
some_without (p ∷ points) (q ∷ more) all some = tt

path_with : (points more : List PathPoint) (before : List ℕ) (p : ℕ) → AreWithGlobals points more → ControlPath points before p → ControlPath more before p
path_with points more before' p' all (begins some) = begins (some_with points more all some)
path_with points more before' p' all (goes_on before a b path edge) =
    goes_on before a b (path_with points more before a all path) (subst (λ l. Has l b) (sym (point_with points more a all).next) edge)

path_without : (points more : List PathPoint) (before : List ℕ) (p : ℕ) → AreWithGlobals points more → ControlPath more before p → ControlPath points before p
path_without points more before' p' all (begins some) = begins (some_without points more all some)
path_without points more before' p' all (goes_on before a b path edge) =
    goes_on before a b (path_without points more before a all path) (subst (λ l. Has l b) (point_with points more a all).next edge)

pub facts_same : (points more : List PathPoint) (before : List ℕ) → AreWithGlobals points more → facts_before more before ≡ facts_before points before
facts_same points more [] all = refl
facts_same points more (a ∷ before) all =
    let with = point_with points more a all in
    let was = facts_before points before in
    let here : facts_behind was (acts_at more a) ≡ facts_behind was (acts_at points a) =
    ap (facts_behind was) with.acts ∙ facts_behind-append was (acts_at points a) with.more
    ∙ globals_change_nothing with.more (facts_behind was (acts_at points a)) with.global in
    facts_behind-append [] (acts_along more before) (acts_at more a)
    ∙ ap (λ l. facts_behind l (acts_at more a)) (facts_same points more before all)
    ∙ here ∙ sym (facts_behind-append [] (acts_along points before) (acts_at points a))

reached_without : (points more : List PathPoint) (p : ℕ) → AreWithGlobals points more → IsReached more p → IsReached points p
reached_without points more p all r = record { before = r.before; path = path_without points more r.before p all r.path }

reached_with : (points more : List PathPoint) (p : ℕ) → AreWithGlobals points more → IsReached points p → IsReached more p
reached_with points more p all r = record { before = r.before; path = path_with points more r.before p all r.path }

holds_with : (points more : List PathPoint) (p : ℕ) (f : Fact) → AreWithGlobals points more → MayHold points p f → MayHold more p f
holds_with points more p f all h = record {
  before = h.before;
  path = path_with points more h.before p all h.path;
  holds = subst (λ l. Has l f) (sym (facts_same points more h.before all)) h.holds;
}

holds_without : (points more : List PathPoint) (p : ℕ) (f : Fact) → AreWithGlobals points more → MayHold more p f → MayHold points p f
holds_without points more p f all h = record {
  before = h.before;
  path = path_without points more h.before p all h.path;
  holds = subst (λ l. Has l f) (facts_same points more h.before all) h.holds;
}

lacks_with : (points more : List PathPoint) (p : ℕ) (f : Fact) → AreWithGlobals points more → MayLack points p f → MayLack more p f
lacks_with points more p f all h = record {
  before = h.before;
  path = path_with points more h.before p all h.path;
  lacks = λ has. h.lacks (subst (λ l. Has l f) (facts_same points more h.before all) has);
}

lacks_without : (points more : List PathPoint) (p : ℕ) (f : Fact) → AreWithGlobals points more → MayLack more p f → MayLack points p f
lacks_without points more p f all h = record {
  before = h.before;
  path = path_without points more h.before p all h.path;
  lacks = λ has. h.lacks (subst (λ l. Has l f) (sym (facts_same points more h.before all)) has);
}

exact_at_with : (points more : List PathPoint) (facts : List Fact) (p : ℕ) (s : FactState) → AreWithGlobals points more
    → IsExactAt points facts p s → IsExactAt more facts p s
exact_at_with points more facts p s all e = record {
  listed = e.listed;
  may = λ f. (
    λ h. (let is = (e.may f).0 h in (is.0, holds_with points more p f all is.1)),
    λ h. (e.may f).1 (h.0, holds_without points more p f all h.1),
  );
  lacks = λ f. (
    λ h. (let is = (e.lacks f).0 h in (is.0, lacks_with points more p f all is.1)),
    λ h. (e.lacks f).1 (h.0, lacks_without points more p f all h.1),
  );
  may_at = λ i within. (
    λ h. holds_with points more p (fact_at facts i) all ((e.may_at i within).0 h),
    λ h. (e.may_at i within).1 (holds_without points more p (fact_at facts i) all h),
  );
  lacks_at = λ i within. (
    λ h. lacks_with points more p (fact_at facts i) all ((e.lacks_at i within).0 h),
    λ h. (e.lacks_at i within).1 (lacks_without points more p (fact_at facts i) all h),
  );
}

pub exact_with : (points more : List PathPoint) (facts : List Fact) (trees : List (Option FactState)) → AreWithGlobals points more
    → IsExact points facts trees → IsExact more facts trees
exact_with points more facts trees all e = record {
  count = e.count ∙ sym (count_with points more all);
  none = λ p is r. e.none p is (reached_without points more p all r);
  reached = λ p s is. reached_with points more p all (e.reached p s is);
  some = λ p s is. exact_at_with points more facts p s all (e.some p s is);
}

-- ---- the points of a subprogram

global_one : (g : ℕ) (read written : Bool) (rest : List Act) → AreGlobal rest → AreGlobal (global_act g read written ++ rest)
global_one g read true rest all = (record { object = g; written = true; is = refl }, all)
global_one g true false rest all = (record { object = g; written = false; is = refl }, all)
global_one g false false rest all = all

globals_global : (n : ℕ) (objects : List Object) (read written : List ℕ) → AreGlobal (globals_from n objects read written)
globals_global n [] read written = tt
globals_global n (x ∷ objects) read written =
    global_one n (is_in n read) (is_in n written) (globals_from (suc n) objects read written) (globals_global (suc n) objects read written)

placed_acts : (pos : Pos) (acts : List Act) → acts_of (map (placed pos) acts) ≡ acts
placed_acts pos [] = refl
placed_acts pos (a ∷ acts) = ap (λ l. a ∷ l) (placed_acts pos acts)

called_global : (program : FlowProgram) (effects : Effects) (pos : Pos) (i : Instruction) → AreGlobal (acts_of (called_acts program effects pos i))
called_global program effects pos (Call sub actuals result) =
    let globals = globals_from 1 (drop 1 program.objects) (read_by effects sub) (written_by effects sub) in
    subst AreGlobal (sym (placed_acts pos globals)) (globals_global 1 (drop 1 program.objects) (read_by effects sub) (written_by effects sub))
called_global program effects pos Skip = tt
called_global program effects pos (Declare x v) = tt
called_global program effects pos (Assign target source) = tt
called_global program effects pos (Output text line) = tt
called_global program effects pos (Input target) = tt
called_global program effects pos (Release m) = tt
called_global program effects pos (Test e) = tt
called_global program effects pos (Choose e choices) = tt
called_global program effects pos (Start x reversed low high) = tt
called_global program effects pos (Next x reversed low high) = tt
called_global program effects pos (Evaluate t e left) = tt
called_global program effects pos (LeaveLoop e) = tt
called_global program effects pos (Hold v) = tt
called_global program effects pos (EndScope x) = tt
called_global program effects pos Finish = tt
called_global program effects pos Fall = tt

points_with : (program : FlowProgram) (effects : Effects) (rows : TypedNodes) (points : List Point)
    → AreWithGlobals (path_points_of points)
    (map (λ (p : FlowPoint). record { acts = all_acts program effects p; next = p.next }) (map (flow_point_of rows) points))
points_with program effects rows [] = tt
points_with program effects rows (p ∷ points) =
    let q = flow_point_of rows p in (
      record {
        more = acts_of (called_acts program effects q.pos q.instr);
        global = called_global program effects q.pos q.instr;
        acts = map-append (λ (placed : Placed). placed.act) q.acts (called_acts program effects q.pos q.instr);
        next = refl;
      },
      points_with program effects rows points,
    )

-- what is exact for the acts of the code is exact for the acts that paths have
pub exact_on_paths : (program : FlowProgram) (effects : Effects) (rows : TypedNodes) (sub : LaidSub) (facts : List Fact)
    (trees : List (Option FactState)) → IsExact (path_points_of sub.points) facts trees
    → IsExact (path_points program effects (flow_sub_of rows sub)) facts trees
exact_on_paths program effects rows sub facts trees e =
    exact_with (path_points_of sub.points) (path_points program effects (flow_sub_of rows sub)) facts trees (points_with program effects rows sub.points) e
