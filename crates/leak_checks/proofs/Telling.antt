-- Lines that are added point by point and subprogram by subprogram tell of all leak checks.
use Rattle.std.proofs.Common.{◌≡◌, refl, sym, ap, ◌∙◌, subst, ℕ, zero, suc, ◌+◌, ◌<◌, ◌≤◌, add-one, Bool, true, false, IsTrue, List, [], ◌∷◌, ◌++◌, map, drop, length, get_or, nat_lt, Option, None, arith}
use Rattle.std.specs.Prelude.{◌↔◌}
use Rattle.std.proofs.lemmas.List.{append_assoc, append-nil, map-append}
use Rattle.std.proofs.lemmas.Bool.{ltb-true, ltb-false}
use Rattle.std.proofs.lemmas.Grind.{flat_map-append}
use Rattle.place_names.specs.declared.act.Placed.{Placed}
use Rattle.state_trees.specs.FactStates.{FactState}
use Rattle.typed_tree.specs.Nodes.{TypedNodes}
use Rattle.flow_paths.specs.declared.report.Effects.{Effects}
use Rattle.flow_paths.specs.declared.report.LeakLine.{LeakLine}
use Rattle.flow_paths.specs.declared.point.Point.{Point}
use Rattle.flow_paths.specs.declared.point.LeakSpot.{LeakSpot}
use Rattle.flow_paths.specs.declared.point.LaidSub.{LaidSub}
use Rattle.flow_paths.specs.Laid.{FlowSub, FlowProgram}
use Rattle.flow_paths.specs.Stands.{flow_point_of, flow_sub_of}
use Rattle.flow_paths.specs.Effects.{path_points}
use Rattle.flow_paths.specs.Paths.{path_point}
use Rattle.flow_paths.specs.LeakPlan.{IsExcused}
use Rattle.point_states.specs.PointTrees.{path_points_of, tree_at, IsExact}
use Rattle.point_states.proofs.Carried.{points_counted}
use Rattle.point_states.proofs.Moves.{drop_past}
use Rattle.path_reports.specs.CalledPoints.{AreListed}
use Rattle.path_reports.specs.Told.{IsKeptWhere, AreKept}
use Rattle.path_reports.proofs.Putting.{dropped}
use Rattle.laid_program.specs.declared.laid.Laid.{Laid}
use Rattle.laid_program.specs.Programs.{program_of}
use Rattle.path_check.proofs.Premises.{sub_listed}
use Rattle.path_check.proofs.Putting.{sub_has}
use Rattle.leak_checks.specs.Plan.{Check, checks_at, checks_from, checks_of, TellAll}
use Rattle.leak_checks.specs.Lines.{excused_where, line_of, lines_at, lines_along, HasLines}
use Rattle.leak_checks.proofs.Excused.{excused_is}

-- ---- one subprogram

tell_both : (program : FlowProgram) (effects : Effects) (checks more : List Check) (lines rest : List LeakLine) → TellAll program effects checks lines
    → TellAll program effects more rest → TellAll program effects (checks ++ more) (lines ++ rest)
tell_both program effects [] more [] rest first second = second
tell_both program effects [] more (l ∷ lines) rest first second = absurd first
tell_both program effects (c ∷ checks) more [] rest first second = absurd first
tell_both program effects (c ∷ checks) more (l ∷ lines) rest first second =
    (first.0, tell_both program effects checks more lines rest first.1 second)

tell_point : (program : FlowProgram) (effects : Effects) (sub : FlowSub) (n : ℕ) (t : Option FactState) (acts : List Placed)
    → ((spot : LeakSpot) → IsTrue (excused_where t acts spot) ↔ IsExcused (path_points program effects sub) n spot)
    → (spots : List LeakSpot) → TellAll program effects (checks_at sub n spots) (map (line_of t acts) spots)
tell_point program effects sub n t acts each [] = tt
tell_point program effects sub n t acts each (spot ∷ spots) =
    (record { pos = refl; name = refl; excused = each spot }, tell_point program effects sub n t acts each spots)

tell_points : (program : FlowProgram) (effects : Effects) (rows : TypedNodes) (sub : FlowSub) (n : ℕ) (points : List Point) (trees : List (Option FactState))
    → length trees ≡ length points
    → ((q : ℕ) (spot : LeakSpot) → IsTrue (excused_where (tree_at trees q) (path_point (path_points_of points) q).acts spot)
    ↔ IsExcused (path_points program effects sub) (n + q) spot)
    → TellAll program effects (checks_from sub n (map (flow_point_of rows) points)) (lines_along points trees)
tell_points program effects rows sub n [] trees e each = tt
tell_points program effects rows sub n (p ∷ points) [] e each = absurd (omega arith)
tell_points program effects rows sub n (p ∷ points) (t ∷ trees) e each =
    tell_both program effects (checks_at sub n p.leaks) (checks_from sub (suc n) (map (flow_point_of rows) points)) (lines_at t p) (lines_along points trees)
    (tell_point program effects sub n t p.acts
    (λ spot. subst (λ k. IsTrue (excused_where t p.acts spot) ↔ IsExcused (path_points program effects sub) k spot) (none_more n) (each 0 spot)) p.leaks)
    (tell_points program effects rows sub (suc n) points trees (omega arith)
    (λ q spot. subst (λ k. IsTrue (excused_where (tree_at trees q) (path_point (path_points_of points) q).acts spot)
    ↔ IsExcused (path_points program effects sub) k spot) (one_further n q) (each (suc q) spot)))
  where
    none_more : (n : ℕ) → n + 0 ≡ n
    none_more n = omega arith

    one_further : (n q : ℕ) → n + suc q ≡ suc n + q
    one_further n q = omega arith

tell_sub : (program : FlowProgram) (effects : Effects) (rows : TypedNodes) (sub : LaidSub) (trees : List (Option FactState))
    → IsExact (path_points_of sub.points) sub.facts trees → AreKept trees → AreListed sub.facts (path_points_of sub.points)
    → TellAll program effects (checks_from (flow_sub_of rows sub) 0 (flow_sub_of rows sub).points) (lines_along sub.points trees)
tell_sub program effects rows sub trees exact kept listed =
    tell_points program effects rows (flow_sub_of rows sub) 0 sub.points trees (exact.count ∙ points_counted sub.points)
    (λ q spot. subst (λ k. IsTrue (excused_where (tree_at trees q) (path_point (path_points_of sub.points) q).acts spot)
    ↔ IsExcused (path_points program effects (flow_sub_of rows sub)) k spot) (none_before q)
    (excused_is program effects rows sub trees exact kept listed q spot))
  where
    none_before : (q : ℕ) → q ≡ 0 + q
    none_before q = omega arith

-- ---- one subprogram after the other

-- the lines of the first i tell of their leak checks
pub record Telling (laid : Laid) (i : ℕ) (lines : List LeakLine) : Type 0 where
  pub done : List LaidSub
  pub split : laid.subs ≡ done ++ drop i laid.subs
  pub tells : (effects : Effects) → TellAll (program_of laid) effects (checks_of (map (flow_sub_of laid.rows) done)) lines

pub telling_begins : (laid : Laid) (lines : List LeakLine) → lines ≡ [] → Telling laid 0 lines
telling_begins laid lines none = record {
  done = [];
  split = refl;
  tells = λ effects. subst (TellAll (program_of laid) effects []) (sym none) tt;
}

one_more : {A : Type 0} (xs : List A) (y : A) (zs : List A) → xs ++ (y ∷ zs) ≡ (xs ++ y ∷ []) ++ zs
one_more [] y zs = refl
one_more (x ∷ xs) y zs = ap (λ l. x ∷ l) (one_more xs y zs)

checks_more : (rows : TypedNodes) (done : List LaidSub) (sub : LaidSub) → checks_of (map (flow_sub_of rows) (done ++ sub ∷ []))
    ≡ checks_of (map (flow_sub_of rows) done) ++ checks_from (flow_sub_of rows sub) 0 (flow_sub_of rows sub).points
checks_more rows done sub =
    let of : FlowSub → List Check = λ s. checks_from s 0 s.points in
    ap checks_of (map-append (flow_sub_of rows) done (sub ∷ []))
    ∙ flat_map-append of (map (flow_sub_of rows) done) (flow_sub_of rows sub ∷ [])
    ∙ ap (λ l. checks_of (map (flow_sub_of rows) done) ++ l) (append-nil (of (flow_sub_of rows sub)))

pub telling_goes_on : (laid : Laid) (i : ℕ) (x d : LaidSub) (lines new : List LeakLine) → i < length laid.subs → x ≡ get_or laid.subs i d
    → Telling laid i lines → HasLines x lines new → Telling laid (i + 1) new
telling_goes_on laid i x d lines new h is t has = record {
  done = t.done ++ x ∷ [];
  split = t.split ∙ ap (λ l. t.done ++ l) (dropped laid.subs i d h) ∙ ap (λ y. t.done ++ y ∷ drop (suc i) laid.subs) (sym is)
      ∙ one_more t.done x (drop (suc i) laid.subs) ∙ ap (λ n. (t.done ++ x ∷ []) ++ drop n laid.subs) (sym (add-one i));
  tells = λ effects.
      subst (λ l. TellAll (program_of laid) effects l new) (sym (checks_more laid.rows t.done x))
      (subst (TellAll (program_of laid) effects (checks_of (map (flow_sub_of laid.rows) t.done) ++ checks_from (flow_sub_of laid.rows x) 0 (flow_sub_of laid.rows x).points))
      (sym has.is)
      (tell_both (program_of laid) effects (checks_of (map (flow_sub_of laid.rows) t.done)) (checks_from (flow_sub_of laid.rows x) 0 (flow_sub_of laid.rows x).points)
      lines (lines_along x.points has.trees) (t.tells effects)
      (tell_sub (program_of laid) effects laid.rows x has.trees has.exact has.kept (sub_listed laid x (sub_has laid.subs i x d h is)))));
}

pub telling_ends : (laid : Laid) (i : ℕ) (lines : List LeakLine) → length laid.subs ≤ i → Telling laid i lines
    → (effects : Effects) → TellAll (program_of laid) effects (checks_of (program_of laid).subs) lines
telling_ends laid i lines h t effects =
    let all : t.done ≡ laid.subs = sym (t.split ∙ ap (λ l. t.done ++ l) (drop_past laid.subs i h) ∙ append-nil t.done) in
    subst (λ l. TellAll (program_of laid) effects (checks_of (map (flow_sub_of laid.rows) l)) lines) all (t.tells effects)

-- ---- points one after the other

-- the lines of the points from one with a number on
along_from : (points : List Point) (trees : List (Option FactState)) (i : ℕ) (p : Point) (t : Option FactState) → i < length points
    → length trees ≡ length points → lines_along (drop i points) (drop i trees)
    ≡ lines_at (get_or trees i t) (get_or points i p) ++ lines_along (drop (suc i) points) (drop (suc i) trees)
along_from [] trees i p t h e = absurd (omega arith)
along_from (x ∷ points) [] i p t h e = absurd (omega arith)
along_from (x ∷ points) (y ∷ trees) zero p t h e = refl
along_from (x ∷ points) (y ∷ trees) (suc i) p t h e = along_from points trees i p t (omega arith) (omega arith)

pub along_next : (points : List Point) (trees : List (Option FactState)) (i : ℕ) (x p : Point) (y t : Option FactState) (lines new all : List LeakLine)
    → i < length points → length trees ≡ length points → x ≡ get_or points i p → y ≡ get_or trees i t → new ≡ lines ++ lines_at y x
    → lines ++ lines_along (drop i points) (drop i trees) ≡ all → new ++ lines_along (drop (i + 1) points) (drop (i + 1) trees) ≡ all
along_next points trees i x p y t lines new all h e is at added before =
    let rest : List LeakLine = lines_along (drop (suc i) points) (drop (suc i) trees) in
    ap (λ n. new ++ lines_along (drop n points) (drop n trees)) (add-one i)
    ∙ ap (λ l. l ++ rest) added
    ∙ append_assoc lines (lines_at y x) rest
    ∙ (λ j. lines ++ (lines_at (at j) (is j) ++ rest))
    ∙ ap (λ l. lines ++ l) (sym (along_from points trees i p t h e)) ∙ before

pub along_end : (points : List Point) (trees : List (Option FactState)) (i : ℕ) (lines all : List LeakLine) → length points ≤ i
    → lines ++ lines_along (drop i points) (drop i trees) ≡ all → lines ≡ all
along_end points trees i lines all h before =
    sym (append-nil lines) ∙ ap (λ l. lines ++ lines_along l (drop i trees)) (sym (drop_past points i h)) ∙ before

-- where all have been looked at, each tree has a mark for each fact
pub kept_end : (trees : List (Option FactState)) (i : ℕ) → length trees ≤ i → ((q : ℕ) → q < i → IsKeptWhere (tree_at trees q)) → AreKept trees
kept_end trees i h before q = from (nat_lt q (length trees)) refl
  where
    past : (trees : List (Option FactState)) (q : ℕ) → length trees ≤ q → tree_at trees q ≡ None
    past [] q h = refl
    past (t ∷ trees) zero h = absurd (omega arith)
    past (t ∷ trees) (suc q) h = past trees q (omega arith)

    from : (b : Bool) → nat_lt q (length trees) ≡ b → IsKeptWhere (tree_at trees q)
    from true e = (let within = ltb-true q (length trees) e in before q (omega (arith, within)))
    from false e = subst IsKeptWhere (sym (past trees q (ltb-false q (length trees) e))) tt
