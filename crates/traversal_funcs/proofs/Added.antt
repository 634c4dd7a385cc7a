-- The reports of one subprogram more.
use Rattle.std.proofs.Common.{◌≡◌, refl, sym, ap, ◌∙◌, subst, inl, inr, ℕ, ◌<◌, ◌+◌, List, [], ◌∷◌, ◌++◌, map, take, length, get_or}
use Rattle.std.proofs.lemmas.List.{take_more}
use Rattle.spark_base.specs.Lists.{Has}
use Rattle.spark_base.proofs.Lists.{Has-append_left, Has-append_right, Has-append_cases}
use Rattle.place_names.specs.Reports.{Report}
use Rattle.typed_tree.specs.declared.object.Object.{Object}
use Rattle.typed_tree.specs.Nodes.{TypedNodes}
use Rattle.flow_paths.specs.declared.point.Point.{Point}
use Rattle.flow_paths.specs.declared.point.LaidSub.{LaidSub}
use Rattle.flow_paths.specs.declared.report.Effects.{Effects}
use Rattle.flow_paths.specs.Laid.{FlowSub, FlowProgram, flow_typing}
use Rattle.flow_paths.specs.Stands.{flow_point_of, flow_sub_of}
use Rattle.flow_paths.specs.Views.{ViewReport}
use Rattle.traversal_funcs.specs.declared.views.Views.{Views}
use Rattle.traversal_funcs.specs.Exact.{AreViews, Adds}
use Rattle.traversal_funcs.specs.Lists.{points_reports}
use Rattle.traversal_funcs.specs.ViewReports.{AreReportsOf}
use Rattle.traversal_funcs.proofs.Rooted.{bare}
use Rattle.traversal_funcs.proofs.Constant.{views_right}
use Rattle.traversal_funcs.proofs.Reported.{Sees, reports_sound, reports_complete}

adds_these : (program : FlowProgram) (effects : Effects) (rows : TypedNodes) (sub : LaidSub) (v : Views) (old new : List Report)
    → AreViews v (bare (flow_typing program)) program.scopes rows sub
    → new ≡ old ++ points_reports v effects (map (flow_point_of v.rows.now) sub.points) → Adds program effects (flow_sub_of rows sub) old new
adds_these program effects rows sub v old new a e = record {
  keeps = λ r h. subst (λ l. Has l r) (sym is) (Has-append_left old listed r h);
  comes = λ r h. subst (λ l. Has l r) (sym is) (Has-append_right old listed r (reports_complete program effects (flow_sub_of rows sub) v sees r h));
  only = λ r h. elim (Has-append_cases old listed r (subst (λ l. Has l r) is h)) [
    | inl h ↦ inl h
    | inr h ↦ inr (reports_sound program effects (flow_sub_of rows sub) v sees r h)
  ];
}
  where
    listed : List Report
    listed = points_reports v effects (map (flow_point_of rows) sub.points)

    is : new ≡ old ++ points_reports v effects (map (flow_point_of rows) sub.points)
    is = e ∙ ap (λ t. old ++ points_reports v effects (map (flow_point_of t) sub.points)) a.rows

    sees : Sees program (flow_sub_of rows sub) v
    sees = record { right = views_right v (flow_typing program) program.scopes rows sub a; around = a.scopes }

-- the lists of the code are those of the program
pub adds : (program : FlowProgram) (effects : Effects) (rows : TypedNodes) (sub : LaidSub) (v : Views) (objects : List Object) (scopes : List ℕ)
    (points : List Point) (old new : List Report) → objects ≡ program.objects → scopes ≡ program.scopes → points ≡ sub.points
    → AreViews v (record { table = program.table; objects = objects; subs = [] }) scopes rows sub
    → new ≡ old ++ points_reports v effects (map (flow_point_of v.rows.now) points) → Adds program effects (flow_sub_of rows sub) old new
adds program effects rows sub v objects scopes points old new same around listed a e =
    adds_these program effects rows sub v old new
    (subst (λ o. AreViews v (record { table = program.table; objects = o; subs = [] }) program.scopes rows sub) same
    (subst (λ l. AreViews v (record { table = program.table; objects = objects; subs = [] }) l rows sub) around a))
    (e ∙ ap (λ l. old ++ points_reports v effects (map (flow_point_of v.rows.now) l)) listed)

more : (program : FlowProgram) (effects : Effects) (subs : List FlowSub) (sub : FlowSub) (old new : List Report) → AreReportsOf program effects subs old
    → Adds program effects sub old new → AreReportsOf program effects (subs ++ sub ∷ []) new
more program effects subs sub old new s a = record {
  sound = λ r h. elim (a.only r h) [
    | inl h ↦ (let o = s.sound r h in record { sub = o.sub; among = Has-append_left subs (sub ∷ []) o.sub o.among; reported = o.reported })
    | inr v ↦ record { sub = sub; among = Has-append_right subs (sub ∷ []) sub (inl refl); reported = v }
  ];
  complete = λ r x h v. elim (Has-append_cases subs (sub ∷ []) x h) [
    | inl h ↦ a.keeps r (s.complete r x h v)
    | inr e ↦ elim e [
      | inl is ↦ a.comes r (subst (λ y. ViewReport program effects y r) (sym is) v)
      | inr none ↦ absurd none
    ]
  ];
}

map_end : {A B : Type 0} (f : A → B) (xs : List A) (x : A) → map f (xs ++ x ∷ []) ≡ map f xs ++ f x ∷ []
map_end f [] x = refl
map_end f (y ∷ xs) x = ap (λ l. f y ∷ l) (map_end f xs x)

pub added : (program : FlowProgram) (effects : Effects) (rows : TypedNodes) (items subs : List LaidSub) (i : ℕ) (sub d : LaidSub)
    (old new : List Report) → items ≡ subs → i < length items → sub ≡ get_or items i d
    → AreReportsOf program effects (map (flow_sub_of rows) (take i subs)) old → Adds program effects (flow_sub_of rows sub) old new
    → AreReportsOf program effects (map (flow_sub_of rows) (take (i + 1) subs)) new
added program effects rows items subs i sub d old new same h is s a =
    subst (λ l. AreReportsOf program effects (map (flow_sub_of rows) l) new) (sym one)
    (subst (λ l. AreReportsOf program effects l new) (sym (map_end (flow_sub_of rows) (take i subs) sub))
    (more program effects (map (flow_sub_of rows) (take i subs)) (flow_sub_of rows sub) old new s a))
  where
    one : take (i + 1) subs ≡ take i subs ++ sub ∷ []
    one =
        take_more subs i d (subst (λ l. i < length l) same h)
        ∙ ap (λ y. take i subs ++ y ∷ []) (sym (is ∙ ap (λ l. get_or l i d) same))
