use Rattle.std.proofs.Common.{◌≡◌, true, List, sym, ap, ◌∙◌, subst, Option}
use Rattle.std.specs.Prelude.{is_some, IfSome}
use Rattle.flow_paths.specs.declared.point.Point.{Point}
use Rattle.bare_points.specs.declared.layout.Layout.{Layout}
use Rattle.bare_points.specs.BareSubs.{bare_sub}
use Rattle.bare_points.specs.Layouts.{code_in, laying, made_in}
use Rattle.typed_statements.specs.declared.subs.Subprogram.{Subprogram}
use Rattle.sub_layout.specs.Subs.{sub_laid, AreSubPoints}
use Rattle.lay_out.proofs.Laying.{sub_points_are, sub_few, sub_many, IsLayoutBy}
use Rattle.lay_out.proofs.Limits.{points_alone}
use Rattle.lay_out.proofs.sub_writer.SubWriter.sub_points.Goals as goal

pub returns-in-Some-clause-points : goal.returns-in-Some-clause-points
returns-in-Some-clause-points c =
    let l : Layout = c.new-layout.result in
    let b : Subprogram = c.args.sub.now in
    let by : IsLayoutBy c.args.self.now true l =
    record { rows = c.new-layout.ensures.rows; ends = c.new-layout.ensures.ends; counted_is = c.new-layout.ensures.counted } in
    let is : made_in l c.in-Some.points ≡ bare_sub (laying l) (code_in l b.body) b.end c.is_some.result c.args.t =
    subst (λ (o : Option (List Point)).
    IfSome o (λ (ps : List Point). made_in l ps ≡ bare_sub (laying l) (code_in l b.body) b.end c.is_some.result c.args.t))
    c.in-Some.is c.in_ok-points.ensures.points in
    subst (AreSubPoints c.args.self.now.acts b c.args.t) (sym c.into_vec.ensures)
    (sub_points_are c.args.self.now b c.requires.ready l by c.args.t c.is_some.result c.is_some.ensures c.in-Some.points is)

pub returns-in-Some-clause-few : goal.returns-in-Some-clause-few
returns-in-Some-clause-few c =
    let by : IsLayoutBy c.args.self.now true c.new-layout.result =
    record { rows = c.new-layout.ensures.rows; ends = c.new-layout.ensures.ends; counted_is = c.new-layout.ensures.counted } in
    sub_few c.args.self.now c.args.sub.now c.requires.ready c.new-layout.result by c.args.t c.is_some.result c.is_some.ensures
    (ap is_some (sym c.in-Some.is) ∙ c.in_ok-points.ensures.few)

pub returns-in-None-clause-many : goal.returns-in-None-clause-many
returns-in-None-clause-many c =
    let by : IsLayoutBy c.args.self.now true c.new-layout.result =
    record { rows = c.new-layout.ensures.rows; ends = c.new-layout.ensures.ends; counted_is = c.new-layout.ensures.counted } in
    points_alone (sub_laid c.args.self.now.acts c.args.sub.now c.args.t).sub
    (sub_many c.args.self.now c.args.sub.now c.requires.ready c.new-layout.result by c.args.t c.is_some.result c.is_some.ensures
    (ap is_some (sym c.in-None.is) ∙ c.in_ok-points.ensures.few))
