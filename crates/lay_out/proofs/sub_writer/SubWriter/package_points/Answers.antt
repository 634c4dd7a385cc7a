use Rattle.std.proofs.Common.{◌≡◌, false, List, sym, ap, ◌∙◌, subst, Option}
use Rattle.std.specs.Prelude.{is_some, IfSome}
use Rattle.flow_paths.specs.declared.point.Point.{Point}
use Rattle.bare_points.specs.declared.layout.Layout.{Layout}
use Rattle.bare_points.specs.BareSubs.{bare_package}
use Rattle.bare_points.specs.Layouts.{code_in, laying, made_in}
use Rattle.sub_layout.specs.Subs.{package_laid, ArePackagePoints}
use Rattle.lay_out.proofs.Laying.{package_points_are, package_few, package_many, IsLayoutBy}
use Rattle.lay_out.proofs.Limits.{points_alone}
use Rattle.lay_out.proofs.sub_writer.SubWriter.package_points.Goals as goal

pub returns-in-Some-clause-points : goal.returns-in-Some-clause-points
returns-in-Some-clause-points c =
    let l : Layout = c.new.result in
    let by : IsLayoutBy c.args.self.now false l = record { rows = c.new.ensures.rows; ends = c.new.ensures.ends; counted_is = c.new.ensures.counted } in
    let is : made_in l c.in-Some.points ≡ bare_package (laying l) (code_in l c.args.sub.now.body) =
    subst (λ (o : Option (List Point)). IfSome o (λ (ps : List Point). made_in l ps ≡ bare_package (laying l) (code_in l c.args.sub.now.body)))
    c.in-Some.is c.in_ok-points.ensures.points in
    subst (ArePackagePoints c.args.self.now.acts c.args.sub.now) (sym c.into_vec.ensures)
    (package_points_are c.args.self.now c.args.sub.now c.requires.ready l by c.in-Some.points is)

pub returns-in-Some-clause-few : goal.returns-in-Some-clause-few
returns-in-Some-clause-few c =
    let by : IsLayoutBy c.args.self.now false c.new.result =
    record { rows = c.new.ensures.rows; ends = c.new.ensures.ends; counted_is = c.new.ensures.counted } in
    package_few c.args.self.now c.args.sub.now c.requires.ready c.new.result by (ap is_some (sym c.in-Some.is) ∙ c.in_ok-points.ensures.few)

pub returns-in-None-clause-many : goal.returns-in-None-clause-many
returns-in-None-clause-many c =
    let by : IsLayoutBy c.args.self.now false c.new.result =
    record { rows = c.new.ensures.rows; ends = c.new.ensures.ends; counted_is = c.new.ensures.counted } in
    points_alone (package_laid c.args.self.now.acts c.args.sub.now).sub
    (package_many c.args.self.now c.args.sub.now c.requires.ready c.new.result by (ap is_some (sym c.in-None.is) ∙ c.in_ok-points.ensures.few))
