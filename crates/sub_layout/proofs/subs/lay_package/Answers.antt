use Rattle.std.proofs.Common.{◌≡◌, ◌∙◌, rules, false, Bool, Err, IfOk, IsTrue, sym, ap, subst}
use Rattle.std.proofs.lemmas.Result.{IfOk-weaker}
use Rattle.flow_paths.specs.declared.point.LaidSub.{LaidSub}
use Rattle.flow_paths.specs.Stands.{flow_sub_of}
use Rattle.numbered_points.specs.Programs.{NumberedSub}
use Rattle.flow_acts.specs.declared.fault.ActFault.TheVariants as act_fault
use Rattle.sub_layout.specs.Dressed.{has_deep_point}
use Rattle.sub_layout.specs.Subs.{package_laid}
use Rattle.sub_layout.proofs.SubsOnce.{package_made, package_names}
use Rattle.sub_layout.proofs.subs.lay_package.Goals as goal

pub returns-in_err-points-clause-deep : goal.returns-in_err-points-clause-deep
returns-in_err-points-clause-deep c are is =
    let same : c.in_err-points.field-0.0 ≡ act_fault.TooDeep = search rules in
    subst (λ (b : Bool). IsTrue b) (sym (package_names c.args.writer.now c.args.sub.now c.args.bare.items are))
    (c.in_err-points.ensures.deep (ap Err same))

pub returns-clause-sub : goal.returns-clause-sub
returns-clause-sub c are =
    subst (λ (n : NumberedSub). IfOk c.gathered.result (λ made. flow_sub_of c.args.writer.now.rows.now made ≡ n.sub))
    (package_made c.args.writer.now c.args.sub.now c.args.bare.items c.in_ok-points.points.items are c.in_ok-points.ensures.points) c.gathered.ensures.sub

pub returns-clause-names : goal.returns-clause-names
returns-clause-names c are =
    let none : has_deep_point (package_laid c.args.writer.now c.args.sub.now).sub.points ≡ false =
    package_names c.args.writer.now c.args.sub.now c.args.bare.items are
    ∙ ap has_deep_point (sym c.in_ok-points.ensures.points) ∙ c.in_ok-points.ensures.within in
    IfOk-weaker c.gathered.result _ (λ (made : LaidSub). has_deep_point (package_laid c.args.writer.now c.args.sub.now).sub.points ≡ false) (λ made e. none)
    c.gathered.ensures.sub
