use Rattle.std.proofs.Common.{◌≡◌, ◌<◌, ◌∙◌, rules, Bool, List, length, Err, IsTrue, sym, ap, subst}
use Rattle.spark_base.specs.declared.limits.TheConstants.{FACTS}
use Rattle.place_names.specs.declared.fact.Fact.{Fact}
use Rattle.numbered_points.specs.Programs.{NumberedSub, facts_in}
use Rattle.flow_acts.specs.Frames.{site}
use Rattle.sub_summary.specs.Gathered.{filled_of}
use Rattle.flow_acts.specs.declared.fault.ActFault.TheVariants as act_fault
use Rattle.sub_layout.specs.declared.fault.SubFault.TheVariants as sub_fault
use Rattle.sub_layout.specs.Dressed.{has_deep_point}
use Rattle.sub_layout.proofs.SubsOnce.{sub_facts, sub_made, sub_names}
use Rattle.sub_layout.proofs.subs.lay_sub.Goals as goal

pub returns-in_err-points-clause-deep : goal.returns-in_err-points-clause-deep
returns-in_err-points-clause-deep c t are is =
    let same : c.in_err-points.field-0.0 ≡ act_fault.TooDeep = search rules in
    subst (λ (b : Bool). IsTrue b) (sym (sub_names c.args.writer.now c.args.sub.now t c.args.bare.items are))
    (c.in_err-points.ensures.deep (ap Err same))

pub returns-in_err-laid-clause-many : goal.returns-in_err-laid-clause-many
returns-in_err-laid-clause-many c t are is =
    let same : c.in_err-laid.field-0.0 ≡ sub_fault.TooManyFacts = search rules in
    subst (λ (facts : List Fact). FACTS < length facts)
    (ap facts_in c.in_ok-points.ensures.points ∙ sub_facts c.args.writer.now c.args.sub.now t c.args.bare.items are)
    (c.in_err-laid.ensures.many (ap Err same))

pub returns-clause-sub : goal.returns-clause-sub
returns-clause-sub c t are =
    c.in_ok-laid.ensures.sub
    ∙ ap (λ (n : NumberedSub). n.sub)
    (sub_made c.args.writer.now c.args.sub.now t c.args.bare.items c.in_ok-points.points.items c.deref-2.result.now are c.in_ok-points.ensures.points
    (c.deref-2.ensures.value ∙ c.in_ok-types.ensures ∙ ap (filled_of (site c.args.writer.now)) c.deref.ensures.value))

pub returns-clause-types : goal.returns-clause-types
returns-clause-types c t are =
    sym c.deref-2.ensures.value
    ∙ ap (λ (n : NumberedSub). n.types)
    (sub_made c.args.writer.now c.args.sub.now t c.args.bare.items c.in_ok-points.points.items c.deref-2.result.now are c.in_ok-points.ensures.points
    (c.deref-2.ensures.value ∙ c.in_ok-types.ensures ∙ ap (filled_of (site c.args.writer.now)) c.deref.ensures.value))

pub returns-clause-names : goal.returns-clause-names
returns-clause-names c t are =
    sub_names c.args.writer.now c.args.sub.now t c.args.bare.items are
    ∙ ap has_deep_point (sym c.in_ok-points.ensures.points) ∙ c.in_ok-points.ensures.within
