use Rattle.std.proofs.Common.{◌∙◌, ◌≡◌, ◌+◌, ap, arith, List, flat_map, take, length}
use Rattle.place_names.specs.declared.fact.Fact.{Fact}
use Rattle.place_names.specs.Facts.{adds}
use Rattle.sub_summary.specs.FactLists.{with_facts}
use Rattle.sub_summary.proofs.FactLists.{added, acts_step, acts_many}
use Rattle.sub_summary.proofs.facts.add_point.Goals as goal

pub returns-then-len-gt-FACTS-clause-many : goal.returns-then-len-gt-FACTS-clause-many
returns-then-len-gt-FACTS-clause-many c none =
    let is : c.add_facts.new.found ≡ with_facts c.args.found.now (flat_map added (take (c.acts.placed-index + 1) c.args.acts.now)) =
    c.in_ok-add_facts.ensures ∙ ap (λ (l : List Fact). with_facts l (adds c.placed-item.result.act)) c.acts.invariant.0
    ∙ acts_step c.args.found.now c.args.acts.now c.acts.placed-index c.placed-item.result c.acts-test.true c.placed-item.is in
    let long = ap length is in
    let many = acts_many c.args.found.now c.args.acts.now (c.acts.placed-index + 1) in
    let is_len = c.len.ensures in let more = c.if-len-gt-FACTS.true in omega (arith, long, many, is_len, more)

pub acts-preserved : goal.acts-preserved
acts-preserved c =
    let is_len = c.len.ensures in
    let few = c.if-len-gt-FACTS.false in (
      c.in_ok-add_facts.ensures ∙ ap (λ (l : List Fact). with_facts l (adds c.placed-item.result.act)) c.acts.invariant.0
          ∙ acts_step c.args.found.now c.args.acts.now c.acts.placed-index c.placed-item.result c.acts-test.true c.placed-item.is,
      omega (arith, is_len, few),
    )
