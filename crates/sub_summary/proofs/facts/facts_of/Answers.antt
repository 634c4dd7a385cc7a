use Rattle.std.proofs.Common.{rules, ℕ, true, false, ◌∙◌, ◌≡◌, ◌≤◌, ◌+◌, ap, sym, arith, List, [], length, take}
use Rattle.std.proofs.Math.Seq.{take-length}
use Rattle.std.proofs.lemmas.List.Folds.{list_all-map}
use Rattle.std.specs.List.{list_all}
use Rattle.place_names.specs.declared.act.Act.{Act}
use Rattle.place_names.specs.declared.act.Placed.{Placed}
use Rattle.place_names.specs.declared.fact.Fact.{Fact}
use Rattle.place_names.specs.Facts.{adds}
use Rattle.flow_paths.specs.declared.point.Point.{Point}
use Rattle.sub_summary.specs.FactLists.{with_facts}
use Rattle.sub_summary.specs.Gathered.{acts_of, are_shallow}
use Rattle.sub_summary.proofs.FactLists.{added, flat_added, each_passes, point_added, points_step, points_many, with_facts_distinct}
use Rattle.sub_summary.proofs.facts.facts_of.Goals as goal

pub add_point-requires-clause-shallow : goal.add_point-requires-clause-shallow
add_point-requires-clause-shallow c =
    let each = each_passes (λ (p : Point). list_all (λ a. are_shallow (adds a)) (acts_of p)) c.args.points.now c.points.point-index c.point-item.result
    c.points-test.true c.point-item.is c.requires in
    ap (list_all (λ (a : Placed). are_shallow (adds a.act))) c.as_slice.ensures
    ∙ sym (list_all-map (λ (a : Act). are_shallow (adds a)) (λ (a : Placed). a.act) c.point-item.result.acts) ∙ each

pub returns-then-not-branch-clause-none : goal.returns-then-not-branch-clause-none
returns-then-not-branch-clause-none c =
    let same = ap length (ap (λ (acts : List Placed). with_facts c.points.found (flat_added acts)) c.as_slice.ensures
    ∙ ap (λ (l : List Fact). with_facts l (flat_added c.point-item.result.acts)) c.points.invariant.0
    ∙ points_step c.args.points.now c.points.point-index c.point-item.result c.points-test.true c.point-item.is) in
    let many = points_many c.args.points.now (c.points.point-index + 1) in
    let no : c.in_ok-add_point.field-0 ≡ false = search rules in let more = c.in_ok-add_point.ensures.many no in omega (arith, same, many, more)

pub points-preserved : goal.points-preserved
points-preserved c =
    let yes : c.in_ok-add_point.field-0 ≡ true = search rules in let all = c.in_ok-add_point.ensures.all yes in (
      all.0 ∙ ap (λ (acts : List Placed). with_facts c.points.found (flat_added acts)) c.as_slice.ensures
          ∙ ap (λ (l : List Fact). with_facts l (flat_added c.point-item.result.acts)) c.points.invariant.0
          ∙ points_step c.args.points.now c.points.point-index c.point-item.result c.points-test.true c.point-item.is,
      all.1,
    )

pub returns-clause-some : goal.returns-clause-some
returns-clause-some c =
    let whole : take c.points.point-index c.args.points.now ≡ c.args.points.now =
    let past = c.points-test.false in let within = c.points.auto.point-index-end in
    let end : c.points.point-index ≡ length c.args.points.now = omega (arith, past, within) in
    ap (λ (i : ℕ). take i c.args.points.now) end ∙ take-length c.args.points.now in
    (c.points.invariant.0 ∙ ap (λ (ps : List Point). with_facts [] (point_added ps)) whole ∙ with_facts_distinct (point_added c.args.points.now), c.points.invariant.1)
