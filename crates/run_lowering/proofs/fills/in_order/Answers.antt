use Rattle.std.proofs.Common.{◌≡◌, ◌<◌, ◌∷◌, ◌++◌, [], Some, length, subst, arith}
use Rattle.std.proofs.lemmas.Grind.{common_steps}
use Rattle.run_codes.specs.Codes.{Empty}
use Rattle.code_rows.specs.Values.{fill_at}
use Rattle.code_rows.proofs.Filled.{fills_on}
use Rattle.run_lowering.specs.Aggregates.{AllBelow, prepended}
use Rattle.run_lowering.proofs.Aggregates.{joins_begin, joins_below, joins_first, joins_last, joins_more, joins_next}
use Rattle.run_lowering.proofs.fills.in_order.Goals as goal

pub values-init : goal.values-init
values-init c =
    let grew = c.in_ok-fill.ensures.grew in
    record {
      is = joins_begin c.args.nodes.now c.args.fills.now c.push.new.self c.args.values.now.items c.in_ok-fill.fill grew c.requires.there
          c.in_ok-fill.ensures.value.1;
      below = joins_more c.args.fills.now c.push.new.self c.args.values.now.items grew.more c.requires.there;
      there = c.in_ok-fill.ensures.value.0;
      grew = grew;
      all = c.in_ok-fill.ensures.within;
    }

pub push-requires-in-Some-clause-below : goal.push-requires-in-Some-clause-below
push-requires-in-Some-clause-below c =
    let below : AllBelow (length c.values.fills) (c.pop.new.self.items ++ c.in-Some.first ∷ []) =
    subst (AllBelow (length c.values.fills)) c.in-Some.ensures.items c.values.invariant.below in
    let first : c.in-Some.first < length c.values.fills = joins_first c.values.fills c.pop.new.self.items c.in-Some.first below in
    let there : c.values.fill < length c.values.fills = c.values.invariant.there in
    grind (arith, first, there)

pub values-preserved : goal.values-preserved
values-preserved c =
    let below : AllBelow (length c.values.fills) (c.pop.new.self.items ++ c.in-Some.first ∷ []) =
    subst (AllBelow (length c.values.fills)) c.in-Some.ensures.items c.values.invariant.below in
    let so : prepended (fill_at c.args.nodes.now c.values.fills) (c.pop.new.self.items ++ c.in-Some.first ∷ [])
    (Some (fill_at c.args.nodes.now c.values.fills c.values.fill))
    ≡ prepended (fill_at c.args.nodes.now c.args.fills.now) c.args.values.now.items (Some Empty) =
    subst (λ vs. prepended (fill_at c.args.nodes.now c.values.fills) vs (Some (fill_at c.args.nodes.now c.values.fills c.values.fill))
    ≡ prepended (fill_at c.args.nodes.now c.args.fills.now) c.args.values.now.items (Some Empty)) c.in-Some.ensures.items c.values.invariant.is in
    let grew = c.in_ok-fill-2.ensures.grew in
    record {
      is = joins_next c.args.nodes.now c.args.fills.now c.values.fills c.push-in-Some.new.self c.pop.new.self.items c.args.values.now.items
          c.in-Some.first c.values.fill c.in_ok-fill-2.fill grew below so c.in_ok-fill-2.ensures.value.1;
      below = joins_below c.values.fills c.push-in-Some.new.self c.pop.new.self.items c.in-Some.first grew.more below;
      there = c.in_ok-fill-2.ensures.value.0;
      grew = fills_on c.args.nodes.now c.args.fills.now c.args.nodes.now c.values.fills c.args.nodes.now c.push-in-Some.new.self
          c.values.invariant.grew grew;
      all = c.in_ok-fill-2.ensures.within;
    }

pub returns-clause-value : goal.returns-clause-value
returns-clause-value c =
    let none : length c.values.values.items ≡ 0 = grind (arith, common_steps, c.in_default.ensures.cases) in
    joins_last c.args.nodes.now c.args.fills.now c.values.fills c.values.values.items c.args.values.now.items c.values.fill none
    c.values.invariant.is
