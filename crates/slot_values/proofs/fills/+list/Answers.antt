use Rattle.std.proofs.Common.{rules, ◌<◌, ◌≤◌, ◌∙◌, subst, length}
use Rattle.code_rows.specs.Values.{fill_at}
use Rattle.run_codes.specs.Codes.{Fill}
use Rattle.slot_values.specs.Fillings.{Fillable}
use Rattle.slot_values.proofs.Nested.{Follows, new_longer, new_room, repeated_longer, both_first, both_next, follows_on}
use Rattle.slot_values.proofs.fills.+list.Goals as goal

pub list-part-requires : goal.list-part-requires
list-part-requires g t c κs within =
    let there : c.in-Both.first < length c.args.fills.now = search rules in (
      search rules,
      (
        within,
        (
          c.requires.within,
          (
            there,
            both_first g.R.Store.Means c.values.memory c.args.table.now (fill_at c.args.nodes.now c.args.fills.now c.in-Both.first) (fill_at c.args.nodes.now c.args.fills.now c.in-Both.second)
                (subst (λ (v : Fill). Fillable g.R.Store.Means c.values.memory c.args.table.now v) c.in-Both.ensures.value c.values.invariant.whole),
          ),
        ),
      ),
    )

pub list-values-preserved : goal.list-values-preserved
list-values-preserved g t c =
    let there : c.in-Both.second < length c.args.fills.now = search rules in
    let below : c.in-Both.second ≤ c.args.n = search rules in record {
      there = there;
      below = below;
      same = follows_on g.R.Store.Means c.args.memory.now c.args.table.now (fill_at c.args.nodes.now c.args.fills.now c.args.n) c.args.hand.now
          (fill_at c.args.nodes.now c.args.fills.now c.in-Both.first) (fill_at c.args.nodes.now c.args.fills.now c.in-Both.second) c.values.memory c.values.hand c.in_ok-part.field-0
          c.part.new.hand c.part.new.memory
          (subst (λ (v : Fill). Follows g.R.Store.Means c.args.memory.now c.args.table.now (fill_at c.args.nodes.now c.args.fills.now c.args.n) c.args.hand.now v c.values.memory c.values.hand)
          c.in-Both.ensures.value c.values.invariant.same)
          c.in_ok-part.ensures.made;
      whole = both_next g.R.Store.Means c.values.memory c.args.table.now (fill_at c.args.nodes.now c.args.fills.now c.in-Both.first)
          (fill_at c.args.nodes.now c.args.fills.now c.in-Both.second) c.in_ok-part.field-0 c.values.hand c.part.new.hand c.part.new.memory
          (subst (λ (v : Fill). Fillable g.R.Store.Means c.values.memory c.args.table.now v) c.in-Both.ensures.value c.values.invariant.whole)
          c.in_ok-part.ensures.made;
      elsewhere = c.in_ok-part.ensures.elsewhere ∙ c.values.invariant.elsewhere;
    }

pub new-make-requires-clause-from : goal.new-make-requires-clause-from
new-make-requires-clause-from g t c =
    new_longer g.R.Store.Means c.args.memory.now c.args.table.now (fill_at c.args.nodes.now c.args.fills.now c.args.value) c.args.of c.in_ok-list.field-0 c.args.hand.now c.list.new.hand
    c.list.new.memory c.len-from.result c.len-from.ensures c.requires.whole c.in_ok-list.ensures.made

pub new-make-requires-clause-whole : goal.new-make-requires-clause-whole
new-make-requires-clause-whole g t c =
    new_room g.R.Store.Means c.args.memory.now c.args.table.now (fill_at c.args.nodes.now c.args.fills.now c.args.value) c.args.of c.in_ok-list.field-0 c.args.hand.now c.list.new.hand
    c.list.new.memory c.len-from.result c.len-from.ensures c.requires.whole c.in_ok-list.ensures.made

pub repeated-repeat-requires : goal.repeated-repeat-requires
repeated-repeat-requires g t c =
    repeated_longer g.R.Store.Means c.args.memory.now c.args.table.now (fill_at c.args.nodes.now c.args.fills.now c.args.value) c.args.count c.in_ok-nested.field-0 c.args.hand.now
    c.nested.new.hand c.nested.new.memory c.len-from.result c.len-from.ensures c.requires.whole c.in_ok-nested.ensures.made
