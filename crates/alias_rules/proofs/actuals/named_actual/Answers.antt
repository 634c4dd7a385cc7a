use Rattle.std.proofs.Common.{◌∙◌, ap, sym, arith}
use Rattle.typed_tree.specs.Nodes.{typed_at, typed_of}
use Rattle.alias_rules.proofs.Nodes.{past_written, shallow_name}
use Rattle.alias_rules.proofs.actuals.named_actual.Goals as goal

pub returns-then-e-len : goal.returns-then-e-len
returns-then-e-len c = sym (past_written c.args.rows.now c.args.e c.args.formal (let t = c.if-e-len.true in let l = c.len.ensures in omega arith))

pub place-requires : goal.place-requires
place-requires c = shallow_name c.args.rows.now c.args.e c.args.formal c.in-Name.pos c.in-Name.object c.in-Name.steps c.in-Name.of
    (c.node.ensures.tree ∙ ap (typed_of (typed_at c.args.rows.now)) c.in-Name.is) c.requires
