use Rattle.std.proofs.Common.{refl, sym, ℕ, ◌≤◌}
use Rattle.spark_base.specs.declared.limits.TheConstants.{NESTING}
use Rattle.ada_grammar.specs.Items.{item, item_first}
use Rattle.ada_grammar.proofs.Item.{law_item}
use Rattle.token_reading.proofs.Many.{shorter}
use Rattle.token_reading.proofs.Loop.{Shortens, goes_on, ends, breaks_off, handed_on}
use Rattle.statement_parser.proofs.item.items.Goals as goal

part_shortens : (d : ℕ) → d ≤ NESTING → Shortens (item d)
part_shortens d h = shorter item_first (law_item d h) refl refl

pub returns-in_err-item : goal.returns-in_err-item
returns-in_err-item c =
    let read = breaks_off item_first (item c.args.depth) (part_shortens c.args.depth c.requires) _ c.turns.all c.turns.tokens c.item.new.tokens _
    (sym c.turns-test.ensures) c.in_err-item.ensures c.turns.invariant in
    handed_on _ _ c.from_residual.result c.item.new.tokens read c.from_residual.ensures.1

pub turns-smaller : goal.turns-smaller
turns-smaller c = (part_shortens c.args.depth c.requires) _ _ _ _ _ c.in_ok-item.ensures

pub turns-preserved : goal.turns-preserved
turns-preserved c =
    rw c.in_ok-push.ensures.ok
    (goes_on item_first (item c.args.depth) (part_shortens c.args.depth c.requires) c.turns.all c.turns.tokens c.item.new.tokens _ _
    (sym c.turns-test.ensures) c.in_ok-item.ensures c.turns.invariant)

pub returns : goal.returns
returns c = ends item_first (item c.args.depth) (part_shortens c.args.depth c.requires) c.turns.all c.turns.tokens _ (sym c.turns-test.ensures) c.turns.invariant
