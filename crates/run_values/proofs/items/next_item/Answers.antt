use Rattle.std.proofs.Common.{◌≡◌, ◌+◌, ◌-◌, take, drop, ap, ◌∙◌, arith}
use Rattle.std.proofs.lemmas.List.{take_rest}
use Rattle.run_values.specs.Items as spec
use Rattle.run_values.proofs.Found.{IsFound, next_missing, next_number}
use Rattle.run_values.proofs.items.next_item.Goals as goal

pub returns-then-len-eq0-clause-value : goal.returns-then-len-eq0-clause-value
returns-then-len-eq0-clause-value c =
    let input = c.args.input.now in
    let at = c.args.at in
    let n = c.separator_length.result in
    let len = c.item_length-len.result in
    let lengths : IsFound input at n len = record {
      before = c.separator_length.ensures.value ∙ ap spec.separator_length (take_rest input at);
      item = c.item_length-len.ensures.value ∙ ap spec.item_length (take_rest input (at + n));
    } in
    next_missing input at n len lengths c.if-len-eq0.true

pub returns-clause-value : goal.returns-clause-value
returns-clause-value c =
    let input = c.args.input.now in
    let at = c.args.at in
    let n = c.separator_length.result in
    let len = c.item_length-len.result in
    let lengths : IsFound input at n len = record {
      before = c.separator_length.ensures.value ∙ ap spec.separator_length (take_rest input at);
      item = c.item_length-len.ensures.value ∙ ap spec.item_length (take_rest input (at + n));
    } in
    let long : (at + n + len) - (at + n) ≡ len = omega arith in
    let found = c.number.ensures ∙ ap (λ k. spec.number (take k (drop (at + n) input))) long in
    let is = c.item_of.ensures in
    next_number input at n len c.number.result c.item_of.result lengths c.if-len-eq0.false found is
