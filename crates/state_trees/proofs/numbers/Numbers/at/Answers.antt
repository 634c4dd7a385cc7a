use Rattle.std.proofs.Common.{◌≡◌, ◌∙◌, sym, ap, get_or, length, unwrap_or, arith}
use Rattle.std.specs.Prelude.{option_map}
use Rattle.std.specs.List.{range_with_len}
use Rattle.std.proofs.lemmas.List.FromFn.{length-range_with_len, get_or-range_with_len}
use Rattle.state_trees.proofs.numbers.Numbers.at.Goals as goal

pub overflow_cast-result : goal.overflow_cast-result
overflow_cast-result c =
    let all = c.self.inside.all in
    let few : length c.args.self.now ≡ all =
    sym (ap length c.self.view_is)
    ∙ ap (λ o. length (unwrap_or (option_map (λ x. x.now) o) (range_with_len 0 all))) c.in-None.is
    ∙ length-range_with_len 0 all in
    omega (arith, c.self.invariant, c.requires, few)

pub returns-in-None : goal.returns-in-None
returns-in-None c =
    let all = c.self.inside.all in
    let place = c.args.place in
    let is = sym c.self.view_is ∙ ap (λ o. unwrap_or (option_map (λ x. x.now) o) (range_with_len 0 all)) c.in-None.is in
    let few = ap length is ∙ length-range_with_len 0 all in
    let here = get_or-range_with_len 0 all place 0 (omega (arith, c.requires, few)) in
    sym (ap (λ l. get_or l place 0) is ∙ here ∙ omega arith)
