use Rattle.std.proofs.Common.{◌∙◌, sym, ap, length, unwrap_or}
use Rattle.std.specs.Prelude.{option_map}
use Rattle.std.specs.List.{range_with_len}
use Rattle.std.proofs.lemmas.List.FromFn.{length-range_with_len}
use Rattle.state_trees.proofs.numbers.Numbers.len.Goals as goal

pub returns-in-None : goal.returns-in-None
returns-in-None c =
    let all = c.self.inside.all in
    sym (length-range_with_len 0 all)
    ∙ sym (ap (λ o. length (unwrap_or (option_map (λ x. x.now) o) (range_with_len 0 all))) c.in-None.is)
    ∙ ap length c.self.view_is
