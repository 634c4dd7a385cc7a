use Rattle.std.proofs.Common.{rules, tests, ◌∙◌}
use Rattle.std.proofs.lemmas.Iterator.{YieldsList-from_slice, YieldsList-from_zip}
use Rattle.std.proofs.lemmas.Iterator.Search.{all_from_yields_List}
use Rattle.place_names.specs.Names.{agrees}
use Rattle.place_names.proofs.Selectors.{all_agree}
use Rattle.place_names.proofs.selector.agree_along.Goals as goal

pub returns : goal.returns
returns c =
    let a = c.args.a.now in
    let b = c.args.b.now in
    all_from_yields_List (λ p. agrees p.0 p.1) c.all.new.self _ c.all.result c.all.ensures.ran
    (YieldsList-from_zip (YieldsList-from_slice a cc) (YieldsList-from_slice b cc))
    (λ x b q k. search (rules, tests))
    ∙ all_agree a b
