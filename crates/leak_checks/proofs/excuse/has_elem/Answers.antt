use Rattle.std.proofs.Common.{rules, ◌∙◌, tests}
use Rattle.std.proofs.lemmas.Iterator.{YieldsList-from_slice}
use Rattle.std.proofs.lemmas.Iterator.Search.{any_from_yields_List}
use Rattle.place_names.specs.declared.selector.Sel.TheVariants.{Elem}
use Rattle.place_names.specs.Names.{is_equal}
use Rattle.place_names.proofs.Selectors.{any_elem, same_selector}
use Rattle.leak_checks.proofs.excuse.has_elem.Goals as goal

pub returns : goal.returns
returns c =
    let sels = c.args.sels.now in
    any_from_yields_List (λ s. is_equal s Elem) _ _ c.any.result c.any.ensures.ran (YieldsList-from_slice sels cc)
    (λ x b q k. search (rules, tests, same_selector))
    ∙ any_elem sels
