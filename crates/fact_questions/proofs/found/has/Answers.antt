use Rattle.std.proofs.Common.{rules, tests}
use Rattle.std.proofs.lemmas.Iterator.{YieldsList-from_slice}
use Rattle.std.proofs.lemmas.Iterator.Search.{any_from_yields_List}
use Rattle.fact_questions.specs.Findings.{as_forbidden, is_same_forbidden}
use Rattle.fact_questions.proofs.found.has.Goals as goal

pub returns : goal.returns
returns c =
    any_from_yields_List (λ y. is_same_forbidden (as_forbidden y) (as_forbidden c.args.more.now)) _ _ c.any.result c.any.ensures.ran
    (YieldsList-from_slice c.args.found.now cc) (λ x b q k. search (rules, tests))
