use Rattle.std.proofs.Common.{rules, tests, ◌∙◌, ◌&&◌}
use Rattle.std.proofs.lemmas.Iterator.{YieldsList-from_slice, YieldsList-from_zip}
use Rattle.std.proofs.lemmas.Iterator.Search.{any_from_yields_List}
use Rattle.fact_questions.specs.Questions.{is_overlapping}
use Rattle.state_trees.proofs.Marked.{any_marked}
use Rattle.state_trees.proofs.overlap.any_marked.Goals as goal

pub returns : goal.returns
returns c =
    let facts = c.args.facts.now in
    let marks = c.args.marks.now in
    any_from_yields_List (λ p. p.1 && is_overlapping c.args.name.now c.args.state p.0) c.any.new.self _ c.any.result c.any.ensures.ran
    (YieldsList-from_zip (YieldsList-from_slice facts cc) (YieldsList-from_slice marks cc))
    (λ x b q k. search (rules, tests))
    ∙ any_marked (is_overlapping c.args.name.now c.args.state) facts marks
