use Rattle.std.proofs.Common.{◌∙◌, sym, ap, take, ◌++◌, [], ◌∷◌, if◌then◌else◌}
use Rattle.state_trees.specs.Concerns.{concerns, numbers_of}
use Rattle.state_trees.proofs.Numbered.{numbers_of-take}
use Rattle.state_trees.proofs.index.by_object.Goals as goal

pub facts-preserved : goal.facts-preserved
facts-preserved c = λ x.
    let i = c.facts.i in
    let facts = c.args.facts.now in
    let fact = c.index-facts-i.result in
    c.in_ok-add_fact.ensures x
    ∙ ap (λ l. l ++ (if concerns x fact then i ∷ [] else [])) (c.facts.invariant x)
    ∙ ap (λ f. numbers_of (concerns x) (take i facts) ++ (if concerns x f then i ∷ [] else [])) c.index-facts-i.is
    ∙ sym (numbers_of-take (concerns x) facts i fact c.facts-test.true)
