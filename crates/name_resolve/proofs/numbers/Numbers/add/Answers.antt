use Rattle.std.proofs.Common.{ap, ◌∙◌, ◌++◌, ◌∷◌, []}
use Rattle.name_events.specs.Declarations.{has_number}
use Rattle.name_resolve.proofs.Given.{has_added}
use Rattle.name_resolve.proofs.numbers.Numbers.add.Goals as goal

pub returns : goal.returns
returns c listed s = record {
  listed = c.in_ok-push.ensures.items ∙ ap (λ xs. xs ++ c.args.number ∷ []) s.listed;
  has = λ n. ap (has_number n) c.in_ok-insert.ensures.keys ∙ has_added c.args.self.now.found.keys listed c.args.number n s.has;
}
