use Rattle.std.proofs.Common.{sym, subst, ◌∙◌}
use Rattle.name_resolve.specs.Tables.{searched, asks_completion, FirstAnswers, HasOnly}
use Rattle.name_resolve.specs.Stands.{IndexStands, StandFor}
use Rattle.name_resolve.proofs.Symbols.{index_grown, searched_grown, only_grown, stand_for_grown}
use Rattle.name_resolve.proofs.declarations.Declarations.symbol.Goals as goal

pub returns-clause-stands : goal.returns-clause-stands
returns-clause-stands c declared pending ended completed s =
    let k = c.args.self.now in
    let w = c.args.word.now in
    let is = sym c.in_ok-add.ensures.words in
    record {
      declared = subst (λ words. IndexStands words k.declared declared) is (index_grown k.words w k.declared declared s.declared);
      awaiting = subst (λ words. FirstAnswers asks_completion (searched words k.awaiting) declared) is
          (λ r v. searched_grown k.words w k.awaiting s.awaiting_only r v ∙ s.awaiting r v);
      awaiting_only = subst (λ words. HasOnly words k.awaiting) is (only_grown k.words w k.awaiting s.awaiting_only);
      all = s.all;
      procedure = s.procedure;
      pending = subst (λ words. StandFor words k.pending.items pending) is (stand_for_grown k.words w k.pending.items pending s.pending);
      ended = subst (λ words. IndexStands words k.ended ended) is (index_grown k.words w k.ended ended s.ended);
      holders = s.holders;
      completed = s.completed;
    }
