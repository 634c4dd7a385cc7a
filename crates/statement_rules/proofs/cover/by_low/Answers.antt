use Rattle.std.proofs.Common.{rules}
use Rattle.std.proofs.lemmas.List.Sorted.{answers_always}
use Rattle.type_definitions.specs.declared.judgement.Cover.{Cover}
use Rattle.statement_rules.proofs.cover.by_low.Goals as goal

pub returns-clause-sorted : goal.returns-clause-sorted
returns-clause-sorted c = c.sort_unstable_by_key.ensures.sorted (λ (k : Cover). k.low) (answers_always _ _ _ (λ f a r g h. search rules))
