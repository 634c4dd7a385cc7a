use Rattle.std.proofs.Common.{not, nat_eq, rules}
use Rattle.std.proofs.lemmas.Fn.{filter_same}
use Rattle.name_resolve.proofs.declarations.keep_others.Goals as goal

pub returns : goal.returns
returns c = filter_same _ (λ d. not (nat_eq c.args.region d.1.region)) _ (λ x b f' k. search rules) _ _ c.retain.ensures.filtered
