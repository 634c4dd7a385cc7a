use Rattle.std.proofs.Common.{ap, sym, ◌∙◌, subst, nat_eq, [], ◌∷◌, ◌++◌}
use Rattle.std.specs.Map.{lookup}
use Rattle.name_events.specs.Declarations.{has_number}
use Rattle.name_resolve.specs.Stands.{context_numbered, AreRegionsOf, GivenStands}
use Rattle.name_resolve.proofs.Given.{given_pushed}
use Rattle.name_resolve.proofs.contexts.Contexts.add.Goals as goal

pub returns : goal.returns
returns c all contexts context at withs uses regions s = record {
  given = λ n. subst (λ entries. GivenStands all (lookup (nat_eq n) entries) (context_numbered (contexts ++ context ∷ []) n)) (sym c.in_ok-insert.ensures.entries)
      (given_pushed all c.args.self.now.given.entries c.args.number _ contexts context n at
      (record {
        listed = ap (λ given. given.withs.list.items) c.in_ok-shared.ensures.ok ∙ withs.listed;
        has = λ m. ap (λ given. has_number m given.withs.found.keys) c.in_ok-shared.ensures.ok ∙ withs.has m;
        uses = ap (λ given. given.uses.items) c.in_ok-shared.ensures.ok ∙ uses;
        regions = subst (λ given. AreRegionsOf all context.uses given.regions.keys) (sym c.in_ok-shared.ensures.ok) regions;
      })
      (s.given n));
}
