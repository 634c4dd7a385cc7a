use Rattle.std.proofs.Common.{sym, subst, ◌∙◌, ◌++◌, map}
use Rattle.name_resolve.specs.Stands.{all_of, UsedStands}
use Rattle.name_resolve.proofs.knowledge.Knowledge.end_use_clause.Goals as goal

pub returns : goal.returns
returns c now s =
    let used = c.end_use_clause.new.self in
    let region = c.here-region.result.region in
    let all = c.deref.ensures.value ∙ s.declarations.all in
    let packages = c.as_slice-packages.ensures.value ∙ s.regions.named in
    record {
      declarations = s.declarations;
      regions = c.in_ok-end_use_clause-2.ensures _ _ _ _ s.regions;
      withs = s.withs;
      contexts = s.contexts;
      used = subst (λ r. UsedStands used (all_of now) (now.uses ++ map (λ p. (r, p)) now.using)) (c.here-region.ensures.region _ _ _ _ s.regions)
          (subst (λ ps. UsedStands used (all_of now) (now.uses ++ map (λ p. (region, p)) ps)) packages
          (subst (λ ds. UsedStands used ds (now.uses ++ map (λ p. (region, p)) c.as_slice-packages.result.now)) all
          (c.in_ok-end_use_clause.ensures now.uses (subst (λ ds. UsedStands c.args.self.now.used ds now.uses) (sym all) s.used))));
      own_package = s.own_package;
      in_own_body = s.in_own_body;
      body_names = s.body_names;
      components = s.components;
    }
