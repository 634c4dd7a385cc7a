use Rattle.std.proofs.Common.{◌≡◌, ap, subst, ◌∙◌, arith, length, Some}
use Rattle.std.proofs.lemmas.List.{length-map}
use Rattle.name_events.specs.Known.{used_in}
use Rattle.name_resolve.specs.Stands.{all_of, AreRegionsOf}
use Rattle.name_resolve.proofs.knowledge.Knowledge.begin_package.Goals as goal

pub returns : goal.returns
returns c now s =
    let number : c.len-number.result ≡ length now.declared =
    omega (arith, c.len-number.ensures, ap length s.declarations.all, length-map now.declared (λ entry. entry.1)) in
    let uses = c.in_ok-uses.ensures _ _ _ _ s.regions in
    let regions : AreRegionsOf (all_of now) (used_in now.uses 0) c.in_ok-regions.regions.keys =
    subst (λ all. AreRegionsOf all (used_in now.uses 0) c.in_ok-regions.regions.keys) (c.deref.ensures.value ∙ s.declarations.all)
    (subst (λ packages. AreRegionsOf c.deref.result.now packages c.in_ok-regions.regions.keys) (c.deref-2.ensures.value ∙ uses) c.in_ok-regions.ensures) in
    record {
      declarations = s.declarations;
      regions = s.regions;
      withs = s.withs;
      contexts = c.in_ok-add.ensures (all_of now) now.contexts (record { of_package = length now.declared; withs = now.withs; uses = used_in now.uses 0 })
          number (c.in_ok-withs.ensures now.withs s.withs) uses regions s.contexts;
      used = s.used;
      own_package = ap Some number;
      in_own_body = s.in_own_body;
      body_names = s.body_names;
      components = s.components;
    }
