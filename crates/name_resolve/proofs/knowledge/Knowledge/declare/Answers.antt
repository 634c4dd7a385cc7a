use Rattle.std.proofs.Common.{sym, subst, [], ◌∷◌, ◌++◌}
use Rattle.name_events.specs.Declarations.{Entry}
use Rattle.name_events.specs.KnownBehind.{new_entry}
use Rattle.name_resolve.specs.Stands.{all_of, ContextsStand, EntriesStand, UsedStands}
use Rattle.name_resolve.proofs.Lists.{map_push}
use Rattle.name_resolve.proofs.RegionSets.{contexts_grown, used_grown}
use Rattle.name_resolve.proofs.knowledge.Knowledge.declare.Goals as goal

pub returns : goal.returns
returns c now s =
    let entry : Entry = new_entry now c.args.form c.args.id.now in
    let more = sym (map_push (λ (e : Entry). e.1) now.declared entry) in
    record {
      declarations = subst (λ d. EntriesStand c.declare.new.self (now.declared ++ (c.args.id.now.name, d) ∷ []) (now.pending ++ (c.args.id.now.name, d) ∷ []) now.ended now.completed)
          (c.declaration_here-declaration.ensures now s) (c.in_ok-declare.ensures _ _ _ _ s.declarations);
      regions = s.regions;
      withs = s.withs;
      contexts = subst (λ all. ContextsStand all c.args.self.now.contexts now.contexts) more
          (contexts_grown c.args.self.now.contexts (all_of now) (entry.1 ∷ []) now.contexts s.contexts);
      used = subst (λ all. UsedStands c.args.self.now.used all now.uses) more
          (used_grown c.args.self.now.used (all_of now) (entry.1 ∷ []) now.uses s.used);
      own_package = s.own_package;
      in_own_body = s.in_own_body;
      body_names = s.body_names;
      components = s.components;
    }
