use Rattle.std.proofs.Common.{◌≡◌, ap, ◌∙◌, map, length, ◌<◌, [], if◌then◌else◌, nat_eq, arith}
use Rattle.std.proofs.lemmas.List.{length-map}
use Rattle.name_resolve.specs.Tables.{listed_at}
use Rattle.name_resolve.proofs.Lists.{listed_changed}
use Rattle.name_resolve.proofs.region_sets.RegionSets.clear.Goals as goal

pub returns : goal.returns
returns c r =
    let within : c.args.inner < length c.self.inside.sets.items = omega (arith, c.in_ok-reach.ensures.room, ap length c.self.view_is, length-map c.self.inside.sets.items (λ set. set.keys)) in
    let before : listed_at (map (λ set. set.keys) c.self.inside.sets.items) r ≡ listed_at c.args.self.now r =
    cc (c.self.view_is, c.in_ok-reach.ensures.same r) in
    listed_changed (λ set. set.keys) c.self.inside.sets.items c.args.inner c.new.result c.index_mut.result.now (λ xs. []) r
    within c.index_mut.ensures.value c.new.ensures.empty
    ∙ ap (λ xs. if nat_eq r c.args.inner then [] else xs) before
