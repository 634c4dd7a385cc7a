use Rattle.std.proofs.Common.{◌≡◌, ap, ◌∙◌, map, length, ◌<◌, ◌++◌, if◌then◌else◌, nat_eq, arith}
use Rattle.std.proofs.lemmas.List.{length-map}
use Rattle.name_resolve.specs.Tables.{listed_at}
use Rattle.name_resolve.proofs.Lists.{listed_changed}
use Rattle.name_resolve.proofs.number_lists.NumberLists.add.Goals as goal

pub returns : goal.returns
returns c r =
    let within : c.args.index < length c.self.inside.lists.items = omega (arith, c.in_ok-reach.ensures.room, ap length c.self.view_is, length-map c.self.inside.lists.items (λ list. list.items)) in
    let before : listed_at (map (λ list. list.items) c.self.inside.lists.items) r ≡ listed_at c.args.self.now r =
    cc (c.self.view_is, c.in_ok-reach.ensures.same r) in
    listed_changed (λ list. list.items) c.self.inside.lists.items c.args.index c.extend_from_slice.new.self c.index_mut.result.now (λ xs. xs ++ c.args.more.now) r
    within c.index_mut.ensures.value c.in_ok-extend_from_slice.ensures.items
    ∙ ap (λ xs. if nat_eq r c.args.index then xs ++ c.args.more.now else xs) before
