use Rattle.std.proofs.Common.{◌≡◌, ◌-◌, List, ℤ, length, take, drop, ap, subst, ◌∙◌}
use Rattle.std.proofs.lemmas.List.{take_rest}
use Rattle.run_values.specs.declared.value.Kind.{Kind}
use Rattle.run_codes.specs.Flat.{kinds}
use Rattle.handled_runs.specs.Changes.{stored}
use Rattle.slot_memory.specs.Memory.{Changes}
use Rattle.slot_memory.specs.Spots.{spot_of}
use Rattle.slot_hand.proofs.hand.Hand.store.Goals as goal

pub returns-in-Some-clause-stored : goal.returns-in-Some-clause-stored
returns-in-Some-clause-stored g c =
    let all : List ℤ = c.deref.result.now in
    let part : List ℤ = take (length all - c.args.from) (drop c.args.from all) in
    let words : part ≡ drop c.args.from c.args.self.now = take_rest all c.args.from ∙ ap (drop c.args.from) (c.deref.ensures.value ∙ c.self.view_is) in
    let P : List Kind → Type 0 = λ ks. Changes g.R.Store.Means c.args.memory.now (λ s. stored s (spot_of c.args.spot) ks part) c.store_words.new.self in
    let Q : List ℤ → Type 0 =
    λ zs. Changes g.R.Store.Means c.args.memory.now (λ s. stored s (spot_of c.args.spot) (kinds c.args.table.now c.args.of) zs) c.store_words.new.self in
    subst Q words (subst P c.in-Some.ensures c.store_words.ensures.stored)

pub returns-clause-stored : goal.returns-clause-stored
returns-clause-stored g c =
    let all : List ℤ = c.deref-3.result.now in
    let part : List ℤ = take (length all - c.args.from) (drop c.args.from all) in
    let words : part ≡ drop c.args.from c.args.self.now = take_rest all c.args.from ∙ ap (drop c.args.from) (c.deref-3.ensures.value ∙ c.self.view_is) in
    let of : c.deref-2.result.now ≡ kinds c.args.table.now c.args.of = c.deref-2.ensures.value ∙ c.in_ok-take_kinds.ensures.kinds in
    let P : List Kind → Type 0 = λ ks. Changes g.R.Store.Means c.args.memory.now (λ s. stored s (spot_of c.args.spot) ks part) c.store_words-2.new.self in
    let Q : List ℤ → Type 0 =
    λ zs. Changes g.R.Store.Means c.args.memory.now (λ s. stored s (spot_of c.args.spot) (kinds c.args.table.now c.args.of) zs) c.store_words-2.new.self in
    subst Q words (subst P of c.store_words-2.ensures.stored)
