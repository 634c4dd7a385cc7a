use Rattle.std.proofs.Common.{◌≡◌, ◌-◌, ◌++◌, ◌∷◌, [], List, ℤ, length, take, drop, ap, ◌∙◌, rules}
use Rattle.std.proofs.lemmas.Int.{to_z-of_z}
use Rattle.std.proofs.lemmas.List.{take_rest}
use mir.Syntax.{w64}
use mir.Val.{SFits}
use Rattle.handled_runs.specs.Changes.{slot_values}
use Rattle.slot_memory.specs.Memory.{slots}
use Rattle.slot_hand.proofs.Making.{makes_fit, make_given, make_ended}
use Rattle.slot_hand.proofs.spots.make.Goals as goal

pub allocate-requires-clause-fit : goal.allocate-requires-clause-fit
allocate-requires-clause-fit g c =
    let all : List ℤ = c.as_slice.result.now in
    let part = take_rest all c.args.from ∙ ap (drop c.args.from) c.as_slice.ensures.value in
    let can = c.requires.whole in
    rw part (makes_fit (slots c.args.memory.now can.ghosts) c.args.kinds.now (drop c.args.from c.args.words.now.items) can.whole)

pub returns-in-Err-clause-made : goal.returns-in-Err-clause-made
returns-in-Err-clause-made g c =
    let zs : List ℤ = drop c.args.from c.args.words.now.items in
    let all : List ℤ = c.as_slice.result.now in
    let here : List ℤ = take (length all - c.args.from) (drop c.args.from all) in
    let part : here ≡ zs = take_rest all c.args.from ∙ ap (drop c.args.from) c.as_slice.ensures.value in
    record {
      made = λ s stands whole other.
          make_ended g.R.Store.Means (slots c.args.memory.now s) c.args.kinds.now zs (slot_values c.args.kinds.now here) c.in-Err.stop c.allocate.new.self whole
          (ap (slot_values c.args.kinds.now) part) (c.in-Err.ensures.made s stands other);
    }

pub returns-clause-made : goal.returns-clause-made
returns-clause-made g c =
    let zs : List ℤ = drop c.args.from c.args.words.now.items in
    let all : List ℤ = c.as_slice.result.now in
    let here : List ℤ = take (length all - c.args.from) (drop c.args.from all) in
    let part : here ≡ zs = take_rest all c.args.from ∙ ap (drop c.args.from) c.as_slice.ensures.value in
    let fits : SFits w64 c.in-Ok.word = search rules in
    let last : c.push.new.self.items ≡ c.truncate.new.self.items ++ c.in-Ok.word ∷ [] = rw (to_z-of_z w64 c.in-Ok.word fits) at c.in_ok-push.ensures.items in
    let pushed : c.push.new.self.items ≡ take c.args.from c.args.words.now.items ++ c.in-Ok.word ∷ [] = last ∙ ap (λ l. l ++ c.in-Ok.word ∷ []) c.truncate.ensures.items in
    record {
      made = λ s stands whole.
          make_given g.R.Store.Means (slots c.args.memory.now s) c.args.kinds.now zs (slot_values c.args.kinds.now here) c.in-Ok.word c.allocate.new.self
          (take c.args.from c.args.words.now.items) c.push.new.self.items whole (ap (slot_values c.args.kinds.now) part) (c.in-Ok.ensures.made s stands) pushed;
    }
