use Rattle.std.proofs.Common.{◌≡◌, ◌++◌, List, ℤ, replicate, refl, subst, arith, to_z, of_z, w64}
use Rattle.std.proofs.lemmas.Int.{to_z-of_z}
use Rattle.type_words.proofs.Copies.{several_more, last_ones}
use Rattle.type_words.proofs.repeats.push_word.Goals as goal

pub left-init : goal.left-init
left-init c = record { done = refl }

pub left-preserved : goal.left-preserved
left-preserved c = record {
  done = several_more c.left.words.items c.reserve.new.self.items c.extend_from_slice.new.self.items c.args.times c.left.left (to_z w64 (of_z w64 c.args.word))
      (omega (arith, c.left-test.true)) c.in_ok-extend_from_slice.ensures.items c.left.invariant.done;
}

pub returns : goal.returns
returns c =
    let word : to_z w64 (of_z w64 c.args.word) ≡ c.args.word = to_z-of_z w64 c.args.word c.ranges.word in
    subst (λ x. c.extend_from_slice-2.new.self.items ≡ c.args.words.now.items ++ replicate c.args.times x) word
    (subst (λ (l : List ℤ). c.extend_from_slice-2.new.self.items ≡ l ++ replicate c.args.times (to_z w64 (of_z w64 c.args.word))) c.in_ok-reserve.ensures.items
    (last_ones c.left.words.items c.reserve.new.self.items c.extend_from_slice-2.new.self.items c.args.times c.left.left (to_z w64 (of_z w64 c.args.word))
    (omega (arith, c.left-test.false)) c.in_ok-extend_from_slice-2.ensures.items c.left.invariant.done))
