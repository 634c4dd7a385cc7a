use Rattle.std.proofs.Common.{◌≡◌, ◌+◌, ◌-◌, ◌++◌, List, ℕ, length, map, ap, ◌∙◌, arith, length-append}
use Rattle.type_definitions.specs.Types.{words}
use Rattle.machine.specs.Words.{in_each, offsets}
use Rattle.type_words.proofs.Parts.{each_next}
use Rattle.type_words.proofs.offsets.+offsets.Goals as goal

pub push_elements-elements-preserved : goal.push_elements-elements-preserved
push_elements-elements-preserved t c =
    let os : List ℕ = offsets c.args.table.now c.args.element c.args.rest.now in
    let size : ℕ = words c.args.table.now c.args.element in
    let e : c.push_part.new.offsets.items ≡ c.elements.offsets.items ++ map (λ o. c.elements.at + o) os = c.in_ok-push_part.ensures in
    let a : c.in_ok-at.at ≡ c.elements.at + size = c.in_ok-at.ensures ∙ ap (λ n. c.elements.at + n) c.words-size.ensures in
    record {
      done =
          ap (λ l. l ++ in_each (c.args.count - (c.elements._element + 1)) size c.in_ok-at.at os) e
          ∙ ap (λ k. (c.elements.offsets.items ++ map (λ o. c.elements.at + o) os) ++ in_each (c.args.count - (c.elements._element + 1)) size k os) a
          ∙ each_next c.elements.offsets.items os c.args.count c.elements._element size c.elements.at (omega (arith, c.elements-test.true))
          ∙ c.elements.invariant.done;
      more = omega (arith, c.elements.invariant.more, ap length e, length-append c.elements.offsets.items (map (λ o. c.elements.at + o) os));
      none = c.elements.invariant.none;
    }
