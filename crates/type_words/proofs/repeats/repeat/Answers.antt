use Rattle.std.proofs.Common.{◌≡◌, ◌++◌, drop, length, length-append, OnOk, ap, ◌∙◌, sym, subst, arith}
use Rattle.type_words.proofs.Copies.{one_copied, begins_slice, begins_more, copies_next}
use Rattle.type_words.proofs.repeats.repeat.Goals as goal

pub returns-then-end-first-eq1 : goal.returns-then-end-first-eq1
returns-then-end-first-eq1 g c =
    subst (λ l. OnOk c.push_times.result (c.push_times.new.items.items ≡ c.args.items.now.items ++ l))
    (sym (one_copied c.args.items.now.items c.args.first c.args.times c.index.result.now (omega (arith, c.if-end-first-eq1.true, c.len-end.ensures)) c.index.ensures))
    c.push_times.ensures

pub times-preserved : goal.times-preserved
times-preserved g c =
    let e : c.extend_from_within.new.self.items ≡ c.times.items.items ++ drop c.args.first c.args.items.now.items =
    c.in_ok-extend_from_within.ensures.items
    ∙ ap (λ b. c.times.items.items ++ b) (begins_slice c.args.items.now.items c.times.items.items c.args.first c.len-end.result c.requires c.times.invariant.end c.times.invariant.front) in
    record {
      done = copies_next c.args.times c.times._time (drop c.args.first c.args.items.now.items) c.times.items.items c.extend_from_within.new.self.items (omega (arith, c.times-test.true)) e ∙ c.times.invariant.done;
      front = begins_more c.args.items.now.items c.times.items.items (drop c.args.first c.args.items.now.items) c.extend_from_within.new.self.items e c.times.invariant.front;
      more = omega (arith, c.times.invariant.more, ap length e, length-append c.times.items.items (drop c.args.first c.args.items.now.items));
      end = c.times.invariant.end;
    }
