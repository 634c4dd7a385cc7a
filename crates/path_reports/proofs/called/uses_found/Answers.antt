use Rattle.std.proofs.Common.{◌<◌, ◌≤◌, ◌∙◌, ap, subst, length, get_or, arith}
use Rattle.path_reports.specs.Uses.{use_forbids}
use Rattle.path_reports.proofs.UsesGathered.{uses_begin, uses_go_on, uses_end}
use Rattle.path_reports.proofs.called.uses_found.Goals as goal

pub numbers-init : goal.numbers-init
numbers-init c =
    uses_begin (use_forbids c.args.count c.args.read.now c.args.written.now) c.args.tree.now c.new-found.result.items c.new-found.ensures.items

pub numbers-preserved : goal.numbers-preserved
numbers-preserved c =
    let i = c.numbers.i in
    let state = c.args.tree.now in
    let facts = c.facts-facts.ensures.value in
    let d = c.index-facts-i.result in
    uses_go_on (use_forbids c.args.count c.args.read.now c.args.written.now) state c.numbers.found.items c.add_use_where.new.found.items i
    d d c.may-may.result c.facts-facts.ensures.kept c.numbers.invariant (subst (λ l. i < length l) facts c.numbers-test.true)
    (c.index-facts-i.is ∙ ap (λ l. get_or l i d) facts) c.may-may.ensures c.in_ok-add_use_where.ensures

pub returns : goal.returns
returns c =
    let many : length c.facts-facts.result.now ≤ c.numbers.i = omega (arith, c.numbers-test.false) in
    uses_end (use_forbids c.args.count c.args.read.now c.args.written.now) c.args.tree.now c.numbers.found.items c.numbers.i
    c.facts-facts.ensures.kept c.numbers.invariant (subst (λ l. length l ≤ c.numbers.i) c.facts-facts.ensures.value many)
