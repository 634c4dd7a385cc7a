use Rattle.std.proofs.Common.{◌<◌, ◌∙◌, ℕ, List, sym, ap, subst, length, get_or, arith}
use Rattle.std.proofs.lemmas.Result.{err_from_is_err_and}
use Rattle.place_names.specs.declared.fact.Fact.{Fact}
use Rattle.state_trees.proofs.Touched.{touched_within}
use Rattle.state_trees.proofs.Tested.{Testing, testing_begins, testing_goes_on, testing_keeps, testing_stops, testing_ends}
use Rattle.borrow_observe.specs.LoanRules.{loans_forbid}
use Rattle.borrow_observe.proofs.Untouched.{loans_untouched}
use Rattle.borrow_observe.proofs.test.test_loans.Goals as goal

pub numbers-init : goal.numbers-init
numbers-init c =
    let act = c.args.act.now in
    testing_begins act (loans_forbid act) c.args.tree.now c.touched-numbers.result c.args.found.now.items
    c.facts-facts.ensures.kept c.touched-numbers.ensures (loans_untouched act)

pub may-requires : goal.may-requires
may-requires c =
    touched_within c.args.act.now c.args.tree.now.facts c.touched-numbers.result c.numbers.k c.at-i.result c.touched-numbers.ensures
    c.at-i.ensures (omega (arith, c.numbers-test.true, c.len-k-end.ensures))

pub bounds-facts-i : goal.bounds-facts-i
bounds-facts-i c =
    let there : c.at-i.result < length c.args.tree.now.facts =
    touched_within c.args.act.now c.args.tree.now.facts c.touched-numbers.result c.numbers.k c.at-i.result c.touched-numbers.ensures
    c.at-i.ensures (omega (arith, c.numbers-test.true, c.len-k-end.ensures)) in
    subst (λ (l : List Fact). c.at-i.result < length l) (sym c.facts-facts.ensures.value) there

pub add_forbidden_if-requires : goal.add_forbidden_if-requires
add_forbidden_if-requires c =
    let keeps = testing_keeps (loans_forbid c.args.act.now) c.args.tree.now c.touched-numbers.result c.args.found.now.items
    c.numbers.found.items c.numbers.k c.numbers.invariant in
    omega (arith, keeps, c.len-start.ensures, c.args.found.now.ok.0, c.numbers.found.ok.0)

pub numbers-preserved : goal.numbers-preserved
numbers-preserved c =
    let act = c.args.act.now in
    let state = c.args.tree.now in
    let numbers : List ℕ = c.touched-numbers.result in
    let k : ℕ = c.numbers.k in
    let i : ℕ = c.at-i.result in
    let d = c.index-facts-i.result in
    let among : k < length numbers = omega (arith, c.numbers-test.true, c.len-k-end.ensures) in
    testing_goes_on act (loans_forbid act) state numbers c.args.found.now.items c.numbers.found.items c.add_forbidden_if.new.found.items
    k i c.len-start.result d d c.may.result c.facts-facts.ensures.kept c.touched-numbers.ensures (loans_untouched act) c.numbers.invariant
    among c.at-i.ensures (touched_within act state.facts numbers k i c.touched-numbers.ensures c.at-i.ensures among)
    (omega (arith, c.args.found.now.ok.0, c.len-start.ensures))
    (c.index-facts-i.is ∙ ap (λ (l : List Fact). get_or l i d) c.facts-facts.ensures.value) c.may.ensures c.in_ok-add_forbidden_if.ensures.ok

pub returns-in_err-add_forbidden_if : goal.returns-in_err-add_forbidden_if
returns-in_err-add_forbidden_if c =
    let act = c.args.act.now in
    let fault = err_from_is_err_and c.from_residual.result c.from_residual.ensures.1 in
    let stopped = subst (λ items. Testing (loans_forbid act) c.args.tree.now c.touched-numbers.result c.args.found.now.items items c.numbers.k)
    (sym c.in_err-add_forbidden_if.ensures.err) c.numbers.invariant in
    rw fault.1 (testing_stops (loans_forbid act) c.args.tree.now c.touched-numbers.result c.args.found.now.items
    c.add_forbidden_if.new.found.items c.numbers.k stopped)

pub returns : goal.returns
returns c =
    testing_ends (loans_forbid c.args.act.now) c.args.tree.now c.touched-numbers.result c.args.found.now.items c.numbers.found.items
    c.numbers.k c.facts-facts.ensures.kept c.numbers.invariant (omega (arith, c.numbers-test.false, c.len-k-end.ensures))
