use Rattle.std.proofs.Common.{Bool, subst, filter, take, nat_eq, ◌++◌, arith}
use Rattle.name_events.specs.Declarations.{Entry}
use Rattle.name_resolve.specs.Stands.{IndexStands}
use Rattle.name_resolve.proofs.Lists.{filtered_next, take_whole}
use Rattle.name_resolve.proofs.Symbols.{stands_at, stand_for_length}
use Rattle.name_resolve.proofs.declarations.end_all.Goals as goal

pub turns-preserved : goal.turns-preserved
turns-preserved c = (
  λ s. c.in_ok-end_one.ensures.holders (c.turns.invariant.0 s),
  λ words waiting before stand answers.
      let test : Entry → Bool = λ d. nat_eq c.args.region d.1.region in
      let next = stands_at words c.args.pending.now waiting c.turns.entry-index _ stand c.turns-test.true in
      let ends = c.in_ok-end_one.ensures.stands words next.entry (before ++ filter test (take c.turns.entry-index waiting)) next.name next.is
      (c.turns.invariant.1 words waiting before stand answers) in
      subst (IndexStands words c.end_one.new.ended) (filtered_next test before waiting c.turns.entry-index next.entry next.within next.at) ends,
)

pub returns-clause-stands : goal.returns-clause-stands
returns-clause-stands c words waiting before stand s =
    subst (λ xs. IndexStands words c.turns.ended (before ++ filter (λ d. nat_eq c.args.region d.1.region) xs))
    (take_whole waiting c.turns.entry-index (omega (arith, c.turns-test.false, stand_for_length words c.args.pending.now waiting stand)))
    (c.turns.invariant.1 words waiting before stand s)
