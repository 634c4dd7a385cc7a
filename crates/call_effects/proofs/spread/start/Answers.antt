use Rattle.std.proofs.Common.{◌<◌, subst, refl, ℕ, length, get_or, arith}
use Rattle.spark_base.specs.Lists.{Has}
use Rattle.call_effects.proofs.Spreading.{get_has, came, spreading_none, spreading_on, starting_none, starting_more, starting_all}
use Rattle.call_effects.proofs.spread.start.Goals as goal

pub users-init : goal.users-init
users-init c = (
  spreading_none c.args.g c.args.lists.now.items c.args.work.now.items c.requires.upto (λ a h. absurd (subst (λ w. Has w a) c.requires.empty h)),
  starting_none c.args.g c.args.users.now c.args.lists.now.items c.args.work.now.items c.requires.fresh,
)

pub reach-requires-clause-within : goal.reach-requires-clause-within
reach-requires-clause-within c =
    let p : ℕ = get_or c.args.users.now c.users.p-index 0 in
    let below = c.requires.within p (get_has c.args.users.now c.users.p-index 0 c.users-test.true) in
    let count = c.users.invariant.0.adds.count in
    omega (arith, c.users.lists.ok.0, c.args.lists.now.ok.0, below, count)

pub users-preserved : goal.users-preserved
users-preserved c =
    let p : ℕ = get_or c.args.users.now c.users.p-index 0 in
    let below = c.requires.within p (get_has c.args.users.now c.users.p-index 0 c.users-test.true) in
    let count = c.users.invariant.0.adds.count in
    let within : p < length c.users.lists.items = omega (arith, c.users.lists.ok.0, c.args.lists.now.ok.0, below, count) in
    let one = came c.args.g p c.users.lists.items c.reach.new.lists.items c.users.work.items c.reach.new.work.items within c.users.invariant.0.upto
    c.in_ok-reach.ensures in (
      spreading_on c.args.g p c.args.lists.now.items c.users.lists.items c.reach.new.lists.items c.users.work.items c.reach.new.work.items c.users.invariant.0 one,
      starting_more c.args.g c.users.p-index p c.args.users.now c.users.lists.items c.reach.new.lists.items c.users.work.items c.reach.new.work.items
          c.users-test.true refl c.users.invariant.1 one,
    )

pub returns-clause-started : goal.returns-clause-started
returns-clause-started c = starting_all c.args.g c.users.p-index c.args.users.now c.users.lists.items c.users.work.items c.users-test.false c.users.invariant.1
