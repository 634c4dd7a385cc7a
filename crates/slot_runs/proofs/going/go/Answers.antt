use Rattle.std.proofs.Common.{◌-◌, refl, sym, subst, ◌∙◌, arith}
use Rattle.slot_runs.specs.declared.stepping.Turn.TheVariants as turn
use Rattle.slot_runs.specs.Goings.{IsGoing, LeadsOn}
use Rattle.slot_runs.proofs.Gone.{stays, leads_on, going_on}
use Rattle.slot_runs.proofs.going.go.Goals as goal

pub rounds-init : goal.rounds-init
rounds-init g c = (stays (g.S.Stepping.setting c.args.run.now) c.args.limit (g.S.Stepping.untold c.args.run.now) (g.S.Stepping.Stands c.args.run.now), refl, omega arith, refl)

pub steps-requires-clause-going : goal.steps-requires-clause-going
steps-requires-clause-going g c =
    subst (λ s. IsGoing s (c.args.limit - c.rounds.made) (g.S.Stepping.untold c.rounds.run) (g.S.Stepping.Stands c.rounds.run)) (sym c.rounds.invariant.1)
    (going_on (g.S.Stepping.setting c.args.run.now) c.args.limit c.rounds.made (g.S.Stepping.untold c.args.run.now) (g.S.Stepping.untold c.rounds.run)
    (g.S.Stepping.Stands c.args.run.now) (g.S.Stepping.Stands c.rounds.run) c.rounds.invariant.2 c.requires.going c.rounds.invariant.0)

pub rounds-preserved : goal.rounds-preserved
rounds-preserved g c =
    let more =
    subst (λ s. LeadsOn s (c.args.limit - c.rounds.made) (g.S.Stepping.untold c.rounds.run) (g.S.Stepping.Stands c.rounds.run) c.in-Ok-default-On.more turn.On (g.S.Stepping.untold c.steps.new.self) (g.S.Stepping.Stands c.steps.new.self)) c.rounds.invariant.1
    (subst (λ t. LeadsOn (g.S.Stepping.setting c.rounds.run) (c.args.limit - c.rounds.made) (g.S.Stepping.untold c.rounds.run) (g.S.Stepping.Stands c.rounds.run) c.in-Ok-default-On.more t (g.S.Stepping.untold c.steps.new.self) (g.S.Stepping.Stands c.steps.new.self)) c.in-Ok-default-On.field-0-1-is c.in-Ok-default-On.ensures.led) in
    let below = c.rounds-test.true in
    let few = c.in-Ok-default-On.ensures.few in (
      leads_on (g.S.Stepping.setting c.args.run.now) c.args.limit c.rounds.made c.in-Ok-default-On.more (g.S.Stepping.untold c.args.run.now) (g.S.Stepping.untold c.rounds.run) (g.S.Stepping.untold c.steps.new.self)
          (g.S.Stepping.Stands c.args.run.now) (g.S.Stepping.Stands c.rounds.run) (g.S.Stepping.Stands c.steps.new.self) turn.On c.rounds.invariant.2 c.rounds.invariant.0 more,
      c.in-Ok-default-On.ensures.setting ∙ c.rounds.invariant.1,
      omega (arith, below, few),
      c.in-Ok-default-On.ensures.lent ∙ c.rounds.invariant.3,
    )

pub returns-then-is_to_tell-clause-led : goal.returns-then-is_to_tell-clause-led
returns-then-is_to_tell-clause-led g c =
    let more =
    subst (λ s. LeadsOn s (c.args.limit - c.rounds.made) (g.S.Stepping.untold c.rounds.run) (g.S.Stepping.Stands c.rounds.run) c.in-Ok-default-On.more turn.On (g.S.Stepping.untold c.steps.new.self) (g.S.Stepping.Stands c.steps.new.self)) c.rounds.invariant.1
    (subst (λ t. LeadsOn (g.S.Stepping.setting c.rounds.run) (c.args.limit - c.rounds.made) (g.S.Stepping.untold c.rounds.run) (g.S.Stepping.Stands c.rounds.run) c.in-Ok-default-On.more t (g.S.Stepping.untold c.steps.new.self) (g.S.Stepping.Stands c.steps.new.self)) c.in-Ok-default-On.field-0-1-is c.in-Ok-default-On.ensures.led) in
    leads_on (g.S.Stepping.setting c.args.run.now) c.args.limit c.rounds.made c.in-Ok-default-On.more (g.S.Stepping.untold c.args.run.now) (g.S.Stepping.untold c.rounds.run) (g.S.Stepping.untold c.steps.new.self)
    (g.S.Stepping.Stands c.args.run.now) (g.S.Stepping.Stands c.rounds.run) (g.S.Stepping.Stands c.steps.new.self) turn.On c.rounds.invariant.2 c.rounds.invariant.0 more

pub returns-in-Ok-default-Ends-clause-led : goal.returns-in-Ok-default-Ends-clause-led
returns-in-Ok-default-Ends-clause-led g c =
    let more =
    subst (λ s. LeadsOn s (c.args.limit - c.rounds.made) (g.S.Stepping.untold c.rounds.run) (g.S.Stepping.Stands c.rounds.run) c.in-Ok-default-Ends.more (turn.Ends c.in-Ok-default-Ends.ending) (g.S.Stepping.untold c.steps.new.self) (g.S.Stepping.Stands c.steps.new.self)) c.rounds.invariant.1
    (subst (λ t. LeadsOn (g.S.Stepping.setting c.rounds.run) (c.args.limit - c.rounds.made) (g.S.Stepping.untold c.rounds.run) (g.S.Stepping.Stands c.rounds.run) c.in-Ok-default-Ends.more t (g.S.Stepping.untold c.steps.new.self) (g.S.Stepping.Stands c.steps.new.self)) c.in-Ok-default-Ends.field-0-1-is c.in-Ok-default-Ends.ensures.led) in
    leads_on (g.S.Stepping.setting c.args.run.now) c.args.limit c.rounds.made c.in-Ok-default-Ends.more (g.S.Stepping.untold c.args.run.now) (g.S.Stepping.untold c.rounds.run) (g.S.Stepping.untold c.steps.new.self)
    (g.S.Stepping.Stands c.args.run.now) (g.S.Stepping.Stands c.rounds.run) (g.S.Stepping.Stands c.steps.new.self) (turn.Ends c.in-Ok-default-Ends.ending) c.rounds.invariant.2 c.rounds.invariant.0 more
