use Rattle.std.proofs.Common.{◌≡◌, ◌≤◌, map, string_bytes, ℕ, ◌+◌, ◌-◌, refl, sym, ◌∙◌, subst, arith}
use Rattle.machine.specs.States.{Spent}
use Rattle.run_results.specs.Results.{ending_of}
use Rattle.slot_runs.specs.declared.stepping.Turn.{Turn}
use Rattle.slot_runs.specs.declared.stepping.Turn.TheVariants as turn
use Rattle.slot_runs.specs.Turns.{Setting, Untold, Inside, state_of}
use Rattle.slot_runs.specs.Tellings.{Sinks}
use Rattle.slot_runs.specs.Underway.{IsUnderway}
use Rattle.slot_runs.specs.Answers.{Writes, Cuts}
use Rattle.slot_runs.specs.Goings.{IsGoing, LeadsOn}
use Rattle.slot_runs.proofs.Kept.{if_ok, on_err, for_err, ok_apart, begun, all_spent, told_on, underway_cut, over_cut}
use Rattle.slot_runs.proofs.Owed.{none_cut}
use Rattle.slot_runs.proofs.Gone.{left_there, gone_on, gone_ends}
use Rattle.slot_runs.proofs.whole.run_whole.Goals as goal

same_there : (limit steps : ℕ) → limit ≤ steps → steps ≤ limit → steps ≡ limit
same_there limit steps more few = omega (arith, more, few)

-- What `go` led to, from where the loop stands.
led_as : (c d : Setting) (limit : ℕ) (u v : Untold) (S T : Inside → Type 0) (made : ℕ) (t r : Turn) → c ≡ d → t ≡ r → LeadsOn c limit u S made t v T → LeadsOn d limit u S made r v T
led_as c d limit u v S T made t r same is led = subst (λ s. LeadsOn s limit u S made r v T) same (subst (λ t. LeadsOn c limit u S made t v T) is led)

pub steps-init : goal.steps-init
steps-init g c =
    let start : Sinks = record { output = g.K.Sink.written c.args.out.now; lines = g.K.Sink.written c.args.err.now } in
    let files = map string_bytes c.args.files.now in
    let u = g.S.Stepping.untold c.args.run.now in
    let S = g.S.Stepping.Stands c.args.run.now in
    let s = g.S.Stepping.setting c.args.run.now in (
      λ x can. subst (λ l. IsUnderway files s start start l 0 (state_of u x) 0 u S) (sym c.new.ensures.items) (begun files s start c.args.limit u S x can),
      refl,
      omega arith,
      refl,
      refl,
      refl,
    )

pub go-requires-clause-going : goal.go-requires-clause-going
go-requires-clause-going g c =
    let s = g.S.Stepping.setting c.args.run.now in
    let u = g.S.Stepping.untold c.args.run.now in
    let x = c.requires.known.0 in
    let can = c.requires.known.1 in
    subst (λ d. IsGoing d (c.args.limit - c.steps.steps) (g.S.Stepping.untold c.steps.run) (g.S.Stepping.Stands c.steps.run)) (sym c.steps.invariant.1)
    (record {
      files = map string_bytes c.args.files.now;
      start = record { output = g.K.Sink.written c.args.out.now; lines = g.K.Sink.written c.args.err.now };
      now = record { output = g.K.Sink.written c.steps.out; lines = g.K.Sink.written c.steps.err };
      lines = c.steps.told.lines.items;
      leaked = c.steps.told.leaked;
      first = state_of u x;
      steps = c.steps.steps;
      under = c.steps.invariant.0 x can;
      there = left_there s (state_of u x) c.args.limit c.steps.steps c.steps.invariant.2 can.there;
    })

pub returns-in-Ends-clause-written : goal.returns-in-Ends-clause-written
returns-in-Ends-clause-written g c =
    let files = map string_bytes c.args.files.now in
    let start : Sinks = record { output = g.K.Sink.written c.args.out.now; lines = g.K.Sink.written c.args.err.now } in
    let now : Sinks = record { output = g.K.Sink.written c.steps.out; lines = g.K.Sink.written c.steps.err } in
    let later : Sinks = record { output = g.K.Sink.written c.answer.new.out; lines = g.K.Sink.written c.answer.new.err } in
    let s = g.S.Stepping.setting c.args.run.now in
    let u = g.S.Stepping.untold c.args.run.now in
    if_ok {Q = λ ran. Writes files c.args.limit s u (g.S.Stepping.Stands c.args.run.now) (g.S.Stepping.Stands c.answer.new.run) ran start later} c.answer.result
    (λ ran written. λ x can. written s (state_of u x) c.args.limit start
    (gone_ends files s start now c.steps.told.lines.items c.steps.told.leaked (state_of u x) c.args.limit c.steps.steps c.in_ok-made.made
    (g.S.Stepping.untold c.steps.run) (g.S.Stepping.untold c.go.new.run) (g.S.Stepping.Stands c.steps.run) (g.S.Stepping.Stands c.go.new.run) c.in-Ends.ending
    c.steps.invariant.2 can.there (c.steps.invariant.0 x can)
    (led_as (g.S.Stepping.setting c.steps.run) s (c.args.limit - c.steps.steps) (g.S.Stepping.untold c.steps.run) (g.S.Stepping.untold c.go.new.run) (g.S.Stepping.Stands c.steps.run) (g.S.Stepping.Stands c.go.new.run) c.in_ok-made.made
    c.in_ok-made.turn (turn.Ends c.in-Ends.ending) c.steps.invariant.1 c.in-Ends.is c.in_ok-made.ensures.led)))
    c.answer.ensures.written

pub steps-preserved : goal.steps-preserved
steps-preserved g c =
    let files = map string_bytes c.args.files.now in
    let start : Sinks = record { output = g.K.Sink.written c.args.out.now; lines = g.K.Sink.written c.args.err.now } in
    let now : Sinks = record { output = g.K.Sink.written c.steps.out; lines = g.K.Sink.written c.steps.err } in
    let later : Sinks = record { output = g.K.Sink.written c.tell.new.out; lines = g.K.Sink.written c.tell.new.err } in
    let s = g.S.Stepping.setting c.args.run.now in
    let u = g.S.Stepping.untold c.args.run.now in
    let few = c.in_ok-made.ensures.few in (
      λ x can. told_on files s start now later c.steps.told.lines.items c.tell.new.told.lines.items c.steps.told.leaked c.tell.new.told.leaked (state_of u x)
          (c.steps.steps + c.in_ok-made.made) (g.S.Stepping.untold c.go.new.run) (g.S.Stepping.untold c.tell.new.run) (g.S.Stepping.Stands c.go.new.run) (g.S.Stepping.Stands c.tell.new.run)
          (gone_on files s start now c.steps.told.lines.items c.steps.told.leaked (state_of u x) c.args.limit c.steps.steps c.in_ok-made.made
          (g.S.Stepping.untold c.steps.run) (g.S.Stepping.untold c.go.new.run) (g.S.Stepping.Stands c.steps.run) (g.S.Stepping.Stands c.go.new.run)
          c.steps.invariant.2 can.there (c.steps.invariant.0 x can)
          (led_as (g.S.Stepping.setting c.steps.run) s (c.args.limit - c.steps.steps) (g.S.Stepping.untold c.steps.run) (g.S.Stepping.untold c.go.new.run) (g.S.Stepping.Stands c.steps.run) (g.S.Stepping.Stands c.go.new.run) c.in_ok-made.made
          c.in_ok-made.turn turn.On c.steps.invariant.1 c.in-On.is c.in_ok-made.ensures.led))
          c.in_ok-tell-in-On.ensures.told c.tell.ensures.stands,
      c.tell.ensures.setting ∙ c.go.ensures.setting ∙ c.steps.invariant.1,
      omega (arith, few, c.steps.invariant.2),
      c.in_ok-tell-in-On.ensures.no_fault_out (λ e. ok_apart _ _ e) ∙ c.steps.invariant.3,
      c.in_ok-tell-in-On.ensures.no_fault_err (λ e. ok_apart _ _ e) ∙ c.steps.invariant.4,
      c.tell.ensures.lent ∙ c.in_ok-made.ensures.lent ∙ c.steps.invariant.5,
    )

pub returns-clause-written : goal.returns-clause-written
returns-clause-written g c =
    let files = map string_bytes c.args.files.now in
    let start : Sinks = record { output = g.K.Sink.written c.args.out.now; lines = g.K.Sink.written c.args.err.now } in
    let now : Sinks = record { output = g.K.Sink.written c.steps.out; lines = g.K.Sink.written c.steps.err } in
    let later : Sinks = record { output = g.K.Sink.written c.answer-2.new.out; lines = g.K.Sink.written c.answer-2.new.err } in
    let s = g.S.Stepping.setting c.args.run.now in
    let u = g.S.Stepping.untold c.args.run.now in
    let past = c.steps-test.false in
    if_ok {Q = λ ran. Writes files c.args.limit s u (g.S.Stepping.Stands c.args.run.now) (g.S.Stepping.Stands c.answer-2.new.run) ran start later} c.answer-2.result
    (λ ran written. λ x can. written s (state_of u x) c.args.limit start
    (all_spent files s start now c.steps.told.lines.items c.steps.told.leaked (state_of u x) c.args.limit c.steps.steps (g.S.Stepping.untold c.steps.run) (g.S.Stepping.Stands c.steps.run)
    (same_there c.args.limit c.steps.steps (omega (arith, past)) c.steps.invariant.2) (c.steps.invariant.0 x can)))
    c.answer-2.ensures.written

pub returns-in_err-made-clause-cut : goal.returns-in_err-made-clause-cut
returns-in_err-made-clause-cut g c =
    let files = map string_bytes c.args.files.now in
    let start : Sinks = record { output = g.K.Sink.written c.args.out.now; lines = g.K.Sink.written c.args.err.now } in
    let now : Sinks = record { output = g.K.Sink.written c.steps.out; lines = g.K.Sink.written c.steps.err } in
    let s = g.S.Stepping.setting c.args.run.now in
    let u = g.S.Stepping.untold c.args.run.now in
    for_err {P = Cuts files c.args.limit s u (g.S.Stepping.Stands c.args.run.now) start now} _
    (λ x can. underway_cut files s start now now c.steps.told.lines.items c.steps.told.leaked (state_of u x) c.args.limit c.steps.steps (g.S.Stepping.untold c.steps.run) (g.S.Stepping.Stands c.steps.run)
    c.steps.invariant.2 (c.steps.invariant.0 x can) (none_cut files now c.steps.told.lines.items c.steps.told.leaked (g.S.Stepping.untold c.steps.run)))

pub returns-in_err-tell-in-On-clause-cut : goal.returns-in_err-tell-in-On-clause-cut
returns-in_err-tell-in-On-clause-cut g c =
    let files = map string_bytes c.args.files.now in
    let start : Sinks = record { output = g.K.Sink.written c.args.out.now; lines = g.K.Sink.written c.args.err.now } in
    let now : Sinks = record { output = g.K.Sink.written c.steps.out; lines = g.K.Sink.written c.steps.err } in
    let later : Sinks = record { output = g.K.Sink.written c.tell.new.out; lines = g.K.Sink.written c.tell.new.err } in
    let s = g.S.Stepping.setting c.args.run.now in
    let u = g.S.Stepping.untold c.args.run.now in
    let few = c.in_ok-made.ensures.few in
    for_err {P = Cuts files c.args.limit s u (g.S.Stepping.Stands c.args.run.now) start later} _
    (λ x can. underway_cut files s start now later c.steps.told.lines.items c.steps.told.leaked (state_of u x) c.args.limit (c.steps.steps + c.in_ok-made.made) (g.S.Stepping.untold c.go.new.run) (g.S.Stepping.Stands c.go.new.run)
    (omega (arith, few, c.steps.invariant.2))
    (gone_on files s start now c.steps.told.lines.items c.steps.told.leaked (state_of u x) c.args.limit c.steps.steps c.in_ok-made.made
    (g.S.Stepping.untold c.steps.run) (g.S.Stepping.untold c.go.new.run) (g.S.Stepping.Stands c.steps.run) (g.S.Stepping.Stands c.go.new.run)
    c.steps.invariant.2 can.there (c.steps.invariant.0 x can)
    (led_as (g.S.Stepping.setting c.steps.run) s (c.args.limit - c.steps.steps) (g.S.Stepping.untold c.steps.run) (g.S.Stepping.untold c.go.new.run) (g.S.Stepping.Stands c.steps.run) (g.S.Stepping.Stands c.go.new.run) c.in_ok-made.made
    c.in_ok-made.turn turn.On c.steps.invariant.1 c.in-On.is c.in_ok-made.ensures.led))
    c.in_err-tell-in-On.ensures.front)

pub returns-in-Ends-clause-cut : goal.returns-in-Ends-clause-cut
returns-in-Ends-clause-cut g c =
    let files = map string_bytes c.args.files.now in
    let start : Sinks = record { output = g.K.Sink.written c.args.out.now; lines = g.K.Sink.written c.args.err.now } in
    let now : Sinks = record { output = g.K.Sink.written c.steps.out; lines = g.K.Sink.written c.steps.err } in
    let later : Sinks = record { output = g.K.Sink.written c.answer.new.out; lines = g.K.Sink.written c.answer.new.err } in
    let s = g.S.Stepping.setting c.args.run.now in
    let u = g.S.Stepping.untold c.args.run.now in
    on_err {Q = Cuts files c.args.limit s u (g.S.Stepping.Stands c.args.run.now) start later} c.answer.result
    (λ fronts. λ x can. over_cut files s start now later c.steps.told.lines.items c.steps.told.leaked (state_of u x) c.args.limit c.args.limit (ending_of c.in-Ends.ending) (c.steps.steps + c.in_ok-made.made)
    (g.S.Stepping.untold c.go.new.run) (g.S.Stepping.Stands c.go.new.run) (omega arith)
    (gone_ends files s start now c.steps.told.lines.items c.steps.told.leaked (state_of u x) c.args.limit c.steps.steps c.in_ok-made.made
    (g.S.Stepping.untold c.steps.run) (g.S.Stepping.untold c.go.new.run) (g.S.Stepping.Stands c.steps.run) (g.S.Stepping.Stands c.go.new.run) c.in-Ends.ending
    c.steps.invariant.2 can.there (c.steps.invariant.0 x can)
    (led_as (g.S.Stepping.setting c.steps.run) s (c.args.limit - c.steps.steps) (g.S.Stepping.untold c.steps.run) (g.S.Stepping.untold c.go.new.run) (g.S.Stepping.Stands c.steps.run) (g.S.Stepping.Stands c.go.new.run) c.in_ok-made.made
    c.in_ok-made.turn (turn.Ends c.in-Ends.ending) c.steps.invariant.1 c.in-Ends.is c.in_ok-made.ensures.led))
    fronts)
    c.answer.ensures.front

pub returns-clause-cut : goal.returns-clause-cut
returns-clause-cut g c =
    let files = map string_bytes c.args.files.now in
    let start : Sinks = record { output = g.K.Sink.written c.args.out.now; lines = g.K.Sink.written c.args.err.now } in
    let now : Sinks = record { output = g.K.Sink.written c.steps.out; lines = g.K.Sink.written c.steps.err } in
    let later : Sinks = record { output = g.K.Sink.written c.answer-2.new.out; lines = g.K.Sink.written c.answer-2.new.err } in
    let s = g.S.Stepping.setting c.args.run.now in
    let u = g.S.Stepping.untold c.args.run.now in
    let past = c.steps-test.false in
    on_err {Q = Cuts files c.args.limit s u (g.S.Stepping.Stands c.args.run.now) start later} c.answer-2.result
    (λ fronts. λ x can. over_cut files s start now later c.steps.told.lines.items c.steps.told.leaked (state_of u x) c.args.limit c.args.limit Spent c.steps.steps
    (g.S.Stepping.untold c.steps.run) (g.S.Stepping.Stands c.steps.run) (omega arith)
    (all_spent files s start now c.steps.told.lines.items c.steps.told.leaked (state_of u x) c.args.limit c.steps.steps (g.S.Stepping.untold c.steps.run) (g.S.Stepping.Stands c.steps.run)
    (same_there c.args.limit c.steps.steps (omega (arith, past)) c.steps.invariant.2) (c.steps.invariant.0 x can))
    fronts)
    c.answer-2.ensures.front
