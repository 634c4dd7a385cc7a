use Rattle.std.proofs.Common.{Result, Ok, Err}
use Rattle.std.specs.Prelude.{IfOk}
use Rattle.run_ready.specs.Tests.{IsReady}
use Rattle.run_ready.proofs.Tables.{types_are}
use Rattle.run_ready.proofs.Entering.{frames_are}
use Rattle.run_ready.proofs.ready.lower_ready.Goals as goal

given : {A E P : Type 0} (result : Result A E) → P → IfOk result (λ a. P)
given (Ok a) p = p
given (Err e) p = tt

pub returns-in-Ok-true-clause-types : goal.returns-in-Ok-true-clause-types
returns-in-Ok-true-clause-types c =
    let ready : IsReady c.args.laid.now = c.in-Ok-true.ensures.sound c.in-Ok-true.field-0-test in
    given c.lower.result (types_are c.args.laid.now ready.types)

pub returns-in-Ok-true-clause-frames : goal.returns-in-Ok-true-clause-frames
returns-in-Ok-true-clause-frames c =
    let ready : IsReady c.args.laid.now = c.in-Ok-true.ensures.sound c.in-Ok-true.field-0-test in
    given c.lower.result (frames_are c.args.laid.now ready.frames)
