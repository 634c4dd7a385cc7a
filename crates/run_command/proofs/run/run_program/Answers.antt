use Rattle.std.proofs.Common.{map, string_bytes}
use Rattle.laid_program.specs.Programs.{program_of}
use Rattle.run_command.proofs.Fronts.{at_err, read_front, refused_front, read_left, refused_left}
use Rattle.run_command.proofs.run.run_program.Goals as goal

pub returns-in_err-run_on-in-Some-clause-front : goal.returns-in_err-run_on-in-Some-clause-front
returns-in_err-run_on-in-Some-clause-front g c =
    at_err _
    (read_front (map string_bytes c.args.program.now.laid.names.items) (program_of c.args.program.now.laid) c.args.steps c.args.stats (g.S.Source.left c.args.input.now)
    c.in_ok-text.field-0 c.in-Some.text c.deref.result.now (g.K.Sink.written c.args.out.now) (g.K.Sink.written c.run_on.new.out)
    (g.K.Sink.written c.args.err.now) (g.K.Sink.written c.run_on.new.err) c.in_ok-text.ensures.bytes c.in-Some.is c.deref.ensures.value c.in_err-run_on-in-Some.ensures.front)

pub returns-in_err-refuse_input-in-None-clause-front : goal.returns-in_err-refuse_input-in-None-clause-front
returns-in_err-refuse_input-in-None-clause-front g c =
    at_err _
    (refused_front (map string_bytes c.args.program.now.laid.names.items) (program_of c.args.program.now.laid) c.args.steps c.args.stats (g.S.Source.left c.args.input.now)
    c.in_ok-text.field-0 (g.K.Sink.written c.args.out.now) (g.K.Sink.written c.args.err.now) (g.K.Sink.written c.refuse_input.new.err)
    c.in_ok-text.ensures.bytes c.in-None.is c.in_err-refuse_input-in-None.ensures.front)

pub returns-in_ok-run_on-in-Some-clause-left : goal.returns-in_ok-run_on-in-Some-clause-left
returns-in_ok-run_on-in-Some-clause-left g c =
    read_left g.R.Store.Means c.run_on.new.store (program_of c.args.program.now.laid) c.args.steps (g.S.Source.left c.args.input.now)
    c.in_ok-text.field-0 c.in-Some.text c.deref.result.now c.in_ok-text.ensures.bytes c.in-Some.is c.deref.ensures.value c.in_ok-run_on-in-Some.ensures.left

pub returns-in_ok-refuse_input-in-None-clause-left : goal.returns-in_ok-refuse_input-in-None-clause-left
returns-in_ok-refuse_input-in-None-clause-left g c =
    refused_left g.R.Store.Means c.args.store.now (program_of c.args.program.now.laid) c.args.steps (g.S.Source.left c.args.input.now)
    c.in_ok-text.field-0 c.in_ok-text.ensures.bytes c.in-None.is c.requires.store
