use Rattle.std.proofs.Common.{◌≤◌, length, map, arith}
use Rattle.flow_paths.specs.Objects.{sub_at}
use Rattle.program_typing.specs.Typings.{typing}
use Rattle.program_typing.specs.Passings.{passing_of}
use Rattle.program_typing.proofs.Ways.{passings_made}
use Rattle.program_typing.proofs.typing.ProgramTyping.passings.Goals as goal

pub returns : goal.returns
returns c =
    let all : length c.formals-formal-items.result.now ≤ c.formals.formal-index = grind (arith, c.formals-test.false) in
    passings_made (typing c.args.self.now) (sub_at (typing c.args.self.now) c.args.sub) (map passing_of c.formals.ways.items)
    c.formals-formal-items.result.now c.formals.formal-index _ _ _ _ c.formals.invariant all c.traverses-traversed.ensures
    c.is_procedure-procedure.ensures c.result-result.ensures c.formals-formal-items.ensures
