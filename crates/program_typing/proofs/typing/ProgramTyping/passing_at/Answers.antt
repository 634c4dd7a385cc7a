use Rattle.program_typing.specs.Typings.{typing}
use Rattle.program_typing.proofs.Ways.{passing_some, passing_none}
use Rattle.flow_paths.specs.Objects.{sub_at}
use Rattle.program_typing.proofs.typing.ProgramTyping.passing_at.Goals as goal

pub returns-in-Some : goal.returns-in-Some
returns-in-Some c =
    passing_some (typing c.args.self.now) (sub_at (typing c.args.self.now) c.args.sub) c.args.i c.in-Some.formal.now _ _ _ _ _
    c.way.ensures c.goes_through.ensures c.is_procedure.ensures c.result-result.ensures c.formals.ensures c.in-Some.ensures.lookup.3.0 c.in-Some.ensures.lookup.3.1

pub returns-in-None : goal.returns-in-None
returns-in-None c =
    passing_none (typing c.args.self.now) (sub_at (typing c.args.self.now) c.args.sub) c.args.i _
    c.formals.ensures c.in-None.ensures.lookup.3
