use Rattle.std.proofs.Common.{◌≡◌, ◌++◌, drop, map}
use Rattle.program_typing.specs.Typings.{typing}
use Rattle.program_typing.specs.Passings.{passing_of}
use Rattle.program_typing.specs.Ways.{ways_of}
use Rattle.program_typing.proofs.typing.ProgramTyping.passings.Given as goal

abbrev pub invariant-formals : goal.invariant-formals
invariant-formals l =
    map passing_of l.ways.items
    ++ ways_of (typing l.self) l.traversed l.procedure (drop l.formal-index l.formal-items)
    ≡ ways_of (typing l.self) l.initial.traversed l.procedure l.formal-items
