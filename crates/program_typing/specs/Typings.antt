-- The typing of a program, as the definitions have it.
use Rattle.flow_paths.specs.Objects.{Typing}
use Rattle.program_typing.specs.declared.typing.ProgramTyping.{ProgramTyping}

abbrev pub typing : ProgramTyping → Typing
typing p = record { table = p.table.now; objects = p.objects.now; subs = p.subs.now }
