use Rattle.std.proofs.Common.{length}
use Rattle.laid_program.specs.Programs.{program_of}
use Rattle.call_effects.specs.Spreads.{AreOrdered, AreListed}
use Rattle.call_effects.proofs.lists.used.Given as goal

abbrev pub invariant-objects : goal.invariant-objects
invariant-objects l =
    AreOrdered (length l.laid.subs) l.g l.lists.items × AreListed l.writes (program_of l.laid) l.g l.lists.items
