use Rattle.std.proofs.Common.{◌≡◌, map, take}
use Rattle.program_typing.specs.Typings.{typing}
use Rattle.lay_out.specs.Known.{has_end}
use Rattle.lay_out.proofs.known.ends_of.Given as goal

abbrev pub invariant-objects : goal.invariant-objects
invariant-objects l = l.ends.items ≡ map (λ x. has_end (typing l.known) x.of) (take l.object-index l.object-items)
