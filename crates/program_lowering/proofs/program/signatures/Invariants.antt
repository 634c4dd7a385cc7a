use Rattle.std.proofs.Common.{◌≡◌, map, take}
use Rattle.program_lowering.specs.Subs.{signature_of}
use Rattle.program_lowering.proofs.program.signatures.Given as goal

abbrev pub invariant-subs : goal.invariant-subs
invariant-subs l = l.made.items ≡ map signature_of (take l.sub-index l.subs)
