use Rattle.std.proofs.Common.{◌≡◌, map, take}
use Rattle.lay_out.specs.Known.{signature_of}
use Rattle.lay_out.proofs.known.signatures.Given as goal

abbrev pub invariant-subs : goal.invariant-subs
invariant-subs l = l.made.items ≡ map signature_of (take l.sub-index l.subs)
