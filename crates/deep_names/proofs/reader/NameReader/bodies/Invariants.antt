use Rattle.std.proofs.Common.{◌≡◌, drop}
use Rattle.deep_names.specs.Found.{earlier_of}
use Rattle.deep_names.specs.Programs.{bodies_deep}
use Rattle.deep_names.specs.Turns.{code, site}
use Rattle.deep_names.proofs.reader.NameReader.bodies.Given as goal

abbrev pub invariant-bodies : goal.invariant-bodies
invariant-bodies l =
    earlier_of l.found (bodies_deep (site l.self) (code l.self) (drop l.i (site l.self).subs) (drop l.i l.bodies))
    ≡ bodies_deep (site l.self) (code l.self) (site l.self).subs l.bodies
