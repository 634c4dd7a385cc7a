use Rattle.std.proofs.Common.{arith}
use Rattle.bare_points.proofs.layout.Layout.new.Goals as goal

pub returns-clause-ready : goal.returns-clause-ready
returns-clause-ready c = record {
  sizes = record {
    preps = c.requires.preps;
    spans = λ i lt. c.requires.spans i (omega (arith, lt, c.requires.whole));
    within = omega (arith, c.requires.whole);
  };
  whole = c.requires.whole;
}
