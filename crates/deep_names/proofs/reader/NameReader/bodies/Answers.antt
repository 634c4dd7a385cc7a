use Rattle.std.proofs.Common.{arith}
use Rattle.deep_names.specs.Turns.{code, site}
use Rattle.deep_names.proofs.Subprograms.{body_step, no_subs_left, no_bodies_left}
use Rattle.deep_names.proofs.reader.NameReader.bodies.Goals as goal

pub bodies-preserved : goal.bodies-preserved
bodies-preserved c =
    let w = c.args.self.now in
    body_step (site w) (code w) (site w).subs c.args.bodies.now c.bodies.i c.in-Some.signature.now c.result.result
    c.bodies.found c.code.result c.earlier-found.result _
    c.in-Some.ensures.lookup.3.0 c.in-Some.ensures.lookup.3.1 c.bodies-test.true
    c.result.ensures c.code.ensures c.earlier-found.ensures c.bodies.invariant

pub returns-in_default : goal.returns-in_default
returns-in_default c =
    let w = c.args.self.now in
    no_subs_left (site w) (code w) (site w).subs c.args.bodies.now c.bodies.i c.bodies.found _ c.in_default.ensures.lookup.3 c.bodies.invariant

pub returns : goal.returns
returns c =
    let w = c.args.self.now in
    no_bodies_left (site w) (code w) (site w).subs c.args.bodies.now c.bodies.i c.bodies.found _ (omega (arith, c.bodies-test.false)) c.bodies.invariant
