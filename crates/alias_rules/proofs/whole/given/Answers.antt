use Rattle.std.proofs.Common.{ap, sym}
use Rattle.flow_paths.specs.Objects.{Signature}
use Rattle.alias_rules.proofs.Subs.{sig_got}
use Rattle.alias_rules.proofs.whole.given.Goals as goal

pub returns-in-Some : goal.returns-in-Some
returns-in-Some c =
    let got = c.in-Some.ensures.lookup in
    ap (λ (s : Signature). s.result) (sym (sig_got c.args.laid.now c.args.callee c.as_slice.result.now c.in-Some.sub.now c.in-Some.sub.now c.as_slice.ensures got.3.0 got.1))
