use Rattle.std.proofs.Common.{arith}
use Rattle.ada_lexer.proofs.Values.{too_large}
use Rattle.ada_lexer.proofs.number.number_value.Goals as goal

pub returns-in_err-value : goal.returns-in_err-value
returns-in_err-value c =
    let large = too_large c.digits.value c.digits.b-index c.args.digits.now (omega arith) c.digits.invariant.0 c.in_err-value.ensures in
    rw c.from_residual.ensures large
