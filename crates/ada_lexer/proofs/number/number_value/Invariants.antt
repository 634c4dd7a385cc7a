use Rattle.std.proofs.Common.{◌≡◌, ◌≤◌, drop}
use Rattle.std.specs.List.{fold}
use Rattle.ada_lexer.specs.Numbers.{with_digit, number_value, largest_number}
use Rattle.ada_lexer.proofs.number.number_value.Given as goal

abbrev pub invariant-digits : goal.invariant-digits
invariant-digits l =
    (fold with_digit l.value (drop l.b-index l.digits) ≡ number_value l.digits) × (l.value ≤ largest_number)
