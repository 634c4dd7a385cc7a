-- Lines and columns stay below a bound, since each byte adds one at most.
use Rattle.std.proofs.Common.{ℕ, ◌+◌, ◌-◌, ◌≤◌, length, take, drop, arith}
use Rattle.std.proofs.lemmas.List.{take_rest, length-drop, length-take-le}
use Rattle.ada_lexer.specs.Characters.{Text}

pub still_fits : (limit before after len : ℕ) (text : Text) → len ≤ length text → after ≤ before + length (take len text)
    → before + length text ≤ limit → after + length (take (length text - len) (drop len text)) ≤ limit
still_fits limit before after len text within added fits =
    rw take_rest (omega (arith, length-drop len text, length-take-le len text within))
