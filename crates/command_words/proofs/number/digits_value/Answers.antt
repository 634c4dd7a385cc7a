use Rattle.std.proofs.Common.{sym, ◌∙◌}
use Rattle.command_words.proofs.Digits.{number_from}
use Rattle.command_words.proofs.number.digits_value.Goals as goal

pub returns-then-are_digits : goal.returns-then-are_digits
returns-then-are_digits c =
    number_from c.args.text.now c.parse.result c.ok.result (sym c.are_digits.ensures ∙ c.if-are_digits.true) c.requires.few c.parse.ensures.value.0 c.ok.ensures.value
