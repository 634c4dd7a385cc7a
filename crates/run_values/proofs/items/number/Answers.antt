use Rattle.run_values.proofs.Numbers.{number_from}
use Rattle.run_values.proofs.items.number.Goals as goal

pub returns-in-Ok : goal.returns-in-Ok
returns-in-Ok c =
    let same = c.in-Ok.ensures.cases.0 in
    let parsed = c.parse.ensures.value.0 in
    let value = c.ok.ensures.value in
    number_from c.args.text.now c.in-Ok.text.now c.parse.result c.ok.result same parsed value
