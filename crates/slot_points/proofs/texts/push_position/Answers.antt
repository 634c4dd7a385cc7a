use Rattle.std.proofs.Common.{rules}
use Rattle.std.proofs.lemmas.Result.{err_from_is_err_and}
use Rattle.std.proofs.lemmas.Int.{to_z-of_z}
use mir.Syntax.{w64}
use mir.Val.{SFits}
use Rattle.code_rows.specs.Rows.{code_at}
use Rattle.slot_points.specs.Steps.{literal_written}
use Rattle.slot_points.proofs.Strings.{word_whole, word_stops, word_added}
use Rattle.slot_points.proofs.texts.push_position.Goals as goal

pub word-requires-clause-whole : goal.word-requires-clause-whole
word-requires-clause-whole g c = word_whole g.R.Store.Means c.args.memory.now (code_at c.args.nodes.now c.args.value) (literal_written c.args.table.now c.args.of) c.requires.whole

pub returns-in_err-word : goal.returns-in_err-word
returns-in_err-word g c =
    let p = err_from_is_err_and c.from_residual.result c.from_residual.ensures.1 in
    rw (p.1, p.2) (word_stops g.R.Store.Means c.args.memory.now (code_at c.args.nodes.now c.args.value) (literal_written c.args.table.now c.args.of) _ _ _ c.in_err-word.ensures)

pub returns : goal.returns
returns g c =
    let fits : SFits w64 c.in_ok-word.word = search rules in
    let added = rw (to_z-of_z w64 c.in_ok-word.word fits) at c.push_literal.ensures in
    word_added g.R.Store.Means c.args.memory.now (code_at c.args.nodes.now c.args.value) (literal_written c.args.table.now c.args.of) c.in_ok-word.word _ _ _ c.in_ok-word.ensures added
