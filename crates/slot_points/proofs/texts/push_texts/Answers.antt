use Rattle.std.proofs.Common.{◌<◌, ◌≤◌, length, rules}
use Rattle.std.proofs.lemmas.Result.{err_from_is_err_and}
use Rattle.slot_points.proofs.Strings.{left_first, next_there, next_whole_piece, next_stops, left_next, left_last}
use Rattle.slot_points.proofs.texts.push_texts.Goals as goal

pub push_text-requires-clause-there : goal.push_text-requires-clause-there
push_text-requires-clause-there g c =
    let below : c.texts.text-index < length c.args.texts.now = search rules in
    next_there g.R.Store.Means c.args.memory.now c.args.table.now c.args.rows.now c.args.texts.now c.texts.text-index _ c.args.out.now.items c.texts.out.items below c.texts.invariant

pub push_text-requires-clause-whole : goal.push_text-requires-clause-whole
push_text-requires-clause-whole g c =
    let below : c.texts.text-index < length c.args.texts.now = search rules in
    next_whole_piece g.R.Store.Means c.args.memory.now c.args.table.now c.args.rows.now c.args.texts.now c.texts.text-index _ c.args.out.now.items c.texts.out.items below c.texts.invariant c.requires.whole

pub returns-in_err-push_text : goal.returns-in_err-push_text
returns-in_err-push_text g c =
    let below : c.texts.text-index < length c.args.texts.now = search rules in
    let p = err_from_is_err_and c.from_residual.result c.from_residual.ensures.1 in
    rw (p.1, p.2) (next_stops g.R.Store.Means c.args.memory.now c.args.table.now c.args.rows.now c.args.texts.now c.texts.text-index _ c.args.out.now.items c.texts.out.items below c.texts.invariant _ _ c.in_err-push_text.ensures)

pub texts-preserved : goal.texts-preserved
texts-preserved g c =
    let below : c.texts.text-index < length c.args.texts.now = search rules in
    left_next g.R.Store.Means c.args.memory.now c.args.table.now c.args.rows.now c.args.texts.now c.texts.text-index _ c.args.out.now.items c.texts.out.items below c.texts.invariant _ _ c.in_ok-push_text.ensures

pub texts-init : goal.texts-init
texts-init g c = left_first g.R.Store.Means c.args.memory.now c.args.table.now c.args.rows.now c.args.texts.now c.args.out.now.items c.requires.there

pub returns : goal.returns
returns g c =
    let past : length c.args.texts.now ≤ c.texts.text-index = search rules in
    left_last g.R.Store.Means c.args.memory.now c.args.table.now c.args.rows.now c.args.texts.now c.texts.text-index c.args.out.now.items c.texts.out.items past c.texts.invariant _
