use Rattle.std.proofs.Common.{◌≡◌, ◌∙◌, ◌+◌, map, slice_range, rules, sym, ap, subst, IsTrue}
use Rattle.std.specs.List.{list_all}
use Rattle.std.proofs.lemmas.Result.{err_from_is_err_and}
use Rattle.code_rows.specs.Points.{is_text_there, text_of, texts_of, some}
use Rattle.slot_points.specs.Changing.{Whole}
use Rattle.slot_points.specs.Steps.{text_in}
use Rattle.slot_points.proofs.Choices.{range_is}
use Rattle.slot_points.proofs.Strings.{sound_texts, output_stops}
use Rattle.slot_points.proofs.texts.output.Goals as goal

pub push_texts-requires-clause-there : goal.push_texts-requires-clause-there
push_texts-requires-clause-there g c =
    let is : c.deref.result.now ≡ c.args.rows.now.texts.items = search rules in
    subst (λ ts. IsTrue (list_all (is_text_there c.args.rows.now) (slice_range ts c.args.texts.first (c.args.texts.first + c.args.texts.count))))
    (sym is) (sound_texts c.args.rows.now c.args.texts c.requires.sound)

pub push_texts-requires-clause-whole : goal.push_texts-requires-clause-whole
push_texts-requires-clause-whole g c =
    let is : c.deref.result.now ≡ c.args.rows.now.texts.items = search rules in
    subst (λ ts. Whole g.R.Store.Means c.args.memory.now (text_in c.args.table.now (map (text_of c.args.rows.now) (slice_range ts c.args.texts.first (c.args.texts.first + c.args.texts.count)))))
    (sym is) (subst (λ ts. Whole g.R.Store.Means c.args.memory.now (text_in c.args.table.now (map (text_of c.args.rows.now) ts))) (sym (range_is c.args.rows.now.texts.items c.args.texts)) c.requires.whole)

pub returns-in_err-push_texts-clause-written : goal.returns-in_err-push_texts-clause-written
returns-in_err-push_texts-clause-written g c =
    let is : c.deref.result.now ≡ c.args.rows.now.texts.items = search rules in
    let same : slice_range c.deref.result.now c.args.texts.first (c.args.texts.first + c.args.texts.count) ≡ some c.args.rows.now.texts.items c.args.texts =
    ap (λ ts. slice_range ts c.args.texts.first (c.args.texts.first + c.args.texts.count)) is ∙ range_is c.args.rows.now.texts.items c.args.texts in
    let p = err_from_is_err_and c.from_residual.result c.from_residual.ensures.1 in
    rw (p.1, p.2)
    (output_stops g.R.Store.Means c.args.memory.now c.args.table.now (texts_of c.args.rows.now c.args.texts) c.args.line
    (map (text_of c.args.rows.now) (slice_range c.deref.result.now c.args.texts.first (c.args.texts.first + c.args.texts.count))) (ap (map (text_of c.args.rows.now)) same) _ _ _ _ _ c.in_err-push_texts.ensures)
