use Rattle.std.proofs.Common.{rules, ◌≡◌, length, map, ap, arith, None, slice_get}
use Rattle.std.proofs.lemmas.Option.{slice_get_past}
use Rattle.machine.specs.Words.{default_within}
use Rattle.run_codes.specs.Flat.{untagged}
use Rattle.type_words.proofs.Copies.{no_words_again, words_again}
use Rattle.type_words.proofs.Parts.{nothing_words}
use Rattle.type_words.proofs.defaults.+defaults.Goals as goal

pub push_found-returns-in-None : goal.push_found-returns-in-None
push_found-returns-in-None t c =
    let none : slice_get c.args.table.now c.args.t ≡ None =
    slice_get_past c.args.table.now c.args.t (omega (arith, c.in-None.ensures.lookup.3, ap length c.infos.ensures)) in
    nothing_words (default_within c.args.room c.args.table.now) c.args.t (slice_get c.args.table.now c.args.t) c.args.words.now.items none

pub push_elements-returns-then-count-eq0 : goal.push_elements-returns-then-count-eq0
push_elements-returns-then-count-eq0 t c =
    no_words_again c.args.count (map untagged (default_within c.args.room c.args.table.now c.args.element)) c.args.words.now.items c.if-count-eq0.true

pub push_elements-returns : goal.push_elements-returns
push_elements-returns t c =
    let at : c.len-first.result ≡ length c.args.words.now.items = search rules in
    words_again c.repeat_words.result c.args.count c.len-first.result (map untagged (default_within c.args.room c.args.table.now c.args.element)) c.args.words.now.items c.push_within.new.words.items c.repeat_words.new.words.items c.if-count-eq0.false
    at c.in_ok-push_within.ensures c.repeat_words.ensures
