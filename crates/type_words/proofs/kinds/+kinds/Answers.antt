use Rattle.std.proofs.Common.{rules, ◌≡◌, length, map, ap, arith, None, slice_get}
use Rattle.std.proofs.lemmas.Option.{slice_get_past}
use Rattle.machine.specs.Typed.{sorts_within}
use Rattle.run_codes.specs.Flat.{kind_of}
use Rattle.type_words.proofs.Copies.{no_kinds_again, kinds_again}
use Rattle.type_words.proofs.Parts.{nothing_kinds}
use Rattle.type_words.proofs.kinds.+kinds.Goals as goal

pub push_found-returns-in-None : goal.push_found-returns-in-None
push_found-returns-in-None t c =
    let none : slice_get c.args.table.now c.args.t ≡ None =
    slice_get_past c.args.table.now c.args.t (omega (arith, c.in-None.ensures.lookup.3, ap length c.infos.ensures)) in
    nothing_kinds (sorts_within c.args.room c.args.table.now) (slice_get c.args.table.now c.args.t) c.args.kinds.now.items none

pub push_elements-returns-then-count-eq0 : goal.push_elements-returns-then-count-eq0
push_elements-returns-then-count-eq0 t c =
    no_kinds_again c.args.count (map kind_of (sorts_within c.args.room c.args.table.now c.args.element)) c.args.kinds.now.items c.if-count-eq0.true

pub push_elements-returns : goal.push_elements-returns
push_elements-returns t c =
    let at : c.len-first.result ≡ length c.args.kinds.now.items = search rules in
    kinds_again c.repeat.result c.args.count c.len-first.result (map kind_of (sorts_within c.args.room c.args.table.now c.args.element)) c.args.kinds.now.items c.push_within.new.kinds.items c.repeat.new.items.items c.if-count-eq0.false
    at c.in_ok-push_within.ensures c.repeat.ensures
