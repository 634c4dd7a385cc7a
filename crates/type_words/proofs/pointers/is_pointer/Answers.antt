use Rattle.std.proofs.Common.{◌≡◌, length, ap, arith, None, slice_get}
use Rattle.std.proofs.lemmas.Option.{slice_get_past}
use Rattle.type_words.proofs.Named.{none_named}
use Rattle.type_words.proofs.pointers.is_pointer.Goals as goal

pub returns-in-None : goal.returns-in-None
returns-in-None c =
    let none : slice_get c.args.table.now c.args.t ≡ None =
    slice_get_past c.args.table.now c.args.t (omega (arith, c.in-None.ensures.lookup.3, ap length c.infos.ensures)) in
    none_named (slice_get c.args.table.now c.args.t) none
