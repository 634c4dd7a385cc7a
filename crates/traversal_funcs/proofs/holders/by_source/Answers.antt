use Rattle.std.proofs.Common.{◌∙◌, sym, ap, take}
use Rattle.std.proofs.lemmas.List.{take_more}
use Rattle.traversal_funcs.specs.declared.lending.Lending.{Lending}
use Rattle.traversal_funcs.specs.Lendings.{holders_of}
use Rattle.traversal_funcs.proofs.holders.by_source.Goals as goal

pub lendings-preserved : goal.lendings-preserved
lendings-preserved c = λ x.
    let none : Lending = record { source = 0; holder = 0 } in
    c.in_ok-add.ensures (take c.lendings.lending-index c.args.lendings.now) c.lendings.invariant x
    ∙ ap (holders_of x) (sym (take_more c.args.lendings.now c.lendings.lending-index none c.lendings-test.true))
