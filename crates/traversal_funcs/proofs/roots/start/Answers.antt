use Rattle.std.proofs.Common.{◌∙◌, sym, refl, get_or}
use Rattle.program_typing.specs.Typings.{typing}
use Rattle.traversal_funcs.specs.declared.lending.Lending.{Lending}
use Rattle.traversal_funcs.proofs.Came.{start_step, start_skip}
use Rattle.traversal_funcs.proofs.roots.start.Goals.{then-is_answer+in_ok-come, else-is_answer}
use Rattle.traversal_funcs.proofs.roots.start.Goals as goal

pub lendings-preserved : goal.lendings-preserved
lendings-preserved c =
    let none : Lending = record { source = 0; holder = 0 } in
    let l : Lending = get_or c.args.lendings.now c.lendings.lending-index none in
    elim c.if-is_answer.branch [
      | then-is_answer+in_ok-come w ↦
          rw w.found-is (rw w.work-is (start_step (typing c.args.known.now) c.args.question c.args.lendings.now c.lendings.lending-index l none
          c.args.found.now.keys c.args.work.now.items c.lendings.found.keys c.lendings.work.items w.come.new.found.keys w.come.new.work.items
          c.lendings-test.true refl (sym c.is_answer.ensures ∙ w.if-is_answer.true) c.lendings.invariant w.in_ok-come.ensures))
      | else-is_answer w ↦
          rw w.found-is (rw w.work-is (start_skip (typing c.args.known.now) c.args.question c.args.lendings.now c.lendings.lending-index l none
          c.args.found.now.keys c.args.work.now.items c.lendings.found.keys c.lendings.work.items
          c.lendings-test.true refl (sym c.is_answer.ensures ∙ w.if-is_answer.false) c.lendings.invariant))
    ]
