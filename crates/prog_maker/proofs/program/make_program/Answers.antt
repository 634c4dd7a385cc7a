use Rattle.std.proofs.Common.{refl}
use Rattle.prog_maker.proofs.Numbered.{with_more}
use Rattle.prog_maker.proofs.program.make_program.Goals as goal

pub returns : goal.returns
returns c =
    with_more c.in_ok-extend_from_slice-4.ensures.items (with_more c.in_ok-add_calls.ensures
    (with_more c.in_ok-extend_from_slice-3.ensures.items (with_more c.in_ok-add_bodies.ensures
    (with_more c.in_ok-extend_from_slice-2.ensures.items (with_more c.in_ok-add_declarations.ensures
    (with_more c.in_ok-extend_from_slice.ensures.items c.new-text.ensures.items c.as_bytes.ensures.value) refl)
    c.as_bytes-2.ensures.value) refl) c.as_bytes-3.ensures.value) refl) c.as_bytes-4.ensures.value
