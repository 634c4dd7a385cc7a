use Rattle.std.proofs.Common.{◌≡◌, length, get_or, false, refl, ap, ◌∙◌}
use Rattle.type_definitions.specs.declared.table.Made.{Made}
use Rattle.type_settled.proofs.limits.unsound.Goals as goal
use Rattle.type_settled.proofs.Unsound.{length_marked, marks_step}

no_made : Made
no_made = record { number = 0; pos = record { file = 0; line = 0; column = 0 }; full = false; sound = false }

pub made-preserved : goal.made-preserved
unfolding no_made
made-preserved c =
    let m : Made = get_or c.args.made.now c.made.m-index no_made in
    let same : length c.mark.new.marks.items ≡ length c.made.marks.items =
    ap length c.mark.ensures ∙ length_marked m m.sound c.made.marks.items in (
      λ k d lt. rw same (c.made.invariant.0 k d lt),
      λ t. marks_step c.args.made.now c.made.m-index _ no_made m c.made.marks.items c.mark.new.marks.items c.args.made.now t c.made-test.true refl
          refl (c.made.invariant.0 c.made.m-index no_made c.made-test.true) c.mark.ensures (c.made.invariant.1 t),
    )
