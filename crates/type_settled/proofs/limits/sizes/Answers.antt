use Rattle.std.proofs.Common.{false, get_or, refl, ap, ◌∙◌}
use Rattle.type_definitions.specs.declared.table.Made.{Made}
use Rattle.type_definitions.specs.Faults.{noted}
use Rattle.type_definitions.specs.Whole.{made_faults}
use Rattle.type_settled.specs.Measures.{marked}
use Rattle.type_settled.proofs.limits.sizes.Goals as goal
use Rattle.type_settled.proofs.Noted.{faults_step}

no_made : Made
no_made = record { number = 0; pos = record { file = 0; line = 0; column = 0 }; full = false; sound = false }

pub made-preserved : goal.made-preserved
unfolding no_made
made-preserved c =
    let m : Made = get_or c.args.made.now c.made.m-index no_made in
    let here = c.made_faults-found.ensures c.args.made.now
    (λ t. ap (λ ms. marked ms t) c.deref-in-made.ensures.value ∙ c.in_ok-unsound.ensures t)
    ∙ ap (λ table. noted c.made.found (made_faults table c.args.made.now m)) c.as_slice-table.ensures in
    faults_step (made_faults c.args.settled.now.known.table c.args.made.now) c.args.made.now c.made.m-index _ no_made c.made.found
    c.made_faults-found.result c.made-test.true refl here
    ∙ c.made.invariant
