use Rattle.std.proofs.Common.{length, sym, ap, ◌∙◌}
use Rattle.bare_points.specs.declared.prep.Prep.{Prep}
use Rattle.bare_points.specs.Layouts.{laying, made_in, tree_in}
use Rattle.bare_points.proofs.NotPrepared.{none_prepared}
use Rattle.bare_points.proofs.layout.Layout.+prepare.Goals as goal

pub prepare-returns-then-prep-eq0-clause-points : goal.prepare-returns-then-prep-eq0-clause-points
prepare-returns-then-prep-eq0-clause-points t c =
    let l = c.args.self.now in
    none_prepared (made_in l c.args.made.now) (laying l) (tree_in l c.args.e) (length c.args.made.now) c.args.t c.args.k.now
    (ap (λ (p : Prep). p.size) (sym c.prep.ensures) ∙ c.if-prep-eq0.true)
