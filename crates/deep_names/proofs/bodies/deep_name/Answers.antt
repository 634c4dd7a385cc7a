use Rattle.std.proofs.Common.{ap, ◌∙◌}
use Rattle.typed_tree.specs.Nodes.{typed_code_at}
use Rattle.program_typing.specs.Typings.{typing}
use Rattle.deep_names.specs.Programs.{bodies_deep}
use Rattle.deep_names.proofs.Subprograms.{program_bodies}
use Rattle.deep_names.proofs.bodies.deep_name.Goals as goal

pub returns : goal.returns
returns c program is =
    let s = typing c.args.known.now in
    let found =
    c.bodies.ensures ∙ ap (λ rows. bodies_deep s (typed_code_at rows) s.subs c.args.bodies.now) c.new-rows.ensures in
    program_bodies c.args.rows.now s c.args.bodies.now program _ found c.look_at_all.ensures is
