use Rattle.std.proofs.Common.{rules, arith, take, map, ap, ◌∙◌}
use Rattle.std.proofs.lemmas.Grind.{common_steps}
use Rattle.std.proofs.lemmas.List.{take-map}
use Rattle.std.specs.Char.{to_ascii_lowercase}
use Rattle.ada_tree.proofs.word.ShortBytes.folded.Goals as goal

pub returns : goal.returns
returns c =
    let lower = take-map to_ascii_lowercase c.folded.inside.len c.folded.inside.cells in
    ap (take c.folded.inside.len) c.make_ascii_lowercase.ensures.after ∙ lower
    ∙ ap (map to_ascii_lowercase) (first_of (search rules, grind (arith, common_steps)))
