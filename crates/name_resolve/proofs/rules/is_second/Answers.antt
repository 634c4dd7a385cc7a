use Rattle.std.proofs.Common.{ap, ◌∙◌, is_some, not, ◌&&◌, nat_eq}
use Rattle.std.specs.Prelude.{◌||◌}
use Rattle.name_events.specs.Declarations.{declared_in}
use Rattle.name_events.specs.Known.{here}
use Rattle.name_events.specs.Faults.{is_second_unit}
use Rattle.name_resolve.proofs.rules.is_second.Goals as goal

pub returns-then-is_some : goal.returns-then-is_some
returns-then-is_some c n s =
    ap (λ b. not b && (is_some (declared_in n.declared (here n) c.args.word.now) || (nat_eq 0 (here n) && is_second_unit n c.args.form c.args.word.now)))
    (c.if-is_some.ensures ∙ ap is_some (c.completed_by.ensures n s))

pub returns : goal.returns
returns c n s =
    c.either.ensures
    ∙ (λ j. c.is_declared_here.ensures n s j
    || ((c.both-is_second_unit.ensures
    ∙ (λ j. nat_eq 0 (c.here-in_library.ensures.region _ _ _ _ s.regions j) && c.is_second_unit.ensures n s j)) j))
    ∙ ap (λ b. not b && (is_some (declared_in n.declared (here n) c.args.word.now) || (nat_eq 0 (here n) && is_second_unit n c.args.form c.args.word.now)))
    (c.if-is_some.ensures ∙ ap is_some (c.completed_by.ensures n s))
