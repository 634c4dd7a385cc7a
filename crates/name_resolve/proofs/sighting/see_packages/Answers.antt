use Rattle.std.proofs.Common.{sym, ap, ◌∙◌, drop, ◌+◌, arith, drop_of_length-le}
use Rattle.std.proofs.lemmas.List.{drop_more}
use Rattle.name_events.specs.Known.{visible_members}
use Rattle.name_resolve.specs.Sightings.{sighted_all}
use Rattle.name_resolve.proofs.Seeing.{package_next}
use Rattle.name_resolve.proofs.sighting.see_packages.Goals as goal

pub turns-preserved : goal.turns-preserved
turns-preserved c now w s has =
    c.turns.invariant now w s has
    ∙ ap (λ xs. sighted_all c.turns.seen (visible_members now xs w))
    (drop_more c.args.numbers.now c.turns.number-index _ c.turns-test.true)
    ∙ package_next now w c.turns.seen c.see_package-seen.result _ (drop (c.turns.number-index + 1) c.args.numbers.now) (c.see_package-seen.ensures now w s has)

pub returns : goal.returns
returns c now w s has =
    sym (c.turns.invariant now w s has
    ∙ ap (λ xs. sighted_all c.turns.seen (visible_members now xs w))
    (drop_of_length-le c.args.numbers.now {i = c.turns.number-index} (omega (arith, c.turns-test.false))))
