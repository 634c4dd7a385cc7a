use Rattle.std.proofs.Common.{ap, sym, ◌∙◌, drop, ◌+◌, ◌++◌, ◌∷◌, arith}
use Rattle.std.proofs.lemmas.List.{drop_more}
use Rattle.std.proofs.Math.ListN.{drop_of_length-le}
use Rattle.std.specs.List.{flat_map}
use Rattle.name_events.specs.Outline.{unit_events}
use Rattle.name_resolve.specs.Inputs.{trees_of}
use Rattle.name_resolve.proofs.Files.{events_all, events_next, if_ok}
use Rattle.name_resolve.proofs.source_files.events_of.Goals as goal

pub turns-preserved : goal.turns-preserved
turns-preserved c works =
    let adds = c.add_file.ensures works in
    let behind = drop (c.turns.file-index + 1) c.args.files.now in
    events_next c.turns.list.events c.add_file.new.self.events c.file-item.result.units (trees_of behind) (trees_of (drop c.turns.file-index c.args.files.now)) (trees_of c.args.files.now)
    (adds.1 ∙ ap (λ units. c.turns.list.events ++ flat_map unit_events units) c.as_slice.ensures)
    (ap trees_of (drop_more c.args.files.now c.turns.file-index c.file-item.result c.turns-test.true ∙ ap (λ x. x ∷ behind) (sym c.file-item.is)))
    (c.turns.invariant adds.0)

pub returns : goal.returns
returns c =
    if_ok c.finish.result
    (λ events h. h.1 ∙ events_all c.turns.list.events (trees_of (drop c.turns.file-index c.args.files.now)) (trees_of c.args.files.now)
    (ap trees_of (drop_of_length-le c.args.files.now {i = c.turns.file-index} (omega (arith, c.turns-test.false)))) (c.turns.invariant h.0))
    c.finish.ensures
