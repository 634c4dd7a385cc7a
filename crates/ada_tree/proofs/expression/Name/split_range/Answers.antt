use Rattle.std.proofs.Common.{sym, ap, ◌∙◌, [], ◌∷◌, ◌++◌}
use Rattle.std.proofs.lemmas.List.{nil_from_length}
use Rattle.std.specs.Prelude.{Some, None}
use Rattle.ada_tree.proofs.LoneLevels.{range_prefix_at, range_prefix_nowhere}
use Rattle.ada_tree.proofs.expression.Name.split_range.Goals as goal

pub returns-in_default : goal.returns-in_default
returns-in_default c =
    let parts = c.into_parts-first.result in
    range_prefix_nowhere c.args.self parts.0 parts.1 parts.2.items c.into_parts-first.ensures
    (nil_from_length parts.2.items (sym parts.2.ok.0 ∙ c.in_default.ensures.cases.0))

pub returns-in_default-range_positions : goal.returns-in_default-range_positions
returns-in_default-range_positions c =
    let parts = c.into_parts-first.result in
    range_prefix_at c.args.self parts.0 parts.1 parts.2.items c.pop.new.self.items c.in-Some.last None
    c.into_parts-first.ensures c.in-Some.ensures.items c.in_default-range_positions.ensures

pub returns : goal.returns
returns c =
    let parts = c.into_parts-first.result in
    let positions = c.in-Some-range_positions in
    range_prefix_at c.args.self parts.0 parts.1 parts.2.items c.from_vec-rest.result c.in-Some.last
    (Some (positions.apostrophe, positions.range)) c.into_parts-first.ensures
    (c.in-Some.ensures.items ∙ ap (λ front. front ++ (c.in-Some.last ∷ [])) (sym c.from_vec-rest.ensures)) positions.ensures
