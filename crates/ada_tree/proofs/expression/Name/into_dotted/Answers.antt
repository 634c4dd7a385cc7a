use Rattle.std.proofs.Common.{rules, ◌≡◌, true, false, sym, ap, ◌∙◌, [], ◌++◌}
use Rattle.std.proofs.lemmas.List.{append-nil, nil_from_length}
use Rattle.std.specs.List.{filter_map}
use Rattle.std.specs.Prelude.{is_some}
use Rattle.ada_tree.specs.Lone.{selected_part, selected_parts}
use Rattle.ada_tree.proofs.LoneLevels.{dotted_or_name-dotted, dotted_or_name-other}
use Rattle.ada_tree.proofs.expression.Name.into_dotted.Goals as goal

pub returns-then-not-are_selected : goal.returns-then-not-are_selected
returns-then-not-are_selected c =
    let parts = c.into_parts-first.result in
    let no_parts : c.are_selected.result ≡ false = search rules in
    dotted_or_name-other c.args.self parts.0 parts.1 parts.2.items c.from_vec-rest.result c.into_parts-first.ensures
    (ap (λ xs. is_some (selected_parts xs)) (sym c.as_slice.ensures.value) ∙ sym c.are_selected.ensures ∙ no_parts)
    c.from_vec-rest.ensures

pub returns : goal.returns
returns c =
    let at = c.suffixes in
    let parts = c.into_parts-first.result in
    let all : c.are_selected.result ≡ true = search rules in
    let empty : at.suffix-iterator.rest.items ≡ [] =
    nil_from_length at.suffix-iterator.rest.items (sym at.suffix-iterator.rest.ok.0 ∙ c.in-None.ensures.steps.0) in
    dotted_or_name-dotted c.args.self parts.0 parts.1 parts.2.items at.parts c.into_parts-first.ensures
    (ap (λ xs. is_some (selected_parts xs)) (sym c.as_slice.ensures.value) ∙ sym c.are_selected.ensures ∙ all)
    (sym (append-nil at.parts) ∙ ap (λ xs. at.parts ++ filter_map selected_part xs) (sym empty) ∙ at.invariant
    ∙ ap (filter_map selected_part) c.into_iter-suffix-iterator.ensures.into_iter_gives.0)
