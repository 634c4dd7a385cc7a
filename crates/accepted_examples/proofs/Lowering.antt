-- What is computed of lowered declarations and expressions.
use Rattle.expression_lowering.specs.LoweredExpressions.{chain_operator, lowered_range, selected_number, selected_numbers, lowered_name, lowered_suffixes, lowered_suffix, box_before, args_row, next_arg_before, arg_before, lowered_expr_box, lowered_expr, operands_row, lowered_operand, short_operands_row, lowered_short_operand, lowered_rel_box, lowered_rel, lowered_sum_box, lowered_sum, terms_row, lowered_next_term, lowered_term, factors_row, lowered_next_factor, lowered_factor, lowered_primary, lowered_name_box, lowered_aggregate_box, lowered_aggregate}
use Rattle.tree_lowering.specs.Lowered.{lowered_component, lowered_formal, lowered_next_formal, decl_before, part_before, lowered_package, lowered_package_body, declared_next, lowered_indication, lowered_subtype, lowered_type, lowered_declaration, item_before}
use Rattle.machine.specs.typed_tree.Expressions.{typed_steps, typed_actuals, typed_imaged, typed_step, typed_first, typed_values}

-- The definitions that are computed where a lemma names this one.
unfoldable pub lowering : Type 0
unfolding chain_operator lowered_range selected_number selected_numbers lowered_name lowered_suffixes lowered_suffix box_before args_row next_arg_before arg_before lowered_expr_box lowered_expr operands_row
    lowered_operand short_operands_row lowered_short_operand lowered_rel_box lowered_rel lowered_sum_box lowered_sum terms_row lowered_next_term lowered_term factors_row
    lowered_next_factor lowered_factor lowered_primary lowered_name_box lowered_aggregate_box lowered_aggregate declared_next lowered_indication lowered_subtype lowered_type
    lowered_component lowered_declaration item_before lowered_formal lowered_next_formal decl_before part_before lowered_package lowered_package_body typed_steps typed_actuals typed_imaged typed_step typed_first typed_values
lowering = Unit {0}
