-- What is computed of names.
use Rattle.name_events.specs.ExpressionOutline.{next_name, part_name, next_dotted_name, selector, selectors, range_events, choice_events, next_choice_events, name_events, suffixes_events, suffix_events, arg_box_events, next_args_events, next_arg_events, arg_events, expr_box_events, expr_events, operands_events, operand_events, short_operands_events, short_operand_events, rel_box_events, rel_events, sum_box_events, sum_events, next_terms_events, next_term_events, term_events, next_factors_events, next_factor_events, factor_events, primary_events, name_box_events, aggregate_box_events, aggregate_events}
use Rattle.name_events.specs.Outline.{indication_events, component_events, subtype_events, type_events, item_events, simple_events, formal_events, next_formal_events, subspec_events, body_form, subspec_name, subprogram_events, decl_events, body_part_events, with_events, context_events, unit_events, source_events, stmts_events, stmt_box_events, stmt_list_events, stmt_events, stmts_box_events, elsifs_events, elsif_events, when_box_events, whens_events, when_events}
use Rattle.name_events.specs.KnownBehind.{known_behind}
use Rattle.name_events.specs.Denotes.{known_of, mentioned_at, mentioned_from, mentioned, denotes, decl_infos}
use Rattle.name_events.specs.Identified.{identified_at, identified_from, identified}
use Rattle.name_events.specs.Faults.{fault, first_fault, name_fault}

-- The definitions that are computed where a lemma names this one.
unfoldable pub naming : Type 0
unfolding next_name part_name next_dotted_name selector selectors range_events choice_events next_choice_events name_events
    suffixes_events suffix_events arg_box_events next_args_events next_arg_events arg_events expr_box_events expr_events
    operands_events operand_events short_operands_events short_operand_events rel_box_events rel_events sum_box_events
    sum_events next_terms_events next_term_events term_events next_factors_events next_factor_events
    factor_events primary_events name_box_events aggregate_box_events aggregate_events
    indication_events component_events subtype_events type_events item_events simple_events formal_events next_formal_events
    subspec_events body_form subspec_name subprogram_events decl_events body_part_events with_events context_events
    unit_events source_events stmts_events stmt_box_events stmt_list_events stmt_events stmts_box_events elsifs_events
    elsif_events when_box_events whens_events when_events known_behind known_of mentioned_at mentioned_from mentioned
    denotes decl_infos identified_at identified_from identified fault first_fault name_fault
naming = Unit {0}
