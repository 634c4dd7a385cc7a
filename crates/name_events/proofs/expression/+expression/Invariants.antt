use Rattle.std.specs.Prelude.{drop}
use Rattle.std.specs.List.{flat_map}
use Rattle.name_events.specs.Collected.{Adding}
use Rattle.name_events.specs.ExpressionOutline.{next_arg_events, next_factor_events, next_term_events, operand_events, short_operand_events, suffix_events}
use Rattle.name_events.proofs.expression.+expression.Given as goal

abbrev pub invariant-next_args-turns : goal.invariant-next_args-turns
invariant-next_args-turns l = Adding l.initial.events l.events (flat_map next_arg_events (drop l.tree-index l.trees)) (flat_map next_arg_events l.trees)

abbrev pub invariant-next_factors-turns : goal.invariant-next_factors-turns
invariant-next_factors-turns l = Adding l.initial.events l.events (flat_map next_factor_events (drop l.tree-index l.trees)) (flat_map next_factor_events l.trees)

abbrev pub invariant-next_terms-turns : goal.invariant-next_terms-turns
invariant-next_terms-turns l = Adding l.initial.events l.events (flat_map next_term_events (drop l.tree-index l.trees)) (flat_map next_term_events l.trees)

abbrev pub invariant-operands-turns : goal.invariant-operands-turns
invariant-operands-turns l = Adding l.initial.events l.events (flat_map operand_events (drop l.tree-index l.trees)) (flat_map operand_events l.trees)

abbrev pub invariant-short_operands-turns : goal.invariant-short_operands-turns
invariant-short_operands-turns l = Adding l.initial.events l.events (flat_map short_operand_events (drop l.tree-index l.trees)) (flat_map short_operand_events l.trees)

abbrev pub invariant-suffixes-turns : goal.invariant-suffixes-turns
invariant-suffixes-turns l = Adding l.initial.events l.events (flat_map suffix_events (drop l.tree-index l.trees)) (flat_map suffix_events l.trees)
