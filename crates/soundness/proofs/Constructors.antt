-- Which constructor a value has.
use Rattle.std.specs.Prelude.{Bool, true, false}
use Rattle.machine.specs.flow_paths.Instructions as instructions
use Rattle.machine.specs.Memory as memory
use Rattle.machine.specs.Words as words
use Rattle.machine.specs.place_names.declared.fact.Fact.TheVariants as fact
use Rattle.machine.specs.place_names.declared.fact.Fact.{Fact}
use Rattle.machine.specs.place_names.declared.rule.Loan.TheVariants as loan
use Rattle.machine.specs.place_names.declared.rule.Loan.{Loan}
use Rattle.soundness.specs.OwnedWays.Ways as ways
use Rattle.machine.specs.type_definitions.declared.table.Shape.TheVariants as shape
use Rattle.machine.specs.type_definitions.declared.table.Shape.{Shape}

abbrev pub is_call_instruction : instructions.Instruction → Bool
is_call_instruction (instructions.Call a b c) = true
is_call_instruction v = false

abbrev pub is_of_variable_base : memory.Base → Bool
is_of_variable_base (memory.OfVariable a b) = true
is_of_variable_base v = false

abbrev pub is_cell_word : words.Word → Bool
is_cell_word (words.Cell a) = true
is_cell_word v = false

abbrev pub is_moved_fact : Fact → Bool
is_moved_fact (fact.Moved a) = true
is_moved_fact v = false

abbrev pub is_observed_loan : Loan → Bool
is_observed_loan loan.Observed = true
is_observed_loan v = false

abbrev pub is_empty_word : ways.Word → Bool
is_empty_word ways.Empty = true
is_empty_word v = false

abbrev pub is_gone_word : ways.Word → Bool
is_gone_word ways.Gone = true
is_gone_word v = false

abbrev pub is_held_word : ways.Word → Bool
is_held_word (ways.Held a) = true
is_held_word v = false

abbrev pub is_inside_loc : ways.Loc → Bool
is_inside_loc (ways.Inside a b) = true
is_inside_loc v = false

abbrev pub is_of_cell_loc : ways.Loc → Bool
is_of_cell_loc (ways.OfCell a) = true
is_of_cell_loc v = false

abbrev pub is_access_shape : Shape → Bool
is_access_shape (shape.Access a b c) = true
is_access_shape v = false
