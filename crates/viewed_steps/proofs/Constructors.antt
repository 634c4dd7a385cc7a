-- Which constructor a value has.
use Rattle.std.specs.Prelude.{Bool, true, false}
use Rattle.machine.specs.flow_paths.Instructions as instructions
use Rattle.machine.specs.Calls as calls
use Rattle.machine.specs.Memory as memory
use Rattle.machine.specs.Words as words
use Rattle.machine.specs.place_names.declared.act.Mode.TheVariants as mode
use Rattle.machine.specs.place_names.declared.act.Mode.{Mode}
use Rattle.machine.specs.place_names.declared.fact.Fact.TheVariants as fact
use Rattle.machine.specs.place_names.declared.fact.Fact.{Fact}
use Rattle.machine.specs.place_names.declared.rule.Loan.TheVariants as loan
use Rattle.machine.specs.place_names.declared.rule.Loan.{Loan}
use Rattle.soundness.specs.OwnedWays.Ways as ways
use Rattle.machine.specs.type_definitions.declared.table.Shape.TheVariants as shape
use Rattle.machine.specs.type_definitions.declared.table.Shape.{Shape}

abbrev pub is_assign_instruction : instructions.Instruction → Bool
is_assign_instruction (instructions.Assign a b) = true
is_assign_instruction v = false

abbrev pub is_call_instruction : instructions.Instruction → Bool
is_call_instruction (instructions.Call a b c) = true
is_call_instruction v = false

abbrev pub is_declare_instruction : instructions.Instruction → Bool
is_declare_instruction (instructions.Declare a b) = true
is_declare_instruction v = false

abbrev pub is_end_scope_instruction : instructions.Instruction → Bool
is_end_scope_instruction (instructions.EndScope a) = true
is_end_scope_instruction v = false

abbrev pub is_finish_instruction : instructions.Instruction → Bool
is_finish_instruction instructions.Finish = true
is_finish_instruction v = false

abbrev pub is_hold_instruction : instructions.Instruction → Bool
is_hold_instruction (instructions.Hold a) = true
is_hold_instruction v = false

abbrev pub is_value_passed : calls.Passed → Bool
is_value_passed (calls.Value a) = true
is_value_passed v = false

abbrev pub is_of_cell_base : memory.Base → Bool
is_of_cell_base (memory.OfCell a) = true
is_of_cell_base v = false

abbrev pub is_of_variable_base : memory.Base → Bool
is_of_variable_base (memory.OfVariable a b) = true
is_of_variable_base v = false

abbrev pub is_cell_word : words.Word → Bool
is_cell_word (words.Cell a) = true
is_cell_word v = false

abbrev pub is_out_mode : Mode → Bool
is_out_mode mode.Out = true
is_out_mode v = false

abbrev pub is_lent_fact : Fact → Bool
is_lent_fact (fact.Lent a b c) = true
is_lent_fact v = false

abbrev pub is_moved_fact : Fact → Bool
is_moved_fact (fact.Moved a) = true
is_moved_fact v = false

abbrev pub is_borrowed_loan : Loan → Bool
is_borrowed_loan loan.Borrowed = true
is_borrowed_loan v = false

abbrev pub is_empty_word : ways.Word → Bool
is_empty_word ways.Empty = true
is_empty_word v = false

abbrev pub is_gone_word : ways.Word → Bool
is_gone_word ways.Gone = true
is_gone_word v = false

abbrev pub is_held_word : ways.Word → Bool
is_held_word (ways.Held a) = true
is_held_word v = false

abbrev pub is_into_way : ways.Way → Bool
is_into_way (ways.Into a b) = true
is_into_way v = false

abbrev pub is_of_cell_loc : ways.Loc → Bool
is_of_cell_loc (ways.OfCell a) = true
is_of_cell_loc v = false

abbrev pub is_of_root_loc : ways.Loc → Bool
is_of_root_loc (ways.OfRoot a) = true
is_of_root_loc v = false

abbrev pub is_access_shape : Shape → Bool
is_access_shape (shape.Access a b c) = true
is_access_shape v = false
