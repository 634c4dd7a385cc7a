-- Which constructor a value has.
use Rattle.std.specs.Prelude.{Bool, true, false}
use Rattle.machine.specs.flow_paths.Instructions as instructions
use Rattle.machine.specs.Calls as calls
use Rattle.machine.specs.Memory as memory
use Rattle.machine.specs.States as states
use Rattle.machine.specs.place_names.declared.act.Mode.TheVariants as mode
use Rattle.machine.specs.place_names.declared.act.Mode.{Mode}
use Rattle.soundness.specs.OwnedWays.Ways as ways

abbrev pub is_call_instruction : instructions.Instruction → Bool
is_call_instruction (instructions.Call a b c) = true
is_call_instruction v = false

abbrev pub is_declare_instruction : instructions.Instruction → Bool
is_declare_instruction (instructions.Declare a b) = true
is_declare_instruction v = false

abbrev pub is_finish_instruction : instructions.Instruction → Bool
is_finish_instruction instructions.Finish = true
is_finish_instruction v = false

abbrev pub is_hold_instruction : instructions.Instruction → Bool
is_hold_instruction (instructions.Hold a) = true
is_hold_instruction v = false

abbrev pub is_value_passed : calls.Passed → Bool
is_value_passed (calls.Value a) = true
is_value_passed v = false

abbrev pub is_of_variable_base : memory.Base → Bool
is_of_variable_base (memory.OfVariable a b) = true
is_of_variable_base v = false

abbrev pub is_goes_outcome : states.Outcome → Bool
is_goes_outcome (states.Goes a) = true
is_goes_outcome v = false

abbrev pub is_in_mode : Mode → Bool
is_in_mode mode.In = true
is_in_mode v = false

abbrev pub is_empty_word : ways.Word → Bool
is_empty_word ways.Empty = true
is_empty_word v = false

abbrev pub is_held_word : ways.Word → Bool
is_held_word (ways.Held a) = true
is_held_word v = false

abbrev pub is_of_root_loc : ways.Loc → Bool
is_of_root_loc (ways.OfRoot a) = true
is_of_root_loc v = false
