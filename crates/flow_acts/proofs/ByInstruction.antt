-- Instructions by their kinds.
use Rattle.std.proofs.Common.{◌≡◌, ℕ, false, List, refl, ◌∙◌, IsTrue, IfOk, Result, Ok, Err}
use Rattle.spark_base.specs.declared.position.Pos.{Pos}
use Rattle.place_names.specs.declared.act.Placed.{Placed}
use Rattle.typed_tree.specs.Trees.{TypedTree, TypedCode}
use Rattle.flow_paths.specs.declared.instr.Instr.{Instr}
use Rattle.flow_paths.specs.declared.instr.Instr.TheVariants as instr
use Rattle.flow_paths.specs.Instructions.{Instruction, instruction_of}
use Rattle.flow_paths.specs.Acts.{Frame, acts_of}
use Rattle.flow_acts.specs.declared.fault.ActFault.{ActFault}
use Rattle.flow_acts.specs.NamedActs.{named_acts}
use Rattle.flow_acts.specs.Depths.{deep_names, has_deep}
use Rattle.flow_acts.proofs.Deep.{deep_names_is}

-- All instructions but the ends of scopes and of calls do something to names alone.
pub named_other : (f : Frame) (p : Pos) (tree : ℕ → TypedTree) (code : ℕ → TypedCode) (i : Instr)
    → ((x : ℕ) → i ≡ instr.EndScope x → ⊥) → (i ≡ instr.Finish → ⊥)
    → named_acts f p (instruction_of tree code i) ≡ acts_of f p (instruction_of tree code i)
named_other f p tree code instr.Skip scope end = refl
named_other f p tree code (instr.Declare x v) scope end = refl
named_other f p tree code (instr.Assign a b) scope end = refl
named_other f p tree code (instr.Call n a r) scope end = refl
named_other f p tree code (instr.Output a line) scope end = refl
named_other f p tree code (instr.Input a) scope end = refl
named_other f p tree code (instr.Release a) scope end = refl
named_other f p tree code (instr.Test a) scope end = refl
named_other f p tree code (instr.Choose a cs) scope end = refl
named_other f p tree code (instr.Start x r a b) scope end = refl
named_other f p tree code (instr.Next x r a b) scope end = refl
named_other f p tree code (instr.Evaluate t a o) scope end = refl
named_other f p tree code (instr.LeaveLoop a) scope end = refl
named_other f p tree code (instr.Hold a) scope end = refl
named_other f p tree code (instr.EndScope x) scope end = absurd (scope x refl)
named_other f p tree code instr.Finish scope end = absurd (end refl)
named_other f p tree code instr.Fall scope end = refl

pub deep_true : (i : Instruction) (acts : List Placed) → IsTrue (has_deep acts) → IsTrue (deep_names i acts)
deep_true i acts e = deep_names_is i acts ∙ e

pub deep_false : (i : Instruction) (acts : List Placed) → has_deep acts ≡ false → deep_names i acts ≡ false
deep_false i acts e = deep_names_is i acts ∙ e

pub deep_ok : (i : Instruction) (r : Result (List Placed) ActFault) → IfOk r (λ acts. has_deep acts ≡ false)
    → IfOk r (λ acts. deep_names i acts ≡ false)
deep_ok i (Ok acts) e = deep_false i acts e
deep_ok i (Err f) e = e
