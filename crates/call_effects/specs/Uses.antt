-- Reading and writing, told apart by a flag: it is set for writing.
use Rattle.std.specs.Prelude.{◌≡◌, ℕ, Bool, true, false, ◌&&◌, ◌||◌, ◌==◌, List, [], map, Option, Some, None, get_or}
use Rattle.std.specs.List.{list_any}
use Rattle.place_names.specs.declared.act.Act.{Act}
use Rattle.place_names.specs.declared.act.Placed.{Placed}
use Rattle.typed_tree.specs.declared.node.TypedNode.{TypedNode}
use Rattle.typed_tree.specs.declared.node.TypedNode.TheVariants as node
use Rattle.typed_tree.specs.Nodes.{TypedNodes, typed_at}
use Rattle.flow_paths.specs.declared.instr.Instr.{Instr}
use Rattle.flow_paths.specs.declared.instr.Instr.TheVariants as instr
use Rattle.flow_paths.specs.declared.point.Point.{Point}
use Rattle.flow_paths.specs.declared.point.LaidSub.{LaidSub}
use Rattle.flow_paths.specs.Instructions.{Instruction}
use Rattle.flow_paths.specs.Points.{FlowPoint}
use Rattle.flow_paths.specs.Stands.{flow_point_of}
use Rattle.flow_paths.specs.Laid.{FlowProgram, flow_typing}
use Rattle.flow_paths.specs.Effects.{act_writes, act_reads, writes_text, reads_text, asks_for_end, is_global, flow_sub_at, CallChain}

-- ---- what a text does itself

abbrev pub act_uses : Bool → ℕ → Act → Bool
act_uses true g a = act_writes g a
act_uses false g a = act_reads g a

-- The object that an act uses, where there is one.
abbrev pub is_root : ℕ → Option ℕ → Bool
is_root g None = false
is_root g (Some x) = x == g

abbrev pub acts_use : Bool → ℕ → List Placed → Bool
acts_use w g acts = list_any (λ (a : Placed). act_uses w g a.act) acts

abbrev pub text_uses : Bool → Instruction → Bool
text_uses true i = writes_text i
text_uses false i = reads_text i

abbrev pub point_uses : Bool → ℕ → FlowPoint → Bool
point_uses w g p = (g == 0 && text_uses w p.instr) || acts_use w g p.acts

abbrev pub points_use : Bool → ℕ → List FlowPoint → Bool
points_use w g points = list_any (point_uses w g) points

-- A subprogram uses a package object, or Ada.Text_IO, in its own text.
abbrev pub own_uses : Bool → FlowProgram → ℕ → ℕ → Bool
own_uses w program p g = is_global (flow_typing program) g && points_use w g (flow_sub_at program p).points

-- ---- the text as code has it

-- The points of a subprogram.
abbrev pub points_at : List LaidSub → ℕ → List Point
points_at subs p = get_or (map (λ (sub : LaidSub). sub.points) subs) p []

abbrev pub laid_uses : Bool → TypedNodes → ℕ → Point → Bool
laid_uses w rows g p = point_uses w g (flow_point_of rows p)

abbrev pub instr_calls : ℕ → Instr → Bool
instr_calls q (instr.Call sub actuals result) = sub == q
instr_calls q _ = false

abbrev pub laid_calls : ℕ → Point → Bool
laid_calls q p = instr_calls q p.instr

-- ---- over chains of calls

pub record Uses (w : Bool) (program : FlowProgram) (p g : ℕ) : Type 0 where
  pub last : ℕ
  pub chain : CallChain program p last
  pub own : own_uses w program last g ≡ true

-- ---- what is asked of nodes

-- For each tree whether it asks for the end of the file.
abbrev pub AreAsked : TypedNodes → List Bool → Type 0
AreAsked rows asked = (i : ℕ) → get_or asked i false ≡ asks_for_end (typed_at rows i)

-- Whether a node asks for the end of the file, by what is known of its parts.
abbrev pub node_asks : (ℕ → Bool) → TypedNode → Bool
node_asks asked node.EndOfFile = true
node_asks asked (node.Name p d a t) = asked a
node_asks asked (node.Component k a) = asked a
node_asks asked (node.Designated a) = asked a
node_asks asked (node.Element a low high b) = asked a || asked b
node_asks asked (node.Call p s a) = asked a
node_asks asked (node.Parens a) = asked a
node_asks asked (node.Image t a) = asked a
node_asks asked (node.Unary op a) = asked a
node_asks asked (node.Binary op a b) = asked a || asked b
node_asks asked (node.Short op p a q b) = asked a || asked b
node_asks asked (node.IsNull equal a) = asked a
node_asks asked (node.Aggregate t a) = asked a
node_asks asked (node.Alike t a) = asked a
node_asks asked (node.New t a) = asked a
node_asks asked (node.More a b) = asked a || asked b
node_asks asked _ = false
