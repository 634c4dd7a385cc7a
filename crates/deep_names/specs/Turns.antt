-- What the names of a tree are made of, in rows.
use Rattle.std.specs.Prelude.{◌<◌, ℕ, ◌+◌, true, false, ◌||◌, length, Option, Some, None, if◌then◌else◌}
use Rattle.spark_base.specs.declared.position.Pos.{Pos}
use Rattle.typed_tree.specs.Trees.{TypedTree, TypedCode}
use Rattle.typed_tree.specs.Nodes.{typed_at, typed_code_at}
use Rattle.flow_paths.specs.Objects.{Typing}
use Rattle.flow_paths.specs.Names.{name_of, selectors, written}
use Rattle.program_typing.specs.Typings.{typing}
use Rattle.deep_names.specs.declared.depths.Depths.{Depths as Found}
use Rattle.deep_names.specs.declared.reader.NameReader.{NameReader}
use Rattle.deep_names.specs.declared.statements.CodeTurn.{CodeTurn}
use Rattle.deep_names.specs.declared.statements.CodeTurn.TheVariants as code_turn
use Rattle.deep_names.specs.declared.trees.Turn.{Turn}
use Rattle.deep_names.specs.declared.trees.Turn.TheVariants as turn
use Rattle.deep_names.specs.Found.{earlier_of, written_deep}
use Rattle.deep_names.specs.Statements.{code_deep, branches_deep, whens_deep}
use Rattle.deep_names.specs.Trees.{Depths, depths_in, call_deep, used_deep}

abbrev pub site : NameReader → Typing
site w = typing w.typing

-- The tree, and the code, with a number.
abbrev pub tree : NameReader → ℕ → TypedTree
tree w i = typed_at w.rows.now i

abbrev pub code : NameReader → ℕ → TypedCode
code w i = typed_code_at w.rows.now i

-- ---- steps

abbrev pub after : NameReader → Option ℕ → ℕ
after w None = 0
after w (Some rest) = 1 + length (selectors (tree w rest))

abbrev pub IsStepBelow : ℕ → Option ℕ → Type 0
IsStepBelow e None = Unit {0}
IsStepBelow e (Some rest) = rest < e

-- ---- what is found

-- As a value, and where the value isn't taken.
abbrev pub value_of : Depths → Found
value_of d = record { calls = d.calls; before = d.before; all = d.all }

abbrev pub place_of : Depths → Found
place_of d = record { calls = d.calls; before = d.before; all = d.indexes }

abbrev pub no_names : Found
no_names = record { calls = false; before = None; all = None }

abbrev pub both_of : Found → Found → Found
both_of a b = record { calls = a.calls || b.calls; before = earlier_of a.before b.before; all = earlier_of a.all b.all }

abbrev pub named_of : Found → Option Pos → Found
named_of steps own = record { calls = steps.calls; before = steps.before; all = earlier_of steps.all own }

abbrev pub settled_of : Option Pos → Found
settled_of found = record { calls = true; before = found; all = found }

abbrev pub either_of : Found → Found → Found
either_of a b = record {
  calls = a.calls || b.calls;
  before = if b.calls then earlier_of a.all b.all else earlier_of a.before b.before;
  all = earlier_of a.all b.all;
}

abbrev pub unused_of : Found → Found
unused_of e = record { calls = e.calls; before = e.before; all = e.before }

-- ---- iterations

abbrev pub value_at : NameReader → ℕ → Found
value_at w e = value_of (depths_in (site w) (tree w e))

abbrev pub turn_depths : NameReader → Turn → Found
turn_depths w turn.Ends = no_names
turn_depths w (turn.Goes rest) = value_at w rest
turn_depths w (turn.Both head rest) = both_of (value_at w head) (value_at w rest)
turn_depths w (turn.Names p x steps t) = named_of (value_at w steps) (used_deep (site w) p (name_of x (tree w steps)) t)
turn_depths w (turn.Looks name) =
    named_of (place_of (depths_in (site w) (tree w name))) (written_deep (written (tree w name)))
turn_depths w (turn.Calls sub actuals) = settled_of (call_deep (site w) sub (tree w actuals))
turn_depths w (turn.Short left right) = either_of (value_at w left) (value_at w right)

-- The parts have lower numbers.
abbrev pub IsTurnBelow : ℕ → Turn → Type 0
IsTurnBelow e turn.Ends = Unit {0}
IsTurnBelow e (turn.Goes rest) = rest < e
IsTurnBelow e (turn.Both head rest) = (head < e) × (rest < e)
IsTurnBelow e (turn.Names p x steps t) = steps < e
IsTurnBelow e (turn.Looks name) = name < e
IsTurnBelow e (turn.Calls sub actuals) = actuals < e
IsTurnBelow e (turn.Short left right) = (left < e) × (right < e)

-- A name whose value isn't taken has those of its steps.
abbrev pub place_by : NameReader → ℕ → Option ℕ → Found
place_by w e None = unused_of (value_at w e)
place_by w e (Some steps) = value_at w steps

-- ---- code

abbrev pub code_turn_deep : NameReader → Option ℕ → CodeTurn → Option Pos
code_turn_deep w r (code_turn.Ends own) = own
code_turn_deep w r (code_turn.Goes own stmts) = earlier_of own (code_deep (site w) r (code w stmts))
code_turn_deep w r (code_turn.Both head rest) =
    earlier_of (code_deep (site w) r (code w head)) (code_deep (site w) r (code w rest))
code_turn_deep w r (code_turn.Branches branches otherwise) =
    earlier_of (branches_deep (site w) r (code w branches)) (code_deep (site w) r (code w otherwise))
code_turn_deep w r (code_turn.Whens own whens) = earlier_of own (whens_deep (site w) r (code w whens))

abbrev pub IsCodeBelow : ℕ → CodeTurn → Type 0
IsCodeBelow c (code_turn.Ends own) = Unit {0}
IsCodeBelow c (code_turn.Goes own stmts) = stmts < c
IsCodeBelow c (code_turn.Both head rest) = (head < c) × (rest < c)
IsCodeBelow c (code_turn.Branches branches otherwise) = (branches < c) × (otherwise < c)
IsCodeBelow c (code_turn.Whens own whens) = whens < c
