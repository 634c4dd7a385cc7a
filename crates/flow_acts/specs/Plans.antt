-- Acts that are planned, and those that they stand for.
use Rattle.std.specs.Prelude.{◌≡◌, ℕ, List, ◌++◌, map, Option, Some, None}
use Rattle.place_names.specs.declared.act.Act.{Act}
use Rattle.place_names.specs.declared.act.Act.TheVariants as act
use Rattle.place_names.specs.declared.act.Placed.{Placed}
use Rattle.place_names.specs.Names.{Name as PlaceName}
use Rattle.typed_tree.specs.Trees.{TypedTree}
use Rattle.typed_tree.specs.Nodes.{typed_at}
use Rattle.flow_paths.specs.Objects.{Typing}
use Rattle.flow_paths.specs.Names.{Written, name_of}
use Rattle.flow_paths.specs.Acts.{placed, used, observe}
use Rattle.flow_acts.specs.Frames.{site}
use Rattle.flow_acts.specs.declared.plan.Doing.{Doing}
use Rattle.flow_acts.specs.declared.plan.Doing.TheVariants as doing
use Rattle.flow_acts.specs.declared.plan.NameNode.{NameNode}
use Rattle.flow_acts.specs.declared.plan.Planned.{Planned}
use Rattle.flow_acts.specs.declared.writer.ActWriter.{ActWriter}

-- The tree with a number.
abbrev pub tree : ActWriter → ℕ → TypedTree
tree w i = typed_at w.rows.now i

-- The act that is done to a name.
abbrev pub act_by : Typing → Doing → PlaceName → Act
act_by s (doing.Use of) = λ m. used s m of
act_by s doing.Look = act.Look
act_by s doing.Write = act.Write
act_by s (doing.Borrow h) = act.Borrow h
act_by s (doing.Observe h) = observe s h
act_by s (doing.Reborrow b) = act.Reborrow b
act_by s (doing.Actual m owning access) = λ k. act.Actual k m owning access
act_by s doing.Free = act.Free
act_by s (doing.Give borrows) = λ m. act.Give m borrows

abbrev pub placed_by : ActWriter → Planned → Placed
placed_by w p = placed p.pos (act_by (site w) p.doing (name_of p.object (tree w p.steps)))

abbrev pub acts_by : ActWriter → List Planned → List Placed
acts_by w plan = map (placed_by w) plan

-- Acts were planned after those that were there.
abbrev pub Plans : ActWriter → List Planned → List Planned → List Placed → Type 0
Plans w old new acts = acts_by w new ≡ acts_by w old ++ acts

-- ---- names

abbrev pub written_by : ActWriter → NameNode → Written
written_by w n = record { pos = n.pos; name = name_of n.object (tree w n.steps); of = n.of }

abbrev pub written_found : ActWriter → Option NameNode → Option Written
written_found w None = None
written_found w (Some n) = Some (written_by w n)
