-- The limits of names, points and facts (docs/TOOL.md, "Limits"): M1, G1 and G2.
use Rattle.std.specs.Prelude.{Bool, List, [], ◌∷◌, ◌++◌, map, flat_map, filter, length, nat_lt, Option, Some, None, if◌then◌else◌}
use Rattle.std.specs.declared.cmp.Ordering.{Ordering}
use Rattle.std.specs.declared.cmp.Ordering.TheVariants.{Less, Equal, Greater}
use Rattle.typed_tree.specs.spark_base.declared.position.Pos.{Pos}
use Rattle.typed_tree.specs.spark_base.declared.limits.TheConstants.{SELECTORS, POINTS, FACTS}
use Rattle.typed_tree.specs.spark_base.Positions.{position_cmp}
use Rattle.typed_tree.specs.place_names.Names.{Name, object}
use Rattle.typed_tree.specs.place_names.declared.act.Act.{Act}
use Rattle.typed_tree.specs.place_names.declared.act.Act.TheVariants as act
use Rattle.typed_tree.specs.place_names.declared.act.Placed.{Placed}
use Rattle.typed_tree.specs.place_names.Facts.{place, adds}
use Rattle.flow_paths.specs.declared.refusal.LayFault.{LayFault}
use Rattle.flow_paths.specs.declared.refusal.LayFault.TheVariants as fault
use Rattle.flow_paths.specs.declared.point.LeakSpot.{LeakSpot}
use Rattle.flow_paths.specs.Instructions.{Instruction, Assign}
use Rattle.flow_paths.specs.Names.{Written, source}
use Rattle.flow_paths.specs.Points.{FlowPoint}
use Rattle.flow_paths.specs.Laid.{FlowSub, FlowProgram}

-- The name of an act: of a reborrow, that of its source.
abbrev pub act_name : Act → Name
act_name (act.Read m) = m
act_name (act.Look m) = m
act_name (act.Write m) = m
act_name (act.Move m parts) = m
act_name (act.Borrow h m) = m
act_name (act.Observe h m from_observer) = m
act_name (act.Reborrow b m) = m
act_name (act.EndScope x borrower) = object x
act_name (act.Return roots) = object 0
act_name (act.Actual m mode owning access) = m
act_name (act.Global g written) = object g
act_name (act.Free m) = m
act_name (act.Give m borrows) = m

-- The first token of the source of an assignment, where it is a name.
abbrev pub written_pos : Pos → Option Written → Pos
written_pos p None = p
written_pos p (Some m) = m.pos

abbrev pub source_pos : Instruction → Pos → Pos
source_pos (Assign target e) p = written_pos p (source e)
source_pos _ p = p

-- Where the name of an act stands. A reborrow has the position of its target.
abbrev pub name_pos : Instruction → Placed → Act → Pos
name_pos i placed (act.Reborrow b m) = source_pos i placed.pos
name_pos i placed _ = placed.pos

abbrev pub is_deep : Name → Bool
is_deep m = nat_lt SELECTORS (length m.sels)

-- A name at a position.
pub record NameAt : Type 0 where
  pub pos : Pos
  pub name : Name

abbrev pub name_at : Pos → Name → NameAt
name_at p m = record { pos = p; name = m }

-- The names of an act and of the facts that it adds.
abbrev pub act_names : Instruction → Placed → List NameAt
act_names i placed =
    map (name_at (name_pos i placed placed.act)) (act_name placed.act ∷ map place (adds placed.act))

abbrev pub point_names : FlowPoint → List NameAt
point_names p =
    flat_map (act_names p.instr) p.acts ++ map (λ (spot : LeakSpot). name_at spot.pos spot.name) p.leaks

abbrev pub program_names : FlowProgram → List NameAt
program_names program = flat_map (λ (sub : FlowSub). flat_map point_names sub.points) program.subs

-- The first of some positions, in the order of the text.
abbrev pub earlier_by : Ordering → Pos → Pos → Pos
earlier_by Less p q = p
earlier_by Equal p q = p
earlier_by Greater p q = q

abbrev pub earlier : Pos → Option Pos → Pos
earlier p None = p
earlier p (Some q) = earlier_by (position_cmp p q) p q

abbrev pub earliest : List Pos → Option Pos
earliest [] = None
earliest (p ∷ rest) = Some (earlier p (earliest rest))

-- M1: the first name with too many selectors.
abbrev pub deep_name : FlowProgram → Option Pos
deep_name program = earliest (map (λ n. n.pos) (filter (λ n. is_deep n.name) (program_names program)))

-- G1 and G2: the first subprogram with too many points, or else too many facts.
abbrev pub beyond : List FlowSub → Option LayFault
beyond [] = None
beyond (sub ∷ rest) =
    if nat_lt POINTS (length sub.points) then Some (fault.TooManyPoints sub.pos)
    else (if nat_lt FACTS (length sub.facts) then Some (fault.TooManyFacts sub.pos) else beyond rest)

abbrev pub fault_of : Option Pos → List FlowSub → Option LayFault
fault_of None subs = beyond subs
fault_of (Some p) subs = Some (fault.NameTooDeep p)

-- Names come before points and facts.
unfoldable pub lay_fault : FlowProgram → Option LayFault
lay_fault program = fault_of (deep_name program) program.subs
