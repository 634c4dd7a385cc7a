-- What is compared in the lemmas over sources: the rows of the points of each subprogram.
use Rattle.std.proofs.Common.{◌≡◌, ℕ, List, [], ◌∷◌, map}
use Rattle.std.specs.Prelude.{zero, suc, ◌+◌, true, ◌&&◌, get_or, flat_map}
use Rattle.std.specs.List.{list_all}
use Rattle.spark_base.specs.declared.position.Pos.{Pos}
use Rattle.place_names.specs.declared.act.Act.{Act}
use Rattle.place_names.specs.declared.act.Placed.{Placed}
use Rattle.place_names.specs.declared.selector.Sel.{Sel}
use Rattle.place_names.specs.Names.{Name}
use Rattle.resolved_tree.specs.Trees.{Program}
use Rattle.flow_tests.proofs.ResolvedTrees.{at}
use Rattle.type_definitions.specs.Types.{words_within, parts_within, words, parts, owns_within, is_owning}
use Rattle.type_definitions.specs.Entries.{is_complete}
use Rattle.type_definitions.specs.Names.{seen, step, along, reading_of}
use Rattle.type_definitions.specs.Statics.{is_static, value}
use Rattle.type_definitions.specs.Expressions.{own_type, compares, inside, arguments, within_suffix, behind}
use Rattle.type_definitions.specs.Statements.{range_faults, has_gap}
use Rattle.type_definitions.specs.Gathered.{gather}
use Rattle.type_definitions.specs.Declarations.{some_part, code_faults, alternatives_faults, alternative_faults}
use Rattle.type_definitions.specs.Whole.{made, known_of}
use Rattle.typed_tree.specs.Expressions.{characters, typed_expression}
use Rattle.typed_tree.specs.Statements.{scope_count, statements}
use Rattle.typed_tree.specs.Programs.{scopes_in, objects_in, bodies_in, subs_in, typed_program}
use Rattle.flow_paths.specs.Instructions.{Instruction, Skip, Declare, Assign, Call, Output, Input, Release, Test, Choose, Start, Next, Evaluate, LeaveLoop, Hold, EndScope, Finish, Fall}
use Rattle.flow_paths.specs.Names.{selectors, has_call, waiting}
use Rattle.flow_paths.specs.Acts.{acts_in}
use Rattle.flow_paths.specs.Points.{FlowPoint}
use Rattle.flow_paths.specs.Prep.{held, prep}
use Rattle.flow_paths.specs.Layout.{declared, choices_of, laid}
use Rattle.flow_paths.specs.declared.point.LeakSpot.{LeakSpot}
use Rattle.flow_paths.specs.Laid.{NamedSub, FlowSub, FlowProgram, distinct, declared_within, flow_named, flow_typing, flow_program}
use Rattle.flow_paths.specs.Limits.{lay_fault}
use Rattle.flow_paths.specs.Scopes.{names_differ, is_closed, scopes_agree, is_undeclaring, is_settled}
use Rattle.flow_paths.specs.Effects.{asks_for_end}

abbrev pub flow : Program → FlowProgram
flow p = flow_program (known_of p).table (typed_program (known_of p) p.units)

-- What kind of point it is.
pub data Kind : Type 0 where
  SkipPoint : Kind
  DeclarePoint : Kind
  AssignPoint : Kind
  CallPoint : Kind
  OutputPoint : Kind
  InputPoint : Kind
  ReleasePoint : Kind
  TestPoint : Kind
  ChoosePoint : Kind
  StartPoint : Kind
  NextPoint : Kind
  EvaluatePoint : Kind
  LeavePoint : Kind
  HoldPoint : Kind
  EndPoint : Kind
  FinishPoint : Kind
  FallPoint : Kind

abbrev pub kind : Instruction → Kind
kind Skip = SkipPoint
kind (Declare x v) = DeclarePoint
kind (Assign target e) = AssignPoint
kind (Call sub actuals result) = CallPoint
kind (Output text line) = OutputPoint
kind (Input target) = InputPoint
kind (Release m) = ReleasePoint
kind (Test e) = TestPoint
kind (Choose e choices) = ChoosePoint
kind (Start x reversed low high) = StartPoint
kind (Next x reversed low high) = NextPoint
kind (Evaluate t e left) = EvaluatePoint
kind (LeaveLoop e) = LeavePoint
kind (Hold v) = HoldPoint
kind (EndScope x) = EndPoint
kind Finish = FinishPoint
kind Fall = FallPoint

-- A point as its row: its kind, its position, its acts with their positions, and its successors.
pub record Row : Type 0 where
  pub kind : Kind
  pub pos : Pos
  pub acts : List Placed
  pub next : List ℕ

abbrev pub row_of : FlowPoint → Row
row_of p = record { kind = kind p.instr; pos = p.pos; acts = p.acts; next = p.next }

abbrev pub rows : Program → List (List Row)
rows p = map (λ (sub : FlowSub). map row_of sub.points) (flow p).subs

abbrev pub row : Kind → Pos → List Placed → List ℕ → Row
row k p acts next = record { kind = k; pos = p; acts = acts; next = next }

-- Acts at a line and a column.
abbrev pub part : ℕ → List Sel → Name
part x sels = record { root = x; sels = sels }

abbrev pub does : ℕ → ℕ → Act → Placed
does line column a = record { pos = at line column; act = a }

abbrev pub named : Program → List NamedSub
named p = flow_named (known_of p).table (typed_program (known_of p) p.units)

-- The laws of points hold of each subprogram: no two have one name, each successor is a point, and
-- what is in scope goes on from point to point. What the law of scopes needs of the body holds too.
abbrev pub IsLawful : Program → Type 0
IsLawful p =
    list_all (λ (n : NamedSub). names_differ n.points && (is_closed n.points && (scopes_agree (flow_typing (flow p)) n.points && is_settled (flow_typing (flow p)) n.sub.body))) (named p) ≡ true

-- The leak checks of the points of each subprogram that have some.
abbrev pub leaks : Program → List (List LeakSpot)
leaks p = map (λ (sub : FlowSub). flat_map (λ (q : FlowPoint). q.leaks) sub.points) (flow p).subs

abbrev pub spot : ℕ → ℕ → Name → ℕ → LeakSpot
spot line column m before = record { pos = at line column; name = m; before = before }

abbrev pub next_of : List FlowPoint → ℕ → List ℕ
next_of [] n = []
next_of (p ∷ rest) zero = p.next
next_of (p ∷ rest) (suc n) = next_of rest n

abbrev pub steps_on : (ℕ → List ℕ → ℕ) → List ℕ → List ℕ → ℕ
steps_on go choices [] = 0
steps_on go choices (k ∷ []) = go k choices
steps_on go [] (k ∷ l ∷ ks) = 0
steps_on go (c ∷ choices) (k ∷ l ∷ ks) = go (get_or (k ∷ l ∷ ks) c 0) choices

-- How many points there are from the one with a number on, where at each point with several
-- successors the next of some choices is taken, counted from 0.
unfoldable pub steps : ℕ → List FlowPoint → List ℕ → ℕ → ℕ
steps zero points choices n = 0
steps (suc fuel) points choices n = steps_on (λ k ks. steps fuel points ks k) choices (next_of points n) + 1

-- The definitions that are computed where a lemma names this one.
unfoldable pub laying : Type 0
unfolding words_within parts_within words parts owns_within is_owning is_complete seen step along reading_of is_static value
    own_type compares inside arguments within_suffix behind range_faults has_gap gather some_part code_faults
    alternatives_faults alternative_faults made known_of characters typed_expression scope_count statements scopes_in
    objects_in bodies_in subs_in typed_program selectors has_call waiting acts_in held prep declared choices_of laid
    distinct declared_within flow_program lay_fault names_differ is_undeclaring is_settled asks_for_end steps
laying = Unit {0}
