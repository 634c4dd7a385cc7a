-- Code whose marks and ends ascend has its full types end after all marks up to there.
use Rattle.std.proofs.Common.{◌≡◌, ◌⊎◌, inl, inr, true, false, List, [], ◌∷◌, ◌++◌, refl, sym, arith}
use Rattle.machine.specs.spark_base.declared.position.Pos.{Pos}
use Rattle.machine.specs.spark_base.Positions.{Precedes}
use Rattle.machine.specs.spark_base.Lists.{Has}
use Rattle.spark_base.proofs.Lists.{Has-append_left, Has-append_right}
use Rattle.spark_base.proofs.Positions.{Precedes-parts}
use Rattle.machine.specs.resolved_tree.Trees.{More, Code, Record, Components, Array, TypeDecl, Subtype, ConstrainedSubtype, SubBody, Package, PackageBody, If, Branch, Case, When, Loop, While, For, Block}
use Rattle.machine.specs.type_definitions.Faults.{is_before}
use Rattle.settled_types.specs.Orderly.{Past, at_start, within, group_marks, list_marks, definition_marks, past_after}
use Rattle.settled_types.specs.OrderlyFiles.Ended.{AreEnded, AllEnded}
use Rattle.settled_types.specs.FilePositions.Order.{Ascends}
use Rattle.settled_types.specs.FilePositions.Stops.{group_stops, list_stops, definition_stops, stops, all_stops}

-- all of the first list stand before all of the second one
abbrev Before : List Pos → List Pos → Type 0
Before ps qs = (p q : Pos) → Has ps p → Has qs q → Precedes p q

ascends_first : (ps qs : List Pos) → Ascends (ps ++ qs) → Ascends ps
ascends_first [] qs up = tt
ascends_first (x ∷ ps) qs up = ((λ q is. up.0 q (Has-append_left ps qs q is)), ascends_first ps qs up.1)

ascends_second : (ps qs : List Pos) → Ascends (ps ++ qs) → Ascends qs
ascends_second [] qs up = up
ascends_second (x ∷ ps) qs up = ascends_second ps qs up.1

ascends_across : (ps qs : List Pos) → Ascends (ps ++ qs) → Before ps qs
ascends_across [] qs up p q is that = absurd is
ascends_across (x ∷ ps) qs up p q (inl same) that = rw (sym same) (up.0 q (Has-append_right ps qs q that))
ascends_across (x ∷ ps) qs up p q (inr is) that = ascends_across ps qs up.1 p q is that

group_has : (group : Code) (ps : List Pos) (p : Pos) → Has (group_marks group ps) p → Has ps p ⊎ Has (group_stops group) p
group_has (Components names m) ps p (inl same) = inr (inl same)
group_has (Components names m) ps p (inr is) = inl is
group_has _ ps p is = inl is

list_has : (list : Code) (ps : List Pos) (p : Pos) → Has (list_marks list ps) p → Has ps p ⊎ Has (list_stops list) p
list_has (More group rest) ps p is = elim (list_has rest (group_marks group ps) p is) [
  | inl here ↦ elim (group_has group ps p here) [
    | inl was ↦ inl was
    | inr now ↦ inr (Has-append_left (group_stops group) (list_stops rest) p now)
  ]
  | inr later ↦ inr (Has-append_right (group_stops group) (list_stops rest) p later)
]
list_has _ ps p is = inl is

definition_has : (def : Code) (ps : List Pos) (p : Pos) → Has (definition_marks def ps) p → Has ps p ⊎ Has (definition_stops def) p
definition_has (Record components) ps p is = list_has components ps p is
definition_has (Array range m) ps p (inl same) = inr (inl same)
definition_has (Array range m) ps p (inr is) = inl is
definition_has _ ps p is = inl is

marks_after : (code : Code) (past : Past) (p : Pos) → Has (past_after code past).marks p → Has past.marks p ⊎ Has (stops code) p
unfolding past_after stops
marks_after (TypeDecl d def end) past p is = elim (definition_has def past.marks p is) [
  | inl was ↦ inl was
  | inr now ↦ inr (Has-append_left (definition_stops def) (end ∷ []) p now)
]
marks_after (Subtype d m) past p (inl same) = inr (inl same)
marks_after (Subtype d m) past p (inr is) = inl is
marks_after (ConstrainedSubtype d m low high) past p (inl same) = inr (inl same)
marks_after (ConstrainedSubtype d m low high) past p (inr is) = inl is
marks_after (SubBody front items stmts end) past p is = elim (marks_after stmts (past_after items past) p is) [
  | inl here ↦ elim (marks_after items past p here) [ inl was ↦ inl was | inr now ↦ inr (Has-append_left (stops items) (stops stmts) p now) ]
  | inr later ↦ inr (Has-append_right (stops items) (stops stmts) p later)
]
marks_after (Package d visible hidden) past p is = elim (marks_after hidden (within true (past_after visible (within true past))) p is) [
  | inl here ↦ elim (marks_after visible (within true past) p here) [ inl was ↦ inl was | inr now ↦ inr (Has-append_left (stops visible) (stops hidden) p now) ]
  | inr later ↦ inr (Has-append_right (stops visible) (stops hidden) p later)
]
marks_after (PackageBody d parts) past p is = marks_after parts (within true past) p is
marks_after (If at branches otherwise) past p is = elim (marks_after otherwise (past_after branches past) p is) [
  | inl here ↦ elim (marks_after branches past p here) [ inl was ↦ inl was | inr now ↦ inr (Has-append_left (stops branches) (stops otherwise) p now) ]
  | inr later ↦ inr (Has-append_right (stops branches) (stops otherwise) p later)
]
marks_after (Branch at e stmts) past p is = marks_after stmts past p is
marks_after (Case at e whens) past p is = marks_after whens past p is
marks_after (When choices stmts) past p is = marks_after stmts past p is
marks_after (Loop at stmts) past p is = marks_after stmts past p is
marks_after (While at e stmts) past p is = marks_after stmts past p is
marks_after (For at d reversed range stmts) past p is = marks_after stmts past p is
marks_after (Block at items stmts end) past p is = elim (marks_after stmts (past_after items past) p is) [
  | inl here ↦ elim (marks_after items past p here) [ inl was ↦ inl was | inr now ↦ inr (Has-append_left (stops items) (stops stmts) p now) ]
  | inr later ↦ inr (Has-append_right (stops items) (stops stmts) p later)
]
marks_after (More a rest) past p is = elim (marks_after rest (past_after a past) p is) [
  | inl here ↦ elim (marks_after a past p here) [ inl was ↦ inl was | inr now ↦ inr (Has-append_left (stops a) (stops rest) p now) ]
  | inr later ↦ inr (Has-append_right (stops a) (stops rest) p later)
]
marks_after _ past p is = inl is

not_before : (p q : Pos) → Precedes p q → is_before q p ≡ false
not_before p q before = elim (Precedes-parts p q before) [
  | inl file ↦ grind (arith, file)
  | inr later ↦ let same = later.0 in elim later.1 [
    | inl line ↦ grind (arith, same, line)
    | inr last ↦ let here = last.0 in let column = last.1 in grind (arith, same, here, column)
  ]
]

-- of two pieces of code in a row
first_of : (ps qs rs : List Pos) → Before ps (qs ++ rs) → Before ps qs
first_of ps qs rs before p q is that = before p q is (Has-append_left qs rs q that)

second_of : (a b : Code) (past : Past) → Before past.marks (stops a ++ stops b) → Ascends (stops a ++ stops b)
    → Before (past_after a past).marks (stops b)
second_of a b past before up p q is that = elim (marks_after a past p is) [
  | inl was ↦ before p q was (Has-append_right (stops a) (stops b) q that)
  | inr now ↦ ascends_across (stops a) (stops b) up p q now that
]

ended : (code : Code) (past : Past) → Before past.marks (stops code) → Ascends (stops code) → AreEnded past code
unfolding AreEnded stops
ended (TypeDecl d def end) past before up = λ at is. not_before at end (elim (definition_has def past.marks at is) [
  | inl was ↦ before at end was (Has-append_right (definition_stops def) (end ∷ []) end (inl refl))
  | inr now ↦ ascends_across (definition_stops def) (end ∷ []) up at end now (inl refl)
])
ended (SubBody front items stmts end) past before up = (
  ended items past (first_of past.marks (stops items) (stops stmts) before) (ascends_first (stops items) (stops stmts) up),
  ended stmts (past_after items past) (second_of items stmts past before up) (ascends_second (stops items) (stops stmts) up),
)
ended (Package d visible hidden) past before up = (
  ended visible (within true past) (first_of past.marks (stops visible) (stops hidden) before) (ascends_first (stops visible) (stops hidden) up),
  ended hidden (within true (past_after visible (within true past))) (second_of visible hidden (within true past) before up)
      (ascends_second (stops visible) (stops hidden) up),
)
ended (PackageBody d parts) past before up = ended parts (within true past) before up
ended (If at branches otherwise) past before up = (
  ended branches past (first_of past.marks (stops branches) (stops otherwise) before) (ascends_first (stops branches) (stops otherwise) up),
  ended otherwise (past_after branches past) (second_of branches otherwise past before up) (ascends_second (stops branches) (stops otherwise) up),
)
ended (Branch at e stmts) past before up = ended stmts past before up
ended (Case at e whens) past before up = ended whens past before up
ended (When choices stmts) past before up = ended stmts past before up
ended (Loop at stmts) past before up = ended stmts past before up
ended (While at e stmts) past before up = ended stmts past before up
ended (For at d reversed range stmts) past before up = ended stmts past before up
ended (Block at items stmts end) past before up = (
  ended items past (first_of past.marks (stops items) (stops stmts) before) (ascends_first (stops items) (stops stmts) up),
  ended stmts (past_after items past) (second_of items stmts past before up) (ascends_second (stops items) (stops stmts) up),
)
ended (More a rest) past before up = (
  ended a past (first_of past.marks (stops a) (stops rest) before) (ascends_first (stops a) (stops rest) up),
  ended rest (past_after a past) (second_of a rest past before up) (ascends_second (stops a) (stops rest) up),
)
ended _ past before up = tt

all_ended : (units : List Code) (past : Past) → Before past.marks (all_stops units) → Ascends (all_stops units) → AllEnded past units
all_ended [] past before up = tt
all_ended (u ∷ rest) past before up = (
  ended u past (first_of past.marks (stops u) (all_stops rest) before) (ascends_first (stops u) (all_stops rest) up),
  all_ended rest (past_after u past)
      (λ p q is that. elim (marks_after u past p is) [
        | inl was ↦ before p q was (Has-append_right (stops u) (all_stops rest) q that)
        | inr now ↦ ascends_across (stops u) (all_stops rest) up p q now that
      ])
      (ascends_second (stops u) (all_stops rest) up),
)

-- In units whose marks and ends ascend, full types end after all marks up to there.
pub units_ended : (units : List Code) → Ascends (all_stops units) → AllEnded at_start units
units_ended units up = all_ended units at_start (λ p q is. absurd is) up
