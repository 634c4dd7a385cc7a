-- The types of a program whose declarations are in order have none of the numbers of what is
-- predefined.
use Rattle.std.proofs.Common.{inl, inr, subst, ℕ, ◌<◌, ◌≤◌, true, List, [], ◌∷◌, ◌++◌, flat_map, arith}
use Rattle.machine.specs.spark_base.Lists.{Has}
use Rattle.spark_base.proofs.Lists.{Has-append_cases}
use Rattle.machine.specs.resolved_tree.Trees.{More, Code, Incomplete, Private, TypeDecl, Subtype, ConstrainedSubtype, Objects, Formals, Front, SubDecl, SubBody, Package, PackageBody, If, Branch, Case, When, Loop, While, For, Block, code_items, Program}
use Rattle.machine.specs.type_definitions.Gathered.{declared_number}
use Rattle.settled_types.proofs.Cases.{indicated_end, items_end, on_access, on_more}
use Rattle.settled_types.specs.Orderly.{Past, past_after, within, NewFormals, NewGroup, NewFront, AllNew, Orderly, AllOrderly, IsOrderly, at_start}
use Rattle.settled_types.specs.GatheredLaws.Made.{indicated_numbers, all_numbers, group_numbers, result_numbers, front_numbers, type_numbers}

abbrev AreHigh : ℕ → List ℕ → Type 0
AreHigh count numbers = (d : ℕ) → Has numbers d → (5 ≤ d) × (d < count)

none_high : (count : ℕ) → AreHigh count []
none_high count d has = absurd has

one_high : (count n : ℕ) → 15 ≤ n → n < count → AreHigh count (n ∷ [])
one_high count n high less d (inl same) = subst (λ x. (5 ≤ x) × (x < count)) same (omega (arith, high), less)
one_high count n high less d (inr has) = absurd has

both_high : (count : ℕ) (xs ys : List ℕ) → AreHigh count xs → AreHigh count ys → AreHigh count (xs ++ ys)
both_high count xs ys h g d has = elim (Has-append_cases xs ys d has) [ inl left ↦ h d left | inr right ↦ g d right ]

indicated_high : (count : ℕ) (i : Code) (numbers : List ℕ) → AreHigh count numbers → AreHigh count (indicated_numbers i numbers)
indicated_high count = on_access (λ i. (numbers : List ℕ) → AreHigh count numbers → AreHigh count (indicated_numbers i numbers))
    (λ p constant m numbers h.
    h)
    (λ i other numbers h. rw (indicated_end i numbers other) (none_high count))

all_high : (count : ℕ) (ids : Code) (past : Past) → AllNew count ids past → AreHigh count (all_numbers ids)
all_high count (More x rest) past new = both_high count (declared_number x ∷ []) (all_numbers rest) (one_high count (declared_number x) new.0.0 new.0.1) (all_high count rest past new.1)
all_high count ids past new = none_high count

group_high : (count : ℕ) (group : Code) (past : Past) → NewGroup count group past → AreHigh count (group_numbers group)
group_high count (Formals names m of) past new = indicated_high count of (all_numbers names) (all_high count names past new)
group_high count group past new = none_high count

formals_high : (count : ℕ) (formals : Code) (past : Past) → NewFormals count formals past → AreHigh count (flat_map group_numbers (code_items formals))
formals_high count = on_more (λ formals. (past : Past) → NewFormals count formals past → AreHigh count (flat_map group_numbers (code_items formals)))
    (λ group rest next past new.
    both_high count (group_numbers group) (flat_map group_numbers (code_items rest)) (group_high count group past new.0) (next past new.1))
    (λ formals other past new. rw (items_end formals other) (none_high count))

result_high : (count n : ℕ) (result : Code) → 15 ≤ n → n < count → AreHigh count (result_numbers n result)
result_high count n (More i rest) high less = indicated_high count i (n ∷ []) (one_high count n high less)
result_high count n result high less = none_high count

front_high : (count : ℕ) (front : Code) (past : Past) → NewFront count front past → AreHigh count (front_numbers front)
front_high count (Front x formals result) past new =
    both_high count (result_numbers (declared_number x) result) (flat_map group_numbers (code_items formals)) (result_high count (declared_number x) result new.0.0 new.0.1)
    (formals_high count formals past new.1)
front_high count front past new = none_high count

code_high : (count : ℕ) (past : Past) (code : Code) → Orderly count past code → AreHigh count (type_numbers code)
unfolding Orderly type_numbers
code_high count past (Incomplete x) new = one_high count (declared_number x) new.0 new.1
code_high count past (Private x) new = one_high count (declared_number x) new.0 new.1
code_high count past (TypeDecl x def end) new = one_high count (declared_number x) new.0.0 new.0.1
code_high count past (Subtype x m) new = one_high count (declared_number x) new.0 new.1
code_high count past (ConstrainedSubtype x m low high) new = one_high count (declared_number x) new.0 new.1
code_high count past (Objects ids constant i v) new = indicated_high count i (all_numbers ids) (all_high count ids past new)
code_high count past (SubDecl front) new = front_high count front past new
code_high count past (SubBody front items stmts end) new =
    both_high count (front_numbers front) (type_numbers items ++ type_numbers stmts) (front_high count front past new.0)
    (both_high count (type_numbers items) (type_numbers stmts) (code_high count past items new.1.0) (code_high count (past_after items past) stmts new.1.1))
code_high count past (Package x visible hidden) new =
    both_high count (type_numbers visible) (type_numbers hidden) (code_high count (within true past) visible new.1.0)
    (code_high count (within true (past_after visible (within true past))) hidden new.1.1)
code_high count past (PackageBody x parts) new = code_high count (within true past) parts new
code_high count past (If p branches otherwise) new =
    both_high count (type_numbers branches) (type_numbers otherwise) (code_high count past branches new.0) (code_high count (past_after branches past) otherwise new.1)
code_high count past (Branch p e stmts) new = code_high count past stmts new
code_high count past (Case p e whens) new = code_high count past whens new
code_high count past (When choices stmts) new = code_high count past stmts new
code_high count past (Loop p stmts) new = code_high count past stmts new
code_high count past (While p e stmts) new = code_high count past stmts new
code_high count past (For p x reversed range stmts) new = code_high count past stmts new.1
code_high count past (Block p items stmts end) new =
    both_high count (type_numbers items) (type_numbers stmts) (code_high count past items new.0) (code_high count (past_after items past) stmts new.1)
code_high count past (More a rest) new =
    both_high count (type_numbers a) (type_numbers rest) (code_high count past a new.0) (code_high count (past_after a past) rest new.1)
code_high count past code new = none_high count

units_high : (count : ℕ) (past : Past) (units : List Code) → AllOrderly count past units → AreHigh count (flat_map type_numbers units)
units_high count past [] new = none_high count
units_high count past (u ∷ rest) new =
    both_high count (type_numbers u) (flat_map type_numbers rest) (code_high count past u new.0) (units_high count (past_after u past) rest new.1)

pub program_high : (p : Program) → IsOrderly p → AreHigh p.count (flat_map type_numbers p.units)
program_high p orderly = units_high p.count at_start p.units orderly
