-- The typed code of resolved code as the grammar has it: declarations before statements, exits in loops.
use Rattle.std.proofs.Common.{◌≡◌, refl, ℕ, ◌+◌, Bool, true, false, ◌&&◌, ◌||◌, List, [], ◌∷◌, ◌++◌, map}
use Rattle.std.specs.List.{AllByRecursion}
use Rattle.std.proofs.lemmas.Bool.{false≢true}
use Rattle.machine.specs.resolved_tree.Trees.{Tree, Code, Incomplete, Private, TypeDecl, Subtype, ConstrainedSubtype, Objects, Numbers, Instance, SubDecl, Package, NoMore, More, code_items}
use Rattle.machine.specs.resolved_tree.Trees as resolved
use Rattle.machine.specs.type_definitions.declared.table.Entry.{Entry}
use Rattle.machine.specs.type_definitions.declared.table.Entry.TheVariants as entry
use Rattle.machine.specs.type_definitions.declared.table.Predefined.{Predefined}
use Rattle.machine.specs.type_definitions.declared.table.Predefined.TheVariants as predefined
use Rattle.machine.specs.type_definitions.Expressions.{call_arguments}
use Rattle.machine.specs.spark_base.declared.position.Pos.{Pos}
use Rattle.machine.specs.type_definitions.Entries.{entry_of}
use Rattle.machine.specs.typed_tree.Trees.{TypedTree, TypedCode, typed_code_list}
use Rattle.machine.specs.typed_tree.Trees as typed
use Rattle.machine.specs.typed_tree.Expressions.{Site}
use Rattle.machine.specs.typed_tree.Statements.{scope_count, statements, typed_object, typed_call, call_of, predefined_call, typed_body}
use Rattle.machine.specs.flow_paths.Scopes.{is_undeclaring}
use Rattle.machine.specs.flow_paths.Scopes as flow
use Rattle.settled_types.specs.OrderLaws.ScopeLaws.Code.{is_formed}
use Rattle.settled_types.specs.OrderLaws.ScopeLaws.Code as scope
use Rattle.settled_types.proofs.OrderLaws.ScopeLaws.Lists.{and_first, and_second, both_true, all_both}
use Rattle.settled_types.specs.OrderLaws.Written.{is_declaration, are_declarations, are_statements, are_alternatives}
use Rattle.settled_types.specs.OrderLaws.Placed.{is_placed, are_placed_branches, is_placed_branch, are_placed_alternatives, is_placed_alternative}
use Rattle.settled_types.proofs.OrderLaws.Grammar.{StatementLaws, on_statements}

-- ---- declarations

abbrev pub IsDeclare : TypedCode → Type 0
IsDeclare c = flow.is_declaration c ≡ true

each_declares : (s : Site) (v : TypedTree) (ids : List Code) → AllByRecursion IsDeclare (map (typed_object s v) ids)
each_declares s v [] = tt
each_declares s v (d ∷ ids) = (refl, each_declares s v ids)

pub one_declares : (s : Site) (n : ℕ) (c : Code) → is_declaration c ≡ true → AllByRecursion IsDeclare (statements s n c)
unfolding statements
one_declares s n (Objects ids constant i v) h = each_declares s _ (code_items ids)
one_declares s n (Numbers ids e) h = each_declares s _ (code_items ids)
one_declares s n (Incomplete d) h = tt
one_declares s n (Private d) h = tt
one_declares s n (TypeDecl d def end) h = tt
one_declares s n (Subtype d m) h = tt
one_declares s n (ConstrainedSubtype d m low high) h = tt
one_declares s n (Instance d m args) h = tt
one_declares s n (SubDecl front) h = tt
one_declares s n NoMore h = tt
one_declares s n _ h = absurd (false≢true h)

pub all_declare : (s : Site) (n : ℕ) (c : Code) → are_declarations c ≡ true → AllByRecursion IsDeclare (statements s n c)
unfolding statements are_declarations
all_declare s n (More a rest) h =
    all_both IsDeclare (statements s n a) (statements s (n + scope_count a) rest)
    (one_declares s n a (and_first (is_declaration a) (are_declarations rest) h))
    (all_declare s (n + scope_count a) rest (and_second (is_declaration a) (are_declarations rest) h))
all_declare s n NoMore h = tt
all_declare s n _ h = absurd (false≢true h)

-- ---- statements

-- A statement: it declares nothing itself, and what is in it is as it should be.
abbrev pub IsWritten : Bool → TypedCode → Type 0
IsWritten looped c = (is_undeclaring c ≡ true) × (is_placed c ≡ true) × (is_formed looped c ≡ true)

or_right : (a b : Bool) → b ≡ true → a || b ≡ true
or_right true b e = refl
or_right false b e = e

abbrev Written : Bool → List TypedCode → Type 0
Written looped cs = AllByRecursion (IsWritten looped) cs

list_written : (looped : Bool) (cs : List TypedCode) → Written looped cs → IsWritten looped (typed_code_list cs)
unfolding is_undeclaring is_placed is_formed
list_written looped [] h = (refl, refl, refl)
list_written looped (c ∷ cs) h =
    let more = list_written looped cs h.1 in (
      both_true (is_undeclaring c) (is_undeclaring (typed_code_list cs)) h.0.0 more.0,
      both_true (is_placed c) (is_placed (typed_code_list cs) && (flow.is_declaration c || is_undeclaring (typed_code_list cs))) h.0.1
          (both_true (is_placed (typed_code_list cs)) (flow.is_declaration c || is_undeclaring (typed_code_list cs)) more.1 (or_right (flow.is_declaration c) _ more.0)),
      both_true (is_formed looped c) (is_formed looped (typed_code_list cs)) h.0.2 more.2,
    )

-- what stands in a statement
abbrev IsInner : Bool → List TypedCode → Type 0
IsInner looped cs = (is_placed (typed_code_list cs) && is_undeclaring (typed_code_list cs) ≡ true) × (is_formed looped (typed_code_list cs) ≡ true)

inner : (looped : Bool) (cs : List TypedCode) → Written looped cs → IsInner looped cs
inner looped cs h =
    let all = list_written looped cs h in (both_true (is_placed (typed_code_list cs)) (is_undeclaring (typed_code_list cs)) all.1 all.0, all.2)

-- The branches of an `if`, and what stands after `else`.
abbrev IsBranch : Bool → TypedCode → Type 0
IsBranch looped c = (is_placed_branch c ≡ true) × (is_formed looped c ≡ true)

list_branches : (looped : Bool) (cs : List TypedCode) → AllByRecursion (IsBranch looped) cs
    → (are_placed_branches (typed_code_list cs) ≡ true) × (is_formed looped (typed_code_list cs) ≡ true)
unfolding are_placed_branches is_formed
list_branches looped [] h = (refl, refl)
list_branches looped (c ∷ cs) h =
    let more = list_branches looped cs h.1 in (
      both_true (is_placed_branch c) (are_placed_branches (typed_code_list cs)) h.0.0 more.0,
      both_true (is_formed looped c) (is_formed looped (typed_code_list cs)) h.0.1 more.1,
    )

both_inner : (looped : Bool) (bs cs : List TypedCode) → AllByRecursion (IsBranch looped) bs → Written looped cs
    → (are_placed_branches (typed_code_list bs) && (is_placed (typed_code_list cs) && is_undeclaring (typed_code_list cs)) ≡ true)
    × (is_formed looped (typed_code_list bs) && is_formed looped (typed_code_list cs) ≡ true)
both_inner looped bs cs h g =
    let first = list_branches looped bs h in
    let second = inner looped cs g in (
      both_true (are_placed_branches (typed_code_list bs)) (is_placed (typed_code_list cs) && is_undeclaring (typed_code_list cs)) first.0 second.0,
      both_true (is_formed looped (typed_code_list bs)) (is_formed looped (typed_code_list cs)) first.1 second.1,
    )

-- Declarations, and statements after them.
pub body_written : (looped : Bool) (ds cs : List TypedCode) → AllByRecursion IsDeclare ds → Written looped cs
    → (is_placed (typed_code_list (ds ++ cs)) ≡ true) × (is_formed looped (typed_code_list (ds ++ cs)) ≡ true)
unfolding is_placed is_formed
body_written looped [] cs h g = (let all = list_written looped cs g in (all.1, all.2))
body_written looped (typed.Declare p x v ∷ ds) cs h g =
    let more = body_written looped ds cs h.1 g in
    (both_true (is_placed (typed_code_list (ds ++ cs))) true more.0 refl, more.1)
body_written looped (_ ∷ ds) cs h g = absurd (false≢true h.0)

predefined_written : (s : Site) (looped : Bool) (p : Pos) (which : Predefined) (args : Tree) → IsWritten looped (predefined_call s p which args)
unfolding is_undeclaring is_placed is_formed
predefined_written s looped p predefined.Put args = (refl, refl, refl)
predefined_written s looped p predefined.PutLine args = (refl, refl, refl)
predefined_written s looped p predefined.NewLine args = (refl, refl, refl)
predefined_written s looped p predefined.Get args = (refl, refl, refl)
predefined_written s looped p predefined.EndOfFile args = (refl, refl, refl)
predefined_written s looped p predefined.Deallocation args = (refl, refl, refl)

entry_written : (s : Site) (looped : Bool) (p : Pos) (d : ℕ) (e : Entry) (rest : Tree) → IsWritten looped (call_of s p d e rest)
unfolding is_undeclaring is_placed is_formed
entry_written s looped p d (entry.Subprogram profile) rest = (refl, refl, refl)
entry_written s looped p d (entry.Instance t) rest = (refl, refl, refl)
entry_written s looped p d (entry.Predefined which) rest = predefined_written s looped p which (call_arguments rest)
entry_written s looped p d (entry.Object o) rest = (refl, refl, refl)
entry_written s looped p d (entry.Literal t n) rest = (refl, refl, refl)
entry_written s looped p d entry.Type rest = (refl, refl, refl)
entry_written s looped p d entry.Nothing rest = (refl, refl, refl)
entry_written s looped p d entry.Package rest = (refl, refl, refl)

call_written : (s : Site) (looped : Bool) (name : Tree) → IsWritten looped (typed_call s name)
unfolding is_undeclaring is_placed is_formed
call_written s looped (resolved.Named p d rest) = entry_written s looped p d (entry_of s.context.known d) rest
call_written s looped _ = (refl, refl, refl)

-- An alternative of a `case`.
abbrev IsAlternative : Bool → TypedCode → Type 0
IsAlternative looped c = (is_placed_alternative c ≡ true) × (scope.is_formed_alternative looped c ≡ true)

list_alternatives : (looped : Bool) (cs : List TypedCode) → AllByRecursion (IsAlternative looped) cs
    → (are_placed_alternatives (typed_code_list cs) ≡ true) × (scope.are_alternatives looped (typed_code_list cs) ≡ true)
unfolding are_placed_alternatives scope.are_alternatives
list_alternatives looped [] h = (refl, refl)
list_alternatives looped (c ∷ cs) h =
    let more = list_alternatives looped cs h.1 in (
      both_true (is_placed_alternative c) (are_placed_alternatives (typed_code_list cs)) h.0.0 more.0,
      both_true (scope.is_formed_alternative looped c) (scope.are_alternatives looped (typed_code_list cs)) h.0.1 more.1,
    )

abbrev IsWrittenCode : Bool → Code → Type 0
IsWrittenCode looped c = (s : Site) (n : ℕ) → Written looped (statements s n c)

abbrev AreBranches : Bool → Code → Type 0
AreBranches looped c = (s : Site) (n : ℕ) → AllByRecursion (IsBranch looped) (statements s n c)

abbrev AreAlternatives : Bool → Code → Type 0
AreAlternatives looped c = (s : Site) (n : ℕ) → AllByRecursion (IsAlternative looped) (statements s n c)

written_laws : StatementLaws IsWrittenCode AreBranches AreAlternatives AreAlternatives
unfolding statements is_undeclaring is_placed is_placed_branch is_placed_alternative is_formed scope.are_alternatives scope.is_formed_alternative
written_laws = record {
  list = λ looped c rest one more s n. all_both (IsWritten looped) (statements s n c) (statements s (n + scope_count c) rest) (one s n) (more s (n + scope_count c));
  none = λ looped s n. tt;
  skip = λ looped p s n. ((refl, refl, refl), tt);
  assign = λ looped target v s n. ((refl, refl, refl), tt);
  call = λ looped name s n. (call_written s looped name, tt);
  exit = λ looped p when e s n. ((refl, refl, e), tt);
  return = λ looped p v s n. ((refl, refl, refl), tt);
  choice = λ looped p branches otherwise one more s n.
      (let whole = both_inner looped (statements s n branches) (statements s (n + scope_count branches) otherwise) (one s n) (more s (n + scope_count branches)) in
      ((refl, whole.0, whole.1), tt));
  cases = λ looped p v whens one s n. (let first = list_alternatives looped (statements s n whens) (one s n) in ((refl, first.0, first.1), tt));
  loop = λ looped p stmts one s n. (let first = inner true (statements s n stmts) (one s n) in ((refl, first.0, first.1), tt));
  while = λ looped p v stmts one s n. (let first = inner true (statements s n stmts) (one s n) in ((refl, first.0, first.1), tt));
  for = λ looped p d reversed range stmts one s n. (let first = inner true (statements s (n + 1) stmts) (one s (n + 1)) in ((refl, first.0, first.1), tt));
  block = λ looped p items stmts end declares one s n.
      (let whole = body_written looped (statements s (n + 1) items) (statements s (n + 1 + scope_count items) stmts) (all_declare s (n + 1) items declares) (one s (n + 1 + scope_count items)) in
      ((refl, whole.0, whole.1), tt));
  branches = λ looped c rest one more s n. all_both (IsBranch looped) (statements s n c) (statements s (n + scope_count c) rest) (one s n) (more s (n + scope_count c));
  no_branches = λ looped s n. tt;
  branch = λ looped p v stmts one s n. (let first = inner looped (statements s n stmts) (one s n) in ((first.0, first.1), tt));
  alternatives = λ looped c rest one more s n. all_both (IsAlternative looped) (statements s n c) (statements s (n + scope_count c) rest) (one s n) (more s (n + scope_count c));
  no_alternatives = λ looped s n. tt;
  alternative = λ looped choices stmts one s n. (let first = inner looped (statements s n stmts) (one s n) in ((first.0, first.1), tt));
  no_alternative = λ looped s n. tt;
}

pub all_written : (s : Site) (n : ℕ) (looped : Bool) (c : Code) → are_statements looped c ≡ true → Written looped (statements s n c)
all_written s n looped c e = on_statements written_laws looped c e s n

-- ---- bodies

-- The typed body of a subprogram.
pub typed_body_written : (s : Site) (n : ℕ) (items stmts : Code) → are_declarations items ≡ true → are_statements false stmts ≡ true
    → (is_placed (typed_body s n items stmts) ≡ true) × (is_formed false (typed_body s n items stmts) ≡ true)
typed_body_written s n items stmts h g =
    body_written false (statements s n items) (statements s (n + scope_count items) stmts) (all_declare s n items h)
    (all_written s (n + scope_count items) false stmts g)
