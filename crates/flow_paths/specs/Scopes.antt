-- How what is in scope changes from point to point (docs/FLOW.md, "Points").
--
-- The variables of a frame are what is in scope at its next point. An object that has no scope end
-- at a point of its own leaves without one.
use Rattle.std.specs.Prelude.{◌≡◌, ℕ, Bool, true, false, not, ◌&&◌, ◌||◌, ◌==◌, ◌+◌, List, [], ◌∷◌, ◌++◌, drop, Some}
use Rattle.std.specs.List.{AllByRecursion, list_all, list_any}
use Rattle.std.specs.Cmp.Lexicographic.{pointwise}
use Rattle.typed_tree.specs.spark_base.Lists.{Has}
use Rattle.typed_tree.specs.declared.object.ObjectKind.{ObjectKind}
use Rattle.typed_tree.specs.declared.object.ObjectKind.TheVariants as object_kind
use Rattle.typed_tree.specs.Trees.{TypedCode, If, Branch, Case, When, Loop, While, For, Block, More}
use Rattle.typed_tree.specs.Trees as typed
use Rattle.flow_paths.specs.Instructions.{Instruction, Skip, Declare, Assign, Call, Output, Input, Release, Test, Choose, Start, Next, Evaluate, LeaveLoop, Hold, EndScope, Finish, Fall}
use Rattle.flow_paths.specs.Objects.{Typing, object_at, has_scope_end}
use Rattle.flow_paths.specs.Names.{waiting}
use Rattle.flow_paths.specs.Points.{PointName, same_point, NamedPoint}

-- How many temporaries an instruction takes its values from: the last ones in scope. The one that
-- was filled first is taken first.
abbrev pub taken : Instruction → ℕ
taken Skip = 0
taken (Declare x v) = waiting v
taken (Assign target e) = waiting e + waiting target
taken (Call sub actuals result) = waiting actuals
taken (Output text line) = waiting text
taken (Input target) = waiting target
taken (Release m) = waiting m
taken (Test e) = waiting e
taken (Choose e choices) = waiting e
taken (Start x reversed low high) = waiting low + waiting high
taken (Next x reversed low high) = 0
taken (Evaluate t e left) = waiting e
taken (LeaveLoop e) = waiting e
taken (Hold v) = waiting v
taken (EndScope x) = 0
taken Finish = 0
taken Fall = 0

-- What comes into scope. The right operand of a short circuit finds its temporary full.
abbrev pub brought : Instruction → List ℕ → List ℕ
brought (Declare x v) scope = x ∷ scope
brought (Call sub actuals (Some t)) scope = t ∷ scope
brought (Start x reversed low high) scope = x ∷ scope
brought (Evaluate t e (Some op)) scope = t ∷ scope
-- the object whose scope ends is the last one in scope
brought (EndScope x) scope = drop 1 scope
brought _ scope = scope

-- What is in scope after an instruction.
abbrev pub scope_behind : NamedPoint → List ℕ
scope_behind p = brought p.instr (drop (taken p.instr) p.scope)

abbrev pub is_temporary : ObjectKind → Bool
is_temporary object_kind.Temporary = true
is_temporary _ = false

-- An object that leaves scope without a point.
abbrev pub leaves_silently : Typing → ℕ → Bool
leaves_silently s x = not (has_scope_end s x) && not (is_temporary (object_at s x).kind)

abbrev pub same_scope : List ℕ → List ℕ → Bool
same_scope a b = pointwise (λ i j. i == j) a b

-- The one scope is the other, but for objects at its front that leave silently.
abbrev pub leads_to_scope : Typing → List ℕ → List ℕ → Bool
leads_to_scope s [] b = same_scope [] b
leads_to_scope s (x ∷ a) b = same_scope (x ∷ a) b || (leaves_silently s x && leads_to_scope s a b)

-- An object whose scope ends is the last one in scope, and one that is declared, or a parameter
-- whose loop starts, isn't in scope.
abbrev pub is_last : ℕ → List ℕ → Bool
is_last x [] = false
is_last x (y ∷ scope) = x == y

abbrev pub is_within : ℕ → List ℕ → Bool
is_within x scope = list_any (λ y. x == y) scope

abbrev pub is_ready : NamedPoint → Instruction → Bool
is_ready p (Declare x v) = not (is_within x p.scope)
is_ready p (Start x reversed low high) = not (is_within x p.scope)
is_ready p (Next x reversed low high) = is_last x p.scope
is_ready p (EndScope x) = is_last x p.scope
is_ready p _ = true

abbrev pub follows : NamedPoint → NamedPoint → Bool
follows p q = list_any (same_point q.name) p.next

-- The law of scopes: what is in scope at each successor is what is in scope after the instruction.
abbrev pub scopes_agree : Typing → List NamedPoint → Bool
scopes_agree s points =
    list_all (λ p. is_ready p p.instr
    && list_all (λ q. not (follows p q) || leads_to_scope s (scope_behind p) q.scope) points) points

-- No two points have one name.
unfoldable pub names_differ : List NamedPoint → Bool
names_differ [] = true
names_differ (p ∷ rest) = not (list_any (λ q. same_point p.name q.name) rest) && names_differ rest

-- Each successor is a point.
abbrev pub is_closed : List NamedPoint → Bool
is_closed points = list_all (λ p. list_all (λ name. list_any (λ q. same_point name q.name) points) p.next) points

-- The same as a law: no point has the name of one before it.
abbrev pub Differ : List NamedPoint → Type 0
Differ [] = Unit {0}
Differ (p ∷ rest) = AllByRecursion (λ q. p.name ≡ q.name → ⊥) rest × Differ rest

-- A name belongs to a part of what stands at a place, or to that itself.
abbrev pub Under : List ℕ → PointName → Type 0
Under at n = (front : List ℕ) × (n.place ≡ front ++ at)

-- The law of scopes: each successor of a point is a point, and what is in scope after the one is
-- what is in scope at the other, but for objects at the front that leave silently.
abbrev pub Silent : Typing → ℕ → Type 0
Silent s x = leaves_silently s x ≡ true

abbrev pub Leads : Typing → List ℕ → List ℕ → Type 0
Leads s a b = (gone : List ℕ) × AllByRecursion (Silent s) gone × (a ≡ gone ++ b)

abbrev pub Arrives : Typing → List NamedPoint → PointName → List ℕ → Type 0
Arrives s points name scope = (q : NamedPoint) × Has points q × (q.name ≡ name) × Leads s scope q.scope

abbrev pub ScopesHold : Typing → List NamedPoint → Type 0
ScopesHold s points = (p : NamedPoint) → Has points p → (name : PointName) → Has p.next name → Arrives s points name (scope_behind p)

-- ---- what the law of scopes needs of code

-- Code declares no object itself.
abbrev pub is_declaration : TypedCode → Bool
is_declaration (typed.Declare p x v) = true
is_declaration _ = false

unfoldable pub is_undeclaring : TypedCode → Bool
is_undeclaring (typed.Declare p x v) = false
is_undeclaring (More a rest) = is_undeclaring a && is_undeclaring rest
is_undeclaring _ = true

-- Declarations stand in blocks and bodies alone, before the statements; no temporary is declared,
-- and the parameter of a loop leaves silently.
unfoldable pub is_settled : Typing → TypedCode → Bool
is_settled s (typed.Declare p x v) = not (is_temporary (object_at s x).kind)
is_settled s (More a rest) = is_settled s a && (is_settled s rest && (is_declaration a || is_undeclaring rest))
is_settled s (If branches otherwise) = is_settled s branches && (is_settled s otherwise && is_undeclaring otherwise)
is_settled s (Branch p e stmts) = is_settled s stmts && is_undeclaring stmts
is_settled s (Case p e whens) = is_settled s whens
is_settled s (When choices stmts) = is_settled s stmts && is_undeclaring stmts
is_settled s (Loop stmts) = is_settled s stmts && is_undeclaring stmts
is_settled s (While p e stmts) = is_settled s stmts && is_undeclaring stmts
is_settled s (For p x reversed low high stmts) = leaves_silently s x && (is_settled s stmts && is_undeclaring stmts)
is_settled s (Block n stmts end) = is_settled s stmts
is_settled s _ = true
