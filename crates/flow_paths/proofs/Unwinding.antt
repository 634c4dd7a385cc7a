-- The ends of scopes lead on from scope to scope.
use Rattle.std.proofs.Common.{◌≡◌, ◌⊎◌, ℕ, zero, suc, ◌+◌, List, [], ◌∷◌, ◌++◌, length, map, refl, sym, ap, ◌∙◌, subst, arith, inl, inr}
use Rattle.std.specs.Prelude.{Bool, true, false, not, ◌&&◌, ◌==◌, cond, filter, drop, if◌then◌else◌}
use Rattle.std.specs.List.{AllByRecursion}
use Rattle.std.proofs.lemmas.Grind.{common_steps}
use Rattle.typed_tree.specs.spark_base.Lists.{Has}
use Rattle.typed_tree.specs.spark_base.declared.position.Pos.{Pos}
use Rattle.flow_paths.specs.Instructions as instruction
use Rattle.flow_paths.specs.Objects.{Typing, object_at, has_scope_end}
use Rattle.flow_paths.specs.Points.{Place, PointName, row_at, NamedPoint, point, entry}
use Rattle.flow_paths.specs.Layout.{from, ends}
use Rattle.flow_paths.specs.Scopes.{is_temporary, Silent, Leads}
use Rattle.flow_paths.proofs.ScopesFlow.{leads_same, leads_on, Into, Own, Goes, Slack, into_one, into_is, goes_more, goes_none}

-- The scopes of some objects end one after the other, and what is left is as told.
abbrev pub Unwinds : Typing → (List ℕ → Type 0) → List ℕ → List ℕ → Type 0
Unwinds s F [] scope = F scope
Unwinds s F (x ∷ xs) scope =
    (rest : List ℕ) × (has_scope_end s x ≡ true) × Leads s scope (x ∷ rest) × (from x scope ≡ x ∷ rest) × Unwinds s F xs rest

-- What leads to what is as told is so, too.
abbrev pub Loose : Typing → (List ℕ → Type 0) → Type 0
Loose s F = (a b : List ℕ) → Leads s a b → F b → F a

from_next : (d x : ℕ) (scope : List ℕ) → (d == x) ≡ false → from x (d ∷ scope) ≡ from x scope
from_next d x scope other = ap (λ b. if b then d ∷ scope else from x scope) other

from_here : (x : ℕ) (scope : List ℕ) → from x (x ∷ scope) ≡ x ∷ scope
from_here x scope = let same : (x == x) ≡ true = grind arith in ap (λ b. if b then x ∷ scope else from x scope) same

-- An object that leaves silently isn't one whose scope ends.
not_silent : (s : Typing) (x : ℕ) → Silent s x → has_scope_end s x ≡ true → ⊥
not_silent s x silent has = grind (arith, silent, has)

others : (s : Typing) (d x : ℕ) → Silent s d → has_scope_end s x ≡ true → (b : Bool) → (d == x) ≡ b → (d == x) ≡ false
others s d x silent has true is =
    let same : d ≡ x = grind (arith, is) in absurd (not_silent s d silent (subst (λ y. has_scope_end s y ≡ true) (sym same) has))
others s d x silent has false is = is

pub unwinds_silent : (s : Typing) (F : List ℕ → Type 0) → Loose s F → (d : ℕ) (xs scope : List ℕ) → Silent s d → Unwinds s F xs scope → Unwinds s F xs (d ∷ scope)
unwinds_silent s F loose d [] scope silent h = loose (d ∷ scope) scope (d ∷ [], (silent, tt), refl) h
unwinds_silent s F loose d (x ∷ xs) scope silent h = (
  h.0,
  h.1,
  leads_on s (d ∷ scope) scope (x ∷ h.0) (d ∷ [], (silent, tt), refl) h.2,
  from_next d x scope (others s d x silent h.1 (d == x) refl) ∙ h.3,
  h.4,
)

-- What a block declares, the last one first, ends before what is around it.
abbrev pub Lasting : Typing → ℕ → Type 0
Lasting s x = not (is_temporary (object_at s x).kind) ≡ true

silent_is : (s : Typing) (d : ℕ) → Lasting s d → has_scope_end s d ≡ false → Silent s d
silent_is s d lasting none = grind (arith, lasting, none)

one_more : (s : Typing) (F : List ℕ → Type 0) → Loose s F → (d : ℕ) (own xs scope : List ℕ) → Lasting s d → Unwinds s F (own ++ xs) scope
    → (b : Bool) → has_scope_end s d ≡ b → Unwinds s F (cond b (d ∷ own) own ++ xs) (d ∷ scope)
one_more s F loose d own xs scope lasting h true is = (scope, is, leads_same s (d ∷ scope), from_here d scope, h)
one_more s F loose d own xs scope lasting h false is = unwinds_silent s F loose d (own ++ xs) scope (silent_is s d lasting is) h

pub block_unwinds : (s : Typing) (F : List ℕ → Type 0) → Loose s F → (ds xs scope : List ℕ) → AllByRecursion (Lasting s) ds
    → Unwinds s F xs scope → Unwinds s F (filter (has_scope_end s) ds ++ xs) (ds ++ scope)
block_unwinds s F loose [] xs scope all h = h
block_unwinds s F loose (d ∷ ds) xs scope all h =
    one_more s F loose d (filter (has_scope_end s) ds) xs (ds ++ scope) all.0 (block_unwinds s F loose ds xs scope all.1 h) (has_scope_end s d) refl

-- ---- the points

pub ends_enter : (s : Typing) (T : PointName → List ℕ → Type 0) (slack : Slack s T) (at : Place) (r : ℕ) (p : Pos) (xs scope : List ℕ) (k : List PointName)
    → Own T (ends at r p xs scope k) → Unwinds s (Into T k) xs scope → Into T (entry (ends at r p xs scope k) k) scope
ends_enter s T slack at r p [] scope k own h = h
ends_enter s T slack at r p (x ∷ xs) scope k own h =
    into_one s T slack (row_at at r) scope
    (slack (row_at at r) scope (x ∷ h.0) h.2 (subst (λ sc. T (row_at at r) sc) h.3 (own _ (inl refl))))

pub ends_go : (s : Typing) (T : PointName → List ℕ → Type 0) (slack : Slack s T) (at : Place) (r : ℕ) (p : Pos) (xs scope : List ℕ) (k : List PointName)
    → Own T (ends at r p xs scope k) → Unwinds s (Into T k) xs scope → Goes T (ends at r p xs scope k)
ends_go s T slack at r p [] scope k own h = goes_none s T slack
ends_go s T slack at r p (x ∷ xs) scope k own h =
    let left : List ℕ = drop 1 (from x scope) in
    let is : left ≡ h.0 = ap (λ sc. drop 1 sc) h.3 ∙ grind (arith, common_steps) in
    let behind : List NamedPoint = ends at (suc r) p xs left k in
    let rest : Unwinds s (Into T k) xs left = subst (λ sc. Unwinds s (Into T k) xs sc) (sym is) h.4 in
    let own_rest : Own T behind = (λ q has. own q (inr has)) in
    goes_more s T slack (point (row_at at r) p (instruction.EndScope x) (from x scope) (entry behind k)) behind
    (ends_enter s T slack at (suc r) p xs left k own_rest rest) (ends_go s T slack at (suc r) p xs left k own_rest rest)
