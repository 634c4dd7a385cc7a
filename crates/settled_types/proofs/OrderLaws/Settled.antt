-- Code that is placed is settled, where the parameter of each `for` loop is of a scalar type.
use Rattle.std.proofs.Common.{◌≡◌, refl, ap, ◌∙◌, inl, inr, ℕ, Bool, true, false, not, ◌&&◌, ◌||◌, List, [], ◌∷◌, ◌++◌}
use Rattle.std.specs.Prelude.{flat_map, reverse}
use Rattle.std.proofs.lemmas.Bool.{false≢true, true≢false}
use Rattle.machine.specs.spark_base.Lists.{Has}
use Rattle.spark_base.proofs.Lists.{Has-append_left, Has-append_right, Has-append_cases}
use Rattle.machine.specs.type_definitions.declared.table.Shape.{Shape}
use Rattle.machine.specs.type_definitions.declared.table.Shape.TheVariants as shape
use Rattle.machine.specs.type_definitions.Types.{shape_of, full, view_of as view_of_shape, is_owning, owns_of, is_scalar}
use Rattle.machine.specs.typed_tree.Trees.{TypedTree, TypedCode}
use Rattle.machine.specs.typed_tree.Trees as typed
use Rattle.machine.specs.flow_paths.Instructions as instruction
use Rattle.machine.specs.flow_paths.Objects.{Typing, object_at, is_anonymous, view_of}
use Rattle.machine.specs.flow_paths.Points.{Place, PointName, row_at, NamedPoint, point, entry}
use Rattle.machine.specs.flow_paths.Prep.{Setting, with_held, prep}
use Rattle.machine.specs.flow_paths.Layout.{Around, within_loop, within_block, with_scope, declared, ending, ends, laid, laid_branches, laid_branch, laid_whens}
use Rattle.machine.specs.flow_paths.Scopes.{is_temporary, leaves_silently, is_declaration, is_undeclaring, is_settled}
use Rattle.soundness.specs.Typed.{OwnsByShape}
use Rattle.settled_types.proofs.OrderLaws.ScopeLaws.Lists.{and_first, and_second, both_true}
use Rattle.settled_types.specs.OrderLaws.Placed.{is_placed, are_placed_branches, is_placed_branch, are_placed_alternatives, is_placed_alternative, parameters}

-- ---- settled code

module _ (s : Typing) (lasting : (x : ℕ) → is_temporary (object_at s x).kind ≡ false) where
  abbrev AreSilent : TypedCode → Type 0
  AreSilent c = (x : ℕ) → Has (parameters c) x → leaves_silently s x ≡ true

  branches_undeclaring : (c : TypedCode) → are_placed_branches c ≡ true → is_undeclaring c ≡ true
  unfolding are_placed_branches is_undeclaring is_placed_branch
  branches_undeclaring (typed.More (typed.Branch p e stmts) rest) h = branches_undeclaring rest (and_second (is_placed stmts && is_undeclaring stmts) (are_placed_branches rest) h)
  branches_undeclaring typed.NoMore h = refl
  branches_undeclaring _ h = absurd (false≢true h)

  alternatives_undeclaring : (c : TypedCode) → are_placed_alternatives c ≡ true → is_undeclaring c ≡ true
  unfolding are_placed_alternatives is_undeclaring is_placed_alternative
  alternatives_undeclaring (typed.More (typed.When choices stmts) rest) h =
      alternatives_undeclaring rest (and_second (is_placed stmts && is_undeclaring stmts) (are_placed_alternatives rest) h)
  alternatives_undeclaring typed.NoMore h = refl
  alternatives_undeclaring _ h = absurd (false≢true h)

  mutual
    unfolding is_settled is_placed are_placed_branches is_placed_branch are_placed_alternatives is_placed_alternative parameters

    pub settled_from : (c : TypedCode) → is_placed c ≡ true → AreSilent c → is_settled s c ≡ true
    settled_from (typed.Declare p x v) h silent = ap not (lasting x)
    settled_from (typed.More a rest) h silent =
        let more = and_second (is_placed a) (is_placed rest && (is_declaration a || is_undeclaring rest)) h in
        both_true (is_settled s a) (is_settled s rest && (is_declaration a || is_undeclaring rest))
        (settled_from a (and_first (is_placed a) (is_placed rest && (is_declaration a || is_undeclaring rest)) h)
        (λ x has. silent x (Has-append_left (parameters a) (parameters rest) x has)))
        (both_true (is_settled s rest) (is_declaration a || is_undeclaring rest)
        (settled_from rest (and_first (is_placed rest) (is_declaration a || is_undeclaring rest) more)
        (λ x has. silent x (Has-append_right (parameters a) (parameters rest) x has)))
        (and_second (is_placed rest) (is_declaration a || is_undeclaring rest) more))
    settled_from (typed.If branches otherwise) h silent =
        let more = and_second (are_placed_branches branches) (is_placed otherwise && is_undeclaring otherwise) h in
        both_true (is_settled s branches) (is_settled s otherwise && is_undeclaring otherwise)
        (branches_settled branches (and_first (are_placed_branches branches) (is_placed otherwise && is_undeclaring otherwise) h)
        (λ x has. silent x (Has-append_left (parameters branches) (parameters otherwise) x has)))
        (both_true (is_settled s otherwise) (is_undeclaring otherwise)
        (settled_from otherwise (and_first (is_placed otherwise) (is_undeclaring otherwise) more)
        (λ x has. silent x (Has-append_right (parameters branches) (parameters otherwise) x has)))
        (and_second (is_placed otherwise) (is_undeclaring otherwise) more))
    settled_from (typed.Case p e whens) h silent = alternatives_settled whens h silent
    settled_from (typed.Loop stmts) h silent =
        both_true (is_settled s stmts) (is_undeclaring stmts) (settled_from stmts (and_first (is_placed stmts) (is_undeclaring stmts) h) silent)
        (and_second (is_placed stmts) (is_undeclaring stmts) h)
    settled_from (typed.While p e stmts) h silent =
        both_true (is_settled s stmts) (is_undeclaring stmts) (settled_from stmts (and_first (is_placed stmts) (is_undeclaring stmts) h) silent)
        (and_second (is_placed stmts) (is_undeclaring stmts) h)
    settled_from (typed.For p x reversed low high stmts) h silent =
        both_true (leaves_silently s x) (is_settled s stmts && is_undeclaring stmts) (silent x (inl refl))
        (both_true (is_settled s stmts) (is_undeclaring stmts)
        (settled_from stmts (and_first (is_placed stmts) (is_undeclaring stmts) h) (λ y has. silent y (inr has)))
        (and_second (is_placed stmts) (is_undeclaring stmts) h))
    settled_from (typed.Block n stmts end) h silent = settled_from stmts h silent
    settled_from (typed.Branch p e stmts) h silent = absurd (false≢true h)
    settled_from (typed.When choices stmts) h silent = absurd (false≢true h)
    settled_from _ h silent = refl

    branches_settled : (c : TypedCode) → are_placed_branches c ≡ true → AreSilent c → is_settled s c ≡ true
    branches_settled (typed.More (typed.Branch p e stmts) rest) h silent =
        let first = and_first (is_placed stmts && is_undeclaring stmts) (are_placed_branches rest) h in
        let more = and_second (is_placed stmts && is_undeclaring stmts) (are_placed_branches rest) h in
        both_true (is_settled s stmts && is_undeclaring stmts) (is_settled s rest && is_undeclaring rest)
        (both_true (is_settled s stmts) (is_undeclaring stmts)
        (settled_from stmts (and_first (is_placed stmts) (is_undeclaring stmts) first) (λ x has. silent x (Has-append_left (parameters stmts) (parameters rest) x has)))
        (and_second (is_placed stmts) (is_undeclaring stmts) first))
        (both_true (is_settled s rest) (is_undeclaring rest)
        (branches_settled rest more (λ x has. silent x (Has-append_right (parameters stmts) (parameters rest) x has)))
        (branches_undeclaring rest more))
    branches_settled typed.NoMore h silent = refl
    branches_settled _ h silent = absurd (false≢true h)

    alternatives_settled : (c : TypedCode) → are_placed_alternatives c ≡ true → AreSilent c → is_settled s c ≡ true
    alternatives_settled (typed.More (typed.When choices stmts) rest) h silent =
        let first = and_first (is_placed stmts && is_undeclaring stmts) (are_placed_alternatives rest) h in
        let more = and_second (is_placed stmts && is_undeclaring stmts) (are_placed_alternatives rest) h in
        both_true (is_settled s stmts && is_undeclaring stmts) (is_settled s rest && is_undeclaring rest)
        (both_true (is_settled s stmts) (is_undeclaring stmts)
        (settled_from stmts (and_first (is_placed stmts) (is_undeclaring stmts) first) (λ x has. silent x (Has-append_left (parameters stmts) (parameters rest) x has)))
        (and_second (is_placed stmts) (is_undeclaring stmts) first))
        (both_true (is_settled s rest) (is_undeclaring rest)
        (alternatives_settled rest more (λ x has. silent x (Has-append_right (parameters stmts) (parameters rest) x has)))
        (alternatives_undeclaring rest more))
    alternatives_settled typed.NoMore h silent = refl
    alternatives_settled _ h silent = absurd (false≢true h)

-- ---- a loop has a point that starts it

abbrev Starts : ℕ → List NamedPoint → Type 0
Starts x ps = (p : NamedPoint) × Has ps p × (reversed : Bool) × (low : TypedTree) × (high : TypedTree) × (p.instr ≡ instruction.Start x reversed low high)

in_left : (x : ℕ) (ps qs : List NamedPoint) → Starts x ps → Starts x (ps ++ qs)
in_left x ps qs h = (h.0, Has-append_left ps qs h.0 h.1, h.2, h.3, h.4, h.5)

in_right : (x : ℕ) (ps qs : List NamedPoint) → Starts x qs → Starts x (ps ++ qs)
in_right x ps qs h = (h.0, Has-append_right ps qs h.0 h.1, h.2, h.3, h.4, h.5)

module _ (s : Setting) (x : ℕ) where
  mutual
    unfolding laid is_placed are_placed_branches is_placed_branch are_placed_alternatives is_placed_alternative parameters

    pub starts : (c : TypedCode) (at : Place) (w : Around) (k : List PointName) → is_placed c ≡ true → Has (parameters c) x → Starts x (laid s c at w k)
    starts (typed.More a rest) at w k h has =
        let behind : List NamedPoint = laid s rest (1 ∷ at) (with_scope (declared a) w) k in
        elim (Has-append_cases (parameters a) (parameters rest) x has) [
          | inl here ↦ in_left x (laid s a (0 ∷ at) w (entry behind k)) behind
              (starts a (0 ∷ at) w (entry behind k) (and_first (is_placed a) (is_placed rest && (is_declaration a || is_undeclaring rest)) h) here)
          | inr later ↦ in_right x (laid s a (0 ∷ at) w (entry behind k)) behind
              (starts rest (1 ∷ at) (with_scope (declared a) w) k
              (and_first (is_placed rest) (is_declaration a || is_undeclaring rest) (and_second (is_placed a) (is_placed rest && (is_declaration a || is_undeclaring rest)) h)) later)
        ]
    starts (typed.If branches otherwise) at w k h has =
        let behind : List NamedPoint = laid s otherwise (1 ∷ at) w k in
        elim (Has-append_cases (parameters branches) (parameters otherwise) x has) [
          | inl here ↦ in_left x (laid_branches s branches (0 ∷ at) w k (entry behind k)) behind
              (branches_start branches (0 ∷ at) w k (entry behind k) (and_first (are_placed_branches branches) (is_placed otherwise && is_undeclaring otherwise) h) here)
          | inr later ↦ in_right x (laid_branches s branches (0 ∷ at) w k (entry behind k)) behind
              (starts otherwise (1 ∷ at) w k
              (and_first (is_placed otherwise) (is_undeclaring otherwise) (and_second (are_placed_branches branches) (is_placed otherwise && is_undeclaring otherwise) h)) later)
        ]
    starts (typed.Case p e whens) at w k h has = in_right x _ (flat_map (λ ps. ps) (laid_whens s whens (1 ∷ at) w k)) (alternatives_start whens (1 ∷ at) w k h has)
    starts (typed.Loop stmts) at w k h has = starts stmts (0 ∷ at) (within_loop k w) _ (and_first (is_placed stmts) (is_undeclaring stmts) h) has
    starts (typed.While p e stmts) at w k h has =
        let turn : List PointName = entry (prep s e (0 ∷ at) w.scope (row_at at 0 ∷ [])) (row_at at 0 ∷ []) in
        in_right x _ (laid s stmts (1 ∷ at) (within_loop k w) turn)
        (starts stmts (1 ∷ at) (within_loop k w) turn (and_first (is_placed stmts) (is_undeclaring stmts) h) has)
    starts (typed.For p y reversed low high stmts) at w k h (inl e) =
        let own : List PointName = row_at at 0 ∷ [] in
        let next : List PointName = row_at at 1 ∷ [] in
        let behind : List NamedPoint = prep s high (1 ∷ at) (with_held s low (0 ∷ at) w.scope) own in
        let front : List NamedPoint = prep s low (0 ∷ at) w.scope (entry behind own) ++ behind in
        let first : NamedPoint = point (row_at at 0) p (instruction.Start y reversed low high) (with_held s high (1 ∷ at) (with_held s low (0 ∷ at) w.scope)) next in
        let inner : List NamedPoint = laid s stmts (2 ∷ at) (with_scope (y ∷ []) (within_loop k w)) next in
        in_left x (front ++ first ∷ []) (point (row_at at 1) p (instruction.Next y reversed low high) (y ∷ w.scope) (entry inner next ++ k) ∷ inner)
        (in_right x front (first ∷ []) (first, inl refl, reversed, low, high, ap (λ z. instruction.Start z reversed low high) e))
    starts (typed.For p y reversed low high stmts) at w k h (inr has) =
        let next : List PointName = row_at at 1 ∷ [] in
        let inner : List NamedPoint = laid s stmts (2 ∷ at) (with_scope (y ∷ []) (within_loop k w)) next in
        in_right x _ (point (row_at at 1) p (instruction.Next y reversed low high) (y ∷ w.scope) (entry inner next ++ k) ∷ inner)
        (in_right x (point (row_at at 1) p (instruction.Next y reversed low high) (y ∷ w.scope) (entry inner next ++ k) ∷ []) inner
        (starts stmts (2 ∷ at) (with_scope (y ∷ []) (within_loop k w)) next (and_first (is_placed stmts) (is_undeclaring stmts) h) has))
    starts (typed.Block n stmts end) at w k h has =
        let out : List NamedPoint = ends at 0 end (ending s stmts) (reverse (declared stmts) ++ w.scope) k in
        in_left x (laid s stmts (0 ∷ at) (within_block (ending s stmts) w) (entry out k)) out
        (starts stmts (0 ∷ at) (within_block (ending s stmts) w) (entry out k) h has)
    starts (typed.Branch p e stmts) at w k h has = absurd (false≢true h)
    starts (typed.When choices stmts) at w k h has = absurd (false≢true h)
    starts _ at w k h has = absurd has

    branches_start : (c : TypedCode) (at : Place) (w : Around) (k otherwise : List PointName) → are_placed_branches c ≡ true → Has (parameters c) x
        → Starts x (laid_branches s c at w k otherwise)
    branches_start (typed.More (typed.Branch p e stmts) rest) at w k otherwise h has =
        let behind : List NamedPoint = laid_branches s rest (1 ∷ at) w k otherwise in
        elim (Has-append_cases (parameters stmts) (parameters rest) x has) [
          | inl here ↦ in_left x (laid_branch s (typed.Branch p e stmts) (0 ∷ at) w k (entry behind otherwise)) behind
              (in_right x _ (laid s stmts (1 ∷ (0 ∷ at)) w k)
              (starts stmts (1 ∷ (0 ∷ at)) w k
              (and_first (is_placed stmts) (is_undeclaring stmts) (and_first (is_placed stmts && is_undeclaring stmts) (are_placed_branches rest) h)) here))
          | inr later ↦ in_right x (laid_branch s (typed.Branch p e stmts) (0 ∷ at) w k (entry behind otherwise)) behind
              (branches_start rest (1 ∷ at) w k otherwise (and_second (is_placed stmts && is_undeclaring stmts) (are_placed_branches rest) h) later)
        ]
    branches_start typed.NoMore at w k otherwise h has = absurd has
    branches_start _ at w k otherwise h has = absurd (false≢true h)

    alternatives_start : (c : TypedCode) (at : Place) (w : Around) (k : List PointName) → are_placed_alternatives c ≡ true → Has (parameters c) x
        → Starts x (flat_map (λ ps. ps) (laid_whens s c at w k))
    alternatives_start (typed.More (typed.When choices stmts) rest) at w k h has =
        elim (Has-append_cases (parameters stmts) (parameters rest) x has) [
          | inl here ↦ in_left x (laid s stmts (1 ∷ (0 ∷ at)) w k) (flat_map (λ ps. ps) (laid_whens s rest (1 ∷ at) w k))
              (starts stmts (1 ∷ (0 ∷ at)) w k
              (and_first (is_placed stmts) (is_undeclaring stmts) (and_first (is_placed stmts && is_undeclaring stmts) (are_placed_alternatives rest) h)) here)
          | inr later ↦ in_right x (laid s stmts (1 ∷ (0 ∷ at)) w k) (flat_map (λ ps. ps) (laid_whens s rest (1 ∷ at) w k))
              (alternatives_start rest (1 ∷ at) w k (and_second (is_placed stmts && is_undeclaring stmts) (are_placed_alternatives rest) h) later)
        ]
    alternatives_start typed.NoMore at w k h has = absurd has
    alternatives_start _ at w k h has = absurd (false≢true h)

-- ---- an object of a scalar type leaves silently

silent : (a b c : Bool) → a ≡ false → b ≡ false → c ≡ false → not (a || b) && not c ≡ true
silent false false false x y z = refl
silent true b c x y z = absurd (true≢false x)
silent false true c x y z = absurd (true≢false y)
silent false false true x y z = absurd (true≢false z)

module _ (s : Typing) (own_law : OwnsByShape s.table) where
  by_shape : (t : ℕ) (sh : Shape) → shape_of s.table t ≡ sh → is_scalar (view_of_shape sh) ≡ true → (is_owning s.table t ≡ false) × (is_anonymous (full s.table t) ≡ false)
  by_shape t (shape.Whole a b) e h = (own_law t ∙ ap (owns_of (is_owning s.table)) e, ap (λ z. is_anonymous (view_of_shape z)) e)
  by_shape t (shape.Listed l a b) e h = (own_law t ∙ ap (owns_of (is_owning s.table)) e, ap (λ z. is_anonymous (view_of_shape z)) e)
  by_shape t (shape.Access d c n) e h = absurd (false≢true h)
  by_shape t (shape.Fields cs) e h = absurd (false≢true h)
  by_shape t (shape.Elements a b el) e h = absurd (false≢true h)
  by_shape t (shape.Same of) e h = absurd (false≢true h)

  pub scalar_silent : (x : ℕ) → is_temporary (object_at s x).kind ≡ false → is_scalar (full s.table (object_at s x).of) ≡ true → leaves_silently s x ≡ true
  scalar_silent x lasting scalar =
      let both = by_shape (object_at s x).of (shape_of s.table (object_at s x).of) refl scalar in
      silent (is_owning s.table (object_at s x).of) (is_anonymous (view_of s x)) (is_temporary (object_at s x).kind) both.0 both.1 lasting
