-- Each object that code declares has a point that gives it room.
use Rattle.std.proofs.Common.{◌≡◌, refl, inl, inr, ℕ, true, ◌&&◌, ◌||◌, List, [], ◌∷◌, ◌++◌}
use Rattle.std.specs.Prelude.{flat_map, reverse}
use Rattle.std.proofs.lemmas.Bool.{false≢true}
use Rattle.machine.specs.spark_base.Lists.{Has}
use Rattle.soundness.proofs.Lists.{Has-append_left, Has-append_right, Has-append_cases}
use Rattle.machine.specs.typed_tree.Trees.{TypedCode}
use Rattle.machine.specs.typed_tree.Trees as typed
use Rattle.machine.specs.flow_paths.Instructions.{Instruction}
use Rattle.machine.specs.flow_paths.Instructions as instruction
use Rattle.machine.specs.flow_paths.Points.{Place, PointName, row_at, NamedPoint, point, entry}
use Rattle.machine.specs.flow_paths.Prep.{Setting, with_held, prep}
use Rattle.machine.specs.flow_paths.Layout.{Around, within_loop, within_block, with_scope, declared, ending, ends, laid, laid_branches, laid_branch, laid_whens}
use Rattle.machine.specs.flow_paths.Laid.{declared_within}
use Rattle.machine.specs.flow_paths.Scopes.{is_declaration, is_undeclaring}
use Rattle.settled_types.proofs.OrderLaws.ScopeLaws.Lists.{and_first, and_second}
use Rattle.settled_types.specs.OrderLaws.Placed.{is_placed, are_placed_branches, is_placed_branch, are_placed_alternatives, is_placed_alternative}

-- What a step gives room.
abbrev pub Opens : ℕ → Instruction → Type 0
Opens x (instruction.Declare y v) = y ≡ x
Opens x (instruction.Start y reversed low high) = y ≡ x
Opens x _ = ⊥

abbrev pub Stands : ℕ → List NamedPoint → Type 0
Stands x ps = (p : NamedPoint) × Has ps p × Opens x p.instr

in_left : (x : ℕ) (ps qs : List NamedPoint) → Stands x ps → Stands x (ps ++ qs)
in_left x ps qs h = (h.0, Has-append_left ps qs h.0 h.1, h.2)

in_right : (x : ℕ) (ps qs : List NamedPoint) → Stands x qs → Stands x (ps ++ qs)
in_right x ps qs h = (h.0, Has-append_right ps qs h.0 h.1, h.2)

module _ (s : Setting) (x : ℕ) where
  mutual
    unfolding laid is_placed are_placed_branches is_placed_branch are_placed_alternatives is_placed_alternative declared_within

    pub stands : (c : TypedCode) (at : Place) (w : Around) (k : List PointName) → is_placed c ≡ true → Has (declared_within c) x → Stands x (laid s c at w k)
    stands (typed.More a rest) at w k h has =
        let behind : List NamedPoint = laid s rest (1 ∷ at) (with_scope (declared a) w) k in
        elim (Has-append_cases (declared_within a) (declared_within rest) x has) [
          | inl here ↦ in_left x (laid s a (0 ∷ at) w (entry behind k)) behind
              (stands a (0 ∷ at) w (entry behind k) (and_first (is_placed a) (is_placed rest && (is_declaration a || is_undeclaring rest)) h) here)
          | inr later ↦ in_right x (laid s a (0 ∷ at) w (entry behind k)) behind
              (stands rest (1 ∷ at) (with_scope (declared a) w) k
              (and_first (is_placed rest) (is_declaration a || is_undeclaring rest) (and_second (is_placed a) (is_placed rest && (is_declaration a || is_undeclaring rest)) h)) later)
        ]
    stands (typed.If branches otherwise) at w k h has =
        let behind : List NamedPoint = laid s otherwise (1 ∷ at) w k in
        elim (Has-append_cases (declared_within branches) (declared_within otherwise) x has) [
          | inl here ↦ in_left x (laid_branches s branches (0 ∷ at) w k (entry behind k)) behind
              (branches_stand branches (0 ∷ at) w k (entry behind k) (and_first (are_placed_branches branches) (is_placed otherwise && is_undeclaring otherwise) h) here)
          | inr later ↦ in_right x (laid_branches s branches (0 ∷ at) w k (entry behind k)) behind
              (stands otherwise (1 ∷ at) w k
              (and_first (is_placed otherwise) (is_undeclaring otherwise) (and_second (are_placed_branches branches) (is_placed otherwise && is_undeclaring otherwise) h)) later)
        ]
    stands (typed.Declare p y v) at w k h (inl e) =
        let own : NamedPoint = point (row_at at 0) p (instruction.Declare y v) (with_held s v (0 ∷ at) w.scope) k in
        in_right x (prep s v (0 ∷ at) w.scope (row_at at 0 ∷ [])) (own ∷ []) (own, inl refl, e)
    stands (typed.Declare p y v) at w k h (inr none) = absurd none
    stands (typed.Case p e whens) at w k h has = in_right x _ (flat_map (λ ps. ps) (laid_whens s whens (1 ∷ at) w k)) (alternatives_stand whens (1 ∷ at) w k h has)
    stands (typed.Loop stmts) at w k h has = stands stmts (0 ∷ at) (within_loop k w) _ (and_first (is_placed stmts) (is_undeclaring stmts) h) has
    stands (typed.While p e stmts) at w k h has =
        let turn : List PointName = entry (prep s e (0 ∷ at) w.scope (row_at at 0 ∷ [])) (row_at at 0 ∷ []) in
        in_right x _ (laid s stmts (1 ∷ at) (within_loop k w) turn)
        (stands stmts (1 ∷ at) (within_loop k w) turn (and_first (is_placed stmts) (is_undeclaring stmts) h) has)
    stands (typed.For p y reversed low high stmts) at w k h (inl e) =
        let own : List PointName = row_at at 0 ∷ [] in
        let next : List PointName = row_at at 1 ∷ [] in
        let behind : List NamedPoint = prep s high (1 ∷ at) (with_held s low (0 ∷ at) w.scope) own in
        let front : List NamedPoint = prep s low (0 ∷ at) w.scope (entry behind own) ++ behind in
        let first : NamedPoint = point (row_at at 0) p (instruction.Start y reversed low high) (with_held s high (1 ∷ at) (with_held s low (0 ∷ at) w.scope)) next in
        let inner : List NamedPoint = laid s stmts (2 ∷ at) (with_scope (y ∷ []) (within_loop k w)) next in
        in_left x (front ++ first ∷ []) (point (row_at at 1) p (instruction.Next y reversed low high) (y ∷ w.scope) (entry inner next ++ k) ∷ inner)
        (in_right x front (first ∷ []) (first, inl refl, e))
    stands (typed.For p y reversed low high stmts) at w k h (inr has) =
        let next : List PointName = row_at at 1 ∷ [] in
        let inner : List NamedPoint = laid s stmts (2 ∷ at) (with_scope (y ∷ []) (within_loop k w)) next in
        in_right x _ (point (row_at at 1) p (instruction.Next y reversed low high) (y ∷ w.scope) (entry inner next ++ k) ∷ inner)
        (in_right x (point (row_at at 1) p (instruction.Next y reversed low high) (y ∷ w.scope) (entry inner next ++ k) ∷ []) inner
        (stands stmts (2 ∷ at) (with_scope (y ∷ []) (within_loop k w)) next (and_first (is_placed stmts) (is_undeclaring stmts) h) has))
    stands (typed.Block n stmts end) at w k h has =
        let out : List NamedPoint = ends at 0 end (ending s stmts) (reverse (declared stmts) ++ w.scope) k in
        in_left x (laid s stmts (0 ∷ at) (within_block (ending s stmts) w) (entry out k)) out
        (stands stmts (0 ∷ at) (within_block (ending s stmts) w) (entry out k) h has)
    stands (typed.Branch p e stmts) at w k h has = absurd (false≢true h)
    stands (typed.When choices stmts) at w k h has = absurd (false≢true h)
    stands _ at w k h has = absurd has

    branches_stand : (c : TypedCode) (at : Place) (w : Around) (k otherwise : List PointName) → are_placed_branches c ≡ true → Has (declared_within c) x
        → Stands x (laid_branches s c at w k otherwise)
    branches_stand (typed.More (typed.Branch p e stmts) rest) at w k otherwise h has =
        let behind : List NamedPoint = laid_branches s rest (1 ∷ at) w k otherwise in
        elim (Has-append_cases (declared_within stmts) (declared_within rest) x has) [
          | inl here ↦ in_left x (laid_branch s (typed.Branch p e stmts) (0 ∷ at) w k (entry behind otherwise)) behind
              (in_right x _ (laid s stmts (1 ∷ (0 ∷ at)) w k)
              (stands stmts (1 ∷ (0 ∷ at)) w k
              (and_first (is_placed stmts) (is_undeclaring stmts) (and_first (is_placed stmts && is_undeclaring stmts) (are_placed_branches rest) h)) here))
          | inr later ↦ in_right x (laid_branch s (typed.Branch p e stmts) (0 ∷ at) w k (entry behind otherwise)) behind
              (branches_stand rest (1 ∷ at) w k otherwise (and_second (is_placed stmts && is_undeclaring stmts) (are_placed_branches rest) h) later)
        ]
    branches_stand typed.NoMore at w k otherwise h has = absurd has
    branches_stand _ at w k otherwise h has = absurd (false≢true h)

    alternatives_stand : (c : TypedCode) (at : Place) (w : Around) (k : List PointName) → are_placed_alternatives c ≡ true → Has (declared_within c) x
        → Stands x (flat_map (λ ps. ps) (laid_whens s c at w k))
    alternatives_stand (typed.More (typed.When choices stmts) rest) at w k h has =
        elim (Has-append_cases (declared_within stmts) (declared_within rest) x has) [
          | inl here ↦ in_left x (laid s stmts (1 ∷ (0 ∷ at)) w k) (flat_map (λ ps. ps) (laid_whens s rest (1 ∷ at) w k))
              (stands stmts (1 ∷ (0 ∷ at)) w k
              (and_first (is_placed stmts) (is_undeclaring stmts) (and_first (is_placed stmts && is_undeclaring stmts) (are_placed_alternatives rest) h)) here)
          | inr later ↦ in_right x (laid s stmts (1 ∷ (0 ∷ at)) w k) (flat_map (λ ps. ps) (laid_whens s rest (1 ∷ at) w k))
              (alternatives_stand rest (1 ∷ at) w k (and_second (is_placed stmts && is_undeclaring stmts) (are_placed_alternatives rest) h) later)
        ]
    alternatives_stand typed.NoMore at w k h has = absurd has
    alternatives_stand _ at w k h has = absurd (false≢true h)
