-- Code is laid out alike by two typings that say the same of the objects that it declares.
use Rattle.std.proofs.Common.{◌≡◌, refl, ap, ◌∙◌, inl, inr, ℕ, Bool, true, false, not, ◌&&◌, ◌||◌, List, [], ◌∷◌, ◌++◌, length, reverse, if◌then◌else◌}
use Rattle.std.specs.Prelude.{Some, None, filter, flat_map, is_some}
use Rattle.machine.specs.spark_base.declared.position.Pos.{Pos}
use Rattle.machine.specs.spark_base.Lists.{Has}
use Rattle.spark_base.proofs.Lists.{Has-append_left, Has-append_right}
use Rattle.machine.specs.typed_tree.Trees.{TypedTree, Name, Component, Designated, Element, Image, Parens, Unary, Binary, Short, IsNull, Aggregate, Alike, New, TypedCode, Declare, Assign, Output, Input, Release, If, Branch, Case, When, Loop, While, For, Block}
use Rattle.machine.specs.typed_tree.Trees as typed
use Rattle.machine.specs.typed_tree.Programs.{TypedSub}
use Rattle.machine.specs.flow_paths.Instructions.{Instruction, Evaluate, Finish}
use Rattle.machine.specs.flow_paths.Instructions as instruction
use Rattle.machine.specs.flow_paths.Objects.{Typing, object_at, has_scope_end}
use Rattle.machine.specs.flow_paths.Names.{has_call}
use Rattle.machine.specs.flow_paths.Points.{Place, PointName, row_at, NamedPoint, point, entry}
use Rattle.machine.specs.flow_paths.Prep.{Setting, held, with_held, prep}
use Rattle.machine.specs.flow_paths.Layout.{Around, within_loop, within_block, with_scope, declared, ending, ends, closing, uses, choices_of, laid, laid_branches, laid_branch, laid_whens, laid_when}
use Rattle.machine.specs.flow_paths.Laid.{around_body, scope_at_end, procedure_end, function_end, sub_points, elaboration_points, declared_within}
use Rattle.machine.specs.flow_paths.Scopes.{is_temporary, is_declaration, is_undeclaring, is_settled}
use Rattle.settled_types.proofs.TypedCases.{Laws, branch_none, branches_none, laid_none, on_code, when_none, whens_none}
use Rattle.settled_types.proofs.OrderLaws.ScopeLaws.Lists.{has_reverse}
use Rattle.settled_types.proofs.OrderLaws.ScopeLaws.Ordered.{declared_within_has}

filter_same : (f g : ℕ → Bool) (xs : List ℕ) → ((x : ℕ) → Has xs x → f x ≡ g x) → filter f xs ≡ filter g xs
filter_same f g [] same = refl
filter_same f g (x ∷ xs) same =
    ap (λ b. if b then x ∷ filter f xs else filter f xs) (same x (inl refl)) ∙ ap (λ ys. if g x then x ∷ ys else ys) (filter_same f g xs (λ y has. same y (inr has)))

-- Points before others, which begin with what follows.
pair_same : (p q : List PointName → List NamedPoint) (ps qs : List NamedPoint) (k : List PointName) → ((l : List PointName) → p l ≡ q l) → ps ≡ qs
    → p (entry ps k) ++ ps ≡ q (entry qs k) ++ qs
pair_same p q ps qs k first second = ap (λ zs. p (entry zs k) ++ zs) second ∙ ap (λ xs. xs ++ qs) (first (entry qs k))

if_same : (b : Bool) (ps qs rs vs : List NamedPoint) → ps ≡ rs → qs ≡ vs → (if b then ps else qs) ≡ (if b then rs else vs)
if_same true ps qs rs vs h g = h
if_same false ps qs rs vs h g = g

module _ (y s : Typing) (f : Place → ℕ) where
  abbrev pub after : Setting
  after = record { typing = y; temporary = f }

  abbrev pub before : Setting
  before = record { typing = s; temporary = f }

  two_held : (xs ys vs ws : List ℕ) → xs ≡ vs → ys ≡ ws → ys ++ xs ≡ ws ++ vs
  two_held xs ys vs ws h g = ap (λ zs. zs ++ xs) g ∙ ap (λ zs. ws ++ zs) h

  held_same : (e : TypedTree) (at : Place) → held after e at ≡ held before e at
  unfolding held
  held_same (typed.Call p sub actuals) at = refl
  held_same (Short op p a q b) at =
      ap (λ xs. if has_call b then f at ∷ [] else xs)
      (two_held (held after a (0 ∷ at)) (held after b (1 ∷ at)) (held before a (0 ∷ at)) (held before b (1 ∷ at)) (held_same a (0 ∷ at)) (held_same b (1 ∷ at)))
  held_same (Binary op a b) at =
      two_held (held after a (0 ∷ at)) (held after b (1 ∷ at)) (held before a (0 ∷ at)) (held before b (1 ∷ at)) (held_same a (0 ∷ at)) (held_same b (1 ∷ at))
  held_same (typed.More a b) at =
      two_held (held after a (0 ∷ at)) (held after b (1 ∷ at)) (held before a (0 ∷ at)) (held before b (1 ∷ at)) (held_same a (0 ∷ at)) (held_same b (1 ∷ at))
  held_same (Element a low high b) at =
      two_held (held after a (0 ∷ at)) (held after b (1 ∷ at)) (held before a (0 ∷ at)) (held before b (1 ∷ at)) (held_same a (0 ∷ at)) (held_same b (1 ∷ at))
  held_same (Name p x e t) at = held_same e (0 ∷ at)
  held_same (Component i e) at = held_same e (0 ∷ at)
  held_same (Designated e) at = held_same e (0 ∷ at)
  held_same (Image t e) at = held_same e (0 ∷ at)
  held_same (Parens e) at = held_same e (0 ∷ at)
  held_same (Unary op e) at = held_same e (0 ∷ at)
  held_same (IsNull equal e) at = held_same e (0 ∷ at)
  held_same (Aggregate t e) at = held_same e (0 ∷ at)
  held_same (Alike t e) at = held_same e (0 ∷ at)
  held_same (New t e) at = held_same e (0 ∷ at)
  held_same _ at = refl

  scope_same : (e : TypedTree) (at : Place) (scope : List ℕ) → with_held after e at scope ≡ with_held before e at scope
  scope_same e at scope = ap (λ xs. xs ++ scope) (held_same e at)

  prep_same : (e : TypedTree) (at : Place) (scope : List ℕ) (k : List PointName) → prep after e at scope k ≡ prep before e at scope k
  unfolding prep
  prep_same (typed.Call p sub actuals) at scope k =
      ap (λ ps. ps ++ point (row_at at 0) p (instruction.Call sub actuals (Some (f at))) (with_held after actuals (0 ∷ at) scope) k ∷ []) (prep_same actuals (0 ∷ at) scope (row_at at 0 ∷ []))
      ∙ ap (λ xs. prep before actuals (0 ∷ at) scope (row_at at 0 ∷ []) ++ point (row_at at 0) p (instruction.Call sub actuals (Some (f at))) xs k ∷ []) (scope_same actuals (0 ∷ at) scope)
  prep_same (Short op p a q b) at scope k =
      let right : List NamedPoint = prep after b (1 ∷ at) (f at ∷ scope) (row_at at 1 ∷ []) in
      let full : List NamedPoint = prep before b (1 ∷ at) (f at ∷ scope) (row_at at 1 ∷ []) in
      if_same (has_call b) _ _ _ _
      (ap (λ ps. ps ++ (point (row_at at 0) p (Evaluate (f at) a (Some op)) (with_held after a (0 ∷ at) scope) (entry right (row_at at 1 ∷ []) ++ k)
      ∷ (right ++ point (row_at at 1) q (Evaluate (f at) b None) (with_held after b (1 ∷ at) (f at ∷ scope)) k ∷ []))) (prep_same a (0 ∷ at) scope (row_at at 0 ∷ []))
      ∙ ap (λ xs. prep before a (0 ∷ at) scope (row_at at 0 ∷ []) ++ (point (row_at at 0) p (Evaluate (f at) a (Some op)) xs (entry right (row_at at 1 ∷ []) ++ k)
      ∷ (right ++ point (row_at at 1) q (Evaluate (f at) b None) (with_held after b (1 ∷ at) (f at ∷ scope)) k ∷ []))) (scope_same a (0 ∷ at) scope)
      ∙ ap (λ zs. prep before a (0 ∷ at) scope (row_at at 0 ∷ []) ++ (point (row_at at 0) p (Evaluate (f at) a (Some op)) (with_held before a (0 ∷ at) scope) (entry zs (row_at at 1 ∷ []) ++ k)
      ∷ (zs ++ point (row_at at 1) q (Evaluate (f at) b None) (with_held after b (1 ∷ at) (f at ∷ scope)) k ∷ []))) (prep_same b (1 ∷ at) (f at ∷ scope) (row_at at 1 ∷ []))
      ∙ ap (λ xs. prep before a (0 ∷ at) scope (row_at at 0 ∷ []) ++ (point (row_at at 0) p (Evaluate (f at) a (Some op)) (with_held before a (0 ∷ at) scope) (entry full (row_at at 1 ∷ []) ++ k)
      ∷ (full ++ point (row_at at 1) q (Evaluate (f at) b None) xs k ∷ []))) (scope_same b (1 ∷ at) (f at ∷ scope)))
      (pair_same (λ l. prep after a (0 ∷ at) scope l) (λ l. prep before a (0 ∷ at) scope l) _ _ k (prep_same a (0 ∷ at) scope)
      (ap (λ xs. prep after b (1 ∷ at) xs k) (scope_same a (0 ∷ at) scope) ∙ prep_same b (1 ∷ at) (with_held before a (0 ∷ at) scope) k))
  prep_same (Binary op a b) at scope k =
      pair_same (λ l. prep after a (0 ∷ at) scope l) (λ l. prep before a (0 ∷ at) scope l) _ _ k (prep_same a (0 ∷ at) scope)
      (ap (λ xs. prep after b (1 ∷ at) xs k) (scope_same a (0 ∷ at) scope) ∙ prep_same b (1 ∷ at) (with_held before a (0 ∷ at) scope) k)
  prep_same (typed.More a b) at scope k =
      pair_same (λ l. prep after a (0 ∷ at) scope l) (λ l. prep before a (0 ∷ at) scope l) _ _ k (prep_same a (0 ∷ at) scope)
      (ap (λ xs. prep after b (1 ∷ at) xs k) (scope_same a (0 ∷ at) scope) ∙ prep_same b (1 ∷ at) (with_held before a (0 ∷ at) scope) k)
  prep_same (Element a low high b) at scope k =
      pair_same (λ l. prep after a (0 ∷ at) scope l) (λ l. prep before a (0 ∷ at) scope l) _ _ k (prep_same a (0 ∷ at) scope)
      (ap (λ xs. prep after b (1 ∷ at) xs k) (scope_same a (0 ∷ at) scope) ∙ prep_same b (1 ∷ at) (with_held before a (0 ∷ at) scope) k)
  prep_same (Name p x e t) at scope k = prep_same e (0 ∷ at) scope k
  prep_same (Component i e) at scope k = prep_same e (0 ∷ at) scope k
  prep_same (Designated e) at scope k = prep_same e (0 ∷ at) scope k
  prep_same (Image t e) at scope k = prep_same e (0 ∷ at) scope k
  prep_same (Parens e) at scope k = prep_same e (0 ∷ at) scope k
  prep_same (Unary op e) at scope k = prep_same e (0 ∷ at) scope k
  prep_same (IsNull equal e) at scope k = prep_same e (0 ∷ at) scope k
  prep_same (Aggregate t e) at scope k = prep_same e (0 ∷ at) scope k
  prep_same (Alike t e) at scope k = prep_same e (0 ∷ at) scope k
  prep_same (New t e) at scope k = prep_same e (0 ∷ at) scope k
  prep_same _ at scope k = refl

  uses_same : (at : Place) (p : Pos) (e : TypedTree) (i : Instruction) (w : Around) (next : List PointName) → uses after at p e i w next ≡ uses before at p e i w next
  uses_same at p e i w next =
      ap (λ ps. ps ++ point (row_at at 0) p i (with_held after e (0 ∷ at) w.scope) next ∷ []) (prep_same e (0 ∷ at) w.scope (row_at at 0 ∷ []))
      ∙ ap (λ xs. prep before e (0 ∷ at) w.scope (row_at at 0 ∷ []) ++ point (row_at at 0) p i xs next ∷ []) (scope_same e (0 ∷ at) w.scope)

  -- Two expressions at some places, and a point that uses both.
  two_same : (a b : TypedTree) (v x : Place) (scope : List ℕ) (l : List PointName) (q : List ℕ → NamedPoint)
      → (prep after a v scope (entry (prep after b x (with_held after a v scope) l) l) ++ prep after b x (with_held after a v scope) l) ++ q (with_held after b x (with_held after a v scope)) ∷ []
      ≡ (prep before a v scope (entry (prep before b x (with_held before a v scope) l) l) ++ prep before b x (with_held before a v scope) l) ++ q (with_held before b x (with_held before a v scope)) ∷ []
  two_same a b v x scope l q =
      ap (λ ps. ps ++ q (with_held after b x (with_held after a v scope)) ∷ [])
      (pair_same (λ m. prep after a v scope m) (λ m. prep before a v scope m) _ _ l (prep_same a v scope)
      (ap (λ xs. prep after b x xs l) (scope_same a v scope) ∙ prep_same b x (with_held before a v scope) l))
      ∙ ap (λ xs. (prep before a v scope (entry (prep before b x (with_held before a v scope) l) l) ++ prep before b x (with_held before a v scope) l) ++ q xs ∷ []) (ap (λ xs. with_held after b x xs) (scope_same a v scope) ∙ scope_same b x (with_held before a v scope))

  more_same : (ps qs rs vs : List NamedPoint) → ps ≡ rs → qs ≡ vs → ps ++ qs ≡ rs ++ vs
  more_same ps qs rs vs h g = ap (λ xs. xs ++ qs) h ∙ ap (λ xs. rs ++ xs) g

  uses_more : (at : Place) (p : Pos) (e : TypedTree) (i : Instruction) (w : Around) (next after_that : List PointName) (qs vs : List NamedPoint) → next ≡ after_that → qs ≡ vs
      → uses after at p e i w next ++ qs ≡ uses before at p e i w after_that ++ vs
  uses_more at p e i w next after_that qs vs h g =
      more_same _ qs _ vs (ap (λ l. uses after at p e i w l) h ∙ uses_same at p e i w after_that) g

  -- ---- statements

  abbrev pub AreAlike : List ℕ → Type 0
  AreAlike xs = (x : ℕ) → Has xs x → (has_scope_end y x ≡ has_scope_end s x) × ((object_at y x).kind ≡ (object_at s x).kind)

  alike_left : (xs ys : List ℕ) → AreAlike (xs ++ ys) → AreAlike xs
  alike_left xs ys h x has = h x (Has-append_left xs ys x has)

  alike_right : (xs ys : List ℕ) → AreAlike (xs ++ ys) → AreAlike ys
  alike_right xs ys h x has = h x (Has-append_right xs ys x has)

  ending_same : (stmts : TypedCode) → AreAlike (declared_within stmts) → ending after stmts ≡ ending before stmts
  ending_same stmts alike =
      filter_same (has_scope_end y) (has_scope_end s) (reverse (declared stmts)) (λ x has. (alike x (declared_within_has stmts x (has_reverse (declared stmts) x has))).0)

  laid_same_cases : Laws (λ c. (at : Place) → (w : Around) → (k : List PointName) → AreAlike (declared_within c) → laid after c at w k ≡ laid before c at w k)
      (λ c. (at : Place) → (w : Around) → (k : List PointName) → (otherwise : List PointName) → AreAlike (declared_within c) → laid_branches after c at w k otherwise ≡ laid_branches before c at w k otherwise)
      (λ c. (at : Place) → (w : Around) → (k : List PointName) → (otherwise : List PointName) → AreAlike (declared_within c) → laid_branch after c at w k otherwise ≡ laid_branch before c at w k otherwise)
      (λ c. (at : Place) → (w : Around) → (k : List PointName) → AreAlike (declared_within c) → laid_whens after c at w k ≡ laid_whens before c at w k)
      (λ c. (at : Place) → (w : Around) → (k : List PointName) → AreAlike (declared_within c) → laid_when after c at w k ≡ laid_when before c at w k)
  unfolding laid laid_branches laid_branch laid_whens laid_when declared_within
  laid_same_cases = record {
    list = λ a rest by_a by_rest at w k alike.
        pair_same (λ l. laid after a (0 ∷ at) w l) (λ l. laid before a (0 ∷ at) w l) _ _ k
        (λ l. by_a (0 ∷ at) w l (alike_left (declared_within a) (declared_within rest) alike))
        (by_rest (1 ∷ at) (with_scope (declared a) w) k (alike_right (declared_within a) (declared_within rest) alike));
    declare = λ p x v at w k alike.
        uses_same at p v (instruction.Declare x v) w k;
    assign = λ p target e at w k alike.
        two_same e target (1 ∷ at) (0 ∷ at) w.scope (row_at at 0 ∷ []) (λ xs. point (row_at at 0) p (instruction.Assign target e) xs k);
    skip = λ p at w k alike.
        refl;
    call = λ p sub actuals at w k alike.
        uses_same at p actuals (instruction.Call sub actuals None) w k;
    output = λ p text line at w k alike.
        uses_same at p text (instruction.Output text line) w k;
    input = λ p target at w k alike.
        uses_same at p target (instruction.Input target) w k;
    release = λ p m at w k alike.
        uses_same at p m (instruction.Release m) w k;
    choice = λ branches otherwise by_branches by_otherwise at w k alike.
        pair_same (λ l. laid_branches after branches (0 ∷ at) w k l) (λ l. laid_branches before branches (0 ∷ at) w k l) _ _ k
        (λ l. by_branches (0 ∷ at) w k l (alike_left (declared_within branches) (declared_within otherwise) alike))
        (by_otherwise (1 ∷ at) w k (alike_right (declared_within branches) (declared_within otherwise) alike));
    cases = λ p e whens by_whens at w k alike.
        uses_more at p e (instruction.Choose e (choices_of whens)) w _ _ _ _
        (ap (λ (pss : List (List NamedPoint)). flat_map (λ ps. entry ps k) pss) (by_whens (1 ∷ at) w k alike)) (ap (λ (pss : List (List NamedPoint)). flat_map (λ ps. ps) pss) (by_whens (1 ∷ at) w k alike));
    loop = λ stmts by_stmts at w k alike.
        ap (λ ps. laid after stmts (0 ∷ at) (within_loop k w) (entry ps k)) (by_stmts (0 ∷ at) (within_loop k w) k alike)
        ∙ by_stmts (0 ∷ at) (within_loop k w) (entry (laid before stmts (0 ∷ at) (within_loop k w) k) k) alike;
    while = λ p e stmts by_stmts at w k alike.
        let turn : List PointName = entry (prep after e (0 ∷ at) w.scope (row_at at 0 ∷ [])) (row_at at 0 ∷ []) in
        let turned : List PointName = entry (prep before e (0 ∷ at) w.scope (row_at at 0 ∷ [])) (row_at at 0 ∷ []) in
        let same : turn ≡ turned = ap (λ ps. entry ps (row_at at 0 ∷ [])) (prep_same e (0 ∷ at) w.scope (row_at at 0 ∷ [])) in
        let inner = ap (λ l. laid after stmts (1 ∷ at) (within_loop k w) l) same ∙ by_stmts (1 ∷ at) (within_loop k w) turned alike in
        uses_more at p e (instruction.Test e) w _ _ _ _
        (ap (λ ps. entry ps turn ++ k) inner ∙ ap (λ l. entry (laid before stmts (1 ∷ at) (within_loop k w) turned) l ++ k) same) inner;
    for = λ p x reversed low high stmts by_stmts at w k alike.
        let next : List PointName = row_at at 1 ∷ [] in
        let inner = by_stmts (2 ∷ at) (with_scope (x ∷ []) (within_loop k w)) next (λ z has. alike z (inr has)) in
        more_same _ _ _ _ (two_same low high (0 ∷ at) (1 ∷ at) w.scope (row_at at 0 ∷ []) (λ xs. point (row_at at 0) p (instruction.Start x reversed low high) xs next))
        (ap (λ ps. point (row_at at 1) p (instruction.Next x reversed low high) (x ∷ w.scope) (entry ps next ++ k) ∷ ps) inner);
    exit = λ p e at w k alike.
        ap (λ ps. ps ++ ends at 1 p w.in_loop w.scope w.leave) (uses_same at p e (instruction.LeaveLoop e) w _);
    return = λ p v at w k alike.
        ap (λ ps. ps ++ closing at 1 p w) (uses_same at p v (instruction.Hold v) w _);
    block = λ n stmts end by_stmts at w k alike.
        let same = ending_same stmts alike in
        ap (λ xs. laid after stmts (0 ∷ at) (within_block xs w) (entry (ends at 0 end xs (reverse (declared stmts) ++ w.scope) k) k) ++ ends at 0 end xs (reverse (declared stmts) ++ w.scope) k) same
        ∙ ap (λ ps. ps ++ ends at 0 end (ending before stmts) (reverse (declared stmts) ++ w.scope) k) (by_stmts (0 ∷ at) (within_block (ending before stmts) w) _ alike);
    others = λ c other at w k alike. rw (laid_none after c at w k other) rw (laid_none before c at w k other) (refl);
    branches = λ a rest by_a by_rest at w k otherwise alike.
        pair_same (λ l. laid_branch after a (0 ∷ at) w k l) (λ l. laid_branch before a (0 ∷ at) w k l) _ _ otherwise
        (λ l. by_a (0 ∷ at) w k l (alike_left (declared_within a) (declared_within rest) alike))
        (by_rest (1 ∷ at) w k otherwise (alike_right (declared_within a) (declared_within rest) alike));
    no_branches = λ c other at w k otherwise alike. rw (branches_none after c at w k otherwise other) rw (branches_none before c at w k otherwise other) (refl);
    branch = λ p e stmts by_stmts at w k otherwise alike.
        let inner = by_stmts (1 ∷ at) w k alike in
        uses_more at p e (instruction.Test e) w _ _ _ _ (ap (λ ps. entry ps k ++ otherwise) inner) inner;
    no_branch = λ c other at w k otherwise alike. rw (branch_none after c at w k otherwise other) rw (branch_none before c at w k otherwise other) (refl);
    alternatives = λ a rest by_a by_rest at w k alike.
        ap (λ ps. ps ∷ laid_whens after rest (1 ∷ at) w k) (by_a (0 ∷ at) w k (alike_left (declared_within a) (declared_within rest) alike))
        ∙ ap (λ pss. laid_when before a (0 ∷ at) w k ∷ pss) (by_rest (1 ∷ at) w k (alike_right (declared_within a) (declared_within rest) alike));
    no_alternatives = λ c other at w k alike. rw (whens_none after c at w k other) rw (whens_none before c at w k other) (refl);
    alternative = λ choices stmts by_stmts at w k alike.
        by_stmts (1 ∷ at) w k alike;
    no_alternative = λ c other at w k alike. rw (when_none after c at w k other) rw (when_none before c at w k other) (refl);
  }

  laid_same : (c : TypedCode) (at : Place) (w : Around) (k : List PointName) → AreAlike (declared_within c) → laid after c at w k ≡ laid before c at w k
  laid_same = on_code laid_same_cases

  -- ---- subprograms

  module _ (sub : TypedSub) (alike : AreAlike (declared_within sub.body)) where
    around_same : around_body after sub ≡ around_body before sub
    around_same =
        ap (λ xs. record { leave = []; in_loop = []; in_all = xs; scope = reverse sub.formals; formals = reverse sub.formals }) (ending_same sub.body alike)

    body_same : (ps qs : List NamedPoint) → ps ≡ qs
        → laid after sub.body (0 ∷ []) (around_body after sub) (entry ps []) ++ ps ≡ laid before sub.body (0 ∷ []) (around_body before sub) (entry qs []) ++ qs
    body_same ps qs same =
        ap (λ w. laid after sub.body (0 ∷ []) w (entry ps []) ++ ps) around_same
        ∙ pair_same (λ l. laid after sub.body (0 ∷ []) (around_body before sub) l) (λ l. laid before sub.body (0 ∷ []) (around_body before sub) l) ps qs []
        (λ l. laid_same sub.body (0 ∷ []) (around_body before sub) l alike) same

    end_same : (b : Bool) → (if b then function_end sub else procedure_end after sub) ≡ (if b then function_end sub else procedure_end before sub)
    end_same true = refl
    end_same false =
        ap (λ xs. ends [] 0 sub.end xs (scope_at_end sub) (row_at [] (length xs) ∷ []) ++ point (row_at [] (length xs)) sub.end Finish (reverse sub.formals) [] ∷ []) (ending_same sub.body alike)

    pub sub_same : sub_points after sub ≡ sub_points before sub
    sub_same = body_same _ _ (end_same (is_some sub.result))

    pub elaboration_same : elaboration_points after sub ≡ elaboration_points before sub
    elaboration_same = body_same [] [] refl

  -- ---- settled code

  abbrev alike_kind : (x : ℕ) → ((object_at y x).kind ≡ (object_at s x).kind) → is_temporary (object_at y x).kind ≡ is_temporary (object_at s x).kind
  alike_kind x same = ap is_temporary same

  and_same : (a b c d : Bool) → a ≡ c → b ≡ d → (a && b) ≡ (c && d)
  and_same a b c d h g = ap (λ z. z && b) h ∙ ap (λ z. c && z) g

  pub settled_same : (c : TypedCode) → AreAlike (declared_within c) → is_settled y c ≡ is_settled s c
  unfolding is_settled declared_within
  settled_same (Declare p x v) alike = ap not (ap is_temporary (alike x (inl refl)).1)
  settled_same (typed.More a rest) alike =
      and_same _ _ _ _ (settled_same a (alike_left (declared_within a) (declared_within rest) alike))
      (ap (λ z. z && (is_declaration a || is_undeclaring rest)) (settled_same rest (alike_right (declared_within a) (declared_within rest) alike)))
  settled_same (If branches otherwise) alike =
      and_same _ _ _ _ (settled_same branches (alike_left (declared_within branches) (declared_within otherwise) alike))
      (ap (λ z. z && is_undeclaring otherwise) (settled_same otherwise (alike_right (declared_within branches) (declared_within otherwise) alike)))
  settled_same (Branch p e stmts) alike = ap (λ z. z && is_undeclaring stmts) (settled_same stmts alike)
  settled_same (Case p e whens) alike = settled_same whens alike
  settled_same (When choices stmts) alike = ap (λ z. z && is_undeclaring stmts) (settled_same stmts alike)
  settled_same (Loop stmts) alike = ap (λ z. z && is_undeclaring stmts) (settled_same stmts alike)
  settled_same (While p e stmts) alike = ap (λ z. z && is_undeclaring stmts) (settled_same stmts alike)
  settled_same (For p x reversed low high stmts) alike =
      and_same _ _ _ _
      (and_same _ _ _ _ (ap not (alike x (inl refl)).0) (ap not (ap is_temporary (alike x (inl refl)).1)))
      (ap (λ z. z && is_undeclaring stmts) (settled_same stmts (λ z has. alike z (inr has))))
  settled_same (Block n stmts end) alike = settled_same stmts alike
  settled_same c alike = refl
