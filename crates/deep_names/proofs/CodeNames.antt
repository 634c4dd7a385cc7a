-- What is found in code is what its points have, whatever stands around it.
--
-- The ends of scopes and of calls have no name with too many selectors.
use Rattle.std.proofs.Common.{◌≡◌, ℕ, ◌+◌, Bool, List, [], ◌∷◌, ◌++◌, map, length, refl, sym, ap, ◌∙◌, Option, None}
use Rattle.spark_base.specs.declared.position.Pos.{Pos}
use Rattle.place_names.specs.Names.{object}
use Rattle.type_definitions.specs.Types.{parts}
use Rattle.typed_tree.specs.Trees.{TypedTree, TypedCode, Declare, Assign, Skip, Output, Input, Release, If, Branch, Case, When, Loop, While, For, Exit, Return, Block, More}
use Rattle.typed_tree.specs.Trees as typed
use Rattle.flow_paths.specs.Instructions.{Instruction}
use Rattle.flow_paths.specs.Instructions as instruction
use Rattle.flow_paths.specs.Objects.{Typing, object_at}
use Rattle.flow_paths.specs.Acts.{spot, acts_in, declared_acts, returned_acts}
use Rattle.flow_paths.specs.Points.{FlowPoint}
use Rattle.flow_paths.specs.Layout.{choices_of}
use Rattle.numbered_points.specs.Extents.{prep_size, filled_in, Ways, size, ended_in, code_extent, branches_extent, branch_extent, when_extent}
use Rattle.numbered_points.specs.Prepared.{Maker, make, next_of, prepared}
use Rattle.numbered_points.specs.Statements.{around_loop, around_block, ended, closed, used, used_both, unless_empty, whens_begin, laid_numbers, branches_numbers, branch_numbers, whens_numbers, when_numbers}
use Rattle.deep_names.specs.Found.{earlier_of, found_if}
use Rattle.deep_names.specs.Shallow.{IsShallow}
use Rattle.deep_names.specs.Trees.{depths_in}
use Rattle.deep_names.specs.Statements.{code_deep, branches_deep, branch_deep, whens_deep, when_deep}
use Rattle.deep_names.proofs.Earlier.{earlier_none, earlier_group, earlier_four}
use Rattle.deep_names.proofs.Acts.{acts_deep, acts_append, leaks_deep, points_deep, points_append, point_found, behind_found, spots_found, instruction_deep}
use Rattle.deep_names.proofs.TreeNames.{tree_facts}
use Rattle.deep_names.proofs.PrepNames.{prepared_found, call_found, value_found}
use Rattle.deep_names.proofs.Uses.{declared_found, returned_found, assigned_found, released_found, input_found}

-- ---- ends

no_parts : (s : Typing) (p : Pos) (x : ℕ) → IsShallow s → leaks_deep (map (spot p (object x) 0) (parts s.table (object_at s x).of)) ≡ None
no_parts s p x shallow = spots_found p (object x) 0 (parts s.table (object_at s x).of) ∙ ap (λ b. found_if b p) (shallow x)

pub ended_found : (g : Maker) (p : Pos) (xs : List ℕ) (n : ℕ) (k : List ℕ) → IsShallow g.frame.typing → points_deep (ended g p xs n k) ≡ None
ended_found g p [] n k shallow = refl
ended_found g p (x ∷ xs) n k shallow =
    points_append (make g p (instruction.EndScope x) (next_of (length xs) (n + 1) k) ∷ []) (ended g p xs (n + 1) k)
    ∙ (λ j. earlier_of (point_found g p (instruction.EndScope x) (next_of (length xs) (n + 1) k) j) (ended_found g p xs (n + 1) k shallow j))
    ∙ earlier_none (instruction_deep g.frame p (instruction.EndScope x))
    ∙ no_parts g.frame.typing p x shallow

pub closed_found : (g : Maker) (p : Pos) (xs : List ℕ) (n : ℕ) → IsShallow g.frame.typing → points_deep (closed g p xs n) ≡ None
closed_found g p xs n shallow =
    behind_found (ended g p xs n ((n + length xs) ∷ [])) g p instruction.Finish []
    ∙ ap (λ x. earlier_of x None) (ended_found g p xs n ((n + length xs) ∷ []) shallow)

-- ---- points that use an expression

used_found : (g : Maker) (p : Pos) (e : TypedTree) (i : Instruction) (n t : ℕ) (next : List ℕ)
    → points_deep (used g p e i n t next) ≡ earlier_of (depths_in g.frame.typing e).before (instruction_deep g.frame p i)
used_found g p e i n t next =
    behind_found (prepared g e n t ((n + prep_size e) ∷ [])) g p i next
    ∙ ap (λ x. earlier_of x (instruction_deep g.frame p i)) (prepared_found g e n t ((n + prep_size e) ∷ []))

-- One that evaluates it, and one of which the acts have no leak checks.
valued : (g : Maker) (p : Pos) (e : TypedTree) (i : Instruction) (n t : ℕ) (next : List ℕ)
    → instruction_deep g.frame p i ≡ earlier_of (acts_deep i (acts_in g.frame.typing e)) None
    → points_deep (used g p e i n t next) ≡ (depths_in g.frame.typing e).all
valued g p e i n t next is =
    value_found g p e i (prepared g e n t ((n + prep_size e) ∷ [])) next (prepared_found g e n t ((n + prep_size e) ∷ []))
    (is ∙ earlier_none (acts_deep i (acts_in g.frame.typing e)))

unchecked : (g : Maker) (p : Pos) (e : TypedTree) (i : Instruction) (n t : ℕ) (next : List ℕ) (acts found : Option Pos)
    → instruction_deep g.frame p i ≡ earlier_of acts None → earlier_of (depths_in g.frame.typing e).before acts ≡ found
    → points_deep (used g p e i n t next) ≡ found
unchecked g p e i n t next acts found is all =
    used_found g p e i n t next ∙ ap (earlier_of (depths_in g.frame.typing e).before) (is ∙ earlier_none acts) ∙ all

used_both_found : (g : Maker) (p : Pos) (a b : TypedTree) (i : Instruction) (n t : ℕ) (next : List ℕ)
    → points_deep (used_both g p a b i n t next)
    ≡ earlier_of (depths_in g.frame.typing a).before (earlier_of (depths_in g.frame.typing b).before (instruction_deep g.frame p i))
used_both_found g p a b i n t next =
    let xs : List FlowPoint = prepared g a n t ((n + prep_size a) ∷ []) in
    let ys : List FlowPoint = prepared g b (n + prep_size a) (t + filled_in a) ((n + prep_size a + prep_size b) ∷ []) in
    behind_found (xs ++ ys) g p i next
    ∙ ap (λ x. earlier_of x (instruction_deep g.frame p i)) (points_append xs ys)
    ∙ (λ j. earlier_of (earlier_of (prepared_found g a n t ((n + prep_size a) ∷ []) j)
    (prepared_found g b (n + prep_size a) (t + filled_in a) ((n + prep_size a + prep_size b) ∷ []) j)) (instruction_deep g.frame p i))
    ∙ earlier_group (depths_in g.frame.typing a).before (depths_in g.frame.typing b).before (instruction_deep g.frame p i)

bounds_found : (g : Maker) (p : Pos) (x : ℕ) (reversed : Bool) (low high : TypedTree) (n t : ℕ) (next : List ℕ)
    → points_deep (used_both g p low high (instruction.Start x reversed low high) n t next)
    ≡ earlier_of (depths_in g.frame.typing low).all (depths_in g.frame.typing high).all
bounds_found g p x reversed low high n t next =
    let i : Instruction = instruction.Start x reversed low high in
    let s : Typing = g.frame.typing in
    let a : Option Pos = acts_deep i (acts_in s low) in
    let b : Option Pos = acts_deep i (acts_in s high) in
    used_both_found g p low high i n t next
    ∙ ap (λ y. earlier_of (depths_in s low).before (earlier_of (depths_in s high).before y))
    (earlier_none (acts_deep i (acts_in s low ++ acts_in s high)) ∙ acts_append i (acts_in s low) (acts_in s high))
    ∙ sym (earlier_group (depths_in s low).before (depths_in s high).before (earlier_of a b))
    ∙ earlier_four (depths_in s low).before (depths_in s high).before a b
    ∙ (λ j. earlier_of ((tree_facts s low).all i j) ((tree_facts s high).all i j))

-- ---- one list of points after the other

two : (xs ys : List FlowPoint) (a b : Option Pos) → points_deep xs ≡ a → points_deep ys ≡ b → points_deep (xs ++ ys) ≡ earlier_of a b
two xs ys a b is by = points_append xs ys ∙ (λ j. earlier_of (is j) (by j))

first_alone : (xs ys : List FlowPoint) (a : Option Pos) → points_deep xs ≡ a → points_deep ys ≡ None → points_deep (xs ++ ys) ≡ a
first_alone xs ys a is none = two xs ys a None is none ∙ earlier_none a

-- ---- statements

mutual
  unfolding laid_numbers branches_numbers branch_numbers whens_numbers when_numbers code_deep branches_deep branch_deep whens_deep when_deep

  pub laid_found : (g : Maker) (c : TypedCode) (n t : ℕ) (w : Ways) (k : List ℕ) → IsShallow g.frame.typing
      → points_deep (laid_numbers g c n t w k) ≡ code_deep g.frame.typing g.frame.result c
  laid_found g (More a rest) n t w k shallow =
      let behind : ℕ = n + size (code_extent g.frame.typing a) w in
      let first : List ℕ = next_of (size (code_extent g.frame.typing rest) w) behind k in
      two (laid_numbers g a n t w first) (laid_numbers g rest behind (t + (code_extent g.frame.typing a).filled) w k) _ _
      (laid_found g a n t w first shallow) (laid_found g rest behind (t + (code_extent g.frame.typing a).filled) w k shallow)
  laid_found g (Declare p x v) n t w k shallow =
      unchecked g p v (instruction.Declare x v) n t k (acts_deep (instruction.Declare x v) (declared_acts g.frame.typing x v)) _ refl
      (declared_found g.frame.typing (instruction.Declare x v) x v)
  laid_found g (Assign p target e) n t w k shallow =
      used_both_found g p e target (instruction.Assign target e) n t k ∙ assigned_found g.frame p target e
  laid_found g (Skip p) n t w k shallow = point_found g p instruction.Skip k
  laid_found g (typed.Call p sub actuals) n t w k shallow =
      call_found g p sub actuals None (prepared g actuals n t ((n + prep_size actuals) ∷ [])) k (prepared_found g actuals n t ((n + prep_size actuals) ∷ []))
  laid_found g (Output p text line) n t w k shallow = valued g p text (instruction.Output text line) n t k refl
  laid_found g (Input p target) n t w k shallow =
      used_found g p target (instruction.Input target) n t k ∙ input_found g.frame p target
  laid_found g (Release p m) n t w k shallow =
      used_found g p m (instruction.Release m) n t k ∙ released_found g.frame p m
  laid_found g (If branches otherwise) n t w k shallow =
      let behind : ℕ = n + size (branches_extent g.frame.typing branches) w in
      let last : List ℕ = next_of (size (code_extent g.frame.typing otherwise) w) behind k in
      two (branches_numbers g branches n t w k last) (laid_numbers g otherwise behind (t + (branches_extent g.frame.typing branches).filled) w k) _ _
      (branches_found g branches n t w k last shallow) (laid_found g otherwise behind (t + (branches_extent g.frame.typing branches).filled) w k shallow)
  laid_found g (Case p e whens) n t w k shallow =
      let behind : ℕ = n + prep_size e + 1 in
      let next : List ℕ = whens_begin g.frame.typing whens behind w k in
      two (used g p e (instruction.Choose e (choices_of whens)) n t next) (whens_numbers g whens behind (t + filled_in e) w k) _ _
      (valued g p e (instruction.Choose e (choices_of whens)) n t next refl) (whens_found g whens behind (t + filled_in e) w k shallow)
  laid_found g (Loop stmts) n t w k shallow =
      laid_found g stmts n t (around_loop k w) (next_of (size (code_extent g.frame.typing stmts) (around_loop k w)) n k) shallow
  laid_found g (While p e stmts) n t w k shallow =
      let inner : ℕ = n + prep_size e + 1 in
      let next : List ℕ = next_of (size (code_extent g.frame.typing stmts) (around_loop k w)) inner (n ∷ []) ++ k in
      two (used g p e (instruction.Test e) n t next) (laid_numbers g stmts inner (t + filled_in e) (around_loop k w) (n ∷ [])) _ _
      (valued g p e (instruction.Test e) n t next refl) (laid_found g stmts inner (t + filled_in e) (around_loop k w) (n ∷ []) shallow)
  laid_found g (For p x reversed low high stmts) n t w k shallow =
      let next : ℕ = n + prep_size low + prep_size high + 1 in
      let turn : List ℕ = next_of (size (code_extent g.frame.typing stmts) (around_loop k w)) (next + 1) (next ∷ []) ++ k in
      let inner : List FlowPoint = laid_numbers g stmts (next + 1) (t + filled_in low + filled_in high) (around_loop k w) (next ∷ []) in
      two (used_both g p low high (instruction.Start x reversed low high) n t (next ∷ []))
      (make g p (instruction.Next x reversed low high) turn ∷ inner) _ _
      (bounds_found g p x reversed low high n t (next ∷ []))
      (two (make g p (instruction.Next x reversed low high) turn ∷ []) inner None _ (point_found g p (instruction.Next x reversed low high) turn)
      (laid_found g stmts (next + 1) (t + filled_in low + filled_in high) (around_loop k w) (next ∷ []) shallow))
  laid_found g (Exit p e) n t w k shallow =
      let out : ℕ = n + prep_size e + 1 in
      let next : List ℕ = next_of (length w.in_loop) out w.leave ++ unless_empty e k in
      first_alone (used g p e (instruction.LeaveLoop e) n t next) (ended g p w.in_loop out w.leave) _
      (valued g p e (instruction.LeaveLoop e) n t next refl) (ended_found g p w.in_loop out w.leave shallow)
  laid_found g (Return p v) n t w k shallow =
      let out : ℕ = n + prep_size v + 1 in
      first_alone (used g p v (instruction.Hold v) n t (out ∷ [])) (closed g p w.in_all out) _
      (unchecked g p v (instruction.Hold v) n t (out ∷ []) (acts_deep (instruction.Hold v) (returned_acts g.frame.typing g.frame.result v)) _ refl
      (returned_found g.frame.typing (instruction.Hold v) g.frame.result v))
      (closed_found g p w.in_all out shallow)
  laid_found g (Block b stmts end) n t w k shallow =
      let xs : List ℕ = ended_in g.frame.typing stmts in
      let out : ℕ = n + size (code_extent g.frame.typing stmts) (around_block xs w) in
      first_alone (laid_numbers g stmts n t (around_block xs w) (next_of (length xs) out k)) (ended g end xs out k) _
      (laid_found g stmts n t (around_block xs w) (next_of (length xs) out k) shallow) (ended_found g end xs out k shallow)
  laid_found g _ n t w k shallow = refl

  branches_found : (g : Maker) (c : TypedCode) (n t : ℕ) (w : Ways) (k otherwise : List ℕ) → IsShallow g.frame.typing
      → points_deep (branches_numbers g c n t w k otherwise) ≡ branches_deep g.frame.typing g.frame.result c
  branches_found g (More a rest) n t w k otherwise shallow =
      let behind : ℕ = n + size (branch_extent g.frame.typing a) w in
      let next : List ℕ = next_of (size (branches_extent g.frame.typing rest) w) behind otherwise in
      two (branch_numbers g a n t w k next) (branches_numbers g rest behind (t + (branch_extent g.frame.typing a).filled) w k otherwise) _ _
      (branch_found g a n t w k next shallow) (branches_found g rest behind (t + (branch_extent g.frame.typing a).filled) w k otherwise shallow)
  branches_found g _ n t w k otherwise shallow = refl

  branch_found : (g : Maker) (c : TypedCode) (n t : ℕ) (w : Ways) (k otherwise : List ℕ) → IsShallow g.frame.typing
      → points_deep (branch_numbers g c n t w k otherwise) ≡ branch_deep g.frame.typing g.frame.result c
  branch_found g (Branch p e stmts) n t w k otherwise shallow =
      let inner : ℕ = n + prep_size e + 1 in
      let next : List ℕ = next_of (size (code_extent g.frame.typing stmts) w) inner k ++ otherwise in
      two (used g p e (instruction.Test e) n t next) (laid_numbers g stmts inner (t + filled_in e) w k) _ _
      (valued g p e (instruction.Test e) n t next refl) (laid_found g stmts inner (t + filled_in e) w k shallow)
  branch_found g _ n t w k otherwise shallow = refl

  whens_found : (g : Maker) (c : TypedCode) (n t : ℕ) (w : Ways) (k : List ℕ) → IsShallow g.frame.typing
      → points_deep (whens_numbers g c n t w k) ≡ whens_deep g.frame.typing g.frame.result c
  whens_found g (More a rest) n t w k shallow =
      two (when_numbers g a n t w k) (whens_numbers g rest (n + size (when_extent g.frame.typing a) w) (t + (when_extent g.frame.typing a).filled) w k) _ _
      (when_found g a n t w k shallow) (whens_found g rest (n + size (when_extent g.frame.typing a) w) (t + (when_extent g.frame.typing a).filled) w k shallow)
  whens_found g _ n t w k shallow = refl

  when_found : (g : Maker) (c : TypedCode) (n t : ℕ) (w : Ways) (k : List ℕ) → IsShallow g.frame.typing
      → points_deep (when_numbers g c n t w k) ≡ when_deep g.frame.typing g.frame.result c
  when_found g (When choices stmts) n t w k shallow = laid_found g stmts n t w k shallow
  when_found g _ n t w k shallow = refl
