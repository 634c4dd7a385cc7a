-- What the points of a subprogram declare objects with: an object that has a number of its own is declared
-- with one value.
use Rattle.std.proofs.Common.{◌≡◌, refl, sym, subst, ◌∙◌, ◌⊎◌, inl, inr, ℕ, suc, Bool, true, false, List, [], ◌∷◌, ◌++◌, None, if◌then◌else◌}
use Rattle.std.specs.Prelude.{flat_map, is_some}
use Rattle.std.specs.List.{AllByRecursion}
use Rattle.machine.specs.spark_base.declared.position.Pos.{Pos}
use Rattle.machine.specs.spark_base.Lists.{Has}
use Rattle.spark_base.proofs.Lists.{Has-append_left, Has-append_right}
use Rattle.machine.specs.typed_tree.Trees.{TypedTree, TypedCode, Declare, Output, Input, Release, If, Branch, Case, When, Loop, While, For, Block}
use Rattle.machine.specs.typed_tree.Trees as typed
use Rattle.machine.specs.typed_tree.Programs.{TypedSub}
use Rattle.machine.specs.flow_paths.Instructions.{Instruction}
use Rattle.machine.specs.flow_paths.Instructions as instruction
use Rattle.machine.specs.flow_paths.Names.{has_call}
use Rattle.machine.specs.flow_paths.Points.{Place, PointName, row_at, NamedPoint}
use Rattle.machine.specs.flow_paths.Prep.{Setting, with_held, prep}
use Rattle.machine.specs.flow_paths.Layout.{Around, within_loop, within_block, with_scope, declared, ending, ends, uses, uses_both, laid, laid_branches, laid_branch, laid_whens, laid_when}
use Rattle.machine.specs.flow_paths.Laid.{declared_within, around_body, scope_at_end, function_end, procedure_end, sub_points}
use Rattle.settled_types.proofs.TypedCases.{Laws, branch_none, branches_none, laid_none, on_code, on_tree, plain_prep, when_none, whens_none}
use Rattle.settled_types.specs.OrderLaws.ScopeLaws.Code.{Once}
use Rattle.settled_types.proofs.OrderLaws.ScopeLaws.Lists.{all_both, all_one, all_if, all_has, once_left, once_right, once_apart}

-- ---- the declarations of a text

-- An object is declared with a value.
unfoldable pub IsDeclared : ℕ → TypedTree → TypedCode → Type 0
IsDeclared x v (Declare p y w) = (y ≡ x) × (w ≡ v)
IsDeclared x v (If branches otherwise) = IsDeclared x v branches ⊎ IsDeclared x v otherwise
IsDeclared x v (Branch p e stmts) = IsDeclared x v stmts
IsDeclared x v (Case p e whens) = IsDeclared x v whens
IsDeclared x v (When choices stmts) = IsDeclared x v stmts
IsDeclared x v (Loop stmts) = IsDeclared x v stmts
IsDeclared x v (While p e stmts) = IsDeclared x v stmts
IsDeclared x v (For p y reversed low high stmts) = IsDeclared x v stmts
IsDeclared x v (Block n stmts end) = IsDeclared x v stmts
IsDeclared x v (typed.More a rest) = IsDeclared x v a ⊎ IsDeclared x v rest
IsDeclared x v _ = ⊥

pub declared_there : (x : ℕ) (v : TypedTree) (c : TypedCode) → IsDeclared x v c → Has (declared_within c) x
unfolding IsDeclared declared_within
declared_there x v (Declare p y w) is = inl is.0
declared_there x v (If branches otherwise) (inl is) = Has-append_left (declared_within branches) (declared_within otherwise) x (declared_there x v branches is)
declared_there x v (If branches otherwise) (inr is) = Has-append_right (declared_within branches) (declared_within otherwise) x (declared_there x v otherwise is)
declared_there x v (Branch p e stmts) is = declared_there x v stmts is
declared_there x v (Case p e whens) is = declared_there x v whens is
declared_there x v (When choices stmts) is = declared_there x v stmts is
declared_there x v (Loop stmts) is = declared_there x v stmts is
declared_there x v (While p e stmts) is = declared_there x v stmts is
declared_there x v (For p y reversed low high stmts) is = inr (declared_there x v stmts is)
declared_there x v (Block n stmts end) is = declared_there x v stmts is
declared_there x v (typed.More a rest) (inl is) = Has-append_left (declared_within a) (declared_within rest) x (declared_there x v a is)
declared_there x v (typed.More a rest) (inr is) = Has-append_right (declared_within a) (declared_within rest) x (declared_there x v rest is)
declared_there x v _ is = absurd is

-- It is so with one value, if it has a number of its own.
pub one_value : (x : ℕ) (v w : TypedTree) (c : TypedCode) → Once (declared_within c) → IsDeclared x v c → IsDeclared x w c → v ≡ w
unfolding IsDeclared declared_within
one_value x v w c once first second = by c once first second
  where
    two : (a b : TypedCode) → Once (declared_within a ++ declared_within b)
        → (Once (declared_within a) → IsDeclared x v a → IsDeclared x w a → v ≡ w) → (Once (declared_within b) → IsDeclared x v b → IsDeclared x w b → v ≡ w)
        → IsDeclared x v a ⊎ IsDeclared x v b → IsDeclared x w a ⊎ IsDeclared x w b → v ≡ w
    two a b once left right (inl one) (inl other) = left (once_left (declared_within a) (declared_within b) once) one other
    two a b once left right (inr one) (inr other) = right (once_right (declared_within a) (declared_within b) once) one other
    two a b once left right (inl one) (inr other) =
        absurd (once_apart (declared_within a) (declared_within b) x once (declared_there x v a one) (declared_there x w b other))
    two a b once left right (inr one) (inl other) =
        absurd (once_apart (declared_within a) (declared_within b) x once (declared_there x w a other) (declared_there x v b one))

    by : (c : TypedCode) → Once (declared_within c) → IsDeclared x v c → IsDeclared x w c → v ≡ w
    by (Declare p y u) once one other = sym one.1 ∙ other.1
    by (If branches otherwise) once one other = two branches otherwise once (by branches) (by otherwise) one other
    by (Branch p e stmts) once one other = by stmts once one other
    by (Case p e whens) once one other = by whens once one other
    by (When choices stmts) once one other = by stmts once one other
    by (Loop stmts) once one other = by stmts once one other
    by (While p e stmts) once one other = by stmts once one other
    by (For p y reversed low high stmts) once one other = by stmts once.1 one other
    by (Block n stmts end) once one other = by stmts once one other
    by (typed.More a rest) once one other = two a rest once (by a) (by rest) one other
    by _ once one other = absurd one

-- ---- points

-- What a point declares, the text declares.
abbrev IsOf : (ℕ → TypedTree → Type 0) → Instruction → Type 0
IsOf P (instruction.Declare x v) = P x v
IsOf P i = Unit {0}

abbrev IsOfText : (ℕ → TypedTree → Type 0) → NamedPoint → Type 0
IsOfText P p = IsOf P p.instr

module _ (s : Setting) (P : ℕ → TypedTree → Type 0) where
  abbrev Good : List NamedPoint → Type 0
  Good ps = AllByRecursion (IsOfText P) ps

  both : (ps qs : List NamedPoint) → Good ps → Good qs → Good (ps ++ qs)
  both ps qs h g = all_both (IsOfText P) ps qs h g

  one_more : (ps : List NamedPoint) (p : NamedPoint) → Good ps → IsOfText P p → Good (ps ++ p ∷ [])
  one_more ps p h g = all_one (IsOfText P) ps p h g

  two : (x y : Place) (a b : TypedTree) (scope inner : List ℕ) (k l : List PointName)
      → ((scope : List ℕ) (k : List PointName) → Good (prep s a x scope k)) → ((scope : List ℕ) (k : List PointName) → Good (prep s b y scope k))
      → Good (prep s a x scope k ++ prep s b y inner l)
  two x y a b scope inner k l first second = both (prep s a x scope k) (prep s b y inner l) (first scope k) (second inner l)

  prep_good : (e : TypedTree) (at : Place) (scope : List ℕ) (k : List PointName) → Good (prep s e at scope k)
  unfolding prep
  prep_good = on_tree {Of = λ e. (at : Place) → (scope : List ℕ) → (k : List PointName) → Good (prep s e at scope k)} (record {
    call = λ p sub actuals by_actuals at scope k.
        one_more (prep s actuals (0 ∷ at) scope (row_at at 0 ∷ [])) _ (by_actuals (0 ∷ at) scope (row_at at 0 ∷ [])) tt;
    short = λ op p a q b on_a by_b at scope k.
        let right : List NamedPoint = prep s b (1 ∷ at) (s.temporary at ∷ scope) (row_at at 1 ∷ []) in
        all_if (IsOfText P) (has_call b) _ _
        (both (prep s a (0 ∷ at) scope (row_at at 0 ∷ [])) _ (on_a (0 ∷ at) scope (row_at at 0 ∷ []))
        (tt, one_more right _ (by_b (1 ∷ at) (s.temporary at ∷ scope) (row_at at 1 ∷ [])) tt))
        (two (0 ∷ at) (1 ∷ at) a b scope _ _ k (on_a (0 ∷ at)) (by_b (1 ∷ at)));
    binary = λ op a b on_a by_b at scope k.
        two (0 ∷ at) (1 ∷ at) a b scope _ _ k (on_a (0 ∷ at)) (by_b (1 ∷ at));
    list = λ a b on_a by_b at scope k.
        two (0 ∷ at) (1 ∷ at) a b scope _ _ k (on_a (0 ∷ at)) (by_b (1 ∷ at));
    element = λ a low high b on_a by_b at scope k.
        two (0 ∷ at) (1 ∷ at) a b scope _ _ k (on_a (0 ∷ at)) (by_b (1 ∷ at));
    name = λ p x e u by_e at scope k.
        by_e (0 ∷ at) scope k;
    component = λ i e by_e at scope k.
        by_e (0 ∷ at) scope k;
    designated = λ e by_e at scope k.
        by_e (0 ∷ at) scope k;
    image = λ u e by_e at scope k.
        by_e (0 ∷ at) scope k;
    parens = λ e by_e at scope k.
        by_e (0 ∷ at) scope k;
    unary = λ op e by_e at scope k.
        by_e (0 ∷ at) scope k;
    is_null = λ equal e by_e at scope k.
        by_e (0 ∷ at) scope k;
    aggregate = λ u e by_e at scope k.
        by_e (0 ∷ at) scope k;
    alike = λ u e by_e at scope k.
        by_e (0 ∷ at) scope k;
    allocator = λ u e by_e at scope k.
        by_e (0 ∷ at) scope k;
    others = λ e plain at scope k. rw (plain_prep s e at scope k plain) (tt);
  })

  uses_good : (at : Place) (p : Pos) (e : TypedTree) (i : Instruction) (w : Around) (next : List PointName) → IsOf P i → Good (uses s at p e i w next)
  uses_good at p e i w next h = one_more (prep s e (0 ∷ at) w.scope (row_at at 0 ∷ [])) _ (prep_good e (0 ∷ at) w.scope (row_at at 0 ∷ [])) h

  ends_good : (at : Place) (row : ℕ) (p : Pos) (xs scope : List ℕ) (k : List PointName) → Good (ends at row p xs scope k)
  ends_good at row p [] scope k = tt
  ends_good at row p (x ∷ xs) scope k = (tt, ends_good at (suc row) p xs _ k)

  -- Each declaration in some code is as told.
  abbrev AllOf : TypedCode → Type 0
  AllOf c = (x : ℕ) (v : TypedTree) → IsDeclared x v c → P x v

  laid_good_cases : Laws (λ c. (at : Place) → (w : Around) → (k : List PointName) → AllOf c → Good (laid s c at w k))
      (λ c. (at : Place) → (w : Around) → (k : List PointName) → (m : List PointName) → AllOf c → Good (laid_branches s c at w k m))
      (λ c. (at : Place) → (w : Around) → (k : List PointName) → (m : List PointName) → AllOf c → Good (laid_branch s c at w k m))
      (λ c. (at : Place) → (w : Around) → (k : List PointName) → AllOf c → Good (flat_map (λ ps. ps) (laid_whens s c at w k)))
      (λ c. (at : Place) → (w : Around) → (k : List PointName) → AllOf c → Good (laid_when s c at w k))
  unfolding laid laid_branches laid_branch laid_whens laid_when IsDeclared
  laid_good_cases = record {
    list = λ a rest by_a by_rest at w k all.
        both (laid s a (0 ∷ at) w _) _ (by_a (0 ∷ at) w _ (λ x v is. all x v (inl is))) (by_rest (1 ∷ at) (with_scope (declared a) w) k (λ x v is. all x v (inr is)));
    declare = λ p x v at w k all.
        uses_good at p v (instruction.Declare x v) w k (all x v (refl, refl));
    assign = λ p target e at w k all.
        one_more (prep s e (1 ∷ at) w.scope _ ++ prep s target (0 ∷ at) (with_held s e (1 ∷ at) w.scope) _) _
        (both (prep s e (1 ∷ at) w.scope _) _ (prep_good e (1 ∷ at) w.scope _) (prep_good target (0 ∷ at) (with_held s e (1 ∷ at) w.scope) _)) tt;
    skip = λ p at w k all.
        (tt, tt);
    call = λ p sub actuals at w k all.
        uses_good at p actuals (instruction.Call sub actuals None) w k tt;
    output = λ p text line at w k all.
        uses_good at p text (instruction.Output text line) w k tt;
    input = λ p target at w k all.
        uses_good at p target (instruction.Input target) w k tt;
    release = λ p m at w k all.
        uses_good at p m (instruction.Release m) w k tt;
    choice = λ branches otherwise by_branches by_otherwise at w k all.
        both (laid_branches s branches (0 ∷ at) w k _) _ (by_branches (0 ∷ at) w k _ (λ x v is. all x v (inl is)))
        (by_otherwise (1 ∷ at) w k (λ x v is. all x v (inr is)));
    cases = λ p e whens by_whens at w k all.
        both (uses s at p e _ w _) _ (uses_good at p e _ w _ tt) (by_whens (1 ∷ at) w k all);
    loop = λ stmts by_stmts at w k all.
        by_stmts (0 ∷ at) (within_loop k w) _ all;
    while = λ p e stmts by_stmts at w k all.
        both (uses s at p e (instruction.Test e) w _) _ (uses_good at p e (instruction.Test e) w _ tt) (by_stmts (1 ∷ at) (within_loop k w) _ all);
    for = λ p x reversed low high stmts by_stmts at w k all.
        both (uses_both s at p low high (instruction.Start x reversed low high) w _) _
        (one_more (prep s low (0 ∷ at) w.scope _ ++ prep s high (1 ∷ at) (with_held s low (0 ∷ at) w.scope) _) _
        (both (prep s low (0 ∷ at) w.scope _) _ (prep_good low (0 ∷ at) w.scope _) (prep_good high (1 ∷ at) (with_held s low (0 ∷ at) w.scope) _)) tt)
        (tt, by_stmts (2 ∷ at) (with_scope (x ∷ []) (within_loop k w)) _ all);
    exit = λ p e at w k all.
        both (uses s at p e (instruction.LeaveLoop e) w _) _ (uses_good at p e (instruction.LeaveLoop e) w _ tt) (ends_good at 1 p w.in_loop w.scope w.leave);
    return = λ p v at w k all.
        both (uses s at p v (instruction.Hold v) w _) _ (uses_good at p v (instruction.Hold v) w _ tt)
        (one_more (ends at 1 p w.in_all w.scope _) _ (ends_good at 1 p w.in_all w.scope _) tt);
    block = λ n stmts end by_stmts at w k all.
        both (laid s stmts (0 ∷ at) (within_block (ending s stmts) w) _) _ (by_stmts (0 ∷ at) (within_block (ending s stmts) w) _ all)
        (ends_good at 0 end (ending s stmts) _ k);
    others = λ c other at w k all. rw (laid_none s c at w k other) (tt);
    branches = λ a rest by_a by_rest at w k m all.
        both (laid_branch s a (0 ∷ at) w k _) _ (by_a (0 ∷ at) w k _ (λ x v is. all x v (inl is))) (by_rest (1 ∷ at) w k m (λ x v is. all x v (inr is)));
    no_branches = λ c other at w k m all. rw (branches_none s c at w k m other) (tt);
    branch = λ p e stmts by_stmts at w k m all.
        both (uses s at p e (instruction.Test e) w _) _ (uses_good at p e (instruction.Test e) w _ tt) (by_stmts (1 ∷ at) w k all);
    no_branch = λ c other at w k m all. rw (branch_none s c at w k m other) (tt);
    alternatives = λ a rest by_a by_rest at w k all.
        both (laid_when s a (0 ∷ at) w k) _ (by_a (0 ∷ at) w k (λ x v is. all x v (inl is))) (by_rest (1 ∷ at) w k (λ x v is. all x v (inr is)));
    no_alternatives = λ c other at w k all. rw (whens_none s c at w k other) (tt);
    alternative = λ choices stmts by_stmts at w k all.
        by_stmts (1 ∷ at) w k all;
    no_alternative = λ c other at w k all. rw (when_none s c at w k other) (tt);
  }

  laid_good : (c : TypedCode) (at : Place) (w : Around) (k : List PointName) → AllOf c → Good (laid s c at w k)
  laid_good = on_code laid_good_cases

  end_good : (sub : TypedSub) (b : Bool) → Good (if b then function_end sub else procedure_end s sub)
  end_good sub true = (tt, tt)
  end_good sub false = one_more (ends [] 0 sub.end (ending s sub.body) (scope_at_end sub) _) _ (ends_good [] 0 sub.end (ending s sub.body) (scope_at_end sub) _) tt

-- So it is of each point of a subprogram.
pub sub_declared : (s : Setting) (sub : TypedSub) (p : NamedPoint) → Has (sub_points s sub) p → (x : ℕ) (v : TypedTree) → p.instr ≡ instruction.Declare x v
    → IsDeclared x v sub.body
sub_declared s sub p has x v is =
    subst (IsOf P) is (all_has (IsOfText P) (sub_points s sub) p
    (both s P (laid s sub.body (0 ∷ []) (around_body s sub) _) _ (laid_good s P sub.body (0 ∷ []) (around_body s sub) _ (λ y u is. is)) (end_good s P sub (is_some sub.result))) has)
  where
    P : ℕ → TypedTree → Type 0
    P y u = IsDeclared y u sub.body
