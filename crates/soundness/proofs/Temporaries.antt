-- A program without calls has no temporaries.
use Rattle.std.proofs.Common.{◌≡◌, refl, sym, ap, ◌∙◌, inl, inr, ℕ, suc, ◌+◌, Bool, true, false, List, [], ◌∷◌, ◌++◌, length, if◌then◌else◌}
use Rattle.std.specs.Prelude.{Some, flat_map, drop, reverse, is_some}
use Rattle.std.specs.List.{AllByRecursion}
use Rattle.std.proofs.lemmas.Bool.{false≢true}
use Rattle.machine.specs.spark_base.Lists.{Has}
use Rattle.machine.specs.spark_base.declared.position.Pos.{Pos}
use Rattle.machine.specs.typed_tree.Trees.{TypedTree, Name, Component, Designated, Element, Image, Parens, Unary, Binary, Short, IsNull, Aggregate, Alike, New, TypedCode, Declare, Assign, Skip, Output, Input, Release, If, Branch, Case, When, Loop, While, For, Exit, Return, Block}
use Rattle.machine.specs.typed_tree.Trees as typed
use Rattle.machine.specs.typed_tree.Programs.{TypedSub}
use Rattle.machine.specs.flow_paths.Instructions.{Instruction, Finish, Evaluate}
use Rattle.machine.specs.flow_paths.Instructions as instruction
use Rattle.machine.specs.flow_paths.Objects.{Typing}
use Rattle.machine.specs.flow_paths.Names.{has_call}
use Rattle.machine.specs.flow_paths.Points.{Place, PointName, row_at, NamedPoint, point}
use Rattle.machine.specs.flow_paths.Prep.{Setting, prep}
use Rattle.machine.specs.flow_paths.Layout.{Around, within_loop, within_block, with_scope, declared, from, ending, ends, closing, laid, laid_branches, laid_branch, laid_whens, laid_when}
use Rattle.machine.specs.flow_paths.Laid.{Temporary, filled, temporaries, numbers_from, unnumbered, around_body, scope_at_end, procedure_end, function_end, sub_points, sub_temporaries, NamedSub, named_sub, named_subs, all_named}
use Rattle.soundness.specs.Sound.{calls_procedures}
use Rattle.flow_paths.proofs.Slots.{each_both as all_both}

-- ---- lists

all_left : {A : Type 0} (P : A → Type 0) (xs ys : List A) → AllByRecursion P (xs ++ ys) → AllByRecursion P xs
all_left P [] ys h = tt
all_left P (x ∷ xs) ys h = (h.0, all_left P xs ys h.1)

all_right : {A : Type 0} (P : A → Type 0) (xs ys : List A) → AllByRecursion P (xs ++ ys) → AllByRecursion P ys
all_right P [] ys h = h
all_right P (x ∷ xs) ys h = all_right P xs ys h.1

all_one : (P : NamedPoint → Type 0) (ps : List NamedPoint) (p : NamedPoint) → AllByRecursion P ps → P p → AllByRecursion P (ps ++ p ∷ [])
all_one P ps p all one = all_both P ps (p ∷ []) all (one, tt)

-- ---- points

abbrev pub IsCalm : NamedPoint → Type 0
IsCalm p = calls_procedures p.instr ≡ true

module _ (t : Typing) where
  -- A point that fills no temporary.
  abbrev FillsNone : NamedPoint → Type 0
  FillsNone p = filled t p.name.place p.instr ≡ []

  abbrev Calm : List NamedPoint → Type 0
  Calm ps = AllByRecursion IsCalm ps

  abbrev Empty : List NamedPoint → Type 0
  Empty ps = AllByRecursion FillsNone ps

  none_filled : (ps : List NamedPoint) → Empty ps → temporaries t ps ≡ []
  none_filled [] h = refl
  none_filled (p ∷ ps) h = ap (λ xs. xs ++ temporaries t ps) h.0 ∙ none_filled ps h.1

  both : (ps qs : List NamedPoint) → Empty ps → Empty qs → Empty (ps ++ qs)
  both ps qs h g = all_both FillsNone ps qs h g

  one_more : (ps : List NamedPoint) (p : NamedPoint) → Empty ps → FillsNone p → Empty (ps ++ p ∷ [])
  one_more ps p h g = all_one FillsNone ps p h g

  left : (ps qs : List NamedPoint) → Calm (ps ++ qs) → Calm ps
  left ps qs h = all_left IsCalm ps qs h

  right : (ps qs : List NamedPoint) → Calm (ps ++ qs) → Calm qs
  right ps qs h = all_right IsCalm ps qs h

  first_calm : (ps : List NamedPoint) (q : NamedPoint) (qs : List NamedPoint) → Calm (ps ++ q ∷ qs) → IsCalm q
  first_calm [] q qs h = h.0
  first_calm (p ∷ ps) q qs h = first_calm ps q qs h.1

  refused : (i : Instruction) → calls_procedures i ≡ false → calls_procedures i ≡ true → ⊥
  refused i h g = let both : false ≡ true = sym h ∙ g in absurd (false≢true both)

  -- The points are laid out by one setting, and by another one: only the temporaries have other numbers.
  module _ (s z : Setting) where
    two_none : (a b : TypedTree) (x y : Place) (scope scope' inner inner' : List ℕ) (k k' l l' : List PointName)
        → ((scope scope' : List ℕ) (k k' : List PointName) → Calm (prep s a x scope k) → Empty (prep z a x scope' k'))
        → ((scope scope' : List ℕ) (k k' : List PointName) → Calm (prep s b y scope k) → Empty (prep z b y scope' k'))
        → Calm (prep s a x scope k ++ prep s b y inner l) → Empty (prep z a x scope' k' ++ prep z b y inner' l')
    two_none a b x y scope scope' inner inner' k k' l l' first second calm =
        both (prep z a x scope' k') (prep z b y inner' l') (first scope scope' k k' (left (prep s a x scope k) (prep s b y inner l) calm))
        (second inner inner' l l' (right (prep s a x scope k) (prep s b y inner l) calm))

    either_none : (b : Bool) (ps qs rs us : List NamedPoint) → (Calm ps → ⊥) → (Calm qs → Empty us) → Calm (if b then ps else qs) → Empty (if b then rs else us)
    either_none true ps qs rs us none other calm = absurd (none calm)
    either_none false ps qs rs us none other calm = other calm

    prep_none : (e : TypedTree) (at : Place) (scope scope' : List ℕ) (k k' : List PointName) → Calm (prep s e at scope k) → Empty (prep z e at scope' k')
    unfolding prep
    prep_none (typed.Call p sub actuals) at scope scope' k k' calm =
        absurd (refused (instruction.Call sub actuals (Some (s.temporary at))) refl
        (first_calm (prep s actuals (0 ∷ at) scope (row_at at 0 ∷ [])) _ [] calm))
    prep_none (Short op p a q b) at scope scope' k k' calm =
        either_none (has_call b) _ _ _ _
        (λ both. refused (Evaluate (s.temporary at) a (Some op)) refl (first_calm (prep s a (0 ∷ at) scope (row_at at 0 ∷ [])) _ _ both))
        (two_none a b (0 ∷ at) (1 ∷ at) scope scope' _ _ _ _ k k' (prep_none a (0 ∷ at)) (prep_none b (1 ∷ at))) calm
    prep_none (Binary op a b) at scope scope' k k' calm =
        two_none a b (0 ∷ at) (1 ∷ at) scope scope' _ _ _ _ k k' (prep_none a (0 ∷ at)) (prep_none b (1 ∷ at)) calm
    prep_none (typed.More a b) at scope scope' k k' calm =
        two_none a b (0 ∷ at) (1 ∷ at) scope scope' _ _ _ _ k k' (prep_none a (0 ∷ at)) (prep_none b (1 ∷ at)) calm
    prep_none (Element a low high b) at scope scope' k k' calm =
        two_none a b (0 ∷ at) (1 ∷ at) scope scope' _ _ _ _ k k' (prep_none a (0 ∷ at)) (prep_none b (1 ∷ at)) calm
    prep_none (Name p x e t) at scope scope' k k' calm = prep_none e (0 ∷ at) scope scope' k k' calm
    prep_none (Component i e) at scope scope' k k' calm = prep_none e (0 ∷ at) scope scope' k k' calm
    prep_none (Designated e) at scope scope' k k' calm = prep_none e (0 ∷ at) scope scope' k k' calm
    prep_none (Image t e) at scope scope' k k' calm = prep_none e (0 ∷ at) scope scope' k k' calm
    prep_none (Parens e) at scope scope' k k' calm = prep_none e (0 ∷ at) scope scope' k k' calm
    prep_none (Unary op e) at scope scope' k k' calm = prep_none e (0 ∷ at) scope scope' k k' calm
    prep_none (IsNull equal e) at scope scope' k k' calm = prep_none e (0 ∷ at) scope scope' k k' calm
    prep_none (Aggregate t e) at scope scope' k k' calm = prep_none e (0 ∷ at) scope scope' k k' calm
    prep_none (Alike t e) at scope scope' k k' calm = prep_none e (0 ∷ at) scope scope' k k' calm
    prep_none (New t e) at scope scope' k k' calm = prep_none e (0 ∷ at) scope scope' k k' calm
    prep_none _ at scope scope' k k' calm = tt

    used : (at : Place) (e : TypedTree) (scope scope' : List ℕ) (q r : NamedPoint) → FillsNone r
        → Calm (prep s e (0 ∷ at) scope (row_at at 0 ∷ []) ++ q ∷ []) → Empty (prep z e (0 ∷ at) scope' (row_at at 0 ∷ []) ++ r ∷ [])
    used at e scope scope' q r none calm =
        one_more (prep z e (0 ∷ at) scope' (row_at at 0 ∷ [])) r
        (prep_none e (0 ∷ at) scope scope' (row_at at 0 ∷ []) (row_at at 0 ∷ []) (left (prep s e (0 ∷ at) scope (row_at at 0 ∷ [])) (q ∷ []) calm)) none

    paired : (at x y : Place) (a b : TypedTree) (scope scope' inner inner' : List ℕ) (k k' l l' : List PointName) (q r : NamedPoint) → FillsNone r
        → Calm ((prep s a x scope k ++ prep s b y inner l) ++ q ∷ []) → Empty ((prep z a x scope' k' ++ prep z b y inner' l') ++ r ∷ [])
    paired at x y a b scope scope' inner inner' k k' l l' q r none calm =
        one_more (prep z a x scope' k' ++ prep z b y inner' l') r
        (two_none a b x y scope scope' inner inner' k k' l l' (prep_none a x) (prep_none b y) (left (prep s a x scope k ++ prep s b y inner l) (q ∷ []) calm)) none

    ends_none : (at : Place) (row : ℕ) (p : Pos) (xs scope : List ℕ) (k : List PointName) → Empty (ends at row p xs scope k)
    ends_none at row p [] scope k = tt
    ends_none at row p (x ∷ xs) scope k = (refl, ends_none at (suc row) p xs (drop 1 (from x scope)) k)

    last_none : (at : Place) (row : ℕ) (p q : Pos) (xs scope formals : List ℕ) (finish : PointName)
        → Empty (ends at row p xs scope (finish ∷ []) ++ point finish q Finish formals [] ∷ [])
    last_none at row p q xs scope formals finish =
        one_more (ends at row p xs scope (finish ∷ [])) (point finish q Finish formals []) (ends_none at row p xs scope (finish ∷ [])) refl

    mutual
      unfolding laid

      laid_none : (c : TypedCode) (at : Place) (w w' : Around) (k k' : List PointName) → Calm (laid s c at w k) → Empty (laid z c at w' k')
      laid_none (typed.More a rest) at w w' k k' calm =
          both _ _ (laid_none a (0 ∷ at) w w' _ _ (left (laid s a (0 ∷ at) w _) _ calm))
          (laid_none rest (1 ∷ at) (with_scope (declared a) w) (with_scope (declared a) w') k k' (right (laid s a (0 ∷ at) w _) _ calm))
      laid_none (Declare p x v) at w w' k k' calm = used at v w.scope w'.scope _ _ refl calm
      laid_none (Assign p target e) at w w' k k' calm = paired at (1 ∷ at) (0 ∷ at) e target w.scope w'.scope _ _ _ _ _ _ _ _ refl calm
      laid_none (Skip p) at w w' k k' calm = (refl, tt)
      laid_none (typed.Call p sub actuals) at w w' k k' calm = used at actuals w.scope w'.scope _ _ refl calm
      laid_none (Output p text line) at w w' k k' calm = used at text w.scope w'.scope _ _ refl calm
      laid_none (Input p target) at w w' k k' calm = used at target w.scope w'.scope _ _ refl calm
      laid_none (Release p m) at w w' k k' calm = used at m w.scope w'.scope _ _ refl calm
      laid_none (If branches otherwise) at w w' k k' calm =
          both _ _ (branches_none branches (0 ∷ at) w w' k k' _ _ (left (laid_branches s branches (0 ∷ at) w k _) _ calm))
          (laid_none otherwise (1 ∷ at) w w' k k' (right (laid_branches s branches (0 ∷ at) w k _) _ calm))
      laid_none (Case p e whens) at w w' k k' calm =
          both _ _ (used at e w.scope w'.scope _ _ refl (left _ (flat_map (λ ps. ps) (laid_whens s whens (1 ∷ at) w k)) calm))
          (whens_none whens (1 ∷ at) w w' k k' (right _ (flat_map (λ ps. ps) (laid_whens s whens (1 ∷ at) w k)) calm))
      laid_none (Loop stmts) at w w' k k' calm = laid_none stmts (0 ∷ at) (within_loop k w) (within_loop k' w') _ _ calm
      laid_none (While p e stmts) at w w' k k' calm =
          both _ _ (used at e w.scope w'.scope _ _ refl (left _ (laid s stmts (1 ∷ at) (within_loop k w) _) calm))
          (laid_none stmts (1 ∷ at) (within_loop k w) (within_loop k' w') _ _ (right _ (laid s stmts (1 ∷ at) (within_loop k w) _) calm))
      laid_none (For p x reversed low high stmts) at w w' k k' calm =
          both _ _ (paired at (0 ∷ at) (1 ∷ at) low high w.scope w'.scope _ _ _ _ _ _ _ _ refl (left _ (_ ∷ laid s stmts (2 ∷ at) _ _) calm))
          (refl, laid_none stmts (2 ∷ at) _ (with_scope (x ∷ []) (within_loop k' w')) _ _ (right _ (_ ∷ laid s stmts (2 ∷ at) _ _) calm).1)
      laid_none (Exit p e) at w w' k k' calm =
          both _ _ (used at e w.scope w'.scope _ _ refl (left _ (ends at 1 p w.in_loop w.scope w.leave) calm)) (ends_none at 1 p w'.in_loop w'.scope w'.leave)
      laid_none (Return p v) at w w' k k' calm =
          both _ _ (used at v w.scope w'.scope _ _ refl (left _ (closing at 1 p w) calm))
          (last_none at 1 p p w'.in_all w'.scope w'.formals (row_at at (suc (length w'.in_all))))
      laid_none (Block n stmts end) at w w' k k' calm =
          both _ _ (laid_none stmts (0 ∷ at) (within_block (ending s stmts) w) (within_block (ending z stmts) w') _ _
          (left (laid s stmts (0 ∷ at) (within_block (ending s stmts) w) _) _ calm))
          (ends_none at 0 end (ending z stmts) (reverse (declared stmts) ++ w'.scope) k')
      laid_none _ at w w' k k' calm = tt

      branches_none : (c : TypedCode) (at : Place) (w w' : Around) (k k' o o' : List PointName) → Calm (laid_branches s c at w k o)
          → Empty (laid_branches z c at w' k' o')
      branches_none (typed.More a rest) at w w' k k' o o' calm =
          both _ _ (branch_none a (0 ∷ at) w w' k k' _ _ (left (laid_branch s a (0 ∷ at) w k _) _ calm))
          (branches_none rest (1 ∷ at) w w' k k' o o' (right (laid_branch s a (0 ∷ at) w k _) _ calm))
      branches_none _ at w w' k k' o o' calm = tt

      branch_none : (c : TypedCode) (at : Place) (w w' : Around) (k k' o o' : List PointName) → Calm (laid_branch s c at w k o)
          → Empty (laid_branch z c at w' k' o')
      branch_none (Branch p e stmts) at w w' k k' o o' calm =
          both _ _ (used at e w.scope w'.scope _ _ refl (left _ (laid s stmts (1 ∷ at) w k) calm))
          (laid_none stmts (1 ∷ at) w w' k k' (right _ (laid s stmts (1 ∷ at) w k) calm))
      branch_none _ at w w' k k' o o' calm = tt

      whens_none : (c : TypedCode) (at : Place) (w w' : Around) (k k' : List PointName) → Calm (flat_map (λ ps. ps) (laid_whens s c at w k))
          → Empty (flat_map (λ ps. ps) (laid_whens z c at w' k'))
      whens_none (typed.More a rest) at w w' k k' calm =
          both _ _ (when_none a (0 ∷ at) w w' k k' (left (laid_when s a (0 ∷ at) w k) _ calm))
          (whens_none rest (1 ∷ at) w w' k k' (right (laid_when s a (0 ∷ at) w k) _ calm))
      whens_none _ at w w' k k' calm = tt

      when_none : (c : TypedCode) (at : Place) (w w' : Around) (k k' : List PointName) → Calm (laid_when s c at w k) → Empty (laid_when z c at w' k')
      when_none (When choices stmts) at w w' k k' calm = laid_none stmts (1 ∷ at) w w' k k' calm
      when_none _ at w w' k k' calm = tt

    end_none : (sub : TypedSub) (b : Bool) → Empty (if b then function_end sub else procedure_end z sub)
    end_none sub true = (refl, tt)
    end_none sub false =
        last_none [] 0 sub.end sub.end (ending z sub.body) (scope_at_end sub) (reverse sub.formals) (row_at [] (length (ending z sub.body)))

    pub sub_none : (sub : TypedSub) → Calm (sub_points s sub) → temporaries t (sub_points z sub) ≡ []
    sub_none sub calm =
        none_filled (sub_points z sub)
        (both (laid z sub.body (0 ∷ []) (around_body z sub) _) (if is_some sub.result then function_end sub else procedure_end z sub)
        (laid_none sub.body (0 ∷ []) (around_body s sub) (around_body z sub) _ _
        (left (laid s sub.body (0 ∷ []) (around_body s sub) _) (if is_some sub.result then function_end sub else procedure_end s sub) calm))
        (end_none sub (is_some sub.result)))

-- ---- programs

all_from : {A : Type 0} (P : A → Type 0) (xs : List A) → ((x : A) → Has xs x → P x) → AllByRecursion P xs
all_from P [] each = tt
all_from P (x ∷ xs) each = (each x (inl refl), all_from P xs (λ y has. each y (inr has)))

abbrev temporaries_of : NamedSub → List Temporary
temporaries_of named = named.temporaries

no_named : (s : Typing) (n : ℕ) (subs : List TypedSub)
    → ((named : NamedSub) → Has (named_subs s n subs) named → (p : NamedPoint) → Has named.points p → IsCalm p) → flat_map temporaries_of (named_subs s n subs) ≡ []
no_named s n [] calm = refl
no_named s n (sub ∷ rest) calm =
    let all : List Temporary = sub_temporaries s sub in
    let setting : Setting = record { typing = s; temporary = numbers_from n all } in
    let none : all ≡ [] = sub_none s setting (unnumbered s) sub (all_from IsCalm (sub_points setting sub) (calm (named_sub s n all sub) (inl refl))) in
    ap (λ xs. xs ++ flat_map temporaries_of (named_subs s (n + length all) rest)) none
    ∙ no_named s (n + length all) rest (λ named has. calm named (inr has))

pub none_named : (s : Typing) (subs : List TypedSub)
    → ((named : NamedSub) → Has (all_named s subs) named → (p : NamedPoint) → Has named.points p → IsCalm p) → flat_map temporaries_of (all_named s subs) ≡ []
none_named s [] calm = refl
none_named s (sub ∷ rest) calm = no_named s (length s.objects) rest (λ named has. calm named (inr has))
