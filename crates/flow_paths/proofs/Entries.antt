-- The first point of statements has the same name wherever they lead.
use Rattle.std.proofs.Common.{◌≡◌, ℕ, List, [], ◌∷◌, ◌++◌, refl, sym, ap, ◌∙◌, arith}
use Rattle.std.specs.Prelude.{None, flat_map, reverse}
use Rattle.std.proofs.lemmas.Grind.{common_steps}
use Rattle.typed_tree.specs.spark_base.declared.position.Pos.{Pos}
use Rattle.typed_tree.specs.Trees.{TypedTree, TypedCode, Declare, Assign, Skip, Output, Input, Release, If, Branch, Case, When, Loop, While, For, Exit, Return, Block, More}
use Rattle.typed_tree.specs.Trees as typed
use Rattle.flow_paths.specs.Instructions.{Instruction}
use Rattle.flow_paths.specs.Points.{Place, PointName, row_at, NamedPoint, point, entry}
use Rattle.flow_paths.specs.Prep.{Setting, with_held, prep}
use Rattle.flow_paths.specs.Layout.{Around, within_loop, within_block, with_scope, declared, ending, ends, laid, laid_branches, laid_branch}

pub entry_append : (ps qs : List NamedPoint) (k : List PointName) → entry (ps ++ qs) k ≡ entry ps (entry qs k)
entry_append [] qs k = refl
entry_append (p ∷ ps) qs k = refl

name_is : (m n : PointName) → ◌≡◌ {A = List PointName} (m ∷ []) (n ∷ []) → m ≡ n
name_is m n is = cc

pub entry_same : (ps qs : List NamedPoint) → entry ps [] ≡ entry qs [] → (k : List PointName) → entry ps k ≡ entry qs k
entry_same [] [] is k = refl
entry_same [] (q ∷ qs) is k = absurd (none q.name is)
  where
    none : (n : PointName) → ◌≡◌ {A = List PointName} [] (n ∷ []) → ⊥
    none n e = cc
entry_same (p ∷ ps) [] is k = absurd (none p.name is)
  where
    none : (n : PointName) → ◌≡◌ {A = List PointName} (n ∷ []) [] → ⊥
    none n e = cc
entry_same (p ∷ ps) (q ∷ qs) is k = is

-- Two lists, of which each begins with the same name.
both_same : (ps qs xs ys : List NamedPoint) → entry ps [] ≡ entry xs [] → entry qs [] ≡ entry ys [] → entry (ps ++ qs) [] ≡ entry (xs ++ ys) []
both_same ps qs xs ys first second =
    entry_append ps qs [] ∙ entry_same ps xs first (entry qs []) ∙ ap (λ k. entry xs k) second ∙ sym (entry_append xs ys [])

-- Points with one name that follow the same points.
row_same : (ps : List NamedPoint) (p q : NamedPoint) → p.name ≡ q.name → entry (ps ++ p ∷ []) [] ≡ entry (ps ++ q ∷ []) []
row_same ps p q is = both_same ps (p ∷ []) ps (q ∷ []) refl (ap (λ n. n ∷ []) is)

front_same : (ps xs : List NamedPoint) (p q : NamedPoint) (rs ys : List NamedPoint) → p.name ≡ q.name → ps ≡ xs
    → entry ((ps ++ p ∷ []) ++ rs) [] ≡ entry ((xs ++ q ∷ []) ++ ys) []
front_same ps xs p q rs ys is same =
    entry_append (ps ++ p ∷ []) rs [] ∙ entry_append ps (p ∷ []) (entry rs [])
    ∙ ap (λ n. entry ps (n ∷ [])) is ∙ ap (λ zs. entry zs (q.name ∷ [])) same
    ∙ sym (entry_append xs (q ∷ []) (entry ys [])) ∙ sym (entry_append (xs ++ q ∷ []) ys [])

abbrev pub with_leave : List PointName → Around → Around
with_leave ks w = record w { leave = ks }

ends_same : (at : Place) (r : ℕ) (p : Pos) (xs scope : List ℕ) (k l : List PointName) → entry (ends at r p xs scope k) [] ≡ entry (ends at r p xs scope l) []
ends_same at r p [] scope k l = refl
ends_same at r p (x ∷ xs) scope k l = refl

mutual
  unfolding laid

  pub same_entry : (s : Setting) (c : TypedCode) (at : Place) (w : Around) (ks ls k l : List PointName)
      → entry (laid s c at (with_leave ks w) k) [] ≡ entry (laid s c at (with_leave ls w) l) []
  same_entry s (More a rest) at w ks ls k l =
      both_same (laid s a (0 ∷ at) (with_leave ks w) _) (laid s rest (1 ∷ at) (with_scope (declared a) (with_leave ks w)) k)
      (laid s a (0 ∷ at) (with_leave ls w) _) (laid s rest (1 ∷ at) (with_scope (declared a) (with_leave ls w)) l)
      (same_entry s a (0 ∷ at) w ks ls _ _) (same_entry s rest (1 ∷ at) (with_scope (declared a) w) ks ls k l)
  same_entry s (Declare p x v) at w ks ls k l = row_same (prep s v (0 ∷ at) w.scope (row_at at 0 ∷ [])) _ _ refl
  same_entry s (Assign p target e) at w ks ls k l = row_same _ _ _ refl
  same_entry s (Skip p) at w ks ls k l = refl
  same_entry s (typed.Call p sub actuals) at w ks ls k l = row_same (prep s actuals (0 ∷ at) w.scope (row_at at 0 ∷ [])) _ _ refl
  same_entry s (Output p text line) at w ks ls k l = row_same (prep s text (0 ∷ at) w.scope (row_at at 0 ∷ [])) _ _ refl
  same_entry s (Input p target) at w ks ls k l = row_same (prep s target (0 ∷ at) w.scope (row_at at 0 ∷ [])) _ _ refl
  same_entry s (Release p m) at w ks ls k l = row_same (prep s m (0 ∷ at) w.scope (row_at at 0 ∷ [])) _ _ refl
  same_entry s (If branches otherwise) at w ks ls k l =
      both_same _ (laid s otherwise (1 ∷ at) (with_leave ks w) k) _ (laid s otherwise (1 ∷ at) (with_leave ls w) l)
      (same_branches s branches (0 ∷ at) w ks ls k l _ _) (same_entry s otherwise (1 ∷ at) w ks ls k l)
  same_entry s (Case p e whens) at w ks ls k l = front_same (prep s e (0 ∷ at) w.scope (row_at at 0 ∷ [])) _ _ _ _ _ refl refl
  same_entry s (Loop stmts) at w ks ls k l = same_entry s stmts (0 ∷ at) (within_loop k w) k l _ _
  same_entry s (While p e stmts) at w ks ls k l = front_same (prep s e (0 ∷ at) w.scope (row_at at 0 ∷ [])) _ _ _ _ _ refl refl
  same_entry s (For p x reversed low high stmts) at w ks ls k l = front_same _ _ _ _ _ _ refl refl
  same_entry s (Exit p e) at w ks ls k l = front_same (prep s e (0 ∷ at) w.scope (row_at at 0 ∷ [])) _ _ _ _ _ refl refl
  same_entry s (Return p v) at w ks ls k l = front_same (prep s v (0 ∷ at) w.scope (row_at at 0 ∷ [])) _ _ _ _ _ refl refl
  same_entry s (Block n stmts end) at w ks ls k l =
      both_same _ (ends at 0 end (ending s stmts) (reverse (declared stmts) ++ w.scope) k) _ (ends at 0 end (ending s stmts) (reverse (declared stmts) ++ w.scope) l)
      (same_entry s stmts (0 ∷ at) (within_block (ending s stmts) w) ks ls _ _) (ends_same at 0 end (ending s stmts) (reverse (declared stmts) ++ w.scope) k l)
  same_entry s _ at w ks ls k l = refl

  same_branches : (s : Setting) (c : TypedCode) (at : Place) (w : Around) (ks ls k l m n : List PointName)
      → entry (laid_branches s c at (with_leave ks w) k m) [] ≡ entry (laid_branches s c at (with_leave ls w) l n) []
  same_branches s (More a rest) at w ks ls k l m n =
      both_same _ (laid_branches s rest (1 ∷ at) (with_leave ks w) k m) _ (laid_branches s rest (1 ∷ at) (with_leave ls w) l n)
      (same_branch s a (0 ∷ at) w ks ls k l _ _) (same_branches s rest (1 ∷ at) w ks ls k l m n)
  same_branches s _ at w ks ls k l m n = refl

  same_branch : (s : Setting) (c : TypedCode) (at : Place) (w : Around) (ks ls k l m n : List PointName)
      → entry (laid_branch s c at (with_leave ks w) k m) [] ≡ entry (laid_branch s c at (with_leave ls w) l n) []
  same_branch s (Branch p e stmts) at w ks ls k l m n = front_same (prep s e (0 ∷ at) w.scope (row_at at 0 ∷ [])) _ _ _ _ _ refl refl
  same_branch s _ at w ks ls k l m n = refl
