-- What is asked of code, so that its points are in order.
use Rattle.std.specs.Prelude.{ℕ, Bool, true, false, ◌&&◌, ◌||◌, List, [], ◌∷◌, ◌++◌, reverse}
use Rattle.std.specs.List.{list_all}
use Rattle.machine.specs.spark_base.Lists.{Has}
use Rattle.machine.specs.typed_tree.Trees.{TypedTree, TypedCode, Name, Component, Designated, Element, Image, Parens, Unary, Binary, Short, IsNull, Aggregate, Alike, New}
use Rattle.machine.specs.typed_tree.Trees as typed
use Rattle.machine.specs.typed_tree.Programs.{TypedSub}
use Rattle.machine.specs.flow_paths.Layout.{declared}
use Rattle.machine.specs.flow_paths.Laid.{declared_within}
use Rattle.machine.specs.flow_paths.Scopes.{is_within}

-- ---- where exits and alternatives stand

abbrev pub is_alternative : TypedCode → Bool
is_alternative (typed.When choices stmts) = true
is_alternative _ = false

-- Each exit stands in a loop, and each item of a `case` is an alternative. The first argument says
-- whether a loop stands around the code.
unfoldable mutual
  pub is_formed : Bool → TypedCode → Bool
  is_formed looped (typed.Exit p e) = looped
  is_formed looped (typed.More a rest) = is_formed looped a && is_formed looped rest
  is_formed looped (typed.If branches otherwise) = is_formed looped branches && is_formed looped otherwise
  is_formed looped (typed.Branch p e stmts) = is_formed looped stmts
  is_formed looped (typed.Case p e whens) = are_alternatives looped whens
  is_formed looped (typed.Loop stmts) = is_formed true stmts
  is_formed looped (typed.While p e stmts) = is_formed true stmts
  is_formed looped (typed.For p x reversed low high stmts) = is_formed true stmts
  is_formed looped (typed.Block n stmts end) = is_formed looped stmts
  is_formed looped _ = true

  pub are_alternatives : Bool → TypedCode → Bool
  are_alternatives looped (typed.More a rest) = is_formed_alternative looped a && are_alternatives looped rest
  are_alternatives looped _ = true

  pub is_formed_alternative : Bool → TypedCode → Bool
  is_formed_alternative looped (typed.When choices stmts) = is_formed looped stmts
  is_formed_alternative looped _ = false

-- ---- objects

-- No number stands twice.
abbrev pub Once : List ℕ → Type 0
Once [] = Unit {0}
Once (x ∷ xs) = (Has xs x → ⊥) × Once xs

-- The objects of a subprogram, its formals first.
abbrev pub objects_of : TypedSub → List ℕ
objects_of sub = sub.formals ++ declared_within sub.body

-- ---- what is named

-- The objects that the names in an expression are rooted in.
unfoldable pub roots : TypedTree → List ℕ
roots (Name p x steps t) = x ∷ roots steps
roots (Component i rest) = roots rest
roots (Designated rest) = roots rest
roots (Element index low high rest) = roots index ++ roots rest
roots (typed.Call p sub actuals) = roots actuals
roots (Image t e) = roots e
roots (Parens e) = roots e
roots (Unary op e) = roots e
roots (Binary op a b) = roots a ++ roots b
roots (Short op p a q b) = roots a ++ roots b
roots (IsNull equal e) = roots e
roots (Aggregate t parts) = roots parts
roots (Alike t e) = roots e
roots (New t v) = roots v
roots (typed.More e rest) = roots e ++ roots rest
roots _ = []

-- Each of some objects is in scope, or is as asked: one of a package.
abbrev pub are_seen : (ℕ → Bool) → List ℕ → List ℕ → Bool
are_seen outer scope xs = list_all (λ x. is_within x scope || outer x) xs

-- What code names is in scope where it stands: it was declared before, in what stands around it.
unfoldable mutual
  pub is_seen : (ℕ → Bool) → List ℕ → TypedCode → Bool
  is_seen outer scope (typed.Declare p x v) = are_seen outer scope (roots v)
  is_seen outer scope (typed.Assign p target e) = are_seen outer scope (roots e) && are_seen outer scope (roots target)
  is_seen outer scope (typed.Call p sub actuals) = are_seen outer scope (roots actuals)
  is_seen outer scope (typed.Output p text line) = are_seen outer scope (roots text)
  is_seen outer scope (typed.Input p target) = are_seen outer scope (roots target)
  is_seen outer scope (typed.Release p m) = are_seen outer scope (roots m)
  is_seen outer scope (typed.If branches otherwise) = is_each_seen outer scope branches && is_seen outer scope otherwise
  is_seen outer scope (typed.Branch p e stmts) = are_seen outer scope (roots e) && is_seen outer scope stmts
  is_seen outer scope (typed.Case p e whens) = are_seen outer scope (roots e) && is_each_seen outer scope whens
  is_seen outer scope (typed.When choices stmts) = is_seen outer scope stmts
  is_seen outer scope (typed.Loop stmts) = is_seen outer scope stmts
  is_seen outer scope (typed.While p e stmts) = are_seen outer scope (roots e) && is_seen outer scope stmts
  is_seen outer scope (typed.For p x reversed low high stmts) =
      (are_seen outer scope (roots low) && are_seen outer scope (roots high)) && is_seen outer (x ∷ scope) stmts
  is_seen outer scope (typed.Exit p e) = are_seen outer scope (roots e)
  is_seen outer scope (typed.Return p v) = are_seen outer scope (roots v)
  is_seen outer scope (typed.Block n stmts end) = is_seen outer scope stmts
  is_seen outer scope (typed.More a rest) = is_seen outer scope a && is_seen outer (reverse (declared a) ++ scope) rest
  is_seen outer scope _ = true

  -- Branches and alternatives, each for itself.
  pub is_each_seen : (ℕ → Bool) → List ℕ → TypedCode → Bool
  is_each_seen outer scope (typed.More a rest) = is_seen outer scope a && is_each_seen outer scope rest
  is_each_seen outer scope _ = true

-- The formals are in scope in all of a body.
abbrev pub body_seen : (ℕ → Bool) → TypedSub → Bool
body_seen outer sub = is_seen outer (reverse sub.formals) sub.body
