-- Bodies whose objects and scopes have the numbers of their places in the text.
use Rattle.std.specs.Prelude.{◌≡◌, ◌≤◌, ℕ, true, false, List, nat_lt}
use Rattle.machine.specs.spark_base.declared.position.Pos.{Pos}
use Rattle.machine.specs.resolved_tree.Trees.{Code, SubBody}
use Rattle.machine.specs.typed_tree.Expressions.{Site}
use Rattle.machine.specs.typed_tree.Programs.{TypedSub, Home, objects_in, scopes_in, typed_sub}
use Rattle.machine.specs.flow_paths.Objects.{Typing}
use Rattle.settled_types.specs.OrderLaws.ScopeLaws.Code.{body_seen}
use Rattle.settled_types.specs.OrderLaws.Written.{are_declarations, are_statements}
use Rattle.accepted_runs.specs.ViewedFiles.Places.{AreAt, AreAround}

-- What it names is its own, or has a lesser number than its objects.
pub record IsLaidBody (units : List Code) (s : Site) (own : Typing) (scopes : List ℕ) (sub : TypedSub) : Type 0 where
  pub site : Site
  pub same : site.objects ≡ s.objects
  pub level : ℕ
  pub front : Code
  pub items : Code
  pub stmts : Code
  pub end : Pos
  pub is : typed_sub site level front items stmts end ≡ sub
  pub declarations : are_declarations items ≡ true
  pub statements : are_statements false stmts ≡ true
  pub home : Home
  pub around : ℕ
  pub within : around ≤ level
  pub first : ℕ
  pub objects : AreAt s own first (objects_in units home around level (SubBody front items stmts end))
  pub inner : AreAround scopes level (scopes_in around level (SubBody front items stmts end))
  pub seen : body_seen (λ y. nat_lt y first) sub ≡ true
