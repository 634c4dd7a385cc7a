-- What code knows of a subprogram is right.
use Rattle.std.specs.Prelude.{◌≡◌, ◌⊎◌, ℕ, List, Option, Some, None, is_some}
use Rattle.spark_base.specs.Lists.{Has}
use Rattle.place_names.specs.Reports.{Report}
use Rattle.typed_tree.specs.Nodes.{TypedNodes}
use Rattle.flow_paths.specs.declared.report.Effects.{Effects}
use Rattle.flow_paths.specs.declared.point.LaidSub.{LaidSub}
use Rattle.flow_paths.specs.Objects.{Typing, traverses}
use Rattle.flow_paths.specs.Acts.{gives_variable}
use Rattle.flow_paths.specs.Laid.{FlowSub, FlowProgram}
use Rattle.flow_paths.specs.Views.{ViewReport, traversed_of}
use Rattle.program_typing.specs.Typings.{typing}
use Rattle.traversal_funcs.specs.declared.lending.Lending.{Lending}
use Rattle.traversal_funcs.specs.declared.questions.Question.TheVariants as question
use Rattle.traversal_funcs.specs.declared.views.Traversed.{Traversed}
use Rattle.traversal_funcs.specs.declared.views.Views.{Views}
use Rattle.traversal_funcs.specs.Lendings.{lendings_of}
use Rattle.traversal_funcs.specs.Searches.{IsRooted}

abbrev pub IsTraversed : Option Traversed → Typing → List Lending → Option ℕ → Type 0
IsTraversed None s lendings formal = formal ≡ None
IsTraversed (Some t) s lendings formal =
    (formal ≡ Some t.formal) × IsRooted t.own s (question.Is t.formal) lendings × IsRooted t.other s (question.IsOther t.formal) lendings

pub record AreViews (v : Views) (s : Typing) (around : List ℕ) (trees : TypedNodes) (sub : LaidSub) : Type 0 where
  pub known : typing v.known ≡ s
  pub scopes : v.scopes.now ≡ around
  pub rows : v.rows.now ≡ trees
  pub function : v.function ≡ is_some sub.result
  pub variable : v.variable ≡ gives_variable s sub.result
  pub outer : IsRooted v.outer s question.IsOuter (lendings_of sub.points)
  pub traversed : IsTraversed v.traversed s (lendings_of sub.points) (traversed_of (traverses s.table sub.result) sub.formals)

-- The reports of a subprogram were added to others.
pub record Adds (program : FlowProgram) (effects : Effects) (sub : FlowSub) (old new : List Report) : Type 0 where
  pub keeps : (r : Report) → Has old r → Has new r
  pub comes : (r : Report) → ViewReport program effects sub r → Has new r
  pub only : (r : Report) → Has new r → Has old r ⊎ ViewReport program effects sub r
