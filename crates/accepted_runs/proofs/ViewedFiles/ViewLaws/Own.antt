-- What the instructions of a body name is of a package, or its own.
use Rattle.std.proofs.Common.{◌≡◌, sym, ◌∙◌, subst, ◌⊎◌, inl, inr, ℕ, Bool, true, false}
use Rattle.std.specs.Prelude.{filter}
use Rattle.std.proofs.lemmas.Bool.{false≢true}
use Rattle.machine.specs.spark_base.Lists.{Has}
use Rattle.soundness.proofs.Lists.{Has-append_cases, Has-filter}
use Rattle.machine.specs.type_definitions.Types.{Table}
use Rattle.machine.specs.typed_tree.Programs.{TypedProgram}
use Rattle.machine.specs.flow_paths.declared.report.Effects.{Effects}
use Rattle.machine.specs.flow_paths.Objects.{Typing, is_formal, is_package_object}
use Rattle.machine.specs.flow_paths.Points.{NamedPoint}
use Rattle.machine.specs.flow_paths.Laid.{NamedSub, declared_within, sub_points, flow_typing, flow_program, flow_named, typing_of}
use Rattle.machine.specs.flow_paths.Scopes.{is_within}
use Rattle.soundness.proofs.Typings.{formal_same}
use Rattle.settled_types.specs.OrderLaws.ScopeLaws.Code.{objects_of}
use Rattle.settled_types.specs.OrderLaws.ScopeLaws.Order.{named_in}
use Rattle.settled_types.specs.OrderLaws.ScopeLaws.Supplied.{IsKept}
use Rattle.settled_types.proofs.OrderLaws.ScopeLaws.Lists.{within_has, all_has}
use Rattle.settled_types.proofs.OrderLaws.ScopeLaws.Kept.{sub_kept}
use Rattle.settled_types.proofs.OrderLaws.ReadyLaws.Subs.{setting_from, IsOfBody}
use Rattle.settled_types.proofs.OrderLaws.ReadyLaws.Ready.{seen_has}
use Rattle.accepted_runs.specs.ViewedFiles.ViewLaws.Program.{IsViewProgram}
use Rattle.accepted_runs.proofs.ViewedFiles.ViewLaws.Scoped as scoped
use Rattle.accepted_runs.proofs.ViewedFiles.ViewLaws.Valued as valued
use Rattle.accepted_runs.proofs.ViewedFiles.ViewLaws.Formals.{has_within}

module _ (table : Table) (typed : TypedProgram) (effects : Effects) (given : IsViewProgram table typed effects) (named : NamedSub)
    (has : Has (flow_named table typed) named) (inside : Has (valued.bodies table typed effects given) named) where
  abbrev s : Typing
  s = flow_typing (flow_program table typed)

  abbrev own : Typing
  own = typing_of table typed

  body : IsOfBody own given.order.rest named
  body = valued.body table typed effects given named has inside

  -- what lasts: the objects of the body
  abbrev keep : ℕ → Bool
  keep x = is_within x (objects_of (body.0))

  kept_there : (p : NamedPoint) → Has named.points p → IsKept (is_package_object own) keep p
  kept_there p there =
      all_has (IsKept (is_package_object own) keep) (sub_points (setting_from own (body.2) (body.0)) (body.0)) p
      (sub_kept (is_package_object own) keep (setting_from own (body.2) (body.0)) (body.0) (λ x object. has_within x (objects_of (body.0)) object)
      (given.order.local (body.0) (body.1)).seen)
      (subst (λ (z : NamedSub). Has z.points p) (sym (body.4)) there)

  -- What its instructions name is an object of a package, or one of its own.
  pub objects_own : (p : NamedPoint) → Has named.points p → (x : ℕ) → Has (named_in p.instr) x → (is_package_object own x ≡ true) ⊎ Has (objects_of named.sub) x
  objects_own p there x names = elim (seen_has (is_package_object own) (filter keep p.scope) (named_in p.instr) x (kept_there p there) names) [
    | inl outer ↦ inl outer
    | inr within ↦ inr (subst (λ (z : NamedSub). Has (objects_of z.sub) x) (body.4)
        (within_has x (objects_of (body.0)) (Has-filter keep p.scope x (within_has x (filter keep p.scope) within)).1))
  ]

  pub formals_own : (p : NamedPoint) → Has named.points p → (x : ℕ) → Has (named_in p.instr) x → is_formal s x ≡ true → Has named.sub.formals x
  formals_own p there x names formal = elim (objects_own p there x names) [
    | inl outer ↦ absurd (let no : false ≡ true = sym (given.views.apart x mine) ∙ outer in false≢true no)
    | inr object ↦ elim (Has-append_cases named.sub.formals (declared_within named.sub.body) x object) [
      | inl first ↦ first
      | inr declared ↦ absurd (
          let there_too : Has (declared_within (body.0).body) x = subst (λ (z : NamedSub). Has (declared_within z.sub.body) x) (sym (body.4)) declared in
          let no : false ≡ true = sym (given.views.declared (body.0) (scoped.in_subs table typed effects given (body.0) (body.1)) x there_too) ∙ mine in absurd (false≢true no))
    ]
  ]
    where
      mine : is_formal own x ≡ true
      mine = sym (formal_same s own (scoped.alike table typed effects given) x) ∙ formal
