-- A borrower that only sees goes back to a formal of its function.
use Rattle.std.proofs.Common.{◌≡◌, refl, sym, ap, ◌∙◌, subst, inl, inr, ℕ, zero, suc, true, false, map, None}
use Rattle.std.proofs.lemmas.Bool.{false≢true}
use Rattle.machine.specs.spark_base.Lists.{Has}
use Rattle.soundness.proofs.Lists.{Has-map}
use Rattle.machine.specs.place_names.declared.act.Act.TheVariants as act
use Rattle.machine.specs.place_names.declared.act.Placed.{Placed}
use Rattle.machine.specs.place_names.Names.{Name as PlaceName}
use Rattle.machine.specs.type_definitions.Types.{Table}
use Rattle.machine.specs.typed_tree.declared.object.ObjectKind.{ObjectKind}
use Rattle.machine.specs.typed_tree.declared.object.ObjectKind.TheVariants as object_kind
use Rattle.machine.specs.typed_tree.Programs.{TypedProgram}
use Rattle.machine.specs.flow_paths.declared.report.Effects.{Effects}
use Rattle.machine.specs.flow_paths.Objects.{Typing, object_at, is_variable, is_borrower, is_observer, is_formal, is_formal_kind}
use Rattle.machine.specs.flow_paths.Laid.{FlowProgram, NamedSub, flow_sub, typing_of, flow_typing, flow_program}
use Rattle.machine.specs.flow_paths.Views.{Roots, borrows, is_function, lends, sub_acts}
use Rattle.machine.specs.Owners.{is_in}
use Rattle.soundness.proofs.Points.{flow_at}
use Rattle.soundness.proofs.Typings.{package_same}
use Rattle.settled_types.specs.OrderLaws.ScopeLaws.Code.{objects_of}
use Rattle.soundness.specs.ViewedSoundness.Holds.{is_given, is_exclusive, sees_only}
use Rattle.viewed_steps.specs.Seeing.{sees_within, program_acts, sees_in}
use Rattle.viewed_steps.proofs.Sees.{from_within, zero_within, kind_within, within_seen}
use Rattle.viewed_steps.proofs.Rooted.{formal_root}
use Rattle.accepted_runs.specs.ViewedFiles.ViewLaws.Program.{IsViewProgram}
use Rattle.accepted_runs.proofs.ViewedFiles.ViewLaws.Reports.{not_observed}
use Rattle.accepted_runs.proofs.ViewedFiles.ViewLaws.Scoped as scoped
use Rattle.accepted_runs.proofs.ViewedFiles.ViewLaws.Valued as valued
use Rattle.accepted_runs.proofs.ViewedFiles.ViewLaws.Own as own_formals
use Rattle.accepted_runs.proofs.ViewedFiles.ViewLaws.Points as points
use Rattle.accepted_runs.proofs.ViewedFiles.ViewLaws.Changed as acted
use Rattle.accepted_runs.proofs.ViewedFiles.ViewLaws.Changed.{both_first, seen_one}
use Rattle.accepted_runs.proofs.ViewedFiles.ViewLaws.Sees as sights
use Rattle.accepted_runs.proofs.ViewedFiles.ViewLaws.Sees.{borrower_anonymous, borrower_plain}
use Rattle.soundness.proofs.Parted.{by_either}

no_variable : (k : ObjectKind) → is_formal_kind k ≡ true → is_variable k ≡ false
no_variable object_kind.Formal is = refl
no_variable k is = absurd (false≢true is)

module _ (table : Table) (typed : TypedProgram) (effects : Effects) (given : IsViewProgram table typed effects) where
  abbrev program : FlowProgram
  program = flow_program table typed

  abbrev s : Typing
  s = flow_typing program

  abbrev own : Typing
  own = typing_of table typed

  -- Its text is that of a function, and a root of it is a formal.
  abbrev pub GoesBack : NamedSub → ℕ → Type 0
  GoesBack named x = (is_function (flow_sub own named) ≡ true) × (r : ℕ) × Roots s (sub_acts (flow_sub own named)) x r × (is_formal s r ≡ true)

  -- Where a borrower is declared from what sees, it goes back if that is a borrower that does.
  module _ (x : ℕ) (m : PlaceName) (b : sights.IsBorrowed table typed effects given x m) where
    inside : Has (valued.bodies table typed effects given) b.named
    inside = sights.inside table typed effects given x m b

    act_there : Has (sub_acts (flow_sub own b.named)) (act.Borrow x m)
    act_there =
        sights.act_of_sub table typed effects given b.named b.has b.point b.there (act.Borrow x m)
        (subst (Has (map (λ (a : Placed). a.act) (flow_at own b.named b.point).acts)) b.is (Has-map (λ (a : Placed). a.act) (flow_at own b.named b.point).acts b.act_is b.act_there))

    -- what it is declared from is an object of its text, if it is no object of a package
    source_there : is_borrower s m.root ≡ true → Has (objects_of b.named.sub) m.root
    source_there borrower =
        elim (own_formals.objects_own table typed effects given b.named b.has inside b.point b.there m.root
        (acted.lent_named table typed effects given b.named b.has b.point b.there b.act_is b.act_there m (ap lends b.is))) [
          | inr object ↦ object
          | inl outer ↦ absurd (
              let no : false ≡ true =
              sym (scoped.local table typed effects given m.root (borrower_anonymous s m.root borrower)) ∙ package_same s own (scoped.alike table typed effects given) m.root ∙ outer in cc)
        ]

    from_formal : sees_only s m.root ≡ true → GoesBack b.named x
    from_formal only =
        let none = not_observed program effects given.accepted.no_reports (flow_sub own b.named) (scoped.in_program table typed effects given b.named b.has)
        (points.formals_known table typed effects given b.named b.has (sights.body table typed effects given x m b)) (flow_at own b.named b.point)
        (scoped.in_sub table typed effects given b.named b.has b.point b.there) b.act_is b.act_there x m b.is in
        let one = seen_one (is_observer s m.root) (is_given s m.root) (is_exclusive s m.root) none only in
        let formal : is_formal s m.root ≡ true = both_first (is_formal s m.root) (is_in (object_at s m.root).mode) (acted.given_formal table typed effects given m.root one.0) in (
          acted.borrow_function table typed effects given b.named b.has b.point b.there b.act_is b.act_there x m b.is one.0 one.1,
          m.root,
          borrows x m.root m act_there (formal_root s (sub_acts (flow_sub own b.named)) 0 None m.root (no_variable (object_at s m.root).kind formal)),
          formal,
        )

    from_borrower : GoesBack b.named m.root → GoesBack b.named x
    from_borrower back = (back.0, back.1, borrows x back.1 m act_there back.2, back.3)

  back_within : (steps x : ℕ) → sees_within steps s (program_acts program) x ≡ true → is_borrower s x ≡ true → (named : NamedSub) → Has (valued.bodies table typed effects given) named
      → Has (objects_of named.sub) x → GoesBack named x
  back_within zero x sees borrower named in_bodies object =
      absurd (let no : false ≡ true = sym (borrower_plain s x borrower) ∙ zero_within s (program_acts program) x sees in false≢true no)
  back_within (suc steps) x sees borrower named in_bodies object = by_either (from_within s (program_acts program) steps x sees)
      (λ only. (absurd (let no : false ≡ true = sym (borrower_plain s x borrower) ∙ only in false≢true no)))
      (λ (is, m, has, from). (
      let b = sights.borrowed_here table typed effects given x m has in
      let same : b.named ≡ named =
      sights.one_body table typed effects given b.named named (inside x m b) in_bodies x (sights.object_there table typed effects given x m b) object in
      subst (λ z. GoesBack z x) same (by_either (kind_within s (program_acts program) steps m.root from)
      (λ only. (from_formal x m b only))
      (λ borrowed. (from_borrower x m b (back_within steps m.root from borrowed b.named (inside x m b) (source_there x m b borrowed)))))))

  pub goes_back : (x : ℕ) → sees_in program x ≡ true → is_borrower s x ≡ true → (named : NamedSub) → Has (valued.bodies table typed effects given) named
      → Has (objects_of named.sub) x → GoesBack named x
  goes_back x sees = back_within x x (within_seen program x sees)
