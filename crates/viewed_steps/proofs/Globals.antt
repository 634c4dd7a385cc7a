-- What is passed of package objects and copied back: the callee uses nothing of the object, and the caller
-- writes it.
use Rattle.std.proofs.Common.{◌≡◌, refl, sym, ap, ◌∙◌, subst, ◌⊎◌, inl, inr, ℕ, Bool, true, false, not, ◌&&◌, ◌||◌, ◌==◌, eq-eqb, List, [], ◌∷◌, map, flat_map, Option, Some, None, is_some, if◌then◌else◌}
use Rattle.std.proofs.lemmas.Bool.{true≢false}
use Rattle.machine.specs.spark_base.Lists.{Has}
use Rattle.soundness.proofs.Lists.{Has-append_left, Has-append_right, Has-append_cases}
use Rattle.machine.specs.place_names.declared.act.Act.TheVariants as act
use Rattle.machine.specs.place_names.declared.act.Mode.{Mode}
use Rattle.machine.specs.place_names.declared.act.Mode.TheVariants as mode
use Rattle.machine.specs.place_names.declared.act.Placed.{Placed}
use Rattle.machine.specs.place_names.declared.rule.Rule.TheVariants.{A2}
use Rattle.machine.specs.type_definitions.Types.{is_owning}
use Rattle.machine.specs.typed_tree.Trees.{TypedTree, More}
use Rattle.machine.specs.flow_paths.declared.report.Effects.{Effects}
use Rattle.machine.specs.flow_paths.Instructions.{Call}
use Rattle.machine.specs.flow_paths.Objects.{Typing, Signature, object_at, sub_at, is_package_object, is_named_access, is_variable_access, view_of, passing, passing_by, Place}
use Rattle.machine.specs.flow_paths.Names.{Written, written}
use Rattle.machine.specs.flow_paths.Acts.{naming, actual_act, actual_acts}
use Rattle.machine.specs.flow_paths.Effects.{is_in, read_by, written_by, act_writes}
use Rattle.machine.specs.flow_paths.Views.{is_in_mode, text_report}
use Rattle.machine.specs.flow_paths.Points.{FlowPoint}
use Rattle.machine.specs.flow_paths.Laid.{FlowSub, FlowProgram, flow_typing}
use Rattle.machine.specs.flow_paths.Reports.{AreReports}
use Rattle.machine.specs.flow_paths.Aliases as alias
use Rattle.machine.specs.flow_paths.Aliases.{meets_global, global_reports, overlap_reports, passed_reports, call_reports}
use Rattle.machine.specs.States.{sub_of}
use Rattle.soundness.specs.Sound.{Uses}
use Rattle.soundness.proofs.Passing.{signature_is}
use Rattle.soundness.proofs.Used.{any_has}
use Rattle.viewed_steps.specs.Sound.{IsCopiedBack}
use Rattle.viewed_steps.proofs.Cells.{passed_formal}
use Rattle.viewed_steps.proofs.Passed.{no_call_reports}
use Rattle.viewed_steps.proofs.Whole.{flat_has}
use Rattle.soundness.proofs.Parted.{by_either}

either_of : (a b : Bool) → (a ≡ true) ⊎ (b ≡ true) → a || b ≡ true
either_of true b e = refl
either_of false b (inl e) = cc
either_of false b (inr e) = e

module _ (program : FlowProgram) (effects : Effects) where
  abbrev s : Typing
  s = flow_typing program

  not_immutable : (x : ℕ) → IsCopiedBack s x → not (alias.is_immutable s x) ≡ true
  not_immutable x back = by_mode (object_at s x).mode back
    where
      by_mode : (m : Mode) → (m ≡ mode.In → ⊥) → not (is_in_mode m && not (is_variable_access (view_of s x))) ≡ true
      by_mode mode.In is = absurd (is refl)
      by_mode mode.Out is = refl
      by_mode mode.InOut is = refl

  -- what the callee uses is reported
  used_report : (n : ℕ) (b : alias.Passed) → not (alias.is_immutable s b.formal) ≡ true → is_package_object s b.actual.name.root ≡ true → Uses effects n b.actual.name.root
      → Has (global_reports s effects n b) (text_report b.actual.pos A2 b.actual.name)
  used_report n b mutable shared uses =
      let g : ℕ = b.actual.name.root in
      let used : is_in g (read_by effects n) || is_in g (written_by effects n) ≡ true =
      either_of (is_in g (read_by effects n)) (is_in g (written_by effects n)) (elim uses [
        | inl reads ↦ inl (any_has (λ y. g == y) (read_by effects n) g reads (eq-eqb g g refl))
        | inr writes ↦ inr (any_has (λ y. g == y) (written_by effects n) g writes (eq-eqb g g refl))
      ]) in
      let meets : meets_global s (is_in g (read_by effects n)) (is_in g (written_by effects n)) b.formal ≡ true =
      either_of ((is_in g (read_by effects n) || is_in g (written_by effects n)) && not (alias.is_immutable s b.formal)) _
      (inl ((λ j. used j && mutable j))) in
      subst (λ z. Has (if z then text_report b.actual.pos A2 b.actual.name ∷ [] else []) (text_report b.actual.pos A2 b.actual.name))
      (sym (λ j. shared j && meets j)) (inl refl)

  -- and so is what it writes, but for scalars
  written_report : (n : ℕ) (b : alias.Passed) → alias.is_scalar_formal s b.formal ≡ false → is_package_object s b.actual.name.root ≡ true
      → Has (written_by effects n) b.actual.name.root → Has (global_reports s effects n b) (text_report b.actual.pos A2 b.actual.name)
  written_report n b many shared writes =
      let g : ℕ = b.actual.name.root in
      let written : is_in g (written_by effects n) ≡ true = any_has (λ y. g == y) (written_by effects n) g writes (eq-eqb g g refl) in
      let meets : meets_global s (is_in g (read_by effects n)) (is_in g (written_by effects n)) b.formal ≡ true =
      either_of ((is_in g (read_by effects n) || is_in g (written_by effects n)) && not (alias.is_immutable s b.formal)) _
      (inr ((λ j. written j && not (many j)))) in
      subst (λ z. Has (if z then text_report b.actual.pos A2 b.actual.name ∷ [] else []) (text_report b.actual.pos A2 b.actual.name))
      (sym (λ j. shared j && meets j)) (inl refl)

  -- Nor one that is shown to a formal of a procedure that changes it.
  unreported : AreReports program effects [] → (sub : FlowSub) → Has program.subs sub → (p : FlowPoint) → Has sub.points p
      → (n : ℕ) (actuals : TypedTree) (result : Option ℕ) → p.instr ≡ Call n actuals result → is_some (sub_of program n).result ≡ is_some result
      → (sub_of program n).result ≡ None
      → (b : alias.Passed) → Has (alias.passed (sub_of program n).formals actuals) b → Has (global_reports s effects n b) (text_report b.actual.pos A2 b.actual.name) → ⊥
  unreported none sub in_program p in_sub n actuals result e answers given b has reported =
      no_call_reports program effects none sub in_program p in_sub (text_report b.actual.pos A2 b.actual.name)
      (subst (λ i. Has (call_reports s effects i) (text_report b.actual.pos A2 b.actual.name)) (sym e)
      (subst (λ z. Has z (text_report b.actual.pos A2 b.actual.name)) (sym (reports_are result (sym answers ∙ ap is_some given)))
      (subst (λ (z : Signature). Has (if is_some z.result then [] else passed_reports s effects n (alias.passed z.formals actuals)) (text_report b.actual.pos A2 b.actual.name))
      (sym (signature_is program n))
      (subst (λ z. Has (if is_some z then [] else passed_reports s effects n (alias.passed (sub_of program n).formals actuals)) (text_report b.actual.pos A2 b.actual.name)) (sym given)
      (Has-append_right (overlap_reports s (alias.passed (sub_of program n).formals actuals))
      (flat_map (global_reports s effects n) (alias.passed (sub_of program n).formals actuals)) (text_report b.actual.pos A2 b.actual.name)
      (flat_has (global_reports s effects n) (alias.passed (sub_of program n).formals actuals) b (text_report b.actual.pos A2 b.actual.name) has reported))))))
    where
      reports_are : (o : Option ℕ) → is_some o ≡ false → call_reports s effects (Call n actuals o)
          ≡ (if is_some (sub_at s n).result then [] else passed_reports s effects n (alias.passed (sub_at s n).formals actuals))
      reports_are None no_result = refl
      reports_are (Some of) no_result = absurd (true≢false no_result)

  pub changed_unused : AreReports program effects [] → (sub : FlowSub) → Has program.subs sub → (p : FlowPoint) → Has sub.points p
      → (n : ℕ) (actuals : TypedTree) (result : Option ℕ) → p.instr ≡ Call n actuals result → is_some (sub_of program n).result ≡ is_some result
      → (sub_of program n).result ≡ None
      → (b : alias.Passed) → Has (alias.passed (sub_of program n).formals actuals) b → not (alias.is_immutable s b.formal) ≡ true
      → is_package_object s b.actual.name.root ≡ true → Uses effects n b.actual.name.root → ⊥
  changed_unused none sub in_program p in_sub n actuals result e answers given b has mutable shared uses =
      unreported none sub in_program p in_sub n actuals result e answers given b has (used_report n b mutable shared uses)

  -- Nor does it write one that is shown to a formal that isn't scalar.
  pub shown_unwritten : AreReports program effects [] → (sub : FlowSub) → Has program.subs sub → (p : FlowPoint) → Has sub.points p
      → (n : ℕ) (actuals : TypedTree) (result : Option ℕ) → p.instr ≡ Call n actuals result → is_some (sub_of program n).result ≡ is_some result
      → (sub_of program n).result ≡ None
      → (b : alias.Passed) → Has (alias.passed (sub_of program n).formals actuals) b → alias.is_scalar_formal s b.formal ≡ false
      → is_package_object s b.actual.name.root ≡ true → Has (written_by effects n) b.actual.name.root → ⊥
  shown_unwritten none sub in_program p in_sub n actuals result e answers given b has many shared writes =
      unreported none sub in_program p in_sub n actuals result e answers given b has (written_report n b many shared writes)

  -- The callee uses no package object that is passed to be copied back to.
  pub passed_unused : AreReports program effects [] → (sub : FlowSub) → Has program.subs sub → (p : FlowPoint) → Has sub.points p
      → (n : ℕ) (actuals : TypedTree) (result : Option ℕ) → p.instr ≡ Call n actuals result → is_some (sub_of program n).result ≡ is_some result
      → ((t : ℕ) → (sub_at s n).result ≡ Some t → (x : ℕ) → Has (sub_at s n).formals x → (object_at s x).mode ≡ mode.In)
      → (b : alias.Passed) → Has (alias.passed (sub_of program n).formals actuals) b → IsCopiedBack s b.formal → is_package_object s b.actual.name.root ≡ true
      → Uses effects n b.actual.name.root → ⊥
  passed_unused none sub in_program p in_sub n actuals result e answers modes b has back shared uses = by_result (sub_of program n).result refl
    where
      by_result : (o : Option ℕ) → (sub_of program n).result ≡ o → ⊥
      by_result (Some of) given =
          back (modes of (ap (λ (z : Signature). z.result) (signature_is program n) ∙ given) b.formal
          (subst (λ z. Has z b.formal) (sym (ap (λ (z : Signature). z.formals) (signature_is program n))) (passed_formal (sub_of program n).formals actuals b has)))
      by_result None given = changed_unused none sub in_program p in_sub n actuals result e answers given b has (not_immutable b.formal back) shared uses

-- ---- the act of such an actual

module _ (s : Typing) (procedure : Bool) where
  one_act : (x : ℕ) (e : TypedTree) (b : alias.Passed) → Has (alias.passed_as x (written e)) b → IsCopiedBack s b.formal
      → (a : Placed) × Has (actual_act (passing s procedure x) e) a × (act_writes b.actual.name.root a.act ≡ true)
  one_act x e b has back = by_written (written e) refl has
    where
      -- the act is one of the name
      by_mode : (y : ℕ) (w : Written) (m : Mode) (owning access : Bool) → (m ≡ mode.In → ⊥)
          → (a : Placed) × Has (naming (Some w) (λ k. act.Actual k m owning access)) a × (act_writes w.name.root a.act ≡ true)
      by_mode y w mode.In owning access is = absurd (is refl)
      by_mode y w mode.Out owning access is = (_, inl refl, ap (λ z. z && true) (eq-eqb w.name.root w.name.root refl))
      by_mode y w mode.InOut owning access is = (_, inl refl, ap (λ z. z && true) (eq-eqb w.name.root w.name.root refl))

      placed_by : (w : Written) (m : Mode) (owning access : Bool) → (m ≡ mode.In → ⊥) → written e ≡ Some w
          → (a : Placed) × Has (actual_act (passing_by m owning access) e) a × (act_writes w.name.root a.act ≡ true)
      placed_by w mode.In owning access is at = absurd (is refl)
      placed_by w mode.Out owning access is at =
          subst (λ z. (a : Placed) × Has (naming z (λ k. act.Actual k mode.Out owning access)) a × (act_writes w.name.root a.act ≡ true)) (sym at)
          (by_mode x w mode.Out owning access is)
      placed_by w mode.InOut owning access is at =
          subst (λ z. (a : Placed) × Has (naming z (λ k. act.Actual k mode.InOut owning access)) a × (act_writes w.name.root a.act ≡ true)) (sym at)
          (by_mode x w mode.InOut owning access is)

      by_written : (o : Option Written) → written e ≡ o → Has (alias.passed_as x o) b
          → (a : Placed) × Has (actual_act (passing s procedure x) e) a × (act_writes b.actual.name.root a.act ≡ true)
      by_written None at none = absurd none
      by_written (Some w) at (inr never) = absurd never
      by_written (Some w) at (inl same) =
          let formal : x ≡ b.formal = ap (λ (z : alias.Passed). z.formal) same in
          subst (λ (z : alias.Passed). (a : Placed) × Has (actual_act (passing s procedure x) e) a × (act_writes z.actual.name.root a.act ≡ true)) same
          (placed_by w (object_at s x).mode (is_owning s.table (object_at s x).of) (procedure && is_named_access (view_of s x))
          (λ in_mode. back (ap (λ z. (object_at s z).mode) (sym formal) ∙ in_mode)) at)

  -- ---- that of one that is shown

  shown_act_one : (x : ℕ) (e : TypedTree) (b : alias.Passed) → Has (alias.passed_as x (written e)) b → (object_at s b.formal).mode ≡ mode.In
      → is_owning s.table (object_at s b.formal).of ≡ true
      → (a : Placed) × Has (actual_act (passing s procedure x) e) a × (a.act ≡ act.Actual b.actual.name mode.In true (procedure && is_named_access (view_of s b.formal)))
  shown_act_one x e b has of_in owning = by_written (written e) refl has
    where
      by_written : (o : Option Written) → written e ≡ o → Has (alias.passed_as x o) b
          → (a : Placed) × Has (actual_act (passing s procedure x) e) a × (a.act ≡ act.Actual b.actual.name mode.In true (procedure && is_named_access (view_of s b.formal)))
      by_written None at none = absurd none
      by_written (Some w) at (inr never) = absurd never
      by_written (Some w) at (inl same) =
          let formal : x ≡ b.formal = ap (λ (z : alias.Passed). z.formal) same in
          let access : Bool = procedure && is_named_access (view_of s b.formal) in
          let how : passing s procedure x ≡ Place mode.In true access =
          ap (passing s procedure) formal ∙ (λ j. passing_by (of_in j) (owning j) access) in (
            record { pos = w.pos; act = act.Actual w.name mode.In true access },
            subst (λ z. Has (actual_act z e) (record { pos = w.pos; act = act.Actual w.name mode.In true access })) (sym how)
                (subst (λ z. Has (naming z (λ k. act.Actual k mode.In true access)) (record { pos = w.pos; act = act.Actual w.name mode.In true access })) (sym at) (inl refl)),
            ap (λ (z : alias.Passed). act.Actual z.actual.name mode.In true access) same,
          )

  pub shown_act : (formals : List ℕ) (actuals : TypedTree) (b : alias.Passed) → Has (alias.passed formals actuals) b → (object_at s b.formal).mode ≡ mode.In
      → is_owning s.table (object_at s b.formal).of ≡ true
      → (a : Placed) × Has (actual_acts (map (passing s procedure) formals) actuals) a
      × (a.act ≡ act.Actual b.actual.name mode.In true (procedure && is_named_access (view_of s b.formal)))
  shown_act (x ∷ formals) (More e rest) b has of_in owning =
      by_either (Has-append_cases (alias.passed_as x (written e)) (alias.passed formals rest) b has)
      (λ mine. (
      let one = shown_act_one x e b mine of_in owning in
      (one.0, Has-append_left (actual_act (passing s procedure x) e) (actual_acts (map (passing s procedure) formals) rest) one.0 one.1, one.2)))
      (λ later. (
      let one = shown_act formals rest b later of_in owning in
      (one.0, Has-append_right (actual_act (passing s procedure x) e) (actual_acts (map (passing s procedure) formals) rest) one.0 one.1, one.2)))
  shown_act [] actuals b has of_in owning = absurd has
  shown_act (x ∷ formals) actuals b has of_in owning = absurd has

  pub copied_act : (formals : List ℕ) (actuals : TypedTree) (b : alias.Passed) → Has (alias.passed formals actuals) b → IsCopiedBack s b.formal
      → (a : Placed) × Has (actual_acts (map (passing s procedure) formals) actuals) a × (act_writes b.actual.name.root a.act ≡ true)
  copied_act (x ∷ formals) (More e rest) b has back =
      by_either (Has-append_cases (alias.passed_as x (written e)) (alias.passed formals rest) b has)
      (λ mine. (
      let one = one_act x e b mine back in
      (one.0, Has-append_left (actual_act (passing s procedure x) e) (actual_acts (map (passing s procedure) formals) rest) one.0 one.1, one.2)))
      (λ later. (
      let one = copied_act formals rest b later back in
      (one.0, Has-append_right (actual_act (passing s procedure x) e) (actual_acts (map (passing s procedure) formals) rest) one.0 one.1, one.2)))
  copied_act [] actuals b has back = absurd has
  copied_act (x ∷ formals) actuals b has back = absurd has
