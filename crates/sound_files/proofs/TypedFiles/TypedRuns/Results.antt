-- What functions give in the code of a program without a fault of typing is as it is asked for: of scalar types in names and scalar
-- expressions; of types that own nothing in actuals; and of an anonymous access type only where it stands alone.
use Rattle.std.proofs.Common.{◌≡◌, refl, sym, subst, inl, inr, ℕ, Bool, true, false, List, ◌∷◌, Some, None, ap}
use Rattle.std.proofs.lemmas.Bool.{false≢true}
use Rattle.std.specs.Prelude.{is_some}
use Rattle.machine.specs.spark_base.Lists.{Has}
use Rattle.machine.specs.resolved_tree.Trees.{Program}
use Rattle.machine.specs.type_definitions.declared.table.Shape.TheVariants as shape
use Rattle.machine.specs.type_definitions.Types.{shape_of, full, is_scalar}
use Rattle.machine.specs.type_definitions.Entries.{integer, boolean}
use Rattle.machine.specs.type_definitions.Whole.{known_of}
use Rattle.machine.specs.typed_tree.Programs.{TypedSub}
use Rattle.machine.specs.flow_paths.Objects.{Typing, sub_at, traverses, is_anonymous, view_of}
use Rattle.machine.specs.flow_paths.Laid.{typing_of, flow_typing}
use Rattle.machine.specs.flow_paths.Views.{traversed_of}
use Rattle.machine.specs.Words.{component_type, element_type}
use Rattle.soundness.proofs.TypedLaws.Agreeing.{Owns}
use Rattle.settled_types.specs.OrderLaws.ScopeLaws.Code.{Once}
use Rattle.settled_types.specs.OrderLaws.ScopeLaws.Alone.{ResultsFit}
use Rattle.sound_files.specs.TypedFiles.TypedRuns.Code.{IsTypedCode}
use Rattle.sound_files.specs.TypedFiles.TypedRuns.Meant.{typed_in, laid_in, typing_laid}
use Rattle.sound_files.proofs.TypedFiles.TypedRuns.Given.{AreSettled, code_fits}
use Rattle.sound_files.proofs.TypedFiles.TypedRuns.Laid.{laid_typing}

-- Formals of anonymous access types are the first ones of traversal functions.
abbrev pub FirstsTraverse : Typing → Type 0
FirstsTraverse y =
    (n x : ℕ) → Has (sub_at y n).formals x → is_anonymous (view_of y x) ≡ true → traversed_of (traverses y.table (sub_at y n).result) (sub_at y n).formals ≡ Some x

abbrev pub FormalsDiffer : Typing → Type 0
FormalsDiffer y = (n : ℕ) → Once (sub_at y n).formals

first_there : (b : Bool) (x : ℕ) (rest : List ℕ) (z : ℕ) → traversed_of b (x ∷ rest) ≡ Some z → (b ≡ true) × (x ≡ z)
first_there true x rest z is = (refl, (let same : Some x ≡ Some z = is in let one : x ≡ z = cc in one))
first_there false x rest z is = (let never : None ≡ Some z = is in absurd (false≢true (ap is_some never)))

module _ (p : Program) (owns : Owns (known_of p).table) (integers : is_scalar (full (known_of p).table integer) ≡ true) (truths : is_scalar (full (known_of p).table boolean) ≡ true)
    (component : (t i : ℕ) → is_anonymous (full (known_of p).table (component_type (known_of p).table t i)) ≡ false)
    (element : (t : ℕ) → is_anonymous (full (known_of p).table (element_type (known_of p).table t)) ≡ false)
    (designated : (t d : ℕ) (c n : Bool) → shape_of (known_of p).table t ≡ shape.Access d c n → is_anonymous (full (known_of p).table d) ≡ false)
    (firsts_laid : FirstsTraverse (flow_typing (laid_in p))) (differ_laid : FormalsDiffer (flow_typing (laid_in p)))
    (code : (sub : TypedSub) → Has (typed_in p).subs sub → IsTypedCode (typing_laid p) sub.result sub.body) where
  abbrev y : Typing
  y = typing_laid p

  firsts : FirstsTraverse y
  firsts = subst FirstsTraverse (sym (laid_typing (known_of p).table (typed_in p))) firsts_laid

  differ : FormalsDiffer y
  differ = subst FormalsDiffer (sym (laid_typing (known_of p).table (typed_in p))) differ_laid

  firsts_in : (n x : ℕ) (rest : List ℕ) → (sub_at y n).formals ≡ x ∷ rest → (z : ℕ) → Has (x ∷ rest) z → is_anonymous (view_of y z) ≡ true
      → (traverses y.table (sub_at y n).result ≡ true) × (x ≡ z)
  firsts_in n x rest is z has view =
      first_there (traverses y.table (sub_at y n).result) x rest z
      (subst (λ fs. traversed_of (traverses y.table (sub_at y n).result) fs ≡ Some z) is (firsts n z (subst (λ fs. Has fs z) (sym is) has) view))

  settled : AreSettled y
  settled = record {
    owns = owns;
    integers = integers;
    truths = truths;
    component = component;
    element = element;
    designated = designated;
    first = λ n x rest is view. (firsts_in n x rest is x (inl refl) view).0;
    later = λ n x rest is z has. by n x rest is z has (is_anonymous (view_of y z)) refl;
  }
    where
      by : (n x : ℕ) (rest : List ℕ) → (sub_at y n).formals ≡ x ∷ rest → (z : ℕ) → Has rest z → (b : Bool) → is_anonymous (view_of y z) ≡ b → is_anonymous (view_of y z) ≡ false
      by n x rest is z has false plain = plain
      by n x rest is z has true view =
          absurd ((subst Once is (differ n)).0 (subst (Has rest) (sym (firsts_in n x rest is z (inr has) view).1) has))

  -- The law.
  pub results_there : (sub : TypedSub) → Has (typed_in p).subs sub → ResultsFit (typing_of (known_of p).table (typed_in p)) sub.body
  results_there sub has = code_fits y settled sub.result sub.body (code sub has)
