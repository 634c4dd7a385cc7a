-- What a call shows of package objects to formals that own nothing is lent to these.
use Rattle.std.proofs.Common.{◌≡◌, refl, sym, subst, inl, inr, ℕ, Bool, true, false, ◌&&◌, List, [], ◌∷◌, get_or, if◌then◌else◌, ap}
use Rattle.std.specs.Prelude.{flat_map}
use Rattle.std.proofs.lemmas.Bool.{false≢true}
use Rattle.machine.specs.spark_base.Lists.{Has}
use Rattle.soundness.proofs.Lists.{Has-append_cases}
use Rattle.machine.specs.place_names.declared.fact.Fact.{Fact}
use Rattle.machine.specs.place_names.declared.fact.Fact.TheVariants.{Moved, Lent}
use Rattle.machine.specs.place_names.declared.rule.Loan.{Loan}
use Rattle.machine.specs.place_names.Names.{Name as PlaceName}
use Rattle.machine.specs.flow_paths.Instructions.{Instruction, Call}
use Rattle.machine.specs.flow_paths.Objects.{Typing, is_package_object}
use Rattle.machine.specs.flow_paths.Laid.{FlowSub, FlowProgram, flow_typing}
use Rattle.machine.specs.flow_paths.Aliases as alias
use Rattle.machine.specs.States.{sub_of}
use Rattle.machine.specs.Run.{no_point}
use Rattle.soundness.specs.ViewedSoundness.Holds.{is_given}
use Rattle.viewed_steps.specs.Sound.{lent_to, shown_one, shown_by, shown_after}
use Rattle.viewed_steps.proofs.Whole.{flat_has}
use Rattle.viewed_steps.proofs.Constructors.{is_lent_fact}

both : (a b : Bool) → a && b ≡ true → (a ≡ true) × (b ≡ true)
both true b e = (refl, e)
both false b e = absurd (false≢true e)

-- What is shown: a name that is rooted in a package object, to such a formal.
pub record IsShownOf (s : Typing) (all : List alias.Passed) (f : Fact) : Type 0 where
  pub passed : alias.Passed
  pub has : Has all passed
  pub formal : is_given s passed.formal ≡ true
  pub shared : is_package_object s passed.actual.name.root ≡ true
  pub is : f ≡ Lent (lent_to s passed.formal) passed.formal passed.actual.name

pub one_shown : (s : Typing) (b : alias.Passed) → is_given s b.formal ≡ true → is_package_object s b.actual.name.root ≡ true
    → Has (shown_one s b) (Lent (lent_to s b.formal) b.formal b.actual.name)
unfolding shown_one
one_shown s b formal shared =
    subst (λ z. Has (if z then Lent (lent_to s b.formal) b.formal b.actual.name ∷ [] else []) (Lent (lent_to s b.formal) b.formal b.actual.name)) (sym (λ j. formal j && shared j)) (inl refl)

pub one_is : (s : Typing) (b : alias.Passed) (f : Fact) → Has (shown_one s b) f
    → (is_given s b.formal ≡ true) × (is_package_object s b.actual.name.root ≡ true) × (f ≡ Lent (lent_to s b.formal) b.formal b.actual.name)
unfolding shown_one
one_is s b f has = by_test (is_given s b.formal && is_package_object s b.actual.name.root) refl has
  where
    by_test : (z : Bool) → is_given s b.formal && is_package_object s b.actual.name.root ≡ z
        → Has (if z then Lent (lent_to s b.formal) b.formal b.actual.name ∷ [] else []) f
        → (is_given s b.formal ≡ true) × (is_package_object s b.actual.name.root ≡ true) × (f ≡ Lent (lent_to s b.formal) b.formal b.actual.name)
    by_test true e (inl same) = (let parts = both (is_given s b.formal) (is_package_object s b.actual.name.root) e in (parts.0, parts.1, sym same))
    by_test true e (inr none) = absurd none
    by_test false e none = absurd none

pub all_shown : (s : Typing) (all : List alias.Passed) (b : alias.Passed) → Has all b → is_given s b.formal ≡ true
    → is_package_object s b.actual.name.root ≡ true → Has (flat_map (shown_one s) all) (Lent (lent_to s b.formal) b.formal b.actual.name)
all_shown s all b has formal shared = flat_has (shown_one s) all b (Lent (lent_to s b.formal) b.formal b.actual.name) has (one_shown s b formal shared)

pub all_are : (s : Typing) (all : List alias.Passed) (f : Fact) → Has (flat_map (shown_one s) all) f → IsShownOf s all f
all_are s [] f has = absurd has
all_are s (b ∷ rest) f has = elim (Has-append_cases (shown_one s b) (flat_map (shown_one s) rest) f has) [
  | inl first ↦ (let is = one_is s b f first in record { passed = b; has = inl refl; formal = is.0; shared = is.1; is = is.2 })
  | inr later ↦ (let found = all_are s rest f later in
      record { passed = found.passed; has = inr found.has; formal = found.formal; shared = found.shared; is = found.is })
]

-- So it is lent, at a package object.
abbrev pub IsLoan : Typing → Fact → Type 0
IsLoan s f = (l : Loan) × (h : ℕ) × (n : PlaceName) × (f ≡ Lent l h n) × (is_package_object s n.root ≡ true)

by_are : (program : FlowProgram) (i : Instruction) (f : Fact) → Has (shown_by program i) f → IsLoan (flow_typing program) f
by_are program (Call n actuals result) f has =
    let found = all_are (flow_typing program) (alias.passed (sub_of program n).formals actuals) f has in
    (lent_to (flow_typing program) (found.passed).formal, (found.passed).formal, (found.passed).actual.name, found.is, found.shared)
by_are program i f has = absurd has

pub after_are : (program : FlowProgram) (sub : FlowSub) (before : List ℕ) (f : Fact) → Has (shown_after program sub before) f → IsLoan (flow_typing program) f
after_are program sub [] f has = absurd has
after_are program sub (p ∷ before) f has = by_are program (get_or sub.points p no_point).instr f has

-- nothing of it is moved
pub none_moved : (program : FlowProgram) (sub : FlowSub) (before : List ℕ) (n : PlaceName) → Has (shown_after program sub before) (Moved n) → ⊥
none_moved program sub before n has = (let (l, h, m, is, shared) = after_are program sub before (Moved n) has in let no : Moved n ≡ Lent l h m = is in absurd (false≢true (ap is_lent_fact no)))
