-- The frames around the innermost one. What it can name they have moved only where it is a package
-- object, and then facts say so; so their facts on package objects stand beside its own.
use Rattle.std.proofs.Common.{◌≡◌, sym, ap, ◌∙◌, ◌⊎◌, inl, inr, ℕ, ◌<◌, true, false, ◌==◌, eqb-true, eq-eqb, arith, if◌then◌else◌}
use Rattle.std.proofs.lemmas.Bool.{true≢false}
use Rattle.machine.specs.flow_paths.declared.report.Effects.{Effects}
use Rattle.machine.specs.flow_paths.Objects.{Typing, is_package_object}
use Rattle.machine.specs.flow_paths.Laid.{FlowProgram, flow_typing}
use Rattle.soundness.specs.OwnedWays.Ways.{OfVariable, OfHand, Way, Object, Lost, Into, All, Named, number_of}
use Rattle.soundness.specs.Seen.{home, IsNear}
use Rattle.soundness.proofs.Contents.{bool_cases}

-- ---- near and far

pub same_or_not : (a b : ℕ) → (a ≡ b) ⊎ (a ≡ b → ⊥)
same_or_not a b = elim (bool_cases (a == b)) [
  | inl e ↦ inl (eqb-true a b e)
  | inr e ↦ inr (λ same. (let yes : true ≡ false = sym (eq-eqb a b same) ∙ e in absurd (true≢false yes)))
]

pub near_or_far : (frame : ℕ) (w : Way) → IsNear frame w ⊎ (IsNear frame w → ⊥)
near_or_far frame (Object (OfVariable f x)) = elim (same_or_not f 0) [
  | inl e ↦ inl (inl e)
  | inr other ↦ elim (same_or_not f frame) [
    | inl e ↦ inl (inr e)
    | inr further ↦ inr (λ near. elim near [ inl e ↦ other e | inr e ↦ further e ])
  ]
]
near_or_far frame (Object (OfHand h)) = inl tt
near_or_far frame (Lost n) = inr (λ near. near)
near_or_far frame (Into w i) = near_or_far frame w
near_or_far frame (All w) = near_or_far frame w

-- What is moved elsewhere, and begins in a frame that this one has no name for.
abbrev pub IsFar : ℕ → (Way → Type 0) → Way → Type 0
IsFar frame other w = (IsNear frame w → ⊥) × other w

-- ---- names of package objects

-- A package object has one place for all frames.
pub package_named : (s : Typing) (a b : ℕ) (w : Way) → is_package_object s (number_of w) ≡ true → Named (home s a) w → Named (home s b) w
package_named s a b (Object (OfVariable f x)) shared named =
    named ∙ ap (λ z. if z then 0 else a) shared ∙ sym (ap (λ z. if z then 0 else b) shared)
package_named s a b (Object (OfHand h)) shared named = absurd named
package_named s a b (Lost n) shared named = absurd named
package_named s a b (Into w i) shared named = package_named s a b w shared named
package_named s a b (All w) shared named = package_named s a b w shared named

-- What an older frame names is near a frame only where it is a part of a package object.
pub near_package : (s : Typing) (a b : ℕ) → 0 < a → a < b → (w : Way) → Named (home s a) w → IsNear b w → is_package_object s (number_of w) ≡ true
near_package s a b some less (Object (OfVariable f x)) named near = elim (bool_cases (is_package_object s x)) [
  | inl e ↦ e
  | inr e ↦ (
      let own : f ≡ a = named ∙ ap (λ z. if z then 0 else a) e in
      absurd (elim near [ inl none ↦ omega (arith, some, own, none) | inr same ↦ omega (arith, less, own, same) ]))
]
near_package s a b some less (Object (OfHand h)) named near = absurd named
near_package s a b some less (Lost n) named near = absurd named
near_package s a b some less (Into w i) named near = near_package s a b some less w named near
near_package s a b some less (All w) named near = near_package s a b some less w named near

-- ---- what older frames say of package objects

module _ (program : FlowProgram) (effects : Effects) where
  abbrev s : Typing
  s = flow_typing program
