-- What facts are left after acts.
use Rattle.std.proofs.Common.{◌≡◌, refl, ap, inl, inr, false, not, List, [], ◌∷◌}
use Rattle.std.specs.List.{filter}
use Rattle.machine.specs.spark_base.Lists.{Has}
use Rattle.spark_base.proofs.Lists.{Has-append_left, Has-append_right, Has-append_cases, Has-filter, Has-filter_passes}
use Rattle.machine.specs.place_names.declared.act.Act.{Act}
use Rattle.machine.specs.place_names.declared.fact.Fact.{Fact}
use Rattle.machine.specs.place_names.Facts.{adds, removes, effect}
use Rattle.soundness.specs.OwnedWays.Ways.{after}

effect_more : (a : Act) (all facts : List Fact) → ((f : Fact) → Has facts f → Has all f) → (f : Fact) → Has (effect a facts) f → Has (effect a all) f
effect_more a all facts more f has = elim (Has-append_cases (filter (λ g. not (removes a g)) facts) (adds a) f has) [
  | inr new ↦ Has-append_right (filter (λ g. not (removes a g)) all) (adds a) f new
  | inl old ↦ (
      let was = Has-filter (λ g. not (removes a g)) facts f old in
      Has-append_left (filter (λ g. not (removes a g)) all) (adds a) f (Has-filter_passes (λ g. not (removes a g)) all f (more f was.0) was.1))
]

-- with more facts before there are no fewer
pub after_more : (acts : List Act) (all facts : List Fact) → ((f : Fact) → Has facts f → Has all f) → (f : Fact) → Has (after acts facts) f → Has (after acts all) f
after_more [] all facts more f has = more f has
after_more (a ∷ acts) all facts more f has = after_more acts (effect a all) (effect a facts) (effect_more a all facts more) f has

-- a fact that no act removes is left
pub after_keeps : (acts : List Act) (facts : List Fact) (f : Fact) → ((a : Act) → Has acts a → removes a f ≡ false) → Has facts f → Has (after acts facts) f
after_keeps [] facts f kept has = has
after_keeps (a ∷ acts) facts f kept has =
    after_keeps acts (effect a facts) f (λ b there. kept b (inr there))
    (Has-append_left (filter (λ g. not (removes a g)) facts) (adds a) f (Has-filter_passes (λ g. not (removes a g)) facts f has (ap not (kept a (inl refl)))))
