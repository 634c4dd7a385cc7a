-- What is found in one part after another.
use Rattle.std.proofs.Common.{◌≡◌, ◌||◌, Bool, true, false, refl, sym, ap, ◌∙◌}
use Rattle.deep_names.specs.declared.depths.Depths.{Depths as Found}
use Rattle.deep_names.specs.Turns.{both_of, no_names}
use Rattle.deep_names.proofs.Earlier.{earlier_none, earlier_group}

or_group : (a b c : Bool) → ((a || b) || c) ≡ (a || (b || c))
or_group true b c = refl
or_group false b c = refl

or_none : (a : Bool) → (a || false) ≡ a
or_none true = refl
or_none false = refl

pub both_group : (a b c : Found) → both_of (both_of a b) c ≡ both_of a (both_of b c)
both_group a b c = λ i. record {
  calls = or_group a.calls b.calls c.calls i;
  before = earlier_group a.before b.before c.before i;
  all = earlier_group a.all b.all c.all i;
}

pub both_none : (a : Found) → both_of a no_names ≡ a
both_none a = λ i. record { calls = or_none a.calls i; before = earlier_none a.before i; all = earlier_none a.all i }

pub both_step : (found a b here whole own made : Found) → made ≡ both_of found own → own ≡ a → here ≡ both_of a b
    → both_of found here ≡ whole → both_of made b ≡ whole
both_step found a b here whole own made is part turn all =
    ap (λ x. both_of x b) (is ∙ ap (both_of found) part) ∙ both_group found a b ∙ ap (both_of found) (sym turn) ∙ all
