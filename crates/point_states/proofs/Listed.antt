-- Where a list has each fact that an act adds, it has each fact that some path has.
use Rattle.std.proofs.Common.{refl, subst, inl, inr, ℕ, not, filter, List, [], ◌∷◌}
use Rattle.spark_base.specs.Lists.{Has}
use Rattle.spark_base.proofs.Lists.{Has-append_cases, Has-filter}
use Rattle.place_names.specs.declared.act.Act.{Act}
use Rattle.place_names.specs.declared.fact.Fact.{Fact}
use Rattle.place_names.specs.Facts.{adds, removes, effect, facts_behind}
use Rattle.place_names.proofs.Facts.{facts_behind-append}
use Rattle.flow_paths.specs.Paths.{PathPoint, acts_at, acts_along, facts_before, MayHold}

-- each fact that some acts add is in a list
abbrev pub AreListed : List Fact → List Act → Type 0
AreListed facts acts = (a : Act) (f : Fact) → Has acts a → Has (adds a) f → Has facts f

pub behind_listed : (facts : List Fact) (acts : List Act) (held : List Fact) → AreListed facts acts → ((f : Fact) → Has held f → Has facts f)
    → (f : Fact) → Has (facts_behind held acts) f → Has facts f
behind_listed facts [] held all before f h = before f h
behind_listed facts (a ∷ acts) held all before f h =
    behind_listed facts acts (effect a held) (λ b g has new. all b g (inr has) new) behind f h
  where
    behind : (g : Fact) → Has (effect a held) g → Has facts g
    behind g has = elim (Has-append_cases (filter (λ k. not (removes a k)) held) (adds a) g has) [
      | inl old ↦ before g (Has-filter (λ k. not (removes a k)) held g old).0
      | inr new ↦ all a g (inl refl) new
    ]

pub path_listed : (points : List PathPoint) (facts : List Fact) → ((p : ℕ) → AreListed facts (acts_at points p))
    → (before : List ℕ) (f : Fact) → Has (facts_before points before) f → Has facts f
path_listed points facts all [] f h = absurd h
path_listed points facts all (a ∷ before) f h =
    behind_listed facts (acts_at points a) (facts_before points before) (all a) (path_listed points facts all before) f
    (subst (λ l. Has l f) (facts_behind-append [] (acts_along points before) (acts_at points a)) h)

pub may_hold_listed : (points : List PathPoint) (facts : List Fact) → ((p : ℕ) → AreListed facts (acts_at points p))
    → (p : ℕ) (f : Fact) → MayHold points p f → Has facts f
may_hold_listed points facts all p f h = path_listed points facts all h.before f h.holds
