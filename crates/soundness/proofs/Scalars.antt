-- Facts after acts, one list after the other, and the ways of names along steps.
use Rattle.std.proofs.Common.{◌≡◌, refl, ap, ℕ, false, not, List, [], ◌∷◌, ◌++◌, map, filter}
use Rattle.machine.specs.place_names.declared.act.Act.{Act}
use Rattle.machine.specs.place_names.declared.act.Act.TheVariants as act
use Rattle.machine.specs.place_names.declared.act.Placed.{Placed}
use Rattle.machine.specs.place_names.declared.fact.Fact.{Fact}
use Rattle.machine.specs.place_names.Names.{Name as PlaceName}
use Rattle.machine.specs.place_names.Facts.{effect}
use Rattle.soundness.specs.OwnedWays.Ways.{Way, Into, All, Named, after, AllowsAll, number_of}
use Rattle.soundness.specs.OwnedWays.Ways as ways
use Rattle.machine.specs.Evaluate as run
use Rattle.soundness.proofs.Walks.{way_along}

-- ---- lists of acts

pub after_append : (a b : List Act) (facts : List Fact) → after (a ++ b) facts ≡ after b (after a facts)
after_append [] b facts = refl
after_append (x ∷ a) b facts = after_append a b (effect x facts)

pub allows_both : (facts : List Fact) (a b : List Act) → AllowsAll facts (a ++ b) → AllowsAll facts a × AllowsAll (after a facts) b
allows_both facts [] b x = (tt, x)
allows_both facts (a ∷ acts) b x = let rest = allows_both (effect a facts) acts b x.1 in ((x.0, rest.0), rest.1)

abbrev pub acts : List Placed → List Act
acts ps = map (λ (p : Placed). p.act) ps

pub acts_append : (a b : List Placed) → acts (a ++ b) ≡ acts a ++ acts b
acts_append [] b = refl
acts_append (x ∷ a) b = ap (λ z. x.act ∷ z) (acts_append a b)

keep_all : (facts : List Fact) → filter (λ (f : Fact). not false) facts ++ [] ≡ facts
keep_all [] = refl
keep_all (f ∷ facts) = ap (λ z. f ∷ z) (keep_all facts)

pub read_effect : (m : PlaceName) (facts : List Fact) → effect (act.Read m) facts ≡ facts
read_effect m facts = keep_all facts

pub look_effect : (m : PlaceName) (facts : List Fact) → effect (act.Look m) facts ≡ facts
look_effect m facts = keep_all facts

-- ---- ways along steps

pub number_along : (way : List run.Step) (w : Way) → number_of (way_along way w) ≡ number_of w
number_along [] w = refl
number_along (run.ToComponent i ∷ rest) w = number_along rest (Into w (ways.Component i))
number_along (run.ToElement n ∷ rest) w = number_along rest (Into w (ways.Element n))
number_along (run.ToDesignated ∷ rest) w = number_along rest (All w)

pub named_along : (at_home : ℕ → ℕ) (way : List run.Step) (w : Way) → Named at_home w → Named at_home (way_along way w)
named_along at_home [] w n = n
named_along at_home (run.ToComponent i ∷ rest) w n = named_along at_home rest (Into w (ways.Component i)) n
named_along at_home (run.ToElement k ∷ rest) w n = named_along at_home rest (Into w (ways.Element k)) n
named_along at_home (run.ToDesignated ∷ rest) w n = named_along at_home rest (All w) n
