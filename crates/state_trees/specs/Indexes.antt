-- The index that trees share.
use Rattle.std.specs.Prelude.{List, Option, MatchOption}
use Rattle.std.specs.Rc.{rc_value}
use Rattle.std.specs.declared.rc.Rc.{Rc}
use Rattle.place_names.specs.declared.fact.Fact.{Fact}
use Rattle.state_trees.specs.declared.index.FactIndex.{FactIndex}
use Rattle.state_trees.specs.Concerns.{AreIndexed}

-- Where there is an index, it has the numbers of the facts that concern each object.
abbrev pub IsIndexed : {Z : Type 0} → Option (Rc FactIndex Z) → List Fact → Type 0
IsIndexed index facts = MatchOption index (Unit {0}) (λ rc. AreIndexed (rc_value rc).by_object.entries facts)
